use Rattle.std.proofs.Common.{Err, ap, subst, ◌∙◌}
use Rattle.rp_io.specs.declared.faults.NoImage.TheVariants as no_image
use Rattle.command_run.specs.CoreLives.{found_image}
use Rattle.command_run.specs.Starts.{Begins}
use Rattle.command_run.proofs.StartEffects.{did_over, went_on}
use Rattle.command_run.proofs.cores.NamedCore.start_without_store.Goals as goal

pub returns-in_ok-tell_start-in-Done-clause-effect : goal.returns-in_ok-tell_start-in-Done-clause-effect
returns-in_ok-tell_start-in-Done-clause-effect c =
    let made = c.args.images.now in
    let told = c.in_ok-tell_start-in-Done in
    let left = c.tell_start.new in
    let begun = subst (Begins c.args.start c.self.inside.core c.begin.new.core) c.in-Done.is c.in_ok-started.ensures in
    did_over c.args.start made c.self.inside.name c.self.inside.core c.args.self.now c.self.view_is c.start_name-image.result c.start_name-image.ensures
    c.begin.new.core left.self.core c.in-Done.started c.args.log.now left.log told.field-0 told.ensures.effect
    (Err no_image.Missing) (begun.1 (found_image made (Err no_image.Missing) c.start_name-image.result))

pub returns-in_ok-tell_start-in-NeedsImage-clause-effect : goal.returns-in_ok-tell_start-in-NeedsImage-clause-effect
returns-in_ok-tell_start-in-NeedsImage-clause-effect c =
    let made = c.args.images.now in
    let told = c.in_ok-tell_start-in-NeedsImage in
    let left = c.tell_start-in-NeedsImage.new in
    let begun = subst (Begins c.args.start c.self.inside.core c.begin.new.core) c.in-NeedsImage.is c.in_ok-started.ensures in
    let given = c.in_ok-started-in-NeedsImage in
    did_over c.args.start made c.self.inside.name c.self.inside.core c.args.self.now c.self.view_is c.start_name-image.result c.start_name-image.ensures
    c.go_on.new.core left.self.core given.started c.args.log.now left.log told.field-0 told.ensures.effect
    (Err no_image.Missing)
    (went_on c.args.start c.in-NeedsImage.rest c.self.inside.core c.begin.new.core _ _ _ begun.0 begun.3
    (c.image.ensures ∙ c.script_image-found.ensures ∙ ap (found_image made (Err no_image.Missing)) c.bytes.ensures.bytes) given.ensures)
