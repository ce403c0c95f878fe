use Rattle.std.proofs.Common.{ℕ, List, Ok, refl, sym, ap, subst, ◌∙◌}
use Rattle.command_run.specs.Starts.{Begins, IsImageOf}
use Rattle.command_run.specs.declared.starts.Beginning.TheVariants as beginning
use Rattle.command_run.proofs.StartEffects.{did_with, did_without, went_on}
use Rattle.command_run.proofs.cores.NamedCore.start.Goals as goal

pub returns-in_ok-tell_start-in-Done-clause-started : goal.returns-in_ok-tell_start-in-Done-clause-started
returns-in_ok-tell_start-in-Done-clause-started g c =
    let told = c.in_ok-tell_start-in-Done in
    let left = c.tell_start.new in
    let begun = subst (Begins c.args.start c.self.inside.core c.begin.new.core) c.in-Done.is c.in_ok-started.ensures in (
      did_without c.args.start c.args.images.now c.self.inside.name c.self.inside.core c.args.self.now c.self.view_is c.start_name-image.result c.start_name-image.ensures
          c.begin.new.core left.self.core c.in-Done.started c.args.log.now left.log told.field-0 told.ensures.effect (g.F.FirmwareStore.images c.args.store.now) begun.0 begun.1,
      refl,
    )

pub returns-in_ok-tell_start-in-NeedsImage-clause-started : goal.returns-in_ok-tell_start-in-NeedsImage-clause-started
returns-in_ok-tell_start-in-NeedsImage-clause-started g c =
    let images = g.F.FirmwareStore.images c.args.store.now in
    let made = c.args.images.now in
    let told = c.in_ok-tell_start-in-NeedsImage in
    let left = c.tell_start-in-NeedsImage.new in
    let found = c.in_ok-found-in-NeedsImage.found in
    let it = subst (λ (called : List ℕ). IsImageOf images made called found) c.bytes.ensures.bytes c.in_ok-found-in-NeedsImage.ensures.told in
    let begun = subst (Begins c.args.start c.self.inside.core c.begin.new.core) c.in-NeedsImage.is c.in_ok-started.ensures in
    let given = c.in_ok-started-in-NeedsImage in (
      did_with c.args.start made c.self.inside.name c.self.inside.core c.args.self.now c.self.view_is c.start_name-image.result c.start_name-image.ensures
          c.go_on.new.core left.self.core given.started c.args.log.now left.log told.field-0 told.ensures.effect images found it begun.1
          (went_on c.args.start c.in-NeedsImage.rest c.self.inside.core c.begin.new.core _ _ _ begun.0 begun.3 (c.image.ensures ∙ it.image) given.ensures),
      c.in_ok-found-in-NeedsImage.ensures.same,
    )
