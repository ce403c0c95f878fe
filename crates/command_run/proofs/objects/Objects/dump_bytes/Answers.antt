use Rattle.std.proofs.Common.{◌≡◌, ℕ, Bool, List, Some, Ok, Err, Result, IfOk, MatchResult, ap, sym, subst, ◌∙◌}
use Rattle.std.specs.Option.{option_copied}
use Rattle.journal.specs.declared.events.Event.{Event}
use Rattle.crash_recover.specs.Cores.{CoreState}
use Rattle.command_run.specs.Dumps.{crashed_load, kept_dumps, load_answer}
use Rattle.command_run.specs.NamedCores.{NamedCoreState}
use Rattle.command_run.specs.NamedImages.{ImageState}
use Rattle.command_run.specs.Runs.{ObjectsState, core_under, has_image}
use Rattle.command_run.proofs.FoundDumps.{found_dump}
use Rattle.command_run.proofs.objects.Objects.dump_bytes.Goals as goal

pub returns-in-Some : goal.returns-in-Some
returns-in-Some c =
    let objects : ObjectsState = c.args.self.now in
    let named : NamedCoreState = c.in-Some.named.now in
    let core : CoreState = c.named.inside.core in
    let found : core_under objects c.args.name ≡ Some named = ap (core_under objects) (sym c.bytes-2.ensures.bytes) ∙ sym c.core_under.ensures ∙ ap option_copied c.in-Some.is in
    let taken : c.has_image.result ≡ has_image objects.images c.args.image =
    c.has_image.ensures ∙ ap (has_image c.as_slice.result.now) c.bytes.ensures.bytes
    ∙ ap (λ (images : List ImageState). has_image images c.args.image) (c.as_slice.ensures.value ∙ ap (λ (o : ObjectsState). o.images) c.self.view_is) in
    let kept : c.kept_dumps.result ≡ kept_dumps objects.images =
    c.kept_dumps.ensures ∙ ap kept_dumps (c.as_slice-2.ensures.value ∙ ap (λ (o : ObjectsState). o.images) c.self.view_is) in
    let same : core ≡ named.core = ap (λ (n : NamedCoreState). n.core) c.named.view_is in
    let by_core : load_answer c.has_image.result c.kept_dumps.result c.args.name c.args.image core (crashed_load core.life.state core.loaded)
    ≡ load_answer c.has_image.result c.kept_dumps.result c.args.name c.args.image named.core (crashed_load named.core.life.state named.core.loaded) =
    ap (λ (core : CoreState). load_answer c.has_image.result c.kept_dumps.result c.args.name c.args.image core (crashed_load core.life.state core.loaded)) same in
    let by_taken = ap (λ (taken : Bool). load_answer taken c.kept_dumps.result c.args.name c.args.image named.core (crashed_load named.core.life.state named.core.loaded)) taken in
    let by_kept = ap (λ (kept : ℕ). load_answer (has_image objects.images c.args.image) kept c.args.name c.args.image named.core (crashed_load named.core.life.state named.core.loaded)) kept in
    subst (λ (answer : Result (List ℕ) Event). IfOk c.dump_core.result (λ dumped. MatchResult dumped (λ bytes. answer ≡ Ok bytes.items) (λ told. answer ≡ Err told)))
    (by_core ∙ by_taken ∙ by_kept ∙ sym (found_dump objects c.args.name c.args.image named found))
    c.dump_core.ensures
