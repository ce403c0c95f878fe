use Rattle.std.proofs.Common.{◌≡◌, ℕ, List, Option, Some, None, IfNone, sym, ap, ◌∙◌}
use Rattle.command_run.specs.NamedCores.{NamedCoreState}
use Rattle.link_commands.specs.NamedLinks.{NamedLink}
use Rattle.command_run.specs.Runs.{ObjectsState, core_under, core_place, place_of}
use Rattle.command_run.proofs.AskedNames.{core_nowhere}
use Rattle.command_run.proofs.objects.Objects.place_without_link.Goals as goal

nowhere : (objects : ObjectsState) (name : List ℕ) (found : Option ℕ) → None ≡ place_of objects.links name → found ≡ core_place objects.cores name → IfNone found (core_under objects name ≡ None)
nowhere objects name None none is = core_nowhere objects name none (sym is)
nowhere objects name (Some place) none is = tt

pub returns-in-None-clause-none : goal.returns-in-None-clause-none
returns-in-None-clause-none c =
    let objects = c.args.self.now in
    let name = c.args.name.now in
    nowhere objects name c.core_place.result
    (c.in-None.ensures.place ∙ ap (λ (links : List NamedLink). place_of links name) (c.as_slice.ensures.value ∙ ap (λ (o : ObjectsState). o.links) c.self.view_is))
    (c.core_place.ensures.place ∙ ap (λ (cores : List NamedCoreState). core_place cores name) (c.as_slice-in-None.ensures.value ∙ ap (λ (o : ObjectsState). o.cores) c.self.view_is))
