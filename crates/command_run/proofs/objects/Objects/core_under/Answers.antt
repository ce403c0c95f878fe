use Rattle.std.proofs.Common.{◌≡◌, List, None, sym, ap, subst, ◌∙◌}
use Rattle.std.specs.Option.{option_copied}
use Rattle.command_run.specs.NamedCores.{NamedCoreState}
use Rattle.link_commands.specs.NamedLinks.{NamedLink}
use Rattle.command_run.specs.Runs.{ObjectsState, core_under, find_core, place_of}
use Rattle.command_run.proofs.AskedNames.{core_without_link}
use Rattle.command_run.proofs.objects.Objects.core_under.Goals as goal

pub returns-in-None : goal.returns-in-None
returns-in-None c =
    let objects : ObjectsState = record { links = c.self.inside.links.items; cores = c.self.inside.cores.items; images = c.self.inside.images.items; is_quiet = c.self.inside.is_quiet } in
    let none : None ≡ place_of objects.links c.args.name.now =
    c.in-None.ensures.place ∙ ap (λ (links : List NamedLink). place_of links c.args.name.now) c.as_slice.ensures.value in
    subst (λ (o : ObjectsState). option_copied c.find_core.result ≡ core_under o c.args.name.now) c.self.view_is
    (c.find_core.ensures ∙ ap (λ (cores : List NamedCoreState). find_core cores c.args.name.now) c.as_slice-in-None.ensures.value
    ∙ sym (core_without_link objects c.args.name.now none))
