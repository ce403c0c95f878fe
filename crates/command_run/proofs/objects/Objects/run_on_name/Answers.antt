use Rattle.std.proofs.Common.{◌≡◌, ◌<◌, ℕ, List, Some, None, Err, IfOk, length, slice_get, slice_set, refl, ap, subst, ◌∙◌}
use Rattle.std.proofs.lemmas.Option.{slice_get_read}
use Rattle.std.proofs.lemmas.Result.{IfOk-weaker}
use Rattle.rp_io.specs.declared.faults.NoImage.TheVariants as no_image
use Rattle.link_commands.specs.declared.acts.NamedAct.{NamedAct}
use Rattle.link_commands.specs.NamedLinks.{NamedLink}
use Rattle.link_commands.specs.LinkCommands.{link_effect}
use Rattle.link_commands.specs.Acts.{bare_named_act}
use Rattle.link_commands.specs.Logs.{HasEffect}
use Rattle.command_run.specs.NamedCores.{NamedCoreState}
use Rattle.command_run.specs.NamedImages.{ImageState}
use Rattle.command_run.specs.CoreCommands.{core_effect}
use Rattle.command_run.specs.Outcomes.{HasCoreEffect, HasRunEffect}
use Rattle.command_run.specs.Runs.{ObjectsState, RunState, core_place, name_effect, place_of, unnamed_effect}
use Rattle.command_run.proofs.Placing.{core_run, nameless_run, placed_run, unnamed_run}
use Rattle.command_run.proofs.objects.Objects.run_on_name.Goals as goal

pub returns-in-Some : goal.returns-in-Some
returns-in-Some c =
    let items = c.self.inside.links.items in
    let place = c.in-Some.place in
    let named = c.index_mut.result.now in
    let placed : Some place ≡ place_of items c.args.name =
    c.in-Some.ensures.place ∙ ap (λ (links : List NamedLink). place_of links c.bytes.result.now) c.as_slice.ensures.value
    ∙ ap (place_of items) c.bytes.ensures.bytes in
    let found : slice_get items place ≡ Some named =
    slice_get_read items (length items) place named refl (subst (λ (links : List NamedLink). place < length links) c.as_slice.ensures.value c.in-Some.ensures.within) c.index_mut.ensures.value in
    let images = c.self.inside.images.items in
    let is_quiet = c.self.inside.is_quiet in
    let run : RunState = record { objects = record { links = items; cores = c.self.inside.cores.items; images = images; is_quiet = is_quiet }; steps = c.args.log.now.steps } in
    subst (λ (objects : ObjectsState). IfOk c.run.result (λ ending.
    HasRunEffect (name_effect (Err no_image.Missing) (record { objects = objects; steps = c.args.log.now.steps }) c.args.name (bare_named_act (λ bytes. bytes.now) c.args.act.now)) (record { links = slice_set items place c.run.new.self; cores = c.self.inside.cores.items; images = images; is_quiet = is_quiet })
    c.args.log.now c.run.new.log ending))
    c.self.view_is
    (IfOk-weaker c.run.result
    (λ ending. HasEffect (link_effect named c.args.log.now.steps (bare_named_act (λ bytes. bytes.now) c.args.act.now)) c.run.new.self.bench c.args.log.now c.run.new.log ending)
    (λ ending. HasRunEffect (name_effect (Err no_image.Missing) run c.args.name (bare_named_act (λ bytes. bytes.now) c.args.act.now)) (record { links = slice_set items place c.run.new.self; cores = c.self.inside.cores.items; images = images; is_quiet = is_quiet }) c.args.log.now c.run.new.log ending)
    (λ ending did. placed_run (Err no_image.Missing) run c.args.name (bare_named_act (λ bytes. bytes.now) c.args.act.now) c.args.log.now c.run.new.log ending place named c.run.new.self placed found c.run.ensures.name did)
    c.run.ensures.effect)

pub returns-in-Some-core_place : goal.returns-in-Some-core_place
returns-in-Some-core_place c =
    let items = c.self.inside.cores.items in
    let links = c.self.inside.links.items in
    let images = c.self.inside.images.items in
    let is_quiet = c.self.inside.is_quiet in
    let log = c.args.log.now in
    let act : NamedAct (List ℕ) = bare_named_act (λ bytes. bytes.now) c.args.act.now in
    let place = c.in-Some-core_place.place in
    let named = c.index_mut-in-Some-core_place.result.now in
    let ran = c.run-in-Some-core_place in
    let none : None ≡ place_of links c.args.name =
    c.in-None.ensures.place ∙ ap (λ (l : List NamedLink). place_of l c.bytes.result.now) c.as_slice.ensures.value ∙ ap (place_of links) c.bytes.ensures.bytes in
    let placed : Some place ≡ core_place items c.args.name =
    c.in-Some-core_place.ensures.place ∙ ap (λ (cores : List NamedCoreState). core_place cores c.bytes-in-None.result.now) c.as_slice-in-None.ensures.value
    ∙ ap (core_place items) c.bytes-in-None.ensures.bytes in
    let found : slice_get items place ≡ Some named =
    slice_get_read items (length items) place named refl (subst (λ (cores : List NamedCoreState). place < length cores) c.as_slice-in-None.ensures.value c.in-Some-core_place.ensures.within)
    c.index_mut-in-Some-core_place.ensures.value in
    let run : RunState = record { objects = record { links = links; cores = items; images = images; is_quiet = is_quiet }; steps = log.steps } in
    let left : ObjectsState = record { links = links; cores = slice_set items place ran.new.self; images = images; is_quiet = is_quiet } in
    subst (λ (objects : ObjectsState). IfOk ran.result (λ ending.
    HasRunEffect (name_effect (Err no_image.Missing) (record { objects = objects; steps = log.steps }) c.args.name act) left log ran.new.log ending))
    c.self.view_is
    (IfOk-weaker ran.result
    (λ ending. HasCoreEffect (core_effect images (Err no_image.Missing) is_quiet named log.steps act) ran.new.self.core log ran.new.log ending)
    (λ ending. HasRunEffect (name_effect (Err no_image.Missing) run c.args.name act) left log ran.new.log ending)
    (λ ending did. unnamed_run (Err no_image.Missing) run c.args.name act log ran.new.log ending left none
    (core_run (Err no_image.Missing) run c.args.name act log ran.new.log ending place named ran.new.self placed found ran.ensures.name did))
    (subst (λ (made : List ImageState). IfOk ran.result (λ ending. HasCoreEffect (core_effect made (Err no_image.Missing) is_quiet named log.steps act) ran.new.self.core log ran.new.log ending))
    c.as_slice-images.ensures.value ran.ensures.effect))

pub returns-in-None-core_place : goal.returns-in-None-core_place
returns-in-None-core_place c =
    let objects = c.args.self.now in
    let run : RunState = record { objects = objects; steps = c.args.log.now.steps } in
    let act : NamedAct (List ℕ) = bare_named_act (λ bytes. bytes.now) c.args.act.now in
    let none : None ≡ place_of objects.links c.args.name =
    c.in-None.ensures.place ∙ ap (λ (links : List NamedLink). place_of links c.bytes.result.now) c.as_slice.ensures.value
    ∙ ap (λ (o : ObjectsState). place_of o.links c.bytes.result.now) c.self.view_is
    ∙ ap (place_of objects.links) c.bytes.ensures.bytes in
    let nobody : None ≡ core_place objects.cores c.args.name =
    c.in-None-core_place.ensures.place ∙ ap (λ (cores : List NamedCoreState). core_place cores c.bytes-in-None.result.now) c.as_slice-in-None.ensures.value
    ∙ ap (λ (o : ObjectsState). core_place o.cores c.bytes-in-None.result.now) c.self.view_is
    ∙ ap (core_place objects.cores) c.bytes-in-None.ensures.bytes in
    IfOk-weaker c.run_on_new_name.result
    (λ ending. HasRunEffect (unnamed_effect run c.args.name act) c.run_on_new_name.new.self c.args.log.now c.run_on_new_name.new.log ending)
    (λ ending. HasRunEffect (name_effect (Err no_image.Missing) run c.args.name act) c.run_on_new_name.new.self c.args.log.now c.run_on_new_name.new.log ending)
    (λ ending did. unnamed_run (Err no_image.Missing) run c.args.name act c.args.log.now c.run_on_new_name.new.log ending c.run_on_new_name.new.self none
    (nameless_run (Err no_image.Missing) run c.args.name act c.args.log.now c.run_on_new_name.new.log ending c.run_on_new_name.new.self nobody did))
    c.run_on_new_name.ensures
