use Rattle.std.proofs.Common.{◌≡◌, ◌<◌, List, Some, None, length, slice_get, slice_set, refl, sym, ap, subst, ◌∙◌}
use Rattle.std.specs.Result.{result_map_both}
use Rattle.std.proofs.lemmas.Option.{slice_get_read}
use Rattle.command_run.specs.Faults.{store_command_fault}
use Rattle.command_run.specs.Fetches.{RunsTold}
use Rattle.command_run.specs.NamedImages.{ImageState}
use Rattle.command_run.specs.Runs.{ObjectsState, RunState, core_under, act_asks, core_place, place_of, start_image}
use Rattle.command_run.specs.Starts.{StartsOver}
use Rattle.link_commands.specs.declared.acts.CoreAct.TheVariants as core
use Rattle.command_run.proofs.AskedNames.{core_at_place}
use Rattle.command_run.proofs.StartEffects.{nobody_told, start_told}
use Rattle.command_run.proofs.objects.Objects.start.Goals as goal

pub returns-in-Some-clause-told : goal.returns-in-Some-clause-told
returns-in-Some-clause-told g c = λ asking written faults asks.
    let store = g.F.FirmwareStore in
    let items = c.self.inside.cores.items in
    let links = c.self.inside.links.items in
    let images = c.self.inside.images.items in
    let is_quiet = c.self.inside.is_quiet in
    let place = c.in-Some.place in
    let named = c.index_mut.result.now in
    let now = c.start.new.self in
    let log = c.args.log.now in
    let held = store.images c.args.store.now in
    let was = store.faults c.args.store.now in
    let then = store.faults c.start.new.store in
    let run : RunState = record { objects = record { links = links; cores = items; images = images; is_quiet = is_quiet }; steps = log.steps } in
    let placed : Some place ≡ core_place items c.args.name =
    c.in-Some.ensures.core ∙ ap (λ (o : ObjectsState). core_place o.cores c.bytes.result.now) (sym c.self.view_is) ∙ ap (core_place items) c.bytes.ensures.bytes in
    let bare : None ≡ place_of links c.args.name =
    c.in-Some.ensures.link ∙ ap (λ (o : ObjectsState). place_of o.links c.bytes.result.now) (sym c.self.view_is) ∙ ap (place_of links) c.bytes.ensures.bytes in
    let found : slice_get items place ≡ Some named =
    slice_get_read items (length items) place named refl (subst (λ (o : ObjectsState). place < length o.cores) (sym c.self.view_is) c.in-Some.ensures.within) c.index_mut.ensures.value in
    let left : ObjectsState = record { links = links; cores = slice_set items place now; images = images; is_quiet = is_quiet } in
    subst (λ (objects : ObjectsState). RunsTold (result_map_both (λ ending. ending) store_command_fault c.start.result) held (record { objects = objects; steps = log.steps }) asking left log c.start.new.log
    written written faults faults was then) c.self.view_is
    (start_told held run asking c.args.name c.args.start asks log c.start.new.log written faults was then place named now bare placed found c.start.ensures.name refl c.start.result
    (subst (λ (made : List ImageState). StartsOver c.start.result held c.args.start made named now.core log c.start.new.log was then) c.as_slice-images.ensures.value c.start.ensures.started))

pub returns-in-Some-clause-unasked : goal.returns-in-Some-clause-unasked
returns-in-Some-clause-unasked g c = λ unasked.
    let store = g.F.FirmwareStore in
    let items = c.self.inside.cores.items in
    let links = c.self.inside.links.items in
    let images = c.self.inside.images.items in
    let is_quiet = c.self.inside.is_quiet in
    let place = c.in-Some.place in
    let named = c.index_mut.result.now in
    let log = c.args.log.now in
    let run : RunState = record { objects = record { links = links; cores = items; images = images; is_quiet = is_quiet }; steps = log.steps } in
    let placed : Some place ≡ core_place items c.args.name =
    c.in-Some.ensures.core ∙ ap (λ (o : ObjectsState). core_place o.cores c.bytes.result.now) (sym c.self.view_is) ∙ ap (core_place items) c.bytes.ensures.bytes in
    let bare : None ≡ place_of links c.args.name =
    c.in-Some.ensures.link ∙ ap (λ (o : ObjectsState). place_of o.links c.bytes.result.now) (sym c.self.view_is) ∙ ap (place_of links) c.bytes.ensures.bytes in
    let found : slice_get items place ≡ Some named =
    slice_get_read items (length items) place named refl (subst (λ (o : ObjectsState). place < length o.cores) (sym c.self.view_is) c.in-Some.ensures.within) c.index_mut.ensures.value in
    c.start.ensures.unasked (subst (λ (made : List ImageState). start_image c.args.start made (Some named) ≡ None) (sym c.as_slice-images.ensures.value)
    (sym (ap (start_image c.args.start images) (core_at_place run.objects c.args.name place named bare placed found))
    ∙ subst (λ (objects : ObjectsState). act_asks objects (Some (c.args.name, core.Start c.args.start)) ≡ None) (sym c.self.view_is) unasked))

pub returns-in_ok-run_on_name-in-None-clause-told : goal.returns-in_ok-run_on_name-in-None-clause-told
returns-in_ok-run_on_name-in-None-clause-told g c = λ asking written faults asks.
    let store = g.F.FirmwareStore in
    let log = c.args.log.now in
    let objects = c.args.self.now in
    let run : RunState = record { objects = objects; steps = log.steps } in
    let was = store.faults c.args.store.now in
    let told = c.in_ok-run_on_name-in-None in
    let after = c.run_on_name.new in
    nobody_told (store.images c.args.store.now) run asking c.args.name c.args.start asks log after.log written faults was was after.self told.field-0
    (sym (ap (core_under objects) c.bytes.ensures.bytes) ∙ c.in-None.ensures.none) refl
    told.ensures
