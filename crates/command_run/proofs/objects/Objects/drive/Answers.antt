use Rattle.std.proofs.Common.{◌≡◌, ◌<◌, ◌++◌, ℕ, List, Option, Some, None, Ok, Err, IfOk, IfErr, IfSome, Result, length, slice_get, slice_set, refl, sym, ap, subst, ◌∙◌}
use Rattle.std.proofs.lemmas.Option.{slice_get_read}
use Rattle.std.proofs.lemmas.Result.{IfOk-weaker, err_from_is_err_and}
use Rattle.rp_io.specs.declared.faults.NoImage.TheVariants as no_image
use Rattle.journal.specs.declared.events.Event.{Event}
use Rattle.journal.specs.Lines.{transcript}
use Rattle.link_commands.specs.declared.acts.CoreAct.TheVariants as core
use Rattle.link_commands.specs.declared.acts.NamedAct.TheVariants as under
use Rattle.link_commands.specs.declared.stops.Stop.{Stop}
use Rattle.command_run.specs.declared.faults.OutputFault.{OutputFault}
use Rattle.command_run.specs.declared.faults.OutputFault.TheVariants as output_fault
use Rattle.command_run.specs.CoreDrives.{drive_effect}
use Rattle.command_run.specs.Fetches.{EndsCut, IfSinkFailed, KeepsDriven, drive_line}
use Rattle.run_log.specs.Logs.{KeepsLess}
use Rattle.command_run.specs.Outcomes.{CutsCore, CutsRun, HandsCoreEffect, HandsRunEffect, KeepsWhole}
use Rattle.command_run.specs.NamedCores.{NamedCoreState}
use Rattle.command_run.specs.Runs.{ObjectsState, RunEffect, RunState, core_under, core_place, line_effect, name_effect, place_of}
use Rattle.command_run.proofs.HandedLines.{front_of_none, no_write}
use Rattle.command_run.proofs.Placing.{drive_cut, drive_keeps, drive_placed, drive_run, kept_run}
use Rattle.command_run.proofs.objects.Objects.drive.Goals as goal

-- where a drive of a core was cut off, so is what holds of it
cut_so : (result : Result (Option Stop) OutputFault) (First Second : Type 0) → (First → Second) → IfErr result (λ why. IfSinkFailed why First) → IfErr result (λ why. IfSinkFailed why Second)
cut_so (Ok answer) First Second so cut = cut
cut_so (Err output_fault.Failed) First Second so cut = so cut
cut_so (Err output_fault.NoMemory) First Second so cut = cut

pub returns-in-Some : goal.returns-in-Some
returns-in-Some g c =
    let sink = g.K.Sink in
    let items = c.self.inside.cores.items in
    let links = c.self.inside.links.items in
    let images = c.self.inside.images.items in
    let is_quiet = c.self.inside.is_quiet in
    let place = c.in-Some.place in
    let named = c.index_mut.result.now in
    let log = c.args.log.now in
    let run : RunState = record { objects = record { links = links; cores = items; images = images; is_quiet = is_quiet }; steps = log.steps } in
    let placed : Some place ≡ core_place items c.args.name =
    c.in-Some.ensures.core ∙ ap (λ (o : ObjectsState). core_place o.cores c.bytes.result.now) (sym c.self.view_is) ∙ ap (core_place items) c.bytes.ensures.bytes in
    let bare : None ≡ place_of links c.args.name =
    c.in-Some.ensures.link ∙ ap (λ (o : ObjectsState). place_of o.links c.bytes.result.now) (sym c.self.view_is) ∙ ap (place_of links) c.bytes.ensures.bytes in
    let found : slice_get items place ≡ Some named =
    slice_get_read items (length items) place named refl (subst (λ (o : ObjectsState). place < length o.cores) (sym c.self.view_is) c.in-Some.ensures.within) c.index_mut.ensures.value in
    let now = c.drive_handing.new.self in
    let did : (objects : ObjectsState) → Option Stop → Type 0 = λ objects ending.
    HandsRunEffect (name_effect (Err no_image.Missing) (record { objects = objects; steps = log.steps }) c.args.name (under.Core (core.Drive c.args.count)))
    (record { links = links; cores = slice_set items place c.drive_handing.new.self; images = images; is_quiet = is_quiet }) log c.drive_handing.new.log (sink.written c.args.out.now) (sink.written c.drive_handing.new.out) ending in
    let cut : List Event → Type 0 = λ events. IfErr c.drive_handing.result (λ why. EndsCut why (log.lines ++ transcript events)
    (sink.written c.args.out.now) (sink.written c.drive_handing.new.out) (sink.faults c.args.out.now) (sink.faults c.drive_handing.new.out)) in
    let left : ObjectsState = record { links = links; cores = slice_set items place now; images = images; is_quiet = is_quiet } in
    let written = sink.written c.args.out.now in
    let after = sink.written c.drive_handing.new.out in
    let cuts : ObjectsState → Type 0 = λ objects.
    CutsRun (λ done. name_effect (Err no_image.Missing) (record { objects = objects; steps = log.steps }) c.args.name (under.Core (core.Drive done))) c.args.count left log.lines written after in
    record {
      effect =
          subst (λ (objects : ObjectsState). IfOk c.drive_handing.result (did objects)) c.self.view_is
          (IfOk-weaker c.drive_handing.result
          (λ ending. HandsCoreEffect (drive_effect named.name is_quiet named.core log.steps c.args.count) c.drive_handing.new.self.core log c.drive_handing.new.log (sink.written c.args.out.now) (sink.written c.drive_handing.new.out) ending)
          (did run.objects)
          (λ ending has. drive_run (Err no_image.Missing) run c.args.name c.args.count place named bare placed found log c.drive_handing.new.log (sink.written c.args.out.now) (sink.written c.drive_handing.new.out)
          ending c.drive_handing.new.self c.drive_handing.ensures.name has)
          c.drive_handing.ensures.effect);
      same = c.drive_handing.ensures.same;
      cut =
          subst (λ (objects : ObjectsState). cut (name_effect (Err no_image.Missing) (record { objects = objects; steps = log.steps }) c.args.name (under.Core (core.Drive c.args.count))).events) c.self.view_is
          (subst cut (sym (ap (λ (e : RunEffect). e.events) (drive_placed (Err no_image.Missing) run c.args.name c.args.count place named bare placed found))) c.drive_handing.ensures.cut);
      paused =
          subst (λ (objects : ObjectsState). IfErr c.drive_handing.result (λ why. IfSinkFailed why (cuts objects))) c.self.view_is
          (cut_so c.drive_handing.result (CutsCore (λ done. drive_effect named.name is_quiet named.core log.steps done) c.args.count now.core log.lines written after) (cuts run.objects)
          (drive_cut (Err no_image.Missing) run c.args.name c.args.count place named now log.lines written after bare placed found c.drive_handing.ensures.name)
          c.drive_handing.ensures.paused);
      less =
          subst (λ (objects : ObjectsState). IfOk c.drive_handing.result (λ _. KeepsDriven (record { objects = objects; steps = log.steps }) c.args.name c.args.count log c.drive_handing.new.log.lines)) c.self.view_is
          (IfOk-weaker c.drive_handing.result (λ _. KeepsLess log → KeepsWhole (λ done. (drive_effect named.name is_quiet named.core log.steps done).events) c.args.count c.drive_handing.new.log.lines)
          (λ _. KeepsDriven run c.args.name c.args.count log c.drive_handing.new.log.lines)
          (λ ending keeps. drive_keeps run c.args.name c.args.count place named log c.drive_handing.new.log.lines bare placed found keeps)
          c.drive_handing.ensures.less);
    }

pub returns-in_err-run_on_name-in-None-clause-cut : goal.returns-in_err-run_on_name-in-None-clause-cut
returns-in_err-run_on_name-in-None-clause-cut g c =
    let sink = g.K.Sink in
    let now = sink.written c.args.out.now in
    let found = err_from_is_err_and c.from_residual.result c.from_residual.ensures.1 in
    let text = c.args.log.now.lines ++ transcript (name_effect (Err no_image.Missing) (record { objects = c.args.self.now; steps = c.args.log.now.steps }) c.args.name (under.Core (core.Drive c.args.count))).events in
    subst (λ (r : Result (Option Stop) OutputFault). IfErr r (λ why. EndsCut why text now now (sink.faults c.args.out.now) (sink.faults c.args.out.now)))
    (sym (found.1 ∙ ap (λ (why : OutputFault). Err why) found.2)) (front_of_none now text, refl)

pub returns-in_ok-run_on_name-in-None-clause-effect : goal.returns-in_ok-run_on_name-in-None-clause-effect
returns-in_ok-run_on_name-in-None-clause-effect g c =
    let effect = name_effect (Err no_image.Missing) (record { objects = c.args.self.now; steps = c.args.log.now.steps }) c.args.name (under.Core (core.Drive c.args.count)) in
    kept_run effect c.run_on_name.new.self c.args.log.now c.run_on_name.new.log (g.K.Sink.written c.args.out.now) c.in_ok-run_on_name-in-None.field-0 c.in_ok-run_on_name-in-None.ensures

pub returns-in_err-run_on_name-in-None-clause-paused : goal.returns-in_err-run_on_name-in-None-clause-paused
returns-in_err-run_on_name-in-None-clause-paused g c =
    let found = err_from_is_err_and c.from_residual.result c.from_residual.ensures.1 in
    no_write (Option Stop) _ c.from_residual.result (found.1 ∙ ap (λ (why : OutputFault). Err why) found.2)

pub returns-in_ok-run_on_name-in-None-clause-less : goal.returns-in_ok-run_on_name-in-None-clause-less
returns-in_ok-run_on_name-in-None-clause-less g c =
    let none : core_under c.args.self.now c.args.name ≡ None = ap (core_under c.args.self.now) (sym c.bytes.ensures.bytes) ∙ c.in-None.ensures.none in
    let events : ℕ → List Event = λ done. (line_effect (Err no_image.Missing) (record { objects = c.args.self.now; steps = c.args.log.now.steps }) (drive_line c.args.name done)).events in
    subst (λ (found : Option NamedCoreState). IfSome found (λ _. KeepsLess c.args.log.now → KeepsWhole events c.args.count c.run_on_name.new.log.lines)) (sym none) tt
