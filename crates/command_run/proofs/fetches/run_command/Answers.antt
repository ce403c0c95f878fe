use Rattle.std.proofs.Common.{◌≡◌, ◌≢◌, Bool, true, false, true≢false, ◌++◌, ℕ, List, Option, None, Some, IfOk, IfErr, Result, Ok, Err, refl, sym, ap, subst, ◌∙◌}
use Rattle.std.specs.Prelude.{OnOk}
use Rattle.std.specs.Result.{result_map_both}
use Rattle.std.proofs.lemmas.Option.{none-some, same_Some}
use Rattle.std.proofs.lemmas.Result.{err_from_is_err_and}
use Rattle.rp_io.specs.Images.{IsToldFor}
use Rattle.journal.specs.Lines.{transcript}
use Rattle.rp_io.specs.declared.faults.NoImage.TheVariants as no_image
use Rattle.script_lang.specs.declared.commands.Command.{Command}
use Rattle.script_lang.specs.declared.recipes.RecipeLine.{RecipeLine}
use Rattle.link_commands.specs.Acts.{line_of}
use Rattle.link_commands.specs.declared.acts.CoreAct.{CoreAct}
use Rattle.link_commands.specs.declared.acts.CoreAct.TheVariants as core
use Rattle.link_commands.specs.declared.acts.StartAct.{StartAct}
use Rattle.link_commands.specs.declared.acts.Line.{Line}
use Rattle.link_commands.specs.declared.acts.Line.TheVariants as line
use Rattle.link_commands.specs.declared.acts.NamedAct.TheVariants as under
use Rattle.command_run.specs.declared.faults.CommandFault.{CommandFault}
use Rattle.command_run.specs.declared.faults.OutputFault.{OutputFault}
use Rattle.command_run.specs.declared.faults.OutputFault.TheVariants as output_fault
use Rattle.link_commands.specs.declared.stops.Stop.{Stop}
use Rattle.run_log.specs.Logs.{LogState}
use Rattle.command_run.specs.Outcomes.{CutsRun, HandsRunEffect, HasRunEffect}
use Rattle.command_run.specs.Faults.{output_command_fault}
use Rattle.command_run.specs.Fetches.{DidTold, EndsCut, IfSinkFailed, KeepsDrive, KeepsDriven, RunsTold, drive_line}
use Rattle.command_run.specs.Runs.{ObjectsState, RunEffect, RunState, act_asks, asked_name, core_act, effect_of, line_effect, name_effect}
use Rattle.command_run.specs.Stores.{Shelf, answer_for}
use Rattle.command_run.proofs.Shelves.{shelf_of}
use Rattle.command_run.proofs.StartEffects.{core_line, on_core, told_run}
use Rattle.command_run.proofs.fetches.run_command.Goals as goal

module _ (run : RunState) (asking : Command) (name : List ℕ) (count : ℕ) (drives : core_act (line_of asking) ≡ Some (name, core.Drive count)) where
  -- a drive asks the store for nothing
  asks_nothing : asked_name run.objects asking ≡ None
  asks_nothing = ap (act_asks run.objects) drives

  drive_whole : (shelf : Shelf) → effect_of (answer_for shelf (asked_name run.objects asking)) run asking ≡ name_effect (Err no_image.Missing) run name (under.Core (core.Drive count))
  drive_whole shelf =
      ap (λ (asked : Option (List ℕ)). effect_of (answer_for shelf asked) run asking) asks_nothing ∙ core_line (Err no_image.Missing) run asking name (core.Drive count) drives

  -- so it does the same whatever the store has
  drive_told : (images : Option (List (List ℕ × List ℕ))) (left : ObjectsState) (before after : LogState) (old new : Option (List ℕ)) (faults now was : ℕ) (result : Result (Option Stop) OutputFault)
      → IfOk result (λ ending. HandsRunEffect (name_effect (Err no_image.Missing) run name (under.Core (core.Drive count))) left before after old new ending) → OnOk result (now ≡ faults)
      → IfErr result (λ why. EndsCut why (before.lines ++ transcript (name_effect (Err no_image.Missing) run name (under.Core (core.Drive count))).events) old new faults now)
      → IfErr result (λ why. IfSinkFailed why (CutsRun (λ done. name_effect (Err no_image.Missing) run name (under.Core (core.Drive done))) count left before.lines old new))
      → RunsTold (result_map_both (λ ending. ending) output_command_fault result) images run asking left before after old new faults now was was
  drive_told images left before after old new faults now was (Ok answer) did same cut paused =
      let shelf = shelf_of images (asked_name run.objects asking) (Err no_image.Missing)
      (subst (λ (asked : Option (List ℕ)). IsToldFor images asked (Err no_image.Missing)) (sym asks_nothing) refl) in
      (record { shelf = shelf.0; is = shelf.1; did = subst (λ (e : RunEffect). HandsRunEffect e left before after old new answer) (sym (drive_whole shelf.0)) did }, same, refl)
  drive_told images left before after old new faults now was (Err output_fault.Failed) did same cut paused = (
    (λ shelf. subst (λ (e : RunEffect). EndsCut output_fault.Failed (before.lines ++ transcript e.events) old new faults now) (sym (drive_whole shelf)) cut),
    refl,
    record { name = name; count = count; is = on_core (line_of asking) name (core.Drive count) drives; cut = paused },
  )
  drive_told images left before after old new faults now was (Err output_fault.NoMemory) did same cut paused =
      ((λ shelf. subst (λ (e : RunEffect). EndsCut output_fault.NoMemory (before.lines ++ transcript e.events) old new faults now) (sym (drive_whole shelf)) cut), refl)

-- what a command is about did what it does, which asks the store for nothing
told_line : (images : Option (List (List ℕ × List ℕ))) (run : RunState) (asking : Command) (about : Line (List RecipeLine) (List ℕ)) (left : ObjectsState) (before after : LogState) (written : Option (List ℕ)) (ending : Option Stop)
    → about ≡ line_of asking → asked_name run.objects asking ≡ None → HasRunEffect (line_effect (Err no_image.Missing) run about) left before after ending
    → DidTold images run asking left before after written written ending
unfolding effect_of
told_line images run asking about left before after written ending is none did =
    told_run images run asking left before after written ending (Err no_image.Missing)
    (subst (λ (name : Option (List ℕ)). IsToldFor images name (Err no_image.Missing)) (sym none) refl)
    (subst (λ (about : Line (List RecipeLine) (List ℕ)). HasRunEffect (line_effect (Err no_image.Missing) run about) left before after ending) is did)

-- a drive is told from the other acts on a core
abbrev is_drive : CoreAct → Bool
is_drive (core.Drive count) = true
is_drive other = false

-- an act on a core that is no start asks the store for nothing
no_start : (objects : ObjectsState) (name : List ℕ) (act : CoreAct) → ((start : StartAct) → act ≢ core.Start start) → act_asks objects (Some (name, act)) ≡ None
no_start objects name (core.Region region) other = refl
no_start objects name (core.Driver channel kind) other = refl
no_start objects name (core.Start start) other = absurd (other start refl)
no_start objects name core.Shutdown other = refl
no_start objects name core.Detach other = refl
no_start objects name (core.Show shown) other = refl
no_start objects name (core.Crash kind) other = refl
no_start objects name (core.Recovery set) other = refl
no_start objects name (core.Drive count) other = refl

-- a command that is about this act on a core, and a drive
same_act : (asked : Command) (found : List ℕ × CoreAct) (name : List ℕ) (count : ℕ) → Some found ≡ core_act (line_of asked) → line_of asked ≡ drive_line name count → found ≡ (name, core.Drive count)
same_act asked found name count is drives = same_Some found (name, core.Drive count) (is ∙ ap core_act drives)

-- what is kept behind what a command is about, if that is a drive
abbrev Keeping : RunState → LogState → List ℕ → Line (List RecipeLine) (List ℕ) → Type 0
Keeping run before lines (line.On name (under.Core (core.Drive count))) = KeepsDriven run name count before lines
Keeping run before lines other = Unit {0}

drive_kept : (run : RunState) (before : LogState) (lines : List ℕ) (asked : Command) (name : List ℕ) (count : ℕ) → line_of asked ≡ drive_line name count → KeepsDriven run name count before lines → KeepsDrive run asked before lines
drive_kept run before lines asked name count is keeps other more same = subst (Keeping run before lines) (sym is ∙ same) keeps

pub returns-in_ok-drive-in-Drive-clause-less : goal.returns-in_ok-drive-in-Drive-clause-less
returns-in_ok-drive-in-Drive-clause-less g c =
    let run : RunState = record { objects = c.args.objects.now; steps = c.args.log.now.steps } in
    let asked = c.args.command.now in
    let found : List ℕ × CoreAct = c.in-Some.name-1-given.0.0 in
    let count = c.in-Drive.count in
    let drives : core_act (line_of asked) ≡ Some (found.0, core.Drive count) = sym (c.in-Some.ensures ∙ ap core_act c.line_of-line.ensures.line) ∙ ap (λ (act : CoreAct). Some (found.0, act)) c.in-Drive.is in
    drive_kept run c.args.log.now c.drive.new.log.lines asked found.0 count (on_core (line_of asked) found.0 (core.Drive count) drives) c.in_ok-drive-in-Drive.ensures.less

pub returns-in_ok-drive-in-Drive-clause-effect : goal.returns-in_ok-drive-in-Drive-clause-effect
returns-in_ok-drive-in-Drive-clause-effect g c =
    let store = g.F.FirmwareStore in
    let sink = g.K.Sink in
    let run : RunState = record { objects = c.args.objects.now; steps = c.args.log.now.steps } in
    let found : List ℕ × CoreAct = c.in-Some.name-1-given.0.0 in
    let told = c.in_ok-drive-in-Drive in
    drive_told run c.args.command.now found.0 c.in-Drive.count (sym (c.in-Some.ensures ∙ ap core_act c.line_of-line.ensures.line) ∙ ap (λ (act : CoreAct). Some (found.0, act)) c.in-Drive.is)
    (store.images c.args.store.now) c.drive.new.self c.args.log.now c.drive.new.log (sink.written c.args.out.now) (sink.written c.drive.new.out)
    (sink.faults c.args.out.now) (sink.faults c.drive.new.out) (store.faults c.args.store.now) (Ok told.field-0) told.ensures.effect told.ensures.same tt tt

pub returns-in_err-drive-in-Drive-clause-effect : goal.returns-in_err-drive-in-Drive-clause-effect
returns-in_err-drive-in-Drive-clause-effect g c =
    let store = g.F.FirmwareStore in
    let sink = g.K.Sink in
    let run : RunState = record { objects = c.args.objects.now; steps = c.args.log.now.steps } in
    let held = store.images c.args.store.now in
    let asked = c.args.command.now in
    let found : List ℕ × CoreAct = c.in-Some.name-1-given.0.0 in
    let cut = c.in_err-drive-in-Drive in
    let answer = err_from_is_err_and c.from_residual.result c.from_residual.ensures.1 in
    subst (λ (r : Result (Option Stop) CommandFault). RunsTold r held run asked c.drive.new.self c.args.log.now c.drive.new.log (sink.written c.args.out.now) (sink.written c.drive.new.out)
    (sink.faults c.args.out.now) (sink.faults c.drive.new.out) (store.faults c.args.store.now) (store.faults c.args.store.now))
    (sym (answer.1 ∙ ap (λ (why : CommandFault). Err why) answer.2))
    (drive_told run asked found.0 c.in-Drive.count (sym (c.in-Some.ensures ∙ ap core_act c.line_of-line.ensures.line) ∙ ap (λ (act : CoreAct). Some (found.0, act)) c.in-Drive.is)
    held c.drive.new.self c.args.log.now c.drive.new.log (sink.written c.args.out.now) (sink.written c.drive.new.out)
    (sink.faults c.args.out.now) (sink.faults c.drive.new.out) (store.faults c.args.store.now) (Err cut.field-0.0) tt tt cut.ensures.cut cut.ensures.paused)

pub returns-in_ok-start-in-Start-clause-effect : goal.returns-in_ok-start-in-Start-clause-effect
returns-in_ok-start-in-Start-clause-effect g c =
    let sink = g.K.Sink in
    let found : List ℕ × CoreAct = c.in-Some.name-1-given.0.0 in
    c.in_ok-start-in-Start.ensures.told c.args.command.now (sink.written c.args.out.now) (sink.faults c.args.out.now) (sym (c.in-Some.ensures ∙ ap core_act c.line_of-line.ensures.line) ∙ ap (λ (act : CoreAct). Some (found.0, act)) c.in-Start.is)

pub returns-in_err-start-in-Start-clause-effect : goal.returns-in_err-start-in-Start-clause-effect
returns-in_err-start-in-Start-clause-effect g c =
    let store = g.F.FirmwareStore in
    let sink = g.K.Sink in
    let run : RunState = record { objects = c.args.objects.now; steps = c.args.log.now.steps } in
    let written = sink.written c.args.out.now in
    let faults = sink.faults c.args.out.now in
    let found : List ℕ × CoreAct = c.in-Some.name-1-given.0.0 in
    let answer = err_from_is_err_and c.from_residual-in_err-start-in-Start.result c.from_residual-in_err-start-in-Start.ensures.1 in
    subst (λ (r : Result (Option Stop) CommandFault). RunsTold r (store.images c.args.store.now) run c.args.command.now c.start.new.self c.args.log.now c.start.new.log written written
    faults faults (store.faults c.args.store.now) (store.faults c.start.new.store))
    (sym (answer.1 ∙ ap (λ (why : CommandFault). Err why) answer.2))
    (c.in_err-start-in-Start.ensures.told c.args.command.now written faults (sym (c.in-Some.ensures ∙ ap core_act c.line_of-line.ensures.line) ∙ ap (λ (act : CoreAct). Some (found.0, act)) c.in-Start.is))

pub returns-in_ok-start-in-Start-clause-less : goal.returns-in_ok-start-in-Start-clause-less
returns-in_ok-start-in-Start-clause-less g c name count drives =
    let asked = c.args.command.now in
    let found : List ℕ × CoreAct = c.in-Some.name-1-given.0.0 in
    absurd (true≢false (sym (ap (λ (p : List ℕ × CoreAct). is_drive p.1) (same_act asked found name count (c.in-Some.ensures ∙ ap core_act c.line_of-line.ensures.line) drives)) ∙ ap is_drive c.in-Start.is))

pub returns-in_ok-start-in-Start-clause-unasked : goal.returns-in_ok-start-in-Start-clause-unasked
returns-in_ok-start-in-Start-clause-unasked g c none =
    let found : List ℕ × CoreAct = c.in-Some.name-1-given.0.0 in
    c.start.ensures.unasked (sym (ap (act_asks c.args.objects.now) (sym (c.in-Some.ensures ∙ ap core_act c.line_of-line.ensures.line) ∙ ap (λ (act : CoreAct). Some (found.0, act)) c.in-Start.is)) ∙ none)

pub returns-in_err-start-in-Start-clause-unasked : goal.returns-in_err-start-in-Start-clause-unasked
returns-in_err-start-in-Start-clause-unasked g c none =
    let found : List ℕ × CoreAct = c.in-Some.name-1-given.0.0 in
    c.start.ensures.unasked (sym (ap (act_asks c.args.objects.now) (sym (c.in-Some.ensures ∙ ap core_act c.line_of-line.ensures.line) ∙ ap (λ (act : CoreAct). Some (found.0, act)) c.in-Start.is)) ∙ none)

pub returns-in_ok-run_line-in_default : goal.returns-in_ok-run_line-in_default
returns-in_ok-run_line-in_default g c =
    let store = g.F.FirmwareStore in
    let log = c.args.log.now in
    let objects = c.args.objects.now in
    let asked = c.args.command.now in
    let run : RunState = record { objects = objects; steps = log.steps } in
    let held = store.images c.args.store.now in
    let told = c.in_ok-run_line-in_default in
    let found : List ℕ × CoreAct = c.in-Some.name-1-given.0.0 in
    let none : asked_name objects asked ≡ None = ap (act_asks objects) (sym (c.in-Some.ensures ∙ ap core_act c.line_of-line.ensures.line)) ∙ no_start objects found.0 found.1 c.in_default.not-Start in
    record {
      effect = (
        told_line held run asked _ c.run_line.new.self log c.run_line.new.log (g.K.Sink.written c.args.out.now) told.field-0
            c.line_of-line.ensures.line none told.ensures,
        refl,
        refl,
      );
      less = λ name count drives. absurd (c.in_default.not-Drive count (ap (λ (p : List ℕ × CoreAct). p.1) (same_act asked found name count (c.in-Some.ensures ∙ ap core_act c.line_of-line.ensures.line) drives)));
      kept = refl;
      unasked = λ _. refl;
    }

pub returns-in_ok-run_line-in-None : goal.returns-in_ok-run_line-in-None
returns-in_ok-run_line-in-None g c =
    let store = g.F.FirmwareStore in
    let log = c.args.log.now in
    let objects = c.args.objects.now in
    let asked = c.args.command.now in
    let run : RunState = record { objects = objects; steps = log.steps } in
    let held = store.images c.args.store.now in
    let told = c.in_ok-run_line-in-None in
    let none : asked_name objects asked ≡ None = ap (act_asks objects) (sym (c.in-None.ensures ∙ ap core_act c.line_of-line.ensures.line)) in
    record {
      effect = (
        told_line held run asked _ c.run_line-in-None.new.self log c.run_line-in-None.new.log (g.K.Sink.written c.args.out.now) told.field-0
            c.line_of-line.ensures.line none told.ensures,
        refl,
        refl,
      );
      less = λ name count drives. absurd (none-some (name, core.Drive count) ((c.in-None.ensures ∙ ap core_act c.line_of-line.ensures.line) ∙ ap core_act drives));
      kept = refl;
      unasked = λ _. refl;
    }
