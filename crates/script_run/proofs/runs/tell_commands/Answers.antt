use Rattle.std.proofs.Common.{◌≡◌, ◌+◌, arith, ℕ, [], List, Option, Some, None, Result, Err, drop, false, refl, sym, ap, subst, ◌∙◌}
use Rattle.std.proofs.Math.ListN.{drop_of_length-le}
use Rattle.std.proofs.lemmas.Result.{err_from_is_err_and}
use Rattle.rp_io.specs.Causes.{Rose}
use Rattle.command_run.specs.declared.faults.CommandFault.{CommandFault}
use Rattle.command_run.specs.declared.faults.OutputFault.{OutputFault}
use Rattle.program_status.specs.declared.statuses.Status.{Status}
use Rattle.command_run.specs.Stores.{StoreAnswers}
use Rattle.run_log.specs.Logs.{KeepsLess, LogState}
use Rattle.command_run.specs.Fetches.{DidTold, RunsTold}
use Rattle.script_run.specs.Outputs.{end_output, store_fault_output}
use Rattle.script_run.specs.Delivery.{EndsRun, RunWrites}
use Rattle.command_run.specs.Runs.{AsksNone, ObjectsState, Run, RunState, asked_name, run_from}
use Rattle.command_run.proofs.RunSteps.{asks_first, asks_later, left_at, run_none, runnable_first}
use Rattle.script_run.proofs.SoFar.{SoFar, asked_some, so_far_none, so_far_ends, so_far_fails, so_far_memory_cut, so_far_write_cut, so_far_write_fault, so_far_handed, so_far_after, so_far_until}
use Rattle.script_run.proofs.runs.tell_commands.Goals as goal

-- a new log keeps nothing
none_kept : (steps : ℕ) → KeepsLess (record { lines = []; steps = steps })
none_kept steps = omega arith

pub run_command-requires : goal.run_command-requires
run_command-requires g c =
    let i = c.loop-command.command-index in
    let is = left_at c.args.commands.now i c.command-item.result c.loop-command-test.true c.command-item.is in
    (runnable_first c.command-item.result (drop (i + 1) c.args.commands.now) (drop i c.args.commands.now) is c.loop-command.invariant.runnable).0

pub loop-command-init : goal.loop-command-init
loop-command-init g c =
    let store = g.F.FirmwareStore in
    let sink = g.K.Sink in
    let commands = c.args.commands.now in
    let written = sink.written c.args.out.now in
    let images = store.images c.args.store.now in
    record {
      so_far = subst (λ (log : LogState). SoFar images commands commands written written log.lines (λ later rest. run_from later (record { objects = c.args.objects.now; steps = log.steps }) rest)) (sym c.new-log.ensures)
          (subst (λ (objects : ObjectsState). SoFar images commands commands written written [] (λ later rest. run_from later (record { objects = objects; steps = 0 }) rest)) (sym c.requires.new)
          (so_far_none images commands written));
      less = subst (λ (log : LogState). KeepsLess log) (sym c.new-log.ensures) (none_kept 0);
      runnable = c.requires.runnable;
      same = refl;
      images = refl;
      still = refl;
      unasked = λ none. (
        refl,
        subst (λ (log : LogState). AsksNone (record { objects = c.args.objects.now; steps = log.steps }) commands) (sym c.new-log.ensures)
            (subst (λ (objects : ObjectsState). AsksNone (record { objects = objects; steps = 0 }) commands) (sym c.requires.new) none),
      );
    }

pub returns-in_err-hand_on-in-Ok-None : goal.returns-in_err-hand_on-in-Ok-None
returns-in_err-hand_on-in-Ok-None g c =
    let store = g.F.FirmwareStore in
    let sink = g.K.Sink in
    let commands = c.args.commands.now in
    let images = store.images c.args.store.now in
    let i = c.loop-command.command-index in
    let first = c.command-item.result in
    let state : RunState = record { objects = c.loop-command.objects; steps = c.loop-command.log.steps } in
    let next : RunState = record { objects = c.run_command.new.objects; steps = c.run_command.new.log.steps } in
    let found = err_from_is_err_and c.from_residual.result c.from_residual.ensures.1 in
    let told = c.in-Ok-None.ensures.effect in
    let did = subst (λ (held : Option (List (List ℕ × List ℕ))). DidTold held state first c.run_command.new.objects c.loop-command.log c.run_command.new.log
    (sink.written c.loop-command.out) (sink.written c.run_command.new.out) c.in-Ok-None.field-0) c.loop-command.invariant.images told.0 in
    record {
      written = subst (λ (result : Result Status OutputFault). RunWrites images commands c.run_command.new.objects result (sink.written c.args.out.now) (sink.written c.hand_on.new.out)
          (sink.faults c.args.out.now) (sink.faults c.hand_on.new.out) (store.faults c.args.store.now) (store.faults c.run_command.new.store))
          (sym (found.1 ∙ ap (λ (fault : OutputFault). Err fault) found.2))
          (so_far_write_fault images commands (drop (i + 1) commands) (sink.written c.args.out.now) (sink.written c.run_command.new.out) c.run_command.new.log.lines
          next (sink.written c.hand_on.new.out) (sink.faults c.args.out.now) (sink.faults c.hand_on.new.out)
          (store.faults c.args.store.now) (store.faults c.run_command.new.store)
          (so_far_after images commands (sink.written c.args.out.now) (sink.written c.loop-command.out) c.loop-command.objects i first c.loop-command.log
          c.loop-command.invariant.so_far c.loop-command-test.true c.command-item.is c.run_command.new.objects c.run_command.new.log (sink.written c.run_command.new.out) c.in-Ok-None.field-0 did c.in-Ok-None.field-0-is)
          c.in_err-hand_on-in-Ok-None.ensures.front
          (subst (λ (faults : ℕ). Rose faults (sink.faults c.hand_on.new.out)) (told.1 ∙ c.loop-command.invariant.same) c.in_err-hand_on-in-Ok-None.ensures.failed)
          (told.2 ∙ c.loop-command.invariant.still));
      unasked = λ none.
          let sofar = c.loop-command.invariant.unasked none in
          c.run_command.ensures.unasked (asks_first state (drop c.loop-command.command-index commands) first (drop (c.loop-command.command-index + 1) commands)
          (left_at commands c.loop-command.command-index first c.loop-command-test.true c.command-item.is) sofar.1) ∙ sofar.0;
    }

pub returns-in-Ok-Some : goal.returns-in-Ok-Some
returns-in-Ok-Some g c =
    let store = g.F.FirmwareStore in
    let sink = g.K.Sink in
    let commands = c.args.commands.now in
    let images = store.images c.args.store.now in
    let i = c.loop-command.command-index in
    let first = c.command-item.result in
    let state : RunState = record { objects = c.loop-command.objects; steps = c.loop-command.log.steps } in
    let told = c.in-Ok-Some.ensures.effect in
    let did = subst (λ (held : Option (List (List ℕ × List ℕ))). DidTold held state first c.run_command.new.objects c.loop-command.log c.run_command.new.log
    (sink.written c.loop-command.out) (sink.written c.run_command.new.out) c.in-Ok-Some.field-0) c.loop-command.invariant.images told.0 in
    let so_far = so_far_until images commands (sink.written c.args.out.now) (sink.written c.loop-command.out) c.loop-command.objects i first c.loop-command.log
    c.loop-command.invariant.so_far c.loop-command-test.true c.command-item.is c.run_command.new.objects c.run_command.new.log (sink.written c.run_command.new.out) c.in-Ok-Some.field-0 did c.in-Ok-Some.stop c.in-Ok-Some.field-0-is in
    record {
      written =
          so_far_ends images commands (drop (i + 1) commands) (sink.written c.args.out.now) (sink.written c.run_command.new.out) c.run_command.new.log.lines _ c.end_run.result (Some c.in-Ok-Some.stop)
          c.run_command.new.objects (sink.written c.end_run.new.out) (sink.faults c.args.out.now) (sink.faults c.run_command.new.out) (sink.faults c.end_run.new.out)
          (store.faults c.args.store.now) (store.faults c.run_command.new.store) so_far (λ later. refl) (λ later. refl) (λ later. did.did.objects) (told.1 ∙ c.loop-command.invariant.same)
          (told.2 ∙ c.loop-command.invariant.still) c.end_run.ensures;
      unasked = λ none.
          let sofar = c.loop-command.invariant.unasked none in
          c.run_command.ensures.unasked (asks_first state (drop c.loop-command.command-index commands) first (drop (c.loop-command.command-index + 1) commands)
          (left_at commands c.loop-command.command-index first c.loop-command-test.true c.command-item.is) sofar.1) ∙ sofar.0;
    }

pub returns-in-Err-Store : goal.returns-in-Err-Store
returns-in-Err-Store g c =
    let store = g.F.FirmwareStore in
    let sink = g.K.Sink in
    let commands = c.args.commands.now in
    let images = store.images c.args.store.now in
    let i = c.loop-command.command-index in
    let first = c.command-item.result in
    let state : RunState = record { objects = c.loop-command.objects; steps = c.loop-command.log.steps } in
    let failed = subst (λ (fault : CommandFault). RunsTold (Err fault) (store.images c.loop-command.store) state first c.run_command.new.objects c.loop-command.log c.run_command.new.log
    (sink.written c.loop-command.out) (sink.written c.run_command.new.out) (sink.faults c.loop-command.out) (sink.faults c.run_command.new.out)
    (store.faults c.loop-command.store) (store.faults c.run_command.new.store)) c.in-Err-Store.field-0-is c.in-Err-Store.ensures.effect in
    let asks = asked_some (asked_name c.loop-command.objects first) failed.0 in
    record {
      written =
          so_far_fails images commands (drop i commands) (sink.written c.args.out.now) (sink.written c.run_command.new.out) c.loop-command.log.lines state first (drop (i + 1) commands) asks.0
          c.end_with_fault.result c.run_command.new.objects (sink.written c.end_with_fault.new.out) (sink.faults c.args.out.now) (sink.faults c.run_command.new.out) (sink.faults c.end_with_fault.new.out)
          (store.faults c.args.store.now) (store.faults c.run_command.new.store)
          (subst (λ (written : Option (List ℕ)). SoFar images commands (drop i commands) (sink.written c.args.out.now) written c.loop-command.log.lines (λ later rest. run_from later state rest)) (sym failed.2) c.loop-command.invariant.so_far)
          (left_at commands i first c.loop-command-test.true c.command-item.is) asks.1 failed.5 (failed.3 ∙ c.loop-command.invariant.same) c.end_with_fault.ensures.found
          (subst (λ (faults : ℕ). Rose faults (store.faults c.run_command.new.store)) c.loop-command.invariant.still failed.4)
          (subst (λ (log : LogState). EndsRun c.end_with_fault.result store_fault_output log.lines (sink.written c.run_command.new.out) (sink.written c.end_with_fault.new.out)
          (sink.faults c.run_command.new.out) (sink.faults c.end_with_fault.new.out)) failed.1 c.end_with_fault.ensures.written);
      unasked = λ none.
          let sofar = c.loop-command.invariant.unasked none in
          c.run_command.ensures.unasked (asks_first state (drop c.loop-command.command-index commands) first (drop (c.loop-command.command-index + 1) commands)
          (left_at commands c.loop-command.command-index first c.loop-command-test.true c.command-item.is) sofar.1) ∙ sofar.0;
    }

pub returns-in-Err-Write : goal.returns-in-Err-Write
returns-in-Err-Write g c =
    let store = g.F.FirmwareStore in
    let sink = g.K.Sink in
    let commands = c.args.commands.now in
    let first = c.command-item.result in
    let state : RunState = record { objects = c.loop-command.objects; steps = c.loop-command.log.steps } in
    let failed = subst (λ (fault : CommandFault). RunsTold (Err fault) (store.images c.loop-command.store) state first c.run_command.new.objects c.loop-command.log c.run_command.new.log
    (sink.written c.loop-command.out) (sink.written c.run_command.new.out) (sink.faults c.loop-command.out) (sink.faults c.run_command.new.out)
    (store.faults c.loop-command.store) (store.faults c.run_command.new.store)) c.in-Err-Write.field-0-is c.in-Err-Write.ensures.effect in
    record {
      written =
          so_far_write_cut (store.images c.args.store.now) commands (sink.written c.args.out.now) (sink.written c.loop-command.out) c.loop-command.objects c.loop-command.command-index first c.loop-command.log
          c.loop-command.invariant.so_far c.loop-command-test.true c.command-item.is (sink.written c.run_command.new.out) c.run_command.new.objects failed.2 c.loop-command.invariant.less (sink.faults c.args.out.now) (sink.faults c.loop-command.out)
          (sink.faults c.run_command.new.out) (store.faults c.args.store.now) (store.faults c.run_command.new.store) failed.0 c.loop-command.invariant.same (failed.1 ∙ c.loop-command.invariant.still);
      unasked = λ none.
          let sofar = c.loop-command.invariant.unasked none in
          c.run_command.ensures.unasked (asks_first state (drop c.loop-command.command-index commands) first (drop (c.loop-command.command-index + 1) commands)
          (left_at commands c.loop-command.command-index first c.loop-command-test.true c.command-item.is) sofar.1) ∙ sofar.0;
    }

pub returns-in-Err-NoMemory : goal.returns-in-Err-NoMemory
returns-in-Err-NoMemory g c =
    let store = g.F.FirmwareStore in
    let sink = g.K.Sink in
    let commands = c.args.commands.now in
    let first = c.command-item.result in
    let state : RunState = record { objects = c.loop-command.objects; steps = c.loop-command.log.steps } in
    let failed = subst (λ (fault : CommandFault). RunsTold (Err fault) (store.images c.loop-command.store) state first c.run_command.new.objects c.loop-command.log c.run_command.new.log
    (sink.written c.loop-command.out) (sink.written c.run_command.new.out) (sink.faults c.loop-command.out) (sink.faults c.run_command.new.out)
    (store.faults c.loop-command.store) (store.faults c.run_command.new.store)) c.in-Err-NoMemory.field-0-is c.in-Err-NoMemory.ensures.effect in
    record {
      written =
          so_far_memory_cut (store.images c.args.store.now) commands (sink.written c.args.out.now) (sink.written c.loop-command.out) c.loop-command.objects c.loop-command.command-index first c.loop-command.log
          c.loop-command.invariant.so_far c.loop-command-test.true c.command-item.is c.run_command.new.objects (sink.written c.run_command.new.out) (sink.faults c.args.out.now) (sink.faults c.loop-command.out) (sink.faults c.run_command.new.out)
          (store.faults c.args.store.now) (store.faults c.run_command.new.store) failed.0 c.loop-command.invariant.same (failed.1 ∙ c.loop-command.invariant.still);
      unasked = λ none.
          let sofar = c.loop-command.invariant.unasked none in
          c.run_command.ensures.unasked (asks_first state (drop c.loop-command.command-index commands) first (drop (c.loop-command.command-index + 1) commands)
          (left_at commands c.loop-command.command-index first c.loop-command-test.true c.command-item.is) sofar.1) ∙ sofar.0;
    }

pub loop-command-preserved : goal.loop-command-preserved
loop-command-preserved g c =
    let store = g.F.FirmwareStore in
    let sink = g.K.Sink in
    let commands = c.args.commands.now in
    let images = store.images c.args.store.now in
    let i = c.loop-command.command-index in
    let first = c.command-item.result in
    let more = drop (i + 1) commands in
    let state : RunState = record { objects = c.loop-command.objects; steps = c.loop-command.log.steps } in
    let is = left_at commands i first c.loop-command-test.true c.command-item.is in
    let handed = c.in_ok-hand_on-in-Ok-None.ensures in
    let told = c.in-Ok-None.ensures.effect in
    let did = subst (λ (held : Option (List (List ℕ × List ℕ))). DidTold held state first c.run_command.new.objects c.loop-command.log c.run_command.new.log
    (sink.written c.loop-command.out) (sink.written c.run_command.new.out) c.in-Ok-None.field-0) c.loop-command.invariant.images told.0 in
    record {
      so_far = subst (λ (steps : ℕ). SoFar images commands more (sink.written c.args.out.now) (sink.written c.hand_on.new.out) c.hand_on.new.self.lines (λ later rest. run_from later (record { objects = c.run_command.new.objects; steps = steps }) rest))
          (sym handed.steps)
          (so_far_handed images commands more (sink.written c.args.out.now) (sink.written c.run_command.new.out) c.run_command.new.log.lines
          (λ later rest. run_from later (record { objects = c.run_command.new.objects; steps = c.run_command.new.log.steps }) rest)
          (sink.written c.hand_on.new.out) c.hand_on.new.self.lines
          (so_far_after images commands (sink.written c.args.out.now) (sink.written c.loop-command.out) c.loop-command.objects i first c.loop-command.log
          c.loop-command.invariant.so_far c.loop-command-test.true c.command-item.is c.run_command.new.objects c.run_command.new.log (sink.written c.run_command.new.out) c.in-Ok-None.field-0 did c.in-Ok-None.field-0-is)
          handed.handed);
      less = handed.less;
      runnable = (runnable_first first more (drop i commands) is c.loop-command.invariant.runnable).1;
      same = handed.same ∙ told.1 ∙ c.loop-command.invariant.same;
      images = c.run_command.ensures.kept ∙ c.loop-command.invariant.images;
      still = told.2 ∙ c.loop-command.invariant.still;
      unasked = λ none.
          let sofar = c.loop-command.invariant.unasked none in (
            c.run_command.ensures.unasked (asks_first state (drop i commands) first more is sofar.1) ∙ sofar.0,
            subst (λ (steps : ℕ). AsksNone (record { objects = c.run_command.new.objects; steps = steps }) more) (sym handed.steps)
                (asks_later state (drop i commands) first more did.shelf c.run_command.new.objects c.loop-command.log c.run_command.new.log c.in-Ok-None.field-0 is sofar.1
                (sink.written c.loop-command.out) (sink.written c.run_command.new.out) did.did c.in-Ok-None.field-0-is),
          );
    }

pub returns : goal.returns
returns g c =
    let store = g.F.FirmwareStore in
    let sink = g.K.Sink in
    let commands = c.args.commands.now in
    let images = store.images c.args.store.now in
    let state : RunState = record { objects = c.loop-command.objects; steps = c.loop-command.log.steps } in
    let left = drop c.loop-command.command-index commands in
    let ended : (later : StoreAnswers) → run_from later state left ≡ record { events = []; last = state; ending = None; failed = false } =
    λ later. ap (run_from later state) (drop_of_length-le commands c.loop-command-test.false) ∙ run_none later state in
    record {
      written =
          so_far_ends images commands left (sink.written c.args.out.now) (sink.written c.loop-command.out) c.loop-command.log.lines (λ later rest. run_from later state rest) c.end_run-2.result None
          c.loop-command.objects (sink.written c.end_run-2.new.out) (sink.faults c.args.out.now) (sink.faults c.loop-command.out) (sink.faults c.end_run-2.new.out)
          (store.faults c.args.store.now) (store.faults c.loop-command.store)
          c.loop-command.invariant.so_far (λ later. ap (λ (run : Run). run.events) (ended later)) (λ later. ap (λ (run : Run). end_output run) (ended later)) (λ later. sym (ap (λ (run : Run). run.last.objects) (ended later))) c.loop-command.invariant.same
          c.loop-command.invariant.still c.end_run-2.ensures;
      unasked = λ none. (c.loop-command.invariant.unasked none).0;
    }
