use Rattle.std.proofs.Common.{◌≡◌, suc, ◌+◌, ◌-◌, sym, ap, ◌∙◌, arith}
use Rattle.link_bench.specs.Turns.{PumpResult, pump_turns}
use Rattle.link_bench.proofs.Cuts.{on_err}
use Rattle.link_bench.proofs.TurnWalks.{turns_more, turns_none, turns_stop, whole_pump}
use Rattle.link_bench.proofs.benches.Bench.turns.Goals.{After-from_residual, After-loop-done, Then-not-is_whole}
use Rattle.link_bench.proofs.benches.Bench.turns.Goals as goal

-- a turn that isn't whole is the last
stopped : (g : _) (c : Then-not-is_whole g) → record { turns = record { bench = c.turn.new.self; watcher = g.W.Watcher.state c.turn.new.watcher; steps = c.turn.new.steps; ended = c.turn.new.ended }; done = c.loop-done.done }
    ≡ pump_turns g.W.Watcher.sees c.args.count 0 c.args.sender c.args.receiver c.args.self.now (g.W.Watcher.state c.args.watcher.now) c.args.steps.now
stopped g c =
    let more = c.args.count - (c.loop-done.done + 1) in
    let count : c.loop-done.done + suc more ≡ c.args.count = omega (arith, c.loop-done-test.true) in
    turns_stop g.W.Watcher.sees c.loop-done.done c.args.sender c.args.receiver c.loop-done.self (g.W.Watcher.state c.make_room.new.self) c.loop-done.steps
    c.turn.new.self (g.W.Watcher.state c.turn.new.watcher) c.turn.new.steps c.turn.new.ended more
    c.turn.ensures.bench c.turn.ensures.watcher c.turn.ensures.steps c.turn.ensures.ended (sym c.is_whole.ensures ∙ c.if-not-is_whole.true)
    ∙ ap (λ w. pump_turns g.W.Watcher.sees (suc more) c.loop-done.done c.args.sender c.args.receiver c.loop-done.self w c.loop-done.steps) c.make_room.ensures.same
    ∙ c.loop-done.invariant.turns (suc more)
    ∙ ap (λ n. pump_turns g.W.Watcher.sees n 0 c.args.sender c.args.receiver c.args.self.now (g.W.Watcher.state c.args.watcher.now) c.args.steps.now) count

-- all of them are done
whole : (g : _) (c : After-loop-done g) → whole_pump c.loop-done.self (g.W.Watcher.state c.loop-done.watcher) c.loop-done.steps c.args.count
    ≡ pump_turns g.W.Watcher.sees c.args.count 0 c.args.sender c.args.receiver c.args.self.now (g.W.Watcher.state c.args.watcher.now) c.args.steps.now
whole g c =
    let all : c.loop-done.done ≡ c.args.count = omega (arith, c.loop-done-test.false, c.loop-done.auto.done-end) in
    let count : c.loop-done.done + 0 ≡ c.args.count = omega (arith, all) in
    ap (whole_pump c.loop-done.self (g.W.Watcher.state c.loop-done.watcher) c.loop-done.steps) (sym all)
    ∙ sym (turns_none g.W.Watcher.sees c.loop-done.done c.args.sender c.args.receiver c.loop-done.self (g.W.Watcher.state c.loop-done.watcher) c.loop-done.steps)
    ∙ c.loop-done.invariant.turns 0
    ∙ ap (λ n. pump_turns g.W.Watcher.sees n 0 c.args.sender c.args.receiver c.args.self.now (g.W.Watcher.state c.args.watcher.now) c.args.steps.now) count

-- where memory runs out before a turn, those before it are done
ran_out : (g : _) (c : After-from_residual g) → whole_pump c.loop-done.self (g.W.Watcher.state c.loop-done.watcher) c.loop-done.steps c.loop-done.done
    ≡ pump_turns g.W.Watcher.sees c.loop-done.done 0 c.args.sender c.args.receiver c.args.self.now (g.W.Watcher.state c.args.watcher.now) c.args.steps.now
ran_out g c =
    let none : c.loop-done.done + 0 ≡ c.loop-done.done = omega arith in
    sym (turns_none g.W.Watcher.sees c.loop-done.done c.args.sender c.args.receiver c.loop-done.self (g.W.Watcher.state c.loop-done.watcher) c.loop-done.steps)
    ∙ c.loop-done.invariant.turns 0
    ∙ ap (λ n. pump_turns g.W.Watcher.sees n 0 c.args.sender c.args.receiver c.args.self.now (g.W.Watcher.state c.args.watcher.now) c.args.steps.now) none

pub returns-in_err-make_room-clause-cut : goal.returns-in_err-make_room-clause-cut
returns-in_err-make_room-clause-cut g c = on_err c.from_residual.result (record {
  done = c.loop-done.done;
  most = omega (arith, c.loop-done-test.true);
  bench = ap (λ (pumped : PumpResult g.W.Watcher.State). pumped.turns.bench) (ran_out g c);
  watcher = c.make_room.ensures.same ∙ ap (λ (pumped : PumpResult g.W.Watcher.State). pumped.turns.watcher) (ran_out g c);
})

pub returns-then-not-is_whole-clause-bench : goal.returns-then-not-is_whole-clause-bench
returns-then-not-is_whole-clause-bench g c = ap (λ (pumped : PumpResult g.W.Watcher.State). pumped.turns.bench) (stopped g c)

pub returns-then-not-is_whole-clause-watcher : goal.returns-then-not-is_whole-clause-watcher
returns-then-not-is_whole-clause-watcher g c = ap (λ (pumped : PumpResult g.W.Watcher.State). pumped.turns.watcher) (stopped g c)

pub returns-then-not-is_whole-clause-steps : goal.returns-then-not-is_whole-clause-steps
returns-then-not-is_whole-clause-steps g c = ap (λ (pumped : PumpResult g.W.Watcher.State). pumped.turns.steps) (stopped g c)

pub returns-then-not-is_whole-clause-ended : goal.returns-then-not-is_whole-clause-ended
returns-then-not-is_whole-clause-ended g c = ap (λ (pumped : PumpResult g.W.Watcher.State). pumped.turns.ended) (stopped g c)

pub returns-then-not-is_whole-clause-done : goal.returns-then-not-is_whole-clause-done
returns-then-not-is_whole-clause-done g c = ap (λ (pumped : PumpResult g.W.Watcher.State). pumped.done) (stopped g c)

pub loop-done-preserved : goal.loop-done-preserved
loop-done-preserved g c = record {
  turns = λ more.
      let count : c.loop-done.done + suc more ≡ c.loop-done.done + 1 + more = omega arith in
      turns_more g.W.Watcher.sees c.loop-done.done c.args.sender c.args.receiver c.loop-done.self (g.W.Watcher.state c.make_room.new.self) c.loop-done.steps
      c.turn.new.self (g.W.Watcher.state c.turn.new.watcher) c.turn.new.steps c.turn.new.ended more
      c.turn.ensures.bench c.turn.ensures.watcher c.turn.ensures.steps c.turn.ensures.ended (sym c.is_whole.ensures ∙ c.if-not-is_whole.false)
      ∙ ap (λ w. pump_turns g.W.Watcher.sees (suc more) c.loop-done.done c.args.sender c.args.receiver c.loop-done.self w c.loop-done.steps) c.make_room.ensures.same
      ∙ c.loop-done.invariant.turns (suc more)
      ∙ ap (λ n. pump_turns g.W.Watcher.sees n 0 c.args.sender c.args.receiver c.args.self.now (g.W.Watcher.state c.args.watcher.now) c.args.steps.now) count;
}

pub returns-clause-bench : goal.returns-clause-bench
returns-clause-bench g c = ap (λ (pumped : PumpResult g.W.Watcher.State). pumped.turns.bench) (whole g c)

pub returns-clause-watcher : goal.returns-clause-watcher
returns-clause-watcher g c = ap (λ (pumped : PumpResult g.W.Watcher.State). pumped.turns.watcher) (whole g c)

pub returns-clause-steps : goal.returns-clause-steps
returns-clause-steps g c = ap (λ (pumped : PumpResult g.W.Watcher.State). pumped.turns.steps) (whole g c)

pub returns-clause-ended : goal.returns-clause-ended
returns-clause-ended g c = ap (λ (pumped : PumpResult g.W.Watcher.State). pumped.turns.ended) (whole g c)

pub returns-clause-done : goal.returns-clause-done
returns-clause-done g c = ap (λ (pumped : PumpResult g.W.Watcher.State). pumped.done) (whole g c)
