use Rattle.std.proofs.Common.{◌≡◌, ℕ, ◌+◌}
use Rattle.link_bench.specs.Turns.{pump_turns}
use Rattle.link_bench.proofs.benches.Bench.turns.Given as goal

-- more turns lead from here where they lead behind those that are done
abbrev pub invariant-loop-done : goal.invariant-loop-done
invariant-loop-done g l = record {
  turns : (more : ℕ) → pump_turns g.W.Watcher.sees more l.done l.fn.sender l.fn.receiver l.self (g.W.Watcher.state l.watcher) l.steps
      ≡ pump_turns g.W.Watcher.sees (l.done + more) 0 l.fn.sender l.fn.receiver l.fn.self (g.W.Watcher.state l.fn.watcher) l.fn.steps;
}
