use Rattle.std.proofs.Common.{◌≡◌, ◌-◌}
use Rattle.link_bench.specs.BenchHolds.{caller_out, is_out}
use Rattle.link_bench.proofs.Outs.{least_from}
use Rattle.link_bench.proofs.benches.Bench.caller_out.Given as goal

abbrev pub invariant-loop-caller : goal.invariant-loop-caller
invariant-loop-caller l = caller_out l.fn.self ≡ least_from (λ caller. is_out l.fn.self caller) l.caller (64 - l.caller)
