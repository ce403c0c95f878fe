use Rattle.std.proofs.Common.{sym, ◌∙◌}
use Rattle.link_bench.proofs.BenchSteps.{step_left}
use Rattle.link_bench.proofs.benches.Bench.next_step.Goals as goal

pub returns-clause-done : goal.returns-clause-done
returns-clause-done c limit = step_left c.args.self.now c.args.caller (sym c.step_on.ensures.reach ∙ limit)
