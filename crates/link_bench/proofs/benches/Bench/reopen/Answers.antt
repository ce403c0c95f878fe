use Rattle.link_bench.proofs.BenchMay.{fit_either}
use Rattle.link_bench.proofs.benches.Bench.reopen.Goals as goal

pub invariant_of-self : goal.invariant_of-self
invariant_of-self c = (
  c.self.invariant.0,
  fit_either c.self.inside.link c.reopen.new.self c.self.inside.begun.items c.reopen.result c.self.invariant.1 c.reopen.ensures.refused c.reopen.ensures.open c.reopen.ensures.whole,
)
