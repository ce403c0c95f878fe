use Rattle.std.proofs.Common.{sym, ap, subst, ◌∙◌}
use Rattle.channel_bus.specs.Sides.{EndState}
use Rattle.lane_model.specs.Links.{LinkState}
use Rattle.link_bench.specs.Benches.{AreFitCalls, lists_of}
use Rattle.link_bench.proofs.BenchMay.{fit_closed}
use Rattle.link_bench.proofs.Lists.{close_rings}
use Rattle.link_bench.proofs.benches.Bench.close.Goals as goal

pub invariant_of-self : goal.invariant_of-self
invariant_of-self c =
    let s = c.self.inside in let inc = c.era-inc.result.inc in (
      c.self.invariant.0,
      subst (λ (link : LinkState EndState). AreFitCalls link s.begun.items) (sym (close_rings s.link inc) ∙ ap lists_of (sym c.close.ensures.whole))
          (fit_closed (lists_of s.link) s.begun.items inc c.self.invariant.1),
    )
