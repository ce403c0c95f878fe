use Rattle.std.proofs.Common.{Some, sym, ap, subst}
use Rattle.lane_model.specs.Links.{LinkState}
use Rattle.lane_model.proofs.Others.{caller_may}
use Rattle.channel_bus.specs.Sides.{EndState}
use Rattle.link_bench.specs.Benches.{AreFitCalls, lists_of}
use Rattle.link_bench.proofs.benches.Bench.caller.Goals as goal

pub invariant_of-self : goal.invariant_of-self
invariant_of-self c = (
  c.self.invariant.0,
  subst (λ (link : LinkState EndState). AreFitCalls link c.self.inside.begun.items) (ap lists_of (sym c.caller.ensures.left))
      (λ other call is. caller_may (lists_of c.self.inside.link) c.args.end other (Some call.wish) (c.self.invariant.1 other call is)),
)
