use Rattle.std.proofs.Common.{ℕ, None, slice_set, sym, ap, subst, ◌∙◌}
use Rattle.std.proofs.lemmas.List.{length-set}
use Rattle.channel_bus.specs.Sides.{EndState}
use Rattle.lane_model.specs.Links.{LinkState}
use Rattle.link_bench.specs.Benches.{AreFitCalls, lists_of}
use Rattle.link_bench.proofs.BenchMay.{fit_reclaimed}
use Rattle.link_bench.proofs.Lists.{reclaim_rings}
use Rattle.link_bench.proofs.benches.Bench.end_caller.Goals as goal

pub invariant_of-self : goal.invariant_of-self
invariant_of-self c =
    let s = c.self.inside in let caller = c.args.caller in (
      length-set s.begun.items c.from.result None ∙ c.self.invariant.0,
      subst (λ (n : ℕ). AreFitCalls (lists_of c.end_caller.new.self) (slice_set s.begun.items n None)) (sym c.from.ensures)
          (subst (λ (link : LinkState EndState). AreFitCalls link (slice_set s.begun.items caller None)) (sym (reclaim_rings s.link caller) ∙ ap lists_of (sym c.end_caller.ensures.whole))
          (fit_reclaimed (lists_of s.link) s.begun.items caller c.self.invariant.1)),
    )
