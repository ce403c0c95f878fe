use Rattle.std.proofs.Common.{◌≡◌, ℕ, Some, None, slice_set, sym, subst, ◌∙◌}
use Rattle.std.proofs.lemmas.List.{length-set}
use Rattle.link_bench.specs.declared.benches.BegunCall.{BegunCall}
use Rattle.link_bench.specs.Benches.{BenchState, AreFitCalls, begin_fault, lists_of}
use Rattle.link_bench.proofs.BegunCalls.{begin_may, fit_put}
use Rattle.link_bench.proofs.benches.Bench.put_call.Goals as goal

pub invariant_of-self : goal.invariant_of-self
invariant_of-self c =
    let bench : BenchState = record { rings = c.self.inside.link; begun = c.self.inside.begun.items } in
    let call : BegunCall = record { follows = c.era.result.inc; wish = c.args.wished } in
    let ready : begin_fault bench c.args.caller c.args.wished ≡ None =
    subst (λ (b : BenchState). begin_fault b c.args.caller c.args.wished ≡ None) (sym c.self.view_is) c.requires.ready in (
      length-set c.self.inside.begun.items c.from.result (Some call) ∙ c.self.invariant.0,
      subst (λ (n : ℕ). AreFitCalls (lists_of c.self.inside.link) (slice_set c.self.inside.begun.items n (Some call))) (sym c.from.ensures)
          (fit_put c.self.inside.begun.items c.args.caller (lists_of c.self.inside.link) call c.self.invariant.1
          (begin_may bench c.args.caller c.args.wished c.show_sendable.ensures ready)),
    )
