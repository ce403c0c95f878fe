use Rattle.std.proofs.Common.{ap, ◌∙◌}
use Rattle.rp_io.specs.Calls.{fails_next}
use Rattle.rp_io.proofs.Ascending.{is_ok-binary_search}
use Rattle.rp_io.proofs.calls.CallPlan.fails_next.Goals as goal

pub returns : goal.returns
returns c =
    let found = is_ok-binary_search c.self.inside.fails.items c.self.inside.next c.binary_search.result c.self.invariant (rw (← c.deref.ensures.value) c.binary_search.ensures.position) in
    c.is_ok.ensures.value ∙ found ∙ ap fails_next c.self.view_is
