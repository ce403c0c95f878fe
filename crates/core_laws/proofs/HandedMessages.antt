-- What a reached link has handed over in its incarnation.
use Rattle.std.proofs.Common.{◌≡◌, ℕ, List, sym, ap, subst, ◌∙◌}
use Rattle.rp_base.specs.declared.kinds.End.{End}
use Rattle.rp_base.specs.declared.kinds.BoundEndpoint.{BoundEndpoint}
use Rattle.lane_model.specs.Desks.{IsBound}
use Rattle.lane_model.specs.Links.{LinkState}
use Rattle.lane_laws.specs.Handings.{IsPrefix, due, got, handed_front, messages_of, with_numbers}
use Rattle.lane_laws.specs.Moves.{Move, MayMoves, Recorded, no_handings, after_moves, handings_to, lane_to, WasBound}
use Rattle.lane_laws.proofs.LinkRuns.{judged_after, traced_after}
use Rattle.lane_laws.proofs.Traces.{traced_front}
use Rattle.channel_bus.specs.Sides.{EndState, side_meaning}
use Rattle.channel_bus.specs.Laws.{side_laws}
use Rattle.core_laws.specs.BenchMoves.{IsReached, WasBoundOnTheWay, history_of}
use Rattle.core_laws.proofs.LinkMoves.{after_both, may_split}

-- each message of the book that was handed over, once and in order
pub handed_once : (link : LinkState EndState) (reached : IsReached link) (end : End)
    → messages_of (handings_to (history_of link reached) end) ≡ with_numbers 0 (handed_front (lane_to link end).lane)
handed_once link reached end =
    subst (λ (left : LinkState EndState). messages_of (handings_to (history_of link reached) end) ≡ with_numbers 0 (handed_front (lane_to left end).lane))
    reached.came.left (judged_after side_meaning side_laws reached.start reached.came.moves end reached.new reached.came.may).fact.once

module _ (link : LinkState EndState) (reached : IsReached link) (end : End) (bound : BoundEndpoint) (was : WasBoundOnTheWay link reached end bound) where
  may_both : MayMoves side_meaning reached.start was.before
      × MayMoves side_meaning (after_moves side_meaning (no_handings reached.start) was.before).link was.since
  may_both =
      may_split side_meaning (no_handings reached.start) was.before was.since
      (subst (λ (moves : List Move). MayMoves side_meaning reached.start moves) was.way reached.came.may)

  was_bound : WasBound side_meaning reached.start was.before was.since end bound
  was_bound = record { new = reached.new; came = may_both.0; bound_then = was.bound_then; went_on = may_both.1 }

  -- the whole way
  whole_way : after_moves side_meaning (after_moves side_meaning (no_handings reached.start) was.before) was.since ≡ history_of link reached
  whole_way =
      sym (after_both side_meaning (no_handings reached.start) was.before was.since)
      ∙ ap (λ (moves : List Move). after_moves side_meaning (no_handings reached.start) moves) (sym was.way)

  -- what an endpoint got of a sender is how that begins which is due to it
  pub got_front : (sender : ℕ) → IsPrefix (got bound.endpoint sender (handings_to (history_of link reached) end))
      (due side_meaning (lane_to link end).desk bound sender (lane_to link end).lane.accepted)
  got_front sender =
      let traced = traced_after side_meaning side_laws reached.start was.before was.since end bound was_bound in
      let then = traced_front side_meaning bound _ _ _ _ sender traced.fact in
      let now = subst (λ (now : Recorded EndState). IsPrefix (got bound.endpoint sender (handings_to now end))
      (due side_meaning (lane_to now.link end).desk bound sender (lane_to now.link end).lane.accepted)) whole_way then in
      subst (λ (left : LinkState EndState). IsPrefix (got bound.endpoint sender (handings_to (history_of link reached) end))
      (due side_meaning (lane_to left end).desk bound sender (lane_to left end).lane.accepted)) reached.came.left now

-- while it is bound, that is all that is due to it of what was handed over
pub got_whole : (link : LinkState EndState) (reached : IsReached link) (end : End) (bound : BoundEndpoint) (sender : ℕ)
    → IsBound side_meaning (lane_to link end).desk bound
    → got bound.endpoint sender (handings_to (history_of link reached) end)
    ≡ due side_meaning (lane_to link end).desk bound sender (handed_front (lane_to link end).lane)
got_whole link reached end bound sender is =
    let judged = judged_after side_meaning side_laws reached.start reached.came.moves end reached.new reached.came.may in
    subst (λ (left : LinkState EndState). IsBound side_meaning (lane_to left end).desk bound
    → got bound.endpoint sender (handings_to (history_of link reached) end) ≡ due side_meaning (lane_to left end).desk bound sender (handed_front (lane_to left end).lane))
    reached.came.left (λ then. judged.fact.whole bound sender then) is
