-- What holds of the way of a link, and of what is told on it.
use Rattle.std.proofs.Common.{◌≡◌, ◌≤◌, ℕ, ◌+◌, length, false, List, [], ◌∷◌, ◌++◌, filter, refl, sym, ap, subst, ◌∙◌, arith}
use Rattle.std.proofs.lemmas.List.{append_assoc, length-append, map-append}
use Rattle.std.proofs.lemmas.List.Elements.{filter-append}
use Rattle.rp_base.specs.declared.kinds.End.{End}
use Rattle.rp_base.specs.declared.kinds.BoundEndpoint.{BoundEndpoint}
use Rattle.lane_model.specs.declared.calls.LinkConfig.{LinkConfig}
use Rattle.lane_model.specs.Desks.{DeskMeaning, AreDeskLaws, IsFreshDesk, IsBound}
use Rattle.lane_model.specs.Forms.{list_form}
use Rattle.lane_model.specs.Links.{LinkState, opened_link}
use Rattle.lane_model.specs.Recoveries.{link_after_reopen}
use Rattle.lane_laws.specs.Handings.{Handing, IsPrefix, messages_of, with_numbers, handed_front, got, due, is_got}
use Rattle.lane_laws.specs.Moves.{Move, lane_to, MayMoves, Recorded, no_handings, handings_to, after_move, after_moves, WasBound}
use Rattle.lane_laws.specs.Ways.{IsOpened, Way, way_on, link_after_moves, link_of_way, history, IsWay, WasBoundOnWay}
use Rattle.lane_laws.specs.Takes.{way_takes, IsTold, Level, Lost}
use Rattle.lane_laws.proofs.LinkRuns.{opened_new, reopened_new, judged_after, traced_after, moves_record_none}
use Rattle.lane_laws.proofs.Traces.{traced_front}
use Rattle.lane_laws.proofs.Told.{way_told, at_most_one}

pub opened : {D : Type 0} (desk : DeskMeaning D) (config : LinkConfig) (host remote : D) → IsFreshDesk desk host → IsFreshDesk desk remote → IsOpened desk (opened_link config host remote)
opened desk config host remote fresh_host fresh_remote = record {
  new = opened_new desk config host remote fresh_host fresh_remote;
  to_host = record { accepted = refl; takers = refl; held = refl; returned = refl; sender = refl; receiver = refl };
  to_remote = record { accepted = refl; takers = refl; held = refl; returned = refl; sender = refl; receiver = refl };
}

pub reopened : {D : Type 0} (desk : DeskMeaning D) → AreDeskLaws desk → (link : LinkState D) → IsOpened desk (link_after_reopen (list_form desk) link)
reopened desk laws link = record {
  new = reopened_new desk laws link;
  to_host = record { accepted = refl; takers = refl; held = refl; returned = refl; sender = refl; receiver = refl };
  to_remote = record { accepted = refl; takers = refl; held = refl; returned = refl; sender = refl; receiver = refl };
}

-- ---- moves, one after the other

pub after_moves_link : {D : Type 0} (desk : DeskMeaning D) (now : Recorded D) (moves : List Move) → (after_moves desk now moves).link ≡ link_after_moves desk now.link moves
after_moves_link desk now [] = refl
after_moves_link desk now (move ∷ moves) = after_moves_link desk (after_move desk now move) moves

pub after_both : {D : Type 0} (desk : DeskMeaning D) (now : Recorded D) (one other : List Move) → after_moves desk now (one ++ other) ≡ after_moves desk (after_moves desk now one) other
after_both desk now [] other = refl
after_both desk now (move ∷ moves) other = after_both desk (after_move desk now move) moves other

may_split : {D : Type 0} (desk : DeskMeaning D) (now : Recorded D) (one other : List Move) → MayMoves desk now.link (one ++ other)
    → MayMoves desk now.link one × MayMoves desk (after_moves desk now one).link other
may_split desk now [] other may = (tt, may)
may_split desk now (move ∷ moves) other may = let later = may_split desk (after_move desk now move) moves other may.1 in ((may.0, later.0), later.1)

pub leads : {D : Type 0} (desk : DeskMeaning D) (way : Way D) → (history desk way).link ≡ link_of_way desk way
leads desk way = after_moves_link desk (no_handings way.start) way.moves

-- ---- what is told, as a front of what was handed over

-- what was handed over and not told is one handing or none
record Rest {D : Type 0} (end : End) (now : Recorded D) (told : List Handing) : Type 0 where
  pub rest : List Handing
  pub is : handings_to now end ≡ told ++ rest
  pub most : length rest ≤ 1

rest_of : {D : Type 0} (end : End) (now : Recorded D) (told : List Handing) → IsTold end now told → Rest end now told
rest_of end now told (Level is) = record { rest = _; is = is; most = at_most_one (lane_to now.link end).lane.accepted (lane_to now.link end).receiver }
rest_of end now told (Lost lost shut none is) = record { rest = lost ∷ []; is = is; most = omega arith }

module _ {D : Type 0} (desk : DeskMeaning D) (laws : AreDeskLaws desk) (way : Way D) (is : IsWay desk way) (end : End) where
  begins : IsPrefix (way_takes desk way end) (handings_to (history desk way) end)
  begins = let one = rest_of end (history desk way) _ (way_told desk way end is) in record { rest = one.rest; is = one.is }

  -- the messages told are the first of the book, in order, each number once
  pub told_once : IsPrefix (messages_of (way_takes desk way end)) (with_numbers 0 (handed_front (lane_to (link_of_way desk way) end).lane))
  told_once =
      let once = (judged_after desk laws way.start way.moves end is.opened.new is.may).fact.once in
      subst (λ whole. IsPrefix (messages_of (way_takes desk way end)) whole)
      (once ∙ ap (λ (link : LinkState D). with_numbers 0 (handed_front (lane_to link end).lane)) (leads desk way))
      (record { rest = messages_of begins.rest; is = ap messages_of begins.is ∙ map-append (λ (h : Handing). h.sent) (way_takes desk way end) begins.rest })

  module _ (bound : BoundEndpoint) (was : WasBoundOnWay desk way end bound) where
    both : MayMoves desk way.start was.before × MayMoves desk (after_moves desk (no_handings way.start) was.before).link was.since
    both = may_split desk (no_handings way.start) was.before was.since (subst (λ (moves : List Move). MayMoves desk way.start moves) was.parts is.may)

    was_bound : WasBound desk way.start was.before was.since end bound
    was_bound = record {
      new = is.opened.new;
      came = both.0;
      bound_then = subst (λ (link : LinkState D). IsBound desk (lane_to link end).desk bound) (sym (after_moves_link desk (no_handings way.start) was.before)) was.bound_then;
      went_on = both.1;
    }

    -- the way's history, cut where the endpoint was bound
    cut : after_moves desk (after_moves desk (no_handings way.start) was.before) was.since ≡ history desk way
    cut = sym (after_both desk (no_handings way.start) was.before was.since) ∙ ap (λ (moves : List Move). after_moves desk (no_handings way.start) moves) (sym was.parts)

    handed_due : (sender : ℕ) → IsPrefix (got bound.endpoint sender (handings_to (history desk way) end)) (due desk (lane_to (link_of_way desk way) end).desk bound sender (lane_to (link_of_way desk way) end).lane.accepted)
    handed_due sender =
        subst (λ (link : LinkState D). IsPrefix (got bound.endpoint sender (handings_to (history desk way) end)) (due desk (lane_to link end).desk bound sender (lane_to link end).lane.accepted)) (leads desk way)
        (subst (λ (now : Recorded D). IsPrefix (got bound.endpoint sender (handings_to now end)) (due desk (lane_to now.link end).desk bound sender (lane_to now.link end).lane.accepted)) cut
        (traced_front desk bound _ _ _ _ sender (traced_after desk laws way.start was.before was.since end bound was_bound).fact))

    -- what an endpoint is told to have got from a sender is how that begins which is due to it
    pub told_due : (sender : ℕ) → IsPrefix (got bound.endpoint sender (way_takes desk way end)) (due desk (lane_to (link_of_way desk way) end).desk bound sender (lane_to (link_of_way desk way) end).lane.accepted)
    told_due sender =
        let later = handed_due sender in
        let kept = filter (is_got bound.endpoint sender) in
        record {
          rest = got bound.endpoint sender begins.rest ++ later.rest;
          is =
              later.is
              ∙ ap (λ (l : List Handing). messages_of l ++ later.rest) (ap kept begins.is ∙ filter-append (is_got bound.endpoint sender) (way_takes desk way end) begins.rest)
              ∙ ap (λ l. l ++ later.rest) (map-append (λ (h : Handing). h.sent) (kept (way_takes desk way end)) (kept begins.rest))
              ∙ append_assoc (got bound.endpoint sender (way_takes desk way end)) (got bound.endpoint sender begins.rest) later.rest;
        }

-- ---- a closed incarnation

module _ {D : Type 0} (desk : DeskMeaning D) (way : Way D) (since : List Move) (end : End) (shut : (link_of_way desk way).era.is_live ≡ false) where
  pub shut_hands_none : handings_to (history desk (way_on way since)) end ≡ handings_to (history desk way) end
  shut_hands_none =
      ap (λ (now : Recorded D). handings_to now end) (after_both desk (no_handings way.start) way.moves since)
      ∙ moves_record_none desk (history desk way) since end (ap (λ (link : LinkState D). link.era.is_live) (leads desk way) ∙ shut)

  -- what is told on from there was handed over before, and is one handing more at most
  module _ (before : IsWay desk way) (is : IsWay desk (way_on way since)) where
    early : Rest end (history desk way) (way_takes desk way end)
    early = rest_of end _ _ (way_told desk way end before)

    later : Rest end (history desk (way_on way since)) (way_takes desk (way_on way since) end)
    later = rest_of end _ _ (way_told desk (way_on way since) end is)

    pub shut_begins : IsPrefix (way_takes desk (way_on way since) end) (handings_to (history desk way) end)
    shut_begins = record { rest = later.rest; is = sym shut_hands_none ∙ later.is }

    pub shut_most : length (way_takes desk (way_on way since) end) ≤ length (way_takes desk way end) + 1
    shut_most =
        let same : way_takes desk way end ++ early.rest ≡ way_takes desk (way_on way since) end ++ later.rest = sym early.is ∙ sym shut_hands_none ∙ later.is in
        let lengths = sym (length-append (way_takes desk way end) early.rest) ∙ ap length same ∙ length-append (way_takes desk (way_on way since) end) later.rest in
        let most = early.most in
        omega (arith, lengths, most)
