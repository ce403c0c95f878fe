-- What a whole give takes from the buffers in hand: the one that it gives back is gone, or all stay where another had the turn.
use Rattle.std.proofs.Common.{◌≡◌, ℕ, map, List, Option, Some, None, IsSomeAnd, Result, Ok, Err, refl, sym, ap, subst, ◌∙◌}
use Rattle.std.specs.Prelude.{Vec, vec_capacity}
use Rattle.std.specs.declared.alloc.Global.{Global}
use mathlib.Core.Option.{some}
use lib.ListN.{get_elem?}
use Rattle.rp_base.specs.declared.kinds.End.{End}
use Rattle.lane_model.specs.declared.calls.Ask.TheVariants as ask
use Rattle.lane_model.specs.declared.calls.CallEnd.{CallEnd}
use Rattle.lane_model.specs.declared.calls.Wish.TheVariants as wish
use Rattle.lane_model.specs.declared.states.Holding.{Holding}
use Rattle.lane_model.specs.Conditions.{MayEndStep, MayStep}
use Rattle.lane_model.specs.HeldBuffers.{HeldBuffer}
use Rattle.lane_model.specs.Links.{end_of}
use Rattle.link_words.specs.Passes.{HasNumber}
use Rattle.link_words.specs.Words.{other}
use Rattle.split_ring.specs.CallPhases as phase
use Rattle.split_ring.specs.declared.gives.GiveBusy.{GiveBusy}
use Rattle.split_ring.specs.Calls.{call_end, give_answer}
use Rattle.split_ring.specs.Carried.{MayAskBy, carried_seat}
use Rattle.split_ring.proofs.CarriedStates.{known_of}
use Rattle.managed_link.specs.declared.hands.Hand.{Hand}
use Rattle.managed_link.specs.declared.links.ManagedLink.TheInside.{Inside}
use Rattle.managed_link.specs.declared.views.LaneView.{LaneView}
use Rattle.managed_link.specs.EndCodes.{end_coded}
use Rattle.managed_link.specs.Hands.{AreSome, IsHandAt, holding_of}
use Rattle.managed_link.specs.Known.{IsKnown, LinkRings, lists_of}
use Rattle.managed_link.specs.Managed.{AreHandsOf, IsHandOf, IsManaged, ShowsViews, caller_id}
use Rattle.managed_link.specs.Settles.{IsHere, held_behind, incoming_view, outgoing_view}
use Rattle.managed_link.specs.Steps.{of_end}
use Rattle.managed_link.proofs.HandLists.{place_found}
use Rattle.managed_link.proofs.StepGives.{can_give, own_held}
use Rattle.managed_link.proofs.StepHands.{hand_kept, hands_here}
use Rattle.managed_link.proofs.StepManaged.{hands_at, may_begin}
use Rattle.managed_link.proofs.StepSettles.{held_known, not_in_none}
use Rattle.managed_link.proofs.WholeSteps.{HasCalled, IsLink, Left, WholeCall, called_step, idle_at, incoming, is_link, none_out, outgoing, own_before, own_hands, rests_out}

-- before it: the buffer that is to be given back is here, and is one of the caller
module _ (s : Inside) (n number : ℕ) (is : IsLink s) (may : MayStep (lists_of s.known.0) n (Some (wish.Give number))) (follows : ℕ) where
  abbrev MayGive : Type 0
  MayGive = (end : End) × (held : HeldBuffer) × (held.number ≡ number) × MayAskBy s.shared s.manager (caller_id n end follows) (ask.Give held)

  module _ (e : End) (user : end_of s.known.0.callers n ≡ Some e) where
    abbrev Hands : Vec Hand Global
    Hands = of_end e s.host s.remote

    mine : AreHandsOf s.known.0 e s.calls.items Hands
    mine = hands_at s.shared s.manager s.calls.items s.host s.remote s.known.0 is.0 e

    is_here : IsHere Hands.items number n
    is_here = can_give s.known.0 e s.calls.items Hands n (wish.Give number) mine (rests_out s n (wish.Give number) is may e user) (may_begin s.known.0 n e (wish.Give number) user may).1

    gives_at : (place : ℕ) (hand : Hand) (found : Option HeldBuffer) → IsHandAt Hands.items number n place hand → found ≡ hand.held → IsSomeAnd found (λ held. held.number ≡ number) → MayGive
    gives_at place hand None at here same = absurd same
    gives_at place hand (Some held) at here same = let who = caller_id n e follows in let idle = idle_at s n (wish.Give number) is may e user follows in
        let seat = known_of end_coded s.shared s.manager s.known.0 who phase.Ended is.0.manages is.0.state idle in
        (e, held, same, (idle, own_held who s.known.0 s.calls.items Hands held place hand (carried_seat who phase.Ended s.manager) mine seat.2 (subst (λ k. IsHandAt Hands.items k n place hand) (sym same) at) here))

    gives : MayGive
    gives = let found = place_found Hands.items number n is_here.listed in let at = found.2 in gives_at found.0 at.0 at.0.held at.1 refl (is_here.held found.0 at.0 at.1)

  pub may_give : MayGive
  may_give = by (end_of s.known.0.callers n) refl may.may
    where
      by : (found : Option End) → end_of s.known.0.callers n ≡ found → MayEndStep (lists_of s.known.0) found n (Some (wish.Give number)) → MayGive
      by None user there = absurd there
      by (Some e) user there = gives e user

-- behind it: each buffer that is still here is one of its caller
module _ {w : WholeCall} (r : Result ℕ GiveBusy) (own : Vec Hand Global) (h : HasCalled w (give_answer r)) where
  some_own : AreSome (own_hands w).items own.items → (place : ℕ) (hand : Hand) → get_elem? own.items place ≡ some hand → IsHandOf (Left h) w.who.end w.link.calls.items hand hand.held
  some_own among place hand here = let was = among place hand here in
      hand_kept w.who w.link.known.0 (Left h) w.link.calls.items w.link.calls.items (called_step h) (own_hands w) was.0 hand (own_before h) was.1
      (λ mine has. not_in_none hand.number (subst (λ (list : List ℕ). HasNumber list hand.number) (none_out h) has))

  given_hands : map holding_of own.items ≡ held_behind (call_end (give_answer r)) w.who.number (map holding_of (own_hands w).items) → AreSome (own_hands w).items own.items → vec_capacity own ≡ vec_capacity (own_hands w)
      → AreHandsOf (Left h) w.who.end w.link.calls.items own
  given_hands listed among room = let of = own_before h in
      hands_here w.who w.link.known.0 (Left h) w.link.calls.items w.link.calls.items (called_step h) (own_hands w) own of
      (listed ∙ (ap (λ (list : List Holding). held_behind (call_end (give_answer r)) w.who.number list) of.listed
      ∙ sym (held_known w.who (phase.LeavesReceiver (give_answer r)) w.link.known.0 (Left h) h.told.2.settles))) room (some_own among)

gave_outgoing : (r : Result ℕ GiveBusy) (view : LaneView) → view ≡ outgoing_view (call_end (give_answer r)) view
gave_outgoing (Ok given) view = refl
gave_outgoing (Err busy) view = refl

-- the link behind it
pub is_given : {w : WholeCall} (r : Result ℕ GiveBusy) (ended : CallEnd) (host remote : Vec Hand Global) (to_host to_remote : LaneView) → HasCalled w (give_answer r) → ended ≡ call_end (give_answer r)
    → map holding_of (of_end w.who.end host remote).items ≡ held_behind ended w.who.number (map holding_of (own_hands w).items) → AreSome (own_hands w).items (of_end w.who.end host remote).items
    → vec_capacity (of_end w.who.end host remote) ≡ vec_capacity (own_hands w) → of_end (other w.who.end) host remote ≡ of_end (other w.who.end) w.link.host w.link.remote
    → of_end w.who.end to_host to_remote ≡ incoming_view ended (incoming w) → of_end (other w.who.end) to_host to_remote ≡ outgoing w
    → (x : LinkRings) → IsKnown w.after x → IsManaged w.link.shared w.after w.link.calls.items host remote x × ShowsViews w.link.era to_host to_remote x
is_given {w} r ended host remote to_host to_remote h is listed among room beside into view =
    is_link h host remote to_host to_remote (given_hands r (of_end w.who.end host remote) h (listed ∙ ap (λ (end : CallEnd). held_behind end w.who.number (map holding_of (own_hands w).items)) is) among room) beside
    (into ∙ ap (λ (end : CallEnd). incoming_view end (incoming w)) is) (view ∙ gave_outgoing r (outgoing w))
