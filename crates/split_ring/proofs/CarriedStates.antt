-- What the state that a manager knows says of the callers that it carries.
use Rattle.std.proofs.Common.{◌≡◌, ℕ, refl, sym, ap, ◌∙◌}
use Rattle.std.specs.Prelude.{◌&&◌, not, Some}
use base.Stored.{Coded}
use Rattle.rp_base.specs.declared.kinds.End.{End}
use Rattle.rp_base.specs.declared.kinds.End.TheVariants as side
use Rattle.lane_model.specs.declared.lane_links.LaneLink.{LaneLink}
use Rattle.lane_model.specs.Lanes.{has_call}
use Rattle.lane_model.specs.Links.{end_of}
use Rattle.ring_core.specs.declared.states.RingState.{RingState}
use Rattle.link_words.specs.declared.codes.DeskTables.{DeskTables}
use Rattle.link_words.specs.declared.copies.LinkCopy.{LinkCopy}
use Rattle.link_words.specs.declared.rule.LinkSizes.{LinkSizes}
use Rattle.link_words.specs.Calls.{SeatState}
use Rattle.link_words.specs.Codes.{copied}
use Rattle.link_words.specs.Histories.{books_of, hands_of}
use Rattle.link_words.specs.Orderly.{has_receive, has_send}
use Rattle.link_words.specs.Passes.{place_of_number}
use Rattle.link_words.specs.PlacedDesks.{placed_coded}
use Rattle.link_words.specs.PlacedLinks.{placed_link}
use Rattle.link_words.specs.Words.{lane_to, other}
use Rattle.split_ring.specs.declared.callers.CallerId.{CallerId}
use Rattle.split_ring.specs.declared.callers.Manager.{Manager}
use Rattle.split_ring.specs.CallPhases.{Phase}
use Rattle.split_ring.specs.declared.ends.TurnHeld.{TurnHeld}
use Rattle.split_ring.specs.declared.ends.TurnHeld.TheVariants as held
use Rattle.split_ring.specs.declared.links.SharedLink.{SharedLink}
use Rattle.split_ring.specs.Callers.{IsManagerOf, IsStateOf}
use Rattle.split_ring.specs.Carried.{Carries, carried_seat, turned_to}
use Rattle.split_ring.specs.Phases.{side_of}
use Rattle.split_ring.specs.Reclaims.{HasTurnHeld, is_turn, lacks_receiver, turn_in}
use Rattle.split_ring.specs.Seats.{pass_in}
use Rattle.split_ring.proofs.Carrying.{phase_at}
use Rattle.split_ring.proofs.CarriedSteps.{pass_there}
use Rattle.split_ring.proofs.Focusing.{low_own}
use Rattle.split_ring.proofs.TurnsHeld.{turn_stands}

-- the turns that the call of a seat has
turns_had : (z : LinkSizes) (who : CallerId) (t : TurnHeld) (me : SeatState) → HasTurnHeld z who t me → (has_send (pass_in me).call ≡ (is_turn t && lacks_receiver t)) × (has_receive (pass_in me).call ≡ not (lacks_receiver t))
turns_had z who held.Neither me at = (ap has_send at.in_call, ap has_receive at.in_call)
turns_had z who held.Sender me h = (ap has_send h.at.in_call, ap has_receive h.at.in_call)
turns_had z who held.SenderAndBuffer me h = (ap has_send h.at.in_call, ap has_receive h.at.in_call)
turns_had z who held.Receiver me h = (ap has_send h.at.in_call, ap has_receive h.at.in_call)
turns_had z who held.ReceiverAndBuffer me h = (ap has_send h.at.in_call, ap has_receive h.at.in_call)

module _ {D : Type 0} (coded : Coded D) (tables : DeskTables) (m : LaneLink (RingState D)) where
  abbrev Copy : LinkCopy
  Copy = copied (placed_coded coded tables) (placed_link coded tables m)

  sender_in : (e : End) (n : ℕ) → has_call (lane_to Copy.state e).lane.sender n ≡ has_call (lane_to m e).lane.sender n
  sender_in side.Host n = refl
  sender_in side.Remote n = refl

  receiver_in : (e : End) (n : ℕ) → has_call (lane_to Copy.state e).lane.receiver n ≡ has_call (lane_to m e).lane.receiver n
  receiver_in side.Host n = refl
  receiver_in side.Remote n = refl

  held_in : (e : End) (n : ℕ) → hands_of n (books_of (lane_to Copy.state e)).held ≡ hands_of n (lane_to m e).lane.lane.held
  held_in side.Host n = refl
  held_in side.Remote n = refl

pub known_of : {D : Type 0} (coded : Coded D) (link : SharedLink D) (manager : Manager) (m : LaneLink (RingState D)) (who : CallerId) (p : Phase) → IsManagerOf link manager → IsStateOf coded manager m → Carries link manager who p
    → (has_call (lane_to m (other who.end)).lane.sender who.number ≡ (is_turn (turn_in p) && lacks_receiver (turn_in p))) × (has_call (lane_to m who.end).lane.receiver who.number ≡ not (lacks_receiver (turn_in p)))
    × (hands_of who.number (lane_to m who.end).lane.lane.held ≡ (pass_in (carried_seat who p manager)).hands)
known_of coded link manager m who p of is c =
    let me = manager.seat.me in let at = carried_seat who p manager in let q = pass_in at in let n = who.number in let tables = me.0.sizes.desks in let k = place_of_number n me.0.passes in
    let there = pass_there n (me.0, turned_to (side_of who.end p) manager.out me.1) who p (phase_at link.sizes who p at c.stands) in
    let known = of.order.known is.known.manages is.known.carries (Copy coded tables m) is.known.copy k q there (λ same. low_own n c.low (sym c.number ∙ same)) in
    let user : end_of m.callers q.number ≡ Some who.end = (λ i. end_of (sym is.users i) (c.number i)) ∙ c.user in
    let turns = turns_had link.sizes who (turn_in p) at (turn_stands link.sizes who who.follows p at c.stands) in let e = who.end in (
      sym (sender_in coded tables m (other e) n) ∙ (ap (λ (j : ℕ). has_call (lane_to (Copy coded tables m).state (other e)).lane.sender j) (sym c.number) ∙ (known.sends e user ∙ turns.0)),
      sym (receiver_in coded tables m e n) ∙ (ap (λ (j : ℕ). has_call (lane_to (Copy coded tables m).state e).lane.receiver j) (sym c.number) ∙ (known.receives e user ∙ turns.1)),
      sym (held_in coded tables m e n) ∙ (ap (λ (j : ℕ). hands_of j (books_of (lane_to (Copy coded tables m).state e)).held) (sym c.number) ∙ known.hands e user),
    )
