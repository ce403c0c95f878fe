-- A reopening of a link whose state the manager knows.
use Rattle.std.proofs.Common.{◌≡◌, ◌<◌, ℕ, Bool, true, false, cond, eqb, List, [], ◌∷◌, map, length, refl, sym, ap, ◌∙◌, subst}
use Rattle.std.specs.Prelude.{Option, Some, None, fold, nat_lt}
use Rattle.std.specs.Option.{option_map, option_or}
use base.Stored.{Coded}
use Rattle.rp_base.specs.declared.kinds.Era.{Era}
use Rattle.lane_model.specs.declared.lane_links.LaneLink.{LaneLink}
use Rattle.lane_model.specs.declared.recoveries.Books.{Books}
use Rattle.lane_model.specs.declared.recoveries.ReopenFault.{ReopenFault}
use Rattle.lane_model.specs.declared.recoveries.ReopenFault.TheVariants as fault
use Rattle.lane_model.specs.declared.states.Holding.{Holding}
use Rattle.lane_model.specs.Crashes.{least_held, lesser}
use Rattle.lane_model.specs.Desks.{DeskMeaning}
use Rattle.lane_model.specs.Links.{link_of}
use Rattle.lane_model.specs.Recoveries.{link_after_reopen, link_reopen_refusal}
use Rattle.ring_core.specs.declared.states.Hand.{Hand}
use Rattle.ring_core.specs.declared.states.RingState.{RingState}
use Rattle.ring_core.specs.RingSteps.{holding_of, ring_form}
use Rattle.link_words.specs.declared.rule.Call.{Call}
use Rattle.link_words.specs.declared.rule.LinkSizes.{LinkSizes}
use Rattle.link_words.specs.declared.rule.ReceiverSide.{ReceiverSide}
use Rattle.link_words.specs.declared.rule.SenderSide.{SenderSide}
use Rattle.link_words.specs.declared.rule.Slot.{Slot}
use Rattle.link_words.specs.declared.rule.View.{View}
use Rattle.link_words.specs.Calls.{SeatState}
use Rattle.link_words.specs.Codes.{copied}
use Rattle.link_words.specs.Deeds.{Opens, after_deed}
use Rattle.link_words.specs.Histories.{books_of}
use Rattle.link_words.specs.PlacedDesks.{placed_coded}
use Rattle.link_words.specs.PlacedLinks.{IsSameCarrier, KnowsState, placed_link}
use Rattle.link_words.specs.Reopens.{KeepsCopy, OpensLink, books_by, both_sides, least_hand, lesser_hand}
use Rattle.link_words.specs.declared.copies.LinkCopy.{LinkCopy}
use Rattle.link_words.specs.Seats.{LearnsEra}
use Rattle.link_words.specs.Steps.{LooksAtLink}
use Rattle.link_words.specs.Sides.{sides_at}
use Rattle.link_words.specs.Words.{era_word, lane_to}
use Rattle.link_words.proofs.Closes.{era_of_word}
use Rattle.link_words.proofs.Placed.{state_after}
use Rattle.split_ring.specs.Gathers.{IsCalling}
use Rattle.split_ring.specs.Reopens.{AreTold, refusal_from}
use Rattle.split_ring.specs.States.{AreSidesOf, all_left, all_taken, turns_out}
use Rattle.split_ring.proofs.Gathering.{manager_at}
use Rattle.split_ring.proofs.StateSteps.{nothing_out}

-- the copy stayed, and so does what it says
pub still_known : {D : Type 0} (coded : Coded D) (me me' : SeatState) (m : LaneLink (RingState D)) → KeepsCopy me me' → IsSameCarrier me.0 me'.0 → KnowsState coded me.0 m → KnowsState coded me'.0 m
still_known coded me me' m keeps same knows = record {
  manages = same.manages;
  carries = same.out ∙ knows.carries;
  copy = keeps _ knows.carries knows.copy ∙ ap (λ (z : LinkSizes). Some (copied (placed_coded coded z.desks) (placed_link coded z.desks m))) (sym same.sizes);
}

-- the state behind the opening
pub known_opened : {D : Type 0} (coded : Coded D) (meaning : DeskMeaning D) (me me' : SeatState) (m : LaneLink (RingState D)) → OpensLink coded meaning me me' → IsSameCarrier me.0 me'.0 → KnowsState coded me.0 m → KnowsState coded me'.0 (after_deed meaning m Opens)
known_opened coded meaning me me' m opens same knows = state_after coded meaning Opens me.0 me'.0 opens.state m knows same (λ k was. opens.copy k knows.carries was)

-- with its four turns left it is the link behind a reopening
pub opened_left : {D : Type 0} (meaning : DeskMeaning D) (m : LaneLink (RingState D)) → all_left meaning (after_deed meaning m Opens) ≡ link_after_reopen (ring_form meaning) m
opened_left meaning m = refl

-- and it does not matter whose the turns were
pub reopened_taken : {D : Type 0} (meaning : DeskMeaning D) (m : LaneLink (RingState D)) → link_after_reopen (ring_form meaning) (all_taken meaning m) ≡ link_after_reopen (ring_form meaning) m
reopened_taken meaning m = refl

-- the era that the manager found is that of the state
pub era_known : {D : Type 0} (coded : Coded D) (meaning : DeskMeaning D) (me me' : SeatState) (n : ℕ) (found : Era) (m : LaneLink (RingState D)) → LearnsEra me n me' → LooksAtLink coded meaning n me → ((era : Era) → n ≡ era_word era → era.inc < 4294967296 → found ≡ era) → KnowsState coded me.0 m → m.era ≡ found
era_known coded meaning me me' n found m told looks reads knows =
    sym (reads told.0 told.1 told.2 ∙ era_of_word told.0 m.era (sym told.1 ∙ (looks.found ∙ ap (λ (c : LinkCopy). era_word c.state.era) (sym (looks.copy _ knows.carries knows.copy)))))

-- and it knows the state still
pub known_learned : {D : Type 0} (coded : Coded D) (me me' : SeatState) (n : ℕ) (m : LaneLink (RingState D)) → LearnsEra me n me' → KnowsState coded me.0 m → KnowsState coded me'.0 m
known_learned coded me me' n m told knows = subst (λ (s : SeatState). KnowsState coded s.0 m) (sym told.3) (record { manages = knows.manages; carries = knows.carries; copy = knows.copy })

-- the least of what is in hand, without the buffers
lesser_map : (least : Option Hand) (h : Hand) → lesser (option_map holding_of least) (holding_of h) ≡ option_map holding_of (lesser_hand least h)
lesser_map None h = refl
lesser_map (Some x) h = go (nat_lt h.number x.number)
  where
    go : (b : Bool) → cond b (Some (holding_of h)) (Some (holding_of x)) ≡ option_map holding_of (cond b (Some h) (Some x))
    go true = refl
    go false = refl

least_from : (hands : List Hand) (least : Option Hand) → fold lesser (option_map holding_of least) (map holding_of hands) ≡ option_map holding_of (fold lesser_hand least hands)
least_from [] least = refl
least_from (h ∷ hands) least = ap (λ (l : Option Holding). fold lesser l (map holding_of hands)) (lesser_map least h) ∙ least_from hands (lesser_hand least h)

abbrev held_fault : Holding → ReopenFault
held_fault h = fault.StillHeld h.caller h.number

abbrev hand_fault : Hand → ReopenFault
hand_fault h = fault.StillHeld h.caller h.number

either_hand : (a b : Option Hand) → option_map held_fault (option_or (option_map holding_of a) (option_map holding_of b)) ≡ option_map hand_fault (option_or a b)
either_hand None None = refl
either_hand None (Some y) = refl
either_hand (Some x) b = refl

-- why a closed link with four free turns is not reopened: by what their side states hold
pub unopened_is : {D : Type 0} (meaning : DeskMeaning D) (m : LaneLink (RingState D)) (inc : ℕ) (x u : SenderSide) (y w : ReceiverSide) → m.era ≡ record { inc = inc; is_live = false } → AreSidesOf m.to_host x y → AreSidesOf m.to_remote u w
    → link_reopen_refusal (link_of (ring_form meaning) m) ≡ refusal_from y.hands w.hands inc
unopened_is meaning m inc x u y w era host remote =
    let none = nothing_out m x u y w host remote in
    let least : option_map held_fault (option_or (least_held m.to_host.lane.lane.held) (least_held m.to_remote.lane.lane.held)) ≡ option_map hand_fault (option_or (least_hand y.hands) (least_hand w.hands))
    = (λ i. option_map held_fault (option_or (least_held (sym host.held i)) (least_held (sym remote.held i))))
    ∙ ((λ i. option_map held_fault (option_or (least_from y.hands None i) (least_from w.hands None i))) ∙ either_hand (least_hand y.hands) (least_hand w.hands)) in
    λ i. option_or (cond (era i).is_live (Some (fault.StillOpen (era i))) None) (option_or (option_map fault.StillTurn (none i)) (option_or (least i) (cond (eqb (era i).inc 4294967295) (Some fault.IncarnationsSpent) None)))

abbrev behind_turns : {D : Type 0} → LaneLink (RingState D) → Option ReopenFault
behind_turns m = option_or (option_map held_fault (option_or (least_held m.to_host.lane.lane.held) (least_held m.to_remote.lane.lane.held))) (cond (eqb m.era.inc 4294967295) (Some fault.IncarnationsSpent) None)

-- a live one
pub unopened_live : {D : Type 0} (meaning : DeskMeaning D) (m : LaneLink (RingState D)) (era : Era) → m.era ≡ era → m.era.is_live ≡ true → link_reopen_refusal (link_of (ring_form meaning) m) ≡ Some (fault.StillOpen era)
unopened_live meaning m era is live = (λ i. option_or (cond (live i) (Some (fault.StillOpen m.era)) None) (option_or (option_map fault.StillTurn (turns_out m)) (behind_turns m))) ∙ ap (λ (e : Era). Some (fault.StillOpen e)) is

-- one with a turn out
pub unopened_turn : {D : Type 0} (meaning : DeskMeaning D) (m : LaneLink (RingState D)) (inc holder : ℕ) → m.era ≡ record { inc = inc; is_live = false } → turns_out m ≡ Some holder → link_reopen_refusal (link_of (ring_form meaning) m) ≡ Some (fault.StillTurn holder)
unopened_turn meaning m inc holder era out = (λ i. option_or (cond (era i).is_live (Some (fault.StillOpen (era i))) None) (option_or (option_map fault.StillTurn (turns_out m)) (behind_turns m))) ∙ (λ i. option_or (option_map fault.StillTurn (out i)) (behind_turns m))

-- the books by the side states are those of the state
pub told_books : {D : Type 0} (m : LaneLink (RingState D)) (books : Books) (x u : SenderSide) (y w : ReceiverSide) → AreSidesOf m.to_host x y → AreSidesOf m.to_remote u w → AreTold books (λ e. books_by (sides_at e (both_sides x y) (both_sides u w))) → AreTold books (λ e. books_of (lane_to m e))
told_books m books x u y w host remote told = record {
  to_host = told.to_host ∙ ap (λ (s : SenderSide). s.entries) host.sender;
  to_host_takers = told.to_host_takers ∙ host.takers;
  to_host_handed = told.to_host_handed ∙ ap (λ (l : List ℕ). length l) host.takers;
  to_remote = told.to_remote ∙ ap (λ (s : SenderSide). s.entries) remote.sender;
  to_remote_takers = told.to_remote_takers ∙ remote.takers;
  to_remote_handed = told.to_remote_handed ∙ ap (λ (l : List ℕ). length l) remote.takers;
}

-- the same manager by another view, but for its own call
pub carried_on : (v w : View) (call call' : Call) (slots slots' : List (ℕ × Slot)) (me me' : SeatState) → w.out ≡ v.out → w.sizes ≡ v.sizes → IsCalling v call slots me → IsCalling w call' slots' me' → IsSameCarrier me.0 me'.0
carried_on v w call call' slots slots' me me' out sizes c c' = let own = manager_at w call' slots' me' c' in record {
  manages = (own.mover.place, own.mover.pass, own.mover.here, own.number);
  out = ap (λ (s : SeatState). s.0.out) c'.is ∙ (out ∙ sym (ap (λ (s : SeatState). s.0.out) c.is));
  sizes = ap (λ (s : SeatState). s.0.sizes) c'.is ∙ (sizes ∙ sym (ap (λ (s : SeatState). s.0.sizes) c.is));
}
