-- The state behind the reclaim of a caller that the manager carries, and why a reclaim is refused, by the state that the manager knew.
use Rattle.std.proofs.Common.{◌≡◌, ℕ, Bool, true, false, cond, eqb, List, [], ◌∷◌, ◌++◌, refl, sym, ap, ◌∙◌, subst}
use Rattle.std.specs.Prelude.{◌&&◌, ◌||◌, not, map, Option, Some, None, slice_set, option_and_then}
use Rattle.std.specs.Option.{option_map}
use mathlib.Core.Option.{some-ne-none}
use base.Stored.{Coded}
use Rattle.rp_base.specs.declared.kinds.End.{End}
use Rattle.rp_base.specs.declared.kinds.End.TheVariants as side
use Rattle.rp_base.specs.declared.kinds.Era.{Era}
use Rattle.lane_model.specs.declared.lane_links.LaneLink.{LaneLink}
use Rattle.lane_model.specs.declared.recoveries.LaneTurn.TheVariants as lane_turn
use Rattle.lane_model.specs.declared.recoveries.ReclaimPart.{ReclaimPart}
use Rattle.lane_model.specs.declared.recoveries.ReclaimPart.TheVariants as part
use Rattle.lane_model.specs.declared.recoveries.ReclaimRefusal.{ReclaimRefusal}
use Rattle.lane_model.specs.declared.recoveries.ReclaimRefusal.TheVariants as refusal
use Rattle.lane_model.specs.declared.stages.Receiving.{Receiving}
use Rattle.lane_model.specs.declared.stages.Turn.{Turn}
use Rattle.lane_model.specs.declared.stages.Turn.TheVariants as turn
use Rattle.lane_model.specs.declared.states.Holding.{Holding}
use Rattle.lane_model.specs.declared.states.LaneState.{LaneState}
use Rattle.lane_model.specs.Crashes.{has_held, needed_holder}
use Rattle.lane_model.specs.Desks.{DeskMeaning}
use Rattle.lane_model.specs.Lanes.{has_call, holder}
use Rattle.lane_model.specs.Links.{end_of, lanes_of, link_of}
use Rattle.lane_model.specs.Recoveries.{link_after_reclaim, link_reclaim_refusal, without_caller}
use Rattle.lane_laws.specs.Parts.{needs_turn, reclaim_parts}
use Rattle.lane_laws.specs.RingParts.{ring_part_done, ring_parts_done}
use Rattle.lane_laws.specs.SoundRingLinks.{HasSoundRings}
use Rattle.lane_laws.proofs.RingParts.{parts_whole}
use Rattle.ring_core.specs.declared.states.RingState.{RingState}
use Rattle.ring_core.specs.RingSteps.{ring_form}
use Rattle.ring_core.specs.SoundRings.{IsSoundRings}
use Rattle.link_words.specs.Calls.{SeatState}
use Rattle.link_words.specs.declared.codes.DeskTables.{DeskTables}
use Rattle.link_words.specs.Deeds.{Deed, EndsCall, Frees, LeavesTurn, ManagerTakes, after_deed}
use Rattle.link_words.specs.Histories.{hands_of}
use Rattle.link_words.specs.Passes.{HasNumber, Manages}
use Rattle.link_words.specs.PlacedDesks.{PlacedDesk}
use Rattle.link_words.specs.PlacedLinks.{KnowsState, placed_lane, placed_link}
use Rattle.link_words.specs.Seats.{EndsCaller}
use Rattle.link_words.specs.Steps.{FreesCaller, LooksAtLink}
use Rattle.link_words.specs.Words.{lane_to, other}
use Rattle.link_words.proofs.Placed.{state_after}
use Rattle.split_ring.specs.declared.callers.CallerId.{CallerId}
use Rattle.split_ring.specs.declared.callers.Manager.{Manager}
use Rattle.split_ring.specs.CallPhases.{Phase}
use Rattle.split_ring.specs.declared.ends.TurnHeld.{TurnHeld}
use Rattle.split_ring.specs.declared.ends.TurnHeld.TheVariants as held
use Rattle.split_ring.specs.declared.links.SharedLink.{SharedLink}
use Rattle.split_ring.specs.Callers.{IsManagerOf, IsStateOf}
use Rattle.split_ring.specs.Carried.{Carries, carried_seat}
use Rattle.split_ring.specs.Focus.{after_deeds}
use Rattle.split_ring.specs.PartsOf.{TellsHands}
use Rattle.split_ring.specs.Reclaims.{IsEndFault, IsRefusedIn, end_deeds, is_turn, lacks_receiver, turn_in}
use Rattle.split_ring.specs.Seats.{pass_in}
use Rattle.split_ring.proofs.CarriedStates.{known_of}
use Rattle.split_ring.proofs.Focusing.{known_is}

-- what a reclaim of a caller reads of the state of its link: it is sound, its era is closed, and the caller has this turn and holds something or nothing
pub record IsReclaimOf {D : Type 0} (m : LaneLink (RingState D)) (who : CallerId) (t : TurnHeld) (holds : Bool) : Type 0 where
  pub rings : HasSoundRings m
  pub closed : m.era.is_live ≡ false
  pub user : end_of m.callers who.number ≡ Some who.end
  pub in_hand : has_held (lane_to m who.end).lane.lane.held who.number ≡ holds
  pub sends : has_call (lane_to m (other who.end)).lane.sender who.number ≡ (is_turn t && lacks_receiver t)
  pub receives : has_call (lane_to m who.end).lane.receiver who.number ≡ not (lacks_receiver t)

-- the parts of a reclaim, by whether the manager needs the turn, and whether there is a call
abbrev parts_by : Bool → Bool → List ReclaimPart
parts_by needs calls = cond needs (part.TakesTurn ∷ []) [] ++ cond calls (part.EndsCall ∷ []) [] ++ cond needs (part.LeavesTurn ∷ []) [] ++ part.FreesNumber ∷ []

abbrev deed_by : CallerId → ReclaimPart → Deed
deed_by who part.TakesTurn = ManagerTakes lane_turn.Receiver who.end
deed_by who part.EndsCall = EndsCall who.end who.number
deed_by who part.LeavesTurn = LeavesTurn who.end who.number
deed_by who part.FreesNumber = Frees who.end who.number

-- those of a caller that has this turn are the deeds that end its call, and its number is freed
parts_deeds : (who : CallerId) (t : TurnHeld) (holds : Bool) → map (deed_by who) (parts_by (holds && lacks_receiver t) ((is_turn t && lacks_receiver t) || not (lacks_receiver t))) ≡ end_deeds who t holds ++ Frees who.end who.number ∷ []
parts_deeds who held.Neither false = refl
parts_deeds who held.Neither true = refl
parts_deeds who held.Sender false = refl
parts_deeds who held.Sender true = refl
parts_deeds who held.SenderAndBuffer false = refl
parts_deeds who held.SenderAndBuffer true = refl
parts_deeds who held.Receiver false = refl
parts_deeds who held.Receiver true = refl
parts_deeds who held.ReceiverAndBuffer false = refl
parts_deeds who held.ReceiverAndBuffer true = refl

not_not : (b : Bool) → not (not b) ≡ b
not_not true = refl
not_not false = refl

module _ {D : Type 0} (meaning : DeskMeaning D) where
  -- a part on rings is its deed
  part_is : (m : LaneLink (RingState D)) (number : ℕ) (e : End) (follows : ℕ) (which : ReclaimPart) → ring_part_done meaning m e number which ≡ after_deed meaning m (deed_by (record { number = number; end = e; follows = follows }) which)
  part_is m number side.Host follows part.TakesTurn = refl
  part_is m number side.Host follows part.EndsCall = refl
  part_is m number side.Host follows part.LeavesTurn = refl
  part_is m number side.Host follows part.FreesNumber = refl
  part_is m number side.Remote follows part.TakesTurn = refl
  part_is m number side.Remote follows part.EndsCall = refl
  part_is m number side.Remote follows part.LeavesTurn = refl
  part_is m number side.Remote follows part.FreesNumber = refl

  parts_are : (m : LaneLink (RingState D)) (who : CallerId) (parts : List ReclaimPart) → ring_parts_done meaning m who.end who.number parts ≡ after_deeds meaning m (map (deed_by who) parts)
  parts_are m who [] = refl
  parts_are m who (p ∷ ps) = parts_are (ring_part_done meaning m who.end who.number p) who ps ∙ ap (λ (x : LaneLink (RingState D)). after_deeds meaning x (map (deed_by who) ps)) (part_is m who.number who.end who.follows p)

  one_more : (m : LaneLink (RingState D)) (ds : List Deed) (d : Deed) → after_deeds meaning m (ds ++ d ∷ []) ≡ after_deed meaning (after_deeds meaning m ds) d
  one_more m [] d = refl
  one_more m (x ∷ ds) d = one_more (after_deed meaning m x) ds d

  -- the lanes of a caller, as lists
  incoming_is : (m : LaneLink (RingState D)) (e : End) → (lanes_of (link_of (ring_form meaning) m) e).incoming ≡ (lane_to m e).lane
  incoming_is m side.Host = refl
  incoming_is m side.Remote = refl

  outgoing_is : (m : LaneLink (RingState D)) (e : End) → (lanes_of (link_of (ring_form meaning) m) e).outgoing ≡ (lane_to m (other e)).lane
  outgoing_is m side.Host = refl
  outgoing_is m side.Remote = refl

  module _ (m : LaneLink (RingState D)) (who : CallerId) (t : TurnHeld) (holds : Bool) (r : IsReclaimOf m who t holds) where
    needs : needs_turn (lanes_of (link_of (ring_form meaning) m) who.end).incoming who.number ≡ (holds && lacks_receiver t)
    needs = ap (λ (s : LaneState D). needs_turn s who.number) (incoming_is m who.end) ∙ ((λ i. r.in_hand i && not (r.receives i)) ∙ ap (λ (b : Bool). holds && b) (not_not (lacks_receiver t)))

    parts_same : reclaim_parts (lanes_of (link_of (ring_form meaning) m) who.end) who.number ≡ parts_by (holds && lacks_receiver t) ((is_turn t && lacks_receiver t) || not (lacks_receiver t))
    parts_same = λ i. parts_by (needs i) (((λ j. has_call (outgoing_is m who.end j).sender who.number || has_call (incoming_is m who.end j).receiver who.number) ∙ (λ j. r.sends j || r.receives j)) i)

    -- why it is refused, by who has the turn that is needed
    unreclaimed_is : (x : Option ℕ) → cond holds (cond (not (lacks_receiver t)) None (holder (lane_to m who.end).lane.receiver)) None ≡ x → link_reclaim_refusal (link_of (ring_form meaning) m) who.number ≡ option_map refusal.Busy x
    unreclaimed_is x is =
        (λ i. cond (r.closed i) (Some (refusal.StillOpen m.era)) (option_map refusal.Busy (option_and_then (λ end. needed_holder (lanes_of (link_of (ring_form meaning) m) end).incoming who.number) (r.user i))))
        ∙ ap (option_map refusal.Busy) (ap (λ (s : LaneState D). needed_holder s who.number) (incoming_is m who.end)
        ∙ ((λ i. cond (r.in_hand i) (cond (r.receives i) None (holder (lane_to m who.end).lane.receiver)) None) ∙ is))

    none_needed : (h lacks : Bool) (x : Option ℕ) → (h ≡ true → lacks ≡ true → x ≡ None) → cond h (cond (not lacks) None x) None ≡ None
    none_needed false lacks x free = refl
    none_needed true false x free = refl
    none_needed true true x free = free refl refl

    some_needed : (h lacks : Bool) (x : Option ℕ) (found : ℕ) → h ≡ true → lacks ≡ true → x ≡ Some found → cond h (cond (not lacks) None x) None ≡ Some found
    some_needed h lacks x found holding lacking is = (λ i. cond (holding i) (cond (not (lacking i)) None (is i)) None)

    pub refused_by : (coded : Coded D) (why : ReclaimRefusal) → IsEndFault coded meaning who t holds why → IsRefusedIn who.end why m → link_reclaim_refusal (link_of (ring_form meaning) m) who.number ≡ Some why
    refused_by coded (refusal.StillOpen era) is met = absurd met
    refused_by coded (refusal.Busy found) is met = unreclaimed_is (Some found) (some_needed holds (lacks_receiver t) (holder (lane_to m who.end).lane.receiver) found is.1 is.2 met)

    -- where the turn that is needed is free nothing refuses it, and the deeds in their order are the reclaim
    pub nothing_refuses : (holds ≡ true → lacks_receiver t ≡ true → (lane_to m who.end).lane.receiver ≡ turn.Free) → link_reclaim_refusal (link_of (ring_form meaning) m) who.number ≡ None
    nothing_refuses free = unreclaimed_is None (none_needed holds (lacks_receiver t) (holder (lane_to m who.end).lane.receiver) (λ h l. ap (λ (x : Turn Receiving). holder x) (free h l)))

    pub state_reclaimed : (holds ≡ true → lacks_receiver t ≡ true → (lane_to m who.end).lane.receiver ≡ turn.Free)
        → record (after_deeds meaning m (end_deeds who t holds)) { callers = slice_set (after_deeds meaning m (end_deeds who t holds)).callers who.number None } ≡ link_after_reclaim (ring_form meaning) m who.number
    state_reclaimed free =
        sym (one_more m (end_deeds who t holds) (Frees who.end who.number)) ∙ (ap (after_deeds meaning m) (sym (parts_deeds who t holds))
        ∙ (sym (parts_are m who (parts_by (holds && lacks_receiver t) ((is_turn t && lacks_receiver t) || not (lacks_receiver t))))
        ∙ (ap (ring_parts_done meaning m who.end who.number) (sym parts_same) ∙ parts_whole meaning m who.end who.number r.rings r.user (nothing_refuses free))))

  pub live_by : (m : LaneLink (RingState D)) (number : ℕ) (era : Era) → m.era ≡ era → era.is_live ≡ true → link_reclaim_refusal (link_of (ring_form meaning) m) number ≡ Some (refusal.StillOpen era)
  live_by m number era same live = λ i. cond ((ap (λ (e : Era). e.is_live) same ∙ live) i) (Some (refusal.StillOpen (same i))) (option_map refusal.Busy (option_and_then (λ end. needed_holder (lanes_of (link_of (ring_form meaning) m) end).incoming number) (end_of m.callers number)))

-- whether a caller holds something, by what it has in hand
held_none : (number : ℕ) (hs : List Holding) → hands_of number hs ≡ [] → has_held hs number ≡ false
held_none number [] none = refl
held_none number (h ∷ hs) none = go (held_none number hs) (eqb h.caller number) none
  where
    no_cons : {A : Type 0} (x : A) (xs : List A) → x ∷ xs ≡ [] → ⊥
    no_cons x xs is = absurd (cc)

    go : (hands_of number hs ≡ [] → has_held hs number ≡ false) → (b : Bool) → cond b (h.number ∷ hands_of number hs) (hands_of number hs) ≡ [] → (b || has_held hs number) ≡ false
    go later true bad = absurd (no_cons h.number (hands_of number hs) bad)
    go later false more = later more

held_some : (number k : ℕ) (hs : List Holding) → HasNumber (hands_of number hs) k → has_held hs number ≡ true
held_some number k [] has = absurd (some-ne-none k (sym has.1))
held_some number k (h ∷ hs) has = go (held_some number k hs) (eqb h.caller number) has
  where
    go : (HasNumber (hands_of number hs) k → has_held hs number ≡ true) → (b : Bool) → HasNumber (cond b (h.number ∷ hands_of number hs) (hands_of number hs)) k → (b || has_held hs number) ≡ true
    go later true more = refl
    go later false more = later more

pub held_by_hands : (number : ℕ) (holds : Bool) (hs : List Holding) (hands : List ℕ) → hands_of number hs ≡ hands → (holds ≡ false → hands ≡ []) → (holds ≡ true → (k : ℕ) × HasNumber hands k) → has_held hs number ≡ holds
held_by_hands number false hs hands same none more = held_none number hs (same ∙ none refl)
held_by_hands number true hs hands same none more = let s = more refl in held_some number s.0 hs (subst (λ (l : List ℕ). HasNumber l s.0) (sym same) s.1)

-- the rings of a link are sound where those of the link are whose desks lie in their places
module _ {D : Type 0} (coded : Coded D) (tables : DeskTables) where
  rings_placed : (e : End) (s : RingState D) → IsSoundRings (placed_lane coded tables e s) → IsSoundRings s
  rings_placed e s r = record {
    sized = r.sized;
    counted = r.counted;
    forward_index = r.forward_index;
    return_index = r.return_index;
    owned = r.owned;
    apart = r.apart;
    holdings = r.holdings;
    filled = r.filled;
    room = r.room;
    fit = r.fit;
    source = r.source;
    work = r.work;
  }

  pub sound_placed : (m : LaneLink (RingState D)) → HasSoundRings (placed_link coded tables m) → HasSoundRings m
  sound_placed m r = record { to_host = rings_placed side.Host m.to_host r.to_host; to_remote = rings_placed side.Remote m.to_remote r.to_remote }

-- what a reclaim of a caller that the manager carries finds in the state that the manager knew
pub reclaim_found : {D : Type 0} (coded : Coded D) (meaning : DeskMeaning D) (link : SharedLink D) (manager : Manager) (who w : CallerId) (p : Phase) (t : TurnHeld) (n : ℕ) (m : LaneLink (RingState D)) (holds : Bool) → IsManagerOf link manager → Carries link manager w p → w.number ≡ who.number
    → end_of manager.users who.number ≡ Some who.end → t ≡ turn_in p → LooksAtLink coded meaning n manager.seat.me → IsStateOf coded manager m → m.era.is_live ≡ false → TellsHands holds (carried_seat w p manager) → IsReclaimOf m who t holds
reclaim_found coded meaning link manager who w p t n m holds of c numbers user turns looks is closed told =
    let tables = manager.seat.me.0.sizes.desks in let ends : w.end ≡ who.end = one_end w.end who.end (sym c.user ∙ (ap (end_of manager.users) numbers ∙ user)) in let known = known_of coded link manager m w p of is c in
    let same = known_is coded meaning manager.seat.me looks.state m is.known (λ k was. looks.copy k is.known.carries was) in
    subst (λ (x : TurnHeld). IsReclaimOf m who x holds) (sym turns) (record {
      rings = sound_placed coded tables m (subst (λ (l : LaneLink (RingState (PlacedDesk coded tables))). HasSoundRings l) same looks.sound.rings);
      closed = closed;
      user = ap (λ (us : List (Option End)). end_of us who.number) (sym is.users) ∙ user;
      in_hand = (λ i. has_held (lane_to m (sym ends i)).lane.lane.held (sym numbers i)) ∙ held_by_hands w.number holds (lane_to m w.end).lane.lane.held (pass_in (carried_seat w p manager)).hands known.2 told.none told.some;
      sends = (λ i. has_call (lane_to m (other (sym ends i))).lane.sender (sym numbers i)) ∙ known.0;
      receives = (λ i. has_call (lane_to m (sym ends i)).lane.receiver (sym numbers i)) ∙ known.1;
    })
  where
    one_end : (a b : End) → Some a ≡ Some b → a ≡ b
    one_end a b is = cc

-- the callers behind a reclaim
pub callers_reclaimed : {D : Type 0} (meaning : DeskMeaning D) (m : LaneLink (RingState D)) (number : ℕ) (e : End) → end_of m.callers number ≡ Some e → (link_after_reclaim (ring_form meaning) m number).callers ≡ slice_set m.callers number None
callers_reclaimed meaning m number e user = ap (λ (o : Option End). (without_caller (ring_form meaning) m o number).callers) user ∙ by_end e
  where
    by_end : (e : End) → (without_caller (ring_form meaning) m (Some e) number).callers ≡ slice_set m.callers number None
    by_end side.Host = refl
    by_end side.Remote = refl

-- a manager that knew the state knows it without the number that is freed
pub freed_known : {D : Type 0} (coded : Coded D) (meaning : DeskMeaning D) (n : ℕ) (me me' : SeatState) (m : LaneLink (RingState D)) → EndsCaller n me me' → FreesCaller coded meaning n me me' → Manages me'.0 → KnowsState coded me.0 m → KnowsState coded me'.0 (record m { callers = slice_set m.callers n None })
freed_known coded meaning n me me' m told frees manages knows = state_after coded meaning (Frees frees.0 n) me.0 me'.0 frees.1.state m knows
    (record { manages = manages; out = ap (λ (s : SeatState). s.0.out) told; sizes = ap (λ (s : SeatState). s.0.sizes) told }) (λ k was. frees.1.copy k knows.carries was)
