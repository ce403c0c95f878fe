-- What the manager knows of the state of a link over its turns of a lane.
use Rattle.std.proofs.Common.{◌≡◌, ◌+◌, ℕ, List, [], ◌∷◌, map, get_or, refl, sym, ap, ◌∙◌, subst}
use Rattle.std.specs.Prelude.{Some, None}
use Rattle.std.specs.Option.{option_or}
use base.Stored.{Coded}
use Rattle.rp_base.specs.declared.kinds.End.{End}
use Rattle.rp_base.specs.declared.kinds.End.TheVariants as side
use Rattle.lane_model.specs.declared.lane_links.LaneLink.{LaneLink}
use Rattle.lane_model.specs.declared.recoveries.LaneTurn.TheVariants as lane_turn
use Rattle.lane_model.specs.declared.states.LaneState.{LaneState}
use Rattle.lane_model.specs.declared.stages.Turn.TheVariants as turn
use Rattle.lane_model.specs.Crashes.{turn_out}
use Rattle.lane_model.specs.Desks.{DeskMeaning}
use Rattle.lane_model.specs.Lanes.{holder}
use Rattle.ring_core.specs.declared.states.RingState.{RingState}
use Rattle.ring_core.specs.RingSteps.{holding_of}
use Rattle.link_words.specs.declared.codes.DeskTables.{DeskTables}
use Rattle.link_words.specs.declared.rule.Call.{Call}
use Rattle.link_words.specs.declared.rule.Call.TheVariants.{Gathers}
use Rattle.link_words.specs.declared.rule.LaneSides.{LaneSides}
use Rattle.link_words.specs.declared.rule.ReceiverSide.{ReceiverSide}
use Rattle.link_words.specs.declared.rule.SenderSide.{SenderSide}
use Rattle.link_words.specs.declared.rule.Slot.{Slot}
use Rattle.link_words.specs.declared.rule.Slot.TheVariants.{Empty}
use Rattle.link_words.specs.declared.rule.View.{View}
use Rattle.link_words.specs.Calls.{SeatState, number_at}
use Rattle.link_words.specs.Deeds.{Deed, IsSoundState, ManagerTakes, ManagerLeaves, after_deed}
use Rattle.link_words.specs.Layouts.{layout, place_in}
use Rattle.link_words.specs.Parts.{IsCallAt}
use Rattle.link_words.specs.PlacedDesks.{PlacedDesk, placed_meaning}
use Rattle.link_words.specs.PlacedLinks.{KnowsState, placed_link}
use Rattle.link_words.specs.Reopens.{ManagerDoes, gathered, manager_place}
use Rattle.link_words.specs.Rule.{IsCallOf}
use Rattle.link_words.specs.Steps.{HasWord, StoresWord}
use Rattle.link_words.specs.Turns.{turns_in}
use Rattle.link_words.specs.Words.{lane_to, receiver_slot, receiver_word, sender_side, sender_slot, sender_word, turn_word, words_of}
use Rattle.link_words.proofs.Apart.{found_apart}
use Rattle.link_words.proofs.TurnWords.{lane_again, receiver_beside, sender_again, sender_of}
use Rattle.split_ring.specs.Gathers.{FindsTurnFree, FreesTurn, IsCalling, Meets, PutsSide, TakesSide, lane_slots}
use Rattle.split_ring.specs.States.{AreSidesOf, all_left, all_taken, lane_left, lane_taken, turns_out}
use Rattle.split_ring.proofs.ManagerSteps.{carrier_of, free_by, held_by, known_after, next_is, receiver_taken, state_known, turn_free, turn_held}

-- a lane with two free turns has none that is out
pub none_out : {D : Type 0} (s : LaneState D) → s.sender ≡ turn.Free → s.receiver ≡ turn.Free → turn_out s ≡ None
none_out s sender receiver = λ i. option_or (holder (sender i)) (holder (receiver i))

sender_out_first : {D : Type 0} (s : LaneState D) (h : ℕ) → holder s.sender ≡ Some h → turn_out s ≡ Some h
sender_out_first s h held = λ i. option_or (held i) (holder s.receiver)

receiver_out_last : {D : Type 0} (s : LaneState D) (h : ℕ) → s.sender ≡ turn.Free → holder s.receiver ≡ Some h → turn_out s ≡ Some h
receiver_out_last s h free held = (λ i. option_or (holder (free i)) (holder s.receiver)) ∙ held

-- both turns of the lane to the host, which were free, are taken and left; and all four
pub host_again : {D : Type 0} (meaning : DeskMeaning D) (m : LaneLink (RingState D)) → m.to_host.lane.sender ≡ turn.Free → m.to_host.lane.receiver ≡ turn.Free → lane_left meaning (lane_taken meaning m side.Host) side.Host ≡ m
host_again meaning m sender receiver = lane_again meaning m side.Host sender receiver

pub all_again : {D : Type 0} (meaning : DeskMeaning D) (m : LaneLink (RingState D)) (x u : SenderSide) (y w : ReceiverSide) → AreSidesOf m.to_host x y → AreSidesOf m.to_remote u w → all_left meaning (all_taken meaning m) ≡ m
all_again {D} meaning m x u y w host remote =
    ap (λ (l : LaneLink (RingState D)). lane_left meaning l side.Host) (lane_again meaning (lane_taken meaning m side.Host) side.Remote remote.sender_free remote.receiver_free) ∙ lane_again meaning m side.Host host.sender_free host.receiver_free

module _ {D : Type 0} (coded : Coded D) (meaning : DeskMeaning D) where
  abbrev Links : (me : SeatState) → Type 0
  Links me = LaneLink (RingState (PlacedDesk coded me.0.sizes.desks))

  pub sender_there : (tables : DeskTables) (m : LaneLink (RingState D)) (e : End) → (lane_to (placed_link coded tables m) e).lane.sender ≡ (lane_to m e).lane.sender
  sender_there tables m side.Host = refl
  sender_there tables m side.Remote = refl

  side_there : (tables : DeskTables) (m : LaneLink (RingState D)) (e : End) → sender_side (lane_to (placed_link coded tables m) e) ≡ sender_side (lane_to m e)
  side_there tables m side.Host = refl
  side_there tables m side.Remote = refl

  lists_there : (tables : DeskTables) (m : LaneLink (RingState D)) (e : End) → (lane_to (placed_link coded tables m) e).lane.lane ≡ (lane_to m e).lane.lane
  lists_there tables m side.Host = refl
  lists_there tables m side.Remote = refl

  lists_beside : (m : LaneLink (RingState D)) (e : End) → (lane_to (after_deed meaning m (ManagerTakes lane_turn.Sender e)) e).lane.lane ≡ (lane_to m e).lane.lane
  lists_beside m side.Host = refl
  lists_beside m side.Remote = refl

  sender_known : (me : SeatState) (Reads : Links me → Links me → Type 0) (d : Deed) (me' : SeatState) (e : End) (m : LaneLink (RingState D)) (s : ManagerDoes coded meaning me Reads d me') → KnowsState coded me.0 m → (lane_to m e).lane.sender ≡ (lane_to s.state e).lane.sender
  sender_known me Reads d me' e m s knows = sym (sender_there me.0.sizes.desks m e) ∙ sym (ap (λ (l : Links me). (lane_to l e).lane.sender) (state_known coded meaning me Reads d me' m s knows))

  pub found_sender : {tables : DeskTables} (state : LaneLink (RingState (PlacedDesk coded tables))) (e : End) (n : ℕ) → n ≡ get_or (layout (words_of 0 [] state)) (place_in (sender_word e)) 0 → n ≡ turn_word (lane_to state e).lane.sender
  found_sender state e n is = is ∙ (found_apart 10 (words_of 0 [] state) (sender_word e) ∙ sym (sender_of state e))

  sender_free : (me me' : SeatState) (e : End) (m : LaneLink (RingState D)) → FindsTurnFree coded meaning lane_turn.Sender e me me' → KnowsState coded me.0 m → (lane_to m e).lane.sender ≡ turn.Free
  sender_free me me' e m s knows = sender_known me _ _ me' e m s knows ∙ free_by (lane_to s.state e).lane.sender (found_sender s.state e 0 s.read)

  sender_held : (me : SeatState) (e : End) (h : ℕ) (m : LaneLink (RingState D)) → Meets coded meaning lane_turn.Sender e h me → KnowsState coded me.0 m → holder (lane_to m e).lane.sender ≡ Some h
  sender_held me e h m s knows = ap holder (sender_known me _ _ me e m s knows) ∙ held_by (lane_to s.state e).lane.sender h (found_sender s.state e (h + 1) s.read)

  sender_at : {tables : DeskTables} (state : LaneLink (RingState (PlacedDesk coded tables))) (e : End) (number : ℕ) (x : SenderSide) (a b : LaneSides)
      → IsCallAt (turns_in (after_deed (placed_meaning coded tables meaning) state (ManagerTakes lane_turn.Sender e))) 0 number (gathered e (λ g. record g { sender = Some x }) a b) → x ≡ sender_side (lane_to state e)
  sender_at state side.Host number x a b at = (at.2.sender x refl).1
  sender_at state side.Remote number x a b at = (at.3.sender x refl).1

  -- the side states that the manager took are those of the lane
  sender_taken : (v : View) (e : End) (x : SenderSide) (a b : LaneSides) (slots slots' : List (ℕ × Slot)) (me me' : SeatState) (m : LaneLink (RingState D)) → IsCalling v (Gathers a b) slots me → IsCalling v (gathered e (λ g. record g { sender = Some x }) a b) slots' me'
      → FindsTurnFree coded meaning lane_turn.Sender e me me' → KnowsState coded me.0 m → x ≡ sender_side (lane_to m e)
  sender_taken v e x a b slots slots' me me' m c c' s knows =
      sender_at s.state e (number_at (manager_place me) me.0.passes) x a b (subst (λ (call : Call). IsCallOf (after_deed (placed_meaning coded me.0.sizes.desks meaning) s.state (ManagerTakes lane_turn.Sender e)) 0 (number_at (manager_place me) me.0.passes) call) (next_is coded meaning v (Gathers a b) (gathered e (λ g. record g { sender = Some x }) a b) slots slots' me me' c c') s.after)
      ∙ (ap (λ (l : Links me). sender_side (lane_to l e)) (state_known coded meaning me _ _ me' m s knows) ∙ side_there me.0.sizes.desks m e)

  holdings : {tables : DeskTables} (state : LaneLink (RingState (PlacedDesk coded tables))) (e : End) → IsSoundState (placed_meaning coded tables meaning) state → map holding_of (lane_to state e).rings.hands ≡ (lane_to state e).lane.lane.held
  holdings state side.Host sound = sound.rings.to_host.holdings
  holdings state side.Remote sound = sound.rings.to_remote.holdings

  lists_known : (me : SeatState) (Reads : Links me → Links me → Type 0) (d : Deed) (me' : SeatState) (e : End) (m : LaneLink (RingState D)) (s : ManagerDoes coded meaning me Reads d me') → KnowsState coded me.0 m → (lane_to s.state e).lane.lane ≡ (lane_to m e).lane.lane
  lists_known me Reads d me' e m s knows = ap (λ (l : Links me). (lane_to l e).lane.lane) (state_known coded meaning me Reads d me' m s knows) ∙ lists_there me.0.sizes.desks m e

  receiver_lists : (v : View) (e : End) (y : ReceiverSide) (a b : LaneSides) (slots slots' : List (ℕ × Slot)) (me me' : SeatState) (m : LaneLink (RingState D)) → IsCalling v (Gathers a b) slots me → IsCalling v (gathered e (λ g. record g { receiver = Some y }) a b) slots' me'
      → FindsTurnFree coded meaning lane_turn.Receiver e me me' → KnowsState coded me.0 m → (y.takers ≡ (lane_to m e).lane.lane.takers) × (map holding_of y.hands ≡ (lane_to m e).lane.lane.held)
  receiver_lists v e y a b slots slots' me me' m c c' s knows = let is = receiver_taken coded meaning v e y a b slots slots' me me' c c' s in let lists = lists_known me _ _ me' e m s knows in (
    ap (λ (r : ReceiverSide). r.takers) is ∙ ap (λ l. l.takers) lists,
    ap (λ (r : ReceiverSide). map holding_of r.hands) is ∙ (holdings s.state e s.sound ∙ ap (λ l. l.held) lists),
  )

  -- one turn of a lane after the other is taken
  takes_two : (e : End) (x : SenderSide) (y : ReceiverSide) (v : View) (a b c d : LaneSides) (slots slots1 slots2 : List (ℕ × Slot)) (me me1 me2 : SeatState) (m : LaneLink (RingState D)) → IsCalling v (Gathers a b) slots me
      → IsCalling v (gathered e (λ g. record g { sender = Some x }) a b) slots1 me1 → IsCalling v (Gathers c d) slots1 me1 → IsCalling v (gathered e (λ g. record g { receiver = Some y }) c d) slots2 me2
      → FindsTurnFree coded meaning lane_turn.Sender e me me1 → FindsTurnFree coded meaning lane_turn.Receiver e me1 me2 → KnowsState coded me.0 m → KnowsState coded me2.0 (lane_taken meaning m e) × AreSidesOf (lane_to m e) x y
  takes_two e x y v a b c d slots slots1 slots2 me me1 me2 m at one one' two finds finds2 knows =
      let m1 = after_deed meaning m (ManagerTakes lane_turn.Sender e) in
      let known = known_after coded meaning me (HasWord (place_in (sender_word e)) 0) (ManagerTakes lane_turn.Sender e) me1 m finds knows (carrier_of v (Gathers a b) (gathered e (λ g. record g { sender = Some x }) a b) slots slots1 me me1 at one) in
      let known2 = known_after coded meaning me1 (HasWord (place_in (receiver_word e)) 0) (ManagerTakes lane_turn.Receiver e) me2 m1 finds2 known (carrier_of v (Gathers c d) (gathered e (λ g. record g { receiver = Some y }) c d) slots1 slots2 me1 me2 one' two) in
      let lists = receiver_lists v e y c d slots1 slots2 me1 me2 m1 one' two finds2 known in (
        known2,
        record {
          sender_free = sender_free me me1 e m finds knows;
          receiver_free = sym (receiver_beside meaning m e) ∙ turn_free coded meaning me1 me2 e m1 finds2 known;
          sender = sender_taken v e x a b slots slots1 me me1 m at one finds knows;
          takers = lists.0 ∙ ap (λ l. l.takers) (lists_beside m e);
          held = lists.1 ∙ ap (λ l. l.held) (lists_beside m e);
        },
      )

  pub takes_lane : (e : End) (x : SenderSide) (y : ReceiverSide) (v : View) (a b : LaneSides) (slots : List (ℕ × Slot)) (me me1 me2 : SeatState) (m : LaneLink (RingState D)) → IsCalling v (Gathers a b) slots me
      → TakesSide e (λ g. record g { sender = Some x }) (sender_slot e) me me1 → FindsTurnFree coded meaning lane_turn.Sender e me me1
      → TakesSide e (λ g. record g { receiver = Some y }) (receiver_slot e) me1 me2 → FindsTurnFree coded meaning lane_turn.Receiver e me1 me2 → KnowsState coded me.0 m → KnowsState coded me2.0 (lane_taken meaning m e) × AreSidesOf (lane_to m e) x y
  takes_lane side.Host x y v a b slots me me1 me2 m at one finds two finds2 knows =
      let c = record a { sender = Some x } in let here = one v a b slots at in
      takes_two side.Host x y v a b c b slots ((sender_slot side.Host, Empty) ∷ slots) (lane_slots side.Host slots) me me1 me2 m at here here (two v c b ((sender_slot side.Host, Empty) ∷ slots) here) finds finds2 knows
  takes_lane side.Remote x y v a b slots me me1 me2 m at one finds two finds2 knows =
      let d = record b { sender = Some x } in let here = one v a b slots at in
      takes_two side.Remote x y v a b a d slots ((sender_slot side.Remote, Empty) ∷ slots) (lane_slots side.Remote slots) me me1 me2 m at here here (two v a d ((sender_slot side.Remote, Empty) ∷ slots) here) finds finds2 knows

  -- the sender's turn was another's
  pub meets_sender : (e : End) (h : ℕ) (me me1 : SeatState) (m : LaneLink (RingState D)) → me1 ≡ me → Meets coded meaning lane_turn.Sender e h me → KnowsState coded me.0 m → KnowsState coded me1.0 m × (turn_out (lane_to m e).lane ≡ Some h)
  meets_sender e h me me1 m same met knows = (subst (λ (s : SeatState). KnowsState coded s.0 m) (sym same) knows, sender_out_first (lane_to m e).lane h (sender_held me e h m met knows))

  -- the sender's side state goes back behind it
  puts_back : (e : End) (x : SenderSide) (v : View) (a b : LaneSides) (slots : List (ℕ × Slot)) (me me1 me2 : SeatState) → IsCalling v (Gathers a b) slots me → TakesSide e (λ g. record g { sender = Some x }) (sender_slot e) me me1
      → PutsSide e (λ g. record g { sender = None }) (sender_slot e) me1 me2 → (call : Call) × IsCalling v call slots me2
  puts_back side.Host x v a b slots me me1 me2 at one two = (gathered side.Host (λ g. record g { sender = None }) (record a { sender = Some x }) b, two v (record a { sender = Some x }) b slots (one v a b slots at))
  puts_back side.Remote x v a b slots me me1 me2 at one two = (gathered side.Remote (λ g. record g { sender = None }) a (record b { sender = Some x }), two v a (record b { sender = Some x }) slots (one v a b slots at))

  -- the receiver's turn was another's, and the manager left the sender's
  pub meets_receiver : (e : End) (x : SenderSide) (h : ℕ) (v : View) (a b : LaneSides) (slots : List (ℕ × Slot)) (me me1 me2 me3 : SeatState) (m : LaneLink (RingState D)) → IsCalling v (Gathers a b) slots me
      → TakesSide e (λ g. record g { sender = Some x }) (sender_slot e) me me1 → FindsTurnFree coded meaning lane_turn.Sender e me me1 → me2 ≡ me1 → Meets coded meaning lane_turn.Receiver e h me1
      → PutsSide e (λ g. record g { sender = None }) (sender_slot e) me2 me3 → FreesTurn coded meaning lane_turn.Sender e me2 me3 → KnowsState coded me.0 m → KnowsState coded me3.0 m × (turn_out (lane_to m e).lane ≡ Some h)
  meets_receiver e x h v a b slots me me1 me2 me3 m at one finds same met puts frees knows =
      let m1 = after_deed meaning m (ManagerTakes lane_turn.Sender e) in let call = gathered e (λ g. record g { sender = Some x }) a b in let slots1 : List (ℕ × Slot) = (sender_slot e, Empty) ∷ slots in
      let here : IsCalling v call slots1 me1 = one v a b slots at in let free = sender_free me me1 e m finds knows in
      let known = known_after coded meaning me (HasWord (place_in (sender_word e)) 0) (ManagerTakes lane_turn.Sender e) me1 m finds knows (carrier_of v (Gathers a b) call slots slots1 me me1 at here) in
      let puts1 = subst (λ (s : SeatState). PutsSide e (λ g. record g { sender = None }) (sender_slot e) s me3) same puts in let frees1 = subst (λ (s : SeatState). FreesTurn coded meaning lane_turn.Sender e s me3) same frees in
      let back = puts_back e x v a b slots me me1 me3 at one puts1 in
      let left = known_after coded meaning me1 (StoresWord (place_in (sender_word e)) 0) (ManagerLeaves lane_turn.Sender e) me3 m1 frees1 known (carrier_of v call back.0 slots1 slots me1 me3 here back.1) in (
        subst (λ (l : LaneLink (RingState D)). KnowsState coded me3.0 l) (sender_again meaning m e free) left,
        receiver_out_last (lane_to m e).lane h free (ap holder (sym (receiver_beside meaning m e)) ∙ turn_held coded meaning me1 e h m1 met known),
      )

  -- both turns of a lane are left
  leaves_two : (e : End) (v : View) (call call1 call2 : Call) (slots slots1 slots2 : List (ℕ × Slot)) (me me1 me2 : SeatState) (m : LaneLink (RingState D)) → IsCalling v call slots me → IsCalling v call1 slots1 me1 → IsCalling v call2 slots2 me2
      → FreesTurn coded meaning lane_turn.Receiver e me me1 → FreesTurn coded meaning lane_turn.Sender e me1 me2 → KnowsState coded me.0 m → KnowsState coded me2.0 (lane_left meaning m e)
  leaves_two e v call call1 call2 slots slots1 slots2 me me1 me2 m at one two frees frees2 knows =
      let known = known_after coded meaning me (StoresWord (place_in (receiver_word e)) 0) (ManagerLeaves lane_turn.Receiver e) me1 m frees knows (carrier_of v call call1 slots slots1 me me1 at one) in
      known_after coded meaning me1 (StoresWord (place_in (sender_word e)) 0) (ManagerLeaves lane_turn.Sender e) me2 (after_deed meaning m (ManagerLeaves lane_turn.Receiver e)) frees2 known (carrier_of v call1 call2 slots1 slots2 me1 me2 one two)

  pub leaves_lane : (e : End) (v : View) (a b : LaneSides) (slots : List (ℕ × Slot)) (me me1 me2 : SeatState) (m : LaneLink (RingState D)) → IsCalling v (Gathers a b) (lane_slots e slots) me
      → PutsSide e (λ g. record g { receiver = None }) (receiver_slot e) me me1 → FreesTurn coded meaning lane_turn.Receiver e me me1 → PutsSide e (λ g. record g { sender = None }) (sender_slot e) me1 me2 → FreesTurn coded meaning lane_turn.Sender e me1 me2
      → KnowsState coded me.0 m → KnowsState coded me2.0 (lane_left meaning m e)
  leaves_lane side.Host v a b slots me me1 me2 m at one frees two frees2 knows =
      let slots1 : List (ℕ × Slot) = (sender_slot side.Host, Empty) ∷ slots in let here = one v a b slots1 at in
      leaves_two side.Host v (Gathers a b) _ _ (lane_slots side.Host slots) slots1 slots me me1 me2 m at here (two v (record a { receiver = None }) b slots here) frees frees2 knows
  leaves_lane side.Remote v a b slots me me1 me2 m at one frees two frees2 knows =
      let slots1 : List (ℕ × Slot) = (sender_slot side.Remote, Empty) ∷ slots in let here = one v a b slots1 at in
      leaves_two side.Remote v (Gathers a b) _ _ (lane_slots side.Remote slots) slots1 slots me me1 me2 m at here (two v a (record b { receiver = None }) slots here) frees frees2 knows

-- who has the first turn that is out
pub host_out : {D : Type 0} (m : LaneLink (RingState D)) (h : ℕ) → turn_out m.to_host.lane ≡ Some h → turns_out m ≡ Some h
host_out m h is = λ i. option_or (is i) (turn_out m.to_remote.lane)

pub remote_out : {D : Type 0} (m : LaneLink (RingState D)) (h : ℕ) → turn_out m.to_host.lane ≡ None → turn_out m.to_remote.lane ≡ Some h → turns_out m ≡ Some h
remote_out m h none is = (λ i. option_or (none i) (turn_out m.to_remote.lane)) ∙ is

pub nothing_out : {D : Type 0} (m : LaneLink (RingState D)) (x u : SenderSide) (y w : ReceiverSide) → AreSidesOf m.to_host x y → AreSidesOf m.to_remote u w → turns_out m ≡ None
nothing_out m x u y w host remote = λ i. option_or (none_out m.to_host.lane host.sender_free host.receiver_free i) (none_out m.to_remote.lane remote.sender_free remote.receiver_free i)
