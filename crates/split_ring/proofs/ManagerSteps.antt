-- The manager's own steps as changes of the link's state, and what it knows of the state over them.
use Rattle.std.proofs.Common.{◌≡◌, ◌+◌, ℕ, Bool, true, false, List, [], ◌∷◌, get_or, refl, sym, ap, ◌∙◌, subst, arith}
use Rattle.std.specs.Prelude.{Some, None, Result, if◌then◌else◌}
use base.Stored.{Coded}
use Rattle.rp_base.specs.declared.kinds.End.{End}
use Rattle.rp_base.specs.declared.kinds.End.TheVariants as side
use Rattle.lane_model.specs.declared.lane_links.LaneLink.{LaneLink}
use Rattle.lane_model.specs.declared.recoveries.LaneTurn.{LaneTurn}
use Rattle.lane_model.specs.declared.recoveries.LaneTurn.TheVariants as lane_turn
use Rattle.lane_model.specs.declared.stages.Turn.{Turn}
use Rattle.lane_model.specs.declared.stages.Turn.TheVariants as turn
use Rattle.lane_model.specs.Desks.{DeskMeaning}
use Rattle.lane_model.specs.declared.recoveries.Already.{Already}
use Rattle.lane_model.specs.Lanes.{holder, is_live_in}
use Rattle.rp_base.specs.declared.kinds.Era.{Era}
use Rattle.ring_core.specs.declared.states.RingState.{RingState}
use Rattle.link_words.specs.declared.codes.DeskRight.{DeskRight}
use Rattle.link_words.specs.declared.rule.Call.{Call}
use Rattle.link_words.specs.declared.rule.Call.TheVariants.{Gathers}
use Rattle.link_words.specs.declared.rule.LaneSides.{LaneSides}
use Rattle.link_words.specs.declared.rule.ReceiverSide.{ReceiverSide}
use Rattle.link_words.specs.declared.rule.Slot.{Slot}
use Rattle.link_words.specs.declared.rule.Slot.TheVariants.{Empty}
use Rattle.link_words.specs.declared.rule.View.{View}
use Rattle.link_words.specs.Calls.{SeatState, call_at, number_at}
use Rattle.link_words.specs.Deeds.{Closes, Deed, ManagerTakes, ManagerLeaves, after_deed}
use Rattle.link_words.specs.Layouts.{layout, place_in}
use Rattle.link_words.specs.Parts.{IsCallAt}
use Rattle.link_words.specs.Passes.{Manages, place_of_number}
use Rattle.link_words.specs.PlacedDesks.{PlacedDesk, placed_coded, placed_meaning, right_to, table_at}
use Rattle.link_words.specs.PlacedLinks.{KnowsState, IsSameCarrier, placed_link}
use Rattle.link_words.specs.Reopens.{ManagerAt, ManagerDoes, gathered, manager_place}
use Rattle.link_words.specs.Sides.{no_sides, sides_at}
use Rattle.link_words.specs.Rule.{IsCallOf}
use Rattle.link_words.specs.Steps.{IsStepOf, HasWord, StoresWord, turn_number}
use Rattle.link_words.specs.Turns.{turns_in}
use Rattle.link_words.specs.Words.{lane_to, receiver_side, receiver_slot, receiver_word, turn_word, words_of}
use Rattle.link_words.proofs.Apart.{found_apart}
use Rattle.link_words.proofs.Closes.{era_of_word}
use Rattle.link_words.proofs.Exact.{copied_one}
use Rattle.split_ring.specs.Callers.{IsStateOf}
use Rattle.split_ring.specs.Closes.{HasClosed, IsCloseAnswer}
use Rattle.split_ring.specs.declared.callers.Manager.{Manager}
use Rattle.link_words.proofs.Placed.{state_after}
use Rattle.link_words.proofs.TurnWords.{back_again, receiver_of}
use Rattle.split_ring.specs.Gathers.{IsCalling, TakesSide, PutsSide, FindsTurnFree, FreesTurn, Meets}
use Rattle.split_ring.proofs.Gathering.{manager_at, same_place}
use Rattle.split_ring.proofs.Reopening.{manager_calls, none_seat, rests_looked}

-- a turn by its word
pub free_by : {C : Type 0} (t : Turn C) → 0 ≡ turn_word t → t ≡ turn.Free
free_by turn.Free is = refl
free_by (turn.Taken caller call) is = absurd (omega (arith, is))
free_by (turn.Leaving caller ended) is = absurd (omega (arith, is))
free_by turn.Manager is = absurd (omega (arith, is))

pub held_by : {C : Type 0} (t : Turn C) (h : ℕ) → h + 1 ≡ turn_word t → holder t ≡ Some h
held_by turn.Free h is = absurd (omega (arith, is))
held_by (turn.Taken caller call) h is = ap Some (let e : caller ≡ h = omega (arith, is) in e)
held_by (turn.Leaving caller ended) h is = ap Some (let e : caller ≡ h = omega (arith, is) in e)
held_by turn.Manager h is = ap Some (let e : 64 ≡ h = omega (arith, is) in e)

module _ {D : Type 0} (coded : Coded D) (meaning : DeskMeaning D) where
  abbrev Links : (me : SeatState) → Type 0
  Links me = LaneLink (RingState (PlacedDesk coded me.0.sizes.desks))

  abbrev StepIs : (me : SeatState) → (Links me → Links me → Type 0) → Deed → ℕ → Call → Call → SeatState → Type 0
  StepIs me Reads d number call next me' = IsStepOf (placed_coded coded me.0.sizes.desks) (placed_meaning coded me.0.sizes.desks meaning) Reads d number call next me me'

  -- a step speaks of the view alone, that after it
  pub step_to : (me : SeatState) (Reads : Links me → Links me → Type 0) (d : Deed) (me1 me2 : SeatState) → me1.0 ≡ me2.0 → ManagerDoes coded meaning me Reads d me1 → ManagerDoes coded meaning me Reads d me2
  step_to me Reads d me1 me2 same s = record {
    state = s.state;
    sound = s.sound;
    read = s.read;
    may = s.may;
    before = s.before;
    after = subst (λ (v : View). IsCallOf (after_deed (placed_meaning coded me.0.sizes.desks meaning) s.state d) 0 (number_at (manager_place me) me.0.passes) (call_at (manager_place me) v.passes)) same s.after;
    copy = λ k manages none_out was. let c = s.copy k manages none_out was in (c.0, ap (λ (v : View). v.copy) (sym same) ∙ c.1);
  }

  -- and that before it
  from_slots : (v : View) (a b : List (ℕ × Slot)) (Reads : Links (v, a) → Links (v, a) → Type 0) (d : Deed) (me' : SeatState) → ManagerDoes coded meaning (v, a) Reads d me' → ManagerDoes coded meaning (v, b) Reads d me'
  from_slots v a b Reads d me' s = record { state = s.state; sound = s.sound; read = s.read; may = s.may; before = s.before; after = s.after; copy = s.copy }

  pub frees_from : (which : LaneTurn) (e : End) (slots : List (ℕ × Slot)) (me me1 me2 : SeatState) → me1 ≡ (me.0, slots) → FreesTurn coded meaning which e me1 me2 → FreesTurn coded meaning which e me me2
  frees_from which e slots me me1 me2 out s =
      from_slots me.0 slots me.1 (StoresWord (place_in (turn_number which e)) 0) (ManagerLeaves which e) me2 (subst (λ (x : SeatState). FreesTurn coded meaning which e x me2) out s)

  -- a turn was found free, whatever is in the slots after
  pub finds_to : (which : LaneTurn) (e : End) (n : ℕ) (me me1 me2 : SeatState) (slots : List (ℕ × Slot)) → n ≡ 0 → me2 ≡ (me1.0, slots) → ManagerDoes coded meaning me (HasWord (place_in (turn_number which e)) n) (ManagerTakes which e) me1 → FindsTurnFree coded meaning which e me me2
  finds_to which e n me me1 me2 slots free out s =
      step_to me (HasWord (place_in (turn_number which e)) 0) (ManagerTakes which e) me1 me2 (sym (ap (λ (s : SeatState). s.0) out))
      (subst (λ (k : ℕ). ManagerDoes coded meaning me (HasWord (place_in (turn_number which e)) k) (ManagerTakes which e) me1) free s)

  -- the state of a step is the one that the manager knew
  pub state_known : (me : SeatState) (Reads : Links me → Links me → Type 0) (d : Deed) (me' : SeatState) (m : LaneLink (RingState D)) (s : ManagerDoes coded meaning me Reads d me') → KnowsState coded me.0 m → s.state ≡ placed_link coded me.0.sizes.desks m
  state_known me Reads d me' m s knows = sym (copied_one (placed_coded coded me.0.sizes.desks) (placed_link coded me.0.sizes.desks m) s.state (s.copy _ knows.manages knows.carries knows.copy).0)

  place_at : (v : View) (call : Call) (slots : List (ℕ × Slot)) (me : SeatState) → IsCalling v call slots me → manager_place me ≡ place_of_number 64 v.passes
  place_at v call slots me c = ap (λ (s : SeatState). place_of_number 64 s.0.passes) c.is ∙ same_place 64 call (place_of_number 64 v.passes) v.passes

  -- the call after a step, where the manager's own pass is in these calls
  pub next_is : (v : View) (call call' : Call) (slots slots' : List (ℕ × Slot)) (me me' : SeatState) → IsCalling v call slots me → IsCalling v call' slots' me' → call_at (manager_place me) me'.0.passes ≡ call'
  next_is v call call' slots slots' me me' c c' = ap (λ (k : ℕ). call_at k me'.0.passes) (place_at v call slots me c ∙ sym (place_at v call' slots' me' c')) ∙ manager_calls v call' slots' me' c'

  receiver_at : {tables : _} (state : LaneLink (RingState (PlacedDesk coded tables))) (e : End) (number : ℕ) (x : ReceiverSide) (a b : LaneSides)
      → IsCallAt (turns_in (after_deed (placed_meaning coded tables meaning) state (ManagerTakes lane_turn.Receiver e))) 0 number (gathered e (λ g. record g { receiver = Some x }) a b) → x ≡ receiver_side (lane_to state e)
  receiver_at state side.Host number x a b at = (at.2.receiver x refl).1
  receiver_at state side.Remote number x a b at = (at.3.receiver x refl).1

  -- the side state that the manager took is that of its lane
  pub receiver_taken : (v : View) (e : End) (x : ReceiverSide) (a b : LaneSides) (slots slots' : List (ℕ × Slot)) (me me' : SeatState) → IsCalling v (Gathers a b) slots me → IsCalling v (gathered e (λ g. record g { receiver = Some x }) a b) slots' me'
      → (s : FindsTurnFree coded meaning lane_turn.Receiver e me me') → x ≡ receiver_side (lane_to s.state e)
  receiver_taken v e x a b slots slots' me me' c c' s =
      receiver_at s.state e (number_at (manager_place me) me.0.passes) x a b (subst (λ (call : Call). IsCallOf (after_deed (placed_meaning coded me.0.sizes.desks meaning) s.state (ManagerTakes lane_turn.Receiver e)) 0 (number_at (manager_place me) me.0.passes) call) (next_is v (Gathers a b) (gathered e (λ g. record g { receiver = Some x }) a b) slots slots' me me' c c') s.after)

  -- so it has the right to the desk of its end
  pub right_taken : (v : View) (e : End) (x : ReceiverSide) (a b : LaneSides) (slots slots' : List (ℕ × Slot)) (me me' : SeatState) → IsCalling v (Gathers a b) slots me → IsCalling v (gathered e (λ g. record g { receiver = Some x }) a b) slots' me'
      → (s : FindsTurnFree coded meaning lane_turn.Receiver e me me') → x.desk ≡ right_to (lane_to s.state e).lane.desk
  right_taken v e x a b slots slots' me me' c c' s = ap (λ (y : ReceiverSide). y.desk) (receiver_taken v e x a b slots slots' me me' c c' s)

  -- so the right is to the desk of that end
  pub right_table : (v : View) (e : End) (x : ReceiverSide) (a b : LaneSides) (slots slots' : List (ℕ × Slot)) (me me' : SeatState) → IsCalling v (Gathers a b) slots me → IsCalling v (gathered e (λ g. record g { receiver = Some x }) a b) slots' me'
      → FindsTurnFree coded meaning lane_turn.Receiver e me me' → x.desk.table ≡ table_at me.0.sizes.desks x.desk.end
  right_table v e x a b slots slots' me me' c c' s = let is = right_taken v e x a b slots slots' me me' c c' s in
      ap (λ (r : DeskRight). r.table) is ∙ sym (ap (λ (r : DeskRight). table_at me.0.sizes.desks r.end) is)

  -- the manager knows the state after a step of its own
  pub known_after : (me : SeatState) (Reads : Links me → Links me → Type 0) (d : Deed) (me' : SeatState) (m : LaneLink (RingState D)) → ManagerDoes coded meaning me Reads d me' → KnowsState coded me.0 m → IsSameCarrier me.0 me'.0 → KnowsState coded me'.0 (after_deed meaning m d)
  known_after me Reads d me' m s knows same = state_after coded meaning d me.0 me'.0 s.state m knows same (λ k was. s.copy k knows.manages knows.carries was)

  desk_there : (tables : _) (m : LaneLink (RingState D)) (e : End) → (lane_to (placed_link coded tables m) e).lane.desk.desk ≡ (lane_to m e).lane.desk
  desk_there tables m side.Host = refl
  desk_there tables m side.Remote = refl

  pub turn_there : (tables : _) (m : LaneLink (RingState D)) (e : End) → (lane_to (placed_link coded tables m) e).lane.receiver ≡ (lane_to m e).lane.receiver
  turn_there tables m side.Host = refl
  turn_there tables m side.Remote = refl

  pub desk_known : (me me' : SeatState) (e : End) (x : ReceiverSide) (m : LaneLink (RingState D)) (s : FindsTurnFree coded meaning lane_turn.Receiver e me me') → x.desk ≡ right_to (lane_to s.state e).lane.desk → KnowsState coded me.0 m
      → x.desk.code ≡ coded.code (lane_to m e).lane.desk
  desk_known me me' e x m s right knows = ap (λ r. r.code) right ∙ ap coded.code (ap (λ (l : Links me). (lane_to l e).lane.desk.desk) (state_known me _ _ me' m s knows) ∙ desk_there me.0.sizes.desks m e)

  -- the word of a receiver's turn that was found
  pub found_turn : {tables : _} (state : LaneLink (RingState (PlacedDesk coded tables))) (e : End) (n : ℕ) → n ≡ get_or (layout (words_of 0 [] state)) (place_in (receiver_word e)) 0 → n ≡ turn_word (lane_to state e).lane.receiver
  found_turn state e n is = is ∙ (found_apart 10 (words_of 0 [] state) (receiver_word e) ∙ sym (receiver_of state e))

  pub turn_free : (me me' : SeatState) (e : End) (m : LaneLink (RingState D)) → FindsTurnFree coded meaning lane_turn.Receiver e me me' → KnowsState coded me.0 m → (lane_to m e).lane.receiver ≡ turn.Free
  turn_free me me' e m s knows =
      sym (turn_there me.0.sizes.desks m e) ∙ (sym (ap (λ (l : Links me). (lane_to l e).lane.receiver) (state_known me _ _ me' m s knows)) ∙ free_by (lane_to s.state e).lane.receiver (found_turn s.state e 0 s.read))

  pub turn_held : (me : SeatState) (e : End) (h : ℕ) (m : LaneLink (RingState D)) → Meets coded meaning lane_turn.Receiver e h me → KnowsState coded me.0 m → holder (lane_to m e).lane.receiver ≡ Some h
  turn_held me e h m s knows =
      ap holder (sym (turn_there me.0.sizes.desks m e) ∙ sym (ap (λ (l : Links me). (lane_to l e).lane.receiver) (state_known me _ _ me m s knows))) ∙ held_by (lane_to s.state e).lane.receiver h (found_turn s.state e (h + 1) s.read)

-- what the manager carries, where its view is one but for its own pass
pub carrier_of : (v : View) (call call' : Call) (slots slots' : List (ℕ × Slot)) (me me' : SeatState) → IsCalling v call slots me → IsCalling v call' slots' me' → IsSameCarrier me.0 me'.0
carrier_of v call call' slots slots' me me' c c' = let own = manager_at v call' slots' me' c' in record {
  manages = (own.mover.place, own.mover.pass, own.mover.here, own.number);
  out = ap (λ (s : SeatState). s.0.out) c'.is ∙ sym (ap (λ (s : SeatState). s.0.out) c.is);
  sizes = ap (λ (s : SeatState). s.0.sizes) c'.is ∙ sym (ap (λ (s : SeatState). s.0.sizes) c.is);
}

-- one receiver's side state alone
abbrev pub LeavesReceiverOf : End → ReceiverSide → SeatState → Type 0
LeavesReceiverOf lane x me = (v : View) × (a : LaneSides) × (b : LaneSides) × (slots : List (ℕ × Slot)) × IsCalling v (Gathers a b) ((receiver_slot lane, Empty) ∷ slots) me × ((sides_at lane a b).receiver ≡ Some x)

pub receiver_held : (lane : End) (x : ReceiverSide) (slots : List (ℕ × Slot)) (me me1 : SeatState) (v : View) → IsCalling v (Gathers no_sides no_sides) slots me → TakesSide lane (λ g. record g { receiver = Some x }) (receiver_slot lane) me me1 → LeavesReceiverOf lane x me1
receiver_held side.Host x slots me me1 v c one = (v, record no_sides { receiver = Some x }, no_sides, slots, one v no_sides no_sides slots c, refl)
receiver_held side.Remote x slots me me1 v c one = (v, no_sides, record no_sides { receiver = Some x }, slots, one v no_sides no_sides slots c, refl)

pub receiver_left : (lane : End) (x : ReceiverSide) (slots : List (ℕ × Slot)) (me me1 me2 : SeatState) (v : View) → IsCalling v (Gathers no_sides no_sides) slots me → TakesSide lane (λ g. record g { receiver = Some x }) (receiver_slot lane) me me1
    → PutsSide lane (λ g. record g { receiver = None }) (receiver_slot lane) me1 me2 → IsCalling v (Gathers no_sides no_sides) slots me2
receiver_left side.Host x slots me me1 me2 v c one two = two v (record no_sides { receiver = Some x }) no_sides slots (one v no_sides no_sides slots c)
receiver_left side.Remote x slots me me1 me2 v c one two = two v no_sides (record no_sides { receiver = Some x }) slots (one v no_sides no_sides slots c)

-- the manager at rest, by its own view, with what is out with the calls that it carries
pub rests_with : (me : SeatState) → ManagerAt me (Gathers no_sides no_sides) → IsCalling me.0 (Gathers no_sides no_sides) me.1 me
rests_with me at = rests_looked me me me.0.is_closed at refl

-- and behind turns of its own that it has left nothing has changed but the copy
pub still_resting : (me me' : SeatState) → ManagerAt me (Gathers no_sides no_sides) → IsCalling me.0 (Gathers no_sides no_sides) me.1 me' → me' ≡ (record me.0 { copy = me'.0.copy }, me.1)
still_resting me me' at c = none_seat me me.0 me.1 me' at refl c

-- a receiver's turn was taken and left: the state is as before
module _ {D : Type 0} (coded : Coded D) (meaning : DeskMeaning D) where
  pub state_again : (e : End) (x : ReceiverSide) (out : List (ℕ × Slot)) (me me1 me2 : SeatState) (m : LaneLink (RingState D)) → IsCalling me.0 (Gathers no_sides no_sides) out me → TakesSide e (λ g. record g { receiver = Some x }) (receiver_slot e) me me1
      → PutsSide e (λ g. record g { receiver = None }) (receiver_slot e) me1 me2 → FindsTurnFree coded meaning lane_turn.Receiver e me me1 → FreesTurn coded meaning lane_turn.Receiver e me1 me2 → KnowsState coded me.0 m → KnowsState coded me2.0 m
  state_again e x out me me1 me2 m none took left find free knows =
      let call = gathered e (λ g. record g { receiver = Some x }) no_sides no_sides in let slots : List (ℕ × Slot) = (receiver_slot e, Empty) ∷ out in
      let one : IsCalling me.0 call slots me1 = took me.0 no_sides no_sides out none in let two = receiver_left e x out me me1 me2 me.0 none took left in
      let taken = known_after coded meaning me (HasWord (place_in (receiver_word e)) 0) (ManagerTakes lane_turn.Receiver e) me1 m find knows (carrier_of me.0 (Gathers no_sides no_sides) call out slots me me1 none one) in
      let freed = known_after coded meaning me1 (StoresWord (place_in (receiver_word e)) 0) (ManagerLeaves lane_turn.Receiver e) me2 (after_deed meaning m (ManagerTakes lane_turn.Receiver e)) free taken (carrier_of me.0 call (Gathers no_sides no_sides) slots out me1 me2 one two) in
      subst (λ (l : LaneLink (RingState D)). KnowsState coded me2.0 l) (back_again meaning m e (turn_free coded meaning me me1 e m find knows)) freed

  -- a close by the manager: the state follows, and the answer is that of its era
  callers_closed : (b : Bool) (m : LaneLink (RingState D)) (inc : ℕ) → (if b then record m { era = record { inc = inc; is_live = false } } else m).callers ≡ m.callers
  callers_closed true m inc = refl
  callers_closed false m inc = refl

  pub closed_state : (inc : ℕ) (answer : Result (Unit {0}) Already) (before after : Manager) (m : LaneLink (RingState D)) → HasClosed coded meaning 64 inc answer before.seat.me after.seat.me → Manages after.seat.me.0 → after.users ≡ before.users
      → IsStateOf coded before m → IsStateOf coded after (after_deed meaning m (Closes inc)) × IsCloseAnswer inc m.era answer
  closed_state inc answer before after m x manages users is =
      let me = before.seat.me in let me' = after.seat.me in let knows = is.known in let step = x.step in let cd = placed_coded coded me.0.sizes.desks in
      let here : step.state ≡ placed_link coded me.0.sizes.desks m = sym (copied_one cd (placed_link coded me.0.sizes.desks m) step.state (step.copy _ knows.manages knows.carries knows.copy).0) in (
        record {
          known = state_after coded meaning (Closes inc) me.0 me'.0 step.state m knows (record { manages = manages; out = ap (λ (s : SeatState). s.0.out) x.noted; sizes = ap (λ (s : SeatState). s.0.sizes) x.noted }) (λ k was. step.copy k knows.manages knows.carries was);
          users = users ∙ (is.users ∙ sym (callers_closed (is_live_in m.era inc) m inc));
        },
        subst (λ (era : Era). IsCloseAnswer inc era answer) (era_of_word x.era step.state.era step.found ∙ ap (λ (l : LaneLink (RingState (PlacedDesk coded me.0.sizes.desks))). l.era) here) x.answered,
      )
