-- The manager's own call over its steps.
use Rattle.std.proofs.Common.{◌≡◌, ◌⊎◌, ◌+◌, ◌-◌, ℕ, zero, suc, Bool, true, false, eqb, cond, List, [], ◌∷◌, refl, sym, ap, ◌∙◌, subst, inl, inr, ⊎_elim, arith}
use Rattle.std.specs.Prelude.{Option, Some, None}
use mathlib.Core.Option.{some, some-injective, some-ne-none}
use lib.ListN.{get_elem?}
use Rattle.atomic_table.specs.Table.{rest}
use Rattle.rp_base.specs.declared.kinds.End.{End}
use Rattle.rp_base.specs.declared.kinds.End.TheVariants as side
use Rattle.lane_model.specs.declared.recoveries.LaneTurn.{LaneTurn}
use Rattle.link_words.specs.declared.rule.Call.{Call}
use Rattle.link_words.specs.declared.rule.Call.TheVariants.{Gathers}
use Rattle.link_words.specs.declared.rule.LaneSides.{LaneSides}
use Rattle.link_words.specs.declared.rule.Pass.{Pass}
use Rattle.link_words.specs.declared.rule.ReceiverSide.{ReceiverSide}
use Rattle.link_words.specs.declared.rule.SenderSide.{SenderSide}
use Rattle.link_words.specs.declared.rule.Slot.{Slot}
use Rattle.link_words.specs.declared.rule.Slot.TheVariants.{Empty, Receiver, Sender}
use Rattle.link_words.specs.declared.rule.View.{View}
use Rattle.link_words.specs.Calls.{SeatState, Becomes, with_pass_at}
use Rattle.link_words.specs.Passes.{with_call, place_of_number}
use Rattle.link_words.specs.Parts.{has_for_manager, has_sender_for_manager}
use Rattle.link_words.specs.Reopens.{AreInUse, IsHoldersWord, SomeInUse, ManagerDoes, both_sides, gathers_or, manager_place, ManagerAt, gathered, ManagerTakesSender, ManagerTakesReceiver, ManagerLeavesSender, ManagerLeavesReceiver, MayGather, MayLeaveSender, MayLeaveReceiver}
use Rattle.link_words.specs.Sides.{is_there, no_sides, sides_at}
use Rattle.link_words.specs.Words.{sender_slot, receiver_slot}
use base.Stored.{Coded}
use Rattle.lane_model.specs.Desks.{DeskMeaning}
use Rattle.lane_model.specs.Links.{end_of}
use Rattle.ring_core.specs.declared.states.Hand.{Hand}
use Rattle.link_words.specs.Deeds.{ManagerTakes}
use Rattle.link_words.specs.Layouts.{place_in}
use Rattle.link_words.specs.Steps.{HasWord, turn_number}
use Rattle.split_ring.specs.Gathers.{called_view, IsCalling, TakesSide, PutsSide, Meets, IsHolderIn, lane_slots, TakesLane, PutsLane, IsAsBefore}

true-false : true ≡ false → ⊥
true-false e = absurd (cc)

at_pass : (f : Pass → Pass) (k : ℕ) (ps : List Pass) (p : Pass) → get_elem? ps k ≡ some p → get_elem? (with_pass_at f k ps) k ≡ some (f p)
at_pass f k [] p at = absurd (some-ne-none p (sym at))
at_pass f zero (q ∷ ps) p at = ap (λ (x : Pass). some (f x)) (some-injective q p at)
at_pass f (suc k) (q ∷ ps) p at = at_pass f k ps p at

pub same_place : (n : ℕ) (call : Call) (k : ℕ) (ps : List Pass) → place_of_number n (with_pass_at (λ p. with_call p call) k ps) ≡ place_of_number n ps
same_place n call k [] = refl
same_place n call zero (q ∷ ps) = refl
same_place n call (suc k) (q ∷ ps) = ap (λ (i : ℕ). cond (eqb q.number n) 0 (suc i)) (same_place n call k ps)

pub call_again : (f : Call → Call) (call : Call) (k : ℕ) (ps : List Pass) → with_pass_at (λ p. with_call p (f p.call)) k (with_pass_at (λ p. with_call p call) k ps) ≡ with_pass_at (λ p. with_call p (f call)) k ps
call_again f call k [] = refl
call_again f call zero (q ∷ ps) = refl
call_again f call (suc k) (q ∷ ps) = ap (λ (l : List Pass). q ∷ l) (call_again f call k ps)

-- the manager's own pass
pub manager_at : (v : View) (call : Call) (slots : List (ℕ × Slot)) (me : SeatState) → IsCalling v call slots me → ManagerAt me call
manager_at v call slots me c = let k = place_of_number 64 v.passes in record {
  mover = record { place = k; pass = with_call c.manager call; here = ap (λ (s : SeatState). get_elem? s.0.passes k) c.is ∙ at_pass (λ p. with_call p call) k v.passes c.manager c.here };
  here = sym (ap (λ (s : SeatState). place_of_number 64 s.0.passes) c.is ∙ same_place 64 call k v.passes);
  number = c.number;
  in_call = refl;
}

pub may_gather : (v : View) (a b : LaneSides) (slots : List (ℕ × Slot)) (me : SeatState) → IsCalling v (Gathers a b) slots me → MayGather me
may_gather v a b slots me c = record { to_host = a; to_remote = b; at = manager_at v (Gathers a b) slots me c }

-- after a step of the manager, it is in its next call
pub calls_next : (v : View) (call : Call) (f : Call → Call) (slots slots' : List (ℕ × Slot)) (me me' : SeatState) → IsCalling v call slots me → Becomes (λ p. with_call p (f p.call)) (manager_place me) slots' me me' → IsCalling v (f call) slots' me'
calls_next v call f slots slots' me me' c told = let k = place_of_number 64 v.passes in let before = with_pass_at (λ p. with_call p call) k v.passes in record {
  manager = c.manager;
  here = c.here;
  number = c.number;
  is = told
      ∙ ((λ i. (record (c.is i).0 { copy = me'.0.copy; passes = with_pass_at (λ p. with_call p (f p.call)) (place_of_number 64 (c.is i).0.passes) (c.is i).0.passes }, slots'))
      ∙ (λ i. (record v { copy = me'.0.copy; passes = (ap (λ (j : ℕ). with_pass_at (λ p. with_call p (f p.call)) j before) (same_place 64 call k v.passes) ∙ call_again f call k v.passes) i }, slots')));
}

-- what is in the slots changes
pub slots_next : (v : View) (call : Call) (slots slots' : List (ℕ × Slot)) (me me' : SeatState) → IsCalling v call slots me → me' ≡ (me.0, slots') → IsCalling v call slots' me'
slots_next v call slots slots' me me' c told = record {
  manager = c.manager;
  here = c.here;
  number = c.number;
  is = told ∙ ((λ i. ((c.is i).0, slots')) ∙ (λ i. (called_view v call (ap (λ (s : SeatState). s.0.copy) (sym told) i), slots')));
}

second : Slot → List (ℕ × Slot) → Slot
second y [] = y
second y (p ∷ ps) = p.1

-- what is in the slot that was taken last
pub within : (k k' : ℕ) (y w : Slot) (slots more : List (ℕ × Slot)) → slots ≡ (k, y) ∷ more → slots ≡ (k', w) ∷ rest slots → w ≡ y
unfolding second
within k k' y w slots more one two = ap (second w) (sym two ∙ one)

-- the side state of a turn that was found free
pub sender_out : (lane : End) (n : ℕ) (me me1 : SeatState) → n ≡ 0 → ManagerTakesSender lane me n me1 → (x : SenderSide) × (me1.1 ≡ (sender_slot lane, Sender x) ∷ me.1)
sender_out lane n me me1 hit told = let h = told.0 hit in (h.0, ap (λ (s : SeatState). s.1) h.1)

pub receiver_out : (lane : End) (n : ℕ) (me me1 : SeatState) → n ≡ 0 → ManagerTakesReceiver lane me n me1 → (x : ReceiverSide) × (me1.1 ≡ (receiver_slot lane, Receiver x) ∷ me.1)
receiver_out lane n me me1 hit told = let h = told.0 hit in (h.0, ap (λ (s : SeatState). s.1) h.1)

-- who holds what is in hand by a side state that was taken is in use
pub out_in_use : (lane : End) (n k : ℕ) (y : Slot) (side : ReceiverSide) (me me1 : SeatState) → n ≡ 0 → ManagerTakesReceiver lane me n me1 → k ≡ receiver_slot lane → me1.1 ≡ (k, y) ∷ rest me1.1 → ((x : ReceiverSide) → y ≡ Receiver x → side ≡ x) → AreInUse me.0 lane side.hands
out_in_use lane n k y side me me1 hit told at lent side_is =
    let h = told.0 hit in let taken : me1.1 ≡ (receiver_slot lane, Receiver h.0) ∷ me.1 = ap (λ (s : SeatState). s.1) h.1 in
    let same : side ≡ h.0 = side_is h.0 (within (receiver_slot lane) k (Receiver h.0) y me1.1 me.1 taken lent) in
    subst (λ (x : ReceiverSide). AreInUse me.0 lane x.hands) (sym same) h.2

-- the holder of a turn that the manager's own call doesn't have, by its word
pub holder_in : (v : View) (is_own : Bool) (e : End) (n : ℕ) → IsHoldersWord v is_own e n → is_own ≡ false → IsHolderIn v (n - 1)
holder_in v is_own e n held none = ⊎_elim
    (λ (user : end_of v.users (n - 1) ≡ Some e). inl (e, user))
    (λ (manager : (n ≡ 65) × ((is_own ≡ true) ⊎ SomeInUse v)). let is = manager.0 in inr (omega (arith, is), ⊎_elim (λ (own : is_own ≡ true). absurd (true-false (sym own ∙ none))) (λ (some : SomeInUse v). some) manager.1)) held

-- a call that has no side state of a lane has no turn of it; with the sender's it has not the receiver's
pub no_sender : (lane : End) (a b : LaneSides) → sides_at lane a b ≡ no_sides → has_sender_for_manager lane (Gathers a b) ≡ false
no_sender lane a b none = ap (λ (g : LaneSides). is_there g.sender) none

pub no_receiver : (lane : End) (x : SenderSide) (a b : LaneSides) → sides_at lane a b ≡ no_sides → has_for_manager lane (gathered lane (λ g. record g { sender = Some x }) a b) ≡ false
no_receiver side.Host x a b none = ap (λ (g : LaneSides). is_there g.receiver) none
no_receiver side.Remote x a b none = ap (λ (g : LaneSides). is_there g.receiver) none

-- the callers in use, by the view that a seat's is but for the manager's own pass
pub users_by : {v : View} {call call' : Call} {slots slots' : List (ℕ × Slot)} (me me' : SeatState) → IsCalling v call slots me → IsCalling v call' slots' me' → me'.0.users ≡ me.0.users
users_by me me' c c' = ap (λ (s : SeatState). s.0.users) c'.is ∙ sym (ap (λ (s : SeatState). s.0.users) c.is)

pub holder_by : (v w : View) (holder : ℕ) → w.users ≡ v.users → IsHolderIn w holder → IsHolderIn v holder
holder_by v w holder same held = subst (λ (us : List (Option End)). ((e : End) × (end_of us holder ≡ Some e)) ⊎ ((holder ≡ 64) × ((n : ℕ) × (e : End) × (end_of us n ≡ Some e)))) same held

pub in_use_by : (v w : View) (lane : End) (hands : List Hand) → w.users ≡ v.users → AreInUse w lane hands → AreInUse v lane hands
in_use_by v w lane hands same users k h at = ap (λ (us : List (Option End)). end_of us h.caller) (sym same) ∙ users k h at

-- a slot that was lent under its number
pub lent_at : (k k' : ℕ) (y : Slot) (slots more : List (ℕ × Slot)) → slots ≡ (k, y) ∷ more → k' ≡ k → slots ≡ (k', y) ∷ rest slots
lent_at k k' y slots more is same = is ∙ (λ i. (sym same i, y) ∷ rest (sym is i))

pub took_sender : (lane : End) (n k : ℕ) (y : Slot) (side : SenderSide) (me me1 me2 : SeatState) → n ≡ 0 → ManagerTakesSender lane me n me1 → k ≡ sender_slot lane → me1.1 ≡ (k, y) ∷ rest me1.1 → me2 ≡ (me1.0, (k, Empty) ∷ rest me1.1)
    → ((x : SenderSide) → y ≡ Sender x → side ≡ x) → TakesSide lane (λ g. record g { sender = Some side }) (sender_slot lane) me me2
took_sender lane n k y side me me1 me2 hit told at lent out side_is v a b slots c =
    let h = told.0 hit in let f : SenderSide → Call → Call = λ x call. gathers_or call (gathered lane (λ g. record g { sender = Some x })) call in
    let taken : me1.1 ≡ (sender_slot lane, Sender h.0) ∷ me.1 = ap (λ (s : SeatState). s.1) h.1 in
    let one : IsCalling v (f h.0 (Gathers a b)) ((sender_slot lane, Sender h.0) ∷ me.1) me1 = calls_next v (Gathers a b) (f h.0) slots ((sender_slot lane, Sender h.0) ∷ me.1) me me1 c h.1 in
    let same : side ≡ h.0 = side_is h.0 (within (sender_slot lane) k (Sender h.0) y me1.1 me.1 taken lent) in
    subst (λ (x : SenderSide). IsCalling v (f x (Gathers a b)) ((sender_slot lane, Empty) ∷ slots) me2) (sym same)
    (slots_next v (f h.0 (Gathers a b)) ((sender_slot lane, Sender h.0) ∷ me.1) ((sender_slot lane, Empty) ∷ slots) me1 me2 one
    (out ∙ (λ i. (me1.0, (at i, Empty) ∷ (ap rest taken ∙ ap (λ (s : SeatState). s.1) c.is) i))))

pub took_receiver : (lane : End) (n k : ℕ) (y : Slot) (side : ReceiverSide) (me me1 me2 : SeatState) → n ≡ 0 → ManagerTakesReceiver lane me n me1 → k ≡ receiver_slot lane → me1.1 ≡ (k, y) ∷ rest me1.1 → me2 ≡ (me1.0, (k, Empty) ∷ rest me1.1)
    → ((x : ReceiverSide) → y ≡ Receiver x → side ≡ x) → TakesSide lane (λ g. record g { receiver = Some side }) (receiver_slot lane) me me2
took_receiver lane n k y side me me1 me2 hit told at lent out side_is v a b slots c =
    let h = told.0 hit in let f : ReceiverSide → Call → Call = λ x call. gathers_or call (gathered lane (λ g. record g { receiver = Some x })) call in
    let taken : me1.1 ≡ (receiver_slot lane, Receiver h.0) ∷ me.1 = ap (λ (s : SeatState). s.1) h.1 in
    let one : IsCalling v (f h.0 (Gathers a b)) ((receiver_slot lane, Receiver h.0) ∷ me.1) me1 = calls_next v (Gathers a b) (f h.0) slots ((receiver_slot lane, Receiver h.0) ∷ me.1) me me1 c h.1 in
    let same : side ≡ h.0 = side_is h.0 (within (receiver_slot lane) k (Receiver h.0) y me1.1 me.1 taken lent) in
    subst (λ (x : ReceiverSide). IsCalling v (f x (Gathers a b)) ((receiver_slot lane, Empty) ∷ slots) me2) (sym same)
    (slots_next v (f h.0 (Gathers a b)) ((receiver_slot lane, Receiver h.0) ∷ me.1) ((receiver_slot lane, Empty) ∷ slots) me1 me2 one
    (out ∙ (λ i. (me1.0, (at i, Empty) ∷ (ap rest taken ∙ ap (λ (s : SeatState). s.1) c.is) i))))

-- a side state is in its slot again
pub leave_sender : (lane : End) (v : View) (a b : LaneSides) (slots : List (ℕ × Slot)) (x : SenderSide) (k : ℕ) (me me1 : SeatState) → IsCalling v (Gathers a b) ((sender_slot lane, Empty) ∷ slots) me → (sides_at lane a b).sender ≡ Some x
    → k ≡ sender_slot lane → me1 ≡ (me.0, (k, Sender x) ∷ rest me.1) → MayLeaveSender lane me1
unfolding may_gather
leave_sender lane v a b slots x k me me1 c has at out =
    let more : List (ℕ × Slot) = (sender_slot lane, Sender x) ∷ slots in let rest_is : rest me.1 ≡ slots = ap (λ (s : SeatState). rest s.1) c.is in
    let is : me1 ≡ (me.0, more) = out ∙ (λ i. (me.0, (at i, Sender x) ∷ rest_is i)) in
    record { gather = may_gather v a b more me1 (slots_next v (Gathers a b) ((sender_slot lane, Empty) ∷ slots) more me me1 c is); side = x; has = has; slots = lent_at (sender_slot lane) (sender_slot lane) (Sender x) me1.1 slots (ap (λ (s : SeatState). s.1) is) refl }

pub leave_receiver : (lane : End) (v : View) (a b : LaneSides) (slots : List (ℕ × Slot)) (x : ReceiverSide) (k : ℕ) (me me1 : SeatState) → IsCalling v (Gathers a b) ((receiver_slot lane, Empty) ∷ slots) me → (sides_at lane a b).receiver ≡ Some x
    → k ≡ receiver_slot lane → me1 ≡ (me.0, (k, Receiver x) ∷ rest me.1) → MayLeaveReceiver lane me1
unfolding may_gather
leave_receiver lane v a b slots x k me me1 c has at out =
    let more : List (ℕ × Slot) = (receiver_slot lane, Receiver x) ∷ slots in let rest_is : rest me.1 ≡ slots = ap (λ (s : SeatState). rest s.1) c.is in
    let is : me1 ≡ (me.0, more) = out ∙ (λ i. (me.0, (at i, Receiver x) ∷ rest_is i)) in
    record { gather = may_gather v a b more me1 (slots_next v (Gathers a b) ((receiver_slot lane, Empty) ∷ slots) more me me1 c is); side = x; has = has; slots = lent_at (receiver_slot lane) (receiver_slot lane) (Receiver x) me1.1 slots (ap (λ (s : SeatState). s.1) is) refl }

pub put_sender_is : (lane : End) (k : ℕ) (y : Slot) (me me1 me2 : SeatState) → me1 ≡ (me.0, (k, y) ∷ rest me.1) → ManagerLeavesSender lane me1 me2 → PutsSide lane (λ g. record g { sender = None }) (sender_slot lane) me me2
put_sender_is lane k y me me1 me2 out told v a b slots c =
    let f : Call → Call = λ call. gathers_or call (gathered lane (λ g. record g { sender = None })) call in
    let one = slots_next v (Gathers a b) ((sender_slot lane, Empty) ∷ slots) ((k, y) ∷ rest me.1) me me1 c out in
    let two = calls_next v (Gathers a b) f ((k, y) ∷ rest me.1) (rest me1.1) me1 me2 one told in
    subst (λ (l : List (ℕ × Slot)). IsCalling v (f (Gathers a b)) l me2) (ap (λ (s : SeatState). rest s.1) out ∙ ap (λ (s : SeatState). rest s.1) c.is) two

pub put_receiver_is : (lane : End) (k : ℕ) (y : Slot) (me me1 me2 : SeatState) → me1 ≡ (me.0, (k, y) ∷ rest me.1) → ManagerLeavesReceiver lane me1 me2 → PutsSide lane (λ g. record g { receiver = None }) (receiver_slot lane) me me2
put_receiver_is lane k y me me1 me2 out told v a b slots c =
    let f : Call → Call = λ call. gathers_or call (gathered lane (λ g. record g { receiver = None })) call in
    let one = slots_next v (Gathers a b) ((receiver_slot lane, Empty) ∷ slots) ((k, y) ∷ rest me.1) me me1 c out in
    let two = calls_next v (Gathers a b) f ((k, y) ∷ rest me.1) (rest me1.1) me1 me2 one told in
    subst (λ (l : List (ℕ × Slot)). IsCalling v (f (Gathers a b)) l me2) (ap (λ (s : SeatState). rest s.1) out ∙ ap (λ (s : SeatState). rest s.1) c.is) two

-- an attempt that met another's turn changes nothing
pub meets : {D : Type 0} (coded : Coded D) (meaning : DeskMeaning D) (which : LaneTurn) (lane : End) (n holder : ℕ) (me me1 : SeatState) → me1 ≡ me → n ≡ holder + 1
    → ManagerDoes coded meaning me (HasWord (place_in (turn_number which lane)) n) (ManagerTakes which lane) me1 → (me1 ≡ me) × Meets coded meaning which lane holder me
meets coded meaning which lane n holder me me1 same is step = (same, subst (λ (t : ℕ × SeatState). ManagerDoes coded meaning me (HasWord (place_in (turn_number which lane)) t.0) (ManagerTakes which lane) t.1) (λ i. (is i, same i)) step)

-- the same by the lane, whose side is written out in two ways
pub may_gather_at : (lane : End) (f : LaneSides → LaneSides) (v : View) (a b : LaneSides) (slots : List (ℕ × Slot)) (me : SeatState) → IsCalling v (gathered lane f a b) slots me → MayGather me
may_gather_at side.Host f v a b slots me c = may_gather v (f a) b slots me c
may_gather_at side.Remote f v a b slots me c = may_gather v a (f b) slots me c

-- both side states of a lane, one after the other
pub takes_both : (lane : End) (x : SenderSide) (y : ReceiverSide) (me me1 me2 : SeatState) → TakesSide lane (λ g. record g { sender = Some x }) (sender_slot lane) me me1 → TakesSide lane (λ g. record g { receiver = Some y }) (receiver_slot lane) me1 me2 → TakesLane lane x y me me2
takes_both side.Host x y me me1 me2 one two v a b slots c = two v (record a { sender = Some x }) b ((sender_slot side.Host, Empty) ∷ slots) (one v a b slots c)
takes_both side.Remote x y me me1 me2 one two v a b slots c = two v a (record b { sender = Some x }) ((sender_slot side.Remote, Empty) ∷ slots) (one v a b slots c)

-- the sender's is left again
pub as_before : (lane : End) (x : SenderSide) (me me1 me2 : SeatState) → TakesSide lane (λ g. record g { sender = Some x }) (sender_slot lane) me me1 → PutsSide lane (λ g. record g { sender = None }) (sender_slot lane) me1 me2 → IsAsBefore lane me me2
as_before side.Host x me me1 me2 one two v a b slots none c =
    subst (λ (g : LaneSides). IsCalling v (Gathers g b) slots me2) ((λ i. record (none i) { sender = None }) ∙ sym none) (two v (record a { sender = Some x }) b slots (one v a b slots c))
as_before side.Remote x me me1 me2 one two v a b slots none c =
    subst (λ (g : LaneSides). IsCalling v (Gathers a g) slots me2) ((λ i. record (none i) { sender = None }) ∙ sym none) (two v a (record b { sender = Some x }) slots (one v a b slots c))

-- what is left
abbrev pub LeavesSenderOf : End → SenderSide → SeatState → Type 0
LeavesSenderOf lane x me = (v : View) × (a : LaneSides) × (b : LaneSides) × (slots : List (ℕ × Slot)) × IsCalling v (Gathers a b) ((sender_slot lane, Empty) ∷ slots) me × ((sides_at lane a b).sender ≡ Some x)

pub sender_held : (lane : End) (x : SenderSide) (me me1 : SeatState) (v : View) (a b : LaneSides) (slots : List (ℕ × Slot)) → IsCalling v (Gathers a b) slots me → TakesSide lane (λ g. record g { sender = Some x }) (sender_slot lane) me me1 → LeavesSenderOf lane x me1
sender_held side.Host x me me1 v a b slots c one = (v, record a { sender = Some x }, b, slots, one v a b slots c, refl)
sender_held side.Remote x me me1 v a b slots c one = (v, a, record b { sender = Some x }, slots, one v a b slots c, refl)

pub sender_left : (lane : End) (x : SenderSide) (y : ReceiverSide) (me me1 : SeatState) (v : View) (a b : LaneSides) (slots : List (ℕ × Slot)) → IsCalling v (Gathers a b) (lane_slots lane slots) me → sides_at lane a b ≡ both_sides x y
    → PutsSide lane (λ g. record g { receiver = None }) (receiver_slot lane) me me1 → LeavesSenderOf lane x me1
sender_left side.Host x y me me1 v a b slots c sides one = (v, record a { receiver = None }, b, slots, one v a b ((sender_slot side.Host, Empty) ∷ slots) c, ap (λ (g : LaneSides). g.sender) sides)
sender_left side.Remote x y me me1 v a b slots c sides one = (v, a, record b { receiver = None }, slots, one v a b ((sender_slot side.Remote, Empty) ∷ slots) c, ap (λ (g : LaneSides). g.sender) sides)

pub puts_both : (lane : End) (me me1 me2 : SeatState) → PutsSide lane (λ g. record g { receiver = None }) (receiver_slot lane) me me1 → PutsSide lane (λ g. record g { sender = None }) (sender_slot lane) me1 me2 → PutsLane lane me me2
puts_both side.Host me me1 me2 one two v a b slots c = two v (record a { receiver = None }) b slots (one v a b ((sender_slot side.Host, Empty) ∷ slots) c)
puts_both side.Remote me me1 me2 one two v a b slots c = two v a (record b { receiver = None }) slots (one v a b ((sender_slot side.Remote, Empty) ∷ slots) c)
