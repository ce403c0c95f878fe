-- What the steps of a reclaim tell a seat that may have several passes is what they tell of the pass alone.
use Rattle.std.proofs.Common.{◌≡◌, ◌≢◌, ℕ, zero, suc, ◌+◌, ◌-◌, ◌<◌, ◌++◌, Bool, true, false, cond, length, List, [], ◌∷◌, refl, sym, ap, ◌∙◌, subst, arith}
use mathlib.Core.Option.{some}
use lib.ListN.{get_elem?}
use base.Stored.{Coded}
use Rattle.atomic_table.specs.Table.{rest}
use Rattle.rp_base.specs.declared.kinds.End.{End}
use Rattle.lane_model.specs.declared.recoveries.LaneTurn.{LaneTurn}
use Rattle.lane_model.specs.declared.recoveries.LaneTurn.TheVariants as lane_turn
use Rattle.lane_model.specs.declared.stages.Receiving.{Receiving}
use Rattle.lane_model.specs.declared.stages.SendStage.{SendStage}
use Rattle.lane_model.specs.declared.stages.SendStage.TheVariants as stage
use Rattle.lane_model.specs.declared.stages.Sending.{Sending}
use Rattle.lane_model.specs.declared.stages.TakeStage.TheVariants as take_stage
use Rattle.lane_model.specs.declared.stages.Turn.{Turn}
use Rattle.lane_model.specs.declared.stages.Turn.TheVariants as turn
use Rattle.lane_model.specs.declared.stages.Work.{Work}
use Rattle.lane_model.specs.declared.stages.Work.TheVariants as work
use Rattle.lane_model.specs.Desks.{DeskMeaning}
use Rattle.ring_core.specs.Owners.{sender_is_out, receiver_is_out, send_is_out, work_is_out}
use Rattle.link_words.specs.declared.rule.Call.{Call}
use Rattle.link_words.specs.declared.rule.Call.TheVariants.{Idle, Rests, Sends, Receives, EndsSend, EndsBoth, EndsReceive, EndsHeld, Reclaims, Reopens, Gathers}
use Rattle.link_words.specs.declared.rule.Pass.{Pass}
use Rattle.link_words.specs.declared.rule.ReceiverSide.{ReceiverSide}
use Rattle.link_words.specs.declared.rule.Slot.{Slot}
use Rattle.link_words.specs.declared.rule.Slot.TheVariants.{Receiver}
use Rattle.link_words.specs.declared.rule.View.{View}
use Rattle.link_words.specs.Calls.{SeatState, Becomes, call_at, number_at, place_of, with_pass_at}
use Rattle.link_words.specs.Deeds.{Deed, ManagerTakes}
use Rattle.link_words.specs.Layouts.{place_in}
use Rattle.link_words.specs.Orderly.{IsOrderly}
use Rattle.link_words.specs.Passes.{place_of_number, with_call}
use Rattle.link_words.specs.Reclaims.{StandsIn, DoesAt, HasTurn, MayFindClosed, FindsClosed, IsUnclaimed, MayClaim, ClaimsTurn, MayEnd, HasSlots, HasFilledSlots, MayLeaveEnded, LeavesEnded, doomed_call, claimed_call, spared_call, ended_pass, ending_of, slots_left, without_hands}
use Rattle.link_words.specs.Steps.{HasWord}
use Rattle.link_words.specs.Words.{receiver_slot, receiver_word}
use Rattle.link_words.proofs.Placed.{state_after}
use Rattle.split_ring.specs.declared.callers.CallerId.{CallerId}
use Rattle.split_ring.specs.Carried.{turned_by}
use Rattle.split_ring.specs.Focus.{send_count, work_count, send_turn_count, work_turn_count, slot_count, front, behind, count_of, seat_of, KnowsAfter, LeavesOthers, ChangesAlone}
use Rattle.split_ring.specs.Reclaims.{HoldsAlone, IsNow, StandsAlone, ended_of}
use Rattle.split_ring.specs.Seats.{IsAt, pass_in}
use Rattle.split_ring.proofs.AloneSteps.{keeps_slots}
use Rattle.split_ring.proofs.EndSteps.{alone_place, becomes_now, holds_left}
use Rattle.split_ring.proofs.Focusing.{Focused, Links, call_there, count_is, focused, inside_alone, lent_alone, lent_front, nil_cons, number_is, only_there, rest_behind, rest_front, same_carrier, step_alone, swapped_alone}
use Rattle.split_ring.proofs.Seats.{mover_of}
use Rattle.split_ring.proofs.Turning.{Slots, front_behind, length_both, turned_parts}

-- two slots that are in front are the first of all
lent_two : (c : ℕ) (slots more : Slots) (k l : ℕ) (y w : Slot) → front c slots ≡ (k, y) ∷ (l, w) ∷ more → slots ≡ (k, y) ∷ (l, w) ∷ rest (rest slots)
lent_two zero slots more k l y w is = absurd (nil_cons (k, y) ((l, w) ∷ more) is)
lent_two (suc c) slots more k l y w is = lent_front (suc c) slots ((l, w) ∷ more) k y is ∙ ap (λ (s : Slots). (k, y) ∷ s) (lent_front c (rest slots) more l w (sym (rest_front c slots) ∙ ap rest is))

-- how many slots are out with a turn
stage_out : (q : SendStage) → send_count q ≡ cond (send_is_out q) 2 1
stage_out stage.Turn = refl
stage_out stage.Era = refl
stage_out stage.Look = refl
stage_out stage.Buffer = refl
stage_out stage.Entry = refl

send_out : (t : Turn Sending) → send_turn_count t ≡ cond (sender_is_out t) 2 1
send_out turn.Free = refl
send_out (turn.Taken caller s) = stage_out s.stage
send_out (turn.Leaving caller end) = refl
send_out turn.Manager = refl

work_out : (w : Work) → work_count w ≡ cond (work_is_out w) 2 1
work_out (work.Take take_stage.Turn) = refl
work_out (work.Take take_stage.Era) = refl
work_out (work.Take take_stage.Look) = refl
work_out (work.Take take_stage.Buffer) = refl
work_out (work.Give number given) = refl
work_out (work.Bind address) = refl
work_out (work.Unbind address) = refl

receive_out : (t : Turn Receiving) → work_turn_count t ≡ cond (receiver_is_out t) 2 1
receive_out turn.Free = refl
receive_out (turn.Taken caller r) = work_out r.work
receive_out (turn.Leaving caller end) = refl
receive_out turn.Manager = refl

one_more : (out : Bool) → suc (cond out 2 1) ≡ cond out 3 2
one_more true = refl
one_more false = refl

-- of so many slots in front these are left there, and the others stay behind them
abbrev AreLeft : ℕ → ℕ → (Slots → Slots) → Slots → Type 0
AreLeft d c left xs = (front d (left xs) ≡ left (front c xs)) × (behind d (left xs) ≡ behind c xs)

all_left : (d c : ℕ) (xs : Slots) → d ≡ c → AreLeft d c (λ slots. slots) xs
all_left d c xs is = (ap (λ (i : ℕ). front i xs) is, ap (λ (i : ℕ). behind i xs) is)

rest_left : (d c : ℕ) (xs : Slots) → c ≡ suc d → AreLeft d c rest xs
rest_left d c xs is = (sym (rest_front d xs) ∙ ap (λ (i : ℕ). rest (front i xs)) (sym is), rest_behind d xs ∙ ap (λ (i : ℕ). behind i xs) (sym is))

turn_left : (out : Bool) (d c : ℕ) (xs : Slots) → c ≡ cond out (suc (suc d)) (suc d) → AreLeft d c (λ slots. cond out (rest (rest slots)) (rest slots)) xs
turn_left true d c xs is = let one = rest_left d (suc d) (rest xs) refl in let two = rest_left (suc d) c xs is in (one.0 ∙ ap rest two.0, one.1 ∙ two.1)
turn_left false d c xs is = rest_left d c xs is

left_of : (p : Pass) (k : Call) (c : ℕ) (xs : Slots) → p.call ≡ k → c ≡ slot_count k → AreLeft (slot_count (ended_pass p k).call) c (slots_left k) xs
left_of p Idle c xs at is = all_left (slot_count p.call) c xs (ap slot_count at ∙ sym is)
left_of p (Rests e) c xs at is = all_left (slot_count p.call) c xs (ap slot_count at ∙ sym is)
left_of p (Sends e t x b) c xs at is = all_left (slot_count p.call) c xs (ap slot_count at ∙ sym is)
left_of p (EndsSend e t x b) c xs at is = turn_left (sender_is_out t) 0 c xs (is ∙ send_out t)
left_of p (EndsBoth e t x b y) c xs at is = turn_left (sender_is_out t) 1 c xs (is ∙ (ap suc (send_out t) ∙ one_more (sender_is_out t)))
left_of p (Receives e t x b message) c xs at is = all_left (slot_count p.call) c xs (ap slot_count at ∙ sym is)
left_of p (EndsReceive e t x b message) c xs at is = turn_left (receiver_is_out t) 0 c xs (is ∙ receive_out t)
left_of p (Reclaims e x) c xs at is = rest_left 0 c xs is
left_of p (EndsHeld e x) c xs at is = rest_left 0 c xs is
left_of p (Reopens q inc a b) c xs at is = all_left (slot_count p.call) c xs (ap slot_count at ∙ sym is)
left_of p (Gathers a b) c xs at is = all_left (slot_count p.call) c xs (ap slot_count at ∙ sym is)

same_number : (p : Pass) (k : Call) → (ended_pass p k).number ≡ p.number
same_number p Idle = refl
same_number p (Rests e) = refl
same_number p (Sends e t x b) = refl
same_number p (EndsSend e t x b) = refl
same_number p (EndsBoth e t x b y) = refl
same_number p (Receives e t x b message) = refl
same_number p (EndsReceive e t x b message) = refl
same_number p (Reclaims e x) = refl
same_number p (EndsHeld e x) = refl
same_number p (Reopens q inc a b) = refl
same_number p (Gathers a b) = refl

-- a call that is to be ended has as many slots out as before
doomed_count : (k : Call) → HasTurn k → slot_count (doomed_call k) ≡ slot_count k
doomed_count Idle has = absurd has
doomed_count (Rests e) has = absurd has
doomed_count (Sends e t x b) has = refl
doomed_count (EndsSend e t x b) has = absurd has
doomed_count (EndsBoth e t x b y) has = absurd has
doomed_count (Receives e t x b message) has = refl
doomed_count (EndsReceive e t x b message) has = absurd has
doomed_count (Reclaims e x) has = refl
doomed_count (EndsHeld e x) has = absurd has
doomed_count (Reopens q inc a b) has = absurd has
doomed_count (Gathers a b) has = absurd has

-- with the receiver's turn it has one more, and without it as many
claimed_count : (e : End) (y : ReceiverSide) (k : Call) → IsUnclaimed e k → slot_count (claimed_call y k) ≡ suc (slot_count k)
claimed_count e y Idle un = absurd un
claimed_count e y (Rests i) un = refl
claimed_count e y (Sends i t x b) un = absurd un
claimed_count e y (EndsSend i t x b) un = refl
claimed_count e y (EndsBoth i t x b w) un = absurd un
claimed_count e y (Receives i t x b message) un = absurd un
claimed_count e y (EndsReceive i t x b message) un = absurd un
claimed_count e y (Reclaims i x) un = absurd un
claimed_count e y (EndsHeld i x) un = absurd un
claimed_count e y (Reopens q inc a b) un = absurd un
claimed_count e y (Gathers a b) un = absurd un

spared_count : (k : Call) → slot_count (spared_call k) ≡ slot_count k
spared_count Idle = refl
spared_count (Rests e) = refl
spared_count (Sends e t x b) = refl
spared_count (EndsSend e t x b) = refl
spared_count (EndsBoth e t x b y) = refl
spared_count (Receives e t x b message) = refl
spared_count (EndsReceive e t x b message) = refl
spared_count (Reclaims e x) = refl
spared_count (EndsHeld e x) = refl
spared_count (Reopens q inc a b) = refl
spared_count (Gathers a b) = refl

-- a seat that has not changed, or whose pass has
same_passes : (k : ℕ) (ps : List Pass) → ps ≡ with_pass_at (λ p. p) k ps
same_passes k [] = refl
same_passes zero (p ∷ ps) = refl
same_passes (suc k) (p ∷ ps) = ap (λ (l : List Pass). p ∷ l) (same_passes k ps)

leaves_same : (n : ℕ) (me me' : SeatState) → me' ≡ me → LeavesOthers n me me'
leaves_same n me me' is = record {
  change = λ p. p;
  view = ap (λ (s : SeatState). s.0) is ∙ (λ i. record me.0 { copy = (sym is i).0.copy; passes = same_passes (place_of_number n me.0.passes) me.0.passes i });
  here = ap (λ (s : SeatState). place_of_number n s.0.passes) is;
  others = ap (λ (s : SeatState). behind (count_of n s) s.1) is;
}

-- the pass that the seat would have alone is in its place
pass_there : (n : ℕ) (me : SeatState) → (seat_of n me).0.passes ≡ pass_in (seat_of n me) ∷ [] → get_elem? me.0.passes (place_of_number n me.0.passes) ≡ some (pass_in (seat_of n me))
pass_there n me one = (only_there (place_of_number n me.0.passes) me.0.passes 0 (pass_in (seat_of n me)) (ap (λ (ps : List Pass). get_elem? ps 0) one)).1

-- what a step that leaves a turn may do is what it may do with the pass alone
module _ (n : ℕ) (me : SeatState) where
  has_slots : (out : Bool) (buffer slot : ℕ) (x : Slot) → HasSlots out buffer slot x (seat_of n me) → HasSlots out buffer slot x me
  has_slots true buffer slot x (y, is) = (y, lent_two (count_of n me) me.1 _ buffer slot y x is)
  has_slots false buffer slot x is = lent_front (count_of n me) me.1 _ slot x is

  has_filled : (out : Bool) (buffer : ℕ) (message : List ℕ) (slot : ℕ) (x : Slot) → HasFilledSlots out buffer message slot x (seat_of n me) → HasFilledSlots out buffer message slot x me
  has_filled true buffer message slot x is = lent_two (count_of n me) me.1 _ buffer slot _ x is
  has_filled false buffer message slot x is = lent_front (count_of n me) me.1 _ slot x is

  may_end : (t : LaneTurn) (lane : End) (caller : ℕ) (k : Call) → MayEnd t lane caller (seat_of n me) k → MayEnd t lane caller me k
  may_end lane_turn.Sender lane caller Idle may = may
  may_end lane_turn.Sender lane caller (Rests e) may = may
  may_end lane_turn.Sender lane caller (Sends e t x b) may = may
  may_end lane_turn.Sender lane caller (EndsSend e t x b) may = (may.0, may.1, has_slots (sender_is_out t) _ _ _ may.2)
  may_end lane_turn.Sender lane caller (EndsBoth e t x b y) may = (may.0, may.1, has_slots (sender_is_out t) _ _ _ may.2)
  may_end lane_turn.Sender lane caller (Receives e t x b message) may = may
  may_end lane_turn.Sender lane caller (EndsReceive e t x b message) may = may
  may_end lane_turn.Sender lane caller (Reclaims e x) may = may
  may_end lane_turn.Sender lane caller (EndsHeld e x) may = may
  may_end lane_turn.Sender lane caller (Reopens q inc a b) may = may
  may_end lane_turn.Sender lane caller (Gathers a b) may = may
  may_end lane_turn.Receiver lane caller Idle may = may
  may_end lane_turn.Receiver lane caller (Rests e) may = may
  may_end lane_turn.Receiver lane caller (Sends e t x b) may = may
  may_end lane_turn.Receiver lane caller (EndsSend e t x b) may = may
  may_end lane_turn.Receiver lane caller (EndsBoth e t x b y) may = may
  may_end lane_turn.Receiver lane caller (Receives e t x b message) may = may
  may_end lane_turn.Receiver lane caller (EndsReceive e t x b message) may = (may.0, may.1, has_filled (receiver_is_out t) _ message _ _ may.2)
  may_end lane_turn.Receiver lane caller (Reclaims e x) may = (may.0, lent_front (count_of n me) me.1 _ _ _ may.1)
  may_end lane_turn.Receiver lane caller (EndsHeld e x) may = (may.0, lent_front (count_of n me) me.1 _ _ _ may.1)
  may_end lane_turn.Receiver lane caller (Reopens q inc a b) may = may
  may_end lane_turn.Receiver lane caller (Gathers a b) may = may

module _ (n : ℕ) (me : SeatState) (order : IsOrderly me.0) (s : StandsAlone (seat_of n me)) where
  abbrev own_pass : Pass
  own_pass = pass_in (seat_of n me)

  abbrev alone_focus : Focused n me
  alone_focus = focused n me order (mover_of (seat_of n me) s.one) (sym (alone_place (seat_of n me) s))

  abbrev stands_there : StandsIn me own_pass.call
  stands_there = record { mover = record { place = place_of_number n me.0.passes; pass = own_pass; here = pass_there n me s.one }; here = sym alone_focus.here; is = refl }

  pub may_find_alone : HasTurn own_pass.call → MayFindClosed me
  may_find_alone has = (own_pass.call, stands_there, has)

  pub may_leave_alone : (t : LaneTurn) (lane : End) → MayEnd t lane own_pass.number (seat_of n me) own_pass.call → MayLeaveEnded t lane me
  may_leave_alone t lane may = record { call = own_pass.call; stands = stands_there; may = may_end n me t lane own_pass.number own_pass.call may }

  call_here : call_at (place_of me) me.0.passes ≡ own_pass.call
  call_here = ap (λ (j : ℕ). call_at j me.0.passes) alone_focus.here ∙ call_there (place_of_number n me.0.passes) me.0.passes own_pass (pass_there n me s.one)

  -- the load of the era
  pub finds_alone : (me' : SeatState) (y : ℕ) → HasTurn own_pass.call → FindsClosed me y me' → FindsClosed (seat_of n me) y (seat_of n me') × LeavesOthers n me me'
  finds_alone me' y has told = (
    (told.0, told.1, told.2, (λ dead. (closes dead).0), (λ live. ap (seat_of n) (told.4 live))),
    leaves told.0.is_live refl,
  )
    where
      closes : told.0.is_live ≡ false → Becomes (λ p. with_call p (doomed_call p.call)) (place_of (seat_of n me)) (seat_of n me).1 (seat_of n me) (seat_of n me') × LeavesOthers n me me'
      closes dead = keeps_slots n me me' order alone_focus (λ p. with_call p (doomed_call p.call)) refl (doomed_count own_pass.call has ∙ sym (count_is n me alone_focus own_pass.call refl)) (told.3 dead)

      leaves : (b : Bool) → told.0.is_live ≡ b → LeavesOthers n me me'
      leaves true live = leaves_same n me me' (told.4 live)
      leaves false dead = (closes dead).1

  -- a leave
  pub ended_alone : (me' : SeatState) → LeavesEnded me me' → IsNow (ended_pass own_pass own_pass.call) (slots_left own_pass.call (seat_of n me).1) (seat_of n me) (seat_of n me') × LeavesOthers n me me'
  ended_alone me' told =
      let f = seat_of n me in let left = left_of own_pass own_pass.call (count_of n me) me.1 refl (count_is n me alone_focus own_pass.call refl) in
      let r = step_alone n me me' (λ p. ended_pass p p.call) (slots_left own_pass.call me.1) (slots_left own_pass.call f.1) (place_of me) (place_of f) (slot_count (ended_pass own_pass own_pass.call).call) own_pass (pass_there n me s.one) alone_focus.here alone_focus.first
      (same_number own_pass own_pass.call) refl left.0 left.1 (subst (λ (k : Call). Becomes (λ p. ended_pass p p.call) (place_of me) (slots_left k me.1) me me') call_here told) in
      (becomes_now (λ p. ended_pass p p.call) (slots_left own_pass.call f.1) (place_of f) f (seat_of n me') alone_focus.first s.one r.0, r.1)

  pub ending_here : ending_of (call_at (place_of me) me.0.passes) (number_at (place_of me) me.0.passes) ≡ ending_of own_pass.call n
  ending_here = λ i. ending_of (call_here i) (number_is n me alone_focus i)

-- the slots of the call go behind the others, and come to the front again, with what was put there before the others behind them
module _ (c own all : ℕ) (xs : Slots) (is : own ≡ length (front c xs)) (whole : all ≡ length xs) where
  turned_own : turned_by own xs ≡ behind c xs ++ front c xs
  turned_own = ap (turned_by own) (sym (front_behind c xs)) ∙ (ap (λ (k : ℕ). turned_by k (front c xs ++ behind c xs)) is ∙ turned_parts (front c xs) (behind c xs))

  all_parts : all ≡ own + length (behind c xs)
  all_parts = let both = length_both (front c xs) (behind c xs) in let same = ap length (front_behind c xs) in omega (arith, is, whole, both, same)

  pub own_least : own < suc all
  own_least = let parts = all_parts in omega (arith, parts)

  rest_count : all - own ≡ length (behind c xs)
  rest_count = let parts = all_parts in omega (arith, parts)

  turned_again : turned_by (all - own) (turned_by own xs) ≡ xs
  turned_again = ap (turned_by (all - own)) turned_own ∙ (ap (λ (k : ℕ). turned_by k (behind c xs ++ front c xs)) rest_count ∙ (turned_parts (behind c xs) (front c xs) ∙ front_behind c xs))

  turned_with : (r : ℕ × Slot) → turned_by (suc (all - own)) (r ∷ turned_by own xs) ≡ front c xs ++ r ∷ behind c xs
  turned_with r = ap (λ (l : Slots). turned_by (suc (all - own)) (r ∷ l)) turned_own ∙ (ap (λ (k : ℕ). turned_by (suc k) (r ∷ behind c xs ++ front c xs)) rest_count ∙ turned_parts (r ∷ behind c xs) (front c xs))

with_front : (c : ℕ) (xs : Slots) (r : ℕ × Slot) → front (suc c) (front c xs ++ r ∷ behind c xs) ≡ front c xs ++ r ∷ []
with_front zero xs r = refl
with_front (suc c) [] r = refl
with_front (suc c) (x ∷ xs) r = ap (λ (l : Slots). x ∷ l) (with_front c xs r)

with_behind : (c : ℕ) (xs : Slots) (r : ℕ × Slot) → behind (suc c) (front c xs ++ r ∷ behind c xs) ≡ behind c xs
with_behind zero xs r = refl
with_behind (suc c) [] r = refl
with_behind (suc c) (x ∷ xs) r = with_behind c xs r

-- the slots alone change behind a step
becomes_on : (f : Pass → Pass) (k : ℕ) (slots slots' : Slots) (me me1 me2 : SeatState) → Becomes f k slots me me1 → me2.0 ≡ me1.0 → me2.1 ≡ slots' → Becomes f k slots' me me2
becomes_on f k slots slots' me me1 me2 told view out =
    let all : me2.0 ≡ record me.0 { copy = me2.0.copy; passes = with_pass_at f k me.0.passes } = view ∙ (ap (λ (s : SeatState). s.0) told ∙ (λ i. record me.0 { copy = (sym view i).copy; passes = with_pass_at f k me.0.passes })) in
    λ i. (all i, out i)

-- the attempt on the receiver's turn, by a pass whose slots are behind the others
module _ (who : CallerId) (me : SeatState) (one : (seat_of who.number me).0.passes ≡ pass_in (seat_of who.number me) ∷ []) (un : IsUnclaimed who.end (pass_in (seat_of who.number me)).call) where
  abbrev there : get_elem? me.0.passes (place_of_number who.number me.0.passes) ≡ some (pass_in (seat_of who.number me))
  there = pass_there who.number me one

  pub may_claim_alone : (slots : Slots) → (pass_in (seat_of who.number me)).number ≡ who.number → MayClaim (me.0, slots) who.end who.number
  may_claim_alone slots number = record { mover = record { place = place_of_number who.number me.0.passes; pass = pass_in (seat_of who.number me); here = there }; here = refl; number = number; call = (pass_in (seat_of who.number me)).call; is = refl; unclaimed = un }

  count_here : count_of who.number me ≡ slot_count (pass_in (seat_of who.number me)).call
  count_here = ap slot_count (call_there (place_of_number who.number me.0.passes) me.0.passes (pass_in (seat_of who.number me)) there)

  module _ (own all : ℕ) (is : own ≡ length (seat_of who.number me).1) (whole : all ≡ length me.1) (me1 me2 : SeatState) (view : me2.0 ≡ me1.0) where
    claimed_alone : (y : ReceiverSide) → Becomes (λ p. with_call p (claimed_call y p.call)) (place_of_number who.number me.0.passes) ((receiver_slot who.end, Receiver y) ∷ turned_by own me.1) me me1 → me2.1 ≡ turned_by (suc (all - own)) me1.1
        → IsNow (with_call (pass_in (seat_of who.number me)) (claimed_call y (pass_in (seat_of who.number me)).call)) ((seat_of who.number me).1 ++ (receiver_slot who.end, Receiver y) ∷ []) (seat_of who.number me) (seat_of who.number me2) × LeavesOthers who.number me me2
    claimed_alone y told out =
        let n = who.number in let f = seat_of n me in let c = count_of n me in let r : ℕ × Slot = (receiver_slot who.end, Receiver y) in let change : Pass → Pass = λ p. with_call p (claimed_call y p.call) in
        let last : me2.1 ≡ front c me.1 ++ r ∷ behind c me.1 = out ∙ (ap (λ (s : SeatState). turned_by (suc (all - own)) s.1) told ∙ turned_with c own all me.1 is whole r) in
        let t = step_alone n me me2 change (front c me.1 ++ r ∷ behind c me.1) (f.1 ++ r ∷ []) (place_of_number n me.0.passes) 0 (suc c) (pass_in f) there refl refl refl
        (claimed_count who.end y (pass_in f).call un ∙ ap suc (sym count_here)) (with_front c me.1 r) (with_behind c me.1 r) (becomes_on change (place_of_number n me.0.passes) _ _ me me1 me2 told view last) in
        (becomes_now change (f.1 ++ r ∷ []) 0 f (seat_of n me2) refl one t.0, t.1)

    spared_alone : Becomes (λ p. with_call p (spared_call p.call)) (place_of_number who.number me.0.passes) (turned_by own me.1) me me1 → me2.1 ≡ turned_by (all - own) me1.1
        → IsNow (with_call (pass_in (seat_of who.number me)) (spared_call (pass_in (seat_of who.number me)).call)) (seat_of who.number me).1 (seat_of who.number me) (seat_of who.number me2) × LeavesOthers who.number me me2
    spared_alone told out =
        let n = who.number in let f = seat_of n me in let c = count_of n me in let change : Pass → Pass = λ p. with_call p (spared_call p.call) in
        let last : me2.1 ≡ me.1 = out ∙ (ap (λ (s : SeatState). turned_by (all - own) s.1) told ∙ turned_again c own all me.1 is whole) in
        let t = step_alone n me me2 change me.1 f.1 (place_of_number n me.0.passes) 0 c (pass_in f) there refl refl refl
        (spared_count (pass_in f).call ∙ sym count_here) refl refl (becomes_on change (place_of_number n me.0.passes) _ _ me me1 me2 told view last) in
        (becomes_now change f.1 0 f (seat_of n me2) refl one t.0, t.1)

module _ {D : Type 0} (coded : Coded D) (meaning : DeskMeaning D) where
  -- a manager that knew the state knows the one after the step's deed
  pub deed_known : (n k : ℕ) (d e : Deed) (me : SeatState) (slots : Slots) (me1 me2 : SeatState) (Reads : Links coded meaning me → Links coded meaning me → Type 0) → d ≡ e → DoesAt coded meaning k (me.0, slots) Reads d me1 → me2.0 ≡ me1.0 → LeavesOthers n me me2
      → KnowsAfter coded meaning (e ∷ []) me me2
  deed_known n k d e me slots me1 me2 Reads same s view leaves = λ m knows. subst (λ (x : Deed). KnowsAfter coded meaning (x ∷ []) me me2) same
      (λ m knows. state_after coded meaning d me.0 me2.0 s.state m knows (same_carrier n me me2 leaves knows.manages) (λ c was. let x = s.copy c knows.manages knows.carries was in (x.0, ap (λ (v : View). v.copy) view ∙ x.1))) m knows

  -- the attempt, with the deed that it is
  module _ (who : CallerId) (me : SeatState) (one : (seat_of who.number me).0.passes ≡ pass_in (seat_of who.number me) ∷ []) (un : IsUnclaimed who.end (pass_in (seat_of who.number me)).call) (own all : ℕ) (is : own ≡ length (seat_of who.number me).1) (whole : all ≡ length me.1)
      (me0 me1 me2 : SeatState) (turned : me0 ≡ (me.0, turned_by own me.1)) (y : ℕ) (told : ClaimsTurn who.end who.number me0 y me1)
      (step : DoesAt coded meaning (place_of_number who.number me0.0.passes) me0 (HasWord (place_in (receiver_word who.end)) y) (ManagerTakes lane_turn.Receiver who.end) me1) where
    claim_told : ClaimsTurn who.end who.number (me.0, turned_by own me.1) y me1
    claim_told = subst (λ (s : SeatState). ClaimsTurn who.end who.number s y me1) turned told

    claim_changes : me2.0 ≡ me1.0 → LeavesOthers who.number me me2 → ChangesAlone coded meaning who.number (ManagerTakes lane_turn.Receiver who.end ∷ []) me me2
    claim_changes view leaves = record {
      leaves = leaves;
      knows = deed_known who.number (place_of_number who.number me.0.passes) (ManagerTakes lane_turn.Receiver who.end) (ManagerTakes lane_turn.Receiver who.end) me (turned_by own me.1) me1 me2 (HasWord (place_in (receiver_word who.end)) y) refl
          (subst (λ (s : SeatState). DoesAt coded meaning (place_of_number who.number s.0.passes) s (HasWord (place_in (receiver_word who.end)) y) (ManagerTakes lane_turn.Receiver who.end) me1) turned step) view leaves;
    }

    pub claims_free : y ≡ 0 → me2 ≡ (me1.0, turned_by (suc (all - own)) me1.1)
        → ((x : ReceiverSide) × IsNow (with_call (pass_in (seat_of who.number me)) (claimed_call x (pass_in (seat_of who.number me)).call)) ((seat_of who.number me).1 ++ (receiver_slot who.end, Receiver x) ∷ []) (seat_of who.number me) (seat_of who.number me2))
        × ChangesAlone coded meaning who.number (ManagerTakes lane_turn.Receiver who.end ∷ []) me me2
    claims_free free last =
        let t = claim_told.0 free in let view = ap (λ (s : SeatState). s.0) last in let r = claimed_alone who me one un own all is whole me1 me2 view t.0 t.1 (ap (λ (s : SeatState). s.1) last) in
        ((t.0, r.0), claim_changes view r.1)

    pub claims_busy : y ≢ 0 → me2 ≡ (me1.0, turned_by (all - own) me1.1)
        → IsNow (with_call (pass_in (seat_of who.number me)) (spared_call (pass_in (seat_of who.number me)).call)) (seat_of who.number me).1 (seat_of who.number me) (seat_of who.number me2)
        × ChangesAlone coded meaning who.number (ManagerTakes lane_turn.Receiver who.end ∷ []) me me2
    claims_busy busy last =
        let view = ap (λ (s : SeatState). s.0) last in let r = spared_alone who me one un own all is whole me1 me2 view (claim_told.1 busy) (ap (λ (s : SeatState). s.1) last) in
        (r.0, claim_changes view r.1)

-- the side state of a turn that is to be left, which is in front
module _ (who : CallerId) (me : SeatState) (h : HoldsAlone who (seat_of who.number me)) where
  abbrev holds_at : IsAt (seat_of who.number me) (pass_in (seat_of who.number me)).call ((receiver_slot who.end, Receiver h.side) ∷ [])
  holds_at = record { one = h.one; in_call = refl; out = h.out }

  pub lent_aside : (k : ℕ) → k ≡ receiver_slot who.end → me.1 ≡ (k, Receiver h.side) ∷ rest me.1
  lent_aside k at = lent_alone who.number me (pass_in (seat_of who.number me)).call (receiver_slot who.end) k (Receiver h.side) [] holds_at at

  module _ (k : ℕ) (w w' : Slot) (at : k ≡ receiver_slot who.end) (value : me.1 ≡ (k, w) ∷ rest me.1) (put : (x : ReceiverSide) → w ≡ Receiver x → w' ≡ Receiver (without_hands x who.number)) where
    inside_aside : w ≡ Receiver h.side
    inside_aside = inside_alone who.number me (pass_in (seat_of who.number me)).call (receiver_slot who.end) k (Receiver h.side) w [] holds_at value

    abbrev aside : SeatState
    aside = (me.0, (k, w') ∷ rest me.1)

    aside_there : seat_of who.number aside ≡ ((seat_of who.number me).0, (k, w') ∷ rest (seat_of who.number me).1)
    aside_there = swapped_alone who.number me (pass_in (seat_of who.number me)).call (receiver_slot who.end) k (Receiver h.side) w' [] holds_at

    aside_front : (k, w') ∷ rest (seat_of who.number me).1 ≡ (receiver_slot who.end, Receiver (without_hands h.side who.number)) ∷ []
    aside_front = λ i. (at i, put h.side inside_aside i) ∷ rest (h.out i)

    pub aside_left : (me' : SeatState) → IsNow (ended_pass (pass_in (seat_of who.number aside)) (pass_in (seat_of who.number aside)).call) (slots_left (pass_in (seat_of who.number aside)).call (seat_of who.number aside).1) (seat_of who.number aside) (seat_of who.number me')
        → IsNow (ended_of who (pass_in (seat_of who.number me))) [] (seat_of who.number me) (seat_of who.number me')
    aside_left me' now = holds_left who (seat_of who.number me) ((k, w') ∷ rest (seat_of who.number me).1) h aside_front (seat_of who.number me')
        (subst (λ (s : SeatState). IsNow (ended_pass (pass_in s) (pass_in s).call) (slots_left (pass_in s).call s.1) s (seat_of who.number me')) aside_there now)
