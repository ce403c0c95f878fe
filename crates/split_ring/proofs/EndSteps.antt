-- The steps by which a caller's call is ended in a reclaim, as its seat is told them.
use Rattle.std.proofs.Common.{◌≡◌, ◌<◌, ℕ, ◌+◌, Bool, true, false, cond, List, [], ◌∷◌, ◌++◌, refl, sym, ap, ◌∙◌, subst}
use base.Stored.{Coded}
use Rattle.atomic_table.specs.Seated.{TableId}
use Rattle.atomic_table.specs.Table.{rest}
use Rattle.rp_base.specs.declared.kinds.End.{End}
use Rattle.rp_base.specs.declared.kinds.End.TheVariants as side
use Rattle.rp_base.specs.declared.kinds.Era.{Era}
use Rattle.lane_model.specs.declared.recoveries.LaneTurn.TheVariants as lane_turn
use Rattle.lane_model.specs.declared.stages.Receiving.{Receiving}
use Rattle.lane_model.specs.declared.stages.Sending.{Sending}
use Rattle.lane_model.specs.declared.stages.Turn.{Turn}
use Rattle.lane_model.specs.Desks.{DeskMeaning}
use Rattle.link_words.specs.declared.rule.Call.{Call}
use Rattle.link_words.specs.declared.rule.Call.TheVariants.{Idle, Rests, Sends, Receives, EndsSend, EndsBoth, EndsReceive, EndsHeld, Reclaims, Reopens, Gathers}
use Rattle.link_words.specs.declared.rule.LinkSizes.{LinkSizes}
use Rattle.link_words.specs.declared.rule.Pass.{Pass}
use Rattle.link_words.specs.declared.rule.ReceiverSide.{ReceiverSide}
use Rattle.link_words.specs.declared.rule.SenderSide.{SenderSide}
use Rattle.link_words.specs.declared.rule.Slot.{Slot}
use Rattle.link_words.specs.declared.rule.View.{View}
use Rattle.link_words.specs.declared.rule.Slot.TheVariants.{Buffer, Receiver, Sender}
use Rattle.link_words.specs.Calls.{SeatState, Becomes, has_side, first_side, place_of, place_with, with_pass_at}
use Rattle.link_words.specs.Deeds.{ManagerTakes}
use Rattle.link_words.specs.Layouts.{place_in}
use Rattle.link_words.specs.Passes.{with_call, with_call_and_hands, place_of_number}
use Rattle.link_words.specs.Reclaims.{DoesAt, HasTurn, FindsClosed, IsUnclaimed, MayEnd, HasSlots, HasFilledSlots, doomed_call, claimed_call, spared_call, ended_pass, slots_left, without_hands}
use Rattle.link_words.specs.Steps.{HasWord}
use Rattle.link_words.specs.Words.{other, era_word, receiver_word, sender_slot, receiver_slot, buffer_slot}
use Rattle.split_ring.specs.declared.callers.CallerId.{CallerId}
use Rattle.split_ring.specs.Reclaims.{HasSend, HasReceive, SendSlots, TakeSlots, IsNow, StandsAlone, HoldsAlone, IsEmptied, IsAnothers, ended_of}
use Rattle.split_ring.specs.Seats.{IsAt, IsSeatOf, pass_in, first_pass}
use Rattle.split_ring.proofs.Seats.{side_sends, side_fills, side_receives, side_hands}

-- the one pass is the first that steps
pub alone_place : (me : SeatState) → StandsAlone me → place_of me ≡ 0
alone_place me s = (λ i. place_with (first_side me.1) (s.one i)) ∙ ap (λ (b : Bool). cond b 0 1) s.side

pub becomes_now : (f : Pass → Pass) (slots : List (ℕ × Slot)) (k : ℕ) (me me' : SeatState) → k ≡ 0 → me.0.passes ≡ pass_in me ∷ [] → Becomes f k slots me me' → IsNow (f (pass_in me)) slots me me'
becomes_now f slots k me me' zero one told = record {
  one = ap (λ (s : SeatState). s.0.passes) told ∙ (λ i. with_pass_at f (zero i) (one i));
  out = ap (λ (s : SeatState). s.1) told;
  sizes = ap (λ (s : SeatState). s.0.sizes) told;
}

-- a seat that has not changed
pub now_same : (me : SeatState) → me.0.passes ≡ pass_in me ∷ [] → IsNow (pass_in me) me.1 me me
now_same me one = record { one = one; out = refl; sizes = refl }

pub seat_now : (table : TableId) (sizes : LinkSizes) (id id' : TableId) (p : Pass) (slots : List (ℕ × Slot)) (me me' : SeatState) → id' ≡ id → IsNow p slots me me' → IsSeatOf table sizes id me → IsSeatOf table sizes id' me'
seat_now table sizes id id' p slots me me' same now s = record { at_table = same ∙ s.at_table; told = now.sizes ∙ s.told }

-- the load of the era
pub found_closed : (me me' : SeatState) (n : ℕ) (found : Era) → StandsAlone me → FindsClosed me n me' → ((era : Era) → n ≡ era_word era → era.inc < 4294967296 → found ≡ era) → found.is_live ≡ false
    → IsNow (with_call (pass_in me) (doomed_call (pass_in me).call)) me.1 me me'
found_closed me me' n found s told reads dead =
    let same : found ≡ told.0 = reads told.0 told.1 told.2 in becomes_now (λ p. with_call p (doomed_call p.call)) me.1 (place_of me) me me' (alone_place me s) s.one (told.3 (sym (ap (λ (e : Era). e.is_live) same) ∙ dead))

pub found_live : (me me' : SeatState) (n : ℕ) (found : Era) → StandsAlone me → FindsClosed me n me' → ((era : Era) → n ≡ era_word era → era.inc < 4294967296 → found ≡ era) → found.is_live ≡ true
    → (found.is_live ≡ true) × IsNow (pass_in me) me.1 me me'
found_live me me' n found s told reads live =
    let same : found ≡ told.0 = reads told.0 told.1 told.2 in (live, subst (IsNow (pass_in me) me.1 me) (sym (told.4 (sym (ap (λ (e : Era). e.is_live) same) ∙ live))) (now_same me s.one))

-- the attempt on the receiver's turn found it another's
pub anothers : {D : Type 0} (coded : Coded D) (meaning : DeskMeaning D) (me me' : SeatState) (who : CallerId) (n holder : ℕ) → n ≡ holder + 1
    → DoesAt coded meaning (place_of_number who.number me.0.passes) me (HasWord (place_in (receiver_word who.end)) n) (ManagerTakes lane_turn.Receiver who.end) me' → IsAnothers coded meaning who holder
anothers coded meaning me me' who n holder is step = record {
  before = me;
  after = me';
  step = subst (λ (k : ℕ). DoesAt coded meaning (place_of_number who.number me.0.passes) me (HasWord (place_in (receiver_word who.end)) k) (ManagerTakes lane_turn.Receiver who.end) me') is step;
}

-- a seat whose pass is this one, with these slots
pub pass_is : (me : SeatState) (q : Pass) → me.0.passes ≡ q ∷ [] → pass_in me ≡ q
pass_is me q one = ap first_pass one

pub one_is : (me : SeatState) (q : Pass) → me.0.passes ≡ q ∷ [] → me.0.passes ≡ pass_in me ∷ []
one_is me q one = one ∙ ap (λ (p : Pass). p ∷ []) (sym (pass_is me q one))

pub alone_is : (me : SeatState) (q : Pass) (call : Call) (slots : List (ℕ × Slot)) → me.0.passes ≡ q ∷ [] → q.call ≡ call → me.1 ≡ slots → has_side (first_side slots) call ≡ true → StandsAlone me
alone_is me q call slots one is out has = record { one = one_is me q one; side = (λ i. has_side (first_side (out i)) ((ap (λ (p : Pass). p.call) (pass_is me q one) ∙ is) i)) ∙ has }

pub call_is : (me : SeatState) (q : Pass) (call : Call) → me.0.passes ≡ q ∷ [] → q.call ≡ call → (pass_in me).call ≡ call
call_is me q call one is = ap (λ (p : Pass). p.call) (pass_is me q one) ∙ is

pub other_twice : (e : End) → other (other e) ≡ e
other_twice side.Host = refl
other_twice side.Remote = refl

-- the same pass with its own call, and the pass that was ended
pub again : (p : Pass) (call : Call) → p.call ≡ call → with_call p call ≡ p
again p call is = ap (with_call p) (sym is)

pub emptied : (who : CallerId) (p : Pass) → p.hands ≡ [] → with_call p (Rests who.end) ≡ ended_of who p
emptied who p bare = λ i. with_call_and_hands p (Rests who.end) (bare i)

-- the leave behind which the caller holds nothing
pub holds_leave : (who : CallerId) (me : SeatState) (slots : List (ℕ × Slot)) (h : HoldsAlone who me) → slots ≡ (receiver_slot who.end, Receiver (without_hands h.side who.number)) ∷ []
    → StandsAlone (me.0, slots) × MayEnd lane_turn.Receiver who.end (pass_in me).number (me.0, slots) (pass_in me).call
holds_leave who me slots h out = go (pass_in me).call refl h.emptied
  where
    out' : slots ≡ (receiver_slot who.end, Receiver (without_hands h.side (pass_in me).number)) ∷ []
    out' = out ∙ ap (λ (n : ℕ). (receiver_slot who.end, Receiver (without_hands h.side n)) ∷ []) (sym h.number)

    held_side : (e : End) (x : ReceiverSide) (y : Slot) → has_side (first_side ((receiver_slot e, y) ∷ [])) (EndsHeld e x) ≡ true
    held_side side.Host x y = refl
    held_side side.Remote x y = refl

    ends_side : (e : End) (t : Turn Receiving) (x : ReceiverSide) (b : ℕ) (m : List ℕ) (y : Slot) → has_side (first_side ((receiver_slot e, y) ∷ [])) (EndsReceive e t x b m) ≡ true
    ends_side side.Host t x b m y = refl
    ends_side side.Remote t x b m y = refl

    last : (e : End) (x : ReceiverSide) → e ≡ who.end → x ≡ h.side → slots ≡ (receiver_slot e, Receiver (without_hands x (pass_in me).number)) ∷ rest slots
    last e x at same = out' ∙ (λ i. (receiver_slot (sym at i), Receiver (without_hands (sym same i) (pass_in me).number)) ∷ rest (sym out' i))

    go : (call : Call) → (pass_in me).call ≡ call → IsEmptied who.end h.side call → StandsAlone (me.0, slots) × MayEnd lane_turn.Receiver who.end (pass_in me).number (me.0, slots) (pass_in me).call
    go (EndsHeld e x) is has = (
      record { one = h.one; side = (λ i. has_side (first_side ((out' ∙ (λ j. (receiver_slot (sym has.0 j), Receiver (without_hands h.side (pass_in me).number)) ∷ [])) i)) (is i)) ∙ held_side e x (Receiver (without_hands h.side (pass_in me).number)) },
      subst (MayEnd lane_turn.Receiver who.end (pass_in me).number (me.0, slots)) (sym is) (has.0, last e x has.0 has.1),
    )
    go (EndsReceive e t x b m) is has = (
      record { one = h.one; side = (λ i. has_side (first_side ((out' ∙ (λ j. (receiver_slot (sym has.0 j), Receiver (without_hands h.side (pass_in me).number)) ∷ [])) i)) (is i)) ∙ ends_side e t x b m (Receiver (without_hands h.side (pass_in me).number)) },
      subst (MayEnd lane_turn.Receiver who.end (pass_in me).number (me.0, slots)) (sym is)
          (has.0, has.2, subst (λ (o : Bool). HasFilledSlots o (buffer_slot me.0.sizes.to_host.capacity e b) m (receiver_slot e) (Receiver (without_hands x (pass_in me).number)) (me.0, slots)) (sym has.3) (last e x has.0 has.1)),
    )
    go Idle is has = absurd has
    go (Rests e) is has = absurd has
    go (Sends e t x b) is has = absurd has
    go (EndsSend e t x b) is has = absurd has
    go (EndsBoth e t x b y) is has = absurd has
    go (Receives e t x b m) is has = absurd has
    go (Reclaims e x) is has = absurd has
    go (Reopens p inc a b) is has = absurd has
    go (Gathers x y) is has = absurd has

-- what is in the slot that was taken last
abbrev pub first_slot : Slot → List (ℕ × Slot) → Slot
first_slot y [] = y
first_slot y (p ∷ ps) = p.1

-- the slots when what the caller held is put aside
pub aside_slots : (who : CallerId) (x : ReceiverSide) (slots more : List (ℕ × Slot)) (k : ℕ) (w w' : Slot) → slots ≡ (receiver_slot who.end, Receiver x) ∷ more → k ≡ receiver_slot who.end → slots ≡ (k, w) ∷ rest slots → ((x : ReceiverSide) → w ≡ Receiver x → w' ≡ Receiver (without_hands x who.number))
    → (k, w') ∷ rest slots ≡ (receiver_slot who.end, Receiver (without_hands x who.number)) ∷ more
aside_slots who x slots more k w w' out at value put = let aside = put x (ap (first_slot w) (sym value ∙ out)) in λ i. (at i, aside i) ∷ rest (out i)

pub lent_slot : (who : CallerId) (x : ReceiverSide) (slots more : List (ℕ × Slot)) (k : ℕ) → slots ≡ (receiver_slot who.end, Receiver x) ∷ more → k ≡ receiver_slot who.end → slots ≡ (k, Receiver x) ∷ rest slots
lent_slot who x slots more k out at = out ∙ λ i. (sym at i, Receiver x) ∷ rest (sym out i)

pub holds_left : (who : CallerId) (me : SeatState) (slots : List (ℕ × Slot)) (h : HoldsAlone who me) → slots ≡ (receiver_slot who.end, Receiver (without_hands h.side who.number)) ∷ []
    → (me' : SeatState) → IsNow (ended_pass (pass_in me) (pass_in me).call) (slots_left (pass_in me).call slots) (me.0, slots) me' → IsNow (ended_of who (pass_in me)) [] me me'
holds_left who me slots h out me' now = go (pass_in me).call refl h.emptied
  where
    none : rest slots ≡ []
    none = ap rest out

    go : (call : Call) → (pass_in me).call ≡ call → IsEmptied who.end h.side call → IsNow (ended_of who (pass_in me)) [] me me'
    go (EndsHeld e x) is has = record {
      one = now.one ∙ (ap (λ (c : Call). ended_pass (pass_in me) c ∷ []) is ∙ ap (λ (i : End). with_call_and_hands (pass_in me) (Rests i) [] ∷ []) has.0);
      out = now.out ∙ (ap (λ (c : Call). slots_left c slots) is ∙ none);
      sizes = now.sizes;
    }
    go (EndsReceive e t x b m) is has = record {
      one = now.one ∙ (ap (λ (c : Call). ended_pass (pass_in me) c ∷ []) is ∙ ap (λ (i : End). with_call_and_hands (pass_in me) (Rests i) [] ∷ []) has.0);
      out = now.out ∙ (ap (λ (c : Call). slots_left c slots) is ∙ (ap (λ (o : Bool). cond o (rest (rest slots)) (rest slots)) has.3 ∙ none));
      sizes = now.sizes;
    }
    go Idle is has = absurd has
    go (Rests e) is has = absurd has
    go (Sends e t x b) is has = absurd has
    go (EndsSend e t x b) is has = absurd has
    go (EndsBoth e t x b y) is has = absurd has
    go (Receives e t x b m) is has = absurd has
    go (Reclaims e x) is has = absurd has
    go (Reopens p inc a b) is has = absurd has
    go (Gathers x y) is has = absurd has

-- an ended seat behind a seat that has another call of the same pass
pub ended_then : (who : CallerId) (call : Call) (slots : List (ℕ × Slot)) (p q : Pass) (me me1 me2 : SeatState) → q ≡ with_call p call → me1.0.sizes ≡ me.0.sizes → IsNow (ended_of who q) [] me1 me2 → IsNow (ended_of who p) [] me me2
ended_then who call slots p q me me1 me2 same sizes now = record {
  one = now.one ∙ ap (λ (x : Pass). ended_of who x ∷ []) same;
  out = now.out;
  sizes = now.sizes ∙ sizes;
}

-- a take or another call with the receiver's turn
receive_side : (e : End) (t : Turn Receiving) (x : ReceiverSide) (b first : ℕ) (m : List ℕ) (out : Bool) (slots : List (ℕ × Slot)) → TakeSlots out (buffer_slot first e b) m (receiver_slot e) (Receiver x) slots → has_side (first_side slots) (Receives e t x b m) ≡ true
receive_side e t x b first m true slots is = ap (λ (l : List (ℕ × Slot)). has_side (first_side l) (Receives e t x b m)) is ∙ side_hands e t x b m first b (Buffer m) (Receiver x)
receive_side e t x b first m false slots is = ap (λ (l : List (ℕ × Slot)). has_side (first_side l) (Receives e t x b m)) is ∙ side_receives e t x b m (Receiver x)

module _ (z : LinkSizes) (who : CallerId) (out : Bool) (me : SeatState) (h : HasReceive z who out me) where
  pub receive_finds : StandsAlone me × HasTurn (pass_in me).call
  receive_finds = (record { one = h.at.one; side = ap (has_side (first_side me.1)) h.at.in_call ∙ receive_side who.end h.turn h.side h.buffer z.to_host.capacity h.message out me.1 h.slots }, subst HasTurn (sym h.at.in_call) tt)

  abbrev pub doomed_receive : Pass
  doomed_receive = with_call (pass_in me) (EndsReceive who.end h.turn h.side h.buffer h.message)

  pub receive_doomed : (me1 : SeatState) → IsNow (with_call (pass_in me) (doomed_call (pass_in me).call)) me.1 me me1 → IsNow doomed_receive me.1 me me1
  receive_doomed me1 now = subst (λ (c : Call). IsNow (with_call (pass_in me) (doomed_call c)) me.1 me me1) h.at.in_call now

  -- with no buffer out
  pub receive_holds : (me1 : SeatState) → (pass_in me).number ≡ who.number → out ≡ false → IsNow doomed_receive me.1 me me1 → HoldsAlone who me1
  receive_holds me1 number bare now = let is = pass_is me1 doomed_receive now.one in record {
    one = one_is me1 doomed_receive now.one;
    number = ap (λ (p : Pass). p.number) is ∙ number;
    side = h.side;
    out = now.out ∙ subst (λ (o : Bool). TakeSlots o (buffer_slot z.to_host.capacity who.end h.buffer) h.message (receiver_slot who.end) (Receiver h.side) me.1) bare h.slots;
    emptied = subst (IsEmptied who.end h.side) (sym (ap (λ (p : Pass). p.call) is)) (refl, refl, h.bare, h.is_out ∙ bare);
  }

  -- with its buffer out: the side state is brought to the front, what the caller holds is put aside, and the buffer comes to the front again
  abbrev pub buffer_first : ReceiverSide → List (ℕ × Slot)
  buffer_first x = (buffer_slot z.to_host.capacity who.end h.buffer, Buffer h.message) ∷ (receiver_slot who.end, Receiver x) ∷ []

  pub take_slots : out ≡ true → me.1 ≡ buffer_first h.side
  take_slots full = subst (λ (o : Bool). TakeSlots o (buffer_slot z.to_host.capacity who.end h.buffer) h.message (receiver_slot who.end) (Receiver h.side) me.1) full h.slots

  pub take_leaves : (me1 me2 : SeatState) → (pass_in me).number ≡ who.number → me.0.sizes ≡ z → out ≡ true → IsNow doomed_receive me.1 me me1 → me2.0 ≡ me1.0 → me2.1 ≡ buffer_first (without_hands h.side who.number)
      → StandsAlone me2 × MayEnd lane_turn.Receiver who.end (pass_in me2).number me2 (pass_in me2).call
  take_leaves me1 me2 number told full now same slots =
      let one : me2.0.passes ≡ doomed_receive ∷ [] = ap (λ (v : View). v.passes) same ∙ now.one in let is = pass_is me2 doomed_receive one in
      let cap : z.to_host.capacity ≡ me2.0.sizes.to_host.capacity = ap (λ (x : LinkSizes). x.to_host.capacity) (sym told ∙ (sym now.sizes ∙ ap (λ (v : View). v.sizes) (sym same))) in
      let who_is : who.number ≡ (pass_in me2).number = sym number ∙ ap (λ (p : Pass). p.number) (sym is) in
      let at : me2.1 ≡ (buffer_slot me2.0.sizes.to_host.capacity who.end h.buffer, Buffer h.message) ∷ (receiver_slot who.end, Receiver (without_hands h.side (pass_in me2).number)) ∷ rest (rest me2.1) =
      slots ∙ (λ i. (buffer_slot (cap i) who.end h.buffer, Buffer h.message) ∷ (receiver_slot who.end, Receiver (without_hands h.side (who_is i))) ∷ rest (rest (sym slots i))) in (
        alone_is me2 doomed_receive (EndsReceive who.end h.turn h.side h.buffer h.message) (buffer_first (without_hands h.side who.number)) one refl slots (out_side who.end h.turn h.side h.buffer h.message z.to_host.capacity h.buffer (Buffer h.message) (Receiver (without_hands h.side who.number))),
        subst (MayEnd lane_turn.Receiver who.end (pass_in me2).number me2) (sym (ap (λ (p : Pass). p.call) is))
            (refl, h.bare, subst (λ (o : Bool). HasFilledSlots o (buffer_slot me2.0.sizes.to_host.capacity who.end h.buffer) h.message (receiver_slot who.end) (Receiver (without_hands h.side (pass_in me2).number)) me2) (sym (h.is_out ∙ full)) at),
      )
    where
      out_side : (e : End) (t : Turn Receiving) (x : ReceiverSide) (b : ℕ) (m : List ℕ) (first id : ℕ) (w y : Slot) → has_side (first_side ((buffer_slot first e id, w) ∷ (receiver_slot e, y) ∷ [])) (EndsReceive e t x b m) ≡ true
      out_side side.Host t x b m first id w y = refl
      out_side side.Remote t x b m first id w y = refl

  pub take_left : (me1 me2 me3 : SeatState) → out ≡ true → IsNow doomed_receive me.1 me me1 → me2.0 ≡ me1.0 → me2.1 ≡ buffer_first (without_hands h.side who.number)
      → IsNow (ended_pass (pass_in me2) (pass_in me2).call) (slots_left (pass_in me2).call me2.1) me2 me3 → IsNow (ended_of who (pass_in me)) [] me me3
  take_left me1 me2 me3 full now same slots left =
      let one : me2.0.passes ≡ doomed_receive ∷ [] = ap (λ (v : View). v.passes) same ∙ now.one in let is = pass_is me2 doomed_receive one in record {
        one = left.one ∙ ap (λ (p : Pass). ended_pass p p.call ∷ []) is;
        out = left.out ∙ ((λ i. slots_left (is i).call (slots i)) ∙ ap (λ (o : Bool). cond o (rest (rest (buffer_first (without_hands h.side who.number)))) (rest (buffer_first (without_hands h.side who.number)))) (h.is_out ∙ full));
        sizes = left.sizes ∙ (ap (λ (v : View). v.sizes) same ∙ now.sizes);
      }

-- a send
send_side : (e : End) (t : Turn Sending) (x : SenderSide) (b first : ℕ) (out : Bool) (slots : List (ℕ × Slot)) → SendSlots out (buffer_slot first e b) (sender_slot e) (Sender x) slots → has_side (first_side slots) (Sends e t x b) ≡ true
send_side e t x b first true slots is = ap (λ (l : List (ℕ × Slot)). has_side (first_side l) (Sends e t x b)) is.1 ∙ side_fills e t x b first b is.0 (Sender x)
send_side e t x b first false slots is = ap (λ (l : List (ℕ × Slot)). has_side (first_side l) (Sends e t x b)) is ∙ side_sends e t x b (Sender x)

doomed_side : (e : End) (t : Turn Sending) (x : SenderSide) (b first : ℕ) (out : Bool) (slots : List (ℕ × Slot)) → SendSlots out (buffer_slot first e b) (sender_slot e) (Sender x) slots → has_side (first_side slots) (EndsSend e t x b) ≡ true
doomed_side side.Host t x b first true slots is = ap (λ (l : List (ℕ × Slot)). has_side (first_side l) (EndsSend side.Host t x b)) is.1
doomed_side side.Host t x b first false slots is = ap (λ (l : List (ℕ × Slot)). has_side (first_side l) (EndsSend side.Host t x b)) is
doomed_side side.Remote t x b first true slots is = ap (λ (l : List (ℕ × Slot)). has_side (first_side l) (EndsSend side.Remote t x b)) is.1
doomed_side side.Remote t x b first false slots is = ap (λ (l : List (ℕ × Slot)). has_side (first_side l) (EndsSend side.Remote t x b)) is

both_side : (e i : End) (t : Turn Sending) (x : SenderSide) (b first : ℕ) (y : ReceiverSide) (w : Slot) (out : Bool) (slots : List (ℕ × Slot)) → SendSlots out (buffer_slot first e b) (sender_slot e) (Sender x) slots → has_side (first_side (slots ++ (receiver_slot i, w) ∷ [])) (EndsBoth e t x b y) ≡ true
both_side side.Host i t x b first y w true slots is = ap (λ (l : List (ℕ × Slot)). has_side (first_side (l ++ (receiver_slot i, w) ∷ [])) (EndsBoth side.Host t x b y)) is.1
both_side side.Host i t x b first y w false slots is = ap (λ (l : List (ℕ × Slot)). has_side (first_side (l ++ (receiver_slot i, w) ∷ [])) (EndsBoth side.Host t x b y)) is
both_side side.Remote i t x b first y w true slots is = ap (λ (l : List (ℕ × Slot)). has_side (first_side (l ++ (receiver_slot i, w) ∷ [])) (EndsBoth side.Remote t x b y)) is.1
both_side side.Remote i t x b first y w false slots is = ap (λ (l : List (ℕ × Slot)). has_side (first_side (l ++ (receiver_slot i, w) ∷ [])) (EndsBoth side.Remote t x b y)) is

-- the slots of a send, with more behind them
send_slots_in : (first first' b : ℕ) (e : End) (x : Slot) (out : Bool) (slots more : List (ℕ × Slot)) (me : SeatState) → first ≡ first' → SendSlots out (buffer_slot first e b) (sender_slot e) x slots → me.1 ≡ slots ++ more → HasSlots out (buffer_slot first' e b) (sender_slot e) x me
send_slots_in first first' b e x true slots more me cap (y, is) at =
    let all : me.1 ≡ (buffer_slot first' e b, y) ∷ (sender_slot e, x) ∷ more = at ∙ λ i. (is ∙ λ j. (buffer_slot (cap j) e b, y) ∷ (sender_slot e, x) ∷ []) i ++ more in
    (y, all ∙ ap (λ (l : List (ℕ × Slot)). (buffer_slot first' e b, y) ∷ (sender_slot e, x) ∷ rest (rest l)) (sym all))
send_slots_in first first' b e x false slots more me cap is at =
    let all : me.1 ≡ (sender_slot e, x) ∷ more = at ∙ ap (λ (l : List (ℕ × Slot)). l ++ more) is in all ∙ ap (λ (l : List (ℕ × Slot)). (sender_slot e, x) ∷ rest l) (sym all)

send_rest : (first b : ℕ) (e : End) (x : Slot) (out : Bool) (slots more : List (ℕ × Slot)) → SendSlots out (buffer_slot first e b) (sender_slot e) x slots → cond out (rest (rest (slots ++ more))) (rest (slots ++ more)) ≡ more
send_rest first b e x true slots more (y, is) = ap (λ (l : List (ℕ × Slot)). rest (rest (l ++ more))) is
send_rest first b e x false slots more is = ap (λ (l : List (ℕ × Slot)). rest (l ++ more)) is

pub none_behind : {A : Type 0} (l : List A) → l ≡ l ++ []
none_behind [] = refl
none_behind (x ∷ xs) = ap (λ (l : List _). x ∷ l) (none_behind xs)

module _ (z : LinkSizes) (who : CallerId) (out : Bool) (me : SeatState) (h : HasSend z who out me) (told : me.0.sizes ≡ z) where
  pub send_finds : StandsAlone me × HasTurn (pass_in me).call
  send_finds = (record { one = h.at.one; side = ap (has_side (first_side me.1)) h.at.in_call ∙ send_side (other who.end) h.turn h.side h.buffer z.to_host.capacity out me.1 h.slots }, subst HasTurn (sym h.at.in_call) h.bare)

  abbrev pub doomed_send : Pass
  doomed_send = with_call (pass_in me) (EndsSend (other who.end) h.turn h.side h.buffer)

  abbrev pub both_send : ReceiverSide → Pass
  both_send y = with_call (pass_in me) (EndsBoth (other who.end) h.turn h.side h.buffer y)

  abbrev pub held_send : ReceiverSide → Pass
  held_send y = with_call (pass_in me) (EndsHeld (other (other who.end)) y)

  pub send_doomed : (me1 : SeatState) → IsNow (with_call (pass_in me) (doomed_call (pass_in me).call)) me.1 me me1 → IsNow doomed_send me.1 me me1
  send_doomed me1 now = subst (λ (c : Call). IsNow (with_call (pass_in me) (doomed_call c)) me.1 me me1) h.at.in_call now

  -- the leave where the caller holds nothing
  pub send_leaves : (me1 : SeatState) → IsNow doomed_send me.1 me me1 → StandsAlone me1 × MayEnd lane_turn.Sender (other who.end) (pass_in me1).number me1 (pass_in me1).call
  send_leaves me1 now = (
    alone_is me1 doomed_send (EndsSend (other who.end) h.turn h.side h.buffer) me.1 now.one refl now.out (doomed_side (other who.end) h.turn h.side h.buffer z.to_host.capacity out me.1 h.slots),
    subst (MayEnd lane_turn.Sender (other who.end) (pass_in me1).number me1) (sym (ap (λ (p : Pass). p.call) (pass_is me1 doomed_send now.one))) (
      refl,
      h.bare,
      subst (λ (o : Bool). HasSlots o (buffer_slot me1.0.sizes.to_host.capacity (other who.end) h.buffer) (sender_slot (other who.end)) (Sender h.side) me1) (sym h.is_out)
          (send_slots_in z.to_host.capacity me1.0.sizes.to_host.capacity h.buffer (other who.end) (Sender h.side) out me.1 [] me1 (ap (λ (x : LinkSizes). x.to_host.capacity) (sym told ∙ sym now.sizes)) h.slots (now.out ∙ none_behind me.1)),
    ),
  )

  pub send_left : (me1 me2 : SeatState) → (pass_in me).hands ≡ [] → IsNow doomed_send me.1 me me1 → IsNow (ended_pass (pass_in me1) (pass_in me1).call) (slots_left (pass_in me1).call me1.1) me1 me2 → IsNow (ended_of who (pass_in me)) [] me me2
  send_left me1 me2 none now left = let is = pass_is me1 doomed_send now.one in record {
    one = left.one ∙ (ap (λ (p : Pass). ended_pass p p.call ∷ []) is ∙ (ap (λ (e : End). with_call (pass_in me) (Rests e) ∷ []) (other_twice who.end) ∙ ap (λ (p : Pass). p ∷ []) (emptied who (pass_in me) none)));
    out = left.out ∙ ((λ i. slots_left (is i).call ((now.out ∙ none_behind me.1) i))
        ∙ (ap (λ (o : Bool). cond o (rest (rest (me.1 ++ []))) (rest (me.1 ++ []))) h.is_out ∙ send_rest z.to_host.capacity h.buffer (other who.end) (Sender h.side) out me.1 [] h.slots));
    sizes = left.sizes ∙ now.sizes;
  }

  -- the attempt on the receiver's turn
  pub send_claims : (me1 : SeatState) → IsNow doomed_send me.1 me me1 → IsUnclaimed who.end (pass_in me1).call
  send_claims me1 now = subst (IsUnclaimed who.end) (sym (ap (λ (p : Pass). p.call) (pass_is me1 doomed_send now.one))) (other_twice who.end, h.bare)

  pub send_spared : (me1 me2 : SeatState) → IsNow doomed_send me.1 me me1 → IsNow (with_call (pass_in me1) (spared_call (pass_in me1).call)) me1.1 me1 me2 → IsNow (pass_in me) me.1 me me2
  send_spared me1 me2 now spared = let is = pass_is me1 doomed_send now.one in record {
    one = spared.one ∙ (ap (λ (p : Pass). with_call p (spared_call p.call) ∷ []) is ∙ ap (λ (p : Pass). p ∷ []) (again (pass_in me) (Sends (other who.end) h.turn h.side h.buffer) h.at.in_call));
    out = spared.out ∙ now.out;
    sizes = spared.sizes ∙ now.sizes;
  }

  -- behind it: the receiver's side state is behind the send's slots
  pub send_claimed : (me1 me2 : SeatState) (y : ReceiverSide) → IsNow doomed_send me.1 me me1 → IsNow (with_call (pass_in me1) (claimed_call y (pass_in me1).call)) (me1.1 ++ (receiver_slot who.end, Receiver y) ∷ []) me1 me2 → IsNow (both_send y) (me.1 ++ (receiver_slot who.end, Receiver y) ∷ []) me me2
  send_claimed me1 me2 y now claimed = let is = pass_is me1 doomed_send now.one in record {
    one = claimed.one ∙ ap (λ (p : Pass). with_call p (claimed_call y p.call) ∷ []) is;
    out = claimed.out ∙ ap (λ (l : List (ℕ × Slot)). l ++ (receiver_slot who.end, Receiver y) ∷ []) now.out;
    sizes = claimed.sizes ∙ now.sizes;
  }

  pub both_leaves : (me3 : SeatState) (y : ReceiverSide) → IsNow (both_send y) (me.1 ++ (receiver_slot who.end, Receiver y) ∷ []) me me3 → StandsAlone me3 × MayEnd lane_turn.Sender (other who.end) (pass_in me3).number me3 (pass_in me3).call
  both_leaves me3 y now = (
    alone_is me3 (both_send y) (EndsBoth (other who.end) h.turn h.side h.buffer y) (me.1 ++ (receiver_slot who.end, Receiver y) ∷ []) now.one refl now.out (both_side (other who.end) who.end h.turn h.side h.buffer z.to_host.capacity y (Receiver y) out me.1 h.slots),
    subst (MayEnd lane_turn.Sender (other who.end) (pass_in me3).number me3) (sym (ap (λ (p : Pass). p.call) (pass_is me3 (both_send y) now.one))) (
      refl,
      h.bare,
      subst (λ (o : Bool). HasSlots o (buffer_slot me3.0.sizes.to_host.capacity (other who.end) h.buffer) (sender_slot (other who.end)) (Sender h.side) me3) (sym h.is_out)
          (send_slots_in z.to_host.capacity me3.0.sizes.to_host.capacity h.buffer (other who.end) (Sender h.side) out me.1 ((receiver_slot who.end, Receiver y) ∷ []) me3 (ap (λ (x : LinkSizes). x.to_host.capacity) (sym told ∙ sym now.sizes)) h.slots now.out),
    ),
  )

  pub both_left : (me3 me4 : SeatState) (y : ReceiverSide) → (pass_in me).number ≡ who.number → IsNow (both_send y) (me.1 ++ (receiver_slot who.end, Receiver y) ∷ []) me me3 → IsNow (ended_pass (pass_in me3) (pass_in me3).call) (slots_left (pass_in me3).call me3.1) me3 me4
      → HoldsAlone who me4 × (pass_in me4 ≡ held_send y) × (me4.0.sizes ≡ me.0.sizes)
  both_left me3 me4 y number now left =
      let is = pass_is me3 (both_send y) now.one in let one : me4.0.passes ≡ held_send y ∷ [] = left.one ∙ ap (λ (p : Pass). ended_pass p p.call ∷ []) is in let here = pass_is me4 (held_send y) one in (
        record {
          one = one_is me4 (held_send y) one;
          number = ap (λ (p : Pass). p.number) here ∙ number;
          side = y;
          out = left.out ∙ ((λ i. slots_left (is i).call (now.out i))
              ∙ (ap (λ (o : Bool). cond o (rest (rest (me.1 ++ (receiver_slot who.end, Receiver y) ∷ []))) (rest (me.1 ++ (receiver_slot who.end, Receiver y) ∷ []))) h.is_out ∙ send_rest z.to_host.capacity h.buffer (other who.end) (Sender h.side) out me.1 ((receiver_slot who.end, Receiver y) ∷ []) h.slots));
          emptied = subst (IsEmptied who.end y) (sym (ap (λ (p : Pass). p.call) here)) (other_twice who.end, refl);
        },
        here,
        left.sizes ∙ now.sizes,
      )

-- a caller between its calls
module _ (who : CallerId) (me : SeatState) (at : IsAt me (Rests who.end) []) where
  pub rest_claims : IsUnclaimed who.end (pass_in me).call
  rest_claims = subst (IsUnclaimed who.end) (sym at.in_call) refl

  abbrev pub claimed_rest : ReceiverSide → Pass
  claimed_rest y = with_call (pass_in me) (Reclaims who.end y)

  pub rest_spared : (me1 : SeatState) → IsNow (with_call (pass_in me) (spared_call (pass_in me).call)) me.1 me me1 → IsNow (pass_in me) me.1 me me1
  rest_spared me1 now = record { one = now.one ∙ (ap (λ (c : Call). with_call (pass_in me) (spared_call c) ∷ []) at.in_call ∙ ap (λ (p : Pass). p ∷ []) (again (pass_in me) (Rests who.end) at.in_call)); out = now.out; sizes = now.sizes }

  pub rest_claimed : (me1 : SeatState) (y : ReceiverSide) → IsNow (with_call (pass_in me) (claimed_call y (pass_in me).call)) (me.1 ++ (receiver_slot who.end, Receiver y) ∷ []) me me1 → IsNow (claimed_rest y) ((receiver_slot who.end, Receiver y) ∷ []) me me1
  rest_claimed me1 y now = record { one = now.one ∙ ap (λ (c : Call). with_call (pass_in me) (claimed_call y c) ∷ []) at.in_call; out = now.out ∙ ap (λ (l : List (ℕ × Slot)). l ++ (receiver_slot who.end, Receiver y) ∷ []) at.out; sizes = now.sizes }

  claimed_side : (e : End) (y : ReceiverSide) → has_side (first_side ((receiver_slot e, Receiver y) ∷ [])) (Reclaims e y) ≡ true
  claimed_side side.Host y = refl
  claimed_side side.Remote y = refl

  pub claim_stands : (me1 : SeatState) (y : ReceiverSide) → IsNow (claimed_rest y) ((receiver_slot who.end, Receiver y) ∷ []) me me1 → StandsAlone me1
  claim_stands me1 y now = alone_is me1 (claimed_rest y) (Reclaims who.end y) ((receiver_slot who.end, Receiver y) ∷ []) now.one refl now.out (claimed_side who.end y)

  pub claim_finds : (me1 : SeatState) (y : ReceiverSide) → IsNow (claimed_rest y) ((receiver_slot who.end, Receiver y) ∷ []) me me1 → StandsAlone me1 × HasTurn (pass_in me1).call
  claim_finds me1 y now = (claim_stands me1 y now, subst HasTurn (sym (ap (λ (p : Pass). p.call) (pass_is me1 (claimed_rest y) now.one))) tt)

  pub claim_holds : (me1 me2 : SeatState) (y : ReceiverSide) → (pass_in me).number ≡ who.number → IsNow (claimed_rest y) ((receiver_slot who.end, Receiver y) ∷ []) me me1 → IsNow (with_call (pass_in me1) (doomed_call (pass_in me1).call)) me1.1 me1 me2
      → HoldsAlone who me2 × (pass_in me2 ≡ with_call (pass_in me) (EndsHeld who.end y)) × (me2.0.sizes ≡ me.0.sizes)
  claim_holds me1 me2 y number now closed =
      let is = pass_is me1 (claimed_rest y) now.one in let q : Pass = with_call (pass_in me) (EndsHeld who.end y) in let one : me2.0.passes ≡ q ∷ [] = closed.one ∙ ap (λ (p : Pass). with_call p (doomed_call p.call) ∷ []) is in let here = pass_is me2 q one in (
        record {
          one = one_is me2 q one;
          number = ap (λ (p : Pass). p.number) here ∙ number;
          side = y;
          out = closed.out ∙ now.out;
          emptied = subst (IsEmptied who.end y) (sym (ap (λ (p : Pass). p.call) here)) (refl, refl);
        },
        here,
        closed.sizes ∙ now.sizes,
      )

  -- where the era was found live, the turn is left as it was taken
  pub claim_leaves : (me1 me2 : SeatState) (y : ReceiverSide) → IsNow (claimed_rest y) ((receiver_slot who.end, Receiver y) ∷ []) me me1 → IsNow (pass_in me1) me1.1 me1 me2 → StandsAlone me2 × MayEnd lane_turn.Receiver who.end (pass_in me2).number me2 (pass_in me2).call
  claim_leaves me1 me2 y now live =
      let one : me2.0.passes ≡ claimed_rest y ∷ [] = live.one ∙ ap (λ (p : Pass). p ∷ []) (pass_is me1 (claimed_rest y) now.one) in let out : me2.1 ≡ (receiver_slot who.end, Receiver y) ∷ [] = live.out ∙ now.out in (
        alone_is me2 (claimed_rest y) (Reclaims who.end y) ((receiver_slot who.end, Receiver y) ∷ []) one refl out (claimed_side who.end y),
        subst (MayEnd lane_turn.Receiver who.end (pass_in me2).number me2) (sym (ap (λ (p : Pass). p.call) (pass_is me2 (claimed_rest y) one))) (refl, out ∙ ap (λ (l : List (ℕ × Slot)). (receiver_slot who.end, Receiver y) ∷ rest l) (sym out)),
      )

  pub claim_left : (me1 me2 me3 : SeatState) (y : ReceiverSide) → IsNow (claimed_rest y) ((receiver_slot who.end, Receiver y) ∷ []) me me1 → IsNow (pass_in me1) me1.1 me1 me2 → IsNow (ended_pass (pass_in me2) (pass_in me2).call) (slots_left (pass_in me2).call me2.1) me2 me3 → IsNow (pass_in me) me.1 me me3
  claim_left me1 me2 me3 y now live left =
      let one : me2.0.passes ≡ claimed_rest y ∷ [] = live.one ∙ ap (λ (p : Pass). p ∷ []) (pass_is me1 (claimed_rest y) now.one) in let is = pass_is me2 (claimed_rest y) one in record {
        one = left.one ∙ (ap (λ (p : Pass). ended_pass p p.call ∷ []) is ∙ ap (λ (p : Pass). p ∷ []) (again (pass_in me) (Rests who.end) at.in_call));
        out = left.out ∙ ((λ i. slots_left (is i).call ((live.out ∙ now.out) i)) ∙ sym at.out);
        sizes = left.sizes ∙ (live.sizes ∙ now.sizes);
      }
