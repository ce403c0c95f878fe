-- A caller's seat after a step of link_words, and after several.
use Rattle.std.proofs.Common.{◌≡◌, inl, inr, ℕ, ◌++◌, List, [], ◌∷◌, Bool, true, cond, refl, sym, ap, ◌∙◌, subst, eqb, append_assoc, eq-eqb}
use lib.ListN.{get_elem?}
use base.Stored.{Coded}
use Rattle.atomic_table.specs.Table.{rest}
use Rattle.rp_base.specs.declared.kinds.End.{End}
use Rattle.rp_base.specs.declared.kinds.End.TheVariants as side
use Rattle.lane_model.specs.declared.calls.Wish.{Wish}
use Rattle.lane_model.specs.declared.stages.Receiving.{Receiving}
use Rattle.lane_model.specs.declared.stages.Sending.{Sending}
use Rattle.lane_model.specs.declared.stages.Turn.{Turn}
use Rattle.lane_model.specs.Desks.{DeskMeaning}
use Rattle.link_words.specs.declared.rule.Call.{Call}
use Rattle.link_words.specs.declared.rule.Call.TheVariants.{Sends, Receives}
use Rattle.link_words.specs.declared.rule.Event.{Event}
use Rattle.link_words.specs.declared.rule.Event.TheVariants.{Step, Count, Publish, Take}
use Rattle.link_words.specs.declared.rule.Made.{Made}
use Rattle.link_words.specs.declared.rule.Pass.{Pass}
use Rattle.link_words.specs.declared.rule.ReceiverSide.{ReceiverSide}
use Rattle.link_words.specs.declared.rule.SenderSide.{SenderSide}
use Rattle.link_words.specs.declared.rule.Slot.{Slot}
use Rattle.link_words.specs.declared.rule.View.{View}
use Rattle.link_words.specs.Calls.{SeatState, Becomes, with_pass_at, has_side, first_side, place_of, place_with, call_at, own_at, in_hand_at}
use Rattle.link_words.specs.declared.rule.Counted.{Counted}
use Rattle.link_words.specs.Histories.{NeverBack}
use Rattle.link_words.specs.Passes.{Mover, place_of_number}
use Rattle.link_words.specs.Steps.{Begins, GoesOn, HasWord, StoresWord}
use Rattle.link_words.specs.Words.{sender_slot, receiver_slot, buffer_slot}
use Rattle.split_ring.specs.Seats.{first_pass, pass_in, IsAt}
use Rattle.split_ring.specs.Walks.{same_hands, IsRingStep, HasStepped, HasDone}

-- the side state that is out first is that of the call
pub side_sends : (e : End) (t : Turn Sending) (x : SenderSide) (b : ℕ) (y : Slot) → has_side (first_side ((sender_slot e, y) ∷ [])) (Sends e t x b) ≡ true
side_sends side.Host t x b y = refl
side_sends side.Remote t x b y = refl

pub side_fills : (e : End) (t : Turn Sending) (x : SenderSide) (b first id : ℕ) (w y : Slot) → has_side (first_side ((buffer_slot first e id, w) ∷ (sender_slot e, y) ∷ [])) (Sends e t x b) ≡ true
side_fills side.Host t x b first id w y = refl
side_fills side.Remote t x b first id w y = refl

pub side_receives : (e : End) (t : Turn Receiving) (x : ReceiverSide) (b : ℕ) (m : List ℕ) (y : Slot) → has_side (first_side ((receiver_slot e, y) ∷ [])) (Receives e t x b m) ≡ true
side_receives side.Host t x b m y = refl
side_receives side.Remote t x b m y = refl

pub side_hands : (e : End) (t : Turn Receiving) (x : ReceiverSide) (b : ℕ) (m : List ℕ) (first id : ℕ) (w y : Slot) → has_side (first_side ((buffer_slot first e id, w) ∷ (receiver_slot e, y) ∷ [])) (Receives e t x b m) ≡ true
side_hands side.Host t x b m first id w y = refl
side_hands side.Remote t x b m first id w y = refl

-- the one pass is the one that steps
pub first_place : (me : SeatState) (call : Call) (slots : List (ℕ × Slot)) → IsAt me call slots → has_side (first_side slots) call ≡ true → place_of me ≡ 0
first_place me call slots at is = (λ i. place_with (first_side (at.out i)) (at.one i)) ∙ (ap (λ (c : Call). cond (has_side (first_side slots) c) 0 1) at.in_call ∙ ap (λ (b : Bool). cond b 0 1) is)

pub call_here : (me : SeatState) (call : Call) (slots : List (ℕ × Slot)) (k : ℕ) → IsAt me call slots → k ≡ 0 → call_at k me.0.passes ≡ call
call_here me call slots k at zero = (λ i. call_at (zero i) (at.one i)) ∙ at.in_call

pub own_here : (me : SeatState) (k : ℕ) → me.0.passes ≡ pass_in me ∷ [] → k ≡ 0 → own_at k me.0.passes ≡ (pass_in me).own
own_here me k one zero = λ i. own_at (zero i) (one i)

pub in_hand_here : (me : SeatState) (k : ℕ) → me.0.passes ≡ pass_in me ∷ [] → k ≡ 0 → in_hand_at k me.0.passes ≡ (pass_in me).hands
in_hand_here me k one zero = λ i. in_hand_at (zero i) (one i)

abbrev pub mover_of : (me : SeatState) → me.0.passes ≡ pass_in me ∷ [] → Mover me.0
mover_of me one = record { place = 0; pass = pass_in me; here = ap (λ (ps : List Pass). get_elem? ps 0) one }

same_number : (n k : ℕ) → k ≡ n → eqb k n ≡ true
same_number n k same = eq-eqb k n same

pub number_place : (me : SeatState) (n : ℕ) → me.0.passes ≡ pass_in me ∷ [] → (pass_in me).number ≡ n → place_of_number n me.0.passes ≡ 0
number_place me n one number = (λ i. place_of_number n (one i)) ∙ ap (λ (b : Bool). cond b 0 1) (same_number n (pass_in me).number number)

-- the slot that was taken last, by its number
pub lent : (me : SeatState) (call : Call) (k k' : ℕ) (y : Slot) (more : List (ℕ × Slot)) → IsAt me call ((k, y) ∷ more) → k' ≡ k → me.1 ≡ (k', y) ∷ rest me.1
lent me call k k' y more at same = at.out ∙ (λ i. (sym same i, y) ∷ rest (sym at.out i))

-- something else is in it
pub rewritten : (me : SeatState) (call : Call) (k k' : ℕ) (y w : Slot) (more : List (ℕ × Slot)) → IsAt me call ((k, y) ∷ more) → k' ≡ k → IsAt (me.0, (k', w) ∷ rest me.1) call ((k, w) ∷ more)
rewritten me call k k' y w more at same = record { one = at.one; in_call = at.in_call; out = λ i. (same i, w) ∷ rest (at.out i) }

second : Slot → List (ℕ × Slot) → Slot
second y [] = y
second y (p ∷ ps) = p.1

-- what is in the slot that was taken last
pub inside : (me : SeatState) (call : Call) (k k' : ℕ) (y w : Slot) (more : List (ℕ × Slot)) → IsAt me call ((k, y) ∷ more) → me.1 ≡ (k', w) ∷ rest me.1 → w ≡ y
unfolding second
inside me call k k' y w more at is = ap (second w) (sym is ∙ at.out)

-- a pass after a step: another call, with these entries before those of its list
pub record Moves (p q : Pass) (call : Call) (events : List Event) (hands : List ℕ → List ℕ) : Type 0 where
  pub in_call : q.call ≡ call
  pub own : q.own ≡ events ++ p.own
  pub number : q.number ≡ p.number
  pub first : q.first ≡ p.first
  pub in_hand : q.hands ≡ hands p.hands

module _ {D : Type 0} (coded : Coded D) (meaning : DeskMeaning D) where
  -- a step of the seat's one pass
  pub after_step : (f : Pass → Pass) (slots slots' : List (ℕ × Slot)) (me me' : SeatState) (k : ℕ) (call : Call) (events : List Event) (hands : List ℕ → List ℕ) → me.0.passes ≡ pass_in me ∷ [] → k ≡ 0
      → Becomes f k slots me me' → slots ≡ slots' → Moves (pass_in me) (f (pass_in me)) call events hands → HasStepped coded meaning events me me'
      → IsAt me' call slots' × HasDone coded meaning events hands me me'
  after_step f slots slots' me me' k call events hands one zero told same moves stepped =
      let all : me'.0.passes ≡ f (pass_in me) ∷ [] = ap (λ (s : SeatState). s.0.passes) told ∙ (λ i. with_pass_at f (zero i) (one i)) in
      let pass : pass_in me' ≡ f (pass_in me) = ap first_pass all in (
        record { one = all ∙ ap (λ (p : Pass). p ∷ []) (sym pass); in_call = ap (λ (p : Pass). p.call) pass ∙ moves.in_call; out = ap (λ (s : SeatState). s.1) told ∙ same },
        record {
          own = ap (λ (p : Pass). p.own) pass ∙ moves.own;
          number = ap (λ (p : Pass). p.number) pass ∙ moves.number;
          first = ap (λ (p : Pass). p.first) pass ∙ moves.first;
          in_hand = ap (λ (p : Pass). p.hands) pass ∙ moves.in_hand;
          sizes = ap (λ (s : SeatState). s.0.sizes) told;
          stepped = stepped;
        },
      )

  -- one step of the ring form, by one entry
  pub stepped_once : (made : Made) (me me' : SeatState) → IsRingStep coded meaning me me' → HasStepped coded meaning (Step made ∷ []) me me'
  stepped_once made me me' step = (me, me', refl, step, refl)

  -- and one that tells of the counts of a lane
  pub stepped_counted : (lane : End) (inc : ℕ) (counts : Counted) (me me' : SeatState) → IsRingStep coded meaning me me' → NeverBack lane inc counts (pass_in me).own → HasStepped coded meaning (Count lane inc counts ∷ []) me me'
  stepped_counted lane inc counts me me' step never = (me, me', refl, step, refl, never)

  pub finds : (me me' : SeatState) (place n : ℕ) → GoesOn coded meaning me (HasWord place n) me' → IsRingStep coded meaning me me'
  finds me me' place n step = (place, n, inr (inl step))

  pub stores : (me me' : SeatState) (place n : ℕ) → GoesOn coded meaning me (StoresWord place n) me' → IsRingStep coded meaning me me'
  stores me me' place n step = (place, n, inr (inr step))

  pub begins : (me me' : SeatState) (place n number follows : ℕ) (wished : Wish) → (pass_in me).number ≡ number → Begins coded meaning me (HasWord place n) number follows wished me' → IsRingStep coded meaning me me'
  begins me me' place n number follows wished same step = (place, n, inl (follows, wished, subst (λ (k : ℕ). Begins coded meaning me (HasWord place n) k follows wished me') (sym same) step))

  -- what is in the slots alone changes
  pub still : (me me' : SeatState) → me'.0 ≡ me.0 → HasDone coded meaning [] same_hands me me'
  still me me' same = record {
    own = ap (λ (v : View). (first_pass v.passes).own) same;
    number = ap (λ (v : View). (first_pass v.passes).number) same;
    first = ap (λ (v : View). (first_pass v.passes).first) same;
    in_hand = ap (λ (v : View). (first_pass v.passes).hands) same;
    sizes = ap (λ (v : View). v.sizes) same;
    stepped = same;
  }

  pub at_still : (me me' : SeatState) (call : Call) (slots slots' : List (ℕ × Slot)) → me'.0 ≡ me.0 → me'.1 ≡ slots' → IsAt me call slots → IsAt me' call slots'
  at_still me me' call slots slots' same out at = record {
    one = ap (λ (v : View). v.passes) same ∙ (at.one ∙ ap (λ (v : View). first_pass v.passes ∷ []) (sym same));
    in_call = ap (λ (v : View). (first_pass v.passes).call) same ∙ at.in_call;
    out = out;
  }

  -- what is in the slots changes behind steps
  stepped_still : (es : List Event) (a b c : SeatState) → c.0 ≡ b.0 → HasStepped coded meaning es a b → HasStepped coded meaning es a c
  stepped_still [] a b c same was = same ∙ was
  stepped_still (Step made ∷ es) a b c same was = (was.0, was.1, was.2, was.3, same ∙ was.4)
  stepped_still (Count lane inc counts ∷ es) a b c same was = (was.0, was.1, was.2, was.3, same ∙ was.4, was.5)
  stepped_still (Publish lane inc number message ∷ es) a b c same was = (was.0, was.1, was.2, was.3, same ∙ was.4)
  stepped_still (Take lane inc number message ∷ es) a b c same was = stepped_still es a b c same was

  -- more steps
  stepped_then : (events before : List Event) (a b c : SeatState) → (pass_in b).own ≡ before ++ (pass_in a).own → HasStepped coded meaning before a b → HasStepped coded meaning events b c → HasStepped coded meaning (events ++ before) a c
  stepped_then [] before a b c own first then = stepped_still before a b c then first
  stepped_then (Step made ∷ es) before a b c own first then = (then.0, then.1, stepped_then es before a b then.0 own first then.2, then.3, then.4)
  stepped_then (Count lane inc counts ∷ es) before a b c own first then = (
    then.0,
    then.1,
    stepped_then es before a b then.0 own first then.2,
    then.3,
    then.4,
    subst (NeverBack lane inc counts) (ap (λ (l : List Event). es ++ l) own ∙ sym (append_assoc es before (pass_in a).own)) then.5,
  )
  stepped_then (Publish lane inc number message ∷ es) before a b c own first then = (then.0, then.1, stepped_then es before a b then.0 own first then.2, then.3, then.4)
  stepped_then (Take lane inc number message ∷ es) before a b c own first then = stepped_then es before a b c own first then

  pub done_then : (events before : List Event) (more less : List ℕ → List ℕ) (a b c : SeatState) → HasDone coded meaning before less a b → HasDone coded meaning events more b c
      → HasDone coded meaning (events ++ before) (λ hands. more (less hands)) a c
  done_then events before more less a b c first then = record {
    own = then.own ∙ (ap (λ (l : List Event). events ++ l) first.own ∙ sym (append_assoc events before (pass_in a).own));
    number = then.number ∙ first.number;
    first = then.first ∙ first.first;
    in_hand = then.in_hand ∙ ap more first.in_hand;
    sizes = then.sizes ∙ first.sizes;
    stepped = stepped_then events before a b c first.own first.stepped then.stepped;
  }
