-- The steps of a give, as its caller's seat is told them, and put together.
use Rattle.std.proofs.Common.{◌≡◌, ℕ, ◌+◌, ◌<◌, max, cond, Bool, List, [], ◌∷◌, ◌++◌, refl, sym, ap, ◌∙◌, subst, arith, eq-eqb, ⊎_elim, ◌⊎◌}
use Rattle.std.proofs.Math.Nat.{max-eq_left}
use mathlib.Core.Option.{some, some-ne-none}
use lib.ListN.{get_elem?}
use Rattle.link_words.specs.Passes.{HasNumber}
use Rattle.std.specs.Prelude.{Result, Ok, Err, IfErr}
use base.Stored.{Coded}
use Rattle.lane_model.specs.declared.calls.CallEnd.TheVariants as end
use Rattle.lane_model.specs.declared.stages.GiveStage.TheVariants as give_stage
use Rattle.lane_model.specs.declared.stages.Turn.TheVariants as turn
use Rattle.lane_model.specs.declared.stages.Work.TheVariants as work
use Rattle.lane_model.specs.Desks.{DeskMeaning}
use Rattle.lane_model.specs.HeldBuffers.{HeldBuffer}
use Rattle.ring_core.specs.declared.states.RingSizes.{RingSizes}
use Rattle.ring_core.specs.Rings.{return_count, entry_of}
use Rattle.ring_core.specs.RingSteps.{held_buffer, hands_without}
use Rattle.vring_layout.specs.declared.words.UsedWord.{UsedWord}
use Rattle.link_words.specs.declared.rule.Call.{Call}
use Rattle.link_words.specs.declared.rule.Call.TheVariants.{Receives}
use Rattle.link_words.specs.declared.rule.Counted.TheVariants.{Gave}
use Rattle.link_words.specs.declared.rule.Event.{Event}
use Rattle.link_words.specs.declared.rule.Event.TheVariants.{Step, Count}
use Rattle.link_words.specs.Histories.{NeverBack, latest, seen, greatest, counts_told}
use Rattle.rp_base.specs.declared.kinds.End.TheVariants as side
use Rattle.rp_base.specs.declared.kinds.End.{End}
use Rattle.link_words.specs.declared.rule.LinkSizes.{LinkSizes}
use Rattle.link_words.specs.declared.rule.Made.TheVariants as made
use Rattle.link_words.specs.declared.rule.Pass.{Pass}
use Rattle.link_words.specs.declared.rule.ReceiverSide.{ReceiverSide}
use Rattle.link_words.specs.Calls.{SeatState, receive_or, under_way_or, place_of}
use Rattle.link_words.specs.Steps.{GiveStoresAt, GivePublishesAt, GiveStoresEntry, GivePublishes, returned_by, given_or, hands_but, with_entry, with_given}
use Rattle.link_words.specs.Words.{sizes_at}
use Rattle.split_ring.specs.declared.callers.CallerId.{CallerId}
use Rattle.split_ring.specs.Receives.{IsGiveAt, IsGive, IsGiveAbove, IsHeldBy}
use Rattle.split_ring.specs.Seats.{pass_in, IsAt}
use Rattle.split_ring.specs.Turns.{receive_call, receive_slots}
use Rattle.split_ring.specs.declared.gives.GiveBusy.{GiveBusy}
use Rattle.split_ring.specs.Walks.{same_hands, IsRingStep, HasStepped, HasDone}
use Rattle.split_ring.proofs.Seats.{Moves, after_step, stepped_counted, own_here, in_hand_here, done_then}
use Rattle.split_ring.proofs.TakeSteps.{alone, receiving, turned, side_is, lane_is, sizes_is, work_at}

-- the side state when the buffer of this number is back
abbrev pub side_given : ReceiverSide → ℕ → ReceiverSide
side_given x number = record x { returned = x.returned + 1; hands = hands_without x.hands number }

-- a buffer is in hand still where the hands have not changed
pub held_still : (who : CallerId) (held : HeldBuffer) (me me' : SeatState) → (pass_in me').hands ≡ (pass_in me).hands → IsHeldBy who held me → IsHeldBy who held me'
held_still who held me me' same holds = record { lane = holds.lane; caller = holds.caller; numbered = subst (λ (hands : List ℕ). HasNumber hands held.number) (sym same) holds.numbered }

-- who holds a buffer gives it in the incarnation of its latest step
pub given_now : (hands : List ℕ) (number : ℕ) (own : List Event) (inc : ℕ) → HasNumber hands number → (hands ≡ []) ⊎ (latest own ≡ inc) → latest own ≡ inc
given_now hands number own inc holds now = ⊎_elim (λ (none : hands ≡ []). absurd (some-ne-none number (sym (subst (λ (l : List ℕ). get_elem? l holds.0 ≡ some number) none holds.1)))) (λ (x : latest own ≡ inc). x) now

module _ {D : Type 0} (coded : Coded D) (meaning : DeskMeaning D) where
  -- step 2
  pub gives_at : (z : LinkSizes) (me : SeatState) (who : CallerId) (number count : ℕ) (x : ReceiverSide) (entry : UsedWord) → me.0.sizes ≡ z → IsAt me (receive_call who (work.Give number give_stage.Turn) x 0 []) (receive_slots who x)
      → count ≡ return_count (sizes_at z who.end) x.returned → entry ≡ entry_of (held_buffer x.hands number) → GiveStoresAt who.end count entry me
  gives_at z me who number count x entry sized at counted named = let w = work.Give number give_stage.Turn in let zero = alone me who w x 0 [] at in record {
    given = number;
    at = work_at me who w x 0 [] (receive_slots who x) at zero;
    count = ap (λ (s : RingSizes). return_count s x.returned) (sizes_is z me who w x 0 [] (receive_slots who x) sized at zero) ∙ sym counted;
    entry = named;
  }

  pub gives_entry : (me me' : SeatState) (who : CallerId) (number : ℕ) (x : ReceiverSide) → IsAt me (receive_call who (work.Give number give_stage.Turn) x 0 []) (receive_slots who x) → GiveStoresEntry me me' → IsRingStep coded meaning me me'
      → IsAt me' (receive_call who (work.Give number give_stage.Entry) x 0 []) (receive_slots who x) × HasDone coded meaning (Step made.Entry ∷ []) same_hands me me'
  gives_entry me me' who number x at told step =
      turned coded meaning made.Entry (λ x caller r. turn.Taken caller (record r { work = with_entry r.work })) me me' who (work.Give number give_stage.Turn) x (turn.Taken who.number (receiving who (work.Give number give_stage.Entry))) at told refl step

  -- step 3
  pub given_at : (z : LinkSizes) (me : SeatState) (who : CallerId) (returned number count : ℕ) → me.0.sizes ≡ z → IsGiveAt who returned (work.Give number give_stage.Entry) me → count ≡ return_count (sizes_at z who.end) returned → GivePublishesAt who.end (count + 1) me
  given_at z me who returned number count sized at counted = let w = work.Give number give_stage.Entry in let x = at.side in let zero = alone me who w x 0 [] at.at in record {
    given = number;
    at = work_at me who w x 0 [] (receive_slots who x) at.at zero;
    count = ap (λ (k : ℕ). k + 1) ((λ i. return_count (sizes_is z me who w x 0 [] (receive_slots who x) sized at.at zero i) (at.back i)) ∙ sym counted);
  }

  given_pass : (who : CallerId) (number inc : ℕ) (x : ReceiverSide) (p : Pass) → p.call ≡ receive_call who (work.Give number give_stage.Entry) x 0 []
      → Moves p (with_given inc p) (Receives who.end (turn.Leaving who.number (end.Gave number)) (side_given x number) 0 []) (Count who.end inc (Gave (x.returned + 1)) ∷ []) (λ hands. hands_but hands number)
  given_pass who number inc x p in_call =
      let is : with_given inc p ≡ record p { call = Receives who.end (turn.Leaving who.number (end.Gave number)) (side_given x number) 0 []; own = Count who.end inc (Gave (x.returned + 1)) ∷ p.own; hands = hands_but p.hands number } =
      ap (λ (k : Call). receive_or p (λ e t y b message. under_way_or p (λ caller r. given_or p (λ number. record p {
        call = Receives e (turn.Leaving caller (end.Gave number)) (record y { returned = y.returned + 1; hands = hands_without y.hands number }) b message;
        own = Count e inc (Gave (y.returned + 1)) ∷ p.own;
        hands = hands_but p.hands number;
      }) r.work) t) k) in_call in
      record { in_call = ap (λ (r : Pass). r.call) is; own = ap (λ (r : Pass). r.own) is; number = ap (λ (r : Pass). r.number) is; first = ap (λ (r : Pass). r.first) is; in_hand = ap (λ (r : Pass). r.hands) is }

  pub gives_back : (me me' : SeatState) (who : CallerId) (returned number : ℕ) → (at : IsGiveAt who returned (work.Give number give_stage.Entry) me) → GivePublishes me me' → IsRingStep coded meaning me me'
      → IsAt me' (Receives who.end (turn.Leaving who.number (end.Gave number)) (side_given at.side number) 0 []) (receive_slots who at.side)
      × ((inc : ℕ) × (((pass_in me).hands ≡ []) ⊎ (latest (pass_in me).own ≡ inc)) × HasDone coded meaning (Count who.end inc (Gave (returned + 1)) ∷ []) (λ hands. hands_but hands number) me me')
  gives_back me me' who returned number at told step =
      let w = work.Give number give_stage.Entry in let x = at.side in let zero = alone me who w x 0 [] at.at in
      let side : returned_by me ≡ x.returned = side_is 0 (λ y. y.returned) me who w x 0 [] (receive_slots who x) at.at zero in
      let inc = told.0 in let lane = lane_is me who w x 0 [] (receive_slots who x) at.at zero in
      let never : NeverBack who.end inc (Gave (x.returned + 1)) (pass_in me).own = subst (λ (v : End × ℕ × List Event). NeverBack v.0 inc (Gave (v.1 + 1)) v.2) (λ i. (lane i, side i, own_here me (place_of me) at.at.one zero i)) told.2 in
      let now = subst (λ (v : List ℕ × List Event). (v.0 ≡ []) ⊎ (latest v.1 ≡ inc)) (λ i. (in_hand_here me (place_of me) at.at.one zero i, own_here me (place_of me) at.at.one zero i)) told.1 in
      let all = after_step coded meaning (with_given inc) me.1 (receive_slots who x) me me' (place_of me) (Receives who.end (turn.Leaving who.number (end.Gave number)) (side_given x number) 0 [])
      (Count who.end inc (Gave (x.returned + 1)) ∷ []) (λ hands. hands_but hands number) at.at.one zero told.3 at.at.out (given_pass who number inc x (pass_in me) at.at.in_call)
      (stepped_counted coded meaning who.end inc (Gave (x.returned + 1)) me me' step never) in
      (all.0, (inc, now, subst (λ (k : ℕ). HasDone coded meaning (Count who.end inc (Gave (k + 1)) ∷ []) (λ hands. hands_but hands number) me me') at.back all.1))

  -- with its first and its last step
  pub gives_whole : (end : End) (held : HeldBuffer) (number returned : ℕ) (a b d e f : SeatState) → HasNumber (pass_in a).hands held.number → number ≡ held.number → HasDone coded meaning (Step (made.Turn 0) ∷ []) same_hands a b → HasDone coded meaning (Step made.Entry ∷ []) same_hands b d
      → (inc : ℕ) × (((pass_in d).hands ≡ []) ⊎ (latest (pass_in d).own ≡ inc)) × HasDone coded meaning (Count end inc (Gave (returned + 1)) ∷ []) (λ hands. hands_but hands number) d e → HasDone coded meaning (Step made.Left ∷ []) same_hands e f → IsGive coded meaning end held (Ok number) a f
  gives_whole end held number returned a b d e f holds same entered entry given left = let upto = done_then coded meaning (Step made.Entry ∷ []) (Step (made.Turn 0) ∷ []) same_hands same_hands a b d entered entry in record {
    walk = Step made.Left ∷ Count end given.0 (Gave (returned + 1)) ∷ Step made.Entry ∷ Step (made.Turn 0) ∷ [];
    is = (
      same,
      (
        returned,
        ap (λ (inc : ℕ). Step made.Left ∷ Count end inc (Gave (returned + 1)) ∷ Step made.Entry ∷ Step (made.Turn 0) ∷ []) (sym (given_now (pass_in a).hands held.number (pass_in a).own given.0 holds
            (subst (λ (v : List ℕ × List Event). (v.0 ≡ []) ⊎ (latest v.1 ≡ given.0)) (λ i. (upto.in_hand i, upto.own i)) given.1))),
      ),
    );
    done = done_then coded meaning (Step made.Left ∷ []) (Count end given.0 (Gave (returned + 1)) ∷ Step made.Entry ∷ Step (made.Turn 0) ∷ []) same_hands (λ hands. hands_but hands number) a e f
        (done_then coded meaning (Count end given.0 (Gave (returned + 1)) ∷ []) (Step made.Entry ∷ Step (made.Turn 0) ∷ []) (λ hands. hands_but hands number) same_hands a d e
        upto given.2) left;
  }

-- it makes a count above what the caller had seen, and the caller has seen it then
pub give_seen : {D : Type 0} (coded : Coded D) (meaning : DeskMeaning D) (end : End) (held : HeldBuffer) (answer : Result ℕ GiveBusy) (me me' : SeatState) → IsGive coded meaning end held answer me me' → IsGiveAbove end (pass_in me).own answer (pass_in me').own
give_seen coded meaning end held (Err busy) me me' give = tt
give_seen coded meaning end held (Ok number) me me' give =
    let old = (pass_in me).own in let inc = latest old in let made = give.is.1.0 + 1 in let is = give.is.1.1 in let walked = subst (λ (walk : List Event). HasStepped coded meaning walk me me') is give.done.stepped in
    let never : NeverBack end inc (Gave made) old = record { not_below = walked.2.5.not_below; none_later = walked.2.5.none_later } in let above : (seen end inc old).returned < made = never.not_below in (
      never.none_later,
      (
        made,
        above,
        ap (λ (l : List Event). (seen end inc l).returned) (give.done.own ∙ ap (λ (walk : List Event). walk ++ old) is) ∙ (newest end inc made old ∙ max-eq_left (omega arith)),
      ),
    )
  where
    newest : (end : End) (inc made : ℕ) (own : List Event) → (seen end inc (Count end inc (Gave made) ∷ own)).returned ≡ max made (seen end inc own).returned
    newest side.Host inc made own = ap (λ (b : Bool). (cond b (greatest (counts_told (Gave made)) (seen side.Host inc own)) (seen side.Host inc own)).returned) (eq-eqb inc inc refl)
    newest side.Remote inc made own = ap (λ (b : Bool). (cond b (greatest (counts_told (Gave made)) (seen side.Remote inc own)) (seen side.Remote inc own)).returned) (eq-eqb inc inc refl)

-- where the turn is another's the buffer is in hand still
pub held_yet : {D : Type 0} (coded : Coded D) (meaning : DeskMeaning D) (who : CallerId) (held : HeldBuffer) (answer : Result ℕ GiveBusy) (me me' : SeatState) → IsGive coded meaning who.end held answer me me' → IsHeldBy who held me → IfErr answer (λ busy. IsHeldBy who busy.held me')
held_yet coded meaning who held (Ok number) me me' give holds = tt
held_yet coded meaning who held (Err busy) me me' give holds = subst (λ (b : HeldBuffer). IsHeldBy who b me') (sym give.is.1) (held_still who held me me' give.done.in_hand holds)
