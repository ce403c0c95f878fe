-- A step that settles how its call ends, or does not: what is known then of the lanes, and whose the buffers in hand are.
use Rattle.std.proofs.Common.{◌≡◌, ⊎_elim, ℕ, zero, suc, ◌+◌, ◌==◌, ◌&&◌, ◌||◌, not, cond, length, map, Bool, true, false, List, [], ◌∷◌, ◌++◌, Option, Some, None, refl, sym, ap, subst, ◌∙◌, length-append, eq-eqb, arith}
use Rattle.std.specs.Option.{option_map}
use Rattle.std.specs.Prelude.{Vec, vec_capacity}
use Rattle.std.specs.declared.alloc.Global.{Global}
use Rattle.std.proofs.lemmas.Bool.{false≢true, and_from, or_left, or_right}
use Rattle.std.proofs.lemmas.List.Folds.{list_any-append}
use mathlib.Core.Option.{some}
use lib.ListN.{get_elem?}
use Rattle.lane_model.specs.declared.calls.Answer.{Answer}
use Rattle.lane_model.specs.declared.calls.Answer.TheVariants as answer
use Rattle.lane_model.specs.declared.calls.Ask.{Ask}
use Rattle.lane_model.specs.declared.calls.Ask.TheVariants as ask
use Rattle.lane_model.specs.declared.states.Holding.{Holding}
use Rattle.lane_model.specs.declared.states.Lane.{Lane}
use Rattle.lane_model.specs.HeldBuffers.{HeldBuffer}
use Rattle.lane_model.specs.Lanes.{holder, holds, without}
use Rattle.lane_model.specs.Receives.{with_handed}
use Rattle.lane_model.specs.Soundness.{SoundLink}
use Rattle.link_words.specs.Passes.{HasNumber}
use Rattle.link_words.specs.Words.{lane_to, other}
use Rattle.split_ring.specs.declared.callers.CallerId.{CallerId}
use Rattle.split_ring.specs.CallPhases.{Phase}
use Rattle.split_ring.specs.CallPhases as phase
use Rattle.split_ring.specs.Calls.{call_end}
use Rattle.split_ring.specs.Handed.{IsOwnBuffer, Settles, StepsLanes, incoming_by, outgoing_by}
use Rattle.split_ring.specs.Phases.{IsGivenBack, IsUnderWay, IsUnsettled, KeepsBuffer, gives_back, settled_end}
use Rattle.split_ring.specs.Reclaims.{buffer_in, taken_buffer}
use Rattle.managed_link.specs.declared.call_slots.CarriedCall.{CarriedCall}
use Rattle.managed_link.specs.declared.hands.Hand.{Hand}
use Rattle.managed_link.specs.declared.views.LaneView.{LaneView}
use Rattle.managed_link.specs.Hands.{AreSome, holding_of}
use Rattle.managed_link.specs.Known.{LinkRings, lists_of}
use Rattle.managed_link.specs.Managed.{AreHandsOf, IsBegun, IsHandOf, IsOwnAnswer, view_of}
use Rattle.managed_link.specs.Settles.{held_behind, incoming_view, outgoing_view, with_new_hand}
use Rattle.managed_link.specs.Steps.{hands_learnt, held_learnt, incoming_learnt, outgoing_learnt}
use Rattle.managed_link.proofs.StepBooks.{BooksGrow, books_grow, buffer_stays, lane_sound, same_lane}
use Rattle.managed_link.proofs.StepHands.{StepsCall, hand_kept, hands_here, held_at, last_or_before, out_with}

-- the buffer of a call whose end is not settled is the one that it gives back
none_out : (p : Phase) → IsUnsettled p → gives_back p ≡ None → buffer_in p ≡ []
none_out (phase.Asked (ask.Send message)) unsettled none = refl
none_out (phase.Asked ask.Take) unsettled none = refl
none_out (phase.Asked (ask.Give held)) unsettled none = cc
none_out (phase.Asked (ask.Bind address)) unsettled none = refl
none_out (phase.Asked (ask.Unbind address)) unsettled none = refl
none_out (phase.Sends stage c message) unsettled none = refl
none_out (phase.Takes stage c buffer) unsettled none = refl
none_out (phase.Gives stage held returned) unsettled none = cc
none_out (phase.Asks asked) unsettled none = refl
none_out (phase.LeavesSender said) unsettled none = absurd unsettled
none_out (phase.LeavesReceiver said) unsettled none = absurd unsettled
none_out phase.Ended unsettled none = absurd unsettled

one_out : (p : Phase) (held : HeldBuffer) → gives_back p ≡ Some held → buffer_in p ≡ held.number ∷ []
one_out (phase.Asked (ask.Send message)) held is = cc
one_out (phase.Asked ask.Take) held is = cc
one_out (phase.Asked (ask.Give given)) held is = let same : given ≡ held = cc in ap (λ (h : HeldBuffer). h.number ∷ []) same
one_out (phase.Asked (ask.Bind address)) held is = cc
one_out (phase.Asked (ask.Unbind address)) held is = cc
one_out (phase.Sends stage c message) held is = cc
one_out (phase.Takes stage c buffer) held is = cc
one_out (phase.Gives stage given returned) held is = let same : given ≡ held = cc in ap (λ (h : HeldBuffer). h.number ∷ []) same
one_out (phase.Asks asked) held is = cc
one_out (phase.LeavesSender said) held is = cc
one_out (phase.LeavesReceiver said) held is = cc
one_out phase.Ended held is = cc

pub not_in_none : {P : Type 0} (number : ℕ) → HasNumber [] number → P
not_in_none number has = let here = has.1 in cc

pub only_one : (one number : ℕ) → HasNumber (one ∷ []) number → one ≡ number
only_one one number (zero, here) = cc
only_one one number (suc k, here) = cc

-- a number that is out with a call is none, or that of the buffer that it gives back
out_none : {P : Type 0} (p : Phase) (number : ℕ) → IsUnsettled p → gives_back p ≡ None → HasNumber (buffer_in p) number → P
out_none p number unsettled none has = not_in_none number (subst (λ (out : List ℕ). HasNumber out number) (none_out p unsettled none) has)

out_one : (p : Phase) (held : HeldBuffer) (number : ℕ) → gives_back p ≡ Some held → HasNumber (buffer_in p) number → held.number ≡ number
out_one p held number is has = only_one held.number number (subst (λ (out : List ℕ). HasNumber out number) (one_out p held is) has)

out_gave : (p : Phase) (one number : ℕ) → option_map (λ (held : HeldBuffer). held.number) (gives_back p) ≡ Some one → HasNumber (buffer_in p) number → one ≡ number
out_gave p one number is has = by (gives_back p) refl is
  where
    by : (o : Option HeldBuffer) → gives_back p ≡ o → option_map (λ (held : HeldBuffer). held.number) o ≡ Some one → one ≡ number
    by None given none = cc
    by (Some held) given some_one = let same : held.number ≡ one = cc in sym same ∙ out_one p held number given has

-- the buffer stays where it is while the call goes on
same_out : (p p' : Phase) (number : ℕ) → IsUnsettled p → IsUnsettled p' → KeepsBuffer p p' → HasNumber (buffer_in p) number → HasNumber (buffer_in p') number
same_out p (phase.Gives stage held returned) number unsettled on keeps has = (0, ap (λ (n : ℕ). some n) (out_one p held number keeps has))
same_out p (phase.LeavesSender said) number unsettled on keeps has = absurd on
same_out p (phase.LeavesReceiver said) number unsettled on keeps has = absurd on
same_out p p' number unsettled on keeps has = out_none p number unsettled keeps has

-- the caller's own holding with this number is not among those without it
pub gone : (held : List Holding) (number caller : ℕ) → holds (without held number caller) number caller ≡ false
gone [] number caller = refl
gone (h ∷ hs) number caller = by ((h.number == number) && (h.caller == caller)) refl (gone hs number caller)
  where
    by : (b : Bool) → ((h.number == number) && (h.caller == caller)) ≡ b → holds (without hs number caller) number caller ≡ false → holds (cond (not b) (h ∷ without hs number caller) (without hs number caller)) number caller ≡ false
    by true is rest = rest
    by false is rest = ap (λ (b : Bool). b || holds (without hs number caller) number caller) is ∙ rest

-- what a settled answer says of a lane, with these turns
abbrev pub view_from : Lane → Option ℕ → Option ℕ → LaneView
view_from lane sender receiver = record { accepted = length lane.accepted; handed = length lane.takers; returned = lane.returned; sender = sender; receiver = receiver }

incoming_seen : (caller : ℕ) (said : Answer) (lane : Lane) (sender receiver : Option ℕ) → view_from (incoming_by caller said lane) sender receiver ≡ incoming_view (call_end said) (view_from lane sender receiver)
incoming_seen caller (answer.Took held verdict) lane sender receiver = ap (λ (k : ℕ). record (view_from lane sender receiver) { handed = k }) (length-append lane.takers (caller ∷ []))
incoming_seen caller (answer.Gave number) lane sender receiver = refl
incoming_seen caller said lane sender receiver = refl

outgoing_seen : (caller : ℕ) (message : List ℕ) (said : Answer) (lane : Lane) (sender receiver : Option ℕ) → view_from (outgoing_by caller message said lane) sender receiver ≡ outgoing_view (call_end said) (view_from lane sender receiver)
outgoing_seen caller message (answer.Sent number) lane sender receiver = ap (λ (k : ℕ). record (view_from lane sender receiver) { accepted = k }) (length-append lane.accepted (record { caller = caller; message = message } ∷ []))
outgoing_seen caller message said lane sender receiver = refl

-- the views of the lanes of the caller, behind a step that left its call in this phase and the turns with whom had them
pub incoming_known : (who : CallerId) (p : Phase) (m m' : LinkRings) → StepsLanes who p m m' → holder (lane_to m' who.end).lane.sender ≡ holder (lane_to m who.end).lane.sender → holder (lane_to m' who.end).lane.receiver ≡ holder (lane_to m who.end).lane.receiver
    → view_of (lane_to m' who.end).lane ≡ incoming_learnt (settled_end p) (view_of (lane_to m who.end).lane)
incoming_known who (phase.LeavesSender said) m m' s sender receiver = (λ i. view_from (s.incoming i) (sender i) (receiver i)) ∙ incoming_seen who.number said _ _ _
incoming_known who (phase.LeavesReceiver said) m m' s sender receiver = (λ i. view_from (s.incoming i) (sender i) (receiver i)) ∙ incoming_seen who.number said _ _ _
incoming_known who p m m' s sender receiver = λ i. view_from (same_lane m m' s who.end i) (sender i) (receiver i)

pub outgoing_known : (who : CallerId) (p : Phase) (m m' : LinkRings) → StepsLanes who p m m' → holder (lane_to m' (other who.end)).lane.sender ≡ holder (lane_to m (other who.end)).lane.sender
    → holder (lane_to m' (other who.end)).lane.receiver ≡ holder (lane_to m (other who.end)).lane.receiver
    → view_of (lane_to m' (other who.end)).lane ≡ outgoing_learnt (settled_end p) (view_of (lane_to m (other who.end)).lane)
outgoing_known who (phase.LeavesSender said) m m' s sender receiver = (λ i. view_from (s.outgoing i) (sender i) (receiver i)) ∙ outgoing_seen who.number s.message said _ _ _
outgoing_known who (phase.LeavesReceiver said) m m' s sender receiver = (λ i. view_from (s.outgoing i) (sender i) (receiver i)) ∙ outgoing_seen who.number s.message said _ _ _
outgoing_known who p m m' s sender receiver = λ i. view_from (same_lane m m' s (other who.end) i) (sender i) (receiver i)

-- a buffer that a call was handed is held by its caller behind the step
took_own : (who : CallerId) (held : HeldBuffer) (m m' : LinkRings) → BooksGrow who m m' → SoundLink (lists_of m') → IsOwnBuffer who m held → held.number ≡ length (lane_to m who.end).lane.lane.takers
    → (lane_to m' who.end).lane.lane ≡ with_handed (lane_to m who.end).lane.lane who.number → IsOwnBuffer who m' held × (holds (lane_to m' who.end).lane.lane.held held.number who.number ≡ true)
took_own who held m m' grow sound own next is =
    let lane = (lane_to m who.end).lane.lane in let takers : length (lane_to m' who.end).lane.lane.takers ≡ length lane.takers + 1 = ap (λ (l : Lane). length l.takers) is ∙ length-append lane.takers (who.number ∷ []) in
    let accepted : length (lane_to m' who.end).lane.lane.accepted ≡ length lane.accepted = ap (λ (l : Lane). length l.accepted) is in let handed = (lane_sound m' sound who.end).lane.handed in
    let last : Holding = record { number = length lane.takers; caller = who.number } in (
      buffer_stays who.number who m m' held (grow.lanes who.end) (omega (arith, next, takers, accepted, handed)) own,
      ap (λ (l : Lane). holds l.held held.number who.number) is ∙ (list_any-append (λ (h : Holding). (h.number == held.number) && (h.caller == who.number)) lane.held (last ∷ [])
          ∙ or_right (holds lane.held held.number who.number) _ (or_left ((last.number == held.number) && (last.caller == who.number)) false (and_from _ _ (eq-eqb last.number held.number (sym next)) (eq-eqb who.number who.number refl)))),
    )

answer_own : (who : CallerId) (p : Phase) (said : Answer) (m m' : LinkRings) → Settles who said m m' → BooksGrow who m m' → SoundLink (lists_of m') → IsGivenBack (gives_back p) said → IsOwnAnswer who m' said
answer_own who p (answer.Took held verdict) m m' s grow sound given = took_own who held m m' grow sound s.handed.0 s.handed.1 s.incoming
answer_own who p (answer.GiveBusy found held) m m' s grow sound given = absurd given
answer_own who p said m m' s grow sound given = tt

-- a call that has done a step, not the first alone, and has a turn then, has begun
pub has_begun : (who : CallerId) (p p' : Phase) (m m' : LinkRings) → StepsLanes who p' m m' → SoundLink (lists_of m') → KeepsBuffer p p' → ((asked : Ask) → p' ≡ phase.Asked asked → ⊥) → IsBegun who m' p'
has_begun who p (phase.Asked asked) m m' s sound keeps later = absurd (later asked refl)
has_begun who p (phase.LeavesSender said) m m' s sound keeps later = answer_own who p said m m' s (books_grow who (phase.LeavesSender said) m m' s) sound keeps
has_begun who p (phase.LeavesReceiver said) m m' s sound keeps later = answer_own who p said m m' s (books_grow who (phase.LeavesReceiver said) m m' s) sound keeps
has_begun who p p' m m' s sound keeps later = tt

-- what is held of the lane from which the caller takes
settled_held : (who : CallerId) (said : Answer) (m m' : LinkRings) → Settles who said m m' → (lane_to m' who.end).lane.lane.held ≡ held_behind (call_end said) who.number (lane_to m who.end).lane.lane.held
settled_held who (answer.Took held verdict) m m' s = let lane = (lane_to m who.end).lane.lane in
    ap (λ (l : Lane). l.held) s.incoming ∙ ap (λ (k : ℕ). lane.held ++ record { number = k; caller = who.number } ∷ []) (sym s.handed.1)
settled_held who (answer.Gave number) m m' s = ap (λ (l : Lane). l.held) s.incoming
settled_held who said m m' s = ap (λ (l : Lane). l.held) s.incoming

pub held_known : (who : CallerId) (p : Phase) (m m' : LinkRings) → StepsLanes who p m m' → (lane_to m' who.end).lane.lane.held ≡ held_learnt (settled_end p) who.number (lane_to m who.end).lane.lane.held
held_known who (phase.LeavesSender said) m m' s = settled_held who said m m' s
held_known who (phase.LeavesReceiver said) m m' s = settled_held who said m m' s
held_known who p m m' s = ap (λ (l : Lane). l.held) (same_lane m m' s who.end)

-- the buffers in hand of the caller's end, behind a step that leaves its call under way
module _ (who : CallerId) (m m' : LinkRings) (calls calls' : List (Option CarriedCall)) (s : StepsCall who m m' calls calls') (p : Phase) (hands hands' : Vec Hand Global)
    (of : AreHandsOf m who.end calls hands) (was_out : out_with calls who.number ≡ buffer_in p) (unsettled : IsUnsettled p) where
  abbrev IsOwn : Hand → Type 0
  IsOwn hand = IsHandOf m' who.end calls' hand hand.held

  -- one that was there, and is not out with the call
  stays_in : (place : ℕ) (hand : Hand) → get_elem? hands.items place ≡ some hand → gives_back p ≡ None → IsOwn hand
  stays_in place hand there none = hand_kept who m m' calls calls' s hands place hand of there
      (λ mine has. out_none p hand.number unsettled none (subst (λ (out : List ℕ). HasNumber out hand.number) was_out has))

  settled_own : (said : Answer) → out_with calls' who.number ≡ taken_buffer said → IsGivenBack (gives_back p) said → map holding_of hands'.items ≡ held_behind (call_end said) who.number (map holding_of hands.items)
      → AreSome (with_new_hand (call_end said) who.number hands.items) hands'.items → (place : ℕ) (hand : Hand) → get_elem? hands'.items place ≡ some hand → IsOwn hand
  settled_own (answer.Took held verdict) now_out given listed among place hand here = let old = among place hand here in
      ⊎_elim (λ (there : get_elem? hands.items old.0 ≡ some hand). stays_in old.0 hand there given)
      (λ (is : record { caller = who.number; number = held.number; held = None } ≡ hand). subst IsOwn is (subst (λ (out : List ℕ). HasNumber out held.number) (sym now_out) (0, refl)))
      (last_or_before hands.items (record { caller = who.number; number = held.number; held = None }) old.0 hand old.1)
  settled_own (answer.Gave number) now_out given listed among place hand here = let old = among place hand here in
      hand_kept who m m' calls calls' s hands old.0 hand of old.1 (λ mine has. let one = out_gave p number hand.number given (subst (λ (out : List ℕ). HasNumber out hand.number) was_out has) in
      absurd (false≢true (sym (gone (map holding_of hands.items) number who.number) ∙ ((λ i. holds (sym listed i) (one i) (sym mine i)) ∙ held_at hands'.items place hand here))))
  settled_own (answer.GiveBusy found held) now_out given listed among place hand here = absurd given
  settled_own said now_out given listed among place hand here = let old = among place hand here in stays_in old.0 hand old.1 given

  later_own : (p' : Phase) → out_with calls' who.number ≡ buffer_in p' → IsUnderWay p' → KeepsBuffer p p' → map holding_of hands'.items ≡ held_learnt (settled_end p') who.number (map holding_of hands.items)
      → AreSome (hands_learnt (settled_end p') who.number hands.items) hands'.items → (place : ℕ) (hand : Hand) → get_elem? hands'.items place ≡ some hand → IsOwn hand
  later_own (phase.LeavesSender said) now_out on keeps listed among place hand here = settled_own said now_out keeps listed among place hand here
  later_own (phase.LeavesReceiver said) now_out on keeps listed among place hand here = settled_own said now_out keeps listed among place hand here
  later_own phase.Ended now_out on keeps listed among place hand here = absurd on
  later_own p' now_out on keeps listed among place hand here = let old = among place hand here in
      hand_kept who m m' calls calls' s hands old.0 hand of old.1 (λ mine has. subst (λ (out : List ℕ). HasNumber out hand.number) (sym now_out)
      (same_out p p' hand.number unsettled tt keeps (subst (λ (out : List ℕ). HasNumber out hand.number) was_out has)))

  pub later_hands : (p' : Phase) → out_with calls' who.number ≡ buffer_in p' → StepsLanes who p' m m' → IsUnderWay p' → KeepsBuffer p p' → map holding_of hands'.items ≡ held_learnt (settled_end p') who.number (map holding_of hands.items)
      → AreSome (hands_learnt (settled_end p') who.number hands.items) hands'.items → vec_capacity hands' ≡ vec_capacity hands → AreHandsOf m' who.end calls' hands'
  later_hands p' now_out steps on keeps listed among room = hands_here who m m' calls calls' s hands hands' of
      (listed ∙ (ap (held_learnt (settled_end p') who.number) of.listed ∙ sym (held_known who p' m m' steps))) room (later_own p' now_out on keeps listed among)
