-- A buffer goes from the hands to the call that gives it back, and one that the call was handed, or couldn't give back, comes to them.
use Rattle.std.proofs.Common.{◌≡◌, ◌≢◌, ◌⊎◌, inl, inr, ⊎_elim, ℕ, suc, ◌==◌, ◌&&◌, cond, length, map, Bool, true, false, List, [], ◌∷◌, Option, Some, None, refl, sym, ap, subst, ◌∙◌, arith}
use Rattle.std.specs.Prelude.{IfSome, IsSomeAnd, MatchOption, Vec, vec_capacity}
use Rattle.std.specs.declared.alloc.Global.{Global}
use Rattle.std.proofs.lemmas.Bool.{false≢true, and_parts, eqb-true, or_cases}
use Rattle.std.proofs.lemmas.Option.{none-some, same_Some}
use mathlib.Core.Option.{some}
use lib.ListN.{get_elem?}
use Rattle.rp_base.specs.declared.kinds.End.{End}
use Rattle.rp_base.specs.declared.kinds.End.TheVariants as side
use Rattle.lane_model.specs.declared.calls.Answer.{Answer}
use Rattle.lane_model.specs.declared.calls.Answer.TheVariants as answer
use Rattle.lane_model.specs.declared.calls.Ask.{Ask}
use Rattle.lane_model.specs.declared.calls.Ask.TheVariants as ask
use Rattle.lane_model.specs.declared.calls.Wish.{Wish}
use Rattle.lane_model.specs.declared.calls.Wish.TheVariants as wish
use Rattle.lane_model.specs.declared.states.Holding.{Holding}
use Rattle.lane_model.specs.declared.states.Lane.{Lane}
use Rattle.lane_model.specs.Answers.{busy_answer, given_back}
use Rattle.lane_model.specs.Conditions.{IsFitWish}
use Rattle.lane_model.specs.HeldBuffers.{HeldBuffer}
use Rattle.lane_model.specs.Lanes.{holds}
use Rattle.lane_model.specs.Links.{incoming_number}
use Rattle.lane_model.specs.Soundness.{AreHandedOnce, SoundLink}
use Rattle.link_words.specs.Calls.{SeatState}
use Rattle.link_words.specs.Histories.{hands_of}
use Rattle.link_words.specs.Passes.{HasNumber}
use Rattle.link_words.specs.Words.{lane_to}
use Rattle.split_ring.specs.declared.callers.CallerId.{CallerId}
use Rattle.split_ring.specs.CallPhases.{Phase}
use Rattle.split_ring.specs.CallPhases as phase
use Rattle.split_ring.specs.Calls.{IsOwnAsk}
use Rattle.split_ring.specs.Handed.{IsOwnBuffer, Settles, StepsLanes}
use Rattle.split_ring.specs.Phases.{IsGivenBack, KeepsBuffer}
use Rattle.split_ring.specs.Receives.{lane_number}
use Rattle.split_ring.specs.Reclaims.{buffer_in, taken_buffer}
use Rattle.split_ring.specs.Seats.{pass_in}
use Rattle.managed_link.specs.declared.call_slots.CarriedCall.{CarriedCall}
use Rattle.managed_link.specs.declared.hands.Hand.{Hand}
use Rattle.managed_link.specs.Hands.{IsHandAt, IsPutIn, IsTakenOut, holding_of}
use Rattle.managed_link.specs.Known.{LinkRings, lists_of}
use Rattle.managed_link.specs.Managed.{AreHandsOf, IsHandOf, IsOwnAnswer, caller_id}
use Rattle.managed_link.specs.Settles.{CanGive}
use Rattle.split_ring.specs.Stages.{answer_buffer}
use Rattle.managed_link.proofs.ListParts.{at_replaced, map_replaced}
use Rattle.managed_link.proofs.StepBooks.{accepted_held, buffer_stays}
use Rattle.managed_link.proofs.StepHands.{StepsCall, hand_kept, hands_here, hands_once, held_at, once_at, out_with}
use Rattle.managed_link.proofs.StepSettles.{not_in_none, only_one}

-- a buffer put in or taken out leaves the list of what is held
taken_listed : (number caller : ℕ) (out : Option HeldBuffer) (hands hands' : List Hand) → IsTakenOut number caller out hands hands' → map holding_of hands' ≡ map holding_of hands
taken_listed number caller out hands hands' taken = ap (map holding_of) taken.4 ∙ map_replaced holding_of hands taken.0 taken.1 (record taken.1 { held = None }) taken.2.here refl

pub put_listed : (held : HeldBuffer) (hands hands' : List Hand) → IsPutIn held hands hands' → map holding_of hands' ≡ map holding_of hands
put_listed held hands hands' put = ap (map holding_of) put.3 ∙ map_replaced holding_of hands put.0 put.1 (record put.1 { held = Some held }) put.2.here refl

-- what is out with a call that has its turn, and has changed nothing else
settled_none : {P : Type 0} (who : CallerId) (m m' : LinkRings) (said : Answer) (held : HeldBuffer) → Settles who said m m' → (lane_to m' who.end).lane.lane ≡ (lane_to m who.end).lane.lane → IsGivenBack (Some held) said → P
settled_none who m m' (answer.Gave n) held s same given = let more = ap (λ (l : Lane). l.returned) (sym same ∙ s.incoming) in absurd (omega (arith, more))
settled_none who m m' (answer.GiveBusy found back) held s same given = absurd given
settled_none who m m' said held s same given = cc

given_out : (who : CallerId) (m m' : LinkRings) (asked : Ask) (p : Phase) (held : HeldBuffer) → StepsLanes who p m m' → (lane_to m' who.end).lane.lane ≡ (lane_to m who.end).lane.lane → KeepsBuffer (phase.Asked asked) p
    → given_back asked ≡ Some held → HasNumber (buffer_in p) held.number
given_out who m m' asked (phase.Gives stage given returned) held s same keeps is = (0, ap (λ (h : HeldBuffer). some h.number) (same_Some given held (sym keeps ∙ is)))
given_out who m m' asked (phase.LeavesSender said) held s same keeps is = settled_none who m m' said held s same (subst (λ (o : Option HeldBuffer). IsGivenBack o said) is keeps)
given_out who m m' asked (phase.LeavesReceiver said) held s same keeps is = settled_none who m m' said held s same (subst (λ (o : Option HeldBuffer). IsGivenBack o said) is keeps)
given_out who m m' asked p held s same keeps is = absurd (none-some held (sym keeps ∙ is))

-- the buffers in hand of the caller's end, where its call had none out
module _ (who : CallerId) (m m' : LinkRings) (calls calls' : List (Option CarriedCall)) (s : StepsCall who m m' calls calls') (hands hands' : Vec Hand Global)
    (of : AreHandsOf m who.end calls hands) (was_out : out_with calls who.number ≡ []) where
  abbrev IsOwn : Hand → Type 0
  IsOwn hand = IsHandOf m' who.end calls' hand hand.held

  stays_in : (place : ℕ) (hand : Hand) → get_elem? hands.items place ≡ some hand → IsOwn hand
  stays_in place hand there = hand_kept who m m' calls calls' s hands place hand of there (λ mine has. not_in_none hand.number (subst (λ (out : List ℕ). HasNumber out hand.number) was_out has))

  all_stay : hands'.items ≡ hands.items → (place : ℕ) (hand : Hand) → get_elem? hands'.items place ≡ some hand → IsOwn hand
  all_stay same place hand here = stays_in place hand (subst (λ (l : List Hand). get_elem? l place ≡ some hand) same here)

  -- step 1 of a call: what it gives back is out with it
  begun_own : (asked : Ask) (p : Phase) (o : Option HeldBuffer) → given_back asked ≡ o → MatchOption o (hands'.items ≡ hands.items) (λ held. IsTakenOut held.number who.number (Some held) hands.items hands'.items) → out_with calls' who.number ≡ buffer_in p
      → StepsLanes who p m m' → (lane_to m' who.end).lane.lane ≡ (lane_to m who.end).lane.lane → KeepsBuffer (phase.Asked asked) p → (place : ℕ) (hand : Hand) → get_elem? hands'.items place ≡ some hand → IsOwn hand
  begun_own asked p None is taken now_out steps same keeps = all_stay taken
  begun_own asked p (Some held) is taken now_out steps same keeps = λ place hand here. let at : IsHandAt hands.items held.number who.number taken.0 taken.1 = taken.2 in
      ⊎_elim (λ (new : (place ≡ taken.0) × (record taken.1 { held = None } ≡ hand)). subst IsOwn new.1
      (subst (λ n. HasNumber (out_with calls' n) taken.1.number) (sym at.by_caller) (subst (λ (out : List ℕ). HasNumber out taken.1.number) (sym now_out)
      (subst (HasNumber (buffer_in p)) (sym at.numbered) (given_out who m m' asked p held steps same keeps is)))))
      (λ (old : (place ≢ taken.0) × (get_elem? hands.items place ≡ some hand)). stays_in place hand old.1)
      (at_replaced hands.items taken.0 place hand (record taken.1 { held = None }) (subst (λ (l : List Hand). get_elem? l place ≡ some hand) taken.4 here))

  taken_same : (asked : Ask) (o : Option HeldBuffer) → given_back asked ≡ o → MatchOption o (hands'.items ≡ hands.items) (λ held. IsTakenOut held.number who.number (Some held) hands.items hands'.items) → map holding_of hands'.items ≡ map holding_of hands.items
  taken_same asked None is taken = ap (map holding_of) taken
  taken_same asked (Some held) is taken = taken_listed held.number who.number (Some held) hands.items hands'.items taken

  pub begun_hands : (asked : Ask) (p : Phase) → MatchOption (given_back asked) (hands'.items ≡ hands.items) (λ held. IsTakenOut held.number who.number (Some held) hands.items hands'.items) → out_with calls' who.number ≡ buffer_in p
      → StepsLanes who p m m' → (lane_to m' who.end).lane.lane ≡ (lane_to m who.end).lane.lane → KeepsBuffer (phase.Asked asked) p → vec_capacity hands' ≡ vec_capacity hands → AreHandsOf m' who.end calls' hands'
  begun_hands asked p taken now_out steps same keeps room =
      hands_here who m m' calls calls' s hands hands' of (taken_same asked (given_back asked) refl taken ∙ (of.listed ∙ ap (λ (l : Lane). l.held) (sym same))) room
      (begun_own asked p (given_back asked) refl taken now_out steps same keeps)

-- a buffer comes into its place, which stood there before or was taken out
module _ (who : CallerId) (m m' : LinkRings) (calls calls' : List (Option CarriedCall)) (s : StepsCall who m m' calls calls') (hands hands' : Vec Hand Global) (of : AreHandsOf m who.end calls hands) where
  back_own : (held : HeldBuffer) (before : List Hand) (place : ℕ) (hand : Hand) → IsOwnBuffer (caller_id who.number who.end 0) m held → holds (lane_to m who.end).lane.lane.held held.number who.number ≡ true → SoundLink (lists_of m)
      → map holding_of before ≡ map holding_of hands.items → ((k : ℕ) (h : Hand) → get_elem? before k ≡ some h → (h.number ≢ held.number) → IsHandOf m' who.end calls' h h.held)
      → (put : IsPutIn held before hands'.items) → get_elem? hands'.items place ≡ some hand → IsHandOf m' who.end calls' hand hand.held
  back_own held before place hand own has sound same rest put here = let at : IsHandAt before held.number held.caller put.0 put.1 = put.2 in let e = who.end in
      let mine : put.1.caller ≡ who.number = at.by_caller ∙ own.caller in
      let below = accepted_held m e held.number who.number sound has in
      let now = buffer_stays who.number (caller_id who.number e 0) m m' held (s.grow.lanes e) below own in
      ⊎_elim (λ (new : (place ≡ put.0) × (record put.1 { held = Some held } ≡ hand)). subst (λ (h : Hand). IsHandOf m' who.end calls' h h.held) new.1
      (subst (λ n. IsOwnBuffer (caller_id n e 0) m' held) (sym mine) now, sym at.numbered))
      (λ (old : (place ≢ put.0) × (get_elem? before place ≡ some hand)). rest place hand old.1
      (λ number. old.0 (once_at _ before place put.0 hand put.1 (subst (AreHandedOnce (length (lane_to m e).lane.lane.takers)) (sym same) (hands_once m e calls hands sound of)) old.1 at.here (number ∙ sym at.numbered))))
      (at_replaced before put.0 place hand (record put.1 { held = Some held }) (subst (λ (l : List Hand). get_elem? l place ≡ some hand) put.3 here))

-- step 1 of a call that another's turn refuses: what it was to give back is back in its place
module _ (who : CallerId) (m m' : LinkRings) (calls : List (Option CarriedCall)) (s : StepsCall who m m' calls calls) (hands taken back : Vec Hand Global) (of : AreHandsOf m who.end calls hands) (was_out : out_with calls who.number ≡ []) where
  -- the buffer that a caller gave back was its own
  given_own : (held : HeldBuffer) → IsTakenOut held.number who.number (Some held) hands.items taken.items → IsOwnBuffer (caller_id who.number who.end 0) m held × (holds (lane_to m who.end).lane.lane.held held.number who.number ≡ true)
  given_own held out = let at : IsHandAt hands.items held.number who.number out.0 out.1 = out.2 in
      let own : IsHandOf m who.end calls out.1 (Some held) = subst (λ (o : Option HeldBuffer). IsHandOf m who.end calls out.1 o) (sym out.3) (of.own out.0 out.1 at.here) in (
        subst (λ n. IsOwnBuffer (caller_id n who.end 0) m held) at.by_caller own.0,
        (λ i. holds (sym of.listed i) (sym at.numbered i) (sym at.by_caller i)) ∙ held_at hands.items out.0 out.1 at.here,
      )

  refused_own : (asked : Ask) (said : Answer) (found : ℕ) → said ≡ busy_answer found (Some asked) → MatchOption (given_back asked) (taken.items ≡ hands.items) (λ held. IsTakenOut held.number who.number (Some held) hands.items taken.items)
      → MatchOption (answer_buffer said) (back.items ≡ taken.items) (λ held. IsPutIn held taken.items back.items)
      → (map holding_of back.items ≡ map holding_of hands.items) × ((place : ℕ) (hand : Hand) → get_elem? back.items place ≡ some hand → IsHandOf m' who.end calls hand hand.held)
  refused_own (ask.Give held) said found is out put = let own = given_own held out in
      let in_place : IsPutIn held taken.items back.items = subst (λ (a : Answer). MatchOption (answer_buffer a) (back.items ≡ taken.items) (λ h. IsPutIn h taken.items back.items)) is put in
      let at : IsHandAt hands.items held.number who.number out.0 out.1 = out.2 in let listed = taken_listed held.number who.number (Some held) hands.items taken.items out in (
        put_listed held taken.items back.items in_place ∙ listed,
        λ place hand here. back_own who m m' calls calls s hands back of held taken.items place hand own.0 own.1 s.sound listed
            (λ k h there apart. ⊎_elim (λ (new : (k ≡ out.0) × (record out.1 { held = None } ≡ h)). absurd (apart (sym (ap (λ (x : Hand). x.number) new.1) ∙ at.numbered)))
            (λ (old : (k ≢ out.0) × (get_elem? hands.items k ≡ some h)). stays_in who m m' calls calls s hands back of was_out k h old.1)
            (at_replaced hands.items out.0 k h (record out.1 { held = None }) (subst (λ (l : List Hand). get_elem? l k ≡ some h) out.4 there))) in_place here,
      )
  refused_own asked said found is out put = let none : back.items ≡ taken.items = subst (λ (a : Answer). MatchOption (answer_buffer a) (back.items ≡ taken.items) (λ h. IsPutIn h taken.items back.items)) is put in
      (ap (map holding_of) (none ∙ out), all_stay who m m' calls calls s hands back of was_out (none ∙ out))

  pub refused_hands : (asked : Ask) (said : Answer) (found : ℕ) → said ≡ busy_answer found (Some asked) → MatchOption (given_back asked) (taken.items ≡ hands.items) (λ held. IsTakenOut held.number who.number (Some held) hands.items taken.items)
      → MatchOption (answer_buffer said) (back.items ≡ taken.items) (λ held. IsPutIn held taken.items back.items) → (lane_to m' who.end).lane.lane ≡ (lane_to m who.end).lane.lane → vec_capacity back ≡ vec_capacity hands → AreHandsOf m' who.end calls back
  refused_hands asked said found is out put same room = let own = refused_own asked said found is out put in
      hands_here who m m' calls calls s hands back of (own.0 ∙ (of.listed ∙ ap (λ (l : Lane). l.held) (sym same))) room own.1

  -- and there is a place for it
  pub refused_held : (asked : Ask) (said : Answer) (found : ℕ) → said ≡ busy_answer found (Some asked) → MatchOption (given_back asked) (taken.items ≡ hands.items) (λ held. IsTakenOut held.number who.number (Some held) hands.items taken.items)
      → IfSome (answer_buffer said) (λ held. holds (map holding_of taken.items) held.number held.caller ≡ true)
  refused_held (ask.Give held) said found is out = let own = given_own held out in let listed = taken_listed held.number who.number (Some held) hands.items taken.items out in
      subst (λ (a : Answer). IfSome (answer_buffer a) (λ h. holds (map holding_of taken.items) h.number h.caller ≡ true)) (sym is) ((λ i. holds ((listed ∙ of.listed) i) held.number (own.0.caller i)) ∙ own.1)
  refused_held asked said found is out = subst (λ (a : Answer). IfSome (answer_buffer a) (λ h. holds (map holding_of taken.items) h.number h.caller ≡ true)) (sym is) tt

-- the last step of a call: the buffer that it was handed is in its place
module _ (who : CallerId) (m m' : LinkRings) (calls calls' : List (Option CarriedCall)) (s : StepsCall who m m' calls calls') (hands back : Vec Hand Global) (of : AreHandsOf m who.end calls hands) where
  ended_own : (said : Answer) → IsOwnAnswer who m said → out_with calls who.number ≡ taken_buffer said → MatchOption (answer_buffer said) (back.items ≡ hands.items) (λ held. IsPutIn held hands.items back.items)
      → (map holding_of back.items ≡ map holding_of hands.items) × ((place : ℕ) (hand : Hand) → get_elem? back.items place ≡ some hand → IsHandOf m' who.end calls' hand hand.held)
  ended_own (answer.Took held verdict) own was_out put = (
    put_listed held hands.items back.items put,
    λ place hand here. back_own who m m' calls calls' s hands back of held hands.items place hand (record { lane = own.0.lane; caller = own.0.caller; message = own.0.message }) own.1 s.sound refl
        (λ k h there apart. hand_kept who m m' calls calls' s hands k h of there (λ mine has. absurd (apart (sym (only_one held.number h.number (subst (λ (out : List ℕ). HasNumber out h.number) was_out has)))))) put here,
  )
  ended_own (answer.GiveBusy found held) own was_out put = absurd own
  ended_own said own was_out put = (
    ap (map holding_of) put,
    λ place hand here. hand_kept who m m' calls calls' s hands place hand of (subst (λ (l : List Hand). get_elem? l place ≡ some hand) put here)
        (λ mine has. not_in_none hand.number (subst (λ (out : List ℕ). HasNumber out hand.number) was_out has)),
  )

  pub ended_hands : (said : Answer) → IsOwnAnswer who m said → out_with calls who.number ≡ taken_buffer said → MatchOption (answer_buffer said) (back.items ≡ hands.items) (λ held. IsPutIn held hands.items back.items)
      → (lane_to m' who.end).lane.lane ≡ (lane_to m who.end).lane.lane → vec_capacity back ≡ vec_capacity hands → AreHandsOf m' who.end calls' back
  ended_hands said own was_out put same room = let is = ended_own said own was_out put in
      hands_here who m m' calls calls' s hands back of (is.0 ∙ (of.listed ∙ ap (λ (l : Lane). l.held) (sym same))) room is.1

-- and there is a place for it
pub ended_held : (who : CallerId) (m : LinkRings) (calls : List (Option CarriedCall)) (hands : Vec Hand Global) (said : Answer) → AreHandsOf m who.end calls hands → IsOwnAnswer who m said → IfSome (answer_buffer said) (λ held. holds (map holding_of hands.items) held.number held.caller ≡ true)
ended_held who m calls hands (answer.Took held verdict) of own = (λ i. holds (of.listed i) held.number (own.0.caller i)) ∙ own.1
ended_held who m calls hands (answer.GiveBusy found held) of own = absurd own
ended_held who m calls hands said of own = tt

-- where a caller in no call wishes to give a buffer back, it is here
here_own : (m : LinkRings) (end : End) (calls : List (Option CarriedCall)) (hand : Hand) (number : ℕ) (held : Option HeldBuffer) → hand.number ≡ number → out_with calls hand.caller ≡ [] → IsHandOf m end calls hand held → IsSomeAnd held (λ buffer. buffer.number ≡ number)
here_own m end calls hand number (Some held) numbered out own = own.1 ∙ numbered
here_own m end calls hand number None numbered out own = not_in_none hand.number (subst (λ (o : List ℕ). HasNumber o hand.number) out own)

pub can_give : (m : LinkRings) (end : End) (calls : List (Option CarriedCall)) (hands : Vec Hand Global) (caller : ℕ) (wished : Wish) → AreHandsOf m end calls hands → out_with calls caller ≡ [] → IsFitWish wished (lane_to m end).lane.lane.held caller
    → CanGive hands.items caller wished
can_give m end calls hands caller (wish.Give number) of out fit = record {
  listed = ap (λ (held : List Holding). holds held number caller) of.listed ∙ fit;
  held = λ place hand at. here_own m end calls hand number hand.held at.numbered (subst (λ n. out_with calls n ≡ []) (sym at.by_caller) out) (of.own place hand at.here);
}
can_give m end calls hands caller wished of out fit = tt

-- and it is in the hands that its seat knows
one_of : (held : List Holding) (number caller : ℕ) → holds held number caller ≡ true → HasNumber (hands_of caller held) number
one_of [] number caller has = absurd (false≢true has)
one_of (h ∷ hs) number caller has = by (h.caller == caller) refl (or_cases ((h.number == number) && (h.caller == caller)) (holds hs number caller) has) (one_of hs number caller)
  where
    next : HasNumber (hands_of caller hs) number → HasNumber (h.number ∷ hands_of caller hs) number
    next found = (suc found.0, found.1)

    by : (b : Bool) → (h.caller == caller) ≡ b → (((h.number == number) && (h.caller == caller)) ≡ true) ⊎ (holds hs number caller ≡ true) → (holds hs number caller ≡ true → HasNumber (hands_of caller hs) number)
        → HasNumber (cond b (h.number ∷ hands_of caller hs) (hands_of caller hs)) number
    by true is (inl here) rest = (0, ap (λ (n : ℕ). some n) (eqb-true h.number number (and_parts _ _ here).0))
    by true is (inr there) rest = next (rest there)
    by false is (inl here) rest = absurd (false≢true (sym is ∙ (and_parts _ _ here).1))
    by false is (inr there) rest = rest there

same_number : (end : End) → incoming_number end ≡ lane_number end
same_number side.Host = refl
same_number side.Remote = refl

-- so a buffer that is here is one that its caller may give back
pub own_held : (who : CallerId) (m : LinkRings) (calls : List (Option CarriedCall)) (hands : Vec Hand Global) (held : HeldBuffer) (place : ℕ) (hand : Hand) (me : SeatState) → AreHandsOf m who.end calls hands
    → hands_of who.number (lane_to m who.end).lane.lane.held ≡ (pass_in me).hands → IsHandAt hands.items held.number who.number place hand → Some held ≡ hand.held → IsOwnAsk who (ask.Give held) me
own_held who m calls hands held place hand me of knows at here =
    let own : IsHandOf m who.end calls hand (Some held) = subst (λ (o : Option HeldBuffer). IsHandOf m who.end calls hand o) (sym here) (of.own place hand at.here) in record {
      lane = own.0.lane ∙ same_number who.end;
      caller = own.0.caller ∙ at.by_caller;
      numbered = subst (λ (hands : List ℕ). HasNumber hands held.number) knows
          (one_of (lane_to m who.end).lane.lane.held held.number who.number ((λ i. holds (sym of.listed i) (sym at.numbered i) (sym at.by_caller i)) ∙ held_at hands.items place hand at.here));
    }

-- and what goes out with a call that asks this
pub own_ask : (who : CallerId) (m : LinkRings) (calls : List (Option CarriedCall)) (hands taken : Vec Hand Global) (asked : Ask) (me : SeatState) → AreHandsOf m who.end calls hands → hands_of who.number (lane_to m who.end).lane.lane.held ≡ (pass_in me).hands
    → MatchOption (given_back asked) (taken.items ≡ hands.items) (λ held. IsTakenOut held.number who.number (Some held) hands.items taken.items) → IsOwnAsk who asked me
own_ask who m calls hands taken (ask.Give held) me of knows out = own_held who m calls hands held out.0 out.1 me of knows out.2 out.3
own_ask who m calls hands taken (ask.Send message) me of knows out = tt
own_ask who m calls hands taken ask.Take me of knows out = tt
own_ask who m calls hands taken (ask.Bind address) me of knows out = tt
own_ask who m calls hands taken (ask.Unbind address) me of knows out = tt
