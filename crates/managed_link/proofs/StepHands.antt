-- What a step of a caller leaves of the buffers in the hands of the callers.
use Rattle.std.proofs.Common.{◌≡◌, ◌≢◌, ◌⊎◌, inl, inr, ⊎_elim, ℕ, zero, suc, ◌<◌, ◌≤◌, ◌==◌, ◌&&◌, length, map, true, List, [], ◌∷◌, ◌++◌, Option, Some, None, refl, sym, ap, subst, ◌∙◌, eq-eqb, arith}
use Rattle.std.specs.Prelude.{Vec, vec_capacity}
use Rattle.std.specs.Option.{option_map}
use Rattle.std.specs.declared.alloc.Global.{Global}
use Rattle.std.proofs.lemmas.Bool.{false≢true, and_from, cases_eq, or_left, or_right}
use mathlib.Core.Option.{some}
use lib.ListN.{get_elem?}
use Rattle.rp_base.specs.declared.kinds.End.{End}
use Rattle.rp_base.specs.declared.kinds.End.TheVariants as side
use Rattle.lane_model.specs.declared.states.Holding.{Holding}
use Rattle.lane_model.specs.HeldBuffers.{HeldBuffer}
use Rattle.lane_model.specs.Lanes.{holds}
use Rattle.lane_model.specs.Links.{end_of}
use Rattle.lane_model.specs.Soundness.{AreHandedOnce, AreUsers, IsUser, SoundLink, is_held}
use Rattle.link_words.specs.Passes.{HasNumber}
use Rattle.link_words.specs.Words.{lane_to, other}
use Rattle.split_ring.specs.declared.callers.CallerId.{CallerId}
use Rattle.split_ring.specs.Reclaims.{buffer_in, phase_of}
use Rattle.managed_link.specs.declared.call_slots.CarriedCall.{CarriedCall}
use Rattle.managed_link.specs.declared.hands.Hand.{Hand}
use Rattle.managed_link.specs.Hands.{holding_of}
use Rattle.managed_link.specs.Known.{LinkRings, lists_of}
use Rattle.managed_link.specs.Managed.{AreHandsOf, IsHandOf, call_of, caller_id}
use Rattle.managed_link.proofs.StepBooks.{BooksGrow, IsGrown, accepted_held, buffer_stays, lane_sound}

-- an element of a list is held, by a caller in use, and each number once
pub held_at : (hands : List Hand) (place : ℕ) (hand : Hand) → get_elem? hands place ≡ some hand → holds (map holding_of hands) hand.number hand.caller ≡ true
held_at [] place hand here = cc
held_at (h ∷ hs) zero hand here = let is : h ≡ hand = cc in
    or_left ((h.number == hand.number) && (h.caller == hand.caller)) _ (and_from _ _ (eq-eqb h.number hand.number (ap (λ (x : Hand). x.number) is)) (eq-eqb h.caller hand.caller (ap (λ (x : Hand). x.caller) is)))
held_at (h ∷ hs) (suc place) hand here = or_right ((h.number == hand.number) && (h.caller == hand.caller)) _ (held_at hs place hand here)

number_at : (hands : List Hand) (place : ℕ) (hand : Hand) → get_elem? hands place ≡ some hand → is_held (map holding_of hands) hand.number ≡ true
number_at [] place hand here = cc
number_at (h ∷ hs) zero hand here = let is : h ≡ hand = cc in or_left (h.number == hand.number) _ (eq-eqb h.number hand.number (ap (λ (x : Hand). x.number) is))
number_at (h ∷ hs) (suc place) hand here = or_right (h.number == hand.number) _ (number_at hs place hand here)

user_at : (callers : List (Option End)) (end : End) (hands : List Hand) (place : ℕ) (hand : Hand) → AreUsers callers end (map holding_of hands) → get_elem? hands place ≡ some hand → IsUser callers end hand.caller
user_at callers end [] place hand users here = cc
user_at callers end (h ∷ hs) zero hand users here = let is : h ≡ hand = cc in subst (λ (x : Hand). IsUser callers end x.caller) is users.0
user_at callers end (h ∷ hs) (suc place) hand users here = user_at callers end hs place hand users.1 here

pub once_at : (handed : ℕ) (hands : List Hand) (p q : ℕ) (h g : Hand) → AreHandedOnce handed (map holding_of hands) → get_elem? hands p ≡ some h → get_elem? hands q ≡ some g → h.number ≡ g.number → p ≡ q
once_at handed [] p q h g once first second same = cc
once_at handed (x ∷ xs) zero zero h g once first second same = refl
once_at handed (x ∷ xs) zero (suc q) h g once first second same = let is : x ≡ h = cc in
    absurd (false≢true (sym once.0 ∙ (ap (is_held (map holding_of xs)) (ap (λ (y : Hand). y.number) is ∙ same) ∙ number_at xs q g second)))
once_at handed (x ∷ xs) (suc p) zero h g once first second same = let is : x ≡ g = cc in
    absurd (false≢true (sym once.0 ∙ (ap (is_held (map holding_of xs)) (ap (λ (y : Hand). y.number) is ∙ sym same) ∙ number_at xs p h first)))
once_at handed (x ∷ xs) (suc p) (suc q) h g once first second same = ap suc (once_at handed xs p q h g once.2 first second same)

-- the last element of a list, or one before it
pub last_or_before : {X : Type 0} (xs : List X) (y : X) (k : ℕ) (x : X) → get_elem? (xs ++ y ∷ []) k ≡ some x → (get_elem? xs k ≡ some x) ⊎ (y ≡ x)
last_or_before [] y zero x here = inr (cc)
last_or_before [] y (suc k) x here = cc
last_or_before (z ∷ zs) y zero x here = inl here
last_or_before (z ∷ zs) y (suc k) x here = last_or_before zs y k x here

-- the buffer that a caller's call gives back or was handed
abbrev pub out_with : List (Option CarriedCall) → ℕ → List ℕ
out_with calls n = buffer_in (phase_of (option_map (λ (c : CarriedCall). c.call) (call_of calls n)))

-- the hands of an end, each of a number that was accepted and of a caller that is in use there
pub hand_below : (m : LinkRings) (end : End) (calls : List (Option CarriedCall)) (hands : Vec Hand Global) (place : ℕ) (hand : Hand) → SoundLink (lists_of m) → AreHandsOf m end calls hands → get_elem? hands.items place ≡ some hand
    → hand.number < length (lane_to m end).lane.lane.accepted
hand_below m end calls hands place hand sound of here = accepted_held m end hand.number hand.caller sound (ap (λ (held : List Holding). holds held hand.number hand.caller) (sym of.listed) ∙ held_at hands.items place hand here)

hand_user : (m : LinkRings) (end : End) (calls : List (Option CarriedCall)) (hands : Vec Hand Global) (place : ℕ) (hand : Hand) → SoundLink (lists_of m) → AreHandsOf m end calls hands → get_elem? hands.items place ≡ some hand
    → end_of m.callers hand.caller ≡ Some end
hand_user m end calls hands place hand sound of here = user_at m.callers end hands.items place hand (subst (AreUsers m.callers end) (sym of.listed) (lane_sound m sound end).users) here

pub hands_once : (m : LinkRings) (end : End) (calls : List (Option CarriedCall)) (hands : Vec Hand Global) → SoundLink (lists_of m) → AreHandsOf m end calls hands → AreHandedOnce (length (lane_to m end).lane.lane.takers) (map holding_of hands.items)
hands_once m end calls hands sound of = subst (AreHandedOnce (length (lane_to m end).lane.lane.takers)) (sym of.listed) (lane_sound m sound end).lane.holdings

hand_stays : (caller : ℕ) (m m' : LinkRings) (end : End) (calls calls' : List (Option CarriedCall)) (hand : Hand) (held : Option HeldBuffer) → IsGrown caller (lane_to m end).lane.lane (lane_to m' end).lane.lane → hand.number < length (lane_to m end).lane.lane.accepted
    → (HasNumber (out_with calls hand.caller) hand.number → HasNumber (out_with calls' hand.caller) hand.number) → IsHandOf m end calls hand held → IsHandOf m' end calls' hand held
hand_stays caller m m' end calls calls' hand (Some held) grown below out own =
    (buffer_stays caller (caller_id hand.caller end 0) m m' held grown (subst (λ k. k < length (lane_to m end).lane.lane.accepted) (sym own.1) below) own.0, own.1)
hand_stays caller m m' end calls calls' hand None grown below out own = out own

other_not : (e : End) → Some (other e) ≡ Some e → ⊥
other_not side.Host is = cc
other_not side.Remote is = cc

-- a step of this caller, and the calls before it and behind it
pub record StepsCall (who : CallerId) (m m' : LinkRings) (calls calls' : List (Option CarriedCall)) : Type 0 where
  pub user : end_of m.callers who.number ≡ Some who.end
  pub sound : SoundLink (lists_of m)
  pub grow : BooksGrow who m m'
  pub beside : (n : ℕ) → who.number ≢ n → call_of calls' n ≡ call_of calls n

module _ (who : CallerId) (m m' : LinkRings) (calls calls' : List (Option CarriedCall)) (s : StepsCall who m m' calls calls') where
  out_beside : (n number : ℕ) → who.number ≢ n → HasNumber (out_with calls n) number → HasNumber (out_with calls' n) number
  out_beside n number apart out = subst (λ (c : Option CarriedCall). HasNumber (buffer_in (phase_of (option_map (λ (x : CarriedCall). x.call) c))) number) (sym (s.beside n apart)) out

  -- the hands of the other end
  pub hands_beside : (hands : Vec Hand Global) → AreHandsOf m (other who.end) calls hands → AreHandsOf m' (other who.end) calls' hands
  hands_beside hands of = let e = other who.end in record {
    listed = of.listed ∙ sym s.grow.held;
    room = subst (λ k. k ≤ vec_capacity hands) (sym (s.grow.lanes e).capacity) of.room;
    own = λ place hand here. hand_stays who.number m m' e calls calls' hand hand.held (s.grow.lanes e) (hand_below m e calls hands place hand s.sound of here)
        (out_beside hand.caller hand.number (λ same. other_not who.end (sym (hand_user m e calls hands place hand s.sound of here) ∙ (ap (end_of m.callers) (sym same) ∙ s.user)))) (of.own place hand here);
  }

  -- a buffer in hand at this end that stays as it is, where the call has it still that had it
  pub hand_kept : (hands : Vec Hand Global) (place : ℕ) (hand : Hand) → AreHandsOf m who.end calls hands → get_elem? hands.items place ≡ some hand
      → (hand.caller ≡ who.number → HasNumber (out_with calls who.number) hand.number → HasNumber (out_with calls' who.number) hand.number) → IsHandOf m' who.end calls' hand hand.held
  hand_kept hands place hand of here out = hand_stays who.number m m' who.end calls calls' hand hand.held (s.grow.lanes who.end) (hand_below m who.end calls hands place hand s.sound of here)
      (⊎_elim (λ (mine : hand.caller ≡ who.number). λ has. subst (λ n. HasNumber (out_with calls' n) hand.number) (sym mine) (out mine (subst (λ n. HasNumber (out_with calls n) hand.number) mine has)))
      (λ (theirs : hand.caller ≡ who.number → ⊥). out_beside hand.caller hand.number (λ same. theirs (sym same))) (cases_eq hand.caller who.number)) (of.own place hand here)

  -- the hands of its own end
  pub hands_here : (hands hands' : Vec Hand Global) → AreHandsOf m who.end calls hands → map holding_of hands'.items ≡ (lane_to m' who.end).lane.lane.held → vec_capacity hands' ≡ vec_capacity hands
      → ((place : ℕ) (hand : Hand) → get_elem? hands'.items place ≡ some hand → IsHandOf m' who.end calls' hand hand.held) → AreHandsOf m' who.end calls' hands'
  hands_here hands hands' of listed room own = record {
    listed = listed;
    room = let cap = (s.grow.lanes who.end).capacity in let fits = of.room in omega (arith, cap, fits, room);
    own = own;
  }
