-- What each change does to the part on hands.
use Rattle.std.proofs.Common.{◌≡◌, ◌≢◌, ℕ, Bool, true, false, cond, eqb, not, ◌||◌, List, [], ◌∷◌, ◌++◌, length, refl, sym, ap, ◌∙◌, eq-eqb, ne_eqb, suc-ne-zero}
use Rattle.std.proofs.lemmas.Bool.{eqb-true}
use Rattle.std.specs.Prelude.{Option, Some, None}
use Rattle.rp_base.specs.declared.kinds.End.{End}
use Rattle.rp_base.specs.declared.kinds.End.TheVariants as side
use Rattle.lane_model.specs.declared.lane_links.LaneLink.{LaneLink}
use Rattle.lane_model.specs.declared.states.Holding.{Holding}
use Rattle.lane_model.specs.Crashes.{held_by_others, has_held}
use Rattle.lane_model.specs.Links.{end_of}
use Rattle.ring_core.specs.declared.states.RingState.{RingState}
use Rattle.link_words.specs.declared.rule.Pass.{Pass}
use Rattle.link_words.specs.Words.{lane_to, with_lane}
use Rattle.link_words.specs.Rule.{HandsOf}
use Rattle.link_words.specs.Histories.{hands_of}

-- a caller whose buffers are all given up holds nothing
pub hands_none : (c : ℕ) (held : List Holding) → hands_of c (held_by_others held c) ≡ []
hands_none c [] = refl
hands_none c (h ∷ hs) = go (hands_none c hs) (eqb h.caller c) refl
  where
    go : hands_of c (held_by_others hs c) ≡ [] → (b : Bool) → eqb h.caller c ≡ b → hands_of c (cond (not b) (h ∷ held_by_others hs c) (held_by_others hs c)) ≡ []
    go rec true is = rec
    go rec false is = ap (λ (y : Bool). cond y (h.number ∷ hands_of c (held_by_others hs c)) (hands_of c (held_by_others hs c))) is ∙ rec

-- and the others hold what they held
pub hands_others : (c k : ℕ) (held : List Holding) → c ≢ k → hands_of k (held_by_others held c) ≡ hands_of k held
hands_others c k [] apart = refl
hands_others c k (h ∷ hs) apart = go (hands_others c k hs apart) (eqb h.caller c) refl
  where
    go : hands_of k (held_by_others hs c) ≡ hands_of k hs → (b : Bool) → eqb h.caller c ≡ b → hands_of k (cond (not b) (h ∷ held_by_others hs c) (held_by_others hs c)) ≡ cond (eqb h.caller k) (h.number ∷ hands_of k hs) (hands_of k hs)
    go rec true is = rec ∙ ap (λ (y : Bool). cond y (h.number ∷ hands_of k hs) (hands_of k hs)) (sym (ne_eqb h.caller k (λ same. apart (sym (eqb-true h.caller c is) ∙ same))))
    go rec false is = ap (λ (l : List ℕ). cond (eqb h.caller k) (h.number ∷ l) l) rec

cond_append : (b : Bool) (x : ℕ) (xs ys : List ℕ) → cond b (x ∷ (xs ++ ys)) (xs ++ ys) ≡ cond b (x ∷ xs) xs ++ ys
cond_append true x xs ys = refl
cond_append false x xs ys = refl

append_none : (xs : List ℕ) → xs ++ [] ≡ xs
append_none [] = refl
append_none (x ∷ xs) = ap (λ (l : List ℕ). x ∷ l) (append_none xs)

hands_push : (k : ℕ) (held : List Holding) (new : Holding) → hands_of k (held ++ new ∷ []) ≡ hands_of k held ++ cond (eqb new.caller k) (new.number ∷ []) []
hands_push k [] new = refl
hands_push k (h ∷ hs) new = ap (λ (l : List ℕ). cond (eqb h.caller k) (h.number ∷ l) l) (hands_push k hs new) ∙ cond_append (eqb h.caller k) h.number (hands_of k hs) (cond (eqb new.caller k) (new.number ∷ []) [])

-- a message more in the hands of this caller, or of another
pub hands_more : (k : ℕ) (held : List Holding) (new : Holding) → new.caller ≡ k → hands_of k (held ++ new ∷ []) ≡ hands_of k held ++ new.number ∷ []
hands_more k held new is = hands_push k held new ∙ ap (λ (y : Bool). hands_of k held ++ cond y (new.number ∷ []) []) (eq-eqb new.caller k is)

pub hands_same : (k : ℕ) (held : List Holding) (new : Holding) → new.caller ≢ k → hands_of k (held ++ new ∷ []) ≡ hands_of k held
hands_same k held new apart = hands_push k held new ∙ (ap (λ (y : Bool). hands_of k held ++ cond y (new.number ∷ []) []) (ne_eqb new.caller k apart) ∙ append_none (hands_of k held))

-- nothing in a caller's hands: it holds nothing
pub none_held : (k : ℕ) (held : List Holding) → hands_of k held ≡ [] → has_held held k ≡ false
none_held k [] none = refl
none_held k (h ∷ hs) none = go (none_held k hs) (eqb h.caller k) refl none
  where
    go : (hands_of k hs ≡ [] → has_held hs k ≡ false) → (b : Bool) → eqb h.caller k ≡ b → cond b (h.number ∷ hands_of k hs) (hands_of k hs) ≡ [] → has_held (h ∷ hs) k ≡ false
    go rec true is nothing = absurd (suc-ne-zero (length (hands_of k hs)) (ap length nothing))
    go rec false is nothing = ap (λ (y : Bool). y || has_held hs k) is ∙ rec nothing

other_end : Option End → Option End → Bool
other_end (Some side.Host) (Some side.Remote) = true
other_end (Some side.Remote) (Some side.Host) = true
other_end (Some side.Host) (Some side.Host) = false
other_end (Some side.Remote) (Some side.Remote) = false
other_end None x = false
other_end (Some e) None = false

true-false : true ≡ false → ⊥
true-false e = absurd (cc)

-- the hands of a caller of this end, by the lane to it alone
pub hands_here : {D : Type 0} (m : LaneLink (RingState D)) (e : End) (s : RingState D) (q : Pass) → end_of m.callers q.number ≡ Some e → hands_of q.number s.lane.lane.held ≡ q.hands → HandsOf (with_lane m e s) q
unfolding other_end
hands_here m side.Host s q mine is side.Host user = is
hands_here m side.Host s q mine is side.Remote user = absurd (true-false (ap (other_end (Some side.Host)) (sym user ∙ mine)))
hands_here m side.Remote s q mine is side.Host user = absurd (true-false (ap (other_end (Some side.Host)) (sym mine ∙ user)))
hands_here m side.Remote s q mine is side.Remote user = is

pub hands_at : {D : Type 0} (m : LaneLink (RingState D)) (e : End) (q : Pass) → end_of m.callers q.number ≡ Some e → HandsOf m q → hands_of q.number (lane_to m e).lane.lane.held ≡ q.hands
hands_at m e q user has = has e user
