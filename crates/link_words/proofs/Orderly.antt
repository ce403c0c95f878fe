-- In one view no two passes have one number, and no two calls have one side state: so a number and a side state tell the pass.
use Rattle.std.proofs.Common.{◌≡◌, ◌≢◌, ◌⊎◌, ℕ, zero, suc, Bool, true, false, eqb, eq-eqb, List, [], ◌∷◌, ◌++◌, set, get_or, unwrap_or, refl, sym, ap, ◌∙◌, subst, inl, inr, ⊎_elim, arith}
use Rattle.std.proofs.lemmas.Bool.{eqb-true}
use Rattle.std.specs.Prelude.{Option, Some, None, ◌&&◌, ◌||◌}
use mathlib.Core.Option.{some, some-ne-none}
use mathlib.Core.Path.{Path}
use lib.ListN.{get_elem?}
use base.Stored.{Coded}
use Rattle.rp_base.specs.declared.kinds.End.{End}
use Rattle.rp_base.specs.declared.kinds.End.TheVariants as side
use Rattle.lane_model.specs.declared.lane_links.LaneLink.{LaneLink}
use Rattle.lane_model.specs.declared.stages.Receiving.{Receiving}
use Rattle.lane_model.specs.declared.stages.Sending.{Sending}
use Rattle.lane_model.specs.declared.stages.Turn.{Turn}
use Rattle.lane_model.specs.declared.stages.Turn.TheVariants as turn
use Rattle.lane_model.specs.Desks.{DeskMeaning}
use Rattle.lane_model.specs.Lanes.{has_call, holder}
use Rattle.lane_model.specs.Links.{end_of, link_of}
use Rattle.lane_model.specs.Soundness.{SoundLink}
use Rattle.ring_core.specs.declared.states.RingState.{RingState}
use Rattle.ring_core.specs.RingSteps.{ring_form}
use Rattle.link_words.specs.declared.copies.LinkCopy.{LinkCopy}
use Rattle.link_words.specs.Codes.{copied}
use Rattle.link_words.specs.Histories.{HasHands, books_of, hands_of}
use Rattle.link_words.specs.declared.codes.DeskTables.{DeskTables}
use Rattle.link_words.specs.declared.rule.Call.{Call}
use Rattle.link_words.specs.declared.rule.Call.TheVariants.{Idle, Sends, Rests, Reclaims, EndsHeld, Receives, EndsReceive, EndsSend, EndsBoth, Reopens, Gathers}
use Rattle.link_words.specs.declared.rule.LaneSides.{LaneSides}
use Rattle.link_words.specs.declared.rule.LinkSizes.{LinkSizes}
use Rattle.link_words.specs.declared.rule.Pass.{Pass}
use Rattle.link_words.specs.declared.rule.Slot.{Slot}
use Rattle.link_words.specs.declared.rule.View.{View}
use Rattle.atomic_table.specs.Table.{State, Allows, stepped}
use Rattle.link_words.specs.Calls.{SeatState, has_side}
use Rattle.link_words.specs.Parts.{IsCallAt, HasGathered, has_for_manager}
use Rattle.link_words.specs.Passes.{all_but_last}
use Rattle.link_words.specs.PlacedDesks.{PlacedDesk}
use Rattle.link_words.specs.Rule.{WordsRule, PlacedRule}
use Rattle.link_words.specs.Sides.{has_slot, is_there}
use Rattle.link_words.specs.Turns.{LinkTurns, is_manager, turns_in}
use Rattle.link_words.specs.Words.{lane_to, other, receiver_slot, sender_slot}
use Rattle.link_words.specs.Orderly.{ArePassesIn, IsOrderly, IsPassIn, has_receive, has_send}

false-true : false ≡ true → ⊥
false-true e = absurd (cc)

-- who has the turn of a side state, and whether it is a receiver's that the manager has
abbrev holder_at : LinkTurns → ℕ → Option ℕ
holder_at t zero = holder (t.lanes side.Host).sender
holder_at t (suc zero) = holder (t.lanes side.Host).receiver
holder_at t (suc (suc zero)) = holder (t.lanes side.Remote).sender
holder_at t (suc (suc (suc zero))) = holder (t.lanes side.Remote).receiver
holder_at t (suc (suc (suc (suc n)))) = None

abbrev kept_at : LinkTurns → ℕ → Bool
kept_at t zero = false
kept_at t (suc zero) = is_manager (t.lanes side.Host).receiver
kept_at t (suc (suc zero)) = false
kept_at t (suc (suc (suc zero))) = is_manager (t.lanes side.Remote).receiver
kept_at t (suc (suc (suc (suc n)))) = false

-- a pass of this number whose call has this side state has its turn, or has it for the manager
abbrev HasTurnOf : LinkTurns → ℕ → Call → ℕ → Type 0
HasTurnOf t n call slot = ((holder_at t slot ≡ Some n) × (kept_at t slot ≡ false)) ⊎ ((e : End) × (slot ≡ receiver_slot e) × (has_for_manager e call ≡ true) × (kept_at t slot ≡ true))

or_elim : {C : Type 0} (a b : Bool) → (a || b) ≡ true → (a ≡ true → C) → (b ≡ true → C) → C
or_elim true b is f g = f refl
or_elim false b is f g = g is

and_both : (a b : Bool) → (a && b) ≡ true → (a ≡ true) × (b ≡ true)
and_both true b is = (refl, is)
and_both false b is = absurd (false-true is)

has_it : {A : Type 0} (o : Option A) → is_there o ≡ true → (x : A) × (o ≡ Some x)
has_it None is = absurd (false-true is)
has_it (Some x) is = (x, refl)

module _ (t : LinkTurns) (n : ℕ) (call : Call) where
  sender_side : (e : End) (slot : ℕ) → eqb (sender_slot e) slot ≡ true → holder (t.lanes e).sender ≡ Some n → HasTurnOf t n call slot
  sender_side side.Host slot here has = subst (HasTurnOf t n call) (eqb-true 0 slot here) (inl (has, refl))
  sender_side side.Remote slot here has = subst (HasTurnOf t n call) (eqb-true 2 slot here) (inl (has, refl))

  receiver_side : (e : End) (slot : ℕ) → eqb (receiver_slot e) slot ≡ true → holder (t.lanes e).receiver ≡ Some n → is_manager (t.lanes e).receiver ≡ false → HasTurnOf t n call slot
  receiver_side side.Host slot here has not = subst (HasTurnOf t n call) (eqb-true 1 slot here) (inl (has, not))
  receiver_side side.Remote slot here has not = subst (HasTurnOf t n call) (eqb-true 3 slot here) (inl (has, not))

  kept_side : (e : End) (slot : ℕ) → eqb (receiver_slot e) slot ≡ true → (t.lanes e).receiver ≡ turn.Manager → has_for_manager e call ≡ true → HasTurnOf t n call slot
  kept_side side.Host slot here is has = subst (HasTurnOf t n call) (eqb-true 1 slot here) (inr (side.Host, refl, has, ap is_manager is))
  kept_side side.Remote slot here is has = subst (HasTurnOf t n call) (eqb-true 3 slot here) (inr (side.Remote, refl, has, ap is_manager is))

module _ (t : LinkTurns) (p n slot : ℕ) where
  gathered_turn : (call : Call) (a b : LaneSides) → n ≡ 64 → HasGathered (t.lanes side.Host) a → HasGathered (t.lanes side.Remote) b → (is_there a.receiver ≡ true → has_for_manager side.Host call ≡ true) → (is_there b.receiver ≡ true → has_for_manager side.Remote call ≡ true)
      → has_slot slot a b ≡ true → HasTurnOf t n call slot
  gathered_turn call a b own ga gb fa fb has =
      or_elim (is_there a.sender && eqb slot 0) _ has
      (λ h. let c = and_both (is_there a.sender) (eqb slot 0) h in let x = has_it a.sender c.0 in sender_side t n call side.Host slot (swap 0 c.1) (ap holder (ga.sender x.0 x.1).0 ∙ ap Some (sym own)))
      (λ more. or_elim (is_there a.receiver && eqb slot 1) _ more
      (λ h. let c = and_both (is_there a.receiver) (eqb slot 1) h in let x = has_it a.receiver c.0 in kept_side t n call side.Host slot (swap 1 c.1) (ga.receiver x.0 x.1).0 (fa c.0))
      (λ rest. or_elim (is_there b.sender && eqb slot 2) _ rest
      (λ h. let c = and_both (is_there b.sender) (eqb slot 2) h in let x = has_it b.sender c.0 in sender_side t n call side.Remote slot (swap 2 c.1) (ap holder (gb.sender x.0 x.1).0 ∙ ap Some (sym own)))
      (λ h. let c = and_both (is_there b.receiver) (eqb slot 3) h in let x = has_it b.receiver c.0 in kept_side t n call side.Remote slot (swap 3 c.1) (gb.receiver x.0 x.1).0 (fb c.0))))
    where
      swap : (k : ℕ) → eqb slot k ≡ true → eqb k slot ≡ true
      swap k is = eq-eqb k slot (sym (eqb-true slot k is))

  turn_of : (call : Call) → IsCallAt t p n call → has_side slot call ≡ true → HasTurnOf t n call slot
  turn_of Idle at has = absurd (false-true has)
  turn_of (Rests e) at has = absurd (false-true has)
  turn_of (Sends e u x b) at has = sender_side t n (Sends e u x b) e slot has (ap holder at.1.0 ∙ at.1.1)
  turn_of (EndsSend e u x b) at has = sender_side t n (EndsSend e u x b) e slot has (ap holder at.1.0 ∙ at.1.1)
  turn_of (EndsBoth e u x b y) at has = or_elim (eqb (sender_slot e) slot) (eqb (receiver_slot (other e)) slot) has
      (λ h. sender_side t n (EndsBoth e u x b y) e slot h (ap holder at.1.0 ∙ at.1.1))
      (λ h. kept_side t n (EndsBoth e u x b y) (other e) slot h at.3 (both e))
    where
      both : (e : End) → has_for_manager (other e) (EndsBoth e u x b y) ≡ true
      both side.Host = refl
      both side.Remote = refl
  turn_of (Receives e u x b message) at has = receiver_side t n (Receives e u x b message) e slot has (ap holder at.1.0 ∙ at.1.1) (ap is_manager at.1.0 ∙ at.1.4)
  turn_of (EndsReceive e u x b message) at has = receiver_side t n (EndsReceive e u x b message) e slot has (ap holder at.1.0 ∙ at.1.1) (ap is_manager at.1.0 ∙ at.1.4)
  turn_of (Reclaims e x) at has = kept_side t n (Reclaims e x) e slot has at.1 (mine e)
    where
      mine : (e : End) → has_for_manager e (Reclaims e x) ≡ true
      mine side.Host = refl
      mine side.Remote = refl
  turn_of (EndsHeld e x) at has = kept_side t n (EndsHeld e x) e slot has at.1 (mine e)
    where
      mine : (e : End) → has_for_manager e (EndsHeld e x) ≡ true
      mine side.Host = refl
      mine side.Remote = refl
  turn_of (Reopens q inc a b) at has = gathered_turn (Reopens q inc a b) a b at.0 at.5 at.6 (λ _. refl) (λ _. refl) has
  turn_of (Gathers a b) at has = gathered_turn (Gathers a b) a b at.0 at.2 at.3 (λ is. is) (λ is. is) has

one_end : (e i : End) → receiver_slot e ≡ receiver_slot i → e ≡ i
one_end side.Host side.Host is = refl
one_end side.Host side.Remote is = absurd (omega (arith, is))
one_end side.Remote side.Host is = absurd (omega (arith, is))
one_end side.Remote side.Remote is = refl

some_number : (a b : ℕ) → Path (Option ℕ) (Some a) (Some b) → a ≡ b
some_number a b is = ap (λ o. unwrap_or o a) is

-- the turn that a call has is its caller's
caller_has : {C : Type 0} (t : Turn C) (n : ℕ) → holder t ≡ Some n → n ≢ 64 → has_call t n ≡ true
caller_has turn.Free n is own = absurd (cc)
caller_has (turn.Taken caller call) n is own = eq-eqb caller n (some_number caller n is)
caller_has (turn.Leaving caller ended) n is own = eq-eqb caller n (some_number caller n is)
caller_has turn.Manager n is own = absurd (own (sym (some_number 64 n is)))

other_twice : (e : End) → other (other e) ≡ e
other_twice side.Host = refl
other_twice side.Remote = refl

-- a pass is that of its caller in the state of the rule
module _ {B : Type 0} {kc : Coded B} {kz : DeskTables} (cd : Coded (PlacedDesk kc kz)) (desk : DeskMeaning (PlacedDesk kc kz)) (m : LaneLink (RingState (PlacedDesk kc kz))) (p n : ℕ) (sound : SoundLink (link_of (ring_form desk) m)) (own : n ≢ 64) where
  abbrev sender_of : End → Turn Sending
  sender_of e = (lane_to m e).lane.sender

  abbrev receiver_of : End → Turn Receiving
  receiver_of e = (lane_to m e).lane.receiver

  -- no caller sends that has the receiver's turn
  sends_alone : (e : End) → has_call (sender_of (other e)) n ≡ true → has_call (receiver_of e) n ≡ false
  sends_alone side.Host has = sound.hosts n has
  sends_alone side.Remote has = sound.remotes n has

  receives_alone : (e : End) → has_call (receiver_of e) n ≡ true → has_call (sender_of (other e)) n ≡ false
  receives_alone e has = go (has_call (sender_of (other e)) n) refl
    where
      go : (b : Bool) → has_call (sender_of (other e)) n ≡ b → has_call (sender_of (other e)) n ≡ false
      go true is = absurd (false-true (sym (sends_alone e is) ∙ has))
      go false is = is

  abbrev HasTurns : End → Call → Type 0
  HasTurns e call = (has_call (sender_of (other e)) n ≡ has_send call) × (has_call (receiver_of e) n ≡ has_receive call)

  one_user : (e i : End) → end_of m.callers n ≡ Some e → end_of m.callers n ≡ Some i → e ≡ i
  one_user e i a b = some_end e i (sym a ∙ b)
    where
      some_end : (e i : End) → Path (Option End) (Some e) (Some i) → e ≡ i
      some_end e i same = cc

  sending : (e : End) (call : Call) → has_call (sender_of e) n ≡ true → has_send call ≡ true → has_receive call ≡ false → HasTurns (other e) call
  sending e call has sends none = let here : has_call (sender_of (other (other e))) n ≡ true = ap (λ (i : End). has_call (sender_of i) n) (other_twice e) ∙ has in
      (here ∙ sym sends, sends_alone (other e) here ∙ sym none)

  turns_by : (call : Call) → IsCallAt (turns_in m) p n call → (e : End) → end_of m.callers n ≡ Some e → HasTurns e call
  turns_by Idle at e user = absurd (own at)
  turns_by (Rests i) at e user = subst (λ (x : End). HasTurns x (Rests i)) (one_user i e at.0 user) (at.1, at.2)
  turns_by (Sends i u x b) at e user = subst (λ (y : End). HasTurns y (Sends i u x b)) (one_user (other i) e at.0 user)
      (sending i (Sends i u x b) (caller_has (sender_of i) n (ap holder at.1.0 ∙ at.1.1) own) refl refl)
  turns_by (EndsSend i u x b) at e user = subst (λ (y : End). HasTurns y (EndsSend i u x b)) (one_user (other i) e at.0 user)
      (sending i (EndsSend i u x b) (caller_has (sender_of i) n (ap holder at.1.0 ∙ at.1.1) own) refl refl)
  turns_by (EndsBoth i u x b y) at e user = subst (λ (w : End). HasTurns w (EndsBoth i u x b y)) (one_user (other i) e at.0 user)
      (sending i (EndsBoth i u x b y) (caller_has (sender_of i) n (ap holder at.1.0 ∙ at.1.1) own) refl refl)
  turns_by (Receives i u x b message) at e user = let has = caller_has (receiver_of i) n (ap holder at.1.0 ∙ at.1.1) own in
      subst (λ (y : End). HasTurns y (Receives i u x b message)) (one_user i e at.0 user) (receives_alone i has, has)
  turns_by (EndsReceive i u x b message) at e user = let has = caller_has (receiver_of i) n (ap holder at.1.0 ∙ at.1.1) own in
      subst (λ (y : End). HasTurns y (EndsReceive i u x b message)) (one_user i e at.0 user) (receives_alone i has, has)
  turns_by (Reclaims i x) at e user = subst (λ (y : End). HasTurns y (Reclaims i x)) (one_user i e at.0 user) (at.4, ap (λ (t : Turn Receiving). has_call t n) at.1)
  turns_by (EndsHeld i x) at e user = subst (λ (y : End). HasTurns y (EndsHeld i x)) (one_user i e at.0 user) (at.5, ap (λ (t : Turn Receiving). has_call t n) at.1)
  turns_by (Reopens q inc a b) at e user = absurd (own at.0)
  turns_by (Gathers a b) at e user = absurd (own at.0)

  -- and so it is in the copy of that state
  sender_copied : (e : End) → (lane_to (copied cd m).state e).lane.sender ≡ sender_of e
  sender_copied side.Host = refl
  sender_copied side.Remote = refl

  receiver_copied : (e : End) → (lane_to (copied cd m).state e).lane.receiver ≡ receiver_of e
  receiver_copied side.Host = refl
  receiver_copied side.Remote = refl

  held_copied : (e : End) → (books_of (lane_to (copied cd m).state e)).held ≡ (books_of (lane_to m e)).held
  held_copied side.Host = refl
  held_copied side.Remote = refl

  pass_copied : (q : Pass) → q.number ≡ n → IsCallAt (turns_in m) p q.number q.call → HasHands m.callers (λ e. books_of (lane_to m e)) q.number q.hands → IsPassIn (copied cd m) q
  pass_copied q same at hands =
      let by_number = λ (e : End) (user : end_of m.callers q.number ≡ Some e). turns_by q.call (subst (λ (k : ℕ). IsCallAt (turns_in m) p k q.call) same at) e (ap (end_of m.callers) (sym same) ∙ user) in record {
        sends = λ e user. (λ i. has_call (sender_copied (other e) i) (same i)) ∙ (by_number e user).0;
        receives = λ e user. (λ i. has_call (receiver_copied e i) (same i)) ∙ (by_number e user).1;
        hands = λ e user. ap (hands_of q.number) (held_copied e) ∙ hands e user;
      }

module _ {B : Type 0} {kc : Coded B} {kz : DeskTables} (cd : Coded (PlacedDesk kc kz)) (desk : DeskMeaning (PlacedDesk kc kz)) (z : LinkSizes) where
  -- any view of the table is in order
  pub orderly : (st : State Slot View) → WordsRule cd desk z st → (id : ℕ) (v : View) → get_elem? st.views id ≡ some v → IsOrderly v
  orderly st (m, p, r) id v at = record {
    numbers = λ k l a b ha hb same. (r.numbers.places id k id l a b (v, at, ha) (v, at, hb) same).1;
    sides = λ slot k l a b ha hb sa sb.
        let one = turn_of (turns_in m) p a.number slot a.call (r.turns.calls id k a (v, at, ha)) sa in let two = turn_of (turns_in m) p b.number slot b.call (r.turns.calls id l b (v, at, hb)) sb in
        let same : a.number ≡ b.number = ⊎_elim
        (λ (x : (holder_at (turns_in m) slot ≡ Some a.number) × (kept_at (turns_in m) slot ≡ false)). ⊎_elim
        (λ (y : (holder_at (turns_in m) slot ≡ Some b.number) × (kept_at (turns_in m) slot ≡ false)). some_number a.number b.number (sym x.0 ∙ y.0))
        (λ (y : (e : End) × (slot ≡ receiver_slot e) × (has_for_manager e b.call ≡ true) × (kept_at (turns_in m) slot ≡ true)). absurd (false-true (sym x.1 ∙ y.3))) two)
        (λ (x : (e : End) × (slot ≡ receiver_slot e) × (has_for_manager e a.call ≡ true) × (kept_at (turns_in m) slot ≡ true)). ⊎_elim
        (λ (y : (holder_at (turns_in m) slot ≡ Some b.number) × (kept_at (turns_in m) slot ≡ false)). absurd (false-true (sym y.1 ∙ x.3)))
        (λ (y : (e : End) × (slot ≡ receiver_slot e) × (has_for_manager e b.call ≡ true) × (kept_at (turns_in m) slot ≡ true)).
        r.turns.keepers x.0 id k id l a b (v, at, ha) (v, at, hb) x.2 (subst (λ (e : End). has_for_manager e b.call ≡ true) (one_end y.0 x.0 (sym y.1 ∙ x.1)) y.2)) two) one in
        (r.numbers.places id k id l a b (v, at, ha) (v, at, hb) same).1;
    known = λ manages out k was place q there own. subst (λ (c : LinkCopy). IsPassIn c q) (sym ((r.numbers.manager id v at manages).copy k was out))
        (pass_copied cd desk m p q.number r.sound own q refl (r.turns.calls id place q (v, at, there)) (r.histories.hands id place q (v, at, there)));
  }

  now_here : (views : List View) (id : ℕ) (v w : View) → get_elem? views id ≡ some v → get_elem? (set views id w) id ≡ some w
  now_here [] id v w at = absurd (some-ne-none v (sym at))
  now_here (x ∷ xs) zero v w at = refl
  now_here (x ∷ xs) (suc id) v w at = now_here xs id v w at

  -- so each step can tell its seat that its view is in order
  pub orders : (slots id : ℕ) (me : SeatState) (i : ℕ) (f : ℕ → ℕ) (T : ℕ → SeatState → Type 0) → Allows (PlacedRule cd desk z) slots id me i f T → Allows (PlacedRule cd desk z) slots id me i f (λ y me'. T y me' × IsOrderly me'.0)
  orders slots id me i f T allows st kept long at wide = let a = allows st kept long at wide in
      (a.0, a.1, a.2, a.3, (a.4, orderly (record (stepped st i (f (get_or st.words i 0)) id me.1 a.0 a.1) { words = a.3.0 }) a.3.2 id a.0 (now_here st.views id me.0 a.0 at)))

-- passes of a view in order alone are in order
pub order_within : (v w : View) → ((k : ℕ) (p : Pass) → get_elem? w.passes k ≡ some p → get_elem? v.passes k ≡ some p) → ArePassesIn w → IsOrderly v → IsOrderly w
order_within v w within known order = record {
  numbers = λ k l p q hp hq same. order.numbers k l p q (within k p hp) (within l q hq) same;
  sides = λ slot k l p q hp hq sp sq. order.sides slot k l p q (within k p hp) (within l q hq) sp sq;
  known = known;
}

pub but_last_at : (ps : List Pass) (k : ℕ) (p : Pass) → get_elem? (all_but_last ps) k ≡ some p → get_elem? ps k ≡ some p
but_last_at [] k p at = absurd (some-ne-none p (sym at))
but_last_at (x ∷ []) k p at = absurd (some-ne-none p (sym at))
but_last_at (x ∷ y ∷ ps) zero p at = at
but_last_at (x ∷ y ∷ ps) (suc k) p at = but_last_at (y ∷ ps) k p at

pub none_behind : {A : Type 0} (xs ys : List A) → xs ++ ys ≡ [] → ys ≡ []
none_behind [] ys none = none
none_behind (x ∷ xs) ys none = absurd (cc)
