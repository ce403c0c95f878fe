-- Some pass has each turn that is the manager's: what keeps that.
use native.Mathlib.Decide.{ℕ_discrete}
use Rattle.std.proofs.Common.{◌≡◌, ◌≢◌, ◌⊎◌, ℕ, zero, suc, ◌+◌, ◌<◌, Bool, true, false, cond, eqb, List, [], ◌∷◌, ◌++◌, length, set, refl, sym, ap, ◌∙◌, subst, inl, inr, ⊎_elim, arith}
use Rattle.std.specs.Prelude.{Option, Some, None, slice_set}
use mathlib.Core.Option.{some, some-injective, some-ne-none}
use lib.ListN.{get_elem?}
use base.Stored.{Coded}
use Rattle.atomic_table.proofs.Lists.{at_last, at_longer, set_else, set_here}
use Rattle.rp_base.specs.declared.kinds.End.{End}
use Rattle.rp_base.specs.declared.kinds.End.TheVariants as side
use Rattle.rp_base.specs.declared.kinds.Era.{Era}
use Rattle.lane_laws.specs.Parts.{manager_leaves}
use Rattle.lane_model.specs.declared.calls.Wish.{Wish}
use Rattle.lane_model.specs.declared.calls.Wish.TheVariants as wish
use Rattle.lane_model.specs.declared.lane_links.LaneLink.{LaneLink}
use Rattle.lane_model.specs.declared.recoveries.LaneTurn.TheVariants as lane_turn
use Rattle.lane_model.specs.declared.stages.GiveStage.TheVariants as give_stage
use Rattle.lane_model.specs.declared.stages.Receiving.{Receiving}
use Rattle.lane_model.specs.declared.stages.SendStage.{SendStage}
use Rattle.lane_model.specs.declared.stages.SendStage.TheVariants as stage
use Rattle.lane_model.specs.declared.stages.Sending.{Sending}
use Rattle.lane_model.specs.declared.stages.TakeStage.TheVariants as take_stage
use Rattle.lane_model.specs.declared.stages.Turn.{Turn}
use Rattle.lane_model.specs.declared.stages.Turn.TheVariants as turn
use Rattle.lane_model.specs.declared.stages.Work.{Work}
use Rattle.lane_model.specs.declared.stages.Work.TheVariants as work
use Rattle.lane_model.specs.declared.states.Lane.{Lane}
use Rattle.lane_model.specs.declared.states.LaneState.{LaneState}
use Rattle.lane_model.specs.Desks.{DeskMeaning}
use Rattle.lane_model.specs.Lanes.{has_call, is_live_in, taken_by}
use Rattle.lane_model.specs.Links.{Lanes, end_of, lanes_of, with_lanes, with_caller, free_number, on_lanes, lanes_step, send_later, receive_later}
use Rattle.lane_model.specs.Receives.{receiver_step, receive_step}
use Rattle.lane_model.specs.Sends.{sender_step, send_step}
use Rattle.ring_core.specs.declared.states.RingState.{RingState}
use Rattle.ring_core.specs.RingSteps.{ring_form}
use Rattle.link_words.specs.declared.codes.DeskTables.{DeskTables}
use Rattle.link_words.specs.declared.rule.Call.{Call}
use Rattle.link_words.specs.declared.rule.Call.TheVariants.{Rests, Reopens, Gathers}
use Rattle.link_words.specs.declared.rule.LaneSides.{LaneSides}
use Rattle.link_words.specs.declared.rule.Pass.{Pass}
use Rattle.link_words.specs.declared.rule.ReceiverSide.{ReceiverSide}
use Rattle.link_words.specs.declared.rule.SenderSide.{SenderSide}
use Rattle.link_words.specs.declared.rule.View.{View}
use Rattle.link_words.specs.Deeds.{Deed, Nothing, EndsCall, ManagerTakes, ManagerLeaves, LeavesTurn, Opens, Enlists, Frees, Steps, Closes, after_deed, lanes_after_end, after_leave_without, AreManagers}
use Rattle.link_words.specs.Parts.{HasKeepers, IsKept, has_for_manager, has_sender_for_manager}
use Rattle.link_words.specs.Passes.{PassAt, Mover, all_but_last, last_pass_only, only_last, spent_view, with_passes_from, without_last, without_pass}
use Rattle.link_words.specs.PlacedDesks.{PlacedDesk}
use Rattle.link_words.specs.Reopens.{both_sides}
use Rattle.link_words.specs.Turns.{LinkTurns, is_manager, turns_in}
use Rattle.link_words.specs.Words.{lane_to, with_lane}
use Rattle.link_words.proofs.Frames.{at_add}

true-false : true ≡ false → ⊥
true-false e = absurd (cc)

within : {A : Type 0} (l : List A) (i : ℕ) (a : A) → get_elem? l i ≡ some a → i < length l
within [] i a at = absurd (some-ne-none a (sym at))
within (x ∷ xs) zero a at = omega arith
within (x ∷ xs) (suc i) a at = let rec = within xs i a at in omega (arith, rec)

-- two calls that have the same turns for the manager
abbrev pub SameMinds : Call → Call → Type 0
SameMinds before after = ((i : End) → has_sender_for_manager i before ≡ has_sender_for_manager i after) × ((i : End) → has_for_manager i before ≡ has_for_manager i after)

-- each turn that is the manager's then was before
pub record WereBefore (t t' : LinkTurns) : Type 0 where
  pub senders : (e : End) → (t'.lanes e).sender ≡ turn.Manager → (t.lanes e).sender ≡ turn.Manager
  pub receivers : (e : End) → (t'.lanes e).receiver ≡ turn.Manager → (t.lanes e).receiver ≡ turn.Manager

pub keepers_turns : (t t' : LinkTurns) (views : List View) → WereBefore t t' → HasKeepers t views → HasKeepers t' views
keepers_turns t t' views were old = record { senders = λ e is. old.senders e (were.senders e is); receivers = λ e is. old.receivers e (were.receivers e is) }

module _ (views : List View) (id : ℕ) (v u : View) (o : Mover v) (w : Pass) (at : get_elem? views id ≡ some v) (is : u.passes ≡ set v.passes o.place w) where
  view_here : get_elem? (set views id u) id ≡ some u
  view_here = set_here views id u (within views id v at)

  -- the new pass stands where the old one stood
  moved_here : PassAt (set views id u) id o.place w
  moved_here = (u, view_here, ap (λ (ps : List Pass). get_elem? ps o.place) is ∙ set_here v.passes o.place w (within v.passes o.place o.pass o.here))

  -- a pass is there still, or is the one that moved
  still_or : (j l : ℕ) (q : Pass) → PassAt views j l q → PassAt (set views id u) j l q ⊎ (q ≡ o.pass)
  still_or j l q there = go (ℕ_discrete j id) (ℕ_discrete l o.place)
    where
      go : Dec (j ≡ id) → Dec (l ≡ o.place) → PassAt (set views id u) j l q ⊎ (q ≡ o.pass)
      go (no apart) d = inl (there.0, set_else views id j u apart ∙ there.1, there.2)
      go (yes same) (no apart) =
          let one : there.0 ≡ v = some-injective there.0 v (sym there.1 ∙ (ap (get_elem? views) same ∙ at)) in
          inl (u, ap (get_elem? (set views id u)) same ∙ view_here, ap (λ (ps : List Pass). get_elem? ps l) is ∙ (set_else v.passes o.place l w apart ∙ subst (λ (x : View). get_elem? x.passes l ≡ some q) one there.2))
      go (yes same) (yes here) =
          let one : there.0 ≡ v = some-injective there.0 v (sym there.1 ∙ (ap (get_elem? views) same ∙ at)) in
          inr (some-injective q o.pass (sym (subst (λ (x : View). get_elem? x.passes l ≡ some q) one there.2) ∙ (ap (get_elem? v.passes) here ∙ o.here)))

  kept_set : (F : Call → Bool) → (F o.pass.call ≡ true → F w.call ≡ true) → IsKept F views → IsKept F (set views id u)
  kept_set F loud (j, l, q, there, has) = ⊎_elim
      (λ (still : PassAt (set views id u) j l q). (j, l, q, still, has))
      (λ (moved : q ≡ o.pass). (id, o.place, w, moved_here, loud (ap (λ (p : Pass). F p.call) (sym moved) ∙ has)))
      (still_or j l q there)

  -- each turn that is the manager's then was before, or the call that moved has it now; and that call has still what it had
  pub keepers_of : (t t' : LinkTurns) → ((e : End) → (t'.lanes e).sender ≡ turn.Manager → ((t.lanes e).sender ≡ turn.Manager) ⊎ (has_sender_for_manager e w.call ≡ true))
      → ((e : End) → (t'.lanes e).receiver ≡ turn.Manager → ((t.lanes e).receiver ≡ turn.Manager) ⊎ (has_for_manager e w.call ≡ true))
      → ((e : End) → (t'.lanes e).sender ≡ turn.Manager → has_sender_for_manager e o.pass.call ≡ true → has_sender_for_manager e w.call ≡ true)
      → ((e : End) → (t'.lanes e).receiver ≡ turn.Manager → has_for_manager e o.pass.call ≡ true → has_for_manager e w.call ≡ true) → HasKeepers t views → HasKeepers t' (set views id u)
  keepers_of t t' sends takes loud_sender loud old = record {
    senders = λ e mine. ⊎_elim
        (λ (was : (t.lanes e).sender ≡ turn.Manager). kept_set (has_sender_for_manager e) (loud_sender e mine) (old.senders e was))
        (λ (now : has_sender_for_manager e w.call ≡ true). (id, o.place, w, moved_here, now))
        (sends e mine);
    receivers = λ e mine. ⊎_elim
        (λ (was : (t.lanes e).receiver ≡ turn.Manager). kept_set (has_for_manager e) (loud e mine) (old.receivers e was))
        (λ (now : has_for_manager e w.call ≡ true). (id, o.place, w, moved_here, now))
        (takes e mine);
  }

  -- the same, where the call that moved has the turns that it had
  pub keepers_same : (t t' : LinkTurns) → WereBefore t t' → SameMinds o.pass.call w.call → HasKeepers t views → HasKeepers t' (set views id u)
  keepers_same t t' were same = keepers_of t t' (λ e mine. inl (were.senders e mine)) (λ e mine. inl (were.receivers e mine)) (λ e mine has. sym (same.0 e) ∙ has) (λ e mine has. sym (same.1 e) ∙ has)

-- each pass of the old views is in the new ones, or is that of a caller at rest
abbrev pub Onto : List View → List View → Type 0
Onto views views' = (j l : ℕ) (q : Pass) → PassAt views j l q → ((i : ℕ) × (k : ℕ) × PassAt views' i k q) ⊎ ((e : End) × (q.call ≡ Rests e))

onto_kept : (views views' : List View) (F : Call → Bool) → ((e : End) → F (Rests e) ≡ false) → Onto views views' → IsKept F views → IsKept F views'
onto_kept views views' F never onto (j, l, q, there, has) = ⊎_elim
    (λ (to : (i : ℕ) × (k : ℕ) × PassAt views' i k q). (to.0, to.1, q, to.2, has))
    (λ (rests : (e : End) × (q.call ≡ Rests e)). absurd (true-false (sym has ∙ (ap F rests.1 ∙ never rests.0))))
    (onto j l q there)

pub keepers_onto : (t : LinkTurns) (views views' : List View) → Onto views views' → HasKeepers t views → HasKeepers t views'
keepers_onto t views views' onto old = record {
  senders = λ e is. onto_kept views views' (has_sender_for_manager e) (λ i. refl) onto (old.senders e is);
  receivers = λ e is. onto_kept views views' (has_for_manager e) (λ i. refl) onto (old.receivers e is);
}

-- where passes go
module _ (views : List View) (id : ℕ) (v : View) (at : get_elem? views id ≡ some v) where
  view_is : (j : ℕ) (y : View) → get_elem? views j ≡ some y → j ≡ id → y ≡ v
  view_is j y there same = some-injective y v (sym there ∙ (ap (get_elem? views) same ∙ at))

  -- a view in which each pass stands somewhere
  onto_view : (u : View) → ((l : ℕ) (q : Pass) → get_elem? v.passes l ≡ some q → ((k : ℕ) × (get_elem? u.passes k ≡ some q)) ⊎ ((e : End) × (q.call ≡ Rests e))) → Onto views (set views id u)
  onto_view u each j l q there = go (ℕ_discrete j id)
    where
      go : Dec (j ≡ id) → ((i : ℕ) × (k : ℕ) × PassAt (set views id u) i k q) ⊎ ((e : End) × (q.call ≡ Rests e))
      go (no apart) = inl (j, l, (there.0, set_else views id j u apart ∙ there.1, there.2))
      go (yes same) = ⊎_elim
          (λ (to : (k : ℕ) × (get_elem? u.passes k ≡ some q)). inl (id, to.0, (u, set_here views id u (within views id v at), to.1)))
          (λ (rests : (e : End) × (q.call ≡ Rests e)). inr rests)
          (each l q (subst (λ (x : View). get_elem? x.passes l ≡ some q) (view_is j there.0 there.1 same) there.2))

  pub onto_same : (u : View) → u.passes ≡ v.passes → Onto views (set views id u)
  onto_same u same = onto_view u (λ l q here. inl (l, ap (λ (ps : List Pass). get_elem? ps l) same ∙ here))

  pub onto_longer : (u : View) (p : Pass) → u.passes ≡ v.passes ++ p ∷ [] → Onto views (set views id u)
  onto_longer u p longer = onto_view u (λ l q here. inl (l, ap (λ (ps : List Pass). get_elem? ps l) longer ∙ at_longer v.passes (p ∷ []) l q here))

  pub onto_without : (u : View) (o : Mover v) (e : End) → o.pass.call ≡ Rests e → u.passes ≡ without_pass o.place v.passes → Onto views (set views id u)
  onto_without u o e rests without = onto_view u (λ l q here. go l q here (ℕ_discrete l o.place))
    where
      left : (k : ℕ) (ps : List Pass) (l : ℕ) (q : Pass) → get_elem? ps l ≡ some q → l ≢ k → (i : ℕ) × (get_elem? (without_pass k ps) i ≡ some q)
      left k [] l q here apart = absurd (some-ne-none q (sym here))
      left zero (p ∷ ps) zero q here apart = absurd (apart refl)
      left zero (p ∷ ps) (suc l) q here apart = (l, here)
      left (suc k) (p ∷ ps) zero q here apart = (0, here)
      left (suc k) (p ∷ ps) (suc l) q here apart = let rec = left k ps l q here (λ same. apart (ap suc same)) in (suc rec.0, rec.1)

      go : (l : ℕ) (q : Pass) → get_elem? v.passes l ≡ some q → Dec (l ≡ o.place) → ((k : ℕ) × (get_elem? u.passes k ≡ some q)) ⊎ ((e : End) × (q.call ≡ Rests e))
      go l q here (no apart) = let to = left o.place v.passes l q here apart in inl (to.0, ap (λ (ps : List Pass). get_elem? ps to.0) without ∙ to.1)
      go l q here (yes same) = inr (e, ap (λ (p : Pass). p.call) (some-injective q o.pass (sym here ∙ (ap (get_elem? v.passes) same ∙ o.here))) ∙ rests)

  front_or_last : (ps : List Pass) (l : ℕ) (q : Pass) → get_elem? ps l ≡ some q → (get_elem? (all_but_last ps) l ≡ some q) ⊎ (get_elem? (last_pass_only ps) 0 ≡ some q)
  front_or_last [] l q here = absurd (some-ne-none q (sym here))
  front_or_last (x ∷ []) zero q here = inr here
  front_or_last (x ∷ []) (suc l) q here = absurd (some-ne-none q (sym here))
  front_or_last (x ∷ y ∷ ys) zero q here = inl here
  front_or_last (x ∷ y ∷ ys) (suc l) q here = front_or_last (y ∷ ys) l q here

  pub onto_split : Onto views (set views id (without_last v) ++ only_last v ∷ [])
  onto_split j l q there = go (ℕ_discrete j id)
    where
      go : Dec (j ≡ id) → ((i : ℕ) × (k : ℕ) × PassAt (set views id (without_last v) ++ only_last v ∷ []) i k q) ⊎ ((e : End) × (q.call ≡ Rests e))
      go (no apart) = inl (j, l, (there.0, at_longer (set views id (without_last v)) (only_last v ∷ []) j there.0 (set_else views id j (without_last v) apart ∙ there.1), there.2))
      go (yes same) = ⊎_elim
          (λ (front : get_elem? (all_but_last v.passes) l ≡ some q). inl (id, l, (without_last v, at_longer (set views id (without_last v)) (only_last v ∷ []) id (without_last v) (set_here views id (without_last v) (within views id v at)), front)))
          (λ (last : get_elem? (last_pass_only v.passes) 0 ≡ some q). inl (length (set views id (without_last v)), 0, (only_last v, at_last (set views id (without_last v)) (only_last v) (length (set views id (without_last v))) refl, last)))
          (front_or_last v.passes l q (subst (λ (x : View). get_elem? x.passes l ≡ some q) (view_is j there.0 there.1 same) there.2))

  -- another seat's passes come, or its caller ends
  pub onto_join : (other : ℕ) (w u : View) → other ≢ id → get_elem? views other ≡ some w → ((l : ℕ) (q : Pass) → get_elem? v.passes l ≡ some q → get_elem? u.passes l ≡ some q)
      → ((l : ℕ) (q : Pass) → get_elem? w.passes l ≡ some q → ((k : ℕ) × (get_elem? u.passes k ≡ some q)) ⊎ ((e : End) × (q.call ≡ Rests e))) → Onto views (set (set views id u) other spent_view)
  onto_join other w u apart seen mine theirs j l q there = go (ℕ_discrete j id) (ℕ_discrete j other)
    where
      home : get_elem? (set (set views id u) other spent_view) id ≡ some u
      home = set_else (set views id u) other id spent_view (λ same. apart (sym same)) ∙ set_here views id u (within views id v at)

      go : Dec (j ≡ id) → Dec (j ≡ other) → ((i : ℕ) × (k : ℕ) × PassAt (set (set views id u) other spent_view) i k q) ⊎ ((e : End) × (q.call ≡ Rests e))
      go (yes same) d = inl (id, l, (u, home, mine l q (subst (λ (x : View). get_elem? x.passes l ≡ some q) (view_is j there.0 there.1 same) there.2)))
      go (no a) (no b) = inl (j, l, (there.0, set_else (set views id u) other j spent_view b ∙ (set_else views id j u a ∙ there.1), there.2))
      go (no a) (yes same) =
          let one : there.0 ≡ w = some-injective there.0 w (sym there.1 ∙ (ap (get_elem? views) same ∙ seen)) in ⊎_elim
          (λ (to : (k : ℕ) × (get_elem? u.passes k ≡ some q)). inl (id, to.0, (u, home, to.1)))
          (λ (rests : (e : End) × (q.call ≡ Rests e)). inr rests)
          (theirs l q (subst (λ (x : View). get_elem? x.passes l ≡ some q) one there.2))

  pub onto_joined : (other : ℕ) (w : View) → other ≢ id → get_elem? views other ≡ some w → Onto views (set (set views id (with_passes_from v w)) other spent_view)
  onto_joined other w apart seen = onto_join other w (with_passes_from v w) apart seen (λ l q here. at_longer v.passes w.passes l q here) (λ l q here. inl (length v.passes + l, at_add v.passes w.passes l ∙ here))

  pub onto_ended : (other : ℕ) (w u : View) (p : Pass) (e : End) → other ≢ id → get_elem? views other ≡ some w → u.passes ≡ v.passes → w.passes ≡ p ∷ [] → p.call ≡ Rests e → Onto views (set (set views id u) other spent_view)
  onto_ended other w u p e apart seen same only rests = onto_join other w u apart seen (λ l q here. ap (λ (ps : List Pass). get_elem? ps l) same ∙ here)
      (λ l q here. inr (e, one l q (ap (λ (ps : List Pass). get_elem? ps l) (sym only) ∙ here)))
    where
      one : (l : ℕ) (q : Pass) → get_elem? (p ∷ []) l ≡ some q → q.call ≡ Rests e
      one zero q here = ap (λ (x : Pass). x.call) (sym (some-injective p q here)) ∙ rests
      one (suc l) q here = absurd (some-ne-none q (sym here))

-- a manager that has all side states has the four turns, as in a reopening
pub both_minds : (q inc : ℕ) (g h : LaneSides) (x u : SenderSide) (y w : ReceiverSide) → SameMinds (Reopens q inc g h) (Gathers (both_sides x y) (both_sides u w))
both_minds q inc g h x u y w = ((λ i. sends i), λ i. takes i)
  where
    sends : (i : End) → has_sender_for_manager i (Reopens q inc g h) ≡ has_sender_for_manager i (Gathers (both_sides x y) (both_sides u w))
    sends side.Host = refl
    sends side.Remote = refl

    takes : (i : End) → has_for_manager i (Reopens q inc g h) ≡ has_for_manager i (Gathers (both_sides x y) (both_sides u w))
    takes side.Host = refl
    takes side.Remote = refl

-- a lane of which each turn that is the manager's then was before
record IsOlder {D : Type 0} (s s' : LaneState D) : Type 0 where
  sender : s'.sender ≡ turn.Manager → s.sender ≡ turn.Manager
  receiver : s'.receiver ≡ turn.Manager → s.receiver ≡ turn.Manager

unchanged : {D : Type 0} (s : LaneState D) → IsOlder s s
unchanged s = record { sender = λ is. is; receiver = λ is. is }

pub not_manager : {A C : Type 0} (t : Turn C) → is_manager t ≡ false → t ≡ turn.Manager → A
not_manager t none is = absurd (true-false (sym (ap is_manager is) ∙ none))

plain_either : {C : Type 0} (b : Bool) (x y : Turn C) → is_manager x ≡ false → is_manager y ≡ false → is_manager (cond b x y) ≡ false
plain_either true x y one two = one
plain_either false x y one two = two

older_either : {D : Type 0} (b : Bool) (s x y : LaneState D) → IsOlder s x → IsOlder s y → IsOlder s (cond b x y)
older_either true s x y one two = one
older_either false s x y one two = two

sends : {D : Type 0} (era : Era) (l : Lane) (c follows : ℕ) (message : List ℕ) (q : SendStage) (r : Turn Receiving) (d : D) → let x : Sending = record { follows = follows; message = message; stage = q } in
    let s : LaneState D = record { lane = l; sender = turn.Taken c x; receiver = r; desk = d } in IsOlder s (send_step era s c x q).state
sends era l c follows message stage.Turn r d = record { sender = not_manager _ (plain_either (is_live_in era follows) _ _ refl refl); receiver = λ is. is }
sends era l c follows message stage.Era r d = record { sender = not_manager _ (plain_either (eqb (length l.accepted) (l.returned + l.capacity)) _ _ refl (plain_either (eqb (length l.accepted) l.book) _ _ refl refl)); receiver = λ is. is }
sends era l c follows message stage.Look r d = record { sender = not_manager _ refl; receiver = λ is. is }
sends era l c follows message stage.Buffer r d = record { sender = not_manager _ refl; receiver = λ is. is }
sends era l c follows message stage.Entry r d = record { sender = not_manager _ refl; receiver = λ is. is }

sent : {D : Type 0} (era : Era) (l : Lane) (t : Turn Sending) (r : Turn Receiving) (d : D) → let s : LaneState D = record { lane = l; sender = t; receiver = r; desk = d } in IsOlder s (sender_step era s).state
sent era l turn.Free r d = unchanged _
sent era l (turn.Taken c x) r d = sends era l c x.follows x.message x.stage r d
sent era l (turn.Leaving c x) r d = record { sender = not_manager _ refl; receiver = λ is. is }
sent era l turn.Manager r d = unchanged _

receives : {D : Type 0} (desk : DeskMeaning D) (era : Era) (l : Lane) (t : Turn Sending) (c follows : ℕ) (w : Work) (d : D) → let x : Receiving = record { follows = follows; work = w } in
    let s : LaneState D = record { lane = l; sender = t; receiver = turn.Taken c x; desk = d } in IsOlder s (receive_step desk era s c x w).state
receives desk era l t c follows (work.Take take_stage.Turn) d = record { sender = λ is. is; receiver = not_manager _ (plain_either (is_live_in era follows) _ _ refl refl) }
receives desk era l t c follows (work.Take take_stage.Era) d = record { sender = λ is. is; receiver = not_manager _ (plain_either (eqb (length l.takers) (length l.accepted)) _ _ refl refl) }
receives desk era l t c follows (work.Take take_stage.Look) d = record { sender = λ is. is; receiver = not_manager _ refl }
receives desk era l t c follows (work.Take take_stage.Buffer) d = older_either (is_live_in era follows) _ _ _ (record { sender = λ is. is; receiver = not_manager _ refl }) (record { sender = λ is. is; receiver = not_manager _ refl })
receives desk era l t c follows (work.Give given give_stage.Turn) d = record { sender = λ is. is; receiver = not_manager _ refl }
receives desk era l t c follows (work.Give given give_stage.Entry) d = record { sender = λ is. is; receiver = not_manager _ refl }
receives desk era l t c follows (work.Bind address) d = older_either (is_live_in era follows) _ _ _ (record { sender = λ is. is; receiver = not_manager _ refl }) (record { sender = λ is. is; receiver = not_manager _ refl })
receives desk era l t c follows (work.Unbind address) d = older_either (is_live_in era follows) _ _ _ (record { sender = λ is. is; receiver = not_manager _ refl }) (record { sender = λ is. is; receiver = not_manager _ refl })

received : {D : Type 0} (desk : DeskMeaning D) (era : Era) (l : Lane) (t : Turn Sending) (r : Turn Receiving) (d : D) → let s : LaneState D = record { lane = l; sender = t; receiver = r; desk = d } in IsOlder s (receiver_step desk era s).state
received desk era l t turn.Free d = unchanged _
received desk era l t (turn.Taken c x) d = receives desk era l t c x.follows x.work d
received desk era l t (turn.Leaving c x) d = record { sender = λ is. is; receiver = not_manager _ refl }
received desk era l t turn.Manager d = unchanged _

was_taken : {C : Type 0} (t : Turn C) (caller : ℕ) (call : C) → taken_by t caller call ≡ turn.Manager → t ≡ turn.Manager
was_taken turn.Free caller call is = not_manager _ refl is
was_taken (turn.Taken c x) caller call is = is
was_taken (turn.Leaving c x) caller call is = is
was_taken turn.Manager caller call is = refl

was_ended : {C : Type 0} (b : Bool) (t : Turn C) → cond b turn.Free t ≡ turn.Manager → t ≡ turn.Manager
was_ended true t is = not_manager turn.Free refl is
was_ended false t is = is

never_left : {A C : Type 0} (t : Turn C) → manager_leaves t ≡ turn.Manager → A
never_left turn.Free is = not_manager turn.Free refl is
never_left (turn.Taken c x) is = not_manager (turn.Taken c x) refl is
never_left (turn.Leaving c x) is = not_manager (turn.Leaving c x) refl is
never_left turn.Manager is = not_manager turn.Free refl is

-- the deeds that take no turn for the manager
abbrev pub takes_none : Deed → Bool
takes_none (Steps caller follows wished) = true
takes_none (Closes inc) = true
takes_none (EndsCall e caller) = true
takes_none Opens = false
takes_none (LeavesTurn e caller) = true
takes_none (ManagerTakes which e) = false
takes_none (ManagerLeaves which e) = true
takes_none (Enlists e) = true
takes_none (Frees e caller) = true
takes_none Nothing = true

-- such a deed behind which a call has the turns for the manager that the one before it had
abbrev pub KeepsMinds : Deed → Call → Call → Type 0
KeepsMinds d before after = (takes_none d ≡ true) × SameMinds before after

module _ {B : Type 0} {kc : Coded B} {kz : DeskTables} where
  older_link : (m : LaneLink (RingState (PlacedDesk kc kz))) (era : Era) (a b : RingState (PlacedDesk kc kz)) (cs : List (Option End)) → IsOlder m.to_host.lane a.lane → IsOlder m.to_remote.lane b.lane → WereBefore (turns_in m) (turns_in (record { era = era; to_host = a; to_remote = b; callers = cs }))
  older_link m era a b cs host remote = record { senders = λ e. send e; receivers = λ e. receive e }
    where
      send : (e : End) → ((turns_in (record { era = era; to_host = a; to_remote = b; callers = cs })).lanes e).sender ≡ turn.Manager → ((turns_in m).lanes e).sender ≡ turn.Manager
      send side.Host is = host.sender is
      send side.Remote is = remote.sender is

      receive : (e : End) → ((turns_in (record { era = era; to_host = a; to_remote = b; callers = cs })).lanes e).receiver ≡ turn.Manager → ((turns_in m).lanes e).receiver ≡ turn.Manager
      receive side.Host is = host.receiver is
      receive side.Remote is = remote.receiver is

  -- the same lanes
  pub same_turns : (m : LaneLink (RingState (PlacedDesk kc kz))) (era : Era) (cs : List (Option End)) → WereBefore (turns_in m) (turns_in (record m { era = era; callers = cs }))
  same_turns m era cs = older_link m era m.to_host m.to_remote cs (unchanged m.to_host.lane) (unchanged m.to_remote.lane)

  pub no_turns : (m : LaneLink (RingState (PlacedDesk kc kz))) → WereBefore (turns_in m) (turns_in m)
  no_turns m = record { senders = λ e is. is; receivers = λ e is. is }

  -- the manager had the four turns
  pub all_before : (m m' : LaneLink (RingState (PlacedDesk kc kz))) → AreManagers m → WereBefore (turns_in m) (turns_in m')
  all_before m m' a = record { senders = λ e is. send e; receivers = λ e is. receive e }
    where
      send : (e : End) → ((turns_in m).lanes e).sender ≡ turn.Manager
      send side.Host = a.host_sender
      send side.Remote = a.remote_sender

      receive : (e : End) → ((turns_in m).lanes e).receiver ≡ turn.Manager
      receive side.Host = a.host_receiver
      receive side.Remote = a.remote_receiver

  older_lane : (m : LaneLink (RingState (PlacedDesk kc kz))) (e : End) (s : RingState (PlacedDesk kc kz)) → IsOlder (lane_to m e).lane s.lane → WereBefore (turns_in m) (turns_in (with_lane m e s))
  older_lane m side.Host s o = older_link m m.era s m.to_remote m.callers o (unchanged m.to_remote.lane)
  older_lane m side.Remote s o = older_link m m.era m.to_host s m.callers (unchanged m.to_host.lane) o

  older_lanes : (m : LaneLink (RingState (PlacedDesk kc kz))) (e : End) (lanes : Lanes (RingState (PlacedDesk kc kz))) → IsOlder (lanes_of m e).outgoing.lane lanes.outgoing.lane → IsOlder (lanes_of m e).incoming.lane lanes.incoming.lane → WereBefore (turns_in m) (turns_in (with_lanes m e lanes))
  older_lanes m side.Host lanes out into = older_link m m.era lanes.incoming lanes.outgoing m.callers into out
  older_lanes m side.Remote lanes out into = older_link m m.era lanes.outgoing lanes.incoming m.callers out into

  module _ (desk : DeskMeaning (PlacedDesk kc kz)) (m : LaneLink (RingState (PlacedDesk kc kz))) where
    begins_older : (e : End) (caller follows : ℕ) (w : Work) → WereBefore (turns_in m) (turns_in (with_lanes m e (record (lanes_of m e) { incoming = (ring_form desk).after_receive_start (lanes_of m e).incoming caller follows w })))
    begins_older e caller follows w = older_lanes m e _ (unchanged (lanes_of m e).outgoing.lane) (record { sender = λ is. is; receiver = was_taken (lanes_of m e).incoming.lane.receiver caller (record { follows = follows; work = w }) })

    step_older : (e : End) (caller follows : ℕ) (wished : Option Wish) → WereBefore (turns_in m) (turns_in (with_lanes m e (lanes_step (ring_form desk) desk m.era (lanes_of m e) caller follows wished).state))
    step_older e caller follows (Some (wish.Send message)) = older_lanes m e _ (record { sender = was_taken (lanes_of m e).outgoing.lane.sender caller (record { follows = follows; message = message; stage = stage.Turn }); receiver = λ is. is }) (unchanged (lanes_of m e).incoming.lane)
    step_older e caller follows (Some wish.Take) = begins_older e caller follows (work.Take take_stage.Turn)
    step_older e caller follows (Some (wish.Give number)) = begins_older e caller follows (work.Give number give_stage.Turn)
    step_older e caller follows (Some (wish.Bind address)) = begins_older e caller follows (work.Bind address)
    step_older e caller follows (Some (wish.Unbind address)) = begins_older e caller follows (work.Unbind address)
    step_older e caller follows None = go (has_call (lanes_of m e).outgoing.lane.sender caller)
      where
        go : (b : Bool) → WereBefore (turns_in m) (turns_in (with_lanes m e (cond b (send_later (ring_form desk) m.era (lanes_of m e)) (receive_later (ring_form desk) desk m.era (lanes_of m e))).state))
        go true = let s = (lanes_of m e).outgoing.lane in older_lanes m e _ (sent m.era s.lane s.sender s.receiver s.desk) (unchanged (lanes_of m e).incoming.lane)
        go false = let s = (lanes_of m e).incoming.lane in older_lanes m e _ (unchanged (lanes_of m e).outgoing.lane) (received desk m.era s.lane s.sender s.receiver s.desk)

    deed_older : (d : Deed) → takes_none d ≡ true → WereBefore (turns_in m) (turns_in (after_deed desk m d))
    deed_older (Steps caller follows wished) none = go (end_of m.callers caller)
      where
        go : (o : Option End) → WereBefore (turns_in m) (turns_in (on_lanes m o (λ lanes. lanes_step (ring_form desk) desk m.era lanes caller follows wished)).state)
        go None = no_turns m
        go (Some e) = step_older e caller follows wished
    deed_older (Closes inc) none = go (is_live_in m.era inc)
      where
        go : (b : Bool) → WereBefore (turns_in m) (turns_in (cond b (record m { era = record { inc = inc; is_live = false } }) m))
        go true = same_turns m (record { inc = inc; is_live = false }) m.callers
        go false = no_turns m
    deed_older (EndsCall e caller) none = older_lanes m e (lanes_after_end desk (lanes_of m e) caller) (record { sender = was_ended (has_call (lanes_of m e).outgoing.lane.sender caller) (lanes_of m e).outgoing.lane.sender; receiver = λ is. is }) (go (has_call (lanes_of m e).incoming.lane.receiver caller))
      where
        go : (b : Bool) → IsOlder (lanes_of m e).incoming.lane (cond b ((ring_form desk).after_receive_end (lanes_of m e).incoming caller) (lanes_of m e).incoming).lane
        go true = record { sender = λ is. is; receiver = was_ended (has_call (lanes_of m e).incoming.lane.receiver caller) (lanes_of m e).incoming.lane.receiver }
        go false = unchanged (lanes_of m e).incoming.lane
    deed_older Opens none = absurd (true-false (sym none))
    deed_older (ManagerTakes which e) none = absurd (true-false (sym none))
    deed_older (ManagerLeaves lane_turn.Sender e) none = older_lane m e _ (record { sender = never_left (lane_to m e).lane.sender; receiver = λ is. is })
    deed_older (ManagerLeaves lane_turn.Receiver e) none = older_lane m e _ (record { sender = λ is. is; receiver = never_left (lane_to m e).lane.receiver })
    deed_older (LeavesTurn e caller) none = older_lane m e (after_leave_without desk (lane_to m e) caller) (record { sender = λ is. is; receiver = never_left (lane_to m e).lane.receiver })
    deed_older (Enlists e) none = same_turns m m.era (with_caller m.callers e (free_number m.callers))
    deed_older (Frees e caller) none = same_turns m m.era (slice_set m.callers caller None)
    deed_older Nothing none = no_turns m

  -- a deed that takes no turn for the manager, by a pass that has still what it had
  pub keepers_by : (desk : DeskMeaning (PlacedDesk kc kz)) (m m' : LaneLink (RingState (PlacedDesk kc kz))) (d : Deed) → m' ≡ after_deed desk m d → (views : List View) (id : ℕ) (v u : View) (o : Mover v) (w : Pass) → get_elem? views id ≡ some v → u.passes ≡ set v.passes o.place w
      → KeepsMinds d o.pass.call w.call → HasKeepers (turns_in m) views → HasKeepers (turns_in m') (set views id u)
  keepers_by desk m m' d deed views id v u o w at is keeps old =
      keepers_same views id v u o w at is (turns_in m) (turns_in m') (subst (λ (x : LaneLink (RingState (PlacedDesk kc kz))). WereBefore (turns_in m) (turns_in x)) (sym deed) (deed_older desk m d keeps.0)) keeps.1 old

  -- one lane is another
  lane_or : (m : LaneLink (RingState (PlacedDesk kc kz))) (e i : End) (s : RingState (PlacedDesk kc kz)) (F : RingState (PlacedDesk kc kz) → Type 0) → F (lane_to (with_lane m e s) i) → ((i ≡ e) × F s) ⊎ F (lane_to m i)
  lane_or m side.Host side.Host s F is = inl (refl, is)
  lane_or m side.Host side.Remote s F is = inr is
  lane_or m side.Remote side.Host s F is = inr is
  lane_or m side.Remote side.Remote s F is = inl (refl, is)

  lane_at : (m : LaneLink (RingState (PlacedDesk kc kz))) (e i : End) (s : RingState (PlacedDesk kc kz)) (F : RingState (PlacedDesk kc kz) → Type 0) → F (lane_to (with_lane m e s) i) → i ≡ e → F s
  lane_at m e i s F is same = go e (subst (λ (k : End). F (lane_to (with_lane m e s) k)) same is)
    where
      go : (e : End) → F (lane_to (with_lane m e s) e) → F s
      go side.Host here = here
      go side.Remote here = here

  pub keepers_lane : (m : LaneLink (RingState (PlacedDesk kc kz))) (e : End) (s : RingState (PlacedDesk kc kz)) (views : List View) (id : ℕ) (v u : View) (o : Mover v) (w : Pass) → get_elem? views id ≡ some v → u.passes ≡ set v.passes o.place w
      → (s.lane.sender ≡ turn.Manager → ((lane_to m e).lane.sender ≡ turn.Manager) ⊎ (has_sender_for_manager e w.call ≡ true))
      → (s.lane.receiver ≡ turn.Manager → ((lane_to m e).lane.receiver ≡ turn.Manager) ⊎ (has_for_manager e w.call ≡ true))
      → ((i : End) → (i ≡ e → s.lane.sender ≡ turn.Manager) → has_sender_for_manager i o.pass.call ≡ true → has_sender_for_manager i w.call ≡ true)
      → ((i : End) → (i ≡ e → s.lane.receiver ≡ turn.Manager) → has_for_manager i o.pass.call ≡ true → has_for_manager i w.call ≡ true)
      → HasKeepers (turns_in m) views → HasKeepers (turns_in (with_lane m e s)) (set views id u)
  keepers_lane m e s views id v u o w at is sends takes loud_sender loud old = keepers_of views id v u o w at is (turns_in m) (turns_in (with_lane m e s))
      (λ i mine. ⊎_elim
      (λ (here : (i ≡ e) × (s.lane.sender ≡ turn.Manager)). subst (λ (k : End). ((lane_to m k).lane.sender ≡ turn.Manager) ⊎ (has_sender_for_manager k w.call ≡ true)) (sym here.0) (sends here.1))
      (λ (was : (lane_to m i).lane.sender ≡ turn.Manager). inl was)
      (lane_or m e i s (λ x. x.lane.sender ≡ turn.Manager) mine))
      (λ i mine. ⊎_elim
      (λ (here : (i ≡ e) × (s.lane.receiver ≡ turn.Manager)). subst (λ (k : End). ((lane_to m k).lane.receiver ≡ turn.Manager) ⊎ (has_for_manager k w.call ≡ true)) (sym here.0) (takes here.1))
      (λ (was : (lane_to m i).lane.receiver ≡ turn.Manager). inl was)
      (lane_or m e i s (λ x. x.lane.receiver ≡ turn.Manager) mine))
      (λ i mine. loud_sender i (lane_at m e i s (λ x. x.lane.sender ≡ turn.Manager) mine))
      (λ i mine. loud i (lane_at m e i s (λ x. x.lane.receiver ≡ turn.Manager) mine))
      old
