-- What the steps of the manager tell, by the place of its own pass, on the words of the table.
use Rattle.std.proofs.Common.{◌≡◌, ℕ, ◌+◌, ◌*◌, ◌-◌, ◌<◌, ◌≤◌, zero, suc, eqb, false, List, [], ◌∷◌, length, get_or, refl, sym, ap, ◌∙◌, subst, arith}
use Rattle.std.specs.Prelude.{Option, Some, None}
use mathlib.Core.Path.{Path}
use mathlib.Core.Option.{some}
use lib.ListN.{get_elem?}
use prog.Atomic.{either}
use base.Stored.{Coded}
use Rattle.atomic_table.specs.Table.{Allows, rest}
use Rattle.rp_base.specs.declared.kinds.End.{End}
use Rattle.rp_base.specs.declared.kinds.End.TheVariants as side
use Rattle.lane_model.specs.declared.lane_links.LaneLink.{LaneLink}
use Rattle.lane_model.specs.declared.recoveries.LaneTurn.{LaneTurn}
use Rattle.lane_model.specs.declared.recoveries.LaneTurn.TheVariants as lane_turn
use Rattle.lane_model.specs.Desks.{DeskMeaning}
use Rattle.ring_core.specs.declared.states.RingState.{RingState}
use Rattle.link_words.specs.declared.codes.DeskRight.{DeskRight}
use Rattle.link_words.specs.declared.codes.DeskTables.{DeskTables}
use Rattle.link_words.specs.declared.rule.Call.{Call}
use Rattle.link_words.specs.declared.rule.Call.TheVariants.{Gathers, Reopens}
use Rattle.link_words.specs.declared.rule.LaneSides.{LaneSides}
use Rattle.link_words.specs.declared.rule.LinkSizes.{LinkSizes}
use Rattle.link_words.specs.declared.rule.Pass.{Pass}
use Rattle.link_words.specs.declared.rule.ReceiverSide.{ReceiverSide}
use Rattle.link_words.specs.declared.rule.Slot.{Slot}
use Rattle.link_words.specs.declared.rule.Slot.TheVariants.{Receiver, Sender}
use Rattle.link_words.specs.PlacedDesks.{PlacedDesk, placed_meaning, right_at, right_to, table_at, IsRightTo}
use Rattle.link_words.specs.Words.{other, sender_slot, receiver_slot, sender_word, receiver_word, words_of}
use Rattle.link_words.specs.Layouts.{layout, place_in}
use Rattle.link_words.specs.Passes.{Mover, with_call, with_pass}
use Rattle.link_words.specs.Fresh.{fresh_of}
use Rattle.link_words.specs.Deeds.{Deed, ManagerTakes, ManagerLeaves, Nothing}
use Rattle.link_words.specs.Rule.{WordsRule, PlacedRule}
use Rattle.link_words.specs.Calls.{SeatState, Becomes, call_at, number_at, with_pass_at}
use Rattle.link_words.specs.declared.copies.LinkCopy.{LinkCopy}
use Rattle.link_words.specs.Looks.{SeesWord}
use Rattle.link_words.specs.Steps.{IsStepOf, HasWord, StoresWord, turn_number}
use Rattle.link_words.specs.Parts.{has_for_manager, has_sender_for_manager}
use Rattle.link_words.specs.Reopens.{IsHoldersWord, gathers_or, reopens_or, sides_of, manager_place, manager_call, ManagerAt, both_sides, gathered, ManagerTakesSender, ManagerTakesReceiver, ManagerLeavesSender, ManagerLeavesReceiver, ManagerTakesTurn, ManagerLeavesTurn, MayGather, MayLeaveTurn, MayBegin, AreBooksOf, books_by, BeginsReopening, MayReset, ResetsWord, MayOpen, right_by, opened_sides, opened_view, OpensEra, IsOpeningOf, KeepsCopy}
use Rattle.link_words.proofs.Apart.{apart, entry_place_is, found_apart, sender_low, receiver_low}
use Rattle.link_words.proofs.Exact.{StepBy, ReadsAt, WritesAt, becomes, passes_at, call_is, step_told, read_as, read_there, written_there}
use Rattle.link_words.proofs.ManagerTurns.{TakesSenderBy, takes_sender, leaves_sender_turn, TakesReceiverBy, takes_receiver, leaves_receiver_turn, SeesAt, looks}
use Rattle.link_words.proofs.Opens.{opened_by, begins, resets, opens}
use Rattle.link_words.proofs.Tells.{BeginsReopeningBy}
use Rattle.link_words.proofs.Weakens.{weaken}

-- the call of the manager's pass, by its place
call_here : (me : SeatState) (call : Call) (at : ManagerAt me call) → manager_call me ≡ call
call_here me call at = sym (call_is me at.mover (manager_place me) at.here) ∙ at.in_call

-- the view in which the manager's pass is in another call
called : (me : SeatState) (call : Call) (at : ManagerAt me call) (f : Call → Call) (slots : List (ℕ × Slot)) (me' : SeatState) → me' ≡ (with_pass me.0 at.mover (with_call at.mover.pass (f call)) me'.0.copy, slots)
    → Becomes (λ p. with_call p (f p.call)) (manager_place me) slots me me'
called me call at f slots me' told = becomes me at.mover (manager_place me) at.here (λ p. with_call p (f p.call)) (with_call at.mover.pass (f call)) slots me' (ap (λ (c : Call). with_call at.mover.pass (f c)) (sym at.in_call)) told

-- the word of this number stands at its place of the table
found_there : {D : Type 0} (i place : ℕ) (m : LaneLink (RingState D)) → place ≡ place_in i → get_or (words_of 0 [] m) i 0 ≡ get_or (layout (words_of 0 [] m)) place 0
found_there i place m is = sym (found_apart 10 (words_of 0 [] m) i) ∙ ap (λ (k : ℕ). get_or (layout (words_of 0 [] m)) k 0) (sym is)

-- of a call outside a reopening, with other side states
regathered : (e : End) (f : LaneSides → LaneSides) → Call → Call
regathered e f call = gathers_or call (gathered e f) call

module _ {B : Type 0} {kc : Coded B} {kz : DeskTables} (cd : Coded (PlacedDesk kc kz)) (desk : DeskMeaning (PlacedDesk kc kz)) (z : LinkSizes) (n id : ℕ) (me : SeatState) where
  -- the step of the manager's pass
  abbrev pub Does : (LaneLink (RingState (PlacedDesk kc kz)) → LaneLink (RingState (PlacedDesk kc kz)) → Type 0) → Deed → SeatState → Type 0
  Does Reads d me' = let k = manager_place me in IsStepOf cd desk Reads d (number_at k me.0.passes) (call_at k me.0.passes) (call_at k me'.0.passes) me me'

  exchanges : (i place : ℕ) (f : ℕ → ℕ) (o : Mover me.0) → o.place ≡ manager_place me → (d : Deed) (T T' : ℕ → SeatState → Type 0) → place ≡ place_in i
      → Allows (WordsRule cd desk z) n id me i f (λ y me'. T y me' × StepBy cd desk (ReadsAt i y) me o d me') → ((y : ℕ) (me' : SeatState) → T y me' → T' y me')
      → Allows (PlacedRule cd desk z) n id me place f (λ y me'. T' y me' × Does (HasWord place y) d me')
  exchanges i place f o here d T T' is allows follows s kept long at wide =
      let a = apart cd desk z n id me i place f (λ y me'. T y me' × StepBy cd desk (ReadsAt i y) me o d me') is allows s kept long at wide in
      (a.0, a.1, a.2, a.3, (follows _ _ a.4.0, read_there cd desk i place _ is _ _ _ _ me _ (step_told me o (manager_place me) here cd desk (ReadsAt i _) (λ _. d) _ a.4.1)))

  stores : (i place new : ℕ) (o : Mover me.0) → o.place ≡ manager_place me → (d : Deed) (T T' : ℕ → SeatState → Type 0) → place ≡ place_in i
      → Allows (WordsRule cd desk z) n id me i (λ _. new) (λ y me'. T y me' × StepBy cd desk (WritesAt i new) me o d me') → ((y : ℕ) (me' : SeatState) → T y me' → T' y me')
      → Allows (PlacedRule cd desk z) n id me place (λ _. new) (λ y me'. T' y me' × Does (StoresWord place new) d me')
  stores i place new o here d T T' is allows follows s kept long at wide =
      let a = apart cd desk z n id me i place (λ _. new) (λ y me'. T y me' × StepBy cd desk (WritesAt i new) me o d me') is allows s kept long at wide in
      (a.0, a.1, a.2, a.3, (follows _ _ a.4.0, written_there cd desk i place new is _ _ _ _ me _ (step_told me o (manager_place me) here cd desk (WritesAt i new) (λ _. d) _ a.4.1)))

  pub manager_takes_turn : (which : LaneTurn) (e : End) (place : ℕ) → MayGather me → place ≡ place_in (turn_number which e)
      → Allows (PlacedRule cd desk z) n id me place (λ y. either (eqb y 0) 65 y) (λ y me'. ManagerTakesTurn which e me y me' × Does (HasWord place y) (ManagerTakes which e) me')
  manager_takes_turn lane_turn.Sender e place g is =
      exchanges (sender_word e) place (λ y. either (eqb y 0) 65 y) g.at.mover g.at.here (ManagerTakes lane_turn.Sender e) (TakesSenderBy cd desk z me g.at.mover e g.to_host g.to_remote) (ManagerTakesSender e me) is
      (takes_sender cd desk z n id me g.at.mover e g.to_host g.to_remote g.at.in_call)
      (λ y me' t. ((λ hit. let h = t.0 hit in (h.0, called me (Gathers g.to_host g.to_remote) g.at (λ c. gathers_or c (gathered e (λ s. record s { sender = Some h.0 })) c) ((sender_slot e, Sender h.0) ∷ me.1) me' h.1)), t.1, t.2, λ held. subst (λ (c : Call). IsHoldersWord me.0 (has_sender_for_manager e c) (other e) y) (sym (call_here me (Gathers g.to_host g.to_remote) g.at)) (t.3 held)))
  manager_takes_turn lane_turn.Receiver e place g is =
      exchanges (receiver_word e) place (λ y. either (eqb y 0) 65 y) g.at.mover g.at.here (ManagerTakes lane_turn.Receiver e) (TakesReceiverBy cd desk z me g.at.mover e g.to_host g.to_remote) (ManagerTakesReceiver e me) is
      (takes_receiver cd desk z n id me g.at.mover e g.to_host g.to_remote g.at.in_call)
      (λ y me' t. ((λ hit. let h = t.0 hit in (h.0, called me (Gathers g.to_host g.to_remote) g.at (λ c. gathers_or c (gathered e (λ s. record s { receiver = Some h.0 })) c) ((receiver_slot e, Receiver h.0) ∷ me.1) me' h.1, h.2)), t.1, t.2, λ held. subst (λ (c : Call). IsHoldersWord me.0 (has_for_manager e c) e y) (sym (call_here me (Gathers g.to_host g.to_remote) g.at)) (t.3 held)))

  pub manager_leaves_turn : (which : LaneTurn) (e : End) (place : ℕ) → MayLeaveTurn which e me → place ≡ place_in (turn_number which e)
      → Allows (PlacedRule cd desk z) n id me place (λ _. 0) (λ _ me'. ManagerLeavesTurn which e me me' × Does (StoresWord place 0) (ManagerLeaves which e) me')
  manager_leaves_turn lane_turn.Sender e place may is =
      let g = may.gather in let w : Call = gathered e (λ s. record s { sender = None }) g.to_host g.to_remote in
      stores (sender_word e) place 0 g.at.mover g.at.here (ManagerLeaves lane_turn.Sender e) (λ _ me'. me' ≡ (with_pass me.0 g.at.mover (with_call g.at.mover.pass w) me'.0.copy, rest me.1)) (λ _ me'. ManagerLeavesSender e me me') is
      (leaves_sender_turn cd desk z n id me g.at.mover e g.to_host g.to_remote may.side g.at.in_call may.has may.slots)
      (λ y me' t. called me (Gathers g.to_host g.to_remote) g.at (λ c. gathers_or c (gathered e (λ s. record s { sender = None })) c) (rest me.1) me' t)
  manager_leaves_turn lane_turn.Receiver e place may is =
      let g = may.gather in let w : Call = gathered e (λ s. record s { receiver = None }) g.to_host g.to_remote in
      stores (receiver_word e) place 0 g.at.mover g.at.here (ManagerLeaves lane_turn.Receiver e) (λ _ me'. me' ≡ (with_pass me.0 g.at.mover (with_call g.at.mover.pass w) me'.0.copy, rest me.1)) (λ _ me'. ManagerLeavesReceiver e me me') is
      (leaves_receiver_turn cd desk z n id me g.at.mover e g.to_host g.to_remote may.side g.at.in_call may.has may.slots)
      (λ y me' t. called me (Gathers g.to_host g.to_remote) g.at (λ c. gathers_or c (gathered e (λ s. record s { receiver = None })) c) (rest me.1) me' t)

  -- a word is loaded, and nothing changes
  pub looks_told : (i place : ℕ) → MayGather me → place ≡ place_in i → Allows (PlacedRule cd desk z) n id me place (λ y. y) (λ y me'. (me' ≡ me) × Does (SeesWord z place y) Nothing me')
  looks_told i place g is s kept long at wide =
      let o = g.at.mover in let k = manager_place me in
      let a = apart cd desk z n id me i place (λ y. y) (λ y me'. (me' ≡ me) × StepBy cd desk (SeesAt cd desk z i y) me o Nothing me') is (looks cd desk z n id me o i g.to_host g.to_remote g.at.in_call) s kept long at wide in
      let step = step_told me o k g.at.here cd desk (SeesAt cd desk z i _) (λ _. Nothing) _ a.4.1 in
      (a.0, a.1, a.2, a.3, (a.4.0, read_as cd desk (SeesAt cd desk z i _) (SeesWord z place _) (λ m m' saw. (saw.0 ∙ found_there i place m is, saw.1)) Nothing (number_at k me.0.passes) (call_at k me.0.passes) _ me _ step))

  -- a reopening begins
  pub begins_told : (b : MayBegin me) → Allows (PlacedRule cd desk z) n id me 16 (λ y. y) (λ y me'. BeginsReopening me y me' × KeepsCopy me me')
  begins_told b =
      let g = both_sides b.host_sender b.host_receiver in let h = both_sides b.remote_sender b.remote_receiver in
      let here : manager_call me ≡ Gathers g h = call_here me (Gathers g h) b.at in
      weaken (PlacedRule cd desk z) n id me 16 (λ y. y) (λ y me'. BeginsReopeningBy me b.at.mover g h y me' × KeepsCopy me me') (λ y me'. BeginsReopening me y me' × KeepsCopy me me')
      (λ y me' b₀. let t = b₀.0 in (
        (
          t.0,
          t.1,
          t.2,
          t.3,
          t.4,
          (λ shut. let s = t.5 shut in (
            called me (Gathers g h) b.at (λ c. gathers_or c (Reopens 0 t.0.inc) c) me.1 me' s.0,
            subst (λ (c : Call). AreBooksOf me.0 (λ e. books_by (sides_of c e))) (sym here) s.1,
          )),
          t.6,
        ),
        b₀.1,
      ))
      (apart cd desk z n id me 1 16 (λ y. y) (λ y me'. BeginsReopeningBy me b.at.mover g h y me' × KeepsCopy me me') refl
      (begins cd desk z n id me b.at.mover b.host_sender b.remote_sender b.host_receiver b.remote_receiver b.at.in_call b.none_held.0 b.none_held.1))

  -- a word is reset
  pub resets_told : (number new place : ℕ) → me.0.sizes ≡ z → MayReset number new me → place ≡ place_in (6 + number) → Allows (PlacedRule cd desk z) n id me place (λ _. new) (λ _ me'. ResetsWord me me' × KeepsCopy me me')
  resets_told number new place sized may is =
      let w : Call = Reopens (suc number) may.inc may.to_host may.to_remote in let tells : ℕ → SeatState → Type 0 = λ _ me'. (me' ≡ (with_pass me.0 may.at.mover (with_call may.at.mover.pass w) me'.0.copy, me.1)) × KeepsCopy me me' in
      weaken (PlacedRule cd desk z) n id me place (λ _. new) tells (λ _ me'. ResetsWord me me' × KeepsCopy me me')
      (λ y me' t. (called me (Reopens number may.inc may.to_host may.to_remote) may.at (λ c. reopens_or c (λ q inc a b. Reopens (suc q) inc a b) c) me.1 me' t.0, t.1))
      (apart cd desk z n id me (6 + number) place (λ _. new) tells is
      (resets cd desk z n id me may.at.mover number may.inc (6 + number) new may.to_host may.to_remote may.at.in_call refl (subst (λ (y : LinkSizes). get_elem? (fresh_of y) number ≡ some new) sized may.fresh)))

-- the opening, in which each desk is to be reset
module _ {B : Type 0} (kc : Coded B) (kz : DeskTables) (cd : Coded (PlacedDesk kc kz)) (meaning : DeskMeaning B) (z : LinkSizes) (n id : ℕ) (me : SeatState) where
  right_is : (x : ReceiverSide) (d : PlacedDesk kc kz) → x.desk ≡ right_to d → IsRightTo kc kz x.desk d.desk
  right_is x d is = record { table = ap (λ (r : DeskRight). r.table) is ∙ ap (λ (r : DeskRight). table_at kz r.end) (sym is); code = ap (λ (r : DeskRight). r.code) is }

  -- the view after the opening, by the place of the manager's pass
  opened_is : (o : Mover me.0) → o.place ≡ manager_place me → me.0.sizes ≡ z → (x y : DeskRight) (host remote : PlacedDesk kc kz) → x ≡ right_to host → y ≡ right_to remote → (k : Option LinkCopy)
      → Path SeatState (opened_by me.0 o z.book (right_at kc kz host.end (meaning.fresh host.desk)) (right_at kc kz remote.end (meaning.fresh remote.desk)) k, me.1)
      (opened_view me.0 (manager_place me) (record x { code = kc.code (meaning.fresh host.desk) }) (record y { code = kc.code (meaning.fresh remote.desk) }) k, me.1)
  opened_is o here sized x y host remote x_is y_is k =
      let f : ℕ → DeskRight → DeskRight → Pass → Pass = λ book a b p. with_call p (Gathers (opened_sides book a) (opened_sides book b)) in
      let a = right_at kc kz host.end (meaning.fresh host.desk) in let b = right_at kc kz remote.end (meaning.fresh remote.desk) in
      let passes = passes_at (f z.book a b) me.0.passes o.place o.pass o.here
      ∙ (λ i. with_pass_at (f (sym sized i).book (record (sym x_is i) { code = kc.code (meaning.fresh host.desk) }) (record (sym y_is i) { code = kc.code (meaning.fresh remote.desk) })) (here i) me.0.passes) in
      λ i. (record me.0 { passes = passes i; inc = me.0.inc + 1; reclaims = []; ended_passes = []; is_closed = false; copy = k }, me.1)

  pub opens_told : (inc new : ℕ) → me.0.sizes ≡ z → me.0.sizes.desks ≡ kz → MayOpen inc me → new ≡ (inc + 1) * 2 + 1
      → Allows (PlacedRule cd (placed_meaning kc kz meaning) z) n id me 16 (λ _. new) (λ _ me'. OpensEra kc meaning me me' × IsOpeningOf cd (placed_meaning kc kz meaning) me me')
  opens_told inc new sized desks may new_is =
      let g = both_sides may.host_sender may.host_receiver in let h = both_sides may.remote_sender may.remote_receiver in let call = Reopens may.number inc g h in
      let here : manager_call me ≡ call = call_here me call may.at in let y = may.host_receiver in let v = may.remote_receiver in
      let place = manager_place me in let desk = placed_meaning kc kz meaning in
      let tells : ℕ → SeatState → Type 0 = λ _ me'. ((host : PlacedDesk kc kz) × (remote : PlacedDesk kc kz) × (y.desk ≡ right_to host) × (v.desk ≡ right_to remote) × (me' ≡ (opened_by me.0 may.at.mover z.book (right_to (desk.fresh host)) (right_to (desk.fresh remote)) me'.0.copy, me.1))) × IsOpeningOf cd desk me me' in
      apart cd (placed_meaning kc kz meaning) z n id me 1 16 (λ _. new) (λ _ me'. OpensEra kc meaning me me' × IsOpeningOf cd (placed_meaning kc kz meaning) me me') refl
      (weaken (WordsRule cd (placed_meaning kc kz meaning) z) n id me 1 (λ _. new) tells (λ _ me'. OpensEra kc meaning me me' × IsOpeningOf cd (placed_meaning kc kz meaning) me me')
      (λ _ me' t. (
        subst (λ (c : DeskRight × DeskRight). (to_host : B) × (to_remote : B) × IsRightTo kc me.0.sizes.desks c.0 to_host × IsRightTo kc me.0.sizes.desks c.1 to_remote
            × (me' ≡ (opened_view me.0 place (record c.0 { code = kc.code (meaning.fresh to_host) }) (record c.1 { code = kc.code (meaning.fresh to_remote) }) me'.0.copy, me.1)))
            (λ i. (right_by (sides_of (sym here i) side.Host).receiver, right_by (sides_of (sym here i) side.Remote).receiver)) (
              t.0.0.desk,
              t.0.1.desk,
              subst (λ (k : DeskTables). IsRightTo kc k y.desk t.0.0.desk) (sym desks) (right_is y t.0.0 t.0.2),
              subst (λ (k : DeskTables). IsRightTo kc k v.desk t.0.1.desk) (sym desks) (right_is v t.0.1 t.0.3),
              t.0.4 ∙ opened_is may.at.mover may.at.here sized y.desk v.desk t.0.0 t.0.1 t.0.2 t.0.3 me'.0.copy,
            ),
        t.1,
      ))
      (opens cd (placed_meaning kc kz meaning) z n id me may.at.mover may.number inc new may.host_sender may.remote_sender y v may.at.in_call (may.all ∙ ap (λ (k : LinkSizes). length (fresh_of k)) sized) (new_is ∙ refl) may.more))

-- a place tells the turn
pub one_turn : (w v : LaneTurn) (e i : End) → place_in (turn_number w e) ≡ place_in (turn_number v i) → Path (LaneTurn × End) (w, e) (v, i)
one_turn lane_turn.Sender lane_turn.Sender side.Host side.Host is = refl
one_turn lane_turn.Sender lane_turn.Sender side.Host side.Remote is = absurd (omega (arith, is))
one_turn lane_turn.Sender lane_turn.Sender side.Remote side.Host is = absurd (omega (arith, is))
one_turn lane_turn.Sender lane_turn.Sender side.Remote side.Remote is = refl
one_turn lane_turn.Sender lane_turn.Receiver side.Host side.Host is = absurd (omega (arith, is))
one_turn lane_turn.Sender lane_turn.Receiver side.Host side.Remote is = absurd (omega (arith, is))
one_turn lane_turn.Sender lane_turn.Receiver side.Remote side.Host is = absurd (omega (arith, is))
one_turn lane_turn.Sender lane_turn.Receiver side.Remote side.Remote is = absurd (omega (arith, is))
one_turn lane_turn.Receiver lane_turn.Sender side.Host side.Host is = absurd (omega (arith, is))
one_turn lane_turn.Receiver lane_turn.Sender side.Host side.Remote is = absurd (omega (arith, is))
one_turn lane_turn.Receiver lane_turn.Sender side.Remote side.Host is = absurd (omega (arith, is))
one_turn lane_turn.Receiver lane_turn.Sender side.Remote side.Remote is = absurd (omega (arith, is))
one_turn lane_turn.Receiver lane_turn.Receiver side.Host side.Host is = refl
one_turn lane_turn.Receiver lane_turn.Receiver side.Host side.Remote is = absurd (omega (arith, is))
one_turn lane_turn.Receiver lane_turn.Receiver side.Remote side.Host is = absurd (omega (arith, is))
one_turn lane_turn.Receiver lane_turn.Receiver side.Remote side.Remote is = refl

-- where a turn stands
pub turn_low : (w : LaneTurn) (e : End) → place_in (turn_number w e) < 160
turn_low lane_turn.Sender e = sender_low e
turn_low lane_turn.Receiver e = receiver_low e

-- where the words stand that a reopening resets
pub index_place_is : (n : ℕ) → n < 4 → n * 16 + 96 ≡ place_in (6 + n)
index_place_is zero low = refl
index_place_is (suc zero) low = refl
index_place_is (suc (suc zero)) low = refl
index_place_is (suc (suc (suc zero))) low = refl
index_place_is (suc (suc (suc (suc n)))) low = absurd (omega (arith, low))

pub entry_reset_is : (n : ℕ) → 4 ≤ n → n * 8 + 128 ≡ place_in (6 + n)
entry_reset_is n high =
    let is = entry_place_is (n - 4) in let same : 6 + n ≡ 10 + (n - 4) = omega (arith, high) in
    (let e : n * 8 + 128 ≡ 160 + 8 * (n - 4) = omega (arith, high) in e) ∙ (sym is ∙ ap place_in (sym same))
