-- The manager takes and leaves the turns of a link, one by one, with its own seat.
use Rattle.std.proofs.Common.{◌≡◌, ◌≢◌, ◌≤◌, ℕ, Bool, true, eqb, List, ◌∷◌, get_or, refl, sym, ap, ◌∙◌, subst, ⊎_elim, inl, inr}
use Rattle.std.specs.Prelude.{◌⊎◌, Option, Some, None}
use mathlib.Core.Option.{some, none, some-injective}
use mathlib.Core.Path.{Path}
use lib.ListN.{get_elem?}
use prog.Atomic.{either}
use base.Stored.{Coded}
use Rattle.atomic_table.specs.Table.{State, Me, Act, keeps, takes, gives, homes_after, Valid, carried_after, stepped, Allows, rest}
use Rattle.atomic_table.proofs.Lists.{exchanged}
use Rattle.rp_base.specs.declared.kinds.End.{End}
use Rattle.rp_base.specs.declared.kinds.End.TheVariants as side
use Rattle.lane_model.specs.declared.lane_links.LaneLink.{LaneLink}
use Rattle.lane_model.specs.declared.recoveries.LaneTurn.TheVariants as lane_turn
use Rattle.lane_model.specs.declared.stages.Receiving.{Receiving}
use Rattle.lane_model.specs.declared.stages.Sending.{Sending}
use Rattle.lane_model.specs.declared.stages.Turn.{Turn}
use Rattle.lane_model.specs.declared.stages.Turn.TheVariants as turn
use Rattle.lane_model.specs.Desks.{DeskMeaning}
use Rattle.lane_laws.specs.Parts.{manager_takes, manager_leaves}
use Rattle.ring_core.specs.declared.states.RingState.{RingState}
use Rattle.ring_core.specs.Owners.{receiver_is_out}
use Rattle.link_words.specs.declared.codes.DeskTables.{DeskTables}
use Rattle.link_words.specs.declared.rule.Call.{Call}
use Rattle.link_words.specs.declared.rule.Call.TheVariants.{Gathers}
use Rattle.link_words.specs.declared.rule.LaneSides.{LaneSides}
use Rattle.link_words.specs.declared.rule.LinkSizes.{LinkSizes}
use Rattle.link_words.specs.declared.rule.ReceiverSide.{ReceiverSide}
use Rattle.link_words.specs.declared.rule.SenderSide.{SenderSide}
use Rattle.link_words.specs.declared.rule.Slot.{Slot}
use Rattle.link_words.specs.declared.rule.Slot.TheVariants.{Receiver, Sender}
use Rattle.link_words.specs.declared.rule.View.{View}
use Rattle.link_words.specs.PlacedDesks.{PlacedDesk}
use Rattle.link_words.specs.Words.{other, lane_to, with_lane, era_word, turn_word, lane_words, lane_homes, homes_at, home_if, shelf_to, sender_side, receiver_side, sender_word, receiver_word, sender_slot, receiver_slot, with_turn}
use Rattle.link_words.specs.Turns.{is_manager, turns_of}
use Rattle.lane_model.specs.Links.{end_of}
use Rattle.link_words.specs.declared.rule.Pass.{Pass}
use Rattle.link_words.proofs.Keepers.{keepers_lane}
use Rattle.link_words.proofs.Users.{in_use}
use Rattle.link_words.specs.Sides.{is_there, sides_at}
use Rattle.link_words.specs.Deeds.{Deed, ManagerTakes, ManagerLeaves, Nothing, MayDo, after_deed}
use Rattle.link_words.specs.Rule.{IsCallOf, Shows, WordsRule}
use Rattle.link_words.specs.Parts.{has_for_manager, has_sender_for_manager, IsKept, HasGathered, HoldsBuffers}
use Rattle.link_words.specs.Codes.{copied}
use Rattle.link_words.specs.Passes.{Mover, with_pass, with_call}
use Rattle.link_words.specs.Calls.{SeatState, call_at}
use Rattle.link_words.specs.Reopens.{gathered, IsHoldersWord, AreInUse, SomeInUse}
use Rattle.link_words.proofs.Buffers.{homes_here}
use Rattle.link_words.proofs.Closes.{stays}
use Rattle.link_words.proofs.Exact.{StepBy, ReadsAt, WritesAt, read_by, write_by, call_at_is, stays_with}
use Rattle.link_words.specs.Looks.{FitsWords}
use Rattle.link_words.proofs.BufferNumbers.{fits}
use Rattle.link_words.proofs.Frames.{turn_set, side_found, side_set, same_lane, keepers_set, keepers_more, sender_in, receiver_in}
use Rattle.link_words.proofs.Gathered.{gathered_sender, left_sender, gathered_receiver, left_receiver}
use Rattle.link_words.proofs.Held.{free_if, free_for_all, minds_has, receiver_home, seen_receiver, shelved_receiver, alone}
use Rattle.link_words.proofs.LaneSteps.{others_send, others_free_send, hands_kept, lane_moves_by}
use Rattle.link_words.proofs.Parts.{state_in, buffers_in, rings_at}
use Rattle.link_words.proofs.Sends.{shelved_turn, true-false}
use Rattle.link_words.proofs.Starts.{seen_sender}
use Rattle.link_words.proofs.TurnWords.{sender_word_most, receiver_word_most, sender_word_held, receiver_word_held, hands_in_use}
use Rattle.link_words.proofs.Takes.{with_receiver, receiver_turn_set, receiver_side_set, others_beside}

-- a turn that is not free stays when the manager takes it
still_taken : {C : Type 0} (t : Turn C) → turn_word t ≢ 0 → manager_takes t ≡ t
still_taken turn.Free held = absurd (held refl)
still_taken (turn.Taken c x) held = refl
still_taken (turn.Leaving c x) held = refl
still_taken turn.Manager held = refl

-- the side states of both lanes where one lane is moved
module _ {B : Type 0} {kc : Coded B} {kz : DeskTables} where
  -- the manager's call where one lane is another
  gathers_in : (m : LaneLink (RingState (PlacedDesk kc kz))) (e : End) (s : RingState (PlacedDesk kc kz)) (number : ℕ) (f : LaneSides → LaneSides) (a b : LaneSides) → IsCallOf m 0 number (Gathers a b)
      → (HasGathered (turns_of (lane_to m e)) (sides_at e a b) → HasGathered (turns_of s) (f (sides_at e a b))) → IsCallOf (with_lane m e s) 0 number (gathered e f a b)
  gathers_in m side.Host s number f a b has moves = (has.0, has.1, moves has.2, has.3)
  gathers_in m side.Remote s number f a b has moves = (has.0, has.1, has.2, moves has.3)

  here_gathered : (m : LaneLink (RingState (PlacedDesk kc kz))) (e : End) (number : ℕ) (a b : LaneSides) → IsCallOf m 0 number (Gathers a b) → HasGathered (turns_of (lane_to m e)) (sides_at e a b)
  here_gathered m side.Host number a b has = has.2
  here_gathered m side.Remote number a b has = has.3

-- the receivers' turns that the manager has, where it takes or leaves a sender's turn
same_minds : (e : End) (x : Option SenderSide) (a b : LaneSides) (i : End) → has_for_manager i (gathered e (λ g. record g { sender = x }) a b) ≡ has_for_manager i (Gathers a b)
same_minds side.Host x a b side.Host = refl
same_minds side.Host x a b side.Remote = refl
same_minds side.Remote x a b side.Host = refl
same_minds side.Remote x a b side.Remote = refl

-- and where it leaves a receiver's
less_minds : (e : End) (a b : LaneSides) (i : End) → has_for_manager i (gathered e (λ g. record g { receiver = None }) a b) ≡ true → has_for_manager i (Gathers a b) ≡ true
less_minds side.Host a b side.Host is = absurd (true-false (sym is))
less_minds side.Host a b side.Remote is = is
less_minds side.Remote a b side.Host is = is
less_minds side.Remote a b side.Remote is = absurd (true-false (sym is))

-- or takes one
more_minds : (e : End) (x : ReceiverSide) (a b : LaneSides) (i : End) → has_for_manager i (gathered e (λ g. record g { receiver = Some x }) a b) ≡ true → (has_for_manager i (Gathers a b) ≡ true) ⊎ (i ≡ e)
more_minds side.Host x a b side.Host is = inr refl
more_minds side.Host x a b side.Remote is = inl is
more_minds side.Remote x a b side.Host is = inl is
more_minds side.Remote x a b side.Remote is = inr refl

minds_at : (e : End) (a b : LaneSides) → has_for_manager e (Gathers a b) ≡ is_there (sides_at e a b).receiver
minds_at side.Host a b = refl
minds_at side.Remote a b = refl

-- the senders' turns that the manager has, where it takes or leaves a receiver's turn
same_senders : (e : End) (x : Option ReceiverSide) (a b : LaneSides) (i : End) → has_sender_for_manager i (gathered e (λ g. record g { receiver = x }) a b) ≡ has_sender_for_manager i (Gathers a b)
same_senders side.Host x a b side.Host = refl
same_senders side.Host x a b side.Remote = refl
same_senders side.Remote x a b side.Host = refl
same_senders side.Remote x a b side.Remote = refl

-- and where it takes or leaves a sender's
new_sender : (e : End) (x : SenderSide) (a b : LaneSides) → has_sender_for_manager e (gathered e (λ g. record g { sender = Some x }) a b) ≡ true
new_sender side.Host x a b = refl
new_sender side.Remote x a b = refl

with_sender : (e : End) (x : SenderSide) (a b : LaneSides) (i : End) → has_sender_for_manager i (Gathers a b) ≡ true → has_sender_for_manager i (gathered e (λ g. record g { sender = Some x }) a b) ≡ true
with_sender side.Host x a b side.Host has = refl
with_sender side.Host x a b side.Remote has = has
with_sender side.Remote x a b side.Host has = has
with_sender side.Remote x a b side.Remote has = refl

without_sender : (e : End) (a b : LaneSides) (i : End) → (i ≡ e → ⊥) → has_sender_for_manager i (Gathers a b) ≡ true → has_sender_for_manager i (gathered e (λ g. record g { sender = None }) a b) ≡ true
without_sender side.Host a b side.Host apart has = absurd (apart refl)
without_sender side.Host a b side.Remote apart has = has
without_sender side.Remote a b side.Host apart has = has
without_sender side.Remote a b side.Remote apart has = absurd (apart refl)

-- the receivers' turns, where it takes or leaves one
new_mind : (e : End) (x : ReceiverSide) (a b : LaneSides) → has_for_manager e (gathered e (λ g. record g { receiver = Some x }) a b) ≡ true
new_mind side.Host x a b = refl
new_mind side.Remote x a b = refl

with_mind : (e : End) (x : ReceiverSide) (a b : LaneSides) (i : End) → has_for_manager i (Gathers a b) ≡ true → has_for_manager i (gathered e (λ g. record g { receiver = Some x }) a b) ≡ true
with_mind side.Host x a b side.Host has = refl
with_mind side.Host x a b side.Remote has = has
with_mind side.Remote x a b side.Host has = has
with_mind side.Remote x a b side.Remote has = refl

without_mind : (e : End) (a b : LaneSides) (i : End) → (i ≡ e → ⊥) → has_for_manager i (Gathers a b) ≡ true → has_for_manager i (gathered e (λ g. record g { receiver = None }) a b) ≡ true
without_mind side.Host a b side.Host apart has = absurd (apart refl)
without_mind side.Host a b side.Remote apart has = has
without_mind side.Remote a b side.Host apart has = has
without_mind side.Remote a b side.Remote apart has = absurd (apart refl)

module _ {B : Type 0} {kc : Coded B} {kz : DeskTables} (cd : Coded (PlacedDesk kc kz)) (desk : DeskMeaning (PlacedDesk kc kz)) (z : LinkSizes) where
  -- who has a turn for the manager is the manager's own pass, or that of a caller in use
  somebody : (st : State Slot View) (m : LaneLink (RingState (PlacedDesk kc kz))) (r : Shows cd desk z st m 0) (id : ℕ) (v : View) (o : Mover v) (call : Call) → get_elem? st.views id ≡ some v → v.users ≡ m.callers → o.pass.number ≡ 64 → o.pass.call ≡ call → (F : Call → Bool)
      → IsKept F st.views → (F call ≡ true) ⊎ SomeInUse v
  somebody st m r id v o call at users own is F (j, l, q, there, has) = ⊎_elim
      (λ (manager : q.number ≡ 64). let n = r.numbers.places j l id o.place q o.pass there (v, at, o.here) (manager ∙ sym own) in
      let one : there.0 ≡ v = some-injective there.0 v (sym there.1 ∙ (ap (get_elem? st.views) n.0 ∙ at)) in
      let same : q ≡ o.pass = some-injective q o.pass (sym there.2 ∙ ((λ i. get_elem? (one i).passes (n.1 i)) ∙ o.here)) in inl (sym (ap F (ap (λ (p : Pass). p.call) same ∙ is)) ∙ has))
      (λ (user : (e : End) × (end_of m.callers q.number ≡ Some e)). inr (q.number, user.0, ap (λ (us : List (Option End)). end_of us q.number) users ∙ user.1))
      (in_use m 0 q.number q.call (r.turns.calls j l q there))

  -- the manager meets another's turn: it stays as it is, and so does the state
  meets_by : (st : State Slot View) (m : LaneLink (RingState (PlacedDesk kc kz))) (r : Shows cd desk z st m 0) (id i : ℕ) (me : SeatState) (o : Mover me.0) (d : Deed)
      → get_elem? st.views id ≡ some me.0 → MayDo desk m d → m ≡ after_deed desk m d → StepBy cd desk (ReadsAt i (get_or st.words i 0)) me o d me
  meets_by st m r id i me o d at may same = let before = r.turns.calls id o.place o.pass (me.0, at, o.here) in record {
    state = m;
    sound = state_in r;
    read = ap (λ (ws : List ℕ). get_or ws i 0) r.words_are;
    may = may;
    before = before;
    after = subst (λ (x : LaneLink (RingState _)). IsCallOf x 0 o.pass.number (call_at o.place me.0.passes)) same (subst (IsCallOf m 0 o.pass.number) (call_at_is me.0.passes o.place o.pass o.here) before);
    copy = λ k manages none_out was. let is = (r.numbers.manager id me.0 at manages).copy k was none_out in (is, was ∙ ap Some (is ∙ ap (copied cd) same));
  }

  -- the manager takes a sender's turn
  abbrev pub TakesSenderBy : (me : SeatState) → Mover me.0 → End → LaneSides → LaneSides → ℕ → SeatState → Type 0
  TakesSenderBy me o e a b n me' = (n ≡ 0 → (x : SenderSide) × (me' ≡ (with_pass me.0 o (with_call o.pass (gathered e (λ g. record g { sender = Some x }) a b)) me'.0.copy, (sender_slot e, Sender x) ∷ me.1))) × (n ≢ 0 → me' ≡ me) × (n ≤ 65) × (n ≢ 0 → IsHoldersWord me.0 (has_sender_for_manager e (Gathers a b)) (other e) n)

  gathers_sender : (id : ℕ) (me : SeatState) (o : Mover me.0) (e : End) (a b : LaneSides) → o.pass.call ≡ Gathers a b → (st : State Slot View) (m : LaneLink (RingState (PlacedDesk kc kz))) (r : Shows cd desk z st m 0) → get_elem? st.views id ≡ some me.0 → (lane_to m e).lane.sender ≡ turn.Free
      → (w : View) × (c : Act Slot) × Valid st.homes me.1 c × WordsRule cd desk z (stepped st (sender_word e) 65 id me.1 w c)
      × ((x : SenderSide) × Path (Me Slot View) (w, carried_after me.1 c) (with_pass me.0 o (with_call o.pass (gathered e (λ g. record g { sender = Some x }) a b)) w.copy, (sender_slot e, Sender x) ∷ me.1))
      × StepBy cd desk (ReadsAt (sender_word e) (get_or st.words (sender_word e) 0)) me o (ManagerTakes lane_turn.Sender e) (w, carried_after me.1 c)
  gathers_sender id me o e a b call st m r at free =
      let h : IsCallOf m 0 o.pass.number (Gathers a b) = subst (IsCallOf m 0 o.pass.number) call (r.turns.calls id o.place o.pass (me.0, at, o.here)) in
      let s₀ = lane_to m e in let s = with_turn s₀ turn.Free in let is : s₀ ≡ s = λ k. with_turn s₀ (free k) in let s' = with_turn s₀ turn.Manager in
      let x = sender_side s₀ in let w : Call = gathered e (λ g. record g { sender = Some x }) a b in let hb = lane_homes (lane_to m (other e)) (shelf_to r.shelves (other e)) in
      let deed : with_lane m e s' ≡ after_deed desk m (ManagerTakes lane_turn.Sender e) = ap (λ (t : Turn Sending). with_lane m e (with_turn s₀ (manager_takes t))) (sym free) in
      let mine : IsCallOf (with_lane m e s') 0 o.pass.number w = gathers_in m e s' o.pass.number (λ g. record g { sender = Some x }) a b h (gathered_sender (turns_of s₀) (turns_of s') (sides_at e a b) x refl refl refl refl) in (
        _,
        takes (sender_slot e) (Sender x),
        ap (λ hs. get_elem? hs (sender_slot e)) (homes_here cd desk z st m r e) ∙ (side_found e _ _ ∙ ap (λ (t : Turn Sending). some (home_if t (Sender x))) free),
        lane_moves_by cd desk z st m r e s s' is (sender_word e) 65 id me.1 me.0 o w o.pass.hands (takes (sender_slot e) (Sender x)) (ManagerTakes lane_turn.Sender e) (shelf_to r.shelves e) at tt
            deed
            (turn_set e (era_word m.era) 65 (lane_words s) (lane_words (lane_to m (other e))))
            (side_set e none (lane_homes s (shelf_to r.shelves e)) hb)
            (shelved_turn cd desk z s turn.Manager (shelf_to r.shelves e) refl (subst (λ (u : RingState (PlacedDesk kc kz)). HoldsBuffers u (shelf_to r.shelves e)) is ((buffers_in r) e)))
            mine
            (λ j l u there apart. others_free_send desk m e s' free refl refl refl (λ _. refl) u.number refl u.call)
            refl refl refl refl (r.histories.latest id o.place o.pass (me.0, at, o.here)) (hands_kept desk m e s' o.pass (λ was. was) (r.histories.hands id o.place o.pass (me.0, at, o.here))) (λ u apart. hands_kept desk m e s' u (λ was. was))
            (keepers_set st.views id me.0 (with_pass me.0 o (with_call o.pass w) (Some (copied cd (with_lane m e s')))) o (with_call o.pass w) at refl refl (λ i has. ap (has_for_manager i) call ∙ (sym (same_minds e (Some x) a b i) ∙ has)) r.turns.keepers)
            (keepers_lane m e s' st.views id me.0 (with_pass me.0 o (with_call o.pass w) (Some (copied cd (with_lane m e s')))) o (with_call o.pass w) at refl
            (λ _. inr (new_sender e x a b)) (λ was. inl was) (λ i _ has. with_sender e x a b i (sym (ap (has_sender_for_manager i) call) ∙ has)) (λ i _ has. same_minds e (Some x) a b i ∙ (sym (ap (has_for_manager i) call) ∙ has)) r.turns.some_keeper),
        (x, refl),
        read_by (sender_word e) cd desk z st m r id me o (with_call o.pass w) (ManagerTakes lane_turn.Sender e) (with_lane m e s') ((sender_slot e, Sender x) ∷ me.1) at tt deed mine,
      )

  pub takes_sender : (n id : ℕ) (me : SeatState) (o : Mover me.0) (e : End) (a b : LaneSides) → o.pass.call ≡ Gathers a b
      → Allows (WordsRule cd desk z) n id me (sender_word e) (λ y. either (eqb y 0) 65 y) (λ y me'. TakesSenderBy me o e a b y me' × StepBy cd desk (ReadsAt (sender_word e) y) me o (ManagerTakes lane_turn.Sender e) me')
  takes_sender n id me o e a b call st (m, p, r₀) wide at _ =
      let y : ℕ = get_or st.words (sender_word e) 0 in
      let h : IsCallOf m p o.pass.number (Gathers a b) = subst (IsCallOf m p o.pass.number) call (r₀.turns.calls id o.place o.pass (me.0, at, o.here)) in
      let r : Shows cd desk z st m 0 = subst (Shows cd desk z st m) h.1 r₀ in
      let found : y ≡ turn_word (lane_to m e).lane.sender = ap (λ (ws : List ℕ). get_or ws (sender_word e) 0) r₀.words_are ∙ seen_sender desk m p e in
      let most : y ≤ 65 = subst (λ (k : ℕ). k ≤ 65) (sym found) (sender_word_most desk m e r.numbers.many r.sound) in
      let users = (r₀.numbers.manager id me.0 at (o.place, o.pass, o.here, h.0)).users in let own = somebody st m r id me.0 o (Gathers a b) at users h.0 call (has_sender_for_manager e) in
      let holds : y ≢ 0 → IsHoldersWord me.0 (has_sender_for_manager e (Gathers a b)) (other e) y = λ held. ⊎_elim (λ user. inl user) (λ (w : (y ≡ 65) × ((lane_to m e).lane.sender ≡ turn.Manager)). inr (w.0, own (r.turns.some_keeper.senders e w.1))) (sender_word_held desk m e me.0.users y users r.sound found held) in
      exchanged y 0 65 (λ f. (w : View) × (c : Act Slot) × Valid st.homes me.1 c × WordsRule cd desk z (stepped st (sender_word e) f id me.1 w c)
      × (TakesSenderBy me o e a b y (w, carried_after me.1 c) × StepBy cd desk (ReadsAt (sender_word e) y) me o (ManagerTakes lane_turn.Sender e) (w, carried_after me.1 c)))
      (λ hit. let all = gathers_sender id me o e a b call st m r at (free_if (lane_to m e).lane.sender (sym found ∙ hit)) in
      (all.0, all.1, all.2, all.3, (((λ _. all.4), (λ never. absurd (never hit)), most, holds), all.5)))
      (λ miss. let same : m ≡ after_deed desk m (ManagerTakes lane_turn.Sender e) = sym (ap (λ (t : Turn Sending). with_lane m e (with_turn (lane_to m e) t)) (still_taken (lane_to m e).lane.sender (λ none. miss (found ∙ none))) ∙ same_lane m e) in (
        me.0,
        keeps,
        tt,
        stays cd desk z st m p r₀ (sender_word e) y id me.1 me.0 (ManagerTakes lane_turn.Sender e) at refl tt same,
        (((λ hit. absurd (miss hit)), (λ _. refl), most, holds), meets_by st m r id (sender_word e) me o (ManagerTakes lane_turn.Sender e) at tt same),
      ))

  -- the manager leaves it
  pub leaves_sender_turn : (n id : ℕ) (me : SeatState) (o : Mover me.0) (e : End) (a b : LaneSides) (x : SenderSide) → o.pass.call ≡ Gathers a b → (sides_at e a b).sender ≡ Some x → me.1 ≡ (sender_slot e, Sender x) ∷ rest me.1
      → Allows (WordsRule cd desk z) n id me (sender_word e) (λ _. 0)
      (λ _ me'. (me' ≡ (with_pass me.0 o (with_call o.pass (gathered e (λ g. record g { sender = None }) a b)) me'.0.copy, rest me.1)) × StepBy cd desk (WritesAt (sender_word e) 0) me o (ManagerLeaves lane_turn.Sender e) me')
  leaves_sender_turn n id me o e a b x call side_is has_slot st (m, p, r₀) wide at _ =
      let h₀ : IsCallOf m p o.pass.number (Gathers a b) = subst (IsCallOf m p o.pass.number) call (r₀.turns.calls id o.place o.pass (me.0, at, o.here)) in
      let r : Shows cd desk z st m 0 = subst (Shows cd desk z st m) h₀.1 r₀ in let h : IsCallOf m 0 o.pass.number (Gathers a b) = (h₀.0, refl, h₀.2, h₀.3) in
      let had = (here_gathered m e o.pass.number a b h).sender x side_is in
      let s₀ = lane_to m e in let s = with_turn s₀ turn.Manager in let is : s₀ ≡ s = λ k. with_turn s₀ (had.0 k) in let s' = with_turn s₀ turn.Free in
      let w : Call = gathered e (λ g. record g { sender = None }) a b in let ha = lane_homes s (shelf_to r.shelves e) in let hb = lane_homes (lane_to m (other e)) (shelf_to r.shelves (other e)) in
      let deed : with_lane m e s' ≡ after_deed desk m (ManagerLeaves lane_turn.Sender e) = ap (λ (t : Turn Sending). with_lane m e (with_turn s₀ (manager_leaves t))) (sym had.0) in
      let mine : IsCallOf (with_lane m e s') 0 o.pass.number w = gathers_in m e s' o.pass.number (λ g. record g { sender = None }) a b h (left_sender (turns_of s₀) (turns_of s') (sides_at e a b) refl refl) in (
        _,
        gives,
        tt,
        lane_moves_by cd desk z st m r e s s' is (sender_word e) 0 id me.1 me.0 o w o.pass.hands gives (ManagerLeaves lane_turn.Sender e) (shelf_to r.shelves e) at tt
            deed
            (turn_set e (era_word m.era) 0 (lane_words s) (lane_words (lane_to m (other e))))
            (ap (λ (cs : List (ℕ × Slot)). homes_after (homes_at e ha hb) cs gives) has_slot
            ∙ (side_set e (some (Sender x)) ha hb ∙ ap (λ (u : SenderSide). homes_at e (record ha { sender = some (Sender u) }) hb) had.1))
            (shelved_turn cd desk z s turn.Free (shelf_to r.shelves e) refl (subst (λ (u : RingState (PlacedDesk kc kz)). HoldsBuffers u (shelf_to r.shelves e)) is ((buffers_in r) e)))
            mine
            (λ j l u there apart. others_send desk m e s' turn.Manager o.pass.number had.0 (ap Some (sym h.0)) refl refl refl (λ _. refl) (λ k apart. refl) u.number apart u.call)
            refl refl refl refl (r.histories.latest id o.place o.pass (me.0, at, o.here)) (hands_kept desk m e s' o.pass (λ was. was) (r.histories.hands id o.place o.pass (me.0, at, o.here))) (λ u apart. hands_kept desk m e s' u (λ was. was))
            (keepers_set st.views id me.0 (with_pass me.0 o (with_call o.pass w) (Some (copied cd (with_lane m e s')))) o (with_call o.pass w) at refl refl (λ i has. ap (has_for_manager i) call ∙ (sym (same_minds e None a b i) ∙ has)) r.turns.keepers)
            (keepers_lane m e s' st.views id me.0 (with_pass me.0 o (with_call o.pass w) (Some (copied cd (with_lane m e s')))) o (with_call o.pass w) at refl
            (λ never. absurd (true-false (sym (ap is_manager never)))) (λ was. inl was) (λ i still has. without_sender e a b i (λ same. true-false (sym (ap is_manager (still same)))) (sym (ap (has_sender_for_manager i) call) ∙ has)) (λ i _ has. same_minds e None a b i ∙ (sym (ap (has_for_manager i) call) ∙ has)) r.turns.some_keeper),
        (refl, write_by (sender_word e) 0 cd desk z st m r id me o (with_call o.pass w) (ManagerLeaves lane_turn.Sender e) (with_lane m e s') (rest me.1) (sender_in m e s') at tt deed mine),
      )

  -- the manager takes a receiver's turn
  abbrev pub TakesReceiverBy : (me : SeatState) → Mover me.0 → End → LaneSides → LaneSides → ℕ → SeatState → Type 0
  TakesReceiverBy me o e a b n me' = (n ≡ 0 → (x : ReceiverSide) × (me' ≡ (with_pass me.0 o (with_call o.pass (gathered e (λ g. record g { receiver = Some x }) a b)) me'.0.copy, (receiver_slot e, Receiver x) ∷ me.1)) × AreInUse me.0 e x.hands) × (n ≢ 0 → me' ≡ me) × (n ≤ 65) × (n ≢ 0 → IsHoldersWord me.0 (has_for_manager e (Gathers a b)) e n)

  gathers_receiver : (id : ℕ) (me : SeatState) (o : Mover me.0) (e : End) (a b : LaneSides) → o.pass.call ≡ Gathers a b → (st : State Slot View) (m : LaneLink (RingState (PlacedDesk kc kz))) (r : Shows cd desk z st m 0) → get_elem? st.views id ≡ some me.0 → (lane_to m e).lane.receiver ≡ turn.Free
      → (w : View) × (c : Act Slot) × Valid st.homes me.1 c × WordsRule cd desk z (stepped st (receiver_word e) 65 id me.1 w c)
      × ((x : ReceiverSide) × Path (Me Slot View) (w, carried_after me.1 c) (with_pass me.0 o (with_call o.pass (gathered e (λ g. record g { receiver = Some x }) a b)) w.copy, (receiver_slot e, Receiver x) ∷ me.1) × AreInUse me.0 e x.hands)
      × StepBy cd desk (ReadsAt (receiver_word e) (get_or st.words (receiver_word e) 0)) me o (ManagerTakes lane_turn.Receiver e) (w, carried_after me.1 c)
  gathers_receiver id me o e a b call st m r at free =
      let h : IsCallOf m 0 o.pass.number (Gathers a b) = subst (IsCallOf m 0 o.pass.number) call (r.turns.calls id o.place o.pass (me.0, at, o.here)) in
      let s₀ = lane_to m e in let s = with_receiver s₀ turn.Free in let is : s₀ ≡ s = λ k. with_receiver s₀ (free k) in let s' = with_receiver s₀ turn.Manager in
      let x = receiver_side s₀ in let w : Call = gathered e (λ g. record g { receiver = Some x }) a b in let hb = lane_homes (lane_to m (other e)) (shelf_to r.shelves (other e)) in
      let deed : with_lane m e s' ≡ after_deed desk m (ManagerTakes lane_turn.Receiver e) = ap (λ (t : Turn Receiving). with_lane m e (with_receiver s₀ (manager_takes t))) (sym free) in
      let mine : IsCallOf (with_lane m e s') 0 o.pass.number w = gathers_in m e s' o.pass.number (λ g. record g { receiver = Some x }) a b h (gathered_receiver (turns_of s₀) (turns_of s') (sides_at e a b) x refl refl refl refl) in (
        _,
        takes (receiver_slot e) (Receiver x),
        ap (λ hs. get_elem? hs (receiver_slot e)) (homes_here cd desk z st m r e) ∙ (receiver_home e _ _ ∙ ap (λ (t : Turn Receiving). some (home_if t (Receiver x))) free),
        lane_moves_by cd desk z st m r e s s' is (receiver_word e) 65 id me.1 me.0 o w o.pass.hands (takes (receiver_slot e) (Receiver x)) (ManagerTakes lane_turn.Receiver e) (shelf_to r.shelves e) at tt
            deed
            (receiver_turn_set e (era_word m.era) 65 (lane_words s) (lane_words (lane_to m (other e))))
            (receiver_side_set e none (lane_homes s (shelf_to r.shelves e)) hb)
            (shelved_receiver s₀ s' (shelf_to r.shelves e) (ap receiver_is_out free) refl refl refl refl refl refl refl ((buffers_in r) e))
            mine
            (λ j l u there apart. others_beside desk m e s' refl refl refl u.number refl u.call (λ having had. free_for_all cd desk z m e 0 free u.number u.call having had))
            refl refl refl refl (r.histories.latest id o.place o.pass (me.0, at, o.here)) (hands_kept desk m e s' o.pass (λ was. was) (r.histories.hands id o.place o.pass (me.0, at, o.here))) (λ u apart. hands_kept desk m e s' u (λ was. was))
            (keepers_more st.views id me.0 (with_pass me.0 o (with_call o.pass w) (Some (copied cd (with_lane m e s')))) o (with_call o.pass w) at refl
            (λ i mine j l u there theirs. ⊎_elim
            (λ (was : has_for_manager i (Gathers a b) ≡ true). r.turns.keepers i id o.place j l o.pass u (me.0, at, o.here) there (ap (has_for_manager i) call ∙ was) theirs)
            (λ (same : i ≡ e). absurd (free_for_all cd desk z m e 0 free u.number u.call (minds_has cd desk z e u.call (subst (λ (q : End). has_for_manager q u.call ≡ true) same theirs)) (r.turns.calls j l u there)))
            (more_minds e x a b i mine))
            r.turns.keepers)
            (keepers_lane m e s' st.views id me.0 (with_pass me.0 o (with_call o.pass w) (Some (copied cd (with_lane m e s')))) o (with_call o.pass w) at refl
            (λ was. inl was) (λ _. inr (new_mind e x a b)) (λ i _ has. same_senders e (Some x) a b i ∙ (sym (ap (has_sender_for_manager i) call) ∙ has)) (λ i _ has. with_mind e x a b i (sym (ap (has_for_manager i) call) ∙ has)) r.turns.some_keeper),
        (x, refl, hands_in_use desk m e me.0.users (r.numbers.manager id me.0 at (o.place, o.pass, o.here, h.0)).users r.sound (rings_at r e)),
        read_by (receiver_word e) cd desk z st m r id me o (with_call o.pass w) (ManagerTakes lane_turn.Receiver e) (with_lane m e s') ((receiver_slot e, Receiver x) ∷ me.1) at tt deed mine,
      )

  pub takes_receiver : (n id : ℕ) (me : SeatState) (o : Mover me.0) (e : End) (a b : LaneSides) → o.pass.call ≡ Gathers a b
      → Allows (WordsRule cd desk z) n id me (receiver_word e) (λ y. either (eqb y 0) 65 y) (λ y me'. TakesReceiverBy me o e a b y me' × StepBy cd desk (ReadsAt (receiver_word e) y) me o (ManagerTakes lane_turn.Receiver e) me')
  takes_receiver n id me o e a b call st (m, p, r₀) wide at _ =
      let y : ℕ = get_or st.words (receiver_word e) 0 in
      let h : IsCallOf m p o.pass.number (Gathers a b) = subst (IsCallOf m p o.pass.number) call (r₀.turns.calls id o.place o.pass (me.0, at, o.here)) in
      let r : Shows cd desk z st m 0 = subst (Shows cd desk z st m) h.1 r₀ in
      let found : y ≡ turn_word (lane_to m e).lane.receiver = ap (λ (ws : List ℕ). get_or ws (receiver_word e) 0) r₀.words_are ∙ seen_receiver cd desk z m p e in
      let most : y ≤ 65 = subst (λ (k : ℕ). k ≤ 65) (sym found) (receiver_word_most desk m e r.numbers.many r.sound) in
      let users = (r₀.numbers.manager id me.0 at (o.place, o.pass, o.here, h.0)).users in let own = somebody st m r id me.0 o (Gathers a b) at users h.0 call (has_for_manager e) in
      let holds : y ≢ 0 → IsHoldersWord me.0 (has_for_manager e (Gathers a b)) e y = λ held. ⊎_elim (λ user. inl user) (λ (w : (y ≡ 65) × ((lane_to m e).lane.receiver ≡ turn.Manager)). inr (w.0, own (r.turns.some_keeper.receivers e w.1))) (receiver_word_held desk m e me.0.users y users r.sound found held) in
      exchanged y 0 65 (λ f. (w : View) × (c : Act Slot) × Valid st.homes me.1 c × WordsRule cd desk z (stepped st (receiver_word e) f id me.1 w c)
      × (TakesReceiverBy me o e a b y (w, carried_after me.1 c) × StepBy cd desk (ReadsAt (receiver_word e) y) me o (ManagerTakes lane_turn.Receiver e) (w, carried_after me.1 c)))
      (λ hit. let all = gathers_receiver id me o e a b call st m r at (free_if (lane_to m e).lane.receiver (sym found ∙ hit)) in
      (all.0, all.1, all.2, all.3, (((λ _. all.4), (λ never. absurd (never hit)), most, holds), all.5)))
      (λ miss. let same : m ≡ after_deed desk m (ManagerTakes lane_turn.Receiver e) = sym (ap (λ (t : Turn Receiving). with_lane m e (with_receiver (lane_to m e) t)) (still_taken (lane_to m e).lane.receiver (λ none. miss (found ∙ none))) ∙ same_lane m e) in (
        me.0,
        keeps,
        tt,
        stays cd desk z st m p r₀ (receiver_word e) y id me.1 me.0 (ManagerTakes lane_turn.Receiver e) at refl tt same,
        (((λ hit. absurd (miss hit)), (λ _. refl), most, holds), meets_by st m r id (receiver_word e) me o (ManagerTakes lane_turn.Receiver e) at tt same),
      ))

  -- the manager leaves it
  pub leaves_receiver_turn : (n id : ℕ) (me : SeatState) (o : Mover me.0) (e : End) (a b : LaneSides) (x : ReceiverSide) → o.pass.call ≡ Gathers a b → (sides_at e a b).receiver ≡ Some x → me.1 ≡ (receiver_slot e, Receiver x) ∷ rest me.1
      → Allows (WordsRule cd desk z) n id me (receiver_word e) (λ _. 0)
      (λ _ me'. (me' ≡ (with_pass me.0 o (with_call o.pass (gathered e (λ g. record g { receiver = None }) a b)) me'.0.copy, rest me.1)) × StepBy cd desk (WritesAt (receiver_word e) 0) me o (ManagerLeaves lane_turn.Receiver e) me')
  leaves_receiver_turn n id me o e a b x call side_is has_slot st (m, p, r₀) wide at _ =
      let h₀ : IsCallOf m p o.pass.number (Gathers a b) = subst (IsCallOf m p o.pass.number) call (r₀.turns.calls id o.place o.pass (me.0, at, o.here)) in
      let r : Shows cd desk z st m 0 = subst (Shows cd desk z st m) h₀.1 r₀ in let h : IsCallOf m 0 o.pass.number (Gathers a b) = (h₀.0, refl, h₀.2, h₀.3) in
      let had = (here_gathered m e o.pass.number a b h).receiver x side_is in
      let s₀ = lane_to m e in let s = with_receiver s₀ turn.Manager in let is : s₀ ≡ s = λ k. with_receiver s₀ (had.0 k) in let s' = with_receiver s₀ turn.Free in
      let w : Call = gathered e (λ g. record g { receiver = None }) a b in let ha = lane_homes s (shelf_to r.shelves e) in let hb = lane_homes (lane_to m (other e)) (shelf_to r.shelves (other e)) in
      let deed : with_lane m e s' ≡ after_deed desk m (ManagerLeaves lane_turn.Receiver e) = ap (λ (t : Turn Receiving). with_lane m e (with_receiver s₀ (manager_leaves t))) (sym had.0) in
      let mind : has_for_manager e o.pass.call ≡ true = ap (has_for_manager e) call ∙ (minds_at e a b ∙ ap is_there side_is) in
      let mine : IsCallOf (with_lane m e s') 0 o.pass.number w = gathers_in m e s' o.pass.number (λ g. record g { receiver = None }) a b h (left_receiver (turns_of s₀) (turns_of s') (sides_at e a b) refl refl) in (
        _,
        gives,
        tt,
        lane_moves_by cd desk z st m r e s s' is (receiver_word e) 0 id me.1 me.0 o w o.pass.hands gives (ManagerLeaves lane_turn.Receiver e) (shelf_to r.shelves e) at tt
            deed
            (receiver_turn_set e (era_word m.era) 0 (lane_words s) (lane_words (lane_to m (other e))))
            (ap (λ (cs : List (ℕ × Slot)). homes_after (homes_at e ha hb) cs gives) has_slot
            ∙ (receiver_side_set e (some (Receiver x)) ha hb ∙ ap (λ (u : ReceiverSide). homes_at e (record ha { receiver = some (Receiver u) }) hb) had.1))
            (shelved_receiver s₀ s' (shelf_to r.shelves e) (ap receiver_is_out had.0) refl refl refl refl refl refl refl ((buffers_in r) e))
            mine
            (λ j l u there apart. others_beside desk m e s' refl refl refl u.number refl u.call (λ having had'. alone cd desk z st m r e id me.0 o at mind had.0 j l u there apart having had'))
            refl refl refl refl (r.histories.latest id o.place o.pass (me.0, at, o.here)) (hands_kept desk m e s' o.pass (λ was. was) (r.histories.hands id o.place o.pass (me.0, at, o.here))) (λ u apart. hands_kept desk m e s' u (λ was. was))
            (keepers_set st.views id me.0 (with_pass me.0 o (with_call o.pass w) (Some (copied cd (with_lane m e s')))) o (with_call o.pass w) at refl refl (λ i has. ap (has_for_manager i) call ∙ less_minds e a b i has) r.turns.keepers)
            (keepers_lane m e s' st.views id me.0 (with_pass me.0 o (with_call o.pass w) (Some (copied cd (with_lane m e s')))) o (with_call o.pass w) at refl
            (λ was. inl was) (λ never. absurd (true-false (sym (ap is_manager never)))) (λ i _ has. same_senders e None a b i ∙ (sym (ap (has_sender_for_manager i) call) ∙ has)) (λ i still has. without_mind e a b i (λ same. true-false (sym (ap is_manager (still same)))) (sym (ap (has_for_manager i) call) ∙ has)) r.turns.some_keeper),
        (refl, write_by (receiver_word e) 0 cd desk z st m r id me o (with_call o.pass w) (ManagerLeaves lane_turn.Receiver e) (with_lane m e s') (rest me.1) (receiver_in m e s') at tt deed mine),
      )

  -- the word of this number was found to be this, in a state that fits the words
  abbrev pub SeesAt : ℕ → ℕ → LaneLink (RingState (PlacedDesk kc kz)) → LaneLink (RingState (PlacedDesk kc kz)) → Type 0
  SeesAt i y before after = ReadsAt i y before after × FitsWords z before

  -- the manager looks at a word, and nothing changes
  pub looks : (n id : ℕ) (me : SeatState) (o : Mover me.0) (i : ℕ) (a b : LaneSides) → o.pass.call ≡ Gathers a b → Allows (WordsRule cd desk z) n id me i (λ y. y) (λ y me'. (me' ≡ me) × StepBy cd desk (SeesAt i y) me o Nothing me')
  looks n id me o i a b call st (m, p, r₀) wide at _ =
      let h : IsCallOf m p o.pass.number (Gathers a b) = subst (IsCallOf m p o.pass.number) call (r₀.turns.calls id o.place o.pass (me.0, at, o.here)) in
      let r : Shows cd desk z st m 0 = subst (Shows cd desk z st m) h.1 r₀ in
      (me.0, keeps, tt, stays cd desk z st m p r₀ i (get_or st.words i 0) id me.1 me.0 Nothing at refl tt refl, (refl, stays_with (SeesAt i (get_or st.words i 0)) cd desk z st m r id me o Nothing at (ap (λ (ws : List ℕ). get_or ws i 0) r.words_are, fits cd desk z st m r) tt refl))
