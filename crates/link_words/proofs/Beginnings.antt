-- Step 1 of a call as its seat is told it, on the words of the table.
use Rattle.link_words.specs.declared.codes.DeskTables.{DeskTables}
use Rattle.link_words.specs.PlacedDesks.{PlacedDesk}
use Rattle.std.proofs.Common.{◌≡◌, ℕ, zero, suc, ◌+◌, ◌<◌, ◌≤◌, Bool, true, false, eqb, cond, ◌&&◌, ◌||◌, List, [], ◌∷◌, refl, sym, ap, ◌∙◌, subst, arith, eq-eqb}
use Rattle.std.specs.Prelude.{Some, IsTrue}
use mathlib.Core.Option.{some, some-ne-none, some-injective}
use lib.ListN.{get_elem?}
use prog.Atomic.{either}
use Rattle.atomic_table.specs.Table.{State, Allows}
use base.Stored.{Coded}
use Rattle.rp_base.specs.declared.kinds.End.{End}
use Rattle.rp_base.specs.declared.kinds.End.TheVariants as side
use Rattle.lane_model.specs.declared.calls.Wish.{Wish}
use Rattle.lane_model.specs.declared.calls.Wish.TheVariants as wish
use Rattle.lane_model.specs.declared.lane_links.LaneLink.{LaneLink}
use Rattle.lane_model.specs.declared.stages.SendStage.TheVariants as stage
use Rattle.lane_model.specs.declared.stages.Turn.TheVariants as turn
use Rattle.lane_model.specs.declared.stages.Work.{Work}
use Rattle.lane_model.specs.declared.states.Holding.{Holding}
use Rattle.lane_model.specs.Conditions.{IsFitWish}
use Rattle.lane_model.specs.Desks.{DeskMeaning}
use Rattle.lane_model.specs.Lanes.{holds}
use Rattle.lane_model.specs.Links.{Lanes, first_step, receive_first}
use Rattle.ring_core.specs.declared.states.RingState.{RingState}
use Rattle.ring_core.specs.Owners.{work_is_out}
use Rattle.ring_core.specs.RingSteps.{ring_form}
use Rattle.link_words.specs.declared.rule.Call.TheVariants.{Sends, Receives, Rests}
use Rattle.link_words.specs.declared.rule.LinkSizes.{LinkSizes}
use Rattle.link_words.specs.declared.rule.Slot.{Slot}
use Rattle.link_words.specs.declared.rule.Slot.TheVariants.{Sender, Receiver}
use Rattle.link_words.specs.declared.rule.View.{View}
use Rattle.link_words.specs.Calls.{SeatState, RestsAt, call_at}
use Rattle.link_words.specs.Deeds.{Steps}
use Rattle.link_words.specs.Histories.{hands_of, is_past_take_era}
use Rattle.link_words.specs.Layouts.{place_in}
use Rattle.link_words.specs.Passes.{HasNumber, with_call, place_of_number}
use Rattle.link_words.specs.Rule.{IsCallOf, Shows, PlacedRule}
use Rattle.link_words.specs.Steps.{IsStepOf, BeginsWith, IsFit, first_work, turn_word_for, TakesSender, TakesReceiver, TakesTurn, HasWord}
use Rattle.link_words.specs.Words.{other, lane_to, sender_word, receiver_word, sender_slot, receiver_slot}
use Rattle.link_words.proofs.Apart.{apart, sender_low, receiver_low}
use Rattle.link_words.specs.declared.rule.Made.TheVariants as made
use Rattle.link_words.specs.Rule.{WordsRule}
use Rattle.link_words.proofs.Notes.{noted_seat, becomes_noted, becomes_same, notes, step_noted}
use Rattle.link_words.proofs.Exact.{StepBy, number_is, becomes, step_told, ReadsAt, read_there}
use Rattle.link_words.proofs.Starts.{SendBeginsBy, starts}
use Rattle.link_words.proofs.TakeStarts.{takes_turn}
use Rattle.link_words.proofs.Tells.{TakeBeginsBy}

other_twice : (e : End) → other (other e) ≡ e
other_twice side.Host = refl
other_twice side.Remote = refl

-- what a pass has in hand is held
held_of : (c k : ℕ) (held : List Holding) → HasNumber (hands_of c held) k → IsTrue (holds held k c)
held_of c k [] (i, at) = absurd (some-ne-none k (sym at))
held_of c k (h ∷ hs) has = go (eqb h.caller c) refl has (held_of c k hs)
  where
    left : (b : Bool) → (true || b) ≡ true
    left b = refl

    right : (a b : Bool) → b ≡ true → (a || b) ≡ true
    right true b is = refl
    right false b is = is

    here : (h.number ≡ k) → eqb h.caller c ≡ true → holds (h ∷ hs) k c ≡ true
    here same mine = (λ i. (eq-eqb h.number k same i && mine i) || holds hs k c)

    go : (b : Bool) → eqb h.caller c ≡ b → HasNumber (cond b (h.number ∷ hands_of c hs) (hands_of c hs)) k → (HasNumber (hands_of c hs) k → IsTrue (holds hs k c)) → IsTrue (holds (h ∷ hs) k c)
    go true mine (zero, at) rec = here (some-injective h.number k at) mine
    go true mine (suc i, at) rec = right (eqb h.number k && eqb h.caller c) (holds hs k c) (rec (i, at))
    go false other has rec = right (eqb h.number k && eqb h.caller c) (holds hs k c) (rec has)

module _ {B : Type 0} {kc : Coded B} {kz : DeskTables} (cd : Coded (PlacedDesk kc kz)) (desk : DeskMeaning (PlacedDesk kc kz)) (z : LinkSizes) (n id : ℕ) (me : SeatState) (e : End) (number follows : ℕ) (s : RestsAt me e number) (new place : ℕ) (new_is : new ≡ number + 1) where
  suc_number : new ≡ suc s.mover.pass.number
  suc_number = let same = s.number in omega (arith, new_is, same)

  -- the step by its place and its number
  begin_told : (w : Wish) (i y : ℕ) (me' : SeatState) → place ≡ place_in i → StepBy cd desk (ReadsAt i y) me s.mover (Steps s.mover.pass.number follows (Some w)) me' → BeginsWith cd desk (HasWord place y) number follows w me (noted_seat (made.Turn y) (place_of_number number me.0.passes) me')
  begin_told w i y me' is step = let k = place_of_number number me.0.passes in
      read_there cd desk i place y is _ _ _ _ me (noted_seat (made.Turn y) k me') (step_noted cd desk z (ReadsAt i y) (Steps number follows (Some w)) number k (call_at k me.0.passes) me me' (made.Turn y)
      (subst (λ (j : ℕ). IsStepOf cd desk (ReadsAt i y) (Steps j follows (Some w)) j (call_at k me.0.passes) (call_at k me'.0.passes) me me') (sym (number_is me s.mover k s.here) ∙ s.number)
      (step_told me s.mover k s.here cd desk (ReadsAt i y) (λ j. Steps j follows (Some w)) me' step)))

  abbrev there : ℕ
  there = place_of_number number me.0.passes

  takes_sender : (message : List ℕ) (y : ℕ) (me' : SeatState) → SendBeginsBy cd desk z me s.mover (other e) follows message y me' → TakesSender (other e) number follows message me y (noted_seat (made.Turn y) there me')
  takes_sender message y me' t = (
    (λ free. let f = t.0 free in (
      f.0,
      f.1,
      becomes_noted (made.Turn y) (λ p. with_call p (Sends (other e) (turn.Taken number (record { follows = follows; message = message; stage = stage.Turn })) f.0 0)) there ((sender_slot (other e), Sender f.0) ∷ me.1) me me'
          (becomes me s.mover there s.here (λ p. with_call p (Sends (other e) (turn.Taken number (record { follows = follows; message = message; stage = stage.Turn })) f.0 0)) _ ((sender_slot (other e), Sender f.0) ∷ me.1) me'
          (ap (λ (k : ℕ). with_call s.mover.pass (Sends (other e) (turn.Taken k (record { follows = follows; message = message; stage = stage.Turn })) f.0 0)) s.number) f.2),
    )),
    (λ busy. becomes_noted (made.Turn y) (λ p. p) there me.1 me me' (becomes_same there me me' (t.1 busy))),
  )

  takes_receiver : (first : Work) (y : ℕ) (me' : SeatState) → TakeBeginsBy me s.mover e follows first y me' → TakesReceiver e number follows first me y (noted_seat (made.Turn y) there me')
  takes_receiver first y me' t = (
    (λ free. let f = t.0 free in (
      f.0,
      f.1,
      f.2,
      becomes_noted (made.Turn y) (λ p. with_call p (Receives e (turn.Taken number (record { follows = follows; work = first })) f.0 0 [])) there ((receiver_slot e, Receiver f.0) ∷ me.1) me me'
          (becomes me s.mover there s.here (λ p. with_call p (Receives e (turn.Taken number (record { follows = follows; work = first })) f.0 0 [])) _ ((receiver_slot e, Receiver f.0) ∷ me.1) me'
          (ap (λ (k : ℕ). with_call s.mover.pass (Receives e (turn.Taken k (record { follows = follows; work = first })) f.0 0 [])) s.number) f.3),
    )),
    (λ busy. becomes_noted (made.Turn y) (λ p. p) there me.1 me me' (becomes_same there me me' (t.1 busy))),
  )

  -- a first step, on the word of the table and noted
  begins_by : (w : Wish) (i : ℕ) (f : ℕ → ℕ) (T T' : ℕ → SeatState → Type 0) → place ≡ place_in i
      → Allows (WordsRule cd desk z) n id me i f (λ y me'. T y me' × (y ≤ 65) × StepBy cd desk (ReadsAt i y) me s.mover (Steps s.mover.pass.number follows (Some w)) me') → ((y : ℕ) (me' : SeatState) → T y me' → T' y (noted_seat (made.Turn y) there me'))
      → Allows (PlacedRule cd desk z) n id me place f (λ y me'. T' y me' × (y ≤ 65) × BeginsWith cd desk (HasWord place y) number follows w me me')
  begins_by w i f T T' is allows follows_told =
      apart cd desk z n id me i place f (λ y me'. T' y me' × (y ≤ 65) × BeginsWith cd desk (HasWord place y) number follows w me me') is
      (notes cd desk z n id me i f there (λ y me'. T y me' × (y ≤ 65) × StepBy cd desk (ReadsAt i y) me s.mover (Steps s.mover.pass.number follows (Some w)) me') (λ y me'. T' y me' × (y ≤ 65) × BeginsWith cd desk (HasWord place y) number follows w me me')
      (λ y me' t. made.Turn y) allows (λ y me' t. (follows_told y me' t.0, t.1, begin_told w i y me' is t.2)))

  send_begins : (message : List ℕ) → IsFit (wish.Send message) s.mover.pass.hands → place ≡ place_in (sender_word (other e))
      → Allows (PlacedRule cd desk z) n id me place (λ y. either (eqb y 0) new y) (λ y me'. TakesTurn e number follows (wish.Send message) me y me' × (y ≤ 65) × BeginsWith cd desk (HasWord place y) number follows (wish.Send message) me me')
  send_begins message fits is = begins_by (wish.Send message) (sender_word (other e)) (λ y. either (eqb y 0) new y) (SendBeginsBy cd desk z me s.mover (other e) follows message) (TakesSender (other e) number follows message me) is
      (starts cd desk z n id me s.mover (other e) follows new message fits (s.call ∙ ap Rests (sym (other_twice e))) suc_number) (takes_sender message)

  work_begins : (w : Wish) (first : Work) → ((lanes : Lanes (RingState (PlacedDesk kc kz))) (caller : ℕ) → first_step (ring_form desk) lanes caller follows w ≡ receive_first (ring_form desk) lanes caller follows first) → work_is_out first ≡ false → is_past_take_era first ≡ false
      → ((st : State Slot View) (m : LaneLink (RingState (PlacedDesk kc kz))) (p : ℕ) → Shows cd desk z st m p → get_elem? st.views id ≡ some me.0 → IsFitWish w (lane_to m e).lane.lane.held s.mover.pass.number) → place ≡ place_in (receiver_word e)
      → Allows (PlacedRule cd desk z) n id me place (λ y. either (eqb y 0) new y) (λ y me'. TakesReceiver e number follows first me y me' × (y ≤ 65) × BeginsWith cd desk (HasWord place y) number follows w me me')
  work_begins w first begins inside early fits is = begins_by w (receiver_word e) (λ y. either (eqb y 0) new y) (TakeBeginsBy me s.mover e follows first) (TakesReceiver e number follows first me) is
      (takes_turn desk w first follows begins cd z id me s.mover e s.call inside early fits n new suc_number) (takes_receiver first)

  give_fits : (k : ℕ) → HasNumber s.mover.pass.hands k → (st : State Slot View) (m : LaneLink (RingState (PlacedDesk kc kz))) (p : ℕ) → Shows cd desk z st m p → get_elem? st.views id ≡ some me.0 → IsFitWish (wish.Give k) (lane_to m e).lane.lane.held s.mover.pass.number
  give_fits k has st m p r at =
      let rests : IsCallOf m p s.mover.pass.number (Rests e) = subst (IsCallOf m p s.mover.pass.number) s.call (r.turns.calls id s.mover.place s.mover.pass (me.0, at, s.mover.here)) in
      let held = r.histories.hands id s.mover.place s.mover.pass (me.0, at, s.mover.here) e rests.0 in
      held_of s.mover.pass.number k (lane_to m e).lane.lane.held (subst (λ (l : List ℕ). HasNumber l k) (sym held) has)

  -- step 1 of what a caller wishes
  pub call_begins : (w : Wish) → IsFit w s.mover.pass.hands → place ≡ place_in (turn_word_for e w)
      → Allows (PlacedRule cd desk z) n id me place (λ y. either (eqb y 0) new y) (λ y me'. TakesTurn e number follows w me y me' × (y ≤ 65) × BeginsWith cd desk (HasWord place y) number follows w me me')
  call_begins (wish.Send message) fits is = send_begins message fits is
  call_begins wish.Take fits is = work_begins wish.Take (first_work wish.Take) (λ lanes caller. refl) refl refl (λ st m p r at. tt) is
  call_begins (wish.Give k) fits is = work_begins (wish.Give k) (first_work (wish.Give k)) (λ lanes caller. refl) refl refl (give_fits k fits) is
  call_begins (wish.Bind address) fits is = work_begins (wish.Bind address) (first_work (wish.Bind address)) (λ lanes caller. refl) refl refl (λ st m p r at. tt) is
  call_begins (wish.Unbind address) fits is = work_begins (wish.Unbind address) (first_work (wish.Unbind address)) (λ lanes caller. refl) refl refl (λ st m p r at. tt) is

-- the word of a turn stands before the entries
pub wish_low : (e : End) (w : Wish) → place_in (turn_word_for e w) < 160
wish_low e (wish.Send message) = sender_low (other e)
wish_low e wish.Take = receiver_low e
wish_low e (wish.Give k) = receiver_low e
wish_low e (wish.Bind address) = receiver_low e
wish_low e (wish.Unbind address) = receiver_low e
