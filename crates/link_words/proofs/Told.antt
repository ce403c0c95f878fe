-- Each step of a send and of a take as its seat is told it, on the words of the table.
use Rattle.link_words.specs.declared.codes.DeskTables.{DeskTables}
use Rattle.link_words.specs.PlacedDesks.{PlacedDesk, IsRightTo, right_to, table_at, no_right, placed_meaning, placed_coded}
use Rattle.link_words.specs.declared.codes.DeskRight.{DeskRight}
use Rattle.rp_base.specs.declared.limits.TheConstants.{CAPACITY_MOST}
use Rattle.ring_core.specs.declared.states.Hand.{Hand}
use Rattle.std.proofs.Common.{◌≡◌, ℕ, ◌+◌, ◌-◌, ◌*◌, ◌%◌, ◌<◌, ◌≤◌, true, false, Bool, cond, List, [], ◌∷◌, ◌++◌, length, refl, sym, ap, ◌∙◌, subst, arith, ◌⊎◌}
use Rattle.std.specs.Prelude.{None, if◌then◌else◌}
use Rattle.atomic_table.specs.Table.{Allows, rest}
use base.Stored.{Coded}
use Rattle.rp_base.specs.declared.kinds.End.{End}
use Rattle.rp_base.specs.declared.kinds.End.TheVariants as side
use Rattle.rp_base.specs.declared.kinds.Era.{Era}
use Rattle.lane_model.specs.declared.calls.CallEnd.TheVariants as end
use Rattle.lane_model.specs.Lanes.{is_live_in}
use Rattle.link_words.specs.declared.rule.Counted.TheVariants.{Room, Waiting, Gave}
use Rattle.link_words.specs.declared.rule.Event.{Event}
use Rattle.link_words.specs.declared.rule.Event.TheVariants.{Count, Publish, Take}
use Rattle.link_words.specs.Histories.{NeverBack, latest}
use Rattle.link_words.specs.declared.rule.Ring.TheVariants as ring
use Rattle.lane_model.specs.declared.stages.GiveStage.TheVariants as give_stage
use Rattle.lane_model.specs.declared.stages.SendStage.TheVariants as stage
use Rattle.lane_model.specs.declared.stages.TakeStage.TheVariants as take_stage
use Rattle.lane_model.specs.declared.stages.Turn.{Turn}
use Rattle.lane_model.specs.declared.stages.Turn.TheVariants as turn
use Rattle.lane_model.specs.declared.stages.Sending.{Sending}
use Rattle.lane_model.specs.declared.stages.Receiving.{Receiving}
use Rattle.lane_model.specs.declared.stages.Work.TheVariants as work
use Rattle.lane_model.specs.Desks.{DeskMeaning}
use Rattle.lane_model.specs.Sends.{after_send_era}
use Rattle.lane_model.specs.Receives.{after_take_era}
use Rattle.ring_core.specs.declared.states.RingSizes.{RingSizes}
use Rattle.ring_core.specs.Rings.{return_count, entry_length}
use Rattle.link_words.specs.declared.rule.Call.{Call}
use Rattle.link_words.specs.declared.rule.Call.TheVariants.{Sends, Receives, Rests}
use Rattle.link_words.specs.declared.rule.LinkSizes.{LinkSizes}
use Rattle.link_words.specs.declared.rule.Pass.{Pass}
use Rattle.link_words.specs.declared.rule.ReceiverSide.{ReceiverSide}
use Rattle.link_words.specs.declared.rule.SenderSide.{SenderSide}
use Rattle.link_words.specs.declared.rule.Slot.{Slot}
use Rattle.link_words.specs.declared.rule.Slot.TheVariants.{Buffer}
use Rattle.link_words.specs.Calls.{SeatState, SendAt, WorkAt, SendEnds, ReceiveEnds, send_or, receive_or, under_way_or, with_send, with_receive, place_of, call_at, number_at, Becomes, Notes}
use Rattle.link_words.specs.declared.rule.Made.{Made}
use Rattle.link_words.specs.declared.rule.Made.TheVariants as made
use Rattle.link_words.proofs.Notes.{noted_seat, becomes_noted, notes, step_noted}
use Rattle.link_words.proofs.Weakens.{weaken}
use Rattle.link_words.specs.Deeds.{Steps}
use Rattle.link_words.specs.Layouts.{place_in}
use Rattle.link_words.specs.Parts.{AreNear}
use Rattle.link_words.specs.Passes.{Mover, with_call, with_pass}
use Rattle.link_words.specs.Rule.{WordsRule, PlacedRule, LinkRule}
use Rattle.link_words.specs.Steps.{accepted_side, room_by, taker_room_by, GoesOn, desk_by, hands_by, handed_side, with_binding, desk_says, desk_after, GoesOnWith, SendLoadsEra, SendLooks, SendTakesBuffer, SendStoresEntry, SendPublishes, LeavesSender, TakeLoadsEra, TakeLooks, TakeTakesBuffer, TakeHands, LeavesReceiver, look_turn, take_look_turn, sizes_by, accepted_by, handed_by, with_publish, with_handing, GiveStoresEntry, GivePublishes, with_room, with_waiting, BindLoadsEra, with_entry, with_given, given_or, hands_but, StoresWord, HasWord}
use Rattle.link_words.specs.Words.{other, sizes_at, entries_before, entry_number, sender_word, receiver_word, forward_word, return_word, buffer_slot}
use Rattle.link_words.proofs.Apart.{apart}
use Rattle.link_words.proofs.Buffers.{pulls_own}
use Rattle.link_words.proofs.Entries.{pulls_entry, forward_entry, sizes_known}
use Rattle.link_words.proofs.Exact.{StepBy, call_is, own_is, in_hand_is, becomes, step_told, ReadsAt, read_there, WritesAt, written_there}
use Rattle.link_words.proofs.Looks.{sends_look, sends_entry}
use Rattle.link_words.proofs.Orderly.{orders}
use Rattle.link_words.specs.Orderly.{IsOrderly}
use Rattle.link_words.proofs.Publishes.{publishes}
use Rattle.link_words.proofs.SendEnds.{leaves}
use Rattle.link_words.proofs.Sends.{sends_era}
use Rattle.link_words.proofs.TakeEnds.{leaves_take}
use Rattle.link_words.proofs.TakeStarts.{takes_era, takes_look}
use Rattle.link_words.proofs.Takes.{draws, hands}
use Rattle.link_words.proofs.Tells.{SendLoadsEraBy, SendLooksBy, SendTakesBufferBy, SendStoresEntryBy, SendPublishesBy, SendLeavesBy, TakeLoadsEraBy, TakeLooksBy, TakeTakesBufferBy, TakeHandsBy, GivesBackBy, BindLoadsEraBy}
use Rattle.link_words.proofs.Gives.{gives_entry, gives_back, binds}
use Rattle.ring_core.specs.RingSteps.{held_buffer, hands_without}
use Rattle.lane_model.specs.declared.stages.Work.{Work}

abbrev send_to : (SenderSide → ℕ → Sending → Turn Sending) → Pass → Call → Pass
send_to next p k = with_call p (send_or k (λ e t x b. Sends e (under_way_or t (next x) t) x b) k)

abbrev receive_to : (ReceiverSide → ℕ → Receiving → Turn Receiving) → Pass → Call → Pass
receive_to next p k = with_call p (receive_or k (λ e t x b message. Receives e (under_way_or t (next x) t) x b message) k)

abbrev with_handing_of : {D : Type 0} → Coded D → DeskMeaning D → Era → D → Pass → Call → Pass
with_handing_of coded meaning era desk p k = receive_or p (λ e t x b message. under_way_or p (λ caller r. if is_live_in era r.follows
    then record p {
      call = Receives e (turn.Leaving caller (end.Took x.handed (meaning.verdict desk x.handed message))) (handed_side coded meaning desk x caller b message) b message;
      own = Take e r.follows x.handed message ∷ p.own;
      hands = p.hands ++ x.handed ∷ [];
    }
    else with_call p (Receives e (turn.Leaving caller (end.Dead era)) x b message)) t) k

abbrev with_binding_of : {D : Type 0} → Coded D → DeskMeaning D → Era → D → Pass → Call → Pass
with_binding_of coded meaning era desk p k = receive_or p (λ e t x b message. under_way_or p (λ caller r. if is_live_in era r.follows
    then with_call p (Receives e (turn.Leaving caller (desk_says meaning desk x.handed r.work)) (record x { desk = record x.desk { code = coded.code (desk_after meaning desk x.handed r.work) } }) b message)
    else with_call p (Receives e (turn.Leaving caller (end.Dead era)) x b message)) t) k

abbrev room_to : ℕ → ℕ → ℕ → Pass → Call → Pass
room_to returned capacity book p k = send_or p (λ e t x b. under_way_or p (λ caller s. record p {
  call = Sends e (look_turn x.accepted returned capacity book caller s) x b;
  own = Count e s.follows (Room x.accepted returned) ∷ p.own;
}) t) k

abbrev waiting_to : ℕ → Pass → Call → Pass
waiting_to accepted p k = receive_or p (λ e t x b message. under_way_or p (λ caller r. record p {
  call = Receives e (take_look_turn x.handed accepted caller r) x b message;
  own = Count e r.follows (Waiting x.handed accepted) ∷ p.own;
}) t) k

abbrev given_to : ℕ → Pass → Call → Pass
given_to inc p k = receive_or p (λ e t x b message. under_way_or p (λ caller r. given_or p (λ number. record p {
  call = Receives e (turn.Leaving caller (end.Gave number)) (record x { returned = x.returned + 1; hands = hands_without x.hands number }) b message;
  own = Count e inc (Gave (x.returned + 1)) ∷ p.own;
  hands = hands_but p.hands number;
}) r.work) t) k

abbrev lane_in : Call → End
lane_in k = send_or (receive_or side.Host (λ e t x b message. e) k) (λ e t x b. e) k

abbrev follows_in : Call → ℕ
follows_in k = send_or (receive_or 0 (λ e t x b message. under_way_or 0 (λ caller r. r.follows) t) k) (λ e t x b. under_way_or 0 (λ caller s. s.follows) t) k

-- the view in which the mover is another pass, with the step noted
becomes_with : (noting : Made) (me : SeatState) (o : Mover me.0) (k : ℕ) → o.place ≡ k → (f : Pass → Pass) (w : Pass) (slots : List (ℕ × Slot)) (me' : SeatState) → w ≡ f o.pass → me' ≡ (with_pass me.0 o w me'.0.copy, slots) → Notes noting f k slots me (noted_seat noting k me')
becomes_with noting me o k place f w slots me' is told = becomes_noted noting f k slots me me' (becomes me o k place f w slots me' is told)

-- the call of the pass that steps
send_here : (me : SeatState) (e : End) (q : _) (s : SendAt me e q) → call_at (place_of me) me.0.passes ≡ Sends e (turn.Taken s.caller (record { follows = s.follows; message = s.message; stage = q })) s.side s.buffer
send_here me e q s = sym (call_is me s.mover (place_of me) s.here) ∙ s.call

work_here : (me : SeatState) (e : End) (w : _) (s : WorkAt me e w) → call_at (place_of me) me.0.passes ≡ Receives e (turn.Taken s.caller (record { follows = s.follows; work = w })) s.side s.buffer s.message
work_here me e w s = sym (call_is me s.mover (place_of me) s.here) ∙ s.call

pub send_accepted : (me : SeatState) (e : End) (q : _) (s : SendAt me e q) → accepted_by me ≡ s.side.accepted
send_accepted me e q s = ap (λ (k : Call). send_or 0 (λ e t x b. x.accepted) k) (send_here me e q s)

pub send_room : (me : SeatState) (e : End) (q : _) (s : SendAt me e q) → room_by me ≡ s.side.room
send_room me e q s = ap (λ (k : Call). send_or 0 (λ e t x b. x.room) k) (send_here me e q s)

pub work_handed : (me : SeatState) (e : End) (w : _) (s : WorkAt me e w) → handed_by me ≡ s.side.handed
work_handed me e w s = ap (λ (k : Call). receive_or 0 (λ e t x b message. x.handed) k) (work_here me e w s)

pub send_sizes : (z : LinkSizes) (me : SeatState) (e : End) (q : _) (s : SendAt me e q) → me.0.sizes ≡ z → sizes_by me ≡ sizes_at z e
send_sizes z me e q s sized = λ i. sizes_at (sized i) (ap lane_in (send_here me e q s) i)

work_sizes : (z : LinkSizes) (me : SeatState) (e : End) (w : _) (s : WorkAt me e w) → me.0.sizes ≡ z → sizes_by me ≡ sizes_at z e
work_sizes z me e w s sized = λ i. sizes_at (sized i) (ap lane_in (work_here me e w s) i)

module _ {B : Type 0} {kc : Coded B} {kz : DeskTables} (cd : Coded (PlacedDesk kc kz)) (desk : DeskMeaning (PlacedDesk kc kz)) (z : LinkSizes) (n id : ℕ) (me : SeatState) (e : End) where
  -- a later step of a call at a store, on the word of the table, told by the place of the pass that steps
  stored_plain : (i place new : ℕ) (o : Mover me.0) → o.place ≡ place_of me → (T T' : ℕ → SeatState → Type 0) → place ≡ place_in i
      → Allows (WordsRule cd desk z) n id me i (λ _. new) (λ y me'. T y me' × StepBy cd desk (WritesAt i new) me o (Steps o.pass.number 0 None) me') → ((y : ℕ) (me' : SeatState) → T y me' → T' y me')
      → Allows (PlacedRule cd desk z) n id me place (λ _. new) (λ y me'. T' y me' × GoesOnWith cd desk (StoresWord place new) me me')
  stored_plain i place new o here T T' is allows follows s kept long at wide =
      let a = apart cd desk z n id me i place (λ _. new) (λ y me'. T y me' × StepBy cd desk (WritesAt i new) me o (Steps o.pass.number 0 None) me') is allows s kept long at wide in
      (a.0, a.1, a.2, a.3, (follows _ _ a.4.0, written_there cd desk i place new is _ _ _ _ me _ (step_told me o (place_of me) here cd desk (WritesAt i new) (λ k. Steps k 0 None) _ a.4.1)))

  -- the same at a load
  told_plain : (i place : ℕ) (f : ℕ → ℕ) (o : Mover me.0) → o.place ≡ place_of me → (T T' : ℕ → SeatState → Type 0) → place ≡ place_in i
      → Allows (WordsRule cd desk z) n id me i f (λ y me'. T y me' × StepBy cd desk (ReadsAt i y) me o (Steps o.pass.number 0 None) me') → ((y : ℕ) (me' : SeatState) → T y me' → T' y me')
      → Allows (PlacedRule cd desk z) n id me place f (λ y me'. T' y me' × GoesOnWith cd desk (HasWord place y) me me')
  told_plain i place f o here T T' is allows follows s kept long at wide =
      let a = apart cd desk z n id me i place f (λ y me'. T y me' × StepBy cd desk (ReadsAt i y) me o (Steps o.pass.number 0 None) me') is allows s kept long at wide in
      (a.0, a.1, a.2, a.3, (follows _ _ a.4.0, read_there cd desk i place _ is _ _ _ _ me _ (step_told me o (place_of me) here cd desk (ReadsAt i _) (λ k. Steps k 0 None) _ a.4.1)))

  -- at a store, with the step noted
  stored_by : (i place new : ℕ) (o : Mover me.0) → o.place ≡ place_of me → (T T' : ℕ → SeatState → Type 0) → place ≡ place_in i → (noting : Made)
      → Allows (WordsRule cd desk z) n id me i (λ _. new) (λ y me'. T y me' × StepBy cd desk (WritesAt i new) me o (Steps o.pass.number 0 None) me') → ((y : ℕ) (me' : SeatState) → T y me' → T' y (noted_seat noting (place_of me) me'))
      → Allows (PlacedRule cd desk z) n id me place (λ _. new) (λ y me'. T' y me' × GoesOnWith cd desk (StoresWord place new) me me')
  stored_by i place new o here T T' is noting allows follows =
      let k = place_of me in
      let told : ℕ → SeatState → Type 0 = λ y me'. T y me' × StepBy cd desk (WritesAt i new) me o (Steps o.pass.number 0 None) me' in let tells : ℕ → SeatState → Type 0 = λ y me'. T' y me' × GoesOnWith cd desk (WritesAt i new) me me' in
      weaken (PlacedRule cd desk z) n id me place (λ _. new) tells (λ y me'. T' y me' × GoesOnWith cd desk (StoresWord place new) me me') (λ y me' t. (t.0, written_there cd desk i place new is _ _ _ _ me me' t.1))
      (apart cd desk z n id me i place (λ _. new) tells is (notes cd desk z n id me i (λ _. new) k told tells (λ y me' t. noting) allows
      (λ y me' t. (follows y me' t.0, step_noted cd desk z (WritesAt i new) (Steps (number_at k me.0.passes) 0 None) (number_at k me.0.passes) k (call_at k me.0.passes) me me' noting (step_told me o k here cd desk (WritesAt i new) (λ j. Steps j 0 None) me' t.1)))))

  -- the same at a load
  told_by : (i place : ℕ) (f : ℕ → ℕ) (o : Mover me.0) → o.place ≡ place_of me → (T T' : ℕ → SeatState → Type 0) → place ≡ place_in i → (noting : (y : ℕ) (me' : SeatState) → T y me' → Made)
      → Allows (WordsRule cd desk z) n id me i f (λ y me'. T y me' × StepBy cd desk (ReadsAt i y) me o (Steps o.pass.number 0 None) me') → ((y : ℕ) (me' : SeatState) (t : T y me') → T' y (noted_seat (noting y me' t) (place_of me) me'))
      → Allows (PlacedRule cd desk z) n id me place f (λ y me'. T' y me' × GoesOnWith cd desk (HasWord place y) me me')
  told_by i place f o here T T' is noting allows follows =
      let k = place_of me in
      let told : ℕ → SeatState → Type 0 = λ y me'. T y me' × StepBy cd desk (ReadsAt i y) me o (Steps o.pass.number 0 None) me' in let tells : ℕ → SeatState → Type 0 = λ y me'. T' y me' × GoesOnWith cd desk (ReadsAt i y) me me' in
      weaken (PlacedRule cd desk z) n id me place f tells (λ y me'. T' y me' × GoesOnWith cd desk (HasWord place y) me me') (λ y me' t. (t.0, read_there cd desk i place y is _ _ _ _ me me' t.1))
      (apart cd desk z n id me i place f tells is (notes cd desk z n id me i f k told tells (λ y me' t. noting y me' t.0) allows
      (λ y me' t. (follows y me' t.0, step_noted cd desk z (ReadsAt i y) (Steps (number_at k me.0.passes) 0 None) (number_at k me.0.passes) k (call_at k me.0.passes) me me' (noting y me' t.0) (step_told me o k here cd desk (ReadsAt i y) (λ j. Steps j 0 None) me' t.1)))))

  pub send_loads_era : (s : SendAt me e stage.Turn) → Allows (PlacedRule cd desk z) n id me 16 (λ y. y) (λ y me'. SendLoadsEra me y me' × GoesOnWith cd desk (HasWord 16 y) me me')
  send_loads_era s = told_by 1 16 (λ y. y) s.mover s.here (SendLoadsEraBy me s.mover e s.caller (record { follows = s.follows; message = s.message; stage = stage.Turn }) s.side s.buffer) (λ y me'. SendLoadsEra me y me') refl (λ y me' t. made.Era t.0)
      (sends_era cd desk z n id me s.mover e s.caller s.follows s.message s.side s.buffer s.call)
      (λ y me' t₀. (t₀.0, t₀.1, t₀.2, becomes_with (made.Era t₀.0) me s.mover (place_of me) s.here (with_send (λ x caller q. after_send_era t₀.0 caller q)) _ me.1 me' (ap (send_to (λ x caller q. after_send_era t₀.0 caller q) s.mover.pass) (sym s.call)) t₀.3))

  pub send_looks : (s : SendAt me e stage.Era) (place : ℕ) → place ≡ place_in (return_word e) → me.0.sizes ≡ z → Allows (PlacedRule cd desk z) n id me place (λ y. y) (λ y me'. SendLooks me y me' × GoesOnWith cd desk (HasWord place y) me me')
  send_looks s place is sized = told_plain (return_word e) place (λ y. y) s.mover s.here (SendLooksBy me s.mover (sizes_at z e) z.book e s.caller (record { follows = s.follows; message = s.message; stage = stage.Era }) s.side s.buffer) (λ y me'. SendLooks me y me') is
      (sends_look cd desk z n id me s.mover e s.caller s.follows s.message s.side s.buffer s.call)
      (λ y me' t₀. let t = t₀ in
      subst (λ (v : RingSizes × ℕ × ℕ × End × ℕ × List Event). (returned : ℕ) × (y ≡ return_count v.0 returned % 65536) × AreNear v.0.capacity v.1 returned × NeverBack v.3 v.4 (Room v.1 returned) v.5 × Becomes (with_room returned v.0.capacity v.2) (place_of me) me.1 me me')
      (λ i. (sym (send_sizes z me e stage.Era s sized) i, sym (send_accepted me e stage.Era s) i, (sym sized i).book, sym (ap lane_in (send_here me e stage.Era s)) i, sym (ap follows_in (send_here me e stage.Era s)) i, own_is me s.mover (place_of me) s.here i))
      (t.0, t.1, (t.2, t.3), t.4, becomes me s.mover (place_of me) s.here (with_room t.0 (sizes_at z e).capacity z.book) _ me.1 me' (ap (room_to t.0 (sizes_at z e).capacity z.book s.mover.pass) (sym s.call)) t.5))

  -- a buffer goes out: the send's call, and its slot by the sizes that the view has
  buffer_told : (s : SendAt me e stage.Look) (buffer : ℕ) (me' : SeatState) → me.0.sizes ≡ z
      → (y : Slot) × (me' ≡ (with_pass me.0 s.mover (with_call s.mover.pass (Sends e (turn.Taken s.caller (record { follows = s.follows; message = s.message; stage = stage.Buffer })) s.side buffer)) me'.0.copy, (buffer_slot z.to_host.capacity e buffer, y) ∷ me.1))
      → SendTakesBuffer buffer me (noted_seat (made.Buffer buffer) (place_of me) me')
  buffer_told s buffer me' sized t₀ =
      let F : Pass → Call → Pass = λ p k. with_call p (send_or k (λ e t x b. Sends e (under_way_or t (λ caller q. turn.Taken caller (record q { stage = stage.Buffer })) t) x buffer) k) in
      subst (λ (v : ℕ × End). (y : Slot) × Notes (made.Buffer buffer) (λ p. F p p.call) (place_of me) ((buffer_slot v.0 v.1 buffer, y) ∷ me.1) me (noted_seat (made.Buffer buffer) (place_of me) me'))
      (λ i. ((sym sized i).to_host.capacity, sym (ap lane_in (send_here me e stage.Look s)) i))
      (t₀.0, becomes_with (made.Buffer buffer) me s.mover (place_of me) s.here (λ p. F p p.call) _ ((buffer_slot z.to_host.capacity e buffer, t₀.0) ∷ me.1) me' (ap (F s.mover.pass) (sym s.call)) t₀.1)

  pub send_takes_own : (s : SendAt me e stage.Look) (i place : ℕ) → place ≡ place_in i → me.0.sizes ≡ z → accepted_by me < (sizes_by me).own
      → Allows (PlacedRule cd desk z) n id me place (λ y. y) (λ y me'. SendTakesBuffer (accepted_by me) me me' × GoesOnWith cd desk (HasWord place y) me me')
  send_takes_own s i place is sized early =
      let a = send_accepted me e stage.Look s in let o : (sizes_by me).own ≡ (sizes_at z e).own = ap (λ (x : RingSizes). x.own) (send_sizes z me e stage.Look s sized) in
      told_by i place (λ y. y) s.mover s.here (λ _. SendTakesBufferBy me s.mover z.to_host.capacity e s.caller (record { follows = s.follows; message = s.message; stage = stage.Look }) s.side s.side.accepted) (λ y me'. SendTakesBuffer (accepted_by me) me me') is (λ y me' t. made.Buffer (accepted_by me))
      (pulls_own cd desk z n id me s.mover e s.caller s.follows s.message s.side s.buffer i z.to_host.capacity (sizes_at z e).own s.call refl
      (λ st m r. (sizes_known cd desk z e st m r).1) (omega (arith, early, a, o)))
      (λ y me' t₀. subst (λ (b : ℕ). SendTakesBuffer b me (noted_seat (made.Buffer b) (place_of me) me')) (sym a) (buffer_told s s.side.accepted me' sized t₀))

  pub send_loads_entry : (s : SendAt me e stage.Look) (count place : ℕ) → place ≡ place_in (entry_number z e ring.Return count) → me.0.sizes ≡ z → accepted_by me ≡ (sizes_by me).own + count
      → Allows (PlacedRule cd desk z) n id me place (λ y. y) (λ y me'. SendTakesBuffer (y % 4294967296) me me' × GoesOnWith cd desk (HasWord place y) me me')
  send_loads_entry s count place is sized at =
      let a = send_accepted me e stage.Look s in let o : (sizes_by me).own ≡ (sizes_at z e).own = ap (λ (x : RingSizes). x.own) (send_sizes z me e stage.Look s sized) in
      let size = (sizes_at z e).entries in let late : (sizes_at z e).own ≤ s.side.accepted = omega (arith, at, a, o) in
      let c : count ≡ s.side.accepted - (sizes_at z e).own = omega (arith, at, a, o) in
      told_by (entry_number z e ring.Return count) place (λ y. y) s.mover s.here (λ y. SendTakesBufferBy me s.mover z.to_host.capacity e s.caller (record { follows = s.follows; message = s.message; stage = stage.Look }) s.side (y % 4294967296)) (λ y me'. SendTakesBuffer (y % 4294967296) me me') is (λ y me' t. made.Buffer (y % 4294967296))
      (pulls_entry cd desk z n id me s.mover e s.caller s.follows s.message s.side s.buffer (entry_number z e ring.Return count) z.to_host.capacity size (sizes_at z e).own (entries_before z e) s.call refl
      (λ st m r. sizes_known cd desk z e st m r) late (ap (λ (k : ℕ). 10 + (entries_before z e + (size + k % size))) c))
      (λ y me' t₀. buffer_told s (y % 4294967296) me' sized t₀)

  pub send_stores_entry : (s : SendAt me e stage.Buffer) (count place new : ℕ) → place ≡ place_in (entry_number z e ring.Forward count) → s.side.accepted ≡ count → new ≡ s.buffer + entry_length (sizes_at z e) (length s.message) * 4294967296
      → Allows (PlacedRule cd desk z) n id me place (λ _. new) (λ _ me'. SendStoresEntry me me' × GoesOnWith cd desk (StoresWord place new) me me')
  send_stores_entry s count place new is at new_is =
      let size = (sizes_at z e).entries in let next : SenderSide → ℕ → Sending → Turn Sending = λ x caller q. turn.Taken caller (record q { stage = stage.Entry }) in
      let zero_before : entry_number z e ring.Forward count ≡ 10 + (entries_before z e + s.side.accepted % size) = (let e0 : 10 + (entries_before z e + (0 + count % size)) ≡ 10 + (entries_before z e + count % size) = omega arith in e0) ∙ ap (λ (k : ℕ). 10 + (entries_before z e + k % size)) (sym at) in
      stored_by (entry_number z e ring.Forward count) place new s.mover s.here (λ _. SendStoresEntryBy me s.mover e s.caller (record { follows = s.follows; message = s.message; stage = stage.Buffer }) s.side s.buffer) (λ _ me'. SendStoresEntry me me') is made.Entry
      (sends_entry cd desk z n id me s.mover e s.caller s.follows s.message s.side s.buffer (entry_number z e ring.Forward count) new (entries_before z e) s.call
      (λ st m r. (sizes_known cd desk z e st m r).2) zero_before new_is)
      (λ y me' t₀. becomes_with made.Entry me s.mover (place_of me) s.here (with_send next) _ me.1 me' (ap (send_to next s.mover.pass) (sym s.call)) t₀)

  pub send_publishes : (s : SendAt me e stage.Entry) (count place new : ℕ) → place ≡ place_in (forward_word e) → s.side.accepted + 1 ≡ count → new ≡ count % 65536 → me.0.sizes ≡ z
      → me.1 ≡ (buffer_slot me.0.sizes.to_host.capacity e s.buffer, Buffer s.message) ∷ rest me.1
      → Allows (PlacedRule cd desk z) n id me place (λ _. new) (λ _ me'. SendPublishes me me' × GoesOnWith cd desk (StoresWord place new) me me')
  send_publishes s count place new is at new_is sized slots =
      let F : Pass → Call → Pass = λ p k. send_or p (λ e t x b. under_way_or p (λ caller q. record p {
        call = Sends e (turn.Leaving caller (end.Sent x.accepted)) (accepted_side x caller q.message) b;
        own = Publish e q.follows x.accepted q.message ∷ p.own;
      }) t) k in
      stored_plain (forward_word e) place new s.mover s.here (λ _. SendPublishesBy me s.mover e s.caller s.follows s.message s.side s.buffer) (λ _ me'. SendPublishes me me') is
      (publishes cd desk z n id me s.mover e s.caller s.follows s.message s.side s.buffer z.to_host.capacity new s.call refl
      (slots ∙ ap (λ (w : LinkSizes). (buffer_slot w.to_host.capacity e s.buffer, Buffer s.message) ∷ rest me.1) sized) (new_is ∙ ap (λ (k : ℕ). k % 65536) (sym at)))
      (λ y me' t₀. (
        subst (λ (v : ℕ × ℕ). v.0 < v.1) (λ i. (sym (send_accepted me e stage.Entry s) i, sym (send_room me e stage.Entry s) i)) t₀.0,
        becomes me s.mover (place_of me) s.here with_publish _ (rest me.1) me' (ap (F s.mover.pass) (sym s.call)) t₀.1,
      ))

  pub leaves_sender : (s : SendEnds me e) (place : ℕ) → place ≡ place_in (sender_word e) → Allows (PlacedRule cd desk z) n id me place (λ _. 0) (λ _ me'. LeavesSender me me' × GoesOnWith cd desk (StoresWord place 0) me me')
  leaves_sender s place is =
      let F : Pass → Call → Pass = λ p k. with_call p (send_or k (λ e t x b. Rests (other e)) k) in
      stored_by (sender_word e) place 0 s.mover s.here (λ _. SendLeavesBy me s.mover e (rest me.1)) (λ _ me'. LeavesSender me me') is made.Left
      (leaves cd desk z n id me s.mover e s.caller s.end s.side s.buffer s.call s.slots)
      (λ y me' t₀. becomes_with made.Left me s.mover (place_of me) s.here (λ p. F p p.call) _ (rest me.1) me' (ap (F s.mover.pass) (sym s.call)) t₀)

  pub leaves_receiver : (s : ReceiveEnds me e) (place : ℕ) → place ≡ place_in (receiver_word e) → Allows (PlacedRule cd desk z) n id me place (λ _. 0) (λ _ me'. LeavesReceiver me me' × GoesOnWith cd desk (StoresWord place 0) me me')
  leaves_receiver s place is =
      let F : Pass → Call → Pass = λ p k. with_call p (receive_or k (λ e t x b message. Rests e) k) in
      stored_by (receiver_word e) place 0 s.mover s.here (λ _ m'. m' ≡ (with_pass me.0 s.mover (with_call s.mover.pass (Rests e)) m'.0.copy, rest me.1)) (λ _ me'. LeavesReceiver me me') is made.Left
      (leaves_take cd desk z n id me s.mover e s.caller s.end s.side s.buffer s.message s.call s.slots)
      (λ y me' t₀. becomes_with made.Left me s.mover (place_of me) s.here (λ p. F p p.call) _ (rest me.1) me' (ap (F s.mover.pass) (sym s.call)) t₀)

  pub take_loads_era : (s : WorkAt me e (work.Take take_stage.Turn)) → Allows (PlacedRule cd desk z) n id me 16 (λ y. y) (λ y me'. TakeLoadsEra me y me' × GoesOnWith cd desk (HasWord 16 y) me me')
  take_loads_era s = told_by 1 16 (λ y. y) s.mover s.here (TakeLoadsEraBy me s.mover e s.caller (record { follows = s.follows; work = work.Take take_stage.Turn }) s.side s.buffer s.message) (λ y me'. TakeLoadsEra me y me') refl (λ y me' t. made.Era t.0)
      (takes_era cd desk z n id me s.mover e s.caller s.follows s.side s.buffer s.message s.call)
      (λ y me' t₀. (t₀.0, t₀.1, t₀.2, becomes_with (made.Era t₀.0) me s.mover (place_of me) s.here (with_receive (λ x caller q. after_take_era t₀.0 caller q)) _ me.1 me' (ap (receive_to (λ x caller q. after_take_era t₀.0 caller q) s.mover.pass) (sym s.call)) t₀.3))

  pub take_looks : (s : WorkAt me e (work.Take take_stage.Era)) (place : ℕ) → place ≡ place_in (forward_word e) → me.0.sizes ≡ z → Allows (PlacedRule cd desk z) n id me place (λ y. y) (λ y me'. TakeLooks me y me' × GoesOnWith cd desk (HasWord place y) me me')
  take_looks s place is sized = let w = work.Take take_stage.Era in
      told_plain (forward_word e) place (λ y. y) s.mover s.here (TakeLooksBy me s.mover (sizes_at z e) e s.caller (record { follows = s.follows; work = w }) s.side s.buffer s.message) (λ y me'. TakeLooks me y me') is
      (takes_look cd desk z n id me s.mover e s.caller s.follows s.side s.buffer s.message s.call)
      (λ y me' t₀. let t = t₀ in
      subst (λ (v : RingSizes × ℕ × End × ℕ × List Event). (accepted : ℕ) × (y ≡ accepted % 65536) × (v.1 ≤ accepted) × (accepted ≤ v.1 + v.0.capacity) × NeverBack v.2 v.3 (Waiting v.1 accepted) v.4 × Becomes (with_waiting accepted) (place_of me) me.1 me me')
      (λ i. (sym (work_sizes z me e w s sized) i, sym (work_handed me e w s) i, sym (ap lane_in (work_here me e w s)) i, sym (ap follows_in (work_here me e w s)) i, own_is me s.mover (place_of me) s.here i))
      (t.0, t.1, t.2, t.3, t.4, becomes me s.mover (place_of me) s.here (with_waiting t.0) _ me.1 me' (ap (waiting_to t.0 s.mover.pass) (sym s.call)) t.5))

  pub take_loads_entry : (s : WorkAt me e (work.Take take_stage.Look)) (count place : ℕ) → place ≡ place_in (entry_number z e ring.Forward count) → me.0.sizes ≡ z → handed_by me ≡ count
      → Allows (PlacedRule cd desk z) n id me place (λ y. y) (λ y me'. TakeTakesBuffer (y % 4294967296) me me' × GoesOnWith cd desk (HasWord place y) me me')
  take_loads_entry s count place is sized at =
      let F : ℕ → List ℕ → Pass → Call → Pass = λ buffer message p k. with_call p (receive_or k (λ e t x b old. Receives e (under_way_or t (λ caller r. turn.Taken caller (record r { work = work.Take take_stage.Buffer })) t) x buffer message) k) in
      let h = work_handed me e (work.Take take_stage.Look) s in
      told_by (entry_number z e ring.Forward count) place (λ y. y) s.mover s.here (λ y. TakeTakesBufferBy me s.mover z.to_host.capacity e s.caller s.follows s.side (y % 4294967296)) (λ y me'. TakeTakesBuffer (y % 4294967296) me me') is (λ y me' t. made.Buffer (y % 4294967296))
      (draws cd desk z n id me s.mover e s.caller s.follows s.side s.buffer (entry_number z e ring.Forward count) z.to_host.capacity s.message s.call refl (λ y. y % 4294967296)
      (λ st m r side sound low. forward_entry cd desk z n e st m r count (sym at ∙ (h ∙ ap (λ (x : ReceiverSide). x.handed) side)) sound low))
      (λ y me' t₀. let buffer : ℕ = y % 4294967296 in let t = t₀ in
      subst (λ (v : ℕ × End). (message : List ℕ) × Notes (made.Buffer buffer) (λ p. F buffer message p p.call) (place_of me) ((buffer_slot v.0 v.1 buffer, Buffer message) ∷ me.1) me (noted_seat (made.Buffer buffer) (place_of me) me'))
      (λ i. ((sym sized i).to_host.capacity, sym (ap lane_in (work_here me e (work.Take take_stage.Look) s)) i))
      (t.0, becomes_with (made.Buffer buffer) me s.mover (place_of me) s.here (λ p. F buffer t.0 p p.call) _ ((buffer_slot z.to_host.capacity e buffer, Buffer t.0) ∷ me.1) me' (ap (F buffer t.0 s.mover.pass) (sym s.call)) t.1))

  pub give_stores_entry : (k : ℕ) (s : WorkAt me e (work.Give k give_stage.Turn)) (count place new : ℕ) → place ≡ place_in (entry_number z e ring.Return count) → me.0.sizes ≡ z → return_count (sizes_by me) s.side.returned ≡ count → new ≡ held_buffer s.side.hands k + 0 * 4294967296
      → Allows (PlacedRule cd desk z) n id me place (λ _. new) (λ _ me'. GiveStoresEntry me me' × GoesOnWith cd desk (StoresWord place new) me me')
  give_stores_entry k s count place new is sized at new_is =
      let next : ReceiverSide → ℕ → Receiving → Turn Receiving = λ x caller r. turn.Taken caller (record r { work = with_entry r.work }) in
      stored_by (entry_number z e ring.Return count) place new s.mover s.here (λ _ me'. me' ≡ (with_pass me.0 s.mover (with_call s.mover.pass (Receives e (turn.Taken s.caller (record { follows = s.follows; work = work.Give k give_stage.Entry })) s.side s.buffer s.message)) me'.0.copy, me.1)) (λ _. GiveStoresEntry me) is made.Entry
      (gives_entry cd desk z n id me s.mover e s.caller s.follows k s.side s.buffer count new s.message s.call
      (sym at ∙ ap (λ (x : RingSizes). return_count x s.side.returned) (work_sizes z me e (work.Give k give_stage.Turn) s sized)) new_is)
      (λ y me' t₀. becomes_with made.Entry me s.mover (place_of me) s.here (with_receive next) _ me.1 me' (ap (receive_to next s.mover.pass) (sym s.call)) t₀)

  pub give_publishes : (k : ℕ) (s : WorkAt me e (work.Give k give_stage.Entry)) (count place new : ℕ) → place ≡ place_in (return_word e) → me.0.sizes ≡ z → return_count (sizes_by me) s.side.returned + 1 ≡ count → new ≡ count % 65536
      → Allows (PlacedRule cd desk z) n id me place (λ _. new) (λ _ me'. GivePublishes me me' × GoesOnWith cd desk (StoresWord place new) me me')
  give_publishes k s count place new is sized at new_is =
      let w = work.Give k give_stage.Entry in
      stored_plain (return_word e) place new s.mover s.here (λ _. GivesBackBy me s.mover e s.caller k s.side s.buffer s.message) (λ _. GivePublishes me) is
      (gives_back cd desk z n id me s.mover e s.caller s.follows k s.side s.buffer new s.message s.call
      (new_is ∙ (ap (λ (u : ℕ). u % 65536) (sym at) ∙ ap (λ (x : RingSizes). (return_count x s.side.returned + 1) % 65536) (work_sizes z me e w s sized))))
      (λ y me' t₀. let t = t₀ in
      subst (λ (v : ℕ × End × List Event × List ℕ). (inc : ℕ) × ((v.3 ≡ []) ⊎ (latest v.2 ≡ inc)) × NeverBack v.1 inc (Gave (v.0 + 1)) v.2 × Becomes (with_given inc) (place_of me) me.1 me me')
      (λ i. (sym (ap (λ (c : Call). receive_or 0 (λ e t x b message. x.returned) c) (work_here me e w s)) i, sym (ap lane_in (work_here me e w s)) i, own_is me s.mover (place_of me) s.here i, in_hand_is me s.mover (place_of me) s.here i))
      (t.0, t.1, t.2, becomes me s.mover (place_of me) s.here (with_given t.0) _ me.1 me' (ap (given_to t.0 s.mover.pass) (sym s.call)) t.3))

-- the steps at which a desk is asked
module _ {B : Type 0} (kc : Coded B) (kz : DeskTables) (cd : Coded (PlacedDesk kc kz)) (meaning : DeskMeaning B) (z : LinkSizes) (n id : ℕ) (me : SeatState) (e : End) where
  desk_here : (w : Work) (s : WorkAt me e w) → desk_by me ≡ s.side.desk
  desk_here w s = ap (λ (k : Call). receive_or no_right (λ e t x b message. x.desk) k) (work_here me e w s)

  hands_here : (w : Work) (s : WorkAt me e w) → hands_by me ≡ s.side.hands
  hands_here w s = ap (λ (k : Call). receive_or [] (λ e t x b message. x.hands) k) (work_here me e w s)

  taker_room : (w : Work) (s : WorkAt me e w) → (s.side.handed < s.side.room) → handed_by me < taker_room_by me
  taker_room w s = subst (λ (v : ℕ × ℕ). v.0 < v.1)
      (λ i. (sym (work_handed me e w s) i, sym (ap (λ (k : Call). receive_or 0 (λ e t x b message. x.room) k) (work_here me e w s)) i))

  right_is : (w : Work) (s : WorkAt me e w) (at : PlacedDesk kc kz) → s.side.desk ≡ right_to at → IsRightTo kc kz (desk_by me) at.desk
  right_is w s at is = let all = desk_here w s ∙ is in record {
    table = ap (λ (r : DeskRight). r.table) all ∙ ap (λ (r : DeskRight). table_at kz r.end) (sym all);
    code = ap (λ (r : DeskRight). r.code) all;
  }

  abbrev handed_to : (live : Bool) (c : ℕ) (x : ReceiverSide) (b : ℕ) (message : List ℕ) (era : Era) (follows : ℕ) (desk : B) (right : DeskRight) (p : Pass) → Pass
  handed_to live c x b message era follows desk right p = cond live (record p {
    call = Receives e (turn.Leaving c (end.Took x.handed (meaning.verdict desk x.handed message))) (record x { handed = x.handed + 1; takers = x.takers ++ c ∷ []; hands = x.hands ++ record { number = x.handed; caller = c; buffer = b } ∷ []; desk = right }) b message;
    own = Take e follows x.handed message ∷ p.own;
    hands = p.hands ++ x.handed ∷ [];
  }) (with_call p (Receives e (turn.Leaving c (end.Dead era)) x b message))

  abbrev right_after : B → DeskRight → DeskRight
  right_after desk old = record old { code = kc.code desk }

  pub take_hands : (s : WorkAt me e (work.Take take_stage.Buffer)) → me.0.sizes ≡ z → me.1 ≡ (buffer_slot me.0.sizes.to_host.capacity e s.buffer, Buffer s.message) ∷ rest me.1
      → Allows (PlacedRule cd (placed_meaning kc kz meaning) z) n id me 16 (λ y. y) (λ y me'. TakeHands kc meaning kz me y me' × GoesOnWith cd (placed_meaning kc kz meaning) (HasWord 16 y) me me')
  take_hands s sized slots =
      told_by cd (placed_meaning kc kz meaning) z n id me e 1 16 (λ y. y) s.mover s.here (TakeHandsBy (placed_meaning kc kz meaning) me s.mover e s.caller s.follows s.side s.buffer s.message) (λ y me'. TakeHands kc meaning kz me y me') refl (λ y me' t. made.Era t.0)
      (hands cd (placed_meaning kc kz meaning) z n id me s.mover e s.caller s.follows s.side s.buffer z.to_host.capacity s.message s.call refl
      (slots ∙ ap (λ (w : LinkSizes). (buffer_slot w.to_host.capacity e s.buffer, Buffer s.message) ∷ rest me.1) sized))
      (λ y me' t₀. hands_told s y me' t₀)
    where
      hands_told : (s : WorkAt me e (work.Take take_stage.Buffer)) (y : ℕ) (me' : SeatState) (t : TakeHandsBy (placed_meaning kc kz meaning) me s.mover e s.caller s.follows s.side s.buffer s.message y me') → TakeHands kc meaning kz me y (noted_seat (made.Era t.0) (place_of me) me')
      hands_told s y me' t₀ = (t₀.0, t₀.1, t₀.2, subst (λ (l : List Hand). length l < CAPACITY_MOST) (sym (hands_here (work.Take take_stage.Buffer) s)) t₀.3, taker_room (work.Take take_stage.Buffer) s t₀.4, t₀.5.desk, right_is (work.Take take_stage.Buffer) s t₀.5 t₀.6, go (is_live_in t₀.0 s.follows) refl)
        where
          desk : B
          desk = t₀.5.desk

          go : (live : Bool) → is_live_in t₀.0 s.follows ≡ live → Notes (made.Era t₀.0) (with_handing kc meaning t₀.0 desk) (place_of me) (rest me.1) me (noted_seat (made.Era t₀.0) (place_of me) me')
          go true live = becomes_with (made.Era t₀.0) me s.mover (place_of me) s.here (with_handing kc meaning t₀.0 desk) _ (rest me.1) me'
              (ap (λ (r : DeskRight). handed_to true s.caller s.side s.buffer s.message t₀.0 s.follows desk (right_after (meaning.delivered desk s.side.handed s.message) r) s.mover.pass) (sym t₀.6)
              ∙ (ap (λ (b : Bool). handed_to b s.caller s.side s.buffer s.message t₀.0 s.follows desk (right_after (meaning.delivered desk s.side.handed s.message) s.side.desk) s.mover.pass) (sym live)
              ∙ ap (with_handing_of kc meaning t₀.0 desk s.mover.pass) (sym s.call))) (t₀.7 live)
          go false dead = becomes_with (made.Era t₀.0) me s.mover (place_of me) s.here (with_handing kc meaning t₀.0 desk) _ (rest me.1) me'
              (ap (λ (b : Bool). handed_to b s.caller s.side s.buffer s.message t₀.0 s.follows desk (right_after (meaning.delivered desk s.side.handed s.message) s.side.desk) s.mover.pass) (sym dead)
              ∙ ap (with_handing_of kc meaning t₀.0 desk s.mover.pass) (sym s.call)) (t₀.8 dead)

  bind_told : (w : Work) (s : WorkAt me e w) (y : ℕ) (me' : SeatState)
      (t : BindLoadsEraBy {kc = kc} {kz = kz} (λ p handed. record p { desk = desk_after meaning p.desk handed w }) (λ p handed. desk_says meaning p.desk handed w) me s.mover e s.caller s.follows s.side s.buffer s.message y me')
      → BindLoadsEra kc meaning kz me y (noted_seat (made.Era t.0) (place_of me) me')
  bind_told w s y me' t₀ =
      let desk : B = t₀.3.desk in let x = s.side in let left : B = desk_after meaning desk x.handed w in (
        t₀.0,
        t₀.1,
        t₀.2,
        desk,
        right_is w s t₀.3 t₀.4,
        becomes_with (made.Era t₀.0) me s.mover (place_of me) s.here (with_binding kc meaning t₀.0 desk) _ me.1 me'
            ((λ i. both (is_live_in t₀.0 s.follows) t₀.0 desk w s (right_after left (sym t₀.4 i))) ∙ (joined (is_live_in t₀.0 s.follows) t₀.0 desk w s ∙ ap (with_binding_of kc meaning t₀.0 desk s.mover.pass) (sym s.call))) t₀.5,
      )
    where
      both : Bool → Era → B → (w : Work) (s : WorkAt me e w) → DeskRight → Pass
      both live era desk w s right = with_call s.mover.pass (Receives e (cond live (turn.Leaving s.caller (desk_says meaning desk s.side.handed w)) (turn.Leaving s.caller (end.Dead era))) (cond live (record s.side { desk = right }) s.side) s.buffer s.message)

      joined : (live : Bool) (era : Era) (desk : B) (w : Work) (s : WorkAt me e w) → both live era desk w s (right_after (desk_after meaning desk s.side.handed w) s.side.desk)
          ≡ cond live (with_call s.mover.pass (Receives e (turn.Leaving s.caller (desk_says meaning desk s.side.handed w)) (record s.side { desk = right_after (desk_after meaning desk s.side.handed w) s.side.desk }) s.buffer s.message)) (with_call s.mover.pass (Receives e (turn.Leaving s.caller (end.Dead era)) s.side s.buffer s.message))
      joined true era desk w s = refl
      joined false era desk w s = refl

  pub bind_loads_era : (address : ℕ) (s : WorkAt me e (work.Bind address)) → Allows (PlacedRule cd (placed_meaning kc kz meaning) z) n id me 16 (λ y. y) (λ y me'. BindLoadsEra kc meaning kz me y me' × GoesOnWith cd (placed_meaning kc kz meaning) (HasWord 16 y) me me')
  bind_loads_era address s = told_by cd (placed_meaning kc kz meaning) z n id me e 1 16 (λ y. y) s.mover s.here
      (BindLoadsEraBy {kc = kc} {kz = kz} (λ p handed. record p { desk = desk_after meaning p.desk handed (work.Bind address) }) (λ p handed. desk_says meaning p.desk handed (work.Bind address)) me s.mover e s.caller s.follows s.side s.buffer s.message) (BindLoadsEra kc meaning kz me) refl (λ y me' t. made.Era t.0)
      (binds cd (placed_meaning kc kz meaning) z (work.Bind address) (λ p handed. record p { desk = desk_after meaning p.desk handed (work.Bind address) }) (λ p handed. desk_says meaning p.desk handed (work.Bind address)) s.follows s.caller refl (λ u era. refl) n id me s.mover e s.side s.buffer s.message s.call)
      (bind_told (work.Bind address) s)

  pub unbind_loads_era : (address : ℕ) (s : WorkAt me e (work.Unbind address)) → Allows (PlacedRule cd (placed_meaning kc kz meaning) z) n id me 16 (λ y. y) (λ y me'. BindLoadsEra kc meaning kz me y me' × GoesOnWith cd (placed_meaning kc kz meaning) (HasWord 16 y) me me')
  unbind_loads_era address s = told_by cd (placed_meaning kc kz meaning) z n id me e 1 16 (λ y. y) s.mover s.here
      (BindLoadsEraBy {kc = kc} {kz = kz} (λ p handed. record p { desk = desk_after meaning p.desk handed (work.Unbind address) }) (λ p handed. desk_says meaning p.desk handed (work.Unbind address)) me s.mover e s.caller s.follows s.side s.buffer s.message) (BindLoadsEra kc meaning kz me) refl (λ y me' t. made.Era t.0)
      (binds cd (placed_meaning kc kz meaning) z (work.Unbind address) (λ p handed. record p { desk = desk_after meaning p.desk handed (work.Unbind address) }) (λ p handed. desk_says meaning p.desk handed (work.Unbind address)) s.follows s.caller refl (λ u era. refl) n id me s.mover e s.side s.buffer s.message s.call)
      (bind_told (work.Unbind address) s)

-- the rule of the sizes that a seat knows is that of the table's: at a load, at a store, and at a first step. The view after is in order
module _ {B : Type 0} (coded : Coded B) (meaning : DeskMeaning B) (key : LinkSizes) (n id : ℕ) (me : SeatState) (place : ℕ) where
  pub by_first : (f : ℕ → ℕ) (T : ℕ → SeatState → Type 0) → me.0.sizes ≡ key → Allows (LinkRule coded meaning me.0.sizes) n id me place f T → Allows (LinkRule coded meaning key) n id me place f (λ y me'. T y me' × IsOrderly me'.0)
  by_first f T same allows = subst (λ (z : LinkSizes). Allows (LinkRule coded meaning z) n id me place f (λ y me'. T y me' × IsOrderly me'.0)) same (orders (placed_coded coded me.0.sizes.desks) (placed_meaning coded me.0.sizes.desks meaning) me.0.sizes n id me place f T allows)

  pub by_load : (X : ℕ → SeatState → Type 0) → me.0.sizes ≡ key → Allows (LinkRule coded meaning me.0.sizes) n id me place (λ y. y) (λ y me'. X y me' × GoesOn coded meaning me (HasWord place y) me')
      → Allows (LinkRule coded meaning key) n id me place (λ y. y) (λ y me'. X y me' × GoesOn coded meaning me (HasWord place y) me' × IsOrderly me'.0)
  by_load X same allows = weaken (LinkRule coded meaning key) n id me place (λ y. y) (λ y me'. (X y me' × GoesOn coded meaning me (HasWord place y) me') × IsOrderly me'.0) (λ y me'. X y me' × GoesOn coded meaning me (HasWord place y) me' × IsOrderly me'.0) (λ y me' t. (t.0.0, t.0.1, t.1)) (by_first (λ y. y) (λ y me'. X y me' × GoesOn coded meaning me (HasWord place y) me') same allows)

  pub by_store : (new : ℕ) (X : SeatState → Type 0) → me.0.sizes ≡ key → Allows (LinkRule coded meaning me.0.sizes) n id me place (λ _. new) (λ _ me'. X me' × GoesOn coded meaning me (StoresWord place new) me')
      → Allows (LinkRule coded meaning key) n id me place (λ _. new) (λ _ me'. X me' × GoesOn coded meaning me (StoresWord place new) me' × IsOrderly me'.0)
  by_store new X same allows = weaken (LinkRule coded meaning key) n id me place (λ _. new) (λ _ me'. (X me' × GoesOn coded meaning me (StoresWord place new) me') × IsOrderly me'.0) (λ _ me'. X me' × GoesOn coded meaning me (StoresWord place new) me' × IsOrderly me'.0) (λ y me' t. (t.0.0, t.0.1, t.1)) (by_first (λ _. new) (λ _ me'. X me' × GoesOn coded meaning me (StoresWord place new) me') same allows)
