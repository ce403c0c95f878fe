-- The steps of a send, as its caller's seat is told them.
use Rattle.std.proofs.Common.{◌≡◌, ◌≢◌, ℕ, ◌+◌, ◌-◌, ◌<◌, ◌%◌, List, [], ◌∷◌, Bool, true, false, cond, eqb, length, refl, sym, ap, ◌∙◌, subst, arith, eq-eqb, ne_eqb}
use base.Stored.{Coded}
use Rattle.atomic_table.specs.Table.{rest}
use Rattle.rp_base.specs.declared.kinds.End.{End}
use Rattle.rp_base.specs.declared.kinds.End.TheVariants as side
use Rattle.rp_base.specs.declared.kinds.Era.{Era}
use Rattle.lane_model.specs.declared.calls.CallEnd.{CallEnd}
use Rattle.lane_model.specs.declared.calls.CallEnd.TheVariants as end
use Rattle.lane_model.specs.declared.recoveries.LaneTurn.TheVariants as lane_turn
use Rattle.lane_model.specs.declared.stages.Sending.{Sending}
use Rattle.lane_model.specs.declared.stages.SendStage.{SendStage}
use Rattle.lane_model.specs.declared.stages.SendStage.TheVariants as stage
use Rattle.lane_model.specs.declared.stages.Turn.{Turn}
use Rattle.lane_model.specs.declared.stages.Turn.TheVariants as turn
use Rattle.lane_model.specs.Desks.{DeskMeaning}
use Rattle.lane_model.specs.Lanes.{is_live_in}
use Rattle.lane_model.specs.Sends.{after_send_era}
use Rattle.ring_core.specs.declared.states.RingSizes.{RingSizes}
use Rattle.ring_core.specs.Rings.{return_count, entry_length}
use Rattle.vring_layout.specs.declared.words.UsedWord.{UsedWord}
use Rattle.link_words.specs.declared.rule.Call.{Call}
use Rattle.link_words.specs.declared.rule.Call.TheVariants.{Sends}
use Rattle.link_words.specs.declared.rule.Counted.{Counted}
use Rattle.link_words.specs.declared.rule.Counted.TheVariants.{Room}
use Rattle.link_words.specs.declared.rule.Event.{Event}
use Rattle.link_words.specs.declared.rule.Event.TheVariants.{Step, Count, Publish}
use Rattle.link_words.specs.Histories.{NeverBack}
use Rattle.link_words.specs.declared.rule.LinkSizes.{LinkSizes}
use Rattle.link_words.specs.declared.rule.Made.{Made}
use Rattle.link_words.specs.declared.rule.Made.TheVariants as made
use Rattle.link_words.specs.declared.rule.Pass.{Pass}
use Rattle.link_words.specs.declared.rule.SenderSide.{SenderSide}
use Rattle.link_words.specs.declared.rule.Slot.{Slot}
use Rattle.link_words.specs.declared.rule.Slot.TheVariants.{Buffer, Sender}
use Rattle.link_words.specs.Calls.{SeatState, SendAt, Notes, noted, send_or, receive_or, under_way_or, with_send, place_of}
use Rattle.link_words.specs.Parts.{AreNear}
use Rattle.link_words.specs.Passes.{with_call}
use Rattle.link_words.specs.Steps.{accepted_side, SendLoadsEra, SendLooks, SendTakesBuffer, SendStoresEntry, SendStoresAt, SendPublishes, SendPublishesAt, accepted_by, sizes_by, slot_by, lane_by, follows_by, look_turn, with_room, with_publish}
use Rattle.link_words.specs.Words.{other, sizes_at, buffer_slot, era_word}
use Rattle.split_ring.specs.declared.sends.SendCall.{SendCall}
use Rattle.split_ring.specs.declared.sends.SendFault.TheVariants as fault
use Rattle.split_ring.specs.Seats.{pass_in, IsAt}
use Rattle.split_ring.specs.Sends.{IsCounted, send_call, send_slots, send_buffer, live_era, room_look, IsSendAt, IsFilledAt, HasNoRoom}
use Rattle.split_ring.specs.Turns.{IsLeaving}
use Rattle.split_ring.specs.Walks.{same_hands, IsRingStep, HasDone}
use Rattle.split_ring.proofs.Eras.{live_is, dead_is}
use Rattle.split_ring.proofs.Seats.{Moves, after_step, stepped_once, stepped_counted, first_place, call_here, own_here, mover_of, side_sends, side_fills}

-- the call of a send with this turn
abbrev with_turn : SendCall → Turn Sending → Call
with_turn c t = Sends (other c.who.end) t c.side.value c.buffer

-- and of one whose message was accepted
abbrev pub sent_call : SendCall → Call
sent_call c = Sends (other c.who.end) (turn.Leaving c.who.number (end.Sent c.accepted)) (accepted_side c.side.value c.who.number c.message.value) c.buffer

sending : SendCall → SendStage → Sending
sending c q = record { follows = c.who.follows; message = c.message.value; stage = q }

-- the seat's one pass has a send
pub alone : (me : SeatState) (c : SendCall) (q : SendStage) → IsAt me (send_call c q) (send_slots c) → place_of me ≡ 0
alone me c q at = first_place me (send_call c q) (send_slots c) at (side_sends (other c.who.end) (turn.Taken c.who.number (record { follows = c.who.follows; message = c.message.value; stage = q })) c.side.value c.buffer (Sender c.side.value))

pub filled : (z : LinkSizes) (me : SeatState) (c : SendCall) (q : SendStage) (y : Slot) → IsAt me (send_call c q) (send_buffer z c y) → place_of me ≡ 0
filled z me c q y at = first_place me (send_call c q) (send_buffer z c y) at (side_fills (other c.who.end) (turn.Taken c.who.number (record { follows = c.who.follows; message = c.message.value; stage = q })) c.side.value c.buffer z.to_host.capacity c.buffer y (Sender c.side.value))

abbrev pub send_at : (me : SeatState) (c : SendCall) (q : SendStage) (slots : List (ℕ × Slot)) → IsAt me (send_call c q) slots → place_of me ≡ 0 → SendAt me (other c.who.end) q
send_at me c q slots at zero = record {
  mover = mover_of me at.one;
  here = sym zero;
  caller = c.who.number;
  follows = c.who.follows;
  message = c.message.value;
  side = c.side.value;
  buffer = c.buffer;
  call = at.in_call;
}

-- what the steps read of the call
accepted_is : (me : SeatState) (c : SendCall) (q : SendStage) (slots : List (ℕ × Slot)) → IsAt me (send_call c q) slots → IsCounted c → place_of me ≡ 0 → accepted_by me ≡ c.accepted
accepted_is me c q slots at counted zero = ap (λ (k : Call). send_or 0 (λ e t x b. x.accepted) k) (call_here me (send_call c q) slots (place_of me) at zero) ∙ counted.is

lane_is : (me : SeatState) (c : SendCall) (q : SendStage) (slots : List (ℕ × Slot)) → IsAt me (send_call c q) slots → place_of me ≡ 0 → lane_by me ≡ other c.who.end
lane_is me c q slots at zero = ap (λ (k : Call). send_or {A = End} (receive_or {A = End} side.Host (λ e t x b message. e) k) (λ e t x b. e) k) (call_here me (send_call c q) slots (place_of me) at zero)

follows_is : (me : SeatState) (c : SendCall) (q : SendStage) (slots : List (ℕ × Slot)) → IsAt me (send_call c q) slots → place_of me ≡ 0 → follows_by me ≡ c.who.follows
follows_is me c q slots at zero =
    ap (λ (k : Call). send_or (receive_or 0 (λ e t x b message. under_way_or 0 (λ caller r. r.follows) t) k) (λ e t x b. under_way_or 0 (λ caller s. s.follows) t) k) (call_here me (send_call c q) slots (place_of me) at zero)

sizes_is : (z : LinkSizes) (me : SeatState) (c : SendCall) (q : SendStage) (slots : List (ℕ × Slot)) → me.0.sizes ≡ z → IsAt me (send_call c q) slots → place_of me ≡ 0 → sizes_by me ≡ sizes_at z (other c.who.end)
sizes_is z me c q slots told at zero = λ i. sizes_at (told i) (lane_is me c q slots at zero i)

slot_is : (z : LinkSizes) (me : SeatState) (c : SendCall) (q : SendStage) (slots : List (ℕ × Slot)) (id : ℕ) → me.0.sizes ≡ z → IsAt me (send_call c q) slots → place_of me ≡ 0 → slot_by me id ≡ buffer_slot z.to_host.capacity (other c.who.end) id
slot_is z me c q slots id told at zero = λ i. buffer_slot (told i).to_host.capacity (lane_is me c q slots at zero i) id

-- whether the sender's own list has the buffer, or the return ring behind it
pub own_next : (z : LinkSizes) (me : SeatState) (c : SendCall) → me.0.sizes ≡ z → IsSendAt c stage.Look me → c.accepted < (sizes_at z (other c.who.end)).own → accepted_by me < (sizes_by me).own
own_next z me c sized at below =
    let zero = alone me c stage.Look at.0 in subst (λ (s : RingSizes). accepted_by me < s.own) (sym (sizes_is z me c stage.Look (send_slots c) sized at.0 zero))
    (subst (λ (k : ℕ). k < (sizes_at z (other c.who.end)).own) (sym (accepted_is me c stage.Look (send_slots c) at.0 at.1 zero)) below)

pub entry_next : (z : LinkSizes) (me : SeatState) (c : SendCall) (count : ℕ) → me.0.sizes ≡ z → IsSendAt c stage.Look me → c.accepted ≡ (sizes_at z (other c.who.end)).own + count → accepted_by me ≡ (sizes_by me).own + count
entry_next z me c count sized at is =
    let zero = alone me c stage.Look at.0 in accepted_is me c stage.Look (send_slots c) at.0 at.1 zero ∙ (is ∙ ap (λ (s : RingSizes). s.own + count) (sym (sizes_is z me c stage.Look (send_slots c) sized at.0 zero)))

module _ {D : Type 0} (coded : Coded D) (meaning : DeskMeaning D) where
  -- a step behind which the send has another turn
  turned : (made : Made) (next : SenderSide → ℕ → Sending → Turn Sending) (me me' : SeatState) (c : SendCall) (q : SendStage) (t : Turn Sending) → IsAt me (send_call c q) (send_slots c)
      → Notes made (with_send next) (place_of me) me.1 me me' → next c.side.value c.who.number (sending c q) ≡ t → IsRingStep coded meaning me me'
      → IsAt me' (with_turn c t) (send_slots c) × HasDone coded meaning (Step made ∷ []) same_hands me me'
  unfolding sending
  turned making next me me' c q t at told is step =
      after_step coded meaning (λ p. noted making (with_send next p)) me.1 (send_slots c) me me' (place_of me) (with_turn c t) (Step making ∷ []) same_hands at.one (alone me c q at) told at.out
      (record { in_call = ap (λ (k : Call). send_or k (λ e t x b. Sends e (under_way_or t (next x) t) x b) k) at.in_call ∙ ap (with_turn c) is; own = refl; number = refl; first = refl; in_hand = refl })
      (stepped_once coded meaning making me me' step)

  -- step 2
  pub send_live : (me me' : SeatState) (c : SendCall) (n : ℕ) (found : Era) → IsSendAt c stage.Turn me → SendLoadsEra me n me' → IsRingStep coded meaning me me'
      → ((era : Era) → n ≡ era_word era → era.inc < 4294967296 → found ≡ era) → is_live_in found c.who.follows ≡ true
      → IsSendAt c stage.Era me' × HasDone coded meaning (Step (made.Era (live_era c.who.follows)) ∷ []) same_hands me me'
  unfolding sending
  send_live me me' c n found at told step reads live =
      let same : found ≡ told.0 = reads told.0 told.1 told.2 in let here : is_live_in told.0 c.who.follows ≡ true = ap (λ (x : Era). is_live_in x c.who.follows) (sym same) ∙ live in
      let is : told.0 ≡ live_era c.who.follows = live_is told.0 c.who.follows here in
      let all = turned (made.Era told.0) (λ x caller s. after_send_era told.0 caller s) me me' c stage.Turn (turn.Taken c.who.number (sending c stage.Era)) at.0 told.3
      (ap (λ (b : Bool). cond b (turn.Taken c.who.number (sending c stage.Era)) (turn.Leaving c.who.number (end.Dead told.0))) here) step in
      ((all.0, at.1), subst (λ (x : Era). HasDone coded meaning (Step (made.Era x) ∷ []) same_hands me me') is all.1)

  pub send_dead : (me me' : SeatState) (c : SendCall) (n : ℕ) (found : Era) → IsSendAt c stage.Turn me → SendLoadsEra me n me' → IsRingStep coded meaning me me'
      → ((era : Era) → n ≡ era_word era → era.inc < 4294967296 → found ≡ era) → is_live_in found c.who.follows ≡ false
      → (found ≢ live_era c.who.follows) × IsLeaving lane_turn.Sender (other c.who.end) (end.Dead found) me' × HasDone coded meaning (Step (made.Era found) ∷ []) same_hands me me'
  unfolding sending
  send_dead me me' c n found at told step reads dead =
      let same : found ≡ told.0 = reads told.0 told.1 told.2 in let here : is_live_in told.0 c.who.follows ≡ false = ap (λ (x : Era). is_live_in x c.who.follows) (sym same) ∙ dead in
      let all = turned (made.Era told.0) (λ x caller s. after_send_era told.0 caller s) me me' c stage.Turn (turn.Leaving c.who.number (end.Dead told.0)) at.0 told.3
      (ap (λ (b : Bool). cond b (turn.Taken c.who.number (sending c stage.Era)) (turn.Leaving c.who.number (end.Dead told.0))) here) step in
      (dead_is found c.who.follows dead, subst (λ (x : Era). IsLeaving lane_turn.Sender (other c.who.end) (end.Dead x) me') (sym same) (c.who.number, c.side.value, c.buffer, all.0), subst (λ (x : Era). HasDone coded meaning (Step (made.Era x) ∷ []) same_hands me me') (sym same) all.1)

  -- step 3
  room_pass : (c : SendCall) (returned capacity book : ℕ) (t : Turn Sending) (p : Pass) → IsCounted c → p.call ≡ send_call c stage.Era → look_turn c.accepted returned capacity book c.who.number (sending c stage.Era) ≡ t
      → Moves p (with_room returned capacity book p) (with_turn c t) (room_look c.who c.accepted returned ∷ []) same_hands
  unfolding sending
  room_pass c returned capacity book t p counted in_call turns =
      let look : ℕ → Pass = λ n. record p { call = with_turn c (look_turn n returned capacity book c.who.number (sending c stage.Era)); own = room_look c.who n returned ∷ p.own } in
      let is : with_room returned capacity book p ≡ look c.accepted = ap (λ (k : Call). send_or p (λ e t x b. under_way_or p (λ caller s. record p { call = Sends e (look_turn x.accepted returned capacity book caller s) x b; own = Count e s.follows (Room x.accepted returned) ∷ p.own }) t) k) in_call ∙ ap look counted.is in
      record { in_call = ap (λ (r : Pass). r.call) is ∙ ap (with_turn c) turns; own = ap (λ (r : Pass). r.own) is; number = ap (λ (r : Pass). r.number) is; first = ap (λ (r : Pass). r.first) is; in_hand = ap (λ (r : Pass). r.hands) is }

  looks : (z : LinkSizes) (me me' : SeatState) (c : SendCall) (n : ℕ) (t : Turn Sending) → me.0.sizes ≡ z → IsAt me (send_call c stage.Era) (send_slots c) → IsCounted c → (told : SendLooks me n me') → IsRingStep coded meaning me me'
      → look_turn c.accepted told.0 (sizes_at z (other c.who.end)).capacity z.book c.who.number (sending c stage.Era) ≡ t
      → IsAt me' (with_turn c t) (send_slots c) × HasDone coded meaning (room_look c.who c.accepted told.0 ∷ []) same_hands me me'
  unfolding sending
  looks z me me' c n t sized at counted told step is =
      let zero = alone me c stage.Era at in let sizes = sizes_is z me c stage.Era (send_slots c) sized at zero in
      let slots = send_slots c in let lane = other c.who.end in let room : Counted = Room c.accepted told.0 in
      let never : NeverBack lane c.who.follows room (pass_in me).own = subst (λ (v : End × ℕ × ℕ × List Event). NeverBack v.0 v.1 (Room v.2 told.0) v.3)
      (λ i. (lane_is me c stage.Era slots at zero i, follows_is me c stage.Era slots at zero i, accepted_is me c stage.Era slots at counted zero i, own_here me (place_of me) at.one zero i)) told.3 in
      after_step coded meaning (with_room told.0 (sizes_by me).capacity me.0.sizes.book) me.1 slots me me' (place_of me) (with_turn c t) (room_look c.who c.accepted told.0 ∷ []) same_hands at.one zero told.4 at.out
      (room_pass c told.0 (sizes_by me).capacity me.0.sizes.book t (pass_in me) counted at.in_call ((λ i. look_turn c.accepted told.0 (sizes i).capacity (sized i).book c.who.number (sending c stage.Era)) ∙ is))
      (stepped_counted coded meaning lane c.who.follows room me me' step never)

  -- the count that was found
  found_count : (z : LinkSizes) (me me' : SeatState) (c : SendCall) (n free : ℕ) → me.0.sizes ≡ z → IsAt me (send_call c stage.Era) (send_slots c) → IsCounted c → (told : SendLooks me n me')
      → ((returned : ℕ) → n ≡ return_count (sizes_at z (other c.who.end)) returned % 65536 → AreNear (sizes_at z (other c.who.end)).capacity c.accepted returned → free + c.accepted ≡ returned + (sizes_at z (other c.who.end)).capacity)
      → free + c.accepted ≡ told.0 + (sizes_at z (other c.who.end)).capacity
  found_count z me me' c n free sized at counted told counts =
      let zero = alone me c stage.Era at in let sizes = sizes_is z me c stage.Era (send_slots c) sized at zero in let accepted = accepted_is me c stage.Era (send_slots c) at counted zero in
      counts told.0 (told.1 ∙ ap (λ (s : RingSizes). return_count s told.0 % 65536) sizes) (subst (λ (s : RingSizes). AreNear s.capacity c.accepted told.0) sizes (subst (λ (k : ℕ). AreNear (sizes_by me).capacity k told.0) accepted told.2))

  pub finds_room : (z : LinkSizes) (me me' : SeatState) (c : SendCall) (n free : ℕ) → me.0.sizes ≡ z → IsSendAt c stage.Era me → SendLooks me n me' → IsRingStep coded meaning me me'
      → ((returned : ℕ) → n ≡ return_count (sizes_at z (other c.who.end)) returned % 65536 → AreNear (sizes_at z (other c.who.end)).capacity c.accepted returned → free + c.accepted ≡ returned + (sizes_at z (other c.who.end)).capacity)
      → free ≢ 0 → c.accepted ≢ z.book
      → IsSendAt c stage.Look me' × ((returned : ℕ) × HasDone coded meaning (room_look c.who c.accepted returned ∷ []) same_hands me me')
  unfolding sending
  finds_room z me me' c n free sized at told step counts some book =
      let count = found_count z me me' c n free sized at.0 at.1 told counts in let capacity = (sizes_at z (other c.who.end)).capacity in
      let room : c.accepted ≢ told.0 + capacity = λ same. some (omega (arith, count, same)) in
      let all = looks z me me' c n (turn.Taken c.who.number (sending c stage.Look)) sized at.0 at.1 told step
      ((λ i. cond (ne_eqb c.accepted (told.0 + capacity) room i) (turn.Leaving c.who.number (end.NoBuffer c.accepted told.0)) (cond (ne_eqb c.accepted z.book book i) (turn.Leaving c.who.number (end.BookFull c.accepted)) (turn.Taken c.who.number (sending c stage.Look))))) in
      ((all.0, at.1), (told.0, all.1))

  pub finds_none : (z : LinkSizes) (me me' : SeatState) (c : SendCall) (n free returned : ℕ) → me.0.sizes ≡ z → IsSendAt c stage.Era me → SendLooks me n me' → IsRingStep coded meaning me me'
      → ((returned : ℕ) → n ≡ return_count (sizes_at z (other c.who.end)) returned % 65536 → AreNear (sizes_at z (other c.who.end)).capacity c.accepted returned → free + c.accepted ≡ returned + (sizes_at z (other c.who.end)).capacity)
      → free ≡ 0 → returned ≡ c.accepted - (sizes_at z (other c.who.end)).capacity
      → (back : ℕ) × (ended : CallEnd) × HasNoRoom z c back (fault.NoBuffer c.accepted returned) ended × IsLeaving lane_turn.Sender (other c.who.end) ended me'
      × HasDone coded meaning (room_look c.who c.accepted back ∷ []) same_hands me me'
  unfolding sending
  finds_none z me me' c n free returned sized at told step counts none is =
      let count = found_count z me me' c n free sized at.0 at.1 told counts in let capacity = (sizes_at z (other c.who.end)).capacity in
      let full : c.accepted ≡ told.0 + capacity = omega (arith, count, none) in let back : returned ≡ told.0 = omega (arith, full, is) in
      let all = looks z me me' c n (turn.Leaving c.who.number (end.NoBuffer c.accepted told.0)) sized at.0 at.1 told step
      (ap (λ (b : Bool). cond b (turn.Leaving c.who.number (end.NoBuffer c.accepted told.0)) (cond (eqb c.accepted z.book) (turn.Leaving c.who.number (end.BookFull c.accepted)) (turn.Taken c.who.number (sending c stage.Look)))) (eq-eqb c.accepted (told.0 + capacity) full)) in
      (told.0, end.NoBuffer c.accepted told.0, (refl, back, ap (end.NoBuffer c.accepted) (sym back), full ∙ ap (λ (k : ℕ). k + capacity) (sym back)), (c.who.number, c.side.value, c.buffer, all.0), all.1)

  pub finds_full : (z : LinkSizes) (me me' : SeatState) (c : SendCall) (n free : ℕ) → me.0.sizes ≡ z → IsSendAt c stage.Era me → SendLooks me n me' → IsRingStep coded meaning me me'
      → ((returned : ℕ) → n ≡ return_count (sizes_at z (other c.who.end)) returned % 65536 → AreNear (sizes_at z (other c.who.end)).capacity c.accepted returned → free + c.accepted ≡ returned + (sizes_at z (other c.who.end)).capacity)
      → free ≢ 0 → c.accepted ≡ z.book
      → (back : ℕ) × (ended : CallEnd) × HasNoRoom z c back (fault.BookFull c.accepted) ended × IsLeaving lane_turn.Sender (other c.who.end) ended me'
      × HasDone coded meaning (room_look c.who c.accepted back ∷ []) same_hands me me'
  unfolding sending
  finds_full z me me' c n free sized at told step counts some book =
      let count = found_count z me me' c n free sized at.0 at.1 told counts in let capacity = (sizes_at z (other c.who.end)).capacity in
      let room : c.accepted ≢ told.0 + capacity = λ same. some (omega (arith, count, same)) in
      let all = looks z me me' c n (turn.Leaving c.who.number (end.BookFull c.accepted)) sized at.0 at.1 told step
      ((λ i. cond (ne_eqb c.accepted (told.0 + capacity) room i) (turn.Leaving c.who.number (end.NoBuffer c.accepted told.0)) (cond (eq-eqb c.accepted z.book book i) (turn.Leaving c.who.number (end.BookFull c.accepted)) (turn.Taken c.who.number (sending c stage.Look))))) in
      (told.0, end.BookFull c.accepted, (refl, refl, room, book), (c.who.number, c.side.value, c.buffer, all.0), all.1)

  -- step 4
  pub takes_free : (z : LinkSizes) (me me' : SeatState) (c : SendCall) (id : ℕ) → me.0.sizes ≡ z → IsSendAt c stage.Look me → SendTakesBuffer id me me' → IsRingStep coded meaning me me'
      → ((y : Slot) × IsFilledAt z (record c { buffer = id }) stage.Buffer y me') × HasDone coded meaning (Step (made.Buffer id) ∷ []) same_hands me me'
  takes_free z me me' c id sized at told step =
      let zero = alone me c stage.Look at.0 in
      let all = after_step coded meaning (λ p. noted (made.Buffer id) (with_call p (send_or p.call (λ e t x b. Sends e (under_way_or t (λ caller s. turn.Taken caller (record s { stage = stage.Buffer })) t) x id) p.call)))
      ((slot_by me id, told.0) ∷ me.1) (send_buffer z (record c { buffer = id }) told.0) me me' (place_of me) (send_call (record c { buffer = id }) stage.Buffer) (Step (made.Buffer id) ∷ []) same_hands at.0.one zero told.1
      (λ i. (slot_is z me c stage.Look (send_slots c) id sized at.0 zero i, told.0) ∷ at.0.out i)
      (record { in_call = ap (λ (k : Call). send_or k (λ e t x b. Sends e (under_way_or t (λ caller s. turn.Taken caller (record s { stage = stage.Buffer })) t) x id) k) at.0.in_call; own = refl; number = refl; first = refl; in_hand = refl })
      (stepped_once coded meaning (made.Buffer id) me me' step) in
      ((told.0, (all.0, record { is = at.1.is; most = at.1.most })), all.1)

  pub takes_own : (z : LinkSizes) (me me' : SeatState) (c : SendCall) → me.0.sizes ≡ z → IsSendAt c stage.Look me → SendTakesBuffer (accepted_by me) me me' → IsRingStep coded meaning me me'
      → ((y : Slot) × IsFilledAt z (record c { buffer = c.accepted }) stage.Buffer y me') × HasDone coded meaning (Step (made.Buffer c.accepted) ∷ []) same_hands me me'
  takes_own z me me' c sized at told step =
      takes_free z me me' c c.accepted sized at (subst (λ (k : ℕ). SendTakesBuffer k me me') (accepted_is me c stage.Look (send_slots c) at.0 at.1 (alone me c stage.Look at.0)) told) step

  -- step 5
  pub stores_at : (z : LinkSizes) (me : SeatState) (c : SendCall) (y : Slot) (entry : UsedWord) → me.0.sizes ≡ z → IsFilledAt z c stage.Buffer y me
      → entry ≡ record { id = c.buffer; len = entry_length (sizes_at z (other c.who.end)) (length c.message.value) } → SendStoresAt (other c.who.end) c.accepted entry me
  stores_at z me c y entry sized at is = let zero = filled z me c stage.Buffer y at.0 in record {
    at = send_at me c stage.Buffer (send_buffer z c y) at.0 zero;
    count = at.1.is;
    entry = is ∙ ap (λ (s : RingSizes). record { id = c.buffer; len = entry_length s (length c.message.value) }) (sym (sizes_is z me c stage.Buffer (send_buffer z c y) sized at.0 zero));
  }

  pub stores_entry : (z : LinkSizes) (me me' : SeatState) (c : SendCall) (y : Slot) → IsFilledAt z c stage.Buffer y me → SendStoresEntry me me' → IsRingStep coded meaning me me'
      → IsFilledAt z c stage.Entry y me' × HasDone coded meaning (Step made.Entry ∷ []) same_hands me me'
  stores_entry z me me' c y at told step =
      let all = after_step coded meaning (λ p. noted made.Entry (with_send (λ x caller s. turn.Taken caller (record s { stage = stage.Entry })) p)) me.1 (send_buffer z c y) me me' (place_of me) (send_call c stage.Entry) (Step made.Entry ∷ []) same_hands at.0.one (filled z me c stage.Buffer y at.0) told at.0.out
      (record { in_call = ap (λ (k : Call). send_or k (λ e t x b. Sends e (under_way_or t (λ caller s. turn.Taken caller (record s { stage = stage.Entry })) t) x b) k) at.0.in_call; own = refl; number = refl; first = refl; in_hand = refl })
      (stepped_once coded meaning made.Entry me me' step) in ((all.0, at.1), all.1)

  -- step 6
  pub publishes_at : (z : LinkSizes) (me : SeatState) (c : SendCall) → me.0.sizes ≡ z → IsFilledAt z c stage.Entry (Buffer c.message.value) me → SendPublishesAt (other c.who.end) (c.accepted + 1) me
  publishes_at z me c sized at = record {
    at = send_at me c stage.Entry (send_buffer z c (Buffer c.message.value)) at.0 (filled z me c stage.Entry (Buffer c.message.value) at.0);
    count = ap (λ (k : ℕ). k + 1) at.1.is;
    slots = at.0.out ∙ ((λ i. (buffer_slot (sym sized i).to_host.capacity (other c.who.end) c.buffer, Buffer c.message.value) ∷ send_slots c)
        ∙ (λ i. (buffer_slot me.0.sizes.to_host.capacity (other c.who.end) c.buffer, Buffer c.message.value) ∷ rest (sym at.0.out i)));
  }

  pub publishes_message : (z : LinkSizes) (me me' : SeatState) (c : SendCall) → IsFilledAt z c stage.Entry (Buffer c.message.value) me → SendPublishes me me' → IsRingStep coded meaning me me'
      → IsAt me' (sent_call c) (send_slots c) × HasDone coded meaning (Publish (other c.who.end) c.who.follows c.accepted c.message.value ∷ []) same_hands me me' × (c.side.value.accepted < c.side.value.room)
  publishes_message z me me' c at told step =
      let y = Buffer c.message.value in let zero = filled z me c stage.Entry y at.0 in
      let all = after_step coded meaning with_publish (rest me.1) (send_slots c) me me' (place_of me) (sent_call c)
      (Publish (other c.who.end) c.who.follows c.accepted c.message.value ∷ []) same_hands at.0.one zero told.1 (ap rest at.0.out) (published (pass_in me) at.0.in_call) (me, me', refl, step, refl) in
      let here = call_here me (send_call c stage.Entry) (send_buffer z c y) (place_of me) at.0 zero in
      (all.0, all.1, subst (λ (k : Call). send_or 0 (λ e t x b. x.accepted) k < send_or 0 (λ e t x b. x.room) k) here told.0)
    where
      published : (p : Pass) → p.call ≡ send_call c stage.Entry
          → Moves p (with_publish p) (sent_call c) (Publish (other c.who.end) c.who.follows c.accepted c.message.value ∷ []) same_hands
      published p in_call =
          let sent : ℕ → Pass = λ n. record p { call = Sends (other c.who.end) (turn.Leaving c.who.number (end.Sent n)) (accepted_side c.side.value c.who.number c.message.value) c.buffer; own = Publish (other c.who.end) c.who.follows n c.message.value ∷ p.own } in
          let is : with_publish p ≡ sent c.accepted
          = ap (λ (k : Call). send_or p (λ e t x b. under_way_or p (λ caller s. record p { call = Sends e (turn.Leaving caller (end.Sent x.accepted)) (accepted_side x caller s.message) b; own = Publish e s.follows x.accepted s.message ∷ p.own }) t) k) in_call ∙ ap sent at.1.is in
          record { in_call = ap (λ (r : Pass). r.call) is; own = ap (λ (r : Pass). r.own) is; number = ap (λ (r : Pass). r.number) is; first = ap (λ (r : Pass). r.first) is; in_hand = ap (λ (r : Pass). r.hands) is }
