-- The steps of a take, as its caller's seat is told them.
use Rattle.std.proofs.Common.{◌≡◌, ◌≢◌, ℕ, ◌+◌, ◌<◌, ◌≤◌, ◌%◌, List, [], ◌∷◌, ◌++◌, Bool, true, false, cond, length, refl, sym, ap, ◌∙◌, subst, arith, eq-eqb, ne_eqb}
use base.Stored.{Coded}
use Rattle.atomic_table.specs.Table.{rest}
use Rattle.rp_base.specs.declared.kinds.End.{End}
use Rattle.rp_base.specs.declared.kinds.End.TheVariants as side
use Rattle.rp_base.specs.declared.kinds.Era.{Era}
use Rattle.rp_base.specs.declared.limits.TheConstants.{CAPACITY_MOST}
use Rattle.lane_model.specs.declared.calls.CallEnd.TheVariants as end
use Rattle.lane_model.specs.declared.recoveries.LaneTurn.TheVariants as lane_turn
use Rattle.lane_model.specs.declared.stages.Receiving.{Receiving}
use Rattle.lane_model.specs.declared.stages.TakeStage.TheVariants as take_stage
use Rattle.lane_model.specs.declared.stages.Turn.{Turn}
use Rattle.lane_model.specs.declared.stages.Turn.TheVariants as turn
use Rattle.lane_model.specs.declared.stages.Work.{Work}
use Rattle.lane_model.specs.declared.stages.Work.TheVariants as work
use Rattle.lane_model.specs.Desks.{DeskMeaning}
use Rattle.lane_model.specs.Lanes.{is_live_in}
use Rattle.lane_model.specs.Receives.{after_take_era}
use Rattle.ring_core.specs.declared.states.Hand.{Hand}
use Rattle.ring_core.specs.declared.states.RingSizes.{RingSizes}
use Rattle.link_words.specs.declared.codes.DeskRight.{DeskRight}
use Rattle.link_words.specs.declared.rule.Call.{Call}
use Rattle.link_words.specs.declared.rule.Call.TheVariants.{Receives}
use Rattle.link_words.specs.declared.rule.Event.TheVariants.{Step, Count, Take}
use Rattle.link_words.specs.declared.rule.Event.{Event}
use Rattle.link_words.specs.declared.rule.Counted.{Counted}
use Rattle.link_words.specs.declared.rule.Counted.TheVariants.{Waiting}
use Rattle.link_words.specs.Histories.{NeverBack}
use Rattle.link_words.specs.declared.rule.LinkSizes.{LinkSizes}
use Rattle.link_words.specs.declared.rule.Made.{Made}
use Rattle.link_words.specs.declared.rule.Made.TheVariants as made
use Rattle.link_words.specs.declared.rule.Pass.{Pass}
use Rattle.link_words.specs.declared.rule.ReceiverSide.{ReceiverSide}
use Rattle.link_words.specs.declared.rule.Slot.{Slot}
use Rattle.link_words.specs.declared.rule.Slot.TheVariants.{Buffer, Receiver}
use Rattle.link_words.specs.Calls.{SeatState, WorkAt, Notes, noted, send_or, receive_or, under_way_or, with_receive, place_of, call_at}
use Rattle.link_words.specs.Passes.{with_call}
use Rattle.link_words.specs.PlacedDesks.{IsRightTo, no_right}
use Rattle.link_words.specs.Steps.{HandsAt, TakeLoadsEra, TakeLooks, TakeTakesBuffer, TakeHands, handed_by, sizes_by, slot_by, lane_by, follows_by, take_look_turn, with_waiting, with_handing, handed_side}
use Rattle.link_words.specs.Words.{sizes_at, buffer_slot, era_word}
use Rattle.split_ring.specs.declared.callers.CallerId.{CallerId}
use Rattle.split_ring.specs.declared.takes.TakeCall.{TakeCall}
use Rattle.split_ring.specs.Openings.{IsOpenable}
use Rattle.split_ring.specs.Receives.{IsTakeAt, HasBufferOut, message_look}
use Rattle.split_ring.specs.Seats.{pass_in, IsAt}
use Rattle.split_ring.specs.Sends.{live_era}
use Rattle.split_ring.specs.Turns.{IsLeaving, receive_call, receive_slots}
use Rattle.split_ring.specs.Walks.{same_hands, one_more, IsRingStep, HasDone}
use Rattle.split_ring.proofs.Eras.{live_is, dead_is}
use Rattle.split_ring.proofs.Seats.{Moves, after_step, stepped_once, stepped_counted, first_place, call_here, own_here, mover_of, side_receives, side_hands}

-- the call of a caller with the receiver's turn in this state
abbrev pub with_turn : CallerId → ReceiverSide → ℕ → List ℕ → Turn Receiving → Call
with_turn who x b m t = Receives who.end t x b m

abbrev pub receiving : CallerId → Work → Receiving
receiving who w = record { follows = who.follows; work = w }

-- the seat's one pass has the receiver's turn
pub alone : (me : SeatState) (who : CallerId) (w : Work) (x : ReceiverSide) (b : ℕ) (m : List ℕ) → IsAt me (receive_call who w x b m) (receive_slots who x) → place_of me ≡ 0
alone me who w x b m at = first_place me (receive_call who w x b m) (receive_slots who x) at (side_receives who.end (turn.Taken who.number (receiving who w)) x b m (Receiver x))

-- with a buffer out
abbrev pub hand_slots : LinkSizes → CallerId → ReceiverSide → ℕ → List ℕ → List (ℕ × Slot)
hand_slots z who x b m = (buffer_slot z.to_host.capacity who.end b, Buffer m) ∷ receive_slots who x

pub alone_out : (z : LinkSizes) (me : SeatState) (who : CallerId) (w : Work) (x : ReceiverSide) (b : ℕ) (m : List ℕ) → IsAt me (receive_call who w x b m) (hand_slots z who x b m) → place_of me ≡ 0
alone_out z me who w x b m at = first_place me (receive_call who w x b m) (hand_slots z who x b m) at (side_hands who.end (turn.Taken who.number (receiving who w)) x b m z.to_host.capacity b (Buffer m) (Receiver x))

abbrev pub work_at : (me : SeatState) (who : CallerId) (w : Work) (x : ReceiverSide) (b : ℕ) (m : List ℕ) (slots : List (ℕ × Slot)) → IsAt me (receive_call who w x b m) slots → place_of me ≡ 0 → WorkAt me who.end w
work_at me who w x b m slots at zero = record {
  mover = mover_of me at.one;
  here = sym zero;
  caller = who.number;
  follows = who.follows;
  side = x;
  buffer = b;
  message = m;
  call = at.in_call;
}

-- what the steps read of the call
pub side_is : {A : Type 0} (otherwise : A) (read : ReceiverSide → A) (me : SeatState) (who : CallerId) (w : Work) (x : ReceiverSide) (b : ℕ) (m : List ℕ) (slots : List (ℕ × Slot)) → IsAt me (receive_call who w x b m) slots → place_of me ≡ 0
    → receive_or otherwise (λ e t y c message. read y) (call_at (place_of me) me.0.passes) ≡ read x
side_is otherwise read me who w x b m slots at zero = ap (λ (k : Call). receive_or otherwise (λ e t y c message. read y) k) (call_here me (receive_call who w x b m) slots (place_of me) at zero)

pub lane_is : (me : SeatState) (who : CallerId) (w : Work) (x : ReceiverSide) (b : ℕ) (m : List ℕ) (slots : List (ℕ × Slot)) → IsAt me (receive_call who w x b m) slots → place_of me ≡ 0 → lane_by me ≡ who.end
lane_is me who w x b m slots at zero = ap (λ (k : Call). send_or {A = End} (receive_or {A = End} side.Host (λ e t x b message. e) k) (λ e t x b. e) k) (call_here me (receive_call who w x b m) slots (place_of me) at zero)

follows_is : (me : SeatState) (who : CallerId) (w : Work) (x : ReceiverSide) (b : ℕ) (m : List ℕ) (slots : List (ℕ × Slot)) → IsAt me (receive_call who w x b m) slots → place_of me ≡ 0 → follows_by me ≡ who.follows
follows_is me who w x b m slots at zero =
    ap (λ (k : Call). send_or (receive_or 0 (λ e t x b message. under_way_or 0 (λ caller r. r.follows) t) k) (λ e t x b. under_way_or 0 (λ caller s. s.follows) t) k) (call_here me (receive_call who w x b m) slots (place_of me) at zero)

pub sizes_is : (z : LinkSizes) (me : SeatState) (who : CallerId) (w : Work) (x : ReceiverSide) (b : ℕ) (m : List ℕ) (slots : List (ℕ × Slot)) → me.0.sizes ≡ z → IsAt me (receive_call who w x b m) slots → place_of me ≡ 0 → sizes_by me ≡ sizes_at z who.end
sizes_is z me who w x b m slots told at zero = λ i. sizes_at (told i) (lane_is me who w x b m slots at zero i)

-- a lane has at most 256 buffers
pub capacity_low : (z : LinkSizes) (lane : End) → IsOpenable z → (sizes_at z lane).capacity ≤ 256
capacity_low z side.Host opens = opens.to_host.2
capacity_low z side.Remote opens = opens.to_remote.2

module _ {D : Type 0} (coded : Coded D) (meaning : DeskMeaning D) where
  -- a step behind which the call has another turn
  pub turned : (made : Made) (next : ReceiverSide → ℕ → Receiving → Turn Receiving) (me me' : SeatState) (who : CallerId) (w : Work) (x : ReceiverSide) (t : Turn Receiving) → IsAt me (receive_call who w x 0 []) (receive_slots who x)
      → Notes made (with_receive next) (place_of me) me.1 me me' → next x who.number (receiving who w) ≡ t → IsRingStep coded meaning me me'
      → IsAt me' (with_turn who x 0 [] t) (receive_slots who x) × HasDone coded meaning (Step made ∷ []) same_hands me me'
  turned making next me me' who w x t at told is step =
      after_step coded meaning (λ p. noted making (with_receive next p)) me.1 (receive_slots who x) me me' (place_of me) (with_turn who x 0 [] t) (Step making ∷ []) same_hands at.one (alone me who w x 0 [] at) told at.out
      (record { in_call = ap (λ (k : Call). receive_or k (λ e t y b message. Receives e (under_way_or t (next y) t) y b message) k) at.in_call ∙ ap (with_turn who x 0 []) is; own = refl; number = refl; first = refl; in_hand = refl })
      (stepped_once coded meaning making me me' step)

  -- step 2
  pub take_live : (me me' : SeatState) (c : TakeCall) (n : ℕ) (found : Era) → IsTakeAt c (work.Take take_stage.Turn) me → TakeLoadsEra me n me' → IsRingStep coded meaning me me'
      → ((era : Era) → n ≡ era_word era → era.inc < 4294967296 → found ≡ era) → is_live_in found c.who.follows ≡ true
      → IsTakeAt c (work.Take take_stage.Era) me' × HasDone coded meaning (Step (made.Era (live_era c.who.follows)) ∷ []) same_hands me me'
  take_live me me' c n found at told step reads live =
      let same : found ≡ told.0 = reads told.0 told.1 told.2 in let here : is_live_in told.0 c.who.follows ≡ true = ap (λ (e : Era). is_live_in e c.who.follows) (sym same) ∙ live in
      let is : told.0 ≡ live_era c.who.follows = live_is told.0 c.who.follows here in
      let all = turned (made.Era told.0) (λ x caller r. after_take_era told.0 caller r) me me' c.who (work.Take take_stage.Turn) at.side (turn.Taken c.who.number (receiving c.who (work.Take take_stage.Era))) at.at told.3
      (ap (λ (b : Bool). cond b (turn.Taken c.who.number (receiving c.who (work.Take take_stage.Era))) (turn.Leaving c.who.number (end.Dead told.0))) here) step in
      (record { side = at.side; handed = at.handed; most = at.most; at = all.0 }, subst (λ (e : Era). HasDone coded meaning (Step (made.Era e) ∷ []) same_hands me me') is all.1)

  pub take_dead : (me me' : SeatState) (c : TakeCall) (n : ℕ) (found : Era) → IsTakeAt c (work.Take take_stage.Turn) me → TakeLoadsEra me n me' → IsRingStep coded meaning me me'
      → ((era : Era) → n ≡ era_word era → era.inc < 4294967296 → found ≡ era) → is_live_in found c.who.follows ≡ false
      → (found ≢ live_era c.who.follows) × IsLeaving lane_turn.Receiver c.who.end (end.Dead found) me' × HasDone coded meaning (Step (made.Era found) ∷ []) same_hands me me'
  take_dead me me' c n found at told step reads dead =
      let same : found ≡ told.0 = reads told.0 told.1 told.2 in let here : is_live_in told.0 c.who.follows ≡ false = ap (λ (e : Era). is_live_in e c.who.follows) (sym same) ∙ dead in
      let all = turned (made.Era told.0) (λ x caller r. after_take_era told.0 caller r) me me' c.who (work.Take take_stage.Turn) at.side (turn.Leaving c.who.number (end.Dead told.0)) at.at told.3
      (ap (λ (b : Bool). cond b (turn.Taken c.who.number (receiving c.who (work.Take take_stage.Era))) (turn.Leaving c.who.number (end.Dead told.0))) here) step in
      (dead_is found c.who.follows dead, subst (λ (e : Era). IsLeaving lane_turn.Receiver c.who.end (end.Dead e) me') (sym same) (c.who.number, at.side, 0, [], all.0), subst (λ (e : Era). HasDone coded meaning (Step (made.Era e) ∷ []) same_hands me me') (sym same) all.1)

  -- step 3
  waiting_pass : (c : TakeCall) (x : ReceiverSide) (accepted : ℕ) (t : Turn Receiving) (p : Pass) → x.handed ≡ c.handed → p.call ≡ receive_call c.who (work.Take take_stage.Era) x 0 [] → take_look_turn x.handed accepted c.who.number (receiving c.who (work.Take take_stage.Era)) ≡ t
      → Moves p (with_waiting accepted p) (with_turn c.who x 0 [] t) (message_look c.who c.handed accepted ∷ []) same_hands
  waiting_pass c x accepted t p handed in_call turns =
      let is : with_waiting accepted p ≡ record p { call = with_turn c.who x 0 [] (take_look_turn x.handed accepted c.who.number (receiving c.who (work.Take take_stage.Era))); own = message_look c.who x.handed accepted ∷ p.own }
      = ap (λ (k : Call). receive_or p (λ e t y b message. under_way_or p (λ caller r. record p { call = Receives e (take_look_turn y.handed accepted caller r) y b message; own = Count e r.follows (Waiting y.handed accepted) ∷ p.own }) t) k) in_call in
      record { in_call = ap (λ (r : Pass). r.call) is ∙ ap (with_turn c.who x 0 []) turns; own = ap (λ (r : Pass). r.own) is ∙ ap (λ (k : ℕ). message_look c.who k accepted ∷ p.own) handed; number = ap (λ (r : Pass). r.number) is; first = ap (λ (r : Pass). r.first) is; in_hand = ap (λ (r : Pass). r.hands) is }

  looks : (me me' : SeatState) (c : TakeCall) (n : ℕ) (t : Turn Receiving) (at : IsTakeAt c (work.Take take_stage.Era) me) → (told : TakeLooks me n me') → IsRingStep coded meaning me me'
      → take_look_turn at.side.handed told.0 c.who.number (receiving c.who (work.Take take_stage.Era)) ≡ t
      → IsAt me' (with_turn c.who at.side 0 [] t) (receive_slots c.who at.side) × HasDone coded meaning (message_look c.who c.handed told.0 ∷ []) same_hands me me'
  looks me me' c n t at told step is =
      let zero = alone me c.who (work.Take take_stage.Era) at.side 0 [] at.at in
      let handed : handed_by me ≡ c.handed = side_is 0 (λ y. y.handed) me c.who (work.Take take_stage.Era) at.side 0 [] (receive_slots c.who at.side) at.at zero ∙ at.handed in
      let w = work.Take take_stage.Era in let x = at.side in let slots = receive_slots c.who x in let waiting : Counted = Waiting c.handed told.0 in
      let never : NeverBack c.who.end c.who.follows waiting (pass_in me).own = subst (λ (v : End × ℕ × ℕ × List Event). NeverBack v.0 v.1 (Waiting v.2 told.0) v.3)
      (λ i. (lane_is me c.who w x 0 [] slots at.at zero i, follows_is me c.who w x 0 [] slots at.at zero i, handed i, own_here me (place_of me) at.at.one zero i)) told.4 in
      after_step coded meaning (with_waiting told.0) me.1 slots me me' (place_of me) (with_turn c.who x 0 [] t) (message_look c.who c.handed told.0 ∷ []) same_hands at.at.one zero told.5 at.at.out
      (waiting_pass c x told.0 t (pass_in me) at.handed at.at.in_call is) (stepped_counted coded meaning c.who.end c.who.follows waiting me me' step never)

  -- the count that was found
  found_count : (z : LinkSizes) (me me' : SeatState) (c : TakeCall) (n waiting : ℕ) → me.0.sizes ≡ z → IsOpenable z → IsTakeAt c (work.Take take_stage.Era) me → (told : TakeLooks me n me')
      → ((accepted : ℕ) → n ≡ accepted % 65536 → c.handed ≤ accepted → accepted ≤ c.handed + 256 → waiting + c.handed ≡ accepted) → waiting + c.handed ≡ told.0
  found_count z me me' c n waiting sized opens at told counts =
      let zero = alone me c.who (work.Take take_stage.Era) at.side 0 [] at.at in
      let handed : handed_by me ≡ c.handed = side_is 0 (λ y. y.handed) me c.who (work.Take take_stage.Era) at.side 0 [] (receive_slots c.who at.side) at.at zero ∙ at.handed in
      let sizes = sizes_is z me c.who (work.Take take_stage.Era) at.side 0 [] (receive_slots c.who at.side) sized at.at zero in
      let low : (sizes_by me).capacity ≤ 256 = subst (λ (s : RingSizes). s.capacity ≤ 256) (sym sizes) (capacity_low z c.who.end opens) in
      let above : handed_by me ≤ told.0 = told.2 in let below : told.0 ≤ handed_by me + (sizes_by me).capacity = told.3 in
      counts told.0 told.1 (omega (arith, handed, above)) (omega (arith, handed, below, low))

  pub finds_message : (z : LinkSizes) (me me' : SeatState) (c : TakeCall) (n waiting : ℕ) → me.0.sizes ≡ z → IsOpenable z → IsTakeAt c (work.Take take_stage.Era) me → TakeLooks me n me' → IsRingStep coded meaning me me'
      → ((accepted : ℕ) → n ≡ accepted % 65536 → c.handed ≤ accepted → accepted ≤ c.handed + 256 → waiting + c.handed ≡ accepted) → waiting ≢ 0
      → IsTakeAt c (work.Take take_stage.Look) me' × ((accepted : ℕ) × HasDone coded meaning (message_look c.who c.handed accepted ∷ []) same_hands me me')
  finds_message z me me' c n waiting sized opens at told step counts some =
      let count = found_count z me me' c n waiting sized opens at told counts in let handed = at.handed in
      let more : at.side.handed ≢ told.0 = λ same. some (omega (arith, count, same, handed)) in
      let all = looks me me' c n (turn.Taken c.who.number (receiving c.who (work.Take take_stage.Look))) at told step
      (ap (λ (b : Bool). cond b (turn.Leaving c.who.number (end.Empty told.0)) (turn.Taken c.who.number (receiving c.who (work.Take take_stage.Look)))) (ne_eqb at.side.handed told.0 more)) in
      (record { side = at.side; handed = at.handed; most = at.most; at = all.0 }, (told.0, all.1))

  pub finds_empty : (z : LinkSizes) (me me' : SeatState) (c : TakeCall) (n waiting : ℕ) → me.0.sizes ≡ z → IsOpenable z → IsTakeAt c (work.Take take_stage.Era) me → TakeLooks me n me' → IsRingStep coded meaning me me'
      → ((accepted : ℕ) → n ≡ accepted % 65536 → c.handed ≤ accepted → accepted ≤ c.handed + 256 → waiting + c.handed ≡ accepted) → waiting ≡ 0
      → IsLeaving lane_turn.Receiver c.who.end (end.Empty c.handed) me' × HasDone coded meaning (message_look c.who c.handed c.handed ∷ []) same_hands me me'
  finds_empty z me me' c n waiting sized opens at told step counts none =
      let count = found_count z me me' c n waiting sized opens at told counts in let handed = at.handed in
      let all_handed : at.side.handed ≡ told.0 = omega (arith, count, none, handed) in let found : told.0 ≡ c.handed = sym all_handed ∙ handed in
      let all = looks me me' c n (turn.Leaving c.who.number (end.Empty told.0)) at told step
      (ap (λ (b : Bool). cond b (turn.Leaving c.who.number (end.Empty told.0)) (turn.Taken c.who.number (receiving c.who (work.Take take_stage.Look)))) (eq-eqb at.side.handed told.0 all_handed)) in
      (subst (λ (k : ℕ). IsLeaving lane_turn.Receiver c.who.end (end.Empty k) me') found (c.who.number, at.side, 0, [], all.0), subst (λ (k : ℕ). HasDone coded meaning (message_look c.who c.handed k ∷ []) same_hands me me') found all.1)

  -- step 4
  pub entry_at : (me : SeatState) (c : TakeCall) → (at : IsTakeAt c (work.Take take_stage.Look) me) → WorkAt me c.who.end (work.Take take_stage.Look) × (handed_by me ≡ c.handed)
  entry_at me c at =
      let zero = alone me c.who (work.Take take_stage.Look) at.side 0 [] at.at in
      (work_at me c.who (work.Take take_stage.Look) at.side 0 [] (receive_slots c.who at.side) at.at zero, side_is 0 (λ y. y.handed) me c.who (work.Take take_stage.Look) at.side 0 [] (receive_slots c.who at.side) at.at zero ∙ at.handed)

  pub takes_filled : (z : LinkSizes) (me me' : SeatState) (c : TakeCall) (id : ℕ) → me.0.sizes ≡ z → IsTakeAt c (work.Take take_stage.Look) me → TakeTakesBuffer id me me' → IsRingStep coded meaning me me'
      → ((message : List ℕ) × HasBufferOut z c (work.Take take_stage.Buffer) id message me') × HasDone coded meaning (Step (made.Buffer id) ∷ []) same_hands me me'
  takes_filled z me me' c id sized at told step =
      let x = at.side in let zero = alone me c.who (work.Take take_stage.Look) x 0 [] at.at in
      let lane = lane_is me c.who (work.Take take_stage.Look) x 0 [] (receive_slots c.who x) at.at zero in
      let all = after_step coded meaning (λ p. noted (made.Buffer id) (with_call p (receive_or p.call (λ e t y b old. Receives e (under_way_or t (λ caller r. turn.Taken caller (record r { work = work.Take take_stage.Buffer })) t) y id told.0) p.call)))
      ((slot_by me id, Buffer told.0) ∷ me.1) (hand_slots z c.who x id told.0) me me' (place_of me) (receive_call c.who (work.Take take_stage.Buffer) x id told.0) (Step (made.Buffer id) ∷ []) same_hands at.at.one zero told.1
      (λ i. (buffer_slot (sized i).to_host.capacity (lane i) id, Buffer told.0) ∷ at.at.out i)
      (record { in_call = ap (λ (k : Call). receive_or k (λ e t y b old. Receives e (under_way_or t (λ caller r. turn.Taken caller (record r { work = work.Take take_stage.Buffer })) t) y id told.0) k) at.at.in_call; own = refl; number = refl; first = refl; in_hand = refl })
      (stepped_once coded meaning (made.Buffer id) me me' step) in
      ((told.0, record { side = x; handed = at.handed; most = at.most; at = all.0 }), all.1)

  -- step 5
  pub hands_at : (z : LinkSizes) (me : SeatState) (c : TakeCall) (b : ℕ) (m : List ℕ) → me.0.sizes ≡ z → HasBufferOut z c (work.Take take_stage.Buffer) b m me → HandsAt me
  hands_at z me c b m sized out = let at = out.at in let x = out.side in record {
    lane = c.who.end;
    at = work_at me c.who (work.Take take_stage.Buffer) x b m (hand_slots z c.who x b m) at (alone_out z me c.who (work.Take take_stage.Buffer) x b m at);
    slots = at.out ∙ ((λ i. (buffer_slot (sym sized i).to_host.capacity c.who.end b, Buffer m) ∷ receive_slots c.who x)
        ∙ (λ i. (buffer_slot me.0.sizes.to_host.capacity c.who.end b, Buffer m) ∷ rest (sym at.out i)));
  }

  -- the handing, where the message is handed over to the call of a pass, and where it isn't
  handed_pass : (c : TakeCall) (x : ReceiverSide) (b : ℕ) (m : List ℕ) (era : Era) (desk : D) (p : Pass) → p.call ≡ receive_call c.who (work.Take take_stage.Buffer) x b m → is_live_in era c.who.follows ≡ true
      → Moves p (noted (made.Era era) (with_handing coded meaning era desk p)) (Receives c.who.end (turn.Leaving c.who.number (end.Took x.handed (meaning.verdict desk x.handed m))) (handed_side coded meaning desk x c.who.number b m) b m)
      (Step (made.Era era) ∷ Take c.who.end c.who.follows x.handed m ∷ []) (one_more x.handed)
  handed_pass c x b m era desk p in_call live =
      let handed : Pass = record p {
        call = Receives c.who.end (turn.Leaving c.who.number (end.Took x.handed (meaning.verdict desk x.handed m))) (handed_side coded meaning desk x c.who.number b m) b m;
        own = Take c.who.end c.who.follows x.handed m ∷ p.own;
        hands = p.hands ++ x.handed ∷ [];
      } in let dead : Pass = with_call p (Receives c.who.end (turn.Leaving c.who.number (end.Dead era)) x b m) in
      let is : with_handing coded meaning era desk p ≡ handed = ap (λ (k : Call). receive_or p (λ e t y a message. under_way_or p (λ caller r. cond (is_live_in era r.follows)
      (record p {
        call = Receives e (turn.Leaving caller (end.Took y.handed (meaning.verdict desk y.handed message))) (handed_side coded meaning desk y caller a message) a message;
        own = Take e r.follows y.handed message ∷ p.own;
        hands = p.hands ++ y.handed ∷ [];
      })
      (with_call p (Receives e (turn.Leaving caller (end.Dead era)) y a message))) t) k) in_call ∙ ap (λ (a : Bool). cond a handed dead) live in
      record { in_call = ap (λ (r : Pass). r.call) is; own = ap (λ (r : Pass). Step (made.Era era) ∷ r.own) is; number = ap (λ (r : Pass). r.number) is; first = ap (λ (r : Pass). r.first) is; in_hand = ap (λ (r : Pass). r.hands) is }

  dead_pass : (c : TakeCall) (x : ReceiverSide) (b : ℕ) (m : List ℕ) (era : Era) (desk : D) (p : Pass) → p.call ≡ receive_call c.who (work.Take take_stage.Buffer) x b m → is_live_in era c.who.follows ≡ false
      → Moves p (noted (made.Era era) (with_handing coded meaning era desk p)) (Receives c.who.end (turn.Leaving c.who.number (end.Dead era)) x b m) (Step (made.Era era) ∷ []) same_hands
  dead_pass c x b m era desk p in_call live =
      let handed : Pass = record p {
        call = Receives c.who.end (turn.Leaving c.who.number (end.Took x.handed (meaning.verdict desk x.handed m))) (handed_side coded meaning desk x c.who.number b m) b m;
        own = Take c.who.end c.who.follows x.handed m ∷ p.own;
        hands = p.hands ++ x.handed ∷ [];
      } in let dead : Pass = with_call p (Receives c.who.end (turn.Leaving c.who.number (end.Dead era)) x b m) in
      let is : with_handing coded meaning era desk p ≡ dead = ap (λ (k : Call). receive_or p (λ e t y a message. under_way_or p (λ caller r. cond (is_live_in era r.follows)
      (record p {
        call = Receives e (turn.Leaving caller (end.Took y.handed (meaning.verdict desk y.handed message))) (handed_side coded meaning desk y caller a message) a message;
        own = Take e r.follows y.handed message ∷ p.own;
        hands = p.hands ++ y.handed ∷ [];
      })
      (with_call p (Receives e (turn.Leaving caller (end.Dead era)) y a message))) t) k) in_call ∙ ap (λ (a : Bool). cond a handed dead) live in
      record { in_call = ap (λ (r : Pass). r.call) is; own = ap (λ (r : Pass). Step (made.Era era) ∷ r.own) is; number = ap (λ (r : Pass). r.number) is; first = ap (λ (r : Pass). r.first) is; in_hand = ap (λ (r : Pass). r.hands) is }

  -- what a handing leaves: the side state that is out is still as it was
  pub record Handed (z : LinkSizes) (c : TakeCall) (x : ReceiverSide) (b : ℕ) (m : List ℕ) (me me' : SeatState) : Type 0 where
    pub desk : D
    pub right : IsRightTo coded z.desks x.desk desk
    pub room : length x.hands < CAPACITY_MOST
    pub takers : x.handed < x.room
    pub at : IsAt me' (Receives c.who.end (turn.Leaving c.who.number (end.Took x.handed (meaning.verdict desk x.handed m))) (handed_side coded meaning desk x c.who.number b m) b m) (receive_slots c.who x)
    pub done : HasDone coded meaning (Step (made.Era (live_era c.who.follows)) ∷ Take c.who.end c.who.follows x.handed m ∷ []) (one_more x.handed) me me'

  pub hands_live : (z : LinkSizes) (me me' : SeatState) (c : TakeCall) (n b : ℕ) (m : List ℕ) (found : Era) → me.0.sizes ≡ z → (out : HasBufferOut z c (work.Take take_stage.Buffer) b m me) → TakeHands coded meaning me.0.sizes.desks me n me' → IsRingStep coded meaning me me'
      → ((era : Era) → n ≡ era_word era → era.inc < 4294967296 → found ≡ era) → is_live_in found c.who.follows ≡ true → Handed z c out.side b m me me'
  hands_live z me me' c n b m found sized out told step reads live =
      let x = out.side in let at = out.at in let w = work.Take take_stage.Buffer in let slots = hand_slots z c.who x b m in let zero = alone_out z me c.who w x b m at in
      let same : found ≡ told.0 = reads told.0 told.1 told.2 in let here : is_live_in told.0 c.who.follows ≡ true = ap (λ (e : Era). is_live_in e c.who.follows) (sym same) ∙ live in
      let is : told.0 ≡ live_era c.who.follows = live_is told.0 c.who.follows here in
      let all = after_step coded meaning (λ p. noted (made.Era told.0) (with_handing coded meaning told.0 told.5 p)) (rest me.1) (receive_slots c.who x) me me' (place_of me)
      (Receives c.who.end (turn.Leaving c.who.number (end.Took x.handed (meaning.verdict told.5 x.handed m))) (handed_side coded meaning told.5 x c.who.number b m) b m)
      (Step (made.Era told.0) ∷ Take c.who.end c.who.follows x.handed m ∷ []) (one_more x.handed) at.one zero told.7 (ap rest at.out) (handed_pass c x b m told.0 told.5 (pass_in me) at.in_call here) (me, me', refl, step, refl) in
      record {
        desk = told.5;
        right = subst (λ (y : LinkSizes). IsRightTo coded y.desks x.desk told.5) sized (subst (λ (r : DeskRight). IsRightTo coded me.0.sizes.desks r told.5) (side_is no_right (λ y. y.desk) me c.who w x b m slots at zero) told.6);
        room = subst (λ (hands : List Hand). length hands < CAPACITY_MOST) (side_is [] (λ y. y.hands) me c.who w x b m slots at zero) told.3;
        takers = subst (λ (v : ℕ × ℕ). v.0 < v.1) (λ i. (side_is 0 (λ y. y.handed) me c.who w x b m slots at zero i, side_is 0 (λ y. y.room) me c.who w x b m slots at zero i)) told.4;
        at = all.0;
        done = subst (λ (e : Era). HasDone coded meaning (Step (made.Era e) ∷ Take c.who.end c.who.follows x.handed m ∷ []) (one_more x.handed) me me') is all.1;
      }

  pub hands_dead : (z : LinkSizes) (me me' : SeatState) (c : TakeCall) (n b : ℕ) (m : List ℕ) (found : Era) → HasBufferOut z c (work.Take take_stage.Buffer) b m me → TakeHands coded meaning me.0.sizes.desks me n me' → IsRingStep coded meaning me me'
      → ((era : Era) → n ≡ era_word era → era.inc < 4294967296 → found ≡ era) → is_live_in found c.who.follows ≡ false
      → IsLeaving lane_turn.Receiver c.who.end (end.Dead found) me' × (found ≢ live_era c.who.follows) × HasDone coded meaning (Step (made.Era found) ∷ []) same_hands me me'
  hands_dead z me me' c n b m found out told step reads dead =
      let x = out.side in let at = out.at in let zero = alone_out z me c.who (work.Take take_stage.Buffer) x b m at in
      let same : found ≡ told.0 = reads told.0 told.1 told.2 in let here : is_live_in told.0 c.who.follows ≡ false = ap (λ (e : Era). is_live_in e c.who.follows) (sym same) ∙ dead in
      let all = after_step coded meaning (λ p. noted (made.Era told.0) (with_handing coded meaning told.0 told.5 p)) (rest me.1) (receive_slots c.who x) me me' (place_of me)
      (Receives c.who.end (turn.Leaving c.who.number (end.Dead told.0)) x b m) (Step (made.Era told.0) ∷ []) same_hands at.one zero told.7 (ap rest at.out) (dead_pass c x b m told.0 told.5 (pass_in me) at.in_call here)
      (stepped_once coded meaning (made.Era told.0) me me' step) in
      (subst (λ (e : Era). IsLeaving lane_turn.Receiver c.who.end (end.Dead e) me') (sym same) (c.who.number, x, b, m, all.0), dead_is found c.who.follows dead, subst (λ (e : Era). HasDone coded meaning (Step (made.Era e) ∷ []) same_hands me me') (sym same) all.1)
