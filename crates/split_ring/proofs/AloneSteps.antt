-- What each step tells a seat that may have several passes is what it would tell of the pass alone.
use Rattle.std.proofs.Common.{◌≡◌, ◌≢◌, ◌⊎◌, inl, inr, ℕ, suc, ◌+◌, ◌%◌, ◌<◌, ◌≤◌, ◌++◌, ◌==◌, Bool, true, false, cond, length, List, [], ◌∷◌, refl, sym, ap, ◌∙◌, subst}
use Rattle.std.specs.Prelude.{None}
use mathlib.Core.Option.{some}
use lib.ListN.{get_elem?}
use base.Stored.{Coded}
use Rattle.atomic_table.specs.Table.{rest}
use Rattle.rp_base.specs.declared.kinds.End.{End}
use Rattle.rp_base.specs.declared.kinds.End.TheVariants as side
use Rattle.rp_base.specs.declared.kinds.Era.{Era}
use Rattle.rp_base.specs.declared.limits.TheConstants.{CAPACITY_MOST}
use Rattle.lane_model.specs.declared.calls.CallEnd.TheVariants as end
use Rattle.lane_model.specs.declared.calls.Wish.{Wish}
use Rattle.lane_model.specs.declared.calls.Wish.TheVariants as wish
use Rattle.lane_model.specs.declared.recoveries.LaneTurn.{LaneTurn}
use Rattle.lane_model.specs.declared.recoveries.LaneTurn.TheVariants as lane_turn
use Rattle.lane_model.specs.declared.stages.GiveStage.TheVariants as give_stage
use Rattle.lane_model.specs.declared.stages.Receiving.{Receiving}
use Rattle.lane_model.specs.declared.stages.SendStage.{SendStage}
use Rattle.lane_model.specs.declared.stages.SendStage.TheVariants as stage
use Rattle.lane_model.specs.declared.stages.Sending.{Sending}
use Rattle.lane_model.specs.declared.stages.TakeStage.TheVariants as take_stage
use Rattle.lane_model.specs.declared.stages.Turn.{Turn}
use Rattle.lane_model.specs.declared.stages.Turn.TheVariants as turn
use Rattle.lane_model.specs.declared.stages.Work.{Work}
use Rattle.lane_model.specs.declared.stages.Work.TheVariants as work
use Rattle.lane_model.specs.Desks.{DeskMeaning}
use Rattle.lane_model.specs.Lanes.{is_live_in}
use Rattle.lane_model.specs.Receives.{after_take_era}
use Rattle.lane_model.specs.Sends.{after_send_era}
use Rattle.ring_core.specs.Rings.{return_count, entry_length}
use Rattle.ring_core.specs.RingSteps.{hands_without}
use Rattle.vring_layout.specs.declared.words.UsedWord.{UsedWord}
use Rattle.link_words.specs.declared.codes.DeskTables.{DeskTables}
use Rattle.link_words.specs.declared.loads.EraUse.{EraUse}
use Rattle.link_words.specs.declared.loads.EraUse.TheVariants as era
use Rattle.link_words.specs.declared.loads.IndexUse.{IndexUse}
use Rattle.link_words.specs.declared.loads.IndexUse.TheVariants as index
use Rattle.link_words.specs.declared.rule.Call.{Call}
use Rattle.link_words.specs.declared.rule.Call.TheVariants.{Sends, Receives, Rests}
use Rattle.link_words.specs.declared.rule.Counted.TheVariants.{Room, Waiting, Gave}
use Rattle.link_words.specs.declared.rule.Event.{Event}
use Rattle.link_words.specs.declared.rule.Event.TheVariants.{Count, Publish, Take}
use Rattle.link_words.specs.declared.rule.Made.{Made}
use Rattle.link_words.specs.declared.rule.Made.TheVariants as made
use Rattle.link_words.specs.declared.rule.Pass.{Pass}
use Rattle.link_words.specs.declared.rule.ReceiverSide.{ReceiverSide}
use Rattle.link_words.specs.declared.rule.Ring.{Ring}
use Rattle.link_words.specs.declared.rule.Ring.TheVariants as ring
use Rattle.link_words.specs.declared.rule.SenderSide.{SenderSide}
use Rattle.link_words.specs.declared.rule.Slot.{Slot}
use Rattle.link_words.specs.declared.rule.Slot.TheVariants.{Buffer, Receiver, Sender}
use Rattle.link_words.specs.Calls.{SeatState, SendAt, WorkAt, Becomes, Notes, call_at, noted, send_or, receive_or, under_way_or, with_send, with_receive, place_of}
use Rattle.link_words.specs.Deeds.{Steps}
use Rattle.link_words.specs.Histories.{NeverBack, latest}
use Rattle.link_words.specs.Orderly.{IsOrderly}
use Rattle.link_words.specs.Parts.{AreNear}
use Rattle.link_words.specs.Passes.{with_call, place_of_number}
use Rattle.link_words.specs.PlacedDesks.{IsRightTo, no_right}
use Rattle.link_words.specs.Steps.{GoesOn, EndsAt, LeavesTurn, TakesTurn, TakesSender, TakesReceiver, first_work, MayLoadIndex, LoadsIndex, MayLoadEntry, LoadsEntry, MayLoadEra, LoadsEra, MayStoreEntry, StoresEntry, MayPublish, PublishesIndex, SendLoadsEra, SendLooks, SendTakesBuffer, SendStoresEntry, SendPublishes, TakeLoadsEra, TakeLooks, TakeTakesBuffer, TakeHands, GiveStoresEntry, GivePublishes, BindLoadsEra, look_turn, take_look_turn, with_room, with_publish, with_waiting, with_handing, with_given, with_binding, with_entry, accepted_side, handed_side, given_or, hands_but, desk_says, desk_after}
use Rattle.link_words.specs.Words.{other, sizes_at, buffer_slot, sender_slot, receiver_slot}
use Rattle.split_ring.specs.Focus.{send_count, work_count, send_turn_count, work_turn_count, slot_count, front, behind, count_of, seat_of, LeavesOthers, StepsAlone}
use Rattle.split_ring.proofs.Focusing.{Focused, Links, goes_alone, goes_on, focused, step_alone, calls_same, owns_same, hands_same, count_is, call_there, place_alone, found_number, rest_front, rest_behind, lent_front}

-- what a step reads of the call of the pass that steps
abbrev lane_in : Call → End
lane_in k = send_or (receive_or side.Host (λ e t x b message. e) k) (λ e t x b. e) k

abbrev follows_in : Call → ℕ
follows_in k = send_or (receive_or 0 (λ e t x b message. under_way_or 0 (λ caller r. r.follows) t) k) (λ e t x b. under_way_or 0 (λ caller s. s.follows) t) k

abbrev accepted_in : Call → ℕ
accepted_in k = send_or 0 (λ e t x b. x.accepted) k

abbrev of_side : {A : Type 0} → A → (ReceiverSide → A) → Call → A
of_side otherwise read k = receive_or otherwise (λ e t x b message. read x) k

-- and what it makes of it
abbrev room_to : ℕ → ℕ → ℕ → Pass → Call → Pass
room_to returned capacity book p k = send_or p (λ e t x b. under_way_or p (λ caller s. record p {
  call = Sends e (look_turn x.accepted returned capacity book caller s) x b;
  own = Count e s.follows (Room x.accepted returned) ∷ p.own;
}) t) k

abbrev publish_to : Pass → Call → Pass
publish_to p k = send_or p (λ e t x b. under_way_or p (λ caller s. record p {
  call = Sends e (turn.Leaving caller (end.Sent x.accepted)) (accepted_side x caller s.message) b;
  own = Publish e s.follows x.accepted s.message ∷ p.own;
}) t) k

abbrev waiting_to : ℕ → Pass → Call → Pass
waiting_to accepted p k = receive_or p (λ e t x b message. under_way_or p (λ caller r. record p {
  call = Receives e (take_look_turn x.handed accepted caller r) x b message;
  own = Count e r.follows (Waiting x.handed accepted) ∷ p.own;
}) t) k

abbrev given_to : ℕ → Pass → Call → Pass
given_to inc p k = receive_or p (λ e t x b message. under_way_or p (λ caller r. given_or p (λ number. record p {
  call = Receives e (turn.Leaving caller (end.Gave number)) (record x { returned = x.returned + 1; hands = hands_without x.hands number }) b message;
  own = Count e inc (Gave (x.returned + 1)) ∷ p.own;
  hands = hands_but p.hands number;
}) r.work) t) k

abbrev handing_to : {D : Type 0} → Coded D → DeskMeaning D → Era → D → Pass → Call → Pass
handing_to coded meaning era desk p k = receive_or p (λ e t x b message. under_way_or p (λ caller r. cond (is_live_in era r.follows)
    (record p {
      call = Receives e (turn.Leaving caller (end.Took x.handed (meaning.verdict desk x.handed message))) (handed_side coded meaning desk x caller b message) b message;
      own = Take e r.follows x.handed message ∷ p.own;
      hands = p.hands ++ x.handed ∷ [];
    })
    (with_call p (Receives e (turn.Leaving caller (end.Dead era)) x b message))) t) k

abbrev binding_to : {D : Type 0} → Coded D → DeskMeaning D → Era → D → Pass → Call → Pass
binding_to coded meaning era desk p k = receive_or p (λ e t x b message. under_way_or p (λ caller r. cond (is_live_in era r.follows)
    (with_call p (Receives e (turn.Leaving caller (desk_says meaning desk x.handed r.work)) (record x { desk = record x.desk { code = coded.code (desk_after meaning desk x.handed r.work) } }) b message))
    (with_call p (Receives e (turn.Leaving caller (end.Dead era)) x b message))) t) k

send_either : (b : Bool) (t u : Turn Sending) → send_turn_count t ≡ 1 → send_turn_count u ≡ 1 → send_turn_count (cond b t u) ≡ 1
send_either true t u ht hu = ht
send_either false t u ht hu = hu

work_either : (b : Bool) (t u : Turn Receiving) → work_turn_count t ≡ 1 → work_turn_count u ≡ 1 → work_turn_count (cond b t u) ≡ 1
work_either true t u ht hu = ht
work_either false t u ht hu = hu

look_count : (accepted returned capacity book caller : ℕ) (s : Sending) → send_turn_count (look_turn accepted returned capacity book caller s) ≡ 1
look_count accepted returned capacity book caller s =
    send_either (accepted == returned + capacity) (turn.Leaving caller (end.NoBuffer accepted returned)) (cond (accepted == book) (turn.Leaving caller (end.BookFull accepted)) (turn.Taken caller (record s { stage = stage.Look }))) refl
    (send_either (accepted == book) (turn.Leaving caller (end.BookFull accepted)) (turn.Taken caller (record s { stage = stage.Look })) refl refl)

waiting_count : (handed accepted caller : ℕ) (r : Receiving) → work_turn_count (take_look_turn handed accepted caller r) ≡ 1
waiting_count handed accepted caller r = work_either (handed == accepted) (turn.Leaving caller (end.Empty accepted)) (turn.Taken caller (record r { work = work.Take take_stage.Look })) refl refl

pass_either : {A : Type 0} (read : Pass → A) (a : A) (b : Bool) (p q : Pass) → read p ≡ a → read q ≡ a → read (cond b p q) ≡ a
pass_either read a true p q hp hq = hp
pass_either read a false p q hp hq = hq

module _ (n : ℕ) (me me' : SeatState) (order : IsOrderly me.0) where
  -- what a step may do is what it may do with the pass alone
  pub send_in : (lane : End) (q : SendStage) → SendAt (seat_of n me) lane q → SendAt me lane q
  send_in lane q s = let f = focused n me order s.mover s.here in record {
    mover = record { place = place_of_number n me.0.passes; pass = s.mover.pass; here = f.there };
    here = sym f.here;
    caller = s.caller;
    follows = s.follows;
    message = s.message;
    side = s.side;
    buffer = s.buffer;
    call = s.call;
  }

  pub work_in : (lane : End) (w : Work) → WorkAt (seat_of n me) lane w → WorkAt me lane w
  work_in lane w s = let f = focused n me order s.mover s.here in record {
    mover = record { place = place_of_number n me.0.passes; pass = s.mover.pass; here = f.there };
    here = sym f.here;
    caller = s.caller;
    follows = s.follows;
    side = s.side;
    buffer = s.buffer;
    message = s.message;
    call = s.call;
  }

  -- the calls and the lists by the pass alone are those by its place
  send_calls : (lane : End) (q : SendStage) (s : SendAt (seat_of n me) lane q) → call_at (place_of (seat_of n me)) (seat_of n me).0.passes ≡ call_at (place_of me) me.0.passes
  send_calls lane q s = sym (calls_same n me (focused n me order s.mover s.here))

  work_calls : (lane : End) (w : Work) (s : WorkAt (seat_of n me) lane w) → call_at (place_of (seat_of n me)) (seat_of n me).0.passes ≡ call_at (place_of me) me.0.passes
  work_calls lane w s = sym (calls_same n me (focused n me order s.mover s.here))

  pub may_load_index : (u : IndexUse) (lane : End) → MayLoadIndex u lane (seat_of n me) → MayLoadIndex u lane me
  may_load_index index.Room lane may = send_in lane stage.Era may
  may_load_index index.OwnBuffer lane may = (send_in lane stage.Look may.0, subst (λ (k : Call). accepted_in k < (sizes_at me.0.sizes (lane_in k)).own) (send_calls lane stage.Look may.0) may.1)
  may_load_index index.Message lane may = work_in lane (work.Take take_stage.Era) may

  pub may_load_entry : (r : Ring) (lane : End) (count : ℕ) → MayLoadEntry r lane count (seat_of n me) → MayLoadEntry r lane count me
  may_load_entry ring.Return lane count may = (send_in lane stage.Look may.0, subst (λ (k : Call). accepted_in k ≡ (sizes_at me.0.sizes (lane_in k)).own + count) (send_calls lane stage.Look may.0) may.1)
  may_load_entry ring.Forward lane count may = (work_in lane (work.Take take_stage.Look) may.0, subst (λ (k : Call). of_side 0 (λ x. x.handed) k ≡ count) (work_calls lane (work.Take take_stage.Look) may.0) may.1)

  pub may_load_era : (u : EraUse) → MayLoadEra u (seat_of n me) → MayLoadEra u me
  unfolding work_in
  may_load_era era.Send may = (may.0, send_in may.0 stage.Turn may.1)
  may_load_era era.Take may = (may.0, work_in may.0 (work.Take take_stage.Turn) may.1)
  may_load_era era.Hand may = record { lane = may.lane; at = work_in may.lane (work.Take take_stage.Buffer) may.at; slots = lent_front (count_of n me) me.1 _ _ _ may.slots }
  may_load_era era.Bind (lane, address, inl may) = (lane, address, inl (work_in lane (work.Bind address) may))
  may_load_era era.Bind (lane, address, inr may) = (lane, address, inr (work_in lane (work.Unbind address) may))

  pub may_store_entry : (r : Ring) (lane : End) (count : ℕ) (entry : UsedWord) → MayStoreEntry r lane count entry (seat_of n me) → MayStoreEntry r lane count entry me
  unfolding send_in work_in
  may_store_entry ring.Forward lane count entry may = record {
    at = send_in lane stage.Buffer may.at;
    count = may.count;
    entry = subst (λ (k : Call). entry ≡ record { id = may.at.buffer; len = entry_length (sizes_at me.0.sizes (lane_in k)) (length may.at.message) }) (send_calls lane stage.Buffer may.at) may.entry;
  }
  may_store_entry ring.Return lane count entry may = record {
    given = may.given;
    at = work_in lane (work.Give may.given give_stage.Turn) may.at;
    count = subst (λ (k : Call). return_count (sizes_at me.0.sizes (lane_in k)) may.at.side.returned ≡ count) (work_calls lane (work.Give may.given give_stage.Turn) may.at) may.count;
    entry = may.entry;
  }

  pub may_publish : (r : Ring) (lane : End) (count : ℕ) → MayPublish r lane count (seat_of n me) → MayPublish r lane count me
  unfolding send_in work_in
  may_publish ring.Forward lane count may = record { at = send_in lane stage.Entry may.at; count = may.count; slots = lent_front (count_of n me) me.1 _ _ _ may.slots }
  may_publish ring.Return lane count may = record {
    given = may.given;
    at = work_in lane (work.Give may.given give_stage.Entry) may.at;
    count = subst (λ (k : Call). return_count (sizes_at me.0.sizes (lane_in k)) may.at.side.returned + 1 ≡ count) (work_calls lane (work.Give may.given give_stage.Entry) may.at) may.count;
  }

  pub may_leave : (t : LaneTurn) (lane : End) → EndsAt t (seat_of n me) lane → EndsAt t me lane
  may_leave lane_turn.Sender lane s = let f = focused n me order s.mover s.here in record {
    mover = record { place = place_of_number n me.0.passes; pass = s.mover.pass; here = f.there };
    here = sym f.here;
    caller = s.caller;
    end = s.end;
    side = s.side;
    buffer = s.buffer;
    call = s.call;
    slots = lent_front (count_of n me) me.1 _ _ _ s.slots;
  }
  may_leave lane_turn.Receiver lane s = let f = focused n me order s.mover s.here in record {
    mover = record { place = place_of_number n me.0.passes; pass = s.mover.pass; here = f.there };
    here = sym f.here;
    caller = s.caller;
    end = s.end;
    side = s.side;
    buffer = s.buffer;
    message = s.message;
    call = s.call;
    slots = lent_front (count_of n me) me.1 _ _ _ s.slots;
  }

  -- a change that keeps how many slots are out, one by which a slot is out more, and one by which it is at home
  pub keeps_slots : (f : Focused n me) (change : Pass → Pass) → (change f.pass).number ≡ f.pass.number → slot_count (change f.pass).call ≡ count_of n me → Becomes change (place_of me) me.1 me me'
      → Becomes change (place_of (seat_of n me)) (seat_of n me).1 (seat_of n me) (seat_of n me') × LeavesOthers n me me'
  keeps_slots f change keeps counted told = step_alone n me me' change me.1 (seat_of n me).1 (place_of me) (place_of (seat_of n me)) (count_of n me) f.pass f.there f.here f.first keeps counted refl refl told

  takes_slot : (f : Focused n me) (change : Pass → Pass) (k : ℕ) (y : Slot) → (change f.pass).number ≡ f.pass.number → slot_count (change f.pass).call ≡ suc (count_of n me) → Becomes change (place_of me) ((k, y) ∷ me.1) me me'
      → Becomes change (place_of (seat_of n me)) ((k, y) ∷ (seat_of n me).1) (seat_of n me) (seat_of n me') × LeavesOthers n me me'
  takes_slot f change k y keeps counted told = step_alone n me me' change ((k, y) ∷ me.1) ((k, y) ∷ (seat_of n me).1) (place_of me) (place_of (seat_of n me)) (suc (count_of n me)) f.pass f.there f.here f.first keeps counted refl refl told

  gives_slot : (f : Focused n me) (change : Pass → Pass) (c : ℕ) → (change f.pass).number ≡ f.pass.number → slot_count (change f.pass).call ≡ c → count_of n me ≡ suc c → Becomes change (place_of me) (rest me.1) me me'
      → Becomes change (place_of (seat_of n me)) (rest (seat_of n me).1) (seat_of n me) (seat_of n me') × LeavesOthers n me me'
  gives_slot f change c keeps counted count told = step_alone n me me' change (rest me.1) (rest (seat_of n me).1) (place_of me) (place_of (seat_of n me)) c f.pass f.there f.here f.first keeps counted
      (sym (rest_front c me.1) ∙ ap (λ (i : ℕ). rest (front i me.1)) (sym count)) (rest_behind c me.1 ∙ ap (λ (i : ℕ). behind i me.1) (sym count)) told

  -- a send, or a call with the receiver's turn, goes to another turn
  send_turns : (making : Made) (next : SenderSide → ℕ → Sending → Turn Sending) (lane : End) (q : SendStage) (s : SendAt (seat_of n me) lane q) → send_turn_count (next s.side s.caller (record { follows = s.follows; message = s.message; stage = q })) ≡ send_count q
      → Notes making (with_send next) (place_of me) me.1 me me' → Notes making (with_send next) (place_of (seat_of n me)) (seat_of n me).1 (seat_of n me) (seat_of n me') × LeavesOthers n me me'
  send_turns making next lane q s counted told = let f = focused n me order s.mover s.here in
      keeps_slots f (λ p. noted making (with_send next p)) refl (ap (λ (k : Call). slot_count (send_or k (λ e t x b. Sends e (under_way_or t (next x) t) x b) k)) s.call ∙ (counted ∙ sym (count_is n me f _ s.call))) told

  work_turns : (making : Made) (next : ReceiverSide → ℕ → Receiving → Turn Receiving) (lane : End) (w : Work) (s : WorkAt (seat_of n me) lane w) → work_turn_count (next s.side s.caller (record { follows = s.follows; work = w })) ≡ work_count w
      → Notes making (with_receive next) (place_of me) me.1 me me' → Notes making (with_receive next) (place_of (seat_of n me)) (seat_of n me).1 (seat_of n me) (seat_of n me') × LeavesOthers n me me'
  work_turns making next lane w s counted told = let f = focused n me order s.mover s.here in
      keeps_slots f (λ p. noted making (with_receive next p)) refl (ap (λ (k : Call). slot_count (receive_or k (λ e t x b message. Receives e (under_way_or t (next x) t) x b message) k)) s.call ∙ (counted ∙ sym (count_is n me f _ s.call))) told

  -- the steps of a send
  send_era : (y : ℕ) (lane : End) → SendAt (seat_of n me) lane stage.Turn → SendLoadsEra me y me' → SendLoadsEra (seat_of n me) y (seat_of n me') × LeavesOthers n me me'
  send_era y lane s told =
      let r = send_turns (made.Era told.0) (λ x caller s. after_send_era told.0 caller s) lane stage.Turn s (send_either (is_live_in told.0 s.follows) _ _ refl refl) told.3 in
      ((told.0, told.1, told.2, r.0), r.1)

  send_looks : (y : ℕ) (lane : End) → SendAt (seat_of n me) lane stage.Era → SendLooks me y me' → SendLooks (seat_of n me) y (seat_of n me') × LeavesOthers n me me'
  send_looks y lane s told =
      let f = focused n me order s.mover s.here in let z = me.0.sizes in let returned = told.0 in let calls = calls_same n me f in let owns = owns_same n me f in
      let capacity = (sizes_at z (lane_in (call_at (place_of me) me.0.passes))).capacity in let to : Call → Pass = room_to returned capacity z.book f.pass in
      let r = keeps_slots f (with_room returned capacity z.book) (ap (λ (k : Call). (to k).number) s.call)
      (ap (λ (k : Call). slot_count (to k).call) s.call ∙ (look_count s.side.accepted returned capacity z.book s.caller (record { follows = s.follows; message = s.message; stage = stage.Era }) ∙ sym (count_is n me f _ s.call))) told.4 in
      let read = subst (λ (t : Call × List Event). (y ≡ return_count (sizes_at z (lane_in t.0)) returned % 65536) × AreNear (sizes_at z (lane_in t.0)).capacity (accepted_in t.0) returned
      × NeverBack (lane_in t.0) (follows_in t.0) (Room (accepted_in t.0) returned) t.1) (λ i. (calls i, owns i)) (told.1, told.2, told.3) in (
        (
          returned,
          read.0,
          read.1,
          read.2,
          subst (λ (k : Call). Becomes (with_room returned (sizes_at z (lane_in k)).capacity z.book) (place_of (seat_of n me)) (seat_of n me).1 (seat_of n me) (seat_of n me')) calls r.0,
        ),
        r.1,
      )

  send_buffer : (id : ℕ) (lane : End) → SendAt (seat_of n me) lane stage.Look → SendTakesBuffer id me me' → SendTakesBuffer id (seat_of n me) (seat_of n me') × LeavesOthers n me me'
  send_buffer id lane s told =
      let f = focused n me order s.mover s.here in
      let change : Pass → Pass = λ p. noted (made.Buffer id) (with_call p (send_or p.call (λ e t x b. Sends e (under_way_or t (λ caller s. turn.Taken caller (record s { stage = stage.Buffer })) t) x id) p.call)) in
      let at : Call → ℕ = λ k. buffer_slot me.0.sizes.to_host.capacity (lane_in k) id in
      let r = takes_slot f change (at (call_at (place_of me) me.0.passes)) told.0 refl
      (ap (λ (k : Call). slot_count (send_or k (λ e t x b. Sends e (under_way_or t (λ caller s. turn.Taken caller (record s { stage = stage.Buffer })) t) x id) k)) s.call ∙ ap suc (sym (count_is n me f _ s.call))) told.1 in
      ((told.0, subst (λ (k : Call). Becomes change (place_of (seat_of n me)) ((at k, told.0) ∷ (seat_of n me).1) (seat_of n me) (seat_of n me')) (calls_same n me f) r.0), r.1)

  send_entry : (lane : End) → SendAt (seat_of n me) lane stage.Buffer → SendStoresEntry me me' → SendStoresEntry (seat_of n me) (seat_of n me') × LeavesOthers n me me'
  send_entry lane s told = send_turns made.Entry (λ x caller s. turn.Taken caller (record s { stage = stage.Entry })) lane stage.Buffer s refl told

  send_publishes : (lane : End) → SendAt (seat_of n me) lane stage.Entry → SendPublishes me me' → SendPublishes (seat_of n me) (seat_of n me') × LeavesOthers n me me'
  send_publishes lane s told =
      let f = focused n me order s.mover s.here in let to : Call → Pass = publish_to f.pass in
      let r = gives_slot f with_publish 1 (ap (λ (k : Call). (to k).number) s.call) (ap (λ (k : Call). slot_count (to k).call) s.call) (count_is n me f _ s.call) told.1 in
      ((subst (λ (k : Call). accepted_in k < send_or 0 (λ e t x b. x.room) k) (calls_same n me f) told.0, r.0), r.1)

  -- of a take
  take_era : (y : ℕ) (lane : End) → WorkAt (seat_of n me) lane (work.Take take_stage.Turn) → TakeLoadsEra me y me' → TakeLoadsEra (seat_of n me) y (seat_of n me') × LeavesOthers n me me'
  take_era y lane s told =
      let r = work_turns (made.Era told.0) (λ x caller r. after_take_era told.0 caller r) lane (work.Take take_stage.Turn) s (work_either (is_live_in told.0 s.follows) _ _ refl refl) told.3 in
      ((told.0, told.1, told.2, r.0), r.1)

  take_looks : (y : ℕ) (lane : End) → WorkAt (seat_of n me) lane (work.Take take_stage.Era) → TakeLooks me y me' → TakeLooks (seat_of n me) y (seat_of n me') × LeavesOthers n me me'
  take_looks y lane s told =
      let f = focused n me order s.mover s.here in let z = me.0.sizes in let accepted = told.0 in let calls = calls_same n me f in let owns = owns_same n me f in
      let to : Call → Pass = waiting_to accepted f.pass in
      let r = keeps_slots f (with_waiting accepted) (ap (λ (k : Call). (to k).number) s.call) (ap (λ (k : Call). slot_count (to k).call) s.call ∙ (waiting_count s.side.handed accepted s.caller (record { follows = s.follows; work = work.Take take_stage.Era }) ∙ sym (count_is n me f _ s.call))) told.5 in
      let read = subst (λ (t : Call × List Event). (of_side 0 (λ x. x.handed) t.0 ≤ accepted) × (accepted ≤ of_side 0 (λ x. x.handed) t.0 + (sizes_at z (lane_in t.0)).capacity)
      × NeverBack (lane_in t.0) (follows_in t.0) (Waiting (of_side 0 (λ x. x.handed) t.0) accepted) t.1) (λ i. (calls i, owns i)) (told.2, told.3, told.4) in
      ((accepted, told.1, read.0, read.1, read.2, r.0), r.1)

  take_buffer : (id : ℕ) (lane : End) → WorkAt (seat_of n me) lane (work.Take take_stage.Look) → TakeTakesBuffer id me me' → TakeTakesBuffer id (seat_of n me) (seat_of n me') × LeavesOthers n me me'
  take_buffer id lane s told =
      let f = focused n me order s.mover s.here in let message = told.0 in
      let change : Pass → Pass = λ p. noted (made.Buffer id) (with_call p (receive_or p.call (λ e t x b old. Receives e (under_way_or t (λ caller r. turn.Taken caller (record r { work = work.Take take_stage.Buffer })) t) x id message) p.call)) in
      let at : Call → ℕ = λ k. buffer_slot me.0.sizes.to_host.capacity (lane_in k) id in
      let r = takes_slot f change (at (call_at (place_of me) me.0.passes)) (Buffer message) refl
      (ap (λ (k : Call). slot_count (receive_or k (λ e t x b old. Receives e (under_way_or t (λ caller r. turn.Taken caller (record r { work = work.Take take_stage.Buffer })) t) x id message) k)) s.call ∙ ap suc (sym (count_is n me f _ s.call))) told.1 in
      ((message, subst (λ (k : Call). Becomes change (place_of (seat_of n me)) ((at k, Buffer message) ∷ (seat_of n me).1) (seat_of n me) (seat_of n me')) (calls_same n me f) r.0), r.1)

  take_hands : {D : Type 0} (coded : Coded D) (meaning : DeskMeaning D) (tables : DeskTables) (y : ℕ) (lane : End) → WorkAt (seat_of n me) lane (work.Take take_stage.Buffer) → TakeHands coded meaning tables me y me'
      → TakeHands coded meaning tables (seat_of n me) y (seat_of n me') × LeavesOthers n me me'
  take_hands coded meaning tables y lane s told =
      let f = focused n me order s.mover s.here in let calls = calls_same n me f in let to : Call → Pass = handing_to coded meaning told.0 told.5 f.pass in
      let r = gives_slot f (λ p. noted (made.Era told.0) (with_handing coded meaning told.0 told.5 p)) 1
      (ap (λ (k : Call). (to k).number) s.call ∙ pass_either (λ p. p.number) f.pass.number (is_live_in told.0 s.follows) _ _ refl refl)
      (ap (λ (k : Call). slot_count (to k).call) s.call ∙ pass_either (λ p. slot_count p.call) 1 (is_live_in told.0 s.follows) _ _ refl refl) (count_is n me f _ s.call) told.7 in (
        (
          told.0,
          told.1,
          told.2,
          subst (λ (k : Call). length (of_side [] (λ x. x.hands) k) < CAPACITY_MOST) calls told.3,
          subst (λ (k : Call). of_side 0 (λ x. x.handed) k < of_side 0 (λ x. x.room) k) calls told.4,
          told.5,
          subst (λ (k : Call). IsRightTo coded tables (of_side no_right (λ x. x.desk) k) told.5) calls told.6,
          r.0,
        ),
        r.1,
      )

  -- of a give
  give_entry : (given : ℕ) (lane : End) → WorkAt (seat_of n me) lane (work.Give given give_stage.Turn) → GiveStoresEntry me me' → GiveStoresEntry (seat_of n me) (seat_of n me') × LeavesOthers n me me'
  give_entry given lane s told = work_turns made.Entry (λ x caller r. turn.Taken caller (record r { work = with_entry r.work })) lane (work.Give given give_stage.Turn) s refl told

  give_publishes : (given : ℕ) (lane : End) → WorkAt (seat_of n me) lane (work.Give given give_stage.Entry) → GivePublishes me me' → GivePublishes (seat_of n me) (seat_of n me') × LeavesOthers n me me'
  give_publishes given lane s told =
      let f = focused n me order s.mover s.here in let inc = told.0 in let calls = calls_same n me f in let owns = owns_same n me f in let hands = hands_same n me f in let to : Call → Pass = given_to inc f.pass in
      let r = keeps_slots f (with_given inc) (ap (λ (k : Call). (to k).number) s.call) (ap (λ (k : Call). slot_count (to k).call) s.call ∙ sym (count_is n me f _ s.call)) told.3 in
      let read = subst (λ (t : Call × List Event × List ℕ). ((t.2 ≡ []) ⊎ (latest t.1 ≡ inc)) × NeverBack (lane_in t.0) inc (Gave (of_side 0 (λ x. x.returned) t.0 + 1)) t.1) (λ i. (calls i, owns i, hands i)) (told.1, told.2) in
      ((inc, read.0, read.1, r.0), r.1)

  -- of a binding and an unbinding
  bind_era : {D : Type 0} (coded : Coded D) (meaning : DeskMeaning D) (tables : DeskTables) (w : Work) (y : ℕ) (lane : End) → work_count w ≡ 1 → WorkAt (seat_of n me) lane w → BindLoadsEra coded meaning tables me y me'
      → BindLoadsEra coded meaning tables (seat_of n me) y (seat_of n me') × LeavesOthers n me me'
  bind_era coded meaning tables w y lane one s told =
      let f = focused n me order s.mover s.here in let calls = calls_same n me f in let to : Call → Pass = binding_to coded meaning told.0 told.3 f.pass in
      let r = keeps_slots f (λ p. noted (made.Era told.0) (with_binding coded meaning told.0 told.3 p))
      (ap (λ (k : Call). (to k).number) s.call ∙ pass_either (λ p. p.number) f.pass.number (is_live_in told.0 s.follows) _ _ refl refl)
      (ap (λ (k : Call). slot_count (to k).call) s.call ∙ (pass_either (λ p. slot_count p.call) 1 (is_live_in told.0 s.follows) _ _ refl refl ∙ sym (count_is n me f _ s.call ∙ one))) told.5 in
      ((told.0, told.1, told.2, told.3, subst (λ (k : Call). IsRightTo coded tables (of_side no_right (λ x. x.desk) k) told.3) calls told.4, r.0), r.1)

  -- by what a load or a store is for
  pub index_alone : (u : IndexUse) (y : ℕ) (lane : End) → MayLoadIndex u lane (seat_of n me) → LoadsIndex u me y me' → LoadsIndex u (seat_of n me) y (seat_of n me') × LeavesOthers n me me'
  index_alone index.Room y lane may told = send_looks y lane may told
  index_alone index.OwnBuffer y lane may told = let calls = calls_same n me (focused n me order may.0.mover may.0.here) in let r = send_buffer (accepted_in (call_at (place_of me) me.0.passes)) lane may.0 told in
      (subst (λ (k : Call). SendTakesBuffer (accepted_in k) (seat_of n me) (seat_of n me')) calls r.0, r.1)
  index_alone index.Message y lane may told = take_looks y lane may told

  pub entry_alone : (r : Ring) (y : ℕ) (lane : End) (count : ℕ) → MayLoadEntry r lane count (seat_of n me) → LoadsEntry r me y me' → LoadsEntry r (seat_of n me) y (seat_of n me') × LeavesOthers n me me'
  entry_alone ring.Return y lane count may told = send_buffer (y % 4294967296) lane may.0 told
  entry_alone ring.Forward y lane count may told = take_buffer (y % 4294967296) lane may.0 told

  pub era_alone : {D : Type 0} (coded : Coded D) (meaning : DeskMeaning D) (u : EraUse) (y : ℕ) → MayLoadEra u (seat_of n me) → LoadsEra coded meaning u me y me' → LoadsEra coded meaning u (seat_of n me) y (seat_of n me') × LeavesOthers n me me'
  era_alone coded meaning era.Send y may told = send_era y may.0 may.1 told
  era_alone coded meaning era.Take y may told = take_era y may.0 may.1 told
  era_alone coded meaning era.Hand y may told = take_hands coded meaning me.0.sizes.desks y may.lane may.at told
  era_alone coded meaning era.Bind y (lane, address, inl may) told = bind_era coded meaning me.0.sizes.desks (work.Bind address) y lane refl may told
  era_alone coded meaning era.Bind y (lane, address, inr may) told = bind_era coded meaning me.0.sizes.desks (work.Unbind address) y lane refl may told

  pub stored_alone : (r : Ring) (lane : End) (count : ℕ) (entry : UsedWord) → MayStoreEntry r lane count entry (seat_of n me) → StoresEntry r me me' → StoresEntry r (seat_of n me) (seat_of n me') × LeavesOthers n me me'
  stored_alone ring.Forward lane count entry may told = send_entry lane may.at told
  stored_alone ring.Return lane count entry may told = give_entry may.given lane may.at told

  pub published_alone : (r : Ring) (lane : End) (count : ℕ) → MayPublish r lane count (seat_of n me) → PublishesIndex r me me' → PublishesIndex r (seat_of n me) (seat_of n me') × LeavesOthers n me me'
  published_alone ring.Forward lane count may told = send_publishes lane may.at told
  published_alone ring.Return lane count may told = give_publishes may.given lane may.at told

  pub left_alone : (t : LaneTurn) (lane : End) → EndsAt t (seat_of n me) lane → LeavesTurn t me me' → LeavesTurn t (seat_of n me) (seat_of n me') × LeavesOthers n me me'
  left_alone lane_turn.Sender lane s told = let f = focused n me order s.mover s.here in
      gives_slot f (λ p. noted made.Left (with_call p (send_or p.call (λ e t x b. Rests (other e)) p.call))) 0 refl (ap (λ (k : Call). slot_count (send_or k (λ e t x b. Rests (other e)) k)) s.call) (count_is n me f _ s.call) told
  left_alone lane_turn.Receiver lane s told = let f = focused n me order s.mover s.here in
      gives_slot f (λ p. noted made.Left (with_call p (receive_or p.call (λ e t x b message. Rests e) p.call))) 0 refl (ap (λ (k : Call). slot_count (receive_or k (λ e t x b message. Rests e) k)) s.call) (count_is n me f _ s.call) told

-- a first step, by what was found in the turn
module _ (n : ℕ) (me me' : SeatState) (p : Pass) (e : End) (there : get_elem? me.0.passes (place_of_number n me.0.passes) ≡ some p) (rests : p.call ≡ Rests e) where
  alone : place_of_number n (seat_of n me).0.passes ≡ 0
  alone = place_alone n (place_of_number n me.0.passes) me.0.passes p there (found_number n me.0.passes p there)

  none : count_of n me ≡ 0
  none = ap slot_count (call_there (place_of_number n me.0.passes) me.0.passes p there ∙ rests)

  taken : (y : ℕ) (call : Call) (k : ℕ) (x : Slot) → slot_count call ≡ 1 → Notes (made.Turn y) (λ q. with_call q call) (place_of_number n me.0.passes) ((k, x) ∷ me.1) me me'
      → Notes (made.Turn y) (λ q. with_call q call) (place_of_number n (seat_of n me).0.passes) ((k, x) ∷ (seat_of n me).1) (seat_of n me) (seat_of n me') × LeavesOthers n me me'
  taken y call k x one told = step_alone n me me' (λ q. noted (made.Turn y) (with_call q call)) ((k, x) ∷ me.1) ((k, x) ∷ (seat_of n me).1) (place_of_number n me.0.passes) (place_of_number n (seat_of n me).0.passes) (suc (count_of n me)) p there refl alone refl
      (one ∙ ap suc (sym none)) refl refl told

  missed : (y : ℕ) → Notes (made.Turn y) (λ q. q) (place_of_number n me.0.passes) me.1 me me'
      → Notes (made.Turn y) (λ q. q) (place_of_number n (seat_of n me).0.passes) (seat_of n me).1 (seat_of n me) (seat_of n me') × LeavesOthers n me me'
  missed y told = step_alone n me me' (λ q. noted (made.Turn y) q) me.1 (seat_of n me).1 (place_of_number n me.0.passes) (place_of_number n (seat_of n me).0.passes) (count_of n me) p there refl alone refl
      (ap slot_count (sym (call_there (place_of_number n me.0.passes) me.0.passes p there))) refl refl told

  sender_alone : (lane : End) (follows : ℕ) (message : List ℕ) (y : ℕ) → TakesSender lane n follows message me y me' → TakesSender lane n follows message (seat_of n me) y (seat_of n me') × (y ≡ 0 → LeavesOthers n me me') × (y ≢ 0 → LeavesOthers n me me')
  sender_alone lane follows message y told = (
    (
      (λ hit. let t = told.0 hit in (t.0, t.1, (taken y (Sends lane (turn.Taken n (record { follows = follows; message = message; stage = stage.Turn })) t.0 0) (sender_slot lane) (Sender t.0) refl t.2).0)),
      (λ miss. (missed y (told.1 miss)).0),
    ),
    (λ hit. let t = told.0 hit in (taken y (Sends lane (turn.Taken n (record { follows = follows; message = message; stage = stage.Turn })) t.0 0) (sender_slot lane) (Sender t.0) refl t.2).1),
    (λ miss. (missed y (told.1 miss)).1),
  )

  receiver_alone : (lane : End) (follows : ℕ) (first : Work) (y : ℕ) → work_count first ≡ 1 → TakesReceiver lane n follows first me y me' → TakesReceiver lane n follows first (seat_of n me) y (seat_of n me') × (y ≡ 0 → LeavesOthers n me me') × (y ≢ 0 → LeavesOthers n me me')
  receiver_alone lane follows first y one told = (
    (
      (λ hit. let t = told.0 hit in (t.0, t.1, t.2, (taken y (Receives lane (turn.Taken n (record { follows = follows; work = first })) t.0 0 []) (receiver_slot lane) (Receiver t.0) one t.3).0)),
      (λ miss. (missed y (told.1 miss)).0),
    ),
    (λ hit. let t = told.0 hit in (taken y (Receives lane (turn.Taken n (record { follows = follows; work = first })) t.0 0 []) (receiver_slot lane) (Receiver t.0) one t.3).1),
    (λ miss. (missed y (told.1 miss)).1),
  )

  pub turn_alone : (end : End) (follows : ℕ) (w : Wish) (y : ℕ) → TakesTurn end n follows w me y me' → TakesTurn end n follows w (seat_of n me) y (seat_of n me') × (y ≡ 0 → LeavesOthers n me me') × (y ≢ 0 → LeavesOthers n me me')
  turn_alone end follows (wish.Send message) y told = sender_alone (other end) follows message y told
  turn_alone end follows wish.Take y told = receiver_alone end follows (first_work wish.Take) y refl told
  turn_alone end follows (wish.Give held) y told = receiver_alone end follows (first_work (wish.Give held)) y refl told
  turn_alone end follows (wish.Bind address) y told = receiver_alone end follows (first_work (wish.Bind address)) y refl told
  turn_alone end follows (wish.Unbind address) y told = receiver_alone end follows (first_work (wish.Unbind address)) y refl told

-- with the step of the ring form that it is
module _ {D : Type 0} (coded : Coded D) (meaning : DeskMeaning D) (n : ℕ) (me me' : SeatState) (order : IsOrderly me.0) where
  abbrev Reading : Type 1
  Reading = Links coded meaning me → Links coded meaning me → Type 0

  abbrev IsDone : Type 0 → Reading → Type 0
  IsDone T Reads = T × GoesOn coded meaning (seat_of n me) Reads (seat_of n me') × StepsAlone coded meaning n (Steps n 0 None) me me'

  with_step : {T : Type 0} (Reads : Reading) → Focused n me → T × LeavesOthers n me me' → GoesOn coded meaning me Reads me' → IsDone T Reads
  with_step Reads f t s = (t.0, goes_alone coded meaning n me me' Reads f t.1 s, goes_on coded meaning n me me' Reads f t.1 s)

  index_focus : (u : IndexUse) (lane : End) → MayLoadIndex u lane (seat_of n me) → Focused n me
  index_focus index.Room lane may = focused n me order may.mover may.here
  index_focus index.OwnBuffer lane may = focused n me order may.0.mover may.0.here
  index_focus index.Message lane may = focused n me order may.mover may.here

  entry_focus : (r : Ring) (lane : End) (count : ℕ) → MayLoadEntry r lane count (seat_of n me) → Focused n me
  entry_focus ring.Return lane count may = focused n me order may.0.mover may.0.here
  entry_focus ring.Forward lane count may = focused n me order may.0.mover may.0.here

  era_focus : (u : EraUse) → MayLoadEra u (seat_of n me) → Focused n me
  era_focus era.Send may = focused n me order may.1.mover may.1.here
  era_focus era.Take may = focused n me order may.1.mover may.1.here
  era_focus era.Hand may = focused n me order may.at.mover may.at.here
  era_focus era.Bind (lane, address, inl may) = focused n me order may.mover may.here
  era_focus era.Bind (lane, address, inr may) = focused n me order may.mover may.here

  stored_focus : (r : Ring) (lane : End) (count : ℕ) (entry : UsedWord) → MayStoreEntry r lane count entry (seat_of n me) → Focused n me
  stored_focus ring.Forward lane count entry may = focused n me order may.at.mover may.at.here
  stored_focus ring.Return lane count entry may = focused n me order may.at.mover may.at.here

  published_focus : (r : Ring) (lane : End) (count : ℕ) → MayPublish r lane count (seat_of n me) → Focused n me
  published_focus ring.Forward lane count may = focused n me order may.at.mover may.at.here
  published_focus ring.Return lane count may = focused n me order may.at.mover may.at.here

  left_focus : (t : LaneTurn) (lane : End) → EndsAt t (seat_of n me) lane → Focused n me
  left_focus lane_turn.Sender lane s = focused n me order s.mover s.here
  left_focus lane_turn.Receiver lane s = focused n me order s.mover s.here

  pub index_done : (u : IndexUse) (y : ℕ) (lane : End) (Reads : Reading) → MayLoadIndex u lane (seat_of n me) → LoadsIndex u me y me' → GoesOn coded meaning me Reads me' → IsDone (LoadsIndex u (seat_of n me) y (seat_of n me')) Reads
  index_done u y lane Reads may told s = with_step Reads (index_focus u lane may) (index_alone n me me' order u y lane may told) s

  pub entry_done : (r : Ring) (y : ℕ) (lane : End) (count : ℕ) (Reads : Reading) → MayLoadEntry r lane count (seat_of n me) → LoadsEntry r me y me' → GoesOn coded meaning me Reads me' → IsDone (LoadsEntry r (seat_of n me) y (seat_of n me')) Reads
  entry_done r y lane count Reads may told s = with_step Reads (entry_focus r lane count may) (entry_alone n me me' order r y lane count may told) s

  pub era_done : (u : EraUse) (y : ℕ) (Reads : Reading) → MayLoadEra u (seat_of n me) → LoadsEra coded meaning u me y me' → GoesOn coded meaning me Reads me' → IsDone (LoadsEra coded meaning u (seat_of n me) y (seat_of n me')) Reads
  era_done u y Reads may told s = with_step Reads (era_focus u may) (era_alone n me me' order coded meaning u y may told) s

  pub stored_done : (r : Ring) (lane : End) (count : ℕ) (entry : UsedWord) (Reads : Reading) → MayStoreEntry r lane count entry (seat_of n me) → StoresEntry r me me' → GoesOn coded meaning me Reads me' → IsDone (StoresEntry r (seat_of n me) (seat_of n me')) Reads
  stored_done r lane count entry Reads may told s = with_step Reads (stored_focus r lane count entry may) (stored_alone n me me' order r lane count entry may told) s

  pub published_done : (r : Ring) (lane : End) (count : ℕ) (Reads : Reading) → MayPublish r lane count (seat_of n me) → PublishesIndex r me me' → GoesOn coded meaning me Reads me' → IsDone (PublishesIndex r (seat_of n me) (seat_of n me')) Reads
  published_done r lane count Reads may told s = with_step Reads (published_focus r lane count may) (published_alone n me me' order r lane count may told) s

  pub left_done : (t : LaneTurn) (lane : End) (Reads : Reading) → EndsAt t (seat_of n me) lane → LeavesTurn t me me' → GoesOn coded meaning me Reads me' → IsDone (LeavesTurn t (seat_of n me) (seat_of n me')) Reads
  left_done t lane Reads may told s = with_step Reads (left_focus t lane may) (left_alone n me me' order t lane may told) s
