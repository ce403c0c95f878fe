-- Every step of a call keeps the rings of its lane sound.
use Rattle.std.proofs.Common.{◌≡◌, ℕ, zero, suc, ◌+◌, ◌%◌, ◌<◌, ◌≤◌, Bool, true, false, cond, eqb, IsTrue, List, [], ◌∷◌, ◌++◌, length, map, get_or, set, sym, refl, ap, ◌∙◌, subst, inl, inr, arith, length-set, get_or-set_same, get_or-set_other}
use Rattle.std.proofs.lemmas.Bool.{cases_lt, eqb-false}
use Rattle.std.proofs.lemmas.List.{length_push, map_push}
use native.Mathlib.Nat.{mod-add-mod}
use Rattle.rp_base.specs.declared.kinds.Era.{Era}
use Rattle.lane_model.specs.declared.states.BookEntry.{BookEntry}
use Rattle.lane_model.specs.declared.states.Lane.{Lane}
use Rattle.lane_model.specs.declared.states.LaneState.{LaneState}
use Rattle.lane_model.specs.declared.stages.Sending.{Sending}
use Rattle.lane_model.specs.declared.stages.SendStage.{SendStage}
use Rattle.lane_model.specs.declared.stages.SendStage.TheVariants as stage
use Rattle.lane_model.specs.declared.stages.Receiving.{Receiving}
use Rattle.lane_model.specs.declared.stages.Work.{Work}
use Rattle.lane_model.specs.declared.stages.Work.TheVariants as work
use Rattle.lane_model.specs.declared.stages.TakeStage.{TakeStage}
use Rattle.lane_model.specs.declared.stages.TakeStage.TheVariants as take_stage
use Rattle.lane_model.specs.declared.stages.GiveStage.{GiveStage}
use Rattle.lane_model.specs.declared.stages.GiveStage.TheVariants as give_stage
use Rattle.lane_model.specs.declared.stages.Turn.{Turn}
use Rattle.lane_model.specs.declared.stages.Turn.TheVariants as turn
use Rattle.lane_model.specs.declared.calls.CallEnd.{CallEnd}
use Rattle.lane_model.specs.Lanes.{is_live_in, message_at, holds, without, OfCall}
use Rattle.lane_model.specs.Desks.{DeskMeaning}
use Rattle.lane_model.specs.Conditions.{HasRoomAt, HasRoom, HasMessageAt, IsFitWork, IsFitReceiver, IsFirst}
use Rattle.lane_model.specs.Sends.{after_send_start, with_accepted, after_send_era, after_send_look}
use Rattle.lane_model.specs.Receives.{after_receive_start, with_handed, with_returned, after_take_era, after_take_look}
use Rattle.vring_layout.specs.declared.words.UsedWord.{UsedWord}
use Rattle.ring_core.specs.declared.states.Hand.{Hand}
use Rattle.ring_core.specs.declared.states.RingSizes.{RingSizes}
use Rattle.ring_core.specs.declared.states.Rings.{Rings}
use Rattle.ring_core.specs.declared.states.RingState.{RingState}
use Rattle.ring_core.specs.Rings.{buffer_at, source_buffer, return_count, entry_length, entry_of}
use Rattle.ring_core.specs.RingSteps.{next_index, held_buffer, holding_of, send_leaves, take_leaves, give_leaves, ring_form}
use Rattle.ring_core.specs.SoundRings.{HasOneOwner, AreApart, HasSource, HasTaken, HasGiven, HasWork, IsSoundRings}
use Rattle.ring_core.proofs.Windows.{entries_apart, buffer_at_stored, buffer_at_other}
use Rattle.ring_core.proofs.Hands.{times_numbered-le, apart-push, apart-without, numbered_once, numbered_from_holds, holdings-without, length-without}
use Rattle.ring_core.proofs.Owned.{owned-published, owned-stored, owned-handed, owned-return-stored, owned-returned, source-stored, source-below, source-apart}

-- a state by its parts
abbrev made : {D : Type 0} → Lane → Turn Sending → Turn Receiving → D → Rings → RingState D
made lane sender receiver desk rings = record { lane = record { lane = lane; sender = sender; receiver = receiver; desk = desk }; rings = rings }

-- a fact of a turn that a test chooses
OfCall-if : {C : Type 0} (P : ℕ → C → Type 0) (b : Bool) (t u : Turn C) → (b ≡ true → OfCall t P) → (b ≡ false → OfCall u P) → OfCall (cond b t u) P
OfCall-if P true t u on_true on_false = on_true refl
OfCall-if P false t u on_true on_false = on_false refl

-- a state that a test chooses
sound-if : {D : Type 0} (b : Bool) (a c : LaneState D) (p q : Rings) → (b ≡ true → IsSoundRings (record { lane = a; rings = p })) → (b ≡ false → IsSoundRings (record { lane = c; rings = q }))
    → IsSoundRings (record { lane = cond b a c; rings = cond b p q })
sound-if true a c p q on_true on_false = on_true refl
sound-if false a c p q on_true on_false = on_false refl

sound-if_lane : {D : Type 0} (b : Bool) (a c : LaneState D) (p : Rings) → (b ≡ true → IsSoundRings (record { lane = a; rings = p })) → (b ≡ false → IsSoundRings (record { lane = c; rings = p }))
    → IsSoundRings (record { lane = cond b a c; rings = p })
sound-if_lane true a c p on_true on_false = on_true refl
sound-if_lane false a c p on_true on_false = on_false refl

-- the room of a send, when no message is accepted and no buffer is lost
room-kept_at : (before after : Lane) → length before.accepted ≡ length after.accepted → before.returned ≤ after.returned → before.capacity ≡ after.capacity → before.book ≡ after.book
    → (step : SendStage) → HasRoomAt step before → HasRoomAt step after
room-kept_at before after accepted returned capacity book step room = λ sought. let found = room sought in (omega arith, omega arith)

room-kept : (before after : Lane) → length before.accepted ≡ length after.accepted → before.returned ≤ after.returned → before.capacity ≡ after.capacity → before.book ≡ after.book
    → (t : Turn Sending) → HasRoom t before → HasRoom t after
room-kept before after accepted returned capacity book turn.Free room = tt
room-kept before after accepted returned capacity book (turn.Taken caller send) room = room-kept_at before after accepted returned capacity book send.stage room
room-kept before after accepted returned capacity book (turn.Leaving caller end) room = tt
room-kept before after accepted returned capacity book turn.Manager room = tt

-- what a call that has the receiver's turn has found, when one message more is accepted
message-kept : (before after : Lane) → before.takers ≡ after.takers → length before.accepted ≤ length after.accepted → (step : TakeStage) → HasMessageAt step before → HasMessageAt step after
message-kept before after takers accepted step fit = λ sought. let same = ap length takers in let found = fit sought in omega arith

fit-kept_at : (before after : Lane) → before.takers ≡ after.takers → length before.accepted ≤ length after.accepted → before.held ≡ after.held
    → (caller : ℕ) (w : Work) → IsFitWork w before caller → IsFitWork w after caller
fit-kept_at before after takers accepted held caller (work.Take step) fit = message-kept before after takers accepted step fit
fit-kept_at before after takers accepted held caller (work.Give number step) fit = subst (λ xs. IsTrue (holds xs number caller)) held fit
fit-kept_at before after takers accepted held caller (work.Bind address) fit = tt
fit-kept_at before after takers accepted held caller (work.Unbind address) fit = tt

fit-kept : (before after : Lane) → before.takers ≡ after.takers → length before.accepted ≤ length after.accepted → before.held ≡ after.held
    → (t : Turn Receiving) → IsFitReceiver t before → IsFitReceiver t after
fit-kept before after takers accepted held turn.Free fit = tt
fit-kept before after takers accepted held (turn.Taken caller call) fit = fit-kept_at before after takers accepted held caller call.work fit
fit-kept before after takers accepted held (turn.Leaving caller end) fit = tt
fit-kept before after takers accepted held turn.Manager fit = tt

-- what a take has read, when an entry that is not its own is stored
taken-kept : (entries : ℕ) (before after : List UsedWord) (taking handed : ℕ) (lane : Lane) → (length lane.takers < length lane.accepted → buffer_at entries after handed ≡ buffer_at entries before handed)
    → (step : TakeStage) → HasMessageAt step lane → HasTaken entries before taking handed step → HasTaken entries after taking handed step
taken-kept entries before after taking handed lane same take_stage.Turn fit taken = tt
taken-kept entries before after taking handed lane same take_stage.Era fit taken = tt
taken-kept entries before after taking handed lane same take_stage.Look fit taken = tt
taken-kept entries before after taking handed lane same take_stage.Buffer fit taken = taken ∙ sym (same (fit refl))

work-kept_at : (sizes : RingSizes) (before after returns : List UsedWord) (hands : List Hand) (taking handed returned : ℕ) (lane : Lane)
    → (length lane.takers < length lane.accepted → buffer_at sizes.entries after handed ≡ buffer_at sizes.entries before handed)
    → (caller : ℕ) (w : Work) → IsFitWork w lane caller → HasWork sizes before returns hands taking handed returned w → HasWork sizes after returns hands taking handed returned w
work-kept_at sizes before after returns hands taking handed returned lane same caller (work.Take step) fit has = taken-kept sizes.entries before after taking handed lane same step fit has
work-kept_at sizes before after returns hands taking handed returned lane same caller (work.Give number step) fit has = has
work-kept_at sizes before after returns hands taking handed returned lane same caller (work.Bind address) fit has = tt
work-kept_at sizes before after returns hands taking handed returned lane same caller (work.Unbind address) fit has = tt

work-kept : (sizes : RingSizes) (before after returns : List UsedWord) (hands : List Hand) (taking handed returned : ℕ) (lane : Lane)
    → (length lane.takers < length lane.accepted → buffer_at sizes.entries after handed ≡ buffer_at sizes.entries before handed)
    → (t : Turn Receiving) → IsFitReceiver t lane → OfCall t (λ caller call. HasWork sizes before returns hands taking handed returned call.work)
    → OfCall t (λ caller call. HasWork sizes after returns hands taking handed returned call.work)
work-kept sizes before after returns hands taking handed returned lane same turn.Free fit has = tt
work-kept sizes before after returns hands taking handed returned lane same (turn.Taken caller call) fit has =
    work-kept_at sizes before after returns hands taking handed returned lane same caller call.work fit has
work-kept sizes before after returns hands taking handed returned lane same (turn.Leaving caller end) fit has = tt
work-kept sizes before after returns hands taking handed returned lane same turn.Manager fit has = tt

-- what a send has read, when a return entry that is not its own is stored
source-kept_at : (sizes : RingSizes) (forward before after : List UsedWord) (buffers : List (List ℕ)) (sending : ℕ) (lane : Lane) (message : List ℕ)
    → (length lane.accepted < lane.returned + lane.capacity → source_buffer sizes.entries sizes.own after (length lane.accepted) ≡ source_buffer sizes.entries sizes.own before (length lane.accepted))
    → (step : SendStage) → HasRoomAt step lane → HasSource sizes forward before buffers sending (length lane.accepted) message step
    → HasSource sizes forward after buffers sending (length lane.accepted) message step
source-kept_at sizes forward before after buffers sending lane message same stage.Turn room has = tt
source-kept_at sizes forward before after buffers sending lane message same stage.Era room has = tt
source-kept_at sizes forward before after buffers sending lane message same stage.Look room has = tt
source-kept_at sizes forward before after buffers sending lane message same stage.Buffer room has = has ∙ sym (same (room refl).0)
source-kept_at sizes forward before after buffers sending lane message same stage.Entry room has = (has.0 ∙ sym (same (room refl).0), has.1, has.2)

source-kept : (sizes : RingSizes) (forward before after : List UsedWord) (buffers : List (List ℕ)) (sending : ℕ) (lane : Lane)
    → (length lane.accepted < lane.returned + lane.capacity → source_buffer sizes.entries sizes.own after (length lane.accepted) ≡ source_buffer sizes.entries sizes.own before (length lane.accepted))
    → (t : Turn Sending) → HasRoom t lane → OfCall t (λ caller send. HasSource sizes forward before buffers sending (length lane.accepted) send.message send.stage)
    → OfCall t (λ caller send. HasSource sizes forward after buffers sending (length lane.accepted) send.message send.stage)
source-kept sizes forward before after buffers sending lane same turn.Free room has = tt
source-kept sizes forward before after buffers sending lane same (turn.Taken caller send) room has =
    source-kept_at sizes forward before after buffers sending lane send.message same send.stage room has
source-kept sizes forward before after buffers sending lane same (turn.Leaving caller end) room has = tt
source-kept sizes forward before after buffers sending lane same turn.Manager room has = tt

-- a message of the book, when one more is accepted
message_at-earlier : (book : List BookEntry) (entry : BookEntry) (number : ℕ) → number < length book → message_at (book ++ entry ∷ []) number ≡ message_at book number
message_at-earlier [] entry number below = absurd (omega arith)
message_at-earlier (x ∷ xs) entry zero below = refl
message_at-earlier (x ∷ xs) entry (suc number) below = message_at-earlier xs entry number (omega arith)

message_at-last : (book : List BookEntry) (entry : BookEntry) → message_at (book ++ entry ∷ []) (length book) ≡ entry.message
message_at-last [] entry = refl
message_at-last (x ∷ xs) entry = message_at-last xs entry

-- the index of a ring after one entry more
next_index-of : (index count next : ℕ) → index ≡ count % 65536 → count + 1 ≡ next → next_index index ≡ next % 65536
next_index-of index count next at more = ap (λ i. (i + 1) % 65536) at ∙ mod-add-mod count 65536 1 ∙ ap (λ c. c % 65536) more

module _ {D : Type 0} (lane : Lane) (receiver : Turn Receiving) (desk : D) (rings : Rings) where
  -- a send that goes on, or whose end is settled, without a word of the rings
  send-turned : (before after : Turn Sending) → IsSoundRings (made lane before receiver desk rings) → HasRoom after lane
      → OfCall after (λ caller send. HasSource rings.sizes rings.forward rings.returns rings.buffers rings.sending (length lane.accepted) send.message send.stage)
      → IsSoundRings (made lane after receiver desk rings)
  send-turned before after sound room source = record {
    sized = sound.sized;
    counted = sound.counted;
    forward_index = sound.forward_index;
    return_index = sound.return_index;
    owned = sound.owned;
    apart = sound.apart;
    holdings = sound.holdings;
    filled = sound.filled;
    room = room;
    fit = sound.fit;
    source = source;
    work = sound.work;
  }

  -- step 2
  send-era : (era : Era) (caller : ℕ) (send : Sending) → IsSoundRings (made lane (turn.Taken caller send) receiver desk rings)
      → IsSoundRings (made lane (after_send_era era caller send) receiver desk rings)
  send-era era caller send sound = send-turned (turn.Taken caller send) (after_send_era era caller send) sound
      (OfCall-if (λ c s. HasRoomAt s.stage lane) (is_live_in era send.follows) _ _ (λ _ sought. absurd (cc)) (λ _. tt))
      (OfCall-if _ (is_live_in era send.follows) _ _ (λ _. tt) (λ _. tt))

  -- step 3
  send-look : (caller : ℕ) (send : Sending) → IsSoundRings (made lane (turn.Taken caller send) receiver desk rings)
      → IsSoundRings (made lane (after_send_look lane caller send) receiver desk rings)
  send-look caller send sound = send-turned (turn.Taken caller send) (after_send_look lane caller send) sound
      (OfCall-if (λ c s. HasRoomAt s.stage lane) (eqb (length lane.accepted) (lane.returned + lane.capacity)) _ _ (λ _. tt)
      (λ some. OfCall-if (λ c s. HasRoomAt s.stage lane) (eqb (length lane.accepted) lane.book) _ _ (λ _. tt)
      (λ more.
      let counted = sound.counted in
      let sized = sound.sized in
      let not_out = eqb-false (length lane.accepted) (lane.returned + lane.capacity) some in
      let not_full = eqb-false (length lane.accepted) lane.book more in
      λ sought. (omega arith, omega arith))))
      (OfCall-if _ (eqb (length lane.accepted) (lane.returned + lane.capacity)) _ _ (λ _. tt)
      (λ some. OfCall-if _ (eqb (length lane.accepted) lane.book) _ _ (λ _. tt) (λ more. tt)))

  -- step 4: the buffer of the next send is read, and nothing is written
  send-buffer : (caller follows : ℕ) (message : List ℕ)
      → IsSoundRings (made lane (turn.Taken caller (record { follows = follows; message = message; stage = stage.Look })) receiver desk rings)
      → IsSoundRings (made lane (turn.Taken caller (record { follows = follows; message = message; stage = stage.Buffer })) receiver desk
      (send_leaves rings (length lane.accepted) message stage.Look))
  send-buffer caller follows message sound = record {
    sized = sound.sized;
    counted = sound.counted;
    forward_index = sound.forward_index;
    return_index = sound.return_index;
    owned = sound.owned;
    apart = sound.apart;
    holdings = sound.holdings;
    filled = sound.filled;
    room = sound.room;
    fit = sound.fit;
    source = refl;
    work = sound.work;
  }

  -- step 5: the message stands in a buffer that no message of the ring has, and its entry behind theirs
  send-entry : (caller follows : ℕ) (message : List ℕ)
      → IsSoundRings (made lane (turn.Taken caller (record { follows = follows; message = message; stage = stage.Buffer })) receiver desk rings)
      → IsSoundRings (made lane (turn.Taken caller (record { follows = follows; message = message; stage = stage.Entry })) receiver desk
      (send_leaves rings (length lane.accepted) message stage.Buffer))
  send-entry caller follows message sound =
      let sizes = rings.sizes in
      let sized = sound.sized in
      let counted = sound.counted in
      let room = sound.room refl in
      let accepted = length lane.accepted in
      let handed = length lane.takers in
      let entry : UsedWord = record { id = rings.sending; len = entry_length sizes (length message) } in
      let forward = set rings.forward (accepted % sizes.entries) entry in
      let some : accepted < lane.returned + sizes.capacity = omega arith in
      let other : (number : ℕ) → handed ≤ number → number < accepted → buffer_at sizes.entries forward number ≡ buffer_at sizes.entries rings.forward number =
      λ number low high. buffer_at_other sizes.entries rings.forward number accepted entry (entries_apart sizes.entries number accepted high (omega arith)) in
      let below = source-below sizes accepted handed lane.returned rings.forward rings.returns rings.hands rings.aside sound.owned some in
      let fits : rings.sending < length rings.buffers = omega (arith, sound.source) in
      record {
        sized = record {
          size = sized.size;
          count = sized.count;
          some = sized.some;
          most = sized.most;
          fits = sized.fits;
          ring = sized.ring;
          own = sized.own;
          returns_long = sized.returns_long;
          lane = sized.lane;
          forward_long = length-set _ _ _ ∙ sized.forward_long;
          buffers_long = length-set _ _ _ ∙ sized.buffers_long;
        };
        counted = counted;
        forward_index = sound.forward_index;
        return_index = sound.return_index;
        owned = owned-stored sizes accepted handed lane.returned rings.forward rings.returns rings.hands rings.aside entry sound.owned counted.behind (omega arith);
        apart = sound.apart;
        holdings = sound.holdings;
        filled = record {
          message = λ number low high.
              let elsewhere = source-apart sizes accepted handed lane.returned rings.forward rings.returns rings.hands rings.aside sound.owned some number low high in
              ap (λ b. get_or (set rings.buffers rings.sending message) b []) (other number low high)
              ∙ get_or-set_other rings.buffers rings.sending (buffer_at sizes.entries rings.forward number) message [] (λ same. elsewhere (same ∙ sound.source))
              ∙ sound.filled.message number low high;
        };
        room = sound.room;
        fit = sound.fit;
        source = (sound.source, buffer_at_stored sizes.entries rings.forward accepted entry (omega arith) sized.forward_long, get_or-set_same rings.buffers rings.sending message [] fits);
        work = work-kept sizes rings.forward forward rings.returns rings.hands rings.taking handed lane.returned lane (λ more. other handed (omega arith) more) receiver sound.fit sound.work;
      }

  -- step 6: the buffer is behind the messages in the ring
  send-published : (caller follows : ℕ) (message : List ℕ) (end : CallEnd)
      → IsSoundRings (made lane (turn.Taken caller (record { follows = follows; message = message; stage = stage.Entry })) receiver desk rings)
      → IsSoundRings (made (with_accepted lane caller message) (turn.Leaving caller end) receiver desk (send_leaves rings (length lane.accepted) message stage.Entry))
  send-published caller follows message end sound =
      let sizes = rings.sizes in
      let sized = sound.sized in
      let counted = sound.counted in
      let room = sound.room refl in
      let accepted = length lane.accepted in
      let handed = length lane.takers in
      let entry : BookEntry = record { caller = caller; message = message } in
      let more : length (lane.accepted ++ entry ∷ []) ≡ accepted + 1 = length_push lane.accepted entry in
      let stored = sound.source.1 ∙ sound.source.0 in
      record {
        sized = sized;
        counted = record { back = counted.back; behind = omega arith; out = omega arith; within = omega arith; most = counted.most };
        forward_index = next_index-of rings.forward_index accepted (length (lane.accepted ++ entry ∷ [])) sound.forward_index (sym more);
        return_index = sound.return_index;
        owned = subst (λ n. HasOneOwner sizes n handed lane.returned rings.forward rings.returns rings.hands rings.aside) (sym more)
            (owned-published sizes accepted handed lane.returned rings.forward rings.returns rings.hands rings.aside sound.owned counted.behind (omega arith) stored);
        apart = sound.apart;
        holdings = sound.holdings;
        filled = record {
          message = λ number low high. elim (cases_lt number accepted) [
            | inl earlier ↦ sound.filled.message number low earlier ∙ sym (message_at-earlier lane.accepted entry number earlier)
            | inr later ↦
                let here : number ≡ accepted = omega arith in
                ap (λ n. get_or rings.buffers (buffer_at sizes.entries rings.forward n) []) here ∙ ap (λ b. get_or rings.buffers b []) sound.source.1 ∙ sound.source.2
                ∙ sym (ap (message_at (lane.accepted ++ entry ∷ [])) here ∙ message_at-last lane.accepted entry)
          ];
        };
        room = tt;
        fit = fit-kept lane (with_accepted lane caller message) refl (omega arith) refl receiver sound.fit;
        source = tt;
        work = sound.work;
      }

-- a step of a send, by the step that it has done last
send_sound : {D : Type 0} (meaning : DeskMeaning D) (lane : Lane) (receiver : Turn Receiving) (desk : D) (rings : Rings) (era : Era) (caller follows : ℕ) (message : List ℕ) (last : SendStage)
    → IsSoundRings (made lane (turn.Taken caller (record { follows = follows; message = message; stage = last })) receiver desk rings)
    → IsSoundRings ((ring_form meaning).sent_on (made lane (turn.Taken caller (record { follows = follows; message = message; stage = last })) receiver desk rings) era)
send_sound meaning lane receiver desk rings era caller follows message stage.Turn sound = send-era lane receiver desk rings era caller _ sound
send_sound meaning lane receiver desk rings era caller follows message stage.Era sound = send-look lane receiver desk rings caller _ sound
send_sound meaning lane receiver desk rings era caller follows message stage.Look sound = send-buffer lane receiver desk rings caller follows message sound
send_sound meaning lane receiver desk rings era caller follows message stage.Buffer sound = send-entry lane receiver desk rings caller follows message sound
send_sound meaning lane receiver desk rings era caller follows message stage.Entry sound = send-published lane receiver desk rings caller follows message _ sound

sender_sound : {D : Type 0} (meaning : DeskMeaning D) (lane : Lane) (sender : Turn Sending) (receiver : Turn Receiving) (desk : D) (rings : Rings) (era : Era)
    → IsSoundRings (made lane sender receiver desk rings) → IsSoundRings ((ring_form meaning).sent_on (made lane sender receiver desk rings) era)
sender_sound meaning lane turn.Free receiver desk rings era sound = sound
sender_sound meaning lane (turn.Taken caller send) receiver desk rings era sound =
    send_sound meaning lane receiver desk rings era caller send.follows send.message send.stage sound
sender_sound meaning lane (turn.Leaving caller end) receiver desk rings era sound = send-turned lane receiver desk rings (turn.Leaving caller end) turn.Free sound tt tt
sender_sound meaning lane turn.Manager receiver desk rings era sound = sound

-- a later step of the call that has the sender's turn
pub sent_on_sound : {D : Type 0} (meaning : DeskMeaning D) (s : RingState D) (era : Era) → IsSoundRings s → IsSoundRings ((ring_form meaning).sent_on s era)
sent_on_sound meaning s era sound = sender_sound meaning s.lane.lane s.lane.sender s.lane.receiver s.lane.desk s.rings era sound

module _ {D : Type 0} (lane : Lane) (sender : Turn Sending) (rings : Rings) where
  -- a call that goes on, or whose end is settled, without a word of the rings
  receive-turned : (desk new : D) (before after : Turn Receiving) → IsSoundRings (made lane sender before desk rings) → IsFitReceiver after lane
      → OfCall after (λ caller call. HasWork rings.sizes rings.forward rings.returns rings.hands rings.taking (length lane.takers) lane.returned call.work)
      → IsSoundRings (made lane sender after new rings)
  receive-turned desk new before after sound fit work = record {
    sized = sound.sized;
    counted = sound.counted;
    forward_index = sound.forward_index;
    return_index = sound.return_index;
    owned = sound.owned;
    apart = sound.apart;
    holdings = sound.holdings;
    filled = sound.filled;
    room = sound.room;
    fit = fit;
    source = sound.source;
    work = work;
  }

  -- the end of a call is settled
  receive-settled : (desk new : D) (before : Turn Receiving) (caller : ℕ) (end : CallEnd) → IsSoundRings (made lane sender before desk rings)
      → IsSoundRings (made lane sender (turn.Leaving caller end) new rings)
  receive-settled desk new before caller end sound = receive-turned desk new before (turn.Leaving caller end) sound tt tt

  -- step 2 of a take
  take-era : (desk : D) (era : Era) (caller : ℕ) (call : Receiving) → IsSoundRings (made lane sender (turn.Taken caller call) desk rings)
      → IsSoundRings (made lane sender (after_take_era era caller call) desk rings)
  take-era desk era caller call sound = receive-turned desk desk (turn.Taken caller call) (after_take_era era caller call) sound
      (OfCall-if (λ c r. IsFitWork r.work lane c) (is_live_in era call.follows) _ _ (λ _ sought. absurd (cc)) (λ _. tt))
      (OfCall-if _ (is_live_in era call.follows) _ _ (λ _. tt) (λ _. tt))

  -- step 3 of a take
  take-look : (desk : D) (caller : ℕ) (call : Receiving) → IsSoundRings (made lane sender (turn.Taken caller call) desk rings)
      → IsSoundRings (made lane sender (after_take_look lane caller call) desk rings)
  take-look desk caller call sound = receive-turned desk desk (turn.Taken caller call) (after_take_look lane caller call) sound
      (OfCall-if (λ c r. IsFitWork r.work lane c) (eqb (length lane.takers) (length lane.accepted)) _ _ (λ _. tt)
      (λ more. let counted = sound.counted in let some = eqb-false (length lane.takers) (length lane.accepted) more in λ sought. omega arith))
      (OfCall-if _ (eqb (length lane.takers) (length lane.accepted)) _ _ (λ _. tt) (λ _. tt))

  -- step 4 of a take: the entry of the next message is read, and nothing is written
  take-buffer : (desk : D) (caller follows : ℕ)
      → IsSoundRings (made lane sender (turn.Taken caller (record { follows = follows; work = work.Take take_stage.Look })) desk rings)
      → IsSoundRings (made lane sender (turn.Taken caller (record { follows = follows; work = work.Take take_stage.Buffer })) desk
      (take_leaves rings (length lane.takers) false caller take_stage.Look))
  take-buffer desk caller follows sound = record {
    sized = sound.sized;
    counted = sound.counted;
    forward_index = sound.forward_index;
    return_index = sound.return_index;
    owned = sound.owned;
    apart = sound.apart;
    holdings = sound.holdings;
    filled = sound.filled;
    room = sound.room;
    fit = sound.fit;
    source = sound.source;
    work = refl;
  }

  -- step 5 of a take in its incarnation, live: the buffer is the caller's
  take-handed : (desk new : D) (caller follows : ℕ) (end : CallEnd)
      → IsSoundRings (made lane sender (turn.Taken caller (record { follows = follows; work = work.Take take_stage.Buffer })) desk rings)
      → IsSoundRings (made (with_handed lane caller) sender (turn.Leaving caller end) new (take_leaves rings (length lane.takers) true caller take_stage.Buffer))
  take-handed desk new caller follows end sound =
      let sizes = rings.sizes in
      let sized = sound.sized in
      let counted = sound.counted in
      let fit = sound.fit refl in
      let accepted = length lane.accepted in
      let handed = length lane.takers in
      let hand : Hand = record { number = handed; caller = caller; buffer = rings.taking } in
      let more : length (lane.takers ++ caller ∷ []) ≡ handed + 1 = length_push lane.takers caller in
      let longer : length (rings.hands ++ hand ∷ []) ≡ length rings.hands + 1 = length_push rings.hands hand in
      record {
        sized = sized;
        counted = record { back = omega arith; behind = omega arith; out = counted.out; within = counted.within; most = counted.most };
        forward_index = sound.forward_index;
        return_index = sound.return_index;
        owned = subst (λ n. HasOneOwner sizes accepted n lane.returned rings.forward rings.returns (rings.hands ++ hand ∷ []) rings.aside) (sym more)
            (owned-handed sizes accepted handed lane.returned rings.forward rings.returns rings.hands rings.aside hand sound.owned fit sound.work);
        apart = subst (λ n. AreApart n (rings.hands ++ hand ∷ [])) (sym more) (apart-push rings.hands hand handed sound.apart refl);
        holdings = map_push holding_of rings.hands hand ∙ ap (λ xs. xs ++ holding_of hand ∷ []) sound.holdings;
        filled = record { message = λ number low high. sound.filled.message number (omega arith) high };
        room = room-kept lane (with_handed lane caller) refl (omega arith) refl refl sender sound.room;
        fit = tt;
        source = sound.source;
        work = tt;
      }

  -- step 2 of a give: the entry of the buffer stands behind those of the coming sends
  give-entry : (desk : D) (caller follows number : ℕ)
      → IsSoundRings (made lane sender (turn.Taken caller (record { follows = follows; work = work.Give number give_stage.Turn })) desk rings)
      → IsSoundRings (made lane sender (turn.Taken caller (record { follows = follows; work = work.Give number give_stage.Entry })) desk
      (give_leaves rings lane.returned number give_stage.Turn))
  give-entry desk caller follows number sound =
      let sizes = rings.sizes in
      let sized = sound.sized in
      let counted = sound.counted in
      let accepted = length lane.accepted in
      let handed = length lane.takers in
      let entry = entry_of (held_buffer rings.hands number) in
      let some = numbered_from_holds rings.hands number caller (subst (λ xs. holds xs number caller ≡ true) (sym sound.holdings) sound.fit) in
      let most = times_numbered-le rings.hands number in
      let room : sizes.capacity + lane.returned < accepted + sizes.entries = omega arith in
      record {
        sized = record {
          size = sized.size;
          count = sized.count;
          some = sized.some;
          most = sized.most;
          fits = sized.fits;
          ring = sized.ring;
          own = sized.own;
          forward_long = sized.forward_long;
          returns_long = length-set _ _ _ ∙ sized.returns_long;
          buffers_long = sized.buffers_long;
          lane = sized.lane;
        };
        counted = counted;
        forward_index = sound.forward_index;
        return_index = sound.return_index;
        owned = owned-return-stored sizes accepted handed lane.returned rings.forward rings.returns rings.hands rings.aside entry sound.owned sized.own counted.out room;
        apart = sound.apart;
        holdings = sound.holdings;
        filled = sound.filled;
        room = sound.room;
        fit = sound.fit;
        source = source-kept sizes rings.forward rings.returns (set rings.returns (return_count sizes lane.returned % sizes.entries) entry) rings.buffers rings.sending lane
            (λ more. source-stored sizes accepted lane.returned rings.returns entry sized.own room accepted (omega arith) (omega arith)) sender sound.room sound.source;
        work = buffer_at_stored sizes.entries rings.returns (return_count sizes lane.returned) entry (omega arith) sized.returns_long;
      }

  -- step 3 of a give: the buffer is behind those of the coming sends
  give-returned : (desk : D) (caller follows number : ℕ) (end : CallEnd)
      → IsSoundRings (made lane sender (turn.Taken caller (record { follows = follows; work = work.Give number give_stage.Entry })) desk rings)
      → IsSoundRings (made (with_returned lane number caller) sender (turn.Leaving caller end) desk (give_leaves rings lane.returned number give_stage.Entry))
  give-returned desk caller follows number end sound =
      let sizes = rings.sizes in
      let sized = sound.sized in
      let counted = sound.counted in
      let accepted = length lane.accepted in
      let handed = length lane.takers in
      let has : holds (map holding_of rings.hands) number caller ≡ true = subst (λ xs. holds xs number caller ≡ true) (sym sound.holdings) sound.fit in
      let some = numbered_from_holds rings.hands number caller has in
      let one = numbered_once rings.hands handed number sound.apart some in
      let fewer = length-without rings.hands number one in
      record {
        sized = sized;
        counted = record { back = omega arith; behind = counted.behind; out = omega arith; within = counted.within; most = counted.most };
        forward_index = sound.forward_index;
        return_index = next_index-of rings.return_index (return_count sizes lane.returned) (return_count sizes (lane.returned + 1)) sound.return_index (omega arith);
        owned = owned-returned sizes accepted handed lane.returned rings.forward rings.returns rings.hands rings.aside number sound.owned sized.own counted.out one sound.work;
        apart = apart-without rings.hands handed number sound.apart;
        holdings = holdings-without rings.hands number caller one has ∙ ap (λ xs. without xs number caller) sound.holdings;
        filled = sound.filled;
        room = room-kept lane (with_returned lane number caller) refl (omega arith) refl refl sender sound.room;
        fit = tt;
        source = sound.source;
        work = tt;
      }

-- a step of a take, by the step that it has done last
take_sound : {D : Type 0} (meaning : DeskMeaning D) (lane : Lane) (sender : Turn Sending) (desk : D) (rings : Rings) (era : Era) (caller follows : ℕ) (last : TakeStage)
    → IsSoundRings (made lane sender (turn.Taken caller (record { follows = follows; work = work.Take last })) desk rings)
    → IsSoundRings ((ring_form meaning).received_on (made lane sender (turn.Taken caller (record { follows = follows; work = work.Take last })) desk rings) era)
take_sound meaning lane sender desk rings era caller follows take_stage.Turn sound = take-era lane sender rings desk era caller _ sound
take_sound meaning lane sender desk rings era caller follows take_stage.Era sound = take-look lane sender rings desk caller _ sound
take_sound meaning lane sender desk rings era caller follows take_stage.Look sound = take-buffer lane sender rings desk caller follows sound
take_sound meaning lane sender desk rings era caller follows take_stage.Buffer sound =
    sound-if (is_live_in era follows) _ _ _ rings
    (λ _. take-handed lane sender rings desk _ caller follows _ sound) (λ _. receive-settled lane sender rings desk desk _ caller _ sound)

give_sound : {D : Type 0} (meaning : DeskMeaning D) (lane : Lane) (sender : Turn Sending) (desk : D) (rings : Rings) (era : Era) (caller follows number : ℕ) (last : GiveStage)
    → IsSoundRings (made lane sender (turn.Taken caller (record { follows = follows; work = work.Give number last })) desk rings)
    → IsSoundRings ((ring_form meaning).received_on (made lane sender (turn.Taken caller (record { follows = follows; work = work.Give number last })) desk rings) era)
give_sound meaning lane sender desk rings era caller follows number give_stage.Turn sound = give-entry lane sender rings desk caller follows number sound
give_sound meaning lane sender desk rings era caller follows number give_stage.Entry sound = give-returned lane sender rings desk caller follows number _ sound

-- a step of a call that has the receiver's turn, by its kind
receive_sound : {D : Type 0} (meaning : DeskMeaning D) (lane : Lane) (sender : Turn Sending) (desk : D) (rings : Rings) (era : Era) (caller follows : ℕ) (w : Work)
    → IsSoundRings (made lane sender (turn.Taken caller (record { follows = follows; work = w })) desk rings)
    → IsSoundRings ((ring_form meaning).received_on (made lane sender (turn.Taken caller (record { follows = follows; work = w })) desk rings) era)
receive_sound meaning lane sender desk rings era caller follows (work.Take last) sound = take_sound meaning lane sender desk rings era caller follows last sound
receive_sound meaning lane sender desk rings era caller follows (work.Give number last) sound = give_sound meaning lane sender desk rings era caller follows number last sound
receive_sound meaning lane sender desk rings era caller follows (work.Bind address) sound =
    sound-if_lane (is_live_in era follows) _ _ rings (λ _. receive-settled lane sender rings desk _ _ caller _ sound) (λ _. receive-settled lane sender rings desk desk _ caller _ sound)
receive_sound meaning lane sender desk rings era caller follows (work.Unbind address) sound =
    sound-if_lane (is_live_in era follows) _ _ rings (λ _. receive-settled lane sender rings desk _ _ caller _ sound) (λ _. receive-settled lane sender rings desk desk _ caller _ sound)

receiver_sound : {D : Type 0} (meaning : DeskMeaning D) (lane : Lane) (sender : Turn Sending) (receiver : Turn Receiving) (desk : D) (rings : Rings) (era : Era)
    → IsSoundRings (made lane sender receiver desk rings) → IsSoundRings ((ring_form meaning).received_on (made lane sender receiver desk rings) era)
receiver_sound meaning lane sender turn.Free desk rings era sound = sound
receiver_sound meaning lane sender (turn.Taken caller call) desk rings era sound =
    receive_sound meaning lane sender desk rings era caller call.follows call.work sound
receiver_sound meaning lane sender (turn.Leaving caller end) desk rings era sound = receive-turned lane sender rings desk desk (turn.Leaving caller end) turn.Free sound tt tt
receiver_sound meaning lane sender turn.Manager desk rings era sound = sound

-- a later step of the call that has the receiver's turn
pub received_on_sound : {D : Type 0} (meaning : DeskMeaning D) (s : RingState D) (era : Era) → IsSoundRings s → IsSoundRings ((ring_form meaning).received_on s era)
received_on_sound meaning s era sound = receiver_sound meaning s.lane.lane s.lane.sender s.lane.receiver s.lane.desk s.rings era sound

-- step 1 of a send
send-begun : {D : Type 0} (lane : Lane) (sender : Turn Sending) (receiver : Turn Receiving) (desk : D) (rings : Rings) (caller follows : ℕ) (message : List ℕ)
    → IsSoundRings (made lane sender receiver desk rings)
    → IsSoundRings (record { lane = after_send_start (record { lane = lane; sender = sender; receiver = receiver; desk = desk }) caller follows message; rings = rings })
send-begun lane turn.Free receiver desk rings caller follows message sound = send-turned lane receiver desk rings turn.Free (turn.Taken caller (record { follows = follows; message = message; stage = stage.Turn })) sound (λ sought. absurd (cc)) tt
send-begun lane (turn.Taken other send) receiver desk rings caller follows message sound = sound
send-begun lane (turn.Leaving other end) receiver desk rings caller follows message sound = sound
send-begun lane turn.Manager receiver desk rings caller follows message sound = sound

pub send_begun_sound : {D : Type 0} (meaning : DeskMeaning D) (s : RingState D) (caller follows : ℕ) (message : List ℕ) → IsSoundRings s
    → IsSoundRings ((ring_form meaning).after_send_start s caller follows message)
send_begun_sound meaning s caller follows message sound = send-begun s.lane.lane s.lane.sender s.lane.receiver s.lane.desk s.rings caller follows message sound

-- a call that has done its first step has read and stored nothing
work-first : (sizes : RingSizes) (forward returns : List UsedWord) (hands : List Hand) (taking handed returned : ℕ) (w : Work) → IsFirst w
    → HasWork sizes forward returns hands taking handed returned w
work-first sizes forward returns hands taking handed returned (work.Take last) first = subst (HasTaken sizes.entries forward taking handed) (sym first) tt
work-first sizes forward returns hands taking handed returned (work.Give number last) first = subst (HasGiven sizes returns hands returned number) (sym first) tt
work-first sizes forward returns hands taking handed returned (work.Bind address) first = tt
work-first sizes forward returns hands taking handed returned (work.Unbind address) first = tt

-- step 1 of the other calls
receive-begun : {D : Type 0} (lane : Lane) (sender : Turn Sending) (receiver : Turn Receiving) (desk : D) (rings : Rings) (caller follows : ℕ) (first : Work)
    → IsFirst first → IsFitWork first lane caller → IsSoundRings (made lane sender receiver desk rings)
    → IsSoundRings (record { lane = after_receive_start (record { lane = lane; sender = sender; receiver = receiver; desk = desk }) caller follows first; rings = rings })
receive-begun lane sender turn.Free desk rings caller follows first is_first fit sound =
    receive-turned lane sender rings desk desk turn.Free (turn.Taken caller (record { follows = follows; work = first })) sound fit
    (work-first rings.sizes rings.forward rings.returns rings.hands rings.taking (length lane.takers) lane.returned first is_first)
receive-begun lane sender (turn.Taken other call) desk rings caller follows first is_first fit sound = sound
receive-begun lane sender (turn.Leaving other end) desk rings caller follows first is_first fit sound = sound
receive-begun lane sender turn.Manager desk rings caller follows first is_first fit sound = sound

pub receive_begun_sound : {D : Type 0} (meaning : DeskMeaning D) (s : RingState D) (caller follows : ℕ) (first : Work) → IsFirst first → IsFitWork first s.lane.lane caller → IsSoundRings s
    → IsSoundRings ((ring_form meaning).after_receive_start s caller follows first)
receive_begun_sound meaning s caller follows first is_first fit sound =
    receive-begun s.lane.lane s.lane.sender s.lane.receiver s.lane.desk s.rings caller follows first is_first fit sound
