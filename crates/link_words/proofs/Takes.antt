-- The steps of a take at which a buffer goes out and comes home, with the era loaded again; and the leave by which a reclaim ends it.
use Rattle.link_words.proofs.Keepers.{keepers_by}
use Rattle.link_words.specs.Parts.{has_for_manager, has_sender_for_manager}
use Rattle.link_words.proofs.Gathered.{there, gathered_receive}
use Rattle.link_words.specs.Sides.{is_there, sides_at}
use Rattle.link_words.specs.declared.codes.DeskTables.{DeskTables}
use Rattle.link_words.specs.PlacedDesks.{PlacedDesk, right_to}
use Rattle.std.proofs.Common.{◌≡◌, ◌≢◌, ℕ, ◌+◌, ◌-◌, ◌<◌, ◌≤◌, Bool, true, false, cond, List, [], ◌∷◌, ◌++◌, length, get_or, set, refl, sym, ap, ◌∙◌, subst, inl, inr, ⊎_elim, arith, length-set, length-append, le_refl}
use Rattle.std.specs.Prelude.{Some, None}
use mathlib.Core.Option.{some, none}
use mathlib.Core.Option.{Option as Option_of}
use native.Mathlib.Decide.{ℕ_discrete}
use Rattle.std.proofs.lemmas.Bool.{cases_lt}
use lib.ListN.{get_elem?}
use Rattle.atomic_table.specs.Table.{State, Act, takes, gives, chain, homes_after, Valid, carried_after, stepped, Allows, rest}
use Rattle.atomic_table.proofs.Lists.{set_here, set_else}
use Rattle.rp_base.specs.declared.kinds.End.{End}
use Rattle.rp_base.specs.declared.kinds.End.TheVariants as side
use Rattle.rp_base.specs.declared.kinds.Verdict.{Verdict}
use Rattle.lane_model.specs.declared.lane_links.LaneLink.{LaneLink}
use Rattle.lane_model.specs.declared.states.Holding.{Holding}
use Rattle.lane_model.specs.declared.stages.Turn.{Turn}
use Rattle.lane_model.specs.declared.stages.Turn.TheVariants as turn
use Rattle.lane_model.specs.declared.stages.Receiving.{Receiving}
use Rattle.lane_model.specs.declared.stages.Work.TheVariants as work
use Rattle.lane_model.specs.declared.stages.TakeStage.TheVariants as take_stage
use Rattle.lane_model.specs.declared.calls.CallEnd.TheVariants as end
use base.Stored.{Coded}
use Rattle.rp_base.specs.declared.limits.TheConstants.{CAPACITY_MOST}
use Rattle.lane_model.specs.Desks.{DeskMeaning}
use Rattle.lane_model.specs.Lanes.{holder, has_call, message_at, is_live_in}
use Rattle.lane_model.specs.Links.{end_of}
use Rattle.lane_model.specs.Receives.{after_handing}
use Rattle.ring_core.specs.declared.states.RingState.{RingState}
use Rattle.ring_core.specs.Rings.{buffer_at}
use Rattle.ring_core.specs.Owners.{once_below, times_between, sender_is_out, receiver_is_out}
use Rattle.ring_core.specs.RingSteps.{ring_form, hands_of_others}
use Rattle.ring_core.specs.SoundRings.{IsSoundRings}
use Rattle.ring_core.proofs.Windows.{times_first, times_some, once_same}
use Rattle.ring_core.proofs.Hands.{once_under, once_above}
use Rattle.ring_core.proofs.OneOwner.{taking_is}
use Rattle.ring_core.proofs.Owned.{message-below}
use Rattle.link_words.specs.declared.rule.Slot.{Slot}
use Rattle.link_words.specs.declared.rule.Slot.TheVariants.{Buffer, Receiver}
use Rattle.link_words.specs.declared.rule.ReceiverSide.{ReceiverSide}
use Rattle.link_words.specs.declared.rule.LinkSizes.{LinkSizes}
use Rattle.link_words.specs.declared.rule.Call.{Call}
use Rattle.link_words.specs.declared.rule.Call.TheVariants.{Idle, Sends, Rests, Reclaims, EndsHeld, Receives, EndsReceive, EndsSend, EndsBoth, Reopens, Gathers}
use Rattle.lane_model.specs.declared.states.Holding.{Holding}
use Rattle.link_words.specs.Histories.{hands_of}
use Rattle.link_words.proofs.Frames.{keepers_set, receiver_in}
use Rattle.link_words.specs.declared.rule.View.{View}
use Rattle.link_words.specs.Words.{receiver_word, receiver_slot, other, lane_to, with_lane, era_word, lane_words, words_at, LaneWords, LaneHomes, lane_homes, homes_at, shelf_to, sender_side, receiver_side, buffer_slot}
use Rattle.link_words.specs.Turns.{turns_of, is_manager}
use Rattle.link_words.specs.Histories.{same_end, IsCurrentTake}
use Rattle.link_words.specs.Deeds.{Steps, EndsCall, after_deed, AreManagers, IsStill}
use Rattle.link_words.specs.Rule.{IsCallOf, Shows, WordsRule}
use Rattle.link_words.specs.Parts.{ReceivesAt, HoldsBuffers}
use Rattle.link_words.specs.Codes.{copied}
use Rattle.link_words.specs.Passes.{Mover, with_pass, with_call_and_hands, with_call}
use Rattle.link_words.specs.Calls.{SeatState}
use Rattle.link_words.proofs.Tells.{TakeTakesBufferBy, TakeHandsBy, LeavesEmpty}
use Rattle.link_words.proofs.Frames.{buffer_found, buffer_set}
use Rattle.link_words.proofs.Hands.{hands_none, hands_others, hands_here, hands_more, hands_same, hands_at}
use Rattle.link_words.proofs.Kept.{no_send, receive_deed, receive_may, end_receive_deed}
use Rattle.link_words.proofs.LaneSteps.{one_holder, no_call, lane_moves, lane_moves_by, hands_kept}
use Rattle.link_words.specs.declared.rule.Pass.{Pass}
use Rattle.link_words.proofs.Books.{history_took, history_handed, none_handed, not_used}
use Rattle.link_words.specs.declared.rule.Event.TheVariants.{Take}
use Rattle.link_words.proofs.LaneSteps.{lane_moves_with}
use Rattle.link_words.proofs.Sends.{live_now, some_number, has_of, true-false}
use Rattle.link_words.proofs.Buffers.{rings_to, homes_here, loaded, first_is}
use Rattle.link_words.proofs.Exact.{StepBy, ReadsAt, WritesAt, read_by, write_by}
use Rattle.link_words.proofs.Parts.{hands_most, rings_in, buffers_in, takers_room}

-- the lane, with the receiver's turn written out
abbrev pub with_receiver : {B : Type 0} {kc : Coded B} {kz : DeskTables} → RingState (PlacedDesk kc kz) → Turn Receiving → RingState (PlacedDesk kc kz)
with_receiver s t = record s { lane = record s.lane { receiver = t } }

pub receiver_turn_set : (e : End) (era n : ℕ) (a b : LaneWords) → set (words_at e era a b) (receiver_word e) n ≡ words_at e era (record a { receiver = n }) b
receiver_turn_set side.Host era n a b = refl
receiver_turn_set side.Remote era n a b = refl

pub receiver_side_set : (e : End) (x : Option_of Slot) (a b : LaneHomes) → set (homes_at e a b) (receiver_slot e) x ≡ homes_at e (record a { receiver = x }) b
receiver_side_set side.Host x a b = refl
receiver_side_set side.Remote x a b = refl

one_at_most : (id bound : ℕ) → once_below id bound ≤ 1
one_at_most id bound = elim (cases_lt id bound) [
  | inl below ↦ let one = once_under id bound below in omega arith
  | inr above ↦ let one = once_above id bound above in omega arith
]

-- no two messages of the forward ring stand in one buffer
forward_apart : {B : Type 0} {kc : Coded B} {kz : DeskTables} (s : RingState (PlacedDesk kc kz)) → IsSoundRings s → (k : ℕ) → length s.lane.lane.takers ≤ k → k < length s.lane.lane.accepted → k ≢ length s.lane.lane.takers
    → buffer_at s.rings.sizes.entries s.rings.forward k ≢ buffer_at s.rings.sizes.entries s.rings.forward (length s.lane.lane.takers)
forward_apart s sound k from to other same =
    let f = buffer_at s.rings.sizes.entries s.rings.forward in let h = length s.lane.lane.takers in let a = length s.lane.lane.accepted in
    let first = times_first f (f h) h (a - h) (a - h - 1) (omega (arith, from, to)) in let one = once_same (f h) in
    let later = times_some f (h + 1) (a - h - 1) k (omega (arith, from, other)) (omega (arith, from, to, other)) in
    let there : times_between f (f k) (h + 1) (a - h - 1) ≡ times_between f (f h) (h + 1) (a - h - 1) = ap (λ id. times_between f id (h + 1) (a - h - 1)) same in
    let all = sound.owned.times (f h) in let most = one_at_most (f h) s.rings.sizes.capacity in
    omega arith

-- the slots when the buffer that a take had out is at home, with the message still in it
shelved_back : {B : Type 0} {kc : Coded B} {kz : DeskTables} (s s' : RingState (PlacedDesk kc kz)) (l : List (Option_of Slot)) → IsSoundRings s → receiver_is_out s.lane.receiver ≡ true → HoldsBuffers s l
    → s'.rings.sizes ≡ s.rings.sizes → s'.rings.forward ≡ s.rings.forward → s'.rings.sending ≡ s.rings.sending → s'.lane.sender ≡ s.lane.sender → s'.lane.lane.accepted ≡ s.lane.lane.accepted
    → length s.lane.lane.takers ≤ length s'.lane.lane.takers
    → HoldsBuffers s' (set l s.rings.taking (some (Buffer (message_at s.lane.lane.accepted (length s.lane.lane.takers)))))
shelved_back s s' l sound out q sizes forward sending sender book more =
    let a = length s.lane.lane.accepted in let hd = length s.lane.lane.takers in let size = s.rings.sizes in let tk = taking_is s sound out in
    let id : ℕ = s.rings.taking in let y : Slot = Buffer (message_at s.lane.lane.accepted hd) in
    let low : id < size.capacity = subst (λ (k : ℕ). k < size.capacity) (sym tk.0)
    (message-below size a hd s.lane.lane.returned s.rings.forward s.rings.returns s.rings.hands s.rings.aside sound.owned hd (le_refl hd) tk.1) in
    let near : id < length l = omega (arith, low, q.long) in
    let buffer : (k : ℕ) → buffer_at s'.rings.sizes.entries s'.rings.forward k ≡ buffer_at size.entries s.rings.forward k = λ k i. buffer_at (sizes i).entries (forward i) k in
    record {
      long = length-set l id (some y) ∙ (q.long ∙ ap (λ x. x.capacity) (sym sizes));
      full = λ k from to other. (λ i. get_elem? (set l id (some y)) (buffer k i)) ∙ ((elim (ℕ_discrete k hd) as (λ _. get_elem? (set l id (some y)) (buffer_at size.entries s.rings.forward k) ≡ some (some (Buffer (message_at s.lane.lane.accepted k)))) [
        | yes first ↦ ap (get_elem? (set l id (some y))) (ap (buffer_at size.entries s.rings.forward) first ∙ sym tk.0) ∙ (set_here l id (some y) near ∙ ap (λ (n : ℕ). some (some (Buffer (message_at s.lane.lane.accepted n)))) (sym first))
        | no later ↦
            let from' : hd ≤ k = omega (arith, from, more) in let to' : k < a = subst (λ (b : List _). k < length b) book to in
            set_else l id (buffer_at size.entries s.rings.forward k) (some y) (λ same. forward_apart s sound k from' to' later (same ∙ tk.0)) ∙ q.full k from' to' (λ _. later)
      ]) ∙ (λ i. some (some (Buffer (message_at (sym book i) k)))));
      home = λ j under mine theirs. elim (ℕ_discrete j id) as (λ _. (u : Slot) × (get_elem? (set l id (some y)) j ≡ some (some u))) [
        | yes same ↦ (y, ap (get_elem? (set l id (some y))) same ∙ set_here l id (some y) near)
        | no other ↦
            let ho = q.home j (subst (λ (n : ℕ). j < n) (ap (λ x. x.capacity) sizes) under) (λ o same. mine (ap sender_is_out sender ∙ o) (same ∙ sym sending)) (λ _. other) in
            (ho.0, set_else l id j (some y) other ∙ ho.1)
      ];
    }

-- a call that has the receiver's turn of the lane to this end
abbrev pub has_receiver : End → Call → Bool
has_receiver e Idle = false
has_receiver e (Rests i) = false
has_receiver e (Sends i t x buffer) = false
has_receiver e (EndsSend i t x buffer) = false
has_receiver e (EndsBoth i t x buffer y) = same_end e (other i)
has_receiver e (Receives i t x buffer message) = same_end e i
has_receiver e (EndsReceive i t x buffer message) = same_end e i
has_receiver e (Reclaims i x) = same_end e i
has_receiver e (EndsHeld i x) = same_end e i
has_receiver e (Reopens q inc a b) = true
has_receiver e (Gathers a b) = is_there (sides_at e a b).receiver

module _ {B : Type 0} {kc : Coded B} {kz : DeskTables} (desk : DeskMeaning (PlacedDesk kc kz)) where
  pub still_receiver : (m : LaneLink (RingState (PlacedDesk kc kz))) (e : End) → AreManagers m → (lane_to m e).lane.receiver ≡ turn.Manager
  still_receiver m side.Host still = still.host_receiver
  still_receiver m side.Remote still = still.remote_receiver

  -- the calls of the others, where the receiver's end of a lane moves and none of them has it
  pub others_beside : (m : LaneLink (RingState (PlacedDesk kc kz))) (e : End) (s : RingState (PlacedDesk kc kz)) → (s.lane.sender ≡ (lane_to m e).lane.sender) → (sender_side s ≡ sender_side (lane_to m e)) → (s.rings.sending ≡ (lane_to m e).rings.sending) → (k : ℕ) → has_call s.lane.receiver k ≡ false
      → (call : Call) → (has_receiver e call ≡ true → IsCallOf m 0 k call → ⊥) → IsCallOf m 0 k call → IsCallOf (with_lane m e s) 0 k call
  others_beside m side.Host s sender beside sending k after Idle never has = has
  others_beside m side.Host s sender beside sending k after (Rests side.Host) never has = (has.0, has.1, after)
  others_beside m side.Host s sender beside sending k after (Rests side.Remote) never has = (has.0, ap (λ u. has_call u k) sender ∙ has.1, has.2)
  others_beside m side.Host s sender beside sending k after (Sends side.Host u x buffer) never has = (has.0, (sender ∙ has.1.0, has.1.1, has.1.2 ∙ sym beside, λ out. sending ∙ has.1.3 out), has.2)
  others_beside m side.Host s sender beside sending k after (Sends side.Remote u x buffer) never has = has
  others_beside m side.Host s sender beside sending k after (EndsSend side.Host u x buffer) never has = (has.0, (sender ∙ has.1.0, has.1.1, has.1.2 ∙ sym beside, λ out. sending ∙ has.1.3 out), has.2, has.3)
  others_beside m side.Host s sender beside sending k after (EndsSend side.Remote u x buffer) never has = has
  others_beside m side.Host s sender beside sending k after (EndsBoth side.Host u x buffer y) never has = (has.0, (sender ∙ has.1.0, has.1.1, has.1.2 ∙ sym beside, λ out. sending ∙ has.1.3 out), has.2, has.3, has.4, has.5)
  others_beside m side.Host s sender beside sending k after (EndsBoth side.Remote u x buffer y) never has = absurd (never refl has)
  others_beside m side.Host s sender beside sending k after (Receives side.Host u x buffer msg) never has = absurd (never refl has)
  others_beside m side.Host s sender beside sending k after (Receives side.Remote u x buffer msg) never has = has
  others_beside m side.Host s sender beside sending k after (EndsReceive side.Host u x buffer msg) never has = absurd (never refl has)
  others_beside m side.Host s sender beside sending k after (EndsReceive side.Remote u x buffer msg) never has = has
  others_beside m side.Host s sender beside sending k after (Reclaims side.Host x) never has = absurd (never refl has)
  others_beside m side.Host s sender beside sending k after (Reclaims side.Remote x) never has = (has.0, has.1, has.2, has.3, ap (λ u. has_call u k) sender ∙ has.4)
  others_beside m side.Host s sender beside sending k after (EndsHeld side.Host x) never has = absurd (never refl has)
  others_beside m side.Host s sender beside sending k after (EndsHeld side.Remote x) never has = (has.0, has.1, has.2, has.3, has.4, ap (λ u. has_call u k) sender ∙ has.5)
  others_beside m side.Host s sender beside sending k after (Reopens p inc a b) never has = absurd (never refl has)
  others_beside m side.Host s sender beside sending k after (Gathers a b) never has = (has.0, has.1, gathered_receive (turns_of m.to_host) (turns_of s) a (λ is. never is has) sender beside has.2, has.3)
  others_beside m side.Remote s sender beside sending k after Idle never has = has
  others_beside m side.Remote s sender beside sending k after (Rests side.Remote) never has = (has.0, has.1, after)
  others_beside m side.Remote s sender beside sending k after (Rests side.Host) never has = (has.0, ap (λ u. has_call u k) sender ∙ has.1, has.2)
  others_beside m side.Remote s sender beside sending k after (Sends side.Remote u x buffer) never has = (has.0, (sender ∙ has.1.0, has.1.1, has.1.2 ∙ sym beside, λ out. sending ∙ has.1.3 out), has.2)
  others_beside m side.Remote s sender beside sending k after (Sends side.Host u x buffer) never has = has
  others_beside m side.Remote s sender beside sending k after (EndsSend side.Remote u x buffer) never has = (has.0, (sender ∙ has.1.0, has.1.1, has.1.2 ∙ sym beside, λ out. sending ∙ has.1.3 out), has.2, has.3)
  others_beside m side.Remote s sender beside sending k after (EndsSend side.Host u x buffer) never has = has
  others_beside m side.Remote s sender beside sending k after (EndsBoth side.Remote u x buffer y) never has = (has.0, (sender ∙ has.1.0, has.1.1, has.1.2 ∙ sym beside, λ out. sending ∙ has.1.3 out), has.2, has.3, has.4, has.5)
  others_beside m side.Remote s sender beside sending k after (EndsBoth side.Host u x buffer y) never has = absurd (never refl has)
  others_beside m side.Remote s sender beside sending k after (Receives side.Remote u x buffer msg) never has = absurd (never refl has)
  others_beside m side.Remote s sender beside sending k after (Receives side.Host u x buffer msg) never has = has
  others_beside m side.Remote s sender beside sending k after (EndsReceive side.Remote u x buffer msg) never has = absurd (never refl has)
  others_beside m side.Remote s sender beside sending k after (EndsReceive side.Host u x buffer msg) never has = has
  others_beside m side.Remote s sender beside sending k after (Reclaims side.Remote x) never has = absurd (never refl has)
  others_beside m side.Remote s sender beside sending k after (Reclaims side.Host x) never has = (has.0, has.1, has.2, has.3, ap (λ u. has_call u k) sender ∙ has.4)
  others_beside m side.Remote s sender beside sending k after (EndsHeld side.Remote x) never has = absurd (never refl has)
  others_beside m side.Remote s sender beside sending k after (EndsHeld side.Host x) never has = (has.0, has.1, has.2, has.3, has.4, ap (λ u. has_call u k) sender ∙ has.5)
  others_beside m side.Remote s sender beside sending k after (Reopens p inc a b) never has = absurd (never refl has)
  others_beside m side.Remote s sender beside sending k after (Gathers a b) never has = (has.0, has.1, has.2, gathered_receive (turns_of m.to_remote) (turns_of s) b (λ is. never is has) sender beside has.3)

  -- another cannot have a receiver's turn that a caller has
  no_other_has : (m : LaneLink (RingState (PlacedDesk kc kz))) (e : End) (t : Turn Receiving) (number : ℕ) → (lane_to m e).lane.receiver ≡ t → holder t ≡ Some number → is_manager t ≡ false → (k : ℕ) → number ≢ k → (call : Call) → has_receiver e call ≡ true → IsCallOf m 0 k call → ⊥
  no_other_has m e t number is mine bare k apart Idle having has = true-false (sym having)
  no_other_has m e t number is mine bare k apart (Rests i) having has = true-false (sym having)
  no_other_has m e t number is mine bare k apart (Sends i u x buffer) having has = true-false (sym having)
  no_other_has m e t number is mine bare k apart (EndsSend i u x buffer) having has = true-false (sym having)
  no_other_has m side.Host t number is mine bare k apart (Receives side.Host u x buffer msg) having has = apart (one_holder desk m.to_host.lane.receiver number k (ap holder is ∙ mine) (ap holder has.1.0 ∙ has.1.1))
  no_other_has m side.Host t number is mine bare k apart (Receives side.Remote u x buffer msg) having has = true-false (sym having)
  no_other_has m side.Host t number is mine bare k apart (EndsReceive side.Host u x buffer msg) having has = apart (one_holder desk m.to_host.lane.receiver number k (ap holder is ∙ mine) (ap holder has.1.0 ∙ has.1.1))
  no_other_has m side.Host t number is mine bare k apart (EndsReceive side.Remote u x buffer msg) having has = true-false (sym having)
  no_other_has m side.Host t number is mine bare k apart (Reclaims side.Host x) having has = true-false (sym (ap is_manager (sym is ∙ has.1)) ∙ bare)
  no_other_has m side.Host t number is mine bare k apart (Reclaims side.Remote x) having has = true-false (sym having)
  no_other_has m side.Host t number is mine bare k apart (EndsHeld side.Host x) having has = true-false (sym (ap is_manager (sym is ∙ has.1)) ∙ bare)
  no_other_has m side.Host t number is mine bare k apart (EndsHeld side.Remote x) having has = true-false (sym having)
  no_other_has m side.Host t number is mine bare k apart (EndsBoth side.Host u x buffer y) having has = true-false (sym having)
  no_other_has m side.Host t number is mine bare k apart (EndsBoth side.Remote u x buffer y) having has = true-false (sym (ap is_manager (sym is ∙ has.3)) ∙ bare)
  no_other_has m side.Host t number is mine bare k apart (Reopens p inc a b) having has = true-false (sym (ap is_manager (sym is ∙ has.2.1.host_receiver)) ∙ bare)
  no_other_has m side.Host t number is mine bare k apart (Gathers a b) having has = let x = there a.receiver having in true-false (sym (ap is_manager (sym is ∙ (has.2.receiver x.0 x.1).0)) ∙ bare)
  no_other_has m side.Remote t number is mine bare k apart (Receives side.Remote u x buffer msg) having has = apart (one_holder desk m.to_remote.lane.receiver number k (ap holder is ∙ mine) (ap holder has.1.0 ∙ has.1.1))
  no_other_has m side.Remote t number is mine bare k apart (Receives side.Host u x buffer msg) having has = true-false (sym having)
  no_other_has m side.Remote t number is mine bare k apart (EndsReceive side.Remote u x buffer msg) having has = apart (one_holder desk m.to_remote.lane.receiver number k (ap holder is ∙ mine) (ap holder has.1.0 ∙ has.1.1))
  no_other_has m side.Remote t number is mine bare k apart (EndsReceive side.Host u x buffer msg) having has = true-false (sym having)
  no_other_has m side.Remote t number is mine bare k apart (Reclaims side.Remote x) having has = true-false (sym (ap is_manager (sym is ∙ has.1)) ∙ bare)
  no_other_has m side.Remote t number is mine bare k apart (Reclaims side.Host x) having has = true-false (sym having)
  no_other_has m side.Remote t number is mine bare k apart (EndsHeld side.Remote x) having has = true-false (sym (ap is_manager (sym is ∙ has.1)) ∙ bare)
  no_other_has m side.Remote t number is mine bare k apart (EndsHeld side.Host x) having has = true-false (sym having)
  no_other_has m side.Remote t number is mine bare k apart (EndsBoth side.Remote u x buffer y) having has = true-false (sym having)
  no_other_has m side.Remote t number is mine bare k apart (EndsBoth side.Host u x buffer y) having has = true-false (sym (ap is_manager (sym is ∙ has.3)) ∙ bare)
  no_other_has m side.Remote t number is mine bare k apart (Reopens p inc a b) having has = true-false (sym (ap is_manager (sym is ∙ has.2.1.remote_receiver)) ∙ bare)
  no_other_has m side.Remote t number is mine bare k apart (Gathers a b) having has = let x = there b.receiver having in true-false (sym (ap is_manager (sym is ∙ (has.3.receiver x.0 x.1).0)) ∙ bare)

  pub others_receive : (m : LaneLink (RingState (PlacedDesk kc kz))) (e : End) (s : RingState (PlacedDesk kc kz)) (t : Turn Receiving) (number : ℕ) → (lane_to m e).lane.receiver ≡ t → holder t ≡ Some number → is_manager t ≡ false
      → (s.lane.sender ≡ (lane_to m e).lane.sender) → (sender_side s ≡ sender_side (lane_to m e)) → (s.rings.sending ≡ (lane_to m e).rings.sending) → ((k : ℕ) → number ≢ k → has_call s.lane.receiver k ≡ false)
      → (k : ℕ) → number ≢ k → (call : Call) → IsCallOf m 0 k call → IsCallOf (with_lane m e s) 0 k call
  others_receive m e s t number is mine bare sender beside sending after k apart call has = others_beside m e s sender beside sending k (after k apart) call (no_other_has m e t number is mine bare k apart call) has

  pub here_receives : (m : LaneLink (RingState (PlacedDesk kc kz))) (e : End) (s : RingState (PlacedDesk kc kz)) (number : ℕ) (t : Turn Receiving) (x : ReceiverSide) (buffer : ℕ) (message : List ℕ) → end_of m.callers number ≡ Some e → ReceivesAt (turns_of s) number t x buffer message → IsCurrentTake t m.era.inc
      → IsCallOf (with_lane m e s) 0 number (Receives e t x buffer message)
  here_receives m side.Host s number t x buffer message user at now = (user, at, now)
  here_receives m side.Remote s number t x buffer message user at now = (user, at, now)

module _ {B : Type 0} {kc : Coded B} {kz : DeskTables} (cd : Coded (PlacedDesk kc kz)) (desk : DeskMeaning (PlacedDesk kc kz)) (z : LinkSizes) where
  pub at_zero' : (st : State Slot View) (m : LaneLink (RingState (PlacedDesk kc kz))) (p : ℕ) (e : End) (t : Turn Receiving) → (lane_to m e).lane.receiver ≡ t → is_manager t ≡ false → Shows cd desk z st m p → Shows cd desk z st m 0
  at_zero' st m p e t is bare r = ⊎_elim
      (λ (none_reset : p ≡ 0). subst (Shows cd desk z st m) none_reset r)
      (λ (still : IsStill m). absurd (true-false (ap is_manager (sym (still_receiver desk m e still.1) ∙ is) ∙ bare)))
      r.turns.still

  pub receive_rests : (m : LaneLink (RingState (PlacedDesk kc kz))) (e : End) (s : RingState (PlacedDesk kc kz)) (number : ℕ) → end_of m.callers number ≡ Some e → has_call s.lane.receiver number ≡ false → has_call (lane_to m (other e)).lane.sender number ≡ false → IsCallOf (with_lane m e s) 0 number (Rests e)
  receive_rests m side.Host s number user receives sends = (user, sends, receives)
  receive_rests m side.Remote s number user receives sends = (user, sends, receives)

  -- step 4 of a take, whatever word it loads
  pub draws : (n id : ℕ) (me : SeatState) (o : Mover me.0) (e : End) (c f : ℕ) (x : ReceiverSide) (b i first : ℕ) (msg : List ℕ) → o.pass.call ≡ Receives e (turn.Taken c (record { follows = f; work = work.Take take_stage.Look })) x b msg → first ≡ z.to_host.capacity
      → (told : ℕ → ℕ)
      → ((st : State Slot View) (m : LaneLink (RingState (PlacedDesk kc kz))) (r : Shows cd desk z st m 0) → x ≡ receiver_side (lane_to m e) → IsSoundRings (lane_to m e) → buffer_at (lane_to m e).rings.sizes.entries (lane_to m e).rings.forward (length (lane_to m e).lane.lane.takers) < (lane_to m e).rings.sizes.capacity
      → told (get_or st.words i 0) ≡ buffer_at (lane_to m e).rings.sizes.entries (lane_to m e).rings.forward (length (lane_to m e).lane.lane.takers))
      → Allows (WordsRule cd desk z) n id me i (λ y. y) (λ y me'. TakeTakesBufferBy me o first e c f x (told y) me' × StepBy cd desk (ReadsAt i y) me o (Steps o.pass.number 0 None) me')
  draws n id me o e c f x b i first msg call first_at told knows st (m, p, r₀) wide at _ =
      let t : Turn Receiving = turn.Taken c (record { follows = f; work = work.Take take_stage.Look }) in
      let h : IsCallOf m p o.pass.number (Receives e t x b msg) = subst (IsCallOf m p o.pass.number) call (r₀.turns.calls id o.place o.pass (me.0, at, o.here)) in
      let r = at_zero' st m p e t h.1.0 refl r₀ in let s₀ = lane_to m e in let s = with_receiver s₀ t in let is : s₀ ≡ s = λ k. with_receiver s₀ (h.1.0 k) in
      let sound : IsSoundRings s = subst IsSoundRings is (rings_to m e (rings_in r)) in let q : HoldsBuffers s (shelf_to r.shelves e) = subst (λ (u : RingState (PlacedDesk kc kz)). HoldsBuffers u (shelf_to r.shelves e)) is ((buffers_in r) e) in
      let a = length s.lane.lane.accepted in let hd = length s.lane.lane.takers in let found : hd < a = sound.fit refl in
      let own : ℕ = buffer_at s.rings.sizes.entries s.rings.forward hd in let message : List ℕ = message_at s.lane.lane.accepted hd in
      let low : own < s.rings.sizes.capacity = message-below s.rings.sizes a hd s.lane.lane.returned s.rings.forward s.rings.returns s.rings.hands s.rings.aside sound.owned hd (le_refl hd) found in
      let near : own < length (shelf_to r.shelves e) = omega (arith, low, q.long) in let home = q.full hd (le_refl hd) found (λ out. absurd (true-false (sym out))) in
      let first_here = first_is cd desk z st m r e first first_at in let t' : Turn Receiving = turn.Taken c (record { follows = f; work = work.Take take_stage.Buffer }) in
      let w : Call = Receives e t' x own message in let s' : RingState (PlacedDesk kc kz) = (ring_form desk).received_on s m.era in let l' = set (shelf_to r.shelves e) own none in
      let has : has_call s₀.lane.receiver o.pass.number ≡ true = has_of s₀.lane.receiver o.pass.number (ap holder h.1.0 ∙ h.1.1) (ap is_manager h.1.0) in
      let id_is : told (get_or st.words i 0) ≡ own = knows st m r h.1.2 (rings_to m e (rings_in r)) low in let may = receive_may desk m e o.pass.number 0 h.0 has in
      let deed : with_lane m e s' ≡ after_deed desk m (Steps o.pass.number 0 None) = ap (λ (u : RingState (PlacedDesk kc kz)). with_lane m e ((ring_form desk).received_on u m.era)) (sym is) ∙ receive_deed desk m e o.pass.number 0 h.0 (no_send desk m e o.pass.number r.sound has) in
      let mine : IsCallOf (with_lane m e s') 0 o.pass.number w = here_receives desk m e s' o.pass.number t' x own message h.0 (refl, h.1.1, h.1.2, (λ _. (refl, refl)), refl) (λ _. h.2 refl) in (
        _,
        takes (buffer_slot first e own) (Buffer message),
        ap (λ hs. get_elem? hs (buffer_slot first e own)) (homes_here cd desk z st m r e) ∙ buffer_found e first own _ _ (some (Buffer message)) home first_here,
        lane_moves cd desk z st m r e s s' is i (get_or st.words i 0) id me.1 me.0 o w (takes (buffer_slot first e own) (Buffer message)) (Steps o.pass.number 0 None) l' at
            may
            deed
            (loaded cd desk z st m r e i s is)
            (buffer_set e first own none _ _ near first_here)
            (record {
              long = length-set (shelf_to r.shelves e) own none ∙ q.long;
              full = λ k from to other. set_else (shelf_to r.shelves e) own (buffer_at s.rings.sizes.entries s.rings.forward k) none (forward_apart s sound k from to (other refl)) ∙ q.full k from to (λ out. absurd (true-false (sym out)));
              home = λ j under mine theirs. let ho = q.home j under mine (λ out. absurd (true-false (sym out))) in (ho.0, set_else (shelf_to r.shelves e) own j none (theirs refl) ∙ ho.1);
            })
            mine
            (others_receive desk m e s' t o.pass.number h.1.0 h.1.1 refl refl refl refl (λ k apart. no_call desk t' o.pass.number k h.1.1 apart)) refl refl refl refl (refl, ((λ i. ap (has_sender_for_manager i) call), λ i. ap (has_for_manager i) call)),
        (
          (message, λ k. (with_pass me.0 o (with_call o.pass (Receives e t' x (sym id_is k) message)) (Some (copied cd (with_lane m e s'))), (buffer_slot first e (sym id_is k), Buffer message) ∷ me.1)),
          read_by i cd desk z st m r id me o (with_call o.pass w) (Steps o.pass.number 0 None) (with_lane m e s') ((buffer_slot first e own, Buffer message) ∷ me.1) at may deed mine,
        ),
      )

  hands_live : (n id : ℕ) (me : SeatState) (o : Mover me.0) (e : End) (c f : ℕ) (x : ReceiverSide) (b first : ℕ) (msg : List ℕ) → o.pass.call ≡ Receives e (turn.Taken c (record { follows = f; work = work.Take take_stage.Buffer })) x b msg → first ≡ z.to_host.capacity → me.1 ≡ (buffer_slot first e b, Buffer msg) ∷ rest me.1
      → (st : State Slot View) (m : LaneLink (RingState (PlacedDesk kc kz))) → is_live_in m.era f ≡ true → get_elem? st.views id ≡ some me.0
      → IsCallOf m 0 o.pass.number (Receives e (turn.Taken c (record { follows = f; work = work.Take take_stage.Buffer })) x b msg) → Shows cd desk z st m 0
      → (w : View) × (a : Act Slot) × Valid st.homes me.1 a × WordsRule cd desk z (stepped st 1 (get_or st.words 1 0) id me.1 w a) × (TakeHandsBy desk me o e c f x b msg (get_or st.words 1 0) (w, carried_after me.1 a) × StepBy cd desk (ReadsAt 1 (get_or st.words 1 0)) me o (Steps o.pass.number 0 None) (w, carried_after me.1 a))
  hands_live n id me o e c f x b first msg call first_at has_slot st m is_live at h r =
      let t : Turn Receiving = turn.Taken c (record { follows = f; work = work.Take take_stage.Buffer }) in
      let s₀ = lane_to m e in let s = with_receiver s₀ t in let is : s₀ ≡ s = λ k. with_receiver s₀ (h.1.0 k) in let era = m.era in
      let sound : IsSoundRings s = subst IsSoundRings is (rings_to m e (rings_in r)) in let q : HoldsBuffers s (shelf_to r.shelves e) = subst (λ (u : RingState (PlacedDesk kc kz)). HoldsBuffers u (shelf_to r.shelves e)) is ((buffers_in r) e) in
      let hd = length s.lane.lane.takers in let message : List ℕ = message_at s.lane.lane.accepted hd in let out = h.1.3 refl in let tk = taking_is s sound refl in let few : length x.hands < CAPACITY_MOST = subst (λ (y : ReceiverSide). length y.hands < CAPACITY_MOST) (sym h.1.2) (hands_most s sound tk.1) in let sure : x.handed < x.room = subst (λ (y : ReceiverSide). y.handed < y.room) (sym h.1.2) (takers_room s sound tk.1) in
      let low : s.rings.taking < s.rings.sizes.capacity = subst (λ (k : ℕ). k < s.rings.sizes.capacity) (sym tk.0)
      (message-below s.rings.sizes (length s.lane.lane.accepted) hd s.lane.lane.returned s.rings.forward s.rings.returns s.rings.hands s.rings.aside sound.owned hd (le_refl hd) tk.1) in
      let is_b : s.rings.taking ≡ b = out.0 in let near : b < length (shelf_to r.shelves e) = omega (arith, low, q.long, is_b) in
      let leaves : Bool → RingState (PlacedDesk kc kz) = λ y. record {
        lane = cond y (after_handing desk s.lane c) (record s.lane { receiver = turn.Leaving c (end.Dead era) });
        rings = cond y (record s.rings { hands = s.rings.hands ++ record { number = hd; caller = c; buffer = s.rings.taking } ∷ [] }) s.rings;
      } in
      let has : has_call s₀.lane.receiver o.pass.number ≡ true = has_of s₀.lane.receiver o.pass.number (ap holder h.1.0 ∙ h.1.1) (ap is_manager h.1.0) in
      let may = receive_may desk m e o.pass.number 0 h.0 has in let word : get_or st.words 1 0 ≡ era_word era = ap (λ (ws : List ℕ). get_or ws 1 0) r.words_are in
      let deed : with_lane m e (leaves true) ≡ after_deed desk m (Steps o.pass.number 0 None) =
      ap (λ (y : Bool). with_lane m e (leaves y)) (sym is_live) ∙ (ap (λ (u : RingState (PlacedDesk kc kz)). with_lane m e ((ring_form desk).received_on u era)) (sym is) ∙ receive_deed desk m e o.pass.number 0 h.0 (no_send desk m e o.pass.number r.sound has)) in
      let hb = lane_homes (lane_to m (other e)) (shelf_to r.shelves (other e)) in let l' = set (shelf_to r.shelves e) b (some (Buffer msg)) in let s' = leaves true in
      let verdict : Verdict = desk.verdict s.lane.desk x.handed msg in let left : PlacedDesk kc kz = desk.delivered s.lane.desk x.handed msg in let nth : x.handed ≡ hd = ap (λ (y : ReceiverSide). y.handed) h.1.2 in
      let t' : Turn Receiving = turn.Leaving c (end.Took x.handed verdict) in
      let x' : ReceiverSide = record x { handed = x.handed + 1; takers = x.takers ++ c ∷ []; hands = x.hands ++ record { number = x.handed; caller = c; buffer = b } ∷ []; desk = right_to left } in
      let more : length (s.lane.lane.takers ++ c ∷ []) ≡ hd + 1 = length-append s.lane.lane.takers (c ∷ []) in
      let side : x' ≡ receiver_side s' = ap (λ (y : ReceiverSide). record y { handed = y.handed + 1; takers = y.takers ++ c ∷ []; hands = y.hands ++ record { number = y.handed; caller = c; buffer = b } ∷ []; desk = right_to left }) h.1.2
      ∙ (λ i. record { handed = sym more i; takers = s.lane.lane.takers ++ c ∷ []; room = s.lane.lane.book; returned = s.lane.lane.returned; hands = s.rings.hands ++ record { number = hd; caller = c; buffer = sym is_b i } ∷ []; desk = right_to (desk.delivered s.lane.desk (nth i) (out.1 i)) }) in
      let w : Call = Receives e t' x' b msg in let more_hands : List ℕ = o.pass.hands ++ x.handed ∷ [] in let pass : Pass = record o.pass { call = w; own = Take e f x.handed msg ∷ o.pass.own; hands = more_hands } in let new : Holding = record { number = hd; caller = c } in let who : c ≡ o.pass.number = some_number c o.pass.number h.1.1 in
      let held_now : hands_of o.pass.number s.lane.lane.held ≡ o.pass.hands = hands_at m e o.pass h.0 (r.histories.hands id o.place o.pass (me.0, at, o.here)) in
      let mine : IsCallOf (with_lane m e s') 0 o.pass.number w = here_receives desk m e s' o.pass.number t' x' b msg h.0 ((λ i. turn.Leaving c (end.Took (sym nth i) (desk.verdict s.lane.desk (sym nth i) (sym out.1 i)))), h.1.1, side, (λ o. absurd (true-false (sym o))), refl) tt in (
        _,
        gives,
        tt,
        lane_moves_with cd desk z st m r e s s' is 1 (get_or st.words 1 0) id me.1 me.0 o pass gives (Steps o.pass.number 0 None) l' at may deed
            (loaded cd desk z st m r e 1 s is)
            (ap (λ (cs : List (ℕ × Slot)). homes_after (homes_at e (lane_homes s (shelf_to r.shelves e)) hb) cs gives) has_slot ∙ buffer_set e first b (some (Buffer msg)) (lane_homes s (shelf_to r.shelves e)) hb near (first_is cd desk z st m r e first first_at))
            (subst (λ (v : ℕ × List ℕ). HoldsBuffers s' (set (shelf_to r.shelves e) v.0 (some (Buffer v.1)))) (λ i. (is_b i, sym out.1 i)) (shelved_back s s' (shelf_to r.shelves e) sound refl q refl refl refl refl refl (omega (arith, more))))
            mine
            (λ j l u there apart. others_receive desk m e s' t o.pass.number h.1.0 h.1.1 refl refl refl refl (λ k ne. no_call desk t' o.pass.number k h.1.1 ne) u.number apart u.call) refl refl
            (history_took m e s' c refl refl refl o.pass.number o.pass.first f x.handed msg o.pass.own who (live_now era f is_live) nth (subst (λ (k : ℕ). k < length s.lane.lane.accepted) (sym nth) tk.1, out.1 ∙ ap (message_at s.lane.lane.accepted) (sym nth)) (r.histories.own id o.place o.pass (me.0, at, o.here)))
            (λ u apart has. history_handed m e s' c refl refl refl u.number u.first u.own (λ same. apart (sym who ∙ same)) has)
            (inr (inr (live_now era f is_live)))
            (hands_here m e s' pass h.0 (hands_more o.pass.number s.lane.lane.held new who ∙ (λ i. held_now i ++ sym nth i ∷ [])))
            (λ u apart. hands_kept desk m e s' u (λ was. hands_same u.number s.lane.lane.held new (λ same. apart (sym who ∙ same)) ∙ (ap (λ (y : RingState (PlacedDesk kc kz)). hands_of u.number y.lane.lane.held) (sym is) ∙ was)))
            (λ n none. none_handed m e s' c refl refl n (λ same. not_used m.callers o.pass.number n e h.0 none (sym who ∙ same)))
            (keepers_set st.views id me.0 (with_pass me.0 o pass (Some (copied cd (with_lane m e s')))) o pass at refl refl (λ i k. absurd (true-false (sym k))) r.turns.keepers)
            (keepers_by desk m (with_lane m e s') (Steps o.pass.number 0 None) deed st.views id me.0 (with_pass me.0 o pass (Some (copied cd (with_lane m e s')))) o pass at refl (refl, ((λ i. ap (has_sender_for_manager i) call), λ i. ap (has_for_manager i) call)) r.turns.some_keeper),
        (
          (m.era, word, r.numbers.short, few, sure, s.lane.desk, ap (λ (y : ReceiverSide). y.desk) h.1.2, (λ _. refl), λ dead. absurd (true-false (sym is_live ∙ dead))),
          read_by 1 cd desk z st m r id me o pass (Steps o.pass.number 0 None) (with_lane m e s') (rest me.1) at may deed mine,
        ),
      )

  hands_dead : (n id : ℕ) (me : SeatState) (o : Mover me.0) (e : End) (c f : ℕ) (x : ReceiverSide) (b first : ℕ) (msg : List ℕ) → o.pass.call ≡ Receives e (turn.Taken c (record { follows = f; work = work.Take take_stage.Buffer })) x b msg → first ≡ z.to_host.capacity → me.1 ≡ (buffer_slot first e b, Buffer msg) ∷ rest me.1
      → (st : State Slot View) (m : LaneLink (RingState (PlacedDesk kc kz))) → is_live_in m.era f ≡ false → get_elem? st.views id ≡ some me.0
      → IsCallOf m 0 o.pass.number (Receives e (turn.Taken c (record { follows = f; work = work.Take take_stage.Buffer })) x b msg) → Shows cd desk z st m 0
      → (w : View) × (a : Act Slot) × Valid st.homes me.1 a × WordsRule cd desk z (stepped st 1 (get_or st.words 1 0) id me.1 w a) × (TakeHandsBy desk me o e c f x b msg (get_or st.words 1 0) (w, carried_after me.1 a) × StepBy cd desk (ReadsAt 1 (get_or st.words 1 0)) me o (Steps o.pass.number 0 None) (w, carried_after me.1 a))
  hands_dead n id me o e c f x b first msg call first_at has_slot st m is_live at h r =
      let t : Turn Receiving = turn.Taken c (record { follows = f; work = work.Take take_stage.Buffer }) in
      let s₀ = lane_to m e in let s = with_receiver s₀ t in let is : s₀ ≡ s = λ k. with_receiver s₀ (h.1.0 k) in let era = m.era in
      let sound : IsSoundRings s = subst IsSoundRings is (rings_to m e (rings_in r)) in let q : HoldsBuffers s (shelf_to r.shelves e) = subst (λ (u : RingState (PlacedDesk kc kz)). HoldsBuffers u (shelf_to r.shelves e)) is ((buffers_in r) e) in
      let hd = length s.lane.lane.takers in let message : List ℕ = message_at s.lane.lane.accepted hd in let out = h.1.3 refl in let tk = taking_is s sound refl in let few : length x.hands < CAPACITY_MOST = subst (λ (y : ReceiverSide). length y.hands < CAPACITY_MOST) (sym h.1.2) (hands_most s sound tk.1) in let sure : x.handed < x.room = subst (λ (y : ReceiverSide). y.handed < y.room) (sym h.1.2) (takers_room s sound tk.1) in
      let low : s.rings.taking < s.rings.sizes.capacity = subst (λ (k : ℕ). k < s.rings.sizes.capacity) (sym tk.0)
      (message-below s.rings.sizes (length s.lane.lane.accepted) hd s.lane.lane.returned s.rings.forward s.rings.returns s.rings.hands s.rings.aside sound.owned hd (le_refl hd) tk.1) in
      let is_b : s.rings.taking ≡ b = out.0 in let near : b < length (shelf_to r.shelves e) = omega (arith, low, q.long, is_b) in
      let leaves : Bool → RingState (PlacedDesk kc kz) = λ y. record {
        lane = cond y (after_handing desk s.lane c) (record s.lane { receiver = turn.Leaving c (end.Dead era) });
        rings = cond y (record s.rings { hands = s.rings.hands ++ record { number = hd; caller = c; buffer = s.rings.taking } ∷ [] }) s.rings;
      } in
      let has : has_call s₀.lane.receiver o.pass.number ≡ true = has_of s₀.lane.receiver o.pass.number (ap holder h.1.0 ∙ h.1.1) (ap is_manager h.1.0) in
      let may = receive_may desk m e o.pass.number 0 h.0 has in let word : get_or st.words 1 0 ≡ era_word era = ap (λ (ws : List ℕ). get_or ws 1 0) r.words_are in
      let deed : with_lane m e (leaves false) ≡ after_deed desk m (Steps o.pass.number 0 None) =
      ap (λ (y : Bool). with_lane m e (leaves y)) (sym is_live) ∙ (ap (λ (u : RingState (PlacedDesk kc kz)). with_lane m e ((ring_form desk).received_on u era)) (sym is) ∙ receive_deed desk m e o.pass.number 0 h.0 (no_send desk m e o.pass.number r.sound has)) in
      let hb = lane_homes (lane_to m (other e)) (shelf_to r.shelves (other e)) in let l' = set (shelf_to r.shelves e) b (some (Buffer msg)) in let s' = leaves false in
      let t' : Turn Receiving = turn.Leaving c (end.Dead era) in let x' : ReceiverSide = x in let w : Call = Receives e t' x' b msg in
      let mine : IsCallOf (with_lane m e s') 0 o.pass.number w = here_receives desk m e s' o.pass.number t' x' b msg h.0 (refl, h.1.1, h.1.2, (λ o. absurd (true-false (sym o))), refl) tt in (
        _,
        gives,
        tt,
        lane_moves cd desk z st m r e s s' is 1 (get_or st.words 1 0) id me.1 me.0 o w gives (Steps o.pass.number 0 None) l' at may deed
            (loaded cd desk z st m r e 1 s is)
            (ap (λ (cs : List (ℕ × Slot)). homes_after (homes_at e (lane_homes s (shelf_to r.shelves e)) hb) cs gives) has_slot ∙ buffer_set e first b (some (Buffer msg)) (lane_homes s (shelf_to r.shelves e)) hb near (first_is cd desk z st m r e first first_at))
            (subst (λ (v : ℕ × List ℕ). HoldsBuffers s' (set (shelf_to r.shelves e) v.0 (some (Buffer v.1)))) (λ i. (is_b i, sym out.1 i)) (shelved_back s s' (shelf_to r.shelves e) sound refl q refl refl refl refl refl (le_refl hd)))
            mine
            (others_receive desk m e s' t o.pass.number h.1.0 h.1.1 refl refl refl refl (λ k apart. no_call desk t' o.pass.number k h.1.1 apart)) refl refl refl refl (refl, ((λ i. ap (has_sender_for_manager i) call), λ i. ap (has_for_manager i) call)),
        (
          (m.era, word, r.numbers.short, few, sure, s.lane.desk, ap (λ (y : ReceiverSide). y.desk) h.1.2, (λ live. absurd (true-false (sym live ∙ is_live))), λ _. refl),
          read_by 1 cd desk z st m r id me o (with_call o.pass w) (Steps o.pass.number 0 None) (with_lane m e s') (rest me.1) at may deed mine,
        ),
      )

  -- step 5 of a take: the era again. Live: the desk judges the message and it is handed; else the take is dead. The slot is at home either way, with the message
  pub hands : (n id : ℕ) (me : SeatState) (o : Mover me.0) (e : End) (c f : ℕ) (x : ReceiverSide) (b first : ℕ) (msg : List ℕ) → o.pass.call ≡ Receives e (turn.Taken c (record { follows = f; work = work.Take take_stage.Buffer })) x b msg → first ≡ z.to_host.capacity
      → me.1 ≡ (buffer_slot first e b, Buffer msg) ∷ rest me.1
      → Allows (WordsRule cd desk z) n id me 1 (λ y. y) (λ y me'. TakeHandsBy desk me o e c f x b msg y me' × StepBy cd desk (ReadsAt 1 y) me o (Steps o.pass.number 0 None) me')
  hands n id me o e c f x b first msg call first_at has_slot st (m, p, r₀) wide at _ =
      let h : IsCallOf m p o.pass.number (Receives e (turn.Taken c (record { follows = f; work = work.Take take_stage.Buffer })) x b msg) = subst (IsCallOf m p o.pass.number) call (r₀.turns.calls id o.place o.pass (me.0, at, o.here)) in
      let r = at_zero' st m p e (turn.Taken c (record { follows = f; work = work.Take take_stage.Buffer })) h.1.0 refl r₀ in
      go (is_live_in m.era f) refl h r
    where
      go : (live : Bool) → is_live_in m.era f ≡ live → IsCallOf m 0 o.pass.number (Receives e (turn.Taken c (record { follows = f; work = work.Take take_stage.Buffer })) x b msg) → Shows cd desk z st m 0
          → (w : View) × (a : Act Slot) × Valid st.homes me.1 a × WordsRule cd desk z (stepped st 1 (get_or st.words 1 0) id me.1 w a) × (TakeHandsBy desk me o e c f x b msg (get_or st.words 1 0) (w, carried_after me.1 a) × StepBy cd desk (ReadsAt 1 (get_or st.words 1 0)) me o (Steps o.pass.number 0 None) (w, carried_after me.1 a))
      go true live h r = hands_live n id me o e c f x b first msg call first_at has_slot st m live at h r
      go false dead h r = hands_dead n id me o e c f x b first msg call first_at has_slot st m dead at h r

  -- part 3 of a reclaim of a take that has its buffer out: the buffer comes home with its message, what the caller holds leaves `held`, and the turn is free
  pub ends_take_out : (n id : ℕ) (me : SeatState) (o : Mover me.0) (e : End) (t : Turn Receiving) (x x' : ReceiverSide) (b first : ℕ) (msg : List ℕ) → o.pass.call ≡ EndsReceive e t x b msg → is_manager t ≡ false → receiver_is_out t ≡ true → first ≡ z.to_host.capacity
      → x' ≡ record x { hands = hands_of_others x.hands o.pass.number } → me.1 ≡ (buffer_slot first e b, Buffer msg) ∷ (receiver_slot e, Receiver x') ∷ rest (rest me.1)
      → Allows (WordsRule cd desk z) n id me (receiver_word e) (λ _. 0) (λ _ me'. LeavesEmpty me o (Rests e) (rest (rest me.1)) me' × StepBy cd desk (WritesAt (receiver_word e) 0) me o (EndsCall e o.pass.number) me')
  ends_take_out n id me o e t x x' b first msg call bare outside first_at side_is has_slots st (m, p, r₀) wide at _ =
      let h : IsCallOf m p o.pass.number (EndsReceive e t x b msg) = subst (IsCallOf m p o.pass.number) call (r₀.turns.calls id o.place o.pass (me.0, at, o.here)) in
      let r = at_zero' st m p e t h.1.0 bare r₀ in let s₀ = lane_to m e in let c = o.pass.number in
      let sound : IsSoundRings s₀ = rings_to m e (rings_in r) in let out : receiver_is_out s₀.lane.receiver ≡ true = ap receiver_is_out h.1.0 ∙ outside in let is_b = h.1.3 outside in
      let hd = length s₀.lane.lane.takers in let tk = taking_is s₀ sound out in
      let low : s₀.rings.taking < s₀.rings.sizes.capacity = subst (λ (k : ℕ). k < s₀.rings.sizes.capacity) (sym tk.0)
      (message-below s₀.rings.sizes (length s₀.lane.lane.accepted) hd s₀.lane.lane.returned s₀.rings.forward s₀.rings.returns s₀.rings.hands s₀.rings.aside sound.owned hd (le_refl hd) tk.1) in
      let taken : s₀.rings.taking ≡ b = is_b.0 in let near : b < length (shelf_to r.shelves e) = omega (arith, low, ((buffers_in r) e).long, taken) in
      let has : has_call s₀.lane.receiver c ≡ true = has_of s₀.lane.receiver c (ap holder h.1.0 ∙ h.1.1) (ap is_manager h.1.0 ∙ bare) in
      let freed : Bool → RingState (PlacedDesk kc kz) = λ y. record ((ring_form desk).after_receive_end s₀ c) { lane = record ((ring_form desk).after_receive_end s₀ c).lane { receiver = cond y turn.Free s₀.lane.receiver } } in
      let s' = freed true in let ha = lane_homes s₀ (shelf_to r.shelves e) in let hb = lane_homes (lane_to m (other e)) (shelf_to r.shelves (other e)) in let l' = set (shelf_to r.shelves e) b (some (Buffer msg)) in
      let side : x' ≡ receiver_side s' = side_is ∙ ap (λ (u : ReceiverSide). record u { hands = hands_of_others u.hands c }) h.1.2 in
      let deed = ap (λ (y : Bool). with_lane m e (freed y)) (sym has) ∙ end_receive_deed desk m e c has (no_send desk m e c r.sound has) in let mine = receive_rests m e s' c h.0 refl (no_send desk m e c r.sound has) in (
        _,
        chain gives gives,
        (tt, tt),
        lane_moves_by cd desk z st m r e s₀ s' refl (receiver_word e) 0 id me.1 me.0 o (Rests e) [] (chain gives gives) (EndsCall e c) l' at
            (h.2, h.0)
            deed
            (receiver_turn_set e (era_word m.era) 0 (lane_words s₀) (lane_words (lane_to m (other e))))
            (ap (λ (cs : List (ℕ × Slot)). homes_after (homes_at e ha hb) cs (chain gives gives)) has_slots
            ∙ (ap (λ (hs : List (Option_of Slot)). set hs (receiver_slot e) (some (Receiver x'))) (buffer_set e first b (some (Buffer msg)) ha hb near (first_is cd desk z st m r e first first_at))
            ∙ (receiver_side_set e (some (Receiver x')) (record ha { shelf = l' }) hb
            ∙ ap (λ (u : ReceiverSide). homes_at e (record (lane_homes s₀ l') { receiver = some (Receiver u) }) hb) side)))
            (subst (λ (v : ℕ × List ℕ). HoldsBuffers s' (set (shelf_to r.shelves e) v.0 (some (Buffer v.1)))) (λ i. (taken i, sym is_b.1 i)) (shelved_back s₀ s' (shelf_to r.shelves e) sound out ((buffers_in r) e) refl refl refl refl refl (le_refl hd)))
            mine (λ j l u there apart. others_receive desk m e s' t c h.1.0 h.1.1 bare refl refl refl (λ k _. refl) u.number apart u.call)
            refl refl refl refl (inr (inl refl)) (hands_here m e s' (with_call_and_hands o.pass (Rests e) []) h.0 (hands_none c s₀.lane.lane.held)) (λ u apart. hands_kept desk m e s' u (λ was. hands_others c u.number s₀.lane.lane.held apart ∙ was))
            (keepers_set st.views id me.0 (with_pass me.0 o (with_call_and_hands o.pass (Rests e) []) (Some (copied cd (with_lane m e s')))) o (with_call_and_hands o.pass (Rests e) []) at refl refl (λ i k. absurd (true-false (sym k))) r.turns.keepers)
            (keepers_by desk m (with_lane m e s') (EndsCall e c) deed st.views id me.0 (with_pass me.0 o (with_call_and_hands o.pass (Rests e) []) (Some (copied cd (with_lane m e s')))) o (with_call_and_hands o.pass (Rests e) []) at refl (refl, ((λ i. ap (has_sender_for_manager i) call), λ i. ap (has_for_manager i) call)) r.turns.some_keeper),
        (refl, write_by (receiver_word e) 0 cd desk z st m r id me o (with_call_and_hands o.pass (Rests e) []) (EndsCall e c) (with_lane m e s') (rest (rest me.1)) (receiver_in m e s') at (h.2, h.0) deed mine),
      )
