-- A step of a seat on one lane that is a deed of the ring form keeps the rule.
use Rattle.link_words.proofs.Gathered.{gathered_send}
use Rattle.link_words.specs.declared.codes.DeskTables.{DeskTables}
use Rattle.link_words.specs.PlacedDesks.{PlacedDesk}
use Rattle.link_words.specs.Histories.{NoneOf}
use Rattle.std.proofs.Common.{◌≡◌, ◌≢◌, ℕ, ◌<◌, ◌≤◌, arith, true, false, List, length, set, refl, sym, ap, ◌∙◌, subst, inl, ne_eqb}
use Rattle.std.specs.Prelude.{Option, Some, None}
use mathlib.Core.Option.{some}
use mathlib.Core.Path.{Path}
use mathlib.Core.Option.{Option as Option_of}
use lib.ListN.{get_elem?}
use Rattle.atomic_table.specs.Table.{State, Act, homes_after, stepped}
use Rattle.rp_base.specs.declared.kinds.End.{End}
use Rattle.rp_base.specs.declared.kinds.End.TheVariants as side
use Rattle.lane_model.specs.declared.lane_links.LaneLink.{LaneLink}
use Rattle.lane_model.specs.declared.states.Holding.{Holding}
use Rattle.lane_model.specs.declared.stages.Turn.{Turn}
use Rattle.lane_model.specs.declared.stages.Turn.TheVariants as turn
use Rattle.lane_model.specs.declared.stages.Sending.{Sending}
use base.Stored.{Coded}
use Rattle.link_words.specs.Codes.{copied}
use Rattle.lane_model.specs.Desks.{DeskMeaning}
use Rattle.lane_model.specs.Lanes.{holder, has_call, message_at}
use Rattle.lane_model.specs.Links.{end_of}
use Rattle.ring_core.specs.declared.states.RingSizes.{RingSizes}
use Rattle.ring_core.specs.declared.states.RingState.{RingState}
use Rattle.ring_core.specs.Owners.{receiver_is_out}
use Rattle.link_words.specs.declared.rule.Slot.{Slot}
use Rattle.link_words.specs.declared.rule.SenderSide.{SenderSide}
use Rattle.link_words.specs.declared.rule.LinkSizes.{LinkSizes}
use Rattle.link_words.specs.declared.rule.Call.{Call}
use Rattle.link_words.specs.declared.rule.Call.TheVariants.{Idle, Sends, Rests, Reclaims, EndsHeld, Receives, EndsReceive, EndsSend, EndsBoth, Reopens, Gathers}
use Rattle.link_words.specs.declared.rule.Pass.{Pass}
use Rattle.link_words.specs.declared.rule.View.{View}
use Rattle.rp_base.specs.declared.kinds.Era.{Era}
use Rattle.link_words.specs.Passes.{PassAt, Mover, with_pass, with_call, with_call_and_hands}
use Rattle.link_words.specs.Words.{other, lane_to, with_lane, era_word, lane_words, words_of, words_at, lane_homes, homes_at, homes_of, shelf_to, with_shelf, receiver_side}
use Rattle.link_words.specs.declared.rule.Event.{Event}
use Rattle.link_words.specs.Histories.{IsCurrent, IsOfNow}
use Rattle.link_words.specs.Rule.{IsHistory}
use Rattle.link_words.specs.Deeds.{Deed, after_deed, MayDo, AreManagers, IsSoundState}
use Rattle.link_words.specs.Rule.{HistoryOf, HandsOf, LatestOf, IsCallOf, HasCall, fresh_block, Shows, WordsRule}
use Rattle.link_words.specs.Parts.{AreKeepersApart, HasKeepers, SendsAt, HoldsBuffers}
use Rattle.link_words.specs.Histories.{hands_of}
use Rattle.link_words.proofs.Frames.{some_copy, each_set, numbers_set, keepers_set, manager_set, each_lane, words_seen, homes_seen, same_lane, same_shelf}
use Rattle.link_words.proofs.Books.{history_kept, none_same}
use Rattle.link_words.proofs.Kept.{deed_kept}
use Rattle.link_words.proofs.Quiet.{ended_by}
use Rattle.link_words.proofs.Keepers.{KeepsMinds, keepers_by}
use Rattle.link_words.proofs.Parts.{state_in, told_in, IsAsTold, buffers_in, put_together, one_more}
use Rattle.link_words.specs.Turns.{turns_in, turns_of}

-- the pass in another call, with another list and other numbers in hand
abbrev pub with_step : Pass → Call → List Event → List ℕ → Pass
with_step p call own hands = record p { call = call; own = own; hands = hands }

abbrev option_or_zero : Option ℕ → ℕ
option_or_zero None = 0
option_or_zero (Some n) = n

module _ {B : Type 0} {kc : Coded B} {kz : DeskTables} (desk : DeskMeaning (PlacedDesk kc kz)) where
  -- a turn of another is not this caller's
  pub no_call : {C : Type 0} (t : Turn C) (a k : ℕ) → holder t ≡ Some a → a ≢ k → has_call t k ≡ false
  no_call turn.Free a k held apart = refl
  no_call (turn.Taken c x) a k held apart = ne_eqb c k (λ same. apart (sym (ap (λ (o : Option ℕ). option_or_zero o) held) ∙ same))
  no_call (turn.Leaving c x) a k held apart = ne_eqb c k (λ same. apart (sym (ap (λ (o : Option ℕ). option_or_zero o) held) ∙ same))
  no_call turn.Manager a k held apart = refl

  number_of : Option ℕ → ℕ → ℕ
  number_of None n = n
  number_of (Some k) n = k

  pub still_sender : (m : LaneLink (RingState (PlacedDesk kc kz))) (e : End) → AreManagers m → (lane_to m e).lane.sender ≡ turn.Manager
  still_sender m side.Host still = still.host_sender
  still_sender m side.Remote still = still.remote_sender

  -- two holders of one turn have one number
  pub one_holder : {C : Type 0} (t : Turn C) (a b : ℕ) → holder t ≡ Some a → holder t ≡ Some b → a ≡ b
  unfolding number_of
  one_holder t a b x y = ap (λ (o : Option ℕ). number_of o a) (sym x ∙ y)

  -- the calls of the others, where the sender's end of a lane moves
  pub others_send : (m : LaneLink (RingState (PlacedDesk kc kz))) (e : End) (s : RingState (PlacedDesk kc kz)) (t : Turn Sending) (number : ℕ) → (lane_to m e).lane.sender ≡ t → holder t ≡ Some number
      → (s.lane.receiver ≡ (lane_to m e).lane.receiver) → (receiver_side s ≡ receiver_side (lane_to m e)) → (s.rings.taking ≡ (lane_to m e).rings.taking) → (receiver_is_out (lane_to m e).lane.receiver ≡ true → message_at s.lane.lane.accepted (length s.lane.lane.takers) ≡ message_at (lane_to m e).lane.lane.accepted (length (lane_to m e).lane.lane.takers))
      → ((k : ℕ) → number ≢ k → has_call s.lane.sender k ≡ false)
      → (k : ℕ) → number ≢ k → (call : Call) → IsCallOf m 0 k call → IsCallOf (with_lane m e s) 0 k call
  others_send m side.Host s t number is mine receiver beside taking book after k apart Idle has = has
  others_send m side.Host s t number is mine receiver beside taking book after k apart (Sends side.Host u x buffer) has =
      absurd (apart (one_holder (lane_to m side.Host).lane.sender number k (ap holder is ∙ mine) (ap holder has.1.0 ∙ has.1.1)))
  others_send m side.Host s t number is mine receiver beside taking book after k apart (Sends side.Remote u x buffer) has = has
  others_send m side.Host s t number is mine receiver beside taking book after k apart (Receives side.Host u x buffer msg) has =
      (has.0, (receiver ∙ has.1.0, has.1.1, has.1.2 ∙ sym beside, λ out. let o = has.1.3 out in (taking ∙ o.0, o.1 ∙ sym (book (ap receiver_is_out has.1.0 ∙ out))), has.1.4), has.2)
  others_send m side.Host s t number is mine receiver beside taking book after k apart (EndsReceive side.Host u x buffer msg) has =
      (has.0, (receiver ∙ has.1.0, has.1.1, has.1.2 ∙ sym beside, λ out. let o = has.1.3 out in (taking ∙ o.0, o.1 ∙ sym (book (ap receiver_is_out has.1.0 ∙ out))), has.1.4), has.2)
  others_send m side.Host s t number is mine receiver beside taking book after k apart (Receives side.Remote u x buffer msg) has = has
  others_send m side.Host s t number is mine receiver beside taking book after k apart (EndsReceive side.Remote u x buffer msg) has = has
  others_send m side.Host s t number is mine receiver beside taking book after k apart (EndsSend side.Host u x buffer) has =
      absurd (apart (one_holder (lane_to m side.Host).lane.sender number k (ap holder is ∙ mine) (ap holder has.1.0 ∙ has.1.1)))
  others_send m side.Host s t number is mine receiver beside taking book after k apart (EndsSend side.Remote u x buffer) has = has
  others_send m side.Host s t number is mine receiver beside taking book after k apart (EndsBoth side.Host u x buffer y) has =
      absurd (apart (one_holder (lane_to m side.Host).lane.sender number k (ap holder is ∙ mine) (ap holder has.1.0 ∙ has.1.1)))
  others_send m side.Host s t number is mine receiver beside taking book after k apart (EndsBoth side.Remote u x buffer y) has = (has.0, has.1, has.2, receiver ∙ has.3, has.4 ∙ sym beside, has.5)
  others_send m side.Host s t number is mine receiver beside taking book after k apart (Rests side.Remote) has = (has.0, after k apart, has.2)
  others_send m side.Host s t number is mine receiver beside taking book after k apart (Rests side.Host) has = (has.0, has.1, ap (λ u. has_call u k) receiver ∙ has.2)
  others_send m side.Host s t number is mine receiver beside taking book after k apart (Reclaims side.Host x) has = (has.0, receiver ∙ has.1, has.2 ∙ sym beside, has.3, has.4)
  others_send m side.Host s t number is mine receiver beside taking book after k apart (Reclaims side.Remote x) has = (has.0, has.1, has.2, has.3, after k apart)
  others_send m side.Host s t number is mine receiver beside taking book after k apart (EndsHeld side.Host x) has = (has.0, receiver ∙ has.1, has.2 ∙ sym beside, has.3, has.4, has.5)
  others_send m side.Host s t number is mine receiver beside taking book after k apart (EndsHeld side.Remote x) has = (has.0, has.1, has.2, has.3, has.4, after k apart)
  others_send m side.Host s t number is mine receiver beside taking book after k apart (Reopens p inc a b) has =
      absurd (apart (one_holder (lane_to m side.Host).lane.sender number 64 (ap holder is ∙ mine) (ap holder (still_sender m side.Host has.2.1)) ∙ sym has.0))
  others_send m side.Host s t number is mine receiver beside taking book after k apart (Gathers a b) has = (has.0, has.1, gathered_send (turns_of m.to_host) (turns_of s) a (λ held. apart (one_holder m.to_host.lane.sender number 64 (ap holder is ∙ mine) (ap holder held) ∙ sym has.0)) receiver beside has.2, has.3)
  others_send m side.Remote s t number is mine receiver beside taking book after k apart Idle has = has
  others_send m side.Remote s t number is mine receiver beside taking book after k apart (Sends side.Remote u x buffer) has =
      absurd (apart (one_holder (lane_to m side.Remote).lane.sender number k (ap holder is ∙ mine) (ap holder has.1.0 ∙ has.1.1)))
  others_send m side.Remote s t number is mine receiver beside taking book after k apart (Sends side.Host u x buffer) has = has
  others_send m side.Remote s t number is mine receiver beside taking book after k apart (Receives side.Remote u x buffer msg) has =
      (has.0, (receiver ∙ has.1.0, has.1.1, has.1.2 ∙ sym beside, λ out. let o = has.1.3 out in (taking ∙ o.0, o.1 ∙ sym (book (ap receiver_is_out has.1.0 ∙ out))), has.1.4), has.2)
  others_send m side.Remote s t number is mine receiver beside taking book after k apart (EndsReceive side.Remote u x buffer msg) has =
      (has.0, (receiver ∙ has.1.0, has.1.1, has.1.2 ∙ sym beside, λ out. let o = has.1.3 out in (taking ∙ o.0, o.1 ∙ sym (book (ap receiver_is_out has.1.0 ∙ out))), has.1.4), has.2)
  others_send m side.Remote s t number is mine receiver beside taking book after k apart (Receives side.Host u x buffer msg) has = has
  others_send m side.Remote s t number is mine receiver beside taking book after k apart (EndsReceive side.Host u x buffer msg) has = has
  others_send m side.Remote s t number is mine receiver beside taking book after k apart (EndsSend side.Remote u x buffer) has =
      absurd (apart (one_holder (lane_to m side.Remote).lane.sender number k (ap holder is ∙ mine) (ap holder has.1.0 ∙ has.1.1)))
  others_send m side.Remote s t number is mine receiver beside taking book after k apart (EndsSend side.Host u x buffer) has = has
  others_send m side.Remote s t number is mine receiver beside taking book after k apart (EndsBoth side.Remote u x buffer y) has =
      absurd (apart (one_holder (lane_to m side.Remote).lane.sender number k (ap holder is ∙ mine) (ap holder has.1.0 ∙ has.1.1)))
  others_send m side.Remote s t number is mine receiver beside taking book after k apart (EndsBoth side.Host u x buffer y) has = (has.0, has.1, has.2, receiver ∙ has.3, has.4 ∙ sym beside, has.5)
  others_send m side.Remote s t number is mine receiver beside taking book after k apart (Rests side.Host) has = (has.0, after k apart, has.2)
  others_send m side.Remote s t number is mine receiver beside taking book after k apart (Rests side.Remote) has = (has.0, has.1, ap (λ u. has_call u k) receiver ∙ has.2)
  others_send m side.Remote s t number is mine receiver beside taking book after k apart (Reclaims side.Remote x) has = (has.0, receiver ∙ has.1, has.2 ∙ sym beside, has.3, has.4)
  others_send m side.Remote s t number is mine receiver beside taking book after k apart (Reclaims side.Host x) has = (has.0, has.1, has.2, has.3, after k apart)
  others_send m side.Remote s t number is mine receiver beside taking book after k apart (EndsHeld side.Remote x) has = (has.0, receiver ∙ has.1, has.2 ∙ sym beside, has.3, has.4, has.5)
  others_send m side.Remote s t number is mine receiver beside taking book after k apart (EndsHeld side.Host x) has = (has.0, has.1, has.2, has.3, has.4, after k apart)
  others_send m side.Remote s t number is mine receiver beside taking book after k apart (Reopens p inc a b) has =
      absurd (apart (one_holder (lane_to m side.Remote).lane.sender number 64 (ap holder is ∙ mine) (ap holder (still_sender m side.Remote has.2.1)) ∙ sym has.0))
  others_send m side.Remote s t number is mine receiver beside taking book after k apart (Gathers a b) has = (has.0, has.1, has.2, gathered_send (turns_of m.to_remote) (turns_of s) b (λ held. apart (one_holder m.to_remote.lane.sender number 64 (ap holder is ∙ mine) (ap holder held) ∙ sym has.0)) receiver beside has.3)

  free_none : (k : ℕ) (u : Turn Sending) → turn.Free ≡ u → holder u ≡ Some k → ⊥
  free_none k u is held = none_some k (ap holder is ∙ held)
    where
      none_some : (n : ℕ) → None ≡ Some n → ⊥
      none_some n e = absurd (cc)

  free_not : Path (Turn Sending) turn.Free turn.Manager → ⊥
  free_not is = free_none 64 turn.Manager is refl

  -- the calls of the others, where the sender's end of a lane moves
  pub others_free_send : (m : LaneLink (RingState (PlacedDesk kc kz))) (e : End) (s : RingState (PlacedDesk kc kz)) → (lane_to m e).lane.sender ≡ turn.Free
      → (s.lane.receiver ≡ (lane_to m e).lane.receiver) → (receiver_side s ≡ receiver_side (lane_to m e)) → (s.rings.taking ≡ (lane_to m e).rings.taking) → (receiver_is_out (lane_to m e).lane.receiver ≡ true → message_at s.lane.lane.accepted (length s.lane.lane.takers) ≡ message_at (lane_to m e).lane.lane.accepted (length (lane_to m e).lane.lane.takers))
      → (k : ℕ) → has_call s.lane.sender k ≡ false → (call : Call) → IsCallOf m 0 k call → IsCallOf (with_lane m e s) 0 k call
  others_free_send m side.Host s free receiver beside taking book k after Idle has = has
  others_free_send m side.Host s free receiver beside taking book k after (Sends side.Host u x buffer) has =
      absurd (free_none k u (sym free ∙ has.1.0) has.1.1)
  others_free_send m side.Host s free receiver beside taking book k after (Sends side.Remote u x buffer) has = has
  others_free_send m side.Host s free receiver beside taking book k after (Receives side.Host u x buffer msg) has =
      (has.0, (receiver ∙ has.1.0, has.1.1, has.1.2 ∙ sym beside, λ out. let o = has.1.3 out in (taking ∙ o.0, o.1 ∙ sym (book (ap receiver_is_out has.1.0 ∙ out))), has.1.4), has.2)
  others_free_send m side.Host s free receiver beside taking book k after (EndsReceive side.Host u x buffer msg) has =
      (has.0, (receiver ∙ has.1.0, has.1.1, has.1.2 ∙ sym beside, λ out. let o = has.1.3 out in (taking ∙ o.0, o.1 ∙ sym (book (ap receiver_is_out has.1.0 ∙ out))), has.1.4), has.2)
  others_free_send m side.Host s free receiver beside taking book k after (Receives side.Remote u x buffer msg) has = has
  others_free_send m side.Host s free receiver beside taking book k after (EndsReceive side.Remote u x buffer msg) has = has
  others_free_send m side.Host s free receiver beside taking book k after (EndsSend side.Host u x buffer) has =
      absurd (free_none k u (sym free ∙ has.1.0) has.1.1)
  others_free_send m side.Host s free receiver beside taking book k after (EndsSend side.Remote u x buffer) has = has
  others_free_send m side.Host s free receiver beside taking book k after (EndsBoth side.Host u x buffer y) has =
      absurd (free_none k u (sym free ∙ has.1.0) has.1.1)
  others_free_send m side.Host s free receiver beside taking book k after (EndsBoth side.Remote u x buffer y) has = (has.0, has.1, has.2, receiver ∙ has.3, has.4 ∙ sym beside, has.5)
  others_free_send m side.Host s free receiver beside taking book k after (Rests side.Remote) has = (has.0, after, has.2)
  others_free_send m side.Host s free receiver beside taking book k after (Rests side.Host) has = (has.0, has.1, ap (λ u. has_call u k) receiver ∙ has.2)
  others_free_send m side.Host s free receiver beside taking book k after (Reclaims side.Host x) has = (has.0, receiver ∙ has.1, has.2 ∙ sym beside, has.3, has.4)
  others_free_send m side.Host s free receiver beside taking book k after (Reclaims side.Remote x) has = (has.0, has.1, has.2, has.3, after)
  others_free_send m side.Host s free receiver beside taking book k after (EndsHeld side.Host x) has = (has.0, receiver ∙ has.1, has.2 ∙ sym beside, has.3, has.4, has.5)
  others_free_send m side.Host s free receiver beside taking book k after (EndsHeld side.Remote x) has = (has.0, has.1, has.2, has.3, has.4, after)
  others_free_send m side.Host s free receiver beside taking book k after (Reopens p inc a b) has =
      absurd (free_not (sym free ∙ still_sender m side.Host has.2.1))
  others_free_send m side.Host s free receiver beside taking book k after (Gathers a b) has = (has.0, has.1, gathered_send (turns_of m.to_host) (turns_of s) a (λ held. free_not (sym free ∙ held)) receiver beside has.2, has.3)
  others_free_send m side.Remote s free receiver beside taking book k after Idle has = has
  others_free_send m side.Remote s free receiver beside taking book k after (Sends side.Remote u x buffer) has =
      absurd (free_none k u (sym free ∙ has.1.0) has.1.1)
  others_free_send m side.Remote s free receiver beside taking book k after (Sends side.Host u x buffer) has = has
  others_free_send m side.Remote s free receiver beside taking book k after (Receives side.Remote u x buffer msg) has =
      (has.0, (receiver ∙ has.1.0, has.1.1, has.1.2 ∙ sym beside, λ out. let o = has.1.3 out in (taking ∙ o.0, o.1 ∙ sym (book (ap receiver_is_out has.1.0 ∙ out))), has.1.4), has.2)
  others_free_send m side.Remote s free receiver beside taking book k after (EndsReceive side.Remote u x buffer msg) has =
      (has.0, (receiver ∙ has.1.0, has.1.1, has.1.2 ∙ sym beside, λ out. let o = has.1.3 out in (taking ∙ o.0, o.1 ∙ sym (book (ap receiver_is_out has.1.0 ∙ out))), has.1.4), has.2)
  others_free_send m side.Remote s free receiver beside taking book k after (Receives side.Host u x buffer msg) has = has
  others_free_send m side.Remote s free receiver beside taking book k after (EndsReceive side.Host u x buffer msg) has = has
  others_free_send m side.Remote s free receiver beside taking book k after (EndsSend side.Remote u x buffer) has =
      absurd (free_none k u (sym free ∙ has.1.0) has.1.1)
  others_free_send m side.Remote s free receiver beside taking book k after (EndsSend side.Host u x buffer) has = has
  others_free_send m side.Remote s free receiver beside taking book k after (EndsBoth side.Remote u x buffer y) has =
      absurd (free_none k u (sym free ∙ has.1.0) has.1.1)
  others_free_send m side.Remote s free receiver beside taking book k after (EndsBoth side.Host u x buffer y) has = (has.0, has.1, has.2, receiver ∙ has.3, has.4 ∙ sym beside, has.5)
  others_free_send m side.Remote s free receiver beside taking book k after (Rests side.Host) has = (has.0, after, has.2)
  others_free_send m side.Remote s free receiver beside taking book k after (Rests side.Remote) has = (has.0, has.1, ap (λ u. has_call u k) receiver ∙ has.2)
  others_free_send m side.Remote s free receiver beside taking book k after (Reclaims side.Remote x) has = (has.0, receiver ∙ has.1, has.2 ∙ sym beside, has.3, has.4)
  others_free_send m side.Remote s free receiver beside taking book k after (Reclaims side.Host x) has = (has.0, has.1, has.2, has.3, after)
  others_free_send m side.Remote s free receiver beside taking book k after (EndsHeld side.Remote x) has = (has.0, receiver ∙ has.1, has.2 ∙ sym beside, has.3, has.4, has.5)
  others_free_send m side.Remote s free receiver beside taking book k after (EndsHeld side.Host x) has = (has.0, has.1, has.2, has.3, has.4, after)
  others_free_send m side.Remote s free receiver beside taking book k after (Reopens p inc a b) has =
      absurd (free_not (sym free ∙ still_sender m side.Remote has.2.1))
  others_free_send m side.Remote s free receiver beside taking book k after (Gathers a b) has = (has.0, has.1, has.2, gathered_send (turns_of m.to_remote) (turns_of s) b (λ held. free_not (sym free ∙ held)) receiver beside has.3)

  -- the mover's call, by the lane
  pub here_sends : (m : LaneLink (RingState (PlacedDesk kc kz))) (e : End) (s : RingState (PlacedDesk kc kz)) (number : ℕ) (t : Turn Sending) (x : SenderSide) (buffer : ℕ) → end_of m.callers number ≡ Some (other e) → SendsAt (turns_of s) number t x buffer → IsCurrent t m.era.inc
      → IsCallOf (with_lane m e s) 0 number (Sends e t x buffer)
  here_sends m side.Host s number t x buffer user at now = (user, at, now)
  here_sends m side.Remote s number t x buffer user at now = (user, at, now)

  sizes_after : (z : LinkSizes) (m : LaneLink (RingState (PlacedDesk kc kz))) (e : End) (s : RingState (PlacedDesk kc kz)) → Path (RingSizes × ℕ) (s.rings.sizes, s.lane.lane.book) ((lane_to m e).rings.sizes, (lane_to m e).lane.lane.book) → IsAsTold z m → IsAsTold z (with_lane m e s)
  sizes_after z m side.Host s same old = ((ap (λ (t : RingSizes × ℕ). t.0) same ∙ old.0.0, old.0.1), (ap (λ (t : RingSizes × ℕ). t.1) same ∙ old.1.0, old.1.1))
  sizes_after z m side.Remote s same old = ((old.0.0, ap (λ (t : RingSizes × ℕ). t.0) same ∙ old.0.1), (old.1.0, ap (λ (t : RingSizes × ℕ). t.1) same ∙ old.1.1))

  -- the callers and the era, where one lane changes
  callers_same : (m : LaneLink (RingState (PlacedDesk kc kz))) (e : End) (s : RingState (PlacedDesk kc kz)) → (with_lane m e s).callers ≡ m.callers
  callers_same m side.Host s = refl
  callers_same m side.Remote s = refl

  era_same : (m : LaneLink (RingState (PlacedDesk kc kz))) (e : End) (s : RingState (PlacedDesk kc kz)) → (with_lane m e s).era ≡ m.era
  era_same m side.Host s = refl
  era_same m side.Remote s = refl

  -- hands, where a lane has what the caller holds as it was
  pub hands_kept : (m : LaneLink (RingState (PlacedDesk kc kz))) (e : End) (s : RingState (PlacedDesk kc kz)) (q : Pass) → (hands_of q.number (lane_to m e).lane.lane.held ≡ q.hands → hands_of q.number s.lane.lane.held ≡ q.hands) → HandsOf m q → HandsOf (with_lane m e s) q
  hands_kept m side.Host s q stays has side.Host user = stays (has side.Host user)
  hands_kept m side.Host s q stays has side.Remote user = has side.Remote user
  hands_kept m side.Remote s q stays has side.Host user = has side.Host user
  hands_kept m side.Remote s q stays has side.Remote user = stays (has side.Remote user)

module _ {B : Type 0} {kc : Coded B} {kz : DeskTables} (cd : Coded (PlacedDesk kc kz)) (desk : DeskMeaning (PlacedDesk kc kz)) where
  -- the table after a step on one lane is the one that the ring form shows after the deed
  pub lane_moves_with : (z : LinkSizes) (st : State Slot View) (m : LaneLink (RingState (PlacedDesk kc kz))) (r : Shows cd desk z st m 0) (e : End) (s s' : RingState (PlacedDesk kc kz)) → lane_to m e ≡ s
      → (i n id : ℕ) (cs : List (ℕ × Slot)) (v : View) (o : Mover v) (w : Pass) (a : Act Slot) (d : Deed) (l' : List (Option_of Slot)) → get_elem? st.views id ≡ some v
      → MayDo desk m d → with_lane m e s' ≡ after_deed desk m d
      → set (words_at e (era_word m.era) (lane_words s) (lane_words (lane_to m (other e)))) i n ≡ words_at e (era_word m.era) (lane_words s') (lane_words (lane_to m (other e)))
      → homes_after (homes_at e (lane_homes s (shelf_to r.shelves e)) (lane_homes (lane_to m (other e)) (shelf_to r.shelves (other e)))) cs a ≡ homes_at e (lane_homes s' l') (lane_homes (lane_to m (other e)) (shelf_to r.shelves (other e)))
      → HoldsBuffers s' l' → IsCallOf (with_lane m e s') 0 w.number w.call → ((j l : ℕ) (q : Pass) → PassAt st.views j l q → o.pass.number ≢ q.number → IsCallOf m 0 q.number q.call → IsCallOf (with_lane m e s') 0 q.number q.call)
      → w.number ≡ o.pass.number → Path (RingSizes × ℕ) (s'.rings.sizes, s'.lane.lane.book) (s.rings.sizes, s.lane.lane.book)
      → HistoryOf (with_lane m e s') w → ((q : Pass) → o.pass.number ≢ q.number → HistoryOf m q → HistoryOf (with_lane m e s') q)
      → IsOfNow m.era.inc w.number w.hands w.own → HandsOf (with_lane m e s') w → ((q : Pass) → o.pass.number ≢ q.number → HandsOf m q → HandsOf (with_lane m e s') q) → ((n : ℕ) → end_of m.callers n ≡ None → NoneOf m n → NoneOf (with_lane m e s') n) → AreKeepersApart (set st.views id (with_pass v o w (Some (copied cd (with_lane m e s'))))) → HasKeepers (turns_in (with_lane m e s')) (set st.views id (with_pass v o w (Some (copied cd (with_lane m e s')))))
      → WordsRule cd desk z (stepped st i n id cs (with_pass v o w (Some (copied cd (with_lane m e s')))) a)
  lane_moves_with z st m r e s s' is i n id cs v o w a d l' at may deed words homes shelved mine others number sizes history histories latest hand hands fresh keepers some_keeper =
      let each = each_set st.views id v (with_pass v o w (Some (copied cd (with_lane m e s')))) o w at refl in
      let kept = ended_by desk m (with_lane m e s') d deed (λ shut. ap (λ (x : Era). x.is_live) (era_same desk m e s') ∙ shut) in (
        with_lane m e s',
        0,
        put_together (ap (λ (ws : List ℕ). set ws i n)
            (r.words_are ∙ (ap (λ (x : LaneLink (RingState (PlacedDesk kc kz))). words_of 0 (fresh_block desk m) x) (sym (same_lane m e)) ∙ (words_seen (fresh_block desk m) m e (lane_to m e)
            ∙ ap (λ (x : RingState (PlacedDesk kc kz)). words_at e (era_word m.era) (lane_words x) (lane_words (lane_to m (other e)))) is)))
            ∙ (words ∙ sym (words_seen (fresh_block desk (with_lane m e s')) m e s')))
            (with_shelf r.shelves e l') (ap (λ (hs : List (Option_of Slot)). homes_after hs cs a)
            (r.homes_are ∙ ((λ k. homes_of (sym (same_lane m e) k) (sym (same_shelf r.shelves e) k)) ∙ (homes_seen m r.shelves e (lane_to m e) (shelf_to r.shelves e)
            ∙ ap (λ (x : RingState (PlacedDesk kc kz)). homes_at e (lane_homes x (shelf_to r.shelves e)) (lane_homes (lane_to m (other e)) (shelf_to r.shelves (other e)))) is)))
            ∙ (homes ∙ sym (homes_seen m r.shelves e s' l')))
            (subst (IsSoundState desk) (sym deed) (deed_kept desk m d may (state_in r))) (sizes_after desk z m e s' (sizes ∙ ap (λ (x : RingState (PlacedDesk kc kz)). (x.rings.sizes, x.lane.lane.book)) (sym is)) (told_in r)) (each_lane (λ _. HoldsBuffers) m r.shelves e s' l' shelved ((buffers_in r) (other e))) (one_more desk m _ d r.reached may deed)
            (record {
              calls = each (HasCall m 0) (HasCall (with_lane m e s') 0) r.numbers.places r.turns.calls others mine;
              keepers = keepers;
              some_keeper = some_keeper;
              still = inl refl;
            })
            (record {
              own = each (HistoryOf m) (HistoryOf (with_lane m e s')) r.numbers.places r.histories.own (λ j l q there. histories q) history;
              hands = each (HandsOf m) (HandsOf (with_lane m e s')) r.numbers.places r.histories.hands (λ j l q there. hands q) hand;
              latest = each (LatestOf m) (LatestOf (with_lane m e s')) r.numbers.places r.histories.latest (λ j l q there apart had. subst (λ (x : Era). IsOfNow x.inc q.number q.hands q.own) (sym (era_same desk m e s')) had) (subst (λ (x : Era). IsOfNow x.inc w.number w.hands w.own) (sym (era_same desk m e s')) latest);
            })
            (record {
              places = numbers_set st.views id v (with_pass v o w (Some (copied cd (with_lane m e s')))) o w at refl number r.numbers.places;
              manager = manager_set st.views id v (with_pass v o w (Some (copied cd (with_lane m e s')))) o w at refl cd m (with_lane m e s') number (callers_same desk m e s') refl refl (λ old. old ∙ ap (λ (x : Era). x.inc) (sym (era_same desk m e s'))) (λ j y apart there manages. ap (λ (x : Era). x.inc) (era_same desk m e s'))
                  (λ n none was not. fresh n none (was not)) (λ n none Q was not. fresh n none (was not))
                  (λ old shut. ap (λ (x : Era). x.is_live) (era_same desk m e s') ∙ old shut) (λ j y apart there manages old. ap (λ (x : Era). x.is_live) (era_same desk m e s') ∙ old) (λ k same _. sym (some_copy (copied cd (with_lane m e s')) k same))
                  (λ old i p has. kept p (old i p has)) (λ j y apart there manages. kept) r.numbers.manager;
              many = ap length (callers_same desk m e s') ∙ r.numbers.many;
              short = subst (λ (x : Era). x.inc < 4294967296) (sym (era_same desk m e s')) r.numbers.short;
            }),
      )

  -- the same, where nothing is accepted or handed over, and the mover's list becomes this one
  pub lane_moves_noting : (z : LinkSizes) (st : State Slot View) (m : LaneLink (RingState (PlacedDesk kc kz))) (r : Shows cd desk z st m 0) (e : End) (s s' : RingState (PlacedDesk kc kz)) → lane_to m e ≡ s
      → (i n id : ℕ) (cs : List (ℕ × Slot)) (v : View) (o : Mover v) (call : Call) (own : List Event) (hands : List ℕ) (a : Act Slot) (d : Deed) (l' : List (Option_of Slot)) → get_elem? st.views id ≡ some v
      → MayDo desk m d → with_lane m e s' ≡ after_deed desk m d
      → set (words_at e (era_word m.era) (lane_words s) (lane_words (lane_to m (other e)))) i n ≡ words_at e (era_word m.era) (lane_words s') (lane_words (lane_to m (other e)))
      → homes_after (homes_at e (lane_homes s (shelf_to r.shelves e)) (lane_homes (lane_to m (other e)) (shelf_to r.shelves (other e)))) cs a ≡ homes_at e (lane_homes s' l') (lane_homes (lane_to m (other e)) (shelf_to r.shelves (other e)))
      → HoldsBuffers s' l' → IsCallOf (with_lane m e s') 0 o.pass.number call → ((j l : ℕ) (q : Pass) → PassAt st.views j l q → o.pass.number ≢ q.number → IsCallOf m 0 q.number q.call → IsCallOf (with_lane m e s') 0 q.number q.call)
      → Path (RingSizes × ℕ) (s'.rings.sizes, s'.lane.lane.book) (s.rings.sizes, s.lane.lane.book) → s'.lane.lane.accepted ≡ s.lane.lane.accepted → s'.lane.lane.takers ≡ s.lane.lane.takers → s.lane.lane.returned ≤ s'.lane.lane.returned
      → IsHistory (with_lane m e s') o.pass.number o.pass.first own → IsOfNow m.era.inc o.pass.number hands own
      → HandsOf (with_lane m e s') (with_step o.pass call own hands) → ((q : Pass) → o.pass.number ≢ q.number → HandsOf m q → HandsOf (with_lane m e s') q) → AreKeepersApart (set st.views id (with_pass v o (with_step o.pass call own hands) (Some (copied cd (with_lane m e s'))))) → HasKeepers (turns_in (with_lane m e s')) (set st.views id (with_pass v o (with_step o.pass call own hands) (Some (copied cd (with_lane m e s')))))
      → WordsRule cd desk z (stepped st i n id cs (with_pass v o (with_step o.pass call own hands) (Some (copied cd (with_lane m e s')))) a)
  lane_moves_noting z st m r e s s' is i n id cs v o call own hands a d l' at may deed words homes shelved mine others sizes book handed back history latest hand others_hands keepers some_keeper =
      let books : s'.lane.lane.accepted ≡ (lane_to m e).lane.lane.accepted = book ∙ ap (λ (x : RingState (PlacedDesk kc kz)). x.lane.lane.accepted) (sym is) in
      let takers : s'.lane.lane.takers ≡ (lane_to m e).lane.lane.takers = handed ∙ ap (λ (x : RingState (PlacedDesk kc kz)). x.lane.lane.takers) (sym is) in
      lane_moves_with z st m r e s s' is i n id cs v o (with_step o.pass call own hands) a d l' at may deed words homes shelved mine others refl sizes history
      (λ q apart has. history_kept m e s' books takers (subst (λ (x : RingState (PlacedDesk kc kz)). x.lane.lane.returned ≤ s'.lane.lane.returned) (sym is) back) q.number q.first q.own has) latest hand others_hands (λ n none. none_same m e s' books takers n) keepers some_keeper

  -- a history on a lane that is as it was, but that buffers may be back
  history_stays : (m : LaneLink (RingState (PlacedDesk kc kz))) (e : End) (s s' : RingState (PlacedDesk kc kz)) → lane_to m e ≡ s → s'.lane.lane.accepted ≡ s.lane.lane.accepted → s'.lane.lane.takers ≡ s.lane.lane.takers → s.lane.lane.returned ≤ s'.lane.lane.returned
      → (number first : ℕ) (own : List Event) → IsHistory m number first own → IsHistory (with_lane m e s') number first own
  history_stays m e s s' is book handed back number first own has =
      history_kept m e s' (book ∙ ap (λ (x : RingState (PlacedDesk kc kz)). x.lane.lane.accepted) (sym is)) (handed ∙ ap (λ (x : RingState (PlacedDesk kc kz)). x.lane.lane.takers) (sym is))
      (subst (λ (x : RingState (PlacedDesk kc kz)). x.lane.lane.returned ≤ s'.lane.lane.returned) (sym is) back) number first own has

  -- the same, where no step is of the own list
  pub lane_moves_by : (z : LinkSizes) (st : State Slot View) (m : LaneLink (RingState (PlacedDesk kc kz))) (r : Shows cd desk z st m 0) (e : End) (s s' : RingState (PlacedDesk kc kz)) → lane_to m e ≡ s
      → (i n id : ℕ) (cs : List (ℕ × Slot)) (v : View) (o : Mover v) (call : Call) (hands : List ℕ) (a : Act Slot) (d : Deed) (l' : List (Option_of Slot)) → get_elem? st.views id ≡ some v
      → MayDo desk m d → with_lane m e s' ≡ after_deed desk m d
      → set (words_at e (era_word m.era) (lane_words s) (lane_words (lane_to m (other e)))) i n ≡ words_at e (era_word m.era) (lane_words s') (lane_words (lane_to m (other e)))
      → homes_after (homes_at e (lane_homes s (shelf_to r.shelves e)) (lane_homes (lane_to m (other e)) (shelf_to r.shelves (other e)))) cs a ≡ homes_at e (lane_homes s' l') (lane_homes (lane_to m (other e)) (shelf_to r.shelves (other e)))
      → HoldsBuffers s' l' → IsCallOf (with_lane m e s') 0 o.pass.number call → ((j l : ℕ) (q : Pass) → PassAt st.views j l q → o.pass.number ≢ q.number → IsCallOf m 0 q.number q.call → IsCallOf (with_lane m e s') 0 q.number q.call)
      → Path (RingSizes × ℕ) (s'.rings.sizes, s'.lane.lane.book) (s.rings.sizes, s.lane.lane.book) → s'.lane.lane.accepted ≡ s.lane.lane.accepted → s'.lane.lane.takers ≡ s.lane.lane.takers → s'.lane.lane.returned ≡ s.lane.lane.returned → IsOfNow m.era.inc o.pass.number hands o.pass.own
      → HandsOf (with_lane m e s') (with_call_and_hands o.pass call hands) → ((q : Pass) → o.pass.number ≢ q.number → HandsOf m q → HandsOf (with_lane m e s') q) → AreKeepersApart (set st.views id (with_pass v o (with_call_and_hands o.pass call hands) (Some (copied cd (with_lane m e s'))))) → HasKeepers (turns_in (with_lane m e s')) (set st.views id (with_pass v o (with_call_and_hands o.pass call hands) (Some (copied cd (with_lane m e s')))))
      → WordsRule cd desk z (stepped st i n id cs (with_pass v o (with_call_and_hands o.pass call hands) (Some (copied cd (with_lane m e s')))) a)
  lane_moves_by z st m r e s s' is i n id cs v o call hands a d l' at may deed words homes shelved mine others sizes book handed back latest hand others_hands keepers some_keeper =
      let least : s.lane.lane.returned ≤ s'.lane.lane.returned = omega (arith, back) in
      lane_moves_noting z st m r e s s' is i n id cs v o call o.pass.own hands a d l' at may deed words homes shelved mine others sizes book handed least
      (history_stays m e s s' is book handed least o.pass.number o.pass.first o.pass.own (r.histories.own id o.place o.pass (v, at, o.here))) latest hand others_hands keepers some_keeper

  -- by numbers, where nothing is accepted, comes into a hand or leaves it, and the mover's list becomes this one
  pub lane_looks : (z : LinkSizes) (st : State Slot View) (m : LaneLink (RingState (PlacedDesk kc kz))) (r : Shows cd desk z st m 0) (e : End) (s s' : RingState (PlacedDesk kc kz)) → lane_to m e ≡ s
      → (i n id : ℕ) (cs : List (ℕ × Slot)) (v : View) (o : Mover v) (call : Call) (own : List Event) (a : Act Slot) (d : Deed) (l' : List (Option_of Slot)) → get_elem? st.views id ≡ some v
      → MayDo desk m d → with_lane m e s' ≡ after_deed desk m d
      → set (words_at e (era_word m.era) (lane_words s) (lane_words (lane_to m (other e)))) i n ≡ words_at e (era_word m.era) (lane_words s') (lane_words (lane_to m (other e)))
      → homes_after (homes_at e (lane_homes s (shelf_to r.shelves e)) (lane_homes (lane_to m (other e)) (shelf_to r.shelves (other e)))) cs a ≡ homes_at e (lane_homes s' l') (lane_homes (lane_to m (other e)) (shelf_to r.shelves (other e)))
      → HoldsBuffers s' l' → IsCallOf (with_lane m e s') 0 o.pass.number call → ((k : ℕ) → o.pass.number ≢ k → (c : Call) → IsCallOf m 0 k c → IsCallOf (with_lane m e s') 0 k c)
      → Path (RingSizes × ℕ) (s'.rings.sizes, s'.lane.lane.book) (s.rings.sizes, s.lane.lane.book) → s'.lane.lane.accepted ≡ s.lane.lane.accepted → s'.lane.lane.takers ≡ s.lane.lane.takers → Path (List Holding × ℕ) (s'.lane.lane.held, s'.lane.lane.returned) (s.lane.lane.held, s.lane.lane.returned) → IsHistory (with_lane m e s') o.pass.number o.pass.first own → IsOfNow m.era.inc o.pass.number o.pass.hands own → KeepsMinds d o.pass.call call
      → WordsRule cd desk z (stepped st i n id cs (with_pass v o (with_step o.pass call own o.pass.hands) (Some (copied cd (with_lane m e s')))) a)
  lane_looks z st m r e s s' is i n id cs v o call own a d l' at may deed words homes shelved mine others sizes book handed still history latest minds =
      let stays = λ (q : Pass) (has : HandsOf m q). hands_kept desk m e s' q (λ was. ap (hands_of q.number) (ap (λ (t : List Holding × ℕ). t.0) still ∙ ap (λ (x : RingState (PlacedDesk kc kz)). x.lane.lane.held) (sym is)) ∙ was) has in
      let back = ap (λ (t : List Holding × ℕ). t.1) still in
      lane_moves_noting z st m r e s s' is i n id cs v o call own o.pass.hands a d l' at may deed words homes shelved mine (λ j l q there apart has. others q.number apart q.call has) sizes book handed (omega (arith, back)) history latest
      (stays o.pass (r.histories.hands id o.place o.pass (v, at, o.here))) (λ q apart. stays q)
      (keepers_set st.views id v (with_pass v o (with_step o.pass call own o.pass.hands) (Some (copied cd (with_lane m e s')))) o (with_step o.pass call own o.pass.hands) at refl refl (λ i k. minds.1.1 i ∙ k) r.turns.keepers)
      (keepers_by desk m (with_lane m e s') d deed st.views id v (with_pass v o (with_step o.pass call own o.pass.hands) (Some (copied cd (with_lane m e s')))) o (with_step o.pass call own o.pass.hands) at refl minds r.turns.some_keeper)

  -- by numbers, where nothing is accepted, no step is of the own list and nothing comes into a hand or leaves it
  pub lane_moves : (z : LinkSizes) (st : State Slot View) (m : LaneLink (RingState (PlacedDesk kc kz))) (r : Shows cd desk z st m 0) (e : End) (s s' : RingState (PlacedDesk kc kz)) → lane_to m e ≡ s
      → (i n id : ℕ) (cs : List (ℕ × Slot)) (v : View) (o : Mover v) (call : Call) (a : Act Slot) (d : Deed) (l' : List (Option_of Slot)) → get_elem? st.views id ≡ some v
      → MayDo desk m d → with_lane m e s' ≡ after_deed desk m d
      → set (words_at e (era_word m.era) (lane_words s) (lane_words (lane_to m (other e)))) i n ≡ words_at e (era_word m.era) (lane_words s') (lane_words (lane_to m (other e)))
      → homes_after (homes_at e (lane_homes s (shelf_to r.shelves e)) (lane_homes (lane_to m (other e)) (shelf_to r.shelves (other e)))) cs a ≡ homes_at e (lane_homes s' l') (lane_homes (lane_to m (other e)) (shelf_to r.shelves (other e)))
      → HoldsBuffers s' l' → IsCallOf (with_lane m e s') 0 o.pass.number call → ((k : ℕ) → o.pass.number ≢ k → (c : Call) → IsCallOf m 0 k c → IsCallOf (with_lane m e s') 0 k c)
      → Path (RingSizes × ℕ) (s'.rings.sizes, s'.lane.lane.book) (s.rings.sizes, s.lane.lane.book) → s'.lane.lane.accepted ≡ s.lane.lane.accepted → s'.lane.lane.takers ≡ s.lane.lane.takers → Path (List Holding × ℕ) (s'.lane.lane.held, s'.lane.lane.returned) (s.lane.lane.held, s.lane.lane.returned) → KeepsMinds d o.pass.call call
      → WordsRule cd desk z (stepped st i n id cs (with_pass v o (with_call o.pass call) (Some (copied cd (with_lane m e s')))) a)
  lane_moves z st m r e s s' is i n id cs v o call a d l' at may deed words homes shelved mine others sizes book handed still minds =
      let back = ap (λ (t : List Holding × ℕ). t.1) still in
      lane_looks z st m r e s s' is i n id cs v o call o.pass.own a d l' at may deed words homes shelved mine others sizes book handed still
      (history_stays m e s s' is book handed (omega (arith, back)) o.pass.number o.pass.first o.pass.own (r.histories.own id o.place o.pass (v, at, o.here))) (r.histories.latest id o.place o.pass (v, at, o.here)) minds
