-- In a closed incarnation no change of the ring form adds to what the books say of a pass that was reclaimed in it.
use Rattle.std.proofs.Common.{◌≡◌, ◌≢◌, ℕ, zero, suc, ◌≤◌, ◌+◌, ◌&&◌, Bool, true, false, cond, eqb, eq-eqb, List, [], ◌∷◌, ◌++◌, length, length-append, refl, sym, ap, ◌∙◌, subst, arith}
use Rattle.std.specs.Prelude.{Option, Some, None, slice_set}
use mathlib.Core.Option.{some, some-injective}
use lib.ListN.{get_elem?}
use Rattle.rp_base.specs.declared.kinds.End.{End}
use Rattle.rp_base.specs.declared.kinds.End.TheVariants as side
use Rattle.rp_base.specs.declared.kinds.Era.{Era}
use Rattle.lane_model.specs.declared.calls.CallEnd.TheVariants as end
use Rattle.lane_model.specs.declared.calls.Wish.{Wish}
use Rattle.lane_model.specs.declared.calls.Wish.TheVariants as wish
use Rattle.lane_model.specs.declared.lane_links.LaneLink.{LaneLink}
use Rattle.lane_model.specs.declared.recoveries.LaneTurn.TheVariants as lane_turn
use Rattle.lane_model.specs.declared.stages.GiveStage.TheVariants as give_stage
use Rattle.lane_model.specs.declared.stages.Receiving.{Receiving}
use Rattle.lane_model.specs.declared.stages.SendStage.{SendStage}
use Rattle.lane_model.specs.declared.stages.SendStage.TheVariants as stage
use Rattle.lane_model.specs.declared.stages.Sending.{Sending}
use Rattle.lane_model.specs.declared.stages.TakeStage.TheVariants as take_stage
use Rattle.lane_model.specs.declared.stages.Turn.{Turn}
use Rattle.lane_model.specs.declared.stages.Turn.TheVariants as turn
use Rattle.lane_model.specs.declared.stages.Work.{Work}
use Rattle.lane_model.specs.declared.stages.Work.TheVariants as work
use Rattle.lane_model.specs.declared.states.BookEntry.{BookEntry}
use Rattle.lane_model.specs.declared.states.Lane.{Lane}
use Rattle.lane_model.specs.declared.states.LaneState.{LaneState}
use Rattle.lane_model.specs.Crashes.{ended_turn}
use Rattle.lane_model.specs.Desks.{DeskMeaning}
use Rattle.lane_model.specs.Lanes.{has_call, is_live_in, taken_by}
use Rattle.lane_model.specs.Links.{Lanes, end_of, lanes_of, with_lanes, with_caller, free_number, on_lanes, lanes_step, send_later, receive_later}
use Rattle.lane_model.specs.Receives.{receiver_step, receive_step, after_handing}
use Rattle.lane_model.specs.Sends.{sender_step, send_step}
use Rattle.lane_model.specs.Soundness.{IsSoundTurn}
use Rattle.ring_core.specs.declared.states.RingState.{RingState}
use Rattle.ring_core.specs.RingSteps.{ring_form}
use Rattle.link_words.specs.declared.rule.Event.{Event}
use Rattle.link_words.specs.declared.rule.Pass.{Pass}
use Rattle.link_words.specs.Deeds.{Deed, Nothing, EndsCall, ManagerTakes, ManagerLeaves, LeavesTurn, Opens, Enlists, Frees, Steps, Closes, after_deed, lanes_after_end, after_leave_without}
use Rattle.link_words.specs.Histories.{HasEnded, IsQuiet, IsWithin, ReadsIn, books_of, counts_of, entries_by, is_past_era, seen, sends_in, takes_by, takes_in}
use Rattle.link_words.specs.Words.{lane_to, with_lane}
use Rattle.link_words.proofs.Books.{entries_other, read_push}
use Rattle.link_words.proofs.Kept.{of_taken, of_left}
use Rattle.link_words.proofs.Seen.{within_trans}

true-false : true ≡ false → ⊥
true-false e = absurd (cc)

and_false : (b : Bool) → (b && false) ≡ false
and_false true = refl
and_false false = refl

not_live : (era : Era) (inc : ℕ) → era.is_live ≡ false → is_live_in era inc ≡ false
not_live era inc shut = ap (λ (b : Bool). eqb era.inc inc && b) shut ∙ and_false (eqb era.inc inc)

at_most : (n : ℕ) → n ≤ n
at_most n = omega arith

-- a lane behind a change by which its books say of this number what they said: no message came in but another's, nobody was handed one, no count fell; and no
-- send under this number has found the era live
record IsCalm {D : Type 0} (number : ℕ) (s s' : LaneState D) : Type 0 where
  entries : entries_by number 0 s'.lane.accepted ≡ entries_by number 0 s.lane.accepted
  takers : s'.lane.takers ≡ s.lane.takers
  reads : (e : End) (inc : ℕ) (own : List Event) → ReadsIn e inc s.lane.accepted own → ReadsIn e inc s'.lane.accepted own
  accepted : length s.lane.accepted ≤ length s'.lane.accepted
  returned : s.lane.returned ≤ s'.lane.returned
  quiet : IsQuiet s'.sender number

-- where no message came in
calm : {D : Type 0} (number : ℕ) (s s' : LaneState D) → s'.lane.accepted ≡ s.lane.accepted → s'.lane.takers ≡ s.lane.takers → s.lane.returned ≤ s'.lane.returned → IsQuiet s'.sender number → IsCalm number s s'
calm number s s' book handed back quiet = record {
  entries = ap (entries_by number 0) book;
  takers = handed;
  reads = λ e inc own has. subst (λ (b : List BookEntry). ReadsIn e inc b own) (sym book) has;
  accepted = let long = ap length book in omega (arith, long);
  returned = back;
  quiet = quiet;
}

-- and where another's did
calm_beside : {D : Type 0} (number : ℕ) (s s' : LaneState D) (entry : BookEntry) → entry.caller ≢ number → s'.lane.accepted ≡ s.lane.accepted ++ entry ∷ [] → s'.lane.takers ≡ s.lane.takers → s.lane.returned ≤ s'.lane.returned → IsQuiet s'.sender number → IsCalm number s s'
calm_beside number s s' entry apart book handed back quiet = record {
  entries = ap (entries_by number 0) book ∙ entries_other number 0 s.lane.accepted entry apart;
  takers = handed;
  reads = λ e inc own has. subst (λ (b : List BookEntry). ReadsIn e inc b own) (sym book) (read_push e inc s.lane.accepted entry own has);
  accepted = let long = ap length book ∙ length-append s.lane.accepted (entry ∷ []) in omega (arith, long);
  returned = back;
  quiet = quiet;
}

still : {D : Type 0} (number : ℕ) (s : LaneState D) → IsQuiet s.sender number → IsCalm number s s
still number s quiet = calm number s s refl refl (at_most s.lane.returned) quiet

calm_either : {D : Type 0} (b : Bool) (number : ℕ) (s x y : LaneState D) → IsCalm number s x → IsCalm number s y → IsCalm number s (cond b x y)
calm_either true number s x y one two = one
calm_either false number s x y one two = two

-- the turns that are quiet
quiet_either : (b : Bool) (x y : Turn Sending) (number : ℕ) → IsQuiet x number → IsQuiet y number → IsQuiet (cond b x y) number
quiet_either true x y number one two = one
quiet_either false x y number one two = two

quiet_taken : (t : Turn Sending) (number caller follows : ℕ) (message : List ℕ) → IsQuiet t number → IsQuiet (taken_by t caller (record { follows = follows; message = message; stage = stage.Turn })) number
quiet_taken turn.Free number caller follows message quiet = λ never. absurd (true-false (sym never))
quiet_taken (turn.Taken c x) number caller follows message quiet = quiet
quiet_taken (turn.Leaving c x) number caller follows message quiet = tt
quiet_taken turn.Manager number caller follows message quiet = tt

quiet_ended : (t : Turn Sending) (number caller : ℕ) → IsQuiet t number → IsQuiet (ended_turn t caller) number
quiet_ended t number caller quiet = quiet_either (has_call t caller) turn.Free t number tt quiet

-- a turn of another
pub quiet_uncalled : (t : Turn Sending) (number : ℕ) → has_call t number ≡ false → IsQuiet t number
quiet_uncalled turn.Free number none = tt
quiet_uncalled (turn.Taken c x) number none = λ _ same. true-false (sym (eq-eqb c number same) ∙ none)
quiet_uncalled (turn.Leaving c x) number none = tt
quiet_uncalled turn.Manager number none = tt

-- a turn of callers of the other end
pub quiet_apart : (callers : List (Option End)) (e i : End) (t : Turn Sending) (number : ℕ) → IsSoundTurn callers e t → end_of callers number ≡ Some i → (Some e ≡ Some i → ⊥) → IsQuiet t number
quiet_apart callers e i turn.Free number sound user apart = tt
quiet_apart callers e i (turn.Taken c x) number sound user apart = λ _ same. apart (sym sound ∙ (ap (end_of callers) same ∙ user))
quiet_apart callers e i (turn.Leaving c x) number sound user apart = tt
quiet_apart callers e i turn.Manager number sound user apart = tt

-- a later step of a send: its era is loaded where it has not found it live, and a message comes in where it has
sends : {D : Type 0} (era : Era) (number : ℕ) → era.is_live ≡ false → (l : Lane) (c follows : ℕ) (message : List ℕ) (q : SendStage) (r : Turn Receiving) (d : D) → let x : Sending = record { follows = follows; message = message; stage = q } in
    IsQuiet (turn.Taken c x) number → let s : LaneState D = record { lane = l; sender = turn.Taken c x; receiver = r; desk = d } in IsCalm number s (send_step era s c x q).state
sends era number shut l c follows message stage.Turn r d quiet = calm number _ _ refl refl (at_most l.returned)
    (subst (λ (b : Bool). IsQuiet (cond b (turn.Taken c (record { follows = follows; message = message; stage = stage.Era })) (turn.Leaving c (end.Dead era))) number) (sym (not_live era follows shut)) tt)
sends era number shut l c follows message stage.Era r d quiet = calm number _ _ refl refl (at_most l.returned)
    (quiet_either (eqb (length l.accepted) (l.returned + l.capacity)) _ _ number tt (quiet_either (eqb (length l.accepted) l.book) _ _ number tt quiet))
sends era number shut l c follows message stage.Look r d quiet = calm number _ _ refl refl (at_most l.returned) quiet
sends era number shut l c follows message stage.Buffer r d quiet = calm number _ _ refl refl (at_most l.returned) quiet
sends era number shut l c follows message stage.Entry r d quiet = calm_beside number _ _ (record { caller = c; message = message }) (quiet refl) refl refl (at_most l.returned) tt

sent : {D : Type 0} (era : Era) (number : ℕ) → era.is_live ≡ false → (l : Lane) (t : Turn Sending) (r : Turn Receiving) (d : D) → IsQuiet t number → let s : LaneState D = record { lane = l; sender = t; receiver = r; desk = d } in IsCalm number s (sender_step era s).state
sent era number shut l turn.Free r d quiet = still number _ quiet
sent era number shut l (turn.Taken c x) r d quiet = sends era number shut l c x.follows x.message x.stage r d quiet
sent era number shut l (turn.Leaving c x) r d quiet = calm number _ _ refl refl (at_most l.returned) tt
sent era number shut l turn.Manager r d quiet = still number _ quiet

-- a later step of a call that has the receiver's turn: a take does not hand over
receives : {D : Type 0} (desk : DeskMeaning D) (era : Era) (number : ℕ) → era.is_live ≡ false → (l : Lane) (t : Turn Sending) (c follows : ℕ) (w : Work) (d : D) → IsQuiet t number → let x : Receiving = record { follows = follows; work = w } in
    let s : LaneState D = record { lane = l; sender = t; receiver = turn.Taken c x; desk = d } in IsCalm number s (receive_step desk era s c x w).state
receives desk era number shut l t c follows (work.Take take_stage.Turn) d quiet = calm number _ _ refl refl (at_most l.returned) quiet
receives desk era number shut l t c follows (work.Take take_stage.Era) d quiet = calm number _ _ refl refl (at_most l.returned) quiet
receives desk era number shut l t c follows (work.Take take_stage.Look) d quiet = calm number _ _ refl refl (at_most l.returned) quiet
receives {D} desk era number shut l t c follows (work.Take take_stage.Buffer) d quiet =
    let s : LaneState D = record { lane = l; sender = t; receiver = turn.Taken c (record { follows = follows; work = work.Take take_stage.Buffer }); desk = d } in
    subst (λ (b : Bool). IsCalm number s (cond b (after_handing desk s c) (record s { receiver = turn.Leaving c (end.Dead era) }))) (sym (not_live era follows shut)) (calm number s _ refl refl (at_most l.returned) quiet)
receives desk era number shut l t c follows (work.Give given give_stage.Turn) d quiet = calm number _ _ refl refl (at_most l.returned) quiet
receives desk era number shut l t c follows (work.Give given give_stage.Entry) d quiet = calm number _ _ refl refl (let more : l.returned ≤ l.returned + 1 = omega arith in more) quiet
receives desk era number shut l t c follows (work.Bind address) d quiet = calm_either (is_live_in era follows) number _ _ _ (calm number _ _ refl refl (at_most l.returned) quiet) (calm number _ _ refl refl (at_most l.returned) quiet)
receives desk era number shut l t c follows (work.Unbind address) d quiet = calm_either (is_live_in era follows) number _ _ _ (calm number _ _ refl refl (at_most l.returned) quiet) (calm number _ _ refl refl (at_most l.returned) quiet)

received : {D : Type 0} (desk : DeskMeaning D) (era : Era) (number : ℕ) → era.is_live ≡ false → (l : Lane) (t : Turn Sending) (r : Turn Receiving) (d : D) → IsQuiet t number → let s : LaneState D = record { lane = l; sender = t; receiver = r; desk = d } in IsCalm number s (receiver_step desk era s).state
received desk era number shut l t turn.Free d quiet = still number _ quiet
received desk era number shut l t (turn.Taken c x) d quiet = receives desk era number shut l t c x.follows x.work d quiet
received desk era number shut l t (turn.Leaving c x) d quiet = calm number _ _ refl refl (at_most l.returned) quiet
received desk era number shut l t turn.Manager d quiet = still number _ quiet

-- the same of a link
grown : {D : Type 0} (number : ℕ) (s s' : RingState D) → IsCalm number s.lane s'.lane → IsWithin (counts_of (books_of s)) (counts_of (books_of s'))
grown number s s' c = record { accepted = c.accepted; handed = let same = ap length c.takers in omega (arith, same); returned = c.returned }

abbrev other_lanes : {D : Type 0} → LaneLink (RingState D) → RingState D → RingState D → List (Option End) → LaneLink (RingState D)
other_lanes m a b cs = record { era = m.era; to_host = a; to_remote = b; callers = cs }

calm_link : {D : Type 0} (m : LaneLink (RingState D)) (a b : RingState D) (cs : List (Option End)) (p : Pass) → HasEnded m p → IsCalm p.number m.to_host.lane a.lane → IsCalm p.number m.to_remote.lane b.lane → HasEnded (other_lanes m a b cs) p
calm_link {D} m a b cs p has host remote = record {
  closed = has.closed;
  history = record { sent = λ e. sent_at e; taken = λ e. taken_at e; read = λ e. read_at e; counts = λ e. counts_at e; none_later = has.history.none_later };
  quiet = λ e. quiet_at e;
}
  where
    sent_at : (e : End) → p.first ≤ m.era.inc → entries_by p.number 0 (lane_to (other_lanes m a b cs) e).lane.lane.accepted ≡ sends_in e m.era.inc p.own
    sent_at side.Host since = host.entries ∙ has.history.sent side.Host since
    sent_at side.Remote since = remote.entries ∙ has.history.sent side.Remote since

    taken_at : (e : End) → p.first ≤ m.era.inc → takes_by p.number 0 (lane_to (other_lanes m a b cs) e).lane.lane.takers ≡ takes_in e m.era.inc p.own
    taken_at side.Host since = ap (takes_by p.number 0) host.takers ∙ has.history.taken side.Host since
    taken_at side.Remote since = ap (takes_by p.number 0) remote.takers ∙ has.history.taken side.Remote since

    read_at : (e : End) → ReadsIn e m.era.inc (lane_to (other_lanes m a b cs) e).lane.lane.accepted p.own
    read_at side.Host = host.reads side.Host m.era.inc p.own (has.history.read side.Host)
    read_at side.Remote = remote.reads side.Remote m.era.inc p.own (has.history.read side.Remote)

    counts_at : (e : End) → IsWithin (seen e m.era.inc p.own) (counts_of (books_of (lane_to (other_lanes m a b cs) e)))
    counts_at side.Host = within_trans _ _ _ (has.history.counts side.Host) (grown p.number m.to_host a host)
    counts_at side.Remote = within_trans _ _ _ (has.history.counts side.Remote) (grown p.number m.to_remote b remote)

    quiet_at : (e : End) → IsQuiet (lane_to (other_lanes m a b cs) e).lane.sender p.number
    quiet_at side.Host = host.quiet
    quiet_at side.Remote = remote.quiet

-- other callers
pub ended_with : {D : Type 0} (m : LaneLink (RingState D)) (cs : List (Option End)) (p : Pass) → HasEnded m p → HasEnded (record m { callers = cs }) p
ended_with m cs p has = calm_link m m.to_host m.to_remote cs p has (still p.number m.to_host.lane (has.quiet side.Host)) (still p.number m.to_remote.lane (has.quiet side.Remote))

-- one lane
calm_lane : {D : Type 0} (m : LaneLink (RingState D)) (e : End) (s : RingState D) (p : Pass) → HasEnded m p → IsCalm p.number (lane_to m e).lane s.lane → HasEnded (with_lane m e s) p
calm_lane m side.Host s p has c = calm_link m s m.to_remote m.callers p has c (still p.number m.to_remote.lane (has.quiet side.Remote))
calm_lane m side.Remote s p has c = calm_link m m.to_host s m.callers p has (still p.number m.to_host.lane (has.quiet side.Host)) c

-- the lanes of the callers of an end
calm_lanes : {D : Type 0} (m : LaneLink (RingState D)) (e : End) (lanes : Lanes (RingState D)) (p : Pass) → HasEnded m p → IsCalm p.number (lanes_of m e).outgoing.lane lanes.outgoing.lane → IsCalm p.number (lanes_of m e).incoming.lane lanes.incoming.lane → HasEnded (with_lanes m e lanes) p
calm_lanes m side.Host lanes p has out into = calm_link m lanes.incoming lanes.outgoing m.callers p has into out
calm_lanes m side.Remote lanes p has out into = calm_link m lanes.outgoing lanes.incoming m.callers p has out into

out_quiet : {D : Type 0} (m : LaneLink (RingState D)) (e : End) (p : Pass) → HasEnded m p → IsQuiet (lanes_of m e).outgoing.lane.sender p.number
out_quiet m side.Host p has = has.quiet side.Remote
out_quiet m side.Remote p has = has.quiet side.Host

into_quiet : {D : Type 0} (m : LaneLink (RingState D)) (e : End) (p : Pass) → HasEnded m p → IsQuiet (lanes_of m e).incoming.lane.sender p.number
into_quiet m side.Host p has = has.quiet side.Host
into_quiet m side.Remote p has = has.quiet side.Remote

module _ {D : Type 0} (desk : DeskMeaning D) (m : LaneLink (RingState D)) (p : Pass) (has : HasEnded m p) where
  out_stays : (e : End) → IsCalm p.number (lanes_of m e).outgoing.lane (lanes_of m e).outgoing.lane
  out_stays e = still p.number (lanes_of m e).outgoing.lane (out_quiet m e p has)

  into_stays : (e : End) → IsCalm p.number (lanes_of m e).incoming.lane (lanes_of m e).incoming.lane
  into_stays e = still p.number (lanes_of m e).incoming.lane (into_quiet m e p has)

  begins_receive : (e : End) (caller follows : ℕ) (w : Work) → HasEnded (with_lanes m e (record (lanes_of m e) { incoming = (ring_form desk).after_receive_start (lanes_of m e).incoming caller follows w })) p
  begins_receive e caller follows w = calm_lanes m e _ p has (out_stays e) (calm p.number _ _ refl refl (at_most (lanes_of m e).incoming.lane.lane.returned) (into_quiet m e p has))

  step_ends : (e : End) (caller follows : ℕ) (wished : Option Wish) → HasEnded (with_lanes m e (lanes_step (ring_form desk) desk m.era (lanes_of m e) caller follows wished).state) p
  step_ends e caller follows (Some (wish.Send message)) = calm_lanes m e _ p has
      (calm p.number _ _ refl refl (at_most (lanes_of m e).outgoing.lane.lane.returned) (quiet_taken (lanes_of m e).outgoing.lane.sender p.number caller follows message (out_quiet m e p has))) (into_stays e)
  step_ends e caller follows (Some wish.Take) = begins_receive e caller follows (work.Take take_stage.Turn)
  step_ends e caller follows (Some (wish.Give number)) = begins_receive e caller follows (work.Give number give_stage.Turn)
  step_ends e caller follows (Some (wish.Bind address)) = begins_receive e caller follows (work.Bind address)
  step_ends e caller follows (Some (wish.Unbind address)) = begins_receive e caller follows (work.Unbind address)
  step_ends e caller follows None = go (has_call (lanes_of m e).outgoing.lane.sender caller)
    where
      go : (b : Bool) → HasEnded (with_lanes m e (cond b (send_later (ring_form desk) m.era (lanes_of m e)) (receive_later (ring_form desk) desk m.era (lanes_of m e))).state) p
      go true = let s = (lanes_of m e).outgoing.lane in calm_lanes m e _ p has (sent m.era p.number has.closed s.lane s.sender s.receiver s.desk (out_quiet m e p has)) (into_stays e)
      go false = let s = (lanes_of m e).incoming.lane in calm_lanes m e _ p has (out_stays e) (received desk m.era p.number has.closed s.lane s.sender s.receiver s.desk (into_quiet m e p has))

  -- every deed but an opening
  deed_ends : (d : Deed) → (after_deed desk m d).era.is_live ≡ false → HasEnded (after_deed desk m d) p
  deed_ends (Steps caller follows wished) shut = go (end_of m.callers caller)
    where
      go : (o : Option End) → HasEnded (on_lanes m o (λ lanes. lanes_step (ring_form desk) desk m.era lanes caller follows wished)).state p
      go None = has
      go (Some e) = step_ends e caller follows wished
  deed_ends (Closes inc) shut = subst (λ (b : Bool). HasEnded (cond b (record m { era = record { inc = inc; is_live = false } }) m) p) (sym (not_live m.era inc has.closed)) has
  deed_ends (EndsCall e caller) shut =
      let out = (lanes_of m e).outgoing.lane in let into = (lanes_of m e).incoming.lane in
      calm_lanes m e (lanes_after_end desk (lanes_of m e) caller) p has (calm p.number _ _ refl refl (at_most out.lane.returned) (quiet_ended out.sender p.number caller (out_quiet m e p has))) (go (has_call into.receiver caller))
    where
      go : (b : Bool) → IsCalm p.number (lanes_of m e).incoming.lane (cond b ((ring_form desk).after_receive_end (lanes_of m e).incoming caller) (lanes_of m e).incoming).lane
      go true = calm p.number _ _ refl refl (at_most (lanes_of m e).incoming.lane.lane.returned) (into_quiet m e p has)
      go false = into_stays e
  deed_ends Opens shut = absurd (true-false shut)
  deed_ends (ManagerTakes lane_turn.Sender e) shut = let s = lane_to m e in calm_lane m e _ p has (calm p.number _ _ refl refl (at_most s.lane.lane.returned) (of_taken (λ caller x. is_past_era x.stage ≡ true → caller ≢ p.number) s.lane.sender (has.quiet e)))
  deed_ends (ManagerTakes lane_turn.Receiver e) shut = let s = lane_to m e in calm_lane m e _ p has (calm p.number _ _ refl refl (at_most s.lane.lane.returned) (has.quiet e))
  deed_ends (ManagerLeaves lane_turn.Sender e) shut = let s = lane_to m e in calm_lane m e _ p has (calm p.number _ _ refl refl (at_most s.lane.lane.returned) (of_left (λ caller x. is_past_era x.stage ≡ true → caller ≢ p.number) s.lane.sender (has.quiet e)))
  deed_ends (ManagerLeaves lane_turn.Receiver e) shut = let s = lane_to m e in calm_lane m e _ p has (calm p.number _ _ refl refl (at_most s.lane.lane.returned) (has.quiet e))
  deed_ends (LeavesTurn e caller) shut = let s = lane_to m e in calm_lane m e (after_leave_without desk s caller) p has (calm p.number _ _ refl refl (at_most s.lane.lane.returned) (has.quiet e))
  deed_ends (Enlists e) shut = ended_with m (with_caller m.callers e (free_number m.callers)) p has
  deed_ends (Frees e caller) shut = ended_with m (slice_set m.callers caller None) p has
  deed_ends Nothing shut = has

-- what a deed leaves of the passes that were reclaimed in a closed incarnation
pub ended_by : {D : Type 0} (desk : DeskMeaning D) (m m' : LaneLink (RingState D)) (d : Deed) → m' ≡ after_deed desk m d → (m.era.is_live ≡ false → m'.era.is_live ≡ false) → (p : Pass) → HasEnded m p → HasEnded m' p
ended_by {D} desk m m' d deed shut p has = subst (λ (x : LaneLink (RingState D)). HasEnded x p) (sym deed) (deed_ends desk m p has d (sym (ap (λ (x : LaneLink (RingState D)). x.era.is_live) deed) ∙ shut has.closed))

-- one more
pub ended_more : {D : Type 0} (m : LaneLink (RingState D)) (q : Pass) (ended : List Pass) → HasEnded m q → ((k : ℕ) (p : Pass) → get_elem? ended k ≡ some p → HasEnded m p) → (k : ℕ) (p : Pass) → get_elem? (q ∷ ended) k ≡ some p → HasEnded m p
ended_more m q ended new old zero p at = subst (HasEnded m) (some-injective q p at) new
ended_more m q ended new old (suc k) p at = old k p at
