-- What a step of a caller leaves of the turns of its link.
use Rattle.std.proofs.Common.{◌≡◌, ◌≢◌, ℕ, ◌==◌, ◌||◌, length, Bool, true, false, cond, List, Option, Some, None, refl, sym, ap, subst, ◌∙◌}
use Rattle.std.proofs.lemmas.Bool.{false≢true, eqb-true, ne_eqb, cond_both, or_left, or_right}
use Rattle.rp_base.specs.declared.kinds.Era.{Era}
use Rattle.rp_base.specs.declared.kinds.End.{End}
use Rattle.rp_base.specs.declared.kinds.End.TheVariants as side
use Rattle.lane_model.specs.declared.calls.CallEnd.{CallEnd}
use Rattle.lane_model.specs.declared.calls.Outcome.{Outcome}
use Rattle.lane_model.specs.declared.calls.Outcome.TheVariants as outcome
use Rattle.lane_model.specs.declared.calls.Wish.{Wish}
use Rattle.lane_model.specs.declared.calls.Wish.TheVariants as wish
use Rattle.lane_model.specs.declared.lane_links.LaneLink.{LaneLink}
use Rattle.lane_model.specs.declared.stages.GiveStage.TheVariants as give_stage
use Rattle.lane_model.specs.declared.stages.Receiving.{Receiving}
use Rattle.lane_model.specs.declared.stages.Sending.{Sending}
use Rattle.lane_model.specs.declared.stages.SendStage.{SendStage}
use Rattle.lane_model.specs.declared.stages.SendStage.TheVariants as stage
use Rattle.lane_model.specs.declared.stages.TakeStage.TheVariants as take_stage
use Rattle.lane_model.specs.declared.stages.Turn.{Turn}
use Rattle.lane_model.specs.declared.stages.Turn.TheVariants as turn
use Rattle.lane_model.specs.declared.stages.Work.{Work}
use Rattle.lane_model.specs.declared.stages.Work.TheVariants as work
use Rattle.lane_model.specs.declared.states.LaneState.{LaneState}
use Rattle.lane_model.specs.Desks.{DeskMeaning}
use Rattle.lane_model.specs.Lanes.{Stepped, has_call, holder, is_live_in, taken_by, turn_step}
use Rattle.lane_model.specs.Links.{Lanes, begun_outcome, end_of, first_step, form_step, lanes_of, lanes_step, on_lanes, receive_first, receive_later, send_first, send_later}
use Rattle.lane_model.specs.Receives.{receive_step}
use Rattle.lane_model.specs.Sends.{send_step}
use Rattle.lane_model.proofs.GoesOn.{same_callers}
use Rattle.lane_model.proofs.Steps.{receiver_own, same, sender_own}
use Rattle.ring_core.specs.declared.states.RingState.{RingState}
use Rattle.channel_bus.specs.Sides.{EndState, side_meaning}
use Rattle.link_words.specs.Words.{lane_to, other}
use Rattle.managed_link.specs.Known.{LinkRings, on_rings}
use Rattle.managed_link.specs.Managed.{view_of}
use Rattle.managed_link.specs.Steps.{incoming_begun, outgoing_begun}
use Rattle.managed_link.specs.Views.{if_other}

-- a call of this caller has the turn
pub record IsWithCall {C : Type 0} (caller : ℕ) (now : Turn C) : Type 0 where
  pub holds : holder now ≡ Some caller
  pub calls : has_call now caller ≡ true

-- whoever has a turn by a call is the holder, and else another is, or the manager
pub holder_by : {C : Type 0} (now : Turn C) (caller : ℕ) → has_call now caller ≡ true → holder now ≡ Some caller
holder_by turn.Free caller has = absurd (false≢true has)
holder_by (turn.Taken n call) caller has = ap (λ (k : ℕ). Some k) (eqb-true n caller has)
holder_by (turn.Leaving n end) caller has = ap (λ (k : ℕ). Some k) (eqb-true n caller has)
holder_by turn.Manager caller has = absurd (false≢true has)

freed : {C : Type 0} (now : Turn C) (caller : ℕ) → has_call now caller ≡ true → if_other (holder now) caller ≡ None
freed now caller has = ap (λ (h : Option ℕ). if_other h caller) (holder_by now caller has) ∙ ap (λ (b : Bool). cond b None (Some caller)) (same caller)

not_freed : (n caller : ℕ) → (n == caller) ≡ false → if_other (Some n) caller ≡ Some n
not_freed n caller is = ap (λ (b : Bool). cond b None (Some n)) is

pub kept : {C : Type 0} (now : Turn C) (caller : ℕ) → caller ≢ 64 → has_call now caller ≡ false → if_other (holder now) caller ≡ holder now
kept turn.Free caller low has = refl
kept (turn.Taken n call) caller low has = not_freed n caller has
kept (turn.Leaving n end) caller low has = not_freed n caller has
kept turn.Manager caller low has = not_freed 64 caller (ne_eqb 64 caller (λ is. low (sym is)))

-- a step of the call that has a turn, by what it says: the turn stays with the call where it goes on, and is free where it ends
pub record IsLaterTurn {C : Type 0} (caller : ℕ) (said : Outcome) (next : Turn C) : Type 0 where
  pub stays : (number : ℕ) → said ≡ outcome.At number → IsWithCall caller next
  pub left : (ended : CallEnd) → said ≡ outcome.Ended ended → holder next ≡ None

-- a step of a call whose end is not settled leaves the turn with it, and goes on
pub record GoesOnWith {C : Type 0} (caller : ℕ) (said : Outcome) (next : Turn C) : Type 0 where
  pub with : IsWithCall caller next
  pub number : ℕ
  pub on : said ≡ outcome.At number

turn_later : {S C : Type 0} (turn_of : S → Turn C) (state freed : S) (goes : ℕ → C → Stepped S) (now : Turn C) (caller : ℕ) → has_call now caller ≡ true → turn_of freed ≡ turn.Free
    → ((n : ℕ) (call : C) → GoesOnWith n (goes n call).outcome (turn_of (goes n call).state))
    → IsLaterTurn caller (turn_step state freed goes now).outcome (turn_of (turn_step state freed goes now).state)
turn_later turn_of state freed goes turn.Free caller has free on = absurd (false≢true has)
turn_later turn_of state freed goes (turn.Taken n call) caller has free on = let g = on n call in
    subst (λ k. IsLaterTurn k (goes n call).outcome (turn_of (goes n call).state)) (eqb-true n caller has)
    (record { stays = λ number said. g.with; left = λ ended said. let clash : outcome.At g.number ≡ outcome.Ended ended = sym g.on ∙ said in cc })
turn_later turn_of state freed goes (turn.Leaving n end) caller has free on =
    record { stays = λ number said. cc; left = λ ended said. ap holder free }
turn_later turn_of state freed goes turn.Manager caller has free on = absurd (false≢true has)

with_one : {C : Type 0} (n : ℕ) (call : C) → IsWithCall n (turn.Taken n call)
with_one n call = record { holds = refl; calls = same n }

with_leaving : (C : Type 0) (n : ℕ) (end : CallEnd) → IsWithCall {C = C} n (turn.Leaving n end)
with_leaving C n end = record { holds = refl; calls = same n }

send_goes : {D : Type 0} (era : Era) (state : LaneState D) (n : ℕ) (s : Sending) (now : SendStage) → GoesOnWith n (send_step era state n s now).outcome (send_step era state n s now).state.sender
send_goes era state n s stage.Turn = record { with = cond_both (is_live_in era s.follows) _ _ (IsWithCall n) (λ _. with_one n _) (λ _. with_leaving Sending n _); number = 2; on = refl }
send_goes era state n s stage.Era = record {
  with = cond_both (length state.lane.accepted == _) _ _ (IsWithCall n) (λ _. with_leaving Sending n _) (λ _. cond_both (length state.lane.accepted == _) _ _ (IsWithCall n) (λ _. with_leaving Sending n _) (λ _. with_one n _));
  number = 3;
  on = refl;
}
send_goes era state n s stage.Look = record { with = with_one n _; number = 4; on = refl }
send_goes era state n s stage.Buffer = record { with = with_one n _; number = 5; on = refl }
send_goes era state n s stage.Entry = record { with = with_leaving Sending n _; number = 6; on = refl }

receive_goes : {D : Type 0} (desk : DeskMeaning D) (era : Era) (state : LaneState D) (n : ℕ) (r : Receiving) (now : Work)
    → GoesOnWith n (receive_step desk era state n r now).outcome (receive_step desk era state n r now).state.receiver
receive_goes desk era state n r (work.Take take_stage.Turn) = record { with = cond_both (is_live_in era r.follows) _ _ (IsWithCall n) (λ _. with_one n _) (λ _. with_leaving Receiving n _); number = 2; on = refl }
receive_goes desk era state n r (work.Take take_stage.Era) = record { with = cond_both (length state.lane.takers == _) _ _ (IsWithCall n) (λ _. with_leaving Receiving n _) (λ _. with_one n _); number = 3; on = refl }
receive_goes desk era state n r (work.Take take_stage.Look) = record { with = with_one n _; number = 4; on = refl }
receive_goes {D} desk era state n r (work.Take take_stage.Buffer) = record {
  with = cond_both (is_live_in era r.follows) _ _ (λ (next : LaneState D). IsWithCall n next.receiver) (λ _. with_leaving Receiving n _) (λ _. with_leaving Receiving n _);
  number = 5;
  on = refl;
}
receive_goes desk era state n r (work.Give number give_stage.Turn) = record { with = with_one n _; number = 2; on = refl }
receive_goes desk era state n r (work.Give number give_stage.Entry) = record { with = with_leaving Receiving n _; number = 3; on = refl }
receive_goes {D} desk era state n r (work.Bind address) = record {
  with = cond_both (is_live_in era r.follows) _ _ (λ (next : LaneState D). IsWithCall n next.receiver) (λ _. with_leaving Receiving n _) (λ _. with_leaving Receiving n _);
  number = 2;
  on = refl;
}
receive_goes {D} desk era state n r (work.Unbind address) = record {
  with = cond_both (is_live_in era r.follows) _ _ (λ (next : LaneState D). IsWithCall n next.receiver) (λ _. with_leaving Receiving n _) (λ _. with_leaving Receiving n _);
  number = 2;
  on = refl;
}

-- the lane on which the callers of an end send, and the one from which they take
abbrev pub lanes_at : {D : Type 0} → LaneLink (RingState D) → End → Lanes (RingState D)
lanes_at m e = record { outgoing = lane_to m (other e); incoming = lane_to m e }

-- whether a caller has one of its turns
abbrev pub in_call : {D : Type 0} → ℕ → Lanes (RingState D) → Bool
in_call caller lanes = has_call lanes.outgoing.lane.sender caller || has_call lanes.incoming.lane.receiver caller

-- a later step, by what it says: the turns stay where it goes on, and the caller's is free where it ends the call
pub record IsLaterStep {D : Type 0} (caller : ℕ) (said : Outcome) (before after : Lanes (RingState D)) : Type 0 where
  pub sender_beside : after.incoming.lane.sender ≡ before.incoming.lane.sender
  pub receiver_beside : after.outgoing.lane.receiver ≡ before.outgoing.lane.receiver
  pub calls : (number : ℕ) → said ≡ outcome.At number → in_call caller after ≡ true
  pub sender_stays : (number : ℕ) → said ≡ outcome.At number → holder after.outgoing.lane.sender ≡ holder before.outgoing.lane.sender
  pub receiver_stays : (number : ℕ) → said ≡ outcome.At number → holder after.incoming.lane.receiver ≡ holder before.incoming.lane.receiver
  pub sender_left : (ended : CallEnd) → said ≡ outcome.Ended ended → holder after.outgoing.lane.sender ≡ if_other (holder before.outgoing.lane.sender) caller
  pub receiver_left : (ended : CallEnd) → said ≡ outcome.Ended ended → holder after.incoming.lane.receiver ≡ if_other (holder before.incoming.lane.receiver) caller

-- the first step, by what it says: the caller has the turn that it needs, or another had it, and nothing changes
pub record IsFirstStep (caller : ℕ) (wished : Wish) (said : Outcome) (before after : Lanes (RingState EndState)) : Type 0 where
  pub outgoing_lane : after.outgoing.lane.lane ≡ before.outgoing.lane.lane
  pub incoming_lane : after.incoming.lane.lane ≡ before.incoming.lane.lane
  pub calls : (number : ℕ) → said ≡ outcome.At number → in_call caller after ≡ true
  pub outgoing : (number : ℕ) → said ≡ outcome.At number → view_of after.outgoing.lane ≡ outgoing_begun wished caller (view_of before.outgoing.lane)
  pub incoming : (number : ℕ) → said ≡ outcome.At number → view_of after.incoming.lane ≡ incoming_begun wished caller (view_of before.incoming.lane)
  pub outgoing_refused : (ended : CallEnd) → said ≡ outcome.Ended ended → view_of after.outgoing.lane ≡ view_of before.outgoing.lane
  pub incoming_refused : (ended : CallEnd) → said ≡ outcome.Ended ended → view_of after.incoming.lane ≡ view_of before.incoming.lane

-- step 1 at a turn: it was free, and is the caller's then, or it stays
begun_with : {C : Type 0} (now : Turn C) (caller : ℕ) (call : C) (number : ℕ) → begun_outcome (holder now) ≡ outcome.At number → IsWithCall caller (taken_by now caller call)
begun_with turn.Free caller call number said = with_one caller call
begun_with (turn.Taken n other) caller call number said = cc
begun_with (turn.Leaving n end) caller call number said = cc
begun_with turn.Manager caller call number said = cc

begun_not : {C : Type 0} (now : Turn C) (caller : ℕ) (call : C) (ended : CallEnd) → begun_outcome (holder now) ≡ outcome.Ended ended → holder (taken_by now caller call) ≡ holder now
begun_not turn.Free caller call ended said = cc
begun_not (turn.Taken n other) caller call ended said = refl
begun_not (turn.Leaving n end) caller call ended said = refl
begun_not turn.Manager caller call ended said = refl

send_begins : (lanes : Lanes (RingState EndState)) (caller follows : ℕ) (message : List ℕ) → let s = send_first on_rings lanes caller follows message in IsFirstStep caller (wish.Send message) s.outcome lanes s.state
send_begins lanes caller follows message = let now = lanes.outgoing.lane.sender in let c : Sending = record { follows = follows; message = message; stage = stage.Turn } in record {
  outgoing_lane = refl;
  incoming_lane = refl;
  calls = λ number said. or_left (has_call (taken_by now caller c) caller) _ (begun_with now caller c number said).calls;
  outgoing = λ number said. ap (λ (h : Option ℕ). record (view_of lanes.outgoing.lane) { sender = h }) (begun_with now caller c number said).holds;
  incoming = λ number said. refl;
  outgoing_refused = λ ended said. ap (λ (h : Option ℕ). record (view_of lanes.outgoing.lane) { sender = h }) (begun_not now caller c ended said);
  incoming_refused = λ ended said. refl;
}

-- the views of the lane from which a caller takes, which has the turn
work_begins : (wished : Wish) (lanes : Lanes (RingState EndState)) (caller follows : ℕ) (first : Work) → outgoing_begun wished caller (view_of lanes.outgoing.lane) ≡ view_of lanes.outgoing.lane
    → incoming_begun wished caller (view_of lanes.incoming.lane) ≡ record (view_of lanes.incoming.lane) { receiver = Some caller }
    → let s = receive_first on_rings lanes caller follows first in IsFirstStep caller wished s.outcome lanes s.state
work_begins wished lanes caller follows first out into = let now = lanes.incoming.lane.receiver in let r : Receiving = record { follows = follows; work = first } in record {
  outgoing_lane = refl;
  incoming_lane = refl;
  calls = λ number said. or_right (has_call lanes.outgoing.lane.sender caller) (has_call (taken_by now caller r) caller) (begun_with now caller r number said).calls;
  outgoing = λ number said. sym out;
  incoming = λ number said. ap (λ (h : Option ℕ). record (view_of lanes.incoming.lane) { receiver = h }) (begun_with now caller r number said).holds ∙ sym into;
  outgoing_refused = λ ended said. refl;
  incoming_refused = λ ended said. ap (λ (h : Option ℕ). record (view_of lanes.incoming.lane) { receiver = h }) (begun_not now caller r ended said);
}

first_lanes : (wished : Wish) (lanes : Lanes (RingState EndState)) (caller follows : ℕ) → let s = first_step on_rings lanes caller follows wished in IsFirstStep caller wished s.outcome lanes s.state
first_lanes (wish.Send message) lanes caller follows = send_begins lanes caller follows message
first_lanes wish.Take lanes caller follows = work_begins wish.Take lanes caller follows _ refl refl
first_lanes (wish.Give number) lanes caller follows = work_begins (wish.Give number) lanes caller follows _ refl refl
first_lanes (wish.Bind address) lanes caller follows = work_begins (wish.Bind address) lanes caller follows _ refl refl
first_lanes (wish.Unbind address) lanes caller follows = work_begins (wish.Unbind address) lanes caller follows _ refl refl

-- a later step of a send, and of another call
send_goes_on : (era : Era) (lanes : Lanes (RingState EndState)) (caller : ℕ) → caller ≢ 64 → has_call lanes.outgoing.lane.sender caller ≡ true → has_call lanes.incoming.lane.receiver caller ≡ false
    → let s = send_later on_rings era lanes in IsLaterStep caller s.outcome lanes s.state
send_goes_on era lanes caller low sends receives =
    let state = lanes.outgoing.lane in
    let later = turn_later (λ (s : LaneState EndState). s.sender) state (record state { sender = turn.Free }) (λ n s. send_step era state n s s.stage) state.sender caller sends refl (λ n s. send_goes era state n s s.stage) in
    record {
      sender_beside = refl;
      receiver_beside = (sender_own era state).receiver;
      calls = λ number said. or_left _ _ (later.stays number said).calls;
      sender_stays = λ number said. (later.stays number said).holds ∙ sym (holder_by state.sender caller sends);
      receiver_stays = λ number said. refl;
      sender_left = λ ended said. later.left ended said ∙ sym (freed state.sender caller sends);
      receiver_left = λ ended said. sym (kept lanes.incoming.lane.receiver caller low receives);
    }

work_goes_on : (era : Era) (lanes : Lanes (RingState EndState)) (caller : ℕ) → caller ≢ 64 → has_call lanes.outgoing.lane.sender caller ≡ false → has_call lanes.incoming.lane.receiver caller ≡ true
    → let s = receive_later on_rings side_meaning era lanes in IsLaterStep caller s.outcome lanes s.state
work_goes_on era lanes caller low sends receives =
    let state = lanes.incoming.lane in
    let later = turn_later (λ (s : LaneState EndState). s.receiver) state (record state { receiver = turn.Free }) (λ n r. receive_step side_meaning era state n r r.work) state.receiver caller receives refl (λ n r. receive_goes side_meaning era state n r r.work) in
    record {
      sender_beside = (receiver_own side_meaning era state caller receives).sender;
      receiver_beside = refl;
      calls = λ number said. or_right (has_call lanes.outgoing.lane.sender caller) _ (later.stays number said).calls;
      sender_stays = λ number said. refl;
      receiver_stays = λ number said. (later.stays number said).holds ∙ sym (holder_by state.receiver caller receives);
      sender_left = λ ended said. sym (kept lanes.outgoing.lane.sender caller low sends);
      receiver_left = λ ended said. later.left ended said ∙ sym (freed state.receiver caller receives);
    }

later_lanes : (era : Era) (lanes : Lanes (RingState EndState)) (caller : ℕ) (sends : Bool) → caller ≢ 64 → has_call lanes.outgoing.lane.sender caller ≡ sends → in_call caller lanes ≡ true
    → (has_call lanes.outgoing.lane.sender caller ≡ true → has_call lanes.incoming.lane.receiver caller ≡ false)
    → let s = cond sends (send_later on_rings era lanes) (receive_later on_rings side_meaning era lanes) in IsLaterStep caller s.outcome lanes s.state
later_lanes era lanes caller true low is calls alone = send_goes_on era lanes caller low is (alone is)
later_lanes era lanes caller false low is calls alone =
    work_goes_on era lanes caller low is (sym (ap (λ b. b || has_call lanes.incoming.lane.receiver caller) is) ∙ calls)

-- the step of a caller of this end
abbrev At : LinkRings → ℕ → ℕ → Option Wish → Option End → Stepped (LinkRings)
At m caller follows wished found = on_lanes m found (λ lanes. lanes_step on_rings side_meaning m.era lanes caller follows wished)

first_at : (m : LinkRings) (e : End) (caller follows : ℕ) (wished : Wish) → let s = At m caller follows (Some wished) (Some e) in IsFirstStep caller wished s.outcome (lanes_at m e) (lanes_at s.state e)
first_at m side.Host caller follows wished = first_lanes wished (lanes_of m side.Host) caller follows
first_at m side.Remote caller follows wished = first_lanes wished (lanes_of m side.Remote) caller follows

later_at : (m : LinkRings) (e : End) (caller follows : ℕ) → caller ≢ 64 → in_call caller (lanes_at m e) ≡ true
    → (has_call (lane_to m (other e)).lane.sender caller ≡ true → has_call (lane_to m e).lane.receiver caller ≡ false)
    → let s = At m caller follows None (Some e) in IsLaterStep caller s.outcome (lanes_at m e) (lanes_at s.state e)
later_at m side.Host caller follows low calls alone = later_lanes m.era (lanes_of m side.Host) caller _ low refl calls alone
later_at m side.Remote caller follows low calls alone = later_lanes m.era (lanes_of m side.Remote) caller _ low refl calls alone

pub first_turns : (m : LinkRings) (e : End) (caller follows : ℕ) (wished : Wish) → end_of m.callers caller ≡ Some e
    → let s = form_step on_rings side_meaning m caller follows (Some wished) in IsFirstStep caller wished s.outcome (lanes_at m e) (lanes_at s.state e)
first_turns m e caller follows wished user =
    subst (λ (o : Option End). IsFirstStep caller wished (At m caller follows (Some wished) o).outcome (lanes_at m e) (lanes_at (At m caller follows (Some wished) o).state e)) (sym user) (first_at m e caller follows wished)

pub later_turns : (m : LinkRings) (e : End) (caller follows : ℕ) → end_of m.callers caller ≡ Some e → caller ≢ 64 → in_call caller (lanes_at m e) ≡ true
    → (has_call (lane_to m (other e)).lane.sender caller ≡ true → has_call (lane_to m e).lane.receiver caller ≡ false)
    → let s = form_step on_rings side_meaning m caller follows None in IsLaterStep caller s.outcome (lanes_at m e) (lanes_at s.state e)
later_turns m e caller follows user low calls alone =
    subst (λ (o : Option End). IsLaterStep caller (At m caller follows None o).outcome (lanes_at m e) (lanes_at (At m caller follows None o).state e)) (sym user) (later_at m e caller follows low calls alone)

era_at : (m : LinkRings) (found : Option End) (step : Lanes (RingState EndState) → Stepped (Lanes (RingState EndState))) → (on_lanes m found step).state.era ≡ m.era
era_at m (Some side.Host) step = refl
era_at m (Some side.Remote) step = refl
era_at m None step = refl

-- a step leaves the era and the callers
pub same_era : (m : LinkRings) (caller follows : ℕ) (wished : Option Wish) → (form_step on_rings side_meaning m caller follows wished).state.era ≡ m.era
same_era m caller follows wished = era_at m (end_of m.callers caller) _

pub same_users : (m : LinkRings) (caller follows : ℕ) (wished : Option Wish) → (form_step on_rings side_meaning m caller follows wished).state.callers ≡ m.callers
same_users m caller follows wished = same_callers m (end_of m.callers caller) _
