-- Every step of a call, and the making of a caller, keep a link sound.
use Rattle.std.proofs.Common.{◌≡◌, ℕ, ◌+◌, ◌||◌, length, Bool, true, false, cond, Option, Some, None, refl, sym, ap, subst, ◌∙◌, arith, List, [], ◌∷◌}
use Rattle.std.proofs.lemmas.Bool.{false≢true, eqb-true, cond_both, or_parts}
use Rattle.rp_base.specs.declared.kinds.Era.{Era}
use Rattle.rp_base.specs.declared.kinds.End.{End}
use Rattle.rp_base.specs.declared.kinds.End.TheVariants as side
use Rattle.lane_model.specs.declared.states.Holding.{Holding}
use Rattle.lane_model.specs.declared.states.LaneState.{LaneState}
use Rattle.lane_model.specs.declared.stages.Receiving.{Receiving}
use Rattle.lane_model.specs.declared.stages.Work.{Work}
use Rattle.lane_model.specs.declared.stages.Work.TheVariants as work
use Rattle.lane_model.specs.declared.stages.TakeStage.TheVariants as take_stage
use Rattle.lane_model.specs.declared.stages.GiveStage.TheVariants as give_stage
use Rattle.lane_model.specs.declared.stages.Turn.{Turn}
use Rattle.lane_model.specs.declared.stages.Turn.TheVariants as turn
use Rattle.lane_model.specs.declared.calls.CallEnd.TheVariants as end
use Rattle.lane_model.specs.declared.calls.Wish.{Wish}
use Rattle.lane_model.specs.declared.calls.Wish.TheVariants as wish
use Rattle.lane_model.specs.declared.calls.LinkConfig.{LinkConfig}
use Rattle.lane_model.specs.Desks.{DeskMeaning}
use Rattle.lane_model.specs.Lanes.{taken_by, has_call, is_live_in}
use Rattle.lane_model.specs.Sends.{send_step, sender_step}
use Rattle.lane_model.specs.Receives.{receive_step, receiver_step, after_handing}
use Rattle.lane_model.specs.Crashes.{opened_lane}
use Rattle.lane_model.specs.Forms.{list_form}
use Rattle.lane_model.specs.Links.{LinkState, Lanes, lanes_of, end_of, lanes_step, first_step, send_first, receive_first, send_later, receive_later, on_lanes, caller_step, opened_link, free_number, with_caller}
use Rattle.lane_model.specs.Conditions.{IsFitWork, IsFitReceiver, MayLanesStep, MayEndStep, MayStep, is_in_call}
use Rattle.lane_model.specs.Soundness.{IsUser, AreUsers, IsSoundLane, IsSoundTurn, IsSoundBetween, IsAlone, SoundLink}
use Rattle.lane_model.proofs.Holdings.{length-more, length-without-one}
use Rattle.lane_model.proofs.SoundLanes.{turn_step_has, sent_on_sound, received_on_sound, send_begun_sound, receive_begun_sound}
use Rattle.lane_model.proofs.Steps.{with_sound, send_on, receive_on, sender_own, receiver_own}
use Rattle.lane_model.proofs.Others.{stays_in_use}

-- the lanes of the callers of one end
pub record IsSoundLanes {D : Type 0} (callers : List (Option End)) (own other : End) (live : Bool) (lanes : Lanes (LaneState D)) : Type 0 where
  pub outgoing : IsSoundBetween callers own other live lanes.outgoing
  pub incoming : IsSoundBetween callers other own live lanes.incoming
  pub alone : IsAlone lanes.outgoing lanes.incoming
  pub others : IsAlone lanes.incoming lanes.outgoing

not_then : (a b : Bool) → (a ≡ true → b ≡ true) → b ≡ false → a ≡ false
not_then false b from is = refl
not_then true b from is = absurd (false≢true (sym is ∙ from refl))

-- who has the turn that was free is the caller, and else who had it before
taken_had : {C : Type 0} (P : ℕ → Type 0) (now : Turn C) (caller other : ℕ) (call : C) → P caller → (has_call now other ≡ true → P other) → has_call (taken_by now caller call) other ≡ true → P other
taken_had P turn.Free caller other call mine before is = subst P (eqb-true _ _ is) mine
taken_had P (turn.Taken n now_call) caller other call mine before is = before is
taken_had P (turn.Leaving n ended) caller other call mine before is = before is
taken_had P turn.Manager caller other call mine before is = before is

taken_sound : {C : Type 0} (callers : List (Option End)) (own : End) (now : Turn C) (caller : ℕ) (call : C) → IsUser callers own caller → IsSoundTurn callers own now → IsSoundTurn callers own (taken_by now caller call)
taken_sound callers own turn.Free caller call user sound = user
taken_sound callers own (turn.Taken n now_call) caller call user sound = sound
taken_sound callers own (turn.Leaving n ended) caller call user sound = sound
taken_sound callers own turn.Manager caller call user sound = sound

-- who has the sender's turn after a step had it before
sender_had : {D : Type 0} (era : Era) (state : LaneState D) (other : ℕ) → has_call (sender_step era state).state.sender other ≡ true → has_call state.sender other ≡ true
sender_had {D} era state other =
    turn_step_has (λ (after : LaneState D). has_call after.sender other ≡ true → has_call state.sender other ≡ true) state (record state { sender = turn.Free })
    (λ caller s. send_step era state caller s s.stage) state.sender (λ has. has) (λ has. absurd (false≢true has))
    (λ caller s is has. ap (λ now. has_call now other) is ∙ sym ((send_on era state caller s s.stage).0 other) ∙ has)

receiver_had : {D : Type 0} (desk : DeskMeaning D) (era : Era) (state : LaneState D) (other : ℕ) → has_call (receiver_step desk era state).state.receiver other ≡ true → has_call state.receiver other ≡ true
receiver_had {D} desk era state other =
    turn_step_has (λ (after : LaneState D). has_call after.receiver other ≡ true → has_call state.receiver other ≡ true) state (record state { receiver = turn.Free })
    (λ caller r. receive_step desk era state caller r r.work) state.receiver (λ has. has) (λ has. absurd (false≢true has))
    (λ caller r is has. ap (λ now. has_call now other) is ∙ sym ((receive_on desk era state caller r r.work).0 other) ∙ has)

-- the buffers that were handed over are held or back
abbrev IsWhole : {D : Type 0} → Bool → LaneState D → Type 0
IsWhole live state = live ≡ true → state.lane.returned + length state.lane.held ≡ length state.lane.takers

handed_whole : {D : Type 0} (desk : DeskMeaning D) (live : Bool) (state : LaneState D) (caller : ℕ) → IsWhole live state → IsWhole live (after_handing desk state caller)
handed_whole desk live state caller whole = λ is.
    let old = state.lane in
    let one_taker = length-more old.takers caller in
    let one_held = length-more old.held (record { number = length old.takers; caller = caller }) in
    let before = whole is in
    omega (arith, one_taker, one_held, before)

receive_whole : {D : Type 0} (desk : DeskMeaning D) (era : Era) (live : Bool) (state : LaneState D) (caller : ℕ) (r : Receiving) (now : Work)
    → IsSoundLane state → IsFitWork now state.lane caller → IsWhole live state → IsWhole live (receive_step desk era state caller r now).state
receive_whole desk era live state caller r (work.Take take_stage.Turn) sound fit whole = whole
receive_whole desk era live state caller r (work.Take take_stage.Era) sound fit whole = whole
receive_whole desk era live state caller r (work.Take take_stage.Look) sound fit whole = whole
receive_whole desk era live state caller r (work.Take take_stage.Buffer) sound fit whole =
    cond_both (is_live_in era r.follows) (after_handing desk state caller) (record state { receiver = turn.Leaving caller (end.Dead era) }) (IsWhole live)
    (λ _. handed_whole desk live state caller whole) (λ _. whole)
receive_whole desk era live state caller r (work.Give number give_stage.Turn) sound fit whole = whole
receive_whole desk era live state caller r (work.Give number give_stage.Entry) sound fit whole = λ is.
    let fewer = length-without-one (length state.lane.takers) state.lane.held number caller sound.holdings fit in
    let before = whole is in
    omega (arith, fewer, before)
receive_whole {D} desk era live state caller r (work.Bind address) sound fit whole =
    cond_both (is_live_in era r.follows) _ _ (λ (after : LaneState D). IsWhole live after) (λ _. whole) (λ _. whole)
receive_whole {D} desk era live state caller r (work.Unbind address) sound fit whole =
    cond_both (is_live_in era r.follows) _ _ (λ (after : LaneState D). IsWhole live after) (λ _. whole) (λ _. whole)

sender_between : {D : Type 0} (callers : List (Option End)) (own other : End) (live : Bool) (era : Era) (state : LaneState D) → IsSoundBetween callers own other live state
    → IsSoundBetween callers own other live (sender_step era state).state
sender_between {D} callers own other live era state sound =
    let kept = sender_own era state in
    record {
      lane = sent_on_sound era state sound.lane;
      whole = λ is. rw (kept.held, kept.takers, kept.returned) (sound.whole is);
      users = subst (AreUsers callers other) (sym kept.held) sound.users;
      sender = turn_step_has (λ (after : LaneState D). IsSoundTurn callers own after.sender) state (record state { sender = turn.Free }) (λ caller s. send_step era state caller s s.stage) state.sender sound.sender tt
          (λ caller s is. with_sound callers own caller _ (subst (IsSoundTurn callers own) is sound.sender) (send_on era state caller s s.stage).0);
      receiver = subst (IsSoundTurn callers other) (sym kept.receiver) sound.receiver;
    }

receiver_between : {D : Type 0} (callers : List (Option End)) (own other : End) (live : Bool) (desk : DeskMeaning D) (era : Era) (state : LaneState D) (caller : ℕ) → has_call state.receiver caller ≡ true
    → IsUser callers own caller → IsSoundBetween callers other own live state → IsSoundBetween callers other own live (receiver_step desk era state).state
receiver_between {D} callers own other live desk era state caller has user sound =
    let kept = receiver_own desk era state caller has in
    record {
      lane = received_on_sound desk era state sound.lane;
      whole = turn_step_has (IsWhole live) state (record state { receiver = turn.Free }) (λ n r. receive_step desk era state n r r.work) state.receiver sound.whole sound.whole
          (λ n r is. receive_whole desk era live state n r r.work sound.lane (subst (λ now. IsFitReceiver now state.lane) is sound.lane.fit) sound.whole);
      users = kept.users callers own user sound.users;
      sender = subst (IsSoundTurn callers other) (sym kept.sender) sound.sender;
      receiver = turn_step_has (λ (after : LaneState D). IsSoundTurn callers own after.receiver) state (record state { receiver = turn.Free }) (λ n r. receive_step desk era state n r r.work) state.receiver sound.receiver tt
          (λ n r is. with_sound callers own n _ (subst (IsSoundTurn callers own) is sound.receiver) (receive_on desk era state n r r.work).0);
    }

work_sound : {D : Type 0} (callers : List (Option End)) (own other : End) (live : Bool) (desk : DeskMeaning D) (lanes : Lanes (LaneState D)) (caller follows : ℕ) (first : Work)
    → IsUser callers own caller → is_in_call lanes caller ≡ false → IsFitWork first lanes.incoming.lane caller
    → IsSoundLanes callers own other live lanes → IsSoundLanes callers own other live (receive_first (list_form desk) lanes caller follows first).state
work_sound callers own other live desk lanes caller follows first user silent fit sound =
    let old = sound.incoming in
    record {
      outgoing = sound.outgoing;
      incoming = record {
        lane = receive_begun_sound lanes.incoming caller follows first old.lane fit;
        whole = old.whole;
        users = old.users;
        sender = old.sender;
        receiver = taken_sound callers own lanes.incoming.receiver caller _ user old.receiver;
      };
      alone = λ n sends. not_then _ false
          (λ is. sym (taken_had (λ m. has_call lanes.outgoing.sender m ≡ false) lanes.incoming.receiver caller n (record { follows = follows; work = first }) (or_parts _ _ silent).0
          (λ had. absurd (false≢true (sym (sound.alone n sends) ∙ had))) is) ∙ sends) refl;
      others = sound.others;
    }

send_sound : {D : Type 0} (callers : List (Option End)) (own other : End) (live : Bool) (desk : DeskMeaning D) (lanes : Lanes (LaneState D)) (caller follows : ℕ) (message : List ℕ)
    → IsUser callers own caller → is_in_call lanes caller ≡ false
    → IsSoundLanes callers own other live lanes → IsSoundLanes callers own other live (send_first (list_form desk) lanes caller follows message).state
send_sound callers own other live desk lanes caller follows message user silent sound =
    let old = sound.outgoing in
    record {
      outgoing = record {
        lane = send_begun_sound lanes.outgoing caller follows message old.lane;
        whole = old.whole;
        users = old.users;
        sender = taken_sound callers own lanes.outgoing.sender caller _ user old.sender;
        receiver = old.receiver;
      };
      incoming = sound.incoming;
      alone = λ n sends. taken_had (λ m. has_call lanes.incoming.receiver m ≡ false) lanes.outgoing.sender caller n _ (or_parts _ _ silent).1 (sound.alone n) sends;
      others = sound.others;
    }

first_sound : {D : Type 0} (callers : List (Option End)) (own other : End) (live : Bool) (desk : DeskMeaning D) (lanes : Lanes (LaneState D)) (caller follows : ℕ) (wished : Wish)
    → IsUser callers own caller → MayLanesStep lanes caller (Some wished)
    → IsSoundLanes callers own other live lanes → IsSoundLanes callers own other live (first_step (list_form desk) lanes caller follows wished).state
first_sound callers own other live desk lanes caller follows (wish.Send message) user may sound = send_sound callers own other live desk lanes caller follows message user may.0 sound
first_sound callers own other live desk lanes caller follows wish.Take user may sound =
    work_sound callers own other live desk lanes caller follows _ user may.0 (λ sought. absurd (false≢true sought)) sound
first_sound callers own other live desk lanes caller follows (wish.Give number) user may sound = work_sound callers own other live desk lanes caller follows _ user may.0 may.1 sound
first_sound callers own other live desk lanes caller follows (wish.Bind address) user may sound = work_sound callers own other live desk lanes caller follows _ user may.0 tt sound
first_sound callers own other live desk lanes caller follows (wish.Unbind address) user may sound = work_sound callers own other live desk lanes caller follows _ user may.0 tt sound

later_sound : {D : Type 0} (callers : List (Option End)) (own other : End) (live : Bool) (desk : DeskMeaning D) (era : Era) (lanes : Lanes (LaneState D)) (caller : ℕ) (sends : Bool)
    → IsUser callers own caller → has_call lanes.outgoing.sender caller ≡ sends → is_in_call lanes caller ≡ true
    → IsSoundLanes callers own other live lanes → IsSoundLanes callers own other live (cond sends (send_later (list_form desk) era lanes) (receive_later (list_form desk) desk era lanes)).state
later_sound callers own other live desk era lanes caller true user is calls sound =
    let kept = sender_own era lanes.outgoing in
    record {
      outgoing = sender_between callers own other live era lanes.outgoing sound.outgoing;
      incoming = sound.incoming;
      alone = λ n sends. sound.alone n (sender_had era lanes.outgoing n sends);
      others = λ n sends. ap (λ now. has_call now n) kept.receiver ∙ sound.others n sends;
    }
later_sound callers own other live desk era lanes caller false user is calls sound =
    let receives : has_call lanes.incoming.receiver caller ≡ true = sym (ap (λ b. b || has_call lanes.incoming.receiver caller) is) ∙ calls in
    let kept = receiver_own desk era lanes.incoming caller receives in
    record {
      outgoing = sound.outgoing;
      incoming = receiver_between callers own other live desk era lanes.incoming caller receives user sound.incoming;
      alone = λ n sends. not_then _ _ (receiver_had desk era lanes.incoming n) (sound.alone n sends);
      others = λ n sends. sound.others n (sym (ap (λ now. has_call now n) kept.sender) ∙ sends);
    }

lanes_sound : {D : Type 0} (callers : List (Option End)) (own other : End) (live : Bool) (desk : DeskMeaning D) (era : Era) (lanes : Lanes (LaneState D)) (caller follows : ℕ) (wished : Option Wish)
    → IsUser callers own caller → MayLanesStep lanes caller wished
    → IsSoundLanes callers own other live lanes → IsSoundLanes callers own other live (lanes_step (list_form desk) desk era lanes caller follows wished).state
lanes_sound callers own other live desk era lanes caller follows (Some wished) user may sound = first_sound callers own other live desk lanes caller follows wished user may sound
lanes_sound callers own other live desk era lanes caller follows None user may sound =
    later_sound callers own other live desk era lanes caller (has_call lanes.outgoing.sender caller) user refl may sound

-- a sound link, as the callers of the host and of the remote see it
pub hosts_see : {D : Type 0} (link : LinkState D) → SoundLink link → IsSoundLanes link.callers side.Host side.Remote link.era.is_live (lanes_of link side.Host)
hosts_see link sound = record { outgoing = sound.to_remote; incoming = sound.to_host; alone = sound.hosts; others = sound.remotes }

pub remotes_see : {D : Type 0} (link : LinkState D) → SoundLink link → IsSoundLanes link.callers side.Remote side.Host link.era.is_live (lanes_of link side.Remote)
remotes_see link sound = record { outgoing = sound.to_host; incoming = sound.to_remote; alone = sound.remotes; others = sound.hosts }

end_sound : {D : Type 0} (desk : DeskMeaning D) (link : LinkState D) (found : Option End) (caller follows : ℕ) (wished : Option Wish) → end_of link.callers caller ≡ found
    → MayEndStep link found caller wished → SoundLink link
    → SoundLink (on_lanes link found (λ lanes. lanes_step (list_form desk) desk link.era lanes caller follows wished)).state
end_sound desk link (Some side.Host) caller follows wished is may sound =
    let left = lanes_sound link.callers side.Host side.Remote link.era.is_live desk link.era (lanes_of link side.Host) caller follows wished is may (hosts_see link sound) in
    record { to_host = left.incoming; to_remote = left.outgoing; hosts = left.alone; remotes = left.others }
end_sound desk link (Some side.Remote) caller follows wished is may sound =
    let left = lanes_sound link.callers side.Remote side.Host link.era.is_live desk link.era (lanes_of link side.Remote) caller follows wished is may (remotes_see link sound) in
    record { to_host = left.outgoing; to_remote = left.incoming; hosts = left.others; remotes = left.alone }
end_sound desk link None caller follows wished is may sound = sound

-- every step of a call keeps a link sound
pub step_sound : {D : Type 0} (desk : DeskMeaning D) (link : LinkState D) (caller follows : ℕ) (wished : Option Wish)
    → SoundLink link → MayStep link caller wished → SoundLink (caller_step desk link caller follows wished).state
step_sound desk link caller follows wished sound may = end_sound desk link (end_of link.callers caller) caller follows wished refl may.may sound

-- an empty lane is sound
opened_between : {D : Type 0} (callers : List (Option End)) (sends receives : End) (capacity book : ℕ) (desk : D) → IsSoundBetween callers sends receives true (opened_lane capacity book desk)
opened_between callers sends receives capacity book desk = record {
  lane = record { counts = omega arith; handed = omega arith; out = omega arith; within = omega arith; holdings = tt; room = tt; fit = tt };
  whole = λ _. refl;
  users = tt;
  sender = tt;
  receiver = tt;
}

-- a new link is sound
pub opened_sound : {D : Type 0} (config : LinkConfig) (host remote : D) → SoundLink (opened_link config host remote)
opened_sound config host remote = record {
  to_host = opened_between _ side.Remote side.Host _ _ host;
  to_remote = opened_between _ side.Host side.Remote _ _ remote;
  hosts = λ caller sends. absurd (false≢true sends);
  remotes = λ caller sends. absurd (false≢true sends);
}

-- who was in use is in use
abbrev StayUsers : List (Option End) → List (Option End) → Type 0
StayUsers callers more = (caller : ℕ) (end : End) → IsUser callers end caller → IsUser more end caller

turn_users : {C : Type 0} (callers more : List (Option End)) (end : End) (now : Turn C) → StayUsers callers more → IsSoundTurn callers end now → IsSoundTurn more end now
turn_users callers more end turn.Free stay sound = tt
turn_users callers more end (turn.Taken caller call) stay sound = stay caller end sound
turn_users callers more end (turn.Leaving caller ended) stay sound = stay caller end sound
turn_users callers more end turn.Manager stay sound = tt

held_users : (callers more : List (Option End)) (end : End) (held : List Holding) → StayUsers callers more → AreUsers callers end held → AreUsers more end held
held_users callers more end [] stay users = tt
held_users callers more end (h ∷ hs) stay users = (stay h.caller end users.0, held_users callers more end hs stay users.1)

between_users : {D : Type 0} (callers more : List (Option End)) (sends receives : End) (live : Bool) (state : LaneState D) → StayUsers callers more
    → IsSoundBetween callers sends receives live state → IsSoundBetween more sends receives live state
between_users callers more sends receives live state stay sound = record {
  lane = sound.lane;
  whole = sound.whole;
  users = held_users callers more receives state.lane.held stay sound.users;
  sender = turn_users callers more sends state.sender stay sound.sender;
  receiver = turn_users callers more receives state.receiver stay sound.receiver;
}

-- the making of a caller keeps a link sound
pub caller_sound : {D : Type 0} (link : LinkState D) (new : End) → SoundLink link → SoundLink (record link { callers = with_caller link.callers new (free_number link.callers) })
caller_sound link new sound =
    let more = with_caller link.callers new (free_number link.callers) in
    let stay : StayUsers link.callers more = λ caller end user. stays_in_use link.callers new caller end user in
    record {
      to_host = between_users link.callers more side.Remote side.Host link.era.is_live link.to_host stay sound.to_host;
      to_remote = between_users link.callers more side.Host side.Remote link.era.is_live link.to_remote stay sound.to_remote;
      hosts = sound.hosts;
      remotes = sound.remotes;
    }
