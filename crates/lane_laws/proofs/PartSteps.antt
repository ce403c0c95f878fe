-- Each part of a reclaim, and the manager's taking and leaving of a turn, keep a link sound.
use Rattle.std.proofs.Common.{◌≡◌, ◌≢◌, ℕ, eqb, length, Bool, true, false, Option, Some, None, sym, subst, arith, List, [], ◌∷◌, slice_set}
use Rattle.std.proofs.lemmas.Bool.{false≢true, or_parts, cond_both}
use Rattle.rp_base.specs.declared.kinds.End.{End}
use Rattle.rp_base.specs.declared.kinds.End.TheVariants as side
use Rattle.lane_model.specs.declared.states.Holding.{Holding}
use Rattle.lane_model.specs.declared.states.LaneState.{LaneState}
use Rattle.lane_model.specs.declared.stages.Turn.{Turn}
use Rattle.lane_model.specs.declared.stages.Turn.TheVariants as turn
use Rattle.lane_model.specs.declared.recoveries.ReclaimPart.{ReclaimPart}
use Rattle.lane_model.specs.declared.recoveries.ReclaimPart.TheVariants as part
use Rattle.lane_model.specs.declared.recoveries.LaneTurn.{LaneTurn}
use Rattle.lane_model.specs.declared.recoveries.LaneTurn.TheVariants as lane_turn
use Rattle.lane_model.specs.Lanes.{OfCall, has_call}
use Rattle.lane_model.specs.Crashes.{ended_turn, held_by_others, has_held, after_send_end, after_receive_end}
use Rattle.lane_laws.specs.Parts.{manager_takes, manager_leaves, with_manager, without_manager, turn_left_without, lanes_part, callers_part, part_done, MayPart}
use Rattle.lane_model.specs.Links.{LinkState, Lanes, lanes_of, end_of}
use Rattle.lane_model.specs.Conditions.{IsFitReceiver}
use Rattle.lane_model.specs.Soundness.{IsUser, AreUsers, IsSoundLane, IsSoundTurn, IsSoundBetween, IsAlone, SoundLink}
use Rattle.lane_model.proofs.SoundLanes.{sender_changed, receiver_changed}
use Rattle.lane_laws.proofs.SoundKept.{IsSoundLanes, hosts_see, remotes_see}
use Rattle.lane_model.proofs.CrashSteps.{others_have, others_once, others_fewer, send_ended_sound, receive_ended_sound}
use Rattle.lane_laws.proofs.CrashLaws.{closed_between, stays, users_apart, turn_apart, ended_had, not_then, host_is_not, remote_is_not}

-- what holds of the call that has a turn, where the manager takes or leaves that turn
pub taken_of : {C : Type 0} (P : ℕ → C → Type 0) (now : Turn C) → OfCall now P → OfCall (manager_takes now) P
taken_of P turn.Free of = tt
taken_of P (turn.Taken caller call) of = of
taken_of P (turn.Leaving caller ended) of = tt
taken_of P turn.Manager of = tt

left_of : {C : Type 0} (P : ℕ → C → Type 0) (now : Turn C) → OfCall now P → OfCall (manager_leaves now) P
left_of P turn.Free of = tt
left_of P (turn.Taken caller call) of = of
left_of P (turn.Leaving caller ended) of = tt
left_of P turn.Manager of = tt

taken_turn : {C : Type 0} (callers : List (Option End)) (end : End) (now : Turn C) → IsSoundTurn callers end now → IsSoundTurn callers end (manager_takes now)
taken_turn callers end turn.Free sound = tt
taken_turn callers end (turn.Taken caller call) sound = sound
taken_turn callers end (turn.Leaving caller ended) sound = sound
taken_turn callers end turn.Manager sound = tt

left_turn : {C : Type 0} (callers : List (Option End)) (end : End) (now : Turn C) → IsSoundTurn callers end now → IsSoundTurn callers end (manager_leaves now)
left_turn callers end turn.Free sound = tt
left_turn callers end (turn.Taken caller call) sound = sound
left_turn callers end (turn.Leaving caller ended) sound = sound
left_turn callers end turn.Manager sound = tt

taken_had : {C : Type 0} (now : Turn C) (caller : ℕ) → has_call (manager_takes now) caller ≡ true → has_call now caller ≡ true
taken_had turn.Free caller has = has
taken_had (turn.Taken other call) caller has = has
taken_had (turn.Leaving other ended) caller has = has
taken_had turn.Manager caller has = has

left_had : {C : Type 0} (now : Turn C) (caller : ℕ) → has_call (manager_leaves now) caller ≡ true → has_call now caller ≡ true
left_had turn.Free caller has = has
left_had (turn.Taken other call) caller has = has
left_had (turn.Leaving other ended) caller has = has
left_had turn.Manager caller has = has

-- a lane whose turn the manager takes or leaves
pub lane_taken_sound : {D : Type 0} (state : LaneState D) (which : LaneTurn) → IsSoundLane state → IsSoundLane (with_manager state which)
lane_taken_sound state lane_turn.Sender sound = sender_changed state _ sound (taken_of _ state.sender sound.room)
lane_taken_sound state lane_turn.Receiver sound = receiver_changed state _ state.desk sound (taken_of _ state.receiver sound.fit)

pub lane_left_sound : {D : Type 0} (state : LaneState D) (which : LaneTurn) → IsSoundLane state → IsSoundLane (without_manager state which)
lane_left_sound state lane_turn.Sender sound = sender_changed state _ sound (left_of _ state.sender sound.room)
lane_left_sound state lane_turn.Receiver sound = receiver_changed state _ state.desk sound (left_of _ state.receiver sound.fit)

taken_between : {D : Type 0} (callers : List (Option End)) (sends receives : End) (live : Bool) (state : LaneState D) (which : LaneTurn) → IsSoundBetween callers sends receives live state
    → IsSoundBetween callers sends receives live (with_manager state which)
taken_between callers sends receives live state lane_turn.Sender sound = record {
  lane = lane_taken_sound state lane_turn.Sender sound.lane;
  whole = sound.whole;
  users = sound.users;
  sender = taken_turn callers sends state.sender sound.sender;
  receiver = sound.receiver;
}
taken_between callers sends receives live state lane_turn.Receiver sound = record {
  lane = lane_taken_sound state lane_turn.Receiver sound.lane;
  whole = sound.whole;
  users = sound.users;
  sender = sound.sender;
  receiver = taken_turn callers receives state.receiver sound.receiver;
}

left_between : {D : Type 0} (callers : List (Option End)) (sends receives : End) (live : Bool) (state : LaneState D) (which : LaneTurn) → IsSoundBetween callers sends receives live state
    → IsSoundBetween callers sends receives live (without_manager state which)
left_between callers sends receives live state lane_turn.Sender sound = record {
  lane = lane_left_sound state lane_turn.Sender sound.lane;
  whole = sound.whole;
  users = sound.users;
  sender = left_turn callers sends state.sender sound.sender;
  receiver = sound.receiver;
}
left_between callers sends receives live state lane_turn.Receiver sound = record {
  lane = lane_left_sound state lane_turn.Receiver sound.lane;
  whole = sound.whole;
  users = sound.users;
  sender = sound.sender;
  receiver = left_turn callers receives state.receiver sound.receiver;
}

-- a pair of lanes of which one is changed so that no new call has a turn
alone_taken : {D : Type 0} (outgoing incoming : LaneState D) (which : LaneTurn) → IsAlone outgoing incoming → IsAlone (with_manager outgoing which) incoming
alone_taken outgoing incoming lane_turn.Sender alone = λ caller sends. alone caller (taken_had outgoing.sender caller sends)
alone_taken outgoing incoming lane_turn.Receiver alone = alone

alone_beside_taken : {D : Type 0} (outgoing incoming : LaneState D) (which : LaneTurn) → IsAlone outgoing incoming → IsAlone outgoing (with_manager incoming which)
alone_beside_taken outgoing incoming lane_turn.Sender alone = alone
alone_beside_taken outgoing incoming lane_turn.Receiver alone = λ caller sends. not_then _ _ (taken_had incoming.receiver caller) (alone caller sends)

alone_left : {D : Type 0} (outgoing incoming : LaneState D) (which : LaneTurn) → IsAlone outgoing incoming → IsAlone (without_manager outgoing which) incoming
alone_left outgoing incoming lane_turn.Sender alone = λ caller sends. alone caller (left_had outgoing.sender caller sends)
alone_left outgoing incoming lane_turn.Receiver alone = alone

alone_beside_left : {D : Type 0} (outgoing incoming : LaneState D) (which : LaneTurn) → IsAlone outgoing incoming → IsAlone outgoing (without_manager incoming which)
alone_beside_left outgoing incoming lane_turn.Sender alone = alone
alone_beside_left outgoing incoming lane_turn.Receiver alone = λ caller sends. not_then _ _ (left_had incoming.receiver caller) (alone caller sends)

-- the manager's taking of a turn of either lane keeps a link sound
pub manager_takes_sound : {D : Type 0} (link : LinkState D) (which : LaneTurn) → SoundLink link
    → SoundLink (record link { to_host = with_manager link.to_host which }) × SoundLink (record link { to_remote = with_manager link.to_remote which })
manager_takes_sound link which sound = (
  record {
    to_host = taken_between link.callers side.Remote side.Host link.era.is_live link.to_host which sound.to_host;
    to_remote = sound.to_remote;
    hosts = alone_beside_taken link.to_remote link.to_host which sound.hosts;
    remotes = alone_taken link.to_host link.to_remote which sound.remotes;
  },
  record {
    to_host = sound.to_host;
    to_remote = taken_between link.callers side.Host side.Remote link.era.is_live link.to_remote which sound.to_remote;
    hosts = alone_taken link.to_remote link.to_host which sound.hosts;
    remotes = alone_beside_taken link.to_host link.to_remote which sound.remotes;
  },
)

-- the manager's leaving of a turn of either lane keeps a link sound
pub manager_leaves_sound : {D : Type 0} (link : LinkState D) (which : LaneTurn) → SoundLink link
    → SoundLink (record link { to_host = without_manager link.to_host which }) × SoundLink (record link { to_remote = without_manager link.to_remote which })
manager_leaves_sound link which sound = (
  record {
    to_host = left_between link.callers side.Remote side.Host link.era.is_live link.to_host which sound.to_host;
    to_remote = sound.to_remote;
    hosts = alone_beside_left link.to_remote link.to_host which sound.hosts;
    remotes = alone_left link.to_host link.to_remote which sound.remotes;
  },
  record {
    to_host = sound.to_host;
    to_remote = left_between link.callers side.Host side.Remote link.era.is_live link.to_remote which sound.to_remote;
    hosts = alone_left link.to_remote link.to_host which sound.hosts;
    remotes = alone_beside_left link.to_host link.to_remote which sound.remotes;
  },
)

ended_stays : {C : Type 0} (callers : List (Option End)) (end : End) (now : Turn C) (gone : ℕ) → IsSoundTurn callers end now → IsSoundTurn callers end (ended_turn now gone)
ended_stays {C} callers end now gone sound = cond_both (has_call now gone) turn.Free now (λ (left : Turn C). IsSoundTurn callers end left) (λ _. tt) (λ _. sound)

others_users : (callers : List (Option End)) (end : End) (held : List Holding) (gone : ℕ) → AreUsers callers end held → AreUsers callers end (held_by_others held gone)
others_users callers end [] gone users = tt
others_users callers end (h ∷ hs) gone users =
    let rest = others_users callers end hs gone users.1 in
    others_have (AreUsers callers end) h hs gone (λ _. (users.0, rest)) (λ _. rest)

turn_stays : {C : Type 0} (callers : List (Option End)) (end : End) (now : Turn C) (gone : ℕ) → has_call now gone ≡ false → IsSoundTurn callers end now → IsSoundTurn (slice_set callers gone None) end now
turn_stays callers end turn.Free gone silent sound = tt
turn_stays callers end (turn.Taken caller call) gone silent sound = stays callers gone caller end silent sound
turn_stays callers end (turn.Leaving caller ended) gone silent sound = stays callers gone caller end silent sound
turn_stays callers end turn.Manager gone silent sound = tt

users_stay : (callers : List (Option End)) (end : End) (held : List Holding) (gone : ℕ) → has_held held gone ≡ false → AreUsers callers end held → AreUsers (slice_set callers gone None) end held
users_stay callers end [] gone none users = tt
users_stay callers end (h ∷ hs) gone none users =
    let parts = or_parts (eqb h.caller gone) (has_held hs gone) none in
    (stays callers gone h.caller end parts.0 users.0, users_stay callers end hs gone parts.1 users.1)

-- the lane without what a caller holds, whose receiver's turn the manager leaves
left_without_sound : {D : Type 0} (state : LaneState D) (caller : ℕ) → state.receiver ≡ turn.Manager → IsSoundLane state → IsSoundLane (turn_left_without state caller)
left_without_sound state caller is sound = record {
  counts = let fewer = others_fewer state.lane.held caller in omega (arith, fewer, sound.counts);
  handed = sound.handed;
  out = sound.out;
  within = sound.within;
  holdings = others_once (length state.lane.takers) state.lane.held caller sound.holdings;
  room = sound.room;
  fit = subst (λ now. IsFitReceiver (manager_leaves now) (record state.lane { held = held_by_others state.lane.held caller })) (sym is) tt;
}

outgoing_ends : {D : Type 0} (callers : List (Option End)) (own other : End) (state : LaneState D) (caller : ℕ) → IsSoundBetween callers own other false state
    → IsSoundBetween callers own other false (after_send_end state caller)
outgoing_ends callers own other state caller sound = record {
  lane = send_ended_sound state caller sound.lane;
  whole = sound.whole;
  users = sound.users;
  sender = ended_stays callers own state.sender caller sound.sender;
  receiver = sound.receiver;
}

incoming_ends : {D : Type 0} (callers : List (Option End)) (own other : End) (state : LaneState D) (caller : ℕ) → IsSoundBetween callers other own false state
    → IsSoundBetween callers other own false (after_receive_end state caller)
incoming_ends callers own other state caller sound = record {
  lane = receive_ended_sound state caller sound.lane;
  whole = λ is. absurd (false≢true is);
  users = others_users callers own state.lane.held caller sound.users;
  sender = sound.sender;
  receiver = ended_stays callers own state.receiver caller sound.receiver;
}

-- the lanes of a caller after a part of its reclaim, in a closed era
part_lanes_sound : {D : Type 0} (callers : List (Option End)) (own other : End) (lanes : Lanes (LaneState D)) (caller : ℕ) (which : ReclaimPart) → own ≢ other → IsUser callers own caller → MayPart lanes caller which
    → IsSoundLanes callers own other false lanes → IsSoundLanes (callers_part callers caller which) own other false (lanes_part lanes caller which)
part_lanes_sound callers own other lanes caller part.TakesTurn differ user may sound = record {
  outgoing = sound.outgoing;
  incoming = taken_between callers other own false lanes.incoming lane_turn.Receiver sound.incoming;
  alone = alone_beside_taken lanes.outgoing lanes.incoming lane_turn.Receiver sound.alone;
  others = alone_taken lanes.incoming lanes.outgoing lane_turn.Receiver sound.others;
}
part_lanes_sound {D} callers own other lanes caller part.EndsCall differ user may sound =
    record {
      outgoing = outgoing_ends callers own other lanes.outgoing caller sound.outgoing;
      incoming = cond_both (has_call lanes.incoming.receiver caller) (after_receive_end lanes.incoming caller) lanes.incoming (λ (state : LaneState D). IsSoundBetween callers other own false state)
          (λ _. incoming_ends callers own other lanes.incoming caller sound.incoming) (λ _. sound.incoming);
      alone = λ n sends.
          let silent = sound.alone n (ended_had lanes.outgoing.sender caller n sends) in
          cond_both (has_call lanes.incoming.receiver caller) (after_receive_end lanes.incoming caller) lanes.incoming (λ (state : LaneState D). has_call state.receiver n ≡ false)
          (λ _. not_then _ _ (ended_had lanes.incoming.receiver caller n) silent) (λ _. silent);
      others = cond_both (has_call lanes.incoming.receiver caller) (after_receive_end lanes.incoming caller) lanes.incoming (λ (state : LaneState D). IsAlone state (after_send_end lanes.outgoing caller))
          (λ _. sound.others) (λ _. sound.others);
    }
part_lanes_sound callers own other lanes caller part.LeavesTurn differ user may sound = record {
  outgoing = sound.outgoing;
  incoming = record {
    lane = left_without_sound lanes.incoming caller may sound.incoming.lane;
    whole = λ is. absurd (false≢true is);
    users = others_users callers own lanes.incoming.lane.held caller sound.incoming.users;
    sender = sound.incoming.sender;
    receiver = left_turn callers own lanes.incoming.receiver sound.incoming.receiver;
  };
  alone = alone_beside_left lanes.outgoing lanes.incoming lane_turn.Receiver sound.alone;
  others = sound.others;
}
part_lanes_sound callers own other lanes caller part.FreesNumber differ user may sound =
    let silent = or_parts _ _ may.0 in
    record {
      outgoing = record {
        lane = sound.outgoing.lane;
        whole = sound.outgoing.whole;
        users = users_apart callers own other lanes.outgoing.lane.held caller differ user sound.outgoing.users;
        sender = turn_stays callers own lanes.outgoing.sender caller silent.0 sound.outgoing.sender;
        receiver = turn_apart callers own other lanes.outgoing.receiver caller differ user sound.outgoing.receiver;
      };
      incoming = record {
        lane = sound.incoming.lane;
        whole = sound.incoming.whole;
        users = users_stay callers own lanes.incoming.lane.held caller may.1 sound.incoming.users;
        sender = turn_apart callers own other lanes.incoming.sender caller differ user sound.incoming.sender;
        receiver = turn_stays callers own lanes.incoming.receiver caller silent.1 sound.incoming.receiver;
      };
      alone = sound.alone;
      others = sound.others;
    }

-- lanes of a closed link
shut_lanes : {D : Type 0} (callers : List (Option End)) (own other : End) (live : Bool) (lanes : Lanes (LaneState D)) → IsSoundLanes callers own other live lanes → IsSoundLanes callers own other false lanes
shut_lanes callers own other live lanes sound = record {
  outgoing = closed_between callers own other live lanes.outgoing sound.outgoing;
  incoming = closed_between callers other own live lanes.incoming sound.incoming;
  alone = sound.alone;
  others = sound.others;
}

-- each part of a reclaim in a closed era keeps a link sound
pub part_sound : {D : Type 0} (link : LinkState D) (end : End) (caller : ℕ) (which : ReclaimPart) → link.era.is_live ≡ false → end_of link.callers caller ≡ Some end → MayPart (lanes_of link end) caller which
    → SoundLink link → SoundLink (part_done link end caller which)
part_sound {D} link side.Host caller which shut user may sound =
    let left = part_lanes_sound link.callers side.Host side.Remote (lanes_of link side.Host) caller which host_is_not user may
    (shut_lanes link.callers side.Host side.Remote link.era.is_live (lanes_of link side.Host) (hosts_see link sound)) in
    record {
      to_host = subst (λ live. IsSoundBetween (callers_part link.callers caller which) side.Remote side.Host live (lanes_part (lanes_of link side.Host) caller which).incoming) (sym shut) left.incoming;
      to_remote = subst (λ live. IsSoundBetween (callers_part link.callers caller which) side.Host side.Remote live (lanes_part (lanes_of link side.Host) caller which).outgoing) (sym shut) left.outgoing;
      hosts = left.alone;
      remotes = left.others;
    }
part_sound {D} link side.Remote caller which shut user may sound =
    let left = part_lanes_sound link.callers side.Remote side.Host (lanes_of link side.Remote) caller which remote_is_not user may
    (shut_lanes link.callers side.Remote side.Host link.era.is_live (lanes_of link side.Remote) (remotes_see link sound)) in
    record {
      to_host = subst (λ live. IsSoundBetween (callers_part link.callers caller which) side.Remote side.Host live (lanes_part (lanes_of link side.Remote) caller which).outgoing) (sym shut) left.outgoing;
      to_remote = subst (λ live. IsSoundBetween (callers_part link.callers caller which) side.Host side.Remote live (lanes_part (lanes_of link side.Remote) caller which).incoming) (sym shut) left.incoming;
      hosts = left.others;
      remotes = left.alone;
    }
