-- A step of a caller keeps the numbers and bytes of its link within their types, and so does what it tells.
use Rattle.std.proofs.Common.{◌≡◌, ℕ, ◌<◌, ◌≤◌, ◌^◌, List, length, Option, Some, None, IfSome, slice_get, refl, arith}
use Rattle.std.specs.Option.{option_and_then}
use Rattle.std.proofs.lemmas.Bool.{cond_both}
use Rattle.std.proofs.lemmas.Option.{slice_get_within}
use Rattle.rp_base.specs.declared.kinds.End.{End}
use Rattle.rp_base.specs.declared.kinds.End.TheVariants as side
use Rattle.rp_base.specs.declared.kinds.Era.{Era}
use Rattle.lane_model.specs.declared.states.LaneState.{LaneState}
use Rattle.lane_model.specs.declared.stages.GiveStage.TheVariants as give_stage
use Rattle.lane_model.specs.declared.stages.SendStage.TheVariants as stage
use Rattle.lane_model.specs.declared.stages.TakeStage.TheVariants as take_stage
use Rattle.lane_model.specs.declared.stages.Turn.{Turn}
use Rattle.lane_model.specs.declared.stages.Turn.TheVariants as turn
use Rattle.lane_model.specs.declared.stages.Work.{Work}
use Rattle.lane_model.specs.declared.stages.Work.TheVariants as work
use Rattle.lane_model.specs.declared.calls.Wish.{Wish}
use Rattle.lane_model.specs.declared.calls.Wish.TheVariants as wish
use Rattle.lane_model.specs.Forms.{list_form}
use Rattle.lane_model.specs.Lanes.{Stepped, has_call, holder}
use Rattle.lane_model.specs.Links.{Lanes, LinkState, begun_outcome, caller_step, end_of, lanes_of, lanes_step, on_lanes, receive_first, receive_later, send_later}
use Rattle.lane_model.specs.Soundness.{IsSoundLane, IsSoundTurn, IsUser, SoundLink}
use Rattle.channel_bus.specs.Sides.{EndState, side_meaning}
use Rattle.field_laws.specs.Fields.{IsFieldLane, IsFieldLink, IsFieldOutcome, IsFieldReceiving, IsFieldSending, IsFieldWish, IsFieldWork}
use Rattle.field_laws.proofs.Lanes.{receiver_fields, sender_fields, taken_fields}

-- ---- who has a turn

user_at : (callers : List (Option End)) (caller : ℕ) (place : Option (Option End)) (end : End) → slice_get callers caller ≡ place → option_and_then (λ found. found) place ≡ Some end → caller < length callers
user_at callers caller None end is used = absurd (cc)
user_at callers caller (Some found) end is used = slice_get_within callers caller found is

pub user_small : (callers : List (Option End)) (end : End) (caller : ℕ) → length callers ≡ 64 → IsUser callers end caller → caller < 64
user_small callers end caller len used = let within = user_at callers caller (slice_get callers caller) end refl used in omega (arith, len, within)

abbrev IsSmall : ℕ → Type 0
IsSmall number = number ≤ 64

pub holder_small : {C : Type 0} (callers : List (Option End)) (end : End) (now : Turn C) → length callers ≡ 64 → IsSoundTurn callers end now → IfSome (holder now) IsSmall
holder_small callers end turn.Free len sound = tt
holder_small callers end (turn.Taken caller call) len sound = let small = user_small callers end caller len sound in omega (arith, small)
holder_small callers end (turn.Leaving caller ended) len sound = let small = user_small callers end caller len sound in omega (arith, small)
holder_small callers end turn.Manager len sound = omega arith

begun_fields : (found : Option ℕ) → IfSome found IsSmall → IsFieldOutcome (begun_outcome found)
begun_fields None is = omega arith
begun_fields (Some held) is = omega (arith, is)

-- ---- the lanes of a caller

record AreFieldLanes (lanes : Lanes (LaneState EndState)) : Type 0 where
  pub outgoing : IsFieldLane lanes.outgoing
  pub incoming : IsFieldLane lanes.incoming

record AreSoundLanes (lanes : Lanes (LaneState EndState)) : Type 0 where
  pub outgoing : IsSoundLane lanes.outgoing
  pub incoming : IsSoundLane lanes.incoming
  pub sender : IfSome (holder lanes.outgoing.sender) IsSmall
  pub receiver : IfSome (holder lanes.incoming.receiver) IsSmall

record IsFieldLanesStep (stepped : Stepped (Lanes (LaneState EndState))) : Type 0 where
  pub lanes : AreFieldLanes stepped.state
  pub outcome : IsFieldOutcome stepped.outcome

module _ (era : Era) (inc : era.inc < 2 ^ 32) (lanes : Lanes (LaneState EndState)) (sound : AreSoundLanes lanes) (are : AreFieldLanes lanes) where
  send_fields : (caller follows : ℕ) (message : List ℕ) → IsFieldWish (wish.Send message)
      → IsFieldLanesStep (lanes_step (list_form side_meaning) side_meaning era lanes caller follows (Some (wish.Send message)))
  send_fields caller follows message is = record {
    lanes = record {
      outgoing = record {
        accepted = are.outgoing.accepted;
        book = are.outgoing.book;
        sender = taken_fields IsFieldSending lanes.outgoing.sender caller (record { follows = follows; message = message; stage = stage.Turn }) are.outgoing.sender is;
        receiver = are.outgoing.receiver;
        desk = are.outgoing.desk;
      };
      incoming = are.incoming;
    };
    outcome = begun_fields (holder lanes.outgoing.sender) sound.sender;
  }

  work_fields : (caller follows : ℕ) (first : Work) → IsFieldWork first → IsFieldLanesStep (receive_first (list_form side_meaning) lanes caller follows first)
  work_fields caller follows first is = record {
    lanes = record {
      outgoing = are.outgoing;
      incoming = record {
        accepted = are.incoming.accepted;
        book = are.incoming.book;
        sender = are.incoming.sender;
        receiver = taken_fields IsFieldReceiving lanes.incoming.receiver caller (record { follows = follows; work = first }) are.incoming.receiver is;
        desk = are.incoming.desk;
      };
    };
    outcome = begun_fields (holder lanes.incoming.receiver) sound.receiver;
  }

  later_fields : IsFieldLanesStep (send_later (list_form side_meaning) era lanes)
  later_fields = let left = sender_fields era inc lanes.outgoing sound.outgoing are.outgoing in record { lanes = record { outgoing = left.state; incoming = are.incoming }; outcome = left.outcome }

  received_fields : IsFieldLanesStep (receive_later (list_form side_meaning) side_meaning era lanes)
  received_fields = let left = receiver_fields era inc lanes.incoming sound.incoming are.incoming in record { lanes = record { outgoing = are.outgoing; incoming = left.state }; outcome = left.outcome }

  lanes_fields : (caller follows : ℕ) (wished : Option Wish) → IfSome wished IsFieldWish → IsFieldLanesStep (lanes_step (list_form side_meaning) side_meaning era lanes caller follows wished)
  lanes_fields caller follows (Some (wish.Send message)) is = send_fields caller follows message is
  lanes_fields caller follows (Some wish.Take) is = work_fields caller follows (work.Take take_stage.Turn) tt
  lanes_fields caller follows (Some (wish.Give number)) is = work_fields caller follows (work.Give number give_stage.Turn) is
  lanes_fields caller follows (Some (wish.Bind address)) is = work_fields caller follows (work.Bind address) is
  lanes_fields caller follows (Some (wish.Unbind address)) is = work_fields caller follows (work.Unbind address) is
  lanes_fields caller follows None is =
      cond_both (has_call lanes.outgoing.sender caller) (send_later (list_form side_meaning) era lanes) (receive_later (list_form side_meaning) side_meaning era lanes) IsFieldLanesStep
      (λ _. later_fields) (λ _. received_fields)

-- ---- a link

pub record IsFieldLinkStep (stepped : Stepped (LinkState EndState)) : Type 0 where
  pub state : IsFieldLink stepped.state
  pub outcome : IsFieldOutcome stepped.outcome

step_at : (link : LinkState EndState) (found : Option End) (caller follows : ℕ) (wished : Option Wish) → SoundLink link → IsFieldLink link → IfSome wished IsFieldWish
    → IsFieldLinkStep (on_lanes link found (λ lanes. lanes_step (list_form side_meaning) side_meaning link.era lanes caller follows wished))
step_at link (Some side.Host) caller follows wished sound is wishes =
    let left = lanes_fields link.era is.inc (lanes_of link side.Host)
    (record {
      outgoing = sound.to_remote.lane;
      incoming = sound.to_host.lane;
      sender = holder_small link.callers side.Host link.to_remote.sender is.callers sound.to_remote.sender;
      receiver = holder_small link.callers side.Host link.to_host.receiver is.callers sound.to_host.receiver;
    })
    (record { outgoing = is.to_remote; incoming = is.to_host }) caller follows wished wishes in
    record { state = record { inc = is.inc; to_host = left.lanes.incoming; to_remote = left.lanes.outgoing; callers = is.callers }; outcome = left.outcome }
step_at link (Some side.Remote) caller follows wished sound is wishes =
    let left = lanes_fields link.era is.inc (lanes_of link side.Remote)
    (record {
      outgoing = sound.to_host.lane;
      incoming = sound.to_remote.lane;
      sender = holder_small link.callers side.Remote link.to_host.sender is.callers sound.to_host.sender;
      receiver = holder_small link.callers side.Remote link.to_remote.receiver is.callers sound.to_remote.receiver;
    })
    (record { outgoing = is.to_host; incoming = is.to_remote }) caller follows wished wishes in
    record { state = record { inc = is.inc; to_host = left.lanes.outgoing; to_remote = left.lanes.incoming; callers = is.callers }; outcome = left.outcome }
step_at link None caller follows wished sound is wishes = record { state = is; outcome = omega arith }

pub step_fields : (link : LinkState EndState) (caller follows : ℕ) (wished : Option Wish) → SoundLink link → IsFieldLink link → IfSome wished IsFieldWish
    → IsFieldLinkStep (caller_step side_meaning link caller follows wished)
step_fields link caller follows wished sound is wishes = step_at link (end_of link.callers caller) caller follows wished sound is wishes
