-- What crosses threads: the seats of callers and of the manager, calls under way, and a link, where its desks may cross. What has a snapshot in it
-- is found by `search` alone, so the types above one have lines here.
use denote.RattleType.{RattleType}
use denote.Struct.Declared.{shape}
use denote.Struct.Struct.{Struct}
use denote.Param.Send.{IsSend, IsSync, sendable, recorded_send, recorded_sync, struct_send, struct_sync}
use Rattle.lane_model.specs.declared.desks.Desk.{Ghosts}
use Rattle.atomic_table.proofs.owned.Table.TheSendSync as table
use Rattle.atomic_table.proofs.shared.Seat.TheSendSync as seat
use Rattle.link_words.proofs.sides.ReceiverState.TheSendSync as receiver
use Rattle.link_words.specs.contracts.rule.Slot as Slot
use Rattle.rp_base.proofs.messages.Message.TheSendSync as message
use Rattle.link_words.specs.contracts.rule.LinkSizes as LinkSizes
use Rattle.std.proofs.Crossing.{crosses}
use Rattle.split_ring.specs.contracts.binds.DeskAsk as DeskAsk
use Rattle.split_ring.specs.contracts.callers.Caller as Caller
use Rattle.split_ring.specs.contracts.callers.Manager as Manager
use Rattle.split_ring.specs.contracts.calls.RingCall as RingCall
use Rattle.split_ring.specs.contracts.links.SharedLink.{the_type, the_row}
use Rattle.split_ring.specs.contracts.sends.SendCall as SendCall
use Rattle.split_ring.specs.contracts.stages.Phase as Phase
use Rattle.split_ring.specs.contracts.stages.Stage as Stage
use Rattle.split_ring.proofs.held_places.HeldPlace.TheSendSync as place
use Rattle.split_ring.specs.contracts.takes.TakeCall as TakeCall

pub slot_send : IsSend Slot.the_row
slot_send = search (sendable, crosses, receiver.the_send, message.the_send) depth 100 fits 100000

sizes_sync : IsSync (LinkSizes.the_field).row
sizes_sync = search (sendable, crosses) depth 20

pub link_sync : (D : RattleType) (g : Ghosts D.Denot) → IsSend D → IsSync (the_row D g)
link_sync D g s =
    let T = the_type D g in let a = slot_send in
    recorded_sync (Struct (shape T)) T.D T.to T.to_one (struct_sync (shape T) (search (sendable, crosses, table.the_field_sync) depth 20, (search (sendable, crosses, table.the_field_sync) depth 20, (search (sendable, crosses, table.the_field_sync) depth 20, (sizes_sync, tt)))))

sizes_send : IsSend (LinkSizes.the_field).row
sizes_send = search (sendable, crosses) depth 20

pub link_send : (D : RattleType) (g : Ghosts D.Denot) → IsSend D → IsSend (the_row D g)
link_send D g s =
    let T = the_type D g in let a = slot_send in
    recorded_send (Struct (shape T)) T.D T.to T.to_one (struct_send (shape T) (search (sendable, crosses, table.the_field_send) depth 20, (search (sendable, crosses, table.the_field_send) depth 20, (search (sendable, crosses, table.the_field_send) depth 20, (sizes_send, tt)))))

pub caller_send : IsSend Caller.the_row
caller_send = search (sendable, crosses, seat.the_send, slot_send) depth 20

-- the same as a field of a struct has it
pub caller_field_send : IsSend (Caller.the_field).row
caller_field_send = search (sendable, crosses, seat.the_send, slot_send) depth 20

pub manager_send : IsSend Manager.the_row
manager_send = search (sendable, crosses, seat.the_send, slot_send) depth 20

send_call_send : IsSend (SendCall.the_field).row
send_call_send = search (sendable, crosses) depth 20

take_call_send : IsSend (TakeCall.the_field).row
take_call_send = search (sendable, crosses) depth 20

ask_send : IsSend (DeskAsk.the_field).row
ask_send = search (sendable, crosses) depth 20

stage_send : IsSend (Stage.the_field).row
stage_send = search (sendable, crosses, send_call_send, take_call_send, ask_send) depth 100 fits 100000

phase_send : IsSend (Phase.the_field).row
phase_send = search (sendable, crosses, stage_send, place.the_send) depth 100 fits 100000

pub call_send : (D : RattleType) → IsSend D → IsSend (RingCall.the_row D)
call_send D s = search (sendable, crosses, phase_send) depth 20
