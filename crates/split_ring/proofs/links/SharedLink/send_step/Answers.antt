use Rattle.std.specs.Prelude.{Err}
use Rattle.lane_model.specs.declared.calls.Answer.TheVariants as answer
use Rattle.lane_model.specs.declared.stages.SendStage.TheVariants as stage
use Rattle.split_ring.specs.CallPhases as phase
use Rattle.split_ring.specs.Calls.{send_answer}
use Rattle.split_ring.specs.Focus.{seat_of}
use Rattle.split_ring.proofs.CallSteps.{send_by, send_live, send_dead, send_room, send_none, send_buffer, send_stored, send_sent}
use Rattle.split_ring.proofs.links.SharedLink.send_step.Goals as goal

pub returns-in-Ok-clause-step : goal.returns-in-Ok-clause-step
returns-in-Ok-clause-step g c =
    let coded = g.row.D.coded in let meaning = g.D.Desk.meaning in let z = c.args.self.now.sizes in let call = c.args.call.now in let full = c.args.seat.now.me in let m = c.args.message.now in let full' = c.find_send_era.new.seat.me in let me = seat_of call.who.number full in let me' = seat_of call.who.number full' in
    send_by coded meaning z c.args.who c.args.stage.now stage.Turn call m (phase.Sends stage.Era call m) full full' c.in-Turn.is c.requires.stands.1 (send_live coded meaning z call m me me' c.requires.stands.2 c.in-Ok.ensures.live)

pub returns-in-Err-clause-step : goal.returns-in-Err-clause-step
returns-in-Err-clause-step g c =
    let coded = g.row.D.coded in let meaning = g.D.Desk.meaning in let z = c.args.self.now.sizes in let call = c.args.call.now in let full = c.args.seat.now.me in let m = c.args.message.now in let full' = c.find_send_era.new.seat.me in let me = seat_of call.who.number full in let me' = seat_of call.who.number full' in
    send_by coded meaning z c.args.who c.args.stage.now stage.Turn call m (phase.LeavesSender (answer.Dead c.in-Err.era)) full full' c.in-Turn.is c.requires.stands.1 (send_dead coded meaning z call m c.in-Err.era me me' c.in-Err.ensures.dead)

pub returns-in-Ok-look_for_room-clause-step : goal.returns-in-Ok-look_for_room-clause-step
returns-in-Ok-look_for_room-clause-step g c =
    let coded = g.row.D.coded in let meaning = g.D.Desk.meaning in let z = c.args.self.now.sizes in let call = c.args.call.now in let full = c.args.seat.now.me in let m = c.args.message.now in let full' = c.look_for_room.new.seat.me in let me = seat_of call.who.number full in let me' = seat_of call.who.number full' in
    send_by coded meaning z c.args.who c.args.stage.now stage.Era call m (phase.Sends stage.Look call m) full full' c.in-Era.is c.requires.stands.1 (send_room coded meaning z call m me me' c.requires.stands.2 c.in-Ok-look_for_room.ensures.room)

pub returns-in-Err-look_for_room-clause-step : goal.returns-in-Err-look_for_room-clause-step
returns-in-Err-look_for_room-clause-step g c =
    let coded = g.row.D.coded in let meaning = g.D.Desk.meaning in let z = c.args.self.now.sizes in let call = c.args.call.now in let full = c.args.seat.now.me in let m = c.args.message.now in let full' = c.look_for_room.new.seat.me in let me = seat_of call.who.number full in let me' = seat_of call.who.number full' in
    send_by coded meaning z c.args.who c.args.stage.now stage.Era call m (phase.LeavesSender (send_answer (Err c.in-Err-look_for_room.fault))) full full' c.in-Era.is c.requires.stands.1 (send_none coded meaning z call m c.in-Err-look_for_room.fault me me' c.in-Err-look_for_room.ensures.none)

pub returns-in-Look-clause-step : goal.returns-in-Look-clause-step
returns-in-Look-clause-step g c =
    let coded = g.row.D.coded in let meaning = g.D.Desk.meaning in let z = c.args.self.now.sizes in let call = c.args.call.now in let full = c.args.seat.now.me in let m = c.args.message.now in let full' = c.take_free-call.new.seat.me in let me = seat_of call.who.number full in let me' = seat_of call.who.number full' in
    send_by coded meaning z c.args.who c.args.stage.now stage.Look call m (phase.Sends stage.Buffer (record call { buffer = c.take_free-call.result }) m) full full' c.in-Look.is c.requires.stands.1 (send_buffer coded meaning z call m c.take_free-call.result me me' c.requires.stands.2 c.take_free-call.ensures.out c.take_free-call.ensures.done)

pub returns-in-Buffer-clause-step : goal.returns-in-Buffer-clause-step
returns-in-Buffer-clause-step g c =
    let coded = g.row.D.coded in let meaning = g.D.Desk.meaning in let z = c.args.self.now.sizes in let call = c.args.call.now in let full = c.args.seat.now.me in let m = c.args.message.now in let full' = c.store_message.new.seat.me in let me = seat_of call.who.number full in let me' = seat_of call.who.number full' in
    send_by coded meaning z c.args.who c.args.stage.now stage.Buffer call m (phase.Sends stage.Entry call m) full full' c.in-Buffer.is c.requires.stands.1 (send_stored coded meaning z call m me me' c.requires.stands.2 c.store_message.ensures.stored c.store_message.ensures.done)

pub returns-in-Entry-clause-step : goal.returns-in-Entry-clause-step
returns-in-Entry-clause-step g c =
    let coded = g.row.D.coded in let meaning = g.D.Desk.meaning in let z = c.args.self.now.sizes in let call = c.args.call.now in let full = c.args.seat.now.me in let m = c.args.message.now in let full' = c.publish_message.new.seat.me in let me = seat_of call.who.number full in let me' = seat_of call.who.number full' in
    send_by coded meaning z c.args.who c.args.stage.now stage.Entry call m (phase.LeavesSender (answer.Sent call.accepted)) full full' c.in-Entry.is c.requires.stands.1 (send_sent coded meaning z call m me me' c.publish_message.ensures.published c.publish_message.ensures.done)
