use Rattle.std.proofs.Common.{sym, ◌∙◌}
use Rattle.lane_model.specs.declared.stages.SendStage.TheVariants as stage
use Rattle.split_ring.specs.Sends.{send_slots}
use Rattle.link_words.specs.Words.{other}
use Rattle.split_ring.proofs.Seats.{finds}
use Rattle.split_ring.proofs.SendSteps.{alone, send_at, send_live, send_dead}
use Rattle.split_ring.specs.Focus.{seat_of}
use Rattle.split_ring.proofs.links.SharedLink.find_send_era.Goals as goal

pub load_era-requires-clause-call : goal.load_era-requires-clause-call
load_era-requires-clause-call g c =
    let me = seat_of c.args.call.now.who.number c.args.seat.now.me in let call = c.args.call.now in let at = c.requires.call.0 in (other call.who.end, send_at me call stage.Turn (send_slots call) at (alone me call stage.Turn at))

pub returns-then-is_live_in-clause-live : goal.returns-then-is_live_in-clause-live
returns-then-is_live_in-clause-live g c =
    let me = seat_of c.args.call.now.who.number c.args.seat.now.me in let me' = seat_of c.args.call.now.who.number c.load_era.new.seat.me in
    send_live g.row.D.coded g.D.Desk.meaning me me' c.args.call.now c.load_era.result c.era_of-era.result c.requires.call c.load_era.ensures.told (finds g.row.D.coded g.D.Desk.meaning me me' 16 c.load_era.result c.load_era.ensures.step) c.era_of-era.ensures (sym c.is_live_in.ensures ∙ c.if-is_live_in.true)

pub returns-else-is_live_in-clause-dead : goal.returns-else-is_live_in-clause-dead
returns-else-is_live_in-clause-dead g c =
    let me = seat_of c.args.call.now.who.number c.args.seat.now.me in let me' = seat_of c.args.call.now.who.number c.load_era.new.seat.me in
    send_dead g.row.D.coded g.D.Desk.meaning me me' c.args.call.now c.load_era.result c.era_of-era.result c.requires.call c.load_era.ensures.told (finds g.row.D.coded g.D.Desk.meaning me me' 16 c.load_era.result c.load_era.ensures.step) c.era_of-era.ensures (sym c.is_live_in.ensures ∙ c.if-is_live_in.false)
