use Rattle.std.proofs.Common.{sym, ◌∙◌, []}
use Rattle.lane_model.specs.declared.stages.TakeStage.TheVariants as take_stage
use Rattle.lane_model.specs.declared.stages.Work.TheVariants as work
use Rattle.split_ring.specs.Turns.{receive_slots}
use Rattle.split_ring.proofs.Seats.{finds}
use Rattle.split_ring.proofs.TakeSteps.{alone, work_at, take_live, take_dead}
use Rattle.split_ring.specs.Focus.{seat_of}
use Rattle.split_ring.proofs.links.SharedLink.find_take_era.Goals as goal

pub load_era-requires-clause-call : goal.load_era-requires-clause-call
load_era-requires-clause-call g c =
    let me = seat_of c.args.call.now.who.number c.args.seat.now.me in let who = c.args.call.now.who in let q = c.requires.call in let w = work.Take take_stage.Turn in
    (who.end, work_at me who w q.side 0 [] (receive_slots who q.side) q.at (alone me who w q.side 0 [] q.at))

pub returns-then-is_live_in-clause-live : goal.returns-then-is_live_in-clause-live
returns-then-is_live_in-clause-live g c =
    let me = seat_of c.args.call.now.who.number c.args.seat.now.me in let me' = seat_of c.args.call.now.who.number c.load_era.new.seat.me in
    take_live g.row.D.coded g.D.Desk.meaning me me' c.args.call.now c.load_era.result c.era_of-era.result c.requires.call c.load_era.ensures.told (finds g.row.D.coded g.D.Desk.meaning me me' 16 c.load_era.result c.load_era.ensures.step) c.era_of-era.ensures (sym c.is_live_in.ensures ∙ c.if-is_live_in.true)

pub returns-else-is_live_in-clause-dead : goal.returns-else-is_live_in-clause-dead
returns-else-is_live_in-clause-dead g c =
    let me = seat_of c.args.call.now.who.number c.args.seat.now.me in let me' = seat_of c.args.call.now.who.number c.load_era.new.seat.me in
    take_dead g.row.D.coded g.D.Desk.meaning me me' c.args.call.now c.load_era.result c.era_of-era.result c.requires.call c.load_era.ensures.told (finds g.row.D.coded g.D.Desk.meaning me me' 16 c.load_era.result c.load_era.ensures.step) c.era_of-era.ensures (sym c.is_live_in.ensures ∙ c.if-is_live_in.false)
