use Rattle.std.proofs.Common.{ℕ, arith, refl, subst}
use Rattle.link_words.specs.Calls.{SeatState, place_of, call_at, number_at}
use Rattle.link_words.specs.PlacedDesks.{placed_coded, placed_meaning}
use Rattle.link_words.specs.Reclaims.{DoesAt, LeavesAs, ending_of}
use Rattle.link_words.specs.Steps.{StoresWord}
use Rattle.link_words.proofs.Ends.{ends, turn_low}
use Rattle.link_words.proofs.Told.{by_first}
use Rattle.link_words.proofs.reclaims.leave_ended.Goals as goal

pub store-requires : goal.store-requires
store-requires g c =
    let me = c.args.seat.now.me in let coded = g.row.D.coded in let meaning = g.D.Desk.meaning in let q = c.requires.call in let wide = c.requires.table.1 in
    let is = c.turn_place.ensures in let low = turn_low c.args.turn c.args.lane in let place = c.turn_place.result in (
      c.requires.table.0,
      omega (arith, wide, is, low),
      by_first coded meaning c.args.table.now.key _ _ me place (λ _. 0) (λ (y : ℕ) (me' : SeatState). LeavesAs coded meaning place me 0 me') c.requires.table.2
          (ends (placed_coded coded me.0.sizes.desks) (placed_meaning coded me.0.sizes.desks meaning) me.0.sizes _ _ me c.args.turn c.args.lane place is refl q.call q.stands q.may),
    )

pub returns-clause-step : goal.returns-clause-step
returns-clause-step g c =
    let me = c.args.seat.now.me in let me' = c.store.new.seat.me in let k = place_of me in
    subst (λ (p : ℕ). DoesAt g.row.D.coded g.D.Desk.meaning k me (StoresWord p 0) (ending_of (call_at k me.0.passes) (number_at k me.0.passes)) me') c.turn_place.ensures c.store.ensures.2.0.1
