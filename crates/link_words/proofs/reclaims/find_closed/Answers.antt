use Rattle.std.proofs.Common.{ℕ, arith}
use Rattle.link_words.specs.Calls.{SeatState, place_of}
use Rattle.link_words.specs.Deeds.{Nothing}
use Rattle.link_words.specs.PlacedDesks.{placed_coded, placed_meaning}
use Rattle.link_words.specs.Reclaims.{DoesAt, FindsClosed}
use Rattle.link_words.specs.Steps.{HasWord}
use Rattle.link_words.proofs.Ends.{finds}
use Rattle.link_words.proofs.Told.{by_first}
use Rattle.link_words.proofs.reclaims.find_closed.Goals as goal

pub load-requires : goal.load-requires
load-requires g c =
    let me = c.args.seat.now.me in let coded = g.row.D.coded in let meaning = g.D.Desk.meaning in let q = c.requires.turn in let wide = c.requires.table.1 in (
      c.requires.table.0,
      omega (arith, wide),
      by_first coded meaning c.args.table.now.key _ _ me 16 (λ y. y) (λ (y : ℕ) (me' : SeatState). FindsClosed me y me' × DoesAt coded meaning (place_of me) me (HasWord 16 y) Nothing me') c.requires.table.2
          (finds (placed_coded coded me.0.sizes.desks) (placed_meaning coded me.0.sizes.desks meaning) me.0.sizes _ _ me q.0 q.1 q.2),
    )
