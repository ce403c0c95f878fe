use Rattle.link_words.specs.PlacedDesks.{placed_coded, placed_meaning}
use Rattle.std.proofs.Common.{ℕ, arith, refl}
use Rattle.link_words.specs.Calls.{SeatState}
use Rattle.link_words.specs.Seats.{LearnsEra}
use Rattle.link_words.specs.Steps.{LooksAtLink}
use Rattle.link_words.proofs.Apart.{apart}
use Rattle.link_words.proofs.Endings.{learns_shut}
use Rattle.link_words.proofs.Told.{by_first}
use Rattle.link_words.proofs.seats.learn_era.Goals as goal

pub load-requires : goal.load-requires
load-requires g c =
    let wide = c.requires.table.1 in let me = c.args.manager.now.me in let z = me.0.sizes in let coded = g.row.D.coded in let meaning = g.D.Desk.meaning in
    let cd = placed_coded coded z.desks in let desk = placed_meaning coded z.desks meaning in let then : ℕ → SeatState → Type 0 = λ y me'. LearnsEra me y me' × LooksAtLink coded meaning y me in (
      c.requires.table.0,
      omega (arith, wide),
      by_first coded meaning c.args.table.now.key _ _ me 16 (λ y. y) then c.requires.table.2 (apart cd desk z _ _ me 1 16 (λ y. y) then refl (learns_shut cd desk z _ _ me c.requires.manager)),
    )
