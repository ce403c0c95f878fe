use Rattle.std.proofs.Common.{◌+◌, ◌*◌, arith, refl}
use Rattle.link_words.specs.PlacedDesks.{placed_coded}
use Rattle.link_words.specs.Reopens.{OpensEra, OpensLink}
use Rattle.link_words.proofs.ManagerTold.{opens_told}
use Rattle.link_words.proofs.Told.{by_first}
use Rattle.link_words.proofs.reopens.open_era.Goals as goal

pub store-requires : goal.store-requires
store-requires g c =
    let me = c.args.manager.now.me in let z = me.0.sizes in let coded = g.row.D.coded in let meaning = g.D.Desk.meaning in let wide = c.requires.table.1 in let inc = c.args.inc in (
      c.requires.table.0,
      omega (arith, wide),
      by_first coded meaning c.args.table.now.key _ _ me 16 (λ _. (inc + 1) * 2 + 1) (λ _ me'. OpensEra coded meaning me me' × OpensLink coded meaning me me') c.requires.table.2
          (opens_told coded z.desks (placed_coded coded z.desks) meaning z _ _ me inc ((inc + 1) * 2 + 1) refl refl c.requires.manager refl),
    )
