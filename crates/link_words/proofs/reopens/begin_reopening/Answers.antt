use Rattle.std.proofs.Common.{arith}
use Rattle.link_words.specs.PlacedDesks.{placed_coded, placed_meaning}
use Rattle.link_words.specs.Reopens.{BeginsReopening, KeepsCopy}
use Rattle.link_words.proofs.ManagerTold.{begins_told}
use Rattle.link_words.proofs.Orderly.{orders}
use Rattle.link_words.proofs.reopens.begin_reopening.Goals as goal

pub load-requires : goal.load-requires
load-requires g c =
    let wide = c.requires.table.1 in let z = c.args.table.now.key in let me = c.args.manager.now.me in let cd = placed_coded g.row.D.coded z.desks in let desk = placed_meaning g.row.D.coded z.desks g.D.Desk.meaning in
    (c.requires.table.0, omega (arith, wide), orders cd desk z _ _ me 16 (λ y. y) (λ y me'. BeginsReopening me y me' × KeepsCopy me me') (begins_told cd desk z _ _ me c.requires.manager))
