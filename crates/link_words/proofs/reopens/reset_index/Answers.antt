use Rattle.std.proofs.Common.{◌<◌, ℕ, subst, sym}
use Rattle.link_words.specs.PlacedDesks.{placed_coded, placed_meaning}
use Rattle.link_words.specs.Reopens.{ResetsWord, KeepsCopy}
use Rattle.link_words.proofs.ManagerTold.{resets_told}
use Rattle.link_words.proofs.Orderly.{orders}
use Rattle.link_words.proofs.reopens.reset_index.Goals as goal

pub store-requires : goal.store-requires
store-requires g c =
    let z = c.args.table.now.key in let is = c.reset_place-word.ensures in let me = c.args.manager.now.me in let new = c.args.new in let word = c.reset_place-word.result in
    let cd = placed_coded g.row.D.coded z.desks in let desk = placed_meaning g.row.D.coded z.desks g.D.Desk.meaning in (
      c.requires.table.0,
      subst (λ (k : ℕ). k < c.args.table.now.table_id.words) (sym is) c.requires.number.1,
      orders cd desk z _ _ me word (λ _. new) (λ _ me'. ResetsWord me me' × KeepsCopy me me') (resets_told cd desk z _ _ me c.args.number new word c.requires.table.2 c.requires.manager is),
    )
