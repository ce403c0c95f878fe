use Rattle.link_words.specs.PlacedDesks.{placed_coded, placed_meaning}
use Rattle.link_words.specs.Steps.{HasWord, StoresWord}
use Rattle.link_words.proofs.Exact.{copy_after, copy_closed}
use Rattle.link_words.proofs.laws.copy_follows.Goals as goal

pub returns : goal.returns
returns g c = record {
  found = λ desks place n. copy_after (placed_coded g.row.D.coded desks) (placed_meaning g.row.D.coded desks g.D.Desk.meaning) (HasWord place n);
  stored = λ desks place n. copy_after (placed_coded g.row.D.coded desks) (placed_meaning g.row.D.coded desks g.D.Desk.meaning) (StoresWord place n);
  closed = λ desks. copy_closed (placed_coded g.row.D.coded desks) (placed_meaning g.row.D.coded desks g.D.Desk.meaning);
}
