use Rattle.link_words.proofs.DeskSteps.{shuts_desk}
use Rattle.link_words.proofs.desks.shut.Goals as goal

pub load-requires : goal.load-requires
load-requires g c = (c.requires.table.0, c.requires.table.1, shuts_desk g.row.D.coded _ _ c.args.seat.now.me c.requires.away.0 c.requires.away.1)
