use Rattle.link_words.proofs.DeskSteps.{opens_desk}
use Rattle.link_words.proofs.desks.open.Goals as goal

pub load-requires : goal.load-requires
load-requires g c = (c.requires.table.0, c.requires.table.1, opens_desk g.row.D.coded _ _ c.args.seat.now.me c.requires.home)
