use Rattle.std.proofs.Common.{ap}
use Rattle.atomic_table.specs.Table.{Me}
use Rattle.link_words.specs.declared.codes.DeskView.{DeskView}
use Rattle.link_words.proofs.DesksOut.{away, held, home}
use Rattle.link_words.proofs.sides.ReceiverState.reset_desk.Goals as goal

pub shut-requires-clause-away : goal.shut-requires-clause-away
shut-requires-clause-away g c = (c.reset.new.self, away c.open.new.seat.me c.into_seat-seat.result.me c.open.ensures.desk.0 c.reset.new.self c.open.ensures.desk.2)

pub into_badge-requires : goal.into_badge-requires
into_badge-requires g c = ap (λ (m : Me _ DeskView). m.1) (c.shut.ensures.desk c.reset.new.self (held c.open.new.seat.me c.into_seat-seat.result.me c.open.ensures.desk.0 c.reset.new.self c.open.ensures.desk.2))

pub invariant_of-self : goal.invariant_of-self
invariant_of-self g c = (
  c.self.invariant.0,
  c.self.invariant.1,
  home c.into_badge.result.views c.shut.new.seat.me.0 (g.row.D.coded.code c.reset.new.self) c.into_badge.ensures.2
      (ap (λ (m : Me _ DeskView). m.0) (c.shut.ensures.desk c.reset.new.self (held c.open.new.seat.me c.into_seat-seat.result.me c.open.ensures.desk.0 c.reset.new.self c.open.ensures.desk.2))),
)
