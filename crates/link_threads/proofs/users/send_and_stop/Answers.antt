use Rattle.std.proofs.Common.{ℕ, ◌∙◌, sym, subst}
use Rattle.std.specs.Prelude.{Option}
use Rattle.link_threads.specs.Lives.{HasSentAlone}
use Rattle.link_threads.proofs.LifeStops.{alone}
use Rattle.link_threads.proofs.users.send_and_stop.Goals as goal

pub stop_in_send-caller-requires : goal.stop_in_send-caller-requires
stop_in_send-caller-requires g c = record { rests = c.try_send.ensures.caller.1; hands = c.try_send.ensures.walk.done.in_hand ∙ c.requires.free.hands }

pub returns-clause-sent : goal.returns-clause-sent
returns-clause-sent g c = let stopped = c.stop_in_send-caller in
    subst (λ (sent : Option ℕ). HasSentAlone stopped.result.0 sent c.args.first.now) (sym c.ok-sent.ensures.value)
    (alone g.row.D.coded g.D.Desk.meaning c.args.link.now.sizes c.args.first.now c.try_send.result c.args.caller c.try_send.new.caller stopped.result.0
    c.requires.own c.try_send.ensures.caller.0 stopped.ensures.id c.try_send.ensures.walk stopped.ensures.unsent)
