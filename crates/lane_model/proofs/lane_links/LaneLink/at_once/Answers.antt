use Rattle.std.proofs.Common.{Some}
use Rattle.lane_model.specs.declared.calls.Wish.TheVariants as wish
use Rattle.lane_model.proofs.AtOnce.{lists_done}
use Rattle.lane_model.proofs.lane_links.LaneLink.at_once.Goals as goal

pub returns-in-Take-clause-left : goal.returns-in-Take-clause-left
returns-in-Take-clause-left g c =
    rw c.in-Take.is (lists_done c.take_at_once.result 5 g.L.LaneForm.form g.L.Desk.Desk.meaning g.met.L.LaneForm.is_form c.args.self.now c.args.caller c.args.follows (Some wish.Take) c.take_at_once.new.self
    c.take_at_once.new.end c.take_at_once.ensures.whole)

pub returns-in-Give-clause-left : goal.returns-in-Give-clause-left
returns-in-Give-clause-left g c =
    rw c.in-Give.is (lists_done c.give_at_once.result 3 g.L.LaneForm.form g.L.Desk.Desk.meaning g.met.L.LaneForm.is_form c.args.self.now c.args.caller c.args.follows (Some (wish.Give c.in-Give.number)) c.give_at_once.new.self
    c.give_at_once.new.end c.give_at_once.ensures.whole)
