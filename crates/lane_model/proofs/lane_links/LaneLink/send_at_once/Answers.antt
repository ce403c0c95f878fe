use Rattle.std.proofs.Common.{◌≡◌, ◌++◌, true, Some, sym, ap, subst, ◌∙◌, arith, rules}
use Rattle.rp_base.specs.declared.kinds.End.{End}
use Rattle.rp_base.specs.declared.kinds.End.TheVariants as side
use Rattle.lane_model.specs.declared.calls.Wish.TheVariants as wish
use Rattle.lane_model.specs.Links.{end_of}
use Rattle.lane_model.proofs.AtOnce.{send_done, lists_done}
use Rattle.lane_model.proofs.lane_links.LaneLink.send_at_once.Goals as goal

pub returns-in-Some-Host-clause-whole : goal.returns-in-Some-Host-clause-whole
returns-in-Some-Host-clause-whole g c =
    let link = c.args.self.now in
    let used : end_of link.callers c.args.caller ≡ Some side.Host = subst (λ n. end_of link.callers n ≡ Some side.Host) c.from.ensures (sym c.in-Some-Host.ensures.end ∙ ap (λ (e : End). Some e) c.in-Some-Host.field-0-is) in
    let same_inc : c.args.follows ≡ link.era.inc = omega (arith, c.if-era-follows.false) in
    let live : link.era.is_live ≡ true = search rules in
    send_done c.send_at_once.result g.L.LaneForm.form g.L.Desk.Desk.meaning g.met.L.LaneForm.is_form link side.Host c.args.caller c.args.follows (c.args.head.now ++ c.args.body.now)
    c.send_at_once.new.self c.send_at_once.new.end used same_inc live c.send_at_once.ensures.may c.send_at_once.ensures.left c.send_at_once.ensures.end

pub returns-in-Some-Host-clause-left : goal.returns-in-Some-Host-clause-left
returns-in-Some-Host-clause-left g c =
    lists_done c.send_at_once.result 6 g.L.LaneForm.form g.L.Desk.Desk.meaning g.met.L.LaneForm.is_form c.args.self.now c.args.caller c.args.follows (Some (wish.Send (c.args.head.now ++ c.args.body.now))) _
    c.send_at_once.new.end (returns-in-Some-Host-clause-whole g c)

pub returns-in-Some-Remote-clause-whole : goal.returns-in-Some-Remote-clause-whole
returns-in-Some-Remote-clause-whole g c =
    let link = c.args.self.now in
    let used : end_of link.callers c.args.caller ≡ Some side.Remote = subst (λ n. end_of link.callers n ≡ Some side.Remote) c.from.ensures (sym c.in-Some-Remote.ensures.end ∙ ap (λ (e : End). Some e) c.in-Some-Remote.field-0-is) in
    let same_inc : c.args.follows ≡ link.era.inc = omega (arith, c.if-era-follows.false) in
    let live : link.era.is_live ≡ true = search rules in
    send_done c.send_at_once-in-Some-Remote.result g.L.LaneForm.form g.L.Desk.Desk.meaning g.met.L.LaneForm.is_form link side.Remote c.args.caller c.args.follows (c.args.head.now ++ c.args.body.now)
    c.send_at_once-in-Some-Remote.new.self c.send_at_once-in-Some-Remote.new.end used same_inc live c.send_at_once-in-Some-Remote.ensures.may c.send_at_once-in-Some-Remote.ensures.left c.send_at_once-in-Some-Remote.ensures.end

pub returns-in-Some-Remote-clause-left : goal.returns-in-Some-Remote-clause-left
returns-in-Some-Remote-clause-left g c =
    lists_done c.send_at_once-in-Some-Remote.result 6 g.L.LaneForm.form g.L.Desk.Desk.meaning g.met.L.LaneForm.is_form c.args.self.now c.args.caller c.args.follows (Some (wish.Send (c.args.head.now ++ c.args.body.now))) _
    c.send_at_once-in-Some-Remote.new.end (returns-in-Some-Remote-clause-whole g c)
