use Rattle.std.proofs.Common.{◌≡◌, true, Some, sym, ap, subst, ◌∙◌, arith, rules}
use Rattle.rp_base.specs.declared.kinds.End.{End}
use Rattle.rp_base.specs.declared.kinds.End.TheVariants as side
use Rattle.lane_model.specs.declared.calls.Wish.TheVariants as wish
use Rattle.lane_model.specs.Links.{link_of, end_of}
use Rattle.lane_model.proofs.AtOnce.{take_done, may_apart}
use Rattle.lane_model.proofs.lane_links.LaneLink.take_at_once.Goals as goal

pub returns-in-Some-Host-clause-whole : goal.returns-in-Some-Host-clause-whole
returns-in-Some-Host-clause-whole g c =
    let link = c.args.self.now in
    let used : end_of link.callers c.args.caller ≡ Some side.Host = subst (λ n. end_of link.callers n ≡ Some side.Host) c.from.ensures (sym c.in-Some-Host.ensures.end ∙ ap (λ (e : End). Some e) c.in-Some-Host.field-0-is) in
    let form = g.L.LaneForm.form in
    let same_inc : c.args.follows ≡ link.era.inc = omega (arith, c.if-era-follows.false) in
    let live : link.era.is_live ≡ true = search rules in
    take_done c.take_at_once.result form g.L.Desk.Desk.meaning g.met.L.LaneForm.is_form link side.Host c.args.caller c.args.follows
    c.take_at_once.new.self c.take_at_once.new.end used same_inc live (may_apart (link_of form link) _ side.Host c.args.caller wish.Take used c.requires.may) c.take_at_once.ensures.may c.take_at_once.ensures.left c.take_at_once.ensures.end

pub returns-in-Some-Remote-clause-whole : goal.returns-in-Some-Remote-clause-whole
returns-in-Some-Remote-clause-whole g c =
    let link = c.args.self.now in
    let used : end_of link.callers c.args.caller ≡ Some side.Remote = subst (λ n. end_of link.callers n ≡ Some side.Remote) c.from.ensures (sym c.in-Some-Remote.ensures.end ∙ ap (λ (e : End). Some e) c.in-Some-Remote.field-0-is) in
    let form = g.L.LaneForm.form in
    let same_inc : c.args.follows ≡ link.era.inc = omega (arith, c.if-era-follows.false) in
    let live : link.era.is_live ≡ true = search rules in
    take_done c.take_at_once-in-Some-Remote.result form g.L.Desk.Desk.meaning g.met.L.LaneForm.is_form link side.Remote c.args.caller c.args.follows
    c.take_at_once-in-Some-Remote.new.self c.take_at_once-in-Some-Remote.new.end used same_inc live (may_apart (link_of form link) _ side.Remote c.args.caller wish.Take used c.requires.may) c.take_at_once-in-Some-Remote.ensures.may c.take_at_once-in-Some-Remote.ensures.left c.take_at_once-in-Some-Remote.ensures.end
