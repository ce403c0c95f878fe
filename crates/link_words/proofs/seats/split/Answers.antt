use Rattle.std.proofs.Common.{◌≡◌, ◌-◌, [], length, sym, ap, ◌∙◌, subst}
use lib.ListN.{get_elem?}
use Rattle.link_words.specs.declared.rule.View.{View}
use Rattle.link_words.specs.Calls.{SeatState}
use Rattle.link_words.specs.Passes.{Manages, last_pass_only, numbers_of, only_last, without_last, with_new_caller}
use Rattle.link_words.specs.PlacedDesks.{placed_coded, placed_meaning}
use Rattle.link_words.proofs.Moving.{making_same, new_last, only_any, still_manages}
use Rattle.link_words.specs.Orderly.{IsOrderly}
use Rattle.link_words.proofs.Orderly.{but_last_at, none_behind, order_within}
use Rattle.link_words.proofs.seats.split.Goals as goal

pub let_go-requires-clause-manager : goal.let_go-requires-clause-manager
let_go-requires-clause-manager g c =
    let q = c.requires.manager in let v = c.args.manager.now.me.0 in let m = c.enlist_carried.new.manager.me in
    let is : m.0 ≡ with_new_caller c.args.end v m.0.copy = ap (λ (s : SeatState). s.0) c.enlist_carried.ensures.told in (
      subst Manages (sym is) (still_manages v c.args.end m.0.copy q.0),
      λ p at. new_last (placed_coded g.row.D.coded c.args.manager.now.me.0.sizes.desks) (placed_meaning g.row.D.coded c.args.manager.now.me.0.sizes.desks g.D.Desk.meaning) v.sizes v c.args.end q.1.0 m.0.copy q.1.1 q.1.2 p (ap (λ (x : View). get_elem? x.passes (length x.passes - 1)) (sym is) ∙ at),
    )

pub returns-clause-manager : goal.returns-clause-manager
returns-clause-manager g c =
    let v = c.args.manager.now.me.0 in let m = c.enlist_carried.new.manager.me in let left = c.let_go.ensures.manager.2 in let told = c.enlist_carried.ensures.told in
    let copy = ap (λ (s : SeatState). s.0.copy) left in (
      c.let_go.ensures.manager.0 ∙ c.enlist_carried.ensures.same.0,
      c.let_go.ensures.manager.1 ∙ c.enlist_carried.ensures.same.1,
      left ∙ ((λ i. (without_last (told i).0, (told i).1)) ∙ (λ i. (without_last (with_new_caller c.args.end v (sym copy i)), c.args.manager.now.me.1))),
    )

pub returns-clause-caller : goal.returns-clause-caller
returns-clause-caller g c =
    let v = c.args.manager.now.me.0 in let m = c.enlist_carried.new.manager.me in let told = c.enlist_carried.ensures.told in
    (c.let_go.ensures.caller.0 ∙ c.enlist_carried.ensures.same.0, c.let_go.ensures.caller.1 ∙ ((λ i. (only_last (told i).0, [])) ∙ (λ i. (only_any v c.args.end m.0.copy i, []))))

pub returns-clause-step : goal.returns-clause-step
returns-clause-step g c = making_same (placed_coded g.row.D.coded c.args.manager.now.me.0.sizes.desks) (placed_meaning g.row.D.coded c.args.manager.now.me.0.sizes.desks g.D.Desk.meaning) c.args.end c.args.manager.now.me c.enlist_carried.new.manager.me c.let_go.new.manager.me (ap (λ (s : SeatState). s.0.copy) c.let_go.ensures.manager.2) c.enlist_carried.ensures.step

pub returns-clause-order : goal.returns-clause-order
returns-clause-order g c = let v = c.enlist_carried.new.manager.me.0 in let order = c.enlist_carried.ensures.order in
    subst IsOrderly (sym (ap (λ (s : SeatState). s.0) c.let_go.ensures.manager.2)) (order_within v (without_last v) (but_last_at v.passes)
    (λ manages out k was place q there own. order.known (manages.0, manages.1, but_last_at v.passes manages.0 manages.1 manages.2, manages.3) (none_behind (numbers_of (last_pass_only v.passes)) v.out out) k was place q (but_last_at v.passes place q there) own) order)
