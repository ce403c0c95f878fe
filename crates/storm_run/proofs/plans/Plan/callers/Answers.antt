use Rattle.std.proofs.Common.{◌<◌, ◌+◌, ◌∙◌, List, sym, subst, arith}
use Rattle.std.proofs.lemmas.Option.{none-some}
use Rattle.split_ring.specs.declared.callers.Caller.{Caller}
use Rattle.storm_run.specs.Managers.{AreNewCallers}
use Rattle.storm_run.proofs.Made.{IsMaking, made_one, more_new, new_one, next_number}
use Rattle.storm_run.proofs.plans.Plan.callers.Goals as goal

pub unreachable-requires : goal.unreachable-requires
unreachable-requires c =
    let plan = c.requires.plan in let hosts = plan.hosts in let remotes = plan.remotes in
    let few : c.loop-number.number < 64 = omega (arith, c.loop-number-test.true, hosts.1, remotes.1) in
    none-some c.loop-number.number (sym c.in-None.ensures.none ∙ next_number c.args.self.now c.loop-number.number c.loop-number.manager few c.loop-number.invariant.made)

pub loop-number-preserved : goal.loop-number-preserved
loop-number-preserved c =
    let link = c.args.link.now in let plan = c.args.self.now in let n = c.loop-number.number in let s = c.in-Some.ensures.some in
    let hosts = c.requires.plan.hosts in let remotes = c.requires.plan.remotes in
    let few : n < 64 = omega (arith, c.loop-number-test.true, hosts.1, remotes.1) in
    let making : IsMaking link c.end_at.result c.loop-number.manager c.caller.new.manager c.in-Some.caller = record {
      manager = c.loop-number.invariant.manager;
      rests = s.3;
      number = s.0;
      end_is = s.1;
      follows = s.2;
      own = s.4;
      hands = s.5;
      view = c.in-Some.ensures.views.0;
      seat = c.in-Some.ensures.views.1;
      users = c.in-Some.ensures.users;
    } in
    record {
      manager = c.in-Some.ensures.manager;
      made = made_one link plan n c.end_at.result c.loop-number.manager c.caller.new.manager c.in-Some.caller few c.end_at.ensures c.requires.first c.loop-number.invariant.made making;
      callers = subst (λ (l : List Caller). AreNewCallers link plan (n + 1) l) (sym c.in_ok-push-in-Some.ensures.items)
          (more_new link plan n c.loop-number.callers.items c.in-Some.caller c.loop-number.invariant.callers
          (new_one link plan n c.end_at.result c.loop-number.manager c.caller.new.manager c.in-Some.caller few c.end_at.ensures c.requires.first c.loop-number.invariant.made making));
    }
