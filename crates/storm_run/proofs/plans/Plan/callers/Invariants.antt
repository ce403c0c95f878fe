use Rattle.split_ring.specs.Callers.{IsManagerOf}
use Rattle.storm_run.specs.Managers.{AreNewCallers, HasMade}
use Rattle.storm_run.proofs.plans.Plan.callers.Given as goal

-- so many callers are made
abbrev pub invariant-loop-number : goal.invariant-loop-number
invariant-loop-number l = record {
  manager : IsManagerOf l.link l.manager;
  made : HasMade l.self l.number l.manager;
  callers : AreNewCallers l.link l.self l.number l.callers.items;
}
