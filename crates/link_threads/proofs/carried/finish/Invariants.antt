use Rattle.std.proofs.Common.{◌≢◌}
use Rattle.rp_base.specs.declared.kinds.End.{End}
use Rattle.split_ring.specs.declared.callers.CallerId.{CallerId}
use Rattle.split_ring.specs.CallPhases.{Phase}
use Rattle.split_ring.specs.Carried.{Carries}
use Rattle.split_ring.specs.Callers.{IsManagerOf}
use Rattle.split_ring.specs.Phases.{IsUnderWay}
use Rattle.link_threads.proofs.carried.finish.Given as goal

-- the manager is that of the link, the call goes on, and the other callers are where they were
abbrev pub invariant-loop : goal.invariant-loop
invariant-loop l = IsManagerOf l.link l.manager
    × ((end : End) × Carries l.link l.manager (record { number = l.caller; end = end; follows = 1 }) l.call.phase × IsUnderWay l.call.phase)
    × ((who : CallerId) (p : Phase) → who.number ≢ l.caller → Carries l.link l.initial.manager who p → Carries l.link l.manager who p)
