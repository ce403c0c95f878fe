use Rattle.std.proofs.Common.{sym, subst}
use Rattle.split_ring.specs.CallPhases.{Phase}
use Rattle.split_ring.specs.Carried.{Carries}
use Rattle.split_ring.specs.Phases.{IsUnderWay}
use Rattle.split_ring.proofs.CarriedMakes.{begins_carried}
use Rattle.split_ring.proofs.links.SharedLink.begin_call.Goals as goal

pub returns-clause-carried : goal.returns-clause-carried
returns-clause-carried g c = λ manager who may.
    subst (λ (p : Phase). Carries c.args.self.now manager who p × IsUnderWay p) (sym c.asked.ensures) (begins_carried c.args.self.now manager who c.args.ask may.0 may.1, tt)
