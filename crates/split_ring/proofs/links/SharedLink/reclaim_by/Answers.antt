use Rattle.std.proofs.Common.{List, subst}
use Rattle.lane_model.specs.HeldBuffers.{HeldBuffer}
use Rattle.split_ring.specs.Carried.{carried_seat}
use Rattle.split_ring.specs.PartsOf.{AreHeldBy, HoldsItsOwn, HoldsNoOther, TellsHands}
use Rattle.split_ring.specs.Reclaims.{phase_of}
use Rattle.split_ring.proofs.links.SharedLink.reclaim_by.Goals as goal

pub retire_by-requires-clause-caller : goal.retire_by-requires-clause-caller
retire_by-requires-clause-caller g c =
    let q = c.requires.caller in let p = phase_of c.args.call in let h = c.is_holding-is_holding in let me = carried_seat q.0 p c.args.manager.now in
    (q.0, q.1, q.2.carries, (subst (λ (l : List HeldBuffer). AreHeldBy q.0 l me → HoldsNoOther p l me → HoldsItsOwn p me → TellsHands h.result me) c.deref.ensures.value (h.ensures q.0 me)) q.2.held q.2.all q.2.own)
