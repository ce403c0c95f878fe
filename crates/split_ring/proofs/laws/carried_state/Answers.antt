use Rattle.split_ring.proofs.CarriedStates.{known_of}
use Rattle.split_ring.proofs.laws.carried_state.Goals as goal

pub returns : goal.returns
returns g c = record {
  sends = λ link manager m who p of is carries. (known_of g.row.D.coded link manager m who p of is carries).0;
  receives = λ link manager m who p of is carries. (known_of g.row.D.coded link manager m who p of is carries).1;
  hands = λ link manager m who p of is carries. (known_of g.row.D.coded link manager m who p of is carries).2;
}
