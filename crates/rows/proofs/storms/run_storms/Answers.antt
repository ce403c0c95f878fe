use Rattle.std.proofs.Common.{arith, refl}
use Rattle.std.specs.Prelude.{IsTrue}
use Rattle.std.specs.Int.{is_power_of_two}
use Rattle.rows.proofs.storms.run_storms.Goals as goal

four : IsTrue (is_power_of_two 4)
unfolding lib.Count.ones
four = refl

eight : IsTrue (is_power_of_two 8)
unfolding lib.Count.ones
eight = refl

pub run-requires-after_bounds : goal.run-requires-after_bounds
run-requires-after_bounds g c κs = λ bounds. record { hosts = (omega arith, omega arith); remotes = (omega arith, omega arith); count = (omega arith, omega arith); num = (four, omega arith) }

pub run-requires-2-after_bounds : goal.run-requires-2-after_bounds
run-requires-2-after_bounds g c κs = λ bounds. record { hosts = (omega arith, omega arith); remotes = (omega arith, omega arith); count = (omega arith, omega arith); num = (eight, omega arith) }
