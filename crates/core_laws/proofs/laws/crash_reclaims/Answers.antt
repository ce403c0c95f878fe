use Rattle.std.proofs.Common.{refl}
use Rattle.core_laws.proofs.KeptCallers.{crash_callers}
use Rattle.core_laws.proofs.CrashReclaims.{first_unrefused, other_unrefused}
use Rattle.core_laws.proofs.laws.crash_reclaims.Goals as goal

pub returns : goal.returns
returns c = record {
  first = λ bench caller reached unmanaged held. first_unrefused bench reached unmanaged caller held;
  others = λ bench caller reached unmanaged remote. other_unrefused bench reached unmanaged caller remote;
  all = λ bench. refl;
  callers = crash_callers;
}
