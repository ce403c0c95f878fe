-- Deeds that land are what was done.
use Rattle.std.proofs.Common.{◌≡◌, Option, Some, subst}
use Rattle.link_bench.specs.Benches.{BenchState}
use Rattle.crash_recover.specs.Cores.{CoreState}
use Rattle.crash_recover.specs.Drives.{drive_step}
use Rattle.core_laws.specs.BenchMoves.{IsReachedCore}
use Rattle.core_laws.specs.DriveParts.{MayDrive}
use Rattle.act_laws.specs.CoreDeeds.{drive_deeds}
use Rattle.act_laws.specs.Deeds.{Deeds}
use Rattle.act_laws.specs.DoneDeeds.{AreDone}
use Rattle.act_laws.proofs.ActLands.{LandsAt}
use Rattle.act_laws.proofs.Lands.{lands_lists}
use Rattle.act_laws.proofs.CoreLands.{LandsIf, drive_lands}

pub done_of : (bench : BenchState) (deeds : Deeds) (left : BenchState) → LandsAt bench deeds left → AreDone bench deeds left
done_of bench deeds left lands = record { whole = lands.whole; may = lands.may; lists = lands_lists bench.rings deeds left.rings lands; rings = lands.leads; takes = lands.takes }

-- a step of the actors of a core that has this link, and has that one then
pub drive_done : (core : CoreState) (bench left : BenchState) → MayDrive core → IsReachedCore core → core.bench ≡ Some bench → (drive_step core).core.bench ≡ Some left
    → AreDone bench (drive_deeds core) left
drive_done core bench left may reached has after =
    done_of bench (drive_deeds core) left
    (subst (λ (now : Option BenchState). LandsIf (Some bench) (drive_deeds core) now) after
    (subst (λ (found : Option BenchState). LandsIf found (drive_deeds core) (drive_step core).core.bench) has
    (drive_lands core may reached)))
