-- What calls and steps of a core leave keeps what its link keeps.
use Rattle.std.proofs.Common.{◌≡◌, true}
use Rattle.core_actors.specs.Actors.{driver_names}
use Rattle.link_bench.specs.BenchEnds.{crashed_bench}
use Rattle.crash_recover.specs.CoreCrashes.{after_report}
use Rattle.crash_recover.specs.Cores.{CoreState, IsKeptCore, loaded_rings}
use Rattle.core_actors.specs.ActorSteps.{first_or_take}
use Rattle.crash_recover.specs.Drives.{drive_step}
use Rattle.crash_recover.specs.CoreBoots.{load_in, started_core}
use Rattle.proc_state.specs.Lives.{CoreLife, is_up}
use Rattle.crash_recover.specs.KeptCores.{IsKeptBench}
use Rattle.crash_recover.proofs.KeptBenches.{core_readied, core_recovered, found_same, map_kept, rings_kept, step_kept}
use Rattle.crash_recover.proofs.KeptCrashes.{crash_kept}
use Rattle.core_laws.proofs.DriveWalks.{AreKeptParts, drive_kept, of_link}
use Rattle.core_laws.proofs.Outcomes.{Stays, report_stays}

-- ---- calls

pub started_kept : (core : CoreState) (life : CoreLife) → is_up life.state ≡ true → IsKeptCore (started_core life core)
started_kept core life up = rings_kept life (driver_names core.actors) core.book (loaded_rings core.loaded) up

-- what its link keeps stays over each call of a core
pub kept_stays : Stays IsKeptCore
kept_stays = record {
  same = λ core life image loaded same load is. found_same core.life life core.bench same is;
  started = λ core life image loaded up load is. started_kept (record core { image = image; loaded = loaded }) life up;
  unlinked = λ core life image loaded load is. tt;
  crashed = λ core life stops is. map_kept core.life life core.bench crashed_bench (λ bench one. crash_kept core.life life bench stops.inc stops.stopped one) is;
  readied = λ core may is. core_readied core is;
  recovered = λ core found clear may opens is. core_recovered core (load_in core found) is opens;
}

pub core_reported : (core : CoreState) → IsKeptCore core → IsKeptCore (after_report core)
core_reported core is = report_stays IsKeptCore kept_stays true core is

-- and over each part of a step of the actors
pub kept_parts : AreKeptParts IsKeptCore
kept_parts = record {
  turn = λ who core is. is;
  host = λ core bench there busy is. step_kept core.life bench 0 (first_or_take core.actors.host_calls) (of_link (IsKeptBench core.life) core bench there is);
  call = λ core bench there busy is. step_kept core.life bench 1 (first_or_take core.actors.worker_calls) (of_link (IsKeptBench core.life) core bench there is);
  run = λ core load there silent busy is. is;
  report = core_reported;
}

pub core_driven : (core : CoreState) → IsKeptCore core → IsKeptCore (drive_step core).core
core_driven core is = drive_kept IsKeptCore kept_parts core is
