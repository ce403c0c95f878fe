-- A core stays ready for its actors' next steps over what it goes through, and over a step of them.
use Rattle.std.proofs.Common.{◌≡◌, true, Some, is_some}
use Rattle.core_actors.proofs.ReadyActors.{host_ready, worker_ready}
use Rattle.link_bench.specs.Benches.{BenchState, link_in}
use Rattle.lane_model.specs.Soundness.{SoundLink}
use Rattle.crash_recover.specs.CoreBoots.{load_in}
use Rattle.crash_recover.specs.CoreCrashes.{after_report}
use Rattle.crash_recover.specs.Cores.{CoreState, IsReadyCore}
use Rattle.crash_recover.specs.Drives.{drive_step, placed_map}
use Rattle.crash_recover.proofs.ReadyCores.{crashed_ready, found_record, readied_ready, recovery_ready, same_ready, started_ready}
use Rattle.core_laws.specs.BenchMoves.{IsReachedCore}
use Rattle.core_laws.specs.DriveParts.{MayDrive}
use Rattle.core_laws.proofs.CoreMoves.{StandsReady, host_may, link_reached, turned_stands, worker_may}
use Rattle.core_laws.proofs.CrashReclaims.{reached_sound}
use Rattle.core_laws.proofs.DriveWalks.{AreLeftParts, drive_left, may_now, may_own}
use Rattle.core_laws.proofs.Outcomes.{Stays, report_left}

-- ---- what a core goes through

pub ready_stays : Stays IsReadyCore
ready_stays = record {
  same = λ core life image loaded same load is. same_ready core.life life core.actors core.bench same is;
  started = λ core life image loaded up load is. started_ready (record core { image = image; loaded = loaded }) life;
  unlinked = λ core life image loaded load is. record { begun = tt; calls = λ _. tt };
  crashed = crashed_ready;
  readied = readied_ready;
  recovered = λ core found clear may opens is. recovery_ready core (load_in core found) is;
}

report_ready : (core : CoreState) → IsReadyCore core → IsReadyCore (after_report core)
report_ready core is = report_left IsReadyCore true core is (λ life stops. crashed_ready core life stops is)

-- ---- a step of its actors

sound : (core : CoreState) (bench : BenchState) → core.bench ≡ Some bench → StandsReady core → SoundLink (link_in bench)
sound core bench there is = reached_sound (link_in bench) (link_reached core bench there is).link

ready_parts : AreLeftParts StandsReady IsReadyCore
ready_parts = record {
  turn = turned_stands;
  host = λ core bench there busy is.
      let ready = host_ready core.actors bench (sound core bench there is) (may_own core bench there is.may) (host_may core bench there is) (may_now core bench there is.may) in
      record { begun = ready.begun; calls = λ _. ready.calls };
  call = λ core bench there busy is.
      let ready = worker_ready core.actors bench (sound core bench there is) (may_own core bench there is.may) (worker_may core bench there is) (may_now core bench there is.may) in
      record { begun = ready.begun; calls = λ _. ready.calls };
  run = λ core load there silent busy is.
      let may = is.may in
      record {
        begun = may.ready.begun;
        calls = λ _. found_record core.actors load.memory (placed_map core.regions load) (is_some core.bench) core.life core.bench silent may.kept (may.ready.calls may.up);
      };
  report = report_ready;
}

pub drive_ready : (core : CoreState) → MayDrive core → IsReachedCore core → IsReadyCore (drive_step core).core
drive_ready core may reached = drive_left StandsReady IsReadyCore ready_parts (λ core is. is.may.ready) core (record { may = may; reached = reached })
