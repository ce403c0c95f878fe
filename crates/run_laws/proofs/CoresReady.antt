-- What is done under the name of a core keeps that its link comes by moves, that its own callers are in use there, and that its actors hold what their calls give back.
use Rattle.std.proofs.Common.{◌≡◌, true}
use Rattle.proc_state.specs.Lives.{is_up}
use Rattle.link_bench.specs.Acts.{IsFitAct}
use Rattle.crash_recover.specs.Cores.{CoreState, IsKeptCore, IsReadyCore}
use Rattle.core_laws.specs.BenchMoves.{IsReachedCore}
use Rattle.core_laws.specs.DriveParts.{MayDrive}
use Rattle.core_laws.proofs.CoreActs.{core_act_reached, core_act_ready}
use Rattle.core_laws.proofs.CoreMoves.{core_driven, reached_stays}
use Rattle.core_laws.proofs.KeptCores.{kept_stays}
use Rattle.core_laws.proofs.Outcomes.{Stays}
use Rattle.core_laws.proofs.ReadyLives.{drive_ready, ready_stays}
use Rattle.run_laws.proofs.CoreWalks.{KeepCores}
use Rattle.run_laws.proofs.CoresKept.{cores_are_kept}

-- what a core of a run is
pub record IsSoundCore (core : CoreState) : Type 0 where
  pub reached : IsReachedCore core
  pub kept : IsKeptCore core
  pub ready : IsReadyCore core

-- while it is up its actors may make their next steps
pub may_drive : (core : CoreState) → is_up core.life.state ≡ true → IsSoundCore core → MayDrive core
may_drive core up is = record { up = up; kept = is.kept; ready = is.ready }

pub sound_stays : Stays IsSoundCore
sound_stays = record {
  same = λ core life image loaded same load is. record {
    reached = reached_stays.same core life image loaded same load is.reached;
    kept = kept_stays.same core life image loaded same load is.kept;
    ready = ready_stays.same core life image loaded same load is.ready;
  };
  started = λ core life image loaded up load is. record {
    reached = reached_stays.started core life image loaded up load is.reached;
    kept = kept_stays.started core life image loaded up load is.kept;
    ready = ready_stays.started core life image loaded up load is.ready;
  };
  unlinked = λ core life image loaded load is. record {
    reached = reached_stays.unlinked core life image loaded load is.reached;
    kept = kept_stays.unlinked core life image loaded load is.kept;
    ready = ready_stays.unlinked core life image loaded load is.ready;
  };
  crashed = λ core life stops is. record {
    reached = reached_stays.crashed core life stops is.reached;
    kept = kept_stays.crashed core life stops is.kept;
    ready = ready_stays.crashed core life stops is.ready;
  };
  readied = λ core may is. record {
    reached = reached_stays.readied core may is.reached;
    kept = kept_stays.readied core may is.kept;
    ready = ready_stays.readied core may is.ready;
  };
  recovered = λ core found clear may opens is. record {
    reached = reached_stays.recovered core found clear may opens is.reached;
    kept = kept_stays.recovered core found clear may opens is.kept;
    ready = ready_stays.recovered core found clear may opens is.ready;
  };
}

pub sound_cores : KeepCores IsFitAct IsSoundCore
sound_cores = record {
  region = λ core region clear is. record {
    reached = record { bench = is.reached.bench; calls = is.reached.calls };
    kept = is.kept;
    ready = is.ready;
  };
  driver = λ core channel kind is. record {
    reached = record { bench = is.reached.bench; calls = record { host = is.reached.calls.host; worker = is.reached.calls.worker } };
    kept = is.kept;
    ready = is.ready;
  };
  lives = sound_stays;
  drive = λ core up is.
      let may = may_drive core up is in
      record {
        reached = core_driven core may is.reached;
        kept = cores_are_kept.drive core up is.kept;
        ready = drive_ready core may is.reached;
      };
  act = λ core steps asked fits is. record {
    reached = core_act_reached core steps asked fits is.reached;
    kept = cores_are_kept.act core steps asked tt is.kept;
    ready = core_act_ready core steps asked fits is.reached is.ready;
  };
}
