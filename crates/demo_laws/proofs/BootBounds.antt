-- The steps of the actors of a core from its boot on.
use Rattle.std.proofs.Common.{◌≡◌, ◌≤◌, inl, ℕ, true, false, List, [], Option, Some, None, IfSome, option_map, refl, arith}
use Rattle.rp_base.specs.Limits.{ring_capacity}
use Rattle.fw_load.specs.declared.rings.RingPair.{RingPair}
use Rattle.proc_state.specs.Lives.{CoreLife, is_up}
use Rattle.remote_core.specs.Workers.{WorkerState, new_worker}
use Rattle.core_actors.specs.Actors.{ActorsState, fresh_actors}
use Rattle.crash_recover.specs.CoreBoots.{core_bench, started_core, with_load}
use Rattle.crash_recover.specs.Cores.{CoreState, LoadState}
use Rattle.crash_recover.specs.Drives.{placed_map}
use Rattle.demo_laws.proofs.ActorBounds.{LinkWithin}
use Rattle.demo_laws.proofs.DriveBounds.{IsProgram, IsWithin, OnLink}
use Rattle.core_laws.proofs.CoreMoves.{started_reached}
use Rattle.crash_recover.proofs.ReadyCores.{started_ready}
use Rattle.core_laws.proofs.KeptCores.{started_kept}
use Rattle.run_laws.proofs.CoresReady.{sound_stays}
use Rattle.link_bench.specs.Benches.{link_in}

-- both rings have room for three messages
abbrev pub AreRoomy : RingPair → Type 0
AreRoomy rings = (3 ≤ ring_capacity rings.to_host.num) × (3 ≤ ring_capacity rings.to_remote.num)

-- a new link
new_link : (records credit within : ℕ) (names : List (List ℕ)) (book first : ℕ) (rings : RingPair) → AreRoomy rings → records ≤ within → credit ≤ 1
    → LinkWithin records credit [] false [] (link_in (core_bench names book first rings)) within
unfolding core_bench
new_link records credit within names book first rings roomy few one = record {
  host_now = None;
  worker_now = None;
  host_sent = 0;
  host_took = 0;
  host_gave = 0;
  worker_sent = 0;
  worker_took = 0;
  worker_gave = 0;
  host = record { turns = (tt, tt); sent = refl; took = refl; gave = refl };
  worker = record { turns = (tt, tt); sent = refl; took = refl; gave = refl };
  host_fits = tt;
  worker_fits = tt;
  host_message = tt;
  worker_message = tt;
  host_gives = refl;
  worker_gives = refl;
  host_flow = omega arith;
  worker_flow = omega (arith, one);
  to_host = roomy.0;
  to_remote = roomy.1;
  cost = omega (arith, few);
}

module _ (Fits : WorkerState → Type 0) (records credit : WorkerState → ℕ) where
  new_on : (actors : ActorsState) (entry within : ℕ) (names : List (List ℕ)) (book first : ℕ) (rings : Option RingPair) → IfSome rings AreRoomy → records (new_worker entry) ≤ within → credit (new_worker entry) ≤ 1
      → OnLink Fits records credit (fresh_actors actors entry) (option_map (core_bench names book first) rings) within
  new_on actors entry within names book first None roomy few one = few
  new_on actors entry within names book first (Some rings) roomy few one = new_link (records (new_worker entry)) (credit (new_worker entry)) within names book first rings roomy few one

  -- a core that was booted, in this life
  pub boot_within : (core : CoreState) (name : List ℕ) (load : LoadState) (life : CoreLife) (within : ℕ) → is_up life.state ≡ true
      → IsProgram Fits records credit load.memory (placed_map core.regions load) → Fits (new_worker load.entry)
      → IfSome load.rings AreRoomy → records (new_worker load.entry) ≤ within → credit (new_worker load.entry) ≤ 1
      → IsWithin Fits records credit (started_core life (with_load core name load)) within
  boot_within core name load life within up program fits roomy few one =
      let core = with_load core name load in record {
        goes = record {
          load = load;
          loaded = refl;
          program = program;
          fits = fits;
          on = new_on core.actors load.entry within _ core.book _ load.rings roomy few one;
        };
        sound = record { reached = started_reached core life; kept = started_kept core life up; ready = started_ready core life };
      }

  -- users that come and go change nothing of that
  pub users_within : (core : CoreState) (users within : ℕ) → IsWithin Fits records credit core within
      → IsWithin Fits records credit (record core { life = record core.life { users = users } }) within
  users_within core users within is = record {
    goes = record { load = is.goes.load; loaded = is.goes.loaded; program = is.goes.program; fits = is.goes.fits; on = is.goes.on };
    sound = sound_stays.same core (record core.life { users = users }) core.image core.loaded (record { inc = refl; up = refl }) (inl refl) is.sound;
  }
