-- What a recovery of a core answers and leaves (`rproc_trigger_recovery` of Linux remoteproc_core.c; the faults and their order, and what becomes of the callers, are own).
use Rattle.std.specs.Prelude.{ℕ, ◌+◌, ◌==◌, Bool, true, false, not, ◌&&◌, List, Option, Some, None, Ok, option_map, option_and_then, if◌then◌else◌}
use Rattle.std.specs.Option.{option_or}
use Rattle.std.specs.Result.{result_err}
use Rattle.rp_base.specs.declared.kinds.LifeState.TheVariants.{Running}
use Rattle.rp_io.specs.Images.{ImageAnswer, text_name}
use Rattle.resource_table.specs.declared.entries.Ring.{Ring}
use Rattle.fw_load.specs.declared.rings.RingPair.{RingPair}
use Rattle.proc_state.specs.Lives.{CoreLife, life_after_recovery, recovery_fault}
use Rattle.proc_state.specs.declared.answers.LifeFault.{LifeFault}
use Rattle.crash_recover.specs.declared.core_answers.Start.{Start}
use Rattle.crash_recover.specs.declared.core_answers.Start.TheVariants as start
use Rattle.crash_recover.specs.declared.core_faults.StartFault.{StartFault}
use Rattle.crash_recover.specs.declared.core_faults.StartFault.TheVariants as start_fault
use Rattle.core_actors.specs.Actors.{fresh_actors}
use Rattle.link_bench.specs.Benches.{BenchState}
use Rattle.link_bench.specs.BenchCrashes.{after_reopen}
use Rattle.link_bench.specs.BenchEnds.{bench_to_reopen, reopen_refusal_of}
use Rattle.crash_recover.specs.CoreBoots.{image_fault, load_in}
use Rattle.crash_recover.specs.Cores.{CoreOutcome, CoreState, LoadState, loaded_rings, refuse_or}

-- whether two rings are the same
abbrev pub same_ring : Ring → Ring → Bool
same_ring one other = (one.da == other.da) && (one.align == other.align) && (one.num == other.num) && (one.notify == other.notify) && (one.pa == other.pa)

-- whether both have the name service, or neither
abbrev pub same_service : Bool → Bool → Bool
same_service one other = if one then other else not other

-- whether two pairs of rings are the same, with their buffers and the name service
abbrev pub same_pair : RingPair → RingPair → Bool
same_pair one other =
    same_ring one.to_host other.to_host && same_ring one.to_remote other.to_remote && (one.base == other.base) && same_service one.service other.service

-- the same of pairs that may be none
abbrev pub same_rings : Option RingPair → Option RingPair → Bool
same_rings (Some one) (Some other) = same_pair one other
same_rings (Some one) None = false
same_rings None (Some other) = false
same_rings None None = true

-- a load with other rings than the one before
abbrev pub rings_fault : CoreState → LoadState → Option StartFault
rings_fault core given = if same_rings (loaded_rings core.loaded) given.rings then None else Some start_fault.RingsChanged

-- why an image is refused for a recovery: there is none, it may not be loaded, or it has other rings
abbrev pub reload_fault : CoreState → ImageAnswer → Option StartFault
reload_fault core found = option_or (image_fault core found) (rings_fault core (load_in core found))

-- why a link is not reopened for a core: something keeps it from being reopened, or else this keeps the core's life from being recovered
abbrev pub link_fault : BenchState → Option LifeFault → Option StartFault
link_fault bench why = option_or (option_map start_fault.Reopen (reopen_refusal_of bench)) (option_map start_fault.Life why)

-- the same of a core that may have none
abbrev pub fault_with : Option BenchState → Option LifeFault → Option StartFault
fault_with None why = option_map start_fault.Life why
fault_with (Some bench) why = link_fault bench why

-- why a core that may be recovered is not started again: its link is not reopened, or no incarnation is left
abbrev pub reopen_fault : CoreState → Option StartFault
reopen_fault core = fault_with core.bench (result_err (life_after_recovery core.life).answer)

-- the core when its link was to be reopened: as soon as caller 0 is reclaimed there is a new host caller
abbrev pub core_to_reopen : CoreState → CoreState
core_to_reopen core = record core { bench = option_map bench_to_reopen core.bench }

-- the core with its link reopened
abbrev pub reopened_core : CoreState → CoreState
reopened_core core = record core { bench = option_map (λ bench. after_reopen (bench_to_reopen bench)) core.bench }

-- the next incarnation of a life, which runs (own)
abbrev pub next_life : CoreLife → CoreLife
next_life life = record life { state = Running; incarnation = life.incarnation + 1 }

-- the core in the next incarnation of its life (own)
abbrev pub with_next_life : CoreState → CoreState
with_next_life core = record core { life = next_life core.life }

-- the core after a recovery with this load, where nothing refuses it
abbrev pub after_recovery : CoreState → LoadState → CoreState
after_recovery core given = record (reopened_core core) {
  life = (life_after_recovery core.life).life;
  loaded = Some given;
  actors = fresh_actors core.actors given.entry;
}

-- a recovery with an image that was found, or wasn't: its life's fault comes first, then those of the image, and last that the link isn't reopened
unfoldable pub recovery_of : CoreState → ImageAnswer → CoreOutcome Start StartFault
recovery_of core found =
    refuse_or core (option_map start_fault.Life (recovery_fault core.life))
    (refuse_or core (reload_fault core found)
    (refuse_or (core_to_reopen core) (reopen_fault core) (record {
      core = after_recovery core (load_in core found);
      answer = Ok (start.Running (life_after_recovery core.life).life.incarnation);
    })))

-- the name under which a store is asked for the image that was booted or handed over (own)
abbrev pub asked_text : Option (List ℕ) → Option (List ℕ)
asked_text booted = option_and_then text_name booted
