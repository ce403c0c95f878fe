-- The regions of the cores of a run are sound: they are the standard ones or none at first, and one more is added only where it passes its tests.
use Rattle.std.proofs.Common.{◌≡◌, ℕ, true, List, [], ◌∷◌, ◌++◌, Option, Some, None, refl, arith}
use Rattle.std.proofs.lemmas.Bool.{cond_both}
use Rattle.std.proofs.lemmas.List.Elements.{All-nil}
use Rattle.std.specs.Option.{option_map}
use Rattle.rp_io.specs.Images.{ImageAnswer}
use Rattle.rp_base.specs.declared.kinds.RegionKind.TheVariants.{Tcm, Pool}
use Rattle.memory_pool.specs.declared.regions.Region.{Region}
use Rattle.memory_pool.specs.Regions.{region_fault, standard_regions}
use Rattle.memory_pool.specs.Soundness.{IsRange, SoundRegions}
use Rattle.memory_pool.proofs.RegionsSound.{added_sound}
use Rattle.proc_state.specs.Lives.{is_offline}
use Rattle.link_bench.specs.declared.acts.LinkAct.{LinkAct}
use Rattle.link_bench.specs.Benches.{BenchState}
use Rattle.crash_recover.specs.declared.core_faults.AddFault.{AddFault}
use Rattle.crash_recover.specs.declared.core_faults.AddFault.TheVariants as add
use Rattle.crash_recover.specs.CoreActs.{core_act_on}
use Rattle.crash_recover.specs.Cores.{CoreState, add_fault}
use Rattle.crash_recover.specs.Drives.{drive_step}
use Rattle.core_laws.proofs.DriveWalks.{AreKeptParts, drive_kept}
use Rattle.core_laws.proofs.Outcomes.{Stays, none_mapped, report_stays}
use Rattle.script_lang.specs.declared.commands.Command.{Command}
use Rattle.script_lang.specs.declared.commands.RegionSet.{RegionSet}
use Rattle.script_lang.specs.declared.commands.RegionSet.TheVariants as set
use Rattle.command_run.specs.Runs.{RunState, effect_of, regions_of, run_of}
use Rattle.command_run.specs.Stores.{StoreAnswers}
use Rattle.run_laws.specs.Kept.{HaveSoundRegions}
use Rattle.run_laws.proofs.AnyActs.{AnyAct, effect_keeps_cores, runs_keep_cores}
use Rattle.run_laws.proofs.CoreWalks.{KeepCores}

abbrev HasSoundRegions : CoreState → Type 0
HasSoundRegions core = SoundRegions core.regions

-- ---- the regions at first

none_sound : SoundRegions []
none_sound = record {
  few = omega arith;
  small = omega arith;
  ranges = All-nil (λ (region : Region). IsRange region.da region.pa region.len);
  apart = λ i j d less within. absurd (omega (arith, within));
}

standard_sound : SoundRegions standard_regions
standard_sound =
    let tcm : Region = record { kind = Tcm; da = 0; pa = 0x20000000; len = 65536 } in
    added_sound (tcm ∷ []) (record { kind = Pool; da = 0x10000000; pa = 0x30000000; len = 1048576 }) (added_sound [] tcm none_sound refl) refl

pub first_sound : (regions : RegionSet) → SoundRegions (regions_of regions)
first_sound set.Standard = standard_sound
first_sound set.Bare = none_sound

-- ---- one region more

-- a region that is added passes its tests
passes : (core : CoreState) (region : Region) → add_fault core region ≡ None → region_fault core.regions region ≡ None
passes core region =
    cond_both (is_offline core.life.state) (option_map add.Region (region_fault core.regions region)) (Some add.NotOffline)
    (λ (found : Option AddFault). found ≡ None → region_fault core.regions region ≡ None)
    (λ _. none_mapped add.Region (region_fault core.regions region)) (λ _ other. absurd (cc))

pub more_sound : (core : CoreState) (region : Region) → add_fault core region ≡ None → HasSoundRegions core → SoundRegions (core.regions ++ region ∷ [])
more_sound core region clear is = added_sound core.regions region is (passes core region clear)

-- ---- calls, steps and acts leave the regions as they are

module _ (P : List Region → Type 0) where
  regions_stay : Stays (λ (core : CoreState). P core.regions)
  regions_stay = record {
    same = λ core life image loaded same load is. is;
    started = λ core life image loaded up load is. is;
    unlinked = λ core life image loaded load is. is;
    crashed = λ core life stops is. is;
    readied = λ core may is. is;
    recovered = λ core found clear may opens is. is;
  }

  regions_in_parts : AreKeptParts (λ (core : CoreState). P core.regions)
  regions_in_parts = record {
    turn = λ who core is. is;
    host = λ core bench there busy is. is;
    call = λ core bench there busy is. is;
    run = λ core load there silent busy is. is;
    report = λ core is. report_stays (λ (core : CoreState). P core.regions) regions_stay true core is;
  }

  pub regions_driven : (core : CoreState) → P core.regions → P (drive_step core).core.regions
  regions_driven core is = drive_kept (λ (core : CoreState). P core.regions) regions_in_parts core is

acted_sound : (core : CoreState) (steps : ℕ) (asked : LinkAct (List ℕ)) (found : Option BenchState) → HasSoundRegions core → HasSoundRegions (core_act_on core steps asked found).core
acted_sound core steps asked None is = is
acted_sound core steps asked (Some bench) is = is

-- ---- the cores of runs

cores_sound : KeepCores AnyAct HasSoundRegions
cores_sound = record {
  region = more_sound;
  driver = λ core channel kind is. is;
  lives = regions_stay SoundRegions;
  drive = λ core up is. regions_driven SoundRegions core is;
  act = λ core steps asked fits is. acted_sound core steps asked core.bench is;
}

-- a command
pub effect_sound : (answer : ImageAnswer) (run : RunState) (wanted : Command) → HaveSoundRegions run.objects → HaveSoundRegions (effect_of answer run wanted).run.objects
effect_sound = effect_keeps_cores HasSoundRegions (λ regions book. first_sound regions) cores_sound

-- a run
pub runs_sound : (told : StoreAnswers) (commands : List Command) → HaveSoundRegions (run_of told commands).last.objects
runs_sound = runs_keep_cores HasSoundRegions (λ regions book. first_sound regions) cores_sound
