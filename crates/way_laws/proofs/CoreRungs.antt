-- The rings of the link of a core are sound: it is made over rings of a sound table, and each change keeps them.
use Rattle.rp_io.specs.Images.{ImageAnswer}
use Rattle.channel_bus.specs.Sides.{side_meaning}
use Rattle.core_laws.proofs.DriveWalks.{AreKeptParts, drive_kept}
use Rattle.core_laws.proofs.Outcomes.{IsLoadOf, Stays, none_mapped, report_left}
use Rattle.core_laws.specs.BenchMoves.{IsReachedBench, IsReachedCore}
use Rattle.core_laws.specs.DriveParts.{MayDrive}
use Rattle.crash_recover.proofs.Loads.{pair_config}
use Rattle.core_actors.specs.Actors.{driver_names}
use Rattle.crash_recover.specs.CoreActs.{act_on_core, core_act_on}
use Rattle.crash_recover.specs.CoreBoots.{core_bench, fresh_end, image_fault, load_in, load_of, started_core}
use Rattle.crash_recover.specs.CoreCrashes.{after_report, crashed_core}
use Rattle.crash_recover.specs.Cores.{CoreState, LoadState, loaded_rings, new_core}
use Rattle.core_actors.specs.ActorEnds.{actors_after_end}
use Rattle.crash_recover.specs.Drives.{drive_step}
use Rattle.crash_recover.specs.declared.core_faults.StartFault.TheVariants as start_fault
use Rattle.fw_load.proofs.Steps.{pair_sound}
use Rattle.fw_load.specs.Loading.{Loads, load_fault}
use Rattle.fw_load.specs.Rings.{IsSoundPair, pair_from, pair_of}
use Rattle.fw_load.specs.Tables.{entries_in, patched_in, table_of}
use Rattle.fw_load.specs.declared.rings.RingPair.{RingPair}
use Rattle.lane_laws.proofs.RingLinks.{opened_lane_sound, reopen_kept}
use Rattle.lane_laws.specs.SoundRingLinks.{HasSoundRings}
use Rattle.link_bench.specs.Acts.{IsFitAct}
use Rattle.link_bench.specs.BenchCrashes.{after_reopen}
use Rattle.link_bench.specs.BenchEnds.{bench_to_reopen, crashed_bench}
use Rattle.link_bench.specs.Benches.{BenchState}
use Rattle.link_bench.specs.declared.acts.LinkAct.{LinkAct}
use Rattle.load_laws.proofs.LoadParts.{parts_fit, placed_is_sound, table_good}
use Rattle.load_laws.proofs.PatchParts.{placed_good}
use Rattle.memory_pool.specs.Soundness.{SoundRegions}
use Rattle.memory_pool.specs.declared.faults.PlaceFault.{PlaceFault}
use Rattle.memory_pool.specs.declared.blocks.Block.{Block}
use Rattle.memory_pool.specs.declared.regions.Region.{Region}
use Rattle.proc_state.specs.Lives.{CoreLife}
use Rattle.resource_table.proofs.Devices.{sound_entry}
use Rattle.resource_table.proofs.Sound.{length-entries_of}
use Rattle.resource_table.specs.Entries.{entries_of, entry_at, entry_count, start_of}
use Rattle.resource_table.specs.Tables.{GoodTable, IsSoundDevice, IsSoundEntry}
use Rattle.resource_table.specs.declared.entries.Entry.{Entry}
use Rattle.resource_table.specs.declared.entries.Entry.TheVariants as entry
use Rattle.resource_table.specs.declared.entries.Vdev.{Vdev}
use Rattle.run_laws.proofs.CoreWalks.{FitsNamed, KeepCores, core_is_kept}
use Rattle.run_laws.proofs.CoresReady.{IsSoundCore, may_drive, sound_cores, sound_stays}
use Rattle.run_laws.proofs.RegionsSound.{first_sound, more_sound}
use Rattle.script_lang.specs.Runnable.{IsBook}
use Rattle.script_lang.specs.declared.commands.RegionSet.{RegionSet}
use Rattle.command_run.specs.CoreCommands.{core_effect}
use Rattle.command_run.specs.NamedCores.{NamedCoreState}
use Rattle.command_run.specs.NamedImages.{ImageState}
use Rattle.command_run.specs.Runs.{regions_of}
use Rattle.link_commands.specs.declared.acts.NamedAct.{NamedAct}
use Rattle.std.proofs.Common.{inl, inr, Bool, Err, IfSome, List, None, Ok, Option, Result, Some, [], ap, arith, cond, false, is_some, map, option_map, refl, subst, suc, sym, true, zero, ℕ, ◌+◌, ◌<◌, ◌==◌, ◌∷◌, ◌≡◌, ◌≤◌, ◌∙◌}
use Rattle.std.proofs.lemmas.Bool.{eqb-true, true≢false}
use Rattle.std.specs.List.{range_with_len}
use Rattle.std.specs.Option.{unwrap_or}
use Rattle.std.specs.Result.{result_ok}
use Rattle.memory_pool.specs.Placements.{placement}
use Rattle.act_laws.proofs.CoreLands.{LandsIf, crash_lands, drive_lands, ready_lands}
use Rattle.act_laws.proofs.ReachedActs.{deeds_land}
use Rattle.act_laws.proofs.Tales.{rings_kept}
use Rattle.act_laws.specs.CoreDeeds.{crash_deeds, drive_deeds, ready_deeds}
use Rattle.act_laws.specs.Deeds.{Deeds, act_deeds}

-- ---- the rings of a table

abbrev AreSoundEntries : List Entry → Type 0
AreSoundEntries [] = Unit {0}
AreSoundEntries (first ∷ more) = IsSoundEntry first × AreSoundEntries more

each_sound : (f : ℕ → Entry) (from count : ℕ) → ((index : ℕ) → from ≤ index → index < from + count → IsSoundEntry (f index)) → AreSoundEntries (map f (range_with_len from count))
each_sound f from zero each = tt
each_sound f from (suc count) each = (each from (omega arith) (omega arith), each_sound f (from + 1) count (λ index least below. each index (omega (arith, least)) (omega (arith, below))))

table_sound : (table : List ℕ) → GoodTable table → AreSoundEntries (entries_of table)
table_sound table good =
    each_sound (λ index. entry_at table (start_of table index)) 0 (entry_count table)
    (λ index least below. sound_entry table index good (subst (λ (n : ℕ). index < n) (sym (length-entries_of table)) (omega (arith, below))))

pair_at : (is : Bool) (placed : List Block) (index : ℕ) (device : Vdev) (rest : Option RingPair) → (device.id == 7) ≡ is → IsSoundDevice device → IfSome rest IsSoundPair
    → IfSome (cond is (Some (pair_of placed index device)) rest) IsSoundPair
pair_at true placed index device rest is sound later = pair_sound placed index device sound (eqb-true _ _ is)
pair_at false placed index device rest is sound later = later

found_pair : (placed : List Block) (index : ℕ) (rest : List Entry) → AreSoundEntries rest → IfSome (pair_from placed index rest) IsSoundPair
found_pair placed index [] sound = tt
found_pair placed index (entry.Device device ∷ more) sound =
    pair_at (device.id == 7) placed index device (pair_from placed (index + 1) more) refl sound.0 (found_pair placed (index + 1) more sound.1)
found_pair placed index (other ∷ more) sound = found_pair placed (index + 1) more sound.1

-- the patched table of an image that may be loaded, where it has one
patched_sound : (image : List ℕ) (regions : List Region) (placed : List Block) → SoundRegions regions → Loads image regions → placement regions (entries_in (table_of image)) ≡ Ok placed
    → (found : Option (List ℕ)) → table_of image ≡ found → AreSoundEntries (entries_of (patched_in found placed))
patched_sound image regions placed sound loads is None has = tt
patched_sound image regions placed sound loads is (Some table) has =
    let there : placement regions (entries_of table) ≡ Ok placed = sym (ap (λ (found : Option (List ℕ)). placement regions (entries_in found)) has) ∙ is in
    let held = placed_is_sound image regions placed sound (parts_fit image regions loads).table is in
    table_sound (patched_in (Some table) placed) (placed_good table (table_good image regions table loads has) regions placed there held)

-- where the entries of its table are placed
placed_in : Result (List Block) PlaceFault → List Block
placed_in found = unwrap_or (result_ok found) []

image_sound : (image : List ℕ) (regions : List Region) → SoundRegions regions → load_fault image regions ≡ None → IfSome (load_of image regions).rings IsSoundPair
unfolding load_of placed_in
image_sound image regions sound loads =
    let fits = parts_fit image regions loads in
    let placed = placed_in (placement regions (entries_in (table_of image))) in
    found_pair placed 0 (entries_of (patched_in (table_of image) placed))
    (patched_sound image regions placed sound loads (fits.placed ∙ ap Ok (sym (ap placed_in fits.placed))) (table_of image) refl)

-- what is loaded of an image that nothing refuses
loaded_sound : (core : CoreState) (found : ImageAnswer) → SoundRegions core.regions → image_fault core found ≡ None → IfSome (load_in core found).rings IsSoundPair
loaded_sound core (Ok image) sound none = image_sound image core.regions sound (none_mapped start_fault.Load (load_fault image core.regions) none)
loaded_sound core (Err why) sound none = absurd (true≢false (ap is_some none))

-- ---- links with sound rings

-- the rings of a bench are sound
abbrev pub IsRung : BenchState → Type 0
IsRung bench = HasSoundRings bench.rings

rung_if : (found : Option BenchState) (deeds : Deeds) (left : Option BenchState) → LandsIf found deeds left → IfSome found IsRung → IfSome left IsRung
rung_if None deeds None lands is = tt
rung_if None deeds (Some left) lands is = absurd lands
rung_if (Some bench) deeds None lands is = absurd lands
rung_if (Some bench) deeds (Some left) lands is = rings_kept bench deeds left lands is

made_rung : (names : List (List ℕ)) (book first : ℕ) (rings : RingPair) → IsBook book → IsSoundPair rings → IsRung (core_bench names book first rings)
unfolding core_bench
made_rung names book first rings fit sound =
    let config = pair_config rings book 1 sound fit.0 fit.1 (omega arith) in
    record {
      to_host = opened_lane_sound rings.to_host.num true book (fresh_end rings.service names) config.to_host fit.1;
      to_remote = opened_lane_sound rings.to_remote.num false book (fresh_end false []) config.to_remote fit.1;
    }

rings_rung : (names : List (List ℕ)) (book first : ℕ) (rings : Option RingPair) → IsBook book → IfSome rings IsSoundPair → IfSome (option_map (core_bench names book first) rings) IsRung
rings_rung names book first None fit sound = tt
rings_rung names book first (Some rings) fit sound = made_rung names book first rings fit sound

-- ---- cores

-- a core whose books are of a fit size, whose regions are sound, and which has sound rings loaded
pub record IsFitLoad (core : CoreState) : Type 0 where
  pub book : IsBook core.book
  pub regions : SoundRegions core.regions
  pub rings : IfSome (loaded_rings core.loaded) IsSoundPair

-- and whose link, if it has one, has sound rings
pub record IsRungCore (core : CoreState) : Type 0 where
  pub load : IsFitLoad core
  pub bench : IfSome core.bench IsRung

crashed_rung : (found : Option BenchState) → IfSome found IsRung → IfSome (option_map crashed_bench found) IsRung
crashed_rung None is = tt
crashed_rung (Some bench) is = rung_if (Some bench) (crash_deeds bench) (Some (crashed_bench bench)) (crash_lands bench) is

ready_rung : (found : Option BenchState) → IfSome found IsRung → IfSome (option_map bench_to_reopen found) IsRung
ready_rung None is = tt
ready_rung (Some bench) is = rung_if (Some bench) (ready_deeds bench) (Some (bench_to_reopen bench)) (ready_lands bench) is

again_rung : (found : Option BenchState) → IfSome found IsRung → IfSome (option_map (λ (bench : BenchState). after_reopen (bench_to_reopen bench)) found) IsRung
again_rung None is = tt
again_rung (Some bench) is = reopen_kept side_meaning (bench_to_reopen bench).rings (ready_rung (Some bench) is)

module _ (core : CoreState) (is : IsRungCore core) where
  crashed_core_rung : (life : CoreLife) → IsRungCore (crashed_core life core)
  crashed_core_rung life = record { load = record { book = is.load.book; regions = is.load.regions; rings = is.load.rings }; bench = crashed_rung core.bench is.bench }

  started_rung : (life : CoreLife) (image : Option (List ℕ)) (loaded : Option LoadState) → IfSome (loaded_rings loaded) IsSoundPair → IsRungCore (started_core life (record core { image = image; loaded = loaded }))
  started_rung life image loaded sound = record {
    load = record { book = is.load.book; regions = is.load.regions; rings = sound };
    bench = rings_rung (driver_names core.actors) core.book life.incarnation (loaded_rings loaded) is.load.book sound;
  }

-- ---- steps of the actors

report_load : (core : CoreState) → IsFitLoad core → IsFitLoad (after_report core)
report_load core is = report_left IsFitLoad true core is (λ life stops. record { book = is.book; regions = is.regions; rings = is.rings })

load_parts : AreKeptParts IsFitLoad
load_parts = record {
  turn = λ who core is. record { book = is.book; regions = is.regions; rings = is.rings };
  host = λ core bench there busy is. record { book = is.book; regions = is.regions; rings = is.rings };
  call = λ core bench there busy is. record { book = is.book; regions = is.regions; rings = is.rings };
  run = λ core load there silent busy is. record { book = is.book; regions = is.regions; rings = subst (λ (loaded : Option LoadState). IfSome (loaded_rings loaded) IsSoundPair) there is.rings };
  report = report_load;
}

drive_rung : (core : CoreState) → MayDrive core → IsReachedCore core → IsRungCore core → IsRungCore (drive_step core).core
drive_rung core may reached is = record {
  load = drive_kept IsFitLoad load_parts core is.load;
  bench = rung_if core.bench (drive_deeds core) (drive_step core).core.bench (drive_lands core may reached) is.bench;
}

-- ---- acts

act_rung : (core : CoreState) (steps : ℕ) (asked : LinkAct (List ℕ)) (found : Option BenchState) → core.bench ≡ found → IsFitAct asked → IfSome found IsReachedBench → IsRungCore core
    → IsRungCore (core_act_on core steps asked found).core
act_rung core steps asked None none fit reached is = is
act_rung core steps asked (Some bench) found fit reached is =
    let rung : IfSome (Some bench) IsRung = subst (λ (now : Option BenchState). IfSome now IsRung) found is.bench in
    record {
      load = record { book = is.load.book; regions = is.load.regions; rings = is.load.rings };
      bench = rung_if (Some bench) (act_deeds actors_after_end 2 bench core.actors steps asked) (Some (act_on_core core bench steps asked).bench)
          (deeds_land actors_after_end 2 bench core.actors steps asked fit reached) rung;
    }

-- ---- what is done under the name of a core

-- and that it came there by moves, and may go on
record IsSoundRung (core : CoreState) : Type 0 where
  pub sound : IsSoundCore core
  pub rung : IsRungCore core

-- what a core has loaded behind a call has sound rings
load_sound : (core : CoreState) (loaded : Option LoadState) → IsFitLoad core → IsLoadOf core loaded → IfSome (loaded_rings loaded) IsSoundPair
load_sound core loaded is (inl same) = subst (λ (now : Option LoadState). IfSome (loaded_rings now) IsSoundPair) (sym same) is.rings
load_sound core loaded is (inr (inl none)) = subst (λ (now : Option LoadState). IfSome (loaded_rings now) IsSoundPair) (sym none) tt
load_sound core loaded is (inr (inr load)) = subst (λ (now : Option LoadState). IfSome (loaded_rings now) IsSoundPair) (sym load.1.1) (loaded_sound core load.0 is.regions load.1.0)

rung_stays : Stays IsSoundRung
rung_stays = record {
  same = λ core life image loaded same load is. record {
    sound = sound_stays.same core life image loaded same load is.sound;
    rung = record { load = record { book = is.rung.load.book; regions = is.rung.load.regions; rings = load_sound core loaded is.rung.load load }; bench = is.rung.bench };
  };
  started = λ core life image loaded up load is. record {
    sound = sound_stays.started core life image loaded up load is.sound;
    rung = started_rung core is.rung life image loaded (load_sound core loaded is.rung.load load);
  };
  unlinked = λ core life image loaded load is. record {
    sound = sound_stays.unlinked core life image loaded load is.sound;
    rung = record { load = record { book = is.rung.load.book; regions = is.rung.load.regions; rings = load_sound core loaded is.rung.load load }; bench = tt };
  };
  crashed = λ core life stops is. record { sound = sound_stays.crashed core life stops is.sound; rung = crashed_core_rung core is.rung life };
  readied = λ core may is. record {
    sound = sound_stays.readied core may is.sound;
    rung = record { load = record { book = is.rung.load.book; regions = is.rung.load.regions; rings = is.rung.load.rings }; bench = ready_rung core.bench is.rung.bench };
  };
  recovered = λ core found clear may opens is. record {
    sound = sound_stays.recovered core found clear may opens is.sound;
    rung = record { load = record { book = is.rung.load.book; regions = is.rung.load.regions; rings = loaded_sound core found is.rung.load.regions clear }; bench = again_rung core.bench is.rung.bench };
  };
}

rung_cores : KeepCores IsFitAct IsSoundRung
rung_cores = record {
  region = λ core region clear is. record {
    sound = sound_cores.region core region clear is.sound;
    rung = record {
      load = record {
        book = is.rung.load.book;
        regions = more_sound core region clear is.rung.load.regions;
        rings = is.rung.load.rings;
      };
      bench = is.rung.bench;
    };
  };
  driver = λ core channel kind is. record {
    sound = sound_cores.driver core channel kind is.sound;
    rung = record { load = record { book = is.rung.load.book; regions = is.rung.load.regions; rings = is.rung.load.rings }; bench = is.rung.bench };
  };
  lives = rung_stays;
  drive = λ core up is. record { sound = sound_cores.drive core up is.sound; rung = drive_rung core (may_drive core up is.sound) is.sound.reached is.rung };
  act = λ core steps asked fits is. record { sound = sound_cores.act core steps asked fits is.sound; rung = act_rung core steps asked core.bench refl fits is.sound.reached.bench is.rung };
}

pub core_rung : (images : List ImageState) (answer : ImageAnswer) (on : NamedCoreState) (steps : ℕ) → IsSoundCore on.core → IsRungCore on.core → (is_quiet : Bool) (wanted : NamedAct (List ℕ))
    → FitsNamed IsFitAct wanted → IsRungCore (core_effect images answer is_quiet on steps wanted).core
core_rung images answer on steps sound is is_quiet wanted fits =
    (core_is_kept IsFitAct IsSoundRung rung_cores images answer is_quiet on steps wanted fits (record { sound = sound; rung = is })).rung

-- a core that a script makes
pub new_core_rung : (set : RegionSet) (book : ℕ) → IsBook book → IsRungCore (new_core (regions_of set) [] book)
new_core_rung set book fit = record { load = record { book = fit; regions = first_sound set; rings = tt }; bench = tt }
