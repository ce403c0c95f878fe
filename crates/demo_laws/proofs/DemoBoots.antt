-- The images of a demo's workers, where they load, have a program of few records, and rings with room; so a demo ends.
use Rattle.std.proofs.Common.{◌≡◌, ◌∙◌, ◌<◌, ◌≤◌, ℕ, List, [], length, None, IfSome, Result, Ok, refl, ap, sym, arith}
use Rattle.std.specs.Option.{unwrap_or}
use Rattle.std.specs.Result.{result_ok}
use Rattle.rp_base.specs.declared.limits.TheConstants.{IMAGE_MOST}
use Rattle.memory_pool.specs.declared.blocks.Block.{Block}
use Rattle.memory_pool.specs.Placements.{placement}
use Rattle.memory_pool.specs.Regions.{standard_regions}
use Rattle.memory_pool.specs.declared.faults.PlaceFault.{PlaceFault}
use Rattle.fw_load.specs.Loading.{Loads}
use Rattle.load_laws.proofs.LoadParts.{parts_fit}
use Rattle.fw_load.specs.Tables.{entries_in, table_of}
use Rattle.image_maker.specs.Demo.{demo_commands, worker_lines}
use Rattle.image_maker.specs.Images.{image_of}
use Rattle.image_maker.specs.ReadBack.{table_section}
use Rattle.image_maker.proofs.ReadRecipes.{recipe_read}
use Rattle.crash_recover.specs.CoreBoots.{load_of, load_over}
use Rattle.crash_recover.specs.Cores.{LoadState}
use Rattle.crash_recover.specs.Drives.{placed_map}
use Rattle.demo_laws.proofs.BootBounds.{AreRoomy}
use Rattle.demo_laws.proofs.DriveBounds.{IsProgram}
use Rattle.script_run.specs.Demos.{counts_from, counted_output, demo_output}
use Rattle.command_run.specs.Runs.{new_run, run_of}
use Rattle.command_run.specs.Stores.{store_of}
use Rattle.image_maker.proofs.DemoSizes.{demo_is_said}
use Rattle.script_run.proofs.DemoSums.{demo_is}
use Rattle.demo_laws.proofs.DemoEnds.{AreBootable, demo_ends}
use Rattle.demo_laws.proofs.DemoLoads.{loadable, memory_front, records_stand, rings_roomy, one_device, table_entries}
use Rattle.demo_laws.proofs.DemoPrograms.{IsAtRecord, credit_of, demo_program, records_left}
use Rattle.remote_core.specs.Workers.{new_worker}

-- what an image becomes, where these blocks are placed
record Boots (reply : ℕ) (load : LoadState) : Type 0 where
  pub program : IsProgram IsAtRecord records_left credit_of load.memory (placed_map standard_regions load)
  pub fits : IsAtRecord (new_worker load.entry)
  pub rings : IfSome load.rings AreRoomy

boots_at : (reply : ℕ) → reply < 497 → length (image_of (worker_lines reply)) ≤ IMAGE_MOST → (placed : List Block) → Loads (image_of (worker_lines reply)) standard_regions
    → placement standard_regions (entries_in (table_of (image_of (worker_lines reply)))) ≡ Ok placed → Boots reply (load_over (image_of (worker_lines reply)) standard_regions placed)
boots_at reply small short placed loads is =
    let image = image_of (worker_lines reply) in
    let back = recipe_read (worker_lines reply) (loadable reply small short) in
    let load = load_over image standard_regions placed in
    let front = memory_front reply small placed image (table_section (worker_lines reply) 768) back.segments back.section refl in
    record {
      program = demo_program load.memory (placed_map standard_regions load) reply (records_stand reply small load.memory load front);
      fits = record { entry = back.entry; place = omega arith; turns = omega arith };
      rings = rings_roomy image placed loads is (table_entries reply image back.section (back.table refl) ∙ one_device reply);
    }

bootable : AreBootable IsAtRecord records_left credit_of
unfolding load_of
bootable = record {
  loads = λ reply small short loads.
      let image = image_of (worker_lines reply) in
      let fits = parts_fit image standard_regions loads in
      let found : Result (List Block) PlaceFault → List Block = (λ found. unwrap_or (result_ok found) []) in
      let boots = boots_at reply small short (found (placement standard_regions (entries_in (table_of image)))) loads (fits.placed ∙ ap Ok (sym (ap found fits.placed))) in (boots.program, boots.fits, boots.rings, omega arith, omega arith);
}

-- the run of a demo goes to its end
pub demo_goes_on : (sessions : ℕ) → sessions ≤ 500 → (run_of (store_of []) (demo_commands sessions)).ending ≡ None
demo_goes_on sessions few = demo_ends IsAtRecord records_left credit_of bootable sessions few

-- so it writes how much was accepted
pub demo_writes : (sessions : ℕ) → sessions ≤ 500 → demo_output sessions ≡ counted_output sessions (counts_from new_run (demo_commands sessions)) None
demo_writes sessions few =
    demo_is sessions (demo_commands sessions) (demo_is_said sessions few)
    ∙ ap (counted_output sessions (counts_from new_run (demo_commands sessions))) (demo_goes_on sessions few)
