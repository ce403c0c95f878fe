-- What is done under a name: on its link, on its core, or on none.
use Rattle.std.proofs.Common.{◌≡◌, ℕ, Bool, false, cond, List, [], ◌∷◌, ◌++◌, Option, Some, None, IfSome, Err, slice_get, slice_set, refl, sym, ap, subst, ◌∙◌, append-nil}
use Rattle.rp_io.specs.Images.{ImageAnswer}
use Rattle.journal.specs.Lines.{line, transcript}
use Rattle.journal.specs.declared.events.Event.{Event}
use Rattle.journal.specs.declared.events.Event.TheVariants as event
use Rattle.crash_recover.specs.Cores.{CoreState}
use Rattle.link_commands.specs.NamedLinks.{NamedLink}
use Rattle.link_commands.specs.LinkCommands.{link_effect}
use Rattle.command_run.specs.NamedCores.{NamedCoreState}
use Rattle.command_run.specs.CoreCommands.{core_act_effect, core_effect}
use Rattle.command_run.specs.CoreDrives.{drive_effect}
use Rattle.command_run.specs.CoreEffects.{CoreEffect}
use Rattle.command_run.specs.NamedImages.{ImageState}
use Rattle.link_commands.specs.declared.stops.Stop.{Stop}
use Rattle.lane_model.specs.declared.calls.LinkConfig.{LinkConfig}
use Rattle.link_bench.specs.Benches.{BenchState, new_bench_of}
use Rattle.run_log.specs.Logs.{KeepsLess, LogState}
use Rattle.link_commands.specs.Logs.{HasEffect}
use Rattle.command_run.specs.Outcomes.{CutsCore, CutsRun, HandsCoreEffect, HandsRunEffect, HasCoreEffect, HasRunEffect, KeepsWhole}
use Rattle.command_run.specs.Fetches.{KeepsDriven, drive_line}
use Rattle.rp_io.specs.declared.faults.NoImage.TheVariants as no_image
use Rattle.link_commands.specs.declared.acts.CoreAct.TheVariants as core
use Rattle.link_commands.specs.declared.acts.NamedAct.{NamedAct}
use Rattle.link_commands.specs.declared.acts.NamedAct.TheVariants as under
use Rattle.command_run.proofs.Driving.{keeps_same}
use Rattle.command_run.proofs.HandedLines.{hands_kept}
use Rattle.command_run.specs.Runs.{ObjectsState, RunState, RunEffect, effect_by_core_place, core_under, core_place, effect_of_core, effect_of_link, is_full, line_effect, effect_by_link_place, made_effect, name_effect, new_end, place_of, core_effect_at, link_effect_at, run_tells, unnamed_effect, with_links, without_link_effect}

-- a link of the same name with another bench
with_bench : (now named : NamedLink) (bench : BenchState) → now.name ≡ named.name → now.bench ≡ bench → record named { bench = bench } ≡ now
with_bench now named bench name same =
    sym (ap (λ (n : List ℕ). record now { name = n }) name ∙ ap (λ (b : BenchState). record named { bench = b }) same)

-- a core of the same name after a command
pub with_core : (now named : NamedCoreState) (core : CoreState) → now.name ≡ named.name → now.core ≡ core → record named { core = core } ≡ now
with_core now named core name same =
    sym (ap (λ (n : List ℕ). record now { name = n }) name ∙ ap (λ (b : CoreState). record named { core = b }) same)

module _ (fetched : ImageAnswer) (run : RunState) (called : List ℕ) (wanted : NamedAct (List ℕ)) where
  -- on the link at a place
  effect_at : (place : ℕ) (named : NamedLink) → Some place ≡ place_of run.objects.links called
      → slice_get run.objects.links place ≡ Some named → name_effect fetched run called wanted ≡ link_effect_at run place named (link_effect named run.steps wanted)
  unfolding name_effect
  effect_at place named placed found =
      ap (effect_by_link_place fetched run called wanted) (sym placed) ∙ ap (effect_of_link fetched run called wanted place) found

  -- on no link
  effect_unnamed : None ≡ place_of run.objects.links called → name_effect fetched run called wanted ≡ without_link_effect fetched run called wanted
  unfolding name_effect
  effect_unnamed placed = ap (effect_by_link_place fetched run called wanted) (sym placed)

  -- on the core at a place
  effect_on_core : (place : ℕ) (named : NamedCoreState) → Some place ≡ core_place run.objects.cores called
      → slice_get run.objects.cores place ≡ Some named → without_link_effect fetched run called wanted ≡ core_effect_at run place named (core_effect run.objects.images fetched run.objects.is_quiet named run.steps wanted)
  unfolding without_link_effect
  effect_on_core place named placed found =
      ap (effect_by_core_place fetched run called wanted) (sym placed) ∙ ap (effect_of_core fetched run called wanted place) found

  -- on no core
  effect_on_none : None ≡ core_place run.objects.cores called → without_link_effect fetched run called wanted ≡ unnamed_effect run called wanted
  unfolding without_link_effect
  effect_on_none placed = ap (effect_by_core_place fetched run called wanted) (sym placed)

  -- on the core at a place, where no link has the name
  pub effect_on_bare_core : (place : ℕ) (named : NamedCoreState) → None ≡ place_of run.objects.links called → Some place ≡ core_place run.objects.cores called
      → slice_get run.objects.cores place ≡ Some named → name_effect fetched run called wanted ≡ core_effect_at run place named (core_effect run.objects.images fetched run.objects.is_quiet named run.steps wanted)
  effect_on_bare_core place named bare placed found = effect_unnamed bare ∙ effect_on_core place named placed found

  module _ (before after : LogState) (answer : Option Stop) where
    -- what the link at a place did is what the run did
    pub placed_run : (place : ℕ) (named now : NamedLink) → Some place ≡ place_of run.objects.links called
        → slice_get run.objects.links place ≡ Some named → now.name ≡ named.name → HasEffect (link_effect named run.steps wanted) now.bench before after answer
        → HasRunEffect (name_effect fetched run called wanted) (record run.objects { links = slice_set run.objects.links place now }) before after answer
    placed_run place named now placed found name did =
        let effect = link_effect named run.steps wanted in
        let done : HasRunEffect (link_effect_at run place named effect) (record run.objects { links = slice_set run.objects.links place now }) before after answer =
        record {
          objects = sym (ap (λ (n : NamedLink). record run.objects { links = slice_set run.objects.links place n }) (with_bench now named effect.bench name did.bench));
          steps = did.steps;
          lines = did.lines;
          ending = did.ending;
        } in
        subst (λ (e : RunEffect). HasRunEffect e (record run.objects { links = slice_set run.objects.links place now }) before after answer) (sym (effect_at place named placed found)) done

    -- what was done without a link of the name is what the run did
    pub unnamed_run : (objects : ObjectsState) → None ≡ place_of run.objects.links called
        → HasRunEffect (without_link_effect fetched run called wanted) objects before after answer → HasRunEffect (name_effect fetched run called wanted) objects before after answer
    unnamed_run objects placed did =
        subst (λ (e : RunEffect). HasRunEffect e objects before after answer) (sym (effect_unnamed placed)) did

    -- what the core at a place did is what the run did
    pub core_run : (place : ℕ) (named now : NamedCoreState) → Some place ≡ core_place run.objects.cores called
        → slice_get run.objects.cores place ≡ Some named → now.name ≡ named.name → HasCoreEffect (core_effect run.objects.images fetched run.objects.is_quiet named run.steps wanted) now.core before after answer
        → HasRunEffect (without_link_effect fetched run called wanted) (record run.objects { cores = slice_set run.objects.cores place now }) before after answer
    core_run place named now placed found name did =
        let effect = core_effect run.objects.images fetched run.objects.is_quiet named run.steps wanted in
        let done : HasRunEffect (core_effect_at run place named effect) (record run.objects { cores = slice_set run.objects.cores place now }) before after answer =
        record {
          objects = sym (ap (λ (n : NamedCoreState). record run.objects { cores = slice_set run.objects.cores place n }) (with_core now named effect.core name did.core));
          steps = did.steps;
          lines = did.lines;
          ending = did.ending;
        } in
        subst (λ (e : RunEffect). HasRunEffect e (record run.objects { cores = slice_set run.objects.cores place now }) before after answer) (sym (effect_on_core place named placed found)) done

    -- what was done without a link or a core of the name is what the run did
    pub nameless_run : (objects : ObjectsState) → None ≡ core_place run.objects.cores called
        → HasRunEffect (unnamed_effect run called wanted) objects before after answer → HasRunEffect (without_link_effect fetched run called wanted) objects before after answer
    nameless_run objects placed did =
        subst (λ (e : RunEffect). HasRunEffect e objects before after answer) (sym (effect_on_none placed)) did

module _ (run : RunState) (objects : ObjectsState) (before after : LogState) where
  -- one event is told, with which a run goes on
  tells_run : (next : RunState) (told : Event) → objects ≡ next.objects → after.steps ≡ next.steps → after.lines ≡ before.lines ++ line told
      → HasRunEffect (run_tells next told) objects before after None
  tells_run next told is steps kept = record {
    objects = is;
    steps = steps;
    lines = kept ∙ ap (λ (bytes : List ℕ). before.lines ++ bytes) (sym (append-nil (line told)));
    ending = refl;
  }

  -- a link of a new name is made
  pub made_run : (name : List ℕ) (config : LinkConfig) (has_service : Bool) → is_full run.objects ≡ false
      → objects ≡ record run.objects { links = run.objects.links ++ record { name = name; bench = new_bench_of config (new_end has_service) (new_end false) } ∷ [] }
      → before.steps ≡ run.steps → after ≡ record before { lines = before.lines ++ line (event.Open name 1) }
      → HasRunEffect (made_effect run name config has_service) objects before after None
  unfolding made_effect
  made_run name config has_service few is steps kept =
      let made = with_links run (run.objects.links ++ record { name = name; bench = new_bench_of config (new_end has_service) (new_end false) } ∷ []) in
      subst (λ full. HasRunEffect (cond full (run_tells run event.ObjectsFull) (run_tells made (event.Open name 1))) objects before after None) (sym few)
      (tells_run made (event.Open name 1) is (ap (λ (log : LogState). log.steps) kept ∙ steps) (ap (λ (log : LogState). log.lines) kept))

-- a drive of a core
pub drive_on_core : (images : List ImageState) (fetched : ImageAnswer) (is_quiet : Bool) (named : NamedCoreState) (steps count : ℕ)
    → core_effect images fetched is_quiet named steps (under.Core (core.Drive count)) ≡ drive_effect named.name is_quiet named.core steps count
unfolding core_effect core_act_effect
drive_on_core images fetched is_quiet named steps count = refl

module _ (fetched : ImageAnswer) (run : RunState) (called : List ℕ) (count place : ℕ) (named : NamedCoreState) (bare : None ≡ place_of run.objects.links called)
    (placed : Some place ≡ core_place run.objects.cores called) (found : slice_get run.objects.cores place ≡ Some named) where
  abbrev driven : CoreEffect
  driven = drive_effect named.name run.objects.is_quiet named.core run.steps count

  pub drive_placed : name_effect fetched run called (under.Core (core.Drive count)) ≡ core_effect_at run place named driven
  drive_placed =
      effect_on_bare_core fetched run called (under.Core (core.Drive count)) place named bare placed found
      ∙ ap (core_effect_at run place named) (drive_on_core run.objects.images fetched run.objects.is_quiet named run.steps count)

  -- what a drive of the core at a place did is what the run did
  pub drive_run : (before after : LogState) (written new : Option (List ℕ)) (answer : Option Stop) (now : NamedCoreState) → now.name ≡ named.name
      → HandsCoreEffect driven now.core before after written new answer
      → HandsRunEffect (name_effect fetched run called (under.Core (core.Drive count))) (record run.objects { cores = slice_set run.objects.cores place now }) before after written new answer
  drive_run before after written new answer now name did =
      subst (λ (e : RunEffect). HandsRunEffect e (record run.objects { cores = slice_set run.objects.cores place now }) before after written new answer) (sym drive_placed)
      (record {
        objects = sym (ap (λ (n : NamedCoreState). record run.objects { cores = slice_set run.objects.cores place n }) (with_core now named driven.core name did.core));
        steps = did.steps;
        hands = did.hands;
        ending = did.ending;
      })

-- a drive of the core at a place that was cut off is one of the run
pub drive_cut : (fetched : ImageAnswer) (run : RunState) (called : List ℕ) (count place : ℕ) (named now : NamedCoreState) (lines : List ℕ) (written new : Option (List ℕ)) → None ≡ place_of run.objects.links called
    → Some place ≡ core_place run.objects.cores called → slice_get run.objects.cores place ≡ Some named → now.name ≡ named.name
    → CutsCore (λ done. drive_effect named.name run.objects.is_quiet named.core run.steps done) count now.core lines written new
    → CutsRun (λ done. name_effect fetched run called (under.Core (core.Drive done))) count (record run.objects { cores = slice_set run.objects.cores place now }) lines written new
drive_cut fetched run called count place named now lines written new bare placed found name cut =
    let same = λ (n : ℕ). drive_placed fetched run called n place named bare placed found in
    let at = same cut.done in
    let left = (drive_effect named.name run.objects.is_quiet named.core run.steps cut.done).core in
    record {
      done = cut.done;
      within = cut.within;
      is = sym (ap (λ (e : RunEffect). e.run.objects) at
          ∙ ap (λ (n : NamedCoreState). record run.objects { cores = slice_set run.objects.cores place n }) (with_core now named left name cut.is));
      told = cut.told;
      last = cut.last;
      tells = ap (λ (e : RunEffect). e.events) at ∙ cut.tells;
      handed = cut.handed;
      kept = cut.kept;
      hands = cut.hands;
      front = cut.front;
      few = λ less. keeps_same _ _ cut.done cut.told cut.told cut.kept (λ n. ap (λ (e : RunEffect). e.events) (same n)) refl (cut.few less);
    }

if_driven : (found : Option NamedCoreState) (Keeps : Type 0) → Keeps → IfSome found (λ _. Keeps)
if_driven None Keeps keeps = tt
if_driven (Some named) Keeps keeps = keeps

-- what is kept behind a drive of the core at a place
pub drive_keeps : (run : RunState) (called : List ℕ) (count place : ℕ) (named : NamedCoreState) (before : LogState) (lines : List ℕ) → None ≡ place_of run.objects.links called
    → Some place ≡ core_place run.objects.cores called → slice_get run.objects.cores place ≡ Some named
    → (KeepsLess before → KeepsWhole (λ done. (drive_effect named.name run.objects.is_quiet named.core run.steps done).events) count lines) → KeepsDriven run called count before lines
drive_keeps run called count place named before lines bare placed found keeps =
    let same = λ (n : ℕ). ap (λ (e : RunEffect). e.events) (drive_placed (Err no_image.Missing) run called n place named bare placed found) in
    if_driven (core_under run.objects called) (KeepsLess before → KeepsWhole (λ done. (line_effect (Err no_image.Missing) run (drive_line called done)).events) count lines)
    (λ less. keeps_same _ _ count _ _ lines same (same count) (keeps less))

-- what a command did that handed on nothing
pub kept_run : (effect : RunEffect) (objects : ObjectsState) (before after : LogState) (written : Option (List ℕ)) (answer : Option Stop)
    → HasRunEffect effect objects before after answer → HandsRunEffect effect objects before after written written answer
kept_run effect objects before after written answer did = record {
  objects = did.objects;
  steps = did.steps;
  hands = hands_kept written before.lines (transcript effect.events) after.lines did.lines;
  ending = did.ending;
}
