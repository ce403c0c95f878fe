-- What a command does to the links and the cores of a run, walked once: each command has one of these outcomes.
use Rattle.std.proofs.Common.{◌≡◌, ℕ, Bool, false, List, [], ◌∷◌, ◌++◌, length, Option, Some, None, is_none, bytes_eq, Result, Ok, Err, slice_get, refl, sym, ap, ◌∙◌}
use Rattle.std.proofs.lemmas.Bool.{cond_both, true≢false}
use Rattle.rp_io.specs.Images.{ImageAnswer}
use Rattle.rp_base.specs.declared.kinds.Switch.{Switch}
use Rattle.lane_model.specs.declared.calls.LinkConfig.{LinkConfig}
use Rattle.script_lang.specs.declared.commands.Command.{Command}
use Rattle.script_lang.specs.declared.commands.RegionSet.{RegionSet}
use Rattle.script_lang.specs.declared.recipes.RecipeLine.{RecipeLine}
use Rattle.image_maker.specs.Images.{image_of}
use Rattle.journal.specs.declared.events.Event.{Event}
use Rattle.journal.specs.declared.events.Event.TheVariants as event
use Rattle.link_bench.specs.Benches.{new_bench_of}
use Rattle.crash_recover.specs.Cores.{new_core}
use Rattle.link_commands.specs.declared.acts.Line.{Line}
use Rattle.link_commands.specs.declared.acts.Line.TheVariants as line
use Rattle.link_commands.specs.declared.acts.Making.{Making}
use Rattle.link_commands.specs.declared.acts.Making.TheVariants as making
use Rattle.link_commands.specs.declared.acts.NamedAct.{NamedAct}
use Rattle.link_commands.specs.declared.acts.NamedAct.TheVariants as under
use Rattle.link_commands.specs.Acts.{line_of}
use Rattle.link_commands.specs.LinkCommands.{link_effect}
use Rattle.link_commands.specs.NamedLinks.{NamedLink}
use Rattle.command_run.specs.CoreCommands.{core_effect, is_on}
use Rattle.command_run.specs.NamedCores.{NamedCoreState}
use Rattle.command_run.specs.Runs.{RunEffect, RunState, core_effect_at, core_made_effect, core_place, dump_answer, dump_effect, dump_effect_of, effect_by_core_place, effect_by_link_place, effect_of, effect_of_core, effect_of_link, has_image, image_effect, is_full, line_effect, link_effect_at, made_effect, making_effect, name_effect, new_end, place_of, quiet_effect, regions_of, run_tells, unnamed_effect, with_cores, with_dump, with_image, with_links, without_link_effect}
use Rattle.run_laws.specs.Reopenings.{IsLinkAt}
use Rattle.run_laws.specs.Starts.{IsCoreAt}
use Rattle.run_laws.proofs.Items.{stands}

-- a link, and a core, that a script makes
abbrev pub made_link : List ℕ → LinkConfig → Bool → NamedLink
made_link name config has_service = record { name = name; bench = new_bench_of config (new_end has_service) (new_end false) }

abbrev pub made_core : List ℕ → RegionSet → ℕ → NamedCoreState
made_core name set book = record { name = name; core = new_core (regions_of set) [] book }

-- no link and no core of the run has this name
pub record IsNameless (run : RunState) (name : List ℕ) : Type 0 where
  pub linkless : place_of run.objects.links name ≡ None
  pub coreless : core_place run.objects.cores name ≡ None

module _ (answer : ImageAnswer) (run : RunState) where
  -- what a command may leave and tell, by what it is about
  pub data CommandOutcome : Line (List RecipeLine) (List ℕ) → RunEffect → Type 0 where
    -- an image is made, or one has its name
    MakesImage : (name : List ℕ) (lines : List RecipeLine) → CommandOutcome (line.Image name lines) (run_tells (with_image run name (image_of lines)) (event.Image name (length (image_of lines))))
    FindsImage : (name : List ℕ) (lines : List RecipeLine) → CommandOutcome (line.Image name lines) (run_tells run (event.ImageExists name))
    -- drives are quiet, or not
    Quiets : (set : Switch) → CommandOutcome (line.Quiet set) (record { run = record run { objects = record run.objects { is_quiet = is_on set } }; events = []; ending = None })
    -- a dump is kept as an image, or something is told in its place
    KeepsDump : (name image bytes : List ℕ) → dump_answer run.objects name image ≡ Ok bytes → CommandOutcome (line.Dump name image) (run_tells (with_dump run image bytes) (event.Image image (length bytes)))
    RefusesDump : (name image : List ℕ) (told : Event) → dump_answer run.objects name image ≡ Err told → CommandOutcome (line.Dump name image) (run_tells run told)
    -- nothing has the name: a link or a core is made under it, where there is room for one more, and nothing else is done
    NamesNothing : (name : List ℕ) (wanted : NamedAct (List ℕ)) → IsNameless run name → CommandOutcome (line.On name wanted) (run_tells run (event.Unknown name))
    HasNoRoom : (name : List ℕ) (made : Making) → IsNameless run name → CommandOutcome (line.On name (under.Make made)) (run_tells run event.ObjectsFull)
    MakesLink : (name : List ℕ) (config : LinkConfig) (has_service : Bool) → IsNameless run name
        → CommandOutcome (line.On name (under.Make (making.Link config has_service))) (run_tells (with_links run (run.objects.links ++ made_link name config has_service ∷ [])) (event.Open name 1))
    MakesCore : (name : List ℕ) (set : RegionSet) (book : ℕ) → IsNameless run name
        → CommandOutcome (line.On name (under.Make (making.Core set book))) (run_tells (with_cores run (run.objects.cores ++ made_core name set book ∷ [])) (event.Offline name))
    -- the link, or the core, at the place of the name has done what the act does
    ActsOnLink : (name : List ℕ) (wanted : NamedAct (List ℕ)) (place : ℕ) (on : NamedLink) → IsLinkAt run name place on
        → CommandOutcome (line.On name wanted) (link_effect_at run place on (link_effect on run.steps wanted))
    ActsOnCore : (name : List ℕ) (wanted : NamedAct (List ℕ)) (place : ℕ) (on : NamedCoreState) → IsCoreAt run name place on
        → CommandOutcome (line.On name wanted) (core_effect_at run place on (core_effect run.objects.images answer run.objects.is_quiet on run.steps wanted))

  -- ---- under a name

  module _ (name : List ℕ) where
    -- this may come of an act under the name
    abbrev Comes : NamedAct (List ℕ) → RunEffect → Type 0
    Comes wanted effect = CommandOutcome (line.On name wanted) effect

    by_making : (made : Making) → IsNameless run name → Comes (under.Make made) (making_effect run name made)
    unfolding made_effect core_made_effect
    by_making (making.Link config has_service) none =
        cond_both (is_full run.objects) (run_tells run event.ObjectsFull) _ (Comes (under.Make (making.Link config has_service))) (λ _. HasNoRoom name (making.Link config has_service) none)
        (λ _. MakesLink name config has_service none)
    by_making (making.Core set book) none =
        cond_both (is_full run.objects) (run_tells run event.ObjectsFull) _ (Comes (under.Make (making.Core set book))) (λ _. HasNoRoom name (making.Core set book) none)
        (λ _. MakesCore name set book none)

    by_nothing : (wanted : NamedAct (List ℕ)) → IsNameless run name → Comes wanted (unnamed_effect run name wanted)
    unfolding unnamed_effect
    by_nothing (under.Make made) none = by_making made none
    by_nothing other none = NamesNothing name other none

    module _ (wanted : NamedAct (List ℕ)) where
      at_core : (place : ℕ) (found : Option NamedCoreState) → place_of run.objects.links name ≡ None → core_place run.objects.cores name ≡ Some place → slice_get run.objects.cores place ≡ found
          → Comes wanted (effect_of_core answer run name wanted place found)
      at_core place None linkless is none = absurd (true≢false (ap is_none (sym none) ∙ stands (λ (named : NamedCoreState). bytes_eq named.name name) run.objects.cores place is))
      at_core place (Some on) linkless is found = ActsOnCore name wanted place on (record { unlinked = linkless; placed = is; found = found })

      by_core : (place : Option ℕ) → place_of run.objects.links name ≡ None → core_place run.objects.cores name ≡ place → Comes wanted (effect_by_core_place answer run name wanted place)
      by_core None linkless coreless = by_nothing wanted (record { linkless = linkless; coreless = coreless })
      by_core (Some place) linkless is = at_core place (slice_get run.objects.cores place) linkless is refl

      at_link : (place : ℕ) (found : Option NamedLink) → place_of run.objects.links name ≡ Some place → slice_get run.objects.links place ≡ found → Comes wanted (effect_of_link answer run name wanted place found)
      at_link place None is none = absurd (true≢false (ap is_none (sym none) ∙ stands (λ (named : NamedLink). bytes_eq named.name name) run.objects.links place is))
      at_link place (Some on) is found = ActsOnLink name wanted place on (record { placed = is; found = found })

      by_link : (place : Option ℕ) → place_of run.objects.links name ≡ place → Comes wanted (effect_by_link_place answer run name wanted place)
      unfolding without_link_effect
      by_link None linkless = by_core (core_place run.objects.cores name) linkless refl
      by_link (Some place) is = at_link place (slice_get run.objects.links place) is refl

  -- ---- lines

  by_dump : (name image : List ℕ) (found : Result (List ℕ) Event) → dump_answer run.objects name image ≡ found → CommandOutcome (line.Dump name image) (dump_effect_of run image found)
  by_dump name image (Ok bytes) is = KeepsDump name image bytes is
  by_dump name image (Err told) is = RefusesDump name image told is

  by_line : (asked : Line (List RecipeLine) (List ℕ)) → CommandOutcome asked (line_effect answer run asked)
  unfolding image_effect quiet_effect dump_effect name_effect
  by_line (line.Image name lines) =
      cond_both (has_image run.objects.images name) (run_tells run (event.ImageExists name))
      (run_tells (with_image run name (image_of lines)) (event.Image name (length (image_of lines)))) (CommandOutcome (line.Image name lines))
      (λ _. FindsImage name lines) (λ _. MakesImage name lines)
  by_line (line.Quiet set) = Quiets set
  by_line (line.Dump name image) = by_dump name image (dump_answer run.objects name image) refl
  by_line (line.On name wanted) = by_link name wanted (place_of run.objects.links name) refl

  -- each command has one of them
  pub outcome : (asked : Command) → CommandOutcome (line_of asked) (effect_of answer run asked)
  unfolding effect_of
  outcome asked = by_line (line_of asked)

-- ---- where it is known what has the name

module _ (answer : ImageAnswer) (run : RunState) (name : List ℕ) (wanted : NamedAct (List ℕ)) (place : ℕ) where
  -- the link at its place
  pub link_acts : (on : NamedLink) → IsLinkAt run name place on → name_effect answer run name wanted ≡ link_effect_at run place on (link_effect on run.steps wanted)
  unfolding name_effect
  link_acts on at = ap (effect_by_link_place answer run name wanted) at.placed ∙ ap (effect_of_link answer run name wanted place) at.found

  -- no link, and the core at its place
  pub core_acts : (on : NamedCoreState) → IsCoreAt run name place on
      → name_effect answer run name wanted ≡ core_effect_at run place on (core_effect run.objects.images answer run.objects.is_quiet on run.steps wanted)
  unfolding name_effect without_link_effect
  core_acts on at =
      ap (effect_by_link_place answer run name wanted) at.unlinked ∙ ap (effect_by_core_place answer run name wanted) at.placed ∙ ap (effect_of_core answer run name wanted place) at.found
