-- The events of a run are spelled as lines have them, and so each is read back.
use Rattle.std.proofs.Common.{ℕ, ◌<◌, ◌^◌, Bool, true, false, List, [], ◌∷◌, ◌++◌, length, Option, Some, None, IfSome, Result, Ok, Err, subst, arith}
use Rattle.std.specs.Prelude.{All, nat_le, nat_lt}
use Rattle.std.specs.Result.{IfOk}
use Rattle.std.proofs.lemmas.Bool.{cond_both}
use Rattle.std.proofs.lemmas.List.Elements.{All-nil, All-push, All-set, All-weaker}
use Rattle.rp_io.specs.Images.{ImageAnswer}
use Rattle.rp_base.specs.declared.limits.TheConstants.{IMAGE_MOST}
use Rattle.rp_base.specs.declared.kinds.End.TheVariants as side
use Rattle.memory_pool.specs.Soundness.{SoundRegions}
use Rattle.script_lang.specs.declared.commands.Command.{Command}
use Rattle.script_lang.specs.declared.recipes.RecipeLine.{RecipeLine}
use Rattle.script_lang.specs.Grammar.{IsScript}
use Rattle.journal.specs.declared.events.Event.{Event}
use Rattle.journal.specs.declared.events.Event.TheVariants as event
use Rattle.journal.specs.Reading.{IsWritten}
use Rattle.image_maker.specs.Images.{image_of}
use Rattle.core_dump.specs.Dumps.{dump_of}
use Rattle.link_bench.specs.Acts.{IsFitAct}
use Rattle.link_bench.specs.Benches.{BenchState}
use Rattle.crash_recover.specs.CoreParts.{core_parts}
use Rattle.crash_recover.specs.Cores.{CoreState, LoadState}
use Rattle.core_laws.specs.BenchMoves.{IsReachedBench}
use Rattle.link_commands.specs.declared.acts.Line.{Line}
use Rattle.link_commands.specs.declared.acts.NamedAct.{NamedAct}
use Rattle.link_commands.specs.declared.acts.NamedAct.TheVariants as under
use Rattle.command_run.specs.declared.dumps.TheConstants.{DUMPS_MOST}
use Rattle.command_run.specs.Dumps.{bytes_answer, core_answer, crashed_load, kept_dumps, load_answer}
use Rattle.command_run.specs.NamedCores.{NamedCoreState}
use Rattle.command_run.specs.NamedImages.{ImageState}
use Rattle.link_commands.specs.NamedLinks.{NamedLink}
use Rattle.command_run.specs.Runs.{ObjectsState, RunEffect, RunState, asked_name, core_under, dump_answer, find_core, has_image, new_end, new_run, regions_of, run_of, run_tells}
use Rattle.command_run.specs.Stores.{Shelf, StoreAnswers, store_answer}
use Rattle.run_laws.proofs.CommandWalks.{ActsOnCore, ActsOnLink, CommandOutcome, FindsImage, HasNoRoom, KeepsDump, MakesCore, MakesImage, MakesLink, NamesNothing, Quiets, RefusesDump, made_link, outcome}
use Rattle.run_laws.proofs.CoreWalks.{FitsNamed}
use Rattle.run_laws.proofs.CoresReady.{IsSoundCore}
use Rattle.run_laws.proofs.RunInductions.{AnswersAre, EachIs, each_parts, events_hold, state_kept}
use Rattle.run_laws.proofs.RunWalks.{item_at}
use Rattle.run_laws.proofs.RunsReached.{AreSound, command_sound, none_sound}
use Rattle.act_laws.specs.Accounts.{Account}
use Rattle.act_laws.proofs.Tales.{IsSoundTale}
use Rattle.way_laws.proofs.CoreRungs.{IsRungCore, core_rung, new_core_rung}
use Rattle.way_laws.proofs.LinkTales.{link_tale, made_tale}
use Rattle.field_laws.specs.Fields.{AreBytes}
use Rattle.field_laws.specs.FieldBenches.{IsFieldBench}
use Rattle.field_laws.specs.FieldCores.{IsFieldCore}
use Rattle.field_laws.proofs.Benches.{new_fields}
use Rattle.field_laws.proofs.Cores.{new_core_fields}
use Rattle.field_laws.proofs.DumpSizes.{dump_small}
use Rattle.field_laws.proofs.Images.{dump_are, image_are}
use Rattle.field_laws.proofs.Sides.{find_has, fresh_fields}
use Rattle.line_laws.specs.ByteStores.{TellsBytes}
use Rattle.line_laws.proofs.KnownWords.{IsKnown, IsKnownAct, IsKnownLine, are_known}
use Rattle.line_laws.proofs.SpelledLines.{IsName, IsSpelled, none, one, read_back}
use Rattle.line_laws.proofs.SpelledCalls.{link_spelled}
use Rattle.line_laws.proofs.SpelledCores.{AreBytesImages, core_spelled}

-- there is an account of what an end was told, and the rings are sound
record HasTale (bench : BenchState) : Type 0 where
  pub account : Account
  pub tale : IsSoundTale side.Host bench account

-- a link and a core, by name and fields
record IsFieldNamedLink (named : NamedLink) : Type 0 where
  pub name : IsName named.name
  pub bench : IsFieldBench named.bench
  pub tale : HasTale named.bench

record IsFieldNamedCore (named : NamedCoreState) : Type 0 where
  pub name : IsName named.name
  pub core : IsFieldCore named.core
  pub rungs : IsRungCore named.core

-- all that a run made
record AreFieldObjects (objects : ObjectsState) : Type 0 where
  pub links : All IsFieldNamedLink objects.links
  pub cores : All IsFieldNamedCore objects.cores
  pub images : AreBytesImages objects.images

-- what a command leaves and tells
record RunSpelled (effect : RunEffect) : Type 0 where
  pub left : AreFieldObjects effect.run.objects
  pub events : All IsSpelled effect.events

told : (run : RunState) (first : Event) → AreFieldObjects run.objects → IsSpelled first → RunSpelled (run_tells run first)
told run first are is = record { left = are; events = one first is }

-- ---- dumps

-- what is told in the place of a dump, or its bytes
abbrev IsSpelledAnswer : Result (List ℕ) Event → Type 0
IsSpelledAnswer (Ok bytes) = AreBytes bytes × (length bytes < 2 ^ 64)
IsSpelledAnswer (Err told) = IsSpelled told

module _ (name image : List ℕ) (named : IsName name) (called : IsName image) where
  bytes_told : (is_taken : Bool) (kept : ℕ) (bytes : List ℕ) → AreBytes bytes → length bytes < 2 ^ 64 → IsSpelledAnswer (bytes_answer is_taken kept name image bytes)
  bytes_told is_taken kept bytes are small =
      cond_both is_taken _ _ IsSpelledAnswer (λ _. ((called, tt), tt))
      (λ _. cond_both (nat_lt IMAGE_MOST (length bytes)) _ _ IsSpelledAnswer (λ _. ((named, (small, tt)), tt))
      (λ _. cond_both (nat_le DUMPS_MOST kept) _ _ IsSpelledAnswer (λ _. ((named, tt), tt)) (λ _. (are, small))))

  load_told : (is_taken : Bool) (kept : ℕ) (core : CoreState) (found : Option LoadState) → IsFieldCore core → SoundRegions core.regions → IsSpelledAnswer (load_answer is_taken kept name image core found)
  load_told is_taken kept core None is sound = ((named, tt), tt)
  load_told is_taken kept core (Some load) is sound =
      bytes_told is_taken kept (dump_of load.entry (core_parts core)) (dump_are core load.entry is.loaded) (dump_small core load.entry sound is.placed)

  core_told : (is_taken : Bool) (kept : ℕ) (found : Option NamedCoreState) → IfSome found IsFieldNamedCore → IsSpelledAnswer (core_answer is_taken kept name image found)
  core_told is_taken kept None is = ((named, tt), tt)
  core_told is_taken kept (Some on) is = load_told is_taken kept on.core (crashed_load on.core.life.state on.core.loaded) is.core is.rungs.load.regions

  named_core : (run : RunState) → AreFieldObjects run.objects → IfSome (core_under run.objects name) IsFieldNamedCore
  named_core run are =
      cond_both _ None (find_core run.objects.cores name) (λ (found : Option NamedCoreState). IfSome found IsFieldNamedCore) (λ _. tt)
      (λ _. find_has IsFieldNamedCore _ run.objects.cores are.cores)

  dump_told : (run : RunState) → AreFieldObjects run.objects → IsSpelledAnswer (dump_answer run.objects name image)
  dump_told run are = core_told (has_image run.objects.images image) (kept_dumps run.objects.images) (core_under run.objects name) (named_core run are)

-- ---- commands

fits_named : (wanted : NamedAct (List ℕ)) → IsKnownAct wanted → FitsNamed IsFitAct wanted
fits_named (under.Link asked) knows = knows.0
fits_named other knows = tt

-- whatever the outcome of a command is
module _ (answer : ImageAnswer) (told_are : IfOk answer AreBytes) (run : RunState) (are : AreFieldObjects run.objects) (sound : AreSound run.objects) where
  -- an image of bytes more
  with_bytes : (name bytes : List ℕ) (is_dump : Bool) → AreBytes bytes → AreBytesImages (run.objects.images ++ record { name = name; bytes = bytes; is_dump = is_dump } ∷ [])
  with_bytes name bytes is_dump all =
      All-push (λ (image : ImageState). AreBytes image.bytes) run.objects.images (record { name = name; bytes = bytes; is_dump = is_dump }) are.images all

  outcome_spelled : {done : Line (List RecipeLine) (List ℕ)} {effect : RunEffect} → CommandOutcome answer run done effect → IsKnownLine done → RunSpelled effect
  outcome_spelled (MakesImage name lines) knows =
      let small = knows.2 in record {
        left = record { links = are.links; cores = are.cores; images = with_bytes name (image_of lines) false (image_are lines knows.1) };
        events = one (event.Image name (length (image_of lines))) (((knows.0, (small, tt)), tt));
      }
  outcome_spelled (FindsImage name lines) knows = told run (event.ImageExists name) are (((knows.0, tt), tt))
  outcome_spelled (Quiets set) knows = record { left = record { links = are.links; cores = are.cores; images = are.images }; events = none }
  outcome_spelled (KeepsDump name image bytes is) knows =
      let all : IsSpelledAnswer (Ok bytes) = subst IsSpelledAnswer is (dump_told name image knows.0 knows.1 run are) in record {
        left = record { links = are.links; cores = are.cores; images = with_bytes image bytes true all.0 };
        events = one (event.Image image (length bytes)) (((knows.1, (all.1, tt)), tt));
      }
  outcome_spelled (RefusesDump name image first is) knows = told run first are (subst IsSpelledAnswer is (dump_told name image knows.0 knows.1 run are))
  outcome_spelled (NamesNothing name wanted _) knows = told run (event.Unknown name) are (((knows.0, tt), tt))
  outcome_spelled (HasNoRoom name made _) knows = told run event.ObjectsFull are (tt, tt)
  outcome_spelled (MakesLink name config has_service _) knows =
      let fits = knows.1.0 in
      let few = fits.2.1 in
      let first = knows.1.1 in record {
        left = record {
          links = All-push IsFieldNamedLink run.objects.links (made_link name config has_service) are.links
              (record {
                name = knows.0;
                bench = new_fields config (new_end has_service) (new_end false) (omega (arith, first)) (omega (arith, few)) (fresh_fields (new_end has_service)) (fresh_fields (new_end false));
                tale = record { account = _; tale = made_tale side.Host config has_service fits.0 fits.1 fits.2 };
              });
          cores = are.cores;
          images = are.images;
        };
        events = one (event.Open name 1) (((knows.0, (omega arith, tt)), tt));
      }
  outcome_spelled (MakesCore name set book _) knows =
      let fits = knows.1 in
      let few = fits.1 in record {
        left = record {
          links = are.links;
          cores = All-push IsFieldNamedCore run.objects.cores _ are.cores (record { name = knows.0; core = new_core_fields (regions_of set) [] book (omega (arith, few)); rungs = new_core_rung set book fits });
          images = are.images;
        };
        events = one (event.Offline name) (((knows.0, tt), tt));
      }
  outcome_spelled (ActsOnLink name wanted place on at) knows =
      let is = item_at IsFieldNamedLink run.objects.links place on at.found are.links in
      let came = item_at (λ (named : NamedLink). IsReachedBench named.bench) run.objects.links place on at.found sound.links in
      let left = link_spelled on run.steps wanted is.name knows.1 is.tale.tale.sound (record { reached = came; fields = is.bench }) in
      record {
        left = record {
          links = All-set IsFieldNamedLink run.objects.links place _ (record {
            name = is.name;
            bench = left.bench;
            tale = record { account = _; tale = link_tale side.Host on run.steps wanted is.tale.account (fits_named wanted knows.1) came is.tale.tale };
          }) are.links;
          cores = are.cores;
          images = are.images;
        };
        events = left.events;
      }
  outcome_spelled (ActsOnCore name wanted place on at) knows =
      let is = item_at IsFieldNamedCore run.objects.cores place on at.found are.cores in
      let came = item_at (λ (named : NamedCoreState). IsSoundCore named.core) run.objects.cores place on at.found sound.cores in
      let left = core_spelled run.objects.images answer run.objects.is_quiet on run.steps is.name are.images told_are came is.core is.rungs wanted knows.1 in
      record {
        left = record { links = are.links; cores = All-set IsFieldNamedCore run.objects.cores place _ (record { name = is.name; core = left.left; rungs = core_rung run.objects.images answer on run.steps came is.rungs run.objects.is_quiet wanted (fits_named wanted knows.1) }) are.cores; images = are.images };
        events = left.events;
      }

-- ---- runs

answer_are : (shelf : Option Shelf) (asked : Option (List ℕ)) → IfSome shelf (λ (shelf : Shelf). (name : List ℕ) → IfOk (shelf name) AreBytes) → IfSome (store_answer shelf asked) (λ (answer : ImageAnswer). IfOk answer AreBytes)
answer_are None None are = tt
answer_are None (Some name) are = tt
answer_are (Some shelf) None are = tt
answer_are (Some shelf) (Some name) are = are name

-- all that a run made is spelled so, and came about
record Stands (run : RunState) : Type 0 where
  pub fields : AreFieldObjects run.objects
  pub sound : AreSound run.objects

module _ (told : StoreAnswers) (tells : TellsBytes told) where
  answers_are : AnswersAre (λ answer. IfOk answer AreBytes) told
  answers_are number asked = answer_are (told number) asked (tells number)

  stand : (commands : List Command) → EachIs IsKnown commands → Stands (run_of told commands).last
  stand commands know =
      state_kept IsKnown (λ answer. IfOk answer AreBytes) Stands
      (λ answer run asked told_are knows is. record {
        fields = (outcome_spelled answer told_are run is.fields is.sound (outcome answer run asked) knows.0).left;
        sound = command_sound answer run asked knows.1 is.sound;
      })
      told new_run commands answers_are know (record {
        fields = record { links = All-nil IsFieldNamedLink; cores = All-nil IsFieldNamedCore; images = All-nil (λ (image : ImageState). AreBytes image.bytes) };
        sound = none_sound;
      })

  run_spelled : (commands : List Command) → EachIs IsKnown commands → All IsSpelled (run_of told commands).events
  run_spelled commands know =
      events_hold IsSpelled told new_run commands
      (λ done next more answer parts is.
      let knows = each_parts IsKnown done next more (subst (EachIs IsKnown) parts know) in
      let run = (run_of told done).last in
      let stands = stand done knows.0 in
      let told_are = subst (λ (given : Option ImageAnswer). IfSome given (λ (answer : ImageAnswer). IfOk answer AreBytes)) is (answers_are (length done) (asked_name run.objects next)) in
      (outcome_spelled answer told_are run stands.fields stands.sound (outcome answer run next) knows.1.0).events)

pub lines_back : (told : StoreAnswers) (commands : List Command) → TellsBytes told → IsScript commands → All IsWritten (run_of told commands).events
lines_back told commands tells script =
    All-weaker IsSpelled IsWritten read_back (run_of told commands).events (run_spelled told tells commands (are_known commands script))
