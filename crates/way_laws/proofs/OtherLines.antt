-- A command that is no act on a link and no drive tells no line of a take, nor does one under a name that nothing has.
use Rattle.std.proofs.Common.{◌≡◌, ℕ, Bool, false, List, Option, Some, None, Result, IfErr, length, is_some, refl, sym, ap, subst, ◌∙◌}
use Rattle.std.specs.Prelude.{nat_le, nat_lt}
use Rattle.std.proofs.lemmas.Bool.{cond_both, true≢false}
use Rattle.std.proofs.lemmas.List.Elements.{All-from_recursion}
use Rattle.rp_io.specs.Images.{ImageAnswer}
use Rattle.rp_base.specs.declared.limits.TheConstants.{IMAGE_MOST}
use Rattle.script_lang.specs.declared.commands.Command.{Command}
use Rattle.script_lang.specs.declared.recipes.RecipeLine.{RecipeLine}
use Rattle.journal.specs.declared.events.Event.{Event}
use Rattle.crash_recover.specs.Cores.{CoreState, LoadState}
use Rattle.link_commands.specs.declared.acts.Line.{Line}
use Rattle.link_commands.specs.declared.acts.Line.TheVariants as line
use Rattle.link_commands.specs.declared.acts.ManagerAct.TheVariants as manager
use Rattle.link_commands.specs.declared.acts.NamedAct.{NamedAct}
use Rattle.link_commands.specs.declared.acts.NamedAct.TheVariants as under
use Rattle.link_commands.specs.Acts.{line_of}
use Rattle.link_commands.specs.LinkCommands.{link_effect}
use Rattle.link_commands.specs.NamedLinks.{NamedLink}
use Rattle.command_run.specs.Dumps.{bytes_answer, core_answer, crashed_load, kept_dumps, load_answer}
use Rattle.command_run.specs.NamedCores.{NamedCoreState}
use Rattle.command_run.specs.Runs.{RunEffect, RunState, core_under, core_place, effect_of, has_image, place_of}
use Rattle.run_laws.proofs.CommandWalks.{ActsOnCore, ActsOnLink, CommandOutcome, IsNameless, Quiets, RefusesDump, outcome}
use Rattle.way_laws.specs.CommandTakes.{line_may_take, may_take}
use Rattle.way_laws.specs.WordedTakes.{TellNoTakes, is_take_line}
use Rattle.way_laws.proofs.CoreLines.{core_none}
use Rattle.way_laws.proofs.LinkLines.{close_none, reopened_none, view_none}
use Rattle.way_laws.proofs.TakeLines.{HaveNoTakes}

-- ---- dumps

-- what is told in place of a dump is no line of a take
abbrev IsOtherWord : Result (List ℕ) Event → Type 0
IsOtherWord found = IfErr found (λ (told : Event). is_take_line told ≡ false)

module _ (has : Bool) (kept : ℕ) (name image : List ℕ) where
  bytes_none : (bytes : List ℕ) → IsOtherWord (bytes_answer has kept name image bytes)
  bytes_none bytes =
      cond_both has _ _ IsOtherWord (λ _. refl)
      (λ _. cond_both (nat_lt IMAGE_MOST (length bytes)) _ _ IsOtherWord (λ _. refl) (λ _. cond_both (nat_le _ kept) _ _ IsOtherWord (λ _. refl) (λ _. tt)))

  load_none : (core : CoreState) (found : Option LoadState) → IsOtherWord (load_answer has kept name image core found)
  load_none core None = refl
  load_none core (Some load) = bytes_none _

  core_dump_none : (found : Option NamedCoreState) → IsOtherWord (core_answer has kept name image found)
  core_dump_none None = refl
  core_dump_none (Some named) = load_none named.core (crashed_load named.core.life.state named.core.loaded)

pub no_takes : (events : List Event) → HaveNoTakes events → TellNoTakes events
no_takes events none = All-from_recursion (λ (line : Event). is_take_line line ≡ false) events none

-- ---- outcomes

link_none : (on : NamedLink) (steps : ℕ) (wanted : NamedAct (List ℕ)) → may_take wanted ≡ false → HaveNoTakes (link_effect on steps wanted).events
unfolding link_effect
link_none on steps (under.Make made) none = (refl, tt)
link_none on steps (under.Link asked) none = absurd (true≢false none)
link_none on steps (under.Manage manager.Close) none = close_none on.name on.bench steps
link_none on steps (under.Manage manager.Reopen) none = reopened_none on.name on.bench steps
link_none on steps (under.Show shown) none = view_none on.name on.bench shown
link_none on steps (under.Core asked) none = (refl, tt)

-- no link and no core of the run has the name, if there is one, that a line is under
abbrev IsNamelessLine : RunState → Line (List RecipeLine) (List ℕ) → Type 0
IsNamelessLine run (line.On name wanted) = IsNameless run name
IsNamelessLine run other = Unit {0}

module _ {answer : ImageAnswer} {run : RunState} where
  -- what is done on a link or on a core, if anything is, takes nothing
  abbrev pub TakesNone : {done : Line (List RecipeLine) (List ℕ)} {effect : RunEffect} → CommandOutcome answer run done effect → Type 0
  TakesNone (ActsOnLink name wanted place on at) = may_take wanted ≡ false
  TakesNone (ActsOnCore name wanted place on at) = may_take wanted ≡ false
  TakesNone came = Unit {0}

  -- neither does another line, nor one under a name that nothing has
  other_takes_none : {done : Line (List RecipeLine) (List ℕ)} {effect : RunEffect} (came : CommandOutcome answer run done effect) → line_may_take done ≡ false → TakesNone came
  other_takes_none (ActsOnLink name wanted place on at) none = none
  other_takes_none (ActsOnCore name wanted place on at) none = none
  other_takes_none came none = tt

  nameless_takes_none : {done : Line (List RecipeLine) (List ℕ)} {effect : RunEffect} (came : CommandOutcome answer run done effect) → IsNamelessLine run done → TakesNone came
  nameless_takes_none (ActsOnLink name wanted place on at) none = absurd (true≢false (ap is_some (sym at.placed ∙ none.linkless)))
  nameless_takes_none (ActsOnCore name wanted place on at) none = absurd (true≢false (ap is_some (sym at.placed ∙ none.coreless)))
  nameless_takes_none came none = tt

  -- so it tells no line of a take
  none_told : {done : Line (List RecipeLine) (List ℕ)} {effect : RunEffect} (came : CommandOutcome answer run done effect) → TakesNone came → HaveNoTakes effect.events
  none_told (Quiets set) none = tt
  none_told (RefusesDump name image told is) none =
      (subst IsOtherWord is (core_dump_none (has_image run.objects.images image) (kept_dumps run.objects.images) name image (core_under run.objects name)), tt)
  none_told (ActsOnLink name wanted place on at) none = link_none on run.steps wanted none
  none_told (ActsOnCore name wanted place on at) none = core_none run.objects.images answer run.objects.is_quiet on run.steps wanted none
  none_told came none = (refl, tt)

  pub tells_none : {done : Line (List RecipeLine) (List ℕ)} {effect : RunEffect} (came : CommandOutcome answer run done effect) → TakesNone came → TellNoTakes effect.events
  tells_none {effect = effect} came none = no_takes effect.events (none_told came none)

-- ---- commands

-- neither an act on a link nor a drive
pub others_none : (answer : ImageAnswer) (run : RunState) (asked : Command) → line_may_take (line_of asked) ≡ false → TellNoTakes (effect_of answer run asked).events
others_none answer run asked none = let came = outcome answer run asked in tells_none came (other_takes_none came none)

-- under a name that neither a link nor a core has
pub nameless_none : (answer : ImageAnswer) (run : RunState) (asked : Command) (name : List ℕ) (wanted : NamedAct (List ℕ)) → line_of asked ≡ line.On name wanted
    → place_of run.objects.links name ≡ None → core_place run.objects.cores name ≡ None → TellNoTakes (effect_of answer run asked).events
nameless_none answer run asked name wanted is linkless coreless =
    let came = outcome answer run asked in
    tells_none came (nameless_takes_none came (subst (IsNamelessLine run) (sym is) (record { linkless = linkless; coreless = coreless })))
