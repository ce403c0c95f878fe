-- Where an act answers that a call ended as a take it has its line, a pump has none, and a drive has the lines of all takes of its actors.
use Rattle.std.proofs.Common.{◌≡◌, ℕ, List, [], ◌∷◌, Option, Some, slice_get, sym, ap, subst, ◌∙◌}
use Rattle.rp_io.specs.Images.{ImageAnswer}
use Rattle.rp_base.specs.declared.kinds.Verdict.{Verdict}
use Rattle.lane_model.specs.declared.calls.CallEnd.TheVariants as call_end
use Rattle.script_lang.specs.declared.commands.Command.{Command}
use Rattle.script_lang.specs.Runnable.{AreRunnable}
use Rattle.link_bench.specs.declared.acts.ActAnswer.{ActAnswer}
use Rattle.link_bench.specs.declared.acts.ActAnswer.TheVariants as answer
use Rattle.link_bench.specs.declared.acts.LinkAct.{LinkAct}
use Rattle.link_bench.specs.declared.benches.Reach.TheVariants as reach
use Rattle.link_bench.specs.declared.turns.TurnEnd.{TurnEnd}
use Rattle.link_bench.specs.Acts.{link_act}
use Rattle.link_bench.specs.Benches.{BenchState, link_in}
use Rattle.link_bench.specs.Watchers.{nobody_sees}
use Rattle.core_actors.specs.ActorEnds.{actors_after_end}
use Rattle.crash_recover.specs.CoreActs.{act_on_core}
use Rattle.link_commands.specs.declared.acts.CoreAct.TheVariants as core
use Rattle.link_commands.specs.declared.acts.NamedAct.TheVariants as under
use Rattle.link_commands.specs.Acts.{line_of}
use Rattle.link_commands.specs.CallEvents.{end_event}
use Rattle.link_commands.specs.Effects.{answer_events}
use Rattle.link_commands.specs.LinkCommands.{link_effect}
use Rattle.link_commands.specs.NamedLinks.{NamedLink}
use Rattle.command_run.specs.CoreCommands.{core_act_effect, core_effect}
use Rattle.command_run.specs.CoreLinks.{core_link_effect}
use Rattle.command_run.specs.NamedCores.{NamedCoreState}
use Rattle.command_run.specs.Runs.{RunState, effect_of, run_of}
use Rattle.command_run.specs.Stores.{StoreAnswers}
use Rattle.run_laws.proofs.CoresReady.{IsSoundCore}
use Rattle.run_laws.proofs.RunWalks.{item_at}
use Rattle.run_laws.proofs.RunsReached.{run_sound}
use Rattle.way_laws.specs.CommandTakes.{core_takes}
use Rattle.way_laws.specs.CoreAccounts.{core_act_at}
use Rattle.way_laws.specs.RunAccounts.{link_act_at}
use Rattle.way_laws.specs.TakersLines.{drive_lines, lines_of}
use Rattle.way_laws.specs.WordedTakes.{TellNoTakes}
use Rattle.way_laws.proofs.DriveOrder.{drive_in_order}
use Rattle.way_laws.proofs.OtherLines.{no_takes}
use Rattle.way_laws.proofs.RunCoreTales.{cores_come}
use Rattle.way_laws.proofs.RunLines.{core_tells, link_tells}
use Rattle.way_laws.proofs.TakeLines.{turns_none}
use Rattle.way_laws.proofs.WordedLines.{pump_ends}

-- a call of an act on a link of the script that ended as a take
pub act_told : (found : ImageAnswer) (run : RunState) (asked : Command) (place : ℕ) (act : LinkAct (List ℕ)) (on : NamedLink) (caller number : ℕ) (judged : Verdict)
    → let acted = link_act nobody_sees 0 on.bench tt run.steps act in
    slice_get run.objects.links place ≡ Some on → link_act_at run place (line_of asked) ≡ Some (under.Link act)
    → acted.answer ≡ answer.Reached caller (reach.Ended (call_end.Took number judged))
    → (effect_of found run asked).events ≡ end_event on.name (link_in acted.bench) caller (call_end.Took number judged) ∷ []
unfolding link_effect
act_told found run asked place act on caller number judged has does took =
    let acted = link_act nobody_sees 0 on.bench tt run.steps act in
    link_tells found run place on has asked (under.Link act) does ∙ ap (λ (told : ActAnswer). answer_events on.name (link_in acted.bench) told) took

-- the same on the link of a core
pub core_act_told : (found : ImageAnswer) (run : RunState) (asked : Command) (place : ℕ) (act : LinkAct (List ℕ)) (on : NamedCoreState) (bench : BenchState) (caller number : ℕ) (judged : Verdict)
    → let acted = act_on_core on.core bench run.steps act in
    slice_get run.objects.cores place ≡ Some on → on.core.bench ≡ Some bench → core_act_at run place (line_of asked) ≡ Some (under.Link act)
    → acted.answer ≡ answer.Reached caller (reach.Ended (call_end.Took number judged))
    → (effect_of found run asked).events ≡ end_event on.name (link_in acted.bench) caller (call_end.Took number judged) ∷ []
unfolding core_effect core_link_effect
core_act_told found run asked place act on bench caller number judged has linked does took =
    let acted = act_on_core on.core bench run.steps act in
    core_tells found run place on has asked (under.Link act) does
    ∙ ap (λ (link : Option BenchState). (core_link_effect on.name on.core run.steps act link).events) linked
    ∙ ap (λ (told : ActAnswer). answer_events on.name (link_in acted.bench) told) took

-- turns on a link of the script
pub pump_told : (found : ImageAnswer) (run : RunState) (asked : Command) (place : ℕ) (act : LinkAct (List ℕ)) (on : NamedLink) (done : ℕ) (came : TurnEnd)
    → slice_get run.objects.links place ≡ Some on → link_act_at run place (line_of asked) ≡ Some (under.Link act)
    → (link_act nobody_sees 0 on.bench tt run.steps act).answer ≡ answer.Pumped done came → TellNoTakes (effect_of found run asked).events
unfolding link_effect
pump_told found run asked place act on done came has does pumped =
    let acted = link_act nobody_sees 0 on.bench tt run.steps act in
    let told = link_tells found run place on has asked (under.Link act) does ∙ ap (λ (told : ActAnswer). answer_events on.name (link_in acted.bench) told) pumped in
    subst TellNoTakes (sym told) (no_takes _ (turns_none on.name (link_in acted.bench) done came (pump_ends nobody_sees on.bench tt run.steps 0 act done came pumped)))

-- the same on the link of a core
pub core_pump_told : (found : ImageAnswer) (run : RunState) (asked : Command) (place : ℕ) (act : LinkAct (List ℕ)) (on : NamedCoreState) (bench : BenchState) (done : ℕ) (came : TurnEnd)
    → slice_get run.objects.cores place ≡ Some on → on.core.bench ≡ Some bench → core_act_at run place (line_of asked) ≡ Some (under.Link act)
    → (act_on_core on.core bench run.steps act).answer ≡ answer.Pumped done came → TellNoTakes (effect_of found run asked).events
unfolding core_effect core_link_effect
core_pump_told found run asked place act on bench done came has linked does pumped =
    let acted = act_on_core on.core bench run.steps act in
    let told = core_tells found run place on has asked (under.Link act) does
    ∙ ap (λ (link : Option BenchState). (core_link_effect on.name on.core run.steps act link).events) linked
    ∙ ap (λ (told : ActAnswer). answer_events on.name (link_in acted.bench) told) pumped in
    subst TellNoTakes (sym told) (no_takes _ (turns_none on.name (link_in acted.bench) done came (pump_ends actors_after_end bench on.core.actors run.steps 2 act done came pumped)))

-- a drive of a core
pub drive_told : (told : StoreAnswers) (commands : List Command) (found : ImageAnswer) (asked : Command) (place count caller : ℕ) (on : NamedCoreState) → AreRunnable commands
    → let run = (run_of told commands).last in
    slice_get run.objects.cores place ≡ Some on → core_act_at run place (line_of asked) ≡ Some (under.Core (core.Drive count))
    → lines_of caller (effect_of found run asked).events ≡ drive_lines run.objects.is_quiet on.name caller (core_takes on run.steps (under.Core (core.Drive count)))
unfolding core_effect core_act_effect
drive_told told commands found asked place count caller on runs has does =
    let run = (run_of told commands).last in
    ap (lines_of caller) (core_tells found run place on has asked (under.Core (core.Drive count)) does)
    ∙ drive_in_order on.name caller run.objects.is_quiet on.core run.steps count
    (item_at (λ (named : NamedCoreState). IsSoundCore named.core) run.objects.cores place on has (run_sound told commands runs).cores) (cores_come told commands place on runs has)
