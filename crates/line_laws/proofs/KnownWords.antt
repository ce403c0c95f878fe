-- What is known of what a command of a script is about: its names, its bytes and its numbers.
use Rattle.std.proofs.Common.{ℕ, ◌<◌, ◌^◌, List, [], ◌∷◌, length, arith}
use Rattle.std.specs.Prelude.{All}
use Rattle.script_lang.specs.declared.commands.Command.{Command}
use Rattle.script_lang.specs.declared.recipes.RecipeLine.{RecipeLine}
use Rattle.script_lang.specs.Grammar.{IsScript}
use Rattle.script_lang.specs.Runnable.{AreRunnable, IsRunnable}
use Rattle.script_lang.proofs.Runnable.{are_runnable}
use Rattle.image_maker.specs.Images.{image_of}
use Rattle.link_bench.specs.declared.acts.CallWish.{CallWish}
use Rattle.link_bench.specs.declared.acts.CallWish.TheVariants as call
use Rattle.link_bench.specs.declared.acts.LinkAct.{LinkAct}
use Rattle.link_bench.specs.declared.acts.LinkAct.TheVariants as act
use Rattle.link_bench.specs.Acts.{IsFitAct}
use Rattle.link_commands.specs.declared.acts.CoreAct.{CoreAct}
use Rattle.link_commands.specs.declared.acts.CoreAct.TheVariants as core
use Rattle.link_commands.specs.declared.acts.Line.{Line}
use Rattle.link_commands.specs.declared.acts.Line.TheVariants as line
use Rattle.link_commands.specs.declared.acts.NamedAct.{NamedAct}
use Rattle.link_commands.specs.declared.acts.NamedAct.TheVariants as under
use Rattle.link_commands.specs.Acts.{IsFitView, line_of}
use Rattle.run_laws.proofs.RunInductions.{EachIs}
use Rattle.run_laws.proofs.RunnableLines.{IsRunnableCall, IsRunnableCore, IsRunnableCoreView, IsRunnableLine, IsRunnableLink, IsRunnableMaking, IsRunnableNamed, link_fits, runnable_line}
use Rattle.field_laws.specs.FieldBenches.{IsFieldAct, IsFieldCall}
use Rattle.field_laws.proofs.Images.{IsBytesLine, image_small}
use Rattle.line_laws.proofs.SpelledLines.{IsName}
use Rattle.line_laws.proofs.SaidScripts.{AreSaid, IsSaidAct, IsSaidCall, IsSaidCore, IsSaidLine, IsSaidLink, IsSaidStart, are_said}

abbrev pub IsKnownCore : CoreAct → Type 0
IsKnownCore (core.Driver channel kind) = IsName channel
IsKnownCore (core.Start start) = IsSaidStart start
IsKnownCore (core.Show shown) = IsRunnableCoreView shown
IsKnownCore other = Unit {0}

abbrev pub IsKnownAct : NamedAct (List ℕ) → Type 0
IsKnownAct (under.Make made) = IsRunnableMaking made
IsKnownAct (under.Link asked) = IsFitAct asked × IsFieldAct asked
IsKnownAct (under.Manage managed) = Unit {0}
IsKnownAct (under.Show shown) = IsFitView shown
IsKnownAct (under.Core asked) = IsKnownCore asked

abbrev pub IsKnownLine : Line (List RecipeLine) (List ℕ) → Type 0
IsKnownLine (line.Image name lines) = IsName name × All IsBytesLine lines × (length (image_of lines) < 2 ^ 64)
IsKnownLine (line.Quiet set) = Unit {0}
IsKnownLine (line.Dump name image) = IsName name × IsName image
IsKnownLine (line.On name done) = IsName name × IsKnownAct done

-- ---- it is known by the ranges of the numbers, and by what the grammar says of names and bytes

call_known : (caller : ℕ) (wanted : CallWish (List ℕ)) → IsRunnableCall caller wanted → IsSaidCall wanted → IsFieldCall wanted
call_known caller (call.Send source destination payload) runs said = let short = runs.3 in (omega (arith, short), said)
call_known caller (call.Give number) runs said = omega (arith, runs.1)
call_known caller (call.Bind address) runs said = omega (arith, runs.1)
call_known caller (call.Unbind address) runs said = omega (arith, runs.1)
call_known caller other runs said = said

link_known : (asked : LinkAct (List ℕ)) → IsRunnableLink asked → IsSaidLink asked → IsFieldAct asked
link_known (act.Call caller made wanted) runs said = call_known caller wanted runs said
link_known other runs said = tt

core_known : (asked : CoreAct) → IsRunnableCore asked → IsSaidCore asked → IsKnownCore asked
core_known (core.Show shown) runs said = runs
core_known other runs said = said

act_known : (done : NamedAct (List ℕ)) → IsRunnableNamed done → IsSaidAct done → IsKnownAct done
act_known (under.Link asked) runs said = (link_fits asked runs, link_known asked runs said)
act_known (under.Core asked) runs said = core_known asked runs said
act_known other runs said = runs

line_known : (wanted : Line (List RecipeLine) (List ℕ)) → IsRunnableLine wanted → IsSaidLine wanted → IsKnownLine wanted
line_known (line.Image name lines) runs said = (said.0, said.1, image_small lines runs said.2)
line_known (line.On name done) runs said = (said.0, act_known done runs said.1)
line_known other runs said = said

-- what is known of a command
abbrev pub IsKnown : Command → Type 0
IsKnown asked = IsKnownLine (line_of asked) × IsRunnable asked

all_known : (commands : List Command) → AreRunnable commands → AreSaid commands → EachIs IsKnown commands
all_known [] runs said = tt
all_known (first ∷ more) runs said = ((line_known (line_of first) (runnable_line first runs.0) said.0, runs.0), all_known more runs.1 said.1)

pub are_known : (commands : List Command) → IsScript commands → EachIs IsKnown commands
are_known commands script = all_known commands (are_runnable commands script) (are_said commands script)
