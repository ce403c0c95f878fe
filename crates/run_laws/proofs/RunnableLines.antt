-- The numbers of a line are within what the machine takes where those of its command are.
use Rattle.std.proofs.Common.{ℕ, ◌<◌, List, arith}
use Rattle.rp_base.specs.Limits.{IsRingSize}
use Rattle.rp_base.specs.declared.limits.TheConstants.{CALLERS_MOST}
use Rattle.script_lang.specs.declared.commands.Command.{Command}
use Rattle.script_lang.specs.declared.commands.Command.TheVariants as command
use Rattle.script_lang.specs.declared.recipes.RecipeLine.{RecipeLine}
use Rattle.script_lang.specs.Runnable.{IsBook, IsCaller, IsCount, IsLength, IsNumber, IsPayload, IsRecipe, IsRunnable}
use Rattle.link_bench.specs.declared.acts.CallWish.{CallWish}
use Rattle.link_bench.specs.declared.acts.CallWish.TheVariants as call
use Rattle.link_bench.specs.declared.acts.LinkAct.{LinkAct}
use Rattle.link_bench.specs.declared.acts.LinkAct.TheVariants as act
use Rattle.link_bench.specs.Acts.{IsFitAct, IsFitWish}
use Rattle.link_commands.specs.declared.acts.CoreAct.{CoreAct}
use Rattle.link_commands.specs.declared.acts.CoreAct.TheVariants as core
use Rattle.link_commands.specs.declared.acts.CoreView.{CoreView}
use Rattle.link_commands.specs.declared.acts.CoreView.TheVariants as shows
use Rattle.link_commands.specs.declared.acts.Line.{Line}
use Rattle.link_commands.specs.declared.acts.Line.TheVariants as line
use Rattle.link_commands.specs.declared.acts.Making.{Making}
use Rattle.link_commands.specs.declared.acts.Making.TheVariants as making
use Rattle.link_commands.specs.declared.acts.NamedAct.{NamedAct}
use Rattle.link_commands.specs.declared.acts.NamedAct.TheVariants as under
use Rattle.link_commands.specs.Acts.{IsFitView, line_of}
use Rattle.run_laws.proofs.CoreWalks.{FitsNamed}
use Rattle.run_laws.proofs.RunWalks.{FitsLine}

-- ---- the ranges of the numbers of a line

-- what a line makes
abbrev pub IsRunnableMaking : Making → Type 0
IsRunnableMaking (making.Link config has_service) = (IsRingSize config.num0 × IsRingSize config.num1 × IsBook config.book) × IsNumber config.first
IsRunnableMaking (making.Core set book) = IsBook book

-- a call of a caller
abbrev pub IsRunnableCall : ℕ → CallWish (List ℕ) → Type 0
IsRunnableCall caller (call.Send source destination payload) = IsCaller caller × IsNumber source × IsNumber destination × IsPayload payload
IsRunnableCall caller (call.Raw message) = IsCaller caller × IsPayload message
IsRunnableCall caller call.Take = IsCaller caller
IsRunnableCall caller (call.Give number) = IsCaller caller × IsNumber number
IsRunnableCall caller (call.Bind address) = IsCaller caller × IsNumber address
IsRunnableCall caller (call.Unbind address) = IsCaller caller × IsNumber address

-- an act on a link; but for calls, no more is known than that a link may have it
abbrev pub IsRunnableLink : LinkAct (List ℕ) → Type 0
IsRunnableLink (act.Call caller made wanted) = IsRunnableCall caller wanted
IsRunnableLink other = IsFitAct other

-- what a core shows, and what is asked of a core
abbrev pub IsRunnableCoreView : CoreView → Type 0
IsRunnableCoreView (shows.Trace index) = IsNumber index
IsRunnableCoreView (shows.Mem da len) = IsNumber da × IsLength len
IsRunnableCoreView other = Unit {0}

abbrev pub IsRunnableCore : CoreAct → Type 0
IsRunnableCore (core.Region region) = IsNumber region.da × IsNumber region.pa × IsNumber region.len
IsRunnableCore (core.Show shown) = IsRunnableCoreView shown
IsRunnableCore (core.Drive count) = IsCount count
IsRunnableCore other = Unit {0}

abbrev pub IsRunnableNamed : NamedAct (List ℕ) → Type 0
IsRunnableNamed (under.Make made) = IsRunnableMaking made
IsRunnableNamed (under.Link asked) = IsRunnableLink asked
IsRunnableNamed (under.Manage managed) = Unit {0}
IsRunnableNamed (under.Show shown) = IsFitView shown
IsRunnableNamed (under.Core asked) = IsRunnableCore asked

abbrev pub IsRunnableLine : Line (List RecipeLine) (List ℕ) → Type 0
IsRunnableLine (line.Image name lines) = IsRecipe lines
IsRunnableLine (line.Quiet set) = Unit {0}
IsRunnableLine (line.Dump name image) = Unit {0}
IsRunnableLine (line.On name done) = IsRunnableNamed done

-- the line of a command has the ranges of the command, and most of these are the very same
pub runnable_line : (wanted : Command) → IsRunnable wanted → IsRunnableLine (line_of wanted)
runnable_line (command.Link name to_host to_remote book) runs = (runs, omega arith)
runnable_line (command.NsLink name to_host to_remote book) runs = (runs, omega arith)
runnable_line (command.Step name caller count) runs = (runs.0, omega (arith, runs.1.0, runs.1.1))
runnable_line (command.Finish name caller) runs = (runs, omega arith)
runnable_line (command.Pump name sender receiver count) runs = (runs.0, runs.1, runs.2.1)
runnable_line other runs = runs

-- ---- an act on a link in such a line is one that a link may have

call_fits : (caller : ℕ) (wanted : CallWish (List ℕ)) → IsRunnableCall caller wanted → (caller < CALLERS_MOST) × IsFitWish wanted
call_fits caller (call.Raw message) runs = runs
call_fits caller call.Take runs = (runs, tt)
call_fits caller other runs = (runs.0, tt)

pub link_fits : (asked : LinkAct (List ℕ)) → IsRunnableLink asked → IsFitAct asked
link_fits (act.Call caller made wanted) runs = call_fits caller wanted runs
link_fits other runs = runs

named_fits : (done : NamedAct (List ℕ)) → IsRunnableNamed done → FitsNamed IsFitAct done
named_fits (under.Link asked) runs = link_fits asked runs
named_fits other runs = tt

pub runnable_fits : (wanted : Line (List RecipeLine) (List ℕ)) → IsRunnableLine wanted → FitsLine IsFitAct wanted
runnable_fits (line.On name done) runs = named_fits done runs
runnable_fits other runs = tt
