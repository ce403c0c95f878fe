-- What a command is about: the acts that a run works on (own).
use Rattle.std.specs.Prelude.{ℕ, ◌-◌, true, false, List}
use Rattle.lane_model.specs.declared.calls.LinkConfig.{LinkConfig}
use Rattle.lane_model.specs.Conditions.{IsConfig}
use Rattle.script_lang.specs.declared.commands.Command.{Command}
use Rattle.script_lang.specs.declared.commands.Command.TheVariants as command
use Rattle.script_lang.specs.declared.recipes.RecipeLine.{RecipeLine}
use Rattle.script_lang.specs.Runnable.{IsBook, IsLane, IsLength}
use Rattle.link_bench.specs.declared.acts.CallWish.{CallWish}
use Rattle.link_bench.specs.declared.acts.CallWish.TheVariants as call
use Rattle.link_bench.specs.declared.acts.How.{How}
use Rattle.link_bench.specs.declared.acts.How.TheVariants as how
use Rattle.link_bench.specs.declared.acts.LinkAct.TheVariants as act
use Rattle.link_bench.specs.Acts.{IsFitAct, bare_act}
use Rattle.link_commands.specs.declared.acts.Line.{Line}
use Rattle.link_commands.specs.declared.acts.Line.TheVariants as line
use Rattle.link_commands.specs.declared.acts.NamedAct.{NamedAct}
use Rattle.link_commands.specs.declared.acts.NamedAct.TheVariants as under
use Rattle.link_commands.specs.declared.acts.Making.{Making}
use Rattle.link_commands.specs.declared.acts.Making.TheVariants as making
use Rattle.link_commands.specs.declared.acts.ManagerAct.TheVariants as manager
use Rattle.link_commands.specs.declared.acts.LinkView.{LinkView}
use Rattle.link_commands.specs.declared.acts.LinkView.TheVariants as view
use Rattle.link_commands.specs.declared.acts.CoreAct.{CoreAct}
use Rattle.link_commands.specs.declared.acts.CoreAct.TheVariants as core
use Rattle.link_commands.specs.declared.acts.CoreView.{CoreView}
use Rattle.link_commands.specs.declared.acts.CoreView.TheVariants as shows
use Rattle.link_commands.specs.declared.acts.StartAct.TheVariants as start

-- an act with the bytes that it names in place of what code has of them
abbrev pub bare_named_act : {P : Type 0} → (P → List ℕ) → NamedAct P → NamedAct (List ℕ)
bare_named_act bytes (under.Make made) = under.Make made
bare_named_act bytes (under.Link asked) = under.Link (bare_act bytes asked)
bare_named_act bytes (under.Manage managed) = under.Manage managed
bare_named_act bytes (under.Show shown) = under.Show shown
bare_named_act bytes (under.Core asked) = under.Core asked

-- the same of a line, with its recipe
abbrev pub bare_line : {R P : Type 0} → (R → List RecipeLine) → (P → List ℕ) → Line R P → Line (List RecipeLine) (List ℕ)
bare_line recipe bytes (line.Image name lines) = line.Image name (recipe lines)
bare_line recipe bytes (line.Quiet set) = line.Quiet set
bare_line recipe bytes (line.Dump name image) = line.Dump name image
bare_line recipe bytes (line.On name done) = line.On name (bare_named_act bytes done)

-- what a script's link begins with: it is live in incarnation 1, and its buffers begin at address 0
abbrev pub config_of : ℕ → ℕ → ℕ → LinkConfig
config_of to_host to_remote book = record { num0 = to_host; num1 = to_remote; book = book; first = 1; base = 0 }

-- a call of a caller on the link of this name
abbrev pub calls : List ℕ → ℕ → How → CallWish (List ℕ) → Line (List RecipeLine) (List ℕ)
calls name caller made wanted = line.On name (under.Link (act.Call caller made wanted))

-- what a command is about
abbrev pub line_of : Command → Line (List RecipeLine) (List ℕ)
line_of (command.Image name lines) = line.Image name lines
line_of (command.Quiet set) = line.Quiet set
line_of (command.Dump name image) = line.Dump name image
line_of (command.Link name to_host to_remote book) = line.On name (under.Make (making.Link (config_of to_host to_remote book) false))
line_of (command.NsLink name to_host to_remote book) = line.On name (under.Make (making.Link (config_of to_host to_remote book) true))
line_of (command.Core name regions book) = line.On name (under.Make (making.Core regions book))
line_of (command.Caller name end) = line.On name (under.Link (act.Caller end))
line_of (command.Send name caller source destination payload) = calls name caller how.Whole (call.Send source destination payload)
line_of (command.Raw name caller message) = calls name caller how.Whole (call.Raw message)
line_of (command.Take name caller) = calls name caller how.Whole call.Take
line_of (command.Give name caller number) = calls name caller how.Whole (call.Give number)
line_of (command.Bind name caller address) = calls name caller how.Whole (call.Bind address)
line_of (command.Unbind name caller address) = calls name caller how.Whole (call.Unbind address)
line_of (command.BeginSend name caller source destination payload) = calls name caller how.Begun (call.Send source destination payload)
line_of (command.BeginRaw name caller message) = calls name caller how.Begun (call.Raw message)
line_of (command.BeginTake name caller) = calls name caller how.Begun call.Take
line_of (command.BeginGive name caller number) = calls name caller how.Begun (call.Give number)
line_of (command.BeginBind name caller address) = calls name caller how.Begun (call.Bind address)
line_of (command.BeginUnbind name caller address) = calls name caller how.Begun (call.Unbind address)
line_of (command.Step name caller count) = line.On name (under.Link (act.Step caller (count - 1)))
-- (no call has more than seven steps)
line_of (command.Finish name caller) = line.On name (under.Link (act.Step caller 6))
line_of (command.Pump name sender receiver count) = line.On name (under.Link (act.Pump sender receiver count))
line_of (command.Reclaim name caller) = line.On name (under.Link (act.Reclaim caller))
line_of (command.Close name) = line.On name (under.Manage manager.Close)
line_of (command.Reopen name) = line.On name (under.Manage manager.Reopen)
line_of (command.Books name) = line.On name (under.Show view.Books)
line_of (command.Ring name lane) = line.On name (under.Show (view.Ring lane))
line_of (command.Channels name) = line.On name (under.Show view.Channels)
line_of (command.Region name kind da pa len) = line.On name (under.Core (core.Region (record { kind = kind; da = da; pa = pa; len = len })))
line_of (command.Driver name channel kind) = line.On name (under.Core (core.Driver channel kind))
line_of (command.Boot name image) = line.On name (under.Core (core.Start (start.Boot image)))
line_of (command.Handover name image) = line.On name (under.Core (core.Start (start.Handover image)))
line_of (command.Shutdown name) = line.On name (under.Core core.Shutdown)
line_of (command.Detach name) = line.On name (under.Core core.Detach)
line_of (command.State name) = line.On name (under.Core (core.Show shows.State))
line_of (command.Table name) = line.On name (under.Core (core.Show shows.Table))
line_of (command.Trace name trace) = line.On name (under.Core (core.Show (shows.Trace trace)))
line_of (command.Mem name da len) = line.On name (under.Core (core.Show (shows.Mem da len)))
line_of (command.Crash name kind) = line.On name (under.Core (core.Crash kind))
line_of (command.Recover name) = line.On name (under.Core (core.Start start.Recover))
line_of (command.Recovery name set) = line.On name (under.Core (core.Recovery set))
line_of (command.Drive name count) = line.On name (under.Core (core.Drive count))

-- what a script may make
abbrev pub IsFitMaking : Making → Type 0
IsFitMaking (making.Link config has_service) = IsConfig config
IsFitMaking (making.Core regions book) = IsBook book

-- a lane is 0 or 1
abbrev pub IsFitView : LinkView → Type 0
IsFitView (view.Ring lane) = IsLane lane
IsFitView other = Unit {0}

-- some bytes of memory are asked for
abbrev pub IsFitCoreView : CoreView → Type 0
IsFitCoreView (shows.Mem da len) = IsLength len
IsFitCoreView other = Unit {0}

-- what is asked of a core
abbrev pub IsFitCore : CoreAct → Type 0
IsFitCore (core.Show shown) = IsFitCoreView shown
IsFitCore other = Unit {0}

-- an act whose numbers are within what the machine takes
abbrev pub IsFitNamed : NamedAct (List ℕ) → Type 0
IsFitNamed (under.Make made) = IsFitMaking made
IsFitNamed (under.Link asked) = IsFitAct asked
IsFitNamed (under.Manage managed) = Unit {0}
IsFitNamed (under.Show shown) = IsFitView shown
IsFitNamed (under.Core asked) = IsFitCore asked

abbrev pub IsFitLine : Line (List RecipeLine) (List ℕ) → Type 0
IsFitLine (line.Image name lines) = Unit {0}
IsFitLine (line.Quiet set) = Unit {0}
IsFitLine (line.Dump name image) = Unit {0}
IsFitLine (line.On name done) = IsFitNamed done
