-- A link of a run whose incarnation is closed (own).
use Rattle.std.specs.Prelude.{◌≡◌, ◌≢◌, ℕ, List, Option, Some, IsSomeAnd, option_map, slice_get}
use Rattle.script_lang.specs.declared.commands.Command.{Command}
use Rattle.link_bench.specs.Benches.{BenchState, link_in}
use Rattle.core_laws.specs.ClosedLinks.{StaysClosed}
use Rattle.link_commands.specs.declared.acts.Line.TheVariants as line
use Rattle.link_commands.specs.declared.acts.ManagerAct.TheVariants as manager
use Rattle.link_commands.specs.declared.acts.NamedAct.TheVariants as under
use Rattle.link_commands.specs.Acts.{line_of}
use Rattle.link_commands.specs.NamedLinks.{NamedLink}
use Rattle.command_run.specs.Runs.{RunState, place_of}

-- the link at a place of a run
abbrev pub bench_at : RunState → ℕ → Option BenchState
bench_at run place = option_map (λ (named : NamedLink). named.bench) (slice_get run.objects.links place)

-- a command reopens no link but another one
abbrev pub ReopensOther : RunState → ℕ → Command → Type 0
ReopensOther run place asked = (name : List ℕ) → line_of asked ≡ line.On name (under.Manage manager.Reopen) → place_of run.objects.links name ≢ Some place

-- the link at this place is closed still, and nothing was handed over
abbrev pub LeavesClosed : BenchState → RunState → ℕ → Type 0
LeavesClosed bench run place = IsSomeAnd (bench_at run place) (λ (after : BenchState). StaysClosed (link_in bench) (link_in after))
