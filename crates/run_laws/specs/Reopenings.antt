-- The link of a name in a run, and what a reopening leaves of it (own).
use Rattle.std.specs.Prelude.{◌≡◌, ◌+◌, ℕ, List, Option, Some, None, slice_get}
use Rattle.lane_model.specs.declared.recoveries.ReopenFault.{ReopenFault}
use Rattle.lane_model.specs.Recoveries.{link_reopen_refusal}
use Rattle.link_bench.specs.Benches.{BenchState, link_in}
use Rattle.core_laws.specs.Beginnings.{BeginsEmpty}
use Rattle.link_commands.specs.NamedLinks.{NamedLink}
use Rattle.command_run.specs.Runs.{RunState, place_of}

-- the link at this place of the run has this name
pub record IsLinkAt (run : RunState) (name : List ℕ) (place : ℕ) (on : NamedLink) : Type 0 where
  pub placed : place_of run.objects.links name ≡ Some place
  pub found : slice_get run.objects.links place ≡ Some on

-- where nothing refuses it the link is live and empty in its next incarnation, and else it is as it was
abbrev pub IsReopened : Option ReopenFault → BenchState → BenchState → Type 0
IsReopened None before after = BeginsEmpty ((link_in before).era.inc + 1) after
IsReopened (Some why) before after = after ≡ before

-- a link of this name is what a reopening leaves of this one
pub record IsLeftByReopen (called : List ℕ) (before : BenchState) (on : NamedLink) : Type 0 where
  pub name : on.name ≡ called
  pub bench : IsReopened (link_reopen_refusal (link_in before)) before on.bench
