-- How an incarnation of a link begins, and a life of a core (own).
use Rattle.std.specs.Prelude.{◌≡◌, ◌+◌, ℕ, Bool, true, false, Option, Some, None, IfSome, IsSomeAnd}
use Rattle.crash_recover.specs.declared.core_answers.Start.{Start}
use Rattle.crash_recover.specs.declared.core_answers.Start.TheVariants as start
use Rattle.crash_recover.specs.Cores.{CoreState}
use Rattle.lane_laws.specs.Moves.{IsEmptyLane}
use Rattle.link_bench.specs.Benches.{BenchState, link_in}

-- the link is live in this incarnation, and on neither lane a message was accepted, handed over or given back, or a call is under way
pub record BeginsEmpty (inc : ℕ) (bench : BenchState) : Type 0 where
  pub incarnation : (link_in bench).era.inc ≡ inc
  pub live : (link_in bench).era.is_live ≡ true
  pub to_host : IsEmptyLane (link_in bench).to_host
  pub to_remote : IsEmptyLane (link_in bench).to_remote

-- whether a life of a core begins with this answer: it was started, attached to or recovered
abbrev pub begins_life : Start → Bool
begins_life (start.Running inc) = true
begins_life (start.Attached inc) = true
begins_life (start.Users users) = false
begins_life start.Detached = false

-- the life of a core is in this incarnation, and so is its link, if it has one, which is live and empty
pub record BeginsLife (inc : ℕ) (core : CoreState) : Type 0 where
  pub life : core.life.incarnation ≡ inc
  pub link : IfSome core.bench (BeginsEmpty inc)

-- there is a link exactly where there was one, and it is live and empty in the incarnation after that one's
abbrev pub ReopensNext : Option BenchState → Option BenchState → Type 0
ReopensNext None after = after ≡ None
ReopensNext (Some before) after = IsSomeAnd after (BeginsEmpty ((link_in before).era.inc + 1))
