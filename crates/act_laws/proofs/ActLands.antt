-- The deeds of calls and of parts of an act leave what these leave of a link and of its rings.
use Rattle.std.proofs.Common.{◌≡◌, ℕ, ◌+◌, ◌-◌, ◌==◌, true, false, Option, Some, None, refl, ap}
use Rattle.std.proofs.lemmas.Bool.{cond_both}
use Rattle.rp_base.specs.declared.kinds.End.{End}
use Rattle.rp_base.specs.declared.limits.TheConstants.{STEPS_MOST}
use Rattle.lane_model.specs.declared.calls.Wish.{Wish}
use Rattle.lane_model.specs.declared.recoveries.ReclaimRefusal.{ReclaimRefusal}
use Rattle.lane_model.specs.Conditions.{MayStep}
use Rattle.lane_model.specs.Links.{end_of, free_number, with_caller}
use Rattle.lane_model.specs.Recoveries.{link_reclaim_refusal}
use Rattle.link_bench.specs.declared.benches.BegunCall.{BegunCall}
use Rattle.link_bench.specs.declared.benches.Reach.TheVariants as reach
use Rattle.link_bench.specs.ActParts.{ActPart, Advances, Begins, Calls, Joins, Reclaims, Sees, bench_after}
use Rattle.link_bench.specs.BenchCrashes.{reclaim_leaves_at}
use Rattle.link_bench.specs.Benches.{BenchState, BenchWalk, IsSendable, advance_steps, begin_walk, begun_call_of, bench_walk, call_steps, is_in_call, later_steps, link_in, on_rings, with_begun_call, with_new_caller}
use Rattle.link_bench.proofs.ActParts.{MayPart}
use Rattle.link_bench.proofs.BegunCalls.{begin_may}
use Rattle.act_laws.specs.Deeds.{Deeds, advance_deeds, call_moves, caller_deeds, deeds_then, later_moves, no_deeds, part_deeds, reclaim_deeds, walk_deeds}
use Rattle.act_laws.proofs.Lands.{Lands, call_walks, counted_lands, lands_none, lands_then, later_walks, walks_none}

-- these deeds leave this bench of that one
abbrev pub LandsAt : BenchState → Deeds → BenchState → Type 0
LandsAt bench deeds left = Lands bench.rings deeds left.rings

pub stays : (bench : BenchState) → LandsAt bench no_deeds bench
stays bench = lands_none bench.rings

-- deeds on a bench, and others on what they left
pub then_at : (bench : BenchState) (one : Deeds) (mid : BenchState) (other : Deeds) (left : BenchState) → LandsAt bench one mid → LandsAt mid other left → LandsAt bench (deeds_then one other) left
then_at bench one mid other left first second = lands_then bench.rings one mid.rings first other left.rings second

-- ---- calls

-- a call of a caller that is in none, with at most so many steps behind its first
pub begin_lands : (bench : BenchState) (more steps caller : ℕ) (wanted : Wish) → MayStep (link_in bench) caller (Some wanted)
    → let walk = begin_walk bench more steps caller wanted in
    LandsAt bench (walk_deeds caller walk (call_moves (walk.steps - steps) caller (link_in bench).era.inc wanted)) walk.bench
begin_lands bench more steps caller wanted may =
    counted_lands bench.rings steps caller (λ count. call_moves count caller (link_in bench).era.inc wanted) (call_steps on_rings more steps bench.rings caller (link_in bench).era.inc wanted)
    (call_walks more steps bench.rings caller (link_in bench).era.inc wanted may)

-- the next step of the call that a caller is in may be done
abbrev pub MayGo : BenchState → ℕ → Option BegunCall → Type 0
MayGo bench caller (Some call) = MayStep (link_in bench) caller (Some call.wish)
MayGo bench caller None = MayStep (link_in bench) caller None

pub advance_lands : (bench : BenchState) (more steps caller : ℕ) (found : Option BegunCall) → MayGo bench caller found
    → LandsAt bench (advance_deeds bench more steps caller found) (advance_steps bench more steps caller found).bench
advance_lands bench more steps caller (Some call) may =
    let moves = λ (count : ℕ). call_moves count caller call.follows call.wish in
    cond_both (steps == STEPS_MOST) (record { bench = bench; steps = steps; reach = reach.Limit })
    (bench_walk (with_begun_call bench caller None) (call_steps on_rings more steps bench.rings caller call.follows call.wish))
    (λ (walk : BenchWalk). LandsAt bench (walk_deeds caller walk (moves (walk.steps - steps))) walk.bench)
    (λ _. counted_lands bench.rings steps caller moves (record { link = bench.rings; steps = steps; reach = reach.Limit }) (walks_none bench.rings steps caller moves reach.Limit refl (λ end. refl)))
    (λ _. counted_lands bench.rings steps caller moves (call_steps on_rings more steps bench.rings caller call.follows call.wish) (call_walks more steps bench.rings caller call.follows call.wish may))
advance_lands bench more steps caller None may =
    counted_lands bench.rings steps caller (λ count. later_moves count caller) (later_steps on_rings (more + 1) 0 steps bench.rings caller) (later_walks (more + 1) 0 steps bench.rings caller may)

-- ---- parts of an act

-- what a bench allows: the next step of the call that a caller is in, and reclaims in a closed era alone
pub record MayAct (bench : BenchState) : Type 0 where
  pub go : (caller : ℕ) → is_in_call bench caller ≡ true → MayGo bench caller (begun_call_of bench caller)
  pub shut : (caller : ℕ) → link_reclaim_refusal (link_in bench) caller ≡ None → (link_in bench).era.is_live ≡ false

joined_lands : (bench : BenchState) (end : End) (found : Option ℕ) → free_number (link_in bench).callers ≡ found → LandsAt bench (caller_deeds end found) (with_new_caller bench end found)
joined_lands bench end None found = stays bench
joined_lands bench end (Some number) found = record {
  whole = (tt, tt);
  may = (tt, tt);
  leads = ap (λ (n : Option ℕ). record bench.rings { callers = with_caller bench.rings.callers end n }) found;
  takes = λ other. refl;
}

module _ (bench : BenchState) (may : MayAct bench) where
  reclaim_lands : (caller : ℕ) (found : Option End) (why : Option ReclaimRefusal) → link_reclaim_refusal (link_in bench) caller ≡ why
      → LandsAt bench (reclaim_deeds caller found why) (reclaim_leaves_at bench caller found why)
  reclaim_lands caller (Some end) None none = record { whole = (tt, tt); may = (may.shut caller none, tt); leads = refl; takes = λ other. refl }
  reclaim_lands caller (Some end) (Some why) found = stays bench
  reclaim_lands caller None why found = stays bench

  -- a part that may be done
  pub part_lands : (own : ℕ) (part : ActPart) → MayPart own IsSendable bench part → LandsAt bench (part_deeds bench part) (bench_after bench part)
  part_lands own (Joins end) fit = joined_lands bench end (free_number (link_in bench).callers) refl
  part_lands own (Begins caller wanted) fit = stays bench
  part_lands own (Calls steps caller wanted) fit = begin_lands bench 6 steps caller wanted (begin_may bench caller wanted fit.2 fit.1)
  part_lands own (Advances more steps caller) fit = advance_lands bench more steps caller (begun_call_of bench caller) (may.go caller fit.1)
  part_lands own (Sees caller came) fit = stays bench
  part_lands own (Reclaims caller) fit = reclaim_lands caller (end_of (link_in bench).callers caller) (link_reclaim_refusal (link_in bench) caller) refl
