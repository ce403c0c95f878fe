-- What the calls of a bench leave of its link is reached where it was.
use Rattle.std.proofs.Common.{◌≡◌, ℕ, ◌+◌, eqb, cond, Bool, true, false, Option, Some, None, is_some, slice_get, slice_set, refl, sym, ap, subst}
use Rattle.std.proofs.lemmas.Bool.{cond_both, true≢false}
use Rattle.rp_base.specs.declared.kinds.End.{End}
use Rattle.rp_base.specs.declared.limits.TheConstants.{STEPS_MOST}
use Rattle.lane_model.specs.declared.calls.Wish.{Wish}
use Rattle.lane_model.specs.declared.calls.LinkConfig.{LinkConfig}
use Rattle.lane_model.specs.declared.recoveries.ReclaimRefusal.{ReclaimRefusal}
use Rattle.lane_model.specs.Desks.{IsFreshDesk}
use Rattle.lane_model.specs.Forms.{list_form}
use Rattle.lane_model.specs.Links.{LinkState, end_of, free_number, opened_link}
use Rattle.lane_model.specs.Conditions.{is_calling}
use Rattle.lane_model.specs.Recoveries.{link_reopen_refusal, link_reclaim_refusal, link_after_reopen}
use Rattle.lane_laws.specs.Moves.{Enlist, Close, Reclaim}
use Rattle.lane_laws.proofs.LinkRuns.{opened_new, reopened_new}
use Rattle.channel_bus.specs.Sides.{EndState, side_meaning}
use Rattle.channel_bus.specs.Laws.{side_laws}
use Rattle.link_bench.specs.declared.benches.BegunCall.{BegunCall}
use Rattle.link_bench.specs.declared.benches.Reach.TheVariants as reach
use Rattle.link_bench.specs.Benches.{AreFitCalls, BenchState, BenchWalk, IsSendable, advance_steps, advance_walk, begin_fault, begin_walk, begun_call_of, bench_walk, call_steps, is_in_call, link_in, new_bench_of, on_rings, with_begun_call, with_new_caller}
use Rattle.link_bench.specs.BenchCrashes.{after_close, after_reclaim, after_reopen, reclaim_leaves, reclaim_leaves_at}
use Rattle.core_laws.specs.BenchMoves.{ComesBy, IsReachedBench}
use Rattle.link_bench.proofs.BegunCalls.{begin_may, none_in_none}
use Rattle.link_bench.proofs.Lists.{close_lists, reclaim_lists}
use Rattle.link_bench.proofs.FitCalls.{begun_at, begun_or, calling_may, fit_advanced, fit_begun, fit_called, fit_joined}
use Rattle.link_bench.proofs.BenchMay.{fit_closed, fit_reclaimed, fit_reopened}
use Rattle.core_laws.proofs.LinkMoves.{comes_move, comes_none, reached_by}
use Rattle.core_laws.proofs.ShortMoves.{short_lane}
use Rattle.core_laws.proofs.CallMoves.{call_comes, later_comes}

-- a new bench
pub new_reached : (config : LinkConfig) (host remote : EndState) → IsFreshDesk side_meaning host → IsFreshDesk side_meaning remote
    → IsReachedBench (new_bench_of config host remote)
new_reached config host remote fresh_host fresh_remote =
    let new = opened_new side_meaning config host remote fresh_host fresh_remote in
    record {
      link = record { start = opened_link config host remote; new = new; came = comes_none side_meaning (opened_link config host remote); short = record { to_host = short_lane _ _ _; to_remote = short_lane _ _ _ } };
      fit = λ caller call is. absurd (none_in_none 64 caller call is);
    }

-- a new caller
pub enlisted : (bench : BenchState) (end : End) → IsReachedBench bench → IsReachedBench (with_new_caller bench end (free_number (link_in bench).callers))
enlisted bench end reached =
    record { link = reached_by (link_in bench) _ reached.link (comes_move side_meaning (link_in bench) (Enlist end) tt); fit = fit_joined bench end reached.fit }

-- a call is begun
pub begun_reached : (bench : BenchState) (caller : ℕ) (call : BegunCall) → IsReachedBench bench → begin_fault bench caller call.wish ≡ None
    → IsSendable call.wish → IsReachedBench (with_begun_call bench caller (Some call))
begun_reached bench caller call reached ready sendable = record { link = reached.link; fit = fit_begun bench caller call ready sendable reached.fit }

-- steps of the call that a caller is in
advance_comes : (bench : BenchState) (more steps caller : ℕ) (found : Option BegunCall) → begun_call_of bench caller ≡ found → is_in_call bench caller ≡ true
    → IsReachedBench bench → ComesBy side_meaning (link_in bench) (link_in (advance_steps bench more steps caller found).bench)
advance_comes bench more steps caller (Some call) is in_call reached =
    cond_both (eqb steps STEPS_MOST) (record { bench = bench; steps = steps; reach = reach.Limit })
    (bench_walk (with_begun_call bench caller None) (call_steps on_rings more steps bench.rings caller call.follows call.wish))
    (λ (walk : BenchWalk). ComesBy side_meaning (link_in bench) (link_in walk.bench)) (λ _. comes_none side_meaning (link_in bench))
    (λ _. call_comes more steps bench.rings caller call.follows call.wish (reached.fit caller call (begun_at (slice_get bench.begun caller) call is)))
advance_comes bench more steps caller None none in_call reached =
    later_comes (more + 1) 0 steps bench.rings caller
    (calling_may (link_in bench) caller (begun_or (begun_call_of bench caller) (is_calling (link_in bench) caller) none in_call))

pub advanced : (bench : BenchState) (more steps caller : ℕ) → IsReachedBench bench → is_in_call bench caller ≡ true
    → IsReachedBench (advance_walk bench more steps caller).bench
advanced bench more steps caller reached in_call = record {
  link = reached_by (link_in bench) _ reached.link (advance_comes bench more steps caller (begun_call_of bench caller) refl in_call reached);
  fit = fit_advanced bench more steps caller in_call reached.fit;
}

-- a call from its first step on
pub called : (bench : BenchState) (more steps caller : ℕ) (wanted : Wish) → IsReachedBench bench → begin_fault bench caller wanted ≡ None
    → IsSendable wanted → IsReachedBench (begin_walk bench more steps caller wanted).bench
called bench more steps caller wanted reached ready sendable = record {
  link = reached_by (link_in bench) _ reached.link (call_comes more steps bench.rings caller (link_in bench).era.inc wanted (begin_may bench caller wanted sendable ready));
  fit = fit_called bench more steps caller wanted ready sendable reached.fit;
}

-- a close
pub comes_close : (bench : BenchState) → ComesBy side_meaning (link_in bench) (link_in (after_close bench))
comes_close bench = subst (ComesBy side_meaning (link_in bench)) (sym (close_lists bench)) (comes_move side_meaning (link_in bench) (Close (link_in bench).era.inc) tt)

pub closed : (bench : BenchState) → IsReachedBench bench → IsReachedBench (after_close bench)
closed bench reached = record {
  link = reached_by (link_in bench) _ reached.link (comes_close bench);
  fit = subst (λ (link : LinkState EndState). AreFitCalls link bench.begun) (sym (close_lists bench)) (fit_closed (link_in bench) bench.begun (link_in bench).era.inc reached.fit);
}

-- a reclaim in a closed era
pub comes_reclaim : (bench : BenchState) (caller : ℕ) → (link_in bench).era.is_live ≡ false → ComesBy side_meaning (link_in bench) (link_in (after_reclaim bench caller))
comes_reclaim bench caller shut = subst (ComesBy side_meaning (link_in bench)) (sym (reclaim_lists bench caller)) (comes_move side_meaning (link_in bench) (Reclaim caller) shut)

pub reclaimed : (bench : BenchState) (caller : ℕ) → (link_in bench).era.is_live ≡ false → IsReachedBench bench → IsReachedBench (after_reclaim bench caller)
reclaimed bench caller shut reached = record {
  link = reached_by (link_in bench) _ reached.link (comes_reclaim bench caller shut);
  fit = subst (λ (link : LinkState EndState). AreFitCalls link (slice_set bench.begun caller None)) (sym (reclaim_lists bench caller)) (fit_reclaimed (link_in bench) bench.begun caller reached.fit);
}

-- where nothing refuses a reclaim the era is closed
shut_at : (live : Bool) (why : ReclaimRefusal) (other : Option ReclaimRefusal) → cond live (Some why) other ≡ None → live ≡ false
shut_at true why other none = absurd (true≢false (ap is_some none))
shut_at false why other none = refl

pub reclaimable_is_shut : (link : LinkState EndState) (caller : ℕ) → link_reclaim_refusal link caller ≡ None → link.era.is_live ≡ false
reclaimable_is_shut link caller none = shut_at link.era.is_live _ _ none

reclaim_at : (bench : BenchState) (caller : ℕ) (end : Option End) (why : Option ReclaimRefusal) → link_reclaim_refusal (link_in bench) caller ≡ why
    → IsReachedBench bench → IsReachedBench (reclaim_leaves_at bench caller end why)
reclaim_at bench caller (Some end) None none reached = reclaimed bench caller (reclaimable_is_shut (link_in bench) caller none) reached
reclaim_at bench caller (Some end) (Some why) none reached = reached
reclaim_at bench caller None why none reached = reached

pub reclaim_tried : (bench : BenchState) (caller : ℕ) → IsReachedBench bench → IsReachedBench (reclaim_leaves bench caller (link_reclaim_refusal (link_in bench) caller))
reclaim_tried bench caller reached = reclaim_at bench caller (end_of (link_in bench).callers caller) (link_reclaim_refusal (link_in bench) caller) refl reached

-- a reopening is a new start
pub reopened : (bench : BenchState) → IsReachedBench bench → link_reopen_refusal (link_in bench) ≡ None → IsReachedBench (after_reopen bench)
reopened bench reached clear = record {
  link = record {
    start = link_after_reopen (list_form side_meaning) (link_in bench);
    new = reopened_new side_meaning side_laws (link_in bench);
    came = comes_none side_meaning (link_after_reopen (list_form side_meaning) (link_in bench));
    short = record { to_host = short_lane _ _ _; to_remote = short_lane _ _ _ };
  };
  fit = fit_reopened (link_in bench) bench.begun clear reached.fit;
}
