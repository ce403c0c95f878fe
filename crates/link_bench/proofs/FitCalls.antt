-- The calls that are begun stay fit over each part of an act.
use Rattle.std.proofs.Common.{◌≡◌, ℕ, ◌+◌, eqb, Bool, true, false, ◌||◌, Option, Some, None, is_some, option_and_then, slice_get, slice_set, refl, sym, ap, subst}
use Rattle.std.specs.Option.{option_map_or}
use Rattle.std.proofs.lemmas.Bool.{cond_both, true≢false}
use Rattle.rp_base.specs.declared.kinds.End.{End}
use Rattle.rp_base.specs.declared.limits.TheConstants.{STEPS_MOST}
use Rattle.lane_model.specs.declared.calls.Wish.{Wish}
use Rattle.lane_model.specs.declared.recoveries.ReclaimRefusal.{ReclaimRefusal}
use Rattle.lane_model.specs.Conditions.{MayEndStep, MayStep, is_calling, is_in_call as is_in_call_on}
use Rattle.lane_model.specs.Links.{LinkState, caller_step, end_of, free_number, lanes_of}
use Rattle.lane_model.specs.Recoveries.{link_reclaim_refusal}
use Rattle.lane_model.proofs.Others.{caller_may, others_may}
use Rattle.channel_bus.specs.Sides.{EndState, side_meaning}
use Rattle.link_bench.specs.declared.benches.BegunCall.{BegunCall}
use Rattle.link_bench.specs.declared.benches.Reach.TheVariants as reach
use Rattle.link_bench.specs.ActParts.{Advances, Begins, Calls, Joins, Reclaims, Sees}
use Rattle.link_bench.specs.BenchCrashes.{after_reclaim, reclaim_leaves, reclaim_leaves_at}
use Rattle.link_bench.specs.Benches.{AreFitCalls, BenchState, BenchWalk, IsSendable, LinkRings, OthersMay, advance_steps, advance_walk, begin_fault, begin_walk, begun_call_of, bench_walk, call_steps, is_in_call, later_steps, link_in, lists_of, on_rings, ready_fault, wish_fault, with_begun_call, with_new_caller}
use Rattle.link_bench.specs.Watchers.{Seeing}
use Rattle.link_bench.proofs.ActParts.{KeptByParts}
use Rattle.link_bench.proofs.BegunCalls.{begin_may, fit_after, fit_cleared, fit_put, neither_fault, none_begun}
use Rattle.link_bench.proofs.BenchMay.{fit_reclaimed}
use Rattle.link_bench.proofs.KeptWalks.{call_keeps, later_keeps, next_may}
use Rattle.link_bench.proofs.Lists.{reclaim_lists}

-- the next step of each call that is begun on a bench may be done
abbrev pub AreFit : BenchState → Type 0
AreFit bench = AreFitCalls (link_in bench) bench.begun

-- ---- who is in a call, and in which

-- the call that is in a place
pub begun_at : (place : Option (Option BegunCall)) (call : BegunCall) → option_and_then (λ found. found) place ≡ Some call → place ≡ Some (Some call)
begun_at None call is = absurd (true≢false (sym (ap is_some is)))
begun_at (Some found) call is = ap Some is

-- who has begun no call and is in one has it under way
pub begun_or : (found : Option BegunCall) (under_way : Bool) → found ≡ None → is_some found || under_way ≡ true → under_way ≡ true
begun_or None under_way none is = is
begun_or (Some call) under_way none is = absurd (true≢false (ap is_some none))

-- a caller of this end, or of none, who has a call under way
calling_at : (link : LinkState EndState) (found : Option End) (caller : ℕ)
    → option_map_or (λ end. is_in_call_on (lanes_of link end) caller) found false ≡ true → MayEndStep link found caller None
calling_at link None caller is = absurd (true≢false (sym is))
calling_at link (Some end) caller is = is

-- who has a call under way may do its next step
pub calling_may : (link : LinkState EndState) (caller : ℕ) → is_calling link caller ≡ true → MayStep link caller None
calling_may link caller is = record { may = calling_at link (end_of link.callers caller) caller is }

-- none is what there isn't
no_call : (found : Option BegunCall) → is_some found ≡ false → found ≡ None
no_call None none = refl
no_call (Some call) none = absurd (true≢false none)

-- who may begin a call has begun none
pub ready_none : (bench : BenchState) (caller : ℕ) (wanted : Wish) → begin_fault bench caller wanted ≡ None → begun_call_of bench caller ≡ None
ready_none bench caller wanted ready =
    let both = neither_fault (ready_fault bench caller) (wish_fault bench caller wanted) ready in
    no_call (begun_call_of bench caller) (none_begun (end_of (link_in bench).callers caller) (is_some (begun_call_of bench caller)) (is_calling (link_in bench) caller) both.0)

-- ---- what the calls of a caller leave to the others

module _ (before : LinkState EndState) (caller : ℕ) where
  -- steps that leave the next steps of the others possible, and one more
  then_step : (link : LinkState EndState) (follows : ℕ) (wished : Option Wish) → MayStep link caller wished → OthersMay before link caller
      → OthersMay before (caller_step side_meaning link caller follows wished).state caller
  then_step link follows wished may first other wanted differ might =
      others_may side_meaning link caller other follows wished wanted differ may (first other wanted differ might)

-- the later steps of a call
pub later_others : (more last steps : ℕ) (rings : LinkRings) (caller : ℕ) → MayStep (lists_of rings) caller None
    → OthersMay (lists_of rings) (lists_of (later_steps on_rings more last steps rings caller).link) caller
later_others more last steps rings caller may =
    later_keeps (λ (link : LinkState EndState). OthersMay (lists_of rings) link caller) (λ (link : LinkState EndState) (wished : Option Wish). MayStep link caller wished) caller
    (then_step (lists_of rings) caller) (next_may caller) more last steps rings may (λ other wanted differ might. might)

-- a call from its first step on
pub call_others : (more steps : ℕ) (rings : LinkRings) (caller follows : ℕ) (wanted : Wish) → MayStep (lists_of rings) caller (Some wanted)
    → OthersMay (lists_of rings) (lists_of (call_steps on_rings more steps rings caller follows wanted).link) caller
call_others more steps rings caller follows wanted may =
    call_keeps (λ (link : LinkState EndState). OthersMay (lists_of rings) link caller) (λ (link : LinkState EndState) (wished : Option Wish). MayStep link caller wished) caller
    (then_step (lists_of rings) caller) (next_may caller) more steps rings follows wanted may (λ other wanted differ might. might)

-- ---- parts of an act

-- a new caller
pub fit_joined : (bench : BenchState) (end : End) → AreFit bench → AreFit (with_new_caller bench end (free_number (link_in bench).callers))
fit_joined bench end fit caller call is = caller_may (link_in bench) end caller (Some call.wish) (fit caller call is)

-- a call is begun
pub fit_begun : (bench : BenchState) (caller : ℕ) (call : BegunCall) → begin_fault bench caller call.wish ≡ None → IsSendable call.wish → AreFit bench → AreFit (with_begun_call bench caller (Some call))
fit_begun bench caller call ready sendable fit = fit_put bench.begun caller (link_in bench) call fit (begin_may bench caller call.wish sendable ready)

-- a call from its first step on
pub fit_called : (bench : BenchState) (more steps caller : ℕ) (wanted : Wish) → begin_fault bench caller wanted ≡ None → IsSendable wanted → AreFit bench
    → AreFit (begin_walk bench more steps caller wanted).bench
fit_called bench more steps caller wanted ready sendable fit =
    fit_after bench.begun caller (link_in bench) (lists_of (call_steps on_rings more steps bench.rings caller (link_in bench).era.inc wanted).link) (ready_none bench caller wanted ready) fit
    (call_others more steps bench.rings caller (link_in bench).era.inc wanted (begin_may bench caller wanted sendable ready))

-- steps of this call, or of the one that is under way
advanced_at : (bench : BenchState) (more steps caller : ℕ) (found : Option BegunCall) → begun_call_of bench caller ≡ found → is_in_call bench caller ≡ true
    → AreFit bench → AreFit (advance_steps bench more steps caller found).bench
advanced_at bench more steps caller (Some call) is in_call fit =
    let others = call_others more steps bench.rings caller call.follows call.wish (fit caller call (begun_at (slice_get bench.begun caller) call is)) in
    let after = (call_steps on_rings more steps bench.rings caller call.follows call.wish).link in
    cond_both (eqb steps STEPS_MOST) (record { bench = bench; steps = steps; reach = reach.Limit })
    (bench_walk (with_begun_call bench caller None) (call_steps on_rings more steps bench.rings caller call.follows call.wish))
    (λ (walk : BenchWalk). AreFit walk.bench) (λ _. fit)
    (λ _. fit_cleared bench.begun caller (lists_of after) (λ other one differ at. others other (Some one.wish) differ (fit other one at)))
advanced_at bench more steps caller None none in_call fit =
    let may = calling_may (link_in bench) caller (begun_or (begun_call_of bench caller) (is_calling (link_in bench) caller) none in_call) in
    fit_after bench.begun caller (link_in bench) (lists_of (later_steps on_rings (more + 1) 0 steps bench.rings caller).link) none fit
    (later_others (more + 1) 0 steps bench.rings caller may)

-- steps of the call that a caller is in
pub fit_advanced : (bench : BenchState) (more steps caller : ℕ) → is_in_call bench caller ≡ true → AreFit bench → AreFit (advance_walk bench more steps caller).bench
fit_advanced bench more steps caller in_call fit = advanced_at bench more steps caller (begun_call_of bench caller) refl in_call fit

-- a reclaim
gone : (bench : BenchState) (caller : ℕ) → AreFit bench → AreFit (after_reclaim bench caller)
gone bench caller fit =
    subst (λ (link : LinkState EndState). AreFitCalls link (slice_set bench.begun caller None)) (sym (reclaim_lists bench caller)) (fit_reclaimed (link_in bench) bench.begun caller fit)

-- a reclaim of a caller of this end, or of none
reclaimed_at : (bench : BenchState) (caller : ℕ) (end : Option End) (why : Option ReclaimRefusal) → AreFit bench → AreFit (reclaim_leaves_at bench caller end why)
reclaimed_at bench caller (Some end) None fit = gone bench caller fit
reclaimed_at bench caller (Some end) (Some why) fit = fit
reclaimed_at bench caller None why fit = fit

-- a reclaim, or a refusal of one
pub fit_left : (bench : BenchState) (caller : ℕ) (why : Option ReclaimRefusal) → AreFit bench → AreFit (reclaim_leaves bench caller why)
fit_left bench caller why fit = reclaimed_at bench caller (end_of (link_in bench).callers caller) why fit

-- each part keeps them so
pub fit_part : {W : Type 0} (sees : Seeing W) (own : ℕ) → KeptByParts sees own IsSendable (λ (bench : BenchState) (watcher : W). AreFitCalls (link_in bench) bench.begun)
fit_part sees own bench watcher (Joins end) may fit = fit_joined bench end fit
fit_part sees own bench watcher (Begins caller wanted) may fit = fit_begun bench caller (record { follows = (link_in bench).era.inc; wish = wanted }) may.1 may.2 fit
fit_part sees own bench watcher (Calls steps caller wanted) may fit = fit_called bench 6 steps caller wanted may.1 may.2 fit
fit_part sees own bench watcher (Advances more steps caller) may fit = fit_advanced bench more steps caller may.1 fit
fit_part sees own bench watcher (Sees caller came) may fit = fit
fit_part sees own bench watcher (Reclaims caller) may fit = fit_left bench caller (link_reclaim_refusal (link_in bench) caller) fit
