-- The calls that are begun stay fit over a close, a reclaim and a reopening.
use Rattle.std.proofs.Common.{◌≡◌, ◌⊎◌, ℕ, List, Option, Some, None, Result, Ok, Err, IfOk, IfErr, slice_set, sym, ap, subst, ◌∙◌}
use Rattle.channel_bus.specs.Sides.{EndState, side_meaning}
use Rattle.lane_model.specs.declared.recoveries.ReopenFault.{ReopenFault}
use Rattle.lane_model.specs.declared.recoveries.ReopenFault.TheVariants as reopen_fault
use Rattle.lane_model.specs.Forms.{list_form}
use Rattle.lane_model.specs.Links.{LinkState}
use Rattle.lane_model.specs.Recoveries.{link_after_close, link_after_reclaim, link_after_reopen, link_reopen_refusal}
use Rattle.lane_model.proofs.CrashMay.{close_may, reclaim_may, reopen_may}
use Rattle.link_bench.specs.declared.benches.BegunCall.{BegunCall}
use Rattle.link_bench.specs.Benches.{AreFitCalls, LinkRings, lists_of, on_rings}
use Rattle.link_bench.proofs.BegunCalls.{fit_cleared}
use Rattle.link_bench.proofs.Lists.{reopen_rings}

pub fit_closed : (link : LinkState EndState) (begun : List (Option BegunCall)) (inc : ℕ) → AreFitCalls link begun → AreFitCalls (link_after_close link inc) begun
fit_closed link begun inc fit caller call is = close_may link caller inc (Some call.wish) (fit caller call is)

pub fit_reclaimed : (link : LinkState EndState) (begun : List (Option BegunCall)) (caller : ℕ) → AreFitCalls link begun
    → AreFitCalls (link_after_reclaim (list_form side_meaning) link caller) (slice_set begun caller None)
fit_reclaimed link begun caller fit =
    fit_cleared begun caller (link_after_reclaim (list_form side_meaning) link caller)
    (λ other call differ is. reclaim_may side_meaning link caller other (Some call.wish) differ (fit other call is))

pub fit_reopened : (link : LinkState EndState) (begun : List (Option BegunCall)) → link_reopen_refusal link ≡ None → AreFitCalls link begun
    → AreFitCalls (link_after_reopen (list_form side_meaning) link) begun
fit_reopened link begun clear fit caller call is = reopen_may side_meaning link caller call.wish clear (fit caller call is)

-- a reopening, or a refusal of one
pub fit_either : {B : Type 0} (before after : LinkRings) (begun : List (Option BegunCall)) (answer : Result B ReopenFault) → AreFitCalls (lists_of before) begun
    → IfErr answer (λ why. (after ≡ before) × ((link_reopen_refusal (lists_of before) ≡ Some why) ⊎ ((why ≡ reopen_fault.NoMemory) × (link_reopen_refusal (lists_of before) ≡ None)))) → IfOk answer (λ _. link_reopen_refusal (lists_of before) ≡ None)
    → IfOk answer (λ _. after ≡ link_after_reopen on_rings before) → AreFitCalls (lists_of after) begun
fit_either before after begun (Ok books) fit refused clear left =
    subst (λ (link : LinkState EndState). AreFitCalls link begun) (sym (reopen_rings before) ∙ ap lists_of (sym left)) (fit_reopened (lists_of before) begun clear fit)
fit_either before after begun (Err fault) fit refused clear left =
    subst (λ (link : LinkRings). AreFitCalls (lists_of link) begun) (sym refused.0) fit
