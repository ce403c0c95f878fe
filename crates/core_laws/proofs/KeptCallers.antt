-- Which callers of a core's link a crash leaves.
use Rattle.std.proofs.Common.{◌≡◌, ◌≢◌, ◌⊎◌, ◌<◌, ℕ, ◌+◌, eqb, cond, Bool, true, false, List, Option, Some, None, slice_set, refl, sym, ap, subst, ◌∙◌, inl, inr, arith}
use Rattle.std.proofs.lemmas.Bool.{cases_lt, cond_both, eqb-false, eqb-true, false≢true}
use Rattle.std.proofs.lemmas.Bool.Decides.{eqb_tells}
use Rattle.rp_base.specs.declared.limits.TheConstants.{CALLERS_MOST}
use Rattle.rp_base.specs.declared.kinds.End.{End}
use Rattle.rp_base.specs.declared.kinds.End.TheVariants as side
use Rattle.lane_model.specs.Lanes.{holder}
use Rattle.lane_model.specs.Links.{end_of, free_number, with_caller}
use Rattle.lane_model.specs.Recoveries.{without_caller}
use Rattle.lane_model.proofs.CrashMay.{freed}
use Rattle.link_bench.specs.BenchCrashes.{after_close, after_reclaim}
use Rattle.link_bench.specs.Benches.{BenchState, LinkRings, link_in, on_rings}
use Rattle.link_bench.specs.BenchEnds.{crashed_bench, is_first, is_remote, with_fresh_caller, without_one, without_other, without_remote}
use Rattle.link_bench.proofs.CrashWalks.{others_walk}
use Rattle.core_actors.specs.PendingCalls.{AreOwnUsed}
use Rattle.core_laws.specs.CrashCallers.{end_after_crash}
use Rattle.crash_recover.proofs.KeptCrashes.{close_leaves, cleared, host_is_no_remote, is_remote_end, no_end, remote_again}

-- ---- one caller

-- the callers without this one, where it is of the remote end and isn't made anew
abbrev callers_without : List (Option End) → ℕ → List (Option End)
callers_without callers caller = cond (is_remote (end_of callers caller)) (cond (eqb caller 1) callers (slice_set callers caller None)) callers

gone_callers : (link : LinkRings) (found : Option End) (caller : ℕ) (end : End) → found ≡ Some end → (without_caller on_rings link found caller).callers ≡ slice_set link.callers caller None
gone_callers link None caller end is = no_end end is
gone_callers link (Some side.Host) caller end is = refl
gone_callers link (Some side.Remote) caller end is = refl

renewed_callers : (bench : BenchState) (caller : ℕ) → AreOwnUsed (link_in bench).callers → end_of (link_in bench).callers caller ≡ Some side.Remote → caller ≡ 1
    → (link_in (with_fresh_caller (after_reclaim bench caller) side.Remote)).callers ≡ (link_in bench).callers
renewed_callers bench caller own remote one =
    let gone = gone_callers bench.rings (end_of (link_in bench).callers caller) caller side.Remote remote in
    ap (λ (callers : List (Option End)). with_caller callers side.Remote (free_number callers)) (gone ∙ ap (λ n. slice_set (link_in bench).callers n None) one) ∙ remote_again (link_in bench).callers own

callers_left : (bench : BenchState) (caller : ℕ) (one : Bool) → AreOwnUsed (link_in bench).callers → end_of (link_in bench).callers caller ≡ Some side.Remote → (one ≡ true → caller ≡ 1)
    → (link_in (cond one (with_fresh_caller (after_reclaim bench caller) side.Remote) (after_reclaim bench caller))).callers ≡ cond one (link_in bench).callers (slice_set (link_in bench).callers caller None)
callers_left bench caller true own remote is = renewed_callers bench caller own remote (is refl)
callers_left bench caller false own remote is = gone_callers bench.rings (end_of (link_in bench).callers caller) caller side.Remote remote

remote_callers : (bench : BenchState) (caller : ℕ) (remote : Bool) → is_remote (end_of (link_in bench).callers caller) ≡ remote → AreOwnUsed (link_in bench).callers
    → (link_in (cond remote (cond (eqb caller 1) (with_fresh_caller (after_reclaim bench caller) side.Remote) (after_reclaim bench caller)) bench)).callers
    ≡ cond remote (cond (eqb caller 1) (link_in bench).callers (slice_set (link_in bench).callers caller None)) (link_in bench).callers
remote_callers bench caller true is own = callers_left bench caller (eqb caller 1) own (is_remote_end (end_of (link_in bench).callers caller) is) (λ one. eqb-true caller 1 one)
remote_callers bench caller false is own = refl

without_callers : (bench : BenchState) (caller : ℕ) → AreOwnUsed (link_in bench).callers → (link_in (without_remote bench caller)).callers ≡ callers_without (link_in bench).callers caller
without_callers bench caller own = remote_callers bench caller (is_remote (end_of (link_in bench).callers caller)) refl own

other_stays : (callers : List (Option End)) (gone caller : ℕ) → gone ≢ caller → end_of (callers_without callers gone) caller ≡ end_of callers caller
other_stays callers gone caller differ =
    cond_both (is_remote (end_of callers gone)) (cond (eqb gone 1) callers (slice_set callers gone None)) callers (λ (left : List (Option End)). end_of left caller ≡ end_of callers caller)
    (λ _. cond_both (eqb gone 1) callers (slice_set callers gone None) (λ (left : List (Option End)). end_of left caller ≡ end_of callers caller) (λ _. refl)
    (λ _. freed callers gone caller differ)) (λ _. refl)

itself_at : (callers : List (Option End)) (caller : ℕ) (one : Bool) → end_of callers caller ≡ Some side.Remote
    → end_of (cond one callers (slice_set callers caller None)) caller ≡ cond one (Some side.Remote) None
itself_at callers caller true remote = remote
itself_at callers caller false remote = cleared callers caller

itself_by : (callers : List (Option End)) (caller : ℕ) (found : Option End) → end_of callers caller ≡ found
    → end_of (cond (is_remote found) (cond (eqb caller 1) callers (slice_set callers caller None)) callers) caller ≡ end_after_crash caller found
itself_by callers caller None is = is
itself_by callers caller (Some side.Host) is = is
itself_by callers caller (Some side.Remote) is = itself_at callers caller (eqb caller 1) is

itself : (callers : List (Option End)) (caller : ℕ) → end_of (callers_without callers caller) caller ≡ end_after_crash caller (end_of callers caller)
itself callers caller = itself_by callers caller (end_of callers caller) refl

-- who is ended is so once and for all
twice_at : (caller : ℕ) (one : Bool) → cond (is_remote (cond one (Some side.Remote) None)) (cond one (Some side.Remote) None) (cond one (Some side.Remote) None) ≡ cond one (Some side.Remote) None
twice_at caller true = refl
twice_at caller false = refl

twice : (caller : ℕ) (found : Option End) → end_after_crash caller (end_after_crash caller found) ≡ end_after_crash caller found
twice caller None = refl
twice caller (Some side.Host) = refl
twice caller (Some side.Remote) = twice_at caller (eqb caller 1)

-- the callers 0 and 1 stay
own_stays : (callers : List (Option End)) (gone : ℕ) → AreOwnUsed callers → AreOwnUsed (callers_without callers gone)
own_stays callers gone own =
    cond_both (is_remote (end_of callers gone)) (cond (eqb gone 1) callers (slice_set callers gone None)) callers AreOwnUsed
    (λ remote. cond_both (eqb gone 1) callers (slice_set callers gone None) AreOwnUsed (λ _. own)
    (λ other. record {
      host = freed callers gone 0 (host_is_no_remote callers gone own remote) ∙ own.host;
      remote = freed callers gone 1 (eqb-false gone 1 other) ∙ own.remote;
    })) (λ _. own)

-- ---- one after the other

-- the callers below a number and the one that was ended first are gone, and each other one is gone or where it was
record AreGone (first : Option ℕ) (at : ℕ) (before after : List (Option End)) : Type 0 where
  pub own : AreOwnUsed after
  pub each : (caller : ℕ) → (end_of after caller ≡ end_of before caller) ⊎ (end_of after caller ≡ end_after_crash caller (end_of before caller))
  pub below : (caller : ℕ) → caller < at → end_of after caller ≡ end_after_crash caller (end_of before caller)
  pub of_first : (caller : ℕ) → is_first first caller ≡ true → end_of after caller ≡ end_after_crash caller (end_of before caller)

-- the caller in hand is gone then
now_gone : (before after : List (Option End)) (gone : ℕ) → (end_of after gone ≡ end_of before gone) ⊎ (end_of after gone ≡ end_after_crash gone (end_of before gone))
    → end_of (callers_without after gone) gone ≡ end_after_crash gone (end_of before gone)
now_gone before after gone (inl same) = itself after gone ∙ ap (end_after_crash gone) same
now_gone before after gone (inr is) = itself after gone ∙ ap (end_after_crash gone) is ∙ twice gone (end_of before gone)

-- what is known of a caller stays known where one is ended, or becomes known of that one
one_known : (before after : List (Option End)) (gone caller : ℕ) → (end_of after gone ≡ end_of before gone) ⊎ (end_of after gone ≡ end_after_crash gone (end_of before gone))
    → (gone ≢ caller → end_of after caller ≡ end_after_crash caller (end_of before caller))
    → end_of (callers_without after gone) caller ≡ end_after_crash caller (end_of before caller)
one_known before after gone caller each rest =
    elim (eqb_tells gone caller) [
      | inl same ↦ subst (λ n. end_of (callers_without after gone) n ≡ end_after_crash n (end_of before n)) same.1 (now_gone before after gone each)
      | inr other ↦ other_stays after gone caller other.1 ∙ rest other.1
    ]

one_each : (before after : List (Option End)) (gone caller : ℕ) → ((n : ℕ) → (end_of after n ≡ end_of before n) ⊎ (end_of after n ≡ end_after_crash n (end_of before n)))
    → (end_of (callers_without after gone) caller ≡ end_of before caller) ⊎ (end_of (callers_without after gone) caller ≡ end_after_crash caller (end_of before caller))
one_each before after gone caller each =
    elim (eqb_tells gone caller) [
      | inl same ↦ inr (subst (λ n. end_of (callers_without after gone) n ≡ end_after_crash n (end_of before n)) same.1 (now_gone before after gone (each gone)))
      | inr other ↦ elim (each caller) [ inl was ↦ inl (other_stays after gone caller other.1 ∙ was) | inr is ↦ inr (other_stays after gone caller other.1 ∙ is) ]
    ]

below_next : (caller at : ℕ) → caller < at + 1 → at ≢ caller → caller < at
below_next caller at less differ = elim (cases_lt caller at) [ inl is ↦ is | inr not_less ↦ absurd (differ (omega (arith, less, not_less))) ]

ended_next : (first : Option ℕ) (at : ℕ) (before after : List (Option End)) → AreGone first at before after → AreGone first (at + 1) before (callers_without after at)
ended_next first at before after are = record {
  own = own_stays after at are.own;
  each = λ caller. one_each before after at caller are.each;
  below = λ caller less. one_known before after at caller (are.each at) (λ differ. are.below caller (below_next caller at less differ));
  of_first = λ caller is. one_known before after at caller (are.each at) (λ _. are.of_first caller is);
}

first_next : (first : Option ℕ) (at : ℕ) (before after : List (Option End)) → is_first first at ≡ true → AreGone first at before after → AreGone first (at + 1) before after
first_next first at before after is are = record {
  own = are.own;
  each = are.each;
  below = λ caller less. elim (eqb_tells at caller) [
    | inl same ↦ are.of_first caller (subst (λ n. is_first first n ≡ true) same.1 is)
    | inr other ↦ are.below caller (below_next caller at less other.1)
  ];
  of_first = are.of_first;
}

one_gone : (first : Option ℕ) (before : List (Option End)) (at : ℕ) (bench : BenchState) → AreGone first at before (link_in bench).callers → AreGone first (at + 1) before (link_in (without_other first bench at)).callers
one_gone first before at bench are =
    cond_both (is_first first at) bench (without_remote bench at) (λ (left : BenchState). AreGone first (at + 1) before (link_in left).callers)
    (λ is. first_next first at before (link_in bench).callers is are)
    (λ _. subst (AreGone first (at + 1) before) (sym (without_callers bench at are.own)) (ended_next first at before (link_in bench).callers are))

-- who is ended first is gone
first_gone : (bench : BenchState) (first : Option ℕ) → AreOwnUsed (link_in bench).callers → AreGone first 0 (link_in bench).callers (link_in (without_one bench first)).callers
first_gone bench None own = record { own = own; each = λ caller. inl refl; below = λ caller less. absurd (omega arith); of_first = λ caller is. absurd (false≢true is) }
first_gone bench (Some gone) own =
    subst (AreGone (Some gone) 0 (link_in bench).callers) (sym (without_callers bench gone own)) (record {
      own = own_stays (link_in bench).callers gone own;
      each = λ caller. one_each (link_in bench).callers (link_in bench).callers gone caller (λ n. inl refl);
      below = λ caller less. absurd (omega arith);
      of_first = λ caller is. subst (λ n. end_of (callers_without (link_in bench).callers gone) n ≡ end_after_crash n (end_of (link_in bench).callers n)) (eqb-true gone caller is)
          (itself (link_in bench).callers gone);
    })

-- the callers that a crash leaves
pub crash_callers : (bench : BenchState) (caller : ℕ) → AreOwnUsed (link_in bench).callers → caller < CALLERS_MOST
    → end_of (link_in (crashed_bench bench)).callers caller ≡ end_after_crash caller (end_of (link_in bench).callers caller)
crash_callers bench caller own less =
    let closed = close_leaves bench in
    let first = holder (link_in (after_close bench)).to_remote.receiver in
    let gone = first_gone (after_close bench) first (subst AreOwnUsed (sym closed.callers) own) in
    let callers = (link_in (after_close bench)).callers in
    let all = others_walk (λ at left. AreGone first at callers (link_in left).callers) first (one_gone first callers) CALLERS_MOST (without_one (after_close bench) first) 0 CALLERS_MOST refl gone in
    all.below caller less ∙ ap (λ (callers : List (Option End)). end_after_crash caller (end_of callers caller)) closed.callers
