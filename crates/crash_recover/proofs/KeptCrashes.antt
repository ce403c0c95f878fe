-- A crash and a renewal of the host's caller keep what a core's link keeps.
use Rattle.std.proofs.Common.{◌≡◌, ◌≢◌, ℕ, zero, suc, eqb, cond, Bool, true, false, ◌&&◌, List, [], ◌∷◌, Option, Some, None, is_some, length, slice_set, refl, sym, ap, subst, ◌∙◌, inl, inr, arith}
use Rattle.std.proofs.lemmas.Bool.{cond_both, lt-ltb, false≢true, true≢false}
use Rattle.std.proofs.lemmas.Bool.Decides.{eqb_tells}
use Rattle.rp_base.specs.declared.kinds.End.{End}
use Rattle.rp_base.specs.declared.kinds.End.TheVariants as side
use Rattle.proc_state.specs.Lives.{CoreLife, is_up}
use Rattle.lane_model.specs.declared.stages.Turn.{Turn}
use Rattle.lane_model.specs.declared.stages.Turn.TheVariants as turn
use Rattle.lane_model.specs.Crashes.{ended_turn}
use Rattle.lane_model.specs.Forms.{list_form}
use Rattle.lane_model.specs.Lanes.{has_call, is_live_in}
use Rattle.lane_model.specs.Links.{LinkState, end_of, free_number, with_caller}
use Rattle.lane_model.specs.Recoveries.{link_after_close, without_caller}
use Rattle.lane_model.proofs.CrashMay.{freed}
use Rattle.channel_bus.specs.Sides.{EndState, side_meaning}
use Rattle.link_bench.specs.BenchCrashes.{after_close, after_reclaim}
use Rattle.link_bench.specs.Benches.{BenchState, LinkRings, link_in}
use Rattle.link_bench.specs.BenchEnds.{crashed_bench, is_remote, with_fresh_caller, without_remote}
use Rattle.link_bench.proofs.CrashWalks.{crash_walk}
use Rattle.link_bench.proofs.Lists.{close_lists, reclaim_lists}
use Rattle.core_actors.specs.PendingCalls.{AreOwnUsed}
use Rattle.crash_recover.specs.KeptCores.{IsKeptBench, IsKeptLink, IsUnmanaged, IsUnmanagedTurn}

-- ---- numbers of callers

pub no_end : {A : Type 0} (end : End) → None ≡ Some end → A
no_end end is = absurd (true≢false (sym (ap is_some is)))

-- a number is free where those below it are in use
free_first : (callers : List (Option End)) → free_number (None ∷ callers) ≡ Some 0
free_first callers = ap (λ (within : Bool). cond within (Some 0) None) (lt-ltb 0 (suc (length callers)) (omega arith))

free_second : (end : End) (callers : List (Option End)) → free_number (Some end ∷ None ∷ callers) ≡ Some 1
free_second end callers = ap (λ (within : Bool). cond within (Some 1) None) (lt-ltb 1 (suc (suc (length callers))) (omega arith))

-- where a core's own number is freed, it is the least free one, so a new caller gets it
pub host_again : (callers : List (Option End)) → AreOwnUsed callers
    → with_caller (slice_set callers 0 None) side.Host (free_number (slice_set callers 0 None)) ≡ callers
host_again [] own = no_end side.Host own.host
host_again (None ∷ callers) own = no_end side.Host own.host
host_again (Some end ∷ callers) own =
    ap (with_caller (None ∷ callers) side.Host) (free_first callers) ∙ ap (λ (found : Option End). found ∷ callers) (sym own.host)

pub remote_again : (callers : List (Option End)) → AreOwnUsed callers
    → with_caller (slice_set callers 1 None) side.Remote (free_number (slice_set callers 1 None)) ≡ callers
remote_again [] own = no_end side.Host own.host
remote_again (None ∷ callers) own = no_end side.Host own.host
remote_again (Some end ∷ []) own = no_end side.Remote own.remote
remote_again (Some end ∷ None ∷ callers) own = no_end side.Remote own.remote
remote_again (Some end ∷ Some other ∷ callers) own =
    ap (with_caller (Some end ∷ None ∷ callers) side.Remote) (free_second end callers) ∙ ap (λ (found : Option End). Some end ∷ found ∷ callers) (sym own.remote)

-- a number that is freed is not in use
pub cleared : (callers : List (Option End)) (caller : ℕ) → end_of (slice_set callers caller None) caller ≡ None
cleared [] caller = refl
cleared (found ∷ callers) zero = refl
cleared (found ∷ callers) (suc caller) = cleared callers caller

pub is_remote_end : (found : Option End) → is_remote found ≡ true → found ≡ Some side.Remote
is_remote_end None is = absurd (false≢true is)
is_remote_end (Some side.Host) is = absurd (false≢true is)
is_remote_end (Some side.Remote) is = refl

pub host_is_no_remote : (callers : List (Option End)) (caller : ℕ) → AreOwnUsed callers → is_remote (end_of callers caller) ≡ true → caller ≢ 0
host_is_no_remote callers caller own is = λ same.
    let other : is_remote (end_of callers 0) ≡ false = ap is_remote own.host in
    absurd (false≢true (sym other ∙ ap (λ n. is_remote (end_of callers n)) (sym same) ∙ is))

-- ---- a reclaim

ended_unmanaged : {C : Type 0} (now : Turn C) (caller : ℕ) → IsUnmanagedTurn now → IsUnmanagedTurn (ended_turn now caller)
ended_unmanaged {C} now caller is = cond_both (has_call now caller) turn.Free now (λ (left : Turn C). IsUnmanagedTurn left) (λ _. tt) (λ _. is)

gone_unmanaged : (link : LinkState EndState) (found : Option End) (caller : ℕ) → IsUnmanaged link
    → IsUnmanaged (without_caller (list_form side_meaning) link found caller)
gone_unmanaged link (Some side.Host) caller is = record {
  to_host = record { sender = is.to_host.sender; receiver = ended_unmanaged link.to_host.receiver caller is.to_host.receiver };
  to_remote = record { sender = ended_unmanaged link.to_remote.sender caller is.to_remote.sender; receiver = is.to_remote.receiver };
}
gone_unmanaged link (Some side.Remote) caller is = record {
  to_host = record { sender = ended_unmanaged link.to_host.sender caller is.to_host.sender; receiver = is.to_host.receiver };
  to_remote = record { sender = is.to_remote.sender; receiver = ended_unmanaged link.to_remote.receiver caller is.to_remote.receiver };
}
gone_unmanaged link None caller is = is

module _ (life : CoreLife) where
  gone_at : (link : LinkState EndState) (found : Option End) (caller : ℕ) → caller ≢ 0 → caller ≢ 1 → IsKeptLink life link
      → IsKeptLink life (without_caller (list_form side_meaning) link found caller)
  gone_at link (Some side.Host) caller no_host no_remote is = record {
    unmanaged = gone_unmanaged link (Some side.Host) caller is.unmanaged;
    own = record { host = freed link.callers caller 0 no_host ∙ is.own.host; remote = freed link.callers caller 1 no_remote ∙ is.own.remote };
    inc = is.inc;
    live = is.live;
  }
  gone_at link (Some side.Remote) caller no_host no_remote is = record {
    unmanaged = gone_unmanaged link (Some side.Remote) caller is.unmanaged;
    own = record { host = freed link.callers caller 0 no_host ∙ is.own.host; remote = freed link.callers caller 1 no_remote ∙ is.own.remote };
    inc = is.inc;
    live = is.live;
  }
  gone_at link None caller no_host no_remote is = is

  -- a caller of another than the core itself is gone
  pub gone_kept : (bench : BenchState) (caller : ℕ) → caller ≢ 0 → caller ≢ 1 → IsKeptBench life bench → IsKeptBench life (after_reclaim bench caller)
  gone_kept bench caller no_host no_remote is =
      subst (IsKeptLink life) (sym (reclaim_lists bench caller)) (gone_at (link_in bench) (end_of (link_in bench).callers caller) caller no_host no_remote is)

  host_at : (link : LinkState EndState) (found : Option End) → found ≡ Some side.Host → IsKeptLink life link
      → let left = without_caller (list_form side_meaning) link found 0 in
      IsKeptLink life (record left { callers = with_caller left.callers side.Host (free_number left.callers) })
  host_at link (Some side.Host) found is = record {
    unmanaged = let left = gone_unmanaged link (Some side.Host) 0 is.unmanaged in record { to_host = left.to_host; to_remote = left.to_remote };
    own = subst AreOwnUsed (sym (host_again link.callers is.own)) is.own;
    inc = is.inc;
    live = is.live;
  }
  host_at link (Some side.Remote) found is = absurd (true≢false (ap is_remote found))
  host_at link None found is = no_end side.Host found

  remote_at : (link : LinkState EndState) (found : Option End) → found ≡ Some side.Remote → IsKeptLink life link
      → let left = without_caller (list_form side_meaning) link found 1 in
      IsKeptLink life (record left { callers = with_caller left.callers side.Remote (free_number left.callers) })
  remote_at link (Some side.Remote) found is = record {
    unmanaged = let left = gone_unmanaged link (Some side.Remote) 1 is.unmanaged in record { to_host = left.to_host; to_remote = left.to_remote };
    own = subst AreOwnUsed (sym (remote_again link.callers is.own)) is.own;
    inc = is.inc;
    live = is.live;
  }
  remote_at link (Some side.Host) found is = absurd (false≢true (ap is_remote found))
  remote_at link None found is = no_end side.Remote found

  -- a core's own caller is gone, and made anew
  pub host_renewed : (bench : BenchState) → IsKeptBench life bench → IsKeptBench life (with_fresh_caller (after_reclaim bench 0) side.Host)
  host_renewed bench is =
      subst (λ (left : LinkState EndState). IsKeptLink life (record left { callers = with_caller left.callers side.Host (free_number left.callers) })) (sym (reclaim_lists bench 0))
      (host_at (link_in bench) (end_of (link_in bench).callers 0) is.own.host is)

  remote_renewed : (bench : BenchState) → IsKeptBench life bench → IsKeptBench life (with_fresh_caller (after_reclaim bench 1) side.Remote)
  remote_renewed bench is =
      subst (λ (left : LinkState EndState). IsKeptLink life (record left { callers = with_caller left.callers side.Remote (free_number left.callers) })) (sym (reclaim_lists bench 1))
      (remote_at (link_in bench) (end_of (link_in bench).callers 1) is.own.remote is)

  -- ---- a crash

  remote_kept : (bench : BenchState) (caller : ℕ) → IsKeptBench life bench → IsKeptBench life (without_remote bench caller)
  remote_kept bench caller is =
      cond_both (is_remote (end_of (link_in bench).callers caller))
      (cond (eqb caller 1) (with_fresh_caller (after_reclaim bench caller) side.Remote) (after_reclaim bench caller)) bench (IsKeptBench life)
      (λ remote. elim (eqb_tells caller 1) [
        | inl one ↦ subst (λ (is_one : Bool). IsKeptBench life (cond is_one (with_fresh_caller (after_reclaim bench caller) side.Remote) (after_reclaim bench caller))) (sym one.0)
            (subst (λ n. IsKeptBench life (with_fresh_caller (after_reclaim bench n) side.Remote)) (sym one.1) (remote_renewed bench is))
        | inr other ↦ subst (λ (is_one : Bool). IsKeptBench life (cond is_one (with_fresh_caller (after_reclaim bench caller) side.Remote) (after_reclaim bench caller))) (sym other.0)
            (gone_kept bench caller (host_is_no_remote (link_in bench).callers caller is.own remote) other.1 is)
      ]) (λ _. is)

-- ---- the close of a crash

-- an era that is closed as to its own incarnation is closed
own_era : (inc : ℕ) (live : Bool) → eqb inc inc && live ≡ false → live ≡ false
own_era inc live none = elim (eqb_tells inc inc) [ inl same ↦ subst (λ (is : Bool). is && live ≡ false) same.0 none | inr other ↦ absurd (other.1 refl) ]

pub close_shut : (link : LinkRings) → (link_after_close link link.era.inc).era.is_live ≡ false
close_shut link =
    cond_both (is_live_in link.era link.era.inc) (record link { era = record { inc = link.era.inc; is_live = false } }) link
    (λ (left : LinkRings). left.era.is_live ≡ false) (λ _. refl) (λ none. own_era link.era.inc link.era.is_live none)

-- a close leaves the incarnation, the callers and the lanes
pub record IsClosed (before after : LinkState EndState) : Type 0 where
  pub inc : after.era.inc ≡ before.era.inc
  pub callers : after.callers ≡ before.callers
  pub unmanaged : IsUnmanaged before → IsUnmanaged after

close_is : (link : LinkState EndState) → IsClosed link (link_after_close link link.era.inc)
close_is link =
    cond_both (is_live_in link.era link.era.inc) (record link { era = record { inc = link.era.inc; is_live = false } }) link (IsClosed link)
    (λ _. record { inc = refl; callers = refl; unmanaged = λ is. record { to_host = is.to_host; to_remote = is.to_remote } })
    (λ _. record { inc = refl; callers = refl; unmanaged = λ is. is })

pub close_leaves : (bench : BenchState) → IsClosed (link_in bench) (link_in (after_close bench))
close_leaves bench = subst (IsClosed (link_in bench)) (sym (close_lists bench)) (close_is (link_in bench))

-- the link of a core that crashed
pub crash_kept : (before after : CoreLife) (bench : BenchState) → after.incarnation ≡ before.incarnation → is_up after.state ≡ false
    → IsKeptBench before bench → IsKeptBench after (crashed_bench bench)
crash_kept before after bench same stopped is =
    let closed = close_leaves bench in
    crash_walk (IsKeptBench after) (remote_kept after) bench (record {
      unmanaged = closed.unmanaged is.unmanaged;
      own = subst AreOwnUsed (sym closed.callers) is.own;
      inc = closed.inc ∙ is.inc ∙ sym same;
      live = close_shut bench.rings ∙ sym stopped;
    })
