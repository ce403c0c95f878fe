-- No reclaim of a crash is refused.
use Rattle.std.proofs.Common.{◌≡◌, ℕ, cond, Bool, true, false, Option, Some, None, is_some, option_map, option_and_then, unwrap_or, refl, sym, ap, subst, ◌∙◌, arith}
use Rattle.std.proofs.lemmas.Bool.{cond_both, eq-eqb, false≢true, true≢false}
use Rattle.rp_base.specs.declared.kinds.End.{End}
use Rattle.rp_base.specs.declared.kinds.End.TheVariants as side
use Rattle.lane_model.specs.declared.recoveries.ReclaimRefusal.TheVariants as refusal
use Rattle.lane_model.specs.declared.states.LaneState.{LaneState}
use Rattle.lane_model.specs.declared.stages.Receiving.{Receiving}
use Rattle.lane_model.specs.declared.stages.Turn.{Turn}
use Rattle.lane_model.specs.declared.stages.Turn.TheVariants as turn
use Rattle.lane_model.specs.Crashes.{has_held, needed_holder, other_holder}
use Rattle.lane_model.specs.Lanes.{has_call, holder}
use Rattle.lane_model.specs.Links.{LinkState, end_of, lanes_of}
use Rattle.lane_laws.specs.Moves.{no_handings}
use Rattle.lane_model.specs.Recoveries.{link_reclaim_refusal}
use Rattle.lane_model.specs.Soundness.{IsSoundTurn, SoundLink}
use Rattle.lane_laws.proofs.CrashLaws.{close_sound}
use Rattle.lane_laws.proofs.LinkRuns.{moves_sound}
use Rattle.channel_bus.specs.Sides.{EndState, side_meaning}
use Rattle.link_bench.specs.BenchCrashes.{after_close}
use Rattle.core_laws.specs.BenchMoves.{IsReached}
use Rattle.link_bench.specs.Benches.{BenchState, link_in}
use Rattle.link_bench.specs.BenchEnds.{is_remote, without_one}
use Rattle.link_bench.proofs.CrashWalks.{others_walk}
use Rattle.link_bench.proofs.Lists.{close_lists}
use Rattle.link_bench.proofs.RemoteEnds.{IsQuiet, end_quiet, free_other, other_quiet}
use Rattle.crash_recover.specs.KeptCores.{IsUnmanaged, IsUnmanagedTurn}
use Rattle.crash_recover.proofs.KeptCrashes.{close_leaves, close_shut, no_end}
use Rattle.core_laws.specs.CrashCallers.{crash_reaches}

-- ---- whose reclaim is refused

-- a turn that nobody else has isn't needed of another
unneeded : (state : LaneState EndState) (caller : ℕ) → other_holder state.receiver caller ≡ None → needed_holder state caller ≡ None
unneeded state caller none = cond_both (has_held state.lane.held caller) (other_holder state.receiver caller) None (λ (found : Option ℕ). found ≡ None) (λ _. none) (λ _. refl)

unrefused_at : (link : LinkState EndState) (live : Bool) (found : Option End) (caller : ℕ) → live ≡ false → found ≡ Some side.Remote → needed_holder link.to_remote caller ≡ None
    → cond live (Some (refusal.StillOpen link.era)) (option_map refusal.Busy (option_and_then (λ end. needed_holder (lanes_of link end).incoming caller) found)) ≡ None
unrefused_at link true found caller shut remote none = absurd (true≢false shut)
unrefused_at link false (Some side.Remote) caller shut remote none = ap (option_map refusal.Busy) none
unrefused_at link false (Some side.Host) caller shut remote none = absurd (false≢true (ap is_remote remote))
unrefused_at link false None caller shut remote none = no_end side.Remote remote

unrefused : (link : LinkState EndState) (caller : ℕ) → link.era.is_live ≡ false → end_of link.callers caller ≡ Some side.Remote → other_holder link.to_remote.receiver caller ≡ None
    → link_reclaim_refusal link caller ≡ None
unrefused link caller shut remote none = unrefused_at link link.era.is_live (end_of link.callers caller) caller shut remote (unneeded link.to_remote caller none)

-- who has the receiver's turn of the remote end
record HasTurn (link : LinkState EndState) (caller : ℕ) : Type 0 where
  pub user : end_of link.callers caller ≡ Some side.Remote
  pub has : has_call link.to_remote.receiver caller ≡ true

some_same : {A : Type 0} (one other : A) → Some one ≡ Some other → one ≡ other
some_same one other same = ap (λ found. unwrap_or found one) same

turn_has : (link : LinkState EndState) (now : Turn Receiving) (caller : ℕ) → now ≡ link.to_remote.receiver → IsUnmanagedTurn now → IsSoundTurn link.callers side.Remote now
    → holder now ≡ Some caller → HasTurn link caller
turn_has link turn.Free caller is unmanaged sound held = absurd (true≢false (sym (ap is_some held)))
turn_has link (turn.Taken other call) caller is unmanaged sound held =
    let same = some_same other caller held in
    record { user = subst (λ n. end_of link.callers n ≡ Some side.Remote) same sound; has = subst (λ (now : Turn Receiving). has_call now caller ≡ true) is (eq-eqb other caller same) }
turn_has link (turn.Leaving other ended) caller is unmanaged sound held =
    let same = some_same other caller held in
    record { user = subst (λ n. end_of link.callers n ≡ Some side.Remote) same sound; has = subst (λ (now : Turn Receiving). has_call now caller ≡ true) is (eq-eqb other caller same) }
turn_has link turn.Manager caller is unmanaged sound held = absurd unmanaged

-- a reached link is sound
pub reached_sound : (link : LinkState EndState) → IsReached link → SoundLink link
reached_sound link reached =
    subst (λ (left : LinkState EndState). SoundLink left) reached.came.left (moves_sound side_meaning (no_handings reached.start) reached.came.moves reached.new.sound reached.came.may)

-- ---- no reclaim of a crash is refused

module _ (bench : BenchState) (reached : IsReached (link_in bench)) (unmanaged : IsUnmanaged (link_in bench)) where
  closed_turn : (caller : ℕ) → holder (link_in (after_close bench)).to_remote.receiver ≡ Some caller → HasTurn (link_in (after_close bench)) caller
  closed_turn caller held =
      turn_has (link_in (after_close bench)) (link_in (after_close bench)).to_remote.receiver caller refl ((close_leaves bench).unmanaged unmanaged).to_remote.receiver
      (subst SoundLink (sym (close_lists bench)) (close_sound (link_in bench) (link_in bench).era.inc (reached_sound (link_in bench) reached))).to_remote.receiver held

  own_other : (now : Turn Receiving) (caller : ℕ) → has_call now caller ≡ true → other_holder now caller ≡ None
  own_other now caller has = cond_both (has_call now caller) None (holder now) (λ (found : Option ℕ). found ≡ None) (λ _. refl) (λ other. absurd (true≢false (sym has ∙ other)))

  pub first_unrefused : (caller : ℕ) → holder (link_in (after_close bench)).to_remote.receiver ≡ Some caller
      → (end_of (link_in (after_close bench)).callers caller ≡ Some side.Remote) × (link_reclaim_refusal (link_in (after_close bench)) caller ≡ None)
  first_unrefused caller held =
      let turn_of = closed_turn caller held in
      (turn_of.user, unrefused (link_in (after_close bench)) caller (close_shut bench.rings) turn_of.user (own_other (link_in (after_close bench)).to_remote.receiver caller turn_of.has))

  first_quiet : (first : Option ℕ) → holder (link_in (after_close bench)).to_remote.receiver ≡ first → IsQuiet (link_in (without_one (after_close bench) first))
  first_quiet None none = record { shut = close_shut bench.rings; free = none }
  first_quiet (Some caller) held =
      let turn_of = closed_turn caller held in
      end_quiet (after_close bench) caller (close_shut bench.rings) (own_other (link_in (after_close bench)).to_remote.receiver caller turn_of.has) (ap is_remote turn_of.user)

  pub other_unrefused : (caller : ℕ) → end_of (link_in (crash_reaches bench caller)).callers caller ≡ Some side.Remote → link_reclaim_refusal (link_in (crash_reaches bench caller)) caller ≡ None
  other_unrefused caller remote =
      let first = holder (link_in (after_close bench)).to_remote.receiver in
      let quiet = others_walk (λ at left. IsQuiet (link_in left)) first (λ at left is. other_quiet first left at is) caller (without_one (after_close bench) first) 0 caller (omega arith) (first_quiet first refl) in
      unrefused (link_in (crash_reaches bench caller)) caller quiet.shut remote (free_other (link_in (crash_reaches bench caller)).to_remote.receiver caller quiet.free)
