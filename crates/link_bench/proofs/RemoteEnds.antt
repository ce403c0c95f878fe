-- The callers of the remote end of a closed link end one after the other, and nothing keeps one of them from it.
use Rattle.std.proofs.Common.{◌≡◌, ℕ, suc, ◌+◌, ◌-◌, ◌<◌, ◌==◌, Bool, true, false, cond, Option, Some, None, refl, sym, ap, subst, ◌∙◌, inl, inr, arith}
use Rattle.std.proofs.lemmas.Bool.{cond_both, false≢true}
use Rattle.std.proofs.lemmas.Bool.Decides.{eqb_tells}
use Rattle.std.proofs.lemmas.Option.{none-some, same_Some}
use Rattle.rp_base.specs.declared.kinds.End.{End}
use Rattle.rp_base.specs.declared.kinds.End.TheVariants as side
use Rattle.lane_model.specs.declared.stages.Turn.{Turn}
use Rattle.lane_model.specs.declared.stages.Turn.TheVariants as turn
use Rattle.lane_model.specs.Crashes.{ended_turn, other_holder}
use Rattle.lane_model.specs.Lanes.{has_call, holder}
use Rattle.lane_model.specs.Links.{LinkState, end_of}
use Rattle.lane_model.specs.Recoveries.{without_caller}
use Rattle.channel_bus.specs.Sides.{EndState}
use Rattle.link_bench.specs.Benches.{BenchState, link_in, on_lists}
use Rattle.link_bench.specs.BenchCrashes.{after_reclaim}
use Rattle.link_bench.specs.BenchEnds.{is_first, is_remote, with_fresh_caller, without_other, without_others, without_remote}
use Rattle.link_bench.proofs.Lists.{reclaim_lists}

one_more : (first : Option ℕ) (bench : BenchState) (at left : ℕ) → without_others first bench at (suc left) ≡ without_others first (without_other first bench at) (at + 1) left
unfolding without_others
one_more first bench at left = refl

rest_is : (at end : ℕ) → at < end → end - at ≡ suc (end - (at + 1))
rest_is at end less = omega arith

-- one caller, and then the others
pub others_next : (first : Option ℕ) (bench : BenchState) (at end : ℕ) → at < end → without_others first bench at (end - at) ≡ without_others first (without_other first bench at) (at + 1) (end - (at + 1))
others_next first bench at end less = ap (without_others first bench at) (rest_is at end less) ∙ one_more first bench at (end - (at + 1))

-- no caller is left
pub others_none : (first : Option ℕ) (bench : BenchState) (at : ℕ) → without_others first bench at 0 ≡ bench
unfolding without_others
others_none first bench at = refl

-- a link that is closed, and whose receiver's turn of the remote end nobody has
pub record IsQuiet (link : LinkState EndState) : Type 0 where
  pub shut : link.era.is_live ≡ false
  pub free : holder link.to_remote.receiver ≡ None

-- nobody else has a turn that nobody has
pub free_other : {C : Type 0} (now : Turn C) (caller : ℕ) → holder now ≡ None → other_holder now caller ≡ None
free_other now caller none = cond_both (has_call now caller) None (holder now) (λ (found : Option ℕ). found ≡ None) (λ _. refl) (λ _. none)

-- who has a turn behind the end of a caller is who else had it
ended_holder : {C : Type 0} (now : Turn C) (caller : ℕ) → holder (ended_turn now caller) ≡ other_holder now caller
ended_holder {C} now caller = at (has_call now caller)
  where
    at : (has : Bool) → holder (cond has turn.Free now) ≡ cond has None (holder now)
    at true = refl
    at false = refl

-- no other caller has the turn of a caller
same_call : (other caller : ℕ) → Some other ≡ Some caller → cond (other == caller) None (Some other) ≡ None
same_call other caller same = elim (eqb_tells other caller) [ inl is ↦ ap (λ (has : Bool). cond has None (Some other)) is.0 | inr differ ↦ absurd (differ.1 (same_Some other caller same)) ]

pub own_other : {C : Type 0} (now : Turn C) (caller : ℕ) → caller < 64 → holder now ≡ Some caller → other_holder now caller ≡ None
own_other turn.Free caller low has = absurd (none-some caller has)
own_other (turn.Taken other call) caller low has = same_call other caller has
own_other (turn.Leaving other end) caller low has = same_call other caller has
own_other turn.Manager caller low has = let same : 64 ≡ caller = same_Some 64 caller has in absurd (omega arith)

gone_quiet : (link : LinkState EndState) (found : Option End) (caller : ℕ) → is_remote found ≡ true → link.era.is_live ≡ false → other_holder link.to_remote.receiver caller ≡ None
    → IsQuiet (without_caller on_lists link found caller)
gone_quiet link None caller remote shut none = absurd (false≢true remote)
gone_quiet link (Some side.Host) caller remote shut none = absurd (false≢true remote)
gone_quiet link (Some side.Remote) caller remote shut none = record { shut = shut; free = ended_holder link.to_remote.receiver caller ∙ none }

-- a closed link is quiet behind the end of a caller of its remote end, where nobody else has the receiver's turn
pub end_quiet : (bench : BenchState) (caller : ℕ) → (link_in bench).era.is_live ≡ false → other_holder (link_in bench).to_remote.receiver caller ≡ None
    → is_remote (end_of (link_in bench).callers caller) ≡ true → IsQuiet (link_in (without_remote bench caller))
end_quiet bench caller shut none remote =
    let fresh = with_fresh_caller (after_reclaim bench caller) side.Remote in
    let gone = subst IsQuiet (sym (reclaim_lists bench caller)) (gone_quiet (link_in bench) (end_of (link_in bench).callers caller) caller remote shut none) in
    let left = cond_both (caller == 1) fresh (after_reclaim bench caller) (λ (b : BenchState). IsQuiet (link_in b)) (λ _. record { shut = gone.shut; free = gone.free }) (λ _. gone) in
    subst (λ (is : Bool). IsQuiet (link_in (cond is (cond (caller == 1) fresh (after_reclaim bench caller)) bench))) (sym remote) left

-- a quiet link stays so
pub remote_quiet : (bench : BenchState) (caller : ℕ) → IsQuiet (link_in bench) → IsQuiet (link_in (without_remote bench caller))
remote_quiet bench caller is =
    at (is_remote (end_of (link_in bench).callers caller)) refl
  where
    at : (remote : Bool) → is_remote (end_of (link_in bench).callers caller) ≡ remote → IsQuiet (link_in (without_remote bench caller))
    at true remote = end_quiet bench caller is.shut (free_other (link_in bench).to_remote.receiver caller is.free) remote
    at false other =
        subst (λ (b : Bool). IsQuiet (link_in (cond b (cond (caller == 1) (with_fresh_caller (after_reclaim bench caller) side.Remote) (after_reclaim bench caller)) bench))) (sym other) is

pub other_quiet : (first : Option ℕ) (bench : BenchState) (caller : ℕ) → IsQuiet (link_in bench) → IsQuiet (link_in (without_other first bench caller))
other_quiet first bench caller is =
    cond_both (is_first first caller) bench (without_remote bench caller) (λ (left : BenchState). IsQuiet (link_in left)) (λ _. is) (λ _. remote_quiet bench caller is)
