-- The link of a core whose life begins is empty, in the next incarnation of that life.
use Rattle.std.proofs.Common.{◌≡◌, ◌+◌, ◌==◌, ℕ, true, List, Option, Some, None, IfSome, Ok, refl, sym, ap, subst, ◌∙◌}
use Rattle.std.specs.Option.{option_map}
use Rattle.std.proofs.lemmas.Bool.{cond_both, true≢false}
use Rattle.rp_io.specs.Images.{ImageAnswer}
use Rattle.rp_base.specs.declared.kinds.End.{End}
use Rattle.rp_base.specs.declared.kinds.End.TheVariants as side
use Rattle.rp_base.specs.declared.kinds.LifeState.{LifeState}
use Rattle.fw_load.specs.declared.rings.RingPair.{RingPair}
use Rattle.lane_model.specs.declared.recoveries.ReclaimRefusal.{ReclaimRefusal}
use Rattle.lane_model.specs.Links.{end_of}
use Rattle.lane_model.specs.Recoveries.{link_reclaim_refusal, without_caller}
use Rattle.proc_state.specs.declared.answers.LifeFault.TheVariants as life_fault
use Rattle.proc_state.specs.declared.answers.Power.TheVariants as power
use Rattle.proc_state.specs.Lives.{CoreLife, Outcome, boot_to, first_start, life_after_boot, line_of, most, refusal_of}
use Rattle.link_bench.specs.Benches.{BenchState, LinkRings, link_in, on_rings}
use Rattle.link_bench.specs.BenchCrashes.{after_reopen}
use Rattle.link_bench.specs.BenchEnds.{bench_to_reopen, with_new_host_unless}
use Rattle.crash_recover.specs.declared.core_answers.Start.{Start}
use Rattle.crash_recover.specs.declared.core_answers.Start.TheVariants as start
use Rattle.crash_recover.specs.declared.core_faults.StartFault.{StartFault}
use Rattle.core_actors.specs.Actors.{driver_names}
use Rattle.crash_recover.specs.Cores.{CoreOutcome, CoreState, IsKeptCore, loaded_rings}
use Rattle.crash_recover.specs.CoreBoots.{boot_of, core_bench, load_in, started_core, with_load}
use Rattle.crash_recover.specs.CoreRecoveries.{recovery_of}
use Rattle.crash_recover.specs.KeptCores.{IsKeptBench}
use Rattle.crash_recover.proofs.Restarts.{restarts}
use Rattle.crash_recover.proofs.SameLives.{no_first}
use Rattle.core_laws.proofs.CallOutcomes.{Attaches, BootOutcome, NoBoot, NoImage, NoRecovery, NoReload, NoReopening, OneMore, RecoveryOutcome, Restarts, Runs, boot_outcome, recovery_outcome}
use Rattle.core_laws.specs.Beginnings.{BeginsEmpty, BeginsLife, ReopensNext, begins_life}

-- ---- links

-- a new link of a core
core_bench_empty : (names : List (List ℕ)) (book first : ℕ) (rings : RingPair) → BeginsEmpty first (core_bench names book first rings)
unfolding core_bench
core_bench_empty names book first rings = record {
  incarnation = refl;
  live = refl;
  to_host = record { accepted = refl; takers = refl; held = refl; returned = refl; sender = refl; receiver = refl };
  to_remote = record { accepted = refl; takers = refl; held = refl; returned = refl; sender = refl; receiver = refl };
}

linked_empty : (names : List (List ℕ)) (book first : ℕ) (rings : Option RingPair) → IfSome (option_map (core_bench names book first) rings) (BeginsEmpty first)
linked_empty names book first None = tt
linked_empty names book first (Some rings) = core_bench_empty names book first rings

-- a link that is reopened
pub reopened_empty : (bench : BenchState) → BeginsEmpty ((link_in bench).era.inc + 1) (after_reopen bench)
reopened_empty bench = record {
  incarnation = refl;
  live = refl;
  to_host = record { accepted = refl; takers = refl; held = refl; returned = refl; sender = refl; receiver = refl };
  to_remote = record { accepted = refl; takers = refl; held = refl; returned = refl; sender = refl; receiver = refl };
}

-- a reclaim leaves the incarnation as it is
reclaim_same : (rings : LinkRings) (found : Option End) (caller : ℕ) → (without_caller on_rings rings found caller).era ≡ rings.era
reclaim_same rings None caller = refl
reclaim_same rings (Some side.Host) caller = refl
reclaim_same rings (Some side.Remote) caller = refl

renewed_same : (bench : BenchState) (why : Option ReclaimRefusal) → (link_in (with_new_host_unless bench why)).era ≡ (link_in bench).era
renewed_same bench None = reclaim_same bench.rings (end_of (link_in bench).callers 0) 0
renewed_same bench (Some why) = refl

readied_next : (found : Option BenchState) → ReopensNext found (option_map (λ (bench : BenchState). after_reopen (bench_to_reopen bench)) found)
readied_next None = refl
readied_next (Some bench) =
    subst (λ (inc : ℕ). BeginsEmpty (inc + 1) (after_reopen (bench_to_reopen bench))) (ap (λ era. era.inc) (renewed_same bench (link_reclaim_refusal (link_in bench) 0)))
    (reopened_empty (bench_to_reopen bench))

-- the link behind one that is in the incarnation of a life
kept_next : (life : CoreLife) (found : Option BenchState) → IfSome found (IsKeptBench life)
    → IfSome (option_map (λ (bench : BenchState). after_reopen (bench_to_reopen bench)) found) (BeginsEmpty (life.incarnation + 1))
kept_next life None kept = tt
kept_next life (Some bench) kept = subst (λ (inc : ℕ). BeginsEmpty (inc + 1) (after_reopen (bench_to_reopen bench))) kept.inc (readied_next (Some bench))

-- ---- lives

-- a life that starts is in its next incarnation
first_next : {A : Type 0} (state : LifeState) (users : ℕ) (told done : A) (life : CoreLife) → (first_start state users told life).answer ≡ Ok done
    → (first_start state users told life).life.incarnation ≡ life.incarnation + 1
first_next {A} state users told done life =
    cond_both (life.incarnation == most) (refusal_of life_fault.IncarnationsSpent life) _ (λ (out : Outcome A). out.answer ≡ Ok done → out.life.incarnation ≡ life.incarnation + 1)
    (λ _ is. absurd (cc)) (λ _ is. refl)

boot_next : (to : Option LifeState) (life : CoreLife) → (boot_to to life).answer ≡ Ok power.First → (boot_to to life).life.incarnation ≡ life.incarnation + 1
boot_next None life is = absurd (no_first life is)
boot_next (Some state) life is = first_next state 1 power.First power.First life is

-- ---- cores

-- where a life begins with this outcome, this holds of its core
abbrev pub Begun : (CoreState → Type 0) → CoreOutcome Start StartFault → Type 0
Begun Q outcome = (did : Start) → begins_life did ≡ true → outcome.answer ≡ Ok did → Q outcome.core

-- a core that a boot starts is in the next incarnation of its life, and so is its link
begins_in : (core loaded : CoreState) → (life_after_boot core.life).answer ≡ Ok power.First → BeginsLife (core.life.incarnation + 1) (started_core (life_after_boot core.life).life loaded)
begins_in core loaded first =
    let next = boot_next (line_of core.life.state).boot core.life first in
    record {
      life = next;
      link = subst (λ (inc : ℕ). IfSome (option_map (core_bench (driver_names loaded.actors) loaded.book (life_after_boot core.life).life.incarnation) (loaded_rings loaded.loaded)) (BeginsEmpty inc)) next
          (linked_empty (driver_names loaded.actors) loaded.book (life_after_boot core.life).life.incarnation (loaded_rings loaded.loaded));
    }

users_begin_none : (users : ℕ) (did : Start) → begins_life did ≡ true → start.Users users ≡ did → ⊥
users_begin_none users did begins same = true≢false (sym (ap begins_life same ∙ begins))

boot_comes : (core : CoreState) (name : List ℕ) (found : ImageAnswer) {out : CoreOutcome Start StartFault} → BootOutcome core name found out → Begun (BeginsLife (core.life.incarnation + 1)) out
boot_comes core name found (NoBoot why) did begins is = absurd (cc)
boot_comes core name found (NoImage why refuses) did begins is = absurd (cc)
boot_comes core name found (OneMore users answer) did begins is = let same : start.Users users ≡ did = cc in absurd (users_begin_none users did begins same)
boot_comes core name found (Runs first off clear) did begins is = begins_in core (with_load core name (load_in core found)) first
boot_comes core name found (Attaches first on) did begins is = begins_in core core first

pub boot_begins : (core : CoreState) (name : List ℕ) (found : ImageAnswer) → Begun (BeginsLife (core.life.incarnation + 1)) (boot_of core name found)
boot_begins core name found = boot_comes core name found (boot_outcome core name found)

reopening_comes : (core : CoreState) (found : ImageAnswer) {out : CoreOutcome Start StartFault} → RecoveryOutcome core found out → Begun (λ (after : CoreState). ReopensNext core.bench after.bench) out
reopening_comes core found (NoRecovery why is_so) did begins is = absurd (cc)
reopening_comes core found (NoReload why may is_so) did begins is = absurd (cc)
reopening_comes core found (NoReopening why may loads is_so) did begins is = absurd (cc)
reopening_comes core found (Restarts may loads opens) did begins is = readied_next core.bench

pub recovery_reopens : (core : CoreState) (found : ImageAnswer) → Begun (λ (after : CoreState). ReopensNext core.bench after.bench) (recovery_of core found)
recovery_reopens core found = reopening_comes core found (recovery_outcome core found)

recovery_comes : (core : CoreState) (found : ImageAnswer) {out : CoreOutcome Start StartFault} → RecoveryOutcome core found out → IsKeptCore core → Begun (BeginsLife (core.life.incarnation + 1)) out
recovery_comes core found (NoRecovery why is_so) kept did begins is = absurd (cc)
recovery_comes core found (NoReload why may is_so) kept did begins is = absurd (cc)
recovery_comes core found (NoReopening why may loads is_so) kept did begins is = absurd (cc)
recovery_comes core found (Restarts may loads opens) kept did begins is = record {
  life = ap (λ (life : CoreLife). life.incarnation) (restarts core opens);
  link = kept_next core.life core.bench kept;
}

pub recovery_begins : (core : CoreState) (found : ImageAnswer) → IsKeptCore core → Begun (BeginsLife (core.life.incarnation + 1)) (recovery_of core found)
recovery_begins core found kept = recovery_comes core found (recovery_outcome core found) kept
