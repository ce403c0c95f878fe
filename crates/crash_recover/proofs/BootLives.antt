-- Which boots need an image, and what they do with one and without.
use Rattle.std.proofs.Common.{◌≡◌, ◌==◌, ◌&&◌, ℕ, Bool, true, false, cond, List, None, Ok, Err, Result, refl, sym, ap, ◌∙◌}
use Rattle.std.proofs.lemmas.Bool.{and_parts, cond_both, true≢false}
use Rattle.std.specs.Result.{is_ok}
use Rattle.rp_io.specs.Images.{ImageAnswer}
use Rattle.rp_base.specs.declared.kinds.LifeState.{LifeState}
use Rattle.rp_base.specs.declared.kinds.LifeState.TheVariants.{Offline, Running, Crashed, Attached, Detached}
use Rattle.proc_state.specs.Lives.{CoreLife, Outcome, boot_to, is_offline, life_after_boot, line_of, most, refusal_of}
use Rattle.proc_state.specs.declared.answers.LifeFault.{LifeFault}
use Rattle.proc_state.specs.declared.answers.LifeFault.TheVariants as life_fault
use Rattle.proc_state.specs.declared.answers.Power.{Power}
use Rattle.proc_state.specs.declared.answers.Power.TheVariants as power
use Rattle.crash_recover.specs.declared.core_answers.Boot.TheVariants as boot
use Rattle.crash_recover.specs.declared.core_answers.Start.{Start}
use Rattle.crash_recover.specs.declared.core_answers.Start.TheVariants as start
use Rattle.crash_recover.specs.declared.core_faults.StartFault.{StartFault}
use Rattle.crash_recover.specs.declared.core_faults.StartFault.TheVariants as start_fault
use Rattle.crash_recover.specs.Cores.{CoreOutcome, CoreState, LoadState, refuse_or}
use Rattle.crash_recover.specs.CoreBoots.{BeginsBoot, boot_as, boot_of, image_fault, load_in, needs_image, started_core, with_load}

unneeded_at : (state : LifeState) (life : CoreLife) → ((boot_to (line_of state).boot life).answer ≡ Ok power.First → ⊥) → (is_offline state && is_ok (boot_to (line_of state).boot life).answer) ≡ false
unneeded_at Offline life apart =
    cond_both (life.incarnation == most) (refusal_of life_fault.IncarnationsSpent life) _ (λ (out : Outcome Power). (out.answer ≡ Ok power.First → ⊥) → is_ok out.answer ≡ false)
    (λ _ _. refl) (λ _ none. absurd (none refl)) apart
unneeded_at Running life apart = refl
unneeded_at Crashed life apart = refl
unneeded_at Attached life apart = refl
unneeded_at Detached life apart = refl

-- a boot that starts no core needs none
pub unneeded : (life : CoreLife) → ((life_after_boot life).answer ≡ Ok power.First → ⊥) → (is_offline life.state && is_ok (life_after_boot life).answer) ≡ false
unneeded life apart = unneeded_at life.state life apart

-- ---- what a boot does with an image that is loaded

runs_at : (state : LifeState) (core : CoreState) (name : List ℕ) (found : ImageAnswer) → core.life.state ≡ state → is_offline state ≡ true → is_ok (boot_to (line_of state).boot core.life).answer ≡ true → image_fault core found ≡ None
    → (boot_as (boot_to (line_of state).boot core.life).life (boot_to (line_of state).boot core.life).answer core name found).core
    ≡ started_core (boot_to (line_of state).boot core.life).life (with_load core name (load_in core found))
runs_at Offline core name found there off more fits =
    cond_both (core.life.incarnation == most) (refusal_of life_fault.IncarnationsSpent core.life) _
    (λ (out : Outcome Power). is_ok out.answer ≡ true → (boot_as out.life out.answer core name found).core ≡ started_core out.life (with_load core name (load_in core found)))
    (λ _ ok. absurd (true≢false (sym ok))) (λ _ _. rw (ap is_offline there) (rw fits refl)) more
runs_at Running core name found there off more fits = absurd (true≢false (sym off))
runs_at Crashed core name found there off more fits = absurd (true≢false (sym off))
runs_at Attached core name found there off more fits = absurd (true≢false (sym off))
runs_at Detached core name found there off more fits = absurd (true≢false (sym off))

pub boot_runs : (core left : CoreState) (name : List ℕ) (found : ImageAnswer) (life : CoreLife) (given : LoadState) → needs_image core ≡ true → life ≡ (life_after_boot core.life).life
    → None ≡ image_fault core found → given ≡ load_in core found → left ≡ started_core life (with_load core name given) → left ≡ (boot_of core name found).core
unfolding boot_of
boot_runs core left name found life given needs lives fits is starts =
    let both = and_parts (is_offline core.life.state) (is_ok (life_after_boot core.life).answer) needs in
    starts
    ∙ ap (λ (life : CoreLife). started_core life (with_load core name given)) lives
    ∙ ap (λ (given : LoadState). started_core (life_after_boot core.life).life (with_load core name given)) is
    ∙ sym (runs_at core.life.state core name found refl both.0 both.1 (sym fits))

-- ---- what a boot does without an image

-- the life of the core refuses it
pub begins_refused : (core : CoreState) (why : LifeFault) → (life_after_boot core.life).answer ≡ Err why → BeginsBoot core core (boot.Done (Err (start_fault.Life why)))
unfolding boot_of
begins_refused core why is =
    (unneeded core.life (λ first. absurd (cc)), refl, λ name found. ap (λ (answer : Result Power LifeFault). boot_as (life_after_boot core.life).life answer core name found) is)

-- it counts a user
pub begins_counted : (core : CoreState) (users : ℕ) → (life_after_boot core.life).answer ≡ Ok (power.Counted users)
    → BeginsBoot core (record core { life = (life_after_boot core.life).life }) (boot.Done (Ok (start.Users users)))
unfolding boot_of
begins_counted core users is =
    (unneeded core.life (λ first. absurd (cc)), tt, λ name found. ap (λ (answer : Result Power LifeFault). boot_as (life_after_boot core.life).life answer core name found) is)

-- it attaches to a core that is loaded
pub begins_attached : (core left : CoreState) (did : Start) → (life_after_boot core.life).answer ≡ Ok power.First → is_offline core.life.state ≡ false
    → did ≡ start.Attached (life_after_boot core.life).life.incarnation → left ≡ started_core (life_after_boot core.life).life core → BeginsBoot core left (boot.Done (Ok did))
unfolding boot_of
begins_attached core left did is loaded told starts =
    let life = (life_after_boot core.life).life in
    let End : CoreState → Start → CoreOutcome Start StartFault = λ after did. record { core = after; answer = Ok did } in (
      ap (λ (off : Bool). off && is_ok (life_after_boot core.life).answer) loaded,
      tt,
      λ name found. ap (λ (answer : Result Power LifeFault). boot_as life answer core name found) is
          ∙ ap (λ (off : Bool). cond off (refuse_or core (image_fault core found) (End (started_core life (with_load core name (load_in core found))) (start.Running life.incarnation)))
          (End (started_core life core) (start.Attached life.incarnation))) loaded
          ∙ ap (λ (after : CoreState). End after (start.Attached life.incarnation)) (sym starts) ∙ ap (End left) (sym told),
    )
