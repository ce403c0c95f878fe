-- Which boots and handovers start a core.
use Rattle.std.proofs.Common.{◌≡◌, ◌≢◌, ◌↔◌, ◌+◌, ◌==◌, ℕ, Bool, true, false, cond, List, Option, Some, None, Ok, Err, refl, sym, ap, subst, ◌∙◌, eq-eqb}
use Rattle.std.proofs.lemmas.Bool.{eqb-true, true≢false}
use Rattle.std.specs.Option.{option_map}
use Rattle.rp_io.specs.Images.{ImageAnswer}
use Rattle.rp_base.specs.declared.kinds.LifeState.{LifeState}
use Rattle.rp_base.specs.declared.kinds.LifeState.TheVariants.{Offline, Running, Attached, Detached}
use Rattle.fw_load.specs.Loading.{load_fault}
use Rattle.fw_load.specs.declared.faults.LoadFault.{LoadFault}
use Rattle.proc_state.specs.declared.answers.LifeFault.TheVariants as life_fault
use Rattle.proc_state.specs.declared.answers.Power.{Power}
use Rattle.proc_state.specs.declared.answers.Power.TheVariants as power
use Rattle.proc_state.specs.Lives.{CoreLife, Outcome, boot_to, handover_to, is_offline, life_after_boot, life_after_handover, line_of, most, refusal_of}
use Rattle.crash_recover.specs.declared.core_answers.Start.{Start}
use Rattle.crash_recover.specs.declared.core_answers.Start.TheVariants as start
use Rattle.crash_recover.specs.declared.core_faults.StartFault.{StartFault}
use Rattle.crash_recover.specs.declared.core_faults.StartFault.TheVariants as start_fault
use Rattle.crash_recover.specs.Cores.{CoreOutcome, CoreState, refuse_or}
use Rattle.crash_recover.specs.CoreBoots.{boot_as, boot_of, first_boot, handover_as, handover_of, image_fault, load_in, started_core, with_load}
use Rattle.core_laws.specs.FoundImages.{FindsLoadable}

-- ---- an image that was found

faultless : (found : Option LoadFault) → option_map start_fault.Load found ≡ None → found ≡ None
faultless None is = refl
faultless (Some why) is = absurd (cc)

loadable : (core : CoreState) (found : ImageAnswer) → image_fault core found ≡ None → FindsLoadable core found
loadable core (Ok image) is = faultless (load_fault image core.regions) is
loadable core (Err why) is = absurd (cc)

unrefused : (core : CoreState) (found : ImageAnswer) → FindsLoadable core found → image_fault core found ≡ None
unrefused core (Ok image) is = ap (option_map start_fault.Load) is
unrefused core (Err why) is = absurd is

-- a core in one state comes to another by what nothing refuses, and by nothing else
by_refusal : {A : Type 0} (core : CoreState) (from to : LifeState) (refused : Option StartFault) (done : CoreOutcome A StartFault) → core.life.state ≡ from → (from ≡ to → ⊥)
    → done.core.life.state ≡ to → ((refuse_or core refused done).core.life.state ≡ to) ↔ (refused ≡ None)
by_refusal core from to None done was apart is = (λ _. refl, λ _. is)
by_refusal core from to (Some why) done was apart is = (λ now. absurd (apart (sym was ∙ now)), λ none. absurd (cc))

by_image : {A : Type 0} (core : CoreState) (from to : LifeState) (found : ImageAnswer) (done : CoreOutcome A StartFault) → core.life.state ≡ from → (from ≡ to → ⊥)
    → done.core.life.state ≡ to → ((refuse_or core (image_fault core found) done).core.life.state ≡ to) ↔ FindsLoadable core found
by_image core from to found done was apart is =
    let both = by_refusal core from to (image_fault core found) done was apart is in
    (λ now. loadable core found (both.0 now), λ may. both.1 (unrefused core found may))

-- ---- boots

-- a boot of a core in a state from which a boot leads on, and which has an incarnation left
booted_by : (core : CoreState) (name : List ℕ) (found : ImageAnswer) (from to : LifeState) → core.life.state ≡ from → (line_of from).boot ≡ Some to → (core.life.incarnation == most) ≡ false
    → boot_of core name found ≡ first_boot (record core.life { state = to; users = 1; incarnation = core.life.incarnation + 1 }) core name found
unfolding boot_of
booted_by core name found from to is line few =
    let after : life_after_boot core.life ≡ record { life = record core.life { state = to; users = 1; incarnation = core.life.incarnation + 1 }; answer = Ok power.First } =
    ap (λ (state : LifeState). boot_to (line_of state).boot core.life) is
    ∙ ap (λ (leads : Option LifeState). boot_to leads core.life) line
    ∙ ap (λ (spent : Bool). cond spent (refusal_of life_fault.IncarnationsSpent core.life) (record { life = record core.life { state = to; users = 1; incarnation = core.life.incarnation + 1 }; answer = Ok power.First })) few in
    ap (λ (outcome : Outcome Power). boot_as outcome.life outcome.answer core name found) after

-- the same where no incarnation is left
spent_boot : (core : CoreState) (name : List ℕ) (found : ImageAnswer) (from to : LifeState) → core.life.state ≡ from → (line_of from).boot ≡ Some to → (core.life.incarnation == most) ≡ true
    → boot_of core name found ≡ record { core = core; answer = Err (start_fault.Life life_fault.IncarnationsSpent) }
unfolding boot_of
spent_boot core name found from to is line spent =
    let after : life_after_boot core.life ≡ record { life = core.life; answer = Err life_fault.IncarnationsSpent } =
    ap (λ (state : LifeState). boot_to (line_of state).boot core.life) is
    ∙ ap (λ (leads : Option LifeState). boot_to leads core.life) line
    ∙ ap (λ (is_spent : Bool). cond is_spent (refusal_of life_fault.IncarnationsSpent core.life) (record { life = record core.life { state = to; users = 1; incarnation = core.life.incarnation + 1 }; answer = Ok power.First })) spent in
    ap (λ (outcome : Outcome Power). boot_as outcome.life outcome.answer core name found) after

apart_attached : Detached ≡ Attached → ⊥
apart_attached is = cc

unspent : (n : ℕ) → n ≢ most → (n == most) ≡ false
unspent n apart = elim (n == most) as (λ b. (n == most) ≡ b → (n == most) ≡ false) [ true ↦ λ is. absurd (apart (eqb-true n most is)) | false ↦ λ is. is ] refl

pub boots_where : (core : CoreState) (name : List ℕ) (found : ImageAnswer) → core.life.state ≡ Offline → core.life.incarnation ≢ most
    → ((boot_of core name found).core.life.state ≡ Running) ↔ FindsLoadable core found
boots_where core name found is few =
    let life : CoreLife = record core.life { state = Running; users = 1; incarnation = core.life.incarnation + 1 } in
    let done : CoreOutcome Start StartFault = record { core = started_core life (with_load core name (load_in core found)); answer = Ok (start.Running life.incarnation) } in
    let does : boot_of core name found ≡ refuse_or core (image_fault core found) done =
    booted_by core name found Offline Running is refl (unspent core.life.incarnation few)
    ∙ ap (λ (off : Bool). cond off (refuse_or core (image_fault core found) done) (record { core = started_core life core; answer = Ok (start.Attached life.incarnation) })) (ap is_offline is) in
    subst (λ (outcome : CoreOutcome Start StartFault). (outcome.core.life.state ≡ Running) ↔ FindsLoadable core found) (sym does)
    (by_image core Offline Running found done is (λ same. cc) refl)

pub attaches_where : (core : CoreState) (name : List ℕ) (found : ImageAnswer) → core.life.state ≡ Detached
    → ((boot_of core name found).core.life.state ≡ Attached) ↔ (core.life.incarnation ≢ most)
attaches_where core name found is =
    let life : CoreLife = record core.life { state = Attached; users = 1; incarnation = core.life.incarnation + 1 } in
    let given : CoreOutcome Start StartFault = record { core = started_core life core; answer = Ok (start.Attached life.incarnation) } in
    let refused : CoreOutcome Start StartFault = record { core = core; answer = Err (start_fault.Life life_fault.IncarnationsSpent) } in
    let Attaches : CoreOutcome Start StartFault → Type 0 = λ outcome. (outcome.core.life.state ≡ Attached) ↔ (core.life.incarnation ≢ most) in
    let few_attach : (core.life.incarnation == most) ≡ false → Attaches (boot_of core name found) = λ few.
    subst Attaches
    (sym (booted_by core name found Detached Attached is refl few
    ∙ ap (λ (off : Bool). cond off (refuse_or core (image_fault core found) (record { core = started_core life (with_load core name (load_in core found)); answer = Ok (start.Running life.incarnation) })) given) (ap is_offline is)))
    (λ _. λ same. true≢false (sym (eq-eqb core.life.incarnation most same) ∙ few), λ _. refl) in
    let spent_stays : (core.life.incarnation == most) ≡ true → Attaches (boot_of core name found) = λ spent.
    subst Attaches (sym (spent_boot core name found Detached Attached is refl spent))
    (λ now. absurd (apart_attached (sym is ∙ now)), λ few. absurd (few (eqb-true core.life.incarnation most spent))) in
    elim (core.life.incarnation == most) as (λ b. (core.life.incarnation == most) ≡ b → Attaches (boot_of core name found)) [ true ↦ spent_stays | false ↦ few_attach ] refl

pub hands_over_where : (core : CoreState) (name : List ℕ) (found : ImageAnswer) → core.life.state ≡ Offline
    → ((handover_of core name found).core.life.state ≡ Detached) ↔ FindsLoadable core found
unfolding handover_of
hands_over_where core name found is =
    let life : CoreLife = record core.life { state = Detached } in
    let done : CoreOutcome Start StartFault = record { core = record (with_load core name (load_in core found)) { life = life }; answer = Ok start.Detached } in
    let after : life_after_handover core.life ≡ record { life = life; answer = Ok tt } = ap (λ (state : LifeState). handover_to (line_of state).handover core.life) is in
    subst (λ (outcome : CoreOutcome Start StartFault). (outcome.core.life.state ≡ Detached) ↔ FindsLoadable core found)
    (sym (ap (λ (outcome : Outcome (Unit {0})). handover_as outcome.life outcome.answer core name found) after))
    (by_image core Offline Detached found done is (λ same. cc) refl)
