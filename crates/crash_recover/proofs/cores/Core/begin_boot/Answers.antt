use Rattle.std.proofs.Common.{◌≡◌, ◌⊎◌, false, inl, inr, Ok, sym, ap, subst, ◌∙◌}
use Rattle.rp_base.specs.declared.kinds.LifeState.{LifeState}
use Rattle.rp_base.specs.declared.kinds.LifeState.TheVariants as state
use Rattle.proc_state.specs.declared.answers.Power.{Power}
use Rattle.proc_state.specs.declared.answers.Power.TheVariants as power
use Rattle.proc_state.specs.Lives.{CoreLife, is_offline, life_after_boot}
use Rattle.crash_recover.specs.declared.core_answers.Boot.TheVariants as boot
use Rattle.crash_recover.specs.declared.core_answers.Start.TheVariants as start
use Rattle.crash_recover.specs.Cores.{CoreState}
use Rattle.crash_recover.specs.CoreBoots.{BeginsBoot, started_core}
use Rattle.crash_recover.proofs.BootLives.{begins_attached, begins_counted, begins_refused}
use Rattle.crash_recover.proofs.cores.Core.begin_boot.Goals as goal

pub returns-in-Err-clause-begun : goal.returns-in-Err-clause-begun
returns-in-Err-clause-begun c =
    let core = c.args.self.now in
    let why = c.in-Err.fault in
    let life_is : c.copy-life.result ≡ core.life = c.copy-life.ensures ∙ ap (λ (core : CoreState). core.life) c.self.view_is in
    begins_refused core why (sym (c.in-Err.ensures.answer ∙ ap (λ (life : CoreLife). (life_after_boot life).answer) life_is))

pub returns-in-Ok-Counted-clause-begun : goal.returns-in-Ok-Counted-clause-begun
returns-in-Ok-Counted-clause-begun c =
    let core = c.args.self.now in
    let users = c.in-Ok-Counted.users in
    let life_is : c.copy-life.result ≡ core.life = c.copy-life.ensures ∙ ap (λ (core : CoreState). core.life) c.self.view_is in
    let is : (life_after_boot core.life).answer ≡ Ok (power.Counted users) =
    sym (c.in-Ok-Counted.ensures.answer ∙ ap (λ (life : CoreLife). (life_after_boot life).answer) life_is) ∙ ap (λ (did : Power). Ok did) c.in-Ok-Counted.field-0-is in
    subst (λ (left : CoreState). BeginsBoot core left (boot.Done (Ok (start.Users users))))
    (sym (ap (λ (core : CoreState). record core { life = c.boot.new.self }) c.self.view_is
    ∙ ap (λ (life : CoreLife). record core { life = life }) (c.boot.ensures.left ∙ ap (λ (life : CoreLife). (life_after_boot life).life) life_is)))
    (begins_counted core users is)

-- a core that isn't offline is loaded
is_loaded : (now : LifeState) → (now ≡ state.Running) ⊎ ((now ≡ state.Crashed) ⊎ ((now ≡ state.Attached) ⊎ (now ≡ state.Detached))) → is_offline now ≡ false
is_loaded now is = elim is [
  | inl running ↦ ap is_offline running
  | inr other ↦ elim other [
    | inl crashed ↦ ap is_offline crashed
    | inr third ↦ elim third [ inl attached ↦ ap is_offline attached | inr detached ↦ ap is_offline detached ]
  ]
]

pub returns-in_ok-attach-in-Running : goal.returns-in_ok-attach-in-Running
returns-in_ok-attach-in-Running c =
    let core = c.args.self.now in
    let did = c.in_ok-attach-in-Running in
    let life_is : c.copy-life.result ≡ core.life = c.copy-life.ensures ∙ ap (λ (core : CoreState). core.life) c.self.view_is in
    let left_is : c.boot.new.self ≡ (life_after_boot core.life).life = c.boot.ensures.left ∙ ap (λ (life : CoreLife). (life_after_boot life).life) life_is in
    let is : (life_after_boot core.life).answer ≡ Ok power.First =
    sym (c.in-Ok-First.ensures.answer ∙ ap (λ (life : CoreLife). (life_after_boot life).answer) life_is) ∙ ap (λ (did : Power). Ok did) c.in-Ok-First.field-0-is in
    let state_is : c.state.result ≡ core.life.state = c.state.ensures.state ∙ ap (λ (core : CoreState). core.life.state) c.self.view_is in
    record {
      begun = begins_attached core c.attach.new.self did.field-0 is (sym (ap is_offline state_is) ∙ is_loaded c.state.result c.in-Running.is)
          (did.ensures.answer ∙ ap (λ (life : CoreLife). start.Attached life.incarnation) left_is) (did.ensures.left ∙ ap (λ (life : CoreLife). started_core life core) left_is);
      unneeded = tt;
      unchanged = tt;
      attached = ap (λ (left : CoreState). left.loaded) did.ensures.left;
    }
