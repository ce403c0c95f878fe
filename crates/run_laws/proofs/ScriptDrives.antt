-- A drive of a script is so many steps of the actors, and what it says at last.
use Rattle.std.proofs.Common.{◌≡◌, ◌⊎◌, inl, inr, ⊎_elim, ◌<◌, ◌≤◌, ℕ, zero, suc, ◌+◌, ◌-◌, ◌==◌, ◌||◌, Bool, true, false, cond, List, [], ◌∷◌, ◌++◌, All, Option, Some, None, is_some, unwrap_or, append_assoc, refl, ap, sym, ◌∙◌, subst, arith}
use Rattle.std.proofs.lemmas.Bool.{cond_both, eqb-false, eqb-true, ne_eqb, or_parts, true≢false}
use Rattle.std.proofs.lemmas.List.Elements.{All-append, All-cons, All-nil}
use Rattle.rp_base.specs.declared.limits.TheConstants.{STEPS_MOST}
use Rattle.rp_base.specs.declared.kinds.LifeState.{LifeState}
use Rattle.rp_base.specs.declared.kinds.LifeState.TheVariants.{Crashed}
use Rattle.proc_state.specs.Lives.{is_up}
use Rattle.journal.specs.declared.events.Event.{Event}
use Rattle.journal.specs.declared.events.Event.TheVariants as event
use Rattle.crash_recover.specs.Cores.{CoreState}
use Rattle.crash_recover.specs.Drives.{drive_step, is_idle}
use Rattle.command_run.specs.CoreEffects.{CoreEffect, core_tells}
use Rattle.command_run.specs.CoreDrives.{IsDriven, drive_effect, drive_end, drive_steps, effect_behind, is_crashed, rest_event, rests_or, step_events}
use Rattle.command_run.specs.CoreLives.{core_stops}
use Rattle.command_run.proofs.Driving.{step_driven, steps_end, steps_more}
use Rattle.drive_laws.specs.Steps.{after_drive, after_steps, has_crashed, rests, drive_length}
use Rattle.run_laws.specs.Drives.{drive_length_within, last_event, steps_events}

-- ---- why it ends

crash_same : (state : LifeState) → is_crashed state ≡ has_crashed state
crash_same Crashed = refl
crash_same other = refl

event_rests : (name : List ℕ) (crashed idle : Bool) → is_some (cond crashed (Some (event.Stopped name)) (cond idle (Some (event.Idle name)) None)) ≡ (crashed || idle)
event_rests name true idle = refl
event_rests name false true = refl
event_rests name false false = refl

-- a core that doesn't rest
pub awake : (core : CoreState) → rests core ≡ false → (is_crashed core.life.state ≡ false) × (is_idle core ≡ false)
awake core goes = let parts = or_parts (has_crashed core.life.state) (is_idle core) goes in (crash_same core.life.state ∙ parts.0, parts.1)

none_told : (found : Option Event) → is_some found ≡ false → found ≡ None
none_told None none = refl
none_told (Some told) none = absurd (true≢false none)

module _ (name : List ℕ) where
  -- why a core makes no further step, exactly where it rests
  some_rests : (core : CoreState) → is_some (rest_event name core) ≡ rests core
  some_rests core = event_rests name (is_crashed core.life.state) (is_idle core) ∙ ap (λ crashed. crashed || is_idle core) (crash_same core.life.state)

  last_by : (Q : Event → Type 0) (crashed idle : Bool) → Q (event.Stopped name) → Q (event.Idle name) → Q (event.Paused name)
      → Q (unwrap_or (cond crashed (Some (event.Stopped name)) (cond idle (Some (event.Idle name)) None)) (event.Paused name))
  last_by Q true idle stopped rested paused = stopped
  last_by Q false true stopped rested paused = rested
  last_by Q false false stopped rested paused = paused

  pub last_is : (Q : Event → Type 0) (core : CoreState) → Q (event.Stopped name) → Q (event.Idle name) → Q (event.Paused name) → Q (last_event name core)
  last_is Q core = last_by Q (is_crashed core.life.state) (is_idle core)

-- ---- its steps

-- what holds of a drive that makes no step, and of one that makes a step and then others, holds of each
drive_by : (P : ℕ → ℕ → CoreState → ℕ → Type 0)
    → ((count : ℕ) (core : CoreState) (steps : ℕ) → (count ≡ 0) ⊎ ((rests core || steps == STEPS_MOST) ≡ true) → P 0 count core steps)
    → ((made count : ℕ) (core : CoreState) (steps : ℕ) → rests core ≡ false → (steps == STEPS_MOST) ≡ false → P made count (drive_step core).core (steps + 1) → P (suc made) (suc count) core steps)
    → (count : ℕ) (core : CoreState) (steps : ℕ) → P (drive_length_within count core steps) count core steps
drive_by P none one zero core steps = none zero core steps (inl refl)
drive_by P none one (suc more) core steps = by (rests core || steps == STEPS_MOST) refl (drive_by P none one more (drive_step core).core (steps + 1))
  where
    by : (over : Bool) → (rests core || steps == STEPS_MOST) ≡ over → let made = drive_length_within more (drive_step core).core (steps + 1) in
        P made more (drive_step core).core (steps + 1) → P (cond over 0 (suc made)) (suc more) core steps
    by true over later = none (suc more) core steps (inr over)
    by false on later = let parts = or_parts (rests core) (steps == STEPS_MOST) on in one (drive_length_within more (drive_step core).core (steps + 1)) more core steps parts.0 parts.1 later

-- what holds of no step, and of a step of a core that is up and then others where it holds of these, holds of the steps that a drive makes of a core that is up
pub drive_while_up : (P : ℕ → CoreState → Type 0) → ((core : CoreState) → P 0 core)
    → ((made : ℕ) (core : CoreState) → is_up core.life.state ≡ true → P made (drive_step core).core → P (suc made) core)
    → (count : ℕ) (core : CoreState) (steps : ℕ) → is_up core.life.state ≡ true → P (drive_length_within count core steps) core
drive_while_up P none one count core steps up =
    drive_by (λ made count core steps. IsDriven core → P made core)
    (λ count core steps over driven. none core)
    (λ made count core steps goes few later driven. one made core (driven (awake core goes).0) (later (step_driven core driven)))
    count core steps (λ _. up)

-- where the run has steps enough, they are those of a drive
pub all_made : (count : ℕ) (core : CoreState) (steps : ℕ) → steps + count ≤ STEPS_MOST → drive_length_within count core steps ≡ drive_length count core
all_made zero core steps fits = refl
all_made (suc more) core steps fits =
    let few = ne_eqb steps STEPS_MOST (λ full. absurd (omega (arith, full, fits))) in
    let later = all_made more (drive_step core).core (steps + 1) (omega (arith, fits)) in
    λ k. cond (or_none (rests core) (steps == STEPS_MOST) few k) 0 (suc (later k))
  where
    or_none : (first second : Bool) → second ≡ false → (first || second) ≡ first
    or_none true second none = refl
    or_none false second none = none

-- fewer than all are made only where the core rests or the run has no step left
pub drive_fewer : (count : ℕ) (core : CoreState) (steps : ℕ) → let made = drive_length_within count core steps in made < count → rests (after_steps made core) ≡ false → steps + made ≡ STEPS_MOST
drive_fewer =
    drive_by (λ made count core steps. made < count → rests (after_steps made core) ≡ false → steps + made ≡ STEPS_MOST)
    (λ count core steps none less goes.
    ⊎_elim (λ zero. absurd (omega (arith, less, zero))) (λ over. let full = eqb-true steps STEPS_MOST (ap (λ rest. rest || steps == STEPS_MOST) (sym goes) ∙ over) in omega (arith, full)) none)
    (λ made count core steps _ _ later less goes. let full = later (omega (arith, less)) goes in omega (arith, full))

-- what each step of a core that doesn't rest keeps, with one step of the run more, all these steps keep
pub steps_keep : (P : CoreState → ℕ → Type 0) → ((core : CoreState) (steps : ℕ) → rests core ≡ false → P core steps → P (drive_step core).core (steps + 1))
    → (count : ℕ) (core : CoreState) (steps : ℕ) → P core steps → let made = drive_length_within count core steps in P (after_steps made core) (steps + made)
steps_keep P keeps =
    drive_by (λ made count core steps. P core steps → P (after_steps made core) (steps + made))
    (λ count core steps over is. let all : steps ≡ steps + 0 = omega arith in subst (P core) all is)
    (λ made count core steps goes few later is. let all : (steps + 1 + made) ≡ (steps + suc made) = omega arith in subst (P (after_steps made (drive_step core).core)) all (later (keeps core steps goes is)))

-- ---- the drive

module _ (name : List ℕ) (is_quiet : Bool) where
  -- so many of its steps, and what a drive says at last behind them
  abbrev walked : ℕ → ℕ → CoreState → ℕ → CoreEffect
  walked made count core steps = effect_behind (steps_events made name is_quiet core) (drive_end (count - made) name (after_steps made core) (steps + made))

  none_walked : (count : ℕ) (core : CoreState) (steps : ℕ) → (count ≡ 0) ⊎ ((rests core || steps == STEPS_MOST) ≡ true) → drive_steps count name is_quiet core steps ≡ walked 0 count core steps
  unfolding steps_events
  none_walked count core steps none =
      let left : count ≡ count - 0 = omega arith in
      let all : steps ≡ steps + 0 = omega arith in
      steps_end name is_quiet count core steps (⊎_elim (λ zero. inl zero) (λ over. inr (ap (λ rest. rest || steps == STEPS_MOST) (some_rests name core) ∙ over)) none)
      ∙ λ k. drive_end (left k) name core (all k)

  one_walked : (made count : ℕ) (core : CoreState) (steps : ℕ) → rests core ≡ false → (steps == STEPS_MOST) ≡ false
      → drive_steps count name is_quiet (drive_step core).core (steps + 1) ≡ walked made count (drive_step core).core (steps + 1) → drive_steps (suc count) name is_quiet core steps ≡ walked (suc made) (suc count) core steps
  unfolding steps_events
  one_walked made count core steps goes few later =
      let first = step_events name is_quiet (drive_step core) in
      let told = steps_events made name is_quiet (drive_step core).core in
      let end = drive_end (count - made) name (after_steps made (drive_step core).core) (steps + 1 + made) in
      let left : (count - made) ≡ (suc count - suc made) = omega arith in
      let all : (steps + 1 + made) ≡ (steps + suc made) = omega arith in
      steps_more name is_quiet count core steps (none_told (rest_event name core) (some_rests name core ∙ goes)) few ∙ ap (effect_behind first) later
      ∙ ap (λ (events : List Event). record end { events = events }) (sym (append_assoc first told end.events))
      ∙ λ k. effect_behind (first ++ told) (drive_end (left k) name (after_steps made (drive_step core).core) (all k))

  -- a drive makes its steps and then ends
  pub drive_walked : (count : ℕ) (core : CoreState) (steps : ℕ) → drive_steps count name is_quiet core steps ≡ walked (drive_length_within count core steps) count core steps
  drive_walked = drive_by (λ made count core steps. drive_steps count name is_quiet core steps ≡ walked made count core steps) none_walked one_walked

  -- an end tells why, or the run stops where a step is left of a core that doesn't rest
  end_as : (P : CoreEffect → Type 0) (left : ℕ) (core : CoreState) (steps : ℕ) → P (core_tells core steps (last_event name core))
      → ((left == 0) ≡ false → rests core ≡ false → P (core_stops core steps)) → P (drive_end left name core steps)
  end_as P left core steps tells stops = by (rest_event name core) refl tells
    where
      by : (found : Option Event) → rest_event name core ≡ found → P (core_tells core steps (unwrap_or found (event.Paused name)))
          → P (rests_or core steps found (cond (left == 0) (core_tells core steps (event.Paused name)) (core_stops core steps)))
      by (Some told) is tells = tells
      by None is tells =
          cond_both (left == 0) (core_tells core steps (event.Paused name)) (core_stops core steps) P (λ _. tells) (λ some. stops some (sym (some_rests name core) ∙ ap (λ (found : Option Event). is_some found) is))

  -- it tells why it ended, or the run stops, which has no step left for the next
  pub drive_as : (P : CoreEffect → Type 0) (count : ℕ) (core : CoreState) (steps : ℕ) → let made = drive_length_within count core steps in let left = after_steps made core in let told = steps_events made name is_quiet core in
      P (effect_behind told (core_tells left (steps + made) (last_event name left)))
      → (made < count → rests left ≡ false → steps + made ≡ STEPS_MOST → P (effect_behind told (core_stops left (steps + made)))) → P (drive_steps count name is_quiet core steps)
  drive_as P count core steps tells stops =
      let made = drive_length_within count core steps in
      subst P (sym (drive_walked count core steps))
      (end_as (λ effect. P (effect_behind (steps_events made name is_quiet core) effect)) (count - made) (after_steps made core) (steps + made) tells
      (λ some goes.
      let more = eqb-false (count - made) 0 some in let less : made < count = omega (arith, more) in
      stops less goes (drive_fewer count core steps less goes)))

  -- where the run has steps enough, it tells why it ended
  pub drive_whole : (count : ℕ) (core : CoreState) (steps : ℕ) → steps + count ≤ STEPS_MOST → let left = after_drive count core in
      drive_steps count name is_quiet core steps
      ≡ effect_behind (steps_events (drive_length count core) name is_quiet core) (core_tells left (steps + drive_length count core) (last_event name left))
  drive_whole count core steps fits =
      let whole : ℕ → CoreEffect = λ made. let left = after_steps made core in effect_behind (steps_events made name is_quiet core) (core_tells left (steps + made) (last_event name left)) in
      drive_as (λ effect. effect ≡ whole (drive_length_within count core steps)) count core steps refl (λ less goes full. absurd (omega (arith, less, full, fits))) ∙ ap whole (all_made count core steps fits)

  -- what holds of all that its steps tell and of why it ended holds of all that it tells
  pub drive_told : (Q : Event → Type 0) (count : ℕ) (core : CoreState) (steps : ℕ) → let made = drive_length_within count core steps in
      All Q (steps_events made name is_quiet core) → Q (last_event name (after_steps made core)) → All Q (drive_steps count name is_quiet core steps).events
  drive_told Q count core steps told last =
      let made = drive_length_within count core steps in
      let all : (ending : List Event) → All Q ending → All Q (steps_events made name is_quiet core ++ ending) = λ ending. All-append Q (steps_events made name is_quiet core) ending told in
      drive_as (λ effect. All Q effect.events) count core steps (all (last_event name (after_steps made core) ∷ []) (All-cons Q (last_event name (after_steps made core)) [] last (All-nil Q))) (λ _ _ _. all [] (All-nil Q))

  -- what each step of a core that is up keeps, a drive keeps, and what holds of all that each tells, of all that the drive tells
  module _ (P : CoreState → Type 0) (keeps : (core : CoreState) → is_up core.life.state ≡ true → P core → P (drive_step core).core) where
    pub drive_keeps : (core : CoreState) (steps count : ℕ) → P core → P (drive_effect name is_quiet core steps count).core
    unfolding drive_effect
    drive_keeps core steps count is =
        cond_both (is_up core.life.state) (drive_steps count name is_quiet core steps) (core_tells core steps (event.NotRunning name)) (λ effect. P effect.core)
        (λ up.
        let left = drive_while_up (λ made core. P core → P (after_steps made core)) (λ core is. is) (λ made core up later is. later (keeps core up is)) count core steps up is in
        drive_as (λ effect. P effect.core) count core steps left (λ _ _ _. left))
        (λ _. is)

    pub drive_tells : (Q : Event → Type 0) → ((core : CoreState) → is_up core.life.state ≡ true → P core → All Q (step_events name is_quiet (drive_step core)))
        → ((core : CoreState) → Q (last_event name core)) → Q (event.NotRunning name) → (core : CoreState) (steps count : ℕ) → P core → All Q (drive_effect name is_quiet core steps count).events
    unfolding drive_effect steps_events
    drive_tells Q tells last down core steps count is =
        cond_both (is_up core.life.state) (drive_steps count name is_quiet core steps) (core_tells core steps (event.NotRunning name)) (λ effect. All Q effect.events)
        (λ up.
        let told = drive_while_up (λ made core. P core → All Q (steps_events made name is_quiet core)) (λ core is. All-nil Q)
        (λ made core up later is. All-append Q (step_events name is_quiet (drive_step core)) (steps_events made name is_quiet (drive_step core).core) (tells core up is) (later (keeps core up is)))
        count core steps up is in
        drive_told Q count core steps told (last (after_steps (drive_length_within count core steps) core)))
        (λ _. All-cons Q (event.NotRunning name) [] down (All-nil Q))
