-- A drive, step by step.
use Rattle.std.proofs.Common.{◌≡◌, ◌⊎◌, inl, inr, ◌≤◌, length, ℕ, zero, suc, ◌+◌, ◌==◌, Bool, true, false, cond, not, ◌||◌, List, [], ◌∷◌, ◌++◌, arith, Option, Some, None, is_some, unwrap_or, refl, sym, ap, subst, ◌∙◌, true≢false, suc-ne-zero, ne_eqb, append-nil, append_assoc}
use Rattle.std.proofs.lemmas.Bool.{cond_both}
use Rattle.rp_base.specs.declared.limits.TheConstants.{STEPS_MOST}
use Rattle.journal.specs.Lines.{transcript}
use Rattle.journal.specs.declared.events.Event.{Event}
use Rattle.journal.specs.declared.events.Event.TheVariants as event
use Rattle.crash_recover.specs.Cores.{CoreState, LoadState}
use Rattle.link_bench.specs.Benches.{BenchState}
use Rattle.core_actors.specs.declared.actors.Actor.{Actor}
use Rattle.core_actors.specs.declared.actors.Actor.TheVariants as actor
use Rattle.core_actors.specs.declared.progress.DriveOutcome.{DriveOutcome}
use Rattle.core_actors.specs.declared.progress.DriveOutcome.TheVariants as driven
use Rattle.core_actors.specs.ActorSteps.{has_calls}
use Rattle.crash_recover.specs.CoreCrashes.{first_report, report_as, report_of}
use Rattle.crash_recover.specs.Drives.{DriveStep, actor_step, actor_to_step, core_with_report, drive_step, host_step, is_idle, placed_map, record_run, record_step, run_by, step_with_report, with_turn_after, worker_call}
use Rattle.link_commands.specs.declared.stops.Stop.{Stop}
use Rattle.rp_io.specs.Contents.{AppendsFront}
use Rattle.run_log.specs.Logs.{Hands, Keeps, KeepsLess, LogState}
use Rattle.command_run.specs.declared.core_drives.TheConstants.{STRETCH}
use Rattle.command_run.specs.Outcomes.{CutsCore, DrivesHanding, DrivesOn, HandsCoreEffect, HasCoreEffect, KeepsLast, KeepsWhole}
use Rattle.command_run.specs.CoreEffects.{CoreEffect, core_tells}
use Rattle.command_run.specs.CoreLives.{core_stops}
use Rattle.proc_state.specs.Lives.{CoreLife, crash_as, is_up, line_of}
use Rattle.proc_state.specs.declared.answers.Report.{Report}
use Rattle.proc_state.specs.declared.answers.Report.TheVariants as report
use Rattle.rp_base.specs.declared.kinds.LifeState.TheVariants.{Crashed}
use Rattle.command_run.specs.CoreDrives.{IsDriven, drive_effect, drive_end, drive_steps, is_crashed, is_over, rest_event, rests_or, step_events, step_then, effect_behind}
use Rattle.command_run.proofs.HandedLines.{front_of_more, hands_front, hands_kept, hands_more}
use Rattle.link_commands.proofs.Transcripts.{transcript-append}

module _ (name : List ℕ) (is_quiet : Bool) where
  -- one step more
  pub steps_more : (more : ℕ) (core : CoreState) (steps : ℕ) → rest_event name core ≡ None → (steps == STEPS_MOST) ≡ false
      → drive_steps (suc more) name is_quiet core steps ≡ step_then name is_quiet (drive_step core) (λ next. drive_steps more name is_quiet next (steps + 1))
  unfolding drive_steps
  steps_more more core steps goes few =
      ap (λ (e : Option Event). rests_or core steps e
      (cond (steps == STEPS_MOST) (core_stops core steps) (step_then name is_quiet (drive_step core) (λ next. drive_steps more name is_quiet next (steps + 1))))) goes
      ∙ ap (λ (b : Bool). cond b (core_stops core steps) (step_then name is_quiet (drive_step core) (λ next. drive_steps more name is_quiet next (steps + 1)))) few

  -- no step
  pub steps_none : (core : CoreState) (steps : ℕ) → drive_steps 0 name is_quiet core steps ≡ core_tells core steps (unwrap_or (rest_event name core) (event.Paused name))
  unfolding drive_steps
  steps_none core steps = refl

  -- a drive of which no step is left
  ends_none : (rests : Option Event) (core : CoreState) (steps : ℕ)
      → core_tells core steps (unwrap_or rests (event.Paused name)) ≡ rests_or core steps rests (core_tells core steps (event.Paused name))
  ends_none None core steps = refl
  ends_none (Some told) core steps = refl

  -- a drive that is over
  ends_over : (rests : Option Event) (most : Bool) (core : CoreState) (steps : ℕ) (later : CoreEffect) → (is_some rests || most) ≡ true
      → rests_or core steps rests (cond most (core_stops core steps) later) ≡ rests_or core steps rests (core_stops core steps)
  ends_over (Some told) most core steps later is = refl
  ends_over None true core steps later is = refl
  ends_over None false core steps later is = absurd (true≢false (sym is))

  pub steps_end : (left : ℕ) (core : CoreState) (steps : ℕ) → (left ≡ 0) ⊎ (is_over name core steps ≡ true) → drive_steps left name is_quiet core steps ≡ drive_end left name core steps
  unfolding drive_steps
  steps_end zero core steps is = ends_none (rest_event name core) core steps
  steps_end (suc more) core steps (inl none) = absurd (suc-ne-zero more none)
  steps_end (suc more) core steps (inr over) =
      ends_over (rest_event name core) (steps == STEPS_MOST) core steps (step_then name is_quiet (drive_step core) (λ next. drive_steps more name is_quiet next (steps + 1))) over
      ∙ ap (λ (b : Bool). rests_or core steps (rest_event name core) (cond b (core_tells core steps (event.Paused name)) (core_stops core steps))) (sym (ne_eqb (suc more) 0 (suc-ne-zero more)))

  -- and that tells one event at most
  rests_few : (rests : Option Event) (none : Bool) (core : CoreState) (steps : ℕ) → length (rests_or core steps rests (cond none (core_tells core steps (event.Paused name)) (core_stops core steps))).events ≤ 1
  rests_few (Some told) none core steps = omega arith
  rests_few None true core steps = omega arith
  rests_few None false core steps = omega arith

  pub end_few : (left : ℕ) (core : CoreState) (steps : ℕ) → is_over name core steps ≡ true → length (drive_steps left name is_quiet core steps).events ≤ 1
  end_few left core steps over =
      subst (λ (e : CoreEffect). length e.events ≤ 1) (sym (steps_end left core steps (inr over))) (rests_few (rest_event name core) (left == 0) core steps)

  -- a crash, or a run that has no step left, ends a drive
  over_by : (crashed idle most : Bool) → (crashed || most) ≡ true → (is_some (cond crashed (Some (event.Stopped name)) (cond idle (Some (event.Idle name)) None)) || most) ≡ true
  over_by true idle most is = refl
  over_by false true most is = refl
  over_by false false most is = is

  pub crash_over : (core : CoreState) (steps : ℕ) → (is_crashed core.life.state || steps == STEPS_MOST) ≡ true → is_over name core steps ≡ true
  crash_over core steps = over_by (is_crashed core.life.state) (is_idle core) (steps == STEPS_MOST)

  -- actors that rest end it too
  pub rest_over : (core : CoreState) (steps : ℕ) (told : Event) → rest_event name core ≡ Some told → is_over name core steps ≡ true
  rest_over core steps told rests = ap (λ (e : Option Event). is_some e || steps == STEPS_MOST) rests

  -- a drive that goes on where its actors have something to do
  goes_by : (crashed idle most : Bool) → (crashed || most) ≡ false → true ≡ not idle
      → (cond crashed (Some (event.Stopped name)) (cond idle (Some (event.Idle name)) None) ≡ None) × (most ≡ false)
  goes_by true idle most over works = absurd (true≢false over)
  goes_by false true most over works = absurd (true≢false works)
  goes_by false false most over works = (refl, over)

  pub steps_go : (core : CoreState) (steps : ℕ) → (is_crashed core.life.state || steps == STEPS_MOST) ≡ false → true ≡ not (is_idle core)
      → (rest_event name core ≡ None) × ((steps == STEPS_MOST) ≡ false)
  steps_go core steps = goes_by (is_crashed core.life.state) (is_idle core) (steps == STEPS_MOST)

  -- actors that have nothing to do end the drive, and their step leaves all as it was
  rests_by : (crashed idle most : Bool) → (crashed || most) ≡ false → false ≡ not idle
      → (cond crashed (Some (event.Stopped name)) (cond idle (Some (event.Idle name)) None) ≡ Some (event.Idle name)) × (idle ≡ true)
  rests_by true idle most over rests = absurd (true≢false over)
  rests_by false true most over rests = (refl, refl)
  rests_by false false most over rests = absurd (true≢false (sym rests))

  idle_step : (core : CoreState) → is_idle core ≡ true → drive_step core ≡ record { core = core; driven = driven.Idle }
  idle_step core idle = ap (λ (b : Bool). cond b (record { core = core; driven = driven.Idle }) (actor_step (actor_to_step core) (with_turn_after (actor_to_step core) core))) idle

  pub steps_idle : (core next : CoreState) (steps : ℕ) (log after : LogState) → (is_crashed core.life.state || steps == STEPS_MOST) ≡ false → false ≡ not (is_idle core)
      → next ≡ (drive_step core).core → Keeps log after (step_events name is_quiet (drive_step core))
      → (rest_event name core ≡ Some (event.Idle name)) × ((next ≡ core) × (after ≡ log))
  steps_idle core next steps log after over rests left keeps =
      let did = rests_by (is_crashed core.life.state) (is_idle core) (steps == STEPS_MOST) over rests in
      let step = idle_step core did.1 in (
        did.0,
        (
          left ∙ ap (λ (s : DriveStep). s.core) step,
          keeps ∙ ap (λ (s : DriveStep). record log { lines = log.lines ++ transcript (step_events name is_quiet s) }) step
              ∙ ap (λ (l : List ℕ). record log { lines = l }) (append-nil log.lines),
        ),
      )

-- ---- a step leaves a core up, unless the core crashed in it

first_driven : (life : CoreLife) (core : CoreState) (found : Option BenchState) → is_crashed life.state ≡ true → IsDriven (first_report true life core found).core
first_driven life core None crashed on = absurd (true≢false (sym crashed ∙ on))
first_driven life core (Some bench) crashed on = absurd (true≢false (sym crashed ∙ on))

report_driven : (told : Option Report) (core : CoreState) → IsDriven core → IsDriven (report_as true (crash_as told core.life).life (crash_as told core.life).answer core).core
report_driven None core is = is
report_driven (Some report.First) core is = first_driven (record core.life { state = Crashed }) core core.bench refl
report_driven (Some report.Already) core is = is

reported_driven : (came : DriveOutcome) (core : CoreState) → IsDriven core → IsDriven (core_with_report came core)
unfolding report_of
reported_driven driven.Idle core is = is
reported_driven driven.Stepped core is = is
reported_driven (driven.Ended caller end) core is = is
reported_driven (driven.Worker fault closed) core is = report_driven (line_of core.life.state).crash core is
reported_driven (driven.Crashed kind closed) core is = report_driven (line_of core.life.state).crash core is

record_driven : (core : CoreState) (found : Option LoadState) → IsDriven core → IsDriven (step_with_report (record_run core found)).core
record_driven core None is = is
record_driven core (Some load) is = let ran = run_by core load (placed_map core.regions load) in reported_driven ran.driven ran.core is

call_driven : (core : CoreState) (found : Option BenchState) → IsDriven core → IsDriven (host_step core found).core × IsDriven (worker_call core found).core
call_driven core None is = (is, is)
call_driven core (Some bench) is = (is, is)

actor_driven : (one : Actor) (core : CoreState) → IsDriven core → IsDriven (actor_step one core).core
actor_driven actor.Host core is = (call_driven core core.bench is).0
actor_driven actor.Worker core is =
    cond_both (has_calls core.bench core.actors) (worker_call core core.bench) (record_step core) (λ (step : DriveStep). IsDriven step.core)
    (λ _. (call_driven core core.bench is).1) (λ _. record_driven core core.loaded is)

pub step_driven : (core : CoreState) → IsDriven core → IsDriven (drive_step core).core
step_driven core is =
    cond_both (is_idle core) (record { core = core; driven = driven.Idle }) (actor_step (actor_to_step core) (with_turn_after (actor_to_step core) core)) (λ (step : DriveStep). IsDriven step.core)
    (λ _. is) (λ _. actor_driven (actor_to_step core) (with_turn_after (actor_to_step core) core) is)

-- ---- a core that is up, and one that isn't

-- a drive of a core that is up
pub drive_up : (name : List ℕ) (is_quiet : Bool) (core : CoreState) (steps count : ℕ) → is_up core.life.state ≡ true → drive_effect name is_quiet core steps count ≡ drive_steps count name is_quiet core steps
unfolding drive_effect
drive_up name is_quiet core steps count up = ap (λ (b : Bool). cond b (drive_steps count name is_quiet core steps) (core_tells core steps (event.NotRunning name))) up

-- what is kept of a drive, by what tells the same
pub keeps_same : (first second : ℕ → List Event) (count : ℕ) (told other : List Event) (lines : List ℕ) → ((n : ℕ) → first n ≡ second n) → told ≡ other
    → KeepsLast second count other lines → KeepsLast first count told lines
keeps_same first second count told other lines same is keeps = record {
  done = keeps.done;
  within = keeps.within;
  earlier = keeps.earlier;
  last = keeps.last;
  here = same keeps.done ∙ keeps.here;
  later = keeps.later;
  all = is ∙ keeps.all;
  near = keeps.near;
  rest = keeps.rest;
  less = keeps.less;
  kept = keeps.kept;
}

-- so one that was cut off is one of such a core
pub cut_up : (name : List ℕ) (is_quiet : Bool) (core left : CoreState) (steps count : ℕ) (lines : List ℕ) (written now : Option (List ℕ)) → is_up core.life.state ≡ true
    → CutsCore (λ done. drive_steps done name is_quiet core steps) count left lines written now → CutsCore (λ done. drive_effect name is_quiet core steps done) count left lines written now
cut_up name is_quiet core left steps count lines written now up cut =
    let same : (n : ℕ) → drive_effect name is_quiet core steps n ≡ drive_steps n name is_quiet core steps = λ n. drive_up name is_quiet core steps n up in
    record {
      done = cut.done;
      within = cut.within;
      is = cut.is ∙ sym (ap (λ (e : CoreEffect). e.core) (same cut.done));
      told = cut.told;
      last = cut.last;
      tells = ap (λ (e : CoreEffect). e.events) (same cut.done) ∙ cut.tells;
      handed = cut.handed;
      kept = cut.kept;
      hands = cut.hands;
      front = cut.front;
      few = λ less. keeps_same _ _ cut.done cut.told cut.told cut.kept (λ n. ap (λ (e : CoreEffect). e.events) (same n)) refl (cut.few less);
    }

-- a drive of a core that isn't up
drive_down : (name : List ℕ) (is_quiet : Bool) (core : CoreState) (steps count : ℕ) → is_up core.life.state ≡ false → drive_effect name is_quiet core steps count ≡ core_tells core steps (event.NotRunning name)
unfolding drive_effect
drive_down name is_quiet core steps count down = ap (λ (b : Bool). cond b (drive_steps count name is_quiet core steps) (core_tells core steps (event.NotRunning name))) down

pub keeps_down : (name : List ℕ) (is_quiet : Bool) (core left : CoreState) (count : ℕ) (before after : LogState) (answer : Option Stop) → is_up core.life.state ≡ false
    → HasCoreEffect (drive_effect name is_quiet core before.steps count) left before after answer → KeepsLess before
    → KeepsWhole (λ done. (drive_effect name is_quiet core before.steps done).events) count after.lines
keeps_down name is_quiet core left count before after answer down did less =
    let tells = ap (λ (e : CoreEffect). e.events) (drive_down name is_quiet core before.steps count down) in
    record {
      done = count;
      within = omega arith;
      earlier = [];
      last = event.NotRunning name;
      here = tells;
      later = event.NotRunning name ∷ [];
      all = tells;
      near = inr (omega arith);
      rest = before.lines;
      less = less;
      kept = did.lines ∙ ap (λ (events : List Event). before.lines ++ transcript events) tells;
    }

-- what a command on a core did that handed on nothing
pub kept_core : (effect : CoreEffect) (left : CoreState) (before after : LogState) (written : Option (List ℕ)) (answer : Option Stop)
    → HasCoreEffect effect left before after answer → HandsCoreEffect effect left before after written written answer
kept_core effect left before after written answer did = record {
  core = did.core;
  steps = did.steps;
  hands = hands_kept written before.lines (transcript effect.events) after.lines did.lines;
  ending = did.ending;
}

-- events before events
told_twice : (first second : List Event) (effect : CoreEffect) → effect_behind first (effect_behind second effect) ≡ effect_behind (first ++ second) effect
told_twice first second effect = ap (λ (events : List Event). record effect { events = events }) (sym (append_assoc first second effect.events))

module _ (name : List ℕ) (is_quiet : Bool) (count : ℕ) (first : CoreState) (before : LogState) where
  -- no step yet
  pub drive_first : IsDriven first → DrivesOn name is_quiet count first before count first before
  drive_first up = record {
    done = 0;
    all = omega arith;
    up = up;
    told = [];
    lines = sym (append-nil before.lines);
    rest = λ more.
        let none : 0 + more ≡ more = omega arith in
        ap (λ (n : ℕ). drive_steps n name is_quiet first before.steps) none;
  }

  -- one step more
  pub drive_goes_on : (left more : ℕ) (core next : CoreState) (log after : LogState) → left ≡ suc more → DrivesOn name is_quiet count first before left core log
      → rest_event name core ≡ None → (log.steps == STEPS_MOST) ≡ false → next ≡ (drive_step core).core
      → Keeps (record log { steps = log.steps + 1 }) after (step_events name is_quiet (drive_step core)) → DrivesOn name is_quiet count first before more next after
  drive_goes_on left more core next log after one on goes few steps keeps =
      let events = step_events name is_quiet (drive_step core) in
      record {
        done = on.done + 1;
        all = omega (arith, one, on.all);
        up = subst IsDriven (sym steps) (step_driven core on.up);
        told = on.told ++ events;
        lines = ap (λ (l : LogState). l.lines) keeps ∙ ap (λ (l : List ℕ). l ++ transcript events) on.lines
            ∙ append_assoc before.lines (transcript on.told) (transcript events) ∙ ap (λ (l : List ℕ). before.lines ++ l) (sym (transcript-append on.told events));
        rest = λ later.
            let same : on.done + 1 + later ≡ on.done + suc later = omega arith in
            ap (λ (n : ℕ). drive_steps n name is_quiet first before.steps) same
            ∙ on.rest (suc later)
            ∙ ap (effect_behind on.told) (steps_more name is_quiet later core log.steps goes few)
            ∙ ap (λ (n : CoreState). effect_behind on.told (effect_behind events (drive_steps later name is_quiet n (log.steps + 1)))) (sym steps)
            ∙ ap (λ (s : ℕ). effect_behind on.told (effect_behind events (drive_steps later name is_quiet next s))) (sym (ap (λ (l : LogState). l.steps) keeps))
            ∙ told_twice on.told events (drive_steps later name is_quiet next after.steps);
      }

  -- what is left of it does the rest
  drive_rest : (left : ℕ) (core : CoreState) (log : LogState) (on : DrivesOn name is_quiet count first before left core log)
      → drive_steps count name is_quiet first before.steps ≡ effect_behind on.told (drive_steps left name is_quiet core log.steps)
  drive_rest left core log on = ap (λ (n : ℕ). drive_steps n name is_quiet first before.steps) (sym on.all) ∙ on.rest left

  -- what is left of it does this, and so the drive ends
  pub drive_ends : (left : ℕ) (core now : CoreState) (log after : LogState) (effect : CoreEffect) (answer : Option Stop) → DrivesOn name is_quiet count first before left core log
      → drive_steps left name is_quiet core log.steps ≡ effect → HasCoreEffect effect now log after answer
      → HasCoreEffect (drive_steps count name is_quiet first before.steps) now before after answer
  drive_ends left core now log after effect answer on is did =
      subst (λ (e : CoreEffect). HasCoreEffect e now before after answer) (sym (drive_rest left core log on ∙ ap (effect_behind on.told) is))
      (record {
        core = did.core;
        steps = did.steps;
        lines = did.lines ∙ ap (λ (l : List ℕ). l ++ transcript effect.events) on.lines ∙ append_assoc before.lines (transcript on.told) (transcript effect.events)
            ∙ ap (λ (l : List ℕ). before.lines ++ l) (sym (transcript-append on.told effect.events));
        ending = did.ending;
      })

  -- all of it is told and kept, or handed on
  pub handing_first : IsDriven first → (written : Option (List ℕ)) → DrivesHanding name is_quiet count first before written count first before written
  handing_first up written = record {
    done = 0;
    all = omega arith;
    up = up;
    told = [];
    hands = hands_kept written before.lines [] before.lines (sym (append-nil before.lines));
    rest = λ more.
        let none : 0 + more ≡ more = omega arith in
        ap (λ (n : ℕ). drive_steps n name is_quiet first before.steps) none;
  }

  module _ (written : Option (List ℕ)) (left : ℕ) (core : CoreState) (log : LogState) (now : Option (List ℕ)) (h : DrivesHanding name is_quiet count first before written left core log now) where
    -- what is left of it does the rest
    handing_rest : drive_steps count name is_quiet first before.steps ≡ effect_behind h.told (drive_steps left name is_quiet core log.steps)
    handing_rest = ap (λ (n : ℕ). drive_steps n name is_quiet first before.steps) (sym h.all) ∙ h.rest left

    -- a drive of its steps so far
    handing_done : drive_steps h.done name is_quiet first before.steps ≡ effect_behind h.told (core_tells core log.steps (unwrap_or (rest_event name core) (event.Paused name)))
    handing_done =
        let none : h.done + 0 ≡ h.done = omega arith in
        ap (λ (n : ℕ). drive_steps n name is_quiet first before.steps) (sym none) ∙ h.rest 0 ∙ ap (effect_behind h.told) (steps_none name is_quiet core log.steps)

    -- some steps more
    pub handing_on : (next_left : ℕ) (next : CoreState) (after : LogState) → DrivesOn name is_quiet left core log next_left next after
        → DrivesHanding name is_quiet count first before written next_left next after now
    handing_on next_left next after on = record {
      done = h.done + on.done;
      all = omega (arith, h.all, on.all);
      up = on.up;
      told = h.told ++ on.told;
      hands = subst (λ (bytes : List ℕ). Hands written before.lines now after.lines bytes) (sym (transcript-append h.told on.told))
          (hands_more written now now before.lines log.lines after.lines (transcript h.told) (transcript on.told) h.hands (hands_kept now log.lines (transcript on.told) after.lines on.lines));
      rest = λ later.
          let same : h.done + on.done + later ≡ h.done + (on.done + later) = omega arith in
          ap (λ (n : ℕ). drive_steps n name is_quiet first before.steps) same
          ∙ h.rest (on.done + later) ∙ ap (effect_behind h.told) (on.rest later) ∙ told_twice h.told on.told (drive_steps later name is_quiet next after.steps);
    }

    -- what is kept is handed on, all of it or nothing
    pub handing_handed : (new : Option (List ℕ)) (after : LogState) → Hands now log.lines new after.lines [] → after.steps ≡ log.steps
        → DrivesHanding name is_quiet count first before written left core after new
    handing_handed new after handed same = record {
      done = h.done;
      all = h.all;
      up = h.up;
      told = h.told;
      hands = subst (λ (bytes : List ℕ). Hands written before.lines new after.lines bytes) (append-nil (transcript h.told))
          (hands_more written now new before.lines log.lines after.lines (transcript h.told) [] h.hands handed);
      rest = λ later. h.rest later ∙ ap (λ (steps : ℕ). effect_behind h.told (drive_steps later name is_quiet core steps)) (sym same);
    }

    -- what is left of it is done, and so the drive ends
    pub handing_ends : (next : CoreState) (after : LogState) (answer : Option Stop) → HasCoreEffect (drive_steps left name is_quiet core log.steps) next log after answer
        → HandsCoreEffect (drive_steps count name is_quiet first before.steps) next before after written now answer
    handing_ends next after answer did =
        let effect = drive_steps left name is_quiet core log.steps in
        subst (λ (e : CoreEffect). HandsCoreEffect e next before after written now answer) (sym handing_rest)
        (record {
          core = did.core;
          steps = did.steps;
          hands = subst (λ (bytes : List ℕ). Hands written before.lines now after.lines bytes) (sym (transcript-append h.told effect.events))
              (hands_more written now now before.lines log.lines after.lines (transcript h.told) (transcript effect.events) h.hands (hands_kept now log.lines (transcript effect.events) after.lines did.lines));
          ending = did.ending;
        })

    -- what is kept then, beside what was kept where its last steps began
    pub handing_keeps : (next : CoreState) (after : LogState) (answer : Option Stop) → HasCoreEffect (drive_steps left name is_quiet core log.steps) next log after answer
        → KeepsLess log → (left ≤ STRETCH) ⊎ (is_over name core log.steps ≡ true) → KeepsWhole (λ done. (drive_steps done name is_quiet first before.steps).events) count after.lines
    handing_keeps next after answer did less near = record {
      done = h.done;
      within = omega (arith, h.all);
      earlier = h.told;
      last = unwrap_or (rest_event name core) (event.Paused name);
      here = ap (λ (e : CoreEffect). e.events) handing_done;
      later = (drive_steps left name is_quiet core log.steps).events;
      all = ap (λ (e : CoreEffect). e.events) handing_rest;
      near = near_to near;
      rest = log.lines;
      less = less;
      kept = did.lines;
    }
      where
        near_to : (left ≤ STRETCH) ⊎ (is_over name core log.steps ≡ true) → (count ≤ h.done + STRETCH) ⊎ (length (drive_steps left name is_quiet core log.steps).events ≤ 1)
        near_to (inl few) = inl (omega (arith, few, h.all))
        near_to (inr over) = inr (end_few name is_quiet left core log.steps over)

    -- a front of what is kept is handed on, and no more
    pub handing_cut : (new : Option (List ℕ)) → AppendsFront now new log.lines → AppendsFront written new (before.lines ++ transcript (drive_steps count name is_quiet first before.steps).events)
    handing_cut new front =
        let effect = drive_steps left name is_quiet core log.steps in
        let more = transcript effect.events in
        subst (λ (bytes : List ℕ). AppendsFront written new bytes)
        (append_assoc before.lines (transcript h.told) more ∙ ap (λ (bytes : List ℕ). before.lines ++ bytes) (sym (transcript-append h.told effect.events) ∙ ap (λ (e : CoreEffect). transcript e.events) (sym handing_rest)))
        (hands_front written now new before.lines log.lines (transcript h.told) more h.hands (front_of_more now new log.lines more front))

  module _ (written : Option (List ℕ)) (left : ℕ) (core : CoreState) (log : LogState) (now : Option (List ℕ)) (h : DrivesHanding name is_quiet count first before written left core log now)
      (next_left : ℕ) (next : CoreState) (after : LogState) (on : DrivesOn name is_quiet left core log next_left next after) where
    abbrev further : DrivesHanding name is_quiet count first before written next_left next after now
    further = handing_on written left core log now h next_left next after on

    -- it was cut off behind a stretch more, of which all was kept
    pub handing_paused : (new : Option (List ℕ)) → AppendsFront now new after.lines → left ≤ next_left + STRETCH → (KeepsLess before → KeepsLess log)
        → CutsCore (λ done. drive_steps done name is_quiet first before.steps) count next before.lines written new
    unfolding handing_on
    handing_paused new front few less =
        let done = handing_done written next_left next after now further in
        record {
          done = h.done + on.done;
          within = omega (arith, h.all, on.all);
          is = sym (ap (λ (e : CoreEffect). e.core) done);
          told = h.told ++ on.told;
          last = unwrap_or (rest_event name next) (event.Paused name);
          tells = ap (λ (e : CoreEffect). e.events) done;
          handed = now;
          kept = after.lines;
          hands = further.hands;
          front = front;
          few = λ few_before. record {
            done = h.done;
            within = omega arith;
            earlier = h.told;
            last = unwrap_or (rest_event name core) (event.Paused name);
            here = ap (λ (e : CoreEffect). e.events) (handing_done written left core log now h);
            later = on.told;
            all = refl;
            near = inl (omega (arith, on.all, few));
            rest = log.lines;
            less = less few_before;
            kept = on.lines;
          };
        }
