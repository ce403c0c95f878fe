-- A demo never meets the limit of steps, where the actors of each of its cores come to rest within so many.
use Rattle.std.proofs.Common.{◌≡◌, ◌⊎◌, inr, ⊎_elim, ◌<◌, ◌≤◌, ℕ, zero, suc, ◌+◌, ◌*◌, ◌==◌, Bool, true, false, cond, ltb, List, [], ◌∷◌, ◌++◌, All, length, Option, Some, None, IfSome, Result, Ok, Err, slice_get, is_some, refl, sym, ap, subst, ◌∙◌, arith}
use Rattle.std.proofs.lemmas.Bool.{cond_both, true≢false}
use Rattle.std.proofs.lemmas.List.Elements.{All-nil, All-push, All-set}
use Rattle.rp_io.specs.Images.{ImageAnswer}
use Rattle.rp_base.specs.declared.kinds.DriverKind.{DriverKind}
use Rattle.rp_base.specs.declared.kinds.DriverKind.TheVariants as driver
use Rattle.rp_base.specs.declared.kinds.LifeState.{LifeState}
use Rattle.rp_base.specs.declared.kinds.LifeState.TheVariants.{Offline, Running, Crashed, Attached, Detached}
use Rattle.rp_base.specs.declared.limits.TheConstants.{STEPS_MOST}
use Rattle.rp_io.specs.declared.faults.NoImage.TheVariants as no_image
use Rattle.memory_pool.specs.declared.regions.Region.{Region}
use Rattle.memory_pool.specs.Regions.{standard_regions}
use Rattle.proc_state.specs.Lives.{CoreLife, Outcome, boot_to, first_start, is_offline, is_up, leave_to, life_after_boot, life_after_shutdown, line_of, most, refusal_of, without_user}
use Rattle.script_lang.specs.declared.commands.Command.{Command}
use Rattle.script_lang.specs.declared.commands.Command.TheVariants as command
use Rattle.script_lang.specs.declared.commands.RegionSet.TheVariants as regions
use Rattle.journal.specs.declared.events.Event.{Event}
use Rattle.journal.specs.declared.events.Event.TheVariants as event
use Rattle.image_maker.specs.Demo.{core_commands, demo_commands, first_sessions, number_at, reply_length, sample_channel, session_commands, session_core, worker_lines}
use Rattle.image_maker.specs.Images.{image_of}
use Rattle.crash_recover.specs.declared.core_faults.AddFault.{AddFault}
use Rattle.crash_recover.specs.declared.core_faults.LeaveFault.{LeaveFault}
use Rattle.crash_recover.specs.declared.core_faults.StartFault.{StartFault}
use Rattle.crash_recover.specs.CoreBoots.{image_fault, load_in, load_of, started_core, with_load}
use Rattle.crash_recover.specs.CoreLeaves.{shutdown_of, unloaded_core}
use Rattle.crash_recover.specs.declared.core_answers.Leave.{Leave}
use Rattle.crash_recover.specs.declared.core_answers.Leave.TheVariants as leave
use Rattle.crash_recover.specs.declared.core_answers.Start.{Start}
use Rattle.crash_recover.specs.Cores.{CoreOutcome, CoreState, driver_add_fault}
use Rattle.crash_recover.specs.Drives.{drive_step, placed_map}
use Rattle.command_run.specs.CoreDrives.{drive_effect, drive_steps, is_crashed}
use Rattle.command_run.specs.CoreEffects.{CoreEffect, core_tells, core_tells_all}
use Rattle.command_run.specs.CoreLives.{found_image, image_or, image_bytes, leave_effect, may_step, shutdown_effect, started_effect}
use Rattle.command_run.specs.NamedCores.{NamedCoreState}
use Rattle.command_run.specs.NamedImages.{ImageState}
use Rattle.std.proofs.Common.{◌-◌, not, bytes_eq, option_map, nat_le}
use Rattle.std.specs.Prelude.{find}
use Rattle.std.proofs.lemmas.Bool.{leb-true, ne_eqb}
use Rattle.std.proofs.lemmas.List.{append_assoc, append-nil}
use Rattle.std.proofs.lemmas.List.Elements.{All-head, All-tail}
use Rattle.rp_base.specs.declared.kinds.Switch.{Switch}
use Rattle.rp_base.specs.declared.kinds.Switch.TheVariants as switch
use Rattle.rp_base.specs.declared.limits.TheConstants.{IMAGE_MOST}
use Rattle.proc_state.specs.declared.answers.LifeFault.TheVariants as life_fault
use Rattle.proc_state.specs.declared.answers.Left.{Left}
use Rattle.proc_state.specs.declared.answers.Left.TheVariants as left
use Rattle.proc_state.specs.declared.answers.Power.{Power}
use Rattle.proc_state.specs.declared.answers.Power.TheVariants as power
use Rattle.crash_recover.specs.declared.core_faults.AddFault.TheVariants as add
use Rattle.image_maker.specs.Demo.{session_image}
use Rattle.link_commands.specs.declared.acts.CoreAct.{CoreAct}
use Rattle.link_commands.specs.declared.acts.CoreAct.TheVariants as act
use Rattle.link_commands.specs.declared.acts.Line.TheVariants as line
use Rattle.link_commands.specs.declared.acts.StartAct.TheVariants as start_act
use Rattle.link_commands.specs.declared.acts.Making.TheVariants as making
use Rattle.link_commands.specs.declared.acts.NamedAct.TheVariants as under
use Rattle.command_run.specs.CoreCommands.{core_act_effect, core_effect, driver_effect_unless, driver_effect}
use Rattle.link_commands.specs.LinkCommands.{link_effect}
use Rattle.command_run.specs.Stores.{store_of}
use Rattle.script_run.specs.Demos.{bare_effect}
use Rattle.command_run.specs.Runs.{ObjectsState, Run, RunEffect, RunState, core_effect_at, effect_of, new_run, quiet_effect, run_from, run_of, run_tells}
use Rattle.script_run.proofs.DemoSums.{bare_is, goes_on as goes_on_run}
use Rattle.command_run.proofs.RunSteps.{run_none}
use Rattle.run_laws.specs.Drives.{after_steps, drive_length_within, rests}
use Rattle.run_laws.proofs.CommandWalks.{ActsOnCore, ActsOnLink, CommandOutcome, FindsImage, MakesCore, MakesImage, NamesNothing, outcome}
use Rattle.run_laws.proofs.RunWalks.{item_at}
use Rattle.run_laws.proofs.ScriptDrives.{awake, drive_as, steps_keep}
use Rattle.fw_load.specs.Loading.{Loads, load_fault}
use Rattle.remote_core.specs.Workers.{WorkerState, new_worker}
use Rattle.crash_recover.specs.declared.core_faults.StartFault.TheVariants as start_fault
use Rattle.demo_laws.proofs.BootBounds.{AreRoomy, boot_within, users_within}
use Rattle.demo_laws.proofs.DriveBounds.{IsProgram, IsWithin, drive_within, more_on}
use Rattle.crash_recover.proofs.SameLives.{no_first}
use Rattle.core_laws.proofs.CallOutcomes.{Attaches, BootOutcome, Empties, IsOut, LeaveOutcome, NoLeave, NoStep, OneFewer, OneMore, Runs, boot_outcome, shutdown_outcome}
use Rattle.core_laws.proofs.Outcomes.{none_mapped}
use Rattle.run_laws.proofs.RegionsSound.{regions_driven}

-- the images of a demo's workers, where they load, have a program of so few records, and rings with room
pub record AreBootable (Fits : WorkerState → Type 0) (records credit : WorkerState → ℕ) : Type 0 where
  pub loads : (reply : ℕ) → reply < 497 → length (image_of (worker_lines reply)) ≤ IMAGE_MOST → Loads (image_of (worker_lines reply)) standard_regions → let load = load_of (image_of (worker_lines reply)) standard_regions in
      IsProgram Fits records credit load.memory (placed_map standard_regions load) × Fits (new_worker load.entry) × IfSome load.rings AreRoomy × (records (new_worker load.entry) ≤ 7999) × (credit (new_worker load.entry) ≤ 1)

-- the bytes of the image of a worker of a demo
abbrev pub IsDemoImage : List ℕ → Type 0
IsDemoImage bytes = (reply : ℕ) × (reply < 497) × (bytes ≡ image_of (worker_lines reply))

-- whether no other party started the core
abbrev is_own : LifeState → Bool
is_own Attached = false
is_own Detached = false
is_own other = true

-- a run that may do one step more
steps_left : (steps : ℕ) → steps + 1 ≤ STEPS_MOST → may_step steps ≡ true
steps_left steps few = ap not (ne_eqb steps STEPS_MOST (λ full. absurd (omega (arith, few, full))))

own_up : (state : LifeState) → is_own state ≡ true → is_up state ≡ true → state ≡ Running
own_up Offline own up = absurd (true≢false (sym up))
own_up Running own up = refl
own_up Crashed own up = absurd (true≢false (sym up))
own_up Attached own up = absurd (true≢false (sym own))
own_up Detached own up = absurd (true≢false (sym own))

module _ (Fits : WorkerState → Type 0) (records credit : WorkerState → ℕ) (bootable : AreBootable Fits records credit) where
  -- the actors of a core make at most so many steps more
  abbrev DrivesWithin : CoreState → ℕ → Type 0
  DrivesWithin core within = IsWithin Fits records credit core within

  -- a core of a demo: its regions are the standard ones, no other party started it, and while it runs its steps are bounded
  record IsCalm (core : CoreState) : Type 0 where
    pub regions : core.regions ≡ standard_regions
    pub own : is_own core.life.state ≡ true
    pub runs : core.life.state ≡ Running → DrivesWithin core 7999

  -- a command that leaves such a core, and does at most so many steps
  record LeavesCalm (before : ℕ) (within : ℕ) (effect : CoreEffect) : Type 0 where
    pub calm : IsCalm effect.core
    pub ending : effect.ending ≡ None
    pub steps : effect.steps ≤ before + within

  told_calm : (core : CoreState) (steps within : ℕ) (told : List Event) → IsCalm core → LeavesCalm steps within (core_tells_all core steps told)
  told_calm core steps within told is = record { calm = is; ending = refl; steps = omega arith }

  -- ---- drives

  -- more steps are enough too
  more_within : (core : CoreState) (within most : ℕ) → within ≤ most → DrivesWithin core within → DrivesWithin core most
  more_within core within most less is = record {
    goes = record {
      load = is.goes.load;
      loaded = is.goes.loaded;
      program = is.goes.program;
      fits = is.goes.fits;
      on = more_on Fits records credit core.actors core.bench within most less is.goes.on;
    };
    sound = is.sound;
  }

  -- a drive that ends with the step of this number, or before
  module _ (last : ℕ) where
    -- a core with the standard regions that has crashed, or whose actors make no more steps than are left until then
    record GoesWithin (core : CoreState) (steps : ℕ) : Type 0 where
      pub regions : core.regions ≡ standard_regions
      pub few : steps ≤ last
      pub came : (core.life.state ≡ Crashed) ⊎ ((core.life.state ≡ Running) × DrivesWithin core (last - steps))

    calm_within : (core : CoreState) (steps : ℕ) → last - steps ≤ 7999 → GoesWithin core steps → IsCalm core
    calm_within core steps less goes =
        ⊎_elim (λ crashed. record { regions = goes.regions; own = ap is_own crashed; runs = λ running. absurd (true≢false (ap is_crashed (sym crashed ∙ running))) })
        (λ runs. record { regions = goes.regions; own = ap is_own runs.0; runs = λ _. more_within core (last - steps) 7999 less runs.1 }) goes.came

    step_within : (core : CoreState) (steps : ℕ) → rests core ≡ false → GoesWithin core steps → GoesWithin (drive_step core).core (steps + 1)
    step_within core steps on goes =
        ⊎_elim (λ crashed. absurd (true≢false (sym (ap is_crashed crashed) ∙ (awake core on).0)))
        (λ runs.
        let next = (drive_step core).core in
        let step = drive_within Fits records credit core (last - steps) runs.1 runs.0 (awake core on).1 in
        let left : (last - steps - 1) ≡ (last - (steps + 1)) = omega arith in record {
          regions = regions_driven (λ (regions : List Region). regions ≡ standard_regions) core goes.regions;
          few = omega (arith, step.some);
          came = subst (λ within. (next.life.state ≡ Crashed) ⊎ ((next.life.state ≡ Running) × DrivesWithin next within)) left step.came;
        }) goes.came

  drive_calm : (name : List ℕ) (is_quiet : Bool) (core : CoreState) (steps count : ℕ) → IsCalm core → steps + 7999 ≤ STEPS_MOST → LeavesCalm steps 7999 (drive_effect name is_quiet core steps count)
  unfolding drive_effect
  drive_calm name is_quiet core steps count is few =
      cond_both (is_up core.life.state) (drive_steps count name is_quiet core steps) (core_tells core steps (event.NotRunning name)) (LeavesCalm steps 7999)
      (λ up. driven (own_up core.life.state is.own up)) (λ _. told_calm core steps 7999 _ is)
    where
      driven : core.life.state ≡ Running → LeavesCalm steps 7999 (drive_steps count name is_quiet core steps)
      driven running =
          let last = steps + 7999 in
          let made = drive_length_within count core steps in
          let all : 7999 ≡ last - steps = omega arith in
          let went = steps_keep (GoesWithin last) (step_within last) count core steps
          (record { regions = is.regions; few = omega arith; came = inr (running, subst (DrivesWithin core) all (is.runs running)) }) in
          drive_as name is_quiet (LeavesCalm steps 7999) count core steps
          (record { calm = calm_within last (after_steps made core) (steps + made) (omega arith) went; ending = refl; steps = went.few })
          (λ less on full. let next = step_within last (after_steps made core) (steps + made) on went in absurd (omega (arith, full, next.few, few)))

  -- ---- boots

  demo_found : (images : List ImageState) (name : List ℕ) → All (λ (image : ImageState). IsDemoImage image.bytes) images → IfSome (image_bytes images name) IsDemoImage
  demo_found [] name all = tt
  demo_found (first ∷ later) name all =
      cond_both (bytes_eq first.name name) (Some first) (find (λ (image : ImageState). bytes_eq image.name name) later)
      (λ (found : Option ImageState). IfSome (option_map (λ (image : ImageState). image.bytes) found) IsDemoImage)
      (λ _. All-head (λ (image : ImageState). IsDemoImage image.bytes) first later all)
      (λ _. demo_found later name (All-tail (λ (image : ImageState). IsDemoImage image.bytes) first later all))

  -- an image that was found is that of a worker of a demo
  abbrev IsDemoFound : ImageAnswer → Type 0
  IsDemoFound (Ok bytes) = IsDemoImage bytes × (length bytes ≤ IMAGE_MOST)
  IsDemoFound (Err why) = Unit {0}

  told_found : (found : Option (List ℕ)) → IfSome found IsDemoImage → IsDemoFound (image_or (Err no_image.Missing) found)
  told_found None is_demo = tt
  told_found (Some bytes) is_demo =
      cond_both (nat_le (length bytes) IMAGE_MOST) (Ok bytes) (Err (no_image.TooLarge (length bytes))) IsDemoFound
      (λ fits. (is_demo, leb-true (length bytes) IMAGE_MOST fits)) (λ _. tt)

  module _ (name image : List ℕ) (core : CoreState) (steps : ℕ) (is : IsCalm core) where
    -- a core that runs an image of a demo in this life
    started : (life : CoreLife) (reply : ℕ) → life.state ≡ Running → reply < 497 → length (image_of (worker_lines reply)) ≤ IMAGE_MOST → load_fault (image_of (worker_lines reply)) core.regions ≡ None
        → DrivesWithin (started_core life (with_load core image (load_of (image_of (worker_lines reply)) core.regions))) 7999
    started life reply running small short fits =
        let bytes = image_of (worker_lines reply) in
        let loads = bootable.loads reply small short (subst (λ (regions : List Region). Loads bytes regions) is.regions fits) in
        let back = sym is.regions in
        boot_within Fits records credit core image (load_of bytes core.regions) life 7999 (ap is_up running)
        (subst (λ (regions : List Region). IsProgram Fits records credit (load_of bytes regions).memory (placed_map regions (load_of bytes regions))) back loads.0)
        (subst (λ (regions : List Region). Fits (new_worker (load_of bytes regions).entry)) back loads.1)
        (subst (λ (regions : List Region). IfSome (load_of bytes regions).rings AreRoomy) back loads.2)
        (subst (λ (regions : List Region). records (new_worker (load_of bytes regions).entry) ≤ 7999) back loads.3)
        (subst (λ (regions : List Region). credit (new_worker (load_of bytes regions).entry) ≤ 1) back loads.4)

    starts : (life : CoreLife) (bytes : List ℕ) → life.state ≡ Running → IsDemoImage bytes → length bytes ≤ IMAGE_MOST → load_fault bytes core.regions ≡ None
        → IsCalm (started_core life (with_load core image (load_of bytes core.regions)))
    starts life bytes running (reply, small, same) short fits = record {
      regions = is.regions;
      own = ap is_own running;
      runs = λ _. subst (λ (b : List ℕ). DrivesWithin (started_core life (with_load core image (load_of b core.regions))) 7999) (sym same)
          (started life reply running small (subst (λ (b : List ℕ). length b ≤ IMAGE_MOST) same short) (subst (λ (b : List ℕ). load_fault b core.regions ≡ None) same fits));
    }

    loaded : (life : CoreLife) (found : ImageAnswer) → life.state ≡ Running → image_fault core found ≡ None → IsDemoFound found → IsCalm (started_core life (with_load core image (load_in core found)))
    loaded life (Err why) running clear is_demo = absurd (cc)
    loaded life (Ok bytes) running clear is_demo = starts life bytes running is_demo.0 is_demo.1 (none_mapped start_fault.Load (load_fault bytes core.regions) clear)

    first_running : (answer : (first_start Running 1 power.First core.life).answer ≡ Ok power.First) → (first_start Running 1 power.First core.life).life.state ≡ Running
    first_running =
        cond_both (core.life.incarnation == most) (refusal_of life_fault.IncarnationsSpent core.life) _ (λ (out : Outcome Power). out.answer ≡ Ok power.First → out.life.state ≡ Running)
        (λ _ is. absurd (cc)) (λ _ _. refl)

    -- a core that is offline runs, and no core of a demo is attached
    runs_first : (state : LifeState) → is_offline state ≡ true → (boot_to (line_of state).boot core.life).answer ≡ Ok power.First → (boot_to (line_of state).boot core.life).life.state ≡ Running
    runs_first Offline off first = first_running first
    runs_first other off first = absurd (true≢false (sym off))

    attaches_none : (state : LifeState) → core.life.state ≡ state → is_offline state ≡ false → (boot_to (line_of state).boot core.life).answer ≡ Ok power.First → ⊥
    attaches_none Offline there on first = true≢false on
    attaches_none Running there on first = no_first core.life first
    attaches_none Crashed there on first = no_first core.life first
    attaches_none Attached there on first = true≢false (sym (sym (ap is_own there) ∙ is.own))
    attaches_none Detached there on first = true≢false (sym (sym (ap is_own there) ∙ is.own))

    -- one user more
    counted : (to : Option LifeState) (users : ℕ) → (boot_to to core.life).answer ≡ Ok (power.Counted users) → IsCalm (record core { life = (boot_to to core.life).life })
    counted None users answer =
        cond_both (core.life.users == most) (refusal_of life_fault.UsersFull core.life) _ (λ (out : Outcome Power). IsCalm (record core { life = out.life }))
        (λ _. is)
        (λ _. record { regions = is.regions; own = is.own; runs = λ running. users_within Fits records credit core (core.life.users + 1) 7999 (is.runs running) })
    counted (Some state) users answer =
        cond_both (core.life.incarnation == most) (refusal_of life_fault.IncarnationsSpent core.life) _ (λ (out : Outcome Power). out.answer ≡ Ok (power.Counted users) → IsCalm (record core { life = out.life }))
        (λ _ is. absurd (cc)) (λ _ is. absurd (cc)) answer

    outcome_calm : (found : ImageAnswer) {out : CoreOutcome Start StartFault} → BootOutcome core image found out → IsDemoFound found → IsCalm out.core
    outcome_calm found (OneMore users answer) is_demo = counted (line_of core.life.state).boot users answer
    outcome_calm found (Runs first off clear) is_demo = loaded (life_after_boot core.life).life found (runs_first core.life.state off first) clear is_demo
    outcome_calm found (Attaches first on) is_demo = absurd (attaches_none core.life.state refl on first)
    outcome_calm found came is_demo = is

    boot_calm : (images : List ImageState) → All (λ (made : ImageState). IsDemoImage made.bytes) images → LeavesCalm steps 0 (started_effect (start_act.Boot image) images (Err no_image.Missing) (record { name = name; core = core }) steps)
    unfolding started_effect
    boot_calm images all = record {
      calm = outcome_calm (found_image images (Err no_image.Missing) image) (boot_outcome core image (found_image images (Err no_image.Missing) image)) (told_found (image_bytes images image) (demo_found images image all));
      ending = refl;
      steps = omega arith;
    }

  -- ---- shutdowns, drivers

  module _ (name : List ℕ) (core : CoreState) (steps : ℕ) (is : IsCalm core) where
    -- a leave that ends nothing but the core's users
    leave_calm : (last : Event) (left : CoreState) (answer : Result Leave LeaveFault) → IsCalm left → (answer ≡ Ok leave.Limit → ⊥) → LeavesCalm steps 1 (leave_effect name last steps (record { core = left; answer = answer }))
    leave_calm last left (Err why) calm goes = record { calm = calm; ending = refl; steps = omega arith }
    leave_calm last left (Ok (leave.Users users)) calm goes = record { calm = calm; ending = refl; steps = omega arith }
    leave_calm last left (Ok (leave.Last None)) calm goes = record { calm = calm; ending = refl; steps = omega arith }
    leave_calm last left (Ok (leave.Last (Some inc))) calm goes = record { calm = calm; ending = refl; steps = omega arith }
    leave_calm last left (Ok leave.Limit) calm goes = absurd (goes refl)

    -- where a step may be taken, none is asked in vain
    not_limit : {may : Bool} {gone : CoreState} {after : Outcome Left} {out : CoreOutcome Leave LeaveFault} → LeaveOutcome may core gone after out → may ≡ true → out.answer ≡ Ok leave.Limit → ⊥
    not_limit (NoLeave why) may is = absurd (cc)
    not_limit (OneFewer users answer) may is = absurd (cc)
    not_limit (IsOut caller out) may is = absurd (cc)
    not_limit (NoStep none) may is = true≢false (sym may ∙ none)
    not_limit (Empties all live was) may is = absurd (cc)

    -- one user fewer
    fewer : (to : Option LifeState) (users : ℕ) → (leave_to life_fault.NotPowered to core.life).answer ≡ Ok (left.Users users) → IsCalm (record core { life = (leave_to life_fault.NotPowered to core.life).life })
    fewer None users answer = is
    fewer (Some state) users answer =
        cond_both (core.life.users == 1) _ _ (λ (out : Outcome Left). out.answer ≡ Ok (left.Users users) → IsCalm (record core { life = out.life }))
        (λ _ is. absurd (cc))
        (λ _ _. record { regions = is.regions; own = is.own; runs = λ running. users_within Fits records credit core (core.life.users - 1) 7999 (is.runs running) }) answer

    last_off : (without_user Offline core.life).answer ≡ Ok left.Last → (without_user Offline core.life).life.state ≡ Offline
    last_off =
        cond_both (core.life.users == 1) _ _ (λ (out : Outcome Left). out.answer ≡ Ok left.Last → out.life.state ≡ Offline) (λ _ _. refl) (λ _ is. absurd (cc))

    -- none are left: the core is offline
    off : (state : LifeState) → (leave_to life_fault.NotPowered (line_of state).shutdown core.life).answer ≡ Ok left.Last → (leave_to life_fault.NotPowered (line_of state).shutdown core.life).life.state ≡ Offline
    off Offline answer = absurd (cc)
    off Crashed answer = absurd (cc)
    off Detached answer = absurd (cc)
    off Running answer = last_off answer
    off Attached answer = last_off answer

    left_calm : {may : Bool} {out : CoreOutcome Leave LeaveFault} → LeaveOutcome may core (unloaded_core (life_after_shutdown core.life).life core) (life_after_shutdown core.life) out → IsCalm out.core
    left_calm (OneFewer users answer) = fewer (line_of core.life.state).shutdown users answer
    left_calm (Empties all live was) =
        let there = off core.life.state all in record { regions = is.regions; own = ap is_own there; runs = λ running. absurd (true≢false (sym (ap is_up (sym there ∙ running)))) }
    left_calm came = is

    shutdown_calm : steps + 1 ≤ STEPS_MOST → LeavesCalm steps 1 (shutdown_effect name core steps)
    unfolding shutdown_effect
    shutdown_calm few =
        leave_calm (event.Offline name) (shutdown_of (may_step steps) core).core (shutdown_of (may_step steps) core).answer (left_calm (shutdown_outcome (may_step steps) core)) (not_limit (shutdown_outcome (may_step steps) core) (steps_left steps few))

    offline_at : (state : LifeState) (why : Option AddFault) → cond (is_offline state) why (Some add.NotOffline) ≡ None → state ≡ Running → ⊥
    offline_at state why none running =
        absurd (true≢false (ap is_some (sym (ap (λ (s : LifeState). cond (is_offline s) why (Some add.NotOffline)) running) ∙ none)))

    declared_at : (channel : List ℕ) (kind : DriverKind) (why : Option AddFault) → driver_add_fault core channel ≡ why → LeavesCalm steps 0 (driver_effect_unless name core steps channel kind why)
    declared_at channel kind None clear = record {
      calm = record { regions = is.regions; own = is.own; runs = λ running. absurd (offline_at core.life.state _ clear running) };
      ending = refl;
      steps = omega arith;
    }
    declared_at channel kind (Some why) refused = told_calm core steps 0 _ is

    driver_calm : (channel : List ℕ) (kind : DriverKind) → LeavesCalm steps 0 (driver_effect name core steps channel kind)
    unfolding driver_effect
    driver_calm channel kind = declared_at channel kind (driver_add_fault core channel) refl

  -- ---- commands

  record AreCalm (objects : ObjectsState) : Type 0 where
    pub cores : All (λ (named : NamedCoreState). IsCalm named.core) objects.cores
    pub images : All (λ (image : ImageState). IsDemoImage image.bytes) objects.images

  record LeavesRun (before within : ℕ) (effect : RunEffect) : Type 0 where
    pub calm : AreCalm effect.run.objects
    pub ending : effect.ending ≡ None
    pub steps : effect.run.steps ≤ before + within

  run_told_calm : (run : RunState) (within : ℕ) (told : Event) → AreCalm run.objects → LeavesRun run.steps within (run_tells run told)
  run_told_calm run within told are = record { calm = are; ending = refl; steps = omega arith }

  -- whatever the outcome of a command is
  module _ (run : RunState) (within : ℕ) (are : AreCalm run.objects) where
    -- an act leaves the core at a place calm
    core_calm : (place : ℕ) (named : NamedCoreState) (effect : CoreEffect) → slice_get run.objects.cores place ≡ Some named → (IsCalm named.core → LeavesCalm run.steps within effect)
        → LeavesRun run.steps within (core_effect_at run place named effect)
    core_calm place named effect found leaves =
        let left = leaves (item_at (λ (named : NamedCoreState). IsCalm named.core) run.objects.cores place named found are.cores) in record {
          calm = record { cores = All-set (λ (named : NamedCoreState). IsCalm named.core) run.objects.cores place _ left.calm are.cores; images = are.images };
          ending = left.ending;
          steps = left.steps;
        }

    -- an act on a core, which its name may have, or a link, or nothing
    act_calm : (asked : CoreAct) → ((named : NamedCoreState) → IsCalm named.core → LeavesCalm run.steps within (core_act_effect run.objects.images (Err no_image.Missing) run.objects.is_quiet named run.steps asked))
        → {name : List ℕ} {effect : RunEffect} → CommandOutcome (Err no_image.Missing) run (line.On name (under.Core asked)) effect → LeavesRun run.steps within effect
    unfolding link_effect core_effect
    act_calm asked leaves (ActsOnCore name wanted place named at) = core_calm place named _ at.found (leaves named)
    act_calm asked leaves (ActsOnLink name wanted place named at) = record { calm = record { cores = are.cores; images = are.images }; ending = refl; steps = omega arith }
    act_calm asked leaves (NamesNothing name wanted none) = run_told_calm run within _ are

    -- a core and an image that are made, or are not
    core_made : {name : List ℕ} {book : ℕ} {effect : RunEffect} → CommandOutcome (Err no_image.Missing) run (line.On name (under.Make (making.Core regions.Standard book))) effect → LeavesRun run.steps within effect
    unfolding link_effect core_effect
    core_made (MakesCore name set book none) = record {
      calm = record {
        cores = All-push (λ (named : NamedCoreState). IsCalm named.core) run.objects.cores _ are.cores (record { regions = refl; own = refl; runs = λ running. absurd (true≢false (ap is_up (sym running))) });
        images = are.images;
      };
      ending = refl;
      steps = omega arith;
    }
    core_made (ActsOnCore name wanted place named at) = core_calm place named _ at.found (told_calm named.core run.steps within _)
    core_made (ActsOnLink name wanted place named at) = record { calm = record { cores = are.cores; images = are.images }; ending = refl; steps = omega arith }
    core_made came = run_told_calm run within _ are

    image_made : (reply : ℕ) → reply < 497 → {name : List ℕ} {effect : RunEffect} → CommandOutcome (Err no_image.Missing) run (line.Image name (worker_lines reply)) effect → LeavesRun run.steps within effect
    image_made reply small (MakesImage name lines) = record {
      calm = record { cores = are.cores; images = All-push (λ (image : ImageState). IsDemoImage image.bytes) run.objects.images _ are.images (reply, small, refl) };
      ending = refl;
      steps = omega arith;
    }
    image_made reply small (FindsImage name lines) = run_told_calm run within _ are

  abbrev Leaves : Command → ℕ → Type 0
  Leaves wanted within = (run : RunState) → AreCalm run.objects → run.steps + within ≤ STEPS_MOST → LeavesRun run.steps within (effect_of (Err no_image.Missing) run wanted)

  quiet_leaves : (set : Switch) → Leaves (command.Quiet set) 0
  unfolding effect_of quiet_effect
  quiet_leaves set run are few = record { calm = record { cores = are.cores; images = are.images }; ending = refl; steps = omega arith }

  core_leaves : (name : List ℕ) (book : ℕ) → Leaves (command.Core name regions.Standard book) 0
  core_leaves name book run are few = core_made run 0 are (outcome (Err no_image.Missing) run (command.Core name regions.Standard book))

  driver_leaves : (name channel : List ℕ) (kind : DriverKind) → Leaves (command.Driver name channel kind) 0
  unfolding core_act_effect
  driver_leaves name channel kind run are few =
      act_calm run 0 are (act.Driver channel kind) (λ named is. driver_calm named.name named.core run.steps is channel kind) (outcome (Err no_image.Missing) run (command.Driver name channel kind))

  boot_leaves : (name image : List ℕ) → Leaves (command.Boot name image) 0
  unfolding core_act_effect
  boot_leaves name image run are few =
      act_calm run 0 are (act.Start (start_act.Boot image)) (λ named is. boot_calm named.name image named.core run.steps is run.objects.images are.images)
      (outcome (Err no_image.Missing) run (command.Boot name image))

  drive_leaves : (name : List ℕ) (count : ℕ) → Leaves (command.Drive name count) 7999
  unfolding core_act_effect
  drive_leaves name count run are few =
      act_calm run 7999 are (act.Drive count) (λ named is. drive_calm named.name run.objects.is_quiet named.core run.steps count is few) (outcome (Err no_image.Missing) run (command.Drive name count))

  shutdown_leaves : (name : List ℕ) → Leaves (command.Shutdown name) 1
  unfolding core_act_effect
  shutdown_leaves name run are few =
      act_calm run 1 are act.Shutdown (λ named is. shutdown_calm named.name named.core run.steps is few) (outcome (Err no_image.Missing) run (command.Shutdown name))

  image_leaves : (name : List ℕ) (reply : ℕ) → reply < 497 → Leaves (command.Image name (worker_lines reply)) 0
  image_leaves name reply small run are few = image_made run 0 are reply small (outcome (Err no_image.Missing) run (command.Image name (worker_lines reply)))

  -- ---- runs

  -- these commands do at most so many steps, and go to their end
  abbrev EndsWithin : List Command → ℕ → Type 0
  EndsWithin commands within = (run : RunState) → AreCalm run.objects → run.steps + within ≤ STEPS_MOST → (run_from (store_of []) run commands).ending ≡ None

  ends_none : EndsWithin [] 0
  ends_none run are few = ap (λ (left : Run). left.ending) (run_none (store_of []) run)

  ends_first : (first : Command) (more : List Command) (within later : ℕ) → Leaves first within → EndsWithin more later → EndsWithin (first ∷ more) (within + later)
  ends_first first more within later leaves rest run are few =
      let left = subst (LeavesRun run.steps within) (bare_is run first) (leaves run are (omega (arith, few))) in
      goes_on_run run first more left.ending ∙ rest (bare_effect run first).run left.calm (omega (arith, few, left.steps))

  -- more steps are enough too
  enough : (commands : List Command) (within most : ℕ) → within ≤ most → EndsWithin commands within → EndsWithin commands most
  enough commands within most less ends run are few = ends run are (omega (arith, few, less))

  module _ (more : List Command) (later : ℕ) (rest : EndsWithin more later) where
    core_ends : (session : ℕ) → EndsWithin (core_commands session ++ more) later
    core_ends session =
        cond_both (ltb session 8)
        (command.Core (session_core session) regions.Standard 128 ∷ command.Driver (session_core session) sample_channel driver.Sample ∷ []) []
        (λ (commands : List Command). EndsWithin (commands ++ more) later)
        (λ _. let name = session_core session in
        enough (command.Core name regions.Standard 128 ∷ command.Driver name sample_channel driver.Sample ∷ more) (0 + (0 + later)) later (omega arith)
        (ends_first (command.Core name regions.Standard 128) (command.Driver name sample_channel driver.Sample ∷ more) 0 (0 + later) (core_leaves name 128)
        (ends_first (command.Driver name sample_channel driver.Sample) more 0 later (driver_leaves name sample_channel driver.Sample) rest)))
        (λ _. rest)

  session_ends : (session reply : ℕ) (more : List Command) (later : ℕ) → reply < 497 → EndsWithin more later → EndsWithin (session_commands session reply ++ more) (8000 + later)
  session_ends session reply more later small rest =
      let name = session_core session in
      let image = session_image session in
      let lines = worker_lines reply in
      let tail = command.Image image lines ∷ command.Boot name image ∷ command.Drive name 100000 ∷ command.Shutdown name ∷ [] in
      let off = ends_first (command.Shutdown name) more 1 later (shutdown_leaves name) rest in
      let driven = ends_first (command.Drive name 100000) (command.Shutdown name ∷ more) 7999 (1 + later) (drive_leaves name 100000) off in
      let booted = ends_first (command.Boot name image) (command.Drive name 100000 ∷ command.Shutdown name ∷ more) 0 (7999 + (1 + later)) (boot_leaves name image) driven in
      let made = ends_first (command.Image image lines) (command.Boot name image ∷ command.Drive name 100000 ∷ command.Shutdown name ∷ more) 0 (0 + (7999 + (1 + later)))
      (image_leaves image reply small) booted in
      subst (λ (commands : List Command). EndsWithin commands (8000 + later)) (sym (append_assoc (core_commands session) tail more))
      (core_ends (tail ++ more) (8000 + later) (enough (tail ++ more) (0 + (0 + (7999 + (1 + later)))) (8000 + later) (omega arith) made) session)

  sessions_end : (seed count : ℕ) (more : List Command) (later : ℕ) → EndsWithin more later → EndsWithin (first_sessions seed count ++ more) (8000 * count + later)
  sessions_end seed zero more later rest = enough more later (8000 * 0 + later) (omega arith) rest
  sessions_end seed (suc session) more later rest =
      let reply = reply_length (number_at seed (suc session)) in
      subst (λ (commands : List Command). EndsWithin commands (8000 * suc session + later)) (sym (append_assoc (first_sessions seed session) (session_commands session reply) more))
      (λ run are few. sessions_end seed session (session_commands session reply ++ more) (8000 + later) (session_ends session reply more later (omega arith) rest) run are (omega (arith, few)))

  none_calm : AreCalm new_run.objects
  none_calm = record { cores = All-nil (λ (named : NamedCoreState). IsCalm named.core); images = All-nil (λ (image : ImageState). IsDemoImage image.bytes) }

  -- the run of a demo goes to its end
  pub demo_ends : (sessions : ℕ) → sessions ≤ 500 → (run_of (store_of []) (demo_commands sessions)).ending ≡ None
  unfolding demo_commands
  demo_ends sessions few =
      let all : (first_sessions sessions sessions ++ []) ≡ first_sessions sessions sessions = append-nil (first_sessions sessions sessions) in
      ends_first (command.Quiet switch.On) (first_sessions sessions sessions) 0 (8000 * sessions + 0) (quiet_leaves switch.On)
      (subst (λ (commands : List Command). EndsWithin commands (8000 * sessions + 0)) all (sessions_end sessions sessions [] 0 ends_none))
      new_run none_calm (omega (arith, few))
