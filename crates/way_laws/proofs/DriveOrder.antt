-- A drive of a core tells the takes of its actors one by one, each with its line, in the order in which they were handed.
use Rattle.std.proofs.Common.{◌≡◌, ◌≢◌, ℕ, zero, suc, ◌==◌, Bool, true, false, cond, List, [], ◌∷◌, ◌++◌, Option, Some, None, IfSome, is_some, option_map, unwrap_or, refl, sym, ap, ◌∙◌, arith}
use Rattle.std.proofs.lemmas.Bool.{cond_both, eqb-true, ne_eqb}
use Rattle.std.proofs.lemmas.List.{map-append, append-nil}
use Rattle.std.proofs.lemmas.List.Elements.{filter-append}
use Rattle.rp_base.specs.declared.kinds.BindFault.{BindFault}
use Rattle.rp_base.specs.declared.kinds.BindFault.TheVariants as bind_fault
use Rattle.rp_base.specs.declared.kinds.CrashKind.{CrashKind}
use Rattle.rp_base.specs.declared.kinds.CrashKind.TheVariants as kind
use Rattle.rp_base.specs.declared.kinds.End.{End}
use Rattle.rp_base.specs.declared.kinds.End.TheVariants as side
use Rattle.rp_base.specs.declared.kinds.Verdict.{Verdict}
use Rattle.rp_base.specs.declared.kinds.Verdict.TheVariants as verdict
use Rattle.proc_state.specs.Lives.{CoreLife, is_up}
use Rattle.lane_model.specs.declared.calls.CallEnd.{CallEnd}
use Rattle.lane_model.specs.declared.calls.CallEnd.TheVariants as ended
use Rattle.lane_model.specs.Links.{end_of}
use Rattle.lane_laws.specs.Handings.{Handing}
use Rattle.lane_laws.specs.Takes.{is_at}
use Rattle.journal.specs.declared.events.Event.{Event}
use Rattle.journal.specs.declared.events.Event.TheVariants as event
use Rattle.remote_core.specs.declared.workers.Work.{Work}
use Rattle.remote_core.specs.declared.workers.Work.TheVariants as work
use Rattle.remote_core.specs.Works.{work_of}
use Rattle.link_bench.specs.declared.benches.Reach.{Reach}
use Rattle.link_bench.specs.declared.benches.Reach.TheVariants as reach
use Rattle.link_bench.specs.Benches.{BenchState, link_in}
use Rattle.core_actors.specs.declared.progress.DriveOutcome.{DriveOutcome}
use Rattle.core_actors.specs.declared.progress.DriveOutcome.TheVariants as driven
use Rattle.core_actors.specs.ActorSteps.{drive_of_reach, drive_of_work, first_or_take, link_step}
use Rattle.core_actors.specs.PendingCalls.{AreOwnUsed}
use Rattle.crash_recover.specs.Cores.{CoreState}
use Rattle.crash_recover.specs.Drives.{DriveStep, after_record, drive_step, placed_map, step_with_report}
use Rattle.crash_recover.specs.KeptCores.{IsKeptBench}
use Rattle.core_laws.specs.DriveParts.{MayDrive}
use Rattle.core_laws.proofs.DriveWalks.{HoldOfSteps, both_known, step_walk}
use Rattle.command_run.specs.CoreDrives.{drive_effect, drive_steps, driven_events, step_events}
use Rattle.command_run.specs.CoreEffects.{CoreEffect, core_tells}
use Rattle.command_run.specs.CoreLives.{crash_events}
use Rattle.link_commands.specs.CallEvents.{end_event, refused_event, took_event}
use Rattle.run_laws.specs.Drives.{after_steps, drive_length_within, last_event, steps_events}
use Rattle.run_laws.proofs.CoresReady.{IsSoundCore, may_drive, sound_cores}
use Rattle.run_laws.proofs.ScriptDrives.{drive_as, drive_while_up, last_is}
use Rattle.act_laws.specs.CoreDeeds.{drive_deeds, driven_takes}
use Rattle.act_laws.specs.Deeds.{reach_takes}
use Rattle.way_laws.specs.CoreAccounts.{drive_takes, steps_takes}
use Rattle.way_laws.specs.TakersLines.{drive_lines, is_line_of, lines_for, lines_of, actor_takes}
use Rattle.way_laws.specs.WordedTakes.{ComesFromOpening, IsWordedTake, taker_of}
use Rattle.way_laws.proofs.DrivenTakes.{drive_told}
use Rattle.way_laws.proofs.DrivenWords.{DrivenTakesOne, drive_comes, drive_once}
use Rattle.way_laws.proofs.WordedLines.{once_worded}

-- ---- lines

-- what the line of a handing says of its taker
took_taker : (name : List ℕ) (who number : ℕ) (message : List ℕ) (judged : Verdict) → taker_of (took_event name who number message judged) ≡ Some who
took_taker name who number message (verdict.To endpoint) = refl
took_taker name who number message (verdict.Dropped dst) = refl
took_taker name who number message verdict.Malformed = refl
took_taker name who number message (verdict.Service what channel address endpoint) = refl
took_taker name who number message verdict.ServiceMalformed = refl

-- nothing is told of a take
abbrev NoneTold : (End → List Handing) → Type 0
NoneTold takes = (end : End) → takes end ≡ []

none_to : (takes : End → List Handing) (caller : ℕ) → NoneTold takes → actor_takes takes caller ≡ []
none_to takes zero none = none side.Host
none_to takes (suc zero) none = none side.Remote
none_to takes (suc (suc more)) none = refl

both_to : (takes later : End → List Handing) (caller : ℕ) → actor_takes (λ end. takes end ++ later end) caller ≡ actor_takes takes caller ++ actor_takes later caller
both_to takes later zero = refl
both_to takes later (suc zero) = refl
both_to takes later (suc (suc more)) = refl

-- a call that is no take tells nothing at either end
none_at : (found : Option End) (end : End) → cond {A = List Handing} (is_at found end) [] [] ≡ []
none_at found end = cond_both (is_at found end) [] [] (λ (told : List Handing). told ≡ []) (λ _. refl) (λ _. refl)

same_end : (one other : End) → Some one ≡ Some other → one ≡ other
same_end one other same = cc

other_ends : side.Remote ≢ side.Host
other_ends same = cc

-- the callers of a core's own actors
abbrev IsActor : ℕ → Type 0
IsActor zero = Unit {0}
IsActor (suc zero) = Unit {0}
IsActor (suc (suc more)) = ⊥

-- the own callers of a core are in use on the link that it has
own_if : (life : CoreLife) (found : Option BenchState) → IfSome found (IsKeptBench life) → IfSome found (λ (bench : BenchState). AreOwnUsed (link_in bench).callers)
own_if life None kept = tt
own_if life (Some bench) kept = kept.own

module _ (name : List ℕ) (caller : ℕ) where
  -- events that tell no take, beside takes of which none is told
  none_lines : (is_quiet : Bool) (takes : End → List Handing) (events : List Event) → lines_of caller events ≡ [] → NoneTold takes → lines_of caller events ≡ drive_lines is_quiet name caller takes
  none_lines is_quiet takes events empty none =
      empty ∙ sym (cond_both is_quiet [] (lines_for name caller (actor_takes takes caller)) (λ (lines : List Event). lines ≡ []) (λ _. refl) (λ _. ap (lines_for name caller) (none_to takes caller none)))

  both_lines : (is_quiet : Bool) (takes later : End → List Handing) (first rest : List Event) → lines_of caller first ≡ drive_lines is_quiet name caller takes → lines_of caller rest ≡ drive_lines is_quiet name caller later
      → lines_of caller (first ++ rest) ≡ drive_lines is_quiet name caller (λ end. takes end ++ later end)
  both_lines true takes later first rest one two = filter-append (is_line_of caller) first rest ∙ ap (λ (lines : List Event). lines ++ lines_of caller rest) one ∙ two
  both_lines false takes later first rest one two =
      filter-append (is_line_of caller) first rest ∙ (λ i. one i ++ two i) ∙ sym (map-append _ (actor_takes takes caller) (actor_takes later caller)) ∙ ap (lines_for name caller) (sym (both_to takes later caller))

  -- ---- the end of a call

  refused_none : (who : ℕ) (why : BindFault) → lines_of caller (refused_event name who why ∷ []) ≡ []
  refused_none who (bind_fault.AddressTaken address) = refl
  refused_none who bind_fault.EndpointsFull = refl
  refused_none who (bind_fault.NotBound address) = refl

  -- the line of a take, of this caller or of another
  one_line : (line : Event) (who : ℕ) → taker_of line ≡ Some who → lines_of caller (line ∷ []) ≡ cond (who == caller) (line ∷ []) []
  one_line line who is = ap (λ (found : Option ℕ). cond (unwrap_or (option_map (λ taker. taker == caller) found) false) (line ∷ []) []) is

  -- what its taker is told, where one of the actors took one handing
  told_host : (takes : End → List Handing) (handing : Handing) → takes side.Host ≡ handing ∷ [] → takes side.Remote ≡ [] → actor_takes takes caller ≡ cond (0 == caller) (handing ∷ []) []
  told_host takes handing one none = by caller
    where
      by : (number : ℕ) → actor_takes takes number ≡ cond (0 == number) (handing ∷ []) []
      by zero = one
      by (suc zero) = none
      by (suc (suc more)) = sym (ap (λ (same : Bool). cond same (handing ∷ []) []) (ne_eqb 0 (suc (suc more)) (λ equal. absurd (omega (arith, equal)))))

  told_remote : (takes : End → List Handing) (handing : Handing) → takes side.Remote ≡ handing ∷ [] → takes side.Host ≡ [] → actor_takes takes caller ≡ cond (1 == caller) (handing ∷ []) []
  told_remote takes handing one none = by caller
    where
      by : (number : ℕ) → actor_takes takes number ≡ cond (1 == number) (handing ∷ []) []
      by zero = none
      by (suc zero) = one
      by (suc (suc more)) = sym (ap (λ (same : Bool). cond same (handing ∷ []) []) (ne_eqb 1 (suc (suc more)) (λ equal. absurd (omega (arith, equal)))))

  -- the line of a handing, as it is told by its taker
  told_lines : (who : ℕ) (handing : Handing)
      → cond (who == caller) (took_event name who handing.sent.number handing.sent.message handing.verdict ∷ []) [] ≡ lines_for name caller (cond (who == caller) (handing ∷ []) [])
  told_lines who handing = by (who == caller) refl
    where
      by : (same : Bool) → (who == caller) ≡ same
          → cond same (took_event name who handing.sent.number handing.sent.message handing.verdict ∷ []) [] ≡ lines_for name caller (cond same (handing ∷ []) [])
      by true is = ap (λ (number : ℕ). took_event name number handing.sent.number handing.sent.message handing.verdict ∷ []) (eqb-true who caller is)
      by false is = refl

  module _ (takes : End → List Handing) (bench : BenchState) (own : AreOwnUsed (link_in bench).callers) where
    -- the end of a call of this caller, against what its actor is told
    abbrev IsTold : ℕ → CallEnd → Type 0
    IsTold who came = lines_of caller (end_event name (link_in bench) who came ∷ []) ≡ lines_for name caller (actor_takes takes caller)

    worded_told : (who number : ℕ) (judged : Verdict) (handing : Handing) → end_event name (link_in bench) who (ended.Took number judged) ≡ took_event name who handing.sent.number handing.sent.message handing.verdict
        → actor_takes takes caller ≡ cond (who == caller) (handing ∷ []) [] → IsTold who (ended.Took number judged)
    worded_told who number judged handing line told =
        let taken = took_event name who handing.sent.number handing.sent.message handing.verdict in
        ap (λ (one : Event). lines_of caller (one ∷ [])) line ∙ one_line taken who (took_taker name who handing.sent.number handing.sent.message handing.verdict)
        ∙ told_lines who handing ∙ ap (lines_for name caller) (sym told)

    took_told : (who number : ℕ) (judged : Verdict) → IsActor who → IsWordedTake takes (link_in bench) who number judged → IsTold who (ended.Took number judged)
    took_told zero number judged is has =
        let host : has.end ≡ side.Host = same_end has.end side.Host (sym has.is_at ∙ own.host) in
        worded_told 0 number judged has.handing (has.line name)
        (told_host takes has.handing (ap takes (sym host) ∙ has.told) (has.none_else side.Remote (λ same. other_ends (same ∙ host))))
    took_told (suc zero) number judged is has =
        let remote : has.end ≡ side.Remote = same_end has.end side.Remote (sym has.is_at ∙ own.remote) in
        worded_told 1 number judged has.handing (has.line name)
        (told_remote takes has.handing (ap takes (sym remote) ∙ has.told) (has.none_else side.Host (λ same. other_ends (sym remote ∙ sym same))))
    took_told (suc (suc more)) number judged is has = absurd is

    none_told : (who : ℕ) (came : CallEnd) → lines_of caller (end_event name (link_in bench) who came ∷ []) ≡ [] → NoneTold takes → IsTold who came
    none_told who came empty none = empty ∙ ap (lines_for name caller) (sym (none_to takes caller none))

    end_told : (who : ℕ) (came : CallEnd) → IsActor who → DrivenTakesOne (driven.Ended who came) (Some bench) → ((end : End) → takes end ≡ reach_takes (link_in bench) who (reach.Ended came) end) → IsTold who came
    end_told who (ended.Took number judged) is one tells = took_told who number judged is (once_worded takes (link_in bench) who number judged one tells)
    end_told who (ended.Sent number) is one tells = none_told who (ended.Sent number) refl (λ end. tells end ∙ none_at (end_of (link_in bench).callers who) end)
    end_told who (ended.Gave number) is one tells = none_told who (ended.Gave number) refl (λ end. tells end ∙ none_at (end_of (link_in bench).callers who) end)
    end_told who (ended.Bound endpoint) is one tells = none_told who (ended.Bound endpoint) refl (λ end. tells end ∙ none_at (end_of (link_in bench).callers who) end)
    end_told who (ended.Unbound endpoint) is one tells = none_told who (ended.Unbound endpoint) refl (λ end. tells end ∙ none_at (end_of (link_in bench).callers who) end)
    end_told who (ended.Busy holder) is one tells = none_told who (ended.Busy holder) refl (λ end. tells end ∙ none_at (end_of (link_in bench).callers who) end)
    end_told who (ended.Dead era) is one tells = none_told who (ended.Dead era) refl (λ end. tells end ∙ none_at (end_of (link_in bench).callers who) end)
    end_told who (ended.NoBuffer accepted returned) is one tells = none_told who (ended.NoBuffer accepted returned) refl (λ end. tells end ∙ none_at (end_of (link_in bench).callers who) end)
    end_told who (ended.BookFull accepted) is one tells = none_told who (ended.BookFull accepted) refl (λ end. tells end ∙ none_at (end_of (link_in bench).callers who) end)
    end_told who (ended.Empty accepted) is one tells = none_told who (ended.Empty accepted) refl (λ end. tells end ∙ none_at (end_of (link_in bench).callers who) end)
    end_told who (ended.Refused why) is one tells = none_told who (ended.Refused why) (refused_none who why) (λ end. tells end ∙ none_at (end_of (link_in bench).callers who) end)

  -- ---- a step of the actors

  crash_none : (why : CrashKind) (closed : Option ℕ) → lines_of caller (crash_events name why closed) ≡ []
  crash_none why None = refl
  crash_none why (Some inc) = refl

  -- the caller of a call that a step ended is an actor's
  abbrev OfActor : DriveOutcome → Type 0
  OfActor (driven.Ended who came) = IsActor who
  OfActor other = Unit {0}

  module _ (is_quiet : Bool) where
    driven_told : (came : DriveOutcome) (found : Option BenchState) (takes : End → List Handing) → OfActor came → IfSome found (λ (bench : BenchState). AreOwnUsed (link_in bench).callers) → DrivenTakesOne came found
        → ((end : End) → takes end ≡ driven_takes came found end) → lines_of caller (driven_events name is_quiet found came) ≡ drive_lines is_quiet name caller takes
    driven_told driven.Idle found takes is own one tells = none_lines is_quiet takes [] refl tells
    driven_told driven.Stepped found takes is own one tells = none_lines is_quiet takes [] refl tells
    driven_told (driven.Ended who came) None takes is own one tells = absurd one
    driven_told (driven.Ended who came) (Some bench) takes is own one tells = by is_quiet
      where
        line : Event
        line = end_event name (link_in bench) who came

        by : (quiet : Bool) → lines_of caller (cond quiet [] (line ∷ [])) ≡ drive_lines quiet name caller takes
        by true = refl
        by false = end_told takes bench own who came is one tells
    driven_told (driven.Worker why closed) found takes is own one tells = none_lines is_quiet takes (driven_events name is_quiet found (driven.Worker why closed)) (crash_none kind.Fatal closed) tells
    driven_told (driven.Crashed why closed) found takes is own one tells = none_lines is_quiet takes (crash_events name why closed) (crash_none why closed) tells

    reach_actor : (who : ℕ) (came : Reach) → IsActor who → OfActor (drive_of_reach who came)
    reach_actor who (reach.At step) is = tt
    reach_actor who (reach.Ended came) is = is
    reach_actor who reach.Limit is = tt

    work_actor : (core : CoreState) (done : Work) → OfActor (step_with_report (record { core = core; driven = drive_of_work done })).driven
    work_actor core work.Nothing = tt
    work_actor core (work.Ask wanted) = tt
    work_actor core work.Halted = tt
    work_actor core (work.Crash why) = tt
    work_actor core (work.Fault why) = tt

    actor_parts : HoldOfSteps (λ (core : CoreState). Unit {0}) (λ (step : DriveStep). OfActor step.driven)
    actor_parts = record {
      rest = λ core is. tt;
      turn = λ who core is. tt;
      host = λ core bench there busy is. reach_actor 0 (link_step bench 0 (first_or_take core.actors.host_calls)).reach tt;
      call = λ core bench there busy is. reach_actor 1 (link_step bench 1 (first_or_take core.actors.worker_calls)).reach tt;
      work = λ core load there silent busy is.
          let map = placed_map core.regions load in work_actor (after_record core load map) (work_of load.memory map (is_some core.bench) core.actors.worker);
    }

    step_told : (core : CoreState) → MayDrive core → IsSoundCore core → IsSoundCore (drive_step core).core → IfSome core.bench (λ (bench : BenchState). ComesFromOpening (link_in bench))
        → lines_of caller (step_events name is_quiet (drive_step core)) ≡ drive_lines is_quiet name caller (drive_deeds core).takes
    step_told core may sound next comes =
        driven_told (drive_step core).driven (drive_step core).core.bench (drive_deeds core).takes (step_walk _ (λ (step : DriveStep). OfActor step.driven) actor_parts core tt)
        (own_if (drive_step core).core.life (drive_step core).core.bench next.kept) (drive_once core may sound.reached comes) (λ end. drive_told end core)

    -- ---- a drive

    steps_told : (count : ℕ) (core : CoreState) (steps : ℕ) → is_up core.life.state ≡ true → IsSoundCore core → IfSome core.bench (λ (bench : BenchState). ComesFromOpening (link_in bench))
        → lines_of caller (steps_events (drive_length_within count core steps) name is_quiet core) ≡ drive_lines is_quiet name caller (drive_takes count core steps)
    unfolding steps_events steps_takes
    steps_told =
        drive_while_up
        (λ made core. IsSoundCore core → IfSome core.bench (λ (bench : BenchState). ComesFromOpening (link_in bench))
        → lines_of caller (steps_events made name is_quiet core) ≡ drive_lines is_quiet name caller (steps_takes made core))
        (λ core sound comes. none_lines is_quiet (steps_takes 0 core) [] refl (λ end. refl))
        (λ more core up later sound comes.
        let next = (drive_step core).core in
        let may = may_drive core up sound in
        let stays = sound_cores.drive core up sound in
        both_lines is_quiet (drive_deeds core).takes (steps_takes more next) (step_events name is_quiet (drive_step core)) (steps_events more name is_quiet next)
        (step_told core may sound stays comes) (later stays (drive_comes core may sound.reached comes)))

    module _ (core : CoreState) (steps count : ℕ) (sound : IsSoundCore core) (comes : IfSome core.bench (λ (bench : BenchState). ComesFromOpening (link_in bench))) where
      walked_told : is_up core.life.state ≡ true → lines_of caller (drive_steps count name is_quiet core steps).events ≡ drive_lines is_quiet name caller (drive_takes count core steps)
      walked_told up =
          let told = steps_told count core steps up sound comes in
          let made = steps_events (drive_length_within count core steps) name is_quiet core in
          let left = after_steps (drive_length_within count core steps) core in
          let behind : (ending : List Event) → lines_of caller ending ≡ [] → lines_of caller (made ++ ending) ≡ drive_lines is_quiet name caller (drive_takes count core steps)
          = λ ending none. filter-append (is_line_of caller) made ending ∙ ap (λ (lines : List Event). lines_of caller made ++ lines) none ∙ append-nil (lines_of caller made) ∙ told in
          drive_as name is_quiet (λ (effect : CoreEffect). lines_of caller effect.events ≡ drive_lines is_quiet name caller (drive_takes count core steps)) count core steps
          (behind (last_event name left ∷ []) (last_is name (λ (last : Event). lines_of caller (last ∷ []) ≡ []) left refl refl refl))
          (λ _ _ _. behind [] refl)

      -- a drive tells the lines of what its actors are told, caller by caller
      pub drive_in_order : lines_of caller (drive_effect name is_quiet core steps count).events ≡ drive_lines is_quiet name caller (cond (is_up core.life.state) (drive_takes count core steps) (λ end. []))
      unfolding drive_effect
      drive_in_order =
          both_known (is_up core.life.state) (λ (effect : CoreEffect) (takes : End → List Handing). lines_of caller effect.events ≡ drive_lines is_quiet name caller takes)
          (drive_steps count name is_quiet core steps) (core_tells core steps (event.NotRunning name)) (drive_takes count core steps) (λ end. [])
          walked_told (λ _. none_lines is_quiet (λ end. []) (event.NotRunning name ∷ []) refl (λ end. refl))
