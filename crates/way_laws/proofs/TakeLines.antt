-- Each line of a take that an act on a link tells, or a step of a core's actors, is the line of a handing that is told.
use Rattle.std.proofs.Common.{◌≡◌, ℕ, Bool, true, false, List, [], ◌∷◌, Option, Some, None, refl, sym, ◌∙◌}
use Rattle.std.specs.List.{AllByRecursion}
use Rattle.std.specs.Prelude.{IfSome, if◌then◌else◌}
use Rattle.std.proofs.lemmas.Bool.{cond_both, true≢false}
use Rattle.std.proofs.lemmas.List.Elements.{All-from_recursion}
use Rattle.rp_base.specs.declared.kinds.BindFault.{BindFault}
use Rattle.rp_base.specs.declared.kinds.BindFault.TheVariants as bind_fault
use Rattle.rp_base.specs.declared.kinds.CrashKind.{CrashKind}
use Rattle.rp_base.specs.declared.kinds.CrashKind.TheVariants as kind
use Rattle.rp_base.specs.declared.kinds.End.{End}
use Rattle.lane_model.specs.declared.calls.CallEnd.{CallEnd}
use Rattle.lane_model.specs.declared.calls.CallEnd.TheVariants as ended
use Rattle.lane_model.specs.Links.{LinkState}
use Rattle.channel_bus.specs.Sides.{EndState}
use Rattle.journal.specs.declared.events.Event.{Event}
use Rattle.journal.specs.declared.events.Event.TheVariants as event
use Rattle.link_bench.specs.declared.acts.ActAnswer.{ActAnswer}
use Rattle.link_bench.specs.declared.acts.ActAnswer.TheVariants as answer
use Rattle.link_bench.specs.declared.acts.LinkAct.{LinkAct}
use Rattle.link_bench.specs.declared.bench_crashes.Reclaim.{Reclaim}
use Rattle.link_bench.specs.declared.bench_crashes.Reclaim.TheVariants as reclaim
use Rattle.link_bench.specs.declared.benches.BenchFault.{BenchFault}
use Rattle.link_bench.specs.declared.benches.BenchFault.TheVariants as fault
use Rattle.link_bench.specs.declared.benches.Reach.{Reach}
use Rattle.link_bench.specs.declared.benches.Reach.TheVariants as reach
use Rattle.link_bench.specs.declared.turns.TurnEnd.{TurnEnd}
use Rattle.link_bench.specs.declared.turns.TurnEnd.TheVariants as turn_end
use Rattle.link_bench.specs.Acts.{IsFitAct, link_act}
use Rattle.link_bench.specs.Benches.{BenchState, link_in}
use Rattle.link_bench.specs.Watchers.{nobody_sees}
use Rattle.core_actors.specs.declared.progress.DriveOutcome.{DriveOutcome}
use Rattle.core_actors.specs.declared.progress.DriveOutcome.TheVariants as driven
use Rattle.core_actors.specs.ActorEnds.{actors_after_end}
use Rattle.core_laws.specs.BenchMoves.{IsReachedBench, IsReachedCore}
use Rattle.core_laws.specs.DriveParts.{MayDrive}
use Rattle.link_commands.specs.CallEvents.{end_event, fault_event, reach_events, refused_event}
use Rattle.link_commands.specs.Effects.{act_effect, answer_events, reclaim_event, turn_events}
use Rattle.crash_recover.specs.Cores.{CoreState}
use Rattle.crash_recover.specs.CoreActs.{act_on_core}
use Rattle.crash_recover.specs.Drives.{drive_step}
use Rattle.command_run.specs.CoreDrives.{driven_events, step_events}
use Rattle.command_run.specs.CoreLives.{crash_events}
use Rattle.command_run.specs.CoreLinks.{core_link_effect}
use Rattle.act_laws.specs.CoreDeeds.{drive_deeds, driven_takes}
use Rattle.act_laws.specs.Deeds.{Deeds, act_deeds, no_deeds}
use Rattle.way_laws.specs.CoreAccounts.{core_act_deeds}
use Rattle.way_laws.specs.WordedTakes.{AreLinesOfTakes, ComesFromOpening, IsLineOfTake, is_of_calls, is_take_line}
use Rattle.way_laws.proofs.DrivenTakes.{drive_told}
use Rattle.way_laws.proofs.DrivenWords.{DrivenTakesOne, drive_once}
use Rattle.way_laws.proofs.WordedLines.{IsNoTakeEnd, IsWordedAnswer, IsWordedReach, answer_worded, reach_worded}

-- none of these events is the line of a take: `TellNoTakes` by cases on the list
abbrev pub HaveNoTakes : List Event → Type 0
HaveNoTakes events = AllByRecursion (λ (line : Event). is_take_line line ≡ false) events

-- ---- lines of no take

module _ (name : List ℕ) where
  refused_none : (caller : ℕ) (why : BindFault) → is_take_line (refused_event name caller why) ≡ false
  refused_none caller (bind_fault.AddressTaken address) = refl
  refused_none caller bind_fault.EndpointsFull = refl
  refused_none caller (bind_fault.NotBound address) = refl

  -- the end of a call that is no take
  end_none : (link : LinkState EndState) (caller : ℕ) (came : CallEnd) → IsNoTakeEnd (turn_end.Reached caller (reach.Ended came)) → is_take_line (end_event name link caller came) ≡ false
  end_none link caller (ended.Took number judged) none = absurd none
  end_none link caller (ended.Sent number) none = refl
  end_none link caller (ended.Gave number) none = refl
  end_none link caller (ended.Bound endpoint) none = refl
  end_none link caller (ended.Unbound endpoint) none = refl
  end_none link caller (ended.Busy holder) none = refl
  end_none link caller (ended.Dead era) none = refl
  end_none link caller (ended.NoBuffer accepted returned) none = refl
  end_none link caller (ended.BookFull accepted) none = refl
  end_none link caller (ended.Empty accepted) none = refl
  end_none link caller (ended.Refused why) none = refused_none caller why

  fault_none : (caller : ℕ) (why : BenchFault) → is_take_line (fault_event name caller why) ≡ false
  fault_none caller fault.NoCaller = refl
  fault_none caller fault.InCall = refl
  fault_none caller fault.NoCall = refl
  fault_none caller (fault.NotHeld number) = refl

  reclaim_none : (caller : ℕ) (came : Reclaim) → is_take_line (reclaim_event name caller came) ≡ false
  reclaim_none caller reclaim.Done = refl
  reclaim_none caller (reclaim.StillOpen era) = refl
  reclaim_none caller (reclaim.Busy holder) = refl

  -- turns that end with no take
  pub turns_none : (link : LinkState EndState) (done : ℕ) (came : TurnEnd) → IsNoTakeEnd came → HaveNoTakes (turn_events name link done came)
  turns_none link done turn_end.Whole none = (refl, tt)
  turns_none link done (turn_end.Fault caller why) none = (fault_none caller why, (refl, tt))
  turns_none link done (turn_end.Reached caller (reach.At step)) none = (refl, (refl, tt))
  turns_none link done (turn_end.Reached caller (reach.Ended came)) none = (end_none link caller came none, (refl, tt))
  turns_none link done (turn_end.Reached caller reach.Limit) none = tt

  -- an answer that tells of no call
  answer_none : (link : LinkState EndState) (told : ActAnswer) → is_of_calls told ≡ false → HaveNoTakes (answer_events name link told)
  answer_none link (answer.Caller number end) none = (refl, tt)
  answer_none link answer.CallersFull none = (refl, tt)
  answer_none link (answer.Refused caller why) none = (fault_none caller why, tt)
  answer_none link (answer.TooLong caller len) none = (refl, tt)
  answer_none link (answer.WrongSide receiver) none = (refl, tt)
  answer_none link (answer.Begun caller) none = (refl, tt)
  answer_none link (answer.Reached caller came) none = absurd (true≢false none)
  answer_none link (answer.Pumped done came) none = absurd (true≢false none)
  answer_none link (answer.Reclaimed caller came) none = (reclaim_none caller came, tt)

-- ---- lines of takes

module _ (name : List ℕ) (deeds : Deeds) where
  -- an event, if it is the line of a take, is that of a handing that is told
  abbrev pub IsLine : Event → Type 0
  IsLine line = is_take_line line ≡ true → IsLineOfTake deeds.takes name line

  abbrev pub AreLines : List Event → Type 0
  AreLines events = AllByRecursion IsLine events

  -- an event that is no line of a take
  pub other_line : (line : Event) → is_take_line line ≡ false → IsLine line
  other_line line none is = absurd (true≢false (sym is ∙ none))

  pub other_lines : (events : List Event) → HaveNoTakes events → AreLines events
  other_lines [] none = tt
  other_lines (line ∷ lines) none = (other_line line none.0, other_lines lines none.1)

  end_line : (link : LinkState EndState) (caller : ℕ) (came : CallEnd) → IsWordedReach link caller (reach.Ended came) deeds → IsLine (end_event name link caller came)
  end_line link caller (ended.Took number judged) has = λ _. record { end = has.end; caller = caller; handing = has.handing; told = has.told; worded = has.line name }
  end_line link caller other has = other_line (end_event name link caller other) (end_none name link caller other tt)

  pub reach_lines : (link : LinkState EndState) (caller : ℕ) (came : Reach) → IsWordedReach link caller came deeds → AreLines (reach_events name link caller came)
  reach_lines link caller (reach.At step) has = (other_line _ refl, tt)
  reach_lines link caller (reach.Ended came) has = (end_line link caller came has, tt)
  reach_lines link caller reach.Limit has = tt

  answer_lines : (link : LinkState EndState) (told : ActAnswer) → IsWordedAnswer link deeds told → AreLines (answer_events name link told)
  answer_lines link (answer.Reached caller came) has = reach_lines link caller came has
  answer_lines link (answer.Pumped done came) has = other_lines (turn_events name link done came) (turns_none name link done came has)
  answer_lines link other has = other_lines (answer_events name link other) (answer_none name link other refl)

  pub all_lines : (events : List Event) → AreLines events → AreLinesOfTakes deeds.takes name events
  all_lines events are = All-from_recursion IsLine events are

-- an act on a script's link
pub act_lines : (name : List ℕ) (bench : BenchState) (steps : ℕ) (asked : LinkAct (List ℕ)) → IsFitAct asked → IsReachedBench bench → ComesFromOpening (link_in bench)
    → AreLinesOfTakes (act_deeds nobody_sees 0 bench tt steps asked).takes name (act_effect name bench steps asked).events
act_lines name bench steps asked fit reached comes =
    let acted = link_act nobody_sees 0 bench tt steps asked in
    let deeds = act_deeds nobody_sees 0 bench tt steps asked in
    all_lines name deeds (answer_events name (link_in acted.bench) acted.answer)
    (answer_lines name deeds (link_in acted.bench) acted.answer (answer_worded nobody_sees bench tt steps reached comes 0 asked fit))

-- an act on the link that a core has or not
pub core_act_lines : (name : List ℕ) (core : CoreState) (steps : ℕ) (asked : LinkAct (List ℕ)) (found : Option BenchState) → IsFitAct asked → IfSome found IsReachedBench
    → IfSome found (λ (bench : BenchState). ComesFromOpening (link_in bench)) → AreLinesOfTakes (core_act_deeds core found steps asked).takes name (core_link_effect name core steps asked found).events
unfolding core_link_effect
core_act_lines name core steps asked None fit reached comes = all_lines name no_deeds (event.NoLink name ∷ []) (other_line name no_deeds (event.NoLink name) refl, tt)
core_act_lines name core steps asked (Some bench) fit reached comes =
    let acted = act_on_core core bench steps asked in
    let deeds = act_deeds actors_after_end 2 bench core.actors steps asked in
    all_lines name deeds (answer_events name (link_in acted.bench) acted.answer)
    (answer_lines name deeds (link_in acted.bench) acted.answer (answer_worded actors_after_end bench core.actors steps reached comes 2 asked fit))

-- ---- steps of the actors

module _ (name : List ℕ) (is_quiet : Bool) (deeds : Deeds) where
  crash_lines : (why : CrashKind) (closed : Option ℕ) → AreLines name deeds (crash_events name why closed)
  crash_lines why None = (other_line name deeds (event.Crashed name why) refl, tt)
  crash_lines why (Some inc) = other_lines name deeds (crash_events name why (Some inc)) (refl, (refl, tt))

  driven_lines : (came : DriveOutcome) (found : Option BenchState) → DrivenTakesOne came found → ((end : End) → deeds.takes end ≡ driven_takes came found end)
      → AreLinesOfTakes deeds.takes name (driven_events name is_quiet found came)
  driven_lines driven.Idle found one tells = all_lines name deeds [] tt
  driven_lines driven.Stepped found one tells = all_lines name deeds [] tt
  driven_lines (driven.Ended caller came) None one tells = absurd one
  driven_lines (driven.Ended caller came) (Some bench) one tells =
      all_lines name deeds (if is_quiet then [] else end_event name (link_in bench) caller came ∷ [])
      (cond_both is_quiet [] (end_event name (link_in bench) caller came ∷ []) (AreLines name deeds) (λ _. tt)
      (λ _. reach_lines name deeds (link_in bench) caller (reach.Ended came) (reach_worded (link_in bench) caller (reach.Ended came) deeds one tells)))
  driven_lines (driven.Worker why closed) found one tells =
      all_lines name deeds (driven_events name is_quiet found (driven.Worker why closed)) (other_line name deeds _ refl, crash_lines kind.Fatal closed)
  driven_lines (driven.Crashed why closed) found one tells = all_lines name deeds (crash_events name why closed) (crash_lines why closed)

-- a step of a core's actors
pub drive_lines : (name : List ℕ) (is_quiet : Bool) (core : CoreState) → MayDrive core → IsReachedCore core → IfSome core.bench (λ (bench : BenchState). ComesFromOpening (link_in bench))
    → AreLinesOfTakes (drive_deeds core).takes name (step_events name is_quiet (drive_step core))
drive_lines name is_quiet core may reached comes =
    driven_lines name is_quiet (drive_deeds core) (drive_step core).driven (drive_step core).core.bench (drive_once core may reached comes) (λ end. drive_told end core)
