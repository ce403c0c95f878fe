-- What is done under the name of a core keeps the tale of its link.
use Rattle.std.proofs.Common.{◌≡◌, ℕ, [], Bool, true, false, cond, List, Option, Some, None, IfSome, option_map, refl, sym, subst}
use Rattle.std.specs.Option.{IsSomeAnd}
use Rattle.rp_io.specs.Images.{ImageAnswer}
use Rattle.rp_base.specs.declared.kinds.End.{End}
use Rattle.rp_base.specs.declared.kinds.End.TheVariants as side
use Rattle.fw_load.specs.declared.rings.RingPair.{RingPair}
use Rattle.proc_state.specs.declared.answers.Left.{Left}
use Rattle.proc_state.specs.declared.answers.LifeFault.{LifeFault}
use Rattle.proc_state.specs.Lives.{Outcome, is_up, life_after_boot, recovery_fault}
use Rattle.lane_model.specs.Links.{LinkState}
use Rattle.lane_laws.specs.Moves.{Enlist, link_after_move}
use Rattle.lane_laws.specs.Ways.{IsOpened}
use Rattle.lane_laws.proofs.LinkRuns.{move_sound}
use Rattle.lane_laws.proofs.WayFacts.{opened, reopened}
use Rattle.channel_bus.specs.Laws.{side_laws}
use Rattle.channel_bus.specs.Sides.{EndState, side_meaning}
use Rattle.journal.specs.declared.events.Event.TheVariants as event
use Rattle.link_bench.specs.declared.acts.LinkAct.{LinkAct}
use Rattle.link_bench.specs.Acts.{IsFitAct}
use Rattle.link_bench.specs.BenchCrashes.{after_reopen}
use Rattle.link_bench.specs.BenchEnds.{bench_to_reopen}
use Rattle.link_bench.specs.Benches.{BenchState, link_in}
use Rattle.crash_recover.specs.declared.core_answers.Leave.{Leave}
use Rattle.crash_recover.specs.declared.core_answers.Start.{Start}
use Rattle.crash_recover.specs.declared.core_answers.Start.TheVariants as start
use Rattle.crash_recover.specs.declared.core_faults.LeaveFault.{LeaveFault}
use Rattle.crash_recover.specs.declared.core_faults.StartFault.{StartFault}
use Rattle.crash_recover.specs.declared.core_faults.StartFault.TheVariants as start_fault
use Rattle.crash_recover.specs.CoreCrashes.{report_of}
use Rattle.crash_recover.specs.CoreActs.{core_act_on}
use Rattle.crash_recover.specs.CoreBoots.{config_of, core_bench, fresh_end, load_in}
use Rattle.crash_recover.specs.CoreRecoveries.{after_recovery, core_to_reopen, recovery_of, reload_fault, reopen_fault}
use Rattle.crash_recover.specs.Cores.{CoreOutcome, CoreState, loaded_rings, refuse_or}
use Rattle.core_actors.specs.Actors.{driver_names}
use Rattle.core_actors.specs.ActorEnds.{actors_after_end}
use Rattle.crash_recover.specs.Drives.{drive_step}
use Rattle.core_laws.specs.BenchMoves.{IsReachedBench, IsReachedCore}
use Rattle.core_laws.proofs.CallOutcomes.{Attaches, BootOutcome, Empties, HandoverOutcome, HandsOver, LeaveOutcome, Runs, boot_outcome, detach_outcome, handover_outcome, shutdown_outcome}
use Rattle.core_laws.proofs.DriveWalks.{both_known}
use Rattle.link_commands.specs.declared.acts.CoreAct.TheVariants as act
use Rattle.link_commands.specs.declared.acts.NamedAct.{NamedAct}
use Rattle.link_commands.specs.declared.acts.StartAct.{StartAct}
use Rattle.link_commands.specs.declared.acts.StartAct.TheVariants as starts
use Rattle.command_run.specs.CoreCommands.{core_effect}
use Rattle.command_run.specs.CoreDrives.{drive_effect, drive_steps}
use Rattle.command_run.specs.CoreEffects.{CoreEffect, core_tells}
use Rattle.command_run.specs.CoreLinks.{core_link_effect}
use Rattle.command_run.specs.CoreLives.{booted_image, found_image, may_step, start_name, start_with}
use Rattle.command_run.specs.NamedCores.{NamedCoreState}
use Rattle.command_run.specs.NamedImages.{ImageState}
use Rattle.run_laws.specs.Drives.{after_steps, drive_length_within}
use Rattle.run_laws.proofs.CoreActWalks.{ActOutcome, Crashes, Detaches, Drives, LinkActs, ShutsDown, Starts, act_outcome, link_effect_core}
use Rattle.run_laws.proofs.CoreWalks.{FitsNamed}
use Rattle.run_laws.proofs.CoresReady.{IsSoundCore, may_drive, sound_cores}
use Rattle.run_laws.proofs.ScriptDrives.{drive_as, drive_while_up}
use Rattle.act_laws.specs.Accounts.{Account, IsAccount}
use Rattle.way_laws.specs.WordedTakes.{ComesFromOpening}
use Rattle.way_laws.specs.CoreAccounts.{begun_account, core_account_after, core_act_deeds, deed_account, drive_account, left_account, life_account, ready_if, recovery_account, started_account, steps_account, unless_some}
use Rattle.act_laws.specs.CoreDeeds.{drive_deeds}
use Rattle.act_laws.specs.Deeds.{Deeds, no_deeds}
use Rattle.act_laws.proofs.CalmDeeds.{IsCalm, Open, Silent, act_open, drive_calm, ready_open, reported_none}
use Rattle.act_laws.proofs.CoreLands.{LandsIf, drive_lands, ready_lands, report_lands}
use Rattle.act_laws.proofs.ReachedActs.{deeds_land}
use Rattle.act_laws.proofs.Tales.{IsTale, account_is, deeds_kept, new_tale}

-- the link that a core has and its account, which both are there or neither is
abbrev pub TaleIf : End → Option BenchState → Option Account → Type 0
TaleIf end None None = Unit {0}
TaleIf end None (Some account) = ⊥
TaleIf end (Some bench) None = ⊥
TaleIf end (Some bench) (Some account) = IsTale end bench account

-- what a tale says of its account
pub told_if : (end : End) (found : Option BenchState) (account : Option Account) → TaleIf end found account → IfSome found (λ (bench : BenchState). IsSomeAnd account (IsAccount end (link_in bench)))
told_if end None account is = tt
told_if end (Some bench) None is = absurd is
told_if end (Some bench) (Some account) is = account_is end bench account is

-- the link comes by the way of its account
pub come_if : (end : End) (found : Option BenchState) (account : Option Account) → TaleIf end found account → IfSome found (λ (bench : BenchState). ComesFromOpening (link_in bench))
come_if end None account is = tt
come_if end (Some bench) None is = absurd is
come_if end (Some bench) (Some account) is = record { way = account.way; is_way = is.way; leads = is.leads }

deeds_if : (end : End) (found : Option BenchState) (account : Option Account) (deeds : Deeds) (now : Option BenchState) → TaleIf end found account → IsCalm end deeds → LandsIf found deeds now → TaleIf end now (deed_account end found deeds account)
deeds_if end None None deeds None is calm lands = tt
deeds_if end None None deeds (Some now) is calm lands = absurd lands
deeds_if end None (Some account) deeds now is calm lands = absurd is
deeds_if end (Some bench) None deeds now is calm lands = absurd is
deeds_if end (Some bench) (Some account) deeds None is calm lands = absurd lands
deeds_if end (Some bench) (Some account) deeds (Some now) is calm lands = deeds_kept end bench account is deeds calm now lands

-- ---- new links

-- a bench at the start of an incarnation
record IsBegun (bench : BenchState) : Type 0 where
  pub opened : IsOpened side_meaning (link_in bench)
  pub live : (link_in bench).era.is_live ≡ true

begun_if : (end : End) (found : Option BenchState) → IfSome found IsBegun → TaleIf end found (begun_account found)
begun_if end None is = tt
begun_if end (Some bench) is = new_tale end bench is.opened is.live

opened_enlisted : (link : LinkState EndState) (end : End) → IsOpened side_meaning link → IsOpened side_meaning (link_after_move side_meaning link (Enlist end))
opened_enlisted link end is = record {
  new = record { sound = move_sound side_meaning link (Enlist end) is.new.sound tt; to_host = is.new.to_host; to_remote = is.new.to_remote };
  to_host = is.to_host;
  to_remote = is.to_remote;
}

made_begun : (names : List (List ℕ)) (book first : ℕ) (rings : RingPair) → IsBegun (core_bench names book first rings)
unfolding core_bench
made_begun names book first rings = record {
  opened = opened_enlisted _ side.Remote (opened_enlisted _ side.Host
      (opened side_meaning (config_of rings book first) (fresh_end rings.service names) (fresh_end false []) (record { endpoints = refl; bindings = refl }) (record { endpoints = refl; bindings = refl })));
  live = refl;
}

rings_begun : (names : List (List ℕ)) (book first : ℕ) (rings : Option RingPair) → IfSome (option_map (core_bench names book first) rings) IsBegun
rings_begun names book first None = tt
rings_begun names book first (Some rings) = made_begun names book first rings

-- ---- the life of a core

module _ (end : End) (core : CoreState) (account : Option Account) (is : TaleIf end core.bench account) where
  abbrev Booted : CoreOutcome Start StartFault → Type 0
  Booted done = TaleIf end done.core.bench (started_account done.core.bench done.answer account)

  boot_tale : {name : List ℕ} {found : ImageAnswer} {out : CoreOutcome Start StartFault} → BootOutcome core name found out → Booted out
  boot_tale {found = found} (Runs first off clear) = begun_if end _ (rings_begun (driver_names core.actors) core.book (life_after_boot core.life).life.incarnation (load_in core found).rings)
  boot_tale (Attaches first on) = begun_if end _ (rings_begun (driver_names core.actors) core.book (life_after_boot core.life).life.incarnation (loaded_rings core.loaded))
  boot_tale came = is

  -- a handover makes no link
  handover_tale : {name : List ℕ} {found : ImageAnswer} {out : CoreOutcome Start StartFault} → HandoverOutcome core name found out → TaleIf end out.core.bench account
  handover_tale (HandsOver done answer clear) = is
  handover_tale came = is

  -- ---- the last user

  left_same : (found : Option BenchState) → TaleIf end found account → TaleIf end found (left_account found account)
  left_same None same = tt
  left_same (Some bench) same = same

  leave_tale : {may : Bool} {gone : CoreState} {after : Outcome Left} {out : CoreOutcome Leave LeaveFault} → LeaveOutcome may core gone after out → TaleIf end gone.bench (left_account gone.bench account)
      → TaleIf end out.core.bench (left_account out.core.bench account)
  leave_tale (Empties all live was) rest = rest
  leave_tale came rest = left_same core.bench is

  -- ---- a recovery

  ready_lands_if : (found : Option BenchState) → LandsIf found (ready_if found) (option_map bench_to_reopen found)
  ready_lands_if None = tt
  ready_lands_if (Some bench) = ready_lands bench

  ready_calm : (found : Option BenchState) → IsCalm end (ready_if found)
  ready_calm None = Open tt
  ready_calm (Some bench) = Open (ready_open bench)

  again_begun : (found : Option BenchState) → IfSome (option_map (λ (bench : BenchState). after_reopen (bench_to_reopen bench)) found) IsBegun
  again_begun None = tt
  again_begun (Some bench) = record {
    opened = reopened side_meaning side_laws (link_in (bench_to_reopen bench));
    live = refl;
  }

  unless_life : (why : Option LifeFault) (done : CoreOutcome Start StartFault) (behind : Option Account) → TaleIf end done.core.bench behind
      → TaleIf end (refuse_or core (option_map start_fault.Life why) done).core.bench (unless_some why account behind)
  unless_life None done behind rest = rest
  unless_life (Some why) done behind rest = is

  unless_fault : (now : CoreState) (then : Option Account) (why : Option StartFault) (done : CoreOutcome Start StartFault) (behind : Option Account) → TaleIf end now.bench then → TaleIf end done.core.bench behind
      → TaleIf end (refuse_or now why done).core.bench (unless_some why then behind)
  unless_fault now then None done behind refused rest = rest
  unless_fault now then (Some why) done behind refused rest = refused

  recovery_tale : (found : ImageAnswer) → TaleIf end (recovery_of core found).core.bench (recovery_account end core found account)
  unfolding recovery_of
  recovery_tale found =
      unless_life (recovery_fault core.life) _ _
      (unless_fault core account (reload_fault core found) _ _ is
      (unless_fault (core_to_reopen core) (deed_account end core.bench (ready_if core.bench) account) (reopen_fault core) _ _
      (deeds_if end core.bench account (ready_if core.bench) (option_map bench_to_reopen core.bench) is (ready_calm core.bench) (ready_lands_if core.bench))
      (begun_if end (after_recovery core (load_in core found)).bench (again_begun core.bench))))

-- ---- drives

steps_tale : (end : End) (count : ℕ) (core : CoreState) (steps : ℕ) → is_up core.life.state ≡ true → (account : Option Account) → IsSoundCore core → TaleIf end core.bench account
    → TaleIf end (after_steps (drive_length_within count core steps) core).bench (drive_account end count core steps account)
unfolding steps_account
steps_tale end =
    drive_while_up (λ made core. (account : Option Account) → IsSoundCore core → TaleIf end core.bench account → TaleIf end (after_steps made core).bench (steps_account end made core account))
    (λ core account sound is. is)
    (λ more core up later account sound is.
    later (deed_account end core.bench (drive_deeds core) account) (sound_cores.drive core up sound)
    (deeds_if end core.bench account (drive_deeds core) (drive_step core).core.bench is (drive_calm end core) (drive_lands core (may_drive core up sound) sound.reached)))

drive_tale : (end : End) (name : List ℕ) (is_quiet : Bool) (core : CoreState) (steps count : ℕ) (account : Option Account) → IsSoundCore core → TaleIf end core.bench account
    → TaleIf end (drive_effect name is_quiet core steps count).core.bench (cond (is_up core.life.state) (drive_account end count core steps account) account)
unfolding drive_effect
drive_tale end name is_quiet core steps count account sound is =
    let behind = drive_account end count core steps account in
    both_known (is_up core.life.state) (λ (effect : CoreEffect) (behind : Option Account). TaleIf end effect.core.bench behind) (drive_steps count name is_quiet core steps) (core_tells core steps (event.NotRunning name))
    behind account
    (λ up. let left = steps_tale end count core steps up account sound is in drive_as name is_quiet (λ effect. TaleIf end effect.core.bench behind) count core steps left (λ _ _ _. left))
    (λ _. is)

-- ---- acts on the link of a core

act_lands_if : (core : CoreState) (steps : ℕ) (asked : LinkAct (List ℕ)) (found : Option BenchState) → core.bench ≡ found → IsFitAct asked → IfSome found IsReachedBench
    → LandsIf found (core_act_deeds core found steps asked) (core_act_on core steps asked found).core.bench
act_lands_if core steps asked None none fit reached = subst (λ (now : Option BenchState). LandsIf None no_deeds now) (sym none) tt
act_lands_if core steps asked (Some bench) found fit reached = deeds_land actors_after_end 2 bench core.actors steps asked fit reached

act_calm : (end : End) (core : CoreState) (steps : ℕ) (asked : LinkAct (List ℕ)) (found : Option BenchState) → IsCalm end (core_act_deeds core found steps asked)
act_calm end core steps asked None = Open tt
act_calm end core steps asked (Some bench) = Open (act_open actors_after_end 2 bench core.actors steps asked)

-- ---- what is done under the name of a core

module _ (end : End) (images : List ImageState) (answer : ImageAnswer) (on : NamedCoreState) (steps : ℕ) (account : Option Account) (is : TaleIf end on.core.bench account) where
  -- ---- lives

  start_on : (start : StartAct) → TaleIf end (start_with start on.core (found_image images answer (start_name start on))).core.bench (life_account end images answer on steps (act.Start start) account)
  start_on (starts.Boot image) = boot_tale end on.core account is (boot_outcome on.core image (found_image images answer image))
  start_on (starts.Handover image) = handover_tale end on.core account is (handover_outcome on.core image (found_image images answer image))
  start_on starts.Recover = recovery_tale end on.core account is (found_image images answer (booted_image on.name on.core))

  linked_tale : (asked : LinkAct (List ℕ)) → IsFitAct asked → IsReachedCore on.core
      → TaleIf end (core_link_effect on.name on.core steps asked on.core.bench).core.bench (deed_account end on.core.bench (core_act_deeds on.core on.core.bench steps asked) account)
  linked_tale asked fit reached =
      subst (λ (core : CoreState). TaleIf end core.bench (deed_account end on.core.bench (core_act_deeds on.core on.core.bench steps asked) account)) (sym (link_effect_core on.name on.core steps asked on.core.bench))
      (deeds_if end on.core.bench account _ (core_act_on on.core steps asked on.core.bench).core.bench is (act_calm end on.core steps asked on.core.bench)
      (act_lands_if on.core steps asked on.core.bench refl fit reached.bench))

  -- whatever the outcome of an act is: it leaves the link as it was, but where its deeds are told
  outcome_tale : {is_quiet : Bool} {wanted : NamedAct (List ℕ)} {effect : CoreEffect} → ActOutcome images answer is_quiet on steps wanted effect → FitsNamed IsFitAct wanted → IsSoundCore on.core
      → TaleIf end effect.core.bench (core_account_after end images answer on steps wanted account)
  outcome_tale (LinkActs asked) fits sound = linked_tale asked fits sound.reached
  outcome_tale (Starts start) fits sound = start_on start
  outcome_tale ShutsDown fits sound = leave_tale end on.core account is (shutdown_outcome (may_step steps) on.core) tt
  outcome_tale Detaches fits sound = leave_tale end on.core account is (detach_outcome (may_step steps) on.core) tt
  outcome_tale (Crashes kind) fits sound =
      deeds_if end on.core.bench account _ (report_of (may_step steps) on.core).core.bench is (Silent (reported_none end (report_of (may_step steps) on.core).answer on.core.bench)) (report_lands (may_step steps) on.core)
  outcome_tale {is_quiet = is_quiet} (Drives count) fits sound = drive_tale end on.name is_quiet on.core steps count account sound is
  outcome_tale came fits sound = is

  pub core_tale : (is_quiet : Bool) (wanted : NamedAct (List ℕ)) → FitsNamed IsFitAct wanted → IsSoundCore on.core
      → TaleIf end (core_effect images answer is_quiet on steps wanted).core.bench (core_account_after end images answer on steps wanted account)
  core_tale is_quiet wanted fits sound = outcome_tale (act_outcome images answer is_quiet on steps wanted) fits sound
