-- Each line of a take that a drive of a core tells is the line of a handing that the drive tells, and the account of the link takes these up.
use Rattle.std.proofs.Common.{◌≡◌, ℕ, zero, suc, Bool, true, false, cond, List, [], ◌∷◌, ◌++◌, Option, Some, None, IfSome, Contains, option_map, refl, sym, ap, subst, ◌∙◌}
use Rattle.std.proofs.lemmas.Bool.{cond_both, true≢false}
use Rattle.std.proofs.lemmas.List.{append_assoc, append-nil}
use Rattle.std.proofs.lemmas.List.Elements.{All-append, All-cons, All-nil, All-weaker, Contains-append_left, Contains-append_right, Contains-push}
use Rattle.rp_base.specs.declared.kinds.End.{End}
use Rattle.proc_state.specs.Lives.{is_up}
use Rattle.lane_laws.specs.Handings.{Handing}
use Rattle.journal.specs.declared.events.Event.{Event}
use Rattle.journal.specs.declared.events.Event.TheVariants as event
use Rattle.link_bench.specs.Benches.{BenchState, link_in}
use Rattle.core_laws.proofs.DriveWalks.{both_known}
use Rattle.crash_recover.specs.Cores.{CoreState}
use Rattle.crash_recover.specs.Drives.{drive_step}
use Rattle.command_run.specs.CoreDrives.{drive_effect, drive_steps, step_events}
use Rattle.command_run.specs.CoreEffects.{CoreEffect, core_tells}
use Rattle.run_laws.specs.Drives.{after_steps, drive_length_within, steps_events}
use Rattle.run_laws.proofs.CoresReady.{IsSoundCore, may_drive, sound_cores}
use Rattle.run_laws.proofs.ScriptDrives.{drive_told, drive_while_up, last_is}
use Rattle.act_laws.specs.Accounts.{Account}
use Rattle.act_laws.specs.CoreDeeds.{drive_deeds}
use Rattle.act_laws.specs.Deeds.{Deeds}
use Rattle.way_laws.specs.CoreAccounts.{deed_account, drive_account, drive_takes, steps_account, steps_takes}
use Rattle.way_laws.specs.WordedTakes.{AreLinesAmong, AreLinesOfTakes, ComesFromOpening, IsLineAmong, IsLineOfTake, is_take_line}
use Rattle.way_laws.proofs.DrivenWords.{drive_comes, none_driven}
use Rattle.way_laws.proofs.TakeLines.{drive_lines}

-- ---- lines

module _ (name : List ℕ) where
  abbrev IsAmong : (End → List Handing) → Event → Type 0
  IsAmong takes line = is_take_line line ≡ true → IsLineAmong takes name line

  one_among : (takes : End → List Handing) (line : Event) → is_take_line line ≡ false → AreLinesAmong takes name (line ∷ [])
  one_among takes line none = All-cons (IsAmong takes) line [] (λ is. absurd (true≢false (sym is ∙ none))) (All-nil (IsAmong takes))

  module _ (takes later : End → List Handing) where
    abbrev both : End → List Handing
    both = λ end. takes end ++ later end

    first_among : (events : List Event) → AreLinesOfTakes takes name events → AreLinesAmong both name events
    first_among events are =
        All-weaker (λ (line : Event). is_take_line line ≡ true → IsLineOfTake takes name line) (IsAmong both)
        (λ line of is. let one = of is in record {
          end = one.end;
          caller = one.caller;
          handing = one.handing;
          told = Contains-append_left (takes one.end) (later one.end) one.handing (subst (λ (l : List Handing). Contains l one.handing) (sym one.told) (Contains-push [] one.handing));
          worded = one.worded;
        })
        events are

    later_among : (events : List Event) → AreLinesAmong later name events → AreLinesAmong both name events
    later_among events are =
        All-weaker (IsAmong later) (IsAmong both)
        (λ line of is. let one = of is in record {
          end = one.end;
          caller = one.caller;
          handing = one.handing;
          told = Contains-append_right (takes one.end) (later one.end) one.handing one.told;
          worded = one.worded;
        })
        events are

  -- ---- a drive

  module _ (is_quiet : Bool) where
    told_among : (count : ℕ) (core : CoreState) (steps : ℕ) → is_up core.life.state ≡ true → IsSoundCore core → IfSome core.bench (λ (bench : BenchState). ComesFromOpening (link_in bench))
        → AreLinesAmong (drive_takes count core steps) name (steps_events (drive_length_within count core steps) name is_quiet core)
    unfolding steps_events steps_takes
    told_among =
        drive_while_up
        (λ made core. IsSoundCore core → IfSome core.bench (λ (bench : BenchState). ComesFromOpening (link_in bench)) → AreLinesAmong (steps_takes made core) name (steps_events made name is_quiet core))
        (λ core sound comes. All-nil (IsAmong (λ end. [])))
        (λ more core up later sound comes.
        let next = (drive_step core).core in
        let may = may_drive core up sound in
        let takes = (drive_deeds core).takes in
        let first = step_events name is_quiet (drive_step core) in
        let rest = steps_events more name is_quiet next in
        All-append (IsAmong (both takes (steps_takes more next))) first rest
        (first_among takes (steps_takes more next) first (drive_lines name is_quiet core may sound.reached comes))
        (later_among takes (steps_takes more next) rest (later (sound_cores.drive core up sound) (drive_comes core may sound.reached comes))))

    module _ (core : CoreState) (steps count : ℕ) (sound : IsSoundCore core) (comes : IfSome core.bench (λ (bench : BenchState). ComesFromOpening (link_in bench))) where
      steps_among : is_up core.life.state ≡ true → AreLinesAmong (drive_takes count core steps) name (drive_steps count name is_quiet core steps).events
      steps_among up =
          let Q = IsAmong (drive_takes count core steps) in
          drive_told name is_quiet Q count core steps (told_among count core steps up sound comes)
          (last_is name Q (after_steps (drive_length_within count core steps) core) (λ is. absurd (true≢false (sym is))) (λ is. absurd (true≢false (sym is))) (λ is. absurd (true≢false (sym is))))

      pub drive_among : AreLinesAmong (drive_takes count core steps) name (drive_effect name is_quiet core steps count).events
      unfolding drive_effect
      drive_among =
          cond_both (is_up core.life.state) (drive_steps count name is_quiet core steps) (core_tells core steps (event.NotRunning name)) (λ (effect : CoreEffect). AreLinesAmong (drive_takes count core steps) name effect.events)
          steps_among (λ _. one_among (drive_takes count core steps) (event.NotRunning name) refl)

      -- the same, where a drive of a core that is not up tells of no take
      pub drive_up_among : AreLinesAmong (cond (is_up core.life.state) (drive_takes count core steps) (λ end. [])) name (drive_effect name is_quiet core steps count).events
      unfolding drive_effect
      drive_up_among =
          both_known (is_up core.life.state) (λ (effect : CoreEffect) (takes : End → List Handing). AreLinesAmong takes name effect.events) (drive_steps count name is_quiet core steps) (core_tells core steps (event.NotRunning name))
          (drive_takes count core steps) (λ end. []) steps_among (λ _. one_among (λ end. []) (event.NotRunning name) refl)

-- ---- the account

-- an account that is there has these told behind it
abbrev Adds : Option Account → Option Account → List Handing → Type 0
Adds before after takes = option_map (λ (now : Account). now.told) after ≡ option_map (λ (now : Account). now.told ++ takes) before

adds_none : (account : Option Account) → Adds account account []
adds_none None = refl
adds_none (Some account) = ap (λ (l : List Handing). Some l) (sym (append-nil account.told))

module _ (end : End) where
  deeds_then_add : (found : Option BenchState) (deeds : Deeds) (account after : Option Account) (later : List Handing) → (found ≡ None → deeds.takes end ≡ []) → Adds (deed_account end found deeds account) after later
      → Adds account after (deeds.takes end ++ later)
  deeds_then_add None deeds account after later none is = subst (λ (l : List Handing). Adds account after (l ++ later)) (sym (none refl)) is
  deeds_then_add (Some bench) deeds None after later none is = is
  deeds_then_add (Some bench) deeds (Some account) after later none is = is ∙ ap (λ (l : List Handing). Some l) (append_assoc account.told (deeds.takes end) later)

  steps_add : (made : ℕ) (core : CoreState) (account : Option Account) → Adds account (steps_account end made core account) (steps_takes made core end)
  unfolding steps_account steps_takes
  steps_add zero core account = adds_none account
  steps_add (suc more) core account =
      let next = (drive_step core).core in
      let behind = deed_account end core.bench (drive_deeds core) account in
      deeds_then_add core.bench (drive_deeds core) account (steps_account end more next behind) (steps_takes more next end) (none_driven core end) (steps_add more next behind)

  pub drive_adds : (count : ℕ) (core : CoreState) (steps : ℕ) (account : Option Account) → Adds account (drive_account end count core steps account) (drive_takes count core steps end)
  drive_adds count core steps account = steps_add (drive_length_within count core steps) core account
