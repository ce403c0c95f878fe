-- What is done under the name of a link keeps the tale of it.
use Rattle.std.proofs.Common.{ℕ, ◌+◌, ◌==◌, Bool, true, false, List, Option, Some, None, refl}
use Rattle.rp_base.specs.Limits.{IsRingSize}
use Rattle.rp_base.specs.declared.kinds.End.{End}
use Rattle.rp_base.specs.declared.limits.TheConstants.{STEPS_MOST}
use Rattle.lane_model.specs.declared.calls.LinkConfig.{LinkConfig}
use Rattle.lane_model.specs.declared.recoveries.ReopenFault.{ReopenFault}
use Rattle.lane_model.specs.Recoveries.{link_close_refusal, link_reopen_refusal}
use Rattle.lane_laws.specs.Moves.{Close}
use Rattle.lane_laws.proofs.RingLinks.{opened_lane_sound, reopen_kept}
use Rattle.lane_laws.proofs.WayFacts.{opened, reopened}
use Rattle.channel_bus.specs.Laws.{side_laws}
use Rattle.channel_bus.specs.Sides.{side_meaning}
use Rattle.script_lang.specs.Runnable.{IsBook}
use Rattle.link_bench.specs.Acts.{IsFitAct, link_act}
use Rattle.link_bench.specs.BenchCrashes.{after_close, after_reopen}
use Rattle.link_bench.specs.Benches.{BenchState, link_in, new_bench_of}
use Rattle.link_bench.specs.Watchers.{nobody_sees}
use Rattle.core_laws.specs.BenchMoves.{IsReachedBench}
use Rattle.link_commands.specs.declared.acts.ManagerAct.TheVariants as manager
use Rattle.link_commands.specs.declared.acts.NamedAct.{NamedAct}
use Rattle.link_commands.specs.declared.acts.NamedAct.TheVariants as under
use Rattle.link_commands.specs.Effects.{Effect, tells}
use Rattle.link_commands.specs.LinkCommands.{link_effect}
use Rattle.link_commands.specs.NamedLinks.{NamedLink}
use Rattle.link_commands.specs.Recoveries.{close_effect, close_event, opened_effect, reopen_effect}
use Rattle.command_run.specs.Runs.{new_end}
use Rattle.run_laws.proofs.CoreWalks.{FitsNamed}
use Rattle.act_laws.specs.Accounts.{Account, new_account, with_deeds}
use Rattle.act_laws.specs.Deeds.{Deeds, act_deeds, no_deeds, one_move}
use Rattle.way_laws.specs.RunAccounts.{account_after, close_deeds, reopened_account}
use Rattle.act_laws.proofs.CalmDeeds.{Open, Silent, act_open}
use Rattle.act_laws.proofs.Lands.{both_if, lands_none}
use Rattle.act_laws.proofs.ReachedActs.{deeds_land}
use Rattle.act_laws.proofs.Tales.{IsSoundTale, new_tale, sound_kept}

-- ---- a new link

pub made_tale : (end : End) (config : LinkConfig) (has_service : Bool) → IsRingSize config.num0 → IsRingSize config.num1 → IsBook config.book
    → IsSoundTale end (new_bench_of config (new_end has_service) (new_end false)) (new_account (link_in (new_bench_of config (new_end has_service) (new_end false))))
made_tale end config has_service to_host to_remote book =
    record {
      tale = new_tale end (new_bench_of config (new_end has_service) (new_end false))
          (opened side_meaning config (new_end has_service) (new_end false) (record { endpoints = refl; bindings = refl }) (record { endpoints = refl; bindings = refl })) refl;
      sound = record {
        to_host = opened_lane_sound config.num0 true config.book (new_end has_service) to_host book.1;
        to_remote = opened_lane_sound config.num1 false config.book (new_end false) to_remote book.1;
      };
    }

-- ---- what is done under the name of a link

module _ (end : End) (bench : BenchState) (account : Account) (tale : IsSoundTale end bench account) where
  abbrev Kept : Effect → Deeds → Type 0
  Kept effect deeds = IsSoundTale end effect.bench (with_deeds end (link_in bench).era.is_live account deeds)

  closed_tale : (name : List ℕ) (steps : ℕ) → Kept (close_effect name bench steps) (close_deeds bench steps)
  unfolding close_effect
  closed_tale name steps =
      both_if (steps == STEPS_MOST) Kept _ (tells (after_close bench) (steps + 1) (close_event name (link_in bench).era (link_close_refusal (link_in bench).era (link_in bench).era.inc))) no_deeds (one_move (Close (link_in bench).era.inc))
      (sound_kept end bench account tale no_deeds (Silent refl) bench (lands_none bench.rings))
      (sound_kept end bench account tale (one_move (Close (link_in bench).era.inc)) (Silent refl) (after_close bench)
      (record { whole = (tt, tt); may = (tt, tt); leads = refl; takes = λ other. refl }))

  reopened_at : (name : List ℕ) (steps : ℕ) (why : Option ReopenFault) → IsSoundTale end (opened_effect name bench steps why).bench (reopened_account bench why account)
  reopened_at name steps None =
      record {
        tale = new_tale end (after_reopen bench) (reopened side_meaning side_laws (link_in bench)) refl;
        sound = reopen_kept side_meaning bench.rings tale.sound;
      }
  reopened_at name steps (Some why) = tale

  reopened_tale : (name : List ℕ) (steps : ℕ) → IsSoundTale end (reopen_effect name bench steps).bench (reopened_account bench (link_reopen_refusal (link_in bench)) account)
  unfolding reopen_effect
  reopened_tale name steps = reopened_at name steps (link_reopen_refusal (link_in bench))

pub link_tale : (end : End) (on : NamedLink) (steps : ℕ) (wanted : NamedAct (List ℕ)) (account : Account) → FitsNamed IsFitAct wanted → IsReachedBench on.bench → IsSoundTale end on.bench account
    → IsSoundTale end (link_effect on steps wanted).bench (account_after end on.bench steps wanted account)
unfolding link_effect
link_tale end on steps (under.Make made) account fits reached tale = tale
link_tale end on steps (under.Link asked) account fits reached tale =
    sound_kept end on.bench account tale (act_deeds nobody_sees 0 on.bench tt steps asked) (Open (act_open nobody_sees 0 on.bench tt steps asked)) (link_act nobody_sees 0 on.bench tt steps asked).bench
    (deeds_land nobody_sees 0 on.bench tt steps asked fits reached)
link_tale end on steps (under.Manage manager.Close) account fits reached tale = closed_tale end on.bench account tale on.name steps
link_tale end on steps (under.Manage manager.Reopen) account fits reached tale = reopened_tale end on.bench account tale on.name steps
link_tale end on steps (under.Show shown) account fits reached tale = tale
link_tale end on steps (under.Core asked) account fits reached tale = tale
