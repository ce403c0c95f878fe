-- What is done under the name of a script's link tells no line of a take but that of a handing which it tells.
use Rattle.std.proofs.Common.{◌≡◌, ℕ, zero, suc, ◌+◌, ◌==◌, false, List, [], ◌∷◌, ◌++◌, Option, Some, None, map, refl}
use Rattle.std.specs.List.{list_all}
use Rattle.std.specs.Prelude.{drop, take}
use Rattle.std.proofs.lemmas.Bool.{cond_both}
use Rattle.rp_base.specs.declared.kinds.End.{End}
use Rattle.rp_base.specs.declared.kinds.Era.{Era}
use Rattle.rp_base.specs.declared.limits.TheConstants.{STEPS_MOST}
use Rattle.lane_model.specs.declared.recoveries.ReopenFault.{ReopenFault}
use Rattle.lane_model.specs.declared.recoveries.ReopenFault.TheVariants as reopen_fault
use Rattle.lane_model.specs.Lanes.{holder}
use Rattle.lane_model.specs.Recoveries.{link_close_refusal, link_reopen_refusal}
use Rattle.lane_laws.specs.Handings.{Handing}
use Rattle.journal.specs.declared.events.Event.{Event}
use Rattle.journal.specs.declared.events.Event.TheVariants as event
use Rattle.link_bench.specs.Acts.{IsFitAct}
use Rattle.link_bench.specs.Benches.{BenchState, link_in}
use Rattle.core_laws.specs.BenchMoves.{IsReachedBench}
use Rattle.link_commands.specs.declared.acts.LinkView.{LinkView}
use Rattle.link_commands.specs.declared.acts.LinkView.TheVariants as view
use Rattle.link_commands.specs.declared.acts.ManagerAct.TheVariants as manager
use Rattle.link_commands.specs.declared.acts.NamedAct.{NamedAct}
use Rattle.link_commands.specs.declared.acts.NamedAct.TheVariants as under
use Rattle.link_commands.specs.ChannelLists.{channel_event, channels_events, channel_events_unless}
use Rattle.link_commands.specs.Effects.{Effect}
use Rattle.link_commands.specs.LinkCommands.{link_effect, view_events}
use Rattle.link_commands.specs.NamedLinks.{NamedLink}
use Rattle.link_commands.specs.Recoveries.{close_effect, close_event, opened_effect, reopen_effect, reopen_events}
use Rattle.link_commands.specs.RingDumps.{bench_ring_events, dump_rows, ring_events, row_count, row_events, ring_events_unless}
use Rattle.run_laws.proofs.CoreWalks.{FitsNamed}
use Rattle.act_laws.specs.Deeds.{Deeds}
use Rattle.way_laws.specs.RunAccounts.{named_takes}
use Rattle.way_laws.specs.WordedTakes.{AreLinesOfTakes, ComesFromOpening, is_take_line}
use Rattle.way_laws.proofs.TakeLines.{HaveNoTakes, act_lines, all_lines, other_lines}

both_none : (one other : List Event) → HaveNoTakes one → HaveNoTakes other → HaveNoTakes (one ++ other)
both_none [] other first second = second
both_none (line ∷ lines) other first second = (first.0, both_none lines other first.1 second)

pub each_none : {X : Type 0} (word : X → Event) → ((item : X) → is_take_line (word item) ≡ false) → (items : List X) → HaveNoTakes (map word items)
each_none word none [] = tt
each_none word none (item ∷ items) = (none item, each_none word none items)

-- ---- what a link shows

rows_none : (count : ℕ) (name : List ℕ) (offset : ℕ) (bytes : List ℕ) → HaveNoTakes (dump_rows count name offset bytes)
unfolding dump_rows
rows_none zero name offset bytes = tt
rows_none (suc more) name offset bytes =
    both_none (row_events name offset (take 16 bytes)) (dump_rows more name (offset + 16) (drop 16 bytes))
    (cond_both (list_all (λ byte. byte == 0) (take 16 bytes)) [] (event.Dump name offset (take 16 bytes) ∷ []) HaveNoTakes (λ _. tt) (λ _. (refl, tt)))
    (rows_none more name (offset + 16) (drop 16 bytes))

pub ring_none : (name : List ℕ) (lane : ℕ) (bytes : List ℕ) → HaveNoTakes (ring_events name lane bytes)
ring_none name lane bytes = (refl, rows_none (row_count bytes) name 0 bytes)

shown_none : (name : List ℕ) (bench : BenchState) (lane : ℕ) (found : Option ℕ) → HaveNoTakes (ring_events_unless name bench lane found)
shown_none name bench lane (Some caller) = (refl, tt)
shown_none name bench lane None = ring_none name lane _

rings_none : (name : List ℕ) (bench : BenchState) (lane : ℕ) → HaveNoTakes (bench_ring_events name bench lane)
unfolding bench_ring_events
rings_none name bench lane = shown_none name bench lane _

listed_none : (name : List ℕ) (bench : BenchState) (found : Option ℕ) → HaveNoTakes (channel_events_unless name bench found)
listed_none name bench (Some caller) = (refl, tt)
listed_none name bench None = each_none (channel_event name) (λ channel. refl) (link_in bench).to_host.desk.channels

channels_none : (name : List ℕ) (bench : BenchState) → HaveNoTakes (channels_events name bench)
unfolding channels_events
channels_none name bench = listed_none name bench (holder (link_in bench).to_host.receiver)

pub view_none : (name : List ℕ) (bench : BenchState) (shown : LinkView) → HaveNoTakes (view_events name bench shown)
unfolding view_events
view_none name bench view.Books = (refl, (refl, tt))
view_none name bench (view.Ring lane) = rings_none name bench lane
view_none name bench view.Channels = channels_none name bench

-- ---- what the manager does

closed_none : (name : List ℕ) (era : Era) (found : Option Era) → is_take_line (close_event name era found) ≡ false
closed_none name era None = refl
closed_none name era (Some found) = refl

pub close_none : (name : List ℕ) (bench : BenchState) (steps : ℕ) → HaveNoTakes (close_effect name bench steps).events
unfolding close_effect
close_none name bench steps =
    cond_both (steps == STEPS_MOST) _ _ (λ (effect : Effect). HaveNoTakes effect.events) (λ _. tt)
    (λ _. (closed_none name (link_in bench).era (link_close_refusal (link_in bench).era (link_in bench).era.inc), tt))

pub reopen_none : (name : List ℕ) (why : ReopenFault) → HaveNoTakes (reopen_events name why)
reopen_none name (reopen_fault.StillOpen era) = (refl, tt)
reopen_none name (reopen_fault.StillTurn caller) = (refl, tt)
reopen_none name (reopen_fault.StillHeld caller number) = (refl, tt)
reopen_none name reopen_fault.IncarnationsSpent = (refl, tt)
reopen_none name reopen_fault.NoMemory = tt

opened_none : (name : List ℕ) (bench : BenchState) (steps : ℕ) (why : Option ReopenFault) → HaveNoTakes (opened_effect name bench steps why).events
opened_none name bench steps None = (refl, tt)
opened_none name bench steps (Some why) = reopen_none name why

pub reopened_none : (name : List ℕ) (bench : BenchState) (steps : ℕ) → HaveNoTakes (reopen_effect name bench steps).events
unfolding reopen_effect
reopened_none name bench steps = opened_none name bench steps (link_reopen_refusal (link_in bench))

-- ---- what is done under the name of a link

all_none : (takes : End → List Handing) (name : List ℕ) (events : List Event) → HaveNoTakes events → AreLinesOfTakes takes name events
all_none takes name events none =
    let deeds : Deeds = record { moves = []; takes = takes } in
    all_lines name deeds events (other_lines name deeds events none)

pub named_lines : (on : NamedLink) (steps : ℕ) (wanted : NamedAct (List ℕ)) → FitsNamed IsFitAct wanted → IsReachedBench on.bench → ComesFromOpening (link_in on.bench)
    → AreLinesOfTakes (named_takes on.bench steps wanted) on.name (link_effect on steps wanted).events
unfolding link_effect
named_lines on steps (under.Make made) fits reached comes = all_none _ on.name (event.Exists on.name ∷ []) (refl, tt)
named_lines on steps (under.Link asked) fits reached comes = act_lines on.name on.bench steps asked fits reached comes
named_lines on steps (under.Manage manager.Close) fits reached comes = all_none _ on.name (close_effect on.name on.bench steps).events (close_none on.name on.bench steps)
named_lines on steps (under.Manage manager.Reopen) fits reached comes = all_none _ on.name (reopen_effect on.name on.bench steps).events (reopened_none on.name on.bench steps)
named_lines on steps (under.Show shown) fits reached comes = all_none _ on.name (view_events on.name on.bench shown) (view_none on.name on.bench shown)
named_lines on steps (under.Core asked) fits reached comes = all_none _ on.name (event.Unknown on.name ∷ []) (refl, tt)
