-- Acts on the link of a core: its own callers are the first two, and its drivers see how the calls of the host end (own).
use Rattle.std.specs.Prelude.{◌≡◌, ◌≤◌, ℕ, List, Option, Some, None}
use Rattle.link_bench.specs.declared.acts.ActAnswer.{ActAnswer}
use Rattle.link_bench.specs.declared.acts.LinkAct.{LinkAct}
use Rattle.link_bench.specs.declared.acts.LinkAct.TheVariants as act
use Rattle.link_bench.specs.Benches.{BenchState}
use Rattle.link_bench.specs.Acts.{ActResult, link_act}
use Rattle.core_actors.specs.Actors.{ActorsState}
use Rattle.crash_recover.specs.declared.core_acts.TheConstants.{OWN_CALLERS}
use Rattle.crash_recover.specs.Cores.{CoreState}
use Rattle.core_actors.specs.ActorEnds.{actors_after_end}

-- what an act leaves of a core, the steps of the run until then, and what comes of it, or nothing where the core has no link
pub record CoreActResult : Type 0 where
  pub core : CoreState
  pub steps : ℕ
  pub answer : Option ActAnswer

-- an act left and answered this
pub record HasCoreActResult (acted : CoreActResult) (left : CoreState) (counted : ℕ) (told : Option ActAnswer) : Type 0 where
  pub core : left ≡ acted.core
  pub steps : counted ≡ acted.steps
  pub answer : told ≡ acted.answer

-- the core with what an act leaves of its link and of its actors
abbrev pub core_after_act : CoreState → ActResult ActorsState → CoreState
core_after_act core acted = record core { bench = Some acted.bench; actors = acted.watcher }

-- an act on the link of a core
abbrev pub act_on_core : CoreState → BenchState → ℕ → LinkAct (List ℕ) → ActResult ActorsState
act_on_core core bench steps act = link_act actors_after_end OWN_CALLERS bench core.actors steps act

-- an act on the link that a core has or not
abbrev pub core_act_on : CoreState → ℕ → LinkAct (List ℕ) → Option BenchState → CoreActResult
core_act_on core steps act None = record { core = core; steps = steps; answer = None }
core_act_on core steps act (Some bench) =
    let acted = act_on_core core bench steps act in
    record { core = core_after_act core acted; steps = acted.steps; answer = Some acted.answer }

abbrev pub core_act : CoreState → ℕ → LinkAct (List ℕ) → CoreActResult
core_act core steps act = core_act_on core steps act core.bench

-- a pump that ends early leaves what a pump of so many of its turns leaves of the core, or of fewer
pub record IsCutPumpOnCore (core : CoreState) (steps sender receiver count : ℕ) (left : CoreState) : Type 0 where
  pub done : ℕ
  pub most : done ≤ count
  pub is : left ≡ (core_act core steps (act.Pump sender receiver done)).core

-- an act that ends early, because memory ran out, leaves this of the core: a pump, some of its turns; any other act, the core as it was
abbrev pub IsCutOnCore : CoreState → ℕ → LinkAct (List ℕ) → CoreState → Type 0
IsCutOnCore core steps (act.Pump sender receiver count) left = IsCutPumpOnCore core steps sender receiver count left
IsCutOnCore core steps other left = left ≡ core
