-- Acts on a core's link, one by one: what is left of the core where one ends early, and what the calls for single acts leave and answer.
use Rattle.std.proofs.Common.{◌≡◌, ℕ, Bool, true, false, cond, List, Option, Some, None, is_some, unwrap_or, refl, sym, ap, subst, ◌∙◌}
use Rattle.std.specs.Prelude.{nat_lt, if◌then◌else◌, option_and_then, option_map}
use Rattle.std.proofs.lemmas.Bool.{true≢false}
use Rattle.rp_base.specs.declared.kinds.End.{End}
use Rattle.lane_model.specs.Links.{end_of, free_number}
use Rattle.lane_model.specs.Recoveries.{link_reclaim_refusal}
use Rattle.link_bench.specs.declared.acts.ActAnswer.{ActAnswer}
use Rattle.link_bench.specs.declared.acts.ActAnswer.TheVariants as answer
use Rattle.link_bench.specs.declared.acts.LinkAct.{LinkAct}
use Rattle.link_bench.specs.declared.acts.LinkAct.TheVariants as act
use Rattle.link_bench.specs.declared.benches.BenchFault.{BenchFault}
use Rattle.link_bench.specs.declared.benches.BenchFault.TheVariants as fault
use Rattle.link_bench.specs.declared.benches.Reach.{Reach}
use Rattle.link_bench.specs.Acts.{ActResult, HasActResult, IsCutAct, answer_of_reclaim, caller_act, link_act, reclaim_act, step_act, unless_own, unless_refused, walk_act}
use Rattle.link_bench.specs.BenchCrashes.{reclaim_answer, reclaim_leaves}
use Rattle.link_bench.specs.Benches.{BenchState, advance_walk, link_in, step_fault, with_new_caller}
use Rattle.core_actors.specs.ActorEnds.{actors_after_end}
use Rattle.core_actors.specs.Actors.{ActorsState}
use Rattle.crash_recover.specs.CoreActs.{CoreActResult, HasCoreActResult, IsCutOnCore, act_on_core, core_act, core_act_on}
use Rattle.crash_recover.specs.CoreCallers.{caller_answer, core_step_fault, reach_of}
use Rattle.crash_recover.specs.Cores.{CoreState}

-- ---- acts that end early

-- a core whose link and actors are as they were is as it was
as_it_was : (core : CoreState) (bench left : BenchState) (seen : ActorsState) → core.bench ≡ Some bench → left ≡ bench → seen ≡ core.actors → (record core { bench = Some left; actors = seen }) ≡ core
as_it_was core bench left seen there benches watchers =
    ap (λ (found : BenchState). record core { bench = Some found; actors = seen }) benches
    ∙ ap (λ (acted : ActorsState). record core { bench = Some bench; actors = acted }) watchers
    ∙ ap (λ (found : Option BenchState). record core { bench = found }) (sym there)

-- what is left of the link and of its watchers, left of the core
pub cut_on_core : (core : CoreState) (bench : BenchState) (steps : ℕ) (asked : LinkAct (List ℕ)) (left : BenchState) (seen : ActorsState) → core.bench ≡ Some bench
    → IsCutAct (act_on_core core bench steps) asked bench core.actors left seen → IsCutOnCore core steps asked (record core { bench = Some left; actors = seen })
cut_on_core core bench steps (act.Caller end) left seen there cut = as_it_was core bench left seen there cut.0 cut.1
cut_on_core core bench steps (act.Call caller made wanted) left seen there cut = as_it_was core bench left seen there cut.0 cut.1
cut_on_core core bench steps (act.Step caller more) left seen there cut = as_it_was core bench left seen there cut.0 cut.1
cut_on_core core bench steps (act.Pump sender receiver count) left seen there cut = record {
  done = cut.done;
  most = cut.most;
  is = ap (λ (found : BenchState). record core { bench = Some found; actors = seen }) cut.bench
      ∙ ap (λ (acted : ActorsState). record core { bench = Some (act_on_core core bench steps (act.Pump sender receiver cut.done)).bench; actors = acted }) cut.watcher
      ∙ ap (λ (found : Option BenchState). (core_act_on core steps (act.Pump sender receiver cut.done) found).core) (sym there);
}
cut_on_core core bench steps (act.Reclaim caller) left seen there cut = as_it_was core bench left seen there cut.0 cut.1

-- ---- single acts

module _ (core : CoreState) (bench : BenchState) (there : core.bench ≡ Some bench) where
  -- what an act does on a core that has this link
  on_bench : (P : CoreActResult → Type 0) (asked : LinkAct (List ℕ)) → P (core_act_on core 0 asked (Some bench)) → P (core_act core 0 asked)
  on_bench P asked is = subst (λ (found : Option BenchState). P (core_act_on core 0 asked found)) (sym there) is

  -- and leaves of the core, by what it leaves of link and actors
  has_acted : (asked : LinkAct (List ℕ)) (left : BenchState) (told : ActAnswer) → HasActResult (act_on_core core bench 0 asked) left core.actors 0 told
      → HasCoreActResult (core_act core 0 asked) (record core { bench = Some left }) 0 (Some told)
  has_acted asked left told is =
      on_bench (λ (acted : CoreActResult). HasCoreActResult acted (record core { bench = Some left }) 0 (Some told)) asked (record {
        core = ap (λ (found : BenchState). record core { bench = Some found }) is.bench
            ∙ ap (λ (seen : ActorsState). record core { bench = Some (act_on_core core bench 0 asked).bench; actors = seen }) is.watcher;
        steps = is.steps;
        answer = ap Some is.answer;
      })

  caller_joins : (end : End) (number : Option ℕ) → HasActResult (caller_act bench core.actors 0 end number) (with_new_caller bench end number) core.actors 0 (caller_answer end number)
  caller_joins end None = record { bench = refl; watcher = refl; steps = refl; answer = refl }
  caller_joins end (Some number) = record { bench = refl; watcher = refl; steps = refl; answer = refl }

  -- a new caller
  pub caller_acted : (end : End) → let number = free_number (link_in bench).callers in
      HasCoreActResult (core_act core 0 (act.Caller end)) (record core { bench = Some (with_new_caller bench end number) }) 0 (Some (caller_answer end number))
  unfolding link_act
  caller_acted end = let number = free_number (link_in bench).callers in has_acted (act.Caller end) (with_new_caller bench end number) (caller_answer end number) (caller_joins end number)

  module _ (caller : ℕ) where
    -- what is asked for a caller below 2, and for another
    by_own : (is_own : Bool) → nat_lt caller 2 ≡ is_own → (acted : ActResult ActorsState)
        → unless_own bench core.actors 0 (cond (nat_lt caller 2) (Some caller) None) acted ≡ unless_own bench core.actors 0 (cond is_own (Some caller) None) acted
    by_own is_own is acted = ap (λ (test : Bool). unless_own bench core.actors 0 (cond test (Some caller) None) acted) is

    -- a reclaim
    pub reclaim_acted : nat_lt caller 2 ≡ false → let why = link_reclaim_refusal (link_in bench) caller in
        HasCoreActResult (core_act core 0 (act.Reclaim caller)) (record core { bench = Some (reclaim_leaves bench caller why) }) 0
        (Some (answer_of_reclaim caller (reclaim_answer (end_of (link_in bench).callers caller) why)))
    unfolding link_act
    reclaim_acted other =
        let why = link_reclaim_refusal (link_in bench) caller in
        let told = answer_of_reclaim caller (reclaim_answer (end_of (link_in bench).callers caller) why) in
        has_acted (act.Reclaim caller) (reclaim_leaves bench caller why) told
        (subst (λ (acted : ActResult ActorsState). HasActResult acted (reclaim_leaves bench caller why) core.actors 0 told)
        (sym (by_own false other (reclaim_act bench core.actors 0 caller))) (record { bench = refl; watcher = refl; steps = refl; answer = refl }))

    -- one that is the core's own
    pub own_reclaim : nat_lt caller 2 ≡ true → HasCoreActResult (core_act core 0 (act.Reclaim caller)) (record core { bench = Some bench }) 0 (Some (answer.Refused caller fault.NoCaller))
    unfolding link_act
    own_reclaim own =
        has_acted (act.Reclaim caller) bench (answer.Refused caller fault.NoCaller)
        (subst (λ (acted : ActResult ActorsState). HasActResult acted bench core.actors 0 (answer.Refused caller fault.NoCaller))
        (sym (by_own true own (reclaim_act bench core.actors 0 caller))) (record { bench = refl; watcher = refl; steps = refl; answer = refl }))

    -- a step that nothing refuses
    by_fault : (is_own : Bool) (why : Option BenchFault) → (if is_own then Some fault.NoCaller else why) ≡ None → (is_own ≡ false) × (why ≡ None)
    by_fault true why is = absurd (true≢false (ap is_some is))
    by_fault false why is = (refl, is)

    step_reaches : core_step_fault core caller ≡ None → (core_act core 0 (act.Step caller 0)).answer ≡ Some (answer.Reached caller (advance_walk bench 0 0 caller).reach)
    unfolding link_act step_act
    step_reaches may =
        let free = by_fault (nat_lt caller 2) (step_fault bench caller)
        (subst (λ (found : Option BenchState). (if nat_lt caller 2 then Some fault.NoCaller else option_and_then (λ (bench : BenchState). step_fault bench caller) found) ≡ None) there may) in
        let walked = walk_act actors_after_end core.actors caller (advance_walk bench 0 0 caller) in
        let after = λ (why : Option BenchFault). unless_refused bench core.actors 0 (option_map (answer.Refused caller) why) walked in
        on_bench (λ (acted : CoreActResult). acted.answer ≡ Some (answer.Reached caller (advance_walk bench 0 0 caller).reach)) (act.Step caller 0)
        (ap (λ (acted : ActResult ActorsState). Some acted.answer) (by_own false free.0 (after (step_fault bench caller)) ∙ ap after free.1))

-- an act answers how far a call of this caller came
pub record HasReached (told : Option ActAnswer) (caller : ℕ) : Type 0 where
  pub reach : Reach
  pub is : told ≡ Some (answer.Reached caller reach)

step_of_link : (core : CoreState) (caller : ℕ) (found : Option BenchState) → core.bench ≡ found → is_some found ≡ true → core_step_fault core caller ≡ None
    → HasReached (core_act core 0 (act.Step caller 0)).answer caller
step_of_link core caller (Some bench) there linked may = record { reach = (advance_walk bench 0 0 caller).reach; is = step_reaches core bench there caller may }
step_of_link core caller None there linked may = absurd (true≢false (sym linked))

-- a step that nothing refuses, of a core that has a link
pub step_answers : (core : CoreState) (caller : ℕ) → is_some core.bench ≡ true → core_step_fault core caller ≡ None → HasReached (core_act core 0 (act.Step caller 0)).answer caller
step_answers core caller linked may = step_of_link core caller core.bench refl linked may

-- the reach that it answers
pub reaches_so : (told : Option ActAnswer) (caller : ℕ) → HasReached told caller → (found : Option Reach) → found ≡ reach_of told → (came : Reach) → found ≡ Some came → told ≡ Some (answer.Reached caller came)
reaches_so told caller has found is came there =
    has.is ∙ ap (λ (reach : Reach). Some (answer.Reached caller reach)) (ap (λ (reach : Option Reach). unwrap_or reach came) (sym (is ∙ ap reach_of has.is) ∙ there))

pub reaches_some : (told : Option ActAnswer) (caller : ℕ) → HasReached told caller → (found : Option Reach) → found ≡ reach_of told → found ≡ None → ⊥
reaches_some told caller has found is none = true≢false (ap is_some (sym (is ∙ ap reach_of has.is) ∙ none))
