-- Acts that are cut short.
use Rattle.std.proofs.Common.{◌≡◌, ◌≤◌, ℕ, List, OnErr, Result, Ok, Err, sym, subst, arith}
use Rattle.rp_base.specs.declared.limits.TheConstants.{STEPS_MOST}
use Rattle.link_bench.specs.declared.acts.LinkAct.{LinkAct}
use Rattle.link_bench.specs.declared.acts.LinkAct.TheVariants as act
use Rattle.link_bench.specs.Acts.{ActResult, IsCutAct, IsFitAct}
use Rattle.link_bench.specs.Benches.{BenchState}

-- what holds anyway
pub on_err : {T E P : Type 0} (r : Result T E) → P → OnErr r P
on_err (Ok x) holds = tt
on_err (Err e) holds = holds

module _ {W : Type 0} (P : BenchState → W → Type 0) where
  -- what holds of a bench and a watcher holds of the same ones
  of_same : (bench left : BenchState) (watcher seen : W) → left ≡ bench → seen ≡ watcher → P bench watcher → P left seen
  of_same bench left watcher seen benches watchers is = subst (λ (b : BenchState). P b seen) (sym benches) (subst (P bench) (sym watchers) is)

  -- what holds of what was there, and of what each fit act leaves, holds of what a fit act leaves that is cut short
  pub cut_kept : (leaves : LinkAct (List ℕ) → ActResult W) (asked : LinkAct (List ℕ)) (bench : BenchState) (watcher : W) (left : BenchState) (seen : W) → IsFitAct asked → P bench watcher
      → ((other : LinkAct (List ℕ)) → IsFitAct other → P (leaves other).bench (leaves other).watcher) → IsCutAct leaves asked bench watcher left seen → P left seen
  cut_kept leaves (act.Caller end) bench watcher left seen fit is each cut = of_same bench left watcher seen cut.0 cut.1 is
  cut_kept leaves (act.Call caller made wanted) bench watcher left seen fit is each cut = of_same bench left watcher seen cut.0 cut.1 is
  cut_kept leaves (act.Step caller more) bench watcher left seen fit is each cut = of_same bench left watcher seen cut.0 cut.1 is
  cut_kept leaves (act.Pump sender receiver count) bench watcher left seen fit is each cut =
      let few : cut.done ≤ STEPS_MOST = omega (arith, cut.most, fit.2) in
      let some : LinkAct (List ℕ) = act.Pump sender receiver cut.done in
      of_same (leaves some).bench left (leaves some).watcher seen cut.bench cut.watcher (each some (fit.0, fit.1, few))
  cut_kept leaves (act.Reclaim caller) bench watcher left seen fit is each cut = of_same bench left watcher seen cut.0 cut.1 is
