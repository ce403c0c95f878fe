-- The first report of a crash of a core: what it answers and leaves.
use Rattle.std.proofs.Common.{◌≡◌, true, Option, Some, None, Result, Ok, refl, ap, ◌∙◌}
use Rattle.proc_state.specs.Lives.{CoreLife, life_after_crash}
use Rattle.proc_state.specs.declared.answers.LifeFault.{LifeFault}
use Rattle.proc_state.specs.declared.answers.Report.{Report}
use Rattle.proc_state.specs.declared.answers.Report.TheVariants as report
use Rattle.link_bench.specs.Benches.{BenchState}
use Rattle.crash_recover.specs.declared.core_answers.Crash.{Crash}
use Rattle.crash_recover.specs.declared.core_answers.Crash.TheVariants as crash
use Rattle.crash_recover.specs.CoreCrashes.{crashed_core, first_report, link_incarnation, report_as, report_of}
use Rattle.crash_recover.specs.Cores.{CoreOutcome, CoreState}

-- what closes the link, where there is one, and leaves the core in a life
abbrev Closes : CoreLife → CoreState → Option BenchState → CoreOutcome Crash LifeFault
Closes life core found = record { core = crashed_core life core; answer = Ok (crash.First (link_incarnation found)) }

first_closes : (life : CoreLife) (core : CoreState) (found : Option BenchState) → first_report true life core found ≡ Closes life core found
first_closes life core None = refl
first_closes life core (Some bench) = refl

-- the report of a crash of a core whose life says that it is the first
pub report_closes : (core : CoreState) → (life_after_crash core.life).answer ≡ Ok report.First
    → report_of true core ≡ record { core = crashed_core (life_after_crash core.life).life core; answer = Ok (crash.First (link_incarnation core.bench)) }
unfolding report_of
report_closes core first =
    let life = (life_after_crash core.life).life in
    ap (λ (answer : Result Report LifeFault). report_as true life answer core) first ∙ first_closes life core core.bench
