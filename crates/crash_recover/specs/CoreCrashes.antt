-- What a crash report of a core answers and leaves (`rproc_report_crash` of Linux remoteproc_core.c; what becomes of the callers is own).
use Rattle.std.specs.Prelude.{ℕ, Bool, true, Option, Some, None, option_map, Result, Ok, Err, if◌then◌else◌}
use Rattle.proc_state.specs.Lives.{CoreLife, life_after_crash}
use Rattle.proc_state.specs.declared.answers.LifeFault.{LifeFault}
use Rattle.proc_state.specs.declared.answers.Report.{Report}
use Rattle.proc_state.specs.declared.answers.Report.TheVariants as report
use Rattle.link_bench.specs.Benches.{BenchState, link_in}
use Rattle.link_bench.specs.BenchEnds.{crashed_bench}
use Rattle.crash_recover.specs.declared.core_answers.Crash.{Crash}
use Rattle.crash_recover.specs.declared.core_answers.Crash.TheVariants as crash
use Rattle.crash_recover.specs.Cores.{CoreOutcome, CoreState}

-- the core in this life once its link is closed and its remote callers are gone
abbrev pub crashed_core : CoreLife → CoreState → CoreState
crashed_core life core = record core { life = life; bench = option_map crashed_bench core.bench }

-- which incarnation the link of a core is in, where it has one
abbrev pub link_incarnation : Option BenchState → Option ℕ
link_incarnation link = option_map (λ (bench : BenchState). (link_in bench).era.inc) link

-- the first report: the link is closed, which is a step that may be taken or not
abbrev pub first_report : Bool → CoreLife → CoreState → Option BenchState → CoreOutcome Crash LifeFault
first_report may_step life core None = record { core = crashed_core life core; answer = Ok (crash.First None) }
first_report may_step life core (Some bench) =
    if may_step then record { core = crashed_core life core; answer = Ok (crash.First (Some (link_in bench).era.inc)) }
    else record { core = core; answer = Ok crash.Limit }

-- a report, by the life then and what it answers
abbrev pub report_as : Bool → CoreLife → Result Report LifeFault → CoreState → CoreOutcome Crash LifeFault
report_as may_step life (Err why) core = record { core = core; answer = Err why }
report_as may_step life (Ok report.First) core = first_report may_step life core core.bench
report_as may_step life (Ok report.Already) core = record { core = core; answer = Ok crash.Already }

-- a crash report, for which a step may be taken or not
unfoldable pub report_of : Bool → CoreState → CoreOutcome Crash LifeFault
report_of may_step core = report_as may_step (life_after_crash core.life).life (life_after_crash core.life).answer core

-- the core after a crash report that is part of a step
abbrev pub after_report : CoreState → CoreState
after_report core = (report_of true core).core

-- the answer in short (own)
abbrev pub report_in_short : Crash → Report
report_in_short (crash.First closed) = report.First
report_in_short crash.Already = report.Already
-- (no step is asked for in vain where one may be taken)
report_in_short crash.Limit = report.First
