use Rattle.std.proofs.Common.{◌≡◌, ◌+◌, ◌-◌, ◌<◌, Some, ap, subst, sym, ◌∙◌, arith, rules, Option, IfSome}
use Rattle.rp_base.specs.declared.kinds.End.{End}
use Rattle.rp_base.specs.declared.kinds.End.TheVariants as side
use Rattle.lane_model.specs.Lanes.{holder}
use Rattle.lane_model.specs.Links.{end_of}
use Rattle.link_bench.specs.Benches.{BenchState, link_in}
use Rattle.link_bench.specs.BenchEnds.{is_remote, without_others}
use Rattle.link_bench.proofs.RemoteEnds.{IsQuiet, end_quiet, other_quiet, others_next, others_none, own_other}
use Rattle.link_bench.proofs.benches.Bench.end_remotes.Goals.{in-Some, in_default}
use Rattle.link_bench.proofs.benches.Bench.end_remotes.Goals as goal

pub loop-caller-init : goal.loop-caller-init
loop-caller-init c = let bench = c.args.self.now in elim c.match-first.branch [
  | in-Some w ↦ (let caller = w.in-Some.holder in
      let has : holder (link_in bench).to_remote.receiver ≡ Some caller = cc in
      let user : end_of (link_in bench).callers caller ≡ Some side.Remote = ap (λ (b : BenchState). end_of (link_in b).callers caller) (sym c.self.view_is) ∙ w.in-Some.ensures.user in
      let low : caller < 64 = subst (λ (found : Option End). IfSome found (λ _. caller < 64)) user w.end_remote.ensures.low in
      let quiet = end_quiet bench caller c.requires (own_other (link_in bench).to_remote.receiver caller low has) (ap is_remote user) in record {
        walk = search rules;
        quiet = subst (λ (left : BenchState). IsQuiet (link_in left)) (sym w.end_remote.ensures.left ∙ sym w.self-is) quiet;
      })
  | in_default w ↦ record { walk = search rules; quiet = record { shut = rw (w.self-is) c.requires; free = cc } }
]

pub loop-caller-preserved : goal.loop-caller-preserved
loop-caller-preserved c =
    let at = c.loop-caller.caller in
    let first = c.match-first.first in
    let less : at < 64 = omega (arith, c.loop-caller-test.true) in record {
      walk = ap (λ (bench : BenchState). without_others first bench (at + 1) (64 - (at + 1))) c.end_other.ensures
          ∙ sym (others_next first c.loop-caller.self at 64 less) ∙ c.loop-caller.invariant.walk;
      quiet = subst (λ (left : BenchState). IsQuiet (link_in left)) (sym c.end_other.ensures) (other_quiet first c.loop-caller.self at c.loop-caller.invariant.quiet);
    }

pub returns : goal.returns
returns c =
    let at = c.loop-caller.caller in
    let end : 64 - at ≡ 0 = omega (arith, c.loop-caller-test.false) in
    sym (others_none c.match-first.first c.loop-caller.self at) ∙ sym (ap (without_others c.match-first.first c.loop-caller.self at) end) ∙ c.loop-caller.invariant.walk
