use Rattle.std.proofs.Common.{◌≡◌, ◌-◌, ◌<◌, ap, sym, ◌∙◌, arith}
use Rattle.link_bench.specs.BenchHolds.{is_out}
use Rattle.link_bench.proofs.Outs.{all_callers, least_from, least_here, least_later, least_none}
use Rattle.link_bench.proofs.benches.Bench.caller_out.Goals as goal

pub loop-caller-init : goal.loop-caller-init
loop-caller-init c = all_callers c.args.self.now

pub returns-then-is_out : goal.returns-then-is_out
returns-then-is_out c =
    let at = c.loop-caller.caller in
    let less : at < 64 = omega (arith, c.loop-caller-test.true) in
    sym (c.loop-caller.invariant ∙ least_here (λ caller. is_out c.args.self.now caller) at 64 less (sym c.is_out.ensures ∙ c.if-is_out.true))

pub loop-caller-preserved : goal.loop-caller-preserved
loop-caller-preserved c =
    let at = c.loop-caller.caller in
    let less : at < 64 = omega (arith, c.loop-caller-test.true) in
    c.loop-caller.invariant ∙ least_later (λ caller. is_out c.args.self.now caller) at 64 less (sym c.is_out.ensures ∙ c.if-is_out.false)

pub returns : goal.returns
returns c =
    let at = c.loop-caller.caller in
    let end : 64 - at ≡ 0 = omega (arith, c.loop-caller-test.false) in
    sym (c.loop-caller.invariant ∙ ap (least_from (λ caller. is_out c.args.self.now caller) at) end ∙ least_none (λ caller. is_out c.args.self.now caller) at)
