use Rattle.std.proofs.Common.{◌≡◌, ◌+◌, ◌-◌, ◌≤◌, Some, None, Option, ℕ, suc, sym, ap, subst, ◌∙◌, arith}
use Rattle.std.specs.Option.{option_map, unwrap_or}
use Rattle.lane_model.specs.declared.calls.Ask.{Ask}
use Rattle.lane_model.specs.Links.{LinkState}
use Rattle.lane_model.specs.WholeCalls.{left_of}
use Rattle.lane_model.specs.Answers.{MayAsk, wish_of, asked_step, steps_to_answer}
use Rattle.lane_model.proofs.GoesOn.{most_left}
use Rattle.lane_model.proofs.AskSteps.{ask_goes_on, answer_ends, answer_goes_on, at_some}
use Rattle.lane_model.proofs.links.make_call.Goals as goal

pub loop-init : goal.loop-init
loop-init g c =
    let desk = g.L.Desk.Desk.meaning in
    let told = c.requires.0 in
    let number = g.L.Link.number c.args.pass.now in
    let begun = at_some (g.L.Link.state c.args.link.now) told _ c.requires.1 c.begin-call.ensures in
    let most = most_left told number (option_map wish_of (Some c.args.ask)) in
    record {
      told = told;
      is = c.requires.1;
      may = subst (MayAsk told number) (sym begun.1) c.requires.2;
      few = subst (λ (asked : Option Ask). left_of told number (option_map wish_of asked) + 0 ≤ 6) (sym begun.1) (omega (arith, most));
      left = λ first is.
          let same : told ≡ first = ap (λ (o : Option (LinkState g.row.L-Desk.Denot)). unwrap_or o told) (sym c.requires.1 ∙ is) in
          ap (λ follows. steps_to_answer 7 desk told number follows (g.L.Link.asked c.begin-call.result)) begun.0
          ∙ ap (λ (asked : Option Ask). steps_to_answer 7 desk told number told.era.inc asked) begun.1
          ∙ ap (λ (state : LinkState g.row.L-Desk.Denot). steps_to_answer 7 desk state number state.era.inc (Some c.args.ask)) same;
    }

pub advance-requires : goal.advance-requires
advance-requires g c = g.met.L.Link.leads c.loop.link c.loop.pass c.loop.call c.loop.invariant.told c.loop.invariant.is c.loop.invariant.may

pub loop-preserved : goal.loop-preserved
loop-preserved g c =
    let desk = g.L.Desk.Desk.meaning in
    let told = c.loop.invariant.told in
    let number = g.L.Link.number c.loop.pass in
    let follows = g.L.Link.follows c.loop.call in
    let asked = g.L.Link.asked c.loop.call in
    let next = asked_step desk told number follows asked in
    let step = at_some (g.L.Link.state c.loop.link) told _ c.loop.invariant.is c.in-At.ensures.step in
    let call = at_some (g.L.Link.state c.loop.link) told _ c.loop.invariant.is c.in-At.ensures.call in
    let pass = at_some (g.L.Link.state c.loop.link) told _ c.loop.invariant.is c.in-At.ensures.pass in
    let on = ask_goes_on desk told number follows asked c.in-At.field-0 c.loop.invariant.may step.1 in
    let same_number : g.L.Link.number c.advance.new.pass ≡ number = ap g.L.Link.number pass in
    let rest : ℕ = 7 - (c.loop.counter + 1) in
    let count : 7 - c.loop.counter ≡ suc rest = omega arith in
    let fewer : left_of next.state number None + (c.loop.counter + 1) ≤ 6 = omega (arith, on.1, c.loop.invariant.few) in
    record {
      told = next.state;
      is = step.0;
      may = subst (λ n. MayAsk next.state n (g.L.Link.asked c.advance.new.call)) (sym same_number) (subst (MayAsk next.state number) (sym call.1) on.0);
      few = subst (λ n. left_of next.state n (option_map wish_of (g.L.Link.asked c.advance.new.call)) + (c.loop.counter + 1) ≤ 6) (sym same_number)
          (subst (λ (a : Option Ask). left_of next.state number (option_map wish_of a) + (c.loop.counter + 1) ≤ 6) (sym call.1) fewer);
      left = λ first is.
          ap (λ n. steps_to_answer rest desk next.state n (g.L.Link.follows c.advance.new.call) (g.L.Link.asked c.advance.new.call)) same_number
          ∙ ap (λ f. steps_to_answer rest desk next.state number f (g.L.Link.asked c.advance.new.call)) call.0
          ∙ ap (λ (a : Option Ask). steps_to_answer rest desk next.state number follows a) call.1
          ∙ sym (answer_goes_on rest desk told number follows asked c.in-At.field-0 step.1)
          ∙ sym (ap (λ n. steps_to_answer n desk told number follows asked) count)
          ∙ c.loop.invariant.left first is;
    }

pub returns-in-Done : goal.returns-in-Done
returns-in-Done g c = λ first is.
    let desk = g.L.Desk.Desk.meaning in
    let told = c.loop.invariant.told in
    let number = g.L.Link.number c.loop.pass in
    let follows = g.L.Link.follows c.loop.call in
    let asked = g.L.Link.asked c.loop.call in
    let step = at_some (g.L.Link.state c.loop.link) told _ c.loop.invariant.is c.in-Done.ensures.step in
    let rest : ℕ = 6 - c.loop.counter in
    let count : 7 - c.loop.counter ≡ suc rest = omega arith in (
      (asked_step desk told number follows asked).state,
      step.0,
      sym (c.loop.invariant.left first is)
          ∙ ap (λ n. steps_to_answer n desk told number follows asked) count
          ∙ answer_ends rest desk told number follows asked c.in-Done.answer step.1,
    )

pub unreachable-requires : goal.unreachable-requires
unreachable-requires g c = omega (arith, c.loop.invariant.few)
