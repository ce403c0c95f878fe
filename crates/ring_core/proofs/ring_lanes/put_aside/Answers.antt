use Rattle.std.proofs.Common.{◌≡◌, ◌<◌, ◌+◌, take, length, ap, ◌∙◌, vec_capacity, arith, rules, length-append}
use Rattle.std.proofs.lemmas.List.{length-take-le}
use Rattle.ring_core.specs.RingSteps.{buffers_of}
use Rattle.ring_core.proofs.Hands.{buffers-few}
use Rattle.ring_core.proofs.ring_lanes.put_aside.Goals as goal

pub push_reserved-requires : goal.push_reserved-requires
push_reserved-requires c =
    let front = take c.loop-hand.hand-index c.args.hands.now in
    let few = buffers-few front c.args.caller in
    let at : length front ≡ c.loop-hand.hand-index = length-take-le c.loop-hand.hand-index c.args.hands.now (omega (arith, c.loop-hand-test.true)) in
    let long : length c.loop-hand.aside.items ≡ length c.args.aside.now.items + length (buffers_of front c.args.caller) =
    ap length c.loop-hand.invariant.items ∙ length-append c.args.aside.now.items _ in
    let room = c.loop-hand.invariant.room in
    let less : length c.loop-hand.aside.items < vec_capacity c.loop-hand.aside = omega (arith, few, at, long, room, c.requires, c.loop-hand-test.true) in
    search rules
