-- The buffer is here, so that a call gives it back which is the one of this number.
use Rattle.std.proofs.Common.{◌≡◌, ◌∙◌, ℕ, Option, Some, None, IsSomeAnd, ap, arith, subst, sym, slice_set}
use Rattle.std.specs.Option.{option_copied}
use Rattle.lane_model.specs.declared.calls.Wish.TheVariants as wish
use Rattle.lane_model.specs.HeldBuffers.{HeldBuffer}
use Rattle.managed_link.specs.Hands.{IsHandAt}
use Rattle.managed_link.specs.Steps.{IsAsking}
use Rattle.managed_link.proofs.HandLists.{hand_read, place_in}
use Rattle.managed_link.proofs.hands.take_out.Goals as goal
use Rattle.managed_link.proofs.hands.take_out.Goals.{After-index_mut}

pub index_mut-requires : goal.index_mut-requires
index_mut-requires c =
    let within = place_in _ _ c.args.number c.args.caller c.place_of-place.result c.deref.ensures.value c.place_of-place.ensures in
    omega (arith, within, c.args.hands.now.ok.0)

found_at : (c : After-index_mut) → IsHandAt c.args.hands.now.items c.args.number c.args.caller c.place_of-place.result c.index_mut.result.now
found_at c = hand_read _ _ c.args.number c.args.caller c.place_of-place.result c.index_mut.result.now c.deref.ensures.value c.place_of-place.ensures c.index_mut.ensures.value

held_here : (c : After-index_mut) (held : Option HeldBuffer) → c.index_mut.result.now.held ≡ held → IsSomeAnd held (λ buffer. buffer.number ≡ c.args.number)
held_here c held is = subst (λ (h : Option HeldBuffer). IsSomeAnd h (λ buffer. buffer.number ≡ c.args.number)) is (c.requires.held _ _ (found_at c))

pub unreachable-requires : goal.unreachable-requires
unreachable-requires c = held_here (goal.at.unreachable-requires c).After-index_mut None (sym c.place.ensures ∙ ap option_copied c.in-None.is)

pub returns-clause-out : goal.returns-clause-out
returns-clause-out c =
    let read = c.index_mut.result.now in
    let held = c.in-Some.held.now in
    let here : read.held ≡ Some held = sym c.place.ensures ∙ ap option_copied c.in-Some.is in
    let numbered : held.number ≡ c.args.number = held_here (goal.at.returns-clause-out c).After-index_mut (Some held) here in (
      held,
      subst (λ (number : ℕ). IsAsking c.args.follows (wish.Give number) (Some held) c.give.new.self) numbered c.give.ensures,
      (
        c.place_of-place.result,
        read,
        found_at (goal.at.returns-clause-out c).After-index_mut,
        sym here,
        ap (λ (h : Option HeldBuffer). slice_set c.args.hands.now.items c.place_of-place.result (record read { held = h })) c.clear.ensures,
      ),
    )
