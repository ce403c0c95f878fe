-- The buffers in the hands of a caller that is in no call are here, with their messages.
use Rattle.std.proofs.Common.{◌≡◌, ℕ, List, Option, Some, None, Vec, refl, sym, ap, subst, ◌∙◌}
use mathlib.Core.Option.{some-ne-none}
use Rattle.std.specs.Option.{option_map}
use Rattle.std.specs.declared.alloc.Global.{Global}
use Rattle.rp_base.specs.declared.kinds.End.{End}
use Rattle.rp_base.specs.declared.kinds.End.TheVariants as side
use Rattle.lane_model.specs.HeldBuffers.{HeldBuffer}
use Rattle.lane_model.specs.Lanes.{message_at}
use Rattle.link_words.specs.Passes.{HasNumber}
use Rattle.link_words.specs.Words.{lane_to}
use Rattle.split_ring.specs.Reclaims.{buffer_in, phase_of}
use Rattle.managed_link.specs.declared.call_slots.CarriedCall.{CarriedCall}
use Rattle.managed_link.specs.declared.hands.Hand.{Hand}
use Rattle.managed_link.specs.Hands.{IsHandAt}
use Rattle.managed_link.specs.Known.{LinkRings, lists_of}
use Rattle.managed_link.specs.Managed.{AreHandsOf, IsHandOf, call_of, message_for}

module _ (m : LinkRings) (end : End) (calls : List (Option CarriedCall)) (hands : Vec Hand Global) (are : AreHandsOf m end calls hands)
    (number caller place : ℕ) (hand : Hand) (at : IsHandAt hands.items number caller place hand) (rests : call_of calls caller ≡ None) where
  -- none is out with a call
  pub never_out : hand.held ≡ None → ⊥
  never_out out =
      let with_call = subst (IsHandOf m end calls hand) out (are.own place hand at.here) in
      let none : call_of calls hand.caller ≡ None = ap (call_of calls) at.by_caller ∙ rests in
      let listed = subst (λ (call : Option CarriedCall). HasNumber (buffer_in (phase_of (option_map (λ (c : CarriedCall). c.call) call))) hand.number) none with_call in
      some-ne-none hand.number (sym listed.1)

  pub message_is : (held : HeldBuffer) → hand.held ≡ Some held → held.message ≡ message_at (lane_to m end).lane.lane.accepted number
  message_is held here =
      let own = subst (IsHandOf m end calls hand) here (are.own place hand at.here) in own.0.message ∙ ap (message_at (lane_to m end).lane.lane.accepted) (own.1 ∙ at.numbered)

-- the message of a number on the lane that an end takes from
pub message_on : (m : LinkRings) (end : End) (number : ℕ) → message_at (lane_to m end).lane.lane.accepted number ≡ message_for (lists_of m) (Some end) number
message_on m side.Host number = refl
message_on m side.Remote number = refl
