-- A new managed link, which has no caller.
use Rattle.std.proofs.Common.{◌≡◌, ◌≤◌, ℕ, zero, suc, List, [], Option, Some, None, Vec, vec_capacity, length, map, replicate, arith, refl, sym, ap, ◌∙◌}
use mathlib.Core.Option.{some-ne-none}
use lib.ListN.{get_elem?}
use Rattle.std.specs.List.{slice_get}
use Rattle.std.specs.Option.{option_and_then}
use Rattle.std.specs.declared.alloc.Global.{Global}
use Rattle.rp_base.specs.declared.kinds.End.{End}
use Rattle.rp_base.specs.declared.kinds.End.TheVariants as side
use Rattle.rp_base.specs.Limits.{ring_capacity}
use Rattle.lane_model.specs.declared.calls.LinkConfig.{LinkConfig}
use Rattle.lane_model.specs.Conditions.{IsConfig}
use Rattle.lane_laws.proofs.SoundKept.{opened_sound}
use Rattle.channel_bus.specs.Sides.{EndState}
use Rattle.ring_core.specs.RingLinks.{opened_ring_link}
use Rattle.link_words.specs.Words.{lane_to}
use Rattle.split_ring.specs.declared.callers.Manager.{Manager}
use Rattle.split_ring.specs.declared.links.SharedLink.{SharedLink}
use Rattle.split_ring.specs.Callers.{IsManagerOf, IsStateOf}
use Rattle.managed_link.specs.declared.call_slots.CarriedCall.{CarriedCall}
use Rattle.managed_link.specs.declared.hands.Hand.{Hand}
use Rattle.managed_link.specs.EndCodes.{end_coded}
use Rattle.managed_link.specs.Hands.{holding_of}
use Rattle.managed_link.specs.Known.{LinkRings}
use Rattle.managed_link.specs.Managed.{AreHandsOf, IsManaged, call_of, no_calls}

-- nothing is under any number
none_there : {X : Type 0} (count n : ℕ) → option_and_then (λ (found : Option X). found) (slice_get (replicate count None) n) ≡ None
none_there zero n = refl
none_there (suc count) zero = refl
none_there (suc count) (suc n) = none_there count n

none_not_some : {X : Type 0} (x : X) → None ≡ Some x → ⊥
none_not_some x e = absurd (cc)

-- no buffer is in the hands of a caller
holds_none : (m : LinkRings) (end : End) (calls : List (Option CarriedCall)) (hands : Vec Hand Global) → (lane_to m end).lane.lane.held ≡ [] → hands.items ≡ [] → (lane_to m end).lane.lane.capacity ≤ vec_capacity hands
    → AreHandsOf m end calls hands
holds_none m end calls hands none empty room = record {
  listed = ap (map holding_of) empty ∙ sym none;
  room = room;
  own = λ place hand here. absurd (some-ne-none hand (sym (ap (λ (list : List Hand). get_elem? list place) (sym empty) ∙ here)));
}

pub managed_new : (shared : SharedLink EndState) (manager : Manager) (calls : List (Option CarriedCall)) (host remote : Vec Hand Global) (config : LinkConfig) (at_host at_remote : EndState) → IsConfig config
    → IsManagerOf shared manager → IsStateOf end_coded manager (opened_ring_link config at_host at_remote) → calls ≡ no_calls
    → (host.items ≡ []) × (ring_capacity config.num0 ≤ vec_capacity host) → (remote.items ≡ []) × (ring_capacity config.num1 ≤ vec_capacity remote)
    → IsManaged shared manager calls host remote (opened_ring_link config at_host at_remote)
managed_new shared manager calls host remote config at_host at_remote is manages state none hosts remotes = let m = opened_ring_link config at_host at_remote in record {
  manages = manages;
  state = state;
  sound = opened_sound config at_host at_remote;
  limits = (record { buffers = omega arith; book = is.book.1 }, record { buffers = omega arith; book = is.book.1 });
  slots = ap length none;
  callers = λ n end user. absurd (none_not_some end (sym (none_there 64 n) ∙ user));
  idle = λ n free. ap (λ (list : List (Option CarriedCall)). call_of list n) none ∙ none_there 64 n;
  to_host = holds_none m side.Host calls host refl hosts.0 hosts.1;
  to_remote = holds_none m side.Remote calls remote refl remotes.0 remotes.1;
}
