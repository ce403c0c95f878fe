-- A call of the manager that leaves the state as it is leaves the link managed and seen as it was.
use Rattle.std.proofs.Common.{List, Option, Vec, refl}
use Rattle.std.specs.declared.alloc.Global.{Global}
use Rattle.rp_base.specs.declared.kinds.Era.{Era}
use Rattle.channel_bus.specs.Sides.{EndState}
use Rattle.split_ring.specs.declared.callers.CallerId.{CallerId}
use Rattle.split_ring.specs.declared.callers.Manager.{Manager}
use Rattle.split_ring.specs.CallPhases.{Phase}
use Rattle.split_ring.specs.declared.links.SharedLink.{SharedLink}
use Rattle.split_ring.specs.Callers.{IsManagerOf, IsStateOf}
use Rattle.split_ring.specs.Carried.{Keeps}
use Rattle.managed_link.specs.declared.call_slots.CarriedCall.{CarriedCall}
use Rattle.managed_link.specs.declared.hands.Hand.{Hand}
use Rattle.managed_link.specs.declared.views.LaneView.{LaneView}
use Rattle.managed_link.specs.EndCodes.{end_coded}
use Rattle.managed_link.specs.Known.{IsKnown, LinkRings}
use Rattle.managed_link.specs.Managed.{IsManaged, ShowsViews}
use Rattle.managed_link.proofs.KnownStates.{at_known}
use Rattle.managed_link.proofs.SameLanes.{managed_kept}

pub stays_as_known : (shared : SharedLink EndState) (before after : Manager) (era : Era) (to_host to_remote : LaneView) (calls : List (Option CarriedCall)) (host remote : Vec Hand Global) (m : LinkRings)
    → IsManagerOf shared after → IsStateOf end_coded after m → ((who : CallerId) (p : Phase) → Keeps shared before after who p)
    → IsManaged shared before calls host remote m × ShowsViews era to_host to_remote m → (x : LinkRings) → IsKnown after x → IsManaged shared after calls host remote x × ShowsViews era to_host to_remote x
stays_as_known shared before after era to_host to_remote calls host remote m manages state keeps is =
    at_known (λ (x : LinkRings). IsManaged shared after calls host remote x × ShowsViews era to_host to_remote x) after m state
    (managed_kept shared before after calls host remote m m manages state is.0.sound (record { to_host = refl; to_remote = refl }) refl keeps is.0, is.1)
