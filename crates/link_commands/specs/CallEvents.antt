-- What is written of the end of a call (own).
use Rattle.std.specs.Prelude.{ℕ, List, [], ◌∷◌}
use Rattle.rp_base.specs.declared.kinds.Verdict.{Verdict}
use Rattle.rp_base.specs.declared.kinds.Verdict.TheVariants as verdict
use Rattle.rp_base.specs.declared.kinds.BindFault.{BindFault}
use Rattle.rp_base.specs.declared.kinds.BindFault.TheVariants as bind_fault
use Rattle.rpmsg_header.specs.Headers.{source_of, payload_of}
use Rattle.lane_model.specs.declared.calls.CallEnd.{CallEnd}
use Rattle.lane_model.specs.declared.calls.CallEnd.TheVariants as end
use Rattle.lane_model.specs.Links.{LinkState, end_of}
use Rattle.journal.specs.declared.events.Event.{Event}
use Rattle.journal.specs.declared.events.Event.TheVariants as event
use Rattle.link_bench.specs.declared.benches.Reach.{Reach}
use Rattle.link_bench.specs.declared.benches.Reach.TheVariants as reach
use Rattle.link_bench.specs.declared.benches.BenchFault.{BenchFault}
use Rattle.link_bench.specs.declared.benches.BenchFault.TheVariants as fault
use Rattle.channel_bus.specs.Sides.{EndState}
use Rattle.link_bench.specs.Benches.{message_for}

-- the end of a take, by the verdict; the addresses and the payload are the fields of the message
abbrev pub took_event : List ℕ → ℕ → ℕ → List ℕ → Verdict → Event
took_event name caller number message (verdict.To endpoint) =
    event.TookFromTo name caller number (source_of message) endpoint (payload_of message)
took_event name caller number message (verdict.Dropped dst) =
    event.TookFromDropped name caller number (source_of message) dst (payload_of message)
took_event name caller number message verdict.Malformed = event.TookMalformed name caller number
took_event name caller number message (verdict.Service what channel address endpoint) =
    event.TookNs name caller number what channel address
took_event name caller number message verdict.ServiceMalformed = event.TookNsMalformed name caller number

-- why an endpoint was not bound or unbound
abbrev pub refused_event : List ℕ → ℕ → BindFault → Event
refused_event name caller (bind_fault.AddressTaken address) = event.AddressTaken name caller address
refused_event name caller bind_fault.EndpointsFull = event.EndpointsFull name caller
refused_event name caller (bind_fault.NotBound address) = event.NotBound name caller address

-- the end of a call of a caller, which took a message of this link
abbrev pub end_event : List ℕ → LinkState EndState → ℕ → CallEnd → Event
end_event name link caller (end.Sent number) = event.Sent name caller number
end_event name link caller (end.Took number judged) =
    took_event name caller number (message_for link (end_of link.callers caller) number) judged
end_event name link caller (end.Gave number) = event.Gave name caller number
end_event name link caller (end.Bound endpoint) = event.Bound name caller endpoint
end_event name link caller (end.Unbound endpoint) = event.Unbound name caller endpoint
end_event name link caller (end.Busy holder) = event.Busy name caller holder
end_event name link caller (end.Dead era) = event.Dead name caller era
end_event name link caller (end.NoBuffer accepted returned) = event.NoBuffer name caller accepted returned
end_event name link caller (end.BookFull accepted) = event.BookFull name caller accepted
end_event name link caller (end.Empty accepted) = event.Empty name caller accepted
end_event name link caller (end.Refused why) = refused_event name caller why

-- what is written of a call that came so far: nothing where the run has no step left
abbrev pub reach_events : List ℕ → LinkState EndState → ℕ → Reach → List Event
reach_events name link caller (reach.At step) = event.At name caller step ∷ []
reach_events name link caller (reach.Ended ended) = end_event name link caller ended ∷ []
reach_events name link caller reach.Limit = []

-- a refusal of the bench
abbrev pub fault_event : List ℕ → ℕ → BenchFault → Event
fault_event name caller fault.NoCaller = event.NoCaller name caller
fault_event name caller fault.InCall = event.InCall name caller
fault_event name caller fault.NoCall = event.NoCall name caller
fault_event name caller (fault.NotHeld number) = event.NotHeld name caller number
