-- What the actors of a core make of the end of a call: the drivers of what a host caller was handed, and each actor of its own call (own).
use Rattle.std.specs.Prelude.{ℕ, Bool, true, false, List, [], ◌∷◌, ◌++◌, drop, Option, Some, None, if◌then◌else◌}
use Rattle.rp_base.specs.declared.kinds.End.{End}
use Rattle.rp_base.specs.declared.kinds.End.TheVariants as side
use Rattle.rp_base.specs.declared.kinds.Endpoint.{Endpoint}
use Rattle.rp_base.specs.declared.kinds.NsKind.{NsKind}
use Rattle.rp_base.specs.declared.kinds.NsKind.TheVariants.{Created, Duplicate, Destroyed, Unknown, ChannelsFull}
use Rattle.rp_base.specs.declared.kinds.Verdict.{Verdict}
use Rattle.rp_base.specs.declared.kinds.Verdict.TheVariants as verdict
use Rattle.lane_model.specs.declared.calls.Wish.{Wish}
use Rattle.lane_model.specs.declared.calls.Wish.TheVariants as wish
use Rattle.lane_model.specs.declared.calls.CallEnd.{CallEnd}
use Rattle.lane_model.specs.declared.calls.CallEnd.TheVariants as ended
use Rattle.lane_model.specs.Links.{end_of}
use Rattle.host_driver.specs.Drivers.{DriversState, created_answer, after_created, delivered_answer, after_delivered, after_destroyed}
use Rattle.remote_core.specs.Workers.{WorkerState, after_take}
use Rattle.link_bench.specs.Benches.{BenchState, link_in, message_for}
use Rattle.core_actors.specs.Actors.{ActorsState}

-- ---- the drivers

-- what the drivers send where a service message of this kind bound or unbound an endpoint
abbrev pub endpoint_answer : DriversState → NsKind → List ℕ → ℕ → Endpoint → Option (List ℕ)
endpoint_answer drivers Created name address endpoint = created_answer drivers name endpoint address
endpoint_answer drivers Duplicate name address endpoint = None
endpoint_answer drivers Destroyed name address endpoint = None
endpoint_answer drivers Unknown name address endpoint = None
endpoint_answer drivers ChannelsFull name address endpoint = None

-- what is left of them then
abbrev pub after_endpoint : DriversState → NsKind → List ℕ → ℕ → Endpoint → DriversState
after_endpoint drivers Created name address endpoint = after_created drivers name endpoint address
after_endpoint drivers Duplicate name address endpoint = drivers
after_endpoint drivers Destroyed name address endpoint = after_destroyed drivers endpoint
after_endpoint drivers Unknown name address endpoint = drivers
after_endpoint drivers ChannelsFull name address endpoint = drivers

-- the same of a message that may have bound or unbound none
abbrev pub channel_answer : DriversState → NsKind → List ℕ → ℕ → Option Endpoint → Option (List ℕ)
channel_answer drivers kind name address None = None
channel_answer drivers kind name address (Some endpoint) = endpoint_answer drivers kind name address endpoint

abbrev pub after_channel : DriversState → NsKind → List ℕ → ℕ → Option Endpoint → DriversState
after_channel drivers kind name address None = drivers
after_channel drivers kind name address (Some endpoint) = after_endpoint drivers kind name address endpoint

-- what they send for a message that a host caller took, by the verdict on it
abbrev pub verdict_answer : DriversState → List ℕ → Verdict → Option (List ℕ)
verdict_answer drivers message (verdict.To endpoint) = delivered_answer drivers endpoint message
verdict_answer drivers message (verdict.Dropped address) = None
verdict_answer drivers message verdict.Malformed = None
verdict_answer drivers message (verdict.Service kind name address bound) = channel_answer drivers kind name address bound
verdict_answer drivers message verdict.ServiceMalformed = None

abbrev pub after_verdict : DriversState → Verdict → DriversState
after_verdict drivers (verdict.To endpoint) = after_delivered drivers endpoint
after_verdict drivers (verdict.Dropped address) = drivers
after_verdict drivers verdict.Malformed = drivers
after_verdict drivers (verdict.Service kind name address bound) = after_channel drivers kind name address bound
after_verdict drivers verdict.ServiceMalformed = drivers

-- what they send at the end of a call of a host caller: a take's, by its verdict
abbrev pub end_answer : DriversState → List ℕ → CallEnd → Option (List ℕ)
end_answer drivers message (ended.Took number verdict) = verdict_answer drivers message verdict
end_answer drivers message end = None

-- what is left of them then: an endpoint that was unbound is driven no more
abbrev pub after_end : DriversState → CallEnd → DriversState
after_end drivers (ended.Took number verdict) = after_verdict drivers verdict
after_end drivers (ended.Unbound endpoint) = after_destroyed drivers endpoint
after_end drivers end = drivers

-- the call that sends a message, if there is one
abbrev pub sends_of : Option (List ℕ) → List Wish
sends_of None = []
sends_of (Some message) = wish.Send message ∷ []

-- the actors once the drivers have seen the end of a call of a host caller: what a driver sends is the last of the host actor's calls
abbrev pub actors_after_drivers : ActorsState → List ℕ → CallEnd → ActorsState
actors_after_drivers actors message end = record actors {
  drivers = after_end actors.drivers end;
  host_calls = actors.host_calls ++ sends_of (end_answer actors.drivers message end);
}

-- ---- the ends of calls

-- the number of the message that a call was handed
abbrev pub taken_number : CallEnd → Option ℕ
taken_number (ended.Took number verdict) = Some number
taken_number end = None

-- the message of the number that a caller was handed, or no byte
abbrev pub message_of_number : BenchState → ℕ → Option ℕ → List ℕ
message_of_number bench caller None = []
message_of_number bench caller (Some number) = message_for (link_in bench) (end_of (link_in bench).callers caller) number

-- the message that a caller was handed by a call that ended so, or no byte
abbrev pub message_of : BenchState → ℕ → CallEnd → List ℕ
message_of bench caller end = message_of_number bench caller (taken_number end)

-- whether a call that ended so is made again: another had the turn, no buffer was there, or no message
abbrev pub is_tried_again : CallEnd → Bool
is_tried_again (ended.Busy holder) = true
is_tried_again (ended.NoBuffer accepted returned) = true
is_tried_again (ended.Empty accepted) = true
is_tried_again end = false

-- the calls that are left once the first one ended so
abbrev pub calls_after_end : CallEnd → List Wish → List Wish
calls_after_end end calls = if is_tried_again end then calls else drop 1 calls

-- the call that gives the buffer of a message back, if there is one
abbrev pub gives_of : Option ℕ → List Wish
gives_of None = []
gives_of (Some number) = wish.Give number ∷ []

-- the host actor once its call ended so: a take that is not among its calls is gone, whatever its end
abbrev pub host_after_call : ActorsState → CallEnd → ActorsState
host_after_call actors end = record actors {
  host_calls = (if actors.is_taking then actors.host_calls else calls_after_end end actors.host_calls) ++ gives_of (taken_number end);
  is_taking = false;
}

-- the worker once its call ended so: what it took is given back before its other calls
abbrev pub worker_after_end : WorkerState → List ℕ → Option ℕ → WorkerState
worker_after_end worker message None = worker
worker_after_end worker message (Some number) = after_take message worker

abbrev pub worker_after_call : ActorsState → List ℕ → CallEnd → ActorsState
worker_after_call actors message end = record actors {
  worker = worker_after_end actors.worker message (taken_number end);
  worker_calls = gives_of (taken_number end) ++ calls_after_end end actors.worker_calls;
}

-- ---- calls of others

-- the actors once the call of a caller at this end has ended so: the drivers see the ends of the host's calls
abbrev pub actors_at_end : Option End → List ℕ → CallEnd → ActorsState → ActorsState
actors_at_end None message end actors = actors
actors_at_end (Some side.Host) message end actors = actors_after_drivers actors message end
actors_at_end (Some side.Remote) message end actors = actors

-- the same of a caller of a link, which is what the actors see of it
abbrev pub actors_after_end : BenchState → ℕ → CallEnd → ActorsState → ActorsState
actors_after_end bench caller end actors = actors_at_end (end_of (link_in bench).callers caller) (message_of bench caller end) end actors
