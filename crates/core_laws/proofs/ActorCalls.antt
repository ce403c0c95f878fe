-- The calls that a core's actors are yet to make, whatever befalls the actors: one walk over the drivers, the ends of calls and the worker's records for each thing that fits of calls.
use Rattle.std.proofs.Common.{◌≡◌, ℕ, cond, Bool, true, false, not, ◌&&◌, nat_lt, List, [], ◌∷◌, drop, All, Option, Some, None, IfSome, Result, Ok, Err, option_and_then, arith}
use Rattle.std.specs.Result.{IfOk}
use Rattle.std.proofs.lemmas.Bool.{cond_both}
use Rattle.std.proofs.lemmas.List.Elements.{All-append, All-cons, All-drop, All-nil}
use Rattle.rp_base.specs.declared.kinds.DriverKind.{DriverKind}
use Rattle.rp_base.specs.declared.kinds.DriverKind.TheVariants.{Sink, Echo, Sample}
use Rattle.rp_base.specs.declared.kinds.End.{End}
use Rattle.rp_base.specs.declared.kinds.End.TheVariants as side
use Rattle.rp_base.specs.declared.kinds.Endpoint.{Endpoint}
use Rattle.rp_base.specs.declared.kinds.NsKind.{NsKind}
use Rattle.rp_base.specs.declared.kinds.NsKind.TheVariants.{Created}
use Rattle.rp_base.specs.declared.kinds.Verdict.{Verdict}
use Rattle.rp_base.specs.declared.kinds.Verdict.TheVariants as verdict
use Rattle.rpmsg_header.specs.Headers.{header_bytes, payload_of, source_of}
use Rattle.addr_translate.specs.Maps.{Mapping}
use Rattle.remote_code.specs.declared.faults.WorkerFault.{WorkerFault}
use Rattle.remote_code.specs.declared.faults.WorkerFault.TheVariants as worker_fault
use Rattle.remote_code.specs.declared.records.Record.{Record}
use Rattle.remote_core.specs.Records.{admitted, has_large_operand, names_memory, needs_link, next_record, record_at, tested, with_memory}
use Rattle.remote_core.specs.Workers.{WorkerState}
use Rattle.remote_core.specs.Works.{work_of, work_of_next, work_of_record}
use Rattle.remote_core.specs.declared.workers.Work.{Work}
use Rattle.remote_core.specs.declared.workers.Work.TheVariants as work
use Rattle.host_driver.specs.Drivers.{DriversState, created_answer, driven_at, kind_for, message_from, newly_driven, probe_message, reply_to, sample_count, sample_text, with_delivery}
use Rattle.host_driver.specs.declared.driven.DrivenEndpoint.{DrivenEndpoint}
use Rattle.lane_model.specs.declared.calls.CallEnd.{CallEnd}
use Rattle.lane_model.specs.declared.calls.CallEnd.TheVariants as ended
use Rattle.lane_model.specs.declared.calls.Wish.{Wish}
use Rattle.lane_model.specs.declared.calls.Wish.TheVariants as wish
use Rattle.lane_model.specs.Lanes.{message_at}
use Rattle.lane_model.specs.Links.{LinkState, end_of}
use Rattle.channel_bus.specs.Sides.{EndState}
use Rattle.link_bench.specs.declared.benches.Reach.{Reach}
use Rattle.link_bench.specs.declared.benches.Reach.TheVariants as reach
use Rattle.link_bench.specs.Benches.{BenchState, is_in_call, link_in, message_for}
use Rattle.core_actors.specs.Actors.{ActorsState}
use Rattle.core_actors.specs.ActorEnds.{actors_after_drivers, actors_after_end, actors_at_end, calls_after_end, channel_answer, end_answer, endpoint_answer, gives_of, host_after_call, is_tried_again, message_of, message_of_number, sends_of, taken_number, verdict_answer}
use Rattle.core_actors.specs.ActorSteps.{actors_after_record, first_or_take, host_after_step, host_at_step, host_at_step_as, wishes_of_work, worker_after_step}

-- what fits of calls, and what is said of actors whose calls do: the few facts by which the calls differ
pub record FitCalls (Fits : Wish → Type 0) (Are : ActorsState → Type 0) : Type 0 where
  -- it is said of the actors by their two lists of calls
  pub both : (actors : ActorsState) → All Fits actors.host_calls → All Fits actors.worker_calls → Are actors
  pub host : (actors : ActorsState) → Are actors → All Fits actors.host_calls
  pub worker : (actors : ActorsState) → Are actors → All Fits actors.worker_calls
  -- a take fits, and to send no byte, what a driver sends of its own, or an echo of what fits
  pub take : Fits wish.Take
  pub none : Fits (wish.Send [])
  pub sample : (one : DrivenEndpoint) → Fits (wish.Send (message_from one one.channel sample_text))
  pub echo : (source destination : ℕ) (message : List ℕ) → Fits (wish.Send message) → Fits (wish.Send (header_bytes source destination (payload_of message)))

-- to send any message that a link has accepted fits
pub record AreFitMessages (Fits : Wish → Type 0) (link : LinkState EndState) : Type 0 where
  pub to_host : (number : ℕ) → Fits (wish.Send (message_at link.to_host.lane.accepted number))
  pub to_remote : (number : ℕ) → Fits (wish.Send (message_at link.to_remote.lane.accepted number))

-- to give back what a call was handed fits
abbrev pub IsFitEnd : (Wish → Type 0) → Reach → Type 0
IsFitEnd Fits (reach.Ended end) = IfSome (taken_number end) (λ number. Fits (wish.Give number))
IsFitEnd Fits goes_on = Unit {0}

-- ---- the worker's records

tested_has : (Before After : Record → Type 0) (test : Record → Result Record WorkerFault) (found : Result Record WorkerFault) → IfOk found Before → ((op : Record) → Before op → IfOk (test op) After)
    → IfOk (tested test found) After
tested_has Before After test (Ok op) is each = each op is
tested_has Before After test (Err why) is each = tt

module _ (Has : Record → Type 0) where
  -- a record that has this, and no operand that is too large
  abbrev IsSmall : Record → Type 0
  IsSmall op = Has op × (has_large_operand op ≡ false)

  admitted_small : (linked : Bool) (op : Record) → Has op → IfOk (admitted linked op) IsSmall
  admitted_small linked op is =
      cond_both (needs_link op && not linked) (Err worker_fault.NoLink) (cond (has_large_operand op) (Err worker_fault.BadOperand) (Ok op)) (λ (found : Result Record WorkerFault). IfOk found IsSmall) (λ _. tt)
      (λ _. cond_both (has_large_operand op) (Err worker_fault.BadOperand) (Ok op) (λ (found : Result Record WorkerFault). IfOk found IsSmall) (λ _. tt) (λ small. (is, small)))

  named_small : (map : Mapping) (op : Record) → IsSmall op → IfOk (with_memory map op) IsSmall
  named_small map op is = cond_both (names_memory map op) (Ok op) (Err worker_fault.CodeUnmapped) (λ (found : Result Record WorkerFault). IfOk found IsSmall) (λ _. is) (λ _. tt)

  next_small : (memory : List ℕ) (map : Mapping) (linked : Bool) (worker : WorkerState) → IfOk (record_at memory map worker.entry worker.place) Has → IfOk (next_record memory map linked worker) IsSmall
  next_small memory map linked worker is =
      let found = record_at memory map worker.entry worker.place in
      tested_has IsSmall IsSmall (with_memory map) (tested (admitted linked) found) (tested_has Has IsSmall (admitted linked) found is (admitted_small linked)) (named_small map)

module _ (Fits : Wish → Type 0) where
  pub one_fits : (wanted : Wish) → Fits wanted → All Fits (wanted ∷ [])
  one_fits wanted is = All-cons Fits wanted [] is (All-nil Fits)

  next_fits : (memory : List ℕ) (map : Mapping) (source : ℕ) (Has : Record → Type 0) (found : Result Record WorkerFault) → IfOk found (IsSmall Has)
      → ((op : Record) → Has op → has_large_operand op ≡ false → All Fits (wishes_of_work (work_of_record memory map source op))) → All Fits (wishes_of_work (work_of_next memory map source found))
  next_fits memory map source Has (Ok op) is each = each op is.0 is.1
  next_fits memory map source Has (Err why) is each = All-nil Fits

  -- what the worker's next record asks for fits, where what each record asks for does that may be found there and has no operand that is too large
  pub work_fits : (memory : List ℕ) (map : Mapping) (linked : Bool) (worker : WorkerState) (Has : Record → Type 0) → IfOk (record_at memory map worker.entry worker.place) Has
      → ((op : Record) → Has op → has_large_operand op ≡ false → All Fits (wishes_of_work (work_of_record memory map worker.source op))) → All Fits (wishes_of_work (work_of memory map linked worker))
  work_fits memory map linked worker Has is each =
      let found = next_record memory map linked worker in
      cond_both worker.is_halted work.Halted (work_of_next memory map worker.source found) (λ (w : Work). All Fits (wishes_of_work w)) (λ _. All-nil Fits)
      (λ _. next_fits memory map worker.source Has found (next_small Has memory map linked worker is) each)

  -- ---- lists of calls

  gives_fit : (number : Option ℕ) → IfSome number (λ number. Fits (wish.Give number)) → All Fits (gives_of number)
  gives_fit None is = All-nil Fits
  gives_fit (Some number) is = one_fits (wish.Give number) is

  left_fit : (end : CallEnd) (calls : List Wish) → All Fits calls → All Fits (calls_after_end end calls)
  left_fit end calls are = cond_both (is_tried_again end) calls (drop 1 calls) (All Fits) (λ _. are) (λ _. All-drop Fits 1 calls are)

  -- to send the message that there is, if there is one, fits
  abbrev IsFitAnswer : Option (List ℕ) → Type 0
  IsFitAnswer found = IfSome found (λ message. Fits (wish.Send message))

  sends_fit : (found : Option (List ℕ)) → IsFitAnswer found → All Fits (sends_of found)
  sends_fit None is = All-nil Fits
  sends_fit (Some message) is = one_fits (wish.Send message) is

  then_fits : {A : Type 0} (found : Option A) (f : A → Option (List ℕ)) → ((one : A) → IsFitAnswer (f one)) → IsFitAnswer (option_and_then f found)
  then_fits None f each = tt
  then_fits (Some one) f each = each one

module _ {Fits : Wish → Type 0} {Are : ActorsState → Type 0} (fit : FitCalls Fits Are) where
  -- the first call of the actors, or the take that they begin without one
  pub first_fits : (calls : List Wish) → All Fits calls → Fits (first_or_take calls)
  first_fits [] are = fit.take
  first_fits (first ∷ later) are = are 0 first (omega arith)

  -- ---- the drivers

  probe_fits : (kind : DriverKind) (one : DrivenEndpoint) → IsFitAnswer Fits (probe_message kind one)
  probe_fits Sink one = tt
  probe_fits Echo one = tt
  probe_fits Sample one = fit.sample one

  reply_fits : (kind : DriverKind) (one : DrivenEndpoint) (message : List ℕ) → Fits (wish.Send message) → IsFitAnswer Fits (reply_to kind one message)
  reply_fits Sink one message is = tt
  reply_fits Echo one message is = fit.echo one.endpoint.address (source_of message) message is
  reply_fits Sample one message is = cond_both (nat_lt one.deliveries sample_count) (Some (message_from one one.channel sample_text)) None (IsFitAnswer Fits) (λ _. fit.sample one) (λ _. tt)

  created_fits : (drivers : DriversState) (name : List ℕ) (endpoint : Endpoint) (channel : ℕ) → IsFitAnswer Fits (created_answer drivers name endpoint channel)
  created_fits drivers name endpoint channel =
      then_fits Fits (kind_for drivers name) (λ kind. probe_message kind (newly_driven kind endpoint channel)) (λ kind. probe_fits kind (newly_driven kind endpoint channel))

  endpoint_fits : (drivers : DriversState) (kind : NsKind) (name : List ℕ) (address : ℕ) (endpoint : Endpoint) → IsFitAnswer Fits (endpoint_answer drivers kind name address endpoint)
  endpoint_fits drivers Created name address endpoint = created_fits drivers name endpoint address
  endpoint_fits drivers other name address endpoint = tt

  channel_fits : (drivers : DriversState) (kind : NsKind) (name : List ℕ) (address : ℕ) (bound : Option Endpoint) → IsFitAnswer Fits (channel_answer drivers kind name address bound)
  channel_fits drivers kind name address None = tt
  channel_fits drivers kind name address (Some endpoint) = endpoint_fits drivers kind name address endpoint

  verdict_fits : (drivers : DriversState) (message : List ℕ) (judged : Verdict) → Fits (wish.Send message) → IsFitAnswer Fits (verdict_answer drivers message judged)
  verdict_fits drivers message (verdict.To endpoint) is =
      then_fits Fits (driven_at endpoint drivers.driven) (λ one. reply_to one.kind (with_delivery one) message) (λ one. reply_fits one.kind (with_delivery one) message is)
  verdict_fits drivers message (verdict.Service kind name address bound) is = channel_fits drivers kind name address bound
  verdict_fits drivers message other is = tt

  end_fits : (drivers : DriversState) (message : List ℕ) (end : CallEnd) → Fits (wish.Send message) → IsFitAnswer Fits (end_answer drivers message end)
  end_fits drivers message (ended.Took number judged) is = verdict_fits drivers message judged is
  end_fits drivers message other is = tt

  -- ---- what a caller was handed

  pub handed_fits : (link : LinkState EndState) (found : Option End) (number : ℕ) → AreFitMessages Fits link → Fits (wish.Send (message_for link found number))
  handed_fits link (Some side.Host) number are = are.to_host number
  handed_fits link (Some side.Remote) number are = are.to_remote number
  handed_fits link None number are = fit.none

  numbered_fits : (bench : BenchState) (caller : ℕ) (number : Option ℕ) → AreFitMessages Fits (link_in bench) → Fits (wish.Send (message_of_number bench caller number))
  numbered_fits bench caller None are = fit.none
  numbered_fits bench caller (Some number) are = handed_fits (link_in bench) (end_of (link_in bench).callers caller) number are

  message_fits : (bench : BenchState) (caller : ℕ) (end : CallEnd) → AreFitMessages Fits (link_in bench) → Fits (wish.Send (message_of bench caller end))
  message_fits bench caller end are = numbered_fits bench caller (taken_number end) are

  -- ---- ends of calls

  -- the drivers see the end of a call of a host caller
  driven_fit : (actors : ActorsState) (message : List ℕ) (end : CallEnd) → Fits (wish.Send message) → Are actors → Are (actors_after_drivers actors message end)
  driven_fit actors message end is are =
      let answer = end_answer actors.drivers message end in
      fit.both (actors_after_drivers actors message end)
      (All-append Fits actors.host_calls (sends_of answer) (fit.host actors are) (sends_fit Fits answer (end_fits actors.drivers message end is))) (fit.worker actors are)

  host_end_fit : (actors : ActorsState) (end : CallEnd) → IsFitEnd Fits (reach.Ended end) → Are actors → Are (host_after_call actors end)
  host_end_fit actors end gives are =
      let calls = actors.host_calls in
      let left = calls_after_end end calls in
      fit.both (host_after_call actors end)
      (All-append Fits (cond actors.is_taking calls left) (gives_of (taken_number end))
      (cond_both actors.is_taking calls left (All Fits) (λ _. fit.host actors are) (λ _. left_fit Fits end calls (fit.host actors are)))
      (gives_fit Fits (taken_number end) gives)) (fit.worker actors are)

  -- a step of the host actor
  pub host_step_fit : (actors : ActorsState) (bench : BenchState) (came : Reach) → AreFitMessages Fits (link_in bench) → IsFitEnd Fits came → Are actors → Are (host_after_step actors bench came)
  host_step_fit actors bench (reach.Ended end) link gives are =
      driven_fit (host_after_call actors end) (message_of bench 0 end) end (message_fits bench 0 end link) (host_end_fit actors end gives are)
  host_step_fit actors bench other link gives are = are

  begun_as_fit : (in_call : Bool) (actors : ActorsState) → Are actors → Are (host_at_step_as in_call actors)
  begun_as_fit true actors are = are
  begun_as_fit false actors are = fit.both (host_at_step_as false actors) (fit.host actors are) (fit.worker actors are)

  pub host_begun_fit : (bench : BenchState) (actors : ActorsState) → Are actors → Are (host_at_step bench actors)
  host_begun_fit bench actors are = begun_as_fit (is_in_call bench 0) actors are

  -- a step of the worker on the link
  pub worker_step_fit : (actors : ActorsState) (bench : BenchState) (came : Reach) → IsFitEnd Fits came → Are actors → Are (worker_after_step actors bench came)
  worker_step_fit actors bench (reach.Ended end) gives are =
      fit.both (worker_after_step actors bench (reach.Ended end)) (fit.host actors are)
      (All-append Fits (gives_of (taken_number end)) (calls_after_end end actors.worker_calls) (gives_fit Fits (taken_number end) gives) (left_fit Fits end actors.worker_calls (fit.worker actors are)))
  worker_step_fit actors bench other gives are = are

  -- the worker runs a record
  pub ran_fit : (actors : ActorsState) (memory : List ℕ) (map : Mapping) (linked : Bool) → All Fits (wishes_of_work (work_of memory map linked actors.worker)) → Are actors
      → Are (actors_after_record actors memory map linked)
  ran_fit actors memory map linked asked are =
      fit.both (actors_after_record actors memory map linked) (fit.host actors are)
      (All-append Fits actors.worker_calls (wishes_of_work (work_of memory map linked actors.worker)) (fit.worker actors are) asked)

  seen_at : (actors : ActorsState) (message : List ℕ) (end : CallEnd) (found : Option End) → Fits (wish.Send message) → Are actors → Are (actors_at_end found message end actors)
  seen_at actors message end (Some side.Host) is are = driven_fit actors message end is are
  seen_at actors message end (Some side.Remote) is are = are
  seen_at actors message end None is are = are

  -- the drivers see the end of a call of others
  pub seen_fit : (actors : ActorsState) (bench : BenchState) (caller : ℕ) (end : CallEnd) → AreFitMessages Fits (link_in bench) → Are actors → Are (actors_after_end bench caller end actors)
  seen_fit actors bench caller end link are = seen_at actors (message_of bench caller end) end (end_of (link_in bench).callers caller) (message_fits bench caller end link) are
