-- What is told of a link is spelled as lines have it.
use Rattle.std.proofs.Common.{◌≡◌, ℕ, zero, suc, ◌+◌, ◌*◌, ◌<◌, ◌≤◌, ◌^◌, ◌==◌, List, [], ◌∷◌, length, take, drop, Option, Some, None, IfSome, refl, arith}
use Rattle.std.specs.Prelude.{All}
use Rattle.std.specs.List.{list_all, slice_index_or}
use Rattle.std.proofs.lemmas.Bool.{cond_both}
use Rattle.std.proofs.lemmas.List.{length-drop, length-take}
use Rattle.std.proofs.lemmas.List.Elements.{All-append, All-cons, All-map}
use Rattle.std.proofs.Math.Nat.{min-le_left, min-le_right}
use Rattle.rp_base.specs.declared.limits.TheConstants.{STEPS_MOST}
use Rattle.rp_base.specs.declared.kinds.BindFault.{BindFault}
use Rattle.rp_base.specs.declared.kinds.BindFault.TheVariants as bind_fault
use Rattle.rp_base.specs.declared.kinds.End.{End}
use Rattle.rp_base.specs.declared.kinds.End.TheVariants as side
use Rattle.rp_base.specs.declared.kinds.Endpoint.{Endpoint}
use Rattle.rp_base.specs.declared.kinds.Era.{Era}
use Rattle.rp_base.specs.declared.kinds.Verdict.{Verdict}
use Rattle.rp_base.specs.declared.kinds.Verdict.TheVariants as verdict
use Rattle.rpmsg_header.specs.Headers.{payload_length, payload_of, source_of}
use Rattle.lane_model.specs.declared.calls.CallEnd.{CallEnd}
use Rattle.lane_model.specs.declared.calls.CallEnd.TheVariants as end
use Rattle.lane_model.specs.declared.recoveries.ReopenFault.{ReopenFault}
use Rattle.lane_model.specs.declared.recoveries.ReopenFault.TheVariants as reopen_fault
use Rattle.lane_model.specs.declared.states.LaneState.{LaneState}
use Rattle.lane_model.specs.Lanes.{holder, is_live_in}
use Rattle.lane_model.specs.Links.{LinkState, end_of}
use Rattle.lane_model.specs.Recoveries.{link_close_refusal, link_reopen_refusal}
use Rattle.lane_model.specs.Soundness.{IsSoundLane, SoundLink}
use Rattle.lane_laws.specs.SoundRingLinks.{HasSoundRings}
use Rattle.name_service.specs.declared.channels.Channel.{Channel}
use Rattle.channel_bus.specs.Sides.{EndState}
use Rattle.journal.specs.declared.events.Event.TheVariants as event
use Rattle.link_bench.specs.declared.acts.ActAnswer.{ActAnswer}
use Rattle.link_bench.specs.declared.acts.ActAnswer.TheVariants as answer
use Rattle.link_bench.specs.declared.bench_crashes.Reclaim.{Reclaim}
use Rattle.link_bench.specs.declared.bench_crashes.Reclaim.TheVariants as reclaim
use Rattle.link_bench.specs.declared.benches.BenchFault.{BenchFault}
use Rattle.link_bench.specs.declared.benches.BenchFault.TheVariants as fault
use Rattle.link_bench.specs.declared.benches.Reach.{Reach}
use Rattle.link_bench.specs.declared.benches.Reach.TheVariants as reach
use Rattle.link_bench.specs.declared.turns.TurnEnd.{TurnEnd}
use Rattle.link_bench.specs.declared.turns.TurnEnd.TheVariants as turn_end
use Rattle.link_bench.specs.Acts.{link_act}
use Rattle.link_bench.specs.Benches.{BenchState, link_in, message_for}
use Rattle.link_bench.specs.BenchCrashes.{after_close}
use Rattle.link_bench.specs.BenchRings.{first_holder, lane_base, lane_bytes, lane_words, turn_holder}
use Rattle.link_bench.specs.Watchers.{nobody_sees}
use Rattle.core_laws.specs.BenchMoves.{IsShortLink}
use Rattle.core_laws.proofs.CrashReclaims.{reached_sound}
use Rattle.link_commands.specs.declared.acts.LinkView.{LinkView}
use Rattle.link_commands.specs.declared.acts.LinkView.TheVariants as view
use Rattle.link_commands.specs.declared.acts.ManagerAct.{ManagerAct}
use Rattle.link_commands.specs.declared.acts.ManagerAct.TheVariants as manager
use Rattle.link_commands.specs.declared.acts.NamedAct.{NamedAct}
use Rattle.link_commands.specs.declared.acts.NamedAct.TheVariants as under
use Rattle.link_commands.specs.Acts.{IsFitView}
use Rattle.link_commands.specs.CallEvents.{end_event, fault_event, reach_events, refused_event, took_event}
use Rattle.link_commands.specs.ChannelLists.{channel_event, channels_events, channel_events_unless}
use Rattle.link_commands.specs.Effects.{Effect, answer_events, reclaim_event, tells, turn_events}
use Rattle.link_commands.specs.LinkCommands.{lane_event, link_effect, manager_effect, view_events}
use Rattle.link_commands.specs.NamedLinks.{NamedLink}
use Rattle.link_commands.specs.Recoveries.{close_effect, close_event, opened_effect, reopen_effect, reopen_events}
use Rattle.link_commands.specs.RingDumps.{bench_ring_events, dump_rows, ring_events, row_count, row_events, ring_events_unless}
use Rattle.field_laws.specs.Fields.{AreBytes, IsFieldChannel, IsFieldEnd, IsFieldFault, IsFieldLane, IsFieldLink, IsFieldVerdict}
use Rattle.field_laws.specs.FieldBenches.{IsFieldActResult, IsFieldBench, IsFieldBenchFault, IsFieldReach, IsFieldReclaim, IsFieldTurnEnd}
use Rattle.field_laws.specs.FieldCores.{IsFieldReopen}
use Rattle.field_laws.proofs.Actors.{taken_bytes_on}
use Rattle.field_laws.proofs.Acts.{HoldsBench, act_holds, act_told}
use Rattle.field_laws.proofs.Benches.{close_fields, reopen_fields}
use Rattle.field_laws.proofs.Bytes.{dropped_bytes, payload_bytes, taken_bytes, word_small}
use Rattle.field_laws.proofs.Cores.{link_refusal_fields}
use Rattle.field_laws.proofs.Lanes.{counts_small}
use Rattle.field_laws.proofs.Rings.{ring_are}
use Rattle.field_laws.proofs.Steps.{holder_small}
use Rattle.line_laws.proofs.KnownWords.{IsKnownAct}
use Rattle.line_laws.proofs.RingLengths.{bytes_few}
use Rattle.line_laws.proofs.SpelledLines.{IsName, IsSpelled, none, one, two}

-- a payload is shorter than its message
payload_short : (message : List ℕ) → length message ≤ 512 → length (payload_of message) ≤ 512
payload_short message short =
    let is = length-take (payload_length message) (drop 16 message) in
    let less = min-le_right (payload_length message) (length (drop 16 message)) in
    let rest = length-drop 16 message in omega (arith, is, less, rest, short)

taken_short : (link : LinkState EndState) (found : Option End) (number : ℕ) → IsShortLink link → length (message_for link found number) ≤ 512
taken_short link (Some side.Host) number short = short.to_host.accepted number
taken_short link (Some side.Remote) number short = short.to_remote.accepted number
taken_short link None number short = omega arith

source_small : (message : List ℕ) → AreBytes message → source_of message < 2 ^ 64
source_small message are = let small = word_small 0 message are in omega (arith, small)

-- what is done under the name of a link leaves its fields within their types, and tells spelled events
pub record LeavesSpelledLink (effect : Effect) : Type 0 where
  pub bench : IsFieldBench effect.bench
  pub events : All IsSpelled effect.events

-- ---- calls

module _ (name : List ℕ) (named : IsName name) where
  took_spelled : (caller number : ℕ) (message : List ℕ) (judged : Verdict) → caller < 2 ^ 64 → number < 2 ^ 64 → length message ≤ 512 → AreBytes message → IsFieldVerdict judged
      → IsSpelled (took_event name caller number message judged)
  took_spelled caller number message (verdict.To endpoint) small counted short are is =
      ((named, (small, (counted, (source_small message are, (is, ((payload_short message short, payload_bytes message are), tt)))))), tt)
  took_spelled caller number message (verdict.Dropped dst) small counted short are is =
      ((named, (small, (counted, (source_small message are, (omega (arith, is), ((payload_short message short, payload_bytes message are), tt)))))), tt)
  took_spelled caller number message verdict.Malformed small counted short are is = ((named, (small, (counted, tt))), tt)
  took_spelled caller number message (verdict.Service what channel address endpoint) small counted short are is =
      let fits = is.1 in ((named, (small, (counted, (tt, (is.0, (omega (arith, fits), tt)))))), tt)
  took_spelled caller number message verdict.ServiceMalformed small counted short are is = ((named, (small, (counted, tt))), tt)

  refused_spelled : (caller : ℕ) (why : BindFault) → caller < 2 ^ 64 → IsFieldFault why → IsSpelled (refused_event name caller why)
  refused_spelled caller (bind_fault.AddressTaken address) small is = ((named, (small, (omega (arith, is), tt))), tt)
  refused_spelled caller bind_fault.EndpointsFull small is = ((named, (small, tt)), tt)
  refused_spelled caller (bind_fault.NotBound address) small is = ((named, (small, (omega (arith, is), tt))), tt)

  pub end_spelled : (link : LinkState EndState) (caller : ℕ) (ended : CallEnd) → caller < 2 ^ 64 → IsShortLink link → IsFieldLink link → IsFieldEnd ended → IsSpelled (end_event name link caller ended)
  end_spelled link caller (end.Sent number) small short fields is = ((named, (small, (is, tt))), tt)
  end_spelled link caller (end.Took number judged) small short fields is =
      took_spelled caller number (message_for link (end_of link.callers caller) number) judged small is.0 (taken_short link (end_of link.callers caller) number short)
      (taken_bytes_on link (end_of link.callers caller) number fields) is.1
  end_spelled link caller (end.Gave number) small short fields is = ((named, (small, (is, tt))), tt)
  end_spelled link caller (end.Bound endpoint) small short fields is = ((named, (small, (is, tt))), tt)
  end_spelled link caller (end.Unbound endpoint) small short fields is = ((named, (small, (is, tt))), tt)
  end_spelled link caller (end.Busy held) small short fields is = ((named, (small, (is, tt))), tt)
  end_spelled link caller (end.Dead era) small short fields is = ((named, (small, (omega (arith, is), (tt, tt)))), is)
  end_spelled link caller (end.NoBuffer accepted returned) small short fields is = ((named, (small, (is.0, (is.1, tt)))), tt)
  end_spelled link caller (end.BookFull accepted) small short fields is = ((named, (small, (is, tt))), tt)
  end_spelled link caller (end.Empty accepted) small short fields is = ((named, (small, (is, tt))), tt)
  end_spelled link caller (end.Refused why) small short fields is = refused_spelled caller why small is

  fault_spelled : (caller : ℕ) (why : BenchFault) → caller < 2 ^ 64 → IsFieldBenchFault why → IsSpelled (fault_event name caller why)
  fault_spelled caller fault.NoCaller small is = ((named, (small, tt)), tt)
  fault_spelled caller fault.InCall small is = ((named, (small, tt)), tt)
  fault_spelled caller fault.NoCall small is = ((named, (small, tt)), tt)
  fault_spelled caller (fault.NotHeld number) small is = ((named, (small, (is, tt))), tt)

  reach_spelled : (link : LinkState EndState) (caller : ℕ) (reached : Reach) → caller < 2 ^ 64 → IsShortLink link → IsFieldLink link → IsFieldReach reached → All IsSpelled (reach_events name link caller reached)
  reach_spelled link caller (reach.At step) small short fields is = one (event.At name caller step) (((named, (small, (is, tt))), tt))
  reach_spelled link caller (reach.Ended ended) small short fields is = one (end_event name link caller ended) (end_spelled link caller ended small short fields is)
  reach_spelled link caller reach.Limit small short fields is = none

  pumped_spelled : (done : ℕ) → done < 2 ^ 64 → IsSpelled (event.Pumped name done)
  pumped_spelled done small = ((named, (small, tt)), tt)

  turns_spelled : (link : LinkState EndState) (done : ℕ) (ended : TurnEnd) → done < 2 ^ 64 → IsShortLink link → IsFieldLink link → IsFieldTurnEnd ended → All IsSpelled (turn_events name link done ended)
  turns_spelled link done turn_end.Whole small short fields is = one (event.Pumped name done) (pumped_spelled done small)
  turns_spelled link done (turn_end.Fault caller why) small short fields is =
      two (fault_event name caller why) (event.Pumped name done) (fault_spelled caller why is.0 is.1) (pumped_spelled done small)
  turns_spelled link done (turn_end.Reached caller (reach.At step)) small short fields is =
      two (event.At name caller step) (event.Pumped name done) (((named, (is.0, (is.1, tt))), tt)) (pumped_spelled done small)
  turns_spelled link done (turn_end.Reached caller (reach.Ended ended)) small short fields is =
      two (end_event name link caller ended) (event.Pumped name done) (end_spelled link caller ended is.0 short fields is.1) (pumped_spelled done small)
  turns_spelled link done (turn_end.Reached caller reach.Limit) small short fields is = none

  reclaim_spelled : (caller : ℕ) (came : Reclaim) → caller < 2 ^ 64 → IsFieldReclaim came → IsSpelled (reclaim_event name caller came)
  reclaim_spelled caller reclaim.Done small is = ((named, (small, tt)), tt)
  reclaim_spelled caller (reclaim.StillOpen era) small is = ((named, (omega (arith, is), tt)), tt)
  reclaim_spelled caller (reclaim.Busy held) small is = ((named, (is, tt)), tt)

  pub answer_spelled : (link : LinkState EndState) (came : ActAnswer) → IsShortLink link → IsFieldLink link → IsFieldActResult came → All IsSpelled (answer_events name link came)
  answer_spelled link (answer.Caller number at) short fields is = one (event.Caller name number at) (((named, (is, (tt, tt))), tt))
  answer_spelled link answer.CallersFull short fields is = one (event.CallersFull name) (((named, tt), tt))
  answer_spelled link (answer.Refused caller why) short fields is = one (fault_event name caller why) (fault_spelled caller why is.0 is.1)
  answer_spelled link (answer.TooLong caller len) short fields is = one (event.TooLong name caller len) (((named, (is.0, (is.1, tt))), tt))
  answer_spelled link (answer.WrongSide receiver) short fields is = one (event.WrongSide name receiver) (((named, (is, tt)), tt))
  answer_spelled link (answer.Begun caller) short fields is = one (event.Begun name caller) (((named, (is, tt)), tt))
  answer_spelled link (answer.Reached caller reached) short fields is = reach_spelled link caller reached is.0 short fields is.1
  answer_spelled link (answer.Pumped done ended) short fields is = turns_spelled link done ended is.0 short fields is.1
  answer_spelled link (answer.Reclaimed caller came) short fields is = one (reclaim_event name caller came) (reclaim_spelled caller came is.0 is.1)

  -- ---- what a link shows

  still_spelled : (caller : ℕ) → caller ≤ 64 → IsSpelled (event.StillTurn name caller)
  still_spelled caller small = ((named, (omega (arith, small), tt)), tt)

  channel_with : (channel : List ℕ) (address : ℕ) (endpoint : Option Endpoint) → IsFieldChannel (record { name = channel; address = address; endpoint = endpoint })
      → IsSpelled (event.Channel name channel address endpoint)
  channel_with channel address None is = let small = is.address in ((named, (is.name, (omega (arith, small), tt))), tt)
  channel_with channel address (Some endpoint) is = let small = is.address in ((named, (is.name, (omega (arith, small), (is.endpoint, tt)))), tt)

  channel_spelled : (channel : Channel) → IsFieldChannel channel → IsSpelled (channel_event name channel)
  channel_spelled channel is = channel_with channel.name channel.address channel.endpoint is

  listed_spelled : (bench : BenchState) (held : Option ℕ) → IfSome held (λ caller. caller ≤ 64) → IsFieldLink (link_in bench) → All IsSpelled (channel_events_unless name bench held)
  listed_spelled bench (Some caller) small is = one (event.StillTurn name caller) (still_spelled caller small)
  listed_spelled bench None small is =
      All-map IsSpelled (channel_event name) (link_in bench).to_host.desk.channels
      (λ at other within. channel_spelled (slice_index_or (link_in bench).to_host.desk.channels at other) (is.to_host.desk.channels at other within))

  channels_spelled : (bench : BenchState) → SoundLink (link_in bench) → IsFieldLink (link_in bench) → All IsSpelled (channels_events name bench)
  unfolding channels_events
  channels_spelled bench sound is =
      listed_spelled bench (holder (link_in bench).to_host.receiver) (holder_small (link_in bench).callers side.Host (link_in bench).to_host.receiver is.callers sound.to_host.receiver) is

  row_spelled : (offset : ℕ) (row : List ℕ) → offset < 2 ^ 64 → 1 ≤ length row → length row ≤ 16 → AreBytes row → All IsSpelled (row_events name offset row)
  row_spelled offset row small some short are =
      cond_both (list_all (λ byte. byte == 0) row) [] (event.Dump name offset row ∷ []) (All IsSpelled) (λ _. none)
      (λ _. one (event.Dump name offset row) (((named, (small, ((some, short, are), tt))), tt)))

  rows_spelled : (count offset : ℕ) (bytes : List ℕ) → count ≤ row_count bytes → offset + 16 * count ≤ 2 ^ 64 → AreBytes bytes → All IsSpelled (dump_rows count name offset bytes)
  unfolding dump_rows
  rows_spelled zero offset bytes few small are = none
  rows_spelled (suc more) offset bytes few small are =
      let taken = length-take 16 bytes in
      let left = length-drop 16 bytes in
      let first = min-le_left 16 (length bytes) in
      All-append IsSpelled (row_events name offset (take 16 bytes)) (dump_rows more name (offset + 16) (drop 16 bytes))
      (row_spelled offset (take 16 bytes) (omega (arith, small)) (grind (arith, taken, few)) (omega (arith, taken, first)) (taken_bytes 16 bytes are))
      (rows_spelled more (offset + 16) (drop 16 bytes) (omega (arith, left, few)) (omega (arith, small)) (dropped_bytes 16 bytes are))

  pub ring_spelled : (lane : ℕ) (bytes : List ℕ) → lane < 2 → length bytes ≤ 2 ^ 32 → AreBytes bytes → All IsSpelled (ring_events name lane bytes)
  ring_spelled lane bytes first short are =
      All-cons IsSpelled (event.Ring name lane (length bytes)) (dump_rows (row_count bytes) name 0 bytes) (((named, (first, (omega (arith, short), tt))), tt))
      (rows_spelled (row_count bytes) 0 bytes (omega arith) (omega (arith, short)) are)

  shown_spelled : (bench : BenchState) (lane : ℕ) (held : Option ℕ) → lane < 2 → HasSoundRings bench.rings → IfSome held (λ caller. caller ≤ 64) → All IsSpelled (ring_events_unless name bench lane held)
  shown_spelled bench lane (Some caller) first rings small = one (event.StillTurn name caller) (still_spelled caller small)
  shown_spelled bench lane None first rings small =
      ring_spelled lane (lane_bytes bench.rings lane) first (bytes_few bench.rings lane rings)
      (ring_are 4 (lane_words bench.rings lane (lane_base 0 bench.rings.to_host.rings.sizes.capacity lane)))

  turn_or : (first later : Option ℕ) → IfSome first (λ caller. caller ≤ 64) → IfSome later (λ caller. caller ≤ 64) → IfSome (first_holder first later) (λ caller. caller ≤ 64)
  turn_or None later is rest = rest
  turn_or (Some caller) later is rest = is

  pub turn_small : (link : LinkState EndState) → SoundLink link → IsFieldLink link → IfSome (turn_holder link) (λ caller. caller ≤ 64)
  turn_small link sound is =
      turn_or (holder link.to_host.sender) _ (holder_small link.callers side.Remote link.to_host.sender is.callers sound.to_host.sender)
      (turn_or (holder link.to_host.receiver) _ (holder_small link.callers side.Host link.to_host.receiver is.callers sound.to_host.receiver)
      (turn_or (holder link.to_remote.sender) (holder link.to_remote.receiver) (holder_small link.callers side.Host link.to_remote.sender is.callers sound.to_remote.sender)
      (holder_small link.callers side.Remote link.to_remote.receiver is.callers sound.to_remote.receiver)))

  bench_ring_spelled : (bench : BenchState) (lane : ℕ) → lane < 2 → HasSoundRings bench.rings → SoundLink (link_in bench) → IsFieldLink (link_in bench) → All IsSpelled (bench_ring_events name bench lane)
  unfolding bench_ring_events
  bench_ring_spelled bench lane first rings sound is = shown_spelled bench lane (turn_holder (link_in bench)) first rings (turn_small (link_in bench) sound is)

  books_spelled : (lane : ℕ) (state : LaneState EndState) → lane < 2 → IsSoundLane state → IsFieldLane state → IsSpelled (lane_event name lane state)
  books_spelled lane state first sound is =
      let counts = counts_small state sound is in ((named, (first, (counts.accepted, (counts.takers, (counts.returned, tt))))), tt)

  pub view_spelled : (bench : BenchState) (shown : LinkView) → IsFitView shown → HasSoundRings bench.rings → SoundLink (link_in bench) → IsFieldLink (link_in bench) → All IsSpelled (view_events name bench shown)
  unfolding view_events
  view_spelled bench view.Books fits rings sound is =
      two (lane_event name 0 (link_in bench).to_host) (lane_event name 1 (link_in bench).to_remote) (books_spelled 0 (link_in bench).to_host (omega arith) sound.to_host.lane is.to_host)
      (books_spelled 1 (link_in bench).to_remote (omega arith) sound.to_remote.lane is.to_remote)
  view_spelled bench (view.Ring lane) fits rings sound is = bench_ring_spelled bench lane (omega (arith, fits)) rings sound is
  view_spelled bench view.Channels fits rings sound is = channels_spelled bench sound is

  -- ---- what its manager does

  close_told : (era : Era) (found : Option Era) → era.inc < 2 ^ 32 → IfSome found (λ (other : Era). other.inc < 2 ^ 32) → IsSpelled (close_event name era found)
  close_told era None small is = ((named, (omega (arith, small), tt)), tt)
  close_told era (Some found) small is = ((named, (omega (arith, is), (tt, tt))), is)

  closed_era : (era : Era) (inc : ℕ) → era.inc < 2 ^ 32 → IfSome (link_close_refusal era inc) (λ (other : Era). other.inc < 2 ^ 32)
  closed_era era inc small = cond_both (is_live_in era inc) None (Some era) (λ (found : Option Era). IfSome found (λ (other : Era). other.inc < 2 ^ 32)) (λ _. tt) (λ _. small)

  close_spelled : (bench : BenchState) (steps : ℕ) → IsFieldBench bench → LeavesSpelledLink (close_effect name bench steps)
  unfolding close_effect
  close_spelled bench steps is =
      let told = close_event name (link_in bench).era (link_close_refusal (link_in bench).era (link_in bench).era.inc) in
      cond_both (steps == STEPS_MOST) _ (tells (after_close bench) (steps + 1) told) LeavesSpelledLink (λ _. record { bench = is; events = none })
      (λ _. record {
        bench = close_fields bench is;
        events = one told (close_told (link_in bench).era (link_close_refusal (link_in bench).era (link_in bench).era.inc) is.link.inc (closed_era (link_in bench).era (link_in bench).era.inc is.link.inc));
      })

  pub reopen_told : (why : ReopenFault) → IsFieldReopen why → All IsSpelled (reopen_events name why)
  reopen_told (reopen_fault.StillOpen era) is = one (event.StillOpen name era.inc) (((named, (omega (arith, is), tt)), tt))
  reopen_told (reopen_fault.StillTurn caller) is = one (event.StillTurn name caller) (((named, (is, tt)), tt))
  reopen_told (reopen_fault.StillHeld caller number) is = one (event.StillHeld name caller number) (((named, (is.0, (is.1, tt))), tt))
  reopen_told reopen_fault.IncarnationsSpent is = one (event.IncarnationsSpent name) (((named, tt), tt))
  reopen_told reopen_fault.NoMemory is = none

  opened_spelled : (bench : BenchState) (steps : ℕ) (why : Option ReopenFault) → link_reopen_refusal (link_in bench) ≡ why → IsFieldBench bench → IfSome why IsFieldReopen → LeavesSpelledLink (opened_effect name bench steps why)
  opened_spelled bench steps None clear is fields =
      let left = reopen_fields bench clear is in
      let inc = left.link.inc in
      record { bench = left; events = one (event.Open name ((link_in bench).era.inc + 1)) (((named, (omega (arith, inc), tt)), tt)) }
  opened_spelled bench steps (Some why) found is fields = record { bench = is; events = reopen_told why fields }

  reopen_spelled : (bench : BenchState) (steps : ℕ) → SoundLink (link_in bench) → IsFieldBench bench → LeavesSpelledLink (reopen_effect name bench steps)
  unfolding reopen_effect
  reopen_spelled bench steps sound is = opened_spelled bench steps (link_reopen_refusal (link_in bench)) refl is (link_refusal_fields (link_in bench) sound is.link)

  pub managed_spelled : (bench : BenchState) (steps : ℕ) (wanted : ManagerAct) → SoundLink (link_in bench) → IsFieldBench bench → LeavesSpelledLink (manager_effect name bench steps wanted)
  managed_spelled bench steps manager.Close sound is = close_spelled bench steps is
  managed_spelled bench steps manager.Reopen sound is = reopen_spelled bench steps sound is

-- what is done under the name of a link
pub link_spelled : (on : NamedLink) (steps : ℕ) (wanted : NamedAct (List ℕ)) → IsName on.name → IsKnownAct wanted → HasSoundRings on.bench.rings → HoldsBench on.bench → LeavesSpelledLink (link_effect on steps wanted)
unfolding link_effect
link_spelled on steps (under.Make made) named knows rings is = record { bench = is.fields; events = one (event.Exists on.name) (((named, tt), tt)) }
link_spelled on steps (under.Link asked) named knows rings is =
    let acted = link_act nobody_sees 0 on.bench tt steps asked in
    let left = act_holds nobody_sees 0 on.bench tt steps asked knows.0 knows.1 is in
    record {
      bench = left.fields;
      events = answer_spelled on.name named (link_in acted.bench) acted.answer left.reached.link.short left.fields.link (act_told nobody_sees 0 on.bench tt steps asked knows.0 knows.1 is);
    }
link_spelled on steps (under.Manage managed) named knows rings is =
    let left = managed_spelled on.name named on.bench steps managed (reached_sound (link_in on.bench) is.reached.link) is.fields in record { bench = left.bench; events = left.events }
link_spelled on steps (under.Show shown) named knows rings is =
    record { bench = is.fields; events = view_spelled on.name named on.bench shown knows rings (reached_sound (link_in on.bench) is.reached.link) is.fields.link }
link_spelled on steps (under.Core asked) named knows rings is = record { bench = is.fields; events = one (event.Unknown on.name) (((named, tt), tt)) }
