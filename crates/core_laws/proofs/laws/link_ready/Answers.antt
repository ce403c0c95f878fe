use Rattle.core_actors.proofs.ReadyOthers.{advance_ready, begun_ready, call_ready, caller_ready, reclaim_ready, start_ready}
use Rattle.core_laws.proofs.laws.link_ready.Goals as goal

pub returns : goal.returns
returns c = record {
  caller = caller_ready;
  begun = λ actors bench caller call other begun ready. begun_ready actors bench caller other begun ready call;
  advance = λ actors bench more steps caller other begun ready reached in_call. advance_ready actors bench caller other begun ready more steps reached.fit in_call;
  call = λ actors bench steps caller wanted other begun ready clear sendable. call_ready actors bench caller other begun ready steps wanted clear sendable;
  start = λ actors bench steps caller wanted other begun ready clear sendable. start_ready actors bench caller other begun ready steps wanted clear sendable;
  reclaim = λ actors bench caller other begun ready. reclaim_ready actors bench caller other begun ready;
}
