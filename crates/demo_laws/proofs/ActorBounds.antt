-- A step of a call of an actor leaves fewer steps to both actors of a core.
use Rattle.std.proofs.Common.{◌≡◌, ◌<◌, ◌≤◌, ℕ, ◌+◌, ◌-◌, ◌*◌, Bool, true, false, List, [], ◌∷◌, ◌++◌, length, Option, Some, None, refl, sym, ap, ap₂, subst, arith}
use Rattle.std.proofs.Common.{is_some, suc, unwrap_or}
use Rattle.std.proofs.lemmas.Bool.{ne_eqb, true≢false}
use Rattle.rp_base.specs.declared.kinds.End.TheVariants as side
use Rattle.lane_model.specs.declared.calls.CallEnd.{CallEnd}
use Rattle.lane_model.specs.declared.calls.CallEnd.TheVariants as end
use Rattle.lane_model.specs.declared.calls.Outcome.{Outcome}
use Rattle.lane_model.specs.declared.calls.Outcome.TheVariants as outcome
use Rattle.lane_model.specs.declared.calls.Wish.{Wish}
use Rattle.lane_model.specs.declared.calls.Wish.TheVariants as wish
use Rattle.lane_model.specs.declared.stages.Receiving.{Receiving}
use Rattle.lane_model.specs.declared.stages.Sending.{Sending}
use Rattle.lane_model.specs.declared.stages.Turn.{Turn}
use Rattle.lane_model.specs.declared.stages.Turn.TheVariants as turn
use Rattle.lane_model.specs.declared.states.LaneState.{LaneState}
use Rattle.lane_model.specs.Forms.{list_form}
use Rattle.lane_model.specs.Links.{Lanes, LinkState, lanes_of, lanes_step, with_lanes}
use Rattle.lane_model.specs.Soundness.{SoundLink}
use Rattle.channel_bus.specs.Sides.{EndState, side_meaning}
use Rattle.host_driver.specs.Drivers.{DriversState}
use Rattle.core_actors.specs.ActorSteps.{first_or_take, is_empty}
use Rattle.demo_laws.proofs.ActorCalls.{Begun, CallGoes, HasWay, IsAt, IsNoUnbind, StepsOwn, TurnsOf, first_goes, later_goes, left_behind, left_on, other_stays, steps_own, swapped}
use Rattle.demo_laws.proofs.OwnCalls.{handed_by, returned_by, sent_by, sent_so_far}
use Rattle.demo_laws.proofs.CallCosts.{AreHostCalls, AreWorkerCalls, HostEnded, HostFits, WorkerEnded, WorkerFits, call_cost, calls_cost, gives_in, host_after, host_cost, host_ends, one_give, one_send, one_take, sends_in, takes_in, taking_cost, worker_after, worker_cost, worker_ends}

-- ---- both actors on a link

-- a take that is under way has a message
abbrev pub HasMessageNow : Option Wish → ℕ → ℕ → Type 0
HasMessageNow None handed accepted = Unit {0}
HasMessageNow (Some (wish.Send message)) handed accepted = Unit {0}
HasMessageNow (Some wish.Take) handed accepted = handed < accepted
HasMessageNow (Some (wish.Give number)) handed accepted = Unit {0}
HasMessageNow (Some (wish.Bind address)) handed accepted = Unit {0}
HasMessageNow (Some (wish.Unbind address)) handed accepted = Unit {0}

-- the steps of the actors of a link are at most so many, where the worker's records make so many more, and so many sends stand out that no take allows yet
pub record LinkWithin (records credit : ℕ) (host_calls : List Wish) (taking : Bool) (worker_calls : List Wish) (link : LinkState EndState) (within : ℕ) : Type 0 where
  pub host_now : Option Wish
  pub worker_now : Option Wish
  -- what was accepted, handed over and given back before the calls under way: of the host actor's sends and takes, and of the worker's
  pub host_sent : ℕ
  pub host_took : ℕ
  pub host_gave : ℕ
  pub worker_sent : ℕ
  pub worker_took : ℕ
  pub worker_gave : ℕ
  pub host : IsAt 0 link.era.inc host_now (lanes_of link side.Host) host_sent host_took host_gave
  pub worker : IsAt 1 link.era.inc worker_now (swapped (lanes_of link side.Host)) worker_sent worker_took worker_gave
  pub host_fits : HostFits host_now taking host_calls
  pub worker_fits : WorkerFits worker_now worker_calls
  pub host_message : HasMessageNow host_now host_took (length link.to_host.lane.accepted)
  pub worker_message : HasMessageNow worker_now worker_took (length link.to_remote.lane.accepted)
  pub host_gives : host_took ≡ host_gave + gives_in host_calls
  pub worker_gives : worker_took ≡ worker_gave + gives_in worker_calls
  pub host_flow : host_sent + sends_in host_calls ≤ host_took
  pub worker_flow : worker_sent + sends_in worker_calls + credit ≤ 1 + worker_took + takes_in worker_calls
  pub to_host : 3 ≤ link.to_host.lane.capacity
  pub to_remote : 3 ≤ link.to_remote.lane.capacity
  pub cost : records + worker_cost worker_now worker_calls (left_on (swapped (lanes_of link side.Host)))
      + host_cost host_now host_calls (left_on (lanes_of link side.Host)) + 17 * (worker_sent + sends_in worker_calls) ≤ within + 17 * host_took + taking_cost host_now

-- more steps are enough too
pub more_link : (records credit : ℕ) (host_calls : List Wish) (taking : Bool) (worker_calls : List Wish) (link : LinkState EndState) (within most : ℕ) → within ≤ most
    → LinkWithin records credit host_calls taking worker_calls link within → LinkWithin records credit host_calls taking worker_calls link most
more_link records credit host_calls taking worker_calls link within most less is = record {
  host_now = is.host_now;
  worker_now = is.worker_now;
  host_sent = is.host_sent;
  host_took = is.host_took;
  host_gave = is.host_gave;
  worker_sent = is.worker_sent;
  worker_took = is.worker_took;
  worker_gave = is.worker_gave;
  host = is.host;
  worker = is.worker;
  host_fits = is.host_fits;
  worker_fits = is.worker_fits;
  host_message = is.host_message;
  worker_message = is.worker_message;
  host_gives = is.host_gives;
  worker_gives = is.worker_gives;
  host_flow = is.host_flow;
  worker_flow = is.worker_flow;
  to_host = is.to_host;
  to_remote = is.to_remote;
  cost = omega (arith, is.cost, less);
}

-- so many sends are under way at most as are yet to be made
free_sends : (caller inc : ℕ) (now : Option Wish) (sends : Turn Sending) (receives : Turn Receiving) (calls : List Wish) → TurnsOf caller inc now sends receives
    → ((wanted : Wish) → now ≡ Some wanted → one_send wanted ≤ sends_in calls) → sent_so_far sends ≤ sends_in calls
free_sends caller inc None turn.Free receives calls turns all = omega arith
free_sends caller inc None (turn.Taken other s) receives calls turns all = omega arith
free_sends caller inc None (turn.Leaving other ended) receives calls turns all = absurd turns.0
free_sends caller inc None turn.Manager receives calls turns all = omega arith
free_sends caller inc (Some (wish.Send message)) turn.Free receives calls turns all = omega arith
free_sends caller inc (Some (wish.Send message)) (turn.Taken other s) receives calls turns all = omega arith
free_sends caller inc (Some (wish.Send message)) (turn.Leaving other ended) receives calls turns all = let one = all (wish.Send message) refl in let most = one_sent ended in omega (arith, one, most)
  where
    one_sent : (ended : CallEnd) → sent_by ended ≤ 1
    one_sent (end.Sent number) = omega arith
    one_sent (end.Took number judged) = omega arith
    one_sent (end.Gave number) = omega arith
    one_sent (end.Bound endpoint) = omega arith
    one_sent (end.Unbound endpoint) = omega arith
    one_sent (end.Busy other) = omega arith
    one_sent (end.Dead era) = omega arith
    one_sent (end.NoBuffer accepted returned) = omega arith
    one_sent (end.BookFull accepted) = omega arith
    one_sent (end.Empty accepted) = omega arith
    one_sent (end.Refused why) = omega arith
free_sends caller inc (Some (wish.Send message)) turn.Manager receives calls turns all = omega arith
free_sends caller inc (Some wish.Take) turn.Free receives calls turns all = omega arith
free_sends caller inc (Some wish.Take) (turn.Taken other s) receives calls turns all = omega arith
free_sends caller inc (Some wish.Take) (turn.Leaving other ended) receives calls turns all = absurd turns.0
free_sends caller inc (Some wish.Take) turn.Manager receives calls turns all = omega arith
free_sends caller inc (Some (wish.Give number)) turn.Free receives calls turns all = omega arith
free_sends caller inc (Some (wish.Give number)) (turn.Taken other s) receives calls turns all = omega arith
free_sends caller inc (Some (wish.Give number)) (turn.Leaving other ended) receives calls turns all = absurd turns.0
free_sends caller inc (Some (wish.Give number)) turn.Manager receives calls turns all = omega arith
free_sends caller inc (Some (wish.Bind address)) turn.Free receives calls turns all = omega arith
free_sends caller inc (Some (wish.Bind address)) (turn.Taken other s) receives calls turns all = omega arith
free_sends caller inc (Some (wish.Bind address)) (turn.Leaving other ended) receives calls turns all = absurd turns.0
free_sends caller inc (Some (wish.Bind address)) turn.Manager receives calls turns all = omega arith
free_sends caller inc (Some (wish.Unbind address)) sends receives calls turns all = absurd turns

some_same : {A : Type 0} {x y : A} → Some x ≡ Some y → x ≡ y
some_same {A = A} {x = x} is = ap (λ (found : Option A). unwrap_or found x) is

host_first : (now : Option Wish) (taking : Bool) (calls : List Wish) → HostFits now taking calls → (wanted : Wish) → now ≡ Some wanted → one_send wanted ≤ sends_in calls
host_first None taking calls fits wanted is = absurd (true≢false (sym (ap is_some is)))
host_first (Some (wish.Send message)) taking calls fits wanted is =
    subst (λ (w : Wish). one_send w ≤ sends_in calls) (some_same is) (subst (λ (c : List Wish). 1 ≤ sends_in c) (sym fits.1) (omega arith))
host_first (Some wish.Take) taking calls fits wanted is = subst (λ (w : Wish). one_send w ≤ sends_in calls) (some_same is) (omega arith)
host_first (Some (wish.Give number)) taking calls fits wanted is = subst (λ (w : Wish). one_send w ≤ sends_in calls) (some_same is) (omega arith)
host_first (Some (wish.Bind address)) taking calls fits wanted is = absurd fits
host_first (Some (wish.Unbind address)) taking calls fits wanted is = absurd fits

worker_first : (now : Option Wish) (calls : List Wish) → WorkerFits now calls → (wanted : Wish) → now ≡ Some wanted → one_send wanted ≤ sends_in calls
worker_first None calls fits wanted is = absurd (true≢false (sym (ap is_some is)))
worker_first (Some first) calls fits wanted is =
    subst (λ (w : Wish). one_send w ≤ sends_in calls) (some_same is) (subst (λ (c : List Wish). one_send first ≤ sends_in c) (sym fits.0) (omega arith))

-- gives that are yet to be made, one at most
few_gives : (calls : List Wish) → AreHostCalls calls → gives_in calls ≤ 1
few_gives [] are = omega arith
few_gives (wish.Give number ∷ []) are = omega arith
few_gives (wish.Give number ∷ wish.Send message ∷ []) are = omega arith
few_gives (wish.Give number ∷ wish.Send message ∷ other ∷ more) are = absurd are
few_gives (wish.Give number ∷ wish.Take ∷ more) are = absurd are
few_gives (wish.Give number ∷ wish.Give other ∷ more) are = absurd are
few_gives (wish.Give number ∷ wish.Bind address ∷ more) are = absurd are
few_gives (wish.Give number ∷ wish.Unbind address ∷ more) are = absurd are
few_gives (wish.Send message ∷ []) are = omega arith
few_gives (wish.Send message ∷ other ∷ more) are = absurd are
few_gives (wish.Take ∷ more) are = absurd are
few_gives (wish.Bind address ∷ more) are = absurd are
few_gives (wish.Unbind address ∷ more) are = absurd are

host_few : (now : Option Wish) (taking : Bool) (calls : List Wish) → HostFits now taking calls → gives_in calls ≤ 1
host_few None taking calls fits = few_gives calls fits
host_few (Some (wish.Send message)) taking calls fits = subst (λ (c : List Wish). gives_in c ≤ 1) (sym fits.1) (omega arith)
host_few (Some wish.Take) taking calls fits = subst (λ (c : List Wish). gives_in c ≤ 1) (sym fits.1) (omega arith)
host_few (Some (wish.Give number)) taking calls fits = subst (λ (c : List Wish). gives_in c ≤ 1) (sym fits.1.1) (few_gives (wish.Give number ∷ fits.1.0) fits.1.2)
host_few (Some (wish.Bind address)) taking calls fits = absurd fits
host_few (Some (wish.Unbind address)) taking calls fits = absurd fits

one_kind : (wanted : Wish) → (one_give wanted + one_take wanted + one_send wanted ≤ 1)
one_kind (wish.Send message) = omega arith
one_kind wish.Take = omega arith
one_kind (wish.Give number) = omega arith
one_kind (wish.Bind address) = omega arith
one_kind (wish.Unbind address) = omega arith

only_one : (calls : List Wish) → AreWorkerCalls calls → gives_in calls + takes_in calls + sends_in calls ≤ 1
only_one [] are = omega arith
only_one (first ∷ later) are = subst (λ (c : List Wish). gives_in (first ∷ c) + takes_in (first ∷ c) + sends_in (first ∷ c) ≤ 1) (sym are.0) (let one = one_kind first in omega (arith, one))

worker_few : (now : Option Wish) (calls : List Wish) → WorkerFits now calls → gives_in calls + takes_in calls + sends_in calls ≤ 1
worker_few None calls fits = only_one calls fits
worker_few (Some wanted) calls fits = subst (λ (c : List Wish). gives_in c + takes_in c + sends_in c ≤ 1) (sym fits.0) (let one = one_kind wanted in omega (arith, one))

module _ (records credit : ℕ) (host_calls : List Wish) (taking : Bool) (worker_calls : List Wish) (link : LinkState EndState) (within : ℕ) (sound : SoundLink link)
    (is : LinkWithin records credit host_calls taking worker_calls link within) where
  -- no more was accepted than sent and yet to be sent
  to_host_sent : length link.to_host.lane.accepted ≤ is.worker_sent + sends_in worker_calls
  to_host_sent =
      let most = free_sends 1 link.era.inc is.worker_now link.to_host.sender link.to_remote.receiver worker_calls is.worker.turns (worker_first is.worker_now worker_calls is.worker_fits) in
      omega (arith, most, is.worker.sent)

  to_remote_sent : length link.to_remote.lane.accepted ≤ is.host_sent + sends_in host_calls
  to_remote_sent =
      let most = free_sends 0 link.era.inc is.host_now link.to_remote.sender link.to_host.receiver host_calls is.host.turns (host_first is.host_now taking host_calls is.host_fits) in
      omega (arith, most, is.host.sent)

  -- what a call that is under way, or begins now, needs
  pub host_room : 1 ≤ sends_in host_calls → is.host_sent < link.to_remote.lane.returned + link.to_remote.lane.capacity
  host_room some =
      let all = to_host_sent in
      let few = worker_few is.worker_now worker_calls is.worker_fits in
      let handed = sound.to_host.lane.handed in
      omega (arith, some, all, few, handed, is.host_flow, is.worker_flow, is.host.took, is.worker.gave, is.worker_gives, is.to_remote)

  pub worker_room : 1 ≤ sends_in worker_calls → is.worker_sent < link.to_host.lane.returned + link.to_host.lane.capacity
  worker_room some =
      let all = to_remote_sent in
      let few = worker_few is.worker_now worker_calls is.worker_fits in
      let gives = host_few is.host_now taking host_calls is.host_fits in
      let handed = sound.to_remote.lane.handed in
      omega (arith, some, all, few, gives, handed, is.host_flow, is.worker_flow, is.worker.took, is.host.gave, is.host_gives, is.to_host)

message_grows : (now : Option Wish) (handed before after : ℕ) → before ≤ after → HasMessageNow now handed before → HasMessageNow now handed after
message_grows None handed before after less has = tt
message_grows (Some (wish.Send message)) handed before after less has = tt
message_grows (Some wish.Take) handed before after less has = omega (arith, less, has)
message_grows (Some (wish.Give number)) handed before after less has = tt
message_grows (Some (wish.Bind address)) handed before after less has = tt
message_grows (Some (wish.Unbind address)) handed before after less has = tt

host_less : (wanted : Wish) (calls : List Wish) (after before : ℕ) → after < before → host_cost (Some wanted) calls after < host_cost (Some wanted) calls before
host_less (wish.Send message) calls after before less = less
host_less wish.Take calls after before less = less
host_less (wish.Give number) calls after before less = omega (arith, less)
host_less (wish.Bind address) calls after before less = less
host_less (wish.Unbind address) calls after before less = less

-- what is still to be paid for the messages that wait covers the take that is under way
covered : (now : Option Wish) (handed accepted : ℕ) → handed ≤ accepted → HasMessageNow now handed accepted → 17 * handed + taking_cost now ≤ 17 * accepted
covered None handed accepted less has = omega (arith, less)
covered (Some (wish.Send message)) handed accepted less has = omega (arith, less)
covered (Some wish.Take) handed accepted less has = omega (arith, has)
covered (Some (wish.Give number)) handed accepted less has = omega (arith, less)
covered (Some (wish.Bind address)) handed accepted less has = omega (arith, less)
covered (Some (wish.Unbind address)) handed accepted less has = omega (arith, less)

way_of : (wanted : Wish) (lanes : Lanes (LaneState EndState)) (accepted handed : ℕ) → (1 ≤ one_send wanted → accepted < lanes.outgoing.lane.returned + lanes.outgoing.lane.capacity)
    → HasMessageNow (Some wanted) handed (length lanes.incoming.lane.accepted) → HasWay wanted lanes accepted handed
way_of (wish.Send message) lanes accepted handed room has = room (omega arith)
way_of wish.Take lanes accepted handed room has = has
way_of (wish.Give number) lanes accepted handed room has = tt
way_of (wish.Bind address) lanes accepted handed room has = tt
way_of (wish.Unbind address) lanes accepted handed room has = tt

-- what beginning a call costs
begins_cost : (wanted : Wish) → left_behind wanted + 4 * one_take wanted + 1 ≤ call_cost wanted
begins_cost (wish.Send message) = omega arith
begins_cost wish.Take = omega arith
begins_cost (wish.Give number) = omega arith
begins_cost (wish.Bind address) = omega arith
begins_cost (wish.Unbind address) = omega arith

-- the call that a host actor begins
host_begins_fit : (calls : List Wish) → AreHostCalls calls → HostFits (Some (first_or_take calls)) (is_empty calls) calls
host_begins_fit [] are = (refl, refl)
host_begins_fit (wish.Give number ∷ later) are = (ne_eqb (suc (length later)) 0 (λ is. absurd (omega (arith, is))), (later, refl, are))
host_begins_fit (wish.Send message ∷ []) are = (ne_eqb 1 0 (λ is. absurd (omega (arith, is))), refl)
host_begins_fit (wish.Send message ∷ other ∷ more) are = absurd are
host_begins_fit (wish.Take ∷ more) are = absurd are
host_begins_fit (wish.Bind address ∷ more) are = absurd are
host_begins_fit (wish.Unbind address ∷ more) are = absurd are

host_plain : (calls : List Wish) → AreHostCalls calls → IsNoUnbind (first_or_take calls)
host_plain [] are = tt
host_plain (wish.Give number ∷ later) are = tt
host_plain (wish.Send message ∷ []) are = tt
host_plain (wish.Send message ∷ other ∷ more) are = absurd are
host_plain (wish.Take ∷ more) are = absurd are
host_plain (wish.Bind address ∷ more) are = absurd are
host_plain (wish.Unbind address ∷ more) are = absurd are

-- what beginning it costs
host_begins_cost : (calls : List Wish) → AreHostCalls calls
    → host_cost (Some (first_or_take calls)) calls (left_behind (first_or_take calls)) + 1 ≤ calls_cost calls + taking_cost (Some (first_or_take calls))
host_begins_cost [] are = omega arith
host_begins_cost (wish.Give number ∷ later) are = omega arith
host_begins_cost (wish.Send message ∷ []) are = omega arith
host_begins_cost (wish.Send message ∷ other ∷ more) are = absurd are
host_begins_cost (wish.Take ∷ more) are = absurd are
host_begins_cost (wish.Bind address ∷ more) are = absurd are
host_begins_cost (wish.Unbind address ∷ more) are = absurd are

-- a host actor that begins its own take has a message, and else a call
host_some : (calls : List Wish) (handed accepted : ℕ) → AreHostCalls calls → (calls ≡ [] → handed < accepted) → HasMessageNow (Some (first_or_take calls)) handed accepted
host_some [] handed accepted are waits = waits refl
host_some (wish.Give number ∷ later) handed accepted are waits = tt
host_some (wish.Send message ∷ []) handed accepted are waits = tt
host_some (wish.Send message ∷ other ∷ more) handed accepted are waits = absurd are
host_some (wish.Take ∷ more) handed accepted are waits = absurd are
host_some (wish.Bind address ∷ more) handed accepted are waits = absurd are
host_some (wish.Unbind address ∷ more) handed accepted are waits = absurd are

module _ (records credit : ℕ) (host_calls : List Wish) (taking : Bool) (worker_calls : List Wish) (link : LinkState EndState) (within : ℕ) (sound : SoundLink link) (live : link.era.is_live ≡ true)
    (is : LinkWithin records credit host_calls taking worker_calls link within) where
  lanes : Lanes (LaneState EndState)
  lanes = lanes_of link side.Host

  -- the messages that are yet to be taken are yet to be paid
  pub paid : 17 * is.host_took + taking_cost is.host_now ≤ 17 * (is.worker_sent + sends_in worker_calls)
  paid =
      let handed = sound.to_host.lane.handed in
      let all = to_host_sent records credit host_calls taking worker_calls link within sound is in
      let cover = covered is.host_now is.host_took (length link.to_host.lane.accepted) (omega (arith, handed, is.host.took)) is.host_message in
      omega (arith, cover, all)

  -- ---- the host actor

  -- the link where it began or went on with this call
  host_goes : (wanted : Wish) (now_taking : Bool) (after : Lanes (LaneState EndState)) → HostFits (Some wanted) now_taking host_calls → IsAt 0 link.era.inc (Some wanted) after is.host_sent is.host_took is.host_gave
      → HasMessageNow (Some wanted) is.host_took (length link.to_host.lane.accepted) → StepsOwn (lanes_of link side.Host) after
      → host_cost (Some wanted) host_calls (left_on after) + taking_cost is.host_now + 1 ≤ host_cost is.host_now host_calls (left_on (lanes_of link side.Host)) + taking_cost (Some wanted)
      → (1 ≤ within) → LinkWithin records credit host_calls now_taking worker_calls (with_lanes link side.Host after) (within - 1)
  host_goes wanted now_taking after fits at has own less some =
      let others = other_stays (lanes_of link side.Host) after 1 link.era.inc is.worker_now is.worker_sent is.worker_took is.worker_gave own is.worker in
      record {
        host_now = Some wanted;
        worker_now = is.worker_now;
        host_sent = is.host_sent;
        host_took = is.host_took;
        host_gave = is.host_gave;
        worker_sent = is.worker_sent;
        worker_took = is.worker_took;
        worker_gave = is.worker_gave;
        host = record { turns = at.turns; sent = at.sent; took = at.took; gave = at.gave };
        worker = record { turns = others.0.turns; sent = others.0.sent; took = others.0.took; gave = others.0.gave };
        host_fits = fits;
        worker_fits = is.worker_fits;
        host_message = message_grows (Some wanted) is.host_took (length link.to_host.lane.accepted) (length after.incoming.lane.accepted) (omega (arith, own.incoming.accepted)) has;
        worker_message = message_grows is.worker_now is.worker_took (length link.to_remote.lane.accepted) (length after.outgoing.lane.accepted) own.outgoing.accepted is.worker_message;
        host_gives = is.host_gives;
        worker_gives = is.worker_gives;
        host_flow = is.host_flow;
        worker_flow = is.worker_flow;
        to_host = omega (arith, is.to_host, own.incoming.capacity);
        to_remote = omega (arith, is.to_remote, own.outgoing.capacity);
        cost =
            let same = ap (worker_cost is.worker_now worker_calls) others.1 in
            omega (arith, is.cost, less, some, same);
      }

  -- the link where its call has ended so
  host_ended_so : (wanted : Wish) (ended : CallEnd) (after : Lanes (LaneState EndState)) (calls : List Wish) → HostEnded wanted host_calls ended calls
      → IsAt 0 link.era.inc None after (is.host_sent + sent_by ended) (is.host_took + handed_by ended) (is.host_gave + returned_by ended) → StepsOwn (lanes_of link side.Host) after
      → is.host_now ≡ Some wanted → left_on (lanes_of link side.Host) ≡ 1 → (1 ≤ within) → LinkWithin records credit calls false worker_calls (with_lanes link side.Host after) (within - 1)
  host_ended_so wanted ended after calls ends at own now one some =
      let others = other_stays (lanes_of link side.Host) after 1 link.era.inc is.worker_now is.worker_sent is.worker_took is.worker_gave own is.worker in
      record {
        host_now = None;
        worker_now = is.worker_now;
        host_sent = is.host_sent + sent_by ended;
        host_took = is.host_took + handed_by ended;
        host_gave = is.host_gave + returned_by ended;
        worker_sent = is.worker_sent;
        worker_took = is.worker_took;
        worker_gave = is.worker_gave;
        host = record { turns = at.turns; sent = at.sent; took = at.took; gave = at.gave };
        worker = record { turns = others.0.turns; sent = others.0.sent; took = others.0.took; gave = others.0.gave };
        host_fits = ends.fits;
        worker_fits = is.worker_fits;
        host_message = tt;
        worker_message = message_grows is.worker_now is.worker_took (length link.to_remote.lane.accepted) (length after.outgoing.lane.accepted) own.outgoing.accepted is.worker_message;
        host_gives = omega (arith, is.host_gives, ends.gives);
        worker_gives = is.worker_gives;
        host_flow = omega (arith, is.host_flow, ends.sends);
        worker_flow = is.worker_flow;
        to_host = omega (arith, is.to_host, own.incoming.capacity);
        to_remote = omega (arith, is.to_remote, own.outgoing.capacity);
        cost =
            let same = ap (worker_cost is.worker_now worker_calls) others.1 in
            let before = ap₂ (λ (n : Option Wish) (left : ℕ). host_cost n host_calls left) now one in
            let taken = ap taking_cost now in
            omega (arith, is.cost, ends.cost, some, same, before, taken);
      }

  abbrev pub HostLeft : Outcome → Lanes (LaneState EndState) → Type 0
  HostLeft (outcome.At step) after = LinkWithin records credit host_calls taking worker_calls (with_lanes link side.Host after) (within - 1)
  HostLeft (outcome.Ended ended) after =
      (drivers : DriversState) (message : List ℕ) → LinkWithin records credit (host_after taking host_calls ended drivers message) false worker_calls (with_lanes link side.Host after) (within - 1)

  host_on : (wanted : Wish) → is.host_now ≡ Some wanted → (done : Outcome) (after : Lanes (LaneState EndState))
      → CallGoes 0 link.era.inc wanted done after is.host_sent is.host_took is.host_gave (left_on (lanes_of link side.Host)) → StepsOwn (lanes_of link side.Host) after
      → HostLeft done after × (1 ≤ within)
  host_on wanted now (outcome.At step) after goes own =
      let fits = subst (λ (n : Option Wish). HostFits n taking host_calls) now is.host_fits in
      let has = subst (λ (n : Option Wish). HasMessageNow n is.host_took (length link.to_host.lane.accepted)) now is.host_message in
      let less = host_less wanted host_calls (left_on after) (left_on (lanes_of link side.Host)) goes.1 in
      let before = ap (λ (n : Option Wish). host_cost n host_calls (left_on (lanes_of link side.Host))) now in
      let taken = ap taking_cost now in
      let pays = paid in
      let some : 1 ≤ within = omega (arith, is.cost, pays, less, before) in
      (host_goes wanted taking after fits goes.0 has own (omega (arith, less, before, taken)) some, some)
  host_on wanted now (outcome.Ended ended) after goes own =
      let fits = subst (λ (n : Option Wish). HostFits n taking host_calls) now is.host_fits in
      let before = ap₂ (λ (n : Option Wish) (left : ℕ). host_cost n host_calls left) now goes.2 in
      let pays = paid in
      let least = host_less wanted host_calls 0 1 (omega arith) in
      let some : 1 ≤ within = omega (arith, is.cost, pays, least, before) in
      ((λ drivers message. host_ended_so wanted ended after (host_after taking host_calls ended drivers message) (host_ends wanted taking host_calls ended drivers message fits goes.1) goes.0 own now goes.2 some), some)

  -- a later step of the host actor's call
  pub host_later : (wanted : Wish) → is.host_now ≡ Some wanted → let step = lanes_step (list_form side_meaning) side_meaning link.era (lanes_of link side.Host) 0 0 None in
      HostLeft step.outcome step.state × (1 ≤ within)
  host_later wanted now =
      let at = subst (λ (n : Option Wish). IsAt 0 link.era.inc n (lanes_of link side.Host) is.host_sent is.host_took is.host_gave) now is.host in
      let has = subst (λ (n : Option Wish). HasMessageNow n is.host_took (length link.to_host.lane.accepted)) now is.host_message in
      let few = host_first is.host_now taking host_calls is.host_fits wanted now in
      let way = way_of wanted (lanes_of link side.Host) is.host_sent is.host_took
      (λ sends. host_room records credit host_calls taking worker_calls link within sound is (omega (arith, sends, few))) has in
      host_on wanted now _ _ (later_goes link.era live 0 (lanes_of link side.Host) is.host_sent is.host_took is.host_gave wanted at way) (steps_own link.era (lanes_of link side.Host) 0 0 None)

  begun_host : (done : Outcome) (after : Lanes (LaneState EndState)) → is.host_now ≡ None → (host_calls ≡ [] → is.host_took < length link.to_host.lane.accepted)
      → Begun link.era live 0 (lanes_of link side.Host) is.host_sent is.host_took is.host_gave (first_or_take host_calls) done after → StepsOwn (lanes_of link side.Host) after
      → ((step : ℕ) × (done ≡ outcome.At step)) × LinkWithin records credit host_calls (is_empty host_calls) worker_calls (with_lanes link side.Host after) (within - 1) × (1 ≤ within)
  begun_host (outcome.Ended ended) after now waits begun own = absurd begun
  begun_host (outcome.At step) after now waits begun own =
      let are : AreHostCalls host_calls = subst (λ (n : Option Wish). HostFits n taking host_calls) now is.host_fits in
      let before = ap (λ (n : Option Wish). host_cost n host_calls (left_on (lanes_of link side.Host))) now in
      let taken = ap taking_cost now in
      let costs = host_begins_cost host_calls are in
      let left = ap (λ (left : ℕ). host_cost (Some (first_or_take host_calls)) host_calls left) begun.1 in
      let has = host_some host_calls is.host_took (length link.to_host.lane.accepted) are waits in
      let all = to_host_sent records credit host_calls taking worker_calls link within sound is in
      let handed = sound.to_host.lane.handed in
      let cover = covered (Some (first_or_take host_calls)) is.host_took (length link.to_host.lane.accepted) (omega (arith, handed, is.host.took)) has in
      let some : 1 ≤ within = omega (arith, is.cost, costs, before, taken, cover, all) in
      ((step, refl), host_goes (first_or_take host_calls) (is_empty host_calls) after (host_begins_fit host_calls are) begun.0 has own (omega (arith, costs, left, before, taken)) some, some)

  -- the first step of the host actor's call
  pub host_first_step : is.host_now ≡ None → (host_calls ≡ [] → is.host_took < length link.to_host.lane.accepted)
      → let step = lanes_step (list_form side_meaning) side_meaning link.era (lanes_of link side.Host) 0 link.era.inc (Some (first_or_take host_calls)) in
      ((number : ℕ) × (step.outcome ≡ outcome.At number)) × LinkWithin records credit host_calls (is_empty host_calls) worker_calls (with_lanes link side.Host step.state) (within - 1) × (1 ≤ within)
  host_first_step now waits =
      let are : AreHostCalls host_calls = subst (λ (n : Option Wish). HostFits n taking host_calls) now is.host_fits in
      let at = subst (λ (n : Option Wish). IsAt 0 link.era.inc n (lanes_of link side.Host) is.host_sent is.host_took is.host_gave) now is.host in
      begun_host _ _ now waits (first_goes link.era live 0 (lanes_of link side.Host) is.host_sent is.host_took is.host_gave (first_or_take host_calls) (host_plain host_calls are) at)
      (steps_own link.era (lanes_of link side.Host) 0 link.era.inc (Some (first_or_take host_calls)))

  -- ---- the worker

  worker_goes : (wanted : Wish) (after : Lanes (LaneState EndState)) → WorkerFits (Some wanted) worker_calls → IsAt 1 link.era.inc (Some wanted) after is.worker_sent is.worker_took is.worker_gave
      → HasMessageNow (Some wanted) is.worker_took (length link.to_remote.lane.accepted) → StepsOwn (lanes_of link side.Remote) after
      → worker_cost (Some wanted) worker_calls (left_on after) + 1 ≤ worker_cost is.worker_now worker_calls (left_on (lanes_of link side.Remote))
      → (1 ≤ within) → LinkWithin records credit host_calls taking worker_calls (with_lanes link side.Remote after) (within - 1)
  worker_goes wanted after fits at has own less some =
      let others = other_stays (lanes_of link side.Remote) after 0 link.era.inc is.host_now is.host_sent is.host_took is.host_gave own
      (record { turns = is.host.turns; sent = is.host.sent; took = is.host.took; gave = is.host.gave }) in
      record {
        host_now = is.host_now;
        worker_now = Some wanted;
        host_sent = is.host_sent;
        host_took = is.host_took;
        host_gave = is.host_gave;
        worker_sent = is.worker_sent;
        worker_took = is.worker_took;
        worker_gave = is.worker_gave;
        host = record { turns = others.0.turns; sent = others.0.sent; took = others.0.took; gave = others.0.gave };
        worker = record { turns = at.turns; sent = at.sent; took = at.took; gave = at.gave };
        host_fits = is.host_fits;
        worker_fits = fits;
        host_message = message_grows is.host_now is.host_took (length link.to_host.lane.accepted) (length after.outgoing.lane.accepted) own.outgoing.accepted is.host_message;
        worker_message = message_grows (Some wanted) is.worker_took (length link.to_remote.lane.accepted) (length after.incoming.lane.accepted) (omega (arith, own.incoming.accepted)) has;
        host_gives = is.host_gives;
        worker_gives = is.worker_gives;
        host_flow = is.host_flow;
        worker_flow = is.worker_flow;
        to_host = omega (arith, is.to_host, own.outgoing.capacity);
        to_remote = omega (arith, is.to_remote, own.incoming.capacity);
        cost =
            let same = ap (host_cost is.host_now host_calls) others.1 in
            omega (arith, is.cost, less, some, same);
      }

  worker_ended_so : (wanted : Wish) (ended : CallEnd) (after : Lanes (LaneState EndState)) → WorkerEnded wanted worker_calls ended (worker_after worker_calls ended)
      → IsAt 1 link.era.inc None after (is.worker_sent + sent_by ended) (is.worker_took + handed_by ended) (is.worker_gave + returned_by ended) → StepsOwn (lanes_of link side.Remote) after
      → is.worker_now ≡ Some wanted → left_on (lanes_of link side.Remote) ≡ 1 → (1 ≤ within)
      → LinkWithin records credit host_calls taking (worker_after worker_calls ended) (with_lanes link side.Remote after) (within - 1)
  worker_ended_so wanted ended after ends at own now one some =
      let others = other_stays (lanes_of link side.Remote) after 0 link.era.inc is.host_now is.host_sent is.host_took is.host_gave own
      (record { turns = is.host.turns; sent = is.host.sent; took = is.host.took; gave = is.host.gave }) in
      record {
        host_now = is.host_now;
        worker_now = None;
        host_sent = is.host_sent;
        host_took = is.host_took;
        host_gave = is.host_gave;
        worker_sent = is.worker_sent + sent_by ended;
        worker_took = is.worker_took + handed_by ended;
        worker_gave = is.worker_gave + returned_by ended;
        host = record { turns = others.0.turns; sent = others.0.sent; took = others.0.took; gave = others.0.gave };
        worker = record { turns = at.turns; sent = at.sent; took = at.took; gave = at.gave };
        host_fits = is.host_fits;
        worker_fits = ends.fits;
        host_message = message_grows is.host_now is.host_took (length link.to_host.lane.accepted) (length after.outgoing.lane.accepted) own.outgoing.accepted is.host_message;
        worker_message = tt;
        host_gives = is.host_gives;
        worker_gives = omega (arith, is.worker_gives, ends.gives);
        host_flow = is.host_flow;
        worker_flow = omega (arith, is.worker_flow, ends.sends, ends.takes);
        to_host = omega (arith, is.to_host, own.outgoing.capacity);
        to_remote = omega (arith, is.to_remote, own.incoming.capacity);
        cost =
            let same = ap (host_cost is.host_now host_calls) others.1 in
            let before = ap₂ (λ (n : Option Wish) (left : ℕ). worker_cost n worker_calls left) now one in
            omega (arith, is.cost, ends.cost, ends.sends, some, same, before);
      }

  abbrev pub WorkerLeft : Outcome → Lanes (LaneState EndState) → Type 0
  WorkerLeft (outcome.At step) after = LinkWithin records credit host_calls taking worker_calls (with_lanes link side.Remote after) (within - 1)
  WorkerLeft (outcome.Ended ended) after = LinkWithin records credit host_calls taking (worker_after worker_calls ended) (with_lanes link side.Remote after) (within - 1)

  worker_on : (wanted : Wish) → is.worker_now ≡ Some wanted → (done : Outcome) (after : Lanes (LaneState EndState))
      → CallGoes 1 link.era.inc wanted done after is.worker_sent is.worker_took is.worker_gave (left_on (lanes_of link side.Remote)) → StepsOwn (lanes_of link side.Remote) after
      → WorkerLeft done after × (1 ≤ within)
  worker_on wanted now (outcome.At step) after goes own =
      let fits = subst (λ (n : Option Wish). WorkerFits n worker_calls) now is.worker_fits in
      let has = subst (λ (n : Option Wish). HasMessageNow n is.worker_took (length link.to_remote.lane.accepted)) now is.worker_message in
      let before = ap (λ (n : Option Wish). worker_cost n worker_calls (left_on (lanes_of link side.Remote))) now in
      let pays = paid in
      let some : 1 ≤ within = omega (arith, is.cost, pays, goes.1, before) in
      (worker_goes wanted after fits goes.0 has own (omega (arith, goes.1, before)) some, some)
  worker_on wanted now (outcome.Ended ended) after goes own =
      let fits = subst (λ (n : Option Wish). WorkerFits n worker_calls) now is.worker_fits in
      let before = ap₂ (λ (n : Option Wish) (left : ℕ). worker_cost n worker_calls left) now goes.2 in
      let pays = paid in
      let some : 1 ≤ within = omega (arith, is.cost, pays, before) in
      (worker_ended_so wanted ended after (worker_ends wanted worker_calls ended fits goes.1) goes.0 own now goes.2 some, some)

  -- a later step of the worker's call
  pub worker_later : (wanted : Wish) → is.worker_now ≡ Some wanted → let step = lanes_step (list_form side_meaning) side_meaning link.era (lanes_of link side.Remote) 1 0 None in
      WorkerLeft step.outcome step.state × (1 ≤ within)
  worker_later wanted now =
      let at = subst (λ (n : Option Wish). IsAt 1 link.era.inc n (lanes_of link side.Remote) is.worker_sent is.worker_took is.worker_gave) now is.worker in
      let has = subst (λ (n : Option Wish). HasMessageNow n is.worker_took (length link.to_remote.lane.accepted)) now is.worker_message in
      let few = worker_first is.worker_now worker_calls is.worker_fits wanted now in
      let way = way_of wanted (lanes_of link side.Remote) is.worker_sent is.worker_took
      (λ sends. worker_room records credit host_calls taking worker_calls link within sound is (omega (arith, sends, few))) has in
      worker_on wanted now _ _ (later_goes link.era live 1 (lanes_of link side.Remote) is.worker_sent is.worker_took is.worker_gave wanted at way) (steps_own link.era (lanes_of link side.Remote) 1 0 None)

  begun_worker : (wanted : Wish) (done : Outcome) (after : Lanes (LaneState EndState)) → is.worker_now ≡ None → WorkerFits (Some wanted) worker_calls
      → HasMessageNow (Some wanted) is.worker_took (length link.to_remote.lane.accepted)
      → Begun link.era live 1 (lanes_of link side.Remote) is.worker_sent is.worker_took is.worker_gave wanted done after → StepsOwn (lanes_of link side.Remote) after
      → ((step : ℕ) × (done ≡ outcome.At step)) × LinkWithin records credit host_calls taking worker_calls (with_lanes link side.Remote after) (within - 1) × (1 ≤ within)
  begun_worker wanted (outcome.Ended ended) after now fits has begun own = absurd begun
  begun_worker wanted (outcome.At step) after now fits has begun own =
      let before = ap (λ (n : Option Wish). worker_cost n worker_calls (left_on (lanes_of link side.Remote))) now in
      let all = ap calls_cost fits.0 in
      let costs = begins_cost wanted in
      let pays = paid in
      let some : 1 ≤ within = omega (arith, is.cost, pays, before, all, costs) in
      ((step, refl), worker_goes wanted after fits begun.0 has own (omega (arith, begun.1, before, all, costs)) some, some)

  -- the first step of the worker's call
  pub worker_first_step : (wanted : Wish) → is.worker_now ≡ None → WorkerFits (Some wanted) worker_calls → HasMessageNow (Some wanted) is.worker_took (length link.to_remote.lane.accepted)
      → let step = lanes_step (list_form side_meaning) side_meaning link.era (lanes_of link side.Remote) 1 link.era.inc (Some wanted) in
      ((number : ℕ) × (step.outcome ≡ outcome.At number)) × LinkWithin records credit host_calls taking worker_calls (with_lanes link side.Remote step.state) (within - 1) × (1 ≤ within)
  worker_first_step wanted now fits has =
      let at = subst (λ (n : Option Wish). IsAt 1 link.era.inc n (lanes_of link side.Remote) is.worker_sent is.worker_took is.worker_gave) now is.worker in
      begun_worker wanted _ _ now fits has (first_goes link.era live 1 (lanes_of link side.Remote) is.worker_sent is.worker_took is.worker_gave wanted fits.1 at)
      (steps_own link.era (lanes_of link side.Remote) 1 link.era.inc (Some wanted))

  -- a record that asks for a call, or for none
  pub worker_asks : (records_after credit_after : ℕ) (asked : List Wish) → is.worker_now ≡ None → worker_calls ≡ [] → AreWorkerCalls asked → gives_in asked ≡ 0
      → records_after + calls_cost asked + 17 * sends_in asked + 1 ≤ records → credit_after + sends_in asked ≤ credit + takes_in asked
      → LinkWithin records_after credit_after host_calls taking (worker_calls ++ asked) link (within - 1) × (1 ≤ within)
  worker_asks records_after credit_after asked now none are no_gives less flows =
      let before = ap (λ (n : Option Wish). worker_cost n worker_calls (left_on (lanes_of link side.Remote))) now in
      let no_cost = ap calls_cost none in
      let no_sends = ap sends_in none in
      let no_takes = ap takes_in none in
      let was_none = ap gives_in none in
      let all : worker_calls ++ asked ≡ asked = ap (λ (c : List Wish). c ++ asked) none in
      let pays = paid in
      let some : 1 ≤ within = omega (arith, is.cost, pays, less) in (
        subst (λ (c : List Wish). LinkWithin records_after credit_after host_calls taking c link (within - 1)) (sym all)
            (record {
              host_now = is.host_now;
              worker_now = None;
              host_sent = is.host_sent;
              host_took = is.host_took;
              host_gave = is.host_gave;
              worker_sent = is.worker_sent;
              worker_took = is.worker_took;
              worker_gave = is.worker_gave;
              host = is.host;
              worker = subst (λ (n : Option Wish). IsAt 1 link.era.inc n (swapped (lanes_of link side.Host)) is.worker_sent is.worker_took is.worker_gave) now is.worker;
              host_fits = is.host_fits;
              worker_fits = are;
              host_message = is.host_message;
              worker_message = tt;
              host_gives = is.host_gives;
              worker_gives = omega (arith, is.worker_gives, was_none, no_gives);
              host_flow = is.host_flow;
              worker_flow = omega (arith, is.worker_flow, no_sends, no_takes, flows);
              to_host = is.to_host;
              to_remote = is.to_remote;
              cost = omega (arith, is.cost, before, no_cost, no_sends, less, some);
            }),
        some,
      )
