-- Steps on the link of a core leave what the calls of an actor give back in its hands.
use Rattle.std.proofs.Common.{◌≡◌, ◌≢◌, ℕ, cond, Bool, true, false, ◌||◌, List, Option, Some, None, refl, sym, ap, subst, ◌∙◌}
use Rattle.std.proofs.lemmas.Bool.{false≢true, or_parts, true≢false}
use Rattle.rp_base.specs.declared.kinds.Era.{Era}
use Rattle.rp_base.specs.declared.kinds.End.{End}
use Rattle.rp_base.specs.declared.kinds.End.TheVariants as side
use Rattle.lane_model.specs.declared.calls.CallEnd.{CallEnd}
use Rattle.lane_model.specs.declared.calls.CallEnd.TheVariants as end
use Rattle.lane_model.specs.declared.calls.Outcome.{Outcome}
use Rattle.lane_model.specs.declared.calls.Outcome.TheVariants as outcome
use Rattle.lane_model.specs.declared.calls.Wish.{Wish}
use Rattle.lane_model.specs.declared.calls.Wish.TheVariants as wish
use Rattle.lane_model.specs.declared.stages.GiveStage.TheVariants as give_stage
use Rattle.lane_model.specs.declared.stages.Receiving.{Receiving}
use Rattle.lane_model.specs.declared.stages.Turn.{Turn}
use Rattle.lane_model.specs.declared.stages.Turn.TheVariants as turn
use Rattle.lane_model.specs.declared.stages.Work.TheVariants as work
use Rattle.lane_model.specs.declared.states.LaneState.{LaneState}
use Rattle.lane_model.specs.Conditions.{MayEndStep, MayLanesStep, MayStep, is_in_call}
use Rattle.lane_model.specs.Forms.{list_form}
use Rattle.lane_model.specs.Lanes.{has_call, holder, taken_by}
use Rattle.lane_model.specs.Links.{LinkState, Lanes, begun_outcome, caller_step, end_of, lanes_of, lanes_step, on_lanes, receive_later, send_later}
use Rattle.lane_model.specs.Sends.{sender_step}
use Rattle.lane_model.specs.Receives.{receiver_step}
use Rattle.lane_model.specs.Soundness.{IsSoundLane, SoundLink}
use Rattle.lane_model.proofs.Steps.{same}
use Rattle.channel_bus.specs.Sides.{EndState, side_meaning}
use Rattle.link_bench.specs.declared.benches.Reach.{Reach}
use Rattle.link_bench.specs.declared.benches.Reach.TheVariants as reach
use Rattle.link_bench.specs.Benches.{Walk, LinkRings, call_steps, later_steps, lists_of, on_lists, on_rings, walk_on}
use Rattle.link_bench.specs.BenchHolds.{is_host}
use Rattle.link_bench.proofs.KeptWalks.{call_keeps, later_keeps, next_may}
use Rattle.link_bench.proofs.Lists.{call_lists, later_lists}
use Rattle.core_actors.specs.PendingCalls.{AreFitLanes, AreGivable, IsFitLane, IsNamed, IsSendsEnd, IsSendsTurn, give_numbers}
use Rattle.core_actors.proofs.PendingLanes.{Follows, HasEnded, KeepsOwn, SendsFollow, begin_keeps, fit_kept, keeps_same, receive_follows, receiver_keeps, sender_keeps, sender_turn, sends_follow, take_keeps, taken_sends}

apart : Some side.Host ≡ Some side.Remote → ⊥
apart is = true≢false (ap is_host is)

-- ---- steps of others

record LanesKeep (caller : ℕ) (before after : Lanes (LaneState EndState)) : Type 0 where
  pub outgoing : KeepsOwn caller before.outgoing after.outgoing
  pub incoming : KeepsOwn caller before.incoming after.incoming

work_keeps : (lanes : Lanes (LaneState EndState)) (other caller : ℕ) (call : Receiving) → other ≢ caller
    → LanesKeep caller lanes (record lanes { incoming = record lanes.incoming { receiver = taken_by lanes.incoming.receiver other call } })
work_keeps lanes other caller call differ = record { outgoing = keeps_same caller lanes.outgoing; incoming = take_keeps lanes.incoming other caller call differ }

later_keep : (era : Era) (lanes : Lanes (LaneState EndState)) (other caller : ℕ) (sends : Bool) → other ≢ caller → has_call lanes.outgoing.sender other ≡ sends → is_in_call lanes other ≡ true
    → LanesKeep caller lanes (cond sends (send_later (list_form side_meaning) era lanes) (receive_later (list_form side_meaning) side_meaning era lanes)).state
later_keep era lanes other caller true differ is calls = record { outgoing = sender_keeps era lanes.outgoing caller; incoming = keeps_same caller lanes.incoming }
later_keep era lanes other caller false differ is calls =
    let receives : has_call lanes.incoming.receiver other ≡ true = sym (ap (λ b. b || has_call lanes.incoming.receiver other) is) ∙ calls in
    record { outgoing = keeps_same caller lanes.outgoing; incoming = receiver_keeps era lanes.incoming other caller differ receives }

lanes_keep : (era : Era) (lanes : Lanes (LaneState EndState)) (other follows caller : ℕ) (wished : Option Wish) → other ≢ caller → MayLanesStep lanes other wished
    → LanesKeep caller lanes (lanes_step (list_form side_meaning) side_meaning era lanes other follows wished).state
lanes_keep era lanes other follows caller (Some (wish.Send message)) differ may = record { outgoing = begin_keeps lanes.outgoing other caller _; incoming = keeps_same caller lanes.incoming }
lanes_keep era lanes other follows caller (Some wish.Take) differ may = work_keeps lanes other caller _ differ
lanes_keep era lanes other follows caller (Some (wish.Give number)) differ may = work_keeps lanes other caller _ differ
lanes_keep era lanes other follows caller (Some (wish.Bind address)) differ may = work_keeps lanes other caller _ differ
lanes_keep era lanes other follows caller (Some (wish.Unbind address)) differ may = work_keeps lanes other caller _ differ
lanes_keep era lanes other follows caller None differ may = later_keep era lanes other caller (has_call lanes.outgoing.sender other) differ refl may

-- an actor, with its calls
module _ (caller : ℕ) (is_first : Bool) (calls : List Wish) where
  pub fit_lanes : (before after : Lanes (LaneState EndState)) → KeepsOwn caller before.outgoing after.outgoing → KeepsOwn caller before.incoming after.incoming
      → AreFitLanes before caller is_first calls → AreFitLanes after caller is_first calls
  fit_lanes before after outgoing incoming are =
      record { sends = outgoing.sends are.sends; receives = fit_kept before.incoming after.incoming caller is_first calls incoming are.receives }

other_at : (link : LinkState EndState) (found : Option End) (other follows : ℕ) (wished : Option Wish) (caller : ℕ) (mine : End) (is_first : Bool) (calls : List Wish) → other ≢ caller
    → MayEndStep link found other wished → AreFitLanes (lanes_of link mine) caller is_first calls
    → AreFitLanes (lanes_of (on_lanes link found (λ lanes. lanes_step (list_form side_meaning) side_meaning link.era lanes other follows wished)).state mine) caller is_first calls
other_at link (Some side.Host) other follows wished caller side.Host is_first calls differ may are =
    let left = lanes_keep link.era (lanes_of link side.Host) other follows caller wished differ may in
    fit_lanes caller is_first calls (lanes_of link side.Host) _ left.outgoing left.incoming are
other_at link (Some side.Host) other follows wished caller side.Remote is_first calls differ may are =
    let left = lanes_keep link.era (lanes_of link side.Host) other follows caller wished differ may in
    fit_lanes caller is_first calls (lanes_of link side.Remote) _ left.incoming left.outgoing are
other_at link (Some side.Remote) other follows wished caller side.Host is_first calls differ may are =
    let left = lanes_keep link.era (lanes_of link side.Remote) other follows caller wished differ may in
    fit_lanes caller is_first calls (lanes_of link side.Host) _ left.incoming left.outgoing are
other_at link (Some side.Remote) other follows wished caller side.Remote is_first calls differ may are =
    let left = lanes_keep link.era (lanes_of link side.Remote) other follows caller wished differ may in
    fit_lanes caller is_first calls (lanes_of link side.Remote) _ left.outgoing left.incoming are
other_at link None other follows wished caller mine is_first calls differ may are = absurd may

module _ (other caller : ℕ) (mine : End) (is_first : Bool) (calls : List Wish) (differ : other ≢ caller) where
  other_step : (link : LinkState EndState) (follows : ℕ) (wished : Option Wish) → MayStep link other wished → AreFitLanes (lanes_of link mine) caller is_first calls
      → AreFitLanes (lanes_of (caller_step side_meaning link other follows wished).state mine) caller is_first calls
  other_step link follows wished may are = other_at link (end_of link.callers other) other follows wished caller mine is_first calls differ may.may are

  pub other_later : (more last steps : ℕ) (rings : LinkRings) → MayStep (lists_of rings) other None → AreFitLanes (lanes_of (lists_of rings) mine) caller is_first calls
      → AreFitLanes (lanes_of (lists_of (later_steps on_rings more last steps rings other).link) mine) caller is_first calls
  other_later =
      later_keeps (λ (link : LinkState EndState). AreFitLanes (lanes_of link mine) caller is_first calls) (λ (link : LinkState EndState) (wished : Option Wish). MayStep link other wished) other
      other_step (next_may other)

  pub other_call : (more steps : ℕ) (rings : LinkRings) (follows : ℕ) (wanted : Wish) → MayStep (lists_of rings) other (Some wanted)
      → AreFitLanes (lanes_of (lists_of rings) mine) caller is_first calls
      → AreFitLanes (lanes_of (lists_of (call_steps on_rings more steps rings other follows wanted).link) mine) caller is_first calls
  other_call =
      call_keeps (λ (link : LinkState EndState). AreFitLanes (lanes_of link mine) caller is_first calls) (λ (link : LinkState EndState) (wished : Option Wish). MayStep link other wished) other
      other_step (next_may other)

-- ---- the actor's own step

-- what a step of an actor leaves of its lanes where its call has ended so
pub record HaveEnded (ended : CallEnd) (lanes : Lanes (LaneState EndState)) (caller : ℕ) (is_first : Bool) (calls : List Wish) : Type 0 where
  pub sends : IsSendsTurn lanes.outgoing.sender
  pub receives : HasEnded ended lanes.incoming caller is_first calls

abbrev pub LanesFollow : Outcome → Lanes (LaneState EndState) → ℕ → Bool → List Wish → Type 0
LanesFollow (outcome.At step) lanes caller is_first calls = AreFitLanes lanes caller is_first calls
LanesFollow (outcome.Ended ended) lanes caller is_first calls = HaveEnded ended lanes caller is_first calls

-- a wish that is the first of the calls, where it gives something back
abbrev pub IsNext : Wish → Bool → List Wish → Type 0
IsNext (wish.Send message) is_first calls = Unit {0}
IsNext wish.Take is_first calls = Unit {0}
IsNext (wish.Give number) is_first calls = IsNamed (work.Give number give_stage.Turn) is_first calls
IsNext (wish.Bind address) is_first calls = Unit {0}
IsNext (wish.Unbind address) is_first calls = Unit {0}

module _ (caller : ℕ) (is_first : Bool) (calls : List Wish) where
  -- the first step of a send
  send_begun : (lanes after : Lanes (LaneState EndState)) (found : Option ℕ) → IsSendsTurn after.outgoing.sender → has_call after.incoming.receiver caller ≡ false
      → AreGivable after.incoming.lane.held caller (give_numbers calls) → LanesFollow (begun_outcome found) after caller is_first calls
  send_begun lanes after None sends none are = record { sends = sends; receives = record { own = λ has. absurd (false≢true (sym none ∙ has)); other = λ _. are } }
  send_begun lanes after (Some other) sends none are = record { sends = sends; receives = record { given = are; named = tt; left = none } }

  -- the first step of another call
  turn_begun : (lanes : Lanes (LaneState EndState)) (now : Turn Receiving) (call : Receiving) → IsSendsTurn lanes.outgoing.sender → has_call now caller ≡ false
      → AreGivable lanes.incoming.lane.held caller (give_numbers calls) → IsNamed call.work is_first calls
      → LanesFollow (begun_outcome (holder now)) (record lanes { incoming = record lanes.incoming { receiver = taken_by now caller call } }) caller is_first calls
  turn_begun lanes turn.Free call sends none are named =
      record { sends = sends; receives = record { own = λ _. (are, named); other = λ no. absurd (false≢true (sym no ∙ same caller)) } }
  turn_begun lanes (turn.Taken other its) call sends none are named = record { sends = sends; receives = record { given = are; named = tt; left = none } }
  turn_begun lanes (turn.Leaving other ended) call sends none are named = record { sends = sends; receives = record { given = are; named = tt; left = none } }
  turn_begun lanes turn.Manager call sends none are named = record { sends = sends; receives = record { given = are; named = tt; left = none } }

  first_follows : (era : Era) (lanes : Lanes (LaneState EndState)) (follows : ℕ) (wanted : Wish) → is_in_call lanes caller ≡ false → IsNext wanted is_first calls
      → IsSendsTurn lanes.outgoing.sender → AreGivable lanes.incoming.lane.held caller (give_numbers calls)
      → let step = lanes_step (list_form side_meaning) side_meaning era lanes caller follows (Some wanted) in LanesFollow step.outcome step.state caller is_first calls
  first_follows era lanes follows (wish.Send message) none next sends are =
      send_begun lanes _ (holder lanes.outgoing.sender) (taken_sends lanes.outgoing.sender caller _ sends) (or_parts (has_call lanes.outgoing.sender caller) _ none).1 are
  first_follows era lanes follows wish.Take none next sends are =
      turn_begun lanes lanes.incoming.receiver _ sends (or_parts (has_call lanes.outgoing.sender caller) _ none).1 are tt
  first_follows era lanes follows (wish.Give number) none next sends are =
      turn_begun lanes lanes.incoming.receiver _ sends (or_parts (has_call lanes.outgoing.sender caller) _ none).1 are next
  first_follows era lanes follows (wish.Bind address) none next sends are =
      turn_begun lanes lanes.incoming.receiver _ sends (or_parts (has_call lanes.outgoing.sender caller) _ none).1 are tt
  first_follows era lanes follows (wish.Unbind address) none next sends are =
      turn_begun lanes lanes.incoming.receiver _ sends (or_parts (has_call lanes.outgoing.sender caller) _ none).1 are tt

  send_given : (state : LaneState EndState) (ended : CallEnd) → IsSendsEnd ended → has_call state.receiver caller ≡ false → AreGivable state.lane.held caller (give_numbers calls)
      → HasEnded ended state caller is_first calls
  send_given state (end.Sent number) is none are = record { given = are; named = tt; left = none }
  send_given state (end.Took number judged) is none are = absurd is
  send_given state (end.Gave number) is none are = absurd is
  send_given state (end.Bound endpoint) is none are = record { given = are; named = tt; left = none }
  send_given state (end.Unbound endpoint) is none are = record { given = are; named = tt; left = none }
  send_given state (end.Busy other) is none are = record { given = are; named = tt; left = none }
  send_given state (end.Dead era) is none are = record { given = are; named = tt; left = none }
  send_given state (end.NoBuffer accepted returned) is none are = record { given = are; named = tt; left = none }
  send_given state (end.BookFull accepted) is none are = record { given = are; named = tt; left = none }
  send_given state (end.Empty accepted) is none are = record { given = are; named = tt; left = none }
  send_given state (end.Refused fault) is none are = record { given = are; named = tt; left = none }

  send_lanes : (done : Outcome) (after : Lanes (LaneState EndState)) → SendsFollow done → IsSendsTurn after.outgoing.sender → has_call after.incoming.receiver caller ≡ false
      → IsFitLane after.incoming caller is_first calls → LanesFollow done after caller is_first calls
  send_lanes (outcome.At step) after is sends none fit = record { sends = sends; receives = fit }
  send_lanes (outcome.Ended ended) after is sends none fit = record { sends = sends; receives = send_given after.incoming ended is none (fit.other none) }

  receive_lanes : (done : Outcome) (after : Lanes (LaneState EndState)) → IsSendsTurn after.outgoing.sender → Follows done after.incoming caller is_first calls
      → LanesFollow done after caller is_first calls
  receive_lanes (outcome.At step) after sends follows = record { sends = sends; receives = follows }
  receive_lanes (outcome.Ended ended) after sends follows = record { sends = sends; receives = follows }

  later_follows : (era : Era) (lanes : Lanes (LaneState EndState)) (sending : Bool) → has_call lanes.outgoing.sender caller ≡ sending → is_in_call lanes caller ≡ true
      → (has_call lanes.outgoing.sender caller ≡ true → has_call lanes.incoming.receiver caller ≡ false) → IsSoundLane lanes.incoming → AreFitLanes lanes caller is_first calls
      → let step = cond sending (send_later (list_form side_meaning) era lanes) (receive_later (list_form side_meaning) side_meaning era lanes) in
      LanesFollow step.outcome step.state caller is_first calls
  later_follows era lanes true is in_call alone sound are =
      send_lanes (sender_step era lanes.outgoing).outcome _ (sends_follow era lanes.outgoing are.sends) (sender_turn era lanes.outgoing are.sends) (alone is) are.receives
  later_follows era lanes false is in_call alone sound are =
      let receives : has_call lanes.incoming.receiver caller ≡ true = sym (ap (λ b. b || has_call lanes.incoming.receiver caller) is) ∙ in_call in
      receive_lanes (receiver_step side_meaning era lanes.incoming).outcome _ are.sends (receive_follows lanes.incoming caller is_first calls era receives sound are.receives)

  -- lanes by their parts
  relaned : (done : Outcome) (one : Lanes (LaneState EndState)) → LanesFollow done one caller is_first calls → LanesFollow done (record { outgoing = one.outgoing; incoming = one.incoming }) caller is_first calls
  relaned (outcome.At step) one follows = record { sends = follows.sends; receives = follows.receives }
  relaned (outcome.Ended ended) one follows = record { sends = follows.sends; receives = follows.receives }

  -- the step of a call of the actor on the link: its first, or a later one
  first_at : (link : LinkState EndState) (end : End) (found : Option End) (follows : ℕ) (wanted : Wish) → found ≡ Some end → MayEndStep link found caller (Some wanted) → IsNext wanted is_first calls
      → IsSendsTurn (lanes_of link end).outgoing.sender → AreGivable (lanes_of link end).incoming.lane.held caller (give_numbers calls)
      → let step = on_lanes link found (λ lanes. lanes_step (list_form side_meaning) side_meaning link.era lanes caller follows (Some wanted)) in
      LanesFollow step.outcome (lanes_of step.state end) caller is_first calls
  first_at link side.Host (Some side.Host) follows wanted is may next sends are = relaned _ _ (first_follows link.era (lanes_of link side.Host) follows wanted may.0 next sends are)
  first_at link side.Remote (Some side.Remote) follows wanted is may next sends are = relaned _ _ (first_follows link.era (lanes_of link side.Remote) follows wanted may.0 next sends are)
  first_at link side.Host (Some side.Remote) follows wanted is may next sends are = absurd (apart (sym is))
  first_at link side.Remote (Some side.Host) follows wanted is may next sends are = absurd (apart is)
  first_at link end None follows wanted is may next sends are = absurd may

  later_at : (link : LinkState EndState) (end : End) (found : Option End) → found ≡ Some end → SoundLink link → MayEndStep link found caller None → AreFitLanes (lanes_of link end) caller is_first calls
      → let step = on_lanes link found (λ lanes. lanes_step (list_form side_meaning) side_meaning link.era lanes caller 0 None) in
      LanesFollow step.outcome (lanes_of step.state end) caller is_first calls
  later_at link side.Host (Some side.Host) is sound may are =
      relaned _ _ (later_follows link.era (lanes_of link side.Host) (has_call link.to_remote.sender caller) refl may (sound.hosts caller) sound.to_host.lane are)
  later_at link side.Remote (Some side.Remote) is sound may are =
      relaned _ _ (later_follows link.era (lanes_of link side.Remote) (has_call link.to_host.sender caller) refl may (sound.remotes caller) sound.to_remote.lane are)
  later_at link side.Host (Some side.Remote) is sound may are = absurd (apart (sym is))
  later_at link side.Remote (Some side.Host) is sound may are = absurd (apart is)
  later_at link end None is sound may are = absurd may

-- ---- one step of the actor's call

-- how far a call came with its only step
abbrev pub reach_by : Outcome → Reach
reach_by (outcome.At step) = reach.At step
reach_by (outcome.Ended ended) = reach.Ended ended

one_at : (state : LinkState EndState) (caller : ℕ) (done : Outcome)
    → walk_on state 1 done (λ step. later_steps on_lists 0 step 1 state caller) ≡ record { link = state; steps = 1; reach = reach_by done }
unfolding later_steps
one_at state caller (outcome.At step) = refl
one_at state caller (outcome.Ended ended) = refl

pub one_later : (link : LinkState EndState) (caller : ℕ)
    → let step = caller_step side_meaning link caller 0 None in later_steps on_lists 1 0 0 link caller ≡ record { link = step.state; steps = 1; reach = reach_by step.outcome }
unfolding later_steps
one_later link caller = one_at (caller_step side_meaning link caller 0 None).state caller (caller_step side_meaning link caller 0 None).outcome

pub one_call : (link : LinkState EndState) (caller follows : ℕ) (wanted : Wish)
    → let step = caller_step side_meaning link caller follows (Some wanted) in call_steps on_lists 0 0 link caller follows wanted ≡ record { link = step.state; steps = 1; reach = reach_by step.outcome }
unfolding call_steps
one_call link caller follows wanted =
    one_at (caller_step side_meaning link caller follows (Some wanted)).state caller (caller_step side_meaning link caller follows (Some wanted)).outcome

-- what a step of an actor leaves of its lanes, by how far its call came
abbrev pub ReachFollows : Reach → Lanes (LaneState EndState) → ℕ → Bool → List Wish → Type 0
ReachFollows (reach.At step) lanes caller is_first calls = AreFitLanes lanes caller is_first calls
ReachFollows (reach.Ended ended) lanes caller is_first calls = HaveEnded ended lanes caller is_first calls
ReachFollows reach.Limit lanes caller is_first calls = ⊥

by_reach : (done : Outcome) (lanes : Lanes (LaneState EndState)) (caller : ℕ) (is_first : Bool) (calls : List Wish) → LanesFollow done lanes caller is_first calls
    → ReachFollows (reach_by done) lanes caller is_first calls
by_reach (outcome.At step) lanes caller is_first calls follows = follows
by_reach (outcome.Ended ended) lanes caller is_first calls follows = follows

module _ (caller : ℕ) (end : End) (is_first : Bool) (calls : List Wish) (rings : LinkRings) (user : end_of rings.callers caller ≡ Some end) where
  pub own_later : SoundLink (lists_of rings) → MayStep (lists_of rings) caller None → AreFitLanes (lanes_of (lists_of rings) end) caller is_first calls
      → let walk = later_steps on_rings 1 0 0 rings caller in ReachFollows walk.reach (lanes_of (lists_of walk.link) end) caller is_first calls
  own_later sound may are =
      let step = caller_step side_meaning (lists_of rings) caller 0 None in
      subst (λ (walk : Walk (LaneState EndState)). ReachFollows walk.reach (lanes_of walk.link end) caller is_first calls) (sym (later_lists 1 0 0 rings caller ∙ one_later (lists_of rings) caller))
      (by_reach step.outcome (lanes_of step.state end) caller is_first calls
      (later_at caller is_first calls (lists_of rings) end (end_of rings.callers caller) user sound may.may are))

  pub own_call : (follows : ℕ) (wanted : Wish) → MayStep (lists_of rings) caller (Some wanted) → IsNext wanted is_first calls
      → IsSendsTurn (lanes_of (lists_of rings) end).outgoing.sender → AreGivable (lanes_of (lists_of rings) end).incoming.lane.held caller (give_numbers calls)
      → let walk = call_steps on_rings 0 0 rings caller follows wanted in ReachFollows walk.reach (lanes_of (lists_of walk.link) end) caller is_first calls
  own_call follows wanted may next sends are =
      let step = caller_step side_meaning (lists_of rings) caller follows (Some wanted) in
      subst (λ (walk : Walk (LaneState EndState)). ReachFollows walk.reach (lanes_of walk.link end) caller is_first calls)
      (sym (call_lists 0 0 rings caller follows wanted ∙ one_call (lists_of rings) caller follows wanted))
      (by_reach step.outcome (lanes_of step.state end) caller is_first calls
      (first_at caller is_first calls (lists_of rings) end (end_of rings.callers caller) follows wanted user may.may next sends are))
