-- Who takes a message on a link that comes by a way from an opening is told of its handing: the book has what was handed over.
use Rattle.std.proofs.Common.{◌≡◌, ◌≢◌, ◌<◌, ℕ, zero, suc, ◌+◌, ◌==◌, Bool, List, [], ◌∷◌, ◌++◌, length, replicate, get_or, Option, Some, None, slice_get, refl, sym, ap, subst, ◌∙◌, arith}
use Rattle.std.proofs.lemmas.Bool.{cond_both}
use Rattle.std.proofs.lemmas.List.{append_assoc, length-append, length-replicate}
use Rattle.std.proofs.lemmas.Option.{slice_get-get_or}
use Rattle.rp_base.specs.declared.kinds.Era.{Era}
use Rattle.rp_base.specs.declared.kinds.End.{End}
use Rattle.rp_base.specs.declared.kinds.End.TheVariants as side
use Rattle.rp_base.specs.declared.kinds.Verdict.{Verdict}
use Rattle.rp_base.specs.declared.limits.TheConstants.{STEPS_MOST}
use Rattle.lane_model.specs.declared.calls.CallEnd.{CallEnd}
use Rattle.lane_model.specs.declared.calls.CallEnd.TheVariants as ended
use Rattle.lane_model.specs.declared.calls.Outcome.{Outcome}
use Rattle.lane_model.specs.declared.calls.Outcome.TheVariants as outcome
use Rattle.lane_model.specs.declared.calls.Wish.{Wish}
use Rattle.lane_model.specs.declared.calls.Wish.TheVariants as wish
use Rattle.lane_model.specs.declared.stages.GiveStage.TheVariants as give_stage
use Rattle.lane_model.specs.declared.stages.Receiving.{Receiving}
use Rattle.lane_model.specs.declared.stages.Sending.{Sending}
use Rattle.lane_model.specs.declared.stages.SendStage.{SendStage}
use Rattle.lane_model.specs.declared.stages.SendStage.TheVariants as stage
use Rattle.lane_model.specs.declared.stages.TakeStage.TheVariants as take_stage
use Rattle.lane_model.specs.declared.stages.Turn.{Turn}
use Rattle.lane_model.specs.declared.stages.Turn.TheVariants as turn
use Rattle.lane_model.specs.declared.stages.Work.{Work}
use Rattle.lane_model.specs.declared.stages.Work.TheVariants as work
use Rattle.lane_model.specs.declared.states.BookEntry.{BookEntry}
use Rattle.lane_model.specs.declared.states.LaneState.{LaneState}
use Rattle.lane_model.specs.Conditions.{MayStep}
use Rattle.lane_model.specs.Forms.{list_form}
use Rattle.lane_model.specs.Lanes.{Stepped, has_call, holder, turn_step}
use Rattle.lane_model.specs.Links.{LinkState, Lanes, begun_outcome, caller_step, end_of, lanes_of, lanes_step, on_lanes, receive_later, send_later}
use Rattle.lane_model.specs.Receives.{receive_step, receiver_step}
use Rattle.lane_model.specs.Sends.{send_step, sender_step}
use Rattle.lane_model.specs.Soundness.{SoundLink}
use Rattle.lane_model.proofs.FormSteps.{step_agrees}
use Rattle.lane_laws.specs.Handings.{Handing, handing_of, told_handing}
use Rattle.lane_laws.specs.Moves.{IsEmptyLane, MayMove, MayMoves, Move, Step, lane_to, link_after_move}
use Rattle.lane_laws.specs.Takes.{outcome_handing, step_takes}
use Rattle.lane_laws.specs.Ways.{AreWholeMoves, IsOpened, IsWholeMove, link_after_moves}
use Rattle.lane_laws.proofs.LaneTells.{AreSilent, Ends, Hands, IsPlain, IsSilent, IsSteady, LaneTell, Plain, Same, Tells, link_tells}
use Rattle.lane_laws.proofs.LinkRuns.{move_sound}
use Rattle.ring_core.specs.declared.states.RingState.{RingState}
use Rattle.channel_bus.specs.Sides.{EndState, side_meaning}
use Rattle.link_bench.specs.declared.benches.BegunCall.{BegunCall}
use Rattle.link_bench.specs.declared.benches.Reach.{Reach}
use Rattle.link_bench.specs.declared.benches.Reach.TheVariants as reach
use Rattle.link_bench.specs.Benches.{BenchState, BenchWalk, LinkRings, Walk, advance_steps, bench_walk, begin_walk, call_steps, later_steps, link_in, lists_of, on_rings, step_on, walk_on, with_begun_call}
use Rattle.link_bench.proofs.Lists.{is_rings}
use Rattle.link_bench.proofs.Walks.{goes_on_at}
use Rattle.act_laws.specs.Deeds.{reach_takes}
use Rattle.act_laws.proofs.ActLands.{MayGo}
use Rattle.way_laws.specs.WordedTakes.{ComesFromOpening}

-- ---- what the book has

-- the book has the message of this number: there is a handing of it
record IsBookedAt (book : List BookEntry) (number : ℕ) (judged : Verdict) : Type 0 where
  pub handing : Handing
  pub is : handing_of (slice_get book number) number judged ≡ handing ∷ []

-- a book that goes on for so long that it has a number
abbrev blank : BookEntry
blank = record { caller = 0; message = [] }

abbrev blanks : ℕ → List BookEntry
blanks number = replicate (number + 1) blank

booked_within : (book : List BookEntry) (number : ℕ) (judged : Verdict) → number < length book → IsBookedAt book number judged
booked_within book number judged below =
    let entry : BookEntry = get_or book number blank in
    record {
      handing = record { sent = record { number = number; sender = entry.caller; message = entry.message }; verdict = judged };
      is = ap (λ (found : Option BookEntry). handing_of found number judged) (slice_get-get_or book number blank below);
    }

booked_blanks : (book : List BookEntry) (number : ℕ) (judged : Verdict) → IsBookedAt (book ++ blanks number) number judged
booked_blanks book number judged =
    let both = length-append book (blanks number) in
    let more = length-replicate (number + 1) blank in
    booked_within (book ++ blanks number) number judged (omega (arith, both, more))

-- where a call ended so, the book has what it took
abbrev IsBookedEnd : List BookEntry → CallEnd → Type 0
IsBookedEnd book (ended.Took number judged) = IsBookedAt book number judged
IsBookedEnd book other = Unit {0}

abbrev IsBookedOutcome : List BookEntry → Outcome → Type 0
IsBookedOutcome book (outcome.At step) = Unit {0}
IsBookedOutcome book (outcome.Ended came) = IsBookedEnd book came

-- what a taker is yet to tell, and what it tells then stays, whatever more is accepted: so it is in the book
leaving_booked : (book : List BookEntry) (caller : ℕ) (came : CallEnd) → IsSteady book (turn.Leaving caller came) → IsBookedEnd book came
leaving_booked book caller (ended.Took number judged) steady =
    let one = booked_blanks book number judged in record { handing = one.handing; is = sym (steady (blanks number)) ∙ one.is }
leaving_booked book caller other steady = tt

-- an end that tells nothing, whatever the book, is no take
silent_booked : (book : List BookEntry) (came : CallEnd) → ((other : List BookEntry) → outcome_handing other (outcome.Ended came) ≡ []) → IsBookedEnd book came
silent_booked book (ended.Took number judged) silent =
    let one = booked_blanks [] number judged in
    let none : one.handing ∷ [] ≡ [] = sym one.is ∙ silent (blanks number) in
    absurd (cc)
silent_booked book other silent = tt

-- ---- steps on lanes

begun_booked : (book : List BookEntry) (found : Option ℕ) → IsBookedOutcome book (begun_outcome found)
begun_booked book None = tt
begun_booked book (Some other) = tt

send_booked : (book : List BookEntry) (era : Era) (state : LaneState EndState) (caller : ℕ) (s : Sending) (now : SendStage) → IsBookedOutcome book (send_step era state caller s now).outcome
send_booked book era state caller s stage.Turn = tt
send_booked book era state caller s stage.Era = tt
send_booked book era state caller s stage.Look = tt
send_booked book era state caller s stage.Buffer = tt
send_booked book era state caller s stage.Entry = tt

work_booked : (book : List BookEntry) (era : Era) (state : LaneState EndState) (caller : ℕ) (r : Receiving) (now : Work) → IsBookedOutcome book (receive_step side_meaning era state caller r now).outcome
work_booked book era state caller r (work.Take take_stage.Turn) = tt
work_booked book era state caller r (work.Take take_stage.Era) = tt
work_booked book era state caller r (work.Take take_stage.Look) = tt
work_booked book era state caller r (work.Take take_stage.Buffer) = tt
work_booked book era state caller r (work.Give number give_stage.Turn) = tt
work_booked book era state caller r (work.Give number give_stage.Entry) = tt
work_booked book era state caller r (work.Bind address) = tt
work_booked book era state caller r (work.Unbind address) = tt

sender_booked : (book : List BookEntry) (era : Era) (state : LaneState EndState) → IsSilent state.sender → IsBookedOutcome book (sender_step era state).outcome
sender_booked book era state silent = by state.sender silent
  where
    by : (now : Turn Sending) → IsSilent now → IsBookedOutcome book (turn_step state (record state { sender = turn.Free }) (λ caller s. send_step era state caller s s.stage) now).outcome
    by turn.Free is = tt
    by (turn.Taken caller s) is = send_booked book era state caller s s.stage
    by (turn.Leaving caller came) is = silent_booked book came is
    by turn.Manager is = tt

-- a step of who has the receiver's turn, on the book that it leaves
abbrev IsBookedStep : Stepped (LaneState EndState) → Type 0
IsBookedStep done = IsBookedOutcome done.state.lane.accepted done.outcome

receiver_booked : (era : Era) (state : LaneState EndState) → IsSteady state.lane.accepted state.receiver → IsBookedStep (receiver_step side_meaning era state)
receiver_booked era state steady = by state.receiver steady
  where
    by : (now : Turn Receiving) → IsSteady state.lane.accepted now → IsBookedStep (turn_step state (record state { receiver = turn.Free }) (λ caller r. receive_step side_meaning era state caller r r.work) now)
    by turn.Free is = tt
    by (turn.Taken caller r) is = work_booked _ era state caller r r.work
    by (turn.Leaving caller came) is = leaving_booked state.lane.accepted caller came is
    by turn.Manager is = tt

abbrev AreBookedLanes : Stepped (Lanes (LaneState EndState)) → Type 0
AreBookedLanes done = IsBookedOutcome done.state.incoming.lane.accepted done.outcome

lanes_booked : (era : Era) (lanes : Lanes (LaneState EndState)) (caller follows : ℕ) (wished : Option Wish) → IsSilent lanes.outgoing.sender → IsSteady lanes.incoming.lane.accepted lanes.incoming.receiver
    → AreBookedLanes (lanes_step (list_form side_meaning) side_meaning era lanes caller follows wished)
lanes_booked era lanes caller follows (Some (wish.Send message)) silent steady = begun_booked _ (holder lanes.outgoing.sender)
lanes_booked era lanes caller follows (Some wish.Take) silent steady = begun_booked _ (holder lanes.incoming.receiver)
lanes_booked era lanes caller follows (Some (wish.Give number)) silent steady = begun_booked _ (holder lanes.incoming.receiver)
lanes_booked era lanes caller follows (Some (wish.Bind address)) silent steady = begun_booked _ (holder lanes.incoming.receiver)
lanes_booked era lanes caller follows (Some (wish.Unbind address)) silent steady = begun_booked _ (holder lanes.incoming.receiver)
lanes_booked era lanes caller follows None silent steady =
    cond_both (has_call lanes.outgoing.sender caller) (send_later (list_form side_meaning) era lanes) (receive_later (list_form side_meaning) side_meaning era lanes) AreBookedLanes
    (λ _. sender_booked lanes.incoming.lane.accepted era lanes.outgoing silent)
    (λ _. receiver_booked era lanes.incoming steady)

-- ---- links

-- what is yet to be told on a link is in its books, and no send of it is a take
record IsBooked (link : LinkState EndState) : Type 0 where
  pub sound : SoundLink link
  pub silent : AreSilent link
  pub to_host : IsSteady link.to_host.lane.accepted link.to_host.receiver
  pub to_remote : IsSteady link.to_remote.lane.accepted link.to_remote.receiver

plain_steady : (book : List BookEntry) (now : Turn Receiving) → IsPlain now → IsSteady book now
plain_steady book now plain = λ more. plain (book ++ more) ∙ sym (plain book)

steady_after : (live : Bool) (before after : LaneState EndState) (told : List Handing) → LaneTell live before after told → IsSteady before.lane.accepted before.receiver → IsSteady after.lane.accepted after.receiver
steady_after live before after told (Same more same book takers none) steady = λ other.
    ap (told_handing (after.lane.accepted ++ other)) same
    ∙ ap (λ (b : List BookEntry). told_handing (b ++ other) before.receiver) book
    ∙ ap (λ (b : List BookEntry). told_handing b before.receiver) (append_assoc before.lane.accepted more other)
    ∙ steady (more ++ other) ∙ sym (steady more)
    ∙ ap (λ (b : List BookEntry). told_handing b before.receiver) (sym book)
    ∙ ap (told_handing after.lane.accepted) (sym same)
steady_after live before after told (Plain was is takers none) steady = plain_steady after.lane.accepted after.receiver is
steady_after live before after told (Hands caller lives was is takers none) steady = is
steady_after live before after told (Tells is takers told_is) steady = plain_steady after.lane.accepted after.receiver is
steady_after live before after told (Ends shut is takers none) steady = plain_steady after.lane.accepted after.receiver is

move_booked : (link : LinkState EndState) (move : Move) → IsWholeMove move → MayMove link move → IsBooked link → IsBooked (link_after_move side_meaning link move)
move_booked link move whole may is =
    let tells = link_tells side_meaning link move whole is.sound is.silent may in
    record {
      sound = move_sound side_meaning link move is.sound may;
      silent = record { to_host = tells.to_host.silent is.silent.to_host; to_remote = tells.to_remote.silent is.silent.to_remote };
      to_host = steady_after _ link.to_host _ _ tells.to_host.tell is.to_host;
      to_remote = steady_after _ link.to_remote _ _ tells.to_remote.tell is.to_remote;
    }

moves_booked : (link : LinkState EndState) (moves : List Move) → AreWholeMoves moves → MayMoves side_meaning link moves → IsBooked link → IsBooked (link_after_moves side_meaning link moves)
moves_booked link [] whole may is = is
moves_booked link (move ∷ moves) whole may is = moves_booked (link_after_move side_meaning link move) moves whole.1 may.1 (move_booked link move whole.0 may.0 is)

empty_steady : (state : LaneState EndState) → IsEmptyLane state → IsSteady state.lane.accepted state.receiver
empty_steady state empty = plain_steady state.lane.accepted state.receiver (λ book. ap (told_handing book) empty.receiver)

opened_booked : (link : LinkState EndState) → IsOpened side_meaning link → IsBooked link
opened_booked link opened = record {
  sound = opened.new.sound;
  silent = record { to_host = subst IsSilent (sym opened.to_host.sender) tt; to_remote = subst IsSilent (sym opened.to_remote.sender) tt };
  to_host = empty_steady link.to_host opened.to_host;
  to_remote = empty_steady link.to_remote opened.to_remote;
}

booked_on_way : (link : LinkState EndState) → ComesFromOpening link → IsBooked link
booked_on_way link comes = subst IsBooked comes.leads (moves_booked comes.way.start comes.way.moves comes.is_way.whole comes.is_way.may (opened_booked comes.way.start comes.is_way.opened))

-- ---- a step of a caller

-- a caller that took the message of this number is told of one handing at its end, by the link that its call left
pub record IsOneTake (link : LinkState EndState) (caller number : ℕ) (judged : Verdict) : Type 0 where
  pub end : End
  pub handing : Handing
  pub is_at : end_of link.callers caller ≡ Some end
  pub told : reach_takes link caller (reach.Ended (ended.Took number judged)) end ≡ handing ∷ []
  pub none_else : (other : End) → other ≢ end → reach_takes link caller (reach.Ended (ended.Took number judged)) other ≡ []

-- so it is, where the call took a message
abbrev pub TakesOne : LinkState EndState → ℕ → CallEnd → Type 0
TakesOne link caller (ended.Took number judged) = IsOneTake link caller number judged
TakesOne link caller other = Unit {0}

abbrev pub ReachTakesOne : LinkState EndState → ℕ → Reach → Type 0
ReachTakesOne link caller (reach.At step) = Unit {0}
ReachTakesOne link caller (reach.Ended came) = TakesOne link caller came
ReachTakesOne link caller reach.Limit = Unit {0}

abbrev OutcomeTakesOne : LinkState EndState → ℕ → Outcome → Type 0
OutcomeTakesOne link caller (outcome.At step) = Unit {0}
OutcomeTakesOne link caller (outcome.Ended came) = TakesOne link caller came

abbrev StepTakesOne : ℕ → Stepped (LinkState EndState) → Type 0
StepTakesOne caller done = OutcomeTakesOne done.state caller done.outcome

told_at : (end : End) (done : Stepped (LinkState EndState)) → step_takes (Some end) end done ≡ outcome_handing (lane_to done.state end).lane.accepted done.outcome
told_at side.Host done = refl
told_at side.Remote done = refl

none_at : (end other : End) (done : Stepped (LinkState EndState)) → other ≢ end → step_takes (Some end) other done ≡ []
none_at side.Host side.Host done differ = absurd (differ refl)
none_at side.Host side.Remote done differ = refl
none_at side.Remote side.Host done differ = refl
none_at side.Remote side.Remote done differ = absurd (differ refl)

ends_once : (link : LinkState EndState) (caller : ℕ) (end : End) (came : CallEnd) → end_of link.callers caller ≡ Some end → IsBookedEnd (lane_to link end).lane.accepted came → TakesOne link caller came
ends_once link caller end (ended.Took number judged) found booked =
    let done : Stepped (LinkState EndState) = record { state = link; outcome = outcome.Ended (ended.Took number judged) } in
    record {
      end = end;
      handing = booked.handing;
      is_at = found;
      told = ap (λ (at : Option End). step_takes at end done) found ∙ told_at end done ∙ booked.is;
      none_else = λ other differ. ap (λ (at : Option End). step_takes at other done) found ∙ none_at end other done differ;
    }
ends_once link caller end other found booked = tt

outcome_once : (link : LinkState EndState) (caller : ℕ) (end : End) (done : Outcome) → end_of link.callers caller ≡ Some end → IsBookedOutcome (lane_to link end).lane.accepted done → OutcomeTakesOne link caller done
outcome_once link caller end (outcome.At step) found booked = tt
outcome_once link caller end (outcome.Ended came) found booked = ends_once link caller end came found booked

step_once : (link : LinkState EndState) (caller follows : ℕ) (wished : Option Wish) → IsBooked link → StepTakesOne caller (caller_step side_meaning link caller follows wished)
step_once link caller follows wished is = by (end_of link.callers caller) refl
  where
    by : (found : Option End) → end_of link.callers caller ≡ found → StepTakesOne caller (on_lanes link found (λ lanes. lanes_step (list_form side_meaning) side_meaning link.era lanes caller follows wished))
    by None none = tt
    by (Some side.Host) found = outcome_once _ caller side.Host _ found (lanes_booked link.era (lanes_of link side.Host) caller follows wished is.silent.to_remote is.to_host)
    by (Some side.Remote) found = outcome_once _ caller side.Remote _ found (lanes_booked link.era (lanes_of link side.Remote) caller follows wished is.silent.to_host is.to_remote)

-- ---- calls

abbrev WalkTakesOne : ℕ → Walk (RingState EndState) → Type 0
WalkTakesOne caller walk = ReachTakesOne (lists_of walk.link) caller walk.reach

module _ (rings : LinkRings) (steps caller follows : ℕ) (wished : Option Wish) (is : IsBooked (lists_of rings)) (may : MayStep (lists_of rings) caller wished) where
  abbrev stepped : Stepped LinkRings
  stepped = step_on on_rings rings caller follows wished

  same_after : lists_of stepped.state ≡ (caller_step side_meaning (lists_of rings) caller follows wished).state
  same_after = step_agrees on_rings side_meaning is_rings rings caller follows wished

  booked_after : IsBooked (lists_of stepped.state)
  booked_after = subst IsBooked (sym same_after) (move_booked (lists_of rings) (Step caller follows wished) tt may is)

  once_after : OutcomeTakesOne (lists_of stepped.state) caller stepped.outcome
  once_after = subst (λ (link : LinkState EndState). OutcomeTakesOne link caller stepped.outcome) (sym same_after) (step_once (lists_of rings) caller follows wished is)

  module _ (later : ℕ → Walk (RingState EndState)) (rest : (step : ℕ) → IsBooked (lists_of stepped.state) → MayStep (lists_of stepped.state) caller None → WalkTakesOne caller (later step)) where
    at : (done : Outcome) → done ≡ stepped.outcome → WalkTakesOne caller (walk_on stepped.state (steps + 1) done later)
    at (outcome.At step) does = rest step booked_after (goes_on_at (lists_of rings) (lists_of stepped.state) caller follows wished may same_after step does)
    at (outcome.Ended came) does = subst (OutcomeTakesOne (lists_of stepped.state) caller) (sym does) once_after

    walk_once : WalkTakesOne caller (walk_on stepped.state (steps + 1) stepped.outcome later)
    walk_once = at stepped.outcome refl

later_once : (more last steps : ℕ) (rings : LinkRings) (caller : ℕ) → IsBooked (lists_of rings) → MayStep (lists_of rings) caller None → WalkTakesOne caller (later_steps on_rings more last steps rings caller)
unfolding later_steps
later_once zero last steps rings caller is may = tt
later_once (suc more) last steps rings caller is may =
    let after = (step_on on_rings rings caller 0 None).state in
    cond_both (steps == STEPS_MOST) (record { link = rings; steps = steps; reach = reach.Limit }) _ (WalkTakesOne caller) (λ _. tt)
    (λ _. walk_once rings steps caller 0 None is may (λ done. later_steps on_rings more done (steps + 1) after caller) (λ done now next. later_once more done (steps + 1) after caller now next))

call_once : (more steps : ℕ) (rings : LinkRings) (caller follows : ℕ) (wanted : Wish) → IsBooked (lists_of rings) → MayStep (lists_of rings) caller (Some wanted) → WalkTakesOne caller (call_steps on_rings more steps rings caller follows wanted)
unfolding call_steps
call_once more steps rings caller follows wanted is may =
    let after = (step_on on_rings rings caller follows (Some wanted)).state in
    cond_both (steps == STEPS_MOST) (record { link = rings; steps = steps; reach = reach.Limit }) _ (WalkTakesOne caller) (λ _. tt)
    (λ _. walk_once rings steps caller follows (Some wanted) is may (λ done. later_steps on_rings more done (steps + 1) after caller) (λ done now next. later_once more done (steps + 1) after caller now next))

module _ (bench : BenchState) (comes : ComesFromOpening (link_in bench)) (more steps caller : ℕ) where
  abbrev BenchTakesOne : BenchWalk → Type 0
  BenchTakesOne walk = ReachTakesOne (link_in walk.bench) caller walk.reach

  -- a call of a caller that is in none
  pub begin_once : (wanted : Wish) → MayStep (link_in bench) caller (Some wanted) → BenchTakesOne (begin_walk bench more steps caller wanted)
  begin_once wanted may = call_once more steps bench.rings caller (link_in bench).era.inc wanted (booked_on_way (link_in bench) comes) may

  -- steps of the call that a caller is in
  pub advance_once : (found : Option BegunCall) → MayGo bench caller found → BenchTakesOne (advance_steps bench more steps caller found)
  advance_once (Some call) may =
      cond_both (steps == STEPS_MOST) (record { bench = bench; steps = steps; reach = reach.Limit }) (bench_walk (with_begun_call bench caller None) (call_steps on_rings more steps bench.rings caller call.follows call.wish)) BenchTakesOne (λ _. tt)
      (λ _. call_once more steps bench.rings caller call.follows call.wish (booked_on_way (link_in bench) comes) may)
  advance_once None may = later_once (more + 1) 0 steps bench.rings caller (booked_on_way (link_in bench) comes) may
