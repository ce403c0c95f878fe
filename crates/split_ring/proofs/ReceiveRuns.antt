-- The steps of a take and of a give, put together as a run, by the state that their seat knows.
use Rattle.std.proofs.Common.{◌≡◌, ◌+◌, ℕ, suc, [], refl, sym, subst}
use Rattle.std.specs.Prelude.{Some, None}
use base.Stored.{Coded}
use Rattle.lane_model.specs.declared.calls.Answer.{Answer}
use Rattle.lane_model.specs.declared.calls.Progress.TheVariants as progress
use Rattle.lane_model.specs.declared.calls.Wish.{Wish}
use Rattle.lane_model.specs.declared.lane_links.LaneLink.{LaneLink}
use Rattle.lane_model.specs.declared.stages.GiveStage.{GiveStage}
use Rattle.lane_model.specs.declared.stages.TakeStage.{TakeStage}
use Rattle.lane_model.specs.declared.stages.TakeStage.TheVariants as take_stage
use Rattle.lane_model.specs.declared.stages.Work.TheVariants as work
use Rattle.lane_model.specs.Desks.{DeskMeaning}
use Rattle.lane_model.specs.HeldBuffers.{HeldBuffer}
use Rattle.ring_core.specs.declared.states.RingState.{RingState}
use Rattle.link_words.specs.declared.rule.Call.TheVariants.{Rests}
use Rattle.link_words.specs.declared.rule.LinkSizes.{LinkSizes}
use Rattle.link_words.specs.declared.rule.View.{View}
use Rattle.link_words.specs.Calls.{SeatState}
use Rattle.link_words.specs.Deeds.{Steps, after_deed}
use Rattle.link_words.specs.PlacedLinks.{KnowsState}
use Rattle.split_ring.specs.declared.callers.CallerId.{CallerId}
use Rattle.split_ring.specs.CallPhases.{Phase}
use Rattle.split_ring.specs.CallPhases as phase
use Rattle.split_ring.specs.declared.takes.TakeCall.{TakeCall}
use Rattle.split_ring.specs.Calls.{IsInPhase}
use Rattle.split_ring.specs.Focus.{StaysAlone, StepsAlone, seat_of}
use Rattle.split_ring.specs.Handed.{HandsBufferOf}
use Rattle.split_ring.specs.Phases.{IsNext, give_steps, take_steps}
use Rattle.split_ring.specs.Receives.{IsTakeAt}
use Rattle.split_ring.specs.Runs.{HasRun, RunsCall}
use Rattle.split_ring.specs.Seats.{IsAt}
use Rattle.split_ring.specs.Turns.{HasBegun}
use Rattle.split_ring.proofs.Outcomes.{give_on, take_on}
use Rattle.split_ring.proofs.Runs.{run_begins, run_on, whole_receiver}
use Rattle.split_ring.proofs.StepLanes.{give_lanes, take_lanes}

module _ {D : Type 0} (coded : Coded D) (meaning : DeskMeaning D) (z : LinkSizes) (m : LaneLink (RingState D)) where
  -- a take that has its turn, by its side state
  pub take_begins : (c : TakeCall) (a b : SeatState) → StaysAlone c.who.number a b → IsTakeAt c (work.Take take_stage.Turn) (seat_of c.who.number b) → KnowsState coded a.0 m → HasRun coded meaning c.who z 0 (phase.Takes take_stage.Turn c 0) m b
  take_begins c a b stays at known = run_begins coded meaning z c.who (phase.Takes take_stage.Turn c 0) m b (take_on take_stage.Turn).0 (at, refl) (subst (λ (v : View). KnowsState coded v m) (sym stays.view) known)

  -- a later step of a take, and of a give
  pub take_goes : (k : ℕ) (st : TakeStage) (c : TakeCall) (buffer : ℕ) (p : Phase) (a b : SeatState) → HasRun coded meaning c.who z k (phase.Takes st c buffer) m a → StepsAlone coded meaning c.who.number (Steps c.who.number 0 None) a b
      → IsNext c.who.end (phase.Takes st c buffer) (progress.At (take_steps st + 1)) p → IsInPhase z c.who p (seat_of c.who.number b) → HandsBufferOf z c buffer p (seat_of c.who.number a) → HasRun coded meaning c.who z (suc k) p m b
  take_goes k st c buffer p a b run alone next at hands = run_on coded meaning z c.who k (phase.Takes st c buffer) p m a b (take_on st).0 run alone at
      (λ left knows. take_lanes coded meaning z c.who a b left alone knows st c buffer (progress.At (take_steps st + 1)) p hands run.stands next at)

  pub give_goes : (k : ℕ) (st : GiveStage) (who : CallerId) (held : HeldBuffer) (returned : ℕ) (p : Phase) (a b : SeatState) → HasRun coded meaning who z k (phase.Gives st held returned) m a → StepsAlone coded meaning who.number (Steps who.number 0 None) a b
      → IsNext who.end (phase.Gives st held returned) (progress.At (give_steps st + 1)) p → IsInPhase z who p (seat_of who.number b) → HasRun coded meaning who z (suc k) p m b
  give_goes k st who held returned p a b run alone next at = run_on coded meaning z who k (phase.Gives st held returned) p m a b (give_on st).0 run alone at
      (λ left knows. give_lanes coded meaning z who a b left alone knows st held returned (progress.At (give_steps st + 1)) p run.stands next at)

  -- with its first and its last step
  pub receive_whole : (who : CallerId) (w v : Wish) (k : ℕ) (said : Answer) (a b d e : SeatState) → w ≡ v → StepsAlone coded meaning who.number (Steps who.number who.follows (Some w)) a b → IsAt (seat_of who.number a) (Rests who.end) [] → HasBegun who w (seat_of who.number b)
      → HasRun coded meaning who z k (phase.LeavesReceiver said) (after_deed meaning m (Steps who.number who.follows (Some w))) d → StepsAlone coded meaning who.number (Steps who.number 0 None) d e → KnowsState coded a.0 m → RunsCall coded meaning who m v (suc k) said e
  receive_whole who w v k said a b d e same first rests begun run last known = subst (λ (x : Wish). RunsCall coded meaning who m x (suc k) said e) same
      (whole_receiver coded meaning z who m w a b first known rests k said d e begun run last)
