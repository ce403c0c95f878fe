-- What a form of a lane does: its steps on all that it keeps, and the lane that it stands for (own).
use Rattle.std.specs.Prelude.{◌≡◌, ℕ, List}
use Rattle.rp_base.specs.declared.kinds.Era.{Era}
use Rattle.lane_model.specs.declared.states.LaneState.{LaneState}
use Rattle.lane_model.specs.declared.stages.Work.{Work}
use Rattle.lane_model.specs.Desks.{DeskMeaning}
use Rattle.lane_model.specs.Sends.{after_send_start, sender_step}
use Rattle.lane_model.specs.Receives.{after_receive_start, receiver_step}
use Rattle.lane_model.specs.Crashes.{after_send_end, after_receive_end, reopened_lane}

-- the lane that a form stands for, and what each step of a call and each part of a crash leaves of the form
pub record FormMeaning (L D : Type 0) : Type 0 where
  pub state : L → LaneState D
  -- step 1 of a send: the caller, the incarnation that it follows, the message
  pub after_send_start : L → ℕ → ℕ → List ℕ → L
  -- step 1 of the other calls
  pub after_receive_start : L → ℕ → ℕ → Work → L
  -- a later step of the call that has the sender's turn, in an era
  pub sent_on : L → Era → L
  -- a later step of the call that has the receiver's turn
  pub received_on : L → Era → L
  -- the sender's turn without this caller
  pub after_send_end : L → ℕ → L
  -- the receiver's turn and the holdings without this caller
  pub after_receive_end : L → ℕ → L
  -- a new incarnation
  pub link_after_reopen : L → L

-- each step of a form is the lane's
pub record IsForm {L D : Type 0} (form : FormMeaning L D) (desk : DeskMeaning D) : Type 0 where
  pub after_send_start : (lane : L) (caller follows : ℕ) (message : List ℕ)
      → form.state (form.after_send_start lane caller follows message) ≡ after_send_start (form.state lane) caller follows message
  pub after_receive_start : (lane : L) (caller follows : ℕ) (first : Work)
      → form.state (form.after_receive_start lane caller follows first) ≡ after_receive_start (form.state lane) caller follows first
  pub sent_on : (lane : L) (era : Era) → form.state (form.sent_on lane era) ≡ (sender_step era (form.state lane)).state
  pub received_on : (lane : L) (era : Era) → form.state (form.received_on lane era) ≡ (receiver_step desk era (form.state lane)).state
  pub after_send_end : (lane : L) (caller : ℕ) → form.state (form.after_send_end lane caller) ≡ after_send_end (form.state lane) caller
  pub after_receive_end : (lane : L) (caller : ℕ) → form.state (form.after_receive_end lane caller) ≡ after_receive_end (form.state lane) caller
  pub link_after_reopen : (lane : L) → form.state (form.link_after_reopen lane) ≡ reopened_lane desk (form.state lane)

-- the form that keeps the lane and nothing else
abbrev pub list_form : {D : Type 0} → DeskMeaning D → FormMeaning (LaneState D) D
list_form desk = record {
  state = λ lane. lane;
  after_send_start = after_send_start;
  after_receive_start = after_receive_start;
  sent_on = λ lane era. (sender_step era lane).state;
  received_on = λ lane era. (receiver_step desk era lane).state;
  after_send_end = after_send_end;
  after_receive_end = after_receive_end;
  link_after_reopen = reopened_lane desk;
}
