-- Whole calls that meet no other: each step goes on, up to the one that leaves the turn (own).
use Rattle.std.specs.Prelude.{◌≡◌, ℕ, zero, suc, ◌+◌, ◌==◌, false, List, length, Option, None}
use Rattle.rp_base.specs.declared.kinds.Era.{Era}
use Rattle.lane_model.specs.declared.states.LaneState.{LaneState}
use Rattle.lane_model.specs.declared.lane_links.LaneLink.{LaneLink}
use Rattle.lane_model.specs.declared.stages.Work.TheVariants as work
use Rattle.lane_model.specs.declared.stages.TakeStage.TheVariants as take_stage
use Rattle.lane_model.specs.declared.stages.GiveStage.TheVariants as give_stage
use Rattle.lane_model.specs.declared.calls.Wish.{Wish}
use Rattle.lane_model.specs.declared.calls.Wish.TheVariants as wish
use Rattle.lane_model.specs.declared.calls.CallEnd.{CallEnd}
use Rattle.lane_model.specs.declared.calls.CallEnd.TheVariants as call_end
use Rattle.lane_model.specs.declared.calls.Outcome.TheVariants as outcome
use Rattle.lane_model.specs.Desks.{DeskMeaning}
use Rattle.lane_model.specs.Lanes.{holder, message_at}
use Rattle.lane_model.specs.Forms.{FormMeaning, list_form}
use Rattle.lane_model.specs.Links.{LinkState, form_step}

-- the lane after the seven steps of a send in this era
abbrev pub after_send : {L D : Type 0} → FormMeaning L D → L → Era → ℕ → List ℕ → L
after_send {L} form lane era caller message =
    let on : L → L = λ l. form.sent_on l era in
    on (on (on (on (on (on (form.after_send_start lane caller era.inc message))))))

-- the lane after the six steps of a take in this era
abbrev pub after_take : {L D : Type 0} → FormMeaning L D → L → Era → ℕ → L
after_take {L} form lane era caller =
    let on : L → L = λ l. form.received_on l era in
    on (on (on (on (on (form.after_receive_start lane caller era.inc (work.Take take_stage.Turn))))))

-- the lane after the four steps of a give in this era
abbrev pub after_give : {L D : Type 0} → FormMeaning L D → L → Era → ℕ → ℕ → L
after_give {L} form lane era caller number =
    let on : L → L = λ l. form.received_on l era in
    on (on (on (form.after_receive_start lane caller era.inc (work.Give number give_stage.Turn))))

-- a send in a live era is refused nowhere: the turn is free, there is room, and the book isn't full
pub record SendsAtOnce {D : Type 0} (state : LaneState D) : Type 0 where
  pub free : holder state.sender ≡ None
  pub room : (length state.lane.accepted == state.lane.returned + state.lane.capacity) ≡ false
  pub book : (length state.lane.accepted == state.lane.book) ≡ false

-- a take in a live era is refused nowhere: the turn is free, and there is a message
pub record TakesAtOnce {D : Type 0} (state : LaneState D) : Type 0 where
  pub free : holder state.receiver ≡ None
  pub some : (length state.lane.takers == length state.lane.accepted) ≡ false

-- how a take ends that is refused nowhere
abbrev pub took_next : {D : Type 0} → DeskMeaning D → LaneState D → CallEnd
took_next desk state =
    let number = length state.lane.takers in
    call_end.Took number (desk.verdict state.desk number (message_at state.lane.accepted number))

-- how many steps are after the first one of a call that is refused nowhere
abbrev pub steps_behind : Wish → ℕ
steps_behind (wish.Send message) = 6
steps_behind wish.Take = 5
steps_behind (wish.Give number) = 3
steps_behind (wish.Bind address) = 2
steps_behind (wish.Unbind address) = 2

-- a call ends, and leaves this link, with exactly so many steps after the next one, on a link with lanes of some form
unfoldable pub FormEndsIn : {L D : Type 0} → ℕ → FormMeaning L D → DeskMeaning D → LaneLink L → ℕ → ℕ → Option Wish → LaneLink L → CallEnd → Type 0
FormEndsIn zero form desk link caller follows wished left end =
    let step = form_step form desk link caller follows wished in
    (step.outcome ≡ outcome.Ended end) × (step.state ≡ left)
FormEndsIn (suc more) form desk link caller follows wished left end =
    let step = form_step form desk link caller follows wished in
    (number : ℕ) × (step.outcome ≡ outcome.At number) × FormEndsIn more form desk step.state caller 0 None left end

-- a call ends with exactly so many steps after the next one
abbrev pub EndsIn : {D : Type 0} → ℕ → DeskMeaning D → LinkState D → ℕ → ℕ → Option Wish → LinkState D → CallEnd → Type 0
EndsIn more desk link caller follows wished left end = FormEndsIn more (list_form desk) desk link caller follows wished left end
