-- A call taken step by step: where its seat is in each phase, which steps it has done, and what one step makes of it (own).
use Rattle.std.specs.Prelude.{◌≡◌, ◌+◌, ◌≤◌, ℕ, List, [], ◌∷◌, length, Option, Some, None, Result, Ok, Err}
use base.Stored.{Coded}
use Rattle.rp_base.specs.declared.kinds.Endpoint.{Endpoint}
use Rattle.rp_base.specs.declared.limits.TheConstants.{MESSAGE_MOST}
use Rattle.lane_model.specs.declared.calls.Answer.{Answer}
use Rattle.lane_model.specs.declared.calls.Answer.TheVariants as answer
use Rattle.lane_model.specs.declared.calls.Ask.{Ask}
use Rattle.lane_model.specs.declared.calls.Ask.TheVariants as ask
use Rattle.lane_model.specs.declared.calls.CallEnd.{CallEnd}
use Rattle.lane_model.specs.declared.calls.CallEnd.TheVariants as end
use Rattle.lane_model.specs.declared.calls.Progress.{Progress}
use Rattle.lane_model.specs.declared.calls.Progress.TheVariants as progress
use Rattle.lane_model.specs.declared.calls.Wish.{Wish}
use Rattle.lane_model.specs.declared.calls.Wish.TheVariants as wish
use Rattle.lane_model.specs.declared.recoveries.LaneTurn.TheVariants as lane_turn
use Rattle.lane_model.specs.declared.stages.GiveStage.{GiveStage}
use Rattle.lane_model.specs.declared.stages.GiveStage.TheVariants as give_stage
use Rattle.lane_model.specs.declared.stages.SendStage.{SendStage}
use Rattle.lane_model.specs.declared.stages.SendStage.TheVariants as stage
use Rattle.lane_model.specs.declared.stages.TakeStage.{TakeStage}
use Rattle.lane_model.specs.declared.stages.TakeStage.TheVariants as take_stage
use Rattle.lane_model.specs.declared.stages.Work.TheVariants as work
use Rattle.lane_model.specs.Answers.{wish_of}
use Rattle.lane_model.specs.Desks.{DeskMeaning}
use Rattle.lane_model.specs.HeldBuffers.{HeldBuffer}
use Rattle.link_words.specs.declared.rule.Call.TheVariants.{Rests}
use Rattle.link_words.specs.declared.rule.Event.{Event}
use Rattle.link_words.specs.declared.rule.Event.TheVariants.{Step, Count, Publish, Take}
use Rattle.link_words.specs.declared.rule.LinkSizes.{LinkSizes}
use Rattle.link_words.specs.declared.rule.Made.TheVariants as made
use Rattle.link_words.specs.declared.rule.Slot.{Slot}
use Rattle.link_words.specs.declared.rule.Slot.TheVariants.{Buffer}
use Rattle.link_words.specs.Calls.{SeatState}
use Rattle.link_words.specs.Deeds.{Deed, Steps}
use Rattle.link_words.specs.Histories.{latest}
use Rattle.link_words.specs.Steps.{hands_but}
use Rattle.link_words.specs.Words.{other}
use Rattle.split_ring.specs.Binds.{desk_work, IsOfDesk, IsDeskWalk}
use Rattle.split_ring.specs.Receives.{IsTakeAt, HasBufferOut, message_look, IsTakeWalk, IsHeldBy, IsGiveAt, IsGiveWalk}
use Rattle.split_ring.specs.Seats.{IsAt, pass_in}
use Rattle.split_ring.specs.Sends.{live_era, room_look, IsSendAt, IsFilledAt, IsSendWalk}
use Rattle.split_ring.specs.Turns.{HasReceiver, IsLeaving}
use Rattle.split_ring.specs.Walks.{HasDone, same_hands, one_more}
use Rattle.split_ring.specs.declared.binds.DeskAsk.{DeskAsk}
use Rattle.split_ring.specs.declared.binds.DeskAsk.TheVariants as asks
use Rattle.split_ring.specs.declared.binds.DeskFault.{DeskFault}
use Rattle.split_ring.specs.declared.binds.DeskFault.TheVariants as desk_fault
use Rattle.split_ring.specs.declared.callers.CallerId.{CallerId}
use Rattle.split_ring.specs.CallPhases.{Phase}
use Rattle.split_ring.specs.CallPhases as phase
use Rattle.split_ring.specs.declared.gives.GiveBusy.{GiveBusy}
use Rattle.split_ring.specs.declared.sends.SendCall.{SendCall}
use Rattle.split_ring.specs.declared.sends.SendFault.{SendFault}
use Rattle.split_ring.specs.declared.sends.SendFault.TheVariants as fault
use Rattle.split_ring.specs.declared.takes.Taken.{Taken}
use Rattle.split_ring.specs.declared.takes.TakeCall.{TakeCall}
use Rattle.split_ring.specs.declared.takes.TakeFault.{TakeFault}
use Rattle.split_ring.specs.declared.takes.TakeFault.TheVariants as take_fault

-- what a call says, by what a send, a take, a give, a binding or an unbinding answers
abbrev pub send_answer : Result ℕ SendFault → Answer
send_answer (Ok number) = answer.Sent number
send_answer (Err (fault.Busy holder)) = answer.Busy holder
send_answer (Err (fault.Dead era)) = answer.Dead era
send_answer (Err (fault.NoBuffer accepted returned)) = answer.NoBuffer accepted returned
send_answer (Err (fault.BookFull accepted)) = answer.BookFull accepted

abbrev pub take_answer : Result Taken TakeFault → Answer
take_answer (Ok taken) = answer.Took taken.held taken.verdict
take_answer (Err (take_fault.Busy holder)) = answer.Busy holder
take_answer (Err (take_fault.Dead era)) = answer.Dead era
take_answer (Err (take_fault.Empty accepted)) = answer.Empty accepted

abbrev pub give_answer : Result ℕ GiveBusy → Answer
give_answer (Ok number) = answer.Gave number
give_answer (Err busy) = answer.GiveBusy busy.holder busy.held

abbrev pub endpoint_answer : DeskAsk → Endpoint → Answer
endpoint_answer (asks.Bind address) endpoint = answer.Bound endpoint
endpoint_answer (asks.Unbind address) endpoint = answer.Unbound endpoint

abbrev pub desk_said : DeskAsk → Result Endpoint DeskFault → Answer
desk_said asked (Ok endpoint) = endpoint_answer asked endpoint
desk_said asked (Err (desk_fault.Busy holder)) = answer.Busy holder
desk_said asked (Err (desk_fault.Dead era)) = answer.Dead era
desk_said asked (Err (desk_fault.Bind fault)) = answer.Refused fault

-- the end of a call with this answer
abbrev pub call_end : Answer → CallEnd
call_end (answer.Sent number) = end.Sent number
call_end (answer.Took held verdict) = end.Took held.number verdict
call_end (answer.Gave number) = end.Gave number
call_end (answer.Bound endpoint) = end.Bound endpoint
call_end (answer.Unbound endpoint) = end.Unbound endpoint
call_end (answer.Busy holder) = end.Busy holder
call_end (answer.GiveBusy holder held) = end.Busy holder
call_end (answer.Dead era) = end.Dead era
call_end (answer.NoBuffer accepted returned) = end.NoBuffer accepted returned
call_end (answer.BookFull accepted) = end.BookFull accepted
call_end (answer.Empty accepted) = end.Empty accepted
call_end (answer.Refused fault) = end.Refused fault

-- what a caller asks that asks this of the desk
abbrev pub ask_of : DeskAsk → Ask
ask_of (asks.Bind address) = ask.Bind address
ask_of (asks.Unbind address) = ask.Unbind address

-- what is in hand after a call with this answer
abbrev pub hands_with : Answer → List ℕ → List ℕ
hands_with (answer.Took held verdict) = one_more held.number
hands_with (answer.Gave number) = λ hands. hands_but hands number
hands_with said = same_hands

-- where the seat of a send is that has done the step of this stage last
abbrev pub SendStands : LinkSizes → SendCall → SendStage → SeatState → Type 0
SendStands z c stage.Turn me = IsSendAt c stage.Turn me
SendStands z c stage.Era me = IsSendAt c stage.Era me
SendStands z c stage.Look me = IsSendAt c stage.Look me
SendStands z c stage.Buffer me = (y : Slot) × IsFilledAt z c stage.Buffer y me
SendStands z c stage.Entry me = IsFilledAt z c stage.Entry (Buffer c.message.value) me

-- of a take, and of a give, whose buffer is still in the caller's hands
abbrev pub TakeStands : LinkSizes → TakeCall → ℕ → TakeStage → SeatState → Type 0
TakeStands z c buffer take_stage.Turn me = IsTakeAt c (work.Take take_stage.Turn) me
TakeStands z c buffer take_stage.Era me = IsTakeAt c (work.Take take_stage.Era) me
TakeStands z c buffer take_stage.Look me = IsTakeAt c (work.Take take_stage.Look) me
TakeStands z c buffer take_stage.Buffer me = (message : List ℕ) × HasBufferOut z c (work.Take take_stage.Buffer) buffer message me

abbrev pub GiveStands : CallerId → HeldBuffer → ℕ → GiveStage → SeatState → Type 0
GiveStands who held returned give_stage.Turn me = HasReceiver who (work.Give held.number give_stage.Turn) me × IsHeldBy who held me
GiveStands who held returned give_stage.Entry me = IsGiveAt who returned (work.Give held.number give_stage.Entry) me × IsHeldBy who held me

-- a message that is to be sent fits a buffer
abbrev pub IsShort : Wish → Type 0
IsShort (wish.Send message) = length message ≤ MESSAGE_MOST
IsShort wish.Take = Unit {0}
IsShort (wish.Give number) = Unit {0}
IsShort (wish.Bind address) = Unit {0}
IsShort (wish.Unbind address) = Unit {0}

-- a buffer that is to be given back is in the caller's hands
abbrev pub IsOwnAsk : CallerId → Ask → SeatState → Type 0
IsOwnAsk who (ask.Send message) me = Unit {0}
IsOwnAsk who ask.Take me = Unit {0}
IsOwnAsk who (ask.Give held) me = IsHeldBy who held me
IsOwnAsk who (ask.Bind address) me = Unit {0}
IsOwnAsk who (ask.Unbind address) me = Unit {0}

-- where a caller's seat is in a call in this phase
abbrev pub IsInPhase : LinkSizes → CallerId → Phase → SeatState → Type 0
IsInPhase z who (phase.Asked asked) me = IsAt me (Rests who.end) [] × IsOwnAsk who asked me
IsInPhase z who (phase.Sends stage c message) me = SendStands z c stage me × (c.who ≡ who) × (c.message.value ≡ message)
IsInPhase z who (phase.Takes stage c buffer) me = TakeStands z c buffer stage me × (c.who ≡ who)
IsInPhase z who (phase.Gives stage held returned) me = GiveStands who held returned stage me
IsInPhase z who (phase.Asks asked) me = HasReceiver who (desk_work asked) me
IsInPhase z who (phase.LeavesSender answer) me = IsLeaving lane_turn.Sender (other who.end) (call_end answer) me
IsInPhase z who (phase.LeavesReceiver answer) me = IsLeaving lane_turn.Receiver who.end (call_end answer) me
IsInPhase z who phase.Ended me = ⊥

-- where it is after a step that says this
abbrev pub StandsAt : LinkSizes → CallerId → Progress → Phase → SeatState → Type 0
StandsAt z who (progress.At number) phase me = IsInPhase z who phase me
StandsAt z who (progress.Done said) phase me = IsAt me (Rests who.end) []

-- what a call asks, until its first step
abbrev pub asked_in : Phase → Option Ask
asked_in (phase.Asked asked) = Some asked
asked_in other = None

-- the deed that the next step of a call in this phase is
abbrev pub deed_of : CallerId → Phase → Deed
deed_of who (phase.Asked asked) = Steps who.number who.follows (Some (wish_of asked))
deed_of who other = Steps who.number 0 None

-- the steps that a send has done when that of this stage is the last, the newest first
abbrev pub IsSendPath : SendCall → SendStage → List Event → Type 0
IsSendPath c stage.Turn steps = steps ≡ Step (made.Turn 0) ∷ []
IsSendPath c stage.Era steps = steps ≡ Step (made.Era (live_era c.who.follows)) ∷ Step (made.Turn 0) ∷ []
IsSendPath c stage.Look steps = (returned : ℕ) × (steps ≡ room_look c.who c.accepted returned ∷ Step (made.Era (live_era c.who.follows)) ∷ Step (made.Turn 0) ∷ [])
IsSendPath c stage.Buffer steps = (returned : ℕ) × (steps ≡ Step (made.Buffer c.buffer) ∷ room_look c.who c.accepted returned ∷ Step (made.Era (live_era c.who.follows)) ∷ Step (made.Turn 0) ∷ [])
IsSendPath c stage.Entry steps = (returned : ℕ) × (steps ≡ Step made.Entry ∷ Step (made.Buffer c.buffer) ∷ room_look c.who c.accepted returned ∷ Step (made.Era (live_era c.who.follows)) ∷ Step (made.Turn 0) ∷ [])

-- a take, and a give
abbrev pub IsTakePath : TakeCall → ℕ → TakeStage → List Event → Type 0
IsTakePath c buffer take_stage.Turn steps = steps ≡ Step (made.Turn 0) ∷ []
IsTakePath c buffer take_stage.Era steps = steps ≡ Step (made.Era (live_era c.who.follows)) ∷ Step (made.Turn 0) ∷ []
IsTakePath c buffer take_stage.Look steps = (accepted : ℕ) × (steps ≡ message_look c.who c.handed accepted ∷ Step (made.Era (live_era c.who.follows)) ∷ Step (made.Turn 0) ∷ [])
IsTakePath c buffer take_stage.Buffer steps = (accepted : ℕ) × (steps ≡ Step (made.Buffer buffer) ∷ message_look c.who c.handed accepted ∷ Step (made.Era (live_era c.who.follows)) ∷ Step (made.Turn 0) ∷ [])

abbrev pub IsGivePath : GiveStage → List Event → Type 0
IsGivePath give_stage.Turn steps = steps ≡ Step (made.Turn 0) ∷ []
IsGivePath give_stage.Entry steps = steps ≡ Step made.Entry ∷ Step (made.Turn 0) ∷ []

-- how many steps these entries are of: a handing has one for the message beside that of the era
abbrev pub count_steps : List Event → ℕ
count_steps [] = 0
count_steps (Step made ∷ es) = count_steps es + 1
count_steps (Count lane inc counts ∷ es) = count_steps es + 1
count_steps (Publish lane inc number message ∷ es) = count_steps es + 1
count_steps (Take lane inc number message ∷ es) = count_steps es

-- what is in hand after the steps of a call in this phase
abbrev pub hands_in : Phase → List ℕ → List ℕ
hands_in (phase.LeavesSender answer) = hands_with answer
hands_in (phase.LeavesReceiver answer) = hands_with answer
hands_in said = same_hands

module _ {D : Type 0} (coded : Coded D) (meaning : DeskMeaning D) (z : LinkSizes) (who : CallerId) where
  -- the entries are the whole walk of a call that asked this, with this answer: a give is in the incarnation of the latest step before the call,
  -- and a desk's answer is that of the desk that goes with the turn, with these entries after it
  abbrev pub IsWalkFor : Ask → Answer → List Event → List Event → SeatState → SeatState → Type 0
  IsWalkFor (ask.Send message) said walk later me me' = (r : Result ℕ SendFault) × (said ≡ send_answer r) × IsSendWalk z who message r walk
  IsWalkFor ask.Take said walk later me me' = (r : Result Taken TakeFault) × (said ≡ take_answer r) × IsTakeWalk meaning who r walk
  IsWalkFor (ask.Give held) said walk later me me' = (r : Result ℕ GiveBusy) × (said ≡ give_answer r) × IsGiveWalk who.end (latest (pass_in me).own) held r walk
  IsWalkFor (ask.Bind address) said walk later me me' = (r : Result Endpoint DeskFault) × (said ≡ desk_said (asks.Bind address) r) × IsDeskWalk who r walk × IsOfDesk coded meaning z.desks who (asks.Bind address) r later me me'
  IsWalkFor (ask.Unbind address) said walk later me me' = (r : Result Endpoint DeskFault) × (said ≡ desk_said (asks.Unbind address) r) × IsDeskWalk who r walk × IsOfDesk coded meaning z.desks who (asks.Unbind address) r later me me'

  -- the entries are those of a call that asked this, up to this phase; where the end is settled, the leave makes them the whole walk
  abbrev pub IsPath : Ask → Phase → List Event → SeatState → SeatState → Type 0
  IsPath asked (phase.Asked a) steps me me' = (a ≡ asked) × (steps ≡ [])
  IsPath asked (phase.Sends stage c message) steps me me' = (asked ≡ ask.Send c.message.value) × IsSendPath c stage steps
  IsPath asked (phase.Takes stage c buffer) steps me me' = (asked ≡ ask.Take) × IsTakePath c buffer stage steps
  IsPath asked (phase.Gives stage held returned) steps me me' = (asked ≡ ask.Give held) × IsGivePath stage steps
  IsPath asked (phase.Asks a) steps me me' = (asked ≡ ask_of a) × (steps ≡ Step (made.Turn 0) ∷ [])
  IsPath asked (phase.LeavesSender answer) steps me me' = IsWalkFor asked answer (Step made.Left ∷ steps) [] me me'
  IsPath asked (phase.LeavesReceiver answer) steps me me' = IsWalkFor asked answer (Step made.Left ∷ steps) [] me me'
  IsPath asked phase.Ended steps me me' = ⊥

  -- a call that asked this has brought its seat from this state to that one, and is in this phase
  pub record HasCome (asked : Ask) (start : SeatState) (phase : Phase) (me : SeatState) : Type 0 where
    pub steps : List Event
    pub path : IsPath asked phase steps start me
    pub done : HasDone coded meaning steps (hands_in phase) start me

  -- a call that asked this has ended with this answer, and did a whole walk
  pub record HasAnswered (asked : Ask) (said : Answer) (start me : SeatState) : Type 0 where
    pub walk : List Event
    pub is : IsWalkFor asked said walk (Step made.Left ∷ []) start me
    pub done : HasDone coded meaning walk (hands_with said) start me

  -- a call that asked this has come to what a step says: the step of this number, or its end
  abbrev pub ComesTo : Ask → SeatState → Progress → Phase → SeatState → Type 0
  ComesTo asked start (progress.At number) phase me = (come : HasCome asked start phase me) × (number ≡ count_steps come.steps)
  ComesTo asked start (progress.Done said) phase me = HasAnswered asked said start me

  -- one step of a call: its seat made one step, and whatever the call asked and wherever it began, it has come by that one step further on its walk
  pub record Advances (before : Phase) (said : Progress) (after : Phase) (me me' : SeatState) : Type 0 where
    pub events : List Event
    pub hands : List ℕ → List ℕ
    pub one : count_steps events ≡ 1
    pub done : HasDone coded meaning events hands me me'
    pub stands : StandsAt z who said after me'
    pub comes : (asked : Ask) (start : SeatState) → HasCome asked start before me → ComesTo asked start said after me'
