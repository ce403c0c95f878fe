-- Calls that are tried again where another had the turn, by the entries of the caller's own list (own).
use Rattle.std.specs.Prelude.{◌≡◌, ◌+◌, ℕ, Bool, true, false, List, [], ◌∷◌, ◌++◌, Result, Ok, Err}
use base.Stored.{Coded}
use Rattle.lane_model.specs.Desks.{DeskMeaning}
use Rattle.link_words.specs.declared.rule.Event.{Event}
use Rattle.link_words.specs.declared.rule.Event.TheVariants.{Step}
use Rattle.link_words.specs.declared.rule.LinkSizes.{LinkSizes}
use Rattle.link_words.specs.declared.rule.Made.TheVariants as made
use Rattle.link_words.specs.Calls.{SeatState}
use Rattle.split_ring.specs.Receives.{IsTakeWalk, hands_after}
use Rattle.split_ring.specs.Sends.{IsSendWalk}
use Rattle.split_ring.specs.Walks.{HasDone, same_hands}
use Rattle.split_ring.specs.declared.callers.CallerId.{CallerId}
use Rattle.split_ring.specs.declared.sends.SendFault.{SendFault}
use Rattle.split_ring.specs.declared.sends.SendFault.TheVariants as fault
use Rattle.split_ring.specs.declared.takes.Taken.{Taken}
use Rattle.split_ring.specs.declared.takes.TakeFault.{TakeFault}
use Rattle.split_ring.specs.declared.takes.TakeFault.TheVariants as take_fault

-- tries that were each answered Busy: an entry is the whole walk of one, which found that the turn is another's
abbrev pub AreBusyTries : List Event → Type 0
AreBusyTries [] = Unit {0}
AreBusyTries (e ∷ es) = ((holder : ℕ) × (e ≡ Step (made.Turn (holder + 1)))) × AreBusyTries es

-- the answer is Busy
abbrev pub is_send_busy : Result ℕ SendFault → Bool
is_send_busy (Ok number) = false
is_send_busy (Err (fault.Busy holder)) = true
is_send_busy (Err (fault.Dead era)) = false
is_send_busy (Err (fault.NoBuffer accepted returned)) = false
is_send_busy (Err (fault.BookFull accepted)) = false

abbrev pub is_take_busy : Result Taken TakeFault → Bool
is_take_busy (Ok taken) = false
is_take_busy (Err (take_fault.Busy holder)) = true
is_take_busy (Err (take_fault.Dead era)) = false
is_take_busy (Err (take_fault.Empty accepted)) = false

module _ {D : Type 0} (coded : Coded D) (meaning : DeskMeaning D) where
  -- a send did whole walks, of which each but the last was answered Busy; the answer is that of the last, and another
  pub record IsWaitingSend (z : LinkSizes) (who : CallerId) (message : List ℕ) (answer : Result ℕ SendFault) (me me' : SeatState) : Type 0 where
    pub busy : List Event
    pub tries : AreBusyTries busy
    pub walk : List Event
    pub is : IsSendWalk z who message answer walk
    pub served : is_send_busy answer ≡ false
    pub done : HasDone coded meaning (walk ++ busy) same_hands me me'

  -- and a take
  pub record IsWaitingTake (who : CallerId) (answer : Result Taken TakeFault) (me me' : SeatState) : Type 0 where
    pub busy : List Event
    pub tries : AreBusyTries busy
    pub walk : List Event
    pub is : IsTakeWalk meaning who answer walk
    pub served : is_take_busy answer ≡ false
    pub done : HasDone coded meaning (walk ++ busy) (hands_after answer) me me'
