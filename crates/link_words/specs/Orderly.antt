-- The passes of a view in order: no two alike, and each as the state of the link has it that the view knows (own).
use Rattle.std.specs.Prelude.{◌≡◌, ◌≢◌, ℕ, Bool, true, false, [], Some}
use Rattle.lane_model.specs.declared.TheConstants.{MANAGER}
use mathlib.Core.Option.{some}
use lib.ListN.{get_elem?}
use Rattle.rp_base.specs.declared.kinds.End.{End}
use Rattle.lane_model.specs.Lanes.{has_call}
use Rattle.lane_model.specs.Links.{end_of}
use Rattle.link_words.specs.declared.copies.LinkCopy.{LinkCopy}
use Rattle.link_words.specs.declared.rule.Call.{Call}
use Rattle.link_words.specs.declared.rule.Call.TheVariants.{Idle, Rests, Sends, EndsSend, EndsBoth, Receives, EndsReceive, Reclaims, EndsHeld, Reopens, Gathers}
use Rattle.link_words.specs.declared.rule.Pass.{Pass}
use Rattle.link_words.specs.declared.rule.View.{View}
use Rattle.link_words.specs.Calls.{has_side}
use Rattle.link_words.specs.Histories.{HasHands, books_of}
use Rattle.link_words.specs.Passes.{Manages}
use Rattle.link_words.specs.Words.{lane_to, other}

-- whether a call has the sender's turn of the lane on which its caller sends, and the receiver's of the one from which it takes
abbrev pub has_send : Call → Bool
has_send Idle = false
has_send (Rests e) = false
has_send (Sends e t x b) = true
has_send (EndsSend e t x b) = true
has_send (EndsBoth e t x b y) = true
has_send (Receives e t x b message) = false
has_send (EndsReceive e t x b message) = false
has_send (Reclaims e x) = false
has_send (EndsHeld e x) = false
has_send (Reopens p inc a b) = false
has_send (Gathers a b) = false

abbrev pub has_receive : Call → Bool
has_receive Idle = false
has_receive (Rests e) = false
has_receive (Sends e t x b) = false
has_receive (EndsSend e t x b) = false
has_receive (EndsBoth e t x b y) = false
has_receive (Receives e t x b message) = true
has_receive (EndsReceive e t x b message) = true
has_receive (Reclaims e x) = false
has_receive (EndsHeld e x) = false
has_receive (Reopens p inc a b) = false
has_receive (Gathers a b) = false

-- in the state of this copy a caller has the turns that its pass says, and holds what the pass has in hand
pub record IsPassIn (k : LinkCopy) (q : Pass) : Type 0 where
  pub sends : (e : End) → end_of k.state.callers q.number ≡ Some e → has_call (lane_to k.state (other e)).lane.sender q.number ≡ has_send q.call
  pub receives : (e : End) → end_of k.state.callers q.number ≡ Some e → has_call (lane_to k.state e).lane.receiver q.number ≡ has_receive q.call
  pub hands : HasHands k.state.callers (λ e. books_of (lane_to k.state e)) q.number q.hands

-- so it is of each caller that a manager carries which knows the state of its link
abbrev pub ArePassesIn : View → Type 0
ArePassesIn v = Manages v → v.out ≡ [] → (k : LinkCopy) → v.copy ≡ Some k → (place : ℕ) (q : Pass) → get_elem? v.passes place ≡ some q → q.number ≢ MANAGER → IsPassIn k q

-- no two passes have one number, and no two have one side state in their calls; and by the copy of a manager they are those of the state
pub record IsOrderly (v : View) : Type 0 where
  pub numbers : (k l : ℕ) (p q : Pass) → get_elem? v.passes k ≡ some p → get_elem? v.passes l ≡ some q → p.number ≡ q.number → k ≡ l
  pub sides : (slot k l : ℕ) (p q : Pass) → get_elem? v.passes k ≡ some p → get_elem? v.passes l ≡ some q → has_side slot p.call ≡ true → has_side slot q.call ≡ true → k ≡ l
  pub known : ArePassesIn v
