-- The word of a turn: it is at most the manager's, and the turn that it shows.
use Rattle.link_words.specs.declared.codes.DeskTables.{DeskTables}
use Rattle.link_words.specs.PlacedDesks.{PlacedDesk}
use Rattle.std.proofs.Common.{◌≡◌, ◌≢◌, ◌⊎◌, ◌≤◌, ◌-◌, ℕ, zero, suc, List, [], ◌∷◌, map, length, get_or, arith, refl, sym, ap, subst, ◌∙◌, inl, inr}
use Rattle.std.specs.Prelude.{Option, Some}
use base.Stored.{Coded}
use Rattle.rp_base.specs.declared.kinds.End.{End}
use Rattle.rp_base.specs.declared.kinds.End.TheVariants as side
use Rattle.lane_laws.specs.Parts.{manager_takes, manager_leaves}
use Rattle.lane_model.specs.declared.lane_links.LaneLink.{LaneLink}
use Rattle.lane_model.specs.declared.recoveries.LaneTurn.TheVariants as lane_turn
use Rattle.lane_model.specs.declared.stages.Turn.{Turn}
use Rattle.lane_model.specs.declared.stages.Turn.TheVariants as turn
use Rattle.lane_model.specs.Desks.{DeskMeaning}
use Rattle.lane_model.specs.Links.{end_of, link_of}
use Rattle.lane_model.specs.Soundness.{SoundLink, IsSoundTurn, AreUsers}
use Rattle.ring_core.specs.declared.states.RingState.{RingState}
use Rattle.ring_core.specs.RingSteps.{ring_form, holding_of}
use Rattle.ring_core.specs.SoundRings.{IsSoundRings}
use Rattle.ring_core.specs.declared.states.Hand.{Hand}
use mathlib.Core.Option.{some, some-injective, some-ne-none}
use lib.ListN.{get_elem?}
use Rattle.link_words.specs.Deeds.{ManagerTakes, ManagerLeaves, after_deed}
use Rattle.link_words.specs.Words.{other, lane_to, turn_word, words_of, receiver_word, sender_word}
use Rattle.link_words.proofs.Users.{in_range}

turn_word_most : {C : Type 0} (callers : List (Option End)) (e : End) (t : Turn C) → length callers ≡ 64 → IsSoundTurn callers e t → turn_word t ≤ 65
turn_word_most callers e turn.Free many is = omega arith
turn_word_most callers e (turn.Taken c x) many is = let low = in_range callers c e is in omega (arith, low, many)
turn_word_most callers e (turn.Leaving c x) many is = let low = in_range callers c e is in omega (arith, low, many)
turn_word_most callers e turn.Manager many is = omega arith

held_by : (callers users : List (Option End)) (e : End) (c n : ℕ) → users ≡ callers → end_of callers c ≡ Some e → n ≡ suc c → end_of users (n - 1) ≡ Some e
held_by callers users e c n same is word = (λ k. end_of (same k) (let at : n - 1 ≡ c = omega (arith, word) in at k)) ∙ is

word_held : {C : Type 0} (callers users : List (Option End)) (e : End) (t : Turn C) (n : ℕ) → users ≡ callers → IsSoundTurn callers e t → n ≡ turn_word t → n ≢ 0 → (end_of users (n - 1) ≡ Some e) ⊎ ((n ≡ 65) × (t ≡ turn.Manager))
word_held callers users e turn.Free n same is word held = absurd (held word)
word_held callers users e (turn.Taken c x) n same is word held = inl (held_by callers users e c n same is word)
word_held callers users e (turn.Leaving c x) n same is word held = inl (held_by callers users e c n same is word)
word_held callers users e turn.Manager n same is word held = inr (word, refl)

users_hold : (callers : List (Option End)) (e : End) (hands : List Hand) → AreUsers callers e (map holding_of hands) → (k : ℕ) (h : Hand) → get_elem? hands k ≡ some h → end_of callers h.caller ≡ Some e
users_hold callers e [] users k h at = absurd (some-ne-none h (sym at))
users_hold callers e (x ∷ hands) users zero h at = ap (λ (y : Hand). end_of callers y.caller) (sym (some-injective x h at)) ∙ users.0
users_hold callers e (x ∷ hands) users (suc k) h at = users_hold callers e hands users.1 k h at

module _ {B : Type 0} {kc : Coded B} {kz : DeskTables} (desk : DeskMeaning (PlacedDesk kc kz)) where
  -- the word of a turn is at most that of the manager's
  pub sender_word_most : (m : LaneLink (RingState (PlacedDesk kc kz))) (e : End) → length m.callers ≡ 64 → SoundLink (link_of (ring_form desk) m) → turn_word (lane_to m e).lane.sender ≤ 65
  sender_word_most m side.Host many sound = turn_word_most m.callers side.Remote m.to_host.lane.sender many sound.to_host.sender
  sender_word_most m side.Remote many sound = turn_word_most m.callers side.Host m.to_remote.lane.sender many sound.to_remote.sender

  pub receiver_word_most : (m : LaneLink (RingState (PlacedDesk kc kz))) (e : End) → length m.callers ≡ 64 → SoundLink (link_of (ring_form desk) m) → turn_word (lane_to m e).lane.receiver ≤ 65
  receiver_word_most m side.Host many sound = turn_word_most m.callers side.Host m.to_host.lane.receiver many sound.to_host.receiver
  receiver_word_most m side.Remote many sound = turn_word_most m.callers side.Remote m.to_remote.lane.receiver many sound.to_remote.receiver

  -- and it is the manager's, or that of a caller in use on the end that the turn belongs to
  pub sender_word_held : (m : LaneLink (RingState (PlacedDesk kc kz))) (e : End) (users : List (Option End)) (n : ℕ) → users ≡ m.callers → SoundLink (link_of (ring_form desk) m) → n ≡ turn_word (lane_to m e).lane.sender → n ≢ 0 → (end_of users (n - 1) ≡ Some (other e)) ⊎ ((n ≡ 65) × ((lane_to m e).lane.sender ≡ turn.Manager))
  sender_word_held m side.Host users n same sound is = word_held m.callers users side.Remote m.to_host.lane.sender n same sound.to_host.sender is
  sender_word_held m side.Remote users n same sound is = word_held m.callers users side.Host m.to_remote.lane.sender n same sound.to_remote.sender is

  pub receiver_word_held : (m : LaneLink (RingState (PlacedDesk kc kz))) (e : End) (users : List (Option End)) (n : ℕ) → users ≡ m.callers → SoundLink (link_of (ring_form desk) m) → n ≡ turn_word (lane_to m e).lane.receiver → n ≢ 0 → (end_of users (n - 1) ≡ Some e) ⊎ ((n ≡ 65) × ((lane_to m e).lane.receiver ≡ turn.Manager))
  receiver_word_held m side.Host users n same sound is = word_held m.callers users side.Host m.to_host.lane.receiver n same sound.to_host.receiver is
  receiver_word_held m side.Remote users n same sound is = word_held m.callers users side.Remote m.to_remote.lane.receiver n same sound.to_remote.receiver is

  -- who has a buffer of a lane in hand is in use on the end that the lane leads to
  pub hands_in_use : (m : LaneLink (RingState (PlacedDesk kc kz))) (e : End) (users : List (Option End)) → users ≡ m.callers → SoundLink (link_of (ring_form desk) m) → IsSoundRings (lane_to m e) → (k : ℕ) (h : Hand) → get_elem? (lane_to m e).rings.hands k ≡ some h → end_of users h.caller ≡ Some e
  hands_in_use m side.Host users same sound rings k h at = ap (λ (us : List (Option End)). end_of us h.caller) same ∙ users_hold m.callers side.Host m.to_host.rings.hands (subst (AreUsers m.callers side.Host) (sym rings.holdings) sound.to_host.users) k h at
  hands_in_use m side.Remote users same sound rings k h at = ap (λ (us : List (Option End)). end_of us h.caller) same ∙ users_hold m.callers side.Remote m.to_remote.rings.hands (subst (AreUsers m.callers side.Remote) (sym rings.holdings) sound.to_remote.users) k h at

-- the word of a receiver's turn
pub receiver_of : {B : Type 0} {kc : Coded B} {kz : DeskTables} (m : LaneLink (RingState (PlacedDesk kc kz))) (e : End) → turn_word (lane_to m e).lane.receiver ≡ get_or (words_of 0 [] m) (receiver_word e) 0
receiver_of m side.Host = refl
receiver_of m side.Remote = refl

-- the manager takes no turn that another has
pub takes_none : {C : Type 0} (t : Turn C) → turn_word t ≢ 0 → manager_takes t ≡ t
takes_none turn.Free held = absurd (held refl)
takes_none (turn.Taken caller call) held = refl
takes_none (turn.Leaving caller end) held = refl
takes_none turn.Manager held = refl

-- a turn that was free is taken and left: the state is as before
left_again : {C : Type 0} (t : Turn C) → t ≡ turn.Free → manager_leaves (manager_takes t) ≡ t
left_again t is = ap (λ u. manager_leaves (manager_takes u)) is ∙ sym is

pub back_again : {D : Type 0} (meaning : DeskMeaning D) (m : LaneLink (RingState D)) (e : End) → (lane_to m e).lane.receiver ≡ turn.Free → after_deed meaning (after_deed meaning m (ManagerTakes lane_turn.Receiver e)) (ManagerLeaves lane_turn.Receiver e) ≡ m
back_again meaning m side.Host free = λ i. record m { to_host = record m.to_host { lane = record m.to_host.lane { receiver = left_again m.to_host.lane.receiver free i } } }
back_again meaning m side.Remote free = λ i. record m { to_remote = record m.to_remote { lane = record m.to_remote.lane { receiver = left_again m.to_remote.lane.receiver free i } } }

pub sender_again : {D : Type 0} (meaning : DeskMeaning D) (m : LaneLink (RingState D)) (e : End) → (lane_to m e).lane.sender ≡ turn.Free → after_deed meaning (after_deed meaning m (ManagerTakes lane_turn.Sender e)) (ManagerLeaves lane_turn.Sender e) ≡ m
sender_again meaning m side.Host free = λ i. record m { to_host = record m.to_host { lane = record m.to_host.lane { sender = left_again m.to_host.lane.sender free i } } }
sender_again meaning m side.Remote free = λ i. record m { to_remote = record m.to_remote { lane = record m.to_remote.lane { sender = left_again m.to_remote.lane.sender free i } } }

-- the sender's turn of a lane is taken: the receiver's is as it was
pub receiver_beside : {D : Type 0} (meaning : DeskMeaning D) (m : LaneLink (RingState D)) (e : End) → (lane_to (after_deed meaning m (ManagerTakes lane_turn.Sender e)) e).lane.receiver ≡ (lane_to m e).lane.receiver
receiver_beside meaning m side.Host = refl
receiver_beside meaning m side.Remote = refl

-- both turns of a lane that were free are taken and left
pub lane_again : {D : Type 0} (meaning : DeskMeaning D) (m : LaneLink (RingState D)) (e : End) → (lane_to m e).lane.sender ≡ turn.Free → (lane_to m e).lane.receiver ≡ turn.Free
    → after_deed meaning (after_deed meaning (after_deed meaning (after_deed meaning m (ManagerTakes lane_turn.Sender e)) (ManagerTakes lane_turn.Receiver e)) (ManagerLeaves lane_turn.Receiver e)) (ManagerLeaves lane_turn.Sender e) ≡ m
lane_again {D} meaning m e sender receiver =
    ap (λ (l : LaneLink (RingState D)). after_deed meaning l (ManagerLeaves lane_turn.Sender e)) (back_again meaning (after_deed meaning m (ManagerTakes lane_turn.Sender e)) e (receiver_beside meaning m e ∙ receiver)) ∙ sender_again meaning m e sender

-- the word of a sender's turn
pub sender_of : {B : Type 0} {kc : Coded B} {kz : DeskTables} (m : LaneLink (RingState (PlacedDesk kc kz))) (e : End) → turn_word (lane_to m e).lane.sender ≡ get_or (words_of 0 [] m) (sender_word e) 0
sender_of m side.Host = refl
sender_of m side.Remote = refl
