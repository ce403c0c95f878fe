-- What a call takes from the buffers in hand and brings to them, and what is known beside once its end is settled (own).
use Rattle.std.specs.Prelude.{◌≡◌, ◌<◌, ◌+◌, ℕ, List, [], ◌∷◌, ◌++◌, length, map, true, None, IsSomeAnd, Vec, vec_capacity}
use Rattle.std.specs.declared.alloc.Global.{Global}
use Rattle.lane_model.specs.declared.calls.CallEnd.{CallEnd}
use Rattle.lane_model.specs.declared.calls.CallEnd.TheVariants as end
use Rattle.lane_model.specs.declared.calls.Wish.{Wish}
use Rattle.lane_model.specs.declared.calls.Wish.TheVariants as wish
use Rattle.lane_model.specs.declared.states.Holding.{Holding}
use Rattle.lane_model.specs.Lanes.{holds, without}
use Rattle.managed_link.specs.declared.hands.Hand.{Hand}
use Rattle.managed_link.specs.declared.views.LaneView.{LaneView}
use Rattle.managed_link.specs.Hands.{IsHandAt, holding_of}

-- the buffer of the message of this number, which this caller holds, is here
pub record IsHere (hands : List Hand) (number caller : ℕ) : Type 0 where
  pub listed : holds (map holding_of hands) number caller ≡ true
  pub held : (place : ℕ) (hand : Hand) → IsHandAt hands number caller place hand → IsSomeAnd hand.held (λ buffer. buffer.number ≡ number)

-- where this caller wishes to give a buffer back, it is here
abbrev pub CanGive : List Hand → ℕ → Wish → Type 0
CanGive hands caller (wish.Give number) = IsHere hands number caller
CanGive hands caller other = Unit {0}

-- what is known of the lane that a caller takes from, once its call has settled that it ends so, and of the lane that it sends on
abbrev pub incoming_view : CallEnd → LaneView → LaneView
incoming_view (end.Took number verdict) view = record view { handed = view.handed + 1 }
incoming_view (end.Gave number) view = record view { returned = view.returned + 1 }
incoming_view other view = view

abbrev pub outgoing_view : CallEnd → LaneView → LaneView
outgoing_view (end.Sent number) view = record view { accepted = view.accepted + 1 }
outgoing_view other view = view

-- what is held then of the lane that it takes from
abbrev pub held_behind : CallEnd → ℕ → List Holding → List Holding
held_behind (end.Took number verdict) caller held = held ++ record { number = number; caller = caller } ∷ []
held_behind (end.Gave number) caller held = without held number caller
held_behind other caller held = held

-- the buffers in hand, and the one that the call was handed, which is out with it
abbrev pub with_new_hand : CallEnd → ℕ → List Hand → List Hand
with_new_hand (end.Took number verdict) caller hands = hands ++ record { caller = caller; number = number; held = None } ∷ []
with_new_hand other caller hands = hands

-- there is room for it
abbrev pub HasRoomFor : CallEnd → Vec Hand Global → Type 0
HasRoomFor (end.Took number verdict) hands = length hands.items < vec_capacity hands
HasRoomFor other hands = Unit {0}
