-- What a caller's seat knows: its one pass, its call, and the slots that are out with it (own).
use Rattle.std.specs.Prelude.{◌≡◌, ◌<◌, ℕ, List, [], ◌∷◌}
use Rattle.rp_base.specs.declared.limits.TheConstants.{CALLERS_MOST}
use Rattle.lane_model.specs.declared.TheConstants.{MANAGER}
use Rattle.atomic_table.specs.Seated.{TableId}
use Rattle.link_words.specs.declared.rule.Call.{Call}
use Rattle.link_words.specs.declared.rule.Call.TheVariants.{Idle, Rests}
use Rattle.link_words.specs.declared.rule.LinkSizes.{LinkSizes}
use Rattle.link_words.specs.declared.rule.Pass.{Pass}
use Rattle.link_words.specs.declared.rule.Slot.{Slot}
use Rattle.link_words.specs.Calls.{SeatState}
use Rattle.split_ring.specs.declared.callers.CallerId.{CallerId}

-- the first pass of a list, or one of nobody
abbrev pub first_pass : List Pass → Pass
first_pass [] = record { number = MANAGER; call = Idle; first = 0; own = []; hands = [] }
first_pass (p ∷ ps) = p

-- the pass of a caller's seat
abbrev pub pass_in : SeatState → Pass
pass_in me = first_pass me.0.passes

-- a seat has one pass, which is in this call with these slots
pub record IsAt (me : SeatState) (call : Call) (slots : List (ℕ × Slot)) : Type 0 where
  pub one : me.0.passes ≡ pass_in me ∷ []
  pub in_call : (pass_in me).call ≡ call
  pub out : me.1 ≡ slots

-- the seat is one of this table, which has these sizes
pub record IsSeatOf (table : TableId) (sizes : LinkSizes) (table_id : TableId) (me : SeatState) : Type 0 where
  pub at_table : table_id ≡ table
  pub told : me.0.sizes ≡ sizes

-- the seat is that of this caller, which is in no call
pub record IsCaller (table : TableId) (sizes : LinkSizes) (who : CallerId) (table_id : TableId) (me : SeatState) : Type 0 where
  pub seat : IsSeatOf table sizes table_id me
  pub rests : IsAt me (Rests who.end) []
  pub number : (pass_in me).number ≡ who.number
  pub low : who.number < CALLERS_MOST
