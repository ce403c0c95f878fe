-- The side states that the manager has, each with its turn (own).
use Rattle.std.specs.Prelude.{Bool, true, false, ◌==◌, ◌&&◌, ◌||◌, ℕ, Option, Some, None}
use Rattle.rp_base.specs.declared.kinds.End.{End}
use Rattle.rp_base.specs.declared.kinds.End.TheVariants as side
use Rattle.link_words.specs.declared.rule.LaneSides.{LaneSides}

-- none of a lane
abbrev pub no_sides : LaneSides
no_sides = record { sender = None; receiver = None }

-- whether there is one
abbrev pub is_there : {A : Type 0} → Option A → Bool
is_there None = false
is_there (Some x) = true

-- of the lane to an end
abbrev pub sides_at : End → LaneSides → LaneSides → LaneSides
sides_at side.Host a b = a
sides_at side.Remote a b = b

-- the side state of this slot is one of them, where the first slots are those of the lane to the host
abbrev pub has_slot : ℕ → LaneSides → LaneSides → Bool
has_slot slot a b = (is_there a.sender && (slot == 0)) || ((is_there a.receiver && (slot == 1)) || ((is_there b.sender && (slot == 2)) || (is_there b.receiver && (slot == 3))))
