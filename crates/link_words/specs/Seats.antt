-- What the steps say that move, make and end callers, and those of the manager's own view (own).
use Rattle.std.specs.Prelude.{not, ◌≡◌, ◌<◌, ◌==◌, ◌||◌, ℕ, Bool, true, false, Some}
use Rattle.lane_model.specs.declared.TheConstants.{MANAGER}
use mathlib.Core.Option.{Option, some, none}
use Rattle.rp_base.specs.declared.kinds.Era.{Era}
use Rattle.rp_base.specs.declared.kinds.End.{End}
use Rattle.link_words.specs.declared.copies.LinkCopy.{LinkCopy}
use Rattle.link_words.specs.declared.rule.Slot.{Slot}
use Rattle.link_words.specs.declared.rule.Slot.TheVariants.{Empty, Sender, Receiver, Buffer, Caller, Start}
use Rattle.link_words.specs.declared.rule.View.{View}
use Rattle.link_words.specs.declared.rule.Made.TheVariants as made
use Rattle.link_words.specs.Calls.{SeatState, Notes}
use Rattle.link_words.specs.Passes.{Manages, with_new_caller, after_end_of, after_settle, place_of_number}
use Rattle.link_words.specs.Words.{era_word}

-- a caller is made on this end, which the manager carries
abbrev pub EnlistsCaller : End → SeatState → SeatState → Type 0
EnlistsCaller e me me' = me' ≡ (with_new_caller e me.0 me'.0.copy, me.1)

-- the caller that a step names
abbrev pub named_by : Option Slot → ℕ
named_by none = MANAGER
named_by (some Empty) = MANAGER
named_by (some (Sender x)) = MANAGER
named_by (some (Receiver x)) = MANAGER
named_by (some (Buffer x)) = MANAGER
named_by (some (Caller n)) = n
named_by (some (Start x)) = MANAGER

-- the number of a carried caller is free
abbrev pub EndsCaller : ℕ → SeatState → SeatState → Type 0
EndsCaller n me me' = me' ≡ (after_end_of n me.0 me'.0.copy, me.1)

-- the view of a seat that has found this era, and knows whether it is closed
abbrev pub with_era : View → Era → View
with_era v era = record v { is_closed = not era.is_live }

abbrev pub LearnsEra : SeatState → ℕ → SeatState → Type 0
LearnsEra me n me' = (era : Era) × (n ≡ era_word era) × (era.inc < 4294967296) × (me' ≡ (with_era me.0 era, me.1)) × (era.inc ≡ me.0.inc) × (me.0.is_closed ≡ true → era.is_live ≡ false)

-- those that were out have come back, and the view has a copy again
abbrev pub Settles : SeatState → SeatState → Type 0
Settles me me' = (k : LinkCopy) × (me' ≡ (after_settle me.0 (Some k), me.1))

-- whether this era is closed after an attempt to close this incarnation
abbrev pub is_closed_behind : ℕ → Era → Bool
is_closed_behind inc era = not era.is_live || (era.inc == inc)

-- one attempt to close this incarnation: the era that was found, which the pass of the closer notes. The view knows then whether the era is closed;
-- the manager's has the incarnation that was found
abbrev pub ClosesEra : ℕ → ℕ → SeatState → ℕ → SeatState → Type 0
ClosesEra closer inc me n me' = (era : Era) × (n ≡ era_word era) × (era.inc < 4294967296)
    × Notes (made.Close era) (λ p. p) (place_of_number closer me.0.passes) me.1 (record me.0 { is_closed = is_closed_behind inc era }, me.1) me'
    × (Manages me.0 → era.inc ≡ me.0.inc)
