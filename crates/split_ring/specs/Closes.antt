-- An attempt to close a link: what it answers, and what it leaves of the seat that makes it (own).
use Rattle.std.specs.Prelude.{◌≡◌, ◌≢◌, ℕ, Result, Ok, Err}
use base.Stored.{Coded}
use Rattle.rp_base.specs.declared.kinds.Era.{Era}
use Rattle.lane_model.specs.declared.recoveries.Already.{Already}
use Rattle.lane_model.specs.Desks.{DeskMeaning}
use Rattle.link_words.specs.declared.rule.Made.TheVariants as made
use Rattle.link_words.specs.Calls.{SeatState, Notes}
use Rattle.link_words.specs.Passes.{Manages, place_of_number}
use Rattle.link_words.specs.Seats.{is_closed_behind}
use Rattle.link_words.specs.Steps.{ClosesLink}
use Rattle.link_words.specs.Words.{era_word}
use Rattle.split_ring.specs.Sends.{live_era}

-- what an attempt to close this incarnation answers that found this era: it closes exactly where it is this incarnation, live
abbrev pub IsCloseAnswer : ℕ → Era → Result (Unit {0}) Already → Type 0
IsCloseAnswer inc era (Ok done) = era ≡ live_era inc
IsCloseAnswer inc era (Err already) = (already.0 ≡ era) × (era ≢ live_era inc)

-- a seat made one attempt to close this incarnation. The pass of this number notes the era that was found, and the seat knows whether the era is closed
-- then; nothing else that it knows changes, but the manager's copy, which follows. The manager's has the incarnation that was found
pub record HasClosed {D : Type 0} (coded : Coded D) (meaning : DeskMeaning D) (closer inc : ℕ) (answer : Result (Unit {0}) Already) (me me' : SeatState) : Type 0 where
  pub era : Era
  pub answered : IsCloseAnswer inc era answer
  pub step : ClosesLink coded meaning inc (era_word era) me me'
  pub noted : Notes (made.Close era) (λ p. p) (place_of_number closer me.0.passes) me.1 (record me.0 { is_closed = is_closed_behind inc era }, me.1) me'
  pub current : Manages me.0 → era.inc ≡ me.0.inc
