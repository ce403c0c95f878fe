-- What a line of a transcript says (own).
use Rattle.std.specs.Prelude.{◌≡◌, ℕ, ◌<◌, ◌^◌, List}
use Rattle.std.specs.List.{AllZip}
use Rattle.journal.specs.declared.events.Event.{Event}
use Rattle.journal.specs.declared.notices.Notice.{Notice}
use Rattle.journal.specs.declared.notices.Notice.TheVariants as notice
use Rattle.journal.specs.Lines.{line}
use Rattle.journal.specs.Notices.{notice_line}
use Rattle.journal.specs.Reading.{IsWritten}
use Rattle.journal_check.specs.declared.readings.Reading.{Reading}
use Rattle.journal_check.specs.declared.readings.Reading.TheVariants as reading

-- a notice that ends the transcript of a run: a device that failed, the limit of steps, or a script that is refused, at a line whose
-- number has 32 bits
abbrev pub IsEnding : Notice → Type 0
IsEnding notice.ReadFault = Unit {0}
IsEnding notice.StoreFault = Unit {0}
IsEnding notice.StepLimit = Unit {0}
IsEnding (notice.Refused number why) = number < 2 ^ 32
IsEnding other = ⊥

-- no event and no ending has this line
pub record SaysNothing (bytes : List ℕ) : Type 0 where
  pub no_event : (e : Event) → IsWritten e → line e ≡ bytes → ⊥
  pub no_ending : (n : Notice) → IsEnding n → notice_line n ≡ bytes → ⊥

-- what a line says
abbrev pub IsReading : List ℕ → Reading → Type 0
IsReading bytes (reading.Event e) = IsWritten e × (line e ≡ bytes)
IsReading bytes (reading.Ending n) = IsEnding n × (notice_line n ≡ bytes)
IsReading bytes reading.Nothing = SaysNothing bytes

-- what lines say, each in its place
abbrev pub AreReadings : List (List ℕ) → List Reading → Type 0
AreReadings lines readings = AllZip IsReading lines readings
