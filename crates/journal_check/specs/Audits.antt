-- What an audit of a text answers (own).
use Rattle.std.specs.Prelude.{◌≡◌, ℕ, ◌+◌, ◌-◌, ◌<◌, ◌==◌, List, length, take, reverse, slice_get, Option, Some, None, option_and_then}
use Rattle.journal_check.specs.declared.answers.Audit.{Audit}
use Rattle.journal_check.specs.declared.answers.Audit.TheVariants as audit
use Rattle.journal_check.specs.declared.readings.Reading.{Reading}
use Rattle.journal_check.specs.Readings.{AreReadings}
use Rattle.journal_check.specs.Rules.{least_rule}

-- the least rule that the line at an index breaks, of a text of so many lines
abbrev pub rule_at : ℕ → List Reading → ℕ → Option ℕ
rule_at count readings index = option_and_then (λ now. least_rule (index + 1 == count) now (reverse (take index readings))) (slice_get readings index)

-- no line below an index breaks a rule
abbrev pub KeepsRules : ℕ → List Reading → ℕ → Type 0
KeepsRules count readings most = (index : ℕ) → index < most → rule_at count readings index ≡ None

-- a text is sound with the number of its lines where none breaks a rule; else it is broken at the first that does, counted from 1, by the
-- least rule that it breaks
abbrev pub IsVerdict : ℕ → List Reading → Audit → Type 0
IsVerdict count readings (audit.Sound lines) = (lines ≡ count) × KeepsRules count readings lines
IsVerdict count readings (audit.Broken line rule) = (rule_at count readings (line - 1) ≡ Some rule) × KeepsRules count readings (line - 1)

-- how many lines an audit looks at
abbrev pub lines_looked_at : Audit → ℕ
lines_looked_at (audit.Sound lines) = lines
lines_looked_at (audit.Broken line rule) = line

-- what an audit answers of these lines, by what those say that it looks at
pub record IsAudit (lines : List (List ℕ)) (answer : Audit) : Type 0 where
  pub readings : List Reading
  pub read : AreReadings (take (lines_looked_at answer) lines) readings
  pub verdict : IsVerdict (length lines) readings answer
