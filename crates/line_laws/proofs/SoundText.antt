-- Where an audit answers Sound it looked at each line, and none breaks a rule.
use Rattle.std.proofs.Common.{◌≡◌, ℕ, List, length, take, sym, ap, ◌∙◌, subst}
use Rattle.std.proofs.Math.Seq.{take-length}
use Rattle.std.proofs.lemmas.Slice.Zip.{AllZip-long}
use Rattle.journal_check.specs.declared.answers.Audit.TheVariants.{Sound}
use Rattle.journal_check.specs.Audits.{IsAudit, KeepsRules}
use Rattle.journal_check.specs.Lines.{lines_of}
use Rattle.journal_check.specs.Readings.{IsReading, AreReadings}
use Rattle.journal_check.proofs.DeliveryFacts.{hands_in_order}
use Rattle.line_laws.specs.SoundTexts.{SoundHandsInOrder}

pub all_read : (lines : List (List ℕ)) (count : ℕ) (found : IsAudit lines (Sound count)) → AreReadings lines found.readings
all_read lines count found = subst (λ front. AreReadings front found.readings) (ap (λ n. take n lines) found.verdict.0 ∙ take-length lines) found.read

none_broken : (lines : List (List ℕ)) (count : ℕ) (found : IsAudit lines (Sound count)) → KeepsRules (length found.readings) found.readings (length found.readings)
none_broken lines count found =
    let long : length found.readings ≡ length lines = AllZip-long IsReading lines found.readings (all_read lines count found) in
    subst (λ n. KeepsRules n found.readings n) (sym long) (subst (λ n. KeepsRules (length lines) found.readings n) found.verdict.0 found.verdict.1)

pub sound_hands_in_order : SoundHandsInOrder
sound_hands_in_order text count found = hands_in_order found.readings (none_broken (lines_of text) count found)
