-- A text has one audit.
use Rattle.std.proofs.Common.{◌≡◌, ℕ, zero, suc, ◌+◌, ◌-◌, ◌<◌, ◌≤◌, ◌^◌, ◌%◌, ◌==◌, List, [], ◌∷◌, length, get_or, take, reverse, codes, Option, Some, None, refl, sym, ap, ◌∙◌, arith, ◌⊎◌, inl, inr, length-take}
use Rattle.std.specs.Prelude.{slice_get, option_and_then, if◌then◌else◌}
use Rattle.std.specs.Fmt.{decimal}
use Rattle.std.proofs.lemmas.Option.{same_Some, slice_get_within}
use Rattle.std.proofs.lemmas.Slice.Zip.{AllZip-long}
use Rattle.word_kinds.specs.declared.causes.Cause.{Cause}
use Rattle.word_kinds.specs.declared.causes.Cause.TheVariants as cause
use Rattle.word_kinds.specs.Lines.{line_of}
use Rattle.word_kinds.specs.Readings.{number_read}
use Rattle.word_kinds.specs.Spellings.{words_of}
use Rattle.journal.specs.declared.events.Event.{Event}
use Rattle.journal.specs.declared.notices.Notice.{Notice}
use Rattle.journal.specs.declared.notices.Notice.TheVariants as notice
use Rattle.journal.specs.Lines.{line}
use Rattle.journal.specs.Notices.{notice_line, cause_text}
use Rattle.journal.specs.Reading.{IsWritten, event_of}
use Rattle.journal.proofs.ReadBack.{one_event, event_there}
use Rattle.journal_check.specs.declared.answers.Audit.{Audit}
use Rattle.journal_check.specs.declared.answers.Audit.TheVariants as audit
use Rattle.journal_check.specs.declared.readings.Reading.{Reading}
use Rattle.journal_check.specs.declared.readings.Reading.TheVariants as reading
use Rattle.journal_check.specs.Readings.{IsEnding, IsReading, AreReadings}
use Rattle.journal_check.specs.Rules.{least_rule}
use Rattle.journal_check.specs.Audits.{rule_at, IsAudit}
use Rattle.journal_check.proofs.EndingFacts.{refusal_said, number_said}

-- a byte that tells the endings apart
abbrev mark : Notice → ℕ
mark notice.ReadFault = 97
mark notice.StoreFault = 111
mark notice.StepLimit = 101
mark (notice.Refused number why) = 102
mark other = 0

marked : (n : Notice) → IsEnding n → get_or (notice_line n) 4 0 ≡ mark n
unfolding notice_line line_of
marked notice.ReadFault ends = refl
marked notice.StoreFault ends = refl
marked notice.StepLimit ends = refl
marked (notice.Refused number why) ends = refl
marked other ends = absurd ends

-- a byte that tells the causes apart
abbrev cause_by : ℕ → Cause
cause_by byte =
    if byte == 122 then cause.Size
    else (if byte == 110 then cause.Lines
    else (if byte == 116 then cause.Byte
    else (if byte == 111 then cause.Block
    else (if byte == 109 then cause.Command
    else (if byte == 114 then cause.Words else cause.Value)))))

cause_back : (why : Cause) → cause_by (get_or (cause_text why) 2 0) ≡ why
cause_back cause.Size = refl
cause_back cause.Lines = refl
cause_back cause.Byte = refl
cause_back cause.Block = refl
cause_back cause.Command = refl
cause_back cause.Words = refl
cause_back cause.Value = refl

same_refusal : (a b : ℕ) (why how : Cause) → a < 2 ^ 32 → b < 2 ^ 32 → notice_line (notice.Refused a why) ≡ notice_line (notice.Refused b how) → notice.Refused a why ≡ notice.Refused b how
same_refusal a b why how small less e =
    let words : codes "*" ∷ codes "refused" ∷ decimal a ∷ cause_text why ∷ [] ≡ codes "*" ∷ codes "refused" ∷ decimal b ∷ cause_text how ∷ [] =
    sym (refusal_said a why (notice_line (notice.Refused b how)) small e) ∙ refusal_said b how (notice_line (notice.Refused b how)) less refl in
    let number : a ≡ b = sym (number_said a small) ∙ ap (λ (ws : List (List ℕ)). number_read (get_or ws 2 []) % 4294967296) words ∙ number_said b less in
    let cause : why ≡ how = sym (cause_back why) ∙ ap (λ (ws : List (List ℕ)). cause_by (get_or (get_or ws 3 []) 2 0)) words ∙ cause_back how in
    λ i. notice.Refused (number i) (cause i)

by_mark : (n m : Notice) → IsEnding n → IsEnding m → mark n ≡ mark m → notice_line n ≡ notice_line m → n ≡ m
by_mark notice.ReadFault notice.ReadFault ends also same e = refl
by_mark notice.ReadFault notice.StoreFault ends also same e = absurd (omega arith)
by_mark notice.ReadFault notice.StepLimit ends also same e = absurd (omega arith)
by_mark notice.ReadFault (notice.Refused b how) ends also same e = absurd (omega arith)
by_mark notice.ReadFault other ends also same e = absurd also
by_mark notice.StoreFault notice.ReadFault ends also same e = absurd (omega arith)
by_mark notice.StoreFault notice.StoreFault ends also same e = refl
by_mark notice.StoreFault notice.StepLimit ends also same e = absurd (omega arith)
by_mark notice.StoreFault (notice.Refused b how) ends also same e = absurd (omega arith)
by_mark notice.StoreFault other ends also same e = absurd also
by_mark notice.StepLimit notice.ReadFault ends also same e = absurd (omega arith)
by_mark notice.StepLimit notice.StoreFault ends also same e = absurd (omega arith)
by_mark notice.StepLimit notice.StepLimit ends also same e = refl
by_mark notice.StepLimit (notice.Refused b how) ends also same e = absurd (omega arith)
by_mark notice.StepLimit other ends also same e = absurd also
by_mark (notice.Refused a why) notice.ReadFault ends also same e = absurd (omega arith)
by_mark (notice.Refused a why) notice.StoreFault ends also same e = absurd (omega arith)
by_mark (notice.Refused a why) notice.StepLimit ends also same e = absurd (omega arith)
by_mark (notice.Refused a why) (notice.Refused b how) ends also same e = same_refusal a b why how ends also e
by_mark (notice.Refused a why) other ends also same e = absurd also
by_mark other m ends also same e = absurd ends

same_ending : (n m : Notice) → IsEnding n → IsEnding m → notice_line n ≡ notice_line m → n ≡ m
same_ending n m ends also e = by_mark n m ends also (sym (marked n ends) ∙ ap (λ bytes. get_or bytes 4 0) e ∙ marked m also) e

-- no event has the line of an ending
no_event : (n : Notice) → IsEnding n → event_of (take 9 (words_of (take (length (notice_line n) - 1) (notice_line n)))) ≡ None
unfolding notice_line line_of
no_event notice.ReadFault ends = refl
no_event notice.StoreFault ends = refl
no_event notice.StepLimit ends = refl
no_event (notice.Refused number why) ends = ap event_of (refusal_said number why (notice_line (notice.Refused number why)) ends refl)
no_event other ends = absurd ends

no_both : (e : Event) (n : Notice) → IsWritten e → IsEnding n → line e ≡ notice_line n → ⊥
no_both e n good ends same = let there = sym (no_event n ends) ∙ event_there e (notice_line n) good same in absurd (cc)

-- a line has one reading
pub one_reading : (bytes : List ℕ) (a b : Reading) → IsReading bytes a → IsReading bytes b → a ≡ b
one_reading bytes (reading.Event e) (reading.Event f) is also = ap reading.Event (one_event e f is.0 also.0 (is.1 ∙ sym also.1))
one_reading bytes (reading.Event e) (reading.Ending n) is also = absurd (no_both e n is.0 also.0 (is.1 ∙ sym also.1))
one_reading bytes (reading.Event e) reading.Nothing is also = absurd (also.no_event e is.0 is.1)
one_reading bytes (reading.Ending n) (reading.Event e) is also = absurd (no_both e n also.0 is.0 (also.1 ∙ sym is.1))
one_reading bytes (reading.Ending n) (reading.Ending m) is also = ap reading.Ending (same_ending n m is.0 also.0 (is.1 ∙ sym also.1))
one_reading bytes (reading.Ending n) reading.Nothing is also = absurd (also.no_ending n is.0 is.1)
one_reading bytes reading.Nothing (reading.Event e) is also = absurd (is.no_event e also.0 also.1)
one_reading bytes reading.Nothing (reading.Ending n) is also = absurd (is.no_ending n also.0 also.1)
one_reading bytes reading.Nothing reading.Nothing is also = refl

same_readings : (lines : List (List ℕ)) (a b : List Reading) → AreReadings lines a → AreReadings lines b → a ≡ b
same_readings [] [] [] is also = refl
same_readings [] [] (r ∷ b) is also = absurd also
same_readings [] (r ∷ a) b is also = absurd is
same_readings (l ∷ lines) [] b is also = absurd is
same_readings (l ∷ lines) (r ∷ a) [] is also = absurd also
same_readings (l ∷ lines) (r ∷ a) (s ∷ b) is also = let head = one_reading l r s is.0 also.0 in let tail = same_readings lines a b is.1 also.1 in λ i. head i ∷ tail i

-- readings of the first lines of some
front_readings : (k n : ℕ) (lines : List (List ℕ)) (a : List Reading) → k ≤ n → AreReadings (take n lines) a → AreReadings (take k lines) (take k a)
front_readings zero n lines a le is = tt
front_readings (suc k) zero lines a le is = absurd (omega arith)
front_readings (suc k) (suc n) [] [] le is = tt
front_readings (suc k) (suc n) [] (r ∷ a) le is = absurd is
front_readings (suc k) (suc n) (l ∷ lines) [] le is = absurd is
front_readings (suc k) (suc n) (l ∷ lines) (r ∷ a) le is = (is.0, front_readings k n lines a (omega arith) is.1)

get_front : {X : Type 0} (k index : ℕ) (xs : List X) → index < k → slice_get (take k xs) index ≡ slice_get xs index
get_front zero index xs at = absurd (omega arith)
get_front (suc k) index [] at = refl
get_front (suc k) zero (x ∷ xs) at = refl
get_front (suc k) (suc index) (x ∷ xs) at = get_front k index xs (omega arith)

take_front : {X : Type 0} (k index : ℕ) (xs : List X) → index < k → take index (take k xs) ≡ take index xs
take_front k zero xs at = refl
take_front zero (suc index) xs at = absurd (omega arith)
take_front (suc k) (suc index) [] at = refl
take_front (suc k) (suc index) (x ∷ xs) at = ap (λ ys. x ∷ ys) (take_front k index xs (omega arith))

rule_front : (total k index : ℕ) (a : List Reading) → index < k → rule_at total (take k a) index ≡ rule_at total a index
rule_front total k index a at =
    ap (option_and_then (λ r. least_rule (index + 1 == total) r (reverse (take index (take k a))))) (get_front k index a at)
    ∙ ap (λ front. option_and_then (λ r. least_rule (index + 1 == total) r (reverse front)) (slice_get a index)) (take_front k index a at)

-- a rule is broken by a line that there is
some_line : (total index rule : ℕ) (a : List Reading) → rule_at total a index ≡ Some rule → index < length a
some_line total index rule [] e = absurd (cc)
some_line total zero rule (r ∷ a) e = omega arith
some_line total (suc index) rule (r ∷ a) e = got (slice_get a index) refl
  where
    got : (found : Option Reading) → slice_get a index ≡ found → suc index < length (r ∷ a)
    got None is = let none = sym (ap (option_and_then (λ now. least_rule (suc index + 1 == total) now (reverse (take (suc index) (r ∷ a))))) is) ∙ e in absurd (cc)
    got (Some x) is = let within = slice_get_within a index x is in omega arith

-- the line that is broken by one audit is kept by no other that looks further
no_further : (lines : List (List ℕ)) (total k n rule : ℕ) (a b : List Reading) → AreReadings (take k lines) a → AreReadings (take n lines) b → k ≤ n → rule_at total a (k - 1) ≡ Some rule
    → (rule_at total b (k - 1) ≡ Some rule) × (k - 1 < length b) × (0 < k)
no_further lines total k n rule a b is also le broken =
    let at = some_line total (k - 1) rule a broken in
    let long = AllZip-long IsReading (take k lines) a is in
    let some : 0 < k = omega (arith, long, length-take k lines, at) in
    let same : a ≡ take k b = same_readings (take k lines) a (take k b) is (front_readings k n lines b le also) in
    let there = sym (rule_front total k (k - 1) b (omega arith)) ∙ ap (λ r. rule_at total r (k - 1)) (sym same) ∙ broken in
    (there, some_line total (k - 1) rule b there, some)

sound_or_broken : (lines : List (List ℕ)) (n k rule : ℕ) → IsAudit lines (audit.Sound n) → IsAudit lines (audit.Broken k rule) → ⊥
sound_or_broken lines n k rule sound broken =
    let total = length lines in
    let at = some_line total (k - 1) rule broken.readings broken.verdict.0 in
    let long = AllZip-long IsReading (take k lines) broken.readings broken.read in
    let less : k ≤ n = omega (arith, at, long, length-take k lines, sound.verdict.0) in
    let there = no_further lines total k n rule broken.readings sound.readings broken.read sound.read less broken.verdict.0 in
    let whole = AllZip-long IsReading (take n lines) sound.readings sound.read in
    let none = sym (sound.verdict.1 (k - 1) (omega (arith, there.1, whole, length-take n lines))) ∙ there.0 in absurd (cc)

ordered : (lines : List (List ℕ)) (k j rule other : ℕ) → IsAudit lines (audit.Broken k rule) → IsAudit lines (audit.Broken j other) → k ≤ j → (k ≡ j) × (rule ≡ other)
ordered lines k j rule other is also le =
    let total = length lines in
    let there = no_further lines total k j rule is.readings also.readings is.read also.read le is.verdict.0 in
    by_order (same_or_less k j le) there.0 there.2
  where
    same_or_less : (a b : ℕ) → a ≤ b → (a < b) ⊎ (a ≡ b)
    same_or_less a b le = grind arith

    by_order : (k < j) ⊎ (k ≡ j) → rule_at (length lines) also.readings (k - 1) ≡ Some rule → 0 < k → (k ≡ j) × (rule ≡ other)
    by_order (inl less) there some = let none = sym (also.verdict.1 (k - 1) (omega arith)) ∙ there in absurd (cc)
    by_order (inr same) there some = (same, same_Some rule other (sym there ∙ ap (λ n. rule_at (length lines) also.readings (n - 1)) same ∙ also.verdict.0))

pub one_audit : (lines : List (List ℕ)) (a b : Audit) → IsAudit lines a → IsAudit lines b → a ≡ b
one_audit lines (audit.Sound n) (audit.Sound m) is also = ap audit.Sound (is.verdict.0 ∙ sym also.verdict.0)
one_audit lines (audit.Sound n) (audit.Broken k rule) is also = absurd (sound_or_broken lines n k rule is also)
one_audit lines (audit.Broken k rule) (audit.Sound n) is also = absurd (sound_or_broken lines n k rule also is)
one_audit lines (audit.Broken k rule) (audit.Broken j other) is also = elim (either_way k j) [
  | inl le ↦ let same = ordered lines k j rule other is also le in λ i. audit.Broken (same.0 i) (same.1 i)
  | inr le ↦ let same = ordered lines j k other rule also is le in λ i. audit.Broken (sym same.0 i) (sym same.1 i)
]
  where
    either_way : (a b : ℕ) → (a ≤ b) ⊎ (b ≤ a)
    either_way a b = grind arith
