-- Every text has an answer of an audit.
use Rattle.std.proofs.Common.{◌≡◌, ◌⊎◌, ℕ, zero, suc, ◌+◌, ◌-◌, ◌<◌, ◌≤◌, ◌^◌, Bool, true, false, List, [], ◌∷◌, length, take, Option, Some, None, refl, sym, ap, subst, ◌∙◌, inl, inr, arith, bytes_eq}
use Rattle.std.specs.Prelude.{slice_get}
use Rattle.std.specs.List.{All}
use Rattle.std.proofs.lemmas.Bool.{cases_lt, false≢true}
use Rattle.std.proofs.lemmas.List.{take_all}
use Rattle.std.proofs.lemmas.List.Elements.{All-nil, All-cons, All-head, All-tail}
use Rattle.std.proofs.lemmas.Slice.Eq.{bytes_eq-Decides}
use Rattle.word_kinds.specs.declared.causes.Cause.{Cause}
use Rattle.word_kinds.specs.declared.causes.Cause.TheVariants as cause
use Rattle.word_kinds.specs.Spellings.{is_name, words_of as split_words}
use Rattle.word_kinds.specs.Texts.{Word, Fixed, Name, Number, Digits, Offset, Bytes, Row, Escaped, Trace, Lane, Bound, Dotted, Side, Open, Service, State, Driver, OnOff}
use Rattle.word_kinds.specs.Readings.{IsGood, is_clean}
use Rattle.word_kinds.specs.Rows.{AreGood}
use Rattle.journal.specs.declared.events.Event.{Event}
use Rattle.journal.specs.declared.events.Event.TheVariants as event
use Rattle.journal.specs.declared.notices.Notice.{Notice}
use Rattle.journal.specs.declared.notices.Notice.TheVariants as notice
use Rattle.journal.specs.Lines.{words_of, line}
use Rattle.journal.specs.Notices.{notice_line}
use Rattle.journal.specs.Reading.{HasEra, IsWritten, event_of}
use Rattle.journal.proofs.ReadBack.{no_event, same_event}
use Rattle.journal_check.specs.declared.answers.Audit.{Audit}
use Rattle.journal_check.specs.declared.answers.Audit.TheVariants as audit
use Rattle.journal_check.specs.declared.readings.Reading.{Reading}
use Rattle.journal_check.specs.declared.readings.Reading.TheVariants as reading
use Rattle.journal_check.specs.Readings.{AreReadings, IsEnding, IsReading}
use Rattle.journal_check.specs.Audits.{IsAudit, KeepsRules, rule_at}

-- ---- a statement holds, or it doesn't

abbrev Or : Type 0 → Type 0
Or A = A ⊎ (A → ⊥)

both : (A B : Type 0) → Or A → Or B → Or (A × B)
both A B (inl a) (inl b) = inl (a, b)
both A B (inl a) (inr never) = inr (λ ab. never ab.1)
both A B (inr never) other = inr (λ ab. never ab.0)

all_three : (A B C : Type 0) → Or A → Or B → Or C → Or (A × B × C)
all_three A B C (inl a) (inl b) (inl c) = inl (a, b, c)
all_three A B C (inl a) (inl b) (inr never) = inr (λ abc. never abc.2)
all_three A B C (inl a) (inr never) other = inr (λ abc. never abc.1)
all_three A B C (inr never) other last = inr (λ abc. never abc.0)

below_or : (a b : ℕ) → Or (a < b)
below_or a b = by (cases_lt a b)
  where
    by : (a < b) ⊎ (b ≤ a) → Or (a < b)
    by (inl less) = inl less
    by (inr most) = inr (λ less. omega (arith, less, most))

most_or : (a b : ℕ) → Or (a ≤ b)
most_or a b = by (cases_lt b a)
  where
    by : (b < a) ⊎ (a ≤ b) → Or (a ≤ b)
    by (inl less) = inr (λ most. omega (arith, less, most))
    by (inr most) = inl most

true_or : (b : Bool) → Or (b ≡ true)
true_or true = inl refl
true_or false = inr (λ same. false≢true same)

bytes_or : (a b : List ℕ) → Or (a ≡ b)
bytes_or a b = by (true_or (bytes_eq a b))
  where
    by : Or (bytes_eq a b ≡ true) → Or (a ≡ b)
    by (inl same) = inl ((bytes_eq-Decides a b).0 same)
    by (inr differ) = inr (λ same. differ ((bytes_eq-Decides a b).1 same))

all_or : (P : ℕ → Type 0) → ((x : ℕ) → Or (P x)) → (xs : List ℕ) → Or (All P xs)
all_or P each [] = inl (All-nil P)
all_or P each (x ∷ xs) = by (each x) (all_or P each xs)
  where
    by : Or (P x) → Or (All P xs) → Or (All P (x ∷ xs))
    by (inl first) (inl more) = inl (All-cons P x xs first more)
    by (inl first) (inr never) = inr (λ all. never (All-tail P x xs all))
    by (inr never) more = inr (λ all. never (All-head P x xs all))

-- ---- an event whose words are of their kinds

byte_or : (x : ℕ) → Or ((0 < x) × (x < 256))
byte_or x = both (0 < x) (x < 256) (below_or 0 x) (below_or x 256)

good_or : (word : Word) → Or (IsGood word)
good_or (Fixed text) = true_or (is_clean text)
good_or (Name name) = true_or (is_name name)
good_or (Number number) = below_or number (2 ^ 64)
good_or (Digits number) = below_or number (2 ^ 32)
good_or (Offset number) = below_or number (2 ^ 64)
good_or (Bytes bytes) =
    both (length bytes ≤ 512) (All (λ byte. byte < 256) bytes) (most_or (length bytes) 512) (all_or (λ byte. byte < 256) (λ byte. below_or byte 256) bytes)
good_or (Row most bytes) =
    all_three (1 ≤ length bytes) (length bytes ≤ most) (All (λ byte. byte < 256) bytes) (most_or 1 (length bytes)) (most_or (length bytes) most)
    (all_or (λ byte. byte < 256) (λ byte. below_or byte 256) bytes)
good_or (Escaped text) =
    both (length text ≤ 31) (All (λ byte. (0 < byte) × (byte < 256)) text) (most_or (length text) 31) (all_or (λ byte. (0 < byte) × (byte < 256)) byte_or text)
good_or (Trace text) = all_or (λ byte. (0 < byte) × (byte < 256)) byte_or text
good_or (Lane lane) = below_or lane 2
good_or (Bound endpoint) = both (endpoint.address < 2 ^ 32) (endpoint.generation < 2 ^ 64) (below_or endpoint.address (2 ^ 32)) (below_or endpoint.generation (2 ^ 64))
good_or (Dotted first second) = both (first < 2 ^ 64) (second < 2 ^ 64) (below_or first (2 ^ 64)) (below_or second (2 ^ 64))
good_or (Side end) = inl tt
good_or (Open is_live) = inl tt
good_or (Service what) = inl tt
good_or (State state) = inl tt
good_or (Driver kind) = inl tt
good_or (OnOff switch) = inl tt

words_or : (words : List Word) → Or (AreGood words)
words_or [] = inl tt
words_or (word ∷ words) = both (IsGood word) (AreGood words) (good_or word) (words_or words)

era_or : (e : Event) → Or (HasEra e)
era_or (event.Dead x c era) = below_or era.inc (2 ^ 32)
era_or (event.Already x era) = below_or era.inc (2 ^ 32)
era_or e = inl tt

written_or : (e : Event) → Or (IsWritten e)
written_or e = both (AreGood (words_of e)) (HasEra e) (words_or (words_of e)) (era_or e)

-- ---- what a line says

abbrev SaysEvent : List ℕ → Type 0
SaysEvent bytes = (e : Event) × IsWritten e × (line e ≡ bytes)

abbrev SaysNoEvent : List ℕ → Type 0
SaysNoEvent bytes = (e : Event) → IsWritten e → line e ≡ bytes → ⊥

event_found : (bytes : List ℕ) → SaysEvent bytes ⊎ SaysNoEvent bytes
event_found bytes = by (event_of (take 9 (split_words (take (length bytes - 1) bytes)))) refl
  where
    by : (found : Option Event) → event_of (take 9 (split_words (take (length bytes - 1) bytes))) ≡ found → SaysEvent bytes ⊎ SaysNoEvent bytes
    by None is = inr (λ e good same. no_event e bytes None (sym is) refl good same)
    by (Some e) is = told (both (IsWritten e) (line e ≡ bytes) (written_or e) (bytes_or (line e) bytes))
      where
        told : Or (IsWritten e × (line e ≡ bytes)) → SaysEvent bytes ⊎ SaysNoEvent bytes
        told (inl says) = inl (e, says.0, says.1)
        told (inr never) = inr (λ other good same. let equal = same_event other e bytes (Some e) (sym is) refl good same in never (subst IsWritten (sym equal) good, ap line equal ∙ same))

-- a number below a limit, or a cause, of which a statement holds
below_found : (P : ℕ → Type 0) → ((k : ℕ) → Or (P k)) → (n : ℕ) → ((k : ℕ) × (k < n) × P k) ⊎ ((k : ℕ) → k < n → P k → ⊥)
below_found P each zero = inr (λ k less. omega (arith, less))
below_found P each (suc n) = by (each n) (below_found P each n)
  where
    by : Or (P n) → ((k : ℕ) × (k < n) × P k) ⊎ ((k : ℕ) → k < n → P k → ⊥) → ((k : ℕ) × (k < suc n) × P k) ⊎ ((k : ℕ) → k < suc n → P k → ⊥)
    by (inl holds) rest = inl (n, omega arith, holds)
    by (inr never) (inl found) = inl (found.0, omega (arith, found.1), found.2)
    by (inr never) (inr none) = inr (λ k less holds. at k holds (cases_lt k n) less)
      where
        at : (k : ℕ) → P k → (k < n) ⊎ (n ≤ k) → k < suc n → ⊥
        at k holds (inl below) less = none k below holds
        at k holds (inr most) less = let last : k ≡ n = omega (arith, most, less) in never (subst P last holds)

module _ (Q : Cause → Type 0) where
  no_cause : (Q cause.Size → ⊥) → (Q cause.Lines → ⊥) → (Q cause.Byte → ⊥) → (Q cause.Block → ⊥) → (Q cause.Command → ⊥) → (Q cause.Words → ⊥) → (Q cause.Value → ⊥) → (why : Cause) → Q why → ⊥
  no_cause a b c d e f g cause.Size = a
  no_cause a b c d e f g cause.Lines = b
  no_cause a b c d e f g cause.Byte = c
  no_cause a b c d e f g cause.Block = d
  no_cause a b c d e f g cause.Command = e
  no_cause a b c d e f g cause.Words = f
  no_cause a b c d e f g cause.Value = g

  some_cause : Or (Q cause.Size) → Or (Q cause.Lines) → Or (Q cause.Byte) → Or (Q cause.Block) → Or (Q cause.Command) → Or (Q cause.Words) → Or (Q cause.Value)
      → Or ((why : Cause) × Q why)
  some_cause (inl is) b c d e f g = inl (cause.Size, is)
  some_cause (inr i) (inl is) c d e f g = inl (cause.Lines, is)
  some_cause (inr i) (inr j) (inl is) d e f g = inl (cause.Byte, is)
  some_cause (inr i) (inr j) (inr k) (inl is) e f g = inl (cause.Block, is)
  some_cause (inr i) (inr j) (inr k) (inr l) (inl is) f g = inl (cause.Command, is)
  some_cause (inr i) (inr j) (inr k) (inr l) (inr m) (inl is) g = inl (cause.Words, is)
  some_cause (inr i) (inr j) (inr k) (inr l) (inr m) (inr n) (inl is) = inl (cause.Value, is)
  some_cause (inr i) (inr j) (inr k) (inr l) (inr m) (inr n) (inr o) = inr (λ found. no_cause i j k l m n o found.0 found.1)

  cause_or : ((why : Cause) → Or (Q why)) → Or ((why : Cause) × Q why)
  cause_or each = some_cause (each cause.Size) (each cause.Lines) (each cause.Byte) (each cause.Block) (each cause.Command) (each cause.Words) (each cause.Value)

abbrev SaysEnding : List ℕ → Type 0
SaysEnding bytes = (n : Notice) × IsEnding n × (notice_line n ≡ bytes)

abbrev SaysNoEnding : List ℕ → Type 0
SaysNoEnding bytes = (n : Notice) → IsEnding n → notice_line n ≡ bytes → ⊥

module _ (bytes : List ℕ) where
  abbrev IsRefusal : ℕ → Cause → Type 0
  IsRefusal number why = notice_line (notice.Refused number why) ≡ bytes

  no_ending : (notice_line notice.ReadFault ≡ bytes → ⊥) → (notice_line notice.StoreFault ≡ bytes → ⊥) → (notice_line notice.StepLimit ≡ bytes → ⊥)
      → ((number : ℕ) → number < 2 ^ 32 → ((why : Cause) × IsRefusal number why) → ⊥) → SaysNoEnding bytes
  no_ending reads stores steps refuses notice.ReadFault ends is = reads is
  no_ending reads stores steps refuses notice.StoreFault ends is = stores is
  no_ending reads stores steps refuses notice.StepLimit ends is = steps is
  no_ending reads stores steps refuses (notice.Refused number why) ends is = refuses number ends (why, is)
  no_ending reads stores steps refuses other ends is = absurd ends

  refusal_or : (number : ℕ) → Or ((why : Cause) × IsRefusal number why)
  refusal_or number = cause_or (IsRefusal number) (λ why. bytes_or (notice_line (notice.Refused number why)) bytes)

  some_ending : Or (notice_line notice.ReadFault ≡ bytes) → Or (notice_line notice.StoreFault ≡ bytes) → Or (notice_line notice.StepLimit ≡ bytes)
      → ((number : ℕ) × (number < 2 ^ 32) × ((why : Cause) × IsRefusal number why)) ⊎ ((number : ℕ) → number < 2 ^ 32 → ((why : Cause) × IsRefusal number why) → ⊥)
      → SaysEnding bytes ⊎ SaysNoEnding bytes
  some_ending (inl is) stores steps refuses = inl (notice.ReadFault, tt, is)
  some_ending (inr i) (inl is) steps refuses = inl (notice.StoreFault, tt, is)
  some_ending (inr i) (inr j) (inl is) refuses = inl (notice.StepLimit, tt, is)
  some_ending (inr i) (inr j) (inr k) (inl found) = inl (notice.Refused found.0 found.2.0, found.1, found.2.1)
  some_ending (inr i) (inr j) (inr k) (inr none) = inr (no_ending i j k none)

  ending_found : SaysEnding bytes ⊎ SaysNoEnding bytes
  ending_found =
      some_ending (bytes_or (notice_line notice.ReadFault) bytes) (bytes_or (notice_line notice.StoreFault) bytes) (bytes_or (notice_line notice.StepLimit) bytes)
      (below_found (λ number. (why : Cause) × IsRefusal number why) refusal_or (2 ^ 32))

  some_reading : SaysEvent bytes ⊎ SaysNoEvent bytes → SaysEnding bytes ⊎ SaysNoEnding bytes → (now : Reading) × IsReading bytes now
  some_reading (inl says) ending = (reading.Event says.0, (says.1, says.2))
  some_reading (inr none) (inl says) = (reading.Ending says.0, (says.1, says.2))
  some_reading (inr none) (inr never) = (reading.Nothing, record { no_event = none; no_ending = never })

  reading_found : (now : Reading) × IsReading bytes now
  reading_found = some_reading (event_found bytes) ending_found

readings_found : (lines : List (List ℕ)) → (readings : List Reading) × AreReadings lines readings
readings_found [] = ([], tt)
readings_found (first ∷ more) =
    let now = reading_found first in
    let rest = readings_found more in
    (now.0 ∷ rest.0, (now.1, rest.1))

-- ---- the first line that breaks a rule

get_front : (n k : ℕ) (xs : List Reading) → k < n → slice_get (take n xs) k ≡ slice_get xs k
get_front zero k xs less = absurd (omega (arith, less))
get_front (suc n) k [] less = refl
get_front (suc n) zero (x ∷ xs) less = refl
get_front (suc n) (suc k) (x ∷ xs) less = get_front n k xs (omega (arith, less))

take_front : (n k : ℕ) (xs : List Reading) → k ≤ n → take k (take n xs) ≡ take k xs
take_front n zero xs most = refl
take_front zero (suc k) xs most = absurd (omega (arith, most))
take_front (suc n) (suc k) [] most = refl
take_front (suc n) (suc k) (x ∷ xs) most = ap (λ rest. x ∷ rest) (take_front n k xs (omega (arith, most)))

read_front : (n : ℕ) (lines : List (List ℕ)) (readings : List Reading) → AreReadings lines readings → AreReadings (take n lines) (take n readings)
read_front zero lines readings are = tt
read_front (suc n) [] [] are = tt
read_front (suc n) [] (now ∷ rest) are = absurd are
read_front (suc n) (first ∷ more) [] are = absurd are
read_front (suc n) (first ∷ more) (now ∷ rest) are = (are.0, read_front n more rest are.1)

rule_front : (count n k : ℕ) (readings : List Reading) → k < n → rule_at count (take n readings) k ≡ rule_at count readings k
rule_front count n k readings less =
    rw (get_front n k readings less, take_front n k readings (omega (arith, less))) refl

abbrev Breaks : ℕ → List Reading → ℕ → Type 0
Breaks count readings n = (k : ℕ) × (k < n) × ((rule : ℕ) × (rule_at count readings k ≡ Some rule) × KeepsRules count readings k)

first_broken : (count : ℕ) (readings : List Reading) (n : ℕ) → KeepsRules count readings n ⊎ Breaks count readings n
first_broken count readings zero = inl (λ index less. absurd (omega (arith, less)))
first_broken count readings (suc n) = by (first_broken count readings n)
  where
    by : KeepsRules count readings n ⊎ Breaks count readings n → KeepsRules count readings (suc n) ⊎ Breaks count readings (suc n)
    by (inr broken) = inr (broken.0, omega (arith, broken.1), broken.2)
    by (inl keeps) = at (rule_at count readings n) refl
      where
        last : rule_at count readings n ≡ None → (index : ℕ) → (index < n) ⊎ (n ≤ index) → index < suc n → rule_at count readings index ≡ None
        last none index (inl below) less = keeps index below
        last none index (inr most) less = let same : index ≡ n = omega (arith, most, less) in ap (rule_at count readings) same ∙ none

        at : (found : Option ℕ) → rule_at count readings n ≡ found → KeepsRules count readings (suc n) ⊎ Breaks count readings (suc n)
        at None is = inl (λ index less. last is index (cases_lt index n) less)
        at (Some rule) is = inr (n, omega arith, (rule, is, keeps))

answer_of : (lines : List (List ℕ)) (readings : List Reading) → AreReadings lines readings
    → KeepsRules (length lines) readings (length lines) ⊎ Breaks (length lines) readings (length lines) → (answer : Audit) × IsAudit lines answer
answer_of lines readings are (inl keeps) =
    let all : take (length lines) lines ≡ lines = take_all (length lines) lines (omega arith) in (
      audit.Sound (length lines),
      record {
        readings = readings;
        read = subst (λ (some : List (List ℕ)). AreReadings some readings) (sym all) are;
        verdict = (refl, keeps);
      },
    )
answer_of lines readings are (inr broken) =
    let k = broken.0 in
    let back : k ≡ k + 1 - 1 = omega arith in
    let count = length lines in
    let some = take (k + 1) readings in (
      audit.Broken (k + 1) broken.2.0,
      record {
        readings = some;
        read = read_front (k + 1) lines readings are;
        verdict = (
          ap (rule_at count some) (sym back) ∙ rule_front count (k + 1) k readings (omega arith) ∙ broken.2.1,
          subst (KeepsRules count some) back (λ index less. rule_front count (k + 1) index readings (omega (arith, less)) ∙ broken.2.2 index less),
        );
      },
    )

pub audit_found : (lines : List (List ℕ)) → (answer : Audit) × IsAudit lines answer
audit_found lines =
    let found = readings_found lines in
    answer_of lines found.0 found.1 (first_broken (length lines) found.0 (length lines))
