-- The lines of notices that end a transcript.
use Rattle.std.proofs.Common.{◌≡◌, ℕ, ◌-◌, ◌+◌, ◌<◌, ◌^◌, ◌%◌, true, false, List, [], ◌∷◌, ◌++◌, length, map, take, codes, refl, sym, ap, ◌∙◌, arith, length-append, bytes_eq}
use Rattle.std.specs.List.{join_with_byte}
use Rattle.std.specs.Fmt.{decimal}
use Rattle.std.proofs.Math.Seq.{take-append_seam}
use Rattle.std.proofs.lemmas.Slice.Eq.{bytes_eq-Decides}
use Rattle.word_kinds.specs.declared.causes.Cause.{Cause}
use Rattle.word_kinds.specs.declared.causes.Cause.TheVariants as cause
use Rattle.word_kinds.specs.Spellings.{words_of}
use Rattle.word_kinds.specs.Texts.{Word, Fixed, Number, text}
use Rattle.word_kinds.specs.Readings.{is_clean, number_read}
use Rattle.word_kinds.specs.Lines.{line_of}
use Rattle.word_kinds.proofs.Rows.{words_back}
use Rattle.word_kinds.proofs.Numbers.{word_back}
use Rattle.journal.specs.declared.notices.Notice.{Notice}
use Rattle.journal.specs.declared.notices.Notice.TheVariants as notice
use Rattle.journal.specs.Notices.{notice_line, notice_words, cause_text}
use Rattle.journal_check.specs.Readings.{IsEnding}

-- the lines without a number
pub read_fault_line : notice_line notice.ReadFault ≡ codes "* read fault" ++ 10 ∷ []
unfolding notice_line line_of
read_fault_line = refl

pub store_fault_line : notice_line notice.StoreFault ≡ codes "* store fault" ++ 10 ∷ []
unfolding notice_line line_of
store_fault_line = refl

pub step_limit_line : notice_line notice.StepLimit ≡ codes "* step limit" ++ 10 ∷ []
unfolding notice_line line_of
step_limit_line = refl

pub same_line : (n : Notice) (line bytes : List ℕ) → notice_line n ≡ line → bytes_eq bytes line ≡ true → notice_line n ≡ bytes
same_line n line bytes is same = is ∙ sym ((bytes_eq-Decides bytes line).0 same)

other_line : (n : Notice) (line bytes : List ℕ) → notice_line n ≡ line → bytes_eq bytes line ≡ false → notice_line n ≡ bytes → ⊥
other_line n line bytes is differ same = let held = (bytes_eq-Decides bytes line).1 (sym same ∙ is) in let never : true ≡ false = sym held ∙ differ in absurd (cc)

-- no ending has a line that none of these is
pub no_ending : (bytes : List ℕ) → bytes_eq bytes (codes "* read fault" ++ 10 ∷ []) ≡ false → bytes_eq bytes (codes "* store fault" ++ 10 ∷ []) ≡ false → bytes_eq bytes (codes "* step limit" ++ 10 ∷ []) ≡ false
    → ((number : ℕ) (why : Cause) → number < 2 ^ 32 → notice_line (notice.Refused number why) ≡ bytes → ⊥) → (n : Notice) → IsEnding n → notice_line n ≡ bytes → ⊥
no_ending bytes reads stores steps refuses notice.ReadFault ends is = other_line notice.ReadFault _ bytes read_fault_line reads is
no_ending bytes reads stores steps refuses notice.StoreFault ends is = other_line notice.StoreFault _ bytes store_fault_line stores is
no_ending bytes reads stores steps refuses notice.StepLimit ends is = other_line notice.StepLimit _ bytes step_limit_line steps is
no_ending bytes reads stores steps refuses (notice.Refused number why) ends is = refuses number why ends is
no_ending bytes reads stores steps refuses other ends is = absurd ends

-- the words of a refusal
cause_clean : (why : Cause) → is_clean (cause_text why) ≡ true
cause_clean cause.Size = refl
cause_clean cause.Lines = refl
cause_clean cause.Byte = refl
cause_clean cause.Block = refl
cause_clean cause.Command = refl
cause_clean cause.Words = refl
cause_clean cause.Value = refl

abbrev refusal_words : ℕ → Cause → List Word
refusal_words number why = Fixed (codes "*") ∷ Fixed (codes "refused") ∷ Number number ∷ Fixed (cause_text why) ∷ []

cut : (front bytes : List ℕ) → front ++ 10 ∷ [] ≡ bytes → take (length bytes - 1) bytes ≡ front
cut front bytes is =
    let len : length bytes ≡ length front + 1 = ap length (sym is) ∙ length-append front (10 ∷ []) in
    let count : length bytes - 1 ≡ length front = omega arith in
    ap (λ n. take n bytes) count ∙ ap (take (length front)) (sym is) ∙ take-append_seam front (10 ∷ [])

pub some_line : (n : Notice) (bytes : List ℕ) → notice_line n ≡ bytes → 0 < length bytes
unfolding notice_line line_of
some_line n bytes is = omega (arith, ap length is, length-append (join_with_byte 32 (map text (notice_words n))) (10 ∷ []))

pub refusal_said : (number : ℕ) (why : Cause) (bytes : List ℕ) → number < 2 ^ 32 → notice_line (notice.Refused number why) ≡ bytes
    → take 9 (words_of (take (length bytes - 1) bytes)) ≡ codes "*" ∷ codes "refused" ∷ decimal number ∷ cause_text why ∷ []
unfolding notice_line line_of
refusal_said number why bytes small is =
    ap (λ front. take 9 (words_of front)) (cut (join_with_byte 32 (map text (refusal_words number why))) bytes is)
    ∙ ap (take 9) (words_back (refusal_words number why) (refl, (refl, (omega arith, (cause_clean why, tt)))))

pub number_said : (number : ℕ) → number < 2 ^ 32 → number_read (decimal number) % 4294967296 ≡ number
number_said number small =
    let read : number_read (decimal number) ≡ number = let same = word_back (Number number) (omega arith) in cc in
    omega arith
