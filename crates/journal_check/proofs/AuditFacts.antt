-- The lines of a text one by one, and what an audit has seen of them.
use Rattle.std.proofs.Common.{◌≡◌, ℕ, zero, suc, ◌+◌, ◌-◌, ◌<◌, ◌≤◌, ◌==◌, nat_lt, Bool, true, false, not, cond, List, [], ◌∷◌, ◌++◌, length, take, drop, reverse, Some, None, refl, sym, ap, ◌∙◌, subst, arith, add-one, ◌⊎◌, inl, inr}
use Rattle.std.specs.Prelude.{slice_get, option_and_then, position}
use Rattle.std.specs.List.{position_or_len, onto_first}
use Rattle.std.proofs.Math.Seq.{take-append_seam}
use Rattle.std.specs.Cmp.{nat_eq_equiv}
use Rattle.std.proofs.lemmas.Bool.{ltb-true, ltb-false, ne_eqb}
use Rattle.std.proofs.lemmas.List.{take-append-le, reverse-append, length-take-le, length-drop}
use Rattle.std.proofs.lemmas.Slice.Zip.{AllZip-long}
use Rattle.journal_check.specs.declared.answers.Audit.TheVariants as audit
use Rattle.journal_check.specs.declared.books.Book.{Book}
use Rattle.journal_check.specs.declared.readings.Reading.{Reading}
use Rattle.journal_check.specs.Lines.{lines_of}
use Rattle.journal_check.specs.Readings.{IsReading, AreReadings}
use Rattle.journal_check.specs.Rules.{least_rule}
use Rattle.journal_check.specs.Audits.{rule_at, KeepsRules, IsAudit}
use Rattle.journal_check.specs.Tables.{IsBook, Judges}

abbrev pub is_feed : ℕ → Bool
is_feed byte = byte == 10

-- a text with a line feed has its first line up to that
cut_by : (byte : ℕ) (text : List ℕ) (test : Bool) → is_feed byte ≡ test → position_or_len is_feed (byte ∷ text) < length (byte ∷ text)
    → (position_or_len is_feed text < length text → lines_of text ≡ take (position_or_len is_feed text + 1) text ∷ lines_of (drop (position_or_len is_feed text + 1) text))
    → lines_of (byte ∷ text) ≡ take (position_or_len is_feed (byte ∷ text) + 1) (byte ∷ text) ∷ lines_of (drop (position_or_len is_feed (byte ∷ text) + 1) (byte ∷ text))
cut_by byte text true is at more =
    ap (λ b. cond b ((byte ∷ []) ∷ lines_of text) (onto_first byte (lines_of text))) is
    ∙ sym (ap (λ b. let k = cond (not b) (1 + position_or_len is_feed text) 0 + 1 in take k (byte ∷ text) ∷ lines_of (drop k (byte ∷ text))) is)
cut_by byte text false is at more =
    let n = position_or_len is_feed text in
    let place : position_or_len is_feed (byte ∷ text) ≡ 1 + n = ap (λ b. cond (not b) (1 + n) 0) is in
    let next : position_or_len is_feed (byte ∷ text) + 1 ≡ suc (n + 1) = omega (arith, place) in
    ap (λ b. cond b ((byte ∷ []) ∷ lines_of text) (onto_first byte (lines_of text))) is
    ∙ ap (onto_first byte) (more (omega (arith, at, place)))
    ∙ sym (ap (λ k. take k (byte ∷ text) ∷ lines_of (drop k (byte ∷ text))) next)

first_line : (text : List ℕ) → position_or_len is_feed text < length text
    → lines_of text ≡ take (position_or_len is_feed text + 1) text ∷ lines_of (drop (position_or_len is_feed text + 1) text)
first_line [] at = absurd (omega arith)
first_line (byte ∷ text) at = cut_by byte text (is_feed byte) refl at (first_line text)

place_by : (a b place : ℕ) (test : Bool) → nat_lt a b ≡ test → cond test (Some a) None ≡ Some place → (a < b) × (a ≡ place)
place_by a b place true is e = (ltb-true a b is, cc)
place_by a b place false is e = absurd (cc)

pub line_at : (text : List ℕ) (place : ℕ) → position is_feed text ≡ Some place → lines_of text ≡ take (place + 1) text ∷ lines_of (drop (place + 1) text)
line_at text place e =
    let at = place_by (position_or_len is_feed text) (length text) place (nat_lt (position_or_len is_feed text) (length text)) refl e in
    subst (λ n. lines_of text ≡ take (n + 1) text ∷ lines_of (drop (n + 1) text)) at.1 (first_line text at.0)

-- a text without one is one line
without : (byte : ℕ) (text : List ℕ) (test : Bool) → is_feed byte ≡ test → length (byte ∷ text) ≤ position_or_len is_feed (byte ∷ text) → (is_feed byte ≡ false) × (length text ≤ position_or_len is_feed text)
without byte text true is at =
    let none : position_or_len is_feed (byte ∷ text) ≡ 0 = ap (λ b. cond (not b) (1 + position_or_len is_feed text) 0) is in absurd (omega arith)
without byte text false is at =
    let place : position_or_len is_feed (byte ∷ text) ≡ 1 + position_or_len is_feed text = ap (λ b. cond (not b) (1 + position_or_len is_feed text) 0) is in (is, omega (arith, at, place))

only_line : (byte : ℕ) (text : List ℕ) → length (byte ∷ text) ≤ position_or_len is_feed (byte ∷ text) → lines_of (byte ∷ text) ≡ (byte ∷ text) ∷ []
only_line byte [] at =
    let parts = without byte [] (is_feed byte) refl at in ap (λ b. cond b ((byte ∷ []) ∷ []) (onto_first byte [])) parts.0
only_line byte (next ∷ text) at =
    let parts = without byte (next ∷ text) (is_feed byte) refl at in
    ap (λ b. cond b ((byte ∷ []) ∷ lines_of (next ∷ text)) (onto_first byte (lines_of (next ∷ text)))) parts.0 ∙ ap (onto_first byte) (only_line next text parts.1)

none_by : (a b : ℕ) (test : Bool) → nat_lt a b ≡ test → cond test (Some a) None ≡ None → b ≤ a
none_by a b true is e = absurd (cc)
none_by a b false is e = ltb-false a b is

pub one_line : (text : List ℕ) → 0 < length text → position is_feed text ≡ None → lines_of text ≡ text ∷ []
one_line [] some e = absurd (omega arith)
one_line (byte ∷ text) some e = only_line byte text (none_by (position_or_len is_feed (byte ∷ text)) (length (byte ∷ text)) (nat_lt (position_or_len is_feed (byte ∷ text)) (length (byte ∷ text))) refl e)

-- a list at a place
split : {X : Type 0} (n : ℕ) (xs : List X) (x : X) (rest : List X) → drop n xs ≡ x ∷ rest → (take (suc n) xs ≡ take n xs ++ x ∷ []) × (drop (suc n) xs ≡ rest)
split zero [] x rest e = absurd (cc)
split zero (y ∷ xs) x rest e = let head : y ≡ x = cc in (ap (λ z. z ∷ []) head, cc)
split (suc n) [] x rest e = absurd (cc)
split (suc n) (y ∷ xs) x rest e = let parts = split n xs x rest e in (ap (λ zs. y ∷ zs) parts.0, parts.1)

get_end : {X : Type 0} (xs : List X) (x : X) → slice_get (xs ++ x ∷ []) (length xs) ≡ Some x
get_end [] x = refl
get_end (y ∷ xs) x = get_end xs x

get_front : {X : Type 0} (xs ys : List X) (i : ℕ) → i < length xs → slice_get (xs ++ ys) i ≡ slice_get xs i
get_front [] ys i at = absurd (omega arith)
get_front (x ∷ xs) ys zero at = refl
get_front (x ∷ xs) ys (suc i) at = get_front xs ys i (omega arith)

more_readings : (lines : List (List ℕ)) (readings : List Reading) (line : List ℕ) (now : Reading) → AreReadings lines readings → IsReading line now → AreReadings (lines ++ line ∷ []) (readings ++ now ∷ [])
more_readings [] [] line now are is = (is, tt)
more_readings [] (r ∷ readings) line now are is = absurd are
more_readings (l ∷ lines) [] line now are is = absurd are
more_readings (l ∷ lines) (r ∷ readings) line now are is = (are.0, more_readings lines readings line now are.1 is)

-- the rule of the last of some readings, and those of the others
rule_now : (total : ℕ) (readings : List Reading) (now : Reading) → rule_at total (readings ++ now ∷ []) (length readings) ≡ least_rule (length readings + 1 == total) now (reverse readings)
rule_now total readings now =
    ap (option_and_then (λ r. least_rule (length readings + 1 == total) r (reverse (take (length readings) (readings ++ now ∷ []))))) (get_end readings now)
    ∙ ap (λ front. least_rule (length readings + 1 == total) now (reverse front)) (take-append_seam readings (now ∷ []))

rule_before : (total : ℕ) (readings : List Reading) (now : Reading) (index : ℕ) → index < length readings → rule_at total (readings ++ now ∷ []) index ≡ rule_at total readings index
rule_before total readings now index at =
    ap (option_and_then (λ r. least_rule (index + 1 == total) r (reverse (take index (readings ++ now ∷ []))))) (get_front readings (now ∷ []) index at)
    ∙ ap (λ front. option_and_then (λ r. least_rule (index + 1 == total) r (reverse front)) (slice_get readings index)) (take-append-le index readings (now ∷ []) (omega arith))

-- what an audit has seen of a text before some of its lines are left
pub record IsSeen (lines : List (List ℕ)) (rest : List ℕ) (count : ℕ) (book : Book) : Type 0 where
  pub readings : List Reading
  pub left : drop count lines ≡ lines_of rest
  pub most : count ≤ length lines
  pub read : AreReadings (take count lines) readings
  pub kept : IsBook (reverse readings) book
  pub sound : KeepsRules (length lines) readings count

pub seen_none : (text : List ℕ) (book : Book) → IsBook [] book → IsSeen (lines_of text) text 0 book
seen_none text book kept = record { readings = []; left = refl; most = omega arith; read = tt; kept = kept; sound = λ index at. absurd (omega arith) }

some_lines : (byte : ℕ) (text : List ℕ) (test : Bool) → is_feed byte ≡ test → 0 < length (lines_of (byte ∷ text))
some_lines byte text true is = let one = ap (λ b. length (cond b ((byte ∷ []) ∷ lines_of text) (onto_first byte (lines_of text)))) is in omega arith
some_lines byte text false is = let one = ap (λ b. length (cond b ((byte ∷ []) ∷ lines_of text) (onto_first byte (lines_of text)))) is in omega (arith, onto_some (lines_of text))
  where
    onto_some : (lines : List (List ℕ)) → 0 < length (onto_first byte lines)
    onto_some [] = omega arith
    onto_some (line ∷ lines) = omega arith

-- whether a line is the last
last_is : (count total : ℕ) (more : List ℕ) → total ≡ count + 1 + length (lines_of more) → (length more == 0) ≡ (count + 1 == total)
last_is count total [] is = let end : total ≡ count + 1 = omega (arith, is) in sym (nat_eq_equiv.refl total) ∙ ap (λ n. n == total) end
last_is count total (byte ∷ more) is =
    ne_eqb (length (byte ∷ more)) 0 (λ e. absurd (omega (arith, e)))
    ∙ sym (ne_eqb (count + 1) total (λ e. absurd (omega (arith, e, some_lines byte more (is_feed byte) refl))))

record IsNext (lines : List (List ℕ)) (rest : List ℕ) (count : ℕ) (book : Book) (line more : List ℕ) (seen : IsSeen lines rest count book) : Type 0 where
  len : length seen.readings ≡ count
  front : take (count + 1) lines ≡ take count lines ++ line ∷ []
  back : drop (count + 1) lines ≡ lines_of more
  total : length lines ≡ count + 1 + length (lines_of more)

next_is : (lines : List (List ℕ)) (rest : List ℕ) (count : ℕ) (book : Book) (line more : List ℕ) (seen : IsSeen lines rest count book) → lines_of rest ≡ line ∷ lines_of more → IsNext lines rest count book line more seen
next_is lines rest count book line more seen is =
    let parts = split count lines line (lines_of more) (seen.left ∙ is) in
    let step : count + 1 ≡ suc count = add-one count in
    record {
      len = AllZip-long IsReading (take count lines) seen.readings seen.read ∙ length-take-le count lines seen.most;
      front = ap (λ n. take n lines) step ∙ parts.0;
      back = ap (λ n. drop n lines) step ∙ parts.1;
      total = omega (arith, ap length (seen.left ∙ is), length-drop count lines, seen.most);
    }

pub seen_more : (lines : List (List ℕ)) (rest : List ℕ) (count : ℕ) (book new : Book) (line more : List ℕ) (is_last : Bool) (seen : IsSeen lines rest count book) → lines_of rest ≡ line ∷ lines_of more
    → is_last ≡ (length more == 0) → Judges is_last line (reverse seen.readings) None new → IsSeen lines more (count + 1) new
seen_more lines rest count book new line more is_last seen is last judges =
    let next = next_is lines rest count book line more seen is in
    let now = judges.now in
    let rule_is : rule_at (length lines) (seen.readings ++ now ∷ []) (length seen.readings) ≡ None =
    rule_now (length lines) seen.readings now ∙ ap (λ n. least_rule (n + 1 == length lines) now (reverse seen.readings)) next.len
    ∙ ap (λ b. least_rule b now (reverse seen.readings)) (sym (last ∙ last_is count (length lines) more next.total)) ∙ sym judges.rule in
    record {
      readings = seen.readings ++ now ∷ [];
      left = next.back;
      most = omega (arith, next.total);
      read = subst (λ front. AreReadings front (seen.readings ++ now ∷ [])) (sym next.front) (more_readings (take count lines) seen.readings line now seen.read judges.read);
      kept = subst (λ before. IsBook before new) (sym (reverse-append seen.readings (now ∷ []))) (judges.kept refl);
      sound = λ index at. elim (lt_or_eq index count at) [
        | inl below ↦ rule_before (length lines) seen.readings now index (omega (arith, next.len)) ∙ seen.sound index below
        | inr same ↦ ap (rule_at (length lines) (seen.readings ++ now ∷ [])) (same ∙ sym next.len) ∙ rule_is
      ];
    }
  where
    lt_or_eq : (a b : ℕ) → a < b + 1 → (a < b) ⊎ (a ≡ b)
    lt_or_eq a b at = grind arith

pub broken_at : (lines : List (List ℕ)) (rest : List ℕ) (count : ℕ) (book new : Book) (line more : List ℕ) (is_last : Bool) (rule : ℕ) (seen : IsSeen lines rest count book) → lines_of rest ≡ line ∷ lines_of more
    → is_last ≡ (length more == 0) → Judges is_last line (reverse seen.readings) (Some rule) new → IsAudit lines (audit.Broken (count + 1) rule)
broken_at lines rest count book new line more is_last rule seen is last judges =
    let next = next_is lines rest count book line more seen is in
    let now = judges.now in
    let rule_is : rule_at (length lines) (seen.readings ++ now ∷ []) (length seen.readings) ≡ Some rule =
    rule_now (length lines) seen.readings now ∙ ap (λ n. least_rule (n + 1 == length lines) now (reverse seen.readings)) next.len
    ∙ ap (λ b. least_rule b now (reverse seen.readings)) (sym (last ∙ last_is count (length lines) more next.total)) ∙ sym judges.rule in
    let place : count + 1 - 1 ≡ length seen.readings = omega (arith, next.len) in
    record {
      readings = seen.readings ++ now ∷ [];
      read = subst (λ front. AreReadings front (seen.readings ++ now ∷ [])) (sym next.front) (more_readings (take count lines) seen.readings line now seen.read judges.read);
      verdict = (ap (rule_at (length lines) (seen.readings ++ now ∷ [])) place ∙ rule_is, λ index at. rule_before (length lines) seen.readings now index (omega (arith, next.len)) ∙ seen.sound index (omega arith));
    }

pub all_sound : (lines : List (List ℕ)) (rest : List ℕ) (count : ℕ) (book : Book) → IsSeen lines rest count book → length rest ≡ 0 → IsAudit lines (audit.Sound count)
all_sound lines [] count book seen none =
    record { readings = seen.readings; read = seen.read; verdict = (omega (arith, ap length seen.left, length-drop count lines, seen.most), seen.sound) }
all_sound lines (byte ∷ rest) count book seen none = absurd (omega arith)
