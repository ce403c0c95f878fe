-- Rows of words: their texts are split from a line, fit their kinds and no other row's, and are read back.
use Rattle.std.proofs.Common.{◌≡◌, ℕ, zero, suc, ◌+◌, ◌*◌, ◌/◌, ◌%◌, ◌^◌, ◌<◌, ◌≤◌, ◌==◌, ◌&&◌, ◌||◌, not, Bool, true, false, cond, List, [], ◌∷◌, ◌++◌, length, drop, map, filter, codes, Some, refl, sym, ◌∙◌, ap, arith, bytes_eq, get_or}
use Rattle.std.specs.Prelude.{All, nat_le}
use Rattle.std.specs.Fmt.{decimal}
use Rattle.std.specs.List.{flat_map, list_all, slice_split, join_with_byte, find, slice_index}
use Rattle.std.proofs.lemmas.Bool.{ne_eqb, le-leb}
use Rattle.std.proofs.lemmas.Bool.Decides.{nat_tests}
use Rattle.std.proofs.lemmas.Fmt.{decimal_by_steps}
use Rattle.std.proofs.lemmas.List.{drop_more}
use Rattle.std.proofs.lemmas.List.Elements.{All-weaker}
use Rattle.std.proofs.lemmas.List.Splits.{slice_split_at, slice_split_none}
use Rattle.std.proofs.lemmas.Slice.Eq.{bytes_eq-Decides}
use Rattle.word_kinds.specs.Spellings.{words_of, is_name, is_digit}
use Rattle.word_kinds.specs.Texts.{Word, Fixed, Name, Number, Digits, Offset, Bytes, Row, Escaped, Trace, Lane, Bound, Dotted, Side, Open, Service, State, Driver, OnOff, text, hex_byte, hex_bytes, dotted_text}
use Rattle.word_kinds.specs.Readings.{LineKind, OfText, is_channel, is_zeroless, is_clean, kind_of, IsGood}
use Rattle.word_kinds.specs.Rows.{word_in, fits, fit, row_read, AreGood, differ, apart, all_apart}
use Rattle.word_kinds.proofs.Numbers.{word_back, escaped_back, channel_is, no_zero}
use Rattle.word_kinds.proofs.Clean.{is_other, both, parts, unless, clean_text, spaceless}

-- the words of a line are split at its spaces
abbrev is_space : ℕ → Bool
is_space byte = byte == 32

clean_parts : (bytes : List ℕ) → is_clean bytes ≡ true → (not (length bytes == 0) ≡ true) × All (λ byte. (byte == 32) ≡ false) bytes
clean_parts bytes e = let h = parts (not (length bytes == 0)) (list_all is_other bytes) e in (h.0, spaceless bytes h.1)

line_parts : (word : Word) (words : List Word) → IsGood word → AreGood words → slice_split is_space (join_with_byte 32 (text word ∷ map text words)) ≡ text word ∷ map text words
line_parts word [] good more = slice_split_none is_space (text word) (clean_parts (text word) (clean_text word good)).1
line_parts word (next ∷ words) good more =
    slice_split_at is_space (text word) 32 (join_with_byte 32 (text next ∷ map text words)) (clean_parts (text word) (clean_text word good)).1 refl
    ∙ ap (λ rest. text word ∷ rest) (line_parts next words more.0 more.1)

kept : (words : List Word) → AreGood words → filter (λ word. not (length word == 0)) (map text words) ≡ map text words
kept [] good = refl
kept (word ∷ words) good =
    ap (λ b. cond b (text word ∷ filter (λ word. not (length word == 0)) (map text words)) (filter (λ word. not (length word == 0)) (map text words))) (clean_parts (text word) (clean_text word good.0)).0
    ∙ ap (λ rest. text word ∷ rest) (kept words good.1)

pub words_back : (words : List Word) → AreGood words → words_of (join_with_byte 32 (map text words)) ≡ map text words
words_back [] good = refl
words_back (word ∷ words) good = ap (filter (λ word. not (length word == 0))) (line_parts word words good.0 good.1) ∙ kept (word ∷ words) good

-- they are read back, in each place
pub row_back : (words : List Word) → AreGood words → (place : ℕ) → row_read (map kind_of words) (map text words) place ≡ word_in words place
row_back [] good place = refl
row_back (word ∷ words) good zero = word_back word good.0
row_back (word ∷ words) good (suc place) = row_back words good.1 place

-- they fit their kinds
same_bytes : (bytes : List ℕ) → bytes_eq bytes bytes ≡ true
same_bytes bytes = (bytes_eq-Decides bytes bytes).1 refl

length_pairs : (bytes : List ℕ) → length (flat_map hex_byte bytes) ≡ 2 * length bytes
length_pairs [] = refl
length_pairs (byte ∷ more) = let h = length_pairs more in omega arith

short_bytes : (bytes : List ℕ) → length bytes ≤ 512 → nat_le (length (hex_bytes bytes)) 1024 ≡ true
short_bytes [] h = refl
short_bytes (byte ∷ more) h =
    let pairs = length_pairs (byte ∷ more) in
    ap (λ b. nat_le (length (cond b (codes "-") (flat_map hex_byte (byte ∷ more)))) 1024) (ne_eqb (length (byte ∷ more)) 0 (λ e. absurd (omega arith)))
    ∙ le-leb (length (flat_map hex_byte (byte ∷ more))) 1024 (omega arith)

row_fits : (most : ℕ) (bytes : List ℕ) → 1 ≤ length bytes → length bytes ≤ most → (nat_le 2 (length (hex_bytes bytes)) && nat_le (length (hex_bytes bytes) / 2) most) ≡ true
row_fits most [] h l = absurd (omega arith)
row_fits most (byte ∷ more) h l =
    let pairs = length_pairs (byte ∷ more) in
    let len : length (hex_bytes (byte ∷ more)) ≡ 2 * length (byte ∷ more) = ap (λ b. length (cond b (codes "-") (flat_map hex_byte (byte ∷ more)))) (ne_eqb (length (byte ∷ more)) 0 (λ e. absurd (omega arith))) ∙ pairs in
    both (nat_le 2 (length (hex_bytes (byte ∷ more)))) (nat_le (length (hex_bytes (byte ∷ more)) / 2) most) (le-leb 2 (length (hex_bytes (byte ∷ more))) (omega (arith, len))) (le-leb (length (hex_bytes (byte ∷ more)) / 2) most (omega (arith, len)))

pub fits_back : (word : Word) → IsGood word → fits (kind_of word) (text word) ≡ true
fits_back (Fixed bytes) good = same_bytes bytes
fits_back (Name name) good = good
fits_back (Number number) good = refl
fits_back (Digits number) good = refl
fits_back (Offset number) good = refl
fits_back (Bytes bytes) good = short_bytes bytes good.0
fits_back (Row most bytes) good = row_fits most bytes good.0 good.1
fits_back (Escaped bytes) good =
    ap is_channel (escaped_back bytes (All-weaker (λ byte. (0 < byte) × (byte < 256)) (λ byte. byte < 256) (λ byte h. h.1) bytes good.1)) ∙ channel_is bytes good.0 good.1
fits_back (Trace bytes) good =
    ap is_zeroless (escaped_back bytes (All-weaker (λ byte. (0 < byte) × (byte < 256)) (λ byte. byte < 256) (λ byte h. h.1) bytes good)) ∙ no_zero bytes good
fits_back (Lane lane) good = refl
fits_back (Bound endpoint) good = refl
fits_back (Dotted first second) good = refl
fits_back (Side end) good = refl
fits_back (Open is_live) good = refl
fits_back (Service what) good = refl
fits_back (State state) good = refl
fits_back (Driver kind) good = refl
fits_back (OnOff switch) good = refl

pub fit_back : (words : List Word) → AreGood words → fit (map kind_of words) (map text words) ≡ true
fit_back [] good = refl
fit_back (word ∷ words) good = both (fits (kind_of word) (text word)) (fit (map kind_of words) (map text words)) (fits_back word good.0) (fit_back words good.1)

-- they fit no row that is apart
not_equal : (b : Bool) → (b ≡ true → ⊥) → b ≡ false
not_equal true h = absurd (h refl)
not_equal false h = refl

nothing : (b : Bool) → (b && false) ≡ false
nothing true = refl
nothing false = refl

first_kept : (digits : List ℕ) (digit : ℕ) → is_digit (slice_index digits 0) ≡ true → is_digit (slice_index (digits ++ digit ∷ []) 0) ≡ true
first_kept [] digit e = absurd (cc)
first_kept (first ∷ more) digit e = e

first_in : (front rest : List ℕ) → is_digit (slice_index front 0) ≡ true → is_digit (slice_index (front ++ rest) 0) ≡ true
first_in [] rest e = absurd (cc)
first_in (first ∷ more) rest e = e

other_bytes : (bytes other : List ℕ) (P : List ℕ → Bool) → P bytes ≡ true → P other ≡ false → bytes_eq bytes other ≡ false
other_bytes bytes other P e f = not_equal (bytes_eq bytes other) (λ same. let h : P bytes ≡ P other = ap P ((bytes_eq-Decides bytes other).0 same) in absurd (cc))

first_digit : (n : ℕ) → n < 2 ^ 64 → is_digit (slice_index (decimal n) 0) ≡ true
first_digit n small = decimal_by_steps (λ number digits. is_digit (slice_index digits 0) ≡ true) (λ number h. grind (arith, nat_tests)) (λ number digits h before. first_kept digits (48 + number % 10) before) n small

differ_fits : (kind : LineKind) (word : Word) → IsGood word → differ kind (kind_of word) ≡ true → fits kind (text word) ≡ false
differ_fits (OfText bytes) (Fixed other) good e = unless (bytes_eq other bytes) e
differ_fits (OfText bytes) (Number number) good e = other_bytes (decimal number) bytes (λ text. is_digit (slice_index text 0)) (first_digit number good) (unless (is_digit (slice_index bytes 0)) e)
differ_fits (OfText bytes) (Bound endpoint) good e =
    other_bytes (dotted_text endpoint.address endpoint.generation) bytes (λ text. is_digit (slice_index text 0))
    (first_in (decimal endpoint.address ++ 46 ∷ []) (decimal endpoint.generation) (first_in (decimal endpoint.address) (46 ∷ []) (first_digit endpoint.address (omega (arith, good.0)))))
    (unless (is_digit (slice_index bytes 0)) e)
differ_fits (OfText bytes) (Name name) good e = other_bytes name bytes is_name good (unless (is_name bytes) e)
differ_fits kind word good e = absurd (cc)

apart_first : (a b : Bool) → (a || b) ≡ true → a ≡ false → b ≡ true
apart_first true b e f = absurd (cc)
apart_first false b e f = e

apart_here : (kind : LineKind) (word : Word) (found : Bool) (rest : Bool) → IsGood word → differ kind (kind_of word) ≡ found → (found ≡ false → rest ≡ false) → (fits kind (text word) && rest) ≡ false
apart_here kind word true rest good e f = ap (λ b. b && rest) (differ_fits kind word good e)
apart_here kind word false rest good e f = ap (λ b. fits kind (text word) && b) (f refl) ∙ nothing (fits kind (text word))

pub apart_fit : (kinds : List LineKind) (words : List Word) → AreGood words → apart kinds (map kind_of words) ≡ true → fit kinds (map text words) ≡ false
apart_fit [] [] good e = absurd (cc)
apart_fit [] (word ∷ words) good e = refl
apart_fit (kind ∷ kinds) [] good e = refl
apart_fit (kind ∷ kinds) (word ∷ words) good e =
    apart_here kind word (differ kind (kind_of word)) (fit kinds (map text words)) good.0 refl (λ same. apart_fit kinds words good.1 (apart_first (differ kind (kind_of word)) (apart kinds (map kind_of words)) e same))

-- the form of a row is the first whose row its texts fit
pub form_found : {F : Type 0} (kinds : F → List LineKind) (before after : List F) (form : F) (words : List Word) → AreGood words → kinds form ≡ map kind_of words → all_apart kinds (map kind_of words) before ≡ true
    → find (λ other. fit (kinds other) (map text words)) (before ++ form ∷ after) ≡ Some form
form_found kinds [] after form words good is e =
    ap (λ b. cond b (Some form) (find (λ other. fit (kinds other) (map text words)) after)) (ap (λ row. fit row (map text words)) is ∙ fit_back words good)
form_found kinds (other ∷ before) after form words good is e =
    let h = parts (apart (kinds other) (map kind_of words)) (all_apart kinds (map kind_of words) before) e in
    ap (λ b. cond b (Some other) (find (λ other. fit (kinds other) (map text words)) (before ++ form ∷ after))) (apart_fit (kinds other) words good h.0)
    ∙ form_found kinds before after form words good is h.1

-- slots against texts, from a place on
pub other_row : {X Y : Type 0} (k : X → LineKind) (v : Y → List ℕ) (slots : List X) (words : List Y) → (length slots ≡ length words → ⊥) → fit (map k slots) (map v words) ≡ false
other_row k v [] [] h = absurd (h refl)
other_row k v [] (word ∷ words) h = refl
other_row k v (slot ∷ slots) [] h = refl
other_row k v (slot ∷ slots) (word ∷ words) h = ap (λ b. fits (k slot) (v word) && b) (other_row k v slots words (λ e. h (omega arith))) ∙ nothing (fits (k slot) (v word))

abbrev pub fit_from : {X Y : Type 0} → (X → LineKind) → (Y → List ℕ) → List X → List Y → ℕ → Bool
fit_from k v slots words place = fit (map k (drop place slots)) (map v (drop place words))

pub fit_more : {X Y : Type 0} (k : X → LineKind) (v : Y → List ℕ) (slots : List X) (words : List Y) (place : ℕ) (slot : X) (word : Y) → place < length slots → place < length words
    → slot ≡ get_or slots place slot → word ≡ get_or words place word → fit_from k v slots words place ≡ (fits (k slot) (v word) && fit_from k v slots words (place + 1))
fit_more k v slots words place slot word h l e f =
    ap (λ rest. fit (map k rest) (map v (drop place words))) (drop_more slots place slot h) ∙ ap (λ rest. fit (map k (get_or slots place slot ∷ drop (place + 1) slots)) (map v rest)) (drop_more words place word l)
    ∙ ap (λ x. fits (k x) (v (get_or words place word)) && fit_from k v slots words (place + 1)) (sym e) ∙ ap (λ y. fits (k slot) (v y) && fit_from k v slots words (place + 1)) (sym f)

-- a word that may not stand in its place
pub misfit : {X Y : Type 0} (k : X → LineKind) (v : Y → List ℕ) (slots : List X) (words : List Y) (place : ℕ) (d : X) (e : Y) → place < length slots → place < length words
    → fits (k (get_or slots place d)) (v (get_or words place e)) ≡ false → fit (map k slots) (map v words) ≡ false
misfit k v [] words place d e h l g = absurd (omega arith)
misfit k v (first ∷ slots) [] place d e h l g = absurd (omega arith)
misfit k v (first ∷ slots) (other ∷ words) zero d e h l g = ap (λ b. b && fit (map k slots) (map v words)) g
misfit k v (first ∷ slots) (other ∷ words) (suc place) d e h l g =
    ap (λ b. fits (k first) (v other) && b) (misfit k v slots words place d e (omega arith) (omega arith) g) ∙ nothing (fits (k first) (v other))
