-- Texts that fit a row say good words.
use Rattle.std.proofs.Common.{◌≡◌, ℕ, zero, suc, ◌+◌, ◌*◌, ◌/◌, ◌^◌, ◌<◌, ◌≤◌, ◌==◌, ◌&&◌, not, Bool, true, false, cond, List, [], ◌∷◌, length, take, drop, filter, Option, Some, None, refl, sym, ◌∙◌, ap, subst, arith, inl, inr}
use Rattle.std.specs.Prelude.{fold, All, nat_le, unwrap_or}
use Rattle.std.specs.List.{list_all, slice_split, onto_first}
use Rattle.std.proofs.lemmas.Bool.{leb-true, cases_lt}
use Rattle.std.proofs.lemmas.Bool.Decides.{nat_tests}
use Rattle.std.proofs.lemmas.List.{drop_more, drop_all, length-replicate}
use Rattle.std.proofs.lemmas.List.Elements.{All-nil, All-cons, All-head, All-tail, All-replicate}
use Rattle.word_kinds.specs.Spellings.{is_hex_digit, hex_value, decimal_of, is_number_with, is_name, words_of}
use Rattle.word_kinds.specs.Payloads.{byte_of, bytes_of_pairs, is_count, is_repeated, repeated_bytes}
use Rattle.word_kinds.specs.Readings.{LineKind, OfText, OfName, OfNumber, OfDigits, OfOffset, OfBytes, OfRow, OfEscaped, OfTrace, OfLane, OfBound, OfDotted, OfSide, OfOpen, OfService, OfState, OfDriver, OfSwitch, digit_more, hex_more, dot_parts, first_part, other_parts, is_channel, channel_read, without_escapes, IsGood, word_read}
use Rattle.word_kinds.specs.Rows.{fits, fit, text_at, row_words, is_fixed, are_fixed, AreGood}
use Rattle.word_kinds.proofs.Clean.{parts}

abbrev pub Small : List ℕ → Type 0
Small bytes = All (λ byte. byte < 256) bytes

none_small : Small []
none_small = All-nil (λ byte. byte < 256)

more_small : (byte : ℕ) (more : List ℕ) → byte < 256 → Small more → Small (byte ∷ more)
more_small byte more h rest = All-cons (λ b. b < 256) byte more h rest

pick : (b : Bool) (xs ys : List ℕ) → Small xs → Small ys → Small (cond b xs ys)
pick true xs ys h g = h
pick false xs ys h g = g

-- numbers
number_good : (value : ℕ) (word : List ℕ) → value < 2 ^ 64 → fold digit_more value word < 2 ^ 64
number_good value [] h = h
number_good value (byte ∷ more) h = number_good (digit_more value byte) more (omega arith)

hex_good : (value : ℕ) (word : List ℕ) → value < 2 ^ 64 → fold hex_more value word < 2 ^ 64
hex_good value [] h = h
hex_good value (byte ∷ more) h = hex_good (hex_more value byte) more (omega arith)

-- bytes
hex_small : (byte : ℕ) → hex_value byte < 16
hex_small byte = grind (arith, nat_tests)

byte_small : (high low : ℕ) → byte_of high low < 256
byte_small high low = omega (arith, hex_small high, hex_small low)

pairs_small : (word : List ℕ) → Small (bytes_of_pairs word)
pairs_small [] = none_small
pairs_small (high ∷ []) = none_small
pairs_small (high ∷ low ∷ more) = more_small (byte_of high low) (bytes_of_pairs more) (byte_small high low) (pairs_small more)

repeated_small : (word : List ℕ) → Small (repeated_bytes word)
repeated_small [] = none_small
repeated_small (high ∷ []) = none_small
repeated_small (high ∷ low ∷ []) = none_small
repeated_small (high ∷ low ∷ star ∷ count) = All-replicate (λ b. b < 256) (unwrap_or (decimal_of count) 0) (byte_of high low) (byte_small high low)

counted : (found : Option ℕ) → is_number_with (λ number. nat_le 1 number && nat_le number 512) found ≡ true → unwrap_or found 0 ≤ 512
counted None e = absurd (cc)
counted (Some number) e = leb-true number 512 (parts (nat_le 1 number) (nat_le number 512) e).1

repeated_short : (word : List ℕ) → is_repeated word ≡ true → length (repeated_bytes word) ≤ 512
repeated_short [] e = absurd (cc)
repeated_short (high ∷ []) e = absurd (cc)
repeated_short (high ∷ low ∷ []) e = absurd (cc)
repeated_short (high ∷ low ∷ star ∷ count) e =
    let most = counted (decimal_of count) (parts (is_hex_digit high && is_hex_digit low && (star == 42)) (is_count count) e).1 in
    let len = length-replicate (unwrap_or (decimal_of count) 0) (byte_of high low) in omega arith

pairs_half : (word : List ℕ) → 2 * length (bytes_of_pairs word) ≤ length word
pairs_half [] = omega arith
pairs_half (high ∷ []) = omega arith
pairs_half (high ∷ low ∷ more) = let h = pairs_half more in omega arith

pairs_some : (word : List ℕ) → 2 ≤ length word → 1 ≤ length (bytes_of_pairs word)
pairs_some [] h = absurd (omega arith)
pairs_some (high ∷ []) h = absurd (omega arith)
pairs_some (high ∷ low ∷ more) h = omega arith

abbrev IsRow : ℕ → List ℕ → Type 0
IsRow most bytes = (1 ≤ length bytes) × (length bytes ≤ most) × All (λ byte. byte < 256) bytes

row_good : (most : ℕ) (word : List ℕ) → (nat_le 2 (length word) && nat_le (length word / 2) most) ≡ true → IsRow most (bytes_of_pairs word)
row_good most word e =
    let g = parts (nat_le 2 (length word)) (nat_le (length word / 2) most) e in
    let half = pairs_half word in
    (pairs_some word (leb-true 2 (length word) g.0), omega (arith, half, leb-true (length word / 2) most g.1), pairs_small word)

bytes_short : (word : List ℕ) (repeated : Bool) → is_repeated word ≡ repeated → length word ≤ 1024 → length (cond repeated (repeated_bytes word) (bytes_of_pairs word)) ≤ 512
bytes_short word true e h = repeated_short word e
bytes_short word false e h = let half = pairs_half word in omega arith

-- names of channels
unescaped_small : (word : List ℕ) → Small word → Small (without_escapes word)
unescaped_small [] h = none_small
unescaped_small (first ∷ []) h = pick (first == 37) [] (first ∷ []) none_small h
unescaped_small (first ∷ second ∷ []) h =
    pick (first == 37) [] (first ∷ without_escapes (second ∷ [])) none_small
    (more_small first (without_escapes (second ∷ [])) (All-head (λ b. b < 256) first (second ∷ []) h) (unescaped_small (second ∷ []) (All-tail (λ b. b < 256) first (second ∷ []) h)))
unescaped_small (first ∷ second ∷ third ∷ more) h =
    let rest = All-tail (λ b. b < 256) first (second ∷ third ∷ more) h in
    let behind = All-tail (λ b. b < 256) third more (All-tail (λ b. b < 256) second (third ∷ more) rest) in
    pick (first == 37) (byte_of second third ∷ without_escapes more) (first ∷ without_escapes (second ∷ third ∷ more))
    (more_small (byte_of second third) (without_escapes more) (byte_small second third) (unescaped_small more behind))
    (more_small first (without_escapes (second ∷ third ∷ more)) (All-head (λ b. b < 256) first (second ∷ third ∷ more) h) (unescaped_small (second ∷ third ∷ more) rest))

some_byte : (byte : ℕ) → not (byte == 0) ≡ true → 0 < byte
some_byte byte e = grind (arith, nat_tests)

nonzero_all : (text : List ℕ) → list_all (λ byte. not (byte == 0)) text ≡ true → Small text → All (λ byte. (0 < byte) × (byte < 256)) text
nonzero_all [] e h = All-nil (λ byte. (0 < byte) × (byte < 256))
nonzero_all (byte ∷ more) e h =
    let g = parts (not (byte == 0)) (list_all (λ b. not (b == 0)) more) e in
    All-cons (λ b. (0 < b) × (b < 256)) byte more (some_byte byte g.0, All-head (λ b. b < 256) byte more h) (nonzero_all more g.1 (All-tail (λ b. b < 256) byte more h))

abbrev IsChannel : List ℕ → Type 0
IsChannel text = (length text ≤ 31) × All (λ byte. (0 < byte) × (byte < 256)) text

channel_good : (word : List ℕ) → Small word → is_channel (without_escapes word) ≡ true → IsChannel (channel_read word)
channel_good word h e =
    let text = without_escapes word in
    let g = parts (nat_le (length text) 31) (list_all (λ byte. not (byte == 0)) text) e in
    let same : channel_read word ≡ text = ap (λ b. cond b text []) e in
    subst IsChannel (sym same) (leb-true (length text) 31 g.0, nonzero_all text g.1 (unescaped_small word h))

name_good : (word : List ℕ) → is_name word ≡ true → is_name (cond (is_name word) word []) ≡ true
name_good word e = ap (λ b. is_name (cond b word [])) e ∙ e

good_at : (kind : LineKind) (word : List ℕ) → is_fixed kind ≡ true → Small word → fits kind word ≡ true → IsGood (word_read kind word)
good_at (OfText text) word fixed h e = fixed
good_at OfName word fixed h e = name_good word e
good_at OfNumber word fixed h e = number_good 0 word (omega arith)
good_at OfDigits word fixed h e = omega arith
good_at OfOffset word fixed h e = hex_good 0 word (omega arith)
good_at OfBytes word fixed h e =
    (bytes_short word (is_repeated word) refl (leb-true (length word) 1024 e), pick (is_repeated word) (repeated_bytes word) (bytes_of_pairs word) (repeated_small word) (pairs_small word))
good_at (OfRow most) word fixed h e = row_good most word e
good_at OfEscaped word fixed h e = channel_good word h e
good_at OfTrace word fixed h e = nonzero_all (without_escapes word) e (unescaped_small word h)
good_at OfLane word fixed h e = omega arith
good_at OfBound word fixed h e = (omega arith, number_good 0 (first_part (other_parts (dot_parts word))) (omega arith))
good_at OfDotted word fixed h e = (number_good 0 (first_part (dot_parts word)) (omega arith), number_good 0 (first_part (other_parts (dot_parts word))) (omega arith))
good_at OfSide word fixed h e = tt
good_at OfOpen word fixed h e = tt
good_at OfService word fixed h e = tt
good_at OfState word fixed h e = tt
good_at OfDriver word fixed h e = tt
good_at OfSwitch word fixed h e = tt

pub good_from : (kinds : List LineKind) (texts : List (List ℕ)) (place : ℕ) → are_fixed kinds ≡ true → ((at : ℕ) → Small (text_at texts at)) → fit kinds (drop place texts) ≡ true → AreGood (row_words kinds texts place)
good_from [] texts place fixed h e = tt
good_from (kind ∷ kinds) texts place fixed h e =
    elim (cases_lt place (length texts)) [
      | inl below ↦
          let g = parts (fits kind (text_at texts place)) (fit kinds (drop (place + 1) texts)) (sym (ap (fit (kind ∷ kinds)) (drop_more texts place [] below)) ∙ e) in
          let f = parts (is_fixed kind) (are_fixed kinds) fixed in
          (good_at kind (text_at texts place) f.0 (h place) g.0, good_from kinds texts (place + 1) f.1 h g.1)
      | inr above ↦ let none : fit (kind ∷ kinds) (drop place texts) ≡ false = ap (fit (kind ∷ kinds)) (drop_all place texts above) in absurd (cc)
    ]

-- the words of a line of bytes
abbrev EachSmall : List (List ℕ) → Type 0
EachSmall [] = Unit {0}
EachSmall (text ∷ texts) = Small text × EachSmall texts

onto_small : (byte : ℕ) (texts : List (List ℕ)) → byte < 256 → EachSmall texts → EachSmall (onto_first byte texts)
onto_small byte [] h g = (more_small byte [] h none_small, tt)
onto_small byte (text ∷ texts) h g = (more_small byte text h g.0, g.1)

pick_each : (b : Bool) (xs ys : List (List ℕ)) → EachSmall xs → EachSmall ys → EachSmall (cond b xs ys)
pick_each true xs ys h g = h
pick_each false xs ys h g = g

split_small : (test : ℕ → Bool) (line : List ℕ) → Small line → EachSmall (slice_split test line)
split_small test [] h = (none_small, tt)
split_small test (byte ∷ more) h =
    let rest = split_small test more (All-tail (λ b. b < 256) byte more h) in
    pick_each (test byte) ([] ∷ slice_split test more) (onto_first byte (slice_split test more)) (none_small, rest) (onto_small byte (slice_split test more) (All-head (λ b. b < 256) byte more h) rest)

kept_small : (test : List ℕ → Bool) (texts : List (List ℕ)) → EachSmall texts → EachSmall (filter test texts)
kept_small test [] h = tt
kept_small test (text ∷ texts) h = pick_each (test text) (text ∷ filter test texts) (filter test texts) (h.0, kept_small test texts h.1) (kept_small test texts h.1)

front_small : (count : ℕ) (texts : List (List ℕ)) → EachSmall texts → EachSmall (take count texts)
front_small zero texts h = tt
front_small (suc count) [] h = tt
front_small (suc count) (text ∷ texts) h = (h.0, front_small count texts h.1)

small_at : (texts : List (List ℕ)) → EachSmall texts → (place : ℕ) → Small (text_at texts place)
small_at [] h place = none_small
small_at (text ∷ texts) h zero = h.0
small_at (text ∷ texts) h (suc place) = small_at texts h.1 place

pub words_small : (line : List ℕ) → Small line → (place : ℕ) → Small (text_at (take 9 (words_of line)) place)
words_small line h place = small_at (take 9 (words_of line)) (front_small 9 (words_of line) (kept_small (λ word. not (length word == 0)) (slice_split (λ byte. byte == 32) line) (split_small (λ byte. byte == 32) line h))) place
