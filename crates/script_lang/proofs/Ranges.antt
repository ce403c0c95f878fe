-- What a word of each kind says is within that kind's range.
use Rattle.std.proofs.Common.{◌≡◌, ℕ, ◌≤◌, ◌+◌, ◌-◌, ◌*◌, ◌%◌, ◌==◌, ◌&&◌, ◌||◌, Bool, true, false, cond, List, [], ◌∷◌, length, drop, Option, Some, None, refl, sym, ◌∙◌, ap, arith, inl, inr, bytes_eq, codes}
use lib.Dec.{leb}
use Rattle.std.specs.Prelude.{unwrap_or}
use Rattle.std.specs.Int.{is_power_of_two}
use Rattle.std.specs.List.{list_all}
use Rattle.std.proofs.lemmas.Bool.{leb-true, cases_lt}
use Rattle.std.proofs.lemmas.List.{drop_more, drop_all, length-replicate}
use Rattle.std.proofs.lemmas.Option.{same_Some}
use Rattle.std.proofs.lemmas.Slice.Eq.{bytes_eq-Decides}
use Rattle.rp_base.specs.Limits.{is_ring_size, IsRingSize}
use Rattle.rp_base.specs.declared.limits.TheConstants.{RING_MOST, BOOK_MOST, CALLERS_MOST, MESSAGE_MOST, STEPS_MOST}
use Rattle.word_kinds.specs.declared.kinds.Kind.{Kind}
use Rattle.word_kinds.specs.declared.kinds.Kind.TheVariants as kind
use Rattle.word_kinds.specs.Kinds.{is_of, are_of}
use Rattle.word_kinds.specs.Spellings.{is_digit, is_letter, is_name_byte, is_name, is_digit_to, is_hex_digit, hex_value, digits_from, decimal_of, hexadecimal_of, number_of, number_in, is_number_with}
use Rattle.word_kinds.specs.Payloads.{byte_of, is_pairs, is_repeated, is_count, repeated_bytes, bytes_of_pairs, bytes_in, is_payload}
use Rattle.word_kinds.specs.Places.{word_at}
use Rattle.script_lang.specs.Runnable.{IsShort, IsLane, IsCaller, IsNumber, IsPayload, IsCount, IsLength, IsRecordLength, IsBook}

-- the range of what a word of a kind says
abbrev pub IsInRange : Kind → List ℕ → Type 0
IsInRange kind.Keyword word = Unit {0}
IsInRange kind.Name word = IsShort (cond (is_name word) word [])
IsInRange kind.Number word = IsNumber (number_in word)
IsInRange kind.Address word = IsNumber (cond (bytes_eq word (codes "any")) 4294967295 (number_in word))
IsInRange kind.Vendor word = IsNumber (number_in word)
IsInRange kind.Payload word = IsPayload (bytes_in word)
IsInRange kind.Caller word = IsCaller (number_in word)
IsInRange kind.Count word = IsCount (number_in word)
IsInRange kind.Ring word = IsRingSize (number_in word)
IsInRange kind.Book word = IsBook (number_in word)
IsInRange kind.Lane word = IsLane (number_in word)
IsInRange kind.End word = Unit {0}
IsInRange kind.Length word = IsLength (number_in word)
IsInRange kind.RegionSet word = Unit {0}
IsInRange kind.RegionKind word = Unit {0}
IsInRange kind.CrashKind word = Unit {0}
IsInRange kind.DriverKind word = Unit {0}
IsInRange kind.Switch word = Unit {0}
IsInRange kind.Destination word = IsNumber (cond (bytes_eq word (codes "last")) 4294967295 (number_in word))
IsInRange kind.RecordLength word = IsRecordLength (number_in word)

pub both : (a b : Bool) → (a && b) ≡ true → (a ≡ true) × (b ≡ true)
both true b e = (refl, e)
both false b e = absurd (cc)

-- a value that is given under a test
under_test : {A : Type 0} (test : Bool) (o : Option A) (y : A) → cond test o None ≡ Some y → (test ≡ true) × (o ≡ Some y)
under_test true o y e = (refl, e)
under_test false o y e = absurd (cc)

digits_small : (base value : ℕ) (digits : List ℕ) (n : ℕ) → value ≤ 4294967295 → digits_from base value digits ≡ Some n → n ≤ 4294967295
digits_small base value [] n h e = let same = same_Some value n e in omega arith
digits_small base value (digit ∷ more) n h e =
    let next = base * value + hex_value digit in
    let g = under_test (is_digit_to base digit && leb next 4294967295) (digits_from base next more) n e in
    digits_small base next more n (leb-true next 4294967295 (both (is_digit_to base digit) (leb next 4294967295) g.0).1) g.1

unless : {A : Type 0} (test : Bool) (o : Option A) (y : A) → cond test None o ≡ Some y → o ≡ Some y
unless true o y e = absurd (cc)
unless false o y e = e

decimal_small : (word : List ℕ) (n : ℕ) → decimal_of word ≡ Some n → n ≤ 4294967295
decimal_small [] n e = absurd (cc)
decimal_small (digit ∷ []) n e = digits_small 10 0 (digit ∷ []) n (omega arith) e
decimal_small (digit ∷ next ∷ more) n e = digits_small 10 0 (digit ∷ next ∷ more) n (omega arith) (unless (digit == 48) _ n e)

hexadecimal_small : (word : List ℕ) (n : ℕ) → hexadecimal_of word ≡ Some n → n ≤ 4294967295
hexadecimal_small [] n e = absurd (cc)
hexadecimal_small (digit ∷ more) n e = digits_small 16 0 (digit ∷ more) n (omega arith) e

either_small : (test : Bool) (o p : Option ℕ) → ((n : ℕ) → o ≡ Some n → n ≤ 4294967295) → ((n : ℕ) → p ≡ Some n → n ≤ 4294967295) → unwrap_or (cond test o p) 0 ≤ 4294967295
either_small true None p f g = omega arith
either_small true (Some n) p f g = f n refl
either_small false o None f g = omega arith
either_small false o (Some n) f g = g n refl

number_small : (word : List ℕ) → number_in word ≤ 4294967295
number_small word = either_small _ (hexadecimal_of (drop 2 word)) (decimal_of word) (hexadecimal_small (drop 2 word)) (decimal_small word)

address_small : (test : Bool) (n : ℕ) → n ≤ 4294967295 → cond test 4294967295 n ≤ 4294967295
address_small true n h = omega arith
address_small false n h = h

-- a number that passed a test
number_test : (test : ℕ → Bool) (o : Option ℕ) → is_number_with test o ≡ true → test (unwrap_or o 0) ≡ true
number_test test None e = absurd (cc)
number_test test (Some n) e = e

within : (least most n : ℕ) → (leb least n && leb n most) ≡ true → (least ≤ n) × (n ≤ most)
within least most n e = let b = both (leb least n) (leb n most) e in (leb-true least n b.0, leb-true n most b.1)

repeated_small : (word : List ℕ) → is_repeated word ≡ true → length (repeated_bytes word) ≤ MESSAGE_MOST
repeated_small [] e = absurd (cc)
repeated_small (high ∷ []) e = absurd (cc)
repeated_small (high ∷ low ∷ []) e = absurd (cc)
repeated_small (high ∷ low ∷ star ∷ count) e =
    let counted = (both (is_hex_digit high && is_hex_digit low && (star == 42)) (is_count count) e).1 in
    let most = (within 1 MESSAGE_MOST (unwrap_or (decimal_of count) 0) (number_test (λ number. leb 1 number && leb number MESSAGE_MOST) (decimal_of count) counted)).1 in
    let len = length-replicate (unwrap_or (decimal_of count) 0) (byte_of high low) in omega arith

pairs_half : (word : List ℕ) → 2 * length (bytes_of_pairs word) ≤ length word
pairs_half [] = omega arith
pairs_half (high ∷ []) = omega arith
pairs_half (high ∷ low ∷ more) = let h = pairs_half more in omega arith

payload_length : (dash pairs repeated : Bool) (n : ℕ) → (dash ≡ true → n ≤ 1024) → (pairs ≡ true → n ≤ 1024) → (dash || pairs || repeated) ≡ true → repeated ≡ false → n ≤ 1024
payload_length true pairs repeated n f g e h = f refl
payload_length false true repeated n f g e h = g refl
payload_length false false repeated n f g e h = absurd (cc)

dash_length : (word : List ℕ) → bytes_eq word (codes "-") ≡ true → length word ≤ 1024
dash_length word e = let len = ap length ((bytes_eq-Decides word (codes "-")).0 e) in omega arith

pairs_length : (word : List ℕ) → is_pairs word ≡ true → length word ≤ 1024
pairs_length word e =
    leb-true (length word) 1024 (both ((length word % 2 == 0) && leb 2 (length word)) (leb (length word) 1024) (both ((length word % 2 == 0) && leb 2 (length word) && leb (length word) 1024) (list_all is_hex_digit word) e).0).1

bytes_small : (word : List ℕ) (repeated : Bool) → is_repeated word ≡ repeated → is_payload word ≡ true → length (cond repeated (repeated_bytes word) (bytes_of_pairs word)) ≤ MESSAGE_MOST
bytes_small word true e h = repeated_small word e
bytes_small word false e h =
    let most = payload_length (bytes_eq word (codes "-")) (is_pairs word) (is_repeated word) (length word) (dash_length word) (pairs_length word) h e in
    let half = pairs_half word in omega arith

name_short : (word : List ℕ) (named : Bool) → is_name word ≡ named → length (cond named word []) ≤ 31
name_short word false e = omega arith
name_short [] true e = omega arith
name_short (first ∷ more) true e = let most = leb-true (length more) 30 (both ((is_letter first || is_digit first) && list_all is_name_byte more) (leb (length more) 30) e).1 in omega arith

either_true : (a b : Bool) → a ≡ false → (a || b) ≡ true → b ≡ true
either_true a b e h = ap (λ x. x || b) (sym e) ∙ h

-- the words of the two lanes
lane_number : (word : List ℕ) (first : Bool) → bytes_eq word (codes "0") ≡ first → is_of kind.Lane word ≡ true → number_in word ≤ 1
lane_number word true e h = let zero_word = ap number_in ((bytes_eq-Decides word (codes "0")).0 e) in omega arith
lane_number word false e h =
    let one_word = ap number_in ((bytes_eq-Decides word (codes "1")).0 (either_true (bytes_eq word (codes "0")) (bytes_eq word (codes "1")) e h)) in omega arith

-- each kind
pub in_range : (k : Kind) (word : List ℕ) → is_of k word ≡ true → IsInRange k word
in_range kind.Keyword word e = tt
in_range kind.Name word e = name_short word (is_name word) refl
in_range kind.Number word e = number_small word
in_range kind.Address word e = address_small (bytes_eq word (codes "any")) (number_in word) (number_small word)
in_range kind.Vendor word e = number_small word
in_range kind.Payload word e = bytes_small word (is_repeated word) refl e
in_range kind.Caller word e =
    let most = (within 0 (CALLERS_MOST - 1) (number_in word) (number_test (λ number. leb 0 number && leb number (CALLERS_MOST - 1)) (number_of word) e)).1 in omega arith
in_range kind.Count word e = within 1 STEPS_MOST (number_in word) (number_test (λ number. leb 1 number && leb number STEPS_MOST) (number_of word) e)
in_range kind.Ring word e =
    let b = both (is_power_of_two (number_in word)) (leb (number_in word) RING_MOST) (number_test is_ring_size (number_of word) e) in (b.0, leb-true (number_in word) RING_MOST b.1)
in_range kind.Book word e = within 1 BOOK_MOST (number_in word) (number_test (λ number. leb 1 number && leb number BOOK_MOST) (number_of word) e)
in_range kind.Lane word e = lane_number word (bytes_eq word (codes "0")) refl e
in_range kind.End word e = tt
in_range kind.Length word e = within 1 256 (number_in word) (number_test (λ number. leb 1 number && leb number 256) (number_of word) e)
in_range kind.RegionSet word e = tt
in_range kind.RegionKind word e = tt
in_range kind.CrashKind word e = tt
in_range kind.DriverKind word e = tt
in_range kind.Switch word e = tt
in_range kind.Destination word e = address_small (bytes_eq word (codes "last")) (number_in word) (number_small word)
in_range kind.RecordLength word e = (within 0 65535 (number_in word) (number_test (λ number. leb 0 number && leb number 65535) (number_of word) e)).1

-- the ranges of the words from a place on
abbrev pub AreInRange : List Kind → List (List ℕ) → ℕ → Type 0
AreInRange [] words place = Unit {0}
AreInRange (k ∷ ks) words place = IsInRange k (word_at words place) × AreInRange ks words (place + 1)

pub all_in_range : (ks : List Kind) (words : List (List ℕ)) (place : ℕ) → are_of ks (drop place words) ≡ true → AreInRange ks words place
all_in_range [] words place e = tt
all_in_range (k ∷ ks) words place e =
    elim (cases_lt place (length words)) [
      | inl h ↦
          let b = both (is_of k (word_at words place)) (are_of ks (drop (place + 1) words)) (sym (ap (are_of (k ∷ ks)) (drop_more words place [] h)) ∙ e) in
          (in_range k (word_at words place) b.0, all_in_range ks words (place + 1) b.1)
      | inr h ↦ let none : are_of (k ∷ ks) (drop place words) ≡ false = ap (are_of (k ∷ ks)) (drop_all place words h) in absurd (cc)
    ]
