-- How names and numbers are spelled in a script, and where its words are (own).
use Rattle.std.specs.Prelude.{ℕ, ◌+◌, ◌-◌, ◌*◌, Bool, false, ◌==◌, ◌&&◌, ◌||◌, not, nat_le, nat_lt, if◌then◌else◌, List, [], ◌∷◌, length, drop, Option, Some, None, unwrap_or, filter}
use Rattle.std.specs.List.{list_all, slice_split, slice_index}

-- the words of a line are between spaces
abbrev pub words_of : List ℕ → List (List ℕ)
words_of line = filter (λ word. not (length word == 0)) (slice_split (λ byte. byte == 32) line)

-- a digit, 0 to 9
abbrev pub is_digit : ℕ → Bool
is_digit byte = nat_le 48 byte && nat_le byte 57

-- a letter, A to Z or a to z
abbrev pub is_letter : ℕ → Bool
is_letter byte = (nat_le 65 byte && nat_le byte 90) || (nat_le 97 byte && nat_le byte 122)

-- what a name may hold: letters, digits, `.`, `_` and `-`
abbrev pub is_name_byte : ℕ → Bool
is_name_byte byte = is_letter byte || is_digit byte || (byte == 46) || (byte == 95) || (byte == 45)

-- a name has 1 to 31 of these, the first a letter or a digit
abbrev pub is_name : List ℕ → Bool
is_name [] = false
is_name (first ∷ more) = (is_letter first || is_digit first) && list_all is_name_byte more && nat_le (length more) 30

-- the name that a word is
abbrev pub name_of : List ℕ → Option (List ℕ)
name_of word = if is_name word then Some word else None

-- a hexadecimal digit of either case
abbrev pub is_hex_digit : ℕ → Bool
is_hex_digit byte = is_digit byte || (nat_le 97 byte && nat_le byte 102) || (nat_le 65 byte && nat_le byte 70)

-- its value; 0 for any other byte
abbrev pub hex_value : ℕ → ℕ
hex_value byte =
    if is_digit byte then byte - 48
    else (if nat_le 97 byte && nat_le byte 102 then byte - 87
    else (if nat_le 65 byte && nat_le byte 70 then byte - 55 else 0))

-- a digit to a base of at most 16
abbrev pub is_digit_to : ℕ → ℕ → Bool
is_digit_to base byte = is_hex_digit byte && nat_lt (hex_value byte) base

-- the number that goes on from `value` with these digits to a base; none above 2^32 - 1, or where a byte is no digit
abbrev pub digits_from : ℕ → ℕ → List ℕ → Option ℕ
digits_from base value [] = Some value
digits_from base value (digit ∷ more) =
    if is_digit_to base digit && nat_le (base * value + hex_value digit) 4294967295
    then digits_from base (base * value + hex_value digit) more else None

-- one or more decimal digits without a leading zero
abbrev pub decimal_of : List ℕ → Option ℕ
decimal_of [] = None
decimal_of (digit ∷ []) = digits_from 10 0 (digit ∷ [])
decimal_of (digit ∷ next ∷ more) = if digit == 48 then None else digits_from 10 0 (digit ∷ next ∷ more)

-- one or more hexadecimal digits
abbrev pub hexadecimal_of : List ℕ → Option ℕ
hexadecimal_of [] = None
hexadecimal_of (digit ∷ more) = digits_from 16 0 (digit ∷ more)

-- the number that a word is: decimal, or `0x` and hexadecimal digits, at most 2^32 - 1
abbrev pub number_of : List ℕ → Option ℕ
number_of word = if (slice_index word 0 == 48) && (slice_index word 1 == 120) then hexadecimal_of (drop 2 word) else decimal_of word

-- the number of a word that is one
abbrev pub number_in : List ℕ → ℕ
number_in word = unwrap_or (number_of word) 0

-- a number that passes a test
abbrev pub is_number_with : (ℕ → Bool) → Option ℕ → Bool
is_number_with test None = false
is_number_with test (Some number) = test number

-- a number from `least` to `most`
abbrev pub is_number_within : ℕ → ℕ → List ℕ → Bool
is_number_within least most word = is_number_with (λ number. nat_le least number && nat_le number most) (number_of word)
