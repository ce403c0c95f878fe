-- How the bytes of a payload are spelled in a script (own).
use Rattle.std.specs.Prelude.{ℕ, ◌+◌, ◌*◌, ◌%◌, Bool, false, ◌==◌, ◌&&◌, ◌||◌, nat_le, if◌then◌else◌, List, [], ◌∷◌, length, replicate, unwrap_or, bytes_eq, codes}
use Rattle.std.specs.List.{list_all}
use Rattle.rp_base.specs.declared.limits.TheConstants.{MESSAGE_MOST}
use Rattle.word_kinds.specs.Spellings.{is_hex_digit, hex_value, decimal_of, is_number_with}

-- the byte of two digits
abbrev pub byte_of : ℕ → ℕ → ℕ
byte_of high low = 16 * hex_value high + hex_value low

-- 1 to 512 bytes as pairs of hexadecimal digits
abbrev pub is_pairs : List ℕ → Bool
is_pairs word = (length word % 2 == 0) && nat_le 2 (length word) && nat_le (length word) (2 * MESSAGE_MOST) && list_all is_hex_digit word

-- the bytes that pairs of digits spell
abbrev pub bytes_of_pairs : List ℕ → List ℕ
bytes_of_pairs [] = []
bytes_of_pairs (high ∷ []) = []
bytes_of_pairs (high ∷ low ∷ more) = byte_of high low ∷ bytes_of_pairs more

-- a count of bytes: decimal, from 1 to 512
abbrev pub is_count : List ℕ → Bool
is_count word = is_number_with (λ number. nat_le 1 number && nat_le number MESSAGE_MOST) (decimal_of word)

-- a byte as two digits, `*`, and how many times it is there
abbrev pub is_repeated : List ℕ → Bool
is_repeated [] = false
is_repeated (high ∷ []) = false
is_repeated (high ∷ low ∷ []) = false
is_repeated (high ∷ low ∷ star ∷ count) = is_hex_digit high && is_hex_digit low && (star == 42) && is_count count

-- the bytes of such a word
abbrev pub repeated_bytes : List ℕ → List ℕ
repeated_bytes [] = []
repeated_bytes (high ∷ []) = []
repeated_bytes (high ∷ low ∷ []) = []
repeated_bytes (high ∷ low ∷ star ∷ count) = replicate (unwrap_or (decimal_of count) 0) (byte_of high low)

-- a payload: `-` for none, pairs of digits, or one byte repeated
abbrev pub is_payload : List ℕ → Bool
is_payload word = bytes_eq word (codes "-") || is_pairs word || is_repeated word

-- the bytes of a payload
abbrev pub bytes_in : List ℕ → List ℕ
bytes_in word = if is_repeated word then repeated_bytes word else bytes_of_pairs word
