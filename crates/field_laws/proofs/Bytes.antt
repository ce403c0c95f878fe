-- Bytes stay bytes, and the numbers that they are fit into their widths.
use Rattle.std.proofs.Common.{◌≡◌, ℕ, zero, suc, ◌+◌, ◌-◌, ◌/◌, ◌%◌, ◌<◌, ◌≤◌, ◌^◌, ◌==◌, not, true, List, [], ◌∷◌, ◌++◌, length, take, drop, replicate, slice_range, sym, subst, arith}
use Rattle.std.specs.Prelude.{All, slice_index}
use Rattle.std.specs.List.{flat_map}
use Rattle.std.specs.Int.{bytes_low_first, byte_at}
use Rattle.std.proofs.lemmas.Bool.{cond_both}
use Rattle.std.proofs.lemmas.List.{length-take}
use Rattle.std.proofs.Math.Nat.{min-le_left}
use Rattle.std.proofs.lemmas.List.Elements.{All-append, All-cons, All-drop, All-head, All-nil, All-replicate, All-same, All-tail, All-take}
use Rattle.std.proofs.lemmas.List.Sums.{take_while-cons}
use Rattle.rp_base.specs.Fields.{number_at, with_number}
use Rattle.rp_base.specs.Texts.{padded_name, text_before_zero}
use Rattle.rp_base.proofs.Zeros.{is_text}
use Rattle.rpmsg_header.specs.Headers.{head_bytes, header_bytes, payload_length, payload_of}
use Rattle.byteorder.specs.Endian.{little_bytes, little_from}
use Rattle.field_laws.specs.Fields.{AreBytes}

abbrev IsByte : ℕ → Type 0
IsByte byte = byte < 256

pub no_bytes : AreBytes []
no_bytes = All-nil IsByte

pub more_bytes : (byte : ℕ) (more : List ℕ) → byte < 256 → AreBytes more → AreBytes (byte ∷ more)
more_bytes byte more is are = All-cons IsByte byte more is are

pub both_bytes : (one other : List ℕ) → AreBytes one → AreBytes other → AreBytes (one ++ other)
both_bytes one other are more = All-append IsByte one other are more

pub zero_bytes : (count : ℕ) → AreBytes (replicate count 0)
zero_bytes count = All-replicate IsByte count 0 (omega arith)

pub taken_bytes : (count : ℕ) (bytes : List ℕ) → AreBytes bytes → AreBytes (take count bytes)
taken_bytes count bytes are = All-take IsByte count bytes are

pub dropped_bytes : (count : ℕ) (bytes : List ℕ) → AreBytes bytes → AreBytes (drop count bytes)
dropped_bytes count bytes are = All-drop IsByte count bytes are

pub range_bytes : (bytes : List ℕ) (from to : ℕ) → AreBytes bytes → AreBytes (slice_range bytes from to)
range_bytes bytes from to are = taken_bytes (to - from) (drop from bytes) (dropped_bytes from bytes are)

pub each_bytes : {X : Type 0} (f : X → List ℕ) (items : List X) → All (λ (item : X). AreBytes (f item)) items → AreBytes (flat_map f items)
each_bytes f [] all = no_bytes
each_bytes {X} f (first ∷ more) all =
    both_bytes (f first) (flat_map f more) (All-head (λ (item : X). AreBytes (f item)) first more all) (each_bytes f more (All-tail (λ (item : X). AreBytes (f item)) first more all))

-- ---- numbers

rest_small : (number : ℕ) → number % 256 < 256
rest_small number = omega arith

byte_small : (place number : ℕ) → byte_at place number < 256
byte_small zero number = rest_small number
byte_small (suc place) number = rest_small (number / 256 ^ suc place)

low_bytes : (place count number : ℕ) → AreBytes (bytes_low_first place count number)
low_bytes place zero number = no_bytes
low_bytes place (suc count) number = more_bytes (byte_at place number) (bytes_low_first (suc place) count number) (byte_small place number) (low_bytes (suc place) count number)

pub number_bytes : (width number : ℕ) → AreBytes (little_bytes width number)
number_bytes width number = low_bytes 0 width number

pub written_bytes : (width at value : ℕ) (bytes : List ℕ) → AreBytes bytes → AreBytes (with_number width at value bytes)
written_bytes width at value bytes are =
    both_bytes (take at bytes ++ little_bytes width value) (drop (at + width) bytes)
    (both_bytes (take at bytes) (little_bytes width value) (taken_bytes at bytes are) (number_bytes width value)) (dropped_bytes (at + width) bytes are)

-- the byte at a place, or 0 behind the last
index_small : (bytes : List ℕ) (place : ℕ) → AreBytes bytes → slice_index bytes place < 256
index_small [] place are = omega arith
index_small (first ∷ more) zero are = All-head IsByte first more are
index_small (first ∷ more) (suc place) are = index_small more place (All-tail IsByte first more are)

from_small : (place count : ℕ) (bytes : List ℕ) → AreBytes bytes → little_from place count bytes < 256 ^ count
from_small place zero bytes are = omega arith
from_small place (suc count) bytes are =
    let first = index_small bytes place are in
    let later = from_small (suc place) count bytes are in
    omega (arith, first, later)

pub number_small : (width at : ℕ) (bytes : List ℕ) → AreBytes bytes → number_at width at bytes < 256 ^ width
number_small width at bytes are = from_small 0 width (drop at bytes) (dropped_bytes at bytes are)

pub half_small : (at : ℕ) (bytes : List ℕ) → AreBytes bytes → number_at 2 at bytes < 2 ^ 16
half_small at bytes are = let small = number_small 2 at bytes are in omega (arith, small)

pub word_small : (at : ℕ) (bytes : List ℕ) → AreBytes bytes → number_at 4 at bytes < 2 ^ 32
word_small at bytes are = let small = number_small 4 at bytes are in omega (arith, small)

-- ---- texts

some_byte : (byte : ℕ) → not (byte == 0) ≡ true → 0 < byte
some_byte zero is = absurd (cc)
some_byte (suc less) is = omega arith

abbrev IsTextByte : ℕ → Type 0
IsTextByte byte = (0 < byte) × (byte < 256)

pub text_bytes : (bytes : List ℕ) → AreBytes bytes → All IsTextByte (text_before_zero bytes)
text_bytes [] are = All-nil IsTextByte
text_bytes (first ∷ more) are =
    All-same IsTextByte (text_before_zero (first ∷ more)) _ (take_while-cons is_text first more)
    (cond_both (not (first == 0)) (first ∷ text_before_zero more) [] (All IsTextByte)
    (λ some. All-cons IsTextByte first (text_before_zero more) (some_byte first some, All-head IsByte first more are) (text_bytes more (All-tail IsByte first more are)))
    (λ _. All-nil IsTextByte))

take_most : (count : ℕ) (bytes : List ℕ) → length (take count bytes) ≤ count
take_most count bytes = let is = length-take count bytes in let less = min-le_left count (length bytes) in omega (arith, is, less)

text_short : (bytes : List ℕ) → length (text_before_zero bytes) ≤ length bytes
text_short [] = omega arith
text_short (first ∷ more) =
    let rest = text_short more in
    subst (λ (text : List ℕ). length text ≤ length (first ∷ more)) (sym (take_while-cons is_text first more))
    (cond_both (not (first == 0)) (first ∷ text_before_zero more) [] (λ (text : List ℕ). length text ≤ length (first ∷ more)) (λ _. omega (arith, rest)) (λ _. omega arith))

pub padded_bytes : (name : List ℕ) → AreBytes name → AreBytes (padded_name name)
padded_bytes name are = both_bytes name (replicate (32 - length name) 0) are (zero_bytes (32 - length name))

-- the first 31 bytes of a field, up to a zero
pub name_short : (bytes : List ℕ) → length (text_before_zero (take 31 bytes)) ≤ 31
name_short bytes = let short = text_short (take 31 bytes) in let taken = take_most 31 bytes in omega (arith, short, taken)

-- ---- messages

pub head_are_bytes : (source destination len : ℕ) → AreBytes (head_bytes source destination len)
head_are_bytes source destination len =
    let flags = both_bytes (little_bytes 2 len) (little_bytes 2 0) (number_bytes 2 len) (number_bytes 2 0) in
    let reserved = both_bytes (little_bytes 4 0) (little_bytes 2 len ++ little_bytes 2 0) (number_bytes 4 0) flags in
    let aim = both_bytes (little_bytes 4 destination) (little_bytes 4 0 ++ little_bytes 2 len ++ little_bytes 2 0) (number_bytes 4 destination) reserved in
    both_bytes (little_bytes 4 source) (little_bytes 4 destination ++ little_bytes 4 0 ++ little_bytes 2 len ++ little_bytes 2 0) (number_bytes 4 source) aim

pub message_bytes : (source destination : ℕ) (payload : List ℕ) → AreBytes payload → AreBytes (header_bytes source destination payload)
message_bytes source destination payload are =
    both_bytes (head_bytes source destination (length payload)) payload (head_are_bytes source destination (length payload)) are

pub payload_bytes : (message : List ℕ) → AreBytes message → AreBytes (payload_of message)
payload_bytes message are = taken_bytes (payload_length message) (drop 16 message) (dropped_bytes 16 message are)
