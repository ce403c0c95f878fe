-- Numbers and bytes are read back from their texts.
use Rattle.std.proofs.Common.{◌≡◌, ℕ, ◌+◌, ◌*◌, ◌/◌, ◌%◌, ◌^◌, ◌<◌, ◌≤◌, ◌==◌, ◌&&◌, not, Bool, true, false, cond, List, [], ◌∷◌, ◌++◌, length, codes, refl, ◌∙◌, ap, arith, append_assoc}
use Rattle.std.specs.Prelude.{fold, All, nat_le, nat_lt}
use Rattle.std.specs.Fmt.{decimal, digits}
use Rattle.std.specs.List.{flat_map, list_all, slice_split}
use Rattle.std.proofs.lemmas.Bool.{ne_eqb, le-leb, ltb-true}
use Rattle.std.proofs.lemmas.Bool.Decides.{nat_tests}
use Rattle.std.proofs.lemmas.Fmt.{decimal_by_steps}
use Rattle.std.proofs.lemmas.List.Elements.{All-nil, All-cons, All-push, All-head, All-tail, All-weaker}
use Rattle.std.proofs.lemmas.List.Splits.{slice_split_at, slice_split_none}
use Rattle.rp_base.specs.declared.kinds.End.TheVariants as side
use Rattle.rp_base.specs.declared.kinds.Endpoint.{Endpoint}
use Rattle.rp_base.specs.declared.kinds.NsKind.TheVariants as service
use Rattle.rp_base.specs.declared.kinds.LifeState.TheVariants as state
use Rattle.rp_base.specs.declared.kinds.DriverKind.TheVariants as driver
use Rattle.rp_base.specs.declared.kinds.Switch.TheVariants as switch
use Rattle.word_kinds.specs.Spellings.{hex_value, is_hex_digit}
use Rattle.word_kinds.specs.Payloads.{byte_of, bytes_of_pairs, is_repeated, repeated_bytes, bytes_in}
use Rattle.word_kinds.specs.Texts.{Word, Fixed, Name, Number, Digits, Offset, Bytes, Row, Escaped, Trace, Lane, Bound, Dotted, Side, Open, Service, State, Driver, OnOff, text, hex_digit, hex_byte, hex_bytes, eight_digits, four_digits, is_plain, escaped_byte, with_escapes, dotted_text}
use Rattle.word_kinds.specs.Readings.{digit_more, number_read, hex_more, hex_read, dot_parts, first_part, other_parts, first_number, second_number, without_escapes, endpoint_read, kind_of, is_channel, IsGood, word_read}
use Rattle.word_kinds.proofs.Hexadecimals.{hexadecimal_by_steps}

fold_more : (value : ℕ) (digits : List ℕ) (digit : ℕ) → fold digit_more value (digits ++ digit ∷ []) ≡ digit_more (fold digit_more value digits) digit
fold_more value [] digit = refl
fold_more value (first ∷ more) digit = fold_more (digit_more value first) more digit

abbrev IsReadAs : ℕ → List ℕ → Type 0
IsReadAs number digits = number < 2 ^ 64 → number_read digits ≡ number

one_digit : (n : ℕ) → n < 10 → IsReadAs n ((48 + n) ∷ [])
one_digit n small h = omega arith

one_more : (n : ℕ) (digits : List ℕ) → 10 ≤ n → IsReadAs (n / 10) digits → IsReadAs n (digits ++ (48 + n % 10) ∷ [])
one_more n digits large before h =
    fold_more 0 digits (48 + n % 10) ∙ ap (λ value. digit_more value (48 + n % 10)) (before (omega arith)) ∙ omega arith

pub number_back : (n : ℕ) → n < 2 ^ 64 → number_read (decimal n) ≡ n
number_back n small = decimal_by_steps IsReadAs one_digit one_more n small small

-- a hexadecimal digit, and a byte of two
digit_back : (v : ℕ) → v < 16 → hex_value (hex_digit v) ≡ v
digit_back v small = grind (arith, nat_tests)

pub byte_back : (byte : ℕ) → byte < 256 → byte_of (hex_digit (byte / 16)) (hex_digit (byte % 16)) ≡ byte
byte_back byte small =
    let high = digit_back (byte / 16) (omega arith) in
    let low = digit_back (byte % 16) (omega arith) in
    omega (arith, high, low)

-- hexadecimal digits
two_digits : (value byte : ℕ) (rest : List ℕ) → byte < 256 → 256 * value + byte < 2 ^ 64 → fold hex_more value (hex_byte byte ++ rest) ≡ fold hex_more (256 * value + byte) rest
two_digits value byte rest small h =
    let high = digit_back (byte / 16) (omega arith) in
    let low = digit_back (byte % 16) (omega arith) in
    let both : hex_more (hex_more value (hex_digit (byte / 16))) (hex_digit (byte % 16)) ≡ 256 * value + byte = omega (arith, high, low) in
    ap (λ v. fold hex_more v rest) both

first_two : (byte : ℕ) (rest : List ℕ) → byte < 256 → fold hex_more 0 (hex_byte byte ++ rest) ≡ fold hex_more byte rest
first_two byte rest small = let same : 256 * 0 + byte ≡ byte = omega arith in two_digits 0 byte rest small (omega (arith, small)) ∙ ap (λ v. fold hex_more v rest) same

pub eight_back : (n : ℕ) → n < 2 ^ 32 → hex_read (eight_digits n) ≡ n
eight_back n small =
    let first = n / 16777216 in
    let second = n / 65536 % 256 in
    let third = n / 256 % 256 in
    let two : 256 * first + second ≡ n / 65536 = omega arith in
    let three : 256 * (n / 65536) + third ≡ n / 256 = omega arith in
    first_two first (hex_byte second ++ hex_byte third ++ hex_byte (n % 256)) (omega arith)
    ∙ two_digits first second (hex_byte third ++ hex_byte (n % 256)) (omega arith) (omega arith)
    ∙ ap (λ v. fold hex_more v (hex_byte third ++ hex_byte (n % 256))) two
    ∙ two_digits (n / 65536) third (hex_byte (n % 256)) (omega arith) (omega arith)
    ∙ ap (λ v. fold hex_more v (hex_byte (n % 256))) three
    ∙ two_digits (n / 256) (n % 256) [] (omega arith) (omega arith) ∙ omega arith

hex_fold : (value : ℕ) (front : List ℕ) (digit : ℕ) → fold hex_more value (front ++ digit ∷ []) ≡ hex_more (fold hex_more value front) digit
hex_fold value [] digit = refl
hex_fold value (first ∷ more) digit = hex_fold (hex_more value first) more digit

abbrev IsHexReadAs : ℕ → List ℕ → Type 0
IsHexReadAs number digits = number < 2 ^ 64 → hex_read digits ≡ number

one_hex : (n : ℕ) → n < 16 → IsHexReadAs n (hex_digit (n % 16) ∷ [])
one_hex n h small = let back = digit_back (n % 16) (omega arith) in omega (arith, back)

more_hex : (n : ℕ) (front : List ℕ) → 16 ≤ n → IsHexReadAs (n / 16) front → IsHexReadAs n (front ++ hex_digit (n % 16) ∷ [])
more_hex n front large before small =
    let back = digit_back (n % 16) (omega arith) in
    hex_fold 0 front (hex_digit (n % 16)) ∙ ap (λ value. hex_more value (hex_digit (n % 16))) (before (omega arith)) ∙ omega (arith, back)

picked : (n : ℕ) (b : Bool) (xs ys : List ℕ) → (b ≡ true → hex_read xs ≡ n) → hex_read ys ≡ n → hex_read (cond b xs ys) ≡ n
picked n true xs ys h g = h refl
picked n false xs ys h g = g

two_bytes : (n : ℕ) → n < 65536 → hex_read (hex_byte (n / 256) ++ hex_byte (n % 256)) ≡ n
two_bytes n small = first_two (n / 256) (hex_byte (n % 256)) (omega arith) ∙ two_digits (n / 256) (n % 256) [] (omega arith) (omega arith) ∙ omega arith

pub four_back : (n : ℕ) → n < 2 ^ 64 → hex_read (four_digits n) ≡ n
four_back n small =
    picked n (nat_lt n 65536) (hex_byte (n / 256) ++ hex_byte (n % 256)) (digits 16 false n) (λ e. two_bytes n (ltb-true n 65536 e)) (hexadecimal_by_steps IsHexReadAs one_hex more_hex n small small)

pairs_back : (bytes : List ℕ) → All (λ byte. byte < 256) bytes → bytes_of_pairs (flat_map hex_byte bytes) ≡ bytes
pairs_back [] small = refl
pairs_back (byte ∷ more) small =
    ap (λ first. first ∷ bytes_of_pairs (flat_map hex_byte more)) (byte_back byte (All-head (λ b. b < 256) byte more small)) ∙ ap (λ rest. byte ∷ rest) (pairs_back more (All-tail (λ b. b < 256) byte more small))

no_star : (v : ℕ) → (hex_digit v == 42) ≡ false
no_star v = grind (arith, nat_tests)

unstarred : (high low star count : Bool) → star ≡ false → (high && low && star && count) ≡ false
unstarred true true star count e = ap (λ b. b && count) e
unstarred true false star count e = refl
unstarred false low star count e = refl

not_repeated : (bytes : List ℕ) → is_repeated (flat_map hex_byte bytes) ≡ false
not_repeated [] = refl
not_repeated (byte ∷ []) = refl
not_repeated (byte ∷ next ∷ more) = unstarred (is_hex_digit (hex_digit (byte / 16))) (is_hex_digit (hex_digit (byte % 16))) (hex_digit (next / 16) == 42) _ (no_star (next / 16))

some_bytes : (byte : ℕ) (more : List ℕ) → (length (byte ∷ more) == 0) ≡ false
some_bytes byte more = ne_eqb (length (byte ∷ more)) 0 (λ e. absurd (omega arith))

pub bytes_back : (bytes : List ℕ) → All (λ byte. byte < 256) bytes → bytes_in (hex_bytes bytes) ≡ bytes
bytes_back [] small = refl
bytes_back (byte ∷ more) small =
    ap (λ b. bytes_in (cond b (codes "-") (flat_map hex_byte (byte ∷ more)))) (some_bytes byte more) ∙ ap (λ b. cond b (repeated_bytes (flat_map hex_byte (byte ∷ more))) (bytes_of_pairs (flat_map hex_byte (byte ∷ more)))) (not_repeated (byte ∷ more)) ∙ pairs_back (byte ∷ more) small

-- a text with escapes
plain_step : (byte : ℕ) (rest : List ℕ) → (byte == 37) ≡ false → without_escapes (byte ∷ rest) ≡ byte ∷ without_escapes rest
plain_step byte [] e = ap (λ b. cond b [] (byte ∷ [])) e
plain_step byte (next ∷ []) e = ap (λ b. cond b [] (byte ∷ without_escapes (next ∷ []))) e
plain_step byte (next ∷ third ∷ more) e = ap (λ b. cond b (byte_of next third ∷ without_escapes more) (byte ∷ without_escapes (next ∷ third ∷ more))) e

not_percent : (byte : ℕ) → is_plain byte ≡ true → (byte == 37) ≡ false
not_percent byte e = grind (arith, nat_tests)

escaped_step : (byte : ℕ) (rest : List ℕ) (plain : Bool) → byte < 256 → is_plain byte ≡ plain → without_escapes (cond plain (byte ∷ []) (37 ∷ hex_byte byte) ++ rest) ≡ byte ∷ without_escapes rest
escaped_step byte rest true small e = plain_step byte rest (not_percent byte e)
escaped_step byte rest false small e = ap (λ b. b ∷ without_escapes rest) (byte_back byte small)

all_escaped : (text : List ℕ) → All (λ byte. byte < 256) text → without_escapes (flat_map escaped_byte text) ≡ text
all_escaped [] small = refl
all_escaped (byte ∷ more) small =
    escaped_step byte (flat_map escaped_byte more) (is_plain byte) (All-head (λ b. b < 256) byte more small) refl ∙ ap (λ rest. byte ∷ rest) (all_escaped more (All-tail (λ b. b < 256) byte more small))

pub escaped_back : (text : List ℕ) → All (λ byte. byte < 256) text → without_escapes (with_escapes text) ≡ text
escaped_back [] small = refl
escaped_back (byte ∷ more) small = ap (λ b. without_escapes (cond b (codes "%") (flat_map escaped_byte (byte ∷ more)))) (some_bytes byte more) ∙ all_escaped (byte ∷ more) small

-- an endpoint
no_dot : (n : ℕ) → n < 2 ^ 64 → All (λ byte. (byte == 46) ≡ false) (decimal n)
no_dot n small =
    decimal_by_steps (λ number digits. All (λ byte. (byte == 46) ≡ false) digits)
    (λ number h. All-cons (λ byte. (byte == 46) ≡ false) (48 + number) [] (ne_eqb (48 + number) 46 (λ e. absurd (omega arith))) (All-nil (λ byte. (byte == 46) ≡ false)))
    (λ number digits h before. All-push (λ byte. (byte == 46) ≡ false) digits (48 + number % 10) before (ne_eqb (48 + number % 10) 46 (λ e. absurd (omega arith)))) n small

pub dots_back : (first second : ℕ) → first < 2 ^ 64 → second < 2 ^ 64 → dot_parts (dotted_text first second) ≡ decimal first ∷ decimal second ∷ []
dots_back first second small short =
    let test : ℕ → Bool = λ byte. byte == 46 in
    ap (slice_split test) (append_assoc (decimal first) (46 ∷ []) (decimal second)) ∙ slice_split_at test (decimal first) 46 (decimal second) (no_dot first small) refl
    ∙ ap (λ rest. decimal first ∷ rest) (slice_split_none test (decimal second) (no_dot second short))

first_back : (first second : ℕ) → first < 2 ^ 64 → second < 2 ^ 64 → first_number (dotted_text first second) ≡ first
first_back first second small short = ap (λ parts. number_read (first_part parts)) (dots_back first second small short) ∙ number_back first small

second_back : (first second : ℕ) → first < 2 ^ 64 → second < 2 ^ 64 → second_number (dotted_text first second) ≡ second
second_back first second small short = ap (λ parts. number_read (first_part (other_parts parts))) (dots_back first second small short) ∙ number_back second short

endpoint_same : (a g address generation : ℕ) → a ≡ address → g ≡ generation → ◌≡◌ {A = Endpoint} (record { address = a; generation = g }) (record { address = address; generation = generation })
endpoint_same a g address generation e f = cc

pub endpoint_back : (endpoint : Endpoint) → endpoint.address < 2 ^ 32 → endpoint.generation < 2 ^ 64 → endpoint_read (dotted_text endpoint.address endpoint.generation) ≡ endpoint
endpoint_back endpoint small short =
    endpoint_same _ _ endpoint.address endpoint.generation
    (ap (λ n. n % 2 ^ 32) (first_back endpoint.address endpoint.generation (omega arith) short) ∙ omega arith) (second_back endpoint.address endpoint.generation (omega arith) short)

dotted_same : (a b first second : ℕ) → a ≡ first → b ≡ second → ◌≡◌ {A = Word} (Dotted a b) (Dotted first second)
dotted_same a b first second e f = cc

both : (a b : Bool) → a ≡ true → b ≡ true → (a && b) ≡ true
both a b e f = ap (λ x. x && b) e ∙ f

pub no_zero : (bytes : List ℕ) → All (λ byte. (0 < byte) × (byte < 256)) bytes → list_all (λ byte. not (byte == 0)) bytes ≡ true
no_zero [] h = refl
no_zero (byte ∷ more) h =
    let first = All-head (λ b. (0 < b) × (b < 256)) byte more h in
    both (not (byte == 0)) (list_all (λ b. not (b == 0)) more) (ap not (ne_eqb byte 0 (λ e. absurd (omega arith)))) (no_zero more (All-tail (λ b. (0 < b) × (b < 256)) byte more h))

pub channel_is : (bytes : List ℕ) → length bytes ≤ 31 → All (λ byte. (0 < byte) × (byte < 256)) bytes → is_channel bytes ≡ true
channel_is bytes h all = both (nat_le (length bytes) 31) (list_all (λ byte. not (byte == 0)) bytes) (le-leb (length bytes) 31 h) (no_zero bytes all)

-- each kind
pub word_back : (word : Word) → IsGood word → word_read (kind_of word) (text word) ≡ word
word_back (Fixed bytes) good = refl
word_back (Name name) good = ap (λ b. Name (cond b name [])) good
word_back (Number number) good = ap Number (number_back number good)
word_back (Digits number) good = ap Digits (ap (λ n. n % 2 ^ 32) (eight_back number good) ∙ omega (arith, good))
word_back (Offset number) good = ap Offset (four_back number good)
word_back (Bytes bytes) good = ap Bytes (bytes_back bytes good.1)
word_back (Row most []) good = absurd (omega (arith, good.0))
word_back (Row most (byte ∷ more)) good =
    ap (λ b. Row most (bytes_of_pairs (cond b (codes "-") (flat_map hex_byte (byte ∷ more))))) (some_bytes byte more) ∙ ap (Row most) (pairs_back (byte ∷ more) good.2)
word_back (Escaped bytes) good =
    let back = escaped_back bytes (All-weaker (λ byte. (0 < byte) × (byte < 256)) (λ byte. byte < 256) (λ byte h. h.1) bytes good.1) in
    ap (λ text. Escaped (cond (is_channel text) text [])) back ∙ ap (λ b. Escaped (cond b bytes [])) (channel_is bytes good.0 good.1)
word_back (Trace bytes) good = ap Trace (escaped_back bytes (All-weaker (λ byte. (0 < byte) × (byte < 256)) (λ byte. byte < 256) (λ byte h. h.1) bytes good))
word_back (Lane lane) good = ap Lane (ap (λ n. n % 2) (number_back lane (omega (arith, good))) ∙ omega (arith, good))
word_back (Bound endpoint) good = ap Bound (endpoint_back endpoint good.0 good.1)
word_back (Dotted first second) good = dotted_same _ _ first second (first_back first second good.0 good.1) (second_back first second good.0 good.1)
word_back (Side side.Host) good = refl
word_back (Side side.Remote) good = refl
word_back (Open true) good = refl
word_back (Open false) good = refl
word_back (Service service.Created) good = refl
word_back (Service service.Duplicate) good = refl
word_back (Service service.Destroyed) good = refl
word_back (Service service.Unknown) good = refl
word_back (Service service.ChannelsFull) good = refl
word_back (State state.Offline) good = refl
word_back (State state.Running) good = refl
word_back (State state.Crashed) good = refl
word_back (State state.Attached) good = refl
word_back (State state.Detached) good = refl
word_back (Driver driver.Sink) good = refl
word_back (Driver driver.Echo) good = refl
word_back (Driver driver.Sample) good = refl
word_back (OnOff switch.On) good = refl
word_back (OnOff switch.Off) good = refl
