-- The texts of good words have no space, and are not empty.
use Rattle.std.proofs.Common.{◌≡◌, ℕ, ◌+◌, ◌/◌, ◌%◌, ◌^◌, ◌<◌, ◌==◌, ◌&&◌, ◌||◌, not, Bool, true, false, cond, List, [], ◌∷◌, ◌++◌, length, codes, refl, ◌∙◌, ap, arith, length-append}
use Rattle.std.specs.Prelude.{All, nat_le, nat_lt}
use Rattle.std.specs.Fmt.{decimal, digits}
use Rattle.std.specs.List.{flat_map, list_all}
use Rattle.std.proofs.lemmas.Bool.{ne_eqb}
use Rattle.std.proofs.lemmas.Bool.Decides.{nat_tests}
use Rattle.std.proofs.lemmas.Fmt.{decimal_by_steps, decimal_nonempty}
use Rattle.std.proofs.lemmas.List.Elements.{All-nil, All-cons}
use Rattle.std.proofs.lemmas.List.Folds.{list_all-append}
use Rattle.rp_base.specs.declared.kinds.End.TheVariants as side
use Rattle.rp_base.specs.declared.kinds.NsKind.TheVariants as service
use Rattle.rp_base.specs.declared.kinds.LifeState.TheVariants as state
use Rattle.rp_base.specs.declared.kinds.DriverKind.TheVariants as driver
use Rattle.rp_base.specs.declared.kinds.Switch.TheVariants as switch
use Rattle.word_kinds.specs.Spellings.{is_letter, is_digit, is_name_byte, is_name}
use Rattle.word_kinds.specs.Texts.{Word, Fixed, Name, Number, Digits, Offset, Bytes, Row, Escaped, Trace, Lane, Bound, Dotted, Side, Open, Service, State, Driver, OnOff, text, hex_digit, hex_byte, hex_bytes, eight_digits, four_digits, is_plain, escaped_byte, with_escapes}
use Rattle.word_kinds.specs.Readings.{is_clean, IsGood}
use Rattle.word_kinds.proofs.Hexadecimals.{hexadecimal_by_steps}

abbrev pub is_other : ℕ → Bool
is_other byte = not (byte == 32)

pub both : (a b : Bool) → a ≡ true → b ≡ true → (a && b) ≡ true
both a b e f = ap (λ x. x && b) e ∙ f

pub parts : (a b : Bool) → (a && b) ≡ true → (a ≡ true) × (b ≡ true)
parts true b e = (refl, e)
parts false b e = absurd (cc)

some : (byte : ℕ) (more : List ℕ) → not (length (byte ∷ more) == 0) ≡ true
some byte more = ap not (ne_eqb (length (byte ∷ more)) 0 (λ e. absurd (omega arith)))

clean : (byte : ℕ) (more : List ℕ) → list_all is_other (byte ∷ more) ≡ true → is_clean (byte ∷ more) ≡ true
clean byte more e = both (not (length (byte ∷ more) == 0)) (list_all is_other (byte ∷ more)) (some byte more) e

clean_if : (text : List ℕ) → 0 < length text → list_all is_other text ≡ true → is_clean text ≡ true
clean_if [] h e = absurd (omega arith)
clean_if (byte ∷ more) h e = clean byte more e

-- names
name_byte : (byte : ℕ) → is_name_byte byte ≡ true → is_other byte ≡ true
name_byte byte e = grind (arith, nat_tests)

first_byte : (byte : ℕ) → (is_letter byte || is_digit byte) ≡ true → is_other byte ≡ true
first_byte byte e = grind (arith, nat_tests)

name_bytes : (bytes : List ℕ) → list_all is_name_byte bytes ≡ true → list_all is_other bytes ≡ true
name_bytes [] e = refl
name_bytes (byte ∷ more) e =
    let h = parts (is_name_byte byte) (list_all is_name_byte more) e in both (is_other byte) (list_all is_other more) (name_byte byte h.0) (name_bytes more h.1)

clean_name : (name : List ℕ) → is_name name ≡ true → is_clean name ≡ true
clean_name [] e = absurd (cc)
clean_name (first ∷ more) e =
    let h = parts ((is_letter first || is_digit first) && list_all is_name_byte more) (nat_le (length more) 30) e in
    let g = parts (is_letter first || is_digit first) (list_all is_name_byte more) h.0 in
    clean first more (both (is_other first) (list_all is_other more) (first_byte first g.0) (name_bytes more g.1))

-- numbers
digits_other : (n : ℕ) → n < 2 ^ 64 → list_all is_other (decimal n) ≡ true
digits_other n small =
    decimal_by_steps (λ number digits. list_all is_other digits ≡ true)
    (λ number h. both (is_other (48 + number)) true (ap not (ne_eqb (48 + number) 32 (λ e. absurd (omega arith)))) refl)
    (λ number digits h before. list_all-append is_other digits ((48 + number % 10) ∷ []) ∙ both (list_all is_other digits) _ before (both (is_other (48 + number % 10)) true (ap not (ne_eqb (48 + number % 10) 32 (λ e. absurd (omega arith)))) refl)) n small

-- bytes and hexadecimal digits
hex_other : (v : ℕ) → is_other (hex_digit v) ≡ true
hex_other v = grind (arith, nat_tests)

hex_more : (byte : ℕ) (rest : List ℕ) → list_all is_other rest ≡ true → list_all is_other (hex_byte byte ++ rest) ≡ true
hex_more byte rest e = both (is_other (hex_digit (byte / 16))) _ (hex_other (byte / 16)) (both (is_other (hex_digit (byte % 16))) (list_all is_other rest) (hex_other (byte % 16)) e)

bytes_other : (bytes : List ℕ) → list_all is_other (flat_map hex_byte bytes) ≡ true
bytes_other [] = refl
bytes_other (byte ∷ more) = hex_more byte (flat_map hex_byte more) (bytes_other more)

clean_eight : (n : ℕ) → is_clean (eight_digits n) ≡ true
clean_eight n =
    let last = hex_more (n % 256) [] refl in
    let third = hex_more (n / 256 % 256) (hex_byte (n % 256)) last in
    let second = hex_more (n / 65536 % 256) (hex_byte (n / 256 % 256) ++ hex_byte (n % 256)) third in
    clean_if (eight_digits n) (omega arith) (hex_more (n / 16777216) (hex_byte (n / 65536 % 256) ++ hex_byte (n / 256 % 256) ++ hex_byte (n % 256)) second)

one_other : (v : ℕ) → list_all is_other (hex_digit v ∷ []) ≡ true
one_other v = both (is_other (hex_digit v)) true (hex_other v) refl

clean_behind : (front : List ℕ) (byte : ℕ) → is_clean front ≡ true → list_all is_other (byte ∷ []) ≡ true → is_clean (front ++ byte ∷ []) ≡ true
clean_behind front byte e h =
    let g = parts (not (length front == 0)) (list_all is_other front) e in
    clean_if (front ++ byte ∷ []) (omega (arith, length-append front (byte ∷ []))) (list_all-append is_other front (byte ∷ []) ∙ both (list_all is_other front) (list_all is_other (byte ∷ [])) g.1 h)

clean_hexadecimal : (n : ℕ) → n < 2 ^ 64 → is_clean (digits 16 false n) ≡ true
clean_hexadecimal n small = hexadecimal_by_steps (λ number text. is_clean text ≡ true) (λ number h. clean (hex_digit (number % 16)) [] (one_other (number % 16))) (λ number front h before. clean_behind front (hex_digit (number % 16)) before (one_other (number % 16))) n small

picked_clean : (b : Bool) (xs ys : List ℕ) → is_clean xs ≡ true → is_clean ys ≡ true → is_clean (cond b xs ys) ≡ true
picked_clean true xs ys h g = h
picked_clean false xs ys h g = g

clean_four : (n : ℕ) → n < 2 ^ 64 → is_clean (four_digits n) ≡ true
clean_four n small =
    picked_clean (nat_lt n 65536) (hex_byte (n / 256) ++ hex_byte (n % 256)) (digits 16 false n)
    (clean_if (hex_byte (n / 256) ++ hex_byte (n % 256)) (omega arith) (hex_more (n / 256) (hex_byte (n % 256)) (hex_more (n % 256) [] refl)))
    (clean_hexadecimal n small)

clean_bytes : (bytes : List ℕ) → is_clean (hex_bytes bytes) ≡ true
clean_bytes [] = refl
clean_bytes (byte ∷ more) =
    ap (λ b. is_clean (cond b (codes "-") (flat_map hex_byte (byte ∷ more)))) (ne_eqb (length (byte ∷ more)) 0 (λ e. absurd (omega arith)))
    ∙ clean (hex_digit (byte / 16)) (hex_digit (byte % 16) ∷ flat_map hex_byte more) (bytes_other (byte ∷ more))

-- texts with escapes
plain_other : (byte : ℕ) → is_plain byte ≡ true → is_other byte ≡ true
plain_other byte e = grind (arith, nat_tests)

escaped_more : (byte : ℕ) (rest : List ℕ) (plain : Bool) → is_plain byte ≡ plain → list_all is_other rest ≡ true → list_all is_other (cond plain (byte ∷ []) (37 ∷ hex_byte byte) ++ rest) ≡ true
escaped_more byte rest true e h = both (is_other byte) (list_all is_other rest) (plain_other byte e) h
escaped_more byte rest false e h = hex_more byte rest h

escaped_other : (text : List ℕ) → list_all is_other (flat_map escaped_byte text) ≡ true
escaped_other [] = refl
escaped_other (byte ∷ more) = escaped_more byte (flat_map escaped_byte more) (is_plain byte) refl (escaped_other more)

escaped_some : (byte : ℕ) (rest : List ℕ) (plain : Bool) → 0 < length (cond plain (byte ∷ []) (37 ∷ hex_byte byte) ++ rest)
escaped_some byte rest true = omega arith
escaped_some byte rest false = omega arith

clean_escaped : (text : List ℕ) → is_clean (with_escapes text) ≡ true
clean_escaped [] = refl
clean_escaped (byte ∷ more) =
    ap (λ b. is_clean (cond b (codes "%") (flat_map escaped_byte (byte ∷ more)))) (ne_eqb (length (byte ∷ more)) 0 (λ e. absurd (omega arith)))
    ∙ clean_if (flat_map escaped_byte (byte ∷ more)) (escaped_some byte (flat_map escaped_byte more) (is_plain byte)) (escaped_other (byte ∷ more))

-- numbers with a dot
clean_dotted : (address generation : ℕ) → address < 2 ^ 64 → generation < 2 ^ 64 → is_clean ((decimal address ++ 46 ∷ []) ++ decimal generation) ≡ true
clean_dotted address generation small short =
    clean_if ((decimal address ++ 46 ∷ []) ++ decimal generation) (omega (arith, length-append (decimal address ++ 46 ∷ []) (decimal generation), length-append (decimal address) (46 ∷ [])))
    (list_all-append is_other (decimal address ++ 46 ∷ []) (decimal generation)
    ∙ both (list_all is_other (decimal address ++ 46 ∷ [])) (list_all is_other (decimal generation)) (list_all-append is_other (decimal address) (46 ∷ []) ∙ both (list_all is_other (decimal address)) true (digits_other address small) refl) (digits_other generation short))

pub clean_text : (word : Word) → IsGood word → is_clean (text word) ≡ true
clean_text (Fixed bytes) good = good
clean_text (Name name) good = clean_name name good
clean_text (Number number) good = clean_if (decimal number) (decimal_nonempty number good) (digits_other number good)
clean_text (Digits number) good = clean_eight number
clean_text (Offset number) good = clean_four number good
clean_text (Bytes bytes) good = clean_bytes bytes
clean_text (Row most bytes) good = clean_bytes bytes
clean_text (Escaped bytes) good = clean_escaped bytes
clean_text (Trace bytes) good = clean_escaped bytes
clean_text (Lane lane) good = clean_if (decimal lane) (decimal_nonempty lane (omega (arith, good))) (digits_other lane (omega (arith, good)))
clean_text (Bound endpoint) good = clean_dotted endpoint.address endpoint.generation (omega (arith, good.0)) good.1
clean_text (Dotted first second) good = clean_dotted first second good.0 good.1
clean_text (Side side.Host) good = refl
clean_text (Side side.Remote) good = refl
clean_text (Open true) good = refl
clean_text (Open false) good = refl
clean_text (Service service.Created) good = refl
clean_text (Service service.Duplicate) good = refl
clean_text (Service service.Destroyed) good = refl
clean_text (Service service.Unknown) good = refl
clean_text (Service service.ChannelsFull) good = refl
clean_text (State state.Offline) good = refl
clean_text (State state.Running) good = refl
clean_text (State state.Crashed) good = refl
clean_text (State state.Attached) good = refl
clean_text (State state.Detached) good = refl
clean_text (Driver driver.Sink) good = refl
clean_text (Driver driver.Echo) good = refl
clean_text (Driver driver.Sample) good = refl
clean_text (OnOff switch.On) good = refl
clean_text (OnOff switch.Off) good = refl

pub unless : (b : Bool) → not b ≡ true → b ≡ false
unless true e = absurd (cc)
unless false e = refl

pub spaceless : (bytes : List ℕ) → list_all is_other bytes ≡ true → All (λ byte. (byte == 32) ≡ false) bytes
spaceless [] e = All-nil (λ byte. (byte == 32) ≡ false)
spaceless (byte ∷ more) e = let h = parts (is_other byte) (list_all is_other more) e in All-cons (λ b. (b == 32) ≡ false) byte more (unless (byte == 32) h.0) (spaceless more h.1)
