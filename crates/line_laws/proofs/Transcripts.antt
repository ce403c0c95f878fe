-- The lines of a transcript are those of its events: no line has a line feed but its last.
use Rattle.std.proofs.Common.{◌≡◌, ℕ, ◌+◌, ◌/◌, ◌%◌, ◌^◌, ◌<◌, ◌==◌, ◌&&◌, ◌||◌, not, Bool, true, false, cond, List, [], ◌∷◌, ◌++◌, map, length, codes, Some, None, refl, ◌∙◌, ap, arith}
use Rattle.std.specs.Prelude.{All, nat_le, nat_lt}
use Rattle.std.specs.Fmt.{decimal, digits}
use Rattle.std.specs.List.{flat_map, join_with_byte, list_all, onto_first}
use Rattle.std.proofs.lemmas.Bool.{ne_eqb}
use Rattle.std.proofs.lemmas.Bool.Decides.{nat_tests}
use Rattle.std.proofs.lemmas.Fmt.{decimal_by_steps}
use Rattle.std.proofs.lemmas.List.{append_assoc}
use Rattle.std.proofs.lemmas.List.Elements.{All-head, All-tail}
use Rattle.std.proofs.lemmas.List.Folds.{list_all-append}
use Rattle.rp_base.specs.declared.kinds.CrashKind.TheVariants as crash
use Rattle.rp_base.specs.declared.kinds.End.TheVariants as side
use Rattle.rp_base.specs.declared.kinds.NsKind.TheVariants as service
use Rattle.rp_base.specs.declared.kinds.LifeState.TheVariants as state
use Rattle.rp_base.specs.declared.kinds.DriverKind.TheVariants as driver
use Rattle.rp_base.specs.declared.kinds.Switch.TheVariants as switch
use Rattle.word_kinds.specs.Lines.{line_of}
use Rattle.word_kinds.specs.Readings.{IsGood, LineKind, OfText, kind_of}
use Rattle.word_kinds.specs.Rows.{AreGood}
use Rattle.word_kinds.specs.Spellings.{is_digit, is_letter, is_name, is_name_byte}
use Rattle.word_kinds.specs.Texts.{Word, Fixed, Name, Number, Digits, Offset, Bytes, Row, Escaped, Trace, Lane, Bound, Dotted, Side, Open, Service, State, Driver, OnOff, eight_digits, escaped_byte, four_digits, hex_byte, hex_bytes, hex_digit, is_plain, text, with_escapes}
use Rattle.word_kinds.proofs.Clean.{both, parts, unless}
use Rattle.word_kinds.proofs.Hexadecimals.{hexadecimal_by_steps}
use Rattle.journal.specs.declared.events.Event.{Event}
use Rattle.journal.specs.declared.events.Event.TheVariants as event
use Rattle.journal.specs.declared.tables.TableLine.TheVariants as entry
use Rattle.journal.specs.Lines.{line, transcript, words_of}
use Rattle.journal.specs.Reading.{IsWritten}
use Rattle.journal_check.specs.Lines.{lines_of}

-- a byte that is no line feed, and a text without one
abbrev is_other : ℕ → Bool
is_other byte = not (byte == 10)

abbrev IsOneLine : List ℕ → Type 0
IsOneLine text = list_all is_other text ≡ true

joined : (front behind : List ℕ) → IsOneLine front → IsOneLine behind → IsOneLine (front ++ behind)
joined front behind first second = list_all-append is_other front behind ∙ both (list_all is_other front) (list_all is_other behind) first second

-- ---- names

name_byte : (byte : ℕ) → is_name_byte byte ≡ true → is_other byte ≡ true
name_byte byte e = grind (arith, nat_tests)

first_byte : (byte : ℕ) → (is_letter byte || is_digit byte) ≡ true → is_other byte ≡ true
first_byte byte e = grind (arith, nat_tests)

name_bytes : (bytes : List ℕ) → list_all is_name_byte bytes ≡ true → IsOneLine bytes
name_bytes [] e = refl
name_bytes (byte ∷ more) e =
    let is = parts (is_name_byte byte) (list_all is_name_byte more) e in both (is_other byte) (list_all is_other more) (name_byte byte is.0) (name_bytes more is.1)

name_line : (name : List ℕ) → is_name name ≡ true → IsOneLine name
name_line [] e = absurd (cc)
name_line (first ∷ more) e =
    let all = parts ((is_letter first || is_digit first) && list_all is_name_byte more) (nat_le (length more) 30) e in
    let is = parts (is_letter first || is_digit first) (list_all is_name_byte more) all.0 in
    both (is_other first) (list_all is_other more) (first_byte first is.0) (name_bytes more is.1)

-- ---- numbers

digit_line : (byte : ℕ) → (byte ≡ 10 → ⊥) → IsOneLine (byte ∷ [])
digit_line byte other = both (is_other byte) true (ap not (ne_eqb byte 10 other)) refl

number_line : (n : ℕ) → n < 2 ^ 64 → IsOneLine (decimal n)
number_line n small =
    decimal_by_steps (λ number digits. IsOneLine digits) (λ number few. digit_line (48 + number) (λ e. absurd (omega arith)))
    (λ number digits some before. joined digits ((48 + number % 10) ∷ []) before (digit_line (48 + number % 10) (λ e. absurd (omega arith)))) n small

hex_other : (v : ℕ) → is_other (hex_digit v) ≡ true
hex_other v = grind (arith, nat_tests)

hex_more : (byte : ℕ) (rest : List ℕ) → IsOneLine rest → IsOneLine (hex_byte byte ++ rest)
hex_more byte rest e = both (is_other (hex_digit (byte / 16))) _ (hex_other (byte / 16)) (both (is_other (hex_digit (byte % 16))) (list_all is_other rest) (hex_other (byte % 16)) e)

bytes_line : (bytes : List ℕ) → IsOneLine (flat_map hex_byte bytes)
bytes_line [] = refl
bytes_line (byte ∷ more) = hex_more byte (flat_map hex_byte more) (bytes_line more)

eight_line : (n : ℕ) → IsOneLine (eight_digits n)
eight_line n =
    let last = hex_more (n % 256) [] refl in
    let third = hex_more (n / 256 % 256) (hex_byte (n % 256)) last in
    let second = hex_more (n / 65536 % 256) (hex_byte (n / 256 % 256) ++ hex_byte (n % 256)) third in
    hex_more (n / 16777216) (hex_byte (n / 65536 % 256) ++ hex_byte (n / 256 % 256) ++ hex_byte (n % 256)) second

one_digit : (v : ℕ) → IsOneLine (hex_digit v ∷ [])
one_digit v = both (is_other (hex_digit v)) true (hex_other v) refl

hexadecimal_line : (n : ℕ) → n < 2 ^ 64 → IsOneLine (digits 16 false n)
hexadecimal_line n small =
    hexadecimal_by_steps (λ number text. IsOneLine text) (λ number few. one_digit (number % 16)) (λ number front some before. joined front (hex_digit (number % 16) ∷ []) before (one_digit (number % 16))) n small

either : (b : Bool) (xs ys : List ℕ) → IsOneLine xs → IsOneLine ys → IsOneLine (cond b xs ys)
either true xs ys first second = first
either false xs ys first second = second

four_line : (n : ℕ) → n < 2 ^ 64 → IsOneLine (four_digits n)
four_line n small =
    either (nat_lt n 65536) (hex_byte (n / 256) ++ hex_byte (n % 256)) (digits 16 false n) (hex_more (n / 256) (hex_byte (n % 256)) (hex_more (n % 256) [] refl)) (hexadecimal_line n small)

payload_line : (bytes : List ℕ) → IsOneLine (hex_bytes bytes)
payload_line bytes = either (length bytes == 0) (codes "-") (flat_map hex_byte bytes) refl (bytes_line bytes)

-- ---- texts with escapes

plain_byte : (byte : ℕ) → is_plain byte ≡ true → is_other byte ≡ true
plain_byte byte e = grind (arith, nat_tests)

escaped_more : (byte : ℕ) (rest : List ℕ) (plain : Bool) → is_plain byte ≡ plain → IsOneLine rest → IsOneLine (cond plain (byte ∷ []) (37 ∷ hex_byte byte) ++ rest)
escaped_more byte rest true e is = both (is_other byte) (list_all is_other rest) (plain_byte byte e) is
escaped_more byte rest false e is = hex_more byte rest is

escaped_bytes : (text : List ℕ) → IsOneLine (flat_map escaped_byte text)
escaped_bytes [] = refl
escaped_bytes (byte ∷ more) = escaped_more byte (flat_map escaped_byte more) (is_plain byte) refl (escaped_bytes more)

escaped_line : (text : List ℕ) → IsOneLine (with_escapes text)
escaped_line text = either (length text == 0) (codes "%") (flat_map escaped_byte text) refl (escaped_bytes text)

dotted_line : (first second : ℕ) → first < 2 ^ 64 → second < 2 ^ 64 → IsOneLine ((decimal first ++ 46 ∷ []) ++ decimal second)
dotted_line first second small short = joined (decimal first ++ 46 ∷ []) (decimal second) (joined (decimal first) (46 ∷ []) (number_line first small) refl) (number_line second short)

-- ---- words

-- each fixed text of a row has no line feed
abbrev are_lines : List LineKind → Bool
are_lines [] = true
are_lines (OfText text ∷ more) = list_all is_other text && are_lines more
are_lines (other ∷ more) = are_lines more

event_lines : (e : Event) → are_lines (map kind_of (words_of e)) ≡ true
event_lines event.ObjectsFull = refl
event_lines (event.Channel x name a None) = refl
event_lines (event.Channel x name a (Some endpoint)) = refl
event_lines (event.Crashed x crash.Mmufault) = refl
event_lines (event.Crashed x crash.Watchdog) = refl
event_lines (event.Crashed x crash.Fatal) = refl
event_lines (event.Table x (entry.Carveout a b c d e)) = refl
event_lines (event.Table x (entry.Devmem a b c d e)) = refl
event_lines (event.Table x (entry.Trace a b c d)) = refl
event_lines (event.Table x (entry.TraceUnavailable a b c d)) = refl
event_lines (event.Table x (entry.Skipped a b)) = refl
event_lines (event.Table x (entry.Vdev a b c d)) = refl
event_lines (event.Table x (entry.Vring a b c d e f)) = refl
event_lines e = refl

-- a good word has none, and the rest of a row is one
word_line : (word : Word) (rest : List LineKind) → are_lines (kind_of word ∷ rest) ≡ true → IsGood word → IsOneLine (text word) × (are_lines rest ≡ true)
word_line (Fixed bytes) rest e good = parts (list_all is_other bytes) (are_lines rest) e
word_line (Name name) rest e good = (name_line name good, e)
word_line (Number number) rest e good = (number_line number good, e)
word_line (Digits number) rest e good = (eight_line number, e)
word_line (Offset number) rest e good = (four_line number good, e)
word_line (Bytes bytes) rest e good = (payload_line bytes, e)
word_line (Row most bytes) rest e good = (payload_line bytes, e)
word_line (Escaped bytes) rest e good = (escaped_line bytes, e)
word_line (Trace bytes) rest e good = (escaped_line bytes, e)
word_line (Lane lane) rest e good = (number_line lane (omega (arith, good)), e)
word_line (Bound endpoint) rest e good = (dotted_line endpoint.address endpoint.generation (omega (arith, good.0)) good.1, e)
word_line (Dotted first second) rest e good = (dotted_line first second good.0 good.1, e)
word_line (Side side.Host) rest e good = (refl, e)
word_line (Side side.Remote) rest e good = (refl, e)
word_line (Open true) rest e good = (refl, e)
word_line (Open false) rest e good = (refl, e)
word_line (Service service.Created) rest e good = (refl, e)
word_line (Service service.Duplicate) rest e good = (refl, e)
word_line (Service service.Destroyed) rest e good = (refl, e)
word_line (Service service.Unknown) rest e good = (refl, e)
word_line (Service service.ChannelsFull) rest e good = (refl, e)
word_line (State state.Offline) rest e good = (refl, e)
word_line (State state.Running) rest e good = (refl, e)
word_line (State state.Crashed) rest e good = (refl, e)
word_line (State state.Attached) rest e good = (refl, e)
word_line (State state.Detached) rest e good = (refl, e)
word_line (Driver driver.Sink) rest e good = (refl, e)
word_line (Driver driver.Echo) rest e good = (refl, e)
word_line (Driver driver.Sample) rest e good = (refl, e)
word_line (OnOff switch.On) rest e good = (refl, e)
word_line (OnOff switch.Off) rest e good = (refl, e)

words_line : (words : List Word) → are_lines (map kind_of words) ≡ true → AreGood words → IsOneLine (join_with_byte 32 (map text words))
words_line [] e good = refl
words_line (word ∷ []) e good = (word_line word [] e good.0).0
words_line (word ∷ next ∷ more) e good =
    let is = word_line word (map kind_of (next ∷ more)) e good.0 in
    joined (text word) (32 ∷ join_with_byte 32 (map text (next ∷ more))) is.0 (words_line (next ∷ more) is.1 good.1)

-- ---- lines

front_line : (front rest : List ℕ) → IsOneLine front → lines_of (front ++ 10 ∷ rest) ≡ (front ++ 10 ∷ []) ∷ lines_of rest
front_line [] rest e = refl
front_line (byte ∷ more) rest e =
    let is = parts (is_other byte) (list_all is_other more) e in
    ap (λ feeds. cond feeds ((byte ∷ []) ∷ lines_of (more ++ 10 ∷ rest)) (onto_first byte (lines_of (more ++ 10 ∷ rest)))) (unless (byte == 10) is.0)
    ∙ ap (onto_first byte) (front_line more rest is.1)

pub lines_are : (events : List Event) → All IsWritten events → lines_of (transcript events) ≡ map line events
unfolding line line_of
lines_are [] all = refl
lines_are (first ∷ more) all =
    let words = words_of first in
    let front = join_with_byte 32 (map text words) in
    let good = All-head IsWritten first more all in
    ap lines_of (append_assoc front (10 ∷ []) (transcript more))
    ∙ front_line front (transcript more) (words_line words (event_lines first) good.0)
    ∙ ap (λ rest. (front ++ 10 ∷ []) ∷ rest) (lines_are more (All-tail IsWritten first more all))
