-- Rows of kinds of words, as the forms of lines have them, and the texts that fit them (own).
use Rattle.std.specs.Prelude.{ℕ, ◌+◌, ◌/◌, Bool, true, false, ◌&&◌, ◌||◌, not, nat_le, List, [], ◌∷◌, length, bytes_eq}
use Rattle.std.specs.List.{slice_index, slice_index_or}
use Rattle.word_kinds.specs.Spellings.{is_name, is_digit}
use Rattle.word_kinds.specs.declared.slots.Slot.{Slot}
use Rattle.word_kinds.specs.declared.slots.Slot.TheVariants as slot
use Rattle.word_kinds.specs.Texts.{Word, Fixed}
use Rattle.word_kinds.specs.Readings.{LineKind, OfText, OfName, OfNumber, OfDigits, OfOffset, OfBytes, OfRow, OfEscaped, OfTrace, OfLane, OfBound, OfDotted, OfSide, OfOpen, OfService, OfState, OfDriver, OfSwitch, is_channel, is_zeroless, is_clean, without_escapes, IsGood, word_read}

-- the kind of what is in a place of a form
abbrev pub kind_in : Slot → LineKind
kind_in (slot.Text text) = OfText text.now
kind_in slot.Name = OfName
kind_in slot.Number = OfNumber
kind_in slot.Digits = OfDigits
kind_in slot.Offset = OfOffset
kind_in slot.Bytes = OfBytes
kind_in (slot.Row most) = OfRow most
kind_in slot.Escaped = OfEscaped
kind_in slot.Trace = OfTrace
kind_in slot.Lane = OfLane
kind_in slot.Bound = OfBound
kind_in slot.Dotted = OfDotted
kind_in slot.Side = OfSide
kind_in slot.Open = OfOpen
kind_in slot.Service = OfService
kind_in slot.State = OfState
kind_in slot.Driver = OfDriver
kind_in slot.Switch = OfSwitch

-- a text that may be one of a kind
abbrev pub fits : LineKind → List ℕ → Bool
fits (OfText text) word = bytes_eq word text
fits OfName word = is_name word
fits OfNumber word = true
fits OfDigits word = true
fits OfOffset word = true
fits OfBytes word = nat_le (length word) 1024
fits (OfRow most) word = nat_le 2 (length word) && nat_le (length word / 2) most
fits OfEscaped word = is_channel (without_escapes word)
fits OfTrace word = is_zeroless (without_escapes word)
fits OfLane word = true
fits OfBound word = true
fits OfDotted word = true
fits OfSide word = true
fits OfOpen word = true
fits OfService word = true
fits OfState word = true
fits OfDriver word = true
fits OfSwitch word = true

-- texts that may be those of a row
abbrev pub fit : List LineKind → List (List ℕ) → Bool
fit [] [] = true
fit [] (word ∷ words) = false
fit (kind ∷ kinds) [] = false
fit (kind ∷ kinds) (word ∷ words) = fits kind word && fit kinds words

-- the kind in a place, the text in a place, and the word that it says
abbrev pub kind_at : List LineKind → ℕ → LineKind
kind_at kinds place = slice_index_or kinds place (OfText [])

abbrev pub text_at : List (List ℕ) → ℕ → List ℕ
text_at texts place = slice_index_or texts place []

abbrev pub row_read : List LineKind → List (List ℕ) → ℕ → Word
row_read kinds texts place = word_read (kind_at kinds place) (text_at texts place)

-- the word in a place of a kind: a fixed one, or else the first of some values; and the values that are left
abbrev pub word_for : LineKind → List Word → Word
word_for (OfText text) values = Fixed text
word_for kind [] = Fixed []
word_for kind (value ∷ values) = value

abbrev pub left_by : LineKind → List Word → List Word
left_by (OfText text) values = values
left_by kind [] = []
left_by kind (value ∷ values) = values

-- the words of a row with values in the places that have no fixed word
abbrev pub filled : List LineKind → List Word → List Word
filled [] values = []
filled (kind ∷ kinds) values = word_for kind values ∷ filled kinds (left_by kind values)

-- the word in a place
abbrev pub word_in : List Word → ℕ → Word
word_in words place = slice_index_or words place (Fixed [])

-- good words
abbrev pub AreGood : List Word → Type 0
AreGood [] = Unit {0}
AreGood (word ∷ words) = IsGood word × AreGood words

-- no text of a good word of the second kind fits the first
abbrev pub differ : LineKind → LineKind → Bool
differ (OfText text) (OfText other) = not (bytes_eq other text)
differ (OfText text) OfNumber = not (is_digit (slice_index text 0))
differ (OfText text) OfBound = not (is_digit (slice_index text 0))
differ (OfText text) OfName = not (is_name text)
differ kind other = false

-- no texts of good words of the second row fit the first
abbrev pub apart : List LineKind → List LineKind → Bool
apart [] [] = false
apart [] (kind ∷ kinds) = true
apart (kind ∷ kinds) [] = true
apart (kind ∷ kinds) (other ∷ others) = differ kind other || apart kinds others

-- each of these forms has a row that is apart from this one
abbrev pub all_apart : {F : Type 0} → (F → List LineKind) → List LineKind → List F → Bool
all_apart kinds row [] = true
all_apart kinds row (form ∷ more) = apart (kinds form) row && all_apart kinds row more

-- the words that texts from a place on say
abbrev pub row_words : List LineKind → List (List ℕ) → ℕ → List Word
row_words [] texts place = []
row_words (kind ∷ kinds) texts place = word_read kind (text_at texts place) ∷ row_words kinds texts (place + 1)

-- each fixed text of a row is one word
abbrev pub is_fixed : LineKind → Bool
is_fixed (OfText text) = is_clean text
is_fixed kind = true

abbrev pub are_fixed : List LineKind → Bool
are_fixed [] = true
are_fixed (kind ∷ kinds) = is_fixed kind && are_fixed kinds
