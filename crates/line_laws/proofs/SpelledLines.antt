-- Events whose words are good, each word by itself.
use Rattle.std.proofs.Common.{◌≡◌, ℕ, true, List, [], ◌∷◌, map, sym, ap, ◌∙◌}
use Rattle.std.specs.Prelude.{All}
use Rattle.std.proofs.lemmas.List.Elements.{All-nil, All-cons}
use Rattle.word_kinds.specs.Spellings.{is_name}
use Rattle.word_kinds.specs.Texts.{Word, Fixed, Name}
use Rattle.word_kinds.specs.Readings.{IsGood, is_clean, kind_of}
use Rattle.word_kinds.specs.Rows.{AreGood, are_fixed}
use Rattle.script_lang.proofs.Ranges.{both}
use Rattle.journal.specs.declared.events.Event.{Event}
use Rattle.journal.specs.Lines.{words_of}
use Rattle.journal.specs.Reading.{HasEra, IsWritten}
use Rattle.journal.proofs.Tabled.{form_of, kinds_fixed, kinds_of_words}

-- a name as scripts spell it
abbrev pub IsName : List ℕ → Type 0
IsName name = is_name name ≡ true

-- the words that aren't fixed are good
abbrev pub AreSpelled : List Word → Type 0
AreSpelled [] = Unit {0}
AreSpelled (Fixed text ∷ words) = AreSpelled words
AreSpelled (word ∷ words) = IsGood word × AreSpelled words

-- an event with such words and an era of 32 bits
abbrev pub IsSpelled : Event → Type 0
IsSpelled e = AreSpelled (words_of e) × HasEra e

-- some events
pub none : All IsSpelled []
none = All-nil IsSpelled

pub one : (first : Event) → IsSpelled first → All IsSpelled (first ∷ [])
one first is = All-cons IsSpelled first [] is none

pub two : (first second : Event) → IsSpelled first → IsSpelled second → All IsSpelled (first ∷ second ∷ [])
two first second is next = All-cons IsSpelled first (second ∷ []) is (one second next)

-- fixed words are good in each form
goods : (words : List Word) → are_fixed (map kind_of words) ≡ true → AreSpelled words → AreGood words
goods [] fixed spelled = tt
goods (Fixed text ∷ words) fixed spelled = let parts = both (is_clean text) (are_fixed (map kind_of words)) fixed in (parts.0, goods words parts.1 spelled)
goods (Name name ∷ words) fixed spelled = (spelled.0, goods words fixed spelled.1)
goods (other ∷ words) fixed spelled = (spelled.0, goods words fixed spelled.1)

-- so an event is read back
pub read_back : (e : Event) → IsSpelled e → IsWritten e
read_back e is = (goods (words_of e) (ap are_fixed (sym (kinds_of_words e)) ∙ kinds_fixed (form_of e)) is.0, is.1)
