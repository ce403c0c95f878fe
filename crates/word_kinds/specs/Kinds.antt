-- The kinds of words of a script, and the word of each that is read (own).
use Rattle.std.specs.Prelude.{ℕ, ◌-◌, Bool, true, false, ◌&&◌, ◌||◌, List, [], ◌∷◌, is_some, bytes_eq, codes}
use Rattle.rp_base.specs.Limits.{is_ring_size}
use Rattle.rp_base.specs.declared.limits.TheConstants.{BOOK_MOST, CALLERS_MOST, STEPS_MOST}
use Rattle.word_kinds.specs.declared.kinds.Kind.{Kind}
use Rattle.word_kinds.specs.declared.kinds.Kind.TheVariants as kind
use Rattle.word_kinds.specs.Spellings.{is_name, number_of, is_number_with, is_number_within}
use Rattle.word_kinds.specs.Payloads.{is_payload}

-- one of two words
abbrev pub is_either : List ℕ → List ℕ → List ℕ → Bool
is_either first second word = bytes_eq word first || bytes_eq word second

-- the word is of this kind
abbrev pub is_of : Kind → List ℕ → Bool
is_of kind.Keyword word = true
is_of kind.Name word = is_name word
is_of kind.Number word = is_some (number_of word)
is_of kind.Address word = bytes_eq word (codes "any") || is_some (number_of word)
is_of kind.Vendor word = is_number_within 4 4294967295 word
is_of kind.Payload word = is_payload word
is_of kind.Caller word = is_number_within 0 (CALLERS_MOST - 1) word
is_of kind.Count word = is_number_within 1 STEPS_MOST word
is_of kind.Ring word = is_number_with is_ring_size (number_of word)
is_of kind.Book word = is_number_within 1 BOOK_MOST word
is_of kind.Lane word = is_either (codes "0") (codes "1") word
is_of kind.End word = is_either (codes "host") (codes "remote") word
is_of kind.Length word = is_number_within 1 256 word
is_of kind.RegionSet word = is_either (codes "std") (codes "bare") word
is_of kind.RegionKind word = is_either (codes "tcm") (codes "pool") word
is_of kind.CrashKind word = bytes_eq word (codes "mmufault") || is_either (codes "watchdog") (codes "fatal") word
is_of kind.DriverKind word = bytes_eq word (codes "sink") || is_either (codes "echo") (codes "sample") word
is_of kind.Switch word = is_either (codes "on") (codes "off") word
is_of kind.Destination word = bytes_eq word (codes "last") || is_some (number_of word)
is_of kind.RecordLength word = is_number_within 0 65535 word

-- each word is of the kind in its place, and there are as many
abbrev pub are_of : List Kind → List (List ℕ) → Bool
are_of [] [] = true
are_of [] (word ∷ more) = false
are_of (kind ∷ kinds) [] = false
are_of (kind ∷ kinds) (word ∷ more) = is_of kind word && are_of kinds more
