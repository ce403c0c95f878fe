-- How a text is in an XML document (XML 1.0: `&` and `<` don't stand for themselves in character data, nor does `"` in a quoted value).
use Rattle.std.specs.Prelude.{◌≡◌, ℕ, Bool, true, ◌==◌, ◌||◌, ◌&&◌, not, nat_le, if◌then◌else◌, List, [], ◌∷◌, ◌++◌, codes}
use Rattle.std.specs.List.{flat_map}

-- a byte that stands for itself: a printable character of ASCII that is none of `&`, `<`, `>` and `"`
abbrev pub is_plain : ℕ → Bool
is_plain byte = nat_le 32 byte && nat_le byte 126 && not (byte == 38 || byte == 60 || byte == 62 || byte == 34)

-- the entity of a byte that doesn't: of a byte that is no printable character of ASCII, the character that stands for none, U+FFFD
abbrev pub entity_of : ℕ → List ℕ
entity_of byte =
    if byte == 38 then codes "&amp;"
    else (if byte == 60 then codes "&lt;"
    else (if byte == 62 then codes "&gt;"
    else (if byte == 34 then codes "&quot;" else codes "&#65533;")))

abbrev pub escaped_byte : ℕ → List ℕ
escaped_byte byte = if is_plain byte then byte ∷ [] else entity_of byte

-- a text as it is in a document
abbrev pub escaped : List ℕ → List ℕ
escaped text = flat_map escaped_byte text

-- an entity that a document may hold
pub data Entity : List ℕ → Type 0 where
  ampersand : Entity (codes "&amp;")
  less : Entity (codes "&lt;")
  greater : Entity (codes "&gt;")
  quote : Entity (codes "&quot;")
  unprintable : Entity (codes "&#65533;")

-- what may be between the markup of a document, and in a quoted value: plain bytes and entities
pub data IsContent : List ℕ → Type 0 where
  empty : IsContent []
  plain : (byte : ℕ) (more : List ℕ) → is_plain byte ≡ true → IsContent more → IsContent (byte ∷ more)
  entity : (entity more : List ℕ) → Entity entity → IsContent more → IsContent (entity ++ more)
