-- An escaped text holds plain bytes and entities.
use Rattle.std.proofs.Common.{◌≡◌, ℕ, ◌==◌, Bool, true, false, cond, List, [], ◌∷◌, ◌++◌, codes, refl}
use Rattle.svg_text.specs.Escapes.{Entity, IsContent, ampersand, empty, entity, entity_of, escaped, greater, is_plain, less, plain, quote, unprintable}

by_tests : (a b c d : Bool) → Entity (cond a (codes "&amp;") (cond b (codes "&lt;") (cond c (codes "&gt;") (cond d (codes "&quot;") (codes "&#65533;")))))
by_tests true b c d = ampersand
by_tests false true c d = less
by_tests false false true d = greater
by_tests false false false true = quote
by_tests false false false false = unprintable

is_entity : (byte : ℕ) → Entity (entity_of byte)
is_entity byte = by_tests (byte == 38) (byte == 60) (byte == 62) (byte == 34)

before : (byte : ℕ) (more : List ℕ) (test : Bool) → is_plain byte ≡ test → IsContent more → IsContent (cond test (byte ∷ []) (entity_of byte) ++ more)
before byte more true is rest = plain byte more is rest
before byte more false is rest = entity (entity_of byte) more (is_entity byte) rest

pub content : (text : List ℕ) → IsContent (escaped text)
content [] = empty
content (byte ∷ text) = before byte (escaped text) (is_plain byte) refl (content text)
