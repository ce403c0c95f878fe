-- Words by their first bytes, as a slice is read.
use Rattle.std.proofs.Common.{◌≡◌, ℕ, ◌≤◌, ◌-◌, ◌&&◌, ◌||◌, leb, List, [], ◌∷◌, length, get_or, take, drop, refl, arith}
use Rattle.std.specs.List.{list_all}
use Rattle.std.proofs.lemmas.List.{take_all}
use Rattle.word_kinds.specs.Spellings.{is_name, is_letter, is_digit, is_name_byte}

pub is_name_read : (word : List ℕ) → 1 ≤ length word → is_name word ≡ (((is_letter (get_or word 0 0) || is_digit (get_or word 0 0)) && list_all is_name_byte (take (length word - 1) (drop 1 word))) && leb (length (take (length word - 1) (drop 1 word))) 30)
is_name_read [] h = absurd (omega arith)
is_name_read (first ∷ more) h =
    let e : take (length (first ∷ more) - 1) more ≡ more = take_all _ more (omega arith) in
    rw e refl
