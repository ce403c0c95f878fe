-- The bytes of a worker's code.
use Rattle.std.proofs.Common.{◌≡◌, ℕ, ◌+◌, ◌*◌, Bool, true, false, cond, List, [], ◌∷◌, ◌++◌, length, sym, ◌∙◌, ap, arith, refl, append_assoc, length-append}
use Rattle.std.proofs.lemmas.List.Concat.{length-flat_map}
use Rattle.script_lang.specs.declared.recipes.RecipeLine.{RecipeLine}
use Rattle.script_lang.specs.declared.recipes.RecipeLine.TheVariants as recipe
use Rattle.image_maker.specs.Segments.{data_of, data_len, segment_bytes, is_record, records_in_front, code_of}

-- a line that is a record, and then those behind it
record_len : (line : RecipeLine) (more : List RecipeLine) → length (code_of more) ≡ 16 * records_in_front more → length (code_of (line ∷ more)) ≡ 16 * records_in_front (line ∷ more)
record_len recipe.Halt more h = omega (arith, h)
record_len line more h = omega (arith, h)

pub length_code : (lines : List RecipeLine) → length (code_of lines) ≡ 16 * records_in_front lines
length_code [] = refl
length_code (line ∷ more) = record_len line more (length_code more)

-- the code is the front of the bytes of the segments
pub record CodeFront (lines : List RecipeLine) : Type 0 where
  pub rest : List ℕ
  pub is : segment_bytes lines ≡ code_of lines ++ rest

front_more : (test : Bool) (part code bytes rest : List ℕ) → bytes ≡ code ++ rest → (more : List ℕ) × (part ++ bytes ≡ cond test (part ++ code) [] ++ more)
front_more true part code bytes rest e = (rest, ap (λ xs. part ++ xs) e ∙ sym (append_assoc part code rest))
front_more false part code bytes rest e = (part ++ bytes, refl)

pub code_front : (lines : List RecipeLine) → CodeFront lines
code_front [] = record { rest = []; is = refl }
code_front (line ∷ more) =
    let before = code_front more in
    let here = front_more (is_record line) (data_of line) (code_of more) (segment_bytes more) before.rest before.is in
    record { rest = here.0; is = here.1 }

pub code_fits : (lines : List RecipeLine) (len : ℕ) → len ≡ length (code_of lines) → (left : ℕ) × (data_len lines ≡ len + left)
code_fits lines len e =
    let front = code_front lines in
    (length front.rest, omega (arith, e, length-flat_map data_of lines, ap length front.is, length-append (code_of lines) front.rest))
