-- A store of firmware images, by name (own).
use Rattle.std.specs.Prelude.{◌≡◌, ℕ, nat_le, List, length, map, find, Option, Some, None, Result, Ok, Err, Vec, if◌then◌else◌, bytes_eq}
use Rattle.std.specs.Result.{result_map_both}
use Rattle.std.specs.Str.{is_utf8}
use Rattle.std.specs.declared.alloc.Global.{Global}
use Rattle.rp_base.specs.declared.limits.TheConstants.{IMAGE_MOST}
use Rattle.rp_io.specs.declared.faults.FetchFault.{FetchFault}
use Rattle.rp_io.specs.declared.faults.FetchFault.TheVariants as fault
use Rattle.rp_io.specs.declared.faults.NoImage.{NoImage}
use Rattle.rp_io.specs.declared.faults.NoImage.TheVariants as no_image
use Rattle.rp_io.specs.declared.faults.StoreFault.{StoreFault}
use Rattle.rp_io.specs.declared.faults.StoreFault.TheVariants as store_fault
use Rattle.rp_io.specs.Causes.{Rose}

-- the names and the bytes of a list of images (own)
abbrev pub named_images : List (List ℕ × Vec ℕ Global) → List (List ℕ × List ℕ)
named_images images = map (λ image. (image.0, image.1.items)) images

-- the first image of this name, with its name (own)
abbrev pub find_image : List (List ℕ × List ℕ) → List ℕ → Option (List ℕ × List ℕ)
find_image images name = find (λ image. bytes_eq image.0 name) images

-- what there is under a name: the bytes of an image, or why there is none (own)
abbrev pub ImageAnswer : Type 0
ImageAnswer = Result (List ℕ) NoImage

-- an image that was found, unless it is longer than an image may be (own)
abbrev pub image_within_limit : Option (List ℕ × List ℕ) → ImageAnswer
image_within_limit None = Err no_image.Missing
image_within_limit (Some image) = if nat_le (length image.1) IMAGE_MOST then Ok image.1 else Err (no_image.TooLarge (length image.1))

-- what a store of these images has under this name (own)
abbrev pub fetch_answer : List (List ℕ × List ℕ) → List ℕ → ImageAnswer
fetch_answer images name = image_within_limit (find_image images name)

-- where told: an answer that is neither a failure nor out of memory is what the store has (own)
abbrev pub IsFetched : Option (List (List ℕ × List ℕ)) → List ℕ → Result (Vec ℕ Global) FetchFault → Type 0
IsFetched None name answer = Unit {0}
IsFetched (Some images) name (Ok image) = fetch_answer images name ≡ Ok image.items
IsFetched (Some images) name (Err fault.Missing) = fetch_answer images name ≡ Err no_image.Missing
IsFetched (Some images) name (Err fault.Failed) = Unit {0}
IsFetched (Some images) name (Err (fault.TooLarge bytes)) = fetch_answer images name ≡ Err (no_image.TooLarge bytes)
IsFetched (Some images) name (Err fault.NoMemory) = Unit {0}

-- an image that was found, or why there is none (own)
abbrev pub answer_of : Result (Vec ℕ Global) NoImage → ImageAnswer
answer_of found = result_map_both (λ image. image.items) (λ why. why) found

-- where told: this is what the store has under this name (own)
abbrev pub IsToldUnder : Option (List (List ℕ × List ℕ)) → List ℕ → ImageAnswer → Type 0
IsToldUnder None name answer = Unit {0}
IsToldUnder (Some images) name answer = answer ≡ fetch_answer images name

-- the same of the image that is asked for, if one is; where none is it is missing (own)
abbrev pub IsToldFor : Option (List (List ℕ × List ℕ)) → Option (List ℕ) → ImageAnswer → Type 0
IsToldFor images None answer = answer ≡ Err no_image.Missing
IsToldFor images (Some name) answer = IsToldUnder images name answer

-- the name under which a store is asked: it is a text, as the names of a store are (own)
abbrev pub text_name : List ℕ → Option (List ℕ)
text_name name = if is_utf8 name then Some name else None

-- why nothing was given, by the count of the store's faults before and then (own)
abbrev pub IsStoreFault : StoreFault → ℕ → ℕ → Type 0
IsStoreFault store_fault.Failed before now = Rose before now
IsStoreFault store_fault.NoMemory before now = now ≡ before
