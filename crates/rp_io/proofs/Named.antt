-- Looking for an image in a list of images.
use Rattle.std.proofs.Common.{◌≡◌, ℕ, Bool, true, false, cond, List, [], ◌∷◌, Option, Some, None, Vec, refl, find, option_map, bytes_eq, sym, ap, ◌∙◌, Bor}
use Rattle.std.specs.declared.alloc.Global.{Global}
use Rattle.rp_io.specs.Images.{find_image, named_images}

-- the first image of a name, in the list that contracts see
pub image_named-named_images : (images : List (List ℕ × Vec ℕ Global)) (name : List ℕ) → option_map (λ image. image.1) (find_image (named_images images) name) ≡ option_map (λ image. image.1.items) (find (λ image. bytes_eq image.0 name) images)
image_named-named_images [] name = refl
image_named-named_images (image ∷ more) name = chosen (bytes_eq image.0 name) (image_named-named_images more name)
  where
    chosen : (is : Bool) → option_map (λ i. i.1) (find_image (named_images more) name) ≡ option_map (λ i. i.1.items) (find (λ i. bytes_eq i.0 name) more) → option_map (λ i. i.1) (cond is (Some (image.0, image.1.items)) (find_image (named_images more) name)) ≡ option_map (λ i. i.1.items) (cond is (Some image) (find (λ i. bytes_eq i.0 name) more))
    chosen true rest = refl
    chosen false rest = rest

-- what a search of the code's list found, in the list that contracts see
pub image_named-found : (found : Option (Bor (List ℕ × Vec ℕ Global))) (images : List (List ℕ × Vec ℕ Global)) (list : List (List ℕ × List ℕ)) (name : List ℕ) → option_map (λ image. image.now) found ≡ find (λ image. bytes_eq image.0 name) images → named_images images ≡ list → option_map (λ image. image.now.1.items) found ≡ option_map (λ image. image.1) (find_image list name)
image_named-found found images list name searched is =
    in_two found
    ∙ ap (λ image. option_map (λ i. i.1.items) image) searched
    ∙ sym (image_named-named_images images name)
    ∙ ap (λ list. option_map (λ i. i.1) (find_image list name)) is
  where
    in_two : (found : Option (Bor (List ℕ × Vec ℕ Global))) → option_map (λ i. i.now.1.items) found ≡ option_map (λ i. i.1.items) (option_map (λ i. i.now) found)
    in_two None = refl
    in_two (Some image) = refl
