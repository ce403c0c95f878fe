-- What the lines of a demo say, one by one.
use Rattle.std.proofs.Common.{◌≡◌, ◌∙◌, ◌<◌, ◌≤◌, ◌+◌, ◌&&◌, ℕ, Bool, true, false, cond, List, [], ◌∷◌, ◌++◌, length, map, Option, Some, None, Ok, Err, refl, ap, arith, replicate, length-append}
use Rattle.std.specs.Prelude.{codes, nat_le, unwrap_or}
use Rattle.std.specs.List.{list_all}
use Rattle.std.specs.Fmt.{decimal}
use Rattle.std.proofs.lemmas.Bool.{le-leb}
use Rattle.std.proofs.lemmas.List.Folds.{list_all-append}
use Rattle.rp_base.specs.declared.kinds.DriverKind.TheVariants as driver
use Rattle.word_kinds.specs.declared.causes.Cause.TheVariants as cause
use Rattle.word_kinds.specs.Spellings.{is_name, words_of}
use Rattle.word_kinds.specs.Texts.{Word, Fixed, Name, Number, text}
use Rattle.word_kinds.specs.Rows.{AreGood}
use Rattle.word_kinds.proofs.Rows.{words_back}
use Rattle.word_kinds.proofs.Clean.{both, parts}
use Rattle.script_lang.specs.declared.commands.Command.{Command}
use Rattle.script_lang.specs.declared.commands.Command.TheVariants as command
use Rattle.script_lang.specs.declared.commands.RegionSet.TheVariants as regions
use Rattle.script_lang.specs.declared.recipes.RecipeLine.{RecipeLine}
use Rattle.script_lang.specs.declared.recipes.RecipeLine.TheVariants as recipe
use Rattle.script_lang.specs.Lines.{is_printable, is_skipped}
use Rattle.script_lang.specs.Recipes.{first_context}
use Rattle.script_lang.specs.Steps.{OpenImage, Step, words_step, line_step}
use Rattle.script_lang.specs.Grammar.{image_behind}
use Rattle.image_maker.specs.Demo.{sample_channel, spaced}
use Rattle.image_maker.proofs.DemoNumbers.{number_back}
use Rattle.image_maker.proofs.DemoWords.{IsShortName, IsReply, number_printable, number_short}

-- a line that prints and isn't long
abbrev pub is_fine : List ℕ → Bool
is_fine line = list_all is_printable line && nat_le (length line) 60

-- a fine line, and what it adds to the script
pub record IsSaid (image : Option OpenImage) (line : List ℕ) (step : Step) : Type 0 where
  pub is : line_step image line ≡ Ok step
  pub fine : is_fine line ≡ true

-- a command, and a line within an image
abbrev pub alone : Command → Step
alone what = record { commands = what ∷ []; image = None }

abbrev pub within : OpenImage → Step
within image = record { commands = []; image = Some image }

-- an image with these lines, where no code is open and no table has begun
abbrev pub plain_image : List ℕ → List RecipeLine → OpenImage
plain_image name lines = record { name = name; lines = lines; context = first_context }

abbrev image_or : OpenImage → Option OpenImage → OpenImage
image_or other None = other
image_or other (Some image) = image

-- one whose last line is of a code
abbrev pub code_image : List ℕ → List RecipeLine → OpenImage
code_image name lines =
    let empty = plain_image [] [] in
    record { name = name; lines = lines; context = (image_or empty (image_behind (line_step (Some empty) (codes "code 0")))).context }

-- what a line of good words says
said : (image : Option OpenImage) (words : List Word) → AreGood words → is_skipped (map text words) ≡ false → is_fine (spaced (map text words)) ≡ true
    → line_step image (spaced (map text words)) ≡ words_step image (map text words)
said image words good first fine =
    let line = spaced (map text words) in
    let is : words_of line ≡ map text words = words_back words good in
    let prints : list_all is_printable line ≡ true = (parts (list_all is_printable line) (nat_le (length line) 60) fine).0 in
    ap (λ ws. cond (is_skipped ws) (Ok (record { commands = []; image = image })) (cond (list_all is_printable line) (words_step image ws) (Err cause.Byte))) is
    ∙ ap (λ b. cond b (Ok (record { commands = []; image = image })) (cond (list_all is_printable line) (words_step image (map text words)) (Err cause.Byte))) first
    ∙ ap (λ b. cond b (words_step image (map text words)) (Err cause.Byte)) prints

named : (name : List ℕ) → is_name name ≡ true → cond (is_name name) name [] ≡ name
named name is = ap (λ b. cond b name []) is

-- a word in a line
fine_with : (front word rest : List ℕ) → list_all is_printable front ≡ true → list_all is_printable word ≡ true → list_all is_printable rest ≡ true
    → length front + length word + length rest ≤ 60 → is_fine (front ++ (word ++ rest)) ≡ true
fine_with front word rest e f g short =
    both (list_all is_printable (front ++ (word ++ rest))) (nat_le (length (front ++ (word ++ rest))) 60)
    (list_all-append is_printable front (word ++ rest)
    ∙ both (list_all is_printable front) (list_all is_printable (word ++ rest)) e
    (list_all-append is_printable word rest ∙ both (list_all is_printable word) (list_all is_printable rest) f g))
    (le-leb (length (front ++ (word ++ rest))) 60 (omega (arith, length-append front (word ++ rest), length-append word rest)))

pub core_said : (core : List ℕ) → IsShortName core → IsSaid None (spaced (codes "core" ∷ core ∷ codes "std" ∷ codes "128" ∷ [])) (alone (command.Core core regions.Standard 128))
core_said core word =
    let name = word.name in
    let fine : is_fine (spaced (codes "core" ∷ core ∷ codes "std" ∷ codes "128" ∷ [])) ≡ true = fine_with (codes "core ") core (codes " std 128") refl word.printable refl (omega arith) in
    record {
      is = said None (Fixed (codes "core") ∷ Name core ∷ Fixed (codes "std") ∷ Fixed (codes "128") ∷ []) (refl, (name, (refl, (refl, tt)))) refl fine
          ∙ rw name (ap (λ n. Ok (alone (command.Core n regions.Standard 128))) (named core name));
      fine = fine;
    }

pub driver_said : (core : List ℕ) → IsShortName core
    → IsSaid None (spaced (codes "driver" ∷ core ∷ sample_channel ∷ codes "sample" ∷ [])) (alone (command.Driver core sample_channel driver.Sample))
driver_said core word =
    let name = word.name in
    let fine : is_fine (spaced (codes "driver" ∷ core ∷ sample_channel ∷ codes "sample" ∷ [])) ≡ true = fine_with (codes "driver ") core (codes " rpmsg-client-sample sample") refl word.printable refl (omega arith) in
    record {
      is = said None (Fixed (codes "driver") ∷ Name core ∷ Fixed sample_channel ∷ Fixed (codes "sample") ∷ []) (refl, (name, (refl, (refl, tt)))) refl fine
          ∙ rw name (ap (λ n. Ok (alone (command.Driver n sample_channel driver.Sample))) (named core name));
      fine = fine;
    }

pub boot_said : (core image : List ℕ) → IsShortName core → IsShortName image → IsSaid None (spaced (codes "boot" ∷ core ∷ image ∷ [])) (alone (command.Boot core image))
boot_said core image word other =
    let name = word.name in
    let image_name = other.name in
    let fine : is_fine (spaced (codes "boot" ∷ core ∷ image ∷ [])) ≡ true = fine_with (codes "boot ") core (32 ∷ image) refl word.printable other.printable (omega arith) in
    record {
      is = said None (Fixed (codes "boot") ∷ Name core ∷ Name image ∷ []) (refl, (name, (image_name, tt))) refl fine
          ∙ rw (name, image_name) (ap (λ n. Ok (alone (command.Boot n (cond (is_name image) image [])))) (named core name) ∙ ap (λ n. Ok (alone (command.Boot core n))) (named image image_name));
      fine = fine;
    }

pub drive_said : (core : List ℕ) → IsShortName core → IsSaid None (spaced (codes "drive" ∷ core ∷ codes "100000" ∷ [])) (alone (command.Drive core 100000))
drive_said core word =
    let name = word.name in
    let fine : is_fine (spaced (codes "drive" ∷ core ∷ codes "100000" ∷ [])) ≡ true = fine_with (codes "drive ") core (codes " 100000") refl word.printable refl (omega arith) in
    record {
      is = said None (Fixed (codes "drive") ∷ Name core ∷ Fixed (codes "100000") ∷ []) (refl, (name, (refl, tt))) refl fine
          ∙ rw name (ap (λ n. Ok (alone (command.Drive n 100000))) (named core name));
      fine = fine;
    }

last_fine : (front word : List ℕ) → list_all is_printable front ≡ true → list_all is_printable word ≡ true → length front + length word ≤ 60 → is_fine (front ++ word) ≡ true
last_fine front word e f short =
    both (list_all is_printable (front ++ word)) (nat_le (length (front ++ word)) 60)
    (list_all-append is_printable front word ∙ both (list_all is_printable front) (list_all is_printable word) e f) (le-leb (length (front ++ word)) 60 (omega (arith, length-append front word)))

pub shutdown_said : (core : List ℕ) → IsShortName core → IsSaid None (spaced (codes "shutdown" ∷ core ∷ [])) (alone (command.Shutdown core))
shutdown_said core word =
    let name = word.name in
    let fine : is_fine (spaced (codes "shutdown" ∷ core ∷ [])) ≡ true = last_fine (codes "shutdown ") core refl word.printable (omega arith) in
    record {
      is = said None (Fixed (codes "shutdown") ∷ Name core ∷ []) (refl, (name, tt)) refl fine ∙ rw name (ap (λ n. Ok (alone (command.Shutdown n))) (named core name));
      fine = fine;
    }

pub image_said : (image : List ℕ) → IsShortName image → IsSaid None (spaced (codes "image" ∷ image ∷ [])) (within (plain_image image []))
image_said image word =
    let name = word.name in
    let fine : is_fine (spaced (codes "image" ∷ image ∷ [])) ≡ true = last_fine (codes "image ") image refl word.printable (omega arith) in
    record {
      is = said None (Fixed (codes "image") ∷ Name image ∷ []) (refl, (name, tt)) refl fine ∙ rw name (ap (λ n. Ok (within (plain_image n []))) (named image name));
      fine = fine;
    }

pub send_said : (name : List ℕ) (lines : List RecipeLine) (reply : ℕ) → reply < 497
    → IsSaid (Some (code_image name lines)) (spaced (codes "send" ∷ codes "1024" ∷ codes "last" ∷ codes "0x400" ∷ decimal reply ∷ []))
    (within (code_image name (lines ++ recipe.Send 1024 4294967295 1024 reply ∷ [])))
send_said name lines reply small =
    let number = number_back reply (omega arith) in
    let digits = number_short reply (omega arith) in
    let least : nat_le 0 reply ≡ true = le-leb 0 reply (omega arith) in
    let most : nat_le reply 65535 ≡ true = le-leb reply 65535 (omega arith) in
    let fine : is_fine (spaced (codes "send" ∷ codes "1024" ∷ codes "last" ∷ codes "0x400" ∷ decimal reply ∷ [])) ≡ true
    = last_fine (codes "send 1024 last 0x400 ") (decimal reply) refl (number_printable reply (omega arith)) (omega arith) in
    record {
      is = said (Some (code_image name lines)) (Fixed (codes "send") ∷ Fixed (codes "1024") ∷ Fixed (codes "last") ∷ Fixed (codes "0x400") ∷ Number reply ∷ []) (refl, (refl, (refl, (refl, (omega arith, tt))))) refl fine
          ∙ rw (number, least, most) (ap (λ found. Ok (within (code_image name (lines ++ recipe.Send 1024 4294967295 1024 (unwrap_or found 0) ∷ [])))) number);
      fine = fine;
    }

pub load_said : (name : List ℕ) (lines : List RecipeLine) (word : List ℕ) (reply : ℕ) → IsReply word reply
    → IsSaid (Some (plain_image name lines)) (spaced (codes "load" ∷ codes "0x400" ∷ word ∷ codes "496" ∷ [])) (within (plain_image name (lines ++ recipe.Load 1024 (replicate reply 90) 496 ∷ [])))
load_said name lines word reply is_reply =
    let payload = is_reply.payload in
    let fine : is_fine (spaced (codes "load" ∷ codes "0x400" ∷ word ∷ codes "496" ∷ [])) ≡ true = fine_with (codes "load 0x400 ") word (codes " 496") refl is_reply.printable refl (omega arith) in
    record {
      is = said (Some (plain_image name lines)) (Fixed (codes "load") ∷ Fixed (codes "0x400") ∷ Fixed word ∷ Fixed (codes "496") ∷ []) (refl, (refl, (is_reply.clean, (refl, tt)))) refl fine
          ∙ rw payload (ap (λ found. Ok (within (plain_image name (lines ++ recipe.Load 1024 found 496 ∷ [])))) is_reply.bytes);
      fine = fine;
    }
