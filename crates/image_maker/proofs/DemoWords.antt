-- The words of a demo's lines that numbers stand in: the names of cores and images, and the lengths of replies.
use Rattle.std.proofs.Common.{◌≡◌, ◌∙◌, ◌<◌, ◌≤◌, ◌+◌, ◌%◌, ◌^◌, ◌==◌, ◌||◌, not, ℕ, Bool, true, false, cond, List, [], ◌∷◌, ◌++◌, length, Some, zero, suc, refl, sym, ap, subst, arith, replicate}
use Rattle.std.specs.Prelude.{codes, nat_le, bytes_eq, unwrap_or}
use Rattle.std.specs.List.{list_all}
use Rattle.std.specs.Fmt.{decimal}
use Rattle.std.proofs.lemmas.Bool.{le-leb, ne_eqb}
use Rattle.std.proofs.lemmas.Bool.Decides.{nat_tests}
use Rattle.std.proofs.lemmas.Fmt.{length-decimal-le}
use Rattle.word_kinds.specs.Spellings.{is_digit, is_name, is_name_byte, decimal_of}
use Rattle.word_kinds.specs.Payloads.{bytes_in, bytes_of_pairs, is_pairs, is_payload, is_repeated, repeated_bytes}
use Rattle.word_kinds.specs.Readings.{is_clean}
use Rattle.word_kinds.specs.Texts.{Number}
use Rattle.word_kinds.proofs.Clean.{both, clean_text, is_other, parts}
use Rattle.script_lang.specs.Lines.{is_printable}
use Rattle.image_maker.specs.Demo.{reply_word, session_core, session_image}
use Rattle.image_maker.proofs.DemoNumbers.{all_digits, decimal_back, is_one}

-- a name of a few bytes
pub record IsShortName (word : List ℕ) : Type 0 where
  pub name : is_name word ≡ true
  pub printable : list_all is_printable word ≡ true
  pub short : length word ≤ 4

-- a payload of so many bytes 0x5a
pub record IsReply (word : List ℕ) (reply : ℕ) : Type 0 where
  pub clean : is_clean word ≡ true
  pub payload : is_payload word ≡ true
  pub bytes : bytes_in word ≡ replicate reply 90
  pub printable : list_all is_printable word ≡ true
  pub short : length word ≤ 6

weaker : (p q : ℕ → Bool) → ((byte : ℕ) → p byte ≡ true → q byte ≡ true) → (bytes : List ℕ) → list_all p bytes ≡ true → list_all q bytes ≡ true
weaker p q each [] e = refl
weaker p q each (byte ∷ more) e =
    let h = parts (p byte) (list_all p more) e in both (q byte) (list_all q more) (each byte h.0) (weaker p q each more h.1)

digit_prints : (byte : ℕ) → is_digit byte ≡ true → is_printable byte ≡ true
digit_prints byte e = grind (arith, nat_tests)

digit_names : (byte : ℕ) → is_digit byte ≡ true → is_name_byte byte ≡ true
digit_names byte e = grind (arith, nat_tests)

pub number_printable : (number : ℕ) → number < 2 ^ 64 → list_all is_printable (decimal number) ≡ true
number_printable number small = weaker is_digit is_printable digit_prints (decimal number) (all_digits number small)

pub number_short : (number : ℕ) → number < 1000 → length (decimal number) ≤ 3
number_short number small = length-decimal-le 3 number (omega arith) (omega arith) (omega arith)

pub core_is_name : (session : ℕ) → IsShortName (session_core session)
core_is_name session =
    let digit : is_digit (48 + session % 8) ≡ true = is_one (session % 8) (omega arith) in
    let named : is_name_byte (48 + session % 8) ≡ true = digit_names (48 + session % 8) digit in
    let prints : is_printable (48 + session % 8) ≡ true = digit_prints (48 + session % 8) digit in
    record {
      name = rw named refl;
      printable = rw prints refl;
      short = omega arith;
    }

pub image_is_name : (session : ℕ) → session < 1000 → IsShortName (session_image session)
image_is_name session small =
    let digits = all_digits session (omega arith) in
    let short = number_short session small in
    record {
      name = both (list_all is_name_byte (decimal session)) (nat_le (length (decimal session)) 30) (weaker is_digit is_name_byte digit_names (decimal session) digits) (le-leb (length (decimal session)) 30 (omega arith));
      printable = number_printable session (omega arith);
      short = omega arith;
    }

is_right : (one two three : Bool) → three ≡ true → (one || two || three) ≡ true
is_right true two true e = refl
is_right false true true e = refl
is_right false false true e = refl
is_right one two false e = absurd (cc)

repeated : (reply : ℕ) → 1 ≤ reply → reply < 497 → decimal_of (decimal reply) ≡ Some reply → is_repeated (codes "5a*" ++ decimal reply) ≡ true
repeated reply some small number =
    let least : nat_le 1 reply ≡ true = le-leb 1 reply some in
    let most : nat_le reply 512 ≡ true = le-leb reply 512 (omega arith) in
    rw (number, least, most) refl

repeats : (reply : ℕ) → 1 ≤ reply → reply < 497 → decimal_of (decimal reply) ≡ Some reply → bytes_in (codes "5a*" ++ decimal reply) ≡ replicate reply 90
repeats reply some small number =
    let word = codes "5a*" ++ decimal reply in
    ap (λ b. cond b (repeated_bytes word) (bytes_of_pairs word)) (repeated reply some small number) ∙ ap (λ found. replicate (unwrap_or found 0) 90) number

some_bytes : (byte : ℕ) (more : List ℕ) → not (length (byte ∷ more) == 0) ≡ true
some_bytes byte more = ap not (ne_eqb (length (byte ∷ more)) 0 (λ e. absurd (omega arith)))

some_reply : (reply : ℕ) → 1 ≤ reply → reply < 497 → IsReply (codes "5a*" ++ decimal reply) reply
some_reply reply some small =
    let word = codes "5a*" ++ decimal reply in
    let number = decimal_back reply (omega arith) in
    let digits = parts (not (length (decimal reply) == 0)) (list_all is_other (decimal reply)) (clean_text (Number reply) (omega arith)) in
    let short = number_short reply (omega arith) in
    record {
      clean = both (not (length word == 0)) (list_all is_other word) (some_bytes 53 (97 ∷ 42 ∷ decimal reply)) digits.1;
      payload = is_right (bytes_eq word (codes "-")) (is_pairs word) (is_repeated word) (repeated reply some small number);
      bytes = repeats reply some small number;
      printable = number_printable reply (omega arith);
      short = omega arith;
    }

pub reply_is : (reply : ℕ) → reply < 497 → IsReply (reply_word reply) reply
reply_is zero small = record { clean = refl; payload = refl; bytes = refl; printable = refl; short = omega arith }
reply_is (suc reply) small =
    let is : reply_word (suc reply) ≡ codes "5a*" ++ decimal (suc reply) = ap (λ b. cond b (codes "-") (codes "5a*" ++ decimal (suc reply))) (ne_eqb (suc reply) 0 (λ e. absurd (omega arith))) in
    subst (λ (word : List ℕ). IsReply word (suc reply)) (sym is) (some_reply (suc reply) (omega arith) small)
