-- A line is read back as its event, so no two events share a line.
use Rattle.std.proofs.Common.{◌≡◌, ℕ, ◌+◌, ◌-◌, ◌<◌, ◌≤◌, Bool, List, [], ◌∷◌, ◌++◌, true, false, cond, length, map, take, drop, Option, Some, None, refl, sym, ◌∙◌, ap, subst, arith, length-append, get_or}
use Rattle.std.specs.Prelude.{option_map, find, IfSome}
use Rattle.std.specs.List.{join_with_byte}
use Rattle.std.proofs.lemmas.Bool.{leb-true}
use Rattle.std.proofs.lemmas.List.{take_all, length-map}
use Rattle.std.proofs.lemmas.List.Elements.{All-take, All-from_get_or}
use Rattle.std.proofs.lemmas.Option.{same_Some}
use Rattle.std.proofs.Math.Seq.{take-append_seam}
use Rattle.word_kinds.specs.Texts.{text}
use Rattle.word_kinds.specs.Spellings.{words_of as split_words}
use Rattle.word_kinds.specs.Readings.{kind_of}
use Rattle.word_kinds.specs.Lines.{line_of}
use Rattle.word_kinds.specs.Rows.{fit, text_at, row_read, word_in, all_apart}
use Rattle.word_kinds.proofs.Rows.{words_back, row_back, form_found}
use Rattle.word_kinds.proofs.Goods.{Small, good_from, words_small}
use Rattle.journal.specs.declared.events.Event.{Event}
use Rattle.journal.specs.declared.table.Form.{Form}
use Rattle.journal.specs.Lines.{words_of, line}
use Rattle.journal.specs.Forms.{forms, kinds, event_in}
use Rattle.journal.specs.Reading.{IsWritten, event_of}
use Rattle.journal.proofs.Tabled.{form_of, place, kinds_of_words, made_of_words, placed, first_fit, kinds_fixed, made_good, nine_words}

pub event_back : (e : Event) → IsWritten e → event_of (map text (words_of e)) ≡ Some e
event_back e good =
    let form = form_of e in
    let texts = map text (words_of e) in
    let found =
    ap (λ all. find (λ other. fit (kinds other) texts) all) (placed form)
    ∙ form_found kinds (take (place form) forms) (drop (place form + 1) forms) form (words_of e) good.0 (kinds_of_words e)
    (ap (λ row. all_apart kinds row (take (place form) forms)) (sym (kinds_of_words e)) ∙ first_fit form) in
    let read : row_read (map kind_of (words_of e)) texts ≡ word_in (words_of e) = (λ i at. row_back (words_of e) good.0 at i) in
    ap (option_map (λ other. event_in other (row_read (kinds other) texts))) found
    ∙ ap (λ row. Some (event_in form (row_read row texts))) (kinds_of_words e) ∙ ap (λ at. Some (event_in form at)) read ∙ ap Some (made_of_words e good.1)

same_front : (xs ys : List ℕ) → xs ++ 10 ∷ [] ≡ ys ++ 10 ∷ [] → xs ≡ ys
same_front xs ys e =
    let same : length xs ≡ length ys = omega (arith, length-append xs (10 ∷ []), length-append ys (10 ∷ []), ap length e) in
    sym (take-append_seam xs (10 ∷ [])) ∙ ap (take (length xs)) e ∙ ap (λ n. take n (ys ++ 10 ∷ [])) same ∙ take-append_seam ys (10 ∷ [])

-- the texts of a line
abbrev front : Event → List ℕ
front e = join_with_byte 32 (map text (words_of e))

read_front : (e : Event) → IsWritten e → event_of (split_words (front e)) ≡ Some e
read_front e good = ap event_of (words_back (words_of e) good.0) ∙ event_back e good

pub one_event : (a b : Event) → IsWritten a → IsWritten b → line a ≡ line b → a ≡ b
unfolding line line_of
one_event a b good fine e =
    same_Some a b (sym (read_front a good) ∙ ap (λ text. event_of (split_words text)) (same_front (front a) (front b) e) ∙ read_front b fine)

-- the first form that texts fit is one that they fit
found_step : {F : Type 0} (p : F → Bool) (first found : F) (rest : Option F) (test : Bool) → p first ≡ test → cond test (Some first) rest ≡ Some found → (rest ≡ Some found → p found ≡ true) → p found ≡ true
found_step p first found rest true e h f = ap p (sym (same_Some first found h)) ∙ e
found_step p first found rest false e h f = f h

found_fits : {F : Type 0} (p : F → Bool) (all : List F) (found : F) → find p all ≡ Some found → p found ≡ true
found_fits p [] found e = absurd (cc)
found_fits p (first ∷ more) found e = found_step p first found (find p more) (p first) refl e (found_fits p more found)

event_from : (texts : List (List ℕ)) (found : Option Form) → ((at : ℕ) → Small (text_at texts at)) → find (λ other. fit (kinds other) texts) forms ≡ found → IfSome (option_map (λ other. event_in other (row_read (kinds other) texts)) found) IsWritten
event_from texts None small e = tt
event_from texts (Some form) small e = made_good form texts (good_from (kinds form) texts 0 (kinds_fixed form) small (found_fits (λ other. fit (kinds other) texts) forms form e))

pub event_good : (text : List ℕ) → Small text → IfSome (event_of (take 9 (split_words text))) IsWritten
event_good text small = event_from (take 9 (split_words text)) (find (λ other. fit (kinds other) (take 9 (split_words text))) forms) (words_small text small) refl

-- the event of a line's front
pub event_there : (e : Event) (bytes : List ℕ) → IsWritten e → line e ≡ bytes → event_of (take 9 (split_words (take (length bytes - 1) bytes))) ≡ Some e
unfolding line line_of
event_there e bytes good is =
    let len : length bytes ≡ length (front e) + 1 = ap length (sym is) ∙ length-append (front e) (10 ∷ []) in
    let count : length bytes - 1 ≡ length (front e) = omega arith in
    let cut : take (length bytes - 1) bytes ≡ front e = ap (λ n. take n bytes) count ∙ ap (take (length (front e))) (sym is) ∙ take-append_seam (front e) (10 ∷ []) in
    let nine : length (map text (words_of e)) ≤ 9 = omega (arith, length-map (words_of e) text, leb-true (length (words_of e)) 9 (nine_words e)) in
    ap (λ part. event_of (take 9 (split_words part))) cut ∙ ap (λ texts. event_of (take 9 texts)) (words_back (words_of e) good.0) ∙ ap event_of (take_all 9 (map text (words_of e)) nine) ∙ event_back e good

pub some_line : (e : Event) → 0 < length (line e)
unfolding line line_of
some_line e = omega (arith, length-append (front e) (10 ∷ []))

-- what a reader of bytes tells
pub small_front : (bytes : List ℕ) → ((at : ℕ) → get_or bytes at 0 < 256) → Small (take (length bytes - 1) bytes)
small_front bytes h = All-take (λ byte. byte < 256) (length bytes - 1) bytes (All-from_get_or (λ byte. byte < 256) bytes 0 (λ at below. h at))

pub no_event : (e : Event) (bytes : List ℕ) (found : Option Event) → found ≡ event_of (take 9 (split_words (take (length bytes - 1) bytes))) → found ≡ None → IsWritten e → line e ≡ bytes → ⊥
no_event e bytes found is none good same = let there = event_there e bytes good same in absurd (cc)

pub event_written : (event : Event) (bytes : List ℕ) (found : Option Event) → found ≡ event_of (take 9 (split_words (take (length bytes - 1) bytes))) → found ≡ Some event → Small (take (length bytes - 1) bytes) → IsWritten event
event_written event bytes found is some small = subst (λ o. IfSome o IsWritten) (sym is ∙ some) (event_good (take (length bytes - 1) bytes) small)

pub same_event : (e event : Event) (bytes : List ℕ) (found : Option Event) → found ≡ event_of (take 9 (split_words (take (length bytes - 1) bytes))) → found ≡ Some event → IsWritten e → line e ≡ bytes → event ≡ e
same_event e event bytes found is some good same = same_Some event e (sym some ∙ is ∙ event_there e bytes good same)

pub other_event : (e event : Event) (bytes : List ℕ) (found : Option Event) → found ≡ event_of (take 9 (split_words (take (length bytes - 1) bytes))) → found ≡ Some event → IsWritten e → line e ≡ bytes → line event ≡ bytes
other_event e event bytes found is some good same = ap line (same_event e event bytes found is some good same) ∙ same
