-- The text of a demo, piece by piece as it is written.
use Rattle.std.proofs.Common.{◌≡◌, ◌∙◌, ◌<◌, ◌+◌, ℕ, refl, sym, ap, arith, List, [], ◌∷◌, ◌++◌, suc, append_assoc}
use Rattle.std.specs.Prelude.{codes}
use Rattle.std.specs.Fmt.{decimal}
use Rattle.std.proofs.lemmas.Bool.{lt-ltb}
use Rattle.std.proofs.lemmas.Grind.{flat_map-append}
use Rattle.image_maker.specs.declared.demo.TheConstants.{FIRST_RECORDS, LAST_RECORDS, TABLE}
use Rattle.image_maker.specs.Demo.{core_lines, drive_lines, first_lines, image_lines, next_number, number_at, reply_length, reply_word, session_core, session_lines, text_of}

-- pieces appended one by one
five_pieces : (old a b c d e : List ℕ) → ((((old ++ a) ++ b) ++ c) ++ d) ++ e ≡ old ++ (a ++ (b ++ (c ++ (d ++ e))))
five_pieces old a b c d e = simp append_assoc

seven_pieces : (old a b c d e f g : List ℕ) → ((((((old ++ a) ++ b) ++ c) ++ d) ++ e) ++ f) ++ g ≡ old ++ (a ++ (b ++ (c ++ (d ++ (e ++ (f ++ g))))))
seven_pieces old a b c d e f g = simp append_assoc

nine_pieces : (old a b c d e f g h i : List ℕ)
    → ((((((((old ++ a) ++ b) ++ c) ++ d) ++ e) ++ f) ++ g) ++ h) ++ i ≡ old ++ (a ++ (b ++ (c ++ (d ++ (e ++ (f ++ (g ++ (h ++ i))))))))
nine_pieces old a b c d e f g h i = simp append_assoc

-- a line that ends in a number
line_end : (number rest : List ℕ) → (number ++ 10 ∷ []) ++ rest ≡ number ++ (10 ∷ rest)
line_end number rest = append_assoc number (10 ∷ []) rest

pub core_appended : (old : List ℕ) (session : ℕ) → session < 8
    → ((((old ++ codes "core ") ++ session_core session) ++ codes " std 128\ndriver ") ++ session_core session) ++ codes " rpmsg-client-sample sample\n"
    ≡ old ++ text_of (core_lines session)
core_appended old session small = rw (lt-ltb session 8 small) (five_pieces old (codes "core ") (session_core session) (codes " std 128\ndriver ") (session_core session) (codes " rpmsg-client-sample sample\n"))

pub image_appended : (old : List ℕ) (session reply : ℕ)
    → ((((((old ++ codes "image s") ++ decimal session) ++ FIRST_RECORDS.now) ++ decimal reply) ++ LAST_RECORDS.now) ++ reply_word reply) ++ TABLE.now
    ≡ old ++ text_of (image_lines session reply)
image_appended old session reply =
    seven_pieces old (codes "image s") (decimal session) FIRST_RECORDS.now (decimal reply) LAST_RECORDS.now (reply_word reply) TABLE.now
    ∙ ap (λ rest. old ++ rest) (sym (rw (line_end (decimal session), line_end (decimal reply), append_assoc (reply_word reply), append_assoc (reply_word reply)) refl))

pub drive_appended : (old : List ℕ) (session : ℕ)
    → ((((((((old ++ codes "boot ") ++ session_core session) ++ codes " s") ++ decimal session) ++ codes "\ndrive ") ++ session_core session) ++ codes " 100000\nshutdown ") ++ session_core session) ++ 10 ∷ []
    ≡ old ++ text_of (drive_lines session)
drive_appended old session =
    nine_pieces old (codes "boot ") (session_core session) (codes " s") (decimal session) (codes "\ndrive ") (session_core session) (codes " 100000\nshutdown ") (session_core session) (10 ∷ [])
    ∙ ap (λ rest. old ++ rest) (sym (rw (line_end (decimal session)) refl))

pub session_appended : (old : List ℕ) (session reply : ℕ)
    → ((old ++ text_of (core_lines session)) ++ text_of (image_lines session reply)) ++ text_of (drive_lines session) ≡ old ++ text_of (session_lines session reply)
session_appended old session reply =
    let front = core_lines session ++ image_lines session reply in
    sym (ap (λ rest. old ++ rest) (flat_map-append (λ (line : List ℕ). line ++ 10 ∷ []) front (drive_lines session)
    ∙ ap (λ rest. rest ++ text_of (drive_lines session)) (flat_map-append (λ (line : List ℕ). line ++ 10 ∷ []) (core_lines session) (image_lines session reply)))
    ∙ sym (append_assoc old (text_of (core_lines session) ++ text_of (image_lines session reply)) (text_of (drive_lines session)))
    ∙ ap (λ rest. rest ++ text_of (drive_lines session)) (sym (append_assoc old (text_of (core_lines session)) (text_of (image_lines session reply)))))

-- one session more
sessions_next : (seed session : ℕ)
    → text_of (first_lines seed (suc session)) ≡ text_of (first_lines seed session) ++ text_of (session_lines session (reply_length (number_at seed (suc session))))
sessions_next seed session = flat_map-append (λ (line : List ℕ). line ++ 10 ∷ []) (first_lines seed session) (session_lines session (reply_length (number_at seed (suc session))))

pub number_next : (seed session number next : ℕ) → number ≡ number_at seed session → next ≡ next_number number → next ≡ number_at seed (session + 1)
number_next seed session number next is e =
    let more : session + 1 ≡ suc session = omega arith in
    rw more (e ∙ ap next_number is)

pub session_written : (seed session next : ℕ) (old new : List ℕ) → old ≡ text_of (codes "quiet on" ∷ first_lines seed session) → next ≡ number_at seed (session + 1)
    → new ≡ old ++ text_of (session_lines session (reply_length next)) → new ≡ text_of (codes "quiet on" ∷ first_lines seed (session + 1))
session_written seed session next old new is at e =
    let more : session + 1 ≡ suc session = omega arith in
    let here : next ≡ number_at seed (suc session) = at ∙ ap (number_at seed) more in
    rw more (e ∙ ap (λ front. front ++ text_of (session_lines session (reply_length next))) is
    ∙ ap (λ n. text_of (codes "quiet on" ∷ first_lines seed session) ++ text_of (session_lines session (reply_length n))) here
    ∙ ap (λ rest. (codes "quiet on" ++ 10 ∷ []) ++ rest) (sym (sessions_next seed session)))
