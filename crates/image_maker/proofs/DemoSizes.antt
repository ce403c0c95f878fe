-- A demo's text is cut into its lines, and is within the limits of a script.
use Rattle.std.proofs.Common.{◌≡◌, ◌∙◌, ◌≤◌, ◌+◌, ◌*◌, ◌==◌, min, ℕ, Bool, true, false, cond, List, [], ◌∷◌, ◌++◌, length, None, Ok, Err, zero, suc, refl, ap, arith, append_assoc, length-append}
use Rattle.std.specs.Prelude.{All, codes, nat_le, nat_lt}
use Rattle.std.specs.List.{list_all, slice_split}
use Rattle.std.proofs.lemmas.Bool.{leb-true, le-ltb, ltb-true, ltb-false}
use Rattle.std.proofs.lemmas.Bool.Decides.{nat_tests}
use Rattle.std.proofs.lemmas.List.Elements.{All-nil, All-cons}
use Rattle.std.proofs.lemmas.List.Splits.{slice_split_at}
use Rattle.rp_base.specs.declared.limits.TheConstants.{SCRIPT_MOST, SCRIPT_LINES_MOST}
use Rattle.word_kinds.specs.declared.causes.Cause.TheVariants as cause
use Rattle.word_kinds.proofs.Clean.{parts}
use Rattle.script_lang.specs.declared.commands.Command.{Command}
use Rattle.script_lang.specs.Grammar.{bad_line, commands_from, lines_of, script_of}
use Rattle.script_lang.specs.Lines.{is_printable}
use Rattle.script_lang.proofs.Cuts.{cut_lines}
use Rattle.image_maker.specs.Demo.{core_lines, demo_commands, demo_text, drive_lines, first_lines, image_lines, number_at, reply_length, session_lines, text_of}
use Rattle.image_maker.proofs.DemoLines.{is_fine}
use Rattle.image_maker.proofs.DemoSays.{demo_lines_say}

-- a line that prints has no line feed
stays : (byte : ℕ) → is_printable byte ≡ true → (byte == 10) ≡ false
stays byte e = grind (arith, nat_tests)

without_end : (line : List ℕ) → list_all is_printable line ≡ true → All (λ byte. (byte == 10) ≡ false) line
without_end [] e = All-nil (λ byte. (byte == 10) ≡ false)
without_end (byte ∷ more) e =
    let h = parts (is_printable byte) (list_all is_printable more) e in All-cons (λ b. (b == 10) ≡ false) byte more (stays byte h.0) (without_end more h.1)

-- lines are read back from their text
lines_back : (lines : List (List ℕ)) → list_all is_fine lines ≡ true → lines_of (text_of lines) ≡ lines
lines_back [] e = refl
lines_back (line ∷ more) e =
    let h = parts (is_fine line) (list_all is_fine more) e in
    let prints = (parts (list_all is_printable line) (nat_le (length line) 60) h.0).0 in
    cut_lines (text_of (line ∷ more)) line (text_of more)
    (ap (slice_split (λ byte. byte == 10)) (append_assoc line (10 ∷ []) (text_of more)) ∙ slice_split_at (λ byte. byte == 10) line 10 (text_of more) (without_end line prints) refl)
    ∙ ap (λ rest. line ∷ rest) (lines_back more h.1)

-- their text has at most 61 bytes for each
text_short : (lines : List (List ℕ)) → list_all is_fine lines ≡ true → length (text_of lines) ≤ 61 * length lines
text_short [] e = omega arith
text_short (line ∷ more) e =
    let h = parts (is_fine line) (list_all is_fine more) e in
    let short : length line ≤ 60 = leb-true (length line) 60 (parts (list_all is_printable line) (nat_le (length line) 60) h.0).1 in
    let rest = text_short more h.1 in
    omega (arith, length-append (line ++ 10 ∷ []) (text_of more), length-append line (10 ∷ []))

-- how many lines the sessions have
core_count : (session : ℕ) → length (core_lines session) + min (2 * session) 16 ≤ min (2 * session + 2) 16
core_count session = go (nat_lt session 8) refl
  where
    go : (test : Bool) → nat_lt session 8 ≡ test → length (core_lines session) + min (2 * session) 16 ≤ min (2 * session + 2) 16
    go true e = rw e (let small = ltb-true session 8 e in omega arith)
    go false e = rw e (let large = ltb-false session 8 e in omega arith)

lines_count : (seed count : ℕ) → length (first_lines seed count) ≤ 19 * count + min (2 * count) 16
lines_count seed zero = omega arith
lines_count seed (suc session) =
    let reply = reply_length (number_at seed (suc session)) in
    let before = lines_count seed session in
    let core = core_count session in
    omega (arith, length-append (first_lines seed session) (session_lines session reply), length-append (core_lines session ++ image_lines session reply) (drive_lines session), length-append (core_lines session) (image_lines session reply))

-- lines within the limits of a script
within_limits : (text : List ℕ) (lines : List (List ℕ)) (commands : List Command) → length text ≤ SCRIPT_MOST → lines_of text ≡ lines → length lines ≤ SCRIPT_LINES_MOST
    → commands_from 1 None lines ≡ Ok commands → script_of text ≡ Ok commands
unfolding script_of
within_limits text lines commands size is count says =
    let many = bad_line (SCRIPT_LINES_MOST + 1) cause.Lines in
    ap (λ b. cond b (Err (bad_line 0 cause.Size)) (cond (nat_lt SCRIPT_LINES_MOST (length (lines_of text))) (Err many) (commands_from 1 None (lines_of text)))) (le-ltb SCRIPT_MOST (length text) size)
    ∙ ap (λ found. cond (nat_lt SCRIPT_LINES_MOST (length found)) (Err many) (commands_from 1 None found)) is
    ∙ ap (λ b. cond b (Err many) (commands_from 1 None lines)) (le-ltb SCRIPT_LINES_MOST (length lines) count) ∙ says

pub demo_is_said : (sessions : ℕ) → sessions ≤ 500 → script_of (demo_text sessions) ≡ Ok (demo_commands sessions)
unfolding demo_text demo_commands
demo_is_said sessions few =
    let lines = codes "quiet on" ∷ first_lines sessions sessions in
    let says = demo_lines_say sessions sessions few in
    let short = text_short lines says.fine in
    let count = lines_count sessions sessions in
    within_limits (text_of lines) lines (demo_commands sessions) (omega arith) (lines_back lines says.fine) (omega arith) (says.at 1)
