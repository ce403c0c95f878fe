-- What clap gives for words without a dash: the first under `JOB`, the others under `ARGS`.
use Rattle.std.proofs.Common.{◌≡◌, ◌∙◌, ◌≤◌, ◌&&◌, ℕ, true, false, refl, sym, ap, ap₂, arith, List, [], ◌∷◌, ◌++◌, length, drop, Option, Some, None, codes, cond, is_some}
use Rattle.std.specs.Prelude.{fold, slice_get, option_and_then}
use Rattle.std.specs.List.{list_all, list_any, slice_index_or}
use Rattle.std.specs.Str.{bytes_eq}
use Rattle.std.proofs.lemmas.Bool.{le-leb, or_parts}
use Rattle.std.proofs.lemmas.List.{append-nil, append_assoc}
use Rattle.clap.specs.Lexer.{usize_max, long_of, long_of_rest, short_of, short_of_rest, strip_byte}
use Rattle.clap.specs.Walk.{Held, Rule, Step, Text, Walk, after_step, all_of, first_of, finished, idle, nothing_held, positional, value, walk, walk_from, walked, word_met}
use Rattle.clap.specs.declared.builder.range.ValueRange.{ValueRange}
use Rattle.clap.specs.Simple.{App, Shape, built, entered, matches_of, new_app, new_rule, on_top, with_rule}
use Rattle.clap.specs.Takes.{entered_passes, level_passes, other_passes, settle_passes, step_passes, takes, turn_passes, value_passes, walk_passes}
use Rattle.script_run.specs.Requests.{begins_with_dash, some_words}

abbrev pub job : Rule
job = new_rule (codes "JOB")

abbrev pub several : ValueRange
several = record { start_inclusive = 1; end_inclusive = usize_max }

abbrev pub args : Rule
args = record (new_rule (codes "ARGS")) { range = Some several }

abbrev pub app : App
app = with_rule (with_rule (on_top (λ s. record s { no_binary_name = true; disable_help_flag = true }) (new_app (codes "rproc"))) job) args

abbrev shape : Shape
shape = (built app).top

abbrev rules : List Rule
rules = shape.rules

-- ---- a word without a dash is a value of a positional

no_dashes : (word : Text) → begins_with_dash word ≡ false → bytes_eq word (45 ∷ 45 ∷ []) ≡ false
no_dashes [] plain = refl
no_dashes (first ∷ more) plain = ap (λ b. b && bytes_eq more (45 ∷ [])) plain

no_long : (word : Text) → begins_with_dash word ≡ false → long_of word ≡ None
no_long [] plain = refl
no_long (first ∷ more) plain = ap (λ b. option_and_then long_of_rest (option_and_then (strip_byte 45) (cond b (Some more) None))) plain

no_short : (word : Text) → begins_with_dash word ≡ false → short_of word ≡ None
no_short [] plain = refl
no_short (first ∷ more) plain = ap (λ b. option_and_then short_of_rest (cond b (Some more) None)) plain

idle_word : (position : ℕ) (word : Text) (h : Held) → begins_with_dash word ≡ false → word_met rules [] false idle position word h ≡ (h, value)
idle_word position word h plain = rw (no_dashes word plain, no_long word plain, no_short word plain) refl

next_word : (position : ℕ) (word : Text) (h : Held) → begins_with_dash word ≡ false → word_met rules [] false positional position word h ≡ (h, value)
next_word position word h plain = rw (no_dashes word plain, no_long word plain, no_short word plain) refl

-- ---- the walk over the words

-- with the job met
abbrev after_job : Text → Walk
after_job word = record {
  held = record { rows = []; pending = Some (codes "JOB", word ∷ []); skip = 0 };
  waiting = idle;
  position = 2;
  is_trailing = false;
  stopped = None;
}

-- with some arguments met behind it
abbrev after_args : Text → List Text → Walk
after_args word values = record {
  held = record { rows = finished rules (after_job word).held; pending = Some (codes "ARGS", values); skip = 0 };
  waiting = positional;
  position = 2;
  is_trailing = false;
  stopped = None;
}

abbrev stepped : Text → Walk → Held × Step → Walk
stepped word w met = after_step rules word w met.0 met.1

walked_job : (word : Text) → begins_with_dash word ≡ false → walked rules [] (walk_from nothing_held) word ≡ after_job word
unfolding walked
walked_job word plain = ap (stepped word (walk_from nothing_held)) (idle_word 1 word nothing_held plain)

walked_first : (word first : Text) → begins_with_dash first ≡ false → walked rules [] (after_job word) first ≡ after_args word (first ∷ [])
unfolding walked
walked_first word first plain = ap (stepped first (after_job word)) (idle_word 2 first (after_job word).held plain)

walked_next : (word : Text) (values : List Text) (next : Text) → begins_with_dash next ≡ false
    → walked rules [] (after_args word values) next ≡ after_args word (values ++ next ∷ [])
unfolding walked
walked_next word values next plain = ap (stepped next (after_args word values)) (next_word 2 next (after_args word values).held plain)

walked_args : (word : Text) (values more : List Text) → list_any begins_with_dash more ≡ false
    → fold (walked rules []) (after_args word values) more ≡ after_args word (values ++ more)
walked_args word values [] plain = ap (after_args word) (sym (append-nil values))
walked_args word values (next ∷ more) plain =
    let parts = or_parts (begins_with_dash next) (list_any begins_with_dash more) plain in
    ap (λ (w : Walk). fold (walked rules []) w more) (walked_next word values next parts.0)
    ∙ walked_args word (values ++ next ∷ []) more parts.1 ∙ ap (after_args word) (append_assoc values (next ∷ []) more)

abbrev walk_end : List Text → Walk
walk_end [] = walk_from nothing_held
walk_end (word ∷ []) = after_job word
walk_end (word ∷ first ∷ more) = after_args word (first ∷ more)

walk_is : (words : List Text) → list_any begins_with_dash words ≡ false → walk rules [] nothing_held words ≡ walk_end words
walk_is [] plain = refl
walk_is (word ∷ []) plain = walked_job word (or_parts (begins_with_dash word) false plain).0
walk_is (word ∷ first ∷ more) plain =
    let here = or_parts (begins_with_dash word) (list_any begins_with_dash (first ∷ more)) plain in
    let there = or_parts (begins_with_dash first) (list_any begins_with_dash more) here.1 in
    ap (λ (w : Walk). fold (walked rules []) (walked rules [] w first) more) (walked_job word here.0)
    ∙ ap (λ (w : Walk). fold (walked rules []) w more) (walked_first word first there.0)
    ∙ walked_args word (first ∷ []) more there.1

job_at_end : (words : List Text) → first_of (codes "JOB") (finished rules (walk_end words).held) ≡ slice_get words 0
job_at_end [] = refl
job_at_end (word ∷ []) = refl
job_at_end (word ∷ first ∷ more) = refl

args_at_end : (words : List Text) → all_of (codes "ARGS") (finished rules (walk_end words).held) ≡ some_words (drop 1 words)
args_at_end [] = refl
args_at_end (word ∷ []) = refl
args_at_end (word ∷ first ∷ more) = refl

pub job_is : (words : List Text) → list_any begins_with_dash words ≡ false → first_of (codes "JOB") (matches_of app words) ≡ slice_get words 0
job_is words plain = ap (λ (w : Walk). first_of (codes "JOB") (finished rules w.held)) (walk_is words plain) ∙ job_at_end words

pub args_are : (words : List Text) → list_any begins_with_dash words ≡ false → all_of (codes "ARGS") (matches_of app words) ≡ some_words (drop 1 words)
args_are words plain = ap (λ (w : Walk). all_of (codes "ARGS") (finished rules w.held)) (walk_is words plain) ∙ args_at_end words

-- ---- the words are taken

word_taken : (word : Text) (h : Held) → begins_with_dash word ≡ false → other_passes shape None word h ≡ true
word_taken word h plain = rw (no_dashes word plain, no_long word plain, no_short word plain) refl

job_taken : (word : Text) → begins_with_dash word ≡ false → turn_passes shape [] (walk_from nothing_held) word ≡ true
job_taken word plain =
    ap₂ (λ a b. a && b) (word_taken word nothing_held plain)
    (ap (λ (met : Held × Step). step_passes shape 1 met.0 met.1) (idle_word 1 word nothing_held plain))

first_taken : (word first : Text) → begins_with_dash first ≡ false → turn_passes shape [] (after_job word) first ≡ true
first_taken word first plain =
    ap₂ (λ a b. a && b) (word_taken first (after_job word).held plain)
    (ap (λ (met : Held × Step). step_passes shape 2 met.0 met.1) (idle_word 2 first (after_job word).held plain))

next_taken : (word : Text) (values : List Text) (next : Text) → begins_with_dash next ≡ false → turn_passes shape [] (after_args word values) next ≡ true
next_taken word values next plain =
    ap₂ (λ a b. a && b) (word_taken next (after_args word values).held plain)
    (ap (λ (met : Held × Step). step_passes shape 2 met.0 met.1) (next_word 2 next (after_args word values).held plain))

args_taken : (word : Text) (values more : List Text) → list_any begins_with_dash more ≡ false → walk_passes shape [] (after_args word values) more ≡ true
unfolding walk_passes
args_taken word values [] plain = refl
args_taken word values (next ∷ more) plain =
    let parts = or_parts (begins_with_dash next) (list_any begins_with_dash more) plain in
    ap₂ (λ a b. a && b) (next_taken word values next parts.0)
    (ap (λ (w : Walk). walk_passes shape [] w more) (walked_next word values next parts.0) ∙ args_taken word (values ++ next ∷ []) more parts.1)

words_taken : (words : List Text) → list_any begins_with_dash words ≡ false → walk_passes shape [] (walk_from nothing_held) words ≡ true
unfolding walk_passes
words_taken [] plain = refl
words_taken (word ∷ []) plain = ap (λ b. b && true) (job_taken word (or_parts (begins_with_dash word) false plain).0)
words_taken (word ∷ first ∷ more) plain =
    let here = or_parts (begins_with_dash word) (list_any begins_with_dash (first ∷ more)) plain in
    let there = or_parts (begins_with_dash first) (list_any begins_with_dash more) here.1 in
    ap₂ (λ a b. a && b) (job_taken word here.0)
    (ap (λ (w : Walk). walk_passes shape [] w (first ∷ more)) (walked_job word here.0)
    ∙ ap₂ (λ a b. a && b) (first_taken word first there.0)
    (ap (λ (w : Walk). walk_passes shape [] w more) (walked_first word first there.0) ∙ args_taken word (first ∷ []) more there.1))

-- the last of the rules, as it is built
abbrev built_args : Rule
built_args = slice_index_or rules 1 args

all_values_pass : (values : List Text) → list_all (value_passes built_args) values ≡ true
all_values_pass [] = refl
all_values_pass (one ∷ more) = all_values_pass more

end_taken : (words : List Text) → length words ≤ usize_max → settle_passes rules false (walk_end words).held ≡ true
end_taken [] fits = refl
end_taken (word ∷ []) fits = refl
end_taken (word ∷ first ∷ more) fits =
    ap₂ (λ a b. a && b) (le-leb 1 (length (first ∷ more)) (omega arith))
    (ap₂ (λ a b. a && b) (le-leb (length (first ∷ more)) usize_max (omega (arith, fits))) (all_values_pass (first ∷ more)))

never_stopped : (words : List Text) → (walk_end words).stopped ≡ None
never_stopped [] = refl
never_stopped (word ∷ []) = refl
never_stopped (word ∷ first ∷ more) = refl

pub words_are_taken : (words : List Text) → list_any begins_with_dash words ≡ false → length words ≤ usize_max → takes app words ≡ true
words_are_taken words plain fits =
    let end = walk_is words plain in
    ap (λ (stop : Option (Text × List Text)). entered_passes (built app) stop && level_passes shape [] nothing_held words (is_some (entered (built app) stop)))
    (ap (λ (w : Walk). w.stopped) end ∙ never_stopped words)
    ∙ ap₂ (λ a b. a && (b && true)) (words_taken words plain) (ap (λ (w : Walk). settle_passes rules false w.held) end ∙ end_taken words fits)
