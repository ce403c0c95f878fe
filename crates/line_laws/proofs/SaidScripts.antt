-- What the grammar of scripts says of the names and the bytes of a command: names are spelled as names, and bytes are bytes.
use lib.Dec.{ltb as nat_lt}
use Rattle.std.proofs.Common.{◌≡◌, ℕ, suc, ◌+◌, ◌<◌, ◌≤◌, ◌==◌, ◌&&◌, ◌||◌, Bool, true, false, not, cond, length, List, [], ◌∷◌, ◌++◌, drop, Option, Some, None, IfSome, Result, Ok, Err, inl, inr, refl, sym, ap, subst, ◌∙◌, bytes_eq, codes, arith}
use Rattle.std.specs.Prelude.{All, nat_le, option_map, unwrap_or}
use Rattle.std.specs.List.{list_all}
use Rattle.std.specs.Result.{IfOk}
use Rattle.std.proofs.lemmas.Bool.{cases_lt, cond_both, ltb-false}
use Rattle.std.proofs.lemmas.Bool.Decides.{nat_tests}
use Rattle.std.proofs.lemmas.List.{drop_more, drop_all, length-append}
use Rattle.std.proofs.lemmas.List.Elements.{All-from_recursion, All-nil, All-push, All-replicate}
use Rattle.rp_base.specs.declared.limits.TheConstants.{SCRIPT_MOST, SCRIPT_LINES_MOST}
use Rattle.word_kinds.specs.declared.causes.Cause.{Cause}
use Rattle.word_kinds.specs.declared.causes.Cause.TheVariants as cause
use Rattle.word_kinds.specs.declared.kinds.Kind.{Kind}
use Rattle.word_kinds.specs.declared.kinds.Kind.TheVariants as kind
use Rattle.word_kinds.specs.Kinds.{is_of, are_of}
use Rattle.word_kinds.specs.Payloads.{byte_of, bytes_in, bytes_of_pairs, is_repeated, repeated_bytes}
use Rattle.word_kinds.specs.Places.{name_at, word_at}
use Rattle.word_kinds.specs.Spellings.{decimal_of, hex_value, is_digit, is_letter, is_name, is_name_byte, words_of}
use Rattle.script_lang.specs.declared.commands.Command.{Command}
use Rattle.script_lang.specs.declared.recipes.RecipeLine.{RecipeLine}
use Rattle.script_lang.specs.CallForms.{begin_command, begin_kinds, call_form_named, call_forms, call_keyword}
use Rattle.script_lang.specs.Forms.{command_of, form_named, keyword, kinds, plain_forms}
use Rattle.script_lang.specs.Lines.{begin_form, form_of, form_of_line, form_or, inside_cause, is_printable, is_skipped, misfit, outside_cause, recipe_form_of_line, unless_misfit}
use Rattle.script_lang.specs.Recipes.{context_after, is_allowed, recipe_form_named, recipe_forms, recipe_keyword, recipe_kinds, recipe_line}
use Rattle.script_lang.specs.Steps.{OpenImage, Step, added_step, closed_step, command_step, end_kinds, image_kinds, line_step, opened_step, words_step}
use Rattle.script_lang.specs.Grammar.{IsScript, Refusal, at_end, bad_line, commands_from, image_behind, lines_of, onto, script_of, step_and_more}
use Rattle.link_bench.specs.declared.acts.CallWish.{CallWish}
use Rattle.link_bench.specs.declared.acts.CallWish.TheVariants as call
use Rattle.link_bench.specs.declared.acts.LinkAct.{LinkAct}
use Rattle.link_bench.specs.declared.acts.LinkAct.TheVariants as link_act
use Rattle.link_commands.specs.declared.acts.CoreAct.{CoreAct}
use Rattle.link_commands.specs.declared.acts.CoreAct.TheVariants as core
use Rattle.link_commands.specs.declared.acts.StartAct.{StartAct}
use Rattle.link_commands.specs.declared.acts.StartAct.TheVariants as starts
use Rattle.link_commands.specs.declared.acts.Line.{Line}
use Rattle.link_commands.specs.declared.acts.Line.TheVariants as line
use Rattle.link_commands.specs.declared.acts.NamedAct.{NamedAct}
use Rattle.link_commands.specs.declared.acts.NamedAct.TheVariants as under
use Rattle.link_commands.specs.Acts.{line_of}
use Rattle.field_laws.specs.Fields.{AreBytes}
use Rattle.field_laws.proofs.Bytes.{more_bytes, no_bytes}
use Rattle.field_laws.proofs.Images.{IsBytesLine}
use Rattle.field_laws.proofs.Sides.{find_has}
use Rattle.line_laws.proofs.SpelledLines.{IsName}

-- ---- what is known of what a command is about

abbrev pub IsSaidCall : CallWish (List ℕ) → Type 0
IsSaidCall (call.Send source destination payload) = AreBytes payload
IsSaidCall (call.Raw message) = AreBytes message
IsSaidCall other = Unit {0}

abbrev pub IsSaidLink : LinkAct (List ℕ) → Type 0
IsSaidLink (link_act.Call caller made wanted) = IsSaidCall wanted
IsSaidLink other = Unit {0}

abbrev pub IsSaidStart : StartAct → Type 0
IsSaidStart (starts.Boot image) = IsName image
IsSaidStart (starts.Handover image) = IsName image
IsSaidStart starts.Recover = Unit {0}

abbrev pub IsSaidCore : CoreAct → Type 0
IsSaidCore (core.Driver channel kind) = IsName channel
IsSaidCore (core.Start start) = IsSaidStart start
IsSaidCore other = Unit {0}

abbrev pub IsSaidAct : NamedAct (List ℕ) → Type 0
IsSaidAct (under.Make made) = Unit {0}
IsSaidAct (under.Link asked) = IsSaidLink asked
IsSaidAct (under.Manage managed) = Unit {0}
IsSaidAct (under.Show shown) = Unit {0}
IsSaidAct (under.Core asked) = IsSaidCore asked

abbrev pub IsSaidLine : Line (List RecipeLine) (List ℕ) → Type 0
IsSaidLine (line.Image name lines) = IsName name × All IsBytesLine lines × (length lines ≤ SCRIPT_LINES_MOST)
IsSaidLine (line.Quiet set) = Unit {0}
IsSaidLine (line.Dump name image) = IsName name × IsName image
IsSaidLine (line.On name done) = IsName name × IsSaidAct done

abbrev pub AreSaid : List Command → Type 0
AreSaid [] = Unit {0}
AreSaid (first ∷ more) = IsSaidLine (line_of first) × AreSaid more

-- ---- bytes

hex_small : (byte : ℕ) → hex_value byte < 16
hex_small byte = grind (arith, nat_tests)

pair_small : (high low : ℕ) → byte_of high low < 256
pair_small high low = omega (arith, hex_small high, hex_small low)

pairs_bytes : (word : List ℕ) → AreBytes (bytes_of_pairs word)
pairs_bytes [] = no_bytes
pairs_bytes (high ∷ []) = no_bytes
pairs_bytes (high ∷ low ∷ more) = more_bytes (byte_of high low) (bytes_of_pairs more) (pair_small high low) (pairs_bytes more)

repeated_are_bytes : (word : List ℕ) → AreBytes (repeated_bytes word)
repeated_are_bytes [] = no_bytes
repeated_are_bytes (high ∷ []) = no_bytes
repeated_are_bytes (high ∷ low ∷ []) = no_bytes
repeated_are_bytes (high ∷ low ∷ star ∷ count) = All-replicate (λ b. b < 256) (unwrap_or (decimal_of count) 0) (byte_of high low) (pair_small high low)

word_bytes : (word : List ℕ) → AreBytes (bytes_in word)
word_bytes word = cond_both (is_repeated word) (repeated_bytes word) (bytes_of_pairs word) AreBytes (λ _. repeated_are_bytes word) (λ _. pairs_bytes word)

both : (a b : Bool) → (a && b) ≡ true → (a ≡ true) × (b ≡ true)
both true b e = (refl, e)
both false b e = absurd (cc)

first_small : (byte : ℕ) → (is_letter byte || is_digit byte) ≡ true → byte < 256
first_small byte is = grind (arith, nat_tests)

next_small : (byte : ℕ) → is_name_byte byte ≡ true → byte < 256
next_small byte is = grind (arith, nat_tests)

rest_bytes : (name : List ℕ) → list_all is_name_byte name ≡ true → AreBytes name
rest_bytes [] is = no_bytes
rest_bytes (first ∷ more) is = let parts = both (is_name_byte first) (list_all is_name_byte more) is in more_bytes first more (next_small first parts.0) (rest_bytes more parts.1)

pub name_bytes : (name : List ℕ) → IsName name → AreBytes name
name_bytes [] is = no_bytes
name_bytes (first ∷ more) is =
    let parts = both ((is_letter first || is_digit first) && list_all is_name_byte more) (nat_le (length more) 30) is in
    let halves = both (is_letter first || is_digit first) (list_all is_name_byte more) parts.0 in
    more_bytes first more (first_small first halves.0) (rest_bytes more halves.1)

named_bytes : (words : List (List ℕ)) (place : ℕ) → AreBytes (name_at words place)
named_bytes words place = cond_both (is_name (word_at words place)) (word_at words place) [] AreBytes (λ is. name_bytes (word_at words place) is) (λ _. no_bytes)

-- ---- words

abbrev IsSaidWord : Kind → List ℕ → Type 0
IsSaidWord kind.Name word = IsName (cond (is_name word) word [])
IsSaidWord other word = Unit {0}

said_word : (k : Kind) (word : List ℕ) → is_of k word ≡ true → IsSaidWord k word
said_word kind.Name word e = ap (λ (named : Bool). is_name (cond named word [])) e ∙ e
said_word other word e = tt

abbrev AreSaidWords : List Kind → List (List ℕ) → ℕ → Type 0
AreSaidWords [] words place = Unit {0}
AreSaidWords (k ∷ ks) words place = IsSaidWord k (word_at words place) × AreSaidWords ks words (place + 1)

all_said : (ks : List Kind) (words : List (List ℕ)) (place : ℕ) → are_of ks (drop place words) ≡ true → AreSaidWords ks words place
all_said [] words place e = tt
all_said (k ∷ ks) words place e =
    elim (cases_lt place (length words)) [
      | inl h ↦
          let b = both (is_of k (word_at words place)) (are_of ks (drop (place + 1) words)) (sym (ap (are_of (k ∷ ks)) (drop_more words place [] h)) ∙ e) in
          (said_word k (word_at words place) b.0, all_said ks words (place + 1) b.1)
      | inr h ↦ let none : are_of (k ∷ ks) (drop place words) ≡ false = ap (are_of (k ∷ ks)) (drop_all place words h) in absurd (cc)
    ]

-- words that fit their kinds
fits : (ks : List Kind) (words : List (List ℕ)) (count kept : Bool) → are_of ks words ≡ kept → cond (not count) (Some cause.Words) (cond kept None (Some cause.Value)) ≡ None → AreSaidWords ks words 0
fits ks words false kept h e = absurd (cc)
fits ks words true false h e = absurd (cc)
fits ks words true true h e = all_said ks words 0 h

fit_of : {F : Type 0} (ks : List Kind) (words : List (List ℕ)) (g f : F) (found : Option Cause) → misfit ks words ≡ found → unless_misfit g found ≡ Ok f → (g ≡ f) × AreSaidWords ks words 0
fit_of ks words g f None h e = (cc, fits ks words (length words == length ks) (are_of ks words) refl h)
fit_of ks words g f (Some why) h e = absurd (cc)

same_Ok : {A E : Type 0} (x y : A) → ◌≡◌ {A = Result A E} (Ok x) (Ok y) → x ≡ y
same_Ok x y e = cc

-- ---- forms: the tables list all of them

-- a form, by the kinds of its words and the command that they say
abbrev IsSaidForm : {F : Type 0} → (F → List Kind) → (F → List (List ℕ) → Command) → List (List ℕ) → F → Type 0
IsSaidForm kinds_of said words f = AreSaidWords (kinds_of f) words 0 → IsSaidLine (line_of (said f words))

plain_said : (words : List (List ℕ)) → IfSome (form_named (word_at words 0)) (IsSaidForm kinds command_of words)
plain_said words =
    find_has (IsSaidForm kinds command_of words) (λ form. bytes_eq (word_at words 0) (keyword form)) plain_forms
    (All-from_recursion (IsSaidForm kinds command_of words) plain_forms
    (λ m. (m.1.0, word_bytes (word_at words 5)), (λ m. (m.1.0, tt), (λ m. (m.1.0, tt), (λ m. (m.1.0, word_bytes (word_at words 3)), (λ m. (m.1.0, tt), (λ m. (m.1.0, tt), (λ m. (m.1.0, tt), (λ m. (m.1.0, tt), (λ m. (m.1.0, tt), (λ m. (m.1.0, tt), (λ m. (m.1.0, tt), (λ m. (m.1.0, tt), (λ m. (m.1.0, tt), (λ m. (m.1.0, tt), (λ m. (m.1.0, tt), (λ m. (m.1.0, tt), (λ m. (m.1.0, tt), (λ m. (m.1.0, tt), (λ m. (m.1.0, tt), (λ m. (m.1.0, tt), (λ m. (m.1.0, m.1.1.0), (λ m. (m.1.0, m.1.1.0), (λ m. (m.1.0, tt), (λ m. (m.1.0, tt), (λ m. (m.1.0, tt), (λ m. (m.1.0, tt), (λ m. (m.1.0, tt), (λ m. (m.1.0, tt), (λ m. (m.1.0, tt), (λ m. (m.1.0, tt), (λ m. (m.1.0, tt), (λ m. (m.1.0, m.1.1.0), (λ m. (m.1.0, tt), (λ m. (m.1.0, m.1.1.0), (λ m. tt, tt))))))))))))))))))))))))))))))))))))

begun_said : (words : List (List ℕ)) → IfSome (call_form_named (word_at words 3)) (IsSaidForm begin_kinds begin_command words)
begun_said words =
    find_has (IsSaidForm begin_kinds begin_command words) (λ form. bytes_eq (word_at words 3) (call_keyword form)) call_forms
    (All-from_recursion (IsSaidForm begin_kinds begin_command words) call_forms
    (λ m. (m.1.0, word_bytes (word_at words 6)), (λ m. (m.1.0, tt), (λ m. (m.1.0, tt), (λ m. (m.1.0, word_bytes (word_at words 4)), (λ m. (m.1.0, tt), (λ m. (m.1.0, tt), tt)))))))

-- a form that is found, or a cause
abbrev found_or : {F : Type 0} → Cause → Option F → Result F Cause
found_or why None = Err why
found_or why (Some form) = Ok form

or_said : {F : Type 0} (P : F → Type 0) (why : Cause) (found : Option F) → IfSome found P → IfOk (found_or why found) P
or_said P why None is = tt
or_said P why (Some form) is = is

map_said : {F G : Type 0} (P : G → Type 0) (f : F → G) (why : Cause) (found : Option F) → IfSome found (λ x. P (f x)) → IfOk (found_or why (option_map f found)) P
map_said P f why None is = tt
map_said P f why (Some form) is = is

begin_said : (words : List (List ℕ)) → IfOk (begin_form words) (IsSaidForm kinds command_of words)
begin_said words =
    cond_both (nat_lt (length words) 4) (Err cause.Words) _ (λ found. IfOk found (IsSaidForm kinds command_of words)) (λ _. tt)
    (λ _. map_said (IsSaidForm kinds command_of words) _ cause.Value (call_form_named (word_at words 3)) (begun_said words))

form_said : (words : List (List ℕ)) → IfOk (form_of words) (IsSaidForm kinds command_of words)
form_said words =
    cond_both (bytes_eq (word_at words 0) (codes "begin")) (begin_form words) (form_or (outside_cause (word_at words 0)) (form_named (word_at words 0)))
    (λ found. IfOk found (IsSaidForm kinds command_of words)) (λ _. begin_said words)
    (λ _. or_said (IsSaidForm kinds command_of words) (outside_cause (word_at words 0)) (form_named (word_at words 0)) (plain_said words))

recipe_said : (words : List (List ℕ)) → IfSome (recipe_form_named (word_at words 0)) (λ f. IsBytesLine (recipe_line f words))
recipe_said words =
    find_has (λ f. IsBytesLine (recipe_line f words)) (λ form. bytes_eq (word_at words 0) (recipe_keyword form)) recipe_forms
    (All-from_recursion (λ f. IsBytesLine (recipe_line f words)) recipe_forms
    (tt, (word_bytes (word_at words 2), (tt, (named_bytes words 3, (named_bytes words 4, (named_bytes words 3, (tt, (tt, (tt, (tt, (tt, (tt, (tt, (tt, (tt, (tt, (tt, (tt, (tt, tt))))))))))))))))))))

-- ---- lines

-- the image that is open, behind which so many lines are left
abbrev IsOpen : ℕ → Option OpenImage → Type 0
IsOpen left None = Unit {0}
IsOpen left (Some image) = IsName image.name × All IsBytesLine image.lines × (length image.lines + left ≤ SCRIPT_LINES_MOST)

abbrev IsSaidStep : ℕ → Step → Type 0
IsSaidStep left step = AreSaid step.commands × IsOpen left step.image

abbrev AreSteps : ℕ → Result Step Cause → Type 0
AreSteps left said = IfOk said (IsSaidStep left)

-- what a form says
abbrev step_in : {F : Type 0} → (F → List (List ℕ) → Command) → List (List ℕ) → Result F Cause → Result Step Cause
step_in said words (Ok form) = Ok (record { commands = said form words ∷ []; image = None })
step_in said words (Err why) = Err why

abbrev fitting_in : {F : Type 0} → (F → List Kind) → List (List ℕ) → Result F Cause → Result F Cause
fitting_in kinds_of words (Ok form) = unless_misfit form (misfit (kinds_of form) words)
fitting_in kinds_of words (Err why) = Err why

command_fit : {F : Type 0} (left : ℕ) (kinds_of : F → List Kind) (said : F → List (List ℕ) → Command) (words : List (List ℕ)) (f : F) (why : Option Cause) → misfit (kinds_of f) words ≡ why
    → IsSaidForm kinds_of said words f → AreSteps left (step_in said words (unless_misfit f why))
command_fit left kinds_of said words f None h is = ((is (fits (kinds_of f) words (length words == length (kinds_of f)) (are_of (kinds_of f) words) refl h), tt), tt)
command_fit left kinds_of said words f (Some why) h is = tt

commanded_by : {F : Type 0} (left : ℕ) (kinds_of : F → List Kind) (said : F → List (List ℕ) → Command) (words : List (List ℕ)) (found : Result F Cause) → IfOk found (IsSaidForm kinds_of said words)
    → AreSteps left (step_in said words (fitting_in kinds_of words found))
commanded_by left kinds_of said words (Ok f) is = command_fit left kinds_of said words f (misfit (kinds_of f) words) refl is
commanded_by left kinds_of said words (Err why) is = tt

commanded : (left : ℕ) (words : List (List ℕ)) → AreSteps left (command_step words (form_of_line words))
commanded left words = commanded_by left kinds command_of words (form_of words) (form_said words)

opened : (left : ℕ) (words : List (List ℕ)) (why : Option Cause) → left ≤ SCRIPT_LINES_MOST → misfit image_kinds words ≡ why → AreSteps left (opened_step words why)
opened left words None few h = (tt, ((fits image_kinds words (length words == length image_kinds) (are_of image_kinds words) refl h).1.0, All-nil IsBytesLine, omega (arith, few)))
opened left words (Some why) few h = tt

closed : (left : ℕ) (image : OpenImage) (why : Option Cause) → IsOpen left (Some image) → AreSteps left (closed_step image why)
closed left image None is = let few = is.2 in (((is.0, is.1, omega (arith, few)), tt), tt)
closed left image (Some why) is = tt

-- ---- recipes

unless_said : {F : Type 0} (P : F → Type 0) (f : F) (why : Option Cause) → P f → IfOk (unless_misfit f why) P
unless_said P f None is = is
unless_said P f (Some why) is = tt

abbrev line_in : {F : Type 0} → (F → Bool) → (F → Option Cause) → Cause → Option F → Result F Cause
line_in allowed why other None = Err other
line_in allowed why other (Some form) = cond (allowed form) (unless_misfit form (why form)) (Err cause.Block)

line_said : {F : Type 0} (P : F → Type 0) (allowed : F → Bool) (why : F → Option Cause) (other : Cause) (found : Option F) → IfSome found P → IfOk (line_in allowed why other found) P
line_said P allowed why other None is = tt
line_said {F} P allowed why other (Some form) is =
    cond_both (allowed form) (unless_misfit form (why form)) (Err cause.Block) (λ (found : Result F Cause). IfOk found P) (λ _. unless_said P form (why form) is) (λ _. tt)

abbrev added_in : {F : Type 0} → (F → OpenImage) → Result F Cause → Result Step Cause
added_in next (Ok form) = Ok (record { commands = []; image = Some (next form) })
added_in next (Err why) = Err why

added_by : {F : Type 0} (left : ℕ) (next : F → OpenImage) (found : Result F Cause) → IfOk found (λ f. IsOpen left (Some (next f))) → AreSteps left (added_in next found)
added_by left next (Ok form) is = (tt, is)
added_by left next (Err why) is = tt

ok_weaker : {F : Type 0} (P Q : F → Type 0) (found : Result F Cause) → ((f : F) → P f → Q f) → IfOk found P → IfOk found Q
ok_weaker P Q (Ok f) each is = each f is
ok_weaker P Q (Err why) each is = tt

-- a list with one item more
one_longer : {X : Type 0} (items : List X) (item : X) → length (items ++ item ∷ []) ≡ length items + 1
one_longer items item = length-append items (item ∷ [])

added : (left : ℕ) (image : OpenImage) (words : List (List ℕ)) → IsOpen (left + 1) (Some image) → AreSteps left (added_step image words (recipe_form_of_line image.context words))
added left image words is =
    let few = is.2 in
    added_by left (λ form. record { name = image.name; lines = image.lines ++ recipe_line form words ∷ []; context = context_after image.context form }) (recipe_form_of_line image.context words)
    (ok_weaker (λ f. IsBytesLine (recipe_line f words)) (λ f. IsOpen left (Some (record { name = image.name; lines = image.lines ++ recipe_line f words ∷ []; context = context_after image.context f })))
    (recipe_form_of_line image.context words)
    (λ f said. let more = one_longer image.lines (recipe_line f words) in (is.0, All-push IsBytesLine image.lines (recipe_line f words) is.1 said, omega (arith, few, more)))
    (line_said (λ f. IsBytesLine (recipe_line f words)) (is_allowed image.context) (λ f. misfit (recipe_kinds f) words) (inside_cause (word_at words 0)) (recipe_form_named (word_at words 0)) (recipe_said words)))

-- ---- texts

fewer : (left : ℕ) (image : Option OpenImage) → IsOpen (left + 1) image → IsOpen left image
fewer left None is = tt
fewer left (Some image) is = let few = is.2 in (is.0, is.1, omega (arith, few))

outside : (left : ℕ) (words : List (List ℕ)) → left ≤ SCRIPT_LINES_MOST → AreSteps left (words_step None words)
outside left words few =
    cond_both (bytes_eq (word_at words 0) (codes "image")) (opened_step words (misfit image_kinds words)) (command_step words (form_of_line words)) (AreSteps left)
    (λ _. opened left words (misfit image_kinds words) few refl) (λ _. commanded left words)

inside : (left : ℕ) (image : OpenImage) (words : List (List ℕ)) → IsOpen (left + 1) (Some image) → AreSteps left (words_step (Some image) words)
inside left image words is =
    cond_both (bytes_eq (word_at words 0) (codes "end")) (closed_step image (misfit end_kinds words)) (added_step image words (recipe_form_of_line image.context words)) (AreSteps left)
    (λ _. closed left image (misfit end_kinds words) (fewer left (Some image) is)) (λ _. added left image words is)

worded : (left : ℕ) (image : Option OpenImage) (words : List (List ℕ)) → left ≤ SCRIPT_LINES_MOST → IsOpen (left + 1) image → AreSteps left (words_step image words)
worded left None words few is = outside left words few
worded left (Some image) words few is = inside left image words is

stepped : (left : ℕ) (image : Option OpenImage) (line : List ℕ) → left ≤ SCRIPT_LINES_MOST → IsOpen (left + 1) image → AreSteps left (line_step image line)
stepped left image line few is =
    cond_both (is_skipped (words_of line)) (Ok (record { commands = []; image = image })) (cond (list_all is_printable line) (words_step image (words_of line)) (Err cause.Byte)) (AreSteps left)
    (λ _. (tt, fewer left image is))
    (λ _. cond_both (list_all is_printable line) (words_step image (words_of line)) (Err cause.Byte) (AreSteps left) (λ _. worded left image (words_of line) few is) (λ _. tt))

abbrev AreAllSaid : Result (List Command) Refusal → Type 0
AreAllSaid said = IfOk said AreSaid

appended : (front more : List Command) → AreSaid front → AreSaid more → AreSaid (front ++ more)
appended [] more f m = m
appended (first ∷ front) more f m = (f.0, appended front more f.1 m)

onto_said : (front : List Command) (more : Result (List Command) Refusal) → AreSaid front → AreAllSaid more → AreAllSaid (onto front more)
onto_said front (Ok more) f m = appended front more f m
onto_said front (Err refusal) f m = tt

here_said : (number left : ℕ) (said : Result Step Cause) (more : Option OpenImage → Result (List Command) Refusal) → AreSteps left said
    → ((next : Option OpenImage) → IsOpen left next → AreAllSaid (more next)) → AreAllSaid (step_and_more number said (more (image_behind said)))
here_said number left (Ok step) more is rest = onto_said step.commands (more step.image) is.0 (rest step.image is.1)
here_said number left (Err why) more is rest = tt

ended : (number : ℕ) (image : Option OpenImage) → AreAllSaid (at_end number image)
ended number None = tt
ended number (Some image) = tt

one_left : (left : ℕ) (image : Option OpenImage) → IsOpen (suc left) image → IsOpen (left + 1) image
one_left left None is = tt
one_left left (Some image) is = let few = is.2 in (is.0, is.1, omega (arith, few))

lines_said : (number : ℕ) (image : Option OpenImage) (lines : List (List ℕ)) → length lines ≤ SCRIPT_LINES_MOST → IsOpen (length lines) image → AreAllSaid (commands_from number image lines)
lines_said number image [] few is = ended number image
lines_said number image (line ∷ more) few is =
    here_said number (length more) (line_step image line) (λ next. commands_from (number + 1) next more)
    (stepped (length more) image line (omega (arith, few)) (one_left (length more) image is)) (λ next of. lines_said (number + 1) next more (omega (arith, few)) of)

text_said : (text : List ℕ) → AreAllSaid (script_of text)
unfolding script_of
text_said text =
    let lines = lines_of text in
    cond_both (nat_lt SCRIPT_MOST (length text)) (Err (bad_line 0 cause.Size))
    (cond (nat_lt SCRIPT_LINES_MOST (length lines)) (Err (bad_line (SCRIPT_LINES_MOST + 1) cause.Lines)) (commands_from 1 None lines)) AreAllSaid (λ _. tt)
    (λ _. cond_both (nat_lt SCRIPT_LINES_MOST (length lines)) (Err (bad_line (SCRIPT_LINES_MOST + 1) cause.Lines)) (commands_from 1 None lines) AreAllSaid (λ _. tt)
    (λ few. lines_said 1 None lines (ltb-false SCRIPT_LINES_MOST (length lines) few) tt))

pub are_said : (commands : List Command) → IsScript commands → AreSaid commands
are_said commands script = subst AreAllSaid script.says (text_said script.text)
