-- Which lists of words are accepted, where some word begins with a dash and where none does.
use Rattle.std.proofs.Common.{◌≡◌, ◌≤◌, ◌<◌, ◌∙◌, arith, map, ◌||◌, ◌&&◌, ℕ, suc, leb, length, Option, Some, None, Bool, true, false, refl, sym, ap, List, [], ◌∷◌, cond, codes, true≢false, eqb-true}
use Rattle.std.specs.List.{list_any}
use Rattle.std.specs.Str.{bytes_eq}
use Rattle.word_kinds.specs.Spellings.{name_of}
use Rattle.script_run.specs.Requests.{begins_with_dash}
use Rattle.script_run.specs.Outputs.{Form, argument_of, demo_form, form_of, named_form, numbers_form, other, storm_form}

abbrev none_number : Option ℕ
none_number = None

-- a word with a dash is no job
not_run : (word : List ℕ) → begins_with_dash word ≡ true → bytes_eq word (codes "run") ≡ false
not_run [] dashed = absurd (true≢false (sym dashed))
not_run (first ∷ more) dashed = rw (eqb-true first 45 dashed) refl

not_audit : (word : List ℕ) → begins_with_dash word ≡ true → bytes_eq word (codes "audit") ≡ false
not_audit [] dashed = absurd (true≢false (sym dashed))
not_audit (first ∷ more) dashed = rw (eqb-true first 45 dashed) refl

not_check : (word : List ℕ) → begins_with_dash word ≡ true → bytes_eq word (codes "check") ≡ false
not_check [] dashed = absurd (true≢false (sym dashed))
not_check (first ∷ more) dashed = rw (eqb-true first 45 dashed) refl

not_demo : (word : List ℕ) → begins_with_dash word ≡ true → bytes_eq word (codes "demo") ≡ false
not_demo [] dashed = absurd (true≢false (sym dashed))
not_demo (first ∷ more) dashed = rw (eqb-true first 45 dashed) refl

not_storm : (word : List ℕ) → begins_with_dash word ≡ true → bytes_eq word (codes "storm") ≡ false
not_storm [] dashed = absurd (true≢false (sym dashed))
not_storm (first ∷ more) dashed = rw (eqb-true first 45 dashed) refl

-- and no name
not_name : (word : List ℕ) → begins_with_dash word ≡ true → named_form (name_of word) ≡ other
not_name [] dashed = absurd (true≢false (sym dashed))
not_name (first ∷ more) dashed = rw (eqb-true first 45 dashed) refl

-- and no number
either_none : (b : Bool) → cond b none_number none_number ≡ none_number
either_none true = refl
either_none false = refl

not_number : (word : List ℕ) → begins_with_dash word ≡ true → argument_of word ≡ none_number
not_number [] dashed = absurd (true≢false (sym dashed))
not_number (first ∷ more) dashed = rw (eqb-true first 45 dashed) (either_none (leb 1 (suc (length more)) && leb (suc (length more)) 10))

either_way : (first second : Bool) → cond first other (cond second other other) ≡ other
either_way true second = refl
either_way false true = refl
either_way false false = refl

dashed_pair : (word name : List ℕ) (b : Bool) → begins_with_dash word ≡ b → (b || (begins_with_dash name || false)) ≡ true
    → form_of (word ∷ name ∷ []) ≡ other
dashed_pair word name true is dashed = rw (not_check word is, not_demo word is) refl
dashed_pair word name false is dashed =
    let begins = last (begins_with_dash name) dashed in
    ap (λ (form : Form). cond (bytes_eq word (codes "check")) form (cond (bytes_eq word (codes "demo")) (demo_form (argument_of name)) other)) (not_name name begins)
    ∙ ap (λ (argument : Option ℕ). cond (bytes_eq word (codes "check")) other (cond (bytes_eq word (codes "demo")) (demo_form argument) other)) (not_number name begins)
    ∙ either_way (bytes_eq word (codes "check")) (bytes_eq word (codes "demo"))
  where
    last : (b : Bool) → (b || false) ≡ true → b ≡ true
    last true e = refl
    last false e = e

-- without one of its numbers there is no storm
no_hosts : (remotes count num : Option ℕ) → storm_form none_number remotes count num ≡ other
no_hosts remotes count num = refl

no_remotes : (hosts count num : Option ℕ) → storm_form hosts none_number count num ≡ other
no_remotes None count num = refl
no_remotes (Some hosts) count num = refl

no_count : (hosts remotes num : Option ℕ) → storm_form hosts remotes none_number num ≡ other
no_count None remotes num = refl
no_count (Some hosts) None num = refl
no_count (Some hosts) (Some remotes) num = refl

no_num : (hosts remotes count : Option ℕ) → storm_form hosts remotes count none_number ≡ other
no_num None remotes count = refl
no_num (Some hosts) None count = refl
no_num (Some hosts) (Some remotes) None = refl
no_num (Some hosts) (Some remotes) (Some count) = refl

other_either : (b : Bool) → cond b other other ≡ other
other_either true = refl
other_either false = refl

-- the numbers of a storm, one of which begins with a dash
module _ (hosts remotes count num : List ℕ) where
  dashed_numbers : (a b c d : Bool) → begins_with_dash hosts ≡ a → begins_with_dash remotes ≡ b → begins_with_dash count ≡ c → begins_with_dash num ≡ d
      → (a || (b || (c || (d || false)))) ≡ true → storm_form (argument_of hosts) (argument_of remotes) (argument_of count) (argument_of num) ≡ other
  dashed_numbers true b c d first second third fourth dashed =
      ap (λ (number : Option ℕ). storm_form number (argument_of remotes) (argument_of count) (argument_of num)) (not_number hosts first)
      ∙ no_hosts (argument_of remotes) (argument_of count) (argument_of num)
  dashed_numbers false true c d first second third fourth dashed =
      ap (λ (number : Option ℕ). storm_form (argument_of hosts) number (argument_of count) (argument_of num)) (not_number remotes second)
      ∙ no_remotes (argument_of hosts) (argument_of count) (argument_of num)
  dashed_numbers false false true d first second third fourth dashed =
      ap (λ (number : Option ℕ). storm_form (argument_of hosts) (argument_of remotes) number (argument_of num)) (not_number count third)
      ∙ no_count (argument_of hosts) (argument_of remotes) (argument_of num)
  dashed_numbers false false false true first second third fourth dashed =
      ap (λ (number : Option ℕ). storm_form (argument_of hosts) (argument_of remotes) (argument_of count) number) (not_number num fourth)
      ∙ no_num (argument_of hosts) (argument_of remotes) (argument_of count)
  dashed_numbers false false false false first second third fourth dashed = absurd (true≢false (sym dashed))

  dashed_storm : (word : List ℕ) (b : Bool) → begins_with_dash word ≡ b
      → (b || (begins_with_dash hosts || (begins_with_dash remotes || (begins_with_dash count || (begins_with_dash num || false))))) ≡ true
      → numbers_form word hosts remotes count num ≡ other
  dashed_storm word true is dashed = rw (not_storm word is) refl
  dashed_storm word false is dashed =
      ap (λ (form : Form). cond (bytes_eq word (codes "storm")) form other)
      (dashed_numbers (begins_with_dash hosts) (begins_with_dash remotes) (begins_with_dash count) (begins_with_dash num) refl refl refl refl dashed)
      ∙ other_either (bytes_eq word (codes "storm"))

-- a first word with two or three behind it, or with more than four, is not accepted
module _ {X : Type 0} (text : X → List ℕ) (word : List ℕ) where
  pub few_form : (arguments : List X) → 2 ≤ length arguments → length arguments < 4 → other ≡ form_of (word ∷ map text arguments)
  few_form [] some few = absurd (omega (arith, some))
  few_form (first ∷ []) some few = absurd (omega (arith, some))
  few_form (first ∷ second ∷ []) some few = refl
  few_form (first ∷ second ∷ third ∷ []) some few = refl
  few_form (first ∷ second ∷ third ∷ fourth ∷ more) some few = absurd (omega (arith, few))

  pub many_form : (arguments : List X) → 5 ≤ length arguments → other ≡ form_of (word ∷ map text arguments)
  many_form [] many = absurd (omega (arith, many))
  many_form (first ∷ []) many = absurd (omega (arith, many))
  many_form (first ∷ second ∷ []) many = absurd (omega (arith, many))
  many_form (first ∷ second ∷ third ∷ []) many = absurd (omega (arith, many))
  many_form (first ∷ second ∷ third ∷ fourth ∷ []) many = absurd (omega (arith, many))
  many_form (first ∷ second ∷ third ∷ fourth ∷ fifth ∷ more) many = refl

  -- a word alone that is none of these
  pub alone_form : (arguments : List X) → length arguments < 1 → bytes_eq word (codes "run") ≡ false → bytes_eq word (codes "audit") ≡ false → other ≡ form_of (word ∷ map text arguments)
  alone_form [] none run audit = rw (run, audit) refl
  alone_form (first ∷ more) none run audit = absurd (omega (arith, none))

  -- a word with one behind it that is none of these
  pub pair_form : (arguments : List X) → length arguments ≡ 1 → bytes_eq word (codes "check") ≡ false → bytes_eq word (codes "demo") ≡ false → other ≡ form_of (word ∷ map text arguments)
  pair_form [] one check demo = absurd (omega (arith, one))
  pair_form (first ∷ []) one check demo = rw (check, demo) refl
  pair_form (first ∷ second ∷ more) one check demo = absurd (omega (arith, one))

  -- a word with four behind it that isn't this one
  pub four_form : (arguments : List X) → length arguments ≡ 4 → bytes_eq word (codes "storm") ≡ false → other ≡ form_of (word ∷ map text arguments)
  four_form [] four storm = absurd (omega (arith, four))
  four_form (first ∷ []) four storm = absurd (omega (arith, four))
  four_form (first ∷ second ∷ []) four storm = absurd (omega (arith, four))
  four_form (first ∷ second ∷ third ∷ []) four storm = absurd (omega (arith, four))
  four_form (first ∷ second ∷ third ∷ fourth ∷ []) four storm = rw storm refl
  four_form (first ∷ second ∷ third ∷ fourth ∷ fifth ∷ more) four storm = absurd (omega (arith, four))

-- a list of words is not accepted where one of them begins with a dash
pub dashed_form : (words : List (List ℕ)) → list_any begins_with_dash words ≡ true → other ≡ form_of words
dashed_form [] dashed = refl
dashed_form (word ∷ []) dashed = sym (go (begins_with_dash word) refl dashed)
  where
    go : (b : Bool) → begins_with_dash word ≡ b → (b || false) ≡ true → form_of (word ∷ []) ≡ other
    go true is e = rw (not_run word is, not_audit word is) refl
    go false is e = absurd (true≢false (sym e))
dashed_form (word ∷ name ∷ []) dashed = sym (dashed_pair word name (begins_with_dash word) refl dashed)
dashed_form (word ∷ hosts ∷ remotes ∷ []) dashed = refl
dashed_form (word ∷ hosts ∷ remotes ∷ count ∷ []) dashed = refl
dashed_form (word ∷ hosts ∷ remotes ∷ count ∷ num ∷ []) dashed = sym (dashed_storm hosts remotes count num word (begins_with_dash word) refl dashed)
dashed_form (word ∷ hosts ∷ remotes ∷ count ∷ num ∷ sixth ∷ more) dashed = refl
