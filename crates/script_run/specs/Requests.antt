-- What the words ask for, as code tells it apart (own). No public clause speaks of this: it serves the contracts of the crate's own functions.
use Rattle.std.specs.Prelude.{◌≡◌, ◌≤◌, ◌∷◌, List, [], ℕ, Bool, false, ◌==◌, Option, Some, None, option_map, slice_get, drop, codes}
use Rattle.clap.specs.Words.{first_value, found_of, matched_of, raw_values}
use Rattle.clap.specs.declared.parser.matches.ArgMatches.{ArgMatches}
use Rattle.script_run.specs.declared.words.Request.{Request}
use Rattle.script_run.specs.declared.words.Request.TheVariants as asked
use Rattle.image_maker.specs.declared.demo.TheConstants.{SESSIONS_MOST}
use Rattle.storm_run.specs.Storms.{IsPlan}
use Rattle.script_run.specs.Outputs.{Form, other, run, check, demo, storm, audit}

-- what the words ask for, as the definitions have it
abbrev pub request_form : Request → Form
request_form asked.Other = other
request_form asked.Run = run
request_form (asked.Check word name) = check word.now
request_form (asked.Demo sessions) = demo sessions
request_form (asked.Storm plan) = storm plan
request_form asked.Audit = audit

-- the name of an image is the word, a demo has 1 to 500 sessions, and a storm can be run
abbrev pub IsInForm : Request → Type 0
IsInForm asked.Other = Unit {0}
IsInForm asked.Run = Unit {0}
IsInForm (asked.Check word name) = name ≡ word.now
IsInForm (asked.Demo sessions) = (1 ≤ sessions) × (sessions ≤ SESSIONS_MOST)
IsInForm (asked.Storm plan) = IsPlan plan
IsInForm asked.Audit = Unit {0}

-- the word begins with `-` (45)
abbrev pub begins_with_dash : List ℕ → Bool
begins_with_dash [] = false
begins_with_dash (first ∷ more) = first == 45

-- some words, or none of them
abbrev pub some_words : List (List ℕ) → Option (List (List ℕ))
some_words [] = None
some_words (word ∷ more) = Some (word ∷ more)

-- the first word is the value of `JOB`, and those after it are the values of `ARGS`
pub record AreMatched (words : List (List ℕ)) (matches : ArgMatches) : Type 0 where
  pub job : first_value (found_of matches) (codes "JOB") ≡ slice_get words 0
  pub args : option_map raw_values (matched_of (found_of matches) (codes "ARGS")) ≡ some_words (drop 1 words)
