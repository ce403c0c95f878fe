-- The events of the lines that are read so far.
use Rattle.std.proofs.Common.{◌≡◌, ℕ, ◌+◌, ◌<◌, ◌≤◌, List, [], ◌∷◌, ◌++◌, length, map, refl, sym, ap, ◌∙◌, arith, length-append}
use Rattle.std.specs.Prelude.{All}
use Rattle.std.proofs.lemmas.List.Elements.{All-append, All-cons, All-nil}
use Rattle.journal.specs.Lines.{line}
use Rattle.journal.specs.Reading.{IsWritten}
use Rattle.journal.specs.declared.events.Event.{Event}
use Rattle.journal_check.specs.Lines.{lines_of}
use Rattle.chart.specs.Readings.{AreLines, IsFirstOther}

-- what stands before the rest of a text are the lines of events
pub record AreRead (bytes rest : List ℕ) (events : List Event) : Type 0 where
  pub lines : lines_of bytes ≡ map line events ++ lines_of rest
  pub written : All IsWritten events

pub none_read : (bytes : List ℕ) → AreRead bytes bytes []
none_read bytes = record { lines = refl; written = All-nil IsWritten }

map_more : (events : List Event) (event : Event) (more : List (List ℕ)) → map line (events ++ event ∷ []) ++ more ≡ map line events ++ line event ∷ more
map_more [] event more = refl
map_more (e ∷ events) event more = ap (λ lines. line e ∷ lines) (map_more events event more)

pub more_read : (bytes rest here more : List ℕ) (events : List Event) (event : Event) → AreRead bytes rest events → lines_of rest ≡ here ∷ lines_of more
    → line event ≡ here → IsWritten event → AreRead bytes more (events ++ event ∷ [])
more_read bytes rest here more events event read cut is written =
    record {
      lines = read.lines ∙ ap (λ lines. map line events ++ lines) cut ∙ ap (λ first. map line events ++ first ∷ lines_of more) (sym is) ∙ sym (map_more events event (lines_of more));
      written = All-append IsWritten events (event ∷ []) read.written (All-cons IsWritten event [] written (All-nil IsWritten));
    }

append_none : (lines : List (List ℕ)) → lines ++ [] ≡ lines
append_none [] = refl
append_none (l ∷ lines) = ap (λ ls. l ∷ ls) (append_none lines)

pub all_read : (bytes rest : List ℕ) (events : List Event) → AreRead bytes rest events → length rest ≡ 0 → AreLines (lines_of bytes) events
all_read bytes [] events read none = record { are = read.lines ∙ append_none (map line events); written = read.written }
all_read bytes (byte ∷ rest) events read none = absurd (omega arith)

pub other_found : (bytes rest here more : List ℕ) (events : List Event) → AreRead bytes rest events → lines_of rest ≡ here ∷ lines_of more
    → ((event : Event) → IsWritten event → line event ≡ here → ⊥) → IsFirstOther (lines_of bytes) (length events + 1)
other_found bytes rest here more events read cut none =
    record {
      events = events;
      written = read.written;
      other = here;
      more = lines_of more;
      split = read.lines ∙ ap (λ lines. map line events ++ lines) cut;
      place = refl;
      none = none;
    }

len_map : (events : List Event) (lines : List (List ℕ)) → length (map line events ++ lines) ≡ length events + length lines
len_map [] lines = omega arith
len_map (e ∷ events) lines = omega (arith, len_map events lines)

pub too_long : (bytes rest here more : List ℕ) (events : List Event) (most : ℕ) → AreRead bytes rest events → lines_of rest ≡ here ∷ lines_of more
    → most ≤ length events → most < length (lines_of bytes)
too_long bytes rest here more events most read cut many =
    let all = ap length read.lines in
    let left = ap length cut in
    omega (arith, all, left, len_map events (lines_of rest), many)

pub few_more : (events : List Event) (event : Event) (count most : ℕ) → count ≡ length events → count < most → length (events ++ event ∷ []) ≤ most
few_more events event count most is below = omega (arith, length-append events (event ∷ []))
