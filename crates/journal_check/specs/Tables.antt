-- What the tables of an audit keep of the lines before (own). No public clause speaks of this: it serves the contracts of the crate's own functions.
use Rattle.std.specs.Prelude.{◌≡◌, ℕ, ◌<◌, Bool, true, false, ◌&&◌, nat_eq, nat_le, List, [], ◌∷◌, Option, Some, None, unwrap_or, find, bytes_eq}
use Rattle.std.specs.List.{list_any, range_with_len}
use Rattle.std.specs.Map.{lookup}
use Rattle.indexmap.specs.IndexMap.{get}
use Rattle.rp_base.specs.Texts.{padded_name, text_before_zero}
use Rattle.rp_base.specs.declared.kinds.End.{End}
use Rattle.rp_base.specs.declared.kinds.End.TheVariants as side
use Rattle.rp_base.specs.declared.kinds.Endpoint.{Endpoint}
use Rattle.journal_check.specs.declared.books.Book.{Book}
use Rattle.journal_check.specs.declared.marks.What.{What}
use Rattle.journal_check.specs.declared.marks.What.TheVariants as what
use Rattle.journal_check.specs.declared.readings.Reading.{Reading}
use Rattle.journal_check.specs.declared.records.Record.{Record}
use Rattle.journal_check.specs.declared.sides.Side.{Side}
use Rattle.journal_check.specs.Marks.{past_of}
use Rattle.journal_check.specs.Entries.{Place, Entry, is_core, incarnation, has_closed, end_told, last_of, lines_at}
use Rattle.journal_check.specs.Readings.{IsReading}
use Rattle.journal_check.specs.Rules.{least_rule, breaks, is_sent, is_took, is_sent_from, is_took_from, is_named_from, last_binding}

-- whether the greatest of some numbers is k or more
abbrev pub is_reached : ℕ → Option ℕ → Bool
is_reached k None = false
is_reached k (Some most) = nat_le k most

-- what was at a place, as it is kept
pub record IsSide (here : List Entry) (kept : Side) : Type 0 where
  pub sent : (k : ℕ) → list_any (λ entry. is_sent_from k entry.line) here ≡ is_reached k kept.sent
  pub took : (k : ℕ) → list_any (λ entry. is_took_from k entry.line) here ≡ is_reached k kept.took
  pub late_sent : list_any (λ entry. is_sent entry.line && entry.is_closed) here ≡ kept.has_late_sent
  pub late_took : list_any (λ entry. is_took entry.line && entry.is_closed) here ≡ kept.has_late_took
  pub generation : (k : ℕ) → list_any (λ entry. is_named_from k entry.line) here ≡ is_reached k kept.generation
  pub bindings : (address : ℕ) → get nat_eq kept.bindings address ≡ last_binding address here

-- the line by which an endpoint is bound, or unbound
abbrev pub binding_line : Bool → ℕ → Endpoint → What
binding_line true caller endpoint = what.Bound caller endpoint
binding_line false caller endpoint = what.Unbound caller endpoint

-- the incarnation of a name, or 0 where it has had none
abbrev pub inc_of : List What → ℕ
inc_of past = unwrap_or (incarnation past) 0

abbrev pub place_in : ℕ → End → Place
place_in inc end = record { inc = inc; end = end }

-- nothing was said of an incarnation yet
pub record IsUnused (inc : ℕ) (past : List What) : Type 0 where
  pub closed : has_closed inc past ≡ false
  pub lines : (end : End) → lines_at (place_in inc end) past ≡ []

-- what lines say of a name, as it is kept
pub record IsRecord (past : List What) (kept : Record) : Type 0 where
  pub core : is_core past ≡ kept.is_core
  pub inc : incarnation past ≡ kept.incarnation
  pub closed : has_closed (inc_of past) past ≡ kept.is_closed
  pub callers : (caller : ℕ) → get nat_eq kept.callers caller ≡ last_of (end_told caller) past
  pub host : IsSide (lines_at (place_in (inc_of past) side.Host) past) kept.host
  pub remote : IsSide (lines_at (place_in (inc_of past) side.Remote) past) kept.remote
  pub unused : (inc : ℕ) → inc_of past < inc → IsUnused inc past

-- the least rule but the first that a line of a name breaks
abbrev pub least_of : What → List What → Option ℕ
least_of line past = find (λ rule. breaks rule line past) (range_with_len 2 9)

-- a name that has a record has what it keeps, and one that has none was never told of
abbrev pub IsRecordOf : List What → Option Record → Type 0
IsRecordOf past None = past ≡ []
IsRecordOf past (Some kept) = IsRecord past kept

abbrev pub is_same_name : List ℕ → List ℕ → Bool
is_same_name one other = bytes_eq (padded_name one) (padded_name other)

-- what lines say of every name, as it is kept
abbrev pub AreRecords : List Reading → List (List ℕ × Record) → Type 0
AreRecords before records = (name : List ℕ) → text_before_zero name ≡ name → IsRecordOf (past_of name before) (lookup (is_same_name name) records)

abbrev pub IsBook : List Reading → Book → Type 0
IsBook before book = AreRecords before book.records.entries

-- what became of a line: the least rule that it breaks, and what is kept where it breaks none
pub record Judges (is_last : Bool) (bytes : List ℕ) (before : List Reading) (answer : Option ℕ) (book : Book) : Type 0 where
  pub now : Reading
  pub read : IsReading bytes now
  pub rule : answer ≡ least_rule is_last now before
  pub kept : answer ≡ None → IsBook (now ∷ before) book
