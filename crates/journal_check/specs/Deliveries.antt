-- What a sound transcript says of the messages that an endpoint was handed (own). Lists are newest first.
use Rattle.std.specs.Prelude.{◌≡◌, ℕ, ◌<◌, Bool, false, ◌==◌, ◌&&◌, if◌then◌else◌, List, [], ◌∷◌, ◌++◌, length, reverse, Option, Some, None, filter}
use Rattle.std.specs.List.{list_any, filter_map, AllByRecursion}
use Rattle.rp_base.specs.declared.kinds.End.{End}
use Rattle.rp_base.specs.declared.kinds.End.TheVariants as side
use Rattle.rp_base.specs.declared.kinds.Endpoint.{Endpoint}
use Rattle.journal_check.specs.declared.marks.Fate.TheVariants as fate
use Rattle.journal_check.specs.declared.marks.What.{What}
use Rattle.journal_check.specs.declared.marks.What.TheVariants as what
use Rattle.journal_check.specs.declared.readings.Reading.{Reading}
use Rattle.journal_check.specs.Audits.{KeepsRules}
use Rattle.journal_check.specs.Entries.{Entry, lines_at}
use Rattle.journal_check.specs.Marks.{past_of}

-- a message that a caller has a sent line for, of those that were at a place
abbrev pub is_sent_by : ℕ → ℕ → What → Bool
is_sent_by sender k (what.Sent c number) = c == sender && number == k
is_sent_by sender k other = false

abbrev pub has_sent : ℕ → List Entry → ℕ → Bool
has_sent sender there k = list_any (λ entry. is_sent_by sender k entry.line) there

-- the message that a line hands to an endpoint
abbrev pub handed_by : Endpoint → What → Option ℕ
handed_by endpoint (what.Took c k (fate.To other)) = if other.address == endpoint.address && other.generation == endpoint.generation then Some k else None
handed_by endpoint other = None

-- the message that a line hands to any endpoint at an address, or drops there
abbrev pub addressed_by : ℕ → What → Option ℕ
addressed_by address (what.Took c k (fate.To other)) = if other.address == address then Some k else None
addressed_by address (what.Took c k (fate.Dropped other)) = if other == address then Some k else None
addressed_by address other = None

abbrev pub handed_to : Endpoint → List Entry → List ℕ
handed_to endpoint here = filter_map (λ entry. handed_by endpoint entry.line) here

abbrev pub addressed_to : ℕ → List Entry → List ℕ
addressed_to address here = filter_map (λ entry. addressed_by address entry.line) here

-- each number is greater than all that come after it: in the order of the text they ascend, each once
abbrev pub Descends : List ℕ → Type 0
Descends [] = Unit {0}
Descends (k ∷ before) = AllByRecursion (λ number. number < k) before × Descends before

-- the other end of a link
abbrev pub other_end : End → End
other_end side.Host = side.Remote
other_end side.Remote = side.Host

-- what a caller has sent to an endpoint and a place's lines hand it: it ascends, and is what came first of what was addressed to it since
-- it was bound
pub record IsDelivery (handed addressed : List ℕ) : Type 0 where
  pub ascends : Descends handed
  pub rest : List ℕ
  pub first : addressed ≡ rest ++ handed

-- at a place where an endpoint was bound by one of the lines
pub record IsBinding (endpoint : Endpoint) (here later earlier : List Entry) : Type 0 where
  pub caller : ℕ
  pub bound : Entry
  pub parts : here ≡ later ++ bound ∷ earlier
  pub line : bound.line ≡ what.Bound caller endpoint

-- of a text without a line that breaks a rule: of the messages that a caller has sent lines for on the lane that leads to a place, those
-- that are handed to an endpoint that was bound there ascend, and are the first of those that, after its bound line, are to an endpoint at
-- its address or dropped there
abbrev pub HandsInOrder : Type 0
HandsInOrder =
    (readings : List Reading) → KeepsRules (length readings) readings (length readings)
    → (name : List ℕ) (inc : ℕ) (end : End) (sender : ℕ) (endpoint : Endpoint) (later earlier : List Entry)
    → let past = past_of name (reverse readings) in
    let here = lines_at (record { inc = inc; end = end }) past in
    let sent = has_sent sender (lines_at (record { inc = inc; end = other_end end }) past) in
    IsBinding endpoint here later earlier → IsDelivery (filter sent (handed_to endpoint here)) (filter sent (addressed_to endpoint.address later))
