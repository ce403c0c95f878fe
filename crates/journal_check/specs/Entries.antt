-- Where a line of a link or a core is: on which end and in which incarnation (own). `past` is what the earlier lines of the same name
-- say, the newest first.
use Rattle.std.specs.Prelude.{ℕ, Bool, true, false, ◌==◌, ◌&&◌, if◌then◌else◌, List, [], ◌∷◌, Option, Some, None, filter, option_and_then}
use Rattle.std.specs.List.{list_any}
use Rattle.std.specs.Option.{option_or, option_map_or}
use Rattle.rp_base.specs.declared.kinds.End.{End}
use Rattle.rp_base.specs.declared.kinds.End.TheVariants as side
use Rattle.journal_check.specs.declared.marks.What.{What}
use Rattle.journal_check.specs.declared.marks.What.TheVariants as what

-- what the last line says of those that say something
abbrev pub last_of : {A X : Type 0} → (A → Option X) → List A → Option X
last_of tells [] = None
last_of tells (line ∷ past) = option_or (tells line) (last_of tells past)

-- a name is a core's from a line on that says so
abbrev pub says_core : What → Bool
says_core what.Core = true
says_core other = false

abbrev pub is_core : List What → Bool
is_core past = list_any says_core past

-- the incarnation is that of the last line by which one began
abbrev pub opened : What → Option ℕ
opened (what.Opens inc) = Some inc
opened other = None

abbrev pub incarnation : List What → Option ℕ
incarnation past = last_of opened past

-- an incarnation that a line has closed
abbrev pub closes : ℕ → What → Bool
closes inc (what.Closes other) = other == inc
closes inc other = false

abbrev pub has_closed : ℕ → List What → Bool
has_closed inc past = list_any (closes inc) past

abbrev pub is_closed : List What → Bool
is_closed past = option_map_or (λ inc. has_closed inc past) (incarnation past) false

-- the end of a caller is that of its last line `caller`; the callers 0 and 1 of a core are the host and the remote
abbrev pub end_told : ℕ → What → Option End
end_told caller (what.Caller other end) = if other == caller then Some end else None
end_told caller other = None

abbrev pub end_of : ℕ → List What → Option End
end_of caller past =
    if is_core past && caller == 0 then Some side.Host
    else (if is_core past && caller == 1 then Some side.Remote else last_of (end_told caller) past)

-- an end of a link in an incarnation. An end sends on one lane and takes on the other, so lines of one kind that share a place share
-- their lane and incarnation
pub record Place : Type 0 where
  pub inc : ℕ
  pub end : End

abbrev pub place_from : Option ℕ → Option End → Option Place
place_from (Some inc) (Some end) = Some (record { inc = inc; end = end })
place_from inc end = None

-- the caller whose call a line ends, where the rules ask for its place
abbrev pub caller_of : What → Option ℕ
caller_of (what.Sent c k) = Some c
caller_of (what.Took c k fate) = Some c
caller_of (what.Bound c endpoint) = Some c
caller_of (what.Unbound c endpoint) = Some c
caller_of other = None

abbrev pub place_of : What → List What → Option Place
place_of line past = option_and_then (λ c. place_from (incarnation past) (end_of c past)) (caller_of line)

-- a line, where it is, and whether its incarnation was closed before
pub record Entry : Type 0 where
  pub line : What
  pub place : Option Place
  pub is_closed : Bool

abbrev pub entry_of : What → List What → Entry
entry_of line past = record { line = line; place = place_of line past; is_closed = is_closed past }

abbrev pub entries : List What → List Entry
entries [] = []
entries (line ∷ past) = entry_of line past ∷ entries past

abbrev pub is_same_end : End → End → Bool
is_same_end side.Host side.Host = true
is_same_end side.Remote side.Remote = true
is_same_end one other = false

abbrev pub is_same_place : Place → Place → Bool
is_same_place one other = one.inc == other.inc && is_same_end one.end other.end

-- the lines at a place
abbrev pub stands_at : Place → Entry → Bool
stands_at place entry = option_map_or (is_same_place place) entry.place false

abbrev pub lines_at : Place → List What → List Entry
lines_at place past = filter (stands_at place) (entries past)
