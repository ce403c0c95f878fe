-- What the words of a line say, each by its place (own).
use Rattle.std.specs.Prelude.{ℕ, if◌then◌else◌, List, [], bytes_eq, codes}
use Rattle.std.specs.List.{slice_index_or}
use Rattle.rp_base.specs.declared.kinds.End.{End}
use Rattle.rp_base.specs.declared.kinds.End.TheVariants as side
use Rattle.rp_base.specs.declared.kinds.RegionKind.{RegionKind}
use Rattle.rp_base.specs.declared.kinds.RegionKind.TheVariants as region
use Rattle.rp_base.specs.declared.kinds.CrashKind.{CrashKind}
use Rattle.rp_base.specs.declared.kinds.CrashKind.TheVariants as crash
use Rattle.word_kinds.specs.Spellings.{is_name, number_in}
use Rattle.word_kinds.specs.Payloads.{bytes_in}

-- the word in a place, from 0; an empty one where there is none
abbrev pub word_at : List (List ℕ) → ℕ → List ℕ
word_at words place = slice_index_or words place []

-- the name in a place
abbrev pub name_at : List (List ℕ) → ℕ → List ℕ
name_at words place = if is_name (word_at words place) then word_at words place else []

-- the number in a place
abbrev pub number_at : List (List ℕ) → ℕ → ℕ
number_at words place = number_in (word_at words place)

-- the address in a place: 2^32 - 1 for `any`
abbrev pub address_at : List (List ℕ) → ℕ → ℕ
address_at words place = if bytes_eq (word_at words place) (codes "any") then 4294967295 else number_at words place

-- the destination of a worker's send in a place: 2^32 - 1 for `last`
abbrev pub destination_at : List (List ℕ) → ℕ → ℕ
destination_at words place = if bytes_eq (word_at words place) (codes "last") then 4294967295 else number_at words place

-- the bytes of the payload in a place
abbrev pub bytes_at : List (List ℕ) → ℕ → List ℕ
bytes_at words place = bytes_in (word_at words place)

-- the end in a place
abbrev pub end_at : List (List ℕ) → ℕ → End
end_at words place = if bytes_eq (word_at words place) (codes "host") then side.Host else side.Remote

-- the kind of a region in a place
abbrev pub region_kind_at : List (List ℕ) → ℕ → RegionKind
region_kind_at words place = if bytes_eq (word_at words place) (codes "tcm") then region.Tcm else region.Pool

-- the kind of a crash in a place
abbrev pub crash_kind_at : List (List ℕ) → ℕ → CrashKind
crash_kind_at words place =
    if bytes_eq (word_at words place) (codes "mmufault") then crash.Mmufault
    else (if bytes_eq (word_at words place) (codes "watchdog") then crash.Watchdog else crash.Fatal)
