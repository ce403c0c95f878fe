-- What is kept while the entries of a table are tested, one after the other. No public clause speaks of this: it serves the contracts of the crate's own functions.
use Rattle.std.specs.Prelude.{◌≡◌, ℕ, ◌+◌, ◌≤◌, ◌<◌, List, All, length}
use Rattle.std.specs.List.{range_with_len, list_any}
use Rattle.resource_table.specs.declared.TheConstants.{ENTRIES_MOST}
use Rattle.resource_table.specs.Entries.{entry_count, start_of, type_at}
use Rattle.resource_table.specs.Tables.{fixed_size, is_rpmsg, earlier_spans, offsets_end}
use Rattle.resource_table.specs.declared.testing.Earlier.{Earlier}

-- a table whose header has passed its tests (struct resource_table)
pub record IsSoundHeader (bytes : List ℕ) : Type 0 where
  pub size : 16 ≤ length bytes
  pub count : entry_count bytes ≤ ENTRIES_MOST
  pub offsets : offsets_end bytes ≤ length bytes

-- the fixed parts of the first entries lie in the table (own)
abbrev pub HaveFixedParts : List ℕ → ℕ → Type 0
HaveFixedParts bytes count =
    (index : ℕ) → index < count → start_of bytes index + fixed_size (type_at bytes (start_of bytes index)) ≤ length bytes

-- what is known of the entries before the one of a number: whether a device for RPMsg is among them, and an end of their bytes and of the header's (own)
pub record IsEarlier (bytes : List ℕ) (index : ℕ) (earlier : Earlier) : Type 0 where
  pub rpmsg : earlier.has_rpmsg ≡ list_any (is_rpmsg bytes) (range_with_len 0 index)
  pub end : All (λ span. span.to ≤ earlier.end) (earlier_spans bytes index)
  pub fixed : HaveFixedParts bytes index
