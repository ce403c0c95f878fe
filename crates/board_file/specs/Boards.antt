-- The memory of a board, and what may be added to it (own).
use Rattle.std.specs.Prelude.{ℕ, ◌+◌, ◌^◌, ◌==◌, nat_lt, nat_le, Bool, ◌||◌, List, [], ◌∷◌, length, All, Option, None}
use Rattle.std.specs.List.{list_any}
use Rattle.rp_base.specs.Faults.{fault_if, first_fault}
use Rattle.memory_pool.specs.Ranges.{meets_region, ranges_meet}
use Rattle.memory_pool.specs.Soundness.{IsRange}
use Rattle.memory_pool.specs.declared.regions.Region.{Region}
use Rattle.board_file.specs.declared.TheConstants.{PARTS_MOST}
use Rattle.board_file.specs.declared.boards.Alias.{Alias}
use Rattle.board_file.specs.declared.troubles.Trouble.{Trouble}
use Rattle.board_file.specs.declared.troubles.Why.{Why}
use Rattle.board_file.specs.declared.troubles.Why.TheVariants as why

-- a board: its name, the machine that it asks for, its regions and its aliases
pub record BoardSaid : Type 0 where
  pub name : List ℕ
  pub machine : Option ℕ
  pub regions : List Region
  pub aliases : List Alias

-- a board of which nothing is said
abbrev pub no_board : BoardSaid
no_board = record { name = []; machine = None; regions = []; aliases = [] }

-- each region isn't empty, and ends within the addresses
abbrev pub AreRanges : List Region → Type 0
AreRanges regions = All (λ region. IsRange region.da region.pa region.len) regions

-- each alias ends within the addresses, and so does what it stands for
abbrev pub AreAliases : List Alias → Type 0
AreAliases aliases = All (λ alias. IsRange alias.da alias.to alias.len) aliases

-- a board within the addresses
pub record SoundBoard (board : BoardSaid) : Type 0 where
  pub regions : AreRanges board.regions
  pub aliases : AreAliases board.aliases

-- the word in a place is wrong
abbrev pub trouble : ℕ → Why → Trouble
trouble place why = record { word = place; why = why }

-- whether a range is empty or ends past the addresses
abbrev pub is_wrong_range : ℕ → ℕ → ℕ → Bool
is_wrong_range da pa len = len == 0 || nat_lt (2 ^ 32) (da + len) || nat_lt (2 ^ 32) (pa + len)

-- whether device addresses meet those of an alias
abbrev pub meets_alias : ℕ → ℕ → Alias → Bool
meets_alias da len alias = ranges_meet da len alias.da alias.len

-- whether device addresses meet those of a region or of an alias
abbrev pub device_meets : BoardSaid → ℕ → ℕ → Bool
device_meets board da len =
    list_any (meets_region da len) board.regions || list_any (meets_alias da len) board.aliases

-- whether physical addresses meet those of a region
abbrev pub physical_meets : BoardSaid → ℕ → ℕ → Bool
physical_meets board pa len = list_any (λ (region : Region). ranges_meet pa len region.pa region.len) board.regions

-- the tests of a region; the places are those of its words
abbrev pub region_trouble : BoardSaid → Region → Option Trouble
region_trouble board region = first_fault
    (fault_if (nat_le PARTS_MOST (length board.regions)) (trouble 0 why.Full)
    ∷ fault_if (is_wrong_range region.da region.pa region.len) (trouble 4 why.Range)
    ∷ fault_if (device_meets board region.da region.len) (trouble 2 why.DeviceMeets)
    ∷ fault_if (physical_meets board region.pa region.len) (trouble 3 why.PhysicalMeets)
    ∷ [])

-- the tests of an alias
abbrev pub alias_trouble : BoardSaid → Alias → Option Trouble
alias_trouble board alias = first_fault
    (fault_if (nat_le PARTS_MOST (length board.aliases)) (trouble 0 why.Full)
    ∷ fault_if (is_wrong_range alias.da alias.to alias.len) (trouble 2 why.Range)
    ∷ fault_if (device_meets board alias.da alias.len) (trouble 1 why.DeviceMeets)
    ∷ [])
