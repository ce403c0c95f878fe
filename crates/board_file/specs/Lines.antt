-- What a line of a board file says of a board (own).
use Rattle.std.specs.Prelude.{ℕ, ◌==◌, not, if◌then◌else◌, List, [], ◌∷◌, ◌++◌, length, drop, take, Option, Some, None, Result, Ok, Err, bytes_eq, codes, is_some}
use Rattle.word_kinds.specs.Kinds.{is_of}
use Rattle.word_kinds.specs.Places.{word_at, number_at, region_kind_at}
use Rattle.word_kinds.specs.Spellings.{words_of}
use Rattle.word_kinds.specs.declared.kinds.Kind.TheVariants as kind
use Rattle.script_lang.specs.Lines.{is_skipped}
use Rattle.memory_pool.specs.Placements.{then_ok}
use Rattle.memory_pool.specs.declared.regions.Region.{Region}
use Rattle.board_file.specs.declared.boards.Alias.{Alias}
use Rattle.board_file.specs.declared.troubles.Trouble.{Trouble}
use Rattle.board_file.specs.declared.troubles.Why.TheVariants as why
use Rattle.board_file.specs.Boards.{BoardSaid, trouble, region_trouble, alias_trouble}
use Rattle.board_file.specs.Machines.{machine_of}

-- a text without the spaces at its start
abbrev pub without_spaces : List ℕ → List ℕ
without_spaces [] = []
without_spaces (byte ∷ more) = if byte == 32 then without_spaces more else byte ∷ more

-- what follows the word `name` on a line
abbrev pub name_text : List ℕ → List ℕ
name_text line = without_spaces (drop 4 (without_spaces line))

-- the number in a place
abbrev pub number_in : List (List ℕ) → ℕ → Result ℕ Trouble
number_in words place = if is_of kind.Number (word_at words place) then Ok (number_at words place) else Err (trouble place why.Number)

-- the region of a line `region KIND DA PA LEN`
abbrev pub region_in : List (List ℕ) → Result Region Trouble
region_in words =
    if not (length words == 5) then Err (trouble 0 why.Words)
    else (if not (is_of kind.RegionKind (word_at words 1)) then Err (trouble 1 why.RegionKind)
    else then_ok (λ da. then_ok (λ pa. then_ok (λ len. Ok (record { kind = region_kind_at words 1; da = da; pa = pa; len = len }))
    (number_in words 4)) (number_in words 3)) (number_in words 2))

-- the alias of a line `alias DA LEN TO`
abbrev pub alias_in : List (List ℕ) → Result Alias Trouble
alias_in words =
    if not (length words == 4) then Err (trouble 0 why.Words)
    else then_ok (λ da. then_ok (λ len. then_ok (λ to. Ok (record { da = da; len = len; to = to }))
    (number_in words 3)) (number_in words 2)) (number_in words 1)

-- a value where nothing is wrong
abbrev pub unless : {A : Type 0} → Option Trouble → A → Result A Trouble
unless None value = Ok value
unless (Some wrong) value = Err wrong

-- a board with a region more, or with an alias more
abbrev pub with_region : BoardSaid → Region → Result BoardSaid Trouble
with_region board region = unless (region_trouble board region) (record board { regions = board.regions ++ region ∷ [] })

abbrev pub with_alias : BoardSaid → Alias → Result BoardSaid Trouble
with_alias board alias = unless (alias_trouble board alias) (record board { aliases = board.aliases ++ alias ∷ [] })

-- a board with a name, which it hasn't yet
abbrev pub with_name : BoardSaid → List ℕ → List (List ℕ) → Result BoardSaid Trouble
with_name board line words =
    if length words == 1 then Err (trouble 0 why.Words)
    else (if not (length board.name == 0) then Err (trouble 0 why.Repeated)
    else Ok (record board { name = name_text line }))

-- a board with the machine that a word says
abbrev pub machine_or_trouble : BoardSaid → Option ℕ → Result BoardSaid Trouble
machine_or_trouble board None = Err (trouble 1 why.Machine)
machine_or_trouble board (Some machine) = Ok (record board { machine = Some machine })

abbrev pub with_machine : BoardSaid → List (List ℕ) → Result BoardSaid Trouble
with_machine board words =
    if not (length words == 2) then Err (trouble 0 why.Words)
    else (if is_some board.machine then Err (trouble 0 why.Repeated)
    else machine_or_trouble board (machine_of (word_at words 1)))

-- a board after a line of these words that says something
abbrev pub keyword_step : BoardSaid → List ℕ → List (List ℕ) → Result BoardSaid Trouble
keyword_step board line words =
    if bytes_eq (word_at words 0) (codes "region") then then_ok (with_region board) (region_in words)
    else (if bytes_eq (word_at words 0) (codes "alias") then then_ok (with_alias board) (alias_in words)
    else (if bytes_eq (word_at words 0) (codes "name") then with_name board line words
    else (if bytes_eq (word_at words 0) (codes "machine") then with_machine board words
    else Err (trouble 0 why.Keyword))))

-- a board after a line of these words, of which the first nine are read
abbrev pub words_step : BoardSaid → List ℕ → List (List ℕ) → Result BoardSaid Trouble
words_step board line words = if is_skipped words then Ok board else keyword_step board line words

abbrev pub line_step : BoardSaid → List ℕ → Result BoardSaid Trouble
line_step board line = words_step board line (take 9 (words_of line))
