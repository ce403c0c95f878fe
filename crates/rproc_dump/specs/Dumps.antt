-- What rproc-dump is asked for, what it writes, and how it ends (own).
use Rattle.std.specs.Prelude.{◌≡◌, ℕ, zero, suc, ◌∷◌, List, [], Bool, true, false, Option, Some, None, bytes_eq, codes, if◌then◌else◌}
use Rattle.std.specs.Io.KnownBytes.{Appends}
use Rattle.rp_io.specs.Causes.{Rose}
use Rattle.rp_io.specs.Contents.{AppendsFront}
use Rattle.word_kinds.specs.Spellings.{is_name}
use Rattle.command_run.specs.CoreLives.{image_bytes}
use Rattle.command_run.specs.Runs.{ObjectsState}
use Rattle.program_status.specs.Statuses.{status_of}
use Rattle.script_run.specs.Outputs.{run}
use Rattle.script_run.specs.Endings.{Devices}
use Rattle.script_run.specs.Programs.{ProgramEnds}
use Rattle.rproc_dump.specs.declared.endings.Ending.{Ending}
use Rattle.rproc_dump.specs.declared.endings.Ending.TheVariants as ending
use Rattle.rproc_dump.specs.declared.wishes.Wish.{Wish}

-- the number with which the process ends
abbrev pub ending_number : Ending → ℕ
ending_number ending.Written = 0
ending_number ending.Usage = 2
ending_number ending.WriteFault = 4
ending_number ending.NoMemory = 5
ending_number ending.NoImage = 9
ending_number (ending.NotRun status) = 10

-- the name of the image that is to be written, and whether the transcript is not
pub record DumpWish : Type 0 where
  pub is_quiet : Bool
  pub name : List ℕ

-- what is asked for, as code tells it
abbrev pub wish_view : Wish → DumpWish
wish_view wish = record { is_quiet = wish.is_quiet; name = wish.name.now }

-- the image of a word, where it is a name
abbrev pub named_wish : Bool → List ℕ → Option DumpWish
named_wish is_quiet name = if is_name name then Some (record { is_quiet = is_quiet; name = name }) else None

-- what the words after the program's name ask for: NAME, or -q NAME
abbrev pub wish_of : List (List ℕ) → Option DumpWish
wish_of [] = None
wish_of (name ∷ []) = named_wish false name
wish_of (option ∷ name ∷ []) = if bytes_eq option (codes "-q") then named_wish true name else None
wish_of (option ∷ name ∷ third ∷ more) = None

-- the devices of a run whose transcript is written, or else goes to a sink that tells nothing and never fails
abbrev pub heard : Bool → Devices → Devices
heard false at = at
heard true at = record at { written = None; sink_faults = 0 }

-- how the program ends after a run that ended with 0, by the image that it left under the name: all its bytes are written, or a prefix of them where the sink fails, or nothing where there is none
abbrev pub IsImageEnding : Ending → Option (List ℕ) → Option (List ℕ) → Option (List ℕ) → ℕ → ℕ → Type 0
IsImageEnding ending.Written image old new before now = (bytes : List ℕ) × (image ≡ Some bytes) × Appends old new bytes × (now ≡ before)
IsImageEnding ending.WriteFault image old new before now = (bytes : List ℕ) × (image ≡ Some bytes) × AppendsFront old new bytes × Rose before now
IsImageEnding ending.NoImage image old new before now = (image ≡ None) × (new ≡ old) × (now ≡ before)
IsImageEnding ended image old new before now = ⊥

-- how it ends after a run that ended with this number: after another one than 0 nothing is written
abbrev pub IsEnding : ℕ → Ending → Option (List ℕ) → Option (List ℕ) → Option (List ℕ) → ℕ → ℕ → Type 0
IsEnding zero ended image old new before now = IsImageEnding ended image old new before now
IsEnding (suc more) ended image old new before now = (ended ≡ ending.NotRun (suc more)) × (new ≡ old) × (now ≡ before)

-- a script is run, its transcript written, and then the image that the run left under the name
pub record ImageEnds (ended : Ending) (wish : DumpWish) (before now : Devices) (yard left : ObjectsState) (old new : Option (List ℕ)) (was after : ℕ) : Type 0 where
  pub status : ℕ
  pub run_ends : ProgramEnds (status_of status) run (heard wish.is_quiet before) (heard wish.is_quiet now) yard left
  pub quiet : wish.is_quiet ≡ true → (now.written ≡ before.written) × (now.sink_faults ≡ before.sink_faults)
  pub image : IsEnding status ended (image_bytes left.images wish.name) old new was after

-- what the words ask for is done; where they ask for nothing, nothing is
abbrev pub DumpEnds : Ending → Option DumpWish → Devices → Devices → ObjectsState → ObjectsState → Option (List ℕ) → Option (List ℕ) → ℕ → ℕ → Type 0
DumpEnds ended None before now yard left old new was after = (ended ≡ ending.Usage) × (now ≡ before) × (left ≡ yard) × (new ≡ old) × (after ≡ was)
DumpEnds ended (Some wish) before now yard left old new was after = ImageEnds ended wish before now yard left old new was after
