-- The forms of the commands of cores: the words of each, and the command that they say (own).
use Rattle.std.specs.Prelude.{ℕ, if◌then◌else◌, List, [], ◌∷◌, bytes_eq, codes}
use Rattle.word_kinds.specs.declared.kinds.Kind.{Kind}
use Rattle.word_kinds.specs.declared.kinds.Kind.TheVariants as kind
use Rattle.word_kinds.specs.Places.{word_at, name_at, number_at, region_kind_at, crash_kind_at}
use Rattle.word_kinds.specs.Readings.{driver_read, switch_read}
use Rattle.script_lang.specs.declared.commands.Command.{Command}
use Rattle.script_lang.specs.declared.commands.Command.TheVariants as command
use Rattle.script_lang.specs.declared.commands.RegionSet.{RegionSet}
use Rattle.script_lang.specs.declared.commands.RegionSet.TheVariants as regions
use Rattle.script_lang.specs.declared.core_forms.CoreForm.{CoreForm}
use Rattle.script_lang.specs.declared.core_forms.CoreForm.TheVariants as core

-- the first word of a form
abbrev pub core_keyword : CoreForm → List ℕ
core_keyword core.Core = codes "core"
core_keyword core.Region = codes "region"
core_keyword core.Boot = codes "boot"
core_keyword core.Handover = codes "handover"
core_keyword core.Shutdown = codes "shutdown"
core_keyword core.Detach = codes "detach"
core_keyword core.State = codes "state"
core_keyword core.Table = codes "table"
core_keyword core.Trace = codes "trace"
core_keyword core.Mem = codes "mem"
core_keyword core.Crash = codes "crash"
core_keyword core.Recover = codes "recover"
core_keyword core.Recovery = codes "recovery"
core_keyword core.Driver = codes "driver"
core_keyword core.Drive = codes "drive"
core_keyword core.Dump = codes "dump"

-- the kinds of all words of a form
abbrev pub core_kinds : CoreForm → List Kind
core_kinds core.Core = kind.Keyword ∷ kind.Name ∷ kind.RegionSet ∷ kind.Book ∷ []
core_kinds core.Region = kind.Keyword ∷ kind.Name ∷ kind.RegionKind ∷ kind.Number ∷ kind.Number ∷ kind.Number ∷ []
core_kinds core.Boot = kind.Keyword ∷ kind.Name ∷ kind.Name ∷ []
core_kinds core.Handover = kind.Keyword ∷ kind.Name ∷ kind.Name ∷ []
core_kinds core.Shutdown = kind.Keyword ∷ kind.Name ∷ []
core_kinds core.Detach = kind.Keyword ∷ kind.Name ∷ []
core_kinds core.State = kind.Keyword ∷ kind.Name ∷ []
core_kinds core.Table = kind.Keyword ∷ kind.Name ∷ []
core_kinds core.Trace = kind.Keyword ∷ kind.Name ∷ kind.Number ∷ []
core_kinds core.Mem = kind.Keyword ∷ kind.Name ∷ kind.Number ∷ kind.Length ∷ []
core_kinds core.Crash = kind.Keyword ∷ kind.Name ∷ kind.CrashKind ∷ []
core_kinds core.Recover = kind.Keyword ∷ kind.Name ∷ []
core_kinds core.Recovery = kind.Keyword ∷ kind.Name ∷ kind.Switch ∷ []
core_kinds core.Driver = kind.Keyword ∷ kind.Name ∷ kind.Name ∷ kind.DriverKind ∷ []
core_kinds core.Drive = kind.Keyword ∷ kind.Name ∷ kind.Count ∷ []
core_kinds core.Dump = kind.Keyword ∷ kind.Name ∷ kind.Name ∷ []

-- the set of regions in a place
abbrev pub region_set_at : List (List ℕ) → ℕ → RegionSet
region_set_at words place = if bytes_eq (word_at words place) (codes "std") then regions.Standard else regions.Bare

-- the command of a form that the words say, each in its place
abbrev pub core_command : CoreForm → List (List ℕ) → Command
core_command core.Core w = command.Core (name_at w 1) (region_set_at w 2) (number_at w 3)
core_command core.Region w = command.Region (name_at w 1) (region_kind_at w 2) (number_at w 3) (number_at w 4) (number_at w 5)
core_command core.Boot w = command.Boot (name_at w 1) (name_at w 2)
core_command core.Handover w = command.Handover (name_at w 1) (name_at w 2)
core_command core.Shutdown w = command.Shutdown (name_at w 1)
core_command core.Detach w = command.Detach (name_at w 1)
core_command core.State w = command.State (name_at w 1)
core_command core.Table w = command.Table (name_at w 1)
core_command core.Trace w = command.Trace (name_at w 1) (number_at w 2)
core_command core.Mem w = command.Mem (name_at w 1) (number_at w 2) (number_at w 3)
core_command core.Crash w = command.Crash (name_at w 1) (crash_kind_at w 2)
core_command core.Recover w = command.Recover (name_at w 1)
core_command core.Recovery w = command.Recovery (name_at w 1) (switch_read (word_at w 2))
core_command core.Driver w = command.Driver (name_at w 1) (name_at w 2) (driver_read (word_at w 3))
core_command core.Drive w = command.Drive (name_at w 1) (number_at w 2)
core_command core.Dump w = command.Dump (name_at w 1) (name_at w 2)
