-- The dump of a core as an image of the script (own).
use Rattle.std.specs.Prelude.{ℕ, nat_lt, nat_le, Bool, List, length, Option, Some, None, Result, Ok, Err, if◌then◌else◌}
use Rattle.std.specs.List.{count_by}
use Rattle.rp_base.specs.declared.limits.TheConstants.{IMAGE_MOST}
use Rattle.rp_base.specs.declared.kinds.LifeState.{LifeState}
use Rattle.rp_base.specs.declared.kinds.LifeState.TheVariants.{Crashed}
use Rattle.core_dump.specs.Dumps.{dump_of}
use Rattle.crash_recover.specs.Cores.{CoreState, LoadState}
use Rattle.crash_recover.specs.CoreParts.{core_parts}
use Rattle.journal.specs.declared.events.Event.{Event}
use Rattle.journal.specs.declared.events.Event.TheVariants as event
use Rattle.command_run.specs.declared.dumps.TheConstants.{DUMPS_MOST}
use Rattle.command_run.specs.NamedCores.{NamedCoreState}
use Rattle.command_run.specs.NamedImages.{ImageState}

-- what a crashed core has loaded; another one is not dumped
abbrev pub crashed_load : LifeState → Option LoadState → Option LoadState
crashed_load Crashed loaded = loaded
crashed_load state loaded = None

-- how many of the images of a script are dumps
abbrev pub kept_dumps : List ImageState → ℕ
kept_dumps images = count_by (λ (image : ImageState). image.is_dump) images

-- a dump of these bytes, unless an image has the name that it is to have, it is larger than an image may be, or as many dumps were kept as there may be
abbrev pub bytes_answer : Bool → ℕ → List ℕ → List ℕ → List ℕ → Result (List ℕ) Event
bytes_answer is_taken kept name image bytes =
    if is_taken then Err (event.ImageExists image)
    else (if nat_lt IMAGE_MOST (length bytes) then Err (event.DumpTooLarge name (length bytes))
    else (if nat_le DUMPS_MOST kept then Err (event.DumpsFull name) else Ok bytes))

-- the dump of a core of what it has loaded: its entry, and its blocks of memory
abbrev pub load_answer : Bool → ℕ → List ℕ → List ℕ → CoreState → Option LoadState → Result (List ℕ) Event
load_answer is_taken kept name image core None = Err (event.NotCrashed name)
load_answer is_taken kept name image core (Some load) = bytes_answer is_taken kept name image (dump_of load.entry (core_parts core))

-- the dump of the core of a name, or what is written in its place
abbrev pub core_answer : Bool → ℕ → List ℕ → List ℕ → Option NamedCoreState → Result (List ℕ) Event
core_answer is_taken kept name image None = Err (event.Unknown name)
core_answer is_taken kept name image (Some named) = load_answer is_taken kept name image named.core (crashed_load named.core.life.state named.core.loaded)
