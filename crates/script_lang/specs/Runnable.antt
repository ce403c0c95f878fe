-- The ranges of the numbers of commands (own).
use Rattle.std.specs.Prelude.{ℕ, ◌<◌, ◌≤◌, List, [], ◌∷◌, length}
use Rattle.rp_base.specs.Limits.{IsRingSize}
use Rattle.rp_base.specs.declared.limits.TheConstants.{BOOK_MOST, CALLERS_MOST, MESSAGE_MOST, NAME_MOST, STEPS_MOST}
use Rattle.script_lang.specs.declared.commands.Command.{Command}
use Rattle.script_lang.specs.declared.commands.Command.TheVariants as command
use Rattle.script_lang.specs.declared.recipes.RecipeLine.{RecipeLine}
use Rattle.script_lang.specs.declared.recipes.RecipeLine.TheVariants as recipe

-- the number of a lane
abbrev pub IsLane : ℕ → Type 0
IsLane number = number ≤ 1

-- the number of a caller
abbrev pub IsCaller : ℕ → Type 0
IsCaller number = number < CALLERS_MOST

-- a number of 32 bits
abbrev pub IsNumber : ℕ → Type 0
IsNumber number = number ≤ 4294967295

-- the payload of a script, which may be longer than one that fits a buffer
abbrev pub IsPayload : List ℕ → Type 0
IsPayload payload = length payload ≤ MESSAGE_MOST

-- a count of steps or turns
abbrev pub IsCount : ℕ → Type 0
IsCount count = (1 ≤ count) × (count ≤ STEPS_MOST)

-- how many bytes of memory are shown
abbrev pub IsLength : ℕ → Type 0
IsLength length = (1 ≤ length) × (length ≤ 256)

-- the length that a worker's record names
abbrev pub IsRecordLength : ℕ → Type 0
IsRecordLength length = length ≤ 65535

-- the messages that a lane accepts
abbrev pub IsBook : ℕ → Type 0
IsBook book = (1 ≤ book) × (book ≤ BOOK_MOST)

-- the bytes of a name
abbrev pub IsShort : List ℕ → Type 0
IsShort name = length name ≤ NAME_MOST

-- a recipe line whose numbers are of 32 bits
abbrev pub IsLine : RecipeLine → Type 0
IsLine (recipe.Entry da) = IsNumber da
IsLine (recipe.Load da bytes memory_len) = IsNumber da × IsPayload bytes × IsNumber memory_len
IsLine (recipe.Table da) = IsNumber da
IsLine (recipe.Carveout da len name) = IsNumber da × IsNumber len × IsShort name
IsLine (recipe.Devmem da pa len name) = IsNumber da × IsNumber pa × IsNumber len × IsShort name
IsLine (recipe.Trace da len name) = IsNumber da × IsNumber len × IsShort name
IsLine (recipe.Vdev id features) = IsNumber id × IsNumber features
IsLine (recipe.Vring da align entries) = IsNumber da × IsNumber align × IsNumber entries
IsLine (recipe.Vendor type) = IsNumber type
IsLine (recipe.Code da) = IsNumber da
IsLine recipe.Halt = Unit {0}
IsLine (recipe.Announce address flags da) = IsNumber address × IsNumber flags × IsNumber da
IsLine (recipe.Bind address) = IsNumber address
IsLine (recipe.Send source destination da len) = IsNumber source × IsNumber destination × IsNumber da × IsRecordLength len
IsLine (recipe.Raw da len) = IsNumber da × IsRecordLength len
IsLine recipe.Take = Unit {0}
IsLine (recipe.Log to from len) = IsNumber to × IsNumber from × IsRecordLength len
IsLine (recipe.Crash kind) = IsNumber kind
IsLine (recipe.Loop times target) = IsNumber times × IsNumber target

-- a recipe of such lines
abbrev pub IsRecipe : List RecipeLine → Type 0
IsRecipe [] = Unit {0}
IsRecipe (first ∷ more) = IsLine first × IsRecipe more

-- a command whose numbers are within what the machine takes
abbrev pub IsRunnable : Command → Type 0
IsRunnable (command.Link name to_host to_remote book) = IsRingSize to_host × IsRingSize to_remote × IsBook book
IsRunnable (command.NsLink name to_host to_remote book) = IsRingSize to_host × IsRingSize to_remote × IsBook book
IsRunnable (command.Caller name end) = Unit {0}
IsRunnable (command.Send name caller src dst payload) = IsCaller caller × IsNumber src × IsNumber dst × IsPayload payload
IsRunnable (command.Raw name caller message) = IsCaller caller × IsPayload message
IsRunnable (command.Take name caller) = IsCaller caller
IsRunnable (command.Give name caller number) = IsCaller caller × IsNumber number
IsRunnable (command.Bind name caller address) = IsCaller caller × IsNumber address
IsRunnable (command.Unbind name caller address) = IsCaller caller × IsNumber address
IsRunnable (command.BeginSend name caller src dst payload) = IsCaller caller × IsNumber src × IsNumber dst × IsPayload payload
IsRunnable (command.BeginRaw name caller message) = IsCaller caller × IsPayload message
IsRunnable (command.BeginTake name caller) = IsCaller caller
IsRunnable (command.BeginGive name caller number) = IsCaller caller × IsNumber number
IsRunnable (command.BeginBind name caller address) = IsCaller caller × IsNumber address
IsRunnable (command.BeginUnbind name caller address) = IsCaller caller × IsNumber address
IsRunnable (command.Step name caller count) = IsCaller caller × IsCount count
IsRunnable (command.Finish name caller) = IsCaller caller
IsRunnable (command.Pump name sender receiver count) = IsCaller sender × IsCaller receiver × IsCount count
IsRunnable (command.Books name) = Unit {0}
IsRunnable (command.Ring name lane) = IsLane lane
IsRunnable (command.Channels name) = Unit {0}
IsRunnable (command.Close name) = Unit {0}
IsRunnable (command.Reclaim name caller) = IsCaller caller
IsRunnable (command.Reopen name) = Unit {0}
IsRunnable (command.Core name regions book) = IsBook book
IsRunnable (command.Region name kind da pa len) = IsNumber da × IsNumber pa × IsNumber len
IsRunnable (command.Boot name image) = Unit {0}
IsRunnable (command.Handover name image) = Unit {0}
IsRunnable (command.Shutdown name) = Unit {0}
IsRunnable (command.Detach name) = Unit {0}
IsRunnable (command.State name) = Unit {0}
IsRunnable (command.Table name) = Unit {0}
IsRunnable (command.Trace name index) = IsNumber index
IsRunnable (command.Mem name da len) = IsNumber da × IsLength len
IsRunnable (command.Crash name kind) = Unit {0}
IsRunnable (command.Recover name) = Unit {0}
IsRunnable (command.Recovery name switch) = Unit {0}
IsRunnable (command.Driver name channel kind) = Unit {0}
IsRunnable (command.Drive name count) = IsCount count
IsRunnable (command.Dump name image) = Unit {0}
IsRunnable (command.Quiet switch) = Unit {0}
IsRunnable (command.Image name lines) = IsRecipe lines

-- a list of such commands
abbrev pub AreRunnable : List Command → Type 0
AreRunnable [] = Unit {0}
AreRunnable (first ∷ more) = IsRunnable first × AreRunnable more
