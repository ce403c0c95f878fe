-- The script of a demo, its text and the commands that it says: sessions of the sample client, each with a core, an image and a length
-- of its replies (own).
use Rattle.std.specs.Prelude.{ℕ, ◌+◌, ◌*◌, ◌%◌, ◌==◌, nat_lt, if◌then◌else◌, List, [], ◌∷◌, ◌++◌, codes, zero, suc, replicate}
use Rattle.std.specs.Fmt.{decimal}
use Rattle.std.specs.List.{flat_map, join_with_byte}
use Rattle.rp_base.specs.declared.kinds.DriverKind.TheVariants as driver
use Rattle.rp_base.specs.declared.kinds.Switch.TheVariants as switch
use Rattle.script_lang.specs.declared.commands.Command.{Command}
use Rattle.script_lang.specs.declared.commands.Command.TheVariants as command
use Rattle.script_lang.specs.declared.commands.RegionSet.TheVariants as regions
use Rattle.script_lang.specs.declared.recipes.RecipeLine.{RecipeLine}
use Rattle.script_lang.specs.declared.recipes.RecipeLine.TheVariants as recipe

-- the number after x in the sequence of pseudo-random numbers (the factor and the summand are those of ISO C's example of rand; the modulus
-- is own)
abbrev pub next_number : ℕ → ℕ
next_number x = (x * 1103515245 + 12345) % 2147483648

-- the number of a place in the sequence that begins with `seed`
abbrev pub number_at : ℕ → ℕ → ℕ
number_at seed zero = seed
number_at seed (suc place) = next_number (number_at seed place)

-- how many bytes a number says that a reply has
abbrev pub reply_length : ℕ → ℕ
reply_length number = number % 497

-- the name of the channel and its driver
abbrev pub sample_channel : List ℕ
sample_channel = codes "rpmsg-client-sample"

-- the core of a session, one of eight
abbrev pub session_core : ℕ → List ℕ
session_core session = 99 ∷ (48 + session % 8) ∷ []

-- the image of a session: `s` and its number
abbrev pub session_image : ℕ → List ℕ
session_image session = 115 ∷ decimal session

-- a worker that announces its channel and answers a hundred messages, each with so many bytes
abbrev pub worker_lines : ℕ → List RecipeLine
worker_lines reply =
    recipe.Entry 0 ∷ recipe.Code 0 ∷ recipe.Bind 1024 ∷ recipe.Announce 1024 0 512 ∷ recipe.Take
    ∷ recipe.Send 1024 4294967295 1024 reply ∷ recipe.Loop 100 2 ∷ recipe.Halt
    ∷ recipe.Load 512 sample_channel 32 ∷ recipe.Load 1024 (replicate reply 90) 496
    ∷ recipe.Table 768 ∷ recipe.Vdev 7 1 ∷ recipe.Vring 4294967295 4096 16 ∷ recipe.Vring 4294967295 4096 16 ∷ []

-- a core and its driver, with the first session that runs on it
abbrev pub core_commands : ℕ → List Command
core_commands session =
    if nat_lt session 8
    then command.Core (session_core session) regions.Standard 128
    ∷ command.Driver (session_core session) sample_channel driver.Sample ∷ []
    else []

-- a session whose worker replies with so many bytes
abbrev pub session_commands : ℕ → ℕ → List Command
session_commands session reply =
    core_commands session
    ++ command.Image (session_image session) (worker_lines reply)
    ∷ command.Boot (session_core session) (session_image session)
    ∷ command.Drive (session_core session) 100000 ∷ command.Shutdown (session_core session) ∷ []

-- the first so many sessions of a demo
abbrev pub first_sessions : ℕ → ℕ → List Command
first_sessions seed zero = []
first_sessions seed (suc session) =
    first_sessions seed session ++ session_commands session (reply_length (number_at seed (suc session)))

-- the commands of a demo of so many sessions
unfoldable pub demo_commands : ℕ → List Command
demo_commands sessions = command.Quiet switch.On ∷ first_sessions sessions sessions

-- words with a space between two
abbrev pub spaced : List (List ℕ) → List ℕ
spaced words = join_with_byte 32 words

-- so many bytes 0x5a as the word of a payload
abbrev pub reply_word : ℕ → List ℕ
reply_word reply = if reply == 0 then codes "-" else codes "5a*" ++ decimal reply

-- the lines of a core and its driver, with the first session that runs on it
abbrev pub core_lines : ℕ → List (List ℕ)
core_lines session =
    if nat_lt session 8
    then spaced (codes "core" ∷ session_core session ∷ codes "std" ∷ codes "128" ∷ [])
    ∷ spaced (codes "driver" ∷ session_core session ∷ sample_channel ∷ codes "sample" ∷ []) ∷ []
    else []

-- the lines of an image
abbrev pub image_lines : ℕ → ℕ → List (List ℕ)
image_lines session reply =
    spaced (codes "image" ∷ session_image session ∷ [])
    ∷ codes "entry 0" ∷ codes "code 0" ∷ codes "bind 1024" ∷ codes "announce 1024 0 0x200" ∷ codes "take"
    ∷ spaced (codes "send" ∷ codes "1024" ∷ codes "last" ∷ codes "0x400" ∷ decimal reply ∷ [])
    ∷ codes "loop 100 2" ∷ codes "halt" ∷ codes "load 0x200 72706d73672d636c69656e742d73616d706c65 32"
    ∷ spaced (codes "load" ∷ codes "0x400" ∷ reply_word reply ∷ codes "496" ∷ [])
    ∷ codes "table 0x300" ∷ codes "vdev 7 1" ∷ codes "vring any 4096 16" ∷ codes "vring any 4096 16" ∷ codes "end" ∷ []

-- the lines by which a session runs
abbrev pub drive_lines : ℕ → List (List ℕ)
drive_lines session =
    spaced (codes "boot" ∷ session_core session ∷ session_image session ∷ [])
    ∷ spaced (codes "drive" ∷ session_core session ∷ codes "100000" ∷ [])
    ∷ spaced (codes "shutdown" ∷ session_core session ∷ []) ∷ []

-- the lines of a session
abbrev pub session_lines : ℕ → ℕ → List (List ℕ)
session_lines session reply = core_lines session ++ image_lines session reply ++ drive_lines session

-- the lines of the first so many sessions
abbrev pub first_lines : ℕ → ℕ → List (List ℕ)
first_lines seed zero = []
first_lines seed (suc session) = first_lines seed session ++ session_lines session (reply_length (number_at seed (suc session)))

-- lines, each of which ends in a line feed
abbrev pub text_of : List (List ℕ) → List ℕ
text_of lines = flat_map (λ line. line ++ 10 ∷ []) lines

-- the text of a demo of so many sessions
unfoldable pub demo_text : ℕ → List ℕ
demo_text sessions = text_of (codes "quiet on" ∷ first_lines sessions sessions)
