-- The lines of a demo say its commands.
use Rattle.std.proofs.Common.{◌≡◌, ◌∙◌, ◌<◌, ◌≤◌, ◌+◌, ℕ, Bool, true, false, cond, List, [], ◌∷◌, ◌++◌, Option, Some, None, Ok, zero, suc, refl, sym, ap, arith, append_assoc, append-nil, replicate}
use Rattle.std.specs.Prelude.{codes, nat_lt}
use Rattle.std.specs.List.{list_all}
use Rattle.rp_base.specs.declared.kinds.DriverKind.TheVariants as driver
use Rattle.rp_base.specs.declared.kinds.Switch.TheVariants as switch
use Rattle.script_lang.specs.declared.commands.Command.{Command}
use Rattle.script_lang.specs.declared.commands.Command.TheVariants as command
use Rattle.script_lang.specs.declared.commands.RegionSet.TheVariants as regions
use Rattle.script_lang.specs.declared.recipes.RecipeLine.{RecipeLine}
use Rattle.script_lang.specs.declared.recipes.RecipeLine.TheVariants as recipe
use Rattle.script_lang.specs.Steps.{OpenImage}
use Rattle.script_lang.specs.Grammar.{onto, step_and_more, image_behind, commands_from}
use Rattle.word_kinds.proofs.Clean.{both}
use Rattle.image_maker.specs.Demo.{core_commands, core_lines, drive_lines, first_lines, first_sessions, image_lines, number_at, reply_length, reply_word, sample_channel, session_commands, session_core, session_image, session_lines, spaced, worker_lines}
use Rattle.image_maker.proofs.DemoWords.{IsShortName, core_is_name, image_is_name, reply_is}
use Rattle.image_maker.proofs.DemoLines.{IsSaid, is_fine, alone, boot_said, code_image, core_said, drive_said, driver_said, image_said, load_said, plain_image, send_said, shutdown_said, within}

-- fine lines that say these commands, where this image is open before them
pub record Says (image : Option OpenImage) (lines : List (List ℕ)) (commands : List Command) : Type 0 where
  pub at : (number : ℕ) → commands_from number image lines ≡ Ok commands
  pub fine : list_all is_fine lines ≡ true

-- a command before them
command_before : (line : List ℕ) (more : List (List ℕ)) (what : Command) (rest : List Command) → IsSaid None line (alone what) → Says None more rest → Says None (line ∷ more) (what ∷ rest)
command_before line more what rest here says = record {
  at = λ number.
      ap (λ step. step_and_more number step (commands_from (number + 1) (image_behind step) more)) here.is ∙ ap (onto (what ∷ [])) (says.at (number + 1));
  fine = both (is_fine line) (list_all is_fine more) here.fine says.fine;
}

-- a line within an image before them
inside : (image : Option OpenImage) (after : OpenImage) (line : List ℕ) (more : List (List ℕ)) (rest : List Command) → IsSaid image line (within after) → Says (Some after) more rest
    → Says image (line ∷ more) rest
inside image after line more rest here says = record {
  at = λ number.
      ap (λ step. step_and_more number step (commands_from (number + 1) (image_behind step) more)) here.is ∙ ap (onto []) (says.at (number + 1));
  fine = both (is_fine line) (list_all is_fine more) here.fine says.fine;
}

-- a core and its driver
both_say : (core : List ℕ) (more : List (List ℕ)) (rest : List Command) → IsShortName core → Says None more rest
    → Says None (spaced (codes "core" ∷ core ∷ codes "std" ∷ codes "128" ∷ []) ∷ spaced (codes "driver" ∷ core ∷ sample_channel ∷ codes "sample" ∷ []) ∷ more)
    (command.Core core regions.Standard 128 ∷ command.Driver core sample_channel driver.Sample ∷ rest)
both_say core more rest word says = command_before _ _ _ _ (core_said core word) (command_before _ _ _ _ (driver_said core word) says)

core_says : (session : ℕ) (more : List (List ℕ)) (rest : List Command) → Says None more rest → Says None (core_lines session ++ more) (core_commands session ++ rest)
core_says session more rest says = go (nat_lt session 8)
  where
    go : (test : Bool)
        → Says None (cond test (spaced (codes "core" ∷ session_core session ∷ codes "std" ∷ codes "128" ∷ [])
        ∷ spaced (codes "driver" ∷ session_core session ∷ sample_channel ∷ codes "sample" ∷ []) ∷ []) [] ++ more)
        (cond test (command.Core (session_core session) regions.Standard 128 ∷ command.Driver (session_core session) sample_channel driver.Sample ∷ []) [] ++ rest)
    go true = both_say (session_core session) more rest (core_is_name session) says
    go false = says

-- the lines that run a session
drive_says : (session : ℕ) (more : List (List ℕ)) (rest : List Command) → session < 500 → Says None more rest
    → Says None (drive_lines session ++ more)
    (command.Boot (session_core session) (session_image session) ∷ command.Drive (session_core session) 100000 ∷ command.Shutdown (session_core session) ∷ rest)
drive_says session more rest small says =
    let core = session_core session in
    let word = core_is_name session in
    command_before _ _ _ _ (boot_said core (session_image session) word (image_is_name session (omega arith)))
    (command_before _ _ _ _ (drive_said core word) (command_before _ _ _ _ (shutdown_said core word) says))

-- the records of an image before its reply, between the reply's length and its bytes, and the table behind
abbrev begin_records : List RecipeLine
begin_records = recipe.Entry 0 ∷ recipe.Code 0 ∷ recipe.Bind 1024 ∷ recipe.Announce 1024 0 512 ∷ recipe.Take ∷ []

begin_says : (name : List ℕ) (more : List (List ℕ)) (rest : List Command) → Says (Some (code_image name begin_records)) more rest
    → Says (Some (plain_image name [])) (codes "entry 0" ∷ codes "code 0" ∷ codes "bind 1024" ∷ codes "announce 1024 0 0x200" ∷ codes "take" ∷ more) rest
begin_says name more rest says = record {
  at = λ number. ap (λ found. onto [] (onto [] (onto [] (onto [] (onto [] found))))) (says.at (number + 1 + 1 + 1 + 1 + 1));
  fine = says.fine;
}

abbrev sent_records : ℕ → List RecipeLine
sent_records reply = begin_records ++ recipe.Send 1024 4294967295 1024 reply ∷ []

abbrev end_records : ℕ → List RecipeLine
end_records reply = sent_records reply ++ recipe.Loop 100 2 ∷ recipe.Halt ∷ recipe.Load 512 sample_channel 32 ∷ []

end_says : (name : List ℕ) (reply : ℕ) (more : List (List ℕ)) (rest : List Command) → Says (Some (plain_image name (end_records reply))) more rest
    → Says (Some (code_image name (sent_records reply))) (codes "loop 100 2" ∷ codes "halt" ∷ codes "load 0x200 72706d73672d636c69656e742d73616d706c65 32" ∷ more) rest
end_says name reply more rest says = record {
  at = λ number. ap (λ found. onto [] (onto [] (onto [] found))) (says.at (number + 1 + 1 + 1));
  fine = says.fine;
}

table_says : (name : List ℕ) (reply : ℕ) (more : List (List ℕ)) (rest : List Command) → Says None more rest
    → Says (Some (plain_image name (end_records reply ++ recipe.Load 1024 (replicate reply 90) 496 ∷ [])))
    (codes "table 0x300" ∷ codes "vdev 7 1" ∷ codes "vring any 4096 16" ∷ codes "vring any 4096 16" ∷ codes "end" ∷ more) (command.Image name (worker_lines reply) ∷ rest)
table_says name reply more rest says = record {
  at = λ number.
      ap (λ found. onto [] (onto [] (onto [] (onto [] (onto (command.Image name (worker_lines reply) ∷ []) found))))) (says.at (number + 1 + 1 + 1 + 1 + 1));
  fine = says.fine;
}

-- the lines of an image
image_says : (session reply : ℕ) (more : List (List ℕ)) (rest : List Command) → session < 500 → reply < 497 → Says None more rest
    → Says None (image_lines session reply ++ more) (command.Image (session_image session) (worker_lines reply) ∷ rest)
image_says session reply more rest small short says =
    let image = session_image session in
    inside _ _ _ _ _ (image_said image (image_is_name session (omega arith)))
    (begin_says image _ _
    (inside _ _ _ _ _ (send_said image begin_records reply short)
    (end_says image reply _ _
    (inside _ _ _ _ _ (load_said image (end_records reply) (reply_word reply) reply (reply_is reply short))
    (table_says image reply more rest says)))))

-- the lines of a session, and of the first so many
as_said : (lines other : List (List ℕ)) (commands others : List Command) → lines ≡ other → commands ≡ others → Says None other others → Says None lines commands
as_said lines other commands others e f says = rw (e, f) says

session_says : (session reply : ℕ) (more : List (List ℕ)) (rest : List Command) → session < 500 → reply < 497 → Says None more rest
    → Says None (session_lines session reply ++ more) (session_commands session reply ++ rest)
session_says session reply more rest small short says =
    let core = core_lines session in
    let image = image_lines session reply in
    let drive = drive_lines session in
    as_said (session_lines session reply ++ more) (core ++ (image ++ (drive ++ more))) _ _
    (append_assoc (core ++ image) drive more ∙ append_assoc core image (drive ++ more))
    (append_assoc (core_commands session) _ rest)
    (core_says session _ _ (image_says session reply _ _ small short (drive_says session more rest small says)))

sessions_say : (seed count : ℕ) (more : List (List ℕ)) (rest : List Command) → count ≤ 500 → Says None more rest → Says None (first_lines seed count ++ more) (first_sessions seed count ++ rest)
sessions_say seed zero more rest few says = says
sessions_say seed (suc session) more rest few says =
    let reply = reply_length (number_at seed (suc session)) in
    as_said (first_lines seed (suc session) ++ more) (first_lines seed session ++ (session_lines session reply ++ more)) _ _
    (append_assoc (first_lines seed session) (session_lines session reply) more)
    (append_assoc (first_sessions seed session) (session_commands session reply) rest)
    (sessions_say seed session (session_lines session reply ++ more) (session_commands session reply ++ rest) (omega arith)
    (session_says session reply more rest (omega arith) (omega arith) says))

nothing_says : Says None [] []
nothing_says = record { at = λ number. refl; fine = refl }

pub demo_lines_say : (seed count : ℕ) → count ≤ 500 → Says None (codes "quiet on" ∷ first_lines seed count) (command.Quiet switch.On ∷ first_sessions seed count)
demo_lines_say seed count few =
    let all = sessions_say seed count [] [] few nothing_says in
    let says = as_said (first_lines seed count) (first_lines seed count ++ []) (first_sessions seed count) (first_sessions seed count ++ []) (sym (append-nil (first_lines seed count))) (sym (append-nil (first_sessions seed count))) all in
    record { at = λ number. ap (onto (command.Quiet switch.On ∷ [])) (says.at (number + 1)); fine = says.fine }
