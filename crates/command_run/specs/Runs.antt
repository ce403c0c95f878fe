-- The run of a script: what each command leaves and writes, from nothing on (own).
use Rattle.std.specs.Prelude.{◌≡◌, ℕ, Bool, true, false, is_none, is_some, ◌+◌, nat_le, find, List, [], ◌∷◌, ◌++◌, length, slice_get, slice_set, Option, Some, None, Result, Ok, Err, bytes_eq, if◌then◌else◌}
use Rattle.std.specs.List.{position}
use Rattle.rp_io.specs.Images.{ImageAnswer, text_name}
use Rattle.rp_base.specs.declared.limits.TheConstants.{OBJECTS_MOST}
use Rattle.rp_base.specs.declared.kinds.Switch.{Switch}
use Rattle.lane_model.specs.declared.calls.LinkConfig.{LinkConfig}
use Rattle.script_lang.specs.declared.commands.Command.{Command}
use Rattle.script_lang.specs.declared.recipes.RecipeLine.{RecipeLine}
use Rattle.image_maker.specs.Images.{image_of}
use Rattle.journal.specs.declared.events.Event.{Event}
use Rattle.journal.specs.declared.events.Event.TheVariants as event
use Rattle.link_commands.specs.declared.stops.Stop.{Stop}
use Rattle.link_commands.specs.NamedLinks.{NamedLink}
use Rattle.command_run.specs.NamedCores.{NamedCoreState}
use Rattle.command_run.specs.NamedImages.{ImageState}
use Rattle.rp_io.specs.declared.faults.NoImage.TheVariants as no_image
use Rattle.command_run.specs.Stores.{StoreAnswers, later_answers, store_answer}
use Rattle.command_run.specs.CoreEffects.{CoreEffect}
use Rattle.command_run.specs.CoreCommands.{core_effect, is_on}
use Rattle.command_run.specs.CoreLives.{start_name}
use Rattle.command_run.specs.Dumps.{core_answer, kept_dumps}
use Rattle.script_lang.specs.declared.commands.RegionSet.{RegionSet}
use Rattle.script_lang.specs.declared.commands.RegionSet.TheVariants as regions
use Rattle.memory_pool.specs.declared.regions.Region.{Region}
use Rattle.memory_pool.specs.Regions.{standard_regions}
use Rattle.proc_state.specs.Lives.{is_offline, recovery_fault}
use Rattle.crash_recover.specs.Cores.{CoreState, new_core}
use Rattle.crash_recover.specs.CoreBoots.{needs_image}
use Rattle.endpoint_map.specs.Bindings.{no_bindings}
use Rattle.channel_bus.specs.Sides.{EndState}
use Rattle.link_bench.specs.Benches.{new_bench_of}
use Rattle.link_commands.specs.declared.acts.CoreAct.{CoreAct}
use Rattle.link_commands.specs.declared.acts.CoreAct.TheVariants as core
use Rattle.link_commands.specs.declared.acts.StartAct.{StartAct}
use Rattle.link_commands.specs.declared.acts.StartAct.TheVariants as starts
use Rattle.link_commands.specs.declared.acts.Line.{Line}
use Rattle.link_commands.specs.declared.acts.Line.TheVariants as line
use Rattle.link_commands.specs.declared.acts.Making.{Making}
use Rattle.link_commands.specs.declared.acts.Making.TheVariants as making
use Rattle.link_commands.specs.declared.acts.NamedAct.{NamedAct}
use Rattle.link_commands.specs.declared.acts.NamedAct.TheVariants as under
use Rattle.link_commands.specs.Acts.{line_of}
use Rattle.link_commands.specs.Effects.{Effect}
use Rattle.link_commands.specs.LinkCommands.{link_effect}

-- what a script made: its links, its cores and its images, each in the order in which they were made; and whether its drives are quiet
pub record ObjectsState : Type 0 where
  pub links : List NamedLink
  pub cores : List NamedCoreState
  pub images : List ImageState
  pub is_quiet : Bool

-- the state of a run: what was made, and how many steps were done
pub record RunState : Type 0 where
  pub objects : ObjectsState
  pub steps : ℕ

-- what a command leaves of a run, what it writes, and why the run stops in its midst, if it does
pub record RunEffect : Type 0 where
  pub run : RunState
  pub events : List Event
  pub ending : Option Stop

-- one event, and the run as it is
abbrev pub run_tells : RunState → Event → RunEffect
run_tells run told = record { run = run; events = told ∷ []; ending = None }

-- the place of the link of this name
abbrev pub place_of : List NamedLink → List ℕ → Option ℕ
place_of links name = position (λ named. bytes_eq named.name name) links

-- the place of the core of this name
abbrev pub core_place : List NamedCoreState → List ℕ → Option ℕ
core_place cores name = position (λ named. bytes_eq named.name name) cores

-- whether there are as many links and cores as there may be
abbrev pub is_full : ObjectsState → Bool
is_full objects = nat_le OBJECTS_MOST (length objects.links + length objects.cores)

-- an end with no endpoint, no channel and no driver
abbrev pub new_end : Bool → EndState
new_end has_service = record { has_service = has_service; drivers = []; bindings = no_bindings; channels = [] }

-- the run with other links
abbrev pub with_links : RunState → List NamedLink → RunState
with_links run links = record run { objects = record run.objects { links = links } }

-- a link of a new name, whose host end has the name service or not
unfoldable pub made_effect : RunState → List ℕ → LinkConfig → Bool → RunEffect
made_effect run name config has_service =
    if is_full run.objects then run_tells run event.ObjectsFull
    else run_tells (with_links run (run.objects.links ++ record { name = name; bench = new_bench_of config (new_end has_service) (new_end false) } ∷ [])) (event.Open name 1)

-- the regions that a core begins with
abbrev pub regions_of : RegionSet → List Region
regions_of regions.Standard = standard_regions
regions_of regions.Bare = []

-- the run with other cores
abbrev pub with_cores : RunState → List NamedCoreState → RunState
with_cores run cores = record run { objects = record run.objects { cores = cores } }

-- a core of a new name
unfoldable pub core_made_effect : RunState → List ℕ → RegionSet → ℕ → RunEffect
core_made_effect run name set book =
    if is_full run.objects then run_tells run event.ObjectsFull
    else run_tells (with_cores run (run.objects.cores ++ record { name = name; core = new_core (regions_of set) [] book } ∷ [])) (event.Offline name)

-- what is made under a name that no link and no core has
abbrev pub making_effect : RunState → List ℕ → Making → RunEffect
making_effect run name (making.Link config has_service) = made_effect run name config has_service
making_effect run name (making.Core set book) = core_made_effect run name set book

-- an act under a name that no link and no core has
unfoldable pub unnamed_effect : RunState → List ℕ → NamedAct (List ℕ) → RunEffect
unnamed_effect run name (under.Make made) = making_effect run name made
unnamed_effect run name (under.Link asked) = run_tells run (event.Unknown name)
unnamed_effect run name (under.Manage managed) = run_tells run (event.Unknown name)
unnamed_effect run name (under.Show shown) = run_tells run (event.Unknown name)
unnamed_effect run name (under.Core asked) = run_tells run (event.Unknown name)

-- the run with what a command leaves of the link at this place
abbrev pub link_effect_at : RunState → ℕ → NamedLink → Effect → RunEffect
link_effect_at run place named effect = record {
  run = record (with_links run (slice_set run.objects.links place (record named { bench = effect.bench }))) { steps = effect.steps };
  events = effect.events;
  ending = effect.ending;
}

-- the run with what a command leaves of the core at this place
abbrev pub core_effect_at : RunState → ℕ → NamedCoreState → CoreEffect → RunEffect
core_effect_at run place named effect = record {
  run = record (with_cores run (slice_set run.objects.cores place (record named { core = effect.core }))) { steps = effect.steps };
  events = effect.events;
  ending = effect.ending;
}

-- an act on the core at this place, or on none
abbrev pub effect_of_core : ImageAnswer → RunState → List ℕ → NamedAct (List ℕ) → ℕ → Option NamedCoreState → RunEffect
effect_of_core answer run name act place None = unnamed_effect run name act
effect_of_core answer run name act place (Some on) = core_effect_at run place on (core_effect run.objects.images answer run.objects.is_quiet on run.steps act)

-- an act on the core of its name, or on none
abbrev pub effect_by_core_place : ImageAnswer → RunState → List ℕ → NamedAct (List ℕ) → Option ℕ → RunEffect
effect_by_core_place answer run name act None = unnamed_effect run name act
effect_by_core_place answer run name act (Some place) = effect_of_core answer run name act place (slice_get run.objects.cores place)

-- an act under a name that no link has
unfoldable pub without_link_effect : ImageAnswer → RunState → List ℕ → NamedAct (List ℕ) → RunEffect
without_link_effect answer run name act = effect_by_core_place answer run name act (core_place run.objects.cores name)

-- an act on the link at this place, or on none
abbrev pub effect_of_link : ImageAnswer → RunState → List ℕ → NamedAct (List ℕ) → ℕ → Option NamedLink → RunEffect
effect_of_link answer run name act place None = without_link_effect answer run name act
effect_of_link answer run name act place (Some on) = link_effect_at run place on (link_effect on run.steps act)

-- an act on the link of its name, or on none
abbrev pub effect_by_link_place : ImageAnswer → RunState → List ℕ → NamedAct (List ℕ) → Option ℕ → RunEffect
effect_by_link_place answer run name act None = without_link_effect answer run name act
effect_by_link_place answer run name act (Some place) = effect_of_link answer run name act place (slice_get run.objects.links place)

-- an act under a name
unfoldable pub name_effect : ImageAnswer → RunState → List ℕ → NamedAct (List ℕ) → RunEffect
name_effect answer run name act = effect_by_link_place answer run name act (place_of run.objects.links name)

-- the place of the image of this name
abbrev pub image_place : List ImageState → List ℕ → Option ℕ
image_place images name = position (λ image. bytes_eq image.name name) images

-- whether an image of this name was made
abbrev pub has_image : List ImageState → List ℕ → Bool
has_image images name = is_some (image_place images name)

-- the run with an image more
abbrev pub with_image : RunState → List ℕ → List ℕ → RunState
with_image run name bytes = record run { objects = record run.objects { images = run.objects.images ++ record { name = name; bytes = bytes; is_dump = false } ∷ [] } }

-- `image FW` with its recipe
unfoldable pub image_effect : RunState → List ℕ → List RecipeLine → RunEffect
image_effect run name lines =
    if has_image run.objects.images name then run_tells run (event.ImageExists name)
    else run_tells (with_image run name (image_of lines)) (event.Image name (length (image_of lines)))

-- the core of this name
abbrev pub find_core : List NamedCoreState → List ℕ → Option NamedCoreState
find_core cores name = find (λ (named : NamedCoreState). bytes_eq named.name name) cores

-- the core of this name, which no link has
abbrev pub core_under : ObjectsState → List ℕ → Option NamedCoreState
core_under objects name = if is_some (place_of objects.links name) then None else find_core objects.cores name

-- the dump of the core of a name that is kept as an image, or what is written in its place
abbrev pub dump_answer : ObjectsState → List ℕ → List ℕ → Result (List ℕ) Event
dump_answer objects name image = core_answer (has_image objects.images image) (kept_dumps objects.images) name image (core_under objects name)

-- the run with a dump that is kept
abbrev pub with_dump : RunState → List ℕ → List ℕ → RunState
with_dump run name bytes = record run { objects = record run.objects { images = run.objects.images ++ record { name = name; bytes = bytes; is_dump = true } ∷ [] } }

-- a dump is kept, or something is written in its place
abbrev pub dump_effect_of : RunState → List ℕ → Result (List ℕ) Event → RunEffect
dump_effect_of run image (Ok bytes) = run_tells (with_dump run image bytes) (event.Image image (length bytes))
dump_effect_of run image (Err told) = run_tells run told

-- `dump X FW`
unfoldable pub dump_effect : RunState → List ℕ → List ℕ → RunEffect
dump_effect run name image = dump_effect_of run image (dump_answer run.objects name image)

-- `quiet SWITCH`, which writes nothing
unfoldable pub quiet_effect : RunState → Switch → RunEffect
quiet_effect run set = record { run = record run { objects = record run.objects { is_quiet = is_on set } }; events = []; ending = None }

-- what a command is about
abbrev pub line_effect : ImageAnswer → RunState → Line (List RecipeLine) (List ℕ) → RunEffect
line_effect answer run (line.Image name lines) = image_effect run name lines
line_effect answer run (line.Quiet set) = quiet_effect run set
line_effect answer run (line.Dump name image) = dump_effect run name image
line_effect answer run (line.On name act) = name_effect answer run name act

-- a command, over what the store says of the image that it asks for
unfoldable pub effect_of : ImageAnswer → RunState → Command → RunEffect
effect_of answer run command = line_effect answer run (line_of command)

-- the name of an image that the script didn't make (a name is a text, by the grammar)
abbrev pub outside_image : List ImageState → List ℕ → Option (List ℕ)
outside_image images name = if has_image images name then None else text_name name

-- whether a start needs an image: a boot that loads one, a handover of a core that is offline, and a recovery that the core's life doesn't refuse
abbrev pub start_needs : StartAct → CoreState → Bool
start_needs (starts.Boot image) core = needs_image core
start_needs (starts.Handover image) core = is_offline core.life.state
start_needs starts.Recover core = is_none (recovery_fault core.life)

-- the image for which a start asks the store: one that the core needs for it and the script didn't make
abbrev pub start_image : StartAct → List ImageState → Option NamedCoreState → Option (List ℕ)
start_image start images None = None
start_image start images (Some named) = if start_needs start named.core then outside_image images (start_name start named) else None

-- the act on a core that a command is about, with the core's name
abbrev pub core_act : Line (List RecipeLine) (List ℕ) → Option (List ℕ × CoreAct)
core_act (line.On name (under.Core act)) = Some (name, act)
core_act other = None

-- the image for which the store is asked by an act on a core: by a start alone
abbrev pub act_asks : ObjectsState → Option (List ℕ × CoreAct) → Option (List ℕ)
act_asks objects (Some (name, core.Start start)) = start_image start objects.images (core_under objects name)
act_asks objects other = None

-- the image for which a command asks the store
abbrev pub asked_name : ObjectsState → Command → Option (List ℕ)
asked_name objects command = act_asks objects (core_act (line_of command))

-- a run: what it writes, the state in which it ends, why it stopped in its midst, if it did, and whether the store failed and so ended it
pub record Run : Type 0 where
  pub events : List Event
  pub last : RunState
  pub ending : Option Stop
  pub failed : Bool

-- the run stops with a command, or the later ones go on
abbrev pub run_on : RunEffect → Option Stop → Run → Run
run_on effect (Some why) later = record { events = effect.events; last = effect.run; ending = Some why; failed = false }
run_on effect None later = record later { events = effect.events ++ later.events }

-- a command and the later ones, where the store answers; else the run ends before the command
abbrev pub run_on_answer : RunState → Command → Option ImageAnswer → (RunState → Run) → Run
run_on_answer run command None later = record { events = []; last = run; ending = None; failed = true }
run_on_answer run command (Some answer) later =
    let effect = effect_of answer run command in
    run_on effect effect.ending (later effect.run)

-- the run of these commands, from a state, over what the store says
unfoldable pub run_from : StoreAnswers → RunState → List Command → Run
run_from told run [] = record { events = []; last = run; ending = None; failed = false }
run_from told run (first ∷ more) =
    run_on_answer run first (store_answer (told 0) (asked_name run.objects first)) (λ next. run_from (later_answers told) next more)

-- nothing is made, no step done, and drives are not quiet
abbrev pub new_run : RunState
new_run = record { objects = record { links = []; cores = []; images = []; is_quiet = false }; steps = 0 }

-- the run of a script, over what the store says
abbrev pub run_of : StoreAnswers → List Command → Run
run_of told commands = run_from told new_run commands

-- this holds of a run that goes on
abbrev pub IfGoesOn : Option Stop → Type 0 → Type 0
IfGoesOn None rest = rest
IfGoesOn (Some why) rest = Unit {0}

-- no command of a run asks the store
unfoldable pub AsksNone : RunState → List Command → Type 0
AsksNone run [] = Unit {0}
AsksNone run (first ∷ more) =
    let effect = effect_of (Err no_image.Missing) run first in
    (asked_name run.objects first ≡ None) × IfGoesOn effect.ending (AsksNone effect.run more)
