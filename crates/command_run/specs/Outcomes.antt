-- What a command of a core, or of a run, left, wrote and answered (own).
use Rattle.std.specs.Prelude.{◌≡◌, ◌<◌, ◌≤◌, ◌⊎◌, ◌+◌, ℕ, Bool, List, [], ◌∷◌, ◌++◌, length, Option}
use Rattle.rp_io.specs.Contents.{AppendsFront}
use Rattle.journal.specs.declared.events.Event.{Event}
use Rattle.journal.specs.Lines.{transcript}
use Rattle.crash_recover.specs.Cores.{CoreState}
use Rattle.run_log.specs.declared.logs.TheConstants.{PIECE}
use Rattle.link_commands.specs.declared.stops.Stop.{Stop}
use Rattle.run_log.specs.Logs.{Hands, LogState}
use Rattle.command_run.specs.declared.core_drives.TheConstants.{STRETCH}
use Rattle.command_run.specs.CoreEffects.{CoreEffect}
use Rattle.command_run.specs.CoreDrives.{IsDriven, drive_steps, effect_behind}
use Rattle.command_run.specs.Runs.{ObjectsState, RunEffect}

-- a command left of its core, wrote and answered what this effect says
pub record HasCoreEffect (effect : CoreEffect) (left : CoreState) (before after : LogState) (answer : Option Stop) : Type 0 where
  pub core : left ≡ effect.core
  pub steps : after.steps ≡ effect.steps
  pub lines : after.lines ≡ before.lines ++ transcript effect.events
  pub ending : answer ≡ effect.ending

-- what is left of a drive: it wrote these events, and the steps that are left do the rest, as would any number of them
pub record DrivesOn (name : List ℕ) (is_quiet : Bool) (count : ℕ) (first : CoreState) (before : LogState) (left : ℕ) (core : CoreState) (log : LogState) : Type 0 where
  pub done : ℕ
  pub all : done + left ≡ count
  pub up : IsDriven core
  pub told : List Event
  pub lines : log.lines ≡ before.lines ++ transcript told
  pub rest : (more : ℕ) → drive_steps (done + more) name is_quiet first before.steps ≡ effect_behind told (drive_steps more name is_quiet core log.steps)

-- the same of one of which some lines were handed on
pub record DrivesHanding (name : List ℕ) (is_quiet : Bool) (count : ℕ) (first : CoreState) (before : LogState) (written : Option (List ℕ)) (left : ℕ) (core : CoreState) (log : LogState) (now : Option (List ℕ)) : Type 0 where
  pub done : ℕ
  pub all : done + left ≡ count
  pub up : IsDriven core
  pub told : List Event
  pub hands : Hands written before.lines now log.lines (transcript told)
  pub rest : (more : ℕ) → drive_steps (done + more) name is_quiet first before.steps ≡ effect_behind told (drive_steps more name is_quiet core log.steps)

-- after so many steps a drive has written these events, of which less than a piece is kept beside what it wrote since one of its last steps, or since it came to rest or the run had no step left
pub record KeepsLast (events : ℕ → List Event) (count : ℕ) (told : List Event) (lines : List ℕ) : Type 0 where
  pub done : ℕ
  pub within : done ≤ count
  pub earlier : List Event
  pub last : Event
  pub here : events done ≡ earlier ++ last ∷ []
  pub later : List Event
  pub all : told ≡ earlier ++ later
  pub near : (count ≤ done + STRETCH) ⊎ (length later ≤ 1)
  pub rest : List ℕ
  pub less : length rest < PIECE
  pub kept : lines ≡ rest ++ transcript later

-- the same of a whole drive
abbrev pub KeepsWhole : (ℕ → List Event) → ℕ → List ℕ → Type 0
KeepsWhole events count lines = KeepsLast events count (events count) lines

-- a drive of so many steps was cut off after some of them, where the sink failed: a drive of just these leaves the same, and writes one event more, with which it ends; of what was written before that one some lines were handed on, and a prefix of those that were kept. With less than a piece kept before the drive, few were kept then
pub record IsCutDrive (State : Type 0) (state : ℕ → State) (events : ℕ → List Event) (count : ℕ) (left : State) (lines : List ℕ) (written now : Option (List ℕ)) : Type 0 where
  pub done : ℕ
  pub within : done ≤ count
  pub is : left ≡ state done
  pub told : List Event
  pub last : Event
  pub tells : events done ≡ told ++ last ∷ []
  pub handed : Option (List ℕ)
  pub kept : List ℕ
  pub hands : Hands written lines handed kept (transcript told)
  pub front : AppendsFront handed now kept
  pub few : length lines < PIECE → KeepsLast events done told kept

-- the same of a core, by what a drive of each number of steps does
abbrev pub CutsCore : (ℕ → CoreEffect) → ℕ → CoreState → List ℕ → Option (List ℕ) → Option (List ℕ) → Type 0
CutsCore drive count left lines written now = IsCutDrive CoreState (λ done. (drive done).core) (λ done. (drive done).events) count left lines written now

-- and of a run
abbrev pub CutsRun : (ℕ → RunEffect) → ℕ → ObjectsState → List ℕ → Option (List ℕ) → Option (List ℕ) → Type 0
CutsRun drive count left lines written now = IsCutDrive ObjectsState (λ done. (drive done).run.objects) (λ done. (drive done).events) count left lines written now

-- a command left of its core, wrote and answered what this effect says, and some lines were handed on meanwhile
pub record HandsCoreEffect (effect : CoreEffect) (left : CoreState) (before after : LogState) (written now : Option (List ℕ)) (answer : Option Stop) : Type 0 where
  pub core : left ≡ effect.core
  pub steps : after.steps ≡ effect.steps
  pub hands : Hands written before.lines now after.lines (transcript effect.events)
  pub ending : answer ≡ effect.ending

-- a command left of its run, wrote and answered what this effect says
pub record HasRunEffect (effect : RunEffect) (left : ObjectsState) (before after : LogState) (answer : Option Stop) : Type 0 where
  pub objects : left ≡ effect.run.objects
  pub steps : after.steps ≡ effect.run.steps
  pub lines : after.lines ≡ before.lines ++ transcript effect.events
  pub ending : answer ≡ effect.ending

-- the same, and some lines were handed on meanwhile
pub record HandsRunEffect (effect : RunEffect) (left : ObjectsState) (before after : LogState) (written now : Option (List ℕ)) (answer : Option Stop) : Type 0 where
  pub objects : left ≡ effect.run.objects
  pub steps : after.steps ≡ effect.run.steps
  pub hands : Hands written before.lines now after.lines (transcript effect.events)
  pub ending : answer ≡ effect.ending
