-- The numbers and the bytes of a core that are within their types (own).
use Rattle.std.specs.Prelude.{◌≡◌, true, ◌<◌, ◌≤◌, ◌^◌, ℕ, List, length, None, IfSome, All}
use Rattle.word_kinds.specs.Spellings.{is_name}
use Rattle.proc_state.specs.Lives.{CoreLife, is_offline, most}
use Rattle.memory_pool.specs.declared.blocks.Block.{Block}
use Rattle.memory_pool.specs.declared.regions.Region.{Region}
use Rattle.memory_pool.specs.Regions.{memory_len}
use Rattle.fw_load.specs.declared.faults.LoadFault.{LoadFault}
use Rattle.fw_load.specs.Faults.{load_fault_index}
use Rattle.lane_model.specs.declared.recoveries.ReopenFault.{ReopenFault}
use Rattle.lane_model.specs.declared.recoveries.ReopenFault.TheVariants as reopen
use Rattle.core_actors.specs.declared.progress.DriveOutcome.{DriveOutcome}
use Rattle.core_actors.specs.declared.progress.DriveOutcome.TheVariants as driven
use Rattle.core_actors.specs.Actors.{ActorsState}
use Rattle.crash_recover.specs.declared.core_answers.Crash.{Crash}
use Rattle.crash_recover.specs.declared.core_answers.Crash.TheVariants as crash
use Rattle.crash_recover.specs.declared.core_answers.Leave.{Leave}
use Rattle.crash_recover.specs.declared.core_answers.Leave.TheVariants as leave
use Rattle.crash_recover.specs.declared.core_answers.Start.{Start}
use Rattle.crash_recover.specs.declared.core_answers.Start.TheVariants as start
use Rattle.crash_recover.specs.declared.core_faults.LeaveFault.{LeaveFault}
use Rattle.crash_recover.specs.declared.core_faults.LeaveFault.TheVariants as leave_fault
use Rattle.crash_recover.specs.declared.core_faults.StartFault.{StartFault}
use Rattle.crash_recover.specs.declared.core_faults.StartFault.TheVariants as start_fault
use Rattle.crash_recover.specs.Cores.{CoreState, LoadState, blocks_most}
use Rattle.field_laws.specs.Fields.{AreBytes, IsFieldEnd, IsFieldWish}
use Rattle.field_laws.specs.FieldBenches.{IsFieldBench}

pub record IsFieldLife (life : CoreLife) : Type 0 where
  pub users : life.users ≤ most
  pub incarnation : life.incarnation ≤ most

pub record IsFieldLoad (load : LoadState) : Type 0 where
  pub memory : AreBytes load.memory
  pub table : AreBytes load.table

-- what is loaded over regions: the memory has room for them, and the blocks that were placed are few and within the addresses
pub record IsFieldPlaced (regions : List Region) (load : LoadState) : Type 0 where
  pub memory : memory_len regions ≤ length load.memory
  pub few : length load.placed ≤ blocks_most
  pub ranges : All (λ (block : Block). block.len ≤ 2 ^ 32) load.placed

-- the calls that the actors are yet to make
pub record AreFieldCalls (actors : ActorsState) : Type 0 where
  pub host : All IsFieldWish actors.host_calls
  pub worker : All IsFieldWish actors.worker_calls

-- the name of an image, as scripts spell it
abbrev pub IsImageName : List ℕ → Type 0
IsImageName name = is_name name ≡ true

pub record IsFieldCore (core : CoreState) : Type 0 where
  pub book : core.book < 2 ^ 64
  pub life : IsFieldLife core.life
  pub image : IfSome core.image IsImageName
  pub loaded : IfSome core.loaded IsFieldLoad
  -- nothing is loaded while the core is offline
  pub placed : IfSome core.loaded (IsFieldPlaced core.regions)
  pub rest : is_offline core.life.state ≡ true → core.loaded ≡ None
  pub bench : IfSome core.bench IsFieldBench
  pub calls : AreFieldCalls core.actors

-- what a step of the actors was
abbrev pub IsFieldDriven : DriveOutcome → Type 0
IsFieldDriven driven.Idle = Unit {0}
IsFieldDriven driven.Stepped = Unit {0}
IsFieldDriven (driven.Ended caller ended) = (caller < 2 ^ 64) × IsFieldEnd ended
IsFieldDriven (driven.Worker why closed) = IfSome closed (λ inc. inc < 2 ^ 64)
IsFieldDriven (driven.Crashed kind closed) = IfSome closed (λ inc. inc < 2 ^ 64)

abbrev pub IsFieldReopen : ReopenFault → Type 0
IsFieldReopen (reopen.StillOpen era) = era.inc < 2 ^ 32
IsFieldReopen (reopen.StillTurn caller) = caller < 2 ^ 64
IsFieldReopen (reopen.StillHeld caller number) = (caller < 2 ^ 64) × (number < 2 ^ 64)
IsFieldReopen reopen.IncarnationsSpent = Unit {0}
IsFieldReopen reopen.NoMemory = Unit {0}

-- what an image is refused for: the number of a program header or of an entry of its table, if it has one
abbrev pub IsFieldRefused : LoadFault → Type 0
IsFieldRefused why = IfSome (load_fault_index why) (λ index. index < 2 ^ 64)

-- what calls of a core answer
abbrev pub IsFieldStartFault : StartFault → Type 0
IsFieldStartFault (start_fault.Load why) = IsFieldRefused why
IsFieldStartFault (start_fault.Reopen why) = IsFieldReopen why
IsFieldStartFault other = Unit {0}

abbrev pub IsFieldLeaveFault : LeaveFault → Type 0
IsFieldLeaveFault (leave_fault.Life why) = Unit {0}
IsFieldLeaveFault (leave_fault.CallerOut caller) = caller < 2 ^ 64

abbrev pub IsFieldStart : Start → Type 0
IsFieldStart (start.Running inc) = inc < 2 ^ 64
IsFieldStart (start.Attached inc) = inc < 2 ^ 64
IsFieldStart (start.Users users) = users < 2 ^ 64
IsFieldStart start.Detached = Unit {0}

abbrev pub IsFieldLeave : Leave → Type 0
IsFieldLeave (leave.Users users) = users < 2 ^ 64
IsFieldLeave (leave.Last closed) = IfSome closed (λ inc. inc < 2 ^ 64)
IsFieldLeave leave.Limit = Unit {0}

abbrev pub IsFieldCrash : Crash → Type 0
IsFieldCrash (crash.First closed) = IfSome closed (λ inc. inc < 2 ^ 64)
IsFieldCrash crash.Already = Unit {0}
IsFieldCrash crash.Limit = Unit {0}
