-- What the links of a run's cores keep, what their actors hold, and which regions they have (own).
use Rattle.std.specs.Prelude.{All}
use Rattle.memory_pool.specs.Soundness.{SoundRegions}
use Rattle.crash_recover.specs.Cores.{IsKeptCore, IsReadyCore}
use Rattle.command_run.specs.NamedCores.{NamedCoreState}
use Rattle.command_run.specs.Runs.{ObjectsState}

-- the link of each core of a run has the core's own callers in use, no turn that is the manager's, and the incarnation of the core's life, live exactly while the core is up
abbrev pub AreKept : ObjectsState → Type 0
AreKept objects = All (λ (named : NamedCoreState). IsKeptCore named.core) objects.cores

-- the actors of each core of a run hold, while the core is up, what their calls give back, and have begun no call without a step of it
abbrev pub AreReady : ObjectsState → Type 0
AreReady objects = All (λ (named : NamedCoreState). IsReadyCore named.core) objects.cores

-- the regions of each core of a run are sound
abbrev pub HaveSoundRegions : ObjectsState → Type 0
HaveSoundRegions objects = All (λ (named : NamedCoreState). SoundRegions named.core.regions) objects.cores
