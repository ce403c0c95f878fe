-- What is found for a core to load (own).
use Rattle.std.specs.Prelude.{Ok, Err}
use Rattle.rp_io.specs.Images.{ImageAnswer}
use Rattle.fw_load.specs.Loading.{Loads}
use Rattle.crash_recover.specs.Cores.{CoreState}

-- an image was found, and it may be loaded over the regions of the core
abbrev pub FindsLoadable : CoreState → ImageAnswer → Type 0
FindsLoadable core (Ok image) = Loads image core.regions
FindsLoadable core (Err why) = ⊥
