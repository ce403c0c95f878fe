use Rattle.crash_recover.proofs.CoreLoads.{load_is}
use Rattle.crash_recover.proofs.Loads.{load_sound}
use Rattle.crash_recover.proofs.cores.Core.load_image.Goals as goal

pub returns-in-Ok-clause-loaded : goal.returns-in-Ok-clause-loaded
returns-in-Ok-clause-loaded c = rw (← c.self.view_is) (load_is c.args.image.now c.self.inside.regions c.in-Ok.loaded c.in-Ok.ensures.loaded)

pub returns-in-Ok-clause-sound : goal.returns-in-Ok-clause-sound
returns-in-Ok-clause-sound c = rw (← c.self.view_is) (load_sound c.args.image.now c.self.inside.regions c.in-Ok.loaded c.in-Ok.ensures.loads c.in-Ok.ensures.loaded)
