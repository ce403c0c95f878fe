use Rattle.std.proofs.Common.{◌≡◌, Some, None, IfSome, ap, subst, ◌∙◌}
use Rattle.std.specs.Option.{option_map}
use Rattle.fw_load.specs.Memory.{memory_at}
use Rattle.crash_recover.specs.Cores.{IsSoundLoad, load_view}
use Rattle.crash_recover.proofs.CoreLoads.{memory_read, place_is}
use Rattle.crash_recover.proofs.cores.Core.memory.Goals as goal

pub returns-in-Some-memory_at : goal.returns-in-Some-memory_at
returns-in-Some-memory_at c =
    let loaded = c.in-Some.loaded in
    let regions = c.self.inside.regions in
    let sound = subst (λ found. IfSome found (IsSoundLoad regions)) c.in-Some.is c.self.invariant.loaded in
    let here = c.in-Some-memory_at.ensures.place ∙ place_is regions loaded c.args.da c.args.len c.as_slice.ensures.sound sound c.requires in
    let is : Some c.in-Some-memory_at.at ≡ memory_at c.args.self.now.regions loaded.placed.blocks.items c.args.da c.args.len = rw (← c.self.view_is) here in
    let given : c.args.self.now.loaded ≡ Some (load_view loaded) = rw (← c.self.view_is) (ap (option_map load_view) c.in-Some.is) in
    ap Some c.bytes.ensures ∙ memory_read c.args.self.now (load_view loaded) c.args.da c.args.len (Some c.in-Some-memory_at.at) given is

pub returns-in-None : goal.returns-in-None
returns-in-None c =
    let loaded = c.in-Some.loaded in
    let regions = c.self.inside.regions in
    let sound = subst (λ found. IfSome found (IsSoundLoad regions)) c.in-Some.is c.self.invariant.loaded in
    let here = c.in-None.ensures.place ∙ place_is regions loaded c.args.da c.args.len c.as_slice.ensures.sound sound c.requires in
    let is : None ≡ memory_at c.args.self.now.regions loaded.placed.blocks.items c.args.da c.args.len = rw (← c.self.view_is) here in
    let given : c.args.self.now.loaded ≡ Some (load_view loaded) = rw (← c.self.view_is) (ap (option_map load_view) c.in-Some.is) in
    memory_read c.args.self.now (load_view loaded) c.args.da c.args.len None given is
