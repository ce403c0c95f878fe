use Rattle.std.proofs.Common.{sym, ap, ◌∙◌}
use Rattle.memory_pool.specs.Regions.{region_fault}
use Rattle.memory_pool.proofs.RegionsSound.{added_sound}
use Rattle.memory_pool.proofs.regions.Regions.add.Goals as goal
use Rattle.memory_pool.proofs.regions.Regions.add.Goals.{in-Ok, in-Err}

pub invariant_of-self : goal.invariant_of-self
invariant_of-self c =
    elim c.match-push.branch [
      | in-Ok w ↦
          let regions = c.self.inside.items.items in
          let pass = ap (λ regions. region_fault regions c.args.region) (sym c.deref.ensures.value) ∙ sym c.in_ok-test_region.ensures in
          rw w.in-Ok.ensures.items (added_sound regions c.args.region c.self.invariant pass)
      | in-Err w ↦ rw w.in-Err.ensures.items c.self.invariant
    ]
