use Rattle.std.proofs.Common.{◌≡◌, [], ◌++◌, drop, map}
use Rattle.c_forms.specs.Regions.{region_of, region_refusal}
use Rattle.c_forms.proofs.regions.regions_of.Given as goal

-- the regions so far are added, and the first that is refused is among the others
abbrev pub invariant-loop-region : goal.invariant-loop-region
invariant-loop-region l = record {
  added : l.regions ++ map region_of (drop l.region-index l.given) ≡ map region_of l.given;
  left : region_refusal l.regions (map region_of (drop l.region-index l.given)) ≡ region_refusal [] (map region_of l.given);
}
