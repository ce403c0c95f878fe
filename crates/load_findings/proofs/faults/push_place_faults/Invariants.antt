use Rattle.std.proofs.Common.{◌≡◌, ◌++◌, map, take}
use Rattle.fw_load.specs.declared.faults.LoadFault.TheVariants as fault
use Rattle.load_findings.proofs.faults.push_place_faults.Given as goal

-- the refusals so far
abbrev pub invariant-loop-refused : goal.invariant-loop-refused
invariant-loop-refused l = l.faults.items ≡ l.fn.faults.items ++ map fault.Place (take l.refused-index l.placing.refused.items)
