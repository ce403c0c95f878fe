-- The texts of faults (own).
use Rattle.std.specs.Prelude.{ℕ, List, codes}
use Rattle.vring_layout.specs.declared.snapshots.SnapshotFault.{SnapshotFault}
use Rattle.vring_layout.specs.declared.snapshots.SnapshotFault.TheVariants.{StillTurn, NoMemory}

-- the text of a fault (own): a turn that is another's has the number 79
abbrev pub fault_text : SnapshotFault → List ℕ
fault_text (StillTurn caller) = codes "fault 79"
fault_text NoMemory = codes "out of memory"
