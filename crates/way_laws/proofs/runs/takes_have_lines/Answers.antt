use Rattle.way_laws.proofs.ToldTakes.{act_told, core_act_told, core_pump_told, drive_told, pump_told}
use Rattle.way_laws.proofs.runs.takes_have_lines.Goals as goal

pub returns : goal.returns
returns c = record {
  act = λ found run asked place act on caller number judged has does took. act_told found run asked place act on caller number judged has does took;
  of_core = λ found run asked place act on bench caller number judged has linked does took. core_act_told found run asked place act on bench caller number judged has linked does took;
  pump = λ found run asked place act on done came has does pumped. pump_told found run asked place act on done came has does pumped;
  pump_of_core = λ found run asked place act on bench done came has linked does pumped. core_pump_told found run asked place act on bench done came has linked does pumped;
  drive = λ told commands found asked place count caller on runs has does. drive_told told commands found asked place count caller on runs has does;
}
