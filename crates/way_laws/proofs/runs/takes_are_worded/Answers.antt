use Rattle.link_bench.specs.Watchers.{nobody_sees}
use Rattle.core_actors.specs.ActorEnds.{actors_after_end}
use Rattle.way_laws.proofs.DrivenTakes.{drive_told}
use Rattle.way_laws.proofs.DrivenWords.{drive_worded}
use Rattle.way_laws.proofs.RunCoreTales.{cores_come}
use Rattle.way_laws.proofs.RunTales.{links_come}
use Rattle.way_laws.proofs.WordedLines.{act_none, act_tells, act_worded, take_worded}
use Rattle.way_laws.proofs.runs.takes_are_worded.Goals as goal

pub returns : goal.returns
returns c = record {
  reached = λ own bench steps asked caller came is end. act_tells nobody_sees bench tt steps own asked caller came is end;
  of_core = λ core bench steps asked caller came is end. act_tells actors_after_end bench core.actors steps 2 asked caller came is end;
  none = λ own bench steps asked quiet. act_none nobody_sees bench tt steps own asked quiet;
  none_of_core = λ core bench steps asked quiet. act_none actors_after_end bench core.actors steps 2 asked quiet;
  driven = λ core end. drive_told end core;
  line = λ name link caller number judged handing end found told. take_worded name link caller number judged handing end found told;
  one = λ own bench steps asked caller number judged fit reached comes is. act_worded nobody_sees bench tt steps reached comes own asked fit caller number judged is;
  one_of_core = λ core bench steps asked caller number judged fit reached comes is. act_worded actors_after_end bench core.actors steps reached comes 2 asked fit caller number judged is;
  one_driven = λ core caller number judged may reached comes is. drive_worded core may reached comes caller number judged is;
  links_come = λ told commands place on runs found. links_come told commands place on runs found;
  cores_come = λ told commands place on runs found. cores_come told commands place on runs found;
}
