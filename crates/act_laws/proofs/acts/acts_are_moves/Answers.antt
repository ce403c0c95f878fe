use Rattle.core_actors.specs.ActorEnds.{actors_after_end}
use Rattle.link_bench.specs.Watchers.{nobody_sees}
use Rattle.act_laws.proofs.ActMoves.{act_closed, acts_come}
use Rattle.act_laws.proofs.acts.acts_are_moves.Goals as goal

pub returns : goal.returns
returns c = record {
  moves = λ own bench steps asked fit is. acts_come nobody_sees own bench tt steps asked fit is;
  of_core = λ own bench actors steps asked fit is. acts_come actors_after_end own bench actors steps asked fit is;
  closed = λ own bench steps asked fit is shut. act_closed nobody_sees own bench tt steps asked fit is shut;
  closed_of_core = λ own bench actors steps asked fit is shut. act_closed actors_after_end own bench actors steps asked fit is shut;
}
