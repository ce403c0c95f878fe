use Rattle.link_bench.specs.Watchers.{nobody_sees}
use Rattle.core_actors.specs.ActorEnds.{actors_after_end}
use Rattle.act_laws.proofs.CoreLands.{close_at}
use Rattle.act_laws.proofs.DoneDeeds.{done_of}
use Rattle.act_laws.proofs.ReachedActs.{deeds_land}
use Rattle.act_laws.proofs.acts.acts_do.Goals as goal

pub returns : goal.returns
returns c = record {
  link = λ bench steps asked fit reached. done_of bench _ _ (deeds_land nobody_sees 0 bench tt steps asked fit reached);
  core = λ bench actors steps asked fit reached. done_of bench _ _ (deeds_land actors_after_end 2 bench actors steps asked fit reached);
  close = λ bench. done_of bench _ _ (close_at bench);
}
