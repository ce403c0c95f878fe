use Rattle.ring_core.proofs.OneOwner.{owner_once}
use Rattle.link_words.proofs.Buffers.{rings_to}
use Rattle.link_words.proofs.Parts.{rings_in, near_in}
use Rattle.link_words.proofs.laws.shown_state.Goals as goal

pub returns : goal.returns
returns g c = record {
  sound = λ z s m p r. r.sound;
  owner = λ z s m p r e id. owner_once _ id (rings_to m e (rings_in r));
  near = λ z s m p r e. near_in r e;
  seen = λ z s m p r j l q there e. (r.histories.own j l q there).counts e;
}
