use Rattle.std.proofs.Common.{refl}
use Rattle.lane_laws.proofs.RingLinks.{close_kept, link_kept, reclaim_kept, reopen_kept}
use Rattle.lane_laws.proofs.RingMoves.{moves_kept}
use Rattle.lane_laws.proofs.rings.sound_kept.Goals as goal

pub returns : goal.returns
returns g c = record {
  step = link_kept g.D.Desk.meaning;
  close = λ link inc sound. close_kept link inc sound;
  reclaim = λ link caller sound. reclaim_kept g.D.Desk.meaning link caller sound;
  moves = λ link moves whole sound may. moves_kept g.D.Desk.meaning link moves whole sound may;
  reopen = λ link sound. reopen_kept g.D.Desk.meaning link sound;
  aside = λ link. (refl, refl);
}
