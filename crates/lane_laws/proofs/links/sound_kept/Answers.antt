use Rattle.lane_laws.proofs.CrashLaws.{close_sound, reclaim_sound, reopen_sound}
use Rattle.lane_laws.proofs.LinkRuns.{moves_sound}
use Rattle.lane_laws.proofs.PartSteps.{manager_leaves_sound, manager_takes_sound, part_sound}
use Rattle.lane_laws.proofs.SoundKept.{caller_sound, step_sound}
use Rattle.lane_laws.proofs.links.sound_kept.Goals as goal

pub returns : goal.returns
returns g c = record {
  step = λ link caller follows wished sound may. step_sound g.D.Desk.meaning link caller follows wished sound may;
  caller = λ link new sound. caller_sound link new sound;
  close = λ link inc sound. close_sound link inc sound;
  reclaim = λ link caller shut sound. reclaim_sound g.D.Desk.meaning link caller shut sound;
  part = λ link end caller which shut user may sound. part_sound link end caller which shut user may sound;
  manager_takes = λ link which sound. manager_takes_sound link which sound;
  manager_leaves = λ link which sound. manager_leaves_sound link which sound;
  moves = λ start moves sound may. moves_sound g.D.Desk.meaning start moves sound may;
  reopen = λ link. reopen_sound g.D.Desk.meaning link;
}
