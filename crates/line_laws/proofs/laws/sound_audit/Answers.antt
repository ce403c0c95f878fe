use Rattle.line_laws.proofs.SoundText.{all_read, sound_hands_in_order}
use Rattle.line_laws.proofs.laws.sound_audit.Goals as goal

pub returns-clause-read : goal.returns-clause-read
returns-clause-read c = λ text count. all_read _ count

pub returns-clause-sound : goal.returns-clause-sound
returns-clause-sound c = sound_hands_in_order
