use Rattle.std.proofs.Common.{◌∙◌, ap}
use Rattle.word_kinds.specs.Readings.{is_channel, without_escapes, channel_read}
use Rattle.word_kinds.proofs.Channels.{no_name_read}
use Rattle.word_kinds.proofs.readings.channel_at.Goals as goal

pub returns-in-None : goal.returns-in-None
returns-in-None c =
    c.no_name.ensures ∙ no_name_read (is_channel (without_escapes c.word_at.result.now)) (without_escapes c.word_at.result.now) c.in-None.ensures ∙ ap channel_read c.word_at.ensures
