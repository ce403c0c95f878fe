use Rattle.std.proofs.Common.{◌≡◌, ◌++◌, take, sym, ◌∙◌, ap, append-nil}
use Rattle.word_kinds.specs.Readings.{without_escapes}
use Rattle.word_kinds.proofs.Channels.{channel_found}
use Rattle.word_kinds.proofs.readings.channel.Goals as goal

pub returns : goal.returns
returns c =
    let text = take c.loop-byte.count c.loop-byte.bytes in
    let whole : text ≡ without_escapes c.args.word.now = sym (append-nil text) ∙ sym (ap (λ rest. text ++ rest) c.in_default.ensures.none) ∙ c.loop-byte.invariant.read in
    channel_found text (without_escapes c.args.word.now) c.of.result whole c.of.ensures.some c.of.ensures.fits c.of.ensures.none
