use Rattle.std.proofs.Common.{◌∙◌, ap, arith}
use Rattle.word_kinds.proofs.Hexadecimals.{pushed_one, pushed_more}
use Rattle.word_kinds.proofs.pieces.+push_hexadecimal.Goals.{then-number-ge16+in_ok-push_hexadecimal, else-number-ge16}
use Rattle.word_kinds.proofs.pieces.+push_hexadecimal.Goals as goal

pub returns-clause-whole : goal.returns-clause-whole
returns-clause-whole t c = elim c.if-number-ge16.branch [
  | then-number-ge16+in_ok-push_hexadecimal w ↦
      pushed_more c.args.number c.hex_digit.result c.args.out.now.items c.if-number-ge16.out.items c.push.new.self.items (omega (arith, w.if-number-ge16)) c.ranges.number.fits
      (ap (λ v. v.items) w.out-is ∙ w.in_ok-push_hexadecimal.ensures.whole) c.in_ok-push.ensures.items c.hex_digit.ensures
  | else-number-ge16 w ↦
      pushed_one c.args.number c.hex_digit.result c.args.out.now.items c.if-number-ge16.out.items c.push.new.self.items (omega (arith, w.if-number-ge16))
      (ap (λ v. v.items) w.out-is) c.in_ok-push.ensures.items c.hex_digit.ensures
]
