use Rattle.std.proofs.Common.{◌≡◌, length, ap, arith, length-take}
use Rattle.c_forms.proofs.messages.write_head.Goals as goal

pub copy_from_slice-requires : goal.copy_from_slice-requires
copy_from_slice-requires c =
    let sized : length c.head.result ≡ 16 = ap length c.head.ensures in
    omega (arith, length-take 16 c.args.buffer.now)
