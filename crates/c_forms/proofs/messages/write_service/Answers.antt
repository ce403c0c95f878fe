use Rattle.std.proofs.Common.{◌≡◌, length, ap, ◌∙◌, arith, length-take}
use Rattle.c_forms.proofs.ServiceBytes.{length-service_bytes}
use Rattle.c_forms.proofs.messages.write_service.Goals as goal

pub copy_from_slice-requires : goal.copy_from_slice-requires
copy_from_slice-requires c =
    let sized : length c.ns_write.result ≡ 40 = ap length c.ns_write.ensures ∙ length-service_bytes _ c.name_in.ensures.short in
    omega (arith, length-take 40 c.args.buffer.now)
