use Rattle.std.proofs.Common.{◌≡◌, cond, rules}
use Rattle.rpmsg_header.proofs.NameInFront.{name_in_front}
use Rattle.rpmsg_header.proofs.services.ns_write.Goals as goal

pub returns : goal.returns
returns c =
    let ns = c.args.ns.now in
    let flags : c.from.result ≡ cond ns.destroy 1 0 = search rules in
    let front = name_in_front ns.name ns.address c.from.result c.bytes-name.ensures.short in
    cc
