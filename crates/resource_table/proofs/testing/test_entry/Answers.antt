use Rattle.std.proofs.Common.{arith, sym, ap, refl}
use Rattle.resource_table.proofs.Sound.{sound_form}
use Rattle.resource_table.proofs.Meetings.{earlier_more}
use Rattle.resource_table.proofs.testing.test_entry.Goals as goal

pub returns-clause-earlier : goal.returns-clause-earlier
returns-clause-earlier c =
    let bytes = c.args.bytes.now in
    let index = c.args.index in
    let fixed = (sound_form bytes index (sym c.in_ok-test_form.ensures)).fixed in
    let span = ap (λ s. s.to) c.entry_span-span.ensures in
    earlier_more bytes index c.args.earlier.now _ c.is_rpmsg-rpmsg.result c.requires.earlier fixed c.is_rpmsg-rpmsg.ensures refl
    (omega (arith, c.max-earlier.ensures)) (omega (arith, c.max-earlier.ensures, span))
