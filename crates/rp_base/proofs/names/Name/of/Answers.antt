use Rattle.std.proofs.Common.{◌≡◌, length, ◌++◌, eqb, false, drop, replicate, ap, arith}
use Rattle.std.specs.List.{list_any}
use Rattle.rp_base.proofs.Zeros.{padded_field, text_before_zero-clear}
use Rattle.rp_base.proofs.names.Name.of.Goals as goal

pub invariant_of-result : goal.invariant_of-result
invariant_of-result c =
    let text = c.args.text.now in
    let clear : list_any (λ byte. eqb byte 0) text ≡ false = cc in
    let field = padded_field text _ clear (ap (λ front. front ++ drop (length text) (replicate 32 0)) c.copy_from_slice.ensures.after) in
    (field.1, omega (arith, ap length field.0))

pub returns-clause-some : goal.returns-clause-some
returns-clause-some c =
    let text = c.args.text.now in
    let clear : list_any (λ byte. eqb byte 0) text ≡ false = cc in
    (padded_field text _ clear (ap (λ front. front ++ drop (length text) (replicate 32 0)) c.copy_from_slice.ensures.after)).0

pub returns-clause-fits : goal.returns-clause-fits
returns-clause-fits c =
    let clear : list_any (λ byte. eqb byte 0) c.args.text.now ≡ false = cc in
    (omega arith, text_before_zero-clear c.args.text.now clear)
