use Rattle.std.proofs.Common.{◌≡◌, inl, inr, arith, false, get_or, subst}
use Rattle.std.proofs.lemmas.Bool.{cases_lt}
use Rattle.std.proofs.lemmas.Grind.{common_steps}
use Rattle.std.proofs.lemmas.List.{get_or_default}
use Rattle.resource_table.specs.PatchedEntries.{IsSmallFix}
use Rattle.resource_table.specs.declared.fixes.Fix.{Fix}
use Rattle.resource_table.proofs.fixes.write_fixes.Goals as goal

pub loop-fix-preserved : goal.loop-fix-preserved
loop-fix-preserved c =
    let fixes = c.args.fixes.now in
    let index = c.loop-fix.fix-index in
    let none : Fix = record { entry = 0; rings = false; ring = 0; da = 0; pa = 0; notify = 0 } in
    record {
      written = grind (arith, common_steps);
      small = λ k d low.
          elim (cases_lt k index) [
            | inl less ↦ c.loop-fix.invariant.small k d less
            | inr past ↦
                let same : index ≡ k = omega arith in
                subst (λ i. IsSmallFix (get_or fixes i d)) same (subst IsSmallFix (get_or_default fixes index none d (omega arith)) c.write_fix.ensures.small)
          ];
    }
