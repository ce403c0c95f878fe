use Rattle.std.proofs.Common.{◌<◌, length, inl, inr, subst, arith}
use Rattle.std.specs.Prelude.{Contains}
use Rattle.rp_base.specs.declared.limits.TheConstants.{NAME_MOST}
use Rattle.crash_recover.proofs.Names.{no_zero}
use Rattle.crash_recover.proofs.core_boots.name_of.Goals as goal

pub unreachable-requires : goal.unreachable-requires
unreachable-requires c =
    elim c.in_default.ensures.none [
      | inl long ↦
          let more : NAME_MOST < length c.args.text.now = subst (λ text. NAME_MOST < length text) c.as_bytes.ensures.value long in
          omega (arith, more, c.requires.short)
      | inr zero ↦ no_zero c.args.text.now c.requires.nonzero (subst (λ text. Contains text 0) c.as_bytes.ensures.value zero)
    ]
