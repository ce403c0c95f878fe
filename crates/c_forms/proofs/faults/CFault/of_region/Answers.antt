use Rattle.std.proofs.Common.{◌≡◌, ℕ, ◌≤◌, Option, Some, sym, ap, ◌∙◌, subst}
use Rattle.c_forms.specs.Faults.{fault_of, region_fault_form}
use Rattle.c_forms.specs.declared.faults.CFault.{CFault}
use Rattle.c_forms.proofs.Numbers.{region_number}
use Rattle.c_forms.proofs.faults.CFault.of_region.Goals as goal

pub returns-clause-number : goal.returns-clause-number
returns-clause-number c =
    let is : c.of.result ≡ region_fault_form c.args.index c.args.fault = c.of.ensures ∙ ap (λ (number : Option ℕ). fault_of number (Some c.args.index)) c.number.ensures in
    subst (λ (told : CFault). 1 ≤ told.number) (sym is) (region_number c.args.index c.args.fault)
