use Rattle.std.proofs.Common.{◌≡◌, ℕ, ◌≤◌, Option, sym, ap, ◌∙◌, subst}
use Rattle.fw_load.specs.Faults.{load_fault_number}
use Rattle.c_forms.specs.Faults.{fault_of, load_fault_form}
use Rattle.c_forms.specs.declared.faults.CFault.{CFault}
use Rattle.c_forms.proofs.Numbers.{load_number}
use Rattle.c_forms.proofs.faults.CFault.of_load.Goals as goal

pub returns-clause-number : goal.returns-clause-number
returns-clause-number c =
    let why = c.args.fault in
    let is : c.of.result ≡ load_fault_form why =
    c.of.ensures ∙ ap (λ (number : Option ℕ). fault_of number c.index.result) c.number.ensures ∙ ap (λ (about : Option ℕ). fault_of (load_fault_number why) about) c.index.ensures in
    subst (λ (told : CFault). 1 ≤ told.number) (sym is) (load_number why)
