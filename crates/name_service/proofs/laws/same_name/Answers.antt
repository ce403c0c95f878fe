use Rattle.std.proofs.Common.{◌≡◌, ℕ, ◌-◌, List, eqb, false, length, ap, sym, ◌∙◌, subst}
use Rattle.std.specs.List.{list_any}
use Rattle.std.proofs.lemmas.Slice.Eq.{bytes_eq-Decides}
use Rattle.rp_base.specs.Texts.{padded_name, text_before_zero}
use Rattle.rp_base.proofs.Zeros.{text_before_zero-append, text_before_zero-is_clear}
use Rattle.name_service.proofs.laws.same_name.Goals as goal

read_back : (text : List ℕ) → text_before_zero text ≡ text → text_before_zero (padded_name text) ≡ text
read_back text is =
    text_before_zero-append text (32 - length text) (subst (λ t. list_any (λ byte. eqb byte 0) t ≡ false) is (text_before_zero-is_clear text))

pub returns : goal.returns
returns c = λ a b a_is b_is same. sym (read_back a a_is) ∙ ap text_before_zero ((bytes_eq-Decides (padded_name a) (padded_name b)).0 same) ∙ read_back b b_is
