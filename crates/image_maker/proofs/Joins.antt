-- Parts that are written one after the other.
use Rattle.std.proofs.Common.{◌≡◌, ℕ, ◌-◌, List, ◌++◌, length, take, replicate, ◌∙◌, ap, append_assoc, arith}
use Rattle.std.proofs.lemmas.List.{take-replicate}
use Rattle.rp_base.specs.Texts.{padded_name}

pub two_parts : (out first second out1 out2 : List ℕ) → out1 ≡ out ++ first → out2 ≡ out1 ++ second → out2 ≡ out ++ (first ++ second)
two_parts out first second out1 out2 e f = f ∙ ap (λ x. x ++ second) e ∙ append_assoc out first second

pub three_parts : (out first second third out1 out2 out3 : List ℕ) → out1 ≡ out ++ first → out2 ≡ out1 ++ second → out3 ≡ out2 ++ third → out3 ≡ out ++ (first ++ second ++ third)
three_parts out first second third out1 out2 out3 e f g = two_parts out (first ++ second) third out2 out3 (two_parts out first second out1 out2 e f) g

-- a name with zeros behind it
pub padded_part : (out bytes name out1 out2 : List ℕ) → bytes ≡ name → out1 ≡ out ++ bytes → out2 ≡ out1 ++ take (32 - length bytes) (replicate 32 0) → out2 ≡ out ++ padded_name name
padded_part out bytes name out1 out2 same e f =
    f ∙ ap (λ zeros. out1 ++ zeros) (take-replicate (32 - length bytes) 32 0 (omega arith)) ∙ ap (λ x. x ++ replicate (32 - length bytes) 0) e
    ∙ append_assoc out bytes (replicate (32 - length bytes) 0) ∙ ap (λ text. out ++ padded_name text) same
