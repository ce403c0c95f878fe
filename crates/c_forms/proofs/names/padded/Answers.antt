use Rattle.std.proofs.Common.{ℕ, List, ◌++◌, length, drop, replicate, ap, ◌∙◌}
use Rattle.std.proofs.lemmas.List.{drop-replicate}
use Rattle.rp_base.specs.Texts.{padded_name}
use Rattle.c_forms.proofs.names.padded.Goals as goal

pub returns : goal.returns
returns c =
    let text : List ℕ = c.bytes-text.result.now in
    ap (λ (front : List ℕ). front ++ drop (length text) (replicate 32 0)) c.copy_from_slice.ensures.after
    ∙ ap (λ (zeros : List ℕ). text ++ zeros) (drop-replicate {X = ℕ} (length text) 32 0)
    ∙ ap padded_name c.bytes-text.ensures.bytes
