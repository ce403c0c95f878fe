use Rattle.std.proofs.Common.{ℕ, List, Option, Err, IfOk, is_some, refl, sym, ap, subst, ◌∙◌}
use Rattle.std.proofs.lemmas.Bool.{true≢false}
use Rattle.rp_io.specs.Images.{IsToldFor, IsToldUnder, answer_of}
use Rattle.rp_io.specs.declared.faults.NoImage.TheVariants as no_image
use Rattle.rp_io.proofs.TextNames.{text_is, text_none}
use Rattle.rp_io.proofs.look_ups.look_up_bytes.Goals as goal

pub returns-in-Ok-clause-told : goal.returns-in-Ok-clause-told
returns-in-Ok-clause-told g c =
    let images = g.F.FirmwareStore.images c.args.store.now in
    subst (λ (asked : Option (List ℕ)). IfOk c.look_up.result (λ found. IsToldFor images asked (answer_of found))) (sym (text_is c.args.name.now c.in-Ok.ensures.cases.1))
    (subst (λ (asked : List ℕ). IfOk c.look_up.result (λ found. IsToldUnder images asked (answer_of found))) c.in-Ok.ensures.cases.0 c.look_up.ensures.told)

pub returns-in-Ok-clause-asked : goal.returns-in-Ok-clause-asked
returns-in-Ok-clause-asked g c = λ failed. ap is_some (text_is c.args.name.now c.in-Ok.ensures.cases.1)

pub returns-in-Ok-clause-unasked : goal.returns-in-Ok-clause-unasked
returns-in-Ok-clause-unasked g c = λ unasked. absurd (true≢false (ap is_some (sym (text_is c.args.name.now c.in-Ok.ensures.cases.1) ∙ unasked)))

pub returns-in-Err-clause-told : goal.returns-in-Err-clause-told
returns-in-Err-clause-told g c =
    subst (λ (asked : Option (List ℕ)). IsToldFor (g.F.FirmwareStore.images c.args.store.now) asked (Err no_image.Missing)) (sym (text_none c.args.name.now c.in-Err.ensures.cases.0)) refl
