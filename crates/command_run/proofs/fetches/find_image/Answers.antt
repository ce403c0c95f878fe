use Rattle.std.proofs.Common.{◌≡◌, ℕ, List, Option, Some, None, is_some, Result, Err, refl, sym, ap, subst, ◌∙◌}
use Rattle.std.specs.Option.{option_copied}
use Rattle.std.specs.Prelude.{IfErr, IsTrue}
use Rattle.std.proofs.lemmas.Result.{IfErr-at_err, err_from_is_err_and}
use Rattle.rp_io.specs.Images.{ImageAnswer, IsToldFor, answer_of}
use Rattle.rp_io.specs.declared.faults.NoImage.TheVariants as no_image
use Rattle.rp_io.specs.declared.faults.StoreFault.{StoreFault}
use Rattle.rp_io.specs.declared.faults.StoreFault.TheVariants as store_fault
use Rattle.command_run.specs.declared.fetches.FoundImage.{FoundImage}
use Rattle.command_run.specs.CoreLives.{image_or, image_bytes}
use Rattle.command_run.proofs.AskedNames.{asked_outside, made_none, not_outside}
use Rattle.command_run.proofs.fetches.find_image.Goals as goal

pub returns-in-Some-clause-told : goal.returns-in-Some-clause-told
returns-in-Some-clause-told g c =
    let made = c.args.images.now in
    let name = c.args.name.now in
    let images = g.F.FirmwareStore.images c.args.store.now in
    let is : image_bytes made name ≡ Some c.in-Some.bytes.now = sym c.image_bytes.ensures ∙ ap option_copied c.in-Some.is in
    record {
      answer = Err no_image.Missing;
      is = subst (λ (asked : Option (List ℕ)). IsToldFor images asked (Err no_image.Missing)) (sym (not_outside made name c.in-Some.bytes.now is)) refl;
      image = sym (ap (image_or (Err no_image.Missing)) is);
    }

pub returns-in_err-look_up_bytes-clause-asked : goal.returns-in_err-look_up_bytes-clause-asked
returns-in_err-look_up_bytes-clause-asked g c = λ failed.
    let made = c.args.images.now in
    let name = c.args.name.now in
    let none : image_bytes made name ≡ None = sym c.image_bytes.ensures ∙ ap option_copied c.in_default.is in
    let told = err_from_is_err_and c.from_residual.result c.from_residual.ensures.1 in
    let same : store_fault.Failed ≡ told.0 = IfErr-at_err (λ why. why ≡ told.0) failed (subst (λ (answer : Result FoundImage StoreFault). IfErr answer (λ why. why ≡ told.0)) (sym told.1) refl) in
    subst (λ (asked : Option (List ℕ)). IsTrue (is_some asked)) (sym (asked_outside made name (made_none made name none)))
    (c.in_err-look_up_bytes.ensures.asked (ap (λ (why : StoreFault). Err why) (sym told.2 ∙ sym same)))

pub returns-in_err-look_up_bytes-clause-unasked : goal.returns-in_err-look_up_bytes-clause-unasked
returns-in_err-look_up_bytes-clause-unasked g c = λ unasked.
    let made = c.args.images.now in
    let name = c.args.name.now in
    let none : image_bytes made name ≡ None = sym c.image_bytes.ensures ∙ ap option_copied c.in_default.is in
    c.in_err-look_up_bytes.ensures.unasked (sym (asked_outside made name (made_none made name none)) ∙ unasked)

pub returns-clause-told : goal.returns-clause-told
returns-clause-told g c =
    let made = c.args.images.now in
    let name = c.args.name.now in
    let images = g.F.FirmwareStore.images c.args.store.now in
    let none : image_bytes made name ≡ None = sym c.image_bytes.ensures ∙ ap option_copied c.in_default.is in
    let answer : ImageAnswer = answer_of c.in_ok-look_up_bytes.field-0 in
    record {
      answer = answer;
      is = subst (λ (asked : Option (List ℕ)). IsToldFor images asked answer) (sym (asked_outside made name (made_none made name none))) c.in_ok-look_up_bytes.ensures.told;
      image = sym (ap (image_or answer) none);
    }

pub returns-clause-unasked : goal.returns-clause-unasked
returns-clause-unasked g c = λ unasked.
    let made = c.args.images.now in
    let name = c.args.name.now in
    let none : image_bytes made name ≡ None = sym c.image_bytes.ensures ∙ ap option_copied c.in_default.is in
    c.in_ok-look_up_bytes.ensures.unasked (sym (asked_outside made name (made_none made name none)) ∙ unasked)
