use Rattle.std.proofs.Common.{ℕ, List, Result, Ok, Err, Vec, ap, subst, ◌∙◌}
use Rattle.std.specs.declared.alloc.Global.{Global}
use Rattle.rp_io.specs.Images.{IsToldUnder, answer_of}
use Rattle.rp_io.specs.declared.faults.NoImage.{NoImage}
use Rattle.rp_io.specs.declared.faults.NoImage.TheVariants as no_image
use Rattle.image_report.specs.Reports.{IsImageReport, image_report}
use Rattle.script_run.proofs.FetchedReports.{told_report}
use Rattle.script_run.proofs.reports.fetch_report.Goals as goal

pub returns-in_ok-report_image-in-Ok-clause-report : goal.returns-in_ok-report_image-in-Ok-clause-report
returns-in_ok-report_image-in-Ok-clause-report g c =
    let images = g.F.FirmwareStore.images c.args.store.now in
    let word = c.args.word.now in
    let made = c.in_ok-report_image-in-Ok.field-0 in
    told_report images c.args.name word made (Ok c.in-Ok.image.items) c.requires
    (subst (λ (found : Result (Vec ℕ Global) NoImage). IsToldUnder images word (answer_of found)) c.in-Ok.is c.in_ok-image.ensures.told)
    (subst (λ (text : List ℕ). IsImageReport made (image_report text)) c.deref.ensures.value c.in_ok-report_image-in-Ok.ensures)

pub returns-in_ok-refuse-in-Err-Missing-clause-report : goal.returns-in_ok-refuse-in-Err-Missing-clause-report
returns-in_ok-refuse-in-Err-Missing-clause-report g c =
    let images = g.F.FirmwareStore.images c.args.store.now in
    let word = c.args.word.now in
    told_report images c.args.name word c.in_ok-refuse-in-Err-Missing.field-0 (Err no_image.Missing) c.requires
    (subst (λ (found : Result (Vec ℕ Global) NoImage). IsToldUnder images word (answer_of found)) (c.in-Err-Missing.is ∙ ap (λ (why : NoImage). Err why) c.in-Err-Missing.field-0-is) c.in_ok-image.ensures.told)
    c.in_ok-refuse-in-Err-Missing.ensures

pub returns-in_ok-refuse-in-Err-TooLarge-clause-report : goal.returns-in_ok-refuse-in-Err-TooLarge-clause-report
returns-in_ok-refuse-in-Err-TooLarge-clause-report g c =
    let images = g.F.FirmwareStore.images c.args.store.now in
    let word = c.args.word.now in
    told_report images c.args.name word c.in_ok-refuse-in-Err-TooLarge.field-0 (Err (no_image.TooLarge c.in-Err-TooLarge.field-0-0)) c.requires
    (subst (λ (found : Result (Vec ℕ Global) NoImage). IsToldUnder images word (answer_of found)) (c.in-Err-TooLarge.is ∙ ap (λ (why : NoImage). Err why) c.in-Err-TooLarge.field-0-is) c.in_ok-image.ensures.told)
    c.in_ok-refuse-in-Err-TooLarge.ensures
