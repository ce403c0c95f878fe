use Rattle.std.proofs.Common.{◌++◌, ◌+◌, ◌∙◌, ℕ, List, ap, refl, slice_index}
use Rattle.storm_run.specs.Storms.{caller_line}
use Rattle.storm_run.proofs.Ranges.{text_more}
use Rattle.storm_run.proofs.reports.push_callers.Goals as goal

pub loop-place-preserved : goal.loop-place-preserved
loop-place-preserved c =
    let number = c.args.first + c.loop-place.place in
    let line : ℕ → List ℕ = λ n. caller_line n c.args.end (slice_index c.args.sent.now n) in
    c.in_ok-push_caller.ensures
    ∙ (ap (λ (n : ℕ). c.loop-place.text.items ++ caller_line number c.args.end (slice_index c.args.sent.now n)) c.from.ensures
    ∙ (ap (λ (l : List ℕ). l ++ line number) c.loop-place.invariant ∙ text_more line c.args.text.now.items c.args.first c.loop-place.place number refl))
