use Rattle.std.proofs.Common.{ℕ, List, Bor, sym, ◌∙◌, arith}
use Rattle.word_kinds.specs.Rows.{kind_in}
use Rattle.word_kinds.proofs.Rows.{misfit}
use Rattle.word_kinds.proofs.slots.has_texts.Goals as goal

pub returns-then-not-fits : goal.returns-then-not-fits
returns-then-not-fits c = λ same.
    misfit kind_in (λ (word : Bor (List ℕ)). word.now) c.args.slots.now c.args.words.now c.loop-place.place _ _ (omega arith) (omega arith) (sym c.fits.ensures ∙ c.if-not-fits.true)
