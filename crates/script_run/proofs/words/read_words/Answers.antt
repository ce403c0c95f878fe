use Rattle.std.proofs.Common.{◌∙◌, map, sym}
use Rattle.clap.proofs.WalkLemmas.{list_any-map}
use Rattle.script_run.specs.Requests.{begins_with_dash}
use Rattle.script_run.proofs.WordForms.{dashed_form}
use Rattle.script_run.proofs.words.read_words.Goals as goal

pub returns-then-has_dashed_word-clause-form : goal.returns-then-has_dashed_word-clause-form
returns-then-has_dashed_word-clause-form c =
    dashed_form (map (λ word. word.now) c.args.words.now)
    (sym (list_any-map begins_with_dash (λ word. word.now) c.args.words.now) ∙ sym c.if-has_dashed_word.ensures)
