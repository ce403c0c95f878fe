use Rattle.std.proofs.Common.{map, sym, ◌∙◌, subst}
use Rattle.script_lang.specs.Steps.{IsStepped}
use Rattle.script_lang.proofs.Front.{outside_line, inside_line}
use Rattle.script_lang.proofs.progress.take_line.Goals as goal

pub returns-in-None : goal.returns-in-None
returns-in-None c =
    let said = outside_line c.args.progress.now c.args.line.now (map (λ word. word.now) c.args.words.now) c.requires
    (sym c.is_skipped.ensures ∙ c.if-is_skipped.false) (sym c.is_printable.ensures ∙ c.if-not-is_printable.false) c.in-None.is in
    subst (λ step. IsStepped step c.args.progress.now c.take_outside.new.progress c.take_outside.result) (sym said) c.take_outside.ensures

pub returns-in-Some : goal.returns-in-Some
returns-in-Some c =
    let said = inside_line c.args.progress.now c.args.line.now (map (λ word. word.now) c.args.words.now) c.in-Some.name c.requires
    (sym c.is_skipped.ensures ∙ c.if-is_skipped.false) (sym c.is_printable.ensures ∙ c.if-not-is_printable.false) c.in-Some.is in
    subst (λ step. IsStepped step c.args.progress.now c.take_inside.new.progress c.take_inside.result) (sym said) c.take_inside.ensures
