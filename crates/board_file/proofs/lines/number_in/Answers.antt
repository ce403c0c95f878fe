use Rattle.std.proofs.Common.{arith, rules, true, ◌≡◌}
use Rattle.word_kinds.specs.Kinds.{is_of}
use Rattle.word_kinds.specs.declared.kinds.Kind.TheVariants as kind
use Rattle.script_lang.proofs.Ranges.{in_range}
use Rattle.board_file.proofs.lines.number_in.Goals as goal

pub overflow_cast-result : goal.overflow_cast-result
overflow_cast-result c =
    let good : is_of kind.Number c.word_at.result.now ≡ true = search rules in
    let small = rw c.word_at.ensures at (in_range kind.Number c.word_at.result.now good) in
    omega (arith, c.number_at.ensures, small)
