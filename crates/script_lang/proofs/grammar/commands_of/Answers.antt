use Rattle.std.proofs.Common.{None, length, ap, arith}
use Rattle.script_lang.specs.Grammar.{lines_of, commands_from}
use Rattle.script_lang.proofs.Walk.{line_here}
use Rattle.script_lang.proofs.grammar.commands_of.Goals as goal

pub loop-words-preserved : goal.loop-words-preserved
loop-words-preserved c = record {
  said =
      line_here c.loop-words.progress c.take_line.new.progress c.loop-words.number c.loop-words.rest.now c.cut_line.result.0.now c.cut_line.result.1.now
      (commands_from 1 None (lines_of c.args.text.now)) c.loop-words.invariant.said c.cut_line.ensures.lines c.in-Ok.ensures;
  lines = omega (arith, c.loop-words.invariant.lines, ap length c.cut_line.ensures.lines);
}
