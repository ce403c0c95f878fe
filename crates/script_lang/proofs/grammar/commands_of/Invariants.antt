use Rattle.std.proofs.Common.{◌≡◌, ◌+◌, None, length}
use Rattle.script_lang.specs.Grammar.{lines_of, commands_from, onto}
use Rattle.script_lang.specs.Steps.{image_of}
use Rattle.script_lang.proofs.Walk.{commands_left}
use Rattle.script_lang.proofs.grammar.commands_of.Given as goal

abbrev pub invariant-loop-words : goal.invariant-loop-words
invariant-loop-words l = record {
  said : onto l.progress.commands.items (commands_left l.number (image_of l.progress) l.rest) ≡ commands_from 1 None (lines_of l.text);
  lines : l.number + length (lines_of l.rest) ≡ 1 + length (lines_of l.text);
}

abbrev pub decreases-loop-words : goal.decreases-loop-words
decreases-loop-words l = length l.rest
