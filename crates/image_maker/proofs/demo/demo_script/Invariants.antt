use Rattle.std.proofs.Common.{◌≡◌, ◌<◌, ◌∷◌}
use Rattle.std.specs.Prelude.{codes}
use Rattle.image_maker.specs.Demo.{first_lines, number_at, text_of}
use Rattle.image_maker.proofs.demo.demo_script.Given as goal

abbrev pub invariant-loop-session : goal.invariant-loop-session
invariant-loop-session l = record {
  written : l.text.items ≡ text_of (codes "quiet on" ∷ first_lines l.fn.sessions l.session);
  place : l.number ≡ number_at l.fn.sessions l.session;
  range : l.number < 2147483648;
}
