use Rattle.std.proofs.Common.{◌≡◌, drop}
use Rattle.elf_image.specs.Sections.{text_to_zero, is_name}
use Rattle.elf_image.proofs.sections.is_text.Given as goal

abbrev pub invariant-loop-byte : goal.invariant-loop-byte
invariant-loop-byte l =
    is_name (text_to_zero l.left) (drop l.byte-index l.name) ≡ is_name (text_to_zero l.bytes) l.name
