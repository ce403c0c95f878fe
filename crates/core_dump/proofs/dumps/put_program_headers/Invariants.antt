use Rattle.std.proofs.Common.{◌≡◌, ◌+◌, ◌++◌, drop}
use Rattle.elf_writer.specs.Loads.{load_headers}
use Rattle.core_dump.specs.Parts.{data_len}
use Rattle.core_dump.specs.Dumps.{loads_from}
use Rattle.core_dump.proofs.dumps.put_program_headers.Given as goal

-- what is written so far with the headers of the parts that are left makes the whole
abbrev pub invariant-loop-part : goal.invariant-loop-part
invariant-loop-part l = record {
  whole : l.dump.items ++ load_headers (loads_from l.offset (drop l.part-index l.parts)) ≡ l.fn.dump.items ++ load_headers (loads_from l.start l.parts);
  left : l.offset + data_len (drop l.part-index l.parts) ≡ l.start + data_len l.parts;
}
