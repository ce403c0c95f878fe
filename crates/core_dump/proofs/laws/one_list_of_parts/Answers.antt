use Rattle.std.proofs.Common.{sym, ◌∙◌}
use Rattle.core_dump.specs.Dumps.{dump_of}
use Rattle.core_dump.proofs.ReadBack.{dump_read, same_parts}
use Rattle.core_dump.proofs.laws.one_list_of_parts.Goals as goal

pub returns-clause-parts : goal.returns-clause-parts
returns-clause-parts c = λ entry other_entry parts others dump one other. same_parts entry other_entry parts others dump one other

pub returns-clause-entry : goal.returns-clause-entry
returns-clause-entry c = λ entry other_entry parts others dump one other. sym one.entry_is ∙ other.entry_is

pub returns-clause-written : goal.returns-clause-written
returns-clause-written c = λ entry other_entry parts written low are back.
    same_parts entry other_entry parts written (dump_of other_entry written) back (dump_read other_entry written low are)
