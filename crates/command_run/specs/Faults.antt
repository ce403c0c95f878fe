-- What a command comes to where the store or the sink failed, or memory ran out (own).
use Rattle.command_run.specs.declared.faults.CommandFault.{CommandFault}
use Rattle.command_run.specs.declared.faults.CommandFault.TheVariants as command_fault
use Rattle.command_run.specs.declared.faults.OutputFault.{OutputFault}
use Rattle.command_run.specs.declared.faults.OutputFault.TheVariants as output_fault
use Rattle.rp_io.specs.declared.faults.StoreFault.{StoreFault}
use Rattle.rp_io.specs.declared.faults.StoreFault.TheVariants as store_fault

-- a store did not say what it has
abbrev pub store_command_fault : StoreFault → CommandFault
store_command_fault store_fault.Failed = command_fault.Store
store_command_fault store_fault.NoMemory = command_fault.NoMemory

-- lines were not written to their end
abbrev pub output_command_fault : OutputFault → CommandFault
output_command_fault output_fault.Failed = command_fault.Write
output_command_fault output_fault.NoMemory = command_fault.NoMemory
