use Rattle.std.proofs.Common.{arith}
use Rattle.std.proofs.lemmas.Grind.{common_steps}
use Rattle.std.proofs.lemmas.List.Elements.{filter_map-append}
use Rattle.crash_recover.proofs.cores.Core.parts.Goals as goal
use Rattle.crash_recover.proofs.cores.Core.parts.Goals.{in-Some+in_ok-push, in_default}

pub loop-range-preserved : goal.loop-range-preserved
loop-range-preserved c =
    elim c.match-memory.branch [
      | in-Some+in_ok-push w ↦ grind (arith, common_steps, filter_map-append)
      | in_default w ↦ grind (arith, common_steps, filter_map-append)
    ]
