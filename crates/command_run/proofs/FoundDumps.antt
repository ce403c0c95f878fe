-- The dump of a core that a run has.
use Rattle.std.proofs.Common.{◌≡◌, List, ℕ, Some, ap}
use Rattle.command_run.specs.Dumps.{core_answer, crashed_load, kept_dumps, load_answer}
use Rattle.command_run.specs.NamedCores.{NamedCoreState}
use Rattle.command_run.specs.Runs.{ObjectsState, core_under, dump_answer, has_image}

pub found_dump : (objects : ObjectsState) (name image : List ℕ) (named : NamedCoreState) → core_under objects name ≡ Some named
    → dump_answer objects name image
    ≡ load_answer (has_image objects.images image) (kept_dumps objects.images) name image named.core (crashed_load named.core.life.state named.core.loaded)
found_dump objects name image named is = ap (core_answer (has_image objects.images image) (kept_dumps objects.images) name image) is
