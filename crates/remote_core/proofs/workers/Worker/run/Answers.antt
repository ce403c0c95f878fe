use Rattle.std.proofs.Common.{◌≡◌, ◌∙◌, ap, Bool, true, cond, Result, Ok, Err}
use Rattle.addr_translate.specs.Maps.{Mapping}
use Rattle.remote_code.specs.declared.faults.WorkerFault.{WorkerFault}
use Rattle.remote_code.specs.declared.faults.WorkerFault.TheVariants.{CodeUnmapped}
use Rattle.remote_code.specs.declared.records.Record.{Record}
use Rattle.remote_core.specs.Records.{admitted, names_memory, next_record, tested, with_memory}
use Rattle.remote_core.specs.Works.{work_of_next, after_next}
use Rattle.remote_core.proofs.workers.Worker.run.Goals as goal

-- a record that was read and admitted runs if its bytes are there
read_and_admitted : (map : Mapping) (linked : Bool) (found : Result Record WorkerFault) (op allowed : Record) → Ok op ≡ found → Ok allowed ≡ admitted linked op → with_memory map allowed ≡ tested (with_memory map) (tested (admitted linked) found)
read_and_admitted map linked found op allowed is_read is_admitted =
    ap (tested (with_memory map)) (is_admitted ∙ ap (tested (admitted linked)) is_read)

-- a record whose bytes are there runs
is_done : (map : Mapping) (op : Record) → true ≡ names_memory map op → Ok op ≡ with_memory map op
is_done map op named = ap (λ there. cond there (Ok op) (Err CodeUnmapped)) named

pub returns-clause-work : goal.returns-clause-work
returns-clause-work c =
    let step = read_and_admitted c.args.map.now c.args.linked _ _ _ c.in_ok-op.ensures.record c.in_ok-op-2.ensures in
    rw (← c.self.view_is) (c.in_ok-task.ensures.work ∙ ap (work_of_next c.args.memory.now c.args.map.now c.self.inside.source) step)

pub returns-clause-worker : goal.returns-clause-worker
returns-clause-worker c =
    let step = read_and_admitted c.args.map.now c.args.linked _ _ _ c.in_ok-op.ensures.record c.in_ok-op-2.ensures in
    let done = is_done c.args.map.now _ c.in_ok-task.ensures.done in
    let next_is : Ok c.in_ok-op-2.op ≡ next_record c.args.memory.now c.args.map.now c.args.linked c.args.self.now = rw (← c.self.view_is) (done ∙ step) in
    c.advance.ensures ∙ ap (λ next. after_next next c.args.self.now) next_is
