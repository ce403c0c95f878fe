use Rattle.std.proofs.Common.{◌+◌, drop, sym, ◌∙◌}
use Rattle.std.proofs.lemmas.List.Elements.{All-push}
use Rattle.resource_table.specs.Entries.{entries_of}
use Rattle.memory_pool.proofs.Steps.{drop_get}
use Rattle.addr_translate.specs.Maps.{place_at}
use Rattle.fw_load.specs.Rings.{IsTraceIn, trace_of}
use Rattle.fw_load.proofs.Steps.{kept_more, left_more}
use Rattle.fw_load.proofs.traces.traces_of.Goals as goal
use Rattle.fw_load.proofs.traces.traces_of.Goals.{in-Some+in_ok-push, in_default}

pub loop-index-preserved : goal.loop-index-preserved
loop-index-preserved c =
    let entries = entries_of c.args.table.now in
    let index = c.loop-index.index in
    let all = c.loop-index.traces.items in
    let left = drop_get entries index c.entry.result c.entry.ensures.entry in
    elim c.match-trace_of.branch [
      | in-Some+in_ok-push w ↦ record {
        whole =
            rw (w.traces-is, w.in_ok-push.ensures.items)
            (kept_more (trace_of (place_at c.args.map.now)) all (drop index entries) (drop (index + 1) entries) c.entry.result w.in-Some.trace left (sym c.trace_of.ensures.trace ∙ w.in-Some.is)
            ∙ c.loop-index.invariant.whole);
        inside =
            rw (w.traces-is, w.in_ok-push.ensures.items)
            (All-push (IsTraceIn c.args.map.now.memory_len) all w.in-Some.trace c.loop-index.invariant.inside w.in-Some.ensures.inside);
      }
      | in_default w ↦ record {
        whole =
            rw w.traces-is
            (left_more (trace_of (place_at c.args.map.now)) all (drop index entries) (drop (index + 1) entries) c.entry.result left (sym c.trace_of.ensures.trace ∙ w.in_default.is)
            ∙ c.loop-index.invariant.whole);
        inside = rw w.traces-is c.loop-index.invariant.inside;
      }
    ]
