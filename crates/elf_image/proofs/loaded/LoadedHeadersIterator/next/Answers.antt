use Rattle.std.proofs.Common.{sym, ap, ◌∙◌, length, arith}
use Rattle.elf_image.specs.Layout.{layout_for}
use Rattle.elf_image.specs.declared.layouts.Layout.{Layout}
use Rattle.elf_image.proofs.Tables.{header_is, loaded_from_more}
use Rattle.elf_image.proofs.loaded.LoadedHeadersIterator.next.Goals as goal

pub returns-then-is_loaded : goal.returns-then-is_loaded
returns-then-is_loaded c =
    let now = c.loop-self.self-inside in
    let layout = layout_for now.class in
    let read = c.read-numbered.result in
    let is = header_is layout now.header now.bytes.now now.next now.start read c.read-numbered.ensures.index c.read-numbered.ensures.header c.loop-self.invariant.table.at in
    let more = loaded_from_more layout now.header now.bytes.now now.next read c.is_loaded.result c.loop-self-test.true is c.is_loaded.ensures in
    let first = rw c.if-is_loaded.true at more in
    let e = sym c.self.view_is ∙ sym c.loop-self.invariant.left ∙ first in
    record { steps = e; goes = record { on = λ _. (tt, tt, omega (arith, ap length e)); keeps = tt; rests = λ _. tt } }

pub loop-self-preserved : goal.loop-self-preserved
loop-self-preserved c =
    let now = c.loop-self.self-inside in
    let layout = layout_for now.class in
    let read = c.read-numbered.result in
    let is = header_is layout now.header now.bytes.now now.next now.start read c.read-numbered.ensures.index c.read-numbered.ensures.header c.loop-self.invariant.table.at in
    let more = loaded_from_more layout now.header now.bytes.now now.next read c.is_loaded.result c.loop-self-test.true is c.is_loaded.ensures in
    let same = rw c.if-is_loaded.false at more in
    let size = ap (λ (layout : Layout). layout.program_header_size) c.layout.ensures.layout in
    record {
      table = record { inside = c.loop-self.invariant.table.inside; at = omega (arith, size, c.loop-self.invariant.table.at) };
      left = sym same ∙ c.loop-self.invariant.left;
    }
