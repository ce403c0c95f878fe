use Rattle.std.proofs.Common.{◌≡◌, ◌+◌, ◌<◌, ◌≤◌, ◌∷◌, drop, length, map, set, sym, ap, ◌∙◌, subst, arith}
use Rattle.elf_image.specs.SegmentsRead.{segment_read}
use Rattle.c_forms.specs.Forms.{segment_form}
use Rattle.c_forms.specs.declared.segments.CSegment.{CSegment}
use Rattle.c_forms.proofs.Puts.{IsPut, count_of, left_more, past_end, put_all, put_more, status_all}
use Rattle.c_forms.proofs.segments.put_segments.Goals as goal

pub loop-segment-preserved : goal.loop-segment-preserved
loop-segment-preserved c =
    let told = map segment_form c.args.segments in
    let array = c.loop-segment.array in
    let was = c.args.array.now in
    let place = c.loop-segment.place in
    let one = segment_form (segment_read c.in-Some.segment) in
    let rest = map segment_form c.next.new.self in
    let left : drop place told ≡ one ∷ rest = c.loop-segment.invariant.left ∙ ap (map segment_form) c.in-Some.ensures.steps in
    let below : place < length was = omega (arith, c.loop-segment.invariant.put.room) in
    record {
      put =
          subst (λ (x : CSegment). IsPut told (set array place x) was (place + 1)) (sym c.of.ensures)
          (put_more told array was place one rest left c.loop-segment.auto.array below c.loop-segment.invariant.put);
      left = left_more told place one rest left;
    }

pub returns : goal.returns
returns c =
    let told = map segment_form c.args.segments in
    let was = c.args.array.now in
    let put = c.loop-segment.invariant.put in
    let past : length told ≤ c.loop-segment.place = past_end told c.loop-segment.place (c.loop-segment.invariant.left ∙ ap (map segment_form) c.in-None.ensures.steps.0) in
    record {
      status = sym (status_all told was (omega (arith, put.room, put.among)));
      segments = put_all told c.loop-segment.array was c.loop-segment.place past put;
      count = sym (count_of told c.loop-segment.array was c.loop-segment.place past put);
    }
