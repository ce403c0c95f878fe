use Rattle.std.proofs.Common.{◌≡◌, drop, map}
use Rattle.c_forms.specs.Forms.{segment_form}
use Rattle.c_forms.proofs.Puts.{IsPut}
use Rattle.c_forms.proofs.segments.put_segments.Given as goal

-- the segments so far are written, and the others are left
abbrev pub invariant-loop-segment : goal.invariant-loop-segment
invariant-loop-segment l = record {
  put : IsPut (map segment_form l.fn.segments) l.array l.fn.array l.place;
  left : drop l.place (map segment_form l.fn.segments) ≡ map segment_form l.segment-iterator;
}
