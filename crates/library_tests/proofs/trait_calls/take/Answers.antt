use Rattle.std.proofs.Common.{refl}
use Rattle.lane_model.specs.Links.{link_of}
use Rattle.library_tests.proofs.trait_calls.take.Goals as goal

pub make_call-requires : goal.make_call-requires
make_call-requires g c = (link_of g.L.LaneForm.form c.args.link.now, refl, record { step = c.if-not-may_step.ensures; held = tt })
