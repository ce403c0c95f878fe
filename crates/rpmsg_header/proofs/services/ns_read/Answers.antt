use Rattle.std.proofs.Common.{arith, length-take}
use Rattle.rp_base.specs.declared.limits.TheConstants.{NAME_MOST}
use Rattle.rpmsg_header.proofs.services.ns_read.Goals as goal

pub slice_bounds-name_in-end : goal.slice_bounds-name_in-end
slice_bounds-name_in-end c = omega (arith, length-take NAME_MOST c.args.payload.now)

pub name_in-requires : goal.name_in-requires
name_in-requires c = omega (arith, length-take NAME_MOST c.args.payload.now)
