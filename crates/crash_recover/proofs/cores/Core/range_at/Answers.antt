use Rattle.std.proofs.Common.{IfSome}
use Rattle.crash_recover.proofs.CoreParts.{IsWhole, given_whole, nth_block, ranges_some}
use Rattle.crash_recover.proofs.cores.Core.range_at.Goals as goal

pub returns-in-Some-clause-some : goal.returns-in-Some-clause-some
returns-in-Some-clause-some c =
    let core = c.args.self.now in
    let whole : IfSome core.loaded (IsWhole core.regions) = rw (← c.self.view_is) (given_whole c.self.inside.regions c.self.inside.loaded c.as_slice-regions.ensures.sound c.self.invariant.loaded) in
    ranges_some core whole

pub returns-in-Some-clause-part : goal.returns-in-Some-clause-part
returns-in-Some-clause-part c =
    let core = c.args.self.now in
    let whole : IfSome core.loaded (IsWhole core.regions) = rw (← c.self.view_is) (given_whole c.self.inside.regions c.self.inside.loaded c.as_slice-regions.ensures.sound c.self.invariant.loaded) in
    nth_block core c.args.index whole

pub returns-in-None-clause-some : goal.returns-in-None-clause-some
returns-in-None-clause-some c =
    let core = c.args.self.now in
    let whole : IfSome core.loaded (IsWhole core.regions) = rw (← c.self.view_is) (given_whole c.self.inside.regions c.self.inside.loaded c.as_slice-regions.ensures.sound c.self.invariant.loaded) in
    ranges_some core whole

pub returns-in-None-clause-part : goal.returns-in-None-clause-part
returns-in-None-clause-part c =
    let core = c.args.self.now in
    let whole : IfSome core.loaded (IsWhole core.regions) = rw (← c.self.view_is) (given_whole c.self.inside.regions c.self.inside.loaded c.as_slice-regions.ensures.sound c.self.invariant.loaded) in
    nth_block core c.args.index whole
