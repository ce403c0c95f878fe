use Rattle.std.proofs.Common.{IfSome}
use Rattle.crash_recover.proofs.CoreParts.{IsWhole, blocks_are, blocks_fit, given_whole, ranges_some}
use Rattle.crash_recover.proofs.cores.Core.ranges.Goals as goal

pub returns-in-Some-clause-some : goal.returns-in-Some-clause-some
returns-in-Some-clause-some c =
    let core = c.args.self.now in
    let whole : IfSome core.loaded (IsWhole core.regions) = rw (← c.self.view_is) (given_whole c.self.inside.regions c.self.inside.loaded c.as_slice-regions.ensures.sound c.self.invariant.loaded) in
    ranges_some core whole

pub returns-in-Some-clause-blocks : goal.returns-in-Some-clause-blocks
returns-in-Some-clause-blocks c =
    let core = c.args.self.now in
    let whole : IfSome core.loaded (IsWhole core.regions) = rw (← c.self.view_is) (given_whole c.self.inside.regions c.self.inside.loaded c.as_slice-regions.ensures.sound c.self.invariant.loaded) in
    blocks_are core whole

pub returns-in-Some-clause-fit : goal.returns-in-Some-clause-fit
returns-in-Some-clause-fit c =
    let core = c.args.self.now in
    let whole : IfSome core.loaded (IsWhole core.regions) = rw (← c.self.view_is) (given_whole c.self.inside.regions c.self.inside.loaded c.as_slice-regions.ensures.sound c.self.invariant.loaded) in
    λ some. blocks_fit core whole some

pub returns-in-None-clause-some : goal.returns-in-None-clause-some
returns-in-None-clause-some c =
    let core = c.args.self.now in
    let whole : IfSome core.loaded (IsWhole core.regions) = rw (← c.self.view_is) (given_whole c.self.inside.regions c.self.inside.loaded c.as_slice-regions.ensures.sound c.self.invariant.loaded) in
    ranges_some core whole

pub returns-in-None-clause-blocks : goal.returns-in-None-clause-blocks
returns-in-None-clause-blocks c =
    let core = c.args.self.now in
    let whole : IfSome core.loaded (IsWhole core.regions) = rw (← c.self.view_is) (given_whole c.self.inside.regions c.self.inside.loaded c.as_slice-regions.ensures.sound c.self.invariant.loaded) in
    blocks_are core whole

pub returns-in-None-clause-fit : goal.returns-in-None-clause-fit
returns-in-None-clause-fit c =
    let core = c.args.self.now in
    let whole : IfSome core.loaded (IsWhole core.regions) = rw (← c.self.view_is) (given_whole c.self.inside.regions c.self.inside.loaded c.as_slice-regions.ensures.sound c.self.invariant.loaded) in
    λ some. blocks_fit core whole some
