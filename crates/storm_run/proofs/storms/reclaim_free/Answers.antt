use Rattle.std.proofs.Common.{refl, None}
use Rattle.split_ring.proofs.Refusals.{not_refused}
use Rattle.storm_run.proofs.Reclaimed.{all_of}
use Rattle.storm_run.proofs.storms.reclaim_free.Goals as goal

pub reclaim-requires-clause-parts : goal.reclaim-requires-clause-parts
reclaim-requires-clause-parts c = all_of c.args.link.now (record { caller = c.args.caller; call = None; held = c.new.result }) c.requires.free refl c.new.ensures.items

pub unreachable-requires : goal.unreachable-requires
unreachable-requires c = not_refused _ _ c.args.link.now c.args.manager.now (record { caller = c.args.caller; call = None; held = c.new.result }) c.reclaim.new.manager c.in-Err.field-0 c.requires.closed refl c.requires.free.holds_nothing c.in-Err.ensures.refused
