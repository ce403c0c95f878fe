use denote.Param.Send.{sendable}
use Rattle.atomic_table.proofs.owned.Table.TheSendSync as table
use Rattle.std.proofs.Crossing.{crosses}
use Rattle.split_ring.proofs.Crosses.{slot_send}
use Rattle.split_ring.proofs.threads.words_are_shared.Goals as goal

pub sync-requires-sync-T : goal.sync-requires-sync-T
sync-requires-sync-T g c κs within = search (sendable, crosses, slot_send, table.the_field_sync) depth 20
