use Rattle.std.proofs.Common.{◌*◌, refl, sym, ap, subst}
use Rattle.rp_base.specs.declared.kinds.End.TheVariants as side
use Rattle.lane_model.specs.declared.lane_links.LaneLink.{LaneLink}
use Rattle.ring_core.specs.declared.states.RingState.{RingState}
use Rattle.link_words.specs.declared.rule.LinkSizes.{LinkSizes}
use Rattle.link_words.specs.Calls.{SeatState}
use Rattle.link_words.specs.PlacedLinks.{KnowsState}
use Rattle.link_words.specs.Reopens.{both_sides}
use Rattle.split_ring.specs.declared.callers.Manager.{Manager}
use Rattle.split_ring.specs.Reopens.{HasAllBeside, four_slots}
use Rattle.split_ring.specs.Snapshots.{IsLaneFound}
use Rattle.split_ring.specs.States.{all_taken}
use Rattle.split_ring.proofs.Finding.{shown_known}
use Rattle.split_ring.proofs.Gathering.{may_gather}
use Rattle.split_ring.proofs.CarriedMakes.{carrier_copied, keeps_copied}
use Rattle.split_ring.proofs.Emptied.{all_alone}
use Rattle.split_ring.proofs.ManagerSteps.{rests_with, still_resting}
use Rattle.split_ring.proofs.StateSteps.{all_again, nothing_out}
use Rattle.split_ring.proofs.links.SharedLink.snapshot.Goals as goal

pub take_lanes-requires-clause-manager : goal.take_lanes-requires-clause-manager
take_lanes-requires-clause-manager g c = let q = c.requires in let me = c.args.manager.now.seat.me in (me.0, (me.1, rests_with me q.rests))

pub returns-in-Err-clause-manager : goal.returns-in-Err-clause-manager
returns-in-Err-clause-manager g c = let q = c.requires in let me = c.args.manager.now.seat.me in let same = still_resting me c.take_lanes.new.seat.me q.rests (c.in-Err.ensures.met.0 me.0 me.1 (rests_with me q.rests)) in
    let after : Manager = record { seat = c.take_lanes.new.seat; users = c.args.manager.now.users; out = c.args.manager.now.out } in (carrier_copied c.args.self.now c.args.manager.now after same refl refl c.take_lanes.ensures.seat.at_table c.take_lanes.ensures.order q, refl)

pub returns-in-Err-clause-others : goal.returns-in-Err-clause-others
returns-in-Err-clause-others g c = let q = c.requires in let me = c.args.manager.now.seat.me in let same = still_resting me c.take_lanes.new.seat.me q.rests (c.in-Err.ensures.met.0 me.0 me.1 (rests_with me q.rests)) in
    let after : Manager = record { seat = c.take_lanes.new.seat; users = c.args.manager.now.users; out = c.args.manager.now.out } in keeps_copied c.args.self.now c.args.manager.now after same refl refl

pub returns-in-Err-clause-view : goal.returns-in-Err-clause-view
returns-in-Err-clause-view g c = let q = c.requires in let me = c.args.manager.now.seat.me in let same = still_resting me c.take_lanes.new.seat.me q.rests (c.in-Err.ensures.met.0 me.0 me.1 (rests_with me q.rests)) in ap (λ (s : SeatState). s.0) same

pub returns-in-Err-clause-refused : goal.returns-in-Err-clause-refused
returns-in-Err-clause-refused g c = c.in-Err.ensures.holder

pub returns-in-Err-clause-state : goal.returns-in-Err-clause-state
returns-in-Err-clause-state g c = λ m is. let met = c.in-Err.ensures.refused m is.known in (record { known = met.0; users = is.users }, met.1)

pub find_words-found-requires-clause-manager : goal.find_words-found-requires-clause-manager
find_words-found-requires-clause-manager g c = let q = c.requires in let me = c.args.manager.now.seat.me in let h = c.in-Ok.lanes.0 in let r = c.in-Ok.lanes.1 in
    may_gather me.0 (both_sides h.sender h.receiver) (both_sides r.sender r.receiver) (four_slots me.1) c.take_lanes.new.seat.me (c.in-Ok.ensures.taken me.0 me.1 (rests_with me q.rests))

pub put_lanes-requires-clause-manager : goal.put_lanes-requires-clause-manager
put_lanes-requires-clause-manager g c = let q = c.requires in let me = c.args.manager.now.seat.me in let h = c.in-Ok.lanes.0 in let r = c.in-Ok.lanes.1 in
    (me.0, me.1, subst (HasAllBeside me.1 me.0 h.sender h.receiver r.sender r.receiver) (sym c.find_words-found.ensures.same.1) (c.in-Ok.ensures.taken me.0 me.1 (rests_with me q.rests)))

pub returns-in-Ok-found-clause-manager : goal.returns-in-Ok-found-clause-manager
returns-in-Ok-found-clause-manager g c =
    let q = c.requires in let me = c.args.manager.now.seat.me in let h = c.in-Ok.lanes.0 in let r = c.in-Ok.lanes.1 in let me3 = c.put_lanes.new.seat.me in
    let still = subst (HasAllBeside me.1 me.0 h.sender h.receiver r.sender r.receiver) (sym c.find_words-found.ensures.same.1) (c.in-Ok.ensures.taken me.0 me.1 (rests_with me q.rests)) in
    let left = c.put_lanes.ensures.put me.0 (both_sides h.sender h.receiver) (both_sides r.sender r.receiver) me.1 still in
    let after : Manager = record { seat = c.put_lanes.new.seat; users = c.args.manager.now.users; out = c.args.manager.now.out } in
    (carrier_copied c.args.self.now c.args.manager.now after (still_resting me me3 q.rests left) refl refl c.put_lanes.ensures.seat.at_table c.put_lanes.ensures.order q, refl)

pub returns-in-Ok-found-clause-others : goal.returns-in-Ok-found-clause-others
returns-in-Ok-found-clause-others g c =
    let q = c.requires in let me = c.args.manager.now.seat.me in let h = c.in-Ok.lanes.0 in let r = c.in-Ok.lanes.1 in let me3 = c.put_lanes.new.seat.me in
    let still = subst (HasAllBeside me.1 me.0 h.sender h.receiver r.sender r.receiver) (sym c.find_words-found.ensures.same.1) (c.in-Ok.ensures.taken me.0 me.1 (rests_with me q.rests)) in
    let left = c.put_lanes.ensures.put me.0 (both_sides h.sender h.receiver) (both_sides r.sender r.receiver) me.1 still in
    let after : Manager = record { seat = c.put_lanes.new.seat; users = c.args.manager.now.users; out = c.args.manager.now.out } in
    keeps_copied c.args.self.now c.args.manager.now after (still_resting me me3 q.rests left) refl refl

pub returns-in-Ok-found-clause-view : goal.returns-in-Ok-found-clause-view
returns-in-Ok-found-clause-view g c =
    let q = c.requires in let me = c.args.manager.now.seat.me in let h = c.in-Ok.lanes.0 in let r = c.in-Ok.lanes.1 in let me3 = c.put_lanes.new.seat.me in
    let still = subst (HasAllBeside me.1 me.0 h.sender h.receiver r.sender r.receiver) (sym c.find_words-found.ensures.same.1) (c.in-Ok.ensures.taken me.0 me.1 (rests_with me q.rests)) in
    let left = c.put_lanes.ensures.put me.0 (both_sides h.sender h.receiver) (both_sides r.sender r.receiver) me.1 still in
    ap (λ (s : SeatState). s.0) (still_resting me me3 q.rests left)

pub returns-in-Ok-found-clause-words : goal.returns-in-Ok-found-clause-words
returns-in-Ok-found-clause-words g c =
    let q = c.requires in let me = c.args.manager.now.seat.me in let h = c.in-Ok.lanes.0 in let r = c.in-Ok.lanes.1 in let me1 = c.take_lanes.new.seat.me in let found = c.in-Ok-found in record {
      me = me1;
      host_sender = h.sender;
      host_receiver = h.receiver;
      remote_sender = r.sender;
      remote_receiver = r.receiver;
      all = all_alone c.args.manager.now.out me me.0 h.sender r.sender h.receiver r.receiver me1 q.blocks q.rests refl (c.in-Ok.ensures.taken me.0 me.1 (rests_with me q.rests)) c.in-Ok.ensures.order;
      era = found.ensures.era;
      to_host = found.ensures.to_host;
      to_remote = subst (λ (z : LinkSizes). IsLaneFound g.row.D.coded g.D.Desk.meaning me1 side.Remote (512 * z.to_host.capacity) found.snapshot.to_remote) (sym q.told) found.ensures.to_remote;
    }

pub returns-in-Ok-found-clause-state : goal.returns-in-Ok-found-clause-state
returns-in-Ok-found-clause-state g c = λ m is.
    let h = c.in-Ok.lanes.0 in let r = c.in-Ok.lanes.1 in let me1 = c.take_lanes.new.seat.me in let me3 = c.put_lanes.new.seat.me in let coded = g.row.D.coded in let meaning = g.D.Desk.meaning in
    let known = c.in-Ok.ensures.known m is.known in let m1 = all_taken meaning m in
    let still = c.put_lanes.ensures.state m1 (subst (λ (s : SeatState). KnowsState coded s.0 m1) (sym c.find_words-found.ensures.same.1) known.0) in
    let again = subst (λ (l : LaneLink (RingState g.row.D.Denot)). KnowsState coded me3.0 l) (all_again meaning m h.sender r.sender h.receiver r.receiver known.1 known.2) still in
    let none = nothing_out m h.sender r.sender h.receiver r.receiver known.1 known.2 in
    let found = c.in-Ok-found in let many = ap (λ (z : LinkSizes). z.to_host.capacity) (sym c.take_lanes.ensures.seat.told) in
    (record { known = again; users = is.users }, (none, shown_known coded meaning me1 m1 c.args.self.now.sizes.to_host.capacity found.snapshot found.ensures.era found.ensures.to_host found.ensures.to_remote many known.0))

pub returns-in-Err-found-clause-manager : goal.returns-in-Err-found-clause-manager
returns-in-Err-found-clause-manager g c =
    let q = c.requires in let me = c.args.manager.now.seat.me in let h = c.in-Ok.lanes.0 in let r = c.in-Ok.lanes.1 in let me3 = c.put_lanes.new.seat.me in
    let still = subst (HasAllBeside me.1 me.0 h.sender h.receiver r.sender r.receiver) (sym c.find_words-found.ensures.same.1) (c.in-Ok.ensures.taken me.0 me.1 (rests_with me q.rests)) in
    let left = c.put_lanes.ensures.put me.0 (both_sides h.sender h.receiver) (both_sides r.sender r.receiver) me.1 still in
    let after : Manager = record { seat = c.put_lanes.new.seat; users = c.args.manager.now.users; out = c.args.manager.now.out } in
    (carrier_copied c.args.self.now c.args.manager.now after (still_resting me me3 q.rests left) refl refl c.put_lanes.ensures.seat.at_table c.put_lanes.ensures.order q, refl)

pub returns-in-Err-found-clause-others : goal.returns-in-Err-found-clause-others
returns-in-Err-found-clause-others g c =
    let q = c.requires in let me = c.args.manager.now.seat.me in let h = c.in-Ok.lanes.0 in let r = c.in-Ok.lanes.1 in let me3 = c.put_lanes.new.seat.me in
    let still = subst (HasAllBeside me.1 me.0 h.sender h.receiver r.sender r.receiver) (sym c.find_words-found.ensures.same.1) (c.in-Ok.ensures.taken me.0 me.1 (rests_with me q.rests)) in
    let left = c.put_lanes.ensures.put me.0 (both_sides h.sender h.receiver) (both_sides r.sender r.receiver) me.1 still in
    let after : Manager = record { seat = c.put_lanes.new.seat; users = c.args.manager.now.users; out = c.args.manager.now.out } in
    keeps_copied c.args.self.now c.args.manager.now after (still_resting me me3 q.rests left) refl refl

pub returns-in-Err-found-clause-view : goal.returns-in-Err-found-clause-view
returns-in-Err-found-clause-view g c =
    let q = c.requires in let me = c.args.manager.now.seat.me in let h = c.in-Ok.lanes.0 in let r = c.in-Ok.lanes.1 in let me3 = c.put_lanes.new.seat.me in
    let still = subst (HasAllBeside me.1 me.0 h.sender h.receiver r.sender r.receiver) (sym c.find_words-found.ensures.same.1) (c.in-Ok.ensures.taken me.0 me.1 (rests_with me q.rests)) in
    let left = c.put_lanes.ensures.put me.0 (both_sides h.sender h.receiver) (both_sides r.sender r.receiver) me.1 still in
    ap (λ (s : SeatState). s.0) (still_resting me me3 q.rests left)

pub returns-in-Err-found-clause-state : goal.returns-in-Err-found-clause-state
returns-in-Err-found-clause-state g c = λ m is.
    let h = c.in-Ok.lanes.0 in let r = c.in-Ok.lanes.1 in let me1 = c.take_lanes.new.seat.me in let me3 = c.put_lanes.new.seat.me in let coded = g.row.D.coded in let meaning = g.D.Desk.meaning in
    let known = c.in-Ok.ensures.known m is.known in let m1 = all_taken meaning m in
    let still = c.put_lanes.ensures.state m1 (subst (λ (s : SeatState). KnowsState coded s.0 m1) (sym c.find_words-found.ensures.same.1) known.0) in
    let again = subst (λ (l : LaneLink (RingState g.row.D.Denot)). KnowsState coded me3.0 l) (all_again meaning m h.sender r.sender h.receiver r.receiver known.1 known.2) still in
    let none = nothing_out m h.sender r.sender h.receiver r.receiver known.1 known.2 in
    (record { known = again; users = is.users }, none)
