use Rattle.std.proofs.Common.{refl, inl, inr, subst}
use Rattle.lane_model.specs.declared.lane_links.LaneLink.{LaneLink}
use Rattle.ring_core.specs.declared.states.RingState.{RingState}
use Rattle.link_words.specs.PlacedLinks.{KnowsState}
use Rattle.rp_base.specs.declared.kinds.End.TheVariants as side
use Rattle.link_words.specs.Reopens.{both_sides}
use Rattle.link_words.specs.Sides.{no_sides}
use Rattle.split_ring.specs.Gathers.{lane_slots}
use Rattle.split_ring.proofs.Gathering.{holder_by, in_use_by, users_by}
use Rattle.split_ring.specs.States.{lane_taken}
use Rattle.split_ring.proofs.StateSteps.{host_again, host_out, none_out, remote_out}
use Rattle.split_ring.proofs.links.SharedLink.take_lanes.Goals as goal

pub take_lane-requires-2-clause-manager : goal.take_lane-requires-2-clause-manager
take_lane-requires-2-clause-manager g c =
    let q = c.requires.manager in (q.0, both_sides c.in-Ok.states.sender c.in-Ok.states.receiver, no_sides, lane_slots side.Host q.1.0, c.in-Ok.ensures.taken q.0 no_sides no_sides q.1.0 q.1.1, refl)

pub put_lane-requires-clause-manager : goal.put_lane-requires-clause-manager
put_lane-requires-clause-manager g c =
    let q = c.requires.manager in let a = both_sides c.in-Ok.states.sender c.in-Ok.states.receiver in
    (q.0, a, no_sides, q.1.0, c.in-Err-take_lane.ensures.met.0 q.0 a no_sides (lane_slots side.Host q.1.0) refl (c.in-Ok.ensures.taken q.0 no_sides no_sides q.1.0 q.1.1), refl)

pub returns-in-Err-take_lane-clause-met : goal.returns-in-Err-take_lane-clause-met
returns-in-Err-take_lane-clause-met g c =
    let a = both_sides c.in-Ok.states.sender c.in-Ok.states.receiver in let met = c.in-Err-take_lane.ensures.met in (
      (λ v slots none. c.put_lane.ensures.put v a no_sides slots (met.0 v a no_sides (lane_slots side.Host slots) refl (c.in-Ok.ensures.taken v no_sides no_sides slots none))),
      inr (c.take_lane.new.seat.me, c.in-Ok.states.sender, c.in-Ok.states.receiver, c.in-Ok.ensures.taken, met.1),
    )

pub returns-in-Ok-take_lane-clause-users : goal.returns-in-Ok-take_lane-clause-users
returns-in-Ok-take_lane-clause-users g c = let q = c.requires.manager in (
  c.in-Ok.ensures.users,
  in_use_by c.args.seat.now.me.0 c.take_lane.new.seat.me.0 side.Remote c.in-Ok-take_lane.remote.receiver.hands
      (users_by c.args.seat.now.me c.take_lane.new.seat.me q.1.1 (c.in-Ok.ensures.taken q.0 no_sides no_sides q.1.0 q.1.1)) c.in-Ok-take_lane.ensures.users,
)

pub returns-in-Err-take_lane-clause-holder : goal.returns-in-Err-take_lane-clause-holder
returns-in-Err-take_lane-clause-holder g c = let q = c.requires.manager in
    holder_by c.args.seat.now.me.0 c.take_lane.new.seat.me.0 c.in-Err-take_lane.holder
    (users_by c.args.seat.now.me c.take_lane.new.seat.me q.1.1 (c.in-Ok.ensures.taken q.0 no_sides no_sides q.1.0 q.1.1)) c.in-Err-take_lane.ensures.holder

pub returns-in-Err-clause-met : goal.returns-in-Err-clause-met
returns-in-Err-clause-met g c = ((λ v slots none. c.in-Err.ensures.met.0 v no_sides no_sides slots refl none), inl c.in-Err.ensures.met.1)

pub returns-in-Ok-take_lane-clause-known : goal.returns-in-Ok-take_lane-clause-known
returns-in-Ok-take_lane-clause-known g c = λ m knows.
    let host = c.in-Ok.ensures.known m knows in let remote = c.in-Ok-take_lane.ensures.known (lane_taken g.D.Desk.meaning m side.Host) host.0 in (
      remote.0,
      host.1,
      record { sender_free = remote.1.sender_free; receiver_free = remote.1.receiver_free; sender = remote.1.sender; takers = remote.1.takers; held = remote.1.held },
    )

pub returns-in-Err-clause-refused : goal.returns-in-Err-clause-refused
returns-in-Err-clause-refused g c = λ m knows. let met = c.in-Err.ensures.refused m knows in (met.0, host_out m c.in-Err.holder met.1)

pub returns-in-Err-take_lane-clause-refused : goal.returns-in-Err-take_lane-clause-refused
returns-in-Err-take_lane-clause-refused g c = λ m knows.
    let meaning = g.D.Desk.meaning in let host = c.in-Ok.ensures.known m knows in let m1 = lane_taken meaning m side.Host in let met = c.in-Err-take_lane.ensures.refused m1 host.0 in (
      subst (λ (l : LaneLink (RingState g.row.D.Denot)). KnowsState g.row.D.coded c.put_lane.new.seat.me.0 l) (host_again meaning m host.1.sender_free host.1.receiver_free) (c.put_lane.ensures.state m1 met.0),
      remote_out m c.in-Err-take_lane.holder (none_out m.to_host.lane host.1.sender_free host.1.receiver_free) met.1,
    )
