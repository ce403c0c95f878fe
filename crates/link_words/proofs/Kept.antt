-- What a deed of the shared link keeps, by the laws of the ring form.
use Rattle.std.proofs.Common.{◌≡◌, ℕ, Bool, true, false, cond, ◌||◌, refl, sym, ap, ◌∙◌, subst, List}
use Rattle.std.specs.Prelude.{Option, Some, None}
use Rattle.rp_base.specs.declared.kinds.End.{End}
use Rattle.rp_base.specs.declared.kinds.End.TheVariants as side
use Rattle.lane_model.specs.declared.lane_links.LaneLink.{LaneLink}
use Rattle.lane_model.specs.declared.states.LaneState.{LaneState}
use Rattle.lane_model.specs.declared.recoveries.ReclaimPart.TheVariants as part
use Rattle.lane_model.specs.declared.stages.Turn.TheVariants as turn
use Rattle.lane_model.specs.Desks.{DeskMeaning}
use Rattle.lane_model.specs.Lanes.{has_call, is_live_in, OfCall}
use Rattle.lane_model.specs.Forms.{IsForm}
use Rattle.lane_model.specs.Crashes.{after_send_end, after_receive_end}
use Rattle.lane_model.specs.Links.{lanes_of, with_lanes, end_of, link_of, on_lanes, lanes_step, send_later, receive_later}
use Rattle.lane_model.specs.Conditions.{MayEndStep, is_in_call}
use Rattle.lane_model.specs.Recoveries.{link_after_reopen}
use Rattle.lane_laws.specs.Parts.{part_done, with_manager, without_manager, manager_takes, manager_leaves}
use Rattle.lane_model.specs.declared.recoveries.LaneTurn.{LaneTurn}
use Rattle.lane_model.specs.declared.recoveries.LaneTurn.TheVariants as lane_turn
use Rattle.lane_model.specs.declared.stages.Turn.{Turn}
use Rattle.lane_model.specs.Soundness.{SoundLink, IsSoundBetween}
use Rattle.lane_model.proofs.FormSteps.{step_agrees}
use Rattle.lane_laws.proofs.SoundKept.{step_sound, caller_sound}
use Rattle.lane_laws.proofs.CrashLaws.{close_sound, reopen_sound}
use Rattle.lane_laws.proofs.PartSteps.{part_sound, manager_takes_sound, manager_leaves_sound}
use Rattle.ring_core.specs.declared.states.RingState.{RingState}
use Rattle.ring_core.specs.RingSteps.{ring_form}
use Rattle.ring_core.specs.SoundRings.{IsSoundRings}
use Rattle.lane_laws.specs.SoundRingLinks.{HasSoundRings}
use Rattle.lane_laws.proofs.RingLinks.{link_kept, close_kept, reopen_kept}
use Rattle.ring_core.proofs.Reclaims.{send_ended_sound, receive_ended_sound}
use Rattle.link_words.specs.Words.{other, lane_to, with_lane}
use Rattle.link_words.specs.Deeds.{Deed, Steps, Closes, EndsCall, Opens, LeavesTurn, Enlists, Frees, Nothing, after_leave_without, after_deed, MayDo, lanes_after_end, IsSoundState, ManagerTakes, ManagerLeaves}

true-false : true ≡ false → ⊥
true-false e = absurd (cc)

is_form : {D : Type 0} (desk : DeskMeaning D) → IsForm (ring_form desk) desk
is_form desk = record {
  after_send_start = λ lane caller follows message. refl;
  after_receive_start = λ lane caller follows first. refl;
  sent_on = λ lane era. refl;
  received_on = λ lane era. refl;
  after_send_end = λ lane caller. refl;
  after_receive_end = λ lane caller. refl;
  link_after_reopen = λ lane. refl;
}

close_agrees : {D : Type 0} (desk : DeskMeaning D) (b : Bool) (m : LaneLink (RingState D)) (inc : ℕ)
    → link_of (ring_form desk) (cond b (record m { era = record { inc = inc; is_live = false } }) m)
    ≡ cond b (record (link_of (ring_form desk) m) { era = record { inc = inc; is_live = false } }) (link_of (ring_form desk) m)
close_agrees desk true m inc = refl
close_agrees desk false m inc = refl

ended_if : {D : Type 0} (desk : DeskMeaning D) (b : Bool) (s : RingState D) (caller : ℕ)
    → (cond b ((ring_form desk).after_receive_end s caller) s).lane ≡ cond b (after_receive_end s.lane caller) s.lane
ended_if desk true s caller = refl
ended_if desk false s caller = refl

ended_if_sound : {D : Type 0} (desk : DeskMeaning D) (b : Bool) (s : RingState D) (caller : ℕ) → IsSoundRings s → IsSoundRings (cond b ((ring_form desk).after_receive_end s caller) s)
ended_if_sound desk true s caller sound = receive_ended_sound desk s caller sound
ended_if_sound desk false s caller sound = sound

end_agrees : {D : Type 0} (desk : DeskMeaning D) (m : LaneLink (RingState D)) (end : End) (caller : ℕ)
    → link_of (ring_form desk) (with_lanes m end (lanes_after_end desk (lanes_of m end) caller)) ≡ part_done (link_of (ring_form desk) m) end caller part.EndsCall
end_agrees {D} desk m side.Host caller =
    ap (λ (l : LaneState D). record { era = m.era; to_host = l; to_remote = after_send_end m.to_remote.lane caller; callers = m.callers })
    (ended_if desk (has_call m.to_host.lane.receiver caller) m.to_host caller)
end_agrees {D} desk m side.Remote caller =
    ap (λ (l : LaneState D). record { era = m.era; to_host = after_send_end m.to_host.lane caller; to_remote = l; callers = m.callers })
    (ended_if desk (has_call m.to_remote.lane.receiver caller) m.to_remote caller)

end_rings : {D : Type 0} (desk : DeskMeaning D) (m : LaneLink (RingState D)) (end : End) (caller : ℕ) → HasSoundRings m → HasSoundRings (with_lanes m end (lanes_after_end desk (lanes_of m end) caller))
end_rings desk m side.Host caller sound = record {
  to_host = ended_if_sound desk (has_call m.to_host.lane.receiver caller) m.to_host caller sound.to_host;
  to_remote = send_ended_sound desk m.to_remote caller sound.to_remote;
}
end_rings desk m side.Remote caller sound = record {
  to_host = send_ended_sound desk m.to_host caller sound.to_host;
  to_remote = ended_if_sound desk (has_call m.to_remote.lane.receiver caller) m.to_remote caller sound.to_remote;
}

-- a lane whose turns become the manager's
still_rings : {D : Type 0} (s : RingState D) → IsSoundRings s → IsSoundRings (record s { lane = record s.lane { sender = turn.Manager; receiver = turn.Manager } })
still_rings s q = record {
  sized = q.sized;
  counted = q.counted;
  forward_index = q.forward_index;
  return_index = q.return_index;
  owned = q.owned;
  apart = q.apart;
  holdings = q.holdings;
  filled = q.filled;
  room = tt;
  fit = tt;
  source = tt;
  work = tt;
}

still_between : {D : Type 0} (callers : List (Option End)) (sends receives : End) (live : Bool) (s : LaneState D) → IsSoundBetween callers sends receives live s
    → IsSoundBetween callers sends receives live (record s { sender = turn.Manager; receiver = turn.Manager })
still_between callers sends receives live s q = record {
  lane = record { counts = q.lane.counts; handed = q.lane.handed; out = q.lane.out; within = q.lane.within; holdings = q.lane.holdings; room = tt; fit = tt };
  whole = q.whole;
  users = q.users;
  sender = tt;
  receiver = tt;
}

pub of_taken : {C : Type 0} (P : ℕ → C → Type 0) (t : Turn C) → OfCall t P → OfCall (manager_takes t) P
of_taken P turn.Free has = tt
of_taken P (turn.Taken caller call) has = has
of_taken P (turn.Leaving caller end) has = tt
of_taken P turn.Manager has = tt

-- a lane whose receiver's turn the manager takes
taken_rings : {D : Type 0} (s : RingState D) → IsSoundRings s → IsSoundRings (record s { lane = with_manager s.lane lane_turn.Receiver })
taken_rings s q = record {
  sized = q.sized;
  counted = q.counted;
  forward_index = q.forward_index;
  return_index = q.return_index;
  owned = q.owned;
  apart = q.apart;
  holdings = q.holdings;
  filled = q.filled;
  room = q.room;
  fit = of_taken _ s.lane.receiver q.fit;
  source = q.source;
  work = of_taken _ s.lane.receiver q.work;
}

-- a lane one of whose turns the manager takes, or leaves
managed_rings : {D : Type 0} (s : RingState D) (which : LaneTurn) → IsSoundRings s → IsSoundRings (record s { lane = with_manager s.lane which })
managed_rings s lane_turn.Receiver q = taken_rings s q
managed_rings s lane_turn.Sender q = record {
  sized = q.sized;
  counted = q.counted;
  forward_index = q.forward_index;
  return_index = q.return_index;
  owned = q.owned;
  apart = q.apart;
  holdings = q.holdings;
  filled = q.filled;
  room = of_taken _ s.lane.sender q.room;
  fit = q.fit;
  source = of_taken _ s.lane.sender q.source;
  work = q.work;
}

pub of_left : {C : Type 0} (P : ℕ → C → Type 0) (t : Turn C) → OfCall t P → OfCall (manager_leaves t) P
of_left P turn.Free has = tt
of_left P (turn.Taken caller call) has = has
of_left P (turn.Leaving caller end) has = tt
of_left P turn.Manager has = tt

freed_rings : {D : Type 0} (s : RingState D) (which : LaneTurn) → IsSoundRings s → IsSoundRings (record s { lane = without_manager s.lane which })
freed_rings s lane_turn.Sender q = record {
  sized = q.sized;
  counted = q.counted;
  forward_index = q.forward_index;
  return_index = q.return_index;
  owned = q.owned;
  apart = q.apart;
  holdings = q.holdings;
  filled = q.filled;
  room = of_left _ s.lane.sender q.room;
  fit = q.fit;
  source = of_left _ s.lane.sender q.source;
  work = q.work;
}
freed_rings s lane_turn.Receiver q = record {
  sized = q.sized;
  counted = q.counted;
  forward_index = q.forward_index;
  return_index = q.return_index;
  owned = q.owned;
  apart = q.apart;
  holdings = q.holdings;
  filled = q.filled;
  room = q.room;
  fit = of_left _ s.lane.receiver q.fit;
  source = q.source;
  work = of_left _ s.lane.receiver q.work;
}

free_has : {C : Type 0} (P : ℕ → C → Type 0) (t : Turn C) → t ≡ turn.Manager → OfCall (manager_leaves t) P
free_has P t is = subst (λ u. OfCall (manager_leaves u) P) (sym is) tt

left_rings : {D : Type 0} (desk : DeskMeaning D) (s : RingState D) (caller : ℕ) → s.lane.receiver ≡ turn.Manager → IsSoundRings s → IsSoundRings (after_leave_without desk s caller)
left_rings desk s caller is sound = let q = receive_ended_sound desk s caller sound in record {
  sized = q.sized;
  counted = q.counted;
  forward_index = q.forward_index;
  return_index = q.return_index;
  owned = q.owned;
  apart = q.apart;
  holdings = q.holdings;
  filled = q.filled;
  room = q.room;
  fit = free_has _ s.lane.receiver is;
  source = q.source;
  work = free_has _ s.lane.receiver is;
}

-- every deed keeps a link sound, by the laws of links and of rings
pub deed_kept : {D : Type 0} (desk : DeskMeaning D) (m : LaneLink (RingState D)) (d : Deed) → MayDo desk m d → IsSoundState desk m → IsSoundState desk (after_deed desk m d)
deed_kept desk m (Steps caller follows wished) may k = record {
  rings = link_kept desk caller follows m wished k.rings may;
  sound = subst SoundLink (sym (step_agrees (ring_form desk) desk (is_form desk) m caller follows wished)) (step_sound desk (link_of (ring_form desk) m) caller follows wished k.sound may);
}
deed_kept desk m (Closes inc) may k = record {
  rings = close_kept m inc k.rings;
  sound = subst SoundLink (sym (close_agrees desk (is_live_in m.era inc) m inc)) (close_sound (link_of (ring_form desk) m) inc k.sound);
}
deed_kept desk m (EndsCall end caller) may k = record {
  rings = end_rings desk m end caller k.rings;
  sound = subst SoundLink (sym (end_agrees desk m end caller)) (part_sound (link_of (ring_form desk) m) end caller part.EndsCall may.0 may.1 tt k.sound);
}
deed_kept desk m (Enlists e) may k = record { rings = record { to_host = k.rings.to_host; to_remote = k.rings.to_remote }; sound = caller_sound (link_of (ring_form desk) m) e k.sound }
deed_kept desk m (Frees side.Host caller) may k = record {
  rings = record { to_host = k.rings.to_host; to_remote = k.rings.to_remote };
  sound = part_sound (link_of (ring_form desk) m) side.Host caller part.FreesNumber may.0 may.1 may.2 k.sound;
}
deed_kept desk m (Frees side.Remote caller) may k = record {
  rings = record { to_host = k.rings.to_host; to_remote = k.rings.to_remote };
  sound = part_sound (link_of (ring_form desk) m) side.Remote caller part.FreesNumber may.0 may.1 may.2 k.sound;
}
deed_kept desk m Nothing may k = k
deed_kept desk m (ManagerTakes which side.Host) may k = record {
  rings = record { to_host = managed_rings m.to_host which k.rings.to_host; to_remote = k.rings.to_remote };
  sound = (manager_takes_sound (link_of (ring_form desk) m) which k.sound).0;
}
deed_kept desk m (ManagerTakes which side.Remote) may k = record {
  rings = record { to_host = k.rings.to_host; to_remote = managed_rings m.to_remote which k.rings.to_remote };
  sound = (manager_takes_sound (link_of (ring_form desk) m) which k.sound).1;
}
deed_kept desk m (ManagerLeaves which side.Host) may k = record {
  rings = record { to_host = freed_rings m.to_host which k.rings.to_host; to_remote = k.rings.to_remote };
  sound = (manager_leaves_sound (link_of (ring_form desk) m) which k.sound).0;
}
deed_kept desk m (ManagerLeaves which side.Remote) may k = record {
  rings = record { to_host = k.rings.to_host; to_remote = freed_rings m.to_remote which k.rings.to_remote };
  sound = (manager_leaves_sound (link_of (ring_form desk) m) which k.sound).1;
}
deed_kept desk m (LeavesTurn side.Host caller) may k = record {
  rings = record { to_host = left_rings desk m.to_host caller may.2 k.rings.to_host; to_remote = k.rings.to_remote };
  sound = part_sound (link_of (ring_form desk) m) side.Host caller part.LeavesTurn may.0 may.1 may.2 k.sound;
}
deed_kept desk m (LeavesTurn side.Remote caller) may k = record {
  rings = record { to_host = k.rings.to_host; to_remote = left_rings desk m.to_remote caller may.2 k.rings.to_remote };
  sound = part_sound (link_of (ring_form desk) m) side.Remote caller part.LeavesTurn may.0 may.1 may.2 k.sound;
}
deed_kept desk m Opens may k =
    let rings = reopen_kept desk m k.rings in let sound = reopen_sound desk (link_of (ring_form desk) m) in
    record {
      rings = record { to_host = still_rings (link_after_reopen (ring_form desk) m).to_host rings.to_host; to_remote = still_rings (link_after_reopen (ring_form desk) m).to_remote rings.to_remote };
      sound = record {
        to_host = still_between m.callers side.Remote side.Host true (link_after_reopen (ring_form desk) m).to_host.lane sound.to_host;
        to_remote = still_between m.callers side.Host side.Remote true (link_after_reopen (ring_form desk) m).to_remote.lane sound.to_remote;
        hosts = λ caller has. refl;
        remotes = λ caller has. refl;
      };
    }

-- a later step of a send, as the ring form's
pub send_done : {D : Type 0} (desk : DeskMeaning D) (m : LaneLink (RingState D)) (e : End) (caller follows : ℕ) → has_call (lane_to m e).lane.sender caller ≡ true
    → (on_lanes m (Some (other e)) (λ lanes. lanes_step (ring_form desk) desk m.era lanes caller follows None)).state ≡ with_lane m e ((ring_form desk).sent_on (lane_to m e) m.era)
send_done {D} desk m side.Host caller follows has =
    ap (λ (b : Bool). with_lanes m side.Remote (cond b (send_later (ring_form desk) m.era (lanes_of m side.Remote)) (receive_later (ring_form desk) desk m.era (lanes_of m side.Remote))).state) has
send_done {D} desk m side.Remote caller follows has =
    ap (λ (b : Bool). with_lanes m side.Host (cond b (send_later (ring_form desk) m.era (lanes_of m side.Host)) (receive_later (ring_form desk) desk m.era (lanes_of m side.Host))).state) has

-- the deed of a send's later step, where its caller has the turn
pub send_deed : {D : Type 0} (desk : DeskMeaning D) (m : LaneLink (RingState D)) (e : End) (caller follows : ℕ) → end_of m.callers caller ≡ Some (other e) → has_call (lane_to m e).lane.sender caller ≡ true
    → with_lane m e ((ring_form desk).sent_on (lane_to m e) m.era) ≡ after_deed desk m (Steps caller follows None)
send_deed {D} desk m e caller follows user has =
    sym (send_done desk m e caller follows has) ∙ ap (λ (o : Option End). (on_lanes m o (λ lanes. lanes_step (ring_form desk) desk m.era lanes caller follows None)).state) (sym user)

in_call : {D : Type 0} (desk : DeskMeaning D) (m : LaneLink (RingState D)) (e : End) (caller : ℕ) → has_call (lane_to m e).lane.sender caller ≡ true → is_in_call (lanes_of (link_of (ring_form desk) m) (other e)) caller ≡ true
in_call desk m side.Host caller has = ap (λ (b : Bool). b || has_call m.to_remote.lane.receiver caller) has
in_call desk m side.Remote caller has = ap (λ (b : Bool). b || has_call m.to_host.lane.receiver caller) has

pub send_may : {D : Type 0} (desk : DeskMeaning D) (m : LaneLink (RingState D)) (e : End) (caller follows : ℕ) → end_of m.callers caller ≡ Some (other e) → has_call (lane_to m e).lane.sender caller ≡ true
    → MayDo desk m (Steps caller follows None)
send_may desk m e caller follows user has = record {
  may = subst (λ (o : Option End). MayEndStep (link_of (ring_form desk) m) o caller None) (sym user) (in_call desk m e caller has);
}

-- part 3 of a reclaim of a caller that has the sender's turn: the other lane stays
pub end_deed : {D : Type 0} (desk : DeskMeaning D) (m : LaneLink (RingState D)) (e : End) (caller : ℕ) → SoundLink (link_of (ring_form desk) m) → has_call (lane_to m e).lane.sender caller ≡ true
    → with_lane m e ((ring_form desk).after_send_end (lane_to m e) caller) ≡ after_deed desk m (EndsCall (other e) caller)
end_deed {D} desk m side.Host caller sound has =
    ap (λ (b : Bool). with_lanes m side.Remote (record { outgoing = (ring_form desk).after_send_end m.to_host caller; incoming = cond b ((ring_form desk).after_receive_end m.to_remote caller) m.to_remote }))
    (sym (sound.remotes caller has))
end_deed {D} desk m side.Remote caller sound has =
    ap (λ (b : Bool). with_lanes m side.Host (record { outgoing = (ring_form desk).after_send_end m.to_remote caller; incoming = cond b ((ring_form desk).after_receive_end m.to_host caller) m.to_host }))
    (sym (sound.hosts caller has))

not_both : (a b : Bool) → (a ≡ true → b ≡ false) → b ≡ true → a ≡ false
not_both false b apart is = refl
not_both true b apart is = absurd (true-false (sym is ∙ apart refl))

-- a caller that has a receiver's turn sends nothing
pub no_send : {D : Type 0} (desk : DeskMeaning D) (m : LaneLink (RingState D)) (e : End) (caller : ℕ) → SoundLink (link_of (ring_form desk) m) → has_call (lane_to m e).lane.receiver caller ≡ true → has_call (lane_to m (other e)).lane.sender caller ≡ false
no_send desk m side.Host caller sound has = not_both (has_call m.to_remote.lane.sender caller) (has_call m.to_host.lane.receiver caller) (sound.hosts caller) has
no_send desk m side.Remote caller sound has = not_both (has_call m.to_host.lane.sender caller) (has_call m.to_remote.lane.receiver caller) (sound.remotes caller) has

receive_done : {D : Type 0} (desk : DeskMeaning D) (m : LaneLink (RingState D)) (e : End) (caller follows : ℕ) → has_call (lane_to m (other e)).lane.sender caller ≡ false
    → (on_lanes m (Some e) (λ lanes. lanes_step (ring_form desk) desk m.era lanes caller follows None)).state ≡ with_lane m e ((ring_form desk).received_on (lane_to m e) m.era)
receive_done {D} desk m side.Host caller follows has =
    ap (λ (b : Bool). with_lanes m side.Host (cond b (send_later (ring_form desk) m.era (lanes_of m side.Host)) (receive_later (ring_form desk) desk m.era (lanes_of m side.Host))).state) has
receive_done {D} desk m side.Remote caller follows has =
    ap (λ (b : Bool). with_lanes m side.Remote (cond b (send_later (ring_form desk) m.era (lanes_of m side.Remote)) (receive_later (ring_form desk) desk m.era (lanes_of m side.Remote))).state) has

pub receive_deed : {D : Type 0} (desk : DeskMeaning D) (m : LaneLink (RingState D)) (e : End) (caller follows : ℕ) → end_of m.callers caller ≡ Some e → has_call (lane_to m (other e)).lane.sender caller ≡ false
    → with_lane m e ((ring_form desk).received_on (lane_to m e) m.era) ≡ after_deed desk m (Steps caller follows None)
receive_deed {D} desk m e caller follows user has =
    sym (receive_done desk m e caller follows has) ∙ ap (λ (o : Option End). (on_lanes m o (λ lanes. lanes_step (ring_form desk) desk m.era lanes caller follows None)).state) (sym user)

or_true : (a b : Bool) → b ≡ true → (a || b) ≡ true
or_true true b is = refl
or_true false b is = is

receives_in_call : {D : Type 0} (desk : DeskMeaning D) (m : LaneLink (RingState D)) (e : End) (caller : ℕ) → has_call (lane_to m e).lane.receiver caller ≡ true → is_in_call (lanes_of (link_of (ring_form desk) m) e) caller ≡ true
receives_in_call desk m side.Host caller has = or_true (has_call m.to_remote.lane.sender caller) (has_call m.to_host.lane.receiver caller) has
receives_in_call desk m side.Remote caller has = or_true (has_call m.to_host.lane.sender caller) (has_call m.to_remote.lane.receiver caller) has

pub receive_may : {D : Type 0} (desk : DeskMeaning D) (m : LaneLink (RingState D)) (e : End) (caller follows : ℕ) → end_of m.callers caller ≡ Some e → has_call (lane_to m e).lane.receiver caller ≡ true → MayDo desk m (Steps caller follows None)
receive_may desk m e caller follows user has = record {
  may = subst (λ (o : Option End). MayEndStep (link_of (ring_form desk) m) o caller None) (sym user) (receives_in_call desk m e caller has);
}

-- part 3 of a reclaim of a caller that has the receiver's turn: the other lane stays
pub end_receive_deed : {D : Type 0} (desk : DeskMeaning D) (m : LaneLink (RingState D)) (e : End) (caller : ℕ) → has_call (lane_to m e).lane.receiver caller ≡ true → has_call (lane_to m (other e)).lane.sender caller ≡ false
    → with_lane m e ((ring_form desk).after_receive_end (lane_to m e) caller) ≡ after_deed desk m (EndsCall e caller)
end_receive_deed {D} desk m side.Host caller has apart = λ k. with_lanes m side.Host (record {
  outgoing = record m.to_remote { lane = record m.to_remote.lane { sender = cond (sym apart k) turn.Free m.to_remote.lane.sender } };
  incoming = cond (sym has k) ((ring_form desk).after_receive_end m.to_host caller) m.to_host;
})
end_receive_deed {D} desk m side.Remote caller has apart = λ k. with_lanes m side.Remote (record {
  outgoing = record m.to_host { lane = record m.to_host.lane { sender = cond (sym apart k) turn.Free m.to_host.lane.sender } };
  incoming = cond (sym has k) ((ring_form desk).after_receive_end m.to_remote caller) m.to_remote;
})
