-- What a close, a reclaim and a reopening of a link leave, and why they are refused (own).
use Rattle.std.specs.Prelude.{Vec, true, ℕ, ◌+◌, ◌-◌, ◌^◌, ◌==◌, false, if◌then◌else◌, slice_set, Option, Some, None, option_and_then}
use Rattle.std.specs.declared.alloc.Global.{Global}
use Rattle.std.specs.Option.{option_map, option_or}
use Rattle.rp_base.specs.declared.kinds.Era.{Era}
use Rattle.rp_base.specs.declared.kinds.End.{End}
use Rattle.lane_model.specs.declared.lane_links.LaneLink.{LaneLink}
use Rattle.lane_model.specs.declared.recoveries.ReclaimRefusal.{ReclaimRefusal}
use Rattle.lane_model.specs.declared.recoveries.ReclaimRefusal.TheVariants as reclaim_refusal
use Rattle.lane_model.specs.HeldBuffers.{HeldBuffer}
use Rattle.lane_model.specs.declared.recoveries.ReclaimByFault.{ReclaimByFault}
use Rattle.lane_model.specs.declared.recoveries.ReclaimByFault.TheVariants as reclaim_fault
use Rattle.lane_model.specs.declared.recoveries.ReopenFault.{ReopenFault}
use Rattle.lane_model.specs.declared.recoveries.ReopenFault.TheVariants as reopen_fault
use Rattle.lane_model.specs.Lanes.{is_live_in}
use Rattle.lane_model.specs.Forms.{FormMeaning}
use Rattle.lane_model.specs.Crashes.{needed_holder, turn_out, least_held}
use Rattle.lane_model.specs.Links.{LinkState, Lanes, lanes_of, with_lanes, end_of}

-- the link after a close of this incarnation
abbrev pub link_after_close : {L : Type 0} → LaneLink L → ℕ → LaneLink L
link_after_close link inc = if is_live_in link.era inc then record link { era = record { inc = inc; is_live = false } } else link

-- the era that keeps a close from changing anything: another one, or closed
abbrev pub link_close_refusal : Era → ℕ → Option Era
link_close_refusal era inc = if is_live_in era inc then None else Some era

-- why this caller is not reclaimed: the era is live, or another has the turn that is needed
abbrev pub link_reclaim_refusal : {D : Type 0} → LinkState D → ℕ → Option ReclaimRefusal
link_reclaim_refusal link caller =
    if link.era.is_live then Some (reclaim_refusal.StillOpen link.era)
    else option_map reclaim_refusal.Busy (option_and_then (λ end. needed_holder (lanes_of link end).incoming caller) (end_of link.callers caller))

-- what a refused reclaim hands back: the call and the buffers
abbrev pub handed_back : {C : Type 0} → Option C → Vec HeldBuffer Global → ReclaimRefusal → ReclaimByFault C
handed_back call held (reclaim_refusal.StillOpen era) = reclaim_fault.StillOpen era call held
handed_back call held (reclaim_refusal.Busy holder) = reclaim_fault.Busy holder call held

-- the lanes without this caller's call and without what it holds
abbrev pub ended_lanes : {L D : Type 0} → FormMeaning L D → Lanes L → ℕ → Lanes L
ended_lanes form lanes caller = record { outgoing = form.after_send_end lanes.outgoing caller; incoming = form.after_receive_end lanes.incoming caller }

-- the link without this caller, whose number is free
abbrev pub without_caller : {L D : Type 0} → FormMeaning L D → LaneLink L → Option End → ℕ → LaneLink L
without_caller form link (Some end) caller =
    record (with_lanes link end (ended_lanes form (lanes_of link end) caller)) { callers = slice_set link.callers caller None }
without_caller form link None caller = link

-- the link after a reclaim of this caller, where nothing refuses it
abbrev pub link_after_reclaim : {L D : Type 0} → FormMeaning L D → LaneLink L → ℕ → LaneLink L
link_after_reclaim form link caller = without_caller form link (end_of link.callers caller) caller

-- why the link is not reopened: the era is live, a turn is out, a buffer is held, or no incarnation is left
abbrev pub link_reopen_refusal : {D : Type 0} → LinkState D → Option ReopenFault
link_reopen_refusal link =
    option_or (if link.era.is_live then Some (reopen_fault.StillOpen link.era) else None)
    (option_or (option_map reopen_fault.StillTurn (option_or (turn_out link.to_host) (turn_out link.to_remote)))
    (option_or (option_map (λ h. reopen_fault.StillHeld h.caller h.number) (option_or (least_held link.to_host.lane.held) (least_held link.to_remote.lane.held)))
    (if link.era.inc == 2 ^ 32 - 1 then Some reopen_fault.IncarnationsSpent else None)))

-- the link in its next incarnation, live
abbrev pub link_after_reopen : {L D : Type 0} → FormMeaning L D → LaneLink L → LaneLink L
link_after_reopen form link =
    record link { era = record { inc = link.era.inc + 1; is_live = true }; to_host = form.link_after_reopen link.to_host; to_remote = form.link_after_reopen link.to_remote }
