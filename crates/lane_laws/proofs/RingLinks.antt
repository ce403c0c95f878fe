-- Every step of a call keeps the rings of a link sound.
use Rattle.std.proofs.Common.{◌≡◌, ℕ, ◌+◌, ◌≤◌, Bool, true, false, cond, Some, None, Option, [], length, sym, refl, ap, ◌∙◌, arith}
use Rattle.std.proofs.lemmas.List.{nil_from_length, length-map, length-replicate}
use Rattle.rp_base.specs.declared.kinds.Era.{Era}
use Rattle.rp_base.specs.declared.kinds.End.{End}
use Rattle.rp_base.specs.declared.kinds.End.TheVariants as side
use Rattle.rp_base.specs.Limits.{IsRingSize, ring_capacity}
use Rattle.lane_model.specs.declared.calls.Wish.{Wish}
use Rattle.lane_model.specs.declared.calls.Wish.TheVariants as wish
use Rattle.lane_model.specs.declared.calls.LinkConfig.{LinkConfig}
use Rattle.lane_model.specs.declared.states.LaneState.{LaneState}
use Rattle.lane_model.specs.Links.{send_later, receive_later, Lanes, lanes_of, lanes_step, on_lanes, end_of, form_step, link_of}
use Rattle.lane_model.specs.declared.lane_links.LaneLink.{LaneLink}
use Rattle.lane_model.specs.Desks.{DeskMeaning}
use Rattle.lane_model.specs.Lanes.{has_call, is_live_in}
use Rattle.lane_model.specs.Recoveries.{link_after_close, link_after_reclaim, link_after_reopen, without_caller}
use Rattle.ring_core.proofs.Reclaims.{send_ended_sound, receive_ended_sound, reopened_sound}
use Rattle.lane_model.specs.Conditions.{MayLanesStep, MayEndStep, MayStep, IsConfig}
use Rattle.lane_model.specs.Soundness.{SoundLink}
use Rattle.ring_core.specs.declared.states.RingState.{RingState}
use Rattle.ring_core.specs.RingSteps.{holding_of, ring_form}
use Rattle.ring_core.specs.RingLinks.{opened_ring_lane, opened_ring_link}
use Rattle.lane_laws.specs.SoundRingLinks.{HasSoundRings}
use Rattle.ring_core.specs.Rings.{sizes_of}
use Rattle.ring_core.specs.SoundRings.{IsSoundRings}
use Rattle.ring_core.proofs.Sound.{sent_on_sound, received_on_sound, send_begun_sound, receive_begun_sound}
use Rattle.ring_core.proofs.Opened.{opened_rings_sound, sizes_sized}

-- the lists of a pair of lanes
abbrev lists_of : {D : Type 0} → Lanes (RingState D) → Lanes (LaneState D)
lists_of lanes = record { outgoing = lanes.outgoing.lane; incoming = lanes.incoming.lane }

-- both lanes of a caller
pub record AreSound {D : Type 0} (lanes : Lanes (RingState D)) : Type 0 where
  pub outgoing : IsSoundRings lanes.outgoing
  pub incoming : IsSoundRings lanes.incoming

-- a later step, of the send or of the other call
later : {D : Type 0} (meaning : DeskMeaning D) (era : Era) (lanes : Lanes (RingState D)) (sends : Bool) → AreSound lanes
    → AreSound (cond sends (send_later (ring_form meaning) era lanes) (receive_later (ring_form meaning) meaning era lanes)).state
later meaning era lanes true sound = record { outgoing = sent_on_sound meaning lanes.outgoing era sound.outgoing; incoming = sound.incoming }
later meaning era lanes false sound = record { outgoing = sound.outgoing; incoming = received_on_sound meaning lanes.incoming era sound.incoming }

lanes_kept : {D : Type 0} (meaning : DeskMeaning D) (era : Era) (lanes : Lanes (RingState D)) (caller follows : ℕ) (wished : Option Wish)
    → MayLanesStep (lists_of lanes) caller wished → AreSound lanes → AreSound (lanes_step (ring_form meaning) meaning era lanes caller follows wished).state
lanes_kept meaning era lanes caller follows (Some (wish.Send message)) may sound =
    record { outgoing = send_begun_sound meaning lanes.outgoing caller follows message sound.outgoing; incoming = sound.incoming }
lanes_kept meaning era lanes caller follows (Some wish.Take) may sound =
    record { outgoing = sound.outgoing; incoming = receive_begun_sound meaning lanes.incoming caller follows _ refl (λ sought. absurd (cc)) sound.incoming }
lanes_kept meaning era lanes caller follows (Some (wish.Give number)) may sound =
    record { outgoing = sound.outgoing; incoming = receive_begun_sound meaning lanes.incoming caller follows _ refl may.1 sound.incoming }
lanes_kept meaning era lanes caller follows (Some (wish.Bind address)) may sound =
    record { outgoing = sound.outgoing; incoming = receive_begun_sound meaning lanes.incoming caller follows _ tt tt sound.incoming }
lanes_kept meaning era lanes caller follows (Some (wish.Unbind address)) may sound =
    record { outgoing = sound.outgoing; incoming = receive_begun_sound meaning lanes.incoming caller follows _ tt tt sound.incoming }
lanes_kept meaning era lanes caller follows None may sound = later meaning era lanes (has_call lanes.outgoing.lane.sender caller) sound

end_kept : {D : Type 0} (meaning : DeskMeaning D) (link : LaneLink (RingState D)) (end : Option End) (caller follows : ℕ) (wished : Option Wish)
    → MayEndStep (link_of (ring_form meaning) link) end caller wished → HasSoundRings link
    → HasSoundRings (on_lanes link end (λ lanes. lanes_step (ring_form meaning) meaning link.era lanes caller follows wished)).state
end_kept meaning link (Some side.Host) caller follows wished may sound =
    let kept = lanes_kept meaning link.era (lanes_of link side.Host) caller follows wished may (record { outgoing = sound.to_remote; incoming = sound.to_host }) in
    record { to_host = kept.incoming; to_remote = kept.outgoing }
end_kept meaning link (Some side.Remote) caller follows wished may sound =
    let kept = lanes_kept meaning link.era (lanes_of link side.Remote) caller follows wished may (record { outgoing = sound.to_host; incoming = sound.to_remote }) in
    record { to_host = kept.outgoing; to_remote = kept.incoming }
end_kept meaning link None caller follows wished may sound = sound

pub link_kept : {D : Type 0} (meaning : DeskMeaning D) (caller follows : ℕ) (link : LaneLink (RingState D)) (wished : Option Wish) → HasSoundRings link
    → MayStep (link_of (ring_form meaning) link) caller wished → HasSoundRings (form_step (ring_form meaning) meaning link caller follows wished).state
link_kept meaning caller follows link wished sound may = end_kept meaning link (end_of link.callers caller) caller follows wished may.may sound

-- a new lane, and a new link
pub opened_lane_sound : {D : Type 0} (entries : ℕ) (device_sends : Bool) (book : ℕ) (desk : D) → IsRingSize entries → book ≤ 262144 → IsSoundRings (opened_ring_lane entries device_sends book desk)
opened_lane_sound entries device_sends book desk ring most =
    let sized = sizes_sized entries device_sends (sizes_of entries device_sends) refl ring in
    opened_rings_sound (sizes_of entries device_sends) _ book desk sized.0 sized.1 sized.2 sized.3 sized.4 sized.5 sized.6 (length-replicate (ring_capacity entries) []) most

pub opened_link_sound : {D : Type 0} (config : LinkConfig) (host remote : D) → IsConfig config → HasSoundRings (opened_ring_link config host remote)
opened_link_sound config host remote is = record {
  to_host = opened_lane_sound config.num0 true config.book host is.to_host is.book.1;
  to_remote = opened_lane_sound config.num1 false config.book remote is.to_remote is.book.1;
}

-- where each buffer that was handed over is back or in hand, none is aside
pub none_aside : {D : Type 0} (s : RingState D) → IsSoundRings s → s.lane.lane.returned + length s.lane.lane.held ≡ length s.lane.lane.takers → s.rings.aside ≡ []
none_aside s sound whole =
    let counted = sound.counted in
    let hands : length s.rings.hands ≡ length s.lane.lane.held = sym (length-map s.rings.hands holding_of) ∙ ap length sound.holdings in
    nil_from_length s.rings.aside (omega arith)

-- the lane to an end of a link with sound rings
pub sound_at : {D : Type 0} (link : LaneLink (RingState D)) (end : End) → HasSoundRings link → IsSoundRings (lanes_of link end).incoming
sound_at link side.Host sound = sound.to_host
sound_at link side.Remote sound = sound.to_remote

-- while a sound link is live, nothing is aside
pub link_aside : {D : Type 0} (meaning : DeskMeaning D) (link : LaneLink (RingState D)) → HasSoundRings link → SoundLink (link_of (ring_form meaning) link) → link.era.is_live ≡ true
    → (link.to_host.rings.aside ≡ []) × (link.to_remote.rings.aside ≡ [])
link_aside meaning link rings lists live = (none_aside link.to_host rings.to_host (lists.to_host.whole live), none_aside link.to_remote rings.to_remote (lists.to_remote.whole live))

-- a close leaves the lanes as they are
close_if : {D : Type 0} (b : Bool) (link : LaneLink (RingState D)) (inc : ℕ) → HasSoundRings link → HasSoundRings (cond b (record link { era = record { inc = inc; is_live = false } }) link)
close_if true link inc sound = record { to_host = sound.to_host; to_remote = sound.to_remote }
close_if false link inc sound = sound

pub close_kept : {D : Type 0} (link : LaneLink (RingState D)) (inc : ℕ) → HasSoundRings link → HasSoundRings (link_after_close link inc)
close_kept link inc sound = close_if (is_live_in link.era inc) link inc sound

reclaim_at : {D : Type 0} (meaning : DeskMeaning D) (link : LaneLink (RingState D)) (end : Option End) (caller : ℕ) → HasSoundRings link → HasSoundRings (without_caller (ring_form meaning) link end caller)
reclaim_at meaning link (Some side.Host) caller sound =
    record { to_host = receive_ended_sound meaning link.to_host caller sound.to_host; to_remote = send_ended_sound meaning link.to_remote caller sound.to_remote }
reclaim_at meaning link (Some side.Remote) caller sound =
    record { to_host = send_ended_sound meaning link.to_host caller sound.to_host; to_remote = receive_ended_sound meaning link.to_remote caller sound.to_remote }
reclaim_at meaning link None caller sound = sound

pub reclaim_kept : {D : Type 0} (meaning : DeskMeaning D) (link : LaneLink (RingState D)) (caller : ℕ) → HasSoundRings link → HasSoundRings (link_after_reclaim (ring_form meaning) link caller)
reclaim_kept meaning link caller sound = reclaim_at meaning link (end_of link.callers caller) caller sound

pub reopen_kept : {D : Type 0} (meaning : DeskMeaning D) (link : LaneLink (RingState D)) → HasSoundRings link → HasSoundRings (link_after_reopen (ring_form meaning) link)
reopen_kept meaning link sound = record { to_host = reopened_sound meaning link.to_host sound.to_host; to_remote = reopened_sound meaning link.to_remote sound.to_remote }
