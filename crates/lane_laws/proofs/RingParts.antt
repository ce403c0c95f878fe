-- The parts of a reclaim on rings: what they stand for, that they keep the rings sound, and that they make the whole reclaim.
use Rattle.std.proofs.Common.{◌≡◌, ℕ, ◌==◌, not, eqb, Bool, true, false, cond, Some, None, refl, sym, ap, subst, ◌∙◌, List, [], ◌∷◌, ◌++◌, map, filter, slice_set}
use Rattle.std.proofs.lemmas.List.{append-nil}
use Rattle.std.proofs.lemmas.Bool.{or_parts, cond_both}
use Rattle.rp_base.specs.declared.kinds.End.{End}
use Rattle.rp_base.specs.declared.kinds.End.TheVariants as side
use Rattle.lane_model.specs.declared.lane_links.LaneLink.{LaneLink}
use Rattle.lane_model.specs.declared.states.LaneState.{LaneState}
use Rattle.lane_model.specs.declared.stages.Receiving.{Receiving}
use Rattle.lane_model.specs.declared.stages.Turn.{Turn}
use Rattle.lane_model.specs.declared.stages.Turn.TheVariants as turn
use Rattle.lane_model.specs.declared.recoveries.ReclaimPart.{ReclaimPart}
use Rattle.lane_model.specs.declared.recoveries.ReclaimPart.TheVariants as part
use Rattle.lane_model.specs.declared.recoveries.LaneTurn.TheVariants as lane_turn
use Rattle.lane_model.specs.Desks.{DeskMeaning}
use Rattle.lane_model.specs.Lanes.{OfCall, has_call}
use Rattle.lane_model.specs.Crashes.{has_held, needed_holder}
use Rattle.lane_model.specs.Links.{Lanes, lanes_of, with_lanes, end_of, link_of}
use Rattle.lane_model.specs.Conditions.{is_in_call, IsFitReceiver}
use Rattle.lane_model.specs.Recoveries.{link_reclaim_refusal, ended_lanes, without_caller, link_after_reclaim}
use Rattle.ring_core.specs.declared.states.Hand.{Hand}
use Rattle.ring_core.specs.declared.states.RingState.{RingState}
use Rattle.ring_core.specs.RingSteps.{ring_form, holding_of, hands_of_others, buffers_of}
use Rattle.ring_core.specs.SoundRings.{IsSoundRings}
use Rattle.ring_core.proofs.Reclaims.{send_ended_sound, receive_ended_sound}
use Rattle.lane_laws.specs.Parts.{with_manager, manager_leaves, part_done, MayPart, needs_turn, reclaim_parts}
use Rattle.lane_laws.specs.RingParts.{ring_turn_left_without, ring_lanes_part, ring_part_done, ring_parts_done}
use Rattle.lane_laws.specs.SoundRingLinks.{HasSoundRings}
use Rattle.lane_laws.proofs.PartSteps.{taken_of}
use Rattle.lane_laws.proofs.ReclaimParts.{parts_by, callers_parts, callers_by, freed_turn, holds_none, receive_kept, send_kept, unrefused}

-- ---- what the parts stand for

lane_of_choice : {D : Type 0} (b : Bool) (x y : RingState D) → (cond b x y).lane ≡ cond b x.lane y.lane
lane_of_choice true x y = refl
lane_of_choice false x y = refl

pub part_stands : {D : Type 0} (desk : DeskMeaning D) (link : LaneLink (RingState D)) (end : End) (caller : ℕ) (which : ReclaimPart)
    → link_of (ring_form desk) (ring_part_done desk link end caller which) ≡ part_done (link_of (ring_form desk) link) end caller which
part_stands desk link side.Host caller part.TakesTurn = refl
part_stands desk link side.Host caller part.EndsCall = λ i. record {
  era = link.era;
  to_host = lane_of_choice (has_call link.to_host.lane.receiver caller) ((ring_form desk).after_receive_end link.to_host caller) link.to_host i;
  to_remote = ((ring_form desk).after_send_end link.to_remote caller).lane;
  callers = link.callers;
}
part_stands desk link side.Host caller part.LeavesTurn = refl
part_stands desk link side.Host caller part.FreesNumber = refl
part_stands desk link side.Remote caller part.TakesTurn = refl
part_stands desk link side.Remote caller part.EndsCall = λ i. record {
  era = link.era;
  to_host = ((ring_form desk).after_send_end link.to_host caller).lane;
  to_remote = lane_of_choice (has_call link.to_remote.lane.receiver caller) ((ring_form desk).after_receive_end link.to_remote caller) link.to_remote i;
  callers = link.callers;
}
part_stands desk link side.Remote caller part.LeavesTurn = refl
part_stands desk link side.Remote caller part.FreesNumber = refl

-- ---- sound rings

-- a lane whose receiver's turn the manager takes
taken_sound : {D : Type 0} (s : RingState D) → IsSoundRings s → IsSoundRings (record s { lane = with_manager s.lane lane_turn.Receiver })
taken_sound s sound = record {
  sized = sound.sized;
  counted = sound.counted;
  forward_index = sound.forward_index;
  return_index = sound.return_index;
  owned = sound.owned;
  apart = sound.apart;
  holdings = sound.holdings;
  filled = sound.filled;
  room = sound.room;
  fit = taken_of _ s.lane.receiver sound.fit;
  source = sound.source;
  work = taken_of _ s.lane.receiver sound.work;
}

-- a lane whose receiver's turn the manager leaves, without what a caller holds
left_sound : {D : Type 0} (desk : DeskMeaning D) (s : RingState D) (caller : ℕ) → s.lane.receiver ≡ turn.Manager → IsSoundRings s → IsSoundRings (ring_turn_left_without desk s caller)
left_sound desk s caller managed sound =
    let ended = receive_ended_sound desk s caller sound in
    record {
      sized = ended.sized;
      counted = ended.counted;
      forward_index = ended.forward_index;
      return_index = ended.return_index;
      owned = ended.owned;
      apart = ended.apart;
      holdings = ended.holdings;
      filled = ended.filled;
      room = ended.room;
      fit = subst (λ now. IsFitReceiver (manager_leaves now) (ring_turn_left_without desk s caller).lane.lane) (sym managed) tt;
      source = ended.source;
      work = free_of (manager_leaves s.lane.receiver) (ap manager_leaves managed) _;
    }
  where
    free_of : (now : Turn Receiving) → now ≡ turn.Free → (P : ℕ → Receiving → Type 0) → OfCall now P
    free_of now is P = subst (λ (at : Turn Receiving). OfCall at P) (sym is) tt

record AreSoundLanes {D : Type 0} (lanes : Lanes (RingState D)) : Type 0 where
  outgoing : IsSoundRings lanes.outgoing
  incoming : IsSoundRings lanes.incoming

lists_of : {D : Type 0} → Lanes (RingState D) → Lanes (LaneState D)
lists_of lanes = record { outgoing = lanes.outgoing.lane; incoming = lanes.incoming.lane }

lanes_sound : {D : Type 0} (desk : DeskMeaning D) (lanes : Lanes (RingState D)) (caller : ℕ) (which : ReclaimPart) → MayPart (lists_of lanes) caller which → AreSoundLanes lanes
    → AreSoundLanes (ring_lanes_part desk lanes caller which)
unfolding lists_of
lanes_sound desk lanes caller part.TakesTurn may sound = record { outgoing = sound.outgoing; incoming = taken_sound lanes.incoming sound.incoming }
lanes_sound desk lanes caller part.EndsCall may sound = record {
  outgoing = send_ended_sound desk lanes.outgoing caller sound.outgoing;
  incoming = cond_both (has_call lanes.incoming.lane.receiver caller) ((ring_form desk).after_receive_end lanes.incoming caller) lanes.incoming IsSoundRings
      (λ _. receive_ended_sound desk lanes.incoming caller sound.incoming) (λ _. sound.incoming);
}
lanes_sound desk lanes caller part.LeavesTurn may sound = record { outgoing = sound.outgoing; incoming = left_sound desk lanes.incoming caller may sound.incoming }
lanes_sound desk lanes caller part.FreesNumber may sound = record { outgoing = sound.outgoing; incoming = sound.incoming }

pub part_sound : {D : Type 0} (desk : DeskMeaning D) (link : LaneLink (RingState D)) (end : End) (caller : ℕ) (which : ReclaimPart)
    → MayPart (lanes_of (link_of (ring_form desk) link) end) caller which → HasSoundRings link → HasSoundRings (ring_part_done desk link end caller which)
unfolding lists_of
part_sound desk link side.Host caller which may sound =
    let left = lanes_sound desk (lanes_of link side.Host) caller which may (record { outgoing = sound.to_remote; incoming = sound.to_host }) in
    record { to_host = left.incoming; to_remote = left.outgoing }
part_sound desk link side.Remote caller which may sound =
    let left = lanes_sound desk (lanes_of link side.Remote) caller which may (record { outgoing = sound.to_host; incoming = sound.to_remote }) in
    record { to_host = left.outgoing; to_remote = left.incoming }

-- ---- the whole reclaim

-- the hands and the buffers aside, where a caller holds nothing
record HandsStay (all : List Hand) (caller : ℕ) : Type 0 where
  hands : hands_of_others all caller ≡ all
  buffers : buffers_of all caller ≡ []

hands_stay : (hands : List Hand) (caller : ℕ) → has_held (map holding_of hands) caller ≡ false → HandsStay hands caller
hands_stay [] caller none = record { hands = refl; buffers = refl }
hands_stay (h ∷ hs) caller none =
    let parts = or_parts (eqb h.caller caller) (has_held (map holding_of hs) caller) none in
    let rest = hands_stay hs caller parts.1 in
    record {
      hands = ap (λ b. cond (not b) (h ∷ hands_of_others hs caller) (hands_of_others hs caller)) parts.0 ∙ ap (λ left. h ∷ left) rest.hands;
      buffers = ap (λ b. map (λ (hand : Hand). hand.buffer) (cond b (h ∷ mine hs) (mine hs))) parts.0 ∙ rest.buffers;
    }
  where
    mine : List Hand → List Hand
    mine hs = filter (λ (hand : Hand). hand.caller == caller) hs

ring_receive_kept : {D : Type 0} (desk : DeskMeaning D) (s : RingState D) (caller : ℕ) → map holding_of s.rings.hands ≡ s.lane.lane.held → has_call s.lane.receiver caller ≡ false → has_held s.lane.lane.held caller ≡ false
    → s ≡ (ring_form desk).after_receive_end s caller
ring_receive_kept desk s caller holdings silent none =
    let stay = hands_stay s.rings.hands caller (ap (λ held. has_held held caller) holdings ∙ none) in
    let aside : s.rings.aside ++ buffers_of s.rings.hands caller ≡ s.rings.aside = ap (λ more. s.rings.aside ++ more) stay.buffers ∙ append-nil s.rings.aside in
    λ i. record { lane = receive_kept s.lane caller silent none i; rings = record s.rings { hands = sym stay.hands i; aside = sym aside i } }

ring_send_kept : {D : Type 0} (desk : DeskMeaning D) (s : RingState D) (caller : ℕ) → has_call s.lane.sender caller ≡ false → s ≡ (ring_form desk).after_send_end s caller
ring_send_kept desk s caller silent = λ i. record s { lane = send_kept s.lane caller silent i }

ring_receive_parts : {D : Type 0} (desk : DeskMeaning D) (s : RingState D) (caller : ℕ) → map holding_of s.rings.hands ≡ s.lane.lane.held → needs_turn s.lane caller ≡ false
    → cond (has_call s.lane.receiver caller) ((ring_form desk).after_receive_end s caller) s ≡ (ring_form desk).after_receive_end s caller
ring_receive_parts desk s caller holdings spare = by (has_call s.lane.receiver caller) refl
  where
    by : (b : Bool) → has_call s.lane.receiver caller ≡ b → cond b ((ring_form desk).after_receive_end s caller) s ≡ (ring_form desk).after_receive_end s caller
    by true is = refl
    by false is = ring_receive_kept desk s caller holdings is (holds_none s.lane caller spare is)

-- the lanes after parts, one after the other
abbrev ring_lanes_parts : {D : Type 0} → DeskMeaning D → Lanes (RingState D) → ℕ → List ReclaimPart → Lanes (RingState D)
ring_lanes_parts desk lanes caller [] = lanes
ring_lanes_parts desk lanes caller (which ∷ parts) = ring_lanes_parts desk (ring_lanes_part desk lanes caller which) caller parts

-- the lanes whose receiver's turn is this
abbrev with_turn : {D : Type 0} → Lanes (RingState D) → Turn Receiving → Lanes (RingState D)
with_turn lanes now = record lanes { incoming = record lanes.incoming { lane = record lanes.incoming.lane { receiver = now } } }

ring_parts_end : {D : Type 0} (desk : DeskMeaning D) (lanes : Lanes (RingState D)) (caller : ℕ) (needs calls : Bool) → needs_turn lanes.incoming.lane caller ≡ needs → is_in_call (lists_of lanes) caller ≡ calls
    → needed_holder lanes.incoming.lane caller ≡ None → map holding_of lanes.incoming.rings.hands ≡ lanes.incoming.lane.lane.held
    → ring_lanes_parts desk lanes caller (parts_by needs calls) ≡ ended_lanes (ring_form desk) lanes caller
unfolding lists_of
ring_parts_end desk lanes caller false false spare silent clear holdings =
    let parts = or_parts (has_call lanes.outgoing.lane.sender caller) (has_call lanes.incoming.lane.receiver caller) silent in
    λ i. record {
      outgoing = ring_send_kept desk lanes.outgoing caller parts.0 i;
      incoming = ring_receive_kept desk lanes.incoming caller holdings parts.1 (holds_none lanes.incoming.lane caller spare parts.1) i;
    }
ring_parts_end desk lanes caller false true spare calls clear holdings =
    λ i. record { outgoing = (ring_form desk).after_send_end lanes.outgoing caller; incoming = ring_receive_parts desk lanes.incoming caller holdings spare i }
ring_parts_end {D} desk lanes caller true false needs silent clear holdings =
    let parts = or_parts (has_call lanes.outgoing.lane.sender caller) (has_call lanes.incoming.lane.receiver caller) silent in
    let free = freed_turn lanes.incoming.lane caller needs clear in
    subst (λ (now : Turn Receiving). ring_lanes_parts desk (with_turn lanes now) caller (parts_by true false) ≡ ended_lanes (ring_form desk) (with_turn lanes now) caller) (sym free)
    (λ i. record { outgoing = ring_send_kept desk lanes.outgoing caller parts.0 i; incoming = (ring_form desk).after_receive_end (with_turn lanes turn.Free).incoming caller })
ring_parts_end {D} desk lanes caller true true needs calls clear holdings =
    let free = freed_turn lanes.incoming.lane caller needs clear in
    subst (λ (now : Turn Receiving). ring_lanes_parts desk (with_turn lanes now) caller (parts_by true true) ≡ ended_lanes (ring_form desk) (with_turn lanes now) caller) (sym free) refl

ring_link_parts : {D : Type 0} (desk : DeskMeaning D) (link : LaneLink (RingState D)) (end : End) (caller : ℕ) (parts : List ReclaimPart)
    → ring_parts_done desk link end caller parts ≡ record (with_lanes link end (ring_lanes_parts desk (lanes_of link end) caller parts)) { callers = callers_parts link.callers caller parts }
ring_link_parts desk link side.Host caller [] = refl
ring_link_parts desk link side.Remote caller [] = refl
ring_link_parts desk link side.Host caller (which ∷ parts) = ring_link_parts desk (ring_part_done desk link side.Host caller which) side.Host caller parts
ring_link_parts desk link side.Remote caller (which ∷ parts) = ring_link_parts desk (ring_part_done desk link side.Remote caller which) side.Remote caller parts

-- the lists of a caller's lanes, and what they hold
lists_at : {D : Type 0} (desk : DeskMeaning D) (link : LaneLink (RingState D)) (end : End) → lists_of (lanes_of link end) ≡ lanes_of (link_of (ring_form desk) link) end
unfolding lists_of
lists_at desk link side.Host = refl
lists_at desk link side.Remote = refl

holdings_at : {D : Type 0} (link : LaneLink (RingState D)) (end : End) → HasSoundRings link → map holding_of (lanes_of link end).incoming.rings.hands ≡ (lanes_of link end).incoming.lane.lane.held
holdings_at link side.Host sound = sound.to_host.holdings
holdings_at link side.Remote sound = sound.to_remote.holdings

pub parts_whole : {D : Type 0} (desk : DeskMeaning D) (link : LaneLink (RingState D)) (end : End) (caller : ℕ) → HasSoundRings link → end_of link.callers caller ≡ Some end
    → link_reclaim_refusal (link_of (ring_form desk) link) caller ≡ None
    → ring_parts_done desk link end caller (reclaim_parts (lanes_of (link_of (ring_form desk) link) end) caller) ≡ link_after_reclaim (ring_form desk) link caller
unfolding lists_of
parts_whole {D} desk link end caller sound used none =
    let is = unrefused (link_of (ring_form desk) link) end caller used none in
    let lanes = lanes_of link end in
    let lists : lists_of lanes ≡ lanes_of (link_of (ring_form desk) link) end = lists_at desk link end in
    let clear : needed_holder lanes.incoming.lane caller ≡ None = ap (λ (l : Lanes (LaneState D)). needed_holder l.incoming caller) lists ∙ is.clear in
    let needs = needs_turn lanes.incoming.lane caller in
    let calls = is_in_call (lists_of lanes) caller in
    let ended : ring_lanes_parts desk lanes caller (parts_by needs calls) ≡ ended_lanes (ring_form desk) lanes caller = ring_parts_end desk lanes caller needs calls refl refl clear (holdings_at link end sound) in
    let freed : callers_parts link.callers caller (parts_by needs calls) ≡ slice_set link.callers caller None = callers_by link.callers caller needs calls in
    ap (λ (l : Lanes (LaneState D)). ring_parts_done desk link end caller (reclaim_parts l caller)) (sym lists)
    ∙ ring_link_parts desk link end caller (parts_by needs calls)
    ∙ (λ i. record (with_lanes link end (ended i)) { callers = freed i })
    ∙ ap (λ found. without_caller (ring_form desk) link found caller) (sym used)
