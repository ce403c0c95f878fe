-- The numbers of buffers keep to 32 bits, whatever is done to a link.
use Rattle.std.proofs.Common.{◌≡◌, ◌<◌, ◌-◌, ◌%◌, ℕ, zero, suc, Bool, true, false, cond, eqb, not, List, [], ◌∷◌, ◌++◌, map, length, get_or, replicate, refl, sym, subst, arith}
use Rattle.std.specs.Prelude.{Option, Some, None, find, nat_lt}
use Rattle.std.specs.List.{All, range_with_len}
use Rattle.std.specs.Option.{option_map_or}
use Rattle.std.proofs.lemmas.List.Elements.{All-nil, All-head, All-tail, All-replicate, All-append, All-set, All-push, All-map, All-filter, All-from_get_or}
use Rattle.std.proofs.lemmas.List.FromFn.{length-range_with_len, get_or-range_with_len}
use Rattle.std.proofs.lemmas.Bool.{ltb-true}
use Rattle.rp_base.specs.declared.kinds.End.{End}
use Rattle.rp_base.specs.declared.kinds.End.TheVariants as side
use Rattle.rp_base.specs.declared.kinds.Era.{Era}
use Rattle.vring_layout.specs.declared.words.UsedWord.{UsedWord}
use Rattle.lane_model.specs.declared.calls.LinkConfig.{LinkConfig}
use Rattle.lane_model.specs.declared.calls.Wish.{Wish}
use Rattle.lane_model.specs.declared.calls.Wish.TheVariants as wish
use Rattle.lane_model.specs.declared.lane_links.LaneLink.{LaneLink}
use Rattle.lane_model.specs.declared.stages.GiveStage.{GiveStage}
use Rattle.lane_model.specs.declared.stages.GiveStage.TheVariants as give_stage
use Rattle.lane_model.specs.declared.stages.SendStage.{SendStage}
use Rattle.lane_model.specs.declared.stages.SendStage.TheVariants as stage
use Rattle.lane_model.specs.declared.stages.TakeStage.{TakeStage}
use Rattle.lane_model.specs.declared.stages.TakeStage.TheVariants as take_stage
use Rattle.lane_model.specs.declared.stages.Turn.{Turn}
use Rattle.lane_model.specs.declared.stages.Turn.TheVariants as turn
use Rattle.lane_model.specs.declared.stages.Work.{Work}
use Rattle.lane_model.specs.declared.stages.Work.TheVariants as work
use Rattle.lane_model.specs.Desks.{DeskMeaning}
use Rattle.lane_model.specs.Lanes.{has_call, is_live_in}
use Rattle.lane_model.specs.Links.{Lanes, end_of, lanes_of, with_lanes, on_lanes, lanes_step, send_later, receive_later}
use Rattle.ring_core.specs.declared.states.Hand.{Hand}
use Rattle.ring_core.specs.declared.states.Rings.{Rings}
use Rattle.ring_core.specs.declared.states.RingSizes.{RingSizes}
use Rattle.ring_core.specs.declared.states.RingState.{RingState}
use Rattle.rp_base.specs.Limits.{ring_capacity}
use Rattle.ring_core.specs.Rings.{buffer_at, entry_of, opened_rings, sizes_of, source_buffer}
use Rattle.ring_core.specs.RingLinks.{opened_ring_link}
use Rattle.ring_core.specs.RingSteps.{buffers_of, by_call, give_leaves, hands_of_others, held_buffer, receive_leaves, ring_form, send_leaves, take_leaves}
use Rattle.atomic_table.specs.Table.{State}
use base.Stored.{Coded}
use Rattle.link_words.specs.declared.codes.DeskTables.{DeskTables}
use Rattle.link_words.specs.declared.rule.LinkSizes.{LinkSizes}
use Rattle.link_words.specs.declared.rule.Slot.{Slot}
use Rattle.link_words.specs.declared.rule.View.{View}
use Rattle.link_words.specs.BufferNumbers.{AreNumbersShort, HasShortNumbers}
use Rattle.link_words.specs.Deeds.{Deed, Closes, EndsCall, Enlists, Frees, LeavesTurn, ManagerLeaves, ManagerTakes, Nothing, Opens, Steps, after_deed, lanes_after_end}
use Rattle.link_words.specs.Looks.{FitsWords}
use Rattle.link_words.specs.PlacedDesks.{PlacedDesk}
use Rattle.link_words.specs.Rule.{IsReached, Reaches, Shows}

abbrev IsShortEntry : UsedWord → Type 0
IsShortEntry entry = entry.id < 4294967296

abbrev IsShortHand : Hand → Type 0
IsShortHand hand = hand.buffer < 4294967296

read_short : {A : Type 0} (P : A → Type 0) (xs : List A) (k : ℕ) (d : A) → P d → All P xs → P (get_or xs k d)
read_short P [] k d low all = low
read_short P (x ∷ xs) zero d low all = All-head P x xs all
read_short P (x ∷ xs) (suc k) d low all = read_short P xs k d low (All-tail P x xs all)

buffer_short : (entries : ℕ) (ring : List UsedWord) (count : ℕ) → All IsShortEntry ring → buffer_at entries ring count < 4294967296
buffer_short entries ring count all = read_short IsShortEntry ring (count % entries) (entry_of 0) (omega arith) all

held_short : (hands : List Hand) (number : ℕ) → All IsShortHand hands → held_buffer hands number < 4294967296
held_short [] number all = omega arith
held_short (x ∷ hands) number all = go (eqb x.number number) (All-head IsShortHand x hands all) (held_short hands number (All-tail IsShortHand x hands all))
  where
    go : (b : Bool) → x.buffer < 4294967296 → held_buffer hands number < 4294967296 → option_map_or (λ (hand : Hand). hand.buffer) (cond b (Some x) (find (λ (hand : Hand). eqb hand.number number) hands)) 0 < 4294967296
    go true here later = here
    go false here later = later

source_short : (r : Rings) (accepted : ℕ) → HasShortNumbers r → source_buffer r.sizes.entries r.sizes.own r.returns accepted < 4294967296
source_short r accepted h = go (nat_lt accepted r.sizes.own) refl
  where
    go : (b : Bool) → nat_lt accepted r.sizes.own ≡ b → cond b accepted (buffer_at r.sizes.entries r.returns (accepted - r.sizes.own)) < 4294967296
    go true is = let low = ltb-true accepted r.sizes.own is in let own = h.own.0 in omega (arith, low, own)
    go false is = buffer_short r.sizes.entries r.returns (accepted - r.sizes.own) h.returns

sent_short : (r : Rings) (accepted : ℕ) (message : List ℕ) (k : SendStage) → HasShortNumbers r → HasShortNumbers (send_leaves r accepted message k)
sent_short r accepted message stage.Turn h = h
sent_short r accepted message stage.Era h = h
sent_short r accepted message stage.Look h = record { own = h.own; forward = h.forward; returns = h.returns; in_hand = h.in_hand; out = (source_short r accepted h, h.out.1) }
sent_short r accepted message stage.Buffer h = record { own = h.own; forward = All-set IsShortEntry r.forward (accepted % r.sizes.entries) _ h.out.0 h.forward; returns = h.returns; in_hand = h.in_hand; out = h.out }
sent_short r accepted message stage.Entry h = record { own = h.own; forward = h.forward; returns = h.returns; in_hand = h.in_hand; out = h.out }

taken_short : (r : Rings) (handed : ℕ) (live : Bool) (caller : ℕ) (k : TakeStage) → HasShortNumbers r → HasShortNumbers (take_leaves r handed live caller k)
taken_short r handed live caller take_stage.Turn h = h
taken_short r handed live caller take_stage.Era h = h
taken_short r handed live caller take_stage.Look h = record { own = h.own; forward = h.forward; returns = h.returns; in_hand = h.in_hand; out = (h.out.0, buffer_short r.sizes.entries r.forward handed h.forward) }
taken_short r handed true caller take_stage.Buffer h = record { own = h.own; forward = h.forward; returns = h.returns; in_hand = All-push IsShortHand r.hands _ h.in_hand h.out.1; out = h.out }
taken_short r handed false caller take_stage.Buffer h = h

given_short : (r : Rings) (returned number : ℕ) (k : GiveStage) → HasShortNumbers r → HasShortNumbers (give_leaves r returned number k)
given_short r returned number give_stage.Turn h = record { own = h.own; forward = h.forward; returns = All-set IsShortEntry r.returns _ (entry_of (held_buffer r.hands number)) (held_short r.hands number h.in_hand) h.returns; in_hand = h.in_hand; out = h.out }
given_short r returned number give_stage.Entry h = record { own = h.own; forward = h.forward; returns = h.returns; in_hand = All-filter (λ (hand : Hand). not (eqb hand.number number)) IsShortHand r.hands h.in_hand; out = h.out }

others_short : (r : Rings) (caller : ℕ) (aside : List ℕ) → HasShortNumbers r → HasShortNumbers (record r { hands = hands_of_others r.hands caller; aside = aside })
others_short r caller aside h = record { own = h.own; forward = h.forward; returns = h.returns; in_hand = All-filter (λ (hand : Hand). not (eqb hand.caller caller)) IsShortHand r.hands h.in_hand; out = h.out }

by_call_short : {C : Type 0} (t : Turn C) (r : Rings) (leaves : ℕ → C → Rings) → HasShortNumbers r → ((caller : ℕ) (call : C) → HasShortNumbers (leaves caller call)) → HasShortNumbers (by_call t r leaves)
by_call_short turn.Free r leaves h next = h
by_call_short (turn.Taken caller call) r leaves h next = next caller call
by_call_short (turn.Leaving caller end) r leaves h next = h
by_call_short turn.Manager r leaves h next = h

-- the buffers that the return ring of a new lane names
numbered : (own capacity : ℕ) → capacity < 4294967296 → All IsShortEntry (map entry_of (range_with_len own (capacity - own)))
numbered own capacity many = All-map IsShortEntry entry_of (range_with_len own (capacity - own)) (All-from_get_or (λ (n : ℕ). n < 4294967296) (range_with_len own (capacity - own)) 0 low)
  where
    low : (i : ℕ) → i < length (range_with_len own (capacity - own)) → get_or (range_with_len own (capacity - own)) i 0 < 4294967296
    low i at = let long = length-range_with_len own (capacity - own) in let within : i < capacity - own = omega (arith, at, long) in let is = get_or-range_with_len own (capacity - own) i 0 within in omega (arith, is, within, many)

opened_short : (sizes : RingSizes) (buffers : List (List ℕ)) → sizes.own < 4294967296 → sizes.capacity < 4294967296 → HasShortNumbers (opened_rings sizes buffers)
opened_short sizes buffers own many = record {
  own = (own, many);
  forward = All-replicate IsShortEntry sizes.entries (entry_of 0) (omega arith);
  returns = All-append IsShortEntry (map entry_of (range_with_len sizes.own (sizes.capacity - sizes.own))) (replicate (sizes.entries - (sizes.capacity - sizes.own)) (entry_of 0)) (numbered sizes.own sizes.capacity many)
      (All-replicate IsShortEntry (sizes.entries - (sizes.capacity - sizes.own)) (entry_of 0) (omega arith));
  in_hand = All-nil IsShortHand;
  out = (omega arith, omega arith);
}

-- of a new link
pub opened_numbers : {D : Type 0} (config : LinkConfig) (host remote : D) → AreNumbersShort (opened_ring_link config host remote)
opened_numbers config host remote = record {
  to_host = opened_short (sizes_of config.num0 true) (replicate (ring_capacity config.num0) []) (omega arith) (omega arith);
  to_remote = opened_short (sizes_of config.num1 false) (replicate (ring_capacity config.num1) []) (omega arith) (omega arith);
}

module _ {D : Type 0} (desk : DeskMeaning D) where
  received_short : (s : RingState D) (live : Bool) (caller : ℕ) (w : Work) → HasShortNumbers s.rings → HasShortNumbers (receive_leaves s live caller w)
  received_short s live caller (work.Take k) h = taken_short s.rings (length s.lane.lane.takers) live caller k h
  received_short s live caller (work.Give number k) h = given_short s.rings s.lane.lane.returned number k h
  received_short s live caller (work.Bind address) h = h
  received_short s live caller (work.Unbind address) h = h

  abbrev AreLanesShort : Lanes (RingState D) → Type 0
  AreLanesShort lanes = HasShortNumbers lanes.outgoing.rings × HasShortNumbers lanes.incoming.rings

  later_short : (b : Bool) (era : Era) (lanes : Lanes (RingState D)) → AreLanesShort lanes → AreLanesShort (cond b (send_later (ring_form desk) era lanes) (receive_later (ring_form desk) desk era lanes)).state
  later_short true era lanes h = (by_call_short lanes.outgoing.lane.sender lanes.outgoing.rings (λ caller call. send_leaves lanes.outgoing.rings (length lanes.outgoing.lane.lane.accepted) call.message call.stage) h.0 (λ caller call. sent_short lanes.outgoing.rings (length lanes.outgoing.lane.lane.accepted) call.message call.stage h.0), h.1)
  later_short false era lanes h = (h.0, by_call_short lanes.incoming.lane.receiver lanes.incoming.rings (λ caller call. receive_leaves lanes.incoming (is_live_in era call.follows) caller call.work) h.1 (λ caller call. received_short lanes.incoming (is_live_in era call.follows) caller call.work h.1))

  lanes_short : (era : Era) (lanes : Lanes (RingState D)) (caller follows : ℕ) (wished : Option Wish) → AreLanesShort lanes → AreLanesShort (lanes_step (ring_form desk) desk era lanes caller follows wished).state
  lanes_short era lanes caller follows (Some (wish.Send message)) h = h
  lanes_short era lanes caller follows (Some wish.Take) h = h
  lanes_short era lanes caller follows (Some (wish.Give number)) h = h
  lanes_short era lanes caller follows (Some (wish.Bind address)) h = h
  lanes_short era lanes caller follows (Some (wish.Unbind address)) h = h
  lanes_short era lanes caller follows None h = later_short (has_call lanes.outgoing.lane.sender caller) era lanes h

  with_short : (m : LaneLink (RingState D)) (e : End) (lanes : Lanes (RingState D)) → AreLanesShort lanes → AreNumbersShort (with_lanes m e lanes)
  with_short m side.Host lanes h = record { to_host = h.1; to_remote = h.0 }
  with_short m side.Remote lanes h = record { to_host = h.0; to_remote = h.1 }

  at_end : (m : LaneLink (RingState D)) (e : End) → AreNumbersShort m → AreLanesShort (lanes_of m e)
  at_end m side.Host h = (h.to_remote, h.to_host)
  at_end m side.Remote h = (h.to_host, h.to_remote)

  step_short : (m : LaneLink (RingState D)) (caller follows : ℕ) (wished : Option Wish) (o : Option End) → AreNumbersShort m
      → AreNumbersShort (on_lanes m o (λ lanes. lanes_step (ring_form desk) desk m.era lanes caller follows wished)).state
  step_short m caller follows wished None h = h
  step_short m caller follows wished (Some e) h = with_short m e (lanes_step (ring_form desk) desk m.era (lanes_of m e) caller follows wished).state (lanes_short m.era (lanes_of m e) caller follows wished (at_end m e h))

  ended_short : (b : Bool) (lanes : Lanes (RingState D)) (caller : ℕ) → AreLanesShort lanes → HasShortNumbers (cond b ((ring_form desk).after_receive_end lanes.incoming caller) lanes.incoming).rings
  ended_short true lanes caller h = others_short lanes.incoming.rings caller (lanes.incoming.rings.aside ++ buffers_of lanes.incoming.rings.hands caller) h.1
  ended_short false lanes caller h = h.1

  closed_short : (b : Bool) (m : LaneLink (RingState D)) (inc : ℕ) → AreNumbersShort m → AreNumbersShort (cond b (record m { era = record { inc = inc; is_live = false } }) m)
  closed_short true m inc h = record { to_host = h.to_host; to_remote = h.to_remote }
  closed_short false m inc h = h

  deed_short : (m : LaneLink (RingState D)) (d : Deed) → AreNumbersShort m → AreNumbersShort (after_deed desk m d)
  deed_short m (Steps caller follows wished) h = step_short m caller follows wished (end_of m.callers caller) h
  deed_short m (Closes inc) h = closed_short (is_live_in m.era inc) m inc h
  deed_short m (EndsCall e caller) h = with_short m e (lanes_after_end desk (lanes_of m e) caller) ((at_end m e h).0, ended_short (has_call (lanes_of m e).incoming.lane.receiver caller) (lanes_of m e) caller (at_end m e h))
  deed_short m Opens h = record { to_host = opened_short m.to_host.rings.sizes m.to_host.rings.buffers h.to_host.own.0 h.to_host.own.1; to_remote = opened_short m.to_remote.rings.sizes m.to_remote.rings.buffers h.to_remote.own.0 h.to_remote.own.1 }
  deed_short m (LeavesTurn side.Host caller) h = record { to_host = others_short m.to_host.rings caller (m.to_host.rings.aside ++ buffers_of m.to_host.rings.hands caller) h.to_host; to_remote = h.to_remote }
  deed_short m (LeavesTurn side.Remote caller) h = record { to_host = h.to_host; to_remote = others_short m.to_remote.rings caller (m.to_remote.rings.aside ++ buffers_of m.to_remote.rings.hands caller) h.to_remote }
  deed_short m (ManagerTakes which side.Host) h = record { to_host = h.to_host; to_remote = h.to_remote }
  deed_short m (ManagerTakes which side.Remote) h = record { to_host = h.to_host; to_remote = h.to_remote }
  deed_short m (ManagerLeaves which side.Host) h = record { to_host = h.to_host; to_remote = h.to_remote }
  deed_short m (ManagerLeaves which side.Remote) h = record { to_host = h.to_host; to_remote = h.to_remote }
  deed_short m (Enlists e) h = record { to_host = h.to_host; to_remote = h.to_remote }
  deed_short m (Frees e caller) h = record { to_host = h.to_host; to_remote = h.to_remote }
  deed_short m Nothing h = h

  run_short : (start : LaneLink (RingState D)) (run : List Deed) (m : LaneLink (RingState D)) → Reaches desk start run m → AreNumbersShort start → AreNumbersShort m
  run_short start [] m is h = subst AreNumbersShort (sym is) h
  run_short start (d ∷ run) m by h = subst AreNumbersShort (sym by.3) (deed_short by.0 d (run_short start run by.0 by.1 h))

  reached_short : (m : LaneLink (RingState D)) → IsReached desk m → AreNumbersShort m
  reached_short m r = run_short r.start r.run m r.by_run r.short

-- a state that a table shows fits its words
pub fits : {B : Type 0} {kc : Coded B} {kz : DeskTables} (cd : Coded (PlacedDesk kc kz)) (desk : DeskMeaning (PlacedDesk kc kz)) (z : LinkSizes) (st : State Slot View) (m : LaneLink (RingState (PlacedDesk kc kz))) {p : ℕ} → Shows cd desk z st m p → FitsWords z m
fits cd desk z st m r = record { inc = r.numbers.short; to_host = r.to_host.sizes; to_remote = r.to_remote.sizes; short = reached_short desk m r.reached }
