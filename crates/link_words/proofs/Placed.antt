-- A deed does to a link whose desks lie in their places what it does to the link.
use Rattle.std.proofs.Common.{◌≡◌, ℕ, Bool, true, false, refl, sym, ap, ◌∙◌, subst}
use Rattle.std.specs.Prelude.{if◌then◌else◌, Option, Some, None}
use base.Stored.{Coded}
use Rattle.rp_base.specs.declared.kinds.Era.{Era}
use Rattle.rp_base.specs.declared.kinds.End.{End}
use Rattle.rp_base.specs.declared.kinds.End.TheVariants as side
use Rattle.lane_model.specs.declared.calls.Wish.{Wish}
use Rattle.lane_model.specs.declared.calls.Wish.TheVariants as wish
use Rattle.lane_model.specs.declared.calls.CallEnd.TheVariants as end
use Rattle.lane_model.specs.declared.lane_links.LaneLink.{LaneLink}
use Rattle.lane_model.specs.declared.recoveries.LaneTurn.TheVariants as lane_turn
use Rattle.lane_model.specs.declared.stages.GiveStage.TheVariants as give_stage
use Rattle.lane_model.specs.declared.stages.Receiving.{Receiving}
use Rattle.lane_model.specs.declared.stages.SendStage.{SendStage}
use Rattle.lane_model.specs.declared.stages.SendStage.TheVariants as stage
use Rattle.lane_model.specs.declared.stages.Sending.{Sending}
use Rattle.lane_model.specs.declared.stages.TakeStage.TheVariants as take_stage
use Rattle.lane_model.specs.declared.stages.Turn.{Turn}
use Rattle.lane_model.specs.declared.stages.Turn.TheVariants as turn
use Rattle.lane_model.specs.declared.stages.Work.{Work}
use Rattle.lane_model.specs.declared.stages.Work.TheVariants as work
use Rattle.lane_model.specs.declared.states.LaneState.{LaneState}
use Rattle.lane_model.specs.Desks.{DeskMeaning}
use Rattle.lane_model.specs.Lanes.{has_call, is_live_in, turn_step}
use Rattle.lane_model.specs.Links.{Lanes, end_of, lanes_of, with_lanes, on_lanes, lanes_step, send_later, receive_later}
use Rattle.lane_model.specs.Receives.{receive_step, after_handing}
use Rattle.lane_model.specs.Sends.{send_step}
use Rattle.ring_core.specs.declared.states.RingState.{RingState}
use Rattle.ring_core.specs.RingSteps.{ring_form}
use Rattle.link_words.specs.declared.codes.DeskTables.{DeskTables}
use Rattle.link_words.specs.Deeds.{Deed, Nothing, EndsCall, ManagerTakes, ManagerLeaves, LeavesTurn, Opens, Enlists, Frees, Steps, Closes, after_deed, lanes_after_end}
use Rattle.link_words.specs.declared.copies.LinkCopy.{LinkCopy}
use Rattle.link_words.specs.declared.rule.LinkSizes.{LinkSizes}
use Rattle.link_words.specs.declared.rule.View.{View}
use Rattle.link_words.specs.Codes.{copied}
use Rattle.link_words.specs.PlacedDesks.{PlacedDesk, placed_coded, placed_meaning}
use Rattle.link_words.specs.PlacedLinks.{placed, placed_lane, placed_link, KnowsState, IsSameCarrier}
use Rattle.link_words.proofs.Exact.{copied_one}
use Rattle.link_words.specs.Words.{other}

either_placed : {A B : Type 0} (f : A → B) (b : Bool) (x y : A) → (if b then f x else f y) ≡ f (if b then x else y)
either_placed f true x y = refl
either_placed f false x y = refl

module _ {D : Type 0} (coded : Coded D) (tables : DeskTables) (meaning : DeskMeaning D) where
  abbrev there : DeskMeaning (PlacedDesk coded tables)
  there = placed_meaning coded tables meaning

  -- of a lane as a list
  abbrev placed_state : End → LaneState D → LaneState (PlacedDesk coded tables)
  placed_state end s = record { lane = s.lane; sender = s.sender; receiver = s.receiver; desk = placed coded tables end s.desk }

  abbrev placed_lanes : End → Lanes (RingState D) → Lanes (RingState (PlacedDesk coded tables))
  placed_lanes end lanes = record { outgoing = placed_lane coded tables (other end) lanes.outgoing; incoming = placed_lane coded tables end lanes.incoming }

  send_placed : (e : End) (era : Era) (s : LaneState D) (caller : ℕ) (sending : Sending) (k : SendStage) → (send_step era (placed_state e s) caller sending k).state ≡ placed_state e (send_step era s caller sending k).state
  send_placed e era s caller sending stage.Turn = refl
  send_placed e era s caller sending stage.Era = refl
  send_placed e era s caller sending stage.Look = refl
  send_placed e era s caller sending stage.Buffer = refl
  send_placed e era s caller sending stage.Entry = refl

  sender_placed : (e : End) (era : Era) (s : LaneState D) (t : Turn Sending)
      → (turn_step (placed_state e s) (record (placed_state e s) { sender = turn.Free }) (λ caller c. send_step era (placed_state e s) caller c c.stage) t).state
      ≡ placed_state e (turn_step s (record s { sender = turn.Free }) (λ caller c. send_step era s caller c c.stage) t).state
  sender_placed e era s turn.Free = refl
  sender_placed e era s (turn.Taken caller c) = send_placed e era s caller c c.stage
  sender_placed e era s (turn.Leaving caller ended) = refl
  sender_placed e era s turn.Manager = refl

  receive_placed : (e : End) (era : Era) (s : LaneState D) (caller : ℕ) (r : Receiving) (w : Work) → (receive_step there era (placed_state e s) caller r w).state ≡ placed_state e (receive_step meaning era s caller r w).state
  receive_placed e era s caller r (work.Take take_stage.Turn) = refl
  receive_placed e era s caller r (work.Take take_stage.Era) = refl
  receive_placed e era s caller r (work.Take take_stage.Look) = refl
  receive_placed e era s caller r (work.Take take_stage.Buffer) = either_placed (placed_state e) (is_live_in era r.follows) (after_handing meaning s caller) (record s { receiver = turn.Leaving caller (end.Dead era) })
  receive_placed e era s caller r (work.Give number give_stage.Turn) = refl
  receive_placed e era s caller r (work.Give number give_stage.Entry) = refl
  receive_placed e era s caller r (work.Bind address) = either_placed (placed_state e) (is_live_in era r.follows) _ _
  receive_placed e era s caller r (work.Unbind address) = either_placed (placed_state e) (is_live_in era r.follows) _ _

  receiver_placed : (e : End) (era : Era) (s : LaneState D) (t : Turn Receiving)
      → (turn_step (placed_state e s) (record (placed_state e s) { receiver = turn.Free }) (λ caller r. receive_step there era (placed_state e s) caller r r.work) t).state
      ≡ placed_state e (turn_step s (record s { receiver = turn.Free }) (λ caller r. receive_step meaning era s caller r r.work) t).state
  receiver_placed e era s turn.Free = refl
  receiver_placed e era s (turn.Taken caller r) = receive_placed e era s caller r r.work
  receiver_placed e era s (turn.Leaving caller ended) = refl
  receiver_placed e era s turn.Manager = refl

  later_placed : (b : Bool) (e : End) (era : Era) (lanes : Lanes (RingState D))
      → (if b then send_later (ring_form there) era (placed_lanes e lanes) else receive_later (ring_form there) there era (placed_lanes e lanes)).state
      ≡ placed_lanes e (if b then send_later (ring_form meaning) era lanes else receive_later (ring_form meaning) meaning era lanes).state
  later_placed true e era lanes = λ i. record (placed_lanes e lanes) {
    outgoing = record {
      lane = sender_placed (other e) era lanes.outgoing.lane lanes.outgoing.lane.sender i;
      rings = ((ring_form meaning).sent_on lanes.outgoing era).rings;
    };
  }
  later_placed false e era lanes = λ i. record (placed_lanes e lanes) {
    incoming = record {
      lane = receiver_placed e era lanes.incoming.lane lanes.incoming.lane.receiver i;
      rings = ((ring_form meaning).received_on lanes.incoming era).rings;
    };
  }

  lanes_placed : (e : End) (era : Era) (lanes : Lanes (RingState D)) (caller follows : ℕ) (wished : Option Wish)
      → (lanes_step (ring_form there) there era (placed_lanes e lanes) caller follows wished).state ≡ placed_lanes e (lanes_step (ring_form meaning) meaning era lanes caller follows wished).state
  lanes_placed e era lanes caller follows (Some (wish.Send message)) = refl
  lanes_placed e era lanes caller follows (Some wish.Take) = refl
  lanes_placed e era lanes caller follows (Some (wish.Give number)) = refl
  lanes_placed e era lanes caller follows (Some (wish.Bind address)) = refl
  lanes_placed e era lanes caller follows (Some (wish.Unbind address)) = refl
  lanes_placed e era lanes caller follows None = later_placed (has_call lanes.outgoing.lane.sender caller) e era lanes

  with_placed : (m : LaneLink (RingState D)) (e : End) (lanes : Lanes (RingState D)) → with_lanes (placed_link coded tables m) e (placed_lanes e lanes) ≡ placed_link coded tables (with_lanes m e lanes)
  with_placed m side.Host lanes = refl
  with_placed m side.Remote lanes = refl

  lanes_there : (m : LaneLink (RingState D)) (e : End) → lanes_of (placed_link coded tables m) e ≡ placed_lanes e (lanes_of m e)
  lanes_there m side.Host = refl
  lanes_there m side.Remote = refl

  step_placed : (m : LaneLink (RingState D)) (caller follows : ℕ) (wished : Option Wish) (o : Option End)
      → (on_lanes (placed_link coded tables m) o (λ lanes. lanes_step (ring_form there) there m.era lanes caller follows wished)).state
      ≡ placed_link coded tables (on_lanes m o (λ lanes. lanes_step (ring_form meaning) meaning m.era lanes caller follows wished)).state
  step_placed m caller follows wished None = refl
  step_placed m caller follows wished (Some side.Host) = ap (with_lanes (placed_link coded tables m) side.Host) (lanes_placed side.Host m.era (lanes_of m side.Host) caller follows wished)
  step_placed m caller follows wished (Some side.Remote) = ap (with_lanes (placed_link coded tables m) side.Remote) (lanes_placed side.Remote m.era (lanes_of m side.Remote) caller follows wished)

  ended_placed : (e : End) (lanes : Lanes (RingState D)) (caller : ℕ) → lanes_after_end there (placed_lanes e lanes) caller ≡ placed_lanes e (lanes_after_end meaning lanes caller)
  ended_placed e lanes caller = λ i. record {
    outgoing = placed_lane coded tables (other e) ((ring_form meaning).after_send_end lanes.outgoing caller);
    incoming = either_placed (placed_lane coded tables e) (has_call lanes.incoming.lane.receiver caller) ((ring_form meaning).after_receive_end lanes.incoming caller) lanes.incoming i;
  }

  pub deed_placed : (m : LaneLink (RingState D)) (d : Deed) → after_deed there (placed_link coded tables m) d ≡ placed_link coded tables (after_deed meaning m d)
  deed_placed m (Steps caller follows wished) = step_placed m caller follows wished (end_of m.callers caller)
  deed_placed m (Closes inc) = either_placed (placed_link coded tables) (is_live_in m.era inc) (record m { era = record { inc = inc; is_live = false } }) m
  deed_placed m (EndsCall side.Host caller) = ap (with_lanes (placed_link coded tables m) side.Host) (ended_placed side.Host (lanes_of m side.Host) caller)
  deed_placed m (EndsCall side.Remote caller) = ap (with_lanes (placed_link coded tables m) side.Remote) (ended_placed side.Remote (lanes_of m side.Remote) caller)
  deed_placed m Opens = refl
  deed_placed m (LeavesTurn side.Host caller) = refl
  deed_placed m (LeavesTurn side.Remote caller) = refl
  deed_placed m (ManagerTakes lane_turn.Sender side.Host) = refl
  deed_placed m (ManagerTakes lane_turn.Sender side.Remote) = refl
  deed_placed m (ManagerTakes lane_turn.Receiver side.Host) = refl
  deed_placed m (ManagerTakes lane_turn.Receiver side.Remote) = refl
  deed_placed m (ManagerLeaves lane_turn.Sender side.Host) = refl
  deed_placed m (ManagerLeaves lane_turn.Sender side.Remote) = refl
  deed_placed m (ManagerLeaves lane_turn.Receiver side.Host) = refl
  deed_placed m (ManagerLeaves lane_turn.Receiver side.Remote) = refl
  deed_placed m (Enlists e) = refl
  deed_placed m (Frees e caller) = refl
  deed_placed m Nothing = refl

-- a manager that knew the state by its copy knows the one after this deed, where the step took the copy by it
pub state_after : {D : Type 0} (coded : Coded D) (meaning : DeskMeaning D) (d : Deed) (v w : View) (state : LaneLink (RingState (PlacedDesk coded v.sizes.desks))) (known : LaneLink (RingState D)) → KnowsState coded v known → IsSameCarrier v w
    → ((k : LinkCopy) → v.copy ≡ Some k → (k ≡ copied (placed_coded coded v.sizes.desks) state) × (w.copy ≡ Some (copied (placed_coded coded v.sizes.desks) (after_deed (placed_meaning coded v.sizes.desks meaning) state d))))
    → KnowsState coded w (after_deed meaning known d)
state_after coded meaning d v w state known knows same follows =
    let cd = placed_coded coded v.sizes.desks in let here = placed_link coded v.sizes.desks known in let c = follows (copied cd here) knows.copy in
    let is : state ≡ here = sym (copied_one cd here state c.0) in
    record {
      manages = same.manages;
      carries = same.out ∙ knows.carries;
      copy = subst (λ (z : LinkSizes). w.copy ≡ Some (copied (placed_coded coded z.desks) (placed_link coded z.desks (after_deed meaning known d)))) (sym same.sizes)
          (c.1 ∙ (ap (λ (m : LaneLink (RingState (PlacedDesk coded v.sizes.desks))). Some (copied cd (after_deed (placed_meaning coded v.sizes.desks meaning) m d))) is
          ∙ ap (λ (m : LaneLink (RingState (PlacedDesk coded v.sizes.desks))). Some (copied cd m)) (deed_placed coded v.sizes.desks meaning known d)));
    }
