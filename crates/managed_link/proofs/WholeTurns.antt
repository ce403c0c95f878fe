-- What a whole call leaves of the turns of its link: each holder is as before it.
use Rattle.std.proofs.Common.{◌≡◌, ◌≢◌, ℕ, zero, suc, Bool, cond, List, Option, Some, None, refl, sym, ap, subst, ◌∙◌}
use Rattle.std.proofs.lemmas.Bool.{or_parts}
use Rattle.rp_base.specs.declared.kinds.End.{End}
use Rattle.rp_base.specs.declared.kinds.End.TheVariants as side
use Rattle.lane_model.specs.declared.calls.CallEnd.{CallEnd}
use Rattle.lane_model.specs.declared.calls.Outcome.TheVariants as outcome
use Rattle.lane_model.specs.declared.calls.Wish.{Wish}
use Rattle.lane_model.specs.declared.calls.Wish.TheVariants as wish
use Rattle.lane_model.specs.AtOnce.{FormEndsIn}
use Rattle.lane_model.specs.Conditions.{MayStep}
use Rattle.lane_model.specs.Lanes.{holder}
use Rattle.lane_model.specs.Links.{Lanes, LinkState, begun_outcome, end_of, form_step, lanes_step, on_lanes}
use Rattle.lane_model.specs.Soundness.{SoundLink}
use Rattle.lane_model.proofs.Ends.{may_again, same_outcome}
use Rattle.lane_model.proofs.FormSteps.{step_agrees}
use Rattle.lane_model.proofs.Steps.{same}
use Rattle.lane_laws.proofs.RingMoves.{is_ring_form}
use Rattle.ring_core.specs.declared.states.RingState.{RingState}
use Rattle.channel_bus.specs.Sides.{EndState, side_meaning}
use Rattle.link_words.specs.Words.{lane_to, other}
use Rattle.split_ring.specs.Phases.{holder_for}
use Rattle.managed_link.specs.declared.views.LaneView.{LaneView}
use Rattle.managed_link.specs.Known.{LinkRings, lists_of, on_rings}
use Rattle.managed_link.specs.Managed.{view_of}
use Rattle.managed_link.specs.Steps.{incoming_begun, outgoing_begun}
use Rattle.managed_link.specs.Views.{if_other}
use Rattle.managed_link.proofs.StepManaged.{alone_at, may_begin, may_go_on, sound_after}
use Rattle.managed_link.proofs.StepTurns.{first_turns, kept, later_turns, same_era, same_users}

-- the link behind a step
abbrev pub After : LinkRings → ℕ → ℕ → Option Wish → LinkRings
After m caller follows wished = (form_step on_rings side_meaning m caller follows wished).state

-- where a step goes on another may follow
pub may_behind : (m : LinkRings) (caller follows : ℕ) (wished : Option Wish) (number : ℕ) → (form_step on_rings side_meaning m caller follows wished).outcome ≡ outcome.At number → MayStep (lists_of m) caller wished
    → MayStep (lists_of (After m caller follows wished)) caller None
may_behind m caller follows wished number said may =
    subst (λ (s : LinkState EndState). MayStep s caller None) (sym (step_agrees on_rings side_meaning (is_ring_form side_meaning) m caller follows wished))
    (may_again side_meaning (lists_of m) caller follows wished number (sym said ∙ same_outcome on_rings side_meaning m caller follows wished) may)

user_behind : (m : LinkRings) (e : End) (caller follows : ℕ) (wished : Option Wish) → end_of m.callers caller ≡ Some e → end_of (After m caller follows wished).callers caller ≡ Some e
user_behind m e caller follows wished user = ap (λ (callers : List (Option End)). end_of callers caller) (same_users m caller follows wished) ∙ user

-- a call under way that has ended: its caller's turn is free, and the other turns are as they were
pub record LeavesTurns (caller : ℕ) (e : End) (m left : LinkRings) : Type 0 where
  pub sound : SoundLink (lists_of left)
  pub era : left.era ≡ m.era
  pub sender_beside : (lane_to left e).lane.sender ≡ (lane_to m e).lane.sender
  pub receiver_beside : (lane_to left (other e)).lane.receiver ≡ (lane_to m (other e)).lane.receiver
  pub sender : holder (lane_to left (other e)).lane.sender ≡ if_other (holder (lane_to m (other e)).lane.sender) caller
  pub receiver : holder (lane_to left e).lane.receiver ≡ if_other (holder (lane_to m e).lane.receiver) caller

later_leaves : (more : ℕ) (m left : LinkRings) (e : End) (caller : ℕ) (end : CallEnd) → end_of m.callers caller ≡ Some e → caller ≢ 64 → SoundLink (lists_of m) → MayStep (lists_of m) caller None
    → FormEndsIn more on_rings side_meaning m caller 0 None left end → LeavesTurns caller e m left
unfolding FormEndsIn
later_leaves zero m left e caller end user low sound may ends =
    let t = later_turns m e caller 0 user low (may_go_on m caller e user may).1 (alone_at m caller sound e) in
    subst (LeavesTurns caller e m) ends.1 (record {
      sound = sound_after m caller 0 None sound may;
      era = same_era m caller 0 None;
      sender_beside = t.sender_beside;
      receiver_beside = t.receiver_beside;
      sender = t.sender_left end ends.0;
      receiver = t.receiver_left end ends.0;
    })
later_leaves (suc more) m left e caller end user low sound may ends =
    let t = later_turns m e caller 0 user low (may_go_on m caller e user may).1 (alone_at m caller sound e) in
    let rest = later_leaves more (After m caller 0 None) left e caller end (user_behind m e caller 0 None user) low (sound_after m caller 0 None sound may) (may_behind m caller 0 None ends.0 ends.1 may) ends.2 in record {
      sound = rest.sound;
      era = rest.era ∙ same_era m caller 0 None;
      sender_beside = rest.sender_beside ∙ t.sender_beside;
      receiver_beside = rest.receiver_beside ∙ t.receiver_beside;
      sender = rest.sender ∙ ap (λ (h : Option ℕ). if_other h caller) (t.sender_stays ends.0 ends.1);
      receiver = rest.receiver ∙ ap (λ (h : Option ℕ). if_other h caller) (t.receiver_stays ends.0 ends.1);
    }

-- step 1 goes on where nobody has the turn that the caller needs
first_says : (m : LinkRings) (e : End) (caller follows : ℕ) (wished : Wish) → (on_lanes m (Some e) (λ lanes. lanes_step on_rings side_meaning m.era lanes caller follows (Some wished))).outcome ≡ begun_outcome (holder_for e wished m)
first_says m side.Host caller follows (wish.Send message) = refl
first_says m side.Host caller follows wish.Take = refl
first_says m side.Host caller follows (wish.Give number) = refl
first_says m side.Host caller follows (wish.Bind address) = refl
first_says m side.Host caller follows (wish.Unbind address) = refl
first_says m side.Remote caller follows (wish.Send message) = refl
first_says m side.Remote caller follows wish.Take = refl
first_says m side.Remote caller follows (wish.Give number) = refl
first_says m side.Remote caller follows (wish.Bind address) = refl
first_says m side.Remote caller follows (wish.Unbind address) = refl

was_free : (had : Option ℕ) (number : ℕ) → begun_outcome had ≡ outcome.At number → had ≡ None
was_free None number on = refl
was_free (Some h) number on = cc

first_said : (m : LinkRings) (e : End) (caller follows : ℕ) (wished : Wish) → end_of m.callers caller ≡ Some e → (form_step on_rings side_meaning m caller follows (Some wished)).outcome ≡ begun_outcome (holder_for e wished m)
first_said m e caller follows wished user =
    ap (λ (o : Option End). (on_lanes m o (λ (lanes : Lanes (RingState EndState)). lanes_step on_rings side_meaning m.era lanes caller follows (Some wished))).outcome) user ∙ first_says m e caller follows wished

free_at : (m : LinkRings) (e : End) (caller follows : ℕ) (wished : Wish) (number : ℕ) → end_of m.callers caller ≡ Some e → (form_step on_rings side_meaning m caller follows (Some wished)).outcome ≡ outcome.At number
    → holder_for e wished m ≡ None
free_at m e caller follows wished number user on = was_free (holder_for e wished m) number (sym (first_said m e caller follows wished user) ∙ on)

-- the turns behind a call that had them from step 1 on
incoming_sender : (wished : Wish) (caller : ℕ) (view : LaneView) → (incoming_begun wished caller view).sender ≡ view.sender
incoming_sender (wish.Send message) caller view = refl
incoming_sender wish.Take caller view = refl
incoming_sender (wish.Give number) caller view = refl
incoming_sender (wish.Bind address) caller view = refl
incoming_sender (wish.Unbind address) caller view = refl

outgoing_receiver : (wished : Wish) (caller : ℕ) (view : LaneView) → (outgoing_begun wished caller view).receiver ≡ view.receiver
outgoing_receiver (wish.Send message) caller view = refl
outgoing_receiver wish.Take caller view = refl
outgoing_receiver (wish.Give number) caller view = refl
outgoing_receiver (wish.Bind address) caller view = refl
outgoing_receiver (wish.Unbind address) caller view = refl

left_free : (caller : ℕ) (had : Option ℕ) → had ≡ None → if_other (Some caller) caller ≡ had
left_free caller had free = ap (λ (b : Bool). cond b None (Some caller)) (same caller) ∙ sym free

own_sender : (wished : Wish) (m : LinkRings) (e : End) (caller : ℕ) → holder_for e wished m ≡ None → if_other (holder (lane_to m (other e)).lane.sender) caller ≡ holder (lane_to m (other e)).lane.sender
    → if_other (outgoing_begun wished caller (view_of (lane_to m (other e)).lane)).sender caller ≡ holder (lane_to m (other e)).lane.sender
own_sender (wish.Send message) m e caller free stays = left_free caller _ free
own_sender wish.Take m e caller free stays = stays
own_sender (wish.Give number) m e caller free stays = stays
own_sender (wish.Bind address) m e caller free stays = stays
own_sender (wish.Unbind address) m e caller free stays = stays

own_receiver : (wished : Wish) (m : LinkRings) (e : End) (caller : ℕ) → holder_for e wished m ≡ None → if_other (holder (lane_to m e).lane.receiver) caller ≡ holder (lane_to m e).lane.receiver
    → if_other (incoming_begun wished caller (view_of (lane_to m e).lane)).receiver caller ≡ holder (lane_to m e).lane.receiver
own_receiver (wish.Send message) m e caller free stays = stays
own_receiver wish.Take m e caller free stays = left_free caller _ free
own_receiver (wish.Give number) m e caller free stays = left_free caller _ free
own_receiver (wish.Bind address) m e caller free stays = left_free caller _ free
own_receiver (wish.Unbind address) m e caller free stays = left_free caller _ free

-- a whole call of a caller of this end has ended: each turn is with whom it was
pub record KeepsHolders (e : End) (m left : LinkRings) : Type 0 where
  pub sound : SoundLink (lists_of left)
  pub era : left.era ≡ m.era
  pub incoming_sender : holder (lane_to left e).lane.sender ≡ holder (lane_to m e).lane.sender
  pub incoming_receiver : holder (lane_to left e).lane.receiver ≡ holder (lane_to m e).lane.receiver
  pub outgoing_sender : holder (lane_to left (other e)).lane.sender ≡ holder (lane_to m (other e)).lane.sender
  pub outgoing_receiver : holder (lane_to left (other e)).lane.receiver ≡ holder (lane_to m (other e)).lane.receiver

pub whole_leaves : (behind : ℕ) (m left : LinkRings) (e : End) (caller follows : ℕ) (wished : Wish) (end : CallEnd) → end_of m.callers caller ≡ Some e → caller ≢ 64 → SoundLink (lists_of m) → MayStep (lists_of m) caller (Some wished)
    → FormEndsIn behind on_rings side_meaning m caller follows (Some wished) left end → KeepsHolders e m left
unfolding FormEndsIn
whole_leaves zero m left e caller follows wished end user low sound may ends =
    let t = first_turns m e caller follows wished user in let out = t.outgoing_refused end ends.0 in let into = t.incoming_refused end ends.0 in
    subst (KeepsHolders e m) ends.1 (record {
      sound = sound_after m caller follows (Some wished) sound may;
      era = same_era m caller follows (Some wished);
      incoming_sender = ap (λ (v : LaneView). v.sender) into;
      incoming_receiver = ap (λ (v : LaneView). v.receiver) into;
      outgoing_sender = ap (λ (v : LaneView). v.sender) out;
      outgoing_receiver = ap (λ (v : LaneView). v.receiver) out;
    })
whole_leaves (suc more) m left e caller follows wished end user low sound may ends =
    let t = first_turns m e caller follows wished user in let out = t.outgoing ends.0 ends.1 in let into = t.incoming ends.0 ends.1 in
    let free = free_at m e caller follows wished ends.0 user ends.1 in let rests = or_parts _ _ (may_begin m caller e wished user may).2 in
    let rest = later_leaves more (After m caller follows (Some wished)) left e caller end (user_behind m e caller follows (Some wished) user) low (sound_after m caller follows (Some wished) sound may)
    (may_behind m caller follows (Some wished) ends.0 ends.1 may) ends.2 in record {
      sound = rest.sound;
      era = rest.era ∙ same_era m caller follows (Some wished);
      incoming_sender = ap holder rest.sender_beside ∙ (ap (λ (v : LaneView). v.sender) into ∙ incoming_sender wished caller (view_of (lane_to m e).lane));
      incoming_receiver = rest.receiver ∙ (ap (λ (v : LaneView). if_other v.receiver caller) into ∙ own_receiver wished m e caller free (kept (lane_to m e).lane.receiver caller low rests.1));
      outgoing_sender = rest.sender ∙ (ap (λ (v : LaneView). if_other v.sender caller) out ∙ own_sender wished m e caller free (kept (lane_to m (other e)).lane.sender caller low rests.0));
      outgoing_receiver = ap holder rest.receiver_beside ∙ (ap (λ (v : LaneView). v.receiver) out ∙ outgoing_receiver wished caller (view_of (lane_to m (other e)).lane));
    }
