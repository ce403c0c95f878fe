-- Between two calls no receiver's turn is the manager's: who has it, if any, is a caller of the end that it belongs to.
use Rattle.std.proofs.Common.{◌≡◌, ◌<◌, ◌==◌, ℕ, List, Option, Some, None, refl, sym, ap, subst, arith}
use Rattle.std.specs.Prelude.{IfSome}
use Rattle.std.proofs.lemmas.Bool.{cond_both}
use Rattle.rp_base.specs.declared.kinds.End.{End}
use Rattle.lane_model.specs.declared.calls.CallEnd.{CallEnd}
use Rattle.lane_model.specs.declared.calls.CallEnd.TheVariants as end
use Rattle.lane_model.specs.declared.calls.Wish.{Wish}
use Rattle.lane_model.specs.declared.calls.Wish.TheVariants as wish
use Rattle.lane_model.specs.declared.stages.Turn.{Turn}
use Rattle.lane_model.specs.declared.stages.Turn.TheVariants as turn
use Rattle.lane_model.specs.declared.states.LaneState.{LaneState}
use Rattle.lane_model.specs.Lanes.{holder}
use Rattle.lane_model.specs.Links.{end_of}
use Rattle.lane_model.specs.Soundness.{IsSoundTurn}
use Rattle.channel_bus.specs.Sides.{EndState}
use Rattle.managed_link.specs.declared.views.LaneView.{LaneView}
use Rattle.managed_link.specs.Managed.{IsOfCaller, view_of}
use Rattle.managed_link.specs.Settles.{incoming_view, outgoing_view}
use Rattle.managed_link.specs.Steps.{incoming_begun, incoming_learnt, outgoing_begun, outgoing_learnt}
use Rattle.managed_link.specs.Views.{if_other}

-- what is known of a lane has the same receiver as before
pub same_receiver : (before after : LaneView) → after.receiver ≡ before.receiver → IsOfCaller before.receiver → IsOfCaller after.receiver
same_receiver before after same is = subst IsOfCaller (sym same) is

-- behind the first step of a call
pub incoming_first : (wished : Wish) (caller : ℕ) (view : LaneView) → caller < 64 → IsOfCaller view.receiver → IsOfCaller (incoming_begun wished caller view).receiver
incoming_first (wish.Send message) caller view low is = is
incoming_first wish.Take caller view low is = low
incoming_first (wish.Give number) caller view low is = low
incoming_first (wish.Bind address) caller view low is = low
incoming_first (wish.Unbind address) caller view low is = low

pub outgoing_first : (wished : Wish) (caller : ℕ) (view : LaneView) → (outgoing_begun wished caller view).receiver ≡ view.receiver
outgoing_first (wish.Send message) caller view = refl
outgoing_first wish.Take caller view = refl
outgoing_first (wish.Give number) caller view = refl
outgoing_first (wish.Bind address) caller view = refl
outgoing_first (wish.Unbind address) caller view = refl

-- once its end is settled
pub incoming_settled : (ended : CallEnd) (view : LaneView) → (incoming_view ended view).receiver ≡ view.receiver
incoming_settled (end.Took number verdict) view = refl
incoming_settled (end.Gave number) view = refl
incoming_settled other view = refl

pub outgoing_settled : (ended : CallEnd) (view : LaneView) → (outgoing_view ended view).receiver ≡ view.receiver
outgoing_settled (end.Sent number) view = refl
outgoing_settled other view = refl

pub incoming_later : (settled : Option CallEnd) (view : LaneView) → (incoming_learnt settled view).receiver ≡ view.receiver
incoming_later None view = refl
incoming_later (Some ended) view = incoming_settled ended view

pub outgoing_later : (settled : Option CallEnd) (view : LaneView) → (outgoing_learnt settled view).receiver ≡ view.receiver
outgoing_later None view = refl
outgoing_later (Some ended) view = outgoing_settled ended view

-- once this caller has no turn
pub others_turn : (found : Option ℕ) (caller : ℕ) → IsOfCaller found → IsOfCaller (if_other found caller)
others_turn None caller is = tt
others_turn (Some other) caller is = cond_both (other == caller) None (Some other) IsOfCaller (λ _. tt) (λ _. is)

-- who has a turn on a sound link is a caller of its end
turn_user : {C : Type 0} (callers : List (Option End)) (end : End) (now : Turn C) → IsSoundTurn callers end now → IsOfCaller (holder now) → IfSome (holder now) (λ caller. end_of callers caller ≡ Some end)
turn_user callers end turn.Free sound is = tt
turn_user callers end (turn.Taken caller call) sound is = sound
turn_user callers end (turn.Leaving caller ended) sound is = sound
turn_user callers end turn.Manager sound is = absurd (omega arith)

pub receiver_user : (view : LaneView) (callers : List (Option End)) (end : End) (state : LaneState EndState) → view ≡ view_of state → IsSoundTurn callers end state.receiver → IsOfCaller view.receiver → IfSome view.receiver (λ caller. end_of callers caller ≡ Some end)
receiver_user view callers end state same sound is = let found : view.receiver ≡ holder state.receiver = ap (λ (v : LaneView). v.receiver) same in
    subst (λ (o : Option ℕ). IfSome o (λ caller. end_of callers caller ≡ Some end)) (sym found) (turn_user callers end state.receiver sound (subst IsOfCaller found is))
