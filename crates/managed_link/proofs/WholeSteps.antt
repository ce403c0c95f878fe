-- What a whole call of a caller in no call leaves of a managed link.
use Rattle.std.proofs.Common.{◌≡◌, ◌≢◌, ⊎_elim, ℕ, ◌+◌, map, List, [], ◌∷◌, ◌++◌, Option, Some, None, Result, Ok, Err, refl, sym, ap, subst, ◌∙◌, arith}
use Rattle.std.specs.Prelude.{MatchResult, Vec, vec_capacity}
use Rattle.std.specs.Option.{option_map}
use Rattle.std.specs.declared.alloc.Global.{Global}
use Rattle.std.proofs.lemmas.List.{map-append}
use mathlib.Core.Option.{some}
use lib.ListN.{get_elem?}
use Rattle.rp_base.specs.declared.kinds.End.{End}
use Rattle.lane_model.specs.declared.calls.Answer.{Answer}
use Rattle.lane_model.specs.declared.calls.Answer.TheVariants as answer
use Rattle.lane_model.specs.declared.calls.CallEnd.{CallEnd}
use Rattle.lane_model.specs.declared.calls.Wish.{Wish}
use Rattle.lane_model.specs.declared.states.Holding.{Holding}
use Rattle.lane_model.specs.AtOnce.{FormEndsIn}
use Rattle.lane_model.specs.Conditions.{MayEndStep, MayStep}
use Rattle.lane_model.specs.Links.{end_of}
use Rattle.channel_bus.specs.Sides.{side_meaning}
use Rattle.link_words.specs.Passes.{HasNumber}
use Rattle.link_words.specs.Words.{other}
use Rattle.split_ring.specs.declared.callers.CallerId.{CallerId}
use Rattle.split_ring.specs.declared.callers.Manager.{Manager}
use Rattle.split_ring.specs.CallPhases.{Phase}
use Rattle.split_ring.specs.CallPhases as phase
use Rattle.split_ring.specs.declared.sends.SendFault.{SendFault}
use Rattle.split_ring.specs.declared.sends.SendFault.TheVariants as send_fault
use Rattle.split_ring.specs.declared.takes.Taken.{Taken}
use Rattle.split_ring.specs.declared.takes.TakeFault.{TakeFault}
use Rattle.split_ring.specs.declared.takes.TakeFault.TheVariants as take_fault
use Rattle.split_ring.specs.Callers.{IsManagerOf}
use Rattle.split_ring.specs.Calls.{call_end, send_answer, take_answer}
use Rattle.split_ring.specs.Carried.{CarriesIdle, Keeps}
use Rattle.split_ring.specs.Handed.{IsOwnBuffer}
use Rattle.split_ring.specs.ManagerCalls.{CallsState}
use Rattle.split_ring.specs.Reclaims.{buffer_in, phase_of}
use Rattle.managed_link.specs.declared.call_slots.CarriedCall.{CarriedCall}
use Rattle.managed_link.specs.declared.hands.Hand.{Hand}
use Rattle.managed_link.specs.declared.links.ManagedLink.TheInside.{Inside}
use Rattle.managed_link.specs.declared.views.LaneView.{LaneView}
use Rattle.managed_link.specs.EndCodes.{end_coded}
use Rattle.managed_link.specs.Hands.{holding_of}
use Rattle.managed_link.specs.Known.{IsKnown, LinkRings, lists_of, on_rings}
use Rattle.managed_link.specs.Managed.{AreHandsOf, IsCarriedIn, IsHandOf, IsManaged, IsOwnAnswer, ShowsViews, call_of, caller_id}
use Rattle.managed_link.specs.Settles.{HasRoomFor, incoming_view, outgoing_view}
use Rattle.managed_link.specs.Steps.{of_end}
use Rattle.managed_link.specs.Taken.{HoldsTaken}
use Rattle.managed_link.proofs.CallersTurns.{incoming_settled, outgoing_settled, same_receiver}
use Rattle.managed_link.proofs.Calling.{rests_in}
use Rattle.managed_link.proofs.KnownStates.{at_known, state_one}
use Rattle.managed_link.proofs.StepBooks.{BooksGrow, books_grow}
use Rattle.managed_link.proofs.StepGives.{ended_hands}
use Rattle.managed_link.proofs.StepHands.{StepsCall, hand_kept, hands_beside, hands_here, last_or_before, out_with}
use Rattle.managed_link.proofs.StepManaged.{IsStepped, hands_at, idle_still, managed_after, may_begin, settled_room, turn_at, view_at, views_after}
use Rattle.managed_link.proofs.StepSettles.{has_begun, held_known, incoming_known, not_in_none, outgoing_known}
use Rattle.managed_link.proofs.TakenMessages.{holds_answer}
use Rattle.managed_link.proofs.WholeTurns.{KeepsHolders, whole_leaves}

-- what the parts of a managed link keep
abbrev pub IsLink : Inside → Type 0
IsLink s = IsManaged s.shared s.manager s.calls.items s.host s.remote s.known.0 × ShowsViews s.era s.to_host s.to_remote s.known.0

-- a whole call of a caller: the link and the count of its steps before it, and the manager and the count behind it
pub record WholeCall : Type 0 where
  pub link : Inside
  pub after : Manager
  pub who : CallerId
  pub wished : Wish
  pub steps : ℕ
  pub counted : ℕ

-- the caller was in no call, and its call had this answer, by what the manager told of it
pub record HasCalled (w : WholeCall) (said : Answer) : Type 0 where
  pub was : IsLink w.link
  pub may : MayStep (lists_of w.link.known.0) w.who.number (Some w.wished)
  pub manager : IsManagerOf w.link.shared w.after × (w.after.users ≡ w.link.manager.users)
  pub idle : CarriesIdle w.link.shared w.after w.who
  pub others : (theirs : CallerId) (p : Phase) → theirs.number ≢ w.who.number → Keeps w.link.shared w.link.manager w.after theirs p
  pub told : (behind : ℕ) × (w.counted ≡ w.steps + behind + 1) × CallsState end_coded side_meaning w.link.known.0 w.who w.wished behind said w.after

-- the hands of the caller's end, and what is known of the lane from which it takes and of the other
abbrev pub own_hands : WholeCall → Vec Hand Global
own_hands w = of_end w.who.end w.link.host w.link.remote

abbrev pub incoming : WholeCall → LaneView
incoming w = of_end w.who.end w.link.to_host w.link.to_remote

abbrev pub outgoing : WholeCall → LaneView
outgoing w = of_end (other w.who.end) w.link.to_host w.link.to_remote

-- the end of a caller before its call, by what the manager answers behind it
pub user_at : (before after : Manager) (n : ℕ) (answered : Option End) (found e : End) → after.users ≡ before.users → answered ≡ end_of after.users n → answered ≡ Some found → found ≡ e → end_of before.users n ≡ Some e
user_at before after n answered found e same is here at = ap (λ (users : List (Option End)). end_of users n) (sym same) ∙ (sym is ∙ (here ∙ ap (λ (end : End). Some end) at))

-- a caller that may begin a call is in none: the manager carries it so, and no buffer is out with it
module _ (s : Inside) (n : ℕ) (wished : Wish) (is : IsLink s) (may : MayStep (lists_of s.known.0) n (Some wished)) where
  module _ (e : End) (user : end_of s.known.0.callers n ≡ Some e) where
    pub resting : call_of s.calls.items n ≡ None
    resting = rests_in s.shared s.manager s.calls.items s.host s.remote s.known.0 n is.0 (may_begin s.known.0 n e wished user may).0

    pub rests_out : out_with s.calls.items n ≡ []
    rests_out = ap (λ (call : Option CarriedCall). buffer_in (phase_of (option_map (λ (c : CarriedCall). c.call) call))) resting

    pub idle_at : (follows : ℕ) → CarriesIdle s.shared s.manager (caller_id n e follows)
    idle_at follows = subst (λ (call : Option CarriedCall). IsCarriedIn s.shared s.manager s.known.0 n e call) resting (is.0.callers n e user) follows

  pub may_call : (follows : ℕ) → (end : End) × CarriesIdle s.shared s.manager (caller_id n end follows)
  may_call follows = at (end_of s.known.0.callers n) refl may.may
    where
      at : (found : Option End) → end_of s.known.0.callers n ≡ found → MayEndStep (lists_of s.known.0) found n (Some wished) → (end : End) × CarriesIdle s.shared s.manager (caller_id n end follows)
      at None user there = absurd there
      at (Some end) user there = (end, idle_at end user follows)

module _ {w : WholeCall} {said : Answer} (h : HasCalled w said) where
  abbrev State : CallsState end_coded side_meaning w.link.known.0 w.who w.wished h.told.0 said w.after
  State = h.told.2

  abbrev pub Left : LinkRings
  Left = State.left

  called_user : end_of w.link.known.0.callers w.who.number ≡ Some w.who.end
  called_user = ap (λ (callers : List (Option End)). end_of callers w.who.number) (sym h.was.0.state.users ∙ sym h.manager.1) ∙ h.idle.user

  called_grow : BooksGrow w.who w.link.known.0 Left
  called_grow = books_grow w.who (phase.LeavesReceiver said) w.link.known.0 Left State.settles

  pub called_turns : KeepsHolders w.who.end w.link.known.0 Left
  called_turns = let low = h.idle.low in whole_leaves h.told.0 w.link.known.0 Left w.who.end w.who.number w.who.follows w.wished (call_end said) called_user (λ is. omega (arith, low, is)) h.was.0.sound h.may State.ends

  pub called_step : StepsCall w.who w.link.known.0 Left w.link.calls.items w.link.calls.items
  called_step = record { user = called_user; sound = h.was.0.sound; grow = called_grow; beside = λ n apart. refl }

  pub none_out : out_with w.link.calls.items w.who.number ≡ []
  none_out = rests_out w.link w.who.number w.wished h.was h.may w.who.end called_user

  pub own_before : AreHandsOf w.link.known.0 w.who.end w.link.calls.items (own_hands w)
  own_before = hands_at w.link.shared w.link.manager w.link.calls.items w.link.host w.link.remote w.link.known.0 h.was.0 w.who.end

  stepped : IsStepped w.link.shared w.link.manager w.after w.link.calls.items w.link.calls.items w.who w.link.known.0 Left
  stepped = record {
    user = called_user;
    users = sym State.state.users ∙ (h.manager.1 ∙ h.was.0.state.users);
    manages = h.manager.0;
    state = State.state;
    sound = called_turns.sound;
    grow = called_grow;
    others = h.others;
    same = refl;
    beside = λ n apart. refl;
    mine = subst (λ (call : Option CarriedCall). IsCarriedIn w.link.shared w.after Left w.who.number w.who.end call) (sym (resting w.link w.who.number w.wished h.was h.may w.who.end called_user))
        (λ follows. idle_still w.link.shared w.after w.who.number w.who.end w.who.follows follows h.idle);
  }

  -- the link behind the call, with the hands of the caller's end as they are there and what is known of its lanes, whatever state the manager's copy is of
  pub is_link : (host remote : Vec Hand Global) (to_host to_remote : LaneView) → AreHandsOf Left w.who.end w.link.calls.items (of_end w.who.end host remote)
      → of_end (other w.who.end) host remote ≡ of_end (other w.who.end) w.link.host w.link.remote → of_end w.who.end to_host to_remote ≡ incoming_view (call_end said) (incoming w) → of_end (other w.who.end) to_host to_remote ≡ outgoing_view (call_end said) (outgoing w)
      → (x : LinkRings) → IsKnown w.after x → IsManaged w.link.shared w.after w.link.calls.items host remote x × ShowsViews w.link.era to_host to_remote x
  is_link host remote to_host to_remote mine same into out = let e = w.who.end in let m = w.link.known.0 in let calls = w.link.calls.items in let turns = called_turns in let views = h.was.1 in let view = view_at w.link.era w.link.to_host w.link.to_remote m views in
      at_known (λ (x : LinkRings). IsManaged w.link.shared w.after calls host remote x × ShowsViews w.link.era to_host to_remote x) w.after Left State.state (
        managed_after w.link.shared w.link.manager w.after calls calls w.link.host w.link.remote w.who m Left h.was.0 stepped host remote mine
            (subst (AreHandsOf Left (other e) calls) (sym same) (hands_beside w.who m Left calls calls called_step (of_end (other e) w.link.host w.link.remote) (hands_at w.link.shared w.link.manager calls w.link.host w.link.remote m h.was.0 (other e)))),
        views_after w.link.era to_host to_remote e Left (views.era_is ∙ sym turns.era)
            (into ∙ (ap (incoming_view (call_end said)) (view e) ∙ sym (incoming_known w.who (phase.LeavesReceiver said) m Left State.settles turns.incoming_sender turns.incoming_receiver)))
            (out ∙ (ap (outgoing_view (call_end said)) (view (other e)) ∙ sym (outgoing_known w.who (phase.LeavesReceiver said) m Left State.settles turns.outgoing_sender turns.outgoing_receiver)))
            (same_receiver (incoming w) (of_end e to_host to_remote) (ap (λ (v : LaneView). v.receiver) into ∙ incoming_settled (call_end said) (incoming w)) (turn_at w.link.era w.link.to_host w.link.to_remote m views e))
            (same_receiver (outgoing w) (of_end (other e) to_host to_remote) (ap (λ (v : LaneView). v.receiver) out ∙ outgoing_settled (call_end said) (outgoing w)) (turn_at w.link.era w.link.to_host w.link.to_remote m views (other e))),
      )

  pub called_ends : (old new : LinkRings) (end : CallEnd) → w.link.known.0 ≡ old → IsKnown w.after new → end ≡ call_end said
      → (behind : ℕ) × (w.counted ≡ w.steps + behind + 1) × FormEndsIn behind on_rings side_meaning old w.who.number w.who.follows (Some w.wished) new end
  called_ends old new end was known said_is = (
    h.told.0,
    h.told.1,
    subst (λ (x : LinkRings). FormEndsIn h.told.0 on_rings side_meaning x w.who.number w.who.follows (Some w.wished) new end) was
        (subst (λ (x : LinkRings). FormEndsIn h.told.0 on_rings side_meaning w.link.known.0 w.who.number w.who.follows (Some w.wished) x end) (sym (state_one w.after Left new State.state known))
        (subst (λ (x : CallEnd). FormEndsIn h.told.0 on_rings side_meaning w.link.known.0 w.who.number w.who.follows (Some w.wished) Left x) (sym said_is) State.ends)),
  )

-- an answer that hands no buffer over and takes none back
abbrev IsHandless : Answer → Type 0
IsHandless (answer.Took held verdict) = ⊥
IsHandless (answer.Gave number) = ⊥
IsHandless (answer.GiveBusy found held) = ⊥
IsHandless other = Unit {0}

handless_view : (said : Answer) (view : LaneView) → IsHandless said → view ≡ incoming_view (call_end said) view
handless_view (answer.Took held verdict) view none = absurd none
handless_view (answer.Gave number) view none = absurd none
handless_view said view none = refl

handless_hands : {w : WholeCall} (said : Answer) (own : Vec Hand Global) → IsHandless said → (h : HasCalled w said) → own.items ≡ (own_hands w).items → vec_capacity own ≡ vec_capacity (own_hands w) → AreHandsOf (Left h) w.who.end w.link.calls.items own
handless_hands (answer.Took held verdict) own none h items room = absurd none
handless_hands (answer.Gave number) own none h items room = absurd none
handless_hands (answer.GiveBusy found held) own none h items room = absurd none
handless_hands {w} said own none h items room =
    ended_hands w.who w.link.known.0 (Left h) w.link.calls.items w.link.calls.items (called_step h) (own_hands w) own (own_before h) said tt (none_out h) items h.told.2.settles.incoming room

-- behind a send
send_handless : (r : Result ℕ SendFault) → IsHandless (send_answer r)
send_handless (Ok number) = tt
send_handless (Err (send_fault.Busy found)) = tt
send_handless (Err (send_fault.Dead era)) = tt
send_handless (Err (send_fault.NoBuffer accepted returned)) = tt
send_handless (Err (send_fault.BookFull accepted)) = tt

pub is_sent : {w : WholeCall} (r : Result ℕ SendFault) (to_host to_remote : LaneView) → HasCalled w (send_answer r) → of_end w.who.end to_host to_remote ≡ incoming w
    → of_end (other w.who.end) to_host to_remote ≡ outgoing_view (call_end (send_answer r)) (outgoing w) → (x : LinkRings) → IsKnown w.after x
    → IsManaged w.link.shared w.after w.link.calls.items w.link.host w.link.remote x × ShowsViews w.link.era to_host to_remote x
is_sent {w} r to_host to_remote h into out = is_link h w.link.host w.link.remote to_host to_remote (handless_hands (send_answer r) (own_hands w) (send_handless r) h refl refl) refl
    (into ∙ handless_view (send_answer r) (incoming w) (send_handless r)) out

-- behind a take: the buffer that it was handed is in its place
module _ {w : WholeCall} (taken : Taken) (h : HasCalled w (take_answer (Ok taken))) where
  abbrev New : Hand
  New = record { caller = w.who.number; number = taken.held.number; held = Some taken.held }

  took_own : IsOwnBuffer (caller_id w.who.number w.who.end 0) (Left h) taken.held
  took_own = let own = (has_begun w.who phase.Ended (phase.LeavesReceiver (take_answer (Ok taken))) w.link.known.0 (Left h) h.told.2.settles (called_turns h).sound refl (λ asked is. cc)).0 in record { lane = own.lane; caller = own.caller; message = own.message }

  took_hands : (own : Vec Hand Global) → own.items ≡ (own_hands w).items ++ New ∷ [] → vec_capacity own ≡ vec_capacity (own_hands w) → AreHandsOf (Left h) w.who.end w.link.calls.items own
  took_hands own items room = let of = own_before h in
      hands_here w.who w.link.known.0 (Left h) w.link.calls.items w.link.calls.items (called_step h) (own_hands w) own of
      (ap (map holding_of) items ∙ (map-append holding_of (own_hands w).items (New ∷ []) ∙ (ap (λ (held : List Holding). held ++ holding_of New ∷ []) of.listed
      ∙ sym (held_known w.who (phase.LeavesReceiver (take_answer (Ok taken))) w.link.known.0 (Left h) h.told.2.settles)))) room
      (λ place hand here. ⊎_elim (λ (there : get_elem? (own_hands w).items place ≡ some hand). hand_kept w.who w.link.known.0 (Left h) w.link.calls.items w.link.calls.items (called_step h) (own_hands w) place hand of there
      (λ mine has. not_in_none hand.number (subst (λ (out : List ℕ). HasNumber out hand.number) (none_out h) has)))
      (λ (is : New ≡ hand). subst (λ (one : Hand). IsHandOf (Left h) w.who.end w.link.calls.items one one.held) is (took_own, refl))
      (last_or_before (own_hands w).items New place hand (subst (λ (l : List Hand). get_elem? l place ≡ some hand) items here)))

take_handless : (fault : TakeFault) → IsHandless (take_answer (Err fault))
take_handless (take_fault.Busy found) = tt
take_handless (take_fault.Dead era) = tt
take_handless (take_fault.Empty accepted) = tt

-- these hands stand behind those for a take with this answer
abbrev pub AreTakenTo : ℕ → Result Taken TakeFault → Vec Hand Global → Vec Hand Global → Type 0
AreTakenTo n r before after = MatchResult r (λ ok. after.items ≡ before.items ++ record { caller = n; number = ok.held.number; held = Some ok.held } ∷ []) (λ _. after.items ≡ before.items)

taken_hands : {w : WholeCall} (r : Result Taken TakeFault) (own : Vec Hand Global) → (h : HasCalled w (take_answer r)) → AreTakenTo w.who.number r (own_hands w) own → vec_capacity own ≡ vec_capacity (own_hands w) → AreHandsOf (Left h) w.who.end w.link.calls.items own
taken_hands (Ok taken) own h items room = took_hands taken h own items room
taken_hands (Err fault) own h items room = handless_hands (take_answer (Err fault)) own (take_handless fault) h items room

took_outgoing : (r : Result Taken TakeFault) (view : LaneView) → view ≡ outgoing_view (call_end (take_answer r)) view
took_outgoing (Ok taken) view = refl
took_outgoing (Err (take_fault.Busy found)) view = refl
took_outgoing (Err (take_fault.Dead era)) view = refl
took_outgoing (Err (take_fault.Empty accepted)) view = refl

pub has_room : {w : WholeCall} (r : Result Taken TakeFault) → HasCalled w (take_answer r) → HasRoomFor (call_end (take_answer r)) (own_hands w)
has_room {w} r h = settled_room w.who w.link.known.0 (Left h) w.link.calls.items (own_hands w) (take_answer r) h.told.2.settles (called_turns h).sound (own_before h)

pub is_taken : {w : WholeCall} (r : Result Taken TakeFault) (host remote : Vec Hand Global) (to_host to_remote : LaneView) → HasCalled w (take_answer r) → AreTakenTo w.who.number r (own_hands w) (of_end w.who.end host remote)
    → vec_capacity (of_end w.who.end host remote) ≡ vec_capacity (own_hands w) → of_end (other w.who.end) host remote ≡ of_end (other w.who.end) w.link.host w.link.remote → of_end w.who.end to_host to_remote ≡ incoming_view (call_end (take_answer r)) (incoming w)
    → of_end (other w.who.end) to_host to_remote ≡ outgoing w → (x : LinkRings) → IsKnown w.after x → IsManaged w.link.shared w.after w.link.calls.items host remote x × ShowsViews w.link.era to_host to_remote x
is_taken {w} r host remote to_host to_remote h items room beside into out =
    is_link h host remote to_host to_remote (taken_hands r (of_end w.who.end host remote) h items room) beside into (out ∙ took_outgoing r (outgoing w))

-- and its caller holds that buffer, and is in no call
taken_own : {w : WholeCall} (r : Result Taken TakeFault) (h : HasCalled w (take_answer r)) → IsOwnAnswer w.who (Left h) (take_answer r)
taken_own {w} (Ok taken) h = has_begun w.who phase.Ended (phase.LeavesReceiver (take_answer (Ok taken))) w.link.known.0 (Left h) h.told.2.settles (called_turns h).sound refl (λ asked is. cc)
taken_own (Err (take_fault.Busy found)) h = tt
taken_own (Err (take_fault.Dead era)) h = tt
taken_own (Err (take_fault.Empty accepted)) h = tt

pub has_taken : {w : WholeCall} (behind : ℕ) (old left : LinkRings) (ended : CallEnd) (r : Result Taken TakeFault) → HasCalled w (take_answer r) → ended ≡ call_end (take_answer r) → FormEndsIn behind on_rings side_meaning old w.who.number w.who.follows (Some w.wished) left ended
    → IsKnown w.after left → HoldsTaken (lists_of left) w.who.number ended
has_taken {w} behind old left ended r h is ends known = at_known (λ (x : LinkRings). HoldsTaken (lists_of x) w.who.number ended) w.after (Left h) h.told.2.state (subst (HoldsTaken (lists_of (Left h)) w.who.number) (sym is)
    (holds_answer w.link.shared w.after w.who (Left h) h.manager.0 h.told.2.state h.idle (Left h) (take_answer r) (taken_own r h) refl)) left known
