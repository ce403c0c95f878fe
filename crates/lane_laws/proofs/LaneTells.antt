-- What each move tells at the end of a lane, and what it leaves of what is yet to be told there.
use Rattle.std.proofs.Common.{◌≡◌, ◌<◌, ℕ, zero, suc, ◌+◌, ◌==◌, length, Bool, true, false, cond, Option, Some, None, Result, Ok, Err, List, [], ◌∷◌, ◌++◌, slice_get, refl, sym, ap, subst, ◌∙◌, arith}
use Rattle.std.proofs.lemmas.Bool.{cond_both, and_parts}
use Rattle.std.proofs.lemmas.List.{append-nil}
use Rattle.rp_base.specs.declared.kinds.Era.{Era}
use Rattle.rp_base.specs.declared.kinds.End.{End}
use Rattle.rp_base.specs.declared.kinds.End.TheVariants as side
use Rattle.rp_base.specs.declared.kinds.Endpoint.{Endpoint}
use Rattle.rp_base.specs.declared.kinds.BindFault.{BindFault}
use Rattle.lane_model.specs.declared.states.BookEntry.{BookEntry}
use Rattle.lane_model.specs.declared.states.LaneState.{LaneState}
use Rattle.lane_model.specs.declared.stages.Sending.{Sending}
use Rattle.lane_model.specs.declared.stages.SendStage.{SendStage}
use Rattle.lane_model.specs.declared.stages.SendStage.TheVariants as stage
use Rattle.lane_model.specs.declared.stages.Receiving.{Receiving}
use Rattle.lane_model.specs.declared.stages.Work.{Work}
use Rattle.lane_model.specs.declared.stages.Work.TheVariants as work
use Rattle.lane_model.specs.declared.stages.TakeStage.TheVariants as take_stage
use Rattle.lane_model.specs.declared.stages.GiveStage.TheVariants as give_stage
use Rattle.lane_model.specs.declared.stages.Turn.{Turn}
use Rattle.lane_model.specs.declared.stages.Turn.TheVariants as turn
use Rattle.lane_model.specs.declared.calls.CallEnd.{CallEnd}
use Rattle.lane_model.specs.declared.calls.CallEnd.TheVariants as end
use Rattle.lane_model.specs.declared.calls.Outcome.TheVariants as outcome
use Rattle.lane_model.specs.declared.calls.Wish.{Wish}
use Rattle.lane_model.specs.declared.calls.Wish.TheVariants as wish
use Rattle.lane_model.specs.Desks.{DeskMeaning}
use Rattle.lane_model.specs.Lanes.{Stepped, still, turn_step, has_call, is_live_in, holder, message_at, taken_by as taken_turn}
use Rattle.lane_model.specs.Sends.{send_step, sender_step, after_send_era, after_send_look}
use Rattle.lane_model.specs.Receives.{receive_step, receiver_step, after_handing, desk_step, desk_end}
use Rattle.lane_model.specs.Crashes.{ended_turn, after_receive_end}
use Rattle.lane_model.specs.Forms.{list_form}
use Rattle.lane_model.specs.Links.{LinkState, Lanes, lanes_of, end_of, lanes_step, send_later, receive_later, receive_first, on_lanes, begun_outcome}
use Rattle.lane_model.specs.Conditions.{IsFitWork, IsFitReceiver}
use Rattle.lane_model.specs.Recoveries.{link_after_close, without_caller}
use Rattle.lane_model.specs.Soundness.{IsSoundLane, SoundLink}
use Rattle.lane_laws.specs.Handings.{Handing, handing_of, told_handing}
use Rattle.lane_laws.specs.Moves.{Move, Enlist, Step, Close, Reclaim, Part, Take, Leave, link_after_move, MayMove}
use Rattle.lane_laws.specs.Ways.{IsWholeMove}
use Rattle.lane_laws.specs.Takes.{outcome_handing, move_takes, step_takes}

-- nothing is yet to be told by who has this turn, whatever the book
abbrev pub IsPlain : Turn Receiving → Type 0
IsPlain now = (book : List BookEntry) → told_handing book now ≡ []

-- what is yet to be told stays, whatever more is accepted
abbrev pub IsSteady : List BookEntry → Turn Receiving → Type 0
IsSteady book now = (more : List BookEntry) → told_handing (book ++ more) now ≡ told_handing book now

-- no send ends with a handing
abbrev pub IsSilent : Turn Sending → Type 0
IsSilent turn.Free = Unit {0}
IsSilent (turn.Taken caller call) = Unit {0}
IsSilent (turn.Leaving caller ended) = (book : List BookEntry) → outcome_handing book (outcome.Ended ended) ≡ []
IsSilent turn.Manager = Unit {0}

-- what a move leaves of a lane of a link that is live or not, and what it tells at its end
pub data LaneTell {D : Type 0} (live : Bool) (before after : LaneState D) (told : List Handing) : Type 0 where
  Same : (more : List BookEntry) → after.receiver ≡ before.receiver → after.lane.accepted ≡ before.lane.accepted ++ more → after.lane.takers ≡ before.lane.takers → told ≡ [] → LaneTell live before after told
  Plain : IsPlain before.receiver → IsPlain after.receiver → after.lane.takers ≡ before.lane.takers → told ≡ [] → LaneTell live before after told
  Hands : (caller : ℕ) → live ≡ true → IsPlain before.receiver → IsSteady after.lane.accepted after.receiver → after.lane.takers ≡ before.lane.takers ++ caller ∷ [] → told ≡ [] → LaneTell live before after told
  Tells : IsPlain after.receiver → after.lane.takers ≡ before.lane.takers → told ≡ told_handing before.lane.accepted before.receiver → LaneTell live before after told
  Ends : live ≡ false → IsPlain after.receiver → after.lane.takers ≡ before.lane.takers → told ≡ [] → LaneTell live before after told

-- and its sender's turn stays silent
pub record LaneTells {D : Type 0} (live : Bool) (before after : LaneState D) (told : List Handing) : Type 0 where
  pub tell : LaneTell live before after told
  pub silent : IsSilent before.sender → IsSilent after.sender

unmoved : {D : Type 0} (live : Bool) (state : LaneState D) → LaneTells live state state []
unmoved live state = record { tell = Same [] refl (sym (append-nil state.lane.accepted)) refl refl; silent = λ is. is }

-- ---- sends

taken_silent : (now : Turn Sending) (caller : ℕ) (call : Sending) → IsSilent now → IsSilent (taken_turn now caller call)
taken_silent turn.Free caller call is = tt
taken_silent (turn.Taken other one) caller call is = is
taken_silent (turn.Leaving other ended) caller call is = is
taken_silent turn.Manager caller call is = is

-- a sender's turn alone has changed
turned : {D : Type 0} (live : Bool) (state : LaneState D) (next : Turn Sending) → (IsSilent state.sender → IsSilent next) → LaneTells live state (record state { sender = next }) []
turned live state next silent = record { tell = Same [] refl (sym (append-nil state.lane.accepted)) refl refl; silent = silent }

send_tells : {D : Type 0} (live : Bool) (era : Era) (state : LaneState D) (caller : ℕ) (s : Sending) (now : SendStage) → LaneTells live state (send_step era state caller s now).state []
send_tells live era state caller s stage.Turn =
    turned live state (after_send_era era caller s) (λ _. cond_both (is_live_in era s.follows) _ _ IsSilent (λ _. tt) (λ _ book. refl))
send_tells live era state caller s stage.Era =
    turned live state (after_send_look state.lane caller s) (λ _. cond_both (length state.lane.accepted == state.lane.returned + state.lane.capacity) _ _ IsSilent (λ _ book. refl)
    (λ _. cond_both (length state.lane.accepted == state.lane.book) _ _ IsSilent (λ _ book. refl) (λ _. tt)))
send_tells live era state caller s stage.Look = turned live state _ (λ _. tt)
send_tells live era state caller s stage.Buffer = turned live state _ (λ _. tt)
send_tells live era state caller s stage.Entry = record { tell = Same (record { caller = caller; message = s.message } ∷ []) refl refl refl refl; silent = λ _ book. refl }

send_at : (era : Era) {D : Type 0} (state : LaneState D) (caller : ℕ) (s : Sending) (now : SendStage) (book : List BookEntry) → outcome_handing book (send_step era state caller s now).outcome ≡ []
send_at era state caller s stage.Turn book = refl
send_at era state caller s stage.Era book = refl
send_at era state caller s stage.Look book = refl
send_at era state caller s stage.Buffer book = refl
send_at era state caller s stage.Entry book = refl

-- what the next step of a send leaves, and that it tells nothing
record SendTells {D : Type 0} (live : Bool) (before : LaneState D) (done : Stepped (LaneState D)) : Type 0 where
  pub lane : LaneTells live before done.state []
  pub none : (book : List BookEntry) → outcome_handing book done.outcome ≡ []

turn_cases : {S C : Type 0} (P : Stepped S → Type 0) (state freed : S) (goes : ℕ → C → Stepped S) (now : Turn C) → P (still state)
    → ((caller : ℕ) (ended : CallEnd) → now ≡ turn.Leaving caller ended → P (record { state = freed; outcome = outcome.Ended ended })) → ((caller : ℕ) (call : C) → now ≡ turn.Taken caller call → P (goes caller call))
    → P (turn_step state freed goes now)
turn_cases P state freed goes turn.Free stays left on = stays
turn_cases P state freed goes (turn.Taken caller call) stays left on = on caller call refl
turn_cases P state freed goes (turn.Leaving caller ended) stays left on = left caller ended refl
turn_cases P state freed goes turn.Manager stays left on = stays

sender_tells : {D : Type 0} (live : Bool) (era : Era) (state : LaneState D) → IsSilent state.sender → SendTells live state (sender_step era state)
sender_tells {D} live era state silent =
    turn_cases (SendTells live state) state (record state { sender = turn.Free }) (λ caller s. send_step era state caller s s.stage) state.sender
    (record { lane = unmoved live state; none = λ book. refl })
    (λ caller ended is. record { lane = turned live state turn.Free (λ _. tt); none = subst IsSilent is silent })
    (λ caller s is. record { lane = send_tells live era state caller s s.stage; none = send_at era state caller s s.stage })

-- ---- calls that need the receiver's turn

-- what a step leaves of a lane, and what it tells there
abbrev LaneStep : {D : Type 0} → Bool → LaneState D → Stepped (LaneState D) → Type 0
LaneStep live before done = LaneTells live before done.state (outcome_handing done.state.lane.accepted done.outcome)

-- a receiver's turn has changed, from a call under way to one whose end tells nothing
passes : {D : Type 0} (live : Bool) (before after : LaneState D) (told : List Handing) → IsPlain before.receiver → IsPlain after.receiver → after.lane.takers ≡ before.lane.takers → after.sender ≡ before.sender → told ≡ [] → LaneTells live before after told
passes live before after told was is takers sender none = record { tell = Plain was is takers none; silent = λ silent. subst IsSilent (sym sender) silent }

-- an item of a list stays where it is in a longer one
get_longer : {X : Type 0} (xs more : List X) (n : ℕ) → n < length xs → slice_get (xs ++ more) n ≡ slice_get xs n
get_longer [] more n below = absurd (omega (arith, below))
get_longer (x ∷ xs) more zero below = refl
get_longer (x ∷ xs) more (suc n) below = get_longer xs more n (omega (arith, below))

desk_plain : (done : Endpoint → CallEnd) (caller : ℕ) (answer : Result Endpoint BindFault) → ((endpoint : Endpoint) → IsPlain (turn.Leaving caller (done endpoint))) → IsPlain (turn.Leaving caller (desk_end done answer))
desk_plain done caller (Ok endpoint) plain = plain endpoint
desk_plain done caller (Err why) plain = λ book. refl

desk_tells : {D : Type 0} (live : Bool) (era : Era) (state : LaneState D) (caller : ℕ) (r : Receiving) (next : D) (ended : CallEnd) → IsPlain state.receiver → IsPlain (turn.Leaving caller ended)
    → LaneStep live state (desk_step era state caller r next ended)
desk_tells {D} live era state caller r next ended was plain =
    cond_both (is_live_in era r.follows) (record state { receiver = turn.Leaving caller ended; desk = next }) (record state { receiver = turn.Leaving caller (end.Dead era) }) (λ (after : LaneState D). LaneTells live state after [])
    (λ _. passes live state _ [] was plain refl refl refl) (λ _. passes live state _ [] was (λ book. refl) refl refl refl)

live_of : (era : Era) (inc : ℕ) → is_live_in era inc ≡ true → era.is_live ≡ true
live_of era inc is = (and_parts (era.inc == inc) era.is_live is).1

receive_tells : {D : Type 0} (desk : DeskMeaning D) (era : Era) (state : LaneState D) (caller : ℕ) (r : Receiving) (now : Work) → IsFitWork now state.lane caller → IsPlain state.receiver
    → LaneStep era.is_live state (receive_step desk era state caller r now)
receive_tells desk era state caller r (work.Take take_stage.Turn) fit was =
    passes era.is_live state _ [] was (cond_both (is_live_in era r.follows) _ _ IsPlain (λ _ book. refl) (λ _ book. refl)) refl refl refl
receive_tells desk era state caller r (work.Take take_stage.Era) fit was =
    passes era.is_live state _ [] was (cond_both (length state.lane.takers == length state.lane.accepted) _ _ IsPlain (λ _ book. refl) (λ _ book. refl)) refl refl refl
receive_tells desk era state caller r (work.Take take_stage.Look) fit was = passes era.is_live state _ [] was (λ book. refl) refl refl refl
receive_tells {D} desk era state caller r (work.Take take_stage.Buffer) fit was =
    cond_both (is_live_in era r.follows) (after_handing desk state caller) (record state { receiver = turn.Leaving caller (end.Dead era) }) (λ (after : LaneState D). LaneTells era.is_live state after [])
    (λ goes. record {
      tell = Hands caller (live_of era r.follows goes) was
          (λ more. ap (λ (found : Option BookEntry). handing_of found (length state.lane.takers) (desk.verdict state.desk (length state.lane.takers) (message_at state.lane.accepted (length state.lane.takers)))) (get_longer state.lane.accepted more (length state.lane.takers) (fit refl))) refl refl;
      silent = λ silent. silent;
    })
    (λ _. passes era.is_live state _ [] was (λ book. refl) refl refl refl)
receive_tells desk era state caller r (work.Give number give_stage.Turn) fit was = passes era.is_live state _ [] was (λ book. refl) refl refl refl
receive_tells desk era state caller r (work.Give number give_stage.Entry) fit was = passes era.is_live state _ [] was (λ book. refl) refl refl refl
receive_tells desk era state caller r (work.Bind address) fit was =
    desk_tells era.is_live era state caller r _ _ was (desk_plain end.Bound caller (desk.bind_answer state.desk address (length state.lane.takers)) (λ endpoint book. refl))
receive_tells desk era state caller r (work.Unbind address) fit was =
    desk_tells era.is_live era state caller r _ _ was (desk_plain end.Unbound caller (desk.unbind_answer state.desk address) (λ endpoint book. refl))

-- who leaves a turn tells what it was to tell
pub left_tells : (book : List BookEntry) (caller : ℕ) (ended : CallEnd) → outcome_handing book (outcome.Ended ended) ≡ told_handing book (turn.Leaving caller ended)
left_tells book caller (end.Sent number) = refl
left_tells book caller (end.Took number judged) = refl
left_tells book caller (end.Gave number) = refl
left_tells book caller (end.Bound endpoint) = refl
left_tells book caller (end.Unbound endpoint) = refl
left_tells book caller (end.Busy other) = refl
left_tells book caller (end.Dead era) = refl
left_tells book caller (end.NoBuffer accepted returned) = refl
left_tells book caller (end.BookFull accepted) = refl
left_tells book caller (end.Empty accepted) = refl
left_tells book caller (end.Refused why) = refl

taken_plain : (now : Turn Receiving) (caller : ℕ) (r : Receiving) → now ≡ turn.Taken caller r → IsPlain now
taken_plain now caller r is = λ book. ap (told_handing book) is

receiver_tells : {D : Type 0} (desk : DeskMeaning D) (era : Era) (state : LaneState D) → IsSoundLane state → LaneStep era.is_live state (receiver_step desk era state)
receiver_tells {D} desk era state sound =
    turn_cases (LaneStep era.is_live state) state (record state { receiver = turn.Free }) (λ caller r. receive_step desk era state caller r r.work) state.receiver
    (unmoved era.is_live state)
    (λ caller ended is. record { tell = Tells (λ book. refl) refl (left_tells state.lane.accepted caller ended ∙ sym (ap (told_handing state.lane.accepted) is)); silent = λ silent. silent })
    (λ caller r is. receive_tells desk era state caller r r.work (subst (λ (now : Turn Receiving). IsFitReceiver now state.lane) is sound.fit) (taken_plain state.receiver caller r is))

begun_silent : (found : Option ℕ) (book : List BookEntry) → outcome_handing book (begun_outcome found) ≡ []
begun_silent None book = refl
begun_silent (Some holder) book = refl

first_tells : {D : Type 0} (live : Bool) (state : LaneState D) (now : Turn Receiving) (caller : ℕ) (call : Receiving) (told : List Handing) → state.receiver ≡ now → told ≡ [] → LaneTells live state (record state { receiver = taken_turn now caller call }) told
first_tells live state turn.Free caller call told is none = passes live state _ told (λ book. ap (told_handing book) is) (λ book. refl) refl refl none
first_tells live state (turn.Taken other one) caller call told is none = record { tell = Same [] (sym is) (sym (append-nil state.lane.accepted)) refl none; silent = λ silent. silent }
first_tells live state (turn.Leaving other ended) caller call told is none = record { tell = Same [] (sym is) (sym (append-nil state.lane.accepted)) refl none; silent = λ silent. silent }
first_tells live state turn.Manager caller call told is none = record { tell = Same [] (sym is) (sym (append-nil state.lane.accepted)) refl none; silent = λ silent. silent }

-- ---- both lanes of a caller

record LanesTell {D : Type 0} (live : Bool) (before : Lanes (LaneState D)) (done : Stepped (Lanes (LaneState D))) : Type 0 where
  pub outgoing : LaneTells live before.outgoing done.state.outgoing []
  pub incoming : LaneTells live before.incoming done.state.incoming (outcome_handing done.state.incoming.lane.accepted done.outcome)

receives_first : {D : Type 0} (desk : DeskMeaning D) (live : Bool) (lanes : Lanes (LaneState D)) (caller follows : ℕ) (first : Work) → LanesTell live lanes (receive_first (list_form desk) lanes caller follows first)
receives_first desk live lanes caller follows first = record {
  outgoing = unmoved live lanes.outgoing;
  incoming = first_tells live lanes.incoming lanes.incoming.receiver caller (record { follows = follows; work = first }) _ refl (begun_silent (holder lanes.incoming.receiver) lanes.incoming.lane.accepted);
}

lanes_tell : {D : Type 0} (desk : DeskMeaning D) (era : Era) (lanes : Lanes (LaneState D)) (caller follows : ℕ) (wished : Option Wish) → IsSoundLane lanes.incoming → IsSilent lanes.outgoing.sender
    → LanesTell era.is_live lanes (lanes_step (list_form desk) desk era lanes caller follows wished)
lanes_tell desk era lanes caller follows (Some (wish.Send message)) sound silent = record {
  outgoing = turned era.is_live lanes.outgoing _ (taken_silent lanes.outgoing.sender caller (record { follows = follows; message = message; stage = stage.Turn }));
  incoming = record { tell = Same [] refl (sym (append-nil lanes.incoming.lane.accepted)) refl (begun_silent (holder lanes.outgoing.sender) lanes.incoming.lane.accepted); silent = λ is. is };
}
lanes_tell desk era lanes caller follows (Some wish.Take) sound silent = receives_first desk era.is_live lanes caller follows (work.Take take_stage.Turn)
lanes_tell desk era lanes caller follows (Some (wish.Give number)) sound silent = receives_first desk era.is_live lanes caller follows (work.Give number give_stage.Turn)
lanes_tell desk era lanes caller follows (Some (wish.Bind address)) sound silent = receives_first desk era.is_live lanes caller follows (work.Bind address)
lanes_tell desk era lanes caller follows (Some (wish.Unbind address)) sound silent = receives_first desk era.is_live lanes caller follows (work.Unbind address)
lanes_tell {D} desk era lanes caller follows None sound silent =
    cond_both (has_call lanes.outgoing.sender caller) (send_later (list_form desk) era lanes) (receive_later (list_form desk) desk era lanes) (LanesTell era.is_live lanes)
    (λ _. let one = sender_tells era.is_live era lanes.outgoing silent in record {
      outgoing = one.lane;
      incoming = record { tell = Same [] refl (sym (append-nil lanes.incoming.lane.accepted)) refl (one.none lanes.incoming.lane.accepted); silent = λ is. is };
    })
    (λ _. record { outgoing = unmoved era.is_live lanes.outgoing; incoming = receiver_tells desk era lanes.incoming sound })

-- ---- both lanes of a link

-- what a move leaves of both lanes of a link, and what it tells at each end
pub record LinkTells {D : Type 0} (before after : LinkState D) (told : End → List Handing) : Type 0 where
  pub to_host : LaneTells before.era.is_live before.to_host after.to_host (told side.Host)
  pub to_remote : LaneTells before.era.is_live before.to_remote after.to_remote (told side.Remote)

pub record AreSilent {D : Type 0} (link : LinkState D) : Type 0 where
  pub to_host : IsSilent link.to_host.sender
  pub to_remote : IsSilent link.to_remote.sender

step_tells : {D : Type 0} (desk : DeskMeaning D) (link : LinkState D) (found : Option End) (caller follows : ℕ) (wished : Option Wish) → SoundLink link → AreSilent link
    → let step = on_lanes link found (λ lanes. lanes_step (list_form desk) desk link.era lanes caller follows wished) in
    LinkTells link step.state (λ end. step_takes found end step)
step_tells desk link (Some side.Host) caller follows wished sound silent =
    let one = lanes_tell desk link.era (lanes_of link side.Host) caller follows wished sound.to_host.lane silent.to_remote in record { to_host = one.incoming; to_remote = one.outgoing }
step_tells desk link (Some side.Remote) caller follows wished sound silent =
    let one = lanes_tell desk link.era (lanes_of link side.Remote) caller follows wished sound.to_remote.lane silent.to_host in record { to_host = one.outgoing; to_remote = one.incoming }
step_tells desk link None caller follows wished sound silent = record { to_host = unmoved link.era.is_live link.to_host; to_remote = unmoved link.era.is_live link.to_remote }

ended_silent : (now : Turn Sending) (caller : ℕ) → IsSilent now → IsSilent (ended_turn now caller)
ended_silent now caller is = cond_both (has_call now caller) turn.Free now IsSilent (λ _. tt) (λ _. is)

sender_ended : {D : Type 0} (live : Bool) (state : LaneState D) (caller : ℕ) → LaneTells live state (record state { sender = ended_turn state.sender caller }) []
sender_ended live state caller = turned live state _ (ended_silent state.sender caller)

-- a turn without a caller is free, or as it was
receiver_ended : {D : Type 0} (state : LaneState D) (caller : ℕ) → LaneTells false state (after_receive_end state caller) []
receiver_ended state caller = record { tell = which (has_call state.receiver caller) refl; silent = λ is. is }
  where
    which : (is : Bool) → has_call state.receiver caller ≡ is → LaneTell false state (after_receive_end state caller) []
    which true is = Ends refl (λ book. ap (λ (b : Bool). told_handing book (cond b turn.Free state.receiver)) is) refl refl
    which false is = Same [] (ap (λ (b : Bool). cond b turn.Free state.receiver) is) (sym (append-nil state.lane.accepted)) refl refl

reclaim_tells : {D : Type 0} (desk : DeskMeaning D) (link : LinkState D) (found : Option End) (caller : ℕ) → link.era.is_live ≡ false → LinkTells link (without_caller (list_form desk) link found caller) (λ end. [])
reclaim_tells desk link (Some side.Host) caller shut = record {
  to_host = subst (λ (live : Bool). LaneTells live link.to_host (after_receive_end link.to_host caller) []) (sym shut) (receiver_ended link.to_host caller);
  to_remote = sender_ended link.era.is_live link.to_remote caller;
}
reclaim_tells desk link (Some side.Remote) caller shut = record {
  to_host = sender_ended link.era.is_live link.to_host caller;
  to_remote = subst (λ (live : Bool). LaneTells live link.to_remote (after_receive_end link.to_remote caller) []) (sym shut) (receiver_ended link.to_remote caller);
}
reclaim_tells desk link None caller shut = record { to_host = unmoved link.era.is_live link.to_host; to_remote = unmoved link.era.is_live link.to_remote }

still_tells : {D : Type 0} (before after : LinkState D) → after.to_host ≡ before.to_host → after.to_remote ≡ before.to_remote → LinkTells before after (λ end. [])
still_tells {D} before after host remote = record {
  to_host = subst (λ (state : LaneState D). LaneTells before.era.is_live before.to_host state []) (sym host) (unmoved before.era.is_live before.to_host);
  to_remote = subst (λ (state : LaneState D). LaneTells before.era.is_live before.to_remote state []) (sym remote) (unmoved before.era.is_live before.to_remote);
}

close_tells : {D : Type 0} (link : LinkState D) (inc : ℕ) → LinkTells link (link_after_close link inc) (λ end. [])
close_tells {D} link inc =
    cond_both (is_live_in link.era inc) (record link { era = record { inc = inc; is_live = false } }) link (λ (after : LinkState D). LinkTells link after (λ end. [])) (λ _. still_tells link _ refl refl) (λ _. still_tells link link refl refl)

-- what each move of a bench leaves of both lanes, and what it tells
pub link_tells : {D : Type 0} (desk : DeskMeaning D) (link : LinkState D) (move : Move) → IsWholeMove move → SoundLink link → AreSilent link → MayMove link move → LinkTells link (link_after_move desk link move) (move_takes desk link move)
link_tells desk link (Enlist new) whole sound silent may = still_tells link _ refl refl
link_tells desk link (Step caller follows wished) whole sound silent may = step_tells desk link (end_of link.callers caller) caller follows wished sound silent
link_tells desk link (Close inc) whole sound silent may = close_tells link inc
link_tells desk link (Reclaim caller) whole sound silent may = reclaim_tells desk link (end_of link.callers caller) caller may
link_tells desk link (Part end caller which) whole sound silent may = absurd whole
link_tells desk link (Take end which) whole sound silent may = absurd whole
link_tells desk link (Leave end which) whole sound silent may = absurd whole
