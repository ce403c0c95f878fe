-- A close, a reclaim and a reopening keep a link sound, and nothing is handed over in a closed era.
use Rattle.std.proofs.Common.{◌≡◌, ◌≢◌, ℕ, ◌==◌, ◌&&◌, eqb, Bool, true, false, cond, Option, Some, None, refl, sym, ap, subst, ◌∙◌, List, [], ◌∷◌, slice_set}
use Rattle.std.specs.Option.{unwrap_or}
use Rattle.std.proofs.lemmas.Bool.{false≢true, eqb-false, cond_both}
use Rattle.rp_base.specs.declared.kinds.Era.{Era}
use Rattle.rp_base.specs.declared.kinds.End.{End}
use Rattle.rp_base.specs.declared.kinds.End.TheVariants as side
use Rattle.lane_model.specs.declared.states.Holding.{Holding}
use Rattle.lane_model.specs.declared.states.LaneState.{LaneState}
use Rattle.lane_model.specs.declared.stages.Receiving.{Receiving}
use Rattle.lane_model.specs.declared.stages.Work.{Work}
use Rattle.lane_model.specs.declared.stages.Work.TheVariants as work
use Rattle.lane_model.specs.declared.stages.TakeStage.TheVariants as take_stage
use Rattle.lane_model.specs.declared.stages.GiveStage.TheVariants as give_stage
use Rattle.lane_model.specs.declared.stages.Turn.{Turn}
use Rattle.lane_model.specs.declared.stages.Turn.TheVariants as turn
use Rattle.lane_model.specs.declared.calls.Wish.{Wish}
use Rattle.lane_model.specs.declared.calls.Wish.TheVariants as wish
use Rattle.lane_model.specs.Desks.{DeskMeaning}
use Rattle.lane_model.specs.Lanes.{has_call, is_live_in}
use Rattle.lane_model.specs.Receives.{receive_step, receiver_step}
use Rattle.lane_model.specs.Crashes.{ended_turn, held_by_others, after_send_end, after_receive_end, opened_lane}
use Rattle.lane_model.specs.Forms.{list_form}
use Rattle.lane_model.specs.Links.{LinkState, Lanes, lanes_of, end_of, lanes_step, send_later, receive_later, on_lanes, caller_step}
use Rattle.lane_model.specs.Recoveries.{link_after_close, link_after_reclaim, without_caller, link_after_reopen}
use Rattle.lane_laws.specs.Moves.{HandsNone}
use Rattle.lane_model.specs.Soundness.{IsUser, AreUsers, IsSoundTurn, IsSoundBetween, SoundLink}
use Rattle.lane_model.proofs.SoundLanes.{turn_step_has}
use Rattle.lane_model.proofs.Steps.{sender_own}
use Rattle.lane_model.proofs.CrashSteps.{others_have, send_ended_sound, receive_ended_sound, opened_lane_sound}
use Rattle.lane_model.proofs.CrashMay.{freed}

-- a lane of a link that has closed
pub closed_between : {D : Type 0} (callers : List (Option End)) (sends receives : End) (live : Bool) (state : LaneState D) → IsSoundBetween callers sends receives live state
    → IsSoundBetween callers sends receives false state
closed_between callers sends receives live state sound =
    record { lane = sound.lane; whole = λ is. absurd (false≢true is); users = sound.users; sender = sound.sender; receiver = sound.receiver }

-- a close keeps a link sound
pub close_sound : {D : Type 0} (link : LinkState D) (inc : ℕ) → SoundLink link → SoundLink (link_after_close link inc)
close_sound {D} link inc sound =
    cond_both (is_live_in link.era inc) (record link { era = record { inc = inc; is_live = false } }) link (λ (left : LinkState D). SoundLink left)
    (λ _. record {
      to_host = closed_between link.callers side.Remote side.Host link.era.is_live link.to_host sound.to_host;
      to_remote = closed_between link.callers side.Host side.Remote link.era.is_live link.to_remote sound.to_remote;
      hosts = sound.hosts;
      remotes = sound.remotes;
    }) (λ _. sound)

pub stays : (callers : List (Option End)) (gone caller : ℕ) (end : End) → (caller == gone) ≡ false → IsUser callers end caller → IsUser (slice_set callers gone None) end caller
stays callers gone caller end differ user = freed callers gone caller (λ same. eqb-false _ _ differ (sym same)) ∙ user

ended_sound : {C : Type 0} (callers : List (Option End)) (end : End) (now : Turn C) (gone : ℕ) → IsSoundTurn callers end now → IsSoundTurn (slice_set callers gone None) end (ended_turn now gone)
ended_sound callers end turn.Free gone sound = tt
ended_sound callers end (turn.Taken caller call) gone sound =
    cond_both (eqb caller gone) turn.Free (turn.Taken caller call) (IsSoundTurn (slice_set callers gone None) end) (λ _. tt) (λ differ. stays callers gone caller end differ sound)
ended_sound {C} callers end (turn.Leaving caller ended) gone sound =
    cond_both (eqb caller gone) turn.Free (turn.Leaving caller ended) (λ (now : Turn C). IsSoundTurn (slice_set callers gone None) end now) (λ _. tt) (λ differ. stays callers gone caller end differ sound)
ended_sound callers end turn.Manager gone sound = tt

ended_users : (callers : List (Option End)) (end : End) (held : List Holding) (gone : ℕ) → AreUsers callers end held → AreUsers (slice_set callers gone None) end (held_by_others held gone)
ended_users callers end [] gone users = tt
ended_users callers end (h ∷ hs) gone users =
    let rest = ended_users callers end hs gone users.1 in
    others_have (AreUsers (slice_set callers gone None) end) h hs gone (λ differ. (stays callers gone h.caller end differ users.0, rest)) (λ _. rest)

-- a caller of one end is no caller of the other
apart : (callers : List (Option End)) (mine : End) (gone caller : ℕ) (theirs : End) → IsUser callers mine gone → IsUser callers theirs caller → mine ≢ theirs → gone ≢ caller
apart callers mine gone caller theirs user other differ = λ same. differ (ap (λ (found : Option End). unwrap_or found mine) (sym user ∙ ap (end_of callers) same ∙ other))

pub turn_apart : {C : Type 0} (callers : List (Option End)) (mine theirs : End) (now : Turn C) (gone : ℕ) → mine ≢ theirs → IsUser callers mine gone → IsSoundTurn callers theirs now → IsSoundTurn (slice_set callers gone None) theirs now
turn_apart callers mine theirs turn.Free gone differ user sound = tt
turn_apart callers mine theirs (turn.Taken caller call) gone differ user sound = freed callers gone caller (apart callers mine gone caller theirs user sound differ) ∙ sound
turn_apart callers mine theirs (turn.Leaving caller ended) gone differ user sound = freed callers gone caller (apart callers mine gone caller theirs user sound differ) ∙ sound
turn_apart callers mine theirs turn.Manager gone differ user sound = tt

pub users_apart : (callers : List (Option End)) (mine theirs : End) (held : List Holding) (gone : ℕ) → mine ≢ theirs → IsUser callers mine gone → AreUsers callers theirs held → AreUsers (slice_set callers gone None) theirs held
users_apart callers mine theirs [] gone differ user users = tt
users_apart callers mine theirs (h ∷ hs) gone differ user users =
    (freed callers gone h.caller (apart callers mine gone h.caller theirs user users.0 differ) ∙ users.0, users_apart callers mine theirs hs gone differ user users.1)

-- who has a turn without this caller's call had it before
pub ended_had : {C : Type 0} (now : Turn C) (gone caller : ℕ) → has_call (ended_turn now gone) caller ≡ true → has_call now caller ≡ true
ended_had {C} now gone caller = cond_both (has_call now gone) turn.Free now (λ (left : Turn C). has_call left caller ≡ true → has_call now caller ≡ true) (λ _ has. absurd (false≢true has)) (λ _ has. has)

pub not_then : (a b : Bool) → (a ≡ true → b ≡ true) → b ≡ false → a ≡ false
not_then false b from is = refl
not_then true b from is = absurd (false≢true (sym is ∙ from refl))

-- the lane on which the caller sent
outgoing_ended : {D : Type 0} (callers : List (Option End)) (mine theirs : End) (live : Bool) (state : LaneState D) (gone : ℕ) → mine ≢ theirs → IsUser callers mine gone
    → IsSoundBetween callers mine theirs live state → IsSoundBetween (slice_set callers gone None) mine theirs live (after_send_end state gone)
outgoing_ended callers mine theirs live state gone differ user sound = record {
  lane = send_ended_sound state gone sound.lane;
  whole = sound.whole;
  users = users_apart callers mine theirs state.lane.held gone differ user sound.users;
  sender = ended_sound callers mine state.sender gone sound.sender;
  receiver = turn_apart callers mine theirs state.receiver gone differ user sound.receiver;
}

-- the lane from which the caller took
incoming_ended : {D : Type 0} (callers : List (Option End)) (mine theirs : End) (state : LaneState D) (gone : ℕ) → mine ≢ theirs → IsUser callers mine gone
    → IsSoundBetween callers theirs mine false state → IsSoundBetween (slice_set callers gone None) theirs mine false (after_receive_end state gone)
incoming_ended callers mine theirs state gone differ user sound = record {
  lane = receive_ended_sound state gone sound.lane;
  whole = λ is. absurd (false≢true is);
  users = ended_users callers mine state.lane.held gone sound.users;
  sender = turn_apart callers mine theirs state.sender gone differ user sound.sender;
  receiver = ended_sound callers mine state.receiver gone sound.receiver;
}

abbrev is_host : End → Bool
is_host side.Host = true
is_host side.Remote = false

pub host_is_not : side.Host ≢ side.Remote
host_is_not = λ same. false≢true (sym (ap is_host same))

pub remote_is_not : side.Remote ≢ side.Host
remote_is_not = λ same. false≢true (ap is_host same)

without_sound : {D : Type 0} (desk : DeskMeaning D) (link : LinkState D) (found : Option End) (gone : ℕ) → end_of link.callers gone ≡ found → link.era.is_live ≡ false
    → SoundLink link → SoundLink (without_caller (list_form desk) link found gone)
without_sound {D} desk link (Some side.Host) gone is shut sound =
    let out : IsSoundBetween link.callers side.Host side.Remote link.era.is_live link.to_remote = sound.to_remote in
    let inc : IsSoundBetween link.callers side.Remote side.Host false link.to_host = closed_between link.callers side.Remote side.Host link.era.is_live link.to_host sound.to_host in
    record {
      to_host = subst (λ live. IsSoundBetween (slice_set link.callers gone None) side.Remote side.Host live (after_receive_end link.to_host gone)) (sym shut) (incoming_ended link.callers side.Host side.Remote link.to_host gone host_is_not is inc);
      to_remote = outgoing_ended link.callers side.Host side.Remote link.era.is_live link.to_remote gone host_is_not is out;
      hosts = λ caller sends. not_then _ _ (ended_had link.to_host.receiver gone caller) (sound.hosts caller (ended_had link.to_remote.sender gone caller sends));
      remotes = sound.remotes;
    }
without_sound {D} desk link (Some side.Remote) gone is shut sound =
    let out : IsSoundBetween link.callers side.Remote side.Host link.era.is_live link.to_host = sound.to_host in
    let inc : IsSoundBetween link.callers side.Host side.Remote false link.to_remote = closed_between link.callers side.Host side.Remote link.era.is_live link.to_remote sound.to_remote in
    record {
      to_remote = subst (λ live. IsSoundBetween (slice_set link.callers gone None) side.Host side.Remote live (after_receive_end link.to_remote gone)) (sym shut) (incoming_ended link.callers side.Remote side.Host link.to_remote gone remote_is_not is inc);
      to_host = outgoing_ended link.callers side.Remote side.Host link.era.is_live link.to_host gone remote_is_not is out;
      remotes = λ caller sends. not_then _ _ (ended_had link.to_remote.receiver gone caller) (sound.remotes caller (ended_had link.to_host.sender gone caller sends));
      hosts = sound.hosts;
    }
without_sound desk link None gone is shut sound = sound

-- a reclaim in a closed era keeps a link sound
pub reclaim_sound : {D : Type 0} (desk : DeskMeaning D) (link : LinkState D) (gone : ℕ) → link.era.is_live ≡ false → SoundLink link → SoundLink (link_after_reclaim (list_form desk) link gone)
reclaim_sound desk link gone shut sound = without_sound desk link (end_of link.callers gone) gone refl shut sound

opened_between : {D : Type 0} (callers : List (Option End)) (sends receives : End) (capacity book : ℕ) (desk : D) → IsSoundBetween callers sends receives true (opened_lane capacity book desk)
opened_between callers sends receives capacity book desk = record { lane = opened_lane_sound capacity book desk; whole = λ _. refl; users = tt; sender = tt; receiver = tt }

-- a reopened link is sound
pub reopen_sound : {D : Type 0} (desk : DeskMeaning D) (link : LinkState D) → SoundLink (link_after_reopen (list_form desk) link)
reopen_sound desk link = record {
  to_host = opened_between link.callers side.Remote side.Host _ _ _;
  to_remote = opened_between link.callers side.Host side.Remote _ _ _;
  hosts = λ caller sends. absurd (false≢true sends);
  remotes = λ caller sends. absurd (false≢true sends);
}

not_live : (era : Era) (inc : ℕ) → era.is_live ≡ false → is_live_in era inc ≡ false
not_live era inc shut = rw shut (and_false (era.inc == inc))
  where
    and_false : (b : Bool) → (b && false) ≡ false
    and_false true = refl
    and_false false = refl

receive_hands_none : {D : Type 0} (desk : DeskMeaning D) (era : Era) (state : LaneState D) (caller : ℕ) (r : Receiving) (now : Work) → era.is_live ≡ false
    → (receive_step desk era state caller r now).state.lane.takers ≡ state.lane.takers
receive_hands_none desk era state caller r (work.Take take_stage.Turn) shut = refl
receive_hands_none desk era state caller r (work.Take take_stage.Era) shut = refl
receive_hands_none desk era state caller r (work.Take take_stage.Look) shut = refl
receive_hands_none desk era state caller r (work.Take take_stage.Buffer) shut = rw (not_live era r.follows shut) refl
receive_hands_none desk era state caller r (work.Give number give_stage.Turn) shut = refl
receive_hands_none desk era state caller r (work.Give number give_stage.Entry) shut = refl
receive_hands_none desk era state caller r (work.Bind address) shut = rw (not_live era r.follows shut) refl
receive_hands_none desk era state caller r (work.Unbind address) shut = rw (not_live era r.follows shut) refl

receiver_hands_none : {D : Type 0} (desk : DeskMeaning D) (era : Era) (state : LaneState D) → era.is_live ≡ false → (receiver_step desk era state).state.lane.takers ≡ state.lane.takers
receiver_hands_none {D} desk era state shut =
    turn_step_has (λ (after : LaneState D). after.lane.takers ≡ state.lane.takers) state (record state { receiver = turn.Free }) (λ caller r. receive_step desk era state caller r r.work) state.receiver refl refl
    (λ caller r is. receive_hands_none desk era state caller r r.work shut)

-- no step of these lanes hands a message over
record LanesHandNone {D : Type 0} (before after : Lanes (LaneState D)) : Type 0 where
  pub outgoing : after.outgoing.lane.takers ≡ before.outgoing.lane.takers
  pub incoming : after.incoming.lane.takers ≡ before.incoming.lane.takers

later_hands_none : {D : Type 0} (desk : DeskMeaning D) (era : Era) (lanes : Lanes (LaneState D)) (sends : Bool) → era.is_live ≡ false
    → LanesHandNone lanes (cond sends (send_later (list_form desk) era lanes) (receive_later (list_form desk) desk era lanes)).state
later_hands_none desk era lanes true shut = record { outgoing = (sender_own era lanes.outgoing).takers; incoming = refl }
later_hands_none desk era lanes false shut = record { outgoing = refl; incoming = receiver_hands_none desk era lanes.incoming shut }

lanes_hand_none : {D : Type 0} (desk : DeskMeaning D) (era : Era) (lanes : Lanes (LaneState D)) (caller follows : ℕ) (wished : Option Wish) → era.is_live ≡ false
    → LanesHandNone lanes (lanes_step (list_form desk) desk era lanes caller follows wished).state
lanes_hand_none desk era lanes caller follows (Some (wish.Send message)) shut = record { outgoing = refl; incoming = refl }
lanes_hand_none desk era lanes caller follows (Some wish.Take) shut = record { outgoing = refl; incoming = refl }
lanes_hand_none desk era lanes caller follows (Some (wish.Give number)) shut = record { outgoing = refl; incoming = refl }
lanes_hand_none desk era lanes caller follows (Some (wish.Bind address)) shut = record { outgoing = refl; incoming = refl }
lanes_hand_none desk era lanes caller follows (Some (wish.Unbind address)) shut = record { outgoing = refl; incoming = refl }
lanes_hand_none desk era lanes caller follows None shut = later_hands_none desk era lanes (has_call lanes.outgoing.sender caller) shut

end_hands_none : {D : Type 0} (desk : DeskMeaning D) (link : LinkState D) (found : Option End) (caller follows : ℕ) (wished : Option Wish) → link.era.is_live ≡ false
    → HandsNone link (on_lanes link found (λ lanes. lanes_step (list_form desk) desk link.era lanes caller follows wished)).state
end_hands_none desk link (Some side.Host) caller follows wished shut =
    let none = lanes_hand_none desk link.era (lanes_of link side.Host) caller follows wished shut in record { to_host = none.incoming; to_remote = none.outgoing }
end_hands_none desk link (Some side.Remote) caller follows wished shut =
    let none = lanes_hand_none desk link.era (lanes_of link side.Remote) caller follows wished shut in record { to_host = none.outgoing; to_remote = none.incoming }
end_hands_none desk link None caller follows wished shut = record { to_host = refl; to_remote = refl }

-- no step hands a message over in a closed era
pub step_hands_none : {D : Type 0} (desk : DeskMeaning D) (link : LinkState D) (caller follows : ℕ) (wished : Option Wish) → link.era.is_live ≡ false
    → HandsNone link (caller_step desk link caller follows wished).state
step_hands_none desk link caller follows wished shut = end_hands_none desk link (end_of link.callers caller) caller follows wished shut

without_hands_none : {D : Type 0} (desk : DeskMeaning D) (link : LinkState D) (found : Option End) (gone : ℕ) → HandsNone link (without_caller (list_form desk) link found gone)
without_hands_none desk link (Some side.Host) gone = record { to_host = refl; to_remote = refl }
without_hands_none desk link (Some side.Remote) gone = record { to_host = refl; to_remote = refl }
without_hands_none desk link None gone = record { to_host = refl; to_remote = refl }

-- no reclaim hands a message over
pub reclaim_hands_none : {D : Type 0} (desk : DeskMeaning D) (link : LinkState D) (gone : ℕ) → HandsNone link (link_after_reclaim (list_form desk) link gone)
reclaim_hands_none desk link gone = without_hands_none desk link (end_of link.callers gone) gone
