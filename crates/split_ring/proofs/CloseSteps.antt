-- A caller's seat and the manager's behind an attempt to close.
use Rattle.std.specs.Prelude.{Result, Ok, Err}
use base.Stored.{Coded}
use Rattle.rp_base.specs.declared.kinds.Era.{Era}
use Rattle.lane_model.specs.declared.recoveries.Already.{Already}
use Rattle.lane_model.specs.Desks.{DeskMeaning}
use Rattle.lane_model.specs.Lanes.{is_live_in}
use Rattle.link_words.specs.Seats.{ClosesEra, is_closed_behind}
use Rattle.link_words.specs.Steps.{ClosesLink}
use Rattle.link_words.specs.Words.{era_word}
use Rattle.split_ring.specs.Closes.{IsCloseAnswer, HasClosed}
use Rattle.split_ring.proofs.Eras.{live_is, dead_is}
use Rattle.std.specs.Prelude.{if◌then◌else◌, ◌==◌, not}
use Rattle.std.proofs.Common.{◌≡◌, ◌<◌, ◌||◌, Bool, true, false, eqb, eq-eqb, ℕ, zero, suc, List, [], ◌∷◌, refl, sym, ap, ◌∙◌, subst}
use mathlib.Core.Option.{some, some-injective, some-ne-none}
use lib.ListN.{get_elem?}
use Rattle.lane_model.specs.declared.calls.Ask.{Ask}
use Rattle.lane_model.specs.declared.calls.Ask.TheVariants as ask
use Rattle.lane_model.specs.HeldBuffers.{HeldBuffer}
use Rattle.lane_model.specs.declared.recoveries.LaneTurn.{LaneTurn}
use Rattle.lane_model.specs.declared.recoveries.LaneTurn.TheVariants as lane_turn
use Rattle.lane_model.specs.declared.stages.GiveStage.{GiveStage}
use Rattle.lane_model.specs.declared.stages.GiveStage.TheVariants as give_stage
use Rattle.lane_model.specs.declared.stages.SendStage.{SendStage}
use Rattle.lane_model.specs.declared.stages.SendStage.TheVariants as stage
use Rattle.lane_model.specs.declared.stages.TakeStage.{TakeStage}
use Rattle.lane_model.specs.declared.stages.TakeStage.TheVariants as take_stage
use Rattle.lane_model.specs.declared.stages.Work.{Work}
use Rattle.rp_base.specs.declared.kinds.End.{End}
use Rattle.link_words.specs.declared.rule.Call.{Call}
use Rattle.link_words.specs.declared.rule.Call.TheVariants.{Rests}
use Rattle.link_words.specs.declared.rule.LinkSizes.{LinkSizes}
use Rattle.link_words.specs.declared.rule.Call.{Call}
use Rattle.link_words.specs.declared.rule.Made.{Made}
use Rattle.link_words.specs.Reopens.{ManagerAt}
use Rattle.link_words.specs.declared.rule.Pass.{Pass}
use Rattle.link_words.specs.declared.rule.Slot.{Slot}
use Rattle.link_words.specs.Calls.{SeatState, Notes, noted, with_pass_at}
use Rattle.link_words.specs.Passes.{Manages, HasNumber, place_of_number}
use Rattle.split_ring.specs.declared.callers.Caller.{Caller}
use Rattle.split_ring.specs.declared.callers.CallerId.{CallerId}
use Rattle.split_ring.specs.CallPhases.{Phase}
use Rattle.split_ring.specs.CallPhases as phase
use Rattle.split_ring.specs.declared.links.SharedLink.{SharedLink}
use Rattle.split_ring.specs.declared.sends.SendCall.{SendCall}
use Rattle.split_ring.specs.declared.takes.TakeCall.{TakeCall}
use Rattle.split_ring.specs.Callers.{IsUserOf, IsWhereItWas}
use Rattle.split_ring.specs.Calls.{SendStands, TakeStands, GiveStands, IsOwnAsk, IsInPhase}
use Rattle.split_ring.specs.Receives.{IsHeldBy}
use Rattle.split_ring.specs.Seats.{IsAt, IsSeatOf, pass_in, first_pass}
use Rattle.split_ring.specs.Turns.{IsLeaving, HasReceiver}
use Rattle.split_ring.proofs.Seats.{number_place}
use Rattle.lane_model.specs.declared.calls.CallEnd.{CallEnd}

-- the one pass has noted a step, and nothing else of it has changed
pub record IsNoted (made : Made) (me me' : SeatState) : Type 0 where
  pub one : me'.0.passes ≡ pass_in me' ∷ []
  pub pass : pass_in me' ≡ noted made (pass_in me)
  pub sizes : me'.0.sizes ≡ me.0.sizes
  pub slots : me'.1 ≡ me.1

pub noted_once : (made : Made) (n : ℕ) (me me' : SeatState) → me.0.passes ≡ pass_in me ∷ [] → (pass_in me).number ≡ n → Notes made (λ p. p) (place_of_number n me.0.passes) me.1 me me' → IsNoted made me me'
noted_once made n me me' one number told =
    let zero_is = number_place me n one number in
    let all : me'.0.passes ≡ noted made (pass_in me) ∷ [] = ap (λ (s : SeatState). s.0.passes) told ∙ (λ i. with_pass_at (noted made) (zero_is i) (one i)) in
    let pass : pass_in me' ≡ noted made (pass_in me) = ap first_pass all in record {
      one = all ∙ ap (λ (p : Pass). p ∷ []) (sym pass);
      pass = pass;
      sizes = ap (λ (s : SeatState). s.0.sizes) told;
      slots = ap (λ (s : SeatState). s.1) told;
    }

-- the same of a seat that learned in that step whether the era is closed
pub noted_knowing : (made : Made) (b : Bool) (me me' : SeatState) → IsNoted made (record me.0 { is_closed = b }, me.1) me' → IsNoted made me me'
noted_knowing made b me me' n = record { one = n.one; pass = n.pass; sizes = n.sizes; slots = n.slots }

-- the one pass is in the same call and has the same in hand, with the same slots
pub record IsLike (me me' : SeatState) : Type 0 where
  pub one : me'.0.passes ≡ pass_in me' ∷ []
  pub in_call : (pass_in me').call ≡ (pass_in me).call
  pub in_hand : (pass_in me').hands ≡ (pass_in me).hands
  pub slots : me'.1 ≡ me.1

pub noted_like : (made : Made) (me me' : SeatState) → IsNoted made me me' → IsLike me me'
noted_like made me me' n = record { one = n.one; in_call = ap (λ (p : Pass). p.call) n.pass; in_hand = ap (λ (p : Pass). p.hands) n.pass; slots = n.slots }

module _ (me me' : SeatState) (n : IsLike me me') where
  pub at_noted : (call : Call) (slots : List (ℕ × Slot)) → IsAt me call slots → IsAt me' call slots
  at_noted call slots at = record { one = n.one; in_call = n.in_call ∙ at.in_call; out = n.slots ∙ at.out }

  pub held_noted : (who : CallerId) (held : HeldBuffer) → IsHeldBy who held me → IsHeldBy who held me'
  held_noted who held has = record { lane = has.lane; caller = has.caller; numbered = subst (λ (l : List ℕ). HasNumber l held.number) (sym n.in_hand) has.numbered }

  send_noted : (z : LinkSizes) (c : SendCall) (s : SendStage) → SendStands z c s me → SendStands z c s me'
  send_noted z c stage.Turn has = (at_noted _ _ has.0, has.1)
  send_noted z c stage.Era has = (at_noted _ _ has.0, has.1)
  send_noted z c stage.Look has = (at_noted _ _ has.0, has.1)
  send_noted z c stage.Buffer has = (has.0, (at_noted _ _ has.1.0, has.1.1))
  send_noted z c stage.Entry has = (at_noted _ _ has.0, has.1)

  take_noted : (z : LinkSizes) (c : TakeCall) (buffer : ℕ) (s : TakeStage) → TakeStands z c buffer s me → TakeStands z c buffer s me'
  take_noted z c buffer take_stage.Turn has = record { side = has.side; handed = has.handed; most = has.most; at = at_noted _ _ has.at }
  take_noted z c buffer take_stage.Era has = record { side = has.side; handed = has.handed; most = has.most; at = at_noted _ _ has.at }
  take_noted z c buffer take_stage.Look has = record { side = has.side; handed = has.handed; most = has.most; at = at_noted _ _ has.at }
  take_noted z c buffer take_stage.Buffer (message, has) = (message, record { side = has.side; handed = has.handed; most = has.most; at = at_noted _ _ has.at })

  has_noted : (who : CallerId) (w : Work) → HasReceiver who w me → HasReceiver who w me'
  has_noted who w has = (has.0, has.1, has.2, at_noted _ _ has.3)

  give_noted : (who : CallerId) (held : HeldBuffer) (returned : ℕ) (s : GiveStage) → GiveStands who held returned s me → GiveStands who held returned s me'
  give_noted who held returned give_stage.Turn (has, mine) = (has_noted who _ has, held_noted who held mine)
  give_noted who held returned give_stage.Entry (has, mine) = (record { side = has.side; back = has.back; most = has.most; at = at_noted _ _ has.at }, held_noted who held mine)

  own_noted : (who : CallerId) (asked : Ask) → IsOwnAsk who asked me → IsOwnAsk who asked me'
  own_noted who (ask.Send message) has = has
  own_noted who ask.Take has = has
  own_noted who (ask.Give held) has = held_noted who held has
  own_noted who (ask.Bind address) has = has
  own_noted who (ask.Unbind address) has = has

  leaving_noted : (t : LaneTurn) (lane : End) (ended : CallEnd) → IsLeaving t lane ended me → IsLeaving t lane ended me'
  leaving_noted lane_turn.Sender lane ended has = (has.0, has.1, has.2, at_noted _ _ has.3)
  leaving_noted lane_turn.Receiver lane ended has = (has.0, has.1, has.2, has.3, at_noted _ _ has.4)

  pub phase_noted : (z : LinkSizes) (who : CallerId) (p : Phase) → IsInPhase z who p me → IsInPhase z who p me'
  phase_noted z who (phase.Asked asked) has = (at_noted _ _ has.0, own_noted who asked has.1)
  phase_noted z who (phase.Sends s c message) has = (send_noted z c s has.0, has.1, has.2)
  phase_noted z who (phase.Takes s c buffer) has = (take_noted z c buffer s has.0, has.1)
  phase_noted z who (phase.Gives s held returned) has = give_noted who held returned s has
  phase_noted z who (phase.Asks asked) has = has_noted who _ has
  phase_noted z who (phase.LeavesSender answer) has = leaving_noted lane_turn.Sender _ _ has
  phase_noted z who (phase.LeavesReceiver answer) has = leaving_noted lane_turn.Receiver _ _ has
  phase_noted z who phase.Ended has = has

-- a caller whose seat has noted a step is where it was
pub where_it_was : {D : Type 0} (link : SharedLink D) (before after : Caller) (made : Made) → after.id ≡ before.id → after.seat.table_id ≡ before.seat.table_id → IsNoted made before.seat.me after.seat.me → IsUserOf link before → IsWhereItWas link before after
where_it_was link before after made id table n user =
    let seat : IsSeatOf link.table.shared.table_id link.sizes after.seat.table_id after.seat.me = record { at_table = table ∙ user.seat.at_table; told = n.sizes ∙ user.seat.told } in
    let number : (pass_in after.seat.me).number ≡ after.id.number = ap (λ (p : Pass). p.number) n.pass ∙ (user.number ∙ ap (λ (i : CallerId). i.number) (sym id)) in
    let low = subst (λ (i : CallerId). i.number < 64) (sym id) user.low in record {
      id = id;
      user = record { seat = seat; one = n.one; number = number; low = low };
      rests = λ was. record { seat = seat; rests = subst (λ (i : CallerId). IsAt after.seat.me (Rests i.end) []) (sym id) (at_noted before.seat.me after.seat.me (noted_like made before.seat.me after.seat.me n) _ _ was.rests); number = number; low = low };
      in_call = λ call was. record { seat = seat; number = number; low = low; stands = subst (λ (i : CallerId). IsInPhase link.sizes i call.phase after.seat.me) (sym id) (phase_noted before.seat.me after.seat.me (noted_like made before.seat.me after.seat.me n) link.sizes before.id call.phase was.stands) };
    }

-- a pass is there still, with its number and its call
pub pass_stays : (made : Made) (k : ℕ) (ps : List Pass) (l : ℕ) (b : Pass) → get_elem? ps l ≡ some b → (c : Pass) × (get_elem? (with_pass_at (noted made) k ps) l ≡ some c) × (c.number ≡ b.number) × (c.call ≡ b.call)
pass_stays made k [] l b at = absurd (some-ne-none b (sym at))
pass_stays made zero (p ∷ ps) zero b at = (noted made p, refl, ap (λ (q : Pass). q.number) (some-injective p b at), ap (λ (q : Pass). q.call) (some-injective p b at))
pass_stays made zero (p ∷ ps) (suc l) b at = (b, at, refl, refl)
pass_stays made (suc k) (p ∷ ps) zero b at = (b, at, refl, refl)
pass_stays made (suc k) (p ∷ ps) (suc l) b at = pass_stays made k ps l b at

pub place_stays : (made : Made) (k n : ℕ) (ps : List Pass) → place_of_number n (with_pass_at (noted made) k ps) ≡ place_of_number n ps
place_stays made k n [] = refl
place_stays made zero n (p ∷ ps) = refl
place_stays made (suc k) n (p ∷ ps) = ap (λ (later : ℕ). if p.number == n then 0 else suc later) (place_stays made k n ps)

-- the manager's seat has its own pass still, in the call that it was in
pub manages_noted : (made : Made) (k : ℕ) (me me' : SeatState) → Notes made (λ p. p) k me.1 me me' → Manages me.0 → Manages me'.0
manages_noted made k me me' told (l, b, at, is) =
    let c = pass_stays made k me.0.passes l b at in subst (λ (s : SeatState). Manages s.0) (sym told) (l, c.0, c.1, c.2 ∙ is)

pub rests_noted : (made : Made) (k : ℕ) (me me' : SeatState) (call : Call) → Notes made (λ p. p) k me.1 me me' → ManagerAt me call → ManagerAt me' call
rests_noted made k me me' call told at =
    let c = pass_stays made k me.0.passes at.mover.place at.mover.pass at.mover.here in
    subst (λ (s : SeatState). ManagerAt s call) (sym told) (record {
      mover = record { place = at.mover.place; pass = c.0; here = c.1 };
      here = at.here ∙ sym (place_stays made k 64 me.0.passes);
      number = c.2 ∙ at.number;
      in_call = c.3 ∙ at.in_call;
    })

-- the manager knows that the era is closed, where it asked for the incarnation that it found
or_true : (a b : Bool) → b ≡ true → (a || b) ≡ true
or_true true b is = refl
or_true false b is = is

pub known_closed : (made : Made) (k inc : ℕ) (era : Era) (me me' : SeatState) → Notes made (λ p. p) k me.1 (record me.0 { is_closed = is_closed_behind inc era }, me.1) me' → era.inc ≡ inc → me'.0.is_closed ≡ true
known_closed made k inc era me me' told same = ap (λ (s : SeatState). s.0.is_closed) told ∙ or_true (not era.is_live) (eqb era.inc inc) (eq-eqb era.inc inc same)

-- an attempt to close, by the era that was found
module _ {D : Type 0} (coded : Coded D) (meaning : DeskMeaning D) (closer inc n : ℕ) (me me' : SeatState) (found : Era) (told : ClosesEra closer inc me n me') (read : (era : Era) → n ≡ era_word era → era.inc < 4294967296 → found ≡ era) (step : ClosesLink coded meaning inc n me me') where
  same_era : found ≡ told.0
  same_era = read told.0 told.1 told.2

  closed_with : (answer : Result (Unit {0}) Already) → IsCloseAnswer inc told.0 answer → HasClosed coded meaning closer inc answer me me'
  closed_with answer answers = record { era = told.0; answered = answers; step = subst (λ (k : ℕ). ClosesLink coded meaning inc k me me') told.1 step; noted = told.3; current = told.4 }

  pub closed_now : is_live_in found inc ≡ true → HasClosed coded meaning closer inc (Ok (tt {0})) me me'
  closed_now live = closed_with (Ok (tt {0})) (sym same_era ∙ live_is found inc live)

  pub closed_already : is_live_in found inc ≡ false → HasClosed coded meaning closer inc (Err (record { 0 = found })) me me'
  closed_already dead = closed_with (Err (record { 0 = found })) (same_era, λ live. dead_is found inc dead (same_era ∙ live))
