-- A step of a call that a manager carries: which slots are out with it then, and that the other calls stay where they were.
use Rattle.std.proofs.Common.{◌≡◌, ◌≢◌, ◌<◌, ◌≤◌, ℕ, zero, suc, true, cond, eqb, eq-eqb, length, List, [], ◌∷◌, refl, sym, ap, ◌∙◌, subst, arith}
use Rattle.std.proofs.lemmas.Bool.{eqb-true}
use mathlib.Core.Option.{some}
use lib.ListN.{get_elem?}
use Rattle.rp_base.specs.declared.kinds.End.{End}
use Rattle.rp_base.specs.declared.kinds.End.TheVariants as side
use Rattle.lane_model.specs.declared.calls.Progress.{Progress}
use Rattle.lane_model.specs.declared.calls.Progress.TheVariants as progress
use Rattle.lane_model.specs.declared.stages.GiveStage.TheVariants as give_stage
use Rattle.lane_model.specs.declared.stages.Receiving.{Receiving}
use Rattle.lane_model.specs.declared.stages.SendStage.TheVariants as stage
use Rattle.lane_model.specs.declared.stages.Sending.{Sending}
use Rattle.lane_model.specs.declared.stages.TakeStage.TheVariants as take_stage
use Rattle.lane_model.specs.declared.stages.Turn.{Turn}
use Rattle.lane_model.specs.HeldBuffers.{HeldBuffer}
use Rattle.link_words.specs.declared.rule.Call.{Call}
use Rattle.link_words.specs.declared.rule.Call.TheVariants.{Rests, Receives, Sends}
use Rattle.link_words.specs.declared.rule.LinkSizes.{LinkSizes}
use Rattle.link_words.specs.declared.rule.Pass.{Pass}
use Rattle.link_words.specs.declared.rule.ReceiverSide.{ReceiverSide}
use Rattle.link_words.specs.declared.rule.SenderSide.{SenderSide}
use Rattle.link_words.specs.declared.rule.Slot.{Slot}
use Rattle.link_words.specs.Calls.{SeatState, has_side, with_pass_at}
use Rattle.link_words.specs.Passes.{HasNumber, only_pass, place_of_number}
use Rattle.link_words.specs.Words.{other, sender_slot, receiver_slot}
use Rattle.split_ring.specs.declared.binds.DeskAsk.TheVariants as asks
use Rattle.split_ring.specs.declared.callers.CallerId.{CallerId}
use Rattle.split_ring.specs.CallPhases.{Phase}
use Rattle.split_ring.specs.CallPhases as phase
use Rattle.lane_model.specs.declared.calls.Ask.{Ask}
use Rattle.lane_model.specs.declared.calls.Ask.TheVariants as ask
use Rattle.split_ring.specs.Calls.{IsInPhase, IsOwnAsk, StandsAt}
use Rattle.split_ring.specs.Focus.{slot_count}
use Rattle.split_ring.specs.Phases.{IsNext, IsUnderWay, side_of, slots_in}
use Rattle.split_ring.specs.Receives.{IsHeldBy}
use Rattle.split_ring.specs.Reclaims.{StandsIn}
use Rattle.split_ring.specs.Seats.{IsAt, first_pass}
use Rattle.split_ring.proofs.Focusing.{false-true}

-- in which call a seat is, with which slots, by the phase
pub record IsPhaseAt (who : CallerId) (p : Phase) (me : SeatState) : Type 0 where
  pub call : Call
  pub slots : List (ℕ × Slot)
  pub at : IsAt me call slots
  pub counted : slot_count call ≡ slots_in p
  pub long : length slots ≡ slots_in p
  pub sided : slots_in p ≢ 0 → has_side (side_of who.end p) call ≡ true
  pub only : (slot : ℕ) → has_side slot call ≡ true → (slots_in p ≢ 0) × (slot ≡ side_of who.end p)

some_zero : (n : ℕ) → suc n ≡ 0 → ⊥
some_zero n is = omega (arith, is)

rests_phase : (who : CallerId) (p : Phase) (me : SeatState) → IsAt me (Rests who.end) [] → slots_in p ≡ 0 → IsPhaseAt who p me
rests_phase who p me at none = record {
  call = Rests who.end;
  slots = [];
  at = at;
  counted = sym none;
  long = sym none;
  sided = λ some. absurd (some none);
  only = λ slot has. absurd (false-true has);
}

sends_phase : (n : ℕ) (who : CallerId) (p : Phase) (me : SeatState) (lane : End) (t : Turn Sending) (x : SenderSide) (b : ℕ) (slots : List (ℕ × Slot)) → IsAt me (Sends lane t x b) slots → slot_count (Sends lane t x b) ≡ suc n → length slots ≡ suc n → slots_in p ≡ suc n
    → sender_slot lane ≡ side_of who.end p → IsPhaseAt who p me
sends_phase n who p me lane t x b slots at count long many same = record {
  call = Sends lane t x b;
  slots = slots;
  at = at;
  counted = count ∙ sym many;
  long = long ∙ sym many;
  sided = λ some. eq-eqb (sender_slot lane) (side_of who.end p) same;
  only = λ slot has. (λ none. some_zero n (sym many ∙ none), sym (eqb-true (sender_slot lane) slot has) ∙ same);
}

receives_phase : (n : ℕ) (who : CallerId) (p : Phase) (me : SeatState) (lane : End) (t : Turn Receiving) (x : ReceiverSide) (b : ℕ) (message : List ℕ) (slots : List (ℕ × Slot)) → IsAt me (Receives lane t x b message) slots → slot_count (Receives lane t x b message) ≡ suc n
    → length slots ≡ suc n → slots_in p ≡ suc n → receiver_slot lane ≡ side_of who.end p → IsPhaseAt who p me
receives_phase n who p me lane t x b message slots at count long many same = record {
  call = Receives lane t x b message;
  slots = slots;
  at = at;
  counted = count ∙ sym many;
  long = long ∙ sym many;
  sided = λ some. eq-eqb (receiver_slot lane) (side_of who.end p) same;
  only = λ slot has. (λ none. some_zero n (sym many ∙ none), sym (eqb-true (receiver_slot lane) slot has) ∙ same);
}

sender_of : (a b : CallerId) → a ≡ b → sender_slot (other a.end) ≡ sender_slot (other b.end)
sender_of a b same = ap (λ (w : CallerId). sender_slot (other w.end)) same

receiver_of : (a b : CallerId) → a ≡ b → receiver_slot a.end ≡ receiver_slot b.end
receiver_of a b same = ap (λ (w : CallerId). receiver_slot w.end) same

pub phase_at : (z : LinkSizes) (who : CallerId) (p : Phase) (me : SeatState) → StandsIn z who p me → IsPhaseAt who p me
phase_at z who (phase.Asked asked) me at = rests_phase who (phase.Asked asked) me at.0 refl
phase_at z who (phase.Sends stage.Turn c message) me at = sends_phase 0 who (phase.Sends stage.Turn c message) me (other c.who.end) _ _ _ _ at.0.0 refl refl refl (sender_of c.who who at.1)
phase_at z who (phase.Sends stage.Era c message) me at = sends_phase 0 who (phase.Sends stage.Era c message) me (other c.who.end) _ _ _ _ at.0.0 refl refl refl (sender_of c.who who at.1)
phase_at z who (phase.Sends stage.Look c message) me at = sends_phase 0 who (phase.Sends stage.Look c message) me (other c.who.end) _ _ _ _ at.0.0 refl refl refl (sender_of c.who who at.1)
phase_at z who (phase.Sends stage.Buffer c message) me at = sends_phase 1 who (phase.Sends stage.Buffer c message) me (other c.who.end) _ _ _ _ at.0.1.0 refl refl refl (sender_of c.who who at.1)
phase_at z who (phase.Sends stage.Entry c message) me at = sends_phase 1 who (phase.Sends stage.Entry c message) me (other c.who.end) _ _ _ _ at.0.0 refl refl refl (sender_of c.who who at.1)
phase_at z who (phase.Takes take_stage.Turn c buffer) me at = receives_phase 0 who (phase.Takes take_stage.Turn c buffer) me c.who.end _ _ _ _ _ at.0.at refl refl refl (receiver_of c.who who at.1)
phase_at z who (phase.Takes take_stage.Era c buffer) me at = receives_phase 0 who (phase.Takes take_stage.Era c buffer) me c.who.end _ _ _ _ _ at.0.at refl refl refl (receiver_of c.who who at.1)
phase_at z who (phase.Takes take_stage.Look c buffer) me at = receives_phase 0 who (phase.Takes take_stage.Look c buffer) me c.who.end _ _ _ _ _ at.0.at refl refl refl (receiver_of c.who who at.1)
phase_at z who (phase.Takes take_stage.Buffer c buffer) me at = receives_phase 1 who (phase.Takes take_stage.Buffer c buffer) me c.who.end _ _ _ _ _ at.0.1.at refl refl refl (receiver_of c.who who at.1)
phase_at z who (phase.Gives give_stage.Turn held returned) me at = receives_phase 0 who (phase.Gives give_stage.Turn held returned) me who.end _ _ _ _ _ at.0.3 refl refl refl refl
phase_at z who (phase.Gives give_stage.Entry held returned) me at = receives_phase 0 who (phase.Gives give_stage.Entry held returned) me who.end _ _ _ _ _ at.0.at refl refl refl refl
phase_at z who (phase.Asks (asks.Bind address)) me at = receives_phase 0 who (phase.Asks (asks.Bind address)) me who.end _ _ _ _ _ at.3 refl refl refl refl
phase_at z who (phase.Asks (asks.Unbind address)) me at = receives_phase 0 who (phase.Asks (asks.Unbind address)) me who.end _ _ _ _ _ at.3 refl refl refl refl
phase_at z who (phase.LeavesSender answer) me at = sends_phase 0 who (phase.LeavesSender answer) me (other who.end) _ _ _ _ at.3 refl refl refl refl
phase_at z who (phase.LeavesReceiver answer) me at = receives_phase 0 who (phase.LeavesReceiver answer) me who.end _ _ _ _ _ at.4 refl refl refl refl
phase_at z who phase.Ended me at = rests_phase who phase.Ended me at refl

-- a seat stands in a phase by its passes and the slots that are out
at_same : (me me' : SeatState) (call : Call) (slots : List (ℕ × Slot)) → me'.0.passes ≡ me.0.passes → me'.1 ≡ me.1 → IsAt me call slots → IsAt me' call slots
at_same me me' call slots passes out at = record {
  one = passes ∙ (at.one ∙ ap (λ (l : List Pass). first_pass l ∷ []) (sym passes));
  in_call = ap (λ (l : List Pass). (first_pass l).call) passes ∙ at.in_call;
  out = out ∙ at.out;
}

held_same : (who : CallerId) (held : HeldBuffer) (me me' : SeatState) → me'.0.passes ≡ me.0.passes → IsHeldBy who held me → IsHeldBy who held me'
held_same who held me me' passes h = record { lane = h.lane; caller = h.caller; numbered = subst (λ (l : List Pass). HasNumber (first_pass l).hands held.number) (sym passes) h.numbered }

pub own_same : (who : CallerId) (asked : Ask) (me me' : SeatState) → me'.0.passes ≡ me.0.passes → IsOwnAsk who asked me → IsOwnAsk who asked me'
own_same who (ask.Send message) me me' passes own = own
own_same who ask.Take me me' passes own = own
own_same who (ask.Give held) me me' passes own = held_same who held me me' passes own
own_same who (ask.Bind address) me me' passes own = own
own_same who (ask.Unbind address) me me' passes own = own

pub stands_same : (z : LinkSizes) (who : CallerId) (p : Phase) (me me' : SeatState) → me'.0.passes ≡ me.0.passes → me'.1 ≡ me.1 → StandsIn z who p me → StandsIn z who p me'
stands_same z who (phase.Asked asked) me me' passes out at = (at_same me me' _ _ passes out at.0, own_same who asked me me' passes at.1)
stands_same z who (phase.Sends stage.Turn c message) me me' passes out at = ((at_same me me' _ _ passes out at.0.0, at.0.1), at.1, at.2)
stands_same z who (phase.Sends stage.Era c message) me me' passes out at = ((at_same me me' _ _ passes out at.0.0, at.0.1), at.1, at.2)
stands_same z who (phase.Sends stage.Look c message) me me' passes out at = ((at_same me me' _ _ passes out at.0.0, at.0.1), at.1, at.2)
stands_same z who (phase.Sends stage.Buffer c message) me me' passes out at = ((at.0.0, (at_same me me' _ _ passes out at.0.1.0, at.0.1.1)), at.1, at.2)
stands_same z who (phase.Sends stage.Entry c message) me me' passes out at = ((at_same me me' _ _ passes out at.0.0, at.0.1), at.1, at.2)
stands_same z who (phase.Takes take_stage.Turn c buffer) me me' passes out at = (record { side = at.0.side; handed = at.0.handed; most = at.0.most; at = at_same me me' _ _ passes out at.0.at }, at.1)
stands_same z who (phase.Takes take_stage.Era c buffer) me me' passes out at = (record { side = at.0.side; handed = at.0.handed; most = at.0.most; at = at_same me me' _ _ passes out at.0.at }, at.1)
stands_same z who (phase.Takes take_stage.Look c buffer) me me' passes out at = (record { side = at.0.side; handed = at.0.handed; most = at.0.most; at = at_same me me' _ _ passes out at.0.at }, at.1)
stands_same z who (phase.Takes take_stage.Buffer c buffer) me me' passes out at = ((at.0.0, record { side = at.0.1.side; handed = at.0.1.handed; most = at.0.1.most; at = at_same me me' _ _ passes out at.0.1.at }), at.1)
stands_same z who (phase.Gives give_stage.Turn held returned) me me' passes out at = ((at.0.0, at.0.1, at.0.2, at_same me me' _ _ passes out at.0.3), held_same who held me me' passes at.1)
stands_same z who (phase.Gives give_stage.Entry held returned) me me' passes out at = (record { side = at.0.side; back = at.0.back; most = at.0.most; at = at_same me me' _ _ passes out at.0.at }, held_same who held me me' passes at.1)
stands_same z who (phase.Asks (asks.Bind address)) me me' passes out at = (at.0, at.1, at.2, at_same me me' _ _ passes out at.3)
stands_same z who (phase.Asks (asks.Unbind address)) me me' passes out at = (at.0, at.1, at.2, at_same me me' _ _ passes out at.3)
stands_same z who (phase.LeavesSender answer) me me' passes out at = (at.0, at.1, at.2, at_same me me' _ _ passes out at.3)
stands_same z who (phase.LeavesReceiver answer) me me' passes out at = (at.0, at.1, at.2, at.3, at_same me me' _ _ passes out at.4)
stands_same z who phase.Ended me me' passes out at = at_same me me' _ _ passes out at

-- a call under way stands in its phase
pub in_phase : (z : LinkSizes) (who : CallerId) (p : Phase) (me : SeatState) → IsInPhase z who p me → StandsIn z who p me
in_phase z who (phase.Asked asked) me at = at
in_phase z who (phase.Sends stage c message) me at = at
in_phase z who (phase.Takes stage c buffer) me at = at
in_phase z who (phase.Gives stage held returned) me at = at
in_phase z who (phase.Asks asked) me at = at
in_phase z who (phase.LeavesSender answer) me at = at
in_phase z who (phase.LeavesReceiver answer) me at = at
in_phase z who phase.Ended me at = absurd at

pub stands_in : (z : LinkSizes) (who : CallerId) (p : Phase) (me : SeatState) → IsUnderWay p → StandsIn z who p me → IsInPhase z who p me
stands_in z who (phase.Asked asked) me way at = at
stands_in z who (phase.Sends stage c message) me way at = at
stands_in z who (phase.Takes stage c buffer) me way at = at
stands_in z who (phase.Gives stage held returned) me way at = at
stands_in z who (phase.Asks asked) me way at = at
stands_in z who (phase.LeavesSender answer) me way at = at
stands_in z who (phase.LeavesReceiver answer) me way at = at
stands_in z who phase.Ended me way at = absurd way

pub stands_next : (z : LinkSizes) (who : CallerId) (p p' : Phase) (said : Progress) (me : SeatState) → IsNext who.end p said p' → StandsAt z who said p' me → StandsIn z who p' me × (slots_in p' ≢ 0 → side_of who.end p' ≡ side_of who.end p)
stands_next z who p p' (progress.At number) me next at = (in_phase z who p' me at, λ some. next.1)
stands_next z who p p' (progress.Done said) me next at = (subst (λ (q : Phase). StandsIn z who q me) (sym next.0) at, λ some. absurd (some (ap slots_in next.0)))

-- the side states have the first four slots
sender_low : (e : End) → sender_slot e < 4
sender_low side.Host = omega arith
sender_low side.Remote = omega arith

receiver_low : (e : End) → receiver_slot e < 4
receiver_low side.Host = omega arith
receiver_low side.Remote = omega arith

pub side_low : (e : End) (p : Phase) → side_of e p < 4
side_low e (phase.Asked (ask.Send message)) = sender_low (other e)
side_low e (phase.Asked ask.Take) = receiver_low e
side_low e (phase.Asked (ask.Give held)) = receiver_low e
side_low e (phase.Asked (ask.Bind address)) = receiver_low e
side_low e (phase.Asked (ask.Unbind address)) = receiver_low e
side_low e (phase.Sends stage c message) = sender_low (other e)
side_low e (phase.Takes stage c buffer) = receiver_low e
side_low e (phase.Gives stage held returned) = receiver_low e
side_low e (phase.Asks asked) = receiver_low e
side_low e (phase.LeavesSender answer) = sender_low (other e)
side_low e (phase.LeavesReceiver answer) = receiver_low e
side_low e phase.Ended = receiver_low e

pub slots_few : (p : Phase) → slots_in p ≤ 2
slots_few (phase.Asked asked) = omega arith
slots_few (phase.Sends stage.Turn c message) = omega arith
slots_few (phase.Sends stage.Era c message) = omega arith
slots_few (phase.Sends stage.Look c message) = omega arith
slots_few (phase.Sends stage.Buffer c message) = omega arith
slots_few (phase.Sends stage.Entry c message) = omega arith
slots_few (phase.Takes take_stage.Turn c buffer) = omega arith
slots_few (phase.Takes take_stage.Era c buffer) = omega arith
slots_few (phase.Takes take_stage.Look c buffer) = omega arith
slots_few (phase.Takes take_stage.Buffer c buffer) = omega arith
slots_few (phase.Gives stage held returned) = omega arith
slots_few (phase.Asks asked) = omega arith
slots_few (phase.LeavesSender answer) = omega arith
slots_few (phase.LeavesReceiver answer) = omega arith
slots_few phase.Ended = omega arith

-- a change of one pass leaves the others
pub others_there : (f : Pass → Pass) (j k : ℕ) (ps : List Pass) → (k ≡ j → ⊥) → get_elem? (with_pass_at f j ps) k ≡ get_elem? ps k
others_there f j k [] differs = refl
others_there f zero zero (p ∷ ps) differs = absurd (differs refl)
others_there f zero (suc k) (p ∷ ps) differs = refl
others_there f (suc j) zero (p ∷ ps) differs = refl
others_there f (suc j) (suc k) (p ∷ ps) differs = others_there f j k ps (λ same. differs (ap suc same))

pub only_others : (f : Pass → Pass) (j k : ℕ) (ps : List Pass) → (k ≡ j → ⊥) → only_pass k (with_pass_at f j ps) ≡ only_pass k ps
only_others f j k [] differs = refl
only_others f zero zero (p ∷ ps) differs = absurd (differs refl)
only_others f zero (suc k) (p ∷ ps) differs = refl
only_others f (suc j) zero (p ∷ ps) differs = refl
only_others f (suc j) (suc k) (p ∷ ps) differs = only_others f j k ps (λ same. differs (ap suc same))

pub place_same : (f : Pass → Pass) (k n : ℕ) (ps : List Pass) → ((p : Pass) → get_elem? ps k ≡ some p → (f p).number ≡ p.number) → place_of_number n (with_pass_at f k ps) ≡ place_of_number n ps
place_same f k n [] keeps = refl
place_same f zero n (q ∷ ps) keeps = ap (λ (m : ℕ). cond (eqb m n) 0 (suc (place_of_number n ps))) (keeps q refl)
place_same f (suc k) n (q ∷ ps) keeps = ap (λ (m : ℕ). cond (eqb q.number n) 0 (suc m)) (place_same f k n ps keeps)
