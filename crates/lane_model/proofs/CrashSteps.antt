-- A reclaim and a reopening keep a lane sound by itself.
use Rattle.std.proofs.Common.{◌≡◌, ℕ, suc, ◌≤◌, ◌==◌, ◌&&◌, ◌||◌, not, eqb, length, Bool, true, false, cond, IsTrue, List, [], ◌∷◌, refl, sym, ◌∙◌, arith}
use Rattle.std.proofs.lemmas.Bool.{eqb-true, eqb-false, or_parts, or_from, and_parts, cond_both}
use Rattle.lane_model.specs.declared.states.Holding.{Holding}
use Rattle.lane_model.specs.declared.states.Lane.{Lane}
use Rattle.lane_model.specs.declared.states.LaneState.{LaneState}
use Rattle.lane_model.specs.declared.stages.Sending.{Sending}
use Rattle.lane_model.specs.declared.stages.Receiving.{Receiving}
use Rattle.lane_model.specs.declared.stages.Work.{Work}
use Rattle.lane_model.specs.declared.stages.Work.TheVariants as work
use Rattle.lane_model.specs.declared.stages.Turn.{Turn}
use Rattle.lane_model.specs.declared.stages.Turn.TheVariants as turn
use Rattle.lane_model.specs.Lanes.{OfCall, holds}
use Rattle.lane_model.specs.Crashes.{ended_turn, held_by_others, after_send_end, after_receive_end, opened_lane}
use Rattle.lane_model.specs.Conditions.{HasRoomAt, IsFitWork}
use Rattle.lane_model.specs.Soundness.{is_held, AreHandedOnce, IsSoundLane}

-- what holds of both choices holds of the one that is made
pub others_have : (P : List Holding → Type 0) (h : Holding) (hs : List Holding) (caller : ℕ)
    → ((h.caller == caller) ≡ false → P (h ∷ held_by_others hs caller)) → ((h.caller == caller) ≡ true → P (held_by_others hs caller)) → P (held_by_others (h ∷ hs) caller)
others_have P h hs caller kept gone = which (eqb h.caller caller) kept gone
  where
    which : (b : Bool) → (b ≡ false → P (h ∷ held_by_others hs caller)) → (b ≡ true → P (held_by_others hs caller)) → P (cond (not b) (h ∷ held_by_others hs caller) (held_by_others hs caller))
    which true kept gone = gone refl
    which false kept gone = kept refl

pub others_not_held : (held : List Holding) (caller number : ℕ) → is_held held number ≡ false → is_held (held_by_others held caller) number ≡ false
others_not_held [] caller number free = refl
others_not_held (h ∷ hs) caller number free =
    let parts = or_parts (eqb h.number number) (is_held hs number) free in
    let rest = others_not_held hs caller number parts.1 in
    others_have (λ left. is_held left number ≡ false) h hs caller (λ _. or_from _ _ parts.0 rest) (λ _. rest)

pub others_once : (handed : ℕ) (held : List Holding) (caller : ℕ) → AreHandedOnce handed held → AreHandedOnce handed (held_by_others held caller)
others_once handed [] caller once = tt
others_once handed (h ∷ hs) caller once =
    let rest = others_once handed hs caller once.2 in
    others_have (AreHandedOnce handed) h hs caller (λ _. (others_not_held hs caller h.number once.0, once.1, rest)) (λ _. rest)

pub others_fewer : (held : List Holding) (caller : ℕ) → length (held_by_others held caller) ≤ length held
others_fewer [] caller = omega arith
others_fewer (h ∷ hs) caller =
    let rest = others_fewer hs caller in
    others_have (λ left. length left ≤ suc (length hs)) h hs caller (λ _. omega (arith, rest)) (λ _. omega (arith, rest))

or_map : (a x y : Bool) → (IsTrue x → IsTrue y) → IsTrue (a || x) → IsTrue (a || y)
or_map true x y from has = has
or_map false x y from has = from has

or_other : (a x : Bool) → (a ≡ true → ⊥) → IsTrue (a || x) → IsTrue x
or_other true x never has = absurd (never refl)
or_other false x never has = has

-- what another holds it holds on
pub others_still_hold : (held : List Holding) (caller number other : ℕ) → (other == caller) ≡ false → IsTrue (holds held number other) → IsTrue (holds (held_by_others held caller) number other)
others_still_hold [] caller number other differ has = has
others_still_hold (h ∷ hs) caller number other differ has =
    let rest : IsTrue (holds hs number other) → IsTrue (holds (held_by_others hs caller) number other) = others_still_hold hs caller number other differ in
    let here : Bool = eqb h.number number && eqb h.caller other in
    others_have (λ left. IsTrue (holds left number other)) h hs caller
    (λ _. or_map here (holds hs number other) (holds (held_by_others hs caller) number other) rest has)
    (λ mine. rest (or_other here (holds hs number other)
    (λ is. eqb-false _ _ differ (sym (eqb-true h.caller other (and_parts _ _ is).1) ∙ eqb-true h.caller caller mine)) has))

-- what holds of another's call holds of who has the turn without this caller's
pub ended_has : {C : Type 0} (P Q : ℕ → C → Type 0) (now : Turn C) (caller : ℕ) → ((other : ℕ) (call : C) → (other == caller) ≡ false → P other call → Q other call)
    → OfCall now P → OfCall (ended_turn now caller) Q
ended_has P Q turn.Free caller from of = tt
ended_has P Q (turn.Taken other call) caller from of = cond_both (eqb other caller) turn.Free (turn.Taken other call) (λ now. OfCall now Q) (λ _. tt) (λ is. from other call is of)
ended_has {C} P Q (turn.Leaving other ended) caller from of = cond_both (eqb other caller) turn.Free (turn.Leaving other ended) (λ (now : Turn C). OfCall now Q) (λ _. tt) (λ _. tt)
ended_has P Q turn.Manager caller from of = tt

pub work_stays_fit : (now : Work) (lane : Lane) (caller other : ℕ) → (other == caller) ≡ false → IsFitWork now lane other → IsFitWork now (record lane { held = held_by_others lane.held caller }) other
work_stays_fit (work.Take now) lane caller other differ fit = fit
work_stays_fit (work.Give number now) lane caller other differ fit = others_still_hold lane.held caller number other differ fit
work_stays_fit (work.Bind address) lane caller other differ fit = tt
work_stays_fit (work.Unbind address) lane caller other differ fit = tt

-- a lane without the send of a caller
pub send_ended_sound : {D : Type 0} (state : LaneState D) (caller : ℕ) → IsSoundLane state → IsSoundLane (after_send_end state caller)
send_ended_sound state caller sound = record {
  counts = sound.counts;
  handed = sound.handed;
  out = sound.out;
  within = sound.within;
  holdings = sound.holdings;
  room = ended_has (λ other (s : Sending). HasRoomAt s.stage state.lane) (λ other (s : Sending). HasRoomAt s.stage state.lane) state.sender caller (λ other s differ has. has) sound.room;
  fit = sound.fit;
}

-- a lane without the call of a caller and without what it holds
pub receive_ended_sound : {D : Type 0} (state : LaneState D) (caller : ℕ) → IsSoundLane state → IsSoundLane (after_receive_end state caller)
receive_ended_sound state caller sound = record {
  counts = let fewer = others_fewer state.lane.held caller in omega (arith, fewer, sound.counts);
  handed = sound.handed;
  out = sound.out;
  within = sound.within;
  holdings = others_once (length state.lane.takers) state.lane.held caller sound.holdings;
  room = sound.room;
  fit = ended_has (λ other (r : Receiving). IsFitWork r.work state.lane other) (λ other (r : Receiving). IsFitWork r.work (record state.lane { held = held_by_others state.lane.held caller }) other)
      state.receiver caller (λ other r differ has. work_stays_fit r.work state.lane caller other differ has) sound.fit;
}

-- an empty lane
pub opened_lane_sound : {D : Type 0} (capacity book : ℕ) (desk : D) → IsSoundLane (opened_lane capacity book desk)
opened_lane_sound capacity book desk =
    record { counts = omega arith; handed = omega arith; out = omega arith; within = omega arith; holdings = tt; room = tt; fit = tt }
