use Rattle.std.proofs.Common.{rules, ◌≡◌, ◌<◌, ℕ, Bool, List, true, false, refl, sym, ap, ◌∙◌, subst}
use Rattle.std.specs.Prelude.{Err, Option, Some, None, slice_set}
use base.Stored.{Coded}
use Rattle.rp_base.specs.declared.kinds.End.{End}
use Rattle.rp_base.specs.declared.kinds.Era.{Era}
use Rattle.lane_model.specs.declared.recoveries.ReclaimRefusal.{ReclaimRefusal}
use Rattle.lane_model.specs.declared.recoveries.ReclaimRefusal.TheVariants as refusal
use Rattle.lane_model.specs.declared.stages.Turn.TheVariants as turn
use Rattle.lane_model.specs.Desks.{DeskMeaning}
use Rattle.lane_model.specs.Links.{end_of, link_of}
use Rattle.lane_model.specs.Recoveries.{link_after_reclaim, link_reclaim_refusal}
use Rattle.ring_core.specs.RingSteps.{ring_form}
use Rattle.link_words.specs.Calls.{SeatState}
use Rattle.link_words.specs.Passes.{place_of_number}
use Rattle.link_words.specs.PlacedLinks.{KnowsState}
use Rattle.link_words.specs.Seats.{with_era}
use Rattle.link_words.specs.Words.{lane_to}
use Rattle.split_ring.specs.declared.callers.CallerId.{CallerId}
use Rattle.split_ring.specs.declared.callers.Manager.{Manager}
use Rattle.split_ring.specs.CallPhases.{Phase}
use Rattle.split_ring.specs.declared.ends.TurnHeld.{TurnHeld}
use Rattle.split_ring.specs.Carried.{Carries, carried_at, carried_seat}
use Rattle.split_ring.specs.Focus.{after_deeds}
use Rattle.split_ring.specs.PartsOf.{IsRetireRefusal, TellsHands}
use Rattle.split_ring.specs.Reclaims.{IsEndFault, end_deeds, ended_of, lacks_receiver, phase_of, turn_in}
use Rattle.split_ring.specs.Seats.{pass_in}
use Rattle.split_ring.proofs.CarriedMakes.{carrier_kept, keeps_same, keeps_then}
use Rattle.split_ring.proofs.Ending.{anothers_same, carrier_ended, others_kept, pass_at, same_id}
use Rattle.split_ring.proofs.PartSteps.{looks_again, needs_turn}
use Rattle.split_ring.proofs.Reclaimed.{IsReclaimOf, callers_reclaimed, freed_known, live_by, nothing_refuses, reclaim_found, refused_by, state_reclaimed}
use Rattle.split_ring.proofs.Reopened.{era_known, known_learned}
use Rattle.split_ring.proofs.links.SharedLink.retire_by.Goals as goal

-- why a call was not ended is why its caller isn't
refused_as : {D : Type 0} (coded : Coded D) (meaning : DeskMeaning D) (id who : CallerId) (manager : Manager) (p : Phase) (t : TurnHeld) (holds : Bool) (why : ReclaimRefusal) → record id { follows = who.follows } ≡ who → t ≡ turn_in p → TellsHands holds (carried_seat who p manager)
    → IsEndFault coded meaning id t holds why → IsRetireRefusal coded meaning who manager p why
refused_as coded meaning id who manager p t holds (refusal.StillOpen era) same turns told is = (is.0, λ _. looks_again p (carried_seat who p manager) holds told t turns is.1)
refused_as coded meaning id who manager p t holds (refusal.Busy holder) same turns told is = (anothers_same coded meaning id who holder same is.0, needs_turn p (carried_seat who p manager) holds told t turns (is.1, is.2))

pub returns-then-era-clause-manager : goal.returns-then-era-clause-manager
returns-then-era-clause-manager g c =
    let link = c.args.self.now in let before = c.args.manager.now in let t = c.learn_era.ensures.told in let read : Manager = record { seat = c.learn_era.new.manager; users = before.users; out = before.out } in
    carrier_kept link before read (with_era before.seat.me.0 t.0) t.3 refl refl refl refl refl (c.learn_era.ensures.same.0 ∙ c.requires.manager.at_table) c.learn_era.ensures.order c.requires.manager

pub returns-then-era-clause-state : goal.returns-then-era-clause-state
returns-then-era-clause-state g c = λ m is.
    let coded = g.row.D.coded in let meaning = g.D.Desk.meaning in let s = c.learn_era in let me = c.args.manager.now.seat.me in (
      live_by meaning m c.args.caller c.era_of-era.result (era_known coded meaning me s.new.manager.me s.result c.era_of-era.result m s.ensures.told s.ensures.found c.era_of-era.ensures is.known) c.if-era.true,
      record { known = known_learned coded me s.new.manager.me s.result m s.ensures.told is.known; users = is.users },
    )

pub end_by-requires-clause-manager : goal.end_by-requires-clause-manager
end_by-requires-clause-manager g c =
    let link = c.args.self.now in let before = c.args.manager.now in let t = c.learn_era.ensures.told in let read : Manager = record { seat = c.learn_era.new.manager; users = before.users; out = before.out } in
    carrier_kept link before read (with_era before.seat.me.0 t.0) t.3 refl refl refl refl refl (c.learn_era.ensures.same.0 ∙ c.requires.manager.at_table) c.learn_era.ensures.order c.requires.manager

pub end_by-requires-clause-caller : goal.end_by-requires-clause-caller
end_by-requires-clause-caller g c =
    let link = c.args.self.now in let before = c.args.manager.now in let t = c.learn_era.ensures.told in let read : Manager = record { seat = c.learn_era.new.manager; users = before.users; out = before.out } in
    let p = phase_of c.args.call.now in let q = c.requires.caller in let id = c.carried_id-who in let same : record id.result { follows = q.0.follows } ≡ q.0 = same_id before.users c.args.caller id.result q.0 id.ensures.0 id.ensures.1 q.1 q.2.user in
    (q.0.follows, subst (λ (w : CallerId). Carries link read w p) (sym same) (keeps_same link before read (with_era before.seat.me.0 t.0) t.3 refl refl refl q.0 p q.2).0)

pub end_by-requires-clause-hands : goal.end_by-requires-clause-hands
end_by-requires-clause-hands g c = λ none.
    let link = c.args.self.now in let before = c.args.manager.now in let t = c.learn_era.ensures.told in let read : Manager = record { seat = c.learn_era.new.manager; users = before.users; out = before.out } in
    let p = phase_of c.args.call.now in let q = c.requires.caller in let id = c.carried_id-who in let same : record id.result { follows = q.0.follows } ≡ q.0 = same_id before.users c.args.caller id.result q.0 id.ensures.0 id.ensures.1 q.1 q.2.user in
    ap (λ (w : CallerId). (pass_in (carried_seat w p read)).hands) same ∙ (ap (λ (x : SeatState). (pass_in (carried_at q.0 p before.out x)).hands) t.3 ∙ q.3.none none)

pub end_carried-requires-clause-caller : goal.end_carried-requires-clause-caller
end_carried-requires-clause-caller g c =
    let link = c.args.self.now in let before = c.args.manager.now in let t = c.learn_era.ensures.told in let read : Manager = record { seat = c.learn_era.new.manager; users = before.users; out = before.out } in
    let p = phase_of c.args.call.now in let q = c.requires.caller in let id = c.carried_id-who in let same : record id.result { follows = q.0.follows } ≡ q.0 = same_id before.users c.args.caller id.result q.0 id.ensures.0 id.ensures.1 q.1 q.2.user in
    let s = c.in_ok-end_by.ensures in let ended = c.end_by.new.manager in let ps = ended.seat.me.0.passes in let was = (keeps_same link before read (with_era before.seat.me.0 t.0) t.3 refl refl refl q.0 p q.2).0 in
    let pass = ended_of id.result (pass_in (carried_seat id.result p read)) in let there = pass_at c.args.caller id.result.number ps pass id.ensures.0 s.ended.one in
    let number : pass.number ≡ c.args.caller = ap (λ (w : CallerId). (pass_in (carried_seat w p read)).number) same ∙ (was.number ∙ q.1) in
    (record { place = place_of_number c.args.caller ps; pass = pass; here = there }, id.result.end, number, refl, refl, refl)

pub returns-clause-manager : goal.returns-clause-manager
returns-clause-manager g c =
    let link = c.args.self.now in let before = c.args.manager.now in let t = c.learn_era.ensures.told in let read : Manager = record { seat = c.learn_era.new.manager; users = before.users; out = before.out } in
    let p = phase_of c.args.call.now in let q = c.requires.caller in let id = c.carried_id-who in let s = c.in_ok-end_by.ensures in let ended = c.end_by.new.manager in
    let after : Manager = record { seat = c.end_carried.new.manager; users = slice_set ended.users c.from.result None; out = ended.out } in
    let users : after.users ≡ slice_set ended.users c.args.caller None = ap (λ (k : ℕ). slice_set ended.users k None) c.from.ensures in
    let pass = ended_of id.result (pass_in (carried_seat id.result p read)) in let there = pass_at c.args.caller id.result.number ended.seat.me.0.passes pass id.ensures.0 s.ended.one in
    let low : c.args.caller < 64 = subst (λ (k : ℕ). k < 64) q.1 q.2.low in
    carrier_ended link ended after c.args.caller after.seat.me.0.copy c.end_carried.ensures.told refl users id.result.end pass there refl low (c.end_carried.ensures.same.0 ∙ s.manager.0.at_table) c.end_carried.ensures.order s.manager.0

pub returns-clause-others : goal.returns-clause-others
returns-clause-others g c = λ who r apart carried.
    let link = c.args.self.now in let before = c.args.manager.now in let t = c.learn_era.ensures.told in let read : Manager = record { seat = c.learn_era.new.manager; users = before.users; out = before.out } in
    let ended = c.end_by.new.manager in let after : Manager = record { seat = c.end_carried.new.manager; users = slice_set ended.users c.from.result None; out = ended.out } in
    let users : after.users ≡ slice_set ended.users c.args.caller None = ap (λ (k : ℕ). slice_set ended.users k None) c.from.ensures in
    keeps_then link before ended after who r (keeps_then link before read ended who r (keeps_same link before read (with_era before.seat.me.0 t.0) t.3 refl refl refl who r) (c.in_ok-end_by.ensures.others who r (λ is. apart (is ∙ c.carried_id-who.ensures.0))))
    (others_kept link ended after c.args.caller after.seat.me.0.copy c.end_carried.ensures.told refl users who r apart) carried

pub returns-clause-state : goal.returns-clause-state
returns-clause-state g c = λ m is.
    let coded = g.row.D.coded in let meaning = g.D.Desk.meaning in let s = c.learn_era in let before = c.args.manager.now in let me = before.seat.me in let q = c.requires.caller in let id = c.carried_id-who in let has = c.turn_of in let h = c.args.is_holding in
    let closed : m.era.is_live ≡ false = ap (λ (e : Era). e.is_live) (era_known coded meaning me s.new.manager.me s.result c.era_of-era.result m s.ensures.told s.ensures.found c.era_of-era.ensures is.known) ∙ c.if-era.false in
    let found : IsReclaimOf m id.result has.result h = reclaim_found coded meaning c.args.self.now before id.result q.0 (phase_of c.args.call.now) has.result s.result m h c.requires.manager q.2 (q.1 ∙ sym id.ensures.0)
    (ap (end_of before.users) id.ensures.0 ∙ id.ensures.1) has.ensures s.ensures.found is closed q.3 in
    let knows = known_learned coded me s.new.manager.me s.result m s.ensures.told is.known in let x = c.in_ok-end_by.ensures in let ended = c.end_by.new.manager in let after = c.end_carried.new.manager.me in let number = id.ensures.0 in
    let free : h ≡ true → lacks_receiver has.result ≡ true → (lane_to m id.result.end).lane.receiver ≡ turn.Free = λ held lacks. x.free held lacks m knows in
    let known = freed_known coded meaning c.args.caller ended.seat.me after (after_deeds meaning m (end_deeds id.result has.result h)) c.end_carried.ensures.told c.end_carried.ensures.step (returns-clause-manager g c).manages (x.done m knows) in
    let state = subst (λ (k : ℕ). record (after_deeds meaning m (end_deeds id.result has.result h)) { callers = slice_set (after_deeds meaning m (end_deeds id.result has.result h)).callers k None } ≡ link_after_reclaim (ring_form meaning) m k) number
    (state_reclaimed meaning m id.result has.result h found free) in (
      subst (λ (k : ℕ). link_reclaim_refusal (link_of (ring_form meaning) m) k ≡ None) number (nothing_refuses meaning m id.result has.result h found free),
      record {
        known = subst (KnowsState coded after.0) state known;
        users = ap (λ (us : List (Option End)). slice_set us c.from.result None) (x.manager.1 ∙ is.users) ∙ (ap (λ (k : ℕ). slice_set m.callers k None) (c.from.ensures) ∙ sym (callers_reclaimed meaning m c.args.caller id.result.end (ap (λ (us : List (Option End)). end_of us c.args.caller) (sym is.users) ∙ id.ensures.1)));
      },
    )

pub returns-in_err-end_by-clause-others : goal.returns-in_err-end_by-clause-others
returns-in_err-end_by-clause-others g c = λ who r apart carried.
    let link = c.args.self.now in let before = c.args.manager.now in let t = c.learn_era.ensures.told in let read : Manager = record { seat = c.learn_era.new.manager; users = before.users; out = before.out } in
    keeps_then link before read c.end_by.new.manager who r (keeps_same link before read (with_era before.seat.me.0 t.0) t.3 refl refl refl who r) (c.in_err-end_by.ensures.refused.1 who r) carried

pub returns-in_err-end_by-clause-back : goal.returns-in_err-end_by-clause-back
returns-in_err-end_by-clause-back g c =
    let link = c.args.self.now in let before = c.args.manager.now in let t = c.learn_era.ensures.told in let read : Manager = record { seat = c.learn_era.new.manager; users = before.users; out = before.out } in
    let x = c.in_err-end_by in let answer : c.from_residual.result ≡ Err x.field-0.0 = search rules in rw answer (c.in_err-end_by.ensures.manager.1, λ who r carried. keeps_then link before read c.end_by.new.manager who r (keeps_same link before read (with_era before.seat.me.0 t.0) t.3 refl refl refl who r) (c.in_err-end_by.ensures.refused.1 who r) carried)

pub returns-in_err-end_by-clause-refused : goal.returns-in_err-end_by-clause-refused
returns-in_err-end_by-clause-refused g c = let answer : c.from_residual.result ≡ Err c.in_err-end_by.field-0.0 = search rules in rw answer λ who number carries.
    let before = c.args.manager.now in let p = phase_of c.args.call.now in let h = c.args.is_holding in let q = c.requires.caller in let id = c.carried_id-who in let has = c.turn_of in let x = c.in_err-end_by in
    let told = subst (λ (w : CallerId). TellsHands h (carried_seat w p before)) (same_id before.users c.args.caller q.0 who q.1 (subst (λ (k : ℕ). end_of before.users k ≡ Some q.0.end) q.1 q.2.user) number carries.user) q.3 in
    refused_as g.row.D.coded g.D.Desk.meaning id.result who before p has.result h x.field-0.0 (same_id before.users c.args.caller id.result who id.ensures.0 id.ensures.1 number carries.user) has.ensures told x.ensures.refused.0

pub returns-in_err-end_by-clause-state : goal.returns-in_err-end_by-clause-state
returns-in_err-end_by-clause-state g c = λ m is.
    let coded = g.row.D.coded in let meaning = g.D.Desk.meaning in let s = c.learn_era in let before = c.args.manager.now in let me = before.seat.me in let q = c.requires.caller in let id = c.carried_id-who in let has = c.turn_of in let h = c.args.is_holding in
    let closed : m.era.is_live ≡ false = ap (λ (e : Era). e.is_live) (era_known coded meaning me s.new.manager.me s.result c.era_of-era.result m s.ensures.told s.ensures.found c.era_of-era.ensures is.known) ∙ c.if-era.false in
    let found : IsReclaimOf m id.result has.result h = reclaim_found coded meaning c.args.self.now before id.result q.0 (phase_of c.args.call.now) has.result s.result m h c.requires.manager q.2 (q.1 ∙ sym id.ensures.0)
    (ap (end_of before.users) id.ensures.0 ∙ id.ensures.1) has.ensures s.ensures.found is closed q.3 in
    let x = c.in_err-end_by in let met = x.ensures.met m (known_learned coded me s.new.manager.me s.result m s.ensures.told is.known) closed in let answer : c.from_residual.result ≡ Err x.field-0.0 = search rules in rw answer (
      subst (λ (k : ℕ). link_reclaim_refusal (link_of (ring_form meaning) m) k ≡ Some x.field-0.0) id.ensures.0 (refused_by meaning m id.result has.result h found coded x.field-0.0 x.ensures.refused.0 met.0),
      record { known = met.1; users = x.ensures.manager.1 ∙ is.users },
    )
