use Rattle.std.proofs.Common.{refl, sym, ◌∙◌, subst}
use Rattle.lane_model.specs.declared.calls.Progress.{Progress}
use Rattle.link_words.specs.Calls.{SeatState}
use Rattle.split_ring.specs.Calls.{IsInPhase, Advances}
use Rattle.split_ring.specs.Focus.{seat_of}
use Rattle.split_ring.specs.CallPhases.{Phase}
use Rattle.split_ring.proofs.CallEnds.{advanced}
use Rattle.split_ring.proofs.CallSeen.{step_seen}
use Rattle.split_ring.proofs.Focusing.{alone_leaves, alone_same, alone_seat, both_alone, low_own}
use Rattle.split_ring.proofs.Phases.{phase_alone}
use Rattle.split_ring.proofs.links.SharedLink.advance_call.Goals as goal

pub step_on-step-requires-clause-seat : goal.step_on-step-requires-clause-seat
step_on-step-requires-clause-seat g c =
    let z = c.args.self.now.sizes in let who = c.args.caller.now.id in let a = c.args.caller.now.seat.me in
    alone_seat who.number c.args.self.now.table.shared.table_id z c.args.caller.now.seat.table_id a (low_own who.number c.requires.low) c.requires.seat (phase_alone who.number z who c.args.call.now.phase a c.requires.number c.requires.stands)

pub step_on-step-requires-clause-stands : goal.step_on-step-requires-clause-stands
step_on-step-requires-clause-stands g c =
    let z = c.args.self.now.sizes in let who = c.args.caller.now.id in let a = c.args.caller.now.seat.me in let p = c.args.call.now.phase in
    subst (λ (s : SeatState). IsInPhase z who p s) (sym (alone_same who.number a (phase_alone who.number z who p a c.requires.number c.requires.stands))) c.requires.stands

pub returns-clause-caller : goal.returns-clause-caller
returns-clause-caller g c =
    let coded = g.row.D.coded in let meaning = g.D.Desk.meaning in let z = c.args.self.now.sizes in let who = c.args.caller.now.id in let n = who.number in let s = c.step_on-step in let a = c.args.caller.now.seat.me in let b = s.new.seat.me in let p = c.args.call.now.phase in
    let said = c.progress_of.result in let next = c.progress_of.new.phase in let tells = c.progress_of.ensures in
    let alone = phase_alone n z who p a c.requires.number c.requires.stands in let alone' = alone_leaves n a b s.ensures.alone.leaves alone in
    let step = both_alone n a b (λ s t. Advances coded meaning z who p said next s t) alone alone'
    (subst (λ (t : Progress × Phase). Advances coded meaning z who p t.0 t.1 (seat_of n a) (seat_of n b)) (λ i. (sym tells.said i, sym tells.left i)) s.ensures.step) in (
      refl,
      advanced c.args.self.now (record { id = who; seat = s.new.seat }) (record { phase = next; marker = c.args.call.now.marker }) said
          (record { at_table = s.ensures.seat.at_table; told = s.ensures.seat.told }) (step.done.number ∙ c.requires.number) c.requires.low step.stands,
    )

pub returns-clause-step : goal.returns-clause-step
returns-clause-step g c =
    let coded = g.row.D.coded in let meaning = g.D.Desk.meaning in let z = c.args.self.now.sizes in let who = c.args.caller.now.id in let n = who.number in let s = c.step_on-step in let a = c.args.caller.now.seat.me in let b = s.new.seat.me in let p = c.args.call.now.phase in
    let said = c.progress_of.result in let next = c.progress_of.new.phase in let tells = c.progress_of.ensures in
    let alone = phase_alone n z who p a c.requires.number c.requires.stands in let alone' = alone_leaves n a b s.ensures.alone.leaves alone in
    let step = both_alone n a b (λ s t. Advances coded meaning z who p said next s t) alone alone'
    (subst (λ (t : Progress × Phase). Advances coded meaning z who p t.0 t.1 (seat_of n a) (seat_of n b)) (λ i. (sym tells.said i, sym tells.left i)) s.ensures.step) in
    step

pub returns-clause-seen : goal.returns-clause-seen
returns-clause-seen g c =
    let coded = g.row.D.coded in let meaning = g.D.Desk.meaning in let z = c.args.self.now.sizes in let who = c.args.caller.now.id in let n = who.number in let s = c.step_on-step in let a = c.args.caller.now.seat.me in let b = s.new.seat.me in let p = c.args.call.now.phase in
    let said = c.progress_of.result in let next = c.progress_of.new.phase in let tells = c.progress_of.ensures in
    let alone = phase_alone n z who p a c.requires.number c.requires.stands in let alone' = alone_leaves n a b s.ensures.alone.leaves alone in
    let step = both_alone n a b (λ s t. Advances coded meaning z who p said next s t) alone alone'
    (subst (λ (t : Progress × Phase). Advances coded meaning z who p t.0 t.1 (seat_of n a) (seat_of n b)) (λ i. (sym tells.said i, sym tells.left i)) s.ensures.step) in
    step_seen coded meaning z who p said next a b step
