use Rattle.std.proofs.Common.{◌≡◌, ◌∷◌, false, refl, sym, ap, ◌∙◌}
use Rattle.std.specs.Prelude.{Some}
use Rattle.rp_base.specs.declared.kinds.End.{End}
use Rattle.rp_base.specs.declared.kinds.End.TheVariants as side
use Rattle.link_words.specs.Parts.{has_for_manager}
use Rattle.link_words.specs.declared.rule.Call.TheVariants.{Gathers}
use Rattle.link_words.specs.declared.rule.LinkSizes.{LinkSizes}
use Rattle.link_words.specs.declared.rule.Slot.TheVariants.{Empty}
use Rattle.link_words.specs.PlacedDesks.{table_at}
use Rattle.link_words.specs.Sides.{no_sides}
use Rattle.link_words.specs.Words.{receiver_slot}
use Rattle.split_ring.specs.declared.callers.Manager.{Manager}
use Rattle.split_ring.proofs.CarriedMakes.{carrier_copied, keeps_copied, met_same}
use Rattle.split_ring.proofs.ManagerSteps.{desk_known, receiver_held, receiver_left, rests_with, right_table, right_taken, state_again, still_resting, turn_free, turn_held}
use Rattle.split_ring.proofs.Reopening.{manager_calls}
use Rattle.split_ring.proofs.links.SharedLink.desk_by.Goals as goal

pub look_in-seen-requires-clause-right : goal.look_in-seen-requires-clause-right
look_in-seen-requires-clause-right g c =
    let q = c.requires.manager in let me = c.args.manager.now.seat.me in let me1 = c.take_receiver.new.seat.me in let e = c.args.end in let none = rests_with me q.rests in let x = c.in-Ok.side in
    right_table g.row.D.coded g.D.Desk.meaning me.0 e x no_sides no_sides me.1 ((receiver_slot e, Empty) ∷ me.1) me me1 none (c.in-Ok.ensures.taken me.0 no_sides no_sides me.1 none) c.in-Ok.ensures.step
    ∙ ap (λ (z : LinkSizes). table_at z.desks x.desk.end) q.told

pub put_receiver-requires-clause-manager : goal.put_receiver-requires-clause-manager
put_receiver-requires-clause-manager g c =
    let q = c.requires.manager in let me = c.args.manager.now.seat.me in let e = c.args.end in
    let h = receiver_held e c.in-Ok.side me.1 me c.take_receiver.new.seat.me me.0 (rests_with me q.rests) c.in-Ok.ensures.taken in
    (h.0, h.1, h.2, h.3, h.4, h.5 ∙ ap Some (sym c.look_in-seen.ensures.same))

pub returns-in-Ok-clause-manager : goal.returns-in-Ok-clause-manager
returns-in-Ok-clause-manager g c =
    let q = c.requires.manager in let me = c.args.manager.now.seat.me in let me2 = c.put_receiver.new.seat.me in
    let left = receiver_left c.args.end c.in-Ok.side me.1 me c.take_receiver.new.seat.me me2 me.0 (rests_with me q.rests) c.in-Ok.ensures.taken c.put_receiver.ensures.put in
    let after : Manager = record { seat = c.put_receiver.new.seat; users = c.args.manager.now.users; out = c.args.manager.now.out } in
    carrier_copied c.args.self.now c.args.manager.now after (still_resting me me2 q.rests left) refl refl c.put_receiver.ensures.seat.at_table c.put_receiver.ensures.order q

pub returns-in-Ok-clause-others : goal.returns-in-Ok-clause-others
returns-in-Ok-clause-others g c =
    let q = c.requires.manager in let me = c.args.manager.now.seat.me in let me2 = c.put_receiver.new.seat.me in
    let left = receiver_left c.args.end c.in-Ok.side me.1 me c.take_receiver.new.seat.me me2 me.0 (rests_with me q.rests) c.in-Ok.ensures.taken c.put_receiver.ensures.put in
    let after : Manager = record { seat = c.put_receiver.new.seat; users = c.args.manager.now.users; out = c.args.manager.now.out } in
    keeps_copied c.args.self.now c.args.manager.now after (still_resting me me2 q.rests left) refl refl

pub returns-in-Err-clause-manager : goal.returns-in-Err-clause-manager
returns-in-Err-clause-manager g c =
    let q = c.requires.manager in let me = c.args.manager.now.seat.me in let after : Manager = record { seat = c.take_receiver.new.seat; users = c.args.manager.now.users; out = c.args.manager.now.out } in
    carrier_copied c.args.self.now c.args.manager.now after (met_same me c.take_receiver.new.seat.me c.in-Err.ensures.met.0) refl refl c.take_receiver.ensures.seat.at_table c.take_receiver.ensures.order q

pub returns-in-Err-clause-others : goal.returns-in-Err-clause-others
returns-in-Err-clause-others g c =
    let me = c.args.manager.now.seat.me in let after : Manager = record { seat = c.take_receiver.new.seat; users = c.args.manager.now.users; out = c.args.manager.now.out } in
    keeps_copied c.args.self.now c.args.manager.now after (met_same me c.take_receiver.new.seat.me c.in-Err.ensures.met.0) refl refl

pub returns-in-Ok-clause-state : goal.returns-in-Ok-clause-state
returns-in-Ok-clause-state g c = λ m is.
    let q = c.requires.manager in let me = c.args.manager.now.seat.me in record {
      known = state_again g.row.D.coded g.D.Desk.meaning c.args.end c.in-Ok.side me.1 me c.take_receiver.new.seat.me c.put_receiver.new.seat.me m (rests_with me q.rests) c.in-Ok.ensures.taken c.put_receiver.ensures.put c.in-Ok.ensures.step c.put_receiver.ensures.step is.known;
      users = is.users;
    }

pub returns-in-Ok-clause-seen : goal.returns-in-Ok-clause-seen
returns-in-Ok-clause-seen g c = λ m is.
    let q = c.requires.manager in let me = c.args.manager.now.seat.me in let me1 = c.take_receiver.new.seat.me in let e = c.args.end in let x = c.in-Ok.side in let none = rests_with me q.rests in
    let right = right_taken g.row.D.coded g.D.Desk.meaning me.0 e x no_sides no_sides me.1 ((receiver_slot e, Empty) ∷ me.1) me me1 none (c.in-Ok.ensures.taken me.0 no_sides no_sides me.1 none) c.in-Ok.ensures.step in (
      turn_free g.row.D.coded g.D.Desk.meaning me me1 e m c.in-Ok.ensures.step is.known,
      c.look_in-seen.ensures.seen _ (desk_known g.row.D.coded g.D.Desk.meaning me me1 e x m c.in-Ok.ensures.step right is.known),
    )

pub returns-in-Err-clause-busy : goal.returns-in-Err-clause-busy
returns-in-Err-clause-busy g c = λ m is. turn_held g.row.D.coded g.D.Desk.meaning c.args.manager.now.seat.me c.args.end c.in-Err.holder m c.in-Err.ensures.met.1 is.known

pub returns-in-Err-clause-holder : goal.returns-in-Err-clause-holder
returns-in-Err-clause-holder g c = let q = c.requires.manager in let me = c.args.manager.now.seat.me in
    c.in-Err.ensures.holder (ap (has_for_manager c.args.end) (manager_calls me.0 (Gathers no_sides no_sides) me.1 me (rests_with me q.rests)) ∙ none_there c.args.end)
  where
    none_there : (e : End) → has_for_manager e (Gathers no_sides no_sides) ≡ false
    none_there side.Host = refl
    none_there side.Remote = refl
