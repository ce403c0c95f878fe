use Rattle.std.proofs.Common.{◌∷◌, ◌∙◌, ap, inl, inr, subst, sym}
use Rattle.std.specs.Prelude.{Some}
use Rattle.link_words.specs.declared.rule.Call.TheVariants.{Gathers}
use Rattle.link_words.specs.Calls.{SeatState}
use Rattle.link_words.specs.Words.{sender_slot}
use Rattle.split_ring.specs.Gathers.{IsCalling, TakesSide}
use Rattle.link_words.specs.Parts.{has_for_manager, has_sender_for_manager}
use Rattle.link_words.specs.Reopens.{gathered}
use Rattle.link_words.specs.declared.rule.Slot.TheVariants.{Empty}
use Rattle.split_ring.proofs.Reopening.{manager_calls}
use Rattle.split_ring.proofs.Gathering.{no_receiver, no_sender, holder_by, in_use_by, users_by, may_gather, may_gather_at, takes_both, as_before, sender_held}
use Rattle.split_ring.proofs.StateSteps.{meets_receiver, meets_sender, takes_lane}
use Rattle.split_ring.proofs.links.SharedLink.take_lane.Goals as goal

pub take_sender-requires-clause-manager : goal.take_sender-requires-clause-manager
take_sender-requires-clause-manager g c = let q = c.requires.manager in may_gather q.0 q.1 q.2 q.3 c.args.seat.now.me q.4

pub take_receiver-requires-clause-manager : goal.take_receiver-requires-clause-manager
take_receiver-requires-clause-manager g c = let q = c.requires.manager in
    may_gather_at c.args.lane (λ s. record s { sender = Some c.in-Ok.side }) q.0 q.1 q.2 ((sender_slot c.args.lane, _) ∷ q.3) c.take_sender.new.seat.me (c.in-Ok.ensures.taken q.0 q.1 q.2 q.3 q.4)

pub put_sender-requires-clause-manager : goal.put_sender-requires-clause-manager
put_sender-requires-clause-manager g c = let q = c.requires.manager in let lane = c.args.lane in let me = c.args.seat.now.me in
    sender_held lane c.in-Ok.side me c.take_receiver.new.seat.me q.0 q.1 q.2 q.3 q.4
    (subst (λ (s : SeatState). TakesSide lane (λ w. record w { sender = Some c.in-Ok.side }) (sender_slot lane) me s) (sym c.in-Err-take_receiver.ensures.met.0) c.in-Ok.ensures.taken)

pub returns-in-Err-clause-met : goal.returns-in-Err-clause-met
returns-in-Err-clause-met g c = let met = c.in-Err.ensures.met in
    ((λ v a b slots none was. subst (IsCalling v (Gathers a b) slots) (sym met.0) was), inl met.1)

pub returns-in-Ok-take_receiver-clause-taken : goal.returns-in-Ok-take_receiver-clause-taken
returns-in-Ok-take_receiver-clause-taken g c = takes_both c.args.lane c.in-Ok.side c.in-Ok-take_receiver.receiver c.args.seat.now.me c.take_sender.new.seat.me c.take_receiver.new.seat.me c.in-Ok.ensures.taken c.in-Ok-take_receiver.ensures.taken

pub returns-in-Err-take_receiver-clause-met : goal.returns-in-Err-take_receiver-clause-met
returns-in-Err-take_receiver-clause-met g c = let met = c.in-Err-take_receiver.ensures.met in let lane = c.args.lane in let me = c.args.seat.now.me in
    let taken = c.in-Ok.ensures.taken in let still = subst (λ (s : SeatState). TakesSide lane (λ w. record w { sender = Some c.in-Ok.side }) (sender_slot lane) me s) (sym met.0) taken in
    (as_before lane c.in-Ok.side me c.take_receiver.new.seat.me c.put_sender.new.seat.me still c.put_sender.ensures.put, inr (c.take_sender.new.seat.me, c.in-Ok.side, taken, met.1))

pub returns-in-Ok-take_receiver-clause-users : goal.returns-in-Ok-take_receiver-clause-users
returns-in-Ok-take_receiver-clause-users g c = let q = c.requires.manager in
    in_use_by c.args.seat.now.me.0 c.take_sender.new.seat.me.0 c.args.lane c.in-Ok-take_receiver.receiver.hands
    (users_by c.args.seat.now.me c.take_sender.new.seat.me q.4 (c.in-Ok.ensures.taken q.0 q.1 q.2 q.3 q.4)) c.in-Ok-take_receiver.ensures.users

pub returns-in-Err-clause-holder : goal.returns-in-Err-clause-holder
returns-in-Err-clause-holder g c = let q = c.requires.manager in let me = c.args.seat.now.me in let call = Gathers q.1 q.2 in
    c.in-Err.ensures.holder (ap (has_sender_for_manager c.args.lane) (manager_calls q.0 call q.3 me q.4) ∙ no_sender c.args.lane q.1 q.2 q.5)

pub returns-in-Err-take_receiver-clause-holder : goal.returns-in-Err-take_receiver-clause-holder
returns-in-Err-take_receiver-clause-holder g c = let q = c.requires.manager in let lane = c.args.lane in let me1 = c.take_sender.new.seat.me in let call = gathered lane (λ s. record s { sender = Some c.in-Ok.side }) q.1 q.2 in
    let taken : IsCalling q.0 call ((sender_slot lane, Empty) ∷ q.3) me1 = c.in-Ok.ensures.taken q.0 q.1 q.2 q.3 q.4 in
    holder_by c.args.seat.now.me.0 me1.0 c.in-Err-take_receiver.holder (users_by c.args.seat.now.me me1 q.4 taken)
    (c.in-Err-take_receiver.ensures.holder (ap (has_for_manager lane) (manager_calls q.0 call ((sender_slot lane, Empty) ∷ q.3) me1 taken) ∙ no_receiver lane c.in-Ok.side q.1 q.2 q.5))

pub returns-in-Ok-take_receiver-clause-known : goal.returns-in-Ok-take_receiver-clause-known
returns-in-Ok-take_receiver-clause-known g c = λ m knows. let q = c.requires.manager in
    takes_lane g.row.D.coded g.D.Desk.meaning c.args.lane c.in-Ok.side c.in-Ok-take_receiver.receiver q.0 q.1 q.2 q.3 c.args.seat.now.me c.take_sender.new.seat.me c.take_receiver.new.seat.me m q.4
    c.in-Ok.ensures.taken c.in-Ok.ensures.step c.in-Ok-take_receiver.ensures.taken c.in-Ok-take_receiver.ensures.step knows

pub returns-in-Err-clause-refused : goal.returns-in-Err-clause-refused
returns-in-Err-clause-refused g c = λ m knows. let met = c.in-Err.ensures.met in
    meets_sender g.row.D.coded g.D.Desk.meaning c.args.lane c.in-Err.holder c.args.seat.now.me c.take_sender.new.seat.me m met.0 met.1 knows

pub returns-in-Err-take_receiver-clause-refused : goal.returns-in-Err-take_receiver-clause-refused
returns-in-Err-take_receiver-clause-refused g c = λ m knows. let q = c.requires.manager in let met = c.in-Err-take_receiver.ensures.met in
    meets_receiver g.row.D.coded g.D.Desk.meaning c.args.lane c.in-Ok.side c.in-Err-take_receiver.holder q.0 q.1 q.2 q.3 c.args.seat.now.me c.take_sender.new.seat.me c.take_receiver.new.seat.me c.put_sender.new.seat.me m q.4
    c.in-Ok.ensures.taken c.in-Ok.ensures.step met.0 met.1 c.put_sender.ensures.put c.put_sender.ensures.step knows
