use Rattle.std.proofs.Common.{◌∙◌, refl, ap, subst}
use Rattle.rp_base.specs.declared.kinds.End.TheVariants as side
use Rattle.lane_model.specs.declared.calls.Ask.TheVariants as ask
use Rattle.lane_model.specs.declared.calls.Progress.{Progress}
use Rattle.link_words.specs.declared.rule.Pass.{Pass}
use Rattle.split_ring.specs.declared.callers.CallerId.{CallerId}
use Rattle.split_ring.specs.Carried.{CarriesOn, carried_seat}
use Rattle.link_threads.proofs.Stops.{all_in_call, first_hands}
use Rattle.link_threads.proofs.stopped.reclaims_sender.Goals as goal

pub advance_by-requires-clause-call : goal.advance_by-requires-clause-call
advance_by-requires-clause-call c =
    let who : CallerId = record { number = c.in-Some.sender; end = side.Remote; follows = 1 } in
    let may = c.begin_call-send.ensures.carried c.enlist.new.manager who ((c.in-Some.ensures.carried 1).0, tt) in (side.Remote, may.0, may.1)

pub reclaim_by-gone-requires-clause-caller : goal.reclaim_by-gone-requires-clause-caller
reclaim_by-gone-requires-clause-caller c =
    let who : CallerId = record { number = c.in-Some.sender; end = side.Remote; follows = 1 } in let new = c.in-Some.ensures.carried 1 in
    let manager = c.advance_by.new.manager in let asked = c.begin_call-send.result.phase in let p = c.advance_by.new.call.phase in
    let on = subst (λ (said : Progress). CarriesOn c.args.link.now manager who p said) c.in-At.is (c.advance_by.ensures.call side.Remote new.0.user) in
    let start = carried_seat who asked c.enlist.new.manager in let step = c.advance_by.ensures.step side.Remote new.0.user in
    let hands = first_hands c.args.link.now.sizes who (ask.Send c.in-Some-of.message) tt asked p c.advance_by.result c.in-At.field-0 start (carried_seat who asked manager) c.begin_call-send.ensures.asked c.in-At.is new.1.1 step in
    let closed = c.close_by-closed.ensures.others who p on.0 in let refused = c.reopen-refused.ensures.others who p closed.0 in
    (who, refl, all_in_call c.args.link.now c.reopen-refused.new.manager who c.advance_by.new.call c.new.result.items c.new.ensures.items refused.0 (ap (λ (q : Pass). q.hands) (refused.1 ∙ closed.1) ∙ hands))
