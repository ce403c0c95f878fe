use Rattle.std.proofs.Common.{sym, subst}
use Rattle.rp_base.specs.declared.kinds.End.TheVariants as side
use Rattle.lane_model.specs.declared.calls.Progress.{Progress}
use Rattle.split_ring.specs.declared.callers.CallerId.{CallerId}
use Rattle.split_ring.specs.CallPhases as phase
use Rattle.split_ring.specs.Carried.{CarriesOn}
use Rattle.link_threads.proofs.carried.passes_message.Goals as goal

pub advance_by-requires-clause-call : goal.advance_by-requires-clause-call
advance_by-requires-clause-call c =
    let who : CallerId = record { number = c.in-Some-enlist.receiver; end = side.Host; follows = 1 } in
    let may = c.begin_call-take.ensures.carried c.enlist-2.new.manager who ((c.in-Some-enlist.ensures.carried 1).0, tt) in (side.Host, may.0, may.1)

pub finish-sent-requires-clause-call : goal.finish-sent-requires-clause-call
finish-sent-requires-clause-call c =
    let who : CallerId = record { number = c.in-Some.sender; end = side.Remote; follows = 1 } in
    let may = c.begin_call-send.ensures.carried c.enlist-2.new.manager who ((c.enlist-2.ensures.others who phase.Ended (c.in-Some.ensures.carried 1).0).0, tt) in
    (side.Remote, (c.advance_by.ensures.others who c.begin_call-send.result.phase c.if-sender-receiver.false may.0).0, may.1)

pub finish-taken-requires-clause-call : goal.finish-taken-requires-clause-call
finish-taken-requires-clause-call c =
    let who : CallerId = record { number = c.in-Some-enlist.receiver; end = side.Host; follows = 1 } in let idle = (c.in-Some-enlist.ensures.carried 1).0 in
    let on = subst (λ (said : Progress). CarriesOn c.args.link.now c.advance_by.new.manager who c.advance_by.new.call.phase said) c.in-At.is (c.advance_by.ensures.call side.Host idle.user) in
    (side.Host, c.finish-sent.ensures.others who c.advance_by.new.call.phase (λ same. c.if-sender-receiver.false (sym same)) on.0, on.1)
