use Rattle.std.proofs.Common.{false, sym, ap, ◌∙◌}
use Rattle.std.specs.Option.{option_copied}
use Rattle.split_ring.specs.declared.calls.RingCall.{RingCall}
use Rattle.split_ring.specs.Reclaims.{has_buffer, phase_of}
use Rattle.std.specs.Prelude.{Option}
use Rattle.split_ring.proofs.PartSteps.{told_call, told_held}
use Rattle.split_ring.proofs.reclaims.is_holding.Goals as goal

pub returns-in-Some-default : goal.returns-in-Some-default
returns-in-Some-default g c = λ who me theirs all own. let found = c.in-Some-default in
    told_held who (phase_of c.args.call.now) c.args.held.now me theirs found.field-0-0.now (ap option_copied (sym found.is-0) ∙ c.first.ensures.value)

pub returns-in-None-Some : goal.returns-in-None-Some
returns-in-None-Some g c = λ who me theirs all own. let found = c.in-None-Some in
    told_call who (phase_of c.args.call.now) c.args.held.now me all own (ap option_copied (sym found.is-0) ∙ c.first.ensures.value) c.has_buffer.result (c.has_buffer.ensures ∙ ap (λ (call : Option (RingCall _)). has_buffer (phase_of call)) (sym found.is-1))

pub returns-in-None-None : goal.returns-in-None-None
returns-in-None-None g c = λ who me theirs all own. let found = c.in-None-None in
    told_call who (phase_of c.args.call.now) c.args.held.now me all own (ap option_copied (sym found.is-0) ∙ c.first.ensures.value) false (ap (λ (call : Option (RingCall _)). has_buffer (phase_of call)) (sym found.is-1))
