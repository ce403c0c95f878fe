-- Who is in a call, in the state that the manager knows, is whose call is carried.
use Rattle.std.proofs.Common.{◌≡◌, Option, None, sym, ap, ◌∙◌}
use Rattle.std.proofs.lemmas.Bool.{ltb-false}
use Rattle.std.specs.Option.{is_some}
use Rattle.lane_model.specs.Conditions.{is_calling}
use Rattle.managed_link.specs.declared.call_slots.CarriedCall.{CarriedCall}
use Rattle.managed_link.specs.Known.{LinkRings, lists_of}
use Rattle.managed_link.specs.Managed.{call_of}
use Rattle.managed_link.proofs.Calling.{call_read, calling_is, none_read}
use Rattle.managed_link.proofs.links.ManagedLink.is_calling.Goals as goal
use Rattle.managed_link.proofs.links.ManagedLink.is_calling.Goals.{After-get}

-- whether a caller is in a call, where this is read at its number
is_in : (c : After-get) (read : Option CarriedCall) → call_of c.self.inside.calls.items c.args.caller ≡ read → is_some read ≡ is_calling (lists_of c.args.self.now) c.args.caller
is_in c read found =
    let s = c.self.inside in
    sym (ap is_some found) ∙ (sym (calling_is s.shared s.manager s.calls.items s.host s.remote s.known.0 c.args.caller c.self.invariant.0) ∙ ap (λ (x : LinkRings). is_calling (lists_of x) c.args.caller) c.self.view_is)

pub returns-in-Some : goal.returns-in-Some
returns-in-Some c =
    let looked = c.in-Some.ensures.lookup.3 in
    c.is_used.ensures ∙ is_in (goal.at.returns-in-Some c).After-get _ (call_read _ _ c.args.caller _ _ c.deref.ensures.value c.from.ensures looked.0 (looked.1 _))

pub returns-in-None : goal.returns-in-None
returns-in-None c = is_in (goal.at.returns-in-None c).After-get None (none_read _ _ c.args.caller _ c.deref.ensures.value c.from.ensures (ltb-false _ _ (sym c.in-None.ensures.lookup.0)))
