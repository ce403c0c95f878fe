-- The call and the hands of the caller are told to the manager, which ends it; the link is that behind a reclaim then.
use Rattle.std.proofs.Common.{◌≡◌, slice_set, sym, ap, ◌∙◌}
use Rattle.std.specs.Option.{option_map}
use Rattle.rp_base.specs.declared.kinds.End.TheVariants as side
use Rattle.lane_model.specs.Crashes.{has_held}
use Rattle.lane_model.specs.Recoveries.{link_after_reclaim, link_reclaim_refusal}
use Rattle.link_words.specs.Words.{lane_to}
use Rattle.managed_link.specs.declared.call_slots.CarriedCall.{CarriedCall}
use Rattle.managed_link.specs.Known.{LinkRings, lists_of, on_rings}
use Rattle.managed_link.specs.Managed.{IsManaged, ShowsViews}
use Rattle.managed_link.proofs.EndedCallers.{call_at, has_ended, holding_at, managed_host, managed_remote, may_retire, shows_host, shows_remote, state_ended}
use Rattle.managed_link.proofs.KnownStates.{at_known, state_behind}
use Rattle.managed_link.proofs.links.ManagedLink.end_caller.Goals.{in-Host, in-None, in-Remote, in-Some-take}
use Rattle.managed_link.proofs.links.ManagedLink.end_caller.Goals as goal

pub retire_by-ended-requires-clause-caller : goal.retire_by-ended-requires-clause-caller
retire_by-ended-requires-clause-caller c =
    let s = c.self.inside in let m = s.known.0 in let managed = c.self.invariant.0 in let caller = c.args.caller in
    let call_is : c.match-take.call ≡ option_map (λ (x : CarriedCall). x.call) c.take.result = elim c.match-take.branch [
      | in-Some-take w ↦ w.call-is ∙ ap (option_map (λ (x : CarriedCall). x.call)) (sym w.in-Some-take.is)
      | in-None w ↦ w.call-is ∙ ap (option_map (λ (x : CarriedCall). x.call)) (sym w.in-None.is)
    ] in
    let holding_is : c.match-side.is_holding ≡ has_held (lane_to m c.in-Some.side).lane.lane.held caller = elim c.match-side.branch [
      | in-Host w ↦ holding_at m side.Host c.in-Some.side s.calls.items s.host w.deref.result.now caller c.match-side.is_holding w.in-Host.is managed.to_host w.deref.ensures.value (w.is_holding-is ∙ w.has_held-is_holding.ensures)
      | in-Remote w ↦ holding_at m side.Remote c.in-Some.side s.calls.items s.remote w.deref-in-Remote.result.now caller c.match-side.is_holding w.in-Remote.is managed.to_remote w.deref-in-Remote.ensures.value
          (w.is_holding-is ∙ w.has_held-is_holding-in-Remote.ensures)
    ] in
    let found_is = c.take.ensures.taken ∙ call_at s.calls.items caller c.from.result c.index_mut.result.now managed.slots c.in-Some.ensures.within c.from.ensures c.index_mut.ensures.value in
    may_retire s.shared s.manager s.calls.items s.host s.remote m caller c.in-Some.side c.take.result c.match-take.call c.match-side.is_holding managed c.in-Some.ensures.end found_is call_is holding_is

pub invariant_of-self : goal.invariant_of-self
invariant_of-self c =
    let s = c.self.inside in let m = s.known.0 in let managed = c.self.invariant.0 in let caller = c.args.caller in let after = c.retire_by-ended.new.manager in let drops = c.drop_hands.ensures in
    let calls = slice_set s.calls.items c.from.result c.take.new.self in
    let ended = has_ended s.shared s.manager after s.calls.items s.host s.remote m caller side.Host c.in-Some.side c.retire_by-ended.result managed c.in-Host-side.is c.in-Some.ensures.end c.in-Some.ensures.within
    (ap (λ (x : LinkRings). link_reclaim_refusal (lists_of x) caller) c.self.view_is ∙ c.requires) c.retire_by-ended.ensures.manager (c.retire_by-ended.ensures.state m managed.state) (λ who p. c.retire_by-ended.ensures.others who p) in
    at_known (λ (x : LinkRings). IsManaged s.shared after calls c.drop_hands.new.hands s.remote x × ShowsViews s.era c.free_receiver.new.self c.free_sender.new.self x) after (link_after_reclaim on_rings m caller) ended.state (
      managed_host m caller s.shared s.manager after s.calls.items s.host s.remote managed calls c.drop_hands.new.hands (λ i. slice_set s.calls.items (c.from.ensures i) (c.take.ensures.left i)) ended
          (record { listed = drops.listed; others = drops.others; room = drops.room }),
      shows_host m caller s.era s.to_host s.to_remote ended.low c.self.invariant.1 c.free_receiver.new.self c.free_sender.new.self ended.user c.free_receiver.ensures c.free_sender.ensures,
    ) _ (assumption)

pub returns-in-Host-side : goal.returns-in-Host-side
returns-in-Host-side c = let m = c.self.inside.known.0 in let caller = c.args.caller in let after = c.retire_by-ended.new.manager in
    let clear = ap (λ (x : LinkRings). link_reclaim_refusal (lists_of x) caller) c.self.view_is ∙ c.requires in
    record { whole = state_behind (λ x. link_after_reclaim on_rings x caller) after m c.args.self.now _ (state_ended m caller c.retire_by-ended.result after clear (c.retire_by-ended.ensures.state m c.self.invariant.0.state)) c.self.view_is (assumption) }

pub invariant_of-self-in-Remote-side : goal.invariant_of-self-in-Remote-side
invariant_of-self-in-Remote-side c =
    let s = c.self.inside in let m = s.known.0 in let managed = c.self.invariant.0 in let caller = c.args.caller in let after = c.retire_by-ended.new.manager in let drops = c.drop_hands-in-Remote-side.ensures in
    let calls = slice_set s.calls.items c.from.result c.take.new.self in let incoming = c.free_receiver-in-Remote-side in let outgoing = c.free_sender-in-Remote-side in
    let ended = has_ended s.shared s.manager after s.calls.items s.host s.remote m caller side.Remote c.in-Some.side c.retire_by-ended.result managed c.in-Remote-side.is c.in-Some.ensures.end c.in-Some.ensures.within
    (ap (λ (x : LinkRings). link_reclaim_refusal (lists_of x) caller) c.self.view_is ∙ c.requires) c.retire_by-ended.ensures.manager (c.retire_by-ended.ensures.state m managed.state) (λ who p. c.retire_by-ended.ensures.others who p) in
    at_known (λ (x : LinkRings). IsManaged s.shared after calls s.host c.drop_hands-in-Remote-side.new.hands x × ShowsViews s.era outgoing.new.self incoming.new.self x) after (link_after_reclaim on_rings m caller) ended.state (
      managed_remote m caller s.shared s.manager after s.calls.items s.host s.remote managed calls c.drop_hands-in-Remote-side.new.hands (λ i. slice_set s.calls.items (c.from.ensures i) (c.take.ensures.left i)) ended
          (record { listed = drops.listed; others = drops.others; room = drops.room }),
      shows_remote m caller s.era s.to_host s.to_remote ended.low c.self.invariant.1 incoming.new.self outgoing.new.self ended.user incoming.ensures outgoing.ensures,
    ) _ (assumption)

pub returns : goal.returns
returns c = let m = c.self.inside.known.0 in let caller = c.args.caller in let after = c.retire_by-ended.new.manager in
    let clear = ap (λ (x : LinkRings). link_reclaim_refusal (lists_of x) caller) c.self.view_is ∙ c.requires in
    record { whole = state_behind (λ x. link_after_reclaim on_rings x caller) after m c.args.self.now _ (state_ended m caller c.retire_by-ended.result after clear (c.retire_by-ended.ensures.state m c.self.invariant.0.state)) c.self.view_is (assumption) }
