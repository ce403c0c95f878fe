-- A caller in no call has its buffers here.
use Rattle.std.proofs.Common.{◌≡◌, ◌<◌, Option, Some, None, Vec, length, arith, sym, ap, subst, ◌∙◌}
use Rattle.std.specs.Option.{option_copied}
use Rattle.std.specs.declared.alloc.Global.{Global}
use Rattle.rp_base.specs.declared.kinds.End.{End}
use Rattle.rp_base.specs.declared.kinds.End.TheVariants as side
use Rattle.lane_model.specs.Conditions.{is_calling}
use Rattle.lane_model.specs.Links.{end_of}
use Rattle.managed_link.specs.declared.hands.Hand.{Hand}
use Rattle.managed_link.specs.Hands.{IsHandAt}
use Rattle.managed_link.specs.Known.{LinkRings, lists_of}
use Rattle.managed_link.specs.Managed.{AreHandsOf, call_of, message_for}
use Rattle.managed_link.proofs.Calling.{rests_in}
use Rattle.managed_link.proofs.HandLists.{hand_read}
use Rattle.managed_link.proofs.HeldMessages.{message_is, message_on, never_out}
use Rattle.managed_link.proofs.ListParts.{place_within}
use Rattle.managed_link.proofs.links.ManagedLink.held_message.Goals as goal
use Rattle.managed_link.proofs.links.ManagedLink.held_message.Goals.{After-index, Joined-end_of-2, in-Some-Host, in-Some-Remote}

-- these are the buffers of the caller's end
of_end : (c : Joined-end_of-2) → (end : End) × (end_of c.args.self.now.callers c.args.caller ≡ Some end) × AreHandsOf c.self.inside.known.0 end c.self.inside.calls.items c.match-end_of-2.hands.now
of_end c = let s = c.self.inside in elim c.match-end_of-2.branch [
  | in-Some-Host w ↦ (side.Host, (cc), subst (λ (hands : Vec Hand Global). AreHandsOf s.known.0 side.Host s.calls.items hands) (sym (ap (λ hands. hands.now) w.hands-is)) c.self.invariant.0.to_host)
  | in-Some-Remote w ↦ (side.Remote, (cc), subst (λ (hands : Vec Hand Global). AreHandsOf s.known.0 side.Remote s.calls.items hands) (sym (ap (λ hands. hands.now) w.hands-is)) c.self.invariant.0.to_remote)
]

rests : (c : After-index) → call_of c.self.inside.calls.items c.args.caller ≡ None
rests c = let s = c.self.inside in
    rests_in s.shared s.manager s.calls.items s.host s.remote s.known.0 c.args.caller c.self.invariant.0 (ap (λ (x : LinkRings). is_calling (lists_of x) c.args.caller) c.self.view_is ∙ c.requires.rests)

read_at : (c : After-index) → IsHandAt c.match-end_of-2.hands.now.items c.args.number c.args.caller c.place_of.result c.index.result.now
read_at c = hand_read _ _ c.args.number c.args.caller _ _ c.deref.ensures.value c.place_of.ensures c.index.ensures

pub index-requires : goal.index-requires
index-requires c = let within : c.place_of.result < length c.deref.result.now = place_within _ _ _ c.place_of.ensures.1.here in omega arith

pub unreachable-requires-in-None-place : goal.unreachable-requires-in-None-place
unreachable-requires-in-None-place c =
    let read = (goal.at.unreachable-requires-in-None-place c).After-index in let of = of_end (goal.at.unreachable-requires-in-None-place c).Joined-end_of-2 in
    never_out c.self.inside.known.0 of.0 c.self.inside.calls.items _ of.2 c.args.number c.args.caller _ _ (read_at read) (rests read) (sym c.place.ensures ∙ ap option_copied c.in-None-place.is)

pub returns-clause-message : goal.returns-clause-message
returns-clause-message c =
    let read = (goal.at.returns-clause-message c).After-index in let of = of_end (goal.at.returns-clause-message c).Joined-end_of-2 in let m = c.self.inside.known.0 in
    let here = sym c.place.ensures ∙ ap option_copied c.in-Some.is in
    c.bytes.ensures.bytes ∙ (c.message.ensures ∙ (message_is m of.0 c.self.inside.calls.items _ of.2 c.args.number c.args.caller _ _ (read_at read) (rests read) c.in-Some.held.now here
    ∙ (message_on m of.0 c.args.number ∙ (ap (λ (x : LinkRings). message_for (lists_of x) (Some of.0) c.args.number) c.self.view_is
    ∙ ap (λ (end : Option End). message_for (lists_of c.args.self.now) end c.args.number) (sym of.1)))))
