use Rattle.std.proofs.Common.{◌≡◌, ℕ, List, [], ◌∷◌, ◌++◌, Option, None, ap, refl, sym, ◌∙◌}
use lib.ListN.{get_elem?}
use Rattle.lane_model.specs.declared.calls.CallEnd.{CallEnd}
use Rattle.lane_model.specs.declared.calls.CallEnd.TheVariants as end
use Rattle.lane_model.specs.declared.states.Holding.{Holding}
use Rattle.lane_model.specs.HeldBuffers.{HeldBuffer}
use Rattle.rp_base.specs.declared.kinds.Verdict.{Verdict}
use Rattle.managed_link.specs.declared.hands.Hand.{Hand}
use Rattle.managed_link.specs.declared.views.LaneView.{LaneView}
use Rattle.managed_link.specs.Hands.{AreSome}
use Rattle.managed_link.specs.Settles.{held_behind, incoming_view, outgoing_view, with_new_hand}
use Rattle.managed_link.proofs.settles.learn.Goals as goal

-- the same buffers are some of these
all_some : (before after : List Hand) → after ≡ before → AreSome before after
all_some before after same place hand here = (place, ap (λ (hands : List Hand). get_elem? hands place) (sym same) ∙ here)

-- an end by which nothing is known but what was
record LeavesAll (settled : CallEnd) : Type 0 where
  incoming : (view : LaneView) → view ≡ incoming_view settled view
  outgoing : (view : LaneView) → view ≡ outgoing_view settled view
  listed : (caller : ℕ) (held : List Holding) → held ≡ held_behind settled caller held
  hands : (caller : ℕ) (hands : List Hand) → hands ≡ with_new_hand settled caller hands

leaves_all : (settled : CallEnd) → ((number : ℕ) → settled ≡ end.Sent number → ⊥) → ((number : ℕ) (verdict : Verdict) → settled ≡ end.Took number verdict → ⊥) → ((number : ℕ) → settled ≡ end.Gave number → ⊥)
    → LeavesAll settled
leaves_all (end.Sent number) sent took gave = absurd (sent number refl)
leaves_all (end.Took number verdict) sent took gave = absurd (took number verdict refl)
leaves_all (end.Gave number) sent took gave = absurd (gave number refl)
leaves_all other sent took gave = record { incoming = λ _. refl; outgoing = λ _. refl; listed = λ _ _. refl; hands = λ _ _. refl }

-- the new one is not here yet
new_hand : (hands : List Hand) (caller number : ℕ) (held : Option HeldBuffer) → held ≡ None
    → hands ++ record { caller = caller; number = number; held = held } ∷ [] ≡ hands ++ record { caller = caller; number = number; held = None } ∷ []
new_hand hands caller number held none = ap (λ (h : Option HeldBuffer). hands ++ record { caller = caller; number = number; held = h } ∷ []) none

pub returns-in-Sent-clause-some : goal.returns-in-Sent-clause-some
returns-in-Sent-clause-some c =
    all_some (with_new_hand c.args.settled.now c.args.caller c.args.hands.now.items) c.args.hands.now.items
    (ap (λ (settled : CallEnd). with_new_hand settled c.args.caller c.args.hands.now.items) (sym c.in-Sent.is))

pub returns-in-Took-clause-some : goal.returns-in-Took-clause-some
returns-in-Took-clause-some c =
    all_some (with_new_hand c.args.settled.now c.args.caller c.args.hands.now.items) c.push_reserved.new.self.items
    (c.push_reserved.ensures.items ∙ (new_hand c.args.hands.now.items c.args.caller c.in-Took.number c.empty.result c.empty.ensures
    ∙ ap (λ (settled : CallEnd). with_new_hand settled c.args.caller c.args.hands.now.items) (sym c.in-Took.is)))

pub returns-in_default : goal.returns-in_default
returns-in_default c =
    let all = leaves_all c.args.settled.now c.in_default.not-Sent c.in_default.not-Took c.in_default.not-Gave in
    record {
      incoming = all.incoming c.args.incoming.now;
      outgoing = all.outgoing c.args.outgoing.now;
      listed = all.listed c.args.caller _;
      some = all_some (with_new_hand c.args.settled.now c.args.caller c.args.hands.now.items) c.args.hands.now.items (all.hands c.args.caller c.args.hands.now.items);
      room = refl;
    }
