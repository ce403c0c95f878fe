use Rattle.std.proofs.Common.{◌≡◌, ◌<◌, ◌++◌, ◌∷◌, [], ℕ, List, length, get_or, ap, ap₂, sym, subst, ◌∙◌, arith, rules}
use Rattle.std.proofs.lemmas.List.{get_or_read}
use Rattle.lane_model.specs.declared.states.LaneState.{LaneState}
use Rattle.lane_model.specs.Receives.{with_handed}
use Rattle.lane_model.specs.AtOnce.{TakesAtOnce, after_take}
use Rattle.vring_layout.specs.declared.words.UsedWord.{UsedWord}
use Rattle.ring_core.specs.declared.states.Hand.{Hand}
use Rattle.ring_core.specs.declared.states.Rings.{Rings}
use Rattle.ring_core.specs.declared.states.RingState.{RingState}
use Rattle.ring_core.specs.Rings.{buffer_at}
use Rattle.ring_core.specs.RingSteps.{ring_form}
use Rattle.ring_core.specs.RingLanes.{state_of}
use Rattle.ring_core.proofs.Inside.{inside_after}
use Rattle.ring_core.proofs.AtOnce.{ring_taken, after_take_sound, next_is}
use Rattle.ring_core.proofs.ring_lanes.RingLaneLaneForm.take_at_once.Goals as goal

pub index-requires : goal.index-requires
index-requires g c =
    let old = state_of c.self.inside in
    let may : TakesAtOnce old.lane = c.if-not-takes_at_once.ensures.may in
    let next = next_is old c.self.invariant.sound may in
    let buffer : c.buffer_at-buffer.result ≡ buffer_at old.rings.sizes.entries old.rings.forward (length old.lane.lane.takers) =
    c.buffer_at-buffer.ensures ∙ ap₂ (λ (f : List UsedWord) (n : ℕ). buffer_at old.rings.sizes.entries f n) c.deref.ensures.value c.handed-number.ensures in
    let within : c.buffer_at-buffer.result < length c.self.inside.buffers.items = omega (arith, buffer, next.within) in
    search rules

pub hand_at_once-requires-clause-found : goal.hand_at_once-requires-clause-found
hand_at_once-requires-clause-found g c =
    let old = state_of c.self.inside in
    let may : TakesAtOnce old.lane = c.if-not-takes_at_once.ensures.may in
    let next = next_is old c.self.invariant.sound may in
    let buffer : c.buffer_at-buffer.result ≡ buffer_at old.rings.sizes.entries old.rings.forward (length old.lane.lane.takers) =
    c.buffer_at-buffer.ensures ∙ ap₂ (λ (f : List UsedWord) (n : ℕ). buffer_at old.rings.sizes.entries f n) c.deref.ensures.value c.handed-number.ensures in
    let within : c.buffer_at-buffer.result < length old.rings.buffers = subst (λ n. n < length old.rings.buffers) (sym buffer) next.within in
    get_or_read old.rings.buffers c.buffer_at-buffer.result c.index.result.now within c.index.ensures [] ∙ ap (λ n. get_or old.rings.buffers n []) buffer ∙ next.message

pub invariant_of-self : goal.invariant_of-self
invariant_of-self g c =
    let old = state_of c.self.inside in
    let rings = old.rings in
    let handed = length old.lane.lane.takers in
    let may : TakesAtOnce old.lane = c.if-not-takes_at_once.ensures.may in
    let next = next_is old c.self.invariant.sound may in
    let buffer : c.buffer_at-buffer.result ≡ buffer_at rings.sizes.entries rings.forward handed =
    c.buffer_at-buffer.ensures ∙ ap₂ (λ (f : List UsedWord) (n : ℕ). buffer_at rings.sizes.entries f n) c.deref.ensures.value c.handed-number.ensures in
    let within : c.buffer_at-buffer.result < length rings.buffers = subst (λ n. n < length rings.buffers) (sym buffer) next.within in
    let found = get_or_read rings.buffers c.buffer_at-buffer.result c.index.result.now within c.index.ensures [] ∙ ap (λ n. get_or rings.buffers n []) buffer ∙ next.message in
    let lane = c.hand_at_once.ensures.left ∙ ap (λ (m : List ℕ). record old.lane {
      lane = with_handed old.lane.lane c.args.caller;
      desk = g.D.Desk.meaning.delivered old.lane.desk handed m;
    }) found in
    let hand : ℕ → ℕ → List Hand = λ n b. rings.hands ++ record { number = n; caller = c.args.caller; buffer = b } ∷ [] in
    let made : ℕ → List Hand → Rings = λ b h. record rings { taking = b; hands = h } in
    let left = ap (made c.buffer_at-buffer.result) (c.push_reserved.ensures.items ∙ ap (λ n. hand n c.buffer_at-buffer.result) c.handed-number.ensures) ∙ ap (λ (b : ℕ). made b (hand handed b)) buffer in
    inside_after _ _ _ c.self.invariant
    (ap₂ (λ (x : LaneState g.row.D.Denot) (y : Rings). record { lane = x; rings = y }) lane left ∙ ring_taken _ g.D.Desk.meaning old c.args._era c.args.caller may c.requires.live)
    (after_take_sound g.D.Desk.meaning old c.args._era c.args.caller c.self.invariant.sound) (omega (arith, c.push_reserved.ensures.capacity)) (omega arith)

pub returns-clause-left : goal.returns-clause-left
returns-clause-left g c =
    let old = state_of c.self.inside in
    let rings = old.rings in
    let handed = length old.lane.lane.takers in
    let may : TakesAtOnce old.lane = c.if-not-takes_at_once.ensures.may in
    let next = next_is old c.self.invariant.sound may in
    let buffer : c.buffer_at-buffer.result ≡ buffer_at rings.sizes.entries rings.forward handed =
    c.buffer_at-buffer.ensures ∙ ap₂ (λ (f : List UsedWord) (n : ℕ). buffer_at rings.sizes.entries f n) c.deref.ensures.value c.handed-number.ensures in
    let within : c.buffer_at-buffer.result < length rings.buffers = subst (λ n. n < length rings.buffers) (sym buffer) next.within in
    let found = get_or_read rings.buffers c.buffer_at-buffer.result c.index.result.now within c.index.ensures [] ∙ ap (λ n. get_or rings.buffers n []) buffer ∙ next.message in
    let lane = c.hand_at_once.ensures.left ∙ ap (λ (m : List ℕ). record old.lane {
      lane = with_handed old.lane.lane c.args.caller;
      desk = g.D.Desk.meaning.delivered old.lane.desk handed m;
    }) found in
    let hand : ℕ → ℕ → List Hand = λ n b. rings.hands ++ record { number = n; caller = c.args.caller; buffer = b } ∷ [] in
    let made : ℕ → List Hand → Rings = λ b h. record rings { taking = b; hands = h } in
    let left = ap (made c.buffer_at-buffer.result) (c.push_reserved.ensures.items ∙ ap (λ n. hand n c.buffer_at-buffer.result) c.handed-number.ensures) ∙ ap (λ (b : ℕ). made b (hand handed b)) buffer in
    ap₂ (λ (x : LaneState g.row.D.Denot) (y : Rings). record { lane = x; rings = y }) lane left ∙ ring_taken _ g.D.Desk.meaning old c.args._era c.args.caller may c.requires.live
    ∙ ap (λ (s : RingState g.row.D.Denot). after_take (ring_form g.D.Desk.meaning) s c.args._era c.args.caller) c.self.view_is
