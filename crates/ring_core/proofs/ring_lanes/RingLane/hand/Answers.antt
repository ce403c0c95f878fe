use Rattle.std.proofs.Common.{◌≡◌, ◌<◌, ℕ, List, [], ◌∷◌, ◌++◌, Some, length, ap, ◌∙◌, arith, rules}
use Rattle.std.proofs.lemmas.List.{get_or_read}
use Rattle.lane_model.specs.declared.stages.Turn.TheVariants as turn
use Rattle.lane_model.specs.declared.stages.Work.TheVariants as work
use Rattle.lane_model.specs.declared.stages.TakeStage.TheVariants as take_stage
use Rattle.lane_model.specs.Lanes.{holder}
use Rattle.ring_core.specs.declared.states.Hand.{Hand}
use Rattle.ring_core.specs.declared.states.RingState.{RingState}
use Rattle.ring_core.specs.RingSteps.{ring_form}
use Rattle.ring_core.specs.RingLanes.{state_of, work_of}
use Rattle.ring_core.proofs.Inside.{inside_after, handed_at, taking_at, taken_by_both, taken_with_work, follows_of, live_era, live_in_live}
use Rattle.ring_core.proofs.Sound.{received_on_sound}
use Rattle.ring_core.proofs.ring_lanes.RingLane.hand.Goals as goal

pub index-requires : goal.index-requires
index-requires g c =
    let old = state_of c.self.inside in
    let at : work_of old.lane.receiver ≡ Some (work.Take take_stage.Buffer) = ap (λ (s : RingState g.row.D.Denot). work_of s.lane.receiver) c.self.view_is ∙ c.requires.work in
    let taking = taking_at old c.self.invariant.sound at in
    let within : c.self.inside.taking < length c.self.inside.buffers.items = taking.within in
    search rules

pub hand-requires-clause-found : goal.hand-requires-clause-found
hand-requires-clause-found g c =
    let old = state_of c.self.inside in
    let at : work_of old.lane.receiver ≡ Some (work.Take take_stage.Buffer) = ap (λ (s : RingState g.row.D.Denot). work_of s.lane.receiver) c.self.view_is ∙ c.requires.work in
    let taking = taking_at old c.self.invariant.sound at in
    get_or_read old.rings.buffers old.rings.taking c.index.result.now taking.within c.index.ensures [] ∙ taking.message

pub push_reserved-requires : goal.push_reserved-requires
push_reserved-requires g c =
    let old = state_of c.self.inside in
    let at : work_of old.lane.receiver ≡ Some (work.Take take_stage.Buffer) = ap (λ (s : RingState g.row.D.Denot). work_of s.lane.receiver) c.self.view_is ∙ c.requires.work in
    let taking = taking_at old c.self.invariant.sound at in
    let room : length c.self.inside.hands.items < 256 = taking.room in
    let most = c.self.invariant.hands_room in
    search rules

pub invariant_of-self : goal.invariant_of-self
invariant_of-self g c =
    let old = state_of c.self.inside in
    let at : work_of old.lane.receiver ≡ Some (work.Take take_stage.Buffer) = ap (λ (s : RingState g.row.D.Denot). work_of s.lane.receiver) c.self.view_is ∙ c.requires.work in
    let has : holder old.lane.receiver ≡ Some c.args.caller = ap (λ (s : RingState g.row.D.Denot). holder s.lane.receiver) c.self.view_is ∙ c.requires.caller in
    let is = taken_by_both old.lane.receiver (work.Take take_stage.Buffer) c.args.caller at has in
    let follows = follows_of old.lane.receiver in
    let handed = c.push_reserved.ensures.items ∙ ap (λ (n : ℕ). old.rings.hands ++ record { number = n; caller = c.args.caller; buffer = old.rings.taking } ∷ []) c.handed-number.ensures in
    inside_after _ _ _ c.self.invariant
    (handed_at _ g.D.Desk.meaning old (live_era follows) c.args.caller follows _ _ is (live_in_live follows) (c.hand.ensures _ _ is) (ap (λ (hands : List Hand). record old.rings { hands = hands }) handed))
    (received_on_sound g.D.Desk.meaning old (live_era follows) c.self.invariant.sound) (omega (arith, c.push_reserved.ensures.capacity)) (omega arith)

pub returns : goal.returns
returns g c = λ era r turn_is live.
    let old = state_of c.self.inside in
    let at : work_of old.lane.receiver ≡ Some (work.Take take_stage.Buffer) = ap (λ (s : RingState g.row.D.Denot). work_of s.lane.receiver) c.self.view_is ∙ c.requires.work in
    let now : old.lane.receiver ≡ turn.Taken c.args.caller r = ap (λ (s : RingState g.row.D.Denot). s.lane.receiver) c.self.view_is ∙ turn_is in
    let is = taken_with_work old.lane.receiver (work.Take take_stage.Buffer) c.args.caller r at now in
    let handed = c.push_reserved.ensures.items ∙ ap (λ (n : ℕ). old.rings.hands ++ record { number = n; caller = c.args.caller; buffer = old.rings.taking } ∷ []) c.handed-number.ensures in
    handed_at _ g.D.Desk.meaning old era c.args.caller r.follows _ _ is live (c.hand.ensures _ _ is) (ap (λ (hands : List Hand). record old.rings { hands = hands }) handed)
    ∙ ap (λ s. (ring_form g.D.Desk.meaning).received_on s era) c.self.view_is
