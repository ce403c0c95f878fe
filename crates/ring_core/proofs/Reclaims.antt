-- A reclaim and a reopening keep the rings of a lane sound.
use Rattle.std.proofs.Common.{◌≡◌, ℕ, true, false, eqb, List, length, map, sym, ap, subst, ◌∙◌, arith, length-append}
use Rattle.vring_layout.specs.declared.words.UsedWord.{UsedWord}
use Rattle.lane_model.specs.declared.states.Lane.{Lane}
use Rattle.lane_model.specs.declared.stages.Sending.{Sending}
use Rattle.lane_model.specs.declared.stages.Receiving.{Receiving}
use Rattle.lane_model.specs.declared.stages.Work.{Work}
use Rattle.lane_model.specs.declared.stages.Work.TheVariants as work
use Rattle.lane_model.specs.declared.stages.GiveStage.TheVariants as give_stage
use Rattle.lane_model.specs.declared.stages.Turn.{Turn}
use Rattle.lane_model.specs.declared.stages.Turn.TheVariants as turn
use Rattle.lane_model.specs.Desks.{DeskMeaning}
use Rattle.lane_model.specs.Lanes.{OfCall, holds}
use Rattle.lane_model.specs.Crashes.{held_by_others, opened_lane}
use Rattle.lane_model.specs.Conditions.{HasRoomAt, IsFitWork}
use Rattle.lane_model.proofs.CrashSteps.{ended_has, work_stays_fit}
use Rattle.ring_core.specs.declared.states.Hand.{Hand}
use Rattle.ring_core.specs.declared.states.RingSizes.{RingSizes}
use Rattle.ring_core.specs.declared.states.RingState.{RingState}
use Rattle.ring_core.specs.Rings.{opened_rings}
use Rattle.ring_core.specs.RingSteps.{ring_form, hands_of_others, buffers_of, holding_of}
use Rattle.ring_core.specs.SoundRings.{IsSoundRings, HasSource, HasWork, AreApart}
use Rattle.ring_core.proofs.Hands.{times-parted, length-parted, times_in-append, apart-others, holdings-others, held_buffer-others, numbered_from_holds, numbered_once}
use Rattle.ring_core.proofs.Opened.{opened_rings_sound}

-- two facts about the call that has the turn
both : {C : Type 0} (P Q : ℕ → C → Type 0) (now : Turn C) → OfCall now P → OfCall now Q → OfCall now (λ caller call. P caller call × Q caller call)
both P Q turn.Free p q = tt
both P Q (turn.Taken caller call) p q = (p, q)
both P Q (turn.Leaving caller end) p q = tt
both P Q turn.Manager p q = tt

-- without the send of a caller
pub send_ended_sound : {D : Type 0} (meaning : DeskMeaning D) (s : RingState D) (caller : ℕ) → IsSoundRings s → IsSoundRings ((ring_form meaning).after_send_end s caller)
send_ended_sound meaning s caller sound =
    let room : ℕ → Sending → Type 0 = λ other send. HasRoomAt send.stage s.lane.lane in
    let source : ℕ → Sending → Type 0 = λ other send. HasSource s.rings.sizes s.rings.forward s.rings.returns s.rings.buffers s.rings.sending (length s.lane.lane.accepted) send.message send.stage in
    record {
      sized = sound.sized;
      counted = sound.counted;
      forward_index = sound.forward_index;
      return_index = sound.return_index;
      owned = sound.owned;
      apart = sound.apart;
      holdings = sound.holdings;
      filled = sound.filled;
      room = ended_has room room s.lane.sender caller (λ other send differ has. has) sound.room;
      fit = sound.fit;
      source = ended_has source source s.lane.sender caller (λ other send differ has. has) sound.source;
      work = sound.work;
    }

-- what another's call has read or stored stands, when a caller's buffers go aside
work_stands : (sizes : RingSizes) (forward returns : List UsedWord) (hands : List Hand) (taking handed returned caller other : ℕ) (now : Work) (lane : Lane)
    → map holding_of hands ≡ lane.held → AreApart handed hands → eqb other caller ≡ false → IsFitWork now lane other → HasWork sizes forward returns hands taking handed returned now
    → HasWork sizes forward returns (hands_of_others hands caller) taking handed returned now
work_stands sizes forward returns hands taking handed returned caller other (work.Take last) lane holdings apart differ fit has = has
work_stands sizes forward returns hands taking handed returned caller other (work.Give number give_stage.Turn) lane holdings apart differ fit has = tt
work_stands sizes forward returns hands taking handed returned caller other (work.Give number give_stage.Entry) lane holdings apart differ fit has =
    let held : holds (map holding_of hands) number other ≡ true = subst (λ xs. holds xs number other ≡ true) (sym holdings) fit in
    let one = numbered_once hands handed number apart (numbered_from_holds hands number other held) in
    has ∙ sym (held_buffer-others hands caller number other differ one held)
work_stands sizes forward returns hands taking handed returned caller other (work.Bind address) lane holdings apart differ fit has = tt
work_stands sizes forward returns hands taking handed returned caller other (work.Unbind address) lane holdings apart differ fit has = tt

-- without the call of a caller that has the receiver's turn, and with its buffers aside
pub receive_ended_sound : {D : Type 0} (meaning : DeskMeaning D) (s : RingState D) (caller : ℕ) → IsSoundRings s → IsSoundRings ((ring_form meaning).after_receive_end s caller)
receive_ended_sound meaning s caller sound =
    let rings = s.rings in
    let lane = s.lane.lane in
    let counted = sound.counted in
    let handed = length lane.takers in
    let others = hands_of_others rings.hands caller in
    let mine = buffers_of rings.hands caller in
    let after : Lane = record lane { held = held_by_others lane.held caller } in
    let fit : ℕ → Receiving → Type 0 = λ other call. IsFitWork call.work lane other in
    let works : ℕ → Receiving → Type 0 = λ other call. HasWork rings.sizes rings.forward rings.returns rings.hands rings.taking handed lane.returned call.work in
    record {
      sized = sound.sized;
      counted =
          let parted = length-parted rings.hands caller in
          let more = length-append rings.aside mine in
          record { back = omega (arith, counted.back); behind = counted.behind; out = counted.out; within = counted.within; most = counted.most };
      forward_index = sound.forward_index;
      return_index = sound.return_index;
      owned = record {
        times = λ id.
            let before = sound.owned.times id in
            let parted = times-parted rings.hands caller id in
            let more = times_in-append rings.aside mine id in
            omega arith;
      };
      apart = apart-others rings.hands handed caller sound.apart;
      holdings = holdings-others rings.hands caller ∙ ap (λ xs. held_by_others xs caller) sound.holdings;
      filled = sound.filled;
      room = sound.room;
      fit = ended_has fit (λ other call. IsFitWork call.work after other) s.lane.receiver caller (λ other call differ has. work_stays_fit call.work lane caller other differ has) sound.fit;
      source = sound.source;
      work = ended_has (λ other call. fit other call × works other call) (λ other call. HasWork rings.sizes rings.forward rings.returns others rings.taking handed lane.returned call.work)
          s.lane.receiver caller
          (λ other call differ has. work_stands rings.sizes rings.forward rings.returns rings.hands rings.taking handed lane.returned caller other call.work lane sound.holdings sound.apart differ has.0 has.1)
          (both fit works s.lane.receiver sound.fit sound.work);
    }

-- a new incarnation
pub reopened_sound : {D : Type 0} (meaning : DeskMeaning D) (s : RingState D) → IsSoundRings s → IsSoundRings ((ring_form meaning).link_after_reopen s)
reopened_sound {D} meaning s sound =
    let sized = sound.sized in
    let sizes = s.rings.sizes in
    let desk = meaning.fresh s.lane.desk in
    subst (λ n. IsSoundRings (record { lane = opened_lane n s.lane.lane.book desk; rings = opened_rings sizes s.rings.buffers })) (sym sized.lane)
    (opened_rings_sound sizes s.rings.buffers s.lane.lane.book desk sized.size sized.count sized.some sized.most sized.fits sized.ring sized.own sized.buffers_long sound.counted.most)
