use Rattle.lane_model.specs.HeldBuffers.{HeldBuffer}
use Rattle.std.proofs.Common.{◌≡◌, List, refl, sym, ap, ◌∙◌, subst}
use Rattle.rp_base.specs.declared.kinds.Era.{Era}
use Rattle.split_ring.specs.declared.ends.TurnHeld.{TurnHeld}
use Rattle.split_ring.specs.declared.reclaims.Parts.{Parts}
use Rattle.split_ring.specs.PartsOf.{AreHeldBy, AreSame, HoldsItsOwn, HoldsNoOther, TellsHands}
use Rattle.split_ring.specs.Reclaims.{HasTurnHeld, IsAnothers, phase_of}
use Rattle.split_ring.proofs.PartSteps.{true-false, looks_again, needs_turn, all_same, open_is, busy_is}
use Rattle.link_words.specs.Calls.{SeatState}
use Rattle.std.specs.Prelude.{slice_set, ℕ, Option, None, Some}
use Rattle.std.proofs.Common.{ap₂}
use Rattle.rp_base.specs.declared.kinds.End.{End}
use Rattle.link_words.specs.declared.rule.Pass.{Pass}
use Rattle.link_words.specs.declared.copies.LinkCopy.{LinkCopy}
use Rattle.link_words.specs.Passes.{Manages, after_end_with, callers_without}
use Rattle.link_words.specs.Seats.{with_era}
use Rattle.link_words.proofs.Users.{end_else}
use Rattle.split_ring.specs.declared.callers.Manager.{Manager}
use Rattle.split_ring.specs.Carried.{HasBlocks}
use Rattle.split_ring.proofs.CarriedMakes.{carrier_kept, keeps_alone, keeps_same, keeps_then}
use Rattle.split_ring.proofs.Makes.{rests_at}
use Rattle.split_ring.proofs.Focusing.{order_same}
use Rattle.split_ring.proofs.TurnsHeld.{turn_stands}
use Rattle.split_ring.proofs.links.SharedLink.reclaim.Goals as goal

none_some : (k : LinkCopy) → None ≡ Some k → ⊥
none_some k is = absurd (cc)

pub end_alone-requires-clause-stands : goal.end_alone-requires-clause-stands
end_alone-requires-clause-stands g c =
    let z = c.args.self.now.sizes in let parts = c.args.parts in let id = parts.caller.id in let me = parts.caller.seat.me in
    subst (λ (t : TurnHeld). HasTurnHeld z id t me) (sym c.turn_of.ensures) (turn_stands z id id.follows (phase_of parts.call) me c.requires.parts.stands)

pub end_alone-requires-clause-hands : goal.end_alone-requires-clause-hands
end_alone-requires-clause-hands g c none =
    let parts = c.args.parts in let all = c.requires.parts in let h = c.is_holding-is_holding in
    let me = parts.caller.seat.me in let told : TellsHands h.result me = (subst (λ (l : List HeldBuffer). AreHeldBy parts.caller.id l me → HoldsNoOther (phase_of parts.call) l me → HoldsItsOwn (phase_of parts.call) me → TellsHands h.result me) c.deref.ensures.value (h.ensures parts.caller.id me)) all.held all.all all.own in
    told.none none

pub returns-in-Err-StillOpen-clause-manager : goal.returns-in-Err-StillOpen-clause-manager
returns-in-Err-StillOpen-clause-manager g c =
    let link = c.args.self.now in let before = c.args.manager.now in let t = c.learn_era.ensures.told in let read : Manager = record { seat = c.learn_era.new.manager; users = before.users; out = before.out } in
    carrier_kept link before read (with_era before.seat.me.0 t.0) t.3 refl refl refl refl refl (c.learn_era.ensures.same.0 ∙ c.requires.manager.at_table) c.learn_era.ensures.order c.requires.manager

pub returns-in-Err-Busy-clause-manager : goal.returns-in-Err-Busy-clause-manager
returns-in-Err-Busy-clause-manager g c =
    let link = c.args.self.now in let before = c.args.manager.now in let t = c.learn_era.ensures.told in let read : Manager = record { seat = c.learn_era.new.manager; users = before.users; out = before.out } in
    carrier_kept link before read (with_era before.seat.me.0 t.0) t.3 refl refl refl refl refl (c.learn_era.ensures.same.0 ∙ c.requires.manager.at_table) c.learn_era.ensures.order c.requires.manager

pub returns-in-Err-StillOpen-clause-refused : goal.returns-in-Err-StillOpen-clause-refused
returns-in-Err-StillOpen-clause-refused g c =
    let coded = g.row.D.coded in let meaning = g.D.Desk.meaning in let t = c.learn_era.ensures.told in let q = c.in-Err-StillOpen.ensures in let x = c.in-Err-StillOpen in let parts = c.args.parts in
    let back : Parts _ = record { caller = record { id = parts.caller.id; seat = c.end_alone.new.seat }; call = parts.call; held = parts.held } in
    let all = c.requires.parts in let h = c.is_holding-is_holding in let me = parts.caller.seat.me in
    let told : TellsHands h.result me = (subst (λ (l : List HeldBuffer). AreHeldBy parts.caller.id l me → HoldsNoOther (phase_of parts.call) l me → HoldsItsOwn (phase_of parts.call) me → TellsHands h.result me) c.deref.ensures.value (h.ensures parts.caller.id me)) all.held all.all all.own in
    let same : AreSame parts back = record { id = refl; call = refl; held = refl; table = q.seat.at_table ∙ sym c.requires.parts.user.seat.at_table; seat = q.refused.0 } in
    let why = open_is coded meaning parts.caller.id c.turn_of.result c.is_holding-is_holding.result x.field-0 x.era x.field-0-is q.refused.1 in (
      ap (λ (e : Era). e.is_live) x.era-is ∙ why.0,
      same,
      all_same c.args.self.now parts back same c.requires.parts,
      refl,
      (t.0, t.3),
      λ _. looks_again (phase_of parts.call) me h.result told c.turn_of.result c.turn_of.ensures why.1,
    )

pub returns-in-Err-Busy-clause-refused : goal.returns-in-Err-Busy-clause-refused
returns-in-Err-Busy-clause-refused g c =
    let coded = g.row.D.coded in let meaning = g.D.Desk.meaning in let t = c.learn_era.ensures.told in let q = c.in-Err-Busy.ensures in let x = c.in-Err-Busy in let parts = c.args.parts in
    let back : Parts _ = record { caller = record { id = parts.caller.id; seat = c.end_alone.new.seat }; call = parts.call; held = parts.held } in
    let all = c.requires.parts in let h = c.is_holding-is_holding in let me = parts.caller.seat.me in
    let told : TellsHands h.result me = (subst (λ (l : List HeldBuffer). AreHeldBy parts.caller.id l me → HoldsNoOther (phase_of parts.call) l me → HoldsItsOwn (phase_of parts.call) me → TellsHands h.result me) c.deref.ensures.value (h.ensures parts.caller.id me)) all.held all.all all.own in
    let same : AreSame parts back = record { id = refl; call = refl; held = refl; table = q.seat.at_table ∙ sym c.requires.parts.user.seat.at_table; seat = q.refused.0 } in
    let why = busy_is coded meaning parts.caller.id c.turn_of.result c.is_holding-is_holding.result x.field-0 x.holder x.field-0-is q.refused.1 in
    let read : c.era_of-era.result ≡ t.0 = c.era_of-era.ensures t.0 t.1 t.2 in (
      subst (IsAnothers coded meaning parts.caller.id) (sym x.holder-is) why.0,
      needs_turn (phase_of parts.call) me h.result told c.turn_of.result c.turn_of.ensures (why.1, why.2),
      same,
      all_same c.args.self.now parts back same c.requires.parts,
      refl,
      (t.0, sym (ap (λ (e : Era). e.is_live) read) ∙ c.if-era.false, t.3),
    )

pub returns-then-era-clause-refused : goal.returns-then-era-clause-refused
returns-then-era-clause-refused g c =
    let t = c.learn_era.ensures.told in let parts = c.args.parts in let read : c.era_of-era.result ≡ t.0 = c.era_of-era.ensures t.0 t.1 t.2 in
    let same : AreSame parts parts = record { id = refl; call = refl; held = refl; table = refl; seat = record { one = c.requires.parts.user.one; out = refl; sizes = refl } } in
    (c.if-era.true, same, c.requires.parts, refl, (t.0, t.3), λ closed. absurd (true-false (sym c.if-era.true ∙ (ap (λ (e : Era). e.is_live) read ∙ t.5 closed))))

pub returns-then-era-clause-manager : goal.returns-then-era-clause-manager
returns-then-era-clause-manager g c =
    let link = c.args.self.now in let before = c.args.manager.now in let t = c.learn_era.ensures.told in let read : Manager = record { seat = c.learn_era.new.manager; users = before.users; out = before.out } in
    carrier_kept link before read (with_era before.seat.me.0 t.0) t.3 refl refl refl refl refl (c.learn_era.ensures.same.0 ∙ c.requires.manager.at_table) c.learn_era.ensures.order c.requires.manager

pub returns-in-Ok-clause-manager : goal.returns-in-Ok-clause-manager
returns-in-Ok-clause-manager g c =
    let link = c.args.self.now in let before = c.args.manager.now in let t = c.learn_era.ensures.told in let read : Manager = record { seat = c.learn_era.new.manager; users = before.users; out = before.out } in
    let m = carrier_kept link before read (with_era before.seat.me.0 t.0) t.3 refl refl refl refl refl (c.learn_era.ensures.same.0 ∙ c.requires.manager.at_table) c.learn_era.ensures.order c.requires.manager in
    let j = c.join.ensures.manager in record {
      at_table = j.0 ∙ m.at_table;
      manages = subst (λ (s : SeatState). Manages s.0) (sym j.2) m.manages;
      rests = rests_at (sym (ap (λ (s : SeatState). s.0.passes) j.2)) m.rests;
      knows = ap (λ (s : SeatState). s.0.users) j.2
          ∙ (ap (λ (ps : List Pass). callers_without ps c.learn_era.new.manager.me.0.users) c.in-Ok.ensures.ended.one ∙ ap₂ (λ (users : List (Option End)) (n : ℕ). slice_set users n None) m.knows c.requires.parts.user.number);
      told = ap (λ (s : SeatState). s.0.sizes) j.2 ∙ m.told;
      order = order_same c.learn_era.new.manager.me.0 c.join.new.manager.me.0 (ap (λ (s : SeatState). s.0.passes) j.2) (λ manages out k was. absurd (none_some k (sym (ap (λ (s : SeatState). s.0.copy) j.2) ∙ was))) m.order;
      blocks = subst (HasBlocks before.out) (sym j.2) (record { four = m.blocks.four; few = m.blocks.few; all = m.blocks.all; owned = m.blocks.owned });
    }

pub returns-in-Ok-clause-others : goal.returns-in-Ok-clause-others
returns-in-Ok-clause-others g c = λ who p apart carried.
    let link = c.args.self.now in let before = c.args.manager.now in let t = c.learn_era.ensures.told in let read : Manager = record { seat = c.learn_era.new.manager; users = before.users; out = before.out } in
    let j = c.join.ensures.manager in let n = c.args.parts.caller.id.number in let after : Manager = record { seat = c.join.new.manager; users = slice_set before.users n None; out = before.out } in
    keeps_then link before read after who p (keeps_same link before read (with_era before.seat.me.0 t.0) t.3 refl refl refl who p)
    (λ kept. keeps_alone link read after (after_end_with read.seat.me.0 c.end_alone.new.seat.me.0) who p j.2 refl refl (end_else before.users n who.number None (λ is. apart (sym is)) ∙ kept.user) kept) carried

pub returns-then-era-clause-others : goal.returns-then-era-clause-others
returns-then-era-clause-others g c = λ who p apart carried.
    let link = c.args.self.now in let before = c.args.manager.now in let t = c.learn_era.ensures.told in let read : Manager = record { seat = c.learn_era.new.manager; users = before.users; out = before.out } in
    keeps_same link before read (with_era before.seat.me.0 t.0) t.3 refl refl refl who p carried

pub returns-in-Err-StillOpen-clause-others : goal.returns-in-Err-StillOpen-clause-others
returns-in-Err-StillOpen-clause-others g c = λ who p apart carried.
    let link = c.args.self.now in let before = c.args.manager.now in let t = c.learn_era.ensures.told in let read : Manager = record { seat = c.learn_era.new.manager; users = before.users; out = before.out } in
    keeps_same link before read (with_era before.seat.me.0 t.0) t.3 refl refl refl who p carried

pub returns-in-Err-Busy-clause-others : goal.returns-in-Err-Busy-clause-others
returns-in-Err-Busy-clause-others g c = λ who p apart carried.
    let link = c.args.self.now in let before = c.args.manager.now in let t = c.learn_era.ensures.told in let read : Manager = record { seat = c.learn_era.new.manager; users = before.users; out = before.out } in
    keeps_same link before read (with_era before.seat.me.0 t.0) t.3 refl refl refl who p carried
