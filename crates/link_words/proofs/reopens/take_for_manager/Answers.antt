use Rattle.std.proofs.Common.{◌≡◌, ℕ, eqb, arith, subst, sym, ◌∙◌}
use prog.Atomic.{either}
use Rattle.rp_base.specs.declared.kinds.End.{End}
use Rattle.lane_model.specs.declared.recoveries.LaneTurn.{LaneTurn}
use Rattle.link_words.specs.Calls.{SeatState}
use Rattle.link_words.specs.Deeds.{ManagerTakes}
use Rattle.link_words.specs.Layouts.{place_in}
use Rattle.link_words.specs.PlacedDesks.{placed_coded, placed_meaning}
use Rattle.link_words.specs.Reopens.{ManagerDoes, ManagerTakesTurn}
use Rattle.link_words.specs.Rule.{LinkRule}
use Rattle.link_words.specs.Steps.{HasWord, turn_number}
use Rattle.link_words.proofs.ManagerTold.{manager_takes_turn, one_turn, turn_low}
use Rattle.link_words.proofs.Told.{by_first}
use Rattle.link_words.proofs.Weakens.{weaken}
use Rattle.link_words.proofs.reopens.take_for_manager.Goals as goal

pub compare_exchange-requires : goal.compare_exchange-requires
compare_exchange-requires g c =
    let me = c.args.manager.now.me in let z = me.0.sizes in let coded = g.row.D.coded in let meaning = g.D.Desk.meaning in let wide = c.requires.table.1 in
    let which = c.args.turn in let e = c.args.lane in let word = c.turn_place-word.result in let is = c.turn_place-word.ensures in let low = turn_low which e in
    let f : ℕ → ℕ = λ y. either (eqb y 0) 65 y in
    let tells : LaneTurn → End → ℕ → SeatState → Type 0 = λ w i y me'. ManagerTakesTurn w i me y me' × ManagerDoes coded meaning me (HasWord word y) (ManagerTakes w i) me' in
    let then : ℕ → SeatState → Type 0 = λ y me'. (w : LaneTurn) (i : End) → word ≡ place_in (turn_number w i) → tells w i y me' in (
      c.requires.table.0,
      omega (arith, wide, is, low),
      by_first coded meaning c.args.table.now.key _ _ me word f then c.requires.table.2
          (weaken (LinkRule coded meaning z) _ _ me word f (tells which e) then (λ y me' t w i at. subst (λ (p : LaneTurn × End). tells p.0 p.1 y me') (one_turn which w e i (sym is ∙ at)) t)
          (manager_takes_turn (placed_coded coded z.desks) (placed_meaning coded z.desks meaning) z _ _ me which e word c.requires.manager is)),
    )

pub returns-clause-told : goal.returns-clause-told
returns-clause-told g c = (c.compare_exchange.ensures.2.0 c.args.turn c.args.lane c.turn_place-word.ensures).0

pub returns-clause-step : goal.returns-clause-step
returns-clause-step g c =
    let me = c.args.manager.now.me in
    subst (λ (k : ℕ). ManagerDoes g.row.D.coded g.D.Desk.meaning me (HasWord k c.compare_exchange.result) (ManagerTakes c.args.turn c.args.lane) c.compare_exchange.new.seat.me) c.turn_place-word.ensures
    (c.compare_exchange.ensures.2.0 c.args.turn c.args.lane c.turn_place-word.ensures).1
