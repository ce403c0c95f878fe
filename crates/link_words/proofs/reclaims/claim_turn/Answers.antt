use Rattle.std.proofs.Common.{◌≡◌, ℕ, eqb, arith, sym, ◌∙◌, subst}
use Rattle.lane_model.specs.declared.recoveries.LaneTurn.TheVariants as lane_turn
use prog.Atomic.{either}
use Rattle.rp_base.specs.declared.kinds.End.{End}
use Rattle.link_words.specs.Calls.{SeatState}
use Rattle.link_words.specs.Deeds.{ManagerTakes}
use Rattle.link_words.specs.Layouts.{place_in}
use Rattle.link_words.specs.Passes.{place_of_number}
use Rattle.link_words.specs.PlacedDesks.{placed_coded, placed_meaning}
use Rattle.link_words.specs.Reclaims.{ClaimsAs, DoesAt}
use Rattle.link_words.specs.Steps.{HasWord}
use Rattle.link_words.specs.Rule.{LinkRule}
use Rattle.link_words.specs.Words.{receiver_word}
use Rattle.link_words.proofs.Apart.{receiver_low}
use Rattle.link_words.proofs.Ends.{claims_all, same_receiver}
use Rattle.link_words.proofs.Told.{by_first}
use Rattle.link_words.proofs.Weakens.{weaken}
use Rattle.link_words.proofs.reclaims.claim_turn.Goals as goal

pub compare_exchange_with-requires : goal.compare_exchange_with-requires
compare_exchange_with-requires g c =
    let me = c.args.seat.now.me in let coded = g.row.D.coded in let meaning = g.D.Desk.meaning in let q = c.requires.caller in let wide = c.requires.table.1 in
    let is = c.receiver_place-word.ensures in let low = receiver_low c.args.end in let place = c.receiver_place-word.result in let f : ℕ → ℕ = λ y. either (eqb y 0) 65 y in
    let tells : ℕ → SeatState → Type 0 = λ y me'. ClaimsAs coded meaning c.args.end c.args.caller place me y me' in
    let then : ℕ → SeatState → Type 0 = λ y me'. (end : End) → place ≡ place_in (receiver_word end) → ClaimsAs coded meaning end c.args.caller place me y me' in (
      c.requires.table.0,
      omega (arith, wide, is, low),
      by_first coded meaning c.args.table.now.key _ _ me place f then c.requires.table.2
          (weaken (LinkRule coded meaning me.0.sizes) _ _ me place f tells then (λ y me' t end at. subst (λ (e : End). ClaimsAs coded meaning e c.args.caller place me y me') (same_receiver c.args.end end (sym is ∙ at)) t)
          (claims_all (placed_coded coded me.0.sizes.desks) (placed_meaning coded me.0.sizes.desks meaning) me.0.sizes _ _ me c.args.end c.args.caller place q.mover q.here is q.call q.is q.unclaimed)),
    )

pub returns-clause-step : goal.returns-clause-step
returns-clause-step g c =
    let me = c.args.seat.now.me in let me' = c.compare_exchange_with.new.seat.me in let t = c.compare_exchange_with.ensures.2.0 c.args.end c.receiver_place-word.ensures in
    subst (λ (p : ℕ). DoesAt g.row.D.coded g.D.Desk.meaning (place_of_number c.args.caller me.0.passes) me (HasWord p c.compare_exchange_with.result) (ManagerTakes lane_turn.Receiver c.args.end) me') c.receiver_place-word.ensures t.2
