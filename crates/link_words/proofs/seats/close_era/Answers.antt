use Rattle.std.proofs.Common.{◌≡◌, ℕ, ◌+◌, ◌*◌, eqb, arith, refl, subst}
use Rattle.link_words.specs.declared.rule.Made.TheVariants as made
use Rattle.link_words.specs.Calls.{SeatState}
use Rattle.link_words.specs.Passes.{place_of_number}
use Rattle.link_words.specs.PlacedDesks.{placed_coded, placed_meaning}
use Rattle.link_words.specs.Rule.{LinkRule}
use Rattle.link_words.specs.Seats.{ClosesEra, is_closed_behind}
use Rattle.link_words.specs.Steps.{IsCloseOf, ClosesLink}
use Rattle.link_words.proofs.Apart.{apart}
use Rattle.link_words.proofs.Closes.{closes}
use Rattle.link_words.proofs.Notes.{notes, becomes_noted, becomes_copied, close_noted}
use Rattle.link_words.proofs.Tells.{ClosesEraBy}
use Rattle.link_words.proofs.Told.{by_first}
use Rattle.link_words.proofs.Weakens.{weaken}
use Rattle.link_words.proofs.seats.close_era.Goals as goal
use prog.Atomic.{either}

pub compare_exchange_with-requires : goal.compare_exchange_with-requires
compare_exchange_with-requires g c =
    let me = c.args.seat.now.me in let z = me.0.sizes in let coded = g.row.D.coded in let meaning = g.D.Desk.meaning in let wide = c.requires.table.1 in let inc = c.args.inc in let closer = c.args.closer in
    let cd = placed_coded coded z.desks in let desk = placed_meaning coded z.desks meaning in let k = place_of_number closer me.0.passes in
    let f : ℕ → ℕ = λ y. either (eqb y (inc * 2 + 1)) (inc * 2) y in
    let told : ℕ → SeatState → Type 0 = λ y me'. ClosesEraBy inc me y me' × IsCloseOf cd desk inc y me me' in
    let tells : ℕ → SeatState → Type 0 = λ y me'. ClosesEra closer inc me y me' × ClosesLink coded meaning inc y me me' in
    let then : ℕ → SeatState → Type 0 = λ y me'. (i : ℕ) → inc * 2 ≡ i * 2 → ClosesEra closer i me y me' × ClosesLink coded meaning i y me me' in (
      c.requires.table.0,
      omega (arith, wide),
      by_first coded meaning c.args.table.now.key _ _ me 16 f then c.requires.table.2
          (weaken (LinkRule coded meaning z) _ _ me 16 f tells then (λ y me' t i same. subst (λ (k : ℕ). ClosesEra closer k me y me' × ClosesLink coded meaning k y me me') (let e : inc ≡ i = omega (arith, same) in e) t)
          (apart cd desk z _ _ me 1 16 f tells refl
          (notes cd desk z _ _ me 1 f k told tells (λ y me' t. made.Close t.0.0)
          (closes cd desk z _ _ me c.requires.pass inc _ _ refl (let e : inc * 2 ≡ inc * 2 + 0 = omega arith in e))
          (λ y me' t. let knows : SeatState = (record me.0 { is_closed = is_closed_behind inc t.0.0 }, me.1) in ((t.0.0, t.0.1, t.0.2, becomes_noted (made.Close t.0.0) (λ p. p) k me.1 knows me' (becomes_copied k knows me' t.0.3), t.0.4), close_noted cd desk z inc y k me me' (made.Close t.0.0) t.1))))),
    )

pub returns-clause-told : goal.returns-clause-told
returns-clause-told g c = (c.compare_exchange_with.ensures.2.0 c.args.inc refl).0

pub returns-clause-step : goal.returns-clause-step
returns-clause-step g c = (c.compare_exchange_with.ensures.2.0 c.args.inc refl).1
