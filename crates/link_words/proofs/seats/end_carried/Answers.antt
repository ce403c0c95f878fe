use Rattle.link_words.specs.PlacedDesks.{placed_coded, placed_meaning}
use Rattle.std.proofs.Common.{ℕ, eqb, arith, refl}
use prog.Atomic.{either}
use Rattle.link_words.specs.Calls.{SeatState}
use Rattle.link_words.specs.Rule.{LinkRule}
use Rattle.link_words.specs.Seats.{EndsCaller}
use Rattle.link_words.specs.Steps.{IsEndingOf, FreesCaller}
use Rattle.link_words.proofs.Apart.{apart}
use Rattle.link_words.proofs.Endings.{ends_named}
use Rattle.link_words.proofs.Told.{by_first}
use Rattle.link_words.proofs.Weakens.{weaken}
use Rattle.link_words.proofs.seats.end_carried.Goals as goal

pub compare_exchange_with-requires : goal.compare_exchange_with-requires
compare_exchange_with-requires g c =
    let q = c.requires.caller in let wide = c.requires.table.1 in let me = c.args.manager.now.me in let n = c.args.caller in let z = me.0.sizes in let coded = g.row.D.coded in let meaning = g.D.Desk.meaning in
    let cd = placed_coded coded z.desks in let desk = placed_meaning coded z.desks meaning in let f : ℕ → ℕ = λ y. either (eqb y 0) 0 y in
    let told : ℕ → SeatState → Type 0 = λ y me'. EndsCaller n me me' × IsEndingOf cd desk q.1 n me me' in let then : ℕ → SeatState → Type 0 = λ y me'. EndsCaller n me me' × FreesCaller coded meaning n me me' in (
      c.requires.table.0,
      omega (arith, wide),
      by_first coded meaning c.args.table.now.key _ _ me 0 f then c.requires.table.2
          (weaken (LinkRule coded meaning z) _ _ me 0 f told then (λ y me' t. (t.0, (q.1, t.1)))
          (apart cd desk z _ _ me 0 0 f told refl (ends_named cd desk z _ _ me q.0 q.1 n c.requires.manager.0 c.requires.manager.1 q.2 q.3 q.4 q.5))),
    )
