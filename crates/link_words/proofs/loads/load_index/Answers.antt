use Rattle.std.proofs.Common.{ℕ, arith, subst, refl, sym}
use Rattle.link_words.specs.PlacedDesks.{placed_coded, placed_meaning}
use Rattle.link_words.specs.Layouts.{place_in}
use Rattle.link_words.specs.declared.loads.IndexUse.{IndexUse}
use Rattle.link_words.specs.Words.{return_word}
use Rattle.link_words.specs.Steps.{GoesOn, HasWord, index_number, MayLoadIndex, SendLooks, SendTakesBuffer, TakeLooks, accepted_by}
use Rattle.link_words.proofs.Apart.{forward_low, return_low}
use Rattle.link_words.proofs.Told.{by_load, send_looks, send_takes_own, take_looks}
use Rattle.link_words.proofs.loads.load_index.Goals as goal

pub load-requires : goal.load-requires
load-requires g c =
    let s = subst (λ u. MayLoadIndex u c.args.lane c.args.seat.now.me) c.in-Room.is c.requires.call in let wide = c.requires.table.1 in let is = c.return_place.ensures in let low = return_low c.args.lane in
    (c.requires.table.0, omega (arith, wide, is, low), by_load g.row.D.coded g.D.Desk.meaning c.args.table.now.key _ _ c.args.seat.now.me _ (SendLooks c.args.seat.now.me) c.requires.table.2 (send_looks (placed_coded g.row.D.coded c.args.seat.now.me.0.sizes.desks) (placed_meaning g.row.D.coded c.args.seat.now.me.0.sizes.desks g.D.Desk.meaning) c.args.seat.now.me.0.sizes _ _ c.args.seat.now.me c.args.lane s _ is refl))

pub load-requires-in-OwnBuffer : goal.load-requires-in-OwnBuffer
load-requires-in-OwnBuffer g c =
    let s = subst (λ u. MayLoadIndex u c.args.lane c.args.seat.now.me) c.in-OwnBuffer.is c.requires.call in let wide = c.requires.table.1 in let is = c.return_place-in-OwnBuffer.ensures in let low = return_low c.args.lane in
    (c.requires.table.0, omega (arith, wide, is, low), by_load g.row.D.coded g.D.Desk.meaning c.args.table.now.key _ _ c.args.seat.now.me _ (λ _. SendTakesBuffer (accepted_by c.args.seat.now.me) c.args.seat.now.me) c.requires.table.2 (send_takes_own (placed_coded g.row.D.coded c.args.seat.now.me.0.sizes.desks) (placed_meaning g.row.D.coded c.args.seat.now.me.0.sizes.desks g.D.Desk.meaning) c.args.seat.now.me.0.sizes _ _ c.args.seat.now.me c.args.lane s.0 (return_word c.args.lane) _ is refl s.1))

pub load-requires-in-Message : goal.load-requires-in-Message
load-requires-in-Message g c =
    let s = subst (λ u. MayLoadIndex u c.args.lane c.args.seat.now.me) c.in-Message.is c.requires.call in let wide = c.requires.table.1 in let is = c.forward_place.ensures in let low = forward_low c.args.lane in
    (c.requires.table.0, omega (arith, wide, is, low), by_load g.row.D.coded g.D.Desk.meaning c.args.table.now.key _ _ c.args.seat.now.me _ (TakeLooks c.args.seat.now.me) c.requires.table.2 (take_looks (placed_coded g.row.D.coded c.args.seat.now.me.0.sizes.desks) (placed_meaning g.row.D.coded c.args.seat.now.me.0.sizes.desks g.D.Desk.meaning) c.args.seat.now.me.0.sizes _ _ c.args.seat.now.me c.args.lane s _ is refl))

pub returns-in-OwnBuffer-clause-step : goal.returns-in-OwnBuffer-clause-step
returns-in-OwnBuffer-clause-step g c =
    let me = c.args.seat.now.me in let me' = c.load-in-OwnBuffer.new.seat.me in let word = c.load-in-OwnBuffer.result in
    subst (λ (u : IndexUse). GoesOn g.row.D.coded g.D.Desk.meaning me (HasWord (place_in (index_number u c.args.lane)) word) me') (sym c.in-OwnBuffer.is)
    (subst (λ (p : ℕ). GoesOn g.row.D.coded g.D.Desk.meaning me (HasWord p word) me') c.return_place-in-OwnBuffer.ensures c.load-in-OwnBuffer.ensures.2.1)
