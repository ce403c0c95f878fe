use Rattle.std.proofs.Common.{◌≡◌, refl, sym, ap, ◌∙◌, subst}
use Rattle.std.specs.Fn.{FnOnceReturnsAt}
use Rattle.std.proofs.lemmas.Fn.{gave_at}
use Rattle.atomic_table.specs.Table.{Me}
use Rattle.link_words.specs.declared.codes.DeskView.{DeskView}
use Rattle.link_words.specs.declared.rule.ReceiverSide.{ReceiverSide}
use Rattle.link_words.specs.DeskSeats.{code_in}
use Rattle.link_words.proofs.DesksOut.{lent}
use Rattle.link_words.proofs.sides.ReceiverState.look.Goals as goal

pub returns-clause-seen : goal.returns-clause-seen
returns-clause-seen g c = λ d same.
    let o = c.open.ensures.desk in
    let known : c.into_seat-seat.result.me.0.code ≡ c.args.self.now.desk.code = ap code_in (sym c.into_seat-seat.ensures.2) ∙ (ap (λ (b : _). code_in b.views) c.replace.ensures.value ∙ ap (λ (x : ReceiverSide). x.desk.code) c.self.view_is) in
    subst (λ (x : g.row.D.Denot). FnOnceReturnsAt g.F.FnOnce c.args.look x c.look-seen.result)
    (lent c.slot_mut.result.now o.0 c.open.new.seat.me.1 c.slot_mut.ensures.value (ap (λ (m : Me _ DeskView). m.1) o.2) ∙ g.row.D.coded.inj o.0 d (sym o.1 ∙ (known ∙ same)))
    (gave_at g.F.FnOnce c.look-seen.ensures refl)
