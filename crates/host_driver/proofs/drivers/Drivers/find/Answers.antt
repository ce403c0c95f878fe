use Rattle.std.proofs.Common.{◌<◌, length, get_or, arith, ap, ◌∙◌, sym, subst}
use Rattle.std.proofs.lemmas.List.{get_or_default}
use Rattle.host_driver.specs.Drivers.{drives, IsAscending}
use Rattle.host_driver.proofs.Places.{absent_at}
use Rattle.host_driver.proofs.drivers.Drivers.find.Goals as goal
use Rattle.host_driver.proofs.drivers.Drivers.find.Goals.{else-place-len-via-then-place-len+else-eq, else-place-len-via-else-place-len}

pub returns-else-place-len-clause-absent : goal.returns-else-place-len-clause-absent
returns-else-place-len-clause-absent c =
    let endpoint = c.args.endpoint in
    let driven = c.args.self.now.driven in
    let same = ap (λ d. d.driven) c.self.view_is in
    let up = subst IsAscending same c.self.invariant.0 in
    let is = c.place-place.ensures in
    let place = c.place-place.result in
    elim c.else-place-len.branch [
      | else-place-len-via-then-place-len+else-eq w ↦
          let read = w.index.result.now in
          absent_at endpoint driven up (λ lt d.
          ap (λ k. drives endpoint (get_or driven k d)) (sym is)
          ∙ ap (drives endpoint) (get_or_default driven place d read (subst (λ k. k < length driven) (sym is) lt) ∙ sym (w.index.ensures ∙ ap (λ xs. get_or xs place read) same))
          ∙ sym w.eq.ensures
          ∙ w.if-eq.false)
      | else-place-len-via-else-place-len w ↦ absent_at endpoint driven up (λ lt d. absurd (omega (arith, w.if-place-len.false, is, c.len.ensures, ap length same)))
    ]
