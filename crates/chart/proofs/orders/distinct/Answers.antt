use Rattle.std.proofs.Common.{◌≡◌, ℕ, ◌+◌, ◌<◌, List, [], ◌∷◌, ◌++◌, length, take, get_or, refl, sym, ap, ◌∙◌, add-one}
use Rattle.std.proofs.Math.Seq.{take-suc}
use Rattle.std.proofs.lemmas.List.Sums.{fold-append}
use Rattle.indexmap.specs.IndexSet.{insert_key}
use Rattle.chart.specs.contracts.keys.LifelinePartialEq.TheImpl.{eq-value}
use Rattle.chart.specs.declared.keys.Side.{Side}
use Rattle.chart.specs.declared.keys.Side.TheVariants as side
use Rattle.chart.specs.declared.keys.Lifeline.{Lifeline}
use Rattle.chart.specs.Keys.{is_same_lifeline}
use Rattle.chart.specs.Orders.{distinct}
use Rattle.chart.proofs.orders.distinct.Goals as goal

one_more : (lifelines : List Lifeline) (i : ℕ) (here : Lifeline) → i < length lifelines → here ≡ get_or lifelines i here
    → distinct (take (i + 1) lifelines) ≡ insert_key is_same_lifeline (distinct (take i lifelines)) here
one_more lifelines i here inside is =
    ap (λ n. distinct (take n lifelines)) (add-one i)
    ∙ ap distinct (take-suc lifelines i here inside ∙ ap (λ x. take i lifelines ++ x ∷ []) (sym is))
    ∙ fold-append (insert_key is_same_lifeline) [] (take i lifelines) (here ∷ [])

-- lifelines are one by their fields, as the derived test says
by_sides : (a b : Lifeline) (one other : Side) → eq-value.it (record a { side = one }) (record b { side = other }) ≡ is_same_lifeline (record a { side = one }) (record b { side = other })
by_sides a b side.Host side.Host = refl
by_sides a b side.Host side.Own = refl
by_sides a b side.Host side.Remote = refl
by_sides a b side.Own side.Host = refl
by_sides a b side.Own side.Own = refl
by_sides a b side.Own side.Remote = refl
by_sides a b side.Remote side.Host = refl
by_sides a b side.Remote side.Own = refl
by_sides a b side.Remote side.Remote = refl

derived_is : eq-value.it ≡ is_same_lifeline
derived_is = λ i a b. by_sides a b a.side b.side i

pub loop-lifeline-preserved : goal.loop-lifeline-preserved
loop-lifeline-preserved c =
    c.in_ok-insert.ensures.keys
    ∙ ap (λ same. insert_key same c.loop-lifeline.set.keys c.lifeline-item.result) derived_is
    ∙ ap (λ keys. insert_key is_same_lifeline keys c.lifeline-item.result) c.loop-lifeline.invariant
    ∙ sym (one_more c.args.lifelines.now c.loop-lifeline.lifeline-index c.lifeline-item.result c.loop-lifeline-test.true c.lifeline-item.is)
