-- Whether an era is an incarnation, live.
use Rattle.std.proofs.Common.{◌≡◌, ◌≢◌, ℕ, Bool, true, false, eqb, ◌&&◌, refl, ap, ◌∙◌, eq-eqb}
use Rattle.std.proofs.lemmas.Bool.{eqb-true}
use Rattle.rp_base.specs.declared.kinds.Era.{Era}
use Rattle.lane_model.specs.Lanes.{is_live_in}
use Rattle.split_ring.specs.Sends.{live_era}

both : (a b : Bool) → (a && b) ≡ true → (a ≡ true) × (b ≡ true)
both true true is = (refl, refl)
both true false is = absurd (cc)
both false true is = absurd (cc)
both false false is = absurd (cc)

pub live_is : (era : Era) (inc : ℕ) → is_live_in era inc ≡ true → era ≡ live_era inc
live_is era inc is = let parts = both (eqb era.inc inc) era.is_live is in let same : era.inc ≡ inc = eqb-true era.inc inc parts.0 in let live = parts.1 in λ i. record { inc = same i; is_live = live i }

pub dead_is : (era : Era) (inc : ℕ) → is_live_in era inc ≡ false → era ≢ live_era inc
dead_is era inc is same =
    let live : is_live_in era inc ≡ true = ap (λ (x : Era). is_live_in x inc) same ∙ ap (λ (b : Bool). b && true) (eq-eqb inc inc refl) in absurd (cc)
