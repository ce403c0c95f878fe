-- That a link which says its state says which steps may be taken.
use Rattle.std.specs.Prelude.{◌≡◌, ℕ, Option, Some}
use Rattle.std.specs.Option.{unwrap_or}
use Rattle.std.proofs.Common.{sym, ap, subst}
use Rattle.lane_model.specs.declared.calls.Ask.{Ask}
use Rattle.lane_model.specs.Links.{LinkState}
use Rattle.lane_model.specs.Answers.{MayAsk}

-- the told state is the link's, so what may be asked of it may be asked of the link
pub leads_to_may : {D : Type 0} (link told : LinkState D) (caller : ℕ) (asked : Option Ask) → Some link ≡ Some told → MayAsk told caller asked → MayAsk link caller asked
leads_to_may {D} link told caller asked is may = subst (λ (state : LinkState D). MayAsk state caller asked) (sym (ap (λ o. unwrap_or o link) is)) may
