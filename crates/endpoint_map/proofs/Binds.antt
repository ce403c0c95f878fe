-- What a binding answers and leaves, case by case.
use Rattle.std.proofs.Common.{◌≡◌, ℕ, ◌+◌, ◌<◌, length, arith, ◌||◌, Bool, true, false, cond, List, is_some, Option, Some, None, Result, Ok, Err, insert, refl, ap, sym, ◌∙◌}
use Rattle.std.proofs.lemmas.Bool.Decides.{nat_tests}
use Rattle.rp_base.specs.declared.limits.TheConstants.{ENDPOINTS_MOST}
use Rattle.rp_base.specs.declared.kinds.Endpoint.{Endpoint}
use Rattle.rp_base.specs.declared.kinds.BoundEndpoint.{BoundEndpoint}
use Rattle.rp_base.specs.declared.kinds.BindFault.{BindFault}
use Rattle.rp_base.specs.declared.kinds.BindFault.TheVariants.{AddressTaken, EndpointsFull}
use Rattle.endpoint_map.specs.Bindings.{Bindings, address_for, bound_at, is_bound, is_full, bind_answer, after_bind, with_endpoint, IsPlace}
use Rattle.endpoint_map.proofs.Places.{place_is}

-- the answer at an address, by whether it is bound and no endpoint fits
abbrev pub answer_by : Bindings → ℕ → Bool → Bool → Result Endpoint BindFault
answer_by bindings address taken full = cond taken (Err (AddressTaken address)) (cond full (Err EndpointsFull) (Ok record { address = address; generation = bindings.count + 1 }))

pub answer_is : (bindings : Bindings) (asked address : ℕ) (taken full : Bool) → address ≡ address_for bindings asked → is_bound bindings address ≡ taken → is_full bindings ≡ full
    → answer_by bindings address taken full ≡ bind_answer bindings asked
answer_is bindings asked address taken full at t f =
    ap (λ b. answer_by bindings address b full) (sym t)
    ∙ ap (λ b. answer_by bindings address (is_bound bindings address) b) (sym f)
    ∙ ap (λ a. answer_by bindings a (is_bound bindings a) (is_full bindings)) at

-- what is left with an endpoint at an address, by whether it is bound and no endpoint fits
abbrev pub left_by : Bindings → ℕ → ℕ → Bool → Bool → Bindings
left_by bindings address since taken full =
    cond (taken || full) bindings record {
      bound = with_endpoint (record { endpoint = record { address = address; generation = bindings.count + 1 }; since = since }) bindings.bound;
      count = bindings.count + 1;
    }

pub left_is : (bindings : Bindings) (asked address since : ℕ) (taken full : Bool) → address ≡ address_for bindings asked → is_bound bindings address ≡ taken → is_full bindings ≡ full
    → left_by bindings address since taken full ≡ after_bind bindings asked since
left_is bindings asked address since taken full at t f =
    ap (λ b. left_by bindings address since b full) (sym t)
    ∙ ap (λ b. left_by bindings address since (is_bound bindings address) b) (sym f)
    ∙ ap (λ a. left_by bindings a since (is_bound bindings a) (is_full bindings)) at

-- where an endpoint fits there are fewer than 256
pub fewer_if_fits : (bindings : Bindings) → is_full bindings ≡ false → length bindings.bound < ENDPOINTS_MOST
fewer_if_fits bindings fits = grind (arith, nat_tests)
