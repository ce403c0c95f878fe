-- The order of endpoints.
use Rattle.std.proofs.Common.{◌≡◌, true, false, arith}
use Rattle.std.proofs.lemmas.Bool.Decides.{nat_tests}
use Rattle.rp_base.specs.declared.kinds.Endpoint.{Endpoint}
use Rattle.host_driver.specs.Drivers.{is_before, is_same_endpoint}

pub before_all : (a b c : Endpoint) → is_before a b ≡ true → is_before b c ≡ true → is_before a c ≡ true
before_all a b c ab bc = grind (arith, nat_tests)

-- an endpoint that comes before one, or behind it, is another
pub before_is_other : (a b : Endpoint) → is_before a b ≡ true → is_same_endpoint a b ≡ false
before_is_other a b ab = grind (arith, nat_tests)

pub behind_is_other : (a b : Endpoint) → is_before a b ≡ true → is_same_endpoint b a ≡ false
behind_is_other a b ab = grind (arith, nat_tests)

-- where two are not one, and this doesn't come before that, that comes before this
pub behind : (a b : Endpoint) → is_before a b ≡ false → is_same_endpoint a b ≡ false → is_before b a ≡ true
behind a b not_before other = grind (arith, nat_tests)

-- what comes before an endpoint, or behind it, comes so by its address and generation alone
pub before_same : (a b c : Endpoint) → is_before a b ≡ true → is_same_endpoint b c ≡ true → is_same_endpoint a c ≡ false
before_same a b c ab bc = grind (arith, nat_tests)

pub behind_same : (a b c : Endpoint) → is_before b a ≡ true → is_same_endpoint b c ≡ true → is_same_endpoint a c ≡ false
behind_same a b c ba bc = grind (arith, nat_tests)
