-- The slots of the carried calls: one set, and the others as they were.
use Rattle.std.proofs.Common.{◌≡◌, ◌≢◌, ℕ, zero, suc, ◌<◌, List, [], ◌∷◌, length, set, Option, Some, None, refl, sym, ap, arith}
use Rattle.std.specs.Prelude.{option_and_then, slice_get}
use Rattle.managed_link.specs.declared.call_slots.CarriedCall.{CarriedCall}
use Rattle.managed_link.specs.Managed.{call_of}

get_here : {X : Type 0} (xs : List X) (k : ℕ) (x : X) → k < length xs → slice_get (set xs k x) k ≡ Some x
get_here [] k x within = absurd (omega (arith, within))
get_here (y ∷ ys) zero x within = refl
get_here (y ∷ ys) (suc k) x within = get_here ys k x (omega (arith, within))

get_other : {X : Type 0} (xs : List X) (k n : ℕ) (x : X) → k ≢ n → slice_get (set xs k x) n ≡ slice_get xs n
get_other [] k n x apart = refl
get_other (y ∷ ys) zero zero x apart = absurd (apart refl)
get_other (y ∷ ys) zero (suc n) x apart = refl
get_other (y ∷ ys) (suc k) zero x apart = refl
get_other (y ∷ ys) (suc k) (suc n) x apart = get_other ys k n x (λ is. apart (ap suc is))

abbrev inner : Option (Option CarriedCall) → Option CarriedCall
inner o = option_and_then (λ found. found) o

pub call_set : (calls : List (Option CarriedCall)) (caller : ℕ) (call : Option CarriedCall) → caller < length calls → call_of (set calls caller call) caller ≡ call
call_set calls caller call within = ap inner (get_here calls caller call within)

pub call_beside : (calls : List (Option CarriedCall)) (caller n : ℕ) (call : Option CarriedCall) → caller ≢ n → call_of (set calls caller call) n ≡ call_of calls n
call_beside calls caller n call apart = ap inner (get_other calls caller n call apart)

-- a call that was found in its slot
pub call_there : (calls : List (Option CarriedCall)) (caller : ℕ) (call : Option CarriedCall) → slice_get calls caller ≡ Some call → call_of calls caller ≡ call
call_there calls caller call found = ap inner found

-- the slot of a caller in no call is as it was once its call is out of it again
pub slot_freed : (calls : List (Option CarriedCall)) (caller : ℕ) (put left : Option CarriedCall) → call_of calls caller ≡ None → set (set (set calls caller put) caller left) caller None ≡ calls
slot_freed [] caller put left rests = refl
slot_freed (c ∷ cs) zero put left rests = ap (λ x. x ∷ cs) (sym rests)
slot_freed (c ∷ cs) (suc n) put left rests = ap (λ xs. c ∷ xs) (slot_freed cs n put left rests)
