-- What holds of the state that a manager knows holds of whatever state its copy is of.
use Rattle.std.proofs.Common.{◌≡◌, sym, ap, subst, ◌∙◌}
use Rattle.split_ring.specs.declared.callers.Manager.{Manager}
use Rattle.split_ring.specs.Callers.{IsStateOf}
use Rattle.managed_link.specs.EndCodes.{end_coded}
use Rattle.managed_link.specs.Known.{IsKnown, LinkRings, known_one}

pub state_one : (manager : Manager) (m x : LinkRings) → IsStateOf end_coded manager m → IsKnown manager x → x ≡ m
state_one manager m x is known = known_one manager x m known is.known.copy

pub at_known : (P : LinkRings → Type 0) (manager : Manager) (m : LinkRings) → IsStateOf end_coded manager m → P m → (x : LinkRings) → IsKnown manager x → P x
at_known P manager m is holds x known = subst P (sym (state_one manager m x is known)) holds

-- it is the one behind this step, whatever the state before is called
pub state_behind : (step : LinkRings → LinkRings) (manager : Manager) (m old x : LinkRings) → IsStateOf end_coded manager (step m) → m ≡ old → IsKnown manager x → x ≡ step old
state_behind step manager m old x is same known = state_one manager (step m) x is known ∙ ap step same
