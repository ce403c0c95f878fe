-- The calls that the actors of a core are yet to make, and what they cost.
use Rattle.std.proofs.Common.{◌≡◌, ◌≤◌, ℕ, ◌+◌, ◌*◌, cond, Bool, true, false, List, [], ◌∷◌, ◌++◌, drop, Option, Some, None, refl, sym, subst, arith}
use Rattle.lane_model.specs.declared.calls.CallEnd.{CallEnd}
use Rattle.lane_model.specs.declared.calls.CallEnd.TheVariants as end
use Rattle.lane_model.specs.declared.calls.Wish.{Wish}
use Rattle.lane_model.specs.declared.calls.Wish.TheVariants as wish
use Rattle.host_driver.specs.Drivers.{DriversState}
use Rattle.core_actors.specs.ActorEnds.{calls_after_end, end_answer, gives_of, sends_of, taken_number}
use Rattle.demo_laws.proofs.ActorCalls.{IsNoUnbind}
use Rattle.demo_laws.proofs.OwnCalls.{IsEndOf, handed_by, returned_by, sent_by}

-- ---- calls that are yet to be made

-- the steps of these calls, where a take is given back too
abbrev pub call_cost : Wish → ℕ
call_cost (wish.Send message) = 7
call_cost wish.Take = 10
call_cost (wish.Give number) = 4
call_cost (wish.Bind address) = 3
call_cost (wish.Unbind address) = 3

abbrev pub calls_cost : List Wish → ℕ
calls_cost [] = 0
calls_cost (first ∷ later) = call_cost first + calls_cost later

abbrev pub one_send : Wish → ℕ
one_send (wish.Send message) = 1
one_send other = 0

abbrev pub one_give : Wish → ℕ
one_give (wish.Give number) = 1
one_give other = 0

abbrev pub one_take : Wish → ℕ
one_take wish.Take = 1
one_take other = 0

abbrev pub sends_in : List Wish → ℕ
sends_in [] = 0
sends_in (first ∷ later) = one_send first + sends_in later

abbrev pub gives_in : List Wish → ℕ
gives_in [] = 0
gives_in (first ∷ later) = one_give first + gives_in later

abbrev pub takes_in : List Wish → ℕ
takes_in [] = 0
takes_in (first ∷ later) = one_take first + takes_in later

-- ---- the calls of the host actor

-- at most a send
abbrev pub IsAnswer : List Wish → Type 0
IsAnswer [] = Unit {0}
IsAnswer (wish.Send message ∷ []) = Unit {0}
IsAnswer other = ⊥

-- a give, then at most a send; or the one or the other
abbrev pub AreHostCalls : List Wish → Type 0
AreHostCalls [] = Unit {0}
AreHostCalls (wish.Give number ∷ later) = IsAnswer later
AreHostCalls (wish.Send message ∷ []) = Unit {0}
AreHostCalls other = ⊥

-- the same by the call that is under way, if one is
abbrev pub HostFits : Option Wish → Bool → List Wish → Type 0
HostFits None taking calls = AreHostCalls calls
HostFits (Some (wish.Send message)) taking calls = (taking ≡ false) × (calls ≡ wish.Send message ∷ [])
HostFits (Some wish.Take) taking calls = (taking ≡ true) × (calls ≡ [])
HostFits (Some (wish.Give number)) taking calls = (taking ≡ false) × ((later : List Wish) × (calls ≡ wish.Give number ∷ later) × IsAnswer later)
HostFits (Some (wish.Bind address)) taking calls = ⊥
HostFits (Some (wish.Unbind address)) taking calls = ⊥

-- the steps that are left of them
abbrev pub host_cost : Option Wish → List Wish → ℕ → ℕ
host_cost None calls left = calls_cost calls
host_cost (Some (wish.Send message)) calls left = left
host_cost (Some wish.Take) calls left = left
host_cost (Some (wish.Give number)) calls left = left + calls_cost (drop 1 calls)
host_cost (Some (wish.Bind address)) calls left = left
host_cost (Some (wish.Unbind address)) calls left = left

-- what a take under way has of the steps that its message costs
abbrev pub taking_cost : Option Wish → ℕ
taking_cost None = 0
taking_cost (Some wanted) = 6 * one_take wanted

-- the calls of the host actor once one has ended
abbrev pub host_after : Bool → List Wish → CallEnd → DriversState → List ℕ → List Wish
host_after taking calls ended drivers message = (cond taking calls (calls_after_end ended calls) ++ gives_of (taken_number ended)) ++ sends_of (end_answer drivers message ended)

pub record HostEnded (wanted : Wish) (calls : List Wish) (ended : CallEnd) (after : List Wish) : Type 0 where
  pub fits : AreHostCalls after
  pub gives : gives_in after + returned_by ended ≡ gives_in calls + handed_by ended
  pub sends : sends_in after + sent_by ended ≤ sends_in calls + handed_by ended
  pub cost : calls_cost after + 6 * one_take wanted + 1 ≤ host_cost (Some wanted) calls 1 + 17 * handed_by ended

answered : (number : ℕ) (answer : Option (List ℕ)) (ended : CallEnd) → handed_by ended ≡ 1 → returned_by ended ≡ 0 → sent_by ended ≡ 0
    → HostEnded wish.Take [] ended (wish.Give number ∷ sends_of answer)
answered number None ended one none silent = record { fits = tt; gives = omega (arith, one, none); sends = omega (arith, one, silent); cost = omega (arith, one) }
answered number (Some message) ended one none silent = record { fits = tt; gives = omega (arith, one, none); sends = omega (arith, one, silent); cost = omega (arith, one) }

given_back : (number : ℕ) (later : List Wish) (ended : CallEnd) → IsAnswer later → handed_by ended ≡ 0 → returned_by ended ≡ 1 → sent_by ended ≡ 0
    → HostEnded (wish.Give number) (wish.Give number ∷ later) ended ((later ++ []) ++ [])
given_back number [] ended is none one silent = record { fits = tt; gives = omega (arith, one, none); sends = omega (arith, none, silent); cost = omega (arith, none) }
given_back number (wish.Send message ∷ []) ended is none one silent = record { fits = tt; gives = omega (arith, one, none); sends = omega (arith, none, silent); cost = omega (arith, none) }
given_back number (wish.Send message ∷ other ∷ more) ended is none one silent = absurd is
given_back number (wish.Take ∷ more) ended is none one silent = absurd is
given_back number (wish.Give other ∷ more) ended is none one silent = absurd is
given_back number (wish.Bind address ∷ more) ended is none one silent = absurd is
given_back number (wish.Unbind address ∷ more) ended is none one silent = absurd is

pub host_ends : (wanted : Wish) (taking : Bool) (calls : List Wish) (ended : CallEnd) (drivers : DriversState) (message : List ℕ) → HostFits (Some wanted) taking calls → IsEndOf wanted ended
    → HostEnded wanted calls ended (host_after taking calls ended drivers message)
host_ends (wish.Send sent) taking calls (end.Sent number) drivers message fits of =
    subst (λ (b : Bool). HostEnded (wish.Send sent) calls (end.Sent number) (host_after b calls (end.Sent number) drivers message)) (sym fits.0)
    (subst (λ (c : List Wish). HostEnded (wish.Send sent) c (end.Sent number) (host_after false c (end.Sent number) drivers message)) (sym fits.1)
    (record { fits = tt; gives = refl; sends = omega arith; cost = omega arith }))
host_ends (wish.Send sent) taking calls (end.BookFull accepted) drivers message fits of =
    subst (λ (b : Bool). HostEnded (wish.Send sent) calls (end.BookFull accepted) (host_after b calls (end.BookFull accepted) drivers message)) (sym fits.0)
    (subst (λ (c : List Wish). HostEnded (wish.Send sent) c (end.BookFull accepted) (host_after false c (end.BookFull accepted) drivers message)) (sym fits.1)
    (record { fits = tt; gives = refl; sends = omega arith; cost = omega arith }))
host_ends wish.Take taking calls (end.Took number judged) drivers message fits of =
    subst (λ (b : Bool). HostEnded wish.Take calls (end.Took number judged) (host_after b calls (end.Took number judged) drivers message)) (sym fits.0)
    (subst (λ (c : List Wish). HostEnded wish.Take c (end.Took number judged) (host_after true c (end.Took number judged) drivers message)) (sym fits.1)
    (answered number (end_answer drivers message (end.Took number judged)) (end.Took number judged) refl refl refl))
host_ends (wish.Give number) taking calls (end.Gave given) drivers message fits of =
    let later = fits.1.0 in
    subst (λ (b : Bool). HostEnded (wish.Give number) calls (end.Gave given) (host_after b calls (end.Gave given) drivers message)) (sym fits.0)
    (subst (λ (c : List Wish). HostEnded (wish.Give number) c (end.Gave given) (host_after false c (end.Gave given) drivers message)) (sym fits.1.1)
    (given_back number later (end.Gave given) fits.1.2 refl refl refl))
host_ends (wish.Send sent) taking calls (end.Took number judged) drivers message fits of = absurd of
host_ends (wish.Send sent) taking calls (end.Gave given) drivers message fits of = absurd of
host_ends (wish.Send sent) taking calls (end.Bound _) drivers message fits of = absurd of
host_ends (wish.Send sent) taking calls (end.Unbound _) drivers message fits of = absurd of
host_ends (wish.Send sent) taking calls (end.Busy _) drivers message fits of = absurd of
host_ends (wish.Send sent) taking calls (end.Dead _) drivers message fits of = absurd of
host_ends (wish.Send sent) taking calls (end.NoBuffer _ _) drivers message fits of = absurd of
host_ends (wish.Send sent) taking calls (end.Empty _) drivers message fits of = absurd of
host_ends (wish.Send sent) taking calls (end.Refused _) drivers message fits of = absurd of
host_ends wish.Take taking calls (end.Sent number) drivers message fits of = absurd of
host_ends wish.Take taking calls (end.Gave given) drivers message fits of = absurd of
host_ends wish.Take taking calls (end.Bound _) drivers message fits of = absurd of
host_ends wish.Take taking calls (end.Unbound _) drivers message fits of = absurd of
host_ends wish.Take taking calls (end.Busy _) drivers message fits of = absurd of
host_ends wish.Take taking calls (end.Dead _) drivers message fits of = absurd of
host_ends wish.Take taking calls (end.NoBuffer _ _) drivers message fits of = absurd of
host_ends wish.Take taking calls (end.BookFull accepted) drivers message fits of = absurd of
host_ends wish.Take taking calls (end.Empty _) drivers message fits of = absurd of
host_ends wish.Take taking calls (end.Refused _) drivers message fits of = absurd of
host_ends (wish.Give number) taking calls (end.Sent _) drivers message fits of = absurd of
host_ends (wish.Give number) taking calls (end.Took _ judged) drivers message fits of = absurd of
host_ends (wish.Give number) taking calls (end.Bound _) drivers message fits of = absurd of
host_ends (wish.Give number) taking calls (end.Unbound _) drivers message fits of = absurd of
host_ends (wish.Give number) taking calls (end.Busy _) drivers message fits of = absurd of
host_ends (wish.Give number) taking calls (end.Dead _) drivers message fits of = absurd of
host_ends (wish.Give number) taking calls (end.NoBuffer _ _) drivers message fits of = absurd of
host_ends (wish.Give number) taking calls (end.BookFull accepted) drivers message fits of = absurd of
host_ends (wish.Give number) taking calls (end.Empty _) drivers message fits of = absurd of
host_ends (wish.Give number) taking calls (end.Refused _) drivers message fits of = absurd of
host_ends (wish.Bind _) taking calls ended drivers message fits of = absurd fits
host_ends (wish.Unbind _) taking calls ended drivers message fits of = absurd fits

-- ---- the calls of the worker

abbrev pub AreWorkerCalls : List Wish → Type 0
AreWorkerCalls [] = Unit {0}
AreWorkerCalls (first ∷ later) = (later ≡ []) × IsNoUnbind first

abbrev pub WorkerFits : Option Wish → List Wish → Type 0
WorkerFits None calls = AreWorkerCalls calls
WorkerFits (Some wanted) calls = (calls ≡ wanted ∷ []) × IsNoUnbind wanted

abbrev pub worker_cost : Option Wish → List Wish → ℕ → ℕ
worker_cost None calls left = calls_cost calls
worker_cost (Some wanted) calls left = left + 4 * one_take wanted

abbrev pub worker_after : List Wish → CallEnd → List Wish
worker_after calls ended = gives_of (taken_number ended) ++ calls_after_end ended calls

pub record WorkerEnded (wanted : Wish) (calls : List Wish) (ended : CallEnd) (after : List Wish) : Type 0 where
  pub fits : AreWorkerCalls after
  pub gives : gives_in after + returned_by ended ≡ gives_in calls + handed_by ended
  pub sends : sends_in after + sent_by ended ≤ sends_in calls
  pub takes : takes_in calls ≡ takes_in after + handed_by ended
  pub cost : calls_cost after + 1 ≤ 1 + 4 * one_take wanted

pub worker_ends : (wanted : Wish) (calls : List Wish) (ended : CallEnd) → WorkerFits (Some wanted) calls → IsEndOf wanted ended → WorkerEnded wanted calls ended (worker_after calls ended)
worker_ends (wish.Send sent) calls (end.Sent number) fits of =
    subst (λ (c : List Wish). WorkerEnded (wish.Send sent) c (end.Sent number) (worker_after c (end.Sent number))) (sym fits.0)
    (record { fits = tt; gives = refl; sends = omega arith; takes = refl; cost = omega arith })
worker_ends (wish.Send sent) calls (end.BookFull accepted) fits of =
    subst (λ (c : List Wish). WorkerEnded (wish.Send sent) c (end.BookFull accepted) (worker_after c (end.BookFull accepted))) (sym fits.0)
    (record { fits = tt; gives = refl; sends = omega arith; takes = refl; cost = omega arith })
worker_ends wish.Take calls (end.Took number judged) fits of =
    subst (λ (c : List Wish). WorkerEnded wish.Take c (end.Took number judged) (worker_after c (end.Took number judged))) (sym fits.0)
    (record { fits = (refl, tt); gives = refl; sends = omega arith; takes = refl; cost = omega arith })
worker_ends (wish.Give number) calls (end.Gave given) fits of =
    subst (λ (c : List Wish). WorkerEnded (wish.Give number) c (end.Gave given) (worker_after c (end.Gave given))) (sym fits.0)
    (record { fits = tt; gives = refl; sends = omega arith; takes = refl; cost = omega arith })
worker_ends (wish.Bind address) calls (end.Bound endpoint) fits of =
    subst (λ (c : List Wish). WorkerEnded (wish.Bind address) c (end.Bound endpoint) (worker_after c (end.Bound endpoint))) (sym fits.0)
    (record { fits = tt; gives = refl; sends = omega arith; takes = refl; cost = omega arith })
worker_ends (wish.Bind address) calls (end.Refused why) fits of =
    subst (λ (c : List Wish). WorkerEnded (wish.Bind address) c (end.Refused why) (worker_after c (end.Refused why))) (sym fits.0)
    (record { fits = tt; gives = refl; sends = omega arith; takes = refl; cost = omega arith })
worker_ends (wish.Send sent) calls (end.Took number judged) fits of = absurd of
worker_ends (wish.Send sent) calls (end.Gave given) fits of = absurd of
worker_ends (wish.Send sent) calls (end.Bound endpoint) fits of = absurd of
worker_ends (wish.Send sent) calls (end.Unbound _) fits of = absurd of
worker_ends (wish.Send sent) calls (end.Busy _) fits of = absurd of
worker_ends (wish.Send sent) calls (end.Dead _) fits of = absurd of
worker_ends (wish.Send sent) calls (end.NoBuffer _ _) fits of = absurd of
worker_ends (wish.Send sent) calls (end.Empty _) fits of = absurd of
worker_ends (wish.Send sent) calls (end.Refused why) fits of = absurd of
worker_ends wish.Take calls (end.Sent number) fits of = absurd of
worker_ends wish.Take calls (end.Gave given) fits of = absurd of
worker_ends wish.Take calls (end.Bound endpoint) fits of = absurd of
worker_ends wish.Take calls (end.Unbound _) fits of = absurd of
worker_ends wish.Take calls (end.Busy _) fits of = absurd of
worker_ends wish.Take calls (end.Dead _) fits of = absurd of
worker_ends wish.Take calls (end.NoBuffer _ _) fits of = absurd of
worker_ends wish.Take calls (end.BookFull accepted) fits of = absurd of
worker_ends wish.Take calls (end.Empty _) fits of = absurd of
worker_ends wish.Take calls (end.Refused why) fits of = absurd of
worker_ends (wish.Give number) calls (end.Sent _) fits of = absurd of
worker_ends (wish.Give number) calls (end.Took _ judged) fits of = absurd of
worker_ends (wish.Give number) calls (end.Bound endpoint) fits of = absurd of
worker_ends (wish.Give number) calls (end.Unbound _) fits of = absurd of
worker_ends (wish.Give number) calls (end.Busy _) fits of = absurd of
worker_ends (wish.Give number) calls (end.Dead _) fits of = absurd of
worker_ends (wish.Give number) calls (end.NoBuffer _ _) fits of = absurd of
worker_ends (wish.Give number) calls (end.BookFull accepted) fits of = absurd of
worker_ends (wish.Give number) calls (end.Empty _) fits of = absurd of
worker_ends (wish.Give number) calls (end.Refused why) fits of = absurd of
worker_ends (wish.Bind address) calls (end.Sent number) fits of = absurd of
worker_ends (wish.Bind address) calls (end.Took number judged) fits of = absurd of
worker_ends (wish.Bind address) calls (end.Gave given) fits of = absurd of
worker_ends (wish.Bind address) calls (end.Unbound _) fits of = absurd of
worker_ends (wish.Bind address) calls (end.Busy _) fits of = absurd of
worker_ends (wish.Bind address) calls (end.Dead _) fits of = absurd of
worker_ends (wish.Bind address) calls (end.NoBuffer _ _) fits of = absurd of
worker_ends (wish.Bind address) calls (end.BookFull accepted) fits of = absurd of
worker_ends (wish.Bind address) calls (end.Empty _) fits of = absurd of
worker_ends (wish.Unbind _) calls ended fits of = absurd of
