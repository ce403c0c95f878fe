-- Calls that are begun, and who may begin one.
use Rattle.std.proofs.Common.{◌≡◌, ◌≢◌, ℕ, Bool, true, false, ◌||◌, cond, Option, Some, None, List, [], ◌∷◌, zero, suc, slice_get, slice_set, replicate, is_some, option_and_then, unwrap_or, refl, sym, ap, subst, ◌∙◌, inl, inr}
use Rattle.std.specs.Option.{option_map_or, option_or}
use Rattle.std.proofs.lemmas.Bool.{true≢false}
use Rattle.std.proofs.lemmas.Bool.Decides.{eqb_tells}
use Rattle.rp_base.specs.declared.kinds.End.{End}
use Rattle.lane_model.specs.declared.calls.Wish.{Wish}
use Rattle.lane_model.specs.declared.calls.Wish.TheVariants as wish
use Rattle.lane_model.specs.Links.{LinkState, end_of, lanes_of}
use Rattle.lane_model.specs.Lanes.{holds}
use Rattle.lane_model.specs.Conditions.{MayStep, MayEndStep, IsFitWish, is_in_call as is_in_call_on}
use Rattle.link_bench.specs.declared.benches.BegunCall.{BegunCall}
use Rattle.link_bench.specs.declared.benches.BenchFault.{BenchFault}
use Rattle.link_bench.specs.declared.benches.BenchFault.TheVariants as fault
use Rattle.channel_bus.specs.Sides.{EndState}
use Rattle.link_bench.specs.Benches.{BenchState, AreFitCalls, OthersMay, IsSendable, begin_fault, begun_call_of, caller_fault, calling_fault, link_in, ready_fault, wish_fault}

-- what is in one is in the other
pub some_same : {A : Type 0} {x y : A} → Some x ≡ Some y → x ≡ y
some_same {A} {x} {y} same = ap (λ found. unwrap_or found x) same

-- no fault where there is one
pub some_fault : {A : Type 0} (found : A) → Some found ≡ None → ⊥
some_fault found same = true≢false (ap is_some same)

-- no first fault of two is no fault of each
pub neither_fault : (first second : Option BenchFault) → option_or first second ≡ None → (first ≡ None) × (second ≡ None)
neither_fault None second same = (refl, same)
neither_fault (Some why) second same = absurd (some_fault why same)

-- who isn't in a call has begun none and has none under way
not_calling : (begun under_way : Bool) → calling_fault (begun || under_way) ≡ None → (begun ≡ false) × (under_way ≡ false)
not_calling false false same = (refl, refl)
not_calling false true same = absurd (some_fault _ same)
not_calling true under_way same = absurd (some_fault _ same)

-- a test that refuses nothing holds
pub held_from : {A : Type 0} (held : Bool) (why : A) → cond held None (Some why) ≡ None → held ≡ true
held_from true why same = refl
held_from false why same = absurd (some_fault why same)

module _ (link : LinkState EndState) (caller : ℕ) where
  -- a give names what the caller of this end holds
  abbrev pub fault_at : Option End → Wish → Option BenchFault
  fault_at found (wish.Send message) = None
  fault_at found wish.Take = None
  fault_at found (wish.Give number) =
      cond (option_map_or (λ end. holds (lanes_of link end).incoming.lane.held number caller) found false) None (Some (fault.NotHeld number))
  fault_at found (wish.Bind address) = None
  fault_at found (wish.Unbind address) = None

  -- what fits a caller of this end
  fits_at : (end : End) (wanted : Wish) → IsSendable wanted → fault_at (Some end) wanted ≡ None → IsFitWish wanted (lanes_of link end).incoming.lane.held caller
  fits_at end (wish.Send message) sendable same = sendable
  fits_at end wish.Take sendable same = tt
  fits_at end (wish.Give number) sendable same = held_from _ _ same
  fits_at end (wish.Bind address) sendable same = tt
  fits_at end (wish.Unbind address) sendable same = tt

  -- a caller in use and in no call may begin what fits it
  may_at : (found : Option End) (begun : Bool) (wanted : Wish) → IsSendable wanted
      → caller_fault found (begun || option_map_or (λ end. is_in_call_on (lanes_of link end) caller) found false) ≡ None
      → fault_at found wanted ≡ None → MayEndStep link found caller (Some wanted)
  may_at None begun wanted sendable ready same = absurd (some_fault _ ready)
  may_at (Some end) begun wanted sendable ready same =
      ((not_calling begun (is_in_call_on (lanes_of link end) caller) ready).1, fits_at end wanted sendable same)

-- the two ways to say that a give names what its caller holds
same_fault : (bench : BenchState) (caller : ℕ) (wanted : Wish) → fault_at (link_in bench) caller (end_of (link_in bench).callers caller) wanted ≡ wish_fault bench caller wanted
same_fault bench caller (wish.Send message) = refl
same_fault bench caller wish.Take = refl
same_fault bench caller (wish.Give number) = refl
same_fault bench caller (wish.Bind address) = refl
same_fault bench caller (wish.Unbind address) = refl

-- a call that nothing refuses may do its first step
pub begin_may : (bench : BenchState) (caller : ℕ) (wanted : Wish) → IsSendable wanted → begin_fault bench caller wanted ≡ None → MayStep (link_in bench) caller (Some wanted)
begin_may bench caller wanted sendable none =
    let both = neither_fault (ready_fault bench caller) (wish_fault bench caller wanted) none in
    record { may = may_at (link_in bench) caller (end_of (link_in bench).callers caller) (is_some (begun_call_of bench caller)) wanted sendable both.0 (same_fault bench caller wanted ∙ both.1) }

-- who may begin a call has begun none
pub none_begun : (found : Option End) (begun under_way : Bool) → caller_fault found (begun || under_way) ≡ None → begun ≡ false
none_begun None begun under_way ready = absurd (some_fault _ ready)
none_begun (Some end) begun under_way ready = (not_calling begun under_way ready).0

-- another place than the one that is set
pub get-set_other : {X : Type 0} (items : List X) (i j : ℕ) (item : X) → j ≢ i → slice_get (slice_set items i item) j ≡ slice_get items j
get-set_other [] i j item differ = refl
get-set_other (x ∷ xs) zero zero item differ = absurd (differ refl)
get-set_other (x ∷ xs) zero (suc j) item differ = refl
get-set_other (x ∷ xs) (suc i) zero item differ = refl
get-set_other (x ∷ xs) (suc i) (suc j) item differ = get-set_other xs i j item (λ same. differ (ap suc same))

-- the place that is set, where there is one
pub get-set_same : {X : Type 0} (items : List X) (i : ℕ) (item found : X) → slice_get (slice_set items i item) i ≡ Some found → found ≡ item
get-set_same [] i item found is = absurd (true≢false (sym (ap is_some is)))
get-set_same (x ∷ xs) zero item found is = sym (some_same is)
get-set_same (x ∷ xs) (suc i) item found is = get-set_same xs i item found is

module _ (begun : List (Option BegunCall)) (caller : ℕ) where
  -- a call is begun that may do its first step
  pub fit_put : (link : LinkState EndState) (call : BegunCall) → AreFitCalls link begun → MayStep link caller (Some call.wish)
      → AreFitCalls link (slice_set begun caller (Some call))
  fit_put link call fit may other found is = elim (eqb_tells other caller) [
    | inl same ↦ (let found_is = get-set_same begun caller (Some call) (Some found) (subst (λ (n : ℕ). slice_get (slice_set begun caller (Some call)) n ≡ Some (Some found)) same.1 is) in
        subst (λ (n : ℕ). MayStep link n (Some found.wish)) (sym same.1)
        (subst (λ (c : BegunCall). MayStep link caller (Some c.wish)) (sym (some_same found_is)) may))
    | inr differ ↦ fit other found (sym (get-set_other begun caller other (Some call) differ.1) ∙ is)
  ]

  -- a call is begun no more
  pub fit_cleared : (link : LinkState EndState)
      → ((other : ℕ) (found : BegunCall) → caller ≢ other → slice_get begun other ≡ Some (Some found) → MayStep link other (Some found.wish))
      → AreFitCalls link (slice_set begun caller None)
  fit_cleared link fit other found is = elim (eqb_tells other caller) [
    | inl same ↦ absurd (true≢false (ap is_some (get-set_same begun caller None (Some found) (subst (λ (n : ℕ). slice_get (slice_set begun caller None) n ≡ Some (Some found)) same.1 is))))
    | inr differ ↦ fit other found (λ same. differ.1 (sym same)) (sym (get-set_other begun caller other None differ.1) ∙ is)
  ]

  -- the calls of the others stay fit where this caller has begun none
  pub fit_after : (before after : LinkState EndState) → option_and_then (λ found. found) (slice_get begun caller) ≡ None
      → AreFitCalls before begun → OthersMay before after caller → AreFitCalls after begun
  fit_after before after none fit others other found is = elim (eqb_tells other caller) [
    | inl same ↦ absurd (true≢false (ap is_some (ap (option_and_then (λ found. found)) (sym (subst (λ (n : ℕ). slice_get begun n ≡ Some (Some found)) same.1 is)) ∙ none)))
    | inr differ ↦ others other (Some found.wish) (λ same. differ.1 (sym same)) (fit other found is)
  ]

-- nothing is begun where each place has none
pub none_in_none : (places caller : ℕ) (call : BegunCall) → slice_get (replicate places None) caller ≡ Some (Some call) → ⊥
none_in_none zero caller call is = true≢false (sym (ap is_some is))
none_in_none (suc places) zero call is = true≢false (sym (ap is_some (some_same is)))
none_in_none (suc places) (suc caller) call is = none_in_none places caller call is
