-- Who is bound after a change of a desk was bound before it, or is bound by it.
use Rattle.std.proofs.Common.{◌≡◌, ◌⊎◌, ℕ, ◌+◌, ◌≤◌, Bool, true, false, eqb, List, Option, Some, None, refl, ap, sym, ◌∙◌, inl, inr, arith}
use Rattle.std.proofs.lemmas.Bool.{eqb-true, eqb-false}
use Rattle.rp_base.specs.declared.kinds.BoundEndpoint.{BoundEndpoint}
use Rattle.lane_model.specs.Desks.{DeskMeaning, bound_at, IsBound, KeepsEndpoints, BindsOne, UnbindsOne, AddsAtMostOne, RemovesAtMostOne, KeepsAim, AreDeskLaws}

-- an endpoint that this change has bound: it has the next generation, and so many messages had been handed over
pub record IsNewlyBound {D : Type 0} (meaning : DeskMeaning D) (before after : D) (handed : ℕ) (bound : BoundEndpoint) : Type 0 where
  pub since : bound.since ≡ handed
  pub generation : bound.endpoint.generation ≡ meaning.bindings before + 1
  pub counted : meaning.bindings after ≡ meaning.bindings before + 1

-- no aim changes, the count of bindings does not fall, and who is bound afterwards was bound before or is bound by this change
pub record KeepsBound {D : Type 0} (meaning : DeskMeaning D) (before after : D) (handed : ℕ) : Type 0 where
  pub aim : (message : List ℕ) → meaning.aim after message ≡ meaning.aim before message
  pub counts : meaning.bindings before ≤ meaning.bindings after
  pub bound : (bound : BoundEndpoint) → IsBound meaning after bound → IsBound meaning before bound ⊎ IsNewlyBound meaning before after handed bound

module _ {D : Type 0} (meaning : DeskMeaning D) (before after : D) (handed : ℕ) (aim : KeepsAim meaning before after) where
  same_keep : KeepsEndpoints meaning before after → KeepsBound meaning before after handed
  same_keep kept = record { aim = aim; counts = omega (arith, kept.counted); bound = λ one is. inl (sym (kept.everywhere one.endpoint.address) ∙ is) }

  -- what stands in an option
  some_is : (x y : BoundEndpoint) → Some x ≡ Some y → x ≡ y
  some_is x y e = ap (λ o. content o) e
    where
      content : Option BoundEndpoint → BoundEndpoint
      content None = x
      content (Some z) = z

  binding_keeps : (new : BoundEndpoint) → BindsOne meaning before after handed new → KeepsBound meaning before after handed
  binding_keeps new made = record {
    aim = aim;
    counts = omega (arith, made.counted);
    bound = λ one is.
        elim (eqb one.endpoint.address new.endpoint.address) as (λ b. eqb one.endpoint.address new.endpoint.address ≡ b
        → IsBound meaning before one ⊎ IsNewlyBound meaning before after handed one) [
          | true ↦ λ e.
              let same : one ≡ new = some_is one new (sym is ∙ ap (bound_at meaning after) (eqb-true one.endpoint.address new.endpoint.address e) ∙ made.there) in
              inr (record {
                since = ap (λ (b : BoundEndpoint). b.since) same ∙ made.since;
                generation = ap (λ (b : BoundEndpoint). b.endpoint.generation) same ∙ made.generation;
                counted = made.counted;
              })
          | false ↦ λ e. inl (sym (made.elsewhere one.endpoint.address (eqb-false one.endpoint.address new.endpoint.address e)) ∙ is)
        ] refl;
  }

  unbinding_keeps : (old : BoundEndpoint) → UnbindsOne meaning before after old → KeepsBound meaning before after handed
  unbinding_keeps old unmade = record {
    aim = aim;
    counts = omega (arith, unmade.counted);
    bound = λ one is.
        elim (eqb one.endpoint.address old.endpoint.address) as (λ b. eqb one.endpoint.address old.endpoint.address ≡ b
        → IsBound meaning before one ⊎ IsNewlyBound meaning before after handed one) [
          | true ↦ λ e.
              let none : None ≡ Some one = sym unmade.gone ∙ ap (bound_at meaning after) (sym (eqb-true one.endpoint.address old.endpoint.address e)) ∙ is in
              absurd cc
          | false ↦ λ e. inl (sym (unmade.elsewhere one.endpoint.address (eqb-false one.endpoint.address old.endpoint.address e)) ∙ is)
        ] refl;
  }

  adds_keeps : AddsAtMostOne meaning before after handed → KeepsBound meaning before after handed
  adds_keeps added =
      elim added [
        | inl kept ↦ same_keep kept
        | inr made ↦ binding_keeps made.0 made.1
      ]

  removes_keeps : RemovesAtMostOne meaning before after → KeepsBound meaning before after handed
  removes_keeps removed =
      elim removed [
        | inl kept ↦ same_keep kept
        | inr unmade ↦ unbinding_keeps unmade.0 unmade.1
      ]

module _ {D : Type 0} (meaning : DeskMeaning D) (laws : AreDeskLaws meaning) (desk : D) where
  pub bound_keeps : (address since : ℕ) → KeepsBound meaning desk (meaning.bound desk address since) since
  bound_keeps address since = adds_keeps meaning desk (meaning.bound desk address since) since (laws.bound_aim desk address since) (laws.bound desk address since)

  pub unbound_keeps : (address handed : ℕ) → KeepsBound meaning desk (meaning.unbound desk address) handed
  unbound_keeps address handed = removes_keeps meaning desk (meaning.unbound desk address) handed (laws.unbound_aim desk address) (laws.unbound desk address)

  pub delivered_keeps : (number : ℕ) (message : List ℕ) → KeepsBound meaning desk (meaning.delivered desk number message) (number + 1)
  delivered_keeps number message =
      elim (laws.delivered desk number message) [
        | inl added ↦ adds_keeps meaning desk (meaning.delivered desk number message) (number + 1) (laws.delivered_aim desk number message) added
        | inr removed ↦ removes_keeps meaning desk (meaning.delivered desk number message) (number + 1) (laws.delivered_aim desk number message) removed
      ]
