-- The generations of endpoints rise.
use Rattle.std.proofs.Common.{◌⊎◌, ℕ, ◌+◌, ◌<◌, ◌≤◌, List, [], ◌∷◌, arith}
use Rattle.std.proofs.Common.{inl, inr}
use Rattle.rp_base.specs.declared.kinds.BoundEndpoint.{BoundEndpoint}
use Rattle.lane_model.specs.Desks.{IsBound}
use Rattle.lane_model.proofs.KeptBindings.{KeepsBound, bound_keeps, delivered_keeps, unbound_keeps}
use Rattle.channel_bus.specs.Sides.{EndState, side_meaning}
use Rattle.channel_bus.specs.Laws.{side_laws}
use Rattle.end_laws.specs.Changes.{EndChange, Bind, Unbind, Deliver, end_after, end_after_all, AreCounted}

-- the count of bindings does not fall, and who is bound was bound before or has a generation above the count and within the new one
record Rises (before after : EndState) : Type 0 where
  counts : before.bindings.count ≤ after.bindings.count
  bound : (one : BoundEndpoint) → IsBound side_meaning after one
      → IsBound side_meaning before one ⊎ ((before.bindings.count < one.endpoint.generation) × (one.endpoint.generation ≤ after.bindings.count))

kept_rises : (before after : EndState) (handed : ℕ) → KeepsBound side_meaning before after handed → Rises before after
kept_rises before after handed kept = record {
  counts = kept.counts;
  bound = λ one is.
      elim (kept.bound one is) [
        | inl was ↦ inl was
        | inr new ↦ inr (omega (arith, new.generation), omega (arith, new.generation, new.counted))
      ];
}

change_rises : (side : EndState) (change : EndChange) → Rises side (end_after side change)
change_rises side (Bind address since) = kept_rises side (side_meaning.bound side address since) since (bound_keeps side_meaning side_laws side address since)
change_rises side (Unbind address) = kept_rises side (side_meaning.unbound side address) 0 (unbound_keeps side_meaning side_laws side address 0)
change_rises side (Deliver number message) = kept_rises side (side_meaning.delivered side number message) (number + 1) (delivered_keeps side_meaning side_laws side number message)

changes_rise : (side : EndState) (changes : List EndChange) → Rises side (end_after_all side changes)
changes_rise side [] = record { counts = omega arith; bound = λ one is. inl is }
changes_rise side (change ∷ changes) =
    let first = change_rises side change in
    let rest = changes_rise (end_after side change) changes in
    record {
      counts = omega (arith, first.counts, rest.counts);
      bound = λ one is.
          elim (rest.bound one is) [
            | inl between ↦ elim (first.bound one between) [
              | inl was ↦ inl was
              | inr new ↦ inr (new.0, omega (arith, new.1, rest.counts))
            ]
            | inr new ↦ inr (omega (arith, new.0, first.counts), new.1)
          ];
    }

-- a change leaves no generation above the count
pub change_counted : (side : EndState) (change : EndChange) → AreCounted side.bindings → AreCounted (end_after side change).bindings
change_counted side change counted one is =
    let rises = change_rises side change in
    elim (rises.bound one is) [
      | inl was ↦ let old = counted one was in omega (arith, old, rises.counts)
      | inr new ↦ new.1
    ]

pub none_counted : (side : EndState) → AreCounted (side_meaning.fresh side).bindings
none_counted side one is = absurd cc

-- an endpoint that is bound after changes was bound before or has a generation above all that were
pub generation_rises : (side : EndState) (changes : List EndChange) (old new : BoundEndpoint) → AreCounted side.bindings → IsBound side_meaning side old → IsBound side_meaning (end_after_all side changes) new
    → IsBound side_meaning side new ⊎ (old.endpoint.generation < new.endpoint.generation)
generation_rises side changes old new counted was is =
    elim ((changes_rise side changes).bound new is) [
      | inl before ↦ inl before
      | inr above ↦ let within = counted old was in inr (omega (arith, within, above.0))
    ]
