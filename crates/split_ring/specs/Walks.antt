-- What a caller's seat did: the entries of its own list, each with the step of the ring form that it is (own).
use Rattle.std.specs.Prelude.{◌≡◌, ◌⊎◌, ℕ, List, [], ◌∷◌, ◌++◌}
use base.Stored.{Coded}
use Rattle.lane_model.specs.declared.calls.Wish.{Wish}
use Rattle.lane_model.specs.Desks.{DeskMeaning}
use Rattle.link_words.specs.declared.rule.Event.{Event}
use Rattle.link_words.specs.declared.rule.Event.TheVariants.{Step, Count, Publish, Take}
use Rattle.link_words.specs.Calls.{SeatState}
use Rattle.link_words.specs.Histories.{NeverBack}
use Rattle.link_words.specs.Steps.{Begins, GoesOn, HasWord, StoresWord}
use Rattle.split_ring.specs.Seats.{pass_in}

-- the numbers in hand stay as they are
abbrev pub same_hands : List ℕ → List ℕ
same_hands hands = hands

-- and one is in hand more
abbrev pub one_more : ℕ → List ℕ → List ℕ
one_more number hands = hands ++ number ∷ []

module _ {D : Type 0} (coded : Coded D) (meaning : DeskMeaning D) where
  -- the seat made one step, which is a step of the ring form by its caller: the first of a call, or a later one, which found or stored a number in a word
  abbrev pub IsRingStep : SeatState → SeatState → Type 0
  IsRingStep me me' = (place n : ℕ) × (((follows : ℕ) × (wished : Wish) × Begins coded meaning me (HasWord place n) (pass_in me).number follows wished me')
      ⊎ (GoesOn coded meaning me (HasWord place n) me' ⊎ GoesOn coded meaning me (StoresWord place n) me'))

  -- the seat made the steps of these entries, the newest first, and no other: what it knows changed by them alone, and between them what is in
  -- its slots changed as plain memory does. A handing has an entry of its own, after that of the era that it read. No count that was read or made
  -- is below what the seat had seen
  abbrev pub HasStepped : List Event → SeatState → SeatState → Type 0
  HasStepped [] me me' = me'.0 ≡ me.0
  HasStepped (Take lane inc number message ∷ es) me me' = HasStepped es me me'
  HasStepped (Step made ∷ es) me me' = (before after : SeatState) × HasStepped es me before × IsRingStep before after × (me'.0 ≡ after.0)
  HasStepped (Count lane inc counts ∷ es) me me' = (before after : SeatState) × HasStepped es me before × IsRingStep before after × (me'.0 ≡ after.0)
      × NeverBack lane inc counts (es ++ (pass_in me).own)
  HasStepped (Publish lane inc number message ∷ es) me me' = (before after : SeatState) × HasStepped es me before × IsRingStep before after × (me'.0 ≡ after.0)

  -- the pass is that of the same caller, has done these steps more, the newest first, and what it has in hand has changed so
  pub record HasDone (events : List Event) (hands : List ℕ → List ℕ) (me me' : SeatState) : Type 0 where
    pub own : (pass_in me').own ≡ events ++ (pass_in me).own
    pub number : (pass_in me').number ≡ (pass_in me).number
    pub first : (pass_in me').first ≡ (pass_in me).first
    pub in_hand : (pass_in me').hands ≡ hands (pass_in me).hands
    pub sizes : me'.0.sizes ≡ me.0.sizes
    pub stepped : HasStepped events me me'
