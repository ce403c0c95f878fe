-- What becomes of the calls that an actor is yet to make (own).
use Rattle.std.specs.Prelude.{◌≡◌, ℕ, ◌≤◌, List, ◌∷◌, ◌++◌, drop}
use Rattle.lane_model.specs.declared.calls.Wish.{Wish}
use Rattle.lane_model.specs.declared.calls.Wish.TheVariants as wish

-- some of the first calls are gone, at most so many, and new ones come after the others
pub record IsQueued (most : ℕ) (before after : List Wish) : Type 0 where
  pub sent : ℕ
  pub few : sent ≤ most
  pub new : List Wish
  pub left : after ≡ drop sent before ++ new

-- the calls of a worker after a step of it
pub data IsServed (before after : List Wish) : Type 0 where
  -- the first is gone or not, and what a record asks for comes after the others
  Queued : IsQueued 1 before after → IsServed before after
  -- the first is gone, and the buffer of the message that it took is given back before the others are made
  Took : (number : ℕ) → after ≡ wish.Give number ∷ drop 1 before → IsServed before after
