-- A front of a front is a front.
use Rattle.std.proofs.Common.{◌≡◌, ℕ, List, ◌++◌, ◌∙◌, ap, append_assoc}
use Rattle.word_kinds.specs.Fronts.{IsFront}

pub front_of_more : (before between after rest : List ℕ) → between ≡ before ++ rest → IsFront between after → IsFront before after
front_of_more before between after rest e more =
    record { rest = rest ++ more.rest; is = more.is ∙ ap (λ xs. xs ++ more.rest) e ∙ append_assoc before rest more.rest }

pub front_of_front : {before between after : List ℕ} → IsFront before between → IsFront between after → IsFront before after
front_of_front {before} {between} {after} first more = front_of_more before between after first.rest first.is more
