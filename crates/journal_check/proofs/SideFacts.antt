-- The rules at a place, and one more entry of a map.
use Rattle.std.proofs.Common.{◌≡◌, ℕ, Bool, true, false, cond, List, Option, Some, None, refl, ap, ◌∙◌}
use Rattle.std.specs.Prelude.{find}
use Rattle.std.specs.List.{range_with_len}
use Rattle.std.specs.Option.{option_or}
use Rattle.journal_check.specs.declared.marks.What.{What}
use Rattle.journal_check.specs.Entries.{Place, Entry}
use Rattle.journal_check.specs.Rules.{breaks_here}

-- the least rule that a line here breaks
abbrev pub least_here : Bool → What → List Entry → Option ℕ
least_here is_closed line here = find (λ rule. breaks_here rule is_closed line here) (range_with_len 2 9)

-- a line with where it stands
abbrev pub entry : What → Option Place → Bool → Entry
entry line place is_closed = record { line = line; place = place; is_closed = is_closed }

inserted : {X : Type 0} (b : Bool) (x : X) (o : Option X) → cond b (Some x) o ≡ option_or (cond b (Some x) None) o
inserted true x o = refl
inserted false x o = refl

-- one more entry of a map, by what it had
pub one_more_told : {X : Type 0} (b : Bool) (x : X) (new old told : Option X) → new ≡ cond b (Some x) old → old ≡ told → new ≡ option_or (cond b (Some x) None) told
one_more_told b x new old told is kept = is ∙ inserted b x old ∙ ap (option_or (cond b (Some x) None)) kept
