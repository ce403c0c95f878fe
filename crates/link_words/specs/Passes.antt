-- Passes in views: where each is, which one a step moves, and how passes go from one view to another (own).
use Rattle.std.specs.Prelude.{true, Bool, ◌+◌, if◌then◌else◌, ◌==◌, ◌≡◌, ℕ, zero, suc, List, [], ◌∷◌, ◌++◌, false, slice_set, Some, None}
use Rattle.lane_model.specs.declared.TheConstants.{MANAGER}
use Rattle.std.specs.Prelude.{Option as Option_of}
use Rattle.rp_base.specs.declared.kinds.End.{End}
use Rattle.lane_model.specs.Links.{free_number}
use Rattle.link_words.specs.declared.rule.Call.TheVariants.{Rests}
use mathlib.Core.Option.{some}
use lib.ListN.{get_elem?}
use Rattle.link_words.specs.declared.rule.Call.{Call}
use Rattle.link_words.specs.declared.copies.LinkCopy.{LinkCopy}
use Rattle.link_words.specs.declared.rule.Pass.{Pass}
use Rattle.link_words.specs.declared.rule.View.{View}
use Rattle.link_words.specs.PlacedDesks.{no_tables}

-- the seat j has this pass at the place l of its list
abbrev pub PassAt : List View → ℕ → ℕ → Pass → Type 0
PassAt views j l p = (v : View) × (get_elem? views j ≡ some v) × (get_elem? v.passes l ≡ some p)

-- each pass of any view
abbrev pub EachPass : (Pass → Type 0) → List View → Type 0
EachPass F views = (j l : ℕ) (p : Pass) → PassAt views j l p → F p

-- the list has this number
abbrev pub HasNumber : List ℕ → ℕ → Type 0
HasNumber out n = (k : ℕ) × (get_elem? out k ≡ some n)

-- the view has the manager's own pass
abbrev pub Manages : View → Type 0
Manages v = (k : ℕ) × (b : Pass) × (get_elem? v.passes k ≡ some b) × (b.number ≡ MANAGER)

-- the pass of a view that a step moves
pub record Mover (v : View) : Type 0 where
  pub place : ℕ
  pub pass : Pass
  pub here : get_elem? v.passes place ≡ some pass

-- the pass in another call
abbrev pub with_call : Pass → Call → Pass
with_call p call = record p { call = call }

-- the pass in another call, with these numbers in hand
abbrev pub with_call_and_hands : Pass → Call → List ℕ → Pass
with_call_and_hands p call hands = record p { call = call; hands = hands }

-- the view after a step of one of its passes, with the copy that the step picks
abbrev pub with_pass : (v : View) → Mover v → Pass → Option_of LinkCopy → View
with_pass v o w k = record v { passes = slice_set v.passes o.place w; copy = k }

-- what a join leaves behind
abbrev pub spent_view : View
spent_view = record {
  passes = [];
  out = [];
  users = [];
  inc = 0;
  reclaims = [];
  ended_passes = [];
  is_closed = false;
  copy = None;
  sizes = record { to_host = record { entries = 0; capacity = 0; own = 0 }; to_remote = record { entries = 0; capacity = 0; own = 0 }; book = 0; first = 0; desks = no_tables };
}

-- all passes but the last
abbrev pub all_but_last : List Pass → List Pass
all_but_last [] = []
all_but_last (p ∷ []) = []
all_but_last (p ∷ q ∷ ps) = p ∷ all_but_last (q ∷ ps)

-- the last pass alone
abbrev pub last_pass_only : List Pass → List Pass
last_pass_only [] = []
last_pass_only (p ∷ []) = p ∷ []
last_pass_only (p ∷ q ∷ ps) = last_pass_only (q ∷ ps)

-- the numbers of passes
abbrev pub numbers_of : List Pass → List ℕ
numbers_of [] = []
numbers_of (p ∷ ps) = p.number ∷ numbers_of ps

-- a split: the last pass goes out
abbrev pub without_last : View → View
without_last v = record v { passes = all_but_last v.passes; out = numbers_of (last_pass_only v.passes) ++ v.out }

-- the view of the seat that it goes to
abbrev pub only_last : View → View
only_last v = record spent_view { passes = last_pass_only v.passes; sizes = v.sizes }

-- a join: the passes of the other come after; the list of those out keeps their numbers
abbrev pub with_passes_from : View → View → View
with_passes_from v w = record v { passes = v.passes ++ w.passes }

-- a caller is made on this end: its pass comes after the others, under the least free number
abbrev pub new_pass : End → ℕ → ℕ → Pass
new_pass e number first = record { number = number; call = Rests e; first = first; own = []; hands = [] }

-- whether the list has this number
abbrev pub is_listed : ℕ → List ℕ → Bool
is_listed n [] = false
is_listed n (x ∷ xs) = if x == n then true else is_listed n xs

-- the first incarnation of which the books say all that it sends: this one, or the next where its number was freed in this one
abbrev pub first_incarnation : ℕ → View → ℕ
first_incarnation n v = if is_listed n v.reclaims then v.inc + 1 else v.inc

-- the view with a caller more under this number, where there is one
abbrev pub with_caller_as : End → View → Option_of LinkCopy → Option_of ℕ → View
with_caller_as e v k None = v
with_caller_as e v k (Some n) = record v { copy = k; passes = v.passes ++ new_pass e n (first_incarnation n v) ∷ []; users = slice_set v.users n (Some e) }

-- the view with a caller more under the least number that is free
abbrev pub with_new_caller : End → View → Option_of LinkCopy → View
with_new_caller e v k = with_caller_as e v k (free_number v.users)

-- a caller is made, and goes out to a seat of its own; the copy is what the making picks
abbrev pub without_new : End → View → Option_of LinkCopy → View
without_new e v k = without_last (with_new_caller e v k)

-- the view of the new caller's seat
abbrev pub only_new : End → View → View
only_new e v = only_last (with_new_caller e v None)

-- the pass at this place is gone
abbrev pub without_pass : ℕ → List Pass → List Pass
without_pass k [] = []
without_pass zero (p ∷ ps) = ps
without_pass (suc k) (p ∷ ps) = p ∷ without_pass k ps

-- the number of a carried caller is free, and its pass is kept
abbrev pub after_end_at : (v : View) → Mover v → Option_of LinkCopy → View
after_end_at v o k = record v { copy = k; reclaims = o.pass.number ∷ v.reclaims; ended_passes = o.pass ∷ v.ended_passes; passes = without_pass o.place v.passes; users = slice_set v.users o.pass.number None }

-- the number of the caller of another seat is free, and the seat is spent
abbrev pub callers_without : List Pass → List (Option_of End) → List (Option_of End)
callers_without [] users = users
callers_without (p ∷ ps) users = slice_set users p.number None

-- the manager's view when the caller of another seat has ended: its pass is kept
abbrev pub after_end_with : View → View → View
after_end_with v w = record v { copy = None; reclaims = numbers_of w.passes ++ v.reclaims; ended_passes = w.passes ++ v.ended_passes; users = callers_without w.passes v.users }

-- where the pass of this number is
abbrev pub place_of_number : ℕ → List Pass → ℕ
place_of_number n [] = 0
place_of_number n (p ∷ ps) = if p.number == n then 0 else suc (place_of_number n ps)

-- the pass at this place alone
abbrev pub only_pass : ℕ → List Pass → List Pass
only_pass k [] = []
only_pass zero (p ∷ ps) = p ∷ []
only_pass (suc k) (p ∷ ps) = only_pass k ps

-- the manager's view when the caller of this number, which it carries, has ended
abbrev pub after_end_of : ℕ → View → Option_of LinkCopy → View
after_end_of n v k = record v { copy = k; reclaims = n ∷ v.reclaims; ended_passes = only_pass (place_of_number n v.passes) v.passes ++ v.ended_passes; passes = without_pass (place_of_number n v.passes) v.passes; users = slice_set v.users n None }

-- those that were out have come back
abbrev pub after_settle : View → Option_of LinkCopy → View
after_settle v k = record v { out = []; copy = k }
