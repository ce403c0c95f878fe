-- One step over a list of wishes or entries.
use Rattle.std.proofs.Common.{◌≡◌, ℕ, suc, ◌+◌, List, ◌∷◌, ◌++◌, drop, Some, ap, sym, ◌∙◌, append_assoc, add-one}
use Rattle.std.specs.Prelude.{slice_get}
use Rattle.std.proofs.Math.Seq.{drop-cons}
use Rattle.std.proofs.lemmas.Option.{slice_get_within, get_or_from_slice_get}
use Rattle.resource_table.specs.declared.entries.Entry.{Entry}
use Rattle.memory_pool.specs.Wanted.{wanted_by, wanted_from}
use Rattle.memory_pool.specs.declared.wanted.Wanted.{Wanted}

pub drop_get : {X : Type 0} (xs : List X) (i : ℕ) (x : X) → slice_get xs i ≡ Some x → drop i xs ≡ x ∷ drop (i + 1) xs
drop_get xs i x e = rw add-one (drop-cons xs i x (slice_get_within xs i x e) ∙ ap (λ first. first ∷ drop (suc i) xs) (get_or_from_slice_get xs i x x e))

-- the wishes of one entry more
pub wanted_more : (all : List Wanted) (entries : List Entry) (index : ℕ) (one : Entry) → slice_get entries index ≡ Some one → (all ++ wanted_by index one) ++ wanted_from (index + 1) (drop (index + 1) entries) ≡ all ++ wanted_from index (drop index entries)
wanted_more all entries index one is =
    append_assoc all (wanted_by index one) (wanted_from (index + 1) (drop (index + 1) entries))
    ∙ ap (λ left. all ++ wanted_from index left) (sym (drop_get entries index one is))
