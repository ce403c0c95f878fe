-- Moving entries from one table to another.
use Rattle.std.proofs.Common.{◌≡◌, ℕ, ◌+◌, ◌<◌, ◌≤◌, length, length-append, arith, ◌&&◌, ◌==◌, Bool, true, false, cond, List, [], ◌∷◌, ◌++◌, filter, Some, None, refl, ap, sym, ◌∙◌, subst}
use Rattle.std.specs.List.{IsDistinct, AllByRecursion}
use Rattle.std.specs.Map.{lookup, keys_of}
use Rattle.std.specs.Cmp.{nat_eq_equiv}
use Rattle.std.proofs.lemmas.Cmp.{lists_equiv}
use Rattle.std.proofs.lemmas.List.Elements.{filter-append}
use Rattle.std.proofs.lemmas.List.Sums.{length-filter, count_by-le-length}
use Rattle.indexmap.specs.IndexMap.{IndexMap, insert_entry}
use Rattle.indexmap.proofs.CallerLemmas.{insert_entry-new}
use Rattle.rp_base.specs.Texts.{padded_name}
use Rattle.name_service.specs.Channels.{Key, is_same_name, is_same_key}

same_either_way : (a b : Key) → is_same_key a b ≡ is_same_key b a
same_either_way a b =
    ap (λ t. t && (a.1 == b.1)) ((lists_equiv nat_eq_equiv).symm (padded_name a.0) (padded_name b.0)) ∙ ap (λ t. is_same_name b.0 a.0 && t) (nat_eq_equiv.symm a.1 b.1)

-- what holds of each key holds of one in the middle
at_middle : {V : Type 0} (P : Key → Type 0) (done : List (Key × V)) (entry : Key × V) (rest : List (Key × V)) → AllByRecursion P (keys_of (done ++ entry ∷ rest)) → P entry.0
at_middle P [] entry rest all = all.0
at_middle P (x ∷ done) entry rest all = at_middle P done entry rest all.1

-- among distinct keys, one is not found before its place
fresh : {V : Type 0} (keeps : Key × V → Bool) (done : List (Key × V)) (entry : Key × V) (rest : List (Key × V)) → IsDistinct is_same_key (keys_of (done ++ entry ∷ rest))
    → lookup (is_same_key entry.0) (filter keeps done) ≡ None
unfolding IsDistinct
fresh keeps [] entry rest distinct = refl
fresh keeps (x ∷ done) entry rest distinct =
    let later = fresh keeps done entry rest distinct.1 in
    let apart : is_same_key entry.0 x.0 ≡ false = same_either_way entry.0 x.0 ∙ at_middle (λ key. is_same_key x.0 key ≡ false) done entry rest distinct.0 in
    elim (keeps x) as (λ b. lookup (is_same_key entry.0) (cond b (x ∷ filter keeps done) (filter keeps done)) ≡ None) [
      | true ↦ ap (λ b. cond b (Some x.1) (lookup (is_same_key entry.0) (filter keeps done))) apart ∙ later
      | false ↦ later
    ]

-- one entry more goes behind the others
pub appended : {V S : Type 0} (table : IndexMap Key V S) (keeps : Key × V → Bool) (all done : List (Key × V)) (entry : Key × V) (rest : List (Key × V))
    → all ≡ done ++ entry ∷ rest → IsDistinct is_same_key (keys_of all) → table.entries ≡ filter keeps done
    → insert_entry is_same_key table.entries entry.0 entry.1 ≡ table.entries ++ entry ∷ []
appended table keeps all done entry rest parts distinct moved =
    let absent = fresh keeps done entry rest (subst (λ entries. IsDistinct is_same_key (keys_of entries)) parts distinct) in
    insert_entry-new is_same_key table entry.0 entry.1 (ap (lookup (is_same_key entry.0)) moved ∙ absent)

-- so they are those that stay of one more
pub moved_more : {V : Type 0} (keeps : Key × V → Bool) (entries done : List (Key × V)) (entry : Key × V) → entries ≡ filter keeps done → keeps entry ≡ true
    → entries ++ entry ∷ [] ≡ filter keeps (done ++ entry ∷ [])
moved_more keeps entries done entry moved stays =
    ap (λ list. list ++ entry ∷ []) moved
    ∙ ap (λ b. filter keeps done ++ cond b (entry ∷ []) []) (sym stays)
    ∙ sym (filter-append keeps done (entry ∷ []))

-- an insertion finds room while not all entries are moved
pub room_left : {V : Type 0} (keeps : Key × V → Bool) (all entries done : List (Key × V)) (entry : Key × V) (rest : List (Key × V)) (room spare : ℕ)
    → all ≡ done ++ entry ∷ rest → entries ≡ filter keeps done → length all ≤ room → room ≤ length entries + spare → 0 < spare
room_left keeps all entries done entry rest room spare parts moved fits left =
    omega (arith, ap length parts, ap length moved, length-append done (entry ∷ rest), length-filter keeps done, count_by-le-length keeps done)
