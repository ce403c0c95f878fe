-- Blocks that are kept in the order of their addresses.
use Rattle.std.proofs.Common.{◌≡◌, ℕ, ◌+◌, ◌≤◌, Bool, true, false, inl, inr, List, [], ◌∷◌, ◌++◌, ◌||◌, length, get_or, refl, not, ap, sym, ◌∙◌, arith, leb}
use Rattle.std.specs.List.{list_any, insert}
use Rattle.std.specs.List.Sorted.{IsPartitionPoint, IsPermutation}
use Rattle.std.proofs.lemmas.Bool.{leb-true, leb-false}
use Rattle.std.proofs.lemmas.List.Elements.{filter-append}
use Rattle.std.proofs.lemmas.List.Folds.{list_any-append}
use Rattle.std.proofs.lemmas.List.Sorted.{IsNonDecreasingBy-insert, list_any-IsPermutation}
use Rattle.memory_pool.specs.Ranges.{meets_block}
use Rattle.memory_pool.specs.Places.{is_window, memory_of}
use Rattle.memory_pool.specs.OrderedBlocks.{IsOrdered, IsMemoryOf}
use Rattle.memory_pool.specs.declared.blocks.Block.{Block}
use Rattle.memory_pool.proofs.Find.{none_at}
use Rattle.memory_pool.proofs.Meets.{apart_sides}

-- a block that meets none, put between those that begin no later and those that begin later
pub insert_ordered : (memory : List Block) (place : ℕ) (block : Block) → 1 ≤ block.len → list_any (meets_block block.da block.len) memory ≡ false → IsOrdered memory → place ≤ length memory → IsPartitionPoint (λ other. leb other.da block.da ≡ true) (λ other. leb other.da block.da ≡ false) memory place → IsOrdered (insert memory place block)
insert_ordered memory place block some apart ordered bound point = record {
  starts = IsNonDecreasingBy-insert (λ other. other.da) memory place block ordered.starts bound
      (λ k d lt. leb-true (get_or memory k d).da block.da (point.0 k d (omega arith) lt))
      (λ k d ge lt. omega (arith, leb-false (get_or memory k d).da block.da (point.1 k d ge lt)));
  ends = IsNonDecreasingBy-insert (λ other. other.da + other.len) memory place block ordered.ends bound
      (λ k d lt.
      let other = get_or memory k d in
      let order = leb-true other.da block.da (point.0 k d (omega arith) lt) in
      let lies = apart_sides block.da block.len other.da other.len (none_at (meets_block block.da block.len) memory k d (omega arith) apart) in
      elim lies [ inl h ↦ omega arith | inr h ↦ omega arith ])
      (λ k d ge lt.
      let other = get_or memory k d in
      let order = leb-false other.da block.da (point.1 k d ge lt) in
      let lies = apart_sides block.da block.len other.da other.len (none_at (meets_block block.da block.len) memory k d lt apart) in
      elim lies [ inl h ↦ omega arith | inr h ↦ omega arith ]);
}

swapped : (one many other : Bool) → many ≡ other → (one || many) ≡ (other || (one || false))
swapped true many true e = refl
swapped true many false e = refl
swapped false many true e = e
swapped false many false e = e

-- one block of memory more, at the end of a placement and in its place
pub memory_more : (blocks memory new : List Block) (block : Block) → IsMemoryOf blocks memory → is_window block ≡ false → IsOrdered new → IsPermutation (block ∷ memory) new → IsMemoryOf (blocks ++ block ∷ []) new
memory_more blocks memory new block kept other ordered moved = record {
  ordered = ordered;
  same = λ test.
      let one : memory_of (block ∷ []) ≡ block ∷ [] = rw other refl in
      let more : memory_of (blocks ++ block ∷ []) ≡ memory_of blocks ++ block ∷ [] =
      filter-append (λ other. not (is_window other)) blocks (block ∷ []) ∙ ap (λ rest. memory_of blocks ++ rest) one in
      let front = sym (list_any-IsPermutation test (block ∷ memory) new moved) in
      let back = ap (λ all. list_any test all) more ∙ list_any-append test (memory_of blocks) (block ∷ []) in
      front ∙ swapped (test block) (list_any test memory) (list_any test (memory_of blocks)) (kept.same test) ∙ sym back;
}
