-- What becomes of all that a table asks for, and the placement of a load.
use Rattle.std.proofs.Common.{◌≡◌, ℕ, ◌+◌, Bool, true, false, List, [], ◌∷◌, ◌++◌, drop, Some, Result, Ok, Err, inl, inr, refl, ap, sym, ◌∙◌}
use Rattle.std.specs.Prelude.{◌==◌, not, slice_get}
use Rattle.std.proofs.lemmas.Bool.{cases_Bool, eqb-true}
use Rattle.std.proofs.lemmas.List.Elements.{filter-append}
use Rattle.resource_table.specs.declared.entries.Entry.{Entry}
use Rattle.resource_table.specs.declared.entries.Entry.TheVariants as entry
use Rattle.resource_table.specs.declared.entries.Ring.{Ring}
use Rattle.memory_pool.specs.Places.{next_block}
use Rattle.memory_pool.specs.Placements.{placed_from, placement, then_ok}
use Rattle.memory_pool.specs.Wanted.{in_order, is_anywhere, wanted_by, wanted_from}
use Rattle.memory_pool.specs.declared.blocks.Block.{Block}
use Rattle.memory_pool.specs.declared.faults.PlaceFault.{PlaceFault}
use Rattle.memory_pool.specs.declared.regions.Region.{Region}
use Rattle.memory_pool.proofs.Steps.{drop_get}
use Rattle.vring_layout.specs.Sizes.{ring_size}
use Rattle.board_file.specs.declared.boards.Alias.{Alias}
use Rattle.load_findings.specs.Aliases.{address_through, entry_through, ring_through}
use Rattle.load_findings.specs.Placings.{Outcome, entries_through, no_outcome, outcome_of, tried, with_block}
use Rattle.load_findings.specs.Walks.{of_kind}

-- the blocks where nothing was refused, or the first refusal
abbrev pub answer_of : List Block → List PlaceFault → Result (List Block) PlaceFault
answer_of placed [] = Ok placed
answer_of placed (refused ∷ more) = Err refused

module _ {W : Type 0} (next : List Block → W → Result Block PlaceFault) where
  -- a refusal stays the first
  stays_after : (placed : List Block) (refused : PlaceFault) (more : List PlaceFault) (rest : List W) (found : Result Block PlaceFault)
      → ((placed : List Block) (more : List PlaceFault) → let last = tried next (record { placed = placed; refused = refused ∷ more }) rest in answer_of last.placed last.refused ≡ Err refused)
      → let last = tried next (with_block (record { placed = placed; refused = refused ∷ more }) found) rest in answer_of last.placed last.refused ≡ Err refused
  stays_after placed refused more rest (Ok block) goes = goes (placed ++ block ∷ []) more
  stays_after placed refused more rest (Err other) goes = goes placed (more ++ other ∷ [])

  refused_stays : (placed : List Block) (refused : PlaceFault) (more : List PlaceFault) (all : List W)
      → let last = tried next (record { placed = placed; refused = refused ∷ more }) all in answer_of last.placed last.refused ≡ Err refused
  refused_stays placed refused more [] = refl
  refused_stays placed refused more (one ∷ rest) = stays_after placed refused more rest (next placed one) (λ placed more. refused_stays placed refused more rest)

  -- after a block the answer goes on, and after a refusal it is that
  answer_after : (answer : List Block → List W → Result (List Block) PlaceFault) (placed : List Block) (rest : List W) (found : Result Block PlaceFault)
      → ((placed : List Block) → let last = tried next (record { placed = placed; refused = [] }) rest in answer_of last.placed last.refused ≡ answer placed rest)
      → let last = tried next (with_block (record { placed = placed; refused = [] }) found) rest in
      answer_of last.placed last.refused ≡ then_ok (λ block. answer (placed ++ block ∷ []) rest) found
  answer_after answer placed rest (Ok block) goes = goes (placed ++ block ∷ [])
  answer_after answer placed rest (Err refused) goes = refused_stays placed refused [] rest

  -- where nothing is refused yet, an answer that goes on with each block and ends at a refusal is what is placed, or the first refusal
  tried_answer : (answer : List Block → List W → Result (List Block) PlaceFault)
      → ((placed : List Block) → answer placed [] ≡ Ok placed)
      → ((placed : List Block) (one : W) (rest : List W) → answer placed (one ∷ rest) ≡ then_ok (λ block. answer (placed ++ block ∷ []) rest) (next placed one))
      → (placed : List Block) (all : List W)
      → let last = tried next (record { placed = placed; refused = [] }) all in answer_of last.placed last.refused ≡ answer placed all
  tried_answer answer none some placed [] = sym (none placed)
  tried_answer answer none some placed (one ∷ rest) =
      answer_after answer placed rest (next placed one) (λ placed. tried_answer answer none some placed rest) ∙ sym (some placed one rest)

  -- what is tried in two parts
  pub tried_parts : (outcome : Outcome) (first then : List W) → tried next outcome (first ++ then) ≡ tried next (tried next outcome first) then
  tried_parts outcome [] then = refl
  tried_parts outcome (one ∷ rest) then = tried_parts (with_block outcome (next outcome.placed one)) rest then

-- a kind of what is asked for in two parts
pub kind_parts : {W : Type 0} (test : W → Bool) (anywhere : Bool) (first then : List W) → of_kind test anywhere (first ++ then) ≡ of_kind test anywhere first ++ of_kind test anywhere then
kind_parts test true first then = filter-append test first then
kind_parts test false first then = filter-append (λ one. not (test one)) first then

-- the outcome of a placement says what it answers
pub outcome_answer : (regions : List Region) (entries : List Entry) → let last = outcome_of regions entries in answer_of last.placed last.refused ≡ placement regions entries
outcome_answer regions entries =
    tried_answer (next_block regions) (placed_from regions) (λ placed. refl) (λ placed one rest. refl) [] (in_order (wanted_from 0 entries))

address_none : (da len : ℕ) → address_through [] da len ≡ da
address_none da len =
    elim (cases_Bool (da == 0xffffffff)) [
      | inl any ↦ rw any (sym (eqb-true da 0xffffffff any))
      | inr other ↦ rw other refl
    ]

ring_none : (ring : Ring) → ring_through [] ring ≡ ring
ring_none ring = ap (λ da. record ring { da = da }) (address_none ring.da (ring_size ring.num ring.align))

entry_none : (one : Entry) → entry_through [] one ≡ one
entry_none (entry.Carveout da pa len name) = ap (λ da. entry.Carveout da pa len name) (address_none da len)
entry_none (entry.Devmem da pa len name) = refl
entry_none (entry.Trace da len name) = refl
entry_none (entry.Device device) =
    ap (λ ring. entry.Device (record device { first = ring; second = ring_through [] device.second })) (ring_none device.first)
    ∙ ap (λ ring. entry.Device (record device { second = ring })) (ring_none device.second)
entry_none (entry.Skipped type) = refl

-- without an alias, all is read as it is
pub entries_none : (entries : List Entry) → entries_through [] entries ≡ entries
entries_none [] = refl
entries_none (one ∷ rest) = rw (entry_none one, entries_none rest) refl

-- an entry more is tried
pub entry_tried : (regions : List Region) (aliases : List Alias) (entries : List Entry) (anywhere : Bool) (outcome now : Outcome) (index : ℕ) (one : Entry)
    → slice_get entries index ≡ Some one
    → now ≡ tried (next_block regions) outcome (of_kind is_anywhere anywhere (wanted_by index (entry_through aliases one)))
    → tried (next_block regions) now (of_kind is_anywhere anywhere (wanted_from (index + 1) (entries_through aliases (drop (index + 1) entries))))
    ≡ tried (next_block regions) outcome (of_kind is_anywhere anywhere (wanted_from index (entries_through aliases (drop index entries))))
entry_tried regions aliases entries anywhere outcome now index one is made =
    let here = wanted_by index (entry_through aliases one) in
    let rest = wanted_from (index + 1) (entries_through aliases (drop (index + 1) entries)) in
    ap (λ so_far. tried (next_block regions) so_far (of_kind is_anywhere anywhere rest)) made
    ∙ sym (tried_parts (next_block regions) outcome (of_kind is_anywhere anywhere here) (of_kind is_anywhere anywhere rest))
    ∙ ap (tried (next_block regions) outcome) (sym (kind_parts is_anywhere anywhere here rest))
    ∙ ap (λ left. tried (next_block regions) outcome (of_kind is_anywhere anywhere (wanted_from index (entries_through aliases left)))) (sym (drop_get entries index one is))

-- what has an address, and then what may be anywhere, is all
pub all_tried : (regions : List Region) (entries : List Entry) (empty first last : Outcome) → empty ≡ no_outcome
    → first ≡ tried (next_block regions) empty (of_kind is_anywhere false (wanted_from 0 entries))
    → last ≡ tried (next_block regions) first (of_kind is_anywhere true (wanted_from 0 entries))
    → last ≡ outcome_of regions entries
all_tried regions entries empty first last none given anywhere =
    let all = wanted_from 0 entries in
    anywhere
    ∙ ap (λ outcome. tried (next_block regions) outcome (of_kind is_anywhere true all)) (given ∙ ap (λ outcome. tried (next_block regions) outcome (of_kind is_anywhere false all)) none)
    ∙ sym (tried_parts (next_block regions) no_outcome (of_kind is_anywhere false all) (of_kind is_anywhere true all))
