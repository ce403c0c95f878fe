-- A patched table is a good table, and its entries are those of the table with the fixes in their fields.
use Rattle.std.proofs.Common.{◌≡◌, ℕ, zero, suc, ◌+◌, ◌≤◌, ◌<◌, ◌⊎◌, true, cond, List, [], ◌∷◌, length, refl, sym, ap, subst, ◌∙◌, arith, map, nat_lt, eqb, IsTrue, inl, inr}
use Rattle.std.specs.List.{All, flat_map, range_with_len}
use Rattle.std.proofs.lemmas.Bool.{and_parts, cases_Bool, cases_eq, cases_order, eq-eqb, false≢true, ltb-true, ne_eqb, not-true}
use Rattle.std.proofs.lemmas.List.Elements.{All-cons, All-head, All-nil, All-tail, All-weaker}
use Rattle.resource_table.specs.Layout.{field, fw_rsc_vdev}
use Rattle.resource_table.specs.Entries.{device_at, entries_of, entry_at, entry_count, entry_of_type, ring_count, start_of, type_at, type_of, vring_start}
use Rattle.resource_table.specs.Tables.{GoodTable, device_size, entry_size, is_rpmsg, is_rpmsg_of_type, offsets_end, size_of_type}
use Rattle.resource_table.specs.Patches.{Write, after_writes, carveout_writes, device_writes, fix_writes, is_fix_of, patched_of, ring_writes, rpmsg_writes, takes_fix}
use Rattle.resource_table.specs.PatchedEntries.{IsSmallFix, fixed_entry, patched_entries, patched_from, set_up, with_fix}
use Rattle.resource_table.specs.declared.kinds.ResourceType.{ResourceType}
use Rattle.resource_table.specs.declared.kinds.ResourceType.TheVariants as type
use Rattle.resource_table.specs.declared.entries.Entry.{Entry}
use Rattle.resource_table.specs.declared.entries.Entry.TheVariants as entry
use Rattle.resource_table.specs.declared.fixes.Fix.{Fix}
use Rattle.resource_table.proofs.Agreement.{StandsIn, agree_outside, agree_twice}
use Rattle.resource_table.proofs.FixedEntries.{IsEntryAfter, carveout_fixed, device_fixed, device_set_up, none_set_up}
use Rattle.resource_table.proofs.KeptEntries.{SameTests, map_range_same}
use Rattle.resource_table.proofs.SameTables.{SameForm, SameTable, apart, behind_front, count_is, form_after, form_size, form_twice, form_whole, same_fault, start_is}
use Rattle.resource_table.proofs.Sound.{sound_fix, sound_table}
use Rattle.resource_table.proofs.Writes.{LiesIn, length-written, written_after}

-- ---- one entry

two_stand : (from to : ℕ) (v w : Write) → StandsIn from to v → StandsIn from to w → All (StandsIn from to) (v ∷ w ∷ [])
two_stand from to v w hv hw = All-cons (StandsIn from to) v (w ∷ []) hv (All-cons (StandsIn from to) w [] hw (All-nil (StandsIn from to)))

three_stand : (from to : ℕ) (u v w : Write) → StandsIn from to u → StandsIn from to v → StandsIn from to w → All (StandsIn from to) (u ∷ v ∷ w ∷ [])
three_stand from to u v w hu hv hw = All-cons (StandsIn from to) u (v ∷ w ∷ []) hu (two_stand from to v w hv hw)

-- what a fix writes into the entry that begins at a place
abbrev writes_at : ℕ → Fix → List Write
writes_at start fix = cond fix.rings (ring_writes fix (vring_start start fix.ring)) (carveout_writes fix start)

-- writes into an entry of a type make this entry of it
record IsMade (kind : ResourceType) (a : List ℕ) (start : ℕ) (writes : List Write) (one : Entry) : Type 0 where
  stand : All (StandsIn start (start + size_of_type kind a start)) writes
  made : IsEntryAfter kind a (after_writes writes a) start one

fix_makes : (kind : ResourceType) (a : List ℕ) (start : ℕ) (fix : Fix) → start + size_of_type kind a start ≤ length a → takes_fix fix (entry_of_type kind a start) ≡ true → IsSmallFix fix
    → IsMade kind a start (writes_at start fix) (with_fix fix (entry_of_type kind a start))
unfolding device_at
fix_makes type.Carveout a start fix inside takes small =
    let plain = not-true fix.rings takes in
    let made : IsMade type.Carveout a start (carveout_writes fix start) (with_fix fix (entry_of_type type.Carveout a start)) =
    record { stand = two_stand start (start + 56) _ _ (omega arith, omega arith) (omega arith, omega arith); made = carveout_fixed a start fix inside small } in
    subst (λ rings. IsMade type.Carveout a start (cond rings (ring_writes fix (vring_start start fix.ring)) (carveout_writes fix start)) (with_fix fix (entry_of_type type.Carveout a start))) (sym plain) made
fix_makes type.Devmem a start fix inside takes small = absurd (false≢true takes)
fix_makes type.Trace a start fix inside takes small = absurd (false≢true takes)
fix_makes type.Vdev a start fix inside takes small =
    let both = and_parts fix.rings (nat_lt fix.ring (ring_count a start)) takes in
    let among = ltb-true fix.ring (ring_count a start) both.1 in
    let end = start + device_size a start in
    let made : IsMade type.Vdev a start (ring_writes fix (vring_start start fix.ring)) (with_fix fix (entry_of_type type.Vdev a start)) =
    record {
      stand = three_stand start end _ _ _ (omega arith, omega (arith, among)) (omega arith, omega (arith, among)) (omega arith, omega (arith, among));
      made = device_fixed a start fix inside among small;
    } in
    subst (λ rings. IsMade type.Vdev a start (cond rings (ring_writes fix (vring_start start fix.ring)) (carveout_writes fix start)) (with_fix fix (entry_of_type type.Vdev a start))) (sym both.0) made
fix_makes type.Other a start fix inside takes small = absurd (false≢true takes)

takes_with : (fix other : Fix) (one : Entry) → takes_fix fix (with_fix other one) ≡ takes_fix fix one
takes_with fix other (entry.Carveout da pa len name) = refl
takes_with fix other (entry.Devmem da pa len name) = refl
takes_with fix other (entry.Trace da len name) = refl
takes_with fix other (entry.Device device) = refl
takes_with fix other (entry.Skipped kind) = refl

rpmsg_kind : (kind : ResourceType) (bytes : List ℕ) (start : ℕ) → is_rpmsg_of_type kind bytes start ≡ true → kind ≡ type.Vdev
rpmsg_kind type.Carveout bytes start is = absurd (false≢true is)
rpmsg_kind type.Devmem bytes start is = absurd (false≢true is)
rpmsg_kind type.Trace bytes start is = absurd (false≢true is)
rpmsg_kind type.Vdev bytes start is = refl
rpmsg_kind type.Other bytes start is = absurd (false≢true is)

-- ---- a table of which some writes were made, and its entries

record IsPatching (bytes now : List ℕ) (entries : ℕ → Entry) : Type 0 where
  same : SameTable bytes now
  entry : (i : ℕ) → i < entry_count bytes → entry_at now (start_of bytes i) ≡ entries i

module _ (bytes : List ℕ) (good : GoodTable bytes) where
  ends : (now : List ℕ) (i : ℕ) → SameTable bytes now → i < entry_count bytes → start_of bytes i + entry_size bytes (start_of bytes i) ≤ length now
  ends now i same below = let whole = ((sound_table bytes good).entry i below).whole in omega (arith, same.len, whole)

  -- writes that stand in an entry leave the others
  one_step : (now : List ℕ) (entries more : ℕ → Entry) (i : ℕ) (writes : List Write) → IsPatching bytes now entries → i < entry_count bytes
      → All (StandsIn (start_of bytes i) (start_of bytes i + entry_size bytes (start_of bytes i))) writes
      → SameForm now (after_writes writes now) (start_of bytes i) → entry_at (after_writes writes now) (start_of bytes i) ≡ more i
      → ((j : ℕ) → (i ≡ j → ⊥) → more j ≡ entries j) → IsPatching bytes (after_writes writes now) more
  one_step now entries more i writes patching below stand form is others =
      let start = start_of bytes i in
      let end = start + entry_size bytes start in
      let same = patching.same in
      let inside = ends now i same below in
      let after = after_writes writes now in
      let len = length-written writes now (All-weaker (StandsIn start end) (LiesIn (length now)) (λ write h. omega (arith, h.1, inside)) writes stand) in
      let behind = behind_front bytes i good below in
      let other : (j : ℕ) → j < entry_count bytes → (i ≡ j → ⊥) → SameForm now after (start_of bytes j) × (entry_at after (start_of bytes j) ≡ entry_at now (start_of bytes j)) =
      λ j among differs.
      let size = form_size bytes now (start_of bytes j) (same.form j among) in
      let free : (start_of bytes j + entry_size now (start_of bytes j) ≤ start) ⊎ (end ≤ start_of bytes j) =
      elim (apart bytes i j good below among differs) [ inl before ↦ inl (omega (arith, before, size)) | inr past ↦ inr (omega (arith, past)) ] in
      form_whole now after (start_of bytes j) len (agree_outside writes now start end (start_of bytes j) (start_of bytes j + entry_size now (start_of bytes j)) stand inside free) in
      record {
        same = record {
          len = len ∙ same.len;
          front = agree_twice bytes now after 0 (offsets_end bytes) same.front (agree_outside writes now start end 0 (offsets_end bytes) stand inside (inl behind));
          form = λ j among. form_twice bytes now after (start_of bytes j) (same.form j among)
              (elim (cases_eq i j) [
                | inl here ↦ subst (λ k. SameForm now after (start_of bytes k)) here form
                | inr differs ↦ (other j among differs).0
              ]);
        };
        entry = λ j among.
            elim (cases_eq i j) [
              | inl here ↦ subst (λ k. entry_at after (start_of bytes k) ≡ more k) here is
              | inr differs ↦ (other j among differs).1 ∙ patching.entry j among ∙ sym (others j differs)
            ];
      }

  -- writes that make an entry
  made_step : (now : List ℕ) (entries more : ℕ → Entry) (i : ℕ) (writes : List Write) → IsPatching bytes now entries → i < entry_count bytes
      → IsMade (type_at now (start_of bytes i)) now (start_of bytes i) writes (more i)
      → ((j : ℕ) → (i ≡ j → ⊥) → more j ≡ entries j) → IsPatching bytes (after_writes writes now) more
  made_step now entries more i writes patching below makes others =
      let start = start_of bytes i in
      let size = form_size bytes now start (patching.same.form i below) in
      let made = form_after (type_at now start) now (after_writes writes now) start (more i) refl makes.made in
      one_step now entries more i writes patching below (subst (λ n. All (StandsIn start (start + n)) writes) size makes.stand) made.0 made.1 others

  inside_now : (now : List ℕ) (i : ℕ) → SameTable bytes now → i < entry_count bytes → start_of bytes i + entry_size now (start_of bytes i) ≤ length now
  inside_now now i same below = omega (arith, ends now i same below, form_size bytes now (start_of bytes i) (same.form i below))

  abbrev fixed_by : Fix → (ℕ → Entry) → ℕ → Entry
  fixed_by fix entries j = cond (eqb fix.entry j) (with_fix fix (entries j)) (entries j)

  fix_step : (now : List ℕ) (entries : ℕ → Entry) (fix : Fix) → IsPatching bytes now entries → IsSmallFix fix → fix.entry < entry_count bytes
      → takes_fix fix (entries fix.entry) ≡ true → IsPatching bytes (after_writes (fix_writes bytes fix) now) (fixed_by fix entries)
  fix_step now entries fix patching small below takes =
      let i = fix.entry in
      let start = start_of bytes i in
      let is = patching.entry i below in
      let here : fixed_by fix entries i ≡ with_fix fix (entry_at now start) =
      ap (λ b. cond b (with_fix fix (entries i)) (entries i)) (eq-eqb i i refl) ∙ ap (with_fix fix) (sym is) in
      let makes = fix_makes (type_at now start) now start fix (inside_now now i patching.same below) (ap (takes_fix fix) is ∙ takes) small in
      made_step now entries (fixed_by fix entries) i (fix_writes bytes fix) patching below
      (subst (IsMade (type_at now start) now start (fix_writes bytes fix)) (sym here) makes)
      (λ j differs. ap (λ b. cond b (with_fix fix (entries j)) (entries j)) (ne_eqb i j differs))

  -- all fixes, in order
  fixes_step : (fixes : List Fix) (now : List ℕ) (entries : ℕ → Entry) → IsPatching bytes now entries → All IsSmallFix fixes → All (λ fix. fix.entry < entry_count bytes) fixes
      → All (λ fix. takes_fix fix (entries fix.entry) ≡ true) fixes
      → IsPatching bytes (after_writes (flat_map (fix_writes bytes) fixes) now) (λ j. fixed_entry fixes j (entries j))
  fixes_step [] now entries patching small below takes = patching
  fixes_step (fix ∷ more) now entries patching small below takes =
      let T = λ (es : ℕ → Entry) (f : Fix). takes_fix f (es f.entry) ≡ true in
      let step = fix_step now entries fix patching (All-head IsSmallFix fix more small) (All-head (λ f. f.entry < entry_count bytes) fix more below) (All-head (T entries) fix more takes) in
      let still : (f : Fix) → T entries f → T (fixed_by fix entries) f =
      λ f h. elim (cases_Bool (eqb fix.entry f.entry)) [
        | inl same ↦ ap (λ b. takes_fix f (cond b (with_fix fix (entries f.entry)) (entries f.entry))) same ∙ takes_with f fix (entries f.entry) ∙ h
        | inr differs ↦ ap (λ b. takes_fix f (cond b (with_fix fix (entries f.entry)) (entries f.entry))) differs ∙ h
      ] in
      subst (λ now. IsPatching bytes now (λ j. fixed_entry more j (fixed_by fix entries j)))
      (sym (written_after (fix_writes bytes fix) (flat_map (fix_writes bytes) more) now))
      (fixes_step more (after_writes (fix_writes bytes fix) now) (fixed_by fix entries) step (All-tail IsSmallFix fix more small) (All-tail (λ f. f.entry < entry_count bytes) fix more below)
      (All-weaker (T entries) (T (fixed_by fix entries)) still more (All-tail (T entries) fix more takes)))

  -- ---- the device for RPMsg

  abbrev set_up_at : ℕ → (ℕ → Entry) → ℕ → Entry
  set_up_at i entries j = cond (eqb i j) (set_up (entries j)) (entries j)

  set_up_here : (i : ℕ) (entries : ℕ → Entry) → set_up_at i entries i ≡ set_up (entries i)
  set_up_here i entries = ap (λ b. cond b (set_up (entries i)) (entries i)) (eq-eqb i i refl)

  set_up_there : (i j : ℕ) (entries : ℕ → Entry) → (i ≡ j → ⊥) → set_up_at i entries j ≡ entries j
  set_up_there i j entries differs = ap (λ b. cond b (set_up (entries j)) (entries j)) (ne_eqb i j differs)

  rpmsg_now : (now : List ℕ) (i : ℕ) → SameTable bytes now → i < entry_count bytes → is_rpmsg_of_type (type_at now (start_of bytes i)) now (start_of bytes i) ≡ is_rpmsg bytes i
  rpmsg_now now i same below =
      let form = same.form i below in
      ap (λ k. is_rpmsg_of_type k now (start_of bytes i)) (ap type_of form.type) ∙ form.tests.rpmsg

  ready_makes : (now : List ℕ) (i : ℕ) → SameTable bytes now → i < entry_count bytes → is_rpmsg bytes i ≡ true
      → IsMade (type_at now (start_of bytes i)) now (start_of bytes i) (rpmsg_writes (field fw_rsc_vdev.dfeatures (start_of bytes i) bytes) (start_of bytes i)) (set_up (entry_at now (start_of bytes i)))
  ready_makes now i same below is =
      let start = start_of bytes i in
      let form = same.form i below in
      let kind = rpmsg_kind (type_at bytes start) bytes start is in
      let kind_now : type_at now start ≡ type.Vdev = ap type_of form.type ∙ kind in
      let tests = subst (λ k. SameTests k bytes now start) kind form.tests in
      let inside = subst (λ k. start + size_of_type k now start ≤ length now) kind_now (inside_now now i same below) in
      let features = field fw_rsc_vdev.dfeatures start bytes in
      let made = device_set_up now start features inside tests.offers (subst (λ k. is_rpmsg_of_type k now start ≡ true) kind_now (rpmsg_now now i same below ∙ is)) in
      let end = start + device_size now start in
      subst (λ k. IsMade k now start (rpmsg_writes features start) (set_up (entry_of_type k now start))) (sym kind_now)
      (record { stand = two_stand start end _ _ (omega arith, omega arith) (omega arith, omega arith); made = made })

  device_step : (now : List ℕ) (entries : ℕ → Entry) (i : ℕ) → IsPatching bytes now entries → i < entry_count bytes → IsPatching bytes (after_writes (device_writes bytes i) now) (set_up_at i entries)
  device_step now entries i patching below =
      let start = start_of bytes i in
      let features = field fw_rsc_vdev.dfeatures start bytes in
      let P = λ (writes : List Write). IsPatching bytes (after_writes writes now) (set_up_at i entries) in
      let here : set_up_at i entries i ≡ set_up (entry_at now start) = set_up_here i entries ∙ ap set_up (sym (patching.entry i below)) in
      elim (cases_Bool (is_rpmsg bytes i)) [
        | inl is ↦
            subst (λ b. P (cond b (rpmsg_writes features start) [])) (sym is)
            (made_step now entries (set_up_at i entries) i (rpmsg_writes features start) patching below
            (subst (IsMade (type_at now start) now start (rpmsg_writes features start)) (sym here) (ready_makes now i patching.same below is))
            (λ j differs. set_up_there i j entries differs))
        | inr none ↦
            subst (λ b. P (cond b (rpmsg_writes features start) [])) (sym none)
            (record {
              same = patching.same;
              entry = λ j among.
                  elim (cases_eq i j) [
                    | inl same ↦
                        subst (λ k. entry_at now (start_of bytes k) ≡ set_up_at i entries k) same
                        (sym (here ∙ none_set_up (type_at now start) now start (rpmsg_now now i patching.same below ∙ none)))
                    | inr differs ↦ patching.entry j among ∙ sym (set_up_there i j entries differs)
                  ];
            })
      ]

  -- the entries of a range of numbers are set up
  abbrev set_up_in : ℕ → ℕ → (ℕ → Entry) → ℕ → Entry
  set_up_in a zero entries = entries
  set_up_in a (suc n) entries = set_up_in (a + 1) n (set_up_at a entries)

  set_up_before : (a n j : ℕ) (entries : ℕ → Entry) → j < a → set_up_in a n entries j ≡ entries j
  set_up_before a zero j entries before = refl
  set_up_before a (suc n) j entries before = set_up_before (a + 1) n j (set_up_at a entries) (omega arith) ∙ set_up_there a j entries (λ e. omega (arith, e))

  set_up_among : (a n j : ℕ) (entries : ℕ → Entry) → a ≤ j → j < a + n → set_up_in a n entries j ≡ set_up (entries j)
  set_up_among a zero j entries low high = absurd (omega arith)
  set_up_among a (suc n) j entries low high =
      elim (cases_order a j) [
        | inl same ↦
            set_up_before (a + 1) n j (set_up_at a entries) (omega (arith, same))
            ∙ subst (λ k. set_up_at a entries k ≡ set_up (entries k)) same (set_up_here a entries)
        | inr (inl more) ↦
            set_up_among (a + 1) n j (set_up_at a entries) (omega (arith, more)) (omega (arith, high)) ∙ ap set_up (set_up_there a j entries (λ e. omega (arith, e, more)))
        | inr (inr less) ↦ absurd (omega (arith, less, low))
      ]

  devices_step : (a n : ℕ) (now : List ℕ) (entries : ℕ → Entry) → IsPatching bytes now entries → a + n ≤ entry_count bytes
      → IsPatching bytes (after_writes (flat_map (device_writes bytes) (range_with_len a n)) now) (set_up_in a n entries)
  devices_step a zero now entries patching among = patching
  devices_step a (suc n) now entries patching among =
      subst (λ now. IsPatching bytes now (set_up_in (a + 1) n (set_up_at a entries)))
      (sym (written_after (device_writes bytes a) (flat_map (device_writes bytes) (range_with_len (a + 1) n)) now))
      (devices_step (a + 1) n (after_writes (device_writes bytes a) now) (set_up_at a entries) (device_step now entries a patching (omega arith)) (omega arith))

  -- ---- the whole

  nothing_yet : IsPatching bytes bytes (λ i. entry_at bytes (start_of bytes i))
  nothing_yet = record {
    same = record {
      len = refl;
      front = record { same = λ place low high. refl };
      form = λ i below. record { type = refl; tests = record { size = refl; reserved = refl; varying = λ index. refl; rpmsg = refl; offers = refl } };
    };
    entry = λ i below. refl;
  }

  module _ (fixes : List Fix) (named : All (λ fix. IsTrue (is_fix_of (entries_of bytes) fix)) fixes) (small : All IsSmallFix fixes) where
    abbrev old : ℕ → Entry
    old i = entry_at bytes (start_of bytes i)

    abbrev fixed : ℕ → Entry
    fixed j = fixed_entry fixes j (old j)

    patching : IsPatching bytes (patched_of bytes fixes) (set_up_in 0 (entry_count bytes) fixed)
    patching =
        let P : Fix → Type 0 = λ fix. IsTrue (is_fix_of (entries_of bytes) fix) in
        let below = All-weaker P (λ fix. fix.entry < entry_count bytes) (λ fix h. (sound_fix bytes fix (sound_table bytes good) h).among) fixes named in
        let takes = All-weaker P (λ fix. takes_fix fix (old fix.entry) ≡ true) (λ fix h. (sound_fix bytes fix (sound_table bytes good) h).takes) fixes named in
        subst (λ now. IsPatching bytes now (set_up_in 0 (entry_count bytes) fixed))
        (sym (written_after (flat_map (fix_writes bytes) fixes) (flat_map (device_writes bytes) (range_with_len 0 (entry_count bytes))) bytes))
        (devices_step 0 (entry_count bytes) (after_writes (flat_map (fix_writes bytes) fixes) bytes) fixed (fixes_step fixes bytes old nothing_yet small below takes) (omega arith))

    -- a patched table is a good table
    pub patched_good : GoodTable (patched_of bytes fixes)
    patched_good = same_fault bytes (patched_of bytes fixes) patching.same ∙ good

    patched_map : (f : ℕ → Entry) (a n : ℕ) → map (λ i. set_up (fixed_entry fixes i (f i))) (range_with_len a n) ≡ patched_from fixes a (map f (range_with_len a n))
    patched_map f a zero = refl
    patched_map f a (suc n) = ap (λ more. set_up (fixed_entry fixes a (f a)) ∷ more) (patched_map f (a + 1) n)

    -- and its entries are those of the table, with the fixes in their fields and the device for RPMsg set up
    pub patched_reads : entries_of (patched_of bytes fixes) ≡ patched_entries fixes (entries_of bytes)
    patched_reads =
        let now = patched_of bytes fixes in
        let count = entry_count bytes in
        let all = patching in
        ap (λ n. map (λ i. entry_at now (start_of now i)) (range_with_len 0 n)) (count_is bytes now all.same)
        ∙ map_range_same (λ i. entry_at now (start_of now i)) (λ i. set_up (fixed i)) 0 count
        (λ i low high.
        ap (entry_at now) (start_is bytes now all.same i (omega arith)) ∙ all.entry i (omega arith) ∙ set_up_among 0 count i fixed low high)
        ∙ patched_map old 0 count
