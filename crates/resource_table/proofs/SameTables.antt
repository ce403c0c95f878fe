-- A table that was written over passes the tests that it passed before.
use Rattle.std.proofs.Common.{◌≡◌, ℕ, zero, suc, ◌+◌, ◌*◌, ◌≤◌, ◌<◌, ◌==◌, ◌&&◌, ◌||◌, not, ◌⊎◌, Bool, false, List, [], ◌∷◌, length, refl, sym, ap, subst, ◌∙◌, arith, map, nat_lt, Option, None, inl, inr}
use Rattle.std.specs.List.{range_with_len, list_any}
use Rattle.std.proofs.lemmas.Bool.{and_cases, cases_order, ltb-false, or_parts}
use Rattle.resource_table.specs.Layout.{field, fw_rsc_hdr, resource_table}
use Rattle.rp_base.specs.Faults.{fault_if, first_fault}
use Rattle.resource_table.specs.Entries.{entry_at, entry_count, entry_of_type, start_of, type_at, type_of}
use Rattle.resource_table.specs.Tables.{GoodTable, earlier_spans, entries_fault, entry_fault, entry_size, entry_span, fixed_size, form_fault, has_wrong_offsets, header_fault, is_past_end, is_rpmsg, is_rpmsg_of_type, offsets_end, size_of_type, spans_meet, table_fault, uses_reserved, varying_fault}
use Rattle.resource_table.specs.declared.faults.TableFault.{TableFault}
use Rattle.resource_table.specs.declared.faults.TableFault.TheVariants as fault
use Rattle.resource_table.specs.declared.kinds.ResourceType.{ResourceType}
use Rattle.resource_table.specs.declared.kinds.ResourceType.TheVariants as type
use Rattle.resource_table.specs.declared.entries.Entry.{Entry}
use Rattle.resource_table.specs.declared.spans.Span.{Span}
use Rattle.resource_table.proofs.Agreement.{Agree, narrow, number_same}
use Rattle.resource_table.proofs.FixedEntries.{IsEntryAfter}
use Rattle.resource_table.proofs.KeptEntries.{SameTests, entry_whole, map_range_same, tests_whole}
use Rattle.resource_table.proofs.Ranges.{neither, none_in_range}
use Rattle.resource_table.proofs.Sound.{passes}

-- ---- one entry

-- the tests of the entry that begins at a place read the same
pub record SameForm (a b : List ℕ) (start : ℕ) : Type 0 where
  pub type : field fw_rsc_hdr.type start b ≡ field fw_rsc_hdr.type start a
  pub tests : SameTests (type_at a start) a b start

pub form_twice : (a b c : List ℕ) (start : ℕ) → SameForm a b start → SameForm b c start → SameForm a c start
form_twice a b c start one two =
    let tests = subst (λ kind. SameTests kind b c start) (ap type_of one.type) two.tests in
    record {
      type = two.type ∙ one.type;
      tests = record {
        size = tests.size ∙ one.tests.size;
        reserved = tests.reserved ∙ one.tests.reserved;
        varying = λ index. tests.varying index ∙ one.tests.varying index;
        rpmsg = tests.rpmsg ∙ one.tests.rpmsg;
        offers = tests.offers ∙ one.tests.offers;
      };
    }

pub form_after : (kind : ResourceType) (a b : List ℕ) (start : ℕ) (one : Entry) → type_at a start ≡ kind → IsEntryAfter kind a b start one → SameForm a b start × (entry_at b start ≡ one)
form_after kind a b start one is made = (
  record { type = made.type; tests = subst (λ kind. SameTests kind a b start) (sym is) made.tests },
  ap (λ kind. entry_of_type kind b start) (ap type_of made.type ∙ is) ∙ made.is,
)

pub size_least : (kind : ResourceType) (bytes : List ℕ) (start : ℕ) → 4 ≤ size_of_type kind bytes start
size_least type.Carveout bytes start = omega arith
size_least type.Devmem bytes start = omega arith
size_least type.Trace bytes start = omega arith
size_least type.Vdev bytes start = omega arith
size_least type.Other bytes start = omega arith

-- an entry whose bytes agree
pub form_whole : (a b : List ℕ) (start : ℕ) → length b ≡ length a → Agree a b start (start + entry_size a start) → SameForm a b start × (entry_at b start ≡ entry_at a start)
form_whole a b start len agree =
    let kind = type_at a start in
    let least = size_least kind a start in
    let head = number_same 4 (start + 0) a b (narrow a b start (start + entry_size a start) (start + 0) (start + 0 + 4) agree (omega arith) (omega (arith, least))) in
    form_after kind a b start (entry_of_type kind a start) refl (record { type = head; tests = tests_whole kind a b start len agree; is = entry_whole kind a b start len head agree })

pub form_size : (a b : List ℕ) (start : ℕ) → SameForm a b start → entry_size b start ≡ entry_size a start
form_size a b start form = ap (λ kind. size_of_type kind b start) (ap type_of form.type) ∙ form.tests.size

-- ---- entries stand apart

none_meets : (p : Span → Bool) (f : ℕ → Span) (a n j : ℕ) → list_any p (map f (range_with_len a n)) ≡ false → a ≤ j → j < a + n → p (f j) ≡ false
none_meets p f a zero j none low high = absurd (omega arith)
none_meets p f a (suc n) j none low high =
    let parts = or_parts (p (f a)) (list_any p (map f (range_with_len (a + 1) n))) none in
    elim (cases_order a j) [
      | inl same ↦ ap (λ k. p (f k)) (sym same) ∙ parts.0
      | inr (inl more) ↦ none_meets p f (a + 1) n j parts.1 (omega (arith, more)) (omega (arith, high))
      | inr (inr less) ↦ absurd (omega (arith, less, low))
    ]

entries_clear : (bytes : List ℕ) → GoodTable bytes → entries_fault bytes ≡ None
entries_clear bytes good = (neither _ _ (neither _ _ good).1).0

clear : (bytes : List ℕ) (i : ℕ) → GoodTable bytes → i < entry_count bytes → list_any (spans_meet (entry_span bytes i)) (earlier_spans bytes i) ≡ false
clear bytes i good below =
    let one = none_in_range (entry_fault bytes) 0 (entry_count bytes) i i (entries_clear bytes good) below (omega arith) in
    passes _ _ (neither _ _ (neither _ _ (neither _ _ one).1).1).0

parted : (one other : Span) → spans_meet one other ≡ false → (other.to ≤ one.from) ⊎ (one.to ≤ other.from)
parted one other none =
    elim (and_cases (nat_lt one.from other.to) (nat_lt other.from one.to) none) [
      | inl first ↦ inl (ltb-false one.from other.to first)
      | inr second ↦ inr (ltb-false other.from one.to second)
    ]

-- an entry stands behind the offsets
pub behind_front : (bytes : List ℕ) (i : ℕ) → GoodTable bytes → i < entry_count bytes → offsets_end bytes ≤ start_of bytes i
behind_front bytes i good below =
    let head : Span = record { from = 0; to = offsets_end bytes } in
    let parts = or_parts (spans_meet (entry_span bytes i) head) (list_any (spans_meet (entry_span bytes i)) (map (entry_span bytes) (range_with_len 0 i))) (clear bytes i good below) in
    let least = size_least (type_at bytes (start_of bytes i)) bytes (start_of bytes i) in
    elim (parted (entry_span bytes i) head parts.0) [ inl behind ↦ behind | inr none ↦ absurd (omega (arith, none, least)) ]

apart_earlier : (bytes : List ℕ) (i j : ℕ) → GoodTable bytes → i < entry_count bytes → j < i
    → ((entry_span bytes j).to ≤ (entry_span bytes i).from) ⊎ ((entry_span bytes i).to ≤ (entry_span bytes j).from)
apart_earlier bytes i j good below earlier =
    let head : Span = record { from = 0; to = offsets_end bytes } in
    let parts = or_parts (spans_meet (entry_span bytes i) head) (list_any (spans_meet (entry_span bytes i)) (map (entry_span bytes) (range_with_len 0 i))) (clear bytes i good below) in
    parted (entry_span bytes i) (entry_span bytes j) (none_meets (spans_meet (entry_span bytes i)) (entry_span bytes) 0 i j parts.1 (omega arith) (omega (arith, earlier)))

-- two entries have no byte in common
pub apart : (bytes : List ℕ) (i j : ℕ) → GoodTable bytes → i < entry_count bytes → j < entry_count bytes → (i ≡ j → ⊥)
    → ((entry_span bytes j).to ≤ (entry_span bytes i).from) ⊎ ((entry_span bytes i).to ≤ (entry_span bytes j).from)
apart bytes i j good one other differs =
    elim (cases_order i j) [
      | inl same ↦ absurd (differs same)
      | inr (inl less) ↦ elim (apart_earlier bytes j i good other less) [ inl before ↦ inr before | inr behind ↦ inl behind ]
      | inr (inr more) ↦ apart_earlier bytes i j good one more
    ]

-- ---- all tests

-- a table of the same front, whose entries have the same form
pub record SameTable (a b : List ℕ) : Type 0 where
  pub len : length b ≡ length a
  pub front : Agree a b 0 (offsets_end a)
  pub form : (i : ℕ) → i < entry_count a → SameForm a b (start_of a i)

any_range_same : (p q : ℕ → Bool) (a n : ℕ) → ((i : ℕ) → a ≤ i → i < a + n → p i ≡ q i) → list_any p (range_with_len a n) ≡ list_any q (range_with_len a n)
any_range_same p q a zero same = refl
any_range_same p q a (suc n) same =
    ap (λ b. b || list_any p (range_with_len (a + 1) n)) (same a (omega arith) (omega arith))
    ∙ ap (λ b. q a || b) (any_range_same p q (a + 1) n (λ i low high. same i (omega arith) (omega arith)))

module _ (a b : List ℕ) (same : SameTable a b) where
  pub count_is : entry_count b ≡ entry_count a
  count_is = number_same 4 (0 + 4) a b (narrow a b 0 (offsets_end a) (0 + 4) (0 + 4 + 4) same.front (omega arith) (omega arith))

  pub start_is : (i : ℕ) → i < entry_count a → start_of b i ≡ start_of a i
  start_is i below = number_same 4 (16 + 4 * i) a b (narrow a b 0 (offsets_end a) (16 + 4 * i) (16 + 4 * i + 4) same.front (omega arith) (omega arith))

  abbrev header_by : ℕ → ℕ → ℕ → Bool → Option TableFault
  header_by len ver reserved wrong =
      first_fault (fault_if (nat_lt len resource_table.size) fault.TableShort ∷ fault_if (not (ver == 1)) fault.Version ∷ fault_if (not (reserved == 0)) fault.Reserved ∷ fault_if wrong fault.Offsets ∷ [])

  past_is : (i : ℕ) → i < entry_count a → is_past_end b i ≡ is_past_end a i
  past_is i below = ap (λ n. nat_lt n (start_of b i)) same.len ∙ ap (nat_lt (length a)) (start_is i below)

  abbrev wrong_by : ℕ → ℕ → Bool → Bool
  wrong_by len count past = nat_lt 256 count || nat_lt len (16 + 4 * count) || past

  wrong_is : has_wrong_offsets b ≡ has_wrong_offsets a
  wrong_is =
      let past : list_any (is_past_end b) (range_with_len 0 (entry_count b)) ≡ list_any (is_past_end a) (range_with_len 0 (entry_count a)) =
      ap (λ n. list_any (is_past_end b) (range_with_len 0 n)) count_is ∙ any_range_same (is_past_end b) (is_past_end a) 0 (entry_count a) (λ i low high. past_is i (omega arith)) in
      ap (λ n. wrong_by n (entry_count b) (list_any (is_past_end b) (range_with_len 0 (entry_count b)))) same.len
      ∙ ap (λ n. wrong_by (length a) n (list_any (is_past_end b) (range_with_len 0 (entry_count b)))) count_is
      ∙ ap (wrong_by (length a) (entry_count a)) past

  header_is : header_fault b ≡ header_fault a
  header_is =
      let ver = number_same 4 (0 + 0) a b (narrow a b 0 (offsets_end a) (0 + 0) (0 + 0 + 4) same.front (omega arith) (omega arith)) in
      let reserved = number_same 8 (0 + 8) a b (narrow a b 0 (offsets_end a) (0 + 8) (0 + 8 + 8) same.front (omega arith) (omega arith)) in
      ap (λ n. header_by n (field resource_table.ver 0 b) (field resource_table.reserved 0 b) (has_wrong_offsets b)) same.len
      ∙ ap (λ n. header_by (length a) n (field resource_table.reserved 0 b) (has_wrong_offsets b)) ver
      ∙ ap (λ n. header_by (length a) (field resource_table.ver 0 a) n (has_wrong_offsets b)) reserved
      ∙ ap (header_by (length a) (field resource_table.ver 0 a) (field resource_table.reserved 0 a)) wrong_is

  abbrev form_by : ℕ → ℕ → ℕ → Bool → Option TableFault → Option TableFault
  form_by index len end reserved varying = first_fault (fault_if (nat_lt len end) (fault.EntryShort index) ∷ fault_if reserved (fault.EntryReserved index) ∷ varying ∷ [])

  abbrev form_of : ResourceType → List ℕ → ℕ → ℕ → Option TableFault
  form_of kind bytes index start = form_by index (length bytes) (start + fixed_size kind) (uses_reserved kind bytes start) (varying_fault kind bytes index start)

  form_is : (i : ℕ) → i < entry_count a → form_fault b i ≡ form_fault a i
  form_is i below =
      let start = start_of a i in
      let kind = type_at a start in
      let form = same.form i below in
      ap (λ s. form_of (type_at b s) b i s) (start_is i below)
      ∙ ap (λ k. form_of k b i start) (ap type_of form.type)
      ∙ ap (λ n. form_by i n (start + fixed_size kind) (uses_reserved kind b start) (varying_fault kind b i start)) same.len
      ∙ ap (λ r. form_by i (length a) (start + fixed_size kind) r (varying_fault kind b i start)) form.tests.reserved
      ∙ ap (form_by i (length a) (start + fixed_size kind) (uses_reserved kind a start)) (form.tests.varying i)

  rpmsg_is : (i : ℕ) → i < entry_count a → is_rpmsg b i ≡ is_rpmsg a i
  rpmsg_is i below =
      let start = start_of a i in
      let form = same.form i below in
      ap (λ s. is_rpmsg_of_type (type_at b s) b s) (start_is i below) ∙ ap (λ k. is_rpmsg_of_type k b start) (ap type_of form.type) ∙ form.tests.rpmsg

  abbrev span : ℕ → ℕ → Span
  span from to = record { from = from; to = to }

  span_is : (i : ℕ) → i < entry_count a → entry_span b i ≡ entry_span a i
  span_is i below =
      ap (λ s. span s (s + entry_size b s)) (start_is i below) ∙ ap (λ n. span (start_of a i) (start_of a i + n)) (form_size a b (start_of a i) (same.form i below))

  spans_are : (i : ℕ) → i < entry_count a → earlier_spans b i ≡ earlier_spans a i
  spans_are i below =
      ap (λ n. span 0 (16 + 4 * n) ∷ map (entry_span b) (range_with_len 0 i)) count_is
      ∙ ap (λ spans. span 0 (offsets_end a) ∷ spans) (map_range_same (entry_span b) (entry_span a) 0 i (λ j low high. span_is j (omega (arith, below, high))))

  abbrev entry_by : ℕ → Option TableFault → Bool → Bool → Option TableFault
  entry_by index form second meets = first_fault (form ∷ fault_if second (fault.SecondRpmsg index) ∷ fault_if meets fault.Offsets ∷ [])

  entry_is : (i : ℕ) → i < entry_count a → entry_fault b i ≡ entry_fault a i
  entry_is i below =
      let second : (is_rpmsg b i && list_any (is_rpmsg b) (range_with_len 0 i)) ≡ (is_rpmsg a i && list_any (is_rpmsg a) (range_with_len 0 i)) =
      ap (λ r. r && list_any (is_rpmsg b) (range_with_len 0 i)) (rpmsg_is i below)
      ∙ ap (λ r. is_rpmsg a i && r) (any_range_same (is_rpmsg b) (is_rpmsg a) 0 i (λ j low high. rpmsg_is j (omega (arith, below, high)))) in
      let meets : list_any (spans_meet (entry_span b i)) (earlier_spans b i) ≡ list_any (spans_meet (entry_span a i)) (earlier_spans a i) =
      ap (λ s. list_any (spans_meet s) (earlier_spans b i)) (span_is i below) ∙ ap (list_any (spans_meet (entry_span a i))) (spans_are i below) in
      ap (λ f. entry_by i f (is_rpmsg b i && list_any (is_rpmsg b) (range_with_len 0 i)) (list_any (spans_meet (entry_span b i)) (earlier_spans b i))) (form_is i below)
      ∙ ap (λ s. entry_by i (form_fault a i) s (list_any (spans_meet (entry_span b i)) (earlier_spans b i))) second
      ∙ ap (entry_by i (form_fault a i) (is_rpmsg a i && list_any (is_rpmsg a) (range_with_len 0 i))) meets

  entries_are : entries_fault b ≡ entries_fault a
  entries_are =
      ap (λ n. first_fault (map (entry_fault b) (range_with_len 0 n))) count_is
      ∙ ap first_fault (map_range_same (entry_fault b) (entry_fault a) 0 (entry_count a) (λ i low high. entry_is i (omega arith)))

  -- such a table has the same first fault
  pub same_fault : table_fault b ≡ table_fault a
  same_fault = ap (λ h. first_fault (h ∷ entries_fault b ∷ [])) header_is ∙ ap (λ e. first_fault (header_fault a ∷ e ∷ [])) entries_are
