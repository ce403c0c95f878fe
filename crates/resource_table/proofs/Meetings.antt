-- Which spans meet, and what is kept of the earlier entries.
use Rattle.std.proofs.Common.{◌≡◌, ℕ, zero, suc, ◌+◌, ◌-◌, ◌≤◌, ◌<◌, ◌||◌, Bool, false, List, [], ◌∷◌, ◌++◌, length, get_or, refl, sym, ap, ◌∙◌, arith, map, nat_lt, inl, inr}
use Rattle.std.specs.List.{All, range_with_len, list_any}
use Rattle.std.proofs.lemmas.Bool.{le-ltb, cases_lt}
use Rattle.std.proofs.Math.Bool.{or-false}
use Rattle.std.proofs.lemmas.List.{map-append}
use Rattle.std.proofs.lemmas.List.Elements.{All-weaker, All-push, All-same}
use Rattle.std.proofs.lemmas.List.Folds.{list_any_none, list_any-append}
use Rattle.resource_table.specs.Entries.{start_of, type_at}
use Rattle.resource_table.specs.Tables.{spans_meet, entry_span, earlier_spans, is_rpmsg, offsets_end, fixed_size}
use Rattle.resource_table.specs.Walks.{IsEarlier, HaveFixedParts}
use Rattle.resource_table.specs.declared.spans.Span.{Span}
use Rattle.resource_table.specs.declared.testing.Earlier.{Earlier}
use Rattle.resource_table.proofs.Ranges.{range_more}

no_meeting : (span other : Span) → other.to ≤ span.from → spans_meet span other ≡ false
no_meeting span other behind = let first : nat_lt span.from other.to ≡ false = le-ltb _ _ behind in rw first refl

-- a span that begins where others have ended meets none of them
pub none_meets : (span : Span) (end : ℕ) (spans : List Span) → end ≤ span.from → All (λ other. other.to ≤ end) spans
    → list_any (spans_meet span) spans ≡ false
none_meets span end spans behind ends =
    list_any_none (spans_meet span) spans (λ k d below. no_meeting span (get_or spans k d) (let h = ends k d below in omega (arith, h)))

-- a span meets one of the entries from i on where it meets entry i or a later one
pub meets_more : (span : Span) (bytes : List ℕ) (i n : ℕ) → i < n
    → list_any (spans_meet span) (map (entry_span bytes) (range_with_len i (n - i)))
    ≡ (spans_meet span (entry_span bytes i) || list_any (spans_meet span) (map (entry_span bytes) (range_with_len (i + 1) (n - (i + 1)))))
meets_more span bytes i n below = ap (λ range. list_any (spans_meet span) (map (entry_span bytes) range)) (range_more i n below)

-- one number more of a range
range_suc : (a n j : ℕ) → a + n ≡ j → range_with_len a (suc n) ≡ range_with_len a n ++ j ∷ []
range_suc a zero j at = let e : a ≡ j = omega arith in rw e refl
range_suc a (suc n) j at = ap (λ rest. a ∷ rest) (range_suc (a + 1) n j (omega arith))

range_last : (n : ℕ) → range_with_len 0 (n + 1) ≡ range_with_len 0 n ++ n ∷ []
range_last n = let e : n + 1 ≡ suc n = omega arith in rw e (range_suc 0 n n (omega arith))

-- what is kept of one entry more
pub earlier_more : (bytes : List ℕ) (index : ℕ) (before after : Earlier) (rpmsg : Bool) → IsEarlier bytes index before
    → start_of bytes index + fixed_size (type_at bytes (start_of bytes index)) ≤ length bytes
    → rpmsg ≡ is_rpmsg bytes index → after.has_rpmsg ≡ (before.has_rpmsg || rpmsg)
    → before.end ≤ after.end → (entry_span bytes index).to ≤ after.end
    → IsEarlier bytes (index + 1) after
earlier_more bytes index before after rpmsg kept fixed is has less ends =
    let numbers = range_last index in
    let head : Span = record { from = 0; to = offsets_end bytes } in
    let spans : earlier_spans bytes (index + 1) ≡ earlier_spans bytes index ++ entry_span bytes index ∷ [] =
    ap (λ range. head ∷ map (entry_span bytes) range) numbers ∙ ap (λ more. head ∷ more) (map-append (entry_span bytes) (range_with_len 0 index) (index ∷ [])) in
    let P : Span → Type 0 = λ span. span.to ≤ after.end in
    record {
      rpmsg = has ∙ ap (λ b. b || rpmsg) kept.rpmsg ∙ ap (λ b. list_any (is_rpmsg bytes) (range_with_len 0 index) || b) (is ∙ sym (or-false (is_rpmsg bytes index)))
          ∙ sym (list_any-append (is_rpmsg bytes) (range_with_len 0 index) (index ∷ [])) ∙ sym (ap (list_any (is_rpmsg bytes)) numbers);
      end = All-same P (earlier_spans bytes (index + 1)) (earlier_spans bytes index ++ entry_span bytes index ∷ []) spans
          (All-push P (earlier_spans bytes index) (entry_span bytes index) (All-weaker (λ span. span.to ≤ before.end) P (λ span h. omega (arith, h, less)) (earlier_spans bytes index) kept.end) ends);
      fixed = fixed_more;
    }
  where
    fixed_more : HaveFixedParts bytes (index + 1)
    fixed_more i below =
        elim (cases_lt i index) [ inl less ↦ kept.fixed i less | inr past ↦ let same : i ≡ index = omega arith in rw same fixed ]
