-- What a sound transcript says of the messages that an endpoint was handed.
use Rattle.std.proofs.Common.{◌≡◌, ℕ, zero, suc, ◌+◌, ◌<◌, ◌≤◌, ◌==◌, nat_eq, Bool, true, false, not, cond, ◌&&◌, ◌||◌, List, [], ◌∷◌, ◌++◌, length, take, reverse, Option, Some, None, refl, sym, ap, ◌∙◌, subst, arith, inl, inr, bytes_eq}
use Rattle.std.specs.Prelude.{find, filter, slice_get, option_and_then}
use Rattle.std.specs.List.{list_any, cons_option, range_with_len, AllByRecursion}
use Rattle.std.specs.Option.{option_map_or, option_or}
use Rattle.std.specs.Cmp.{nat_eq_equiv}
use Rattle.std.proofs.Math.Seq.{take-length}
use Rattle.std.proofs.lemmas.Bool.{ne_eqb, leb-false, false≢true}
use Rattle.std.proofs.lemmas.Bool.Decides.{eqb_tells}
use Rattle.std.proofs.lemmas.List.{reverse-append}
use Rattle.std.proofs.lemmas.List.Elements.{filter-append}
use Rattle.std.proofs.lemmas.Slice.Eq.{bytes_eq-Decides}
use Rattle.rp_base.specs.declared.kinds.End.{End}
use Rattle.rp_base.specs.declared.kinds.End.TheVariants as side
use Rattle.rp_base.specs.declared.kinds.Endpoint.{Endpoint}
use Rattle.journal_check.specs.declared.marks.Fate.TheVariants as fate
use Rattle.journal_check.specs.declared.marks.Mark.{Mark}
use Rattle.journal_check.specs.declared.marks.What.{What}
use Rattle.journal_check.specs.declared.marks.What.TheVariants as what
use Rattle.journal_check.specs.declared.readings.Reading.{Reading}
use Rattle.journal_check.specs.declared.readings.Reading.TheVariants as reading
use Rattle.journal_check.specs.declared.sides.Binding.{Binding}
use Rattle.journal_check.specs.Audits.{KeepsRules}
use Rattle.journal_check.specs.Deliveries.{handed_by, addressed_by, handed_to, addressed_to, Descends, IsDelivery, IsBinding, HandsInOrder}
use Rattle.journal_check.specs.Entries.{Place, Entry, entry_of, lines_at, stands_at, is_same_place, is_same_end, place_of}
use Rattle.journal_check.specs.Marks.{about, mark_of, past_of}
use Rattle.journal_check.specs.Rules.{least_rule, breaks_by, breaks_at, takes_no_higher, names_another_binding, drops_while_bound, binds_no_higher, is_took_from, is_named_from, is_out_of_date, is_bound, binding_told, last_binding}
use Rattle.journal_check.specs.Tables.{least_of}

-- no line of a name breaks a rule but the first
abbrev AllKept : List What → Type 0
AllKept [] = Unit {0}
AllKept (line ∷ past) = (least_of line past ≡ None) × AllKept past

by_name : (name : List ℕ) (mark : Mark) (before : List Reading) (test : Bool) → bytes_eq mark.name name ≡ test → least_of mark.what (past_of mark.name before) ≡ None → AllKept (past_of name before)
    → AllKept (cons_option (cond test (Some mark.what) None) (past_of name before))
by_name name mark before true same none kept = (subst (λ n. least_of mark.what (past_of n before) ≡ None) ((bytes_eq-Decides mark.name name).0 same) none, kept)
by_name name mark before false same none kept = kept

by_mark : (name : List ℕ) (said : Option Mark) (before : List Reading) → find (λ rule. breaks_by rule said before) (range_with_len 2 9) ≡ None → AllKept (past_of name before)
    → AllKept (cons_option (about name said) (past_of name before))
by_mark name None before none kept = kept
by_mark name (Some mark) before none kept = by_name name mark before (bytes_eq mark.name name) refl none kept

by_reading : (name : List ℕ) (is_last : Bool) (now : Reading) (before : List Reading) → least_rule is_last now before ≡ None → AllKept (past_of name before) → AllKept (past_of name (now ∷ before))
by_reading name is_last (reading.Event e) before none kept = by_mark name (mark_of e) before none kept
by_reading name is_last (reading.Ending n) before none kept = kept
by_reading name is_last reading.Nothing before none kept = kept

take_more : {X : Type 0} (k : ℕ) (xs : List X) → k < length xs → (x : X) × (slice_get xs k ≡ Some x) × (take (suc k) xs ≡ take k xs ++ x ∷ [])
take_more zero [] at = absurd (omega arith)
take_more zero (x ∷ xs) at = (x, refl, refl)
take_more (suc k) [] at = absurd (omega arith)
take_more (suc k) (x ∷ xs) at = let more = take_more k xs (omega arith) in (more.0, more.1, ap (λ ys. x ∷ ys) more.2)

all_kept : (name : List ℕ) (total : ℕ) (readings : List Reading) (k : ℕ) → k ≤ length readings → KeepsRules total readings k → AllKept (past_of name (reverse (take k readings)))
all_kept name total readings zero at keeps = tt
all_kept name total readings (suc k) at keeps =
    let more = take_more k readings (omega arith) in
    let now = more.0 in
    let before = reverse (take k readings) in
    let none : least_rule (k + 1 == total) now before ≡ None = sym (ap (option_and_then (λ r. least_rule (k + 1 == total) r before)) more.1) ∙ keeps k (omega arith) in
    let list : reverse (take (suc k) readings) ≡ now ∷ before = ap reverse more.2 ∙ reverse-append (take k readings) (now ∷ []) in
    subst (λ l. AllKept (past_of name l)) (sym list) (by_reading name (k + 1 == total) now before none (all_kept name total readings k (omega arith) (λ index below. keeps index (omega arith))))

-- the rules that a line at a place keeps
record KeptAt (line : What) (here : List Entry) : Type 0 where
  took : takes_no_higher line here ≡ false
  names : names_another_binding line here ≡ false
  drops : drops_while_bound line here ≡ false
  binds : binds_no_higher line here ≡ false

not_found : (test : Bool) (x : ℕ) (rest : Option ℕ) → cond test (Some x) rest ≡ None → (test ≡ false) × (rest ≡ None)
not_found true x rest e = absurd (cc)
not_found false x rest e = (refl, e)

kept_at : (line : What) (past : List What) (place : Place) → place_of line past ≡ Some place → least_of line past ≡ None → KeptAt line (lines_at place past)
kept_at line past place at none =
    let two = not_found _ 2 _ none in
    let three = not_found _ 3 _ two.1 in
    let four = not_found _ 4 _ three.1 in
    let five = not_found _ 5 _ four.1 in
    let six = not_found _ 6 _ five.1 in
    let seven = not_found _ 7 _ six.1 in
    let eight = not_found _ 8 _ seven.1 in
    let nine = not_found _ 9 _ eight.1 in
    let ten = not_found _ 10 _ nine.1 in
    record {
      took = subst (λ o. breaks_at 3 o line past ≡ false) at three.0;
      names = subst (λ o. breaks_at 5 o line past ≡ false) at five.0;
      drops = subst (λ o. breaks_at 6 o line past ≡ false) at six.0;
      binds = subst (λ o. breaks_at 10 o line past ≡ false) at ten.0;
    }

abbrev AllKeptAt : List Entry → Type 0
AllKeptAt [] = Unit {0}
AllKeptAt (entry ∷ here) = KeptAt entry.line here × AllKeptAt here

same_end_is : (one other : End) → is_same_end one other ≡ true → one ≡ other
same_end_is side.Host side.Host e = refl
same_end_is side.Remote side.Remote e = refl
same_end_is side.Host side.Remote e = absurd (cc)
same_end_is side.Remote side.Host e = absurd (cc)

both : (a b : Bool) → (a && b) ≡ true → (a ≡ true) × (b ≡ true)
both true b h = (refl, h)
both false b h = absurd (false≢true h)

number_is : (a b : ℕ) → nat_eq a b ≡ true → a ≡ b
number_is a b e = elim (eqb_tells a b) [ inl is ↦ is.1 | inr differ ↦ absurd (false≢true (sym differ.0 ∙ e)) ]

place_is : (place : Place) (found : Option Place) → option_map_or (is_same_place place) found false ≡ true → found ≡ Some place
place_is place None e = absurd (false≢true e)
place_is place (Some other) e =
    let parts = both (nat_eq place.inc other.inc) (is_same_end place.end other.end) e in
    λ i. Some (record { inc = sym (number_is place.inc other.inc parts.0) i; end = sym (same_end_is place.end other.end parts.1) i })

kept_by : (line : What) (past : List What) (place : Place) (test : Bool) → stands_at place (entry_of line past) ≡ test → least_of line past ≡ None → AllKeptAt (lines_at place past)
    → AllKeptAt (cond test (entry_of line past ∷ lines_at place past) (lines_at place past))
kept_by line past place true stands none kept = (kept_at line past place (place_is place (place_of line past) stands) none, kept)
kept_by line past place false stands none kept = kept

all_kept_at : (past : List What) (place : Place) → AllKept past → AllKeptAt (lines_at place past)
all_kept_at [] place kept = tt
all_kept_at (line ∷ past) place kept = kept_by line past place (stands_at place (entry_of line past)) refl kept.0 (all_kept_at past place kept.1)

either_false : (a b : Bool) → (a || b) ≡ false → (a ≡ false) × (b ≡ false)
either_false true b e = absurd (cc)
either_false false b e = (refl, e)

-- an element in the middle passes no test that none passes
none_in : (p : Entry → Bool) (later earlier : List Entry) (bound : Entry) → list_any p (later ++ bound ∷ earlier) ≡ false → p bound ≡ false
none_in p [] earlier bound e = (either_false (p bound) (list_any p earlier) e).0
none_in p (entry ∷ later) earlier bound e = none_in p later earlier bound (either_false (p entry) (list_any p (later ++ bound ∷ earlier)) e).1

kept_in : (later earlier : List Entry) (bound : Entry) → AllKeptAt (later ++ bound ∷ earlier) → KeptAt bound.line earlier
kept_in [] earlier bound kept = kept.0
kept_in (entry ∷ later) earlier bound kept = kept_in later earlier bound kept.1

-- the numbers of took lines before a took line are lower
below_test : (test : Bool) (k number : ℕ) (rest : List ℕ) → number < k → AllByRecursion (λ n. n < k) rest → AllByRecursion (λ n. n < k) (cons_option (cond test (Some number) None) rest)
below_test true k number rest lt all = (lt, all)
below_test false k number rest lt all = all

below_one : (endpoint : Endpoint) (k : ℕ) (line : What) (rest : List ℕ) → is_took_from k line ≡ false → AllByRecursion (λ n. n < k) rest → AllByRecursion (λ n. n < k) (cons_option (handed_by endpoint line) rest)
below_one endpoint k (what.Took c number (fate.To other)) rest none all = below_test (nat_eq other.address endpoint.address && nat_eq other.generation endpoint.generation) k number rest (leb-false k number none) all
below_one endpoint k (what.Took c number (fate.Dropped address)) rest none all = all
below_one endpoint k (what.Took c number fate.Other) rest none all = all
below_one endpoint k what.Core rest none all = all
below_one endpoint k (what.Opens inc) rest none all = all
below_one endpoint k (what.Closes inc) rest none all = all
below_one endpoint k (what.Caller c end) rest none all = all
below_one endpoint k (what.Sent c number) rest none all = all
below_one endpoint k (what.Bound c other) rest none all = all
below_one endpoint k (what.Unbound c other) rest none all = all

below : (endpoint : Endpoint) (k : ℕ) (here : List Entry) → list_any (λ (entry : Entry). is_took_from k entry.line) here ≡ false → AllByRecursion (λ number. number < k) (handed_to endpoint here)
below endpoint k [] none = tt
below endpoint k (entry ∷ here) none =
    let parts = either_false (is_took_from k entry.line) (list_any (λ (e : Entry). is_took_from k e.line) here) none in
    below_one endpoint k entry.line (handed_to endpoint here) parts.0 (below endpoint k here parts.1)

descends_test : (test : Bool) (k : ℕ) (rest : List ℕ) → AllByRecursion (λ n. n < k) rest → Descends rest → Descends (cons_option (cond test (Some k) None) rest)
descends_test true k rest all down = (all, down)
descends_test false k rest all down = down

descends_one : (endpoint : Endpoint) (line : What) (here : List Entry) → KeptAt line here → Descends (handed_to endpoint here) → Descends (cons_option (handed_by endpoint line) (handed_to endpoint here))
descends_one endpoint (what.Took c k (fate.To other)) here kept down =
    descends_test (nat_eq other.address endpoint.address && nat_eq other.generation endpoint.generation) k (handed_to endpoint here) (below endpoint k here kept.took) down
descends_one endpoint (what.Took c k (fate.Dropped address)) here kept down = down
descends_one endpoint (what.Took c k fate.Other) here kept down = down
descends_one endpoint what.Core here kept down = down
descends_one endpoint (what.Opens inc) here kept down = down
descends_one endpoint (what.Closes inc) here kept down = down
descends_one endpoint (what.Caller c end) here kept down = down
descends_one endpoint (what.Sent c number) here kept down = down
descends_one endpoint (what.Bound c other) here kept down = down
descends_one endpoint (what.Unbound c other) here kept down = down

descends : (endpoint : Endpoint) (here : List Entry) → AllKeptAt here → Descends (handed_to endpoint here)
descends endpoint [] kept = tt
descends endpoint (entry ∷ here) kept = descends_one endpoint entry.line here kept.0 (descends endpoint here kept.1)

-- a filter keeps the order
all_filtered : (P : ℕ → Type 0) (test : ℕ → Bool) (xs : List ℕ) → AllByRecursion P xs → AllByRecursion P (filter test xs)
all_filtered P test [] all = tt
all_filtered P test (x ∷ xs) all = elim (test x) as (λ b. AllByRecursion P (cond b (x ∷ filter test xs) (filter test xs))) [ true ↦ (all.0, all_filtered P test xs all.1) | false ↦ all_filtered P test xs all.1 ]

descends_filtered : (test : ℕ → Bool) (xs : List ℕ) → Descends xs → Descends (filter test xs)
descends_filtered test [] down = tt
descends_filtered test (x ∷ xs) down =
    elim (test x) as (λ b. Descends (cond b (x ∷ filter test xs) (filter test xs))) [
      | true ↦ (all_filtered (λ number. number < x) test xs down.0, descends_filtered test xs down.1)
      | false ↦ descends_filtered test xs down.1
    ]

-- nothing is handed before the bound line
other_generation : (test : Bool) (k : ℕ) → cond (test && false) (Some k) None ≡ None
other_generation true k = refl
other_generation false k = refl

unnamed : (endpoint : Endpoint) (line : What) → is_named_from endpoint.generation line ≡ false → handed_by endpoint line ≡ None
unnamed endpoint (what.Took c k (fate.To other)) none =
    let lower = leb-false endpoint.generation other.generation none in
    ap (λ b. cond (nat_eq other.address endpoint.address && b) (Some k) None) (ne_eqb other.generation endpoint.generation (λ e. absurd (omega (arith, e, lower)))) ∙ other_generation (nat_eq other.address endpoint.address) k
unnamed endpoint (what.Took c k (fate.Dropped address)) none = refl
unnamed endpoint (what.Took c k fate.Other) none = refl
unnamed endpoint what.Core none = refl
unnamed endpoint (what.Opens inc) none = refl
unnamed endpoint (what.Closes inc) none = refl
unnamed endpoint (what.Caller c end) none = refl
unnamed endpoint (what.Sent c number) none = refl
unnamed endpoint (what.Bound c other) none = refl
unnamed endpoint (what.Unbound c other) none = refl

none_before : (endpoint : Endpoint) (earlier : List Entry) → list_any (λ (entry : Entry). is_named_from endpoint.generation entry.line) earlier ≡ false → handed_to endpoint earlier ≡ []
none_before endpoint [] none = refl
none_before endpoint (entry ∷ earlier) none =
    let parts = either_false (is_named_from endpoint.generation entry.line) (list_any (λ (e : Entry). is_named_from endpoint.generation e.line) earlier) none in
    ap (λ o. cons_option o (handed_to endpoint earlier)) (unnamed endpoint entry.line parts.0) ∙ none_before endpoint earlier parts.1

handed_since : (endpoint : Endpoint) (caller : ℕ) (later earlier : List Entry) (bound : Entry) → bound.line ≡ what.Bound caller endpoint → KeptAt bound.line earlier
    → handed_to endpoint (later ++ bound ∷ earlier) ≡ handed_to endpoint later
handed_since endpoint caller [] earlier bound is kept =
    ap (λ line. cons_option (handed_by endpoint line) (handed_to endpoint earlier)) is ∙ none_before endpoint earlier (subst (λ line. binds_no_higher line earlier ≡ false) is kept.binds)
handed_since endpoint caller (entry ∷ later) earlier bound is kept = ap (cons_option (handed_by endpoint entry.line)) (handed_since endpoint caller later earlier bound is kept)

-- the last binding of an endpoint's address since its bound line: its own while all that is addressed is handed to it, and then another
abbrev binding : Bool → ℕ → Binding
binding is_bound generation = record { is_bound = is_bound; generation = generation }

data Since (endpoint : Endpoint) (last : Option Binding) (addressed handed : List ℕ) : Type 0 where
  Live : last ≡ Some (binding true endpoint.generation) → addressed ≡ handed → Since endpoint last addressed handed
  Rebound : (generation : ℕ) (rest : List ℕ) → last ≡ Some (binding true generation) → endpoint.generation < generation → addressed ≡ rest ++ handed → Since endpoint last addressed handed
  Gone : (generation : ℕ) (rest : List ℕ) → last ≡ Some (binding false generation) → endpoint.generation ≤ generation → addressed ≡ rest ++ handed → Since endpoint last addressed handed

rest_of : (endpoint : Endpoint) (last : Option Binding) (addressed handed : List ℕ) → Since endpoint last addressed handed → (rest : List ℕ) × (addressed ≡ rest ++ handed)
rest_of endpoint last addressed handed (Live is same) = ([], same)
rest_of endpoint last addressed handed (Rebound generation rest is lt same) = (rest, same)
rest_of endpoint last addressed handed (Gone generation rest is le same) = (rest, same)

equal_by : (a b : ℕ) → not (nat_eq a b) ≡ false → a ≡ b
equal_by a b e = elim (eqb_tells a b) [ inl is ↦ is.1 | inr differ ↦ let never : true ≡ false = sym (ap not differ.0) ∙ e in absurd (cc) ]

-- a took line to an endpoint at the address
took_here : (endpoint other : Endpoint) (k : ℕ) (last : Option Binding) (addressed handed : List ℕ) → is_out_of_date other.generation last ≡ false → Since endpoint last addressed handed
    → Since endpoint last (k ∷ addressed) (cons_option (cond (nat_eq other.generation endpoint.generation) (Some k) None) handed)
took_here endpoint other k last addressed handed fresh (Live is same) =
    let now : endpoint.generation ≡ other.generation = equal_by endpoint.generation other.generation (subst (λ o. is_out_of_date other.generation o ≡ false) is fresh) in
    let test : nat_eq other.generation endpoint.generation ≡ true = ap (nat_eq other.generation) now ∙ nat_eq_equiv.refl other.generation in
    subst (λ b. Since endpoint last (k ∷ addressed) (cons_option (cond b (Some k) None) handed)) (sym test) (Live is (ap (λ xs. k ∷ xs) same))
took_here endpoint other k last addressed handed fresh (Rebound generation rest is lt same) =
    let now : generation ≡ other.generation = equal_by generation other.generation (subst (λ o. is_out_of_date other.generation o ≡ false) is fresh) in
    let test : nat_eq other.generation endpoint.generation ≡ false = ne_eqb other.generation endpoint.generation (λ e. absurd (omega (arith, e, now, lt))) in
    subst (λ b. Since endpoint last (k ∷ addressed) (cons_option (cond b (Some k) None) handed)) (sym test) (Rebound generation (k ∷ rest) is lt (ap (λ xs. k ∷ xs) same))
took_here endpoint other k last addressed handed fresh (Gone generation rest is le same) =
    let now : generation < other.generation = leb-false other.generation generation (subst (λ o. is_out_of_date other.generation o ≡ false) is fresh) in
    let test : nat_eq other.generation endpoint.generation ≡ false = ne_eqb other.generation endpoint.generation (λ e. absurd (omega (arith, e, now, le))) in
    subst (λ b. Since endpoint last (k ∷ addressed) (cons_option (cond b (Some k) None) handed)) (sym test) (Gone generation (k ∷ rest) is le (ap (λ xs. k ∷ xs) same))

took_to : (endpoint other : Endpoint) (k : ℕ) (here : List Entry) (addressed handed : List ℕ) (test : Bool) → nat_eq other.address endpoint.address ≡ test → is_out_of_date other.generation (last_binding other.address here) ≡ false
    → Since endpoint (last_binding endpoint.address here) addressed handed
    → Since endpoint (last_binding endpoint.address here) (cons_option (cond test (Some k) None) addressed) (cons_option (cond (test && nat_eq other.generation endpoint.generation) (Some k) None) handed)
took_to endpoint other k here addressed handed true at fresh since =
    took_here endpoint other k (last_binding endpoint.address here) addressed handed (subst (λ a. is_out_of_date other.generation (last_binding a here) ≡ false) (number_is other.address endpoint.address at) fresh) since
took_to endpoint other k here addressed handed false at fresh since = since

-- a took line that is dropped at the address
dropped_here : (endpoint : Endpoint) (k : ℕ) (last : Option Binding) (addressed handed : List ℕ) → is_bound last ≡ false → Since endpoint last addressed handed → Since endpoint last (k ∷ addressed) handed
dropped_here endpoint k last addressed handed unbound (Live is same) = absurd (false≢true (sym unbound ∙ ap is_bound is))
dropped_here endpoint k last addressed handed unbound (Rebound generation rest is lt same) = absurd (false≢true (sym unbound ∙ ap is_bound is))
dropped_here endpoint k last addressed handed unbound (Gone generation rest is le same) = Gone generation (k ∷ rest) is le (ap (λ xs. k ∷ xs) same)

dropped : (endpoint : Endpoint) (address k : ℕ) (here : List Entry) (addressed handed : List ℕ) (test : Bool) → nat_eq address endpoint.address ≡ test → is_bound (last_binding address here) ≡ false
    → Since endpoint (last_binding endpoint.address here) addressed handed → Since endpoint (last_binding endpoint.address here) (cons_option (cond test (Some k) None) addressed) handed
dropped endpoint address k here addressed handed true at unbound since =
    dropped_here endpoint k (last_binding endpoint.address here) addressed handed (subst (λ a. is_bound (last_binding a here) ≡ false) (number_is address endpoint.address at) unbound) since
dropped endpoint address k here addressed handed false at unbound since = since

-- a bound or unbound line of the address
rebound : (endpoint other : Endpoint) (last : Option Binding) (addressed handed : List ℕ) (test : Bool) → endpoint.generation < other.generation → Since endpoint last addressed handed
    → Since endpoint (option_or (cond test (Some (binding true other.generation)) None) last) addressed handed
rebound endpoint other last addressed handed true lt since = let rest = rest_of endpoint last addressed handed since in Rebound other.generation rest.0 refl lt rest.1
rebound endpoint other last addressed handed false lt since = since

not_before : (endpoint other : Endpoint) (last : Option Binding) (addressed handed : List ℕ) → is_out_of_date other.generation last ≡ false → Since endpoint last addressed handed → endpoint.generation ≤ other.generation
not_before endpoint other last addressed handed fresh (Live is same) =
    let now : endpoint.generation ≡ other.generation = equal_by endpoint.generation other.generation (subst (λ o. is_out_of_date other.generation o ≡ false) is fresh) in omega arith
not_before endpoint other last addressed handed fresh (Rebound generation rest is lt same) =
    let now : generation ≡ other.generation = equal_by generation other.generation (subst (λ o. is_out_of_date other.generation o ≡ false) is fresh) in omega arith
not_before endpoint other last addressed handed fresh (Gone generation rest is le same) =
    let now : generation < other.generation = leb-false other.generation generation (subst (λ o. is_out_of_date other.generation o ≡ false) is fresh) in omega arith

unbound : (endpoint other : Endpoint) (here : List Entry) (addressed handed : List ℕ) (test : Bool) → nat_eq other.address endpoint.address ≡ test → is_out_of_date other.generation (last_binding other.address here) ≡ false
    → Since endpoint (last_binding endpoint.address here) addressed handed
    → Since endpoint (option_or (cond test (Some (binding false other.generation)) None) (last_binding endpoint.address here)) addressed handed
unbound endpoint other here addressed handed true at fresh since =
    let last = last_binding endpoint.address here in
    let rest = rest_of endpoint last addressed handed since in
    Gone other.generation rest.0 refl (not_before endpoint other last addressed handed (subst (λ a. is_out_of_date other.generation (last_binding a here) ≡ false) (number_is other.address endpoint.address at) fresh) since) rest.1
unbound endpoint other here addressed handed false at fresh since = since

-- one line more
step : (endpoint : Endpoint) (line : What) (here : List Entry) (addressed handed : List ℕ) → KeptAt line here
    → ((g : ℕ) → list_any (λ (entry : Entry). is_named_from g entry.line) here ≡ false → endpoint.generation < g) → Since endpoint (last_binding endpoint.address here) addressed handed
    → Since endpoint (option_or (binding_told endpoint.address line) (last_binding endpoint.address here)) (cons_option (addressed_by endpoint.address line) addressed) (cons_option (handed_by endpoint line) handed)
step endpoint (what.Took c k (fate.To other)) here addressed handed kept named since = took_to endpoint other k here addressed handed (nat_eq other.address endpoint.address) refl kept.names since
step endpoint (what.Took c k (fate.Dropped address)) here addressed handed kept named since = dropped endpoint address k here addressed handed (nat_eq address endpoint.address) refl kept.drops since
step endpoint (what.Took c k fate.Other) here addressed handed kept named since = since
step endpoint (what.Bound c other) here addressed handed kept named since =
    rebound endpoint other (last_binding endpoint.address here) addressed handed (nat_eq other.address endpoint.address) (named other.generation kept.binds) since
step endpoint (what.Unbound c other) here addressed handed kept named since = unbound endpoint other here addressed handed (nat_eq other.address endpoint.address) refl kept.names since
step endpoint what.Core here addressed handed kept named since = since
step endpoint (what.Opens inc) here addressed handed kept named since = since
step endpoint (what.Closes inc) here addressed handed kept named since = since
step endpoint (what.Caller c end) here addressed handed kept named since = since
step endpoint (what.Sent c number) here addressed handed kept named since = since

since_bound : (endpoint : Endpoint) (caller : ℕ) (later earlier : List Entry) (bound : Entry) → bound.line ≡ what.Bound caller endpoint → AllKeptAt (later ++ bound ∷ earlier)
    → Since endpoint (last_binding endpoint.address (later ++ bound ∷ earlier)) (addressed_to endpoint.address later) (handed_to endpoint later)
since_bound endpoint caller [] earlier bound is kept =
    let told : binding_told endpoint.address bound.line ≡ Some (binding true endpoint.generation) =
    ap (binding_told endpoint.address) is ∙ ap (λ b. cond b (Some (binding true endpoint.generation)) None) (nat_eq_equiv.refl endpoint.address) in
    Live (ap (λ o. option_or o (last_binding endpoint.address earlier)) told) refl
since_bound endpoint caller (entry ∷ later) earlier bound is kept =
    step endpoint entry.line (later ++ bound ∷ earlier) (addressed_to endpoint.address later) (handed_to endpoint later) kept.0
    (λ g none. leb-false g endpoint.generation (subst (λ line. is_named_from g line ≡ false) is (none_in (λ (e : Entry). is_named_from g e.line) later earlier bound none)))
    (since_bound endpoint caller later earlier bound is kept.1)

-- what is handed is what came first of what was addressed
delivered : (endpoint : Endpoint) (here later earlier : List Entry) (sent : ℕ → Bool) → AllKeptAt here → IsBinding endpoint here later earlier → IsDelivery (filter sent (handed_to endpoint here)) (filter sent (addressed_to endpoint.address later))
delivered endpoint here later earlier sent kept binds =
    let kept_parts = subst AllKeptAt binds.parts kept in
    let since = since_bound endpoint binds.caller later earlier binds.bound binds.line kept_parts in
    let rest = rest_of endpoint _ _ _ since in
    let handed : handed_to endpoint here ≡ handed_to endpoint later =
    ap (handed_to endpoint) binds.parts ∙ handed_since endpoint binds.caller later earlier binds.bound binds.line (kept_in later earlier binds.bound kept_parts) in
    record {
      ascends = descends_filtered sent (handed_to endpoint here) (descends endpoint here kept);
      rest = filter sent rest.0;
      first = ap (filter sent) (rest.1 ∙ ap (λ xs. rest.0 ++ xs) (sym handed)) ∙ filter-append sent rest.0 (handed_to endpoint here);
    }

pub hands_in_order : HandsInOrder
hands_in_order readings keeps name inc end sender endpoint later earlier binds =
    let place : Place = record { inc = inc; end = end } in
    let kept = all_kept name (length readings) readings (length readings) (omega arith) keeps in
    delivered endpoint _ later earlier _ (all_kept_at (past_of name (reverse readings)) place (subst (λ all. AllKept (past_of name (reverse all))) (take-length readings) kept)) binds
