-- The messages of a book by number: what is due of a longer book, and of one of which all was handed over before a binding.
use Rattle.std.proofs.Common.{◌≡◌, ℕ, zero, suc, ◌+◌, ◌<◌, ◌≤◌, ◌==◌, ◌&&◌, not, length, Bool, true, false, cond, Option, Some, List, [], ◌∷◌, ◌++◌, map, take, drop, filter, slice_get, refl, sym, ap, ◌∙◌, add-one, arith}
use Rattle.std.specs.Prelude.{nat_lt}
use Rattle.std.proofs.lemmas.Bool.{lt-ltb}
use Rattle.std.proofs.lemmas.List.{append_assoc, map-append, length-take-le, take-append-drop}
use Rattle.std.proofs.lemmas.List.Elements.{filter-append, filter_agree}
use Rattle.rp_base.specs.declared.kinds.Endpoint.{Endpoint}
use Rattle.rp_base.specs.declared.kinds.BoundEndpoint.{BoundEndpoint}
use Rattle.lane_model.specs.declared.states.BookEntry.{BookEntry}
use Rattle.lane_model.specs.Desks.{DeskMeaning}
use Rattle.lane_laws.specs.Handings.{NumberedMessage, Handing, with_numbers, is_aimed, is_due, due, is_got, got, IsPrefix}

pub numbered-append : (first : ℕ) (book more : List BookEntry) → with_numbers first (book ++ more) ≡ with_numbers first book ++ with_numbers (first + length book) more
numbered-append first [] more = ap (λ n. with_numbers n more) (omega arith)
numbered-append first (entry ∷ book) more =
    let next : first + 1 + length book ≡ first + suc (length book) = omega arith in
    let rest = numbered-append (first + 1) book more in
    ap (λ (l : List NumberedMessage). record { number = first; sender = entry.caller; message = entry.message } ∷ l)
    (rest ∙ ap (λ n. with_numbers (first + 1) book ++ with_numbers n more) next)

-- there is an element at each place below the length
pub element_at : {X : Type 0} (xs : List X) (n : ℕ) → n < length xs → (x : X) × (slice_get xs n ≡ Some x)
element_at [] n below = absurd (omega (arith, below))
element_at (x ∷ xs) zero below = (x, refl)
element_at (x ∷ xs) (suc n) below = element_at xs n (omega (arith, below))

-- the place of an element is below the length
pub place_below : {X : Type 0} (xs : List X) (n : ℕ) (x : X) → slice_get xs n ≡ Some x → n < length xs
place_below [] n x is = (cc)
place_below (y ∷ ys) zero x is = omega arith
place_below (y ∷ ys) (suc n) x is = let rest = place_below ys n x is in omega (arith, rest)

-- one element more from the front
pub take_one_more : {X : Type 0} (xs : List X) (n : ℕ) (x : X) → slice_get xs n ≡ Some x → take (n + 1) xs ≡ take n xs ++ x ∷ []
take_one_more xs n x is = ap (λ k. take k xs) (add-one n) ∙ more xs n x is
  where
    more : {X : Type 0} (xs : List X) (n : ℕ) (x : X) → slice_get xs n ≡ Some x → take (suc n) xs ≡ take n xs ++ x ∷ []
    more [] n x is = (cc)
    more (y ∷ ys) zero x is = let same : y ≡ x = (cc) in ap (λ z. z ∷ []) same
    more (y ∷ ys) (suc n) x is = ap (λ l. y ∷ l) (more ys n x is)

-- the handed messages with one more
pub numbered_one_more : (book : List BookEntry) (n : ℕ) (entry : BookEntry) → slice_get book n ≡ Some entry
    → with_numbers 0 (take (n + 1) book) ≡ with_numbers 0 (take n book) ++ record { number = n; sender = entry.caller; message = entry.message } ∷ []
numbered_one_more book n entry is =
    let below = place_below book n entry is in
    let size : 0 + length (take n book) ≡ n = omega (arith, length-take-le n book) in
    ap (with_numbers 0) (take_one_more book n entry is) ∙ numbered-append 0 (take n book) (entry ∷ []) ∙ ap (λ k. with_numbers 0 (take n book) ++ with_numbers k (entry ∷ [])) size

-- of messages that were handed over before the binding, none is due
pub none_due : (aim : List ℕ → Option ℕ) (bound : BoundEndpoint) (sender first : ℕ) (book : List BookEntry) → first + length book ≤ bound.since
    → filter (is_due aim bound sender) (with_numbers first book) ≡ []
none_due aim bound sender first [] before = refl
none_due aim bound sender first (entry ∷ book) before =
    let early : nat_lt first bound.since ≡ true = lt-ltb first bound.since (omega (arith, before)) in
    rw early (none_due aim bound sender (first + 1) book (omega (arith, before)))

-- what is due of the messages that were handed over is the front of what is due
pub due_front : {D : Type 0} (desk : DeskMeaning D) (state : D) (bound : BoundEndpoint) (sender n : ℕ) (book : List BookEntry)
    → IsPrefix (due desk state bound sender (take n book)) (due desk state bound sender book)
due_front desk state bound sender n book = record {
  rest = filter (is_due (desk.aim state) bound sender) (with_numbers (0 + length (take n book)) (drop n book));
  is =
      ap (due desk state bound sender) (sym (take-append-drop n book))
      ∙ ap (filter (is_due (desk.aim state) bound sender)) (numbered-append 0 (take n book) (drop n book))
      ∙ filter-append (is_due (desk.aim state) bound sender) (with_numbers 0 (take n book)) (with_numbers (0 + length (take n book)) (drop n book));
}

-- what is due of a longer book begins with what was due
pub due_more : {D : Type 0} (desk : DeskMeaning D) (state : D) (bound : BoundEndpoint) (sender : ℕ) (book more : List BookEntry)
    → due desk state bound sender (book ++ more) ≡ due desk state bound sender book ++ filter (is_due (desk.aim state) bound sender) (with_numbers (0 + length book) more)
due_more desk state bound sender book more =
    ap (filter (is_due (desk.aim state) bound sender)) (numbered-append 0 book more)
    ∙ filter-append (is_due (desk.aim state) bound sender) (with_numbers 0 book) (with_numbers (0 + length book) more)

-- what is due depends on the aims alone
pub due_same : {D : Type 0} (desk : DeskMeaning D) (before after : D) (bound : BoundEndpoint) (sender : ℕ) (book : List BookEntry)
    → ((message : List ℕ) → desk.aim after message ≡ desk.aim before message) → due desk after bound sender book ≡ due desk before bound sender book
due_same desk before after bound sender book same =
    filter_agree (is_due (desk.aim after) bound sender) (is_due (desk.aim before) bound sender)
    (λ sent. ap (λ aimed. not (nat_lt sent.number bound.since) && ((sent.sender == sender) && is_aimed aimed bound.endpoint.address)) (same sent.message))
    (with_numbers 0 book)

-- a front of a front is a front
pub prefix_more : {X : Type 0} (front whole longer more : List X) → longer ≡ whole ++ more → IsPrefix front whole → IsPrefix front longer
prefix_more front whole longer more is prefix =
    record { rest = prefix.rest ++ more; is = is ∙ ap (λ l. l ++ more) prefix.is ∙ append_assoc front prefix.rest more }

-- what an endpoint got with one handing more
pub got_more : (endpoint : Endpoint) (sender : ℕ) (handings : List Handing) (one : Handing)
    → got endpoint sender (handings ++ one ∷ []) ≡ got endpoint sender handings ++ cond (is_got endpoint sender one) (one.sent ∷ []) []
got_more endpoint sender handings one =
    ap (map (λ (h : Handing). h.sent)) (filter-append (is_got endpoint sender) handings (one ∷ []))
    ∙ map-append (λ (h : Handing). h.sent) (filter (is_got endpoint sender) handings) (filter (is_got endpoint sender) (one ∷ []))
    ∙ ap (λ l. got endpoint sender handings ++ l) (push_cond (is_got endpoint sender one))
  where
    push_cond : (is : Bool) → map (λ (h : Handing). h.sent) (cond is (one ∷ []) []) ≡ cond is (one.sent ∷ []) []
    push_cond true = refl
    push_cond false = refl
