-- The words stand apart: a step on a word of the table is one on the word of its number.
use Rattle.link_words.specs.declared.codes.DeskTables.{DeskTables}
use Rattle.link_words.specs.PlacedDesks.{PlacedDesk}
use Rattle.std.proofs.Common.{◌≡◌, ℕ, zero, suc, ◌+◌, ◌*◌, ◌<◌, ◌≤◌, List, [], ◌∷◌, get_or, set, refl, sym, ap, ◌∙◌, subst, arith}
use Rattle.atomic_table.specs.Table.{Allows, Splits, Joins, carried_after}
use base.Stored.{Coded}
use Rattle.lane_model.specs.Desks.{DeskMeaning}
use Rattle.link_words.specs.declared.rule.LinkSizes.{LinkSizes}
use Rattle.link_words.specs.declared.rule.View.{View}
use Rattle.std.proofs.Math.Nat.{mod-lt}
use Rattle.std.proofs.Common.{◌%◌}
use Rattle.rp_base.specs.declared.kinds.End.{End}
use Rattle.rp_base.specs.declared.kinds.End.TheVariants as side
use Rattle.link_words.specs.declared.rule.Ring.{Ring}
use Rattle.link_words.specs.declared.rule.Ring.TheVariants as ring
use Rattle.link_words.specs.Words.{sizes_at, entries_before, ring_before, entry_number, words_in, IsSized, sender_word, receiver_word, forward_word, return_word}
use Rattle.link_words.specs.Calls.{SeatState}
use Rattle.link_words.specs.Layouts.{words_apart, place_apart, place_in}
use Rattle.link_words.specs.Rule.{WordsRule, PlacedRule}

pub found_apart : (n : ℕ) (ws : List ℕ) (i : ℕ) → get_or (words_apart n ws) (place_apart n i) 0 ≡ get_or ws i 0
found_apart n [] i = refl
found_apart zero (w ∷ ws) zero = refl
found_apart (suc n) (w ∷ ws) zero = refl
found_apart zero (w ∷ ws) (suc i) = found_apart zero ws i
found_apart (suc n) (w ∷ ws) (suc i) = found_apart n ws i

set_apart : (n : ℕ) (ws : List ℕ) (i x : ℕ) → set (words_apart n ws) (place_apart n i) x ≡ words_apart n (set ws i x)
set_apart n [] i x = refl
set_apart zero (w ∷ ws) zero x = refl
set_apart (suc n) (w ∷ ws) zero x = refl
set_apart zero (w ∷ ws) (suc i) x = ap (λ (l : List ℕ). w ∷ 0 ∷ 0 ∷ 0 ∷ 0 ∷ 0 ∷ 0 ∷ 0 ∷ l) (set_apart zero ws i x)
set_apart (suc n) (w ∷ ws) (suc i) x = ap (λ (l : List ℕ). w ∷ 0 ∷ 0 ∷ 0 ∷ 0 ∷ 0 ∷ 0 ∷ 0 ∷ 0 ∷ 0 ∷ 0 ∷ 0 ∷ 0 ∷ 0 ∷ 0 ∷ 0 ∷ l) (set_apart n ws i x)

place_by_8 : (i : ℕ) → place_apart zero i ≡ 8 * i
place_by_8 zero = refl
place_by_8 (suc i) = let rec = place_by_8 i in omega (arith, rec)

place_behind : (n i : ℕ) → place_apart n (n + i) ≡ 16 * n + 8 * i
place_behind zero i = ap (place_apart zero) (let e : 0 + i ≡ i = omega arith in e) ∙ (place_by_8 i ∙ (let e : 8 * i ≡ 16 * 0 + 8 * i = omega arith in e))
place_behind (suc n) i = let rec = place_behind n i in ap (place_apart (suc n)) (let e : suc n + i ≡ suc (n + i) = omega arith in e) ∙ (let e : place_apart (suc n) (suc (n + i)) ≡ 16 * suc n + 8 * i = omega (arith, rec) in e)

-- the entries begin at 160
pub entry_place_is : (i : ℕ) → place_in (10 + i) ≡ 160 + 8 * i
entry_place_is i = place_behind 10 i

module _ {B : Type 0} {kc : Coded B} {kz : DeskTables} (cd : Coded (PlacedDesk kc kz)) (desk : DeskMeaning (PlacedDesk kc kz)) (z : LinkSizes) where
  pub apart : (slots id : ℕ) (me : SeatState) (i place : ℕ) (f : ℕ → ℕ) (T : ℕ → SeatState → Type 0) → place ≡ place_in i → Allows (WordsRule cd desk z) slots id me i f T → Allows (PlacedRule cd desk z) slots id me place f T
  apart slots id me i place f T is allows s (ws, shown, r) long at wide =
      let found : get_or s.words place 0 ≡ get_or ws i 0 = (λ k. get_or (shown k) (is k) 0) ∙ found_apart 10 ws i in
      let a = allows (record s { words = ws }) r long at (subst (λ (n : ℕ). n < 18446744073709551616) found wide) in (
        a.0,
        a.1,
        a.2,
        (set ws i (f (get_or ws i 0)), (λ k. set (shown k) (is k) (f (found k))) ∙ set_apart 10 ws i (f (get_or ws i 0)), a.3),
        subst (λ (n : ℕ). T n (a.0, carried_after me.1 a.1)) (sym found) a.4,
      )

  pub splits_apart : (id : ℕ) (v left right : View) → Splits (WordsRule cd desk z) id v left right → Splits (PlacedRule cd desk z) id v left right
  splits_apart id v left right splits s (ws, shown, r) at = (ws, shown, splits (record s { words = ws }) r at)

  pub joins_apart : (id : ℕ) (v : View) (other : ℕ) (w both spent : View) → Joins (WordsRule cd desk z) id v other w both spent → Joins (PlacedRule cd desk z) id v other w both spent
  joins_apart id v other w both spent joins s (ws, shown, r) at apart seen = (ws, shown, joins (record s { words = ws }) r at apart seen)

-- the turns and the indexes stand before the entries
pub sender_low : (e : End) → place_in (sender_word e) < 160
sender_low side.Host = omega arith
sender_low side.Remote = omega arith

pub receiver_low : (e : End) → place_in (receiver_word e) < 160
receiver_low side.Host = omega arith
receiver_low side.Remote = omega arith

pub forward_low : (e : End) → place_in (forward_word e) < 160
forward_low side.Host = omega arith
forward_low side.Remote = omega arith

pub return_low : (e : End) → place_in (return_word e) < 160
return_low side.Host = omega arith
return_low side.Remote = omega arith

-- an entry stands within the words of the link
pub entry_low : (z : LinkSizes) (e : End) (r : Ring) (count : ℕ) → IsSized z → place_in (entry_number z e r count) < words_in z
entry_low z e r count sized =
    let low = mod-lt count (go z e sized) in let at = before z e r in
    let is = entry_place_is (entries_before z e + (ring_before (sizes_at z e) r + count % (sizes_at z e).entries)) in omega (arith, low, at, is)
  where
    go : (z : LinkSizes) (e : End) → IsSized z → 0 < (sizes_at z e).entries
    go z side.Host sized = let some = sized.to_host.0 in omega (arith, some)
    go z side.Remote sized = let some = sized.to_remote.0 in omega (arith, some)

    before : (z : LinkSizes) (e : End) (r : Ring) → entries_before z e + (ring_before (sizes_at z e) r + (sizes_at z e).entries) ≤ 2 * (z.to_host.entries + z.to_remote.entries)
    before z side.Host ring.Forward = omega arith
    before z side.Host ring.Return = omega arith
    before z side.Remote ring.Forward = omega arith
    before z side.Remote ring.Return = omega arith
