-- The two steps on a desk's table.
use Rattle.std.proofs.Common.{◌≡◌, ℕ, zero, suc, List, [], ◌∷◌, length, set, true, false, refl, sym, ap, ◌∙◌, arith}
use mathlib.Core.Option.{Option, some, none, some-injective, some-ne-none}
use lib.ListN.{get_elem?}
use base.Stored.{Coded}
use Rattle.atomic_table.specs.Table.{Me, takes, gives, Allows, rest, put_back}
use Rattle.link_words.specs.declared.codes.DeskView.{DeskView}
use Rattle.link_words.specs.DeskSeats.{IsDeskHome, OpensDesk, ShutsDesk, home_view, away_view}

false-true : false ≡ true → ⊥
false-true e = absurd (cc)

one_long : {A : Type 0} (l : List A) → length l ≡ 1 → (x : A) × (l ≡ x ∷ [])
one_long [] e = absurd (omega (arith, e))
one_long (x ∷ []) e = (x, refl)
one_long (x ∷ y ∷ ys) e = absurd (omega (arith, e))

module _ {D : Type 0} (coded : Coded D) where
  only_seat : (view v : DeskView) (id : ℕ) → get_elem? (view ∷ []) id ≡ some v → (id ≡ 0) × (view ≡ v)
  only_seat view v zero at = (refl, some-injective view v at)
  only_seat view v (suc id) at = absurd (some-ne-none v (sym at))

  pub opens_desk : (slots id : ℕ) (me : Me D DeskView) → me ≡ (home_view me.0.code, []) → Allows (IsDeskHome coded) slots id me 0 (λ n. n) (λ _ me'. OpensDesk coded me me')
  opens_desk slots id me home s r long at wide =
      let seat = only_seat r.view me.0 id (ap (λ (vs : List DeskView). get_elem? vs id) (sym r.only) ∙ at) in
      let here : r.view.is_home ≡ true = ap (λ (v : DeskView). v.is_home) seat.1 ∙ ap (λ (m : Me D DeskView). m.0.is_home) home in
      let h = r.home here in let w : DeskView = away_view me.0.code in (
        w,
        takes 0 h.0,
        ap (λ (hs : List (Option D)). get_elem? hs 0) h.1,
        record {
          view = w;
          only = λ i. set (r.only i) (seat.0 i) w;
          one = ap (λ (hs : List (Option D)). length (set hs 0 none)) h.1;
          home = λ never. absurd (false-true never);
        },
        (h.0, ap (λ (v : DeskView). v.code) (sym seat.1) ∙ h.2, λ i. (w, (0, h.0) ∷ ap (λ (m : Me D DeskView). m.1) home i)),
      )

  pub shuts_desk : (slots id : ℕ) (me : Me D DeskView) (d : D) → me ≡ (away_view me.0.code, (0, d) ∷ []) → Allows (IsDeskHome coded) slots id me 0 (λ n. n) (λ _ me'. ShutsDesk coded me me')
  shuts_desk slots id me d away s r long at wide =
      let seat = only_seat r.view me.0 id (ap (λ (vs : List DeskView). get_elem? vs id) (sym r.only) ∙ at) in
      let has : me.1 ≡ (0, d) ∷ [] = ap (λ (m : Me D DeskView). m.1) away in let one = one_long s.homes r.one in let w : DeskView = home_view (coded.code d) in
      let back : put_back s.homes me.1 ≡ some d ∷ [] = (λ i. put_back (one.1 i) (has i)) in (
        w,
        gives,
        tt,
        record {
          view = w;
          only = λ i. set (r.only i) (seat.0 i) w;
          one = ap length back;
          home = λ _. (d, back, refl);
        },
        (λ d' same. λ i. (home_view (coded.code (ap (λ (l : List (ℕ × D)). first l) (sym has ∙ same) i)), rest (has i))),
      )
    where
      first : List (ℕ × D) → D
      first [] = d
      first (x ∷ xs) = x.1
