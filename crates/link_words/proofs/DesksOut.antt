-- The seat of a desk's table with the desk out, and its badge when the desk is home again.
use Rattle.std.proofs.Common.{◌≡◌, ℕ, List, [], ◌∷◌, sym, ap, ◌∙◌}
use Rattle.atomic_table.specs.Table.{Me, rest}
use Rattle.link_words.specs.declared.codes.DeskView.{DeskView}
use Rattle.link_words.specs.DeskSeats.{away_view, home_view, code_in}

-- a seat with the desk out, whatever the desk has become
pub away : {D : Type 0} (m m₀ : Me D DeskView) (d s : D) → m ≡ (away_view m₀.0.code, (0, d) ∷ []) → Path (Me D DeskView) (m.0, (0, s) ∷ rest m.1) (away_view m.0.code, (0, s) ∷ [])
away m m₀ d s e = (λ i. ((e i).0, (0, s) ∷ rest (e i).1)) ∙ (λ i. (away_view (sym (ap (λ (x : Me _ DeskView). x.0.code) e) i), (0, s) ∷ []))

pub held : {D : Type 0} (m m₀ : Me D DeskView) (d s : D) → m ≡ (away_view m₀.0.code, (0, d) ∷ []) → (0, s) ∷ rest m.1 ≡ (0, s) ∷ []
held m m₀ d s e = λ i. (0, s) ∷ rest (e i).1

-- a badge of a seat with the desk at home
pub home : (views : List DeskView) (v : DeskView) (code : _) → views ≡ v ∷ [] → v ≡ home_view code → views ≡ home_view (code_in views) ∷ []
home views v code only is = let all : views ≡ home_view code ∷ [] = only ∙ ap (λ (x : DeskView). x ∷ []) is in all ∙ (λ i. home_view (code_in (sym all i)) ∷ [])

-- the desk that is lent is the one that is out
pub lent : {D : Type 0} (s d : D) (slots : List (ℕ × D)) → slots ≡ (0, s) ∷ rest slots → slots ≡ (0, d) ∷ [] → s ≡ d
lent {D} s d slots is out = ap desk_of (sym is ∙ out)
  where
    desk_of : List (ℕ × D) → D
    desk_of [] = s
    desk_of (x ∷ xs) = x.1
