-- The one seat of a desk's table, and the rule of the table (own).
use Rattle.std.specs.Prelude.{◌≡◌, ◌∷◌, [], List, length, true, false}
use mathlib.Core.Option.{some}
use base.Stored.{Gv, gnil, Coded}
use Rattle.atomic_table.specs.Table.{State, Me}
use Rattle.link_words.specs.declared.codes.DeskView.{DeskView}

-- the desk of this code is in its slot, or with the seat
abbrev pub home_view : Gv → DeskView
home_view code = record { is_home = true; code = code }

abbrev pub away_view : Gv → DeskView
away_view code = record { is_home = false; code = code }

-- the code that a badge of the table has
abbrev pub code_in : List DeskView → Gv
code_in [] = gnil
code_in (v ∷ vs) = v.code

module _ {D : Type 0} (coded : Coded D) where
  -- there is one seat, and where the desk is in its slot it is that of the code which the seat knows
  pub record IsDeskHome (s : State D DeskView) : Type 0 where
    pub view : DeskView
    pub only : s.views ≡ view ∷ []
    pub one : length s.homes ≡ 1
    pub home : view.is_home ≡ true → (d : D) × (s.homes ≡ some d ∷ []) × (view.code ≡ coded.code d)

  -- the desk goes out of its slot to the seat
  abbrev pub OpensDesk : Me D DeskView → Me D DeskView → Type 0
  OpensDesk m m' = (d : D) × (m.0.code ≡ coded.code d) × (m' ≡ (away_view m.0.code, (0, d) ∷ []))

  -- the desk is in its slot again, as it is now
  abbrev pub ShutsDesk : Me D DeskView → Me D DeskView → Type 0
  ShutsDesk m m' = (d : D) → m.1 ≡ (0, d) ∷ [] → m' ≡ (home_view (coded.code d), [])
