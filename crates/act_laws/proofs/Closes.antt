-- Which moves close a link, and where among moves it was closed.
use Rattle.std.proofs.Common.{◌≡◌, ℕ, Bool, true, false, List, [], ◌∷◌, ◌++◌, refl, sym, ap, ◌∙◌}
use Rattle.std.specs.Prelude.{Option, Some, None}
use Rattle.std.proofs.lemmas.Bool.{true≢false}
use Rattle.rp_base.specs.declared.kinds.Era.{Era}
use Rattle.rp_base.specs.declared.kinds.End.{End}
use Rattle.rp_base.specs.declared.kinds.End.TheVariants as side
use Rattle.lane_model.specs.declared.calls.Wish.{Wish}
use Rattle.lane_model.specs.Forms.{list_form}
use Rattle.lane_model.specs.Links.{LinkState, end_of, lanes_step, on_lanes}
use Rattle.lane_model.specs.Recoveries.{without_caller}
use Rattle.lane_laws.specs.Handings.{Handing}
use Rattle.lane_laws.specs.Moves.{Close, Enlist, Leave, MayMoves, Move, Part, Reclaim, Step, Take, link_after_move}
use Rattle.lane_laws.specs.Ways.{AreWholeMoves, IsWholeMove, link_after_moves}
use Rattle.channel_bus.specs.Sides.{EndState, side_meaning}

-- a move is no close
abbrev pub ClosesNone : Move → Type 0
ClosesNone (Close inc) = ⊥
ClosesNone other = Unit {0}

abbrev pub AllCloseNone : List Move → Type 0
AllCloseNone [] = Unit {0}
AllCloseNone (move ∷ moves) = ClosesNone move × AllCloseNone moves

-- ---- the era

step_era : (link : LinkState EndState) (found : Option End) (caller follows : ℕ) (wished : Option Wish)
    → (on_lanes link found (λ lanes. lanes_step (list_form side_meaning) side_meaning link.era lanes caller follows wished)).state.era ≡ link.era
step_era link (Some side.Host) caller follows wished = refl
step_era link (Some side.Remote) caller follows wished = refl
step_era link None caller follows wished = refl

reclaim_era : (link : LinkState EndState) (found : Option End) (caller : ℕ) → (without_caller (list_form side_meaning) link found caller).era ≡ link.era
reclaim_era link (Some side.Host) caller = refl
reclaim_era link (Some side.Remote) caller = refl
reclaim_era link None caller = refl

-- a whole move that is no close leaves the era
same_era : (link : LinkState EndState) (move : Move) → IsWholeMove move → ClosesNone move → (link_after_move side_meaning link move).era ≡ link.era
same_era link (Enlist new) whole none = refl
same_era link (Step caller follows wished) whole none = step_era link (end_of link.callers caller) caller follows wished
same_era link (Close inc) whole none = absurd none
same_era link (Reclaim caller) whole none = reclaim_era link (end_of link.callers caller) caller
same_era link (Part end caller which) whole none = absurd whole
same_era link (Take end which) whole none = absurd whole
same_era link (Leave end which) whole none = absurd whole

pub stays_live : (link : LinkState EndState) (moves : List Move) → AreWholeMoves moves → AllCloseNone moves → link.era.is_live ≡ true → (link_after_moves side_meaning link moves).era.is_live ≡ true
stays_live link [] whole none live = live
stays_live link (move ∷ moves) whole none live =
    stays_live (link_after_move side_meaning link move) moves whole.1 none.1 (ap (λ (era : Era). era.is_live) (same_era link move whole.0 none.0) ∙ live)

-- ---- where moves close a link

-- a move is the close of this incarnation
record IsClose (move : Move) : Type 0 where
  pub inc : ℕ
  pub is : move ≡ Close inc

close_or : (link : LinkState EndState) (move : Move) → IsWholeMove move → ClosesNone move → link.era.is_live ≡ true → (link_after_move side_meaning link move).era.is_live ≡ false → IsClose move
close_or link move whole none live shut = absurd (true≢false (sym live ∙ ap (λ (era : Era). era.is_live) (sym (same_era link move whole none)) ∙ shut))

close_of : (link : LinkState EndState) (move : Move) → IsWholeMove move → link.era.is_live ≡ true → (link_after_move side_meaning link move).era.is_live ≡ false → IsClose move
close_of link (Enlist new) whole live shut = close_or link (Enlist new) whole tt live shut
close_of link (Step caller follows wished) whole live shut = close_or link (Step caller follows wished) whole tt live shut
close_of link (Close inc) whole live shut = record { inc = inc; is = refl }
close_of link (Reclaim caller) whole live shut = close_or link (Reclaim caller) whole tt live shut
close_of link (Part end caller which) whole live shut = absurd whole
close_of link (Take end which) whole live shut = absurd whole
close_of link (Leave end which) whole live shut = absurd whole

-- among moves a live link was closed behind the front ones
pub record ClosedAmong (link : LinkState EndState) (moves : List Move) : Type 0 where
  pub front : List Move
  pub inc : ℕ
  pub since : List Move
  pub parts : moves ≡ front ++ Close inc ∷ since
  pub live : (link_after_moves side_meaning link front).era.is_live ≡ true
  pub closed : (link_after_move side_meaning (link_after_moves side_meaning link front) (Close inc)).era.is_live ≡ false

module _ (link : LinkState EndState) (move : Move) (moves : List Move) (whole : AreWholeMoves (move ∷ moves)) (live : link.era.is_live ≡ true) where
  -- the first of them closes it, or it is closed among the later ones
  closed_by : (now : Bool) → (link_after_move side_meaning link move).era.is_live ≡ now → (now ≡ true → ClosedAmong (link_after_move side_meaning link move) moves) → ClosedAmong link (move ∷ moves)
  closed_by true on rest =
      let later = rest refl in
      record { front = move ∷ later.front; inc = later.inc; since = later.since; parts = ap (λ (l : List Move). move ∷ l) later.parts; live = later.live; closed = later.closed }
  closed_by false off rest =
      let close = close_of link move whole.0 live off in
      record {
        front = [];
        inc = close.inc;
        since = moves;
        parts = ap (λ (m : Move). m ∷ moves) close.is;
        live = live;
        closed = ap (λ (m : Move). (link_after_move side_meaning link m).era.is_live) (sym close.is) ∙ off;
      }

pub closed_among : (link : LinkState EndState) (moves : List Move) → AreWholeMoves moves → link.era.is_live ≡ true → (link_after_moves side_meaning link moves).era.is_live ≡ false → ClosedAmong link moves
closed_among link [] whole live shut = absurd (true≢false (sym live ∙ shut))
closed_among link (move ∷ moves) whole live shut =
    closed_by link move moves whole live (link_after_move side_meaning link move).era.is_live refl
    (λ on. closed_among (link_after_move side_meaning link move) moves whole.1 on shut)

-- ---- the front of moves

pub whole_front : (one other : List Move) → AreWholeMoves (one ++ other) → AreWholeMoves one
whole_front [] other whole = tt
whole_front (move ∷ moves) other whole = (whole.0, whole_front moves other whole.1)

pub may_front : (link : LinkState EndState) (one other : List Move) → MayMoves side_meaning link (one ++ other) → MayMoves side_meaning link one
may_front link [] other may = tt
may_front link (move ∷ moves) other may = (may.0, may_front (link_after_move side_meaning link move) moves other may.1)

pub none_front : (one other : List Handing) → one ++ other ≡ [] → one ≡ []
none_front [] other none = refl
none_front (handing ∷ handings) other none = absurd (cc)
