-- Moves of a link, one after the other.
use Rattle.std.proofs.Common.{◌≡◌, List, [], ◌∷◌, ◌++◌, refl, sym, ap, subst, ◌∙◌}
use Rattle.lane_model.specs.Desks.{DeskMeaning}
use Rattle.lane_model.specs.Links.{LinkState}
use Rattle.lane_laws.specs.Moves.{Move, MayMove, MayMoves, Recorded, no_handings, link_after_move, after_move, after_moves}
use Rattle.channel_bus.specs.Sides.{EndState, side_meaning}
use Rattle.core_laws.specs.BenchMoves.{ComesBy, IsReached}
use Rattle.core_laws.proofs.ShortMoves.{short_by}

-- what moves leave of a link doesn't rest on what was handed over before
pub same_link : {D : Type 0} (desk : DeskMeaning D) (one other : Recorded D) (moves : List Move) → one.link ≡ other.link
    → (after_moves desk one moves).link ≡ (after_moves desk other moves).link
same_link desk one other [] same = same
same_link {D} desk one other (move ∷ moves) same =
    same_link desk (after_move desk one move) (after_move desk other move) moves (ap (λ (link : LinkState D). link_after_move desk link move) same)

pub after_both : {D : Type 0} (desk : DeskMeaning D) (now : Recorded D) (one other : List Move)
    → after_moves desk now (one ++ other) ≡ after_moves desk (after_moves desk now one) other
after_both desk now [] other = refl
after_both desk now (move ∷ moves) other = after_both desk (after_move desk now move) moves other

may_both : {D : Type 0} (desk : DeskMeaning D) (before : LinkState D) (one other : List Move) → MayMoves desk before one
    → MayMoves desk (after_moves desk (no_handings before) one).link other → MayMoves desk before (one ++ other)
may_both desk before [] other may more = more
may_both {D} desk before (move ∷ moves) other may more = (
  may.0,
  may_both desk (link_after_move desk before move) moves other may.1
      (subst (λ (link : LinkState D). MayMoves desk link other)
      (same_link desk (after_move desk (no_handings before) move) (no_handings (link_after_move desk before move)) moves refl) more),
)

-- of moves that may be made, the first may be made, and then the others
pub may_split : {D : Type 0} (desk : DeskMeaning D) (now : Recorded D) (one other : List Move) → MayMoves desk now.link (one ++ other)
    → MayMoves desk now.link one × MayMoves desk (after_moves desk now one).link other
may_split desk now [] other may = (tt, may)
may_split desk now (move ∷ moves) other may =
    let later = may_split desk (after_move desk now move) moves other may.1 in
    ((may.0, later.0), later.1)

pub comes_none : {D : Type 0} (desk : DeskMeaning D) (link : LinkState D) → ComesBy desk link link
comes_none desk link = record { moves = []; may = tt; left = refl }

pub comes_move : {D : Type 0} (desk : DeskMeaning D) (link : LinkState D) (move : Move) → MayMove link move → ComesBy desk link (link_after_move desk link move)
comes_move desk link move may = record { moves = move ∷ []; may = (may, tt); left = refl }

pub comes_then : {D : Type 0} (desk : DeskMeaning D) (before middle after : LinkState D) → ComesBy desk before middle → ComesBy desk middle after
    → ComesBy desk before after
comes_then {D} desk before middle after first second = record {
  moves = first.moves ++ second.moves;
  may = may_both desk before first.moves second.moves first.may
      (subst (λ (link : LinkState D). MayMoves desk link second.moves) (sym first.left) second.may);
  left = ap (λ (now : Recorded D). now.link) (after_both desk (no_handings before) first.moves second.moves)
      ∙ same_link desk (after_moves desk (no_handings before) first.moves) (no_handings middle) second.moves first.left ∙ second.left;
}

-- what a reached link comes to by moves is reached
pub reached_by : (before after : LinkState EndState) → IsReached before → ComesBy side_meaning before after → IsReached after
reached_by before after reached came = record {
  start = reached.start;
  new = reached.new;
  came = comes_then side_meaning reached.start before after reached.came came;
  short = short_by before after came reached.short;
}
