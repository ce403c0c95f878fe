-- What deeds leave of the rings of a link, and so of its lists.
use Rattle.std.proofs.Common.{◌≡◌, ℕ, zero, suc, ◌+◌, ◌-◌, ◌==◌, Bool, true, false, cond, List, [], ◌∷◌, ◌++◌, Option, Some, None, refl, sym, ap, subst, ◌∙◌, arith}
use Rattle.std.proofs.lemmas.Bool.{cond_both}
use Rattle.std.proofs.lemmas.List.{append_assoc, append-nil}
use Rattle.rp_base.specs.declared.kinds.End.{End}
use Rattle.rp_base.specs.declared.kinds.End.TheVariants as side
use Rattle.rp_base.specs.declared.limits.TheConstants.{STEPS_MOST}
use Rattle.lane_model.specs.declared.calls.Outcome.{Outcome}
use Rattle.lane_model.specs.declared.calls.Outcome.TheVariants as outcome
use Rattle.lane_model.specs.declared.calls.Wish.{Wish}
use Rattle.lane_model.specs.Conditions.{MayStep}
use Rattle.lane_model.specs.Lanes.{Stepped}
use Rattle.lane_model.specs.Links.{LinkState, Lanes, caller_step, end_of, on_lanes}
use Rattle.lane_model.proofs.FormSteps.{step_agrees}
use Rattle.lane_laws.specs.FormMoves.{form_move, form_moves}
use Rattle.lane_laws.specs.Handings.{Handing}
use Rattle.lane_laws.specs.Moves.{Move, MayMoves, Step, link_after_move}
use Rattle.lane_laws.specs.Takes.{is_at, moves_takes, move_takes, step_takes}
use Rattle.lane_laws.specs.Ways.{AreWholeMoves, link_after_moves}
use Rattle.lane_laws.proofs.FormMoves.{moves_agree}
use Rattle.ring_core.specs.declared.states.RingState.{RingState}
use Rattle.channel_bus.specs.Sides.{EndState, side_meaning}
use Rattle.link_bench.specs.declared.benches.Reach.{Reach}
use Rattle.link_bench.specs.declared.benches.Reach.TheVariants as reach
use Rattle.link_bench.specs.Benches.{LinkRings, Walk, call_steps, later_steps, lists_of, on_rings, step_on, walk_on}
use Rattle.link_bench.proofs.Lists.{is_rings}
use Rattle.link_bench.proofs.Walks.{goes_on_at}
use Rattle.act_laws.specs.Deeds.{Deeds, call_moves, deeds_then, later_moves, no_deeds, reach_takes}

-- ---- moves, one after the other

pub whole_both : (one other : List Move) → AreWholeMoves one → AreWholeMoves other → AreWholeMoves (one ++ other)
whole_both [] other first second = second
whole_both (move ∷ moves) other first second = (first.0, whole_both moves other first.1 second)

pub may_both : (link : LinkState EndState) (one other : List Move) → MayMoves side_meaning link one → MayMoves side_meaning (link_after_moves side_meaning link one) other
    → MayMoves side_meaning link (one ++ other)
may_both link [] other first second = second
may_both link (move ∷ moves) other first second = (first.0, may_both (link_after_move side_meaning link move) moves other first.1 second)

pub link_both : (link : LinkState EndState) (one other : List Move)
    → link_after_moves side_meaning link (one ++ other) ≡ link_after_moves side_meaning (link_after_moves side_meaning link one) other
link_both link [] other = refl
link_both link (move ∷ moves) other = link_both (link_after_move side_meaning link move) moves other

pub rings_both : (rings : LinkRings) (one other : List Move)
    → form_moves on_rings side_meaning rings (one ++ other) ≡ form_moves on_rings side_meaning (form_moves on_rings side_meaning rings one) other
rings_both rings [] other = refl
rings_both rings (move ∷ moves) other = rings_both (form_move on_rings side_meaning rings move) moves other

pub takes_both : (link : LinkState EndState) (one other : List Move) (end : End)
    → moves_takes side_meaning link (one ++ other) end ≡ moves_takes side_meaning link one end ++ moves_takes side_meaning (link_after_moves side_meaning link one) other end
takes_both link [] other end = refl
takes_both link (move ∷ moves) other end =
    ap (λ (l : List Handing). move_takes side_meaning link move end ++ l) (takes_both (link_after_move side_meaning link move) moves other end)
    ∙ sym (append_assoc (move_takes side_meaning link move end) (moves_takes side_meaning (link_after_move side_meaning link move) moves end) _)

-- ---- what deeds leave

-- these deeds leave this of the rings of a link
pub record Lands (rings : LinkRings) (deeds : Deeds) (after : LinkRings) : Type 0 where
  pub whole : AreWholeMoves deeds.moves
  pub may : MayMoves side_meaning (lists_of rings) deeds.moves
  pub leads : form_moves on_rings side_meaning rings deeds.moves ≡ after
  pub takes : (end : End) → moves_takes side_meaning (lists_of rings) deeds.moves end ≡ deeds.takes end

pub lands_none : (rings : LinkRings) → Lands rings no_deeds rings
lands_none rings = record { whole = tt; may = tt; leads = refl; takes = λ end. refl }

module _ (rings : LinkRings) (one : Deeds) (mid : LinkRings) (first : Lands rings one mid) where
  -- what they leave of the lists
  pub lands_lists : link_after_moves side_meaning (lists_of rings) one.moves ≡ lists_of mid
  lands_lists = sym (moves_agree on_rings side_meaning is_rings rings one.moves first.whole) ∙ ap lists_of first.leads

  pub lands_then : (other : Deeds) (after : LinkRings) → Lands mid other after → Lands rings (deeds_then one other) after
  lands_then other after second = record {
    whole = whole_both one.moves other.moves first.whole second.whole;
    may = may_both (lists_of rings) one.moves other.moves first.may (subst (λ (l : LinkState EndState). MayMoves side_meaning l other.moves) (sym lands_lists) second.may);
    leads = rings_both rings one.moves other.moves ∙ ap (λ (r : LinkRings). form_moves on_rings side_meaning r other.moves) first.leads ∙ second.leads;
    takes = λ end.
        takes_both (lists_of rings) one.moves other.moves end
        ∙ ap (λ (l : List Handing). l ++ moves_takes side_meaning (link_after_moves side_meaning (lists_of rings) one.moves) other.moves end) (first.takes end)
        ∙ ap (λ (l : LinkState EndState). one.takes end ++ moves_takes side_meaning l other.moves end) lands_lists
        ∙ ap (λ (l : List Handing). one.takes end ++ l) (second.takes end);
  }

-- ---- one step

same_callers : (link : LinkRings) (found : Option End) (step : Lanes (RingState EndState) → Stepped (Lanes (RingState EndState))) → (on_lanes link found step).state.callers ≡ link.callers
same_callers link (Some side.Host) step = refl
same_callers link (Some side.Remote) step = refl
same_callers link None step = refl

none_if : (b : Bool) → cond {A = List Handing} b [] [] ≡ []
none_if true = refl
none_if false = refl

-- the moves of a call whose first step is this one
abbrev AreFrom : ℕ → Move → (ℕ → List Move) → Type 0
AreFrom caller first moves = (moves 0 ≡ []) × ((more : ℕ) → first ∷ later_moves more caller ≡ moves (suc more))

-- a call made so many steps, which left this
pub record Walks (rings : LinkRings) (steps caller : ℕ) (moves : ℕ → List Move) (walk : Walk (RingState EndState)) : Type 0 where
  pub count : ℕ
  pub counted : walk.steps ≡ steps + count
  pub lands : Lands rings (record { moves = moves count; takes = reach_takes (lists_of walk.link) caller walk.reach }) walk.link

-- no step
pub walks_none : (rings : LinkRings) (steps caller : ℕ) (moves : ℕ → List Move) (came : Reach) → moves 0 ≡ [] → ((end : End) → reach_takes (lists_of rings) caller came end ≡ [])
    → Walks rings steps caller moves (record { link = rings; steps = steps; reach = came })
walks_none rings steps caller moves came none silent = record {
  count = 0;
  counted = omega arith;
  lands = subst (λ (l : List Move). Lands rings (record { moves = l; takes = reach_takes (lists_of rings) caller came }) rings) (sym none)
      (record { whole = tt; may = tt; leads = refl; takes = λ end. sym (silent end) });
}

-- under one test, what is done and the deeds beside it
pub both_if : {A B : Type 0} (b : Bool) (P : A → B → Type 0) (one two : A) (first second : B) → P one first → P two second → P (cond b one two) (cond b first second)
both_if true P one two first second is other = is
both_if false P one two first second is other = other

module _ (rings : LinkRings) (steps caller follows : ℕ) (wished : Option Wish) (may : MayStep (lists_of rings) caller wished)
    (moves : ℕ → List Move) (from : AreFrom caller (Step caller follows wished) moves) where
  abbrev stepped : Stepped LinkRings
  stepped = step_on on_rings rings caller follows wished

  same_after : lists_of stepped.state ≡ (caller_step side_meaning (lists_of rings) caller follows wished).state
  same_after = step_agrees on_rings side_meaning is_rings rings caller follows wished

  -- what is told by a step that does this to its call
  told_by : (done : Outcome) → done ≡ stepped.outcome → (end : End)
      → moves_takes side_meaning (lists_of rings) (Step caller follows wished ∷ []) end ≡ step_takes (end_of stepped.state.callers caller) end (record { state = lists_of stepped.state; outcome = done })
  told_by done is end =
      append-nil _
      ∙ ap (λ (state : LinkState EndState). step_takes (end_of rings.callers caller) end (record { state = state; outcome = stepped.outcome })) (sym same_after)
      ∙ ap (λ (o : Outcome). step_takes (end_of rings.callers caller) end (record { state = lists_of stepped.state; outcome = o })) (sym is)
      ∙ ap (λ (callers : List (Option End)). step_takes (end_of callers caller) end (record { state = lists_of stepped.state; outcome = done })) (sym (same_callers rings (end_of rings.callers caller) _))

  step_lands : (takes : End → List Handing) → ((end : End) → moves_takes side_meaning (lists_of rings) (Step caller follows wished ∷ []) end ≡ takes end)
      → Lands rings (record { moves = Step caller follows wished ∷ []; takes = takes }) stepped.state
  step_lands takes told = record { whole = (tt, tt); may = (may, tt); leads = refl; takes = told }

  module _ (later : ℕ → Walk (RingState EndState))
      (rest : (step : ℕ) → MayStep (lists_of stepped.state) caller None → Walks stepped.state (steps + 1) caller (λ count. later_moves count caller) (later step)) where
    at : (done : Outcome) → done ≡ stepped.outcome → Walks rings steps caller moves (walk_on stepped.state (steps + 1) done later)
    at (outcome.At step) is =
        let next = rest step (goes_on_at (lists_of rings) (lists_of stepped.state) caller follows wished may same_after step is) in
        let first = step_lands (λ end. []) (λ end. told_by (outcome.At step) is end ∙ none_if (is_at (end_of stepped.state.callers caller) end)) in
        let all = lands_then rings (record { moves = Step caller follows wished ∷ []; takes = λ end. [] }) stepped.state first
        (record { moves = later_moves next.count caller; takes = reach_takes (lists_of (later step).link) caller (later step).reach }) (later step).link next.lands in
        let counted = next.counted in
        record {
          count = suc next.count;
          counted = omega (arith, counted);
          lands = subst (λ (l : List Move). Lands rings (record { moves = l; takes = reach_takes (lists_of (later step).link) caller (later step).reach }) (later step).link) (from.1 next.count) all;
        }
    at (outcome.Ended ended) is = record {
      count = 1;
      counted = refl;
      lands = subst (λ (l : List Move). Lands rings (record { moves = l; takes = reach_takes (lists_of stepped.state) caller (reach.Ended ended) }) stepped.state) (from.1 0)
          (step_lands (reach_takes (lists_of stepped.state) caller (reach.Ended ended)) (told_by (outcome.Ended ended) is));
    }

    pub step_walks : Walks rings steps caller moves (walk_on stepped.state (steps + 1) stepped.outcome later)
    step_walks = at stepped.outcome refl

-- ---- calls

-- the later steps of a call
pub later_walks : (more last steps : ℕ) (rings : LinkRings) (caller : ℕ) → MayStep (lists_of rings) caller None
    → Walks rings steps caller (λ count. later_moves count caller) (later_steps on_rings more last steps rings caller)
unfolding later_steps
later_walks zero last steps rings caller may = walks_none rings steps caller _ (reach.At last) refl (λ end. refl)
later_walks (suc more) last steps rings caller may =
    let after = (step_on on_rings rings caller 0 None).state in
    cond_both (steps == STEPS_MOST) (record { link = rings; steps = steps; reach = reach.Limit }) _ (Walks rings steps caller (λ count. later_moves count caller))
    (λ _. walks_none rings steps caller _ reach.Limit refl (λ end. refl))
    (λ _. step_walks rings steps caller 0 None may (λ count. later_moves count caller) (refl, λ count. refl) (λ done. later_steps on_rings more done (steps + 1) after caller)
    (λ done next. later_walks more done (steps + 1) after caller next))

-- a call from its first step on
pub call_walks : (more steps : ℕ) (rings : LinkRings) (caller follows : ℕ) (wanted : Wish) → MayStep (lists_of rings) caller (Some wanted)
    → Walks rings steps caller (λ count. call_moves count caller follows wanted) (call_steps on_rings more steps rings caller follows wanted)
unfolding call_steps
call_walks more steps rings caller follows wanted may =
    let after = (step_on on_rings rings caller follows (Some wanted)).state in
    cond_both (steps == STEPS_MOST) (record { link = rings; steps = steps; reach = reach.Limit }) _ (Walks rings steps caller (λ count. call_moves count caller follows wanted))
    (λ _. walks_none rings steps caller _ reach.Limit refl (λ end. refl))
    (λ _. step_walks rings steps caller follows (Some wanted) may (λ count. call_moves count caller follows wanted) (refl, λ count. refl) (λ done. later_steps on_rings more done (steps + 1) after caller)
    (λ done next. later_walks more done (steps + 1) after caller next))

-- as many steps as the run counts
pub counted_lands : (rings : LinkRings) (steps caller : ℕ) (moves : ℕ → List Move) (walk : Walk (RingState EndState)) → Walks rings steps caller moves walk
    → Lands rings (record { moves = moves (walk.steps - steps); takes = reach_takes (lists_of walk.link) caller walk.reach }) walk.link
counted_lands rings steps caller moves walk walks =
    let counted = walks.counted in
    let same : walks.count ≡ walk.steps - steps = omega (arith, counted) in
    subst (λ (n : ℕ). Lands rings (record { moves = moves n; takes = reach_takes (lists_of walk.link) caller walk.reach }) walk.link) same walks.lands
