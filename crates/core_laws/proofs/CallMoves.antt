-- Calls of a link are moves of it.
use Rattle.std.proofs.Common.{ℕ, Option, Some, None}
use Rattle.lane_model.specs.declared.calls.Wish.{Wish}
use Rattle.lane_model.specs.Links.{LinkState, caller_step}
use Rattle.lane_model.specs.Conditions.{MayStep}
use Rattle.lane_laws.specs.Moves.{Step}
use Rattle.channel_bus.specs.Sides.{EndState, side_meaning}
use Rattle.link_bench.specs.Benches.{LinkRings, call_steps, later_steps, lists_of, on_rings}
use Rattle.link_bench.proofs.KeptWalks.{call_keeps, later_keeps, next_may}
use Rattle.core_laws.specs.BenchMoves.{ComesBy}
use Rattle.core_laws.proofs.LinkMoves.{comes_none, comes_move, comes_then}

-- steps, and one more
then_step : (before : LinkState EndState) (caller : ℕ) (link : LinkState EndState) (follows : ℕ) (wished : Option Wish) → MayStep link caller wished → ComesBy side_meaning before link
    → ComesBy side_meaning before (caller_step side_meaning link caller follows wished).state
then_step before caller link follows wished may first = comes_then side_meaning before link _ first (comes_move side_meaning link (Step caller follows wished) may)

-- the later steps of a call
pub later_comes : (more last steps : ℕ) (rings : LinkRings) (caller : ℕ) → MayStep (lists_of rings) caller None
    → ComesBy side_meaning (lists_of rings) (lists_of (later_steps on_rings more last steps rings caller).link)
later_comes more last steps rings caller may =
    later_keeps (ComesBy side_meaning (lists_of rings)) (λ (link : LinkState EndState) (wished : Option Wish). MayStep link caller wished) caller
    (then_step (lists_of rings) caller) (next_may caller) more last steps rings may (comes_none side_meaning (lists_of rings))

-- a call from its first step on
pub call_comes : (more steps : ℕ) (rings : LinkRings) (caller follows : ℕ) (wanted : Wish) → MayStep (lists_of rings) caller (Some wanted)
    → ComesBy side_meaning (lists_of rings) (lists_of (call_steps on_rings more steps rings caller follows wanted).link)
call_comes more steps rings caller follows wanted may =
    call_keeps (ComesBy side_meaning (lists_of rings)) (λ (link : LinkState EndState) (wished : Option Wish). MayStep link caller wished) caller
    (then_step (lists_of rings) caller) (next_may caller) more steps rings follows wanted may (comes_none side_meaning (lists_of rings))
