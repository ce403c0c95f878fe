-- Turns of a pump, one after the other.
use Rattle.std.proofs.Common.{◌≡◌, ℕ, suc, ◌+◌, true, false, cond, refl, sym, ap, ◌∙◌}
use Rattle.link_bench.specs.declared.turns.TurnEnd.{TurnEnd}
use Rattle.link_bench.specs.declared.turns.TurnEnd.TheVariants as turn_end
use Rattle.link_bench.specs.Benches.{BenchState}
use Rattle.link_bench.specs.Watchers.{Seeing}
use Rattle.link_bench.specs.Turns.{Turns, PumpResult, is_whole, one_turn, pump_turns}

-- all turns are done
abbrev pub whole_pump : {W : Type 0} → BenchState → W → ℕ → ℕ → PumpResult W
whole_pump bench watcher steps done = record { turns = record { bench = bench; watcher = watcher; steps = steps; ended = turn_end.Whole }; done = done }

module _ {W : Type 0} (sees : Seeing W) (done sender receiver : ℕ) where
  -- no turn more
  pub turns_none : (bench : BenchState) (watcher : W) (steps : ℕ)
      → pump_turns sees 0 done sender receiver bench watcher steps ≡ whole_pump bench watcher steps done
  unfolding pump_turns
  turns_none bench watcher steps = refl

  -- one turn and more
  abbrev after_turn : ℕ → Turns W → PumpResult W
  after_turn more turn =
      cond (is_whole turn.ended) (pump_turns sees more (done + 1) sender receiver turn.bench turn.watcher turn.steps) (record { turns = turn; done = done })

  turns_one : (more : ℕ) (bench : BenchState) (watcher : W) (steps : ℕ)
      → pump_turns sees (suc more) done sender receiver bench watcher steps ≡ after_turn more (one_turn sees sender receiver done bench watcher steps)
  unfolding pump_turns
  turns_one more bench watcher steps = refl

  module _ (bench : BenchState) (watcher : W) (steps : ℕ) (left : BenchState) (seen : W) (after : ℕ) (ended : TurnEnd) (more : ℕ)
      (benched : left ≡ (one_turn sees sender receiver done bench watcher steps).bench) (sights : seen ≡ (one_turn sees sender receiver done bench watcher steps).watcher)
      (stepped : after ≡ (one_turn sees sender receiver done bench watcher steps).steps) (ends : ended ≡ (one_turn sees sender receiver done bench watcher steps).ended) where
    -- a turn and more, which left this and ended so
    turns_on : after_turn more (record { bench = left; watcher = seen; steps = after; ended = ended }) ≡ pump_turns sees (suc more) done sender receiver bench watcher steps
    turns_on =
        let turn = one_turn sees sender receiver done bench watcher steps in
        let made : record { bench = left; watcher = seen; steps = after; ended = ended } ≡ turn =
        ap (λ (b : BenchState). record { bench = b; watcher = seen; steps = after; ended = ended }) benched
        ∙ ap (λ (a : W). record { bench = turn.bench; watcher = a; steps = after; ended = ended }) sights
        ∙ ap (λ (s : ℕ). record { bench = turn.bench; watcher = turn.watcher; steps = s; ended = ended }) stepped
        ∙ ap (λ (e : TurnEnd). record { bench = turn.bench; watcher = turn.watcher; steps = turn.steps; ended = e }) ends in
        ap (after_turn more) made ∙ sym (turns_one more bench watcher steps)

    -- it was whole
    pub turns_more : is_whole ended ≡ true → pump_turns sees more (done + 1) sender receiver left seen after ≡ pump_turns sees (suc more) done sender receiver bench watcher steps
    turns_more whole =
        ap (λ b. cond b (pump_turns sees more (done + 1) sender receiver left seen after) (record { turns = record { bench = left; watcher = seen; steps = after; ended = ended }; done = done })) (sym whole)
        ∙ turns_on

    -- it was not
    pub turns_stop : is_whole ended ≡ false
        → record { turns = record { bench = left; watcher = seen; steps = after; ended = ended }; done = done } ≡ pump_turns sees (suc more) done sender receiver bench watcher steps
    turns_stop not_whole =
        ap (λ b. cond b (pump_turns sees more (done + 1) sender receiver left seen after) (record { turns = record { bench = left; watcher = seen; steps = after; ended = ended }; done = done })) (sym not_whole)
        ∙ turns_on
