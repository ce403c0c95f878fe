use Rattle.std.proofs.Common.{◌≡◌, ℕ, List, ◌++◌, length, take, drop, sym, ap, ◌∙◌, subst}
use Rattle.std.proofs.Math.Seq.{take-append_seam}
use Rattle.split_ring.specs.declared.callers.Caller.{Caller}
use Rattle.storm_run.specs.Rounds.{IsWholeRound}
use Rattle.storm_run.specs.Tasks.{HaveWorked, IsTaskOf}
use Rattle.storm_run.proofs.Moves.{whole}
use Rattle.storm_run.proofs.rounds.round.Goals as goal

pub returns-clause-whole : goal.returns-clause-whole
returns-clause-whole g c =
    let link = c.args.link.now in let task = c.of-task.result in let before = c.args.callers.items in let after = c.work_all.new.callers in
    let as_many : length after ≡ length before = c.work_all.auto.callers ∙ ap length c.deref_mut.ensures.value in
    subst (λ (l : List Caller). IsWholeRound link c.args.count before l) (sym (ap (λ (n : ℕ). take n (after ++ drop (length after) before)) (c.args.callers.ok.0 ∙ sym as_many) ∙ take-append_seam after (drop (length after) before)))
    (whole link c.args.count task before after c.of-task.ensures.count (subst (λ (l : List Caller). IsTaskOf task l) c.deref.ensures.value c.of-task.ensures.task) as_many
    (subst (λ (l : List Caller). HaveWorked link task l after) c.deref_mut.ensures.value c.work_all.ensures))
