use Rattle.std.proofs.Common.{◌<◌, ◌+◌, ◌∙◌, ℕ, [], refl, sym, subst, get_or}
use Rattle.std.proofs.lemmas.List.{get_or-replicate, length-set}
use Rattle.lane_model.specs.declared.states.BookEntry.{BookEntry}
use Rattle.rp_base.specs.declared.limits.TheConstants.{CALLERS_MOST}
use Rattle.storm_run.proofs.Entries.{HasEntry, counted_next, entry_at, none_at}
use Rattle.storm_run.proofs.counts.counts_in.Goals as goal

pub loop-number-init : goal.loop-number-init
loop-number-init c = record { many = refl; counted = λ caller below. get_or-replicate 64 caller 0 0 below }

pub bounds-counts-from : goal.bounds-counts-from
bounds-counts-from c =
    let entry = entry_at c.args.book.now.entries c.loop-number.number c.in-Some.caller (sym c.caller.ensures ∙ c.in-Some.is) in
    let nobody : BookEntry = record { caller = 0; message = [] } in
    subst (λ (n : ℕ). n < CALLERS_MOST) (entry.is nobody ∙ sym c.from.ensures) (c.requires c.loop-number.number nobody entry.within)

pub unreachable-requires : goal.unreachable-requires
unreachable-requires c = none_at c.args.book.now.entries c.loop-number.number (subst (λ (n : ℕ). c.loop-number.number < n) c.len-number-end.ensures.len c.loop-number-test.true) (sym c.caller.ensures ∙ c.in-None.is)

pub loop-number-preserved : goal.loop-number-preserved
loop-number-preserved c =
    let book = c.args.book.now in
    let nobody : BookEntry = record { caller = 0; message = [] } in
    let entry : HasEntry book.entries c.loop-number.number c.from.result =
    subst (λ (n : ℕ). HasEntry book.entries c.loop-number.number n) (sym c.from.ensures) (entry_at book.entries c.loop-number.number c.in-Some.caller (sym c.caller.ensures ∙ c.in-Some.is)) in
    let low : c.from.result < CALLERS_MOST = subst (λ (n : ℕ). n < CALLERS_MOST) (entry.is nobody) (c.requires c.loop-number.number nobody entry.within) in
    record {
      many = length-set c.loop-number.counts c.from.result (get_or c.loop-number.counts c.from.result 0 + 1) ∙ c.loop-number.invariant.many;
      counted = λ n below. counted_next c.loop-number.counts book.entries c.loop-number.number c.from.result n nobody c.loop-number.invariant.many low below entry c.loop-number.invariant.counted;
    }
