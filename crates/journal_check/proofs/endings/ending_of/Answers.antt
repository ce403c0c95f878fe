use Rattle.std.proofs.Common.{◌≡◌, true, false, sym, ap, ◌∙◌, Some, bytes_eq}
use Rattle.journal.specs.declared.notices.Notice.TheVariants as notice
use Rattle.journal.specs.Notices.{notice_line}
use Rattle.journal_check.proofs.EndingFacts.{no_ending, read_fault_line, store_fault_line, step_limit_line, same_line}
use Rattle.journal_check.proofs.endings.ending_of.Goals as goal

pub returns-then-eq-clause-some : goal.returns-then-eq-clause-some
returns-then-eq-clause-some c = (tt, same_line notice.ReadFault _ c.args.bytes.now read_fault_line (sym (c.eq.ensures ∙ ap (bytes_eq c.args.bytes.now) c.as_slice.ensures) ∙ c.if-eq.true))

pub returns-then-eq-2-clause-some : goal.returns-then-eq-2-clause-some
returns-then-eq-2-clause-some c = (tt, same_line notice.StoreFault _ c.args.bytes.now store_fault_line (sym (c.eq-2.ensures ∙ ap (bytes_eq c.args.bytes.now) c.as_slice-2.ensures) ∙ c.if-eq-2.true))

pub returns-then-eq-3-clause-some : goal.returns-then-eq-3-clause-some
returns-then-eq-3-clause-some c = (tt, same_line notice.StepLimit _ c.args.bytes.now step_limit_line (sym (c.eq-3.ensures ∙ ap (bytes_eq c.args.bytes.now) c.as_slice-3.ensures) ∙ c.if-eq-3.true))

pub returns-in_default-clause-none : goal.returns-in_default-clause-none
returns-in_default-clause-none c = λ none.
    no_ending c.args.bytes.now (sym (c.eq.ensures ∙ ap (bytes_eq c.args.bytes.now) c.as_slice.ensures) ∙ c.if-eq.false) (sym (c.eq-2.ensures ∙ ap (bytes_eq c.args.bytes.now) c.as_slice-2.ensures) ∙ c.if-eq-2.false)
    (sym (c.eq-3.ensures ∙ ap (bytes_eq c.args.bytes.now) c.as_slice-3.ensures) ∙ c.if-eq-3.false)
    (λ line why small is. let found = c.refusal_in.ensures.back line why small is in absurd (cc))

pub returns-else-branch-clause-none : goal.returns-else-branch-clause-none
returns-else-branch-clause-none c = λ none.
    no_ending c.args.bytes.now (sym (c.eq.ensures ∙ ap (bytes_eq c.args.bytes.now) c.as_slice.ensures) ∙ c.if-eq.false) (sym (c.eq-2.ensures ∙ ap (bytes_eq c.args.bytes.now) c.as_slice-2.ensures) ∙ c.if-eq-2.false)
    (sym (c.eq-3.ensures ∙ ap (bytes_eq c.args.bytes.now) c.as_slice-3.ensures) ∙ c.if-eq-3.false)
    (λ line why small is.
    let found : Some c.in-Some.notice ≡ Some (notice.Refused line why) = sym c.in-Some.is ∙ c.refusal_in.ensures.back line why small is in
    let same : c.in-Some.notice ≡ notice.Refused line why = cc in
    let held = c.in_ok-is_line_of.ensures.1 (ap notice_line same ∙ is) in
    let never : true ≡ false = sym held ∙ c.if-branch.false in absurd (cc))
