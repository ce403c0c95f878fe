use Rattle.std.proofs.Common.{◌≡◌, ◌%◌, sym, ap, ◌∙◌, arith, Some}
use Rattle.word_kinds.specs.Places.{word_at}
use Rattle.word_kinds.specs.Rows.{text_at}
use Rattle.word_kinds.specs.Readings.{number_read}
use Rattle.journal.specs.declared.notices.Notice.TheVariants as notice
use Rattle.journal.specs.Notices.{cause_text}
use Rattle.journal_check.proofs.EndingFacts.{refusal_said, number_said, some_line}
use Rattle.journal_check.proofs.endings.refusal_in.Goals as goal

pub returns-in_default-clause-back : goal.returns-in_default-clause-back
returns-in_default-clause-back c = λ line why small is. absurd (omega (arith, some_line (notice.Refused line why) c.args.bytes.now is, c.in_default.len_below))

pub returns-in_err-why-clause-back : goal.returns-in_err-why-clause-back
returns-in_err-why-clause-back c = λ line why small is.
    let words = c.first_words-count.ensures.words ∙ refusal_said line why c.args.bytes.now small is in
    let said : cause_text why ≡ c.word_at.result.now = sym (c.word_at.ensures ∙ ap (λ ws. word_at ws 3) words) in
    let found = sym c.in_err-why.was ∙ c.cause_of.ensures why said in absurd (cc)

pub returns-clause-back : goal.returns-clause-back
returns-clause-back c = λ line why small is.
    let words = c.first_words-count.ensures.words ∙ refusal_said line why c.args.bytes.now small is in
    let said : cause_text why ≡ c.word_at.result.now = sym (c.word_at.ensures ∙ ap (λ ws. word_at ws 3) words) in
    let found = sym c.in_ok-why.was ∙ c.cause_of.ensures why said in
    let same : c.in_ok-why.why ≡ why = cc in
    let number = ap (λ n. n % 4294967296) (c.decimal_at-line.ensures ∙ ap (λ ws. number_read (text_at ws 2)) words) ∙ number_said line small in
    λ i. Some (notice.Refused (number i) (same i))
