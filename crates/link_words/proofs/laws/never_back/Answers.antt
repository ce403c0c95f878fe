use Rattle.link_words.specs.declared.rule.Counted.TheVariants.{Room, Gave}
use Rattle.link_words.proofs.Seen.{never_counts, never_published, never_taken}
use Rattle.link_words.proofs.laws.never_back.Goals as goal

pub returns-clause-counts : goal.returns-clause-counts
returns-clause-counts c = λ lane inc later earlier between before never. never_counts lane inc later earlier between before never

pub returns-clause-published : goal.returns-clause-published
returns-clause-published c = λ lane inc number message later between before never. never_published lane inc number message later between before never

pub returns-clause-taken : goal.returns-clause-taken
returns-clause-taken c = λ lane inc number message later between before never. never_taken lane inc number message later between before never

pub returns-clause-given : goal.returns-clause-given
returns-clause-given c = λ lane inc returned again accepted between before. (
  (λ never. (never_counts lane inc (Room accepted again) (Gave returned) between before never).1),
  λ never. never_counts lane inc (Gave again) (Gave returned) between before never,
)
