use Rattle.std.proofs.Common.{[]}
use Rattle.chart.proofs.LawFacts.{ends_from}
use Rattle.chart.proofs.laws.ends_in_order.Goals as goal

pub returns : goal.returns
returns c = λ events. ends_from [] events
