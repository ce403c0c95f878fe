use Rattle.core_laws.proofs.Starts.{attaches_where, boots_where, hands_over_where}
use Rattle.core_laws.proofs.laws.starts_just_where.Goals as goal

pub returns : goal.returns
returns c = record {
  boot = boots_where;
  handover = hands_over_where;
  attach = attaches_where;
}
