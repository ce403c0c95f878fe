use Rattle.std.proofs.Common.{◌≡◌, drop}
use Rattle.load_findings.specs.Aliases.{read_through}
use Rattle.load_findings.proofs.held.read_through.Given as goal

-- the aliases that are left decide
abbrev pub invariant-loop-alias : goal.invariant-loop-alias
invariant-loop-alias l = read_through (drop l.alias-index l.aliases) l.da l.len ≡ read_through l.aliases l.da l.len
