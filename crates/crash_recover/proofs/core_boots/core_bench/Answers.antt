use Rattle.std.proofs.Common.{false, refl, ap, ◌∙◌}
use Rattle.crash_recover.specs.CoreBoots.{config_of}
use Rattle.crash_recover.proofs.CoreBenches.{end_with, made_core_bench}
use Rattle.crash_recover.proofs.core_boots.core_bench.Goals as goal

pub returns : goal.returns
returns c =
    made_core_bench c.args.names.items c.args.book c.args.first c.args.rings.now (config_of c.args.rings.now c.args.book c.args.first) c.in_ok-host.host c.in_ok-remote.remote c.in_ok-bench.bench
    c.caller.new.self c.caller-2.new.self refl c.in_ok-host.ensures
    (c.in_ok-remote.ensures ∙ ap (end_with false) c.new-2.ensures.items) c.in_ok-bench.ensures c.caller.ensures.left c.caller-2.ensures.left
