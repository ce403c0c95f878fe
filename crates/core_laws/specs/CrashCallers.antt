-- How far a crash of a core has come with the remote callers of its link, and which callers it leaves (own).
use Rattle.std.specs.Prelude.{ℕ, ◌==◌, Option, Some, None, if◌then◌else◌}
use Rattle.rp_base.specs.declared.kinds.End.{End}
use Rattle.rp_base.specs.declared.kinds.End.TheVariants as side
use Rattle.lane_model.specs.Lanes.{holder}
use Rattle.link_bench.specs.Benches.{BenchState, link_in}
use Rattle.link_bench.specs.BenchCrashes.{after_close}
use Rattle.link_bench.specs.BenchEnds.{is_remote, without_one, without_others}

-- on which end a number of a core's link is in use after a crash, by where it was: a host caller stays, and of the remote callers 1 alone
abbrev pub end_after_crash : ℕ → Option End → Option End
end_after_crash caller found = if is_remote found then (if caller == 1 then Some side.Remote else None) else found

-- the link of a core in a crash, as the remote callers from this number on are yet to be ended: it is closed, who had the receiver's turn of the remote end was ended first, and then the others of lower numbers
abbrev pub crash_reaches : BenchState → ℕ → BenchState
crash_reaches bench caller =
    let first = holder (link_in (after_close bench)).to_remote.receiver in
    without_others first (without_one (after_close bench) first) 0 caller
