-- Which callers of a bench hold buffers, and which host callers keep a core from being shut down (own).
use Rattle.std.specs.Prelude.{ℕ, ◌-◌, Bool, true, false, not, ◌&&◌, ◌||◌, Option, Some, None, is_some, find}
use Rattle.std.specs.List.{range_with_len}
use Rattle.rp_base.specs.declared.limits.TheConstants.{CALLERS_MOST}
use Rattle.rp_base.specs.declared.kinds.End.{End}
use Rattle.rp_base.specs.declared.kinds.End.TheVariants as side
use Rattle.lane_model.specs.Crashes.{has_held}
use Rattle.lane_model.specs.Links.{end_of}
use Rattle.link_bench.specs.Benches.{BenchState, is_in_call, link_in}

-- a caller is in use and in no call, and holds some buffer
abbrev pub holds : BenchState → ℕ → Bool
holds bench caller =
    is_some (end_of (link_in bench).callers caller) && not (is_in_call bench caller)
    && (has_held (link_in bench).to_host.lane.held caller || has_held (link_in bench).to_remote.lane.held caller)

-- the end of the host
abbrev pub is_host : Option End → Bool
is_host (Some side.Host) = true
is_host (Some side.Remote) = false
is_host None = false

-- a host caller is in a call or holds a buffer
abbrev pub is_out : BenchState → ℕ → Bool
is_out bench caller = is_host (end_of (link_in bench).callers caller) && (is_in_call bench caller || holds bench caller)

-- the least such caller other than 0
unfoldable pub caller_out : BenchState → Option ℕ
caller_out bench = find (λ caller. is_out bench caller) (range_with_len 1 (CALLERS_MOST - 1))
