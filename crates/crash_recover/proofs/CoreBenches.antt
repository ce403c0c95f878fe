-- The link of a core: a new one with a caller at each end.
use Rattle.std.proofs.Common.{◌≡◌, ℕ, Bool, false, List, [], refl, ap, ◌∙◌}
use Rattle.rp_base.specs.declared.kinds.End.TheVariants as side
use Rattle.lane_model.specs.Links.{free_number}
use Rattle.lane_model.specs.declared.calls.LinkConfig.{LinkConfig}
use Rattle.endpoint_map.specs.Bindings.{no_bindings}
use Rattle.channel_bus.specs.Sides.{EndState}
use Rattle.fw_load.specs.declared.rings.RingPair.{RingPair}
use Rattle.link_bench.specs.Benches.{BenchState, link_in, new_bench_of, with_new_caller}
use Rattle.crash_recover.specs.CoreBoots.{config_of, core_bench, fresh_end}

-- an end with drivers
abbrev pub end_with : Bool → List (List ℕ) → EndState
end_with has_service drivers = record { has_service = has_service; drivers = drivers; bindings = no_bindings; channels = [] }

abbrev with_host : BenchState → BenchState
with_host bench = with_new_caller bench side.Host (free_number (link_in bench).callers)

abbrev with_remote : BenchState → BenchState
with_remote bench = with_new_caller bench side.Remote (free_number (link_in bench).callers)

callers_are : (names : List (List ℕ)) (book first : ℕ) (rings : RingPair) → with_remote (with_host (new_bench_of (config_of rings book first) (fresh_end rings.service names) (fresh_end false []))) ≡ core_bench names book first rings
unfolding core_bench
callers_are names book first rings = refl

-- a new link with the two callers is the link of a core
pub made_core_bench : (names : List (List ℕ)) (book first : ℕ) (rings : RingPair) (config : LinkConfig) (host remote : EndState) (made one both : BenchState) → config ≡ config_of rings book first
    → host ≡ fresh_end rings.service names → remote ≡ fresh_end false [] → made ≡ new_bench_of config host remote
    → one ≡ with_new_caller made side.Host (free_number (link_in made).callers) → both ≡ with_new_caller one side.Remote (free_number (link_in one).callers)
    → both ≡ core_bench names book first rings
made_core_bench names book first rings config host remote made one both is here there begun with_one with_both =
    let start = begun ∙ ap (λ config. new_bench_of config host remote) is ∙ ap (λ end. new_bench_of (config_of rings book first) end remote) here ∙ ap (new_bench_of (config_of rings book first) (fresh_end rings.service names)) there in
    with_both ∙ ap with_remote (with_one ∙ ap with_host start) ∙ callers_are names book first rings
