-- The links and the cores of a run by their names, and what is left without one of them (own).
use Rattle.std.specs.Prelude.{ℕ, Bool, ◌+◌, ◌==◌, List, ◌++◌, length, take, drop, find, slice_get, Option, Some, None, option_and_then, option_map, bytes_eq}
use Rattle.link_bench.specs.Benches.{BenchState}
use Rattle.crash_recover.specs.Cores.{CoreState}
use Rattle.link_commands.specs.NamedLinks.{NamedLink}
use Rattle.command_run.specs.NamedCores.{NamedCoreState}
use Rattle.command_run.specs.Runs.{ObjectsState, core_place, find_core, place_of}

-- whether there is no link and no core
abbrev pub is_bare : ObjectsState → Bool
is_bare objects = length objects.links + length objects.cores == 0

-- the link of this name
abbrev pub find_link : List NamedLink → List ℕ → Option NamedLink
find_link links name = find (λ (named : NamedLink). bytes_eq named.name name) links

-- a link, or else that of a core
abbrev pub link_or : Option NamedLink → Option NamedCoreState → Option BenchState
link_or None core = option_and_then (λ (named : NamedCoreState). named.core.bench) core
link_or (Some named) core = Some named.bench

-- the link of this name, or that of the core of this name
abbrev pub bench_under : ObjectsState → List ℕ → Option BenchState
bench_under objects name = link_or (find_link objects.links name) (find_core objects.cores name)

-- the item at this place
abbrev pub item_at : {X : Type 0} → List X → Option ℕ → Option X
item_at items place = option_and_then (slice_get items) place

-- the items without the one at this place
abbrev pub without : {X : Type 0} → List X → Option ℕ → List X
without items None = items
without items (Some place) = take place items ++ drop (place + 1) items

-- the link of this name that is taken out, and the run without it
abbrev pub link_bench_under : ObjectsState → List ℕ → Option BenchState
link_bench_under objects name = option_map (λ (named : NamedLink). named.bench) (item_at objects.links (place_of objects.links name))

abbrev pub without_link : ObjectsState → List ℕ → ObjectsState
without_link objects name = record objects { links = without objects.links (place_of objects.links name) }

-- the core of this name that is taken out, and the run without it
abbrev pub core_state_under : ObjectsState → List ℕ → Option CoreState
core_state_under objects name = option_map (λ (named : NamedCoreState). named.core) (item_at objects.cores (core_place objects.cores name))

abbrev pub without_core : ObjectsState → List ℕ → ObjectsState
without_core objects name = record objects { cores = without objects.cores (core_place objects.cores name) }
