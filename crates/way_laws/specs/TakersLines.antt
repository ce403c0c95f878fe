-- The lines of takes in the order in which they are told, caller by caller (own).
use Rattle.std.specs.Prelude.{ℕ, zero, suc, ◌==◌, Bool, false, List, [], filter, map, option_map, unwrap_or, if◌then◌else◌}
use Rattle.rp_base.specs.declared.kinds.End.{End}
use Rattle.rp_base.specs.declared.kinds.End.TheVariants as side
use Rattle.lane_laws.specs.Handings.{Handing}
use Rattle.journal.specs.declared.events.Event.{Event}
use Rattle.link_commands.specs.CallEvents.{took_event}
use Rattle.way_laws.specs.WordedTakes.{taker_of}

-- whether an event is the line of a take of this caller
abbrev pub is_line_of : ℕ → Event → Bool
is_line_of caller line = unwrap_or (option_map (λ taker. taker == caller) (taker_of line)) false

-- the lines of a caller's takes that are among these events, in their order
abbrev pub lines_of : ℕ → List Event → List Event
lines_of caller events = filter (is_line_of caller) events

-- the lines of these handings, one after the other, as this caller's takes
abbrev pub lines_for : List ℕ → ℕ → List Handing → List Event
lines_for name caller handings = map (λ handing. took_event name caller handing.sent.number handing.sent.message handing.verdict) handings

-- of what is told at the ends of a core's link, what its actor with this caller is told: the drivers have caller 0 at the host end, the worker has caller 1 at the remote end, and no other caller is an actor's
abbrev pub actor_takes : (End → List Handing) → ℕ → List Handing
actor_takes takes zero = takes side.Host
actor_takes takes (suc zero) = takes side.Remote
actor_takes takes (suc (suc more)) = []

-- the lines of takes that a drive tells of this caller: those of all that its actor is told, or none where the run is quiet
abbrev pub drive_lines : Bool → List ℕ → ℕ → (End → List Handing) → List Event
drive_lines is_quiet name caller takes = if is_quiet then [] else lines_for name caller (actor_takes takes caller)
