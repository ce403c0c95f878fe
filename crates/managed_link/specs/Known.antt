-- The state of a link that its manager knows (own).
use Rattle.std.specs.Prelude.{◌≡◌, Option, Some, unwrap_or}
use Rattle.std.proofs.Common.{sym, ap, ◌∙◌}
use Rattle.std.proofs.Props.{props}
use mathlib.Core.HLevel.{Σ_prop_path}
use Rattle.lane_model.specs.declared.lane_links.LaneLink.{LaneLink}
use Rattle.lane_model.specs.Forms.{FormMeaning}
use Rattle.lane_model.specs.Links.{LinkState, link_of}
use Rattle.ring_core.specs.declared.states.RingState.{RingState}
use Rattle.ring_core.specs.RingSteps.{ring_form}
use Rattle.channel_bus.specs.Sides.{EndState, side_meaning}
use Rattle.link_words.specs.Codes.{copied}
use base.Stored.{Gv-set}
use Rattle.link_words.specs.declared.codes.DeskTables.{DeskTables}
use Rattle.link_words.specs.declared.copies.LinkCopy.{LinkCopy}
use Rattle.link_words.specs.PlacedDesks.{PlacedDesk, placed_coded}
use Rattle.link_words.specs.PlacedLinks.{placed_link}
use Rattle.link_words.proofs.Exact.{copied_one}
use Rattle.split_ring.specs.declared.callers.Manager.{Manager}
use Rattle.managed_link.specs.EndCodes.{end_coded}

-- a link between a host and a remote: each lane has its lists and counts and, beside them, all words of its rings
abbrev pub LinkRings : Type 0
LinkRings = LaneLink (RingState EndState)

-- the form of its lanes, and the lists and counts that it stands for
abbrev pub on_rings : FormMeaning (RingState EndState) EndState
on_rings = ring_form side_meaning

abbrev pub lists_of : LinkRings → LinkState EndState
lists_of link = link_of on_rings link

-- the manager's copy is that of this link
abbrev pub IsKnown : Manager → LinkRings → Type 0
IsKnown manager m = manager.seat.me.0.copy ≡ Some (copied (placed_coded end_coded manager.seat.me.0.sizes.desks) (placed_link end_coded manager.seat.me.0.sizes.desks m))

-- the link that one stands for whose desks lie in their places
abbrev unplaced_lane : {tables : DeskTables} → RingState (PlacedDesk end_coded tables) → RingState EndState
unplaced_lane s = record { lane = record { lane = s.lane.lane; sender = s.lane.sender; receiver = s.lane.receiver; desk = s.lane.desk.desk }; rings = s.rings }

abbrev unplaced : {tables : DeskTables} → LaneLink (RingState (PlacedDesk end_coded tables)) → LinkRings
unplaced m = record { era = m.era; to_host = unplaced_lane m.to_host; to_remote = unplaced_lane m.to_remote; callers = m.callers }

-- the manager knows one state alone
pub known_one : (manager : Manager) (m n : LinkRings) → IsKnown manager m → IsKnown manager n → m ≡ n
known_one manager m n is was = let tables = manager.seat.me.0.sizes.desks in
    ap unplaced (copied_one (placed_coded end_coded tables) (placed_link end_coded tables m) (placed_link end_coded tables n) (ap (λ (k : Option LinkCopy). unwrap_or k (copied (placed_coded end_coded tables) (placed_link end_coded tables m))) (sym is ∙ was)))

pub known_prop : (manager : Manager) → IsProp ((m : LinkRings) × IsKnown manager m)
known_prop manager x y = Σ_prop_path (λ m. Prim.hlevel (props, Gv-set)) (known_one manager x.0 y.0 x.1 y.1)
