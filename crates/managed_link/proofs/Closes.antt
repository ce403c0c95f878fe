-- A managed link behind a close.
use Rattle.std.proofs.Common.{◌≡◌, ◌&&◌, ℕ, Bool, List, Option, true, false, refl, sym, ap, subst, ◌∙◌, eq-eqb}
use Rattle.std.proofs.lemmas.Bool.{cond_both, cond-false, cond-true, false_from_ne_true}
use Rattle.std.specs.Prelude.{Vec}
use Rattle.std.specs.declared.alloc.Global.{Global}
use Rattle.rp_base.specs.declared.kinds.Era.{Era}
use Rattle.lane_model.specs.Lanes.{is_live_in}
use Rattle.lane_model.specs.Links.{LinkState}
use Rattle.lane_model.specs.Recoveries.{link_after_close}
use Rattle.lane_model.specs.Soundness.{SoundLink}
use Rattle.lane_laws.proofs.CrashLaws.{close_sound}
use Rattle.channel_bus.specs.Sides.{EndState}
use Rattle.split_ring.specs.declared.callers.CallerId.{CallerId}
use Rattle.split_ring.specs.declared.callers.Manager.{Manager}
use Rattle.split_ring.specs.CallPhases.{Phase}
use Rattle.split_ring.specs.declared.links.SharedLink.{SharedLink}
use Rattle.split_ring.specs.Callers.{IsManagerOf, IsStateOf}
use Rattle.split_ring.specs.Carried.{Keeps}
use Rattle.split_ring.specs.Handed.{LeavesLanes}
use Rattle.split_ring.specs.Sends.{live_era}
use Rattle.split_ring.proofs.Eras.{live_is}
use Rattle.managed_link.specs.declared.call_slots.CarriedCall.{CarriedCall}
use Rattle.managed_link.specs.declared.hands.Hand.{Hand}
use Rattle.managed_link.specs.declared.views.LaneView.{LaneView}
use Rattle.managed_link.specs.EndCodes.{end_coded}
use Rattle.managed_link.specs.Known.{LinkRings, lists_of}
use Rattle.managed_link.specs.Managed.{IsManaged, ShowsViews}
use Rattle.managed_link.proofs.SameLanes.{managed_kept}

-- the link whose era is this incarnation, closed
abbrev closed_in : LinkRings → ℕ → LinkRings
closed_in m inc = record m { era = record { inc = inc; is_live = false } }

leaves_lanes : (m : LinkRings) (inc : ℕ) → LeavesLanes m (link_after_close m inc) × ((link_after_close m inc).callers ≡ m.callers)
leaves_lanes m inc = cond_both (is_live_in m.era inc) (closed_in m inc) m (λ (after : LinkRings). LeavesLanes m after × (after.callers ≡ m.callers))
    (λ _. (record { to_host = refl; to_remote = refl }, refl)) (λ _. (record { to_host = refl; to_remote = refl }, refl))

stays_sound : (m : LinkRings) (inc : ℕ) → SoundLink (lists_of m) → SoundLink (lists_of (link_after_close m inc))
stays_sound m inc sound = cond_both (is_live_in m.era inc) (closed_in m inc) m (λ (after : LinkRings). SoundLink (lists_of after))
    (λ is. subst (λ (link : LinkState EndState). SoundLink link) (cond-true (is_live_in m.era inc) (lists_of (closed_in m inc)) (lists_of m) is) (close_sound (lists_of m) inc sound)) (λ _. sound)

-- it is managed as before
pub managed_closed : (shared : SharedLink EndState) (before after : Manager) (calls : List (Option CarriedCall)) (host remote : Vec Hand Global) (m : LinkRings) (inc : ℕ)
    → IsManagerOf shared after → IsStateOf end_coded after (link_after_close m inc) → ((who : CallerId) (p : Phase) → Keeps shared before after who p)
    → IsManaged shared before calls host remote m → IsManaged shared after calls host remote (link_after_close m inc)
managed_closed shared before after calls host remote m inc manages state keeps managed = let leaves = leaves_lanes m inc in
    managed_kept shared before after calls host remote m (link_after_close m inc) manages state (stays_sound m inc managed.sound) leaves.0 leaves.1 keeps managed

-- a close that was not refused leaves the era closed
pub shows_closed : (era : Era) (to_host to_remote : LaneView) (m : LinkRings) (inc : ℕ) → m.era ≡ live_era inc → ShowsViews era to_host to_remote m → ShowsViews (record era { is_live = false }) to_host to_remote (link_after_close m inc)
shows_closed era to_host to_remote m inc live shows =
    let is : is_live_in m.era inc ≡ true = ap (λ (x : Era). is_live_in x inc) live ∙ ap (λ (b : Bool). b && true) (eq-eqb inc inc refl) in
    subst (λ (after : LinkRings). ShowsViews (record era { is_live = false }) to_host to_remote after) (sym (cond-true (is_live_in m.era inc) (closed_in m inc) m is))
    (record { era_is = ap (λ (x : Era). record x { is_live = false }) (shows.era_is ∙ live); host_is = shows.host_is; remote_is = shows.remote_is; receivers = shows.receivers })

-- and one that was refused leaves all
pub refused_stays : (m : LinkRings) (inc : ℕ) → (m.era ≡ live_era inc → ⊥) → link_after_close m inc ≡ m
refused_stays m inc not_live = cond-false (is_live_in m.era inc) (closed_in m inc) m (false_from_ne_true (is_live_in m.era inc) (λ is. not_live (live_is m.era inc is)))
