-- The calls that a manager carries: what is out with each, and where its caller is in it (own).
use Rattle.std.specs.Prelude.{◌≡◌, ◌≢◌, ◌≤◌, ◌<◌, ◌+◌, ℕ, zero, suc, List, [], ◌∷◌, ◌++◌, length, Some, true, slice_index}
use Rattle.rp_base.specs.declared.limits.TheConstants.{CALLERS_MOST}
use mathlib.Core.Option.{some}
use lib.ListN.{get_elem?}
use Rattle.atomic_table.specs.Table.{turned}
use Rattle.lane_model.specs.declared.calls.Ask.{Ask}
use Rattle.lane_model.specs.declared.calls.Progress.{Progress}
use Rattle.lane_model.specs.declared.calls.Progress.TheVariants as progress
use Rattle.lane_model.specs.Links.{end_of}
use Rattle.link_words.specs.declared.rule.Pass.{Pass}
use Rattle.link_words.specs.declared.rule.Slot.{Slot}
use Rattle.link_words.specs.Calls.{SeatState, has_side}
use Rattle.split_ring.specs.Calls.{IsOwnAsk}
use Rattle.split_ring.specs.Focus.{front, behind, seat_of}
use Rattle.split_ring.specs.Phases.{IsUnderWay, side_of, slots_in}
use Rattle.split_ring.specs.Reclaims.{StandsIn}
use Rattle.split_ring.specs.Seats.{pass_in}
use Rattle.split_ring.specs.declared.callers.CallerId.{CallerId}
use Rattle.split_ring.specs.declared.callers.Manager.{Manager}
use Rattle.split_ring.specs.CallPhases.{Phase}
use Rattle.split_ring.specs.CallPhases as phase
use Rattle.split_ring.specs.declared.calls.RingCall.{RingCall}
use Rattle.split_ring.specs.declared.links.SharedLink.{SharedLink}

-- how many slots are out with the first so many side states, by how many are with each
abbrev pub out_before : ℕ → List ℕ → ℕ
out_before zero counts = 0
out_before (suc n) [] = 0
out_before (suc n) (c ∷ cs) = c + out_before n cs

-- the first slots go after the others, so many, one after the other
abbrev pub turned_by : ℕ → List (ℕ × Slot) → List (ℕ × Slot)
turned_by zero slots = slots
turned_by (suc n) slots = turned_by n (turned slots)

-- the slots with those of this side state in front
abbrev pub turned_to : ℕ → List ℕ → List (ℕ × Slot) → List (ℕ × Slot)
turned_to side counts slots = behind (out_before side counts) slots ++ front (out_before side counts) slots

-- the seat as if it had the pass of this caller alone, with what is out with its call in this phase
abbrev pub carried_at : CallerId → Phase → List ℕ → SeatState → SeatState
carried_at who p counts me = seat_of who.number (me.0, turned_to (side_of who.end p) counts me.1)

abbrev pub carried_seat : CallerId → Phase → Manager → SeatState
carried_seat who p manager = carried_at who p manager.out manager.seat.me

-- the caller of this seat is new: it has done nothing, and holds nothing
abbrev pub IsNew : SeatState → Type 0
IsNew me = ((pass_in me).own ≡ []) × ((pass_in me).hands ≡ [])

-- each slot that is out is one of a carried call, and they are in the order of the side states with which they are out, with each so many
pub record HasBlocks (counts : List ℕ) (me : SeatState) : Type 0 where
  pub four : length counts ≡ 4
  pub few : (slot : ℕ) → slice_index counts slot ≤ 2
  pub all : out_before 4 counts ≡ length me.1
  pub owned : (slot : ℕ) → slice_index counts slot ≢ 0 → (k : ℕ) × (p : Pass) × (get_elem? me.0.passes k ≡ some p) × (has_side slot p.call ≡ true)

module _ {D : Type 0} where
  -- the manager carries this caller, which is in this phase of its call, or in no call, where the call has ended
  pub record Carries (link : SharedLink D) (manager : Manager) (who : CallerId) (p : Phase) : Type 0 where
    pub user : end_of manager.users who.number ≡ Some who.end
    pub low : who.number < CALLERS_MOST
    pub number : (pass_in (carried_seat who p manager)).number ≡ who.number
    pub counted : slots_in p ≢ 0 → slice_index manager.out (side_of who.end p) ≡ slots_in p
    pub stands : StandsIn link.sizes who p (carried_seat who p manager)

  -- it is in no call, and may ask this
  abbrev pub CarriesIdle : SharedLink D → Manager → CallerId → Type 0
  CarriesIdle link manager who = Carries link manager who phase.Ended

  abbrev pub MayAskBy : SharedLink D → Manager → CallerId → Ask → Type 0
  MayAskBy link manager who asked = CarriesIdle link manager who × IsOwnAsk who asked (carried_seat who phase.Ended manager)

  -- or it is in this call, which has not ended
  abbrev pub MayAdvanceBy : SharedLink D → Manager → CallerId → RingCall D → Type 0
  MayAdvanceBy link manager who call = Carries link manager who call.phase × IsUnderWay call.phase

  -- the same after a step that said this
  abbrev pub CarriesOn : SharedLink D → Manager → CallerId → Phase → Progress → Type 0
  CarriesOn link manager who p (progress.At number) = Carries link manager who p × IsUnderWay p
  CarriesOn link manager who p (progress.Done answer) = CarriesIdle link manager who

  -- after a call of the manager it carries this caller as it did before: in the same phase of its call, with what it has done and what it holds
  abbrev pub Keeps : SharedLink D → Manager → Manager → CallerId → Phase → Type 0
  Keeps link before after who p = Carries link before who p → Carries link after who p × (pass_in (carried_seat who p after) ≡ pass_in (carried_seat who p before))
