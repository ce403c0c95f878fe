-- The parts of the rule, taken out and put together.
use Rattle.link_words.specs.declared.codes.DeskTables.{DeskTables}
use Rattle.link_words.specs.PlacedDesks.{PlacedDesk}
use Rattle.std.proofs.Common.{◌≡◌, ℕ, ◌<◌, ◌≤◌, List, ◌∷◌, length, ap, arith}
use mathlib.Core.Option.{Option}
use Rattle.atomic_table.specs.Table.{State}
use base.Stored.{Coded}
use Rattle.rp_base.specs.declared.kinds.End.{End}
use Rattle.rp_base.specs.declared.limits.TheConstants.{BOOK_MOST, CAPACITY_MOST}
use Rattle.rp_base.specs.declared.kinds.End.TheVariants as side
use Rattle.lane_model.specs.declared.lane_links.LaneLink.{LaneLink}
use Rattle.lane_model.specs.Desks.{DeskMeaning}
use Rattle.ring_core.specs.declared.states.RingState.{RingState}
use Rattle.ring_core.specs.declared.states.RingSizes.{RingSizes}
use Rattle.lane_laws.specs.SoundRingLinks.{HasSoundRings}
use Rattle.ring_core.specs.SoundRings.{IsSoundRings}
use Rattle.link_words.specs.declared.rule.Slot.{Slot}
use Rattle.link_words.specs.declared.rule.LinkSizes.{LinkSizes}
use Rattle.link_words.specs.declared.rule.View.{View}
use Rattle.link_words.specs.declared.rule.Event.{Event}
use Rattle.link_words.specs.Words.{sizes_at, lane_to, Shelves, shelf_to, words_of, homes_of}
use Rattle.link_words.specs.Turns.{turns_in}
use Rattle.link_words.specs.Histories.{entries_by, sends_in, takes_by, takes_in, books_of}
use Rattle.link_words.specs.Deeds.{Deed, after_deed, MayDo, IsSoundState}
use Rattle.link_words.specs.Parts.{HoldsBuffers, AreNear, LanePart, TurnsPart, HistoriesPart, NumbersPart}
use Rattle.link_words.specs.Rule.{IsReached, fresh_block, Shows}

-- the sizes of the rings and of the books are those that the table was told
abbrev pub IsAsTold : {B : Type 0} {kc : Coded B} {kz : DeskTables} → LinkSizes → LaneLink (RingState (PlacedDesk kc kz)) → Type 0
IsAsTold z m = ((m.to_host.rings.sizes ≡ z.to_host) × (m.to_remote.rings.sizes ≡ z.to_remote)) × ((m.to_host.lane.lane.book ≡ z.book) × (m.to_remote.lane.lane.book ≡ z.book))

-- what the books of this incarnation say of a pass, on the lane to one end
abbrev pub SendsAgree : {D : Type 0} → LaneLink (RingState D) → End → ℕ → ℕ → List Event → Type 0
SendsAgree m e number first own = first ≤ m.era.inc → entries_by number 0 (lane_to m e).lane.lane.accepted ≡ sends_in e m.era.inc own

abbrev pub TakesAt : {D : Type 0} → LaneLink (RingState D) → End → ℕ → ℕ → List Event → Type 0
TakesAt m e number first own = first ≤ m.era.inc → takes_by number 0 (lane_to m e).lane.lane.takers ≡ takes_in e m.era.inc own

module _ {B : Type 0} {kc : Coded B} {kz : DeskTables} {cd : Coded (PlacedDesk kc kz)} {desk : DeskMeaning (PlacedDesk kc kz)} {z : LinkSizes} {st : State Slot View} {m : LaneLink (RingState (PlacedDesk kc kz))} {p : ℕ} where
  pub rings_in : Shows cd desk z st m p → HasSoundRings m
  rings_in r = record { to_host = r.to_host.rings; to_remote = r.to_remote.rings }

  pub state_in : Shows cd desk z st m p → IsSoundState desk m
  state_in r = record { rings = record { to_host = r.to_host.rings; to_remote = r.to_remote.rings }; sound = r.sound }

  pub sizes_in : Shows cd desk z st m p → (m.to_host.rings.sizes ≡ z.to_host) × (m.to_remote.rings.sizes ≡ z.to_remote)
  sizes_in r = (r.to_host.sizes, r.to_remote.sizes)

  pub told_in : Shows cd desk z st m p → IsAsTold z m
  told_in r = ((r.to_host.sizes, r.to_remote.sizes), (r.to_host.book, r.to_remote.book))

  pub book_in : Shows cd desk z st m p → (e : End) → (lane_to m e).lane.lane.book ≡ z.book
  book_in r side.Host = r.to_host.book
  book_in r side.Remote = r.to_remote.book

  pub rings_at : Shows cd desk z st m p → (e : End) → IsSoundRings (lane_to m e)
  rings_at r side.Host = r.to_host.rings
  rings_at r side.Remote = r.to_remote.rings

  pub buffers_in : (r : Shows cd desk z st m p) (e : End) → HoldsBuffers (lane_to m e) (shelf_to r.shelves e)
  buffers_in r side.Host = r.to_host.buffers
  buffers_in r side.Remote = r.to_remote.buffers

  pub near_in : Shows cd desk z st m p → (e : End) → AreNear (sizes_at z e).capacity (length (lane_to m e).lane.lane.accepted) (lane_to m e).lane.lane.returned
  near_in r side.Host = r.to_host.near
  near_in r side.Remote = r.to_remote.near

-- a lane with sound rings has counts of at most the book
module _ {D : Type 0} (s : RingState D) (q : IsSoundRings s) where
  pub accepted_most : length s.lane.lane.accepted ≤ BOOK_MOST
  accepted_most = let within = q.counted.within in let most = q.counted.most in omega (arith, within, most)

  pub handed_most : length s.lane.lane.takers ≤ BOOK_MOST
  handed_most = let behind = q.counted.behind in let within = q.counted.within in let most = q.counted.most in omega (arith, behind, within, most)

  pub returned_most : s.lane.lane.returned ≤ BOOK_MOST
  returned_most = let back = q.counted.back in let behind = q.counted.behind in let within = q.counted.within in let most = q.counted.most in omega (arith, back, behind, within, most)

  -- where a message is to be handed over, not each buffer is in hand
  pub hands_most : length s.lane.lane.takers < length s.lane.lane.accepted → length s.rings.hands < CAPACITY_MOST
  hands_most more = let back = q.counted.back in let out = q.counted.out in let most = q.sized.most in omega (arith, back, out, most, more)

  -- and there is room for one who takes it
  pub takers_room : length s.lane.lane.takers < length s.lane.lane.accepted → length s.lane.lane.takers < s.lane.lane.book
  takers_room more = let within = q.counted.within in omega (arith, within, more)

-- a lane with sound rings has the counts of its indexes near
pub near : {B : Type 0} {kc : Coded B} {kz : DeskTables} (s : RingState (PlacedDesk kc kz)) (sizes : RingSizes) → s.rings.sizes ≡ sizes → IsSoundRings s → AreNear sizes.capacity (length s.lane.lane.accepted) s.lane.lane.returned
near s sizes is q =
    let back = q.counted.back in let behind = q.counted.behind in let out = q.counted.out in let same : s.rings.sizes.capacity ≡ sizes.capacity = ap (λ (x : RingSizes). x.capacity) is in
    (omega (arith, back, behind), omega (arith, out, same))

pub lane_part : {B : Type 0} {kc : Coded B} {kz : DeskTables} (s : RingState (PlacedDesk kc kz)) (sizes : RingSizes) (book : ℕ) (shelf : List (Option Slot)) → s.rings.sizes ≡ sizes → s.lane.lane.book ≡ book → IsSoundRings s → HoldsBuffers s shelf → LanePart s sizes book shelf
lane_part s sizes book shelf is many q buffers = record { sizes = is; book = many; rings = q; near = near s sizes is q; buffers = buffers }

-- one deed more
pub one_more : {B : Type 0} {kc : Coded B} {kz : DeskTables} (desk : DeskMeaning (PlacedDesk kc kz)) (m m' : LaneLink (RingState (PlacedDesk kc kz))) (d : Deed) → IsReached desk m → MayDo desk m d → m' ≡ after_deed desk m d → IsReached desk m'
one_more desk m m' d r may is = record { start = r.start; run = d ∷ r.run; by_run = (m, r.by_run, may, is); short = r.short }

module _ {B : Type 0} {kc : Coded B} {kz : DeskTables} {cd : Coded (PlacedDesk kc kz)} {desk : DeskMeaning (PlacedDesk kc kz)} {z : LinkSizes} {st : State Slot View} {m : LaneLink (RingState (PlacedDesk kc kz))} {p : ℕ} where
  -- the rule of its parts
  pub put_together : st.words ≡ words_of p (fresh_block desk m) m → (shelves : Shelves) → st.homes ≡ homes_of m shelves → IsSoundState desk m → IsAsTold z m
      → ((e : End) → HoldsBuffers (lane_to m e) (shelf_to shelves e)) → IsReached desk m → TurnsPart (turns_in m) p st.views → HistoriesPart m.era.inc m.callers (λ e. books_of (lane_to m e)) st.views → NumbersPart cd m st.views
      → Shows cd desk z st m p
  put_together words shelves homes kept sizes buffers reached turns histories numbers = record {
    words_are = words;
    shelves = shelves;
    homes_are = homes;
    sound = kept.sound;
    reached = reached;
    turns = turns;
    to_host = lane_part m.to_host z.to_host z.book shelves.host sizes.0.0 sizes.1.0 kept.rings.to_host (buffers side.Host);
    to_remote = lane_part m.to_remote z.to_remote z.book shelves.remote sizes.0.1 sizes.1.1 kept.rings.to_remote (buffers side.Remote);
    histories = histories;
    numbers = numbers;
  }
