-- The rule of the table of a link: there is a state of the ring form that its words, its slots and its views show (own).
use Rattle.link_words.specs.declared.codes.DeskTables.{DeskTables}
use Rattle.link_words.specs.PlacedDesks.{PlacedDesk, placed_coded, placed_meaning}
use Rattle.std.specs.Prelude.{◌≡◌, ℕ, false, replicate, List, [], ◌∷◌, None, Some}
use Rattle.rp_base.specs.declared.limits.TheConstants.{CALLERS_MOST}
use Rattle.atomic_table.specs.Table.{State}
use base.Stored.{Coded}
use Rattle.lane_model.specs.declared.lane_links.LaneLink.{LaneLink}
use Rattle.lane_model.specs.Desks.{DeskMeaning}
use Rattle.lane_model.specs.Links.{link_of}
use Rattle.lane_model.specs.Recoveries.{link_after_reopen}
use Rattle.lane_model.specs.Soundness.{SoundLink}
use Rattle.ring_core.specs.declared.states.RingState.{RingState}
use Rattle.ring_core.specs.RingSteps.{ring_form}
use Rattle.link_words.specs.declared.rule.Slot.{Slot}
use Rattle.link_words.specs.declared.rule.LinkSizes.{LinkSizes}
use Rattle.link_words.specs.declared.rule.Call.{Call}
use Rattle.link_words.specs.declared.rule.Call.TheVariants.{Gathers}
use Rattle.link_words.specs.declared.rule.Pass.{Pass}
use Rattle.link_words.specs.declared.rule.View.{View}
use Rattle.link_words.specs.declared.rule.Event.{Event}
use Rattle.link_words.specs.Codes.{opened_copy}
use Rattle.link_words.specs.Sides.{no_sides}
use Rattle.link_words.specs.Words.{lane_to, lane_words, reset_block, words_of, homes_of, Shelves}
use Rattle.link_words.specs.Layouts.{layout}
use Rattle.link_words.specs.Turns.{turns_in}
use Rattle.link_words.specs.Histories.{HasHistory, HasHands, IsOfNow, books_of}
use Rattle.link_words.specs.BufferNumbers.{AreNumbersShort}
use Rattle.link_words.specs.Deeds.{Deed, after_deed, MayDo}
use Rattle.link_words.specs.Parts.{IsCallAt, LanePart, TurnsPart, HistoriesPart, NumbersPart}

-- the view of the first seat, which is the manager's: its own pass, which has no side state, and the copy of the new link
abbrev pub first_view : LinkSizes → ℕ → View
first_view z n = record {
  passes = record { number = n; call = Gathers no_sides no_sides; first = 0; own = []; hands = [] } ∷ [];
  out = [];
  users = replicate CALLERS_MOST None;
  inc = z.first;
  reclaims = [];
  ended_passes = [];
  is_closed = false;
  copy = Some (opened_copy z);
  sizes = z;
}

-- a pass of this number is in this call of a link, of which a reopening has reset so many words
abbrev pub IsCallOf : {B : Type 0} {kc : Coded B} {kz : DeskTables} → LaneLink (RingState (PlacedDesk kc kz)) → ℕ → ℕ → Call → Type 0
IsCallOf m p number call = IsCallAt (turns_in m) p number call

abbrev pub HasCall : {B : Type 0} {kc : Coded B} {kz : DeskTables} → LaneLink (RingState (PlacedDesk kc kz)) → ℕ → Pass → Type 0
HasCall m p q = IsCallOf m p q.number q.call

abbrev pub IsHistory : {D : Type 0} → LaneLink (RingState D) → ℕ → ℕ → List Event → Type 0
IsHistory m number first own = HasHistory m.era.inc (λ e. books_of (lane_to m e)) number first own

abbrev pub HistoryOf : {D : Type 0} → LaneLink (RingState D) → Pass → Type 0
HistoryOf m q = IsHistory m q.number q.first q.own

abbrev pub HandsOf : {D : Type 0} → LaneLink (RingState D) → Pass → Type 0
HandsOf m q = HasHands m.callers (λ e. books_of (lane_to m e)) q.number q.hands

abbrev pub LatestOf : {D : Type 0} → LaneLink (RingState D) → Pass → Type 0
LatestOf m q = IsOfNow m.era.inc q.number q.hands q.own

module _ {D : Type 0} (desk : DeskMeaning D) where
  -- the words of the next incarnation, of those that a reopening resets
  abbrev pub fresh_block : LaneLink (RingState D) → List ℕ
  fresh_block m = reset_block (lane_words (link_after_reopen (ring_form desk) m).to_host) (lane_words (link_after_reopen (ring_form desk) m).to_remote)

  -- these deeds, the newest first, take the first state to this one
  abbrev pub Reaches : LaneLink (RingState D) → List Deed → LaneLink (RingState D) → Type 0
  Reaches start [] m = m ≡ start
  Reaches start (d ∷ ds) m = (m₀ : LaneLink (RingState D)) × Reaches start ds m₀ × MayDo desk m₀ d × (m ≡ after_deed desk m₀ d)

  -- some deeds lead to this state from one whose numbers of buffers have 32 bits
  pub record IsReached (m : LaneLink (RingState D)) : Type 0 where
    pub start : LaneLink (RingState D)
    pub run : List Deed
    pub by_run : Reaches start run m
    pub short : AreNumbersShort start

module _ {B : Type 0} {kc : Coded B} {kz : DeskTables} (coded : Coded (PlacedDesk kc kz)) (desk : DeskMeaning (PlacedDesk kc kz)) where
  -- the words and the slots at home are those of this state, of which a reopening has reset so many words; the state is sound and was
  -- reached by deeds of the ring form; and the five parts hold: on turns, on the lane to each end, on histories, on numbers
  pub record Shows (z : LinkSizes) (s : State Slot View) (m : LaneLink (RingState (PlacedDesk kc kz))) (p : ℕ) : Type 0 where
    pub words_are : s.words ≡ words_of p (fresh_block desk m) m
    pub shelves : Shelves
    pub homes_are : s.homes ≡ homes_of m shelves
    pub sound : SoundLink (link_of (ring_form desk) m)
    pub reached : IsReached desk m
    pub turns : TurnsPart (turns_in m) p s.views
    pub to_host : LanePart m.to_host z.to_host z.book shelves.host
    pub to_remote : LanePart m.to_remote z.to_remote z.book shelves.remote
    pub histories : HistoriesPart m.era.inc m.callers (λ e. books_of (lane_to m e)) s.views
    pub numbers : NumbersPart coded m s.views

  -- the rule over the words alone, one after the other
  abbrev pub WordsRule : LinkSizes → State Slot View → Type 0
  WordsRule z s = (m : LaneLink (RingState (PlacedDesk kc kz))) × (p : ℕ) × Shows z s m p

  -- the rule over the words of the table, which are apart
  abbrev pub PlacedRule : LinkSizes → State Slot View → Type 0
  PlacedRule z s = (words : List ℕ) × (s.words ≡ layout words) × WordsRule z (record s { words = words })

-- the rule of the table of a link whose desks lie in the tables that the sizes name
abbrev pub LinkRule : {D : Type 0} → Coded D → DeskMeaning D → LinkSizes → State Slot View → Type 0
LinkRule coded meaning z s = PlacedRule (placed_coded coded z.desks) (placed_meaning coded z.desks meaning) z s
