-- What a look of the manager at a word says (own).
use Rattle.std.specs.Prelude.{◌≡◌, ◌<◌, ◌^◌, ℕ}
use Rattle.lane_model.specs.declared.lane_links.LaneLink.{LaneLink}
use Rattle.ring_core.specs.declared.states.RingState.{RingState}
use Rattle.link_words.specs.declared.rule.LinkSizes.{LinkSizes}
use Rattle.link_words.specs.BufferNumbers.{AreNumbersShort}
use Rattle.link_words.specs.Steps.{HasWord}

-- the rings of both lanes have these sizes, and the incarnation and each buffer that they name have numbers of 32 bits
pub record FitsWords {D : Type 0} (z : LinkSizes) (m : LaneLink (RingState D)) : Type 0 where
  pub inc : m.era.inc < 2 ^ 32
  pub to_host : m.to_host.rings.sizes ≡ z.to_host
  pub to_remote : m.to_remote.rings.sizes ≡ z.to_remote
  pub short : AreNumbersShort m

-- in the state before the step, which fits the words of a table of these sizes, the word at this place of the table is the number that was found
abbrev pub SeesWord : {D : Type 0} → LinkSizes → ℕ → ℕ → LaneLink (RingState D) → LaneLink (RingState D) → Type 0
SeesWord z place n before after = HasWord place n before after × FitsWords z before
