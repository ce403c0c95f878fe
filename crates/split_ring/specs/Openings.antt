-- The words of a new link, one after the other (own; the rings are those of a new split virtqueue, VIRTIO 1.2 section 2.7).
use Rattle.std.specs.Prelude.{ℕ, ◌+◌, ◌-◌, ◌*◌, ◌≤◌, List, ◌∷◌, [], ◌++◌, replicate}
use Rattle.std.specs.List.{range_with_len}
use Rattle.rp_base.specs.declared.limits.TheConstants.{CAPACITY_MOST}
use Rattle.ring_core.specs.declared.states.RingSizes.{RingSizes}
use Rattle.link_words.specs.declared.rule.LinkSizes.{LinkSizes}

-- the idle word, the era, which is live, four free turns, and the four indexes
abbrev pub first_words : LinkSizes → List ℕ
first_words z = 0 ∷ (z.first * 2 + 1) ∷ 0 ∷ 0 ∷ 0 ∷ 0 ∷ 0 ∷ (z.to_host.capacity - z.to_host.own) ∷ 0 ∷ (z.to_remote.capacity - z.to_remote.own) ∷ []

-- the entries of a lane: the forward ring's are 0, and the return ring has the buffers that no send takes from the sender's own list
abbrev pub opened_entries : RingSizes → List ℕ
opened_entries sizes = replicate sizes.entries 0 ++ (range_with_len sizes.own (sizes.capacity - sizes.own) ++ replicate (sizes.entries - (sizes.capacity - sizes.own)) 0)

-- all words
abbrev pub opened_words : LinkSizes → List ℕ
opened_words z = first_words z ++ (opened_entries z.to_host ++ opened_entries z.to_remote)

-- each lane has an entry for each buffer, and the sender's own list has no more than there are
pub record IsOpenable (z : LinkSizes) : Type 0 where
  pub to_host : (z.to_host.own ≤ z.to_host.capacity) × (z.to_host.capacity ≤ z.to_host.entries) × (z.to_host.capacity ≤ CAPACITY_MOST)
  pub to_remote : (z.to_remote.own ≤ z.to_remote.capacity) × (z.to_remote.capacity ≤ z.to_remote.entries) × (z.to_remote.capacity ≤ CAPACITY_MOST)
