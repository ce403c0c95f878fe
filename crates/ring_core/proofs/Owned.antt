-- One owner: what each change of the rings keeps of it.
use Rattle.std.proofs.Common.{◌≡◌, ◌≢◌, ℕ, ◌+◌, ◌-◌, ◌%◌, ◌<◌, ◌≤◌, suc, cond, List, [], ◌∷◌, ◌++◌, set, sym, ap, ◌∙◌, inl, inr, arith}
use Rattle.std.proofs.lemmas.Bool.{cases_lt, lt-ltb, le-ltb}
use Rattle.vring_layout.specs.declared.words.UsedWord.{UsedWord}
use Rattle.ring_core.specs.declared.states.Hand.{Hand}
use Rattle.ring_core.specs.declared.states.RingSizes.{RingSizes}
use Rattle.ring_core.specs.Rings.{buffer_at, source_buffer, return_count}
use Rattle.ring_core.specs.RingSteps.{held_buffer, hands_without}
use Rattle.ring_core.specs.Owners.{once, times_between, times_numbered, once_below}
use Rattle.ring_core.specs.SoundRings.{HasOneOwner}
use Rattle.ring_core.proofs.Windows.{times_first, times_last, times_agree, times_some, entries_apart, buffer_at_other}
use Rattle.ring_core.proofs.Hands.{times_in_hands-push, times_in_hands-without, once_under, once_above}

-- a publish: the buffer of the send leaves the coming sends and is behind the messages in the ring
pub owned-published : (sizes : RingSizes) (accepted handed returned : ℕ) (forward returns : List UsedWord) (hands : List Hand) (aside : List ℕ)
    → HasOneOwner sizes accepted handed returned forward returns hands aside → handed ≤ accepted → accepted < returned + sizes.capacity
    → buffer_at sizes.entries forward accepted ≡ source_buffer sizes.entries sizes.own returns accepted
    → HasOneOwner sizes (accepted + 1) handed returned forward returns hands aside
owned-published sizes accepted handed returned forward returns hands aside owned behind room stored = record {
  times = λ id.
      let source = source_buffer sizes.entries sizes.own returns in
      let sent = buffer_at sizes.entries forward in
      let sources = times_first source id accepted (sizes.capacity + returned - accepted) (sizes.capacity + returned - (accepted + 1)) (omega arith) in
      let messages = times_last sent id handed (accepted - handed) accepted (omega arith) in
      let longer : times_between sent id handed (accepted + 1 - handed) ≡ times_between sent id handed (suc (accepted - handed)) =
      ap (times_between sent id handed) {x = accepted + 1 - handed} {y = suc (accepted - handed)} (omega arith) in
      let same : once (sent accepted) id ≡ once (source accepted) id = ap (λ b. once b id) stored in
      let before = owned.times id in
      omega arith;
}

-- a forward entry is stored behind the messages in the ring
pub owned-stored : (sizes : RingSizes) (accepted handed returned : ℕ) (forward returns : List UsedWord) (hands : List Hand) (aside : List ℕ) (entry : UsedWord)
    → HasOneOwner sizes accepted handed returned forward returns hands aside → handed ≤ accepted → accepted < handed + sizes.entries
    → HasOneOwner sizes accepted handed returned (set forward (accepted % sizes.entries) entry) returns hands aside
owned-stored sizes accepted handed returned forward returns hands aside entry owned behind room = record {
  times = λ id.
      let agree = times_agree (buffer_at sizes.entries (set forward (accepted % sizes.entries) entry)) (buffer_at sizes.entries forward) id handed (accepted - handed)
      (λ k low high. buffer_at_other sizes.entries forward k accepted entry (entries_apart sizes.entries k accepted (omega arith) (omega arith))) in
      let before = owned.times id in
      omega arith;
}

-- a handing: the buffer of the next message is in hand
pub owned-handed : (sizes : RingSizes) (accepted handed returned : ℕ) (forward returns : List UsedWord) (hands : List Hand) (aside : List ℕ) (hand : Hand)
    → HasOneOwner sizes accepted handed returned forward returns hands aside → handed < accepted
    → hand.buffer ≡ buffer_at sizes.entries forward handed
    → HasOneOwner sizes accepted (handed + 1) returned forward returns (hands ++ hand ∷ []) aside
owned-handed sizes accepted handed returned forward returns hands aside hand owned some taken = record {
  times = λ id.
      let sent = buffer_at sizes.entries forward in
      let messages = times_first sent id handed (accepted - handed) (accepted - (handed + 1)) (omega arith) in
      let more = times_in_hands-push hands hand id in
      let same : once hand.buffer id ≡ once (sent handed) id = ap (λ b. once b id) taken in
      let before = owned.times id in
      omega arith;
}

-- a buffer of the sender's own list, and one of the return ring
pub source-early : (entries own : ℕ) (returns : List UsedWord) (k : ℕ) → k < own → source_buffer entries own returns k ≡ k
source-early entries own returns k early = ap (λ v. cond v k (buffer_at entries returns (k - own))) (lt-ltb k own early)

pub source-late : (entries own : ℕ) (returns : List UsedWord) (k : ℕ) → own ≤ k → source_buffer entries own returns k ≡ buffer_at entries returns (k - own)
source-late entries own returns k late = ap (λ v. cond v k (buffer_at entries returns (k - own))) (le-ltb k own late)

-- a buffer that a coming send will take, with the return ring changed behind all of them
pub source-stored : (sizes : RingSizes) (accepted returned : ℕ) (returns : List UsedWord) (entry : UsedWord) → sizes.own ≤ sizes.capacity
    → sizes.capacity + returned < accepted + sizes.entries
    → (k : ℕ) → accepted ≤ k → k < sizes.capacity + returned
    → source_buffer sizes.entries sizes.own (set returns (return_count sizes returned % sizes.entries) entry) k ≡ source_buffer sizes.entries sizes.own returns k
source-stored sizes accepted returned returns entry own room k low high = elim (cases_lt k sizes.own) [
  | inl early ↦ source-early sizes.entries sizes.own (set returns (return_count sizes returned % sizes.entries) entry) k early
      ∙ sym (source-early sizes.entries sizes.own returns k early)
  | inr late ↦ source-late sizes.entries sizes.own (set returns (return_count sizes returned % sizes.entries) entry) k late
      ∙ buffer_at_other sizes.entries returns (k - sizes.own) (return_count sizes returned) entry
      (entries_apart sizes.entries (k - sizes.own) (return_count sizes returned) (omega arith) (omega arith))
      ∙ sym (source-late sizes.entries sizes.own returns k late)
]

-- a return entry is stored behind the coming sends
pub owned-return-stored : (sizes : RingSizes) (accepted handed returned : ℕ) (forward returns : List UsedWord) (hands : List Hand) (aside : List ℕ) (entry : UsedWord)
    → HasOneOwner sizes accepted handed returned forward returns hands aside → sizes.own ≤ sizes.capacity → accepted ≤ returned + sizes.capacity
    → sizes.capacity + returned < accepted + sizes.entries
    → HasOneOwner sizes accepted handed returned forward (set returns (return_count sizes returned % sizes.entries) entry) hands aside
owned-return-stored sizes accepted handed returned forward returns hands aside entry owned own out room = record {
  times = λ id.
      let agree = times_agree (source_buffer sizes.entries sizes.own (set returns (return_count sizes returned % sizes.entries) entry))
      (source_buffer sizes.entries sizes.own returns) id accepted (sizes.capacity + returned - accepted)
      (λ k low high. source-stored sizes accepted returned returns entry own room k low (omega arith)) in
      let before = owned.times id in
      omega arith;
}

-- the source that the next return entry is
pub source-returned : (sizes : RingSizes) (returned : ℕ) (returns : List UsedWord) → sizes.own ≤ sizes.capacity
    → source_buffer sizes.entries sizes.own returns (sizes.capacity + returned) ≡ buffer_at sizes.entries returns (return_count sizes returned)
source-returned sizes returned returns own =
    source-late sizes.entries sizes.own returns (sizes.capacity + returned) (omega arith)
    ∙ ap (buffer_at sizes.entries returns) {x = sizes.capacity + returned - sizes.own} {y = return_count sizes returned} (omega arith)

-- a buffer that was in hand is back
pub owned-returned : (sizes : RingSizes) (accepted handed returned : ℕ) (forward returns : List UsedWord) (hands : List Hand) (aside : List ℕ) (number : ℕ)
    → HasOneOwner sizes accepted handed returned forward returns hands aside → sizes.own ≤ sizes.capacity → accepted ≤ returned + sizes.capacity
    → times_numbered hands number ≡ 1
    → buffer_at sizes.entries returns (return_count sizes returned) ≡ held_buffer hands number
    → HasOneOwner sizes accepted handed (returned + 1) forward returns (hands_without hands number) aside
owned-returned sizes accepted handed returned forward returns hands aside number owned own out one stored = record {
  times = λ id.
      let source = source_buffer sizes.entries sizes.own returns in
      let sources = times_last source id accepted (sizes.capacity + returned - accepted) (sizes.capacity + returned) (omega arith) in
      let longer : times_between source id accepted (sizes.capacity + (returned + 1) - accepted) ≡ times_between source id accepted (suc (sizes.capacity + returned - accepted)) =
      ap (times_between source id accepted) {x = sizes.capacity + (returned + 1) - accepted} {y = suc (sizes.capacity + returned - accepted)} (omega arith) in
      let fewer = times_in_hands-without hands number id one in
      let same : once (source (sizes.capacity + returned)) id ≡ once (held_buffer hands number) id = ap (λ b. once b id) (source-returned sizes returned returns own ∙ stored) in
      let before = owned.times id in
      omega arith;
}

-- a number that is counted once is below the bound
below_from_once : (id bound : ℕ) → 1 ≤ once_below id bound → id < bound
below_from_once id bound one = elim (cases_lt id bound) [
  | inl below ↦ below
  | inr above ↦ let none = once_above id bound above in absurd (omega arith)
]

at_most_once : (id bound : ℕ) → once_below id bound ≤ 1
at_most_once id bound = elim (cases_lt id bound) [
  | inl below ↦ let one = once_under id bound below in omega arith
  | inr above ↦ let none = once_above id bound above in omega arith
]

-- the buffer of the next send is one of the lane, and stands in no entry of a message
pub source-below : (sizes : RingSizes) (accepted handed returned : ℕ) (forward returns : List UsedWord) (hands : List Hand) (aside : List ℕ)
    → HasOneOwner sizes accepted handed returned forward returns hands aside → accepted < returned + sizes.capacity
    → source_buffer sizes.entries sizes.own returns accepted < sizes.capacity
source-below sizes accepted handed returned forward returns hands aside owned room =
    let source = source_buffer sizes.entries sizes.own returns in
    let some = times_some source accepted (sizes.capacity + returned - accepted) accepted (omega arith) (omega arith) in
    let all = owned.times (source accepted) in
    below_from_once (source accepted) sizes.capacity (omega arith)

pub source-apart : (sizes : RingSizes) (accepted handed returned : ℕ) (forward returns : List UsedWord) (hands : List Hand) (aside : List ℕ)
    → HasOneOwner sizes accepted handed returned forward returns hands aside → accepted < returned + sizes.capacity
    → (number : ℕ) → handed ≤ number → number < accepted → buffer_at sizes.entries forward number ≢ source_buffer sizes.entries sizes.own returns accepted
source-apart sizes accepted handed returned forward returns hands aside owned room number low high same =
    let source = source_buffer sizes.entries sizes.own returns in
    let sent = buffer_at sizes.entries forward in
    let coming = times_some source accepted (sizes.capacity + returned - accepted) accepted (omega arith) (omega arith) in
    let message = times_some sent handed (accepted - handed) number low (omega arith) in
    let there : times_between sent (sent number) handed (accepted - handed) ≡ times_between sent (source accepted) handed (accepted - handed) =
    ap (λ id. times_between sent id handed (accepted - handed)) same in
    let all = owned.times (source accepted) in
    let most = at_most_once (source accepted) sizes.capacity in
    omega arith

-- the buffer of a message in the ring is one of the lane
pub message-below : (sizes : RingSizes) (accepted handed returned : ℕ) (forward returns : List UsedWord) (hands : List Hand) (aside : List ℕ)
    → HasOneOwner sizes accepted handed returned forward returns hands aside → (number : ℕ) → handed ≤ number → number < accepted
    → buffer_at sizes.entries forward number < sizes.capacity
message-below sizes accepted handed returned forward returns hands aside owned number low high =
    let sent = buffer_at sizes.entries forward in
    let some = times_some sent handed (accepted - handed) number low (omega arith) in
    let all = owned.times (sent number) in
    below_from_once (sent number) sizes.capacity (omega arith)
