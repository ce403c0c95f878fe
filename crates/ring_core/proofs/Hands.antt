-- Buffers in hand: how often a buffer or a number is in a list of hands, and what is left where some are taken out.
use Rattle.std.proofs.Common.{◌≡◌, ℕ, ◌+◌, ◌<◌, ◌≤◌, Bool, true, false, not, cond, eqb, ◌&&◌, ◌||◌, Some, List, [], ◌∷◌, ◌++◌, length, map, sym, refl, ap, ap₂, ◌∙◌, inl, inr, arith}
use Rattle.std.proofs.lemmas.Bool.Decides.{eqb_tells}
use Rattle.std.proofs.lemmas.Bool.{cases_lt, cases_Bool, lt-ltb, le-ltb, ne_eqb, eqb-true}
use Rattle.std.specs.List.{find, filter}
use Rattle.std.specs.Option.{option_map_or}
use Rattle.lane_model.specs.Lanes.{holds, without}
use Rattle.lane_model.specs.Crashes.{held_by_others}
use Rattle.ring_core.specs.declared.states.Hand.{Hand}
use Rattle.ring_core.specs.RingSteps.{held_buffer, hands_without, holding_of, hands_of_others, buffers_of}
use Rattle.ring_core.specs.SoundRings.{AreApart}
use Rattle.ring_core.specs.Owners.{once, times_in_hands, times_in, times_numbered, once_below}

-- the same number counts once, another not
pub once_yes : (a b : ℕ) → eqb a b ≡ true → once a b ≡ 1
once_yes a b same = ap (λ v. cond v 1 0) same

pub once_no : (a b : ℕ) → eqb a b ≡ false → once a b ≡ 0
once_no a b other = ap (λ v. cond v 1 0) other

pub once_under : (number bound : ℕ) → number < bound → once_below number bound ≡ 1
once_under number bound below = ap (λ v. cond v 1 0) (lt-ltb number bound below)

pub once_above : (number bound : ℕ) → bound ≤ number → once_below number bound ≡ 0
once_above number bound above = ap (λ v. cond v 1 0) (le-ltb number bound above)

-- one hand more
pub times_in_hands-push : (hands : List Hand) (hand : Hand) (id : ℕ) → times_in_hands (hands ++ hand ∷ []) id ≡ times_in_hands hands id + once hand.buffer id
times_in_hands-push [] hand id = omega arith
times_in_hands-push (h ∷ hs) hand id = let rest = times_in_hands-push hs hand id in omega arith

pub times_numbered-push : (hands : List Hand) (hand : Hand) (number : ℕ) → times_numbered (hands ++ hand ∷ []) number ≡ times_numbered hands number + once hand.number number
times_numbered-push [] hand number = omega arith
times_numbered-push (h ∷ hs) hand number = let rest = times_numbered-push hs hand number in omega arith

-- two lists of buffers
pub times_in-append : (xs ys : List ℕ) (id : ℕ) → times_in (xs ++ ys) id ≡ times_in xs id + times_in ys id
times_in-append [] ys id = omega arith
times_in-append (x ∷ xs) ys id = let rest = times_in-append xs ys id in omega arith

-- a list of hands without one, where the test of its first is known
skipped : (h : Hand) (hs : List Hand) (number : ℕ) → eqb h.number number ≡ true → hands_without (h ∷ hs) number ≡ hands_without hs number
skipped h hs number same = ap (λ v. cond (not v) (h ∷ hands_without hs number) (hands_without hs number)) same

kept : (h : Hand) (hs : List Hand) (number : ℕ) → eqb h.number number ≡ false → hands_without (h ∷ hs) number ≡ h ∷ hands_without hs number
kept h hs number other = ap (λ v. cond (not v) (h ∷ hands_without hs number) (hands_without hs number)) other

-- where no hand has the number, none is taken out
pub without_none : (hands : List Hand) (number : ℕ) → times_numbered hands number ≡ 0 → hands_without hands number ≡ hands
without_none [] number none = refl
without_none (h ∷ hs) number none = elim (eqb_tells h.number number) [
  | inl same ↦ let one = once_yes h.number number same.0 in absurd (omega arith)
  | inr other ↦
      let zero_here = once_no h.number number other.0 in
      kept h hs number other.0 ∙ ap (λ xs. h ∷ xs) (without_none hs number (omega arith))
]

-- the buffer of the first hand, or of the rest
held_here : (h : Hand) (hs : List Hand) (number : ℕ) → eqb h.number number ≡ true → held_buffer (h ∷ hs) number ≡ h.buffer
held_here h hs number same = ap (λ v. option_map_or (λ (x : Hand). x.buffer) (cond v (Some h) (find (λ x. eqb x.number number) hs)) 0) same

held_there : (h : Hand) (hs : List Hand) (number : ℕ) → eqb h.number number ≡ false → held_buffer (h ∷ hs) number ≡ held_buffer hs number
held_there h hs number other = ap (λ v. option_map_or (λ (x : Hand). x.buffer) (cond v (Some h) (find (λ x. eqb x.number number) hs)) 0) other

-- without the one hand that has a number, its buffer is missing
pub times_in_hands-without : (hands : List Hand) (number id : ℕ) → times_numbered hands number ≡ 1
    → times_in_hands hands id ≡ times_in_hands (hands_without hands number) id + once (held_buffer hands number) id
times_in_hands-without [] number id one = absurd (omega arith)
times_in_hands-without (h ∷ hs) number id one = elim (eqb_tells h.number number) [
  | inl same ↦
      let here = once_yes h.number number same.0 in
      let none : times_numbered hs number ≡ 0 = omega arith in
      let left : times_in_hands (hands_without (h ∷ hs) number) id ≡ times_in_hands hs id =
      ap (λ xs. times_in_hands xs id) (skipped h hs number same.0 ∙ without_none hs number none) in
      let out : once (held_buffer (h ∷ hs) number) id ≡ once h.buffer id = ap (λ b. once b id) (held_here h hs number same.0) in
      omega arith
  | inr other ↦
      let here = once_no h.number number other.0 in
      let rest = times_in_hands-without hs number id (omega arith) in
      let left : times_in_hands (hands_without (h ∷ hs) number) id ≡ once h.buffer id + times_in_hands (hands_without hs number) id =
      ap (λ xs. times_in_hands xs id) (kept h hs number other.0) in
      let out : once (held_buffer (h ∷ hs) number) id ≡ once (held_buffer hs number) id = ap (λ b. once b id) (held_there h hs number other.0) in
      omega arith
]

pub length-without : (hands : List Hand) (number : ℕ) → times_numbered hands number ≡ 1 → length hands ≡ length (hands_without hands number) + 1
length-without [] number one = absurd (omega arith)
length-without (h ∷ hs) number one = elim (eqb_tells h.number number) [
  | inl same ↦
      let here = once_yes h.number number same.0 in
      let none : times_numbered hs number ≡ 0 = omega arith in
      let left : length (hands_without (h ∷ hs) number) ≡ length hs = ap length (skipped h hs number same.0 ∙ without_none hs number none) in
      omega arith
  | inr other ↦
      let here = once_no h.number number other.0 in
      let rest = length-without hs number (omega arith) in
      let left : length (hands_without (h ∷ hs) number) ≡ length (hands_without hs number) + 1 = ap length (kept h hs number other.0) ∙ omega arith in
      omega arith
]

-- no number is in hand more often when some hands are taken out
pub times_numbered-without : (hands : List Hand) (number other : ℕ) → times_numbered (hands_without hands number) other ≤ times_numbered hands other
times_numbered-without [] number other = omega arith
times_numbered-without (h ∷ hs) number other = elim (eqb_tells h.number number) [
  | inl same ↦
      let rest = times_numbered-without hs number other in
      let left = ap (λ xs. times_numbered xs other) (skipped h hs number same.0) in
      omega (arith, left)
  | inr apart ↦
      let rest = times_numbered-without hs number other in
      let left : times_numbered (hands_without (h ∷ hs) number) other ≡ once h.number other + times_numbered (hands_without hs number) other =
      ap (λ xs. times_numbered xs other) (kept h hs number apart.0) in
      omega arith
]

-- who holds a number has it in hand
pub numbered_from_holds : (hands : List Hand) (number caller : ℕ) → holds (map holding_of hands) number caller ≡ true → 1 ≤ times_numbered hands number
numbered_from_holds [] number caller has = absurd (cc)
numbered_from_holds (h ∷ hs) number caller has = elim (eqb_tells h.number number) [
  | inl same ↦ let here = once_yes h.number number same.0 in omega arith
  | inr other ↦
      let rest = numbered_from_holds hs number caller
      (sym (ap (λ v. (v && eqb h.caller caller) || holds (map holding_of hs) number caller) other.0) ∙ has) in
      omega arith
]

-- nothing is taken out of what is held, where no hand has the number
holdings-none : (hands : List Hand) (number caller : ℕ) → times_numbered hands number ≡ 0 → without (map holding_of hands) number caller ≡ map holding_of hands
holdings-none [] number caller none = refl
holdings-none (h ∷ hs) number caller none = elim (eqb_tells h.number number) [
  | inl same ↦ let one = once_yes h.number number same.0 in absurd (omega arith)
  | inr other ↦
      let zero_here = once_no h.number number other.0 in
      ap (λ v. cond (not (v && eqb h.caller caller)) (holding_of h ∷ without (map holding_of hs) number caller) (without (map holding_of hs) number caller)) other.0
      ∙ ap (λ xs. holding_of h ∷ xs) (holdings-none hs number caller (omega arith))
]

-- who has the first hand of a number that no other hand has
caller_here : (v : Bool) (rest : Bool) → (true && v) || rest ≡ true → rest ≡ false → v ≡ true
caller_here true rest has none = refl
caller_here false rest has none = absurd (cc)

-- what is held, when the one hand of a number is taken out
pub holdings-without : (hands : List Hand) (number caller : ℕ) → times_numbered hands number ≡ 1 → holds (map holding_of hands) number caller ≡ true
    → map holding_of (hands_without hands number) ≡ without (map holding_of hands) number caller
holdings-without [] number caller one has = absurd (omega arith)
holdings-without (h ∷ hs) number caller one has = elim (eqb_tells h.number number) [
  | inl same ↦
      let here = once_yes h.number number same.0 in
      let none : times_numbered hs number ≡ 0 = omega arith in
      let others : holds (map holding_of hs) number caller ≡ false = elim (cases_Bool (holds (map holding_of hs) number caller)) [
        | inl yes_held ↦ let some = numbered_from_holds hs number caller yes_held in absurd (omega arith)
        | inr not_held ↦ not_held
      ] in
      let mine = caller_here (eqb h.caller caller) (holds (map holding_of hs) number caller)
      (sym (ap (λ v. (v && eqb h.caller caller) || holds (map holding_of hs) number caller) same.0) ∙ has) others in
      ap (map holding_of) (skipped h hs number same.0 ∙ without_none hs number none)
      ∙ sym (ap₂ (λ v w. cond (not (v && w)) (holding_of h ∷ without (map holding_of hs) number caller) (without (map holding_of hs) number caller)) same.0 mine
      ∙ holdings-none hs number caller none)
  | inr other ↦
      let here = once_no h.number number other.0 in
      let rest = holdings-without hs number caller (omega arith)
      (sym (ap (λ v. (v && eqb h.caller caller) || holds (map holding_of hs) number caller) other.0) ∙ has) in
      ap (map holding_of) (kept h hs number other.0) ∙ ap (λ xs. holding_of h ∷ xs) rest
      ∙ sym (ap (λ v. cond (not (v && eqb h.caller caller)) (holding_of h ∷ without (map holding_of hs) number caller) (without (map holding_of hs) number caller)) other.0)
]

-- a number is in hand at most as often as there are hands
pub times_numbered-le : (hands : List Hand) (number : ℕ) → times_numbered hands number ≤ length hands
times_numbered-le [] number = omega arith
times_numbered-le (h ∷ hs) number = elim (eqb_tells h.number number) [
  | inl same ↦ let here = once_yes h.number number same.0 in let rest = times_numbered-le hs number in omega arith
  | inr other ↦ let here = once_no h.number number other.0 in let rest = times_numbered-le hs number in omega arith
]

-- the next number is in no hand, so it may be in one
pub apart-push : (hands : List Hand) (hand : Hand) (handed : ℕ) → AreApart handed hands → hand.number ≡ handed → AreApart (handed + 1) (hands ++ hand ∷ [])
apart-push hands hand handed apart at = record {
  times = λ number.
      let more = times_numbered-push hands hand number in
      let before = apart.times number in
      elim (cases_lt number handed) [
        | inl below ↦
            let one = once_under number handed below in
            let still = once_under number (handed + 1) (omega arith) in
            let other = once_no hand.number number (ne_eqb hand.number number (omega arith)) in
            omega arith
        | inr above ↦
            let none = once_above number handed above in
            elim (eqb_tells hand.number number) [
              | inl same ↦
                  let here = once_yes hand.number number same.0 in
                  let now = once_under number (handed + 1) (omega arith) in
                  omega arith
              | inr other ↦
                  let elsewhere = once_no hand.number number other.0 in
                  omega arith
            ]
      ];
}

-- fewer hands are apart too
pub apart-without : (hands : List Hand) (handed number : ℕ) → AreApart handed hands → AreApart handed (hands_without hands number)
apart-without hands handed number apart = record {
  times = λ other.
      let fewer = times_numbered-without hands number other in
      let before = apart.times other in
      omega arith;
}

-- a number in hand is in one hand alone
pub numbered_once : (hands : List Hand) (handed number : ℕ) → AreApart handed hands → 1 ≤ times_numbered hands number → times_numbered hands number ≡ 1
numbered_once hands handed number apart some = elim (cases_lt number handed) [
  | inl below ↦ let one = once_under number handed below in let most = apart.times number in omega arith
  | inr above ↦ let none = once_above number handed above in let most = apart.times number in omega arith
]

-- the hands of others and the buffers of a caller, where the test of the first hand is known
mine_gone : (h : Hand) (hs : List Hand) (caller : ℕ) → eqb h.caller caller ≡ true → hands_of_others (h ∷ hs) caller ≡ hands_of_others hs caller
mine_gone h hs caller mine = ap (λ v. cond (not v) (h ∷ hands_of_others hs caller) (hands_of_others hs caller)) mine

other_stays : (h : Hand) (hs : List Hand) (caller : ℕ) → eqb h.caller caller ≡ false → hands_of_others (h ∷ hs) caller ≡ h ∷ hands_of_others hs caller
other_stays h hs caller other = ap (λ v. cond (not v) (h ∷ hands_of_others hs caller) (hands_of_others hs caller)) other

mine_taken : (h : Hand) (hs : List Hand) (caller : ℕ) → eqb h.caller caller ≡ true → buffers_of (h ∷ hs) caller ≡ h.buffer ∷ buffers_of hs caller
mine_taken h hs caller mine = ap (λ v. map (λ (x : Hand). x.buffer) (cond v (h ∷ filter (λ x. eqb x.caller caller) hs) (filter (λ x. eqb x.caller caller) hs))) mine

other_left : (h : Hand) (hs : List Hand) (caller : ℕ) → eqb h.caller caller ≡ false → buffers_of (h ∷ hs) caller ≡ buffers_of hs caller
other_left h hs caller other = ap (λ v. map (λ (x : Hand). x.buffer) (cond v (h ∷ filter (λ x. eqb x.caller caller) hs) (filter (λ x. eqb x.caller caller) hs))) other

-- each buffer in hand is in the hands of others or of the caller
pub times-parted : (hands : List Hand) (caller id : ℕ) → times_in_hands (hands_of_others hands caller) id + times_in (buffers_of hands caller) id ≡ times_in_hands hands id
times-parted [] caller id = refl
times-parted (h ∷ hs) caller id = elim (eqb_tells h.caller caller) [
  | inl mine ↦
      let rest = times-parted hs caller id in
      let gone = ap (λ xs. times_in_hands xs id) (mine_gone h hs caller mine.0) in
      let taken : times_in (buffers_of (h ∷ hs) caller) id ≡ once h.buffer id + times_in (buffers_of hs caller) id = ap (λ xs. times_in xs id) (mine_taken h hs caller mine.0) in
      omega arith
  | inr other ↦
      let rest = times-parted hs caller id in
      let stays : times_in_hands (hands_of_others (h ∷ hs) caller) id ≡ once h.buffer id + times_in_hands (hands_of_others hs caller) id = ap (λ xs. times_in_hands xs id) (other_stays h hs caller other.0) in
      let left = ap (λ xs. times_in xs id) (other_left h hs caller other.0) in
      omega arith
]

pub length-parted : (hands : List Hand) (caller : ℕ) → length (hands_of_others hands caller) + length (buffers_of hands caller) ≡ length hands
length-parted [] caller = refl
length-parted (h ∷ hs) caller = elim (eqb_tells h.caller caller) [
  | inl mine ↦
      let rest = length-parted hs caller in
      let gone = ap (λ (xs : List Hand). length xs) (mine_gone h hs caller mine.0) in
      let taken = ap (λ (xs : List ℕ). length xs) (mine_taken h hs caller mine.0) in
      omega arith
  | inr other ↦
      let rest = length-parted hs caller in
      let stays = ap (λ (xs : List Hand). length xs) (other_stays h hs caller other.0) in
      let left = ap (λ (xs : List ℕ). length xs) (other_left h hs caller other.0) in
      omega arith
]

-- no number is in more of the hands of others
pub times_numbered-others : (hands : List Hand) (caller number : ℕ) → times_numbered (hands_of_others hands caller) number ≤ times_numbered hands number
times_numbered-others [] caller number = omega arith
times_numbered-others (h ∷ hs) caller number = elim (eqb_tells h.caller caller) [
  | inl mine ↦
      let rest = times_numbered-others hs caller number in
      let gone = ap (λ xs. times_numbered xs number) (mine_gone h hs caller mine.0) in
      omega (arith, gone)
  | inr other ↦
      let rest = times_numbered-others hs caller number in
      let stays : times_numbered (hands_of_others (h ∷ hs) caller) number ≡ once h.number number + times_numbered (hands_of_others hs caller) number = ap (λ xs. times_numbered xs number) (other_stays h hs caller other.0) in
      omega arith
]

pub apart-others : (hands : List Hand) (handed caller : ℕ) → AreApart handed hands → AreApart handed (hands_of_others hands caller)
apart-others hands handed caller apart = record {
  times = λ number.
      let fewer = times_numbered-others hands caller number in
      let before = apart.times number in
      omega arith;
}

-- what the others hold
pub holdings-others : (hands : List Hand) (caller : ℕ) → map holding_of (hands_of_others hands caller) ≡ held_by_others (map holding_of hands) caller
holdings-others [] caller = refl
holdings-others (h ∷ hs) caller = elim (eqb_tells h.caller caller) [
  | inl mine ↦
      ap (map holding_of) (mine_gone h hs caller mine.0) ∙ holdings-others hs caller
      ∙ sym (ap (λ v. cond (not v) (holding_of h ∷ held_by_others (map holding_of hs) caller) (held_by_others (map holding_of hs) caller)) mine.0)
  | inr other ↦
      ap (map holding_of) (other_stays h hs caller other.0) ∙ ap (λ xs. holding_of h ∷ xs) (holdings-others hs caller)
      ∙ sym (ap (λ v. cond (not v) (holding_of h ∷ held_by_others (map holding_of hs) caller) (held_by_others (map holding_of hs) caller)) other.0)
]

-- the buffer of another's message stays in the same hand
pub held_buffer-others : (hands : List Hand) (caller number other : ℕ) → eqb other caller ≡ false → times_numbered hands number ≡ 1 → holds (map holding_of hands) number other ≡ true
    → held_buffer (hands_of_others hands caller) number ≡ held_buffer hands number
held_buffer-others [] caller number other differ one has = refl
held_buffer-others (h ∷ hs) caller number other differ one has = elim (eqb_tells h.number number) [
  | inl same ↦
      let here = once_yes h.number number same.0 in
      let none : times_numbered hs number ≡ 0 = omega arith in
      let others : holds (map holding_of hs) number other ≡ false = elim (cases_Bool (holds (map holding_of hs) number other)) [
        | inl yes_held ↦ let some = numbered_from_holds hs number other yes_held in absurd (omega arith)
        | inr not_held ↦ not_held
      ] in
      let its = caller_here (eqb h.caller other) (holds (map holding_of hs) number other)
      (sym (ap (λ v. (v && eqb h.caller other) || holds (map holding_of hs) number other) same.0) ∙ has) others in
      let stays : eqb h.caller caller ≡ false = ap (λ n. eqb n caller) (eqb-true h.caller other its) ∙ differ in
      ap (λ xs. held_buffer xs number) (other_stays h hs caller stays) ∙ held_here h (hands_of_others hs caller) number same.0 ∙ sym (held_here h hs number same.0)
  | inr apart ↦
      let here = once_no h.number number apart.0 in
      let rest = held_buffer-others hs caller number other differ (omega arith)
      (sym (ap (λ v. (v && eqb h.caller other) || holds (map holding_of hs) number other) apart.0) ∙ has) in
      let old = held_there h hs number apart.0 in
      elim (eqb_tells h.caller caller) [
        | inl mine ↦ ap (λ xs. held_buffer xs number) (mine_gone h hs caller mine.0) ∙ rest ∙ sym old
        | inr theirs ↦ ap (λ xs. held_buffer xs number) (other_stays h hs caller theirs.0) ∙ held_there h (hands_of_others hs caller) number apart.0 ∙ rest ∙ sym old
      ]
]

-- a caller has no more buffers in hand than there are hands
pub buffers-few : (hands : List Hand) (caller : ℕ) → length (buffers_of hands caller) ≤ length hands
buffers-few hands caller = let parted = length-parted hands caller in omega arith
