-- The buffers in hand, as a list: where one stands, and which stay.
use Rattle.std.proofs.Common.{◌≡◌, ◌<◌, ◌==◌, ◌&&◌, not, ℕ, Bool, true, length, get_or, map, List, Option, Some, None, sym, ap, subst, ◌∙◌}
use lib.ListN.{get_elem?}
use Rattle.std.specs.List.{filter, position}
use Rattle.std.proofs.lemmas.Bool.{and_parts, eqb-false, eqb-true, lt-ltb, not-true}
use Rattle.std.proofs.lemmas.Option.{same_Some}
use Rattle.lane_model.specs.Crashes.{held_by_others}
use Rattle.lane_model.specs.Lanes.{holds, without}
use Rattle.managed_link.specs.declared.hands.Hand.{Hand}
use Rattle.managed_link.specs.Hands.{AreOthers, AreSome, IsAtPlace, IsHandAt, holding_of}
use Rattle.managed_link.proofs.ListParts.{any_of_map, filter_of_map, first_at, kept_by_filter, place_within, read_at}

-- whether a buffer is that of this message in the hands of this caller
abbrev pub is_hand : ℕ → ℕ → Hand → Bool
is_hand number caller hand = (hand.number == number) && (hand.caller == caller)

-- a buffer that is held is found where it stands
pub place_found : (hands : List Hand) (number caller : ℕ) → holds (map holding_of hands) number caller ≡ true
    → (place : ℕ) × (position (is_hand number caller) hands ≡ Some place) × IsAtPlace hands number caller place
place_found hands number caller held =
    let first = first_at (is_hand number caller) hands (sym (any_of_map (λ holding. (holding.number == number) && (holding.caller == caller)) holding_of hands) ∙ held) in
    let parts = and_parts _ _ first.passes in
    (_, rw (lt-ltb _ _ first.within), (first.found, record { here = first.here; numbered = eqb-true _ _ parts.0; by_caller = eqb-true _ _ parts.1 }))

pub at_place_found : (hands : List Hand) (number caller : ℕ) (found : Option ℕ) (place : ℕ) → holds (map holding_of hands) number caller ≡ true
    → found ≡ position (is_hand number caller) hands → found ≡ Some place → IsAtPlace hands number caller place
at_place_found hands number caller found place held is some =
    let at = place_found hands number caller held in
    subst (λ k. IsAtPlace hands number caller k) (same_Some at.0 place (sym at.1 ∙ sym is ∙ some)) at.2

pub never_lost : (hands : List Hand) (number caller : ℕ) (found : Option ℕ) → holds (map holding_of hands) number caller ≡ true
    → found ≡ position (is_hand number caller) hands → found ≡ None → ⊥
never_lost hands number caller found held is none = let at = (place_found hands number caller held).1 in cc

-- what is read where a buffer stands is that buffer
pub place_in : (seen hands : List Hand) (number caller place : ℕ) → seen ≡ hands → IsAtPlace seen number caller place → place < length hands
place_in seen hands number caller place same at = subst (λ (list : List Hand). place < length list) same (place_within seen place at.0 at.1.here)

pub hand_read : (seen hands : List Hand) (number caller place : ℕ) (read : Hand) → seen ≡ hands → IsAtPlace seen number caller place → read ≡ get_or hands place read → IsHandAt hands number caller place read
hand_read seen hands number caller place read same at is =
    let here = rw same at at.1.here in
    let found : at.0 ≡ read = sym (is ∙ read_at hands place at.0 read here) in
    subst (λ (hand : Hand). IsHandAt hands number caller place hand) found (record { here = here; numbered = at.1.numbered; by_caller = at.1.by_caller })

-- what stays where the buffer of one message is dropped
pub listed_without : (before after : List Hand) (number caller : ℕ) → after ≡ filter (λ hand. not (is_hand number caller hand)) before → map holding_of after ≡ without (map holding_of before) number caller
listed_without before after number caller same =
    ap (map holding_of) same ∙ sym (filter_of_map (λ holding. not ((holding.number == number) && (holding.caller == caller))) holding_of before)

pub some_stay : (before after : List Hand) (test : Hand → Bool) → after ≡ filter test before → AreSome before after
some_stay before after test same place hand here =
    let kept = kept_by_filter test before place hand (ap (λ (list : List Hand). get_elem? list place) (sym same) ∙ here) in
    (kept.was, kept.stood)

-- and where all of one caller are
pub listed_others : (before after : List Hand) (caller : ℕ) → after ≡ filter (λ (hand : Hand). not (hand.caller == caller)) before → map holding_of after ≡ held_by_others (map holding_of before) caller
listed_others before after caller same =
    ap (map holding_of) same ∙ sym (filter_of_map (λ holding. not (holding.caller == caller)) holding_of before)

pub others_stay : (before after : List Hand) (caller : ℕ) → after ≡ filter (λ (hand : Hand). not (hand.caller == caller)) before → AreOthers caller before after
others_stay before after caller same place hand here =
    let kept = kept_by_filter (λ (hand : Hand). not (hand.caller == caller)) before place hand (ap (λ (list : List Hand). get_elem? list place) (sym same) ∙ here) in
    ((λ own. eqb-false _ _ (not-true _ kept.passes) own), (kept.was, kept.stood))
