-- A fact about the book, the count of those handed over, the desk and the handings of a lane that each of the four things keeps, so that every move keeps it.
use Rattle.std.proofs.Common.{◌≡◌, ℕ, ◌+◌, ◌==◌, length, Bool, true, false, cond, Option, Some, List, [], ◌∷◌, ◌++◌, slice_get, refl, ap, ◌∙◌, arith}
use Rattle.std.specs.Option.{option_map, unwrap_or}
use Rattle.std.proofs.lemmas.Bool.{ne_eqb}
use Rattle.std.proofs.lemmas.List.{append-nil, length_push}
use Rattle.lane_model.specs.declared.states.BookEntry.{BookEntry}
use Rattle.lane_model.specs.declared.states.LaneState.{LaneState}
use Rattle.lane_model.specs.declared.stages.Receiving.{Receiving}
use Rattle.lane_model.specs.declared.stages.Turn.{Turn}
use Rattle.lane_model.specs.declared.stages.Turn.TheVariants as turn
use Rattle.lane_model.specs.declared.calls.CallEnd.TheVariants as end
use Rattle.lane_model.specs.Desks.{DeskMeaning, AreDeskLaws}
use Rattle.lane_model.proofs.KeptBindings.{KeepsBound, delivered_keeps}
use Rattle.lane_model.specs.Lanes.{message_at}
use Rattle.lane_laws.specs.Handings.{Handing, handing_of, told_handing, handed_by}
use Rattle.lane_model.proofs.Steps.{same}
use Rattle.lane_laws.proofs.Numbering.{element_at}
use Rattle.lane_laws.proofs.LaneMoves.{LaneMove, Quiet, Accepts, Changes, Hands}

-- a fact that a message more in the book keeps, another desk, and a handing that leaves the desk as it was
pub record IsLaneFact {D : Type 0} (desk : DeskMeaning D) (P : List BookEntry → ℕ → D → List Handing → Type 0) : Type 0 where
  pub accepted : (book : List BookEntry) (entry : BookEntry) (handed : ℕ) (state : D) (handings : List Handing) → P book handed state handings → P (book ++ entry ∷ []) handed state handings
  pub changed : (book : List BookEntry) (handed : ℕ) (before after : D) (handings : List Handing) → KeepsBound desk before after handed → P book handed before handings → P book handed after handings
  pub handed : (book : List BookEntry) (entry : BookEntry) (handed : ℕ) (state : D) (handings : List Handing) → slice_get book handed ≡ Some entry → P book handed state handings
      → P book (handed + 1) state (handings ++ record { sent = record { number = handed; sender = entry.caller; message = entry.message }; verdict = desk.verdict state handed entry.message } ∷ [])

-- a fact of a lane and of what it handed over
abbrev pub HoldsOf : {D : Type 0} → (List BookEntry → ℕ → D → List Handing → Type 0) → LaneState D → List Handing → Type 0
HoldsOf P state handings = P state.lane.accepted (length state.lane.takers) state.desk handings

same_fact : {D : Type 0} (P : List BookEntry → ℕ → D → List Handing → Type 0) {book after_book : List BookEntry} {handed after_handed : ℕ} {state after_state : D} {handings after_handings : List Handing}
    → after_book ≡ book → after_handed ≡ handed → after_state ≡ state → after_handings ≡ handings → P book handed state handings → P after_book after_handed after_state after_handings
same_fact P books counts states lists holds = rw (books, counts, states, lists) holds

-- where as many are handed over as before, nothing was
pub none_handed : {D : Type 0} (before after : LaneState D) (handings : List Handing) → after.lane.takers ≡ before.lane.takers → handings ++ handed_by before after ≡ handings
none_handed before after handings takers =
    let equal : (length after.lane.takers == length before.lane.takers) ≡ true = ap (λ (l : List ℕ). length l == length before.lane.takers) takers ∙ same (length before.lane.takers) in
    ap (λ (is : Bool). handings ++ cond is [] (told_handing after.lane.accepted after.receiver)) equal ∙ append-nil handings

-- where the next message was handed over, that is what was
one_handed : {D : Type 0} (desk : DeskMeaning D) (before after : LaneState D) (caller : ℕ) (entry : BookEntry) → slice_get before.lane.accepted (length before.lane.takers) ≡ Some entry
    → after.lane.accepted ≡ before.lane.accepted → after.lane.takers ≡ before.lane.takers ++ caller ∷ []
    → after.receiver ≡ turn.Leaving caller (end.Took (length before.lane.takers) (desk.verdict before.desk (length before.lane.takers) entry.message))
    → handed_by before after
    ≡ record { sent = record { number = length before.lane.takers; sender = entry.caller; message = entry.message }; verdict = desk.verdict before.desk (length before.lane.takers) entry.message } ∷ []
one_handed desk before after caller entry is accepted takers told =
    let more : length after.lane.takers ≡ length before.lane.takers + 1 = ap length takers ∙ length_push before.lane.takers caller in
    let unequal : (length after.lane.takers == length before.lane.takers) ≡ false = ne_eqb _ _ (λ equal. omega (arith, more, equal)) in
    let verdict = desk.verdict before.desk (length before.lane.takers) entry.message in
    ap (λ (b : Bool). cond b [] (told_handing after.lane.accepted after.receiver)) unequal
    ∙ ap (λ (now : Turn Receiving). told_handing after.lane.accepted now) told
    ∙ ap (λ (book : List BookEntry). handing_of (slice_get book (length before.lane.takers)) (length before.lane.takers) verdict) accepted
    ∙ ap (λ (found : Option BookEntry). handing_of found (length before.lane.takers) verdict) is

-- every move keeps such a fact
pub fact_kept : {D : Type 0} (desk : DeskMeaning D) (P : List BookEntry → ℕ → D → List Handing → Type 0) → AreDeskLaws desk → IsLaneFact desk P → (before after : LaneState D) (handings : List Handing)
    → LaneMove desk before after → HoldsOf P before handings → HoldsOf P after (handings ++ handed_by before after)
fact_kept desk P laws fact before after handings (Quiet accepted takers stays) holds =
    same_fact P accepted (ap length takers) stays (none_handed before after handings takers) holds
fact_kept desk P laws fact before after handings (Accepts entry accepted takers stays) holds =
    same_fact P accepted (ap length takers) stays (none_handed before after handings takers) (fact.accepted before.lane.accepted entry (length before.lane.takers) before.desk handings holds)
fact_kept desk P laws fact before after handings (Changes accepted takers keeps) holds =
    same_fact P accepted (ap length takers) refl (none_handed before after handings takers) (fact.changed before.lane.accepted (length before.lane.takers) before.desk after.desk handings keeps holds)
fact_kept desk P laws fact before after handings (Hands caller below accepted takers told delivered) holds =
    let found = element_at before.lane.accepted (length before.lane.takers) below in
    let message : message_at before.lane.accepted (length before.lane.takers) ≡ found.0.message = ap (λ (o : Option BookEntry). unwrap_or (option_map (λ entry. entry.message) o) []) found.1 in
    let verdict = ap (λ (m : List ℕ). turn.Leaving caller (end.Took (length before.lane.takers) (desk.verdict before.desk (length before.lane.takers) m))) message in
    let one = one_handed desk before after caller found.0 found.1 accepted takers (told ∙ verdict) in
    let left = ap (λ (m : List ℕ). desk.delivered before.desk (length before.lane.takers) m) message in
    same_fact P accepted (ap length takers ∙ length_push before.lane.takers caller) (delivered ∙ left) (ap (λ (l : List Handing). handings ++ l) one)
    (fact.changed before.lane.accepted (length before.lane.takers + 1) before.desk _ _ (delivered_keeps desk laws before.desk (length before.lane.takers) found.0.message)
    (fact.handed before.lane.accepted found.0 (length before.lane.takers) before.desk handings found.1 holds))
