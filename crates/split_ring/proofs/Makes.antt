-- A new link: what its making and that of its callers have to show.
use Rattle.std.proofs.Common.{◌≡◌, ◌≤◌, ◌<◌, ◌^◌, ℕ, zero, suc, List, [], ◌∷◌, ◌++◌, length, replicate, refl, sym, ap, ◌∙◌, subst, arith, true, false}
use Rattle.std.specs.Prelude.{Option, Some, None, slice_set}
use lib.ListN.{get_elem?}
use base.Stored.{Gv, Coded}
use Rattle.atomic_table.specs.Seated.{TableId}
use Rattle.atomic_table.specs.Table.{opening, Me}
use Rattle.rp_base.specs.declared.kinds.End.{End}
use Rattle.rp_base.specs.declared.kinds.End.TheVariants as side
use Rattle.rp_base.specs.Limits.{ring_capacity, IsRingSize}
use Rattle.lane_model.specs.declared.calls.LinkConfig.{LinkConfig}
use Rattle.lane_model.specs.Conditions.{IsConfig}
use Rattle.lane_model.specs.Desks.{DeskMeaning}
use Rattle.lane_model.specs.Links.{free_number}
use Rattle.lane_model.specs.Links.{opened}
use Rattle.ring_core.specs.RingLinks.{opened_ring_link, opened_ring_lane}
use Rattle.link_words.specs.declared.codes.DeskRight.{DeskRight}
use Rattle.link_words.specs.declared.codes.DeskTables.{DeskTables}
use Rattle.link_words.specs.declared.codes.DeskView.{DeskView}
use Rattle.link_words.specs.declared.copies.LinkCopy.{LinkCopy}
use Rattle.link_words.specs.declared.rule.LinkSizes.{LinkSizes}
use Rattle.link_words.specs.declared.rule.Pass.{Pass}
use Rattle.link_words.specs.declared.rule.Slot.{Slot}
use Rattle.link_words.specs.declared.rule.View.{View}
use Rattle.link_words.specs.DeskSeats.{code_in}
use Rattle.link_words.specs.Fresh.{sizes_for, opened_slots}
use Rattle.link_words.specs.Layouts.{layout}
use Rattle.link_words.specs.Passes.{Manages, place_of_number, all_but_last, last_pass_only, new_pass, first_incarnation, only_new, with_new_caller, with_caller_as, without_new}
use Rattle.link_words.specs.PlacedDesks.{right_at, code_placed}
use Rattle.link_words.specs.PlacedLinks.{KnowsState}
use Rattle.link_words.specs.Rule.{LinkRule, first_view}
use Rattle.link_words.specs.declared.rule.Call.{Call}
use Rattle.link_words.specs.Calls.{SeatState}
use Rattle.link_words.specs.Reopens.{ManagerAt}
use Rattle.link_words.specs.Words.{words_of}
use Rattle.split_ring.specs.Links.{HasDeskSeat}
use Rattle.split_ring.specs.Openings.{opened_words}
use Rattle.split_ring.proofs.Apart.{opened_is}

copies_length : (n : ℕ) → (let none : List ℕ = [] in length (replicate n none)) ≡ n
copies_length zero = refl
copies_length (suc n) = ap suc (copies_length n)

module _ {D : Type 0} (coded : Coded D) (meaning : DeskMeaning D) where
  -- the table of a new link may be made
  pub makes : (config : LinkConfig) (desks : DeskTables) (host remote : D) (z : LinkSizes) (words : List ℕ) (slots : List Slot) (to_host to_remote : DeskRight)
      → ((config : LinkConfig) (desks : DeskTables) (host remote : D) (xs ys : List (List ℕ)) → IsConfig config → config.first < 2 ^ 32 → length xs ≡ ring_capacity config.num0 → length ys ≡ ring_capacity config.num1
      → code_in desks.host.value.views ≡ coded.code host → code_in desks.remote.value.views ≡ coded.code remote
      → LinkRule coded meaning (sizes_for config desks) (opening (layout (words_of 0 [] (opened_ring_link config host remote))) (opened_slots config.book (right_at coded desks side.Host host) (right_at coded desks side.Remote remote) xs ys) (first_view (sizes_for config desks) 64)))
      → IsConfig config → config.first < 2 ^ 32 → z ≡ sizes_for config desks → words ≡ layout (opened_words z) → slots ≡ opened_slots z.book to_host to_remote (replicate z.to_host.capacity []) (replicate z.to_remote.capacity [])
      → to_host ≡ right_at coded desks side.Host host → to_remote ≡ right_at coded desks side.Remote remote
      → code_in desks.host.value.views ≡ coded.code host → code_in desks.remote.value.views ≡ coded.code remote
      → LinkRule coded meaning z (opening words slots (first_view z 64))
  makes config desks host remote z words slots to_host to_remote law is low sized worded slotted hosts remotes host_code remote_code =
      let n = ring_capacity config.num0 in let k = ring_capacity config.num1 in
      let all = law config desks host remote (replicate n []) (replicate k []) is low (copies_length n) (copies_length k) host_code remote_code in
      let words_are : words ≡ layout (words_of 0 [] (opened_ring_link config host remote)) = worded ∙ (ap (λ (y : LinkSizes). layout (opened_words y)) sized ∙ ap layout (sym (opened_is config desks host remote))) in
      let slots_are : slots ≡ opened_slots config.book (right_at coded desks side.Host host) (right_at coded desks side.Remote remote) (replicate n []) (replicate k []) =
      slotted ∙ ((λ i. opened_slots (sized i).book (hosts i) (remotes i) (replicate (sized i).to_host.capacity []) (replicate (sized i).to_remote.capacity []))) in
      subst (λ (y : LinkSizes). LinkRule coded meaning y (opening words slots (first_view y 64))) (sym sized)
      (subst (λ (ws : List ℕ). LinkRule coded meaning (sizes_for config desks) (opening ws slots (first_view (sizes_for config desks) 64))) (sym words_are)
      (subst (λ (ss : List Slot). LinkRule coded meaning (sizes_for config desks) (opening (layout (words_of 0 [] (opened_ring_link config host remote))) ss (first_view (sizes_for config desks) 64))) (sym slots_are) all))

-- a desk's seat as a badge has its code
pub code_is : {D : Type 0} (code : Gv) (table seat : TableId) (me : Me D DeskView) (views : List DeskView) → HasDeskSeat code table seat me → views ≡ me.0 ∷ [] → code_in views ≡ code
code_is code table seat me views has is = ap code_in is ∙ ap (λ (m : Me _ DeskView). m.0.code) has.home

-- a ring has an entry
pub has_entry : (n : ℕ) → IsRingSize n → 1 ≤ n
unfolding lib.Count.ones
has_entry zero is = let wrong : false ≡ true = is.0 in absurd (cc)
has_entry (suc n) is = omega arith

-- the manager's view when a caller has gone out, and that of the caller
gone : (ps : List Pass) (p : Pass) → all_but_last (ps ++ p ∷ []) ≡ ps
gone [] p = refl
gone (q ∷ []) p = refl
gone (q ∷ r ∷ ps) p = ap (λ (l : List Pass). q ∷ l) (gone (r ∷ ps) p)

last_is : (ps : List Pass) (p : Pass) → last_pass_only (ps ++ p ∷ []) ≡ p ∷ []
last_is [] p = refl
last_is (q ∷ []) p = refl
last_is (q ∷ r ∷ ps) p = last_is (r ∷ ps) p

pub manager_after : (e : End) (v : View) (k : Option LinkCopy) (n : ℕ) → free_number v.users ≡ Some n → Manages v → Manages (without_new e v k) × ((without_new e v k).users ≡ slice_set v.users n (Some e)) × ((without_new e v k).sizes ≡ v.sizes) × ((without_new e v k).passes ≡ v.passes)
manager_after e v k n free manages =
    let is : with_new_caller e v k ≡ with_caller_as e v k (Some n) = ap (with_caller_as e v k) free in
    let passes : (without_new e v k).passes ≡ v.passes = ap (λ (w : View). all_but_last w.passes) is ∙ gone v.passes (new_pass e n (first_incarnation n v)) in
    ((manages.0, manages.1, ap (λ (ps : List Pass). get_elem? ps manages.0) passes ∙ manages.2, manages.3), ap (λ (w : View). w.users) is, ap (λ (w : View). w.sizes) is, passes)

pub caller_after : (e : End) (v : View) (n : ℕ) → free_number v.users ≡ Some n → ((only_new e v).passes ≡ new_pass e n (first_incarnation n v) ∷ []) × ((only_new e v).sizes ≡ v.sizes)
caller_after e v n free =
    let is : with_new_caller e v None ≡ with_caller_as e v None (Some n) = ap (with_caller_as e v None) free in
    (ap (λ (w : View). last_pass_only w.passes) is ∙ last_is v.passes (new_pass e n (first_incarnation n v)), ap (λ (w : View). w.sizes) is)

-- the manager's own pass is in its call where the passes are the same
pub rests_at : {me me' : SeatState} {call : Call} → me.0.passes ≡ me'.0.passes → ManagerAt me call → ManagerAt me' call
rests_at same at = record {
  mover = record { place = at.mover.place; pass = at.mover.pass; here = ap (λ (ps : List Pass). get_elem? ps at.mover.place) (sym same) ∙ at.mover.here };
  here = at.here ∙ ap (place_of_number 64) same;
  number = at.number;
  in_call = at.in_call;
}

-- the manager of a new link knows its state, whose desks are those that the seats of their tables know
pub first_knows : {D : Type 0} (coded : Coded D) (config : LinkConfig) (desks : DeskTables) (host remote : D) (z : LinkSizes) (v : View) → z ≡ sizes_for config desks → v ≡ first_view z 64
    → code_in desks.host.value.views ≡ coded.code host → code_in desks.remote.value.views ≡ coded.code remote → KnowsState coded v (opened_ring_link config host remote)
first_knows {D} coded config desks host remote z v sized is of_host of_remote =
    let same : v ≡ first_view (sizes_for config desks) 64 = is ∙ ap (λ (y : LinkSizes). first_view y 64) sized in
    subst (λ (x : View). KnowsState coded x (opened_ring_link config host remote)) (sym same) (record {
      manages = (0, _, refl, refl);
      carries = refl;
      copy = λ i. Some (record {
        state = opened config.first (opened_ring_lane config.num0 true config.book (record { code = code_placed side.Host (of_host i) }))
            (opened_ring_lane config.num1 false config.book (record { code = code_placed side.Remote (of_remote i) }));
      });
    })
