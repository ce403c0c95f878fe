-- What holds of the handings of an incarnation: they are the first messages of the book, and each bound endpoint got what is due to it.
use Rattle.std.proofs.Common.{◌≡◌, ⊎_elim, ℕ, ◌+◌, ◌<◌, ◌≤◌, ◌==◌, ◌&&◌, not, eqb, length, Bool, true, false, cond, Option, Some, None, List, [], ◌∷◌, ◌++◌, map, take, filter, slice_get, refl, sym, ap, ◌∙◌, arith}
use Rattle.std.specs.Prelude.{find}
use Rattle.std.specs.Option.{option_map, option_and_then}
use Rattle.std.proofs.lemmas.Bool.{false≢true, le-ltb, eqb-true, and_parts}
use Rattle.std.proofs.lemmas.List.{map_push, length-take-le, take-append-le}
use Rattle.std.proofs.lemmas.List.Elements.{filter-append}
use Rattle.rp_base.specs.declared.kinds.Endpoint.{Endpoint}
use Rattle.rp_base.specs.declared.kinds.BoundEndpoint.{BoundEndpoint}
use Rattle.rp_base.specs.declared.kinds.Verdict.{Verdict}
use Rattle.rp_base.specs.declared.kinds.Verdict.TheVariants as verdict
use Rattle.lane_model.specs.declared.states.BookEntry.{BookEntry}
use Rattle.lane_model.specs.Desks.{DeskMeaning, IsFreshDesk, bound_at, IsBound, addressee, AreDeskLaws}
use Rattle.lane_model.proofs.KeptBindings.{IsNewlyBound, KeepsBound}
use Rattle.lane_laws.specs.Handings.{NumberedMessage, Handing, with_numbers, is_aimed, is_to, is_due, due, is_got, got}
use Rattle.lane_model.proofs.Steps.{same}
use Rattle.lane_laws.proofs.Numbering.{place_below, numbered_one_more, none_due, due_same, got_more}
use Rattle.lane_laws.proofs.LaneFacts.{IsLaneFact}

-- the handed messages are the first of the book; an endpoint that was never bound got nothing; the numbers of a bound endpoint are of
-- what has been; and a bound endpoint got all that is due to it of what was handed over
pub record IsJudged {D : Type 0} (desk : DeskMeaning D) (book : List BookEntry) (handed : ℕ) (state : D) (handings : List Handing) : Type 0 where
  pub within : handed ≤ length book
  pub once : map (λ (h : Handing). h.sent) handings ≡ with_numbers 0 (take handed book)
  pub early : (endpoint : Endpoint) (sender : ℕ) → desk.bindings state < endpoint.generation → got endpoint sender handings ≡ []
  pub since : (bound : BoundEndpoint) → IsBound desk state bound → bound.since ≤ handed
  pub generation : (bound : BoundEndpoint) → IsBound desk state bound → bound.endpoint.generation ≤ desk.bindings state
  pub whole : (bound : BoundEndpoint) (sender : ℕ) → IsBound desk state bound → got bound.endpoint sender handings ≡ due desk state bound sender (take handed book)

-- what a search finds passes its test
found_passes : {X : Type 0} (test : X → Bool) (xs : List X) (x : X) → find test xs ≡ Some x → test x ≡ true
found_passes test [] x is = (cc)
found_passes {X} test (y ∷ ys) x is = which (test y) refl (found_passes test ys x) is
  where
    which : (b : Bool) → test y ≡ b → (find test ys ≡ Some x → test x ≡ true) → cond b (Some y) (find test ys) ≡ Some x → test x ≡ true
    which true passes rest is = let here : y ≡ x = (cc) in ap test (sym here) ∙ passes
    which false passes rest is = rest is

-- the endpoint that is found at an address has that address
pub found_address : {D : Type 0} (desk : DeskMeaning D) (state : D) (address : ℕ) (bound : BoundEndpoint) → bound_at desk state address ≡ Some bound → bound.endpoint.address ≡ address
found_address desk state address bound is = eqb-true _ _ (found_passes (λ one. eqb one.endpoint.address address) (desk.endpoints state) bound is)

-- the endpoint that is found at an address is bound
pub found_bound : {D : Type 0} (desk : DeskMeaning D) (state : D) (address : ℕ) (bound : BoundEndpoint) → bound_at desk state address ≡ Some bound → IsBound desk state bound
found_bound desk state address bound is = ap (bound_at desk state) (found_address desk state address bound is) ∙ is

-- whom a message that is aimed somewhere reaches is bound there
reached_bound : {D : Type 0} (desk : DeskMeaning D) (state : D) (message : List ℕ) (endpoint : Endpoint) (aim : Option ℕ) → desk.aim state message ≡ aim → addressee desk state message ≡ Some endpoint
    → (bound : BoundEndpoint) × (IsBound desk state bound) × (bound.endpoint ≡ endpoint) × (desk.aim state message ≡ Some endpoint.address)
reached_bound {D} desk state message endpoint None aimed is =
    absurd (none (sym (ap (λ (aim : Option ℕ). option_map (λ (bound : BoundEndpoint). bound.endpoint) (option_and_then (λ address. bound_at desk state address) aim)) aimed) ∙ is))
  where
    none : None ≡ Some endpoint → ⊥
    none e = (cc)
reached_bound {D} desk state message endpoint (Some address) aimed is =
    at (bound_at desk state address) refl (sym (ap (λ (aim : Option ℕ). option_map (λ (bound : BoundEndpoint). bound.endpoint) (option_and_then (λ address. bound_at desk state address) aim)) aimed) ∙ is)
  where
    at : (found : Option BoundEndpoint) → bound_at desk state address ≡ found → option_map (λ (bound : BoundEndpoint). bound.endpoint) found ≡ Some endpoint
        → (bound : BoundEndpoint) × (IsBound desk state bound) × (bound.endpoint ≡ endpoint) × (desk.aim state message ≡ Some endpoint.address)
    at None found e = absurd (none e)
      where
        none : None ≡ Some endpoint → ⊥
        none e = (cc)
    at (Some bound) found e =
        let mine : bound.endpoint ≡ endpoint = (cc) in
        (bound, found_bound desk state address bound found, mine, aimed ∙ ap Some (sym (found_address desk state address bound found) ∙ ap (λ (one : Endpoint). one.address) mine))

-- to whom a verdict says that a message goes
is_to_same : (told : Verdict) (endpoint : Endpoint) → is_to told endpoint ≡ true → told ≡ verdict.To endpoint
is_to_same (verdict.To other) endpoint is =
    let parts = and_parts (eqb other.address endpoint.address) (eqb other.generation endpoint.generation) is in
    let address = eqb-true _ _ parts.0 in
    let generation = eqb-true _ _ parts.1 in
    ap (λ (a : ℕ). verdict.To (record { address = a; generation = other.generation })) address ∙ ap (λ (g : ℕ). verdict.To (record { address = endpoint.address; generation = g })) generation
is_to_same (verdict.Dropped address) endpoint is = absurd (false≢true is)
is_to_same verdict.Malformed endpoint is = absurd (false≢true is)
is_to_same (verdict.Service kind name address bound) endpoint is = absurd (false≢true is)
is_to_same verdict.ServiceMalformed endpoint is = absurd (false≢true is)

to_is : (told : Verdict) (endpoint : Endpoint) → told ≡ verdict.To endpoint → is_to told endpoint ≡ true
to_is told endpoint is = ap (λ v. is_to v endpoint) is ∙ ap (λ b. b && eqb endpoint.generation endpoint.generation) (same endpoint.address) ∙ same endpoint.generation

-- to whom a message goes is bound
pub goes_to_bound : {D : Type 0} (desk : DeskMeaning D) → AreDeskLaws desk → (state : D) (number : ℕ) (message : List ℕ) (endpoint : Endpoint) → is_to (desk.verdict state number message) endpoint ≡ true
    → (bound : BoundEndpoint) × (IsBound desk state bound) × (bound.endpoint ≡ endpoint) × (desk.aim state message ≡ Some endpoint.address)
goes_to_bound desk laws state number message endpoint is =
    reached_bound desk state message endpoint (desk.aim state message) refl (laws.to state number message endpoint (is_to_same _ endpoint is))

same_tests : (a b : Bool) → (a ≡ true → b ≡ true) → (b ≡ true → a ≡ true) → a ≡ b
same_tests true b from to = sym (from refl)
same_tests false true from to = to refl
same_tests false false from to = refl

is_aimed_at : (aim : Option ℕ) (address : ℕ) → is_aimed aim address ≡ true → aim ≡ Some address
is_aimed_at None address is = absurd (false≢true is)
is_aimed_at (Some aim) address is = ap Some (eqb-true _ _ is)

-- a bound endpoint gets a message exactly where it is aimed at it
gets_aimed : {D : Type 0} (desk : DeskMeaning D) → AreDeskLaws desk → (state : D) (bound : BoundEndpoint) (number : ℕ) (message : List ℕ) → IsBound desk state bound
    → is_to (desk.verdict state number message) bound.endpoint ≡ is_aimed (desk.aim state message) bound.endpoint.address
gets_aimed desk laws state bound number message is =
    same_tests _ _
    (λ goes. ap (λ (aim : Option ℕ). is_aimed aim bound.endpoint.address) (goes_to_bound desk laws state number message bound.endpoint goes).3 ∙ same bound.endpoint.address)
    (λ aimed.
    let aim = is_aimed_at (desk.aim state message) bound.endpoint.address aimed in
    let reaches : addressee desk state message ≡ Some bound.endpoint =
    ap (λ (one : Option ℕ). option_map (λ (b : BoundEndpoint). b.endpoint) (option_and_then (λ address. bound_at desk state address) one)) aim
    ∙ ap (option_map (λ (b : BoundEndpoint). b.endpoint)) is in
    to_is (desk.verdict state number message) bound.endpoint (laws.addressed state number message bound.endpoint reaches))

-- what a message adds to what a bound endpoint got is what it adds to what is due to it
gets_due : {D : Type 0} (desk : DeskMeaning D) → AreDeskLaws desk → (state : D) (bound : BoundEndpoint) (sender number : ℕ) (entry : BookEntry) → IsBound desk state bound → bound.since ≤ number
    → is_got bound.endpoint sender (record { sent = record { number = number; sender = entry.caller; message = entry.message }; verdict = desk.verdict state number entry.message })
    ≡ is_due (desk.aim state) bound sender (record { number = number; sender = entry.caller; message = entry.message })
gets_due desk laws state bound sender number entry is since =
    ap (λ b. (entry.caller == sender) && b) (gets_aimed desk laws state bound number entry.message is)
    ∙ ap (λ b. not b && ((entry.caller == sender) && is_aimed (desk.aim state entry.message) bound.endpoint.address)) (sym (le-ltb number bound.since since))

-- a new link
pub judged_new : {D : Type 0} (desk : DeskMeaning D) (state : D) → IsFreshDesk desk state → IsJudged desk [] 0 state []
judged_new desk state fresh = record {
  within = omega arith;
  once = refl;
  early = λ endpoint sender above. refl;
  since = λ bound is. absurd (none bound is);
  generation = λ bound is. absurd (none bound is);
  whole = λ bound sender is. absurd (none bound is);
}
  where
    none : (bound : BoundEndpoint) → IsBound desk state bound → ⊥
    none bound is = let nobody = sym (ap (find (λ (one : BoundEndpoint). eqb one.endpoint.address bound.endpoint.address)) fresh.endpoints) ∙ is in (cc)

-- a message more in the book
judged_accepted : {D : Type 0} (desk : DeskMeaning D) (book : List BookEntry) (entry : BookEntry) (handed : ℕ) (state : D) (handings : List Handing)
    → IsJudged desk book handed state handings → IsJudged desk (book ++ entry ∷ []) handed state handings
judged_accepted desk book entry handed state handings judged =
    let front = take-append-le handed book (entry ∷ []) judged.within in
    let size = length_more book entry in
    record {
      within = omega (arith, size, judged.within);
      once = judged.once ∙ ap (with_numbers 0) (sym front);
      early = judged.early;
      since = judged.since;
      generation = judged.generation;
      whole = λ bound sender is. judged.whole bound sender is ∙ ap (due desk state bound sender) (sym front);
    }
  where
    length_more : (book : List BookEntry) (entry : BookEntry) → length book ≤ length (book ++ entry ∷ [])
    length_more [] entry = omega arith
    length_more (one ∷ rest) entry = let more = length_more rest entry in omega (arith, more)

-- another desk
judged_changed : {D : Type 0} (desk : DeskMeaning D) (book : List BookEntry) (handed : ℕ) (before after : D) (handings : List Handing) → KeepsBound desk before after handed
    → IsJudged desk book handed before handings → IsJudged desk book handed after handings
judged_changed desk book handed before after handings keeps judged = record {
  within = judged.within;
  once = judged.once;
  early = λ endpoint sender above. judged.early endpoint sender (omega (arith, above, keeps.counts));
  since = λ bound is. ⊎_elim (λ was. judged.since bound was) (λ (new : IsNewlyBound desk before after handed bound). omega (arith, new.since)) (keeps.bound bound is);
  generation = λ bound is.
      ⊎_elim (λ was. let old = judged.generation bound was in omega (arith, old, keeps.counts)) (λ (new : IsNewlyBound desk before after handed bound). omega (arith, new.generation, new.counted)) (keeps.bound bound is);
  whole = λ bound sender is.
      ⊎_elim (λ was. judged.whole bound sender was ∙ sym (due_same desk before after bound sender (take handed book) keeps.aim))
      (λ (new : IsNewlyBound desk before after handed bound).
      let size = length-take-le handed book judged.within in
      judged.early bound.endpoint sender (omega (arith, new.generation)) ∙ sym (none_due (desk.aim after) bound sender 0 (take handed book) (omega (arith, size, new.since))))
      (keeps.bound bound is);
}

-- a handing that leaves the desk as it was
judged_handed : {D : Type 0} (desk : DeskMeaning D) → AreDeskLaws desk → (book : List BookEntry) (entry : BookEntry) (handed : ℕ) (state : D) (handings : List Handing) → slice_get book handed ≡ Some entry
    → IsJudged desk book handed state handings
    → IsJudged desk book (handed + 1) state (handings ++ record { sent = record { number = handed; sender = entry.caller; message = entry.message }; verdict = desk.verdict state handed entry.message } ∷ [])
judged_handed desk laws book entry handed state handings is judged =
    let below = place_below book handed entry is in
    let sent : NumberedMessage = record { number = handed; sender = entry.caller; message = entry.message } in
    let one : Handing = record { sent = sent; verdict = desk.verdict state handed entry.message } in
    record {
      within = omega (arith, below);
      once = map_push (λ (h : Handing). h.sent) handings one ∙ ap (λ l. l ++ sent ∷ []) judged.once ∙ sym (numbered_one_more book handed entry is);
      early = λ endpoint sender above.
          let missed : is_got endpoint sender one ≡ false = not_got endpoint sender above in
          got_more endpoint sender handings one ∙ ap (λ l. l ++ cond (is_got endpoint sender one) (one.sent ∷ []) []) (judged.early endpoint sender above) ∙ ap (λ b. cond b (one.sent ∷ []) []) missed;
      since = λ bound was. let old = judged.since bound was in omega (arith, old);
      generation = judged.generation;
      whole = λ bound sender was.
          got_more bound.endpoint sender handings one
          ∙ ap (λ l. l ++ cond (is_got bound.endpoint sender one) (sent ∷ []) []) (judged.whole bound sender was)
          ∙ ap (λ b. due desk state bound sender (take handed book) ++ cond b (sent ∷ []) []) (gets_due desk laws state bound sender handed entry was (judged.since bound was))
          ∙ sym (filter-append (is_due (desk.aim state) bound sender) (with_numbers 0 (take handed book)) (sent ∷ []))
          ∙ sym (ap (filter (is_due (desk.aim state) bound sender)) (numbered_one_more book handed entry is));
    }
  where
    not_got : (endpoint : Endpoint) (sender : ℕ) → desk.bindings state < endpoint.generation
        → is_got endpoint sender (record { sent = record { number = handed; sender = entry.caller; message = entry.message }; verdict = desk.verdict state handed entry.message }) ≡ false
    not_got endpoint sender above = which (is_to (desk.verdict state handed entry.message) endpoint) refl
      where
        and_false : (b : Bool) → (b && false) ≡ false
        and_false true = refl
        and_false false = refl

        which : (b : Bool) → is_to (desk.verdict state handed entry.message) endpoint ≡ b → ((entry.caller == sender) && b) ≡ false
        which false goes = and_false (entry.caller == sender)
        which true goes =
            let reached = goes_to_bound desk laws state handed entry.message endpoint goes in
            let old = judged.generation reached.0 reached.1 in
            let mine : reached.0.endpoint.generation ≡ endpoint.generation = ap (λ (e : Endpoint). e.generation) reached.2 in
            absurd (omega (arith, above, old, mine))

-- each of the things that a move may leave keeps the judgement
pub judged_fact : {D : Type 0} (desk : DeskMeaning D) → AreDeskLaws desk → IsLaneFact desk (IsJudged desk)
judged_fact desk laws = record {
  accepted = judged_accepted desk;
  changed = judged_changed desk;
  handed = judged_handed desk laws;
}
