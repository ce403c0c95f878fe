-- What holds of one endpoint from its binding on: it is bound or past, what it got begins what is due to it, and past it gets no more.
use Rattle.std.proofs.Common.{◌≡◌, ◌≢◌, ◌⊎◌, inl, inr, ⊎_elim, ℕ, ◌+◌, ◌≤◌, ◌==◌, ◌&&◌, Bool, true, false, cond, Option, Some, None, List, [], ◌∷◌, ◌++◌, slice_get, refl, sym, ap, ◌∙◌, arith}
use Rattle.std.proofs.lemmas.Bool.{cases_eq}
use Rattle.std.proofs.lemmas.List.{append-nil}
use Rattle.rp_base.specs.declared.kinds.Endpoint.{Endpoint}
use Rattle.rp_base.specs.declared.kinds.BoundEndpoint.{BoundEndpoint}
use Rattle.lane_model.specs.declared.states.BookEntry.{BookEntry}
use Rattle.lane_model.specs.Desks.{DeskMeaning, bound_at, IsBound, AreDeskLaws}
use Rattle.lane_model.proofs.KeptBindings.{IsNewlyBound, KeepsBound}
use Rattle.lane_laws.specs.Handings.{NumberedMessage, Handing, is_to, due, got, IsPrefix}
use Rattle.lane_laws.proofs.Numbering.{due_front, due_more, due_same, prefix_more, got_more}
use Rattle.lane_laws.proofs.LaneFacts.{IsLaneFact}
use Rattle.lane_laws.proofs.Judgement.{IsJudged, judged_fact, found_address, found_bound, goes_to_bound}

-- the endpoint is bound no more
abbrev pub IsGone : {D : Type 0} → DeskMeaning D → D → Endpoint → Type 0
IsGone desk state endpoint = (other : BoundEndpoint) → IsBound desk state other → other.endpoint ≢ endpoint

-- an endpoint that was bound and is no more, and got these of each sender
pub record IsOver {D : Type 0} (desk : DeskMeaning D) (endpoint : Endpoint) (kept : ℕ → List NumberedMessage) (book : List BookEntry) (handed : ℕ) (state : D) (handings : List Handing) : Type 0 where
  pub judged : IsJudged desk book handed state handings
  pub counted : endpoint.generation ≤ desk.bindings state
  pub gone : IsGone desk state endpoint
  pub stays : (sender : ℕ) → got endpoint sender handings ≡ kept sender

-- an endpoint that was bound and is no more, and got the front of what is due
pub record IsPast {D : Type 0} (desk : DeskMeaning D) (bound : BoundEndpoint) (book : List BookEntry) (state : D) (handings : List Handing) : Type 0 where
  pub gone : IsGone desk state bound.endpoint
  pub front : (sender : ℕ) → IsPrefix (got bound.endpoint sender handings) (due desk state bound sender book)

-- an endpoint that was bound, and is or is no more
pub record IsTraced {D : Type 0} (desk : DeskMeaning D) (bound : BoundEndpoint) (book : List BookEntry) (handed : ℕ) (state : D) (handings : List Handing) : Type 0 where
  pub judged : IsJudged desk book handed state handings
  pub counted : bound.endpoint.generation ≤ desk.bindings state
  pub stands : IsBound desk state bound ⊎ IsPast desk bound book state handings

-- two that are bound with one address are one
one_bound : {D : Type 0} (desk : DeskMeaning D) (state : D) (one other : BoundEndpoint) → IsBound desk state one → IsBound desk state other → other.endpoint.address ≡ one.endpoint.address → other ≡ one
one_bound desk state one other is was address = let both : Some other ≡ Some one = sym was ∙ ap (bound_at desk state) address ∙ is in (cc)

-- who is gone stays so, since a new endpoint has the next generation
gone_changed : {D : Type 0} (desk : DeskMeaning D) (handed : ℕ) (before after : D) (endpoint : Endpoint) → KeepsBound desk before after handed → endpoint.generation ≤ desk.bindings before
    → IsGone desk before endpoint → IsGone desk after endpoint
gone_changed desk handed before after endpoint keeps counted gone = λ other is same_one.
    ⊎_elim (λ was. gone other was same_one)
    (λ (new : IsNewlyBound desk before after handed other).
    let generation : other.endpoint.generation ≡ endpoint.generation = ap (λ (e : Endpoint). e.generation) same_one in absurd (omega (arith, counted, generation, new.generation)))
    (keeps.bound other is)

-- who is gone gets no more
gone_gets : {D : Type 0} (desk : DeskMeaning D) → AreDeskLaws desk → (handed : ℕ) (state : D) (endpoint : Endpoint) (sender : ℕ) (entry : BookEntry) (handings : List Handing) → IsGone desk state endpoint
    → got endpoint sender (handings ++ record { sent = record { number = handed; sender = entry.caller; message = entry.message }; verdict = desk.verdict state handed entry.message } ∷ []) ≡ got endpoint sender handings
gone_gets desk laws handed state endpoint sender entry handings gone =
    let one : Handing = record { sent = record { number = handed; sender = entry.caller; message = entry.message }; verdict = desk.verdict state handed entry.message } in
    got_more endpoint sender handings one ∙ ap (λ b. got endpoint sender handings ++ cond b (one.sent ∷ []) []) (which (is_to one.verdict endpoint) refl) ∙ append-nil (got endpoint sender handings)
  where
    and_false : (b : Bool) → (b && false) ≡ false
    and_false true = refl
    and_false false = refl

    which : (b : Bool) → is_to (desk.verdict state handed entry.message) endpoint ≡ b → ((entry.caller == sender) && b) ≡ false
    which false goes = and_false (entry.caller == sender)
    which true goes = let reached = goes_to_bound desk laws state handed entry.message endpoint goes in absurd (gone reached.0 reached.1 reached.2)

-- each of the things that a move may leave keeps who is over
pub over_fact : {D : Type 0} (desk : DeskMeaning D) → AreDeskLaws desk → (endpoint : Endpoint) (kept : ℕ → List NumberedMessage) → IsLaneFact desk (IsOver desk endpoint kept)
over_fact desk laws endpoint kept =
    let judged = judged_fact desk laws in
    record {
      accepted = λ book entry handed state handings over. record { judged = judged.accepted book entry handed state handings over.judged; counted = over.counted; gone = over.gone; stays = over.stays };
      changed = λ book handed before after handings keeps over. record {
        judged = judged.changed book handed before after handings keeps over.judged;
        counted = omega (arith, over.counted, keeps.counts);
        gone = gone_changed desk handed before after endpoint keeps over.counted over.gone;
        stays = over.stays;
      };
      handed = λ book entry handed state handings is over. record {
        judged = judged.handed book entry handed state handings is over.judged;
        counted = over.counted;
        gone = over.gone;
        stays = λ sender. gone_gets desk laws handed state endpoint sender entry handings over.gone ∙ over.stays sender;
      };
    }

traced_accepted : {D : Type 0} (desk : DeskMeaning D) → AreDeskLaws desk → (bound : BoundEndpoint) (book : List BookEntry) (entry : BookEntry) (handed : ℕ) (state : D) (handings : List Handing)
    → IsTraced desk bound book handed state handings → IsTraced desk bound (book ++ entry ∷ []) handed state handings
traced_accepted desk laws bound book entry handed state handings traced = record {
  judged = (judged_fact desk laws).accepted book entry handed state handings traced.judged;
  counted = traced.counted;
  stands = ⊎_elim (λ is. inl is)
      (λ (past : IsPast desk bound book state handings).
      inr (record { gone = past.gone; front = λ sender. prefix_more _ _ _ _ (due_more desk state bound sender book (entry ∷ [])) (past.front sender) })) traced.stands;
}

-- a bound endpoint stays so, or is gone
stays_or_gone : {D : Type 0} (desk : DeskMeaning D) (handed : ℕ) (before after : D) (bound : BoundEndpoint) → KeepsBound desk before after handed → bound.endpoint.generation ≤ desk.bindings before
    → IsBound desk before bound → IsBound desk after bound ⊎ IsGone desk after bound.endpoint
stays_or_gone {D} desk handed before after bound keeps counted is = which (bound_at desk after bound.endpoint.address) refl
  where
    which : (found : Option BoundEndpoint) → bound_at desk after bound.endpoint.address ≡ found → IsBound desk after bound ⊎ IsGone desk after bound.endpoint
    which None none = inr (λ other was same_one. let both : None ≡ Some other = sym none ∙ ap (λ (e : Endpoint). bound_at desk after e.address) (sym same_one) ∙ was in cc)
    which (Some one) found = ⊎_elim same_generation other_generation (cases_eq one.endpoint.generation bound.endpoint.generation)
      where
        address : one.endpoint.address ≡ bound.endpoint.address
        address = found_address desk after bound.endpoint.address one found

        other_generation : (one.endpoint.generation ≡ bound.endpoint.generation → ⊥) → IsBound desk after bound ⊎ IsGone desk after bound.endpoint
        other_generation differ = inr (λ other was same_one.
            let both : Some one ≡ Some other = sym found ∙ ap (λ (e : Endpoint). bound_at desk after e.address) (sym same_one) ∙ was in
            let equal : one ≡ other = cc in
            differ (ap (λ (b : BoundEndpoint). b.endpoint.generation) equal ∙ ap (λ (e : Endpoint). e.generation) same_one))

        same_generation : one.endpoint.generation ≡ bound.endpoint.generation → IsBound desk after bound ⊎ IsGone desk after bound.endpoint
        same_generation generation =
            ⊎_elim (λ was. inl (found ∙ ap Some (one_bound desk before bound one is was address)))
            (λ (new : IsNewlyBound desk before after handed one). absurd (omega (arith, generation, counted, new.generation)))
            (keeps.bound one (found_bound desk after bound.endpoint.address one found))

traced_changed : {D : Type 0} (desk : DeskMeaning D) → AreDeskLaws desk → (bound : BoundEndpoint) (book : List BookEntry) (handed : ℕ) (before after : D) (handings : List Handing) → KeepsBound desk before after handed
    → IsTraced desk bound book handed before handings → IsTraced desk bound book handed after handings
traced_changed desk laws bound book handed before after handings keeps traced = record {
  judged = (judged_fact desk laws).changed book handed before after handings keeps traced.judged;
  counted = omega (arith, traced.counted, keeps.counts);
  stands = ⊎_elim
      (λ is. ⊎_elim (λ still. inl still) (λ gone. inr (record { gone = gone; front = λ sender. after_due sender (now_past sender is) })) (stays_or_gone desk handed before after bound keeps traced.counted is))
      (λ (past : IsPast desk bound book before handings).
      inr (record { gone = gone_changed desk handed before after bound.endpoint keeps traced.counted past.gone; front = λ sender. after_due sender (past.front sender) }))
      traced.stands;
}
  where
    after_due : (sender : ℕ) → IsPrefix (got bound.endpoint sender handings) (due desk before bound sender book) → IsPrefix (got bound.endpoint sender handings) (due desk after bound sender book)
    after_due sender front = record { rest = front.rest; is = due_same desk before after bound sender book keeps.aim ∙ front.is }

    now_past : (sender : ℕ) → IsBound desk before bound → IsPrefix (got bound.endpoint sender handings) (due desk before bound sender book)
    now_past sender is =
        let front = due_front desk before bound sender handed book in
        record { rest = front.rest; is = front.is ∙ ap (λ l. l ++ front.rest) (sym (traced.judged.whole bound sender is)) }

traced_handed : {D : Type 0} (desk : DeskMeaning D) → AreDeskLaws desk → (bound : BoundEndpoint) (book : List BookEntry) (entry : BookEntry) (handed : ℕ) (state : D) (handings : List Handing) → slice_get book handed ≡ Some entry
    → IsTraced desk bound book handed state handings
    → IsTraced desk bound book (handed + 1) state (handings ++ record { sent = record { number = handed; sender = entry.caller; message = entry.message }; verdict = desk.verdict state handed entry.message } ∷ [])
traced_handed desk laws bound book entry handed state handings is traced = record {
  judged = (judged_fact desk laws).handed book entry handed state handings is traced.judged;
  counted = traced.counted;
  stands = ⊎_elim (λ still. inl still)
      (λ (past : IsPast desk bound book state handings).
      inr (record {
        gone = past.gone;
        front = λ sender.
            record { rest = (past.front sender).rest; is = (past.front sender).is ∙ ap (λ l. l ++ (past.front sender).rest) (sym (gone_gets desk laws handed state bound.endpoint sender entry handings past.gone)) };
      })) traced.stands;
}

-- each of the things that a move may leave keeps who was bound traced
pub traced_fact : {D : Type 0} (desk : DeskMeaning D) → AreDeskLaws desk → (bound : BoundEndpoint) → IsLaneFact desk (IsTraced desk bound)
traced_fact desk laws bound = record { accepted = traced_accepted desk laws bound; changed = traced_changed desk laws bound; handed = traced_handed desk laws bound }

-- who is bound is traced
pub bound_traced : {D : Type 0} (desk : DeskMeaning D) (bound : BoundEndpoint) (book : List BookEntry) (handed : ℕ) (state : D) (handings : List Handing) → IsJudged desk book handed state handings → IsBound desk state bound
    → IsTraced desk bound book handed state handings
bound_traced desk bound book handed state handings judged is = record { judged = judged; counted = judged.generation bound is; stands = inl is }

-- what a traced endpoint got is the front of what is due to it
pub traced_front : {D : Type 0} (desk : DeskMeaning D) (bound : BoundEndpoint) (book : List BookEntry) (handed : ℕ) (state : D) (handings : List Handing) (sender : ℕ) → IsTraced desk bound book handed state handings
    → IsPrefix (got bound.endpoint sender handings) (due desk state bound sender book)
traced_front desk bound book handed state handings sender traced =
    let front = due_front desk state bound sender handed book in
    ⊎_elim (λ is. record { rest = front.rest; is = front.is ∙ ap (λ l. l ++ front.rest) (sym (traced.judged.whole bound sender is)) })
    (λ (past : IsPast desk bound book state handings). past.front sender) traced.stands

-- who is bound as this endpoint is the same, with its `since`
pub traced_one : {D : Type 0} (desk : DeskMeaning D) (bound other : BoundEndpoint) (book : List BookEntry) (handed : ℕ) (state : D) (handings : List Handing) → IsTraced desk bound book handed state handings
    → IsBound desk state other → other.endpoint ≡ bound.endpoint → other ≡ bound
traced_one desk bound other book handed state handings traced was same_one =
    ⊎_elim (λ is. one_bound desk state bound other is was (ap (λ (e : Endpoint). e.address) same_one)) (λ (past : IsPast desk bound book state handings). absurd (past.gone other was same_one)) traced.stands

-- who is traced and not bound is over
pub traced_over : {D : Type 0} (desk : DeskMeaning D) (bound : BoundEndpoint) (book : List BookEntry) (handed : ℕ) (state : D) (handings : List Handing) → IsTraced desk bound book handed state handings
    → (IsBound desk state bound → ⊥) → IsOver desk bound.endpoint (λ sender. got bound.endpoint sender handings) book handed state handings
traced_over desk bound book handed state handings traced unbound = record {
  judged = traced.judged;
  counted = traced.counted;
  gone = ⊎_elim (λ is. absurd (unbound is)) (λ (past : IsPast desk bound book state handings). past.gone) traced.stands;
  stays = λ sender. refl;
}
