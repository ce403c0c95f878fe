-- A managed link with a caller more.
use Rattle.std.proofs.Common.{◌≡◌, ℕ, eqb, Bool, true, false, List, Option, Some, None, Vec, IfSome, refl, sym, ap, subst, ◌∙◌}
use Rattle.std.proofs.lemmas.Bool.{eqb-false, eqb-true}
use Rattle.std.proofs.lemmas.Option.{same_Some}
use Rattle.std.specs.declared.alloc.Global.{Global}
use Rattle.rp_base.specs.declared.kinds.End.{End}
use Rattle.rp_base.specs.declared.kinds.End.TheVariants as side
use Rattle.lane_model.specs.Links.{end_of, free_number, with_caller}
use Rattle.lane_model.specs.Soundness.{SoundLink}
use Rattle.lane_laws.proofs.SoundKept.{caller_sound}
use Rattle.channel_bus.specs.Sides.{EndState}
use Rattle.link_words.proofs.Users.{end_else, end_here, free_is}
use Rattle.split_ring.specs.declared.callers.CallerId.{CallerId}
use Rattle.split_ring.specs.declared.callers.Manager.{Manager}
use Rattle.split_ring.specs.CallPhases.{Phase}
use Rattle.split_ring.specs.CallPhases as phase
use Rattle.split_ring.specs.declared.links.SharedLink.{SharedLink}
use Rattle.split_ring.specs.Callers.{IsManagerOf, IsStateOf}
use Rattle.split_ring.specs.Carried.{CarriesIdle, IsNew, Keeps, carried_seat}
use Rattle.managed_link.specs.declared.call_slots.CarriedCall.{CarriedCall}
use Rattle.managed_link.specs.declared.hands.Hand.{Hand}
use Rattle.managed_link.specs.EndCodes.{end_coded}
use Rattle.managed_link.specs.Known.{LinkRings, lists_of}
use Rattle.managed_link.specs.Managed.{IsCarriedIn, IsManaged, call_of, caller_id}
use Rattle.managed_link.proofs.SameLanes.{KeepsOwn, carried_kept, hands_kept}

-- the link with a caller more on this end, under this number where there is one
abbrev pub enlisted : LinkRings → End → Option ℕ → LinkRings
enlisted m end number = record m { callers = with_caller m.callers end number }

keeps_own : (m : LinkRings) (new : End) (number : Option ℕ) (end : End) (n : ℕ) → KeepsOwn m (enlisted m new number) end n
keeps_own m new number side.Host n = record { book = refl; held = λ k holds. holds }
keeps_own m new number side.Remote n = record { book = refl; held = λ k holds. holds }

module _ (shared : SharedLink EndState) (before after : Manager) (calls : List (Option CarriedCall)) (host remote : Vec Hand Global) (m : LinkRings) (new : End)
    (keeps : (who : CallerId) (p : Phase) → Keeps shared before after who p) (managed : IsManaged shared before calls host remote m) where
  -- who was in use is carried as before
  stays_carried : (number : Option ℕ) (n : ℕ) (end : End) → end_of m.callers n ≡ Some end → IsCarriedIn shared after (enlisted m new number) n end (call_of calls n)
  stays_carried number n end user =
      carried_kept shared before after m (enlisted m new number) n end (call_of calls n) (λ follows p. keeps (caller_id n end follows) p) (keeps_own m new number end n) (managed.callers n end user)

  -- the new caller is in no call
  is_carried : (number : Option ℕ) → number ≡ free_number m.callers → IfSome number (λ n. (follows : ℕ) → CarriesIdle shared after (caller_id n new follows) × IsNew (carried_seat (caller_id n new follows) phase.Ended after))
      → (n : ℕ) (end : End) → end_of (with_caller m.callers new number) n ≡ Some end → IsCarriedIn shared after (enlisted m new number) n end (call_of calls n)
  is_carried None free made n end user = stays_carried None n end user
  is_carried (Some k) free made n end user = at (eqb k n) refl
    where
      at : (b : Bool) → eqb k n ≡ b → IsCarriedIn shared after (enlisted m new (Some k)) n end (call_of calls n)
      at true is =
          let unused = free_is m.callers k (sym free) in
          let same : k ≡ n = eqb-true k n is in
          let here : new ≡ end = same_Some new end (sym (end_here m.callers k (Some new) unused.1) ∙ (ap (end_of (with_caller m.callers new (Some k))) same ∙ user)) in
          let none : call_of calls n ≡ None = ap (call_of calls) (sym same) ∙ managed.idle k unused.0 in
          subst (λ (call : Option CarriedCall). IsCarriedIn shared after (enlisted m new (Some k)) n end call) (sym none)
          (λ follows. subst (λ (number : ℕ). CarriesIdle shared after (caller_id number end follows)) same (subst (λ (on : End). CarriesIdle shared after (caller_id k on follows)) here (made follows).0))
      at false is = stays_carried (Some k) n end (sym (end_else m.callers k n (Some new) (eqb-false k n is)) ∙ user)

  -- a number that is not in use was none, and no call is under it
  stays_idle : (number : Option ℕ) → number ≡ free_number m.callers → (n : ℕ) → end_of (with_caller m.callers new number) n ≡ None → call_of calls n ≡ None
  stays_idle None free n idle = managed.idle n idle
  stays_idle (Some k) free n idle = at (eqb k n) refl
    where
      at : (b : Bool) → eqb k n ≡ b → call_of calls n ≡ None
      at true is = ap (call_of calls) (sym (eqb-true k n is)) ∙ managed.idle k (free_is m.callers k (sym free)).0
      at false is = managed.idle n (sym (end_else m.callers k n (Some new) (eqb-false k n is)) ∙ idle)

  -- the link with it is managed
  pub managed_enlisted : (number : Option ℕ) → number ≡ free_number m.callers → IsManagerOf shared after → IsStateOf end_coded after (enlisted m new number)
      → IfSome number (λ n. (follows : ℕ) → CarriesIdle shared after (caller_id n new follows) × IsNew (carried_seat (caller_id n new follows) phase.Ended after)) → IsManaged shared after calls host remote (enlisted m new number)
  managed_enlisted number free manages state made = record {
    manages = manages;
    state = state;
    sound = subst (λ (k : Option ℕ). SoundLink (lists_of (enlisted m new k))) (sym free) (caller_sound (lists_of m) new managed.sound);
    limits = managed.limits;
    slots = managed.slots;
    callers = is_carried number free made;
    idle = stays_idle number free;
    to_host = hands_kept m (enlisted m new number) side.Host calls calls host refl (λ place hand here. refl) managed.to_host;
    to_remote = hands_kept m (enlisted m new number) side.Remote calls calls remote refl (λ place hand here. refl) managed.to_remote;
  }
