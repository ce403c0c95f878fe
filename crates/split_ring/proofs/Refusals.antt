-- What can't be answered to a program that knows its link closed: a reclaim of a caller in no call that holds nothing is not refused, and a reopening with no
-- caller in use is refused for want of memory alone.
use Rattle.std.proofs.Common.{◌≡◌, ◌+◌, ◌<◌, ◌^◌, ℕ, Bool, true, false, cond, eqb, List, [], refl, sym, ap, ◌∙◌, subst, ⊎_elim, arith}
use Rattle.std.specs.Option.{option_map, option_or}
use Rattle.std.specs.Prelude.{Option, Some, None, Err}
use Rattle.std.proofs.lemmas.Bool.{eqb-true}
use mathlib.Core.Option.{some-ne-none}
use base.Stored.{Coded}
use Rattle.rp_base.specs.declared.kinds.End.{End}
use Rattle.lane_model.specs.declared.recoveries.ReopenFault.{ReopenFault}
use Rattle.lane_model.specs.declared.recoveries.ReopenFault.TheVariants as fault
use Rattle.lane_model.specs.Desks.{DeskMeaning}
use Rattle.lane_model.specs.Links.{end_of}
use Rattle.ring_core.specs.declared.states.Hand.{Hand}
use Rattle.link_words.specs.declared.rule.View.{View}
use Rattle.link_words.specs.Passes.{HasNumber}
use Rattle.link_words.specs.Reopens.{SomeInUse, least_hand}
use Rattle.split_ring.specs.declared.callers.Manager.{Manager}
use Rattle.split_ring.specs.declared.calls.RingCall.{RingCall}
use Rattle.split_ring.specs.declared.links.SharedLink.{SharedLink}
use Rattle.split_ring.specs.declared.reclaims.Parts.{Parts}
use Rattle.split_ring.specs.declared.reclaims.ReclaimFault.{ReclaimFault}
use Rattle.split_ring.specs.declared.reclaims.ReclaimFault.TheVariants as refusal
use Rattle.split_ring.specs.Gathers.{IsHolderIn}
use Rattle.split_ring.specs.PartsOf.{IsRefusal, LooksAgain}
use Rattle.split_ring.specs.Reclaims.{is_turn, phase_of, turn_in}
use Rattle.split_ring.specs.Reopens.{IsReopening, refusal_from}
use Rattle.split_ring.specs.Seats.{pass_in}

true-false : true ≡ false → ⊥
true-false e = absurd (cc)

no_number : (hands : List ℕ) (n : ℕ) → hands ≡ [] → HasNumber hands n → ⊥
no_number hands n none (k, at) = some-ne-none n (sym (subst (λ (l : List ℕ). HasNumber l n) none (k, at)).1)

-- a reclaim of such a caller, in an era that the manager knows closed
module _ {D : Type 0} (coded : Coded D) (meaning : DeskMeaning D) (link : SharedLink D) (manager : Manager) (parts : Parts D) (after : Manager) where
  no_second_look : parts.call ≡ None → (pass_in parts.caller.seat.me).hands ≡ [] → LooksAgain (phase_of parts.call) parts.caller.seat.me → ⊥
  no_second_look none empty why = ⊎_elim
      (λ (has : is_turn (turn_in (phase_of parts.call)) ≡ true). true-false (sym has ∙ ap (λ (o : Option (RingCall D)). is_turn (turn_in (phase_of o))) none))
      (λ (holds : (number : ℕ) × HasNumber (pass_in parts.caller.seat.me).hands number). no_number (pass_in parts.caller.seat.me).hands holds.0 empty holds.1) why

  pub not_refused : (why : ReclaimFault D) → manager.seat.me.0.is_closed ≡ true → parts.call ≡ None → (pass_in parts.caller.seat.me).hands ≡ [] → IsRefusal coded meaning link manager parts why after → ⊥
  not_refused (refusal.StillOpen era back) closed none empty told = no_second_look none empty (told.5 closed)
  not_refused (refusal.Busy holder back) closed none empty told = no_number (pass_in parts.caller.seat.me).hands told.1.number empty told.1.holds

-- a reopening of an incarnation that the manager knows closed, and that is not the last, with no caller in use
module _ {D : Type 0} (coded : Coded D) (meaning : DeskMeaning D) (v v' : View) (closed : v.is_closed ≡ true) (unused : (n : ℕ) → end_of v.users n ≡ None) (more : v.inc + 1 < 2 ^ 32) where
  nobody : SomeInUse v → ⊥
  nobody (n, e, user) = none_some e (sym (unused n) ∙ user)
    where
      none_some : (e : End) → None ≡ Some e → ⊥
      none_some e is = absurd (cc)

  nobody_holds : (holder : ℕ) → IsHolderIn v holder → ⊥
  nobody_holds holder held = ⊎_elim (λ (user : (e : End) × (end_of v.users holder ≡ Some e)). nobody (holder, user.0, user.1)) (λ (manager : (holder ≡ 64) × SomeInUse v). nobody manager.1) held

  not_last : (host remote : List Hand) → refusal_from host remote v.inc ≡ Some fault.IncarnationsSpent → ⊥
  not_last host remote is = go (option_or (least_hand host) (least_hand remote)) (eqb v.inc 4294967295) refl is
    where
      held_spent : (caller number : ℕ) → Some (fault.StillHeld caller number) ≡ Some fault.IncarnationsSpent → ⊥
      held_spent caller number same = absurd (cc)

      none_spent : None ≡ Some fault.IncarnationsSpent → ⊥
      none_spent same = absurd (cc)

      go : (o : Option Hand) (last : Bool) → eqb v.inc 4294967295 ≡ last → option_or (option_map (λ (h : Hand). fault.StillHeld h.caller h.number) o) (cond last (Some fault.IncarnationsSpent) None) ≡ Some fault.IncarnationsSpent → ⊥
      go (Some h) last same found = held_spent h.caller h.number found
      go None true same found = let is = eqb-true v.inc 4294967295 same in let low = more in absurd (omega (arith, is, low))
      go None false same found = none_spent found

  pub only_memory : (why : ReopenFault) → IsReopening coded meaning v (Err why) v' → why ≡ fault.NoMemory
  only_memory fault.NoMemory told = refl
  only_memory (fault.StillOpen era) told = absurd (true-false (sym closed ∙ told.2))
  only_memory (fault.StillTurn holder) told = absurd (nobody_holds holder told.4)
  only_memory (fault.StillHeld caller number) told = absurd (nobody (caller, told.8.0, told.8.1))
  only_memory fault.IncarnationsSpent told = absurd (not_last told.1.hands told.3.hands told.6)
