-- What the manager of a storm knows as it reclaims its callers.
use Rattle.std.proofs.Common.{◌≡◌, ◌+◌, ◌<◌, ◌∙◌, ℕ, zero, suc, List, [], ◌∷◌, not, length, get_or, refl, sym, ap, subst, ⊎_elim, arith, None}
use Rattle.std.specs.Prelude.{Option, slice_set}
use Rattle.std.proofs.lemmas.Bool.{cases_eq}
use Rattle.std.proofs.lemmas.List.{get_or_default, length-set}
use mathlib.Core.Option.{some-injective, some-ne-none}
use lib.ListN.{get_elem?}
use Rattle.channel_bus.specs.declared.sides.Side.{Side}
use Rattle.rp_base.specs.declared.kinds.End.{End}
use Rattle.lane_model.specs.HeldBuffers.{HeldBuffer}
use Rattle.lane_model.specs.Links.{end_of}
use Rattle.link_words.specs.Calls.{SeatState}
use Rattle.link_words.specs.Passes.{HasNumber}
use Rattle.link_words.specs.declared.rule.Pass.{Pass}
use Rattle.link_words.proofs.Users.{end_else, end_here}
use Rattle.split_ring.specs.PartsOf.{IsAllOf}
use Rattle.split_ring.specs.Reclaims.{HasRetired, StandsIn, buffer_in, ended_of, phase_of}
use Rattle.split_ring.specs.Seats.{pass_in}
use Rattle.split_ring.specs.declared.callers.Caller.{Caller}
use Rattle.split_ring.specs.declared.callers.Manager.{Manager}
use Rattle.split_ring.specs.declared.calls.RingCall.{RingCall}
use Rattle.split_ring.specs.declared.links.SharedLink.{SharedLink}
use Rattle.split_ring.specs.declared.reclaims.Parts.{Parts}
use Rattle.storm_run.specs.Managers.{AreNumbered, HasPassOf, HasReclaimed}
use Rattle.storm_run.specs.Rounds.{IsFree}

-- nothing has a number
pub nothing : {A : Type 0} (ns : List ℕ) (n : ℕ) → ns ≡ [] → HasNumber ns n → A
nothing [] n none (k, is) = absurd (some-ne-none n (sym is))
nothing (m ∷ ns) n none has = absurd (grind arith)

-- a free caller needs no turn
pub needs_none : (link : SharedLink Side) (caller : Caller) (n : ℕ) → IsFree link caller → HasNumber (pass_in caller.seat.me).hands n → ⊥
needs_none link caller n free has = nothing (pass_in caller.seat.me).hands n free.holds_nothing has

-- the callers are taken in their order
pub at_place : (link : SharedLink Side) (callers : List Caller) (n : ℕ) (caller : Caller) → AreNumbered link callers → (n < length callers) × (caller ≡ get_or callers n caller) → IsFree link caller × (caller.id.number ≡ n)
at_place link callers n caller are here = subst (λ (c : Caller). IsFree link c × (c.id.number ≡ n)) (sym here.1) (are n caller here.0)

-- all that a free caller has is itself
pub all_of : (link : SharedLink Side) (parts : Parts Side) → IsFree link parts.caller → parts.call ≡ None → parts.held.items ≡ [] → IsAllOf link parts
all_of link parts free none empty = record {
  user = record { seat = free.rests.seat; one = free.rests.rests.one; number = free.rests.number; low = free.rests.low };
  stands = subst (λ (call : Option (RingCall Side)). StandsIn link.sizes parts.caller.id (phase_of call) parts.caller.seat.me) (sym none) free.rests.rests;
  held = λ place buffer is. absurd (some-ne-none buffer (sym is ∙ ap (λ (l : List HeldBuffer). get_elem? l place) empty));
  all = λ n has. nothing (pass_in parts.caller.seat.me).hands n free.holds_nothing has;
  own = λ n has. nothing (buffer_in (phase_of parts.call)) n (ap (λ (call : Option (RingCall Side)). buffer_in (phase_of call)) none) has;
}

listed_one : (ns : List ℕ) (m k most : ℕ) → m < most → ((j : ℕ) → HasNumber ns j → j < most) → HasNumber (m ∷ ns) k → k < most
listed_one ns m k most low all (zero, is) = subst (λ (j : ℕ). j < most) (some-injective m k is) low
listed_one ns m k most low all (suc j, is) = all k (j, is)

-- a kept pass is kept still
kept_still : (caller : Caller) (p : Pass) (before after : List Pass) → after ≡ p ∷ before → HasPassOf caller before → HasPassOf caller after
kept_still caller p before after is had = record { place = suc had.place; pass = had.pass; here = ap (λ (ps : List Pass). get_elem? ps (suc had.place)) is ∙ had.here; number = had.number; first = had.first; own = had.own }

-- one caller more is reclaimed
pub reclaimed_one : (link : SharedLink Side) (callers : List Caller) (n : ℕ) (before after : Manager) (caller : Caller) → AreNumbered link callers → (n < length callers) × (caller ≡ get_or callers n caller)
    → HasReclaimed callers n before → HasRetired caller.id (pass_in caller.seat.me) before.seat.me after.seat.me → after.users ≡ slice_set before.users caller.id.number None → HasReclaimed callers (n + 1) after
reclaimed_one link callers n before after caller are here had retired users =
    let told = retired.after in let within = here.0 in let at = at_place link callers n caller are here in let numbered = at.1 in let own = at.0.rests.number in
    let ended : after.seat.me.0.ended_passes ≡ ended_of caller.id (pass_in caller.seat.me) ∷ before.seat.me.0.ended_passes = ap (λ (s : SeatState). s.0.ended_passes) told in record {
      inc = ap (λ (s : SeatState). s.0.inc) told ∙ had.inc;
      closed = ap (λ (s : SeatState). s.0.is_closed) told ∙ ap not retired.closed;
      many = ap length users ∙ (length-set before.users caller.id.number None ∙ had.many);
      unused = λ k past. ap (λ (l : List (Option End)). end_of l k) users ∙ ⊎_elim
          (λ (same : caller.id.number ≡ k). subst (λ (j : ℕ). end_of (slice_set before.users caller.id.number None) j ≡ None) same (end_here before.users caller.id.number None (let low = at.0.rests.low in let many = had.many in omega (arith, low, many))))
          (λ (other : caller.id.number ≡ k → ⊥). end_else before.users caller.id.number k None other ∙ had.unused k (λ above below. past (omega (arith, above, numbered, other)) below))
          (cases_eq caller.id.number k);
      freed = λ k has. listed_one before.seat.me.0.reclaims (pass_in caller.seat.me).number k (length callers) (omega (arith, own, numbered, within)) had.freed (subst (λ (ns : List ℕ). HasNumber ns k) (ap (λ (s : SeatState). s.0.reclaims) told) has);
      kept = λ k d below. ⊎_elim
          (λ (same : n ≡ k). subst (λ (c : Caller). HasPassOf c after.seat.me.0.ended_passes) (here.1 ∙ (get_or_default callers n caller d within ∙ ap (λ (j : ℕ). get_or callers j d) same))
          (record { place = 0; pass = ended_of caller.id (pass_in caller.seat.me); here = ap (λ (ps : List Pass). get_elem? ps 0) ended; number = own; first = refl; own = refl }))
          (λ (other : n ≡ k → ⊥). kept_still (get_or callers k d) (ended_of caller.id (pass_in caller.seat.me)) before.seat.me.0.ended_passes after.seat.me.0.ended_passes ended (had.kept k d (omega (arith, below, other))))
          (cases_eq n k);
    }
