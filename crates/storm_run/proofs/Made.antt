-- What the manager of a storm knows as it makes its callers.
use Rattle.std.proofs.Common.{◌≡◌, ◌+◌, ◌<◌, ◌∙◌, ◌++◌, ℕ, zero, suc, replicate, List, [], ◌∷◌, cond, length, refl, sym, ap, subst, ⊎_elim, arith, Some, None}
use Rattle.std.specs.Prelude.{Option, slice_set}
use Rattle.std.proofs.lemmas.Bool.{cases_eq}
use Rattle.std.proofs.lemmas.List.{get_or_append_left, get_or_push, length-replicate, length-set, length_push}
use Rattle.std.proofs.lemmas.Option.{same_Some}
use Rattle.channel_bus.specs.declared.sides.Side.{Side}
use Rattle.rp_base.specs.declared.kinds.End.{End}
use Rattle.lane_model.specs.Links.{end_of, free_number}
use Rattle.link_words.specs.Calls.{SeatState}
use Rattle.link_words.specs.Passes.{is_listed, only_new, with_caller_as, without_last, without_new}
use Rattle.link_words.specs.Rule.{first_view}
use Rattle.link_words.specs.declared.copies.LinkCopy.{LinkCopy}
use Rattle.link_words.specs.declared.rule.LinkSizes.{LinkSizes}
use Rattle.link_words.specs.declared.rule.Pass.{Pass}
use Rattle.link_words.specs.declared.rule.View.{View}
use Rattle.link_words.proofs.Users.{end_else, end_here}
use Rattle.split_ring.specs.Callers.{IsCallerOf, IsManagerOf, own_of}
use Rattle.split_ring.specs.Seats.{first_pass, pass_in}
use Rattle.split_ring.proofs.Makes.{caller_after}
use Rattle.split_ring.specs.declared.callers.Caller.{Caller}
use Rattle.split_ring.specs.declared.callers.Manager.{Manager}
use Rattle.split_ring.specs.declared.links.SharedLink.{SharedLink}
use Rattle.storm_run.specs.declared.plans.Plan.{Plan}
use Rattle.storm_run.specs.declared.plans.TheConstants.{FIRST}
use Rattle.storm_run.specs.Managers.{AreNewCallers, HasMade, IsNewCaller, end_at}
use Rattle.storm_run.specs.Rounds.{MayBegin}
use Rattle.storm_run.proofs.UsedNumbers.{free_first}

none_in : (n k : ℕ) → end_of (replicate n None) k ≡ None
none_in zero k = refl
none_in (suc n) zero = refl
none_in (suc n) (suc k) = none_in n k

-- of a new link none is made
pub made_none : (plan : Plan) (sizes : LinkSizes) (manager : Manager) → manager.seat.me ≡ (first_view sizes 64, []) → sizes.first ≡ FIRST → manager.seat.me.0.users ≡ manager.users → HasMade plan 0 manager
made_none plan sizes manager new first knows =
    let users : manager.users ≡ replicate 64 None = sym knows ∙ ap (λ (s : SeatState). s.0.users) new in record {
      inc = ap (λ (s : SeatState). s.0.inc) new ∙ first;
      many = ap length users ∙ length-replicate {A = Option End} 64 None;
      used = λ number below. absurd (omega (arith, below));
      unused = λ number above. ap (λ (l : List (Option End)). end_of l number) users ∙ none_in 64 number;
      none_freed = ap (λ (s : SeatState). s.0.reclaims) new;
    }

-- the next caller gets the next number
pub next_number : (plan : Plan) (made : ℕ) (manager : Manager) → made < 64 → HasMade plan made manager → free_number manager.users ≡ Some made
next_number plan made manager few is = free_first manager.users made (end_at plan) (let many = is.many in omega (arith, few, many)) is.used (is.unused made (omega arith))

-- what the making of a caller tells
pub record IsMaking (link : SharedLink Side) (end : End) (before after : Manager) (caller : Caller) : Type 0 where
  pub manager : IsManagerOf link before
  pub rests : IsCallerOf link caller
  pub number : free_number before.users ≡ Some caller.id.number
  pub end_is : caller.id.end ≡ end
  pub follows : caller.id.follows ≡ link.sizes.first
  pub own : own_of caller ≡ []
  pub hands : (pass_in caller.seat.me).hands ≡ []
  pub view : after.seat.me ≡ (without_new end before.seat.me.0 after.seat.me.0.copy, before.seat.me.1)
  pub seat : caller.seat.me ≡ (only_new end before.seat.me.0, [])
  pub users : after.users ≡ slice_set before.users caller.id.number (Some end)

module _ (link : SharedLink Side) (plan : Plan) (made : ℕ) (end : End) (before after : Manager) (caller : Caller) (few : made < 64) (is : end ≡ end_at plan made) (first : link.sizes.first ≡ FIRST)
    (had : HasMade plan made before) (making : IsMaking link end before after caller) where
  free : free_number before.users ≡ Some made
  free = next_number plan made before few had

  numbered : caller.id.number ≡ made
  numbered = same_Some caller.id.number made (sym making.number ∙ free)

  known : free_number before.seat.me.0.users ≡ Some made
  known = ap free_number making.manager.knows ∙ free

  after_is : (k : Option LinkCopy) → without_new end before.seat.me.0 k ≡ without_last (with_caller_as end before.seat.me.0 k (Some made))
  after_is k = ap (λ (n : Option ℕ). without_last (with_caller_as end before.seat.me.0 k n)) known

  view : after.seat.me.0 ≡ without_last (with_caller_as end before.seat.me.0 after.seat.me.0.copy (Some made))
  view = ap (λ (s : SeatState). s.0) making.view ∙ after_is after.seat.me.0.copy

  users : after.users ≡ slice_set before.users made (Some end)
  users = making.users ∙ ap (λ (n : ℕ). slice_set before.users n (Some end)) numbered

  here : made < length before.users
  here = let many = had.many in omega (arith, few, many)

  used_at : (k : ℕ) → k < made + 1 → end_of after.users k ≡ Some (end_at plan k)
  used_at k below = ap (λ (l : List (Option End)). end_of l k) users ∙ ⊎_elim
      (λ (same : made ≡ k). subst (λ (j : ℕ). end_of (slice_set before.users made (Some end)) j ≡ Some (end_at plan j)) same (end_here before.users made (Some end) here ∙ ap (λ (e : End). Some e) is))
      (λ (other : made ≡ k → ⊥). end_else before.users made k (Some end) other ∙ had.used k (omega (arith, below, other)))
      (cases_eq made k)

  pub made_one : HasMade plan (made + 1) after
  made_one = record {
    inc = ap (λ (v : View). v.inc) view ∙ had.inc;
    many = ap length users ∙ (length-set before.users made (Some end) ∙ had.many);
    used = used_at;
    unused = λ k above. ap (λ (l : List (Option End)). end_of l k) users ∙ (end_else before.users made k (Some end) (λ same. omega (arith, above, same)) ∙ had.unused k (omega (arith, above)));
    none_freed = ap (λ (v : View). v.reclaims) view ∙ had.none_freed;
  }

  first_is : (pass_in caller.seat.me).first ≡ FIRST
  first_is =
      ap (λ (s : SeatState). (pass_in s).first) making.seat
      ∙ (ap (λ (ps : List Pass). (first_pass ps).first) (caller_after end before.seat.me.0 made known).0
      ∙ (ap (λ (ns : List ℕ). cond (is_listed made ns) (before.seat.me.0.inc + 1) before.seat.me.0.inc) had.none_freed ∙ had.inc))

  pub new_one : IsNewCaller link plan made caller
  new_one = record {
    free = record { rests = making.rests; holds_nothing = making.hands };
    numbered = numbered;
    end = making.end_is ∙ is;
    follows = making.follows ∙ first;
    first = first_is;
    idle = making.own;
  }

-- one caller more
pub more_new : (link : SharedLink Side) (plan : Plan) (made : ℕ) (callers : List Caller) (caller : Caller) → AreNewCallers link plan made callers → IsNewCaller link plan made caller → AreNewCallers link plan (made + 1) (callers ++ caller ∷ [])
more_new link plan made callers caller are new = record {
  many = length_push callers caller ∙ ap (λ (n : ℕ). n + 1) are.many;
  each = λ number d below. ⊎_elim
      (λ (same : made ≡ number). subst (λ (c : Caller). IsNewCaller link plan number c) (sym (get_or_push callers caller d number (are.many ∙ same))) (subst (λ (n : ℕ). IsNewCaller link plan n caller) same new))
      (λ (other : made ≡ number → ⊥).
      let less : number < made = omega (arith, below, other) in let many = are.many in
      subst (λ (c : Caller). IsNewCaller link plan number c) (sym (get_or_append_left callers (caller ∷ []) d number (omega (arith, less, many)))) (are.each number d less))
      (cases_eq made number);
}

-- new callers may begin a round
pub may_begin : (link : SharedLink Side) (plan : Plan) (made : ℕ) (callers : List Caller) → AreNewCallers link plan made callers → MayBegin link callers
may_begin link plan made callers are =
    let within : (k : ℕ) → k < length callers → k < made = λ k below. subst (λ (n : ℕ). k < n) are.many below in
    ((λ k d below. (are.each k d (within k below)).free), (FIRST, λ k d below. (are.each k d (within k below)).follows))
