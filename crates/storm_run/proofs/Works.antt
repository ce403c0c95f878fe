-- What the callers of a storm have done behind its round.
use Rattle.std.proofs.Common.{◌≡◌, ◌+◌, ◌-◌, ◌*◌, ◌≤◌, ◌<◌, ◌∙◌, ◌++◌, ℕ, zero, suc, List, [], min, take, length, get_or, refl, sym, ap, subst, append-nil, ⊎_elim, arith, slice_index_or}
use Rattle.std.proofs.lemmas.Bool.{cases_lt, cond-true, cond-false, lt-ltb, le-ltb}
use Rattle.std.proofs.lemmas.List.{length-map, length_push, take_all}
use Rattle.std.proofs.lemmas.List.Sums.{count_by_more_yes, count_by_more_no}
use Rattle.channel_bus.specs.declared.sides.Side.{Side}
use Rattle.rp_base.specs.declared.kinds.End.{End}
use Rattle.rp_base.specs.declared.kinds.End.TheVariants as side
use Rattle.link_words.specs.declared.rule.Event.{Event}
use Rattle.link_words.specs.Histories.{same_end, seen, sends_in}
use Rattle.link_words.specs.Words.{other}
use Rattle.split_ring.specs.Callers.{own_of}
use Rattle.split_ring.specs.declared.callers.Caller.{Caller}
use Rattle.split_ring.specs.declared.callers.CallerId.{CallerId}
use Rattle.split_ring.specs.declared.links.SharedLink.{SharedLink}
use Rattle.storm_run.specs.declared.plans.Plan.{Plan}
use Rattle.storm_run.specs.declared.plans.TheConstants.{FIRST}
use Rattle.storm_run.specs.Managers.{AreDoneCallers, AreNewCallers, AreNumbered, HasSentAll, IsDoneCaller, IsNewCaller, callers_on, end_at}
use Rattle.storm_run.specs.Rounds.{HasWorked, IsWholeRound, count_on, empty_walk, storm_messages}
use Rattle.storm_run.proofs.Looks.{seen_look, seen_more}

-- the ends of the callers by number
pub at_host : (plan : Plan) (number : ℕ) → number < plan.hosts → end_at plan number ≡ side.Host
at_host plan number below = cond-true _ side.Host side.Remote (lt-ltb number plan.hosts below)

pub at_remote : (plan : Plan) (number : ℕ) → plan.hosts ≤ number → end_at plan number ≡ side.Remote
at_remote plan number above = cond-false _ side.Host side.Remote (le-ltb number plan.hosts above)

-- how many of the first ones are on an end
module _ (plan : Plan) (callers : List Caller) (d : Caller) (ends : (k : ℕ) → k < length callers → (get_or callers k d).id.end ≡ end_at plan k) where
  on_host : (k : ℕ) → k ≤ length callers → count_on side.Host (take k callers) ≡ min k plan.hosts
  on_host zero within = let none : 0 ≡ min 0 plan.hosts = omega arith in none
  on_host (suc k) within =
      let before : count_on side.Host (take k callers) ≡ min k plan.hosts = on_host k (omega (arith, within)) in
      let next : suc k ≡ k + 1 = omega arith in
      ap (λ (n : ℕ). count_on side.Host (take n callers)) next ∙ ⊎_elim
      (λ (less : k < plan.hosts).
      count_by_more_yes (λ (c : Caller). same_end c.id.end side.Host) callers k d (omega (arith, within)) (ap (λ (e : End). same_end e side.Host) (ends k (omega (arith, within)) ∙ at_host plan k less))
      ∙ (let one : count_on side.Host (take k callers) + 1 ≡ min (suc k) plan.hosts = omega (arith, before, less) in one))
      (λ (more : plan.hosts ≤ k).
      count_by_more_no (λ (c : Caller). same_end c.id.end side.Host) callers k d (omega (arith, within)) (ap (λ (e : End). same_end e side.Host) (ends k (omega (arith, within)) ∙ at_remote plan k more))
      ∙ (let none : count_on side.Host (take k callers) ≡ min (suc k) plan.hosts = omega (arith, before, more) in none))
      (cases_lt k plan.hosts)

  on_remote : (k : ℕ) → k ≤ length callers → count_on side.Remote (take k callers) ≡ k - plan.hosts
  on_remote zero within = let none : 0 ≡ 0 - plan.hosts = omega arith in none
  on_remote (suc k) within =
      let before : count_on side.Remote (take k callers) ≡ k - plan.hosts = on_remote k (omega (arith, within)) in
      let next : suc k ≡ k + 1 = omega arith in
      ap (λ (n : ℕ). count_on side.Remote (take n callers)) next ∙ ⊎_elim
      (λ (less : k < plan.hosts).
      count_by_more_no (λ (c : Caller). same_end c.id.end side.Remote) callers k d (omega (arith, within)) (ap (λ (e : End). same_end e side.Remote) (ends k (omega (arith, within)) ∙ at_host plan k less))
      ∙ (let none : count_on side.Remote (take k callers) ≡ suc k - plan.hosts = omega (arith, before, less) in none))
      (λ (more : plan.hosts ≤ k).
      count_by_more_yes (λ (c : Caller). same_end c.id.end side.Remote) callers k d (omega (arith, within)) (ap (λ (e : End). same_end e side.Remote) (ends k (omega (arith, within)) ∙ at_remote plan k more))
      ∙ (let one : count_on side.Remote (take k callers) + 1 ≡ suc k - plan.hosts = omega (arith, before, more) in one))
      (cases_lt k plan.hosts)

  on_end : (e : End) → length callers ≡ plan.hosts + plan.remotes → count_on e callers ≡ callers_on plan e
  on_end side.Host many = ap (λ (l : List Caller). count_on side.Host l) (sym (take_all (length callers) callers (omega arith))) ∙ (on_host (length callers) (omega arith) ∙ (let all : min (length callers) plan.hosts ≡ plan.hosts = omega (arith, many) in all))
  on_end side.Remote many = ap (λ (l : List Caller). count_on side.Remote l) (sym (take_all (length callers) callers (omega arith))) ∙ (on_remote (length callers) (omega arith) ∙ (let all : length callers - plan.hosts ≡ plan.remotes = omega (arith, many) in all))

messages_many : (caller count : ℕ) → length (storm_messages caller count) ≡ count
messages_many caller zero = refl
messages_many caller (suc count) = length_push (storm_messages caller count) _ ∙ (let same = messages_many caller count in (let next : length (storm_messages caller count) + 1 ≡ suc count = omega (arith, same) in next))

-- the list of a new caller that has worked
module _ (link : SharedLink Side) (plan : Plan) (count least number : ℕ) (before after : Caller) (new : IsNewCaller link plan number before) (work : HasWorked link count least before after) where
  whole : own_of after ≡ work.sent.did
  whole = work.sent.own ∙ (ap (λ (l : List Event). work.sent.did ++ l) new.idle ∙ append-nil work.sent.did)

  all_new : sends_in (other after.id.end) after.id.follows (own_of after) ≡ work.sent.new
  all_new = work.sent.more ∙ ap (λ (l : List Event). sends_in (other before.id.end) before.id.follows l ++ work.sent.new) new.idle

  has_sent : length (sends_in (other before.id.end) before.id.follows (own_of after)) ≡ count
  has_sent =
      ap (λ (who : CallerId). length (sends_in (other who.end) who.follows (own_of after))) (sym work.sent.same)
      ∙ (ap length all_new ∙ (sym (length-map work.sent.new (λ (s : ℕ × List ℕ). s.1)) ∙ (ap length work.sent.said ∙ messages_many before.id.number count)))

  has_kept : sends_in before.id.end before.id.follows (own_of after) ≡ []
  has_kept = ap (sends_in before.id.end before.id.follows) whole ∙ work.sent.none_here

  has_found : least ≤ (seen before.id.end before.id.follows (own_of after)).handed
  has_found =
      let f = work.found in let e = before.id.end in let inc = before.id.follows in
      let look : f.accepted ≤ (seen e inc (empty_walk before.id f.accepted ++ f.earlier)).handed = seen_look e inc f.accepted f.accepted f.earlier in
      let among : f.accepted ≤ (seen e inc (f.later ++ (empty_walk before.id f.accepted ++ f.earlier))).handed = seen_more e inc f.accepted f.later (empty_walk before.id f.accepted ++ f.earlier) look in
      let told : f.accepted ≤ (seen e inc (own_of after)).handed = subst (λ (l : List Event). f.accepted ≤ (seen e inc l).handed) (sym (whole ∙ f.within)) among in
      let enough = f.enough in omega (arith, told, enough)

  as_sent : HasSentAll before.id.end before.id.follows count least (own_of after)
  as_sent = record { sent = has_sent; kept = has_kept; found = has_found }

  pub is_done : (all : ℕ) → count ≡ plan.count → least ≡ all → all ≡ callers_on plan (other (end_at plan number)) * plan.count → IsDoneCaller link plan number after
  is_done all counted same is = record {
    free = work.free;
    numbered = ap (λ (who : CallerId). who.number) work.sent.same ∙ new.numbered;
    first = work.sent.first ∙ new.first;
    sent = subst (λ (n : ℕ). HasSentAll (end_at plan number) FIRST n (callers_on plan (other (end_at plan number)) * plan.count) (own_of after)) counted
        (subst (λ (n : ℕ). HasSentAll (end_at plan number) FIRST count n (own_of after)) (same ∙ is)
        (subst (λ (n : ℕ). HasSentAll (end_at plan number) n count least (own_of after)) new.follows
        (subst (λ (e : End). HasSentAll e before.id.follows count least (own_of after)) new.end as_sent)));
  }

-- a round of new callers is the work of a storm
pub round_done : (link : SharedLink Side) (plan : Plan) (before after : List Caller) → AreNewCallers link plan (plan.hosts + plan.remotes) before → IsWholeRound link plan.count before after → AreDoneCallers link plan after
round_done link plan before after new round = record {
  many = round.as_many ∙ new.many;
  each = λ number d below.
      let caller = slice_index_or before number d in
      let here : number < length before = subst (λ (n : ℕ). number < n) (sym new.many) below in
      let is = new.each number d below in
      let on : count_on (other caller.id.end) before ≡ callers_on plan (other (end_at plan number)) =
      on_end plan before d (λ k within. (new.each k d (subst (λ (n : ℕ). k < n) new.many within)).end) (other caller.id.end) new.many ∙ ap (λ (e : End). callers_on plan (other e)) is.end in
      let product : plan.count * callers_on plan (other (end_at plan number)) ≡ callers_on plan (other (end_at plan number)) * plan.count = omega arith in
      is_done link plan plan.count (plan.count * count_on (other caller.id.end) before) number caller (slice_index_or after number d) is (round.each number d here)
      (plan.count * callers_on plan (other (end_at plan number))) refl (ap (λ (n : ℕ). plan.count * n) on) product;
}

-- they are the callers of the first numbers, and free
pub are_numbered : (link : SharedLink Side) (plan : Plan) (callers : List Caller) → AreDoneCallers link plan callers → AreNumbered link callers
are_numbered link plan callers are = λ number d below. let is = are.each number d (subst (λ (n : ℕ). number < n) are.many below) in (is.free, is.numbered)
