-- The books of a storm, by what the own lists of its callers say.
use Rattle.std.proofs.Common.{◌≡◌, ◌+◌, ◌*◌, ◌≤◌, ◌<◌, ◌∙◌, ℕ, List, [], length, sym, ap, subst, ⊎_elim, arith}
use Rattle.std.proofs.lemmas.Bool.{cases_lt, cond-true, cond-false, lt-ltb, le-ltb}
use Rattle.rp_base.specs.declared.kinds.End.{End}
use Rattle.rp_base.specs.declared.kinds.End.TheVariants as side
use Rattle.rp_base.specs.declared.limits.TheConstants.{CALLERS_MOST}
use Rattle.link_words.specs.declared.rule.Event.{Event}
use Rattle.link_words.specs.Histories.{HasHistory, LaneBooks, entries_by, seen, sends_in, takes_by}
use Rattle.link_words.specs.Passes.{HasNumber}
use Rattle.link_words.specs.Words.{other}
use Rattle.storm_run.specs.Counts.{IsStormLane}
use Rattle.storm_run.specs.Managers.{HasSentAll, callers_on, end_at}
use Rattle.storm_run.specs.Storms.{IsPlan}
use Rattle.storm_run.specs.declared.plans.Plan.{Plan}
use Rattle.storm_run.proofs.BookSums.{AreEven, entries_many, low, many_is, many_of, total}
use Rattle.storm_run.proofs.Takers.{no_more, read_within}

-- what is known of a caller: its history in the books, and that it has sent all and found all
pub record IsKnown (plan : Plan) (inc : ℕ) (books : End → LaneBooks) (caller : ℕ) : Type 0 where
  pub first : ℕ
  pub own : List Event
  pub early : first ≤ inc
  pub history : HasHistory inc books caller first own
  pub sent : HasSentAll (end_at plan caller) inc plan.count (callers_on plan (other (end_at plan caller)) * plan.count) own

-- and of all, and of those that are not there
pub record AreKnown (plan : Plan) (inc : ℕ) (books : End → LaneBooks) : Type 0 where
  pub each : (caller : ℕ) → caller < plan.hosts + plan.remotes → IsKnown plan inc books caller
  pub unused : (caller : ℕ) → plan.hosts + plan.remotes ≤ caller → (e : End) → (entries_by caller 0 (books e).accepted ≡ []) × (takes_by caller 0 (books e).takers ≡ [])

nothing : (n : ℕ) {m : ℕ} → HasNumber [] n → n < m
nothing n (k, is) = absurd (grind arith)

module _ (plan : Plan) (inc : ℕ) (books : End → LaneBooks) (known : AreKnown plan inc books) where
  -- how many entries a caller has in a book
  many_by : (caller : ℕ) (e : End) (below : caller < plan.hosts + plan.remotes) → many_of caller (books e).accepted ≡ length (sends_in e inc (known.each caller below).own)
  many_by caller e below = sym (entries_many caller 0 (books e).accepted) ∙ ap length ((known.each caller below).history.sent e (known.each caller below).early)

  none_by : (caller : ℕ) (e : End) → plan.hosts + plan.remotes ≤ caller → many_of caller (books e).accepted ≡ 0
  none_by caller e above = sym (entries_many caller 0 (books e).accepted) ∙ ap length (known.unused caller above e).0

  sent_by : (caller : ℕ) (e : End) → caller < plan.hosts + plan.remotes → other (end_at plan caller) ≡ e → many_of caller (books e).accepted ≡ plan.count
  sent_by caller e below is =
      let k = known.each caller below in
      many_by caller e below ∙ (ap (λ (x : End). length (sends_in x inc k.own)) (sym is) ∙ k.sent.sent)

  kept_by : (caller : ℕ) (e : End) → caller < plan.hosts + plan.remotes → end_at plan caller ≡ e → many_of caller (books e).accepted ≡ 0
  kept_by caller e below is =
      let k = known.each caller below in
      many_by caller e below ∙ ap length (ap (λ (x : End). sends_in x inc k.own) (sym is) ∙ k.sent.kept)

  at_host : (caller : ℕ) → caller < plan.hosts → end_at plan caller ≡ side.Host
  at_host caller below = cond-true _ side.Host side.Remote (lt-ltb caller plan.hosts below)

  at_remote : (caller : ℕ) → plan.hosts ≤ caller → end_at plan caller ≡ side.Remote
  at_remote caller above = cond-false _ side.Host side.Remote (le-ltb caller plan.hosts above)

  -- the callers of the remote's end send to the host, and those of the host's to the remote
  to_host : AreEven plan.hosts plan.remotes plan.count (books side.Host).accepted
  to_host = record {
    inside = λ caller above below. sent_by caller side.Host below (ap other (at_remote caller above));
    before = λ caller below. kept_by caller side.Host (omega (arith, below)) (at_host caller below);
    behind = λ caller above. none_by caller side.Host above;
  }

  to_remote : AreEven 0 plan.hosts plan.count (books side.Remote).accepted
  to_remote = record {
    inside = λ caller above below. let less : caller < plan.hosts = omega (arith, below) in sent_by caller side.Remote (omega (arith, less)) (ap other (at_host caller less));
    before = λ caller below. absurd (omega (arith, below));
    behind = λ caller above. let more : plan.hosts ≤ caller = omega (arith, above) in ⊎_elim
        (λ (less : caller < plan.hosts + plan.remotes). kept_by caller side.Remote less (at_remote caller more))
        (λ (past : plan.hosts + plan.remotes ≤ caller). none_by caller side.Remote past)
        (cases_lt caller (plan.hosts + plan.remotes));
  }

  -- no more was handed over than was accepted
  handed_most : (e : End) → length (books e).takers ≤ length (books e).accepted
  handed_most e = no_more (books e).takers (length (books e).accepted) (λ caller n has. ⊎_elim
      (λ (below : caller < plan.hosts + plan.remotes).
      let k = known.each caller below in
      read_within e inc (books e).accepted k.own n (k.history.read e) (subst (λ (ns : List ℕ). HasNumber ns n) (k.history.taken e k.early) has))
      (λ (above : plan.hosts + plan.remotes ≤ caller). nothing n (subst (λ (ns : List ℕ). HasNumber ns n) (known.unused caller above e).1 has))
      (cases_lt caller (plan.hosts + plan.remotes)))

  -- and no less
  handed_least : (caller : ℕ) (e : End) → caller < plan.hosts + plan.remotes → end_at plan caller ≡ e → callers_on plan (other e) * plan.count ≤ length (books e).takers
  handed_least caller e below is =
      let k = known.each caller below in
      let found : callers_on plan (other e) * plan.count ≤ (seen e inc k.own).handed = subst (λ (x : End). callers_on plan (other x) * plan.count ≤ (seen x inc k.own).handed) is k.sent.found in
      let told : (seen e inc k.own).handed ≤ length (books e).takers = (k.history.counts e).handed in
      omega (arith, found, told)

  lane_of : (first callers : ℕ) (e : End) → AreEven first callers plan.count (books e).accepted → first + callers ≤ CALLERS_MOST → callers * plan.count ≤ length (books e).takers
      → IsStormLane first callers plan.count (books e).accepted (length (books e).takers)
  lane_of first callers e even few least =
      let all : length (books e).accepted ≡ callers * plan.count = total first callers plan.count (books e).accepted even in
      let most : length (books e).takers ≤ length (books e).accepted = handed_most e in
      record {
        accepted = all;
        all_handed = omega (arith, all, most, least);
        each = λ caller above below. sym (many_is caller (books e).accepted) ∙ even.inside caller above below;
        low = λ k d within. let less = low first callers plan.count (books e).accepted even k d within in omega (arith, less, few);
      }

  pub lane_to_host : IsPlan plan → IsStormLane plan.hosts plan.remotes plan.count (books side.Host).accepted (length (books side.Host).takers)
  lane_to_host is =
      let hosts = is.hosts in let remotes = is.remotes in
      lane_of plan.hosts plan.remotes side.Host to_host (omega (arith, hosts.1, remotes.1)) (handed_least 0 side.Host (omega (arith, hosts.0)) (at_host 0 (omega (arith, hosts.0))))

  pub lane_to_remote : IsPlan plan → IsStormLane 0 plan.hosts plan.count (books side.Remote).accepted (length (books side.Remote).takers)
  lane_to_remote is =
      let hosts = is.hosts in let remotes = is.remotes in
      lane_of 0 plan.hosts side.Remote to_remote (omega (arith, hosts.1)) (handed_least plan.hosts side.Remote (omega (arith, remotes.0)) (at_remote plan.hosts (omega arith)))
