-- The books of a storm, by what its manager kept.
use Rattle.std.proofs.Common.{◌≡◌, ◌≤◌, ◌<◌, ◌∙◌, ℕ, List, [], ◌∷◌, length, sym, ap, subst, arith, slice_index_or}
use Rattle.std.specs.Prelude.{Option}
use Rattle.channel_bus.specs.declared.sides.Side.{Side}
use Rattle.rp_base.specs.declared.kinds.End.{End}
use Rattle.rp_base.specs.declared.kinds.End.TheVariants as side
use Rattle.lane_model.specs.Links.{end_of}
use Rattle.lane_model.specs.declared.recoveries.Books.{Books}
use Rattle.lane_model.specs.declared.states.BookEntry.{BookEntry}
use Rattle.link_words.specs.Histories.{HasHistory, LaneBooks}
use Rattle.link_words.specs.Reopens.{AreBooksOf}
use Rattle.link_words.specs.declared.rule.Event.{Event}
use Rattle.split_ring.specs.Callers.{own_of}
use Rattle.split_ring.specs.Reopens.{AreTold}
use Rattle.split_ring.specs.Seats.{pass_in}
use Rattle.split_ring.specs.declared.callers.Caller.{Caller}
use Rattle.split_ring.specs.declared.callers.Manager.{Manager}
use Rattle.split_ring.specs.declared.links.SharedLink.{SharedLink}
use Rattle.storm_run.specs.Counts.{AreStormBooks, IsStormLane}
use Rattle.storm_run.specs.Managers.{AreDoneCallers, HasReclaimed}
use Rattle.storm_run.specs.Storms.{IsPlan}
use Rattle.storm_run.specs.declared.plans.Plan.{Plan}
use Rattle.storm_run.specs.declared.plans.TheConstants.{FIRST}
use Rattle.storm_run.proofs.Told.{AreKnown, lane_to_host, lane_to_remote}

some_caller : (callers : List Caller) → 1 ≤ length callers → Caller
some_caller [] some = absurd (omega (arith, some))
some_caller (c ∷ callers) some = c

-- each pass that the manager kept is in the books
pub known_of : (link : SharedLink Side) (plan : Plan) (callers : List Caller) (manager : Manager) (told : End → LaneBooks) → AreDoneCallers link plan callers → HasReclaimed callers (length callers) manager
    → manager.seat.me.0.users ≡ manager.users → AreBooksOf manager.seat.me.0 told → AreKnown plan FIRST told
known_of link plan callers manager told done reclaimed knows books = record {
  each = λ caller below.
      let many = done.many in let within : caller < length callers = omega (arith, below, many) in
      let d = some_caller callers (omega (arith, within)) in let c = slice_index_or callers caller d in
      let is = done.each caller d below in let kept = reclaimed.kept caller d within in
      record {
        first = (pass_in c.seat.me).first;
        own = own_of c;
        early = (let first = is.first in omega (arith, first));
        history = subst (λ (inc : ℕ). HasHistory inc told caller (pass_in c.seat.me).first (own_of c)) reclaimed.inc
            (subst (λ (number : ℕ). HasHistory manager.seat.me.0.inc told number (pass_in c.seat.me).first (own_of c)) (kept.number ∙ is.numbered)
            (subst (λ (first : ℕ). HasHistory manager.seat.me.0.inc told kept.pass.number first (own_of c)) kept.first
            (subst (λ (own : List Event). HasHistory manager.seat.me.0.inc told kept.pass.number kept.pass.first own) kept.own (books.ended kept.place kept.pass kept.here))));
        sent = is.sent;
      };
  unused = λ caller above e.
      let many = done.many in
      books.unused caller (ap (λ (users : List (Option End)). end_of users caller) knows ∙ reclaimed.unused caller (λ past below. omega (arith, above, below, many)))
      (λ has. let low = reclaimed.freed caller has in omega (arith, above, low, many)) e;
}

-- so the books that were handed back are those of the storm
pub storm_of : (plan : Plan) (inc : ℕ) (books : Books) (told : End → LaneBooks) → IsPlan plan → AreKnown plan inc told → AreTold books told → AreStormBooks plan books
storm_of plan inc books told is known said = record {
  to_host = subst (λ (handed : ℕ). IsStormLane plan.hosts plan.remotes plan.count books.to_host.entries handed) (sym said.to_host_handed)
      (subst (λ (entries : List BookEntry). IsStormLane plan.hosts plan.remotes plan.count entries (length (told side.Host).takers)) (sym said.to_host) (lane_to_host plan inc told known is));
  to_remote = subst (λ (handed : ℕ). IsStormLane 0 plan.hosts plan.count books.to_remote.entries handed) (sym said.to_remote_handed)
      (subst (λ (entries : List BookEntry). IsStormLane 0 plan.hosts plan.count entries (length (told side.Remote).takers)) (sym said.to_remote) (lane_to_remote plan inc told known is));
}
