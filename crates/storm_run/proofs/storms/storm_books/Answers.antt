use Rattle.std.proofs.Common.{◌∙◌, ◌+◌, ap}
use Rattle.std.proofs.lemmas.Result.{IfOk-weaker}
use Rattle.lane_model.specs.declared.recoveries.Books.{Books}
use Rattle.rp_base.specs.declared.kinds.End.{End}
use Rattle.link_words.specs.Histories.{LaneBooks}
use Rattle.link_words.specs.Reopens.{AreBooksOf}
use Rattle.link_words.specs.declared.rule.LinkSizes.{LinkSizes}
use Rattle.split_ring.specs.Reopens.{AreTold}
use Rattle.storm_run.specs.Counts.{AreStormBooks}
use Rattle.storm_run.proofs.Made.{made_none, may_begin}
use Rattle.storm_run.specs.declared.plans.TheConstants.{FIRST}
use Rattle.storm_run.proofs.StormBooks.{known_of, storm_of}
use Rattle.storm_run.proofs.Works.{are_numbered, round_done}
use Rattle.storm_run.proofs.storms.storm_books.Goals as goal

pub callers-requires-clause-new : goal.callers-requires-clause-new
callers-requires-clause-new g c =
    made_none c.args.plan.now c.in_ok-link.link.sizes c.in_ok-link.manager c.in_ok-link.ensures.view (ap (λ (z : LinkSizes). z.first) c.in_ok-link.ensures.sizes ∙ c.config.ensures.first) c.in_ok-link.ensures.manager.knows

pub round-requires-after_bounds : goal.round-requires-after_bounds
round-requires-after_bounds g c κs within = may_begin c.in_ok-link.link c.args.plan.now (c.args.plan.now.hosts + c.args.plan.now.remotes) c.in_ok-callers.callers.items c.in_ok-callers.ensures.callers

pub reclaim_all-requires-clause-callers : goal.reclaim_all-requires-clause-callers
reclaim_all-requires-clause-callers g c =
    are_numbered c.in_ok-link.link c.args.plan.now c.in-Ok.round.callers.items
    (round_done c.in_ok-link.link c.args.plan.now c.in_ok-callers.callers.items c.in-Ok.round.callers.items c.in_ok-callers.ensures.callers c.in-Ok.ensures.whole)

pub returns : goal.returns
returns g c =
    let plan = c.args.plan.now in let link = c.in_ok-link.link in let callers = c.in-Ok.round.callers.items in let manager = c.reclaim_all.new.manager in
    let done = round_done link plan c.in_ok-callers.callers.items callers c.in_ok-callers.ensures.callers c.in-Ok.ensures.whole in
    IfOk-weaker c.next_incarnation.result (λ (books : Books). (told : End → LaneBooks) × AreBooksOf manager.seat.me.0 told × AreTold books told) (λ (books : Books). AreStormBooks plan books)
    (λ books told. storm_of plan FIRST books told.0 c.requires (known_of link plan callers manager told.0 done c.reclaim_all.ensures.all c.reclaim_all.ensures.manager.knows told.1) told.2) c.next_incarnation.ensures
