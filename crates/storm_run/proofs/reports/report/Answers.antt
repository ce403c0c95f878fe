use Rattle.std.proofs.Common.{◌++◌, ◌+◌, ◌*◌, ◌≤◌, ◌∙◌, arith}
use Rattle.rp_base.specs.declared.kinds.End.TheVariants as side
use Rattle.rp_base.specs.declared.limits.TheConstants.{CALLERS_MOST}
use Rattle.storm_run.specs.Storms.{storm_text}
use Rattle.storm_run.proofs.LineTexts.{line_as, lines_as}
use Rattle.storm_run.proofs.reports.report.Goals as goal

pub returns : goal.returns
unfolding storm_text
returns c =
    let plan = c.args.plan.now in let books = c.args.books.now in let lane = c.requires.books in
    let hosts = c.requires.plan.hosts in let remotes = c.requires.plan.remotes in
    let few : plan.hosts + plan.remotes ≤ CALLERS_MOST = omega (arith, hosts.1, remotes.1) in
    let to_host = line_as 0 c.len.result books.to_host_handed (plan.remotes * plan.count) (c.len.ensures.len ∙ lane.to_host.accepted) lane.to_host.all_handed in
    let to_remote = line_as 1 c.len-2.result books.to_remote_handed (plan.hosts * plan.count) (c.len-2.ensures.len ∙ lane.to_remote.accepted) lane.to_remote.all_handed in
    let host_lines = lines_as 0 plan.hosts plan.count side.Host books.to_remote.entries books.to_remote_handed c.counts_in.result lane.to_remote (omega (arith, few)) c.counts_in.ensures in
    let remote_lines = lines_as plan.hosts plan.remotes plan.count side.Remote books.to_host.entries books.to_host_handed c.counts_in-2.result lane.to_host few c.counts_in-2.ensures in
    c.in_ok-push_callers-2.ensures
    ∙ (λ i. (c.in_ok-push_callers.ensures ∙ (λ j. (c.in_ok-push_lane-2.ensures ∙ (λ k. (c.in_ok-push_lane.ensures ∙ (λ l. c.new-text.ensures.items l ++ to_host l)) k ++ to_remote k)) j ++ host_lines j)) i ++ remote_lines i)
