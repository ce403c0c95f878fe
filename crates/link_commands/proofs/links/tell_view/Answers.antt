-- What is told of the channels of a link is what its state says.
use Rattle.std.proofs.Common.{◌≡◌, ◌++◌, List, OnOk, sym, subst}
use Rattle.lane_model.specs.Lanes.{holder}
use Rattle.link_bench.specs.Benches.{link_in}
use Rattle.journal.specs.declared.events.Event.{Event}
use Rattle.journal.specs.Lines.{transcript}
use Rattle.link_commands.specs.declared.acts.LinkView.{LinkView}
use Rattle.link_commands.specs.LinkCommands.{view_events}
use Rattle.link_commands.proofs.FoundChannels.{channels_told, refused_is}
use Rattle.link_commands.proofs.links.tell_view.Goals as goal

pub returns-in-Channels-clause-told : goal.returns-in-Channels-clause-told
unfolding view_events
returns-in-Channels-clause-told c =
    let bench = c.args.bench.now in let log = c.args.log.now in let found = c.channels.ensures in
    subst (λ (shown : LinkView). OnOk c.tell_channels.result (c.tell_channels.new.log ≡ record log { lines = log.lines ++ transcript (view_events c.args.name bench shown) })) (sym c.in-Channels.is)
    (channels_told c.args.name bench (λ (events : List Event). c.tell_channels.new.log ≡ record log { lines = log.lines ++ transcript events }) c.tell_channels.result c.channels.result
    found.free found.channels (refused_is c.channels.result (holder (link_in bench).to_host.receiver) found.refused) c.tell_channels.ensures)
