use Rattle.std.proofs.Common.{◌≡◌, ◌++◌, map, take}
use Rattle.journal.specs.Lines.{transcript}
use Rattle.link_commands.specs.ChannelLists.{channel_event}
use Rattle.link_commands.proofs.channel_lists.tell_list.Given as goal

-- the channels so far are told
abbrev pub invariant-loop-known : goal.invariant-loop-known
invariant-loop-known l =
    l.log ≡ record l.fn.log { lines = l.fn.log.lines ++ transcript (map (channel_event l.fn.name) (take l.known-index l.fn.channels)) }
