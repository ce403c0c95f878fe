use Rattle.std.proofs.Common.{rules, arith, ◌+◌, length, List, ◌≡◌, ap}
use Rattle.lane_model.specs.declared.states.BookEntry.{BookEntry}
use Rattle.lane_model.proofs.BookEntries.{entries_more}
use Rattle.lane_model.proofs.books.Book.push.Goals as goal

pub returns : goal.returns
returns c =
    let starts : c.len-start.result ≡ length c.self.inside.bytes.items = search rules in
    let ends : c.len.result ≡ length c.self.inside.bytes.items + length c.args.message.now = omega (arith, c.append.ensures.len, c.len.ensures, c.len-start.ensures, starts) in
    let more = entries_more c.self.inside.bytes.items c.args.message.now c.self.inside.marks.items c.args.caller c.len-start.result c.len.result c.self.invariant.marked starts ends in
    rw (← c.self.view_is, c.append.ensures.items, c.push_reserved-2.ensures.items) (ap (λ (entries : List BookEntry). record { entries = entries; room = c.self.inside.room }) more)
