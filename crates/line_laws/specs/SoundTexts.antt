-- What a text shows of which an audit answers Sound (own): what `HandsInOrder` of journal_check says of readings, of those of this text.
use Rattle.std.specs.Prelude.{ℕ, List, reverse, filter}
use Rattle.rp_base.specs.declared.kinds.End.{End}
use Rattle.rp_base.specs.declared.kinds.Endpoint.{Endpoint}
use Rattle.journal_check.specs.declared.answers.Audit.TheVariants.{Sound}
use Rattle.journal_check.specs.Audits.{IsAudit}
use Rattle.journal_check.specs.Deliveries.{IsBinding, IsDelivery, addressed_to, handed_to, has_sent, other_end}
use Rattle.journal_check.specs.Entries.{Entry, lines_at}
use Rattle.journal_check.specs.Lines.{lines_of}
use Rattle.journal_check.specs.Marks.{past_of}

-- of the messages that a caller has sent lines for on the lane that leads to a place, those that are handed to an endpoint that was bound
-- there ascend, and are the first of those that, after its bound line, are to an endpoint at its address or dropped there
abbrev pub SoundHandsInOrder : Type 0
SoundHandsInOrder =
    (text : List ℕ) (count : ℕ) (found : IsAudit (lines_of text) (Sound count))
    (name : List ℕ) (inc : ℕ) (end : End) (sender : ℕ) (endpoint : Endpoint) (later earlier : List Entry)
    → let past = past_of name (reverse found.readings) in
    let here = lines_at (record { inc = inc; end = end }) past in
    let sent = has_sent sender (lines_at (record { inc = inc; end = other_end end }) past) in
    IsBinding endpoint here later earlier → IsDelivery (filter sent (handed_to endpoint here)) (filter sent (addressed_to endpoint.address later))
