-- The rules that the lines of a transcript keep (own). Each definition says when a line breaks one.
use Rattle.std.specs.Prelude.{ℕ, ◌+◌, Bool, true, false, ◌==◌, ◌&&◌, ◌||◌, not, nat_le, if◌then◌else◌, List, Option, Some, None, find, is_some, is_none, unwrap_or}
use Rattle.std.specs.List.{list_any, range_with_len}
use Rattle.std.specs.Option.{option_eq, option_map_or}
use Rattle.rp_base.specs.declared.kinds.Endpoint.{Endpoint}
use Rattle.journal_check.specs.declared.marks.Fate.TheVariants as fate
use Rattle.journal_check.specs.declared.marks.Mark.{Mark}
use Rattle.journal_check.specs.declared.marks.What.{What}
use Rattle.journal_check.specs.declared.marks.What.TheVariants as what
use Rattle.journal_check.specs.declared.sides.Binding.{Binding}
use Rattle.journal_check.specs.declared.readings.Reading.{Reading}
use Rattle.journal_check.specs.declared.readings.Reading.TheVariants as reading
use Rattle.journal_check.specs.Marks.{mark_in, past_of}
use Rattle.journal_check.specs.Entries.{Place, Entry, lines_at, place_of, caller_of, incarnation, has_closed, is_closed, last_of}

-- Of the rules 2 to 6 and 10, `here` has the lines that were before at the same place, the newest first.

-- 2: a line is sent K, and an earlier sent line of its lane and incarnation has K or more
abbrev pub is_sent_from : ℕ → What → Bool
is_sent_from k (what.Sent c number) = nat_le k number
is_sent_from k other = false

abbrev pub sends_no_higher : What → List Entry → Bool
sends_no_higher (what.Sent c k) here = list_any (λ entry. is_sent_from k entry.line) here
sends_no_higher other here = false

-- 3: a line is took K, and an earlier took line of its lane and incarnation has K or more
abbrev pub is_took_from : ℕ → What → Bool
is_took_from k (what.Took c number fate) = nat_le k number
is_took_from k other = false

abbrev pub takes_no_higher : What → List Entry → Bool
takes_no_higher (what.Took c k fate) here = list_any (λ entry. is_took_from k entry.line) here
takes_no_higher other here = false

-- 4: a sent or took line comes after the close of its incarnation, and so does an earlier line of the same kind and lane
abbrev pub is_sent : What → Bool
is_sent (what.Sent c k) = true
is_sent other = false

abbrev pub is_took : What → Bool
is_took (what.Took c k fate) = true
is_took other = false

abbrev pub is_second_after_close : Bool → What → List Entry → Bool
is_second_after_close is_closed (what.Sent c k) here = is_closed && list_any (λ entry. is_sent entry.line && entry.is_closed) here
is_second_after_close is_closed (what.Took c k fate) here = is_closed && list_any (λ entry. is_took entry.line && entry.is_closed) here
is_second_after_close is_closed other here = false

-- the last line by which an address was bound or unbound: which of the two, and the generation
abbrev pub binding_at : ℕ → Bool → Endpoint → Option Binding
binding_at address is_bound endpoint =
    if endpoint.address == address then Some (record { is_bound = is_bound; generation = endpoint.generation }) else None

abbrev pub binding_told : ℕ → What → Option Binding
binding_told address (what.Bound c endpoint) = binding_at address true endpoint
binding_told address (what.Unbound c endpoint) = binding_at address false endpoint
binding_told address other = None

abbrev pub last_binding : ℕ → List Entry → Option Binding
last_binding address here = last_of (λ (entry : Entry). binding_told address entry.line) here

-- 5: a line is took to A.G or unbound A.G, and the last bound or unbound line of A is bound with another generation, or unbound with
-- G or more
abbrev pub is_out_of_date : ℕ → Option Binding → Bool
is_out_of_date generation None = false
is_out_of_date generation (Some last) = if last.is_bound then not (last.generation == generation) else nat_le generation last.generation

abbrev pub names_another_binding : What → List Entry → Bool
names_another_binding (what.Took c k (fate.To endpoint)) here = is_out_of_date endpoint.generation (last_binding endpoint.address here)
names_another_binding (what.Unbound c endpoint) here = is_out_of_date endpoint.generation (last_binding endpoint.address here)
names_another_binding other here = false

-- 6: a line is took dropped A, and the last bound or unbound line of A is bound
abbrev pub is_bound : Option Binding → Bool
is_bound last = option_map_or (λ (binding : Binding). binding.is_bound) last false

abbrev pub drops_while_bound : What → List Entry → Bool
drops_while_bound (what.Took c k (fate.Dropped address)) here = is_bound (last_binding address here)
drops_while_bound other here = false

-- 7: a line by which an incarnation begins has a number that isn't one more than that of the incarnation before, 1 at first
abbrev pub opens_another : What → List What → Bool
opens_another (what.Opens inc) past = not (inc == unwrap_or (incarnation past) 0 + 1)
opens_another other past = false

-- 8: a line is closed I, and I isn't the incarnation, or a closed line of I came before
abbrev pub closes_another : What → List What → Bool
closes_another (what.Closes inc) past = not (option_eq (λ a b. a == b) (incarnation past) (Some inc)) || has_closed inc past
closes_another other past = false

-- 9: a sent, took, bound or unbound line is of a caller without an end, or of a name without an incarnation
abbrev pub has_no_place : What → List What → Bool
has_no_place line past = is_some (caller_of line) && is_none (place_of line past)

-- 10: a line is bound A.G, and an earlier bound or unbound line, or an earlier took line to an endpoint, names a generation of G or more
abbrev pub is_named_from : ℕ → What → Bool
is_named_from generation (what.Bound c endpoint) = nat_le generation endpoint.generation
is_named_from generation (what.Unbound c endpoint) = nat_le generation endpoint.generation
is_named_from generation (what.Took c k (fate.To endpoint)) = nat_le generation endpoint.generation
is_named_from generation other = false

abbrev pub binds_no_higher : What → List Entry → Bool
binds_no_higher (what.Bound c endpoint) here = list_any (λ entry. is_named_from endpoint.generation entry.line) here
binds_no_higher other here = false

-- a line at a place breaks one of the rules 2 to 6 and 10
abbrev pub breaks_here : ℕ → Bool → What → List Entry → Bool
breaks_here rule is_closed line here =
    if rule == 2 then sends_no_higher line here
    else (if rule == 3 then takes_no_higher line here
    else (if rule == 4 then is_second_after_close is_closed line here
    else (if rule == 5 then names_another_binding line here
    else (if rule == 6 then drops_while_bound line here
    else (if rule == 10 then binds_no_higher line here else false)))))

-- where rule 9 applies there is no lane and no incarnation, so these rules don't
abbrev pub breaks_at : ℕ → Option Place → What → List What → Bool
breaks_at rule None line past = false
breaks_at rule (Some place) line past = breaks_here rule (is_closed past) line (lines_at place past)

-- a line of a name breaks one of the rules 2 to 10
abbrev pub breaks : ℕ → What → List What → Bool
breaks rule line past =
    if rule == 7 then opens_another line past
    else (if rule == 8 then closes_another line past
    else (if rule == 9 then has_no_place line past
    else breaks_at rule (place_of line past) line past))

-- 1: a line is no line of a transcript, or lacks its line feed; or it ends a transcript, and isn't the last
abbrev pub is_out_of_form : Bool → Reading → Bool
is_out_of_form is_last (reading.Event e) = false
is_out_of_form is_last (reading.Ending n) = not is_last
is_out_of_form is_last reading.Nothing = true

-- a line breaks a rule, by what it and those before it say
abbrev pub breaks_by : ℕ → Option Mark → List Reading → Bool
breaks_by rule None before = false
breaks_by rule (Some mark) before = breaks rule mark.what (past_of mark.name before)

abbrev pub breaks_rule : ℕ → Bool → Reading → List Reading → Bool
breaks_rule rule is_last now before = if rule == 1 then is_out_of_form is_last now else breaks_by rule (mark_in now) before

-- the least rule that it breaks
abbrev pub least_rule : Bool → Reading → List Reading → Option ℕ
least_rule is_last now before = find (λ rule. breaks_rule rule is_last now before) (range_with_len 1 10)
