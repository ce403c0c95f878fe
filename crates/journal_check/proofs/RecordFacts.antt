-- What lines say of a name, as it is kept: the rules by it, and one line more.
use Rattle.std.proofs.Common.{◌≡◌, ℕ, ◌+◌, ◌<◌, Bool, true, false, cond, ◌&&◌, ◌||◌, not, nat_eq, List, [], ◌∷◌, Option, Some, None, refl, sym, ap, ◌∙◌, subst, arith, inl, inr}
use Rattle.std.specs.Prelude.{is_some, is_none, unwrap_or}
use Rattle.std.specs.Option.{option_or, option_eq, option_map_or, option_and_then}
use Rattle.std.specs.Cmp.{nat_eq_equiv}
use Rattle.std.proofs.lemmas.Bool.{ne_eqb}
use Rattle.std.proofs.lemmas.Bool.Decides.{eqb_tells}
use Rattle.indexmap.specs.IndexMap.{get}
use Rattle.rp_base.specs.declared.kinds.End.{End}
use Rattle.rp_base.specs.declared.kinds.End.TheVariants as side
use Rattle.journal_check.specs.declared.marks.What.{What}
use Rattle.journal_check.specs.declared.marks.What.TheVariants as what
use Rattle.journal_check.specs.declared.records.Record.{Record}
use Rattle.journal_check.specs.Entries.{Place, entry_of, is_core, says_core, incarnation, opened, closes, has_closed, is_closed, end_told, end_of, last_of, lines_at, is_same_place, is_same_end, place_of, place_from, caller_of}
use Rattle.journal_check.specs.Rules.{breaks_at, opens_another, closes_another}
use Rattle.journal_check.specs.Tables.{IsSide, IsRecord, inc_of, place_in, least_of}
use Rattle.journal_check.proofs.SideFacts.{least_here, one_more_told, entry}

pub no_lines : (kept : Record) → kept.is_core ≡ false → kept.incarnation ≡ None → kept.is_closed ≡ false → ((c : ℕ) → get nat_eq kept.callers c ≡ None)
    → IsSide [] kept.host → IsSide [] kept.remote → IsRecord [] kept
no_lines kept core inc closed callers host remote =
    record {
      core = sym core;
      inc = sym inc;
      closed = sym closed;
      callers = callers;
      host = host;
      remote = remote;
      unused = λ i at. record { closed = refl; lines = λ end. refl };
    }

pub more_core : (line : What) (past : List What) (old new : Record) → line ≡ what.Core → IsRecord past old → new ≡ record old { is_core = true } → IsRecord (line ∷ past) new
more_core line past old new says kept is =
    subst (λ l. IsRecord (l ∷ past) new) (sym says) (subst (IsRecord (what.Core ∷ past)) (sym is) (record {
      core = refl;
      inc = kept.inc;
      closed = kept.closed;
      callers = kept.callers;
      host = kept.host;
      remote = kept.remote;
      unused = λ i at. record { closed = (kept.unused i at).closed; lines = (kept.unused i at).lines };
    }))

pub more_caller : (line : What) (past : List What) (old new : Record) (c : ℕ) (end : End) → line ≡ what.Caller c end → IsRecord past old → new ≡ record old { callers = new.callers }
    → ((q : ℕ) → get nat_eq new.callers q ≡ cond (nat_eq c q) (Some end) (get nat_eq old.callers q)) → IsRecord (line ∷ past) new
more_caller line past old new c end says kept is updates =
    subst (λ l. IsRecord (l ∷ past) new) (sym says) (subst (IsRecord (what.Caller c end ∷ past)) (sym is) (record {
      core = kept.core;
      inc = kept.inc;
      closed = kept.closed;
      callers = λ q. one_more_told (nat_eq c q) end _ _ _ (updates q) (kept.callers q);
      host = kept.host;
      remote = kept.remote;
      unused = λ i at. record { closed = (kept.unused i at).closed; lines = (kept.unused i at).lines };
    }))

pub more_open : (past : List What) (old new : Record) (inc : ℕ) → IsRecord past old → inc ≡ inc_of past + 1 → new ≡ record old { incarnation = Some inc; is_closed = false; host = new.host; remote = new.remote }
    → IsSide [] new.host → IsSide [] new.remote → IsRecord (what.Opens inc ∷ past) new
more_open past old new inc kept next is host remote =
    let later : inc_of past < inc = omega arith in
    let fresh = kept.unused inc later in
    subst (IsRecord (what.Opens inc ∷ past)) (sym is) (record {
      core = kept.core;
      inc = refl;
      closed = fresh.closed;
      callers = kept.callers;
      host = subst (λ lines. IsSide lines new.host) (sym (fresh.lines side.Host)) host;
      remote = subst (λ lines. IsSide lines new.remote) (sym (fresh.lines side.Remote)) remote;
      unused = λ i at. let before = kept.unused i (omega arith) in record { closed = before.closed; lines = before.lines };
    })

apart : (a b : ℕ) → a < b → nat_eq a b ≡ false
apart a b lt = ne_eqb a b (λ e. absurd (omega arith))

pub more_close : (past : List What) (old : Record) (inc : ℕ) → IsRecord past old → old.incarnation ≡ Some inc → IsRecord (what.Closes inc ∷ past) (record old { is_closed = true })
more_close past old inc kept is =
    let now : inc_of past ≡ inc = ap (λ o. unwrap_or o 0) (kept.inc ∙ is) in
    record {
      core = kept.core;
      inc = kept.inc;
      closed = ap (λ n. nat_eq inc n || has_closed (inc_of past) past) now ∙ ap (λ b. b || has_closed (inc_of past) past) (nat_eq_equiv.refl inc);
      callers = kept.callers;
      host = kept.host;
      remote = kept.remote;
      unused = λ i at.
          let before = kept.unused i at in
          record { closed = ap (λ b. b || has_closed i past) (apart inc i (omega arith)) ∙ before.closed; lines = before.lines };
    }

-- the rules by which an incarnation begins and ends
pub open_rule : (past : List What) (inc : ℕ) → least_of (what.Opens inc) past ≡ cond (not (nat_eq inc (inc_of past + 1))) (Some 7) None
open_rule past inc = refl

pub close_rule : (past : List What) (inc : ℕ) → least_of (what.Closes inc) past ≡ cond (not (option_eq nat_eq (incarnation past) (Some inc)) || has_closed inc past) (Some 8) None
close_rule past inc = refl

-- the line of a call
record IsCall (line : What) : Type 0 where
  core : says_core line ≡ false
  opened : opened line ≡ None
  closes : (inc : ℕ) → closes inc line ≡ false
  told : (c : ℕ) → end_told c line ≡ None
  opens_none : (past : List What) → opens_another line past ≡ false
  closes_none : (past : List What) → closes_another line past ≡ false

is_call : (line : What) (c : ℕ) → caller_of line ≡ Some c → IsCall line
is_call what.Core c e = absurd (cc)
is_call (what.Opens inc) c e = absurd (cc)
is_call (what.Closes inc) c e = absurd (cc)
is_call (what.Caller d end) c e = absurd (cc)
is_call (what.Sent d k) c e = record { core = refl; opened = refl; closes = λ i. refl; told = λ i. refl; opens_none = λ p. refl; closes_none = λ p. refl }
is_call (what.Took d k to) c e = record { core = refl; opened = refl; closes = λ i. refl; told = λ i. refl; opens_none = λ p. refl; closes_none = λ p. refl }
is_call (what.Bound d endpoint) c e = record { core = refl; opened = refl; closes = λ i. refl; told = λ i. refl; opens_none = λ p. refl; closes_none = λ p. refl }
is_call (what.Unbound d endpoint) c e = record { core = refl; opened = refl; closes = λ i. refl; told = λ i. refl; opens_none = λ p. refl; closes_none = λ p. refl }

-- the least rule, by which are broken
abbrev least : Bool → Bool → Bool → Bool → Bool → Bool → Bool → Bool → Bool → Option ℕ
least two three four five six seven eight nine ten =
    cond two (Some 2) (cond three (Some 3) (cond four (Some 4) (cond five (Some 5) (cond six (Some 6) (cond seven (Some 7) (cond eight (Some 8) (cond nine (Some 9) (cond ten (Some 10) None))))))))

abbrev by_place : What → List What → Option Place → Bool → Bool → Option ℕ
by_place line past place opens closes =
    least (breaks_at 2 place line past) (breaks_at 3 place line past) (breaks_at 4 place line past) (breaks_at 5 place line past) (breaks_at 6 place line past) opens closes (is_some (caller_of line) && is_none place) (breaks_at 10 place line past)

call_rule : (line : What) (past : List What) (c : ℕ) (place : Option Place) → caller_of line ≡ Some c → place_of line past ≡ place → least_of line past ≡ by_place line past place false false
call_rule line past c place call at =
    let is = is_call line c call in
    λ i. by_place line past (at i) (is.opens_none past i) (is.closes_none past i)

pub unplaced_rule : (line : What) (past : List What) (c : ℕ) → caller_of line ≡ Some c → place_of line past ≡ None → Some 9 ≡ least_of line past
unplaced_rule line past c call at = sym (call_rule line past c None call at ∙ ap (λ o. cond (is_some o && true) (Some 9) None) call)

pub placed_rule : (line : What) (past : List What) (c : ℕ) (place : Place) → caller_of line ≡ Some c → place_of line past ≡ Some place
    → least_of line past ≡ least_here (is_closed past) line (lines_at place past)
placed_rule line past c place call at = call_rule line past c (Some place) call at ∙ ap (λ o. least
    (breaks_at 2 (Some place) line past) (breaks_at 3 (Some place) line past) (breaks_at 4 (Some place) line past) (breaks_at 5 (Some place) line past) (breaks_at 6 (Some place) line past)
    false false (is_some o && false) (breaks_at 10 (Some place) line past)) call

-- where a call stands
no_end_at_all : (inc : Option ℕ) → place_from inc None ≡ None
no_end_at_all None = refl
no_end_at_all (Some inc) = refl

at_caller : (line : What) (past : List What) (c : ℕ) (inc : Option ℕ) (end : Option End) → caller_of line ≡ Some c → incarnation past ≡ inc → end_of c past ≡ end → place_of line past ≡ place_from inc end
at_caller line past c inc end call is ends = ap (option_and_then (λ caller. place_from (incarnation past) (end_of caller past))) call ∙ (λ i. place_from (is i) (ends i))

pub without_incarnation : (line : What) (past : List What) (c : ℕ) → caller_of line ≡ Some c → incarnation past ≡ None → place_of line past ≡ None
without_incarnation line past c call is = at_caller line past c None (end_of c past) call is refl

pub without_end : (line : What) (past : List What) (c : ℕ) → caller_of line ≡ Some c → end_of c past ≡ None → place_of line past ≡ None
without_end line past c call ends = at_caller line past c (incarnation past) None call refl ends ∙ no_end_at_all (incarnation past)

placed : (inc : Option ℕ) (end : End) → is_none inc ≡ false → place_from inc (Some end) ≡ Some (place_in (unwrap_or inc 0) end)
placed None end some = absurd (cc)
placed (Some inc) end some = refl

pub at_place : (line : What) (past : List What) (c : ℕ) (end : End) → caller_of line ≡ Some c → is_none (incarnation past) ≡ false → end_of c past ≡ Some end → place_of line past ≡ Some (place_in (inc_of past) end)
at_place line past c end call some ends = at_caller line past c (incarnation past) (Some end) call refl ends ∙ placed (incarnation past) end some

-- whether its incarnation was closed
closed_by : (past : List What) (inc : Option ℕ) → is_none inc ≡ false → option_map_or (λ n. has_closed n past) inc false ≡ has_closed (unwrap_or inc 0) past
closed_by past None some = absurd (cc)
closed_by past (Some inc) some = refl

pub closed_is : (past : List What) (kept : Record) → IsRecord past kept → is_none (incarnation past) ≡ false → is_closed past ≡ kept.is_closed
closed_is past kept record_of some = closed_by past (incarnation past) some ∙ record_of.closed

-- what stands at a place behind the line of a call
stands : (place other : Place) (line : What) (past : List What) → place_of line past ≡ Some other
    → lines_at place (line ∷ past) ≡ cond (is_same_place place other) (entry_of line past ∷ lines_at place past) (lines_at place past)
stands place other line past at = ap (λ o. cond (option_map_or (is_same_place place) o false) (entry_of line past ∷ lines_at place past) (lines_at place past)) at

same_end : (end : End) → is_same_end end end ≡ true
same_end side.Host = refl
same_end side.Remote = refl

other_end : (inc : ℕ) (one other : End) → is_same_end one other ≡ false → is_same_place (place_in inc one) (place_in inc other) ≡ false
other_end inc one other apart = ap (λ b. b && is_same_end one other) (nat_eq_equiv.refl inc) ∙ apart

pub here : (inc : ℕ) (end : End) (line : What) (past : List What) → place_of line past ≡ Some (place_in inc end)
    → lines_at (place_in inc end) (line ∷ past) ≡ entry_of line past ∷ lines_at (place_in inc end) past
here inc end line past at =
    stands (place_in inc end) (place_in inc end) line past at
    ∙ (λ i. cond (nat_eq_equiv.refl inc i && same_end end i) (entry_of line past ∷ lines_at (place_in inc end) past) (lines_at (place_in inc end) past))

pub elsewhere : (inc : ℕ) (one other : End) (line : What) (past : List What) → is_same_end one other ≡ false → place_of line past ≡ Some (place_in inc other)
    → lines_at (place_in inc one) (line ∷ past) ≡ lines_at (place_in inc one) past
elsewhere inc one other line past apart at =
    stands (place_in inc one) (place_in inc other) line past at
    ∙ (λ i. cond (other_end inc one other apart i) (entry_of line past ∷ lines_at (place_in inc one) past) (lines_at (place_in inc one) past))

later : (inc after : ℕ) (one other : End) (line : What) (past : List What) → inc < after → place_of line past ≡ Some (place_in inc other)
    → lines_at (place_in after one) (line ∷ past) ≡ lines_at (place_in after one) past
later inc after one other line past lt at =
    stands (place_in after one) (place_in inc other) line past at
    ∙ (λ i. cond (ne_eqb after inc (λ e. absurd (omega arith)) i && is_same_end one other) (entry_of line past ∷ lines_at (place_in after one) past) (lines_at (place_in after one) past))

more_call : (line : What) (past : List What) (c : ℕ) (end : End) (old new : Record) → caller_of line ≡ Some c → place_of line past ≡ Some (place_in (inc_of past) end)
    → IsRecord past old → new ≡ record old { host = new.host; remote = new.remote }
    → IsSide (lines_at (place_in (inc_of past) side.Host) (line ∷ past)) new.host → IsSide (lines_at (place_in (inc_of past) side.Remote) (line ∷ past)) new.remote → IsRecord (line ∷ past) new
more_call line past c end old new call at kept same host remote =
    let calls = is_call line c call in
    let same_inc : incarnation (line ∷ past) ≡ incarnation past = ap (λ o. option_or o (incarnation past)) calls.opened in
    let now : inc_of (line ∷ past) ≡ inc_of past = ap (λ o. unwrap_or o 0) same_inc in
    subst (IsRecord (line ∷ past)) (sym same) (record {
      core = ap (λ b. b || is_core past) calls.core ∙ kept.core;
      inc = same_inc ∙ kept.inc;
      closed = ap (λ b. b || has_closed (inc_of (line ∷ past)) past) (calls.closes (inc_of (line ∷ past))) ∙ ap (λ n. has_closed n past) now ∙ kept.closed;
      callers = λ q. kept.callers q ∙ sym (ap (λ o. option_or o (last_of (end_told q) past)) (calls.told q));
      host = subst (λ n. IsSide (lines_at (place_in n side.Host) (line ∷ past)) new.host) (sym now) host;
      remote = subst (λ n. IsSide (lines_at (place_in n side.Remote) (line ∷ past)) new.remote) (sym now) remote;
      unused = λ i lt.
          let before = kept.unused i (omega arith) in
          record {
            closed = ap (λ b. b || has_closed i past) (calls.closes i) ∙ before.closed;
            lines = λ one. later (inc_of past) i one end line past (omega arith) at ∙ before.lines one;
          };
    })

-- a call on an end: the least rule that it breaks, and what is kept of it
pub call_on : (line : What) (past : List What) (c : ℕ) (end : End) (old : Record) → IsRecord past old → caller_of line ≡ Some c → is_none old.incarnation ≡ false → end_of c past ≡ Some end
    → least_here old.is_closed line (lines_at (place_in (inc_of past) end) past) ≡ least_of line past
call_on line past c end old kept call some ends =
    let has_inc : is_none (incarnation past) ≡ false = ap is_none kept.inc ∙ some in
    let at = at_place line past c end call has_inc ends in
    ap (λ b. least_here b line (lines_at (place_in (inc_of past) end) past)) (sym (closed_is past old kept has_inc)) ∙ sym (placed_rule line past c (place_in (inc_of past) end) call at)

-- its entry
entry_is : (line : What) (past : List What) (old : Record) → IsRecord past old → is_none (incarnation past) ≡ false → entry line (place_of line past) old.is_closed ≡ entry_of line past
entry_is line past old kept some = ap (entry line (place_of line past)) (sym (closed_is past old kept some))

pub kept_on_host : (line : What) (past : List What) (c : ℕ) (old new : Record) → IsRecord past old → caller_of line ≡ Some c → is_none old.incarnation ≡ false → end_of c past ≡ Some side.Host
    → new ≡ record old { host = new.host } → IsSide (entry line (place_of line past) old.is_closed ∷ lines_at (place_in (inc_of past) side.Host) past) new.host → IsRecord (line ∷ past) new
kept_on_host line past c old new kept call some ends same host =
    let has_inc : is_none (incarnation past) ≡ false = ap is_none kept.inc ∙ some in
    let at = at_place line past c side.Host call has_inc ends in
    let lines = lines_at (place_in (inc_of past) side.Host) past in
    let same_remote : old.remote ≡ new.remote = ap (λ (r : Record). r.remote) (sym same) in
    more_call line past c side.Host old new call at kept (same ∙ ap (λ r. record old { host = new.host; remote = r }) same_remote)
    (subst (λ all. IsSide all new.host) (ap (λ e. e ∷ lines) (entry_is line past old kept has_inc) ∙ sym (here (inc_of past) side.Host line past at)) host)
    (subst (IsSide (lines_at (place_in (inc_of past) side.Remote) (line ∷ past))) same_remote
    (subst (λ all. IsSide all old.remote) (sym (elsewhere (inc_of past) side.Remote side.Host line past refl at)) kept.remote))

pub kept_on_remote : (line : What) (past : List What) (c : ℕ) (old new : Record) → IsRecord past old → caller_of line ≡ Some c → is_none old.incarnation ≡ false → end_of c past ≡ Some side.Remote
    → new ≡ record old { remote = new.remote } → IsSide (entry line (place_of line past) old.is_closed ∷ lines_at (place_in (inc_of past) side.Remote) past) new.remote → IsRecord (line ∷ past) new
kept_on_remote line past c old new kept call some ends same remote =
    let has_inc : is_none (incarnation past) ≡ false = ap is_none kept.inc ∙ some in
    let at = at_place line past c side.Remote call has_inc ends in
    let lines = lines_at (place_in (inc_of past) side.Remote) past in
    let same_host : old.host ≡ new.host = ap (λ (r : Record). r.host) (sym same) in
    more_call line past c side.Remote old new call at kept (same ∙ ap (λ h. record old { host = h; remote = new.remote }) same_host)
    (subst (IsSide (lines_at (place_in (inc_of past) side.Host) (line ∷ past))) same_host
    (subst (λ all. IsSide all old.host) (sym (elsewhere (inc_of past) side.Host side.Remote line past refl at)) kept.host))
    (subst (λ all. IsSide all new.remote) (ap (λ e. e ∷ lines) (entry_is line past old kept has_inc) ∙ sym (here (inc_of past) side.Remote line past at)) remote)

-- what code tells of an incarnation
pub same_inc : (inc : Option ℕ) (n : ℕ) → not (option_eq nat_eq inc (Some n)) ≡ false → inc ≡ Some n
same_inc None n e = absurd (cc)
same_inc (Some m) n e = elim (eqb_tells m n) [ inl is ↦ ap Some is.1 | inr not_is ↦ let never : true ≡ false = sym (ap not not_is.0) ∙ e in absurd (cc) ]
