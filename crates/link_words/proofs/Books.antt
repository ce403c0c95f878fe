-- What each change does to the part on histories.
use Rattle.lane_model.specs.Links.{end_of}
use Rattle.std.specs.Prelude.{Option, Some, None}
use Rattle.std.proofs.Common.{◌≡◌, ◌≢◌, ℕ, suc, ◌+◌, ◌<◌, ◌≤◌, Bool, true, false, cond, eqb, ◌&&◌, List, [], ◌∷◌, ◌++◌, length, refl, sym, ap, ◌∙◌, subst, arith, eq-eqb, ne_eqb, le_trans}
use Rattle.std.proofs.Common.{length-append, zero, suc}
use Rattle.lane_model.specs.Lanes.{message_at}
use Rattle.rp_base.specs.declared.kinds.End.{End}
use Rattle.rp_base.specs.declared.kinds.End.TheVariants as side
use Rattle.lane_model.specs.declared.lane_links.LaneLink.{LaneLink}
use Rattle.lane_model.specs.declared.states.BookEntry.{BookEntry}
use Rattle.lane_model.specs.Desks.{DeskMeaning}
use Rattle.ring_core.specs.declared.states.RingState.{RingState}
use Rattle.link_words.specs.declared.rule.Event.{Event}
use Rattle.link_words.specs.declared.rule.Event.TheVariants.{Step, Count, Publish, Take}
use Rattle.link_words.specs.Words.{lane_to, with_lane}
use Rattle.link_words.specs.Deeds.{link_after_opening}
use Rattle.link_words.specs.declared.rule.Counted.{Counted}
use Rattle.link_words.specs.Histories.{same_end, entries_by, sends_in, NoneLater, takes_by, takes_in, ReadsIn, NoneOf, IsWithin, counts_told, counts_published, counts_taken, seen, books_of, counts_of}
use Rattle.link_words.proofs.Parts.{SendsAgree, TakesAt}
use Rattle.link_words.proofs.Seen.{Grows, seen_kept, seen_more, seen_none}
use Rattle.link_words.specs.Rule.{IsHistory}

entries_more : (b : Bool) (number : ℕ) (message : List ℕ) (xs : List (ℕ × List ℕ)) → List (ℕ × List ℕ)
entries_more true number message xs = (number, message) ∷ xs
entries_more false number message xs = xs

cond_more : (b : Bool) (x : ℕ × List ℕ) (xs ys : List (ℕ × List ℕ)) → cond b (x ∷ (xs ++ ys)) (xs ++ ys) ≡ cond b (x ∷ xs) xs ++ ys
cond_more true x xs ys = refl
cond_more false x xs ys = refl

-- one entry more
entries_push : (caller number : ℕ) (bs : List BookEntry) (b : BookEntry) → entries_by caller number (bs ++ b ∷ []) ≡ entries_by caller number bs ++ cond (eqb b.caller caller) ((number + length bs, b.message) ∷ []) []
entries_push caller number [] b = ap (λ (n : ℕ). cond (eqb b.caller caller) ((n, b.message) ∷ []) []) (let e : number ≡ number + 0 = omega arith in e)
entries_push caller number (x ∷ bs) b =
    ap (λ (l : List (ℕ × List ℕ)). cond (eqb x.caller caller) ((number, x.message) ∷ l) l)
    (entries_push caller (suc number) bs b ∙ ap (λ (n : ℕ). entries_by caller (suc number) bs ++ cond (eqb b.caller caller) ((n, b.message) ∷ []) []) (let e : suc number + length bs ≡ number + suc (length bs) = omega arith in e))
    ∙ cond_more (eqb x.caller caller) (number, x.message) (entries_by caller (suc number) bs) (cond (eqb b.caller caller) ((number + suc (length bs), b.message) ∷ []) [])

append_none : {A : Type 0} (xs : List A) → xs ++ [] ≡ xs
append_none [] = refl
append_none {A = A} (x ∷ xs) = ap (λ (l : List A). x ∷ l) (append_none xs)

-- an entry of another caller
pub entries_other : (caller number : ℕ) (bs : List BookEntry) (b : BookEntry) → b.caller ≢ caller → entries_by caller number (bs ++ b ∷ []) ≡ entries_by caller number bs
entries_other caller number bs b apart = entries_push caller number bs b
    ∙ (ap (λ (y : Bool). entries_by caller number bs ++ cond y ((number + length bs, b.message) ∷ []) []) (ne_eqb b.caller caller apart) ∙ append_none (entries_by caller number bs))

entries_own : (caller : ℕ) (bs : List BookEntry) (b : BookEntry) → b.caller ≡ caller → entries_by caller 0 (bs ++ b ∷ []) ≡ entries_by caller 0 bs ++ (length bs, b.message) ∷ []
entries_own caller bs b is = entries_push caller 0 bs b
    ∙ (ap (λ (y : Bool). entries_by caller 0 bs ++ cond y ((0 + length bs, b.message) ∷ []) []) (eq-eqb b.caller caller is)
    ∙ ap (λ (n : ℕ). entries_by caller 0 bs ++ (n, b.message) ∷ []) (let e : 0 + length bs ≡ length bs = omega arith in e))

false-true : false ≡ true → ⊥
false-true e = absurd (cc)

-- what a lane's books say of a caller, where they are as they were
pub sent_same : {D : Type 0} (m : LaneLink (RingState D)) (e : End) (s : RingState D) → s.lane.lane.accepted ≡ (lane_to m e).lane.lane.accepted → (number first : ℕ) (own : List Event) → ((i : End) → SendsAgree m i number first own) → (i : End) → SendsAgree (with_lane m e s) i number first own
sent_same m side.Host s book number first own has side.Host since = ap (entries_by number 0) book ∙ has side.Host since
sent_same m side.Host s book number first own has side.Remote since = has side.Remote since
sent_same m side.Remote s book number first own has side.Host since = has side.Host since
sent_same m side.Remote s book number first own has side.Remote since = ap (entries_by number 0) book ∙ has side.Remote since

pub taken_same : {D : Type 0} (m : LaneLink (RingState D)) (e : End) (s : RingState D) → s.lane.lane.takers ≡ (lane_to m e).lane.lane.takers → (number first : ℕ) (own : List Event) → ((i : End) → TakesAt m i number first own) → (i : End) → TakesAt (with_lane m e s) i number first own
taken_same m side.Host s handed number first own has side.Host since = ap (takes_by number 0) handed ∙ has side.Host since
taken_same m side.Host s handed number first own has side.Remote since = has side.Remote since
taken_same m side.Remote s handed number first own has side.Host since = has side.Host since
taken_same m side.Remote s handed number first own has side.Remote since = ap (takes_by number 0) handed ∙ has side.Remote since

pub later : {D : Type 0} (m : LaneLink (RingState D)) (e : End) (s : RingState D) (number first : ℕ) (own : List Event) → NoneLater m.era.inc own → NoneLater (with_lane m e s).era.inc own
later m side.Host s number first own has = has
later m side.Remote s number first own has = has

pub read_same : {D : Type 0} (m : LaneLink (RingState D)) (e : End) (s : RingState D) → s.lane.lane.accepted ≡ (lane_to m e).lane.lane.accepted → (own : List Event) → ((i : End) → ReadsIn i m.era.inc (lane_to m i).lane.lane.accepted own) → (i : End) → ReadsIn i (with_lane m e s).era.inc (lane_to (with_lane m e s) i).lane.lane.accepted own
read_same m side.Host s book own has side.Host = subst (λ (b : List BookEntry). ReadsIn side.Host m.era.inc b own) (sym book) (has side.Host)
read_same m side.Host s book own has side.Remote = has side.Remote
read_same m side.Remote s book own has side.Host = has side.Host
read_same m side.Remote s book own has side.Remote = subst (λ (b : List BookEntry). ReadsIn side.Remote m.era.inc b own) (sym book) (has side.Remote)

before_more : (book : List BookEntry) (entry : BookEntry) (k : ℕ) → k < length book → message_at book k ≡ message_at (book ++ entry ∷ []) k
before_more [] entry k low = absurd (omega arith)
before_more (b ∷ book) entry zero low = refl
before_more (b ∷ book) entry (suc k) low = before_more book entry k (omega arith)

-- the counts of a lane on which nothing is accepted or handed over
grows_kept : {D : Type 0} (s old : RingState D) → s.lane.lane.accepted ≡ old.lane.lane.accepted → s.lane.lane.takers ≡ old.lane.lane.takers → old.lane.lane.returned ≤ s.lane.lane.returned → Grows old s
grows_kept s old book handed back = let a = ap length book in let h = ap length handed in record { accepted = omega (arith, a); handed = omega (arith, h); returned = back }

-- an entry more leaves what was read
pub read_push : (e : End) (inc : ℕ) (book : List BookEntry) (entry : BookEntry) (own : List Event) → ReadsIn e inc book own → ReadsIn e inc (book ++ entry ∷ []) own
read_push e inc book entry [] has = tt
read_push e inc book entry (Step made ∷ own) has = read_push e inc book entry own has
read_push e inc book entry (Count lane i counts ∷ own) has = read_push e inc book entry own has
read_push e inc book entry (Publish lane i number message ∷ own) has = read_push e inc book entry own has
read_push e inc book entry (Take lane i number message ∷ own) has =
    ((λ here now. let was = has.0 here now in let long = length-append book (entry ∷ []) in let low = was.0 in (omega (arith, low, long), was.1 ∙ before_more book entry number was.0)), read_push e inc book entry own has.1)

pub read_more : {D : Type 0} (m : LaneLink (RingState D)) (e : End) (s : RingState D) (entry : BookEntry) → s.lane.lane.accepted ≡ (lane_to m e).lane.lane.accepted ++ entry ∷ [] → (own : List Event) → ((i : End) → ReadsIn i m.era.inc (lane_to m i).lane.lane.accepted own) → (i : End) → ReadsIn i (with_lane m e s).era.inc (lane_to (with_lane m e s) i).lane.lane.accepted own
read_more m side.Host s entry book own has side.Host = subst (λ (b : List BookEntry). ReadsIn side.Host m.era.inc b own) (sym book) (read_push side.Host m.era.inc m.to_host.lane.lane.accepted entry own (has side.Host))
read_more m side.Host s entry book own has side.Remote = has side.Remote
read_more m side.Remote s entry book own has side.Host = has side.Host
read_more m side.Remote s entry book own has side.Remote = subst (λ (b : List BookEntry). ReadsIn side.Remote m.era.inc b own) (sym book) (read_push side.Remote m.era.inc m.to_remote.lane.lane.accepted entry own (has side.Remote))

-- nothing of a later incarnation was read
read_none : (e : End) (inc next : ℕ) (book : List BookEntry) (own : List Event) → inc < next → NoneLater inc own → ReadsIn e next book own
read_none e inc next book [] later none = tt
read_none e inc next book (Step made ∷ own) later none = read_none e inc next book own later none
read_none e inc next book (Count lane i counts ∷ own) later none = read_none e inc next book own later none.1
read_none e inc next book (Publish lane i number message ∷ own) later none = read_none e inc next book own later none.1
read_none e inc next book (Take lane i number message ∷ own) later none = ((λ here now. let low = none.0 in absurd (omega (arith, low, later, now))), read_none e inc next book own later none.1)

-- the counts of a lane with a message more, or a handing more
grows_published : {D : Type 0} (s old : RingState D) (entry : BookEntry) → s.lane.lane.accepted ≡ old.lane.lane.accepted ++ entry ∷ [] → s.lane.lane.takers ≡ old.lane.lane.takers → s.lane.lane.returned ≡ old.lane.lane.returned → Grows old s
grows_published s old entry book handed back = let more = ap length book ∙ length-append old.lane.lane.accepted (entry ∷ []) in let same = ap length handed in record { accepted = omega (arith, more); handed = omega (arith, same); returned = omega (arith, back) }

published_within : {D : Type 0} (s old : RingState D) (entry : BookEntry) → s.lane.lane.accepted ≡ old.lane.lane.accepted ++ entry ∷ [] → (nth : ℕ) → nth ≡ length old.lane.lane.accepted → IsWithin (counts_published nth) (counts_of (books_of s))
published_within s old entry book nth at = let more = ap length book ∙ length-append old.lane.lane.accepted (entry ∷ []) in record { accepted = omega (arith, more, at); handed = omega arith; returned = omega arith }

grows_taken : {D : Type 0} (s old : RingState D) (c : ℕ) → s.lane.lane.takers ≡ old.lane.lane.takers ++ c ∷ [] → s.lane.lane.accepted ≡ old.lane.lane.accepted → s.lane.lane.returned ≡ old.lane.lane.returned → Grows old s
grows_taken s old c handed book back = let more = ap length handed ∙ length-append old.lane.lane.takers (c ∷ []) in let same = ap length book in record { accepted = omega (arith, same); handed = omega (arith, more); returned = omega (arith, back) }

took_within : {D : Type 0} (s old : RingState D) (c : ℕ) → s.lane.lane.takers ≡ old.lane.lane.takers ++ c ∷ [] → (nth : ℕ) → nth ≡ length old.lane.lane.takers → IsWithin (counts_taken nth) (counts_of (books_of s))
took_within s old c handed nth at = let more = ap length handed ∙ length-append old.lane.lane.takers (c ∷ []) in record { accepted = omega arith; handed = omega (arith, more, at); returned = omega arith }

-- a history that reads the same books, where no buffer comes out again
pub history_kept : {D : Type 0} (m : LaneLink (RingState D)) (e : End) (s : RingState D) → s.lane.lane.accepted ≡ (lane_to m e).lane.lane.accepted → s.lane.lane.takers ≡ (lane_to m e).lane.lane.takers → (lane_to m e).lane.lane.returned ≤ s.lane.lane.returned
    → (number first : ℕ) (own : List Event) → IsHistory m number first own → IsHistory (with_lane m e s) number first own
history_kept m e s book handed back number first own has =
    record { sent = sent_same m e s book number first own has.sent; taken = taken_same m e s handed number first own has.taken; read = read_same m e s book own has.read; none_later = later m e s number first own has.none_later; counts = seen_kept m e s (grows_kept s (lane_to m e) book handed back) own has.counts }

-- and the mover tells of the counts of the lane, in the current incarnation
pub history_counted : {D : Type 0} (m : LaneLink (RingState D)) (e : End) (s : RingState D) → s.lane.lane.accepted ≡ (lane_to m e).lane.lane.accepted → s.lane.lane.takers ≡ (lane_to m e).lane.lane.takers → (lane_to m e).lane.lane.returned ≤ s.lane.lane.returned
    → (number first f : ℕ) (counts : Counted) (own : List Event) → f ≡ m.era.inc → IsWithin (counts_told counts) (counts_of (books_of s)) → IsHistory m number first own → IsHistory (with_lane m e s) number first (Count e f counts ∷ own)
history_counted m e s book handed back number first f counts own now within has = record {
  sent = sent_same m e s book number first own has.sent;
  taken = taken_same m e s handed number first own has.taken;
  read = read_same m e s book own has.read;
  none_later = later m e s number first (Count e f counts ∷ own) (let n = now in omega (arith, n), has.none_later);
  counts = seen_more m e s f (counts_told counts) within (grows_kept s (lane_to m e) book handed back) own has.counts;
}

-- the mover accepts a message in its incarnation, which is the current one
pub history_published : {D : Type 0} (m : LaneLink (RingState D)) (e : End) (s : RingState D) (entry : BookEntry) → s.lane.lane.accepted ≡ (lane_to m e).lane.lane.accepted ++ entry ∷ []
    → (number first f nth : ℕ) (own : List Event) → s.lane.lane.takers ≡ (lane_to m e).lane.lane.takers → s.lane.lane.returned ≡ (lane_to m e).lane.lane.returned → entry.caller ≡ number → f ≡ m.era.inc → nth ≡ length (lane_to m e).lane.lane.accepted
    → IsHistory m number first own → IsHistory (with_lane m e s) number first (Publish e f nth entry.message ∷ own)
history_published {D} m side.Host s entry book number first f nth own handed back is current at has = record {
  sent = λ i. go i;
  taken = taken_same m side.Host s handed number first own has.taken;
  read = read_more m side.Host s entry book own has.read;
  none_later = (let c = current in omega arith, has.none_later);
  counts = seen_more m side.Host s f (counts_published nth) (published_within s (lane_to m side.Host) entry book nth at) (grows_published s (lane_to m side.Host) entry book handed back) own has.counts;
}
  where
    go : (i : End) → SendsAgree (with_lane m side.Host s) i number first (Publish side.Host f nth entry.message ∷ own)
    go side.Host since = ap (entries_by number 0) book ∙ (entries_own number m.to_host.lane.lane.accepted entry is
        ∙ ((λ k. has.sent side.Host since k ++ (sym at k, entry.message) ∷ []) ∙ ap (λ (y : Bool). cond y (sends_in side.Host m.era.inc own ++ (nth, entry.message) ∷ []) (sends_in side.Host m.era.inc own)) (sym (eq-eqb f m.era.inc current))))
    go side.Remote since = has.sent side.Remote since
history_published {D} m side.Remote s entry book number first f nth own handed back is current at has = record {
  sent = λ i. go i;
  taken = taken_same m side.Remote s handed number first own has.taken;
  read = read_more m side.Remote s entry book own has.read;
  none_later = (let c = current in omega arith, has.none_later);
  counts = seen_more m side.Remote s f (counts_published nth) (published_within s (lane_to m side.Remote) entry book nth at) (grows_published s (lane_to m side.Remote) entry book handed back) own has.counts;
}
  where
    go : (i : End) → SendsAgree (with_lane m side.Remote s) i number first (Publish side.Remote f nth entry.message ∷ own)
    go side.Remote since = ap (entries_by number 0) book ∙ (entries_own number m.to_remote.lane.lane.accepted entry is
        ∙ ((λ k. has.sent side.Remote since k ++ (sym at k, entry.message) ∷ []) ∙ ap (λ (y : Bool). cond y (sends_in side.Remote m.era.inc own ++ (nth, entry.message) ∷ []) (sends_in side.Remote m.era.inc own)) (sym (eq-eqb f m.era.inc current))))
    go side.Host since = has.sent side.Host since

-- another accepts a message
pub history_other : {D : Type 0} (m : LaneLink (RingState D)) (e : End) (s : RingState D) (entry : BookEntry) → s.lane.lane.accepted ≡ (lane_to m e).lane.lane.accepted ++ entry ∷ []
    → (number first : ℕ) (own : List Event) → s.lane.lane.takers ≡ (lane_to m e).lane.lane.takers → s.lane.lane.returned ≡ (lane_to m e).lane.lane.returned → entry.caller ≢ number → IsHistory m number first own → IsHistory (with_lane m e s) number first own
history_other m side.Host s entry book number first own handed back apart has = record { sent = λ i. go i; taken = taken_same m side.Host s handed number first own has.taken; read = read_more m side.Host s entry book own has.read; none_later = has.none_later; counts = seen_kept m side.Host s (grows_published s (lane_to m side.Host) entry book handed back) own has.counts }
  where
    go : (i : End) → SendsAgree (with_lane m side.Host s) i number first own
    go side.Host since = ap (entries_by number 0) book ∙ (entries_other number 0 m.to_host.lane.lane.accepted entry apart ∙ has.sent side.Host since)
    go side.Remote since = has.sent side.Remote since
history_other m side.Remote s entry book number first own handed back apart has = record { sent = λ i. go i; taken = taken_same m side.Remote s handed number first own has.taken; read = read_more m side.Remote s entry book own has.read; none_later = has.none_later; counts = seen_kept m side.Remote s (grows_published s (lane_to m side.Remote) entry book handed back) own has.counts }
  where
    go : (i : End) → SendsAgree (with_lane m side.Remote s) i number first own
    go side.Remote since = ap (entries_by number 0) book ∙ (entries_other number 0 m.to_remote.lane.lane.accepted entry apart ∙ has.sent side.Remote since)
    go side.Host since = has.sent side.Host since

-- a close
pub history_shut : {D : Type 0} (m : LaneLink (RingState D)) (inc number first : ℕ) (own : List Event) → m.era.inc ≡ inc → IsHistory m number first own → IsHistory (record m { era = record { inc = inc; is_live = false } }) number first own
history_shut {D} m inc number first own is has = record { sent = λ i. go i; taken = λ i. took i; read = λ i. red i; none_later = subst (λ (n : ℕ). NoneLater n own) is has.none_later; counts = λ i. saw i }
  where
    saw : (i : End) → IsWithin (seen i inc own) (counts_of (books_of (lane_to (record m { era = record { inc = inc; is_live = false } }) i)))
    saw side.Host = subst (λ (n : ℕ). IsWithin (seen side.Host n own) (counts_of (books_of m.to_host))) is (has.counts side.Host)
    saw side.Remote = subst (λ (n : ℕ). IsWithin (seen side.Remote n own) (counts_of (books_of m.to_remote))) is (has.counts side.Remote)

    red : (i : End) → ReadsIn i inc (lane_to (record m { era = record { inc = inc; is_live = false } }) i).lane.lane.accepted own
    red side.Host = subst (λ (n : ℕ). ReadsIn side.Host n m.to_host.lane.lane.accepted own) is (has.read side.Host)
    red side.Remote = subst (λ (n : ℕ). ReadsIn side.Remote n m.to_remote.lane.lane.accepted own) is (has.read side.Remote)

    took : (i : End) → TakesAt (record m { era = record { inc = inc; is_live = false } }) i number first own
    took side.Host since = has.taken side.Host (subst (λ (n : ℕ). first ≤ n) (sym is) since) ∙ ap (λ (n : ℕ). takes_in side.Host n own) is
    took side.Remote since = has.taken side.Remote (subst (λ (n : ℕ). first ≤ n) (sym is) since) ∙ ap (λ (n : ℕ). takes_in side.Remote n own) is

    go : (i : End) → SendsAgree (record m { era = record { inc = inc; is_live = false } }) i number first own
    go side.Host since = has.sent side.Host (subst (λ (n : ℕ). first ≤ n) (sym is) since) ∙ ap (λ (n : ℕ). sends_in side.Host n own) is
    go side.Remote since = has.sent side.Remote (subst (λ (n : ℕ). first ≤ n) (sym is) since) ∙ ap (λ (n : ℕ). sends_in side.Remote n own) is

mine_none : (e : End) (inc next : ℕ) (own : List Event) → inc < next → NoneLater inc own → sends_in e next own ≡ []
mine_none e inc next [] later none = refl
mine_none e inc next (Step made ∷ own) later none = mine_none e inc next own later none
mine_none e inc next (Count lane i counts ∷ own) later none = mine_none e inc next own later none.1
mine_none e inc next (Take lane i number message ∷ own) later none = mine_none e inc next own later none.1
mine_none e inc next (Publish lane i number message ∷ own) later none =
    ap (λ (y : Bool). cond (same_end lane e && y) (sends_in e next own ++ (number, message) ∷ []) (sends_in e next own)) (ne_eqb i next (λ same. let low = none.0 in omega arith))
    ∙ (and_no (same_end lane e) (sends_in e next own ++ (number, message) ∷ []) (sends_in e next own) ∙ mine_none e inc next own later none.1)
  where
    and_no : (b : Bool) (xs ys : List (ℕ × List ℕ)) → cond (b && false) xs ys ≡ ys
    and_no true xs ys = refl
    and_no false xs ys = refl

none_more : (inc next : ℕ) (own : List Event) → inc ≤ next → NoneLater inc own → NoneLater next own
none_more inc next [] more none = tt
none_more inc next (Step made ∷ own) more none = none_more inc next own more none
none_more inc next (Count lane i counts ∷ own) more none = (le_trans none.0 more, none_more inc next own more none.1)
none_more inc next (Publish lane i number message ∷ own) more none = (le_trans none.0 more, none_more inc next own more none.1)
none_more inc next (Take lane i number message ∷ own) more none = (le_trans none.0 more, none_more inc next own more none.1)

took_none : (e : End) (inc next : ℕ) (own : List Event) → inc < next → NoneLater inc own → takes_in e next own ≡ []
took_none e inc next [] later none = refl
took_none e inc next (Step made ∷ own) later none = took_none e inc next own later none
took_none e inc next (Count lane i counts ∷ own) later none = took_none e inc next own later none.1
took_none e inc next (Publish lane i number message ∷ own) later none = took_none e inc next own later none.1
took_none e inc next (Take lane i number message ∷ own) later none =
    ap (λ (y : Bool). cond (same_end lane e && y) (takes_in e next own ++ number ∷ []) (takes_in e next own)) (ne_eqb i next (λ same. let low = none.0 in omega arith))
    ∙ (and_no (same_end lane e) (takes_in e next own ++ number ∷ []) (takes_in e next own) ∙ took_none e inc next own later none.1)
  where
    and_no : (b : Bool) (xs ys : List ℕ) → cond (b && false) xs ys ≡ ys
    and_no true xs ys = refl
    and_no false xs ys = refl

-- the next incarnation: nothing is in its books, and nobody has sent in it
pub history_opened : {D : Type 0} (desk : DeskMeaning D) (m : LaneLink (RingState D)) (number first : ℕ) (own : List Event) → IsHistory m number first own → IsHistory (link_after_opening desk m) number first own
history_opened {D} desk m number first own has = record { sent = λ i. go i; taken = λ i. took i; read = λ i. read_none i m.era.inc (m.era.inc + 1) (lane_to (link_after_opening desk m) i).lane.lane.accepted own (omega arith) has.none_later; none_later = none_more m.era.inc (m.era.inc + 1) own (omega arith) has.none_later; counts = λ i. seen_none i m.era.inc (m.era.inc + 1) own _ (omega arith) has.none_later }
  where
    go : (i : End) → SendsAgree (link_after_opening desk m) i number first own
    go side.Host since = sym (mine_none side.Host m.era.inc (m.era.inc + 1) own (omega arith) has.none_later)
    go side.Remote since = sym (mine_none side.Remote m.era.inc (m.era.inc + 1) own (omega arith) has.none_later)

    took : (i : End) → TakesAt (link_after_opening desk m) i number first own
    took side.Host since = sym (took_none side.Host m.era.inc (m.era.inc + 1) own (omega arith) has.none_later)
    took side.Remote since = sym (took_none side.Remote m.era.inc (m.era.inc + 1) own (omega arith) has.none_later)

takes_push : (caller number : ℕ) (cs : List ℕ) (c : ℕ) → takes_by caller number (cs ++ c ∷ []) ≡ takes_by caller number cs ++ cond (eqb c caller) ((number + length cs) ∷ []) []
takes_push caller number [] c = ap (λ (n : ℕ). cond (eqb c caller) (n ∷ []) []) (let e : number ≡ number + 0 = omega arith in e)
takes_push caller number (x ∷ cs) c =
    ap (λ (l : List ℕ). cond (eqb x caller) (number ∷ l) l)
    (takes_push caller (suc number) cs c ∙ ap (λ (n : ℕ). takes_by caller (suc number) cs ++ cond (eqb c caller) (n ∷ []) []) (let e : suc number + length cs ≡ number + suc (length cs) = omega arith in e))
    ∙ cond_put (eqb x caller) number (takes_by caller (suc number) cs) (cond (eqb c caller) ((number + suc (length cs)) ∷ []) [])
  where
    cond_put : (b : Bool) (n : ℕ) (xs ys : List ℕ) → cond b (n ∷ (xs ++ ys)) (xs ++ ys) ≡ cond b (n ∷ xs) xs ++ ys
    cond_put true n xs ys = refl
    cond_put false n xs ys = refl

takes_own : (caller : ℕ) (cs : List ℕ) (c : ℕ) → c ≡ caller → takes_by caller 0 (cs ++ c ∷ []) ≡ takes_by caller 0 cs ++ length cs ∷ []
takes_own caller cs c is = takes_push caller 0 cs c
    ∙ (ap (λ (y : Bool). takes_by caller 0 cs ++ cond y ((0 + length cs) ∷ []) []) (eq-eqb c caller is) ∙ ap (λ (n : ℕ). takes_by caller 0 cs ++ n ∷ []) (let e : 0 + length cs ≡ length cs = omega arith in e))

takes_other : (caller : ℕ) (cs : List ℕ) (c : ℕ) → c ≢ caller → takes_by caller 0 (cs ++ c ∷ []) ≡ takes_by caller 0 cs
takes_other caller cs c apart = takes_push caller 0 cs c ∙ (ap (λ (y : Bool). takes_by caller 0 cs ++ cond y ((0 + length cs) ∷ []) []) (ne_eqb c caller apart) ∙ append_none (takes_by caller 0 cs))

-- the mover is handed a message in its incarnation, which is the current one
pub history_took : {D : Type 0} (m : LaneLink (RingState D)) (e : End) (s : RingState D) (c : ℕ) → s.lane.lane.takers ≡ (lane_to m e).lane.lane.takers ++ c ∷ [] → s.lane.lane.accepted ≡ (lane_to m e).lane.lane.accepted → s.lane.lane.returned ≡ (lane_to m e).lane.lane.returned
    → (number first f nth : ℕ) (message : List ℕ) (own : List Event) → c ≡ number → f ≡ m.era.inc → nth ≡ length (lane_to m e).lane.lane.takers → (nth < length (lane_to m e).lane.lane.accepted) × (message ≡ message_at (lane_to m e).lane.lane.accepted nth) → IsHistory m number first own → IsHistory (with_lane m e s) number first (Take e f nth message ∷ own)
history_took {D} m side.Host s c handed book back number first f nth message own is current at found has = record {
  sent = λ i. go i;
  taken = λ i. took i;
  read = read_same m side.Host s book (Take side.Host f nth message ∷ own) (λ i. red i);
  none_later = (let x = current in omega arith, has.none_later);
  counts = seen_more m side.Host s f (counts_taken nth) (took_within s (lane_to m side.Host) c handed nth at) (grows_taken s (lane_to m side.Host) c handed book back) own has.counts;
}
  where
    go : (i : End) → SendsAgree (with_lane m side.Host s) i number first (Take side.Host f nth message ∷ own)
    go side.Host since = ap (entries_by number 0) book ∙ has.sent side.Host since
    go side.Remote since = has.sent side.Remote since

    red : (i : End) → ReadsIn i m.era.inc (lane_to m i).lane.lane.accepted (Take side.Host f nth message ∷ own)
    red side.Host = ((λ _ _. found), has.read side.Host)
    red side.Remote = ((λ never _. absurd (false-true never)), has.read side.Remote)

    took : (i : End) → TakesAt (with_lane m side.Host s) i number first (Take side.Host f nth message ∷ own)
    took side.Host since = ap (takes_by number 0) handed ∙ (takes_own number m.to_host.lane.lane.takers c is
        ∙ ((λ k. has.taken side.Host since k ++ sym at k ∷ []) ∙ ap (λ (y : Bool). cond y (takes_in side.Host m.era.inc own ++ nth ∷ []) (takes_in side.Host m.era.inc own)) (sym (eq-eqb f m.era.inc current))))
    took side.Remote since = has.taken side.Remote since
history_took {D} m side.Remote s c handed book back number first f nth message own is current at found has = record {
  sent = λ i. go i;
  taken = λ i. took i;
  read = read_same m side.Remote s book (Take side.Remote f nth message ∷ own) (λ i. red i);
  none_later = (let x = current in omega arith, has.none_later);
  counts = seen_more m side.Remote s f (counts_taken nth) (took_within s (lane_to m side.Remote) c handed nth at) (grows_taken s (lane_to m side.Remote) c handed book back) own has.counts;
}
  where
    go : (i : End) → SendsAgree (with_lane m side.Remote s) i number first (Take side.Remote f nth message ∷ own)
    go side.Remote since = ap (entries_by number 0) book ∙ has.sent side.Remote since
    go side.Host since = has.sent side.Host since

    red : (i : End) → ReadsIn i m.era.inc (lane_to m i).lane.lane.accepted (Take side.Remote f nth message ∷ own)
    red side.Remote = ((λ _ _. found), has.read side.Remote)
    red side.Host = ((λ never _. absurd (false-true never)), has.read side.Host)

    took : (i : End) → TakesAt (with_lane m side.Remote s) i number first (Take side.Remote f nth message ∷ own)
    took side.Remote since = ap (takes_by number 0) handed ∙ (takes_own number m.to_remote.lane.lane.takers c is
        ∙ ((λ k. has.taken side.Remote since k ++ sym at k ∷ []) ∙ ap (λ (y : Bool). cond y (takes_in side.Remote m.era.inc own ++ nth ∷ []) (takes_in side.Remote m.era.inc own)) (sym (eq-eqb f m.era.inc current))))
    took side.Host since = has.taken side.Host since

-- another is handed a message
pub history_handed : {D : Type 0} (m : LaneLink (RingState D)) (e : End) (s : RingState D) (c : ℕ) → s.lane.lane.takers ≡ (lane_to m e).lane.lane.takers ++ c ∷ [] → s.lane.lane.accepted ≡ (lane_to m e).lane.lane.accepted → s.lane.lane.returned ≡ (lane_to m e).lane.lane.returned
    → (number first : ℕ) (own : List Event) → c ≢ number → IsHistory m number first own → IsHistory (with_lane m e s) number first own
history_handed m e s c handed book back number first own apart has =
    record { sent = sent_same m e s book number first own has.sent; taken = λ i. took e handed i (has.taken i); read = read_same m e s book own has.read; none_later = later m e s number first own has.none_later; counts = seen_kept m e s (grows_taken s (lane_to m e) c handed book back) own has.counts }
  where
    took : (e : End) → s.lane.lane.takers ≡ (lane_to m e).lane.lane.takers ++ c ∷ [] → (i : End) → TakesAt m i number first own → TakesAt (with_lane m e s) i number first own
    took side.Host handed side.Host was since = ap (takes_by number 0) handed ∙ (takes_other number m.to_host.lane.lane.takers c apart ∙ was since)
    took side.Host handed side.Remote was since = was since
    took side.Remote handed side.Host was since = was since
    took side.Remote handed side.Remote was since = ap (takes_by number 0) handed ∙ (takes_other number m.to_remote.lane.lane.takers c apart ∙ was since)

-- of a caller that is not in use: the books stay, or another's entry, or another taker, comes in
pub none_same : {D : Type 0} (m : LaneLink (RingState D)) (e : End) (s : RingState D) → s.lane.lane.accepted ≡ (lane_to m e).lane.lane.accepted → s.lane.lane.takers ≡ (lane_to m e).lane.lane.takers → (n : ℕ) → NoneOf m n → NoneOf (with_lane m e s) n
none_same m side.Host s book handed n none side.Host = (ap (entries_by n 0) book ∙ (none side.Host).0, ap (takes_by n 0) handed ∙ (none side.Host).1)
none_same m side.Host s book handed n none side.Remote = none side.Remote
none_same m side.Remote s book handed n none side.Host = none side.Host
none_same m side.Remote s book handed n none side.Remote = (ap (entries_by n 0) book ∙ (none side.Remote).0, ap (takes_by n 0) handed ∙ (none side.Remote).1)

pub none_published : {D : Type 0} (m : LaneLink (RingState D)) (e : End) (s : RingState D) (entry : BookEntry) → s.lane.lane.accepted ≡ (lane_to m e).lane.lane.accepted ++ entry ∷ [] → s.lane.lane.takers ≡ (lane_to m e).lane.lane.takers → (n : ℕ) → entry.caller ≢ n → NoneOf m n → NoneOf (with_lane m e s) n
none_published m side.Host s entry book handed n apart none side.Host = (ap (entries_by n 0) book ∙ (entries_other n 0 m.to_host.lane.lane.accepted entry apart ∙ (none side.Host).0), ap (takes_by n 0) handed ∙ (none side.Host).1)
none_published m side.Host s entry book handed n apart none side.Remote = none side.Remote
none_published m side.Remote s entry book handed n apart none side.Host = none side.Host
none_published m side.Remote s entry book handed n apart none side.Remote = (ap (entries_by n 0) book ∙ (entries_other n 0 m.to_remote.lane.lane.accepted entry apart ∙ (none side.Remote).0), ap (takes_by n 0) handed ∙ (none side.Remote).1)

pub none_handed : {D : Type 0} (m : LaneLink (RingState D)) (e : End) (s : RingState D) (c : ℕ) → s.lane.lane.takers ≡ (lane_to m e).lane.lane.takers ++ c ∷ [] → s.lane.lane.accepted ≡ (lane_to m e).lane.lane.accepted → (n : ℕ) → c ≢ n → NoneOf m n → NoneOf (with_lane m e s) n
none_handed m side.Host s c handed book n apart none side.Host = (ap (entries_by n 0) book ∙ (none side.Host).0, ap (takes_by n 0) handed ∙ (takes_other n m.to_host.lane.lane.takers c apart ∙ (none side.Host).1))
none_handed m side.Host s c handed book n apart none side.Remote = none side.Remote
none_handed m side.Remote s c handed book n apart none side.Host = none side.Host
none_handed m side.Remote s c handed book n apart none side.Remote = (ap (entries_by n 0) book ∙ (none side.Remote).0, ap (takes_by n 0) handed ∙ (takes_other n m.to_remote.lane.lane.takers c apart ∙ (none side.Remote).1))

pub none_opened : {D : Type 0} (desk : DeskMeaning D) (m : LaneLink (RingState D)) (n : ℕ) → NoneOf (link_after_opening desk m) n
none_opened desk m n side.Host = (refl, refl)
none_opened desk m n side.Remote = (refl, refl)

pub none_shut : {D : Type 0} (m : LaneLink (RingState D)) (inc n : ℕ) → NoneOf m n → NoneOf (record m { era = record { inc = inc; is_live = false } }) n
none_shut m inc n none side.Host = none side.Host
none_shut m inc n none side.Remote = none side.Remote

pub none_with : {D : Type 0} (m : LaneLink (RingState D)) (cs : List (Option End)) (n : ℕ) → NoneOf m n → NoneOf (record m { callers = cs }) n
none_with m cs n none side.Host = none side.Host
none_with m cs n none side.Remote = none side.Remote

-- who is in use is not one that is not
pub not_used : (callers : List (Option End)) (c n : ℕ) (e : End) → end_of callers c ≡ Some e → end_of callers n ≡ None → c ≢ n
not_used callers c n e user unused same = none_some (sym unused ∙ (ap (end_of callers) (sym same) ∙ user))
  where
    none_some : None ≡ Some e → ⊥
    none_some x = absurd (cc)
