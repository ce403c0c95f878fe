-- What a pass has seen of the counts of a lane: where the counts grow, a step is noted, or an incarnation begins.
use Rattle.std.proofs.Common.{◌≡◌, ℕ, ◌<◌, Bool, true, false, cond, eqb, ◌&&◌, List, [], ◌∷◌, ◌++◌, refl, sym, subst, arith, le_trans, eq-eqb}
use Rattle.std.proofs.lemmas.Bool.{eqb-true}
use Rattle.std.proofs.Math.Nat.{max-le, le-max_left, le-max_right}
use Rattle.rp_base.specs.declared.kinds.End.{End}
use Rattle.rp_base.specs.declared.kinds.End.TheVariants as side
use Rattle.lane_model.specs.declared.lane_links.LaneLink.{LaneLink}
use Rattle.ring_core.specs.declared.states.RingState.{RingState}
use Rattle.link_words.specs.declared.rule.Counted.{Counted}
use Rattle.link_words.specs.declared.rule.Counted.TheVariants.{Room, Waiting, Gave}
use Rattle.link_words.specs.declared.rule.Event.{Event}
use Rattle.link_words.specs.declared.rule.Event.TheVariants.{Step, Count, Publish, Take}
use Rattle.link_words.specs.Words.{lane_to, with_lane}
use Rattle.link_words.specs.Histories.{same_end, NoneLater, LaneCounts, greatest, IsWithin, counts_told, counts_published, counts_taken, seen, books_of, counts_of, IsNotBelow, NeverBack}
use Rattle.link_words.specs.Rule.{IsHistory}

pub within_trans : (a b c : LaneCounts) → IsWithin a b → IsWithin b c → IsWithin a c
within_trans a b c p q = record { accepted = le_trans p.accepted q.accepted; handed = le_trans p.handed q.handed; returned = le_trans p.returned q.returned }

pub nothing_within : (a : LaneCounts) → IsWithin (record { accepted = 0; handed = 0; returned = 0 }) a
nothing_within a = record { accepted = omega arith; handed = omega arith; returned = omega arith }

-- what a step tells counts where it is of this lane and incarnation
noted_within : (here now : Bool) (new old top : LaneCounts) → IsWithin old top → (here ≡ true → now ≡ true → IsWithin new top) → IsWithin (cond (here && now) (greatest new old) old) top
noted_within true true new old top was is = let told = is refl refl in record { accepted = max-le told.accepted was.accepted; handed = max-le told.handed was.handed; returned = max-le told.returned was.returned }
noted_within true false new old top was is = was
noted_within false now new old top was is = was

-- the state of a lane in which the counts have grown
abbrev pub Grows : {D : Type 0} → RingState D → RingState D → Type 0
Grows s s' = IsWithin (counts_of (books_of s)) (counts_of (books_of s'))

-- what was seen is within what the lanes count
abbrev pub IsSeen : {D : Type 0} → LaneLink (RingState D) → List Event → Type 0
IsSeen m own = (i : End) → IsWithin (seen i m.era.inc own) (counts_of (books_of (lane_to m i)))

pub seen_kept : {D : Type 0} (m : LaneLink (RingState D)) (e : End) (s : RingState D) → Grows (lane_to m e) s → (own : List Event) → IsSeen m own → IsSeen (with_lane m e s) own
seen_kept m side.Host s grows own has side.Host = within_trans _ _ _ (has side.Host) grows
seen_kept m side.Host s grows own has side.Remote = has side.Remote
seen_kept m side.Remote s grows own has side.Host = has side.Host
seen_kept m side.Remote s grows own has side.Remote = within_trans _ _ _ (has side.Remote) grows

-- and with a step more, of this lane
pub seen_more : {D : Type 0} (m : LaneLink (RingState D)) (e : End) (s : RingState D) (f : ℕ) (new : LaneCounts) → IsWithin new (counts_of (books_of s)) → Grows (lane_to m e) s → (own : List Event) → IsSeen m own → (i : End)
    → IsWithin (cond (same_end e i && eqb f (with_lane m e s).era.inc) (greatest new (seen i (with_lane m e s).era.inc own)) (seen i (with_lane m e s).era.inc own)) (counts_of (books_of (lane_to (with_lane m e s) i)))
seen_more m side.Host s f new within grows own has side.Host = noted_within true (eqb f m.era.inc) new (seen side.Host m.era.inc own) _ (within_trans _ _ _ (has side.Host) grows) (λ _ _. within)
seen_more m side.Host s f new within grows own has side.Remote = has side.Remote
seen_more m side.Remote s f new within grows own has side.Host = has side.Host
seen_more m side.Remote s f new within grows own has side.Remote = noted_within true (eqb f m.era.inc) new (seen side.Remote m.era.inc own) _ (within_trans _ _ _ (has side.Remote) grows) (λ _ _. within)

-- nothing of a later incarnation was seen
pub seen_none : (e : End) (inc next : ℕ) (own : List Event) (top : LaneCounts) → inc < next → NoneLater inc own → IsWithin (seen e next own) top
seen_none e inc next [] top later none = nothing_within top
seen_none e inc next (Step made ∷ own) top later none = seen_none e inc next own top later none
seen_none e inc next (Count lane i counts ∷ own) top later none =
    noted_within (same_end lane e) (eqb i next) (counts_told counts) (seen e next own) top (seen_none e inc next own top later none.1) (λ _ now. let low = none.0 in let same = eqb-true i next now in absurd (omega (arith, low, later, same)))
seen_none e inc next (Publish lane i number message ∷ own) top later none =
    noted_within (same_end lane e) (eqb i next) (counts_published number) (seen e next own) top (seen_none e inc next own top later none.1) (λ _ now. let low = none.0 in let same = eqb-true i next now in absurd (omega (arith, low, later, same)))
seen_none e inc next (Take lane i number message ∷ own) top later none =
    noted_within (same_end lane e) (eqb i next) (counts_taken number) (seen e next own) top (seen_none e inc next own top later none.1) (λ _ now. let low = none.0 in let same = eqb-true i next now in absurd (omega (arith, low, later, same)))

-- what a pass has seen in its incarnation, which is the current one
pub seen_now : {D : Type 0} (m : LaneLink (RingState D)) (e : End) (number first f : ℕ) (own : List Event) → f ≡ m.era.inc → IsHistory m number first own → IsWithin (seen e f own) (counts_of (books_of (lane_to m e))) × NoneLater f own
seen_now m e number first f own now has = (subst (λ (i : ℕ). IsWithin (seen e i own) (counts_of (books_of (lane_to m e)))) (sym now) (has.counts e), subst (λ (i : ℕ). NoneLater i own) (sym now) has.none_later)

-- what a step of the list told is within what was seen
within_cond : (b : Bool) (new old told : LaneCounts) → IsWithin told old → IsWithin told (cond b (greatest new old) old)
within_cond true new old told has = record { accepted = le_trans has.accepted (le-max_right new.accepted old.accepted); handed = le_trans has.handed (le-max_right new.handed old.handed); returned = le_trans has.returned (le-max_right new.returned old.returned) }
within_cond false new old told has = has

seen_behind : (e : End) (inc : ℕ) (between before : List Event) (told : LaneCounts) → IsWithin told (seen e inc before) → IsWithin told (seen e inc (between ++ before))
seen_behind e inc [] before told has = has
seen_behind e inc (Step made ∷ es) before told has = seen_behind e inc es before told has
seen_behind e inc (Count lane i counts ∷ es) before told has = within_cond (same_end lane e && eqb i inc) (counts_told counts) (seen e inc (es ++ before)) told (seen_behind e inc es before told has)
seen_behind e inc (Publish lane i number message ∷ es) before told has = within_cond (same_end lane e && eqb i inc) (counts_published number) (seen e inc (es ++ before)) told (seen_behind e inc es before told has)
seen_behind e inc (Take lane i number message ∷ es) before told has = within_cond (same_end lane e && eqb i inc) (counts_taken number) (seen e inc (es ++ before)) told (seen_behind e inc es before told has)

seen_here : (e : End) (inc : ℕ) (new old : LaneCounts) → IsWithin new (cond (same_end e e && eqb inc inc) (greatest new old) old)
seen_here e inc new old = go (same_end e e && eqb inc inc) (here e)
  where
    here : (e : End) → same_end e e && eqb inc inc ≡ true
    here side.Host = eq-eqb inc inc refl
    here side.Remote = eq-eqb inc inc refl

    go : (b : Bool) → b ≡ true → IsWithin new (cond b (greatest new old) old)
    go true is = record { accepted = le-max_left new.accepted old.accepted; handed = le-max_left new.handed old.handed; returned = le-max_left new.returned old.returned }
    go false is = absurd (cc)

-- and so it isn't above what a later step tells
not_below : (told had : LaneCounts) (later : Counted) → IsWithin told had → IsNotBelow had later → IsNotBelow told later
not_below told had (Room accepted returned) within is = (le_trans within.accepted is.0, le_trans within.returned is.1)
not_below told had (Waiting handed accepted) within is = (le_trans within.handed is.0, le_trans within.accepted is.1)
not_below told had (Gave returned) within is = let low = within.returned in let more : had.returned < returned = is in omega (arith, low, more)

pub never_counts : (lane : End) (inc : ℕ) (later earlier : Counted) (between before : List Event) → NeverBack lane inc later (between ++ Count lane inc earlier ∷ before) → IsNotBelow (counts_told earlier) later
never_counts lane inc later earlier between before never =
    not_below (counts_told earlier) _ later (seen_behind lane inc between (Count lane inc earlier ∷ before) (counts_told earlier) (seen_here lane inc (counts_told earlier) (seen lane inc before))) never.not_below

pub never_published : (lane : End) (inc number : ℕ) (message : List ℕ) (later : Counted) (between before : List Event) → NeverBack lane inc later (between ++ Publish lane inc number message ∷ before) → IsNotBelow (counts_published number) later
never_published lane inc number message later between before never =
    not_below (counts_published number) _ later (seen_behind lane inc between (Publish lane inc number message ∷ before) (counts_published number) (seen_here lane inc (counts_published number) (seen lane inc before))) never.not_below

pub never_taken : (lane : End) (inc number : ℕ) (message : List ℕ) (later : Counted) (between before : List Event) → NeverBack lane inc later (between ++ Take lane inc number message ∷ before) → IsNotBelow (counts_taken number) later
never_taken lane inc number message later between before never =
    not_below (counts_taken number) _ later (seen_behind lane inc between (Take lane inc number message ∷ before) (counts_taken number) (seen_here lane inc (counts_taken number) (seen lane inc before))) never.not_below
