-- The parts of a reopening.
use Rattle.std.proofs.Common.{◌≡◌, ◌+◌, ◌*◌, ◌-◌, ◌<◌, ◌≤◌, ℕ, zero, suc, cond, eqb, List, [], ◌∷◌, ◌++◌, map, length, get_or, replicate, append-nil, length-append, refl, sym, ap, ◌∙◌, subst, inl, inr, ⊎_elim, arith}
use Rattle.std.specs.Option.{option_map, option_or}
use Rattle.lane_model.specs.declared.recoveries.ReopenFault.{ReopenFault}
use Rattle.lane_model.specs.declared.recoveries.ReopenFault.TheVariants as fault
use Rattle.std.specs.Prelude.{◌⊎◌, IfNone, Err, Option, Some, None, not, nat_lt, fold, Bool, true, false}
use Rattle.rp_base.specs.declared.kinds.Era.{Era}
use Rattle.lane_model.specs.Desks.{DeskMeaning}
use Rattle.lane_model.specs.Links.{end_of}
use Rattle.ring_core.specs.declared.states.Hand.{Hand}
use Rattle.link_words.specs.declared.rule.Event.{Event}
use Rattle.link_words.specs.PlacedDesks.{IsRightTo}
use Rattle.link_words.specs.Seats.{LearnsEra}
use mathlib.Core.Option.{some, some-injective, some-ne-none}
use lib.ListN.{get_elem?}
use base.Stored.{Coded}
use Rattle.rp_base.specs.declared.kinds.End.{End}
use Rattle.rp_base.specs.declared.kinds.End.TheVariants as side
use Rattle.ring_core.specs.Rings.{entry_of, opened_returns, return_count}
use Rattle.link_words.specs.declared.rule.Call.{Call}
use Rattle.link_words.specs.declared.rule.Call.TheVariants.{Gathers, Reopens}
use Rattle.link_words.specs.declared.rule.LaneSides.{LaneSides}
use Rattle.link_words.specs.declared.rule.LinkSizes.{LinkSizes}
use Rattle.link_words.specs.declared.rule.Pass.{Pass}
use Rattle.link_words.specs.declared.rule.ReceiverSide.{ReceiverSide}
use Rattle.link_words.specs.declared.rule.SenderSide.{SenderSide}
use Rattle.link_words.specs.declared.rule.Slot.{Slot}
use Rattle.link_words.specs.declared.rule.View.{View}
use Rattle.link_words.specs.Calls.{SeatState, with_pass_at, call_at}
use Rattle.link_words.specs.declared.codes.DeskRight.{DeskRight}
use Rattle.link_words.specs.Fresh.{fresh_of, opened_sender, opened_receiver}
use Rattle.link_words.specs.Histories.{LaneBooks, HasHistory}
use Rattle.link_words.specs.Layouts.{layout, place_in}
use Rattle.link_words.specs.Passes.{with_call, place_of_number}
use Rattle.link_words.specs.Reopens.{AreInUse, ManagerAt, both_sides, opened_sides, opened_view, OpensEra, right_by, lesser_hand, least_hand, manager_place, manager_call, sides_of, books_by, AreBooksOf, MayBegin, MayOpen, MayReset, BeginsReopening, ResetsWord, reopens_or, gathers_or}
use Rattle.link_words.specs.Sides.{no_sides, sides_at}
use Rattle.link_words.specs.Words.{entry_word, era_word, words_in}
use native.Mathlib.Decide.{dec_lt}
use Rattle.link_words.proofs.Apart.{found_apart}
use Rattle.link_words.proofs.ManagerTold.{index_place_is, entry_reset_is}
use Rattle.split_ring.specs.Gathers.{called_view, IsCalling}
use Rattle.split_ring.specs.Openings.{opened_entries, opened_words, IsOpenable}
use Rattle.split_ring.specs.Reopens.{all_slots, HasAll, HasNoneBeside, next_view, refusal_from, IsReopening}
use Rattle.split_ring.proofs.Apart.{lane_entries, entries_length}
use Rattle.split_ring.proofs.Gathering.{manager_at, calls_next, same_place, call_again}

true-false : true ≡ false → ⊥
true-false e = absurd (cc)

-- the words that a reopening resets are those of a new link behind its first six
pub fresh_words : (z : LinkSizes) → 0 ∷ (z.first * 2 + 1) ∷ 0 ∷ 0 ∷ 0 ∷ 0 ∷ fresh_of z ≡ opened_words z
fresh_words z =
    let first : return_count z.to_host 0 ≡ z.to_host.capacity - z.to_host.own = omega arith in
    let last : return_count z.to_remote 0 ≡ z.to_remote.capacity - z.to_remote.own = omega arith in
    let rest = lane_entries z.to_host (map entry_word (replicate z.to_remote.entries (entry_of 0)) ++ (map entry_word (opened_returns z.to_remote) ++ []))
    ∙ ap (λ (l : List ℕ). opened_entries z.to_host ++ l) (lane_entries z.to_remote [] ∙ append-nil (opened_entries z.to_remote)) in
    λ i. 0 ∷ (z.first * 2 + 1) ∷ 0 ∷ 0 ∷ 0 ∷ 0 ∷ 0 ∷ first i ∷ 0 ∷ last i ∷ rest i

found_in : (l : List ℕ) (k : ℕ) → k < length l → get_elem? l k ≡ some (get_or l k 0)
found_in [] k low = absurd (omega (arith, low))
found_in (x ∷ xs) zero low = refl
found_in (x ∷ xs) (suc k) low = found_in xs k (let l : suc k < suc (length xs) = low in omega (arith, l))

-- the word of a new link at the place of such a word
pub fresh_at : (z : LinkSizes) (words : List ℕ) (number place : ℕ) → words ≡ layout (opened_words z) → place ≡ place_in (6 + number) → number < length (fresh_of z) → get_elem? (fresh_of z) number ≡ some (get_or words place 0)
fresh_at z words number place are at low =
    let there : get_or words place 0 ≡ get_or (opened_words z) (6 + number) 0 = (λ i. get_or (are i) (at i) 0) ∙ found_apart 10 (opened_words z) (6 + number) in
    let six : 6 + number ≡ suc (suc (suc (suc (suc (suc number))))) = omega arith in
    let behind : get_or (opened_words z) (6 + number) 0 ≡ get_or (fresh_of z) number 0 = λ i. get_or (sym (fresh_words z) i) (six i) 0 in
    found_in (fresh_of z) number low ∙ ap some (sym (there ∙ behind))

-- the passes are the same where the manager's own is in its call
pub same_passes : (me : SeatState) (call : Call) → ManagerAt me call → with_pass_at (λ q. with_call q call) (place_of_number 64 me.0.passes) me.0.passes ≡ me.0.passes
same_passes me call at = same_call (place_of_number 64 me.0.passes) me.0.passes at.mover.pass (ap (get_elem? me.0.passes) (sym at.here) ∙ at.mover.here) at.in_call
  where
    same_call : (k : ℕ) (ps : List Pass) (p : Pass) → get_elem? ps k ≡ some p → p.call ≡ call → with_pass_at (λ q. with_call q call) k ps ≡ ps
    same_call k [] p here is = refl
    same_call zero (q ∷ ps) p here is = ap (λ (c : Call). with_call q c ∷ ps) (sym is ∙ ap (λ (x : Pass). x.call) (sym (some-injective q p here)))
    same_call (suc k) (q ∷ ps) p here is = ap (λ (l : List Pass). q ∷ l) (same_call k ps p here is)

-- the manager has no turn itself, and has looked at the era
pub rests_looked : (me me1 : SeatState) (b : Bool) → ManagerAt me (Gathers no_sides no_sides) → me1 ≡ (record me.0 { is_closed = b }, me.1) → HasNoneBeside me.1 (record me.0 { is_closed = b }) me1
rests_looked me me1 b at told = let same = same_passes me (Gathers no_sides no_sides) at in record {
  manager = at.mover.pass;
  here = ap (get_elem? me.0.passes) (sym at.here) ∙ at.mover.here;
  number = at.number;
  is = told ∙ ((λ i. (record me.0 { is_closed = b; passes = sym same i }, me.1)) ∙ (λ i. (called_view (record me.0 { is_closed = b }) (Gathers no_sides no_sides) (ap (λ (s : SeatState). s.0.copy) (sym told) i), me.1)));
}

-- what its seat is then, by a view whose passes are the same
pub none_seat : (me : SeatState) (v : View) (slots : List (ℕ × Slot)) (me1 : SeatState) → ManagerAt me (Gathers no_sides no_sides) → me.0.passes ≡ v.passes → HasNoneBeside slots v me1 → me1 ≡ (record v { copy = me1.0.copy }, slots)
none_seat me v slots me1 at passes none = none.is ∙ (λ i. (record v { copy = me1.0.copy; passes = same i }, slots))
  where
    same : with_pass_at (λ q. with_call q (Gathers no_sides no_sides)) (place_of_number 64 v.passes) v.passes ≡ v.passes
    same = subst (λ (ps : List Pass). with_pass_at (λ q. with_call q (Gathers no_sides no_sides)) (place_of_number 64 ps) ps ≡ ps) passes (same_passes me (Gathers no_sides no_sides) at)

-- the manager's call, by its place
pub manager_calls : (v : View) (call : Call) (slots : List (ℕ × Slot)) (me : SeatState) → IsCalling v call slots me → manager_call me ≡ call
manager_calls v call slots me c = let k = place_of_number 64 v.passes in
    (λ i. call_at (place_of_number 64 (c.is i).0.passes) (c.is i).0.passes) ∙ (ap (λ (j : ℕ). call_at j (with_pass_at (λ p. with_call p call) k v.passes)) (same_place 64 call k v.passes) ∙ called k v.passes c.manager c.here)
  where
    called : (k : ℕ) (ps : List Pass) (p : Pass) → get_elem? ps k ≡ some p → call_at k (with_pass_at (λ q. with_call q call) k ps) ≡ call
    called k [] p here = absurd (some-ne-none p (sym here))
    called zero (q ∷ ps) p here = refl
    called (suc k) (q ∷ ps) p here = called k ps p here

-- books that are told of a view are told of it but for the manager's own call
pub books_at : (v : View) (call : Call) (slots : List (ℕ × Slot)) (me : SeatState) (told : End → LaneBooks) → IsCalling v call slots me → AreBooksOf me.0 told → AreBooksOf v told
books_at v call slots me told c books =
    let k = place_of_number 64 v.passes in let all : AreBooksOf (called_view v call me.0.copy) told = subst (λ (s : SeatState). AreBooksOf s.0 told) c.is books in
    record {
      own = λ i q there. let kept = pass_kept k i v.passes q there in subst (λ (t : ℕ × ℕ × List Event). HasHistory v.inc told t.0 t.1 t.2) (λ j. (kept.2 j, kept.3 j, kept.4 j)) (all.own i kept.0 kept.1);
      unused = all.unused;
      ended = all.ended;
      back = all.back;
    }
  where
    pass_kept : (k i : ℕ) (ps : List Pass) (q : Pass) → get_elem? ps i ≡ some q → (p : Pass) × (get_elem? (with_pass_at (λ q. with_call q call) k ps) i ≡ some p) × (p.number ≡ q.number) × (p.first ≡ q.first) × (p.own ≡ q.own)
    pass_kept k i [] q there = absurd (some-ne-none q (sym there))
    pass_kept zero zero (p ∷ ps) q there = let same = some-injective p q there in (with_call p call, refl, ap (λ (x : Pass). x.number) same, ap (λ (x : Pass). x.first) same, ap (λ (x : Pass). x.own) same)
    pass_kept zero (suc i) (p ∷ ps) q there = (q, there, refl, refl, refl)
    pass_kept (suc k) zero (p ∷ ps) q there = (q, there, refl, refl, refl)
    pass_kept (suc k) (suc i) (p ∷ ps) q there = pass_kept k i ps q there

-- a reopening may begin
pub may_begin : (v : View) (x u : SenderSide) (y w : ReceiverSide) (me : SeatState) → HasAll v x y u w me → y.hands ≡ [] → w.hands ≡ [] → MayBegin me
may_begin v x u y w me all host remote = record {
  host_sender = x;
  host_receiver = y;
  remote_sender = u;
  remote_receiver = w;
  at = manager_at v (Gathers (both_sides x y) (both_sides u w)) all_slots me all;
  none_held = (host, remote);
}

-- the era that the manager found
pub found_era : (me me' : SeatState) (n : ℕ) (found : Era) → LearnsEra me n me' → ((era : Era) → n ≡ era_word era → era.inc < 4294967296 → found ≡ era) → (live : Bool) → found.is_live ≡ live
    → (found ≡ record { inc = me.0.inc; is_live = live }) × (found.inc < 4294967296) × (me' ≡ (record me.0 { is_closed = not live }, me.1))
found_era me me' n found told reads live is =
    let same : found ≡ told.0 = reads told.0 told.1 told.2 in let inc : found.inc ≡ me.0.inc = ap (λ (e : Era). e.inc) same ∙ told.4 in let lives : told.0.is_live ≡ live = ap (λ (e : Era). e.is_live) (sym same) ∙ is in
    ((λ i. record { inc = inc i; is_live = is i }), subst (λ (e : Era). e.inc < 4294967296) (sym same) told.2, told.3 ∙ (λ i. (record me.0 { is_closed = not (lives i) }, me.1)))

-- an era that was found live was not known closed
pub unknown_before : (me me' : SeatState) (n : ℕ) (found : Era) → LearnsEra me n me' → ((era : Era) → n ≡ era_word era → era.inc < 4294967296 → found ≡ era) → found.is_live ≡ true → me.0.is_closed ≡ false
unknown_before me me' n found told reads live = go me.0.is_closed refl
  where
    go : (b : Bool) → me.0.is_closed ≡ b → b ≡ false
    go true is = absurd (true-false (sym live ∙ (ap (λ (e : Era). e.is_live) (reads told.0 told.1 told.2) ∙ told.5 is)))
    go false is = refl

-- no hand is the least of none
some_least : (hands : List Hand) (h : Hand) → (k : Hand) × (fold lesser_hand (Some h) hands ≡ Some k)
some_least [] h = (h, refl)
some_least (x ∷ hands) h = go (nat_lt x.number h.number) (some_least hands x) (some_least hands h)
  where
    go : (less : Bool) → (k : Hand) × (fold lesser_hand (Some x) hands ≡ Some k) → (k : Hand) × (fold lesser_hand (Some h) hands ≡ Some k) → (k : Hand) × (fold lesser_hand (cond less (Some x) (Some h)) hands ≡ Some k)
    go true a b = a
    go false a b = b

none_some : {A : Type 0} (x : A) → None ≡ Some x → ⊥
none_some x e = absurd (cc)

pub none_least : (hands : List Hand) → least_hand hands ≡ None → hands ≡ []
none_least [] none = refl
none_least (x ∷ hands) none = let k = some_least hands x in absurd (none_some k.0 (sym none ∙ k.1))

-- a reopening has begun
pub has_begun : (v : View) (x u : SenderSide) (y w : ReceiverSide) (n : ℕ) (me me1 : SeatState) → HasAll v x y u w me → me.0.is_closed ≡ true → BeginsReopening me n me1
    → IsCalling v (Reopens 0 v.inc (both_sides x y) (both_sides u w)) all_slots me1 × AreBooksOf v (λ e. books_by (sides_at e (both_sides x y) (both_sides u w)))
has_begun v x u y w n me me1 all closed told =
    let call : Call = Gathers (both_sides x y) (both_sides u w) in let shut = told.4 closed in let t = told.5 shut in
    let inc : told.0.inc ≡ v.inc = told.2 ∙ ap (λ (s : SeatState). s.0.inc) all.is in
    let begun = calls_next v call (λ c. gathers_or c (Reopens 0 told.0.inc) c) all_slots me.1 me me1 all t.0 in
    let here : manager_call me ≡ call = manager_calls v call all_slots me all in (
      subst (λ (t : ℕ × List (ℕ × Slot)). IsCalling v (Reopens 0 t.0 (both_sides x y) (both_sides u w)) t.1 me1) (λ i. (inc i, ap (λ (s : SeatState). s.1) all.is i)) begun,
      books_at v call all_slots me _ all (subst (λ (c : Call). AreBooksOf me.0 (λ e. books_by (sides_of c e))) here t.1),
    )

-- the next incarnation is opened
pub has_opened : {D : Type 0} (coded : Coded D) (meaning : DeskMeaning D) (z : LinkSizes) (v : View) (n inc : ℕ) (x u : SenderSide) (y w : ReceiverSide) (slots : List (ℕ × Slot)) (me me1 : SeatState) → me.0.sizes ≡ z
    → IsCalling v (Reopens n inc (both_sides x y) (both_sides u w)) slots me → OpensEra coded meaning me me1
    → (d : D) × (i : D) × IsRightTo coded z.desks y.desk d × IsRightTo coded z.desks w.desk i
    × IsCalling (next_view v) (Gathers (opened_sides z.book (record y.desk { code = coded.code (meaning.fresh d) })) (opened_sides z.book (record w.desk { code = coded.code (meaning.fresh i) }))) slots me1
has_opened {D} coded meaning z v n inc x u y w slots me me1 sized calls told =
    let call : Call = Reopens n inc (both_sides x y) (both_sides u w) in let here : manager_call me ≡ call = manager_calls v call slots me calls in
    let t : (d : D) × (i : D) × IsRightTo coded me.0.sizes.desks y.desk d × IsRightTo coded me.0.sizes.desks w.desk i
    × (me1 ≡ (opened_view me.0 (manager_place me) (record y.desk { code = coded.code (meaning.fresh d) }) (record w.desk { code = coded.code (meaning.fresh i) }) me1.0.copy, me.1))
    = subst (λ (c : Call). let host = right_by (sides_of c side.Host).receiver in let remote = right_by (sides_of c side.Remote).receiver in
    (d : D) × (i : D) × IsRightTo coded me.0.sizes.desks host d × IsRightTo coded me.0.sizes.desks remote i
    × (me1 ≡ (opened_view me.0 (manager_place me) (record host { code = coded.code (meaning.fresh d) }) (record remote { code = coded.code (meaning.fresh i) }) me1.0.copy, me.1))) here told in
    let host = record y.desk { code = coded.code (meaning.fresh t.0) } in let remote = record w.desk { code = coded.code (meaning.fresh t.1) } in
    let k = place_of_number 64 v.passes in let now : ℕ → Call = λ book. Gathers (opened_sides book host) (opened_sides book remote) in
    let sizes : v.sizes ≡ z = ap (λ (s : SeatState). s.0.sizes) (sym calls.is) ∙ sized in
    let before = with_pass_at (λ p. with_call p call) k v.passes in
    let passes : with_pass_at (λ p. with_call p (now v.sizes.book)) (place_of_number 64 before) before ≡ with_pass_at (λ p. with_call p (now z.book)) k v.passes
    = ap (λ (j : ℕ). with_pass_at (λ p. with_call p (now v.sizes.book)) j before) (same_place 64 call k v.passes) ∙ (call_again (λ _. now v.sizes.book) call k v.passes ∙ (λ i. with_pass_at (λ p. with_call p (now (sizes i).book)) k v.passes)) in (
      t.0,
      t.1,
      subst (λ (s : LinkSizes). IsRightTo coded s.desks y.desk t.0) sized t.2,
      subst (λ (s : LinkSizes). IsRightTo coded s.desks w.desk t.1) sized t.3,
      record {
        manager = calls.manager;
        here = calls.here;
        number = calls.number;
        is = t.4 ∙ ((λ i. (opened_view (calls.is i).0 (place_of_number 64 (calls.is i).0.passes) host remote me1.0.copy, (calls.is i).1))
            ∙ (λ i. (record (next_view v) { copy = me1.0.copy; passes = passes i }, slots)));
      },
    )

-- where all is reset, the era may be opened
pub may_open : (z : LinkSizes) (v : View) (inc : ℕ) (x u : SenderSide) (y w : ReceiverSide) (slots : List (ℕ × Slot)) (me : SeatState) → IsCalling v (Reopens (length (fresh_of z)) inc (both_sides x y) (both_sides u w)) slots me → me.0.sizes ≡ z → inc + 1 < 4294967296 → MayOpen inc me
may_open z v inc x u y w slots me calls sized more = record {
  number = length (fresh_of z);
  host_sender = x;
  host_receiver = y;
  remote_sender = u;
  remote_receiver = w;
  at = manager_at v (Reopens (length (fresh_of z)) inc (both_sides x y) (both_sides u w)) slots me calls;
  all = ap (λ (k : LinkSizes). length (fresh_of k)) (sym sized);
  more = more;
}

-- all words are reset
abbrev pub ResetsAll : LinkSizes → SeatState → SeatState → Type 0
ResetsAll z me me' = (v : View) (inc : ℕ) (a b : LaneSides) (slots : List (ℕ × Slot)) → IsCalling v (Reopens 0 inc a b) slots me → IsCalling v (Reopens (length (fresh_of z)) inc a b) slots me'

-- a reopening up to its last word
pub was_reset : (z : LinkSizes) (v : View) (inc n : ℕ) (x u : SenderSide) (y w : ReceiverSide) (me me1 me2 : SeatState) → HasAll v x y u w me → me.0.is_closed ≡ true → v.inc ≡ inc → BeginsReopening me n me1 → ResetsAll z me1 me2
    → IsCalling v (Reopens (length (fresh_of z)) inc (both_sides x y) (both_sides u w)) all_slots me2
was_reset z v inc n x u y w me me1 me2 all closed same told resets =
    subst (λ (k : ℕ). IsCalling v (Reopens (length (fresh_of z)) k (both_sides x y) (both_sides u w)) all_slots me2) same
    (resets v v.inc (both_sides x y) (both_sides u w) all_slots (has_begun v x u y w n me me1 all closed told).0)

-- with the side states that are left then
pub has_next : (v : View) (book : ℕ) (host remote : DeskRight) (x u : SenderSide) (y w : ReceiverSide) (me : SeatState) → IsCalling v (Gathers (opened_sides book host) (opened_sides book remote)) all_slots me
    → x ≡ opened_sender book → y ≡ opened_receiver book host → u ≡ opened_sender book → w ≡ opened_receiver book remote → HasAll v x y u w me
has_next v book host remote x u y w me calls x_is y_is u_is w_is =
    subst (λ (t : SenderSide × ReceiverSide × SenderSide × ReceiverSide). HasAll v t.0 t.1 t.2 t.3 me) (λ i. (sym x_is i, sym y_is i, sym u_is i, sym w_is i)) calls

-- how many words are reset, and where they stand
pub fresh_many : (z : LinkSizes) → IsOpenable z → length (fresh_of z) ≡ (z.to_host.entries + z.to_remote.entries) * 2 + 4
fresh_many z opens =
    let whole = ap (λ (l : List ℕ). length l) (fresh_words z) in let hosts = entries_length z.to_host opens.to_host.1 in let remotes = entries_length z.to_remote opens.to_remote.1 in
    let both = length-append (opened_entries z.to_host) (opened_entries z.to_remote) in
    let front : length (0 ∷ (z.first * 2 + 1) ∷ 0 ∷ 0 ∷ 0 ∷ 0 ∷ fresh_of z) ≡ length (fresh_of z) + 6 = omega arith in
    let behind : length (opened_words z) ≡ length (opened_entries z.to_host ++ opened_entries z.to_remote) + 10 = omega arith in
    omega (arith, whole, hosts, remotes, both, front, behind)

pub reset_low : (z : LinkSizes) (n : ℕ) → n < (z.to_host.entries + z.to_remote.entries) * 2 + 4 → place_in (6 + n) < words_in z
reset_low z n low = elim (dec_lt n 4) [
  | yes small ↦ let is = index_place_is n small in omega (arith, is, low, small)
  | no big ↦ let is = entry_reset_is n (let e : 4 ≤ n = omega (arith, big) in e) in omega (arith, is, low)
]

-- one word more is reset
pub reset_next : (v : View) (number inc : ℕ) (a b : LaneSides) (slots : List (ℕ × Slot)) (me me1 : SeatState) → IsCalling v (Reopens number inc a b) slots me → ResetsWord me me1 → IsCalling v (Reopens (number + 1) inc a b) slots me1
reset_next v number inc a b slots me me1 calls told =
    let one = calls_next v (Reopens number inc a b) (λ c. reopens_or c (λ q i s t. Reopens (suc q) i s t) c) slots me.1 me me1 calls told in
    let next : suc number ≡ number + 1 = omega arith in
    subst (λ (t : ℕ × List (ℕ × Slot)). IsCalling v (Reopens t.0 inc a b) t.1 me1) (λ i. (next i, ap (λ (s : SeatState). s.1) calls.is i)) one

-- and may be, as it is in a new link
pub may_reset : (z : LinkSizes) (v : View) (number inc new place : ℕ) (a b : LaneSides) (slots : List (ℕ × Slot)) (words : List ℕ) (me : SeatState) → IsCalling v (Reopens number inc a b) slots me → me.0.sizes ≡ z → words ≡ layout (opened_words z)
    → place ≡ place_in (6 + number) → number < length (fresh_of z) → new ≡ get_or words place 0 → MayReset number new me
may_reset z v number inc new place a b slots words me calls sized are at low is = record {
  inc = inc;
  to_host = a;
  to_remote = b;
  at = manager_at v (Reopens number inc a b) slots me calls;
  fresh = subst (λ (s : LinkSizes). get_elem? (fresh_of s) number ≡ some new) (sym sized) (fresh_at z words number place are at low ∙ ap some (sym is));
}

-- what follows where there is none
pub if_none : {A : Type 0} (o : Option A) {P Q : Type 0} → (P → Q) → IfNone o P → IfNone o Q
if_none None f has = f has
if_none (Some x) f has = has

abbrev held_fault : Hand → ReopenFault
held_fault h = fault.StillHeld h.caller h.number

abbrev or_else : {A : Type 0} → A → Option A → A
or_else a None = a
or_else a (Some b) = b

-- a refusal is that something is held, or that there is no next incarnation
which_fault : (o : Option Hand) (last : Bool) (f : ReopenFault) → option_or (option_map held_fault o) (cond last (Some fault.IncarnationsSpent) None) ≡ Some f → ((h : Hand) × (f ≡ held_fault h) × (o ≡ Some h)) ⊎ (f ≡ fault.IncarnationsSpent)
which_fault (Some h) last f is = inl (h, ap (λ (k : Option ReopenFault). or_else f k) (sym is), refl)
which_fault None true f is = inr (ap (λ (k : Option ReopenFault). or_else f k) (sym is))
which_fault None false f is = absurd (none_some f is)

-- the hand of the least number is one of them
least_from : (hands : List Hand) (x k : Hand) → fold lesser_hand (Some x) hands ≡ Some k → (x ≡ k) ⊎ ((i : ℕ) × (get_elem? hands i ≡ some k))
least_from [] x k is = inl (ap (or_else x) is)
least_from (y ∷ hands) x k is = go (nat_lt y.number x.number) is (least_from hands y k) (least_from hands x k)
  where
    go : (less : Bool) → fold lesser_hand (cond less (Some y) (Some x)) hands ≡ Some k → (fold lesser_hand (Some y) hands ≡ Some k → (y ≡ k) ⊎ ((i : ℕ) × (get_elem? hands i ≡ some k)))
        → (fold lesser_hand (Some x) hands ≡ Some k → (x ≡ k) ⊎ ((i : ℕ) × (get_elem? hands i ≡ some k))) → (x ≡ k) ⊎ ((i : ℕ) × (get_elem? (y ∷ hands) i ≡ some k))
    go true found a b = ⊎_elim (λ (same : y ≡ k). inr (0, ap some same)) (λ (t : (i : ℕ) × (get_elem? hands i ≡ some k)). inr (suc t.0, t.1)) (a found)
    go false found a b = ⊎_elim (λ (same : x ≡ k). inl same) (λ (t : (i : ℕ) × (get_elem? hands i ≡ some k)). inr (suc t.0, t.1)) (b found)

least_in : (hands : List Hand) (k : Hand) → least_hand hands ≡ Some k → (i : ℕ) × (get_elem? hands i ≡ some k)
least_in [] k is = absurd (none_some k is)
least_in (x ∷ hands) k is = ⊎_elim (λ (same : x ≡ k). (0, ap some same)) (λ (t : (i : ℕ) × (get_elem? hands i ≡ some k)). (suc t.0, t.1)) (least_from hands x k is)

-- who holds the message of the least number is in use
holder_in_use : (v : View) (host remote : List Hand) (h : Hand) → AreInUse v side.Host host → AreInUse v side.Remote remote → option_or (least_hand host) (least_hand remote) ≡ Some h → (e : End) × (end_of v.users h.caller ≡ Some e)
holder_in_use v host remote h hosts remotes is = go (least_hand host) refl is
  where
    go : (o : Option Hand) → least_hand host ≡ o → option_or o (least_hand remote) ≡ Some h → (e : End) × (end_of v.users h.caller ≡ Some e)
    go (Some x) least found = let at = least_in host h (least ∙ found) in (side.Host, hosts at.0 h at.1)
    go None least found = let at = least_in remote h found in (side.Remote, remotes at.0 h at.1)

pub refused_is : {D : Type 0} (coded : Coded D) (meaning : DeskMeaning D) (v : View) (x u : SenderSide) (y w : ReceiverSide) (before : SeatState) (f : ReopenFault) (v' : View) → HasAll (record v { is_closed = true }) x y u w before
    → AreInUse v side.Host y.hands → AreInUse v side.Remote w.hands → refusal_from y.hands w.hands v.inc ≡ Some f → v' ≡ record v { is_closed = true; copy = v'.copy } → IsReopening coded meaning v (Err f) v'
refused_is coded meaning v x u y w before f v' all hosts remotes is view = ⊎_elim
    (λ (t : (h : Hand) × (f ≡ held_fault h) × (option_or (least_hand y.hands) (least_hand w.hands) ≡ Some h)).
    subst (λ (k : ReopenFault). IsReopening coded meaning v (Err k) v') (sym t.1) (x, y, u, w, before, all, is ∙ ap Some t.1, view, holder_in_use v y.hands w.hands t.0 hosts remotes t.2))
    (λ (t : f ≡ fault.IncarnationsSpent). subst (λ (k : ReopenFault). IsReopening coded meaning v (Err k) v') (sym t) (x, y, u, w, before, all, is ∙ ap Some t, view))
    (which_fault (option_or (least_hand y.hands) (least_hand w.hands)) (eqb v.inc 4294967295) f is)
