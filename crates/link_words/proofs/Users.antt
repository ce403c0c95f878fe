-- The callers in use: what changes where one is made or its number is free.
use Rattle.link_words.specs.declared.codes.DeskTables.{DeskTables}
use Rattle.link_words.specs.PlacedDesks.{PlacedDesk}
use base.Stored.{Coded}
use Rattle.std.proofs.Common.{◌≡◌, ◌≢◌, ◌⊎◌, ℕ, zero, suc, ◌<◌, Bool, true, false, cond, List, [], ◌∷◌, length, refl, sym, ap, ◌∙◌, subst, inl, inr, arith, ne_eqb, ⊎_elim}
use Rattle.std.specs.Prelude.{Option, Some, None, is_none, slice_set, nat_lt}
use Rattle.std.specs.List.{position_or_len}
use Rattle.std.specs.Option.{unwrap_or}
use Rattle.std.proofs.lemmas.Bool.{ltb-true}
use Rattle.rp_base.specs.declared.kinds.End.{End}
use Rattle.rp_base.specs.declared.kinds.End.TheVariants as side
use Rattle.lane_model.specs.declared.lane_links.LaneLink.{LaneLink}
use Rattle.lane_model.specs.declared.states.Holding.{Holding}
use Rattle.lane_model.specs.declared.stages.Turn.{Turn}
use Rattle.lane_model.specs.declared.stages.Turn.TheVariants as turn
use Rattle.lane_model.specs.Lanes.{has_call}
use Rattle.lane_model.specs.Links.{end_of, free_number}
use Rattle.lane_model.specs.Soundness.{IsSoundTurn, AreUsers}
use Rattle.ring_core.specs.declared.states.RingState.{RingState}
use Rattle.link_words.specs.declared.rule.Call.{Call}
use Rattle.link_words.specs.declared.rule.Call.TheVariants.{Idle, Sends, Rests, Reclaims, EndsHeld, Receives, EndsReceive, EndsSend, EndsBoth, Reopens, Gathers}
use Rattle.link_words.specs.declared.rule.Pass.{Pass}
use Rattle.link_words.specs.Words.{lane_to}
use Rattle.link_words.specs.Deeds.{AreManagers, HoldsNothing}
use Rattle.link_words.specs.Histories.{ReadsIn, IsWithin, seen, books_of, counts_of, latest, hands_of}
use Rattle.link_words.proofs.Parts.{SendsAgree, TakesAt}
use Rattle.link_words.specs.Rule.{IsCallOf, HistoryOf, HandsOf, LatestOf, HasCall}

none_some : {A : Type 0} (x : A) → None ≡ Some x → ⊥
none_some x e = absurd (cc)

lt_of : (a b : ℕ) → nat_lt a b ≡ true → a < b
lt_of a b is = ltb-true a b is

abbrev first_free : List (Option End) → ℕ
first_free callers = position_or_len (λ (f : Option End). is_none f) callers

free_there : (callers : List (Option End)) → first_free callers < length callers → end_of callers (first_free callers) ≡ None
free_there [] low = absurd (omega arith)
free_there (None ∷ callers) low = refl
free_there (Some found ∷ callers) low =
    let next : first_free (Some found ∷ callers) ≡ suc (first_free callers) = omega arith in
    ap (end_of (Some found ∷ callers)) next ∙ free_there callers (omega (arith, low, next))

-- the number of the next caller is not in use
pub free_is : (callers : List (Option End)) (n : ℕ) → free_number callers ≡ Some n → (end_of callers n ≡ None) × (n < length callers)
free_is callers n is = go (nat_lt (first_free callers) (length callers)) refl is
  where
    go : (b : Bool) → nat_lt (first_free callers) (length callers) ≡ b → cond b (Some (first_free callers)) None ≡ Some n → (end_of callers n ≡ None) × (n < length callers)
    go true low found = let same : first_free callers ≡ n = ap (λ (o : Option ℕ). unwrap_or o 0) found in let below = lt_of (first_free callers) (length callers) low in
        (subst (λ (k : ℕ). end_of callers k ≡ None) same (free_there callers below), subst (λ (k : ℕ). k < length callers) same below)
    go false low found = absurd (none_some n found)

pub end_here : (callers : List (Option End)) (n : ℕ) (x : Option End) → n < length callers → end_of (slice_set callers n x) n ≡ x
end_here [] n x low = absurd (omega arith)
end_here (c ∷ callers) zero x low = refl
end_here (c ∷ callers) (suc n) x low = end_here callers n x (omega arith)

pub end_else : (callers : List (Option End)) (n k : ℕ) (x : Option End) → n ≢ k → end_of (slice_set callers n x) k ≡ end_of callers k
end_else [] n k x apart = refl
end_else (c ∷ callers) zero zero x apart = absurd (apart refl)
end_else (c ∷ callers) zero (suc k) x apart = refl
end_else (c ∷ callers) (suc n) zero x apart = refl
end_else (c ∷ callers) (suc n) (suc k) x apart = end_else callers n k x (λ same. apart (ap suc same))

managers_with : {B : Type 0} {kc : Coded B} {kz : DeskTables} (m : LaneLink (RingState (PlacedDesk kc kz))) (cs : List (Option End)) → AreManagers m → AreManagers (record m { callers = cs })
managers_with m cs a = record { host_sender = a.host_sender; host_receiver = a.host_receiver; remote_sender = a.remote_sender; remote_receiver = a.remote_receiver }

-- a call, a history and hands stand where their caller is in use as it was
pub call_with : {B : Type 0} {kc : Coded B} {kz : DeskTables} (m : LaneLink (RingState (PlacedDesk kc kz))) (cs : List (Option End)) (p k : ℕ) (call : Call) → end_of cs k ≡ end_of m.callers k → IsCallOf m p k call → IsCallOf (record m { callers = cs }) p k call
call_with m cs p k Idle same has = has
call_with m cs p k (Rests side.Host) same has = (same ∙ has.0, has.1, has.2)
call_with m cs p k (Rests side.Remote) same has = (same ∙ has.0, has.1, has.2)
call_with m cs p k (Sends side.Host t x b) same has = (same ∙ has.0, has.1, has.2)
call_with m cs p k (Sends side.Remote t x b) same has = (same ∙ has.0, has.1, has.2)
call_with m cs p k (EndsSend side.Host t x b) same has = (same ∙ has.0, has.1, has.2, has.3)
call_with m cs p k (EndsSend side.Remote t x b) same has = (same ∙ has.0, has.1, has.2, has.3)
call_with m cs p k (EndsBoth side.Host t x b y) same has = (same ∙ has.0, has.1, has.2, has.3, has.4, has.5)
call_with m cs p k (EndsBoth side.Remote t x b y) same has = (same ∙ has.0, has.1, has.2, has.3, has.4, has.5)
call_with m cs p k (Receives side.Host t x b msg) same has = (same ∙ has.0, has.1, has.2)
call_with m cs p k (Receives side.Remote t x b msg) same has = (same ∙ has.0, has.1, has.2)
call_with m cs p k (EndsReceive side.Host t x b msg) same has = (same ∙ has.0, has.1, has.2)
call_with m cs p k (EndsReceive side.Remote t x b msg) same has = (same ∙ has.0, has.1, has.2)
call_with m cs p k (Reclaims side.Host x) same has = (same ∙ has.0, has.1, has.2, has.3, has.4)
call_with m cs p k (Reclaims side.Remote x) same has = (same ∙ has.0, has.1, has.2, has.3, has.4)
call_with m cs p k (EndsHeld side.Host x) same has = (same ∙ has.0, has.1, has.2, has.3, has.4, has.5)
call_with m cs p k (EndsHeld side.Remote x) same has = (same ∙ has.0, has.1, has.2, has.3, has.4, has.5)
call_with m cs p k (Reopens q inc a b) same has = (has.0, has.1, (has.2.0, managers_with m cs has.2.1), has.3, has.4, has.5, has.6)
call_with m cs p k (Gathers a b) same has = has

pub history_with : {B : Type 0} {kc : Coded B} {kz : DeskTables} (m : LaneLink (RingState (PlacedDesk kc kz))) (cs : List (Option End)) (q : Pass) → HistoryOf m q → HistoryOf (record m { callers = cs }) q
history_with m cs q has = record { sent = λ i. go i; taken = λ i. took i; read = λ i. red i; none_later = has.none_later; counts = λ i. saw i }
  where
    saw : (i : End) → IsWithin (seen i m.era.inc q.own) (counts_of (books_of (lane_to (record m { callers = cs }) i)))
    saw side.Host = has.counts side.Host
    saw side.Remote = has.counts side.Remote

    red : (i : End) → ReadsIn i m.era.inc (lane_to (record m { callers = cs }) i).lane.lane.accepted q.own
    red side.Host = has.read side.Host
    red side.Remote = has.read side.Remote

    took : (i : End) → TakesAt (record m { callers = cs }) i q.number q.first q.own
    took side.Host since = has.taken side.Host since
    took side.Remote since = has.taken side.Remote since

    go : (i : End) → SendsAgree (record m { callers = cs }) i q.number q.first q.own
    go side.Host since = has.sent side.Host since
    go side.Remote since = has.sent side.Remote since

pub hands_with : {B : Type 0} {kc : Coded B} {kz : DeskTables} (m : LaneLink (RingState (PlacedDesk kc kz))) (cs : List (Option End)) (q : Pass) → end_of cs q.number ≡ end_of m.callers q.number → HandsOf m q → HandsOf (record m { callers = cs }) q
hands_with m cs q same has side.Host user = has side.Host (sym same ∙ user)
hands_with m cs q same has side.Remote user = has side.Remote (sym same ∙ user)

-- a number that is not in use has no turn and holds nothing
pub unused_turn : {C : Type 0} (callers : List (Option End)) (e : End) (t : Turn C) (n : ℕ) → end_of callers n ≡ None → IsSoundTurn callers e t → has_call t n ≡ false
unused_turn callers e turn.Free n unused sound = refl
unused_turn callers e (turn.Taken c x) n unused sound = ne_eqb c n (λ same. none_some e (sym unused ∙ (ap (end_of callers) (sym same) ∙ sound)))
unused_turn callers e (turn.Leaving c x) n unused sound = ne_eqb c n (λ same. none_some e (sym unused ∙ (ap (end_of callers) (sym same) ∙ sound)))
unused_turn callers e turn.Manager n unused sound = refl

pub unused_hands : (callers : List (Option End)) (e : End) (n : ℕ) (held : List Holding) → end_of callers n ≡ None → AreUsers callers e held → hands_of n held ≡ []
unused_hands callers e n [] unused users = refl
unused_hands callers e n (h ∷ hs) unused users =
    ap (λ (y : Bool). cond y (h.number ∷ hands_of n hs) (hands_of n hs)) (ne_eqb h.caller n (λ same. none_some e (sym unused ∙ (ap (end_of callers) (sym same) ∙ users.0)))) ∙ unused_hands callers e n hs unused users.1

-- who is in a call, or rests, is in use, or is the manager
pub in_use : {B : Type 0} {kc : Coded B} {kz : DeskTables} (m : LaneLink (RingState (PlacedDesk kc kz))) (p k : ℕ) (call : Call) → IsCallOf m p k call → (k ≡ 64) ⊎ ((e : End) × (end_of m.callers k ≡ Some e))
in_use m p k Idle has = inl has
in_use m p k (Rests e) has = inr (e, has.0)
in_use m p k (Sends e t x b) has = inr (_, has.0)
in_use m p k (EndsSend e t x b) has = inr (_, has.0)
in_use m p k (EndsBoth e t x b y) has = inr (_, has.0)
in_use m p k (Receives e t x b msg) has = inr (e, has.0)
in_use m p k (EndsReceive e t x b msg) has = inr (e, has.0)
in_use m p k (Reclaims e x) has = inr (e, has.0)
in_use m p k (EndsHeld e x) has = inr (e, has.0)
in_use m p k (Reopens q inc a b) has = inl has.0
in_use m p k (Gathers a b) has = inl has.0

-- a number in use is one of those there are
pub in_range : (callers : List (Option End)) (n : ℕ) (e : End) → end_of callers n ≡ Some e → n < length callers
in_range [] n e is = absurd (cc)
in_range (c ∷ cs) zero e is = omega arith
in_range (c ∷ cs) (suc n) e is = let low = in_range cs n e is in omega (arith, low)

-- what is said of who holds something, of a caller in use
pub user_latest : {D : Type 0} (m : LaneLink (RingState D)) (q : Pass) (e : End) → end_of m.callers q.number ≡ Some e → length m.callers ≡ 64 → LatestOf m q → (q.hands ≡ []) ⊎ (latest q.own ≡ m.era.inc)
user_latest m q e user many has = ⊎_elim (λ (own : q.number ≡ 64). let low = in_range m.callers q.number e user in absurd (omega (arith, low, own, many))) (λ (x : (q.hands ≡ []) ⊎ (latest q.own ≡ m.era.inc)). x) has

-- where nothing is held, no caller holds anything
pub nothing_latest : {B : Type 0} {kc : Coded B} {kz : DeskTables} (m m' : LaneLink (RingState (PlacedDesk kc kz))) (p : ℕ) (q : Pass) → HoldsNothing m → HasCall m p q → HandsOf m q → LatestOf m' q
nothing_latest m m' p q none call has = ⊎_elim (λ (own : q.number ≡ 64). inl own) (λ (x : (e : End) × (end_of m.callers q.number ≡ Some e)). inr (inl (sym (has x.0 x.1) ∙ ap (hands_of q.number) (empty x.0)))) (in_use m p q.number q.call call)
  where
    empty : (e : End) → (lane_to m e).lane.lane.held ≡ []
    empty side.Host = none.0
    empty side.Remote = none.1
