-- What each command keeps of the account of a link.
use Rattle.std.proofs.Common.{◌≡◌, ℕ, ◌+◌, Bool, true, false, cond, List, [], ◌∷◌, ◌++◌, length, refl, sym, ap, subst, ◌∙◌, arith}
use Rattle.std.proofs.lemmas.Bool.{true≢false}
use Rattle.std.proofs.lemmas.List.{append_assoc, append-nil, length-append}
use Rattle.rp_base.specs.declared.kinds.BoundEndpoint.{BoundEndpoint}
use Rattle.rp_base.specs.declared.kinds.End.{End}
use Rattle.lane_model.specs.Desks.{IsBound}
use Rattle.lane_model.specs.Links.{LinkState}
use Rattle.lane_laws.specs.Handings.{Handing, IsPrefix, messages_of, with_numbers, handed_front, due, got}
use Rattle.lane_laws.specs.Moves.{Close, Move, MayMoves, handings_to, lane_to, link_after_move}
use Rattle.lane_laws.specs.SoundRingLinks.{HasSoundRings}
use Rattle.lane_laws.specs.Takes.{IsTold, moves_takes, way_takes}
use Rattle.lane_laws.specs.Ways.{AreWholeMoves, IsOpened, IsWay, Way, history, link_after_moves, link_of_way, way_on}
use Rattle.lane_laws.proofs.LinkRuns.{judged_after, move_shut}
use Rattle.lane_laws.proofs.RingMoves.{moves_kept}
use Rattle.lane_laws.proofs.Told.{way_told}
use Rattle.lane_laws.proofs.WayFacts.{leads, shut_begins, shut_hands_none, shut_most, told_due, told_once}
use Rattle.channel_bus.specs.Laws.{side_laws}
use Rattle.channel_bus.specs.Sides.{EndState, side_meaning}
use Rattle.link_bench.specs.Benches.{BenchState, LinkRings, link_in}
use Rattle.act_laws.specs.Accounts.{Account, IsAccount, IsLate, new_account, way_to_close, with_deeds}
use Rattle.act_laws.specs.Deeds.{Deeds}
use Rattle.act_laws.proofs.ActLands.{LandsAt}
use Rattle.act_laws.proofs.CalmDeeds.{IsCalm, Open, Silent}
use Rattle.act_laws.proofs.Closes.{ClosedAmong, closed_among, may_front, none_front, stays_live, whole_front}
use Rattle.act_laws.proofs.Lands.{lands_lists, link_both, may_both, takes_both, whole_both}

-- a closed link, by the way up to its close
record ClosedSince (end : End) (account : Account) : Type 0 where
  pub before : Way EndState
  pub inc : ℕ
  pub since : List Move
  pub is_way : IsWay side_meaning (way_to_close before inc)
  pub live : (link_of_way side_meaning before).era.is_live ≡ true
  pub closed : (link_of_way side_meaning (way_to_close before inc)).era.is_live ≡ false
  pub parts : account.way ≡ way_on (way_to_close before inc) since
  pub told : account.told ≡ way_takes side_meaning (way_to_close before inc) end ++ account.late

-- the account of the link of a bench
pub record IsTale (end : End) (bench : BenchState) (account : Account) : Type 0 where
  pub way : IsWay side_meaning account.way
  pub leads : link_of_way side_meaning account.way ≡ link_in bench
  pub told : account.told ≡ way_takes side_meaning account.way end
  none_late : (link_in bench).era.is_live ≡ true → account.late ≡ []
  late : (link_in bench).era.is_live ≡ false → ClosedSince end account

-- ---- a new account

pub new_tale : (end : End) (bench : BenchState) → IsOpened side_meaning (link_in bench) → (link_in bench).era.is_live ≡ true → IsTale end bench (new_account (link_in bench))
new_tale end bench opened live = record {
  way = record { opened = opened; whole = tt; may = tt };
  leads = refl;
  told = refl;
  none_late = λ _. refl;
  late = λ shut. absurd (true≢false (sym live ∙ shut));
}

-- ---- deeds

stays_shut : (link : LinkState EndState) (moves : List Move) → link.era.is_live ≡ false → (link_after_moves side_meaning link moves).era.is_live ≡ false
stays_shut link [] shut = shut
stays_shut link (move ∷ moves) shut = stays_shut (link_after_move side_meaning link move) moves (move_shut side_meaning link move shut).shut

module _ (end : End) (bench : BenchState) (account : Account) (tale : IsTale end bench account) (deeds : Deeds) (calm : IsCalm end deeds) (left : BenchState) (lands : LandsAt bench deeds left) where
  abbrev on : Account
  on = with_deeds end (link_in bench).era.is_live account deeds

  lists : link_after_moves side_meaning (link_in bench) deeds.moves ≡ link_in left
  lists = lands_lists bench.rings deeds left.rings lands

  may_on : MayMoves side_meaning (link_of_way side_meaning account.way) deeds.moves
  may_on = subst (λ (l : LinkState EndState). MayMoves side_meaning l deeds.moves) (sym tale.leads) lands.may

  way_kept : IsWay side_meaning on.way
  way_kept = record {
    opened = tale.way.opened;
    whole = whole_both account.way.moves deeds.moves tale.way.whole lands.whole;
    may = may_both account.way.start account.way.moves deeds.moves tale.way.may may_on;
  }

  leads_on : link_of_way side_meaning on.way ≡ link_in left
  leads_on = link_both account.way.start account.way.moves deeds.moves ∙ ap (λ (l : LinkState EndState). link_after_moves side_meaning l deeds.moves) tale.leads ∙ lists

  takes_on : moves_takes side_meaning (link_of_way side_meaning account.way) deeds.moves end ≡ deeds.takes end
  takes_on = ap (λ (l : LinkState EndState). moves_takes side_meaning l deeds.moves end) tale.leads ∙ lands.takes end

  told_on : on.told ≡ way_takes side_meaning on.way end
  told_on =
      ap (λ (l : List Handing). l ++ deeds.takes end) tale.told
      ∙ ap (λ (l : List Handing). way_takes side_meaning account.way end ++ l) (sym takes_on)
      ∙ sym (takes_both account.way.start account.way.moves deeds.moves end)

  -- ---- the deeds close the link, and tell nothing

  module _ (is : ClosedAmong (link_of_way side_meaning account.way) deeds.moves) (none : deeds.takes end ≡ []) where
    abbrev closing : List Move
    closing = is.front ++ Close is.inc ∷ []

    abbrev until : Way EndState
    until = way_to_close (way_on account.way is.front) is.inc

    same_moves : account.way.moves ++ deeds.moves ≡ until.moves ++ is.since
    same_moves =
        ap (λ (l : List Move). account.way.moves ++ l) is.parts
        ∙ sym (append_assoc account.way.moves is.front (Close is.inc ∷ is.since))
        ∙ sym (append_assoc (account.way.moves ++ is.front) (Close is.inc ∷ []) is.since)

    parts_on : on.way ≡ way_on until is.since
    parts_on = ap (λ (moves : List Move). record { start = account.way.start; moves = moves }) same_moves

    until_is : IsWay side_meaning until
    until_is = record {
      opened = tale.way.opened;
      whole = whole_front until.moves is.since (subst AreWholeMoves same_moves way_kept.whole);
      may = may_front account.way.start until.moves is.since (subst (MayMoves side_meaning account.way.start) same_moves way_kept.may);
    }

    none_closing : moves_takes side_meaning (link_of_way side_meaning account.way) closing end ≡ []
    none_closing =
        none_front _ _
        (sym (takes_both (link_of_way side_meaning account.way) closing is.since end)
        ∙ ap (λ (moves : List Move). moves_takes side_meaning (link_of_way side_meaning account.way) moves end) (append_assoc is.front (Close is.inc ∷ []) is.since ∙ sym is.parts)
        ∙ takes_on ∙ none)

    until_takes : way_takes side_meaning until end ≡ way_takes side_meaning account.way end
    until_takes =
        ap (λ (moves : List Move). moves_takes side_meaning account.way.start moves end) (append_assoc account.way.moves is.front (Close is.inc ∷ []))
        ∙ takes_both account.way.start account.way.moves closing end
        ∙ ap (λ (l : List Handing). way_takes side_meaning account.way end ++ l) none_closing
        ∙ append-nil (way_takes side_meaning account.way end)

    led : (moves : List Move) → link_of_way side_meaning (way_on account.way moves) ≡ link_after_moves side_meaning (link_of_way side_meaning account.way) moves
    led moves = link_both account.way.start account.way.moves moves

    closes_now : (now : Account) → now.way ≡ on.way → now.told ≡ on.told → now.late ≡ [] → ClosedSince end now
    closes_now now same told late = record {
      before = way_on account.way is.front;
      inc = is.inc;
      since = is.since;
      is_way = until_is;
      live = ap (λ (l : LinkState EndState). l.era.is_live) (led is.front) ∙ is.live;
      closed =
          ap (λ (l : LinkState EndState). l.era.is_live)
          (link_both account.way.start (account.way.moves ++ is.front) (Close is.inc ∷ []) ∙ ap (λ (l : LinkState EndState). link_after_move side_meaning l (Close is.inc)) (led is.front))
          ∙ is.closed;
      parts = same ∙ parts_on;
      told =
          told ∙ ap (λ (l : List Handing). account.told ++ l) none ∙ append-nil account.told ∙ tale.told ∙ sym until_takes
          ∙ sym (append-nil (way_takes side_meaning until end)) ∙ ap (λ (l : List Handing). way_takes side_meaning until end ++ l) (sym late);
    }

  -- where the link was live, the deeds closed it, and nothing was told since
  live_late : (now : Account) → now.way ≡ on.way → now.told ≡ on.told → now.late ≡ [] → (link_in bench).era.is_live ≡ true → (link_in left).era.is_live ≡ false → ClosedSince end now
  live_late now same told late live shut = by calm
    where
      was : (link_of_way side_meaning account.way).era.is_live ≡ true
      was = ap (λ (l : LinkState EndState). l.era.is_live) tale.leads ∙ live

      gone : (link_after_moves side_meaning (link_of_way side_meaning account.way) deeds.moves).era.is_live ≡ false
      gone = ap (λ (l : LinkState EndState). l.era.is_live) (ap (λ (l : LinkState EndState). link_after_moves side_meaning l deeds.moves) tale.leads ∙ lists) ∙ shut

      by : IsCalm end deeds → ClosedSince end now
      by (Open closes_none) = absurd (true≢false (sym (stays_live (link_of_way side_meaning account.way) deeds.moves lands.whole closes_none was) ∙ gone))
      by (Silent none) = closes_now (closed_among (link_of_way side_meaning account.way) deeds.moves lands.whole was gone) none now same told late

  shut_late : (now : Account) → now.way ≡ on.way → now.told ≡ on.told → now.late ≡ account.late ++ deeds.takes end → ClosedSince end account → ClosedSince end now
  shut_late now same told late was = record {
    before = was.before;
    inc = was.inc;
    since = was.since ++ deeds.moves;
    is_way = was.is_way;
    live = was.live;
    closed = was.closed;
    parts = same ∙ ap (λ (way : Way EndState). way_on way deeds.moves) was.parts
        ∙ ap (λ (moves : List Move). record { start = was.before.start; moves = moves }) (append_assoc (way_to_close was.before was.inc).moves was.since deeds.moves);
    told = told ∙ ap (λ (l : List Handing). l ++ deeds.takes end) was.told ∙ append_assoc (way_takes side_meaning (way_to_close was.before was.inc) end) account.late (deeds.takes end)
        ∙ ap (λ (l : List Handing). way_takes side_meaning (way_to_close was.before was.inc) end ++ l) (sym late);
  }

  shut_left : (link_in bench).era.is_live ≡ false → (link_in left).era.is_live ≡ false
  shut_left shut = ap (λ (l : LinkState EndState). l.era.is_live) (sym lists) ∙ stays_shut (link_in bench) deeds.moves shut

  none_late_on : (was : Bool) → (link_in bench).era.is_live ≡ was → (link_in left).era.is_live ≡ true → cond was [] (account.late ++ deeds.takes end) ≡ []
  none_late_on true is live = refl
  none_late_on false is live = absurd (true≢false (sym live ∙ shut_left is))

  late_on : (was : Bool) → (link_in bench).era.is_live ≡ was → (link_in left).era.is_live ≡ false → ClosedSince end (with_deeds end was account deeds)
  late_on true is shut = live_late (with_deeds end true account deeds) refl refl refl is shut
  late_on false is shut = shut_late (with_deeds end false account deeds) refl refl refl (tale.late is)

  pub deeds_kept : IsTale end left on
  deeds_kept = record {
    way = way_kept;
    leads = leads_on;
    told = told_on;
    none_late = none_late_on (link_in bench).era.is_live refl;
    late = late_on (link_in bench).era.is_live refl;
  }

-- ---- rings

-- the same of a bench whose rings are sound
pub record IsSoundTale (end : End) (bench : BenchState) (account : Account) : Type 0 where
  pub tale : IsTale end bench account
  pub sound : HasSoundRings bench.rings

pub rings_kept : (bench : BenchState) (deeds : Deeds) (left : BenchState) → LandsAt bench deeds left → HasSoundRings bench.rings → HasSoundRings left.rings
rings_kept bench deeds left lands sound =
    subst (λ (r : LinkRings). HasSoundRings r) lands.leads (moves_kept side_meaning bench.rings deeds.moves lands.whole sound lands.may)

pub sound_kept : (end : End) (bench : BenchState) (account : Account) → IsSoundTale end bench account → (deeds : Deeds) → IsCalm end deeds → (left : BenchState) → LandsAt bench deeds left
    → IsSoundTale end left (with_deeds end (link_in bench).era.is_live account deeds)
sound_kept end bench account is deeds calm left lands = record { tale = deeds_kept end bench account is.tale deeds calm left lands; sound = rings_kept bench deeds left lands is.sound }

-- ---- what the account says

module _ (end : End) (bench : BenchState) (account : Account) (tale : IsTale end bench account) where
  late_of : ClosedSince end account → IsLate end account
  late_of was =
      let until = way_to_close was.before was.inc in
      let on_is : IsWay side_meaning (way_on until was.since) = subst (IsWay side_meaning) was.parts tale.way in
      let same : way_takes side_meaning (way_on until was.since) end ≡ account.told = ap (λ (way : Way EndState). way_takes side_meaning way end) (sym was.parts) ∙ sym tale.told in
      let most = shut_most side_meaning until was.since end was.closed was.is_way on_is in
      let lengths : length (way_takes side_meaning (way_on until was.since) end) ≡ length (way_takes side_meaning until end) + length account.late =
      ap length (same ∙ was.told) ∙ length-append (way_takes side_meaning until end) account.late in
      record {
        before = was.before;
        inc = was.inc;
        since = was.since;
        live = was.live;
        closed = was.closed;
        parts = was.parts;
        told = was.told;
        hands_none = ap (λ (way : Way EndState). handings_to (history side_meaning way) end) was.parts ∙ shut_hands_none side_meaning until was.since end was.closed;
        handed_before = subst (λ (l : List Handing). IsPrefix l (handings_to (history side_meaning until) end)) same (shut_begins side_meaning until was.since end was.closed was.is_way on_is);
        one = omega (arith, most, lengths);
      }

  -- what the way handed over, by the link that it leads to
  abbrev IsHanded : LinkState EndState → Type 0
  IsHanded link = messages_of (handings_to (history side_meaning account.way) end) ≡ with_numbers 0 (handed_front (lane_to link end).lane)

  abbrev IsWhole : LinkState EndState → Type 0
  IsWhole link = (bound : BoundEndpoint) (sender : ℕ) → IsBound side_meaning (lane_to link end).desk bound
      → got bound.endpoint sender (handings_to (history side_meaning account.way) end) ≡ due side_meaning (lane_to link end).desk bound sender (handed_front (lane_to link end).lane)

  leads_to : (history side_meaning account.way).link ≡ link_in bench
  leads_to = leads side_meaning account.way ∙ tale.leads

  pub account_is : IsAccount end (link_in bench) account
  account_is = let judged = judged_after side_meaning side_laws account.way.start account.way.moves end tale.way.opened.new tale.way.may in record {
    way = tale.way;
    leads = tale.leads;
    handed = subst IsHanded leads_to judged.fact.once;
    whole = subst IsWhole leads_to (λ bound sender is. judged.fact.whole bound sender is);
    told = subst (IsTold end (history side_meaning account.way)) (sym tale.told) (way_told side_meaning account.way end tale.way);
    once = subst (λ (l : List Handing). IsPrefix (messages_of l) (with_numbers 0 (handed_front (lane_to (link_in bench) end).lane))) (sym tale.told)
        (subst (λ (link : LinkState EndState). IsPrefix (messages_of (way_takes side_meaning account.way end)) (with_numbers 0 (handed_front (lane_to link end).lane))) tale.leads
        (told_once side_meaning side_laws account.way tale.way end));
    due = λ bound sender was.
        subst (λ (l : List Handing). IsPrefix (got bound.endpoint sender l) (due side_meaning (lane_to (link_in bench) end).desk bound sender (lane_to (link_in bench) end).lane.accepted)) (sym tale.told)
        (subst (λ (link : LinkState EndState). IsPrefix (got bound.endpoint sender (way_takes side_meaning account.way end)) (due side_meaning (lane_to link end).desk bound sender (lane_to link end).lane.accepted)) tale.leads
        (told_due side_meaning side_laws account.way tale.way end bound was sender));
    none_late = tale.none_late;
    late = λ shut. late_of (tale.late shut);
  }
