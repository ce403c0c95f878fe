-- What is told of takes is what was handed over: all but what a taker is yet to be told, or the one that a reclaim took away.
use Rattle.std.proofs.Common.{◌≡◌, ◌≤◌, ℕ, ◌+◌, ◌==◌, length, Bool, true, false, cond, Option, Some, None, List, [], ◌∷◌, ◌++◌, slice_get, sym, ap, subst, ◌∙◌, arith}
use Rattle.std.proofs.lemmas.Bool.{true≢false, ne_eqb}
use Rattle.std.proofs.lemmas.List.{append-nil, append_assoc, length_push}
use Rattle.rp_base.specs.declared.kinds.End.{End}
use Rattle.rp_base.specs.declared.kinds.End.TheVariants as side
use Rattle.lane_model.specs.declared.states.BookEntry.{BookEntry}
use Rattle.lane_model.specs.declared.states.LaneState.{LaneState}
use Rattle.lane_model.specs.declared.stages.Receiving.{Receiving}
use Rattle.lane_model.specs.declared.stages.Turn.{Turn}
use Rattle.lane_model.specs.declared.stages.Turn.TheVariants as turn
use Rattle.rp_base.specs.declared.kinds.Verdict.{Verdict}
use Rattle.lane_model.specs.declared.calls.CallEnd.{CallEnd}
use Rattle.lane_model.specs.declared.calls.CallEnd.TheVariants as end
use Rattle.lane_model.specs.declared.calls.Outcome.TheVariants as outcome
use Rattle.lane_model.specs.Desks.{DeskMeaning}
use Rattle.lane_model.specs.Links.{LinkState}
use Rattle.lane_model.specs.Soundness.{SoundLink}
use Rattle.lane_laws.specs.Handings.{Handing, handing_of, told_handing, handed_by}
use Rattle.lane_laws.specs.Moves.{Move, link_after_move, lane_to, MayMoves, Recorded, no_handings, handings_to, after_move, after_moves, IsEmptyLane}
use Rattle.lane_laws.proofs.LaneFacts.{none_handed}
use Rattle.lane_laws.proofs.LinkRuns.{move_shut, move_sound}
use Rattle.lane_laws.specs.Ways.{IsOpened, AreWholeMoves, Way, IsWay, history}
use Rattle.lane_laws.specs.Takes.{outcome_handing, move_takes, moves_takes, way_takes, IsTold, Level, Lost}
use Rattle.lane_laws.proofs.LaneTells.{IsPlain, IsSteady, IsSilent, AreSilent, LaneTell, Same, Plain, Hands, Tells, Ends, LinkTells, left_tells, link_tells}

-- the same of one lane
data LaneTold (live : Bool) (book : List BookEntry) (now : Turn Receiving) (handings told : List Handing) : Type 0 where
  LevelOn : handings ≡ told ++ told_handing book now → LaneTold live book now handings told
  LostOn : (lost : Handing) → live ≡ false → told_handing book now ≡ [] → handings ≡ told ++ lost ∷ [] → LaneTold live book now handings told

-- what the told are, with what keeps them so
record LaneHeard {D : Type 0} (live : Bool) (state : LaneState D) (handings told : List Handing) : Type 0 where
  pub heard : LaneTold live state.lane.accepted state.receiver handings told
  pub steady : IsSteady state.lane.accepted state.receiver

plain_steady : (book : List BookEntry) (now : Turn Receiving) → IsPlain now → IsSteady book now
plain_steady book now plain = λ more. plain (book ++ more) ∙ sym (plain book)

-- the equations of one lane-step, made of those of its parts
same_lists : {A : Type 0} {a b c d : List A} → a ≡ b → c ≡ d → a ++ c ≡ b ++ d
same_lists {A} {a} {b} {c} {d} first second = ap (λ l. l ++ c) first ∙ ap (λ l. b ++ l) second

-- where nothing is handed over and what is yet to be told stays
kept_told : (live live_after : Bool) (book book_after : List BookEntry) (now now_after : Turn Receiving) (handings told : List Handing) → (live ≡ false → live_after ≡ false) → told_handing book_after now_after ≡ told_handing book now
    → LaneTold live book now handings told → LaneTold live_after book_after now_after handings told
kept_told live live_after book book_after now now_after handings told shut same (LevelOn is) = LevelOn (is ∙ ap (λ l. told ++ l) (sym same))
kept_told live live_after book book_after now now_after handings told shut same (LostOn lost closed none is) = LostOn lost (shut closed) (same ∙ none) is

-- where who is to leave its turn tells
tells_told : (live live_after : Bool) (book book_after : List BookEntry) (now now_after : Turn Receiving) (handings told : List Handing) → (live ≡ false → live_after ≡ false) → IsPlain now_after
    → LaneTold live book now handings told → LaneTold live_after book_after now_after handings (told ++ told_handing book now)
tells_told live live_after book book_after now now_after handings told shut plain (LevelOn is) =
    LevelOn (is ∙ sym (append-nil (told ++ told_handing book now)) ∙ ap (λ l. (told ++ told_handing book now) ++ l) (sym (plain book_after)))
tells_told live live_after book book_after now now_after handings told shut plain (LostOn lost closed none is) =
    LostOn lost (shut closed) (plain book_after) (is ∙ ap (λ l. l ++ lost ∷ []) (sym (append-nil told) ∙ ap (λ l. told ++ l) (sym none)))

-- where a message is handed over, which is live alone, nothing was yet to be told
hands_told : (live_after : Bool) (book book_after : List BookEntry) (now now_after : Turn Receiving) (handings told : List Handing) → IsPlain now
    → LaneTold true book now handings told → LaneTold live_after book_after now_after (handings ++ told_handing book_after now_after) told
hands_told live_after book book_after now now_after handings told plain (LevelOn is) =
    LevelOn (ap (λ l. l ++ told_handing book_after now_after) (is ∙ ap (λ l. told ++ l) (plain book) ∙ append-nil told))
hands_told live_after book book_after now now_after handings told plain (LostOn lost closed none is) = absurd (true≢false closed)

-- where a turn is ended in a closed incarnation, what was yet to be told is lost
lost_at : (live_after : Bool) (book_after : List BookEntry) (now_after : Turn Receiving) (handings told left : List Handing) → live_after ≡ false → IsPlain now_after → length left ≤ 1
    → handings ≡ told ++ left → LaneTold live_after book_after now_after handings told
lost_at live_after book_after now_after handings told [] shut plain one is = LevelOn (is ∙ ap (λ l. told ++ l) (sym (plain book_after)))
lost_at live_after book_after now_after handings told (lost ∷ []) shut plain one is = LostOn lost shut (plain book_after) is
lost_at live_after book_after now_after handings told (lost ∷ other ∷ more) shut plain one is = absurd (omega (arith, one))

handing_one : (found : Option BookEntry) (number : ℕ) (judged : Verdict) → length (handing_of found number judged) ≤ 1
handing_one None number judged = omega arith
handing_one (Some entry) number judged = omega arith

left_one : (book : List BookEntry) (caller : ℕ) (ended : CallEnd) → length (outcome_handing book (outcome.Ended ended)) ≤ 1
left_one book caller (end.Sent number) = omega arith
left_one book caller (end.Took number judged) = handing_one (slice_get book number) number judged
left_one book caller (end.Gave number) = omega arith
left_one book caller (end.Bound endpoint) = omega arith
left_one book caller (end.Unbound endpoint) = omega arith
left_one book caller (end.Busy other) = omega arith
left_one book caller (end.Dead era) = omega arith
left_one book caller (end.NoBuffer accepted returned) = omega arith
left_one book caller (end.BookFull accepted) = omega arith
left_one book caller (end.Empty accepted) = omega arith
left_one book caller (end.Refused why) = omega arith

pub at_most_one : (book : List BookEntry) (now : Turn Receiving) → length (told_handing book now) ≤ 1
at_most_one book turn.Free = omega arith
at_most_one book (turn.Taken caller call) = omega arith
at_most_one book (turn.Leaving caller ended) = subst (λ (l : List Handing). length l ≤ 1) (left_tells book caller ended) (left_one book caller ended)
at_most_one book turn.Manager = omega arith

ends_told : (live live_after : Bool) (book book_after : List BookEntry) (now now_after : Turn Receiving) (handings told : List Handing) → live_after ≡ false → IsPlain now_after
    → LaneTold live book now handings told → LaneTold live_after book_after now_after handings told
ends_told live live_after book book_after now now_after handings told shut plain (LevelOn is) =
    lost_at live_after book_after now_after handings told (told_handing book now) shut plain (at_most_one book now) is
ends_told live live_after book book_after now now_after handings told shut plain (LostOn lost closed none is) = LostOn lost shut (plain book_after) is

-- with one taker more something was handed over
one_more : {D : Type 0} (before after : LaneState D) (caller : ℕ) → after.lane.takers ≡ before.lane.takers ++ caller ∷ [] → handed_by before after ≡ told_handing after.lane.accepted after.receiver
one_more before after caller takers =
    let more : length after.lane.takers ≡ length before.lane.takers + 1 = ap length takers ∙ length_push before.lane.takers caller in
    let unequal : (length after.lane.takers == length before.lane.takers) ≡ false = ne_eqb _ _ (λ equal. omega (arith, more, equal)) in
    ap (λ (b : Bool). cond b [] (told_handing after.lane.accepted after.receiver)) unequal

module _ {D : Type 0} (live live_after : Bool) (before after : LaneState D) (handings told told_now : List Handing) (shut : live ≡ false → live_after ≡ false) (heard : LaneHeard live before handings told) where
  -- no handing, and none told
  quietly : after.lane.takers ≡ before.lane.takers → told_now ≡ [] → LaneTold live_after after.lane.accepted after.receiver handings told
      → LaneTold live_after after.lane.accepted after.receiver (handings ++ handed_by before after) (told ++ told_now)
  quietly takers none is =
      subst (λ (l : List Handing). LaneTold live_after after.lane.accepted after.receiver l (told ++ told_now)) (sym (none_handed before after handings takers))
      (subst (λ (l : List Handing). LaneTold live_after after.lane.accepted after.receiver handings l) (sym (ap (λ l. told ++ l) none ∙ append-nil told)) is)

  heard_on : LaneTell live before after told_now → LaneHeard live_after after (handings ++ handed_by before after) (told ++ told_now)
  heard_on (Same more turn_is book takers none) =
      let same : told_handing after.lane.accepted after.receiver ≡ told_handing before.lane.accepted before.receiver
      = ap (told_handing after.lane.accepted) turn_is ∙ ap (λ (b : List BookEntry). told_handing b before.receiver) book ∙ heard.steady more in
      record {
        heard = quietly takers none (kept_told live live_after before.lane.accepted after.lane.accepted before.receiver after.receiver handings told shut same heard.heard);
        steady = λ other.
            ap (told_handing (after.lane.accepted ++ other)) turn_is
            ∙ ap (λ (b : List BookEntry). told_handing b before.receiver) (ap (λ b. b ++ other) book ∙ append_assoc before.lane.accepted more other)
            ∙ heard.steady (more ++ other) ∙ sym same;
      }
  heard_on (Plain was is takers none) = record {
    heard = quietly takers none (kept_told live live_after before.lane.accepted after.lane.accepted before.receiver after.receiver handings told shut (is after.lane.accepted ∙ sym (was before.lane.accepted)) heard.heard);
    steady = plain_steady after.lane.accepted after.receiver is;
  }
  heard_on (Hands caller lives was steady takers none) = record {
    heard =
        subst (λ (l : List Handing). LaneTold live_after after.lane.accepted after.receiver (handings ++ l) (told ++ told_now)) (sym (one_more before after caller takers))
        (subst (λ (l : List Handing). LaneTold live_after after.lane.accepted after.receiver (handings ++ told_handing after.lane.accepted after.receiver) l) (sym (ap (λ l. told ++ l) none ∙ append-nil told))
        (hands_told live_after before.lane.accepted after.lane.accepted before.receiver after.receiver handings told was
        (subst (λ (b : Bool). LaneTold b before.lane.accepted before.receiver handings told) lives heard.heard)));
    steady = steady;
  }
  heard_on (Tells plain takers is) = record {
    heard =
        subst (λ (l : List Handing). LaneTold live_after after.lane.accepted after.receiver l (told ++ told_now)) (sym (none_handed before after handings takers))
        (subst (λ (l : List Handing). LaneTold live_after after.lane.accepted after.receiver handings (told ++ l)) (sym is)
        (tells_told live live_after before.lane.accepted after.lane.accepted before.receiver after.receiver handings told shut plain heard.heard));
    steady = plain_steady after.lane.accepted after.receiver plain;
  }
  heard_on (Ends closed plain takers none) = record {
    heard = quietly takers none (ends_told live live_after before.lane.accepted after.lane.accepted before.receiver after.receiver handings told (shut closed) plain heard.heard);
    steady = plain_steady after.lane.accepted after.receiver plain;
  }

-- ---- moves, one after the other

-- what is closed stays so
stays_shut : {D : Type 0} (desk : DeskMeaning D) (link : LinkState D) (move : Move) → link.era.is_live ≡ false → (link_after_move desk link move).era.is_live ≡ false
stays_shut desk link move shut = (move_shut desk link move shut).shut

-- a sound link of one of whose lanes these are the told
pub record HeardAt {D : Type 0} (end : End) (now : Recorded D) (told : List Handing) : Type 0 where
  pub sound : SoundLink now.link
  pub silent : AreSilent now.link
  lane : LaneHeard now.link.era.is_live (lane_to now.link end) (handings_to now end) told

lane_heard : {D : Type 0} (desk : DeskMeaning D) (end : End) (now : Recorded D) (move : Move) (told : List Handing) → LinkTells now.link (link_after_move desk now.link move) (move_takes desk now.link move)
    → LaneHeard now.link.era.is_live (lane_to now.link end) (handings_to now end) told
    → LaneHeard (after_move desk now move).link.era.is_live (lane_to (after_move desk now move).link end) (handings_to (after_move desk now move) end) (told ++ move_takes desk now.link move end)
lane_heard desk side.Host now move told tells heard =
    heard_on now.link.era.is_live (link_after_move desk now.link move).era.is_live now.link.to_host (link_after_move desk now.link move).to_host now.to_host told (move_takes desk now.link move side.Host)
    (stays_shut desk now.link move) heard tells.to_host.tell
lane_heard desk side.Remote now move told tells heard =
    heard_on now.link.era.is_live (link_after_move desk now.link move).era.is_live now.link.to_remote (link_after_move desk now.link move).to_remote now.to_remote told (move_takes desk now.link move side.Remote)
    (stays_shut desk now.link move) heard tells.to_remote.tell

pub moves_heard : {D : Type 0} (desk : DeskMeaning D) (end : End) (now : Recorded D) (moves : List Move) (told : List Handing) → AreWholeMoves moves → MayMoves desk now.link moves → HeardAt end now told
    → HeardAt end (after_moves desk now moves) (told ++ moves_takes desk now.link moves end)
moves_heard desk end now [] told whole may heard = subst (HeardAt end now) (sym (append-nil told)) heard
moves_heard desk end now (move ∷ moves) told whole may heard =
    let tells = link_tells desk now.link move whole.0 heard.sound heard.silent may.0 in
    subst (HeardAt end (after_moves desk (after_move desk now move) moves)) (append_assoc told (move_takes desk now.link move end) (moves_takes desk (link_after_move desk now.link move) moves end))
    (moves_heard desk end (after_move desk now move) moves (told ++ move_takes desk now.link move end) whole.1 may.1 (record {
      sound = move_sound desk now.link move heard.sound may.0;
      silent = record { to_host = tells.to_host.silent heard.silent.to_host; to_remote = tells.to_remote.silent heard.silent.to_remote };
      lane = lane_heard desk end now move told tells heard.lane;
    }))

free_silent : {D : Type 0} (state : LaneState D) → IsEmptyLane state → IsSilent state.sender
free_silent state empty = subst IsSilent (sym empty.sender) tt

empty_heard : {D : Type 0} (live : Bool) (state : LaneState D) → IsEmptyLane state → LaneHeard live state [] []
empty_heard live state empty =
    let plain : IsPlain state.receiver = λ book. ap (told_handing book) empty.receiver in
    record { heard = LevelOn (sym (plain state.lane.accepted)); steady = plain_steady state.lane.accepted state.receiver plain }

opened_lane_heard : {D : Type 0} (desk : DeskMeaning D) (end : End) (start : LinkState D) → IsOpened desk start → LaneHeard start.era.is_live (lane_to start end) (handings_to (no_handings start) end) []
opened_lane_heard desk side.Host start opened = empty_heard start.era.is_live start.to_host opened.to_host
opened_lane_heard desk side.Remote start opened = empty_heard start.era.is_live start.to_remote opened.to_remote

is_told : {D : Type 0} (end : End) (now : Recorded D) (told : List Handing) → HeardAt end now told → IsTold end now told
is_told {D} end now told heard = which heard.lane.heard
  where
    which : LaneTold now.link.era.is_live (lane_to now.link end).lane.accepted (lane_to now.link end).receiver (handings_to now end) told → IsTold end now told
    which (LevelOn is) = Level is
    which (LostOn lost shut none is) = Lost lost shut none is

-- on a way, what is told is what is handed over
pub way_told : {D : Type 0} (desk : DeskMeaning D) (way : Way D) (end : End) → IsWay desk way → IsTold end (history desk way) (way_takes desk way end)
way_told desk way end is =
    let opened = is.opened in
    is_told end _ _ (moves_heard desk end (no_handings way.start) way.moves [] is.whole is.may (record {
      sound = opened.new.sound;
      silent = record { to_host = free_silent way.start.to_host opened.to_host; to_remote = free_silent way.start.to_remote opened.to_remote };
      lane = opened_lane_heard desk end way.start opened;
    }))
