-- The parts of a reclaim, in their order, make the whole reclaim.
use Rattle.std.proofs.Common.{◌≡◌, ℕ, ◌&&◌, not, eqb, Bool, true, false, cond, Option, Some, None, option_map, option_and_then, refl, sym, ap, subst, ◌∙◌, List, [], ◌∷◌, ◌++◌, map, slice_set}
use Rattle.std.proofs.lemmas.Bool.{false≢true, or_parts, or_from}
use Rattle.rp_base.specs.declared.kinds.End.{End}
use Rattle.rp_base.specs.declared.kinds.End.TheVariants as side
use Rattle.lane_model.specs.declared.states.Holding.{Holding}
use Rattle.lane_model.specs.declared.states.LaneState.{LaneState}
use Rattle.lane_model.specs.declared.stages.Receiving.{Receiving}
use Rattle.lane_model.specs.declared.stages.Turn.{Turn}
use Rattle.lane_model.specs.declared.stages.Turn.TheVariants as turn
use Rattle.lane_model.specs.declared.recoveries.ReclaimPart.{ReclaimPart}
use Rattle.lane_model.specs.declared.recoveries.ReclaimPart.TheVariants as part
use Rattle.lane_model.specs.declared.recoveries.ReclaimRefusal.TheVariants as refusal
use Rattle.lane_model.specs.Desks.{DeskMeaning}
use Rattle.lane_model.specs.Lanes.{has_call, holder}
use Rattle.lane_model.specs.Crashes.{ended_turn, held_by_others, has_held, after_send_end, after_receive_end, needed_holder}
use Rattle.lane_model.specs.Forms.{list_form}
use Rattle.lane_model.specs.Links.{LinkState, Lanes, lanes_of, with_lanes, end_of}
use Rattle.lane_model.specs.Conditions.{is_in_call}
use Rattle.lane_model.specs.Recoveries.{link_reclaim_refusal, ended_lanes, without_caller, link_after_reclaim}
use Rattle.lane_model.proofs.CrashSteps.{others_have}
use Rattle.lane_laws.specs.Parts.{manager_takes, lanes_part, callers_part, part_done, MayPart, needs_turn, reclaim_parts}
use Rattle.lane_laws.specs.Moves.{Part, MayMoves, reclaim_moves}
use Rattle.lane_laws.specs.Ways.{link_after_moves}

-- ---- a lane without a caller

-- a turn that a caller's call doesn't have stays
pub turn_kept : {C : Type 0} (now : Turn C) (caller : ℕ) → has_call now caller ≡ false → ended_turn now caller ≡ now
turn_kept now caller silent = ap (λ b. cond b turn.Free now) silent

-- a caller that holds nothing leaves what is held
pub held_kept : (held : List Holding) (caller : ℕ) → has_held held caller ≡ false → held_by_others held caller ≡ held
held_kept [] caller none = refl
held_kept (h ∷ hs) caller none =
    let parts = or_parts (eqb h.caller caller) (has_held hs caller) none in
    ap (λ b. cond (not b) (h ∷ held_by_others hs caller) (held_by_others hs caller)) parts.0 ∙ ap (λ rest. h ∷ rest) (held_kept hs caller parts.1)

-- without its call and what it holds, a caller has neither
ended_silent : {C : Type 0} (now : Turn C) (caller : ℕ) → has_call (ended_turn now caller) caller ≡ false
ended_silent {C} now caller = which (has_call now caller) refl
  where
    which : (b : Bool) → has_call now caller ≡ b → has_call (cond b turn.Free now) caller ≡ false
    which true is = refl
    which false is = is

none_held : (held : List Holding) (caller : ℕ) → has_held (held_by_others held caller) caller ≡ false
none_held [] caller = refl
none_held (h ∷ hs) caller =
    let rest = none_held hs caller in
    others_have (λ left. has_held left caller ≡ false) h hs caller (λ apart. or_from _ _ apart rest) (λ _. rest)

-- ---- the lanes of a caller over the parts of its reclaim

-- the lanes after parts, one after the other
abbrev pub lanes_parts : {D : Type 0} → Lanes (LaneState D) → ℕ → List ReclaimPart → Lanes (LaneState D)
lanes_parts lanes caller [] = lanes
lanes_parts lanes caller (which ∷ parts) = lanes_parts (lanes_part lanes caller which) caller parts

-- the parts, by whether the turn is needed and there is a call
abbrev pub parts_by : Bool → Bool → List ReclaimPart
parts_by needs calls =
    cond needs (part.TakesTurn ∷ []) [] ++ cond calls (part.EndsCall ∷ []) [] ++ cond needs (part.LeavesTurn ∷ []) [] ++ part.FreesNumber ∷ []

-- the receiver's turn is free where it is needed and nobody refuses it
pub freed_turn : {D : Type 0} (state : LaneState D) (caller : ℕ) → needs_turn state caller ≡ true → needed_holder state caller ≡ None → state.receiver ≡ turn.Free
freed_turn state caller needs clear = by (has_held state.lane.held caller) (has_call state.receiver caller) needs clear
  where
    free_by : (now : Turn Receiving) → holder now ≡ None → now ≡ turn.Free
    free_by turn.Free none = refl
    free_by (turn.Taken other call) none = absurd cc
    free_by (turn.Leaving other ended) none = absurd cc
    free_by turn.Manager none = absurd cc

    by : (held calls : Bool) → (held && not calls) ≡ true → cond held (cond calls None (holder state.receiver)) None ≡ None → state.receiver ≡ turn.Free
    by true true need none = absurd (false≢true need)
    by true false need none = free_by state.receiver none
    by false calls need none = absurd (false≢true need)

-- an idle caller without the turn holds nothing, where the turn is not needed
pub holds_none : {D : Type 0} (state : LaneState D) (caller : ℕ) → needs_turn state caller ≡ false → has_call state.receiver caller ≡ false → has_held state.lane.held caller ≡ false
holds_none state caller spare silent = by (has_held state.lane.held caller) (ap (λ b. has_held state.lane.held caller && not b) (sym silent) ∙ spare)
  where
    by : (held : Bool) → (held && true) ≡ false → held ≡ false
    by true is = is
    by false is = refl

-- the lane from which a caller takes, that has neither call nor holdings of it
pub receive_kept : {D : Type 0} (state : LaneState D) (caller : ℕ) → has_call state.receiver caller ≡ false → has_held state.lane.held caller ≡ false → state ≡ after_receive_end state caller
receive_kept state caller silent none = λ i. record state {
  receiver = sym (turn_kept state.receiver caller silent) i;
  lane = record state.lane { held = sym (held_kept state.lane.held caller none) i };
}

pub send_kept : {D : Type 0} (state : LaneState D) (caller : ℕ) → has_call state.sender caller ≡ false → state ≡ after_send_end state caller
send_kept state caller silent = λ i. record state { sender = sym (turn_kept state.sender caller silent) i }

-- the lane from which a caller takes after the parts, by whether its call had the turn
receive_parts : {D : Type 0} (state : LaneState D) (caller : ℕ) → needs_turn state caller ≡ false → cond (has_call state.receiver caller) (after_receive_end state caller) state ≡ after_receive_end state caller
receive_parts state caller spare = by (has_call state.receiver caller) refl
  where
    by : (b : Bool) → has_call state.receiver caller ≡ b → cond b (after_receive_end state caller) state ≡ after_receive_end state caller
    by true is = refl
    by false is = receive_kept state caller is (holds_none state caller spare is)

-- the same lane where the manager took and left its turn, which was free
turn_parts : {D : Type 0} (state : LaneState D) (caller : ℕ) → state.receiver ≡ turn.Free
    → record state { receiver = turn.Free; lane = record state.lane { held = held_by_others state.lane.held caller } } ≡ after_receive_end state caller
turn_parts state caller free = λ i. record state {
  receiver = sym (ap (λ now. ended_turn now caller) free) i;
  lane = record state.lane { held = held_by_others state.lane.held caller };
}

-- the lanes after all parts
parts_end : {D : Type 0} (desk : DeskMeaning D) (lanes : Lanes (LaneState D)) (caller : ℕ) (needs calls : Bool) → needs_turn lanes.incoming caller ≡ needs → is_in_call lanes caller ≡ calls
    → needed_holder lanes.incoming caller ≡ None → lanes_parts lanes caller (parts_by needs calls) ≡ ended_lanes (list_form desk) lanes caller
parts_end desk lanes caller false false spare silent clear =
    let parts = or_parts (has_call lanes.outgoing.sender caller) (has_call lanes.incoming.receiver caller) silent in
    λ i. record {
      outgoing = send_kept lanes.outgoing caller parts.0 i;
      incoming = receive_kept lanes.incoming caller parts.1 (holds_none lanes.incoming caller spare parts.1) i;
    }
parts_end desk lanes caller false true spare calls clear =
    λ i. record { outgoing = after_send_end lanes.outgoing caller; incoming = receive_parts lanes.incoming caller spare i }
parts_end {D} desk lanes caller true false needs silent clear =
    let parts = or_parts (has_call lanes.outgoing.sender caller) (has_call lanes.incoming.receiver caller) silent in
    let free = freed_turn lanes.incoming caller needs clear in
    subst (λ (now : Turn Receiving). lanes_parts (record lanes { incoming = record lanes.incoming { receiver = now } }) caller (parts_by true false)
    ≡ ended_lanes (list_form desk) (record lanes { incoming = record lanes.incoming { receiver = now } }) caller) (sym free)
    (λ i. record { outgoing = send_kept lanes.outgoing caller parts.0 i; incoming = after_receive_end (record lanes.incoming { receiver = turn.Free }) caller })
parts_end {D} desk lanes caller true true needs calls clear =
    let free = freed_turn lanes.incoming caller needs clear in
    subst (λ (now : Turn Receiving). lanes_parts (record lanes { incoming = record lanes.incoming { receiver = now } }) caller (parts_by true true)
    ≡ ended_lanes (list_form desk) (record lanes { incoming = record lanes.incoming { receiver = now } }) caller) (sym free) refl

-- ---- when the parts may be done

-- each part may be done after those before it, and the number is freed at last
abbrev pub MayDo : {D : Type 0} → Lanes (LaneState D) → ℕ → List ReclaimPart → Type 0
MayDo lanes caller [] = Unit {0}
MayDo lanes caller (part.FreesNumber ∷ parts) = MayPart lanes caller part.FreesNumber × (parts ≡ [])
MayDo lanes caller (which ∷ parts) = MayPart lanes caller which × MayDo (lanes_part lanes caller which) caller parts

-- a caller whose parts but the last are done has no call and holds nothing
ended_may : {D : Type 0} (desk : DeskMeaning D) (lanes after : Lanes (LaneState D)) (caller : ℕ) → after ≡ ended_lanes (list_form desk) lanes caller → MayPart after caller part.FreesNumber
ended_may {D} desk lanes after caller is = subst (λ (left : Lanes (LaneState D)). MayPart left caller part.FreesNumber) (sym is)
    (or_from _ _ (ended_silent lanes.outgoing.sender caller) (ended_silent lanes.incoming.receiver caller), none_held lanes.incoming.lane.held caller)

parts_may : {D : Type 0} (desk : DeskMeaning D) (lanes : Lanes (LaneState D)) (caller : ℕ) (needs calls : Bool) → needs_turn lanes.incoming caller ≡ needs → is_in_call lanes caller ≡ calls
    → needed_holder lanes.incoming caller ≡ None → MayDo lanes caller (parts_by needs calls)
parts_may desk lanes caller false false spare silent clear = (ended_may desk lanes lanes caller (parts_end desk lanes caller false false spare silent clear), refl)
parts_may desk lanes caller false true spare calls clear = (tt, (ended_may desk lanes _ caller (parts_end desk lanes caller false true spare calls clear), refl))
parts_may {D} desk lanes caller true false needs silent clear =
    let free = freed_turn lanes.incoming caller needs clear in
    (ap holder free, (ap manager_takes free, (ended_may desk lanes _ caller (parts_end desk lanes caller true false needs silent clear), refl)))
parts_may {D} desk lanes caller true true needs calls clear =
    let free = freed_turn lanes.incoming caller needs clear in
    let incoming : Turn Receiving → LaneState D = λ now. record lanes.incoming { receiver = manager_takes now } in
    let managed : (cond (has_call (manager_takes lanes.incoming.receiver) caller) (after_receive_end (incoming lanes.incoming.receiver) caller) (incoming lanes.incoming.receiver)).receiver ≡ turn.Manager =
    subst (λ (now : Turn Receiving). (cond (has_call (manager_takes now) caller) (after_receive_end (incoming now) caller) (incoming now)).receiver ≡ turn.Manager) (sym free) refl in
    (ap holder free, (tt, (managed, (ended_may desk lanes _ caller (parts_end desk lanes caller true true needs calls clear), refl))))

-- ---- the link over the parts

-- the callers after parts
abbrev pub callers_parts : List (Option End) → ℕ → List ReclaimPart → List (Option End)
callers_parts callers caller [] = callers
callers_parts callers caller (which ∷ parts) = callers_parts (callers_part callers caller which) caller parts

link_parts : {D : Type 0} (desk : DeskMeaning D) (link : LinkState D) (end : End) (caller : ℕ) (parts : List ReclaimPart)
    → link_after_moves desk link (map (Part end caller) parts)
    ≡ record (with_lanes link end (lanes_parts (lanes_of link end) caller parts)) { callers = callers_parts link.callers caller parts }
link_parts desk link side.Host caller [] = refl
link_parts desk link side.Remote caller [] = refl
link_parts desk link side.Host caller (which ∷ parts) = link_parts desk (part_done link side.Host caller which) side.Host caller parts
link_parts desk link side.Remote caller (which ∷ parts) = link_parts desk (part_done link side.Remote caller which) side.Remote caller parts

link_may : {D : Type 0} (desk : DeskMeaning D) (link : LinkState D) (end : End) (caller : ℕ) (parts : List ReclaimPart) → link.era.is_live ≡ false → end_of link.callers caller ≡ Some end
    → MayDo (lanes_of link end) caller parts → MayMoves desk link (map (Part end caller) parts)
link_may desk link end caller [] shut used may = tt
link_may desk link side.Host caller (part.TakesTurn ∷ parts) shut used may = ((shut, used, may.0), link_may desk (part_done link side.Host caller part.TakesTurn) side.Host caller parts shut used may.1)
link_may desk link side.Host caller (part.EndsCall ∷ parts) shut used may = ((shut, used, may.0), link_may desk (part_done link side.Host caller part.EndsCall) side.Host caller parts shut used may.1)
link_may desk link side.Host caller (part.LeavesTurn ∷ parts) shut used may = ((shut, used, may.0), link_may desk (part_done link side.Host caller part.LeavesTurn) side.Host caller parts shut used may.1)
link_may {D} desk link side.Host caller (part.FreesNumber ∷ parts) shut used may =
    ((shut, used, may.0), subst (λ (rest : List ReclaimPart). MayMoves desk (part_done link side.Host caller part.FreesNumber) (map (Part side.Host caller) rest)) (sym may.1) tt)
link_may desk link side.Remote caller (part.TakesTurn ∷ parts) shut used may = ((shut, used, may.0), link_may desk (part_done link side.Remote caller part.TakesTurn) side.Remote caller parts shut used may.1)
link_may desk link side.Remote caller (part.EndsCall ∷ parts) shut used may = ((shut, used, may.0), link_may desk (part_done link side.Remote caller part.EndsCall) side.Remote caller parts shut used may.1)
link_may desk link side.Remote caller (part.LeavesTurn ∷ parts) shut used may = ((shut, used, may.0), link_may desk (part_done link side.Remote caller part.LeavesTurn) side.Remote caller parts shut used may.1)
link_may {D} desk link side.Remote caller (part.FreesNumber ∷ parts) shut used may =
    ((shut, used, may.0), subst (λ (rest : List ReclaimPart). MayMoves desk (part_done link side.Remote caller part.FreesNumber) (map (Part side.Remote caller) rest)) (sym may.1) tt)

-- what it says that nothing refuses a reclaim
pub record IsUnrefused {D : Type 0} (link : LinkState D) (end : End) (caller : ℕ) : Type 0 where
  pub shut : link.era.is_live ≡ false
  pub clear : needed_holder (lanes_of link end).incoming caller ≡ None

pub unrefused : {D : Type 0} (link : LinkState D) (end : End) (caller : ℕ) → end_of link.callers caller ≡ Some end → link_reclaim_refusal link caller ≡ None → IsUnrefused link end caller
unrefused link end caller used none =
    by link.era.is_live refl (ap (λ found. cond link.era.is_live (Some (refusal.StillOpen link.era)) (option_map refusal.Busy (option_and_then (λ end. needed_holder (lanes_of link end).incoming caller) found))) (sym used) ∙ none)
  where
    none_by : (other : Option ℕ) → option_map refusal.Busy other ≡ None → other ≡ None
    none_by None is = refl
    none_by (Some holder) is = absurd cc

    by : (live : Bool) → link.era.is_live ≡ live → cond live (Some (refusal.StillOpen link.era)) (option_map refusal.Busy (needed_holder (lanes_of link end).incoming caller)) ≡ None → IsUnrefused link end caller
    by true live is = absurd cc
    by false shut is = record { shut = shut; clear = none_by _ is }

-- the callers after all parts
pub callers_by : (callers : List (Option End)) (caller : ℕ) (needs calls : Bool) → callers_parts callers caller (parts_by needs calls) ≡ slice_set callers caller None
callers_by callers caller true true = refl
callers_by callers caller true false = refl
callers_by callers caller false true = refl
callers_by callers caller false false = refl

pub reclaim_may : {D : Type 0} (desk : DeskMeaning D) (link : LinkState D) (end : End) (caller : ℕ) → end_of link.callers caller ≡ Some end → link_reclaim_refusal link caller ≡ None
    → MayMoves desk link (reclaim_moves link end caller)
reclaim_may desk link end caller used none =
    let is = unrefused link end caller used none in
    let lanes = lanes_of link end in
    link_may desk link end caller (reclaim_parts lanes caller) is.shut used
    (parts_may desk lanes caller (needs_turn lanes.incoming caller) (is_in_call lanes caller) refl refl is.clear)

pub reclaim_whole : {D : Type 0} (desk : DeskMeaning D) (link : LinkState D) (end : End) (caller : ℕ) → end_of link.callers caller ≡ Some end → link_reclaim_refusal link caller ≡ None
    → link_after_moves desk link (reclaim_moves link end caller) ≡ link_after_reclaim (list_form desk) link caller
reclaim_whole {D} desk link end caller used none =
    let is = unrefused link end caller used none in
    let lanes = lanes_of link end in
    let needs = needs_turn lanes.incoming caller in
    let calls = is_in_call lanes caller in
    let ended : lanes_parts lanes caller (parts_by needs calls) ≡ ended_lanes (list_form desk) lanes caller = parts_end desk lanes caller needs calls refl refl is.clear in
    let freed : callers_parts link.callers caller (parts_by needs calls) ≡ slice_set link.callers caller None = callers_by link.callers caller needs calls in
    link_parts desk link end caller (parts_by needs calls)
    ∙ (λ i. record (with_lanes link end (ended i)) { callers = freed i })
    ∙ ap (λ found. without_caller (list_form desk) link found caller) (sym used)
