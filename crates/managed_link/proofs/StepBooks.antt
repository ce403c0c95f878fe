-- What a step of a caller leaves of the books of its link, as the other callers see them.
use Rattle.std.proofs.Common.{◌≡◌, ◌≢◌, ⊎_elim, ℕ, zero, suc, ◌<◌, ◌==◌, ◌&&◌, length, true, List, [], ◌∷◌, ◌++◌, Option, refl, sym, ap, subst, ◌∙◌, append-nil, arith}
use Rattle.std.specs.Prelude.{slice_get}
use Rattle.std.specs.Option.{option_map, unwrap_or}
use Rattle.std.proofs.lemmas.Bool.{false≢true, and_parts, eqb-true, or_cases, or_left}
use Rattle.std.proofs.lemmas.List.Folds.{list_any-append}
use Rattle.rp_base.specs.declared.kinds.End.{End}
use Rattle.rp_base.specs.declared.kinds.End.TheVariants as side
use Rattle.lane_model.specs.declared.calls.Answer.{Answer}
use Rattle.lane_model.specs.declared.calls.Answer.TheVariants as answer
use Rattle.lane_model.specs.declared.states.BookEntry.{BookEntry}
use Rattle.lane_model.specs.declared.states.Holding.{Holding}
use Rattle.lane_model.specs.declared.states.Lane.{Lane}
use Rattle.lane_model.specs.HeldBuffers.{HeldBuffer}
use Rattle.lane_model.specs.Lanes.{holds, message_at}
use Rattle.lane_model.specs.Soundness.{AreHandedOnce, IsSoundBetween, SoundLink}
use Rattle.lane_model.proofs.Holdings.{others_hold}
use Rattle.link_words.specs.Words.{lane_to, other}
use Rattle.split_ring.specs.declared.callers.CallerId.{CallerId}
use Rattle.split_ring.specs.CallPhases.{Phase}
use Rattle.split_ring.specs.CallPhases as phase
use Rattle.split_ring.specs.Handed.{IsOwnBuffer, LeavesLanes, Settles, StepsLanes, incoming_by, outgoing_by}
use Rattle.managed_link.specs.Known.{LinkRings, lists_of}
use Rattle.managed_link.specs.Managed.{IsBegun, IsOwnAnswer}

-- a lane behind a step of this caller: its book has no message less, its size is as it was, and the others hold what they held
pub record IsGrown (caller : ℕ) (before after : Lane) : Type 0 where
  pub more : List BookEntry
  pub accepted : after.accepted ≡ before.accepted ++ more
  pub capacity : after.capacity ≡ before.capacity
  pub book : after.book ≡ before.book
  pub others : (number n : ℕ) → caller ≢ n → holds before.held number n ≡ true → holds after.held number n ≡ true

as_it_was : (caller : ℕ) (lane : Lane) → IsGrown caller lane lane
as_it_was caller lane = record { more = []; accepted = sym (append-nil lane.accepted); capacity = refl; book = refl; others = λ number n apart has. has }

incoming_grown : (caller : ℕ) (said : Answer) (lane : Lane) → IsGrown caller lane (incoming_by caller said lane)
incoming_grown caller (answer.Took held verdict) lane = record {
  more = [];
  accepted = sym (append-nil lane.accepted);
  capacity = refl;
  book = refl;
  others = λ number n apart has. list_any-append (λ (h : Holding). (h.number == number) && (h.caller == n)) lane.held _ ∙ or_left (holds lane.held number n) _ has;
}
incoming_grown caller (answer.Gave number) lane = record {
  more = [];
  accepted = sym (append-nil lane.accepted);
  capacity = refl;
  book = refl;
  others = λ theirs n apart has. others_hold lane.held number caller theirs n apart has;
}
incoming_grown caller said lane = as_it_was caller lane

outgoing_grown : (caller : ℕ) (message : List ℕ) (said : Answer) (lane : Lane) → IsGrown caller lane (outgoing_by caller message said lane)
outgoing_grown caller message (answer.Sent number) lane =
    record { more = record { caller = caller; message = message } ∷ []; accepted = refl; capacity = refl; book = refl; others = λ number n apart has. has }
outgoing_grown caller message said lane = as_it_was caller lane

outgoing_held : (caller : ℕ) (message : List ℕ) (said : Answer) (lane : Lane) → (outgoing_by caller message said lane).held ≡ lane.held
outgoing_held caller message (answer.Sent number) lane = refl
outgoing_held caller message said lane = refl

-- both lanes, by the end of the caller
pub both_lanes : (P : End → Type 0) (e : End) → P e → P (other e) → (d : End) → P d
both_lanes P side.Host mine theirs side.Host = mine
both_lanes P side.Host mine theirs side.Remote = theirs
both_lanes P side.Remote mine theirs side.Host = theirs
both_lanes P side.Remote mine theirs side.Remote = mine

-- the lanes of a link behind a step of this caller, which holds nothing of the lane on which it sends
pub record BooksGrow (who : CallerId) (m m' : LinkRings) : Type 0 where
  pub lanes : (d : End) → IsGrown who.number (lane_to m d).lane.lane (lane_to m' d).lane.lane
  pub held : (lane_to m' (other who.end)).lane.lane.held ≡ (lane_to m (other who.end)).lane.lane.held

settled_grow : (who : CallerId) (said : Answer) (m m' : LinkRings) → Settles who said m m' → BooksGrow who m m'
settled_grow who said m m' s = record {
  lanes = both_lanes (λ d. IsGrown who.number (lane_to m d).lane.lane (lane_to m' d).lane.lane) who.end
      (subst (IsGrown who.number (lane_to m who.end).lane.lane) (sym s.incoming) (incoming_grown who.number said (lane_to m who.end).lane.lane))
      (subst (IsGrown who.number (lane_to m (other who.end)).lane.lane) (sym s.outgoing) (outgoing_grown who.number s.message said (lane_to m (other who.end)).lane.lane));
  held = ap (λ (l : Lane). l.held) s.outgoing ∙ outgoing_held who.number s.message said (lane_to m (other who.end)).lane.lane;
}

-- where nothing of the lists has changed
pub same_lane : (m m' : LinkRings) → LeavesLanes m m' → (d : End) → (lane_to m' d).lane.lane ≡ (lane_to m d).lane.lane
same_lane m m' s side.Host = s.to_host
same_lane m m' s side.Remote = s.to_remote

pub left_grow : (who : CallerId) (m m' : LinkRings) → LeavesLanes m m' → BooksGrow who m m'
left_grow who m m' s = record {
  lanes = λ d. subst (IsGrown who.number (lane_to m d).lane.lane) (sym (same_lane m m' s d)) (as_it_was who.number (lane_to m d).lane.lane);
  held = ap (λ (l : Lane). l.held) (same_lane m m' s (other who.end));
}

pub books_grow : (who : CallerId) (p : Phase) (m m' : LinkRings) → StepsLanes who p m m' → BooksGrow who m m'
books_grow who (phase.LeavesSender said) m m' s = settled_grow who said m m' s
books_grow who (phase.LeavesReceiver said) m m' s = settled_grow who said m m' s
books_grow who p m m' s = left_grow who m m' s

-- what is held was handed over, and so accepted
pub held_below : (handed : ℕ) (held : List Holding) (number caller : ℕ) → AreHandedOnce handed held → holds held number caller ≡ true → number < handed
held_below handed [] number caller once has = absurd (false≢true has)
held_below handed (h ∷ hs) number caller once has =
    ⊎_elim (λ (here : ((h.number == number) && (h.caller == caller)) ≡ true). subst (λ k. k < handed) (eqb-true h.number number (and_parts _ _ here).0) once.1)
    (λ (there : holds hs number caller ≡ true). held_below handed hs number caller once.2 there) (or_cases ((h.number == number) && (h.caller == caller)) (holds hs number caller) has)

pub lane_sound : (m : LinkRings) → SoundLink (lists_of m) → (d : End) → IsSoundBetween m.callers (other d) d m.era.is_live (lane_to m d).lane
lane_sound m sound side.Host = sound.to_host
lane_sound m sound side.Remote = sound.to_remote

pub accepted_held : (m : LinkRings) (d : End) (number caller : ℕ) → SoundLink (lists_of m) → holds (lane_to m d).lane.lane.held number caller ≡ true → number < length (lane_to m d).lane.lane.accepted
accepted_held m d number caller sound has =
    let lane = (lane_sound m sound d).lane in let below = held_below _ (lane_to m d).lane.lane.held number caller lane.holdings has in let handed = lane.handed in omega (arith, below, handed)

-- the message of a number stays, whatever is accepted behind it
front_stays : (book more : List BookEntry) (number : ℕ) → number < length book → slice_get (book ++ more) number ≡ slice_get book number
front_stays [] more number below = absurd (omega (arith, below))
front_stays (x ∷ xs) more zero below = refl
front_stays (x ∷ xs) more (suc number) below = front_stays xs more number (omega (arith, below))

message_stays : (book more : List BookEntry) (number : ℕ) → number < length book → message_at (book ++ more) number ≡ message_at book number
message_stays book more number below = ap (λ (found : Option BookEntry). unwrap_or (option_map (λ (entry : BookEntry). entry.message) found) []) (front_stays book more number below)

pub buffer_stays : (caller : ℕ) (who : CallerId) (m m' : LinkRings) (held : HeldBuffer) → IsGrown caller (lane_to m who.end).lane.lane (lane_to m' who.end).lane.lane
    → held.number < length (lane_to m who.end).lane.lane.accepted → IsOwnBuffer who m held → IsOwnBuffer who m' held
buffer_stays caller who m m' held grown below own = record {
  lane = own.lane;
  caller = own.caller;
  message = own.message ∙ sym (ap (λ (book : List BookEntry). message_at book held.number) grown.accepted ∙ message_stays (lane_to m who.end).lane.lane.accepted grown.more held.number below);
}

answer_stays : (who theirs : CallerId) (m m' : LinkRings) (said : Answer) → BooksGrow who m m' → SoundLink (lists_of m) → who.number ≢ theirs.number → IsOwnAnswer theirs m said → IsOwnAnswer theirs m' said
answer_stays who theirs m m' (answer.Took held verdict) grow sound apart own = let g = grow.lanes theirs.end in (
  buffer_stays who.number theirs m m' held g (accepted_held m theirs.end held.number theirs.number sound own.1) own.0,
  g.others held.number theirs.number apart own.1,
)
answer_stays who theirs m m' (answer.GiveBusy found held) grow sound apart own = absurd own
answer_stays who theirs m m' said grow sound apart own = tt

-- what another call has begun, it has behind the step too
pub begun_stays : (who theirs : CallerId) (m m' : LinkRings) (p : Phase) → BooksGrow who m m' → SoundLink (lists_of m) → who.number ≢ theirs.number → IsBegun theirs m p → IsBegun theirs m' p
begun_stays who theirs m m' (phase.Asked asked) grow sound apart begun = absurd begun
begun_stays who theirs m m' (phase.LeavesSender said) grow sound apart begun = answer_stays who theirs m m' said grow sound apart begun
begun_stays who theirs m m' (phase.LeavesReceiver said) grow sound apart begun = answer_stays who theirs m m' said grow sound apart begun
begun_stays who theirs m m' p grow sound apart begun = tt
