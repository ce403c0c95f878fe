-- The steps of a binding and an unbinding, as its caller's seat is told them, and put together.
use Rattle.std.proofs.Common.{◌≡◌, ◌≢◌, inl, inr, ℕ, ◌<◌, List, [], ◌∷◌, Bool, true, false, cond, refl, sym, ap, ◌∙◌, subst}
use Rattle.std.specs.Prelude.{Result, Ok, Err, IfOk, IfErr}
use base.Stored.{Coded}
use Rattle.rp_base.specs.declared.kinds.BindFault.{BindFault}
use Rattle.rp_base.specs.declared.kinds.Endpoint.{Endpoint}
use Rattle.rp_base.specs.declared.kinds.Era.{Era}
use Rattle.lane_model.specs.declared.calls.CallEnd.TheVariants as end
use Rattle.lane_model.specs.declared.recoveries.LaneTurn.TheVariants as lane_turn
use Rattle.lane_model.specs.declared.stages.Turn.TheVariants as turn
use Rattle.lane_model.specs.Desks.{DeskMeaning}
use Rattle.lane_model.specs.Lanes.{is_live_in}
use Rattle.link_words.specs.declared.codes.DeskRight.{DeskRight}
use Rattle.link_words.specs.declared.codes.DeskTables.{DeskTables}
use Rattle.link_words.specs.declared.rule.Call.{Call}
use Rattle.link_words.specs.declared.rule.Call.TheVariants.{Receives}
use Rattle.link_words.specs.declared.rule.Event.TheVariants.{Step}
use Rattle.link_words.specs.declared.rule.LinkSizes.{LinkSizes}
use Rattle.link_words.specs.declared.rule.Made.TheVariants as made
use Rattle.link_words.specs.declared.rule.Pass.{Pass}
use Rattle.link_words.specs.declared.rule.ReceiverSide.{ReceiverSide}
use Rattle.link_words.specs.Calls.{SeatState, noted, receive_or, under_way_or, place_of}
use Rattle.link_words.specs.Passes.{with_call}
use Rattle.link_words.specs.PlacedDesks.{IsRightTo, no_right}
use Rattle.link_words.specs.Steps.{BindsAt, BindLoadsEra, IsFit, desk_says, desk_after, with_binding}
use Rattle.link_words.specs.Words.{era_word}
use Rattle.split_ring.specs.declared.binds.DeskAsk.{DeskAsk}
use Rattle.split_ring.specs.declared.binds.DeskAsk.TheVariants as asks
use Rattle.split_ring.specs.declared.callers.CallerId.{CallerId}
use Rattle.split_ring.specs.Binds.{desk_wish, desk_work, desk_result, asked_call, DeskAnswers, IsDeskCall, desk_answer}
use Rattle.split_ring.specs.Seats.{pass_in, IsAt}
use Rattle.split_ring.specs.Sends.{live_era}
use Rattle.split_ring.specs.Turns.{HasBegun, HasReceiver, IsLeaving, receive_call, receive_slots}
use Rattle.split_ring.specs.Walks.{same_hands, IsRingStep, HasDone}
use Rattle.split_ring.proofs.Eras.{live_is, dead_is}
use Rattle.split_ring.proofs.Seats.{Moves, after_step, stepped_once, done_then}
use Rattle.split_ring.proofs.TakeSteps.{alone, side_is, work_at}
use Rattle.split_ring.specs.Calls.{call_end, desk_said}
use Rattle.lane_model.specs.Receives.{desk_end}

-- what a caller asks of the desk needs no buffer, and its turn is the receiver's
pub asks_fit : (asked : DeskAsk) (hands : List ℕ) → IsFit (desk_wish asked) hands
asks_fit (asks.Bind address) hands = tt
asks_fit (asks.Unbind address) hands = tt

pub asks_begun : (who : CallerId) (asked : DeskAsk) (me : SeatState) → HasBegun who (desk_wish asked) me → HasReceiver who (desk_work asked) me
asks_begun who (asks.Bind address) me begun = begun
asks_begun who (asks.Unbind address) me begun = begun

pub binds_at : (me : SeatState) (who : CallerId) (asked : DeskAsk) (x : ReceiverSide) → IsAt me (receive_call who (desk_work asked) x 0 []) (receive_slots who x) → BindsAt me
binds_at me who (asks.Bind address) x at = (who.end, address, inl (work_at me who (desk_work (asks.Bind address)) x 0 [] (receive_slots who x) at (alone me who (desk_work (asks.Bind address)) x 0 [] at)))
binds_at me who (asks.Unbind address) x at = (who.end, address, inr (work_at me who (desk_work (asks.Unbind address)) x 0 [] (receive_slots who x) at (alone me who (desk_work (asks.Unbind address)) x 0 [] at)))

-- the end of a call is what the desk says
pub desk_ends : {D : Type 0} (meaning : DeskMeaning D) (desk : D) (handed : ℕ) (asked : DeskAsk) → desk_says meaning desk handed (desk_work asked) ≡ call_end (desk_said asked (desk_result (Ok (desk_answer meaning desk handed asked))))
desk_ends meaning desk handed (asks.Bind address) = by_bind (meaning.bind_answer desk address handed)
  where
    by_bind : (answer : Result Endpoint BindFault) → desk_end end.Bound answer ≡ call_end (desk_said (asks.Bind address) (desk_result (Ok answer)))
    by_bind (Ok endpoint) = refl
    by_bind (Err fault) = refl
desk_ends meaning desk handed (asks.Unbind address) = by_unbind (meaning.unbind_answer desk address)
  where
    by_unbind : (answer : Result Endpoint BindFault) → desk_end end.Unbound answer ≡ call_end (desk_said (asks.Unbind address) (desk_result (Ok answer)))
    by_unbind (Ok endpoint) = refl
    by_unbind (Err fault) = refl

module _ {D : Type 0} (coded : Coded D) (meaning : DeskMeaning D) where
  -- the pass behind the load of the era, where the desk changes and where it doesn't
  abbrev pub dead_call : CallerId → ReceiverSide → Era → Call
  dead_call who x era = Receives who.end (turn.Leaving who.number (end.Dead era)) x 0 []

  bound_as : (who : CallerId) (asked : DeskAsk) (x : ReceiverSide) (era : Era) (desk : D) (p : Pass) (live : Bool) → p.call ≡ receive_call who (desk_work asked) x 0 [] → is_live_in era who.follows ≡ live
      → with_binding coded meaning era desk p ≡ cond live (with_call p (asked_call coded meaning who asked desk x)) (with_call p (dead_call who x era))
  bound_as who asked x era desk p live in_call is =
      ap (λ (k : Call). receive_or p (λ e t y b message. under_way_or p (λ caller r. cond (is_live_in era r.follows)
      (with_call p (Receives e (turn.Leaving caller (desk_says meaning desk y.handed r.work)) (record y { desk = record y.desk { code = coded.code (desk_after meaning desk y.handed r.work) } }) b message))
      (with_call p (Receives e (turn.Leaving caller (end.Dead era)) y b message))) t) k) in_call
      ∙ ap (λ (a : Bool). cond a (with_call p (asked_call coded meaning who asked desk x)) (with_call p (dead_call who x era))) is

  moved_to : (era : Era) (desk : D) (p : Pass) (call : Call) → with_binding coded meaning era desk p ≡ with_call p call → Moves p (noted (made.Era era) (with_binding coded meaning era desk p)) call (Step (made.Era era) ∷ []) same_hands
  moved_to era desk p call is = record {
    in_call = ap (λ (r : Pass). r.call) is;
    own = ap (λ (r : Pass). Step (made.Era era) ∷ r.own) is;
    number = ap (λ (r : Pass). r.number) is;
    first = ap (λ (r : Pass). r.first) is;
    in_hand = ap (λ (r : Pass). r.hands) is;
  }

  -- what the load leaves where the desk changes: the side state that is out is still as it was
  pub record Asked (z : LinkSizes) (who : CallerId) (asked : DeskAsk) (x : ReceiverSide) (me me' : SeatState) : Type 0 where
    pub desk : D
    pub right : IsRightTo coded z.desks x.desk desk
    pub at : IsAt me' (asked_call coded meaning who asked desk x) (receive_slots who x)
    pub done : HasDone coded meaning (Step (made.Era (live_era who.follows)) ∷ []) same_hands me me'

  pub asks_live : (z : LinkSizes) (me me' : SeatState) (who : CallerId) (asked : DeskAsk) (n : ℕ) (x : ReceiverSide) (found : Era) → me.0.sizes ≡ z → IsAt me (receive_call who (desk_work asked) x 0 []) (receive_slots who x)
      → BindLoadsEra coded meaning me.0.sizes.desks me n me' → IsRingStep coded meaning me me' → ((era : Era) → n ≡ era_word era → era.inc < 4294967296 → found ≡ era) → is_live_in found who.follows ≡ true → Asked z who asked x me me'
  asks_live z me me' who asked n x found sized at told step reads live =
      let w = desk_work asked in let slots = receive_slots who x in let zero = alone me who w x 0 [] at in
      let same : found ≡ told.0 = reads told.0 told.1 told.2 in let here : is_live_in told.0 who.follows ≡ true = ap (λ (e : Era). is_live_in e who.follows) (sym same) ∙ live in
      let is : told.0 ≡ live_era who.follows = live_is told.0 who.follows here in
      let all = after_step coded meaning (λ p. noted (made.Era told.0) (with_binding coded meaning told.0 told.3 p)) me.1 slots me me' (place_of me) (asked_call coded meaning who asked told.3 x) (Step (made.Era told.0) ∷ []) same_hands at.one zero told.5 at.out
      (moved_to told.0 told.3 (pass_in me) (asked_call coded meaning who asked told.3 x) (bound_as who asked x told.0 told.3 (pass_in me) true at.in_call here)) (stepped_once coded meaning (made.Era told.0) me me' step) in
      record {
        desk = told.3;
        right = subst (λ (y : LinkSizes). IsRightTo coded y.desks x.desk told.3) sized (subst (λ (r : DeskRight). IsRightTo coded me.0.sizes.desks r told.3) (side_is no_right (λ y. y.desk) me who w x 0 [] slots at zero) told.4);
        at = all.0;
        done = subst (λ (e : Era). HasDone coded meaning (Step (made.Era e) ∷ []) same_hands me me') is all.1;
      }

  pub asks_dead : (me me' : SeatState) (who : CallerId) (asked : DeskAsk) (tables : DeskTables) (n : ℕ) (x : ReceiverSide) (found : Era) → IsAt me (receive_call who (desk_work asked) x 0 []) (receive_slots who x)
      → BindLoadsEra coded meaning tables me n me' → IsRingStep coded meaning me me' → ((era : Era) → n ≡ era_word era → era.inc < 4294967296 → found ≡ era) → is_live_in found who.follows ≡ false
      → IsLeaving lane_turn.Receiver who.end (end.Dead found) me' × (found ≢ live_era who.follows) × HasDone coded meaning (Step (made.Era found) ∷ []) same_hands me me'
  asks_dead me me' who asked tables n x found at told step reads dead =
      let zero = alone me who (desk_work asked) x 0 [] at in
      let same : found ≡ told.0 = reads told.0 told.1 told.2 in let here : is_live_in told.0 who.follows ≡ false = ap (λ (e : Era). is_live_in e who.follows) (sym same) ∙ dead in
      let all = after_step coded meaning (λ p. noted (made.Era told.0) (with_binding coded meaning told.0 told.3 p)) me.1 (receive_slots who x) me me' (place_of me) (dead_call who x told.0) (Step (made.Era told.0) ∷ []) same_hands at.one zero told.5 at.out
      (moved_to told.0 told.3 (pass_in me) (dead_call who x told.0) (bound_as who asked x told.0 told.3 (pass_in me) false at.in_call here)) (stepped_once coded meaning (made.Era told.0) me me' step) in
      (subst (λ (e : Era). IsLeaving lane_turn.Receiver who.end (end.Dead e) me') (sym same) (who.number, x, 0, [], all.0), dead_is found who.follows dead, subst (λ (e : Era). HasDone coded meaning (Step (made.Era e) ∷ []) same_hands me me') (sym same) all.1)

  -- with its first and its last step
  pub asks_whole : (tables : DeskTables) (who : CallerId) (asked : DeskAsk) (answer : Result (Result Endpoint BindFault) Era) (a b d e : SeatState) → HasDone coded meaning (Step (made.Turn 0) ∷ []) same_hands a b
      → IfOk answer (λ said. DeskAnswers coded meaning tables who asked said b d × HasDone coded meaning (Step (made.Era (live_era who.follows)) ∷ []) same_hands b d)
      → IfErr answer (λ era. (era ≢ live_era who.follows) × HasDone coded meaning (Step (made.Era era) ∷ []) same_hands b d)
      → HasDone coded meaning (Step made.Left ∷ []) same_hands d e → IsDeskCall coded meaning tables who asked (desk_result answer) a e
  asks_whole tables who asked (Ok (Ok endpoint)) a b d e entered said dead left = record {
    walk = Step made.Left ∷ Step (made.Era (live_era who.follows)) ∷ Step (made.Turn 0) ∷ [];
    is = refl;
    done = done_then coded meaning (Step made.Left ∷ []) (Step (made.Era (live_era who.follows)) ∷ Step (made.Turn 0) ∷ []) same_hands same_hands a d e
        (done_then coded meaning (Step (made.Era (live_era who.follows)) ∷ []) (Step (made.Turn 0) ∷ []) same_hands same_hands a b d entered said.1) left;
    said = record { begun = b; changed = d; first = entered; asks = said.0; second = said.1; others = left };
  }
  asks_whole tables who asked (Ok (Err fault)) a b d e entered said dead left = record {
    walk = Step made.Left ∷ Step (made.Era (live_era who.follows)) ∷ Step (made.Turn 0) ∷ [];
    is = refl;
    done = done_then coded meaning (Step made.Left ∷ []) (Step (made.Era (live_era who.follows)) ∷ Step (made.Turn 0) ∷ []) same_hands same_hands a d e
        (done_then coded meaning (Step (made.Era (live_era who.follows)) ∷ []) (Step (made.Turn 0) ∷ []) same_hands same_hands a b d entered said.1) left;
    said = record { begun = b; changed = d; first = entered; asks = said.0; second = said.1; others = left };
  }
  asks_whole tables who asked (Err era) a b d e entered said dead left = record {
    walk = Step made.Left ∷ Step (made.Era era) ∷ Step (made.Turn 0) ∷ [];
    is = (refl, dead.0);
    done = done_then coded meaning (Step made.Left ∷ []) (Step (made.Era era) ∷ Step (made.Turn 0) ∷ []) same_hands same_hands a d e
        (done_then coded meaning (Step (made.Era era) ∷ []) (Step (made.Turn 0) ∷ []) same_hands same_hands a b d entered dead.1) left;
    said = tt;
  }
