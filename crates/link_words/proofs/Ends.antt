-- The steps of a reclaim as the seat of its caller is told them, on the words of the table.
use Rattle.link_words.specs.declared.codes.DeskTables.{DeskTables}
use Rattle.link_words.specs.PlacedDesks.{PlacedDesk}
use Rattle.std.proofs.Common.{◌≡◌, ℕ, ◌≤◌, ◌<◌, Bool, true, false, cond, eqb, List, ◌∷◌, refl, sym, ap, ◌∙◌, subst, arith}
use prog.Atomic.{either}
use Rattle.atomic_table.specs.Table.{Allows, rest}
use base.Stored.{Coded}
use Rattle.rp_base.specs.declared.kinds.End.{End}
use Rattle.rp_base.specs.declared.kinds.End.TheVariants as side
use Rattle.lane_model.specs.declared.lane_links.LaneLink.{LaneLink}
use Rattle.lane_model.specs.declared.recoveries.LaneTurn.{LaneTurn}
use Rattle.lane_model.specs.declared.recoveries.LaneTurn.TheVariants as lane_turn
use Rattle.lane_model.specs.declared.stages.Receiving.{Receiving}
use Rattle.lane_model.specs.declared.stages.Sending.{Sending}
use Rattle.lane_model.specs.declared.stages.Turn.{Turn}
use Rattle.lane_model.specs.Desks.{DeskMeaning}
use Rattle.ring_core.specs.declared.states.RingState.{RingState}
use Rattle.ring_core.specs.Owners.{sender_is_out, receiver_is_out}
use Rattle.link_words.specs.declared.rule.Call.{Call}
use Rattle.link_words.specs.declared.rule.Call.TheVariants.{Idle, Sends, Rests, Reclaims, EndsHeld, Receives, EndsReceive, EndsSend, EndsBoth, Reopens, Gathers}
use Rattle.link_words.specs.declared.rule.LinkSizes.{LinkSizes}
use Rattle.link_words.specs.declared.rule.ReceiverSide.{ReceiverSide}
use Rattle.link_words.specs.declared.rule.SenderSide.{SenderSide}
use Rattle.link_words.specs.declared.rule.Slot.{Slot}
use Rattle.link_words.specs.declared.rule.Slot.TheVariants.{Sender, Receiver}
use Rattle.link_words.specs.Calls.{SeatState, place_of, call_at, number_at}
use Rattle.link_words.specs.Deeds.{Deed, Nothing, EndsCall, ManagerTakes}
use Rattle.link_words.specs.Layouts.{place_in}
use Rattle.link_words.specs.Passes.{Mover, with_call, with_pass, place_of_number}
use Rattle.link_words.specs.Reclaims.{StandsIn, doomed_call, HasTurn, FindsClosed, IsUnclaimed, claimed_call, spared_call, ClaimsTurn, without_hands, MayEnd, HasSlots, HasFilledSlots, ended_pass, slots_left, ending_of, LeavesEnded}
use Rattle.link_words.specs.Rule.{WordsRule, PlacedRule}
use Rattle.link_words.specs.Steps.{IsStepOf, HasWord, StoresWord, turn_number}
use Rattle.link_words.specs.Turns.{is_manager}
use Rattle.link_words.specs.Words.{other, sender_word, receiver_word, sender_slot, receiver_slot, buffer_slot}
use Rattle.link_words.proofs.Apart.{apart, sender_low, receiver_low}
use Rattle.link_words.proofs.Exact.{StepBy, call_is, becomes, step_told, ReadsAt, WritesAt, read_there, written_there}
use Rattle.link_words.proofs.Held.{claims, claims_beside, shuts, releases, leaves_held}
use Rattle.link_words.proofs.SendEnds.{dooms, ends_bare, ends_out, ends_send, ends_beside}
use Rattle.link_words.proofs.TakeEnds.{dooms_receive, ends_receive_bare}
use Rattle.link_words.proofs.Takes.{ends_take_out}
use Rattle.link_words.proofs.Tells.{FindsClosedBy, ClaimsBy, LeavesTo, LeavesEmpty}
use Rattle.link_words.proofs.Weakens.{weaken}

-- a turn stands before the entries
pub turn_low : (t : LaneTurn) (lane : End) → place_in (turn_number t lane) < 160
turn_low lane_turn.Sender lane = sender_low lane
turn_low lane_turn.Receiver lane = receiver_low lane

-- the word of a receiver's turn tells its lane
pub same_receiver : (a b : End) → place_in (receiver_word a) ≡ place_in (receiver_word b) → a ≡ b
same_receiver side.Host side.Host same = refl
same_receiver side.Remote side.Remote same = refl
same_receiver side.Host side.Remote same = absurd (omega (arith, same))
same_receiver side.Remote side.Host same = absurd (omega (arith, same))

module _ {B : Type 0} {kc : Coded B} {kz : DeskTables} (cd : Coded (PlacedDesk kc kz)) (desk : DeskMeaning (PlacedDesk kc kz)) (z : LinkSizes) (n id : ℕ) (me : SeatState) where
  -- the step by the place of its pass
  abbrev pub Does : ℕ → (LaneLink (RingState (PlacedDesk kc kz)) → LaneLink (RingState (PlacedDesk kc kz)) → Type 0) → Deed → SeatState → Type 0
  Does k Reads d me' = IsStepOf cd desk Reads d (number_at k me.0.passes) (call_at k me.0.passes) (call_at k me'.0.passes) me me'

  -- at a load or an exchange, and at a store
  found_told : (i place : ℕ) (f : ℕ → ℕ) (o : Mover me.0) (k : ℕ) → o.place ≡ k → (d : ℕ → Deed) (T T' : ℕ → SeatState → Type 0) → place ≡ place_in i
      → Allows (WordsRule cd desk z) n id me i f (λ y me'. T y me' × StepBy cd desk (ReadsAt i y) me o (d o.pass.number) me') → ((y : ℕ) (me' : SeatState) → T y me' → T' y me')
      → Allows (PlacedRule cd desk z) n id me place f (λ y me'. T' y me' × Does k (HasWord place y) (d (number_at k me.0.passes)) me')
  found_told i place f o k here d T T' is allows follows =
      apart cd desk z n id me i place f (λ y me'. T' y me' × Does k (HasWord place y) (d (number_at k me.0.passes)) me') is
      (weaken (WordsRule cd desk z) n id me i f (λ y me'. T y me' × StepBy cd desk (ReadsAt i y) me o (d o.pass.number) me') (λ y me'. T' y me' × Does k (HasWord place y) (d (number_at k me.0.passes)) me')
      (λ y me' t. (follows y me' t.0, read_there cd desk i place y is _ _ _ _ me me' (step_told me o k here cd desk (ReadsAt i y) d me' t.1))) allows)

  stored_told : (i place : ℕ) (o : Mover me.0) (k : ℕ) → o.place ≡ k → (d : ℕ → Deed) (T T' : SeatState → Type 0) → place ≡ place_in i
      → Allows (WordsRule cd desk z) n id me i (λ _. 0) (λ _ me'. T me' × StepBy cd desk (WritesAt i 0) me o (d o.pass.number) me') → ((me' : SeatState) → T me' → T' me')
      → Allows (PlacedRule cd desk z) n id me place (λ _. 0) (λ _ me'. T' me' × Does k (StoresWord place 0) (d (number_at k me.0.passes)) me')
  stored_told i place o k here d T T' is allows follows =
      apart cd desk z n id me i place (λ _. 0) (λ _ me'. T' me' × Does k (StoresWord place 0) (d (number_at k me.0.passes)) me') is
      (weaken (WordsRule cd desk z) n id me i (λ _. 0) (λ _ me'. T me' × StepBy cd desk (WritesAt i 0) me o (d o.pass.number) me') (λ _ me'. T' me' × Does k (StoresWord place 0) (d (number_at k me.0.passes)) me')
      (λ y me' t. (follows me' t.0, written_there cd desk i place 0 is _ _ _ _ me me' (step_told me o k here cd desk (WritesAt i 0) d me' t.1))) allows)

  -- the load of the era
  finds_told : (o : Mover me.0) → o.place ≡ place_of me → (call : Call) → o.pass.call ≡ call → (y : ℕ) (me' : SeatState) → FindsClosedBy me o (doomed_call call) y me' → FindsClosed me y me'
  finds_told o here call is y me' t = (t.0, t.1, t.2, (λ shut. becomes me o (place_of me) here (λ p. with_call p (doomed_call p.call)) _ me.1 me' (ap (λ (c : Call). with_call o.pass (doomed_call c)) (sym is)) (t.3 shut)), t.4)

  pub finds : (call : Call) → StandsIn me call → HasTurn call
      → Allows (PlacedRule cd desk z) n id me 16 (λ y. y) (λ y me'. FindsClosed me y me' × Does (place_of me) (HasWord 16 y) Nothing me')
  finds (Sends e t x b) s has = found_told 1 16 (λ y. y) s.mover (place_of me) s.here (λ _. Nothing) (FindsClosedBy me s.mover (EndsSend e t x b)) (FindsClosed me) refl
      (dooms cd desk z n id me s.mover e t x b s.is has) (finds_told s.mover s.here (Sends e t x b) s.is)
  finds (Receives e t x b message) s has = found_told 1 16 (λ y. y) s.mover (place_of me) s.here (λ _. Nothing) (FindsClosedBy me s.mover (EndsReceive e t x b message)) (FindsClosed me) refl
      (dooms_receive cd desk z n id me s.mover e t x b message s.is) (finds_told s.mover s.here (Receives e t x b message) s.is)
  finds (Reclaims e x) s has = found_told 1 16 (λ y. y) s.mover (place_of me) s.here (λ _. Nothing) (FindsClosedBy me s.mover (EndsHeld e x)) (FindsClosed me) refl
      (shuts cd desk z n id me s.mover e x s.is) (finds_told s.mover s.here (Reclaims e x) s.is)
  finds Idle s has = absurd has
  finds (Rests e) s has = absurd has
  finds (EndsSend e t x b) s has = absurd has
  finds (EndsBoth e t x b y) s has = absurd has
  finds (EndsReceive e t x b message) s has = absurd has
  finds (EndsHeld e x) s has = absurd has
  finds (Reopens p inc a b) s has = absurd has
  finds (Gathers x y) s has = absurd has

  -- the attempt on the receiver's turn
  claims_told : (end : End) (caller : ℕ) (o : Mover me.0) → o.place ≡ place_of_number caller me.0.passes → (call : Call) → o.pass.call ≡ call → (y : ℕ) (me' : SeatState)
      → ClaimsBy me o end (λ x. claimed_call x call) (spared_call call) y me' × (y ≤ 65) → ClaimsTurn end caller me y me' × (y ≤ 65)
  claims_told end caller o here call is y me' t = let k = place_of_number caller me.0.passes in (
    (
      (λ free. let f = t.0.0 free in (f.0, becomes me o k here (λ p. with_call p (claimed_call f.0 p.call)) _ ((receiver_slot end, Receiver f.0) ∷ me.1) me' (ap (λ (c : Call). with_call o.pass (claimed_call f.0 c)) (sym is)) f.1)),
      (λ busy. becomes me o k here (λ p. with_call p (spared_call p.call)) _ me.1 me' (ap (λ (c : Call). with_call o.pass (spared_call c)) (sym is)) (t.0.1 busy)),
    ),
    t.1,
  )

  claims_by : (end : End) (caller place : ℕ) (o : Mover me.0) → o.place ≡ place_of_number caller me.0.passes → (call : Call) → o.pass.call ≡ call → place ≡ place_in (receiver_word end)
      → Allows (WordsRule cd desk z) n id me (receiver_word end) (λ y. either (eqb y 0) 65 y) (λ y me'. ClaimsBy me o end (λ x. claimed_call x call) (spared_call call) y me' × (y ≤ 65) × StepBy cd desk (ReadsAt (receiver_word end) y) me o (ManagerTakes lane_turn.Receiver end) me')
      → Allows (PlacedRule cd desk z) n id me place (λ y. either (eqb y 0) 65 y) (λ y me'. ClaimsTurn end caller me y me' × (y ≤ 65) × Does (place_of_number caller me.0.passes) (HasWord place y) (ManagerTakes lane_turn.Receiver end) me')
  claims_by end caller place o here call is at allows = let k = place_of_number caller me.0.passes in let i = receiver_word end in let f : ℕ → ℕ = λ y. either (eqb y 0) 65 y in
      apart cd desk z n id me i place f (λ y me'. ClaimsTurn end caller me y me' × (y ≤ 65) × Does k (HasWord place y) (ManagerTakes lane_turn.Receiver end) me') at
      (weaken (WordsRule cd desk z) n id me i f (λ y me'. ClaimsBy me o end (λ x. claimed_call x call) (spared_call call) y me' × (y ≤ 65) × StepBy cd desk (ReadsAt i y) me o (ManagerTakes lane_turn.Receiver end) me')
      (λ y me'. ClaimsTurn end caller me y me' × (y ≤ 65) × Does k (HasWord place y) (ManagerTakes lane_turn.Receiver end) me')
      (λ y me' t. let told = claims_told end caller o here call is y me' (t.0, t.1) in (told.0, told.1, read_there cd desk i place y at _ _ _ _ me me' (step_told me o k here cd desk (ReadsAt i y) (λ _. ManagerTakes lane_turn.Receiver end) me' t.2))) allows)

  pub claims_all : (end : End) (caller place : ℕ) (o : Mover me.0) → o.place ≡ place_of_number caller me.0.passes → place ≡ place_in (receiver_word end) → (call : Call) → o.pass.call ≡ call → IsUnclaimed end call
      → Allows (PlacedRule cd desk z) n id me place (λ y. either (eqb y 0) 65 y) (λ y me'. ClaimsTurn end caller me y me' × (y ≤ 65) × Does (place_of_number caller me.0.passes) (HasWord place y) (ManagerTakes lane_turn.Receiver end) me')
  claims_all end caller place o here at (Rests e) is un = claims_by end caller place o here (Rests e) is at
      (subst (λ (i : End). Allows (WordsRule cd desk z) n id me (receiver_word i) (λ y. either (eqb y 0) 65 y) (λ y me'. ClaimsBy me o i (λ x. Reclaims e x) (Rests e) y me' × (y ≤ 65) × StepBy cd desk (ReadsAt (receiver_word i) y) me o (ManagerTakes lane_turn.Receiver i) me')) un (claims cd desk z n id me o e is))
  claims_all end caller place o here at (EndsSend e t x b) is un = claims_by end caller place o here (EndsSend e t x b) is at
      (subst (λ (i : End). Allows (WordsRule cd desk z) n id me (receiver_word i) (λ y. either (eqb y 0) 65 y) (λ y me'. ClaimsBy me o i (λ w. EndsBoth e t x b w) (Sends e t x b) y me' × (y ≤ 65) × StepBy cd desk (ReadsAt (receiver_word i) y) me o (ManagerTakes lane_turn.Receiver i) me')) un.0 (claims_beside cd desk z n id me o e t x b is un.1))
  claims_all end caller place o here at Idle is un = absurd un
  claims_all end caller place o here at (Sends e t x b) is un = absurd un
  claims_all end caller place o here at (EndsBoth e t x b y) is un = absurd un
  claims_all end caller place o here at (Receives e t x b message) is un = absurd un
  claims_all end caller place o here at (EndsReceive e t x b message) is un = absurd un
  claims_all end caller place o here at (Reclaims e x) is un = absurd un
  claims_all end caller place o here at (EndsHeld e x) is un = absurd un
  claims_all end caller place o here at (Reopens p inc a b) is un = absurd un
  claims_all end caller place o here at (Gathers x y) is un = absurd un

  -- the leaves: what is told by the call is told by the pass that steps
  abbrev LeftBy : Mover me.0 → Call → SeatState → Type 0
  LeftBy o call me' = me' ≡ (with_pass me.0 o (ended_pass o.pass call) me'.0.copy, slots_left call me.1)

  left_told : (call : Call) (s : StandsIn me call) (me' : SeatState) → LeftBy s.mover call me' → LeavesEnded me me'
  left_told call s me' told = let k = place_of me in let same : call ≡ call_at k me.0.passes = sym s.is ∙ call_is me s.mover k s.here in
      becomes me s.mover k s.here (λ p. ended_pass p p.call) (ended_pass s.mover.pass call) (slots_left (call_at k me.0.passes) me.1) me' (ap (ended_pass s.mover.pass) (sym s.is))
      (told ∙ ap (λ (c : Call). (with_pass me.0 s.mover (ended_pass s.mover.pass call) me'.0.copy, slots_left c me.1)) same)

  leaves_by : (call : Call) (s : StandsIn me call) (turn : LaneTurn) (lane : End) (place : ℕ) → place ≡ place_in (turn_number turn lane)
      → Allows (WordsRule cd desk z) n id me (turn_number turn lane) (λ _. 0) (λ _ me'. LeftBy s.mover call me' × StepBy cd desk (WritesAt (turn_number turn lane) 0) me s.mover (ending_of call s.mover.pass.number) me')
      → Allows (PlacedRule cd desk z) n id me place (λ _. 0) (λ _ me'. LeavesEnded me me' × Does (place_of me) (StoresWord place 0) (ending_of (call_at (place_of me) me.0.passes) (number_at (place_of me) me.0.passes)) me')
  leaves_by call s turn lane place at allows = let k = place_of me in let same : call ≡ call_at k me.0.passes = sym s.is ∙ call_is me s.mover k s.here in
      subst (λ (c : Call). Allows (PlacedRule cd desk z) n id me place (λ _. 0) (λ _ me'. LeavesEnded me me' × Does k (StoresWord place 0) (ending_of c (number_at k me.0.passes)) me')) same
      (stored_told (turn_number turn lane) place s.mover k s.here (ending_of call) (LeftBy s.mover call) (LeavesEnded me) at allows (left_told call s))

  -- the leave of a send's turn
  sender_left : (e : End) (t : Turn Sending) (x : SenderSide) (b : ℕ) (call w : Call) (o : Mover me.0) → o.pass.call ≡ call → me.0.sizes ≡ z → (out : Bool) → sender_is_out t ≡ out → HasSlots out (buffer_slot me.0.sizes.to_host.capacity e b) (sender_slot e) (Sender x) me
      → (sender_is_out t ≡ false → me.1 ≡ (sender_slot e, Sender x) ∷ rest me.1 → Allows (WordsRule cd desk z) n id me (sender_word e) (λ _. 0) (λ _ me'. LeavesTo me o w (rest me.1) me' × StepBy cd desk (WritesAt (sender_word e) 0) me o (EndsCall (other e) o.pass.number) me'))
      → ((first : ℕ) (y : Slot) → sender_is_out t ≡ true → first ≡ z.to_host.capacity → me.1 ≡ (buffer_slot first e b, y) ∷ (sender_slot e, Sender x) ∷ rest (rest me.1)
      → Allows (WordsRule cd desk z) n id me (sender_word e) (λ _. 0) (λ _ me'. LeavesTo me o w (rest (rest me.1)) me' × StepBy cd desk (WritesAt (sender_word e) 0) me o (EndsCall (other e) o.pass.number) me'))
      → Allows (WordsRule cd desk z) n id me (sender_word e) (λ _. 0) (λ _ me'. LeavesTo me o w (cond (sender_is_out t) (rest (rest me.1)) (rest me.1)) me' × StepBy cd desk (WritesAt (sender_word e) 0) me o (EndsCall (other e) o.pass.number) me')
  sender_left e t x b call w o is sized true out slots bare full =
      subst (λ (u : Bool). Allows (WordsRule cd desk z) n id me (sender_word e) (λ _. 0) (λ _ me'. LeavesTo me o w (cond u (rest (rest me.1)) (rest me.1)) me' × StepBy cd desk (WritesAt (sender_word e) 0) me o (EndsCall (other e) o.pass.number) me')) (sym out)
      (full me.0.sizes.to_host.capacity slots.0 out (ap (λ (q : LinkSizes). q.to_host.capacity) sized) slots.1)
  sender_left e t x b call w o is sized false out slots bare full =
      subst (λ (u : Bool). Allows (WordsRule cd desk z) n id me (sender_word e) (λ _. 0) (λ _ me'. LeavesTo me o w (cond u (rest (rest me.1)) (rest me.1)) me' × StepBy cd desk (WritesAt (sender_word e) 0) me o (EndsCall (other e) o.pass.number) me')) (sym out)
      (bare out slots)

  -- the leave of a take's turn
  receiver_left : (e : End) (t : Turn Receiving) (x : ReceiverSide) (b : ℕ) (message : List ℕ) (o : Mover me.0) → o.pass.call ≡ EndsReceive e t x b message → is_manager t ≡ false → me.0.sizes ≡ z → (out : Bool) → receiver_is_out t ≡ out
      → HasFilledSlots out (buffer_slot me.0.sizes.to_host.capacity e b) message (receiver_slot e) (Receiver (without_hands x o.pass.number)) me
      → Allows (WordsRule cd desk z) n id me (receiver_word e) (λ _. 0) (λ _ me'. LeavesEmpty me o (Rests e) (cond (receiver_is_out t) (rest (rest me.1)) (rest me.1)) me' × StepBy cd desk (WritesAt (receiver_word e) 0) me o (EndsCall e o.pass.number) me')
  receiver_left e t x b message o is bare sized true out slots =
      subst (λ (u : Bool). Allows (WordsRule cd desk z) n id me (receiver_word e) (λ _. 0) (λ _ me'. LeavesEmpty me o (Rests e) (cond u (rest (rest me.1)) (rest me.1)) me' × StepBy cd desk (WritesAt (receiver_word e) 0) me o (EndsCall e o.pass.number) me')) (sym out)
      (ends_take_out cd desk z n id me o e t x (without_hands x o.pass.number) b me.0.sizes.to_host.capacity message is bare out (ap (λ (q : LinkSizes). q.to_host.capacity) sized) refl slots)
  receiver_left e t x b message o is bare sized false out slots =
      subst (λ (u : Bool). Allows (WordsRule cd desk z) n id me (receiver_word e) (λ _. 0) (λ _ me'. LeavesEmpty me o (Rests e) (cond u (rest (rest me.1)) (rest me.1)) me' × StepBy cd desk (WritesAt (receiver_word e) 0) me o (EndsCall e o.pass.number) me')) (sym out)
      (ends_receive_bare cd desk z n id me o e t x (without_hands x o.pass.number) b message is out refl slots)

  abbrev LeaveTold : ℕ → Type 0
  LeaveTold place = Allows (PlacedRule cd desk z) n id me place (λ _. 0) (λ _ me'. LeavesEnded me me' × Does (place_of me) (StoresWord place 0) (ending_of (call_at (place_of me) me.0.passes) (number_at (place_of me) me.0.passes)) me')

  ends_sender : (lane : End) (place : ℕ) → place ≡ place_in (sender_word lane) → me.0.sizes ≡ z → (call : Call) (s : StandsIn me call) → MayEnd lane_turn.Sender lane s.mover.pass.number me call → LeaveTold place
  ends_sender lane place at sized (EndsSend e t x b) s has = leaves_by (EndsSend e t x b) s lane_turn.Sender e place (at ∙ ap (λ (i : End). place_in (sender_word i)) (sym has.0))
      (sender_left e t x b (EndsSend e t x b) (Rests (other e)) s.mover s.is sized (sender_is_out t) refl has.2
      (ends_bare cd desk z n id me s.mover e t x b (EndsSend e t x b) (Rests (other e)) s.is has.1 (λ m p h. (h.0, h.1, h.2)) (λ m sound h. ends_send cd desk z m e s.mover.pass.number t x b sound h) ((λ i. refl), λ i. refl))
      (ends_out cd desk z n id me s.mover e t x b (EndsSend e t x b) (Rests (other e)) s.is has.1 (λ m p h. (h.0, h.1, h.2)) (λ m sound h. ends_send cd desk z m e s.mover.pass.number t x b sound h) ((λ i. refl), λ i. refl)))
  ends_sender lane place at sized (EndsBoth e t x b y) s has = leaves_by (EndsBoth e t x b y) s lane_turn.Sender e place (at ∙ ap (λ (i : End). place_in (sender_word i)) (sym has.0))
      (sender_left e t x b (EndsBoth e t x b y) (EndsHeld (other e) y) s.mover s.is sized (sender_is_out t) refl has.2
      (ends_bare cd desk z n id me s.mover e t x b (EndsBoth e t x b y) (EndsHeld (other e) y) s.is has.1 (λ m p h. (h.0, h.1, h.2)) (λ m sound h held. ends_beside cd desk z m e s.mover.pass.number t x b y h) ((λ i. refl), λ i. refl))
      (ends_out cd desk z n id me s.mover e t x b (EndsBoth e t x b y) (EndsHeld (other e) y) s.is has.1 (λ m p h. (h.0, h.1, h.2)) (λ m sound h held. ends_beside cd desk z m e s.mover.pass.number t x b y h) ((λ i. refl), λ i. refl)))
  ends_sender lane place at sized Idle s has = absurd has
  ends_sender lane place at sized (Rests e) s has = absurd has
  ends_sender lane place at sized (Sends e t x b) s has = absurd has
  ends_sender lane place at sized (Receives e t x b message) s has = absurd has
  ends_sender lane place at sized (EndsReceive e t x b message) s has = absurd has
  ends_sender lane place at sized (Reclaims e x) s has = absurd has
  ends_sender lane place at sized (EndsHeld e x) s has = absurd has
  ends_sender lane place at sized (Reopens p inc a b) s has = absurd has
  ends_sender lane place at sized (Gathers x y) s has = absurd has

  ends_receiver : (lane : End) (place : ℕ) → place ≡ place_in (receiver_word lane) → me.0.sizes ≡ z → (call : Call) (s : StandsIn me call) → MayEnd lane_turn.Receiver lane s.mover.pass.number me call → LeaveTold place
  ends_receiver lane place at sized (EndsReceive e t x b message) s has = leaves_by (EndsReceive e t x b message) s lane_turn.Receiver e place (at ∙ ap (λ (i : End). place_in (receiver_word i)) (sym has.0))
      (receiver_left e t x b message s.mover s.is has.1 sized (receiver_is_out t) refl has.2)
  ends_receiver lane place at sized (EndsHeld e x) s has = leaves_by (EndsHeld e x) s lane_turn.Receiver e place (at ∙ ap (λ (i : End). place_in (receiver_word i)) (sym has.0))
      (leaves_held cd desk z n id me s.mover e x (without_hands x s.mover.pass.number) s.is refl has.1)
  ends_receiver lane place at sized (Reclaims e x) s has = leaves_by (Reclaims e x) s lane_turn.Receiver e place (at ∙ ap (λ (i : End). place_in (receiver_word i)) (sym has.0))
      (releases cd desk z n id me s.mover e x s.is has.1)
  ends_receiver lane place at sized Idle s has = absurd has
  ends_receiver lane place at sized (Rests e) s has = absurd has
  ends_receiver lane place at sized (Sends e t x b) s has = absurd has
  ends_receiver lane place at sized (EndsSend e t x b) s has = absurd has
  ends_receiver lane place at sized (EndsBoth e t x b y) s has = absurd has
  ends_receiver lane place at sized (Receives e t x b message) s has = absurd has
  ends_receiver lane place at sized (Reopens p inc a b) s has = absurd has
  ends_receiver lane place at sized (Gathers x y) s has = absurd has

  pub ends : (turn : LaneTurn) (lane : End) (place : ℕ) → place ≡ place_in (turn_number turn lane) → me.0.sizes ≡ z → (call : Call) (s : StandsIn me call) → MayEnd turn lane s.mover.pass.number me call → LeaveTold place
  ends lane_turn.Sender lane place at sized call s has = ends_sender lane place at sized call s has
  ends lane_turn.Receiver lane place at sized call s has = ends_receiver lane place at sized call s has
