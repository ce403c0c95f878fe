-- A send that is taken step by step: how far it has come, by its entries, and what they publish.
use Rattle.std.proofs.Common.{◌≡◌, ℕ, ◌+◌, ◌<◌, ◌&&◌, ◌++◌, List, [], ◌∷◌, Bool, true, false, cond, refl, sym, ap, ◌∙◌, subst, append_assoc, append-nil, eqb, eq-eqb, arith}
use Rattle.std.specs.Prelude.{Result, Ok, Err}
use Rattle.std.specs.Result.{result_ok}
use Rattle.std.proofs.lemmas.Bool.{true≢false}
use base.Stored.{Coded}
use Rattle.rp_base.specs.declared.kinds.End.{End}
use Rattle.rp_base.specs.declared.kinds.End.TheVariants as side
use Rattle.lane_model.specs.declared.calls.Answer.{Answer}
use Rattle.lane_model.specs.declared.calls.Ask.{Ask}
use Rattle.lane_model.specs.declared.calls.Ask.TheVariants as ask
use Rattle.lane_model.specs.declared.calls.Progress.TheVariants as progress
use Rattle.lane_model.specs.declared.stages.SendStage.TheVariants as stage
use Rattle.lane_model.specs.Desks.{DeskMeaning}
use Rattle.link_words.specs.declared.rule.Event.{Event}
use Rattle.link_words.specs.declared.rule.Event.TheVariants.{Step, Count, Publish, Take}
use Rattle.link_words.specs.declared.rule.LinkSizes.{LinkSizes}
use Rattle.link_words.specs.declared.rule.Made.TheVariants as made
use Rattle.link_words.specs.Calls.{SeatState}
use Rattle.link_words.specs.Histories.{same_end, sends_in}
use Rattle.link_words.specs.Words.{other}
use Rattle.split_ring.specs.Calls.{ask_of, count_steps, hands_with, send_answer, Advances, HasCome, IsInPhase, IsWalkFor}
use Rattle.split_ring.specs.Reclaims.{StandsIn, buffer_in}
use Rattle.split_ring.specs.Seats.{pass_in}
use Rattle.split_ring.specs.Sends.{IsSendWalk}
use Rattle.split_ring.specs.Walks.{same_hands}
use Rattle.split_ring.specs.declared.binds.DeskAsk.{DeskAsk}
use Rattle.split_ring.specs.declared.binds.DeskAsk.TheVariants as asks
use Rattle.split_ring.specs.declared.callers.CallerId.{CallerId}
use Rattle.split_ring.specs.CallPhases.{Phase}
use Rattle.split_ring.specs.CallPhases as phase
use Rattle.split_ring.specs.declared.sends.SendFault.{SendFault}
use Rattle.split_ring.specs.declared.sends.SendFault.TheVariants as fault
use Rattle.link_threads.specs.Lives.{sent_alone}

either : (b : Bool) (new was old : List (ℕ × List ℕ)) (s : ℕ × List ℕ) → new ≡ old ++ was → cond b (new ++ s ∷ []) new ≡ old ++ cond b (was ++ s ∷ []) was
either true new was old s e = ap (λ (l : List (ℕ × List ℕ)). l ++ s ∷ []) e ∙ append_assoc old was (s ∷ [])
either false new was old s e = e

-- more entries publish more
pub sends_append : (e : End) (inc : ℕ) (xs ys : List Event) → sends_in e inc (xs ++ ys) ≡ sends_in e inc ys ++ sends_in e inc xs
sends_append e inc [] ys = sym (append-nil (sends_in e inc ys))
sends_append e inc (Step made ∷ xs) ys = sends_append e inc xs ys
sends_append e inc (Count lane i counts ∷ xs) ys = sends_append e inc xs ys
sends_append e inc (Take lane i number message ∷ xs) ys = sends_append e inc xs ys
sends_append e inc (Publish lane i number message ∷ xs) ys =
    either (same_end lane e && eqb i inc) (sends_in e inc (xs ++ ys)) (sends_in e inc xs) (sends_in e inc ys) (number, message) (sends_append e inc xs ys)

-- entries that publish nothing
pub quiet : (e : End) (inc : ℕ) (more before after : List Event) → after ≡ more ++ before → sends_in e inc more ≡ [] → sends_in e inc after ≡ sends_in e inc before
quiet e inc more before after is none =
    ap (sends_in e inc) is ∙ (sends_append e inc more before ∙ (ap (λ (l : List (ℕ × List ℕ)). sends_in e inc before ++ l) none ∙ append-nil (sends_in e inc before)))

-- how many steps more entries are of
counts : (xs ys : List Event) → count_steps (xs ++ ys) ≡ count_steps xs + count_steps ys
counts [] ys = omega arith
counts (Step made ∷ xs) ys = let e = counts xs ys in omega arith
counts (Count lane i of ∷ xs) ys = let e = counts xs ys in omega arith
counts (Publish lane i number message ∷ xs) ys = let e = counts xs ys in omega arith
counts (Take lane i number message ∷ xs) ys = counts xs ys

-- one step more
one_more : (xs es ys base middle after : List Event) → middle ≡ xs ++ base → after ≡ es ++ middle → after ≡ ys ++ base → count_steps es ≡ 1 → count_steps ys ≡ count_steps xs + 1
one_more xs es ys base middle after first then all one =
    let a = counts xs base in let b = counts es middle in let c = counts ys base in
    let d : count_steps middle ≡ count_steps (xs ++ base) = ap count_steps first in
    let e : count_steps (es ++ middle) ≡ count_steps (ys ++ base) = ap count_steps (sym then ∙ all) in
    omega arith

-- whether this asks for a send
abbrev asks_send : Ask → Bool
asks_send (ask.Send message) = true
asks_send ask.Take = false
asks_send (ask.Give held) = false
asks_send (ask.Bind address) = false
asks_send (ask.Unbind address) = false

asks_desk : (a : DeskAsk) → asks_send (ask_of a) ≡ false
asks_desk (asks.Bind address) = refl
asks_desk (asks.Unbind address) = refl

module _ (z : LinkSizes) (who : CallerId) (message : List ℕ) where
  -- no whole send has six steps
  not_six : (r : Result ℕ SendFault) (walk : List Event) → IsSendWalk z who message r walk → count_steps walk ≡ 6 → ⊥
  not_six (Ok number) walk is six = let n : count_steps walk ≡ 7 = ap count_steps is.2 in absurd (omega arith)
  not_six (Err (fault.Busy holder)) walk is six = let n : count_steps walk ≡ 1 = ap count_steps is in absurd (omega arith)
  not_six (Err (fault.Dead era)) walk is six = let n : count_steps walk ≡ 3 = ap count_steps is.0 in absurd (omega arith)
  not_six (Err (fault.NoBuffer accepted returned)) walk is six = let n : count_steps walk ≡ 4 = ap count_steps is.0 in absurd (omega arith)
  not_six (Err (fault.BookFull accepted)) walk is six = let n : count_steps walk ≡ 4 = ap count_steps is.1 in absurd (omega arith)

  -- one of fewer publishes nothing
  short_quiet : (e : End) (inc : ℕ) (r : Result ℕ SendFault) (walk : List Event) → IsSendWalk z who message r walk → count_steps walk < 7 → sends_in e inc walk ≡ []
  short_quiet e inc (Ok number) walk is short = let n : count_steps walk ≡ 7 = ap count_steps is.2 in absurd (omega arith)
  short_quiet e inc (Err (fault.Busy holder)) walk is short = ap (sends_in e inc) is
  short_quiet e inc (Err (fault.Dead era)) walk is short = ap (sends_in e inc) is.0
  short_quiet e inc (Err (fault.NoBuffer accepted returned)) walk is short = ap (sends_in e inc) is.0
  short_quiet e inc (Err (fault.BookFull accepted)) walk is short = ap (sends_in e inc) is.1

-- a send hands nothing over
send_hands : (r : Result ℕ SendFault) → hands_with (send_answer r) ≡ same_hands
send_hands (Ok number) = refl
send_hands (Err (fault.Busy holder)) = refl
send_hands (Err (fault.Dead era)) = refl
send_hands (Err (fault.NoBuffer accepted returned)) = refl
send_hands (Err (fault.BookFull accepted)) = refl

module _ {D : Type 0} (coded : Coded D) (meaning : DeskMeaning D) (z : LinkSizes) (who : CallerId) (message : List ℕ) (start : SeatState) where
  -- a send of this message, begun from there, has come to this phase in so many steps
  pub record SendsOn (steps : ℕ) (phase : Phase) (me : SeatState) : Type 0 where
    pub come : HasCome coded meaning z who (ask.Send message) start phase me
    pub counted : count_steps come.steps ≡ steps

  -- none where it begins
  pub begun : (p : Phase) → p ≡ phase.Asked (ask.Send message) → SendsOn 0 p start
  begun p is = subst (λ (q : Phase). SendsOn 0 q start) (sym is) (record { come = record { steps = []; path = (refl, refl); done = record { own = refl; number = refl; first = refl; in_hand = refl; sizes = refl; stepped = refl } }; counted = refl })

  -- in one more
  pub goes_on : (steps number : ℕ) (now : CallerId) (before after : Phase) (me me' : SeatState) → now ≡ who → SendsOn steps before me → Advances coded meaning z now before (progress.At number) after me me' → SendsOn (steps + 1) after me'
  goes_on steps number now before after me me' same so_far step =
      let advance = subst (λ (i : CallerId). Advances coded meaning z i before (progress.At number) after me me') same step in
      let come = (advance.comes (ask.Send message) start so_far.come).0 in
      let more = one_more so_far.come.steps advance.events come.steps (pass_in start).own (pass_in me).own (pass_in me').own so_far.come.done.own advance.done.own come.done.own advance.one in
      let was = so_far.counted in
      record { come = come; counted = omega arith }

  -- or it has ended by it, has published nothing within six steps, and what is in hand is as before
  pub record EndsQuietly (me : SeatState) : Type 0 where
    pub walk : List Event
    pub own : (pass_in me).own ≡ walk ++ (pass_in start).own
    pub none : (e : End) (inc : ℕ) → sends_in e inc walk ≡ []
    pub hands : (pass_in me).hands ≡ (pass_in start).hands

  pub ends : (steps : ℕ) (said : Answer) (now : CallerId) (before after : Phase) (me me' : SeatState) → now ≡ who → steps < 6 → SendsOn steps before me → Advances coded meaning z now before (progress.Done said) after me me' → EndsQuietly me'
  ends steps said now before after me me' same few so_far step =
      let advance = subst (λ (i : CallerId). Advances coded meaning z i before (progress.Done said) after me me') same step in
      let end = advance.comes (ask.Send message) start so_far.come in
      let more = one_more so_far.come.steps advance.events end.walk (pass_in start).own (pass_in me).own (pass_in me').own so_far.come.done.own advance.done.own end.done.own advance.one in
      let was = so_far.counted in
      record {
        walk = end.walk;
        own = end.done.own;
        none = λ e inc. short_quiet z who message e inc end.is.0 end.walk end.is.2 (omega arith);
        hands = end.done.in_hand ∙ ap (λ (f : List ℕ → List ℕ). f (pass_in start).hands) (ap hands_with end.is.1 ∙ send_hands end.is.0);
      }

  -- behind its fifth step a send has its turn and a buffer out, and has published nothing
  pub record IsHalfSent (p : Phase) (me : SeatState) : Type 0 where
    pub steps : List Event
    pub own : (pass_in me).own ≡ steps ++ (pass_in start).own
    pub none : (e : End) (inc : ℕ) → sends_in e inc steps ≡ []
    pub hands : (pass_in me).hands ≡ (pass_in start).hands
    pub one : me.0.passes ≡ pass_in me ∷ []
    pub stands : StandsIn z who p me
    pub buffer : buffer_in p ≡ []

  few : (n : ℕ) (steps : List Event) → count_steps steps ≡ 5 → count_steps steps ≡ n → n < 5 → ⊥
  few n steps five is less = absurd (omega arith)

  no_walk : (said : Answer) (steps : List Event) (me : SeatState) → count_steps steps ≡ 5 → IsWalkFor coded meaning z who (ask.Send message) said (Step made.Left ∷ steps) [] start me → ⊥
  no_walk said steps me five is = not_six z who message is.0 (Step made.Left ∷ steps) is.2 (omega arith)

  pub half_sent : (p : Phase) (me : SeatState) → SendsOn 5 p me → IsInPhase z who p me → IsHalfSent p me
  half_sent (phase.Asked a) me s at = absurd (few 0 s.come.steps s.counted (ap count_steps s.come.path.1) (omega arith))
  half_sent (phase.Sends stage.Turn c m) me s at = absurd (few 1 s.come.steps s.counted (ap count_steps s.come.path.1) (omega arith))
  half_sent (phase.Sends stage.Era c m) me s at = absurd (few 2 s.come.steps s.counted (ap count_steps s.come.path.1) (omega arith))
  half_sent (phase.Sends stage.Look c m) me s at = absurd (few 3 s.come.steps s.counted (ap count_steps s.come.path.1.1) (omega arith))
  half_sent (phase.Sends stage.Buffer c m) me s at = absurd (few 4 s.come.steps s.counted (ap count_steps s.come.path.1.1) (omega arith))
  half_sent (phase.Sends stage.Entry c m) me s at = record {
    steps = s.come.steps;
    own = s.come.done.own;
    none = λ e inc. ap (sends_in e inc) s.come.path.1.1;
    hands = s.come.done.in_hand;
    one = at.0.0.one;
    stands = at;
    buffer = refl;
  }
  half_sent (phase.Takes done c buffer) me s at = absurd (true≢false (ap asks_send s.come.path.0))
  half_sent (phase.Gives done held returned) me s at = absurd (true≢false (ap asks_send s.come.path.0))
  half_sent (phase.Asks a) me s at = absurd (true≢false (ap asks_send s.come.path.0 ∙ asks_desk a))
  half_sent (phase.LeavesSender said) me s at = absurd (no_walk said s.come.steps me s.counted s.come.path)
  half_sent (phase.LeavesReceiver said) me s at = absurd (no_walk said s.come.steps me s.counted s.come.path)
  half_sent phase.Ended me s at = absurd at

here : (e : End) (inc : ℕ) → same_end e e && eqb inc inc ≡ true
here side.Host inc = eq-eqb inc inc refl
here side.Remote inc = eq-eqb inc inc refl

-- a whole send publishes its message, where it was accepted, and else nothing
pub published : (z : LinkSizes) (who : CallerId) (message : List ℕ) (r : Result ℕ SendFault) (walk : List Event) → IsSendWalk z who message r walk → sends_in (other who.end) who.follows walk ≡ sent_alone (result_ok r) message
published z who message (Ok number) walk is =
    ap (sends_in (other who.end) who.follows) is.2 ∙ ap (λ (b : Bool). cond b ((number, message) ∷ []) []) (here (other who.end) who.follows)
published z who message (Err (fault.Busy holder)) walk is = ap (sends_in (other who.end) who.follows) is
published z who message (Err (fault.Dead era)) walk is = ap (sends_in (other who.end) who.follows) is.0
published z who message (Err (fault.NoBuffer accepted returned)) walk is = ap (sends_in (other who.end) who.follows) is.0
published z who message (Err (fault.BookFull accepted)) walk is = ap (sends_in (other who.end) who.follows) is.1
