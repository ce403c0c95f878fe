-- What the entries of calls say of what was sent.
use Rattle.std.proofs.Common.{◌≡◌, ℕ, ◌++◌, ◌&&◌, List, [], ◌∷◌, Bool, true, false, cond, refl, sym, ap, ◌∙◌, ⊎_elim, eqb, eq-eqb, append-nil, append_assoc, not}
use Rattle.std.specs.Prelude.{Result, Ok, Err}
use Rattle.rp_base.specs.declared.kinds.End.{End}
use Rattle.rp_base.specs.declared.kinds.End.TheVariants as side
use Rattle.lane_model.specs.Desks.{DeskMeaning}
use Rattle.lane_model.specs.HeldBuffers.{HeldBuffer}
use Rattle.link_words.specs.declared.rule.Event.{Event}
use Rattle.link_words.specs.declared.rule.Event.TheVariants.{Step, Count, Publish, Take}
use Rattle.link_words.specs.declared.rule.LinkSizes.{LinkSizes}
use Rattle.link_words.specs.Histories.{same_end, sends_in}
use Rattle.link_words.specs.Steps.{hands_but}
use Rattle.link_words.specs.Words.{other}
use Rattle.split_ring.specs.declared.callers.CallerId.{CallerId}
use Rattle.split_ring.specs.declared.gives.GiveBusy.{GiveBusy}
use Rattle.split_ring.specs.declared.sends.SendFault.{SendFault}
use Rattle.split_ring.specs.declared.sends.SendFault.TheVariants as fault
use Rattle.split_ring.specs.declared.takes.Taken.{Taken}
use Rattle.split_ring.specs.declared.takes.TakeFault.{TakeFault}
use Rattle.split_ring.specs.declared.takes.TakeFault.TheVariants as take_fault
use Rattle.split_ring.specs.Receives.{IsGiveWalk, IsTakeWalk}
use Rattle.split_ring.specs.Sends.{IsSendWalk}
use Rattle.split_ring.specs.Waits.{AreBusyTries}

either : (b : Bool) (new was old : List (ℕ × List ℕ)) (s : ℕ × List ℕ) → new ≡ old ++ was → cond b (new ++ s ∷ []) new ≡ old ++ cond b (was ++ s ∷ []) was
either true new was old s e = ap (λ (l : List (ℕ × List ℕ)). l ++ s ∷ []) e ∙ append_assoc old was (s ∷ [])
either false new was old s e = e

-- more entries send more
pub sends_append : (e : End) (inc : ℕ) (xs ys : List Event) → sends_in e inc (xs ++ ys) ≡ sends_in e inc ys ++ sends_in e inc xs
sends_append e inc [] ys = sym (append-nil (sends_in e inc ys))
sends_append e inc (Step made ∷ xs) ys = sends_append e inc xs ys
sends_append e inc (Count lane i counts ∷ xs) ys = sends_append e inc xs ys
sends_append e inc (Take lane i number message ∷ xs) ys = sends_append e inc xs ys
sends_append e inc (Publish lane i number message ∷ xs) ys =
    either (same_end lane e && eqb i inc) (sends_in e inc (xs ++ ys)) (sends_in e inc xs) (sends_in e inc ys) (number, message) (sends_append e inc xs ys)

-- tries that were answered Busy send nothing
busy_sends : (e : End) (inc : ℕ) (busy : List Event) → AreBusyTries busy → sends_in e inc busy ≡ []
busy_sends e inc [] tries = refl
busy_sends e inc (x ∷ busy) tries = ap (λ (y : Event). sends_in e inc (y ∷ busy)) tries.0.1 ∙ busy_sends e inc busy tries.1

-- a walk behind such tries sends what it sends
pub tried_sends : (e : End) (inc : ℕ) (walk busy : List Event) (sent : List (ℕ × List ℕ)) → AreBusyTries busy → sends_in e inc walk ≡ sent → sends_in e inc (walk ++ busy) ≡ sent
tried_sends e inc walk busy sent tries walked = sends_append e inc walk busy ∙ (λ i. busy_sends e inc busy tries i ++ walked i)

here : (e : End) (inc : ℕ) → same_end e e && eqb inc inc ≡ true
here side.Host inc = eq-eqb inc inc refl
here side.Remote inc = eq-eqb inc inc refl

-- a send that was accepted sends its message
pub send_sends : (z : LinkSizes) (who : CallerId) (message : List ℕ) (number : ℕ) (walk : List Event) → IsSendWalk z who message (Ok number) walk → sends_in (other who.end) who.follows walk ≡ (number, message) ∷ []
send_sends z who message number walk is =
    ap (λ (w : List Event). sends_in (other who.end) who.follows w) is.2 ∙ ap (λ (b : Bool). cond b ((number, message) ∷ []) []) (here (other who.end) who.follows)

-- and none to the end of its caller
elsewhere : (e : End) (inc : ℕ) → same_end (other e) e && eqb inc inc ≡ false
elsewhere side.Host inc = refl
elsewhere side.Remote inc = refl

pub send_elsewhere : (z : LinkSizes) (who : CallerId) (message : List ℕ) (number : ℕ) (walk : List Event) → IsSendWalk z who message (Ok number) walk → sends_in who.end who.follows walk ≡ []
send_elsewhere z who message number walk is =
    ap (λ (w : List Event). sends_in who.end who.follows w) is.2 ∙ ap (λ (b : Bool). cond b ((number, message) ∷ []) []) (elsewhere who.end who.follows)

-- and another none
pub fault_sends : (e : End) (inc : ℕ) (z : LinkSizes) (who : CallerId) (message : List ℕ) (found : SendFault) (walk : List Event) → IsSendWalk z who message (Err found) walk → sends_in e inc walk ≡ []
fault_sends e inc z who message (fault.Busy holder) walk is = ap (λ (w : List Event). sends_in e inc w) is
fault_sends e inc z who message (fault.Dead era) walk is = ap (λ (w : List Event). sends_in e inc w) is.0
fault_sends e inc z who message (fault.NoBuffer accepted returned) walk is = ap (λ (w : List Event). sends_in e inc w) is.0
fault_sends e inc z who message (fault.BookFull accepted) walk is = ap (λ (w : List Event). sends_in e inc w) is.1

-- nor does a take
pub take_sends : {D : Type 0} (meaning : DeskMeaning D) (e : End) (inc : ℕ) (who : CallerId) (answer : Result Taken TakeFault) (walk : List Event) → IsTakeWalk meaning who answer walk → sends_in e inc walk ≡ []
take_sends meaning e inc who (Err (take_fault.Busy holder)) walk is = ap (λ (w : List Event). sends_in e inc w) is
take_sends meaning e inc who (Err (take_fault.Dead era)) walk is =
    ⊎_elim (λ early. ap (λ (w : List Event). sends_in e inc w) early) (λ late. ap (λ (w : List Event). sends_in e inc w) late.3) is.0
take_sends meaning e inc who (Err (take_fault.Empty accepted)) walk is = ap (λ (w : List Event). sends_in e inc w) is
take_sends meaning e inc who (Ok taken) walk is = ap (λ (w : List Event). sends_in e inc w) is.5

-- nor a give
pub give_sends : (e : End) (inc : ℕ) (end : End) (now : ℕ) (held : HeldBuffer) (answer : Result ℕ GiveBusy) (walk : List Event) → IsGiveWalk end now held answer walk → sends_in e inc walk ≡ []
give_sends e inc end now held (Err busy) walk is = ap (λ (w : List Event). sends_in e inc w) is.0
give_sends e inc end now held (Ok number) walk is = ap (λ (w : List Event). sends_in e inc w) is.1.1

-- the one number in hand is given back
pub none_left : (n : ℕ) → hands_but (n ∷ []) n ≡ []
none_left n = ap (λ (b : Bool). cond (not b) (n ∷ []) []) (eq-eqb n n refl)
