-- What a caller's own list says behind a take and behind its give.
use Rattle.std.proofs.Common.{◌≡◌, ℕ, ◌++◌, List, [], ◌∷◌, sym, ap, ◌∙◌, append_assoc}
use Rattle.std.specs.Prelude.{Ok}
use base.Stored.{Coded}
use Rattle.lane_model.specs.Desks.{DeskMeaning}
use Rattle.link_words.specs.declared.rule.Event.{Event}
use Rattle.link_words.specs.declared.rule.Event.TheVariants.{Step, Take}
use Rattle.link_words.specs.declared.rule.Made.TheVariants as made
use Rattle.split_ring.specs.declared.callers.Caller.{Caller}
use Rattle.split_ring.specs.declared.takes.Taken.{Taken}
use Rattle.split_ring.specs.Callers.{own_of}
use Rattle.split_ring.specs.Receives.{IsTake, message_look}
use Rattle.split_ring.specs.Sends.{live_era}
use Rattle.link_threads.specs.Lives.{HasGrown, HasTaken}

-- more again
pub grown_then : (a b c : Caller) (walk : List Event) → HasGrown a b → own_of c ≡ walk ++ own_of b → HasGrown a c
grown_then a b c walk grown is = record { more = walk ++ grown.more; own = is ∙ (ap (λ (l : List Event). walk ++ l) grown.own ∙ sym (append_assoc walk grown.more (own_of a))) }

-- what was handed over is in the list still when more was done
pub took : {D : Type 0} (coded : Coded D) (meaning : DeskMeaning D) (taken : Taken) (number : ℕ) (message : List ℕ) (a b c : Caller) → number ≡ taken.held.number → message ≡ taken.held.message → b.id ≡ a.id → c.id ≡ b.id → IsTake coded meaning a.id (Ok taken) a.seat.me b.seat.me → HasGrown b c
    → HasTaken c number message
took coded meaning taken n m a b c numbered said same then take grown =
    let number = take.is.0 in let message = take.is.1 in let handed = take.is.4 in
    let top : List Event = Step made.Left ∷ Step (made.Era (live_era a.id.follows)) ∷ [] in
    let rest : List Event = Step (made.Buffer take.is.2) ∷ message_look a.id number take.is.3 ∷ Step (made.Era (live_era a.id.follows)) ∷ Step (made.Turn 0) ∷ own_of a in
    let id : a.id ≡ c.id = sym (then ∙ same) in
    let count : number ≡ n = sym (numbered ∙ handed.numbered) in
    let text : message ≡ m = sym (said ∙ handed.said) in
    let walked : own_of b ≡ top ++ Take a.id.end a.id.follows number message ∷ rest = take.done.own ∙ ap (λ (l : List Event). l ++ own_of a) take.is.5 in
    record {
      later = grown.more ++ top;
      earlier = rest;
      own = grown.own ∙ (ap (λ (l : List Event). grown.more ++ l) walked
          ∙ (sym (append_assoc grown.more top (Take a.id.end a.id.follows number message ∷ rest))
          ∙ (λ i. (grown.more ++ top) ++ Take (id i).end (id i).follows (count i) (text i) ∷ rest)));
    }
