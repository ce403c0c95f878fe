-- A caller that has stopped, and what it has sent.
use Rattle.std.proofs.Common.{◌≡◌, ℕ, List, [], ◌++◌, refl, sym, ap, ◌∙◌, subst, append-nil}
use Rattle.std.specs.Prelude.{Result, Some, None}
use Rattle.std.specs.Result.{result_ok}
use base.Stored.{Coded}
use Rattle.lane_model.specs.Desks.{DeskMeaning}
use Rattle.link_words.specs.declared.rule.Event.{Event}
use Rattle.link_words.specs.declared.rule.LinkSizes.{LinkSizes}
use Rattle.link_words.specs.Histories.{sends_in}
use Rattle.link_words.specs.Words.{other}
use Rattle.split_ring.specs.declared.links.SharedLink.{SharedLink}
use Rattle.split_ring.specs.declared.callers.Caller.{Caller}
use Rattle.split_ring.specs.declared.callers.CallerId.{CallerId}
use Rattle.split_ring.specs.declared.calls.RingCall.{RingCall}
use Rattle.split_ring.specs.declared.sends.SendFault.{SendFault}
use Rattle.split_ring.specs.Callers.{IsCallerOf, MayAdvance, own_of}
use Rattle.split_ring.specs.Seats.{pass_in}
use Rattle.split_ring.specs.Sends.{IsSend}
use Rattle.link_threads.specs.Lives.{HasPublishedNone, HasSentAlone, HasStopped}
use Rattle.link_threads.proofs.Sends.{SendsOn, half_sent, published, quiet}

-- in no call
pub stopped_out : {D : Type 0} (link : SharedLink D) (caller : Caller) → IsCallerOf link caller → (pass_in caller.seat.me).hands ≡ [] → HasStopped link caller None
stopped_out link caller rests none = record {
  user = record { seat = rests.seat; one = rests.rests.one; number = rests.number; low = rests.low };
  stands = rests.rests;
  hands = none;
  buffer = refl;
}

module _ {D : Type 0} (coded : Coded D) (meaning : DeskMeaning D) where
  -- behind the fifth step of a send
  pub stopped_in : (link : SharedLink D) (message : List ℕ) (first caller : Caller) (call : RingCall D) → caller.id ≡ first.id → (pass_in first.seat.me).hands ≡ [] → MayAdvance link caller call
      → SendsOn coded meaning link.sizes first.id message first.seat.me 5 call.phase caller.seat.me → HasStopped link caller (Some call) × HasPublishedNone first caller
  stopped_in link message first caller call same none may sends =
      let half = half_sent coded meaning link.sizes caller.id message first.seat.me call.phase caller.seat.me
      (subst (λ (who : CallerId). SendsOn coded meaning link.sizes who message first.seat.me 5 call.phase caller.seat.me) (sym same) sends) may.stands in (
        record {
          user = record { seat = may.seat; one = half.one; number = may.number; low = may.low };
          stands = half.stands;
          hands = half.hands ∙ none;
          buffer = half.buffer;
        },
        (λ lane inc. quiet lane inc half.steps (own_of first) (own_of caller) half.own (half.none lane inc)),
      )

  -- a whole send by a caller that has done nothing, and then more that publishes nothing
  pub alone : (z : LinkSizes) (message : List ℕ) (r : Result ℕ SendFault) (a b c : Caller) → own_of a ≡ [] → b.id ≡ a.id → c.id ≡ b.id → IsSend coded meaning z a.id message r a.seat.me b.seat.me → HasPublishedNone b c
      → HasSentAlone c (result_ok r) message
  alone z message r a b c new same then send none =
      let id : c.id ≡ a.id = then ∙ same in
      let own : own_of b ≡ send.walk = send.done.own ∙ (ap (λ (l : List Event). send.walk ++ l) new ∙ append-nil send.walk) in
      none (other c.id.end) c.id.follows ∙ ((λ i. sends_in (other (id i).end) (id i).follows (own i)) ∙ published z a.id message r send.walk send.is)
