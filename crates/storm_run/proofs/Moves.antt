-- What a caller has sent after its calls.
use Rattle.std.proofs.Common.{◌≡◌, ◌≤◌, ◌+◌, ◌*◌, length, slice_index_or, ℕ, ◌++◌, List, [], ◌∷◌, map, refl, sym, ap, ◌∙◌, append_assoc, append-nil, subst, add-one, arith}
use Rattle.std.proofs.lemmas.List.{map-append}
use Rattle.std.specs.Prelude.{Result, Ok, Err}
use base.Stored.{Coded}
use Rattle.rp_base.specs.declared.kinds.End.{End}
use Rattle.rp_base.specs.declared.kinds.End.TheVariants as side
use Rattle.lane_model.specs.Desks.{DeskMeaning}
use Rattle.lane_model.specs.HeldBuffers.{HeldBuffer}
use Rattle.link_words.specs.declared.rule.Event.{Event}
use Rattle.link_words.specs.declared.rule.LinkSizes.{LinkSizes}
use Rattle.link_words.specs.Histories.{sends_in}
use Rattle.link_words.specs.Words.{other}
use Rattle.channel_bus.specs.declared.sides.Side.{Side}
use Rattle.split_ring.specs.declared.callers.Caller.{Caller}
use Rattle.split_ring.specs.declared.callers.CallerId.{CallerId}
use Rattle.split_ring.specs.declared.links.SharedLink.{SharedLink}
use Rattle.split_ring.specs.declared.gives.GiveBusy.{GiveBusy}
use Rattle.split_ring.specs.declared.sends.SendFault.{SendFault}
use Rattle.split_ring.specs.declared.takes.Taken.{Taken}
use Rattle.split_ring.specs.declared.takes.TakeFault.{TakeFault}
use Rattle.split_ring.specs.declared.takes.TakeFault.TheVariants as take_fault
use Rattle.split_ring.specs.Callers.{own_of}
use Rattle.split_ring.specs.Receives.{IsGive}
use Rattle.split_ring.specs.Seats.{pass_in}
use Rattle.split_ring.specs.Waits.{IsWaitingSend, IsWaitingTake}
use Rattle.storm_run.specs.declared.tasks.Task.{Task}
use Rattle.storm_run.specs.declared.workers.Found.TheVariants as found
use Rattle.storm_run.specs.Rounds.{HasFoundAll, HasSent, HasWorked, IsFree, IsWholeRound, count_on, empty_walk, mine, storm_message, storm_messages}
use Rattle.storm_run.specs.Tasks.{HasTurned, HaveWorked, IsTaskOf, least_in}
use Rattle.storm_run.proofs.Lists.{sends_append, tried_sends, send_sends, send_elsewhere, fault_sends, take_sends, give_sends}

-- by its entries
abbrev pub sent_by : (messages : List (List ℕ)) (before after : Caller) (did : List Event) → after.id ≡ before.id → own_of after ≡ did ++ own_of before
    → map (λ (sent : ℕ × List ℕ). sent.1) (sends_in (other before.id.end) before.id.follows did) ≡ messages → sends_in before.id.end before.id.follows did ≡ []
    → (pass_in after.seat.me).first ≡ (pass_in before.seat.me).first → HasSent messages before after
sent_by messages before after did same own said none_here first = record {
  same = same;
  did = did;
  own = own;
  new = sends_in (other before.id.end) before.id.follows did;
  more = (λ i. sends_in (other (same i).end) (same i).follows (own i)) ∙ sends_append (other before.id.end) before.id.follows did (own_of before);
  said = said;
  none_here = none_here;
  first = first;
}

-- nothing yet
pub none_sent : (caller : Caller) → HasSent [] caller caller
none_sent caller = sent_by [] caller caller [] refl refl refl refl refl

-- and then more
abbrev pub sent_then : (messages more : List (List ℕ)) (a b c : Caller) → HasSent messages a b → HasSent more b c → HasSent (messages ++ more) a c
sent_then messages more a b c first then = record {
  same = then.same ∙ first.same;
  did = then.did ++ first.did;
  own = then.own ∙ (ap (λ (l : List Event). then.did ++ l) first.own ∙ sym (append_assoc then.did first.did (own_of a)));
  new = first.new ++ then.new;
  more = then.more ∙ (ap (λ (l : List (ℕ × List ℕ)). l ++ then.new) first.more ∙ append_assoc (mine a) first.new then.new);
  said = map-append (λ (sent : ℕ × List ℕ). sent.1) first.new then.new ∙ (λ i. first.said i ++ then.said i);
  none_here = sends_append a.id.end a.id.follows then.did first.did
      ∙ (λ i. first.none_here i ++ (ap (λ (who : CallerId). sends_in who.end who.follows then.did) (sym first.same) ∙ then.none_here) i);
  first = then.first ∙ first.first;
}

abbrev pub said_as : (messages said : List (List ℕ)) (a b : Caller) → messages ≡ said → HasSent messages a b → HasSent said a b
said_as messages said a b is sent = record { same = sent.same; did = sent.did; own = sent.own; new = sent.new; more = sent.more; said = sent.said ∙ is; none_here = sent.none_here; first = sent.first }

-- the next message
pub sent_next : (count : ℕ) (message : List ℕ) (first a b : Caller) → message ≡ storm_message a.id.number count → HasSent (message ∷ []) a b → HasSent (storm_messages first.id.number count) first a
    → HasSent (storm_messages first.id.number (count + 1)) first b
sent_next count message first a b is one so_far =
    let n = first.id.number in
    let next : message ≡ storm_message n count = is ∙ ap (λ (who : CallerId). storm_message who.number count) so_far.same in
    said_as (storm_messages n count ++ message ∷ []) (storm_messages n (count + 1)) first b
    ((λ i. storm_messages n count ++ next i ∷ []) ∙ ap (storm_messages n) (sym (add-one count)))
    (sent_then (storm_messages n count) (message ∷ []) first a b so_far one)

-- nothing more
abbrev pub sent_still : (messages : List (List ℕ)) (a b c : Caller) → HasSent messages a b → HasSent [] b c → HasSent messages a c
sent_still messages a b c so_far none = said_as (messages ++ []) messages a c (append-nil messages) (sent_then messages [] a b c so_far none)

-- what was found is found among more entries
found_then : (who : CallerId) (least more : ℕ) (did before : List Event) → HasFoundAll who more did → least ≤ more → HasFoundAll who least (did ++ before)
found_then who least more did before found enough = record {
  accepted = found.accepted;
  enough = (let most = found.enough in omega arith);
  later = found.later;
  earlier = found.earlier ++ before;
  within = ap (λ (l : List Event). l ++ before) found.within
      ∙ (append_assoc found.later (empty_walk who found.accepted ++ found.earlier) before
      ∙ ap (λ (l : List Event). found.later ++ l) (append_assoc (empty_walk who found.accepted) found.earlier before));
}

-- the work is done
pub worked : (link : SharedLink Side) (count least accepted : ℕ) (a b c : Caller) → IsFree link c → HasSent (storm_messages a.id.number count) a b → HasTurned (found.Empty accepted) b c → least ≤ accepted
    → HasWorked link count least a c
worked link count least accepted a b c free sent turned enough = record {
  free = free;
  sent = sent_still (storm_messages a.id.number count) a b c sent turned.sent;
  found = found_then a.id least accepted turned.sent.did sent.did (subst (λ (who : CallerId). HasFoundAll who accepted turned.sent.did) sent.same turned.found) enough;
}

module _ {D : Type 0} (coded : Coded D) (meaning : DeskMeaning D) where
  -- a send
  pub sent_one : (z : LinkSizes) (message : List ℕ) (number : ℕ) (a b : Caller) → b.id ≡ a.id → IsWaitingSend coded meaning z a.id message (Ok number) a.seat.me b.seat.me → HasSent (message ∷ []) a b
  sent_one z message number a b same send =
      sent_by (message ∷ []) a b (send.walk ++ send.busy) same send.done.own
      (ap (λ (l : List (ℕ × List ℕ)). map (λ (s : ℕ × List ℕ). s.1) l)
      (tried_sends (other a.id.end) a.id.follows send.walk send.busy ((number, message) ∷ []) send.tries (send_sends z a.id message number send.walk send.is)))
      (tried_sends a.id.end a.id.follows send.walk send.busy [] send.tries (send_elsewhere z a.id message number send.walk send.is)) send.done.first

  pub sent_none : (z : LinkSizes) (message : List ℕ) (found : SendFault) (a b : Caller) → b.id ≡ a.id → IsWaitingSend coded meaning z a.id message (Err found) a.seat.me b.seat.me → HasSent [] a b
  sent_none z message found a b same send =
      sent_by [] a b (send.walk ++ send.busy) same send.done.own
      (ap (λ (l : List (ℕ × List ℕ)). map (λ (s : ℕ × List ℕ). s.1) l)
      (tried_sends (other a.id.end) a.id.follows send.walk send.busy [] send.tries (fault_sends (other a.id.end) a.id.follows z a.id message found send.walk send.is)))
      (tried_sends a.id.end a.id.follows send.walk send.busy [] send.tries (fault_sends a.id.end a.id.follows z a.id message found send.walk send.is)) send.done.first

  -- a take
  abbrev pub took : (answer : Result Taken TakeFault) (a b : Caller) → b.id ≡ a.id → IsWaitingTake coded meaning a.id answer a.seat.me b.seat.me → HasSent [] a b
  took answer a b same take =
      sent_by [] a b (take.walk ++ take.busy) same take.done.own
      (ap (λ (l : List (ℕ × List ℕ)). map (λ (s : ℕ × List ℕ). s.1) l)
      (tried_sends (other a.id.end) a.id.follows take.walk take.busy [] take.tries (take_sends meaning (other a.id.end) a.id.follows a.id answer take.walk take.is)))
      (tried_sends a.id.end a.id.follows take.walk take.busy [] take.tries (take_sends meaning a.id.end a.id.follows a.id answer take.walk take.is)) take.done.first

  -- and one that was answered Empty
  pub found_empty : (accepted : ℕ) (answer : Result Taken TakeFault) (a b : Caller) → answer ≡ Err (take_fault.Empty accepted) → b.id ≡ a.id → IsWaitingTake coded meaning a.id answer a.seat.me b.seat.me → HasTurned (found.Empty accepted) a b
  found_empty accepted answer a b is same take =
      let taken = subst (λ (r : Result Taken TakeFault). IsWaitingTake coded meaning a.id r a.seat.me b.seat.me) is take in record {
        sent = took (Err (take_fault.Empty accepted)) a b same taken;
        found = record { accepted = accepted; enough = omega arith; later = []; earlier = taken.busy; within = ap (λ (walk : List Event). walk ++ taken.busy) taken.is };
      }

  -- a try to give
  pub gave : (held : HeldBuffer) (answer : Result ℕ GiveBusy) (a b : Caller) → b.id ≡ a.id → IsGive coded meaning a.id.end held answer a.seat.me b.seat.me → HasSent [] a b
  gave held answer a b same give =
      sent_by [] a b give.walk same give.done.own
      (ap (λ (l : List (ℕ × List ℕ)). map (λ (s : ℕ × List ℕ). s.1) l) (give_sends (other a.id.end) a.id.follows a.id.end _ held answer give.walk give.is))
      (give_sends a.id.end a.id.follows a.id.end _ held answer give.walk give.is) give.done.first

-- how many messages are sent to an end is what those of the other end send
pub least_is : (task : Task) (callers : List Caller) (e : End) → IsTaskOf task callers → least_in task e ≡ task.count * count_on (other e) callers
least_is task callers side.Host is = is.1
least_is task callers side.Remote is = is.0

-- a round by the work of its callers
pub whole : (link : SharedLink Side) (count : ℕ) (task : Task) (before after : List Caller) → task.count ≡ count → IsTaskOf task before → length after ≡ length before → HaveWorked link task before after
    → IsWholeRound link count before after
whole link count task before after counted is as_many work = record {
  as_many = as_many;
  each = λ i d below.
      let caller = slice_index_or before i d in
      subst (λ (n : ℕ). HasWorked link n (n * count_on (other caller.id.end) before) caller (slice_index_or after i d)) counted
      (subst (λ (n : ℕ). HasWorked link task.count n caller (slice_index_or after i d)) (least_is task before caller.id.end is) (work i d below));
}
