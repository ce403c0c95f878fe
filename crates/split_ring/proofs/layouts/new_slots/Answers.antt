use Rattle.std.proofs.Common.{[], ◌∷◌, ◌++◌, sym, ◌∙◌}
use Rattle.link_words.specs.declared.rule.Slot.TheVariants.{Sender, Receiver}
use Rattle.split_ring.proofs.Apart.{buffers_are}
use Rattle.split_ring.proofs.layouts.new_slots.Goals as goal

pub returns : goal.returns
returns c =
    let z = c.args.sizes.now in let n = z.to_host.capacity in let k = z.to_remote.capacity in
    let one = c.in_ok-push.ensures.items ∙ (λ i. c.new-slots.ensures.items i ++ Sender (c.in_ok-make.ensures i) ∷ []) in
    let two = c.in_ok-push-2.ensures.items ∙ (λ i. one i ++ Receiver (c.in_ok-make-2.ensures i) ∷ []) in
    let three = c.in_ok-push-3.ensures.items ∙ (λ i. two i ++ Sender (c.in_ok-make-3.ensures i) ∷ []) in
    let four = c.in_ok-push-4.ensures.items ∙ (λ i. three i ++ Receiver (c.in_ok-make-4.ensures i) ∷ []) in
    let five = c.in_ok-push_buffers.ensures ∙ (λ i. four i ++ sym (buffers_are n) i) in
    c.in_ok-push_buffers-2.ensures ∙ (λ i. five i ++ sym (buffers_are k) i)
