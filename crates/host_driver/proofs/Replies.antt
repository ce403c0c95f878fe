-- What a driver sends over many messages.
use Rattle.std.proofs.Common.{◌≡◌, ℕ, ◌+◌, ◌-◌, ◌^◌, suc, min, Some, None, true, false, cond, ltb, List, [], ◌∷◌, length, map, replicate, refl, ap, ◌∙◌, inl, inr, arith}
use Rattle.std.proofs.lemmas.Bool.{cases_lt, lt-ltb, le-ltb}
use Rattle.rp_base.specs.declared.kinds.Endpoint.{Endpoint}
use Rattle.rp_base.specs.declared.kinds.DriverKind.TheVariants.{Sink, Echo, Sample}
use Rattle.rpmsg_header.specs.Headers.{source_of, payload_of}
use Rattle.host_driver.specs.declared.driven.DrivenEndpoint.{DrivenEndpoint}
use Rattle.host_driver.specs.Drivers.{sample_text, message_from}
use Rattle.host_driver.specs.Runs.{in_front, replies_to}

-- an endpoint of a kind, by its number of deliveries
abbrev sample_at : Endpoint → ℕ → ℕ → DrivenEndpoint
sample_at endpoint channel count = record { endpoint = endpoint; kind = Sample; channel = channel; deliveries = count }

abbrev echo_at : Endpoint → ℕ → ℕ → DrivenEndpoint
echo_at endpoint channel count = record { endpoint = endpoint; kind = Echo; channel = channel; deliveries = count }

abbrev sink_at : Endpoint → ℕ → ℕ → DrivenEndpoint
sink_at endpoint channel count = record { endpoint = endpoint; kind = Sink; channel = channel; deliveries = count }

-- a sample with 100 deliveries or more sends nothing, and one with fewer as many messages as it lacks of 99
pub sample_replies : (endpoint : Endpoint) (channel count : ℕ) (messages : List (List ℕ))
    → replies_to (sample_at endpoint channel count) messages ≡ replicate (min (length messages) (99 - count)) (message_from (sample_at endpoint channel count) channel sample_text)
sample_replies endpoint channel count [] =
    let none : 0 ≡ min 0 (99 - count) = omega arith in
    ap (λ n. replicate n (message_from (sample_at endpoint channel count) channel sample_text)) none
sample_replies endpoint channel count (message ∷ later) =
    let next = min (count + 1) (2 ^ 64 - 1) in
    let text = message_from (sample_at endpoint channel count) channel sample_text in
    let rest = sample_replies endpoint channel next later in
    elim (cases_lt count 99) [
      | inl less ↦
          let sends : ltb next 100 ≡ true = lt-ltb next 100 (omega arith) in
          let fewer : suc (min (length later) (99 - next)) ≡ min (suc (length later)) (99 - count) = omega arith in
          ap (λ b. in_front (cond b (Some text) None) (replies_to (sample_at endpoint channel next) later)) sends
          ∙ ap (λ ms. text ∷ ms) rest
          ∙ ap (λ n. replicate n text) fewer
      | inr enough ↦
          let silent : ltb next 100 ≡ false = le-ltb next 100 (omega arith) in
          let none : min (length later) (99 - next) ≡ min (suc (length later)) (99 - count) = omega arith in
          ap (λ b. in_front (cond b (Some text) None) (replies_to (sample_at endpoint channel next) later)) silent
          ∙ rest
          ∙ ap (λ n. replicate n text) none
    ]

pub echo_replies : (endpoint : Endpoint) (channel count : ℕ) (messages : List (List ℕ))
    → replies_to (echo_at endpoint channel count) messages ≡ map (λ message. message_from (echo_at endpoint channel count) (source_of message) (payload_of message)) messages
echo_replies endpoint channel count [] = refl
echo_replies endpoint channel count (message ∷ later) =
    ap (λ ms. message_from (echo_at endpoint channel count) (source_of message) (payload_of message) ∷ ms) (echo_replies endpoint channel (min (count + 1) (2 ^ 64 - 1)) later)

pub sink_replies : (endpoint : Endpoint) (channel count : ℕ) (messages : List (List ℕ)) → replies_to (sink_at endpoint channel count) messages ≡ []
sink_replies endpoint channel count [] = refl
sink_replies endpoint channel count (message ∷ later) = sink_replies endpoint channel (min (count + 1) (2 ^ 64 - 1)) later
