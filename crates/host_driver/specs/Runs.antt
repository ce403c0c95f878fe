-- What a driver sends over many messages, and what a change leaves at the other endpoints.
use Rattle.std.specs.Prelude.{◌≡◌, ◌≢◌, ℕ, List, [], ◌∷◌, Option, Some, None}
use Rattle.rp_base.specs.declared.kinds.Endpoint.{Endpoint}
use Rattle.host_driver.specs.declared.driven.DrivenEndpoint.{DrivenEndpoint}
use Rattle.host_driver.specs.Drivers.{reply_to, with_delivery, driven_at}

-- messages with one more in front, if there is one
abbrev pub in_front : Option (List ℕ) → List (List ℕ) → List (List ℕ)
in_front None later = later
in_front (Some message) later = message ∷ later

-- what the driver of an endpoint sends for messages that are delivered to it in turn
abbrev pub replies_to : DrivenEndpoint → List (List ℕ) → List (List ℕ)
replies_to one [] = []
replies_to one (message ∷ later) = in_front (reply_to one.kind (with_delivery one) message) (replies_to (with_delivery one) later)

-- a change that leaves this at one endpoint, and all others as they were
pub record ChangesOne (before after : List DrivenEndpoint) (endpoint : Endpoint) (left : Option DrivenEndpoint) : Type 0 where
  pub there : driven_at endpoint after ≡ left
  pub elsewhere : (other : Endpoint) → other ≢ endpoint → driven_at other after ≡ driven_at other before
