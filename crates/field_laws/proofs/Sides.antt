-- What stands behind a receiver's turn keeps its numbers and bytes within their types.
use Rattle.std.proofs.Common.{◌≡◌, ℕ, zero, suc, ◌+◌, ◌-◌, ◌<◌, ◌≤◌, ◌^◌, ◌==◌, ◌&&◌, ◌||◌, not, Bool, true, false, cond, List, [], ◌∷◌, length, take, filter, Option, Some, None, IfSome, Result, Ok, Err, unwrap_or, arith}
use Rattle.std.specs.Prelude.{All, find, insert, nat_le, ok_or}
use Rattle.std.specs.Bool.{then_some}
use Rattle.std.specs.List.{range_with_len}
use Rattle.std.specs.Option.{option_and_then, option_map}
use Rattle.std.specs.Result.{result_ok}
use Rattle.std.proofs.lemmas.Bool.{cond_both, leb-false, or_parts}
use Rattle.std.proofs.lemmas.List.Elements.{All-cons, All-filter, All-head, All-nil, All-push, All-tail}
use Rattle.std.proofs.lemmas.List.Sorted.{All-permutation, IsPermutation-insert, length_permutation}
use Rattle.rp_base.specs.declared.kinds.BindFault.{BindFault}
use Rattle.rp_base.specs.declared.kinds.BindFault.TheVariants as fault
use Rattle.rp_base.specs.declared.kinds.BoundEndpoint.{BoundEndpoint}
use Rattle.rp_base.specs.declared.kinds.Endpoint.{Endpoint}
use Rattle.rp_base.specs.declared.kinds.NsKind.{NsKind}
use Rattle.rp_base.specs.declared.kinds.NsKind.TheVariants.{Created, Duplicate, Destroyed, Unknown, ChannelsFull}
use Rattle.rp_base.specs.declared.kinds.Verdict.TheVariants as verdict
use Rattle.rp_base.specs.declared.limits.TheConstants.{ENDPOINTS_MOST}
use Rattle.rpmsg_header.specs.declared.services.NsMessage.{NsMessage}
use Rattle.rpmsg_header.specs.Headers.{destination_of, is_whole, payload_of}
use Rattle.rpmsg_header.specs.Services.{service_in, service_of}
use Rattle.endpoint_map.specs.Bindings.{Bindings, address_for, after_bind, after_unbind, any_address, bind_answer, bound_at, endpoint_of, first_dynamic, is_at, is_bound, is_full, least_free, next_endpoint, no_bindings, place_of, unbind_answer, with_endpoint}
use Rattle.name_service.specs.declared.channels.Channel.{Channel}
use Rattle.name_service.specs.Channels.{Key, after_service as channels_after, channel_at, endpoint_at, has_channel, is_full as channels_full, is_same_key, key_in, key_of, kind_of, naming, with_channel, with_endpoint as channel_with_endpoint, without}
use Rattle.channel_bus.specs.Sides.{EndState, after_message, after_service, after_side_bind, after_side_unbind, bindings_after_create, bindings_after_service, channels_after_service, endpoint_for, endpoint_in_verdict, endpoint_of_channel, endpoint_verdict, if_still_bound, is_probed, is_service, service_verdict, side_bind_answer, side_fresh, side_unbind_answer, verdict_on, without_endpoint}
use Rattle.field_laws.specs.Fields.{AreBytes, AreFieldBindings, IsChannelName, IsFieldChannel, IsFieldEndpoint, IsFieldFault, IsFieldSide, IsFieldVerdict}
use Rattle.field_laws.proofs.Bytes.{name_short, payload_bytes, taken_bytes, text_bytes, word_small}

-- ---- options

-- what is found among items that each have this has it
pub find_has : {X : Type 0} (P : X → Type 0) (test : X → Bool) (items : List X) → All P items → IfSome (find test items) P
find_has P test [] all = tt
find_has {X} P test (first ∷ more) all =
    cond_both (test first) (Some first) (find test more) (λ (found : Option X). IfSome found P) (λ _. All-head P first more all)
    (λ _. find_has P test more (All-tail P first more all))

pub or_has : {X : Type 0} (P : X → Type 0) (found : Option X) (other : X) → IfSome found P → P other → P (unwrap_or found other)
or_has P None other found is = is
or_has P (Some item) other found is = found

pub then_has : {X Y : Type 0} (P : X → Type 0) (Q : Y → Type 0) (f : X → Option Y) (found : Option X) → IfSome found P → ((item : X) → P item → IfSome (f item) Q) → IfSome (option_and_then f found) Q
then_has P Q f None found each = tt
then_has P Q f (Some item) found each = each item found

pub map_has : {X Y : Type 0} (P : X → Type 0) (Q : Y → Type 0) (f : X → Y) (found : Option X) → IfSome found P → ((item : X) → P item → Q (f item)) → IfSome (option_map f found) Q
map_has P Q f None found each = tt
map_has P Q f (Some item) found each = each item found

-- ---- endpoints

-- an answer to a binding or an unbinding
abbrev pub IsFieldAnswer : Result Endpoint BindFault → Type 0
IsFieldAnswer (Ok endpoint) = IsFieldEndpoint endpoint
IsFieldAnswer (Err why) = IsFieldFault why

abbrev IsAddress : ℕ → Type 0
IsAddress address = address < 2 ^ 32

abbrev IsFieldBound : BoundEndpoint → Type 0
IsFieldBound bound = IsFieldEndpoint bound.endpoint

range_small : (from count : ℕ) → from + count ≤ 2 ^ 32 → All IsAddress (range_with_len from count)
range_small from zero fits = All-nil IsAddress
range_small from (suc count) fits = All-cons IsAddress from (range_with_len (from + 1) count) (omega (arith, fits)) (range_small (from + 1) count (omega (arith, fits)))

free_small : (bindings : Bindings) → AreFieldBindings bindings → least_free bindings < 2 ^ 32
free_small bindings are =
    let few = are.few in
    or_has IsAddress (find (λ address. not (is_bound bindings address)) (range_with_len first_dynamic (length bindings.bound + 1))) first_dynamic
    (find_has IsAddress (λ address. not (is_bound bindings address)) (range_with_len first_dynamic (length bindings.bound + 1))
    (range_small first_dynamic (length bindings.bound + 1) (omega (arith, few))))
    (omega arith)

address_small : (bindings : Bindings) (asked : ℕ) → AreFieldBindings bindings → asked < 2 ^ 32 → address_for bindings asked < 2 ^ 32
address_small bindings asked are small =
    cond_both (asked == any_address) (least_free bindings) asked IsAddress (λ _. free_small bindings are) (λ _. small)

next_fields : (bindings : Bindings) (asked : ℕ) → AreFieldBindings bindings → asked < 2 ^ 32 → is_full bindings ≡ false → IsFieldEndpoint (next_endpoint bindings asked)
next_fields bindings asked are small room =
    let more = leb-false (2 ^ 64 - 1) bindings.count (or_parts (nat_le ENDPOINTS_MOST (length bindings.bound)) (nat_le (2 ^ 64 - 1) bindings.count) room).1 in
    (address_small bindings asked are small, omega (arith, more))

pub bind_fields : (bindings : Bindings) (asked : ℕ) → AreFieldBindings bindings → asked < 2 ^ 32 → IsFieldAnswer (bind_answer bindings asked)
bind_fields bindings asked are small =
    cond_both (is_bound bindings (address_for bindings asked)) (Err (fault.AddressTaken (address_for bindings asked)))
    (cond (is_full bindings) (Err fault.EndpointsFull) (Ok (next_endpoint bindings asked))) IsFieldAnswer
    (λ _. address_small bindings asked are small)
    (λ _. cond_both (is_full bindings) (Err fault.EndpointsFull) (Ok (next_endpoint bindings asked)) IsFieldAnswer (λ _. tt) (λ room. next_fields bindings asked are small room))

one_more : (bindings : Bindings) (one : BoundEndpoint) → AreFieldBindings bindings → IsFieldEndpoint one.endpoint → is_full bindings ≡ false
    → AreFieldBindings (record { bound = with_endpoint one bindings.bound; count = bindings.count + 1 })
one_more bindings one are is room =
    let parts = or_parts (nat_le ENDPOINTS_MOST (length bindings.bound)) (nat_le (2 ^ 64 - 1) bindings.count) room in
    let few = leb-false ENDPOINTS_MOST (length bindings.bound) parts.0 in
    let more = leb-false (2 ^ 64 - 1) bindings.count parts.1 in
    let place = place_of one.endpoint.address bindings.bound in
    let moved = IsPermutation-insert bindings.bound place one in
    let len = length_permutation (one ∷ bindings.bound) (insert bindings.bound place one) moved in
    record {
      bound = All-permutation IsFieldBound (one ∷ bindings.bound) (insert bindings.bound place one) moved (All-cons IsFieldBound one bindings.bound is are.bound);
      few = omega (arith, few, len);
      count = omega (arith, more);
    }

pub bound_fields : (bindings : Bindings) (asked since : ℕ) → AreFieldBindings bindings → asked < 2 ^ 32 → AreFieldBindings (after_bind bindings asked since)
bound_fields bindings asked since are small =
    let one : BoundEndpoint = record { endpoint = next_endpoint bindings asked; since = since } in
    cond_both (is_bound bindings (address_for bindings asked) || is_full bindings) bindings
    (record { bound = with_endpoint one bindings.bound; count = bindings.count + 1 }) AreFieldBindings (λ _. are)
    (λ room. let free = (or_parts (is_bound bindings (address_for bindings asked)) (is_full bindings) room).1 in
    one_more bindings one are (next_fields bindings asked are small free) free)

there_fields : (found : Option BoundEndpoint) (address : ℕ) → IfSome found IsFieldBound → address < 2 ^ 32
    → IsFieldAnswer (ok_or (option_map endpoint_of found) (fault.NotBound address))
there_fields None address found small = small
there_fields (Some bound) address found small = found

pub at_fields : (bindings : Bindings) (address : ℕ) → AreFieldBindings bindings → IfSome (bound_at bindings address) IsFieldBound
at_fields bindings address are = find_has IsFieldBound (is_at address) bindings.bound are.bound

pub unbind_fields : (bindings : Bindings) (address : ℕ) → AreFieldBindings bindings → address < 2 ^ 32 → IsFieldAnswer (unbind_answer bindings address)
unbind_fields bindings address are small = there_fields (bound_at bindings address) address (at_fields bindings address are) small

filter_fewer : {X : Type 0} (test : X → Bool) (items : List X) → length (filter test items) ≤ length items
filter_fewer test [] = omega arith
filter_fewer {X} test (first ∷ more) =
    let rest = filter_fewer test more in
    cond_both (test first) (first ∷ filter test more) (filter test more) (λ (kept : List X). length kept ≤ length (first ∷ more)) (λ _. omega (arith, rest)) (λ _. omega (arith, rest))

pub unbound_fields : (bindings : Bindings) (address : ℕ) → AreFieldBindings bindings → AreFieldBindings (after_unbind bindings address)
unbound_fields bindings address are =
    let few = are.few in
    let less = filter_fewer (λ b. not (is_at address b)) bindings.bound in
    record { bound = All-filter (λ b. not (is_at address b)) IsFieldBound bindings.bound are.bound; few = omega (arith, few, less); count = are.count }

pub none_fields : AreFieldBindings no_bindings
none_fields = record { bound = All-nil IsFieldBound; few = omega arith; count = omega arith }

-- ---- channels

-- a message of the name service whose name and address are within their types
pub record IsFieldService (ns : NsMessage) : Type 0 where
  pub name : IsChannelName ns.name
  pub address : ns.address < 2 ^ 32

service_in_fields : (payload : List ℕ) → AreBytes payload → IsFieldService (service_in payload)
service_in_fields payload are = record { name = (name_short payload, text_bytes (take 31 payload) (taken_bytes 31 payload are)); address = word_small 32 payload are }

service_fields : (payload : List ℕ) → AreBytes payload → IfSome (service_of payload) IsFieldService
service_fields payload are =
    cond_both (length payload == 40) (Some (service_in payload)) None (λ (found : Option NsMessage). IfSome found IsFieldService) (λ _. service_in_fields payload are) (λ _. tt)

abbrev AllFieldChannels : List Channel → Type 0
AllFieldChannels channels = All IsFieldChannel channels

-- channels, of which one names another endpoint
naming_channels : (key : Key) (endpoint : Option Endpoint) (channels : List Channel) → IfSome endpoint IsFieldEndpoint → AllFieldChannels channels
    → AllFieldChannels (channel_with_endpoint key endpoint channels)
naming_channels key endpoint [] found all = All-nil IsFieldChannel
naming_channels key endpoint (channel ∷ rest) found all =
    let first = All-head IsFieldChannel channel rest all in
    let more = All-tail IsFieldChannel channel rest all in
    cond_both (is_same_key key (key_of channel)) (naming endpoint channel ∷ rest) (channel ∷ channel_with_endpoint key endpoint rest) AllFieldChannels
    (λ _. All-cons IsFieldChannel (naming endpoint channel) rest (record { name = first.name; address = first.address; endpoint = found }) more)
    (λ _. All-cons IsFieldChannel channel (channel_with_endpoint key endpoint rest) first (naming_channels key endpoint rest found more))

module _ (side : EndState) (is : IsFieldSide side) where
  answered : (answer : Result Endpoint BindFault) → IsFieldAnswer answer → IfSome (result_ok answer) IsFieldEndpoint
  answered (Ok endpoint) found = found
  answered (Err why) found = tt

  given_endpoint : (number : ℕ) (ns : NsMessage) → IfSome (endpoint_for side number ns) IsFieldEndpoint
  given_endpoint number ns =
      cond_both (is_probed side number ns.name) (result_ok (bind_answer side.bindings any_address)) None (λ (found : Option Endpoint). IfSome found IsFieldEndpoint)
      (λ _. answered (bind_answer side.bindings any_address) (bind_fields side.bindings any_address is.bindings (omega arith))) (λ _. tt)

  some_endpoint : (test : Bool) (endpoint : Endpoint) → IsFieldEndpoint endpoint → IfSome (then_some test endpoint) IsFieldEndpoint
  some_endpoint true endpoint found = found
  some_endpoint false endpoint found = tt

  still_endpoint : (endpoint : Endpoint) → IsFieldEndpoint endpoint → IfSome (if_still_bound side.bindings endpoint) IsFieldEndpoint
  still_endpoint endpoint found =
      then_has IsFieldBound IsFieldEndpoint (λ (bound : BoundEndpoint). then_some (bound.endpoint.generation == endpoint.generation) endpoint) (bound_at side.bindings endpoint.address)
      (at_fields side.bindings endpoint.address is.bindings) (λ bound _. some_endpoint (bound.endpoint.generation == endpoint.generation) endpoint found)

  named_endpoint : (key : Key) → IfSome (endpoint_at key side.channels) IsFieldEndpoint
  named_endpoint key =
      then_has IsFieldChannel IsFieldEndpoint (λ (channel : Channel). channel.endpoint) (channel_at key side.channels)
      (find_has IsFieldChannel (λ channel. is_same_key key (key_of channel)) side.channels is.channels) (λ channel found. found.endpoint)

  gone_endpoint : (ns : NsMessage) → IfSome (endpoint_of_channel side ns) IsFieldEndpoint
  gone_endpoint ns =
      then_has IsFieldEndpoint IsFieldEndpoint (λ endpoint. if_still_bound side.bindings endpoint) (endpoint_at (key_in ns) side.channels) (named_endpoint (key_in ns))
      (λ endpoint found. still_endpoint endpoint found)

  verdict_endpoint : (number : ℕ) (ns : NsMessage) (kind : NsKind) → IfSome (endpoint_in_verdict side number ns kind) IsFieldEndpoint
  verdict_endpoint number ns Created = given_endpoint number ns
  verdict_endpoint number ns Destroyed = gone_endpoint ns
  verdict_endpoint number ns Duplicate = tt
  verdict_endpoint number ns Unknown = tt
  verdict_endpoint number ns ChannelsFull = tt

  -- ---- channels

  one_channel : (ns : NsMessage) → IsFieldService ns → AllFieldChannels (with_channel (key_in ns) side.channels)
  one_channel ns found = All-push IsFieldChannel side.channels _ is.channels (record { name = found.name; address = found.address; endpoint = tt })

  other_channels : (ns : NsMessage) → AllFieldChannels (without (key_in ns) side.channels)
  other_channels ns = All-filter (λ channel. not (is_same_key (key_in ns) (key_of channel))) IsFieldChannel side.channels is.channels

  later_channels : (ns : NsMessage) → IsFieldService ns → AllFieldChannels (channels_after side.channels ns)
  later_channels ns found =
      cond_both ns.destroy (without (key_in ns) side.channels) (cond (has_channel (key_in ns) side.channels || channels_full side.channels) side.channels (with_channel (key_in ns) side.channels))
      AllFieldChannels (λ _. other_channels ns)
      (λ _. cond_both (has_channel (key_in ns) side.channels || channels_full side.channels) side.channels (with_channel (key_in ns) side.channels) AllFieldChannels (λ _. is.channels) (λ _. one_channel ns found))

  service_channels : (number : ℕ) (ns : NsMessage) (kind : NsKind) → IsFieldService ns → AllFieldChannels (channels_after_service side number ns kind)
  service_channels number ns Created found = naming_channels (key_in ns) (endpoint_for side number ns) (channels_after side.channels ns) (given_endpoint number ns) (later_channels ns found)
  service_channels number ns Destroyed found = later_channels ns found
  service_channels number ns Duplicate found = later_channels ns found
  service_channels number ns Unknown found = later_channels ns found
  service_channels number ns ChannelsFull found = later_channels ns found

  -- ---- endpoints

  create_bindings : (number : ℕ) (ns : NsMessage) → AreFieldBindings (bindings_after_create side number ns)
  create_bindings number ns =
      cond_both (is_probed side number ns.name) (after_bind side.bindings any_address (number + 1)) side.bindings AreFieldBindings
      (λ _. bound_fields side.bindings any_address (number + 1) is.bindings (omega arith)) (λ _. is.bindings)

  left_bindings : (found : Option Endpoint) → AreFieldBindings (without_endpoint side.bindings found)
  left_bindings None = is.bindings
  left_bindings (Some endpoint) = unbound_fields side.bindings endpoint.address is.bindings

  service_bindings : (number : ℕ) (ns : NsMessage) (kind : NsKind) → AreFieldBindings (bindings_after_service side number ns kind)
  service_bindings number ns Created = create_bindings number ns
  service_bindings number ns Destroyed = left_bindings (endpoint_of_channel side ns)
  service_bindings number ns Duplicate = is.bindings
  service_bindings number ns Unknown = is.bindings
  service_bindings number ns ChannelsFull = is.bindings

  -- ---- messages

  after_service_fields : (number : ℕ) (found : Option NsMessage) → IfSome found IsFieldService → IsFieldSide (after_service side number found)
  after_service_fields number None found = is
  after_service_fields number (Some ns) found =
      let kind = kind_of side.channels ns in
      record { bindings = service_bindings number ns kind; channels = service_channels number ns kind found }

  pub message_fields : (number : ℕ) (message : List ℕ) → AreBytes message → IsFieldSide (after_message side number message)
  message_fields number message are =
      cond_both (is_whole message && is_service side (destination_of message)) (after_service side number (service_of (payload_of message))) side IsFieldSide
      (λ _. after_service_fields number (service_of (payload_of message)) (service_fields (payload_of message) (payload_bytes message are))) (λ _. is)

  service_verdict_fields : (number : ℕ) (found : Option NsMessage) → IfSome found IsFieldService → IsFieldVerdict (service_verdict side number found)
  service_verdict_fields number None found = tt
  service_verdict_fields number (Some ns) found = (found.name, found.address, verdict_endpoint number ns (kind_of side.channels ns))

  endpoint_verdict_fields : (address : ℕ) (found : Option BoundEndpoint) → address < 2 ^ 32 → IfSome found IsFieldBound → IsFieldVerdict (endpoint_verdict address found)
  endpoint_verdict_fields address None small found = small
  endpoint_verdict_fields address (Some bound) small found = found

  pub verdict_fields : (number : ℕ) (message : List ℕ) → AreBytes message → IsFieldVerdict (verdict_on side number message)
  verdict_fields number message are =
      let aim = destination_of message in
      let service = service_verdict side number (service_of (payload_of message)) in
      let judged = endpoint_verdict aim (bound_at side.bindings aim) in
      cond_both (is_whole message) (cond (is_service side aim) service judged) verdict.Malformed IsFieldVerdict
      (λ _. cond_both (is_service side aim) service judged IsFieldVerdict
      (λ _. service_verdict_fields number (service_of (payload_of message)) (service_fields (payload_of message) (payload_bytes message are)))
      (λ _. endpoint_verdict_fields aim (bound_at side.bindings aim) (word_small 4 message are) (at_fields side.bindings aim is.bindings)))
      (λ _. tt)

  -- ---- calls

  pub side_bind_fields : (address : ℕ) → address < 2 ^ 32 → IsFieldAnswer (side_bind_answer side address)
  side_bind_fields address small =
      cond_both (is_service side address) (Err (fault.AddressTaken address)) (bind_answer side.bindings address) IsFieldAnswer (λ _. small) (λ _. bind_fields side.bindings address is.bindings small)

  pub side_bound_fields : (address since : ℕ) → address < 2 ^ 32 → IsFieldSide (after_side_bind side address since)
  side_bound_fields address since small =
      cond_both (is_service side address) side (record side { bindings = after_bind side.bindings address since }) IsFieldSide (λ _. is)
      (λ _. record { bindings = bound_fields side.bindings address since is.bindings small; channels = is.channels })

  pub side_unbind_fields : (address : ℕ) → address < 2 ^ 32 → IsFieldAnswer (side_unbind_answer side address)
  side_unbind_fields address small =
      cond_both (is_service side address) (Err (fault.NotBound address)) (unbind_answer side.bindings address) IsFieldAnswer (λ _. small) (λ _. unbind_fields side.bindings address is.bindings small)

  pub side_unbound_fields : (address : ℕ) → IsFieldSide (after_side_unbind side address)
  side_unbound_fields address =
      cond_both (is_service side address) side (record side { bindings = after_unbind side.bindings address }) IsFieldSide (λ _. is)
      (λ _. record { bindings = unbound_fields side.bindings address is.bindings; channels = is.channels })

-- an end without endpoints and channels
pub fresh_fields : (side : EndState) → IsFieldSide (side_fresh side)
fresh_fields side = record { bindings = none_fields; channels = All-nil IsFieldChannel }
