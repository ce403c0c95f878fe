-- The entries of the table, and the channels that they stand for.
use Rattle.std.proofs.Common.{◌≡◌, ℕ, nat_le, Bool, true, false, cond, not, List, [], ◌∷◌, ◌++◌, length, map, filter, find, Option, Some, None, is_some, option_and_then, ◌&&◌, ◌||◌, ◌==◌, refl, ap, sym, ◌∙◌}
use Rattle.std.specs.Map.{lookup, set_value}
use Rattle.std.specs.Option.{option_or}
use Rattle.std.specs.Cmp.{nat_eq_equiv}
use Rattle.std.proofs.lemmas.Cmp.{lists_equiv}
use Rattle.std.proofs.lemmas.List.{length-map, map-append}
use Rattle.std.proofs.lemmas.List.Folds.{find-append}
use Rattle.rp_base.specs.Texts.{padded_name}
use Rattle.rp_base.specs.declared.kinds.Endpoint.{Endpoint}
use Rattle.rp_base.specs.declared.kinds.NsKind.{NsKind}
use Rattle.rp_base.specs.declared.kinds.NsKind.TheVariants.{Created, Duplicate, Destroyed, Unknown, ChannelsFull}
use Rattle.rp_base.specs.declared.limits.TheConstants.{CHANNELS_MOST}
use Rattle.rpmsg_header.specs.declared.services.NsMessage.{NsMessage}
use Rattle.name_service.specs.declared.channels.Channel.{Channel}
use Rattle.name_service.specs.Channels.{Key, is_same_key, key_of, key_in, is_full, kind_of, after_service, has_channel, channel_at, endpoint_at, without, with_channel, with_endpoint, naming}
use Rattle.name_service.specs.Tables.{channel_of}

abbrev Entry : Type 0
Entry = Key × Option Endpoint

-- a key is in the table where its channel is there
pub found_is : (key : Key) (entries : List (Key × Option Endpoint)) → is_some (lookup (is_same_key key) entries) ≡ has_channel key (map channel_of entries)
found_is key [] = refl
found_is key (entry ∷ rest) =
    elim (is_same_key key entry.0) as (λ b. is_some (cond b (Some entry.1) (lookup (is_same_key key) rest)) ≡ is_some (cond b (Some (channel_of entry)) (find (λ channel. is_same_key key (key_of channel)) (map channel_of rest)))) [
      | true ↦ refl
      | false ↦ found_is key rest
    ]

-- whether a channel is there, by the table that it is kept in
pub there_is : (key : Key) (entries : List (Key × Option Endpoint)) (channels : List Channel) (b : Bool) → map channel_of entries ≡ channels → is_some (lookup (is_same_key key) entries) ≡ b
    → has_channel key channels ≡ b
there_is key entries channels b view found = sym (ap (has_channel key) view) ∙ sym (found_is key entries) ∙ found

-- whether there is no room for one more, by the length of the table
pub full_is : (entries : List (Key × Option Endpoint)) (channels : List Channel) (len : ℕ) → map channel_of entries ≡ channels → len ≡ length entries → nat_le CHANNELS_MOST len ≡ is_full channels
full_is entries channels len view is =
    ap (nat_le CHANNELS_MOST) (is ∙ sym (length-map entries channel_of) ∙ ap length view)

pub none_of : {X : Type 0} (o : Option X) → is_some o ≡ false → o ≡ None
none_of None e = refl
none_of (Some x) e = absurd cc

-- an entry behind the others stands for a channel behind the others
pub made_is : (key : Key) (old new : List (Key × Option Endpoint)) (channels : List Channel) → map channel_of old ≡ channels → new ≡ old ++ (key, None) ∷ [] → map channel_of new ≡ with_channel key channels
made_is key old new channels view is =
    ap (map channel_of) is ∙ map-append channel_of old ((key, None) ∷ []) ∙ ap (λ list. list ++ (record { name = key.0; address = key.1; endpoint = None }) ∷ []) view

-- the endpoint in the entry of a key is the one that its channel names
pub endpoint_is : (key : Key) (entries : List (Key × Option Endpoint)) → option_and_then (λ (endpoint : Option Endpoint). endpoint) (lookup (is_same_key key) entries) ≡ endpoint_at key (map channel_of entries)
endpoint_is key [] = refl
endpoint_is key (entry ∷ rest) =
    elim (is_same_key key entry.0) as (λ b. option_and_then (λ (endpoint : Option Endpoint). endpoint) (cond b (Some entry.1) (lookup (is_same_key key) rest)) ≡ option_and_then (λ (channel : Channel). channel.endpoint) (cond b (Some (channel_of entry)) (find (λ channel. is_same_key key (key_of channel)) (map channel_of rest)))) [
      | true ↦ refl
      | false ↦ endpoint_is key rest
    ]

same_as_itself : (key : Key) → is_same_key key key ≡ true
same_as_itself key =
    ap (λ t. t && (key.1 == key.1)) ((lists_equiv nat_eq_equiv).refl (padded_name key.0)) ∙ nat_eq_equiv.refl key.1

some_either : {X : Type 0} (o : Option X) (x : X) → is_some (option_or o (Some x)) ≡ true
some_either None x = refl
some_either (Some y) x = refl

-- a channel is there once it is made
pub made_is_there : (key : Key) (channels : List Channel) → has_channel key (with_channel key channels) ≡ true
made_is_there key channels =
    let made : Channel = record { name = key.0; address = key.1; endpoint = None } in
    let test : Channel → Bool = λ channel. is_same_key key (key_of channel) in
    ap is_some (find-append test channels (made ∷ []) ∙ ap (λ b. option_or (find test channels) (cond b (Some made) None)) (same_as_itself key))
    ∙ some_either (find test channels) made

-- the entries that stay stand for the channels that stay
pub without_is : (key : Key) (entries : List (Key × Option Endpoint)) → map channel_of (filter (λ entry. not (is_same_key key entry.0)) entries) ≡ without key (map channel_of entries)
without_is key [] = refl
without_is key (entry ∷ rest) =
    let left = filter (λ e. not (is_same_key key e.0)) rest in
    elim (is_same_key key entry.0) as (λ b. map channel_of (cond (not b) (entry ∷ left) left) ≡ cond (not b) (channel_of entry ∷ without key (map channel_of rest)) (without key (map channel_of rest))) [
      | true ↦ without_is key rest
      | false ↦ ap (λ channels. channel_of entry ∷ channels) (without_is key rest)
    ]

-- all stay where the channel is not there
pub without_none : (key : Key) (channels : List Channel) → has_channel key channels ≡ false → without key channels ≡ channels
without_none key [] e = refl
without_none key (channel ∷ rest) e =
    elim (is_same_key key (key_of channel)) as (λ b. is_some (cond b (Some channel) (channel_at key rest)) ≡ false → cond (not b) (channel ∷ without key rest) (without key rest) ≡ channel ∷ rest) [
      | true ↦ λ h. absurd cc
      | false ↦ λ h. ap (λ channels. channel ∷ channels) (without_none key rest h)
    ] e

-- an endpoint written into an entry is the one that its channel names
pub written_is : (key : Key) (endpoint : Option Endpoint) (entries : List (Key × Option Endpoint)) → map channel_of (set_value (is_same_key key) entries endpoint) ≡ with_endpoint key endpoint (map channel_of entries)
written_is key endpoint [] = refl
written_is key endpoint (entry ∷ rest) =
    elim (is_same_key key entry.0) as (λ b. map channel_of (cond b ((entry.0, endpoint) ∷ rest) (entry ∷ set_value (is_same_key key) rest endpoint)) ≡ cond b (naming endpoint (channel_of entry) ∷ map channel_of rest) (channel_of entry ∷ with_endpoint key endpoint (map channel_of rest))) [
      | true ↦ refl
      | false ↦ ap (λ channels. channel_of entry ∷ channels) (written_is key endpoint rest)
    ]

-- what a service message does and leaves, by what it asks, whether its channel is there and whether one more fits
abbrev pub kind_by : Bool → Bool → Bool → NsKind
kind_by destroy there full = cond destroy (cond there Destroyed Unknown) (cond there Duplicate (cond full ChannelsFull Created))

pub kind_is : (channels : List Channel) (ns : NsMessage) (destroy there full : Bool) → ns.destroy ≡ destroy → has_channel (key_in ns) channels ≡ there → is_full channels ≡ full
    → kind_by destroy there full ≡ kind_of channels ns
kind_is channels ns destroy there full d t f = λ i. kind_by (sym d i) (sym t i) (sym f i)

abbrev pub left_by : List Channel → Key → Bool → Bool → Bool → List Channel
left_by channels key destroy there full = cond destroy (without key channels) (cond (there || full) channels (with_channel key channels))

pub left_is : (channels : List Channel) (ns : NsMessage) (destroy there full : Bool) → ns.destroy ≡ destroy → has_channel (key_in ns) channels ≡ there → is_full channels ≡ full
    → left_by channels (key_in ns) destroy there full ≡ after_service channels ns
left_is channels ns destroy there full d t f = λ i. left_by channels (key_in ns) (sym d i) (sym t i) (sym f i)
