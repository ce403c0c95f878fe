-- What is told of the channels that a link answers is what its state says.
use Rattle.std.proofs.Common.{◌≡◌, ◌⊎◌, ℕ, List, map, Option, Some, None, Result, Ok, Err, IfOk, IfErr, OnOk, Vec, sym, ap, subst, ◌∙◌, inl, inr}
use Rattle.std.specs.Prelude.{IsSomeAnd}
use Rattle.std.specs.Option.{option_map}
use Rattle.std.specs.declared.alloc.Global.{Global}
use Rattle.name_service.specs.declared.channels.Channel.{Channel}
use Rattle.vring_layout.specs.declared.snapshots.SnapshotFault.{SnapshotFault}
use Rattle.vring_layout.specs.declared.snapshots.SnapshotFault.TheVariants as snapshot_fault
use Rattle.journal.specs.declared.events.Event.{Event}
use Rattle.link_bench.specs.Benches.{BenchState, link_in}
use Rattle.link_bench.specs.BenchRings.{IsSnapshotFault}
use Rattle.lane_model.specs.Lanes.{holder}
use Rattle.link_commands.specs.ChannelLists.{channel_event, channels_events, found_channels, channel_events_unless}

-- the two ways to say why channels are not answered
pub fault_is : (receiver : Option ℕ) (why : SnapshotFault) → (option_map snapshot_fault.StillTurn receiver ≡ Some why) ⊎ ((why ≡ snapshot_fault.NoMemory) × (receiver ≡ None)) → IsSnapshotFault receiver why
fault_is (Some holder) why (inl is) = cc
fault_is (Some holder) why (inr both) = absurd (cc)
fault_is None why (inl is) = absurd (cc)
fault_is None why (inr both) = both.0

module _ (name : List ℕ) (bench : BenchState) (P : List Event → Type 0) where
  pub found_is : (answer : Result (Vec Channel Global) SnapshotFault) (receiver : Option ℕ) → OnOk answer (receiver ≡ None)
      → IfOk answer (λ channels. channels.items ≡ (link_in bench).to_host.desk.channels) → IfErr answer (IsSnapshotFault receiver)
      → IsSomeAnd (found_channels name answer) P → P (channel_events_unless name bench receiver)
  found_is (Ok channels) receiver free same refused told = subst P (ap (map (channel_event name)) same ∙ ap (channel_events_unless name bench) (sym free)) told
  found_is (Err (snapshot_fault.StillTurn caller)) (Some holder) free same refused told = subst P (cc) told
  found_is (Err (snapshot_fault.StillTurn caller)) None free same refused told = absurd (cc)
  found_is (Err snapshot_fault.NoMemory) receiver free same refused told = absurd told

-- the same of what a bench answers
pub refused_is : (answer : Result (Vec Channel Global) SnapshotFault) (receiver : Option ℕ)
    → IfErr answer (λ why. (option_map snapshot_fault.StillTurn receiver ≡ Some why) ⊎ ((why ≡ snapshot_fault.NoMemory) × (receiver ≡ None))) → IfErr answer (IsSnapshotFault receiver)
refused_is (Ok channels) receiver refused = tt
refused_is (Err why) receiver refused = fault_is receiver why refused

-- what stands where a call succeeds
pub ok_still : {A E P Q : Type 0} (answer : Result A E) → (P → Q) → OnOk answer P → OnOk answer Q
ok_still (Ok found) goes is = goes is
ok_still (Err why) goes is = tt

-- what is told of the channels that a bench answers is what its state says
pub channels_told : (name : List ℕ) (bench : BenchState) (P : List Event → Type 0) {A E : Type 0} (told : Result A E) (answer : Result (Vec Channel Global) SnapshotFault)
    → OnOk answer (holder (link_in bench).to_host.receiver ≡ None) → IfOk answer (λ channels. channels.items ≡ (link_in bench).to_host.desk.channels)
    → IfErr answer (IsSnapshotFault (holder (link_in bench).to_host.receiver)) → OnOk told (IsSomeAnd (found_channels name answer) P) → OnOk told (P (channels_events name bench))
unfolding channels_events
channels_told name bench P told answer free same refused is = ok_still told (found_is name bench P answer (holder (link_in bench).to_host.receiver) free same refused) is
