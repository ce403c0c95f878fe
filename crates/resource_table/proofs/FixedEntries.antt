-- What an entry reads as once it was fixed or set up.
use Rattle.std.proofs.Common.{◌≡◌, ℕ, ◌+◌, ◌≤◌, ◌<◌, ◌^◌, ◌==◌, ◌⊎◌, not, true, false, List, [], ◌∷◌, length, refl, sym, ap, ◌∙◌, arith, eqb, inl, inr}
use Rattle.std.specs.Int.RustNames.{bit_and}
use Rattle.std.specs.List.{All}
use Rattle.std.proofs.lemmas.Nat.{and_le_r}
use Rattle.std.proofs.lemmas.Bool.{cases_Bool, cases_order, eqb-true, eqb-false}
use Rattle.resource_table.specs.Layout.{field, fw_rsc_hdr, fw_rsc_carveout, fw_rsc_vdev, fw_rsc_vdev_vring}
use Rattle.resource_table.specs.Entries.{entry_of_type, ring_count, ring_of, vring_start, vring_at, device_at}
use Rattle.resource_table.specs.Tables.{device_size, is_rpmsg_of_type}
use Rattle.resource_table.specs.Patches.{Write, into, after_writes, ring_writes, carveout_writes, rpmsg_writes}
use Rattle.resource_table.specs.PatchedEntries.{IsSmallFix, placed_ring, ring_with, set_up, with_fix}
use Rattle.resource_table.specs.declared.kinds.ResourceType.{ResourceType}
use Rattle.resource_table.specs.declared.kinds.ResourceType.TheVariants as type
use Rattle.resource_table.specs.declared.entries.Entry.{Entry}
use Rattle.resource_table.specs.declared.entries.Entry.TheVariants as entry
use Rattle.resource_table.specs.declared.fixes.Fix.{Fix}
use Rattle.resource_table.proofs.Agreement.{Agree, LeavesRange, agree_writes, name_same, none_leaves, number_same, one_leaves, three_leave, two_leave, written_last}
use Rattle.resource_table.proofs.Devices.{ring_there}
use Rattle.resource_table.proofs.KeptEntries.{DeviceAgrees, SameTests, count_same, device_is, device_tests, four_same, ring_kept, same_vring}
use Rattle.resource_table.proofs.Writes.{LiesIn, length-written, still_within, three_within, two_within}

-- an entry of a type that was written over: the tests of it read the same, and it is this one
pub record IsEntryAfter (kind : ResourceType) (a b : List ℕ) (start : ℕ) (one : Entry) : Type 0 where
  pub type : field fw_rsc_hdr.type start b ≡ field fw_rsc_hdr.type start a
  pub tests : SameTests kind a b start
  pub is : entry_of_type kind b start ≡ one

-- a carveout with its place
pub carveout_fixed : (a : List ℕ) (start : ℕ) (fix : Fix) → start + 56 ≤ length a → IsSmallFix fix
    → IsEntryAfter type.Carveout a (after_writes (carveout_writes fix start) a) start (with_fix fix (entry_of_type type.Carveout a start))
carveout_fixed a start fix inside small =
    let da : Write = into fw_rsc_carveout.da start fix.da in
    let pa : Write = into fw_rsc_carveout.pa start fix.pa in
    let b = after_writes (da ∷ pa ∷ []) a in
    let within : All (LiesIn (length a)) (da ∷ pa ∷ []) = two_within (length a) da pa (omega arith) (omega arith) in
    let len : length b ≡ length a = length-written (da ∷ pa ∷ []) a within in
    let front : Agree a b start (start + 4) = agree_writes (da ∷ pa ∷ []) a start (start + 4) within (two_leave start (start + 4) da pa (inl (omega arith)) (inl (omega arith))) in
    let behind : (o n : ℕ) → 12 ≤ o → Agree a b (start + o) (start + o + n) =
    λ o n past. agree_writes (da ∷ pa ∷ []) a (start + o) (start + o + n) within (two_leave (start + o) (start + o + n) da pa (inr (omega arith)) (inr (omega arith))) in
    record {
      type = number_same 4 (start + 0) a b (record { same = λ place low high. front.same place (omega arith) (omega arith) });
      tests = record {
        size = refl;
        reserved = ap (λ n. not (n == 0)) (number_same 4 (start + 20) a b (behind 20 4 (omega arith)));
        varying = λ index. refl;
        rpmsg = refl;
        offers = refl;
      };
      is = four_same (λ da pa len name. entry.Carveout da pa len name) _ _ _ _ _ _ _ _
          (written_last da (pa ∷ []) a within (one_leaves da.at (da.at + da.width) pa (inl (omega arith))) small.da)
          (written_last pa [] (after_writes (da ∷ []) a) (still_within da (pa ∷ []) a within) (none_leaves pa.at (pa.at + pa.width)) small.pa)
          (number_same 4 (start + 12) a b (behind 12 4 (omega arith)))
          (name_same (start + 24) a b len (behind 24 31 (omega arith)));
    }

-- ---- a ring

module _ (a : List ℕ) (at : ℕ) (fix : Fix) (inside : at + 20 ≤ length a) where
  abbrev da : Write
  da = into fw_rsc_vdev_vring.da at fix.da

  abbrev notify : Write
  notify = into fw_rsc_vdev_vring.notifyid at fix.notify

  abbrev pa : Write
  pa = into fw_rsc_vdev_vring.pa at fix.pa

  ring_within : All (LiesIn (length a)) (ring_writes fix at)
  ring_within = three_within (length a) da notify pa (omega arith) (omega arith) (omega arith)

  ring_agrees : (from to : ℕ) → LeavesRange from to da → LeavesRange from to notify → LeavesRange from to pa → Agree a (after_writes (ring_writes fix at) a) from to
  ring_agrees from to one two three = agree_writes (ring_writes fix at) a from to ring_within (three_leave from to da notify pa one two three)

  vring_fixed : IsSmallFix fix → vring_at (after_writes (ring_writes fix at) a) at ≡ placed_ring fix (vring_at a at)
  unfolding vring_at
  vring_fixed small =
      let b = after_writes (ring_writes fix at) a in
      let once = after_writes (da ∷ []) a in
      let later : All (LiesIn (length once)) (notify ∷ pa ∷ []) = still_within da (notify ∷ pa ∷ []) a ring_within in
      same_vring _ _ _ _ _ _ _ _ _ _
      (written_last da (notify ∷ pa ∷ []) a ring_within (two_leave da.at (da.at + da.width) notify pa (inl (omega arith)) (inl (omega arith))) small.da)
      (number_same 4 (at + 4) a b (ring_agrees (at + 4) (at + 4 + 4) (inr (omega arith)) (inl (omega arith)) (inl (omega arith))))
      (number_same 4 (at + 8) a b (ring_agrees (at + 8) (at + 8 + 4) (inr (omega arith)) (inl (omega arith)) (inl (omega arith))))
      (written_last notify (pa ∷ []) once later (one_leaves notify.at (notify.at + notify.width) pa (inl (omega arith))) small.notify)
      (written_last pa [] (after_writes (notify ∷ []) once) (still_within notify (pa ∷ []) once later) (none_leaves pa.at (pa.at + pa.width)) small.pa)

module _ (a : List ℕ) (start : ℕ) (fix : Fix) (inside : start + device_size a start ≤ length a) (among : fix.ring < ring_count a start) where
  abbrev after : List ℕ
  after = after_writes (ring_writes fix (vring_start start fix.ring)) a

  ring_inside : vring_start start fix.ring + 20 ≤ length a
  ring_inside = omega arith

  outside : (from to : ℕ) → (to ≤ vring_start start fix.ring) ⊎ (vring_start start fix.ring + 20 ≤ from) → Agree a after from to
  outside from to (inl before) = ring_agrees a (vring_start start fix.ring) fix ring_inside from to (inl (omega (arith, before))) (inl (omega (arith, before))) (inl (omega (arith, before)))
  outside from to (inr behind) = ring_agrees a (vring_start start fix.ring) fix ring_inside from to (inr (omega (arith, behind))) (inr (omega (arith, behind))) (inr (omega (arith, behind)))

  sized : (ring : ℕ) → Agree a after (vring_start start ring + 4) (vring_start start ring + 12)
  sized ring =
      elim (cases_order ring fix.ring) [
        | inl same ↦ ring_agrees a (vring_start start fix.ring) fix ring_inside (vring_start start ring + 4) (vring_start start ring + 12) (inr (omega (arith, same))) (inl (omega (arith, same))) (inl (omega (arith, same)))
        | inr (inl less) ↦ outside (vring_start start ring + 4) (vring_start start ring + 12) (inl (omega (arith, less)))
        | inr (inr more) ↦ outside (vring_start start ring + 4) (vring_start start ring + 12) (inr (omega (arith, more)))
      ]

  agrees : DeviceAgrees a after start
  agrees = record {
    head = outside start (start + 16) (inl (omega arith));
    config = outside (start + 20) (start + 24) (inl (omega arith));
    counts = outside (start + 25) (start + 28) (inl (omega arith));
    rings = λ ring below. sized ring;
  }

  other : (ring : ℕ) → (fix.ring ≡ ring → ⊥) → Agree a after (vring_start start ring) (vring_start start ring + 20)
  other ring differs =
      elim (cases_order ring fix.ring) [
        | inl same ↦ absurd (differs (sym same))
        | inr (inl less) ↦ outside (vring_start start ring) (vring_start start ring + 20) (inl (omega (arith, less)))
        | inr (inr more) ↦ outside (vring_start start ring) (vring_start start ring + 20) (inr (omega (arith, more)))
      ]

  ring_is : (ring : ℕ) → IsSmallFix fix → ring_of after start ring ≡ ring_with fix ring (ring_of a start ring)
  ring_is ring small =
      let count = count_same a after start agrees in
      elim (cases_Bool (eqb fix.ring ring)) [
        | inl here ↦
            let same = eqb-true fix.ring ring here in
            rw here
            (ap (λ k. ring_of after start k) (sym same) ∙ ring_there after start fix.ring (omega (arith, count, among))
            ∙ vring_fixed a (vring_start start fix.ring) fix ring_inside small
            ∙ ap (placed_ring fix) (sym (ring_there a start fix.ring among) ∙ ap (λ k. ring_of a start k) same))
        | inr differs ↦ rw differs (ring_kept a after start ring count (λ below. other ring (eqb-false fix.ring ring differs)))
      ]

  -- a device with one of its rings placed
  pub device_fixed : IsSmallFix fix → IsEntryAfter type.Vdev a after start (with_fix fix (entry_of_type type.Vdev a start))
  unfolding device_at
  device_fixed small =
      let len = length-written (ring_writes fix (vring_start start fix.ring)) a (ring_within a (vring_start start fix.ring) fix ring_inside) in
      record {
        type = number_same 4 (start + 0) a after (outside (start + 0) (start + 0 + 4) (inl (omega arith)));
        tests = device_tests a after start len agrees;
        is = ap entry.Device (device_is a after start _ _ _ _ agrees
            (number_same 4 (start + 16) a after (outside (start + 16) (start + 16 + 4) (inl (omega arith))))
            (number_same 1 (start + 24) a after (outside (start + 24) (start + 24 + 1) (inl (omega arith))))
            (ring_is 0 small) (ring_is 1 small));
      }

-- ---- the device for RPMsg

module _ (a : List ℕ) (start features : ℕ) (inside : start + device_size a start ≤ length a) where
  abbrev guest : Write
  guest = into fw_rsc_vdev.gfeatures start (bit_and features 1)

  abbrev status : Write
  status = into fw_rsc_vdev.status start 7

  abbrev ready : List ℕ
  ready = after_writes (rpmsg_writes features start) a

  device_within : All (LiesIn (length a)) (rpmsg_writes features start)
  device_within = two_within (length a) guest status (omega arith) (omega arith)

  ready_agrees : (from to : ℕ) → LeavesRange from to guest → LeavesRange from to status → Agree a ready from to
  ready_agrees from to one two = agree_writes (rpmsg_writes features start) a from to device_within (two_leave from to guest status one two)

  ready_behind : (from to : ℕ) → start + 25 ≤ from → Agree a ready from to
  ready_behind from to past = ready_agrees from to (inr (omega arith)) (inr (omega arith))

  ready_device : DeviceAgrees a ready start
  ready_device = record {
    head = ready_agrees start (start + 16) (inl (omega arith)) (inl (omega arith));
    config = ready_agrees (start + 20) (start + 24) (inr (omega arith)) (inl (omega arith));
    counts = ready_behind (start + 25) (start + 28) (omega arith);
    rings = λ ring below. ready_behind (vring_start start ring + 4) (vring_start start ring + 12) (omega arith);
  }

  small_guest : bit_and features 1 < 2 ^ 32
  small_guest = omega (arith, and_le_r features 1)

  -- a device for RPMsg that is set up
  pub device_set_up : field fw_rsc_vdev.dfeatures start a ≡ features → is_rpmsg_of_type type.Vdev a start ≡ true
      → IsEntryAfter type.Vdev a ready start (set_up (entry_of_type type.Vdev a start))
  unfolding device_at
  device_set_up offers is =
      let len = length-written (rpmsg_writes features start) a device_within in
      let count = count_same a ready start ready_device in
      let ring : (r : ℕ) → ring_of ready start r ≡ ring_of a start r =
      λ r. ring_kept a ready start r count (λ below. ready_behind (vring_start start r) (vring_start start r + 20) (omega arith)) in
      record {
        type = number_same 4 (start + 0) a ready (ready_agrees (start + 0) (start + 0 + 4) (inl (omega arith)) (inl (omega arith)));
        tests = device_tests a ready start len ready_device;
        is = rw is (ap entry.Device (device_is a ready start _ _ _ _ ready_device
            (written_last guest (status ∷ []) a device_within (one_leaves guest.at (guest.at + guest.width) status (inl (omega arith))) small_guest ∙ ap (λ n. bit_and n 1) (sym offers))
            (written_last status [] (after_writes (guest ∷ []) a) (still_within guest (status ∷ []) a device_within) (none_leaves status.at (status.at + status.width)) (omega arith))
            (ring 0) (ring 1)));
      }

-- an entry that is no device for RPMsg is not set up
pub none_set_up : (kind : ResourceType) (bytes : List ℕ) (start : ℕ) → is_rpmsg_of_type kind bytes start ≡ false → set_up (entry_of_type kind bytes start) ≡ entry_of_type kind bytes start
unfolding device_at
none_set_up type.Carveout bytes start is = refl
none_set_up type.Devmem bytes start is = refl
none_set_up type.Trace bytes start is = refl
none_set_up type.Vdev bytes start is = rw is refl
none_set_up type.Other bytes start is = refl
