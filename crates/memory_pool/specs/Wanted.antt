-- What the entries of a resource table ask to be placed, in the order of the table (fields of Linux include/linux/remoteproc.h).
use Rattle.std.specs.Prelude.{ℕ, ◌+◌, ◌*◌, ◌==◌, nat_lt, Bool, true, false, not, List, [], ◌∷◌, ◌++◌, filter, if◌then◌else◌}
use Rattle.rp_base.specs.Limits.{ring_capacity}
use Rattle.rp_base.specs.declared.limits.TheConstants.{MESSAGE_MOST}
use Rattle.vring_layout.specs.Sizes.{ring_size}
use Rattle.resource_table.specs.declared.entries.Ring.{Ring}
use Rattle.resource_table.specs.declared.entries.Vdev.{Vdev}
use Rattle.resource_table.specs.declared.entries.Entry.{Entry}
use Rattle.resource_table.specs.declared.entries.Entry.TheVariants as entry
use Rattle.memory_pool.specs.declared.blocks.Use.{Use}
use Rattle.memory_pool.specs.declared.blocks.Use.TheVariants as usage
use Rattle.memory_pool.specs.declared.wanted.Wanted.{Wanted}
use Rattle.memory_pool.specs.declared.wanted.Wanted.TheVariants as wanted

-- a block of memory at a device address, of which FW_RSC_ADDR_ANY, 0xffffffff, means any (remoteproc.h); then it is aligned
abbrev pub memory_wanted : Use → ℕ → ℕ → ℕ → Wanted
memory_wanted purpose da len align =
    if da == 0xffffffff then wanted.Any purpose len align else wanted.Given purpose da len

-- the ring of a number of a device (struct fw_rsc_vdev_vring), of as many bytes as its entries and its alignment ask
abbrev pub ring_wanted : ℕ → ℕ → Ring → Wanted
ring_wanted index number ring =
    memory_wanted (usage.Ring index number) ring.da (ring_size ring.num ring.align) ring.align

-- the rings that a device has (struct fw_rsc_vdev, num_of_vrings)
abbrev pub rings_wanted : ℕ → Vdev → List Wanted
rings_wanted index device =
    (if nat_lt 0 device.count then ring_wanted index 0 device.first ∷ [] else [])
    ++ (if nat_lt 1 device.count then ring_wanted index 1 device.second ∷ [] else [])

-- the buffers of a device for RPMsg, VIRTIO_ID_RPMSG 7: the bytes of the longest message for each that its two lanes have, anywhere (own)
abbrev pub buffers_wanted : ℕ → Vdev → List Wanted
buffers_wanted index device =
    if device.id == 7
    then wanted.Any (usage.Buffers index) (MESSAGE_MOST * (ring_capacity device.first.num + ring_capacity device.second.num)) 4096 ∷ []
    else []

-- what the entry of a number asks for: nothing where it has length 0 (own)
abbrev pub wanted_by : ℕ → Entry → List Wanted
wanted_by index (entry.Carveout da pa len name) =
    if len == 0 then [] else memory_wanted (usage.Carveout index) da len 4096 ∷ []
wanted_by index (entry.Devmem da pa len name) =
    if len == 0 then [] else wanted.Window index da pa len ∷ []
wanted_by index (entry.Trace da len name) = []
wanted_by index (entry.Device device) = rings_wanted index device ++ buffers_wanted index device
wanted_by index (entry.Skipped type) = []

-- what entries ask for, of which the first has a number (own)
abbrev pub wanted_from : ℕ → List Entry → List Wanted
wanted_from index [] = []
wanted_from index (entry ∷ more) = wanted_by index entry ++ wanted_from (index + 1) more

-- whether a block may be anywhere (own)
abbrev pub is_anywhere : Wanted → Bool
is_anywhere (wanted.Any purpose len align) = true
is_anywhere _ = false

-- what is asked for, in the order in which it is placed: first what has an address, then what may be anywhere, both in the order of the table (own)
abbrev pub in_order : List Wanted → List Wanted
in_order all = filter (λ one. not (is_anywhere one)) all ++ filter is_anywhere all
