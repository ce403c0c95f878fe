-- How the device addresses of a board are read (own).
use Rattle.std.specs.Prelude.{ℕ, ◌+◌, ◌-◌, ◌==◌, Bool, ◌&&◌, List, [], ◌∷◌, if◌then◌else◌}
use Rattle.memory_pool.specs.Ranges.{lies_within}
use Rattle.resource_table.specs.declared.entries.Entry.{Entry}
use Rattle.resource_table.specs.declared.entries.Entry.TheVariants as entry
use Rattle.resource_table.specs.declared.entries.Ring.{Ring}
use Rattle.resource_table.specs.declared.entries.Vdev.{Vdev}
use Rattle.vring_layout.specs.Sizes.{ring_size}
use Rattle.board_file.specs.declared.boards.Alias.{Alias}

-- whether an alias holds a range whole, and its first address
abbrev pub alias_holds : Alias → ℕ → ℕ → Bool
alias_holds alias da len = lies_within da 1 alias.da alias.len && lies_within da len alias.da alias.len

-- the first address of a range as the regions have it: that of what the alias stands for which holds the range whole, or itself
abbrev pub read_through : List Alias → ℕ → ℕ → ℕ
read_through [] da len = da
read_through (alias ∷ more) da len =
    if alias_holds alias da len then alias.to + (da - alias.da) else read_through more da len

-- the same where the address may be "any", FW_RSC_ADDR_ANY (remoteproc.h)
abbrev pub address_through : List Alias → ℕ → ℕ → ℕ
address_through aliases da len = if da == 0xffffffff then 0xffffffff else read_through aliases da len

-- a ring with its address as the regions have it
abbrev pub ring_through : List Alias → Ring → Ring
ring_through aliases ring = record ring { da = address_through aliases ring.da (ring_size ring.num ring.align) }

-- a device with those of its rings
abbrev pub device_through : List Alias → Vdev → Vdev
device_through aliases device = record device { first = ring_through aliases device.first; second = ring_through aliases device.second }

-- what an entry of a table asks for, with its addresses as the regions have them
abbrev pub entry_through : List Alias → Entry → Entry
entry_through aliases (entry.Carveout da pa len name) = entry.Carveout (address_through aliases da len) pa len name
entry_through aliases (entry.Devmem da pa len name) = entry.Devmem (read_through aliases da len) pa len name
entry_through aliases (entry.Trace da len name) = entry.Trace da len name
entry_through aliases (entry.Device device) = entry.Device (device_through aliases device)
entry_through aliases (entry.Skipped type) = entry.Skipped type
