-- Where the fields of a resource table are (Linux include/linux/remoteproc.h). Numbers are little-endian.
use Rattle.std.specs.Prelude.{ℕ, ◌+◌, List}
use Rattle.rp_base.specs.Fields.{number_at}

-- a field of a structure: its place from the structure's start and its width, both in bytes (own)
pub record Field : Type 0 where
  pub at : ℕ
  pub width : ℕ

-- struct resource_table: the header, with both reserved words as one field; `size` is its bytes, and the offsets follow
pub record TableLayout : Type 0 where
  pub ver : Field
  pub num : Field
  pub reserved : Field
  pub size : ℕ
  pub offset_size : ℕ

-- struct fw_rsc_hdr: what each entry begins with
pub record HeaderLayout : Type 0 where
  pub type : Field
  pub size : ℕ

-- struct fw_rsc_carveout, and struct fw_rsc_devmem, which is laid out alike
pub record CarveoutLayout : Type 0 where
  pub da : Field
  pub pa : Field
  pub len : Field
  pub flags : Field
  pub reserved : Field
  pub name : Field
  pub size : ℕ

-- struct fw_rsc_trace
pub record TraceLayout : Type 0 where
  pub da : Field
  pub len : Field
  pub reserved : Field
  pub name : Field
  pub size : ℕ

-- struct fw_rsc_vdev, with both reserved bytes as one field; the vrings follow `size` bytes, and then the configuration
pub record VdevLayout : Type 0 where
  pub id : Field
  pub notifyid : Field
  pub dfeatures : Field
  pub gfeatures : Field
  pub config_len : Field
  pub status : Field
  pub num_of_vrings : Field
  pub reserved : Field
  pub size : ℕ

-- struct fw_rsc_vdev_vring; its last field was once reserved
pub record VringLayout : Type 0 where
  pub da : Field
  pub align : Field
  pub num : Field
  pub notifyid : Field
  pub pa : Field
  pub size : ℕ

-- struct resource_table { u32 ver; u32 num; u32 reserved[2]; u32 offset[]; }
abbrev pub resource_table : TableLayout
resource_table = record {
  ver = record { at = 0; width = 4 };
  num = record { at = 4; width = 4 };
  reserved = record { at = 8; width = 8 };
  size = 16;
  offset_size = 4;
}

-- struct fw_rsc_hdr { u32 type; u8 data[]; }; the places of every entry's fields below count these 4 bytes
abbrev pub fw_rsc_hdr : HeaderLayout
fw_rsc_hdr = record {
  type = record { at = 0; width = 4 };
  size = 4;
}

-- struct fw_rsc_carveout { u32 da, pa, len, flags, reserved; u8 name[32]; }, and fw_rsc_devmem alike
abbrev pub fw_rsc_carveout : CarveoutLayout
fw_rsc_carveout = record {
  da = record { at = 4; width = 4 };
  pa = record { at = 8; width = 4 };
  len = record { at = 12; width = 4 };
  flags = record { at = 16; width = 4 };
  reserved = record { at = 20; width = 4 };
  name = record { at = 24; width = 32 };
  size = 56;
}

-- struct fw_rsc_trace { u32 da, len, reserved; u8 name[32]; }
abbrev pub fw_rsc_trace : TraceLayout
fw_rsc_trace = record {
  da = record { at = 4; width = 4 };
  len = record { at = 8; width = 4 };
  reserved = record { at = 12; width = 4 };
  name = record { at = 16; width = 32 };
  size = 48;
}

-- struct fw_rsc_vdev { u32 id, notifyid, dfeatures, gfeatures, config_len; u8 status, num_of_vrings, reserved[2]; .. }
abbrev pub fw_rsc_vdev : VdevLayout
fw_rsc_vdev = record {
  id = record { at = 4; width = 4 };
  notifyid = record { at = 8; width = 4 };
  dfeatures = record { at = 12; width = 4 };
  gfeatures = record { at = 16; width = 4 };
  config_len = record { at = 20; width = 4 };
  status = record { at = 24; width = 1 };
  num_of_vrings = record { at = 25; width = 1 };
  reserved = record { at = 26; width = 2 };
  size = 28;
}

-- struct fw_rsc_vdev_vring { u32 da, align, num, notifyid, pa; }
abbrev pub fw_rsc_vdev_vring : VringLayout
fw_rsc_vdev_vring = record {
  da = record { at = 0; width = 4 };
  align = record { at = 4; width = 4 };
  num = record { at = 8; width = 4 };
  notifyid = record { at = 12; width = 4 };
  pa = record { at = 16; width = 4 };
  size = 20;
}

-- the value of a field of the structure that begins at a place (own)
abbrev pub field : Field → ℕ → List ℕ → ℕ
field f start bytes = number_at f.width (start + f.at) bytes
