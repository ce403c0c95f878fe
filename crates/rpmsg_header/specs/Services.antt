-- Messages of the name service (`struct rpmsg_ns_msg` of Linux include/linux/rpmsg/ns.h): a name of 32 bytes, addr u32, flags u32.
use Rattle.std.specs.Prelude.{◌≡◌, ℕ, ◌^◌, ◌<◌, ◌≤◌, List, ◌++◌, Option, Some, None, ◌==◌, if◌then◌else◌, length, take, bit_and}
use Rattle.byteorder.specs.Endian.{little_bytes}
use Rattle.rp_base.specs.Fields.{number_at}
use Rattle.rp_base.specs.declared.limits.TheConstants.{NAME_MOST}
use Rattle.rp_base.specs.Texts.{padded_name, text_before_zero}
use Rattle.rpmsg_header.specs.declared.services.NsMessage.{NsMessage}

-- the payload that is written (rpmsg_ns_msg); of the flags only RPMSG_NS_DESTROY, the lowest bit, may be set
abbrev pub service_bytes : NsMessage → List ℕ
service_bytes ns =
    padded_name ns.name ++ little_bytes 4 ns.address ++ little_bytes 4 (if ns.destroy then 1 else 0)

-- what 40 bytes say (rpmsg_ns_msg): the last byte of the name counts as zero, flags above the lowest bit are ignored (own)
abbrev pub service_in : List ℕ → NsMessage
service_in payload = record {
  name = text_before_zero (take NAME_MOST payload);
  address = number_at 4 32 payload;
  destroy = bit_and (number_at 4 36 payload) 1 == 1;
}

-- what a payload says, if it has 40 bytes (virtio_rpmsg_bus.c, rpmsg_ns_cb)
abbrev pub service_of : List ℕ → Option NsMessage
service_of payload = if length payload == 40 then Some (service_in payload) else None

-- what a service message can say: a name of at most so many bytes as one may have, without a zero, and an address of 32 bits (rpmsg_ns_msg)
pub record IsSayable (ns : NsMessage) : Type 0 where
  pub short : length ns.name ≤ NAME_MOST
  pub text : text_before_zero ns.name ≡ ns.name
  pub address_fits : ns.address < 2 ^ 32
