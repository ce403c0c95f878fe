-- Messages of RPMsg (`struct rpmsg_hdr` of Linux drivers/rpmsg/virtio_rpmsg_bus.c): src u32, dst u32, reserved u32, len u16, flags u16, then len bytes of payload.
use Rattle.std.specs.Prelude.{ℕ, ◌-◌, List, ◌++◌, Bool, ◌&&◌, nat_le, length, take, drop}
use Rattle.byteorder.specs.Endian.{little_bytes}
use Rattle.rp_base.specs.Fields.{number_at}

-- the header that is written for a payload of this length (rpmsg_hdr; reserved and flags are written as 0: own)
abbrev pub head_bytes : ℕ → ℕ → ℕ → List ℕ
head_bytes src dst len =
    little_bytes 4 src ++ little_bytes 4 dst ++ little_bytes 4 0 ++ little_bytes 2 len ++ little_bytes 2 0

-- the message that is written (rpmsg_hdr, then its data)
abbrev pub header_bytes : ℕ → ℕ → List ℕ → List ℕ
header_bytes src dst payload = head_bytes src dst (length payload) ++ payload

-- the address of the sender (rpmsg_hdr, src)
abbrev pub source_of : List ℕ → ℕ
source_of message = number_at 4 0 message

-- the address of the receiver (rpmsg_hdr, dst)
abbrev pub destination_of : List ℕ → ℕ
destination_of message = number_at 4 4 message

-- how many bytes the header says that the payload has (rpmsg_hdr, len)
abbrev pub payload_length : List ℕ → ℕ
payload_length message = number_at 2 12 message

-- the payload, which begins after the 16 bytes of the header (rpmsg_hdr, data)
abbrev pub payload_of : List ℕ → List ℕ
payload_of message = take (payload_length message) (drop 16 message)

-- whether the header and the payload that it speaks of are there (virtio_rpmsg_bus.c, rpmsg_recv_single; reserved, flags and what follows may be anything: own)
abbrev pub is_whole : List ℕ → Bool
is_whole message = nat_le 16 (length message) && nat_le (payload_length message) (length message - 16)
