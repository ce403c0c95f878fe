-- What C is given of the header of a message and of messages of the name service, and what it has written (own).
use Rattle.std.specs.Prelude.{ℕ, ◌+◌, ◌==◌, nat_lt, not, Bool, List, ◌++◌, take, drop, Option, Some, None, if◌then◌else◌}
use Rattle.rp_base.specs.Texts.{padded_name, text_before_zero}
use Rattle.rp_base.specs.declared.limits.TheConstants.{NAME_MOST, PAYLOAD_MOST}
use Rattle.rpmsg_header.specs.Headers.{destination_of, head_bytes, payload_length, source_of}
use Rattle.rpmsg_header.specs.Services.{service_bytes}
use Rattle.rpmsg_header.specs.declared.services.NsMessage.{NsMessage}
use Rattle.c_forms.specs.declared.TheConstants.{DONE, WRONG_LENGTH}
use Rattle.c_forms.specs.declared.messages.CHeader.{CHeader}
use Rattle.c_forms.specs.declared.messages.CService.{CService}

-- the status of a message that is whole or not (own)
abbrev pub read_status : Bool → ℕ
read_status whole = if whole then DONE else 61

-- what is given of the header of a message that is whole, and what was there otherwise (own)
abbrev pub told_head : Bool → List ℕ → CHeader → CHeader
told_head whole message was =
    if whole then (record { src = source_of message; dst = destination_of message; len = payload_length message }) else was

-- the status of a header for a payload of so many bytes in a buffer of so many: a payload has at most PAYLOAD_MOST (virtio_rpmsg_bus.c, RPMSG_BUF_SIZE without the header)
abbrev pub head_status : ℕ → ℕ → ℕ
head_status len room = if nat_lt PAYLOAD_MOST len then 60 else if nat_lt room (16 + len) then WRONG_LENGTH else DONE

-- a buffer with a header at its start where the status is good, and as it was otherwise (own)
abbrev pub with_head : ℕ → ℕ → ℕ → ℕ → List ℕ → List ℕ
with_head status src dst len buffer = if status == DONE then head_bytes src dst len ++ drop 16 buffer else buffer

-- the status of a payload that may be a message of the name service (own)
abbrev pub service_status : Option NsMessage → ℕ
service_status None = WRONG_LENGTH
service_status (Some service) = DONE

-- what is given of such a payload, and what was there otherwise (own)
abbrev pub service_told : Option NsMessage → CService → CService
service_told None was = was
service_told (Some service) was =
    record { name = padded_name service.name; address = service.address; destroy = if service.destroy then 1 else 0 }

-- the message that was given (own)
abbrev pub service_given : CService → NsMessage
service_given given =
    record { name = text_before_zero (take NAME_MOST given.name); address = given.address; destroy = not (given.destroy == 0) }

-- the status of a message of the name service in a buffer of so many bytes (own)
abbrev pub service_room : ℕ → ℕ
service_room room = if nat_lt room 40 then WRONG_LENGTH else DONE

-- a buffer with the message at its start where the status is good, and as it was otherwise (own)
abbrev pub with_service : ℕ → CService → List ℕ → List ℕ
with_service status given buffer = if status == DONE then service_bytes (service_given given) ++ drop 40 buffer else buffer
