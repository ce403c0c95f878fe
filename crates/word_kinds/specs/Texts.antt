-- The words of transcript lines, and the text of each (own).
use Rattle.std.specs.Prelude.{ℕ, ◌+◌, ◌/◌, ◌%◌, Bool, false, ◌==◌, ◌&&◌, not, nat_le, nat_lt, if◌then◌else◌, List, [], ◌∷◌, ◌++◌, length, codes}
use Rattle.std.specs.List.{flat_map}
use Rattle.std.specs.Fmt.{decimal, digits}
use Rattle.rp_base.specs.declared.kinds.End.{End}
use Rattle.rp_base.specs.declared.kinds.End.TheVariants as side
use Rattle.rp_base.specs.declared.kinds.Endpoint.{Endpoint}
use Rattle.rp_base.specs.declared.kinds.NsKind.{NsKind}
use Rattle.rp_base.specs.declared.kinds.NsKind.TheVariants as service
use Rattle.rp_base.specs.declared.kinds.LifeState.{LifeState}
use Rattle.rp_base.specs.declared.kinds.LifeState.TheVariants as state
use Rattle.rp_base.specs.declared.kinds.DriverKind.{DriverKind}
use Rattle.rp_base.specs.declared.kinds.DriverKind.TheVariants as driver
use Rattle.rp_base.specs.declared.kinds.Switch.{Switch}
use Rattle.rp_base.specs.declared.kinds.Switch.TheVariants as switch

-- a lower-case hexadecimal digit
abbrev pub hex_digit : ℕ → ℕ
hex_digit value = if nat_lt value 10 then value + 48 else value + 87

-- a byte as two digits
abbrev pub hex_byte : ℕ → List ℕ
hex_byte byte = hex_digit (byte / 16) ∷ hex_digit (byte % 16) ∷ []

-- a number of 32 bits as eight digits
abbrev pub eight_digits : ℕ → List ℕ
eight_digits number =
    hex_byte (number / 16777216) ++ hex_byte (number / 65536 % 256) ++ hex_byte (number / 256 % 256) ++ hex_byte (number % 256)

-- a number as four digits, or as more without a leading zero where it needs them
abbrev pub four_digits : ℕ → List ℕ
four_digits number = if nat_lt number 65536 then hex_byte (number / 256) ++ hex_byte (number % 256) else digits 16 false number

-- bytes as pairs of digits, or `-` where there is none
abbrev pub hex_bytes : List ℕ → List ℕ
hex_bytes bytes = if length bytes == 0 then codes "-" else flat_map hex_byte bytes

-- a byte that prints as it is: a visible character other than `%`
abbrev pub is_plain : ℕ → Bool
is_plain byte = nat_le 33 byte && nat_le byte 126 && not (byte == 37)

-- a byte as it is where it is plain, else `%` and its two digits
abbrev pub escaped_byte : ℕ → List ℕ
escaped_byte byte = if is_plain byte then byte ∷ [] else 37 ∷ hex_byte byte

-- a name or a text, with `%` and two digits for each byte that isn't plain, or `%` where it is empty
abbrev pub with_escapes : List ℕ → List ℕ
with_escapes text = if length text == 0 then codes "%" else flat_map escaped_byte text

-- the end of a link
abbrev pub end_text : End → List ℕ
end_text side.Host = codes "host"
end_text side.Remote = codes "remote"

-- two numbers with a dot between them
abbrev pub dotted_text : ℕ → ℕ → List ℕ
dotted_text first second = decimal first ++ codes "." ++ decimal second

-- whether an incarnation is open
abbrev pub open_text : Bool → List ℕ
open_text is_live = if is_live then codes "open" else codes "closed"

-- what the name service made of a message
abbrev pub service_text : NsKind → List ℕ
service_text service.Created = codes "created"
service_text service.Duplicate = codes "duplicate"
service_text service.Destroyed = codes "destroyed"
service_text service.Unknown = codes "unknown"
service_text service.ChannelsFull = codes "full"

-- the state of a core
abbrev pub state_text : LifeState → List ℕ
state_text state.Offline = codes "offline"
state_text state.Running = codes "running"
state_text state.Crashed = codes "crashed"
state_text state.Attached = codes "attached"
state_text state.Detached = codes "detached"

-- what a driver does
abbrev pub driver_text : DriverKind → List ℕ
driver_text driver.Sink = codes "sink"
driver_text driver.Echo = codes "echo"
driver_text driver.Sample = codes "sample"

-- whether something is on
abbrev pub switch_text : Switch → List ℕ
switch_text switch.On = codes "on"
switch_text switch.Off = codes "off"

-- a word of a line, by its kind: fixed text, a name, a number in decimal or in eight or at least four hexadecimal digits, a payload in
-- hexadecimal, from one to so many bytes in hexadecimal, a name with escapes, a text with escapes, a lane, an endpoint (its address and generation), two numbers, the end of a link, whether it is open, what the name service did,
-- the state of a core, what a driver does, whether something is on
pub data Word : Type 0 where
  Fixed : List ℕ → Word
  Name : List ℕ → Word
  Number : ℕ → Word
  Digits : ℕ → Word
  Offset : ℕ → Word
  Bytes : List ℕ → Word
  Row : ℕ → List ℕ → Word
  Escaped : List ℕ → Word
  Trace : List ℕ → Word
  Lane : ℕ → Word
  Bound : Endpoint → Word
  Dotted : ℕ → ℕ → Word
  Side : End → Word
  Open : Bool → Word
  Service : NsKind → Word
  State : LifeState → Word
  Driver : DriverKind → Word
  OnOff : Switch → Word

-- how a word is written
abbrev pub text : Word → List ℕ
text (Fixed bytes) = bytes
text (Name name) = name
text (Number number) = decimal number
text (Digits number) = eight_digits number
text (Offset number) = four_digits number
text (Bytes bytes) = hex_bytes bytes
text (Row most bytes) = hex_bytes bytes
text (Escaped bytes) = with_escapes bytes
text (Trace bytes) = with_escapes bytes
text (Lane lane) = decimal lane
text (Bound endpoint) = dotted_text endpoint.address endpoint.generation
text (Dotted first second) = dotted_text first second
text (Side end) = end_text end
text (Open is_live) = open_text is_live
text (Service what) = service_text what
text (State state) = state_text state
text (Driver kind) = driver_text kind
text (OnOff switch) = switch_text switch
