-- How the words of transcript lines are read (own). What is no text of a kind reads as some value, whose text is another.
use Rattle.std.specs.Prelude.{◌≡◌, ℕ, ◌+◌, ◌*◌, ◌%◌, ◌^◌, ◌<◌, ◌≤◌, ◌==◌, Bool, true, not, ◌&&◌, if◌then◌else◌, List, [], ◌∷◌, length, fold, nat_le, bytes_eq, codes, All}
use Rattle.std.specs.List.{list_all, slice_split}
use Rattle.rp_base.specs.declared.kinds.End.{End}
use Rattle.rp_base.specs.declared.kinds.End.TheVariants as side
use Rattle.rp_base.specs.declared.kinds.Endpoint.{Endpoint}
use Rattle.rp_base.specs.declared.kinds.NsKind.{NsKind}
use Rattle.rp_base.specs.declared.kinds.NsKind.TheVariants as service
use Rattle.rp_base.specs.declared.kinds.LifeState.{LifeState}
use Rattle.rp_base.specs.declared.kinds.LifeState.TheVariants as state
use Rattle.rp_base.specs.declared.kinds.DriverKind.{DriverKind}
use Rattle.rp_base.specs.declared.kinds.DriverKind.TheVariants as driver
use Rattle.rp_base.specs.declared.kinds.Switch.{Switch}
use Rattle.rp_base.specs.declared.kinds.Switch.TheVariants as switch
use Rattle.rp_base.specs.declared.limits.TheConstants.{MESSAGE_MOST, NAME_MOST}
use Rattle.word_kinds.specs.Spellings.{is_name, hex_value}
use Rattle.word_kinds.specs.Payloads.{byte_of, bytes_of_pairs, bytes_in}
use Rattle.word_kinds.specs.Texts.{Word, Fixed, Name, Number, Digits, Offset, Bytes, Row, Escaped, Trace, Lane, Bound, Dotted, Side, Open, Service, State, Driver, OnOff}

-- the kinds of words of the lines of events
pub data LineKind : Type 0 where
  OfText : List ℕ → LineKind
  OfName : LineKind
  OfNumber : LineKind
  OfDigits : LineKind
  OfOffset : LineKind
  OfBytes : LineKind
  OfRow : ℕ → LineKind
  OfEscaped : LineKind
  OfTrace : LineKind
  OfLane : LineKind
  OfBound : LineKind
  OfDotted : LineKind
  OfSide : LineKind
  OfOpen : LineKind
  OfService : LineKind
  OfState : LineKind
  OfDriver : LineKind
  OfSwitch : LineKind

-- the kind of a word
abbrev pub kind_of : Word → LineKind
kind_of (Fixed text) = OfText text
kind_of (Name name) = OfName
kind_of (Number number) = OfNumber
kind_of (Digits number) = OfDigits
kind_of (Offset number) = OfOffset
kind_of (Bytes bytes) = OfBytes
kind_of (Row most bytes) = OfRow most
kind_of (Escaped text) = OfEscaped
kind_of (Trace text) = OfTrace
kind_of (Lane lane) = OfLane
kind_of (Bound endpoint) = OfBound
kind_of (Dotted first second) = OfDotted
kind_of (Side end) = OfSide
kind_of (Open is_live) = OfOpen
kind_of (Service what) = OfService
kind_of (State state) = OfState
kind_of (Driver kind) = OfDriver
kind_of (OnOff switch) = OfSwitch

-- a text without a space that isn't empty
abbrev pub is_clean : List ℕ → Bool
is_clean text = not (length text == 0) && list_all (λ byte. not (byte == 32)) text

-- a word that a line may have: numbers and offsets of 64 bits, addresses of 32, names as scripts spell them, payloads of at most 512 bytes, rows
-- of at least one byte, names of channels of at most 31 bytes without a zero, texts without a zero, and a lane that is 0 or 1
abbrev pub IsGood : Word → Type 0
IsGood (Fixed text) = is_clean text ≡ true
IsGood (Name name) = is_name name ≡ true
IsGood (Number number) = number < 2 ^ 64
IsGood (Digits number) = number < 2 ^ 32
IsGood (Offset number) = number < 2 ^ 64
IsGood (Bytes bytes) = (length bytes ≤ MESSAGE_MOST) × All (λ byte. byte < 256) bytes
IsGood (Row most bytes) = (1 ≤ length bytes) × (length bytes ≤ most) × All (λ byte. byte < 256) bytes
IsGood (Escaped text) = (length text ≤ NAME_MOST) × All (λ byte. (0 < byte) × (byte < 256)) text
IsGood (Trace text) = All (λ byte. (0 < byte) × (byte < 256)) text
IsGood (Lane lane) = lane < 2
IsGood (Bound endpoint) = (endpoint.address < 2 ^ 32) × (endpoint.generation < 2 ^ 64)
IsGood (Dotted first second) = (first < 2 ^ 64) × (second < 2 ^ 64)
IsGood (Side end) = Unit {0}
IsGood (Open is_live) = Unit {0}
IsGood (Service what) = Unit {0}
IsGood (State state) = Unit {0}
IsGood (Driver kind) = Unit {0}
IsGood (OnOff switch) = Unit {0}

-- the value of decimal digits, modulo 2^64
abbrev pub digit_more : ℕ → ℕ → ℕ
digit_more value byte = (10 * value % 2 ^ 64 + (byte + 208) % 256) % 2 ^ 64

abbrev pub number_read : List ℕ → ℕ
number_read word = fold digit_more 0 word

-- the value of hexadecimal digits, modulo 2^64
abbrev pub hex_more : ℕ → ℕ → ℕ
hex_more value byte = (16 * value % 2 ^ 64 + hex_value byte) % 2 ^ 64

abbrev pub hex_read : List ℕ → ℕ
hex_read word = fold hex_more 0 word

-- the first of some parts, and the others
abbrev pub first_part : List (List ℕ) → List ℕ
first_part [] = []
first_part (part ∷ parts) = part

abbrev pub other_parts : List (List ℕ) → List (List ℕ)
other_parts [] = []
other_parts (part ∷ parts) = parts

-- the parts of a text between dots
abbrev pub dot_parts : List ℕ → List (List ℕ)
dot_parts text = slice_split (λ byte. byte == 46) text

-- two numbers with a dot between
abbrev pub first_number : List ℕ → ℕ
first_number word = number_read (first_part (dot_parts word))

abbrev pub second_number : List ℕ → ℕ
second_number word = number_read (first_part (other_parts (dot_parts word)))

-- an address and a generation
abbrev pub endpoint_read : List ℕ → Endpoint
endpoint_read word = record { address = first_number word % 2 ^ 32; generation = second_number word }

-- a text with escapes
abbrev pub without_escapes : List ℕ → List ℕ
without_escapes [] = []
without_escapes (first ∷ []) = if first == 37 then [] else first ∷ []
without_escapes (first ∷ second ∷ []) = if first == 37 then [] else first ∷ without_escapes (second ∷ [])
without_escapes (first ∷ second ∷ third ∷ more) =
    if first == 37 then byte_of second third ∷ without_escapes more else first ∷ without_escapes (second ∷ third ∷ more)

-- what the name service did
abbrev pub service_read : List ℕ → NsKind
service_read word =
    if bytes_eq word (codes "created") then service.Created
    else (if bytes_eq word (codes "duplicate") then service.Duplicate
    else (if bytes_eq word (codes "destroyed") then service.Destroyed
    else (if bytes_eq word (codes "unknown") then service.Unknown else service.ChannelsFull)))

-- the state of a core, what a driver does, whether something is on, a lane
abbrev pub state_read : List ℕ → LifeState
state_read word =
    if bytes_eq word (codes "offline") then state.Offline
    else (if bytes_eq word (codes "running") then state.Running
    else (if bytes_eq word (codes "crashed") then state.Crashed
    else (if bytes_eq word (codes "attached") then state.Attached else state.Detached)))

abbrev pub driver_read : List ℕ → DriverKind
driver_read word = if bytes_eq word (codes "sink") then driver.Sink else (if bytes_eq word (codes "echo") then driver.Echo else driver.Sample)

abbrev pub switch_read : List ℕ → Switch
switch_read word = if bytes_eq word (codes "on") then switch.On else switch.Off

abbrev pub lane_read : List ℕ → ℕ
lane_read word = number_read word % 2

-- a text without a zero
abbrev pub is_zeroless : List ℕ → Bool
is_zeroless text = list_all (λ byte. not (byte == 0)) text

-- the name of a channel: at most 31 bytes without a zero
abbrev pub is_channel : List ℕ → Bool
is_channel text = nat_le (length text) NAME_MOST && is_zeroless text

abbrev pub channel_read : List ℕ → List ℕ
channel_read word = if is_channel (without_escapes word) then without_escapes word else []

-- the end of a link
abbrev pub end_read : List ℕ → End
end_read word = if bytes_eq word (codes "host") then side.Host else side.Remote

-- the word of a kind that a text says
abbrev pub word_read : LineKind → List ℕ → Word
word_read (OfText text) word = Fixed text
word_read OfName word = Name (if is_name word then word else [])
word_read OfNumber word = Number (number_read word)
word_read OfDigits word = Digits (hex_read word % 2 ^ 32)
word_read OfOffset word = Offset (hex_read word)
word_read OfBytes word = Bytes (bytes_in word)
word_read (OfRow most) word = Row most (bytes_of_pairs word)
word_read OfEscaped word = Escaped (channel_read word)
word_read OfTrace word = Trace (without_escapes word)
word_read OfLane word = Lane (lane_read word)
word_read OfBound word = Bound (endpoint_read word)
word_read OfDotted word = Dotted (first_number word) (second_number word)
word_read OfSide word = Side (end_read word)
word_read OfOpen word = Open (bytes_eq word (codes "open"))
word_read OfService word = Service (service_read word)
word_read OfState word = State (state_read word)
word_read OfDriver word = Driver (driver_read word)
word_read OfSwitch word = OnOff (switch_read word)
