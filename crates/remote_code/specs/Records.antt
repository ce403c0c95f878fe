-- The records of a worker's code, 16 bytes each (own).
use Rattle.std.specs.Prelude.{ℕ, ◌<◌, ◌^◌, ◌==◌, List, replicate, if◌then◌else◌, Result, Ok, Err}
use Rattle.rp_base.specs.Fields.{number_at, with_number}
use Rattle.remote_code.specs.declared.faults.WorkerFault.{WorkerFault}
use Rattle.remote_code.specs.declared.faults.WorkerFault.TheVariants.{UnknownOp}
use Rattle.remote_code.specs.declared.records.Record.{Record}
use Rattle.remote_code.specs.declared.records.Record.TheVariants.{Halt, Announce, Bind, Send, Raw, Take, Trace, Crash, Loop}

-- the fields of a record, each little-endian: op and n in 2 bytes, a, b and c in 4 bytes each
abbrev pub op_of : List ℕ → ℕ
op_of bytes = number_at 2 0 bytes

-- the field n: 2 bytes from 2
abbrev pub n_of : List ℕ → ℕ
n_of bytes = number_at 2 2 bytes

-- the field a: 4 bytes from 4
abbrev pub a_of : List ℕ → ℕ
a_of bytes = number_at 4 4 bytes

-- the field b: 4 bytes from 8
abbrev pub b_of : List ℕ → ℕ
b_of bytes = number_at 4 8 bytes

-- the field c: 4 bytes from 12
abbrev pub c_of : List ℕ → ℕ
c_of bytes = number_at 4 12 bytes

-- the record that these bytes are, by its op, with the operands that the op names
abbrev pub record_of : List ℕ → Result Record WorkerFault
record_of bytes =
    let op = op_of bytes in
    if op == 0 then Ok Halt
    else if op == 1 then Ok (Announce (a_of bytes) (b_of bytes) (c_of bytes))
    else if op == 2 then Ok (Bind (a_of bytes))
    else if op == 3 then Ok (Send (n_of bytes) (a_of bytes) (b_of bytes) (c_of bytes))
    else if op == 4 then Ok (Raw (n_of bytes) (c_of bytes))
    else if op == 5 then Ok Take
    else if op == 6 then Ok (Trace (n_of bytes) (a_of bytes) (c_of bytes))
    else if op == 7 then Ok (Crash (a_of bytes))
    else if op == 8 then Ok (Loop (a_of bytes) (b_of bytes))
    else Err UnknownOp

-- the 16 bytes of these fields
abbrev pub bytes_of_fields : ℕ → ℕ → ℕ → ℕ → ℕ → List ℕ
bytes_of_fields op n a b c =
    with_number 4 12 c (with_number 4 8 b (with_number 4 4 a (with_number 2 2 n (with_number 2 0 op (replicate 16 0)))))

-- the bytes of a record: its op, the operands that the op names, and 0 in each other field
abbrev pub record_bytes : Record → List ℕ
record_bytes Halt = bytes_of_fields 0 0 0 0 0
record_bytes (Announce a b c) = bytes_of_fields 1 0 a b c
record_bytes (Bind a) = bytes_of_fields 2 0 a 0 0
record_bytes (Send n a b c) = bytes_of_fields 3 n a b c
record_bytes (Raw n c) = bytes_of_fields 4 n 0 0 c
record_bytes Take = bytes_of_fields 5 0 0 0 0
record_bytes (Trace n a c) = bytes_of_fields 6 n a 0 c
record_bytes (Crash a) = bytes_of_fields 7 0 a 0 0
record_bytes (Loop a b) = bytes_of_fields 8 0 a b 0

-- the operands fit their fields
abbrev pub IsInRange : Record → Type 0
IsInRange Halt = Unit {0}
IsInRange (Announce a b c) = (a < 2 ^ 32) × (b < 2 ^ 32) × (c < 2 ^ 32)
IsInRange (Bind a) = a < 2 ^ 32
IsInRange (Send n a b c) = (n < 2 ^ 16) × (a < 2 ^ 32) × (b < 2 ^ 32) × (c < 2 ^ 32)
IsInRange (Raw n c) = (n < 2 ^ 16) × (c < 2 ^ 32)
IsInRange Take = Unit {0}
IsInRange (Trace n a c) = (n < 2 ^ 16) × (a < 2 ^ 32) × (c < 2 ^ 32)
IsInRange (Crash a) = a < 2 ^ 32
IsInRange (Loop a b) = (a < 2 ^ 32) × (b < 2 ^ 32)
