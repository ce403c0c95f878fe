-- A record is read from its own bytes.
use Rattle.std.proofs.Common.{◌≡◌, ℕ, ◌<◌, ◌^◌, replicate, Ok, refl, arith}
use Rattle.rp_base.specs.Fields.{number_at, with_number}
use Rattle.remote_code.specs.declared.records.Record.{Record}
use Rattle.remote_code.specs.declared.records.Record.TheVariants.{Halt, Announce, Bind, Send, Raw, Take, Trace, Crash, Loop}
use Rattle.remote_code.specs.Records.{record_of, record_bytes, IsInRange}

-- the two bytes of a number give it back
half : (x : ℕ) → x < 2 ^ 16 → number_at 2 0 (with_number 2 0 x (replicate 2 0)) ≡ x
half x fits = omega arith

-- the four bytes of a number give it back
word : (x : ℕ) → x < 2 ^ 32 → number_at 4 0 (with_number 4 0 x (replicate 4 0)) ≡ x
word x fits = omega arith

pub record_of-record_bytes : (r : Record) → IsInRange r → record_of (record_bytes r) ≡ Ok r
record_of-record_bytes Halt fits = refl
record_of-record_bytes (Announce a b c) fits = cc (word a fits.0, word b fits.1, word c fits.2)
record_of-record_bytes (Bind a) fits = cc (word a fits)
record_of-record_bytes (Send n a b c) fits = cc (half n fits.0, word a fits.1, word b fits.2, word c fits.3)
record_of-record_bytes (Raw n c) fits = cc (half n fits.0, word c fits.1)
record_of-record_bytes Take fits = refl
record_of-record_bytes (Trace n a c) fits = cc (half n fits.0, word a fits.1, word c fits.2)
record_of-record_bytes (Crash a) fits = cc (word a fits)
record_of-record_bytes (Loop a b) fits = cc (word a fits.0, word b fits.1)
