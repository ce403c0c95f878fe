-- Buffers that are numbered in order.
use Rattle.std.proofs.Common.{◌≡◌, ℕ, ◌+◌, [], ◌∷◌, ◌++◌, length, arith}
use Rattle.std.proofs.lemmas.List.FromFn.{length-map-range_with_len, map-range_with_len_more}
use Rattle.buffer_pool.specs.Pools.{empty_buffer, buffers_from}

-- there are as many as were asked for
pub length_numbered : (n : ℕ) → length (buffers_from 0 n) ≡ n
length_numbered n = length-map-range_with_len empty_buffer 0 n

-- one more has the next number
pub one_more : (n : ℕ) → buffers_from 0 (n + 1) ≡ buffers_from 0 n ++ empty_buffer n ∷ []
one_more n = map-range_with_len_more empty_buffer 0 n n (omega arith)

pub ruleset numbered = (length_numbered, one_more)
