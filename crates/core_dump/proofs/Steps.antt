-- One program header more.
use Rattle.std.proofs.Common.{◌≡◌, ℕ, ◌+◌, ◌<◌, List, ◌∷◌, ◌++◌, length, drop, get_or, sym, ◌∙◌, ap, add-one, drop-cons, append_assoc}
use Rattle.std.proofs.lemmas.List.Sums.{sum_by-cons}
use Rattle.elf_writer.specs.Headers.{load_header}
use Rattle.elf_writer.specs.Loads.{load_headers}
use Rattle.core_dump.specs.Parts.{MemoryPart, data_len, part_len}
use Rattle.core_dump.specs.Dumps.{loads_from}

first_left : (parts : List MemoryPart) (i : ℕ) (d : MemoryPart) → i < length parts → drop i parts ≡ get_or parts i d ∷ drop (i + 1) parts
first_left parts i d within = rw (add-one, drop-cons parts i d)

pub header_more : (parts : List MemoryPart) (i offset da len : ℕ) (d : MemoryPart) (out written all : List ℕ) → i < length parts → da ≡ (get_or parts i d).da → len ≡ part_len (get_or parts i d)
    → written ≡ out ++ load_header offset da len len → out ++ load_headers (loads_from offset (drop i parts)) ≡ all
    → written ++ load_headers (loads_from (offset + len) (drop (i + 1) parts)) ≡ all
header_more parts i offset da len d out written all within is size e whole =
    let part = get_or parts i d in
    let rest = drop (i + 1) parts in
    let later = load_headers (loads_from (offset + part_len part) rest) in
    ap (λ n. written ++ load_headers (loads_from (offset + n) rest)) size
    ∙ ap (λ xs. xs ++ later) (e ∙ ap (λ at. out ++ load_header offset at len len) is ∙ ap (λ n. out ++ load_header offset part.da n n) size)
    ∙ append_assoc out (load_header offset part.da (part_len part) (part_len part)) later
    ∙ ap (λ left. out ++ load_headers (loads_from offset left)) (sym (first_left parts i d within)) ∙ whole

pub len_more : (parts : List MemoryPart) (i : ℕ) (d : MemoryPart) → i < length parts → data_len (drop i parts) ≡ part_len (get_or parts i d) + data_len (drop (i + 1) parts)
len_more parts i d within = ap data_len (first_left parts i d within) ∙ sum_by-cons part_len (get_or parts i d) (drop (i + 1) parts)
