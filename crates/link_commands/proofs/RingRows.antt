-- Bytes of a ring, row by row.
use Rattle.std.proofs.Common.{◌≡◌, ℕ, suc, ◌+◌, ◌-◌, ◌*◌, ◌<◌, min, List, [], ◌++◌, length, take, drop, refl, sym, ap, ◌∙◌, append_assoc, arith}
use Rattle.std.proofs.lemmas.List.{drop-drop, length-drop, take_min}
use Rattle.journal.specs.declared.events.Event.{Event}
use Rattle.journal.specs.Lines.{transcript}
use Rattle.link_commands.proofs.Transcripts.{transcript-append}
use Rattle.link_commands.specs.RingDumps.{dump_rows, row_events}

-- no row
pub rows_none : (name : List ℕ) (offset : ℕ) (bytes : List ℕ) → dump_rows 0 name offset bytes ≡ []
unfolding dump_rows
rows_none name offset bytes = refl

-- a row and more
rows_one : (more : ℕ) (name : List ℕ) (offset : ℕ) (bytes : List ℕ) → dump_rows (suc more) name offset bytes ≡ row_events name offset (take 16 bytes) ++ dump_rows more name (offset + 16) (drop 16 bytes)
unfolding dump_rows
rows_one more name offset bytes = refl

-- the bytes of a row, as code cuts them out
pub row_bytes : (bytes : List ℕ) (first past : ℕ) → past ≡ min (length bytes) (first + 16) → take (past - first) (drop first bytes) ≡ take 16 (drop first bytes)
row_bytes bytes first past is =
    let left = length-drop first bytes in
    let same : past - first ≡ min 16 (length (drop first bytes)) = omega (arith, is, left) in
    ap (λ n. take n (drop first bytes)) same ∙ take_min 16 (drop first bytes)

-- a row that is told, and those behind it
pub row_told : (count row : ℕ) (name : List ℕ) (bytes part lines kept : List ℕ) → row < count → part ≡ take 16 (drop (16 * row) bytes)
    → kept ≡ lines ++ transcript (row_events name (16 * row) part)
    → kept ++ transcript (dump_rows (count - (row + 1)) name (16 * (row + 1)) (drop (16 * (row + 1)) bytes))
    ≡ lines ++ transcript (dump_rows (count - row) name (16 * row) (drop (16 * row) bytes))
row_told count row name bytes part lines kept more is told =
    let rest = count - (row + 1) in
    let first = 16 * row in
    let one : suc rest ≡ count - row = omega (arith, more) in
    let next : first + 16 ≡ 16 * (row + 1) = omega arith in
    let behind : drop 16 (drop first bytes) ≡ drop (16 * (row + 1)) bytes = drop-drop 16 first bytes ∙ ap (λ n. drop n bytes) next in
    let events : List Event = row_events name first (take 16 (drop first bytes)) in
    let later : List Event = dump_rows rest name (16 * (row + 1)) (drop (16 * (row + 1)) bytes) in
    let split : events ++ later ≡ dump_rows (count - row) name first (drop first bytes) =
    ap (λ n. events ++ dump_rows rest name n (drop (16 * (row + 1)) bytes)) (sym next)
    ∙ ap (λ (b : List ℕ). events ++ dump_rows rest name (first + 16) b) (sym behind)
    ∙ sym (rows_one rest name first (drop first bytes))
    ∙ ap (λ n. dump_rows n name first (drop first bytes)) one in
    ap (λ (front : List ℕ). front ++ transcript later) (told ∙ ap (λ (p : List ℕ). lines ++ transcript (row_events name first p)) is)
    ∙ append_assoc lines (transcript events) (transcript later)
    ∙ ap (λ (text : List ℕ). lines ++ text) (sym (transcript-append events later) ∙ ap transcript split)
