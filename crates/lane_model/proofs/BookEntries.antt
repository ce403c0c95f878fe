-- A message more among the bytes of a book.
use Rattle.std.proofs.Common.{◌≡◌, ℕ, suc, ◌≤◌, ◌+◌, ◌-◌, length, List, [], ◌∷◌, ◌++◌, map, take, drop, refl, sym, ap, ◌∙◌, arith}
use Rattle.std.proofs.lemmas.List.{take-append-le, drop-append-le, drop_at, take_all, length-drop, map-append}
use Rattle.std.specs.List.{All}
use Rattle.lane_model.specs.declared.books.Mark.{Mark}
use Rattle.lane_model.specs.Books.{entry_in, IsMarkIn}

part_stays : (bytes more : List ℕ) (start end : ℕ) → start ≤ end → end ≤ length bytes → take (end - start) (drop start (bytes ++ more)) ≡ take (end - start) (drop start bytes)
part_stays bytes more start end up within =
    let inside : end - start ≤ length (drop start bytes) = omega (arith, length-drop start bytes) in
    ap (take (end - start)) (drop-append-le start bytes more (omega arith)) ∙ take-append-le (end - start) (drop start bytes) more inside

entries_stay : (bytes more : List ℕ) (marks : List Mark) → All (IsMarkIn (length bytes)) marks → map (entry_in (bytes ++ more)) marks ≡ map (entry_in bytes) marks
entries_stay bytes more [] in_bytes = refl
entries_stay bytes more (m ∷ ms) in_bytes =
    let mine : IsMarkIn (length bytes) m = in_bytes 0 m (omega arith) in
    let rest : All (IsMarkIn (length bytes)) ms = λ k d below. in_bytes (suc k) d (omega (arith, below)) in
    let here : entry_in (bytes ++ more) m ≡ entry_in bytes m =
    ap (λ message. record { caller = m.caller; message = message }) (part_stays bytes more m.start m.end mine.0 mine.1) in
    ap (λ e. e ∷ map (entry_in (bytes ++ more)) ms) here ∙ ap (λ es. entry_in bytes m ∷ es) (entries_stay bytes more ms rest)

-- the entries of a book with a message more
pub entries_more : (bytes message : List ℕ) (marks : List Mark) (caller start end : ℕ) → All (IsMarkIn (length bytes)) marks → start ≡ length bytes → end ≡ length bytes + length message
    → map (entry_in (bytes ++ message)) (marks ++ record { caller = caller; start = start; end = end } ∷ []) ≡ map (entry_in bytes) marks ++ record { caller = caller; message = message } ∷ []
entries_more bytes message marks caller start end in_bytes starts ends =
    let size : length message ≤ end - start = omega (arith, starts, ends) in
    let part : take (end - start) (drop start (bytes ++ message)) ≡ message = ap (take (end - start)) (drop_at bytes message start (sym starts)) ∙ take_all (end - start) message size in
    map-append (entry_in (bytes ++ message)) marks _
    ∙ ap (λ es. es ++ entry_in (bytes ++ message) (record { caller = caller; start = start; end = end }) ∷ []) (entries_stay bytes message marks in_bytes)
    ∙ ap (λ (m : List ℕ). map (entry_in bytes) marks ++ record { caller = caller; message = m } ∷ []) part
