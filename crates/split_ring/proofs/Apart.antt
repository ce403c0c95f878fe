-- Words that stand apart, appended.
use Rattle.std.proofs.Common.{◌≡◌, ◌≤◌, ◌-◌, length, length-append, append-nil, ℕ, ◌+◌, ◌*◌, suc, zero, List, [], ◌∷◌, ◌++◌, map, replicate, refl, sym, ap, ◌∙◌, arith, append_assoc}
use Rattle.std.specs.List.{range_with_len}
use Rattle.ring_core.specs.Rings.{entry_of, opened_returns, return_count}
use Rattle.lane_model.specs.declared.calls.LinkConfig.{LinkConfig}
use Rattle.ring_core.specs.declared.states.RingSizes.{RingSizes}
use Rattle.ring_core.specs.RingLinks.{opened_ring_link}
use Rattle.link_words.specs.declared.codes.DeskTables.{DeskTables}
use Rattle.link_words.specs.declared.rule.LinkSizes.{LinkSizes}
use Rattle.link_words.specs.declared.rule.Slot.{Slot}
use Rattle.link_words.specs.declared.rule.Slot.TheVariants.{Buffer}
use Rattle.link_words.specs.Fresh.{sizes_for}
use Rattle.link_words.specs.Layouts.{words_apart, layout}
use Rattle.link_words.specs.Words.{entry_word, words_in, words_of}
use Rattle.split_ring.specs.Openings.{first_words, opened_entries, opened_words, IsOpenable}

pub apart_append : (xs ys : List ℕ) → words_apart 0 (xs ++ ys) ≡ words_apart 0 xs ++ words_apart 0 ys
apart_append [] ys = refl
apart_append (x ∷ xs) ys = ap (λ (l : List ℕ). x ∷ 0 ∷ 0 ∷ 0 ∷ 0 ∷ 0 ∷ 0 ∷ 0 ∷ l) (apart_append xs ys)

counting : (a n : ℕ) → range_with_len a (suc n) ≡ range_with_len a n ++ (a + n) ∷ []
counting a zero = let same : a ≡ a + 0 = omega arith in ap (λ (k : ℕ). k ∷ []) same
counting a (suc n) = ap (λ (l : List ℕ). a ∷ l) (counting (a + 1) n ∙ (let same : a + 1 + n ≡ a + suc n = omega arith in ap (λ (k : ℕ). range_with_len (a + 1) n ++ k ∷ []) same))

repeating : (n x : ℕ) → replicate (suc n) x ≡ replicate n x ++ x ∷ []
repeating zero x = refl
repeating (suc n) x = ap (λ (l : List ℕ). x ∷ l) (repeating n x)

-- one entry more
pub numbers_more : (old : List ℕ) (a n : ℕ) → (old ++ words_apart 0 (range_with_len a n)) ++ (a + n) ∷ 0 ∷ 0 ∷ 0 ∷ 0 ∷ 0 ∷ 0 ∷ 0 ∷ [] ≡ old ++ words_apart 0 (range_with_len a (n + 1))
numbers_more old a n = append_assoc old (words_apart 0 (range_with_len a n)) ((a + n) ∷ 0 ∷ 0 ∷ 0 ∷ 0 ∷ 0 ∷ 0 ∷ 0 ∷ []) ∙ ap (λ (l : List ℕ). old ++ l) (sym (apart_append (range_with_len a n) ((a + n) ∷ []))
    ∙ ap (words_apart 0) (sym (counting a n) ∙ (let same : suc n ≡ n + 1 = omega arith in ap (range_with_len a) same)))

pub blanks_more : (old : List ℕ) (n : ℕ) → (old ++ words_apart 0 (replicate n 0)) ++ 0 ∷ 0 ∷ 0 ∷ 0 ∷ 0 ∷ 0 ∷ 0 ∷ 0 ∷ [] ≡ old ++ words_apart 0 (replicate (n + 1) 0)
blanks_more old n = append_assoc old (words_apart 0 (replicate n 0)) (0 ∷ 0 ∷ 0 ∷ 0 ∷ 0 ∷ 0 ∷ 0 ∷ 0 ∷ []) ∙ ap (λ (l : List ℕ). old ++ l) (sym (apart_append (replicate n 0) (0 ∷ []))
    ∙ ap (words_apart 0) (sym (repeating n 0) ∙ (let same : suc n ≡ n + 1 = omega arith in ap (λ (k : ℕ). replicate k 0) same)))

-- the words of entries that name no buffer, and of those that name one each
pub blank_words : (n : ℕ) → map entry_word (replicate n (entry_of 0)) ≡ replicate n 0
blank_words zero = refl
blank_words (suc n) = ap (λ (l : List ℕ). 0 ∷ l) (blank_words n)

pub number_words : (xs : List ℕ) → map entry_word (map entry_of xs) ≡ xs
number_words [] = refl
number_words (x ∷ xs) = (let same : x + 0 * 4294967296 ≡ x = omega arith in ap (λ (k : ℕ). k ∷ map entry_word (map entry_of xs)) same) ∙ ap (λ (l : List ℕ). x ∷ l) (number_words xs)

pub map_append : {A B : Type 0} (f : A → B) (xs ys : List A) → map f (xs ++ ys) ≡ map f xs ++ map f ys
map_append f [] ys = refl
map_append {B = B} f (x ∷ xs) ys = ap (λ (l : List B). f x ∷ l) (map_append f xs ys)

pub three_apart : (old a b d : List ℕ) → ((old ++ words_apart 0 a) ++ words_apart 0 b) ++ words_apart 0 d ≡ old ++ words_apart 0 (a ++ (b ++ d))
three_apart old a b d =
    append_assoc (old ++ words_apart 0 a) (words_apart 0 b) (words_apart 0 d) ∙ (append_assoc old (words_apart 0 a) (words_apart 0 b ++ words_apart 0 d)
    ∙ ap (λ (l : List ℕ). old ++ l) (ap (λ (l : List ℕ). words_apart 0 a ++ l) (sym (apart_append b d)) ∙ sym (apart_append a (b ++ d))))

pub words_whole : (z : LinkSizes) (a b : List ℕ) → (layout (first_words z) ++ words_apart 0 a) ++ words_apart 0 b ≡ layout (first_words z ++ (a ++ b))
words_whole z a b = append_assoc (layout (first_words z)) (words_apart 0 a) (words_apart 0 b) ∙ ap (λ (l : List ℕ). layout (first_words z) ++ l) (sym (apart_append a b))

pub buffers_are : (n : ℕ) → map Buffer (replicate n []) ≡ replicate n (Buffer [])
buffers_are zero = refl
buffers_are (suc n) = ap (λ (l : List Slot). Buffer [] ∷ l) (buffers_are n)

-- how many words there are
apart_length : (xs : List ℕ) → length (words_apart 0 xs) ≡ 8 * length xs
apart_length [] = refl
apart_length (x ∷ xs) = let rest = apart_length xs in omega arith

pub entries_length : (s : RingSizes) → s.capacity ≤ s.entries → length (opened_entries s) ≡ s.entries + s.entries
entries_length s low =
    length-append (replicate s.entries 0) (range_with_len s.own (s.capacity - s.own) ++ replicate (s.entries - (s.capacity - s.own)) 0)
    ∙ ((λ i. length-replicate s.entries 0 i + length-append (range_with_len s.own (s.capacity - s.own)) (replicate (s.entries - (s.capacity - s.own)) 0) i)
    ∙ ((λ i. s.entries + (length-range s.own (s.capacity - s.own) i + length-replicate (s.entries - (s.capacity - s.own)) 0 i)) ∙ omega arith))
  where
    length-range : (a n : ℕ) → length (range_with_len a n) ≡ n
    length-range a zero = refl
    length-range a (suc n) = ap suc (length-range (a + 1) n)

    length-replicate : (n x : ℕ) → length (replicate n x) ≡ n
    length-replicate zero x = refl
    length-replicate (suc n) x = ap suc (length-replicate n x)

pub words_many : (z : LinkSizes) → IsOpenable z → words_in z ≤ length (layout (opened_words z))
words_many z opens =
    let whole = ap (λ (l : List ℕ). length l) (words_whole z (opened_entries z.to_host) (opened_entries z.to_remote)) in
    let outer = length-append (layout (first_words z) ++ words_apart 0 (opened_entries z.to_host)) (words_apart 0 (opened_entries z.to_remote)) in
    let inner = length-append (layout (first_words z)) (words_apart 0 (opened_entries z.to_host)) in
    let host = apart_length (opened_entries z.to_host) in let remote = apart_length (opened_entries z.to_remote) in
    let hosts = entries_length z.to_host opens.to_host.1 in let remotes = entries_length z.to_remote opens.to_remote.1 in
    let first : length (layout (first_words z)) ≡ 160 = refl in omega (arith, whole, outer, inner, host, remote, hosts, remotes, first)

-- the entries of a new lane of the ring form
pub lane_entries : (s : RingSizes) (more : List ℕ) → map entry_word (replicate s.entries (entry_of 0)) ++ (map entry_word (opened_returns s) ++ more) ≡ opened_entries s ++ more
lane_entries s more =
    let count = s.capacity - s.own in
    let returns = map_append entry_word (map entry_of (range_with_len s.own count)) (replicate (s.entries - count) (entry_of 0)) ∙ (λ i. number_words (range_with_len s.own count) i ++ blank_words (s.entries - count) i) in
    (λ i. blank_words s.entries i ++ (returns i ++ more)) ∙ sym (append_assoc (replicate s.entries 0) (range_with_len s.own count ++ replicate (s.entries - count) 0) more)

-- the words of a new link of the ring form
pub opened_is : {D : Type 0} (config : LinkConfig) (desks : DeskTables) (host remote : D) → words_of 0 [] (opened_ring_link config host remote) ≡ opened_words (sizes_for config desks)
opened_is config desks host remote =
    let z = sizes_for config desks in
    let first : return_count z.to_host 0 ≡ z.to_host.capacity - z.to_host.own = omega arith in
    let last : return_count z.to_remote 0 ≡ z.to_remote.capacity - z.to_remote.own = omega arith in
    let rest = lane_entries z.to_host (map entry_word (replicate z.to_remote.entries (entry_of 0)) ++ (map entry_word (opened_returns z.to_remote) ++ []))
    ∙ ap (λ (l : List ℕ). opened_entries z.to_host ++ l) (lane_entries z.to_remote [] ∙ append-nil (opened_entries z.to_remote)) in
    λ i. 0 ∷ (config.first * 2 + 1) ∷ 0 ∷ 0 ∷ 0 ∷ 0 ∷ 0 ∷ first i ∷ 0 ∷ last i ∷ rest i
