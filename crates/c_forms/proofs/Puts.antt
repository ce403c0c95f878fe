-- A list that is written over the front of an array, one after the other.
use Rattle.std.proofs.Common.{◌≡◌, ℕ, ◌+◌, ◌<◌, ◌≤◌, List, [], ◌∷◌, ◌++◌, None, Some, slice_get, map, get_or, length, take, drop, set, sym, ap, ◌∙◌, arith, length-drop, cond}
use Rattle.std.proofs.lemmas.Bool.{le-leb}
use Rattle.std.proofs.lemmas.List.{take-append-drop, take_all, take_more, take_more_set, drop-map, drop-set-lt, drop_more}
use Rattle.memory_pool.proofs.Steps.{drop_get}
use Rattle.c_forms.specs.Arrays.{told_array, told_count, told_status}
use Rattle.c_forms.specs.declared.TheConstants.{DONE, WRONG_LENGTH}

-- so many of a list are written over the front of an array
pub record IsPut {A : Type 0} (told array was : List A) (place : ℕ) : Type 0 where
  pub front : take place array ≡ take place told
  pub back : drop place array ≡ drop place was
  pub among : place ≤ length told
  pub room : place ≤ length was

-- the first of a list, or one that is given
abbrev head_of : {A : Type 0} → A → List A → A
head_of none [] = none
head_of none (x ∷ xs) = x

head_same : {A : Type 0} {x y : A} {xs ys : List A} → x ∷ xs ≡ y ∷ ys → x ≡ y
head_same {x = x} same = ap (head_of x) same

tail_same : {A : Type 0} {x y : A} {xs ys : List A} → x ∷ xs ≡ y ∷ ys → xs ≡ ys
tail_same same = ap (drop 1) same

-- one more of the list
pub put_more : {A : Type 0} (told array was : List A) (place : ℕ) (one : A) (rest : List A) → drop place told ≡ one ∷ rest → length array ≡ length was → place < length was
    → IsPut told array was place → IsPut told (set array place one) was (place + 1)
put_more told array was place one rest left same below put =
    let more : place < length told = omega (arith, length-drop place told, ap length left) in
    let here : place < length array = omega arith in
    let next = drop_more told place one more in
    let given : get_or told place one ≡ one = head_same (sym next ∙ left) in
    let old = drop_more array place one here in
    let was_old = drop_more was place one below in
    record {
      front =
          take_more_set array place one here
          ∙ ap (λ xs. xs ++ one ∷ []) put.front
          ∙ sym (take_more told place one more ∙ ap (λ x. take place told ++ x ∷ []) given);
      back =
          drop-set-lt (place + 1) array place one (omega arith)
          ∙ tail_same (sym old ∙ put.back ∙ was_old);
      among = omega arith;
      room = omega arith;
    }

-- what is left behind one more of the list
pub left_more : {A : Type 0} (told : List A) (place : ℕ) (one : A) (rest : List A) → drop place told ≡ one ∷ rest → drop (place + 1) told ≡ rest
left_more told place one rest left =
    let more : place < length told = omega (arith, length-drop place told, ap length left) in
    tail_same (sym (drop_more told place one more) ∙ left)

whole : {A : Type 0} (told array was : List A) (place : ℕ) → IsPut told array was place → array ≡ take place told ++ drop place was
whole told array was place put =
    sym (take-append-drop place array) ∙ ap (λ xs. xs ++ drop place array) put.front ∙ ap (λ xs. take place told ++ xs) put.back

-- nothing of the list is left
pub put_all : {A : Type 0} (told array was : List A) (place : ℕ) → length told ≤ place → IsPut told array was place → array ≡ told_array None told was
put_all told array was place past put =
    let all : place ≡ length told = omega (arith, put.among) in
    whole told array was place put
    ∙ ap (λ xs. xs ++ drop place was) (take_all place told past ∙ sym (take_all (length was) told (omega (arith, put.room))))
    ∙ ap (λ n. take (length was) told ++ drop n was) all

-- the status where there is room for all
pub status_all : {A : Type 0} (told was : List A) → length told ≤ length was → told_status None told was ≡ DONE
status_all told was room = ap (λ fits. cond fits DONE WRONG_LENGTH) (le-leb (length told) (length was) room)

-- how many are written where nothing is left
pub count_of : {A : Type 0} (told array was : List A) (place : ℕ) → length told ≤ place → IsPut told array was place → told_count None told was ≡ place
count_of told array was place past put = omega (arith, put.among, put.room)

-- nothing is left behind the last of the list
pub past_end : {A : Type 0} (told : List A) (place : ℕ) → drop place told ≡ [] → length told ≤ place
past_end told place left = omega (arith, length-drop place told, ap length left)

-- what is left of a list that is made of another, in front of its item of a number
pub mapped_left : {X A : Type 0} (form : X → A) (xs : List X) (index : ℕ) (one : X) → slice_get xs index ≡ Some one → drop index (map form xs) ≡ form one ∷ map form (drop (index + 1) xs)
mapped_left form xs index one is = drop-map form index xs ∙ ap (map form) (drop_get xs index one is)
