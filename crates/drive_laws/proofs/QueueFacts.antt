-- Calls that are yet to be made, over one step and over many.
use Rattle.std.proofs.Common.{◌≡◌, ℕ, zero, suc, ◌+◌, ◌≤◌, Bool, true, false, cond, List, [], ◌∷◌, ◌++◌, drop, append_assoc, refl, ap, sym, ◌∙◌, arith}
use Rattle.std.proofs.lemmas.List.{append-nil}
use Rattle.lane_model.specs.declared.calls.Wish.{Wish}
use Rattle.lane_model.specs.declared.calls.CallEnd.{CallEnd}
use Rattle.lane_model.specs.declared.calls.CallEnd.TheVariants as ended
use Rattle.core_actors.specs.ActorEnds.{calls_after_end, gives_of, is_tried_again, taken_number}
use Rattle.drive_laws.specs.Queues.{IsQueued, IsServed, Queued, Took}

-- all stay, and new ones stand behind them
pub more_behind : (most : ℕ) (calls new : List Wish) → IsQueued most calls (calls ++ new)
more_behind most calls new = record { sent = 0; few = omega arith; new = new; left = refl }

-- the same where none is new
pub all_stay : (most : ℕ) (calls : List Wish) → IsQueued most calls calls
all_stay most calls = record { sent = 0; few = omega arith; new = []; left = sym (append-nil calls) }

-- the first goes
pub first_goes : (calls new : List Wish) → IsQueued 1 calls (drop 1 calls ++ new)
first_goes calls new = record { sent = 1; few = omega arith; new = new; left = refl }

-- what is left where the first stays or goes
pub first_may_go : (calls new : List Wish) (stays : Bool) → IsQueued 1 calls (cond stays calls (drop 1 calls) ++ new)
first_may_go calls new true = more_behind 1 calls new
first_may_go calls new false = first_goes calls new

-- the calls of the host actor where one has ended, whether it was one of them and whether it is made again
pub host_queue : (calls gives sends : List Wish) (taking again : Bool) → IsQueued 1 calls ((cond taking calls (cond again calls (drop 1 calls)) ++ gives) ++ sends)
host_queue calls gives sends true again =
    let same : (calls ++ gives) ++ sends ≡ calls ++ (gives ++ sends) = append_assoc calls gives sends in
    record { sent = 0; few = omega arith; new = gives ++ sends; left = same }
host_queue calls gives sends false true =
    let same : (calls ++ gives) ++ sends ≡ calls ++ (gives ++ sends) = append_assoc calls gives sends in
    record { sent = 0; few = omega arith; new = gives ++ sends; left = same }
host_queue calls gives sends false false =
    let same : (drop 1 calls ++ gives) ++ sends ≡ drop 1 calls ++ (gives ++ sends) = append_assoc (drop 1 calls) gives sends in
    record { sent = 1; few = omega arith; new = gives ++ sends; left = same }

-- the calls of the worker where one has ended
without_new : (calls : List Wish) (stays : Bool) → IsServed calls (cond stays calls (drop 1 calls))
without_new calls true = Queued (all_stay 1 calls)
without_new calls false = Queued (record { sent = 1; few = omega arith; new = []; left = sym (append-nil (drop 1 calls)) })

pub worker_queue : (end : CallEnd) (calls : List Wish) → IsServed calls (gives_of (taken_number end) ++ calls_after_end end calls)
worker_queue (ended.Took number verdict) calls = Took number refl
worker_queue end calls = without_new calls (is_tried_again end)

-- ---- one step and then others

drop_none : (X : Type 0) (n : ℕ) → let none : List X = [] in drop n none ≡ none
drop_none X zero = refl
drop_none X (suc n) = refl

-- the first of two lists, one behind the other
record DropsBoth {X : Type 0} (n : ℕ) (xs ys : List X) : Type 0 where
  rest : ℕ
  is : drop n (xs ++ ys) ≡ drop n xs ++ drop rest ys

drops_both : {X : Type 0} (n : ℕ) (xs ys : List X) → DropsBoth n xs ys
drops_both zero xs ys = record { rest = 0; is = refl }
drops_both (suc n) [] ys = record { rest = suc n; is = refl }
drops_both (suc n) (x ∷ xs) ys = let both = drops_both n xs ys in record { rest = both.rest; is = both.is }

record DropsTwice {X : Type 0} (n m : ℕ) (xs : List X) : Type 0 where
  all : ℕ
  few : all ≤ n + m
  is : drop m (drop n xs) ≡ drop all xs

drops_twice : {X : Type 0} (n m : ℕ) (xs : List X) → DropsTwice n m xs
drops_twice zero m xs = record { all = m; few = omega arith; is = refl }
drops_twice {X = X} (suc n) m [] = record { all = 0; few = omega arith; is = drop_none X m }
drops_twice (suc n) m (x ∷ xs) = let twice = drops_twice n m xs in record { all = suc twice.all; few = omega (arith, twice.few); is = twice.is }

pub queues_on : (n m : ℕ) (before middle after : List Wish) → IsQueued n before middle → IsQueued m middle after → IsQueued (n + m) before after
queues_on n m before middle after first later =
    let both = drops_both later.sent (drop first.sent before) first.new in
    let twice = drops_twice first.sent later.sent before in
    record {
      sent = twice.all;
      few = omega (arith, twice.few, first.few, later.few);
      new = drop both.rest first.new ++ later.new;
      left = later.left
          ∙ ap (λ calls. drop later.sent calls ++ later.new) first.left
          ∙ ap (λ calls. calls ++ later.new) (both.is ∙ ap (λ calls. calls ++ drop both.rest first.new) twice.is)
          ∙ append_assoc (drop twice.all before) (drop both.rest first.new) later.new;
    }
