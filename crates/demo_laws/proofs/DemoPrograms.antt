-- The program of a worker of a demo: each record that it runs leaves fewer.
use Rattle.std.proofs.Common.{◌≡◌, ◌<◌, ◌≤◌, ℕ, zero, suc, ◌+◌, ◌-◌, ◌*◌, ◌&&◌, not, nat_lt, Bool, false, cond, List, Result, Ok, Err, refl, sym, ap, subst, ◌∙◌, arith}
use Rattle.std.proofs.lemmas.Bool.{cond_both, ltb-true}
use Rattle.addr_translate.specs.Maps.{Mapping}
use Rattle.rpmsg_header.specs.Headers.{is_whole, source_of}
use Rattle.remote_code.specs.declared.records.Record.{Record}
use Rattle.remote_code.specs.declared.records.Record.TheVariants as kind
use Rattle.remote_code.specs.declared.faults.WorkerFault.{WorkerFault}
use Rattle.remote_code.specs.declared.faults.WorkerFault.TheVariants as fault
use Rattle.remote_core.specs.declared.workers.Work.TheVariants as work
use Rattle.remote_core.specs.Records.{admitted, has_large_operand, names_memory, needs_link, next_record, record_at, tested, with_memory}
use Rattle.remote_core.specs.Workers.{WorkerState, after_take}
use Rattle.remote_core.specs.Works.{after_next, after_work, last_source, memory_after, memory_after_next, work_of, work_of_next}
use Rattle.demo_laws.proofs.DriveBounds.{IsProgram, WorkGoes}

-- the records of a worker that replies with so many bytes
abbrev pub code_at : ℕ → ℕ → Record
code_at reply zero = kind.Bind 1024
code_at reply (suc zero) = kind.Announce 1024 0 512
code_at reply (suc (suc zero)) = kind.Take
code_at reply (suc (suc (suc zero))) = kind.Send reply 1024 last_source 1024
code_at reply (suc (suc (suc (suc zero)))) = kind.Loop 100 2
code_at reply (suc (suc (suc (suc (suc more))))) = kind.Halt

-- a record that is read is this one
abbrev pub IsRead : Record → Result Record WorkerFault → Type 0
IsRead expected (Ok op) = op ≡ expected
IsRead expected (Err why) = Unit {0}

-- the steps of these records and of the calls that they ask for, from a record and a turn of the loop on
abbrev pub loops_left : ℕ → ℕ
loops_left turns = (100 - turns) * 37 + 1

abbrev pub left_at : ℕ → ℕ → ℕ
left_at zero turns = 29 + loops_left turns
left_at (suc zero) turns = 25 + loops_left turns
left_at (suc (suc zero)) turns = loops_left turns
left_at (suc (suc (suc zero))) turns = loops_left turns - 11
left_at (suc (suc (suc (suc zero)))) turns = loops_left turns - 36
left_at (suc (suc (suc (suc (suc more))))) turns = 1

abbrev pub records_left : WorkerState → ℕ
records_left worker = cond worker.is_halted 0 (left_at worker.place worker.turns)

-- a send that no take has allowed yet
abbrev pub credit_at : ℕ → ℕ
credit_at zero = 1
credit_at (suc zero) = 1
credit_at (suc (suc zero)) = 0
credit_at (suc (suc (suc zero))) = 1
credit_at (suc (suc (suc (suc zero)))) = 0
credit_at (suc (suc (suc (suc (suc more))))) = 0

abbrev pub credit_of : WorkerState → ℕ
credit_of worker = credit_at worker.place

-- a worker at one of these records
pub record IsAtRecord (worker : WorkerState) : Type 0 where
  pub entry : worker.entry ≡ 0
  pub place : worker.place ≤ 5
  pub turns : worker.turns < 100

took_same : (message : List ℕ) (worker : WorkerState) → IsAtRecord worker
    → IsAtRecord (after_take message worker) × (records_left (after_take message worker) ≡ records_left worker) × (credit_of (after_take message worker) ≡ credit_of worker)
took_same message worker is =
    cond_both (is_whole message) (record worker { source = source_of message }) worker
    (λ (after : WorkerState). IsAtRecord after × (records_left after ≡ records_left worker) × (credit_of after ≡ credit_of worker))
    (λ _. (record { entry = is.entry; place = is.place; turns = is.turns }, refl, refl)) (λ _. (is, refl, refl))

left_is : (worker : WorkerState) (place : ℕ) → worker.is_halted ≡ false → worker.place ≡ place → records_left worker ≡ left_at place worker.turns
left_is worker place going at = ap (λ (b : Bool). cond b 0 (left_at worker.place worker.turns)) going ∙ ap (λ (p : ℕ). left_at p worker.turns) at

credit_is : (worker : WorkerState) (place : ℕ) → worker.place ≡ place → credit_of worker ≡ credit_at place
credit_is worker place at = ap credit_at at

module _ (memory : List ℕ) (map : Mapping) (reply : ℕ) (stands : (place : ℕ) → place ≤ 5 → IsRead (code_at reply place) (record_at memory map 0 place)) where
  abbrev Goes : WorkerState → Result Record WorkerFault → Type 0
  Goes worker next =
      (memory_after_next memory map next ≡ memory) × WorkGoes IsAtRecord records_left credit_of (work_of_next memory map worker.source next) worker (after_next next worker)

  admits : (is_linked : Bool) (op : Record) → IsRead op (tested (with_memory map) (admitted is_linked op))
  admits is_linked op =
      cond_both (needs_link op && not is_linked) (Err fault.NoLink) (cond (has_large_operand op) (Err fault.BadOperand) (Ok op)) (λ (next : Result Record WorkerFault). IsRead op (tested (with_memory map) next))
      (λ _. tt) (λ _. cond_both (has_large_operand op) (Err fault.BadOperand) (Ok op) (λ (next : Result Record WorkerFault). IsRead op (tested (with_memory map) next)) (λ _. tt)
      (λ _. cond_both (names_memory map op) (Ok op) (Err fault.CodeUnmapped) (IsRead op) (λ _. refl) (λ _. tt)))

  read_on : (is_linked : Bool) (expected : Record) (found : Result Record WorkerFault) → IsRead expected found → IsRead expected (tested (with_memory map) (tested (admitted is_linked) found))
  read_on is_linked expected (Err why) is = tt
  read_on is_linked expected (Ok op) is = subst (λ (e : Record). IsRead e (tested (with_memory map) (admitted is_linked op))) is (admits is_linked op)

  module _ (worker : WorkerState) (is : IsAtRecord worker) (going : worker.is_halted ≡ false) where
    -- the worker at the next record
    next_at : (place : ℕ) → worker.place ≡ place → place ≤ 4 → IsAtRecord (record worker { place = worker.place + 1 })
    next_at place at low = record { entry = is.entry; place = omega (arith, at, low); turns = is.turns }

    plain : (place : ℕ) → worker.place ≡ place → (records_left worker ≡ left_at place worker.turns) × (records_left (record worker { place = worker.place + 1 }) ≡ left_at (place + 1) worker.turns)
        × (credit_of worker ≡ credit_at place) × (credit_of (record worker { place = worker.place + 1 }) ≡ credit_at (place + 1))
    plain place at =
        let after : WorkerState = record worker { place = worker.place + 1 } in
        let next = ap (λ (p : ℕ). p + 1) at in
        (left_is worker place going at, left_is after (place + 1) going next, credit_is worker place at, credit_is after (place + 1) next)

    loop_goes : worker.place ≡ 4
        → let after = cond (nat_lt (worker.turns + 1) 100) (record worker { place = 2; turns = worker.turns + 1 }) (record worker { place = worker.place + 1; turns = 0 }) in
        IsAtRecord after × (records_left after + 1 ≤ records_left worker) × (credit_of after ≤ credit_of worker)
    loop_goes at =
        let before = left_is worker 4 going at in
        let turns = is.turns in
        cond_both (nat_lt (worker.turns + 1) 100) (record worker { place = 2; turns = worker.turns + 1 }) (record worker { place = worker.place + 1; turns = 0 })
        (λ (after : WorkerState). IsAtRecord after × (records_left after + 1 ≤ records_left worker) × (credit_of after ≤ credit_of worker))
        (λ less.
        let below = ltb-true (worker.turns + 1) 100 less in
        let left = left_is (record worker { place = 2; turns = worker.turns + 1 }) 2 going refl in
        (record { entry = is.entry; place = omega arith; turns = below }, omega (arith, before, left, below), omega arith))
        (λ _.
        let left = left_is (record worker { place = worker.place + 1; turns = 0 }) 5 going (ap (λ (p : ℕ). p + 1) at) in
        let credit = credit_is (record worker { place = worker.place + 1; turns = 0 }) 5 (ap (λ (p : ℕ). p + 1) at) in
        (record { entry = is.entry; place = omega (arith, at); turns = omega arith }, omega (arith, before, left, turns), omega (arith, credit)))

    code_goes : (place : ℕ) → worker.place ≡ place → place ≤ 5 → Goes worker (Ok (code_at reply place))
    code_goes zero at low = let e = plain 0 at in (refl, (next_at 0 at (omega arith), tt, refl, omega (arith, e.0, e.1), omega (arith, e.2, e.3)))
    code_goes (suc zero) at low = let e = plain 1 at in (refl, (next_at 1 at (omega arith), tt, refl, omega (arith, e.0, e.1), omega (arith, e.2, e.3)))
    code_goes (suc (suc zero)) at low = let e = plain 2 at in let turns = is.turns in (refl, (next_at 2 at (omega arith), tt, refl, omega (arith, e.0, e.1, turns), omega (arith, e.2, e.3)))
    code_goes (suc (suc (suc zero))) at low = let e = plain 3 at in let turns = is.turns in (refl, (next_at 3 at (omega arith), tt, refl, omega (arith, e.0, e.1, turns), omega (arith, e.2, e.3)))
    code_goes (suc (suc (suc (suc zero)))) at low = (refl, loop_goes at)
    code_goes (suc (suc (suc (suc (suc zero))))) at low =
        let before = left_is worker 5 going at in (refl, (record { entry = is.entry; place = is.place; turns = is.turns }, omega (arith, before), omega arith))
    code_goes (suc (suc (suc (suc (suc (suc more)))))) at low = absurd (omega (arith, low))

    next_goes : (next : Result Record WorkerFault) → IsRead (code_at reply worker.place) next → Goes worker next
    next_goes (Err why) read = (refl, tt)
    next_goes (Ok op) read = subst (λ (o : Record). Goes worker (Ok o)) (sym read) (code_goes worker.place refl is.place)

    some_left : (place : ℕ) → worker.place ≡ place → place ≤ 5 → 1 ≤ records_left worker
    some_left zero at low = let e = left_is worker 0 going at in omega (arith, e)
    some_left (suc zero) at low = let e = left_is worker 1 going at in omega (arith, e)
    some_left (suc (suc zero)) at low = let e = left_is worker 2 going at in omega (arith, e)
    some_left (suc (suc (suc zero))) at low = let e = left_is worker 3 going at in let turns = is.turns in omega (arith, e, turns)
    some_left (suc (suc (suc (suc zero)))) at low = let e = left_is worker 4 going at in let turns = is.turns in omega (arith, e, turns)
    some_left (suc (suc (suc (suc (suc zero))))) at low = let e = left_is worker 5 going at in omega (arith, e)
    some_left (suc (suc (suc (suc (suc (suc more)))))) at low = absurd (omega (arith, low))

    record_goes : (is_linked : Bool) → Goes worker (next_record memory map is_linked worker)
    record_goes is_linked =
        next_goes (next_record memory map is_linked worker)
        (subst (λ (entry : ℕ). IsRead (code_at reply worker.place) (tested (with_memory map) (tested (admitted is_linked) (record_at memory map entry worker.place)))) (sym is.entry)
        (read_on is_linked (code_at reply worker.place) (record_at memory map 0 worker.place) (stands worker.place is.place)))

    halting : (is_linked : Bool)
        → (memory_after memory map is_linked worker ≡ memory) × WorkGoes IsAtRecord records_left credit_of (work_of memory map is_linked worker) worker (after_work memory map is_linked worker)
    halting is_linked =
        let next = next_record memory map is_linked worker in
        let goes = record_goes is_linked in (
          ap (λ (b : Bool). cond b memory (memory_after_next memory map next)) going ∙ goes.0,
          subst (λ (b : Bool). WorkGoes IsAtRecord records_left credit_of (cond b work.Halted (work_of_next memory map worker.source next)) worker (cond b worker (after_next next worker))) (sym going) goes.1,
        )

  -- such a memory has a program
  pub demo_program : IsProgram IsAtRecord records_left credit_of memory map
  demo_program = record {
    took = took_same;
    runs = λ is_linked worker is going. let goes = halting worker is going is_linked in (some_left worker is going worker.place refl is.place, goes.0, goes.1);
  }
