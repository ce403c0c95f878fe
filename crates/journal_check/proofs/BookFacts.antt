-- The records of names, and one line more.
use Rattle.std.proofs.Common.{◌≡◌, ℕ, zero, suc, ◌-◌, eqb, Bool, true, false, cond, ◌&&◌, ◌||◌, List, [], ◌∷◌, length, Option, Some, None, refl, sym, ap, ◌∙◌, subst, arith, bytes_eq}
use Rattle.std.specs.Prelude.{find, nat_le, is_some, IfSome, IfOk, Result, Ok, Err}
use Rattle.std.specs.List.{list_any, list_all, cons_option, range_with_len}
use Rattle.std.specs.Map.{lookup}
use Rattle.std.proofs.lemmas.Bool.{false≢true, ne_eqb}
use Rattle.std.proofs.lemmas.Slice.Eq.{bytes_eq-Decides}
use Rattle.rp_base.specs.Texts.{padded_name, text_before_zero}
use Rattle.rp_base.proofs.Zeros.{text_before_zero-append, text_before_zero-is_clear, text_before_zero-clear}
use Rattle.word_kinds.specs.Spellings.{is_name, is_name_byte, is_letter, is_digit}
use Rattle.journal.specs.declared.events.Event.{Event}
use Rattle.journal.specs.declared.events.Event.TheVariants as event
use Rattle.journal.specs.Reading.{IsWritten}
use Rattle.journal_check.specs.declared.books.Book.{Book}
use Rattle.journal_check.specs.declared.marks.Mark.{Mark}
use Rattle.journal_check.specs.declared.readings.Reading.{Reading}
use Rattle.journal_check.specs.declared.readings.Reading.TheVariants as reading
use Rattle.journal_check.specs.declared.records.Record.{Record}
use Rattle.journal_check.specs.Marks.{about, mark_in, mark_of, past_of}
use Rattle.journal_check.specs.Rules.{least_rule, breaks_by}
use Rattle.journal_check.specs.Readings.{IsReading}
use Rattle.journal_check.specs.Tables.{IsBook, AreRecords, IsRecord, IsRecordOf, Judges, is_same_name, least_of}

read_back : (text : List ℕ) → text_before_zero text ≡ text → text_before_zero (padded_name text) ≡ text
read_back text is = text_before_zero-append text (32 - length text) (subst (λ t. list_any (λ byte. eqb byte 0) t ≡ false) is (text_before_zero-is_clear text))

-- names without a zero are one where their fields agree
pub same_name : (a b : List ℕ) → text_before_zero a ≡ a → text_before_zero b ≡ b → is_same_name a b ≡ true → a ≡ b
same_name a b a_is b_is same = sym (read_back a a_is) ∙ ap text_before_zero ((bytes_eq-Decides (padded_name a) (padded_name b)).0 same) ∙ read_back b b_is

same_text : (a b : List ℕ) → a ≡ b → bytes_eq a b ≡ true
same_text a b is = (bytes_eq-Decides a b).1 is

-- so are those that agree as texts
pub name_test : (a b : List ℕ) → text_before_zero a ≡ a → text_before_zero b ≡ b → (test : Bool) → is_same_name a b ≡ test → bytes_eq a b ≡ test
name_test a b a_is b_is true is = same_text a b (same_name a b a_is b_is is)
name_test a b a_is b_is false is = not_same (bytes_eq a b) refl
  where
    not_same : (test : Bool) → bytes_eq a b ≡ test → bytes_eq a b ≡ false
    not_same true same = absurd (false≢true (sym is ∙ same_text (padded_name a) (padded_name b) (ap padded_name ((bytes_eq-Decides a b).0 same))))
    not_same false same = same

-- a record that is made
no_past : (before : List Reading) (q : List ℕ) (found : Option Record) → IsRecordOf (past_of q before) found → is_some found ≡ false → past_of q before ≡ []
no_past before q None kept none = kept
no_past before q (Some record_of) kept none = absurd (cc)

pub made : (before : List Reading) (old new : List (List ℕ × Record)) (name : List ℕ) (fresh : Record) → AreRecords before old → text_before_zero name ≡ name → is_some (lookup (is_same_name name) old) ≡ false → IsRecord [] fresh
    → ((q : List ℕ) → lookup (is_same_name q) new ≡ cond (is_same_name name q) (Some fresh) (lookup (is_same_name q) old)) → AreRecords before new
made before old new name fresh kept name_is none empty updates = λ q q_is. at q q_is (is_same_name name q) refl
  where
    at : (q : List ℕ) → text_before_zero q ≡ q → (test : Bool) → is_same_name name q ≡ test → IsRecordOf (past_of q before) (lookup (is_same_name q) new)
    at q q_is true same =
        let is = same_name name q name_is q_is same in
        let nothing = no_past before q _ (kept q q_is) (subst (λ n. is_some (lookup (is_same_name n) old) ≡ false) is none) in
        subst (IsRecordOf (past_of q before)) (sym (updates q ∙ ap (λ b. cond b (Some fresh) (lookup (is_same_name q) old)) same)) (subst (λ past. IsRecord past fresh) (sym nothing) empty)
    at q q_is false same =
        subst (IsRecordOf (past_of q before)) (sym (updates q ∙ ap (λ b. cond b (Some fresh) (lookup (is_same_name q) old)) same)) (kept q q_is)

-- a mark that is taken
pub taken : (before : List Reading) (now : Reading) (mark : Mark) (old new : List (List ℕ × Record)) (after : Record) → AreRecords before old → text_before_zero mark.name ≡ mark.name → mark_in now ≡ Some mark
    → IsRecord (mark.what ∷ past_of mark.name before) after
    → ((q : List ℕ) → lookup (is_same_name q) new ≡ cond (is_same_name mark.name q) (Some after) (lookup (is_same_name q) old)) → AreRecords (now ∷ before) new
taken before now mark old new after kept name_is says more updates = λ q q_is. at q q_is (is_same_name mark.name q) refl
  where
    at : (q : List ℕ) → text_before_zero q ≡ q → (test : Bool) → is_same_name mark.name q ≡ test → IsRecordOf (past_of q (now ∷ before)) (lookup (is_same_name q) new)
    at q q_is true same =
        let is = same_name mark.name q name_is q_is same in
        let past : past_of q (now ∷ before) ≡ mark.what ∷ past_of q before =
        ap (λ m. cons_option (about q m) (past_of q before)) says ∙ ap (λ b. cons_option (cond b (Some mark.what) None) (past_of q before)) (same_text mark.name q is) in
        subst (IsRecordOf (past_of q (now ∷ before))) (sym (updates q ∙ ap (λ b. cond b (Some after) (lookup (is_same_name q) old)) same))
        (subst (λ l. IsRecord l after) (sym past) (subst (λ n. IsRecord (mark.what ∷ past_of n before) after) is more))
    at q q_is false same =
        let past : past_of q (now ∷ before) ≡ past_of q before =
        ap (λ m. cons_option (about q m) (past_of q before)) says ∙ ap (λ b. cons_option (cond b (Some mark.what) None) (past_of q before)) (name_test mark.name q name_is q_is false same) in
        subst (IsRecordOf (past_of q (now ∷ before))) (sym (updates q ∙ ap (λ b. cond b (Some after) (lookup (is_same_name q) old)) same))
        (subst (λ l. IsRecordOf l (lookup (is_same_name q) old)) (sym past) (kept q q_is))

-- the record that is found
pub found_is : (before : List Reading) (book : Book) (name : List ℕ) (found : Record) → IsBook before book → text_before_zero name ≡ name → lookup (is_same_name name) book.records.entries ≡ Some found
    → IsRecord (past_of name before) found
found_is before book name found kept name_is is = subst (IsRecordOf (past_of name before)) is (kept name name_is)

-- a line without a mark leaves the book
pub unmarked : (before : List Reading) (now : Reading) (book : Book) → IsBook before book → mark_in now ≡ None → IsBook (now ∷ before) book
unmarked before now book kept none = λ q q_is.
    subst (λ past. IsRecordOf past (lookup (is_same_name q) book.records.entries)) (sym (ap (λ m. cons_option (about q m) (past_of q before)) none)) (kept q q_is)

-- the rule that an event breaks
pub event_rule : (is_last : Bool) (e : Event) (said : Option Mark) (before : List Reading) → mark_of e ≡ said → least_rule is_last (reading.Event e) before ≡ find (λ rule. breaks_by rule said before) (range_with_len 2 9)
event_rule is_last e said before is = ap (λ m. find (λ rule. breaks_by rule m before) (range_with_len 2 9)) is

-- what became of the line of an event
pub judged : {E : Type 0} (is_last : Bool) (bytes : List ℕ) (e : Event) (mark : Mark) (before : List Reading) (book : Book) (result : Result (Option ℕ) E) → IsReading bytes (reading.Event e) → mark_of e ≡ Some mark
    → IfOk result (λ rule. rule ≡ least_of mark.what (past_of mark.name before)) → IfOk result (λ rule. rule ≡ None → IsBook (reading.Event e ∷ before) book)
    → IfOk result (λ rule. Judges is_last bytes before rule book)
judged is_last bytes e mark before book (Ok rule) read says is kept = record { now = reading.Event e; read = read; rule = is ∙ sym (event_rule is_last e (Some mark) before says); kept = kept }
judged is_last bytes e mark before book (Err error) read says is kept = tt

-- the name of a mark has no zero
name_byte : (byte : ℕ) → is_name_byte byte ≡ true → eqb byte 0 ≡ false
name_byte zero is = absurd (cc)
name_byte (suc n) is = ne_eqb (suc n) 0 (λ e. absurd (omega (arith, e)))

first_byte : (byte : ℕ) → (is_letter byte || is_digit byte) ≡ true → eqb byte 0 ≡ false
first_byte zero is = absurd (cc)
first_byte (suc n) is = ne_eqb (suc n) 0 (λ e. absurd (omega (arith, e)))

both : (a b : Bool) → (a && b) ≡ true → (a ≡ true) × (b ≡ true)
both true b h = (refl, h)
both false b h = absurd (false≢true h)

no_zero : (text : List ℕ) → list_all is_name_byte text ≡ true → list_any (λ byte. eqb byte 0) text ≡ false
no_zero [] is = refl
no_zero (byte ∷ text) is =
    let parts = both (is_name_byte byte) (list_all is_name_byte text) is in
    ap (λ b. b || list_any (λ byte. eqb byte 0) text) (name_byte byte parts.0) ∙ no_zero text parts.1

name_clear : (name : List ℕ) → is_name name ≡ true → list_any (λ byte. eqb byte 0) name ≡ false
name_clear [] is = absurd (cc)
name_clear (byte ∷ text) is =
    let parts = both ((is_letter byte || is_digit byte) && list_all is_name_byte text) (nat_le (length text) 30) is in
    let front = both (is_letter byte || is_digit byte) (list_all is_name_byte text) parts.0 in
    ap (λ b. b || list_any (λ byte. eqb byte 0) text) (first_byte byte front.0) ∙ no_zero text front.1

named : (e : Event) → IsWritten e → IfSome (mark_of e) (λ mark. is_name mark.name ≡ true)
named (event.Offline x) good = good.0.0
named (event.Open x inc) good = good.0.0
named (event.Running x inc) good = good.0.0
named (event.Attached x inc) good = good.0.0
named (event.Closed x inc) good = good.0.0
named (event.Caller x c end) good = good.0.0
named (event.Sent x c k) good = good.0.0
named (event.TookFromTo x c k source endpoint payload) good = good.0.0
named (event.TookFromDropped x c k source destination payload) good = good.0.0
named (event.TookMalformed x c k) good = good.0.0
named (event.TookNs x c k kind channel address) good = good.0.0
named (event.TookNsMalformed x c k) good = good.0.0
named (event.Bound x c endpoint) good = good.0.0
named (event.Unbound x c endpoint) good = good.0.0
named other good = tt

pub mark_named : (e : Event) (mark : Mark) → IsWritten e → mark_of e ≡ Some mark → text_before_zero mark.name ≡ mark.name
mark_named e mark good is = text_before_zero-clear mark.name (name_clear mark.name (subst (λ o. IfSome o (λ m. is_name m.name ≡ true)) is (named e good)))
