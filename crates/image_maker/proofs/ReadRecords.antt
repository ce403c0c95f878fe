-- The record of a line is read from its bytes.
use Rattle.std.proofs.Common.{◌≡◌, ℕ, ◌≤◌, Option, Some, Ok, refl, subst, arith}
use Rattle.std.proofs.lemmas.Option.{same_Some}
use Rattle.rp_base.specs.Fields.{number_at}
use Rattle.remote_code.specs.declared.records.Record.{Record}
use Rattle.remote_code.specs.declared.records.Record.TheVariants as worker
use Rattle.remote_code.specs.Records.{record_of}
use Rattle.script_lang.specs.declared.recipes.RecipeLine.{RecipeLine}
use Rattle.script_lang.specs.declared.recipes.RecipeLine.TheVariants as recipe
use Rattle.script_lang.specs.Runnable.{IsLine}
use Rattle.elf_writer.specs.Fields.{half_field, word_field}
use Rattle.image_maker.specs.Segments.{data_of}
use Rattle.image_maker.specs.ReadBack.{record_of_line}

-- a number from its bytes
half : (x : ℕ) → x ≤ 65535 → number_at 2 0 (half_field x) ≡ x
half x fits = omega arith

word : (x : ℕ) → x ≤ 4294967295 → number_at 4 0 (word_field x) ≡ x
word x fits = omega arith

same : (line : RecipeLine) (first second : Record) → record_of (data_of line) ≡ Ok first → ◌≡◌ {A = Option Record} (Some first) (Some second) → record_of (data_of line) ≡ Ok second
same line first second e f = subst (λ r. record_of (data_of line) ≡ Ok r) (same_Some first second f) e

pub record_read : (line : RecipeLine) (there : Record) → IsLine line → record_of_line line ≡ Some there → record_of (data_of line) ≡ Ok there
record_read recipe.Halt there r e = same recipe.Halt worker.Halt there refl e
record_read (recipe.Announce address flags da) there r e = same (recipe.Announce address flags da) (worker.Announce address flags da) there (cc (word address r.0, word flags r.1, word da r.2)) e
record_read (recipe.Bind address) there r e = same (recipe.Bind address) (worker.Bind address) there (cc (word address r)) e
record_read (recipe.Send source destination da len) there r e =
    same (recipe.Send source destination da len) (worker.Send len source destination da) there (cc (half len r.3, word source r.0, word destination r.1, word da r.2)) e
record_read (recipe.Raw da len) there r e = same (recipe.Raw da len) (worker.Raw len da) there (cc (half len r.1, word da r.0)) e
record_read recipe.Take there r e = same recipe.Take worker.Take there refl e
record_read (recipe.Log to from len) there r e = same (recipe.Log to from len) (worker.Trace len to from) there (cc (half len r.2, word to r.0, word from r.1)) e
record_read (recipe.Crash kind) there r e = same (recipe.Crash kind) (worker.Crash kind) there (cc (word kind r)) e
record_read (recipe.Loop times target) there r e = same (recipe.Loop times target) (worker.Loop times target) there (cc (word times r.0, word target r.1)) e
record_read line there r e = absurd (cc)
