-- A built image is read back as its recipe.
use Rattle.std.proofs.Common.{◌≡◌, ℕ, ◌+◌, ◌<◌, ◌^◌, ◌==◌, ◌&&◌, not, Bool, true, false, cond, List, [], ◌∷◌, ◌++◌, length, find, codes, Option, Some, None, sym, ◌∙◌, ap, subst, arith, refl, lit<, append_assoc, append-nil, length-append}
use Rattle.std.specs.Prelude.{option_map, IsSome, fold}
use Rattle.std.proofs.lemmas.Option.{same_Some}
use Rattle.std.proofs.lemmas.Bool.{ne_eqb}
use Rattle.elf_image.specs.Layout.{elf32}
use Rattle.elf_image.specs.Headers.{file_header as file_header_read}
use Rattle.elf_image.specs.Sections.{names_of, has_name, section_place, section_by, sections_from}
use Rattle.script_lang.specs.declared.recipes.RecipeLine.{RecipeLine}
use Rattle.script_lang.specs.declared.recipes.RecipeLine.TheVariants as recipe
use Rattle.script_lang.specs.Runnable.{IsRecipe}
use Rattle.image_maker.specs.Segments.{segment_count}
use Rattle.image_maker.specs.Tables.{table_len, table_bytes}
use Rattle.image_maker.specs.Images.{entry_after, entry_address, table_after, table_address, segments_part, section_names, section_headers, data_end, image_with, image_of}
use Rattle.image_maker.specs.ReadBack.{table_section, IsLoadable, IsReadBack}
use Rattle.elf_writer.proofs.ReadFields.{skip, header_read}
use Rattle.elf_writer.proofs.ReadLoads.{file_is}
use Rattle.image_maker.proofs.ReadTable.{HasTable, length_table, section_found, sections_pass}
use Rattle.elf_writer.specs.Headers.{file_header}
use Rattle.elf_writer.proofs.ReadImages.{identified, length_header, layout_is, no_sections, plain_pass}
use Rattle.image_maker.proofs.ReadImages.{parts_are, lines_read}

entry_small : (lines : List RecipeLine) (entry : ℕ) → entry < 2 ^ 32 → IsRecipe lines → fold entry_after entry lines < 2 ^ 32
entry_small [] entry small r = small
entry_small (recipe.Entry da ∷ more) entry small r = entry_small more da (omega arith) r.1
entry_small (line ∷ more) entry small r = entry_small more entry small r.1

table_small : (lines : List RecipeLine) (table : Option ℕ) (da : ℕ) → ((at : ℕ) → table ≡ Some at → at < 2 ^ 32) → IsRecipe lines → fold table_after table lines ≡ Some da → da < 2 ^ 32
table_small [] table da small r e = small da e
table_small (recipe.Table at ∷ more) table da small r e = table_small more (Some at) da (λ other f. let same = same_Some at other f in omega arith) r.1 e
table_small (line ∷ more) table da small r e = table_small more table da small r.1 e

-- without a table
plain_read : (lines : List RecipeLine) → IsLoadable lines → length (image_with lines None) < 2 ^ 32 → table_address lines ≡ None → IsReadBack lines (image_with lines None)
unfolding image_with
plain_read lines h short none =
    let entry = entry_address lines in
    let count = segment_count lines in
    let front = file_header 2 entry count 0 0 0 0 in
    let rest = segments_part lines ++ [] in
    let bytes = front ++ rest in
    let same : bytes ≡ front ++ segments_part lines = ap (λ part. front ++ part) (append-nil (segments_part lines)) in
    let header = header_read 2 entry count 0 0 0 0 rest (entry_small lines 0 (lit< tt) h.recipe) (omega (arith, h.few)) (lit< tt) (lit< tt) (lit< tt) (lit< tt) in
    let without = no_sections bytes entry count header in
    let read = lines_read lines entry 0 0 0 0 bytes [] h.recipe h.room (entry_small lines 0 (lit< tt) h.recipe) h.some h.few (lit< tt) refl refl (subst (λ image. length image < 2 ^ 32) (sym same) short) header
    (identified 2 entry count 0 0 0 0 rest) (layout_is 2 entry count 0 0 0 0 rest) (parts_are lines front [] (length_header 2 entry count 0 0 0 0))
    (plain_pass bytes entry count header) in
    subst (IsReadBack lines) same (record {
      good = read.good;
      entry = read.entry_is;
      segments = read.segments_are;
      section =
          ap (λ l. section_by l bytes (codes ".resource_table")) read.layout
          ∙ ap (λ b. cond b (option_map section_place (find (has_name (names_of elf32 (file_header_read elf32 bytes) bytes) (codes ".resource_table")) (sections_from elf32 (file_header_read elf32 bytes) bytes 0))) None) without
          ∙ sym (ap (option_map (table_section lines)) none);
      table = λ some. let never : ◌≡◌ {A = Bool} false true = subst IsSome none some in absurd (cc);
    })

-- with a table
five_parts : (a b c d e : List ℕ) → a ++ (b ++ (c ++ (d ++ e))) ≡ (((a ++ b) ++ c) ++ d) ++ e
five_parts a b c d e = sym (append_assoc (((a ++ b) ++ c)) d e ∙ append_assoc (a ++ b) c (d ++ e) ∙ append_assoc a b (c ++ (d ++ e)))

length_section_headers : (da start len : ℕ) → length (section_headers da start len) ≡ 120
unfolding section_headers
length_section_headers da start len = refl

table_read : (lines : List RecipeLine) (da : ℕ) → IsLoadable lines → length (image_with lines (Some da)) < 2 ^ 32 → table_address lines ≡ Some da → IsReadBack lines (image_with lines (Some da))
unfolding image_with
table_read lines da h short some =
    let entry = entry_address lines in
    let count = segment_count lines in
    let start = data_end lines in
    let len = table_len lines in
    let place = start + len + 27 in
    let front = file_header 2 entry count place 40 3 2 in
    let table = table_bytes lines in
    let headers = section_headers da start len in
    let tail = table ++ (section_names ++ headers) in
    let rest = segments_part lines ++ tail in
    let bytes = front ++ rest in
    let same : bytes ≡ front ++ segments_part lines ++ table ++ section_names ++ headers = five_parts front (segments_part lines) table section_names headers in
    let small : length bytes < 2 ^ 32 = subst (λ image. length image < 2 ^ 32) (sym same) short in
    let parts = parts_are lines front tail (length_header 2 entry count place 40 3 2) in
    let names_len : length section_names ≡ 27 = refl in
    let total : length bytes ≡ place + 120 =
    omega (arith, parts.total, length-append table (section_names ++ headers), length-append section_names headers, length_table lines h.recipe, length_section_headers da start len, names_len) in
    let header = header_read 2 entry count place 40 3 2 rest (entry_small lines 0 (lit< tt) h.recipe) (omega (arith, h.few)) (omega (arith, total, small)) (lit< tt) (lit< tt) (lit< tt) in
    let at_names = skip start len bytes table (section_names ++ headers) parts.behind (length_table lines h.recipe) in
    let has : HasTable bytes place da start len = record {
      headers = skip (start + len) 27 bytes section_names headers at_names refl;
      names = (headers, at_names);
      da_small = table_small lines None da (λ at e. absurd (cc)) h.recipe some;
      end_small = omega (arith, total, small);
      inside = omega (arith, total);
      names_inside = omega (arith, total);
      not_first = omega arith;
    } in
    let placed : (place == 0) ≡ false = ne_eqb place 0 (λ e. absurd (omega arith)) in
    let read = lines_read lines entry place 40 3 2 bytes tail h.recipe h.room (entry_small lines 0 (lit< tt) h.recipe) h.some h.few (lit< tt) (ap (λ b. not b && false) placed) (ap (λ b. not b && false) placed) small header
    (identified 2 entry count place 40 3 2 rest) (layout_is 2 entry count place 40 3 2 rest) parts (sections_pass bytes entry count place da start len header has) in
    subst (IsReadBack lines) same (record {
      good = read.good;
      entry = read.entry_is;
      segments = read.segments_are;
      section = ap (λ l. section_by l bytes (codes ".resource_table")) read.layout ∙ section_found bytes entry count place da start len header has ∙ sym (ap (option_map (table_section lines)) some);
      table = λ there. file_is start len len bytes table (section_names ++ headers) start (sym (length_table lines h.recipe)) refl parts.behind;
    })

by_table : (lines : List RecipeLine) (table : Option ℕ) → IsLoadable lines → length (image_with lines table) < 2 ^ 32 → table_address lines ≡ table → IsReadBack lines (image_with lines table)
by_table lines None h short none = plain_read lines h short none
by_table lines (Some da) h short some = table_read lines da h short some

pub recipe_read : (lines : List RecipeLine) → IsLoadable lines → IsReadBack lines (image_of lines)
unfolding image_of
recipe_read lines h = by_table lines (table_address lines) h h.short refl
