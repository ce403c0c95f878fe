use Rattle.std.proofs.Common.{◌≡◌, ◌∷◌, ◌++◌, [], subst}
use Rattle.elf_writer.specs.Fields.{word_fields}
use Rattle.image_maker.specs.Images.{section_headers}
use Rattle.image_maker.proofs.Joins.{three_parts}
use Rattle.image_maker.proofs.layout.put_section_headers.Goals as goal

pub returns : goal.returns
unfolding section_headers
returns c =
    three_parts c.args.out.now.items _ _ _ c.put_words.new.out.items c.put_words-2.new.out.items c.put_words-3.new.out.items
    c.in_ok-put_words.ensures c.in_ok-put_words-2.ensures
    (subst (λ names. c.put_words-3.new.out.items ≡ c.put_words-2.new.out.items ++ word_fields (17 ∷ 3 ∷ 0 ∷ 0 ∷ names ∷ 27 ∷ 0 ∷ 0 ∷ 1 ∷ 0 ∷ [])) c.in_ok-names.ensures c.in_ok-put_words-3.ensures)
