-- The lengths of an image of a recipe of a script stay below 2^32.
use Rattle.std.proofs.Common.{◌+◌, ◌*◌, ◌<◌, ◌≤◌, ◌^◌, List, [], ◌∷◌, length, arith, lit≤}
use Rattle.std.specs.List.{sum_by}
use Rattle.std.proofs.lemmas.List.Sums.{sum_by-cons}
use Rattle.rp_base.specs.declared.limits.TheConstants.{SCRIPT_LINES_MOST}
use Rattle.script_lang.specs.declared.recipes.RecipeLine.{RecipeLine}
use Rattle.script_lang.specs.declared.recipes.RecipeLine.TheVariants as recipe
use Rattle.script_lang.specs.Runnable.{IsLine, IsRecipe}
use Rattle.image_maker.specs.Segments.{data_len, data_of, segment_count, segments_of}
use Rattle.image_maker.specs.Tables.{entries_of, entry_count, entry_len, table_len}
use Rattle.image_maker.specs.Images.{data_end}

data_most : (line : RecipeLine) → IsLine line → length (data_of line) ≤ 512
data_most (recipe.Load da bytes memory_len) r = r.1
data_most line r = lit≤ tt

segments_most : (line : RecipeLine) → segments_of line ≤ 1
segments_most (recipe.Entry da) = lit≤ tt
segments_most line = lit≤ tt

entries_most : (line : RecipeLine) → entries_of line ≤ 1
entries_most (recipe.Entry da) = lit≤ tt
entries_most line = lit≤ tt

entry_most : (line : RecipeLine) → entry_len line ≤ 56
entry_most (recipe.Entry da) = lit≤ tt
entry_most line = lit≤ tt

-- what each line adds to the lengths
record AreFew (lines : List RecipeLine) : Type 0 where
  count : segment_count lines ≤ length lines
  bytes : data_len lines ≤ 512 * length lines
  entries : entry_count lines ≤ length lines
  table : sum_by entry_len lines ≤ 56 * length lines

few : (lines : List RecipeLine) → IsRecipe lines → AreFew lines
few [] r = record { count = lit≤ tt; bytes = lit≤ tt; entries = lit≤ tt; table = lit≤ tt }
few (line ∷ more) r =
    let later = few more r.1 in
    record {
      count = omega (arith, sum_by-cons segments_of line more, segments_most line, later.count);
      bytes = omega (arith, sum_by-cons (λ line. length (data_of line)) line more, data_most line r.0, later.bytes);
      entries = omega (arith, sum_by-cons entries_of line more, entries_most line, later.entries);
      table = omega (arith, sum_by-cons entry_len line more, entry_most line, later.table);
    }

pub short_image : (lines : List RecipeLine) → IsRecipe lines → length lines ≤ SCRIPT_LINES_MOST → data_end lines + table_len lines + 27 < 2 ^ 32
short_image lines r short = let all = few lines r in omega (arith, all.count, all.bytes, all.entries, all.table, short)
