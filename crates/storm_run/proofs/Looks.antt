-- What the own list of a caller says that has done its work.
use Rattle.std.proofs.Common.{◌≡◌, ◌≤◌, ◌++◌, ◌&&◌, ℕ, List, [], ◌∷◌, Bool, true, false, cond, eqb, eq-eqb, max, refl, sym, subst, arith}
use Rattle.rp_base.specs.declared.kinds.End.{End}
use Rattle.rp_base.specs.declared.kinds.End.TheVariants as side
use Rattle.link_words.specs.declared.rule.Counted.TheVariants.{Waiting}
use Rattle.link_words.specs.declared.rule.Event.{Event}
use Rattle.link_words.specs.declared.rule.Event.TheVariants.{Count, Publish, Step, Take}
use Rattle.link_words.specs.Histories.{LaneCounts, counts_published, counts_taken, counts_told, greatest, same_end, seen}

more_either : (b : Bool) (n : ℕ) (here was : LaneCounts) → n ≤ was.handed → n ≤ (cond b (greatest here was) was).handed
more_either true n here was least = omega (arith, least)
more_either false n here was least = least

-- what was seen is seen still
pub seen_more : (e : End) (inc n : ℕ) (xs ys : List Event) → n ≤ (seen e inc ys).handed → n ≤ (seen e inc (xs ++ ys)).handed
seen_more e inc n [] ys least = least
seen_more e inc n (Step made ∷ xs) ys least = seen_more e inc n xs ys least
seen_more e inc n (Count lane i counts ∷ xs) ys least = more_either (same_end lane e && eqb i inc) n (counts_told counts) (seen e inc (xs ++ ys)) (seen_more e inc n xs ys least)
seen_more e inc n (Publish lane i number message ∷ xs) ys least = more_either (same_end lane e && eqb i inc) n (counts_published number) (seen e inc (xs ++ ys)) (seen_more e inc n xs ys least)
seen_more e inc n (Take lane i number message ∷ xs) ys least = more_either (same_end lane e && eqb i inc) n (counts_taken number) (seen e inc (xs ++ ys)) (seen_more e inc n xs ys least)

here : (e : End) (inc : ℕ) → same_end e e && eqb inc inc ≡ true
here side.Host inc = eq-eqb inc inc refl
here side.Remote inc = eq-eqb inc inc refl

-- a look for a message sees how many were handed over
pub seen_look : (e : End) (inc handed accepted : ℕ) (es : List Event) → handed ≤ (seen e inc (Count e inc (Waiting handed accepted) ∷ es)).handed
seen_look e inc handed accepted es =
    subst (λ (b : Bool). handed ≤ (cond b (greatest (counts_told (Waiting handed accepted)) (seen e inc es)) (seen e inc es)).handed) (sym (here e inc)) (let most : handed ≤ max handed (seen e inc es).handed = omega arith in most)
