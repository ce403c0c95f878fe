-- Drives of so many steps.
use Rattle.std.proofs.Common.{◌≡◌, ℕ, zero, suc, ◌+◌, ◌<◌, ◌≤◌, Bool, true, false, cond, refl, subst, arith}
use Rattle.crash_recover.specs.Cores.{CoreState}
use Rattle.crash_recover.specs.Drives.{drive_step}
use Rattle.drive_laws.specs.Steps.{rests, after_steps, drive_length, after_drive}

pub made_most : (count : ℕ) (core : CoreState) → drive_length count core ≤ count
made_most zero core = omega arith
made_most (suc more) core = by (rests core) (made_most more (drive_step core).core)
  where
    by : (rest : Bool) → drive_length more (drive_step core).core ≤ more → cond rest 0 (suc (drive_length more (drive_step core).core)) ≤ suc more
    by true few = omega arith
    by false few = omega arith

pub made_fewer : (count : ℕ) (core : CoreState) → drive_length count core < count → rests (after_drive count core) ≡ true
made_fewer zero core less = absurd (omega arith)
made_fewer (suc more) core less = by (rests core) refl less (λ fewer. made_fewer more (drive_step core).core fewer)
  where
    by : (rest : Bool) → rests core ≡ rest → let made = drive_length more (drive_step core).core in
        cond rest 0 (suc made) < suc more → (made < more → rests (after_steps made (drive_step core).core) ≡ true) → rests (after_steps (cond rest 0 (suc made)) core) ≡ true
    by true is fewer later = is
    by false is fewer later = later (omega arith)

pub made_before : (count done : ℕ) (core : CoreState) → done < drive_length count core → rests (after_steps done core) ≡ false
made_before zero done core less = absurd (omega arith)
made_before (suc more) done core less = by (rests core) done refl less (λ before fewer. made_before more before (drive_step core).core fewer)
  where
    by : (rest : Bool) (before : ℕ) → rests core ≡ rest → let made = drive_length more (drive_step core).core in
        before < cond rest 0 (suc made) → ((earlier : ℕ) → earlier < made → rests (after_steps earlier (drive_step core).core) ≡ false) → rests (after_steps before core) ≡ false
    by true before is fewer later = absurd (omega arith)
    by false zero is fewer later = is
    by false (suc earlier) is fewer later = later earlier (omega arith)

-- a drive whose first steps were all made
pub record IsBoth (total count more : ℕ) (core : CoreState) : Type 0 where
  pub made : drive_length total core ≡ count + drive_length more (after_drive count core)
  pub left : after_drive total core ≡ after_drive more (after_drive count core)

drive_both : (total count more : ℕ) (core : CoreState) → total ≡ count + more → drive_length count core ≡ count → IsBoth total count more core
drive_both total zero more core is whole =
    let same : more ≡ total = omega arith in
    subst (λ n. IsBoth n zero more core) same (record { made = omega arith; left = refl })
drive_both zero (suc count) more core is whole = absurd (omega arith)
drive_both (suc total) (suc count) more core is whole =
    let both = by (rests core) whole (λ first. drive_both total count more (drive_step core).core (omega arith) first) in
    record { made = both.0; left = both.1 }
  where
    by : (rest : Bool) → let next = (drive_step core).core in let first = after_steps (cond rest 0 (suc (drive_length count next))) core in
        cond rest 0 (suc (drive_length count next)) ≡ suc count → (drive_length count next ≡ count → IsBoth total count more next)
        → (cond rest 0 (suc (drive_length total next)) ≡ suc count + drive_length more first) × (after_steps (cond rest 0 (suc (drive_length total next))) core ≡ after_drive more first)
    by true all later = absurd (omega arith)
    by false all later = let both = later (omega arith) in (omega (arith, both.made), both.left)

pub drive_parts : (count more : ℕ) (core : CoreState) → drive_length count core ≡ count
    → (drive_length (count + more) core ≡ count + drive_length more (after_drive count core)) × (after_drive (count + more) core ≡ after_drive more (after_drive count core))
drive_parts count more core whole = let both = drive_both (count + more) count more core refl whole in (both.made, both.left)
