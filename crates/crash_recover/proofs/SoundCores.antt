-- What a core keeps stays where its link or its life goes on.
use Rattle.std.proofs.Common.{◌≡◌, ℕ, List, Option, Some, None, IfSome, Result, Ok, Err, OnOk, OnErr, IfOk, IfErr, is_some, option_map, not, refl, sym, ap, subst, ◌∙◌}
use Rattle.std.proofs.lemmas.Bool.{true≢false}
use Rattle.rp_base.specs.declared.kinds.LifeState.{LifeState}
use Rattle.memory_pool.specs.declared.regions.Region.{Region}
use Rattle.fw_load.specs.declared.loading.Loaded.{Loaded}
use Rattle.proc_state.specs.Lives.{CoreLife, is_offline, recovery_fault}
use Rattle.link_bench.specs.BenchEnds.{bench_to_reopen}
use Rattle.link_bench.specs.Benches.{BenchState}
use Rattle.core_actors.specs.Actors.{ActorsState}
use Rattle.crash_recover.specs.Cores.{SoundCore}
use Rattle.crash_recover.specs.KeptCores.{IsKeptBench, IsReadyLink}
use Rattle.crash_recover.proofs.KeptBenches.{map_kept, readied}
use Rattle.crash_recover.proofs.ReadyCores.{readied_link}

-- a link that there is stands ready
pub found_ready : (state : LifeState) (actors : ActorsState) (bench : BenchState) (found : Option BenchState) → found ≡ Some bench → IsReadyLink state actors found → IsReadyLink state actors (Some bench)
found_ready state actors bench found there is = subst (IsReadyLink state actors) there is

-- the link alone has gone on, and its actors
pub sound_linked : (regions : List Region) (book : ℕ) (life : CoreLife) (name : Option (List ℕ)) (given : Option Loaded) (before after : BenchState) (found : Option BenchState) (actors acted : ActorsState)
    → found ≡ Some before → SoundCore regions book life name given found actors → (IsKeptBench life before → IsKeptBench life after)
    → (IsKeptBench life before → IsReadyLink life.state actors (Some before) → IsReadyLink life.state acted (Some after)) → SoundCore regions book life name given (Some after) acted
sound_linked regions book life name given before after found actors acted there is keeps readies = record {
  book = is.book;
  loaded = is.loaded;
  has_image = is.has_image;
  has_load = is.has_load;
  unlinked = λ none. absurd (true≢false (sym (ap is_some there) ∙ ap is_some (is.unlinked none)));
  kept = keeps (subst (λ (found : Option BenchState). IfSome found (IsKeptBench life)) there is.kept);
  ready = readies (subst (λ (found : Option BenchState). IfSome found (IsKeptBench life)) there is.kept) (found_ready life.state actors before found there is.ready);
}

-- the link and the life have gone on, and as much is loaded
pub sound_lives : (regions : List Region) (book : ℕ) (before after : CoreLife) (name : Option (List ℕ)) (given : Option Loaded) (found left : Option BenchState) (actors acted : ActorsState)
    → is_offline after.state ≡ is_offline before.state → (after.users ≡ 0 → left ≡ None) → IfSome left (IsKeptBench after) → IsReadyLink after.state acted left
    → SoundCore regions book before name given found actors → SoundCore regions book after name given left acted
sound_lives regions book before after name given found left actors acted same unlinked kept ready is = record {
  book = is.book;
  loaded = is.loaded;
  has_image = is.has_image ∙ ap not (sym same);
  has_load = is.has_load ∙ ap not (sym same);
  unlinked = unlinked;
  kept = kept;
  ready = ready;
}

-- what is done on a link, where there is one, makes none
pub still_none : {A : Type 0} (f : A → A) (found : Option A) → found ≡ None → option_map f found ≡ None
still_none f None none = none
still_none f (Some it) none = absurd (true≢false (ap is_some none))

-- the link that a reopening finds, of a core that may be recovered
pub sound_readied : (regions : List Region) (book : ℕ) (life : CoreLife) (name : Option (List ℕ)) (given : Option Loaded) (found left : Option BenchState) (actors : ActorsState)
    → recovery_fault life ≡ None → left ≡ option_map bench_to_reopen found → SoundCore regions book life name given found actors → SoundCore regions book life name given left actors
sound_readied regions book life name given found left actors may is sound = sound_lives regions book life life name given found left actors actors refl
    (λ none. is ∙ still_none bench_to_reopen found (sound.unlinked none))
    (subst (λ (link : Option BenchState). IfSome link (IsKeptBench life)) (sym is) (map_kept life life found bench_to_reopen (readied life) sound.kept))
    (subst (IsReadyLink life.state actors) (sym is) (readied_link life actors found may sound.ready)) sound

-- a call that did this, or nothing where it failed
pub did_or_not : {A E : Type 0} (P : BenchState → Type 0) (before done after : BenchState) (answer : Result A E) → OnOk answer (after ≡ done) → OnErr answer (after ≡ before) → P done → P before → P after
did_or_not P before done after (Ok told) is same left was = subst P (sym is) left
did_or_not P before done after (Err why) is same left was = subst P (sym same) was

-- the same of a call that says so of each of its answers
pub did_if : {A E : Type 0} (P : BenchState → Type 0) (before done after : BenchState) (answer : Result A E) → IfOk answer (λ _. after ≡ done) → IfErr answer (λ _. after ≡ before) → P done → P before → P after
did_if P before done after (Ok told) is same left was = subst P (sym is) left
did_if P before done after (Err why) is same left was = subst P (sym same) was
