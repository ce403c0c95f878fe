use Rattle.std.proofs.Common.{◌≡◌, Bool, false, Some, IfSome, is_some, length, sym, ap, ◌∙◌, subst}
use Rattle.std.specs.Option.{option_map}
use Rattle.fw_load.specs.declared.loading.Loaded.{Loaded}
use Rattle.remote_core.specs.Works.{memory_after, work_of}
use Rattle.core_actors.specs.declared.actors.Actor.TheVariants as actor
use Rattle.core_actors.specs.Actors.{ActorsState, actors_view}
use Rattle.crash_recover.specs.Cores.{CoreState, IsSoundLoad, LoadState, load_view}
use Rattle.core_actors.specs.ActorSteps.{actors_after_record, drive_of_work, has_calls, with_next_after}
use Rattle.crash_recover.specs.Drives.{DriveStep, with_turn_after}
use Rattle.crash_recover.specs.contracts.cores.Core.{the_view}
use Rattle.crash_recover.specs.KeptCores.{IsReadyLink}
use Rattle.crash_recover.proofs.CoreLoads.{place_is}
use Rattle.crash_recover.proofs.ReadyCores.{found_record}
use Rattle.crash_recover.proofs.RecordRuns.{record_ran, sound_ran}
use Rattle.crash_recover.proofs.cores.Core.run_record.Goals as goal

pub returns-clause-driven : goal.returns-clause-driven
returns-clause-driven c =
    let inside = c.self.inside in
    let loaded = c.in-Some.loaded in
    let core = with_turn_after actor.Worker (the_view inside) in
    let sound = subst (λ found. IfSome found (IsSoundLoad inside.regions)) c.in-Some.is c.self.invariant.loaded in
    let ran = record_ran core (load_view loaded) loaded.map (λ da len some. place_is inside.regions loaded da len c.as_slice.ensures.sound sound some) (ap (option_map load_view) c.in-Some.is) in
    rw (← c.self.view_is) (c.in_ok-run_record.ensures.driven
    ∙ ap (λ (linked : Bool). drive_of_work (work_of loaded.memory loaded.map linked inside.actors.worker)) c.is_some-linked.ensures
    ∙ ap (λ (step : DriveStep). step.driven) ran)

pub returns-clause-left : goal.returns-clause-left
returns-clause-left c =
    let inside = c.self.inside in
    let loaded = c.in-Some.loaded in
    let worker = inside.actors.worker in
    let core = with_turn_after actor.Worker (the_view inside) in
    let sound = subst (λ found. IfSome found (IsSoundLoad inside.regions)) c.in-Some.is c.self.invariant.loaded in
    let ran = record_ran core (load_view loaded) loaded.map (λ da len some. place_is inside.regions loaded da len c.as_slice.ensures.sound sound some) (ap (option_map load_view) c.in-Some.is) in
    let put : LoadState → ActorsState → CoreState = λ load actors. record (the_view inside) { loaded = Some load; actors = actors } in
    let left : Bool → Loaded = λ linked. record loaded { memory = memory_after loaded.memory loaded.map linked worker } in
    let acted : Bool → ActorsState = λ linked. actors_after_record (with_next_after actor.Worker (actors_view inside.actors)) loaded.memory loaded.map linked in
    rw (← c.self.view_is)
    (ap (λ (after : Loaded). put (load_view after) (actors_view c.run_record.new.self)) c.in_ok-run_record.ensures.loaded
    ∙ ap (put (load_view (left c.is_some-linked.result))) c.in_ok-run_record.ensures.actors
    ∙ ap (λ (linked : Bool). put (load_view (left linked)) (acted linked)) c.is_some-linked.ensures
    ∙ ap (λ (step : DriveStep). step.core) ran)

pub invariant_of-self-2 : goal.invariant_of-self-2
invariant_of-self-2 c =
    let inside = c.self.inside in
    let is = c.self.invariant in
    let loaded = c.in-Some.loaded in
    let did = c.in_ok-run_record.ensures in
    let sound = subst (λ found. IfSome found (IsSoundLoad inside.regions)) c.in-Some.is is.loaded in
    let silent = subst (λ (core : CoreState). has_calls core.bench core.actors ≡ false) (sym c.self.view_is) c.requires.silent in
    record {
      book = is.book;
      loaded = subst (IsSoundLoad inside.regions) (sym did.loaded)
          (sound_ran inside.regions loaded _ (sym (ap (λ (load : Loaded). length load.memory) did.loaded) ∙ did.memory) sound);
      has_image = is.has_image;
      has_load = sym (ap is_some c.in-Some.is) ∙ is.has_load;
      unlinked = is.unlinked;
      kept = is.kept;
      ready = subst (λ (acted : ActorsState). IsReadyLink inside.life.state acted inside.bench) (sym did.actors) (record {
        begun = is.ready.begun;
        calls = λ up. found_record (actors_view inside.actors) loaded.memory loaded.map c.is_some-linked.result inside.life inside.bench silent is.kept (is.ready.calls up);
      });
    }
