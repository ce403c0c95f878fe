use Rattle.std.proofs.Common.{◌≡◌, List, [], ◌∷◌, refl, sym, ap, ◌∙◌, subst}
use Rattle.std.specs.Prelude.{Some, slice_set}
use lib.ListN.{get_elem?}
use Rattle.lane_model.specs.Links.{free_number}
use Rattle.link_words.specs.declared.rule.Pass.{Pass}
use Rattle.link_words.specs.Calls.{SeatState}
use Rattle.link_words.specs.Passes.{Manages, first_incarnation, new_pass, only_pass, place_of_number, without_new}
use Rattle.split_ring.specs.declared.callers.Manager.{Manager}
use Rattle.split_ring.specs.Carried.{HasBlocks}
use Rattle.split_ring.specs.Seats.{first_pass}
use Rattle.split_ring.proofs.CarriedMakes.{keeps_alone, user_still}
use Rattle.split_ring.proofs.Makes.{rests_at, manager_after, caller_after}
use Rattle.split_ring.proofs.links.SharedLink.caller.Goals as goal

pub returns-clause-manager : goal.returns-clause-manager
returns-clause-manager g c =
    let m = c.split-seat.ensures.manager in let v = c.args.manager.now.seat.me.0 in let n = c.in_ok-number.number in
    let free : free_number v.users ≡ Some n = ap free_number c.requires.knows ∙ sym c.in_ok-number.ensures.number in
    let after = manager_after c.args.end v c.split-seat.new.manager.me.0.copy n free c.requires.manages in
    record {
      at_table = m.0 ∙ c.requires.at_table;
      manages = subst (λ (s : SeatState). Manages s.0) (sym m.2) after.0;
      rests = rests_at (sym (ap (λ (s : SeatState). s.0.passes) m.2 ∙ after.3)) c.requires.rests;
      knows = ap (λ (s : SeatState). s.0.users) m.2 ∙ (after.1 ∙ ap (λ (l : List _). slice_set l n (Some c.args.end)) c.requires.knows);
      told = ap (λ (s : SeatState). s.0.sizes) m.2 ∙ (after.2 ∙ c.requires.told);
      blocks = subst (HasBlocks c.args.manager.now.out) (sym m.2) (record {
        four = c.requires.blocks.four;
        few = c.requires.blocks.few;
        all = c.requires.blocks.all;
        owned = λ slot more. let o = c.requires.blocks.owned slot more in (o.0, o.1, ap (λ (ps : List Pass). get_elem? ps o.0) after.3 ∙ o.2, o.3);
      });
      order = c.split-seat.ensures.order;
    }

pub returns-clause-some : goal.returns-clause-some
returns-clause-some g c =
    let m = c.split-seat.ensures.caller in let v = c.args.manager.now.seat.me.0 in let n = c.in_ok-number.number in let e = c.args.end in
    let free : free_number v.users ≡ Some n = ap free_number c.requires.knows ∙ sym c.in_ok-number.ensures.number in
    let after = caller_after e v n free in
    let passes : c.split-seat.result.me.0.passes ≡ new_pass e n (first_incarnation n v) ∷ [] = ap (λ (s : SeatState). s.0.passes) m.1 ∙ after.0 in
    let pass = ap first_pass passes in (
      sym c.in_ok-number.ensures.number,
      refl,
      refl,
      record {
        seat = record { at_table = m.0 ∙ c.requires.at_table; told = ap (λ (s : SeatState). s.0.sizes) m.1 ∙ (after.1 ∙ c.requires.told) };
        rests = record { one = passes ∙ ap (λ (p : Pass). p ∷ []) (sym pass); in_call = ap (λ (p : Pass). p.call) pass; out = ap (λ (s : SeatState). s.1) m.1 };
        number = ap (λ (p : Pass). p.number) pass;
        low = c.in_ok-number.ensures.within;
      },
      ap (λ (p : Pass). p.own) pass,
      ap (λ (p : Pass). p.hands) pass,
    )

pub returns-clause-others : goal.returns-clause-others
returns-clause-others g c = λ who p carries.
    let m = c.split-seat.ensures.manager in let before = c.args.manager.now in let v = before.seat.me.0 in let n = c.in_ok-number.number in let e = c.args.end in
    let free = sym c.in_ok-number.ensures.number in let passes = (manager_after e v c.split-seat.new.manager.me.0.copy n (ap free_number c.requires.knows ∙ free) c.requires.manages).3 in
    let after : Manager = record { seat = c.split-seat.new.manager; users = slice_set before.users n (Some e); out = before.out } in
    keeps_alone c.args.self.now before after (without_new e v c.split-seat.new.manager.me.0.copy) who p m.2 refl (λ i. only_pass (place_of_number who.number (passes i)) (passes i)) (user_still before.users n who.number (Some e) who.end free carries.user) carries
