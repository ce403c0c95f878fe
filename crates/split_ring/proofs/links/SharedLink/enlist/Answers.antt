use Rattle.std.proofs.Common.{◌≡◌, List, [], ◌∷◌, refl, sym, ap, ◌∙◌, subst}
use Rattle.std.specs.Prelude.{Some, slice_set}
use Rattle.lane_model.specs.Links.{free_number, with_caller}
use Rattle.link_words.specs.declared.rule.View.{View}
use Rattle.link_words.specs.Calls.{SeatState}
use Rattle.link_words.specs.Passes.{Manages, first_incarnation, new_pass, with_new_caller}
use Rattle.link_words.proofs.Moving.{still_manages}
use Rattle.split_ring.specs.declared.callers.Manager.{Manager}
use Rattle.split_ring.specs.Carried.{HasBlocks}
use Rattle.split_ring.proofs.CarriedMakes.{blocks_longer, new_carried, others_enlisted}
use Rattle.split_ring.proofs.Enlisting.{new_view, enlisted_at, enlisted_carrier}
use Rattle.split_ring.proofs.links.SharedLink.enlist.Goals as goal

pub returns-clause-manager : goal.returns-clause-manager
returns-clause-manager g c =
    let q = c.requires in let me = c.args.manager.now.seat.me in let me' = c.enlist_carried.new.manager.me in let n = c.in_ok-number.number in let e = c.args.end in let told = c.enlist_carried.ensures.told in
    let free : free_number me.0.users ≡ Some n = ap free_number q.knows ∙ sym c.in_ok-number.ensures.number in
    let view = ap (λ (s : SeatState). s.0) told ∙ new_view e me.0 me'.0.copy n free in
    record {
      at_table = c.enlist_carried.ensures.same.0 ∙ q.at_table;
      manages = subst (λ (s : SeatState). Manages s.0) (sym told) (still_manages me.0 e me'.0.copy q.manages);
      rests = enlisted_at e me me' n _ free told q.rests;
      knows = ap (λ (w : View). w.users) view ∙ ap (λ (l : List _). slice_set l n (Some e)) q.knows;
      told = ap (λ (w : View). w.sizes) view ∙ q.told;
      order = c.enlist_carried.ensures.order;
      blocks = subst (HasBlocks c.args.manager.now.out) (sym told) (blocks_longer c.args.manager.now.out me (with_new_caller e me.0 me'.0.copy) (new_pass e n (first_incarnation n me.0) ∷ []) (ap (λ (w : View). w.passes) (new_view e me.0 me'.0.copy n free)) q.blocks);
    }

pub returns-clause-state : goal.returns-clause-state
returns-clause-state g c = λ m is.
    let q = c.requires in let me = c.args.manager.now.seat.me in let me' = c.enlist_carried.new.manager.me in let n = c.in_ok-number.number in let e = c.args.end in let told = c.enlist_carried.ensures.told in
    let free : free_number me.0.users ≡ Some n = ap free_number q.knows ∙ sym c.in_ok-number.ensures.number in
    record {
      known = c.state_follows.ensures.made e me me' c.enlist_carried.ensures.step m is.known (enlisted_carrier e me me' n free told (subst (λ (s : SeatState). Manages s.0) (sym told) (still_manages me.0 e me'.0.copy q.manages)));
      users = ap (λ (l : List _). slice_set l n (Some e)) is.users ∙ ap (with_caller m.callers e) (c.in_ok-number.ensures.number ∙ ap free_number is.users);
    }

pub returns-clause-carried : goal.returns-clause-carried
returns-clause-carried g c = λ follows.
    let q = c.requires in let me = c.args.manager.now.seat.me in let me' = c.enlist_carried.new.manager.me in let n = c.in_ok-number.number in let e = c.args.end in let told = c.enlist_carried.ensures.told in let users = c.args.manager.now.users in
    let here : free_number users ≡ Some n = sym c.in_ok-number.ensures.number in let free : free_number me.0.users ≡ Some n = ap free_number q.knows ∙ here in
    let after : Manager = record { seat = c.enlist_carried.new.manager; users = slice_set users n (Some e); out = c.args.manager.now.out } in
    new_carried c.args.self.now c.args.manager.now after e n here me'.0.copy (told ∙ (λ i. (new_view e me.0 me'.0.copy n free i, me.1))) refl refl follows c.in_ok-number.ensures.within c.enlist_carried.ensures.order

pub returns-clause-others : goal.returns-clause-others
returns-clause-others g c = λ who p carried.
    let q = c.requires in let me = c.args.manager.now.seat.me in let me' = c.enlist_carried.new.manager.me in let n = c.in_ok-number.number in let e = c.args.end in let told = c.enlist_carried.ensures.told in let users = c.args.manager.now.users in
    let here : free_number users ≡ Some n = sym c.in_ok-number.ensures.number in let free : free_number me.0.users ≡ Some n = ap free_number q.knows ∙ here in
    let after : Manager = record { seat = c.enlist_carried.new.manager; users = slice_set users n (Some e); out = c.args.manager.now.out } in
    others_enlisted c.args.self.now c.args.manager.now after e n here me'.0.copy (told ∙ (λ i. (new_view e me.0 me'.0.copy n free i, me.1))) refl refl who p carried
