use Rattle.std.proofs.Common.{◌≡◌, ◌<◌, ℕ, ◌+◌, ◌-◌, ◌%◌, sym, ap, ◌∙◌, subst, arith}
use Rattle.rp_base.specs.declared.kinds.End.{End}
use Rattle.lane_model.specs.declared.stages.SendStage.TheVariants as stage
use Rattle.ring_core.specs.declared.states.RingSizes.{RingSizes}
use Rattle.link_words.specs.declared.rule.Ring.TheVariants as ring
use Rattle.link_words.specs.Calls.{SendAt}
use Rattle.link_words.specs.Layouts.{place_in}
use Rattle.link_words.specs.Words.{other, return_word, sizes_at, entry_number}
use Rattle.split_ring.specs.Sends.{send_slots}
use Rattle.split_ring.proofs.Seats.{finds}
use Rattle.split_ring.proofs.SendSteps.{alone, send_at, own_next, entry_next, takes_own, takes_free}
use Rattle.split_ring.specs.Focus.{seat_of}
use Rattle.split_ring.proofs.links.SharedLink.take_free.Goals as goal

pub load_index-requires-clause-call : goal.load_index-requires-clause-call
load_index-requires-clause-call g c =
    let me = seat_of c.args.call.now.who.number c.args.seat.now.me in let call = c.args.call.now in let at = c.requires.call in let z = c.args.self.now.sizes in
    let own : c.from-own.result ≡ (sizes_at z (other call.who.end)).own = c.from-own.ensures ∙ ap (λ (s : RingSizes). s.own) (c.sizes_of.ensures.sizes ∙ ap (sizes_at z) c.other-lane.ensures) in (
      subst (λ (e : End). SendAt me e stage.Look) (sym c.other-lane.ensures) (send_at me call stage.Look (send_slots call) at.0 (alone me call stage.Look at.0)),
      own_next z me call c.requires.seat.told at (subst (λ (k : ℕ). call.accepted < k) own c.if-call-own.true),
    )

pub returns-then-call-own-clause-out : goal.returns-then-call-own-clause-out
returns-then-call-own-clause-out g c =
    let me = seat_of c.args.call.now.who.number c.args.seat.now.me in let me' = seat_of c.args.call.now.who.number c.load_index.new.seat.me in
    (takes_own g.row.D.coded g.D.Desk.meaning c.args.self.now.sizes me me' c.args.call.now c.requires.seat.told c.requires.call c.load_index.ensures.told (finds g.row.D.coded g.D.Desk.meaning me me' (place_in (return_word c.other-lane.result)) c.load_index.result c.load_index.ensures.step)).0

pub returns-then-call-own-clause-done : goal.returns-then-call-own-clause-done
returns-then-call-own-clause-done g c =
    let me = seat_of c.args.call.now.who.number c.args.seat.now.me in let me' = seat_of c.args.call.now.who.number c.load_index.new.seat.me in
    (takes_own g.row.D.coded g.D.Desk.meaning c.args.self.now.sizes me me' c.args.call.now c.requires.seat.told c.requires.call c.load_index.ensures.told (finds g.row.D.coded g.D.Desk.meaning me me' (place_in (return_word c.other-lane.result)) c.load_index.result c.load_index.ensures.step)).1

pub load_entry-entry-requires-clause-call : goal.load_entry-entry-requires-clause-call
load_entry-entry-requires-clause-call g c =
    let me = seat_of c.args.call.now.who.number c.args.seat.now.me in let call = c.args.call.now in let at = c.requires.call in let z = c.args.self.now.sizes in
    let own : c.from-own.result ≡ (sizes_at z (other call.who.end)).own = c.from-own.ensures ∙ ap (λ (s : RingSizes). s.own) (c.sizes_of.ensures.sizes ∙ ap (sizes_at z) c.other-lane.ensures) in
    let above = c.if-call-own.false in let count : call.accepted ≡ c.from-own.result + (call.accepted - c.from-own.result) = omega arith in (
      subst (λ (e : End). SendAt me e stage.Look) (sym c.other-lane.ensures) (send_at me call stage.Look (send_slots call) at.0 (alone me call stage.Look at.0)),
      entry_next z me call (call.accepted - c.from-own.result) c.requires.seat.told at (count ∙ ap (λ (k : ℕ). k + (call.accepted - c.from-own.result)) own),
    )

pub returns-clause-out : goal.returns-clause-out
returns-clause-out g c =
    let me = seat_of c.args.call.now.who.number c.args.seat.now.me in let me' = seat_of c.args.call.now.who.number c.load_entry-entry.new.seat.me in let n = c.load_entry-entry.result in
    (takes_free g.row.D.coded g.D.Desk.meaning c.args.self.now.sizes me me' c.args.call.now (n % 4294967296) c.requires.seat.told c.requires.call c.load_entry-entry.ensures.told
    (finds g.row.D.coded g.D.Desk.meaning me me' (place_in (entry_number c.args.self.now.sizes c.other-lane.result ring.Return (c.args.call.now.accepted - c.from-own.result))) n c.load_entry-entry.ensures.step)).0

pub returns-clause-done : goal.returns-clause-done
returns-clause-done g c =
    let me = seat_of c.args.call.now.who.number c.args.seat.now.me in let me' = seat_of c.args.call.now.who.number c.load_entry-entry.new.seat.me in let n = c.load_entry-entry.result in
    (takes_free g.row.D.coded g.D.Desk.meaning c.args.self.now.sizes me me' c.args.call.now (n % 4294967296) c.requires.seat.told c.requires.call c.load_entry-entry.ensures.told
    (finds g.row.D.coded g.D.Desk.meaning me me' (place_in (entry_number c.args.self.now.sizes c.other-lane.result ring.Return (c.args.call.now.accepted - c.from-own.result))) n c.load_entry-entry.ensures.step)).1
