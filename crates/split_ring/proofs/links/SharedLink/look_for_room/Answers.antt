use Rattle.std.proofs.Common.{◌≡◌, ℕ, ◌+◌, ◌-◌, ◌%◌, sym, ap, ◌∙◌, subst}
use Rattle.rp_base.specs.declared.kinds.End.{End}
use Rattle.lane_model.specs.declared.stages.SendStage.TheVariants as stage
use Rattle.ring_core.specs.declared.states.RingSizes.{RingSizes}
use Rattle.ring_core.specs.Rings.{return_count}
use Rattle.link_words.specs.Calls.{SendAt}
use Rattle.link_words.specs.Layouts.{place_in}
use Rattle.link_words.specs.Parts.{AreNear}
use Rattle.link_words.specs.Words.{return_word, sizes_at}
use Rattle.split_ring.specs.Sends.{send_slots}
use Rattle.split_ring.proofs.Seats.{finds}
use Rattle.split_ring.proofs.SendSteps.{alone, send_at, finds_room, finds_none, finds_full}
use Rattle.split_ring.specs.Focus.{seat_of}
use Rattle.split_ring.proofs.links.SharedLink.look_for_room.Goals as goal

pub load_index-index-requires-clause-call : goal.load_index-index-requires-clause-call
load_index-index-requires-clause-call g c =
    let me = seat_of c.args.call.now.who.number c.args.seat.now.me in let call = c.args.call.now in let at = c.requires.call.0 in
    subst (λ (e : End). SendAt me e stage.Era) (sym c.other-lane.ensures) (send_at me call stage.Era (send_slots call) at (alone me call stage.Era at))

pub returns-then-free-eq0-clause-none : goal.returns-then-free-eq0-clause-none
returns-then-free-eq0-clause-none g c =
    let me = seat_of c.args.call.now.who.number c.args.seat.now.me in let me' = seat_of c.args.call.now.who.number c.load_index-index.new.seat.me in let call = c.args.call.now in let z = c.args.self.now.sizes in let n = c.load_index-index.result in let free = c.free_buffers-free.result in
    let whole = c.sizes_of-sizes.ensures.sizes ∙ ap (sizes_at z) c.other-lane.ensures in
    let counts = subst (λ (s : RingSizes). (returned : ℕ) → n ≡ return_count s returned % 65536 → AreNear s.capacity call.accepted returned → free + call.accepted ≡ returned + s.capacity) whole c.free_buffers-free.ensures in
    finds_none g.row.D.coded g.D.Desk.meaning z me me' call n free (call.accepted - c.from.result) c.requires.seat.told c.requires.call c.load_index-index.ensures.told
    (finds g.row.D.coded g.D.Desk.meaning me me' (place_in (return_word c.other-lane.result)) n c.load_index-index.ensures.step) counts c.if-free-eq0.true
    (ap (λ (k : ℕ). call.accepted - k) (c.from.ensures ∙ ap (λ (s : RingSizes). s.capacity) whole))

pub returns-then-call-from-clause-none : goal.returns-then-call-from-clause-none
returns-then-call-from-clause-none g c =
    let me = seat_of c.args.call.now.who.number c.args.seat.now.me in let me' = seat_of c.args.call.now.who.number c.load_index-index.new.seat.me in let call = c.args.call.now in let z = c.args.self.now.sizes in let n = c.load_index-index.result in let free = c.free_buffers-free.result in
    let whole = c.sizes_of-sizes.ensures.sizes ∙ ap (sizes_at z) c.other-lane.ensures in
    let counts = subst (λ (s : RingSizes). (returned : ℕ) → n ≡ return_count s returned % 65536 → AreNear s.capacity call.accepted returned → free + call.accepted ≡ returned + s.capacity) whole c.free_buffers-free.ensures in
    finds_full g.row.D.coded g.D.Desk.meaning z me me' call n free c.requires.seat.told c.requires.call c.load_index-index.ensures.told
    (finds g.row.D.coded g.D.Desk.meaning me me' (place_in (return_word c.other-lane.result)) n c.load_index-index.ensures.step) counts c.if-free-eq0.false (c.if-call-from.true ∙ c.from-else-free-eq0.ensures)

pub returns-else-call-from-clause-room : goal.returns-else-call-from-clause-room
returns-else-call-from-clause-room g c =
    let me = seat_of c.args.call.now.who.number c.args.seat.now.me in let me' = seat_of c.args.call.now.who.number c.load_index-index.new.seat.me in let call = c.args.call.now in let z = c.args.self.now.sizes in let n = c.load_index-index.result in let free = c.free_buffers-free.result in
    let whole = c.sizes_of-sizes.ensures.sizes ∙ ap (sizes_at z) c.other-lane.ensures in
    let counts = subst (λ (s : RingSizes). (returned : ℕ) → n ≡ return_count s returned % 65536 → AreNear s.capacity call.accepted returned → free + call.accepted ≡ returned + s.capacity) whole c.free_buffers-free.ensures in
    finds_room g.row.D.coded g.D.Desk.meaning z me me' call n free c.requires.seat.told c.requires.call c.load_index-index.ensures.told
    (finds g.row.D.coded g.D.Desk.meaning me me' (place_in (return_word c.other-lane.result)) n c.load_index-index.ensures.step) counts c.if-free-eq0.false (λ same. c.if-call-from.false (same ∙ sym c.from-else-free-eq0.ensures))
