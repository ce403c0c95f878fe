use Rattle.std.proofs.Common.{◌≡◌, ◌+◌, ◌-◌, ℕ, List, refl, ap, ◌∙◌, subst, arith}
use lib.ListN.{get_elem?}
use Rattle.link_words.specs.declared.rule.Pass.{Pass}
use Rattle.link_words.specs.declared.rule.View.{View}
use Rattle.link_words.specs.Layouts.{place_in}
use Rattle.link_words.specs.Passes.{place_of_number}
use Rattle.link_words.specs.Steps.{Begins, HasWord, turn_word_for}
use Rattle.split_ring.specs.Focus.{seat_of}
use Rattle.split_ring.specs.Seats.{pass_in}
use Rattle.split_ring.proofs.AloneSteps.{turn_alone}
use Rattle.split_ring.proofs.Focusing.{only_there, begins_alone, begins_on}
use Rattle.split_ring.proofs.Outcomes.{turn_met}
use Rattle.split_ring.proofs.Seats.{begins}
use Rattle.split_ring.proofs.TurnSteps.{entered, refused}
use Rattle.split_ring.proofs.links.SharedLink.enter.Goals as goal

pub take_turn-found-requires-clause-caller : goal.take_turn-found-requires-clause-caller
take_turn-found-requires-clause-caller g c =
    let q = c.requires.caller in let n = c.args.who.number in let me = c.args.seat.now.me in let f = seat_of n me in let k = place_of_number n me.0.passes in
    let there = (only_there k me.0.passes 0 (pass_in f) (ap (λ (ps : List Pass). get_elem? ps 0) q.rests.one)).1 in
    (record { mover = record { place = k; pass = pass_in f; here = there }; here = refl; number = q.number; call = q.rests.in_call }, c.requires.fit, q.low)

pub returns-then-found-eq0-clause-seat : goal.returns-then-found-eq0-clause-seat
returns-then-found-eq0-clause-seat g c =
    let q = c.requires.caller in let who = c.args.who in let n = who.number in let me = c.args.seat.now.me in let me' = c.take_turn-found.new.seat.me in let y = c.take_turn-found.result in let f = seat_of n me in
    let there = (only_there (place_of_number n me.0.passes) me.0.passes 0 (pass_in f) (ap (λ (ps : List Pass). get_elem? ps 0) q.rests.one)).1 in
    let leaves = (turn_alone n me me' (pass_in f) who.end there q.rests.in_call who.end who.follows c.args.wish y c.take_turn-found.ensures.told).1 c.if-found-eq0.true in
    record { at_table = c.take_turn-found.ensures.same.0 ∙ c.requires.seat.at_table; told = ap (λ (v : View). v.sizes) leaves.view ∙ c.requires.seat.told; order = c.take_turn-found.ensures.order }

pub returns-else-found-eq0-clause-seat : goal.returns-else-found-eq0-clause-seat
returns-else-found-eq0-clause-seat g c =
    let q = c.requires.caller in let who = c.args.who in let n = who.number in let me = c.args.seat.now.me in let me' = c.take_turn-found.new.seat.me in let y = c.take_turn-found.result in let f = seat_of n me in
    let there = (only_there (place_of_number n me.0.passes) me.0.passes 0 (pass_in f) (ap (λ (ps : List Pass). get_elem? ps 0) q.rests.one)).1 in
    let leaves = (turn_alone n me me' (pass_in f) who.end there q.rests.in_call who.end who.follows c.args.wish y c.take_turn-found.ensures.told).2 c.if-found-eq0.false in
    record { at_table = c.take_turn-found.ensures.same.0 ∙ c.requires.seat.at_table; told = ap (λ (v : View). v.sizes) leaves.view ∙ c.requires.seat.told; order = c.take_turn-found.ensures.order }

pub returns-then-found-eq0-clause-alone : goal.returns-then-found-eq0-clause-alone
returns-then-found-eq0-clause-alone g c =
    let q = c.requires.caller in let who = c.args.who in let n = who.number in let me = c.args.seat.now.me in let me' = c.take_turn-found.new.seat.me in let y = c.take_turn-found.result in let f = seat_of n me in
    let there = (only_there (place_of_number n me.0.passes) me.0.passes 0 (pass_in f) (ap (λ (ps : List Pass). get_elem? ps 0) q.rests.one)).1 in
    let leaves = (turn_alone n me me' (pass_in f) who.end there q.rests.in_call who.end who.follows c.args.wish y c.take_turn-found.ensures.told).1 c.if-found-eq0.true in
    begins_on g.row.D.coded g.D.Desk.meaning n who.follows c.args.wish me me' (HasWord (place_in (turn_word_for who.end c.args.wish)) y) leaves c.take_turn-found.ensures.step

pub returns-else-found-eq0-clause-alone : goal.returns-else-found-eq0-clause-alone
returns-else-found-eq0-clause-alone g c =
    let q = c.requires.caller in let who = c.args.who in let n = who.number in let me = c.args.seat.now.me in let me' = c.take_turn-found.new.seat.me in let y = c.take_turn-found.result in let f = seat_of n me in
    let there = (only_there (place_of_number n me.0.passes) me.0.passes 0 (pass_in f) (ap (λ (ps : List Pass). get_elem? ps 0) q.rests.one)).1 in
    let leaves = (turn_alone n me me' (pass_in f) who.end there q.rests.in_call who.end who.follows c.args.wish y c.take_turn-found.ensures.told).2 c.if-found-eq0.false in
    begins_on g.row.D.coded g.D.Desk.meaning n who.follows c.args.wish me me' (HasWord (place_in (turn_word_for who.end c.args.wish)) y) leaves c.take_turn-found.ensures.step

pub returns-then-found-eq0-clause-entered : goal.returns-then-found-eq0-clause-entered
returns-then-found-eq0-clause-entered g c =
    let q = c.requires.caller in let who = c.args.who in let n = who.number in let me = c.args.seat.now.me in let me' = c.take_turn-found.new.seat.me in let y = c.take_turn-found.result in let f = seat_of n me in
    let coded = g.row.D.coded in let meaning = g.D.Desk.meaning in let place = place_in (turn_word_for who.end c.args.wish) in
    let there = (only_there (place_of_number n me.0.passes) me.0.passes 0 (pass_in f) (ap (λ (ps : List Pass). get_elem? ps 0) q.rests.one)).1 in
    let told = turn_alone n me me' (pass_in f) who.end there q.rests.in_call who.end who.follows c.args.wish y c.take_turn-found.ensures.told in
    entered coded meaning who c.args.wish y f (seat_of n me') q.rests q.number told.0 c.if-found-eq0.true
    (begins coded meaning f (seat_of n me') place y n who.follows c.args.wish q.number (begins_alone coded meaning n who.follows c.args.wish me me' (HasWord place y) (pass_in f) there (told.1 c.if-found-eq0.true) c.take_turn-found.ensures.step))

pub returns-else-found-eq0-clause-busy : goal.returns-else-found-eq0-clause-busy
returns-else-found-eq0-clause-busy g c =
    let q = c.requires.caller in let who = c.args.who in let n = who.number in let me = c.args.seat.now.me in let me' = c.take_turn-found.new.seat.me in let y = c.take_turn-found.result in let f = seat_of n me in
    let coded = g.row.D.coded in let meaning = g.D.Desk.meaning in let place = place_in (turn_word_for who.end c.args.wish) in let busy = c.if-found-eq0.false in
    let is : y ≡ y - 1 + 1 = omega arith in
    let there = (only_there (place_of_number n me.0.passes) me.0.passes 0 (pass_in f) (ap (λ (ps : List Pass). get_elem? ps 0) q.rests.one)).1 in
    let told = turn_alone n me me' (pass_in f) who.end there q.rests.in_call who.end who.follows c.args.wish y c.take_turn-found.ensures.told in
    refused coded meaning who c.args.wish y (y - 1) f (seat_of n me') q.rests q.number told.0 busy is
    (begins coded meaning f (seat_of n me') place y n who.follows c.args.wish q.number (begins_alone coded meaning n who.follows c.args.wish me me' (HasWord place y) (pass_in f) there (told.2 busy) c.take_turn-found.ensures.step))

pub returns-else-found-eq0-clause-met : goal.returns-else-found-eq0-clause-met
returns-else-found-eq0-clause-met g c = λ m knows.
    let who = c.args.who in let me = c.args.seat.now.me in let me' = c.take_turn-found.new.seat.me in let y = c.take_turn-found.result in let busy = c.if-found-eq0.false in
    let is : y ≡ y - 1 + 1 = omega arith in
    turn_met g.row.D.coded g.D.Desk.meaning who.number who.follows who.end c.args.wish me me' (y - 1) m
    (subst (λ (n : ℕ). Begins g.row.D.coded g.D.Desk.meaning me (HasWord (place_in (turn_word_for who.end c.args.wish)) n) who.number who.follows c.args.wish me') is c.take_turn-found.ensures.step) knows
