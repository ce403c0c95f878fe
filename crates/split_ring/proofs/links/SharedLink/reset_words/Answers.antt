use Rattle.std.proofs.Common.{◌≡◌, ◌+◌, ◌*◌, ◌<◌, ℕ, List, length, refl, ap, ◌∙◌, subst, arith}
use Rattle.link_words.specs.declared.rule.Call.TheVariants.{Reopens}
use Rattle.link_words.specs.Calls.{SeatState}
use Rattle.link_words.specs.Fresh.{fresh_of}
use Rattle.split_ring.specs.Gathers.{IsCalling}
use Rattle.split_ring.proofs.Apart.{words_many}
use Rattle.split_ring.proofs.Reopening.{fresh_many, reset_low, reset_next, may_reset}
use Rattle.split_ring.proofs.ManagerSteps.{carrier_of}
use Rattle.split_ring.proofs.Reopened.{still_known}
use Rattle.split_ring.proofs.links.SharedLink.reset_words.Goals as goal

pub bounds-words-reset_place : goal.bounds-words-reset_place
bounds-words-reset_place g c =
    let z = c.args.self.now.sizes in let n = c.loop-number.number in let hosts = c.from.ensures in let remotes = c.from-2.ensures in let test = c.loop-number-test.true in
    let low : n < (z.to_host.entries + z.to_remote.entries) * 2 + 4 = omega (arith, test, hosts, remotes) in
    let at = c.reset_place.ensures in let within = reset_low z n low in let many = words_many z c.args.self.now.fits.opens in let long = ap (λ (l : List ℕ). length l) c.requires.words in
    omega (arith, at, within, many, long)

pub offset_bounds-words-reset_place : goal.offset_bounds-words-reset_place
offset_bounds-words-reset_place g c =
    let z = c.args.self.now.sizes in let n = c.loop-number.number in let hosts = c.from.ensures in let remotes = c.from-2.ensures in let test = c.loop-number-test.true in
    let low : n < (z.to_host.entries + z.to_remote.entries) * 2 + 4 = omega (arith, test, hosts, remotes) in
    let at = c.reset_place.ensures in let within = reset_low z n low in let host_most = c.args.self.now.fits.sized.to_host.1 in let remote_most = c.args.self.now.fits.sized.to_remote.1 in
    omega (arith, at, within, host_most, remote_most)

pub reset_index-requires-clause-number : goal.reset_index-requires-clause-number
reset_index-requires-clause-number g c =
    let z = c.args.self.now.sizes in let n = c.loop-number.number in let hosts = c.from.ensures in let remotes = c.from-2.ensures in let test = c.loop-number-test.true in
    let low : n < (z.to_host.entries + z.to_remote.entries) * 2 + 4 = omega (arith, test, hosts, remotes) in
    let within = reset_low z n low in let wide = c.args.self.now.fits.wide in let host_most = c.args.self.now.fits.sized.to_host.1 in let remote_most = c.args.self.now.fits.sized.to_remote.1 in
    (omega (arith, low, host_most, remote_most), omega (arith, within, wide))

pub reset_index-requires-clause-manager : goal.reset_index-requires-clause-manager
reset_index-requires-clause-manager g c =
    let z = c.args.self.now.sizes in let n = c.loop-number.number in let hosts = c.from.ensures in let remotes = c.from-2.ensures in let test = c.loop-number-test.true in
    let low : n < (z.to_host.entries + z.to_remote.entries) * 2 + 4 = omega (arith, test, hosts, remotes) in let many = fresh_many z c.args.self.now.fits.opens in
    let q = c.requires.manager in let inv = c.loop-number.invariant in
    may_reset z q.0 n q.1 _ c.reset_place.result q.2 q.3 q.4 c.args.words.now c.loop-number.seat.me (inv.1 q.0 q.1 q.2 q.3 q.4 q.5) inv.0.told c.requires.words c.reset_place.ensures (omega (arith, low, many)) refl

pub loop-number-preserved : goal.loop-number-preserved
loop-number-preserved g c =
    let inv = c.loop-number.invariant in let n = c.loop-number.number in let me = c.loop-number.seat.me in let me1 = c.reset_index.new.manager.me in (
      record { at_table = c.reset_index.ensures.same.0 ∙ inv.0.at_table; told = ap (λ (s : SeatState). s.0.sizes) c.reset_index.ensures.told ∙ inv.0.told },
      λ v inc a b slots start. reset_next v n inc a b slots me me1 (inv.1 v inc a b slots start) c.reset_index.ensures.told,
      λ m knows. let q = c.requires.manager in let was = inv.1 q.0 q.1 q.2 q.3 q.4 q.5 in
          still_known g.row.D.coded me me1 m c.reset_index.ensures.copy (carrier_of q.0 (Reopens n q.1 q.2 q.3) (Reopens (n + 1) q.1 q.2 q.3) q.4 q.4 me me1 was (reset_next q.0 n q.1 q.2 q.3 q.4 me me1 was c.reset_index.ensures.told)) (inv.2 m knows),
    )

pub returns-clause-all : goal.returns-clause-all
returns-clause-all g c =
    let z = c.args.self.now.sizes in let n = c.loop-number.number in let hosts = c.from.ensures in let remotes = c.from-2.ensures in let test = c.loop-number-test.false in let end = c.loop-number.auto.number-end in
    let many = fresh_many z c.args.self.now.fits.opens in let all : n ≡ length (fresh_of z) = omega (arith, test, end, hosts, remotes, many) in
    λ v inc a b slots start. subst (λ (k : ℕ). IsCalling v (Reopens k inc a b) slots c.loop-number.seat.me) all (c.loop-number.invariant.1 v inc a b slots start)
