use Rattle.std.proofs.Common.{◌≡◌, ◌*◌, ℕ, refl, ◌∙◌, subst, arith}
use Rattle.rp_base.specs.declared.kinds.End.TheVariants as side
use Rattle.link_words.specs.Calls.{SeatState}
use Rattle.split_ring.specs.Snapshots.{IsLaneFound}
use Rattle.split_ring.proofs.Finding.{finds_era}
use Rattle.split_ring.proofs.links.SharedLink.find_words.Goals as goal

pub look_for_manager-requires-clause-place : goal.look_for_manager-requires-clause-place
look_for_manager-requires-clause-place g c = let wide = c.args.self.now.fits.wide in (omega (arith, wide), (1, refl))

pub returns-clause-era : goal.returns-clause-era
returns-clause-era g c = let s = c.look_for_manager in finds_era g.row.D.coded g.D.Desk.meaning c.args.seat.now.me s.new.manager.me s.result c.era_of-era.result s.ensures.told c.era_of-era.ensures s.ensures.step

pub returns-clause-to_remote : goal.returns-clause-to_remote
returns-clause-to_remote g c =
    let here = c.find_lane.ensures.same.1 ∙ c.look_for_manager.ensures.told in let from = c.from.ensures in let behind : c.from.result * 512 ≡ 512 * c.args.self.now.sizes.to_host.capacity = omega (arith, from) in
    subst (λ (t : ℕ × SeatState). IsLaneFound g.row.D.coded g.D.Desk.meaning t.1 side.Remote t.0 c.in_ok-to_remote.to_remote) (λ i. (behind i, here i)) c.in_ok-to_remote.ensures.found
