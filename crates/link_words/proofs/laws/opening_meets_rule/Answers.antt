use Rattle.link_words.specs.PlacedDesks.{placed_coded, placed_meaning, code_placed}
use Rattle.rp_base.specs.declared.kinds.End.TheVariants as side
use Rattle.std.specs.Prelude.{true, false}
use Rattle.std.proofs.Common.{[], refl}
use Rattle.lane_model.specs.Links.{opened}
use Rattle.ring_core.specs.RingLinks.{opened_ring_link, opened_ring_lane}
use Rattle.link_words.specs.Words.{words_of}
use Rattle.link_words.proofs.Fresh.{opens_new}
use Rattle.link_words.proofs.laws.opening_meets_rule.Goals as goal

pub returns : goal.returns
returns g c = λ config desks host remote xs ys is low many0 many1 of_host of_remote. (
  words_of 0 [] (opened_ring_link config host remote),
  refl,
  opens_new (placed_coded g.row.D.coded desks) (placed_meaning g.row.D.coded desks g.D.Desk.meaning) config (record { desk = host; end = side.Host }) (record { desk = remote; end = side.Remote }) xs ys is low many0 many1
      (λ i. record {
        state = opened config.first (opened_ring_lane config.num0 true config.book (record { code = code_placed side.Host (of_host i) }))
            (opened_ring_lane config.num1 false config.book (record { code = code_placed side.Remote (of_remote i) }));
      }),
)
