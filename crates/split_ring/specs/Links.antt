-- A shared link as one value: its tables, its sizes, and its manager (own).
use Rattle.std.specs.Prelude.{◌≡◌, ◌≤◌, ◌<◌, []}
use base.Stored.{Gv}
use Rattle.atomic_table.specs.Seated.{TableId}
use Rattle.atomic_table.specs.Table.{Me}
use Rattle.rp_base.specs.declared.limits.TheConstants.{BOOK_MOST}
use Rattle.link_words.specs.declared.codes.DeskView.{DeskView}
use Rattle.link_words.specs.declared.rule.LinkSizes.{LinkSizes}
use Rattle.link_words.specs.DeskSeats.{home_view}
use Rattle.link_words.specs.Words.{IsSized, words_in}
use Rattle.split_ring.specs.Openings.{IsOpenable}

-- the tables of a link fit its sizes
pub record IsFitLink (sizes key : LinkSizes) (words host remote : TableId) : Type 0 where
  pub told : key ≡ sizes
  pub wide : words_in sizes ≤ words.words
  pub sized : IsSized sizes
  pub opens : IsOpenable sizes
  pub book : sizes.book ≤ BOOK_MOST
  pub host_desk : (sizes.desks.host.value.table_id ≡ host) × (0 < host.words)
  pub remote_desk : (sizes.desks.remote.value.table_id ≡ remote) × (0 < remote.words)

-- a new desk's table has its one seat, which knows that the desk is in its slot
pub record HasDeskSeat {D : Type 0} (code : Gv) (table seat : TableId) (me : Me D DeskView) : Type 0 where
  pub at_table : seat ≡ table
  pub some : 0 < table.words
  pub home : me ≡ (home_view code, [])
