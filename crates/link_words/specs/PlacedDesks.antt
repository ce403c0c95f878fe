-- A desk in its place with the receiver's turn of an end, in a table of its own, and the right to it, which goes with that turn (own).
use Rattle.std.specs.Prelude.{◌≡◌, [], Bool, true, false}
use mathlib.Core.Path.{refl, sym, ap, ◌∙◌}
use base.Stored.{Gv, gnil, gcons, Coded, coded×, coded_bool, coded_via}
use Rattle.atomic_table.specs.Seated.{TableId}
use Rattle.rp_base.specs.declared.kinds.End.{End}
use Rattle.rp_base.specs.declared.kinds.End.TheVariants as side
use Rattle.lane_model.specs.Desks.{DeskMeaning}
use Rattle.link_words.specs.declared.codes.DeskRight.{DeskRight}
use Rattle.link_words.specs.declared.codes.DeskTables.{DeskTables}

-- the table of no desk
abbrev pub no_table : TableId
no_table = record { words = 0; slots = 0; views_name = 0; atom = 0; block = 0; offset = 0; slot_names = [] }

abbrev pub no_tables : DeskTables
no_tables = record { host = record { marker = record {}; value = record { marker = record {}; table_id = no_table; id = 0; views = [] } }; remote = record { marker = record {}; value = record { marker = record {}; table_id = no_table; id = 0; views = [] } } }

abbrev pub no_right : DeskRight
no_right = record { end = side.Host; table = no_table; code = gnil }

-- the table of the desk of an end
abbrev pub table_at : DeskTables → End → TableId
table_at t side.Host = t.host.value.table_id
table_at t side.Remote = t.remote.value.table_id

-- a desk, with the end that it is of, where the desks lie in these tables
pub record PlacedDesk {D : Type 0} (coded : Coded D) (tables : DeskTables) : Type 0 where
  pub desk : D
  pub end : End

-- the right to the desk of this end
abbrev pub right_at : {D : Type 0} → Coded D → DeskTables → End → D → DeskRight
right_at coded tables end desk = record { end = end; table = table_at tables end; code = coded.code desk }

abbrev pub right_to : {D : Type 0} {coded : Coded D} {tables : DeskTables} → PlacedDesk coded tables → DeskRight
right_to {D} {coded} {tables} p = right_at coded tables p.end p.desk

-- a right is the one to this desk
pub record IsRightTo {D : Type 0} (coded : Coded D) (tables : DeskTables) (right : DeskRight) (desk : D) : Type 0 where
  pub table : right.table ≡ table_at tables right.end
  pub code : right.code ≡ coded.code desk

abbrev pub is_host : End → Bool
is_host side.Host = true
is_host side.Remote = false

abbrev pub end_of_bool : Bool → End
end_of_bool true = side.Host
end_of_bool false = side.Remote

pub end_back : (e : End) → end_of_bool (is_host e) ≡ e
end_back side.Host = refl
end_back side.Remote = refl

-- the code of the desk of this end in its place, by its own
abbrev pub code_placed : End → Gv → Gv
code_placed end code = gcons code (coded_bool.code (is_host end))

module _ {D : Type 0} (coded : Coded D) (tables : DeskTables) where
  -- the code of a desk in its place
  abbrev pub placed_coded : Coded (PlacedDesk coded tables)
  placed_coded = coded_via (coded× coded coded_bool) (λ (p : PlacedDesk coded tables). (p.desk, is_host p.end))
      (λ x y e i. record { desk = (e i).0; end = (sym (end_back x.end) ∙ (ap (λ (t : D × Bool). end_of_bool t.1) e ∙ end_back y.end)) i })

  -- what a desk in its place does: what the desk does, and it stays in its place
  abbrev pub placed_meaning : DeskMeaning D → DeskMeaning (PlacedDesk coded tables)
  placed_meaning meaning = record {
    endpoints = λ p. meaning.endpoints p.desk;
    bindings = λ p. meaning.bindings p.desk;
    aim = λ p message. meaning.aim p.desk message;
    verdict = λ p number message. meaning.verdict p.desk number message;
    delivered = λ p number message. record p { desk = meaning.delivered p.desk number message };
    bind_answer = λ p address since. meaning.bind_answer p.desk address since;
    bound = λ p address since. record p { desk = meaning.bound p.desk address since };
    unbind_answer = λ p address. meaning.unbind_answer p.desk address;
    unbound = λ p address. record p { desk = meaning.unbound p.desk address };
    fresh = λ p. record p { desk = meaning.fresh p.desk };
  }
