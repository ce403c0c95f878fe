use Rattle.std.proofs.Common.{◌≡◌, ◌<◌, ℕ, zero, suc, [], ◌∷◌, length, refl, sym, ap, ◌∙◌, subst, arith}
use mathlib.Core.Option.{some, some-injective, some-ne-none}
use lib.ListN.{get_elem?}
use Rattle.rp_base.specs.declared.kinds.End.TheVariants as side
use Rattle.link_words.specs.declared.rule.Pass.{Pass}
use Rattle.link_words.specs.declared.codes.DeskRight.{DeskRight}
use Rattle.link_words.specs.declared.codes.DeskTables.{DeskTables}
use Rattle.link_words.specs.declared.rule.LinkSizes.{LinkSizes}
use Rattle.link_words.specs.DeskSeats.{code_in}
use Rattle.link_words.specs.Fresh.{sizes_for}
use Rattle.link_words.specs.declared.rule.View.{View}
use Rattle.link_words.specs.Calls.{SeatState}
use Rattle.link_words.specs.Layouts.{layout}
use Rattle.link_words.specs.declared.rule.Call.TheVariants.{Gathers}
use Rattle.link_words.specs.Passes.{Manages}
use Rattle.link_words.specs.Reopens.{ManagerAt}
use Rattle.link_words.specs.Sides.{no_sides}
use Rattle.link_words.specs.Words.{IsSized}
use Rattle.split_ring.specs.Openings.{opened_words, IsOpenable}
use Rattle.split_ring.proofs.Apart.{words_many}
use Rattle.split_ring.proofs.CarriedMakes.{no_blocks}
use Rattle.split_ring.proofs.Makes.{makes, code_is, has_entry, first_knows}
use Rattle.split_ring.proofs.Focusing.{one_order}
use Rattle.split_ring.proofs.links.SharedLink.make.Goals as goal

-- the one pass of a new link's manager has its number
first_alone : (place : ℕ) (q : Pass) → get_elem? (record { number = 64; call = Gathers no_sides no_sides; first = 0; own = []; hands = [] } ∷ []) place ≡ some q → q.number ≡ 64
first_alone zero q there = ap (λ (p : Pass). p.number) (sym (some-injective _ q there))
first_alone (suc k) q there = absurd (some-ne-none q (sym there))

pub new-requires : goal.new-requires
new-requires g c =
    let config = c.args.config in let desks : DeskTables = record { host = c.of.result; remote = c.of-2.result } in
    let z : LinkSizes = record { to_host = c.ring_sizes.result; to_remote = c.ring_sizes-2.result; book = config.book; first = c.first_of.result; desks = desks } in
    let sized : z ≡ sizes_for config desks = λ i. record { to_host = c.ring_sizes.ensures i; to_remote = c.ring_sizes-2.ensures i; book = config.book; first = c.first_of.ensures i; desks = desks } in
    let to_host : DeskRight = record { end = side.Host; table = c.into_badge-host_badge.result.table_id; code = code_in c.into_badge-host_badge.result.views } in
    let to_remote : DeskRight = record { end = side.Remote; table = c.into_badge-remote_badge.result.table_id; code = code_in c.into_badge-remote_badge.result.views } in
    let host_table = sym (ap (λ (b : _). b.table_id) c.of.ensures) in let remote_table = sym (ap (λ (b : _). b.table_id) c.of-2.ensures) in
    let host_code = code_is (g.row.D.coded.code c.args.host) c.in_ok-host.host.shared.table_id c.in_ok-host.host_seat.table_id c.in_ok-host.host_seat.me c.into_badge-host_badge.result.views c.in_ok-host.ensures c.into_badge-host_badge.ensures.2 in
    let remote_code = code_is (g.row.D.coded.code c.args.remote) c.in_ok-remote.remote.shared.table_id c.in_ok-remote.remote_seat.table_id c.in_ok-remote.remote_seat.me c.into_badge-remote_badge.result.views c.in_ok-remote.ensures c.into_badge-remote_badge.ensures.2 in
    let low : config.first < 4294967296 = subst (λ (k : ℕ). k < 4294967296) c.first_of.ensures c.first_of.type_inv in
    makes g.row.D.coded g.D.Desk.meaning config desks c.args.host c.args.remote z c.deref.result.now c.in_ok-slots.slots.items to_host to_remote c.opening_meets_rule.ensures c.requires.config low sized
    (c.deref.ensures.value ∙ c.in_ok-words.ensures) c.in_ok-slots.ensures
    (λ i. record { end = side.Host; table = host_table i; code = host_code i }) (λ i. record { end = side.Remote; table = remote_table i; code = remote_code i })
    (ap (λ (b : _). code_in b.views) c.of.ensures ∙ host_code) (ap (λ (b : _). code_in b.views) c.of-2.ensures ∙ remote_code)

pub invariant_of-result : goal.invariant_of-result
invariant_of-result g c =
    let config = c.args.config in let desks : DeskTables = record { host = c.of.result; remote = c.of-2.result } in
    let z : LinkSizes = record { to_host = c.ring_sizes.result; to_remote = c.ring_sizes-2.result; book = config.book; first = c.first_of.result; desks = desks } in
    let sized : z ≡ sizes_for config desks = λ i. record { to_host = c.ring_sizes.ensures i; to_remote = c.ring_sizes-2.ensures i; book = config.book; first = c.first_of.ensures i; desks = desks } in
    let opens : IsOpenable z = subst IsOpenable (sym sized) (record { to_host = (omega arith, omega arith, omega arith); to_remote = (omega arith, omega arith, omega arith) }) in
    let many : length c.deref.result.now ≡ length (layout (opened_words z)) = ap length (c.deref.ensures.value ∙ c.in_ok-words.ensures) in
    let enough = words_many z opens in let words = c.in-Ok.ensures.ok.0 in
    let host_table = ap (λ (b : _). b.table_id) c.of.ensures in let remote_table = ap (λ (b : _). b.table_id) c.of-2.ensures in
    record {
      fits = record {
        told = c.in-Ok.ensures.ok.5;
        wide = omega (arith, enough, many, words);
        sized = subst IsSized (sym sized) (record { to_host = (has_entry config.num0 c.requires.config.to_host, c.requires.config.to_host.1); to_remote = (has_entry config.num1 c.requires.config.to_remote, c.requires.config.to_remote.1) });
        opens = opens;
        book = c.requires.config.book.1;
        host_desk = (host_table ∙ (c.into_badge-host_badge.ensures.0 ∙ c.in_ok-host.ensures.at_table), c.in_ok-host.ensures.some);
        remote_desk = (remote_table ∙ (c.into_badge-remote_badge.ensures.0 ∙ c.in_ok-remote.ensures.at_table), c.in_ok-remote.ensures.some);
      };
    }

pub returns-in-Ok-clause-state : goal.returns-in-Ok-clause-state
returns-in-Ok-clause-state g c =
    let config = c.args.config in let desks : DeskTables = record { host = c.of.result; remote = c.of-2.result } in
    let z : LinkSizes = record { to_host = c.ring_sizes.result; to_remote = c.ring_sizes-2.result; book = config.book; first = c.first_of.result; desks = desks } in
    let sized : z ≡ sizes_for config desks = λ i. record { to_host = c.ring_sizes.ensures i; to_remote = c.ring_sizes-2.ensures i; book = config.book; first = c.first_of.ensures i; desks = desks } in
    let host_code = code_is (g.row.D.coded.code c.args.host) c.in_ok-host.host.shared.table_id c.in_ok-host.host_seat.table_id c.in_ok-host.host_seat.me c.into_badge-host_badge.result.views c.in_ok-host.ensures c.into_badge-host_badge.ensures.2 in
    let remote_code = code_is (g.row.D.coded.code c.args.remote) c.in_ok-remote.remote.shared.table_id c.in_ok-remote.remote_seat.table_id c.in_ok-remote.remote_seat.me c.into_badge-remote_badge.result.views c.in_ok-remote.ensures c.into_badge-remote_badge.ensures.2 in
    record {
      known = first_knows g.row.D.coded config desks c.args.host c.args.remote z c.in-Ok.seat.me.0 sized (ap (λ (s : SeatState). s.0) c.in-Ok.ensures.ok.4)
          (ap (λ (b : _). code_in b.views) c.of.ensures ∙ host_code) (ap (λ (b : _). code_in b.views) c.of-2.ensures ∙ remote_code);
      users = refl;
    }

pub returns-in-Ok-clause-manager : goal.returns-in-Ok-clause-manager
returns-in-Ok-clause-manager g c =
    let ok = c.in-Ok.ensures.ok in let view = ap (λ (s : SeatState). s.0) ok.4 in record {
      at_table = ok.2;
      manages = subst Manages (sym view) (0, _, refl, refl);
      rests = subst (λ (s : SeatState). ManagerAt s (Gathers no_sides no_sides)) (sym ok.4) (record { mover = record { place = 0; pass = _; here = refl }; here = refl; number = refl; in_call = refl });
      knows = ap (λ (v : View). v.users) view;
      told = ap (λ (v : View). v.sizes) view;
      order = one_order c.in-Ok.seat.me.0 _ (ap (λ (v : View). v.passes) view)
          (λ manages out k was place q there other. absurd (other (first_alone place q (subst (λ (v : View). get_elem? v.passes place ≡ some q) view there))));
      blocks = no_blocks c.in-Ok.seat.me (ap (λ (s : SeatState). s.1) ok.4);
    }
