-- The manager knows the state behind the close; one that is refused leaves it.
use Rattle.std.proofs.Common.{false, sym, subst}
use Rattle.lane_model.specs.Recoveries.{link_after_close}
use Rattle.managed_link.specs.Known.{LinkRings}
use Rattle.managed_link.specs.Managed.{IsManaged, ShowsViews}
use Rattle.managed_link.proofs.KnownStates.{at_known, state_behind}
use Rattle.managed_link.proofs.Closes.{managed_closed, shows_closed, refused_stays}
use Rattle.managed_link.proofs.links.ManagedLink.close.Goals as goal

pub invariant_of-self : goal.invariant_of-self
invariant_of-self c =
    let s = c.self.inside in let m = s.known.0 in let inc = c.args.inc in let after = c.close_by.new.manager in let told = c.in-Ok.ensures.state m c.self.invariant.0.state in
    at_known (λ (x : LinkRings). IsManaged s.shared after s.calls.items s.host s.remote x × ShowsViews (record s.era { is_live = false }) s.to_host s.to_remote x) after (link_after_close m inc) told.0 (
      managed_closed s.shared s.manager after s.calls.items s.host s.remote m inc c.close_by.ensures.manager.0 told.0 (λ who p. c.close_by.ensures.others who p) c.self.invariant.0,
      shows_closed s.era s.to_host s.to_remote m inc told.1 c.self.invariant.1,
    ) _ (assumption)

pub invariant_of-self-inside-in-Err-1 : goal.invariant_of-self-inside-in-Err-1
invariant_of-self-inside-in-Err-1 c =
    let m = c.self.inside.known.0 in let told = c.close_by.ensures.state m c.self.invariant.0.state in ((link_after_close m c.args.inc, told.0.known.copy), tt)

pub invariant_of-self-in-Err : goal.invariant_of-self-in-Err
invariant_of-self-in-Err c =
    let s = c.self.inside in let m = s.known.0 in let inc = c.args.inc in let after = c.close_by.new.manager in let told = c.in-Err.ensures.state m c.self.invariant.0.state in
    at_known (λ (x : LinkRings). IsManaged s.shared after s.calls.items s.host s.remote x × ShowsViews s.era s.to_host s.to_remote x) after (link_after_close m inc) told.0 (
      managed_closed s.shared s.manager after s.calls.items s.host s.remote m inc c.close_by.ensures.manager.0 told.0 (λ who p. c.close_by.ensures.others who p) c.self.invariant.0,
      subst (λ (x : LinkRings). ShowsViews s.era s.to_host s.to_remote x) (sym (refused_stays m inc told.1.1)) c.self.invariant.1,
    ) _ (assumption)

pub returns-in-Ok-clause-whole : goal.returns-in-Ok-clause-whole
returns-in-Ok-clause-whole c = let m = c.self.inside.known.0 in
    state_behind (λ x. link_after_close x c.args.inc) c.close_by.new.manager m c.args.self.now _ (c.close_by.ensures.state m c.self.invariant.0.state).0 c.self.view_is (assumption)

pub returns-in-Err-clause-whole : goal.returns-in-Err-clause-whole
returns-in-Err-clause-whole c = let m = c.self.inside.known.0 in
    state_behind (λ x. link_after_close x c.args.inc) c.close_by.new.manager m c.args.self.now _ (c.close_by.ensures.state m c.self.invariant.0.state).0 c.self.view_is (assumption)
