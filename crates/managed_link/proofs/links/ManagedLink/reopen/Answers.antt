-- Where nothing refuses the reopening only memory may be wanting, and the state stays then; else it is the next incarnation's.
use Rattle.std.proofs.Common.{◌≡◌, ◌+◌, ℕ, None, true, refl, sym, ap, subst, ◌∙◌, inr}
use Rattle.std.proofs.lemmas.Result.{err_from_is_err_and}
use Rattle.lane_model.specs.Recoveries.{link_after_reopen, link_reopen_refusal}
use Rattle.managed_link.specs.declared.views.LaneView.{LaneView}
use Rattle.managed_link.specs.Known.{LinkRings, lists_of, on_rings}
use Rattle.managed_link.specs.Managed.{IsManaged, IsOfCaller, ShowsViews}
use Rattle.managed_link.proofs.KnownStates.{at_known, state_behind}
use Rattle.managed_link.proofs.Reopenings.{managed_reopened, only_memory}
use Rattle.managed_link.proofs.SameLanes.{managed_kept}
use Rattle.managed_link.proofs.links.ManagedLink.reopen.Goals as goal

pub invariant_of-self : goal.invariant_of-self
invariant_of-self c =
    let s = c.self.inside in let m = s.known.0 in let after = c.reopen.new.manager in let told = c.in_err-books.ensures.state m c.self.invariant.0.state in
    at_known (λ (x : LinkRings). IsManaged s.shared after s.calls.items s.host s.remote x × ShowsViews s.era s.to_host s.to_remote x) after m told.1 (
      managed_kept s.shared s.manager after s.calls.items s.host s.remote m m c.reopen.ensures.manager.0 told.1 c.self.invariant.0.sound (record { to_host = refl; to_remote = refl }) refl (λ who p. c.reopen.ensures.others who p) c.self.invariant.0,
      c.self.invariant.1,
    ) _ (assumption)

pub returns-in_err-books-clause-refused : goal.returns-in_err-books-clause-refused
returns-in_err-books-clause-refused c =
    let m = c.self.inside.known.0 in let told = c.in_err-books.ensures.state m c.self.invariant.0.state in
    let clear : link_reopen_refusal (lists_of c.args.self.now) ≡ None = sym c.reopen_refusal.ensures ∙ c.in_default.is in
    let clear_in : link_reopen_refusal (lists_of m) ≡ None = ap (λ (x : LinkRings). link_reopen_refusal (lists_of x)) c.self.view_is ∙ clear in
    let p = err_from_is_err_and c.from_residual.result c.from_residual.ensures.1 in
    rw (p.1, p.2) (state_behind (λ x. x) c.reopen.new.manager m c.args.self.now _ told.1 c.self.view_is (assumption), inr (only_memory (link_reopen_refusal (lists_of m)) c.in_err-books.field-0.0 clear_in told.0, clear))

pub invariant_of-self-inside-2 : goal.invariant_of-self-inside-2
invariant_of-self-inside-2 c =
    let m = c.self.inside.known.0 in let told = c.in_ok-books.ensures.state m c.self.invariant.0.state in ((link_after_reopen on_rings m, told.3.known.copy), tt)

pub invariant_of-self-2 : goal.invariant_of-self-2
invariant_of-self-2 c =
    let s = c.self.inside in let m = s.known.0 in let after = c.reopen.new.manager in let told = c.in_ok-books.ensures.state m c.self.invariant.0.state in
    at_known (λ (x : LinkRings). IsManaged s.shared after s.calls.items s.host s.remote x × ShowsViews (record { inc = c.in_ok-books.books.inc + 1; is_live = true }) c.new-self-inside.result c.new-self-inside-2.result x) after (link_after_reopen on_rings m) told.3 (
      managed_reopened s.shared s.manager after s.calls.items s.host s.remote m told.0 c.reopen.ensures.manager.0 told.3 (λ who p. c.reopen.ensures.others who p) c.self.invariant.0,
      record { era_is = ap (λ (n : ℕ). record { inc = n + 1; is_live = true }) told.1; host_is = c.new-self-inside.ensures; remote_is = c.new-self-inside-2.ensures; receivers = (subst (λ (v : LaneView). IsOfCaller v.receiver) (sym c.new-self-inside.ensures) tt, subst (λ (v : LaneView). IsOfCaller v.receiver) (sym c.new-self-inside-2.ensures) tt) },
    ) _ (assumption)

pub returns-clause-whole : goal.returns-clause-whole
returns-clause-whole c = let m = c.self.inside.known.0 in
    state_behind (λ x. link_after_reopen on_rings x) c.reopen.new.manager m c.args.self.now _ (c.in_ok-books.ensures.state m c.self.invariant.0.state).3 c.self.view_is (assumption)
