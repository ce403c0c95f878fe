-- The desk of the ends of a link that is tested: it has no endpoint (own).
use Rattle.std.specs.Prelude.{◌≡◌, ℕ, Bool, true, false, List, [], length, Option, None, is_some, Result, Err, is_ok}
use Rattle.std.proofs.Common.{refl, ap, inl}
use Rattle.std.proofs.lemmas.Bool.{false≢true}
use Rattle.rp_base.specs.declared.kinds.Endpoint.{Endpoint}
use Rattle.rp_base.specs.declared.kinds.Verdict.{Verdict}
use Rattle.rp_base.specs.declared.kinds.Verdict.TheVariants as verdict
use Rattle.rp_base.specs.declared.kinds.BindFault.TheVariants as fault
use Rattle.lane_model.specs.Desks.{DeskMeaning, KeepsEndpoints, AreDeskLaws}
use Rattle.library_tests.specs.declared.desks.TestDesk.{TestDesk}

-- a desk that drops every message, with its length in place of an address, and refuses every binding
abbrev pub test_desk : DeskMeaning TestDesk
test_desk = record {
  endpoints = λ desk. [];
  bindings = λ desk. 0;
  aim = λ desk message. None;
  verdict = λ desk number message. verdict.Dropped (length message);
  delivered = λ desk number message. desk;
  bind_answer = λ desk address since. Err fault.EndpointsFull;
  bound = λ desk address since. desk;
  unbind_answer = λ desk address. Err (fault.NotBound address);
  unbound = λ desk address. desk;
  fresh = λ desk. desk;
}

-- a verdict that sends a message to an endpoint
abbrev pub is_to : Verdict → Bool
is_to (verdict.To endpoint) = true
is_to (verdict.Dropped dst) = false
is_to verdict.Malformed = false
is_to (verdict.Service what name address endpoint) = false
is_to verdict.ServiceMalformed = false

-- nothing changes at this desk, so who is bound stays bound
pub test_keeps : (desk : TestDesk) → KeepsEndpoints test_desk desk desk
test_keeps desk = record { everywhere = λ address. refl; counted = refl }

-- the laws of a desk hold
pub test_laws : AreDeskLaws test_desk
test_laws = record {
  to = λ desk number message endpoint same. absurd (false≢true (ap is_to same));
  addressed = λ desk number message endpoint same. absurd (false≢true (ap is_some same));
  delivered = λ desk number message. inl (inl (test_keeps desk));
  bound = λ desk address since. inl (test_keeps desk);
  unbound = λ desk address. inl (test_keeps desk);
  delivered_aim = λ desk number message other. refl;
  bound_aim = λ desk address since other. refl;
  unbound_aim = λ desk address other. refl;
  fresh_aim = λ desk other. refl;
  fresh = λ desk. record { endpoints = refl; bindings = refl };
  answered = λ desk address since endpoint same. absurd (false≢true (ap is_ok same));
}
