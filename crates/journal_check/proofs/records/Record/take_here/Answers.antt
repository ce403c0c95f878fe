use Rattle.std.proofs.Common.{false, not, refl, sym, ap, subst, ◌∙◌, ◌≡◌, IfOk, Some}
use Rattle.std.specs.Option.{is_none}
use Rattle.std.proofs.lemmas.Result.{IfOk-weaker}
use Rattle.rp_base.specs.declared.kinds.End.{End}
use Rattle.journal_check.specs.Entries.{place_of}
use Rattle.journal_check.proofs.RecordFacts.{call_on, kept_on_host, kept_on_remote}
use Rattle.journal_check.proofs.records.Record.take_here.Goals as goal

pub returns-in-Some-Host-clause-rule : goal.returns-in-Some-Host-clause-rule
returns-in-Some-Host-clause-rule c = λ past kept.
    let ends = sym (c.end_of.ensures past kept) ∙ c.in-Some-Host.is ∙ ap (λ (e : End). Some e) c.in-Some-Host.field-0-is in
    let some : is_none c.args.self.now.incarnation ≡ false = ap not (c.is_none.ensures ∙ ap not c.if-is_none.false) in
    subst (λ least. IfOk c.take.result (λ rule. rule ≡ least)) (call_on c.args.line.now past c.args.caller _ c.args.self.now kept c.requires some ends) (c.take.ensures.rule _ kept.host)

pub returns-in-Some-Host-clause-kept : goal.returns-in-Some-Host-clause-kept
returns-in-Some-Host-clause-kept c = λ past kept.
    let line = c.args.line.now in
    let ends = sym (c.end_of.ensures past kept) ∙ c.in-Some-Host.is ∙ ap (λ (e : End). Some e) c.in-Some-Host.field-0-is in
    let some : is_none c.args.self.now.incarnation ≡ false = ap not (c.is_none.ensures ∙ ap not c.if-is_none.false) in
    IfOk-weaker c.take.result _ _ (λ rule on_side none. kept_on_host line past c.args.caller c.args.self.now _ kept c.requires some ends refl (on_side none))
    (c.take.ensures.kept _ (place_of line past) kept.host)

pub returns-in-Some-Remote-clause-rule : goal.returns-in-Some-Remote-clause-rule
returns-in-Some-Remote-clause-rule c = λ past kept.
    let ends = sym (c.end_of.ensures past kept) ∙ c.in-Some-Remote.is ∙ ap (λ (e : End). Some e) c.in-Some-Remote.field-0-is in
    let some : is_none c.args.self.now.incarnation ≡ false = ap not (c.is_none.ensures ∙ ap not c.if-is_none.false) in
    subst (λ least. IfOk c.take-in-Some-Remote.result (λ rule. rule ≡ least)) (call_on c.args.line.now past c.args.caller _ c.args.self.now kept c.requires some ends) (c.take-in-Some-Remote.ensures.rule _ kept.remote)

pub returns-in-Some-Remote-clause-kept : goal.returns-in-Some-Remote-clause-kept
returns-in-Some-Remote-clause-kept c = λ past kept.
    let line = c.args.line.now in
    let ends = sym (c.end_of.ensures past kept) ∙ c.in-Some-Remote.is ∙ ap (λ (e : End). Some e) c.in-Some-Remote.field-0-is in
    let some : is_none c.args.self.now.incarnation ≡ false = ap not (c.is_none.ensures ∙ ap not c.if-is_none.false) in
    IfOk-weaker c.take-in-Some-Remote.result _ _ (λ rule on_side none. kept_on_remote line past c.args.caller c.args.self.now _ kept c.requires some ends refl (on_side none))
    (c.take-in-Some-Remote.ensures.kept _ (place_of line past) kept.remote)
