use Rattle.std.proofs.Common.{◌≡◌, true, false, None, OnOk, refl, ap, sym, ◌∙◌, subst}
use Rattle.std.proofs.lemmas.Bool.{le-leb, lt-leb}
use Rattle.std.specs.Map.{lookup}
use Rattle.indexmap.specs.IndexMap.{insert_entry}
use Rattle.indexmap.proofs.CallerLemmas.{insert_entry-new}
use Rattle.rp_base.specs.declared.limits.TheConstants.{CHANNELS_MOST}
use Rattle.name_service.specs.Channels.{Key, key_in, is_same_key, is_full, has_channel}
use Rattle.name_service.proofs.Entries.{there_is, full_is, none_of, made_is, made_is_there, kind_is, left_is, without_none}
use Rattle.name_service.proofs.channels.Channels.apply.Goals as goal

pub returns-then-ns-clause-kind : goal.returns-then-ns-clause-kind
returns-then-ns-clause-kind c =
    let there = there_is (key_in c.args.ns.now) c.self.inside.channels.entries c.args.self.now true c.self.view_is (sym c.contains_key-is_there.ensures ∙ c.if-not-is_there.false) in
    kind_is c.args.self.now c.args.ns.now true true (is_full c.args.self.now) c.if-ns.true there refl

pub returns-then-not-is_there-clause-kind : goal.returns-then-not-is_there-clause-kind
returns-then-not-is_there-clause-kind c =
    let there = there_is (key_in c.args.ns.now) c.self.inside.channels.entries c.args.self.now false c.self.view_is (sym c.contains_key-is_there.ensures ∙ c.if-not-is_there.true) in
    kind_is c.args.self.now c.args.ns.now true false (is_full c.args.self.now) c.if-ns.true there refl

pub returns-then-not-is_there-clause-left : goal.returns-then-not-is_there-clause-left
returns-then-not-is_there-clause-left c =
    let there = there_is (key_in c.args.ns.now) c.self.inside.channels.entries c.args.self.now false c.self.view_is (sym c.contains_key-is_there.ensures ∙ c.if-not-is_there.true) in
    sym (without_none (key_in c.args.ns.now) c.args.self.now there)
    ∙ left_is c.args.self.now c.args.ns.now true false (is_full c.args.self.now) c.if-ns.true there refl

pub returns-then-is_there-clause-kind : goal.returns-then-is_there-clause-kind
returns-then-is_there-clause-kind c =
    let there = there_is (key_in c.args.ns.now) c.self.inside.channels.entries c.args.self.now true c.self.view_is (sym c.contains_key-is_there.ensures ∙ c.if-is_there.true) in
    kind_is c.args.self.now c.args.ns.now false true (is_full c.args.self.now) c.if-ns.false there refl

pub returns-then-is_there-clause-left : goal.returns-then-is_there-clause-left
returns-then-is_there-clause-left c =
    let there = there_is (key_in c.args.ns.now) c.self.inside.channels.entries c.args.self.now true c.self.view_is (sym c.contains_key-is_there.ensures ∙ c.if-is_there.true) in
    left_is c.args.self.now c.args.ns.now false true (is_full c.args.self.now) c.if-ns.false there refl

pub returns-then-len-ge-CHANNELS_MOST-clause-kind : goal.returns-then-len-ge-CHANNELS_MOST-clause-kind
returns-then-len-ge-CHANNELS_MOST-clause-kind c =
    let there = there_is (key_in c.args.ns.now) c.self.inside.channels.entries c.args.self.now false c.self.view_is (sym c.contains_key-is_there.ensures ∙ c.if-is_there.false) in
    let full = sym (full_is c.self.inside.channels.entries c.args.self.now c.len.result c.self.view_is c.len.ensures.len) ∙ le-leb CHANNELS_MOST c.len.result c.if-len-ge-CHANNELS_MOST.true in
    kind_is c.args.self.now c.args.ns.now false false true c.if-ns.false there full

pub returns-clause-kind : goal.returns-clause-kind
returns-clause-kind c =
    let there = there_is (key_in c.args.ns.now) c.self.inside.channels.entries c.args.self.now false c.self.view_is (sym c.contains_key-is_there.ensures ∙ c.if-is_there.false) in
    let full = sym (full_is c.self.inside.channels.entries c.args.self.now c.len.result c.self.view_is c.len.ensures.len) ∙ lt-leb CHANNELS_MOST c.len.result c.if-len-ge-CHANNELS_MOST.false in
    kind_is c.args.self.now c.args.ns.now false false false c.if-ns.false there full

pub returns-clause-left : goal.returns-clause-left
returns-clause-left c =
    let key : Key = key_in c.args.ns.now in
    let entries = c.self.inside.channels.entries in
    let gone = sym c.contains_key-is_there.ensures ∙ c.if-is_there.false in
    let there = there_is key entries c.args.self.now false c.self.view_is gone in
    let full = sym (full_is entries c.args.self.now c.len.result c.self.view_is c.len.ensures.len) ∙ lt-leb CHANNELS_MOST c.len.result c.if-len-ge-CHANNELS_MOST.false in
    let is = c.insert.new.self.entries ≡ insert_entry is_same_key entries key None in
    let inserted : is = subst (λ r. OnOk r is) c.unwrap.ensures c.insert.ensures.entries in
    let behind = inserted ∙ insert_entry-new is_same_key c.self.inside.channels key None (none_of (lookup (is_same_key key) entries) gone) in
    made_is key entries c.insert.new.self.entries c.args.self.now c.self.view_is behind
    ∙ left_is c.args.self.now c.args.ns.now false false false c.if-ns.false there full

pub returns-clause-made : goal.returns-clause-made
returns-clause-made c =
    let key : Key = key_in c.args.ns.now in
    let entries = c.self.inside.channels.entries in
    let gone = sym c.contains_key-is_there.ensures ∙ c.if-is_there.false in
    let is = c.insert.new.self.entries ≡ insert_entry is_same_key entries key None in
    let inserted : is = subst (λ r. OnOk r is) c.unwrap.ensures c.insert.ensures.entries in
    let behind = inserted ∙ insert_entry-new is_same_key c.self.inside.channels key None (none_of (lookup (is_same_key key) entries) gone) in
    λ _. ap (has_channel key) (made_is key entries c.insert.new.self.entries c.args.self.now c.self.view_is behind) ∙ made_is_there key c.args.self.now
