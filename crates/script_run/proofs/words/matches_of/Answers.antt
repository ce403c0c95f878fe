use Rattle.std.proofs.Common.{◌≡◌, ◌∙◌, Option, Some, None, ap, ap₂, length, arith, ◌≤◌, sym, rules, true, false, map, codes}
use Rattle.std.specs.List.{list_any}
use Rattle.std.proofs.lemmas.List.{length-map}
use Rattle.clap.specs.Lexer.{usize_max}
use Rattle.std.specs.Option.{IsSomeAnd}
use Rattle.clap.specs.declared.builder.range.ValueRange.{ValueRange}
use Rattle.std.proofs.lemmas.Result.{IfErr-weaker, IfOk-weaker}
use Rattle.clap.specs.Words.{App, Rule, all_of, app_of, first_of, found_of, is_simple, rule_of, takes, with_rule, new_app}
use Rattle.clap.specs.Simple.{app_of_fields, matches_of, on_top}
use Rattle.clap.specs.declared.builder.command.Command.TheOpen.{Command-F}
use Rattle.clap.specs.declared.builder.command.Command.{Command}
use Rattle.clap.proofs.WalkLemmas.{first_value-rows, list_any-map, raw_values-rows}
use Rattle.script_run.specs.Requests.{begins_with_dash}
use Rattle.script_run.proofs.Matches.{app, args, several, args_are, job, job_is, words_are_taken}
use Rattle.script_run.proofs.words.matches_of.Goals as goal

ranged : (range : Option ValueRange) (P : ValueRange → Type 0) → ((r : ValueRange) → P r → r ≡ several) → IsSomeAnd range P → range ≡ Some several
ranged None P only is = elim is [ ]
ranged (Some r) P only is = ap (λ (x : ValueRange). Some x) (only r is)

command_is : (c : goal.After-try_get_matches_from) → app_of c.in_ok-command.command ≡ app
command_is c =
    let job_rule : rule_of c.new-job.result ≡ job = search rules in
    let is_ranged = ranged c.num_args-args.result.num_vals _ (λ r e. e) c.num_args-args.ensures.1 in
    let args_rule : rule_of c.num_args-args.result ≡ args =
    ap rule_of c.num_args-args.ensures.0
    ∙ ap (λ (range : Option ValueRange). record (rule_of c.new.result) { range = range }) is_ranged
    ∙ ap (λ (r : Rule). record r { range = Some several }) c.new.ensures.rule in
    let bare : app_of c.disable_help_flag.result ≡ on_top (λ s. record s { no_binary_name = true; disable_help_flag = true }) (new_app (codes "rproc")) =
    ap app_of_fields c.disable_help_flag.ensures
    ∙ ap (λ (f : Command-F Command). app_of_fields (record f { disable_help_flag = true })) c.no_binary_name.ensures
    ∙ ap (on_top (λ s. record s { no_binary_name = true; disable_help_flag = true })) c.new-2.ensures.app in
    c.in_ok-command.ensures.shape (search rules) ∙ ap₂ with_rule (c.in_ok-arg.ensures.shape (search rules) ∙ ap₂ with_rule bare job_rule) args_rule

are_plain : (c : goal.After-try_get_matches_from) → list_any begins_with_dash (map (λ word. word.now) c.args.words.now) ≡ false
are_plain c = sym (list_any-map begins_with_dash (λ word. word.now) c.args.words.now) ∙ c.requires.plain

pub returns-clause-matched : goal.returns-clause-matched
returns-clause-matched c =
    let words = map (λ word. word.now) c.args.words.now in
    let is = command_is c in
    IfOk-weaker c.try_get_matches_from.result _ _ (λ m h.
    let rows = (h (ap is_simple is)).0 ∙ ap (λ (a : App). matches_of a words) is in
    record {
      job = first_value-rows (found_of m) (codes "JOB") ∙ ap (first_of (codes "JOB")) rows ∙ job_is words (are_plain c);
      args = raw_values-rows (found_of m) (codes "ARGS") ∙ ap (all_of (codes "ARGS")) rows ∙ args_are words (are_plain c);
    }) c.try_get_matches_from.ensures.matches

pub returns-clause-memory : goal.returns-clause-memory
returns-clause-memory c =
    let words = map (λ word. word.now) c.args.words.now in
    let fits : length words ≤ usize_max = omega (arith, length-map c.args.words.now (λ word. word.now)) in
    IfErr-weaker c.try_get_matches_from.result _ _ (λ e h. h (ap (λ (a : App). takes a words) (command_is c) ∙ words_are_taken words (are_plain c) fits)) c.try_get_matches_from.ensures.passes
