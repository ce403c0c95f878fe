use Rattle.std.proofs.Common.{◌≡◌, ap, sym, ◌∙◌, map, true, false, is_some, None}
use Rattle.std.specs.Option.{option_copied_mut}
use Rattle.std.specs.Map.{lookup}
use Rattle.name_service.specs.Channels.{Key, is_same_key, has_channel, with_endpoint}
use Rattle.name_service.specs.Tables.{channel_of}
use Rattle.name_service.proofs.Entries.{found_is, written_is}
use Rattle.name_service.proofs.channels.Channels.set.Goals as goal
use Rattle.name_service.proofs.channels.Channels.set.Goals.{in-Some, in_default}

pub returns : goal.returns
returns c =
    let key : Key = (c.args.name.now, c.args.address) in
    elim c.match-get_mut.branch [
      | in-Some w ↦
          ap (λ inside. map channel_of inside.channels.entries) w.self-inside-is
          ∙ ap (map channel_of) (c.get_mut.follows.holds c.args.endpoint).0
          ∙ written_is key c.args.endpoint c.self.inside.channels.entries
          ∙ ap (with_endpoint key c.args.endpoint) c.self.view_is
      | in_default w ↦
          let none : lookup (is_same_key key) c.self.inside.channels.entries ≡ None = sym c.get_mut.ensures.value ∙ ap option_copied_mut w.in_default.is in
          let gone : has_channel key c.args.self.now ≡ false = sym (ap (has_channel key) c.self.view_is) ∙ sym (found_is key c.self.inside.channels.entries) ∙ ap is_some none in
          let no : true ≡ false = sym c.requires ∙ gone in
          absurd cc
    ]
