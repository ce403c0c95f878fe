-- The account of a link: its own way since its last opening, and what was told of takes at an end of it since then (own).
use Rattle.std.specs.Prelude.{◌≡◌, ◌≤◌, ℕ, Bool, true, false, List, [], ◌∷◌, ◌++◌, length, if◌then◌else◌}
use Rattle.rp_base.specs.declared.kinds.BoundEndpoint.{BoundEndpoint}
use Rattle.rp_base.specs.declared.kinds.End.{End}
use Rattle.lane_model.specs.Desks.{IsBound}
use Rattle.lane_model.specs.Links.{LinkState}
use Rattle.lane_laws.specs.Handings.{Handing, IsPrefix, due, got, handed_front, messages_of, with_numbers}
use Rattle.lane_laws.specs.Moves.{Close, Move, handings_to, lane_to}
use Rattle.lane_laws.specs.Takes.{IsTold, way_takes}
use Rattle.lane_laws.specs.Ways.{IsWay, WasBoundOnWay, Way, history, link_of_way, way_on}
use Rattle.channel_bus.specs.Sides.{EndState, side_meaning}
use Rattle.act_laws.specs.Deeds.{Deeds}

-- the way of a link since its last opening, the handings of which takers were told at an end since then, and those of them that were told once the link was closed
pub record Account : Type 0 where
  pub way : Way EndState
  pub told : List Handing
  pub late : List Handing

-- an account that begins with this link
abbrev pub new_account : LinkState EndState → Account
new_account link = record { way = record { start = link; moves = [] }; told = []; late = [] }

-- deeds on a link, which was live before them or closed
abbrev pub with_deeds : End → Bool → Account → Deeds → Account
with_deeds end is_live account deeds = record {
  way = way_on account.way deeds.moves;
  told = account.told ++ deeds.takes end;
  late = if is_live then [] else account.late ++ deeds.takes end;
}

-- a way, and after it the close of this incarnation
abbrev pub way_to_close : Way EndState → ℕ → Way EndState
way_to_close before inc = way_on before (Close inc ∷ [])

-- what was told at an end of a closed link since it was closed: there is the way up to the close itself, before which the link was live, nothing was handed over since, all that is told was handed over before, and one take at most was told since
pub record IsLate (end : End) (account : Account) : Type 0 where
  pub before : Way EndState
  pub inc : ℕ
  pub since : List Move
  pub live : (link_of_way side_meaning before).era.is_live ≡ true
  pub closed : (link_of_way side_meaning (way_to_close before inc)).era.is_live ≡ false
  pub parts : account.way ≡ way_on (way_to_close before inc) since
  pub told : account.told ≡ way_takes side_meaning (way_to_close before inc) end ++ account.late
  pub hands_none : handings_to (history side_meaning account.way) end ≡ handings_to (history side_meaning (way_to_close before inc)) end
  pub handed_before : IsPrefix account.told (handings_to (history side_meaning (way_to_close before inc)) end)
  pub one : length account.late ≤ 1

-- the account of a link: its way is one from its last opening on and leads to it; what the way handed over at this end is the first messages of the book, each once and in order, and an endpoint that is bound got from a sender all that is due to it of these; what takers were told at this end is what was handed over there on the way, but what a taker in its last step is yet to tell, or one that was reclaimed in a closed incarnation; so it is how the book begins, each message once and in order, and to an endpoint from a sender how that begins which is due to it
pub record IsAccount (end : End) (link : LinkState EndState) (account : Account) : Type 0 where
  pub way : IsWay side_meaning account.way
  pub leads : link_of_way side_meaning account.way ≡ link
  pub handed : messages_of (handings_to (history side_meaning account.way) end) ≡ with_numbers 0 (handed_front (lane_to link end).lane)
  pub whole : (bound : BoundEndpoint) (sender : ℕ) → IsBound side_meaning (lane_to link end).desk bound
      → got bound.endpoint sender (handings_to (history side_meaning account.way) end) ≡ due side_meaning (lane_to link end).desk bound sender (handed_front (lane_to link end).lane)
  pub told : IsTold end (history side_meaning account.way) account.told
  pub once : IsPrefix (messages_of account.told) (with_numbers 0 (handed_front (lane_to link end).lane))
  pub due : (bound : BoundEndpoint) (sender : ℕ) → WasBoundOnWay side_meaning account.way end bound
      → IsPrefix (got bound.endpoint sender account.told) (due side_meaning (lane_to link end).desk bound sender (lane_to link end).lane.accepted)
  pub none_late : link.era.is_live ≡ true → account.late ≡ []
  pub late : link.era.is_live ≡ false → IsLate end account
