-- When names, callers, lifelines and ends of arrows are one (own).
use Rattle.std.specs.Prelude.{ℕ, Bool, true, false, ◌==◌, ◌&&◌, List, bytes_eq}
use mathlib.Core.Bool.{beq}
use Rattle.rp_base.specs.Texts.{padded_name}
use Rattle.chart.specs.declared.keys.Side.{Side}
use Rattle.chart.specs.declared.keys.Side.TheVariants as side
use Rattle.chart.specs.declared.keys.Lifeline.{Lifeline}
use Rattle.chart.specs.declared.keys.Caller.{Caller}
use Rattle.chart.specs.declared.keys.Message.{Message}
use Rattle.chart.specs.declared.keys.ArrowEnd.{ArrowEnd}

-- names are one where the fields that hold them are
abbrev pub is_same_name : List ℕ → List ℕ → Bool
is_same_name one other = bytes_eq (padded_name one) (padded_name other)

abbrev pub is_same_side : Side → Side → Bool
is_same_side side.Host side.Host = true
is_same_side side.Own side.Own = true
is_same_side side.Remote side.Remote = true
is_same_side one other = false

abbrev pub is_same_caller : Caller → Caller → Bool
is_same_caller one other = is_same_name one.name other.name && one.number == other.number

abbrev pub is_same_lifeline : Lifeline → Lifeline → Bool
is_same_lifeline one other = is_same_name one.name other.name && (is_same_side one.side other.side && one.caller == other.caller)

abbrev pub is_same_message : Message → Message → Bool
is_same_message one other =
    is_same_name one.name other.name && (one.incarnation == other.incarnation && (one.lane == other.lane && one.number == other.number))

abbrev pub is_same_arrow_end : ArrowEnd → ArrowEnd → Bool
is_same_arrow_end one other = is_same_message one.message other.message && beq one.is_sent other.is_sent
