-- What is asked may be wished.
use Rattle.lane_model.specs.declared.calls.Ask.{Ask}
use Rattle.lane_model.specs.declared.calls.Ask.TheVariants as ask
use Rattle.lane_model.specs.Answers.{wish_of}
use Rattle.link_words.specs.Calls.{SeatState}
use Rattle.link_words.specs.Steps.{IsFit}
use Rattle.split_ring.specs.declared.callers.CallerId.{CallerId}
use Rattle.split_ring.specs.Calls.{IsOwnAsk, IsShort}
use Rattle.split_ring.specs.Seats.{pass_in}

pub fits : (who : CallerId) (asked : Ask) (me : SeatState) → IsShort (wish_of asked) → IsOwnAsk who asked me → IsFit (wish_of asked) (pass_in me).hands
fits who (ask.Send message) me short own = short
fits who ask.Take me short own = tt
fits who (ask.Give held) me short own = own.numbered
fits who (ask.Bind address) me short own = tt
fits who (ask.Unbind address) me short own = tt
