-- What a caller wishes, by what its first step is given of it (own).
use Rattle.lane_model.specs.declared.calls.Wish.{Wish}
use Rattle.lane_model.specs.declared.calls.Wish.TheVariants as wish
use Rattle.link_words.specs.declared.intents.IntentKind.{IntentKind}
use Rattle.link_words.specs.declared.intents.IntentKind.TheVariants as kind

abbrev pub wish_with : IntentKind → Wish
wish_with (kind.Send message) = wish.Send message.value
wish_with kind.Take = wish.Take
wish_with (kind.Give number) = wish.Give number
wish_with (kind.Bind address) = wish.Bind address
wish_with (kind.Unbind address) = wish.Unbind address
