-- The side states that the manager has of a lane: they stand where the lane moves without them.
use Rattle.std.proofs.Common.{◌≡◌, true, false, refl, sym, ap, ◌∙◌}
use Rattle.std.specs.Prelude.{Option, Some, None}
use Rattle.lane_model.specs.declared.stages.Turn.TheVariants as turn
use Rattle.link_words.specs.declared.rule.LaneSides.{LaneSides}
use Rattle.link_words.specs.declared.rule.SenderSide.{SenderSide}
use Rattle.link_words.specs.declared.rule.ReceiverSide.{ReceiverSide}
use Rattle.link_words.specs.Sides.{no_sides, is_there}
use Rattle.link_words.specs.Parts.{HasGathered}
use Rattle.link_words.specs.Turns.{LaneTurns}

none_some : {A : Type 0} (x : A) → None ≡ Some x → ⊥
none_some x e = absurd (cc)

false-true : false ≡ true → ⊥
false-true e = absurd (cc)

abbrev or_else : {A : Type 0} → A → Option A → A
or_else a None = a
or_else a (Some b) = b

pub some_one : {A : Type 0} (x y : A) → Some x ≡ Some y → x ≡ y
some_one {A} x y e = ap (λ (o : Option A). or_else x o) e

pub there : {A : Type 0} (o : Option A) → is_there o ≡ true → (x : A) × (o ≡ Some x)
there None never = absurd (false-true never)
there (Some x) is = (x, refl)

-- none of a lane
pub gathered_none : (lane : LaneTurns) → HasGathered lane no_sides
gathered_none lane = record { sender = λ x is. absurd (none_some x is); receiver = λ x is. absurd (none_some x is) }

-- where the sender's end moves, whose turn the manager doesn't have
pub gathered_send : (old new : LaneTurns) (g : LaneSides) → (old.sender ≡ turn.Manager → ⊥) → new.receiver ≡ old.receiver → new.receiver_side ≡ old.receiver_side → HasGathered old g → HasGathered new g
gathered_send old new g never receiver beside has = record {
  sender = λ x is. absurd (never (has.sender x is).0);
  receiver = λ x is. let h = has.receiver x is in (receiver ∙ h.0, h.1 ∙ sym beside);
}

-- where the receiver's end moves, whose side state the manager doesn't have
pub gathered_receive : (old new : LaneTurns) (g : LaneSides) → (is_there g.receiver ≡ true → ⊥) → new.sender ≡ old.sender → new.sender_side ≡ old.sender_side → HasGathered old g → HasGathered new g
gathered_receive old new g never sender beside has = record {
  sender = λ x is. let h = has.sender x is in (sender ∙ h.0, h.1 ∙ sym beside);
  receiver = λ x is. absurd (never (ap is_there is));
}

-- the manager takes the sender's turn with its side state, or leaves it
pub gathered_sender : (old new : LaneTurns) (g : LaneSides) (x : SenderSide) → new.sender ≡ turn.Manager → x ≡ new.sender_side → new.receiver ≡ old.receiver → new.receiver_side ≡ old.receiver_side → HasGathered old g → HasGathered new (record g { sender = Some x })
gathered_sender old new g x held is receiver beside has = record {
  sender = λ y same. (held, sym (some_one x y same) ∙ is);
  receiver = λ y same. let h = has.receiver y same in (receiver ∙ h.0, h.1 ∙ sym beside);
}

pub left_sender : (old new : LaneTurns) (g : LaneSides) → new.receiver ≡ old.receiver → new.receiver_side ≡ old.receiver_side → HasGathered old g → HasGathered new (record g { sender = None })
left_sender old new g receiver beside has = record {
  sender = λ y same. absurd (none_some y same);
  receiver = λ y same. let h = has.receiver y same in (receiver ∙ h.0, h.1 ∙ sym beside);
}

-- the same of the receiver's
pub gathered_receiver : (old new : LaneTurns) (g : LaneSides) (x : ReceiverSide) → new.receiver ≡ turn.Manager → x ≡ new.receiver_side → new.sender ≡ old.sender → new.sender_side ≡ old.sender_side → HasGathered old g → HasGathered new (record g { receiver = Some x })
gathered_receiver old new g x held is sender beside has = record {
  sender = λ y same. let h = has.sender y same in (sender ∙ h.0, h.1 ∙ sym beside);
  receiver = λ y same. (held, sym (some_one x y same) ∙ is);
}

pub left_receiver : (old new : LaneTurns) (g : LaneSides) → new.sender ≡ old.sender → new.sender_side ≡ old.sender_side → HasGathered old g → HasGathered new (record g { receiver = None })
left_receiver old new g sender beside has = record {
  sender = λ y same. let h = has.sender y same in (sender ∙ h.0, h.1 ∙ sym beside);
  receiver = λ y same. absurd (none_some y same);
}

-- both
pub gathered_both : (lane : LaneTurns) (x : SenderSide) (y : ReceiverSide) → lane.sender ≡ turn.Manager → x ≡ lane.sender_side → lane.receiver ≡ turn.Manager → y ≡ lane.receiver_side → HasGathered lane (record { sender = Some x; receiver = Some y })
gathered_both lane x y sends x_is receives y_is = record {
  sender = λ u same. (sends, sym (some_one x u same) ∙ x_is);
  receiver = λ u same. (receives, sym (some_one y u same) ∙ y_is);
}
