-- The words of the next incarnation, by the sizes (own; the rings of a new split virtqueue, VIRTIO 1.2 section 2.7).
use Rattle.std.specs.Prelude.{ℕ, List, replicate, [], ◌∷◌, ◌++◌, map, true, false}
use Rattle.ring_core.specs.declared.states.RingSizes.{RingSizes}
use Rattle.ring_core.specs.Rings.{opened_returns, return_count, entry_of, sizes_of}
use Rattle.link_words.specs.declared.rule.LinkSizes.{LinkSizes}
use Rattle.link_words.specs.Words.{LaneWords, reset_block}
use Rattle.lane_model.specs.declared.calls.LinkConfig.{LinkConfig}
use Rattle.link_words.specs.declared.codes.DeskRight.{DeskRight}
use Rattle.link_words.specs.declared.codes.DeskTables.{DeskTables}
use Rattle.link_words.specs.declared.rule.SenderSide.{SenderSide}
use Rattle.link_words.specs.declared.rule.ReceiverSide.{ReceiverSide}
use Rattle.link_words.specs.declared.rule.Slot.{Slot}
use Rattle.link_words.specs.declared.rule.Slot.TheVariants.{Sender, Receiver, Buffer}

-- of a lane: no message is published, and the return ring has the buffers that no send takes from the sender's own list
abbrev pub fresh_lane : RingSizes → LaneWords
fresh_lane sizes = record { sender = 0; receiver = 0; forward_index = 0; return_index = return_count sizes 0; forward = replicate sizes.entries (entry_of 0); returns = opened_returns sizes }

-- of both lanes, in the order of a reset
abbrev pub fresh_of : LinkSizes → List ℕ
fresh_of z = reset_block (fresh_lane z.to_host) (fresh_lane z.to_remote)

-- the sizes of a new link: the device, which is the remote, sends on the lane to the host, and the driver on the other
abbrev pub sizes_for : LinkConfig → DeskTables → LinkSizes
sizes_for config desks = record { to_host = sizes_of config.num0 true; to_remote = sizes_of config.num1 false; book = config.book; first = config.first; desks = desks }

-- the side states of a new lane count nothing and have room for so many messages, and the receiver's has the right to a desk
abbrev pub opened_sender : ℕ → SenderSide
opened_sender book = record { accepted = 0; entries = []; room = book }

abbrev pub opened_receiver : ℕ → DeskRight → ReceiverSide
opened_receiver book right = record { handed = 0; takers = []; room = book; returned = 0; hands = []; desk = right }

-- the slots of a new link whose books have so much room, with the right to the desk of each end, and something in the buffers
abbrev pub opened_slots : ℕ → DeskRight → DeskRight → List (List ℕ) → List (List ℕ) → List Slot
opened_slots book host remote to_host to_remote = Sender (opened_sender book) ∷ Receiver (opened_receiver book host)
    ∷ Sender (opened_sender book) ∷ Receiver (opened_receiver book remote) ∷ (map Buffer to_host ++ map Buffer to_remote)
