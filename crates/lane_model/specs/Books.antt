-- What contracts see of a book (own).
use Rattle.std.specs.Prelude.{ℕ, ◌+◌, ◌-◌, ◌*◌, ◌≤◌, List, take, drop, length, vec_capacity}
use Rattle.std.specs.List.{All}
use Rattle.rp_base.specs.declared.limits.TheConstants.{MESSAGE_MOST, BOOK_MOST}
use Rattle.lane_model.specs.declared.states.BookEntry.{BookEntry}
use Rattle.lane_model.specs.declared.books.Mark.{Mark}
use Rattle.lane_model.specs.declared.books.Book.TheInside.{Inside}

-- the messages by number, and for how many there is room
pub record BookList : Type 0 where
  pub entries : List BookEntry
  pub room : ℕ

-- the message that a mark names among the bytes of all messages
abbrev pub entry_in : List ℕ → Mark → BookEntry
entry_in bytes mark = record { caller = mark.caller; message = take (mark.end - mark.start) (drop mark.start bytes) }

-- a mark is that of a message among so many bytes
abbrev pub IsMarkIn : ℕ → Mark → Type 0
IsMarkIn size mark = (mark.start ≤ mark.end) × (mark.end ≤ size) × (mark.end ≤ mark.start + MESSAGE_MOST)

-- the marks are those of messages, and there is room for as many as the book takes
pub record IsBookInside (a : Inside) : Type 0 where
  pub marked : All (IsMarkIn (length a.bytes.items)) a.marks.items
  pub within : length a.marks.items ≤ a.room
  pub bytes_within : length a.bytes.items ≤ MESSAGE_MOST * length a.marks.items
  pub room : a.room ≤ BOOK_MOST
  pub marks_room : a.room ≤ vec_capacity a.marks
  pub bytes_room : MESSAGE_MOST * a.room ≤ vec_capacity a.bytes
