-- A line of words (own).
use Rattle.std.specs.Prelude.{ℕ, List, [], ◌∷◌, ◌++◌, map}
use Rattle.std.specs.List.{join_with_byte}
use Rattle.word_kinds.specs.declared.pieces.Piece.{Piece}
use Rattle.word_kinds.specs.declared.pieces.Piece.TheVariants as piece
use Rattle.word_kinds.specs.Texts.{Word, Fixed, Name, Number, Digits, Offset, Bytes, Row, Escaped, Trace, Lane, Bound, Dotted, Side, Open, Service, State, Driver, OnOff, text}

-- the texts of words with a space between two, and a line feed at the end
unfoldable pub line_of : List Word → List ℕ
line_of words = join_with_byte 32 (map text words) ++ 10 ∷ []

-- the word that a piece is, without its references
abbrev pub word_of : Piece → Word
word_of (piece.Fixed bytes) = Fixed bytes.now
word_of (piece.Name name) = Name name.now
word_of (piece.Number number) = Number number.now
word_of (piece.Short number) = Number number.now
word_of (piece.Digits number) = Digits number.now
word_of (piece.Offset number) = Offset number.now
word_of (piece.Bytes bytes) = Bytes bytes.now
word_of (piece.Row most bytes) = Row most bytes.now
word_of (piece.Escaped name) = Escaped name.now
word_of (piece.Trace text) = Trace text.now
word_of (piece.Lane lane) = Lane lane.now
word_of (piece.Bound endpoint) = Bound endpoint.now
word_of (piece.Dotted first second) = Dotted first.now second.now
word_of (piece.Side end) = Side end.now
word_of (piece.Open is_live) = Open is_live.now
word_of (piece.Service what) = Service what.now
word_of (piece.State state) = State state.now
word_of (piece.Driver kind) = Driver kind.now
word_of (piece.Switch switch) = OnOff switch.now
