-- Places in a text: the line and the column of an offset in bytes.
use Rattle.std.specs.Prelude.{ℕ, ◌+◌, ◌==◌, Bool, not, List, count_by}
use Rattle.std.specs.List.{suffix_len}
use Rattle.oss_base.specs.declared.place.Place.{Place}

-- a line feed ends a line
abbrev pub is_line_feed : ℕ → Bool
is_line_feed byte = byte == 10

-- The place right after these bytes, which are all that stand before it. Its line is one more than
-- the number of line feeds among them. Its column is one more than the number of bytes after the
-- last line feed, that is, the length of their longest end without a line feed.
abbrev pub place_after : List ℕ → Place
place_after before = record {
  line = 1 + count_by is_line_feed before;
  column = 1 + suffix_len (λ byte. not (is_line_feed byte)) before;
}
