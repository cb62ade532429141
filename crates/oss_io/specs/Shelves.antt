-- What contracts see of the shelves in memory.
use Rattle.std.specs.Prelude.{ℕ, ◌≡◌, List}
use Rattle.oss_io.specs.Stored.{bytes_from}
use Rattle.oss_io.specs.declared.shelves.SteadyShelf.{SteadyShelf}
use Rattle.oss_io.specs.declared.shelves.MemoryShelf.{MemoryShelf}

abbrev pub steady_files : SteadyShelf → List (List ℕ × List ℕ)
steady_files s = s.files

-- the bytes that are still to come
abbrev pub steady_left : SteadyShelf → List ℕ
steady_left s = bytes_from s.files s.place s.offset

abbrev pub shelf_files : MemoryShelf → List (List ℕ × List ℕ)
shelf_files s = steady_files s.shelf

abbrev pub shelf_left : MemoryShelf → List ℕ
shelf_left s = steady_left s.shelf

-- the numbers of the calls that fail
abbrev pub shelf_failing : MemoryShelf → List ℕ
shelf_failing s = s.failing

-- how many bytes a read gives at most
abbrev pub shelf_piece : MemoryShelf → ℕ
shelf_piece s = s.piece

-- how many calls of `open` and `read` there were
abbrev pub shelf_calls : MemoryShelf → ℕ
shelf_calls s = s.calls

-- how many of them failed
abbrev pub shelf_faults : MemoryShelf → ℕ
shelf_faults s = s.faults

-- what no call changes
pub record IsSameShelf (old new : MemoryShelf) : Type 0 where
  pub files : shelf_files new ≡ shelf_files old
  pub failing : shelf_failing new ≡ shelf_failing old
  pub piece : shelf_piece new ≡ shelf_piece old
