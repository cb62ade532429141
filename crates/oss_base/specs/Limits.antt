-- The limits of the language and of the size of a level. Those on numerals and on listed sub-contracts stand
-- with the types.
use Rattle.std.specs.Prelude.{ℕ}
pub use Rattle.port_types.specs.Limits.{largest_numeral, most_parts}

-- A file has at most so many bytes.
abbrev pub most_bytes : ℕ
most_bytes = 4194304

-- An expression is at most so high.
abbrev pub most_height : ℕ
most_height = 128

-- A file has at most so many components.
abbrev pub most_components : ℕ
most_components = 1024

-- A system has at most so many instances of components, itself counted.
abbrev pub most_instances : ℕ
most_instances = 4096

-- The closure of a level has at most so many members.
abbrev pub most_closure_members : ℕ
most_closure_members = 1024

-- The formulas of a level have at most this size together.
abbrev pub most_level_size : ℕ
most_level_size = 16384

-- The values of the free ports of a level have at most so many bits together.
abbrev pub most_value_bits : ℕ
most_value_bits = 256

-- A level has at most so many guards.
abbrev pub most_guards : ℕ
most_guards = 4000000
