use Rattle.std.proofs.Common.{ℕ, ◌∙◌, sym, arith, length-append, length-drop, length-take}
use Rattle.oss_io.proofs.Fronts.{Consumes-part, nothing_left}
use Rattle.oss_io.proofs.shelves.MemoryShelfShelf.read.Goals as goal

pub returns-clause-bytes : goal.returns-clause-bytes
returns-clause-bytes c = (
  sym c.count_call.ensures.left ∙ Consumes-part _ c.give.new.into _ _ c.give.result _ (omega (arith, c.give.auto.into)) c.give.ensures.count
      c.give.ensures.bytes c.give.ensures.left,
  λ none some. nothing_left _ _ _ _ c.give.ensures.count c.give.ensures.left none
      (omega (arith, some, length-append {A = ℕ}, length-drop {A = ℕ}, length-take {A = ℕ}, c.give.auto.into, c.min-most.ensures, c.count_call.new.self.some)),
)
