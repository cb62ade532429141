-- What `print` answers on a file without a fault: its canonical text (printing as an inverse of parsing: T. Rendel and
-- K. Ostermann, Invertible syntax descriptions, 2010).
use Rattle.std.specs.Prelude.{◌≡◌, ℕ, List}
use Rattle.oss_syntax.specs.Trees.{Component}
use Rattle.oss_printer.specs.Canonical.{canonical_text}
use Rattle.spec_model.specs.declared.spec.Spec.{Spec}
use Rattle.ocra_tool.specs.Files.{IsTreeOf, IsSpecification}
use Rattle.ocra_tool.specs.Words.{default_width}

-- The text is the canonical text of a tree of the bytes.
pub record IsCanonicalTextOf (bytes text : List ℕ) : Type 0 where
  pub components : List Component
  pub tree : IsTreeOf bytes components
  pub is : text ≡ canonical_text components

-- The bytes have no fault, and the text is the only canonical text of them.
pub record IsPrintOf (bytes text : List ℕ) : Type 0 where
  pub spec : Spec
  pub described : IsSpecification default_width bytes spec
  pub canonical : IsCanonicalTextOf bytes text
  pub only : (other : List ℕ) → IsCanonicalTextOf bytes other → other ≡ text
