-- What is printed of a file.
use Rattle.std.proofs.Common.{◌≡◌, ℕ, List, Result, Ok, Err, IfOk, sym, ap, ◌∙◌}
use Rattle.port_types.specs.declared.memory.NoMemory.{NoMemory}
use Rattle.oss_syntax.specs.Trees.{Component}
use Rattle.oss_printer.specs.Canonical.{canonical_text}
use Rattle.spec_model.specs.declared.spec.Spec.{Spec}
use Rattle.ocra_tool.specs.Files.{IsSoleTreeOf, IsSoleSpecification}
use Rattle.ocra_tool.specs.Prints.{IsPrintOf}
use Rattle.ocra_tool.specs.Words.{default_width}

pub print_of : (bytes : List ℕ) (spec : Spec) (all : List Component) (r : Result (List ℕ) NoMemory) → IsSoleTreeOf bytes all
    → IsSoleSpecification default_width bytes spec → IfOk r (λ text. text ≡ canonical_text all) → IfOk r (IsPrintOf bytes)
print_of bytes spec all (Ok text) sole described is = record {
  spec = spec;
  described = described.is;
  canonical = record { components = all; tree = sole.tree; is = is };
  only = λ other o. o.is ∙ (ap canonical_text (sole.sole o.components o.tree) ∙ sym is);
}
print_of bytes spec all (Err none) sole described is = tt
