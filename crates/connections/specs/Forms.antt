-- Serves proofs only: the forms of formulas by how many parts they have.
use Rattle.typed_ltl.specs.Formulas.{Ltl}
use Rattle.typed_ltl.specs.Formulas as form
use Rattle.connections.specs.declared.forms.Unary.{Unary}
use Rattle.connections.specs.declared.forms.Unary.TheVariants as one
use Rattle.connections.specs.declared.forms.Binary.{Binary}
use Rattle.connections.specs.declared.forms.Binary.TheVariants as two

abbrev pub unary_form : Unary → Ltl → Ltl
unary_form one.Not f = form.Not f
unary_form one.Then f = form.Then f
unary_form one.Future f = form.Future f
unary_form one.Always f = form.Always f
unary_form one.Never f = form.Never f

abbrev pub binary_form : Binary → Ltl → Ltl → Ltl
binary_form two.And f g = form.And f g
binary_form two.Or f g = form.Or f g
binary_form two.Implies f g = form.Implies f g
binary_form two.Iff f g = form.Iff f g
binary_form two.Until f g = form.Until f g
binary_form two.Releases f g = form.Releases f g
