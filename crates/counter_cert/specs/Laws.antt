-- What certificates say of infinite traces.

use Rattle.std.specs.Prelude.{ℕ, List, All, map}
use Rattle.typed_ltl.specs.Formulas.{proposition_of}
use Rattle.core_ltl.specs.declared.question.SignedNode.{SignedNode}
use Rattle.core_ltl.specs.Nodes.{members, IsClosure}
use Rattle.core_ltl.specs.Questions.{IsValidQuestion}
use Rattle.state_coding.specs.Reads.{ReadsPorts}
use Rattle.tableau.specs.TableauStates.{ClosureOverPorts}
use Rattle.tableau.specs.Questions.{IsQuestionOver}
use Rattle.counter_cert.specs.declared.bounds.GuardedBound.{GuardedBound}
use Rattle.counter_cert.specs.Certificates.{IsCertificate}

-- A question that has a certificate is valid: no infinite trace over the ports breaks it. The atoms read these ports, so
-- that on each trace they have the truth that they have in a state of the tableau.
abbrev pub CertificatesMakeValid : Type 0
CertificatesMakeValid = (t : ClosureOverPorts) (question : List SignedNode) (k w : ℕ) (entries : List GuardedBound)
    → IsClosure (members t.closure) → All (ReadsPorts t.ports) (map proposition_of t.closure.atoms)
    → IsQuestionOver t question → IsCertificate t question k w entries
    → IsValidQuestion (members t.closure) t.ports question
