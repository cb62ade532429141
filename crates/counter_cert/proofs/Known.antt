-- The literals of the clauses are of variables that are there.
use Rattle.std.proofs.Common.{◌≡◌, ℕ, zero, suc, ◌+◌, ◌*◌, ◌%◌, ◌<◌, ◌≤◌, ◌^◌, Bool, true, false, ℤ, pos, negsuc, List, [], ◌∷◌, ◌++◌, length, map, get_or}
use Rattle.std.proofs.Common.{Option, Some, None, inl, inr, refl, sym, ap, ◌∙◌, subst, cond, arith}
use Rattle.std.specs.Prelude.{All}
use Rattle.std.specs.List.{flat_map}
use Rattle.std.proofs.lemmas.List.Elements.{All-nil, All-cons, All-append, All-head, All-tail, All-weaker}
use Rattle.std.proofs.lemmas.Nat.{mod_below}
use Rattle.core_ltl.specs.declared.node.NodeId.{NodeId}
use Rattle.core_ltl.specs.declared.question.SignedNode.{SignedNode}
use Rattle.core_ltl.specs.Nodes.{members, IsClosure}
use Rattle.cnf.specs.declared.lit.Lit.{Lit}
use Rattle.cnf.specs.Clauses.{opposite}
use Rattle.cnf.specs.Gates.{literal}
use Rattle.cnf.proofs.ListLaws.{All-opposite}
use Rattle.cnf.proofs.GateSteps.{Within, Within-nil, Within-cons, within_two, within_three}
use Rattle.tableau.specs.TableauStates.{ClosureOverPorts, fairness}
use Rattle.tableau.specs.Copies.{LayerLits, member_literal}
use Rattle.tableau.specs.Questions.{signed_literal}
use Rattle.counter_cert.specs.declared.bounds.GuardedBound.{GuardedBound}
use Rattle.counter_cert.specs.Certificates.{IsProgressBound}
use Rattle.counter_cert.specs.StartClauses.{guard_literals, question_clauses, guard_case, start_cases}
use Rattle.counter_cert.specs.StepClauses.{each_below, falling_clauses, condition_clauses, fairness_clauses, progress_clauses}
use Rattle.counter_cert.specs.StepClauses.{beyond_literals, unmet_literals, unmet_cases, no_case_clauses, counting_clauses}
use Rattle.counter_cert.proofs.Members.{IsReadable, IsPairOver, IsConditionOver, member_known, conditions_over}

abbrev pub IsGuardKnown : LayerLits → List SignedNode → Type 0
IsGuardKnown layer guard = All (λ x. x.node.0 < length layer.members) guard

abbrev pub AreGuardsKnown : LayerLits → List GuardedBound → Type 0
AreGuardsKnown layer entries = All (λ entry. All (λ x. x.node.0 < length layer.members) entry.guard) entries

-- as many literals as members
pub guard_known_in : (t : ClosureOverPorts) (layer : LayerLits) → length layer.members ≡ length t.closure.nodes
    → (guard : List SignedNode) → All (λ x. x.node.0 < length t.closure.nodes) guard → IsGuardKnown layer guard
guard_known_in t layer count guard over =
    All-weaker (λ (x : SignedNode). x.node.0 < length t.closure.nodes) (λ (x : SignedNode). x.node.0 < length layer.members)
    (λ x h. omega (arith, h, count)) guard over

pub guards_known : (t : ClosureOverPorts) (layer : LayerLits) → length layer.members ≡ length t.closure.nodes
    → (entries : List GuardedBound) → All (λ entry. All (λ x. x.node.0 < length t.closure.nodes) entry.guard) entries
    → AreGuardsKnown layer entries
guards_known t layer count entries over =
    All-weaker (λ (e : GuardedBound). All (λ x. x.node.0 < length t.closure.nodes) e.guard)
    (λ (e : GuardedBound). All (λ x. x.node.0 < length layer.members) e.guard)
    (λ e h. guard_known_in t layer count e.guard h) entries over

-- a room for bounds
pub bounds_room : (most first : ℕ) (entries : List GuardedBound) → All (λ entry. IsProgressBound most entry.bound) entries
    → first + (most + 1) < 2 ^ 64 → All (λ entry. (b : ℕ) → entry.bound ≡ pos b → first + b < 2 ^ 64) entries
bounds_room most first entries within room = λ k d lt b e.
    let bound : b ≤ most = subst (IsProgressBound most) e (within k d lt) in
    omega (arith, bound, room)

module _ (n : ℕ) (layer : LayerLits) (known : All (λ lit. lit.var < n) layer.members) where
  by_sign_known : (p : Bool) (lit : Lit) → lit.var < n → (cond p lit (opposite lit)).var < n
  by_sign_known true lit h = h
  by_sign_known false lit h = h

  signed_known : (x : SignedNode) → x.node.0 < length layer.members → (signed_literal layer x).var < n
  signed_known x h = by_sign_known x.positive (member_literal layer x.node.0) (known x.node.0 (literal 0) h)

  pub guard_known : (guard : List SignedNode) → IsGuardKnown layer guard → All (λ lit. lit.var < n) (guard_literals layer guard)
  guard_known [] over = All-nil (λ lit. lit.var < n)
  guard_known (x ∷ guard) over =
      All-cons (λ lit. lit.var < n) (signed_literal layer x) (guard_literals layer guard)
      (signed_known x (All-head (λ (y : SignedNode). y.node.0 < length layer.members) x guard over))
      (guard_known guard (All-tail (λ (y : SignedNode). y.node.0 < length layer.members) x guard over))

  pub question_known : (question : List SignedNode) → IsGuardKnown layer question → Within n (question_clauses layer question)
  question_known [] over = Within-nil n
  question_known (x ∷ question) over =
      Within-cons n (signed_literal layer x ∷ []) (question_clauses layer question)
      (All-cons (λ lit. lit.var < n) (signed_literal layer x) []
      (signed_known x (All-head (λ (y : SignedNode). y.node.0 < length layer.members) x question over)) (All-nil (λ lit. lit.var < n)))
      (question_known question (All-tail (λ (y : SignedNode). y.node.0 < length layer.members) x question over))

  case_known : (lits : List Lit) (bound : ℤ) → All (λ lit. lit.var < n) lits → Within n (guard_case lits bound)
  case_known lits (pos b) h = Within-nil n
  case_known lits (negsuc i) h = Within-cons n lits [] h (Within-nil n)

  pub start_cases_known : (entries : List GuardedBound) → AreGuardsKnown layer entries → Within n (start_cases layer entries)
  start_cases_known [] over = Within-nil n
  start_cases_known (entry ∷ entries) over =
      All-append (All (λ lit. lit.var < n)) (guard_case (guard_literals layer entry.guard) entry.bound) (start_cases layer entries)
      (case_known (guard_literals layer entry.guard) entry.bound
      (guard_known entry.guard (All-head (λ (e : GuardedBound). All (λ x. x.node.0 < length layer.members) e.guard) entry entries over)))
      (start_cases_known entries (All-tail (λ (e : GuardedBound). All (λ x. x.node.0 < length layer.members) e.guard) entry entries over))

  beyond_known : (first most : ℕ) (bound : ℤ) → first + most < n → IsProgressBound most bound
      → All (λ lit. lit.var < n) (beyond_literals first bound)
  beyond_known first most (pos b) room within =
      All-cons (λ lit. lit.var < n) (literal (first + b)) [] (omega (arith, room, within)) (All-nil (λ lit. lit.var < n))
  beyond_known first most (negsuc i) room within = All-nil (λ lit. lit.var < n)

  pub unmet_known : (first most : ℕ) (entries : List GuardedBound) → first + most < n → AreGuardsKnown layer entries
      → All (λ entry. IsProgressBound most entry.bound) entries → Within n (unmet_cases layer first entries)
  unmet_known first most [] room over within = Within-nil n
  unmet_known first most (entry ∷ entries) room over within =
      Within-cons n (unmet_literals layer first entry) (unmet_cases layer first entries)
      (All-append (λ lit. lit.var < n) (guard_literals layer entry.guard) (beyond_literals first entry.bound)
      (guard_known entry.guard (All-head (λ (e : GuardedBound). All (λ x. x.node.0 < length layer.members) e.guard) entry entries over))
      (beyond_known first most entry.bound room (All-head (λ (e : GuardedBound). IsProgressBound most e.bound) entry entries within)))
      (unmet_known first most entries room (All-tail (λ (e : GuardedBound). All (λ x. x.node.0 < length layer.members) e.guard) entry entries over)
      (All-tail (λ (e : GuardedBound). IsProgressBound most e.bound) entry entries within))

pub no_case_known : (n : ℕ) (cases : List (List Lit)) → Within n cases → Within n (no_case_clauses cases)
no_case_known n [] h = Within-nil n
no_case_known n (lits ∷ cases) h =
    Within-cons n (map opposite lits) (no_case_clauses cases) (All-opposite n lits (All-head (All (λ lit. lit.var < n)) lits cases h))
    (no_case_known n cases (All-tail (All (λ lit. lit.var < n)) lits cases h))

each_known : (n : ℕ) (f : ℕ → List (List Lit)) (k : ℕ) → ((i : ℕ) → i < k → Within n (f i)) → Within n (each_below f k)
each_known n f zero h = Within-nil n
each_known n f (suc k) h =
    All-append (All (λ lit. lit.var < n)) (each_below f k) (f k) (each_known n f k (λ i lt. h i (omega (arith, lt)))) (h k (omega arith))

module _ (n : ℕ) (t : ClosureOverPorts) (layer : LayerLits) (is : IsReadable n t layer) where
  condition_known : (c : Lit) (condition : Option (NodeId × NodeId)) → c.var < n → IsConditionOver t condition
      → Within n (condition_clauses layer c condition)
  condition_known c None kc over =
      Within-cons n (c ∷ []) [] (All-cons (λ lit. lit.var < n) c [] kc (All-nil (λ lit. lit.var < n))) (Within-nil n)
  condition_known c (Some u) kc over =
      let left = member_known n t layer u.0.0 is over.left in
      let right = member_known n t layer u.1.0 is over.right in
      Within-cons n (opposite c ∷ opposite (member_literal layer u.0.0) ∷ member_literal layer u.1.0 ∷ [])
      ((c ∷ member_literal layer u.0.0 ∷ []) ∷ (c ∷ opposite (member_literal layer u.1.0) ∷ []) ∷ [])
      (within_three n (opposite c) (opposite (member_literal layer u.0.0)) (member_literal layer u.1.0) kc left right)
      (Within-cons n (c ∷ member_literal layer u.0.0 ∷ []) ((c ∷ opposite (member_literal layer u.1.0) ∷ []) ∷ [])
      (within_two n c (member_literal layer u.0.0) kc left)
      (Within-cons n (c ∷ opposite (member_literal layer u.1.0) ∷ []) []
      (within_two n c (opposite (member_literal layer u.1.0)) kc right) (Within-nil n)))

  pub fairness_known : (c : ℕ) → IsClosure (members t.closure) → c + length (fairness t) ≤ n
      → Within n (each_below (fairness_clauses t layer c) (length (fairness t)))
  fairness_known c closed room =
      each_known n (fairness_clauses t layer c) (length (fairness t)) (λ j lt.
      condition_known (literal (c + j)) (get_or (fairness t) j None) (omega (arith, lt, room)) (conditions_over t closed j None lt))

falling_known : (n g b most : ℕ) → b < most → g + most < n → Within n (falling_clauses g b)
falling_known n g b most lt room =
    Within-cons n (opposite (literal (g + (b + 1))) ∷ literal (g + b) ∷ []) []
    (within_two n (opposite (literal (g + (b + 1)))) (literal (g + b)) (omega (arith, lt, room)) (omega (arith, lt, room))) (Within-nil n)

progress_known : (n m g c h b most : ℕ) → 0 < m → b ≤ most → g + most < n → c + m ≤ n → h + most < n
    → Within n (progress_clauses m g c h b)
progress_known n m g c h zero most some le kg kc kh =
    let g_in : g < n = omega (arith, kg) in
    let c_in : c < n = omega (arith, kc, some) in
    let h_in : h < n = omega (arith, kh) in
    Within-cons n (opposite (literal h) ∷ literal g ∷ literal c ∷ [])
    ((literal h ∷ opposite (literal g) ∷ []) ∷ (literal h ∷ opposite (literal c) ∷ []) ∷ [])
    (within_three n (opposite (literal h)) (literal g) (literal c) h_in g_in c_in)
    (Within-cons n (literal h ∷ opposite (literal g) ∷ []) ((literal h ∷ opposite (literal c) ∷ []) ∷ []) (within_two n (literal h) (opposite (literal g)) h_in g_in)
    (Within-cons n (literal h ∷ opposite (literal c) ∷ []) [] (within_two n (literal h) (opposite (literal c)) h_in c_in) (Within-nil n)))
progress_known n m g c h (suc b) most some le kg kc kh =
    let less : suc b % m < m = mod_below (suc b) m some in
    let g_in : g + suc b < n = omega (arith, kg, le) in
    let b_in : g + b < n = omega (arith, kg, le) in
    let c_in : c + suc b % m < n = omega (arith, kc, less) in
    let h_in : h + suc b < n = omega (arith, kh, le) in
    Within-cons n (opposite (literal (h + suc b)) ∷ literal (g + suc b) ∷ literal (g + b) ∷ [])
    ((opposite (literal (h + suc b)) ∷ literal (g + suc b) ∷ literal (c + suc b % m) ∷ [])
    ∷ (literal (h + suc b) ∷ opposite (literal (g + suc b)) ∷ []) ∷ (literal (h + suc b) ∷ opposite (literal (g + b)) ∷ opposite (literal (c + suc b % m)) ∷ []) ∷ [])
    (within_three n (opposite (literal (h + suc b))) (literal (g + suc b)) (literal (g + b)) h_in g_in b_in)
    (Within-cons n (opposite (literal (h + suc b)) ∷ literal (g + suc b) ∷ literal (c + suc b % m) ∷ [])
    ((literal (h + suc b) ∷ opposite (literal (g + suc b)) ∷ []) ∷ (literal (h + suc b) ∷ opposite (literal (g + b)) ∷ opposite (literal (c + suc b % m)) ∷ []) ∷ [])
    (within_three n (opposite (literal (h + suc b))) (literal (g + suc b)) (literal (c + suc b % m)) h_in g_in c_in)
    (Within-cons n (literal (h + suc b) ∷ opposite (literal (g + suc b)) ∷ [])
    ((literal (h + suc b) ∷ opposite (literal (g + b)) ∷ opposite (literal (c + suc b % m)) ∷ []) ∷ [])
    (within_two n (literal (h + suc b)) (opposite (literal (g + suc b))) h_in g_in)
    (Within-cons n (literal (h + suc b) ∷ opposite (literal (g + b)) ∷ opposite (literal (c + suc b % m)) ∷ []) []
    (within_three n (literal (h + suc b)) (opposite (literal (g + b))) (opposite (literal (c + suc b % m))) h_in b_in c_in) (Within-nil n))))

pub counting_known : (n : ℕ) (t : ClosureOverPorts) (most : ℕ) (layer : LayerLits) (g c h : ℕ) → IsReadable n t layer
    → IsClosure (members t.closure) → 0 < length (fairness t) → g + most < n → c + length (fairness t) ≤ n → h + most < n
    → Within n (counting_clauses t most layer g c h)
counting_known n t most layer g c h is closed some kg kc kh =
    All-append (All (λ lit. lit.var < n)) (each_below (falling_clauses g) most ++ each_below (fairness_clauses t layer c) (length (fairness t)))
    (each_below (progress_clauses (length (fairness t)) g c h) (most + 1))
    (All-append (All (λ lit. lit.var < n)) (each_below (falling_clauses g) most) (each_below (fairness_clauses t layer c) (length (fairness t)))
    (each_known n (falling_clauses g) most (λ b lt. falling_known n g b most lt kg))
    (fairness_known n t layer is c closed kc))
    (each_known n (progress_clauses (length (fairness t)) g c h) (most + 1) (λ b lt.
    progress_known n (length (fairness t)) g c h b most some (omega (arith, lt)) kg kc kh))
