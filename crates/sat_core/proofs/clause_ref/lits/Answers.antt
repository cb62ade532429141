use Rattle.std.proofs.Common.{◌≡◌, ◌<◌, ◌+◌, ◌-◌, ℕ, suc, zero, [], ◌∷◌, List, take, drop, length, map, get_or, arith, ap, sym, refl, ◌∙◌, subst}
use Rattle.cnf.specs.declared.lit.Lit.{Lit}
use Rattle.sat_core.specs.declared.clause_ref.ClauseRef.{ClauseRef}
use Rattle.sat_core.specs.Search.{unit_clause, lists_of, HasClause, clause_of}
use Rattle.sat_core.proofs.clause_ref.lits.Goals as goal

one_of : (xs : List Lit) (k : ℕ) → k < length (map unit_clause xs)
    → take 1 (drop k xs) ≡ get_or (map unit_clause xs) k []
one_of [] k h = absurd (omega arith)
one_of (x ∷ xs) zero h = refl
one_of (x ∷ xs) (suc k) h = one_of xs k (omega arith)

pub returns-in-Assumed : goal.returns-in-Assumed
returns-in-Assumed c =
    let place = c.in-Assumed.place in
    let assumed = c.args.database.assumed.now in
    let one : place + 1 - place ≡ 1 = omega arith in
    let within : place < length (map unit_clause assumed) = subst (λ (s : ClauseRef). HasClause (lists_of c.args.database) s) c.in-Assumed.is c.requires in
    ap (λ n. take n (drop place assumed)) one ∙ one_of assumed place within ∙ ap (λ (s : ClauseRef). clause_of (lists_of c.args.database) s)
    (sym c.in-Assumed.is)
