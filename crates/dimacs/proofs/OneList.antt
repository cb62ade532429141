-- A text stands for at most one list of clauses.
use Rattle.std.proofs.Common.{◌≡◌, ℕ, ◌+◌, ◌<◌, ◌≤◌, Bool, true, false, List, [], ◌∷◌, ◌++◌, length, map}
use Rattle.std.proofs.Common.{refl, sym, ◌∙◌, subst, arith, decimal}
use Rattle.std.specs.List.{flat_map}
use Rattle.cnf.specs.declared.lit.Lit.{Lit}
use Rattle.dimacs.specs.Dimacs.{literal_word, clause_end, clause_words, most_of_kind}
use Rattle.dimacs.specs.Laws.{TextsStandForOneList}
use Rattle.dimacs.proofs.PrintedNumbers.{decimal_no_minus}
use Rattle.dimacs.proofs.Bodies.{Below, AllBelow, word_by, below_first, below_rest, all_first, all_rest, no_end, same_var_by}
use Rattle.dimacs.proofs.Bodies.{first_word, rest_words, behind_clause, not_none, words_of, same_header}

same_sign_by : (s t : Bool) (v u : ℕ) → v < most_of_kind → u < most_of_kind → word_by s v ≡ word_by t u → s ≡ t
same_sign_by true true v u h k e = refl
same_sign_by true false v u h k e = absurd (decimal_no_minus (v + 1) (decimal (u + 1)) (omega arith) (sym e))
same_sign_by false true v u h k e = absurd (decimal_no_minus (u + 1) (decimal (v + 1)) (omega arith) e)
same_sign_by false false v u h k e = refl

same_literal : (l r : Lit) → l.var < most_of_kind → r.var < most_of_kind → literal_word l ≡ literal_word r → l ≡ r
same_literal l r h k e =
    let var : l.var ≡ r.var = same_var_by l.positive r.positive l.var r.var h k e in
    let positive : l.positive ≡ r.positive = same_sign_by l.positive r.positive l.var r.var h k e in
    λ j. record { var = var j; positive = positive j }

same_clause : (n : ℕ) → n ≤ most_of_kind → (c d : List Lit) (xs ys : List (List ℕ)) → Below n c → Below n d
    → map literal_word c ++ (clause_end ∷ xs) ≡ map literal_word d ++ (clause_end ∷ ys) → c ≡ d
same_clause n m [] [] xs ys a b e = refl
same_clause n m [] (l ∷ ls) xs ys a b e = absurd (no_end n l m (below_first n l ls b) (sym (first_word _ _ _ _ e)))
same_clause n m (k ∷ ks) [] xs ys a b e = absurd (no_end n k m (below_first n k ks a) (first_word _ _ _ _ e))
same_clause n m (k ∷ ks) (l ∷ ls) xs ys a b e =
    let small : k.var < n = below_first n k ks a in
    let low : l.var < n = below_first n l ls b in
    let first = same_literal k l (omega arith) (omega arith) (first_word _ _ _ _ e) in
    let rest = same_clause n m ks ls xs ys (below_rest n k ks a) (below_rest n l ls b) (rest_words _ _ _ _ e) in
    λ j. first j ∷ rest j

same_clauses : (n : ℕ) → n ≤ most_of_kind → (cs ds : List (List Lit)) → AllBelow n cs → AllBelow n ds
    → flat_map clause_words cs ≡ flat_map clause_words ds → cs ≡ ds
same_clauses n m [] [] a b e = refl
same_clauses n m [] (d ∷ ds) a b e = absurd (not_none d clause_end (flat_map clause_words ds) (sym (e ∙ words_of d ds)))
same_clauses n m (c ∷ cs) [] a b e = absurd (not_none c clause_end (flat_map clause_words cs) (sym (words_of c cs) ∙ e))
same_clauses n m (c ∷ cs) (d ∷ ds) a b e =
    let one = sym (words_of c cs) ∙ (e ∙ words_of d ds) in
    let first = same_clause n m c d _ _ (all_first n c cs a) (all_first n d ds b) one in
    let behind = behind_clause n m c d _ _ (all_first n c cs a) (all_first n d ds b) one in
    let rest = same_clauses n m cs ds (all_rest n c cs a) (all_rest n d ds b) behind in
    λ j. first j ∷ rest j

pub texts_stand_for_one_list : TextsStandForOneList
texts_stand_for_one_list text vars others clauses told a b =
    let h = same_header vars (length clauses) others (length told) _ _ a.vars_most a.clauses_most b.vars_most b.clauses_most
    (sym a.written ∙ b.written) in
    let known : AllBelow vars told = subst (λ (n : ℕ). AllBelow n told) (sym h.vars) b.known in
    (h.vars, same_clauses vars a.vars_most clauses told a.known known h.behind)
