-- What is always so of texts that stand for clauses: each stands for one list of them.
use Rattle.std.specs.Prelude.{◌≡◌, ℕ, List}
use Rattle.cnf.specs.declared.lit.Lit.{Lit}
use Rattle.dimacs.specs.Dimacs.{IsDimacs}

-- A text stands for at most one list of clauses, over one number of variables.
abbrev pub TextsStandForOneList : Type 0
TextsStandForOneList = (text : List ℕ) (vars others : ℕ) (clauses told : List (List Lit))
    → IsDimacs text vars clauses → IsDimacs text others told → (vars ≡ others) × (clauses ≡ told)
