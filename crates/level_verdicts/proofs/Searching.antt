-- The solver of a search has a model, at first and after each question.
use Rattle.std.proofs.Common.{◌≡◌, List, [], ◌++◌, sym, ap, ◌∙◌}
use Rattle.cnf.specs.declared.lit.Lit.{Lit}
use Rattle.cnf.specs.Clauses.{clauses_hold, IsConservative}
use Rattle.tableau.specs.TableauStates.{ClosureOverPorts}
use Rattle.levels.specs.declared.level.Level.{Level}
use Rattle.level_verdicts.specs.declared.deciding.LevelSearch.{LevelSearch}
use Rattle.level_verdicts.specs.Steps.{IsSearchOf}

pub search_begins : (level : Level) (search : LevelSearch) → search.tableau.closure ≡ level.closure
    → search.tableau.ports ≡ level.ports → search.solver.vars ≡ 0 → search.solver.clauses ≡ [] → IsSearchOf level search
search_begins level search closure ports vars clauses =
    record {
      closure = closure;
      ports = ports;
      model = ([], record { vars = sym vars; holds = ap (λ (cs : List (List Lit)). clauses_hold [] cs) clauses });
    }

pub search_goes_on : (level : Level) (older newer : LevelSearch) → newer.tableau ≡ older.tableau
    → IsConservative older.solver.vars older.solver.clauses newer.solver.vars newer.solver.clauses
    → IsSearchOf level older → IsSearchOf level newer
search_goes_on level older newer same grows is =
    let more = grows.extends is.model.0 is.model.1 in
    record {
      closure = ap (λ (t : ClosureOverPorts). t.closure) same ∙ is.closure;
      ports = ap (λ (t : ClosureOverPorts). t.ports) same ∙ is.ports;
      model = (is.model.0 ++ more.0, more.1);
    }
