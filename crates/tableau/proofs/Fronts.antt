-- clauses that were added in part, one piece after the other
use Rattle.std.proofs.Common.{◌≡◌, ◌+◌, ◌<◌, ◌≤◌, ℕ, zero, suc, Bool, true, List, [], ◌∷◌, ◌++◌, length, take, drop, get_or}
use Rattle.std.proofs.Common.{refl, sym, ◌∙◌, ap, arith, add-one, append_assoc}
use Rattle.std.proofs.lemmas.List.{take-append-drop}
use Rattle.std.proofs.Math.Seq.{drop-cons}
use Rattle.cnf.specs.declared.lit.Lit.{Lit}
use Rattle.cnf.specs.Clauses.{clauses_hold}
use Rattle.cnf.proofs.ModelLaws.{append_nil}
use Rattle.state_coding.proofs.StateLaws.{both_hold, parts_hold}
use Rattle.tableau.specs.Parts.{AddsFront}

pub front_whole : (older newer whole : List (List Lit)) → newer ≡ older ++ whole → AddsFront older newer whole
front_whole older newer whole e = record { added = whole; grown = e; rest = []; all = append_nil newer ∙ e }

pub front_take : (k : ℕ) (older newer whole : List (List Lit)) → newer ≡ older ++ take k whole → AddsFront older newer whole
front_take k older newer whole e = record {
  added = take k whole;
  grown = e;
  rest = drop k whole;
  all = ap (λ l. l ++ drop k whole) e ∙ append_assoc older (take k whole) (drop k whole) ∙ ap (λ l. older ++ l) (take-append-drop k whole);
}

-- some of what comes next, and what is left behind it
pub front_piece : (older now newer whole piece later so_far : List (List Lit)) → now ≡ older ++ so_far
    → now ++ (piece ++ later) ≡ older ++ whole → AddsFront now newer piece → AddsFront older newer whole
front_piece older now newer whole piece later so_far e all f = record {
  added = so_far ++ f.added;
  grown = f.grown ∙ ap (λ l. l ++ f.added) e ∙ append_assoc older so_far f.added;
  rest = f.rest ++ later;
  all = sym (append_assoc newer f.rest later) ∙ ap (λ l. l ++ later) f.all ∙ append_assoc now piece later ∙ all;
}

-- all of what comes next
pub piece_done : (now newer piece later total : List (List Lit)) → newer ≡ now ++ piece → now ++ (piece ++ later) ≡ total
    → newer ++ later ≡ total
piece_done now newer piece later total e all = ap (λ l. l ++ later) e ∙ append_assoc now piece later ∙ all

pub grown_on : (older now newer so_far piece : List (List Lit)) → now ≡ older ++ so_far → newer ≡ now ++ piece
    → newer ≡ older ++ (so_far ++ piece)
grown_on older now newer so_far piece e f = f ∙ ap (λ l. l ++ piece) e ∙ append_assoc older so_far piece

pub front_first : (older now first second : List (List Lit)) → AddsFront older now first → AddsFront older now (first ++ second)
front_first older now first second f = record {
  added = f.added;
  grown = f.grown;
  rest = f.rest ++ second;
  all = sym (append_assoc now f.rest second) ∙ ap (λ l. l ++ second) f.all ∙ append_assoc older first second;
}

pub front_second : (older now newer first second : List (List Lit)) → now ≡ older ++ first → AddsFront now newer second
    → AddsFront older newer (first ++ second)
front_second older now newer first second e f = record {
  added = first ++ f.added;
  grown = f.grown ∙ ap (λ l. l ++ f.added) e ∙ append_assoc older first f.added;
  rest = f.rest;
  all = f.all ∙ ap (λ l. l ++ second) e ∙ append_assoc older first second;
}

pub front_holds : (model : List Bool) (older newer whole : List (List Lit)) → AddsFront older newer whole
    → clauses_hold model older ≡ true → clauses_hold model whole ≡ true → clauses_hold model newer ≡ true
front_holds model older newer whole f h k =
    (parts_hold model newer f.rest (ap (clauses_hold model) f.all ∙ both_hold model older whole h k)).0

pub dropped : {X : Type 0} (xs : List X) (i : ℕ) (d : X) → i < length xs → drop i xs ≡ get_or xs i d ∷ drop (i + 1) xs
dropped xs i d h = rw (add-one i) (drop-cons xs i d h)
