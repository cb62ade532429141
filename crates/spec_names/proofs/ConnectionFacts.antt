-- Names in the expressions of connections.
use Rattle.std.proofs.Common.{◌≡◌, ℕ, ◌<◌, Bool, List, length, map, take, slice_get, sym, ap, subst, ◌∙◌}
use Rattle.std.proofs.lemmas.Slice.Eq.{bytes_eq-Decides}
use Rattle.oss_syntax.specs.declared.words.Word.{Word}
use Rattle.spec_names.specs.declared.uses.NameUse.{NameUse}
use Rattle.spec_names.specs.Scopes.{is_named}
use Rattle.spec_names.specs.Refinements.{Around, sees_in, KnowsSeen}
use Rattle.spec_names.specs.Tables.{IsPlaceTable}
use Rattle.spec_names.specs.Uses.{word_of_use}
use Rattle.spec_names.proofs.Lists.{position-map, first_seen}

abbrev pub sees_use : Around → NameUse → Bool
sees_use s name = sees_in s (word_of_use name).text

pub knows_seen : (s : Around) (uses : List NameUse) (table : List (List ℕ × ℕ)) (seen : List Bool) (i : ℕ) (word : Word)
    → IsPlaceTable (map word_of_use uses) table → seen ≡ map (sees_use s) (take i uses) → KnowsSeen s table seen word
knows_seen s uses table seen i word tells is = λ k at l.
    ap (λ list. slice_get list k) is
    ∙ first_seen (λ name. is_named word.text (word_of_use name)) (sees_use s) (sees_in s word.text) uses i k
    (λ name e. ap (sees_in s) (sym ((bytes_eq-Decides word.text (word_of_use name).text).0 e)))
    (sym (position-map (is_named word.text) word_of_use uses) ∙ (sym (tells word.text) ∙ at))
    (subst (λ list. k < length list) is l)
