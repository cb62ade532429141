-- Words behind references, and the words of one kind in the items of the code (serves proofs only).
use Rattle.std.specs.Prelude.{List, Option, option_map}
use Rattle.std.specs.Borrow.{Bor}
use Rattle.oss_syntax.specs.declared.words.Word.{Word}
use Rattle.oss_syntax.specs.declared.interface.InterfaceItem.{InterfaceItem}
use Rattle.oss_syntax.specs.declared.refinement.RefinementItem.{RefinementItem}
use Rattle.oss_syntax.specs.Trees.{item_tree, refinement_item_tree}
use Rattle.spec_names.specs.declared.words.InterfaceWord.{InterfaceWord}
use Rattle.spec_names.specs.declared.words.InterfaceWord.TheVariants as interface
use Rattle.spec_names.specs.declared.words.RefinementWord.{RefinementWord}
use Rattle.spec_names.specs.declared.words.RefinementWord.TheVariants as refinement
use Rattle.spec_names.specs.Scopes.{PortDeclaration, port_declaration, contract_word, item_enumerators, SubDeclaration}
use Rattle.spec_names.specs.Scopes.{sub_declaration}
use Rattle.spec_names.specs.NamesFaults.{own_target_word, refined_word, sub_target_pair}

abbrev pub word_at : Bor Word → Word
word_at word = word.now

abbrev pub pair_at : Bor Word × Bor Word → Word × Word
pair_at pair = (pair.0.now, pair.1.now)

abbrev pub word_of_item : InterfaceWord → InterfaceItem → Option Word
word_of_item interface.Port item = option_map (λ (port : PortDeclaration). port.name)
    (port_declaration (item_tree item))
word_of_item interface.Contract item = contract_word (item_tree item)

abbrev pub enumerators_of_item : InterfaceItem → List Word
enumerators_of_item item = item_enumerators (item_tree item)

abbrev pub word_of_part : RefinementWord → RefinementItem → Option Word
word_of_part refinement.Sub item = option_map (λ (sub : SubDeclaration). sub.name)
    (sub_declaration (refinement_item_tree item))
word_of_part refinement.OwnTarget item = own_target_word (refinement_item_tree item)
word_of_part refinement.Refined item = refined_word (refinement_item_tree item)

abbrev pub sub_target_of_item : RefinementItem → Option (Word × Word)
sub_target_of_item item = sub_target_pair (refinement_item_tree item)
