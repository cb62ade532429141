use Rattle.dimacs.proofs.OneList.{texts_stand_for_one_list}
use Rattle.dimacs.proofs.laws.texts_stand_for_one_list.Goals as goal

pub returns : goal.returns
returns c = texts_stand_for_one_list
