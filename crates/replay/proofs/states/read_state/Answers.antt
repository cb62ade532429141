use Rattle.std.proofs.Common.{◌≡◌, List, ℕ, Option, sym, subst, refl, ◌∙◌, ap}
use Rattle.port_types.specs.declared.types.Value.{Value}
use Rattle.replay.specs.TextLines.{words_of_line}
use Rattle.replay.specs.LassoFiles.{AreAssignments, IsStateLine}
use Rattle.replay.specs.Reading.{HaveGiven}
use Rattle.replay.proofs.Noting.{given_values, breaks_at_end, state_complete}
use Rattle.replay.proofs.states.read_state.Goals as goal

pub returns-then-not-are_all_given-clause-none : goal.returns-then-not-are_all_given-clause-none
returns-then-not-are_all_given-clause-none c = λ values h.
    let line : (c.in-Some.keyword.now ≡ _) × AreAssignments c.args.table.now.names c.args.table.now.kinds (words_of_line c.in-Some.words.now) values =
    subst (λ (ws : List (List ℕ)). IsStateLine c.args.table.now.names c.args.table.now.kinds ws values) c.in-Some.ensures.some h in
    let noted = subst (λ (slots : List (Option Value)). HaveGiven c.args.table.now.names c.args.table.now.kinds (words_of_line c.in-Some.words.now) slots)
    (sym c.as_slice.ensures.value) (c.in_ok-note_words.ensures.noted c.if-not-branch.false) in
    let gap = c.if-not-are_all_given.ensures.missing refl in
    breaks_at_end c.args.table.now.names c.args.table.now.kinds (words_of_line c.in-Some.words.now) c.as_slice.result.now gap.0 noted gap.1 gap.2 values line.1

pub returns-clause-some : goal.returns-clause-some
returns-clause-some c =
    let noted = subst (λ (slots : List (Option Value)). HaveGiven c.args.table.now.names c.args.table.now.kinds (words_of_line c.in-Some.words.now) slots)
    (sym c.as_slice.ensures.value) (c.in_ok-note_words.ensures.noted c.if-not-branch.false) in
    let complete = state_complete c.args.table.now.names c.args.table.now.kinds (words_of_line c.in-Some.words.now) c.as_slice.result.now noted
    (c.if-not-are_all_given.ensures.all refl) in
    let same = ap given_values c.as_slice.ensures.value ∙ sym c.in_ok-given_values.ensures in
    subst (λ (ws : List (List ℕ)). IsStateLine c.args.table.now.names c.args.table.now.kinds ws c.in_ok-given_values.field-0) (sym c.in-Some.ensures.some) (
      c.if-not-is_state_word.ensures.0 refl,
      subst (AreAssignments c.args.table.now.names c.args.table.now.kinds (words_of_line c.in-Some.words.now)) same complete,
    )
