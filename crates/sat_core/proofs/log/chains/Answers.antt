use Rattle.std.proofs.Common.{◌<◌, ◌+◌, ◌^◌, ℕ, List, [], true, false, length, take, get_or, arith, ap, sym, subst, ◌∙◌}
use Rattle.std.proofs.lemmas.List.{get_or_default, get_or_read, length-take, length_push}
use Rattle.sat_core.specs.declared.chain.Derivation.{Derivation}
use Rattle.sat_core.specs.Search.{IsDerivation, clause_lists}
use Rattle.sat_core.specs.Numbering.{AllHaveNumbers}
use Rattle.sat_core.proofs.Logs.{IsChainOf, derived_numbers, chain_next, skip_next}
use Rattle.sat_core.proofs.log.chains.Goals as goal
use Rattle.sat_core.proofs.log.chains.Goals.{then-needed-place+in_ok-chain+in_ok-push, else-needed-place}

pub chain-requires : goal.chain-requires
chain-requires c =
    let added = c.args.added.now in
    let learnt = c.args.learnt.now in
    let place = c.loop-place.place in
    let d = c.index-derivations-place.result in
    let k = clause_lists added (take place learnt) [] in
    let h : place < length learnt = omega arith in
    let x = subst (λ (y : Derivation). IsDerivation k y.first y.rest.items (get_or learnt place [])) (sym c.index-derivations-place.is)
    (c.requires.derived.each place d h) in
    let small : length added + 0 < 2 ^ 64 = omega arith in
    subst (λ (l : List ℕ). AllHaveNumbers (length added) l d.first d.rest.items) (sym c.as_slice.ensures.value)
    (derived_numbers added (take place learnt) [] c.loop-place.numbers.items d.first d.rest.items (get_or learnt place [])
    (omega (arith, length-take place learnt, c.loop-place.invariant.numbered.counted)) small x)

pub loop-place-preserved : goal.loop-place-preserved
loop-place-preserved c =
    let added = c.args.added.now in
    let learnt = c.args.learnt.now in
    let assumed = c.args.assumed.now in
    let needed = c.args.needed.now in
    let place = c.loop-place.place in
    let numbers = c.loop-place.numbers.items in
    let log = c.loop-place.log in
    let inv = c.loop-place.invariant in
    let h : place < length learnt = omega arith in
    let h2 : place < length needed = omega (arith, c.requires.count) in
    elim c.if-needed-place.branch [
      | then-needed-place+in_ok-chain+in_ok-push w ↦
          let d = w.index-derivations-place.result in
          let e = w.in_ok-chain.ensures in
          let clause = e.clause ∙ w.as_slice-clause.ensures ∙ get_or_read learnt place w.index-learnt-place.result h w.index-learnt-place.is [] in
          let longer = w.log-is ∙ w.in_ok-push.ensures.ok in
          record {
            numbered = chain_next added learnt assumed needed place _ numbers c.push-in-loop-place.new.self.items log c.if-needed-place.log
                w.in_ok-chain.field-0 c.args.derivations.now d (c.requires.derived, c.requires.needed)
                (record {
                  within = h;
                  is = w.index-derivations-place.is;
                  need = get_or_default needed place true false h2 ∙ w.if-needed-place.true;
                })
                (subst (λ (l : List ℕ). IsChainOf (length added) l (get_or learnt place []) d.first d.rest.items w.in_ok-chain.field-0)
                w.as_slice.ensures.value (record { clause_is = clause; first_is = e.first; rest_is = e.rest }))
                (omega (arith, c.len.ensures)) (record { numbers_are = c.in_ok-push-2.ensures.items; chains_are = longer }) inv.numbered;
            short = omega (arith, ap length longer, length_push log w.in_ok-chain.field-0, inv.short);
          }
      | else-needed-place w ↦
          record {
            numbered = skip_next added learnt assumed needed place _ numbers c.push-in-loop-place.new.self.items log c.if-needed-place.log
                (get_or_default needed place true false h2 ∙ w.if-needed-place.false) c.in_ok-push-2.ensures.items w.log-is inv.numbered;
            short = omega (arith, ap length w.log-is, inv.short);
          }
    ]
