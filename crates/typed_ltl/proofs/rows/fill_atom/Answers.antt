use Rattle.std.proofs.Common.{arith}
use Rattle.typed_ltl.specs.Formulas.{proposition_of}
use Rattle.typed_ltl.proofs.RowLoops.{atom_fits, atom_more, atom_end}
use Rattle.typed_ltl.proofs.rows.fill_atom.Goals as goal

pub holds-requires : goal.holds-requires
holds-requires c =
    atom_fits c.args.states.now c.args.loop_at (proposition_of c.args.atom.now) c.loop-i.i c.successor-next.result
    c.index-states-i.result c.index-states-next.result
    (record {
      inside = c.loop-i-test.true;
      within = c.successor-next.ensures.within;
      next_is = c.successor-next.ensures.place;
      now_is = c.index-states-i.is;
      after_is = c.index-states-next.is;
    })
    c.requires.fits

pub loop-i-preserved : goal.loop-i-preserved
loop-i-preserved c =
    atom_more c.args.states.now c.args.loop_at (proposition_of c.args.atom.now) c.loop-i.i c.successor-next.result
    c.index-states-i.result c.index-states-next.result c.args.cells.now c.loop-i.cells c.holds.result
    c.requires.loop_at c.requires.room
    (record {
      inside = c.loop-i-test.true;
      within = c.successor-next.ensures.within;
      next_is = c.successor-next.ensures.place;
      now_is = c.index-states-i.is;
      after_is = c.index-states-next.is;
    })
    c.holds.ensures c.loop-i.invariant

pub returns : goal.returns
returns c =
    atom_end c.args.states.now c.args.loop_at (proposition_of c.args.atom.now) c.args.cells.now c.loop-i.cells c.loop-i.i
    c.requires.room (omega (arith, c.requires.room)) c.loop-i.invariant
