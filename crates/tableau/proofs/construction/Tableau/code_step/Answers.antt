use Rattle.tableau.proofs.StepFronts.{step_tells, step_kept}
use Rattle.tableau.proofs.construction.Tableau.code_step.Goals as goal

pub returns-in_err-code_layers_step-clause-kept : goal.returns-in_err-code_layers_step-clause-kept
returns-in_err-code_layers_step-clause-kept g c =
    step_kept _ _ _ _ c.args.self.now c.args.from.now c.args.to.now c.args.under (record {
      pair = record {
        gates = c.gates_are_right.ensures;
        coded = c.code_layers_step.ensures.coded;
        first = c.requires.from;
        second = c.requires.to;
        known_under = c.requires.under;
      };
      vars = c.code_layers_step.ensures.vars;
      front = c.code_layers_step.ensures.front;
    })

pub returns-in_err-code_layers_step-clause-more : goal.returns-in_err-code_layers_step-clause-more
returns-in_err-code_layers_step-clause-more g c = (c.code_layers_step.ensures.front.added, c.code_layers_step.ensures.front.grown)

pub returns-clause-step : goal.returns-clause-step
returns-clause-step g c =
    step_tells _ _ _ _ c.args.self.now c.args.from.now c.args.to.now c.args.under (record {
      pair = record {
        gates = c.gates_are_right.ensures;
        coded = c.code_layers_step.ensures.coded;
        first = c.requires.from;
        second = c.requires.to;
        known_under = c.requires.under;
      };
      vars = c.code_layers_step.ensures.vars;
      front = c.code_layers_step.ensures.front;
    }) c.in_ok-code_layers_step.ensures.ok

pub returns-clause-kept : goal.returns-clause-kept
returns-clause-kept g c =
    step_kept _ _ _ _ c.args.self.now c.args.from.now c.args.to.now c.args.under (record {
      pair = record {
        gates = c.gates_are_right.ensures;
        coded = c.code_layers_step.ensures.coded;
        first = c.requires.from;
        second = c.requires.to;
        known_under = c.requires.under;
      };
      vars = c.code_layers_step.ensures.vars;
      front = c.code_layers_step.ensures.front;
    })

pub returns-clause-more : goal.returns-clause-more
returns-clause-more g c = (c.code_layers_step.ensures.front.added, c.code_layers_step.ensures.front.grown)
