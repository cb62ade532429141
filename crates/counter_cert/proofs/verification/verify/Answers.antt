use Rattle.std.proofs.Common.{rules, subst}
use Rattle.std.specs.Prelude.{IsTrue, All}
use Rattle.counter_cert.specs.Certificates.{IsGuardedBound, HasUnguarded}
use Rattle.counter_cert.proofs.verification.verify.Goals as goal

pub returns-clause-certificate : goal.returns-clause-certificate
returns-clause-certificate c = λ on.
    let form : IsTrue c.has_form.result = search rules in
    let both = c.has_form.ensures.0 form in
    record {
      bounds = subst (All (IsGuardedBound c.args.tab.now c.args.k c.args.w)) c.as_slice.ensures both.0;
      unguarded = subst HasUnguarded c.as_slice.ensures both.1;
      start = c.in_ok-met.ensures.met (search rules);
      step = c.in_ok-kept.ensures.kept on;
    }
