-- What comes of the task that the words ask for.
use Rattle.std.proofs.Common.{◌≡◌, ℕ, Bool, true, false, List, Option, Some, None, IfSome, IsSome, is_some, refl, subst, sym}
use Rattle.std.specs.Option.{option_map}
use Rattle.std.proofs.lemmas.Bool.{false≢true}
use Rattle.cnf.specs.declared.lit.Lit.{Lit}
use Rattle.dimacs.specs.Dimacs.{IsDimacs, BreaksFormatAt}
use Rattle.sat_tool.specs.declared.outcome.SatOutcome.{SatOutcome}
use Rattle.sat_tool.specs.declared.outcome.SatOutcome.TheVariants as came
use Rattle.sat_tool.specs.SatTasks.{SatTask}
use Rattle.dimacs.specs.declared.reading.Reason.{Reason}
use Rattle.sat_tool.specs.SatAnswers.{IsTraceOf, IsBreakLine, break_line}
use Rattle.sat_tool.specs.SatOutcomes.{ComesTo, HasTrace, HasTraceText, IsOutcomeOf}

has_trace : (bytes : List ℕ) (vars : ℕ) (clauses : List (List Lit)) (traced : Bool) (wanted made : Option (List ℕ))
    → IsDimacs bytes vars clauses → is_some wanted ≡ traced → HasTraceText clauses traced made → HasTrace (Some bytes) wanted made
has_trace bytes vars clauses false None None d e h = tt
has_trace bytes vars clauses true (Some out) (Some text) d e h = (vars, clauses, h.0, d, h.1, h.2)
has_trace bytes vars clauses true (Some out) None d e h = absurd h
has_trace bytes vars clauses false None (Some text) d e h = absurd h
has_trace bytes vars clauses true None made d e h = cc
has_trace bytes vars clauses false (Some out) made d e h = cc

-- what comes of the clauses that the bytes stand for
pub outcome_comes : (bytes : List ℕ) (vars : ℕ) (clauses : List (List Lit)) (traced : Bool) (came_to : SatOutcome)
    → IsDimacs bytes vars clauses → IsOutcomeOf vars clauses traced came_to
    → (before now : ℕ) (task : SatTask) → is_some task.trace ≡ traced → ComesTo (Some bytes) before now task came_to
outcome_comes bytes vars clauses traced (came.Sat text) d o before now task e = (o.0, o.1, (vars, clauses, d, o.2))
outcome_comes bytes vars clauses traced (came.Unsat trace) d o before now task e =
    ((vars, clauses, d, o.0), has_trace bytes vars clauses traced task.trace trace d e o.1)
outcome_comes bytes vars clauses traced (came.Refused text) d o before now task e = absurd o
outcome_comes bytes vars clauses traced came.ReadFault d o before now task e = absurd o
outcome_comes bytes vars clauses traced came.NoMemory d o before now task e = tt

pub is_some_map : {T U : Type 0} (f : T → U) (o : Option T) → is_some (option_map f o) ≡ is_some o
is_some_map f None = refl
is_some_map f (Some x) = refl

-- what is so of all bytes is so of those that are told
pub where_told : (told : Option (List ℕ)) (before now : ℕ) (task : SatTask) (bytes : List ℕ) (came_to : SatOutcome)
    → IfSome told (λ held. bytes ≡ held) → ComesTo (Some bytes) before now task came_to → ComesTo told before now task came_to
where_told (Some held) before now task bytes came_to e c = subst (λ (b : List ℕ). ComesTo (Some b) before now task came_to) e c
where_told None before now task bytes (came.Sat text) e c = (c.0, c.1, tt)
where_told None before now task bytes (came.Unsat trace) e c = (tt, untold task.trace trace c.1)
  where
    untold : (wanted made : Option (List ℕ)) → HasTrace (Some bytes) wanted made → HasTrace None wanted made
    untold None None h = tt
    untold (Some out) (Some text) h = tt
    untold None (Some text) h = h
    untold (Some out) None h = h
where_told None before now task bytes (came.Refused text) e c = (c.0, c.1, c.2, tt)
where_told None before now task bytes came.ReadFault e c = c
where_told None before now task bytes came.NoMemory e c = tt

-- a trace that is asked for was made
pub trace_made : (told wanted made : Option (List ℕ)) (took : List ℕ → Type 0) → HasTrace told wanted made → IfSome made took
    → IsSome wanted → (text : List ℕ) × took text × IfSome told (λ bytes. IsTraceOf bytes text)
trace_made told (Some out) (Some text) took h t s = (text, t, h)
trace_made told (Some out) None took h t s = absurd h
trace_made told None (Some text) took h t s = absurd h
trace_made told None None took h t s = absurd (false≢true s)

-- what is so of the task that the words ask for
pub of_asked : (asked : Option SatTask) (task : SatTask) (P : SatTask → Type 0) → asked ≡ Some task → P task → IfSome asked P
of_asked asked task P is p = subst (λ (o : Option SatTask). IfSome o P) (sym is) p

-- a trace was written, where one is asked for
pub told_trace : (asked : Option SatTask) (task : SatTask) (held : List ℕ → Option (List ℕ)) (made : Option (List ℕ))
    (took : List ℕ → Type 0) → asked ≡ Some task → HasTrace (held task.file) task.trace made → IfSome made took
    → IfSome asked (λ t. IsSome t.trace → (text : List ℕ) × took text × IfSome (held t.file) (λ bytes. IsTraceOf bytes text))
told_trace asked task held made took is h w = of_asked asked task
    (λ t. IsSome t.trace → (text : List ℕ) × took text × IfSome (held t.file) (λ bytes. IsTraceOf bytes text)) is
    (λ some. trace_made (held task.file) task.trace made took h w some)

-- where the file breaks was told
pub told_break : (asked : Option SatTask) (task : SatTask) (held : List ℕ → Option (List ℕ)) (text : List ℕ)
    (took : List ℕ → Type 0) → asked ≡ Some task
    → (line : ℕ) × (why : Reason) × (text ≡ break_line task.file line why) × IfSome (held task.file) (λ bytes. BreaksFormatAt bytes line)
    → took text
    → IfSome asked (λ t. (line : List ℕ) × took line × IfSome (held t.file) (λ bytes. IsBreakLine t.file bytes line))
told_break asked task held text took is c w = of_asked asked task
    (λ t. (line : List ℕ) × took line × IfSome (held t.file) (λ bytes. IsBreakLine t.file bytes line)) is (text, w, by (held task.file) c.3)
  where
    by : (told : Option (List ℕ)) → IfSome told (λ bytes. BreaksFormatAt bytes c.0) → IfSome told (λ bytes. IsBreakLine task.file bytes text)
    by None h = tt
    by (Some bytes) h = (c.0, c.1, c.2, h)
