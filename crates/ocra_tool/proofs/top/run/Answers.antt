use Rattle.std.proofs.Common.{sym, ap, ◌∙◌, ◌≡◌, ◌⊎◌, ℕ, List, subst, map, string_bytes, refl}
use Rattle.std.proofs.Math.Logic.{inl}
use Rattle.std.specs.Option.{option_map}
use Rattle.std.specs.Io.KnownBytes.{Appends}
use Rattle.oss_io.specs.Outside.{AppendsFront, Says}
use Rattle.ocra_tool.specs.Commands.{task_meant}
use Rattle.ocra_tool.specs.Lines.{read_fault_line}
use Rattle.ocra_tool.specs.Tasks.{IsStatusOf}
use Rattle.ocra_tool.specs.Words.{Task, task_of}
use Rattle.ocra_tool.proofs.Ranges.{command_in_range}
use Rattle.ocra_tool.proofs.Running.{sound_not_faulty, faulty_not_sound, faulty_not_second, answered_not_second, second_not_sound}
use Rattle.ocra_tool.proofs.Running.{second_refused, front_of_answer, whole_answer, safe_check, unread_file}
use Rattle.ocra_tool.proofs.top.run.Goals as goal

pub returns-in-Refused-clause-complete_sound : goal.returns-in-Refused-clause-complete_sound
returns-in-Refused-clause-complete_sound g c = λ q r. faulty_not_sound c.sound_files_have_no_fault.ensures.first (task_of c.args.words.now)
    (task_meant c.in-Some.command) (sym c.parse_words.ensures ∙ ap (option_map task_meant) c.in-Some.is)
    (g.F.Shelf.held c.args.shelf.now) c.in-Refused.ensures.means.0 c.in-Refused.ensures.means.2 (λ (t : Task). IsStatusOf t 3 ⊎ (3 ≡ 7))

pub returns-in-Refused-clause-complete_second_refused : goal.returns-in-Refused-clause-complete_second_refused
returns-in-Refused-clause-complete_second_refused g c = λ q. faulty_not_second c.sound_files_have_no_fault.ensures.first (task_of c.args.words.now)
    (task_meant c.in-Some.command) (sym c.parse_words.ensures ∙ ap (option_map task_meant) c.in-Some.is)
    (g.F.Shelf.held c.args.shelf.now) c.in-Refused.ensures.means.0 c.in-Refused.ensures.means.2 ((3 ≡ 8) ⊎ (3 ≡ 7))

pub returns-in-SecondRefused-clause-complete_sound : goal.returns-in-SecondRefused-clause-complete_sound
returns-in-SecondRefused-clause-complete_sound g c = λ q r. second_not_sound c.sound_files_have_no_fault.ensures.second (task_of c.args.words.now)
    (task_meant c.in-Some.command) (sym c.parse_words.ensures ∙ ap (option_map task_meant) c.in-Some.is)
    (g.F.Shelf.held c.args.shelf.now) c.in-SecondRefused.ensures.means.2 c.in-SecondRefused.ensures.means.5 (λ (t : Task). IsStatusOf t 8 ⊎ (8 ≡ 7))

pub returns-in-Ok-clause-complete_second_refused : goal.returns-in-Ok-clause-complete_second_refused
returns-in-Ok-clause-complete_second_refused g c = λ q. answered_not_second c.sound_files_have_no_fault.ensures.second (task_of c.args.words.now)
    (task_meant c.in-Some.command) (sym c.parse_words.ensures ∙ ap (option_map task_meant) c.in-Some.is)
    (g.F.Shelf.held c.args.shelf.now) c.in-Done.report.text c.in-Done.report.status c.in-Done.ensures.means.2
    ((c.in-Done.report.status ≡ 8) ⊎ (c.in-Done.report.status ≡ 7))

pub returns-in-Done-clause-complete_second_refused : goal.returns-in-Done-clause-complete_second_refused
returns-in-Done-clause-complete_second_refused g c = λ q. answered_not_second c.sound_files_have_no_fault.ensures.second (task_of c.args.words.now)
    (task_meant c.in-Some.command) (sym c.parse_words.ensures ∙ ap (option_map task_meant) c.in-Some.is)
    (g.F.Shelf.held c.args.shelf.now) c.in-Done.report.text c.in-Done.report.status c.in-Done.ensures.means.2 ((6 ≡ 8) ⊎ (6 ≡ 7))

pub returns-in-Done-clause-write_fault_text : goal.returns-in-Done-clause-write_fault_text
returns-in-Done-clause-write_fault_text g c = λ six.
    front_of_answer (task_of c.args.words.now) (task_meant c.in-Some.command) (sym c.parse_words.ensures ∙ ap (option_map task_meant) c.in-Some.is)
    (g.F.Shelf.held c.args.shelf.now) c.in-Done.report.text c.in-Done.report.status
    (λ (x : List ℕ). AppendsFront (g.O.Sink.taken c.args.out.now) (g.O.Sink.taken c.write_all.new.sink) x)
    (subst (λ (x : List ℕ). AppendsFront (g.O.Sink.taken c.args.out.now) (g.O.Sink.taken c.write_all.new.sink) x) c.as_slice.ensures c.in-Err.ensures.front)
    c.in-Done.ensures.means.2

pub returns-in-Ok-clause-safe : goal.returns-in-Ok-clause-safe
returns-in-Ok-clause-safe g c = λ zero file depth width checking.
    safe_check (task_of c.args.words.now) (task_meant c.in-Some.command) (sym c.parse_words.ensures ∙ ap (option_map task_meant) c.in-Some.is)
    (g.F.Shelf.held c.args.shelf.now) c.in-Done.report.text c.in-Done.report.status c.in-Done.ensures.means.2 zero file depth width checking

pub outcome_of-requires-clause-in_range : goal.outcome_of-requires-clause-in_range
outcome_of-requires-clause-in_range g c =
    command_in_range c.in-Some.command (map string_bytes c.args.words.now) (sym (ap (option_map task_meant) c.in-Some.is) ∙ c.parse_words.ensures)

pub returns-in-Ok-clause-complete_refused : goal.returns-in-Ok-clause-complete_refused
returns-in-Ok-clause-complete_refused g c = λ q. sound_not_faulty c.sound_files_have_no_fault.ensures.first (task_of c.args.words.now)
    (task_meant c.in-Some.command) (sym c.parse_words.ensures ∙ ap (option_map task_meant) c.in-Some.is)
    (g.F.Shelf.held c.args.shelf.now) c.in-Done.ensures.means.1 ((c.in-Done.report.status ≡ 3) ⊎ (c.in-Done.report.status ≡ 7))

pub returns-in-Done-clause-complete_refused : goal.returns-in-Done-clause-complete_refused
returns-in-Done-clause-complete_refused g c = λ q. sound_not_faulty c.sound_files_have_no_fault.ensures.first (task_of c.args.words.now)
    (task_meant c.in-Some.command) (sym c.parse_words.ensures ∙ ap (option_map task_meant) c.in-Some.is)
    (g.F.Shelf.held c.args.shelf.now) c.in-Done.ensures.means.1 ((6 ≡ 3) ⊎ (6 ≡ 7))

pub returns-in-SecondRefused-clause-complete_refused : goal.returns-in-SecondRefused-clause-complete_refused
returns-in-SecondRefused-clause-complete_refused g c = λ q. sound_not_faulty c.sound_files_have_no_fault.ensures.first (task_of c.args.words.now)
    (task_meant c.in-Some.command) (sym c.parse_words.ensures ∙ ap (option_map task_meant) c.in-Some.is)
    (g.F.Shelf.held c.args.shelf.now) c.in-SecondRefused.ensures.means.4 ((8 ≡ 3) ⊎ (8 ≡ 7))

pub returns-in-SecondRefused-clause-complete_second_refused : goal.returns-in-SecondRefused-clause-complete_second_refused
returns-in-SecondRefused-clause-complete_second_refused g c = λ q.
    second_refused (task_of c.args.words.now) (g.F.Shelf.held c.args.shelf.now) ((8 ≡ 8) ⊎ (8 ≡ 7)) (inl refl)

pub returns-in-Ok-clause-done : goal.returns-in-Ok-clause-done
returns-in-Ok-clause-done g c = λ done.
    whole_answer (task_of c.args.words.now) (task_meant c.in-Some.command) (sym c.parse_words.ensures ∙ ap (option_map task_meant) c.in-Some.is)
    (g.F.Shelf.held c.args.shelf.now) c.in-Done.report.text c.in-Done.report.status
    (λ (x : List ℕ). Appends (g.O.Sink.taken c.args.out.now) (g.O.Sink.taken c.write_all.new.sink) x)
    (subst (λ (x : List ℕ). Appends (g.O.Sink.taken c.args.out.now) (g.O.Sink.taken c.write_all.new.sink) x) c.as_slice.ensures c.in-Ok.ensures.whole)
    c.in-Done.ensures.means.0 c.in-Done.ensures.means.1 c.in-Done.ensures.means.2

pub returns-in-Done-clause-complete_sound : goal.returns-in-Done-clause-complete_sound
returns-in-Done-clause-complete_sound g c = λ q r. absurd (r c.in-Err.ensures.cause.failed)

pub returns-in-ReadFault-clause-read_fault_line : goal.returns-in-ReadFault-clause-read_fault_line
returns-in-ReadFault-clause-read_fault_line g c = λ five.
    unread_file (task_of c.args.words.now) (task_meant c.in-Some.command) (sym c.parse_words.ensures ∙ ap (option_map task_meant) c.in-Some.is)
    (g.F.Shelf.held c.args.shelf.now) c.in-ReadFault.file.now
    (λ (x : List ℕ). Says (g.E.Sink.taken c.args.err.now) (g.E.Sink.taken c.say_read_fault.new.err) (g.E.Sink.faults c.args.err.now)
    (g.E.Sink.faults c.say_read_fault.new.err) (read_fault_line x))
    c.say_read_fault.ensures c.in-ReadFault.ensures.means.0
