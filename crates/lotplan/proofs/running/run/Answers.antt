use Rattle.std.proofs.Common.{map, string_bytes}
use Rattle.command_line.specs.Words.{command_of}
use Rattle.lotplan.proofs.Explained.{called, ended, fails_to_read, generate_only, idle, is_long, is_run, misses, no_command, only_reads, quiet, refused_words, refuses, silent, tells, unprinted, writes, wrote, left_reads}
use Rattle.lotplan.proofs.Clauses.{completed, complete_faulty, complete_unwritten, drawn, draw_faulty, draw_unwritten, bound_infeasible, bound_undecided, bounded, certified, check_faulty, checked, checks, generate_unwritten, generated, judge_faulty, judged, no_rest, optimal, peg_faulty, peg_unwritten, pegged, plan_faulty, plan_infeasible, plan_kept, plan_undecided, plan_unwritten, replan_checks, replan_faulty, replan_infeasible, replan_undecided, replan_unwritten, replan_wrote_some, replan_wrote_two, replanned, report_faulty, schedcheck_faulty, schedule_checked, schedule_faulty, schedule_unwritten, scheduled, showed, summed, upgrade_unwritten, upgraded, wrote_certificate, wrote_some}
use Rattle.lotplan.proofs.Fetched.{run_fails, run_finds, run_misses, run_once}
use Rattle.lotplan.specs.Run.{reads_of, writes_of}
use Rattle.lotplan.proofs.Appended.{run_appends}
use Rattle.lotplan.proofs.running.run.Goals as goal

pub returns-clause-run : goal.returns-clause-run
returns-clause-run g c = is_run (command_of (map string_bytes c.args.words.now)) c.end_with.result (g.S.Shelf.shown c.args.shelf.now) (g.S.Shelf.shown c.said-said.new.shelf) (g.K.Sink.shown c.args.out.now) (g.K.Sink.shown c.end_with.new.out) c.said-said.result c.said-said.ensures.said c.said-said.ensures.memory c.end_with.ensures.ends

pub returns-clause-checks : goal.returns-clause-checks
returns-clause-checks g c = checks (command_of (map string_bytes c.args.words.now)) c.end_with.result (g.S.Shelf.shown c.args.shelf.now) (g.S.Shelf.shown c.said-said.new.shelf) (g.K.Sink.shown c.args.out.now) (g.K.Sink.shown c.end_with.new.out) (is_run (command_of (map string_bytes c.args.words.now)) c.end_with.result (g.S.Shelf.shown c.args.shelf.now) (g.S.Shelf.shown c.said-said.new.shelf) (g.K.Sink.shown c.args.out.now) (g.K.Sink.shown c.end_with.new.out) c.said-said.result c.said-said.ensures.said c.said-said.ensures.memory c.end_with.ensures.ends) c.statuses_are_one.ensures (c.commands_are_allowed.ensures (map string_bytes c.args.words.now))

pub returns-clause-optimal : goal.returns-clause-optimal
returns-clause-optimal g c = optimal (command_of (map string_bytes c.args.words.now)) c.end_with.result (g.S.Shelf.shown c.args.shelf.now) (g.S.Shelf.shown c.said-said.new.shelf) (g.K.Sink.shown c.args.out.now) (g.K.Sink.shown c.end_with.new.out) (is_run (command_of (map string_bytes c.args.words.now)) c.end_with.result (g.S.Shelf.shown c.args.shelf.now) (g.S.Shelf.shown c.said-said.new.shelf) (g.K.Sink.shown c.args.out.now) (g.K.Sink.shown c.end_with.new.out) c.said-said.result c.said-said.ensures.said c.said-said.ensures.memory c.end_with.ensures.ends)

pub returns-clause-plan_infeasible : goal.returns-clause-plan_infeasible
returns-clause-plan_infeasible g c = plan_infeasible (command_of (map string_bytes c.args.words.now)) c.end_with.result (g.S.Shelf.shown c.args.shelf.now) (g.S.Shelf.shown c.said-said.new.shelf) (g.K.Sink.shown c.args.out.now) (g.K.Sink.shown c.end_with.new.out) (is_run (command_of (map string_bytes c.args.words.now)) c.end_with.result (g.S.Shelf.shown c.args.shelf.now) (g.S.Shelf.shown c.said-said.new.shelf) (g.K.Sink.shown c.args.out.now) (g.K.Sink.shown c.end_with.new.out) c.said-said.result c.said-said.ensures.said c.said-said.ensures.memory c.end_with.ensures.ends)

pub returns-clause-wrote_certificate : goal.returns-clause-wrote_certificate
returns-clause-wrote_certificate g c = wrote_certificate (command_of (map string_bytes c.args.words.now)) c.end_with.result (g.S.Shelf.shown c.args.shelf.now) (g.S.Shelf.shown c.said-said.new.shelf) (g.K.Sink.shown c.args.out.now) (g.K.Sink.shown c.end_with.new.out) (is_run (command_of (map string_bytes c.args.words.now)) c.end_with.result (g.S.Shelf.shown c.args.shelf.now) (g.S.Shelf.shown c.said-said.new.shelf) (g.K.Sink.shown c.args.out.now) (g.K.Sink.shown c.end_with.new.out) c.said-said.result c.said-said.ensures.said c.said-said.ensures.memory c.end_with.ensures.ends)

pub returns-clause-plan_undecided : goal.returns-clause-plan_undecided
returns-clause-plan_undecided g c = plan_undecided (command_of (map string_bytes c.args.words.now)) c.end_with.result (g.S.Shelf.shown c.args.shelf.now) (g.S.Shelf.shown c.said-said.new.shelf) (g.K.Sink.shown c.args.out.now) (g.K.Sink.shown c.end_with.new.out) (is_run (command_of (map string_bytes c.args.words.now)) c.end_with.result (g.S.Shelf.shown c.args.shelf.now) (g.S.Shelf.shown c.said-said.new.shelf) (g.K.Sink.shown c.args.out.now) (g.K.Sink.shown c.end_with.new.out) c.said-said.result c.said-said.ensures.said c.said-said.ensures.memory c.end_with.ensures.ends)

pub returns-clause-wrote_some : goal.returns-clause-wrote_some
returns-clause-wrote_some g c = wrote_some (command_of (map string_bytes c.args.words.now)) c.end_with.result (g.S.Shelf.shown c.args.shelf.now) (g.S.Shelf.shown c.said-said.new.shelf) (g.K.Sink.shown c.args.out.now) (g.K.Sink.shown c.end_with.new.out) (is_run (command_of (map string_bytes c.args.words.now)) c.end_with.result (g.S.Shelf.shown c.args.shelf.now) (g.S.Shelf.shown c.said-said.new.shelf) (g.K.Sink.shown c.args.out.now) (g.K.Sink.shown c.end_with.new.out) c.said-said.result c.said-said.ensures.said c.said-said.ensures.memory c.end_with.ensures.ends)

pub returns-clause-plan_unwritten : goal.returns-clause-plan_unwritten
returns-clause-plan_unwritten g c = plan_unwritten (command_of (map string_bytes c.args.words.now)) c.end_with.result (g.S.Shelf.shown c.args.shelf.now) (g.S.Shelf.shown c.said-said.new.shelf) (g.K.Sink.shown c.args.out.now) (g.K.Sink.shown c.end_with.new.out) (is_run (command_of (map string_bytes c.args.words.now)) c.end_with.result (g.S.Shelf.shown c.args.shelf.now) (g.S.Shelf.shown c.said-said.new.shelf) (g.K.Sink.shown c.args.out.now) (g.K.Sink.shown c.end_with.new.out) c.said-said.result c.said-said.ensures.said c.said-said.ensures.memory c.end_with.ensures.ends)

pub returns-clause-plan_kept : goal.returns-clause-plan_kept
returns-clause-plan_kept g c = plan_kept (command_of (map string_bytes c.args.words.now)) c.end_with.result (g.S.Shelf.shown c.args.shelf.now) (g.S.Shelf.shown c.said-said.new.shelf) (g.K.Sink.shown c.args.out.now) (g.K.Sink.shown c.end_with.new.out) (is_run (command_of (map string_bytes c.args.words.now)) c.end_with.result (g.S.Shelf.shown c.args.shelf.now) (g.S.Shelf.shown c.said-said.new.shelf) (g.K.Sink.shown c.args.out.now) (g.K.Sink.shown c.end_with.new.out) c.said-said.result c.said-said.ensures.said c.said-said.ensures.memory c.end_with.ensures.ends)

pub returns-clause-plan_faulty : goal.returns-clause-plan_faulty
returns-clause-plan_faulty g c = plan_faulty (command_of (map string_bytes c.args.words.now)) c.end_with.result (g.S.Shelf.shown c.args.shelf.now) (g.S.Shelf.shown c.said-said.new.shelf) (g.K.Sink.shown c.args.out.now) (g.K.Sink.shown c.end_with.new.out) (is_run (command_of (map string_bytes c.args.words.now)) c.end_with.result (g.S.Shelf.shown c.args.shelf.now) (g.S.Shelf.shown c.said-said.new.shelf) (g.K.Sink.shown c.args.out.now) (g.K.Sink.shown c.end_with.new.out) c.said-said.result c.said-said.ensures.said c.said-said.ensures.memory c.end_with.ensures.ends)

pub returns-clause-judged : goal.returns-clause-judged
returns-clause-judged g c = judged (command_of (map string_bytes c.args.words.now)) c.end_with.result (g.S.Shelf.shown c.args.shelf.now) (g.S.Shelf.shown c.said-said.new.shelf) (g.K.Sink.shown c.args.out.now) (g.K.Sink.shown c.end_with.new.out) (is_run (command_of (map string_bytes c.args.words.now)) c.end_with.result (g.S.Shelf.shown c.args.shelf.now) (g.S.Shelf.shown c.said-said.new.shelf) (g.K.Sink.shown c.args.out.now) (g.K.Sink.shown c.end_with.new.out) c.said-said.result c.said-said.ensures.said c.said-said.ensures.memory c.end_with.ensures.ends)

pub returns-clause-judge_faulty : goal.returns-clause-judge_faulty
returns-clause-judge_faulty g c = judge_faulty (command_of (map string_bytes c.args.words.now)) c.end_with.result (g.S.Shelf.shown c.args.shelf.now) (g.S.Shelf.shown c.said-said.new.shelf) (g.K.Sink.shown c.args.out.now) (g.K.Sink.shown c.end_with.new.out) (is_run (command_of (map string_bytes c.args.words.now)) c.end_with.result (g.S.Shelf.shown c.args.shelf.now) (g.S.Shelf.shown c.said-said.new.shelf) (g.K.Sink.shown c.args.out.now) (g.K.Sink.shown c.end_with.new.out) c.said-said.result c.said-said.ensures.said c.said-said.ensures.memory c.end_with.ensures.ends)

pub returns-clause-checked : goal.returns-clause-checked
returns-clause-checked g c = checked (command_of (map string_bytes c.args.words.now)) c.end_with.result (g.S.Shelf.shown c.args.shelf.now) (g.S.Shelf.shown c.said-said.new.shelf) (g.K.Sink.shown c.args.out.now) (g.K.Sink.shown c.end_with.new.out) (is_run (command_of (map string_bytes c.args.words.now)) c.end_with.result (g.S.Shelf.shown c.args.shelf.now) (g.S.Shelf.shown c.said-said.new.shelf) (g.K.Sink.shown c.args.out.now) (g.K.Sink.shown c.end_with.new.out) c.said-said.result c.said-said.ensures.said c.said-said.ensures.memory c.end_with.ensures.ends)

pub returns-clause-certified : goal.returns-clause-certified
returns-clause-certified g c = certified (command_of (map string_bytes c.args.words.now)) c.end_with.result (g.S.Shelf.shown c.args.shelf.now) (g.S.Shelf.shown c.said-said.new.shelf) (g.K.Sink.shown c.args.out.now) (g.K.Sink.shown c.end_with.new.out) (is_run (command_of (map string_bytes c.args.words.now)) c.end_with.result (g.S.Shelf.shown c.args.shelf.now) (g.S.Shelf.shown c.said-said.new.shelf) (g.K.Sink.shown c.args.out.now) (g.K.Sink.shown c.end_with.new.out) c.said-said.result c.said-said.ensures.said c.said-said.ensures.memory c.end_with.ensures.ends)

pub returns-clause-check_faulty : goal.returns-clause-check_faulty
returns-clause-check_faulty g c = check_faulty (command_of (map string_bytes c.args.words.now)) c.end_with.result (g.S.Shelf.shown c.args.shelf.now) (g.S.Shelf.shown c.said-said.new.shelf) (g.K.Sink.shown c.args.out.now) (g.K.Sink.shown c.end_with.new.out) (is_run (command_of (map string_bytes c.args.words.now)) c.end_with.result (g.S.Shelf.shown c.args.shelf.now) (g.S.Shelf.shown c.said-said.new.shelf) (g.K.Sink.shown c.args.out.now) (g.K.Sink.shown c.end_with.new.out) c.said-said.result c.said-said.ensures.said c.said-said.ensures.memory c.end_with.ensures.ends)

pub returns-clause-summed : goal.returns-clause-summed
returns-clause-summed g c = summed (command_of (map string_bytes c.args.words.now)) c.end_with.result (g.S.Shelf.shown c.args.shelf.now) (g.S.Shelf.shown c.said-said.new.shelf) (g.K.Sink.shown c.args.out.now) (g.K.Sink.shown c.end_with.new.out) (is_run (command_of (map string_bytes c.args.words.now)) c.end_with.result (g.S.Shelf.shown c.args.shelf.now) (g.S.Shelf.shown c.said-said.new.shelf) (g.K.Sink.shown c.args.out.now) (g.K.Sink.shown c.end_with.new.out) c.said-said.result c.said-said.ensures.said c.said-said.ensures.memory c.end_with.ensures.ends)

pub returns-clause-report_faulty : goal.returns-clause-report_faulty
returns-clause-report_faulty g c = report_faulty (command_of (map string_bytes c.args.words.now)) c.end_with.result (g.S.Shelf.shown c.args.shelf.now) (g.S.Shelf.shown c.said-said.new.shelf) (g.K.Sink.shown c.args.out.now) (g.K.Sink.shown c.end_with.new.out) (is_run (command_of (map string_bytes c.args.words.now)) c.end_with.result (g.S.Shelf.shown c.args.shelf.now) (g.S.Shelf.shown c.said-said.new.shelf) (g.K.Sink.shown c.args.out.now) (g.K.Sink.shown c.end_with.new.out) c.said-said.result c.said-said.ensures.said c.said-said.ensures.memory c.end_with.ensures.ends)

pub returns-clause-generated : goal.returns-clause-generated
returns-clause-generated g c = generated (command_of (map string_bytes c.args.words.now)) c.end_with.result (g.S.Shelf.shown c.args.shelf.now) (g.S.Shelf.shown c.said-said.new.shelf) (g.K.Sink.shown c.args.out.now) (g.K.Sink.shown c.end_with.new.out) (is_run (command_of (map string_bytes c.args.words.now)) c.end_with.result (g.S.Shelf.shown c.args.shelf.now) (g.S.Shelf.shown c.said-said.new.shelf) (g.K.Sink.shown c.args.out.now) (g.K.Sink.shown c.end_with.new.out) c.said-said.result c.said-said.ensures.said c.said-said.ensures.memory c.end_with.ensures.ends)

pub returns-clause-generate_unwritten : goal.returns-clause-generate_unwritten
returns-clause-generate_unwritten g c = generate_unwritten (command_of (map string_bytes c.args.words.now)) c.end_with.result (g.S.Shelf.shown c.args.shelf.now) (g.S.Shelf.shown c.said-said.new.shelf) (g.K.Sink.shown c.args.out.now) (g.K.Sink.shown c.end_with.new.out) (is_run (command_of (map string_bytes c.args.words.now)) c.end_with.result (g.S.Shelf.shown c.args.shelf.now) (g.S.Shelf.shown c.said-said.new.shelf) (g.K.Sink.shown c.args.out.now) (g.K.Sink.shown c.end_with.new.out) c.said-said.result c.said-said.ensures.said c.said-said.ensures.memory c.end_with.ensures.ends)

pub returns-clause-upgraded : goal.returns-clause-upgraded
returns-clause-upgraded g c = upgraded (command_of (map string_bytes c.args.words.now)) c.end_with.result (g.S.Shelf.shown c.args.shelf.now) (g.S.Shelf.shown c.said-said.new.shelf) (g.K.Sink.shown c.args.out.now) (g.K.Sink.shown c.end_with.new.out) (is_run (command_of (map string_bytes c.args.words.now)) c.end_with.result (g.S.Shelf.shown c.args.shelf.now) (g.S.Shelf.shown c.said-said.new.shelf) (g.K.Sink.shown c.args.out.now) (g.K.Sink.shown c.end_with.new.out) c.said-said.result c.said-said.ensures.said c.said-said.ensures.memory c.end_with.ensures.ends)

pub returns-clause-upgrade_unwritten : goal.returns-clause-upgrade_unwritten
returns-clause-upgrade_unwritten g c = upgrade_unwritten (command_of (map string_bytes c.args.words.now)) c.end_with.result (g.S.Shelf.shown c.args.shelf.now) (g.S.Shelf.shown c.said-said.new.shelf) (g.K.Sink.shown c.args.out.now) (g.K.Sink.shown c.end_with.new.out) (is_run (command_of (map string_bytes c.args.words.now)) c.end_with.result (g.S.Shelf.shown c.args.shelf.now) (g.S.Shelf.shown c.said-said.new.shelf) (g.K.Sink.shown c.args.out.now) (g.K.Sink.shown c.end_with.new.out) c.said-said.result c.said-said.ensures.said c.said-said.ensures.memory c.end_with.ensures.ends)

pub returns-clause-bounded : goal.returns-clause-bounded
returns-clause-bounded g c = bounded (command_of (map string_bytes c.args.words.now)) c.end_with.result (g.S.Shelf.shown c.args.shelf.now) (g.S.Shelf.shown c.said-said.new.shelf) (g.K.Sink.shown c.args.out.now) (g.K.Sink.shown c.end_with.new.out) (is_run (command_of (map string_bytes c.args.words.now)) c.end_with.result (g.S.Shelf.shown c.args.shelf.now) (g.S.Shelf.shown c.said-said.new.shelf) (g.K.Sink.shown c.args.out.now) (g.K.Sink.shown c.end_with.new.out) c.said-said.result c.said-said.ensures.said c.said-said.ensures.memory c.end_with.ensures.ends)

pub returns-clause-bound_infeasible : goal.returns-clause-bound_infeasible
returns-clause-bound_infeasible g c = bound_infeasible (command_of (map string_bytes c.args.words.now)) c.end_with.result (g.S.Shelf.shown c.args.shelf.now) (g.S.Shelf.shown c.said-said.new.shelf) (g.K.Sink.shown c.args.out.now) (g.K.Sink.shown c.end_with.new.out) (is_run (command_of (map string_bytes c.args.words.now)) c.end_with.result (g.S.Shelf.shown c.args.shelf.now) (g.S.Shelf.shown c.said-said.new.shelf) (g.K.Sink.shown c.args.out.now) (g.K.Sink.shown c.end_with.new.out) c.said-said.result c.said-said.ensures.said c.said-said.ensures.memory c.end_with.ensures.ends)

pub returns-clause-bound_undecided : goal.returns-clause-bound_undecided
returns-clause-bound_undecided g c = bound_undecided (command_of (map string_bytes c.args.words.now)) c.end_with.result (g.S.Shelf.shown c.args.shelf.now) (g.S.Shelf.shown c.said-said.new.shelf) (g.K.Sink.shown c.args.out.now) (g.K.Sink.shown c.end_with.new.out) (is_run (command_of (map string_bytes c.args.words.now)) c.end_with.result (g.S.Shelf.shown c.args.shelf.now) (g.S.Shelf.shown c.said-said.new.shelf) (g.K.Sink.shown c.args.out.now) (g.K.Sink.shown c.end_with.new.out) c.said-said.result c.said-said.ensures.said c.said-said.ensures.memory c.end_with.ensures.ends)

pub returns-clause-showed : goal.returns-clause-showed
returns-clause-showed g c = showed (command_of (map string_bytes c.args.words.now)) c.end_with.result (g.S.Shelf.shown c.args.shelf.now) (g.S.Shelf.shown c.said-said.new.shelf) (g.K.Sink.shown c.args.out.now) (g.K.Sink.shown c.end_with.new.out) (is_run (command_of (map string_bytes c.args.words.now)) c.end_with.result (g.S.Shelf.shown c.args.shelf.now) (g.S.Shelf.shown c.said-said.new.shelf) (g.K.Sink.shown c.args.out.now) (g.K.Sink.shown c.end_with.new.out) c.said-said.result c.said-said.ensures.said c.said-said.ensures.memory c.end_with.ensures.ends)

pub returns-clause-called_for : goal.returns-clause-called_for
returns-clause-called_for g c = called (command_of (map string_bytes c.args.words.now)) c.end_with.result (g.S.Shelf.shown c.args.shelf.now) (g.S.Shelf.shown c.said-said.new.shelf) (g.K.Sink.shown c.args.out.now) (g.K.Sink.shown c.end_with.new.out) (is_run (command_of (map string_bytes c.args.words.now)) c.end_with.result (g.S.Shelf.shown c.args.shelf.now) (g.S.Shelf.shown c.said-said.new.shelf) (g.K.Sink.shown c.args.out.now) (g.K.Sink.shown c.end_with.new.out) c.said-said.result c.said-said.ensures.said c.said-said.ensures.memory c.end_with.ensures.ends)

pub returns-clause-ended : goal.returns-clause-ended
returns-clause-ended g c = ended (command_of (map string_bytes c.args.words.now)) c.end_with.result (g.S.Shelf.shown c.args.shelf.now) (g.S.Shelf.shown c.said-said.new.shelf) (g.K.Sink.shown c.args.out.now) (g.K.Sink.shown c.end_with.new.out) (is_run (command_of (map string_bytes c.args.words.now)) c.end_with.result (g.S.Shelf.shown c.args.shelf.now) (g.S.Shelf.shown c.said-said.new.shelf) (g.K.Sink.shown c.args.out.now) (g.K.Sink.shown c.end_with.new.out) c.said-said.result c.said-said.ensures.said c.said-said.ensures.memory c.end_with.ensures.ends)

pub returns-clause-no_command : goal.returns-clause-no_command
returns-clause-no_command g c = no_command (command_of (map string_bytes c.args.words.now)) c.end_with.result (g.S.Shelf.shown c.args.shelf.now) (g.S.Shelf.shown c.said-said.new.shelf) (g.K.Sink.shown c.args.out.now) (g.K.Sink.shown c.end_with.new.out) (is_run (command_of (map string_bytes c.args.words.now)) c.end_with.result (g.S.Shelf.shown c.args.shelf.now) (g.S.Shelf.shown c.said-said.new.shelf) (g.K.Sink.shown c.args.out.now) (g.K.Sink.shown c.end_with.new.out) c.said-said.result c.said-said.ensures.said c.said-said.ensures.memory c.end_with.ensures.ends)

pub returns-clause-refused : goal.returns-clause-refused
returns-clause-refused g c = refuses (command_of (map string_bytes c.args.words.now)) c.end_with.result (g.S.Shelf.shown c.args.shelf.now) (g.S.Shelf.shown c.said-said.new.shelf) (g.K.Sink.shown c.args.out.now) (g.K.Sink.shown c.end_with.new.out) (is_run (command_of (map string_bytes c.args.words.now)) c.end_with.result (g.S.Shelf.shown c.args.shelf.now) (g.S.Shelf.shown c.said-said.new.shelf) (g.K.Sink.shown c.args.out.now) (g.K.Sink.shown c.end_with.new.out) c.said-said.result c.said-said.ensures.said c.said-said.ensures.memory c.end_with.ensures.ends)

pub returns-clause-missing : goal.returns-clause-missing
returns-clause-missing g c = misses (command_of (map string_bytes c.args.words.now)) c.end_with.result (g.S.Shelf.shown c.args.shelf.now) (g.S.Shelf.shown c.said-said.new.shelf) (g.K.Sink.shown c.args.out.now) (g.K.Sink.shown c.end_with.new.out) (is_run (command_of (map string_bytes c.args.words.now)) c.end_with.result (g.S.Shelf.shown c.args.shelf.now) (g.S.Shelf.shown c.said-said.new.shelf) (g.K.Sink.shown c.args.out.now) (g.K.Sink.shown c.end_with.new.out) c.said-said.result c.said-said.ensures.said c.said-said.ensures.memory c.end_with.ensures.ends)

pub returns-clause-unread : goal.returns-clause-unread
returns-clause-unread g c = fails_to_read (command_of (map string_bytes c.args.words.now)) c.end_with.result (g.S.Shelf.shown c.args.shelf.now) (g.S.Shelf.shown c.said-said.new.shelf) (g.K.Sink.shown c.args.out.now) (g.K.Sink.shown c.end_with.new.out) (is_run (command_of (map string_bytes c.args.words.now)) c.end_with.result (g.S.Shelf.shown c.args.shelf.now) (g.S.Shelf.shown c.said-said.new.shelf) (g.K.Sink.shown c.args.out.now) (g.K.Sink.shown c.end_with.new.out) c.said-said.result c.said-said.ensures.said c.said-said.ensures.memory c.end_with.ensures.ends)

pub returns-clause-unprinted : goal.returns-clause-unprinted
returns-clause-unprinted g c = unprinted (command_of (map string_bytes c.args.words.now)) c.end_with.result (g.S.Shelf.shown c.args.shelf.now) (g.S.Shelf.shown c.said-said.new.shelf) (g.K.Sink.shown c.args.out.now) (g.K.Sink.shown c.end_with.new.out) (is_run (command_of (map string_bytes c.args.words.now)) c.end_with.result (g.S.Shelf.shown c.args.shelf.now) (g.S.Shelf.shown c.said-said.new.shelf) (g.K.Sink.shown c.args.out.now) (g.K.Sink.shown c.end_with.new.out) c.said-said.result c.said-said.ensures.said c.said-said.ensures.memory c.end_with.ensures.ends)

pub returns-clause-too_long : goal.returns-clause-too_long
returns-clause-too_long g c = is_long (command_of (map string_bytes c.args.words.now)) c.end_with.result (g.S.Shelf.shown c.args.shelf.now) (g.S.Shelf.shown c.said-said.new.shelf) (g.K.Sink.shown c.args.out.now) (g.K.Sink.shown c.end_with.new.out) (is_run (command_of (map string_bytes c.args.words.now)) c.end_with.result (g.S.Shelf.shown c.args.shelf.now) (g.S.Shelf.shown c.said-said.new.shelf) (g.K.Sink.shown c.args.out.now) (g.K.Sink.shown c.end_with.new.out) c.said-said.result c.said-said.ensures.said c.said-said.ensures.memory c.end_with.ensures.ends)

pub returns-clause-quiet : goal.returns-clause-quiet
returns-clause-quiet g c = quiet (command_of (map string_bytes c.args.words.now)) c.end_with.result (g.S.Shelf.shown c.args.shelf.now) (g.S.Shelf.shown c.said-said.new.shelf) (g.K.Sink.shown c.args.out.now) (g.K.Sink.shown c.end_with.new.out) (is_run (command_of (map string_bytes c.args.words.now)) c.end_with.result (g.S.Shelf.shown c.args.shelf.now) (g.S.Shelf.shown c.said-said.new.shelf) (g.K.Sink.shown c.args.out.now) (g.K.Sink.shown c.end_with.new.out) c.said-said.result c.said-said.ensures.said c.said-said.ensures.memory c.end_with.ensures.ends)

pub returns-clause-wrote : goal.returns-clause-wrote
returns-clause-wrote g c = wrote (command_of (map string_bytes c.args.words.now)) c.end_with.result (g.S.Shelf.shown c.args.shelf.now) (g.S.Shelf.shown c.said-said.new.shelf) (g.K.Sink.shown c.args.out.now) (g.K.Sink.shown c.end_with.new.out) (is_run (command_of (map string_bytes c.args.words.now)) c.end_with.result (g.S.Shelf.shown c.args.shelf.now) (g.S.Shelf.shown c.said-said.new.shelf) (g.K.Sink.shown c.args.out.now) (g.K.Sink.shown c.end_with.new.out) c.said-said.result c.said-said.ensures.said c.said-said.ensures.memory c.end_with.ensures.ends)

pub returns-clause-writes : goal.returns-clause-writes
returns-clause-writes g c = writes (command_of (map string_bytes c.args.words.now)) c.end_with.result (g.S.Shelf.shown c.args.shelf.now) (g.S.Shelf.shown c.said-said.new.shelf) (g.K.Sink.shown c.args.out.now) (g.K.Sink.shown c.end_with.new.out) (is_run (command_of (map string_bytes c.args.words.now)) c.end_with.result (g.S.Shelf.shown c.args.shelf.now) (g.S.Shelf.shown c.said-said.new.shelf) (g.K.Sink.shown c.args.out.now) (g.K.Sink.shown c.end_with.new.out) c.said-said.result c.said-said.ensures.said c.said-said.ensures.memory c.end_with.ensures.ends)

pub returns-clause-only_reads : goal.returns-clause-only_reads
returns-clause-only_reads g c = only_reads (command_of (map string_bytes c.args.words.now)) c.end_with.result (g.S.Shelf.shown c.args.shelf.now) (g.S.Shelf.shown c.said-said.new.shelf) (g.K.Sink.shown c.args.out.now) (g.K.Sink.shown c.end_with.new.out) (is_run (command_of (map string_bytes c.args.words.now)) c.end_with.result (g.S.Shelf.shown c.args.shelf.now) (g.S.Shelf.shown c.said-said.new.shelf) (g.K.Sink.shown c.args.out.now) (g.K.Sink.shown c.end_with.new.out) c.said-said.result c.said-said.ensures.said c.said-said.ensures.memory c.end_with.ensures.ends)

pub returns-clause-generate_only_writes : goal.returns-clause-generate_only_writes
returns-clause-generate_only_writes g c = generate_only (command_of (map string_bytes c.args.words.now)) c.end_with.result (g.S.Shelf.shown c.args.shelf.now) (g.S.Shelf.shown c.said-said.new.shelf) (g.K.Sink.shown c.args.out.now) (g.K.Sink.shown c.end_with.new.out) (is_run (command_of (map string_bytes c.args.words.now)) c.end_with.result (g.S.Shelf.shown c.args.shelf.now) (g.S.Shelf.shown c.said-said.new.shelf) (g.K.Sink.shown c.args.out.now) (g.K.Sink.shown c.end_with.new.out) c.said-said.result c.said-said.ensures.said c.said-said.ensures.memory c.end_with.ensures.ends)

pub returns-clause-idle : goal.returns-clause-idle
returns-clause-idle g c = idle (command_of (map string_bytes c.args.words.now)) c.end_with.result (g.S.Shelf.shown c.args.shelf.now) (g.S.Shelf.shown c.said-said.new.shelf) (g.K.Sink.shown c.args.out.now) (g.K.Sink.shown c.end_with.new.out) (is_run (command_of (map string_bytes c.args.words.now)) c.end_with.result (g.S.Shelf.shown c.args.shelf.now) (g.S.Shelf.shown c.said-said.new.shelf) (g.K.Sink.shown c.args.out.now) (g.K.Sink.shown c.end_with.new.out) c.said-said.result c.said-said.ensures.said c.said-said.ensures.memory c.end_with.ensures.ends)

pub returns-clause-told : goal.returns-clause-told
returns-clause-told g c = tells (command_of (map string_bytes c.args.words.now)) c.end_with.result (g.S.Shelf.shown c.args.shelf.now) (g.S.Shelf.shown c.said-said.new.shelf) (g.K.Sink.shown c.args.out.now) (g.K.Sink.shown c.end_with.new.out) (is_run (command_of (map string_bytes c.args.words.now)) c.end_with.result (g.S.Shelf.shown c.args.shelf.now) (g.S.Shelf.shown c.said-said.new.shelf) (g.K.Sink.shown c.args.out.now) (g.K.Sink.shown c.end_with.new.out) c.said-said.result c.said-said.ensures.said c.said-said.ensures.memory c.end_with.ensures.ends)

pub returns-clause-silent : goal.returns-clause-silent
returns-clause-silent g c = silent (command_of (map string_bytes c.args.words.now)) c.end_with.result (g.S.Shelf.shown c.args.shelf.now) (g.S.Shelf.shown c.said-said.new.shelf) (g.K.Sink.shown c.args.out.now) (g.K.Sink.shown c.end_with.new.out) (is_run (command_of (map string_bytes c.args.words.now)) c.end_with.result (g.S.Shelf.shown c.args.shelf.now) (g.S.Shelf.shown c.said-said.new.shelf) (g.K.Sink.shown c.args.out.now) (g.K.Sink.shown c.end_with.new.out) c.said-said.result c.said-said.ensures.said c.said-said.ensures.memory c.end_with.ensures.ends)

pub returns-clause-refused_words : goal.returns-clause-refused_words
returns-clause-refused_words g c = refused_words (command_of (map string_bytes c.args.words.now)) (map string_bytes c.args.words.now) c.end_with.result (g.K.Sink.shown c.args.out.now) (g.K.Sink.shown c.end_with.new.out) c.said-said.result c.said-said.ensures.refused c.end_with.ensures.ends

pub returns-clause-scheduled : goal.returns-clause-scheduled
returns-clause-scheduled g c = scheduled (command_of (map string_bytes c.args.words.now)) c.end_with.result (g.S.Shelf.shown c.args.shelf.now) (g.S.Shelf.shown c.said-said.new.shelf) (g.K.Sink.shown c.args.out.now) (g.K.Sink.shown c.end_with.new.out) (is_run (command_of (map string_bytes c.args.words.now)) c.end_with.result (g.S.Shelf.shown c.args.shelf.now) (g.S.Shelf.shown c.said-said.new.shelf) (g.K.Sink.shown c.args.out.now) (g.K.Sink.shown c.end_with.new.out) c.said-said.result c.said-said.ensures.said c.said-said.ensures.memory c.end_with.ensures.ends)

pub returns-clause-schedule_faulty : goal.returns-clause-schedule_faulty
returns-clause-schedule_faulty g c = schedule_faulty (command_of (map string_bytes c.args.words.now)) c.end_with.result (g.S.Shelf.shown c.args.shelf.now) (g.S.Shelf.shown c.said-said.new.shelf) (g.K.Sink.shown c.args.out.now) (g.K.Sink.shown c.end_with.new.out) (is_run (command_of (map string_bytes c.args.words.now)) c.end_with.result (g.S.Shelf.shown c.args.shelf.now) (g.S.Shelf.shown c.said-said.new.shelf) (g.K.Sink.shown c.args.out.now) (g.K.Sink.shown c.end_with.new.out) c.said-said.result c.said-said.ensures.said c.said-said.ensures.memory c.end_with.ensures.ends)

pub returns-clause-schedule_unwritten : goal.returns-clause-schedule_unwritten
returns-clause-schedule_unwritten g c = schedule_unwritten (command_of (map string_bytes c.args.words.now)) c.end_with.result (g.S.Shelf.shown c.args.shelf.now) (g.S.Shelf.shown c.said-said.new.shelf) (g.K.Sink.shown c.args.out.now) (g.K.Sink.shown c.end_with.new.out) (is_run (command_of (map string_bytes c.args.words.now)) c.end_with.result (g.S.Shelf.shown c.args.shelf.now) (g.S.Shelf.shown c.said-said.new.shelf) (g.K.Sink.shown c.args.out.now) (g.K.Sink.shown c.end_with.new.out) c.said-said.result c.said-said.ensures.said c.said-said.ensures.memory c.end_with.ensures.ends)

pub returns-clause-schedule_checked : goal.returns-clause-schedule_checked
returns-clause-schedule_checked g c = schedule_checked (command_of (map string_bytes c.args.words.now)) c.end_with.result (g.S.Shelf.shown c.args.shelf.now) (g.S.Shelf.shown c.said-said.new.shelf) (g.K.Sink.shown c.args.out.now) (g.K.Sink.shown c.end_with.new.out) (is_run (command_of (map string_bytes c.args.words.now)) c.end_with.result (g.S.Shelf.shown c.args.shelf.now) (g.S.Shelf.shown c.said-said.new.shelf) (g.K.Sink.shown c.args.out.now) (g.K.Sink.shown c.end_with.new.out) c.said-said.result c.said-said.ensures.said c.said-said.ensures.memory c.end_with.ensures.ends)

pub returns-clause-schedcheck_faulty : goal.returns-clause-schedcheck_faulty
returns-clause-schedcheck_faulty g c = schedcheck_faulty (command_of (map string_bytes c.args.words.now)) c.end_with.result (g.S.Shelf.shown c.args.shelf.now) (g.S.Shelf.shown c.said-said.new.shelf) (g.K.Sink.shown c.args.out.now) (g.K.Sink.shown c.end_with.new.out) (is_run (command_of (map string_bytes c.args.words.now)) c.end_with.result (g.S.Shelf.shown c.args.shelf.now) (g.S.Shelf.shown c.said-said.new.shelf) (g.K.Sink.shown c.args.out.now) (g.K.Sink.shown c.end_with.new.out) c.said-said.result c.said-said.ensures.said c.said-said.ensures.memory c.end_with.ensures.ends)

pub returns-clause-pegged : goal.returns-clause-pegged
returns-clause-pegged g c = pegged (command_of (map string_bytes c.args.words.now)) c.end_with.result (g.S.Shelf.shown c.args.shelf.now) (g.S.Shelf.shown c.said-said.new.shelf) (g.K.Sink.shown c.args.out.now) (g.K.Sink.shown c.end_with.new.out) (is_run (command_of (map string_bytes c.args.words.now)) c.end_with.result (g.S.Shelf.shown c.args.shelf.now) (g.S.Shelf.shown c.said-said.new.shelf) (g.K.Sink.shown c.args.out.now) (g.K.Sink.shown c.end_with.new.out) c.said-said.result c.said-said.ensures.said c.said-said.ensures.memory c.end_with.ensures.ends)

pub returns-clause-peg_faulty : goal.returns-clause-peg_faulty
returns-clause-peg_faulty g c = peg_faulty (command_of (map string_bytes c.args.words.now)) c.end_with.result (g.S.Shelf.shown c.args.shelf.now) (g.S.Shelf.shown c.said-said.new.shelf) (g.K.Sink.shown c.args.out.now) (g.K.Sink.shown c.end_with.new.out) (is_run (command_of (map string_bytes c.args.words.now)) c.end_with.result (g.S.Shelf.shown c.args.shelf.now) (g.S.Shelf.shown c.said-said.new.shelf) (g.K.Sink.shown c.args.out.now) (g.K.Sink.shown c.end_with.new.out) c.said-said.result c.said-said.ensures.said c.said-said.ensures.memory c.end_with.ensures.ends)

pub returns-clause-peg_unwritten : goal.returns-clause-peg_unwritten
returns-clause-peg_unwritten g c = peg_unwritten (command_of (map string_bytes c.args.words.now)) c.end_with.result (g.S.Shelf.shown c.args.shelf.now) (g.S.Shelf.shown c.said-said.new.shelf) (g.K.Sink.shown c.args.out.now) (g.K.Sink.shown c.end_with.new.out) (is_run (command_of (map string_bytes c.args.words.now)) c.end_with.result (g.S.Shelf.shown c.args.shelf.now) (g.S.Shelf.shown c.said-said.new.shelf) (g.K.Sink.shown c.args.out.now) (g.K.Sink.shown c.end_with.new.out) c.said-said.result c.said-said.ensures.said c.said-said.ensures.memory c.end_with.ensures.ends)

pub returns-clause-completed : goal.returns-clause-completed
returns-clause-completed g c = completed (command_of (map string_bytes c.args.words.now)) c.end_with.result (g.S.Shelf.shown c.args.shelf.now) (g.S.Shelf.shown c.said-said.new.shelf) (g.K.Sink.shown c.args.out.now) (g.K.Sink.shown c.end_with.new.out) (is_run (command_of (map string_bytes c.args.words.now)) c.end_with.result (g.S.Shelf.shown c.args.shelf.now) (g.S.Shelf.shown c.said-said.new.shelf) (g.K.Sink.shown c.args.out.now) (g.K.Sink.shown c.end_with.new.out) c.said-said.result c.said-said.ensures.said c.said-said.ensures.memory c.end_with.ensures.ends)

pub returns-clause-complete_faulty : goal.returns-clause-complete_faulty
returns-clause-complete_faulty g c = complete_faulty (command_of (map string_bytes c.args.words.now)) c.end_with.result (g.S.Shelf.shown c.args.shelf.now) (g.S.Shelf.shown c.said-said.new.shelf) (g.K.Sink.shown c.args.out.now) (g.K.Sink.shown c.end_with.new.out) (is_run (command_of (map string_bytes c.args.words.now)) c.end_with.result (g.S.Shelf.shown c.args.shelf.now) (g.S.Shelf.shown c.said-said.new.shelf) (g.K.Sink.shown c.args.out.now) (g.K.Sink.shown c.end_with.new.out) c.said-said.result c.said-said.ensures.said c.said-said.ensures.memory c.end_with.ensures.ends)

pub returns-clause-complete_unwritten : goal.returns-clause-complete_unwritten
returns-clause-complete_unwritten g c = complete_unwritten (command_of (map string_bytes c.args.words.now)) c.end_with.result (g.S.Shelf.shown c.args.shelf.now) (g.S.Shelf.shown c.said-said.new.shelf) (g.K.Sink.shown c.args.out.now) (g.K.Sink.shown c.end_with.new.out) (is_run (command_of (map string_bytes c.args.words.now)) c.end_with.result (g.S.Shelf.shown c.args.shelf.now) (g.S.Shelf.shown c.said-said.new.shelf) (g.K.Sink.shown c.args.out.now) (g.K.Sink.shown c.end_with.new.out) c.said-said.result c.said-said.ensures.said c.said-said.ensures.memory c.end_with.ensures.ends)

pub returns-clause-drawn : goal.returns-clause-drawn
returns-clause-drawn g c = drawn (command_of (map string_bytes c.args.words.now)) c.end_with.result (g.S.Shelf.shown c.args.shelf.now) (g.S.Shelf.shown c.said-said.new.shelf) (g.K.Sink.shown c.args.out.now) (g.K.Sink.shown c.end_with.new.out) (is_run (command_of (map string_bytes c.args.words.now)) c.end_with.result (g.S.Shelf.shown c.args.shelf.now) (g.S.Shelf.shown c.said-said.new.shelf) (g.K.Sink.shown c.args.out.now) (g.K.Sink.shown c.end_with.new.out) c.said-said.result c.said-said.ensures.said c.said-said.ensures.memory c.end_with.ensures.ends)

pub returns-clause-draw_faulty : goal.returns-clause-draw_faulty
returns-clause-draw_faulty g c = draw_faulty (command_of (map string_bytes c.args.words.now)) c.end_with.result (g.S.Shelf.shown c.args.shelf.now) (g.S.Shelf.shown c.said-said.new.shelf) (g.K.Sink.shown c.args.out.now) (g.K.Sink.shown c.end_with.new.out) (is_run (command_of (map string_bytes c.args.words.now)) c.end_with.result (g.S.Shelf.shown c.args.shelf.now) (g.S.Shelf.shown c.said-said.new.shelf) (g.K.Sink.shown c.args.out.now) (g.K.Sink.shown c.end_with.new.out) c.said-said.result c.said-said.ensures.said c.said-said.ensures.memory c.end_with.ensures.ends)

pub returns-clause-draw_unwritten : goal.returns-clause-draw_unwritten
returns-clause-draw_unwritten g c = draw_unwritten (command_of (map string_bytes c.args.words.now)) c.end_with.result (g.S.Shelf.shown c.args.shelf.now) (g.S.Shelf.shown c.said-said.new.shelf) (g.K.Sink.shown c.args.out.now) (g.K.Sink.shown c.end_with.new.out) (is_run (command_of (map string_bytes c.args.words.now)) c.end_with.result (g.S.Shelf.shown c.args.shelf.now) (g.S.Shelf.shown c.said-said.new.shelf) (g.K.Sink.shown c.args.out.now) (g.K.Sink.shown c.end_with.new.out) c.said-said.result c.said-said.ensures.said c.said-said.ensures.memory c.end_with.ensures.ends)

pub returns-clause-replanned : goal.returns-clause-replanned
returns-clause-replanned g c = replanned (command_of (map string_bytes c.args.words.now)) c.end_with.result (g.S.Shelf.shown c.args.shelf.now) (g.S.Shelf.shown c.said-said.new.shelf) (g.K.Sink.shown c.args.out.now) (g.K.Sink.shown c.end_with.new.out) (is_run (command_of (map string_bytes c.args.words.now)) c.end_with.result (g.S.Shelf.shown c.args.shelf.now) (g.S.Shelf.shown c.said-said.new.shelf) (g.K.Sink.shown c.args.out.now) (g.K.Sink.shown c.end_with.new.out) c.said-said.result c.said-said.ensures.said c.said-said.ensures.memory c.end_with.ensures.ends)

pub returns-clause-replan_infeasible : goal.returns-clause-replan_infeasible
returns-clause-replan_infeasible g c = replan_infeasible (command_of (map string_bytes c.args.words.now)) c.end_with.result (g.S.Shelf.shown c.args.shelf.now) (g.S.Shelf.shown c.said-said.new.shelf) (g.K.Sink.shown c.args.out.now) (g.K.Sink.shown c.end_with.new.out) (is_run (command_of (map string_bytes c.args.words.now)) c.end_with.result (g.S.Shelf.shown c.args.shelf.now) (g.S.Shelf.shown c.said-said.new.shelf) (g.K.Sink.shown c.args.out.now) (g.K.Sink.shown c.end_with.new.out) c.said-said.result c.said-said.ensures.said c.said-said.ensures.memory c.end_with.ensures.ends)

pub returns-clause-replan_undecided : goal.returns-clause-replan_undecided
returns-clause-replan_undecided g c = replan_undecided (command_of (map string_bytes c.args.words.now)) c.end_with.result (g.S.Shelf.shown c.args.shelf.now) (g.S.Shelf.shown c.said-said.new.shelf) (g.K.Sink.shown c.args.out.now) (g.K.Sink.shown c.end_with.new.out) (is_run (command_of (map string_bytes c.args.words.now)) c.end_with.result (g.S.Shelf.shown c.args.shelf.now) (g.S.Shelf.shown c.said-said.new.shelf) (g.K.Sink.shown c.args.out.now) (g.K.Sink.shown c.end_with.new.out) c.said-said.result c.said-said.ensures.said c.said-said.ensures.memory c.end_with.ensures.ends)

pub returns-clause-no_rest : goal.returns-clause-no_rest
returns-clause-no_rest g c = no_rest (command_of (map string_bytes c.args.words.now)) c.end_with.result (g.S.Shelf.shown c.args.shelf.now) (g.S.Shelf.shown c.said-said.new.shelf) (g.K.Sink.shown c.args.out.now) (g.K.Sink.shown c.end_with.new.out) (is_run (command_of (map string_bytes c.args.words.now)) c.end_with.result (g.S.Shelf.shown c.args.shelf.now) (g.S.Shelf.shown c.said-said.new.shelf) (g.K.Sink.shown c.args.out.now) (g.K.Sink.shown c.end_with.new.out) c.said-said.result c.said-said.ensures.said c.said-said.ensures.memory c.end_with.ensures.ends)

pub returns-clause-replan_faulty : goal.returns-clause-replan_faulty
returns-clause-replan_faulty g c = replan_faulty (command_of (map string_bytes c.args.words.now)) c.end_with.result (g.S.Shelf.shown c.args.shelf.now) (g.S.Shelf.shown c.said-said.new.shelf) (g.K.Sink.shown c.args.out.now) (g.K.Sink.shown c.end_with.new.out) (is_run (command_of (map string_bytes c.args.words.now)) c.end_with.result (g.S.Shelf.shown c.args.shelf.now) (g.S.Shelf.shown c.said-said.new.shelf) (g.K.Sink.shown c.args.out.now) (g.K.Sink.shown c.end_with.new.out) c.said-said.result c.said-said.ensures.said c.said-said.ensures.memory c.end_with.ensures.ends)

pub returns-clause-replan_unwritten : goal.returns-clause-replan_unwritten
returns-clause-replan_unwritten g c = replan_unwritten (command_of (map string_bytes c.args.words.now)) c.end_with.result (g.S.Shelf.shown c.args.shelf.now) (g.S.Shelf.shown c.said-said.new.shelf) (g.K.Sink.shown c.args.out.now) (g.K.Sink.shown c.end_with.new.out) (is_run (command_of (map string_bytes c.args.words.now)) c.end_with.result (g.S.Shelf.shown c.args.shelf.now) (g.S.Shelf.shown c.said-said.new.shelf) (g.K.Sink.shown c.args.out.now) (g.K.Sink.shown c.end_with.new.out) c.said-said.result c.said-said.ensures.said c.said-said.ensures.memory c.end_with.ensures.ends)

pub returns-clause-replan_wrote_two : goal.returns-clause-replan_wrote_two
returns-clause-replan_wrote_two g c = replan_wrote_two (command_of (map string_bytes c.args.words.now)) c.end_with.result (g.S.Shelf.shown c.args.shelf.now) (g.S.Shelf.shown c.said-said.new.shelf) (g.K.Sink.shown c.args.out.now) (g.K.Sink.shown c.end_with.new.out) (is_run (command_of (map string_bytes c.args.words.now)) c.end_with.result (g.S.Shelf.shown c.args.shelf.now) (g.S.Shelf.shown c.said-said.new.shelf) (g.K.Sink.shown c.args.out.now) (g.K.Sink.shown c.end_with.new.out) c.said-said.result c.said-said.ensures.said c.said-said.ensures.memory c.end_with.ensures.ends)

pub returns-clause-replan_wrote_some : goal.returns-clause-replan_wrote_some
returns-clause-replan_wrote_some g c = replan_wrote_some (command_of (map string_bytes c.args.words.now)) c.end_with.result (g.S.Shelf.shown c.args.shelf.now) (g.S.Shelf.shown c.said-said.new.shelf) (g.K.Sink.shown c.args.out.now) (g.K.Sink.shown c.end_with.new.out) (is_run (command_of (map string_bytes c.args.words.now)) c.end_with.result (g.S.Shelf.shown c.args.shelf.now) (g.S.Shelf.shown c.said-said.new.shelf) (g.K.Sink.shown c.args.out.now) (g.K.Sink.shown c.end_with.new.out) c.said-said.result c.said-said.ensures.said c.said-said.ensures.memory c.end_with.ensures.ends)

pub returns-clause-replan_checks : goal.returns-clause-replan_checks
returns-clause-replan_checks g c = replan_checks (command_of (map string_bytes c.args.words.now)) c.end_with.result (g.S.Shelf.shown c.args.shelf.now) (g.S.Shelf.shown c.said-said.new.shelf) (g.K.Sink.shown c.args.out.now) (g.K.Sink.shown c.end_with.new.out) (is_run (command_of (map string_bytes c.args.words.now)) c.end_with.result (g.S.Shelf.shown c.args.shelf.now) (g.S.Shelf.shown c.said-said.new.shelf) (g.K.Sink.shown c.args.out.now) (g.K.Sink.shown c.end_with.new.out) c.said-said.result c.said-said.ensures.said c.said-said.ensures.memory c.end_with.ensures.ends) c.statuses_are_one.ensures

pub returns-clause-found : goal.returns-clause-found
returns-clause-found g c = run_finds (g.S.Shelf.shown c.args.shelf.now) (g.S.Shelf.shown c.said-said.new.shelf) c.end_with.result (g.K.Sink.shown c.args.out.now) (g.K.Sink.shown c.end_with.new.out) c.said-said.result c.said-said.ensures.found c.end_with.ensures.ends

pub returns-clause-missed : goal.returns-clause-missed
returns-clause-missed g c = run_misses (g.S.Shelf.shown c.args.shelf.now) (g.S.Shelf.shown c.said-said.new.shelf) c.end_with.result (g.K.Sink.shown c.args.out.now) (g.K.Sink.shown c.end_with.new.out) c.said-said.result c.said-said.ensures.found c.end_with.ensures.ends

pub returns-clause-failed : goal.returns-clause-failed
returns-clause-failed g c = run_fails (g.S.Shelf.shown c.args.shelf.now) (g.S.Shelf.shown c.said-said.new.shelf) c.end_with.result (g.K.Sink.shown c.args.out.now) (g.K.Sink.shown c.end_with.new.out) c.said-said.result c.said-said.ensures.found c.end_with.ensures.ends

pub returns-clause-once : goal.returns-clause-once
returns-clause-once g c = run_once (g.S.Shelf.shown c.args.shelf.now) (g.S.Shelf.shown c.said-said.new.shelf) c.end_with.result (g.K.Sink.shown c.args.out.now) (g.K.Sink.shown c.end_with.new.out) c.said-said.result c.said-said.ensures.found c.end_with.ensures.ends

pub returns-clause-appended : goal.returns-clause-appended
returns-clause-appended g c =
    let request = command_of (map string_bytes c.args.words.now) in
    run_appends (writes_of request) (g.S.Shelf.shown c.args.shelf.now) (g.S.Shelf.shown c.said-said.new.shelf) c.end_with.result (g.K.Sink.shown c.args.out.now) (g.K.Sink.shown c.end_with.new.out) c.said-said.result c.said-said.ensures.appended (left_reads (reads_of request) (g.S.Shelf.shown c.args.shelf.now) (g.S.Shelf.shown c.said-said.new.shelf) c.said-said.result c.said-said.ensures.memory) c.end_with.ensures.ends
