-- What is known of each command: the one place of the proofs with an arm a command.
use Rattle.std.proofs.Common.{◌≡◌, ◌∙◌, ℕ, inl, refl, sym, subst, Option, Some, None, arith}
use Rattle.command_line.specs.Words.{Request, version, planning, judging, checking, reporting, generating, demonstrating, upgrading, bounding, scheduling, schedule_checking, pegging, completing, drawing, replanning}
use Rattle.lotplan.specs.Status.{code_of}
use Rattle.lotplan.specs.Showing.{demo_meaning}
use Rattle.lotplan.specs.Run.{meaning_of, no_meaning, version_meaning}
use Rattle.lotplan.specs.declared.status.TheConstants.{DONE, NO_COMMAND}
use Rattle.lotplan.proofs.Kept.{IsCommand, IsKept, still_after}
use Rattle.lotplan.proofs.Outputs.{IsAnswerNumber}
use Rattle.lotplan.proofs.Readings.{IsReading}
use Rattle.lotplan.proofs.Planned.{plan_kept}
use Rattle.lotplan.proofs.Judged.{judge_kept}
use Rattle.lotplan.proofs.Checked.{check_kept}
use Rattle.lotplan.proofs.Reported.{report_kept}
use Rattle.lotplan.proofs.Generated.{generate_kept}
use Rattle.lotplan.proofs.Upgraded.{upgrade_kept}
use Rattle.lotplan.proofs.Bounded.{bound_kept}
use Rattle.lotplan.specs.Scheduling.{Laid, scheduled_word}
use Rattle.lotplan.specs.Pegging.{Pegged, pegged_word}
use Rattle.lotplan.proofs.Extracted.{extract_kept}
use Rattle.lotplan.proofs.Schedchecked.{schedcheck_kept}
use Rattle.lotplan.proofs.Completed.{complete_kept}
use Rattle.lotplan.proofs.Paged.{draw_kept}
use Rattle.lotplan.proofs.Replanned.{replan_kept}

done_number : IsAnswerNumber DONE
done_number = record { unprinted = λ e. omega (arith, e); no_memory = λ e. omega (arith, e) }

never_done : IsReading DONE → ⊥
never_done r = omega (arith, r.low)

version_kept : IsCommand version_meaning
version_kept = record {
  kept = record {
    after = λ old new line status d. still_after version_meaning old new line status refl d.same
        (subst (λ s. IsAnswerNumber (code_of s)) (sym d.ends) done_number)
        (λ r. never_done (subst (λ s. IsReading (code_of s)) d.ends r))
        (subst (λ s. code_of s ≡ DONE) (sym d.ends) refl);
    one = λ laws file s t a b. inl (a ∙ sym b);
    some = λ by file. (DONE, refl);
  };
  command = λ old new line status d e. absurd (omega (arith, subst (λ s. code_of s ≡ NO_COMMAND) d.ends e));
}

demo_kept : (seed : ℕ) → IsCommand (demo_meaning seed)
demo_kept seed = record {
  kept = record {
    after = λ old new line status d. still_after (demo_meaning seed) old new line status refl d.same
        (subst (λ s. IsAnswerNumber (code_of s)) (sym d.ends) done_number)
        (λ r. never_done (subst (λ s. IsReading (code_of s)) d.ends r))
        (subst (λ s. code_of s ≡ DONE) (sym d.ends) refl);
    one = λ laws file s t a b. inl (a ∙ sym b);
    some = λ by file. (DONE, refl);
  };
  command = λ old new line status d e. absurd (omega (arith, subst (λ s. code_of s ≡ NO_COMMAND) d.ends e));
}

-- words that are no command
none_kept : IsKept no_meaning
none_kept = record {
  after = λ old new line status d. still_after no_meaning old new line status refl d.same
      (subst (λ s. IsAnswerNumber (code_of s)) (sym d.ends) (record { unprinted = λ e. omega (arith, e); no_memory = λ e. omega (arith, e) }))
      (λ r. let low = (subst (λ s. IsReading (code_of s)) d.ends r).low in omega (arith, low))
      (subst (λ s. code_of s ≡ NO_COMMAND) (sym d.ends) refl);
  one = λ laws file s t a b. inl (a ∙ sym b);
  some = λ by file. (NO_COMMAND, refl);
}

pub command_kept : (request : Request) → IsCommand (meaning_of (Some request))
command_kept version = version_kept
command_kept (planning m p c search) = plan_kept m p c search
command_kept (judging m p) = judge_kept m p
command_kept (checking m p c) = check_kept m p c
command_kept (reporting m p form) = report_kept m p form
command_kept (generating seed items periods m) = generate_kept seed items periods m
command_kept (demonstrating seed) = demo_kept seed
command_kept (upgrading m n) = upgrade_kept m n
command_kept (bounding m) = bound_kept m
command_kept (scheduling m p s) = extract_kept (Laid s) scheduled_word m p s
command_kept (schedule_checking m p s) = schedcheck_kept m p s
command_kept (pegging m p q) = extract_kept (Pegged q) pegged_word m p q
command_kept (completing m p q) = complete_kept m p q
command_kept (drawing m p h c) = draw_kept m p h c
command_kept (replanning m p first n q c budget) = replan_kept m p first n q c budget

pub kept_of : (request : Option Request) → IsKept (meaning_of request)
kept_of None = none_kept
kept_of (Some request) = (command_kept request).kept
