use Rattle.std.proofs.Common.{◌∙◌, sym, ap, map, option_map, string_bytes}
use Rattle.clap.specs.Words.{app_of}
use Rattle.command_line.specs.Meant.{request_by}
use Rattle.command_line.proofs.Matched.{given, stopped, untaken}
use Rattle.command_line.proofs.reader.read_words.Goals as goal

pub returns-in-Some-clause-means : goal.returns-in-Some-clause-means
returns-in-Some-clause-means c =
    let words = map string_bytes c.args.words.now in
    sym (ap (λ o. option_map request_by o) c.in-Some.is) ∙ c.command_in.ensures ∙ given (app_of c.in_ok-program.program) words c.in-Ok.matches c.in_ok-program.ensures c.in-Ok.ensures.kinds c.in-Ok.ensures.matches

pub returns-in-Ok-clause-means : goal.returns-in-Ok-clause-means
returns-in-Ok-clause-means c =
    let words = map string_bytes c.args.words.now in
    sym (ap (λ o. option_map request_by o) c.in-None.is) ∙ c.command_in.ensures ∙ given (app_of c.in_ok-program.program) words c.in-Ok.matches c.in_ok-program.ensures c.in-Ok.ensures.kinds c.in-Ok.ensures.matches

pub returns-clause-means : goal.returns-clause-means
returns-clause-means c =
    let words = map string_bytes c.args.words.now in
    stopped (app_of c.in_ok-program.program) words c.in-Err.error c.in_ok-program.ensures c.in-Err.ensures.kinds c.in_ok-text_of_error-in-Err.ensures

pub returns-clause-refused : goal.returns-clause-refused
returns-clause-refused c =
    let words = map string_bytes c.args.words.now in
    λ taken. absurd (untaken (app_of c.in_ok-program.program) words c.in-Err.error c.in_ok-program.ensures c.in-Err.ensures.kinds c.in_ok-text_of_error-in-Err.ensures taken)
