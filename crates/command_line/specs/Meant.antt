-- What the program's own values stand for.
use Rattle.std.specs.Prelude.{◌≡◌, ⊤, ℕ, List, Option, Some, None, codes, option_map}
use Rattle.command_line.specs.Words.{Request, Search, AreTaken, version, planning, judging, checking, reporting, generating, demonstrating, upgrading, bounding, scheduling, schedule_checking, pegging, completing, drawing, replanning}
use Rattle.command_line.specs.declared.commands.Command.{Command}
use Rattle.command_line.specs.declared.commands.Command.TheVariants as command
use Rattle.command_line.specs.declared.commands.Reading.{Reading}
use Rattle.command_line.specs.declared.commands.Search.{Search as HeldSearch}
use Rattle.command_line.specs.declared.commands.Reading.TheVariants as reading

-- how a plan is searched
abbrev pub search_by : HeldSearch → Search
search_by s = record { budget = s.budget; start = option_map (λ f. f.now) s.start; gap = s.gap; seconds = s.seconds; newest = s.newest }

-- what a command asks for
abbrev pub request_by : Command → Request
request_by command.Name = version
request_by (command.Plan names search) = planning names.model.now names.plan.now names.certificate.now (search_by search)
request_by (command.Judge names) = judging names.model.now names.plan.now
request_by (command.Check names) = checking names.model.now names.plan.now names.certificate.now
request_by (command.Upgrade names) = upgrading names.model.now names.upgraded.now
request_by (command.Bound model) = bounding model.now
request_by (command.Report names form) = reporting names.model.now names.plan.now form
request_by (command.Generate seed items periods model) = generating seed items periods model.now
request_by (command.Demo seed) = demonstrating seed
request_by (command.Schedule names) = scheduling names.model.now names.plan.now names.schedule.now
request_by (command.CheckSchedule names) = schedule_checking names.model.now names.plan.now names.schedule.now
request_by (command.Peg names) = pegging names.model.now names.plan.now names.pegs.now
request_by (command.Complete names) = completing names.model.now names.quantities.now names.completed.now
request_by (command.Draw names certificate) = drawing names.model.now names.plan.now names.page.now (option_map (λ c. c.now) certificate)
request_by (command.Replan names periods budget) = replanning names.model.now names.plan.now periods names.next_model.now names.next_plan.now names.certificate.now budget

-- what the words were read as
abbrev pub read_as : Reading → Option Request
read_as (reading.Command c) = Some (request_by c)
read_as (reading.Text text) = None

-- words that the parse takes are refused by this line, for their names and numbers
abbrev pub IsRefusedText : List (List ℕ) → Reading → Type 0
IsRefusedText words (reading.Text text) = AreTaken words → text.bytes.items ≡ codes "refused words\n"
IsRefusedText words (reading.Command c) = ⊤
