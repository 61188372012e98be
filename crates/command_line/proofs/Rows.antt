-- The program and its commands, row by row of the source's table.
use Rattle.std.proofs.Common.{◌≡◌, ◌∙◌, ◌<◌, ◌+◌, ◌++◌, ℕ, List, [], ◌∷◌, get_or, length, map, refl, ap, take}
use Rattle.std.specs.List.{fold}
use Rattle.std.proofs.lemmas.List.{take_more}
use Rattle.std.proofs.lemmas.List.Sums.{fold_push}
use Rattle.clap.specs.Words.{App, Text, new_app, with_rule, with_subcommand}
use Rattle.command_line.specs.Choices.{choice_of}
use Rattle.command_line.specs.Grammar.{argument_rule, base_app, choice, placed, subcommand}
use Rattle.command_line.specs.declared.table.Argument.{Argument}
use Rattle.command_line.specs.declared.table.Choice.{Choice}
use Rattle.command_line.specs.declared.table.Row.{Row}

abbrev pub id_of : Argument → Text
id_of a = a.id.now

abbrev pub app_of_row : Row → App
app_of_row r = subcommand r.name.now (map id_of r.arguments.now) (map choice_of r.options.now)

-- the program with these rows
abbrev pub grown : List Row → App
grown rows = fold (λ a r. with_subcommand a (app_of_row r).top) base_app rows

pub row_more : (rows : List Row) (i : ℕ) (d : Row) → i < length rows → grown (take (i + 1) rows) ≡ with_subcommand (grown (take i rows)) (app_of_row (get_or rows i d)).top
row_more rows i d h = ap grown (take_more rows i d h) ∙ fold_push (λ a r. with_subcommand a (app_of_row r).top) base_app (take i rows) (get_or rows i d)

map_push : {A B : Type 0} (f : A → B) (xs : List A) (x : A) → map f (xs ++ x ∷ []) ≡ map f xs ++ f x ∷ []
map_push f [] x = refl
map_push f (y ∷ ys) x = ap (λ l. f y ∷ l) (map_push f ys x)

pub argument_more : (name : Text) (list : List Argument) (i : ℕ) (d : Argument) → i < length list
    → placed name (map id_of (take (i + 1) list)) ≡ with_rule (placed name (map id_of (take i list))) (argument_rule (get_or list i d).id.now)
argument_more name list i d h =
    ap (λ l. placed name (map id_of l)) (take_more list i d h) ∙ ap (placed name) (map_push id_of (take i list) (get_or list i d))
    ∙ fold_push (λ a id. with_rule a (argument_rule id)) (new_app name) (map id_of (take i list)) (get_or list i d).id.now

pub option_more : (name : Text) (ids : List Text) (list : List Choice) (i : ℕ) (d : Choice) → i < length list
    → subcommand name ids (map choice_of (take (i + 1) list)) ≡ with_rule (subcommand name ids (map choice_of (take i list))) (choice (choice_of (get_or list i d)))
option_more name ids list i d h =
    ap (λ l. subcommand name ids (map choice_of l)) (take_more list i d h) ∙ ap (subcommand name ids) (map_push choice_of (take i list) (get_or list i d))
    ∙ fold_push (λ a o. with_rule a (choice o)) (placed name ids) (map choice_of (take i list)) (choice_of (get_or list i d))
