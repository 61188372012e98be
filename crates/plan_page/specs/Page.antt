-- The page of a plan.
use Rattle.std.specs.Prelude.{ℕ, List, ◌++◌}
use Rattle.lot_sizing.specs.Problem.{Problem}
use Rattle.lot_sizing.specs.Plan.{Plan, cost}
use Rattle.plan_page.specs.Costs.{costs_text}
use Rattle.plan_page.specs.Framing.{contents, key_line}
use Rattle.plan_page.specs.Items.{item_texts}
use Rattle.plan_page.specs.Proving.{proof_text}
use Rattle.plan_page.specs.Resources.{resource_texts}
use Rattle.plan_page.specs.declared.proving.Proved.{Proved}
use Rattle.plan_page.specs.declared.style.TheConstants.{END, HEAD, ITEMS, STYLE, TITLE}

-- ---- what no model changes, as the code's constants have it
-- the head, up to the style
unfoldable pub head_text : List ℕ
head_text = HEAD.now

-- the style, and the end of the head
unfoldable pub style_text : List ℕ
style_text = STYLE.now

unfoldable pub title_text : List ℕ
title_text = TITLE.now

-- what the marks of the items' charts look like
unfoldable pub marks_text : List ℕ
marks_text = ITEMS.now

unfoldable pub end_text : List ℕ
end_text = END.now

-- ---- the page
-- the sections: the cost, what is proved of it, what it is made of, the resources and the items
unfoldable pub main_text : Problem → Plan → Proved → List ℕ
main_text m p proved =
    title_text ++ (key_line m (cost m p) ++ (proof_text (cost m p) proved ++ (costs_text m p
    ++ (resource_texts m p ++ (marks_text ++ (item_texts m p ++ end_text))))))

-- the page of a plan, with what is proved of its cost
unfoldable pub page_text : Problem → Plan → Proved → List ℕ
page_text m p proved = head_text ++ (style_text ++ (contents m ++ main_text m p proved))
