-- What stands around the sections: the contents, and the numbers at the top.
use Rattle.std.specs.Prelude.{ℕ, List, ◌++◌, codes, decimal}
use Rattle.lot_sizing.specs.Problem.{Problem, item_at, item_count, resource_at, resource_count}
use Rattle.lot_sizing.specs.Texts.{join_to}
use Rattle.plan_page.specs.Numbers.{grouped}

unfoldable pub resource_link : Problem → ℕ → List ℕ
resource_link m k = codes "<li><a href=\"#r" ++ (decimal k ++ (codes "\">" ++ ((resource_at m k).name ++ codes "</a></li>\n")))

unfoldable pub resource_links : Problem → List ℕ
resource_links m = join_to (resource_count m) (resource_link m)

unfoldable pub item_link : Problem → ℕ → List ℕ
item_link m i = codes "<li><a href=\"#i" ++ (decimal i ++ (codes "\">" ++ ((item_at m i).name ++ codes "</a></li>\n")))

unfoldable pub item_links : Problem → List ℕ
item_links m = join_to (item_count m) (item_link m)

-- a link to the costs, each resource and each item
unfoldable pub contents : Problem → List ℕ
contents m =
    codes "<nav aria-label=\"Contents\"><ul>\n<li><a href=\"#costs\">Costs</a></li>\n</ul><h2>Resources</h2><ul>\n"
    ++ (resource_links m ++ (codes "</ul><h2>Items</h2><ul>\n" ++ (item_links m ++ codes "</ul></nav>\n")))

-- the plan's cost, and how many items, resources and periods there are
unfoldable pub key_line : Problem → ℕ → List ℕ
key_line m cost =
    codes "<p class=\"key\"><span>Cost <b>" ++ (grouped cost ++ (codes "</b></span><span>Items <b>" ++ (decimal (item_count m)
    ++ (codes "</b></span><span>Resources <b>" ++ (decimal (resource_count m) ++ (codes "</b></span><span>Periods <b>" ++ (decimal m.periods ++ codes "</b></span></p>\n")))))))
