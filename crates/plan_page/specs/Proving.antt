-- What is proved of a plan's cost, as it is shown.
use Rattle.std.specs.Prelude.{ℕ, ◌-◌, ◌*◌, ◌/◌, ◌%◌, List, [], ◌++◌, codes, decimal, if◌then◌else◌, max, min, nat_lt}
use Rattle.plan_page.specs.Numbers.{grouped, permille}
use Rattle.plan_page.specs.declared.proving.Proved.{Proved}
use Rattle.plan_page.specs.declared.proving.Proved.TheVariants.{Nothing, Optimal, Bound}

-- how much of a bar of 800 pixels the bound has
unfoldable pub bound_width : ℕ → ℕ → ℕ
bound_width cost bound = min bound cost * 800 / max cost 1

-- the bar of the bound and the gap
unfoldable pub proof_bar : ℕ → ℕ → List ℕ
proof_bar cost bound =
    codes "<svg class=\"bar\" viewBox=\"0 0 800 24\" preserveAspectRatio=\"none\" role=\"img\" aria-label=\"Bound and gap\"><rect class=\"bound\" x=\"0\" y=\"0\" width=\""
    ++ (decimal (bound_width cost bound) ++ (codes "\" height=\"24\"><title>Proved: " ++ (grouped bound
    ++ (codes "</title></rect><rect class=\"gap\" x=\"" ++ (decimal (bound_width cost bound) ++ (codes "\" y=\"0\" width=\"" ++ (decimal (800 - bound_width cost bound)
    ++ (codes "\" height=\"24\"><title>Gap: " ++ (grouped (cost - bound) ++ codes "</title></rect></svg>\n")))))))))

-- what could be saved at most, with the percentage rounded up to a tenth
unfoldable pub gap_text : ℕ → ℕ → List ℕ
gap_text cost bound =
    codes "<p>No plan costs less than <b>" ++ (grouped bound ++ (codes "</b>: at most <b>" ++ (grouped (cost - bound) ++ (codes "</b> of " ++ (grouped cost
    ++ (codes ", " ++ (decimal (permille (cost - bound) cost / 10) ++ (codes "." ++ (decimal (permille (cost - bound) cost % 10) ++ codes " percent, could be saved.</p>\n")))))))))

-- the sentence of a bound
unfoldable pub sentence : ℕ → ℕ → List ℕ
sentence cost bound = if nat_lt bound cost then gap_text cost bound else codes "<p>No plan costs less.</p>\n"

-- what a bound says of a cost
unfoldable pub bound_text : ℕ → ℕ → List ℕ
bound_text cost bound =
    codes "<section id=\"proof\"><h2>Proof</h2>\n" ++ (sentence cost bound
    ++ (proof_bar cost bound ++ codes "</section>\n"))

-- what is proved of a cost
unfoldable pub proof_text : ℕ → Proved → List ℕ
proof_text cost Nothing = []
proof_text cost Optimal = bound_text cost cost
proof_text cost (Bound bound) = bound_text cost bound
