use Rattle.plan_page.proofs.numbers.GroupedDisplay.+fmt.Given as goal

-- the number
abbrev pub decreases-fmt : goal.decreases-fmt
decreases-fmt g l = l.self.now.0
