mod RootCuts
mod RootCounts
mod RootLeaves
mod RootTexts
mod RootRounds
mod RootWhole
