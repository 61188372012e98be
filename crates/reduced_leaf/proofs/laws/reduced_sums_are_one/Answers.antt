use Rattle.late_starts.specs.Charges.{ChargesAgree, ChargesAreOne}
use Rattle.reduced_groups.specs.Laws.{KnownAreAlike, NumbersAreChoices, NumbersAreOne, NumbersByBoth, WorkByBoth}
use Rattle.reduced_leaf.proofs.Same.{choices_one, sums_one}
use Rattle.reduced_leaf.proofs.Faulty.{Grounds, faults_exclude}
use Rattle.reduced_leaf.proofs.OneFault.{faults_are_one}
use Rattle.reduced_leaf.proofs.laws.reduced_sums_are_one.Goals as goal

grounds : KnownAreAlike → NumbersByBoth → NumbersAreOne → NumbersAreChoices → WorkByBoth → ChargesAreOne → ChargesAgree → Grounds
grounds alike both one choices work charges agree = record { alike = alike; both = both; one = one; choices = choices; work = work; charges = charges; agree = agree }

pub returns-clause-one : goal.returns-clause-one
returns-clause-one c = λ m rank total more rows times den shapes ranks totals others a b is also.
    let laws = c.numbers_are_one.ensures in
    sums_one m rank total more rows times den shapes ranks totals others laws.known laws.both laws.one a b is also

pub returns-clause-choices : goal.returns-clause-choices
returns-clause-choices c = λ m rank total more rows times den shapes ranks totals others sum is lacks.
    let laws = c.numbers_are_one.ensures in
    choices_one m rank total more rows times den shapes ranks totals others laws.known laws.both laws.choices sum is lacks

pub returns-clause-faults : goal.returns-clause-faults
returns-clause-faults c = λ m rank total rows times den groups fault answer ranks totals told is has.
    let laws = c.numbers_are_one.ensures in
    let shares = c.charges_cover.ensures in
    faults_exclude m rank total rows times den groups (grounds laws.known laws.both laws.one laws.choices laws.work shares.one shares.agree) ranks totals fault answer told is has

pub returns-clause-told : goal.returns-clause-told
returns-clause-told c =
    let laws = c.numbers_are_one.ensures in
    let shares = c.charges_cover.ensures in
    faults_are_one (grounds laws.known laws.both laws.one laws.choices laws.work shares.one shares.agree)
