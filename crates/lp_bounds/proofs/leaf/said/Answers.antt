use Rattle.lp_bounds.proofs.leaf.said.Goals as goal

pub returns-in-Err-Rejected : goal.returns-in-Err-Rejected
returns-in-Err-Rejected c =
    let why = c.in-Err-Rejected.field-0-0 in
    (why.line, why.why, rw c.in-Err-Rejected.field-0-is at c.in-Err-Rejected.ensures.fault)
