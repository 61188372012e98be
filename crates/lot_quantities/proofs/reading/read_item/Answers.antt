use Rattle.std.proofs.Common.{arith, map, rules}
use Rattle.csv.specs.Records.{fields_of}
use Rattle.lot_quantities.specs.Faults.{IsCellFault}
use Rattle.lot_quantities.proofs.Cells.{read_item, read_next, stopped}
use Rattle.lot_quantities.proofs.reading.read_item.Goals as goal

pub returns-in_err-read_record-clause-refused : goal.returns-in_err-read_record-clause-refused
returns-in_err-read_record-clause-refused c =
    let why : IsCellFault c.args.instance.now (map fields_of c.args.rows.now) c.args.columns c.in_err-read_record.field-0.0 = stopped c.args.instance.now (map fields_of c.args.rows.now) c.args.columns c.loop-period.into c.args.item c.loop-period.period c.in_err-read_record.field-0.0 c.requires.low c.requires.high c.loop-period.auto.period (omega (arith, c.loop-period-test.true, c.periods-period-end.ensures.value)) c.loop-period.invariant.1 c.in_err-read_record.ensures.refused in
    search (rules, why)

pub loop-period-preserved : goal.loop-period-preserved
loop-period-preserved c = (c.in_ok-read_record.ensures.fits, read_next c.args.instance.now (map fields_of c.args.rows.now) c.args.columns c.loop-period.into c.read_record.new.into c.args.item c.loop-period.period c.loop-period.invariant.1 c.in_ok-read_record.ensures.read)

pub returns-clause-read : goal.returns-clause-read
returns-clause-read c = read_item c.args.instance.now (map fields_of c.args.rows.now) c.args.columns c.loop-period.into c.args.item c.loop-period.period c.loop-period.invariant.1 (omega (arith, c.loop-period-test.false, c.periods-period-end.ensures.value))
