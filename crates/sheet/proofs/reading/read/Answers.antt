use Rattle.std.proofs.Common.{rules}
use Rattle.sheet.specs.Spelled.{IsReading}
use Rattle.sheet.proofs.Agreeing.{same-answers}
use Rattle.sheet.proofs.reading.read.Goals as goal

pub returns : goal.returns
returns c =
    let reading : IsReading c.args.bytes.now c.map_err.result = search rules in
    record { reading = reading; only = λ other. same-answers c.args.bytes.now c.map_err.result other reading }
