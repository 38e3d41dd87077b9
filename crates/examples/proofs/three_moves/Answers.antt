use Rattle.examples.proofs.Table.{worked-examples}
use Rattle.examples.proofs.three_moves.Goals as goal

pub returns-clause-table : goal.returns-clause-table
returns-clause-table c = worked-examples
