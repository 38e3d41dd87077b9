use Rattle.net.proofs.Gcds.{gcd-step}
use Rattle.net.proofs.plan.units.+gcd.Goals as goal

pub returns-else-b-eq0 : goal.returns-else-b-eq0
returns-else-b-eq0 t c = gcd-step c.args.a c.args.b c.gcd.result c.gcd.ensures
