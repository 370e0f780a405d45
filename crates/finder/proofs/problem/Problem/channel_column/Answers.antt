use Rattle.std.proofs.Common.{rules, arith}
use Rattle.finder.proofs.problem.Problem.channel_column.Goals as goal

pub returns : goal.returns
returns g c j l = let e = c.len.ensures.count in let p = c.of.ensures j (omega arith) in search rules
