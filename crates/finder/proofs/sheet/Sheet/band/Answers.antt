use Rattle.std.proofs.Common.{sym, arith}
use Rattle.finder.proofs.Seen.{row-past}
use Rattle.finder.proofs.sheet.Sheet.band.Goals as goal

pub returns-else-channel-get : goal.returns-else-channel-get
returns-else-channel-get c =
    let e = c.get.ensures in
    sym (row-past c.args.self.now c.args.j c.args.channel c.requires (omega arith))
