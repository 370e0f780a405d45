use Rattle.std.proofs.Common.{arith}
use Rattle.sheet_text.proofs.Ordinary.{parsed_from}
use Rattle.sheet_text.proofs.RowsSaid.{parsed_reads}
use Rattle.sheet_text.proofs.parse.parse.Goals as goal

pub returns : goal.returns
returns c =
    let text = c.args.text.now in
    let p = parsed_from text c.new-2.result c.sheet.new.self.lexer c.sheet.result (omega arith) c.new-2.ensures c.sheet.ensures.read c.sheet.ensures.count in
    record { parsed = p; reads = parsed_reads text c.sheet.result p }
