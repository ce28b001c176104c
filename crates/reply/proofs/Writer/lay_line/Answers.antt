use Rattle.std.proofs.Common.{[], ◌∷◌, arith, length-append}
use Rattle.wire.specs.Steps.{crlf}
use Rattle.reply.proofs.Writers.{lays_long, lays_more}
use Rattle.reply.proofs.Writer.lay_line.Goals as goal

pub lay-requires-2 : goal.lay-requires-2
lay-requires-2 c = omega (arith, c.lay.ensures.place, lays_long (c.args.mark ∷ []) c.args.self.now c.lay.new.self (omega arith) c.lay.ensures, length-append c.args.bytes.now crlf)

pub lay-requires-3 : goal.lay-requires-3
lay-requires-3 c =
    let a = c.args.self.now in
    let m = c.args.mark ∷ [] in
    let w = c.args.bytes.now in
    let n = length-append w crlf in
    let l = lays_more m w a c.lay.new.self c.lay-2.new.self (omega arith) c.lay.ensures c.lay-2.ensures in
    omega (arith, l.place, lays_long (c.args.mark ∷ w) a c.lay-2.new.self (omega arith) l)

pub returns : goal.returns
returns c =
    let a = c.args.self.now in
    let w = c.args.bytes.now in
    let n = length-append w crlf in
    let l = lays_more (c.args.mark ∷ []) w a c.lay.new.self c.lay-2.new.self (omega arith) c.lay.ensures c.lay-2.ensures in
    lays_more (c.args.mark ∷ w) crlf a c.lay-2.new.self c.lay-3.new.self (omega arith) l c.lay-3.ensures
