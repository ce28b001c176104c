use Rattle.std.proofs.Common.{◌≡◌, [], length, get_or}
use Rattle.store.specs.Lists.{at}
use Rattle.flat.specs.Records.{value_of, lists_in}
use Rattle.flat.proofs.Tables.{element_there, element_value, told_there, told_value}
use Rattle.flat.proofs.table.Flat.element.Goals as goal

pub returns-clause-there : goal.returns-clause-there
returns-clause-there c =
    let s = c.args.self.now in
    let rs = c.in_use.result.now in
    told_there c.get.result c.position-place.result (length rs) c.args.index (length (at (lists_in s) c.args.key.now)) c.get.ensures.lookup.0
    (element_there s c.args.key.now c.args.index c.position-place.result rs c.in_use.ensures c.position-place.ensures.place)

pub returns-clause-some : goal.returns-clause-some
returns-clause-some c =
    let s = c.args.self.now in
    let k = c.args.key.now in
    let rs = c.in_use.result.now in
    let n = c.position-place.result in
    told_value (λ it. value_of it ≡ get_or (at (lists_in s) k) c.args.index []) rs n c.get.result c.get.ensures.lookup.0 c.get.ensures.lookup.1
    (element_value s k c.args.index n rs c.in_use.ensures c.position-place.ensures.place)
