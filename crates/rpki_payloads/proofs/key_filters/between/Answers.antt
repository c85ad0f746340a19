use Rattle.std.proofs.Common.{rules}
use Rattle.std.specs.BTreeSet.{keys}
use Rattle.rpki_payloads.proofs.AskedLaws.{between-is}
use Rattle.rpki_payloads.proofs.key_filters.between.Goals as goal

pub returns : goal.returns
returns g c = λ exact.
    between-is g.T.Ord.cmp g.met.T.Ord.total c.args.from c.args.to _ _ (keys c.args.all.now) c.range.result
    c.new.ensures.start c.new.ensures.end (c.range.ensures.between (search rules))
