use Rattle.std.proofs.Common.{length}
use Rattle.std.specs.Prelude.{IfSome}
use Rattle.rpkivalid.proofs.RefusedLaws.{IsRefusedUpTo}
use Rattle.rpkivalid.proofs.refused.refused_text.Given as goal

-- this text is what is said of the rejections in front of the rest
abbrev pub invariant-rejections : goal.invariant-rejections
invariant-rejections g l =
    IfSome (g.S.Sources.holds l.sources)
    (λ files. IsRefusedUpTo files l.folder l.strictness l.question l.name l.rejections l.rest l.text.items)

abbrev pub decreases-rejections : goal.decreases-rejections
decreases-rejections g l = length l.rest
