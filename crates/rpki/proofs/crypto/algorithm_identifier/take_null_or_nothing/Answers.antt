use Rattle.std.proofs.Common.{false}
use Rattle.rpki_der.specs.Prelude.{left, null, SpellsLeaf, HasTag, IsLeafFault, IsNull, IsEndFault}
use Rattle.rpki_der.proofs.ReadingLaws.{UnlessMemory-weaker}
use Rattle.rpki_der.proofs.FirstFaultLaws.{tried-parts, at-optional, after-optional}
use Rattle.rpki.specs.Algorithm.{IsParameters}
use Rattle.rpki.specs.AlgorithmFault.{parameters}
use Rattle.rpki.proofs.AlgorithmLaws.{bad-parameters, parameters-read, parameters-not-read}
use Rattle.rpki.proofs.crypto.algorithm_identifier.take_null_or_nothing.Goals as goal

pub returns-in_err-found : goal.returns-in_err-found
returns-in_err-found c =
    let s = left c.args.contents.now in
    let e = c.in_err-found.field-0.0 in
    let h = c.in_err-found.ensures in
    tried-parts (λ b. b) IsParameters parameters.fault s _ e _ c.from_residual.ensures (
      UnlessMemory-weaker e (bad-parameters s h.0) h.1.refuses,
      at-optional (HasTag null) (SpellsLeaf null false IsNull) (IsLeafFault null false IsNull) IsEndFault s _ e h,
    )

pub returns : goal.returns
returns c =
    let s = left c.args.contents.now in
    let h = c.in_ok-found.ensures in (
      λ end. rw c.is_some.ensures (parameters-read s _ c.in_ok-found.found h end),
      λ some. (
        parameters-not-read s _ c.in_ok-found.found h some,
        after-optional (HasTag null) (λ v. tt) (SpellsLeaf null false IsNull) (IsLeafFault null false IsNull) s _
            c.in_ok-found.found h some,
      ),
    )
