use Rattle.std.proofs.Common.{List, sym, subst}
use Rattle.std.proofs.lemmas.Result.{err_from_is_err_and}
use Rattle.rpki_der.specs.Cursor.{left}
use Rattle.rpki.specs.ExtensionValue.{ExtensionParts}
use Rattle.rpki_der.specs.Sharing.{CanShare}
use Rattle.rpki_der.specs.StandingLaws.{rest-stands}
use Rattle.rpki_der.proofs.CursorLaws.{at-end, not-at-end}
use Rattle.rpki_der.proofs.KeepLaws.{held-after}
use Rattle.rpkibasic.proofs.ReadingLaws.{HaveRead, one-more, all-extensions, extension-fault}
use Rattle.rpkibasic.proofs.extensions.extensions.Goals as goal

pub returns-in_err-extension : goal.returns-in_err-extension
returns-in_err-extension c =
    let p = err_from_is_err_and c.from_residual-in_err-extension.result c.from_residual-in_err-extension.ensures.1 in
    rw (p.1, p.2)
    (extension-fault c.args.input.items (left c.extensions.rest) _ c.extensions.all.items c.in_err-extension.field-0.0
    (not-at-end _ _ c.extensions-test.true c.is_empty.ensures) c.extensions.invariant.0 c.in_err-extension.ensures)

pub extensions-preserved : goal.extensions-preserved
extensions-preserved c = (
  subst (λ (xs : List ExtensionParts). HaveRead c.args.input.items xs (left c.take_from.new.cons))
      (sym c.in_ok-push.ensures.items)
      (one-more c.args.input.items (left c.extensions.rest) _ c.extensions.all.items c.in_ok-extension.extension
      (not-at-end _ _ c.extensions-test.true c.is_empty.ensures) c.extensions.invariant.0
      c.in_ok-extension.ensures),
  held-after CanShare (λ k front rest held. rest-stands front rest held) c.new-keep.result c.in_ok-extension.ensures
      c.extensions.invariant.1,
)

pub returns : goal.returns
returns c = all-extensions c.args.input.items (left c.extensions.rest) c.extensions.all.items
    (at-end _ _ c.extensions-test.false c.is_empty.ensures) c.extensions.invariant.0
