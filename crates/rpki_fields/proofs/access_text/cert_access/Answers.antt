use Rattle.std.proofs.Common.{map}
use Rattle.std.proofs.lemmas.Result.{IfOk-weaker}
use Rattle.rpki_cert.specs.AccessDescription.{description_of}
use Rattle.rpki_fields.proofs.access_text.cert_access.Goals as goal

pub returns : goal.returns
returns c =
    IfOk-weaker c.with_listing.result _ _ (λ s e. (
      c.in_ok-between.between,
      c.in_ok-between.ensures,
      (
        map description_of c.in_ok-all.all.items,
        rw (c.find-found.ensures, c.extensions.ensures) at c.in_ok-all.ensures,
        rw (
          c.find-found.ensures,
          c.extensions.ensures,
          c.subject_shown-shown.ensures,
          c.as_slice.ensures.value,
          c.as_slice-2.ensures.value,
        ) at e,
      ),
    )) c.with_listing.ensures
