use Rattle.std.proofs.Common.{inl, inr, length, refl, sym, ◌∙◌}
use Rattle.std.proofs.lemmas.Bool.{iff_false}
use Rattle.rpki_c.specs.AuthorityManifest.{IsHeldAs}
use Rattle.rpki_c.proofs.CertificateLaws.{listed}
use Rattle.rpki_c.proofs.ListingLaws.{named-list}
use Rattle.rpki_c.proofs.ManifestLaws.{not-named}
use Rattle.rpki_c.proofs.authority_manifest.manifest_below.Goals as goal

pub returns-then-rpki_content_type-ne2 : goal.returns-then-rpki_content_type-ne2
returns-then-rpki_content_type-ne2 c =
    let (x, at) = c.in-Ok.ensures.ok in
    let type = rw at.parts.content.content_type.octets at c.rpki_content_type.ensures in
    inr (x, at.spelled, inl (refl, λ is. c.if-rpki_content_type-ne2.true (type ∙ is)))

pub returns-in-Err-signed_below : goal.returns-in-Err-signed_below
returns-in-Err-signed_below c =
    let (x, at) = c.in-Ok.ensures.ok in
    let type = rw at.parts.content.content_type.octets at c.rpki_content_type.ensures in
    let wrong = c.in-Err-signed_below.ensures c.args.strict c.args.octets.now x at in
    inr (x, at.spelled, inr (sym type ∙ c.if-rpki_content_type-ne2.false, inl wrong))

pub returns-then-not-are_inherited : goal.returns-then-not-are_inherited
returns-then-not-are_inherited c =
    let (x, at) = c.in-Ok.ensures.ok in
    let type = rw at.parts.content.content_type.octets at c.rpki_content_type.ensures in
    let signed = c.in-Ok-signed_below.ensures c.args.strict c.args.octets.now x at in
    let said = c.are_inherited.ensures x.cert.tbs.extensions (listed at.parts.cert_parts) in
    inr (
      x,
      at.spelled,
      inr (
        sym type ∙ c.if-rpki_content_type-ne2.false,
        inr (c.in-Ok-signed_below.field-0, signed, inl (refl, iff_false said c.if-not-are_inherited.true)),
      ),
    )

pub names_file-requires : goal.names_file-requires
names_file-requires c =
    let h = c.in-Ok-manifest_held.ensures in
    rw h.list (named-list h.held.content.files h.held.list.file h.held.list.listed)

pub returns-in-Ok-names_file : goal.returns-in-Ok-names_file
returns-in-Ok-names_file c =
    let (x, at) = c.in-Ok.ensures.ok in
    let type = rw at.parts.content.content_type.octets at c.rpki_content_type.ensures in
    let said = c.are_inherited.ensures x.cert.tbs.extensions (listed at.parts.cert_parts) in
    let h : IsHeldAs c.args.by.now x.content.content c.in-Ok-manifest_held.held =
    rw at.parts.content.content.octets at c.in-Ok-manifest_held.ensures in (
      record {
        x = x;
        spelled = at.spelled;
        type = sym type ∙ c.if-rpki_content_type-ne2.false;
        known = c.in-Ok-signed_below.field-0;
        signed = c.in-Ok-signed_below.ensures c.args.strict c.args.octets.now x at;
        inherited = said.0 c.if-not-are_inherited.false;
        held = h.held;
        named = rw h.list at c.in-Ok-names_file.ensures _ x.cert at.parts.cert_parts;
      },
      h.files,
    )

pub returns-in-Err-names_file : goal.returns-in-Err-names_file
returns-in-Err-names_file c =
    let (x, at) = c.in-Ok.ensures.ok in
    let type = rw at.parts.content.content_type.octets at c.rpki_content_type.ensures in
    let signed = c.in-Ok-signed_below.ensures c.args.strict c.args.octets.now x at in
    let said = c.are_inherited.ensures x.cert.tbs.extensions (listed at.parts.cert_parts) in
    let h : IsHeldAs c.args.by.now x.content.content c.in-Ok-manifest_held.held =
    rw at.parts.content.content.octets at c.in-Ok-manifest_held.ensures in
    let wrong = rw h.list at c.in-Err-names_file.ensures _ x.cert at.parts.cert_parts in
    inr (
      x,
      at.spelled,
      inr (
        sym type ∙ c.if-rpki_content_type-ne2.false,
        not-named c.args.by.now (length c.args.room.now) x c.in-Ok-signed_below.field-0 _ signed
            (said.0 c.if-not-are_inherited.false) h.held c.in-Err-names_file.status wrong,
      ),
    )

pub returns-in-Err-manifest_held : goal.returns-in-Err-manifest_held
returns-in-Err-manifest_held c =
    let (x, at) = c.in-Ok.ensures.ok in
    let type = rw at.parts.content.content_type.octets at c.rpki_content_type.ensures in
    let signed = c.in-Ok-signed_below.ensures c.args.strict c.args.octets.now x at in
    let said = c.are_inherited.ensures x.cert.tbs.extensions (listed at.parts.cert_parts) in
    let wrong = rw at.parts.content.content.octets at c.in-Err-manifest_held.ensures in
    inr (
      x,
      at.spelled,
      inr (
        sym type ∙ c.if-rpki_content_type-ne2.false,
        inr (c.in-Ok-signed_below.field-0, signed, inr (said.0 c.if-not-are_inherited.false, inl wrong)),
      ),
    )
