use Rattle.std.proofs.Common.{◌∙◌, sym}
use Rattle.std.proofs.lemmas.Bool.{iff_false}
use Rattle.std.proofs.lemmas.Slice.Eq.{bytes_eq-Decides}
use Rattle.rpki_cert.proofs.BelowLaws.{filled, goes-on}
use Rattle.rpki_cert.proofs.ProfileLaws.{is-empty}
use Rattle.rpki_cert.proofs.profile.uri_prefix.goes_on.Goals as goal

pub returns : goal.returns
returns c = λ z.
    let some = iff_false (is-empty _ _ c.is_empty.ensures) c.if-is_empty.false in
    goes-on c.args.base.now c.args.text.now (filled _ some) c.if-base-ne47.false c.if-text-base.false
    ((bytes_eq-Decides _ _).0 (sym c.eq.ensures ∙ z))
