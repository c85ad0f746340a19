use Rattle.std.proofs.Common.{inl, refl}
use Rattle.rpki_c.proofs.PathLaws.{anchor-path}
use Rattle.rpki_c.proofs.authority_anchor.rpki_authority_anchor.Goals as goal

pub returns-in-Ok : goal.returns-in-Ok
returns-in-Ok c =
    inl (
      refl,
      c.in-Ok.ensures,
      anchor-path c.args.key.now c.args.moment.now c.args.octets.now _ c.in-Ok.ensures,
    )
