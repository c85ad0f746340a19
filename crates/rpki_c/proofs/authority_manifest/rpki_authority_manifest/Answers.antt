use Rattle.std.proofs.Common.{inl, refl}
use Rattle.rpki_c.proofs.PathLaws.{manifest-path}
use Rattle.rpki_c.proofs.SignerPathLaws.{signer-path}
use Rattle.rpki_c.proofs.authority_manifest.rpki_authority_manifest.Goals as goal

pub returns-in-Ok : goal.returns-in-Ok
returns-in-Ok c =
    let (m, files) = c.in-Ok.ensures in
    let by = c.args.by.now in
    let s = c.args.octets.now in
    inl (
      refl,
      record {
        below = m;
        signer = signer-path c.args.strict by s m;
        files = files;
        same = refl;
        path = manifest-path c.args.strict by s c.in-Ok.files m;
      },
    )
