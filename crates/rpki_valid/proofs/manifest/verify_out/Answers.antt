use Rattle.std.proofs.Common.{rules}
use Rattle.rpki_valid.specs.Processed.{IsManifestOut}
use Rattle.rpki_valid.proofs.manifest.verify_out.Goals as goal

pub returns : goal.returns
returns c =
    let no : IsManifestOut c.args.at c.args.manifest.now.content → ⊥ = search rules in
    (no, c.unverified.ensures)
