use Rattle.std.proofs.Common.{rules}
use Rattle.rpki_valid.specs.Processed.{IsManifestCurrent}
use Rattle.rpki_valid.proofs.manifest.verify_current.Goals as goal

pub returns : goal.returns
returns c =
    let no : IsManifestCurrent c.args.at c.args.manifest.now.content → ⊥ = search rules in
    (no, c.unverified.ensures)
