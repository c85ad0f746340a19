use Rattle.std.specs.Option.{option_copied}
use Rattle.rpki_cert.specs.AccessInformation.{SpellsUriOf}
use Rattle.rpki_cert.specs.Cert.{find}
use Rattle.rpki_cert.proofs.KnownLaws.{kept-uri, tried-unless}
use Rattle.rpki_cert.proofs.extension.uris.rsync_at.Goals as goal

pub returns-in_err-found : goal.returns-in_err-found
returns-in_err-found c =
    let told = rw c.find_kept.ensures at c.information_in-told.ensures in
    tried-unless _ _ _ _ c.from_residual.ensures (c.in_err-found.ensures (find c.args.id.0.now c.args.all.now) told).0

pub returns : goal.returns
returns c =
    let told = rw c.find_kept.ensures at c.information_in-told.ensures in
    kept-uri (SpellsUriOf c.args.method) (find c.args.id.0.now c.args.all.now) (option_copied c.in_ok-found.found)
    c.keep_rsync.result (c.in_ok-found.ensures (find c.args.id.0.now c.args.all.now) told)
    c.keep_rsync.ensures.ok c.keep_rsync.ensures.err
